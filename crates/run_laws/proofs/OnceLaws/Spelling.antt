-- Each order that is issued for events with good frames can be spelled.
use Rattle.std.proofs.Common.{◌≡◌, ap, ℕ, List, [], ◌∷◌, ◌++◌, length, get_or, zero, suc, refl, sym, subst, inl, inr, arith}
use Rattle.std.proofs.lemmas.Bool.{and_parts, leb-true}
use Rattle.of_types.specs.declared.message.Command.{Command}
use Rattle.of_types.specs.declared.message.Event.{Event}
use Rattle.of_types.specs.declared.message.Extension.TheVariants as extension
use Rattle.of_types.specs.declared.message.Happening.{Happening}
use Rattle.of_types.specs.declared.message.Happening.TheVariants as happening
use Rattle.of_types.specs.declared.message.Order.{Order}
use Rattle.of_types.specs.declared.message.Spoken.TheVariants as spoken
use Rattle.of_types.specs.declared.setup.Setup.{Setup}
use Rattle.of_types.specs.Setups.{IsSetup}
use Rattle.of_types.specs.Valid.{IsValid}
use Rattle.list_facts.proofs.Elements.{all_of, in_append, in_left, in_right}
use Rattle.list_facts.specs.Lists.{IsIn}
use Rattle.app_core.specs.Chain.{concat, chain_next, starting_chain, reactions_from, reactions}
use Rattle.app_core.specs.declared.issued.Issued.{Issued}
use Rattle.app_core.specs.Issued.{issue, issue_each, issue_all, issues, commands_of}
use Rattle.app_core.specs.Orders.{IsGoodCommand, IsSendable, IsShort}
use Rattle.app_core.proofs.Chains.{chain_lawful}
use Rattle.run_laws.specs.OnceLaws.Truths.{IsGoodHappening}

-- a good frame is short
short_of : (what : Happening) → IsGoodHappening what → IsShort what
short_of (happening.PacketIn p) good = (leb-true (length p.payload) 1514 (and_parts _ _ good.0).1, good.1)
short_of (happening.PortStatus p) good = tt
short_of (happening.FlowRemoved r) good = tt

module _ (kinds : List ℕ) (setup : Setup) (within : IsSetup setup) where
  chain_sendable : (states : List (List ℕ)) (e : Event) → IsGoodHappening e.what → (c : Command) → IsIn c (chain_next kinds setup states e).commands → IsSendable c.order
  chain_sendable states e good c h =
      (all_of (λ (y : Command). IsGoodCommand setup e y) (chain_next kinds setup states e).commands c (chain_lawful setup within kinds states e) h).sendable (short_of e.what good)

  reactions_sendable : (states : List (List ℕ)) (es : List Event) → ((e : Event) → IsIn e es → IsGoodHappening e.what) →
      (c : Command) → IsIn c (concat (reactions_from kinds setup states es)) → IsSendable c.order
  reactions_sendable states [] good c h = absurd h
  reactions_sendable states (e ∷ es) good c h =
      elim (in_append c (chain_next kinds setup states e).commands (concat (reactions_from kinds setup (chain_next kinds setup states e).states es)) h) [
        | inl m ↦ chain_sendable states e (good e (inl refl)) c m
        | inr m ↦ reactions_sendable (chain_next kinds setup states e).states es (λ x k. good x (inr k)) c m
      ]

-- each order that is issued is one of a command
each_issued : (past : List Event) (before : List Issued) (cs : List Command) (y : Issued) → IsIn y (issue_each past before cs) → (c : Command) × IsIn c cs × (y.order ≡ c.order)
each_issued past before [] y h = absurd h
each_issued past before (c ∷ cs) y (inl e) = (c, inl refl, ap (λ (z : Issued). z.order) e)
each_issued past before (c ∷ cs) y (inr h) = let r = each_issued past (before ++ issue past before c ∷ []) cs y h in (r.0, inr r.1, r.2)

all_issued : (past : List Event) (before : List Issued) (es : List Event) (lists : List (List Command)) (y : Issued) → IsIn y (concat (issue_all past before es lists)) → (c : Command) × IsIn c (concat lists) × (y.order ≡ c.order)
all_issued past before [] lists y h = absurd h
all_issued past before (e ∷ es) [] y h = absurd h
all_issued past before (e ∷ es) (commands ∷ lists) y h =
    let now = issue_each (past ++ e ∷ []) before commands in
    elim (in_append y now (concat (issue_all (past ++ e ∷ []) (before ++ now) es lists)) h) [
      | inl k ↦ let r = each_issued (past ++ e ∷ []) before commands y k in (r.0, in_left r.0 commands (concat lists) r.1, r.2)
      | inr k ↦ let r = all_issued (past ++ e ∷ []) (before ++ now) es lists y k in (r.0, in_right r.0 commands (concat lists) r.1, r.2)
    ]

one_of_all : {A : Type 0} (lists : List (List A)) (j : ℕ) (x : A) → IsIn x (get_or lists j []) → IsIn x (concat lists)
one_of_all [] j x h = absurd h
one_of_all (xs ∷ lists) zero x h = in_left x xs (concat lists) h
one_of_all (xs ∷ lists) (suc j) x h = in_right x xs (concat lists) (one_of_all lists j x h)

-- the commands for events with good frames can be spelled
pub commands_of_sendable : (kinds : List ℕ) (setup : Setup) → IsSetup setup → (es : List Event) → ((e : Event) → IsIn e es → IsGoodHappening e.what) → (j : ℕ) (y : Issued) → IsIn y (commands_of kinds setup es j) →
    IsSendable y.order
unfolding issues reactions
commands_of_sendable kinds setup within es good j y h =
    let r = all_issued [] [] es (reactions_from kinds setup (starting_chain kinds) es) y (one_of_all (issue_all [] [] es (reactions_from kinds setup (starting_chain kinds) es)) j y h) in
    subst (λ (o : Order). IsSendable o) (sym r.2) (reactions_sendable kinds setup within (starting_chain kinds) es good r.0 r.1)

pub command_valid : (what : Order) → IsSendable what → (life generation number settled : ℕ) → IsValid (spoken.Ravana (extension.Command life generation number settled what))
command_valid what r life generation number settled = (r.0, omega (arith, r.1))

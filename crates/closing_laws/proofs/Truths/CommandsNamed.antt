-- Of which switches commands are, and of which of their lives.
use Rattle.std.proofs.Common.{◌≡◌, ◌<◌, inl, inr, ℕ, zero, suc, List, [], ◌∷◌, ◌++◌, length, take, refl, sym, subst, arith, append_assoc}
use Rattle.std.specs.Prelude.{slice_index_or}
use Rattle.of_types.specs.declared.message.Command.{Command}
use Rattle.of_types.specs.declared.message.Event.{Event}
use Rattle.of_types.specs.declared.setup.Setup.{Setup}
use Rattle.of_types.specs.Lives.{life_in}
use Rattle.list_facts.specs.Lists.{IsIn}
use Rattle.app_core.specs.declared.issued.Issued.{Issued}
use Rattle.app_core.specs.Chain.{reactions, reactions_from, starting_chain}
use Rattle.app_core.specs.Issued.{commands_of, issue, issue_all, issue_each, issues}
use Rattle.controller_moves.proofs.ControllerLaws.Issued.{none_past}
use Rattle.closing_laws.specs.Serving.{AreFew}

-- a command as it is issued
pub record IsOneOf (events : List Event) (commands : List Command) (n : Issued) : Type 0 where
  pub command : Command
  pub among : IsIn command commands
  pub switch_is : n.switch ≡ command.switch
  pub life_is : n.life ≡ life_in n.switch events
  pub order_is : n.order ≡ command.order

each_is : (events : List Event) (before : List Issued) (cs : List Command) (n : Issued) → IsIn n (issue_each events before cs) → IsOneOf events cs n
each_is events before [] n h = absurd h
each_is events before (c ∷ cs) n (inl e) =
    subst (λ (y : Issued). IsOneOf events (c ∷ cs) y) (sym e) (record { command = c; among = inl refl; switch_is = refl; life_is = refl; order_is = refl })
each_is events before (c ∷ cs) n (inr h) =
    let r = each_is events (before ++ issue events before c ∷ []) cs n h in record { command = r.command; among = inr r.among; switch_is = r.switch_is; life_is = r.life_is; order_is = r.order_is }

pub all_is : (j : ℕ) (past : List Event) (before : List Issued) (es : List Event) (ls : List (List Command)) (n : Issued) → IsIn n (slice_index_or (issue_all past before es ls) j []) →
    IsOneOf (past ++ take (suc j) es) (slice_index_or ls j []) n
all_is j past before [] ls n h = absurd (subst (λ (l : List Issued). IsIn n l) (none_past [] j (omega arith)) h)
all_is j past before (e ∷ es) [] n h = absurd (subst (λ (l : List Issued). IsIn n l) (none_past [] j (omega arith)) h)
all_is zero past before (e ∷ es) (l ∷ ls) n h = each_is (past ++ e ∷ []) before l n h
all_is (suc j) past before (e ∷ es) (l ∷ ls) n h =
    let r = all_is j (past ++ e ∷ []) (before ++ issue_each (past ++ e ∷ []) before l) es ls n h in
    subst (λ (events : List Event). IsOneOf events (slice_index_or ls j []) n) (append_assoc past (e ∷ []) (take (suc j) es)) r

-- a command for an event of a list is of a switch of the setup, and of the life that the switch has with that event
pub record IsNamed (setup : Setup) (events : List Event) (j : ℕ) (n : Issued) : Type 0 where
  pub there : n.switch < length setup.ports
  pub life_is : n.life ≡ life_in n.switch (take (suc j) events)

pub command_named : (kinds : List ℕ) (setup : Setup) → AreFew kinds setup → (events : List Event) (j : ℕ) (n : Issued) → IsIn n (commands_of kinds setup events j) → IsNamed setup events j n
unfolding issues reactions
command_named kinds setup few events j n h =
    record { there = few.named events j n h; life_is = (all_is j [] [] events (reactions_from kinds setup (starting_chain kinds) events) n h).life_is }

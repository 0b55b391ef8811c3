-- The commands of chains of parts are lawful and few, since those of each rule are.
use Rattle.std.proofs.Common.{◌≡◌, ◌≤◌, ℕ, zero, suc, ◌+◌, List, [], ◌∷◌, ◌++◌, length, refl, ap, arith, length-append}
use Rattle.std.specs.Prelude.{nat_lt, not, slice_index_or}
use Rattle.std.specs.List.{AllByRecursion}
use Rattle.std.proofs.lemmas.Bool.{cond_both, ltb-true, not-false}
use Rattle.of_types.specs.declared.message.Command.{Command}
use Rattle.of_types.specs.declared.message.Event.{Event}
use Rattle.of_types.specs.declared.setup.Setup.{Setup}
use Rattle.of_types.specs.Setups.{IsSetup}
use Rattle.app_core.specs.declared.issued.Issued.{Issued}
use Rattle.app_core.specs.Chain.{ChainStep, chain_next, given_by, part_next, reactions, reactions_from, rule_of, starting_chain}
use Rattle.app_core.specs.Issued.{commands_of, issue, issue_all, issue_each, issues}
use Rattle.app_core.specs.Orders.{AreGoodCommands, IsGoodCommand}
use Rattle.app_core.specs.PartRule.{PartStep, passes_on, rule_step}
use Rattle.app_core.specs.Rules.{state_after}
use Rattle.app_core.proofs.All.{all_append}
use Rattle.app_core.proofs.Table.{laws_of}

-- each state is one that its part has reached, after some events
abbrev IsReached : Setup → ℕ → List ℕ → Type 0
IsReached setup kind state = (before : List Event) × (state ≡ state_after (rule_of kind) setup before)

abbrev AreReached : Setup → List ℕ → List (List ℕ) → Type 0
AreReached setup [] states = Unit {0}
AreReached setup (kind ∷ kinds) [] = ⊥
AreReached setup (kind ∷ kinds) (state ∷ states) = IsReached setup kind state × AreReached setup kinds states

module _ (setup : Setup) (is : IsSetup setup) where
  part_lawful : (kind : ℕ) (state : List ℕ) (event : Event) → AreGoodCommands setup event (part_next kind setup state event).commands
  unfolding part_next
  part_lawful kind state event =
      cond_both (not (nat_lt event.switch (length setup.ports))) (passes_on state) ((rule_of kind).next setup state event) (λ (y : PartStep). AreGoodCommands setup event y.commands) (λ _. tt)
      (λ known. (laws_of kind).lawful setup is state event (ltb-true event.switch (length setup.ports) (not-false (nat_lt event.switch (length setup.ports)) known)))

  pub chain_lawful : (kinds : List ℕ) (states : List (List ℕ)) (event : Event) → AreGoodCommands setup event (chain_next kinds setup states event).commands
  chain_lawful [] states event = tt
  chain_lawful (kind ∷ kinds) [] event = tt
  chain_lawful (kind ∷ kinds) (state ∷ states) event =
      let step = part_next kind setup state event in
      let own = part_lawful kind state event in
      let rest = chain_lawful kinds states event in
      cond_both step.stops (record { states = step.state ∷ states; commands = step.commands })
      (record { states = step.state ∷ (chain_next kinds setup states event).states; commands = step.commands ++ (chain_next kinds setup states event).commands })
      (λ (y : ChainStep). AreGoodCommands setup event y.commands) (λ _. own) (λ _. all_append (λ c. IsGoodCommand setup event c) step.commands (chain_next kinds setup states event).commands own rest)

  -- ---- how many

  part_few : (kind : ℕ) (before : List Event) (event : Event) → length (part_next kind setup (state_after (rule_of kind) setup before) event).commands ≤ (rule_of kind).most
  unfolding part_next
  part_few kind before event =
      let state = state_after (rule_of kind) setup before in
      cond_both (not (nat_lt event.switch (length setup.ports))) (passes_on state) ((rule_of kind).next setup state event) (λ (y : PartStep). length y.commands ≤ (rule_of kind).most) (λ _. omega arith)
      (λ known. (laws_of kind).few setup is before event (ltb-true event.switch (length setup.ports) (not-false (nat_lt event.switch (length setup.ports)) known)))

  part_reached : (kind : ℕ) (state : List ℕ) (event : Event) → IsReached setup kind state → IsReached setup kind (part_next kind setup state event).state
  unfolding part_next
  part_reached kind state event r = (event ∷ r.0, ap (λ (s : List ℕ). (rule_step (rule_of kind) setup s event).state) r.1)

  reached_few : (kind : ℕ) (state : List ℕ) (event : Event) → IsReached setup kind state → length (part_next kind setup state event).commands ≤ (rule_of kind).most
  reached_few kind state event r = rw r.1 (part_few kind r.0 event)

  chain_few : (kinds : List ℕ) (states : List (List ℕ)) (event : Event) → AreReached setup kinds states →
      (length (chain_next kinds setup states event).commands ≤ given_by kinds) × AreReached setup kinds (chain_next kinds setup states event).states
  chain_few [] states event reached = (omega arith, tt)
  chain_few (kind ∷ kinds) [] event reached = absurd reached
  chain_few (kind ∷ kinds) (state ∷ states) event reached =
      let step = part_next kind setup state event in
      let here = reached_few kind state event reached.0 in
      let next = part_reached kind state event reached.0 in
      let others = chain_few kinds states event reached.1 in
      cond_both step.stops (record { states = step.state ∷ states; commands = step.commands })
      (record { states = step.state ∷ (chain_next kinds setup states event).states; commands = step.commands ++ (chain_next kinds setup states event).commands })
      (λ (x : ChainStep). (length x.commands ≤ (rule_of kind).most + given_by kinds) × AreReached setup (kind ∷ kinds) x.states)
      (λ _. (omega (arith, here), (next, reached.1)))
      (λ _. (let rest = others.0 in omega (arith, here, rest, length-append step.commands (chain_next kinds setup states event).commands), (next, others.1)))

  abbrev AllFew : ℕ → List (List Command) → Type 0
  AllFew most lists = AllByRecursion (λ (l : List Command). length l ≤ most) lists

  reactions_few : (kinds : List ℕ) (states : List (List ℕ)) (events : List Event) → AreReached setup kinds states → AllFew (given_by kinds) (reactions_from kinds setup states events)
  reactions_few kinds states [] reached = tt
  reactions_few kinds states (e ∷ events) reached =
      let here = chain_few kinds states e reached in
      (here.0, reactions_few kinds (chain_next kinds setup states e).states events here.1)

  starts_reached : (kinds : List ℕ) → AreReached setup kinds (starting_chain kinds)
  starts_reached [] = tt
  starts_reached (kind ∷ kinds) = (([], refl), starts_reached kinds)

  each_long : (events : List Event) (before : List Issued) (commands : List Command) → length (issue_each events before commands) ≡ length commands
  each_long events before [] = refl
  each_long events before (c ∷ commands) = ap suc (each_long events (before ++ issue events before c ∷ []) commands)

  issued_few : (most : ℕ) (past : List Event) (before : List Issued) (events : List Event) (lists : List (List Command)) (j : ℕ) → AllFew most lists →
      length (slice_index_or (issue_all past before events lists) j []) ≤ most
  issued_few most past before [] lists j all = omega arith
  issued_few most past before (e ∷ events) [] j all = omega arith
  issued_few most past before (e ∷ events) (l ∷ lists) zero all = let same = each_long (past ++ e ∷ []) before l in let low = all.0 in omega (arith, same, low)
  issued_few most past before (e ∷ events) (l ∷ lists) (suc j) all =
      issued_few most (past ++ e ∷ []) (before ++ issue_each (past ++ e ∷ []) before l) events lists j all.1

  -- for an event few commands are issued
  pub commands_few : (kinds : List ℕ) (events : List Event) (j : ℕ) → length (commands_of kinds setup events j) ≤ given_by kinds
  unfolding issues reactions
  commands_few kinds events j = issued_few (given_by kinds) [] [] events (reactions kinds setup events) j (reactions_few kinds (starting_chain kinds) events (starts_reached kinds))

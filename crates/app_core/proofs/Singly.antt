-- What is issued are the commands of the one controller that never fails.
use Rattle.std.proofs.Common.{◌≡◌, ℕ, List, [], ◌∷◌, ◌++◌, map, refl, ◌∙◌, ap}
use Rattle.std.proofs.lemmas.List.{map-append}
use Rattle.of_types.specs.declared.message.Command.{Command}
use Rattle.of_types.specs.declared.message.Event.{Event}
use Rattle.of_types.specs.declared.setup.Setup.{Setup}
use Rattle.app_core.specs.declared.issued.Issued.{Issued}
use Rattle.app_core.specs.Chain.{concat, chain_next, reactions, reactions_from, starting_chain}
use Rattle.app_core.specs.Issued.{IssuedIsSingle, command_of, issue, issue_all, issue_each, issues}

each_is : (events : List Event) (before : List Issued) (commands : List Command) → map command_of (issue_each events before commands) ≡ commands
each_is events before [] = refl
each_is events before (c ∷ commands) = ap (λ l. c ∷ l) (each_is events (before ++ issue events before c ∷ []) commands)

all_are : (kinds : List ℕ) (setup : Setup) (states : List (List ℕ)) (past : List Event) (before : List Issued) (events : List Event) →
    map command_of (concat (issue_all past before events (reactions_from kinds setup states events))) ≡ concat (reactions_from kinds setup states events)
all_are kinds setup states past before [] = refl
all_are kinds setup states past before (event ∷ events) =
    let step = chain_next kinds setup states event in
    let now = issue_each (past ++ event ∷ []) before step.commands in
    let rest = issue_all (past ++ event ∷ []) (before ++ now) events (reactions_from kinds setup step.states events) in
    map-append command_of now (concat rest)
    ∙ ap (λ l. l ++ map command_of (concat rest)) (each_is (past ++ event ∷ []) before step.commands)
    ∙ ap (λ l. step.commands ++ l) (all_are kinds setup step.states (past ++ event ∷ []) (before ++ now) events)

pub single_law : IssuedIsSingle
unfolding issues reactions
single_law kinds setup events = all_are kinds setup (starting_chain kinds) [] [] events

-- What of the journal of a run counts for agreement: the turns, posts and refusals of controllers, each turn with what the
-- controller takes. What switches do, and what is lost, does not.
use Rattle.std.specs.Prelude.{ℕ, List, [], ◌∷◌, ◌++◌, Option, Some}
use Rattle.journal.specs.declared.journal.Actor.TheVariants as actor
use Rattle.journal.specs.declared.journal.JournalEntry.{JournalEntry}
use Rattle.journal.specs.declared.journal.JournalEntry.TheVariants.{Post, Draw, Local, Refused}
use Rattle.journal.specs.declared.journal.Packet.{Packet}
use Rattle.journal.specs.declared.journal.SaveResult.{SaveResult}
use Rattle.journal.specs.Part.{drawn}
use Rattle.agreement.specs.History.{abstract_letter}
use Rattle.agreement.specs.Journals as core
use Rattle.agreement.specs.Journals.{Input, Rules}
use Rattle.vr_log.specs.declared.entry.Entry.{Entry}
use Rattle.controller_moves.specs.MemberMoves.Projection.{message_of}
use Rattle.group_controller.specs.declared.messages.ControllerInput.{ControllerInput}
use Rattle.group_controller.specs.declared.messages.ControllerInput.TheVariants as controller_input
use Rattle.controller_moves.specs.Projection.{OwnInput, Happens, FromSwitch, Unread}
use Rattle.controller_moves.specs.Rules.{SavingController, rules}
use Rattle.run_spec.specs.States.{Scene, content, controller_hears}
use Rattle.run_spec.specs.Legal.{results_of}

-- what controller c takes, as the moves see it
abbrev pub taken_by : ℕ → ControllerInput → Input OwnInput Entry
taken_by c (controller_input.Local what) = core.Local (Happens what)
taken_by c (controller_input.Of switch xid said) = core.Local (FromSwitch switch xid said)
taken_by c (controller_input.Malformed from) = core.Local (Unread from)
taken_by c (controller_input.Vr from said) = core.Heard (abstract_letter from c (message_of said))

-- an entry, with the packet that it names
abbrev pub journal_entries_of : {B : Type 0} → Scene B → JournalEntry B → Option (Packet B) → List (core.Entry OwnInput Entry)
journal_entries_of scene (Post (actor.Controller c) first letters lost) found = core.Posts c ∷ []
journal_entries_of scene (Draw (actor.Controller c) id keep) (Some p) = core.Takes c (taken_by c (controller_hears p.from (content scene.sealing p))) ∷ []
journal_entries_of scene (Local (actor.Controller c) what) found = core.Takes c (core.Local (Happens what)) ∷ []
journal_entries_of scene (Refused (actor.Controller c)) found = core.Refused c ∷ []
journal_entries_of scene _ _ = []

-- a past, its newest entry first
abbrev pub past_of : {B : Type 0} → Scene B → List (JournalEntry B) → List (core.Entry OwnInput Entry)
past_of scene [] = []
past_of scene (e ∷ before) = journal_entries_of scene e (drawn e before) ++ past_of scene before

-- the rules of the controllers of a scene, with these results of their saves
abbrev pub rules_of : {B : Type 0} → Scene B → ℕ → List (List SaveResult) → Rules OwnInput SavingController Entry
rules_of scene most_failures results = rules scene.kinds scene.setup most_failures (λ c. results_of results c)

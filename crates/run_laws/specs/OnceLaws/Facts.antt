-- What a past has settled for ever.
use Rattle.std.specs.Prelude.{ℕ, nat_eq, List, filter, if◌then◌else◌}
use Rattle.of_types.specs.declared.message.Event.{Event}
use Rattle.of_types.specs.declared.message.Executed.{Executed}
use Rattle.journal.specs.declared.journal.Actor.TheVariants as actor
use Rattle.journal.specs.declared.journal.JournalEntry.{JournalEntry}
use Rattle.journal.specs.declared.journal.SaveResult.{SaveResult}
use Rattle.journal.specs.Part.{part}
use Rattle.vr_log.specs.declared.entry.Entry.{Entry}
use Rattle.of_switch.specs.State.{SwitchState}
use Rattle.run_spec.specs.States.{Scene, SwitchAt, switch_at}
use Rattle.run_spec.specs.Committed.{decided}
use Rattle.list_facts.specs.Lists.{IsPrefix}

-- the log that is decided, and of each switch the events that it made and the commands that it carried out, in all
-- its lives
pub record PastFacts : Type 0 where
  pub decided : List Entry
  pub events : ℕ → List Event
  pub executed : ℕ → List Executed

-- those of one life
abbrev pub events_of : ℕ → List Event → List Event
events_of life events = filter (λ e. nat_eq e.life life) events

abbrev pub executed_of : ℕ → List Executed → List Executed
executed_of life executed = filter (λ x. nat_eq x.life life) executed

-- what of a switch no later refusal takes back: its state before its newest entry, where that is an input
abbrev pub firm_switch : SwitchAt → SwitchState
firm_switch w = if w.fresh then w.before else w.now

-- the facts of a past
abbrev pub facts_of : {B : Type 0} → Scene B → List (List SaveResult) → List (JournalEntry B) → PastFacts
facts_of scene results entries =
    record {
      decided = decided scene results entries;
      events = λ s. (firm_switch (switch_at scene s (part (actor.Switch s) entries))).events;
      executed = λ s. (firm_switch (switch_at scene s (part (actor.Switch s) entries))).executed;
    }

-- facts of a later moment
pub record Later (f g : PastFacts) : Type 0 where
  pub decided : IsPrefix f.decided g.decided
  pub events : (s : ℕ) → IsPrefix (f.events s) (g.events s)
  pub executed : (s : ℕ) → IsPrefix (f.executed s) (g.executed s)

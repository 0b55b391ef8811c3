-- A step of a member: the state that it leaves, the promise that is to be saved, and the letters.
use Rattle.std.specs.Prelude.{◌≡◌, ℕ, Bool, nat_le, ◌&&◌, List, [], ◌∷◌, ◌++◌, length, take, map, min, max, Option, Some, None, if◌then◌else◌}
use Rattle.vr_log.specs.declared.entry.Entry.{Entry}
use Rattle.vr_log.specs.declared.message.VrLetter.{VrLetter}
use Rattle.vr_log.specs.declared.message.VrMessage.{VrMessage}
use Rattle.vr_log.specs.declared.message.VrMessage.TheVariants as message
use Rattle.vr_log.specs.declared.state.VrOut.{VrOut}
use Rattle.vr_log.specs.declared.state.VrState.{VrState}
use Rattle.vr_log.specs.Log.{is_log}
use Rattle.vr_log.specs.Members.{primary_of, others}
use Rattle.vr_log.specs.Same.{same_entries}

pub record VrStep : Type 0 where
  pub state : VrState
  pub promise : Option ℕ
  pub letters : List VrLetter

-- nothing changes, and nothing is saved or sent
abbrev pub quiet : VrState → VrStep
quiet s = record { state = s; promise = None; letters = [] }

-- the state is left, and letters are sent
abbrev pub sends : VrState → List VrLetter → VrStep
sends s letters = record { state = s; promise = None; letters = letters }

abbrev pub letter : VrMessage → ℕ → VrLetter
letter message to = record { to = to; message = message }

-- one letter
abbrev pub tells : VrState → ℕ → VrMessage → VrStep
tells s to message = sends s (letter message to ∷ [])

-- one message to each other member
abbrev pub to_others : VrState → VrMessage → List VrLetter
to_others s message = map (letter message) (others s)

-- the promise that is to be saved after two steps
abbrev pub later_of : Option ℕ → Option ℕ → Option ℕ
later_of first None = first
later_of first (Some view) = Some view

-- one step, and then another from the state that it left
abbrev pub then_step : VrStep → (VrState → VrStep) → VrStep
then_step first next =
    record {
      state = (next first.state).state;
      promise = later_of first.promise (next first.state).promise;
      letters = first.letters ++ (next first.state).letters;
    }

-- A step was done: its state is left, a promise of its own is to be saved, and its letters stand behind
-- those that were there.
pub record Did (step : VrStep) (state : VrState) (old new : VrOut) : Type 0 where
  pub state_is : state ≡ step.state
  pub promise_is : new.promise ≡ later_of old.promise step.promise
  pub letters_are : new.letters ≡ old.letters ++ step.letters

-- A message is dropped whole where its case would leave no log, a commit number above the log's length, or
-- another entry in a place that was committed here before.
abbrev pub is_sound : VrState → VrState → Bool
is_sound old new =
    is_log new.log && nat_le new.commit (length new.log) && same_entries (take old.commit old.log) (take old.commit new.log)

abbrev pub guarded : VrState → VrStep → VrStep
guarded s step = if is_sound s step.state then step else quiet s

-- entries stand behind the first ones of the log, and so much is committed
abbrev pub with_log : VrState → ℕ → List Entry → ℕ → VrState
with_log s first entries commit = record s { log = take first s.log ++ entries; commit = commit }

-- What follows an op of the log is asked for, from the primary of a view (Viewstamped Replication Revisited, 5.2).
abbrev pub asks : VrState → ℕ → ℕ → VrStep
asks s view op = tells s (primary_of s view) (message.GetState view op)

-- the log grew by one entry
abbrev pub appended : VrState → Entry → VrState
appended s entry = record s { log = s.log ++ entry ∷ [] }

-- A backup learns of a commit number, as far as its log goes, and acknowledges its log to the primary
-- (Viewstamped Replication Revisited, 4.1): k = max(k, min(k2, n')), and PREPAREOK(v, n').
abbrev pub acknowledges : VrState → ℕ → VrStep
acknowledges s commit =
    tells (record s { commit = max s.commit (min commit (length s.log)) }) (primary_of s s.view) (message.PrepareOk s.view (length s.log))

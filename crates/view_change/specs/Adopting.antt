-- How a member takes the log of a view that has started (Viewstamped Replication Revisited, 4.2, 4.3 and 5.2).
use Rattle.std.specs.Prelude.{ℕ, nat_lt, List, [], ◌∷◌, ◌++◌, length, take, max, Some, None, if◌then◌else◌}
use Rattle.vr_log.specs.declared.entry.Entry.{Entry}
use Rattle.vr_log.specs.declared.message.VrLetter.{VrLetter}
use Rattle.vr_log.specs.declared.message.VrMessage.TheVariants as message
use Rattle.vr_log.specs.declared.state.Status.TheVariants.{Normal}
use Rattle.vr_log.specs.declared.state.VrState.{VrState}
use Rattle.vr_log.specs.Members.{primary_of}
use Rattle.vr_log.specs.Steps.{VrStep, asks, letter}

-- the log is the member's own first entries, and those that came behind them
abbrev pub adopted_log : VrState → ℕ → ℕ → ℕ → List Entry → VrState
adopted_log s view first commit log =
    record s {
      promise = max s.promise view;
      view = view;
      normal = view;
      status = Normal;
      log = take first s.log ++ log;
      commit = max s.commit commit;
      supply = None;
    }

-- what goes beyond the commit number is acknowledged
abbrev pub adopt_letters : VrState → ℕ → List VrLetter
adopt_letters s commit =
    if nat_lt commit (length s.log) then letter (message.PrepareOk s.view (length s.log)) (primary_of s s.view) ∷ [] else []

abbrev pub adopts : VrState → ℕ → ℕ → ℕ → List Entry → VrStep
adopts s view first commit log =
    record {
      state = adopted_log s view first commit log;
      promise = if nat_lt s.promise view then Some view else None;
      letters = adopt_letters (adopted_log s view first commit log) commit;
    }

-- entries that begin behind what is committed here leave a gap, and are asked for from there on
abbrev pub adopt : VrState → ℕ → ℕ → ℕ → List Entry → VrStep
adopt s view first commit log =
    if nat_lt s.commit first then asks s view s.commit else adopts s view first commit log

-- The log with which a primary starts a view: so many of its own first entries, and those behind them.
use Rattle.std.specs.Prelude.{◌≡◌, ◌≤◌, ℕ, nat_eq, List, ◌++◌, length, take, if◌then◌else◌}
use Rattle.vr_log.specs.declared.entry.Entry.{Entry}
use Rattle.vr_log.specs.declared.state.Collected.{Collected}
use Rattle.vr_log.specs.declared.state.VrState.{VrState}
use Rattle.vr_log.specs.Members.{most_failures}
use Rattle.vr_log.specs.Steps.{with_log}
use Rattle.vr_log.specs.Choosing.{best_of, least_commit, greatest_commit, front}
use Rattle.view_change.specs.declared.starting.Start.{Start}

-- the log is taken, with the greatest commit number; in a group of one all of it is committed
abbrev pub chosen_vote : VrState → ℕ → List Entry → ℕ → VrState
chosen_vote s first entries most =
    with_log s first entries (if nat_eq (most_failures s) 0 then length (take first s.log ++ entries) else most)

pub record IsViewStart (s : VrState) (c : Collected) (collected : List Collected) (start : Start) : Type 0 where
  pub first : start.first ≤ s.commit
  pub log : take start.first s.log ++ start.entries ≡ take (best_of c collected).commit (front s) ++ (best_of c collected).log
  pub least : start.least ≡ least_commit c.commit collected
  pub most : start.most ≡ greatest_commit c.commit collected

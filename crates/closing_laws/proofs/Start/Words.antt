-- What the members of a quorum say while a view changes.
use Rattle.std.specs.Prelude.{◌≡◌, ◌≤◌, ℕ, ◌+◌, true, false, nat_eq, List, [], ◌∷◌, ◌++◌, length, map, take, drop}
use Rattle.vr_log.specs.declared.message.VrMessage.TheVariants as message
use Rattle.vr_log.specs.declared.state.VrState.{VrState}
use Rattle.vr_log.specs.Choosing.{is_better}
use Rattle.vr_log.specs.Members.{others_below}
use Rattle.closing_laws.specs.Quorum.{has}
use Rattle.closing_laws.specs.Draining.{Flight}
use Rattle.closing_laws.specs.Views.{log_of}

-- a vote on its way, and a log
abbrev pub call : ℕ → ℕ → ℕ → Flight
call view from to = record { from = from; to = to; message = message.StartViewChange view }

abbrev pub log_sent : (ℕ → VrState) → ℕ → ℕ → ℕ → Flight
log_sent start view primary from =
    record { from = from; to = primary; message = message.DoViewChange view (start from).normal (start from).commit (drop (start from).commit (start from).log) }

-- what members that suspect say, in this order
abbrev pub all_calls : ℕ → ℕ → List ℕ → List Flight
all_calls n view [] = []
all_calls n view (c ∷ cs) = map (call view c) (others_below c n) ++ all_calls n view cs

-- how many packets so many members send
abbrev pub all_packets : ℕ → List ℕ → ℕ
all_packets n [] = 0
all_packets n (c ∷ cs) = length (others_below c n) + all_packets n cs

-- so many, for each of these
abbrev pub times : ℕ → List ℕ → ℕ
times each [] = 0
times each (c ∷ cs) = each + times each cs

-- one member has the best log of a quorum, and what each knows as committed begins it
pub record IsChosen (quorum : List ℕ) (start : ℕ → VrState) (best : ℕ) : Type 0 where
  pub member : has quorum best ≡ true
  pub better : (j : ℕ) → has quorum j ≡ true → nat_eq j best ≡ false → is_better (log_of start best) (log_of start j) ≡ true
  pub agrees : (j : ℕ) → has quorum j ≡ true → take (start j).commit (start j).log ≡ take (start j).commit (start best).log
  pub covers : (j : ℕ) → has quorum j ≡ true → (start j).commit ≤ length (start best).log

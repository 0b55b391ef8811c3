-- A turn: the moves of one controller for one input. What it shows as committed is certified before any of its letters
-- has left, so that it may be taken back.
use Rattle.std.specs.Prelude.{◌≡◌, ℕ, ◌<◌, ◌≤◌, ◌⊎◌, true, List, [], length}
use Rattle.list_facts.specs.Lists.{IsPrefix}
use Rattle.agreement.specs.History.{Group, size, State, History}
use Rattle.agreement.specs.Quorums.{has_accepted, IsCertified}
use Rattle.agreement.specs.Invariant.{is_up_status, IsGroup}
use Rattle.agreement.specs.Moves.{Move}
use Rattle.agreement.specs.Laws.{IsStart, Run, committed_log}

-- in both histories the same places are accepted, and the views have the same logs
pub record AcceptsAlike {E : Type 0} (g : Group E) (h h' : History E) : Type 0 where
  pub accept : (v m j : ℕ) → has_accepted g h' v m j ≡ has_accepted g h v m j
  pub logs : (v : ℕ) → h'.logs v ≡ h.logs v

-- the commit number stays, and the log goes on from the one before
pub record KeepsCommitted {E : Type 0} (s s' : State E) : Type 0 where
  pub status : s'.status ≡ s.status
  pub commit : is_up_status s.status ≡ true → s'.commit ≡ s.commit
  pub longer : is_up_status s.status ≡ true → IsPrefix s.log s'.log

-- first moves of a turn: nobody has accepted more after them
pub data FirstMoves {E : Type 0} (g : Group E) (c : ℕ) (h : History E) : History E → Type 0 where
  first_none : FirstMoves g c h h
  first_then : {h1 h2 : History E} → FirstMoves g c h h1 → Move g h1 h2 c → AcceptsAlike g h1 h2 → FirstMoves g c h h2

-- last moves of a turn: acknowledgements, proposals and letters, which leave what is committed
pub data LastMoves {E : Type 0} (g : Group E) (c : ℕ) (h : History E) : History E → Type 0 where
  last_none : LastMoves g c h h
  last_then : {h1 h2 : History E} → LastMoves g c h h1 → Move g h1 h2 c → KeepsCommitted (h1.state c) (h2.state c) → LastMoves g c h h2

-- the start of a view: what it commits was certified before
pub record StartsView {E : Type 0} (g : Group E) (h h' : History E) (c : ℕ) : Type 0 where
  pub certified : IsCertified g h (committed_log (h'.state c))
  pub within : (h'.state c).commit ≤ length (h'.state c).log

-- a turn: first moves, perhaps the start of a view, and last moves
pub data Turn {E : Type 0} (g : Group E) (c : ℕ) (h h' : History E) : Type 0 where
  plainly : (h1 : History E) → FirstMoves g c h h1 → LastMoves g c h1 h' → Turn g c h h'
  starting : (h1 h2 : History E) → FirstMoves g c h h1 → Move g h1 h2 c → StartsView g h1 h2 c → LastMoves g c h2 h' → Turn g c h h'

-- c shows a log as committed: nothing, or that of its state, or that of a turn which is not over and may be taken back
pub data Shown {E : Type 0} (g : Group E) (h : History E) (c : ℕ) : List E → Type 0 where
  nothing_shown : Shown g h c []
  shown_now : is_up_status (h.state c).status ≡ true → Shown g h c (committed_log (h.state c))
  shown_open : (h' : History E) → Turn g c h h' → is_up_status (h'.state c).status ≡ true → Shown g h c (committed_log (h'.state c))

-- whatever two controllers show, at any two times, one of the two logs begins the other
abbrev pub ShownLogsAgree : Type 0 → Type 0
ShownLogsAgree E = (g : Group E) (h0 h1 h2 : History E) (c d : ℕ) (xs ys : List E)
    → IsGroup g → IsStart h0 → Run g h0 h1 → Run g h1 h2 → c < size g → d < size g
    → Shown g h1 c xs → Shown g h2 d ys → IsPrefix xs ys ⊎ IsPrefix ys xs

-- What controllers have accepted, and which logs are safe for that. Each speaks of one history.
use Rattle.std.specs.Prelude.{◌≡◌, ℕ, ◌<◌, ◌≤◌, ◌⊎◌, Bool, true, false, not, ◌&&◌, ◌||◌, nat_eq, nat_lt, nat_le, List, [], ◌∷◌, length, take, if◌then◌else◌}
use Rattle.agreement.specs.Lists.{IsAtMost, count_below}
use Rattle.list_facts.specs.Lists.{IsPrefix}
use Rattle.agreement.specs.History.{Group, size, primary_in, Message, PrepareOk, Letter, History}

-- the message is PREPAREOK of view v, for place m or a later one
abbrev pub is_prepare_ok : {E : Type 0} → Message E → ℕ → ℕ → Bool
is_prepare_ok (PrepareOk view op) v m = nat_eq view v && nat_le m op
is_prepare_ok _ v m = false

-- c has posted such a message
unfoldable pub has_acknowledged : {E : Type 0} → List (Letter E) → ℕ → ℕ → ℕ → Bool
has_acknowledged [] c v m = false
has_acknowledged (l ∷ sent) c v m = (nat_eq l.sender c && is_prepare_ok l.message v m) || has_acknowledged sent c v m

-- c has accepted place m of view v, in any of its lives: as the view's primary by its log, else by a PREPAREOK
unfoldable pub has_accepted : {E : Type 0} → Group E → History E → ℕ → ℕ → ℕ → Bool
has_accepted g h v m c = if nat_eq c (primary_in g v) then nat_le m (length (h.logs v)) else has_acknowledged h.sent c v m

-- c has not accepted place m of view v, and never will: it has promised a later view
unfoldable pub blocks : {E : Type 0} → Group E → History E → ℕ → ℕ → ℕ → Bool
blocks g h v m c = nat_lt v (h.promise c) && not (has_accepted g h v m c)

-- f + 1 controllers have accepted place m of view v
pub record HasQuorum {E : Type 0} (g : Group E) (h : History E) (v m : ℕ) : Type 0 where
  pub many : g.most_failures < count_below (has_accepted g h v m) (size g)

-- f + 1 controllers block place m of view v, so that it will never have a quorum
pub record IsBlocked {E : Type 0} (g : Group E) (h : History E) (v m : ℕ) : Type 0 where
  pub many : g.most_failures < count_below (blocks g h v m) (size g)

-- view v has m entries, and these begin the log
pub record HasFirst {E : Type 0} (h : History E) (v m : ℕ) (log : List E) : Type 0 where
  pub within : m ≤ length (h.logs v)
  pub front : IsPrefix (take m (h.logs v)) log

-- View w may have this log: it begins with each entry of an earlier view that has a quorum, or that may still get one.
pub record IsSafe {E : Type 0} (g : Group E) (h : History E) (w : ℕ) (log : List E) : Type 0 where
  pub at : (v m : ℕ) → v < w → 1 ≤ m → HasFirst h v m log ⊎ IsBlocked g h v m

-- k entries are committed by view w: one of that view or an earlier one had a quorum at place k or behind it
pub data IsCommitted {E : Type 0} (g : Group E) (h : History E) (w k : ℕ) : Type 0 where
  nothing : k ≡ 0 → IsCommitted g h w k
  backed : (v m : ℕ) → v ≤ w → k ≤ m → HasQuorum g h v m → IsCommitted g h w k

-- a log of view w, as anybody may have it, of which k entries are committed
pub record IsLogOf {E : Type 0} (g : Group E) (h : History E) (w : ℕ) (log : List E) (k : ℕ) : Type 0 where
  pub front : IsPrefix log (h.logs w)
  pub within : k ≤ length log
  pub safe : IsSafe g h w log
  pub committed : IsCommitted g h w k

-- What c may say with its vote for view w: it has promised w, its log is one of an earlier view u with k entries
-- committed, and whatever it has accepted below w stands at most at the end of that log.
pub record IsVote {E : Type 0} (g : Group E) (h : History E) (c w u k : ℕ) (log : List E) : Type 0 where
  pub promised : w ≤ h.promise c
  pub earlier : u < w
  pub of_view : IsLogOf g h u log k
  pub covers : (v m : ℕ) → v < w → 1 ≤ m → has_accepted g h v m c ≡ true → IsAtMost v m u (length log)

-- A log is certified: it begins the log of a view that had a quorum at the log's end or behind it. No later
-- history takes this back.
pub data IsCertified {E : Type 0} (g : Group E) (h : History E) (log : List E) : Type 0 where
  empty : log ≡ [] → IsCertified g h log
  shown : (v m : ℕ) → length log ≤ m → m ≤ length (h.logs v) → IsPrefix log (h.logs v) → HasQuorum g h v m → IsCertified g h log

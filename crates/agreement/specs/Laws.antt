-- What is claimed of all histories. docs/AGREEMENT.md tells how the claims follow from each other.
use Rattle.std.specs.Prelude.{◌≡◌, ℕ, ◌<◌, ◌≤◌, ◌⊎◌, true, nat_le, List, [], ◌++◌, length, take}
use Rattle.agreement.specs.Lists.{count_below}
use Rattle.list_facts.specs.Lists.{IsIn, IsPrefix}
use Rattle.agreement.specs.History.{Group, size, primary_in, Normal, Vote, State, History}
use Rattle.agreement.specs.Quorums.{IsSafe, IsCertified}
use Rattle.agreement.specs.Invariant.{is_up_status, IsBallot, IsGoodVote, IsGoodNews, Invariant, IsGroup}
use Rattle.agreement.specs.Moves.{IsBest, Move}

-- the best of f + 1 good votes for a view stands for a log that is safe for the view
abbrev pub VotesMakeASafeLog : Type 0 → Type 0
VotesMakeASafeLog E = (g : Group E) (h : History E) (w : ℕ) (votes : List (Vote E)) (best : Vote E) (ballot : IsBallot g h w votes)
    → g.most_failures < length votes → (at : IsIn best votes) → IsBest votes best → IsSafe g h w (ballot.each best at).whole

-- of two certified logs one begins the other
abbrev pub CertifiedLogsAgree : Type 0 → Type 0
CertifiedLogsAgree E = (g : Group E) (h : History E) (xs ys : List E) → Invariant g h → IsCertified g h xs → IsCertified g h ys
    → IsPrefix xs ys ⊎ IsPrefix ys xs

-- a certified front that reaches to where a good vote begins, and what that vote sends, are the vote's whole log
abbrev pub FrontsComplete : Type 0 → Type 0
FrontsComplete E = (g : Group E) (h : History E) (c w u k : ℕ) (front rest : List E)
    → Invariant g h → IsCertified g h front → k ≤ length front
    → (vote : IsGoodVote g h c w u k rest) → take k front ++ rest ≡ vote.whole

-- what a controller has committed, and what a later view's log has behind that, are the whole log of that view
abbrev pub SuffixesComplete : Type 0 → Type 0
SuffixesComplete E = (g : Group E) (h : History E) (c w m k : ℕ) (rest : List E)
    → Invariant g h → c < size g → is_up_status (h.state c).status ≡ true → (h.state c).normal < w → m ≤ (h.state c).commit
    → (news : IsGoodNews g h w m k rest) → take m (h.state c).log ++ rest ≡ news.log

-- each move keeps the invariant, and what was certified
abbrev pub MovesKeepTheInvariant : Type 0 → Type 0
MovesKeepTheInvariant E = (g : Group E) (h h' : History E) (c : ℕ) → IsGroup g → Invariant g h → c < size g → Move g h h' c
    → Invariant g h' × ((xs : List E) → IsCertified g h xs → IsCertified g h' xs)

-- nobody has done anything
pub record IsStart {E : Type 0} (h : History E) : Type 0 where
  pub status : (c : ℕ) → (h.state c).status ≡ Normal
  pub view : (c : ℕ) → (h.state c).view ≡ 0
  pub normal : (c : ℕ) → (h.state c).normal ≡ 0
  pub log : (c : ℕ) → (h.state c).log ≡ []
  pub commit : (c : ℕ) → (h.state c).commit ≡ 0
  pub acked : (c i : ℕ) → (h.state c).acked i ≡ 0
  pub promise : (c : ℕ) → h.promise c ≡ 0
  pub sent : h.sent ≡ []
  pub logs : (v : ℕ) → h.logs v ≡ []

-- moves of the group's controllers, one after another
pub data Run {E : Type 0} (g : Group E) (h : History E) : History E → Type 0 where
  still : Run g h h
  then : {h1 h2 : History E} (c : ℕ) → c < size g → Run g h h1 → Move g h1 h2 c → Run g h h2

-- what a state has committed
abbrev pub committed_log : {E : Type 0} → State E → List E
committed_log s = take s.commit s.log

-- whatever two controllers have committed, at any two times, one of the two logs begins the other
abbrev pub CommittedLogsAgree : Type 0 → Type 0
CommittedLogsAgree E = (g : Group E) (h0 h1 h2 : History E) (c d : ℕ)
    → IsGroup g → IsStart h0 → Run g h0 h1 → Run g h1 h2 → c < size g → d < size g
    → is_up_status (h1.state c).status ≡ true → is_up_status (h2.state d).status ≡ true
    → IsPrefix (committed_log (h1.state c)) (committed_log (h2.state d)) ⊎ IsPrefix (committed_log (h2.state d)) (committed_log (h1.state c))

-- a state has a log that reaches to its commit number, and begins with what was committed before
pub record StateIsSound {E : Type 0} (g : Group E) (before after : State E) : Type 0 where
  pub valid : g.is_log after.log ≡ true
  pub within : after.commit ≤ length after.log
  pub kept : is_up_status before.status ≡ true → IsPrefix (committed_log before) after.log

-- no move gives a controller what is no log, too great a commit number, or another entry in a committed place
abbrev pub NothingIsDropped : Type 0 → Type 0
NothingIsDropped E = (g : Group E) (h h' : History E) (c : ℕ) → IsGroup g → Invariant g h → c < size g → Move g h h' c
    → is_up_status (h'.state c).status ≡ true → StateIsSound g (h.state c) (h'.state c)

-- f + 1 controllers have promised view w or a later one
abbrev pub MostPromiseFrom : {E : Type 0} → Group E → History E → ℕ → Type 0
MostPromiseFrom g h w = g.most_failures < count_below (λ j. nat_le w (h.promise j)) (size g)

-- f + 1 controllers have promised the view of each normal primary of a view above 0, or a later one
abbrev pub IsBacked : {E : Type 0} → Group E → History E → Type 0
IsBacked g h = (c : ℕ) → c < size g → (h.state c).status ≡ Normal → c ≡ primary_in g (h.state c).view → 1 ≤ (h.state c).view
    → MostPromiseFrom g h (h.state c).view

abbrev pub PrimariesAreBacked : Type 0 → Type 0
PrimariesAreBacked E = (g : Group E) (h0 h : History E) → IsGroup g → IsStart h0 → Run g h0 h → IsBacked g h

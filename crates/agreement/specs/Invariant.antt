-- The invariant of histories. docs/AGREEMENT.md tells each clause, and why it is there.
use Rattle.std.specs.Prelude.{◌≡◌, ◌≢◌, ℕ, ◌+◌, ◌<◌, ◌≤◌, ◌⊎◌, Bool, true, false, Some, List, [], ◌∷◌, ◌++◌, length, drop, map, ⊤}
use Rattle.agreement.specs.Lists.{IsAtMost, AreDistinct}
use Rattle.list_facts.specs.Lists.{IsIn, IsPrefix}
use Rattle.agreement.specs.History.{Group, size, primary_in, Status, Normal, ViewChange, Recovering, Down, Vote, Supplied, Answer, Filled, Bare, Message, Prepare, PrepareOk, Commit, StartViewChange, DoViewChange, StartView, GetState, NewState, Fetch, Supply, Recovery, RecoveryResponse, Letter, abstract_letter, Response, State, History}
use Rattle.agreement.specs.Quorums.{has_accepted, IsSafe, IsCommitted, IsLogOf, IsVote, IsCertified}

-- it takes part: it is neither recovering nor down
abbrev pub is_up_status : Status → Bool
is_up_status Normal = true
is_up_status ViewChange = true
is_up_status Recovering = false
is_up_status Down = false

-- a vote of c for view w: of some log that c may vote with, the entries behind its commit number
pub record IsGoodVote {E : Type 0} (g : Group E) (h : History E) (c w u k : ℕ) (rest : List E) : Type 0 where
  pub whole : List E
  pub vote : IsVote g h c w u k whole
  pub rest_is : rest ≡ drop k whole

-- what is supplied: of some certified log, the entries behind the first m
pub record IsGoodSupply {E : Type 0} (g : Group E) (h : History E) (m : ℕ) (rest : List E) : Type 0 where
  pub log : List E
  pub certified : IsCertified g h log
  pub within : m ≤ length log
  pub rest_is : rest ≡ drop m log

-- the votes that a primary of view w has collected: of different controllers, each a good one
pub record IsBallot {E : Type 0} (g : Group E) (h : History E) (w : ℕ) (votes : List (Vote E)) : Type 0 where
  pub distinct : AreDistinct (map (λ v. v.from) votes)
  pub named : (v : Vote E) → IsIn v votes → v.from < size g
  pub each : (v : Vote E) → IsIn v votes → IsGoodVote g h v.from w v.normal v.commit v.rest

-- the state s of controller c
pub record IsGoodState {E : Type 0} (g : Group E) (h : History E) (c : ℕ) (s : State E) : Type 0 where
  -- its view is the one that it has promised; while that changes it was last normal in an earlier one
  pub normal : s.status ≡ Normal → (s.normal ≡ s.view) × (s.view ≡ h.promise c)
  pub changing : s.status ≡ ViewChange → (s.normal < s.view) × (s.view ≡ h.promise c)
  -- one that recovers knows nothing
  pub blank : s.status ≡ Recovering → (s.log ≡ []) × (s.commit ≡ 0)
  -- it has accepted nothing above its promise, and nothing that the view does not have
  pub promised : (v m : ℕ) → 1 ≤ m → has_accepted g h v m c ≡ true → v ≤ h.promise c
  pub held : (v m : ℕ) → 1 ≤ m → has_accepted g h v m c ≡ true → m ≤ length (h.logs v)
  -- while it is up, its log covers all that it has accepted, and is a log of the view in which it was last normal
  pub covers : is_up_status s.status ≡ true → (v m : ℕ) → 1 ≤ m → has_accepted g h v m c ≡ true → IsAtMost v m s.normal (length s.log)
  pub of_view : is_up_status s.status ≡ true → IsLogOf g h s.normal s.log s.commit
  -- a primary counts what others have accepted
  pub counted : s.status ≡ Normal → c ≡ primary_in g s.view
      → (i m : ℕ) → i ≢ c → 1 ≤ m → m ≤ s.acked i → has_accepted g h s.view m i ≡ true
  -- while a view changes, its primary has collected good votes, and was supplied with what is certified
  pub ballot : s.status ≡ ViewChange → c ≡ primary_in g s.view → IsBallot g h s.view s.collected
  pub supplied : s.status ≡ ViewChange → (x : Supplied E) → s.supply ≡ Some x → (x.first ≤ s.commit) × IsGoodSupply g h x.first x.rest
  -- one that recovers keeps responses that others posted to this life of it
  pub heard : s.status ≡ Recovering → (r : Response E) → IsIn r s.responses
      → (r.from ≢ c) × IsIn (abstract_letter r.from c (RecoveryResponse r.view (h.life c) r.answer)) h.sent

-- A filled response of i to life x of c: from the primary of its view v, a log of that view. While c recovers in that
-- life, the log has each place of the view that c has accepted.
pub record IsGoodAnswer {E : Type 0} (g : Group E) (h : History E) (i c v x k : ℕ) (log : List E) : Type 0 where
  pub by_primary : i ≡ primary_in g v
  pub of_view : IsLogOf g h v log k
  pub fresh : (h.state c).status ≡ Recovering → h.life c ≡ x → (m : ℕ) → 1 ≤ m → has_accepted g h v m c ≡ true → m ≤ length log

-- a response goes to no life to come
abbrev pub IsGoodResponse : {E : Type 0} → Group E → History E → ℕ → ℕ → ℕ → ℕ → Answer E → Type 0
IsGoodResponse g h i c v x (Filled k log) = (x ≤ h.life c) × IsGoodAnswer g h i c v x k log
IsGoodResponse g h i c v x Bare = x ≤ h.life c

-- the entry e that is prepared stands in view v at its place, and k entries are committed
pub record IsGoodPrepare {E : Type 0} (g : Group E) (h : History E) (v place k : ℕ) (e : E) : Type 0 where
  pub before : List E
  pub at : length before + 1 ≡ place
  pub front : IsPrefix (before ++ e ∷ []) (h.logs v)
  pub committed : IsCommitted g h v k

-- news of view v: of some log of that view, the entries behind the first m
pub record IsGoodNews {E : Type 0} (g : Group E) (h : History E) (v m k : ℕ) (rest : List E) : Type 0 where
  pub log : List E
  pub of_view : IsLogOf g h v log k
  pub rest_is : rest ≡ drop m log

-- a message from i to c
abbrev pub IsGoodMessage : {E : Type 0} → Group E → History E → ℕ → ℕ → Message E → Type 0
IsGoodMessage g h i c (Prepare v op k e) = IsGoodPrepare g h v op k e
IsGoodMessage g h i c (PrepareOk v op) = ⊤
IsGoodMessage g h i c (Commit v k) = IsCommitted g h v k
IsGoodMessage g h i c (StartViewChange w) = ⊤
IsGoodMessage g h i c (DoViewChange w u k rest) = IsGoodVote g h i w u k rest
IsGoodMessage g h i c (StartView v m k rest) = IsGoodNews g h v m k rest
IsGoodMessage g h i c (GetState v m) = ⊤
IsGoodMessage g h i c (NewState v m k rest) = IsGoodNews g h v m k rest
IsGoodMessage g h i c (Fetch v m) = ⊤
IsGoodMessage g h i c (Supply v m rest) = IsGoodSupply g h m rest
IsGoodMessage g h i c (Recovery x promise) = x ≤ h.life i
IsGoodMessage g h i c (RecoveryResponse v x answer) = IsGoodResponse g h i c v x answer

abbrev pub IsGoodLetter : {E : Type 0} → Group E → History E → Letter E → Type 0
IsGoodLetter g h l = IsGoodMessage g h l.sender l.receiver l.message

-- the log of view v is one, and safe for the view, once there is any
pub record IsGoodView {E : Type 0} (g : Group E) (h : History E) (v : ℕ) : Type 0 where
  pub valid : g.is_log (h.logs v) ≡ true
  pub safe : (h.logs v ≡ []) ⊎ IsSafe g h v (h.logs v)

-- each state, each letter and each view of a history is good
pub record Invariant {E : Type 0} (g : Group E) (h : History E) : Type 0 where
  pub states : (c : ℕ) → c < size g → IsGoodState g h c (h.state c)
  pub letters : (l : Letter E) → IsIn l h.sent → IsGoodLetter g h l
  pub views : (v : ℕ) → IsGoodView g h v

-- what is asked of a group: the empty list is a log, and what begins a log is one
pub record IsGroup {E : Type 0} (g : Group E) : Type 0 where
  pub begins : g.is_log [] ≡ true
  pub closed : (front whole : List E) → IsPrefix front whole → g.is_log whole ≡ true → g.is_log front ≡ true

-- The moves of one controller. A move changes the state and the stable pair of its controller, may make the log of one
-- view longer, and adds letters.
use Rattle.std.specs.Prelude.{◌≡◌, ◌≢◌, ℕ, ◌+◌, ◌<◌, ◌≤◌, ◌⊎◌, true, false, nat_eq, max, Some, None, List, [], ◌∷◌, ◌++◌, length, map, if◌then◌else◌}
use Rattle.agreement.specs.Lists.{IsAtMost}
use Rattle.list_facts.specs.Lists.{IsIn, IsPrefix}
use Rattle.agreement.specs.History.{Group, size, primary_in, Normal, ViewChange, Recovering, Down, Vote, Supplied, Letter, abstract_letter, Prepare, PrepareOk, Recovery, RecoveryResponse, Response, State, History}
use Rattle.agreement.specs.Quorums.{is_prepare_ok, has_accepted, IsCommitted, IsLogOf}
use Rattle.agreement.specs.Invariant.{is_up_status, IsGoodLetter, IsGoodVote, IsGoodSupply}

-- controller c stands at this state, with this stable pair
pub record StandsAt {E : Type 0} (h : History E) (c : ℕ) (s : State E) (promise life : ℕ) : Type 0 where
  pub state_is : h.state c ≡ s
  pub promise_is : h.promise c ≡ promise
  pub life_is : h.life c ≡ life

-- c has moved to this state and this pair, and has posted these letters. Of the logs of views it tells nothing.
pub record Moved {E : Type 0} (h h' : History E) (c : ℕ) (s : State E) (promise life : ℕ) (new : List (Letter E)) : Type 0 where
  pub state_own : h'.state c ≡ s
  pub promise_own : h'.promise c ≡ promise
  pub life_own : h'.life c ≡ life
  pub state_other : (j : ℕ) → j ≢ c → h'.state j ≡ h.state j
  pub promise_other : (j : ℕ) → j ≢ c → h'.promise j ≡ h.promise j
  pub life_other : (j : ℕ) → j ≢ c → h'.life j ≡ h.life j
  pub sent_more : (l : Letter E) → IsIn l h.sent → IsIn l h'.sent
  pub sent_new : (l : Letter E) → IsIn l new → IsIn l h'.sent
  pub sent_split : (l : Letter E) → IsIn l h'.sent → IsIn l new ⊎ IsIn l h.sent

-- no view's log changes
pub record LogsStay {E : Type 0} (h h' : History E) : Type 0 where
  pub same : (v : ℕ) → h'.logs v ≡ h.logs v

-- the log of view w becomes this one, and the others stay
pub record LogBecomes {E : Type 0} (h h' : History E) (w : ℕ) (log : List E) : Type 0 where
  pub here : h'.logs w ≡ log
  pub others : (v : ℕ) → v ≢ w → h'.logs v ≡ h.logs v

-- what each move makes of a state
abbrev pub entered : {E : Type 0} → State E → ℕ → State E
entered s view = record s { status = ViewChange; view = view; collected = []; supply = None }

abbrev pub collecting : {E : Type 0} → State E → Vote E → State E
collecting s vote = record s { collected = s.collected ++ vote ∷ [] }

abbrev pub supplying : {E : Type 0} → State E → Supplied E → State E
supplying s x = record s { supply = Some x }

abbrev pub started : {E : Type 0} → State E → List E → ℕ → State E
started s log commit = record s { status = Normal; normal = s.view; log = log; commit = commit; acked = λ i. 0 }

abbrev pub adopted : {E : Type 0} → State E → ℕ → List E → ℕ → State E
adopted s view log commit = record s { status = Normal; view = view; normal = view; log = log; commit = commit }

abbrev pub appended_to_history : {E : Type 0} → State E → List E → State E
appended_to_history s log = record s { log = log }

abbrev pub committing : {E : Type 0} → State E → ℕ → State E
committing s commit = record s { commit = commit }

abbrev pub counting : {E : Type 0} → State E → ℕ → ℕ → State E
counting s from place = record s { acked = λ i. if nat_eq i from then max (s.acked from) place else s.acked i }

abbrev pub hearing : {E : Type 0} → State E → List (Response E) → State E
hearing s responses = record s { responses = responses }

abbrev pub fallen : {E : Type 0} → State E → State E
fallen s = record s { status = Down }

abbrev pub risen : {E : Type 0} → State E → State E
risen s = record s { status = Recovering; log = []; commit = 0; responses = [] }

-- no letter of these acknowledges anything
abbrev pub AcknowledgeNothing : {E : Type 0} → List (Letter E) → Type 0
AcknowledgeNothing {E} new = (l : Letter E) → IsIn l new → (v m : ℕ) → is_prepare_ok l.message v m ≡ false

-- these letters are from c
abbrev pub AreFrom : {E : Type 0} → ℕ → List (Letter E) → Type 0
AreFrom {E} c new = (l : Letter E) → IsIn l new → l.sender ≡ c

-- two states agree in all that counts at their status
pub record Resembles {E : Type 0} (s s' : State E) : Type 0 where
  pub status : s'.status ≡ s.status
  pub view : is_up_status s.status ≡ true → s'.view ≡ s.view
  pub normal : is_up_status s.status ≡ true → s'.normal ≡ s.normal
  pub log : s.status ≢ Down → s'.log ≡ s.log
  pub commit : s.status ≢ Down → s'.commit ≡ s.commit
  pub acked : s.status ≡ Normal → (i : ℕ) → s'.acked i ≡ s.acked i
  pub collected : s.status ≡ ViewChange → s'.collected ≡ s.collected
  pub supply : s.status ≡ ViewChange → s'.supply ≡ s.supply
  pub responses : s.status ≡ Recovering → s'.responses ≡ s.responses

-- the length of the log that a vote stands for
abbrev pub log_length_of : {E : Type 0} → Vote E → ℕ
log_length_of vote = vote.commit + length vote.rest

-- No vote of these is better than this one: of a later normal view, or of the same one and longer.
abbrev pub IsBest : {E : Type 0} → List (Vote E) → Vote E → Type 0
IsBest {E} votes best = (v : Vote E) → IsIn v votes → IsAtMost v.normal (log_length_of v) best.normal (log_length_of best)

-- What controller c may do, whose state is s, and whose stable pair is a promise and a life.
pub data MoveOf {E : Type 0} (g : Group E) (h h' : History E) (c : ℕ) (s : State E) (promise life : ℕ) : Type 0 where
  -- it enters a later view, which it promises
  Enters : (view : ℕ) → is_up_status s.status ≡ true → s.view < view
      → Moved h h' c (entered s view) view life [] → LogsStay h h' → MoveOf g h h' c s promise life
  -- the primary of a view that is to start collects a good vote, the first of its sender
  Collects : (vote : Vote E) → s.status ≡ ViewChange → c ≡ primary_in g s.view
      → (¬ IsIn vote.from (map (λ v. v.from) s.collected)) → vote.from < size g
      → IsGoodVote g h vote.from s.view vote.normal vote.commit vote.rest
      → Moved h h' c (collecting s vote) promise life [] → LogsStay h h' → MoveOf g h h' c s promise life
  -- it keeps certified entries that it was supplied with, and leaves its log
  Stocks : (x : Supplied E) → s.status ≡ ViewChange → x.first ≤ s.commit → IsGoodSupply g h x.first x.rest
      → Moved h h' c (supplying s x) promise life [] → LogsStay h h' → MoveOf g h h' c s promise life
  -- with f + 1 votes it starts the view, with the whole log of the best of them, and a commit number that one of them tells
  Starts : (best most : Vote E) (good : IsGoodVote g h best.from s.view best.normal best.commit best.rest)
      → s.status ≡ ViewChange → c ≡ primary_in g s.view → g.most_failures < length s.collected → IsBest s.collected best → IsIn most s.collected
      → Moved h h' c (started s good.whole most.commit) promise life [] → LogBecomes h h' s.view good.whole → MoveOf g h h' c s promise life
  -- another takes a log of a later view, or of this one while it changes; the commit number does not fall
  Adopts : (view commit : ℕ) (log : List E) → is_up_status s.status ≡ true → c ≢ primary_in g view → IsLogOf g h view log commit
      → (s.view < view) ⊎ ((s.view ≡ view) × (s.status ≡ ViewChange))
      → Moved h h' c (adopted s view log (max s.commit commit)) view life [] → LogsStay h h' → MoveOf g h h' c s promise life
  -- a backup takes more entries of its view
  Appends : (log : List E) → s.status ≡ Normal → c ≢ primary_in g s.view → IsPrefix s.log log → IsPrefix log (h.logs s.view)
      → Moved h h' c (appended_to_history s log) promise life [] → LogsStay h h' → MoveOf g h h' c s promise life
  -- entries of its log are committed
  Commits : (commit : ℕ) → s.status ≡ Normal → s.commit ≤ commit → commit ≤ length s.log → IsCommitted g h s.view commit
      → Moved h h' c (committing s commit) promise life [] → LogsStay h h' → MoveOf g h h' c s promise life
  -- a backup acknowledges its log
  Acknowledges : (to : ℕ) → s.status ≡ Normal → c ≢ primary_in g s.view
      → Moved h h' c s promise life (abstract_letter c to (PrepareOk s.view (length s.log)) ∷ []) → LogsStay h h' → MoveOf g h h' c s promise life
  -- the primary counts what another has acknowledged
  Counts : (from place : ℕ) → s.status ≡ Normal → c ≡ primary_in g s.view → from ≢ c → has_accepted g h s.view place from ≡ true
      → Moved h h' c (counting s from place) promise life [] → LogsStay h h' → MoveOf g h h' c s promise life
  -- the primary proposes an entry
  Proposes : (e : E) (new : List (Letter E)) → s.status ≡ Normal → c ≡ primary_in g s.view → g.is_log (s.log ++ e ∷ []) ≡ true
      → ((l : Letter E) → IsIn l new → (l.sender ≡ c) × (l.message ≡ Prepare s.view (length s.log + 1) s.commit e))
      → Moved h h' c (appended_to_history s (s.log ++ e ∷ [])) promise life new
      → LogBecomes h h' s.view (s.log ++ e ∷ []) → MoveOf g h h' c s promise life
  -- one that recovers keeps a response to its life, which another has posted
  Keeps : (r : Response E) (responses : List (Response E)) → s.status ≡ Recovering → r.from ≢ c
      → IsIn (abstract_letter r.from c (RecoveryResponse r.view life r.answer)) h.sent → ((x : Response E) → IsIn x responses → (x ≡ r) ⊎ IsIn x s.responses)
      → Moved h h' c (hearing s responses) promise life [] → LogsStay h h' → MoveOf g h h' c s promise life
  -- it is back, with a log of a view that is not below its promise, where that has all that it has accepted of the view
  Recovers : (view commit : ℕ) (log : List E) → s.status ≡ Recovering → promise ≤ view → c ≢ primary_in g view
      → IsLogOf g h view log commit → ((m : ℕ) → 1 ≤ m → has_accepted g h view m c ≡ true → m ≤ length log)
      → Moved h h' c (adopted s view log commit) view life [] → LogsStay h h' → MoveOf g h h' c s promise life
  -- it crashes, or a save fails: neither number of the pair falls
  Falls : (new_promise new_life : ℕ) → promise ≤ new_promise → life ≤ new_life
      → Moved h h' c (fallen s) new_promise new_life [] → LogsStay h h' → MoveOf g h h' c s promise life
  -- it restarts into a new life, and asks the others
  Rises : (new : List (Letter E)) → s.status ≡ Down
      → ((l : Letter E) → IsIn l new → (l.sender ≡ c) × (l.message ≡ Recovery (life + 1) promise))
      → Moved h h' c (risen s) promise (life + 1) new → LogsStay h h' → MoveOf g h h' c s promise life
  -- it posts good letters that acknowledge nothing
  Speaks : (new : List (Letter E)) → AreFrom c new → AcknowledgeNothing new → ((l : Letter E) → IsIn l new → IsGoodLetter g h l)
      → Moved h h' c s promise life new → LogsStay h h' → MoveOf g h h' c s promise life
  -- it changes what does not count
  Notes : (s' : State E) → Resembles s s' → Moved h h' c s' promise life [] → LogsStay h h' → MoveOf g h h' c s promise life

-- a move of controller c
abbrev pub Move : {E : Type 0} → Group E → History E → History E → ℕ → Type 0
Move g h h' c = MoveOf g h h' c (h.state c) (h.promise c) (h.life c)

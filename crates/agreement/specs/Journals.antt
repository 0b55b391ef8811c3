-- Histories of journals, for any rules of a controller. A journal lists what controllers take and post. Its past stands
-- newest first.
use Rattle.std.specs.Prelude.{◌≡◌, ◌≢◌, ℕ, ◌<◌, ◌≤◌, ◌⊎◌, Bool, true, false, ◌&&◌, nat_eq, List, [], ◌∷◌, ◌++◌, map, filter, if◌then◌else◌, ⊤}
use Rattle.list_facts.specs.Fold as step
use Rattle.list_facts.specs.Fold.{Step, ActorStanding, ActorRules, actor_standing}
use Rattle.list_facts.specs.Lists.{IsIn, IsPrefix}
use Rattle.agreement.specs.History.{Group, size, primary_in, Status, Normal, ViewChange, Recovering, Down, Letter, State, History}
use Rattle.agreement.specs.Invariant.{is_up_status, Invariant, IsGroup}
use Rattle.agreement.specs.Moves.{StandsAt, Moved, Resembles, fallen}
use Rattle.agreement.specs.Laws.{IsStart, committed_log}
use Rattle.agreement.specs.Turns.{Turn}

-- what a controller takes: an input of its own, or a letter
pub data Input (Own E : Type 0) : Type 0 where
  Local : Own → Input Own E
  Heard : Letter E → Input Own E

-- The rules of the controllers, on states of a type A: how each starts, what a turn makes of a state and says, and what is
-- left where a turn is refused; what of such a state counts here; and which states are valid.
pub record Rules (Own A E : Type 0) : Type 0 where
  pub start : ℕ → A
  pub turn : ℕ → A → Input Own E → A × List (Letter E)
  pub refused : ℕ → A → A
  pub state : A → State E
  pub promise : A → ℕ
  pub life : A → ℕ
  pub is_valid : ℕ → A → Bool

-- a controller takes an input, or posts what it owes, or its newest input is refused, as if it had not been taken
pub data Entry (Own E : Type 0) : Type 0 where
  Takes : (c : ℕ) → Input Own E → Entry Own E
  Posts : (c : ℕ) → Entry Own E
  Refused : (c : ℕ) → Entry Own E

-- whose entry it is, and what it is to that controller
abbrev pub controller_of : {Own E : Type 0} → Entry Own E → ℕ
controller_of (Takes c x) = c
controller_of (Posts c) = c
controller_of (Refused c) = c

abbrev pub own_step : {Own E : Type 0} → Entry Own E → Step (Input Own E)
own_step (Takes c x) = step.Takes x
own_step (Posts c) = step.Posts
own_step (Refused c) = step.Refuses

-- the entries of controller c in a past, as its steps
abbrev pub own_steps : {Own E : Type 0} → ℕ → List (Entry Own E) → List (Step (Input Own E))
own_steps c past = map own_step (filter (λ e. nat_eq (controller_of e) c) past)

-- controller c takes an input, and owes what its turn says. No saves are counted here
abbrev pub took : {Own A E : Type 0} → Rules Own A E → ℕ → ActorStanding A (Letter E) → Input Own E → ActorStanding A (Letter E)
took r c w x = let turn = r.turn c w.now x in record w { now = turn.0; before = w.now; owed = turn.1; fresh = true }

-- the rules of controller c as those of an actor
abbrev pub actor_rules : {Own A E : Type 0} → Rules Own A E → ℕ → ActorRules A (Input Own E) (Letter E)
actor_rules r c = record { takes = took r c; refused = r.refused c }

-- where controller c stands after a past
abbrev pub stands : {Own A E : Type 0} → Rules Own A E → ℕ → List (Entry Own E) → ActorStanding A (Letter E)
stands r c past = actor_standing (actor_rules r c) (r.start c) (own_steps c past)

-- the state that no refusal takes back any more: that before the newest entry, where it took an input
abbrev pub firm : {A L : Type 0} → ActorStanding A L → A
firm w = if w.fresh then w.before else w.now

-- the letters that an entry adds to those that were posted
abbrev pub rest_left_by : {Own A E : Type 0} → Rules Own A E → Entry Own E → List (Entry Own E) → List (Letter E)
rest_left_by r (Takes d x) past = []
rest_left_by r (Posts d) past = (stands r d past).owed
rest_left_by r (Refused d) past = []

abbrev pub posted_in_history : {Own A E : Type 0} → Rules Own A E → List (Entry Own E) → List (Letter E)
posted_in_history r [] = []
posted_in_history r (e ∷ past) = rest_left_by r e past ++ posted_in_history r past

abbrev pub is_normal_status : Status → Bool
is_normal_status Normal = true
is_normal_status ViewChange = false
is_normal_status Recovering = false
is_normal_status Down = false

-- the log of view v, where this is the state of its primary, and that was the log before
abbrev pub tracked : {E : Type 0} → ℕ → State E → List E → List E
tracked v s old = if is_normal_status s.status && nat_eq s.view v then s.log else old

abbrev pub logs : {Own A E : Type 0} → Rules Own A E → Group E → List (Entry Own E) → ℕ → List E
logs r g [] v = []
logs r g (e ∷ past) v = tracked v (r.state (firm (stands r (primary_in g v) (e ∷ past)))) (logs r g past v)

-- the history of a past: of each controller the state that no refusal takes back
abbrev pub history : {Own A E : Type 0} → Rules Own A E → Group E → List (Entry Own E) → History E
history r g past =
    record {
      state = λ c. r.state (firm (stands r c past));
      promise = λ c. r.promise (firm (stands r c past));
      life = λ c. r.life (firm (stands r c past));
      sent = posted_in_history r past;
      logs = logs r g past;
    }

-- what comes to c is of its own, or a letter to it that was posted
abbrev pub Comes : {Own E : Type 0} → ℕ → Input Own E → List (Letter E) → Type 0
Comes c (Local i) sent = ⊤
Comes c (Heard l) sent = (l.receiver ≡ c) × IsIn l sent

-- The entry may stand behind a past. An input comes where nothing is owed, and is refused where it is still its controller's
-- newest entry. A letter may come again, late, or never.
abbrev pub MayStand : {Own A E : Type 0} → Rules Own A E → Group E → Entry Own E → List (Entry Own E) → Type 0
MayStand r g (Takes c x) past = (c < size g) × Comes c x (posted_in_history r past) × ((stands r c past).owed ≡ [])
MayStand r g (Posts c) past = c < size g
MayStand r g (Refused c) past = (c < size g) × ((stands r c past).fresh ≡ true)

abbrev pub IsAllowed : {Own A E : Type 0} → Rules Own A E → Group E → List (Entry Own E) → Type 0
IsAllowed r g [] = ⊤
IsAllowed r g (e ∷ past) = MayStand r g e past × IsAllowed r g past

-- the log of each view of which c is primary follows c, and the others stay
pub record Tracks {E : Type 0} (g : Group E) (h h' : History E) (c : ℕ) : Type 0 where
  pub own : (v : ℕ) → c ≡ primary_in g v → h'.logs v ≡ tracked v (h'.state c) (h.logs v)
  pub others : (v : ℕ) → c ≢ primary_in g v → h'.logs v ≡ h.logs v

-- it was up before, and its log goes on from the one before
pub record GoesOn {E : Type 0} (s s' : State E) : Type 0 where
  pub up : is_up_status s.status ≡ true
  pub longer : IsPrefix s.log s'.log

-- What is to be shown of rules, case by case, so that the laws hold of their journals.
pub record Follows {Own A E : Type 0} (r : Rules Own A E) (g : Group E) : Type 0 where
  pub group : IsGroup g
  pub starts : IsStart (history r g [])
  -- each turn of a valid state is a turn of moves, whatever the history is, in a group of more than one
  pub turns : 1 ≤ g.most_failures → (h h' : History E) (c : ℕ) (a : A) (x : Input Own E)
      → Invariant g h → c < size g → r.is_valid c a ≡ true → StandsAt h c (r.state a) (r.promise a) (r.life a) → Comes c x h.sent
      → Moved h h' c (r.state (r.turn c a x).0) (r.promise (r.turn c a x).0) (r.life (r.turn c a x).0) (r.turn c a x).1
      → Tracks g h h' c → Turn g c h h'
  -- in a group of one the log only goes on
  pub alone : g.most_failures ≡ 0 → (c : ℕ) (a : A) (x : Input Own E) → c < size g → r.is_valid c a ≡ true
      → is_up_status (r.state (r.turn c a x).0).status ≡ true → GoesOn (r.state a) (r.state (r.turn c a x).0)
  -- valid states stay valid
  pub starts_valid : (c : ℕ) → c < size g → r.is_valid c (r.start c) ≡ true
  pub turns_valid : (c : ℕ) (a : A) (x : Input Own E) → c < size g → r.is_valid c a ≡ true → r.is_valid c (r.turn c a x).0 ≡ true
  pub refuses_valid : (c : ℕ) (a : A) → c < size g → r.is_valid c a ≡ true → r.is_valid c (r.refused c a) ≡ true
  -- where a turn is refused the controller goes down, with the stable pair from before
  pub refuses : (c : ℕ) (a : A) → Resembles (fallen (r.state a)) (r.state (r.refused c a))
      × (r.promise (r.refused c a) ≡ r.promise a) × (r.life (r.refused c a) ≡ r.life a)

-- what c shows as committed, where it is up: that of its state, also while its newest input may still be refused
abbrev pub kept_log : {Own A E : Type 0} → Rules Own A E → ℕ → List (Entry Own E) → List E
kept_log r c past = let s = r.state (stands r c past).now in if is_up_status s.status then committed_log s else []

-- whatever two controllers show, at any two times of a journal, one of the two logs begins the other
abbrev pub JournalsAgree : Type 0 → Type 0 → Type 0 → Type 0
JournalsAgree Own A E = (r : Rules Own A E) (g : Group E) (more past : List (Entry Own E)) (c d : ℕ)
    → Follows r g → IsAllowed r g (more ++ past) → c < size g → d < size g
    → IsPrefix (kept_log r c past) (kept_log r d (more ++ past)) ⊎ IsPrefix (kept_log r d (more ++ past)) (kept_log r c past)

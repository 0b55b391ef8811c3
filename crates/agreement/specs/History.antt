-- What a group of controllers has done so far (Viewstamped Replication Revisited, 4; logs without what is committed, and
-- FETCH and SUPPLY, are our own rule). A history is abstract: its entries are of any type.
use Rattle.std.specs.Prelude.{ℕ, ◌+◌, ◌*◌, ◌%◌, Bool, Option, List}

-- 2 f + 1 controllers, of which at most f fail at once, and which lists of entries are logs
pub record Group (E : Type 0) : Type 0 where
  pub most_failures : ℕ
  pub is_log : List E → Bool

-- how many controllers there are: they are named by the numbers below it
unfoldable pub size : {E : Type 0} → Group E → ℕ
size g = 2 * g.most_failures + 1

-- the primary of a view: controllers take their turns
unfoldable pub primary_in : {E : Type 0} → Group E → ℕ → ℕ
primary_in g view = view % (2 * g.most_failures + 1)

pub data Status : Type 0 where
  Normal ViewChange Recovering Down : Status

-- A vote for a new view: who gives it, the last view in which that was normal, its commit number, and its log behind what is
-- committed.
pub record Vote (E : Type 0) : Type 0 where
  pub from : ℕ
  pub normal : ℕ
  pub commit : ℕ
  pub rest : List E

-- committed entries that stand behind the first ones of a log
pub record Supplied (E : Type 0) : Type 0 where
  pub first : ℕ
  pub rest : List E

-- what a response to a recovering controller carries: a commit number and a log, where the primary answers
pub data Answer (E : Type 0) : Type 0 where
  Filled : (commit : ℕ) (log : List E) → Answer E
  Bare : Answer E

-- what controllers say to each other
pub data Message (E : Type 0) : Type 0 where
  Prepare : (view op commit : ℕ) (entry : E) → Message E
  PrepareOk : (view op : ℕ) → Message E
  Commit : (view commit : ℕ) → Message E
  StartViewChange : (view : ℕ) → Message E
  DoViewChange : (view normal commit : ℕ) (rest : List E) → Message E
  StartView : (view first commit : ℕ) (rest : List E) → Message E
  GetState : (view op : ℕ) → Message E
  NewState : (view first commit : ℕ) (rest : List E) → Message E
  Fetch : (view op : ℕ) → Message E
  Supply : (view first : ℕ) (rest : List E) → Message E
  Recovery : (nonce promise : ℕ) → Message E
  RecoveryResponse : (view nonce : ℕ) (answer : Answer E) → Message E

pub record Letter (E : Type 0) : Type 0 where
  pub sender : ℕ
  pub receiver : ℕ
  pub message : Message E

-- a message from one controller to another
abbrev pub abstract_letter : {E : Type 0} → ℕ → ℕ → Message E → Letter E
abstract_letter sender receiver message = record { sender = sender; receiver = receiver; message = message }

-- a response that a recovering controller keeps
pub record Response (E : Type 0) : Type 0 where
  pub from : ℕ
  pub view : ℕ
  pub answer : Answer E

-- The state of a controller. What its status has no use for may hold anything.
pub record State (E : Type 0) : Type 0 where
  pub status : Status
  pub view : ℕ
  pub normal : ℕ  -- the last view in which it was normal
  pub log : List E
  pub commit : ℕ
  pub acked : ℕ → ℕ  -- a primary: up to which place each other has acknowledged its log
  pub collected : List (Vote E)  -- the primary of a view that is to start: the votes that came
  pub supply : Option (Supplied E)  -- the same: committed entries that it was told
  pub responses : List (Response E)  -- a recovering controller

-- All that was done, in one view.
pub record History (E : Type 0) : Type 0 where
  pub state : ℕ → State E
  pub promise : ℕ → ℕ  -- the view that each controller has promised, as it is stable: no save takes it back
  pub life : ℕ → ℕ  -- the life that each is in, as it is stable
  pub sent : List (Letter E)  -- each abstract_letter that was ever posted, the lost ones too
  pub logs : ℕ → List E  -- the log of each view: its primary's, as that was last normal in the view

-- What is said of entries at their places, wherever they stand: in a log, in a collected log, in a response, in
-- entries that were supplied, and in messages.
use Rattle.std.specs.Prelude.{◌≡◌, ◌≤◌, ℕ, ◌+◌, suc, true, List, [], ◌∷◌, length, Option, Some, None}
use Rattle.vr_log.specs.declared.entry.Entry.{Entry}
use Rattle.vr_log.specs.declared.message.Filled.{Filled}
use Rattle.vr_log.specs.declared.message.VrMessage.{VrMessage}
use Rattle.vr_log.specs.declared.message.VrMessage.TheVariants as message
use Rattle.vr_log.specs.declared.state.Collected.{Collected}
use Rattle.vr_log.specs.declared.state.Response.{Response}
use Rattle.vr_log.specs.declared.state.Supplied.{Supplied}
use Rattle.vr_log.specs.declared.state.VrState.{VrState}
use Rattle.vr_log.specs.Log.{is_log}
use Rattle.vr_log.specs.Members.{is_changing}
use Rattle.vr_core.specs.declared.input.VrInput.{VrInput}
use Rattle.vr_core.specs.declared.input.VrInput.TheVariants as vr_input
use Rattle.journal.specs.declared.journal.Letter.{Letter}
use Rattle.group_controller.specs.declared.messages.ControllerInput.{ControllerInput}
use Rattle.group_controller.specs.declared.messages.ControllerInput.TheVariants as controller_input
use Rattle.group_controller.specs.declared.messages.ControllerSays.{ControllerSays}
use Rattle.group_controller.specs.declared.messages.ControllerSays.TheVariants as controller_says
use Rattle.group_controller.specs.State.{Work}
use Rattle.list_facts.specs.Lists.{IsIn}

-- each of these entries has a property at its place; the first stands at this one
abbrev pub EachFrom : (ℕ → Entry → Type 0) → ℕ → List Entry → Type 0
EachFrom P n [] = Unit {0}
EachFrom P n (e ∷ entries) = P n e × EachFrom P (suc n) entries

-- An entry at its place, beside a commit number: it is good there, and where its place lies beyond the number, it is
-- bound to the number.
abbrev pub IsGoodBeside : (ℕ → Entry → Type 0) → (ℕ → ℕ → Entry → Type 0) → ℕ → ℕ → Entry → Type 0
IsGoodBeside IsGood IsBound commit n e = IsGood n e × (commit ≤ n → IsBound commit n e)

-- so is each entry of a state: of its log, of the logs that it collected or was told, each beside its own commit
-- number. What was supplied is good
pub record StateHolds (IsGood : ℕ → Entry → Type 0) (IsBound : ℕ → ℕ → Entry → Type 0) (s : VrState) : Type 0 where
  pub log : EachFrom (IsGoodBeside IsGood IsBound s.commit) 0 s.log
  pub collected : (c : Collected) → IsIn c s.collected → EachFrom (IsGoodBeside IsGood IsBound c.commit) c.commit c.log
  pub responses : (r : Response) → IsIn r s.responses → (told : Filled) → r.filled ≡ Some told → EachFrom (IsGoodBeside IsGood IsBound told.commit) 0 told.log
  pub supply : (p : Supplied) → s.supply ≡ Some p → EachFrom IsGood p.first p.log

-- the entries that a response tells
abbrev pub FilledHolds : (ℕ → Entry → Type 0) → (ℕ → ℕ → Entry → Type 0) → Option Filled → Type 0
FilledHolds IsGood IsBound None = Unit {0}
FilledHolds IsGood IsBound (Some told) = EachFrom (IsGoodBeside IsGood IsBound told.commit) 0 told.log

-- the entries of a message
abbrev pub MessageHolds : (ℕ → Entry → Type 0) → (ℕ → ℕ → Entry → Type 0) → VrMessage → Type 0
MessageHolds IsGood IsBound (message.Prepare view op commit entry) = (n : ℕ) → op ≡ n + 1 → IsGoodBeside IsGood IsBound commit n entry
MessageHolds IsGood IsBound (message.DoViewChange view normal commit log) = EachFrom (IsGoodBeside IsGood IsBound commit) commit log
MessageHolds IsGood IsBound (message.StartView view first commit log) = EachFrom (IsGoodBeside IsGood IsBound commit) first log
MessageHolds IsGood IsBound (message.RecoveryResponse view nonce filled) = FilledHolds IsGood IsBound filled
MessageHolds IsGood IsBound (message.NewState view first commit log) = EachFrom (IsGoodBeside IsGood IsBound commit) first log
MessageHolds IsGood IsBound (message.Supply view first log) = EachFrom IsGood first log
MessageHolds IsGood IsBound _ = Unit {0}

-- the entries of what a member takes
abbrev pub MemberInputHolds : (ℕ → Entry → Type 0) → (ℕ → ℕ → Entry → Type 0) → VrInput → Type 0
MemberInputHolds IsGood IsBound (vr_input.From from m) = MessageHolds IsGood IsBound m
MemberInputHolds IsGood IsBound _ = Unit {0}

-- of what a controller says
abbrev pub SaysHold : (ℕ → Entry → Type 0) → (ℕ → ℕ → Entry → Type 0) → ControllerSays → Type 0
SaysHold IsGood IsBound (controller_says.Vr m) = MessageHolds IsGood IsBound m
SaysHold IsGood IsBound (controller_says.Of xid m) = Unit {0}

-- of what it takes
abbrev pub InputHolds : (ℕ → Entry → Type 0) → (ℕ → ℕ → Entry → Type 0) → ControllerInput → Type 0
InputHolds IsGood IsBound (controller_input.Vr from m) = MessageHolds IsGood IsBound m
InputHolds IsGood IsBound _ = Unit {0}

-- what a controller holds and says in the midst of a turn
pub record WorkHolds (IsGood : ℕ → Entry → Type 0) (IsBound : ℕ → ℕ → Entry → Type 0) (w : Work) : Type 0 where
  pub state : StateHolds IsGood IsBound w.state.vr
  pub letters : (l : Letter ControllerSays) → IsIn l w.letters → SaysHold IsGood IsBound l.body

-- what is bound to a commit number is bound to a greater one, as far as it goes beyond it
abbrev pub BoundRises : (ℕ → ℕ → Entry → Type 0) → Type 0
BoundRises IsBound = (k k' n : ℕ) (e : Entry) → k ≤ k' → k' ≤ n → IsBound k n e → IsBound k' n e

-- The parts of a member's state fit together: its log is one and reaches its commit number, what was supplied begins
-- within what is committed, and while the view changes the log that it collected from itself has its commit number.
pub record IsConsistent (s : VrState) : Type 0 where
  pub follow : is_log s.log ≡ true
  pub commit : s.commit ≤ length s.log
  pub supply : (p : Supplied) → s.supply ≡ Some p → p.first ≤ s.commit
  pub own : is_changing s ≡ true → (c : Collected) → IsIn c s.collected → c.from ≡ s.me → c.commit ≡ s.commit

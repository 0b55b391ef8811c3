-- Which commit numbers stand in a state and in messages, beside entries or alone.
use Rattle.std.specs.Prelude.{◌≡◌, ◌≤◌, ℕ, Option, Some, None}
use Rattle.journal.specs.declared.journal.Letter.{Letter}
use Rattle.vr_log.specs.declared.message.Filled.{Filled}
use Rattle.vr_log.specs.declared.message.VrMessage.{VrMessage}
use Rattle.vr_log.specs.declared.message.VrMessage.TheVariants as message
use Rattle.vr_log.specs.declared.state.Collected.{Collected}
use Rattle.vr_log.specs.declared.state.Response.{Response}
use Rattle.vr_log.specs.declared.state.VrState.{VrState}
use Rattle.group_controller.specs.declared.messages.ControllerInput.{ControllerInput}
use Rattle.group_controller.specs.declared.messages.ControllerInput.TheVariants as controller_input
use Rattle.group_controller.specs.declared.messages.ControllerSays.{ControllerSays}
use Rattle.group_controller.specs.declared.messages.ControllerSays.TheVariants as controller_says
use Rattle.group_controller.specs.State.{ControllerState, Work}
use Rattle.list_facts.specs.Lists.{IsIn}

-- the commit numbers beside logs that a member collected or was told
pub record StateCommits (IsCommit : ℕ → Type 0) (s : VrState) : Type 0 where
  pub collected : (c : Collected) → IsIn c s.collected → IsCommit c.commit
  pub responses : (r : Response) → IsIn r s.responses → (told : Filled) → r.filled ≡ Some told → IsCommit told.commit

-- the commit number of a response
abbrev pub FilledCommits : (ℕ → Type 0) → Option Filled → Type 0
FilledCommits IsCommit None = Unit {0}
FilledCommits IsCommit (Some told) = IsCommit told.commit

-- of a message
abbrev pub MessageCommits : (ℕ → Type 0) → VrMessage → Type 0
MessageCommits IsCommit (message.Prepare view op commit entry) = IsCommit commit
MessageCommits IsCommit (message.Commit view commit) = IsCommit commit
MessageCommits IsCommit (message.DoViewChange view normal commit log) = IsCommit commit
MessageCommits IsCommit (message.StartView view first commit log) = IsCommit commit
MessageCommits IsCommit (message.RecoveryResponse view nonce filled) = FilledCommits IsCommit filled
MessageCommits IsCommit (message.NewState view first commit log) = IsCommit commit
MessageCommits IsCommit _ = Unit {0}

-- of what a controller says
abbrev pub SaysCommits : (ℕ → Type 0) → ControllerSays → Type 0
SaysCommits IsCommit (controller_says.Vr m) = MessageCommits IsCommit m
SaysCommits IsCommit (controller_says.Of xid m) = Unit {0}

-- of what it takes
abbrev pub InputCommits : (ℕ → Type 0) → ControllerInput → Type 0
InputCommits IsCommit (controller_input.Vr from m) = MessageCommits IsCommit m
InputCommits IsCommit _ = Unit {0}

-- the commit number that a message tells
abbrev pub commit_of : VrMessage → Option ℕ
commit_of (message.Prepare view op commit entry) = Some commit
commit_of (message.Commit view commit) = Some commit
commit_of (message.DoViewChange view normal commit log) = Some commit
commit_of (message.StartView view first commit log) = Some commit
commit_of (message.RecoveryResponse view nonce (Some told)) = Some told.commit
commit_of (message.NewState view first commit log) = Some commit
commit_of _ = None

-- a commit number is at most the own one at the end, or stood beside a log at the beginning, or came with the input
pub data IsKnownCommit (x : ControllerInput) (c last : ControllerState) (commit : ℕ) : Type 0 where
  Below : commit ≤ last.vr.commit → IsKnownCommit x c last commit
  OfCollected : (d : Collected) → IsIn d c.vr.collected → commit ≡ d.commit → IsKnownCommit x c last commit
  OfResponse : (r : Response) (told : Filled) → IsIn r c.vr.responses → r.filled ≡ Some told → commit ≡ told.commit → IsKnownCommit x c last commit
  OfInput : (from : ℕ) (m : VrMessage) → x ≡ controller_input.Vr from m → commit_of m ≡ Some commit → IsKnownCommit x c last commit

-- the commit numbers of a controller, and of what it said
pub record WorkCommits (IsCommit : ℕ → Type 0) (w : Work) : Type 0 where
  pub state : StateCommits IsCommit w.state.vr
  pub letters : (l : Letter ControllerSays) → IsIn l w.letters → SaysCommits IsCommit l.body

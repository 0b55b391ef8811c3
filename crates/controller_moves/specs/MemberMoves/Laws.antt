-- Each step of a member is a turn of the moves of agreement, so that the laws of agreement hold of members.
use Rattle.std.specs.Prelude.{◌≡◌, ℕ, ◌+◌, ◌<◌, ◌≤◌, true, [], ◌∷◌, ◌++◌}
use Rattle.list_facts.specs.Lists.{IsIn}
use Rattle.agreement.specs.History.{Group, size, abstract_letter, History}
use Rattle.agreement.specs.Invariant.{is_up_status, Invariant, IsGroup}
use Rattle.agreement.specs.Moves.{StandsAt, Moved}
use Rattle.agreement.specs.Turns.{Turn}
use Rattle.agreement.specs.Journals.{Tracks, GoesOn}
use Rattle.vr_log.specs.declared.entry.Entry.{Entry}
use Rattle.vr_log.specs.declared.message.VrMessage.{VrMessage}
use Rattle.vr_log.specs.declared.state.VrState.{VrState}
use Rattle.vr_log.specs.declared.state.Status.TheVariants.{Down}
use Rattle.vr_log.specs.Members.{leads}
use Rattle.vr_log.specs.Steps.{VrStep, quiet}
use Rattle.vr_log.specs.Valid.{down_state}
use Rattle.vr_normal.specs.Proposing.{proposed}
use Rattle.vr_recovery.specs.Recovering.{restarted}
use Rattle.vr_core.specs.declared.input.VrInput.{VrInput}
use Rattle.vr_core.specs.declared.input.VrInput.TheVariants as vr_input
use Rattle.vr_core.specs.Step.{on_vr, vr_step}
use Rattle.controller_moves.specs.MemberMoves.Projection.{message_of, letters_of, member_state_of, is_member, group_of}

-- controller c stands at the state of this member, which is that of member c
pub record IsMemberAt (g : Group Entry) (h : History Entry) (c : ℕ) (s : VrState) : Type 0 where
  pub stands : StandsAt h c (member_state_of s) s.promise s.life
  pub member : is_member g c s ≡ true

-- what a step leaves and says makes a turn of c, where each view's log follows c
abbrev pub IsMemberTurn : Group Entry → History Entry → History Entry → ℕ → VrStep → Type 0
IsMemberTurn g h h' c step =
    Moved h h' c (member_state_of step.state) step.state.promise step.state.life (letters_of c step.letters) → Tracks g h h' c → Turn g c h h'

-- in a group of more than one, a message that was posted is taken by a turn
abbrev pub MessagesTurn : Type 0
MessagesTurn = (g : Group Entry) (h h' : History Entry) (c from : ℕ) (s : VrState) (x : VrMessage)
    → IsGroup g → 1 ≤ g.most_failures → Invariant g h → c < size g → IsMemberAt g h c s
    → IsIn (abstract_letter from c (message_of x)) h.sent → IsMemberTurn g h h' c (on_vr s from x)

-- and so is a suspicion
abbrev pub SuspicionsTurn : Type 0
SuspicionsTurn = (g : Group Entry) (h h' : History Entry) (c : ℕ) (s : VrState) (view : ℕ)
    → IsGroup g → 1 ≤ g.most_failures → Invariant g h → c < size g → IsMemberAt g h c s → IsMemberTurn g h h' c (vr_step s (vr_input.Suspect view))

-- and the proposal of an entry that makes a log
abbrev pub ProposalsTurn : Type 0
ProposalsTurn = (g : Group Entry) (h h' : History Entry) (c : ℕ) (s : VrState) (entry : Entry)
    → IsGroup g → 1 ≤ g.most_failures → Invariant g h → c < size g → IsMemberAt g h c s
    → leads s ≡ true → g.is_log (s.log ++ entry ∷ []) ≡ true → IsMemberTurn g h h' c (proposed s entry)

-- and a tick, in any group
abbrev pub TicksTurn : Type 0
TicksTurn = (g : Group Entry) (h h' : History Entry) (c : ℕ) (s : VrState)
    → IsGroup g → Invariant g h → c < size g → IsMemberAt g h c s → IsMemberTurn g h h' c (vr_step s vr_input.Tick)

-- and a crash, and a save that failed: what is left is down, and neither number of the stable pair fell
abbrev pub FallsTurn : Type 0
FallsTurn = (g : Group Entry) (h h' : History Entry) (c : ℕ) (s : VrState) (promise life : ℕ)
    → IsGroup g → Invariant g h → c < size g → IsMemberAt g h c s
    → s.promise ≤ promise → s.life ≤ life → IsMemberTurn g h h' c (quiet (down_state s.me s.controllers promise life))

-- and a restart of one that is down
abbrev pub RestartsTurn : Type 0
RestartsTurn = (g : Group Entry) (h h' : History Entry) (c : ℕ) (s : VrState)
    → IsGroup g → Invariant g h → c < size g → IsMemberAt g h c s
    → s.status ≡ Down → IsMemberTurn g h h' c (restarted s.me s.controllers s.promise (s.life + 1))

-- what a step leaves is the state of the same member
abbrev pub StepsKeepMembers : Type 0
StepsKeepMembers = (g : Group Entry) (c : ℕ) (s : VrState) (x : VrInput) → is_member g c s ≡ true → is_member g c (vr_step s x).state ≡ true

-- in a group of one, what a step leaves up was up before, and its log goes on from the one before
abbrev pub AloneGoesOn : Type 0
AloneGoesOn = (g : Group Entry) (c : ℕ) (s : VrState) (x : VrInput) → g.most_failures ≡ 0 → c < size g → is_member g c s ≡ true
    → is_up_status (member_state_of (vr_step s x).state).status ≡ true → GoesOn (member_state_of s) (member_state_of (vr_step s x).state)

-- the logs of members make a group
abbrev pub LogsMakeGroups : Type 0
LogsMakeGroups = (most_failures : ℕ) → IsGroup (group_of most_failures)

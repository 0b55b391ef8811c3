-- The closing schedule: which journals bring a run to rest, move by move.
use Rattle.std.specs.Prelude.{◌≡◌, ℕ, zero, suc, ◌+◌, ◌/◌, ◌%◌, max, Bool, true, false, not, nat_eq, nat_lt, ◌||◌, List, [], ◌∷◌, ◌++◌, length, take, filter, reverse, count_by, Option, Some, None, if◌then◌else◌}
use Rattle.std.specs.List.{list_any}
use Rattle.journal.specs.declared.journal.Actor.{Actor}
use Rattle.journal.specs.declared.journal.Actor.TheVariants as actor
use Rattle.journal.specs.declared.journal.JournalEntry.{JournalEntry}
use Rattle.journal.specs.declared.journal.JournalEntry.TheVariants.{Post, Draw, Lose, Local, Idle, Refused}
use Rattle.journal.specs.declared.journal.Local.TheVariants as local
use Rattle.journal.specs.declared.journal.Packet.{Packet}
use Rattle.journal.specs.declared.journal.SaveResult.{SaveResult}
use Rattle.journal.specs.Pool.{pool, past}
use Rattle.vr_log.specs.declared.entry.LogFull.{LogFull}
use Rattle.vr_log.specs.Members.{is_up}
use Rattle.group_controller.specs.State.{ControllerState}
use Rattle.run_spec.specs.States.{Scene}
use Rattle.run_spec.specs.Committed.{controller_state, states_of, members_up}
use Rattle.run_spec.specs.Script.{IsPosted, IsInputOf}

-- the views and promises of the controllers that take part are below this
abbrev pub bound_of : List ControllerState → ℕ
bound_of [] = 0
bound_of (c ∷ cs) = if is_up c.vr then max (suc (max c.vr.view c.vr.promise)) (bound_of cs) else bound_of cs

-- the least view from here on whose primary takes part, over so many views
abbrev pub first_view : ℕ → ℕ → List ℕ → ℕ → ℕ
first_view zero group up view = view
first_view (suc more) group up view =
    if list_any (λ c. nat_eq c (view % group)) up then view else first_view more group up (suc view)

-- the view of a closing: above all views and promises, and with a primary that takes part
abbrev pub closing_view : List ControllerState → ℕ → ℕ
closing_view states group = first_view group group (members_up states) (bound_of states)

-- the controllers that close: the primary, and so many others of the lowest numbers
abbrev pub quorum_of : ℕ → ℕ → List ℕ → List ℕ
quorum_of primary others up =
    filter (λ c. nat_eq c primary || list_any (λ o. nat_eq o c) (take others (filter (λ o. not (nat_eq o primary)) up))) up

-- a majority of a group
abbrev pub majority : ℕ → ℕ
majority group = group / 2 + 1

-- where a closing stands: what waits is lost, the members suspect, the pool is drained, or a proposal met
-- the limit of the log
pub data Phase : Type 0 where
  Losing : Phase
  Suspecting : (view : ℕ) → (quorum members : List ℕ) → Phase
  Draining : (view : ℕ) → (quorum : List ℕ) → Phase
  Met : LogFull → Phase

-- how a closing ends
pub data ClosingAnswer : Type 0 where
  Done : (primary : ℕ) → ClosingAnswer
  NoQuorum : (up needed : ℕ) → ClosingAnswer
  Overfull : (limit : LogFull) → ClosingAnswer

-- what comes next in a closing
pub data ClosingMove (B : Type 0) : Type 0 where
  Takes : JournalEntry B → Phase → ClosingMove B
  Ends : ClosingAnswer → ClosingMove B

-- a packet that is drawn in closing: from a controller to a switch, or to a member of the quorum
abbrev pub is_drawn : List ℕ → Actor → Actor → Bool
is_drawn quorum (actor.Controller c) (actor.Switch s) = true
is_drawn quorum (actor.Switch t) (actor.Switch s) = false
is_drawn quorum (actor.Controller c) (actor.Controller d) = list_any (λ m. nat_eq m d) quorum
is_drawn quorum (actor.Switch s) (actor.Controller d) = list_any (λ m. nat_eq m d) quorum

-- any other packet is lost
abbrev pub drained : {B : Type 0} → List ℕ → Packet B → JournalEntry B
drained quorum p = if is_drawn quorum p.from p.to then Draw p.to p.id false else Lose p.to p.id

-- the next member suspects. Where all did, the packet of the lowest number is drained, until none is left
abbrev pub next_drained : {B : Type 0} → ℕ → ℕ → List ℕ → List (Packet B) → ClosingMove B
next_drained group view quorum [] = Ends (Done (view % group))
next_drained group view quorum (p ∷ packets) = Takes (drained quorum p) (Draining view quorum)

abbrev pub next_suspicion : {B : Type 0} → ℕ → ℕ → List ℕ → List ℕ → List (Packet B) → ClosingMove B
next_suspicion group view quorum (m ∷ members) packets = Takes (Local (actor.Controller m) (local.Suspect view)) (Suspecting view quorum members)
next_suspicion group view quorum [] packets = next_drained group view quorum packets

-- the pool is empty: where a majority takes part, its members suspect
abbrev pub next_view : {B : Type 0} → ℕ → List ControllerState → ClosingMove B
next_view group states =
    if nat_lt (length (members_up states)) (majority group) then Ends (NoQuorum (length (members_up states)) (majority group))
    else
    let view = closing_view states group in
    let quorum = quorum_of (view % group) (group / 2) (members_up states) in
    next_suspicion group view quorum quorum []

-- the packet of the lowest number is lost, until none is left
abbrev pub next_lost : {B : Type 0} → ℕ → List ControllerState → List (Packet B) → ClosingMove B
next_lost group states [] = next_view group states
next_lost group states (p ∷ packets) = Takes (Lose p.to p.id) Losing

-- the next move over a past in which nothing is owed
abbrev pub next_move : {B : Type 0} → Scene B → List (List SaveResult) → Phase → List (JournalEntry B) → ClosingMove B
next_move scene results Losing entries = next_lost scene.setup.controllers (states_of scene results entries) (pool entries)
next_move scene results (Suspecting view quorum members) entries = next_suspicion scene.setup.controllers view quorum members (pool entries)
next_move scene results (Draining view quorum) entries = next_drained scene.setup.controllers view quorum (pool entries)
next_move scene results (Met limit) entries = Ends (Overfull limit)

-- where a closing stands after a turn of a controller: one that went down, its save having failed, begins it again,
-- and a primary whose proposal met the limit of its log ends it
abbrev pub met_by : Option LogFull → Phase → Phase
met_by None next = next
met_by (Some limit) next = Met limit

abbrev pub after_member : ℕ → ControllerState → Phase → Phase
after_member view c next =
    if not (is_up c.vr) then Losing
    else if nat_eq (view % c.vr.controllers) c.vr.me then met_by c.full next else next

-- the same by the view that it closes with. While it only loses packets, no controller takes a turn
abbrev pub after_turn : ControllerState → Phase → Phase
after_turn c Losing = Losing
after_turn c (Suspecting view quorum members) = after_member view c (Suspecting view quorum members)
after_turn c (Draining view quorum) = after_member view c (Draining view quorum)
after_turn c (Met limit) = Met limit

-- where a closing stands after an entry
abbrev pub after_move : {B : Type 0} → Scene B → List (List SaveResult) → JournalEntry B → List (JournalEntry B) → Phase → Phase
after_move scene results (Local (actor.Controller c) input) before next = after_turn (controller_state scene results c (Local (actor.Controller c) input ∷ before)) next
after_move scene results (Draw (actor.Controller c) id keep) before next = after_turn (controller_state scene results c (Draw (actor.Controller c) id keep ∷ before)) next
after_move scene results e before next = next

-- a move takes this entry, and leads to this phase
abbrev pub IsMove : {B : Type 0} → ClosingMove B → JournalEntry B → Phase → Type 0
IsMove (Takes f next) e phase = (e ≡ f) × (phase ≡ next)
IsMove (Ends answer) e phase = ⊥

-- a move ends with this answer
abbrev pub IsEnd : {B : Type 0} → ClosingMove B → ClosingAnswer → Type 0
IsEnd (Takes f next) answer = ⊥
IsEnd (Ends given) answer = answer ≡ given

-- entries that lead a closing from a phase over a past to a later phase, the oldest first. An outbox is
-- posted directly after its input
abbrev pub ClosesTo : {B : Type 0} → Scene B → List (List SaveResult) → Phase → List (JournalEntry B) → List (JournalEntry B) → Phase → Type 0
ClosesTo scene results phase before [] last = last ≡ phase
ClosesTo scene results phase before (Post a first letters lost ∷ rest) last =
    IsInputOf a before × ClosesTo scene results phase (Post a first letters lost ∷ before) rest last
ClosesTo scene results phase before (e ∷ rest) last =
    IsPosted scene results before
    × ((next : Phase) × IsMove (next_move scene results phase before) e next × ClosesTo scene results (after_move scene results e before next) (e ∷ before) rest last)

-- a journal whose closing, which began behind the script's part, stands at this phase
pub record ClosesAt {B : Type 0} (scene : Scene B) (results : List (List SaveResult)) (script journal : List (JournalEntry B)) (phase : Phase) : Type 0 where
  pub entries : List (JournalEntry B)
  pub joined : journal ≡ script ++ entries
  pub steps : ClosesTo scene results Losing (past script) entries phase

-- a closing up to its answer
pub record Closes {B : Type 0} (scene : Scene B) (results : List (List SaveResult)) (before entries : List (JournalEntry B)) (answer : ClosingAnswer) : Type 0 where
  pub last : Phase
  pub steps : ClosesTo scene results Losing before entries last
  pub posted : IsPosted scene results (reverse entries ++ before)
  pub ends : IsEnd (next_move scene results last (reverse entries ++ before)) answer

-- a turn of a closing is a suspicion or a draw
abbrev pub is_turn : {B : Type 0} → JournalEntry B → Bool
is_turn (Draw a id keep) = true
is_turn (Local a input) = true
is_turn (Post a first letters lost) = false
is_turn (Lose a id) = false
is_turn (Idle a) = false
is_turn (Refused a) = false

abbrev pub count_turns : {B : Type 0} → List (JournalEntry B) → ℕ
count_turns entries = count_by is_turn entries

-- The messages of a view change (Viewstamped Replication Revisited, 4.2), and what each does.
use Rattle.std.specs.Prelude.{ℕ, ◌+◌, Bool, nat_eq, nat_le, nat_lt, ◌&&◌, List, length, take, drop, Some, if◌then◌else◌}
use Rattle.vr_log.specs.declared.entry.Entry.{Entry}
use Rattle.vr_log.specs.declared.message.VrMessage.TheVariants as message
use Rattle.vr_log.specs.declared.state.Collected.{Collected}
use Rattle.vr_log.specs.declared.state.VrState.{VrState}
use Rattle.vr_log.specs.Members.{is_changing, is_primary, is_primary_of, is_other, is_later, is_newer, leads}
use Rattle.vr_log.specs.Steps.{VrStep, quiet, tells, then_step, guarded}
use Rattle.vr_log.specs.Choosing.{front}
use Rattle.view_change.specs.Entering.{enter, voted, collects, check, view_start}
use Rattle.view_change.specs.Adopting.{adopt}

-- a later view is entered, and Check is done
abbrev pub enters : VrState → ℕ → VrStep
enters s view = then_step (enter s view) check

-- a suspicion of a later view
abbrev pub suspect : VrState → ℕ → VrStep
suspect s view = if is_later s view then guarded s (enters s view) else quiet s

-- STARTVIEWCHANGE: a vote for a later view, or for this one while it changes. A primary that has started it tells so.
abbrev pub vote_later : VrState → ℕ → ℕ → VrStep
vote_later s from view = guarded s (then_step (enter s view) (λ next. check (voted next from)))

abbrev pub vote_here : VrState → ℕ → VrStep
vote_here s from =
    if is_changing s then guarded s (check (voted s from))
    else if leads s then tells s from (view_start s) else quiet s

abbrev pub start_view_change : VrState → ℕ → ℕ → VrStep
start_view_change s from view =
    if is_other s from
    then (if is_later s view then vote_later s from view else if nat_eq view s.view then vote_here s from else quiet s)
    else quiet s

-- DOVIEWCHANGE: the primary of a later view, or of this one while it changes, collects a log
abbrev pub collect_later : VrState → ℕ → Collected → VrStep
collect_later s view c = guarded s (then_step (enter s view) (λ next. check (collects next c)))

abbrev pub collect : VrState → ℕ → Collected → VrStep
collect s view c =
    if is_later s view then collect_later s view c
    else if nat_eq view s.view && is_changing s then guarded s (check (collects s c)) else quiet s

abbrev pub do_view_change : VrState → ℕ → ℕ → ℕ → ℕ → List Entry → VrStep
do_view_change s from view normal commit log =
    if is_other s from
    then (if is_primary_of s s.me view then collect s view (record { from = from; normal = normal; commit = commit; log = log }) else quiet s)
    else quiet s

-- STARTVIEW: the log of a newer view is adopted
abbrev pub start_view : VrState → ℕ → ℕ → ℕ → ℕ → List Entry → VrStep
start_view s from view first commit log =
    if is_other s from
    then (if is_primary_of s from view && is_newer s view then guarded s (adopt s view first commit log) else quiet s)
    else quiet s

-- it is of this view, which changes
abbrev pub is_change : VrState → ℕ → Bool
is_change s view = is_changing s && nat_eq view s.view

-- FETCH: committed entries are told
abbrev pub fetch : VrState → ℕ → ℕ → ℕ → VrStep
fetch s from view op =
    if is_other s from
    then (if is_change s view && nat_le op s.commit
    then tells s from (message.Supply s.view op (drop op (take s.commit s.log))) else quiet s)
    else quiet s

-- SUPPLY: a primary keeps entries that go beyond those it has
abbrev pub is_message_wanted : VrState → ℕ → ℕ → List Entry → Bool
is_message_wanted s view first log =
    is_change s view && is_primary s && nat_le first s.commit && nat_lt (length (front s)) (first + length log)

abbrev pub supplied : VrState → ℕ → List Entry → VrState
supplied s first log = record s { supply = Some (record { first = first; log = log }) }

abbrev pub supply : VrState → ℕ → ℕ → ℕ → List Entry → VrStep
supply s from view first log =
    if is_other s from
    then (if is_message_wanted s view first log then guarded s (check (supplied s first log)) else quiet s)
    else quiet s

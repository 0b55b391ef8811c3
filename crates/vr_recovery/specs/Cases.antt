-- State transfer (Viewstamped Replication Revisited, 5.2).
use Rattle.std.specs.Prelude.{ℕ, ◌+◌, ◌-◌, Bool, not, nat_le, nat_lt, ◌&&◌, List, ◌++◌, length, drop, if◌then◌else◌}
use Rattle.vr_log.specs.declared.entry.Entry.{Entry}
use Rattle.vr_log.specs.declared.message.VrMessage.TheVariants as message
use Rattle.vr_log.specs.declared.state.VrState.{VrState}
use Rattle.vr_log.specs.Log.{follows}
use Rattle.vr_log.specs.Members.{is_primary, is_primary_of, is_other, is_here, is_newer}
use Rattle.vr_log.specs.Steps.{VrStep, quiet, tells, acknowledges, guarded}
use Rattle.view_change.specs.Adopting.{adopt}

-- GETSTATE: a member that is normal in the view tells the entries behind an op of its log, and its commit
-- number
abbrev pub is_answered : VrState → ℕ → ℕ → Bool
is_answered s view op = is_here s view && nat_le op (length s.log)

abbrev pub get_state : VrState → ℕ → ℕ → ℕ → VrStep
get_state s from view op =
    if is_other s from
    then (if is_answered s view op then tells s from (message.NewState s.view op s.commit (drop op s.log)) else quiet s)
    else quiet s

-- NEWSTATE of this view: it joins this member's log without a gap, and goes on behind it
abbrev pub is_longer : VrState → ℕ → ℕ → List Entry → Bool
is_longer s view first log =
    is_here s view && not (is_primary s) && nat_le first (length s.log) && nat_lt (length s.log) (first + length log)

-- the entries of it that this member lacks
abbrev pub lacking : VrState → ℕ → List Entry → List Entry
lacking s first log = drop (length s.log - first) log

-- they join the log, and all of it is acknowledged; the message is dropped where one of them does not fit
abbrev pub completes : VrState → ℕ → ℕ → List Entry → VrStep
completes s first commit log =
    if follows s.log (lacking s first log) then acknowledges (record s { log = s.log ++ lacking s first log }) commit else quiet s

-- NEWSTATE of a newer view, of which this member is not the primary: it is adopted
abbrev pub is_adopted : VrState → ℕ → ℕ → Bool
is_adopted s view first = not (is_primary_of s s.me view) && nat_le first s.commit && is_newer s view

abbrev pub new_state : VrState → ℕ → ℕ → ℕ → ℕ → List Entry → VrStep
new_state s from view first commit log =
    if is_other s from
    then (if is_longer s view first log then completes s first commit log
    else if is_adopted s view first then guarded s (adopt s view first commit log) else quiet s)
    else quiet s

-- The messages of the normal case (Viewstamped Replication Revisited, 4.1), and what each does.
use Rattle.std.specs.Prelude.{ℕ, zero, suc, ◌+◌, Bool, nat_eq, nat_le, ◌&&◌, List, [], ◌∷◌, length, max, count_by, filter, slice_index, slice_set, if◌then◌else◌}
use Rattle.vr_log.specs.declared.entry.Entry.{Entry}
use Rattle.vr_log.specs.declared.state.VrState.{VrState}
use Rattle.vr_log.specs.Log.{fits}
use Rattle.vr_log.specs.Members.{is_primary, is_primary_of, is_other, is_here, is_later, most_failures, others}
use Rattle.vr_log.specs.Steps.{VrStep, quiet, asks, appended, acknowledges}

-- a message of a later view: its log is asked for behind what is committed here
abbrev pub asks_later : VrState → ℕ → VrStep
asks_later s view = if is_later s view then asks s view s.commit else quiet s

-- what the primary of a view tells: in this view it is done, and of a later one the log is asked for
abbrev pub from_primary : VrState → ℕ → ℕ → VrStep → VrStep
from_primary s from view here =
    if is_other s from
    then (if is_primary_of s from view then (if is_here s view then here else asks_later s view) else quiet s)
    else quiet s

-- PREPARE of this view: a new entry joins the log where it fits, and the message is dropped where it does
-- not; an entry that is there already is acknowledged again; over a gap what lacks is asked for.
abbrev pub prepares : VrState → ℕ → ℕ → Entry → VrStep
prepares s op commit entry =
    if nat_le op (length s.log) then acknowledges s commit
    else (if nat_eq op (length s.log + 1) then (if fits s.log entry then acknowledges (appended s entry) commit else quiet s)
    else asks s s.view (length s.log))

abbrev pub prepare : VrState → ℕ → ℕ → ℕ → ℕ → Entry → VrStep
prepare s from view op commit entry = from_primary s from view (prepares s op commit entry)

-- COMMIT of this view: the commit number rises, or what lacks is asked for
abbrev pub commits : VrState → ℕ → VrStep
commits s commit =
    if nat_le commit (length s.log) then quiet (record s { commit = max s.commit commit }) else asks s s.view (length s.log)

abbrev pub commit_told : VrState → ℕ → ℕ → ℕ → VrStep
commit_told s from view commit = from_primary s from view (commits s commit)

-- how many other members have acknowledged at least this op
abbrev pub acks : VrState → ℕ → ℕ
acks s op = count_by (λ j. nat_le op (slice_index s.acked j)) (others s)

-- f others have, so with the primary a majority of 2f + 1 has
abbrev pub is_agreed : VrState → ℕ → Bool
is_agreed s op = nat_le (most_failures s) (acks s op)

-- the ops of a log of this length, the last one first
abbrev pub ops : ℕ → List ℕ
ops zero = []
ops (suc op) = suc op ∷ ops op

-- the greatest of these numbers, and at least this one
abbrev pub greatest : ℕ → List ℕ → ℕ
greatest least [] = least
greatest least (n ∷ numbers) = max n (greatest least numbers)

-- the greatest op of the log on which a majority agrees, or the commit number
abbrev pub agreed : VrState → ℕ
agreed s = greatest s.commit (filter (is_agreed s) (ops (length s.log)))

-- a member has acknowledged at least so much
abbrev pub acked_by : VrState → ℕ → ℕ → VrState
acked_by s from op = record s { acked = slice_set s.acked from (max op (slice_index s.acked from)) }

abbrev pub counted : VrState → VrState
counted s = record s { commit = agreed s }

-- PREPAREOK: it counts at the normal primary of this view, as far as the log goes
abbrev pub is_counted : VrState → ℕ → ℕ → Bool
is_counted s view op = is_here s view && is_primary s && nat_le op (length s.log)

abbrev pub prepare_ok : VrState → ℕ → ℕ → ℕ → VrStep
prepare_ok s from view op =
    if is_other s from then (if is_counted s view op then quiet (counted (acked_by s from op)) else quiet s) else quiet s

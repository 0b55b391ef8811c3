-- The first part of a closing, as its members see it: they suspect a view one after another, and then what waits is
-- drained, the packet of the lowest number first.
use Rattle.std.specs.Prelude.{ℕ, zero, suc, ◌+◌, nat_eq, List, [], ◌∷◌, ◌++◌, map, if◌then◌else◌}
use Rattle.vr_log.specs.declared.message.VrLetter.{VrLetter}
use Rattle.vr_log.specs.declared.message.VrMessage.{VrMessage}
use Rattle.vr_log.specs.declared.state.VrState.{VrState}
use Rattle.vr_log.specs.Steps.{VrStep}
use Rattle.vr_core.specs.declared.input.VrInput.TheVariants as vr_input
use Rattle.vr_core.specs.Step.{vr_step}
use Rattle.closing_laws.specs.Quorum.{has}

-- a message on its way between members
pub record Flight : Type 0 where
  pub from : ℕ
  pub to : ℕ
  pub message : VrMessage

-- the members by number, what waits, the packet of the lowest number first, and how many turns were taken
pub record GroupState : Type 0 where
  pub at : ℕ → VrState
  pub pool : List Flight
  pub turns : ℕ

-- nothing waits, and no turn was taken
abbrev pub resting_group : (ℕ → VrState) → GroupState
resting_group start = record { at = start; pool = []; turns = 0 }

abbrev pub flown : ℕ → VrLetter → Flight
flown from l = record { from = from; to = l.to; message = l.message }

-- one member takes another state
abbrev pub put_state : (ℕ → VrState) → ℕ → VrState → ℕ → VrState
put_state at c s j = if nat_eq j c then s else at j

-- a turn of a member: its letters go behind what waits
abbrev pub took_flight : GroupState → ℕ → VrStep → List Flight → GroupState
took_flight g c step waiting = record { at = put_state g.at c step.state; pool = waiting ++ map (flown c) step.letters; turns = g.turns + 1 }

-- members suspect a view, in this order
abbrev pub suspected : GroupState → ℕ → ℕ → GroupState
suspected g view c = took_flight g c (vr_step (g.at c) (vr_input.Suspect view)) g.pool

abbrev pub all_suspected : GroupState → ℕ → List ℕ → GroupState
all_suspected g view [] = g
all_suspected g view (c ∷ cs) = all_suspected (suspected g view c) view cs

-- the first packet is drawn by a member of the quorum, or lost
abbrev pub drained_group : List ℕ → GroupState → List Flight → GroupState
drained_group quorum g [] = g
drained_group quorum g (f ∷ waiting) =
    if has quorum f.to then took_flight g f.to (vr_step (g.at f.to) (vr_input.From f.from f.message)) waiting else record g { pool = waiting }

-- so many packets are drained
unfoldable pub drains : ℕ → List ℕ → GroupState → GroupState
drains zero quorum g = g
drains (suc n) quorum g = drains n quorum (drained_group quorum g g.pool)

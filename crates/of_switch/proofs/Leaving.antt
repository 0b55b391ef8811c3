-- What each event of a row that has left keeps, all of them keep.
use Rattle.std.proofs.Common.{◌≡◌, false, List, [], ◌∷◌}
use Rattle.std.specs.Prelude.{nat_eq, if◌then◌else◌}
use Rattle.std.specs.List.{AllByRecursion}
use Rattle.std.proofs.lemmas.Bool.{cond_both}
use Rattle.of_types.specs.declared.numbers.TheConstants.{SEND_REMOVED}
use Rattle.event_buffer.specs.Buffer.{is_full}
use Rattle.flow_clock.specs.declared.times.Expired.{Expired}
use Rattle.of_switch.specs.State.{SwitchState}
use Rattle.of_switch.specs.Events.{with_event, noted_event, flow_removed, tells_left}

-- an event joins where there is room
pub left_told : (P : Expired → Type 0) (Q : SwitchState → Type 0) → ((e : Expired) (s : SwitchState) → P e → is_full s.buffer ≡ false → Q s → Q (with_event s (flow_removed e))) →
    (left : List Expired) → AllByRecursion P left → (s : SwitchState) → Q s → Q (tells_left left s)
left_told P Q keeps [] all s h = h
left_told P Q keeps (e ∷ left) all s h =
    left_told P Q keeps left all.1 (if nat_eq e.flags SEND_REMOVED then noted_event (flow_removed e) s else s)
    (cond_both (nat_eq e.flags SEND_REMOVED) (noted_event (flow_removed e) s) s Q
    (λ _. cond_both (is_full s.buffer) s (with_event s (flow_removed e)) Q (λ _. h) (λ room. keeps e s all.0 room h))
    (λ _. h))

-- whatever the rows are
pub any_left_told : (Q : SwitchState → Type 0) → ((e : Expired) (s : SwitchState) → is_full s.buffer ≡ false → Q s → Q (with_event s (flow_removed e))) →
    (left : List Expired) (s : SwitchState) → Q s → Q (tells_left left s)
any_left_told Q keeps left s h = left_told (λ e. Unit {0}) Q (λ e now any room k. keeps e now room k) left (all left) s h
  where
    all : (xs : List Expired) → AllByRecursion (λ e. Unit {0}) xs
    all [] = tt
    all (x ∷ xs) = (tt, all xs)

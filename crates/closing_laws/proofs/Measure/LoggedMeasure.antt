-- What is left to do at switches, as the primary's log grows; and the whole of what is left, by what a turn of the primary does.
use Rattle.std.proofs.Common.{◌≡◌, ◌≤◌, ◌<◌, ℕ, ◌+◌, ◌-◌, ◌*◌, true, List, [], ◌∷◌, ◌++◌, length, ◌∙◌, ap, subst, arith, mul-add, mul-one, mul-le-mul_left}
use Rattle.std.specs.Prelude.{nat_eq, ◌&&◌, sum_by, if◌then◌else◌}
use Rattle.std.specs.List.{range_with_len}
use Rattle.std.proofs.lemmas.List.Sums.{sum_by-append}
use Rattle.list_facts.specs.Lists.{IsPrefix}
use Rattle.list_facts.proofs.Prefixes.{front_prefix}
use Rattle.of_types.specs.declared.message.Event.{Event}
use Rattle.of_types.specs.declared.setup.Setup.{Setup}
use Rattle.of_types.specs.Lives.{count_in}
use Rattle.of_types.proofs.Counts.{count_here}
use Rattle.journal.specs.declared.journal.Letter.{Letter}
use Rattle.vr_log.specs.Log.{is_log, processed, received}
use Rattle.event_buffer.specs.Buffer.{next_number}
use Rattle.of_switch.specs.State.{SwitchState, life_of}
use Rattle.group_controller.specs.declared.messages.ControllerSays.{ControllerSays}
use Rattle.group_controller.specs.State.{ControllerState, committed}
use Rattle.group_controller.specs.Settling.{is_some_of}
use Rattle.closing_laws.specs.Measure.{commands_from, left_at, left_at_switches, left_to_process, unlogged, unsent}
use Rattle.closing_laws.specs.Serving.{logged_of, sent_of}
use Rattle.closing_laws.proofs.Lists.Sums.{sum_lower}
use Rattle.closing_laws.proofs.Measure.AnswerWorths.{primary_worths}
use Rattle.closing_laws.proofs.Measure.CommandCounts.{before_stays, from_all, open_done, sent_open}
use Rattle.closing_laws.proofs.Measure.PieceMeasure.{Falls}
use Rattle.closing_laws.proofs.Primary.Growth.{log_prefix}
use Rattle.closing_laws.proofs.Primary.Numbering.{in_range}

module _ (setup : Setup) (f : ℕ) (sw : ℕ → SwitchState) (c c' : ControllerState) (view : c'.vr.view ≡ c.vr.view) where
  same_unsent : (s : ℕ) → unsent c' (sw s) ≡ unsent c (sw s)
  same_unsent s =
      ap (λ (v : ℕ). next_number (sw s).buffer - (if is_some_of v (sw s).fence.generation then sent_of (sw s) else (sw s).buffer.cleared) + length (sw s).buffer.dirty) view

  -- no event is logged
  pub same_left : received c'.vr.log ≡ received c.vr.log → left_at_switches setup f c' sw ≡ left_at_switches setup f c sw
  same_left events =
      ap (λ (v : ℕ). sum_by (λ (s : ℕ).
      2 * (next_number (sw s).buffer - (if is_some_of v (sw s).fence.generation then sent_of (sw s) else (sw s).buffer.cleared) + length (sw s).buffer.dirty)
      + (4 * f + 1) * unlogged c' s (sw s)) (range_with_len 0 (length setup.ports))) view
      ∙ ap (λ (es : List Event). sum_by (λ (s : ℕ).
      2 * unsent c (sw s) + (4 * f + 1) * (next_number (sw s).buffer - count_in s (life_of (sw s)) es + length (sw s).buffer.dirty)) (range_with_len 0 (length setup.ports))) events

  -- one of a switch is, in its present life
  module _ (e : Event) (events : received c'.vr.log ≡ received c.vr.log ++ e ∷ []) where
    no_more : (s : ℕ) → unlogged c' s (sw s) ≤ unlogged c s (sw s)
    no_more s =
        let same = ap (count_in s (life_of (sw s))) events in
        let parts = sum_by-append (λ (x : Event). if nat_eq x.switch s && nat_eq x.life (life_of (sw s)) then 1 else 0) (received c.vr.log) (e ∷ []) in
        omega (arith, same, parts)

    left_no_more : (s : ℕ) → left_at f c' s (sw s) ≤ left_at f c s (sw s)
    left_no_more s = let a = same_unsent s in let b = mul-le-mul_left (4 * f + 1) (no_more s) in omega (arith, a, b)

    pub logged_left : (s : ℕ) → s < length setup.ports → e.switch ≡ s → e.life ≡ life_of (sw s) → logged_of c' s (sw s) ≤ next_number (sw s).buffer →
        left_at_switches setup f c' sw + (4 * f + 1) ≤ left_at_switches setup f c sw
    logged_left s there own life within =
        sum_lower (λ (x : ℕ). left_at f c' x (sw x)) (λ (x : ℕ). left_at f c x (sw x)) (range_with_len 0 (length setup.ports)) s (4 * f + 1)
        (in_range 0 (length setup.ports) s (omega arith) (omega (arith, there))) left_no_more
        (let a = same_unsent s in let b = mul-le-mul_left (4 * f + 1) one in let parts = mul-add (4 * f + 1) (unlogged c' s (sw s)) 1 in let unit = mul-one (4 * f + 1) in omega (arith, a, b, parts, unit))
      where
        one : unlogged c' s (sw s) + 1 ≤ unlogged c s (sw s)
        one =
            let here = ap (count_in s (life_of (sw s))) events in
            let more = subst (λ (k : ℕ). count_in k (life_of (sw s)) (received c.vr.log ++ e ∷ []) ≡ count_in k (life_of (sw s)) (received c.vr.log) + 1) own
            (subst (λ (l : ℕ). count_in e.switch l (received c.vr.log ++ e ∷ []) ≡ count_in e.switch l (received c.vr.log) + 1) life (count_here (received c.vr.log) e)) in
            omega (arith, here, more, within)

-- what falls, beside what is left at the switches: the whole falls by one, but for the commands of events that are newly committed
pub whole_falls : (kinds : List ℕ) (setup : Setup) (quorum : List ℕ) (me f : ℕ) (sw : ℕ → SwitchState) (c c' : ControllerState) (letters : List (Letter ControllerSays)) (extra heard place : ℕ) →
    Falls kinds setup quorum me f c c' letters extra → IsPrefix (committed c) (committed c') → is_log c.vr.log ≡ true → place ≤ processed (committed c) →
    left_at_switches setup f c' sw + extra + 1 ≤ heard + left_at_switches setup f c sw →
    primary_worths quorum me letters + left_to_process kinds setup f c' + left_at_switches setup f c' sw + 1 + 3 * commands_from kinds setup c place ≤
    heard + left_to_process kinds setup f c + left_at_switches setup f c sw + 3 * commands_from kinds setup c' place
whole_falls kinds setup quorum me f sw c c' letters extra heard place falls front one early lower =
    let same = before_stays kinds setup c c' place one (log_prefix (front_prefix c.vr.commit c.vr.log) one) early front in
    let a = open_done kinds setup c in
    let b = open_done kinds setup c' in
    let d = from_all kinds setup c place in
    let e = from_all kinds setup c' place in
    let x = sent_open kinds setup c in
    let y = sent_open kinds setup c' in
    omega (arith, falls, lower, same, a, b, d, e, x, y)

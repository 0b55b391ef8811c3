-- What is left to do while a closing is drained, by the turn in which the first of what waits is drawn.
use Rattle.std.proofs.Common.{◌≡◌, ◌≤◌, ◌<◌, inl, inr, ℕ, zero, suc, ◌+◌, ◌*◌, ◌/◌, ◌^◌, Bool, true, false, List, ◌∷◌, ◌++◌, length, map, refl, ◌∙◌, ap, subst, arith}
use Rattle.std.specs.Prelude.{sum_by, if◌then◌else◌}
use Rattle.std.specs.List.{range_with_len}
use Rattle.std.proofs.lemmas.Bool.{cases_eq}
use Rattle.std.proofs.lemmas.List.Sums.{sum_by-append, sum_by-cons}
use Rattle.of_types.specs.declared.message.Spoken.{Spoken}
use Rattle.of_types.specs.declared.setup.Setup.{Setup}
use Rattle.journal.specs.declared.journal.Actor.{Actor}
use Rattle.journal.specs.declared.journal.Actor.TheVariants as actor
use Rattle.journal.specs.declared.journal.Letter.{Letter}
use Rattle.of_switch.specs.declared.says.SwitchInput.TheVariants as switch_input
use Rattle.of_switch.specs.Rules.{switch_turn}
use Rattle.of_switch.specs.State.{SwitchState}
use Rattle.group_controller.specs.declared.messages.ControllerSays.{ControllerSays}
use Rattle.group_controller.specs.State.{ControllerState, Work}
use Rattle.run_spec.specs.declared.messages.Message.{Message}
use Rattle.run_spec.specs.declared.messages.Message.TheVariants as message
use Rattle.run_spec.specs.Closing.{is_drawn}
use Rattle.run_spec.specs.States.{controller_message, switch_message}
use Rattle.closing_laws.specs.Measure.{commands_from, left_at, left_at_switches, left_to_do, left_to_process, message_worth, worth, worths}
use Rattle.closing_laws.specs.Quorum.{has}
use Rattle.closing_laws.specs.Serving.{IsAttended, IsTrueOf}
use Rattle.closing_laws.specs.Ways.{Sent, sent_by}
use Rattle.closing_laws.proofs.Draining.Drained.{put, put_other, put_own}
use Rattle.closing_laws.proofs.Measure.SwitchMeasure.{switch_lowers}
use Rattle.closing_laws.proofs.Measure.Worths.{worths_of}

-- a sum over switches of which one changes
module _ {X : Type 0} (g : ℕ → X → ℕ) (at : ℕ → X) (s : ℕ) (x : X) where
  above : (a n : ℕ) → s < a → sum_by (λ j. g j (put at s x j)) (range_with_len a n) ≡ sum_by (λ j. g j (at j)) (range_with_len a n)
  above a zero less = refl
  above a (suc n) less =
      let p = sum_by-cons (λ j. g j (put at s x j)) a (range_with_len (a + 1) n) in
      let q = sum_by-cons (λ j. g j (at j)) a (range_with_len (a + 1) n) in
      let here = ap (g a) (put_other at s x a (λ e. omega (arith, e, less))) in
      let rest = above (a + 1) n (omega (arith, less)) in
      omega (arith, p, q, here, rest)

  pub sum_changes : (a n : ℕ) → a ≤ s → s < a + n → sum_by (λ j. g j (put at s x j)) (range_with_len a n) + g s (at s) ≡ sum_by (λ j. g j (at j)) (range_with_len a n) + g s x
  sum_changes a zero low high = absurd (omega (arith, low, high))
  sum_changes a (suc n) low high =
      let p = sum_by-cons (λ j. g j (put at s x j)) a (range_with_len (a + 1) n) in
      let q = sum_by-cons (λ j. g j (at j)) a (range_with_len (a + 1) n) in
      elim (cases_eq a s) [
        | inl same ↦
            let here = ap (λ (k : ℕ). g k (put at s x k)) same ∙ ap (g s) (put_own at s x) in
            let there = ap (λ (k : ℕ). g k (at k)) same in
            let rest = above (a + 1) n (omega (arith, same)) in
            omega (arith, p, q, here, there, rest)
        | inr other ↦
            let here = ap (g a) (put_other at s x a other) in
            let rest = sum_changes (a + 1) n (omega (arith, low, other)) (omega (arith, high)) in
            omega (arith, p, q, here, rest)
      ]

-- only the switches of the setup count
sum_alike : {X : Type 0} (g : ℕ → X → ℕ) (at to : ℕ → X) (a n m : ℕ) → a + n ≡ m → ((s : ℕ) → s < m → at s ≡ to s) → sum_by (λ j. g j (at j)) (range_with_len a n) ≡ sum_by (λ j. g j (to j)) (range_with_len a n)
sum_alike g at to a zero m whole same = refl
sum_alike g at to a (suc n) m whole same =
    let p = sum_by-cons (λ j. g j (at j)) a (range_with_len (a + 1) n) in
    let q = sum_by-cons (λ j. g j (to j)) a (range_with_len (a + 1) n) in
    let here = ap (g a) (same a (omega (arith, whole))) in
    let rest = sum_alike g at to (a + 1) n m (omega (arith, whole)) same in
    omega (arith, p, q, here, rest)

pub left_alike : (kinds : List ℕ) (setup : Setup) (quorum : List ℕ) (c : ControllerState) (switches to : ℕ → SwitchState) (waiting : List Sent) → ((s : ℕ) → s < length setup.ports → switches s ≡ to s) →
    left_to_do kinds setup quorum c switches waiting ≡ left_to_do kinds setup quorum c to waiting
left_alike kinds setup quorum c switches to waiting same =
    let sums = sum_alike (λ (s : ℕ) (x : SwitchState). left_at (setup.controllers / 2) c s x) switches to 0 (length setup.ports) (length setup.ports) (omega arith) same in
    omega (arith, sums)

module _ (kinds : List ℕ) (setup : Setup) (quorum : List ℕ) (c : ControllerState) (switches : ℕ → SwitchState) (m : Sent) (rest : List Sent) where
  drawn_first : is_drawn quorum m.from m.to ≡ true → worths quorum (m ∷ rest) ≡ message_worth m.said + worths quorum rest
  drawn_first drawn = sum_by-cons (worth quorum) m rest ∙ ap (λ (b : Bool). (if b then message_worth m.said else 0) + worths quorum rest) drawn

  -- a message that is lost is worth nothing
  pub lost_lowers : is_drawn quorum m.from m.to ≡ false → left_to_do kinds setup quorum c switches rest ≡ left_to_do kinds setup quorum c switches (m ∷ rest)
  lost_lowers lost =
      let first = sum_by-cons (worth quorum) m rest ∙ ap (λ (b : Bool). (if b then message_worth m.said else 0) + worths quorum rest) lost in
      omega (arith, first)

  -- a member draws one from its primary
  pub member_turn_lowers : (b : ℕ) (letters : List (Letter ControllerSays)) → is_drawn quorum m.from m.to ≡ true →
      worths_of quorum controller_message (actor.Controller b) letters + 1 ≤ message_worth m.said →
      left_to_do kinds setup quorum c switches (rest ++ map (sent_by controller_message (actor.Controller b)) letters) + 1 ≤ left_to_do kinds setup quorum c switches (m ∷ rest)
  member_turn_lowers b letters drawn less =
      let first = drawn_first drawn in
      let parts = sum_by-append (worth quorum) rest (map (sent_by controller_message (actor.Controller b)) letters) in
      omega (arith, first, parts, less)

  -- the primary draws one
  pub primary_turn_lowers : (p place : ℕ) (said : Message) (work : Work) → c.vr.me ≡ p → is_drawn quorum m.from m.to ≡ true → m.said ≡ said →
      worths_of quorum controller_message (actor.Controller c.vr.me) work.letters + left_to_process kinds setup (setup.controllers / 2) work.state
      + left_at_switches setup (setup.controllers / 2) work.state switches + 1 + 3 * commands_from kinds setup c place ≤
      message_worth said + left_to_process kinds setup (setup.controllers / 2) c + left_at_switches setup (setup.controllers / 2) c switches + 3 * commands_from kinds setup work.state place →
      left_to_do kinds setup quorum work.state switches (rest ++ map (sent_by controller_message (actor.Controller p)) work.letters) + 1 + 3 * commands_from kinds setup c place ≤
      left_to_do kinds setup quorum c switches (m ∷ rest) + 3 * commands_from kinds setup work.state place
  primary_turn_lowers p place said work own drawn is less =
      let first = drawn_first drawn ∙ ap (λ (x : Message). message_worth x + worths quorum rest) is in
      let parts = sum_by-append (worth quorum) rest (map (sent_by controller_message (actor.Controller p)) work.letters) in
      let same = ap (λ (k : ℕ). worths_of quorum controller_message (actor.Controller k) work.letters) own in
      omega (arith, first, parts, same, less)

  -- a switch draws one
  pub switch_turn_lowers : (p s xid : ℕ) (said : Spoken) (out in_ : List Message) → c.vr.me ≡ p → has quorum p ≡ true → m.from ≡ actor.Controller p → m.to ≡ actor.Switch s → m.said ≡ message.Of xid said →
      s < length setup.ports → c.vr.view < 2 ^ 32 → IsAttended kinds setup c s (switches s) (message.Of xid said ∷ out) in_ → IsTrueOf kinds setup c s (switches s) →
      let turn = switch_turn (switches s) (switch_input.Of p xid said) in
      left_to_do kinds setup quorum c (put switches s turn.state) (rest ++ map (sent_by switch_message (actor.Switch s)) turn.letters) + 1 ≤ left_to_do kinds setup quorum c switches (m ∷ rest)
  switch_turn_lowers p s xid said out in_ own inside from to is there small served is_true =
      subst (λ (q : ℕ). let turn = switch_turn (switches s) (switch_input.Of q xid said) in
      left_to_do kinds setup quorum c (put switches s turn.state) (rest ++ map (sent_by switch_message (actor.Switch s)) turn.letters) + 1 ≤ left_to_do kinds setup quorum c switches (m ∷ rest)) own here
    where
      here : let turn = switch_turn (switches s) (switch_input.Of c.vr.me xid said) in
          left_to_do kinds setup quorum c (put switches s turn.state) (rest ++ map (sent_by switch_message (actor.Switch s)) turn.letters) + 1 ≤ left_to_do kinds setup quorum c switches (m ∷ rest)
      here =
          let turn = switch_turn (switches s) (switch_input.Of c.vr.me xid said) in
          let mine = ap (has quorum) own ∙ inside in
          let first = drawn_first (ap (λ (a : Actor). is_drawn quorum a m.to) from ∙ ap (λ (a : Actor). is_drawn quorum (actor.Controller p) a) to) ∙ ap (λ (x : Message). message_worth x + worths quorum rest) is in
          let parts = sum_by-append (worth quorum) rest (map (sent_by switch_message (actor.Switch s)) turn.letters) in
          let one = switch_lowers kinds setup c s (switches s) xid said out in_ small served is_true quorum mine (setup.controllers / 2) in
          let sums = sum_changes (λ (j : ℕ) (x : SwitchState). left_at (setup.controllers / 2) c j x) switches s turn.state 0 (length setup.ports) (omega arith) (omega (arith, there)) in
          omega (arith, first, parts, sums, one)

-- An actor of a list took its turn.
use Rattle.std.proofs.Common.{◌≡◌, ◌<◌, ℕ, List, ◌++◌, length, take, drop, refl, sym, ◌∙◌, ap, arith, append-nil, take_all}
use Rattle.std.proofs.Math.ListN.{drop_of_length-le}
use Rattle.std.proofs.lemmas.Option.{slice_get-get_or}
use Rattle.std.specs.Prelude.{get_or, slice_get, slice_set, Some, Result, Ok, Err, IfOk, OnErr}
use Rattle.journal.specs.declared.journal.Letter.{Letter}
use Rattle.journal.specs.Stables.{Saving}
use Rattle.app_core.specs.Law.{AppLaw}
use Rattle.group_controller.specs.declared.messages.ControllerInput.{ControllerInput}
use Rattle.group_controller.specs.declared.messages.ControllerSays.{ControllerSays}
use Rattle.group_controller.specs.Turns.{Controlling}
use Rattle.of_switch.specs.declared.says.SwitchInput.{SwitchInput}
use Rattle.of_switch.specs.declared.says.SwitchSays.{SwitchSays}
use Rattle.of_switch.specs.State.{SwitchState}
use Rattle.run_spec.specs.Legal.{AreTyped}
use Rattle.run_spec.specs.States.{controller_message, switch_message}
use Rattle.players.specs.Turns.{ControllerTurned, ControllerWanted, SwitchTurned}
use Rattle.world.specs.Actors.{ControllerTakes, ControllerWants, SwitchTakes}
use Rattle.world.proofs.Places.{set_same}

-- what was indexed stands there
pub stood_at : {X : Type 0} (xs : List X) (i : ℕ) (x : X) → i < length xs → x ≡ get_or xs i x → slice_get xs i ≡ Some x
stood_at xs i x less is = slice_get-get_or xs i x less ∙ ap (λ y. Some y) (sym is)

-- a controller took its turn beside its stable pair, or found no memory for it
module _ {A W E : Type 0} (law : AppLaw A) (saving : Saving W) (before : List (Controlling A)) (stables : List W) (number : ℕ) (old new : Controlling A) (stable stable_after : W)
    (stood : slice_get before number ≡ Some old) (stable_stood : slice_get stables number ≡ Some stable) where
  pub controller_took : (input : ControllerInput) (result : Result (List (Letter ControllerSays)) E) →
      IfOk result (λ letters. ControllerTurned law saving old stable input new stable_after letters × AreTyped controller_message letters) →
      IfOk result (λ letters. AreTyped controller_message letters × ControllerTakes law saving input before stables number (slice_set before number new) (slice_set stables number stable_after) letters)
  controller_took input (Ok letters) h = (
    h.1,
    record { old = old; new = new; stable = stable; stable_after = stable_after; stood = stood; stable_stood = stable_stood; state = refl; stables_are = refl; turned = h.0 },
  )
  controller_took input (Err e) h = tt

  pub controller_wanted : {T : Type 0} (result : Result T E) → OnErr result (ControllerWanted law saving old stable new stable_after) →
      OnErr result (ControllerWants law saving before stables number (slice_set before number new) (slice_set stables number stable_after))
  controller_wanted (Ok x) h = tt
  controller_wanted (Err e) h = record { old = old; new = new; stable = stable; stable_after = stable_after; stood = stood; stable_stood = stable_stood; state = refl; stables_are = refl; wanted = h }

-- a switch took its turn, or found no memory for it
module _ {E : Type 0} (before : List SwitchState) (number : ℕ) (old new : SwitchState) (stood : slice_get before number ≡ Some old) where
  pub switch_took : (input : SwitchInput) (result : Result (List (Letter SwitchSays)) E) →
      IfOk result (λ letters. SwitchTurned old input new letters × AreTyped switch_message letters) →
      IfOk result (λ letters. SwitchTakes input before number (slice_set before number new) letters × AreTyped switch_message letters)
  switch_took input (Ok letters) h = (record { old = old; new = new; stood = stood; state = refl; turned = h.0 }, h.1)
  switch_took input (Err e) h = tt

  pub switch_wanted : {T : Type 0} (result : Result T E) → OnErr result (new ≡ old) → OnErr result (slice_set before number new ≡ before)
  switch_wanted (Ok x) h = tt
  switch_wanted (Err e) h = ap (λ s. slice_set before number s) h ∙ set_same before number old stood

-- a slice of a list that was written back whole
pub written_back : {X : Type 0} (len : ℕ) (old new : List X) → len ≡ length old → length new ≡ length old → take len (new ++ drop (length new) old) ≡ new
written_back len old new len_is same =
    ap (λ l. take len (new ++ l)) (drop_of_length-le old (omega (arith, same))) ∙ ap (λ l. take len l) (append-nil new) ∙ take_all len new (omega (arith, len_is, same))

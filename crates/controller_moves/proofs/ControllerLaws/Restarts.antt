-- A controller that is down rests, or begins its next life.
use Rattle.std.proofs.Common.{inl, inr, ◌⊎◌, ◌≡◌, ℕ, ◌+◌, true, List, refl, ap, ◌∙◌}
use Rattle.std.specs.Prelude.{nat_lt}
use Rattle.of_types.specs.declared.setup.Setup.{Setup}
use Rattle.of_types.specs.Lives.{last_life}
use Rattle.journal.specs.declared.journal.Local.TheVariants as local
use Rattle.vr_log.specs.declared.message.VrLetter.{VrLetter}
use Rattle.vr_log.specs.declared.message.VrMessage.TheVariants as message
use Rattle.vr_log.specs.Members.{others}
use Rattle.vr_log.specs.Steps.{letter, to_others}
use Rattle.vr_recovery.specs.Recovering.{recovering_state}
use Rattle.group_controller.specs.declared.messages.ControllerInput.{ControllerInput}
use Rattle.group_controller.specs.declared.messages.ControllerInput.TheVariants as controller_input
use Rattle.group_controller.specs.Rules.{on_restart, is_down, controller_work}
use Rattle.group_controller.specs.State.{ControllerState, resting, to_member}
use Rattle.controller_moves.specs.ControllerLaws.Laws.{IsRestarted}
use Rattle.list_facts.proofs.Elements.{in_map}
use Rattle.controller_moves.proofs.ControllerLaws.ControllerTurns.{down_keeps}

module _ (kinds : List ℕ) (setup : Setup) (x : ControllerInput) (c : ControllerState) where
  restarts : nat_lt c.vr.life last_life ≡ true → IsRestarted c (on_restart c)
  restarts less =
      rw less
      (record {
        state_is = refl;
        save_is = refl;
        letters = λ l k.
            let s = recovering_state c.vr.me c.vr.controllers c.vr.promise (c.vr.life + 1) in
            let a = in_map to_member (to_others s (message.Recovery (c.vr.life + 1) c.vr.promise)) l k in
            let b = in_map (letter (message.Recovery (c.vr.life + 1) c.vr.promise)) (others s) a.0 a.1 in
            (b.0, a.2 ∙ ap (λ (m : VrLetter). to_member m) b.2);
      })

  pub down_rests : is_down c ≡ true → (controller_work kinds setup c x ≡ resting c) ⊎ ((x ≡ controller_input.Local local.Restart) × IsRestarted c (controller_work kinds setup c x))
  down_rests off =
      down_keeps kinds setup c x (λ w. (w ≡ resting c) ⊎ ((x ≡ controller_input.Local local.Restart) × IsRestarted c w)) off (inl refl) (λ is less. inr (is, restarts less))

-- What the letters of a controller tell of what is committed.
use Rattle.std.proofs.Common.{◌≡◌, ℕ, ◌+◌, ◌%◌, true, List, length, take, sym, ap, ◌∙◌, arith}
use Rattle.std.proofs.lemmas.Bool.{eqb-true, and_parts}
use Rattle.of_types.specs.declared.message.Order.{Order}
use Rattle.of_types.specs.declared.setup.Setup.{Setup}
use Rattle.journal.specs.declared.journal.Letter.{Letter}
use Rattle.vr_log.specs.declared.entry.Entry.{Entry}
use Rattle.vr_log.specs.declared.message.VrMessage.TheVariants as message
use Rattle.vr_log.specs.declared.state.VrState.{VrState}
use Rattle.vr_log.specs.Log.{received, processed}
use Rattle.vr_log.specs.Members.{is_normal, is_primary, leads}
use Rattle.vr_log.specs.Steps.{letter}
use Rattle.app_core.specs.Chain.{concat}
use Rattle.app_core.specs.Issued.{commands_of, issues, issued}
use Rattle.dispatcher.specs.Marks.{settled_commands, is_wanted}
use Rattle.group_controller.specs.declared.messages.ControllerInput.{ControllerInput}
use Rattle.group_controller.specs.declared.messages.ControllerSays.{ControllerSays}
use Rattle.group_controller.specs.State.{ControllerState, committed}
use Rattle.controller_moves.specs.ControllerLaws.Moves as said_of
use Rattle.controller_moves.specs.ControllerLaws.Letters as told
use Rattle.controller_moves.specs.ControllerLaws.Moves.{IsSaid, Prepares, Asks, Commands, Acks, Clears, Echoes}
use Rattle.controller_moves.specs.ControllerLaws.Letters.{Leads}
use Rattle.list_facts.proofs.Elements.{in_filter}
use Rattle.controller_moves.proofs.ControllerLaws.Issued.{command_between, issued-take, count-orders}

-- the test of one that leads
pub leads_is : (s : VrState) → leads s ≡ true → Leads s
leads_is s h = let a = and_parts (is_normal s) (is_primary s) h in record { normal = a.0; primary = eqb-true (s.view % s.controllers) s.me a.1 }

module _ (kinds : List ℕ) (setup : Setup) where
  -- settled commands are those that are issued for the processed events
  pub settled_is : (log : List Entry) (s l : ℕ) → settled_commands kinds setup log s l ≡ length (issued kinds setup s l (take (processed log) (received log)))
  settled_is log s l =
      count-orders s l (concat (take (processed log) (issues kinds setup (received log)))) ∙ ap (λ (os : List Order). length os) (sym (issued-take kinds setup s l (processed log) (received log)))

  -- what a letter tells
  pub says_told : (x : ControllerInput) (c : ControllerState) (l : Letter ControllerSays) → IsSaid kinds setup x c l → told.LetterTells kinds setup x c l
  says_told x c l (said_of.Tells m said is) = told.Member m is
  says_told x c l (Prepares to entry lead proposed is) = told.Member (letter (message.Prepare c.vr.view (length c.vr.log + 1) c.vr.commit entry) to) is
  says_told x c l (Asks s lead is) = told.Role s (leads_is c.vr lead) is
  says_told x c l (Commands n lead among is) =
      let k = in_filter (is_wanted (committed c) c.marks) (commands_of kinds setup (received (committed c)) (processed (committed c))) n among in
      let b = command_between kinds setup (received (committed c)) (processed (committed c)) n k in
      let settled = settled_is (committed c) n.switch n.life in
      let least = b.least in
      told.Command n.switch n.life (settled_commands kinds setup (committed c) n.switch n.life) n.number n.order (leads_is c.vr lead)
      (record { there = b.there; settled_is = settled; least = omega (arith, least, settled); most = b.most; stands = b.stands }) is
  says_told x c l (Acks s life lead is) = told.Ack s life (leads_is c.vr lead) is
  says_told x c l (Clears s life lead is) = told.Clear s life (settled_commands kinds setup (committed c) s life) (leads_is c.vr lead) (settled_is (committed c) s life) is
  says_told x c l (Echoes s xid body asks is) = told.Echo s xid body asks is

use Rattle.std.proofs.Common.{◌∙◌, sym, ap, subst}
use Rattle.of_switch.specs.State.{SwitchState, SwitchTurn}
use Rattle.of_switch.specs.Events.{with_port}
use Rattle.of_switch.specs.Drafts.{Draft, IsDraft, drafted}
use Rattle.of_switch.proofs.Turns.{change-is, change-drafted}
use Rattle.of_switch.proofs.switch.Switch.tell_change.Goals as goal

pub finish-requires : goal.finish-requires
finish-requires c = subst (λ (d : Draft). IsDraft c.args.self.now d) (sym c.in_ok-draft.ensures) (change-is _ _ _)

pub returns-clause-ok : goal.returns-clause-ok
returns-clause-ok c =
    let s' : SwitchState = with_port c.args.self.now c.args.port c.args.up in
    let same = ap (λ (d : Draft). drafted s' d) c.in_ok-draft.ensures ∙ sym (change-drafted c.args.self.now c.args.port c.args.up) in
    record {
      state_is =
          c.set_port.ensures
          ∙ ap (λ (s : SwitchState). with_port s c.args.port c.args.up) c.in_ok-letters.ensures.ok.state_is
          ∙ ap (λ (t : SwitchTurn). t.state) same;
      letters_are = c.in_ok-letters.ensures.ok.letters_are ∙ ap (λ (t : SwitchTurn). t.letters) same;
    }

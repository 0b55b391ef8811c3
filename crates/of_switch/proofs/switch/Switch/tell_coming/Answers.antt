use Rattle.std.proofs.Common.{◌∙◌, sym, ap, subst}
use Rattle.std.specs.Prelude.{ℕ, List, IfOk}
use Rattle.of_switch.specs.State.{SwitchState, SwitchTurn, Turned}
use Rattle.of_switch.specs.Events.{cleared}
use Rattle.of_switch.specs.Drafts.{Draft, IsDraft, drafted, forgetting, with_ports}
use Rattle.of_switch.proofs.Turns.{ack-is, ack-drafted}
use Rattle.of_switch.proofs.switch.Switch.tell_coming.Goals as goal

pub acknowledge-requires-clause-kind : goal.acknowledge-requires-clause-kind
acknowledge-requires-clause-kind c =
    let s = c.args.self.now in
    let told = rw (c.coming.ensures, c.draft_past-draft.ensures) at c.in_ok-tell.ensures.ok in
    subst (λ (d : Draft). IsDraft (cleared s c.args.through) d) (sym c.in_ok-raise_ports.ensures.ok) (ack-is s c.args.through c.deref.result.now c.tell.new.self told)

pub returns-clause-ok : goal.returns-clause-ok
returns-clause-ok c =
    let s = c.args.self.now in
    let b : SwitchState = cleared s c.args.through in
    let ports = c.in_ok-ports.ports.items in
    let told = rw (c.coming.ensures, c.draft_past-draft.ensures) at c.in_ok-tell.ensures.ok in
    subst (λ (t : SwitchTurn). IfOk c.acknowledge.result (λ letters. Turned t c.acknowledge.new.self letters))
    (ap (λ (ns : List ℕ). drafted (forgetting ns b) c.raise_ports.new.draft) c.deref-2.ensures.value
    ∙ ap (λ (d : Draft). drafted (forgetting ports b) d) (c.in_ok-raise_ports.ensures.ok ∙ ap (λ (ns : List ℕ). with_ports s ns c.tell.new.self) c.deref.ensures.value)
    ∙ sym (ack-drafted s c.args.through c.room.result ports c.tell.new.self told c.room.ensures.room c.in_ok-ports.ensures.ports))
    c.acknowledge.ensures.ok

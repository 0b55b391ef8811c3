use Rattle.std.proofs.Common.{◌∙◌, sym, ap, subst}
use Rattle.std.specs.Prelude.{IfOk}
use Rattle.std.proofs.lemmas.Bool.{lt-ltb}
use Rattle.of_switch.specs.State.{SwitchTurn, Turned, life_of}
use Rattle.of_switch.specs.Events.{next_life}
use Rattle.of_switch.specs.Drafts.{Draft, IsDraft, drafted}
use Rattle.of_switch.proofs.Turns.{restart-is, restart-drafted}
use Rattle.of_switch.proofs.switch.Switch.restart.Goals as goal

pub begin_life-requires-clause-kind : goal.begin_life-requires-clause-kind
begin_life-requires-clause-kind c = subst (λ (d : Draft). IsDraft (next_life c.args.self.now) d) (sym c.in_ok-draft.ensures) (restart-is c.args.self.now)

pub returns-clause-ok : goal.returns-clause-ok
returns-clause-ok c =
    let s = c.args.self.now in
    subst (λ (t : SwitchTurn). IfOk c.begin_life.result (λ letters. Turned t c.begin_life.new.self letters))
    (ap (λ (d : Draft). drafted (next_life s) d) c.in_ok-draft.ensures ∙ sym (restart-drafted s (lt-ltb (life_of s) 15 c.requires))) c.begin_life.ensures.ok

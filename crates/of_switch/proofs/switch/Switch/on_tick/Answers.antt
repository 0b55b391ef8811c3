use Rattle.std.proofs.Common.{◌∙◌, sym, ap, subst}
use Rattle.flow_clock.specs.Clocked.{Clocked, clock_tick, clock_told}
use Rattle.of_switch.specs.contracts.switch.Switch.{the_view}
use Rattle.of_switch.specs.State.{SwitchState, SwitchTurn}
use Rattle.of_switch.specs.Drafts.{Draft, IsDraft, drafted}
use Rattle.of_switch.proofs.Ticks.{ticked-is, ticked-drafted}
use Rattle.of_switch.proofs.switch.Switch.on_tick.Goals as goal

pub finish-requires : goal.finish-requires
finish-requires c = subst (λ (d : Draft). IsDraft c.args.self.now d) (sym c.in_ok-draft.ensures) (ticked-is c.args.self.now c.deref.result.now)

pub returns-clause-ok : goal.returns-clause-ok
returns-clause-ok c =
    let s = c.args.self.now in
    let told = c.in_ok-letters.ensures.ok in
    let draft = c.in_ok-draft.ensures in
    let left = c.deref.ensures.value ∙ c.in_ok-left.ensures.told ∙ ap (λ (x : SwitchState). clock_told x.table) c.self.view_is in
    let turn = ticked-drafted s c.deref.result.now left in
    record {
      state_is =
          ap (λ (t : Clocked). record (the_view c.self-2.inside) { table = t }) c.rise.ensures.risen
          ∙ ap (λ (x : SwitchState). record x { table = clock_tick x.table }) (c.self-2.view_is ∙ told.state_is)
          ∙ ap (λ (d : Draft). record (drafted s d).state { table = clock_tick s.table }) draft
          ∙ ap (λ (t : SwitchTurn). t.state) turn;
      letters_are = told.letters_are ∙ ap (λ (d : Draft). (drafted s d).letters) draft ∙ ap (λ (t : SwitchTurn). t.letters) turn;
    }

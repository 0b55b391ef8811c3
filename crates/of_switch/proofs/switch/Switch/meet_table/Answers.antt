use Rattle.std.proofs.Common.{◌∙◌, ℕ, List, length, sym, ap, subst}
use Rattle.of_types.specs.declared.message.Fields.{Fields}
use Rattle.flow_clock.specs.Clocked.{Clocked, clock_hit}
use Rattle.flow_table.specs.Table.{chosen_row}
use Rattle.of_switch.specs.contracts.switch.Switch.{the_view}
use Rattle.of_switch.specs.State.{SwitchState, SwitchTurn, rows_of}
use Rattle.of_switch.specs.Forwarding.{frame_fields_at}
use Rattle.of_switch.specs.Drafts.{Draft, IsDraft, draft_of, drafted, with_draft_row}
use Rattle.of_switch.proofs.Turns.{row-is, row-drafted}
use Rattle.of_switch.proofs.switch.Switch.meet_table.Goals as goal

pub finish-requires : goal.finish-requires
finish-requires c =
    let s = c.args.self.now in
    let frame = c.args.frame in
    let fields = c.fields_of-fields.ensures ∙ ap (λ (bytes : List ℕ). frame_fields_at c.args.port bytes) c.as_slice.ensures in
    let draft = c.in_ok-draft.ensures ∙ ap (λ (f : Fields). with_draft_row s c.args.port frame (chosen_row (rows_of s) f) (draft_of s)) fields in
    subst (λ (d : Draft). IsDraft s d) (sym draft) (row-is s c.args.port frame (chosen_row (rows_of s) (frame_fields_at c.args.port frame)))

pub returns-clause-ok : goal.returns-clause-ok
returns-clause-ok c =
    let s = c.args.self.now in
    let frame = c.args.frame in
    let fields = c.fields_of-fields.ensures ∙ ap (λ (bytes : List ℕ). frame_fields_at c.args.port bytes) c.as_slice.ensures in
    let draft = c.in_ok-draft.ensures ∙ ap (λ (f : Fields). with_draft_row s c.args.port frame (chosen_row (rows_of s) f) (draft_of s)) fields in
    let turn = ap (λ (d : Draft). drafted s d) draft ∙ row-drafted s c.args.port frame (chosen_row (rows_of s) (frame_fields_at c.args.port frame)) in
    let told = c.in_ok-letters.ensures.ok in
    let hit =
    c.hit.ensures.counted
    ∙ ap (λ (f : Fields). clock_hit c.self.inside.table f c.len-length.result) fields
    ∙ ap (λ (n : ℕ). clock_hit c.self.inside.table (frame_fields_at c.args.port frame) n) c.len-length.ensures in
    record {
      state_is =
          ap (λ (t : Clocked). record (the_view c.self.inside) { table = t }) hit
          ∙ ap (λ (x : SwitchState). record x { table = clock_hit x.table (frame_fields_at c.args.port frame) (length frame) }) (c.self.view_is ∙ told.state_is ∙ ap (λ (t : SwitchTurn). t.state) turn);
      letters_are = told.letters_are ∙ ap (λ (t : SwitchTurn). t.letters) turn;
    }

use Rattle.std.proofs.Common.{◌≡◌, ◌++◌, take, refl, sym, ◌∙◌}
use Rattle.vr_log.specs.Log.{IsLog}
use Rattle.vr_log.proofs.Logs.{IsLog_take, IsLog_append}
use Rattle.vr_log.proofs.Tallies.{told}
use Rattle.vr_log.proofs.log.Log.replace_after.Goals as goal

pub returns-then-not-branch-clause-answer : goal.returns-then-not-branch-clause-answer
returns-then-not-branch-clause-answer c =
    let lawful : IsLog c.args.self.now = rw (sym c.self.view_is) c.self.invariant.0 in
    let t = told c.args.self.now c.args.entries c.as_slice.result.now c.args.first c.in_ok-tally.tally c.add_all.new.self c.in_ok-add_all.field-0 lawful c.in_ok-tally.ensures c.as_slice.ensures c.in_ok-add_all.ensures in
    sym c.if-not-branch.true ∙ t.0

pub invariant_of-self-2 : goal.invariant_of-self-2
invariant_of-self-2 c =
    let lawful : IsLog c.args.self.now = rw (sym c.self.view_is) c.self.invariant.0 in
    let t = told c.args.self.now c.args.entries c.as_slice.result.now c.args.first c.in_ok-tally.tally c.add_all.new.self c.in_ok-add_all.field-0 lawful c.in_ok-tally.ensures c.as_slice.ensures c.in_ok-add_all.ensures in
    let left : c.append.new.self.items ≡ take c.args.first c.args.self.now ++ c.args.entries = c.in_ok-append.ensures.items ∙ rw (c.truncate.ensures.items, c.in_ok-reserve_after.ensures.same, c.self.view_is, c.into_vec-entries.ensures) refl in
    rw left (IsLog_append (take c.args.first c.args.self.now) c.args.entries (IsLog_take c.args.first c.args.self.now lawful) (sym t.0 ∙ c.if-not-branch.false), t.1 c.if-not-branch.false)

pub returns-clause-answer : goal.returns-clause-answer
returns-clause-answer c =
    let lawful : IsLog c.args.self.now = rw (sym c.self.view_is) c.self.invariant.0 in
    let t = told c.args.self.now c.args.entries c.as_slice.result.now c.args.first c.in_ok-tally.tally c.add_all.new.self c.in_ok-add_all.field-0 lawful c.in_ok-tally.ensures c.as_slice.ensures c.in_ok-add_all.ensures in
    sym c.if-not-branch.false ∙ t.0

use Rattle.std.proofs.Common.{◌≡◌, ℕ, ◌+◌, ◌-◌, true, false, sym, ◌∙◌, subst, arith}
use Rattle.std.specs.Prelude.{◌%◌}
use Rattle.closing_quorum.proofs.Looking.{has, look_found, look_on}
use Rattle.closing_quorum.proofs.first_view.Goals as goal

pub returns-then-has-clause-first : goal.returns-then-has-clause-first
returns-then-has-clause-first c =
    let below = c.looking-test.true in
    sym (look_found (c.args.group - c.looking.counter) (c.args.group - (c.looking.counter + 1)) c.args.group c.looking.view c.args.up.now (omega (arith, below)) (subst (λ (n : ℕ). has c.args.up.now (c.looking.view % n) ≡ true) c.from.ensures (sym c.has.ensures ∙ c.if-has.true))) ∙ c.looking.invariant.rest

pub looking-preserved : goal.looking-preserved
looking-preserved c =
    let below = c.looking-test.true in
    let before = c.looking.invariant.view_is in
    record {
      view_is = omega (arith, before);
      rest = sym (look_on (c.args.group - c.looking.counter) (c.args.group - (c.looking.counter + 1)) c.args.group c.looking.view c.args.up.now (omega (arith, below)) (subst (λ (n : ℕ). has c.args.up.now (c.looking.view % n) ≡ false) c.from.ensures (sym c.has.ensures ∙ c.if-has.false))) ∙ c.looking.invariant.rest;
    }

use Rattle.report.proofs.Outlines.{letter_passed}
use Rattle.report.proofs.outline.pass_letter.Goals as goal

pub returns : goal.returns
returns c = letter_passed c.args.bytes.now c.in_ok-rest.rest.now c.in_ok-rest-2.field-0-0 c.in_ok-rest-2.rest.now c.pass_hex.result c.in_ok-rest.ensures c.in_ok-rest-2.ensures c.pass_hex.ensures

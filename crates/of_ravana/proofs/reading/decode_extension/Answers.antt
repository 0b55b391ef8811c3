use Rattle.std.proofs.Common.{arith}
use Rattle.of_ravana.proofs.Laws.{is_found, is_read, is_valid, is_short}
use Rattle.of_ravana.proofs.reading.decode_extension.Goals as goal

pub returns-clause-found : goal.returns-clause-found
returns-clause-found c = is_found c.args.body.now c.first_answer.result (λ i. omega (arith, c.type_inv.body i)) c.first_answer.ensures

pub returns-clause-only : goal.returns-clause-only
returns-clause-only c = λ said s. is_read c.args.body.now said c.first_answer.result s c.first_answer.ensures

pub returns-clause-valid : goal.returns-clause-valid
returns-clause-valid c = is_valid c.args.body.now c.first_answer.result (λ i. omega (arith, c.type_inv.body i)) c.first_answer.ensures

pub returns-clause-short : goal.returns-clause-short
returns-clause-short c = is_short c.args.body.now c.first_answer.result (λ i. omega (arith, c.type_inv.body i)) c.first_answer.ensures

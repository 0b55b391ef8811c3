use Rattle.std.proofs.Common.{arith}
use Rattle.of_messages.proofs.Laws.{is_found, is_read, is_valid, is_short}
use Rattle.of_messages.proofs.reading.decode.Goals as goal

pub returns-clause-found : goal.returns-clause-found
returns-clause-found c = is_found c.args.frame.now c.first_answer.result (λ i. omega (arith, c.type_inv.frame i)) c.first_answer.ensures

pub returns-clause-only : goal.returns-clause-only
returns-clause-only c = λ xid m s. is_read c.args.frame.now xid m c.first_answer.result s c.first_answer.ensures

pub returns-clause-valid : goal.returns-clause-valid
returns-clause-valid c = is_valid c.args.frame.now c.first_answer.result (λ i. omega (arith, c.type_inv.frame i)) c.first_answer.ensures

pub returns-clause-short : goal.returns-clause-short
returns-clause-short c = is_short c.args.frame.now c.first_answer.result (λ i. omega (arith, c.type_inv.frame i)) c.first_answer.ensures

use Rattle.std.proofs.Common.{arith}
use Rattle.vr_codec.proofs.Laws.{is_found, is_valid, is_read}
use Rattle.vr_codec.proofs.reading.decode_vr.Goals as goal

pub returns-clause-found : goal.returns-clause-found
returns-clause-found c = is_found c.args.bytes.now c.first_answer.result (λ i. omega (arith, c.type_inv.bytes i)) c.first_answer.ensures

pub returns-clause-valid : goal.returns-clause-valid
returns-clause-valid c = is_valid c.args.bytes.now c.first_answer.result (λ i. omega (arith, c.type_inv.bytes i)) c.first_answer.ensures

pub returns-clause-only : goal.returns-clause-only
returns-clause-only c = λ m s. is_read c.args.bytes.now m c.first_answer.result s c.first_answer.ensures

use Rattle.std.proofs.Common.{OnErr, subst}
use Rattle.std.specs.Io.KnownBytes.{Appends}
use Rattle.report.specs.Report.{hex_of}
use Rattle.report.proofs.Pieces.{if_err, front_before, front_of_last}
use Rattle.streams.specs.Fronts.{AppendsFront}
use Rattle.report.proofs.parts.write_part.Goals as goal

pub returns-in_err-write_all-clause-err : goal.returns-in_err-write_all-clause-err
returns-in_err-write_all-clause-err g c =
    let front = subst (AppendsFront (g.K.Sink.taken c.args.sink.now) (g.K.Sink.taken c.write_all.new.sink)) c.as_slice.ensures c.in_err-write_all.ensures.err in
    if_err c.from_residual.result (front_before _ _ c.args.part.now.words (hex_of c.args.part.now.body) front)

pub returns-clause-err : goal.returns-clause-err
returns-clause-err g c =
    let words = subst (Appends (g.K.Sink.taken c.args.sink.now) (g.K.Sink.taken c.write_all.new.sink)) c.as_slice.ensures c.in_ok-write_all.ensures.ok in
    let body = subst (λ l. OnErr c.spell_all.result (AppendsFront (g.K.Sink.taken c.write_all.new.sink) (g.K.Sink.taken c.spell_all.new.sink) (hex_of l))) c.as_slice-2.ensures c.spell_all.ensures.err in
    front_of_last c.spell_all.result _ _ _ c.args.part.now.words (hex_of c.args.part.now.body) words body

use Rattle.std.proofs.Common.{◌<◌, length, map, take_all, refl, ap, ◌∙◌, arith}
use Rattle.std.proofs.lemmas.List.{length-map}
use Rattle.std.proofs.lemmas.Option.{slice_get_read}
use Rattle.journal.specs.declared.packed.Slip.{Slip}
use Rattle.journal.specs.Mailbags.{body_of, letter_of}
use Rattle.journal.proofs.Lists.{if_at, map_at}
use Rattle.journal.proofs.Packing.{moved_nowhere, one_more}
use Rattle.journal.proofs.packed.Packed.repeat.Goals as goal

pub returns-clause-ok : goal.returns-clause-ok
returns-clause-ok c =
    let bytes = c.self.inside.bytes in
    let slips = c.self.inside.slips.items in
    let slip = c.index.result.now in
    let within : c.args.index < length slips = omega (arith, c.requires, ap length c.self.view_is, length-map slips (letter_of bytes)) in
    let here = slice_get_read slips (length slips) c.args.index slip refl within c.index.ensures in
    let copied : Slip = record { to = c.args.to; body = c.in_ok-slip.slip.body } in
    let is = ap (λ (s : Slip). body_of bytes s.body) (c.in_ok-slip.ensures ∙ moved_nowhere slip) in
    rw (← c.self.view_is) (if_at _ (map (letter_of bytes) slips) c.args.index (letter_of bytes slip) (map_at (letter_of bytes) slips c.args.index slip here)
    (ap (map (letter_of bytes)) c.in_ok-push.ensures.items ∙ one_more bytes bytes (body_of bytes slip.body) slips copied (take_all (length bytes) bytes (omega arith)) c.self.invariant is))

use Rattle.std.proofs.Common.{map, take, ap, ◌∙◌}
use Rattle.journal.specs.Mailbags.{letter_of}
use Rattle.journal.proofs.Packing.{map_take}
use Rattle.journal.proofs.packed.Packed.truncate.Goals as goal

pub returns-else-count-eq0 : goal.returns-else-count-eq0
returns-else-count-eq0 c =
    let letter = letter_of c.self.inside.bytes in
    ap (map letter) c.truncate.ensures.items ∙ map_take letter c.args.count c.self.inside.slips.items ∙ ap (take c.args.count) c.self.view_is

use Rattle.std.proofs.Common.{arith, refl}
use Rattle.journal.specs.Places.{packet_at}
use Rattle.journal.proofs.Picking.{leaves, picked_is, stays, weight_is}
use Rattle.journal.proofs.ledger.Ledger.leave.Goals as goal

pub returns-then-keep-clause-left : goal.returns-then-keep-clause-left
returns-then-keep-clause-left g c =
    stays g.B.Weight.size c.args.self.now c.requires.kept c.args.actor c.args.choice c.args.place c.requires.found c.args.keep c.if-keep.true

pub size-requires : goal.size-requires
size-requires g c =
    let is = picked_is g.B.Weight.size c.args.self.now c.requires.kept c.args.actor c.args.choice c.args.place c.requires.found in
    rw is.is.stands refl

pub overflow_sub-self : goal.overflow_sub-self
overflow_sub-self g c =
    let is = picked_is g.B.Weight.size c.args.self.now c.requires.kept c.args.actor c.args.choice c.args.place c.requires.found in
    omega (arith, is.some)

pub overflow_sub-self-2 : goal.overflow_sub-self-2
overflow_sub-self-2 g c =
    let is = picked_is g.B.Weight.size c.args.self.now c.requires.kept c.args.actor c.args.choice c.args.place c.requires.found in
    let weight = weight_is g.B.Weight.size (packet_at c.args.place c.args.self.now.entries.items) is.packet c.size.result c.size.ensures is.is.stands in
    omega (arith, weight, is.small)

pub returns-clause-left : goal.returns-clause-left
returns-clause-left g c =
    let is = picked_is g.B.Weight.size c.args.self.now c.requires.kept c.args.actor c.args.choice c.args.place c.requires.found in
    let weight = weight_is g.B.Weight.size (packet_at c.args.place c.args.self.now.entries.items) is.packet c.size.result c.size.ensures is.is.stands in
    leaves g.B.Weight.size c.args.self.now c.requires.kept c.args.actor c.args.choice c.args.place c.requires.found c.args.keep c.leave.new.self c.size.result c.if-keep.false c.leave.ensures.left c.leave.ensures.order weight

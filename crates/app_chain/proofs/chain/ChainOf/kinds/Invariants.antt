use Rattle.std.proofs.Common.{◌≡◌, take, map}
use Rattle.app_chain.proofs.chain.ChainOf.kinds.Given as goal

abbrev pub invariant-loop-part : goal.invariant-loop-part
invariant-loop-part g l = l.kinds.items ≡ map g.P.Part.kind_of (take l.part-index l.self)

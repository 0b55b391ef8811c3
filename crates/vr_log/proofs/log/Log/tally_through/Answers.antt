use Rattle.std.proofs.Common.{[]}
use Rattle.vr_log.proofs.Logs.{follows_take}
use Rattle.vr_log.proofs.log.Log.tally_through.Goals as goal

pub tally_of-requires : goal.tally_of-requires
tally_of-requires c = rw c.deref.ensures.value (follows_take c.args.first [] c.self.inside.entries.items c.self.invariant.0.follow)

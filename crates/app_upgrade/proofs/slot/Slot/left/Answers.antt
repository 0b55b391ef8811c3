-- A slot is its parts, and nothing else.
use Rattle.std.proofs.Common.{refl}
use Rattle.app_upgrade.proofs.slot.Slot.left.Goals as goal

pub returns-clause-all : goal.returns-clause-all
returns-clause-all c = (c.args.self.now.parts, c.args.self.now.last, refl)

use Rattle.capture_laws.proofs.Known.{told}
use Rattle.capture_laws.proofs.Sizes.{are_blocks}
use Rattle.capture_laws.proofs.laws.blocks_law.Goals as goal

pub returns-clause-blocks : goal.returns-clause-blocks
returns-clause-blocks c = are_blocks

pub returns-clause-told : goal.returns-clause-told
returns-clause-told c = told

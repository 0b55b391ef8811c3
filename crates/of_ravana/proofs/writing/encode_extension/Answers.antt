use Rattle.of_ravana.proofs.Written.{extension_spelled, extension_has_size}
use Rattle.of_ravana.proofs.writing.encode_extension.Goals as goal

pub returns-clause-spelled : goal.returns-clause-spelled
returns-clause-spelled c = λ v short. extension_spelled c.args.said.now v c.extension_fits.ensures short

pub returns-clause-size : goal.returns-clause-size
returns-clause-size c = extension_has_size c.args.said.now

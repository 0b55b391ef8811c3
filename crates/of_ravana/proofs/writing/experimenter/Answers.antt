use Rattle.std.proofs.Common.{◌∙◌}
use Rattle.of_messages.proofs.Written.{message_size}
use Rattle.of_types.specs.declared.message.OfMessage.TheVariants as plain
use Rattle.of_ravana.specs.Canonical.{canonical_extension}
use Rattle.of_ravana.proofs.Written.{extension_has_size, said_spelled}
use Rattle.of_ravana.proofs.writing.experimenter.Goals as goal

pub returns-clause-spelled : goal.returns-clause-spelled
returns-clause-spelled c = λ v short. said_spelled c.args.xid c.args.said.now v c.extension_fits.ensures short c.u32_fits.ensures

pub returns-clause-size : goal.returns-clause-size
returns-clause-size c = message_size c.args.xid (plain.Experimenter (canonical_extension c.args.said.now)) ∙ extension_has_size c.args.said.now

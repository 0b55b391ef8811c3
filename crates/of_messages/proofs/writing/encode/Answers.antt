use Rattle.of_messages.proofs.Written.{message_spelled, message_size}
use Rattle.of_messages.proofs.writing.encode.Goals as goal

pub returns-clause-spelled : goal.returns-clause-spelled
returns-clause-spelled c = λ v short. message_spelled c.args.xid c.args.message.now v c.message_fits.ensures short c.u32_fits.ensures

pub returns-clause-size : goal.returns-clause-size
returns-clause-size c = message_size c.args.xid c.args.message.now

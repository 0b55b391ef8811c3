use Rattle.of_messages.specs.Canonical.{canonical}
use Rattle.of_messages.proofs.Again.{message_again}
use Rattle.of_messages.proofs.Laws.{one_message}
use Rattle.of_messages.proofs.Written.{message_spelled, message_size, message_xid}
use Rattle.of_messages.proofs.reading.message_law.Goals as goal

pub returns-clause-again : goal.returns-clause-again
returns-clause-again c = λ xid m valid fits short small. message_again (canonical xid m) xid m (message_spelled xid m valid fits short small)

pub returns-clause-one : goal.returns-clause-one
returns-clause-one c = one_message

pub returns-clause-xid : goal.returns-clause-xid
returns-clause-xid c = message_xid

pub returns-clause-size : goal.returns-clause-size
returns-clause-size c = message_size

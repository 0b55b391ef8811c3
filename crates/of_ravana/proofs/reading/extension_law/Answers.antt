use Rattle.of_ravana.specs.Canonical.{canonical_extension}
use Rattle.of_ravana.proofs.Again.{extension_again}
use Rattle.of_ravana.proofs.Laws.{one_message}
use Rattle.of_ravana.proofs.Spoken.{one_spoken, no_plain}
use Rattle.of_ravana.proofs.Written.{extension_spelled, extension_has_size}
use Rattle.of_ravana.proofs.reading.extension_law.Goals as goal

pub returns-clause-again : goal.returns-clause-again
returns-clause-again c = λ said valid fits short. extension_again (canonical_extension said) said (extension_spelled said valid fits short)

pub returns-clause-one : goal.returns-clause-one
returns-clause-one c = one_message

pub returns-clause-one_spoken : goal.returns-clause-one_spoken
returns-clause-one_spoken c = one_spoken

pub returns-clause-no_plain : goal.returns-clause-no_plain
returns-clause-no_plain c = no_plain

pub returns-clause-size : goal.returns-clause-size
returns-clause-size c = extension_has_size

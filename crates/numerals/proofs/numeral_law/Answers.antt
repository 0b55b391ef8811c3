use Rattle.numerals.proofs.Decimal.{numeral_again, numeral_spells}
use Rattle.numerals.proofs.numeral_law.Goals as goal

pub returns : goal.returns
returns c = record { again = numeral_again; one = numeral_spells }

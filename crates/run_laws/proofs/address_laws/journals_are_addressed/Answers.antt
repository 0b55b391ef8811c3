use Rattle.run_laws.proofs.AddressLaws.Journals.{journals_addressed}
use Rattle.run_laws.proofs.address_laws.journals_are_addressed.Goals as goal

pub returns : goal.returns
returns g c = journals_addressed

use Rattle.run_laws.proofs.AddressLaws.Switches.{switches_write}
use Rattle.run_laws.proofs.address_laws.switches_write_to_actors.Goals as goal

pub returns : goal.returns
returns c = switches_write

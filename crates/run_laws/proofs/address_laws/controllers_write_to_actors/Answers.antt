use Rattle.run_laws.proofs.AddressLaws.Controllers.{controllers_write}
use Rattle.run_laws.proofs.address_laws.controllers_write_to_actors.Goals as goal

pub returns : goal.returns
returns c = controllers_write

use Rattle.run_laws.proofs.Laws.{led_law}
use Rattle.run_laws.proofs.decided_is_led.Goals as goal

pub returns : goal.returns
returns g c = led_law

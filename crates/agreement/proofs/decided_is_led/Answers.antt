use Rattle.agreement.proofs.Leading.{led_law}
use Rattle.agreement.proofs.decided_is_led.Goals as goal

pub returns : goal.returns
returns g c = led_law

-- A hub keeps the laws of rules: it asks for one frame at most, which goes out at the switch where it came in.
use Rattle.std.proofs.Common.{◌≤◌, ◌<◌, ℕ, length, arith}
use Rattle.of_types.specs.declared.message.Happening.{Happening}
use Rattle.of_types.specs.declared.message.Happening.TheVariants as happening
use Rattle.of_types.specs.declared.numbers.TheConstants.{FLOOD}
use Rattle.of_types.specs.declared.setup.Setup.{Setup}
use Rattle.app_core.specs.Chain.{hub_rule}
use Rattle.app_core.specs.Hub.{hub_commands}
use Rattle.app_core.specs.Orders.{AreGoodCommands}
use Rattle.app_core.specs.Rules.{HasLaws}
use Rattle.app_core.proofs.Spelled.{out_lawful}

hub_lawful : (setup : Setup) (life number switch : ℕ) → switch < length setup.ports → (what : Happening) →
    AreGoodCommands setup (record { switch = switch; life = life; number = number; what = what }) (hub_commands switch what)
hub_lawful setup life number switch there (happening.PacketIn p) = (out_lawful setup life number switch there p FLOOD, tt)
hub_lawful setup life number switch there (happening.PortStatus p) = tt
hub_lawful setup life number switch there (happening.FlowRemoved r) = tt

hub_few : (switch : ℕ) (what : Happening) → length (hub_commands switch what) ≤ 1
hub_few switch (happening.PacketIn p) = omega arith
hub_few switch (happening.PortStatus p) = omega arith
hub_few switch (happening.FlowRemoved r) = omega arith

pub hub_laws : HasLaws hub_rule
hub_laws = record {
  lawful = λ setup is state event there. hub_lawful setup event.life event.number event.switch there event.what;
  few = λ setup is before event there. hub_few event.switch event.what;
}

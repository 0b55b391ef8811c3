-- Output ports in place or in memory, as the list that they are.
use Rattle.std.specs.Prelude.{ℕ, List, []}
use Rattle.of_types.specs.declared.actions.Ports.{Ports}
use Rattle.of_types.specs.declared.actions.Ports.TheVariants as ports

-- the ports, in order
abbrev pub ports_in : Ports → List ℕ
ports_in ports.None = []
ports_in (ports.One port) = port
ports_in (ports.Many list) = list.value.items

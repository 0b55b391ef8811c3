-- Where links lead that are up, as ports go down and come up.
use Rattle.std.specs.Prelude.{ℕ, zero, suc, List, Option, Some, None}
use Rattle.of_types.specs.declared.setup.Setup.{Setup}
use Rattle.app_core.specs.declared.switch_port.SwitchPort.{SwitchPort}
use Rattle.app_core.specs.Routes.{if_up}
use Rattle.route_app.specs.declared.up_links.UpLinks.{UpLinks}
use Rattle.route_app.specs.declared.wires.Wires.{Wires}
use Rattle.route_app.specs.Tables.{led, IsUpTable}
use Rattle.route_app.specs.Wired.{end_over}

-- the table has where the links of a setup lead that are up
abbrev pub AreUp : Setup → UpLinks → Type 0
AreUp setup links = IsUpTable setup links.down.items links.table.items

-- a link is in a table in both directions where it is up, and in none where it is down
abbrev pub with_link : List SwitchPort → List (Option SwitchPort) → SwitchPort → Option SwitchPort → List (Option SwitchPort)
with_link down table at None = table
with_link down table at (Some end) = led (led table at (if_up down at (Some end))) end (if_up down end (Some at))

-- the link at a port
abbrev pub relinked : Wires → List SwitchPort → List (Option SwitchPort) → SwitchPort → List (Option SwitchPort)
relinked wires down table at = with_link down table at (end_over wires at)

-- the links at the first ports of a switch, from port 0 on
unfoldable pub relinked_ports : Wires → List SwitchPort → List (Option SwitchPort) → ℕ → ℕ → List (Option SwitchPort)
relinked_ports wires down table switch zero = table
relinked_ports wires down table switch (suc port) = relinked wires down (relinked_ports wires down table switch port) (record { switch = switch; port = port })

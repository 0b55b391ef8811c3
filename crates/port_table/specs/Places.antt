-- Tables of ports: 49 places for each switch, one for each of its ports from 0 on.
use Rattle.std.specs.Prelude.{ℕ, ◌*◌, ◌+◌, Bool, true, nat_lt, ◌&&◌, List, length, set, if◌then◌else◌}
use Rattle.app_core.specs.declared.switch_port.SwitchPort.{SwitchPort}

-- the places that a switch has in the table, for ports 0 to 48
abbrev pub width : ℕ
width = 49

-- the place of a port
abbrev pub place : SwitchPort → ℕ
place at = width * at.switch + at.port

-- a port is marked, where it has a place
abbrev pub marked : List Bool → SwitchPort → List Bool
marked flags at = if nat_lt at.port width && nat_lt (place at) (length flags) then set flags (place at) true else flags

-- The wires of a setup, by their ends.
use Rattle.std.specs.Prelude.{◌&&◌, ◌||◌, ◌==◌, ℕ, Bool, List}
use Rattle.std.specs.List.{list_any}
use Rattle.of_types.specs.declared.setup.Link.{Link}

-- whether a port is an end of a wire, and of one of these
abbrev pub is_end : ℕ → ℕ → Link → Bool
is_end switch port l = (l.switch == switch && l.port == port) || (l.peer == switch && l.peer_port == port)

abbrev pub is_taken : ℕ → ℕ → List Link → Bool
is_taken switch port links = list_any (is_end switch port) links

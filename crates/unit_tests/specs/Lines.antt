-- The links of switches in a line: port 2 of each leads to port 3 of the next.
use Rattle.std.specs.Prelude.{ℕ, ◌+◌, List, map}
use Rattle.std.specs.List.{range_with_len}
use Rattle.of_types.specs.declared.setup.Link.{Link}

abbrev pub link_at : ℕ → Link
link_at s = record { switch = s; port = 2; peer = s + 1; peer_port = 3 }

-- the links from a switch on
unfoldable pub line_links : ℕ → ℕ → List Link
line_links first n = map link_at (range_with_len first n)

-- The scenario that the generator makes of four numbers.
use Rattle.std.specs.Prelude.{ℕ, ◌+◌, ◌/◌, ◌%◌, nat_lt, List, [], ◌∷◌, ◌++◌, map, replicate, if◌then◌else◌}
use Rattle.std.specs.List.{range_with_len}
use Rattle.of_bytes.specs.Numbers.{two, four, zeros}
use Rattle.journal.specs.declared.journal.Actor.TheVariants as actor
use Rattle.journal.specs.declared.journal.Local.TheVariants as local
use Rattle.journal.specs.declared.journal.Turn.{Turn}
use Rattle.journal.specs.declared.journal.Turn.TheVariants as turn
use Rattle.scenario.specs.declared.scenario.Scenario.{Scenario}

-- the ports that a frame of a round goes from and to, counted from 0, of the four that each switch has
abbrev pub from_port : ℕ → ℕ → ℕ
from_port number round = (round + number) % 4

abbrev pub to_port : ℕ → ℕ → ℕ
to_port number round = (from_port number round + 1 + round / 4 % 3) % 4

-- the address of the host at a port of a switch, both counted from 0
unfoldable pub host_address : ℕ → ℕ → List ℕ
host_address switch port = 2 ∷ 0 ∷ 0 ∷ 0 ∷ switch ∷ (port + 1) ∷ []

-- a frame of 64 bytes, from one host to another of its switch: destination, source, the type 88b5, its
-- number, and zeros
unfoldable pub frame_between : ℕ → ℕ → ℕ → ℕ → List ℕ
frame_between switch from to t =
    host_address switch to ++ (host_address switch from ++ (two 0x88b5 ++ (four t ++ zeros 46)))

unfoldable pub frame_turn : ℕ → ℕ → ℕ → Turn
frame_turn number switches t =
    let switch = t % switches in
    let round = t / switches in
    turn.Local (actor.Switch switch) (local.Frame (from_port number round + 1) (frame_between switch (from_port number round) (to_port number round) t))

-- the crash of a controller, where others may go on
abbrev pub last_crash : ℕ → ℕ → List Turn
last_crash number controllers =
    if nat_lt controllers 3 then [] else turn.Local (actor.Controller (number % controllers)) local.Crash ∷ []

abbrev pub script : ℕ → ℕ → ℕ → ℕ → List Turn
script number controllers switches frames = map (frame_turn number switches) (range_with_len 0 frames) ++ last_crash number controllers

abbrev pub generated : ℕ → ℕ → ℕ → ℕ → Scenario
generated number controllers switches frames =
    record {
      setup = record { controllers = controllers; ports = replicate switches 4; links = []; deny = [] };
      steps = script number controllers switches frames;
    }

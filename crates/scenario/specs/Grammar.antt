-- How a scenario is written: the shape of each of its parts. A part of another shape is None.
use Rattle.std.specs.Prelude.{ℕ, ◌+◌, min, Bool, false, ◌==◌, nat_le, ◌&&◌, List, [], ◌∷◌, map, Option, Some, None, option_map, codes, if◌then◌else◌}
use Rattle.std.specs.List.{list_any}
use Rattle.std.specs.Result.{result_ok}
use Rattle.std.specs.Str.{bytes_eq}
use Rattle.serde_json.specs.Data.{Data}
use Rattle.serde_json.specs.Find.{get}
use Rattle.serde_json.specs.View.{view}
use Rattle.hex.specs.Hex.{decode_of}
use Rattle.numerals.specs.Numerals.{numeral}
use Rattle.journal.specs.declared.journal.Actor.{Actor}
use Rattle.journal.specs.declared.journal.Actor.TheVariants.{Controller, Switch}
use Rattle.scenario.specs.declared.grammar.Lists.{Lists}
use Rattle.scenario.specs.declared.written.WrittenSwitch.{WrittenSwitch}
use Rattle.scenario.specs.declared.written.WrittenLink.{WrittenLink}
use Rattle.scenario.specs.declared.written.WrittenPrefix.{WrittenPrefix}
use Rattle.scenario.specs.declared.written.WrittenRule.{WrittenRule}
use Rattle.scenario.specs.declared.written.WrittenStep.{WrittenStep}
use Rattle.scenario.specs.declared.written.WrittenStep.TheVariants.{Frame, Port, Tick, Draw, Lose, Suspect, Crash, RestartController, RestartSwitch}
use Rattle.scenario.specs.Json.{◌>>=◌, number_of_json, number_member, number_or, flag_at, flag_or, text_at, list, list_at, list_or_none, counted_members, only}

abbrev pub is_capital : ℕ → Bool
is_capital c = nat_le 65 c && nat_le c 90

-- the bytes that pairs of hexadecimal digits spell, none of them a capital letter
abbrev pub small_hex_bytes : List ℕ → Option (List ℕ)
small_hex_bytes text = if list_any is_capital text then None else result_ok (decode_of text)

-- a number that no setup has
abbrev pub no_actor : ℕ
no_actor = 255

-- the actor of a name, a letter and a numeral. A number that no setup has may stand for any other
abbrev pub actor_named : List ℕ → Option Actor
actor_named [] = None
actor_named (letter ∷ digits) = do
  n ← option_map (λ n. min n no_actor) (numeral digits)
  if letter == 99 then Some (Controller n) else if letter == 115 then Some (Switch n) else None

abbrev pub actor_of_step : List ℕ → Data → Option Actor
actor_of_step name value = text_at name value >>= actor_named

abbrev pub switch_of : Data → Option WrittenSwitch
switch_of value = do
  ports ← number_member (codes "ports") value
  only 1 value (record { ports = ports })

-- exactly four numbers
abbrev pub four_numbers : List Data → Option WrittenLink
four_numbers (a ∷ b ∷ c ∷ d ∷ []) = do
  switch ← number_of_json a
  port ← number_of_json b
  peer ← number_of_json c
  peer_port ← number_of_json d
  Some (record { switch = switch; port = port; peer = peer; peer_port = peer_port })
four_numbers _ = None

abbrev pub link_of : Data → Option WrittenLink
link_of value = list value >>= four_numbers

-- exactly five numbers
abbrev pub five_numbers : List Data → Option WrittenPrefix
five_numbers (a ∷ b ∷ c ∷ d ∷ e ∷ []) = do
  first ← number_of_json a
  second ← number_of_json b
  third ← number_of_json c
  fourth ← number_of_json d
  length ← number_of_json e
  Some (record { bytes = first ∷ second ∷ third ∷ fourth ∷ []; length = length })
five_numbers _ = None

abbrev pub prefix_at : List ℕ → Data → Option WrittenPrefix
prefix_at name value = get name value >>= list >>= five_numbers

-- a number, or none where it is left out
abbrev pub number_if_any : List ℕ → Data → Option (Option ℕ)
number_if_any name value = elim (get name value) [ None ↦ Some None | Some said ↦ option_map Some (number_of_json said) ]

abbrev pub rule_of_json : Data → Option WrittenRule
rule_of_json value = do
  proto ← number_member (codes "proto") value
  src ← prefix_at (codes "src") value
  dst ← prefix_at (codes "dst") value
  port ← number_if_any (codes "port") value
  only (3 + counted_members (codes "port") value) value (record { proto = proto; src = src; dst = dst; port = port })

-- the steps, by what they do
abbrev pub frame_of_step : Data → Option WrittenStep
frame_of_step value = do
  switch ← number_member (codes "switch") value
  port ← number_member (codes "port") value
  bytes ← text_at (codes "bytes") value >>= small_hex_bytes
  only 4 value (Frame switch port bytes)

abbrev pub port_of : Data → Option WrittenStep
port_of value = do
  switch ← number_member (codes "switch") value
  port ← number_member (codes "port") value
  up ← flag_at (codes "up") value
  only 4 value (Port switch port up)

abbrev pub tick_of : Data → Option WrittenStep
tick_of value = do
  actor ← actor_of_step (codes "actor") value
  times ← number_or 1 (codes "times") value
  only (2 + counted_members (codes "times") value) value (Tick actor times)

abbrev pub draw_of : Data → Option WrittenStep
draw_of value = do
  actor ← actor_of_step (codes "actor") value
  choice ← number_or 0 (codes "choice") value
  keep ← flag_or false (codes "keep") value
  times ← number_or 1 (codes "times") value
  only (2 + counted_members (codes "choice") value + counted_members (codes "keep") value + counted_members (codes "times") value) value (Draw actor choice keep times)

abbrev pub lose_of : Data → Option WrittenStep
lose_of value = do
  actor ← actor_of_step (codes "actor") value
  choice ← number_or 0 (codes "choice") value
  times ← number_or 1 (codes "times") value
  only (2 + counted_members (codes "choice") value + counted_members (codes "times") value) value (Lose actor choice times)

abbrev pub suspect_of : Data → Option WrittenStep
suspect_of value = do
  controller ← number_member (codes "controller") value
  view ← number_member (codes "view") value
  only 3 value (Suspect controller view)

abbrev pub crash_of : Data → Option WrittenStep
crash_of value = do
  controller ← number_member (codes "controller") value
  only 2 value (Crash controller)

-- of a controller or of a switch
abbrev pub restart_of : Data → Option WrittenStep
restart_of value =
    elim (get (codes "controller") value) [
      | Some said ↦ do
        controller ← number_of_json said
        only 2 value (RestartController controller)
      | None ↦ do
        switch ← number_member (codes "switch") value
        only 2 value (RestartSwitch switch)
    ]

-- the step of a word, but for a frame
abbrev pub plain_step : List ℕ → Data → Option WrittenStep
plain_step word value =
    if bytes_eq word (codes "port") then port_of value
    else if bytes_eq word (codes "tick") then tick_of value
    else if bytes_eq word (codes "draw") then draw_of value
    else if bytes_eq word (codes "lose") then lose_of value
    else if bytes_eq word (codes "suspect") then suspect_of value
    else if bytes_eq word (codes "crash") then crash_of value
    else if bytes_eq word (codes "restart") then restart_of value
    else None

-- the step that an object says, by what it does
abbrev pub step_of_json : Data → Option WrittenStep
step_of_json value = do
  word ← text_at (codes "do") value
  if bytes_eq word (codes "frame") then frame_of_step value else plain_step word value

-- the members of a scenario, with its lists unread
pub record ListsSaid : Type 0 where
  pub controllers : ℕ
  pub switches : List Data
  pub links : List Data
  pub deny : List Data
  pub steps : List Data

abbrev pub lists_of : Data → Option ListsSaid
lists_of value = do
  controllers ← number_member (codes "controllers") value
  switches ← list_at (codes "switches") value
  links ← list_or_none (codes "links") value
  deny ← list_or_none (codes "deny") value
  steps ← list_at (codes "steps") value
  only (3 + counted_members (codes "links") value + counted_members (codes "deny") value) value
      (record { controllers = controllers; switches = switches; links = links; deny = deny; steps = steps })

-- what was read of the top of a scenario, each value by its data
abbrev pub seen : Lists → ListsSaid
seen lists =
    record {
      controllers = lists.controllers;
      switches = map view lists.switches.now;
      links = map view lists.links.now;
      deny = map view lists.deny.now;
      steps = map view lists.steps.now;
    }

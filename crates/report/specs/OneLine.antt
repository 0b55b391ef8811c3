-- Each line of a report as it is read. One that is past a limit of a setup does not fit.
use Rattle.std.specs.Prelude.{ℕ, ◌-◌, ◌%◌, ◌^◌, Bool, not, ◌==◌, ◌&&◌, ◌||◌, nat_eq, nat_lt, nat_le, List, length, slice_index, Option, Some, None, codes, if◌then◌else◌}
use Rattle.std.specs.List.{starts_with}
use Rattle.numerals.specs.Numerals.{is_numeral}
use Rattle.of_types.specs.declared.message.Event.{Event}
use Rattle.of_types.specs.declared.message.Executed.{Executed}
use Rattle.of_types.specs.declared.setup.Link.{Link}
use Rattle.of_types.specs.declared.setup.Prefix.{Prefix}
use Rattle.of_types.specs.declared.setup.Rule.{Rule}
use Rattle.of_types.specs.Setups.{is_group}
use Rattle.journal.specs.declared.journal.JournalEntry.{JournalEntry}
use Rattle.journal.specs.declared.journal.JournalEntry.TheVariants as entry
use Rattle.journal.specs.declared.journal.Letter.{Letter}
use Rattle.journal.specs.declared.journal.Local.{Local}
use Rattle.journal.specs.declared.journal.Local.TheVariants as local
use Rattle.vr_log.specs.declared.entry.Entry.{Entry}
use Rattle.vr_log.specs.declared.entry.Entry.TheVariants.{Received, Processed}
use Rattle.report.specs.declared.journal_lines.PostLine.{PostLine}
use Rattle.report.specs.declared.record.RowRecord.{RowRecord}
use Rattle.report.specs.declared.switch_lines.SwitchLine.{SwitchLine}
use Rattle.report.specs.Canonical.{happening_in_text, order_in_text, matching_at, actions_told}
use Rattle.report.specs.Spelled.{◌>>=◌, after_at, end_at, known_at, word_at, number8_at, number16_at, number32_at, number64_at, labelled_at, actor_in_text, controller_in_text, dash_or, flag_in_text, address_at, hex_at}
use Rattle.wires.specs.Wires.{is_taken}

-- bytes begin with a text
abbrev pub begins : List ℕ → List ℕ → Bool
begins text bytes = starts_with nat_eq bytes text

-- ---- the setup

-- how many controllers and switches there are
unfoldable pub counts_at : List ℕ → Option ((ℕ × ℕ) × List ℕ)
counts_at bytes = do
  rest ← after_at (codes "setup") bytes
  controllers ← number8_at rest
  switches ← number64_at controllers.1
  rest ← end_at switches.1
  if is_group controllers.0 && nat_le 1 switches.0 && nat_le switches.0 64 then Some ((controllers.0, switches.0), rest) else None

-- how many ports a switch has
unfoldable pub ports_in_text : ℕ → List ℕ → Option (ℕ × List ℕ)
ports_in_text switch bytes = do
  rest ← after_at (codes "ports") bytes
  named ← number64_at rest
  count ← number32_at named.1
  rest ← end_at count.1
  if named.0 == switch && nat_le 1 count.0 && nat_le count.0 48 then Some (count.0, rest) else None

abbrev pub is_port_number : List ℕ → ℕ → ℕ → Bool
is_port_number ports switch port = nat_lt switch (length ports) && nat_le 1 port && nat_le port (slice_index ports switch)

-- a wire may stand behind these
abbrev pub may_join_line : List ℕ → List Link → Link → Bool
may_join_line ports before l =
    is_port_number ports l.switch l.port && is_port_number ports l.peer l.peer_port
    && not (l.switch == l.peer && l.port == l.peer_port) && not (is_taken l.switch l.port before) && not (is_taken l.peer l.peer_port before)

unfoldable pub link_words_at : List ℕ → Option (Link × List ℕ)
link_words_at bytes = do
  rest ← after_at (codes "link") bytes
  switch ← number8_at rest
  port ← number32_at switch.1
  peer ← number8_at port.1
  peer_port ← number32_at peer.1
  rest ← end_at peer_port.1
  Some (record { switch = switch.0; port = port.0; peer = peer.0; peer_port = peer_port.0 }, rest)

unfoldable pub link_in_text : List ℕ → List Link → List ℕ → Option (Link × List ℕ)
link_in_text ports before bytes = do
  link ← link_words_at bytes
  if may_join_line ports before link.0 then Some link else None

-- addresses and their length, with no one bit past it
unfoldable pub prefix_in_text : List ℕ → Option (Prefix × List ℕ)
prefix_in_text bytes = do
  address ← address_at bytes
  len ← number8_at address.1
  if nat_le len.0 32 && address.0 % 2 ^ (32 - len.0) == 0 then Some (record { address = address.0; length = len.0 }, len.1) else None

unfoldable pub rule_words_at : List ℕ → Option (Rule × List ℕ)
rule_words_at bytes = do
  rest ← after_at (codes "deny") bytes
  proto ← number8_at rest
  src ← prefix_in_text proto.1
  dst ← prefix_in_text src.1
  port ← dash_or number16_at dst.1
  rest ← end_at port.1
  Some (record { proto = proto.0; src = src.0; dst = dst.0; port = port.0 }, rest)

-- a protocol that a rule may name, and a port beside it
abbrev pub is_asked : ℕ → Option ℕ → Bool
is_asked proto None = proto == 0 || proto == 6 || proto == 17
is_asked proto (Some port) = proto == 6 || proto == 17

unfoldable pub rule_at : List ℕ → Option (Rule × List ℕ)
rule_at bytes = do
  rule ← rule_words_at bytes
  if is_asked rule.0.proto rule.0.port then Some rule else None

-- ---- the journal

unfoldable pub letter_at : List ℕ → Option (Letter (List ℕ) × List ℕ)
letter_at bytes = do
  rest ← after_at (codes "letter") bytes
  to ← actor_in_text rest
  body ← hex_at to.1
  rest ← end_at body.1
  Some (record { to = to.0; body = body.0 }, rest)

-- the line of a post, without its letters
unfoldable pub post_line_at : List ℕ → Option (PostLine × List ℕ)
post_line_at bytes = do
  rest ← after_at (codes "post") bytes
  actor ← actor_in_text rest
  first ← number64_at actor.1
  count ← number64_at first.1
  lost ← number64_at count.1
  rest ← end_at lost.1
  Some (record { actor = actor.0; first = first.0; count = count.0; lost = lost.0 }, rest)

unfoldable pub draw_at : List ℕ → Option (JournalEntry (List ℕ) × List ℕ)
draw_at bytes = do
  rest ← after_at (codes "draw") bytes
  actor ← actor_in_text rest
  id ← number64_at actor.1
  keep ← flag_in_text id.1
  rest ← end_at keep.1
  Some (entry.Draw actor.0 id.0 keep.0, rest)

unfoldable pub lose_at : List ℕ → Option (JournalEntry (List ℕ) × List ℕ)
lose_at bytes = do
  rest ← after_at (codes "lose") bytes
  actor ← actor_in_text rest
  id ← number64_at actor.1
  rest ← end_at id.1
  Some (entry.Lose actor.0 id.0, rest)

unfoldable pub idle_at : List ℕ → Option (JournalEntry (List ℕ) × List ℕ)
idle_at bytes = do
  rest ← after_at (codes "idle") bytes
  actor ← actor_in_text rest
  rest ← end_at actor.1
  Some (entry.Idle actor.0, rest)

unfoldable pub frame_in_text : List ℕ → Option (Local × List ℕ)
frame_in_text bytes = do
  rest ← known_at (codes "frame") bytes
  port ← number32_at rest
  told ← hex_at port.1
  Some (local.Frame port.0 told.0, told.1)

unfoldable pub port_at : List ℕ → Option (Local × List ℕ)
port_at bytes = do
  rest ← known_at (codes "port") bytes
  port ← number32_at rest
  up ← flag_in_text port.1
  Some (local.Port port.0 up.0, up.1)

unfoldable pub suspect_at : List ℕ → Option (Local × List ℕ)
suspect_at bytes = do
  rest ← known_at (codes "suspect") bytes
  view ← number32_at rest
  Some (local.Suspect view.0, view.1)

-- an input of one word
unfoldable pub bare_at : List ℕ → Local → List ℕ → Option (Local × List ℕ)
bare_at name input bytes = do
  rest ← known_at name bytes
  Some (input, rest)

unfoldable pub input_at : List ℕ → Option (Local × List ℕ)
input_at bytes =
    if begins (codes " frame") bytes then frame_in_text bytes
    else if begins (codes " port") bytes then port_at bytes
    else if begins (codes " suspect") bytes then suspect_at bytes
    else if begins (codes " tick") bytes then bare_at (codes "tick") local.Tick bytes
    else if begins (codes " crash") bytes then bare_at (codes "crash") local.Crash bytes
    else bare_at (codes "restart") local.Restart bytes

unfoldable pub local_at : List ℕ → Option (JournalEntry (List ℕ) × List ℕ)
local_at bytes = do
  rest ← after_at (codes "local") bytes
  actor ← actor_in_text rest
  input ← input_at actor.1
  rest ← end_at input.1
  Some (entry.Local actor.0 input.0, rest)

-- an entry of one line
unfoldable pub short_entry_at : List ℕ → Option (JournalEntry (List ℕ) × List ℕ)
short_entry_at bytes =
    if begins (codes "draw") bytes then draw_at bytes
    else if begins (codes "lose") bytes then lose_at bytes
    else if begins (codes "idle") bytes then idle_at bytes
    else local_at bytes

-- ---- the committed log

-- an event, up to the end of its line
unfoldable pub event_words_at : List ℕ → Option (Event × List ℕ)
event_words_at bytes = do
  switch ← number8_at bytes
  life ← number32_at switch.1
  number ← number64_at life.1
  what ← happening_in_text number.1
  rest ← end_at what.1
  Some (record { switch = switch.0; life = life.0; number = number.0; what = what.0 }, rest)

unfoldable pub received_in_text : List ℕ → Option (Entry × List ℕ)
received_in_text bytes = do
  rest ← after_at (codes "received") bytes
  event ← event_words_at rest
  Some (Received event.0, event.1)

unfoldable pub processed_in_text : List ℕ → Option (Entry × List ℕ)
processed_in_text bytes = do
  rest ← after_at (codes "processed") bytes
  place ← number64_at rest
  rest ← end_at place.1
  Some (Processed place.0, rest)

unfoldable pub log_entry_at : List ℕ → Option (Entry × List ℕ)
log_entry_at bytes = if begins (codes "received") bytes then received_in_text bytes else processed_in_text bytes

-- how many entries there are, and the numeral of their bytes
unfoldable pub log_line_at : List ℕ → Option ((ℕ × List ℕ) × List ℕ)
log_line_at bytes = do
  rest ← after_at (codes "log") bytes
  count ← number64_at rest
  size ← word_at count.1
  rest ← end_at size.1
  if is_numeral size.0 then Some ((count.0, size.0), rest) else None

-- ---- the switches

-- the number of this switch
unfoldable pub of_at : ℕ → List ℕ → Option (List ℕ)
of_at switch bytes = do
  named ← number8_at bytes
  if named.0 == switch then Some named.1 else None

unfoldable pub role_words_at : List ℕ → Option ((Option ℕ × Option ℕ × ℕ) × List ℕ)
role_words_at bytes = do
  rest ← known_at (codes "generation") bytes
  generation ← dash_or number64_at rest
  rest ← known_at (codes "master") generation.1
  master ← dash_or controller_in_text rest
  rest ← known_at (codes "life") master.1
  life ← number32_at rest
  Some ((generation.0, master.0, life.0), life.1)

-- the counts of a switch, behind its generation, master and life
unfoldable pub switch_counts_at : Option ℕ × Option ℕ × ℕ → List ℕ → Option (SwitchLine × List ℕ)
switch_counts_at role bytes = do
  events ← labelled_at (codes "events") bytes
  held ← labelled_at (codes "held") events.1
  executed ← labelled_at (codes "executed") held.1
  rows ← labelled_at (codes "rows") executed.1
  sent ← labelled_at (codes "sent") rows.1
  rest ← end_at sent.1
  Some (record { generation = role.0; master = role.1; life = role.2; events = events.0; held = held.0; executed = executed.0; rows = rows.0; sent = sent.0 }, rest)

-- the line of a switch, without those that it counts
unfoldable pub switch_line_at : ℕ → List ℕ → Option (SwitchLine × List ℕ)
switch_line_at switch bytes = do
  rest ← after_at (codes "switch") bytes
  rest ← of_at switch rest
  role ← role_words_at rest
  switch_counts_at role.0 role.1

unfoldable pub event_in_text : ℕ → List ℕ → Option (Event × List ℕ)
event_in_text switch bytes = do
  rest ← after_at (codes "event") bytes
  event ← event_words_at rest
  if event.0.switch == switch then Some event else None

-- a command that was executed, behind the number of its switch
unfoldable pub executed_words_at : List ℕ → Option (Executed × List ℕ)
executed_words_at bytes = do
  life ← number32_at bytes
  number ← number64_at life.1
  generation ← number64_at number.1
  from ← controller_in_text generation.1
  order ← order_in_text from.1
  rest ← end_at order.1
  Some (record { life = life.0; number = number.0; generation = generation.0; from = from.0; order = order.0 }, rest)

unfoldable pub executed_at : ℕ → List ℕ → Option (Executed × List ℕ)
executed_at switch bytes = do
  rest ← after_at (codes "executed") bytes
  rest ← of_at switch rest
  executed_words_at rest

unfoldable pub row_at : ℕ → List ℕ → Option (RowRecord × List ℕ)
row_at switch bytes = do
  rest ← after_at (codes "row") bytes
  rest ← of_at switch rest
  priority ← number16_at rest
  matching ← matching_at priority.1
  actions ← actions_told matching.1
  rest ← end_at actions.1
  Some (record { priority = priority.0; matching = matching.0; actions = actions.0 }, rest)

-- ---- the ends

unfoldable pub first_line_at : List ℕ → Option (List ℕ)
first_line_at bytes = do
  rest ← after_at (codes "ravana report 1") bytes
  end_at rest

-- the turns of the script and of the closing, before these words
unfoldable pub last_line_at : List ℕ → List ℕ → Option ((ℕ × ℕ) × List ℕ)
last_line_at sums bytes = do
  rest ← after_at (codes "end") bytes
  script ← labelled_at (codes "script") rest
  closing ← labelled_at (codes "closing") script.1
  rest ← after_at sums closing.1
  rest ← end_at rest
  Some ((script.0, closing.0), rest)

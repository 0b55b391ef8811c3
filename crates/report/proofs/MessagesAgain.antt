-- Messages, matches and actions in base sixteen are read as they are written.
use Rattle.std.proofs.Common.{◌≡◌, ℕ, ◌-◌, ◌*◌, ◌/◌, ◌%◌, List, [], ◌∷◌, ◌++◌, length, drop, refl, sym, ap, arith}
use Rattle.std.specs.Prelude.{Some, Ok, replicate}
use Rattle.std.proofs.lemmas.Bool.{le-leb}
use Rattle.std.proofs.lemmas.List.{append-nil}
use Rattle.of_match.specs.Reading.{match_at}
use Rattle.of_match.specs.Writing.{canonical_bare_match, canonical_match}
use Rattle.of_match.proofs.Laws.{spelled_read}
use Rattle.of_messages.specs.Canonical as messages
use Rattle.of_messages.specs.Grammar.{SpellsActions}
use Rattle.of_messages.specs.Reading.{message_at}
use Rattle.of_messages.proofs.Again.{message_again}
use Rattle.of_messages.proofs.Written.{actions_size, actions_spelled}
use Rattle.of_ravana.specs.Canonical.{canonical_happening, canonical_order, happening_message, order_message}
use Rattle.of_types.specs.declared.message.Happening.{Happening}
use Rattle.of_types.specs.declared.message.Happening.TheVariants as happening
use Rattle.of_types.specs.declared.message.Match.{Match}
use Rattle.of_types.specs.declared.message.OfMessage.{OfMessage}
use Rattle.of_types.specs.declared.message.Order.{Order}
use Rattle.of_types.specs.declared.message.Order.TheVariants as order
use Rattle.of_types.specs.Sizes as sizes
use Rattle.vr_log.proofs.Equal.{numbers_same}
use Rattle.report.specs.Canonical.{happening_of, happening_in_text, order_of, order_in_text, padded_text, matching_of, matching_at, output_ports_of, most_actions, actions_in, actions_told}
use Rattle.report.specs.Report.{word, hex}
use Rattle.report.specs.Records.{AreOctets, IsTellable, IsMatch, AreOutputs}
use Rattle.report.proofs.Readers.{Again}
use Rattle.report.proofs.WordsAgain.{hexed}
use Rattle.report.proofs.Texts.{IsParted}

read_again : (m : OfMessage) → IsTellable m → message_at (messages.canonical 0 m) ≡ Ok m
read_again m s = message_again (messages.canonical 0 m) 0 m s.spelled

happening_again : (what : Happening) → IsTellable (happening_message what) → happening_of (canonical_happening what) ≡ Some what
unfolding happening_of canonical_happening
happening_again (happening.PacketIn p) s = rw (read_again (happening_message (happening.PacketIn p)) s, numbers_same (messages.canonical 0 (happening_message (happening.PacketIn p)))) refl
happening_again (happening.FlowRemoved r) s = rw (read_again (happening_message (happening.FlowRemoved r)) s, numbers_same (messages.canonical 0 (happening_message (happening.FlowRemoved r)))) refl
happening_again (happening.PortStatus p) s = rw (read_again (happening_message (happening.PortStatus p)) s, numbers_same (messages.canonical 0 (happening_message (happening.PortStatus p)))) refl

happening_bytes : (what : Happening) → IsTellable (happening_message what) → AreOctets (canonical_happening what)
unfolding canonical_happening
happening_bytes what s = s.bytes

happening_is : (what : Happening) (rest : List ℕ) → IsTellable (happening_message what) → IsParted rest → happening_in_text (word (hex (canonical_happening what)) ++ rest) ≡ Some (what, rest)
unfolding happening_in_text
happening_is what rest s parted = rw (hexed.again (canonical_happening what) rest (happening_bytes what s) parted, happening_again what s) refl

pub happenings : Again happening_in_text (λ what. word (hex (canonical_happening what))) (λ what. IsTellable (happening_message what)) IsParted
happenings = record { again = happening_is }

order_again : (what : Order) → IsTellable (order_message what) → order_of (canonical_order what) ≡ Some what
unfolding order_of canonical_order
order_again (order.FlowMod c) s = rw (read_again (order_message (order.FlowMod c)) s, numbers_same (messages.canonical 0 (order_message (order.FlowMod c)))) refl
order_again (order.PacketOut p) s = rw (read_again (order_message (order.PacketOut p)) s, numbers_same (messages.canonical 0 (order_message (order.PacketOut p)))) refl

order_bytes : (what : Order) → IsTellable (order_message what) → AreOctets (canonical_order what)
unfolding canonical_order
order_bytes what s = s.bytes

order_is : (what : Order) (rest : List ℕ) → IsTellable (order_message what) → IsParted rest → order_in_text (word (hex (canonical_order what)) ++ rest) ≡ Some (what, rest)
unfolding order_in_text
order_is what rest s parted = rw (hexed.again (canonical_order what) rest (order_bytes what s) parted, order_again what s) refl

pub orders : Again order_in_text (λ what. word (hex (canonical_order what))) (λ what. IsTellable (order_message what)) IsParted
orders = record { again = order_is }

-- ---- matches

up_to_eight : (n : ℕ) → (8 - n % 8) % 8 ≡ sizes.padded n - n
up_to_eight n = omega arith

pub padded_is : (m : Match) → padded_text (canonical_bare_match m) ≡ canonical_match m
unfolding padded_text canonical_match
padded_is m = ap (λ (n : ℕ). canonical_bare_match m ++ replicate n 0) (up_to_eight (length (canonical_bare_match m)))

match_read : (m : Match) → IsMatch m → match_at (canonical_match m) ≡ Ok (m, length (canonical_match m))
match_read m is = spelled_read (canonical_match m) (canonical_match m) [] m (sym (append-nil (canonical_match m))) is.spelled

matching_again : (m : Match) → IsMatch m → matching_of (canonical_bare_match m) ≡ Some m
unfolding matching_of
matching_again m is = rw (padded_is m, match_read m is, numbers_same (canonical_bare_match m)) refl

matching_is : (m : Match) (rest : List ℕ) → IsMatch m → IsParted rest → matching_at (word (hex (canonical_bare_match m)) ++ rest) ≡ Some (m, rest)
unfolding matching_at
matching_is m rest is parted = rw (hexed.again (canonical_bare_match m) rest is.bytes parted, matching_again m is) refl

pub matchings : Again matching_at (λ m. word (hex (canonical_bare_match m))) IsMatch IsParted
matchings = record { again = matching_is }

-- ---- actions

ports_again : (ports bytes : List ℕ) → SpellsActions bytes ports → output_ports_of (length ports) bytes ≡ ports
ports_again [] bytes s = refl
ports_again (port ∷ ports) bytes s = rw (s.0.port_is, ports_again ports (drop 16 bytes) s.1) refl

actions_again : (ports : List ℕ) → AreOutputs ports → actions_in (messages.actions_of ports) ≡ Some ports
unfolding actions_in most_actions
actions_again ports are =
    let few = are.few in
    let len : length (messages.actions_of ports) ≡ 16 * length ports = actions_size ports in
    let count : 16 * length ports / 16 ≡ length ports = omega arith in
    rw (len, le-leb (16 * length ports) 65520 (omega (arith, few)), count, ports_again ports (messages.actions_of ports) (actions_spelled ports are.ports), numbers_same (messages.actions_of ports)) refl

actions_are : (ports rest : List ℕ) → AreOutputs ports → IsParted rest → actions_told (word (hex (messages.actions_of ports)) ++ rest) ≡ Some (ports, rest)
unfolding actions_told
actions_are ports rest are parted = rw (hexed.again (messages.actions_of ports) rest are.bytes parted, actions_again ports are) refl

pub outputs : Again actions_told (λ ports. word (hex (messages.actions_of ports))) AreOutputs IsParted
outputs = record { again = actions_are }

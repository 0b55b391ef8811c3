-- Messages, matches and actions in base sixteen are written as they were read.
use Rattle.std.proofs.Common.{◌≡◌, ℕ, zero, suc, ◌+◌, ◌-◌, ◌/◌, ◌%◌, ◌^◌, ◌≤◌, ◌<◌, List, ◌++◌, length, take, drop, refl, sym, ap, subst, ◌∙◌, append_assoc, length-append, arith}
use Rattle.std.specs.Prelude.{Option, Some, Result, Ok, Err, nat_le, replicate}
use Rattle.std.specs.Result.{result_ok}
use Rattle.std.proofs.lemmas.Bool.{leb-true}
use Rattle.std.proofs.lemmas.List.{take-append-drop, take_all, length-take, length-replicate}
use Rattle.of_bytes.specs.Numbers.{number, one, two, four}
use Rattle.of_bytes.proofs.Bytes.{big_from-lt, IsBytes-drop, number_bytes}
use Rattle.of_match.specs.Reading.{match_at}
use Rattle.of_match.specs.Spelling.{IsSpelled}
use Rattle.of_match.specs.Writing.{bare_match, spelled, written_of, canonical_bare_match, canonical_match}
use Rattle.of_match.proofs.Sizes.{has_size}
use Rattle.of_match.proofs.Whole.{match_takes}
use Rattle.of_messages.specs.Canonical as messages
use Rattle.of_messages.specs.Fits.{FitPorts}
use Rattle.of_messages.specs.Reading.{message_at}
use Rattle.of_messages.proofs.Takes.{message_takes}
use Rattle.of_ravana.specs.Canonical.{canonical_happening, canonical_order, happening_message, order_message}
use Rattle.of_types.specs.declared.message.Happening.{Happening}
use Rattle.of_types.specs.declared.message.Happening.TheVariants as happening
use Rattle.of_types.specs.declared.message.Match.{Match}
use Rattle.of_types.specs.declared.message.OfMessage.{OfMessage}
use Rattle.of_types.specs.declared.message.OfMessage.TheVariants as plain
use Rattle.of_types.specs.declared.message.Order.{Order}
use Rattle.of_types.specs.declared.message.Order.TheVariants as order
use Rattle.of_types.specs.Sizes as sizes
use Rattle.of_types.proofs.SmallMatches.{small_match}
use Rattle.vr_log.specs.Same.{same_numbers}
use Rattle.vr_log.proofs.Equal.{numbers_equal}
use Rattle.report.specs.Canonical.{if_written, happening_in, happening_of, happening_in_text, canonical_order_in, order_of, order_in_text, padded_text, matching_of, matching_at, output_ports_of, most_actions, actions_in, actions_told}
use Rattle.report.specs.Records.{AreOctets, IsTellable, IsMatch, AreOutputs}
use Rattle.report.specs.Report.{word, hex}
use Rattle.report.specs.Spelled.{◌>>=◌, hex_at}
use Rattle.report.proofs.Bytes.{joined_bytes, zero_bytes}
use Rattle.report.proofs.MessagesAgain.{padded_is}
use Rattle.report.proofs.Takers.{then, both_found, found_as, Takes, Spelt, took}
use Rattle.report.proofs.Texts.{passed, some_is}
use Rattle.report.proofs.WordsTaken.{hex_takes}

ok_some : {A E : Type 0} (r : Result A E) (x : A) → result_ok r ≡ Some x → r ≡ Ok x
ok_some (Ok y) x e = ap (λ v. Ok v) (some_is y x e)
ok_some (Err d) x e = absurd cc

-- bytes in the one form in which a value is written
as_written : {A : Type 0} (write : A → List ℕ) (bytes : List ℕ) (x y : A) → if_written write bytes x ≡ Some y → (x ≡ y) × (write y ≡ bytes)
as_written write bytes x y e =
    let p = passed (same_numbers (write x) bytes) (Some x) y e in
    let same = some_is x y p.1 in
    (same, ap write (sym same) ∙ numbers_equal (write x) bytes p.0)

no_xid : (m : OfMessage) → number 4 4 (messages.canonical 0 m) ≡ 0
unfolding messages.canonical messages.framed one two four
no_xid m = refl

tellable : (m : OfMessage) → AreOctets (messages.canonical 0 m) → message_at (messages.canonical 0 m) ≡ Ok m → IsTellable m
tellable m are e =
    let s = message_takes (messages.canonical 0 m) m are e in
    record {
      spelled = record { there = s.there; version_is = s.version_is; kind_is = s.kind_is; length_is = s.length_is; xid_is = no_xid m; body = s.body };
      bytes = are;
    }

-- a message that was read, and is written so
told_message : (m : OfMessage) (bytes : List ℕ) → AreOctets bytes → message_at bytes ≡ Ok m → messages.canonical 0 m ≡ bytes → IsTellable m
told_message m bytes are read same = tellable m (subst AreOctets (sym same) are) (ap message_at same ∙ read)

happening_told : (m : OfMessage) (what : Happening) → happening_in m ≡ Some what → m ≡ happening_message what
happening_told plain.Hello what e = absurd cc
happening_told (plain.Error kind code head) what e = absurd cc
happening_told (plain.EchoRequest body) what e = absurd cc
happening_told (plain.EchoReply body) what e = absurd cc
happening_told (plain.Experimenter body) what e = absurd cc
happening_told plain.FeaturesRequest what e = absurd cc
happening_told (plain.FeaturesReply datapath) what e = absurd cc
happening_told (plain.PacketIn p) what e = ap happening_message (some_is (happening.PacketIn p) what e)
happening_told (plain.FlowRemoved r) what e = ap happening_message (some_is (happening.FlowRemoved r) what e)
happening_told (plain.PortStatus p) what e = ap happening_message (some_is (happening.PortStatus p) what e)
happening_told (plain.PacketOut p) what e = absurd cc
happening_told (plain.FlowMod c) what e = absurd cc
happening_told plain.BarrierRequest what e = absurd cc
happening_told plain.BarrierReply what e = absurd cc
happening_told (plain.RoleRequest role generation) what e = absurd cc
happening_told (plain.RoleReply role generation) what e = absurd cc

order_told : (m : OfMessage) (what : Order) → canonical_order_in m ≡ Some what → m ≡ order_message what
order_told plain.Hello what e = absurd cc
order_told (plain.Error kind code head) what e = absurd cc
order_told (plain.EchoRequest body) what e = absurd cc
order_told (plain.EchoReply body) what e = absurd cc
order_told (plain.Experimenter body) what e = absurd cc
order_told plain.FeaturesRequest what e = absurd cc
order_told (plain.FeaturesReply datapath) what e = absurd cc
order_told (plain.PacketIn p) what e = absurd cc
order_told (plain.FlowRemoved r) what e = absurd cc
order_told (plain.PortStatus p) what e = absurd cc
order_told (plain.PacketOut p) what e = ap order_message (some_is (order.PacketOut p) what e)
order_told (plain.FlowMod c) what e = ap order_message (some_is (order.FlowMod c) what e)
order_told plain.BarrierRequest what e = absurd cc
order_told plain.BarrierReply what e = absurd cc
order_told (plain.RoleRequest role generation) what e = absurd cc
order_told (plain.RoleReply role generation) what e = absurd cc

happening_text : (bytes : List ℕ) (what : Happening) → AreOctets bytes → happening_of bytes ≡ Some what → (bytes ≡ canonical_happening what) × IsTellable (happening_message what)
unfolding happening_of canonical_happening
happening_text bytes what are e =
    then (result_ok (message_at bytes)) _ _ e (λ m read e.
    then (happening_in m) _ _ e (λ told is e.
    let w = as_written canonical_happening bytes told what e in
    let m_is : m ≡ happening_message what = happening_told m told is ∙ ap happening_message w.0 in
    (sym w.1, told_message (happening_message what) bytes are (ok_some (message_at bytes) m read ∙ ap (λ m. Ok m) m_is) w.1)))

order_text : (bytes : List ℕ) (what : Order) → AreOctets bytes → order_of bytes ≡ Some what → (bytes ≡ canonical_order what) × IsTellable (order_message what)
unfolding order_of canonical_order
order_text bytes what are e =
    then (result_ok (message_at bytes)) _ _ e (λ m read e.
    then (canonical_order_in m) _ _ e (λ told is e.
    let w = as_written canonical_order bytes told what e in
    let m_is : m ≡ order_message what = order_told m told is ∙ ap order_message w.0 in
    (sym w.1, told_message (order_message what) bytes are (ok_some (message_at bytes) m read ∙ ap (λ m. Ok m) m_is) w.1)))

-- a value in base sixteen
by_hex : {A : Type 0} (of : List ℕ → Option A) (text : A → List ℕ) (IsFit : A → Type 0) → ((t : List ℕ) (x : A) → AreOctets t → of t ≡ Some x → (t ≡ text x) × IsFit x) →
    (bytes : List ℕ) (x : A) (rest : List ℕ) → (hex_at bytes >>= λ w. of w.0 >>= λ v. found_as v w.1) ≡ found_as x rest → Spelt (λ x. word (hex (text x))) IsFit bytes x rest
by_hex of text IsFit laws bytes x rest e =
    took hex_takes bytes _ _ e (λ t end is are e.
    then (of t) _ _ e (λ v found e.
    let v_is = laws t v are found in
    both_found (Spelt (λ x. word (hex (text x))) IsFit bytes) v x end rest e (is ∙ ap (λ t. word (hex t) ++ end) v_is.0, v_is.1)))

happening_is : (bytes : List ℕ) (what : Happening) (rest : List ℕ) → happening_in_text bytes ≡ Some (what, rest) → Spelt (λ what. word (hex (canonical_happening what))) (λ what. IsTellable (happening_message what)) bytes what rest
unfolding happening_in_text
happening_is bytes what rest e = by_hex happening_of canonical_happening (λ what. IsTellable (happening_message what)) happening_text bytes what rest e

pub happening_takes : Takes happening_in_text (λ what. word (hex (canonical_happening what))) (λ what. IsTellable (happening_message what))
happening_takes = record { takes = happening_is }

order_is : (bytes : List ℕ) (what : Order) (rest : List ℕ) → order_in_text bytes ≡ Some (what, rest) → Spelt (λ what. word (hex (canonical_order what))) (λ what. IsTellable (order_message what)) bytes what rest
unfolding order_in_text
order_is bytes what rest e = by_hex order_of canonical_order (λ what. IsTellable (order_message what)) order_text bytes what rest e

pub order_takes : Takes order_in_text (λ what. word (hex (canonical_order what))) (λ what. IsTellable (order_message what))
order_takes = record { takes = order_is }

-- ---- matches

-- the length in a match, and how many bytes it takes
front_number : (fields rest : List ℕ) → 4 + length fields < 2 ^ 16 → number 2 2 (bare_match fields ++ rest) ≡ 4 + length fields
front_number fields rest short = number_bytes 2 (4 + length fields) (fields ++ rest) short

bare_length : (fields : List ℕ) → length (bare_match fields) ≡ 4 + length fields
bare_length fields = omega arith

filled_length : (n : ℕ) (bare : List ℕ) → length bare ≡ n → length (bare ++ replicate (sizes.padded n - n) 0) ≡ sizes.padded n
filled_length n bare e =
    let zeros : length (replicate {A = ℕ} (sizes.padded n - n) 0) ≡ sizes.padded n - n = length-replicate (sizes.padded n - n) 0 in
    omega (arith, e, zeros, length-append bare (replicate (sizes.padded n - n) 0))

canonical_length : (m : Match) → length (canonical_match m) ≡ sizes.padded (length (canonical_bare_match m))
unfolding canonical_match
canonical_length m = filled_length (length (canonical_bare_match m)) (canonical_bare_match m) refl

bare_is : (m : Match) → length (canonical_bare_match m) ≡ 4 + length (spelled (written_of m))
unfolding canonical_bare_match
bare_is m = omega arith

canonical_front : (m : Match) → 4 + length (spelled (written_of m)) < 2 ^ 16 → number 2 2 (canonical_match m) ≡ 4 + length (spelled (written_of m))
unfolding canonical_match canonical_bare_match
canonical_front m short = front_number (spelled (written_of m)) (replicate (sizes.padded (length (bare_match (spelled (written_of m)))) - length (bare_match (spelled (written_of m)))) 0) short

-- a front that spells a match whose length stands there is all of it
whole_match : (m : Match) (bytes : List ℕ) (taken len : ℕ) → taken ≤ length bytes → IsSpelled (take taken bytes) m → number 2 2 bytes ≡ len → length bytes ≡ sizes.padded len → IsSpelled bytes m
whole_match m bytes taken len within s told size =
    let by = s.2 in
    let fields : List ℕ = spelled s.0 in
    let short = by.short in
    let filled = by.filled in
    let two_parts : bytes ≡ bare_match fields ++ (s.1 ++ drop taken bytes) =
    sym (take-append-drop taken bytes) ∙ ap (λ l. l ++ drop taken bytes) by.whole ∙ append_assoc (bare_match fields) s.1 (drop taken bytes) in
    let front : number 2 2 bytes ≡ 4 + length fields = ap (number 2 2) two_parts ∙ front_number fields (s.1 ++ drop taken bytes) short in
    let long : length (take taken bytes) ≡ 4 + length fields + length s.1 = ap length by.whole ∙ omega (arith, length-append (bare_match fields) s.1, bare_length fields) in
    let all : length bytes ≤ taken = omega (arith, length-take taken bytes, long, filled, front, told, size) in
    subst (λ l. IsSpelled l m) (take_all taken bytes all) s

padded_bytes : (bare : List ℕ) → AreOctets bare → AreOctets (padded_text bare)
unfolding padded_text
padded_bytes bare are = joined_bytes bare (replicate ((8 - length bare % 8) % 8) 0) are (zero_bytes ((8 - length bare % 8) % 8))

matching_text : (bare : List ℕ) (m : Match) → AreOctets bare → matching_of bare ≡ Some m → (bare ≡ canonical_bare_match m) × IsMatch m
unfolding matching_of
matching_text bare m are e =
    then (result_ok (match_at (padded_text bare))) _ _ e (λ found read e.
    let w = as_written canonical_bare_match bare found.0 m e in
    let bytes : padded_text bare ≡ canonical_match m = ap padded_text (sym w.1) ∙ padded_is m in
    let read_is : match_at (canonical_match m) ≡ Ok (m, found.1) = ap match_at (sym bytes) ∙ ok_some (match_at (padded_text bare)) found read ∙ ap (λ x. Ok (x, found.1)) w.0 in
    let t = match_takes (canonical_match m) m found.1 (subst AreOctets bytes (padded_bytes bare are)) read_is in
    let size = has_size m in
    let bound = small_match m in
    let long = canonical_length m in
    let fields = bare_is m in (
      sym w.1,
      record {
        spelled = whole_match m (canonical_match m) found.1 (length (canonical_bare_match m)) t.0 t.1 (canonical_front m (omega (arith, size, bound, long, fields)) ∙ sym fields) long;
        bytes = subst AreOctets (sym w.1) are;
      },
    ))

matching_is : (bytes : List ℕ) (m : Match) (rest : List ℕ) → matching_at bytes ≡ Some (m, rest) → Spelt (λ m. word (hex (canonical_bare_match m))) IsMatch bytes m rest
unfolding matching_at
matching_is bytes m rest e = by_hex matching_of canonical_bare_match IsMatch matching_text bytes m rest e

pub matching_takes : Takes matching_at (λ m. word (hex (canonical_bare_match m))) IsMatch
matching_takes = record { takes = matching_is }

-- ---- actions

ports_fit : (n : ℕ) (bytes : List ℕ) → AreOctets bytes → FitPorts (output_ports_of n bytes)
ports_fit zero bytes are i = omega arith
ports_fit (suc n) bytes are zero = big_from-lt 0 4 (drop 4 bytes) (IsBytes-drop 4 bytes are)
ports_fit (suc n) bytes are (suc i) = ports_fit n (drop 16 bytes) (IsBytes-drop 16 bytes are) i

ports_many : (n : ℕ) (bytes : List ℕ) → length (output_ports_of n bytes) ≡ n
ports_many zero bytes = refl
ports_many (suc n) bytes = ap suc (ports_many n (drop 16 bytes))

actions_text : (bytes ports : List ℕ) → AreOctets bytes → actions_in bytes ≡ Some ports → (bytes ≡ messages.actions_of ports) × AreOutputs ports
unfolding actions_in most_actions
actions_text bytes ports are e =
    let p = passed (nat_le (length bytes) 65520) (if_written messages.actions_of bytes (output_ports_of (length bytes / 16) bytes)) ports e in
    let w = as_written messages.actions_of bytes (output_ports_of (length bytes / 16) bytes) ports p.1 in
    let few = leb-true (length bytes) 65520 p.0 in
    let many = ports_many (length bytes / 16) bytes in (
      sym w.1,
      subst AreOutputs w.0 (record {
        few = omega (arith, many, few);
        ports = ports_fit (length bytes / 16) bytes are;
        bytes = subst AreOctets (sym (ap messages.actions_of w.0 ∙ w.1)) are;
      }),
    )

actions_are : (bytes ports rest : List ℕ) → actions_told bytes ≡ Some (ports, rest) → Spelt (λ ports. word (hex (messages.actions_of ports))) AreOutputs bytes ports rest
unfolding actions_told
actions_are bytes ports rest e = by_hex actions_in messages.actions_of AreOutputs actions_text bytes ports rest e

pub actions_takes : Takes actions_told (λ ports. word (hex (messages.actions_of ports))) AreOutputs
actions_takes = record { takes = actions_are }

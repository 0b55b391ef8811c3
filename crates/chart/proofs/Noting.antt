-- What is known of packets, one letter or entry more.
use Rattle.std.proofs.Common.{nat_cmp, add-one, ◌≡◌, ◌==◌, ◌<◌, ℕ, ◌+◌, suc, Bool, true, false, cond, List, [], ◌∷◌, ◌++◌, length, take, Option, Some, None, get_or, refl, sym, ap, ◌∙◌, arith}
use Rattle.std.proofs.Math.Seq.{take-suc}
use Rattle.std.proofs.lemmas.Bool.{eqb-true, ne_eqb}
use Rattle.std.proofs.lemmas.List.{length-reverse, length-take}
use Rattle.std.specs.BTreeMap.{is_at}
use Rattle.std.specs.Cmp.{unsigned_tied}
use Rattle.std.specs.Option.{option_map, option_or, option_to_list}
use Rattle.journal.specs.declared.journal.Actor.{Actor}
use Rattle.journal.specs.declared.journal.Letter.{Letter}
use Rattle.journal.specs.declared.journal.Packet.{Packet}
use Rattle.journal.specs.Part.{packet_of}
use Rattle.journal.specs.Places.{packet_as}
use Rattle.journal.specs.Pool.{numbered_letters, past}
use Rattle.journal.proofs.Lists.{past-push}
use Rattle.chart.specs.declared.packets.Sent.{Sent}
use Rattle.chart.specs.declared.shapes.Arrow.{Arrow}
use Rattle.report.specs.Records.{ByteEntry}
use Rattle.chart.specs.Arrows.{arrow_to, arrows, packets_posted, sent, sent_among, sent_at}

abbrev letter_sent : ℕ → Actor → Letter (List ℕ) → Sent
letter_sent place from l = record { place = place; sender = from; body = l.body }

-- a packet that is there, or else what was known
abbrev or_old : ℕ → Option Sent → Option (Packet (List ℕ)) → Option Sent
or_old place old packet = option_or (option_map (sent_at place) packet) old

-- the letter in front is the packet, or else the others tell
by_first : (place : ℕ) (p : Packet (List ℕ)) (more others : Option (Packet (List ℕ))) (last old : Option Sent) (is_first is_last : Bool) →
    (is_first ≡ true → is_last ≡ false) → or_old place old more ≡ cond is_last last (or_old place old others) →
    or_old place old (cond is_first (Some p) more) ≡ cond is_last last (or_old place old (cond is_first (Some p) others))
by_first place p more others last old true is_last far step = rw (far refl) refl
by_first place p more others last old false is_last far step = step

-- a letter more is the packet of the number behind theirs
pub sent_among-push : (id place first : ℕ) (from : Actor) (letters : List (Letter (List ℕ))) (l : Letter (List ℕ)) (old : Option Sent) →
    option_or (sent_among id place (numbered_letters first from (letters ++ l ∷ []))) old
    ≡ cond (first + length letters == id) (Some (letter_sent place from l)) (option_or (sent_among id place (numbered_letters first from letters)) old)
sent_among-push id place first from [] l old =
    let same : first + 0 ≡ first = omega arith in
    let by_test : (b : Bool) → or_old place old (cond b (Some (packet_as first from l)) None) ≡ cond b (Some (letter_sent place from l)) old = λ b.
    elim b as (λ v. or_old place old (cond v (Some (packet_as first from l)) None) ≡ cond v (Some (letter_sent place from l)) old) [ true ↦ refl | false ↦ refl ] in
    by_test (first == id) ∙ ap (λ (n : ℕ). cond (n == id) (Some (letter_sent place from l)) old) (sym same)
sent_among-push id place first from (x ∷ letters) l old =
    let more = packet_of id (numbered_letters (first + 1) from (letters ++ l ∷ [])) in
    let others = packet_of id (numbered_letters (first + 1) from letters) in
    let count = first + length (x ∷ letters) in
    let behind : first + 1 + length letters ≡ count = omega arith in
    let step : or_old place old more ≡ cond (count == id) (Some (letter_sent place from l)) (or_old place old others) =
    sent_among-push id place (first + 1) from letters l old ∙ ap (λ (n : ℕ). cond (n == id) (Some (letter_sent place from l)) (or_old place old others)) behind in
    let far : (first == id) ≡ true → (count == id) ≡ false = λ e. let is : first ≡ id = eqb-true first id e in ne_eqb count id (λ same. omega (arith, is, same)) in
    by_first place (packet_as first from x) more others (Some (letter_sent place from l)) old (first == id) (count == id) far step

-- the past of the first entries
pub length-past : (entries : List ByteEntry) (i : ℕ) → i < length entries → length (past (take i entries)) ≡ i
length-past entries i within = length-reverse (take i entries) ∙ rw (length-take i entries) (omega (arith, within))

-- the past of an entry more
pub past-take : (entries : List ByteEntry) (i : ℕ) (d : ByteEntry) → i < length entries → past (take (suc i) entries) ≡ get_or entries i d ∷ past (take i entries)
past-take entries i d within = ap past (take-suc entries i d within) ∙ past-push (take i entries) (get_or entries i d)

-- a letter more, noted behind the others
pub letters_more : (place first : ℕ) (from : Actor) (letters : List (Letter (List ℕ))) (i : ℕ) (l : Letter (List ℕ)) (body : List ℕ) (old now new : ℕ → Option Sent) →
    i < length letters → l ≡ get_or letters i l → body ≡ l.body →
    ((id : ℕ) → now id ≡ option_or (sent_among id place (numbered_letters first from (take i letters))) (old id)) →
    ((id : ℕ) → new id ≡ cond (is_at (nat_cmp (first + i)) id) (Some (record { place = place; sender = from; body = body })) (now id)) →
    (id : ℕ) → new id ≡ option_or (sent_among id place (numbered_letters first from (take (i + 1) letters))) (old id)
letters_more place first from letters i l body old now new within is same noted put id =
    let long : length (take i letters) ≡ i = take_length letters i within in
    let more : take (i + 1) letters ≡ take i letters ++ l ∷ [] = rw (add-one i, take-suc letters i l within, sym is) refl in
    let tested : is_at (nat_cmp (first + i)) id ≡ (first + length (take i letters) == id) = unsigned_tied (first + i) id ∙ ap (λ (n : ℕ). first + n == id) (sym long) in
    put id ∙ rw (same, tested, noted id) (sym (sent_among-push id place first from (take i letters) l (old id))) ∙ ap (λ (ls : List (Letter (List ℕ))). option_or (sent_among id place (numbered_letters first from ls)) (old id)) (sym more)
  where
    take_length : (letters : List (Letter (List ℕ))) (i : ℕ) → i < length letters → length (take i letters) ≡ i
    take_length letters i within = rw (length-take i letters) (omega (arith, within))

-- what is known of the packets of an entry more
pub sent_more : (entries : List ByteEntry) (i : ℕ) (e : ByteEntry) (now new : ℕ → Option Sent) → i < length entries → e ≡ get_or entries i e →
    ((id : ℕ) → now id ≡ sent id (past (take i entries))) →
    ((id : ℕ) → new id ≡ option_or (sent_among id i (packets_posted e)) (now id)) →
    (id : ℕ) → new id ≡ sent id (past (take (i + 1) entries))
unfolding sent
sent_more entries i e now new within is known noted id =
    rw (add-one i, past-take entries i e within, sym is, length-past entries i within) (noted id ∙ rw (known id) refl)

-- the arrows of an entry more
pub arrows_more : (entries : List ByteEntry) (i : ℕ) (e : ByteEntry) (now new : List Arrow) (found : Option Arrow) → i < length entries → e ≡ get_or entries i e →
    found ≡ arrow_to e (past (take i entries)) → now ≡ arrows (past (take i entries)) → new ≡ now ++ option_to_list found → new ≡ arrows (past (take (i + 1) entries))
unfolding arrows
arrows_more entries i e now new found within is drawn known grown =
    rw (add-one i, past-take entries i e within, sym is) (grown ∙ rw (known, drawn) refl)

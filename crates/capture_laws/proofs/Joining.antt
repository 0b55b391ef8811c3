-- The payloads of a direction, joined, are the posted bodies; and each packet has the numbers of those before it.
use Rattle.std.proofs.Common.{◌≡◌, ◌≤◌, ℕ, zero, suc, ◌+◌, ◌-◌, Bool, true, false, cond, nat_eq, nat_lt, nat_le, List, [], ◌∷◌, ◌++◌, length, take, drop, Option, refl, sym, ap, subst, ◌∙◌, append_assoc, arith, length-drop}
use Rattle.std.proofs.lemmas.List.{append-nil, length-take, take-append-drop}
use Rattle.std.specs.List.{AllByRecursion}
use Rattle.journal.specs.declared.journal.Actor.{Actor}
use Rattle.journal.specs.declared.journal.Actor.TheVariants.{Controller, Switch}
use Rattle.journal.specs.declared.journal.JournalEntry.TheVariants.{Post, Draw, Lose, Local, Idle, Refused}
use Rattle.journal.specs.declared.journal.Letter.{Letter}
use Rattle.journal.specs.declared.journal.Local.TheVariants as input
use Rattle.journal.specs.Pool.{past}
use Rattle.of_bytes.specs.Numbers.{number}
use Rattle.capture_laws.specs.declared.shapes.Captured.{Captured}
use Rattle.capture_laws.specs.declared.shapes.Fate.{Fate}
use Rattle.report.specs.Records.{ByteEntry}
use Rattle.capture_laws.specs.Fates.{comment_of, fate}
use Rattle.capture_laws.specs.Streams.{bytes_on, direction, joined, most_bytes, piece_of, segment, with_body}
use Rattle.capture_laws.specs.Packets.{AreInSequence, IsInSequence, FitsPacket, bodies_on, body_on, captured, frame_at, posted_by, posted_on, with_entries, with_packets_of_entry, with_letter, with_packets_of_post}

pub joined-append : (k : ℕ) (xs ys : List Captured) → joined k (xs ++ ys) ≡ joined k xs ++ joined k ys
unfolding joined
joined-append k [] ys = refl
joined-append k (p ∷ xs) ys =
    ap (λ (l : List ℕ). bytes_on k p.way p.payload ++ l) (joined-append k xs ys) ∙ sym (append_assoc (bytes_on k p.way p.payload) (joined k xs) (joined k ys))

-- the payloads of one packet more
pub joined-push : (k : ℕ) (xs : List Captured) (p : Captured) → joined k (xs ++ p ∷ []) ≡ joined k xs ++ bytes_on k p.way p.payload
unfolding joined
joined-push k xs p = joined-append k xs (p ∷ []) ∙ ap (λ (l : List ℕ). joined k xs ++ l) (append-nil (bytes_on k p.way p.payload))

-- bytes if they are of a direction
abbrev if_on : Bool → List ℕ → List ℕ
if_on b bytes = cond b bytes []

if_on-nil : (b : Bool) → if_on b [] ≡ []
if_on-nil true = refl
if_on-nil false = refl

if_on-append : (b : Bool) (xs ys : List ℕ) → if_on b xs ++ if_on b ys ≡ if_on b (xs ++ ys)
if_on-append true xs ys = refl
if_on-append false xs ys = refl

none_more : (k : ℕ) (b : Bool) (packets : List Captured) → joined k packets ≡ joined k packets ++ if_on b []
none_more k b packets = sym (rw (if_on-nil b) (append-nil (joined k packets)))

joined_body : (k n time : ℕ) (from to : Actor) (comment body : List ℕ) (packets : List Captured) → length body ≤ n →
    joined k (with_body n time from to comment body packets) ≡ joined k packets ++ if_on (nat_eq (direction from to) k) body
unfolding with_body
joined_body k zero time from to comment [] packets most = none_more k (nat_eq (direction from to) k) packets
joined_body k zero time from to comment (b ∷ body) packets most = absurd (omega (arith, most))
joined_body k (suc n) time from to comment [] packets most = none_more k (nat_eq (direction from to) k) packets
joined_body k (suc n) time from to comment (b ∷ body) packets most =
    let whole : List ℕ = b ∷ body in
    let m = piece_of whole in
    let is = nat_eq (direction from to) k in
    let p = segment time from to comment (take m whole) (nat_le (length whole) most_bytes) packets in
    let shorter : length (drop m whole) ≤ n = rw (length-drop m whole) (omega (arith, most)) in
    joined_body k n time from to comment (drop m whole) (packets ++ p ∷ []) shorter
    ∙ ap (λ (l : List ℕ). l ++ if_on is (drop m whole)) (joined-push k packets p)
    ∙ append_assoc (joined k packets) (if_on is (take m whole)) (if_on is (drop m whole))
    ∙ ap (λ (l : List ℕ). joined k packets ++ l) (if_on-append is (take m whole) (drop m whole) ∙ ap (if_on is) (take-append-drop m whole))

joined_frame : (k time t : ℕ) (comment body : List ℕ) (packets : List Captured) (short : Bool) →
    joined k (cond short packets (packets ++ frame_at time t (number 4 0 body) comment (drop 4 body) ∷ [])) ≡ joined k packets ++ []
joined_frame k time t comment body packets true = sym (append-nil (joined k packets))
joined_frame k time t comment body packets false = joined-push k packets (frame_at time t (number 4 0 body) comment (drop 4 body))

joined_letter : (k time : ℕ) (from to : Actor) (comment body : List ℕ) (packets : List Captured) →
    joined k (with_letter time from to comment body packets) ≡ joined k packets ++ body_on k from to body
unfolding with_letter
joined_letter k time (Switch s) (Switch t) comment body packets = joined_frame k time t comment body packets (nat_lt (length body) 4)
joined_letter k time (Switch s) (Controller d) comment body packets = joined_body k (length body) time (Switch s) (Controller d) comment body packets (omega arith)
joined_letter k time (Controller c) (Switch t) comment body packets = joined_body k (length body) time (Controller c) (Switch t) comment body packets (omega arith)
joined_letter k time (Controller c) (Controller d) comment body packets = joined_body k (length body) time (Controller c) (Controller d) comment body packets (omega arith)

joined_letters : (k : ℕ) (fates : ℕ → Option Fate) (time : ℕ) (from : Actor) (first room index : ℕ) (letters : List (Letter (List ℕ))) (packets : List Captured) →
    joined k (with_packets_of_post fates time from first room index letters packets) ≡ joined k packets ++ bodies_on k from letters
unfolding with_packets_of_post bodies_on
joined_letters k fates time from first room index [] packets = sym (append-nil (joined k packets))
joined_letters k fates time from first room index (l ∷ letters) packets =
    joined_letters k fates time from first room (index + 1) letters (with_letter time from l.to (comment_of (first + index) (nat_lt index room) (fates (first + index))) l.body packets)
    ∙ ap (λ (x : List ℕ). x ++ bodies_on k from letters) (joined_letter k time from l.to (comment_of (first + index) (nat_lt index room) (fates (first + index))) l.body packets)
    ∙ append_assoc (joined k packets) (body_on k from l.to l.body) (bodies_on k from letters)

joined_entry : (k : ℕ) (fates : ℕ → Option Fate) (time : ℕ) (e : ByteEntry) (packets : List Captured) →
    joined k (with_packets_of_entry fates time e packets) ≡ joined k packets ++ posted_by k e
unfolding with_packets_of_entry
joined_entry k fates time (Post actor first letters lost) packets = joined_letters k fates time actor first (length letters - lost) 0 letters packets
joined_entry k fates time (Local (Switch s) (input.Frame port frame)) packets = joined-push k packets (frame_at time s port [] frame)
joined_entry k fates time (Local actor input) packets = sym (append-nil (joined k packets))
joined_entry k fates time (Draw actor id keep) packets = sym (append-nil (joined k packets))
joined_entry k fates time (Lose actor id) packets = sym (append-nil (joined k packets))
joined_entry k fates time (Idle actor) packets = sym (append-nil (joined k packets))
joined_entry k fates time (Refused actor) packets = sym (append-nil (joined k packets))

joined_entries : (k : ℕ) (fates : ℕ → Option Fate) (time : ℕ) (journal : List ByteEntry) (packets : List Captured) →
    joined k (with_entries fates time journal packets) ≡ joined k packets ++ posted_on k journal
unfolding with_entries posted_on
joined_entries k fates time [] packets = sym (append-nil (joined k packets))
joined_entries k fates time (e ∷ journal) packets =
    joined_entries k fates (time + 1) journal (with_packets_of_entry fates time e packets)
    ∙ ap (λ (x : List ℕ). x ++ posted_on k journal) (joined_entry k fates time e packets)
    ∙ append_assoc (joined k packets) (posted_by k e) (posted_on k journal)

pub joined_is_posted : (k : ℕ) (journal : List ByteEntry) → joined k (captured journal) ≡ posted_on k journal
unfolding captured joined
joined_is_posted k journal = joined_entries k (λ id. fate id (past journal)) 1 journal []

-- a packet more
numbered-push : (before xs : List Captured) (p : Captured) → AreInSequence before xs → IsInSequence (before ++ xs) p.way → AreInSequence before (xs ++ p ∷ [])
numbered-push before [] p h has = (subst (λ (ps : List Captured). IsInSequence ps p.way) (append-nil before) has, tt)
numbered-push before (x ∷ xs) p h has =
    (h.0, numbered-push (before ++ x ∷ []) xs p h.1 (subst (λ (ps : List Captured). IsInSequence ps p.way) (sym (append_assoc before (x ∷ []) xs)) has))

-- What holds of no packets, and still of one more, holds of each capture.
record IsKept (P : List Captured → Type 0) : Type 0 where
  pieces : (packets : List Captured) (time : ℕ) (from to : Actor) (comment piece : List ℕ) (ends : Bool) → length piece ≤ most_bytes → P packets →
      P (packets ++ segment time from to comment piece ends packets ∷ [])
  frames : (packets : List Captured) (time switch port : ℕ) (comment frame : List ℕ) → P packets → P (packets ++ frame_at time switch port comment frame ∷ [])

kept_body : (P : List Captured → Type 0) → IsKept P → (n time : ℕ) (from to : Actor) (comment body : List ℕ) (packets : List Captured) → P packets →
    P (with_body n time from to comment body packets)
unfolding with_body
kept_body P keep zero time from to comment body packets h = h
kept_body P keep (suc n) time from to comment [] packets h = h
kept_body P keep (suc n) time from to comment (b ∷ body) packets h =
    let whole : List ℕ = b ∷ body in
    let m = piece_of whole in
    let short : length (take m whole) ≤ most_bytes = rw (length-take m whole) (omega arith) in
    let ends = nat_le (length whole) most_bytes in
    kept_body P keep n time from to comment (drop m whole) (packets ++ segment time from to comment (take m whole) ends packets ∷ [])
    (keep.pieces packets time from to comment (take m whole) ends short h)

kept_frame : (P : List Captured → Type 0) → IsKept P → (time t : ℕ) (comment body : List ℕ) (packets : List Captured) (short : Bool) → P packets →
    P (cond short packets (packets ++ frame_at time t (number 4 0 body) comment (drop 4 body) ∷ []))
kept_frame P keep time t comment body packets true h = h
kept_frame P keep time t comment body packets false h = keep.frames packets time t (number 4 0 body) comment (drop 4 body) h

kept_letter : (P : List Captured → Type 0) → IsKept P → (time : ℕ) (from to : Actor) (comment body : List ℕ) (packets : List Captured) → P packets →
    P (with_letter time from to comment body packets)
unfolding with_letter
kept_letter P keep time (Switch s) (Switch t) comment body packets h = kept_frame P keep time t comment body packets (nat_lt (length body) 4) h
kept_letter P keep time (Switch s) (Controller d) comment body packets h = kept_body P keep (length body) time (Switch s) (Controller d) comment body packets h
kept_letter P keep time (Controller c) (Switch t) comment body packets h = kept_body P keep (length body) time (Controller c) (Switch t) comment body packets h
kept_letter P keep time (Controller c) (Controller d) comment body packets h = kept_body P keep (length body) time (Controller c) (Controller d) comment body packets h

kept_letters : (P : List Captured → Type 0) → IsKept P → (fates : ℕ → Option Fate) (time : ℕ) (from : Actor) (first room index : ℕ) (letters : List (Letter (List ℕ)))
    (packets : List Captured) → P packets → P (with_packets_of_post fates time from first room index letters packets)
unfolding with_packets_of_post
kept_letters P keep fates time from first room index [] packets h = h
kept_letters P keep fates time from first room index (l ∷ letters) packets h =
    let comment = comment_of (first + index) (nat_lt index room) (fates (first + index)) in
    kept_letters P keep fates time from first room (index + 1) letters (with_letter time from l.to comment l.body packets) (kept_letter P keep time from l.to comment l.body packets h)

kept_entry : (P : List Captured → Type 0) → IsKept P → (fates : ℕ → Option Fate) (time : ℕ) (e : ByteEntry) (packets : List Captured) → P packets → P (with_packets_of_entry fates time e packets)
unfolding with_packets_of_entry
kept_entry P keep fates time (Post actor first letters lost) packets h = kept_letters P keep fates time actor first (length letters - lost) 0 letters packets h
kept_entry P keep fates time (Local (Switch s) (input.Frame port frame)) packets h = keep.frames packets time s port [] frame h
kept_entry P keep fates time (Local actor input) packets h = h
kept_entry P keep fates time (Draw actor id keeps) packets h = h
kept_entry P keep fates time (Lose actor id) packets h = h
kept_entry P keep fates time (Idle actor) packets h = h
kept_entry P keep fates time (Refused actor) packets h = h

kept_entries : (P : List Captured → Type 0) → IsKept P → (fates : ℕ → Option Fate) (time : ℕ) (journal : List ByteEntry) (packets : List Captured) → P packets →
    P (with_entries fates time journal packets)
unfolding with_entries
kept_entries P keep fates time [] packets h = h
kept_entries P keep fates time (e ∷ journal) packets h =
    kept_entries P keep fates (time + 1) journal (with_packets_of_entry fates time e packets) (kept_entry P keep fates time e packets h)

kept_all : (P : List Captured → Type 0) → IsKept P → P [] → (journal : List ByteEntry) → P (captured journal)
unfolding captured
kept_all P keep none journal = kept_entries P keep (λ id. fate id (past journal)) 1 journal [] none

pub all_numbered : (journal : List ByteEntry) → AreInSequence [] (captured journal)
all_numbered journal = kept_all (AreInSequence []) keep tt journal
  where
    keep : IsKept (AreInSequence [])
    keep = record {
      pieces = λ packets time from to comment piece ends short h. numbered-push [] packets (segment time from to comment piece ends packets) h (refl, refl);
      frames = λ packets time switch port comment frame h. numbered-push [] packets (frame_at time switch port comment frame) h tt;
    }

short-push : (xs : List Captured) (p : Captured) → AllByRecursion (λ x. FitsPacket x.way x.payload) xs → FitsPacket p.way p.payload → AllByRecursion (λ x. FitsPacket x.way x.payload) (xs ++ p ∷ [])
short-push [] p h short = (short, tt)
short-push (x ∷ xs) p h short = (h.0, short-push xs p h.1 short)

pub all_short : (journal : List ByteEntry) → AllByRecursion (λ p. FitsPacket p.way p.payload) (captured journal)
all_short journal = kept_all (AllByRecursion (λ p. FitsPacket p.way p.payload)) keep tt journal
  where
    keep : IsKept (AllByRecursion (λ p. FitsPacket p.way p.payload))
    keep = record {
      pieces = λ packets time from to comment piece ends short h. short-push packets (segment time from to comment piece ends packets) h short;
      frames = λ packets time switch port comment frame h. short-push packets (frame_at time switch port comment frame) h tt;
    }

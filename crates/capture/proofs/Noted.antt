-- What is noted of letters, and what is counted of streams, one step more.
use Rattle.std.proofs.Common.{add-one, ◌≡◌, ◌≤◌, ◌==◌, ◌<◌, ◌%◌, ℕ, ◌+◌, zero, suc, nat_eq, nat_le, nat_lt, Bool, true, false, cond, List, [], ◌∷◌, ◌++◌, length, take, drop, Option, Some, get_or, refl, sym, ap, ◌∙◌, arith, length-append, length-drop}
use Rattle.std.proofs.Math.Nat.{mod-add-mod}
use Rattle.std.proofs.Math.Seq.{drop-cons, take-suc}
use Rattle.std.proofs.lemmas.List.{drop_all}
use Rattle.std.proofs.lemmas.Bool.{eqb-true}
use Rattle.journal.specs.declared.journal.Actor.{Actor}
use Rattle.journal.specs.declared.journal.Letter.{Letter}
use Rattle.journal.specs.Pool.{past}
use Rattle.of_bytes.specs.Numbers.{number}
use Rattle.journal.proofs.Lists.{past-push}
use Rattle.capture_laws.specs.declared.shapes.Captured.{Captured}
use Rattle.capture_laws.specs.declared.shapes.Fate.{Fate}
use Rattle.report.specs.Records.{ByteEntry}
use Rattle.capture_laws.specs.Fates.{comment_of, fate, fate_or_none, noted}
use Rattle.capture_laws.specs.Packets.{captured, frame_at, with_entries, with_packets_of_entry, with_frame, with_letter, with_packets_of_post}
use Rattle.capture_laws.specs.Streams.{bytes_on, direction, joined, most_bytes, piece_of, segment, sequence, with_body}
use Rattle.capture.specs.Tapes.{AreNextBytes, next_tape}
use Rattle.capture_laws.proofs.Joining.{joined-push}

-- what is changed at a number is what was known of that number
pub by_number : (id q : ℕ) (old : ℕ → Option Fate) (f : Fate → Fate) →
    cond (nat_eq id q) (Some (f (fate_or_none (old id)))) (old q) ≡ cond (nat_eq id q) (Some (f (fate_or_none (old q)))) (old q)
by_number id q old f = by_test (nat_eq id q) refl
  where
    by_test : (b : Bool) → nat_eq id q ≡ b → cond b (Some (f (fate_or_none (old id)))) (old q) ≡ cond b (Some (f (fate_or_none (old q)))) (old q)
    by_test true is = let same : id ≡ q = eqb-true id q is in ap (λ (n : ℕ). Some (f (fate_or_none (old n)))) same
    by_test false is = refl

-- the past of an entry more
past-take : (entries : List ByteEntry) (i : ℕ) (d : ByteEntry) → i < length entries → past (take (suc i) entries) ≡ get_or entries i d ∷ past (take i entries)
past-take entries i d within = ap past (take-suc entries i d within) ∙ past-push (take i entries) (get_or entries i d)

pub fates_more : (entries : List ByteEntry) (i : ℕ) (e : ByteEntry) (now new : ℕ → Option Fate) → i < length entries → e ≡ get_or entries i e →
    ((q : ℕ) → now q ≡ fate q (past (take i entries))) → ((q : ℕ) → new q ≡ noted q e (now q)) → (q : ℕ) → new q ≡ fate q (past (take (i + 1) entries))
unfolding fate
fates_more entries i e now new within is known step q =
    rw (add-one i, past-take entries i e within, sym is) (step q ∙ rw (known q) refl)

pub next_put : (b : Bool) (n : ℕ) (old : Option ℕ) → next_tape (cond b (Some n) old) ≡ cond b n (next_tape old)
next_put true n old = refl
next_put false n old = refl

sequence-push : (k : ℕ) (packets : List Captured) (p : Captured) →
    sequence k (packets ++ p ∷ []) ≡ (sequence k packets + length (bytes_on k p.way p.payload)) % 4294967296
unfolding sequence
sequence-push k packets p =
    let here = bytes_on k p.way p.payload in
    let before = joined k packets in
    let counts : 1 + (length before + length here) ≡ 1 + length before + length here = omega arith in
    ap (λ (l : List ℕ). (1 + length l) % 4294967296) (joined-push k packets p)
    ∙ ap (λ (n : ℕ). (1 + n) % 4294967296) (length-append before here)
    ∙ ap (λ (n : ℕ). n % 4294967296) counts
    ∙ sym (mod-add-mod (1 + length before) 4294967296 (length here))

-- a packet with no bytes on a stream changes no number
sequence-none : (k : ℕ) (packets : List Captured) → (sequence k packets + 0) % 4294967296 ≡ sequence k packets
unfolding sequence
sequence-none k packets = mod-add-mod (1 + length (joined k packets)) 4294967296 0 ∙ ap (λ (n : ℕ). n % 4294967296) (omega arith)

pub counted_frame : (next : ℕ → Option ℕ) (packets : List Captured) (time switch port : ℕ) (comment frame : List ℕ) → AreNextBytes next packets →
    AreNextBytes next (packets ++ frame_at time switch port comment frame ∷ [])
counted_frame next packets time switch port comment frame counted k =
    counted k ∙ sym (sequence-push k packets (frame_at time switch port comment frame) ∙ sequence-none k packets)

pub counted_more : (old new : ℕ → Option ℕ) (packets : List Captured) (time : ℕ) (from to : Actor) (comment piece : List ℕ) (ends : Bool) → AreNextBytes old packets →
    ((k : ℕ) → next_tape (new k) ≡ cond (nat_eq (direction from to) k) ((next_tape (old (direction from to)) + length piece) % 4294967296) (next_tape (old k))) →
    AreNextBytes new (packets ++ segment time from to comment piece ends packets ∷ [])
counted_more old new packets time from to comment piece ends counted put k =
    put k ∙ by_test (nat_eq d k) refl ∙ sym (sequence-push k packets (segment time from to comment piece ends packets))
  where
    d : ℕ
    d = direction from to

    by_test : (b : Bool) → nat_eq d k ≡ b → cond b ((next_tape (old d) + length piece) % 4294967296) (next_tape (old k)) ≡ (sequence k packets + length (cond b piece [])) % 4294967296
    by_test true is =
        let same : d ≡ k = eqb-true d k is in
        ap (λ (n : ℕ). (n + length piece) % 4294967296) (counted d ∙ ap (λ (n : ℕ). sequence n packets) same)
    by_test false is = counted k ∙ sym (sequence-none k packets)

-- a piece more
pub pieces_more : (n time : ℕ) (from to : Actor) (comment rest : List ℕ) (packets : List Captured) → (length rest == 0) ≡ false → length rest ≤ n →
    (m : ℕ) × (length (drop (piece_of rest) rest) ≤ m) × (with_body n time from to comment rest packets
    ≡ with_body m time from to comment (drop (piece_of rest) rest)
    (packets ++ segment time from to comment (take (piece_of rest) rest) (nat_le (length rest) most_bytes) packets ∷ []))
unfolding with_body
pieces_more n time from to comment [] packets some most = absurd cc
pieces_more zero time from to comment (b ∷ rest) packets some most = absurd (omega (arith, most))
pieces_more (suc n) time from to comment (b ∷ rest) packets some most =
    (n, rw (length-drop (piece_of (b ∷ rest)) (b ∷ rest)) (omega (arith, most)), refl)

-- none more
pub pieces_end : (n time : ℕ) (from to : Actor) (comment rest : List ℕ) (packets : List Captured) → (length rest == 0) ≡ true → with_body n time from to comment rest packets ≡ packets
unfolding with_body
pieces_end zero time from to comment rest packets none = refl
pieces_end (suc n) time from to comment [] packets none = refl
pieces_end (suc n) time from to comment (b ∷ rest) packets none = absurd (omega (arith, eqb-true (length (b ∷ rest)) 0 none))

-- no packets, of which nothing is noted
pub counted_none : (k : ℕ) → 1 ≡ sequence k []
unfolding sequence joined
counted_none k = refl

pub counted_link : (next : ℕ → Option ℕ) (packets : List Captured) (time switch : ℕ) (comment body : List ℕ) → AreNextBytes next packets →
    AreNextBytes next (with_frame time switch comment body packets)
counted_link next packets time switch comment body counted = by_test (nat_lt (length body) 4)
  where
    by_test : (b : Bool) → AreNextBytes next (cond b packets (packets ++ frame_at time switch (number 4 0 body) comment (drop 4 body) ∷ []))
    by_test true = counted
    by_test false = counted_frame next packets time switch (number 4 0 body) comment (drop 4 body) counted

-- the first of those that are left
pub drop_here : {A : Type 0} (xs : List A) (i : ℕ) (x : A) → i < length xs → x ≡ get_or xs i x → drop i xs ≡ x ∷ drop (i + 1) xs
drop_here {A} xs i x within is = rw (add-one i) (drop-cons xs i x within ∙ ap (λ (y : A). y ∷ drop (suc i) xs) (sym is))

pub letters_step : (fates : ℕ → Option Fate) (time : ℕ) (from : Actor) (first room i : ℕ) (letters : List (Letter (List ℕ))) (l : Letter (List ℕ)) (packets : List Captured) →
    i < length letters → l ≡ get_or letters i l → with_packets_of_post fates time from first room i (drop i letters) packets
    ≡ with_packets_of_post fates time from first room (i + 1) (drop (i + 1) letters) (with_letter time from l.to (comment_of (first + i) (nat_lt i room) (fates (first + i))) l.body packets)
unfolding with_packets_of_post
letters_step fates time from first room i letters l packets within is = rw (drop_here letters i l within is) refl

pub letters_end : (fates : ℕ → Option Fate) (time : ℕ) (from : Actor) (first room i : ℕ) (letters : List (Letter (List ℕ))) (packets : List Captured) →
    length letters ≤ i → with_packets_of_post fates time from first room i (drop i letters) packets ≡ packets
unfolding with_packets_of_post
letters_end fates time from first room i letters packets over = rw (drop_all i letters over) refl

pub entries_step : (fates : ℕ → Option Fate) (i : ℕ) (journal : List ByteEntry) (e : ByteEntry) (packets : List Captured) → i < length journal → e ≡ get_or journal i e →
    with_entries fates (i + 1) (drop i journal) packets ≡ with_entries fates (i + 1 + 1) (drop (i + 1) journal) (with_packets_of_entry fates (i + 1) e packets)
unfolding with_entries
entries_step fates i journal e packets within is = rw (drop_here journal i e within is) refl

pub entries_end : (fates : ℕ → Option Fate) (time i : ℕ) (journal : List ByteEntry) (packets : List Captured) → length journal ≤ i → with_entries fates time (drop i journal) packets ≡ packets
unfolding with_entries
entries_end fates time i journal packets over = rw (drop_all i journal over) refl

-- what is known of letters, in another way
pub same_fates : (now : ℕ → Option Fate) (journal : List ByteEntry) → ((q : ℕ) → now q ≡ fate q (past journal)) → with_entries now 1 journal [] ≡ captured journal
unfolding captured
same_fates now journal same = ap (λ (f : ℕ → Option Fate). with_entries f 1 journal []) (λ i q. same q i)

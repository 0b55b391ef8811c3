-- Places of packets in a journal that grows.
use Rattle.std.proofs.Common.{◌≡◌, ◌<◌, ℕ, ◌+◌, Bool, true, false, Option, Some, None, List, [], ◌∷◌, ◌++◌, length, take, drop, get_or, refl, sym, ap, ◌∙◌, arith, zero, suc, subst}
use Rattle.std.specs.Prelude.{slice_get, if◌then◌else◌, ◌%◌}
use Rattle.std.specs.List.{remove}
use Rattle.std.proofs.lemmas.List.{length-append, reverse-append}
use Rattle.std.proofs.lemmas.List.Concat.{flat_map-append}
use Rattle.std.proofs.lemmas.Option.{none-some}
use Rattle.journal.specs.declared.journal.Actor.{Actor}
use Rattle.journal.specs.declared.journal.JournalEntry.{JournalEntry}
use Rattle.journal.specs.declared.journal.JournalEntry.TheVariants.{Post, Draw, Lose, Local, Idle, Refused}
use Rattle.journal.specs.declared.journal.Letter.{Letter}
use Rattle.journal.specs.declared.journal.Packet.{Packet}
use Rattle.journal.specs.declared.place.PacketPlace.{PacketPlace}
use Rattle.journal.specs.Actors.{same_actor}
use Rattle.journal.specs.Places.{packet_as, packet_at, packets_in, packets_posted, IsPlaceOf, IsFound, ArePlacesOf, placed, sent_to, letters_to, picked}
use Rattle.journal.specs.Pool.{past, numbered_letters, waiting, chosen, letters_posted}
use Rattle.journal.proofs.Lists.{length-numbered, numbered-take}

-- what stands in a list stands there when it grows
pub slice_get-append : {A : Type 0} (xs ys : List A) (i : ℕ) (x : A) → slice_get xs i ≡ Some x → slice_get (xs ++ ys) i ≡ Some x
slice_get-append [] ys i x h = absurd (none-some x h)
slice_get-append (y ∷ xs) ys zero x h = h
slice_get-append (y ∷ xs) ys (suc i) x h = slice_get-append xs ys i x h

slice_get-front : {A : Type 0} (n : ℕ) (xs : List A) (i : ℕ) (x : A) → slice_get (take n xs) i ≡ Some x → slice_get xs i ≡ Some x
slice_get-front zero xs i x h = absurd (none-some x h)
slice_get-front (suc n) [] i x h = h
slice_get-front (suc n) (y ∷ xs) zero x h = h
slice_get-front (suc n) (y ∷ xs) (suc i) x h = slice_get-front n xs i x h

slice_get-behind : {A : Type 0} (xs ys : List A) (n i : ℕ) → n ≡ length xs + i → slice_get (xs ++ ys) n ≡ slice_get ys i
slice_get-behind [] ys n i is = let same : n ≡ i = omega (arith, is) in ap (slice_get ys) same
slice_get-behind (x ∷ xs) ys zero i is = absurd (omega (arith, is))
slice_get-behind (x ∷ xs) ys (suc n) i is = slice_get-behind xs ys n i (omega (arith, is))

-- one letter more
placed_more : {B : Type 0} (first : ℕ) (from : Actor) (letters : List (Letter B)) (i : ℕ) (d : Letter B) → i < length letters →
    placed first from (take (i + 1) letters) ≡ placed first from (take i letters) ++ record { id = first + i; from = from; to = (get_or letters i d).to } ∷ []
placed_more first from [] i d h = absurd (omega arith)
placed_more first from (l ∷ letters) zero d h =
    let n : first ≡ first + 0 = omega arith in
    ap (λ (id : ℕ). record { id = id; from = from; to = l.to } ∷ []) n
placed_more first from (l ∷ letters) (suc i) d h =
    let n : first + 1 + i ≡ first + suc i = omega arith in
    let short : suc i + 1 ≡ suc (i + 1) = omega arith in
    rw (short, ← n) (ap (λ ps. record { id = first; from = from; to = l.to } ∷ ps) (placed_more (first + 1) from letters i d (omega arith)))

pub placed_next : {B : Type 0} (first : ℕ) (from : Actor) (letters : List (Letter B)) (i : ℕ) (letter : Letter B) → i < length letters → letter ≡ get_or letters i letter →
    placed first from (take (i + 1) letters) ≡ placed first from (take i letters) ++ record { id = first + i; from = from; to = letter.to } ∷ []
placed_next first from letters i letter within is =
    placed_more first from letters i letter within
    ∙ ap (λ (l : Letter _). placed first from (take i letters) ++ record { id = first + i; from = from; to = l.to } ∷ []) (sym is)

sent_choice : {B : Type 0} (b : Bool) (place : PacketPlace) (letter : Letter B) (places : List PacketPlace) (letters : List (Letter B)) → length places ≡ length letters →
    length (if b then place ∷ places else places) ≡ length (if b then letter ∷ letters else letters)
sent_choice true place letter places letters h = omega (arith, h)
sent_choice false place letter places letters h = h

-- an actor gets as many packets as letters
pub length-sent : {B : Type 0} (a : Actor) (first : ℕ) (from : Actor) (letters : List (Letter B)) → length (sent_to a (placed first from letters)) ≡ length (letters_to a letters)
length-sent a first from [] = refl
length-sent a first from (l ∷ letters) =
    sent_choice (same_actor l.to a) (record { id = first; from = from; to = l.to }) l (sent_to a (placed (first + 1) from letters)) (letters_to a letters)
    (length-sent a (first + 1) from letters)

module _ {B : Type 0} where
  -- a journal posts as many packets as letters
  posted_more : (xs ys : List (JournalEntry B)) → letters_posted (xs ++ ys) ≡ letters_posted xs + letters_posted ys
  posted_more [] ys = omega arith
  posted_more (Post a first letters lost ∷ xs) ys = let rest = posted_more xs ys in omega (arith, rest)
  posted_more (Draw a id keep ∷ xs) ys = posted_more xs ys
  posted_more (Lose a id ∷ xs) ys = posted_more xs ys
  posted_more (Local a input ∷ xs) ys = posted_more xs ys
  posted_more (Idle a ∷ xs) ys = posted_more xs ys
  posted_more (Refused a ∷ xs) ys = posted_more xs ys

  posted_one : (e : JournalEntry B) → letters_posted (e ∷ []) ≡ length (packets_in e)
  posted_one (Post a first letters lost) = let long = length-numbered first a letters in omega (arith, long)
  posted_one (Draw a id keep) = refl
  posted_one (Lose a id) = refl
  posted_one (Local a input) = refl
  posted_one (Idle a) = refl
  posted_one (Refused a) = refl

  pub posted_count : (journal : List (JournalEntry B)) → letters_posted (past journal) ≡ length (packets_posted journal)
  posted_count [] = refl
  posted_count (e ∷ journal) =
      let turned : past (e ∷ journal) ≡ past journal ++ e ∷ [] = reverse-append (e ∷ []) journal in
      let rest = posted_count journal in
      let one = posted_one e in
      let sum = posted_more (past journal) (e ∷ []) in
      let long = length-append (packets_in e) (packets_posted journal) in
      ap letters_posted turned ∙ omega (arith, sum, rest, one, long)

  pub stands_later : (journal more : List (JournalEntry B)) (place : PacketPlace) (p : Packet B) → packet_at place journal ≡ Some p → packet_at place (journal ++ more) ≡ Some p
  stands_later journal more place p stands =
      ap (λ (ps : List (Packet B)). slice_get ps place.id) (flat_map-append packets_in journal more)
      ∙ slice_get-append (packets_posted journal) (packets_posted more) place.id p stands

  pub is_later : (journal more : List (JournalEntry B)) (place : PacketPlace) (p : Packet B) → IsPlaceOf journal place p → IsPlaceOf (journal ++ more) place p
  is_later journal more place p is = record {
    stands = stands_later journal more place p is.stands;
    id_is = is.id_is;
    from_is = is.from_is;
    to_is = is.to_is;
  }

  pub found_later : (journal more : List (JournalEntry B)) (place : Option PacketPlace) (p : Option (Packet B)) → IsFound journal place p → IsFound (journal ++ more) place p
  found_later journal more None None is = is
  found_later journal more None (Some p) is = is
  found_later journal more (Some place) None is = is
  found_later journal more (Some place) (Some p) is = is_later journal more place p is

  -- a place that was found is that of the packet
  pub found_some : (journal : List (JournalEntry B)) (place : PacketPlace) (o : Option (Packet B)) → IsFound journal (Some place) o → (p : Packet B) × (o ≡ Some p) × IsPlaceOf journal place p
  found_some journal place None is = absurd is
  found_some journal place (Some p) is = (p, refl, is)

  pub found_none : (journal : List (JournalEntry B)) (o : Option (Packet B)) → IsFound journal None o → o ≡ None
  found_none journal None is = refl
  found_none journal (Some p) is = absurd is

  pub places_later : (journal more : List (JournalEntry B)) (places : List PacketPlace) (packets : List (Packet B)) → ArePlacesOf journal places packets → ArePlacesOf (journal ++ more) places packets
  places_later journal more [] [] are = are
  places_later journal more [] (p ∷ packets) are = are
  places_later journal more (place ∷ places) [] are = are
  places_later journal more (place ∷ places) (p ∷ packets) are = (is_later journal more place p are.0, places_later journal more places packets are.1)

  pub places_append : (journal : List (JournalEntry B)) (places more : List PacketPlace) (packets after : List (Packet B)) → ArePlacesOf journal places packets → ArePlacesOf journal more after →
      ArePlacesOf journal (places ++ more) (packets ++ after)
  places_append journal [] more [] after are behind = behind
  places_append journal [] more (p ∷ packets) after are behind = absurd are
  places_append journal (place ∷ places) more [] after are behind = absurd are
  places_append journal (place ∷ places) more (p ∷ packets) after are behind = (are.0, places_append journal places more packets after are.1 behind)

  pub places_length : (journal : List (JournalEntry B)) (places : List PacketPlace) (packets : List (Packet B)) → ArePlacesOf journal places packets → length places ≡ length packets
  places_length journal [] [] are = refl
  places_length journal [] (p ∷ packets) are = absurd are
  places_length journal (place ∷ places) [] are = absurd are
  places_length journal (place ∷ places) (p ∷ packets) are = let rest = places_length journal places packets are.1 in omega (arith, rest)

  sent_or_not : (journal : List (JournalEntry B)) (b c : Bool) (place : PacketPlace) (p : Packet B) (places : List PacketPlace) (packets : List (Packet B)) → b ≡ c → IsPlaceOf journal place p →
      ArePlacesOf journal places packets → ArePlacesOf journal (if b then place ∷ places else places) (if c then p ∷ packets else packets)
  sent_or_not journal true true place p places packets e is are = (is, are)
  sent_or_not journal true false place p places packets e is are = cc
  sent_or_not journal false true place p places packets e is are = cc
  sent_or_not journal false false place p places packets e is are = are

  -- those for an actor
  pub places_for : (journal : List (JournalEntry B)) (a : Actor) (places : List PacketPlace) (packets : List (Packet B)) → ArePlacesOf journal places packets →
      ArePlacesOf journal (sent_to a places) (waiting a packets)
  places_for journal a [] [] are = are
  places_for journal a [] (p ∷ packets) are = absurd are
  places_for journal a (place ∷ places) [] are = absurd are
  places_for journal a (place ∷ places) (p ∷ packets) are =
      sent_or_not journal (same_actor place.to a) (same_actor p.to a) place p (sent_to a places) (waiting a packets) (ap (λ to. same_actor to a) are.0.to_is) are.0 (places_for journal a places packets are.1)

  -- one of them
  pub places_at : (journal : List (JournalEntry B)) (places : List PacketPlace) (packets : List (Packet B)) (i : ℕ) → ArePlacesOf journal places packets → IsFound journal (slice_get places i) (slice_get packets i)
  places_at journal [] [] i are = are
  places_at journal [] (p ∷ packets) i are = absurd are
  places_at journal (place ∷ places) [] i are = absurd are
  places_at journal (place ∷ places) (p ∷ packets) zero are = are.0
  places_at journal (place ∷ places) (p ∷ packets) (suc i) are = places_at journal places packets i are.1

  pub places_picked : (journal : List (JournalEntry B)) (places : List PacketPlace) (packets : List (Packet B)) (choice : ℕ) → ArePlacesOf journal places packets →
      IsFound journal (picked choice places) (chosen choice packets)
  places_picked journal places packets choice are =
      subst (λ n. IsFound journal (picked choice places) (slice_get packets (choice % n))) (places_length journal places packets are) (places_at journal places packets (choice % length places) are)

  places_take : (journal : List (JournalEntry B)) (n : ℕ) (places : List PacketPlace) (packets : List (Packet B)) → ArePlacesOf journal places packets → ArePlacesOf journal (take n places) (take n packets)
  places_take journal zero places packets are = tt
  places_take journal (suc n) [] [] are = are
  places_take journal (suc n) [] (p ∷ packets) are = absurd are
  places_take journal (suc n) (place ∷ places) [] are = absurd are
  places_take journal (suc n) (place ∷ places) (p ∷ packets) are = (are.0, places_take journal n places packets are.1)

  places_drop : (journal : List (JournalEntry B)) (n : ℕ) (places : List PacketPlace) (packets : List (Packet B)) → ArePlacesOf journal places packets → ArePlacesOf journal (drop n places) (drop n packets)
  places_drop journal zero places packets are = are
  places_drop journal (suc n) [] [] are = are
  places_drop journal (suc n) [] (p ∷ packets) are = absurd are
  places_drop journal (suc n) (place ∷ places) [] are = absurd are
  places_drop journal (suc n) (place ∷ places) (p ∷ packets) are = places_drop journal n places packets are.1

  -- without one of them
  pub places_remove : (journal : List (JournalEntry B)) (i : ℕ) (places : List PacketPlace) (packets : List (Packet B)) → ArePlacesOf journal places packets →
      ArePlacesOf journal (remove places i) (remove packets i)
  places_remove journal i places packets are =
      places_append journal (take i places) (drop (suc i) places) (take i packets) (drop (suc i) packets) (places_take journal i places packets are) (places_drop journal (suc i) places packets are)

  -- the letters of a post stand at their places
  letters_stand : (journal : List (JournalEntry B)) (first : ℕ) (from : Actor) (letters : List (Letter B)) →
      ((i : ℕ) (p : Packet B) → slice_get (numbered_letters first from letters) i ≡ Some p → slice_get (packets_posted journal) (first + i) ≡ Some p) →
      ArePlacesOf journal (placed first from letters) (numbered_letters first from letters)
  letters_stand journal first from [] among = tt
  letters_stand journal first from (l ∷ letters) among =
      let here : first ≡ first + 0 = omega arith in (
        record {
          stands = ap (slice_get (packets_posted journal)) here ∙ among 0 (packet_as first from l) refl;
          id_is = refl;
          from_is = refl;
          to_is = refl;
        },
        letters_stand journal (first + 1) from letters
            (λ i p h. let next : first + 1 + i ≡ first + suc i = omega arith in ap (slice_get (packets_posted journal)) next ∙ among (suc i) p h),
      )

  pub post_stands : (journal : List (JournalEntry B)) (first count lost : ℕ) (from : Actor) (letters : List (Letter B)) → first ≡ length (packets_posted journal) →
      ArePlacesOf (journal ++ Post from first letters lost ∷ []) (placed first from (take count letters)) (numbered_letters first from (take count letters))
  post_stands journal first count lost from letters is =
      letters_stand (journal ++ Post from first letters lost ∷ []) first from (take count letters) (λ i p h.
      let posted = numbered_letters first from letters in
      let behind : first + i ≡ length (packets_posted journal) + i = omega (arith, is) in
      ap (λ (ps : List (Packet B)). slice_get ps (first + i)) (flat_map-append packets_in journal (Post from first letters lost ∷ []))
      ∙ slice_get-behind (packets_posted journal) (posted ++ []) (first + i) i behind
      ∙ slice_get-append posted [] i p (slice_get-front count posted i p (ap (λ ps. slice_get ps i) (sym (numbered-take count first from letters)) ∙ h)))

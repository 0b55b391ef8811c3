-- The place in a stream does not depend on how it was cut.
use Rattle.std.proofs.Common.{◌≡◌, ℕ, suc, ◌≤◌, Bool, true, false, cond, not, eqb, ltb, List, [], ◌∷◌, ◌++◌, ◌⊎◌, inl, inr, length, drop, Option, Some, None, Result, Ok, Err, refl, sym, ap, subst, append_assoc, ◌∙◌, arith}
use Rattle.std.specs.Prelude.{slice_index}
use Rattle.std.proofs.lemmas.Bool.{ltb-false, le-ltb}
use Rattle.std.proofs.lemmas.List.{append-nil, length-append, get_or_append_left, drop-append-le, take-append-le}
use Rattle.of_bytes.proofs.Bytes.{number-append}
use Rattle.of_bytes.proofs.Steps.{not_false}
use Rattle.of_frame.specs.declared.fault.FrameFault.{FrameFault}
use Rattle.of_frame.specs.declared.fault.FrameFault.TheVariants.{BadVersion, BadLength}
use Rattle.of_frame.specs.Framing.{Deed, Fed, Asked, joined_pieces, lent_by, messages, behind_messages, IsOfJoined, frame_length, length_at, front_of_message, next_of, rest_of}

-- What the front of a stream tells is not changed by what follows.
frame_length-append : (bytes more : List ℕ) → 8 ≤ length bytes → frame_length (bytes ++ more) ≡ frame_length bytes
frame_length-append bytes more long = number-append 2 2 bytes more (omega arith)

-- a message of this length stands at the front
record IsWhole (bytes : List ℕ) (len : ℕ) : Type 0 where
  pub header : 8 ≤ length bytes
  pub version : eqb (slice_index bytes 0) 4 ≡ true
  pub len_is : frame_length bytes ≡ len
  pub least : 8 ≤ len
  pub room : len ≤ length bytes

whole_length : (bytes : List ℕ) (len : ℕ) → IsWhole bytes len → length_at bytes ≡ Ok (Some len)
unfolding length_at
whole_length bytes len w =
    let a : ltb (length bytes) 8 ≡ false = le-ltb (length bytes) 8 w.header in
    let b : ltb len 8 ≡ false = le-ltb len 8 w.least in
    let c : ltb (length bytes) len ≡ false = le-ltb (length bytes) len w.room in
    rw (a, w.version, w.len_is, b, c) refl

abbrev Found : Type 0
Found = Result (Option ℕ) FrameFault

not_none : (b : Bool) (r : Found) (len : ℕ) → cond b (Ok None) r ≡ Ok (Some len) → (b ≡ false) × (r ≡ Ok (Some len))
not_none true r len e = absurd (cc (e))
not_none false r len e = (refl, e)

not_fault : (b : Bool) (d : FrameFault) (r : Found) (len : ℕ) → cond b (Err d) r ≡ Ok (Some len) → (b ≡ false) × (r ≡ Ok (Some len))
not_fault true d r len e = absurd cc
not_fault false d r len e = (refl, e)

abbrev found : ℕ → Found
found len = Ok (Some len)

abbrev found_none : Found
found_none = Ok None

same_found : (m n : ℕ) → found m ≡ found n → m ≡ n
same_found m n e = cc

length_whole : (bytes : List ℕ) (len : ℕ) → length_at bytes ≡ Ok (Some len) → IsWhole bytes len
unfolding length_at
length_whole bytes len e =
    let n = frame_length bytes in
    let last : Found = cond (ltb (length bytes) n) (Ok None) (Ok (Some n)) in
    let p0 = not_none (ltb (length bytes) 8) (cond (not (eqb (slice_index bytes 0) 4)) (Err BadVersion) (cond (ltb n 8) (Err BadLength) last)) len e in
    let p1 = not_fault (not (eqb (slice_index bytes 0) 4)) BadVersion (cond (ltb n 8) (Err BadLength) last) len p0.1 in
    let p2 = not_fault (ltb n 8) BadLength last len p1.1 in
    let p3 = not_none (ltb (length bytes) n) (Ok (Some n)) len p2.1 in
    let same : n ≡ len = same_found n len p3.1 in
    record {
      header = ltb-false (length bytes) 8 p0.0;
      version = not_false (eqb (slice_index bytes 0) 4) p1.0;
      len_is = same;
      least = let least = ltb-false n 8 p2.0 in omega arith;
      room = let room = ltb-false (length bytes) n p3.0 in omega arith;
    }

pub length_at-append : (bytes more : List ℕ) (len : ℕ) → length_at bytes ≡ Ok (Some len) → length_at (bytes ++ more) ≡ Ok (Some len)
length_at-append bytes more len e =
    let w = length_whole bytes len e in
    let header = w.header in
    let room = w.room in
    whole_length (bytes ++ more) len (record {
      header = omega (arith, length-append bytes more);
      version = rw (get_or_append_left bytes more 0 0 (omega arith)) w.version;
      len_is = frame_length-append bytes more w.header ∙ w.len_is;
      least = w.least;
      room = omega (arith, length-append bytes more);
    })

-- ---- whichever way a stream is cut

-- One message more: it stands at the front of the joined bytes too.
lent_one : (deeds : List Deed) (held : List ℕ) (len count : ℕ) → length_at held ≡ Ok (Some len) → IsOfJoined deeds (drop len held) count → IsOfJoined (Asked ∷ deeds) held (suc count)
lent_one deeds held len count e more =
    let whole = length_at-append held (joined_pieces deeds) len e in
    let room = (length_whole held len e).room in
    let front = take-append-le len held (joined_pieces deeds) room in
    let rest = drop-append-le len held (joined_pieces deeds) room in
    record {
      lent = rw e (ap suc more.lent);
      frames = rw (e, whole, front, rest, more.frames) refl;
      left = rw (e, whole, rest, more.left) refl;
    }

none_lent : (deeds : List Deed) (held : List ℕ) (count : ℕ) → length_at held ≡ Ok None → IsOfJoined deeds held count → IsOfJoined (Asked ∷ deeds) held count
none_lent deeds held count e more = record { lent = rw e more.lent; frames = rw e more.frames; left = rw e more.left }

refused_one : (deeds : List Deed) (held : List ℕ) (count : ℕ) (fault : FrameFault) → length_at held ≡ Err fault → IsOfJoined deeds held count → IsOfJoined (Asked ∷ deeds) held count
refused_one deeds held count fault e more = record { lent = rw e more.lent; frames = rw e more.frames; left = rw e more.left }

fed_piece : (deeds : List Deed) (held piece : List ℕ) (count : ℕ) → IsOfJoined deeds (held ++ piece) count → IsOfJoined (Fed piece ∷ deeds) held count
fed_piece deeds held piece count more =
    let e = append_assoc held piece (joined_pieces deeds) in
    record { lent = more.lent; frames = more.frames ∙ ap (messages count) e; left = more.left ∙ ap (behind_messages count) e }

pub of_joined : (deeds : List Deed) (held : List ℕ) → (count : ℕ) × IsOfJoined deeds held count
of_joined [] held = (0, record { lent = refl; frames = refl; left = sym (append-nil held) })
of_joined (Fed piece ∷ deeds) held =
    let more = of_joined deeds (held ++ piece) in
    (more.0, fed_piece deeds held piece more.0 more.1)
of_joined (Asked ∷ deeds) held = asked (length_at held) refl (of_joined deeds (rest_of held))
  where
    asked : (r : Found) → length_at held ≡ r → (count : ℕ) × IsOfJoined deeds (rest_of held) count → (count : ℕ) × IsOfJoined (Asked ∷ deeds) held count
    asked (Ok (Some len)) e more =
        let rest : rest_of held ≡ drop len held = rw e refl in
        (suc more.0, lent_one deeds held len more.0 e (subst (λ (h : List ℕ). IsOfJoined deeds h more.0) rest more.1))
    asked (Ok None) e more =
        let rest : rest_of held ≡ held = rw e refl in
        (more.0, none_lent deeds held more.0 e (subst (λ (h : List ℕ). IsOfJoined deeds h more.0) rest more.1))
    asked (Err fault) e more =
        let rest : rest_of held ≡ held = rw e refl in
        (more.0, refused_one deeds held more.0 fault e (subst (λ (h : List ℕ). IsOfJoined deeds h more.0) rest more.1))

pub all_of_joined : (deeds : List Deed) → IsOfJoined deeds [] (length (lent_by deeds []))
all_of_joined deeds =
    let found = of_joined deeds [] in
    subst (λ (n : ℕ). IsOfJoined deeds [] n) (sym found.1.lent) found.1

-- ---- a refusal stays

refused : (b : Bool) (d e : FrameFault) (r : Found) → cond b (Err d) r ≡ Err e → ((b ≡ true) × (d ≡ e)) ⊎ ((b ≡ false) × (r ≡ Err e))
refused true d e r h = inl (refl, cc)
refused false d e r h = inr (refl, h)

passed_none : (b : Bool) (e : FrameFault) (r : Found) → cond b (Ok None) r ≡ Err e → (b ≡ false) × (r ≡ Err e)
passed_none true e r h = absurd cc
passed_none false e r h = (refl, h)

never_refused : (b : Bool) (n : ℕ) (e : FrameFault) → cond b (found_none) (found n) ≡ Err e → ⊥
never_refused true n e h = cc
never_refused false n e h = cc

pub length_at-refused : (bytes more : List ℕ) (fault : FrameFault) → length_at bytes ≡ Err fault → length_at (bytes ++ more) ≡ Err fault
unfolding length_at
length_at-refused bytes more fault e =
    let n = frame_length bytes in
    let p0 = passed_none (ltb (length bytes) 8) fault (cond (not (eqb (slice_index bytes 0) 4)) (Err BadVersion) (cond (ltb n 8) (Err BadLength) (cond (ltb (length bytes) n) (Ok None) (Ok (Some n))))) e in
    let header : 8 ≤ length bytes = ltb-false (length bytes) 8 p0.0 in
    let a : ltb (length (bytes ++ more)) 8 ≡ false = le-ltb (length (bytes ++ more)) 8 (omega (arith, length-append bytes more)) in
    let b : slice_index (bytes ++ more) 0 ≡ slice_index bytes 0 = get_or_append_left bytes more 0 0 (omega arith) in
    let c = frame_length-append bytes more header in
    elim (refused (not (eqb (slice_index bytes 0) 4)) BadVersion fault (cond (ltb n 8) (Err BadLength) (cond (ltb (length bytes) n) (Ok None) (Ok (Some n)))) p0.1) [
      | inl h ↦ rw (a, b, h.0, h.1) refl
      | inr h ↦ elim (refused (ltb n 8) BadLength fault (cond (ltb (length bytes) n) (Ok None) (Ok (Some n))) h.1) [
        | inl k ↦ rw (a, b, h.0, c, k.0, k.1) refl
        | inr k ↦ absurd (never_refused (ltb (length bytes) n) n fault k.1)
      ]
    ]

-- ---- the same, of the message itself

front_err : (r : Found) (bytes : List ℕ) (fault : FrameFault) → front_of_message r bytes ≡ Err fault → r ≡ Err fault
front_err (Ok (Some len)) bytes fault e = absurd cc
front_err (Ok None) bytes fault e = absurd cc
front_err (Err d) bytes fault e = cc

pub stays_refused : (left piece : List ℕ) (fault : FrameFault) → next_of left ≡ Err fault → next_of (left ++ piece) ≡ Err fault
stays_refused left piece fault e = rw (length_at-refused left piece fault (front_err (length_at left) left fault e)) refl

pub kept_refused : (held : List ℕ) (fault : FrameFault) → next_of held ≡ Err fault → rest_of held ≡ held
kept_refused held fault e = rw (front_err (length_at held) held fault e) refl

-- Reading fields one after the other, as a loop does.
use Rattle.std.proofs.Common.{◌≡◌, ℕ, zero, suc, ◌≤◌, ◌<◌, Bool, true, false, cond, not, eqb, List, [], ◌∷◌, ◌++◌, length, get_or, set, Result, Ok, Err, refl, sym, ap, subst, ◌∙◌, arith, inl, inr, lit<, eq-eqb}
use Rattle.std.specs.Prelude.{replicate, ◌||◌}
use Rattle.std.proofs.lemmas.Bool.{cases_eq, ne_eqb}
use Rattle.std.proofs.lemmas.List.{get_or-replicate, get_or-set_other, length-set}
use Rattle.std.proofs.lemmas.Grind.{get_or-set_at}
use Rattle.std.proofs.lemmas.List.Folds.{list_any-append}
use Rattle.std.proofs.lemmas.List.Sums.{fold_push}
use Rattle.of_types.specs.declared.message.Match.{Match}
use Rattle.of_match.specs.declared.fault.MatchFault.{MatchFault}
use Rattle.of_match.specs.declared.fault.MatchFault.TheVariants.{Repeated, BadMask, BadWildcard}
use Rattle.of_match.specs.declared.kind.FieldHeader.{FieldHeader}
use Rattle.of_match.specs.declared.kind.FieldKind.{FieldKind}
use Rattle.of_match.specs.declared.kind.FieldKind.TheVariants.{InPort, EthDst, EthSrc, EthType, IpProto, Ipv4Src, Ipv4Dst, TcpSrc, TcpDst, UdpSrc, UdpDst}
use Rattle.of_match.specs.Field.{Field, number_of}
use Rattle.of_bytes.specs.Reading.{◌>>=◌}
use Rattle.of_bytes.proofs.Steps.{bind_ok, passed, ok_is}
use Rattle.of_types.specs.Matching.{any_match}
use Rattle.of_match.specs.Reading.{put, match_of, is_repeated, header_at, value_at, is_bad_mask, is_bad_wildcard, field_in, put_at, field_at, fields_at, said_at}

-- The fields before are read, and the rest is still to be read.
pub record SoFar (body rest : List ℕ) (numbers : List Bool) (m : Match) (before : List Field) (count : ℕ) : Type 0 where
  pub enough : length rest ≤ count
  pub said : m ≡ match_of before
  pub len : length numbers ≡ 256
  pub seen : (n : ℕ) → n < 256 → get_or numbers n false ≡ is_repeated n before
  pub whole : fields_at count before rest ≡ fields_at (length body) [] body

pub starts : (body : List ℕ) (numbers : List Bool) → numbers ≡ replicate 256 false → SoFar body body numbers any_match [] (length body)
unfolding match_of
starts body numbers e = record {
  enough = omega arith;
  said = refl;
  len = ap length e;
  seen = λ n lt. rw e (get_or-replicate 256 n false false lt);
  whole = refl;
}

-- one field more
pub turn : (count : ℕ) (before : List Field) (rest : List ℕ) → 0 < length rest → length rest ≤ count
    → (left : ℕ) × (count ≡ suc left) × (fields_at count before rest ≡ (field_at before rest >>= λ next. fields_at left (before ++ next.0 ∷ []) next.1))
unfolding fields_at
turn count before [] some enough = absurd (omega arith)
turn zero before (b ∷ rest) some enough = absurd (omega arith)
turn (suc left) before (b ∷ rest) some enough = (left, refl, refl)

pub match_of-push : (before : List Field) (field : Field) → match_of (before ++ field ∷ []) ≡ put (match_of before) field
unfolding match_of
match_of-push before field = fold_push put any_match before field

is_repeated-push : (n : ℕ) (before : List Field) (field : Field) → is_repeated n (before ++ field ∷ []) ≡ (is_repeated n before || (eqb (number_of field.kind) n || false))
is_repeated-push n before field = list_any-append (λ (f : Field). eqb (number_of f.kind) n) before (field ∷ [])

or_new : (a b : Bool) → b ≡ true → (a || (b || false)) ≡ true
or_new true b e = refl
or_new false true e = refl
or_new false false e = e

or_old : (a b : Bool) → b ≡ false → (a || (b || false)) ≡ a
or_old true b e = refl
or_old false true e = e
or_old false false e = refl

-- the flags after one more field
seen_push : (numbers : List Bool) (before : List Field) (field : Field) (n : ℕ) → length numbers ≡ 256 → n < 256 → number_of field.kind < 256
    → get_or numbers n false ≡ is_repeated n before → get_or (set numbers (number_of field.kind) true) n false ≡ is_repeated n (before ++ field ∷ [])
seen_push numbers before field n len lt fits same =
    let push = is_repeated-push n before field in
    elim (cases_eq n (number_of field.kind)) [
      | inl e ↦ get_or-set_at numbers (number_of field.kind) n true false e (omega arith) ∙ sym (push ∙ or_new (is_repeated n before) (eqb (number_of field.kind) n) (eq-eqb (number_of field.kind) n (sym e)))
      | inr ne ↦ get_or-set_other numbers (number_of field.kind) n true false ne ∙ same ∙ sym (push ∙ or_old (is_repeated n before) (eqb (number_of field.kind) n) (ne_eqb (number_of field.kind) n (λ h. ne (sym h))))
    ]

pub number_fits : (kind : FieldKind) → number_of kind < 256
number_fits InPort = lit< tt
number_fits EthDst = lit< tt
number_fits EthSrc = lit< tt
number_fits EthType = lit< tt
number_fits IpProto = lit< tt
number_fits Ipv4Src = lit< tt
number_fits Ipv4Dst = lit< tt
number_fits TcpSrc = lit< tt
number_fits TcpDst = lit< tt
number_fits UdpSrc = lit< tt
number_fits UdpDst = lit< tt

-- what a value that was read says
pub value_read : (header : FieldHeader) (payload : List ℕ) (field : Field) → value_at header payload ≡ Ok field
    → (is_bad_mask header ≡ false) × (is_bad_wildcard header payload ≡ false) × (field_in header payload ≡ field)
unfolding value_at
value_read header payload field e =
    let a = passed (is_bad_mask header) BadMask (cond (is_bad_wildcard header payload) (Err BadWildcard) (Ok (field_in header payload))) field e in
    let b = passed (is_bad_wildcard header payload) BadWildcard (Ok (field_in header payload)) field a.1 in
    (a.0, b.0, ok_is MatchFault (field_in header payload) field b.1)

pub value_kind : (header : FieldHeader) (payload : List ℕ) (field : Field) → value_at header payload ≡ Ok field → field.kind ≡ header.kind
value_kind header payload field e = sym (ap (λ (f : Field). f.kind) (value_read header payload field e).2)

-- A field is read: what the header and the value give.
field_read : (before : List Field) (rest : List ℕ) (header : FieldHeader) (payload after : List ℕ) (field : Field) → header_at rest ≡ Ok (header, payload, after)
    → is_repeated (number_of header.kind) before ≡ false → value_at header payload ≡ Ok field → field_at before rest ≡ Ok (field, after)
unfolding field_at
field_read before rest header payload after field e new v = rw (e, new, v) refl

-- what is still to be read after this field
rest_read : (body rest : List ℕ) (before : List Field) (count : ℕ) → 0 < length rest → length rest ≤ count → fields_at count before rest ≡ fields_at (length body) [] body
    → (field : Field) (after : List ℕ) → field_at before rest ≡ Ok (field, after)
    → (left : ℕ) × (count ≡ suc left) × (fields_at left (before ++ field ∷ []) after ≡ fields_at (length body) [] body)
rest_read body rest before count some enough whole field after read =
    let t = turn count before rest some enough in
    let goes : (field_at before rest >>= λ next. fields_at t.0 (before ++ next.0 ∷ []) next.1) ≡ fields_at t.0 (before ++ field ∷ []) after = rw read refl in
    (t.0, t.1, sym (t.2 ∙ goes) ∙ whole)

one_more : (body rest : List ℕ) (numbers : List Bool) (m : Match) (before : List Field) (count : ℕ) → SoFar body rest numbers m before count
    → (field : Field) (after : List ℕ) → 0 < length rest → length after < length rest → field_at before rest ≡ Ok (field, after)
    → (fields : List Field) × (left : ℕ) × SoFar body after (set numbers (number_of field.kind) true) (put m field) fields left
one_more body rest numbers m before count so_far field after some shorter read =
    let r = rest_read body rest before count some so_far.enough so_far.whole field after read in (
      before ++ field ∷ [],
      r.0,
      record {
        enough = omega (arith, r.1);
        said = rw so_far.said (sym (match_of-push before field));
        len = length-set numbers (number_of field.kind) true ∙ so_far.len;
        seen = λ n lt. seen_push numbers before field n so_far.len lt (number_fits field.kind) (so_far.seen n lt);
        whole = r.2;
      },
    )

pub goes_on : (body rest : List ℕ) (numbers : List Bool) (m : Match) (before : List Field) (count : ℕ) → SoFar body rest numbers m before count
    → (header : FieldHeader) (payload after : List ℕ) (next : Match) → 0 < length rest → header_at rest ≡ Ok (header, payload, after) → length after < length rest
    → get_or numbers (number_of header.kind) false ≡ false → put_at m header payload ≡ Ok next
    → (fields : List Field) × (left : ℕ) × SoFar body after (set numbers (number_of header.kind) true) next fields left
unfolding put_at
goes_on body rest numbers m before count so_far header payload after next some e shorter new puts =
    let v = bind_ok (value_at header payload) (λ field. Ok (put m field)) next puts in
    let kind = value_kind header payload v.0 v.1 in
    let not_before : is_repeated (number_of header.kind) before ≡ false = sym (so_far.seen (number_of header.kind) (number_fits header.kind)) ∙ new in
    let read = field_read before rest header payload after v.0 e not_before v.1 in
    let more = one_more body rest numbers m before count so_far v.0 after some shorter read in
    let P : FieldKind → Match → Type 0 = λ k next. (fields : List Field) × (left : ℕ) × SoFar body after (set numbers (number_of k) true) next fields left in
    subst (λ (next : Match). P header.kind next) (ok_is MatchFault _ _ v.2) (subst (λ (k : FieldKind). P k (put m v.0)) kind more)

-- an exit by a fault of the next field
pub stops : (body rest : List ℕ) (numbers : List Bool) (m : Match) (before : List Field) (count : ℕ) (d : MatchFault) → SoFar body rest numbers m before count
    → 0 < length rest → field_at before rest ≡ Err d → said_at body ≡ Err d
unfolding said_at
stops body rest numbers m before count d so_far some e =
    let t = turn count before rest some so_far.enough in
    let fails : (field_at before rest >>= λ next. fields_at t.0 (before ++ next.0 ∷ []) next.1) ≡ Err d = rw e refl in
    rw (sym so_far.whole ∙ t.2 ∙ fails) refl

pub header_stops : (before : List Field) (rest : List ℕ) (d : MatchFault) → header_at rest ≡ Err d → field_at before rest ≡ Err d
unfolding field_at
header_stops before rest d e = rw e refl

pub repeat_stops : (before : List Field) (rest : List ℕ) (header : FieldHeader) (payload after : List ℕ) → header_at rest ≡ Ok (header, payload, after)
    → is_repeated (number_of header.kind) before ≡ true → field_at before rest ≡ Err Repeated
unfolding field_at
repeat_stops before rest header payload after e again = rw (e, again) refl

bind_err : {A B : Type 0} (r : Result A MatchFault) (f : A → B) (d : MatchFault) → (r >>= λ x. Ok (f x)) ≡ Err d → r ≡ Err d
bind_err (Ok x) f d e = absurd cc
bind_err (Err c) f d e = cc

field_stops : (before : List Field) (rest : List ℕ) (header : FieldHeader) (payload after : List ℕ) (d : MatchFault) → header_at rest ≡ Ok (header, payload, after)
    → is_repeated (number_of header.kind) before ≡ false → value_at header payload ≡ Err d → field_at before rest ≡ Err d
unfolding field_at
field_stops before rest header payload after d e new v = rw (e, new, v) refl

pub value_stops : (before : List Field) (rest : List ℕ) (header : FieldHeader) (payload after : List ℕ) (m : Match) (d : MatchFault) → header_at rest ≡ Ok (header, payload, after)
    → is_repeated (number_of header.kind) before ≡ false → put_at m header payload ≡ Err d → field_at before rest ≡ Err d
unfolding field_at put_at
value_stops before rest header payload after m d e new puts =
    let v : value_at header payload ≡ Err d = bind_err (value_at header payload) (λ field. put m field) d puts in
    field_stops before rest header payload after d e new v

no_more : (count : ℕ) (before : List Field) (rest : List ℕ) → length rest ≡ 0 → fields_at count before rest ≡ Ok before
unfolding fields_at
no_more zero before [] none = refl
no_more (suc count) before [] none = refl
no_more count before (b ∷ rest) none = absurd (omega arith)

pub ends : (body rest : List ℕ) (numbers : List Bool) (m : Match) (before : List Field) (count : ℕ) → SoFar body rest numbers m before count → length rest ≡ 0 → said_at body ≡ Ok m
unfolding said_at
ends body rest numbers m before count so_far none =
    let last = no_more count before rest none in
    rw (sym so_far.whole ∙ last, so_far.said) refl

pub is_new : (r b : Bool) → r ≡ not b → r ≡ true → b ≡ false
is_new r true e h = absurd (cc (e, h))
is_new r false e h = refl

pub is_old : (r b : Bool) → r ≡ not b → r ≡ false → b ≡ true
is_old r true e h = refl
is_old r false e h = absurd (cc (e, h))

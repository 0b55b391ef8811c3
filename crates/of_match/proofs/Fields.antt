-- A field that is read is the field that was written, and what was written is read again.
use Rattle.std.proofs.Common.{◌≡◌, ℕ, suc, ◌+◌, ◌*◌, ◌^◌, ◌/◌, ◌%◌, ◌<◌, ◌≤◌, Bool, true, false, cond, not, eqb, ltb, List, [], ◌∷◌, ◌++◌, ◌⊎◌, length, take, drop, Option, Some, None, Ok, Err, refl, sym, ap, subst, ◌∙◌, arith, inl, inr}
use Rattle.std.specs.Prelude.{IfSome, is_some, find, bit_and, ◌||◌}
use Rattle.std.proofs.lemmas.Bool.{ltb-false, le-ltb, eqb-true, eqb-false, eq-eqb}
use Rattle.std.proofs.lemmas.List.{append-nil, length-append, length-take, take_at, drop_at, take-append-drop, length-drop, take_all}
use Rattle.of_bytes.specs.Numbers.{big_number, big_bytes}
use Rattle.of_match.specs.declared.fault.MatchFault.{MatchFault}
use Rattle.of_match.specs.declared.fault.MatchFault.TheVariants.{BadLength, Repeated}
use Rattle.of_match.specs.declared.kind.FieldHeader.{FieldHeader}
use Rattle.of_match.specs.declared.kind.FieldKind.{FieldKind}
use Rattle.of_match.specs.declared.kind.FieldKind.TheVariants.{InPort, EthDst, EthSrc, EthType, IpProto, Ipv4Src, Ipv4Dst, TcpSrc, TcpDst, UdpSrc, UdpDst}
use Rattle.of_match.specs.Field.{Field, IsField, number_of, width_of, can_mask, all_kinds, kind_of, mask_bytes, payload, field_bytes}
use Rattle.of_bytes.specs.Reading.{◌>>=◌}
use Rattle.of_match.specs.Reading.{listed, payload_length, header_at, field_in, is_bad_mask, is_bad_wildcard, value_at, is_repeated, field_at}
use Rattle.of_bytes.proofs.Bytes.{big_from-lt, length-bytes_high_first, IsBytes, IsBytes-drop, IsBytes-take, bytes_number, number_bytes}
use Rattle.of_bytes.proofs.Steps.{bind_ok, passed, ok_is, or_false, not_false}
use Rattle.of_match.proofs.Loop.{value_read}

-- what a field's first four bytes say
abbrev pub header_of : Field → FieldHeader
header_of field = record { kind = field.kind; has_mask = is_some field.mask }

pub length-payload : (field : Field) → length (payload field) ≡ payload_length (header_of field)
length-payload field = masked (width_of field.kind) field.value field.mask
  where
    masked : (width value : ℕ) (mask : Option ℕ) → length (big_bytes width value ++ mask_bytes width mask) ≡ cond (is_some mask) (2 * width) width
    masked width value None = ap length (append-nil (big_bytes width value)) ∙ length-bytes_high_first width value
    masked width value (Some mask) = omega (arith, length-append (big_bytes width value) (big_bytes width mask), length-bytes_high_first width value, length-bytes_high_first width mask)

find_step : {X : Type 0} (b : Bool) (y x : X) (rest : Option X) → cond b (Some y) rest ≡ Some x → ((b ≡ true) × (y ≡ x)) ⊎ (rest ≡ Some x)
find_step true y x rest e = inl (refl, cc)
find_step false y x rest e = inr e

find_passes : {X : Type 0} (p : X → Bool) (xs : List X) (x : X) → find p xs ≡ Some x → p x ≡ true
find_passes p [] x e = absurd cc
find_passes p (y ∷ xs) x e =
    elim (find_step (p y) y x (find p xs) e) [ inl h ↦ rw (← h.1) h.0 | inr h ↦ find_passes p xs x h ]

number_of-kind_of : (n : ℕ) (kind : FieldKind) → kind_of n ≡ Some kind → number_of kind ≡ n
number_of-kind_of n kind e = eqb-true (number_of kind) n (find_passes (λ (k : FieldKind). eqb (number_of k) n) all_kinds kind e)

kind_of-number_of : (kind : FieldKind) → kind_of (number_of kind) ≡ Some kind
kind_of-number_of InPort = refl
kind_of-number_of EthDst = refl
kind_of-number_of EthSrc = refl
kind_of-number_of EthType = refl
kind_of-number_of IpProto = refl
kind_of-number_of Ipv4Src = refl
kind_of-number_of Ipv4Dst = refl
kind_of-number_of TcpSrc = refl
kind_of-number_of TcpDst = refl
kind_of-number_of UdpSrc = refl
kind_of-number_of UdpDst = refl

-- number and hasmask in one byte
flagged_number : (n : ℕ) (b : Bool) → (2 * n + cond b 1 0) / 2 ≡ n
flagged_number n true = omega arith
flagged_number n false = omega arith

flagged_mask : (n : ℕ) (b : Bool) → eqb ((2 * n + cond b 1 0) % 2) 1 ≡ b
flagged_mask n true = eq-eqb ((2 * n + 1) % 2) 1 (omega arith)
flagged_mask n false = let e : (2 * n + 0) % 2 ≡ 0 = omega arith in rw e refl

pub header_again : (field : Field) (rest : List ℕ) → header_at (field_bytes field ++ rest) ≡ Ok (header_of field, payload field, rest)
unfolding header_at
header_again field rest =
    let len = length-payload field in
    let long : ltb (length (field_bytes field ++ rest)) 4 ≡ false = le-ltb (length (field_bytes field ++ rest)) 4 (omega arith) in
    let enough : ltb (length (payload field ++ rest)) (length (payload field)) ≡ false = le-ltb (length (payload field ++ rest)) (length (payload field)) (omega (arith, length-append (payload field) rest)) in
    let right : eqb (length (payload field)) (payload_length (header_of field)) ≡ true = eq-eqb (length (payload field)) (payload_length (header_of field)) len in
    rw (long, flagged_number (number_of field.kind) (is_some field.mask), flagged_mask (number_of field.kind) (is_some field.mask), kind_of-number_of field.kind, enough, right, take_at (payload field) rest (length (payload field)) refl, drop_at (payload field) rest (length (payload field)) refl) refl

written_again : (kind : FieldKind) (value : ℕ) (mask : Option ℕ) → value < 256 ^ width_of kind
    → IfSome mask (λ m. (m < 256 ^ width_of kind) × (can_mask kind ≡ true) × (bit_and value m ≡ value))
    → value_at (record { kind = kind; has_mask = is_some mask }) (big_bytes (width_of kind) value ++ mask_bytes (width_of kind) mask) ≡ Ok (record { kind = kind; value = value; mask = mask })
unfolding value_at
written_again kind value None lt fits =
    let v : big_number (width_of kind) (big_bytes (width_of kind) value ++ []) ≡ value = number_bytes (width_of kind) value [] lt in
    ap (λ n. Ok (record { kind = kind; value = n; mask = None })) v
written_again kind value (Some mask) lt fits =
    let width = width_of kind in
    let v : big_number width (big_bytes width value ++ big_bytes width mask) ≡ value = number_bytes width value (big_bytes width mask) lt in
    let dropped : drop width (big_bytes width value ++ big_bytes width mask) ≡ big_bytes width mask = drop_at (big_bytes width value) (big_bytes width mask) width (length-bytes_high_first width value) in
    let m : big_number width (drop width (big_bytes width value ++ big_bytes width mask)) ≡ mask =
    ap (big_number width) (dropped ∙ sym (append-nil (big_bytes width mask))) ∙ number_bytes width mask [] fits.0 in
    rw (fits.1, v, m, eq-eqb (bit_and value mask) value fits.2) refl

pub value_again : (field : Field) → IsField field → value_at (header_of field) (payload field) ≡ Ok field
value_again field fits = written_again field.kind field.value field.mask fits.value fits.mask

pub field_again : (before : List Field) (field : Field) (rest : List ℕ) → IsField field → is_repeated (number_of field.kind) before ≡ false → field_at before (field_bytes field ++ rest) ≡ Ok (field, rest)
unfolding field_at
field_again before field rest fits new = rw (header_again field rest, new, value_again field fits) refl

-- ---- what is read was written so

-- what a reader took from the front
pub record Takes (bytes text rest : List ℕ) : Type 0 where
  pub parts : bytes ≡ text ++ rest
  pub rest_fits : IsBytes rest

listed_ok : (class : Bool) (kind : Option FieldKind) (has_mask : Bool) (header : FieldHeader) → listed class kind has_mask ≡ Ok header
    → (class ≡ true) × (kind ≡ Some header.kind) × (header.has_mask ≡ has_mask)
listed_ok true (Some kind) b header e =
    let same : record { kind = kind; has_mask = b } ≡ header = ok_is MatchFault (record { kind = kind; has_mask = b }) header e in
    (refl, ap (λ (h : FieldHeader). Some h.kind) same, ap (λ (h : FieldHeader). h.has_mask) (sym same))
listed_ok true None b header e = absurd cc
listed_ok false kind b header e = absurd cc

-- The four bytes of a header, as they were written.
pub record IsHeader (header : FieldHeader) (bytes payload rest : List ℕ) : Type 0 where
  pub parts : bytes ≡ (big_bytes 2 0x8000 ++ (2 * number_of header.kind + cond header.has_mask 1 0) ∷ length payload ∷ payload) ++ rest
  pub len : length payload ≡ payload_length header
  pub payload_fits : IsBytes payload
  pub rest_fits : IsBytes rest

-- a byte of number and hasmask, from its parts
flagged : (n c : ℕ) (b : Bool) → n ≡ c / 2 → b ≡ eqb (c % 2) 1 → c < 256 → 2 * n + cond b 1 0 ≡ c
flagged n c true e h lt = let odd = eqb-true (c % 2) 1 (sym h) in omega arith
flagged n c false e h lt = let even = eqb-false (c % 2) 1 (sym h) in omega arith

four_cells : (a b c d a' b' c' d' : ℕ) (xs ys : List ℕ) → a ≡ a' → b ≡ b' → c ≡ c' → d ≡ d' → xs ≡ ys → a ∷ b ∷ c ∷ d ∷ xs ≡ a' ∷ b' ∷ c' ∷ d' ∷ ys
four_cells a b c d a' b' c' d' xs ys p q r s t = cc

pub header_takes : (bytes : List ℕ) (header : FieldHeader) (payload rest : List ℕ) → IsBytes bytes → header_at bytes ≡ Ok (header, payload, rest) → IsHeader header bytes payload rest
unfolding header_at
header_takes [] header payload rest fits e = absurd cc
header_takes (a ∷ []) header payload rest fits e = absurd cc
header_takes (a ∷ b ∷ []) header payload rest fits e = absurd cc
header_takes (a ∷ b ∷ c ∷ []) header payload rest fits e = absurd cc
header_takes (a ∷ b ∷ c ∷ len ∷ bytes) header payload rest fits e =
    let class = eqb (big_number 2 (a ∷ b ∷ c ∷ len ∷ [])) 0x8000 in
    let bad = λ (h : FieldHeader). ltb (length bytes) len || not (eqb len (payload_length h)) in
    let made = λ (h : FieldHeader). cond (bad h) (Err BadLength) (Ok (h, take len bytes, drop len bytes)) in
    let p0 = passed (ltb (length (a ∷ b ∷ c ∷ len ∷ bytes)) 4) BadLength (listed class (kind_of (c / 2)) (eqb (c % 2) 1) >>= made) (header, payload, rest) e in
    let p1 = bind_ok (listed class (kind_of (c / 2)) (eqb (c % 2) 1)) made (header, payload, rest) p0.1 in
    let h = p1.0 in
    let l = listed_ok class (kind_of (c / 2)) (eqb (c % 2) 1) h p1.1 in
    let p2 = passed (bad h) BadLength (Ok (h, take len bytes, drop len bytes)) (header, payload, rest) p1.2 in
    let good = or_false (ltb (length bytes) len) (not (eqb len (payload_length h))) p2.0 in
    let long : len ≤ length bytes = ltb-false (length bytes) len good.0 in
    let right : len ≡ payload_length h = eqb-true len (payload_length h) (not_false (eqb len (payload_length h)) good.1) in
    let taken : length (take len bytes) ≡ len = omega (arith, length-take len bytes) in
    let class_is : a * 256 + b ≡ 0x8000 = omega (arith, eqb-true (big_number 2 (a ∷ b ∷ c ∷ len ∷ [])) 0x8000 l.0) in
    let flags : 2 * number_of h.kind + cond h.has_mask 1 0 ≡ c = flagged (number_of h.kind) c h.has_mask (number_of-kind_of (c / 2) h.kind l.1) l.2 (fits 2) in
    let is_header : IsHeader h (a ∷ b ∷ c ∷ len ∷ bytes) (take len bytes) (drop len bytes) = record {
      parts = four_cells a b c len 128 0 (2 * number_of h.kind + cond h.has_mask 1 0) (length (take len bytes)) bytes (take len bytes ++ drop len bytes)
          (omega (arith, fits 0, fits 1)) (omega (arith, fits 0, fits 1)) (sym flags) (sym taken) (sym (take-append-drop len bytes));
      len = taken ∙ right;
      payload_fits = IsBytes-take len bytes (λ i. fits (suc (suc (suc (suc i)))));
      rest_fits = IsBytes-drop len bytes (λ i. fits (suc (suc (suc (suc i)))));
    } in
    subst (λ (x : FieldHeader × List ℕ × List ℕ). IsHeader x.0 (a ∷ b ∷ c ∷ len ∷ bytes) x.1 x.2) (ok_is MatchFault (h, take len bytes, drop len bytes) (header, payload, rest) p2.1) is_header

-- ---- the value

-- all bytes of a number
bytes_all : (n : ℕ) (xs : List ℕ) → IsBytes xs → length xs ≡ n → big_bytes n (big_number n xs) ≡ xs
bytes_all n xs fits len = bytes_number n xs fits (omega arith) ∙ take_all n xs (omega arith)

value_parts : (kind : FieldKind) (has_mask : Bool) (bytes : List ℕ) → IsBytes bytes → length bytes ≡ payload_length (record { kind = kind; has_mask = has_mask })
    → is_bad_mask (record { kind = kind; has_mask = has_mask }) ≡ false → is_bad_wildcard (record { kind = kind; has_mask = has_mask }) bytes ≡ false
    → (bytes ≡ payload (field_in (record { kind = kind; has_mask = has_mask }) bytes)) × IsField (field_in (record { kind = kind; has_mask = has_mask }) bytes)
    × (record { kind = kind; has_mask = has_mask } ≡ header_of (field_in (record { kind = kind; has_mask = has_mask }) bytes))
value_parts kind false bytes fits len m w = (
  sym (append-nil (big_bytes (width_of kind) (big_number (width_of kind) bytes)) ∙ bytes_all (width_of kind) bytes fits len),
  record { value = big_from-lt 0 (width_of kind) bytes fits; mask = tt },
  refl,
)
value_parts kind true bytes fits len m w =
    let width = width_of kind in
    let front : big_bytes width (big_number width bytes) ≡ take width bytes = bytes_number width bytes fits (omega arith) in
    let back : big_bytes width (big_number width (drop width bytes)) ≡ drop width bytes = bytes_all width (drop width bytes) (IsBytes-drop width bytes fits) (omega (arith, length-drop width bytes)) in (
      rw (front, back) (sym (take-append-drop width bytes)),
      record {
        value = big_from-lt 0 width bytes fits;
        mask = (
          big_from-lt 0 width (drop width bytes) (IsBytes-drop width bytes fits),
          not_false (can_mask kind) m,
          eqb-true (bit_and (big_number width bytes) (big_number width (drop width bytes))) (big_number width bytes) (not_false (eqb (bit_and (big_number width bytes) (big_number width (drop width bytes))) (big_number width bytes)) w),
        );
      },
      refl,
    )

-- the value and the mask of a field that was read are those that were written
pub value_takes : (header : FieldHeader) (bytes : List ℕ) (field : Field) → IsBytes bytes → length bytes ≡ payload_length header → value_at header bytes ≡ Ok field
    → (bytes ≡ payload field) × IsField field × (header ≡ header_of field)
value_takes header bytes field fits len e =
    let v = value_read header bytes field e in
    let p = value_parts header.kind header.has_mask bytes fits len v.0 v.1 in
    subst (λ (f : Field). (bytes ≡ payload f) × IsField f × (header ≡ header_of f)) v.2 p

-- What stands at the front is this field, which is new.
abbrev pub TakesField : List Field → List ℕ → Field → List ℕ → Type 0
TakesField before bytes field rest = Takes bytes (field_bytes field) rest × IsField field × (is_repeated (number_of field.kind) before ≡ false)

field_parts : (before : List Field) (bytes : List ℕ) (header : FieldHeader) (value rest : List ℕ) (field : Field) → IsHeader header bytes value rest
    → is_repeated (number_of header.kind) before ≡ false → value ≡ payload field → IsField field → header ≡ header_of field → TakesField before bytes field rest
field_parts before bytes header value rest field h new same fits same_header =
    let Parts : FieldHeader → List ℕ → Type 0 = λ k p. bytes ≡ (big_bytes 2 0x8000 ++ (2 * number_of k.kind + cond k.has_mask 1 0) ∷ length p ∷ p) ++ rest in
    let parts : Parts (header_of field) (payload field) = subst (λ (k : FieldHeader). Parts k (payload field)) same_header (subst (λ (p : List ℕ). Parts header p) same h.parts) in
    (record { parts = parts; rest_fits = h.rest_fits }, fits, subst (λ (k : FieldHeader). is_repeated (number_of k.kind) before ≡ false) same_header new)

pub field_takes : (before : List Field) (bytes : List ℕ) (field : Field) (rest : List ℕ) → IsBytes bytes → field_at before bytes ≡ Ok (field, rest) → TakesField before bytes field rest
unfolding field_at
field_takes before bytes field rest fits e =
    let second = λ (part : FieldHeader × List ℕ × List ℕ). cond (is_repeated (number_of part.0.kind) before) (Err Repeated) (value_at part.0 part.1) >>= λ f. Ok (f, part.2) in
    let a = bind_ok (header_at bytes) second (field, rest) e in
    let part = a.0 in
    let h = header_takes bytes part.0 part.1 part.2 fits a.1 in
    let b = bind_ok (cond (is_repeated (number_of part.0.kind) before) (Err Repeated) (value_at part.0 part.1)) (λ f. Ok (f, part.2)) (field, rest) a.2 in
    let new = passed (is_repeated (number_of part.0.kind) before) Repeated (value_at part.0 part.1) b.0 b.1 in
    let v = value_takes part.0 part.1 b.0 h.payload_fits h.len new.1 in
    subst (λ (x : Field × List ℕ). TakesField before bytes x.0 x.1) (ok_is MatchFault (b.0, part.2) (field, rest) b.2) (field_parts before bytes part.0 part.1 part.2 b.0 h new.0 v.0 v.1 v.2)

-- What the forms of a match have: it is valid, and none is shorter than its canonical form.
use Rattle.std.proofs.Common.{◌≡◌, ℕ, ◌+◌, ◌-◌, ◌*◌, ◌^◌, ◌<◌, ◌≤◌, Bool, true, false, cond, eqb, List, [], ◌∷◌, length, Option, Some, None, refl, ap, subst, ◌∙◌, arith, lit<}
use Rattle.std.specs.Prelude.{IfSome, fold, bit_and, unwrap_or, is_some}
use Rattle.std.specs.List.{AllByRecursion}
use Rattle.std.proofs.Math.Nat.{mod-eq_of_lt}
use Rattle.std.proofs.Math.Pow.{pow-sub-lt}
use Rattle.std.proofs.lemmas.Bool.{eqb-true, eqb-false, and_parts}
use Rattle.std.proofs.lemmas.List.{length-append}
use Rattle.std.proofs.lemmas.Nat.{and_mask}
use Rattle.of_types.specs.declared.message.Match.{Match}
use Rattle.of_types.specs.declared.message.Masked48.{Masked48}
use Rattle.of_types.specs.declared.message.Masked32.{Masked32}
use Rattle.of_types.specs.Sizes.{masked48_size, masked32_size, fields_size, match_size, padded}
use Rattle.of_types.specs.Valid.{IsMasked48, IsMasked32, Needs, IsValidMatch}
use Rattle.of_match.specs.declared.kind.FieldKind.{FieldKind}
use Rattle.of_match.specs.declared.kind.FieldKind.TheVariants.{InPort, EthDst, EthSrc, EthType, IpProto, Ipv4Src, Ipv4Dst, TcpSrc, TcpDst, UdpSrc, UdpDst}
use Rattle.of_match.specs.Field.{Field, IsField, width_of, field_bytes}
use Rattle.of_match.specs.Reading.{put, match_of, needs}
use Rattle.of_match.specs.Spelling.{IsSpelled}
use Rattle.of_match.specs.Writing.{spelled}
use Rattle.of_match.proofs.Fields.{length-payload}
use Rattle.of_match.proofs.Matches.{spelled-cons}
use Rattle.of_types.specs.Matching.{any_match}

-- ---- valid

-- A mask fits its field, and no bit of the value is outside it, where none stands too.
within : (bits value : ℕ) (mask : Option ℕ) (may : Bool) → value < 2 ^ bits → IfSome mask (λ m. (m < 2 ^ bits) × (may ≡ true) × (bit_and value m ≡ value))
    → (unwrap_or mask (2 ^ bits - 1) < 2 ^ bits) × (bit_and value (unwrap_or mask (2 ^ bits - 1)) ≡ value)
within bits value None may lt fits = (pow-sub-lt bits (lit< tt), and_mask value bits ∙ mod-eq_of_lt lt)
within bits value (Some m) may lt fits = (fits.0, fits.2)

-- an address under a mask that is not zero
asked48 : (b : Bool) (value mask : ℕ) → eqb mask 0 ≡ b → (mask < 2 ^ 48) × (bit_and value mask ≡ value) → IfSome (cond b None (Some (record { value = value; mask = mask }))) (λ (a : Masked48). IsMasked48 a)
asked48 true value mask e fits = tt
asked48 false value mask e fits = record { fits = fits.0; some = (let other = eqb-false mask 0 e in omega arith); inside = fits.1 }

asked32 : (b : Bool) (value mask : ℕ) → eqb mask 0 ≡ b → bit_and value mask ≡ value → IfSome (cond b None (Some (record { value = value; mask = mask }))) (λ (a : Masked32). IsMasked32 a)
asked32 true value mask e fits = tt
asked32 false value mask e fits = record { some = (let other = eqb-false mask 0 e in omega arith); inside = fits }

-- the four addresses of a match are under masks
abbrev AreMasked : Match → Type 0
AreMasked m = IfSome m.eth_dst (λ a. IsMasked48 a) × IfSome m.eth_src (λ a. IsMasked48 a) × IfSome m.ipv4_src (λ a. IsMasked32 a) × IfSome m.ipv4_dst (λ a. IsMasked32 a)

-- one more field leaves them so
put_masked : (kind : FieldKind) (value : ℕ) (mask : Option ℕ) (m : Match) → IsField (record { kind = kind; value = value; mask = mask }) → AreMasked m → AreMasked (put m (record { kind = kind; value = value; mask = mask }))
put_masked InPort value mask m f all = all
put_masked EthDst value mask m f all = (asked48 _ value _ refl (within 48 value mask true f.value f.mask), all.1, all.2, all.3)
put_masked EthSrc value mask m f all = (all.0, asked48 _ value _ refl (within 48 value mask true f.value f.mask), all.2, all.3)
put_masked EthType value mask m f all = all
put_masked IpProto value mask m f all = all
put_masked Ipv4Src value mask m f all = (all.0, all.1, asked32 _ value _ refl (within 32 value mask true f.value f.mask).1, all.3)
put_masked Ipv4Dst value mask m f all = (all.0, all.1, all.2, asked32 _ value _ refl (within 32 value mask true f.value f.mask).1)
put_masked TcpSrc value mask m f all = all
put_masked TcpDst value mask m f all = all
put_masked UdpSrc value mask m f all = all
put_masked UdpDst value mask m f all = all

all_masked : (fields : List Field) (m : Match) → AllByRecursion IsField fields → AreMasked m → AreMasked (fold put m fields)
all_masked [] m each all = all
all_masked (field ∷ fields) m each all = all_masked fields (put m field) each.1 (put_masked field.kind field.value field.mask m each.0 all)

-- a field that may stand has beside it the one that says what it is
has_tag : {A : Type 0} (field : Option A) (tag : Option ℕ) (wanted : ℕ) → 0 < wanted → needs field (eqb (unwrap_or tag 0) wanted) ≡ true → Needs field tag wanted
has_tag None tag wanted some e stands = absurd (stands refl)
has_tag (Some x) None wanted some e stands = let zero = eqb-true 0 wanted e in absurd (omega arith)
has_tag (Some x) (Some found) wanted some e stands = ap (λ (n : ℕ). Some n) (eqb-true found wanted e)

-- what is spelled is valid
pub spelled_valid : (bytes : List ℕ) (m : Match) → IsSpelled bytes m → IsValidMatch m
unfolding match_of
spelled_valid bytes m s =
    let masked = subst (λ (x : Match). AreMasked x) s.2.said (all_masked s.0 any_match s.2.each (tt, tt, tt, tt)) in
    let p6 = and_parts _ _ s.2.prerequisites in
    let p5 = and_parts _ _ p6.0 in
    let p4 = and_parts _ _ p5.0 in
    let p3 = and_parts _ _ p4.0 in
    let p2 = and_parts _ _ p3.0 in
    let p1 = and_parts _ _ p2.0 in
    record {
      eth_dst = masked.0;
      eth_src = masked.1;
      ipv4_src = masked.2;
      ipv4_dst = masked.3;
      proto = has_tag m.ip_proto m.eth_type 0x0800 (lit< tt) p1.0;
      source = has_tag m.ipv4_src m.eth_type 0x0800 (lit< tt) p1.1;
      destination = has_tag m.ipv4_dst m.eth_type 0x0800 (lit< tt) p2.1;
      tcp_source = has_tag m.tcp_src m.ip_proto 6 (lit< tt) p3.1;
      tcp_destination = has_tag m.tcp_dst m.ip_proto 6 (lit< tt) p4.1;
      udp_source = has_tag m.udp_src m.ip_proto 17 (lit< tt) p5.1;
      udp_destination = has_tag m.udp_dst m.ip_proto 17 (lit< tt) p6.1;
    }

-- ---- no shorter

-- value and mask are no shorter than the value alone
value_long : (b : Bool) (width : ℕ) → width ≤ cond b (2 * width) width
value_long true width = omega arith
value_long false width = omega arith

-- an address is written in no more bytes than it was read from
long48 : (b : Bool) (value : ℕ) (mask : Option ℕ) → masked48_size (cond b None (Some (record { value = value; mask = unwrap_or mask (2 ^ 48 - 1) }))) ≤ 4 + cond (is_some mask) 12 6
long48 true value mask = omega arith
long48 false value None = omega arith
long48 false value (Some m) = by_mask (eqb m (2 ^ 48 - 1))
  where
    by_mask : (ones : Bool) → cond ones 10 16 ≤ 16
    by_mask true = omega arith
    by_mask false = omega arith

long32 : (b : Bool) (value : ℕ) (mask : Option ℕ) → masked32_size (cond b None (Some (record { value = value; mask = unwrap_or mask (2 ^ 32 - 1) }))) ≤ 4 + cond (is_some mask) 8 4
long32 true value mask = omega arith
long32 false value None = omega arith
long32 false value (Some m) = by_mask (eqb m (2 ^ 32 - 1))
  where
    by_mask : (ones : Bool) → cond ones 8 12 ≤ 12
    by_mask true = omega arith
    by_mask false = omega arith

-- one more field adds no more than its bytes
put_long : (kind : FieldKind) (value : ℕ) (mask : Option ℕ) (m : Match) → fields_size (put m (record { kind = kind; value = value; mask = mask })) ≤ fields_size m + (4 + cond (is_some mask) (2 * width_of kind) (width_of kind))
put_long InPort value mask m = omega (arith, value_long (is_some mask) 4)
put_long EthDst value mask m = omega (arith, long48 (eqb (unwrap_or mask (2 ^ 48 - 1)) 0) value mask)
put_long EthSrc value mask m = omega (arith, long48 (eqb (unwrap_or mask (2 ^ 48 - 1)) 0) value mask)
put_long EthType value mask m = omega (arith, value_long (is_some mask) 2)
put_long IpProto value mask m = omega (arith, value_long (is_some mask) 1)
put_long Ipv4Src value mask m = omega (arith, long32 (eqb (unwrap_or mask (2 ^ 32 - 1)) 0) value mask)
put_long Ipv4Dst value mask m = omega (arith, long32 (eqb (unwrap_or mask (2 ^ 32 - 1)) 0) value mask)
put_long TcpSrc value mask m = omega (arith, value_long (is_some mask) 2)
put_long TcpDst value mask m = omega (arith, value_long (is_some mask) 2)
put_long UdpSrc value mask m = omega (arith, value_long (is_some mask) 2)
put_long UdpDst value mask m = omega (arith, value_long (is_some mask) 2)

all_long : (fields : List Field) (m : Match) → fields_size (fold put m fields) ≤ fields_size m + length (spelled fields)
all_long [] m = omega arith
all_long (field ∷ fields) m =
    let more = all_long fields (put m field) in
    let first = put_long field.kind field.value field.mask m in
    omega (arith, more, first, length-payload field, length-append (field_bytes field) (spelled fields), ap length (spelled-cons field fields))

padded_long : (a b : ℕ) → a ≤ b → padded (4 + a) ≤ padded (4 + b)
padded_long a b le = omega arith

said_long : (fields : List Field) → fields_size (match_of fields) ≤ length (spelled fields)
unfolding match_of
said_long fields = omega (arith, all_long fields any_match)

-- what is spelled is written in no more bytes
pub spelled_long : (bytes : List ℕ) (m : Match) → IsSpelled bytes m → match_size m ≤ length bytes
spelled_long bytes m s =
    let fields = subst (λ (x : Match). fields_size x ≤ length (spelled s.0)) s.2.said (said_long s.0) in
    let filled = s.2.filled in
    omega (arith, padded_long (fields_size m) (length (spelled s.0)) fields, ap length s.2.whole, length-append (spelled s.0) s.1)

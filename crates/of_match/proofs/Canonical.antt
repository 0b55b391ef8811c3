-- What is written is a form of the match.
use Rattle.std.proofs.Common.{◌≡◌, ℕ, suc, ◌+◌, ◌-◌, ◌*◌, ◌^◌, ◌<◌, ◌≤◌, Bool, true, false, cond, eqb, List, [], ◌∷◌, ◌++◌, ◌⊎◌, length, Option, Some, None, refl, sym, ap, subst, ◌∙◌, append_assoc, arith, inl, inr, lit≤}
use Rattle.std.specs.Prelude.{IfSome, fold, unwrap_or, replicate, is_some}
use Rattle.std.specs.List.{AllByRecursion}
use Rattle.std.proofs.lemmas.Bool.{eqb-true, ne_eqb}
use Rattle.std.proofs.lemmas.List.{append-nil, length-append, length-replicate}
use Rattle.std.proofs.lemmas.List.Sums.{fold-append}
use Rattle.std.proofs.lemmas.List.Folds.{list_any-append}
use Rattle.of_types.specs.declared.message.Match.{Match}
use Rattle.of_types.specs.declared.message.Masked48.{Masked48}
use Rattle.of_types.specs.declared.message.Masked32.{Masked32}
use Rattle.of_match.specs.declared.kind.FieldKind.{FieldKind}
use Rattle.of_match.specs.declared.kind.FieldKind.TheVariants.{InPort, EthDst, EthSrc, EthType, IpProto, Ipv4Src, Ipv4Dst, TcpSrc, TcpDst, UdpSrc, UdpDst}
use Rattle.of_match.specs.Field.{Field, IsField, number_of, width_of, can_mask, payload}
use Rattle.of_types.specs.Sizes.{padded}
use Rattle.of_types.specs.Matching.{any_match}
use Rattle.of_match.specs.Reading.{masked48, masked32, put, put_as, match_of, is_repeated}
use Rattle.of_match.specs.Writing.{exact, written_mask, address48, address32, link_fields, network_fields, transport_fields, written_of, spelled, canonical_bare_match, canonical_match}
use Rattle.of_match.proofs.Fields.{length-payload}
use Rattle.of_match.proofs.Spelled.{spelled-append}
use Rattle.of_match.specs.Spelling.{IsNewAfter, IsSpelled}
use Rattle.of_match.proofs.Valid.{IsMasked, IsValid}

-- ---- each group is at most one field of its kind

-- no field, or one that may be written
abbrev IsPart : FieldKind → List Field → Type 0
IsPart kind fields = (fields ≡ []) ⊎ ((field : Field) × (field.kind ≡ kind) × IsField field × (fields ≡ field ∷ []))

exact_part : (kind : FieldKind) (value : Option ℕ) → IfSome value (λ v. v < 256 ^ width_of kind) → IsPart kind (exact kind value)
unfolding exact
exact_part kind None fits = inl refl
exact_part kind (Some value) fits = inr (record { kind = kind; value = value; mask = None }, refl, record { value = fits; mask = tt }, refl)

mask_written : (kind : FieldKind) (mask : ℕ) → unwrap_or (written_mask kind mask) (256 ^ width_of kind - 1) ≡ mask
mask_written kind mask = cases (eqb mask (256 ^ width_of kind - 1)) refl
  where
    cases : (b : Bool) → eqb mask (256 ^ width_of kind - 1) ≡ b → unwrap_or (cond b None (Some mask)) (256 ^ width_of kind - 1) ≡ mask
    cases true e = sym (eqb-true mask (256 ^ width_of kind - 1) e)
    cases false e = refl

masked_field : (kind : FieldKind) (value mask : ℕ) (b : Bool) → can_mask kind ≡ true → IsMasked (width_of kind) value mask → IsField (record { kind = kind; value = value; mask = cond b None (Some mask) })
masked_field kind value mask true may fits = record { value = fits.value_fits; mask = tt }
masked_field kind value mask false may fits = record { value = fits.value_fits; mask = (fits.mask_fits, may, fits.within) }

address48_part : (kind : FieldKind) (address : Option Masked48) → can_mask kind ≡ true → IfSome address (λ a. IsMasked (width_of kind) a.value a.mask) → IsPart kind (address48 kind address)
unfolding address48
address48_part kind None may fits = inl refl
address48_part kind (Some a) may fits = inr (record { kind = kind; value = a.value; mask = written_mask kind a.mask }, refl, masked_field kind a.value a.mask (eqb a.mask (256 ^ width_of kind - 1)) may fits, refl)

address32_part : (kind : FieldKind) (address : Option Masked32) → can_mask kind ≡ true → IfSome address (λ a. IsMasked (width_of kind) a.value a.mask) → IsPart kind (address32 kind address)
unfolding address32
address32_part kind None may fits = inl refl
address32_part kind (Some a) may fits = inr (record { kind = kind; value = a.value; mask = written_mask kind a.mask }, refl, masked_field kind a.value a.mask (eqb a.mask (256 ^ width_of kind - 1)) may fits, refl)

-- ---- the numbers ascend

-- no number from this one on
abbrev NoneFrom : ℕ → List Field → Type 0
NoneFrom least before = (n : ℕ) → least ≤ n → is_repeated n before ≡ false

one_later : (least n : ℕ) (before : List Field) (field : Field) → NoneFrom least before → least ≤ number_of field.kind → suc (number_of field.kind) ≤ n → is_repeated n (before ++ field ∷ []) ≡ false
one_later least n before field none le more =
    let old : is_repeated n before ≡ false = none n (omega arith) in
    let other : eqb (number_of field.kind) n ≡ false = ne_eqb (number_of field.kind) n (λ e. omega arith) in
    list_any-append (λ (f : Field). eqb (number_of f.kind) n) before (field ∷ []) ∙ rw (old, other) refl

-- The fields after this part are new, where they come behind its number.
abbrev AreGood : ℕ → List Field → List Field → Type 0
AreGood least before fields = NoneFrom least before → AllByRecursion IsField fields × IsNewAfter before fields

with_field : (least : ℕ) (kind : FieldKind) (field : Field) (rest before : List Field) → least ≤ number_of kind → field.kind ≡ kind → IsField field
    → ((before : List Field) → AreGood (suc (number_of kind)) before rest) → NoneFrom least before → AllByRecursion IsField (field ∷ rest) × IsNewAfter before (field ∷ rest)
with_field least kind field rest before le same fits more none =
    let number : number_of field.kind ≡ number_of kind = ap number_of same in
    let above : least ≤ number_of field.kind = omega arith in
    let after = more (before ++ field ∷ []) (λ n h. one_later least n before field none above (omega arith)) in
    ((fits, after.0), (none (number_of field.kind) above, after.1))

part_then : (least : ℕ) (kind : FieldKind) (part rest : List Field) → least ≤ number_of kind → IsPart kind part
    → ((before : List Field) → AreGood (suc (number_of kind)) before rest) → (before : List Field) → AreGood least before (part ++ rest)
part_then least kind part rest le is_part more before none =
    elim is_part [
      | inl e ↦ rw e (more before (λ n h. none n (omega arith)))
      | inr one ↦ rw one.3 (with_field least kind one.0 rest before le one.1 one.2 more none)
    ]

last_part : (least : ℕ) (kind : FieldKind) (part : List Field) → least ≤ number_of kind → IsPart kind part → (before : List Field) → AreGood least before part
last_part least kind part le is_part before none =
    let with_nil = part_then least kind part [] le is_part (λ before none. (tt, tt)) before none in
    subst (λ (fields : List Field). AllByRecursion IsField fields × IsNewAfter before fields) (append-nil part) with_nil

-- the groups as one list
abbrev parts_of : Match → List Field
parts_of m =
    exact InPort m.in_port ++ (address48 EthDst m.eth_dst ++ (address48 EthSrc m.eth_src ++ (
    exact EthType m.eth_type ++ (exact IpProto m.ip_proto ++ (address32 Ipv4Src m.ipv4_src ++ (address32 Ipv4Dst m.ipv4_dst ++ (
    exact TcpSrc m.tcp_src ++ (exact TcpDst m.tcp_dst ++ (exact UdpSrc m.udp_src ++ (exact UdpDst m.udp_dst))))))))))

written_parts : (m : Match) → written_of m ≡ parts_of m
unfolding written_of link_fields network_fields transport_fields
written_parts m = simp append_assoc

pub written_good : (m : Match) → IsValid m → AllByRecursion IsField (written_of m) × IsNewAfter [] (written_of m)
written_good m v =
    let good =
    part_then 0 InPort (exact InPort m.in_port) _ (lit≤ tt) (exact_part InPort m.in_port v.in_port)
    (part_then 1 EthDst (address48 EthDst m.eth_dst) _ (lit≤ tt) (address48_part EthDst m.eth_dst refl v.eth_dst)
    (part_then 4 EthSrc (address48 EthSrc m.eth_src) _ (lit≤ tt) (address48_part EthSrc m.eth_src refl v.eth_src)
    (part_then 5 EthType (exact EthType m.eth_type) _ (lit≤ tt) (exact_part EthType m.eth_type v.eth_type)
    (part_then 6 IpProto (exact IpProto m.ip_proto) _ (lit≤ tt) (exact_part IpProto m.ip_proto v.ip_proto)
    (part_then 11 Ipv4Src (address32 Ipv4Src m.ipv4_src) _ (lit≤ tt) (address32_part Ipv4Src m.ipv4_src refl v.ipv4_src)
    (part_then 12 Ipv4Dst (address32 Ipv4Dst m.ipv4_dst) _ (lit≤ tt) (address32_part Ipv4Dst m.ipv4_dst refl v.ipv4_dst)
    (part_then 13 TcpSrc (exact TcpSrc m.tcp_src) _ (lit≤ tt) (exact_part TcpSrc m.tcp_src v.tcp_src)
    (part_then 14 TcpDst (exact TcpDst m.tcp_dst) _ (lit≤ tt) (exact_part TcpDst m.tcp_dst v.tcp_dst)
    (part_then 15 UdpSrc (exact UdpSrc m.udp_src) _ (lit≤ tt) (exact_part UdpSrc m.udp_src v.udp_src)
    (last_part 16 UdpDst (exact UdpDst m.udp_dst) (lit≤ tt) (exact_part UdpDst m.udp_dst v.udp_dst))))))))))) in
    rw (written_parts m) (good [] (λ n h. refl))

-- ---- what they say

said_exact : (kind : FieldKind) (set : Match → Option ℕ → Match) (a : Match) (value : Option ℕ) → ((v : ℕ) → put a (record { kind = kind; value = v; mask = None }) ≡ set a (Some v))
    → a ≡ set a None → fold put a (exact kind value) ≡ set a value
unfolding exact
said_exact kind set a None puts same = same
said_exact kind set a (Some value) puts same = puts value

positive_mask : (value mask : ℕ) → 0 < mask → eqb mask 0 ≡ false
positive_mask value mask some = ne_eqb mask 0 (λ e. omega arith)

said48 : (kind : FieldKind) (value mask : ℕ) → 0 < mask → masked48 (record { kind = kind; value = value; mask = written_mask kind mask }) ≡ Some (record { value = value; mask = mask })
said48 kind value mask some = rw (mask_written kind mask, positive_mask value mask some) refl

said32 : (kind : FieldKind) (value mask : ℕ) → 0 < mask → masked32 (record { kind = kind; value = value; mask = written_mask kind mask }) ≡ Some (record { value = value; mask = mask })
said32 kind value mask some = rw (mask_written kind mask, positive_mask value mask some) refl

said_address48 : (kind : FieldKind) (set : Match → Option Masked48 → Match) (a : Match) (address : Option Masked48) (width : ℕ) → ((field : Field) → field.kind ≡ kind → put a field ≡ set a (masked48 field))
    → a ≡ set a None → IfSome address (λ x. IsMasked width x.value x.mask) → fold put a (address48 kind address) ≡ set a address
unfolding address48
said_address48 kind set a None width puts same fits = same
said_address48 kind set a (Some x) width puts same fits =
    puts (record { kind = kind; value = x.value; mask = written_mask kind x.mask }) refl ∙ ap (set a) (said48 kind x.value x.mask fits.some_bits)

said_address32 : (kind : FieldKind) (set : Match → Option Masked32 → Match) (a : Match) (address : Option Masked32) (width : ℕ) → ((field : Field) → field.kind ≡ kind → put a field ≡ set a (masked32 field))
    → a ≡ set a None → IfSome address (λ x. IsMasked width x.value x.mask) → fold put a (address32 kind address) ≡ set a address
unfolding address32
said_address32 kind set a None width puts same fits = same
said_address32 kind set a (Some x) width puts same fits =
    puts (record { kind = kind; value = x.value; mask = written_mask kind x.mask }) refl ∙ ap (set a) (said32 kind x.value x.mask fits.some_bits)

said_then : (a b c : Match) (xs ys : List Field) → fold put a xs ≡ b → fold put b ys ≡ c → fold put a (xs ++ ys) ≡ c
said_then a b c xs ys p q = fold-append put a xs ys ∙ ap (λ (m : Match). fold put m ys) p ∙ q

said_parts : (m : Match) → IsValid m → fold put any_match (parts_of m) ≡ m
said_parts m v =
    let m1 : Match = record any_match { in_port = m.in_port } in
    let m2 : Match = record m1 { eth_dst = m.eth_dst } in
    let m3 : Match = record m2 { eth_src = m.eth_src } in
    let m4 : Match = record m3 { eth_type = m.eth_type } in
    let m5 : Match = record m4 { ip_proto = m.ip_proto } in
    let m6 : Match = record m5 { ipv4_src = m.ipv4_src } in
    let m7 : Match = record m6 { ipv4_dst = m.ipv4_dst } in
    let m8 : Match = record m7 { tcp_src = m.tcp_src } in
    let m9 : Match = record m8 { tcp_dst = m.tcp_dst } in
    let m10 : Match = record m9 { udp_src = m.udp_src } in
    let m11 : Match = record m10 { udp_dst = m.udp_dst } in
    said_then any_match m1 m (exact InPort m.in_port) _ (said_exact InPort (λ (a : Match) (x : Option ℕ). record a { in_port = x }) any_match m.in_port (λ x. refl) refl)
    (said_then m1 m2 m (address48 EthDst m.eth_dst) _ (said_address48 EthDst (λ (a : Match) (x : Option Masked48). record a { eth_dst = x }) m1 m.eth_dst 6 (λ field e. ap (λ (k : FieldKind). put_as k m1 field) e) refl v.eth_dst)
    (said_then m2 m3 m (address48 EthSrc m.eth_src) _ (said_address48 EthSrc (λ (a : Match) (x : Option Masked48). record a { eth_src = x }) m2 m.eth_src 6 (λ field e. ap (λ (k : FieldKind). put_as k m2 field) e) refl v.eth_src)
    (said_then m3 m4 m (exact EthType m.eth_type) _ (said_exact EthType (λ (a : Match) (x : Option ℕ). record a { eth_type = x }) m3 m.eth_type (λ x. refl) refl)
    (said_then m4 m5 m (exact IpProto m.ip_proto) _ (said_exact IpProto (λ (a : Match) (x : Option ℕ). record a { ip_proto = x }) m4 m.ip_proto (λ x. refl) refl)
    (said_then m5 m6 m (address32 Ipv4Src m.ipv4_src) _ (said_address32 Ipv4Src (λ (a : Match) (x : Option Masked32). record a { ipv4_src = x }) m5 m.ipv4_src 4 (λ field e. ap (λ (k : FieldKind). put_as k m5 field) e) refl v.ipv4_src)
    (said_then m6 m7 m (address32 Ipv4Dst m.ipv4_dst) _ (said_address32 Ipv4Dst (λ (a : Match) (x : Option Masked32). record a { ipv4_dst = x }) m6 m.ipv4_dst 4 (λ field e. ap (λ (k : FieldKind). put_as k m6 field) e) refl v.ipv4_dst)
    (said_then m7 m8 m (exact TcpSrc m.tcp_src) _ (said_exact TcpSrc (λ (a : Match) (x : Option ℕ). record a { tcp_src = x }) m7 m.tcp_src (λ x. refl) refl)
    (said_then m8 m9 m (exact TcpDst m.tcp_dst) _ (said_exact TcpDst (λ (a : Match) (x : Option ℕ). record a { tcp_dst = x }) m8 m.tcp_dst (λ x. refl) refl)
    (said_then m9 m10 m (exact UdpSrc m.udp_src) _ (said_exact UdpSrc (λ (a : Match) (x : Option ℕ). record a { udp_src = x }) m9 m.udp_src (λ x. refl) refl)
    (said_exact UdpDst (λ (a : Match) (x : Option ℕ). record a { udp_dst = x }) m10 m.udp_dst (λ x. refl) refl))))))))))

pub written_said : (m : Match) → IsValid m → match_of (written_of m) ≡ m
unfolding match_of
written_said m v = ap (fold put any_match) (written_parts m) ∙ said_parts m v

-- ---- the length

width-le : (kind : FieldKind) → width_of kind ≤ 6
width-le InPort = lit≤ tt
width-le EthDst = lit≤ tt
width-le EthSrc = lit≤ tt
width-le EthType = lit≤ tt
width-le IpProto = lit≤ tt
width-le Ipv4Src = lit≤ tt
width-le Ipv4Dst = lit≤ tt
width-le TcpSrc = lit≤ tt
width-le TcpDst = lit≤ tt
width-le UdpSrc = lit≤ tt
width-le UdpDst = lit≤ tt

doubled-le : (b : Bool) (width : ℕ) → width ≤ 6 → cond b (2 * width) width ≤ 12
doubled-le true width le = omega arith
doubled-le false width le = omega arith

part_short : (kind : FieldKind) (fields : List Field) → IsPart kind fields → length (spelled fields) ≤ 16
unfolding spelled
part_short kind fields is_part =
    elim is_part [
      | inl e ↦ rw e (lit≤ tt)
      | inr one ↦ rw one.3 (let size = length-payload one.0 in let le = doubled-le (is_some one.0.mask) (width_of one.0.kind) (width-le one.0.kind) in omega (arith, length-append (payload one.0) []))
    ]

short_then : (xs ys : List Field) (most : ℕ) → length (spelled xs) ≤ 16 → length (spelled ys) ≤ most → length (spelled (xs ++ ys)) ≤ 16 + most
short_then xs ys most p q = rw spelled-append (omega (arith, length-append (spelled xs) (spelled ys)))

written_short : (m : Match) → IsValid m → length (spelled (written_of m)) ≤ 176
written_short m v = rw (written_parts m) (
    short_then (exact InPort m.in_port) _ 160 (part_short InPort (exact InPort m.in_port) (exact_part InPort m.in_port v.in_port))
    (short_then (address48 EthDst m.eth_dst) _ 144 (part_short EthDst (address48 EthDst m.eth_dst) (address48_part EthDst m.eth_dst refl v.eth_dst))
    (short_then (address48 EthSrc m.eth_src) _ 128 (part_short EthSrc (address48 EthSrc m.eth_src) (address48_part EthSrc m.eth_src refl v.eth_src))
    (short_then (exact EthType m.eth_type) _ 112 (part_short EthType (exact EthType m.eth_type) (exact_part EthType m.eth_type v.eth_type))
    (short_then (exact IpProto m.ip_proto) _ 96 (part_short IpProto (exact IpProto m.ip_proto) (exact_part IpProto m.ip_proto v.ip_proto))
    (short_then (address32 Ipv4Src m.ipv4_src) _ 80 (part_short Ipv4Src (address32 Ipv4Src m.ipv4_src) (address32_part Ipv4Src m.ipv4_src refl v.ipv4_src))
    (short_then (address32 Ipv4Dst m.ipv4_dst) _ 64 (part_short Ipv4Dst (address32 Ipv4Dst m.ipv4_dst) (address32_part Ipv4Dst m.ipv4_dst refl v.ipv4_dst))
    (short_then (exact TcpSrc m.tcp_src) _ 48 (part_short TcpSrc (exact TcpSrc m.tcp_src) (exact_part TcpSrc m.tcp_src v.tcp_src))
    (short_then (exact TcpDst m.tcp_dst) _ 32 (part_short TcpDst (exact TcpDst m.tcp_dst) (exact_part TcpDst m.tcp_dst v.tcp_dst))
    (short_then (exact UdpSrc m.udp_src) _ 16 (part_short UdpSrc (exact UdpSrc m.udp_src) (exact_part UdpSrc m.udp_src v.udp_src))
    (part_short UdpDst (exact UdpDst m.udp_dst) (exact_part UdpDst m.udp_dst v.udp_dst))))))))))))

pub canonical_spelled : (m : Match) → IsValid m → IsSpelled (canonical_match m) m
unfolding canonical_match canonical_bare_match
canonical_spelled m v =
    let body = spelled (written_of m) in
    let good = written_good m v in
    let short = written_short m v in
    let size : length (canonical_bare_match m) ≡ 4 + length body = omega arith in
    let bare = length (canonical_bare_match m) in
    let zeros : List ℕ = replicate (padded bare - bare) 0 in (
      written_of m,
      zeros,
      record {
        whole = refl;
        short = omega arith;
        filled = omega (arith, size, length-replicate {A = ℕ} (padded bare - bare) 0);
        each = good.0;
        once = good.1;
        said = written_said m v;
        prerequisites = v.prerequisites;
      },
    )

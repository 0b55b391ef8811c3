-- The canonical bytes of a match are as many as its size tells.
use Rattle.std.proofs.Common.{◌≡◌, ℕ, ◌+◌, ◌*◌, ◌-◌, ◌^◌, Bool, true, false, cond, eqb, List, [], ◌∷◌, ◌++◌, length, Option, Some, None, refl, ap, ◌∙◌, arith}
use Rattle.std.specs.Prelude.{replicate, is_some}
use Rattle.std.proofs.lemmas.List.{length-append, length-replicate}
use Rattle.of_types.specs.declared.message.Match.{Match}
use Rattle.of_types.specs.declared.message.Masked48.{Masked48}
use Rattle.of_types.specs.declared.message.Masked32.{Masked32}
use Rattle.of_types.specs.Sizes.{field_size, masked48_size, masked32_size, fields_size, match_size, padded}
use Rattle.of_match.specs.declared.kind.FieldKind.{FieldKind}
use Rattle.of_match.specs.declared.kind.FieldKind.TheVariants.{InPort, EthDst, EthSrc, EthType, IpProto, Ipv4Src, Ipv4Dst, TcpSrc, TcpDst, UdpSrc, UdpDst}
use Rattle.of_match.specs.Field.{Field, width_of, payload}
use Rattle.of_match.specs.Writing.{exact, address48, address32, link_fields, network_fields, transport_fields, written_of, spelled, canonical_bare_match, canonical_match}
use Rattle.of_match.proofs.Fields.{length-payload}
use Rattle.of_match.proofs.Spelled.{spelled-append}

-- one field alone: a header of four bytes, value and mask
one_size : (field : Field) → length (spelled (field ∷ [])) ≡ 4 + cond (is_some field.mask) (2 * width_of field.kind) (width_of field.kind)
unfolding spelled
one_size field = omega (arith, length-append (payload field) [], length-payload field)

no_size : length (spelled []) ≡ 0
unfolding spelled
no_size = refl

exact_size : (kind : FieldKind) (value : Option ℕ) → length (spelled (exact kind value)) ≡ field_size (width_of kind) value
unfolding exact
exact_size kind None = no_size
exact_size kind (Some value) = one_size (record { kind = kind; value = value; mask = None })

address48_size : (kind : FieldKind) (address : Option Masked48) → width_of kind ≡ 6 → length (spelled (address48 kind address)) ≡ masked48_size address
unfolding address48
address48_size kind None w = no_size
address48_size kind (Some a) w =
    one_size _ ∙ rw w (by_mask (eqb a.mask (2 ^ 48 - 1)) a.mask)
  where
    by_mask : (b : Bool) (mask : ℕ) → 4 + cond (is_some (cond b None (Some mask))) (2 * 6) 6 ≡ cond b 10 16
    by_mask true mask = refl
    by_mask false mask = refl

address32_size : (kind : FieldKind) (address : Option Masked32) → width_of kind ≡ 4 → length (spelled (address32 kind address)) ≡ masked32_size address
unfolding address32
address32_size kind None w = no_size
address32_size kind (Some a) w =
    one_size _ ∙ rw w (by_mask (eqb a.mask (2 ^ 32 - 1)) a.mask)
  where
    by_mask : (b : Bool) (mask : ℕ) → 4 + cond (is_some (cond b None (Some mask))) (2 * 4) 4 ≡ cond b 8 12
    by_mask true mask = refl
    by_mask false mask = refl

both_size : (xs ys : List Field) (m n : ℕ) → length (spelled xs) ≡ m → length (spelled ys) ≡ n → length (spelled (xs ++ ys)) ≡ m + n
both_size xs ys m n p q = rw spelled-append (omega (arith, length-append (spelled xs) (spelled ys), p, q))

fields_have_size : (m : Match) → length (spelled (written_of m)) ≡ fields_size m
unfolding written_of link_fields network_fields transport_fields
fields_have_size m =
    let link = both_size _ _ _ _ (exact_size InPort m.in_port) (both_size _ _ _ _ (address48_size EthDst m.eth_dst refl) (both_size _ _ _ _ (address48_size EthSrc m.eth_src refl) (exact_size EthType m.eth_type))) in
    let network = both_size _ _ _ _ (exact_size IpProto m.ip_proto) (both_size _ _ _ _ (address32_size Ipv4Src m.ipv4_src refl) (address32_size Ipv4Dst m.ipv4_dst refl)) in
    let transport = both_size _ _ _ _ (exact_size TcpSrc m.tcp_src) (both_size _ _ _ _ (exact_size TcpDst m.tcp_dst) (both_size _ _ _ _ (exact_size UdpSrc m.udp_src) (exact_size UdpDst m.udp_dst))) in
    both_size _ _ _ _ link (both_size _ _ _ _ network transport) ∙ omega arith

padded_size : (bare : List ℕ) → length (bare ++ replicate (padded (length bare) - length bare) 0) ≡ padded (length bare)
padded_size bare = omega (arith, length-append bare (replicate (padded (length bare) - length bare) 0), length-replicate {A = ℕ} (padded (length bare) - length bare) 0)

pub bare_size : (m : Match) → length (canonical_bare_match m) ≡ 4 + fields_size m
unfolding canonical_bare_match
bare_size m = omega (arith, fields_have_size m)

pub has_size : (m : Match) → length (canonical_match m) ≡ match_size m
unfolding canonical_match
has_size m = padded_size (canonical_bare_match m) ∙ ap padded (bare_size m)

-- A valid match, with all that writing it needs in one place.
use Rattle.std.proofs.Common.{◌≡◌, ℕ, ◌^◌, ◌<◌, true, eqb, Option, Some, None, refl, arith, eq-eqb}
use Rattle.std.specs.Prelude.{IfSome, bit_and, unwrap_or}
use Rattle.std.proofs.lemmas.Nat.{and_le_r}
use Rattle.of_types.specs.declared.message.Match.{Match}
use Rattle.of_types.specs.declared.message.Masked48.{Masked48}
use Rattle.of_types.specs.declared.message.Masked32.{Masked32}
use Rattle.of_types.specs.Valid.{IsMasked48, IsMasked32, Needs, IsValidMatch}
use Rattle.of_match.specs.Reading.{needs, has_prerequisites}
use Rattle.of_match.specs.Spelling.{Fits}

-- The value fits its field, the mask is not zero, and no bit of the value is outside the mask.
pub record IsMasked (width value mask : ℕ) : Type 0 where
  pub value_fits : value < 256 ^ width
  pub mask_fits : mask < 256 ^ width
  pub some_bits : 0 < mask
  pub within : bit_and value mask ≡ value

-- what can be written
pub record IsValid (m : Match) : Type 0 where
  pub in_port : IfSome m.in_port (λ value. value < 2 ^ 32)
  pub eth_dst : IfSome m.eth_dst (λ a. IsMasked 6 a.value a.mask)
  pub eth_src : IfSome m.eth_src (λ a. IsMasked 6 a.value a.mask)
  pub eth_type : IfSome m.eth_type (λ value. value < 2 ^ 16)
  pub ip_proto : IfSome m.ip_proto (λ value. value < 2 ^ 8)
  pub ipv4_src : IfSome m.ipv4_src (λ a. IsMasked 4 a.value a.mask)
  pub ipv4_dst : IfSome m.ipv4_dst (λ a. IsMasked 4 a.value a.mask)
  pub tcp_src : IfSome m.tcp_src (λ value. value < 2 ^ 16)
  pub tcp_dst : IfSome m.tcp_dst (λ value. value < 2 ^ 16)
  pub udp_src : IfSome m.udp_src (λ value. value < 2 ^ 16)
  pub udp_dst : IfSome m.udp_dst (λ value. value < 2 ^ 16)
  pub prerequisites : has_prerequisites m ≡ true

masked48 : (address : Option Masked48) → IfSome address (λ a. IsMasked48 a) → IfSome address (λ a. IsMasked 6 a.value a.mask)
masked48 None v = tt
masked48 (Some a) v = record { value_fits = (let le = and_le_r a.value a.mask in omega (arith, le, v.inside, v.fits)); mask_fits = v.fits; some_bits = v.some; within = v.inside }

masked32 : (address : Option Masked32) → IfSome address (λ a. IsMasked32 a) → IfSome address (λ a. (a.value < 2 ^ 32) × (a.mask < 2 ^ 32)) → IfSome address (λ a. IsMasked 4 a.value a.mask)
masked32 None v f = tt
masked32 (Some a) v f = record { value_fits = f.0; mask_fits = f.1; some_bits = v.some; within = v.inside }

needed : {A : Type 0} (field : Option A) (tag : Option ℕ) (wanted : ℕ) → Needs field tag wanted → needs field (eqb (unwrap_or tag 0) wanted) ≡ true
needed None tag wanted n = refl
needed (Some x) tag wanted n = let e : tag ≡ Some wanted = n (λ h. cc) in rw e (eq-eqb wanted wanted refl)

pub valid : (m : Match) → IsValidMatch m → Fits m → IsValid m
valid m v f = record {
  in_port = f.in_port;
  eth_dst = masked48 m.eth_dst v.eth_dst;
  eth_src = masked48 m.eth_src v.eth_src;
  eth_type = f.eth_type;
  ip_proto = f.ip_proto;
  ipv4_src = masked32 m.ipv4_src v.ipv4_src f.ipv4_src;
  ipv4_dst = masked32 m.ipv4_dst v.ipv4_dst f.ipv4_dst;
  tcp_src = f.tcp_src;
  tcp_dst = f.tcp_dst;
  udp_src = f.udp_src;
  udp_dst = f.udp_dst;
  prerequisites =
      rw (
        needed m.ip_proto m.eth_type 0x0800 v.proto,
        needed m.ipv4_src m.eth_type 0x0800 v.source,
        needed m.ipv4_dst m.eth_type 0x0800 v.destination,
        needed m.tcp_src m.ip_proto 6 v.tcp_source,
        needed m.tcp_dst m.ip_proto 6 v.tcp_destination,
        needed m.udp_src m.ip_proto 17 v.udp_source,
        needed m.udp_dst m.ip_proto 17 v.udp_destination,
      ) refl;
}

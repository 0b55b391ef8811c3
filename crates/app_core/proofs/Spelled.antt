-- Rows that ask for an address, and frames that are sent on, can be spelled. Such a frame is a good command.
use Rattle.std.proofs.Common.{◌≤◌, ◌<◌, inl, ℕ, ◌+◌, ◌-◌, ◌*◌, ◌^◌, List, [], ◌∷◌, length, get_or, zero, suc, refl, ◌∙◌, arith, pow-suc, mul-le-mul_right, mod-eq_of_lt}
use Rattle.std.specs.Prelude.{nat_le, Some, None, unwrap_or}
use Rattle.std.specs.List.{AllByRecursion}
use Rattle.std.proofs.lemmas.Bool.{cond_both}
use Rattle.std.proofs.lemmas.Nat.{and_mask}
use Rattle.byteorder.specs.Endian.{big_from}
use Rattle.of_types.specs.declared.message.Happening.TheVariants as happening
use Rattle.of_types.specs.declared.message.PacketIn.{PacketIn}
use Rattle.of_types.specs.declared.numbers.TheConstants.{LONGEST_FRAME}
use Rattle.of_types.specs.declared.setup.Setup.{Setup}
use Rattle.of_types.specs.Header.{number_at}
use Rattle.of_types.specs.Matching.{any_match}
use Rattle.of_types.specs.Valid.{IsValidMatch}
use Rattle.app_core.specs.Commands.{packet_out}
use Rattle.app_core.specs.Orders.{AreBytes, IsGoodCommand, IsSendable}

bytes_at : (xs : List ℕ) → AllByRecursion (λ b. b < 256) xs → (k : ℕ) → get_or xs k 0 < 256
bytes_at [] h k = omega arith
bytes_at (x ∷ xs) h zero = h.0
bytes_at (x ∷ xs) h (suc k) = bytes_at xs h.1 k

next_digit : (digit rest place : ℕ) → digit < 256 → rest < place → digit * place + rest < place * 256
next_digit digit rest place d r =
    let few : digit ≤ 255 = omega arith in
    let m : digit * place ≤ 255 * place = mul-le-mul_right place few in
    omega (arith, m)

big_below : (i n : ℕ) (xs : List ℕ) → ((k : ℕ) → get_or xs k 0 < 256) → big_from i n xs < 256 ^ n
big_below i zero xs h = omega arith
big_below i (suc n) xs h = rw pow-suc (next_digit (get_or xs i 0) (big_from (suc i) n xs) (256 ^ n) (h i) (big_below (suc i) n xs h))

-- the destination of a frame has 48 bits
pub address_below : (frame : List ℕ) → AreBytes frame → unwrap_or (number_at 6 0 frame) 0 < 2 ^ 48
address_below frame bytes =
    cond_both (nat_le (0 + 6) (length frame)) (Some (big_from 0 6 frame)) None (λ o. unwrap_or o 0 < 2 ^ 48) (λ _. big_below 0 6 frame (bytes_at frame bytes)) (λ _. omega arith)

-- frames to an address that come in by a port
pub addressed_valid : (port address : ℕ) → address < 2 ^ 48 → IsValidMatch (record any_match { in_port = Some port; eth_dst = Some (record { value = address; mask = 2 ^ 48 - 1 }) })
addressed_valid port address below = record {
  eth_dst = record { fits = omega arith; some = omega arith; inside = and_mask address 48 ∙ mod-eq_of_lt below };
  eth_src = tt;
  ipv4_src = tt;
  ipv4_dst = tt;
  proto = λ h. absurd (h refl);
  source = λ h. absurd (h refl);
  destination = λ h. absurd (h refl);
  tcp_source = λ h. absurd (h refl);
  tcp_destination = λ h. absurd (h refl);
  udp_source = λ h. absurd (h refl);
  udp_destination = λ h. absurd (h refl);
}

-- all frames
pub any_valid : IsValidMatch any_match
any_valid = record {
  eth_dst = tt;
  eth_src = tt;
  ipv4_src = tt;
  ipv4_dst = tt;
  proto = λ h. absurd (h refl);
  source = λ h. absurd (h refl);
  destination = λ h. absurd (h refl);
  tcp_source = λ h. absurd (h refl);
  tcp_destination = λ h. absurd (h refl);
  udp_source = λ h. absurd (h refl);
  udp_destination = λ h. absurd (h refl);
}

pub out_sendable : (switch port : ℕ) (frame : List ℕ) (output : ℕ) → length frame ≤ LONGEST_FRAME → AreBytes frame → IsSendable (packet_out switch port frame output).order
out_sendable switch port frame output short bytes = (tt, omega (arith, short), bytes)

-- a frame that came in goes out by one output
pub out_lawful : (setup : Setup) (life number switch : ℕ) → switch < length setup.ports → (p : PacketIn) (output : ℕ) →
    IsGoodCommand setup (record { switch = switch; life = life; number = number; what = happening.PacketIn p }) (packet_out switch p.in_port p.payload output)
out_lawful setup life number switch there p output =
    record { named = there; few = inl (omega arith); sendable = λ short. out_sendable switch p.in_port p.payload output short.0 short.1 }

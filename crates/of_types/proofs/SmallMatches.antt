-- However many fields a match has, it is short.
use Rattle.std.proofs.Common.{◌≤◌, ℕ, ◌+◌, Bool, true, false, arith}
use Rattle.std.specs.Prelude.{cond, nat_eq, Option, Some, None}
use Rattle.of_types.specs.declared.message.Masked32.{Masked32}
use Rattle.of_types.specs.declared.message.Masked48.{Masked48}
use Rattle.of_types.specs.declared.message.Match.{Match}
use Rattle.of_types.specs.Sizes.{field_size, masked48_size, masked32_size, match_size}

small_field : (width : ℕ) (field : Option ℕ) → field_size width field ≤ 4 + width
small_field width None = omega arith
small_field width (Some x) = omega arith

small48 : (field : Option Masked48) → masked48_size field ≤ 16
small48 None = omega arith
small48 (Some a) = branch (nat_eq a.mask 281474976710655)
  where
    branch : (b : Bool) → cond b 10 16 ≤ 16
    branch true = omega arith
    branch false = omega arith

small32 : (field : Option Masked32) → masked32_size field ≤ 12
small32 None = omega arith
small32 (Some a) = branch (nat_eq a.mask 4294967295)
  where
    branch : (b : Bool) → cond b 8 12 ≤ 12
    branch true = omega arith
    branch false = omega arith

pub small_match : (m : Match) → match_size m ≤ 256
small_match m =
    omega (
      arith,
      small_field 4 m.in_port,
      small48 m.eth_dst,
      small48 m.eth_src,
      small_field 2 m.eth_type,
      small_field 1 m.ip_proto,
      small32 m.ipv4_src,
      small32 m.ipv4_dst,
      small_field 2 m.tcp_src,
      small_field 2 m.tcp_dst,
      small_field 2 m.udp_src,
      small_field 2 m.udp_dst,
    )

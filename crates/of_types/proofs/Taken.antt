-- A frame that a narrow match takes, each wider one takes.
use Rattle.std.proofs.Common.{◌≡◌, ℕ, ◌∙◌, sym, ap, refl}
use Rattle.std.specs.Prelude.{Bool, true, ◌&&◌, nat_eq, bit_and, Option, Some, None}
use Rattle.std.proofs.lemmas.Bool.{and_from, and_parts, eqb-true, eq-eqb}
use Rattle.std.proofs.lemmas.Nat.{and_assoc}
use Rattle.of_types.specs.declared.message.Fields.{Fields}
use Rattle.of_types.specs.declared.message.Match.{Match}
use Rattle.of_types.specs.declared.message.Masked32.{Masked32}
use Rattle.of_types.specs.declared.message.Masked48.{Masked48}
use Rattle.of_types.specs.Matching.{has_value, agrees_under, has_address48, has_address32, covers_address48, covers_address32, covers, matches}

-- a test of the wide match follows from one of the two, and one of the narrow one
abbrev pub Follows : Bool → Bool → Bool → Type 0
Follows covered narrow wide = covered ≡ true → narrow ≡ true → wide ≡ true

-- and so do two of them
both : (c c' n n' w w' : Bool) → Follows c n w → Follows c' n' w' → Follows (c && c') (n && n') (w && w')
both c c' n n' w w' first second covered narrow =
    let p = and_parts c c' covered in
    let q = and_parts n n' narrow in
    and_from w w' (first p.0 q.0) (second p.1 q.1)

value : (wide narrow found : Option ℕ) → Follows (has_value wide narrow) (has_value narrow found) (has_value wide found)
value None narrow found c n = refl
value (Some w) None found c n = absurd cc
value (Some w) (Some m) None c n = absurd cc
value (Some w) (Some m) (Some f) c n = rw (eqb-true f m n) c

-- the bits under the wide mask are those that both masks have
under : (x m w : ℕ) → bit_and m w ≡ w → bit_and x w ≡ bit_and (bit_and x m) w
under x m w inside = ap (bit_and x) (sym inside) ∙ sym (and_assoc w x m)

masked : (w v m n f : ℕ) → Follows (nat_eq (bit_and m w) w && agrees_under w n v) (agrees_under m f n) (agrees_under w f v)
masked w v m n f c k =
    let p = and_parts (nat_eq (bit_and m w) w) (agrees_under w n v) c in
    let inside = eqb-true (bit_and m w) w p.0 in
    let same : bit_and f w ≡ bit_and n w =
    under f m w inside ∙ ap (λ (x : ℕ). bit_and x w) (eqb-true (bit_and f m) (bit_and n m) k) ∙ sym (under n m w inside) in
    eq-eqb (bit_and f w) (bit_and v w) (same ∙ eqb-true (bit_and n w) (bit_and v w) p.1)

address48 : (wide narrow : Option Masked48) (found : Option ℕ) → Follows (covers_address48 wide narrow) (has_address48 narrow found) (has_address48 wide found)
address48 None narrow found c n = refl
address48 (Some w) None found c n = absurd cc
address48 (Some w) (Some m) None c n = absurd cc
address48 (Some w) (Some m) (Some f) c n = masked w.mask w.value m.mask m.value f c n

address32 : (wide narrow : Option Masked32) (found : Option ℕ) → Follows (covers_address32 wide narrow) (has_address32 narrow found) (has_address32 wide found)
address32 None narrow found c n = refl
address32 (Some w) None found c n = absurd cc
address32 (Some w) (Some m) None c n = absurd cc
address32 (Some w) (Some m) (Some f) c n = masked w.mask w.value m.mask m.value f c n

pub covered-takes : (w n : Match) (f : Fields) → Follows (covers w n) (matches n f) (matches w f)
covered-takes w n f =
    both _ _ _ _ _ _ (both _ _ _ _ _ _ (both _ _ _ _ _ _ (both _ _ _ _ _ _ (both _ _ _ _ _ _
    (both _ _ _ _ _ _ (both _ _ _ _ _ _ (both _ _ _ _ _ _ (both _ _ _ _ _ _ (both _ _ _ _ _ _
    (value w.in_port n.in_port f.in_port) (address48 w.eth_dst n.eth_dst f.eth_dst)) (address48 w.eth_src n.eth_src f.eth_src))
    (value w.eth_type n.eth_type f.eth_type)) (value w.ip_proto n.ip_proto f.ip_proto)) (address32 w.ipv4_src n.ipv4_src f.ipv4_src))
    (address32 w.ipv4_dst n.ipv4_dst f.ipv4_dst)) (value w.tcp_src n.tcp_src f.tcp_src)) (value w.tcp_dst n.tcp_dst f.tcp_dst))
    (value w.udp_src n.udp_src f.udp_src)) (value w.udp_dst n.udp_dst f.udp_dst)

-- Ends of wires that stand once.
use Rattle.std.proofs.Common.{◌≡◌, not, ◌&&◌, ◌||◌, nat_eq, ℕ, Bool, true, false, List, [], ◌∷◌, ◌++◌, refl, sym, ap, subst, ◌∙◌, append_assoc, arith}
use Rattle.std.specs.List.{list_any}
use Rattle.std.proofs.lemmas.Bool.{or_from, or_parts}
use Rattle.std.proofs.lemmas.List.Folds.{list_any-append}
use Rattle.of_types.specs.declared.setup.Link.{Link}
use Rattle.of_types.specs.Setups.{AreApart, ends_of}
use Rattle.wires.specs.Wires.{is_taken}

-- whether two ends are one
abbrev pub same_end : ℕ × ℕ → ℕ × ℕ → Bool
same_end end other = nat_eq other.0 end.0 && nat_eq other.1 end.1

nat_eq_sym : (m n : ℕ) → nat_eq m n ≡ nat_eq n m
nat_eq_sym m n = grind arith

pub same_end_sym : (end other : ℕ × ℕ) → same_end end other ≡ same_end other end
same_end_sym end other = rw (nat_eq_sym other.0 end.0, nat_eq_sym other.1 end.1) refl

ends_of-append : (links more : List Link) → ends_of (links ++ more) ≡ ends_of links ++ ends_of more
ends_of-append [] more = refl
ends_of-append (l ∷ links) more = ap (λ ends. (l.switch, l.port) ∷ (l.peer, l.peer_port) ∷ ends) (ends_of-append links more)

-- two ends more that are none of those before, and not one
pub apart_more : (ends : List (ℕ × ℕ)) (a b : ℕ × ℕ) → AreApart ends → list_any (same_end a) ends ≡ false → list_any (same_end b) ends ≡ false → same_end a b ≡ false → AreApart (ends ++ a ∷ b ∷ [])
apart_more [] a b apart free_a free_b other = (or_from (same_end a b) false other refl, (refl, tt))
apart_more (end ∷ ends) a b apart free_a free_b other =
    let not_a = or_parts (same_end a end) (list_any (same_end a) ends) free_a in
    let not_b = or_parts (same_end b end) (list_any (same_end b) ends) free_b in (
      list_any-append (same_end end) ends (a ∷ b ∷ [])
          ∙ or_from (list_any (same_end end) ends) (same_end end a || (same_end end b || false)) apart.0
          (or_from (same_end end a) (same_end end b || false) (same_end_sym end a ∙ not_a.0) (or_from (same_end end b) false (same_end_sym end b ∙ not_b.0) refl)),
      apart_more ends a b apart.1 not_a.1 not_b.1 other,
    )

-- one wire more
pub apart_link : (links : List Link) (l : Link) → AreApart (ends_of links) → list_any (same_end (l.switch, l.port)) (ends_of links) ≡ false → list_any (same_end (l.peer, l.peer_port)) (ends_of links) ≡ false →
    same_end (l.switch, l.port) (l.peer, l.peer_port) ≡ false → AreApart (ends_of (links ++ l ∷ []))
apart_link links l apart free_one free_other two =
    subst AreApart (sym (ends_of-append links (l ∷ []))) (apart_more (ends_of links) (l.switch, l.port) (l.peer, l.peer_port) apart free_one free_other two)

or_again : (a b c d : Bool) → c ≡ d → (a || (b || c)) ≡ ((a || b) || d)
or_again true b c d e = refl
or_again false true c d e = refl
or_again false false c d e = e

-- some end passes a test, wire by wire
pub ends_any : (test : ℕ × ℕ → Bool) (links : List Link) → list_any test (ends_of links) ≡ list_any (λ l. test (l.switch, l.port) || test (l.peer, l.peer_port)) links
ends_any test [] = refl
ends_any test (l ∷ links) = or_again (test (l.switch, l.port)) (test (l.peer, l.peer_port)) _ _ (ends_any test links)

pub not_true : (b : Bool) → not b ≡ true → b ≡ false
not_true true e = absurd cc
not_true false e = refl

-- a port that is no end of these wires
pub free_is : (switch port : ℕ) (links : List Link) → not (is_taken switch port links) ≡ true → list_any (same_end (switch, port)) (ends_of links) ≡ false
free_is switch port links e = ends_any (same_end (switch, port)) links ∙ not_true (is_taken switch port links) e

-- ---- what ends that stand once tell of one of them

apart_front : (ends : List (ℕ × ℕ)) (end : ℕ × ℕ) (more : List (ℕ × ℕ)) → AreApart (ends ++ end ∷ more) → list_any (same_end end) ends ≡ false
apart_front [] end more apart = refl
apart_front (other ∷ ends) end more apart =
    let parts = or_parts (list_any (same_end other) ends) (same_end other end || list_any (same_end other) more) (sym (list_any-append (same_end other) ends (end ∷ more)) ∙ apart.0) in
    or_from (same_end end other) (list_any (same_end end) ends)
    (same_end_sym end other ∙ (or_parts (same_end other end) (list_any (same_end other) more) parts.1).0)
    (apart_front ends end more apart.1)

-- a wire behind others: its ends are none of theirs, and two
pub record IsFree (before : List Link) (l : Link) : Type 0 where
  pub one : list_any (same_end (l.switch, l.port)) (ends_of before) ≡ false
  pub other : list_any (same_end (l.peer, l.peer_port)) (ends_of before) ≡ false
  pub two : same_end (l.peer, l.peer_port) (l.switch, l.port) ≡ false

pub free_link : (before : List Link) (l : Link) (more : List Link) → AreApart (ends_of (before ++ l ∷ more)) → IsFree before l
free_link before l more apart =
    let ends : List (ℕ × ℕ) = ends_of before in
    let a : ℕ × ℕ = (l.switch, l.port) in
    let b : ℕ × ℕ = (l.peer, l.peer_port) in
    let all : AreApart (ends ++ a ∷ b ∷ ends_of more) = subst AreApart (ends_of-append before (l ∷ more)) apart in
    let grouped : AreApart ((ends ++ a ∷ []) ++ b ∷ ends_of more) = subst AreApart (sym (append_assoc ends (a ∷ []) (b ∷ ends_of more))) all in
    let behind = apart_front (ends ++ a ∷ []) b (ends_of more) grouped in
    let parts = or_parts (list_any (same_end b) ends) (same_end b a || false) (sym (list_any-append (same_end b) ends (a ∷ [])) ∙ behind) in
    record { one = apart_front ends a (b ∷ ends_of more) all; other = parts.0; two = (or_parts (same_end b a) false parts.1).0 }

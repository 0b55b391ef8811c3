-- Switches in a line are a setup.
use Rattle.std.proofs.Common.{◌≡◌, ◌<◌, ◌≤◌, ◌+◌, ℕ, zero, suc, Bool, true, false, List, [], ◌∷◌, ◌++◌, length, Some, refl, sym, ap, ◌∙◌, subst, inl, inr, arith}
use Rattle.std.specs.Prelude.{nat_eq, ◌&&◌, All, slice_get}
use Rattle.std.specs.List.{AllByRecursion, list_any}
use Rattle.std.proofs.Math.ListN.{replicate}
use Rattle.std.proofs.lemmas.Bool.Decides.{eqb_tells}
use Rattle.std.proofs.lemmas.List.{length-replicate}
use Rattle.std.proofs.lemmas.List.Elements.{All-replicate}
use Rattle.std.proofs.lemmas.List.FromFn.{map-range_with_len_more, length-map-range_with_len}
use Rattle.of_types.specs.declared.setup.Link.{Link}
use Rattle.of_types.specs.declared.setup.Setup.{Setup}
use Rattle.of_types.specs.Setups.{IsPort, IsSetup, ends_of, AreApart}
use Rattle.unit_tests.specs.Lines.{link_at, line_links}

pub more_links : (n : ℕ) → line_links 0 (n + 1) ≡ line_links 0 n ++ link_at n ∷ []
unfolding line_links
more_links n = map-range_with_len_more link_at 0 n n (omega arith)

pub no_links : [] ≡ line_links 0 0
unfolding line_links
no_links = refl

abbrev is_end : ℕ → ℕ → List (ℕ × ℕ) → Bool
is_end s p ends = list_any (λ o. nat_eq o.0 s && nat_eq o.1 p) ends

same_no : (a b : ℕ) (more : Bool) → (a ≡ b → ⊥) → (nat_eq a b && more) ≡ false
same_no a b more o = elim (eqb_tells a b) [ inl s ↦ absurd (o s.1) | inr x ↦ rw x.0 refl ]

port_no : (same : Bool) → (same && false) ≡ false
port_no true = refl
port_no false = refl

none_two : (b first n : ℕ) → b < first → is_end b 2 (ends_of (line_links first n)) ≡ false
unfolding line_links
none_two b first zero h = refl
none_two b first (suc n) h = rw (same_no first b true (λ e. omega arith), port_no (nat_eq (first + 1) b)) (none_two b (first + 1) n (omega arith))

none_three : (b first n : ℕ) → b ≤ first → is_end b 3 (ends_of (line_links first n)) ≡ false
unfolding line_links
none_three b first zero h = refl
none_three b first (suc n) h = rw (port_no (nat_eq first b), same_no (first + 1) b true (λ e. omega arith)) (none_three b (first + 1) n (omega arith))

line_apart : (first n : ℕ) → AreApart (ends_of (line_links first n))
unfolding line_links
line_apart first zero = tt
line_apart first (suc n) = (rw (port_no (nat_eq (first + 1) first)) (none_two first (first + 1) n (omega arith)), (none_three (first + 1) (first + 1) n (omega arith), line_apart (first + 1) n))

all_four : (n s : ℕ) → s < n → slice_get {X = ℕ} (replicate n 4) s ≡ Some 4
all_four zero s h = absurd (omega arith)
all_four (suc n) zero h = refl
all_four (suc n) (suc s) h = all_four n s (omega arith)

module _ (setup : Setup) (four : (s : ℕ) → s < 64 → slice_get setup.ports s ≡ Some 4) where
  line_ports : (first n : ℕ) → first + n ≤ 63 → AllByRecursion (λ (l : Link). IsPort setup l.switch l.port × IsPort setup l.peer l.peer_port) (line_links first n)
  unfolding line_links
  line_ports first zero h = tt
  line_ports first (suc n) h = (((omega arith, (4, four first (omega arith), omega arith)), (omega arith, (4, four (first + 1) (omega arith), omega arith))), line_ports (first + 1) n (omega arith))

line_long : length (line_links 0 63) ≡ 63
unfolding line_links
line_long = length-map-range_with_len link_at 0 63

pub line_setup : (ports : List ℕ) (links : List Link) → ports ≡ replicate 64 4 → links ≡ line_links 0 63 → IsSetup (record { controllers = 1; ports = ports; links = links; deny = [] })
line_setup ports links e f =
    let long : length ports ≡ 64 = ap (λ (l : List ℕ). length l) e ∙ length-replicate {A = ℕ} 64 4 in
    let many : length links ≡ 63 = ap (λ (l : List Link). length l) f ∙ line_long in
    record {
      group = (0, omega arith, refl);
      some = omega (arith, long);
      few = omega (arith, long);
      ports = subst (λ (l : List ℕ). All (λ count. (1 ≤ count) × (count ≤ 48)) l) (sym e) (All-replicate (λ count. (1 ≤ count) × (count ≤ 48)) 64 4 (omega arith, omega arith));
      few_links = omega (arith, many);
      links = subst (λ (l : List Link). AllByRecursion (λ (x : Link). IsPort (record { controllers = 1; ports = ports; links = links; deny = [] }) x.switch x.port × IsPort (record { controllers = 1; ports = ports; links = links; deny = [] }) x.peer x.peer_port) l) (sym f)
          (line_ports (record { controllers = 1; ports = ports; links = links; deny = [] }) (λ s h. ap (λ (l : List ℕ). slice_get l s) e ∙ all_four 64 s h) 0 63 (omega arith));
      apart = subst (λ (l : List Link). AreApart (ends_of l)) (sym f) (line_apart 0 63);
      few_rules = omega arith;
      rules = tt;
    }

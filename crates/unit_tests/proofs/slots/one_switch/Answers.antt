use Rattle.std.proofs.Common.{◌≤◌, zero, suc, [], ◌∷◌, refl, arith}
use Rattle.std.specs.Prelude.{All}
use Rattle.of_types.specs.Setups.{IsSetup}
use Rattle.unit_tests.proofs.slots.one_switch.Goals as goal

one : All (λ count. (1 ≤ count) × (count ≤ 48)) (48 ∷ [])
one zero d less = (omega arith, omega arith)
one (suc k) d less = absurd (omega arith)

whole : IsSetup (record { controllers = 1; ports = 48 ∷ []; links = []; deny = [] })
whole = record {
  group = (0, omega arith, refl);
  some = omega arith;
  few = omega arith;
  ports = one;
  few_links = omega arith;
  links = tt;
  apart = tt;
  few_rules = omega arith;
  rules = tt;
}

pub returns : goal.returns
returns c = rw (c.from_vec.ensures, c.in_ok-from_array.ensures.items, c.new.ensures, c.new-2.ensures) whole

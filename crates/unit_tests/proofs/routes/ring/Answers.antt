use Rattle.std.proofs.Common.{◌≤◌, zero, suc, [], ◌∷◌, refl, arith}
use Rattle.std.specs.Prelude.{All}
use Rattle.of_types.specs.Setups.{IsSetup}
use Rattle.unit_tests.proofs.routes.ring.Goals as goal

counts : All (λ count. (1 ≤ count) × (count ≤ 48)) (48 ∷ 4 ∷ 4 ∷ [])
counts zero d less = (omega arith, omega arith)
counts (suc zero) d less = (omega arith, omega arith)
counts (suc (suc zero)) d less = (omega arith, omega arith)
counts (suc (suc (suc k))) d less = absurd (omega arith)

whole : IsSetup (record {
  controllers = 1;
  ports = 48 ∷ 4 ∷ 4 ∷ [];
  links = record { switch = 0; port = 3; peer = 1; peer_port = 3 } ∷ record { switch = 1; port = 4; peer = 2; peer_port = 3 } ∷ record { switch = 0; port = 4; peer = 2; peer_port = 4 } ∷ [];
  deny = [];
})
whole =
    record {
      group = (0, omega arith, refl);
      some = omega arith;
      few = omega arith;
      ports = counts;
      few_links = omega arith;
      links = (
        ((omega arith, (48, refl, omega arith)), (omega arith, (4, refl, omega arith))),
        (((omega arith, (4, refl, omega arith)), (omega arith, (4, refl, omega arith))), (((omega arith, (48, refl, omega arith)), (omega arith, (4, refl, omega arith))), tt)),
      );
      apart = (refl, (refl, (refl, (refl, (refl, (refl, tt))))));
      few_rules = omega arith;
      rules = tt;
    }

pub returns : goal.returns
returns c =
    record {
      setup = rw (c.from_vec.ensures, c.in_ok-from_array.ensures.items, c.from_vec-2.ensures, c.in_ok-from_array-2.ensures.items, c.new.ensures) whole;
      switches = rw (c.from_vec.ensures, c.in_ok-from_array.ensures.items) refl;
    }

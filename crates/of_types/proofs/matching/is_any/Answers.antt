use Rattle.std.proofs.Common.{◌≡◌, refl}
use Rattle.std.proofs.Math.Bool.{and_assoc}
use Rattle.std.specs.Prelude.{Bool, Option, Some, None, is_none}
use Rattle.std.specs.Option.{option_eq}
use Rattle.of_types.proofs.matching.is_any.Goals as goal

is_none_eq : {T : Type 0} (E : T → T → Bool) (x : Option T) → option_eq E x None ≡ is_none x
is_none_eq E None = refl
is_none_eq E (Some x) = refl

pub returns : goal.returns
returns c = simp (and_assoc, is_none_eq, c.eq.ensures, c.any_match.ensures)

use Rattle.std.proofs.Common.{arith, ap, ◌∙◌}
use Rattle.std.specs.Prelude.{ℕ, List, nat_eq}
use Rattle.std.specs.List.{list_any}
use Rattle.of_types.proofs.Places.{places-any}
use Rattle.of_types.proofs.small_set.SmallSet.contains.Goals as goal

pub returns : goal.returns
returns c =
    places-any c.args.number 0 c.from.result c.self.inside.members (omega arith) (omega arith)
    ∙ ap (λ (numbers : List ℕ). list_any (λ n. nat_eq n c.args.number) numbers) c.self.view_is

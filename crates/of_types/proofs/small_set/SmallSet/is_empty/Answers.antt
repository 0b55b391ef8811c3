use Rattle.std.proofs.Common.{◌∙◌, ap, arith}
use Rattle.std.specs.Prelude.{nat_lt, length}
use Rattle.of_types.proofs.Places.{some-passed, some-found}
use Rattle.of_types.proofs.small_set.SmallSet.is_empty.Goals as goal

pub members-preserved : goal.members-preserved
members-preserved c =
    some-passed c.members.has_member c.members.is_member-index c.self.inside.members _ (omega arith) c.members.invariant

pub returns : goal.returns
returns c =
    some-found c.members.has_member c.members.is_member-index c.self.inside.members _ (omega arith)
    (c.members.invariant ∙ ap (λ numbers. nat_lt 0 (length numbers)) c.self.view_is)

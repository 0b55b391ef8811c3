use Rattle.std.proofs.Common.{◌∙◌, ap, sym, subst, take}
use Rattle.std.specs.Prelude.{ℕ, List}
use Rattle.of_types.specs.SmallSets.{AscendWithin}
use Rattle.of_switch.proofs.Ports.{ascend-take, ascend-all}
use Rattle.of_switch.proofs.switch.Switch.ports_to_tell.Goals as goal

pub returns-clause-within : goal.returns-clause-within
returns-clause-within c =
    let same = c.truncate.ensures.items ∙ ap (λ (ns : List ℕ). take c.args.room ns) c.in_ok-ports.ensures.ports in
    ascend-all 1 48 _ (subst (λ (ns : List ℕ). AscendWithin 1 48 ns) (sym same) (ascend-take c.args.room 1 48 _ c.dirty.ensures.lawful.ports))

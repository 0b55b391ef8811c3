use Rattle.std.proofs.Common.{rules, ℕ, not}
use Rattle.std.specs.Prelude.{nat_eq, ◌/◌, ◌||◌}
use Rattle.std.proofs.lemmas.Fn.{filter_same}
use Rattle.closing_quorum.proofs.Looking.{has, quorum_is}
use Rattle.closing_quorum.proofs.quorum_of.Goals as goal

pub returns : goal.returns
returns c =
    quorum_is c.args.primary (c.args.group / 2) c.args.up.now c.in_ok-chosen.chosen.items c.in_ok-members.members.items c.truncate.new.self.items c.retain.new.self.items c.retain-2.new.self.items
    c.in_ok-chosen.ensures.items c.in_ok-members.ensures.items
    (filter_same _ (λ (x : ℕ). not (nat_eq x c.args.primary)) _ (λ x b f' k. search rules) _ _ c.retain.ensures.filtered)
    c.truncate.ensures.items
    (filter_same _ (λ (x : ℕ). nat_eq x c.args.primary || has c.truncate.new.self.items x) _ (λ x b f' k. search rules) _ _ c.retain-2.ensures.filtered)

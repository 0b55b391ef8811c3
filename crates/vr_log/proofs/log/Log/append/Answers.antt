use Rattle.std.proofs.Common.{◌≡◌, ◌∙◌, true, List, sym, subst}
use Rattle.vr_log.specs.declared.entry.Entry.{Entry}
use Rattle.vr_log.specs.Log.{fits}
use Rattle.vr_log.proofs.Tallies.{joins_is, appended_is}
use Rattle.vr_log.proofs.log.Log.append.Goals as goal

pub add-requires : goal.add-requires
add-requires c =
    let f : fits c.self.inside.entries.items c.args.entry ≡ true = subst (λ (log : List Entry). fits log c.args.entry ≡ true) (sym c.self.view_is) c.requires in
    joins_is c.self.inside.entries.items c.self.inside.tally c.args.entry c.self.invariant.1 ∙ f

pub invariant_of-self-2 : goal.invariant_of-self-2
invariant_of-self-2 c =
    let f : fits c.self.inside.entries.items c.args.entry ≡ true = subst (λ (log : List Entry). fits log c.args.entry ≡ true) (sym c.self.view_is) c.requires in
    rw (c.push_reserved.ensures.items, c.reserve_one.ensures.same)
    (appended_is c.self.inside.entries.items c.self.inside.tally c.add.new.self c.args.entry c.self.invariant.0 c.self.invariant.1 f c.in_ok-add.ensures.ok)

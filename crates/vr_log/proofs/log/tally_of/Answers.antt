use Rattle.std.proofs.Common.{[], refl, sym, subst}
use Rattle.vr_log.specs.declared.tally.Tally.{Tally}
use Rattle.vr_log.specs.Tally.{IsTally}
use Rattle.vr_log.proofs.Logs.{no_log}
use Rattle.vr_log.proofs.Tallies.{no_tally, starts, goes_on, ends, joins_now}
use Rattle.vr_log.proofs.log.tally_of.Goals as goal

pub loop-entry-init : goal.loop-entry-init
loop-entry-init c = starts [] c.args.entries.now c.new-tally.result no_log (subst (λ (t : Tally). IsTally [] t) (sym c.new-tally.ensures) no_tally)

pub add-requires : goal.add-requires
add-requires c = joins_now [] c.args.entries.now c.loop-entry.entry-index c.loop-entry.tally c.entry-item.result c.loop-entry.invariant c.loop-entry-test.true c.entry-item.is c.requires

pub loop-entry-preserved : goal.loop-entry-preserved
loop-entry-preserved c =
    goes_on [] c.args.entries.now c.loop-entry.entry-index c.loop-entry.tally c.entry-item.result c.loop-entry.invariant c.loop-entry-test.true c.entry-item.is c.add.new.self
    (joins_now [] c.args.entries.now c.loop-entry.entry-index c.loop-entry.tally c.entry-item.result c.loop-entry.invariant c.loop-entry-test.true c.entry-item.is c.requires) c.in_ok-add.ensures.ok

pub returns : goal.returns
returns c = (ends [] c.args.entries.now c.loop-entry.entry-index c.loop-entry.tally c.loop-entry.invariant c.loop-entry-test.false).1 refl

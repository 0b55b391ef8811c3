use Rattle.std.proofs.Common.{map, sym, ◌∙◌, refl, arith, subst}
use Rattle.std.specs.Prelude.{string_bytes}
use Rattle.journal.specs.Causes.{Rose}
use Rattle.top_call.proofs.Complete.{calm_saves, complete, memoryless}
use Rattle.top_call.proofs.Endings.{in_range, memoryless_played, unwritten_played}
use Rattle.top_call.proofs.Tellings.{served, cut, nothing, line_served, line_cut, line_nothing, numbers_served, numbers_cut, numbers_nothing}
use Rattle.top_call.specs.Outcome.{IsUnplayed}
use Rattle.top_call.specs.Runs.{AreCalm, StablesTell}
use Rattle.top_call.proofs.top.ravana.Goals as goal

pub returns-in_default-clause-answer : goal.returns-in_default-clause-answer
returns-in_default-clause-answer g c = λ kinds chains. nothing kinds (StablesTell g.W.Stable.saving c.args.stables.now.items c.outcome.new.stables.items) _ _ _ _ _ _

pub returns-in_default-clause-audit : goal.returns-in_default-clause-audit
returns-in_default-clause-audit g c = λ _. (4, omega arith, refl)

pub returns-in_default-clause-complete : goal.returns-in_default-clause-complete
returns-in_default-clause-complete g c =
    λ kinds chains.
    memoryless kinds (map string_bytes c.args.words.now) (Rose (g.S.Source.faults c.args.source.now) (g.S.Source.faults c.outcome.new.source))
    (Rose (g.K.Sink.faults c.args.sink.now) (g.K.Sink.faults c.args.sink.now)) (AreCalm g.W.Stable.saving c.args.stables.now.items c.outcome.new.stables.items)
    (g.S.Source.left c.args.source.now) (g.S.Source.left c.outcome.new.source)

pub returns-in_default-clause-range : goal.returns-in_default-clause-range
returns-in_default-clause-range g c = (5, omega arith, refl)

pub returns-in_default-into_text-clause-answer : goal.returns-in_default-into_text-clause-answer
returns-in_default-into_text-clause-answer g c = λ kinds chains. nothing kinds (StablesTell g.W.Stable.saving c.args.stables.now.items c.outcome.new.stables.items) _ _ _ _ _ _

pub returns-in_default-into_text-clause-audit : goal.returns-in_default-into_text-clause-audit
returns-in_default-into_text-clause-audit g c = λ _. (4, omega arith, refl)

pub returns-in_default-into_text-clause-complete : goal.returns-in_default-into_text-clause-complete
returns-in_default-into_text-clause-complete g c =
    λ kinds chains.
    memoryless kinds (map string_bytes c.args.words.now) (Rose (g.S.Source.faults c.args.source.now) (g.S.Source.faults c.outcome.new.source))
    (Rose (g.K.Sink.faults c.args.sink.now) (g.K.Sink.faults c.args.sink.now)) (AreCalm g.W.Stable.saving c.args.stables.now.items c.outcome.new.stables.items)
    (g.S.Source.left c.args.source.now) (g.S.Source.left c.outcome.new.source)

pub returns-in_default-into_text-clause-range : goal.returns-in_default-into_text-clause-range
returns-in_default-into_text-clause-range g c = (5, omega arith, refl)

pub returns-in-Ok-write_to-clause-answer : goal.returns-in-Ok-write_to-clause-answer
returns-in-Ok-write_to-clause-answer g c =
    let saves = StablesTell g.W.Stable.saving c.args.stables.now.items c.outcome.new.stables.items in
    λ kinds chains. rw c.status-status.ensures (served kinds saves _ _ _ _ _ _ _ c.in-Ok.ending _ (c.in-Ok.ensures.cause kinds chains) c.in-Ok-into_text.ensures.ok c.in-Ok-write_to.ensures.ok)

pub returns-in-Ok-write_to-clause-complete : goal.returns-in-Ok-write_to-clause-complete
returns-in-Ok-write_to-clause-complete g c =
    λ kinds chains.
    let saves = StablesTell g.W.Stable.saving c.args.stables.now.items c.outcome.new.stables.items in
    rw c.status-status.ensures (complete kinds saves _ _ _ _ (calm_saves g.W.Stable.saving c.args.stables.now.items c.outcome.new.stables.items) _ _ _ _ _ (served kinds saves _ _ _ _ _ _ _ c.in-Ok.ending _ (c.in-Ok.ensures.cause kinds chains) c.in-Ok-into_text.ensures.ok c.in-Ok-write_to.ensures.ok))

pub returns-in-Ok-write_to-clause-audit : goal.returns-in-Ok-write_to-clause-audit
returns-in-Ok-write_to-clause-audit g c = λ is. rw c.status-status.ensures (c.in-Ok.ensures.told.audit is)

pub returns-in-Ok-write_to-clause-usage : goal.returns-in-Ok-write_to-clause-usage
returns-in-Ok-write_to-clause-usage g c = λ is. c.in-Ok.ensures.told.usage (sym c.status-status.ensures ∙ is)

pub returns-in-Ok-write_to-clause-words : goal.returns-in-Ok-write_to-clause-words
returns-in-Ok-write_to-clause-words g c = λ other. rw (c.status-status.ensures, c.in-Ok.ensures.told.others other) (0, omega arith, refl)

pub returns-in-Ok-write_to-clause-unread : goal.returns-in-Ok-write_to-clause-unread
returns-in-Ok-write_to-clause-unread g c = λ is. c.in-Ok.ensures.told.failed (sym c.status-status.ensures ∙ is)

pub returns-in-Ok-write_to-clause-range : goal.returns-in-Ok-write_to-clause-range
returns-in-Ok-write_to-clause-range g c = rw c.status-status.ensures (in_range c.in-Ok.ending)

pub returns-clause-answer : goal.returns-clause-answer
returns-clause-answer g c =
    let saves = StablesTell g.W.Stable.saving c.args.stables.now.items c.outcome.new.stables.items in
    λ kinds chains. cut kinds saves _ _ _ _ _ _ _ c.in-Ok.ending _ (c.in-Ok.ensures.cause kinds chains) c.in-Ok-into_text.ensures.ok c.in-Err.ensures.cause.failed c.in-Err.ensures.err

pub returns-clause-complete : goal.returns-clause-complete
returns-clause-complete g c =
    λ kinds chains.
    let saves = StablesTell g.W.Stable.saving c.args.stables.now.items c.outcome.new.stables.items in
    complete kinds saves _ _ _ _ (calm_saves g.W.Stable.saving c.args.stables.now.items c.outcome.new.stables.items) _ _ _ _ _ (cut kinds saves _ _ _ _ _ _ _ c.in-Ok.ending _ (c.in-Ok.ensures.cause kinds chains) c.in-Ok-into_text.ensures.ok c.in-Err.ensures.cause.failed c.in-Err.ensures.err)

pub returns-clause-audit : goal.returns-clause-audit
returns-clause-audit g c = λ _. (3, omega arith, refl)

pub returns-clause-range : goal.returns-clause-range
returns-clause-range g c = (4, omega arith, refl)

pub returns-clause-words : goal.returns-clause-words
returns-clause-words g c = λ _. (1, omega arith, refl)

pub returns-in_default-clause-made : goal.returns-in_default-clause-made
returns-in_default-clause-made g c = λ _. (2, omega arith, refl)

pub returns-in_default-clause-untouched : goal.returns-in_default-clause-untouched
returns-in_default-clause-untouched g c = λ unplayed. absurd (memoryless_played unplayed)

pub returns-in_default-clause-lines : goal.returns-in_default-clause-lines
returns-in_default-clause-lines g c = line_nothing _

pub returns-in_default-clause-numbers : goal.returns-in_default-clause-numbers
returns-in_default-clause-numbers g c = λ kinds chains. numbers_nothing kinds (StablesTell g.W.Stable.saving c.args.stables.now.items c.outcome.new.stables.items) _ _ _ _

pub returns-in_default-into_text-clause-made : goal.returns-in_default-into_text-clause-made
returns-in_default-into_text-clause-made g c = λ _. (2, omega arith, refl)

pub returns-in_default-into_text-clause-untouched : goal.returns-in_default-into_text-clause-untouched
returns-in_default-into_text-clause-untouched g c = λ unplayed. absurd (memoryless_played unplayed)

pub returns-in_default-into_text-clause-lines : goal.returns-in_default-into_text-clause-lines
returns-in_default-into_text-clause-lines g c = line_nothing _

pub returns-in_default-into_text-clause-numbers : goal.returns-in_default-into_text-clause-numbers
returns-in_default-into_text-clause-numbers g c = λ kinds chains. numbers_nothing kinds (StablesTell g.W.Stable.saving c.args.stables.now.items c.outcome.new.stables.items) _ _ _ _

pub returns-in-Ok-write_to-clause-made : goal.returns-in-Ok-write_to-clause-made
returns-in-Ok-write_to-clause-made g c = λ is. rw c.status-status.ensures (c.in-Ok.ensures.told.made is)

pub returns-in-Ok-write_to-clause-untouched : goal.returns-in-Ok-write_to-clause-untouched
returns-in-Ok-write_to-clause-untouched g c = λ unplayed. c.in-Ok.ensures.untouched (subst (λ s. IsUnplayed s) c.status-status.ensures unplayed)

pub returns-in-Ok-write_to-clause-lines : goal.returns-in-Ok-write_to-clause-lines
returns-in-Ok-write_to-clause-lines g c = rw c.status-status.ensures (line_served _ _ c.in-Ok.ending _ c.in-Ok-into_text.ensures.ok c.in-Ok-write_to.ensures.ok)

pub returns-in-Ok-write_to-clause-numbers : goal.returns-in-Ok-write_to-clause-numbers
returns-in-Ok-write_to-clause-numbers g c = λ kinds chains.
    rw c.status-status.ensures (numbers_served kinds (StablesTell g.W.Stable.saving c.args.stables.now.items c.outcome.new.stables.items) _ _ _ _ _ c.in-Ok.ending _ (c.in-Ok.ensures.numbers kinds chains) c.in-Ok-into_text.ensures.ok c.in-Ok-write_to.ensures.ok)

pub returns-clause-made : goal.returns-clause-made
returns-clause-made g c = λ _. (1, omega arith, refl)

pub returns-clause-untouched : goal.returns-clause-untouched
returns-clause-untouched g c = λ unplayed. absurd (unwritten_played unplayed)

pub returns-clause-lines : goal.returns-clause-lines
returns-clause-lines g c = line_cut _ _ _ c.in-Err.ensures.err

pub returns-clause-numbers : goal.returns-clause-numbers
returns-clause-numbers g c = λ kinds chains.
    numbers_cut kinds (StablesTell g.W.Stable.saving c.args.stables.now.items c.outcome.new.stables.items) _ _ _ _ _ c.in-Ok.ending _ (c.in-Ok.ensures.numbers kinds chains) c.in-Ok-into_text.ensures.ok c.in-Err.ensures.cause.failed c.in-Err.ensures.err

pub returns-in_default-clause-played : goal.returns-in_default-clause-played
returns-in_default-clause-played g c = λ _. (4, omega arith, refl)

pub returns-in_default-into_text-clause-played : goal.returns-in_default-into_text-clause-played
returns-in_default-into_text-clause-played g c = λ _. (4, omega arith, refl)

pub returns-in-Ok-write_to-clause-played : goal.returns-in-Ok-write_to-clause-played
returns-in-Ok-write_to-clause-played g c = λ is. rw c.status-status.ensures (c.in-Ok.ensures.told.played is)

pub returns-clause-played : goal.returns-clause-played
returns-clause-played g c = λ _. (3, omega arith, refl)

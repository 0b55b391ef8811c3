use Rattle.std.proofs.Common.{Some, map, refl, ap, sym, ◌∙◌, Err}
use Rattle.std.specs.Prelude.{Option, string_bytes}
use Rattle.top_call.specs.declared.sim.Output.TheVariants.{LastLine}
use Rattle.top_call.specs.declared.service.Service.{Service}
use Rattle.top_call.specs.declared.service.Service.TheVariants as service
use Rattle.top_call.specs.Runs.{StablesTell}
use Rattle.top_call.proofs.Endings.{job_served, made_caused, made_tells, read_caused, read_tells, unread_caused, unread_tells, usage_caused, usage_of_numbers, usage_tells, made_of_numbers, made_plays, read_no_made, read_of_numbers, reads_plays, reads_some}
use Rattle.top_call.proofs.Made.{made}
use Rattle.top_call.proofs.top.outcome.Goals as goal

abbrev some_of : Service → Option Service
some_of s = Some s

pub generate-requires-clause-group : goal.generate-requires-clause-group
generate-requires-clause-group g c = (made (map string_bytes c.args.words.now) c.in-Some-Gen.number c.in-Some-Gen.controllers c.in-Some-Gen.switches c.in-Some-Gen.frames (job_served (map string_bytes c.args.words.now) (service.Gen c.in-Some-Gen.number c.in-Some-Gen.controllers c.in-Some-Gen.switches c.in-Some-Gen.frames) (sym c.in-Some-Gen.ensures ∙ ap (λ s. some_of s) c.in-Some-Gen.field-0-is))).group

pub generate-requires-clause-some : goal.generate-requires-clause-some
generate-requires-clause-some g c = (made (map string_bytes c.args.words.now) c.in-Some-Gen.number c.in-Some-Gen.controllers c.in-Some-Gen.switches c.in-Some-Gen.frames (job_served (map string_bytes c.args.words.now) (service.Gen c.in-Some-Gen.number c.in-Some-Gen.controllers c.in-Some-Gen.switches c.in-Some-Gen.frames) (sym c.in-Some-Gen.ensures ∙ ap (λ s. some_of s) c.in-Some-Gen.field-0-is))).some

pub generate-requires-clause-few : goal.generate-requires-clause-few
generate-requires-clause-few g c = (made (map string_bytes c.args.words.now) c.in-Some-Gen.number c.in-Some-Gen.controllers c.in-Some-Gen.switches c.in-Some-Gen.frames (job_served (map string_bytes c.args.words.now) (service.Gen c.in-Some-Gen.number c.in-Some-Gen.controllers c.in-Some-Gen.switches c.in-Some-Gen.frames) (sym c.in-Some-Gen.ensures ∙ ap (λ s. some_of s) c.in-Some-Gen.field-0-is))).few

pub generate-requires-clause-short : goal.generate-requires-clause-short
generate-requires-clause-short g c = (made (map string_bytes c.args.words.now) c.in-Some-Gen.number c.in-Some-Gen.controllers c.in-Some-Gen.switches c.in-Some-Gen.frames (job_served (map string_bytes c.args.words.now) (service.Gen c.in-Some-Gen.number c.in-Some-Gen.controllers c.in-Some-Gen.switches c.in-Some-Gen.frames) (sym c.in-Some-Gen.ensures ∙ ap (λ s. some_of s) c.in-Some-Gen.field-0-is))).short

pub returns-in-None-clause-cause : goal.returns-in-None-clause-cause
returns-in-None-clause-cause g c = λ kinds chains. usage_caused kinds (StablesTell g.W.Stable.saving c.args.stables.now.items c.args.stables.now.items) _ _ _ _ (sym c.in-None.ensures)

pub returns-in-None-clause-told : goal.returns-in-None-clause-told
returns-in-None-clause-told g c = usage_tells _ _ _ (sym c.in-None.ensures) refl

pub returns-in-Some-Gen-clause-cause : goal.returns-in-Some-Gen-clause-cause
returns-in-Some-Gen-clause-cause g c = λ kinds chains.
    made_caused kinds (StablesTell g.W.Stable.saving c.args.stables.now.items c.end_of_scenario.new.stables.items) (map string_bytes c.args.words.now) _ _ _ c.in-Some-Gen.number c.in-Some-Gen.controllers c.in-Some-Gen.switches c.in-Some-Gen.frames c.in_ok-scenario-in-Some-Gen.scenario c.end_of_scenario.result (sym c.in-Some-Gen.ensures ∙ ap (λ s. some_of s) c.in-Some-Gen.field-0-is) refl c.in_ok-scenario-in-Some-Gen.ensures.exact
    (c.end_of_scenario.ensures.ends kinds chains)

pub returns-in-Some-Gen-clause-told : goal.returns-in-Some-Gen-clause-told
returns-in-Some-Gen-clause-told g c =
    let kinds = c.requires.chains.0 in
    made_tells (map string_bytes c.args.words.now) _ _ kinds (StablesTell g.W.Stable.saving c.args.stables.now.items c.end_of_scenario.new.stables.items) c.in-Some-Gen.number c.in-Some-Gen.controllers c.in-Some-Gen.switches c.in-Some-Gen.frames c.in_ok-scenario-in-Some-Gen.scenario LastLine c.end_of_scenario.result (sym c.in-Some-Gen.ensures ∙ ap (λ s. some_of s) c.in-Some-Gen.field-0-is) refl
    (c.end_of_scenario.ensures.ends kinds c.requires.chains.1)

pub returns-in-Ok-clause-cause : goal.returns-in-Ok-clause-cause
returns-in-Ok-clause-cause g c = λ kinds chains.
    let saves = StablesTell g.W.Stable.saving c.args.stables.now.items c.end_of_reading.new.stables.items in
    read_caused kinds saves (map string_bytes c.args.words.now) _ c.in-Some-Reads.reader _ _ _ _ _ (sym c.in-Some-Reads.ensures ∙ ap (λ s. some_of s) c.in-Some-Reads.field-0-is) c.limit.ensures c.in-Ok.ensures.consumed c.in-Ok.ensures.whole c.in-Ok.ensures.most
    (c.end_of_reading.ensures.ends kinds chains)

pub returns-in-Ok-clause-told : goal.returns-in-Ok-clause-told
returns-in-Ok-clause-told g c =
    let kinds = c.requires.chains.0 in
    read_tells (map string_bytes c.args.words.now) _ _ kinds (StablesTell g.W.Stable.saving c.args.stables.now.items c.end_of_reading.new.stables.items) c.in-Some-Reads.reader _ _ (sym c.in-Some-Reads.ensures ∙ ap (λ s. some_of s) c.in-Some-Reads.field-0-is) (c.in-Ok.ensures.served (λ e. cc)) (c.end_of_reading.ensures.ends kinds c.requires.chains.1)

pub returns-in-Err-Failed-clause-cause : goal.returns-in-Err-Failed-clause-cause
returns-in-Err-Failed-clause-cause g c = λ kinds chains.
    unread_caused kinds (StablesTell g.W.Stable.saving c.args.stables.now.items c.args.stables.now.items) (map string_bytes c.args.words.now) _ c.in-Some-Reads.reader _ _ (sym c.in-Some-Reads.ensures ∙ ap (λ s. some_of s) c.in-Some-Reads.field-0-is) (c.in-Err-Failed.ensures.cause (ap (λ f. Err f) c.in-Err-Failed.field-0-is))

pub returns-in-Err-Failed-clause-told : goal.returns-in-Err-Failed-clause-told
returns-in-Err-Failed-clause-told g c = unread_tells (map string_bytes c.args.words.now) _ _ c.in-Some-Reads.reader (sym c.in-Some-Reads.ensures ∙ ap (λ s. some_of s) c.in-Some-Reads.field-0-is) (c.in-Err-Failed.ensures.cause (ap (λ f. Err f) c.in-Err-Failed.field-0-is))

pub returns-in-None-clause-numbers : goal.returns-in-None-clause-numbers
returns-in-None-clause-numbers g c = λ kinds chains. usage_of_numbers kinds (StablesTell g.W.Stable.saving c.args.stables.now.items c.args.stables.now.items) (map string_bytes c.args.words.now) _ (sym c.in-None.ensures)

pub returns-in-Some-Gen-clause-numbers : goal.returns-in-Some-Gen-clause-numbers
returns-in-Some-Gen-clause-numbers g c = λ kinds chains.
    made_of_numbers kinds (StablesTell g.W.Stable.saving c.args.stables.now.items c.end_of_scenario.new.stables.items) (map string_bytes c.args.words.now) _ c.in-Some-Gen.number c.in-Some-Gen.controllers c.in-Some-Gen.switches c.in-Some-Gen.frames c.in_ok-scenario-in-Some-Gen.scenario c.end_of_scenario.result (sym c.in-Some-Gen.ensures ∙ ap (λ s. some_of s) c.in-Some-Gen.field-0-is) c.in_ok-scenario-in-Some-Gen.ensures.exact
    (c.end_of_scenario.ensures.ends kinds chains)

pub returns-in-Ok-clause-numbers : goal.returns-in-Ok-clause-numbers
returns-in-Ok-clause-numbers g c = λ kinds chains.
    read_of_numbers kinds (StablesTell g.W.Stable.saving c.args.stables.now.items c.end_of_reading.new.stables.items) (map string_bytes c.args.words.now) _ c.in-Some-Reads.reader c.end_of_reading.result (sym c.in-Some-Reads.ensures ∙ ap (λ s. some_of s) c.in-Some-Reads.field-0-is)

pub returns-in-Some-Gen-clause-unplayed : goal.returns-in-Some-Gen-clause-unplayed
returns-in-Some-Gen-clause-unplayed g c = λ nothing. made_plays (map string_bytes c.args.words.now) c.in-Some-Gen.number c.in-Some-Gen.controllers c.in-Some-Gen.switches c.in-Some-Gen.frames (sym c.in-Some-Gen.ensures ∙ ap (λ s. some_of s) c.in-Some-Gen.field-0-is) nothing

pub returns-in-Ok-clause-unread : goal.returns-in-Ok-clause-unread
returns-in-Ok-clause-unread g c = λ nothing. reads_some (map string_bytes c.args.words.now) c.in-Some-Reads.reader (sym c.in-Some-Reads.ensures ∙ ap (λ s. some_of s) c.in-Some-Reads.field-0-is) nothing

pub returns-in-Ok-clause-unplayed : goal.returns-in-Ok-clause-unplayed
returns-in-Ok-clause-unplayed g c = λ nothing. c.end_of_reading.ensures.audited (reads_plays (map string_bytes c.args.words.now) c.in-Some-Reads.reader (sym c.in-Some-Reads.ensures ∙ ap (λ s. some_of s) c.in-Some-Reads.field-0-is) nothing)

pub returns-in-Err-Failed-clause-unread : goal.returns-in-Err-Failed-clause-unread
returns-in-Err-Failed-clause-unread g c = λ nothing. reads_some (map string_bytes c.args.words.now) c.in-Some-Reads.reader (sym c.in-Some-Reads.ensures ∙ ap (λ s. some_of s) c.in-Some-Reads.field-0-is) nothing

pub returns-in-Err-Failed-clause-numbers : goal.returns-in-Err-Failed-clause-numbers
returns-in-Err-Failed-clause-numbers g c = λ kinds chains.
    λ made. read_no_made (map string_bytes c.args.words.now) (Unit {0}) (Unit {0}) c.in-Some-Reads.reader (sym c.in-Some-Reads.ensures ∙ ap (λ s. some_of s) c.in-Some-Reads.field-0-is) made

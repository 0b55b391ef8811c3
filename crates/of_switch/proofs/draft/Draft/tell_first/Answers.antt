use Rattle.std.proofs.Common.{◌∙◌, List, ◌++◌, ◌-◌, length, take, append_assoc, ap}
use Rattle.of_types.specs.declared.message.Event.{Event}
use Rattle.journal.specs.declared.journal.Letter.{Letter}
use Rattle.of_switch.specs.declared.says.SwitchSays.{SwitchSays}
use Rattle.of_switch.specs.contracts.draft.Draft.{the_view}
use Rattle.of_switch.specs.Drafts.{Draft, with_first}
use Rattle.of_switch.specs.Events.{window, event_letters}
use Rattle.of_switch.proofs.Ticks.{first-told}
use Rattle.of_switch.proofs.draft.Draft.tell_first.Goals as goal

pub returns : goal.returns
returns c =
    let d : Draft = the_view c.self.inside in
    let held = c.args.held.now in
    let old = c.first-old.ensures in
    let new =
    c.first-new.ensures
    ∙ ap (λ (es : List Event). take (window - length c.first-old.result.now) es) c.deref.ensures.value
    ∙ ap (λ (es : List Event). take (window - length es) d.raised) old in
    let letters =
    c.in_ok-push_events-2.ensures.ok
    ∙ ap (λ (ls : List (Letter SwitchSays)). ls ++ event_letters d.master c.first-new.result.now) c.in_ok-push_events.ensures.ok
    ∙ ap (λ (es : List Event). (d.letters ++ event_letters d.master es) ++ event_letters d.master c.first-new.result.now) old
    ∙ ap (λ (es : List Event). (d.letters ++ event_letters d.master (take window held)) ++ event_letters d.master es) new
    ∙ append_assoc d.letters (event_letters d.master (take window held)) (event_letters d.master (take (window - length (take window held)) d.raised))
    ∙ ap (λ (ls : List (Letter SwitchSays)). d.letters ++ ls) (first-told d.master held d.raised) in
    ap (λ (ls : List (Letter SwitchSays)). record d { letters = ls }) letters ∙ ap (λ (x : Draft). with_first held x) c.self.view_is

use Rattle.std.proofs.Common.{◌∙◌, ap}
use Rattle.event_buffer.specs.Buffer.{without_events_below}
use Rattle.of_switch.specs.State.{SwitchState}
use Rattle.of_switch.specs.Events.{cleared}
use Rattle.of_switch.specs.Drafts.{drafted, forgetting}
use Rattle.of_switch.proofs.Turns.{drafted-switch, forgets-joined, forgotten-switch}
use Rattle.of_switch.proofs.switch.Switch.acknowledge.Goals as goal

pub invariant_of-self-2 : goal.invariant_of-self-2
invariant_of-self-2 c =
    rw (
      c.forget_all.ensures,
      c.in_ok-replace.ensures.ok,
      forgets-joined c.args.ports.now (without_events_below c.self.inside.history.buffer c.args.through) c.into_parts-events.result.events.items,
      c.into_parts-events.ensures.events,
      c.into_parts-events.ensures.sent,
    )
    (drafted-switch _ c.args.draft (forgotten-switch c.args.ports.now _ c.args.through c.self.invariant))

pub returns-clause-ok : goal.returns-clause-ok
returns-clause-ok c =
    rw (
      c.forget_all.ensures,
      c.in_ok-replace.ensures.ok,
      forgets-joined c.args.ports.now (without_events_below c.self.inside.history.buffer c.args.through) c.into_parts-events.result.events.items,
      c.into_parts-events.ensures.events,
      c.into_parts-events.ensures.sent,
    )
    (record {
      state_is = ap (λ (s : SwitchState). (drafted (forgetting c.args.ports.now (cleared s c.args.through)) c.args.draft).state) c.self.view_is;
      letters_are = c.from_vec.ensures ∙ c.into_parts-events.ensures.letters;
    })

-- A switch holds what it made in its present life, but for what has left.
use Rattle.journal.specs.declared.journal.Actor.TheVariants as actor
use Rattle.journal.specs.Part.{part}
use Rattle.closing_laws.specs.Held.{EventsAreKept}
use Rattle.closing_laws.proofs.Truths.SwitchPasts.{order_now}

pub kept_law : {B : Type 0} → EventsAreKept B
kept_law scene entries setup s there = (order_now scene setup s there (part (actor.Switch s) entries)).0.are_held.held_is

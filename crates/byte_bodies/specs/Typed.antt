-- A body that is its message, in the place of the message's bytes.
use Rattle.run_spec.specs.declared.messages.Message.{Message}

pub record Typed : Type 0 where
  pub message : Message

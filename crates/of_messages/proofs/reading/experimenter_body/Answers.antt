use Rattle.std.proofs.Common.{List, ℕ, drop, Result, Ok, ap, sym, ◌∙◌, arith}
use Rattle.std.proofs.lemmas.List.{take_rest}
use Rattle.of_bytes.specs.Numbers.{number}
use Rattle.of_types.specs.declared.message.OfMessage.{OfMessage}
use Rattle.of_types.specs.declared.message.OfMessage.TheVariants as plain
use Rattle.of_types.specs.declared.refusal.Refusal.{Refusal}
use Rattle.of_messages.proofs.Again.{message_again}
use Rattle.of_messages.proofs.Laws.{experimenter_spelled}
use Rattle.of_messages.proofs.reading.experimenter_body.Goals as goal

abbrev read : List ℕ → Result OfMessage Refusal
read body = Ok (plain.Experimenter body)

pub returns-then-is_experimenter-clause-found : goal.returns-then-is_experimenter-clause-found
returns-then-is_experimenter-clause-found c =
    let frame = c.args.frame.now in
    message_again frame (number 4 4 frame) (plain.Experimenter (drop 8 frame)) (c.is_experimenter.ensures.0 c.if-is_experimenter.true)
    ∙ ap read (sym (take_rest frame 8))

pub returns-else-is_experimenter-clause-only : goal.returns-else-is_experimenter-clause-only
returns-else-is_experimenter-clause-only c = λ body e.
    sym c.if-is_experimenter.false
    ∙ c.is_experimenter.ensures.1 (experimenter_spelled c.args.frame.now body (λ i. omega (arith, c.type_inv.frame i)) e)

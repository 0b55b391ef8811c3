use Rattle.std.proofs.Common.{ℕ, set, false, true, arith, ap, ◌∙◌, length, List, Bool, get_or, sym, take_all}
use Rattle.std.specs.Prelude.{not}
use Rattle.std.proofs.lemmas.List.{get_or-replicate, length-replicate, length-set}
use Rattle.app_core.specs.declared.issued.Issued.{Issued}
use Rattle.dispatcher.specs.Ledger.{has_told}
use Rattle.dispatcher.proofs.Telling.{told_more_yes, told_more_no}
use Rattle.dispatcher.proofs.commands.told_switches.Goals.{then-not-has_ended, else-not-has_ended}
use Rattle.dispatcher.proofs.commands.told_switches.Goals as goal

pub loop-command-init : goal.loop-command-init
loop-command-init c = (length-replicate 256 false, λ switch small. get_or-replicate 256 switch false false small)

pub loop-command-preserved : goal.loop-command-preserved
loop-command-preserved c =
    let ledger = c.args.ledger.now in
    let commands = c.args.commands.now in
    let index = c.loop-command.command-index in
    let command = c.command-item.result in
    let size = c.loop-command.invariant.0 in
    let before = c.loop-command.invariant.1 in
    elim c.if-not-has_ended.branch [
      | then-not-has_ended w ↦ (
        ap (λ (told : List Bool). length told) w.told-is ∙ length-set c.loop-command.told w.from.result true ∙ size,
        λ switch small.
            ap (λ (told : List Bool). get_or told switch false) w.told-is
            ∙ ap (λ (place : ℕ). get_or (set c.loop-command.told place true) switch false) w.from.ensures
            ∙ told_more_yes ledger commands index command c.loop-command-test.true c.command-item.is c.loop-command.told switch (omega (arith, size))
            (ap not (sym c.has_ended.ensures ∙ w.if-not-has_ended.true)) (before switch small),
      )
      | else-not-has_ended w ↦ (
        ap (λ (told : List Bool). length told) w.told-is ∙ size,
        λ switch small.
            ap (λ (told : List Bool). get_or told switch false) w.told-is
            ∙ told_more_no ledger commands index command c.loop-command-test.true c.command-item.is c.loop-command.told switch
            (ap not (sym c.has_ended.ensures ∙ w.if-not-has_ended.false)) (before switch small),
      )
    ]

pub returns : goal.returns
returns c = λ switch small. c.loop-command.invariant.1 switch small ∙ ap (λ (l : List Issued). has_told c.args.ledger.now l switch) (take_all c.loop-command.command-index c.args.commands.now (omega arith))

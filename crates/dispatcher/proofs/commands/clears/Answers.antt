use Rattle.std.proofs.Common.{◌≡◌, ℕ, ◌+◌, ◌-◌, false, get_or, sym, ◌∙◌, ap, ◌++◌, ◌∷◌, [], List, map, filter, arith}
use Rattle.std.specs.List.{range_with_len}
use Rattle.dispatcher.specs.Few.{values_in}
use Rattle.dispatcher.specs.Ledger.{cleared_of_life, has_told}
use Rattle.dispatcher.specs.declared.answers.AckThrough.{AckThrough}
use Rattle.dispatcher.proofs.Telling.{none_told, told_yes, told_no}
use Rattle.dispatcher.proofs.commands.clears.Goals.{then-told-from+in_ok-push, else-told-from}
use Rattle.dispatcher.proofs.commands.clears.Goals as goal

pub loop-switch-init : goal.loop-switch-init
loop-switch-init c =
    let ledger = c.args.ledger.now in
    let commands = c.args.commands.now in
    let first = c.span_of-first.result.0 in
    let all : 0 + first ≡ first = omega arith in (
      c.span_of-first.ensures.within.0,
      sym (none_told ledger commands 0 first (λ k from below. c.span_of-first.ensures.below k (omega arith)))
          ∙ ap (λ (n : ℕ). map (cleared_of_life ledger) (filter (has_told ledger commands) (range_with_len 0 n))) all,
    )

pub loop-switch-preserved : goal.loop-switch-preserved
loop-switch-preserved c =
    let told = sym (c.told_switches-told.ensures c.loop-switch.switch (omega arith)) ∙ ap (λ (n : ℕ). get_or c.told_switches-told.result n false) (sym c.from.ensures) in
    let within = c.span_of-first.ensures.within in (
      omega arith,
      elim c.if-told-from.branch [
        | then-told-from+in_ok-push w ↦
            ap (λ v. values_in v) w.list-is ∙ w.in_ok-push.ensures ∙ ap (λ (l : List AckThrough). l ++ w.cleared.result ∷ []) c.loop-switch.invariant.1
            ∙ ap (λ (t : AckThrough). map (cleared_of_life c.args.ledger.now) (filter (has_told c.args.ledger.now c.args.commands.now) (range_with_len 0 c.loop-switch.switch)) ++ t ∷ []) w.cleared.ensures ∙ sym (told_yes c.args.ledger.now c.args.commands.now c.loop-switch.switch (told ∙ w.if-told-from.true))
        | else-told-from w ↦
            ap (λ v. values_in v) w.list-is ∙ c.loop-switch.invariant.1 ∙ sym (told_no c.args.ledger.now c.args.commands.now c.loop-switch.switch (told ∙ w.if-told-from.false))
      ],
    )

pub returns : goal.returns
returns c =
    let ledger = c.args.ledger.now in
    let commands = c.args.commands.now in
    let switch = c.loop-switch.switch in
    let within = c.loop-switch.invariant.0 in
    let all : switch + (c.args.switches - switch) ≡ c.args.switches = omega arith in
    c.loop-switch.invariant.1
    ∙ sym (none_told ledger commands switch (c.args.switches - switch) (λ k from below. c.span_of-first.ensures.above k (omega arith) (omega arith)))
    ∙ ap (λ (n : ℕ). map (cleared_of_life ledger) (filter (has_told ledger commands) (range_with_len 0 n))) all

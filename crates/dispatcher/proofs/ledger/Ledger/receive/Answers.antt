use Rattle.std.proofs.Common.{◌≡◌, ℕ, ◌+◌, min, refl, ap, ◌∙◌, [], ◌∷◌, ◌++◌, length}
use Rattle.dispatcher.specs.declared.ledger.Ledger.{Ledger}
use Rattle.dispatcher.specs.Ledger.{most_count}
use Rattle.dispatcher.proofs.Ledgers.{received_is}
use Rattle.dispatcher.proofs.ledger.Ledger.receive.Goals as goal

pub returns : goal.returns
returns c = λ kinds setup log kept fits reacts few.
    let old : Ledger = c.args.self.now in
    let middle : Ledger = record old { lives = c.begin.new.self } in
    let given : Ledger = c.issue_each.new.self in
    let new : Ledger = record given { unsettled = c.saturating_add-self.result; pending = c.push_back.new.self } in
    let b = c.in_ok-commands.ensures in let p = c.in_ok-push_back.ensures.items in
    let counted : min (given.unsettled + c.len.result) most_count ≡ min (old.unsettled + length c.in_ok-commands.commands) most_count =
    ap (λ (n : ℕ). min (given.unsettled + n) most_count) c.len.ensures ∙ ap (λ (l : Ledger). min (l.unsettled + length c.in_ok-commands.commands) most_count) b.same in
    received_is kinds setup log c.args.event.now old middle new c.args.commands c.in_ok-commands.commands kept fits reacts few c.begin.ensures refl b.issued
    (ap (λ (l : Ledger). l.lives) b.same)
    (p ∙ ap (λ (l : Ledger). l.pending.items ++ record { switch = c.args.event.now.switch; life = c.args.event.now.life; commands = c.in_ok-commands.commands } ∷ []) b.same) (ap (λ (l : Ledger). l.processed) b.same)
    (c.saturating_add-self.ensures ∙ counted)

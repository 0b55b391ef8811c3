use Rattle.std.proofs.Common.{◌≡◌, ◌<◌, ℕ, ◌+◌, ◌-◌, ◌^◌, List, ◌++◌, length, sym, subst, ap, ◌∙◌}
use Rattle.std.proofs.lemmas.List.{nil_from_length}
use Rattle.of_types.specs.declared.message.Event.{Event}
use Rattle.app_core.specs.declared.issued.Issued.{Issued}
use Rattle.dispatcher.specs.declared.ledger.Ledger.{Ledger}
use Rattle.dispatcher.specs.Ledger.{AreCounts}
use Rattle.dispatcher.proofs.Ledgers.{processed_is, stays_pending}
use Rattle.dispatcher.proofs.ledger.Ledger.process.Goals as goal

pub returns-in_default : goal.returns-in_default
returns-in_default c = λ kinds setup log j kept fits.
    absurd (stays_pending kinds setup log j c.args.self.now kept fits (nil_from_length c.args.self.now.pending.items (sym c.args.self.now.pending.ok.0 ∙ c.in_default.ensures.cases.0)))

pub returns : goal.returns
returns c = λ kinds setup log j kept fits.
    let counted = c.in_ok-count_processed.ensures in let settled = c.in_ok-settle_each.ensures in
    let same : c.settle_each.new.self ≡ record c.args.self.now { counts = c.settle_each.new.self.counts; pending = c.pop_front.new.self; processed = c.saturating_add-self.result } =
    settled.same ∙ ap (λ (l : Ledger). record l { counts = c.settle_each.new.self.counts }) counted.same in
    let new : Ledger = record c.settle_each.new.self { unsettled = c.saturating_sub-self.result } in
    processed_is kinds setup log j c.in-Some.handled c.pop_front.new.self.items c.args.self.now new c.count_processed.new.self.counts kept fits
    c.in-Some.ensures.items counted.counted
    (subst (λ (l : List Issued). (events : List Event) (issued settled : List Issued) → AreCounts events issued settled c.count_processed.new.self.counts → length settled + length l < 2 ^ 64 →
    AreCounts events issued (settled ++ l) c.settle_each.new.self.counts) c.as_slice.ensures settled.settled)
    (ap (λ (l : Ledger). l.pending.items) same) (ap (λ (l : Ledger). l.processed) same ∙ c.saturating_add-self.ensures) (ap (λ (l : Ledger). l.lives) same)
    (c.saturating_sub-self.ensures ∙ ap (λ (l : Ledger). l.unsettled - c.len.result) same ∙ ap (λ (n : ℕ). c.args.self.now.unsettled - n) c.len.ensures)

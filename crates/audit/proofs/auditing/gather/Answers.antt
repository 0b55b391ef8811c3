use Rattle.std.proofs.Common.{◌≡◌, ℕ, List, length, ap, ◌∙◌, arith}
use Rattle.of_types.specs.declared.message.Event.{Event}
use Rattle.vr_log.specs.Log.{received}
use Rattle.vr_log.proofs.Logs.{length_is}
use Rattle.report.specs.declared.record.SwitchRecord.{SwitchRecord}
use Rattle.app_core.specs.Chain.{reactions}
use Rattle.audit.specs.Judging.{is_told_as_executed, is_executed}
use Rattle.audit.proofs.Judged.{gathered_names, gathered_orders}
use Rattle.audit.proofs.auditing.gather.Goals as goal

pub overflow_sub-processed : goal.overflow_sub-processed
overflow_sub-processed g c =
    let log = c.args.lines.now.log in
    let events = ap (λ (l : List Event). length l) (c.in_ok-received.ensures ∙ ap received c.as_slice.ensures) in
    let a = length_is log in let b = c.len.ensures in let d = c.len-2.ensures in
    omega (arith, events, a, b, d)

pub returns-clause-evidence : goal.returns-clause-evidence
returns-clause-evidence g c =
    let r = c.args.lines.now in
    let kinds = g.A.App.law.kinds c.args.app.now in
    let events : c.in_ok-received.received ≡ received r.log = c.in_ok-received.ensures ∙ ap received c.as_slice.ensures in
    let lists : c.in_ok-lists.lists.items ≡ reactions kinds r.setup (received r.log) =
    c.in_ok-lists.ensures.each r.setup c.in_ok-start.ensures.suits
    ∙ ap (λ (ks : List ℕ). reactions ks r.setup c.as_slice-2.result.now) c.in_ok-start.ensures.kinds
    ∙ ap (λ (l : List Event). reactions kinds r.setup l) (c.as_slice-2.ensures ∙ events) in
    record {
      told = λ i. c.in_ok-told.ensures i ∙ ap (λ (l : List Event). is_told_as_executed l c.as_slice-4.result.now i) events ∙ ap (λ (l : List SwitchRecord). is_told_as_executed (received r.log) l i) c.as_slice-4.ensures;
      executed = λ q. c.in_ok-executed.ensures q ∙ ap (λ (l : List SwitchRecord). is_executed 0 l q) c.as_slice-5.ensures;
      names = gathered_names kinds r.setup (received r.log) c.as_slice-3.result.now c.in_ok-lists.lists.items c.in_ok-issued.issued.names (c.as_slice-3.ensures ∙ events) lists c.in_ok-issued.ensures.names;
    }

pub returns-clause-committed : goal.returns-clause-committed
returns-clause-committed g c =
    let r = c.args.lines.now in
    let kinds = g.A.App.law.kinds c.args.app.now in
    let events : c.in_ok-received.received ≡ received r.log = c.in_ok-received.ensures ∙ ap received c.as_slice.ensures in
    let lists : c.in_ok-lists.lists.items ≡ reactions kinds r.setup (received r.log) =
    c.in_ok-lists.ensures.each r.setup c.in_ok-start.ensures.suits
    ∙ ap (λ (ks : List ℕ). reactions ks r.setup c.as_slice-2.result.now) c.in_ok-start.ensures.kinds
    ∙ ap (λ (l : List Event). reactions kinds r.setup l) (c.as_slice-2.ensures ∙ events) in
    record {
      events = events;
      finished =
          let long = ap (λ (l : List Event). length l) events in
          let a = length_is r.log in let b = c.len.ensures in let d = c.len-2.ensures in
          omega (arith, long, a, b, d);
      orders = gathered_orders kinds r.setup (received r.log) c.as_slice-3.result.now c.in_ok-lists.lists.items c.in_ok-issued.issued.orders (c.as_slice-3.ensures ∙ events) lists c.in_ok-issued.ensures.orders;
    }

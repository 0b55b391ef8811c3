use Rattle.std.proofs.Common.{◌∙◌, true, false, length, List, sym, ap}
use Rattle.std.specs.Prelude.{ℕ, flat_map}
use Rattle.of_switch.specs.Forwarding.{over_links}
use Rattle.of_switch.specs.Drafts.{with_letters}
use Rattle.of_switch.proofs.Ports.{only-up, no-letters, one-list}
use Rattle.of_switch.proofs.switch.Switch.send_by.Goals as goal

pub returns-then-not-is_up-clause-count : goal.returns-then-not-is_up-clause-count
returns-then-not-is_up-clause-count c =
    sym (ap (λ (ps : List ℕ). length ps) (only-up c.args.self.now c.args.port false (sym c.is_up.ensures ∙ c.if-not-is_up.true)))

pub returns-then-not-is_up-clause-letters : goal.returns-then-not-is_up-clause-letters
returns-then-not-is_up-clause-letters c =
    no-letters c.args.draft.now
    ∙ ap (λ (ps : List ℕ). with_letters c.args.draft.now (flat_map (over_links c.args.self.now c.args.frame.now) ps))
    (sym (only-up c.args.self.now c.args.port false (sym c.is_up.ensures ∙ c.if-not-is_up.true)))

pub returns-clause-count : goal.returns-clause-count
returns-clause-count c =
    sym (ap (λ (ps : List ℕ). length ps) (only-up c.args.self.now c.args.port true (sym c.is_up.ensures ∙ c.if-not-is_up.false)))

pub returns-clause-letters : goal.returns-clause-letters
returns-clause-letters c =
    c.in_ok-send_over_links.ensures
    ∙ one-list c.args.self.now c.args.frame.now c.args.port c.args.draft.now
    ∙ ap (λ (ps : List ℕ). with_letters c.args.draft.now (flat_map (over_links c.args.self.now c.args.frame.now) ps))
    (sym (only-up c.args.self.now c.args.port true (sym c.is_up.ensures ∙ c.if-not-is_up.false)))

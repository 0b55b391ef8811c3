use Rattle.std.proofs.Common.{◌≡◌, ◌∙◌, ◌++◌, ◌∷◌, [], List, ap, sym}
use Rattle.std.specs.Prelude.{ℕ}
use Rattle.of_types.specs.declared.message.Executed.{Executed}
use Rattle.of_types.specs.declared.message.Order.{Order}
use Rattle.of_types.specs.declared.message.Order.TheVariants as order
use Rattle.journal.specs.declared.journal.Letter.{Letter}
use Rattle.of_switch.specs.declared.says.SwitchSays.{SwitchSays}
use Rattle.of_switch.specs.contracts.switch.Switch.{the_view}
use Rattle.of_switch.specs.State.{SwitchState, SwitchTurn, posts, life_of}
use Rattle.of_switch.specs.Commands.{letter_of_result, executes, settled, result_of}
use Rattle.of_switch.specs.Drafts.{Draft, draft_of, sent_as}
use Rattle.of_switch.proofs.Turns.{packet-executed}
use Rattle.of_switch.proofs.switch.Switch.send_packet.Goals as goal
use Rattle.of_switch.proofs.switch.Switch.send_packet.Goals.{After-drop-parts}

-- the switch has done it
turn-is : (c : After-drop-parts) →
    posts (record (the_view c.self.inside) { sent = c.into_parts-parts.result.sent; results = c.count.new.results; executed = c.push_reserved.new.self.items }) c.from_vec.result
    ≡ executes (settled c.args.self.now c.args.command.settled) c.args.command.from c.args.command.generation c.args.command.number (order.PacketOut c.args.out)
turn-is c =
    let s : SwitchState = the_view c.self.inside in
    let what : Order = order.PacketOut c.args.out in
    let result = c.packet_result-outcome.result in
    let is : result ≡ result_of s what = c.packet_result-outcome.ensures.result ∙ ap (λ (x : SwitchState). result_of x what) (sym c.self.view_is) in
    let sends : c.in_ok-draft.draft ≡ sent_as s result c.args.out (draft_of s) =
    c.in_ok-draft.ensures ∙ ap (λ (x : SwitchState). sent_as x result c.args.out (draft_of x)) (sym c.self.view_is) in
    let life : c.life-life.result ≡ life_of s = c.life-life.ensures ∙ ap life_of (sym c.self.view_is) in
    let sent = c.into_parts-parts.ensures.sent ∙ ap (λ (d : Draft). d.sent) c.in_ok-say.ensures ∙ ap (λ (d : Draft). d.sent) sends in
    let executed =
    c.push_reserved.ensures.items
    ∙ ap (λ (xs : List Executed). xs ++ c.executed.result ∷ []) c.in_ok-reserve.ensures.items
    ∙ ap (λ (x : Executed). s.executed ++ x ∷ [])
    (c.executed.ensures
    ∙ ap (λ (l : ℕ). record { life = l; number = c.args.command.number; generation = c.args.command.generation; from = c.args.command.from; order = what }) life) in
    let letters =
    c.from_vec.ensures
    ∙ c.into_parts-parts.ensures.letters
    ∙ ap (λ (d : Draft). d.letters) c.in_ok-say.ensures
    ∙ ap (λ (d : Draft). d.letters ++ c.cmd_ack.result ∷ []) sends
    ∙ ap (λ (l : Letter SwitchSays). (sent_as s result c.args.out (draft_of s)).letters ++ l ∷ [])
    (c.cmd_ack.ensures ∙ ap (λ (n : ℕ). letter_of_result c.args.command.from n c.args.command.number result) life) in
    packet-executed s c.args.command.settled c.args.command.from c.args.command.generation c.args.command.number c.args.out result _ _ _ _ is sent c.count.ensures executed letters
    ∙ ap (λ (x : SwitchState). executes (settled x c.args.command.settled) c.args.command.from c.args.command.generation c.args.command.number what) c.self.view_is

pub returns-clause-ok : goal.returns-clause-ok
returns-clause-ok c = record { state_is = ap (λ (t : SwitchTurn). t.state) (turn-is c); letters_are = ap (λ (t : SwitchTurn). t.letters) (turn-is c) }

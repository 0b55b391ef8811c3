-- How many commands and results are on their way while a closing is drained, and that they have room as the view starts.
use Rattle.std.proofs.Common.{◌≡◌, ◌≤◌, ◌<◌, ℕ, ◌+◌, ◌*◌, ◌%◌, Bool, true, false, List, [], ◌∷◌, length, map, ◌∙◌, ap, arith}
use Rattle.std.specs.Prelude.{nat_lt, not, ◌&&◌, ◌||◌, Option, if◌then◌else◌}
use Rattle.std.specs.List.{range_with_len}
use Rattle.std.proofs.lemmas.Bool.{or_left}
use Rattle.std.proofs.lemmas.List.FromFn.{length-range_with_len}
use Rattle.std.proofs.lemmas.List.Sums.{count_by-le-length}
use Rattle.of_types.specs.declared.message.Event.{Event}
use Rattle.of_types.specs.declared.setup.Setup.{Setup}
use Rattle.journal.specs.declared.journal.Actor.{Actor}
use Rattle.journal.specs.declared.journal.Actor.TheVariants as actor
use Rattle.journal.specs.declared.journal.Letter.{Letter}
use Rattle.vr_log.specs.declared.message.VrLetter.{VrLetter}
use Rattle.vr_log.specs.declared.state.VrState.{VrState}
use Rattle.vr_log.specs.Log.{received}
use Rattle.app_core.specs.declared.issued.Issued.{Issued}
use Rattle.dispatcher.specs.Ledger.{most_commands}
use Rattle.of_switch.specs.State.{SwitchState, life_of}
use Rattle.group_controller.specs.declared.messages.ControllerSays.{ControllerSays}
use Rattle.group_controller.specs.State.{ControllerState, Work, committed, to_members}
use Rattle.group_controller.specs.Settling.{role_letter}
use Rattle.group_controller.specs.Rules.{switches as switches_of}
use Rattle.run_spec.specs.declared.messages.Message.{Message}
use Rattle.run_spec.specs.States.{controller_message}
use Rattle.closing_laws.specs.Following.{Start}
use Rattle.closing_laws.specs.Quorum.{has}
use Rattle.closing_laws.specs.Serving.{AreFew, IsOlder}
use Rattle.closing_laws.specs.Views.{IsCovered, IsReadyMember}
use Rattle.closing_laws.specs.Ways.{Sent, sent_by}
use Rattle.closing_laws.proofs.Draining.OpeningTurn as opening_turn
use Rattle.closing_laws.proofs.Lists.Picked.{IsPicked}
use Rattle.closing_laws.proofs.Pool.CommandPosts.{IsOfCommands, members_post, roles_post, settling_pays}
use Rattle.closing_laws.proofs.Pool.CommandRooms.{life_said, lives_at, is_present, is_past, present_commands, past_commands, CommandRoom}
use Rattle.closing_laws.proofs.Pool.FinishedEvents.{opened_finishes}
use Rattle.closing_laws.proofs.Pool.Rooms.{is_command, is_result, waits}
use Rattle.closing_laws.proofs.Pool.SentCommands.{is_moved, of_past, of_present, pay_past, pay_present, sent_by_now, sent_few, slack, slack_grows}
use Rattle.closing_laws.proofs.Pool.TestCounts.{count_less}
use Rattle.closing_laws.proofs.Pool.Waiting.{all_kinds, passing, posted, posted_append, waits_cons}
use Rattle.closing_laws.proofs.Switches.Saying.{count_cons}

-- ---- how many there are

-- a command is no result
one_kind : (m : Sent) → (if is_command m.said then 1 else 0) + (if is_result m.said then 1 else 0) ≤ 1
one_kind m =
    let all = all_kinds (m ∷ []) in
    let a = waits_cons is_command m [] in
    let b = waits_cons is_result m [] in
    omega (arith, all, a, b)

split_kind : (command result here : Bool) → (if command then 1 else 0) + (if result then 1 else 0) ≤ 1 →
    (if command then 1 else 0) + (if result then 1 else 0) ≤ (if result || (command && here) then 1 else 0) + (if command && not here then 1 else 0)
split_kind true true here one = absurd (omega (arith, one))
split_kind true false true one = omega arith
split_kind true false false one = omega arith
split_kind false true here one = omega arith
split_kind false false here one = omega arith

split_kinds : (life : ℕ → ℕ) (waiting : List Sent) → waits is_command waiting + waits is_result waiting ≤ passing (is_present life) waiting + passing (is_past life) waiting
split_kinds life [] = omega arith
split_kinds life (m ∷ rest) =
    let a = waits_cons is_command m rest in
    let b = waits_cons is_result m rest in
    let c = count_cons (λ (x : Sent). is_present life x.to x.said) m rest in
    let d = count_cons (λ (x : Sent). is_past life x.to x.said) m rest in
    let first = split_kind (is_command m.said) (is_result m.said) (lives_at life m.to (life_said m.said)) (one_kind m) in
    let more = split_kinds life rest in
    omega (arith, a, b, c, d, first, more)

module _ (kinds : List ℕ) (setup : Setup) (few : AreFew kinds setup) (start : Start) (life : ℕ → ℕ) (c : ControllerState) (waiting : List Sent) (room : CommandRoom kinds setup start life c waiting) where
  slack_most : (n : ℕ) → slack start n ≤ most_commands
  slack_most n = by_test (nat_lt n (length start.log))
    where
      by_test : (b : Bool) → (if b then 0 else most_commands) ≤ most_commands
      by_test true = omega arith
      by_test false = omega arith

  pub results_few : waits is_result waiting ≤ 2 * most_commands
  results_few =
      let less = count_less (λ (m : Sent). is_result m.said) (λ (m : Sent). is_present life m.to m.said) waiting
      (λ m among h. or_left (is_result m.said) (is_command m.said && lives_at life m.to (life_said m.said)) h) in
      let some = sent_few kinds setup (of_present life) few (committed c) c.marks c.last_told in
      let slack_here = slack_most c.vr.commit in
      let h = room.present in
      omega (arith, less, some, slack_here, h)

  pub commands_few : waits is_command waiting + waits is_result waiting ≤ (4 + length setup.ports) * most_commands
  commands_few =
      let split = split_kinds life waiting in
      let some = sent_few kinds setup (of_present life) few (committed c) c.marks c.last_told in
      let others = sent_few kinds setup (of_past life) few (committed c) c.marks c.last_told in
      let slack_here = slack_most c.vr.commit in
      let switches = count_by-le-length (is_moved life (received (committed c))) (range_with_len 0 (length setup.ports)) in
      let ports = length-range_with_len 0 (length setup.ports) in
      let x = room.present in
      let y = room.past in
      omega (arith, split, some, others, slack_here, switches, ports, x, y)

-- ---- as the view starts

module _ (kinds : List ℕ) (setup : Setup) (few : AreFew kinds setup) (w : ℕ) (quorum : List ℕ) (at : ℕ → VrState) (best : ℕ) (picked : IsPicked setup.controllers w quorum)
    (small : (b : ℕ) → has quorum b ≡ true → b < setup.controllers) (ready : (j : ℕ) → has quorum j ≡ true → IsReadyMember setup.controllers w j (at j))
    (covered : IsCovered quorum at best) (chosen : has quorum best ≡ true)
    (voters : ℕ → List ℕ) (promise : Option ℕ) (sw : ℕ → SwitchState) (older : (t : ℕ) → t < length setup.ports → IsOlder (sw t).fence.generation w) where
  abbrev first : Start
  first = opening_turn.start kinds setup few w quorum at best picked small ready covered chosen voters promise sw older

  abbrev opened : VrState
  opened = opening_turn.leader kinds setup few w quorum at best picked small ready covered chosen voters promise sw older

  abbrev asking : Work
  asking = opening_turn.asking kinds setup few w quorum at best picked small ready covered chosen voters promise sw older

  abbrev end : Work
  end = opening_turn.end kinds setup few w quorum at best picked small ready covered chosen voters promise sw older

  abbrev first_life : ℕ → ℕ
  first_life s = life_of (sw s)

  abbrev sender : Actor
  sender = actor.Controller (w % setup.controllers)

  start_fits : (is : Actor → Message → Bool) (sel : Issued → Bool) (of : IsOfCommands is sel) (pay : ℕ → List Event → ℕ) (up : (i j : ℕ) (events : List Event) → i ≤ j → pay i events ≤ pay j events) →
      posted is controller_message sender end.letters ≤ sent_by_now kinds setup sel end.state + pay end.state.vr.commit (received (committed end.state))
  start_fits is sel of pay up =
      let p = settling_pays is sel of sender kinds setup first first_life pay up opened.commit asking (opened_finishes kinds setup few w quorum at best picked small ready covered chosen voters promise sw older) in
      let all = ap (λ (ls : List (Letter ControllerSays)). posted is controller_message sender ls) p.joined ∙ posted_append is controller_message sender asking.letters p.letters in
      let parts = posted_append is controller_message sender (to_members words) (map (role_letter w) (switches_of setup)) in
      let none = members_post is sel of sender words in
      let asked = roles_post is sel of sender w (switches_of setup) in
      let pays = p.pays in
      omega (arith, all, parts, none, asked, pays)
    where
      words : List VrLetter
      words = opening_turn.words kinds setup few w quorum at best picked small ready covered chosen voters promise sw older

  -- there is room
  pub starts_with_room : CommandRoom kinds setup first first_life end.state (map (sent_by controller_message sender) end.letters)
  starts_with_room = record {
    present = start_fits (is_present first_life) (of_present first_life) (present_commands first_life) (pay_present first) (λ i j events le. slack_grows kinds setup few first first_life i j le);
    past = start_fits (is_past first_life) (of_past first_life) (past_commands first_life) (pay_past setup first first_life)
        (λ i j events le. (let up = slack_grows kinds setup few first first_life i j le in omega (arith, up)));
  }

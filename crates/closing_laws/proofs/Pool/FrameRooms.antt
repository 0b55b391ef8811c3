-- How many frames are on links while a closing is drained: at each place of what waits no more than 48 for each result of a command.
use Rattle.std.proofs.Common.{◌≡◌, ◌≤◌, ◌<◌, inl, inr, ℕ, suc, ◌*◌, ◌%◌, true, false, List, [], ◌∷◌, ◌++◌, length, map, drop, refl, sym, ap, subst, arith}
use Rattle.std.specs.Prelude.{nat_eq, Option}
use Rattle.std.proofs.lemmas.Bool.{cond_both}
use Rattle.of_types.specs.declared.message.Extension.TheVariants as extension
use Rattle.of_types.specs.declared.message.OfMessage.TheVariants as plain
use Rattle.of_types.specs.declared.message.Spoken.TheVariants as spoken
use Rattle.of_types.specs.declared.numbers.TheConstants.{MASTER}
use Rattle.of_types.specs.declared.setup.Setup.{Setup}
use Rattle.of_types.specs.Setups.{AreApart, IsSetup, ends_of}
use Rattle.journal.specs.declared.journal.Actor.{Actor}
use Rattle.journal.specs.declared.journal.Actor.TheVariants as actor
use Rattle.journal.specs.declared.journal.Letter.{Letter}
use Rattle.app_core.specs.Orders.{HasFewOutputs}
use Rattle.list_facts.specs.Lists.{IsIn}
use Rattle.list_facts.proofs.Elements.{in_append, in_map}
use Rattle.vr_log.specs.declared.entry.Entry.{Entry}
use Rattle.vr_log.specs.declared.message.VrLetter.{VrLetter}
use Rattle.vr_log.specs.declared.state.VrState.{VrState}
use Rattle.vr_core.specs.declared.input.VrInput.TheVariants as vr_input
use Rattle.vr_core.specs.Step.{vr_step}
use Rattle.of_switch.specs.declared.says.SwitchSays.{SwitchSays}
use Rattle.of_switch.specs.State.{SwitchState, SwitchTurn, life_of, quiet_switch, to_controller}
use Rattle.of_switch.specs.Commands.{letter_of_result, on_command}
use Rattle.of_switch.specs.Events.{event_letter, first_held}
use Rattle.of_switch.specs.Rules.{switch_turn}
use Rattle.group_controller.specs.declared.messages.ControllerSays.{ControllerSays}
use Rattle.group_controller.specs.State.{ControllerState, Work, committed, to_member, to_members}
use Rattle.group_controller.specs.Rules.{controller_work, switches}
use Rattle.group_controller.specs.Settling.{role_letter}
use Rattle.run_spec.specs.declared.messages.Message.{Message}
use Rattle.run_spec.specs.declared.messages.Message.TheVariants as message
use Rattle.run_spec.specs.declared.messages.Unsealed.TheVariants as unsealed
use Rattle.run_spec.specs.States.{controller_message, switch_hears, switch_message}
use Rattle.closing_laws.specs.Quorum.{has}
use Rattle.closing_laws.specs.Following.{Start}
use Rattle.closing_laws.specs.Serving.{AreFew, IsOlder}
use Rattle.closing_laws.specs.Views.{IsCovered, IsReadyMember}
use Rattle.closing_laws.specs.Ways.{Sent, sent_by}
use Rattle.closing_laws.proofs.Draining.Drained.{heard_of, put}
use Rattle.closing_laws.proofs.Draining.OpeningTurn as opens
use Rattle.closing_laws.proofs.Lists.Picked.{IsPicked}
use Rattle.closing_laws.proofs.Pool.FewFrames.{AreFollowed, command_follows, followed_append, followed_none, none_follow}
use Rattle.closing_laws.proofs.Pool.PrimaryPosts.{Ack, Clear, Command, Prepare, IsPosted}
use Rattle.closing_laws.proofs.Pool.RoleRooms as opening
use Rattle.closing_laws.proofs.Pool.Rooms.{Keeps, NothingBeside, is_frame, is_result, turn_on, waits}
use Rattle.closing_laws.proofs.Pool.SwitchPosts.{IsTurn, Replies, Tells, Results, Rests, events_never}
use Rattle.closing_laws.proofs.Pool.TurnPosts.{primary_posts, switch_turns}
use Rattle.closing_laws.proofs.Pool.Waiting.{members_none, posts_cons, posts_never, posts_none}
use Rattle.closing_laws.proofs.Truths.Wires.{IsWired, wired_apart, wired_turn}

-- a message is no command, or one with few outputs
abbrev pub SendsFew : Message → Type 0
SendsFew (message.Of xid (spoken.Ravana (extension.Command life generation number settled what))) = HasFewOutputs what
SendsFew _ = Unit {0}

-- A turn of a switch posts its frames before its one result, so that at each place of what waits there is a result for each 48 frames:
-- each switch has its wires and at most 48 ports, and each command on its way has few outputs.
pub record FrameRoom (setup : Setup) (c : ControllerState) (members : ℕ → VrState) (switches : ℕ → SwitchState) (waiting : List Sent) : Type 0 where
  pub suffixes : (k : ℕ) → waits is_frame (drop k waiting) ≤ 48 * waits is_result (drop k waiting)
  pub wired : (s : ℕ) → s < length setup.ports → IsWired setup (switches s)
  pub outputs : (m : Sent) → IsIn m waiting → SendsFew m.said

-- so they are no more than 48 for each result
pub frames_bounded : (setup : Setup) (c : ControllerState) (members : ℕ → VrState) (switches : ℕ → SwitchState) (waiting : List Sent) → FrameRoom setup c members switches waiting →
    waits is_frame waiting ≤ 48 * waits is_result waiting
frames_bounded setup c members switches waiting room = room.suffixes 0

-- ---- what is posted

letters_few : {A : Type 0} (says : A → Message) (from : Actor) (letters : List (Letter A)) → ((l : Letter A) → IsIn l letters → SendsFew (says l.body)) →
    (m : Sent) → IsIn m (map (sent_by says from) letters) → SendsFew m.said
letters_few says from letters each m among =
    let r = in_map (sent_by says from) letters m among in subst (λ (x : Sent). SendsFew x.said) (sym r.2) (each r.0 r.1)

made_few : {A B : Type 0} (says : A → Message) (letter : B → Letter A) → ((x : B) → SendsFew (says (letter x).body)) → (xs : List B) (l : Letter A) → IsIn l (map letter xs) → SendsFew (says l.body)
made_few {A} says letter each xs l among = let r = in_map letter xs l among in subst (λ (x : Letter A). SendsFew (says x.body)) (sym r.2) (each r.0)

-- by a primary
posted_frame : (log : List Entry) (l : Letter ControllerSays) → IsPosted log l → is_frame (controller_message l.body) ≡ false
posted_frame log _ (Ack t few) = refl
posted_frame log _ (Clear t) = refl
posted_frame log _ (Command view n few) = refl
posted_frame log _ (Prepare to view op commit entry) = refl

posted_few : (log : List Entry) (l : Letter ControllerSays) → IsPosted log l → SendsFew (controller_message l.body)
posted_few log _ (Ack t few) = tt
posted_few log _ (Clear t) = tt
posted_few log _ (Command view n few) = few
posted_few log _ (Prepare to view op commit entry) = tt

-- by a switch
module _ (me view s : ℕ) (sw : SwitchState) where
  -- it orders nothing
  turn_few : (m : Message) (turn : SwitchTurn) → IsTurn me view sw m turn → (l : Letter SwitchSays) → IsIn l turn.letters → SendsFew (switch_message l.body)
  turn_few _ _ (Replies older) l (inl is) = subst (λ (x : Letter SwitchSays). SendsFew (switch_message x.body)) (sym is) tt
  turn_few _ _ (Replies older) l (inr among) = made_few switch_message (event_letter me) (λ e. tt) (first_held sw) l among
  turn_few _ _ (Tells through turn generation after) l among =
      made_few switch_message (event_letter me) (λ e. tt) _ l (subst (λ (ls : List (Letter SwitchSays)). IsIn l ls) after.letters among)
  turn_few _ _ (Results number settled what turn after) l among =
      elim (in_append l after.before (letter_of_result me (life_of sw) number after.result ∷ []) (subst (λ (ls : List (Letter SwitchSays)). IsIn l ls) after.letters among)) [
        | inl frame ↦ let f = after.frames l frame in subst (λ (b : SwitchSays). SendsFew (switch_message b)) (sym f.4) tt
        | inr (inl is) ↦ subst (λ (x : Letter SwitchSays). SendsFew (switch_message x.body)) (sym is) tt
        | inr (inr none) ↦ absurd none
      ]
  turn_few _ _ (Rests m state buffer fence) l none = absurd none

  -- and its frames stand before a result
  module _ (apart : AreApart (ends_of sw.links)) (few : sw.ports ≤ 48) (from : ℕ) where
    abbrev Follow : SwitchTurn → Type 0
    Follow turn = AreFollowed (map (sent_by switch_message (actor.Switch s)) turn.letters)

    turn_follows : (m : Message) (turn : SwitchTurn) → IsTurn me view sw m turn → turn ≡ switch_turn sw (switch_hears (actor.Controller from) (unsealed.Message m)) → SendsFew m → Follow turn
    unfolding switch_turn
    turn_follows _ _ (Replies older) is outputs =
        followed_none _
        (let parts = posts_cons is_frame switch_message (actor.Switch s) (to_controller me 0 (spoken.Plain (plain.RoleReply MASTER view))) (map (event_letter me) (first_held sw)) in
        let rest = posts_never is_frame switch_message (actor.Switch s) (event_letter me) (λ e. refl) (first_held sw) in
        omega (arith, parts, rest))
    turn_follows _ _ (Tells through turn generation after) is outputs =
        followed_none _ (events_never me view sw s (λ (a : Actor). is_frame) (λ e. refl) turn.letters _ after.letters)
    turn_follows _ _ (Results number settled what turn after) is outputs =
        subst Follow (sym is)
        (cond_both (nat_eq (life_of sw) (life_of sw)) (on_command sw from 0 view number settled what) (quiet_switch sw) Follow
        (λ _. command_follows s sw apart few from 0 view number settled what outputs) (λ _. none_follow s sw apart few sw))
    turn_follows _ _ (Rests m state buffer fence) is outputs = none_follow s sw apart few state

-- ---- turns

module _ (kinds : List ℕ) (setup : Setup) (few : AreFew kinds setup) (w p : ℕ) (quorum : List ℕ) (start : Start) (picked : IsPicked setup.controllers w quorum) (inside : has quorum p ≡ true)
    (leader : p ≡ w % setup.controllers) (small : (b : ℕ) → has quorum b ≡ true → b < setup.controllers) (is_setup : IsSetup setup) where
  -- a message is drawn, and others are posted
  room_kept : (c : ControllerState) (members : ℕ → VrState) (sws : ℕ → SwitchState) (m : Sent) (rest : List Sent) → FrameRoom setup c members sws (m ∷ rest) →
      (c' : ControllerState) (members' : ℕ → VrState) (sws' : ℕ → SwitchState) → ((s : ℕ) → s < length setup.ports → IsWired setup (sws' s)) →
      {A : Type 0} (says : A → Message) (from : Actor) (letters : List (Letter A)) → AreFollowed (map (sent_by says from) letters) → ((l : Letter A) → IsIn l letters → SendsFew (says l.body)) →
      FrameRoom setup c' members' sws' (rest ++ map (sent_by says from) letters)
  room_kept c members sws m rest room c' members' sws' wired says from letters follow each = record {
    suffixes = followed_append rest (map (sent_by says from) letters) (λ k. room.suffixes (suc k)) follow;
    wired = wired;
    outputs = λ x among. elim (in_append x rest (map (sent_by says from) letters) among) [
      | inl old ↦ room.outputs x (inr old)
      | inr new ↦ letters_few says from letters each x new
    ];
  }

  pub keeps_frames : Keeps kinds setup w p quorum start NothingBeside (FrameRoom setup)
  keeps_frames = record {
    lost = λ c members sws m rest d lost beside beside' room.
        record { suffixes = λ k. room.suffixes (suc k); wired = room.wired; outputs = λ x among. room.outputs x (inr among) };
    member = λ c members sws m rest b x d from to chosen other says d' beside beside' room.
        let step = vr_step (members b) (vr_input.From p x) in
        room_kept c members sws m rest room c (put members b step.state) sws room.wired controller_message (actor.Controller b) (to_members step.letters)
        (followed_none (map (sent_by controller_message (actor.Controller b)) (to_members step.letters)) (members_none is_frame (λ y. refl) (actor.Controller b) step.letters)) (made_few controller_message to_member (λ y. tt) step.letters);
    primary = λ c members sws m rest d to heard t t' full d' beside beside' room.
        let h = primary_posts kinds setup few w p quorum start picked inside leader small c members sws m rest d to t heard in
        let work = controller_work kinds setup c (heard_of m) in
        room_kept c members sws m rest room work.state members sws room.wired controller_message (actor.Controller p) work.letters
        (followed_none (map (sent_by controller_message (actor.Controller p)) work.letters)
        (posts_none is_frame controller_message (actor.Controller p) work.letters (λ l among. posted_frame (committed work.state) l (h.each l among))))
        (λ l among. posted_few (committed work.state) l (h.each l among));
    switch = λ c members sws m rest s there d from to t t' d' beside beside' room.
        let turn = turn_on (sws s) m in
        let is = switch_turns kinds setup few w p quorum start picked inside leader small c members sws m rest d s there from to t in
        let wired = room.wired s there in
        room_kept c members sws m rest room c members (put sws s turn.state)
        (λ j there_j. cond_both (nat_eq j s) turn.state (sws j) (IsWired setup) (λ _. wired_turn setup (sws s) (switch_hears m.from (unsealed.Message m.said)) wired) (λ _. room.wired j there_j))
        switch_message (actor.Switch s) turn.letters
        (turn_follows c.vr.me c.vr.view s (sws s) (wired_apart setup is_setup (sws s) wired) wired.ports p m.said turn is
        (ap (λ (a : Actor). switch_turn (sws s) (switch_hears a (unsealed.Message m.said))) from) (room.outputs m (inl refl)))
        (turn_few c.vr.me c.vr.view s (sws s) m.said turn is);
  }

-- ---- where the view starts

module _ (kinds : List ℕ) (setup : Setup) (few : AreFew kinds setup) (w : ℕ) (quorum : List ℕ) (at : ℕ → VrState) (best : ℕ) (picked : IsPicked setup.controllers w quorum)
    (small : (b : ℕ) → has quorum b ≡ true → b < setup.controllers) (ready : (j : ℕ) → has quorum j ≡ true → IsReadyMember setup.controllers w j (at j)) (covered : IsCovered quorum at best) (chosen : has quorum best ≡ true)
    (voters : ℕ → List ℕ) (promise : Option ℕ) (sw : ℕ → SwitchState) (older : (t : ℕ) → t < length setup.ports → IsOlder (sw t).fence.generation w) where
  abbrev p : ℕ
  p = opens.p kinds setup few w quorum at best picked small ready covered chosen voters promise sw older

  abbrev words : List VrLetter
  words = opens.words kinds setup few w quorum at best picked small ready covered chosen voters promise sw older

  abbrev end : Work
  end = opens.end kinds setup few w quorum at best picked small ready covered chosen voters promise sw older

  pub frames_start : (members : ℕ → VrState) → ((s : ℕ) → s < length setup.ports → IsWired setup (sw s)) →
      FrameRoom setup end.state members sw (map (sent_by controller_message (actor.Controller p)) end.letters)
  frames_start members wired =
      let posts = opening.opening_posts kinds setup few w quorum at best picked small ready covered chosen voters promise sw older in
      let all = opening.all_counted kinds setup few w quorum at best picked small ready covered chosen voters promise sw older is_frame in
      let first = members_none is_frame (λ x. refl) (actor.Controller p) words in
      let asked = posts_never is_frame controller_message (actor.Controller p) (role_letter w) (λ x. refl) (switches setup) in
      let more = posts_none is_frame controller_message (actor.Controller p) posts.letters (λ l among. posted_frame (committed end.state) l (posts.each l among)) in
      record {
        suffixes = followed_none (map (sent_by controller_message (actor.Controller p)) end.letters) (omega (arith, all, first, asked, more));
        wired = wired;
        outputs = letters_few controller_message (actor.Controller p) end.letters (λ l among.
            elim (in_append l (to_members words ++ map (role_letter w) (switches setup)) posts.letters (subst (λ (ls : List (Letter ControllerSays)). IsIn l ls) posts.joined among)) [
              | inl asks ↦ elim (in_append l (to_members words) (map (role_letter w) (switches setup)) asks) [
                | inl word ↦ made_few controller_message to_member (λ y. tt) words l word
                | inr role ↦ made_few controller_message (role_letter w) (λ k. tt) (switches setup) l role
              ]
              | inr new ↦ posted_few (committed end.state) l (posts.each l new)
            ]);
      }

-- How many requests for roles and replies, and how many of the words that a view has started, are on their way while a closing is drained.
use Rattle.std.proofs.Common.{◌≡◌, ◌≤◌, ◌<◌, ◌⊎◌, inl, inr, ℕ, ◌+◌, ◌%◌, Bool, true, false, List, [], ◌∷◌, ◌++◌, length, map, refl, sym, ◌∙◌, ap, arith, length-take-le}
use Rattle.std.specs.Prelude.{Option, if◌then◌else◌}
use Rattle.std.proofs.lemmas.List.{length-map}
use Rattle.std.proofs.lemmas.List.FromFn.{length-range_with_len}
use Rattle.std.proofs.lemmas.List.Sums.{count_by-le-length}
use Rattle.of_types.specs.declared.setup.Setup.{Setup}
use Rattle.journal.specs.declared.journal.Actor.{Actor}
use Rattle.journal.specs.declared.journal.Actor.TheVariants as actor
use Rattle.journal.specs.declared.journal.Letter.{Letter}
use Rattle.vr_log.specs.declared.entry.Entry.{Entry}
use Rattle.vr_log.specs.declared.message.VrLetter.{VrLetter}
use Rattle.vr_log.specs.declared.message.VrMessage.TheVariants as vr
use Rattle.vr_log.specs.declared.state.VrState.{VrState}
use Rattle.vr_log.specs.Steps.{letter}
use Rattle.vr_core.specs.declared.input.VrInput.TheVariants as vr_input
use Rattle.vr_core.specs.Step.{vr_step}
use Rattle.view_change.specs.Entering.{view_start}
use Rattle.of_switch.specs.State.{SwitchState}
use Rattle.group_controller.specs.declared.messages.ControllerSays.{ControllerSays}
use Rattle.group_controller.specs.State.{Work, committed, to_member, to_members}
use Rattle.group_controller.specs.Rules.{controller_work, switches}
use Rattle.group_controller.specs.Settling.{role_letter}
use Rattle.run_spec.specs.declared.messages.Message.{Message}
use Rattle.run_spec.specs.States.{controller_message, switch_message}
use Rattle.closing_laws.specs.Quorum.{has}
use Rattle.closing_laws.specs.Following.{Start}
use Rattle.closing_laws.specs.Serving.{AreFew, IsOlder}
use Rattle.closing_laws.specs.Views.{IsCovered, IsReadyMember}
use Rattle.closing_laws.specs.Ways.{Sent, sent_by}
use Rattle.closing_laws.proofs.Draining.Drained.{heard_of}
use Rattle.closing_laws.proofs.Draining.OpeningTurn as opens
use Rattle.closing_laws.proofs.Lists.Picked.{IsPicked}
use Rattle.closing_laws.proofs.Pool.FewLetters.{told_few}
use Rattle.closing_laws.proofs.Pool.PrimaryPosts.{Ack, Clear, Command, Prepare, IsPosted, Posts, settling_posts}
use Rattle.closing_laws.proofs.Pool.Rooms.{Keeps, NothingBeside, Standing, is_else, is_role, turn_on, waits}
use Rattle.closing_laws.proofs.Pool.SwitchPosts.{else_posts, role_posts}
use Rattle.closing_laws.proofs.Pool.TurnPosts.{member_answers, primary_posts, switch_turns}
use Rattle.closing_laws.proofs.Pool.Waiting.{members_none, posts_always, posts_append, posts_cons, posts_never, posts_none, posts_of, waits_append, waits_cons}
use Rattle.closing_laws.proofs.Primary.Finishing.{grows_none}

-- as many as switches
abbrev pub RoleRoom : Setup → Standing
RoleRoom setup c members switches waiting = waits is_role waiting ≤ length setup.ports

-- as many as controllers
abbrev pub ElseRoom : Setup → Standing
ElseRoom setup c members switches waiting = waits is_else waiting ≤ setup.controllers

-- a primary posts none of them
posted_role : (log : List Entry) (l : Letter ControllerSays) → IsPosted log l → is_role (controller_message l.body) ≡ false
posted_role log _ (Ack t few) = refl
posted_role log _ (Clear t) = refl
posted_role log _ (Command view n few) = refl
posted_role log _ (Prepare to view op commit entry) = refl

posted_else : (log : List Entry) (l : Letter ControllerSays) → IsPosted log l → is_else (controller_message l.body) ≡ false
posted_else log _ (Ack t few) = refl
posted_else log _ (Clear t) = refl
posted_else log _ (Command view n few) = refl
posted_else log _ (Prepare to view op commit entry) = refl

-- a turn that posts no more of a kind than it draws
module _ (is : Message → Bool) (most : ℕ) (m : Sent) (rest : List Sent) where
  pub lost_fewer : waits is (m ∷ rest) ≤ most → waits is rest ≤ most
  lost_fewer few = let parts = waits_cons is m rest in omega (arith, parts, few)

  pub posted_fewer : {A : Type 0} (says : A → Message) (from : Actor) (letters : List (Letter A)) → posts_of is says from letters ≤ (if is m.said then 1 else 0) →
      waits is (m ∷ rest) ≤ most → waits is (rest ++ map (sent_by says from) letters) ≤ most
  posted_fewer says from letters fewer few =
      let parts = waits_cons is m rest in
      let joined = waits_append is rest (map (sent_by says from) letters) in
      omega (arith, parts, joined, fewer, few)

-- a member acknowledges, or says nothing
member_silent : (from : Actor) (view to least : ℕ) (letters : List VrLetter) → (letters ≡ []) ⊎ ((op : ℕ) × (letters ≡ letter (vr.PrepareOk view op) to ∷ []) × (least ≤ op)) →
    posts_of is_else controller_message from (to_members letters) ≡ 0
member_silent from view to least letters (inl none) = ap (λ (ls : List VrLetter). posts_of is_else controller_message from (to_members ls)) none
member_silent from view to least letters (inr one) =
    ap (λ (ls : List VrLetter). posts_of is_else controller_message from (to_members ls)) one.1
    ∙ posts_cons is_else controller_message from (to_member (letter (vr.PrepareOk view one.0) to)) []

module _ (kinds : List ℕ) (setup : Setup) (few : AreFew kinds setup) (w p : ℕ) (quorum : List ℕ) (start : Start) (picked : IsPicked setup.controllers w quorum) (inside : has quorum p ≡ true)
    (leader : p ≡ w % setup.controllers) (small : (b : ℕ) → has quorum b ≡ true → b < setup.controllers) where
  pub keeps_roles : Keeps kinds setup w p quorum start NothingBeside (RoleRoom setup)
  keeps_roles = record {
    lost = λ c members switches m rest d lost beside beside' room. lost_fewer is_role (length setup.ports) m rest room;
    member = λ c members switches m rest b x d from to chosen other says d' beside beside' room.
        posted_fewer is_role (length setup.ports) m rest controller_message (actor.Controller b) (to_members (vr_step (members b) (vr_input.From p x)).letters)
        (let none = members_none is_role (λ y. refl) (actor.Controller b) (vr_step (members b) (vr_input.From p x)).letters in omega (arith, none)) room;
    primary = λ c members switches m rest d to heard t t' full d' beside beside' room.
        let h = primary_posts kinds setup few w p quorum start picked inside leader small c members switches m rest d to t heard in
        let work = controller_work kinds setup c (heard_of m) in
        posted_fewer is_role (length setup.ports) m rest controller_message (actor.Controller p) work.letters
        (let none = posts_none is_role controller_message (actor.Controller p) work.letters (λ l among. posted_role (committed work.state) l (h.each l among)) in omega (arith, none)) room;
    switch = λ c members switches m rest s there d from to t t' d' beside beside' room.
        posted_fewer is_role (length setup.ports) m rest switch_message (actor.Switch s) (turn_on (switches s) m).letters
        (role_posts c.vr.me c.vr.view (switches s) s m.said (turn_on (switches s) m) (switch_turns kinds setup few w p quorum start picked inside leader small c members switches m rest d s there from to t)) room;
  }

  pub keeps_else : Keeps kinds setup w p quorum start NothingBeside (ElseRoom setup)
  keeps_else = record {
    lost = λ c members switches m rest d lost beside beside' room. lost_fewer is_else setup.controllers m rest room;
    member = λ c members switches m rest b x d from to chosen other says d' beside beside' room.
        let letters = (vr_step (members b) (vr_input.From p x)).letters in
        posted_fewer is_else setup.controllers m rest controller_message (actor.Controller b) (to_members letters)
        (let none = member_silent (actor.Controller b) c.vr.view p (length start.log) letters
        (member_answers kinds setup few w p quorum start picked inside leader small c members switches m rest d b x from to chosen other says) in omega (arith, none)) room;
    primary = λ c members switches m rest d to heard t t' full d' beside beside' room.
        let h = primary_posts kinds setup few w p quorum start picked inside leader small c members switches m rest d to t heard in
        let work = controller_work kinds setup c (heard_of m) in
        posted_fewer is_else setup.controllers m rest controller_message (actor.Controller p) work.letters
        (let none = posts_none is_else controller_message (actor.Controller p) work.letters (λ l among. posted_else (committed work.state) l (h.each l among)) in omega (arith, none)) room;
    switch = λ c members switches m rest s there d from to t t' d' beside beside' room.
        posted_fewer is_else setup.controllers m rest switch_message (actor.Switch s) (turn_on (switches s) m).letters
        (let none = else_posts c.vr.me c.vr.view (switches s) s m.said (turn_on (switches s) m)
        (switch_turns kinds setup few w p quorum start picked inside leader small c members switches m rest d s there from to t) in omega (arith, none)) room;
  }

-- ---- where the view starts

-- no more of a kind are posted than letters
no_more : (is : Message → Bool) (from : Actor) (letters : List (Letter ControllerSays)) → posts_of is controller_message from letters ≤ length letters
no_more is from letters =
    let few = count_by-le-length (λ (m : Sent). is m.said) (map (sent_by controller_message from) letters) in
    let same = length-map letters (sent_by controller_message from) in
    omega (arith, few, same)

module _ (kinds : List ℕ) (setup : Setup) (few : AreFew kinds setup) (w : ℕ) (quorum : List ℕ) (at : ℕ → VrState) (best : ℕ) (picked : IsPicked setup.controllers w quorum)
    (small : (b : ℕ) → has quorum b ≡ true → b < setup.controllers) (ready : (j : ℕ) → has quorum j ≡ true → IsReadyMember setup.controllers w j (at j)) (covered : IsCovered quorum at best) (chosen : has quorum best ≡ true)
    (voters : ℕ → List ℕ) (promise : Option ℕ) (sw : ℕ → SwitchState) (older : (t : ℕ) → t < length setup.ports → IsOlder (sw t).fence.generation w) where
  abbrev p : ℕ
  p = opens.p kinds setup few w quorum at best picked small ready covered chosen voters promise sw older

  abbrev leader : VrState
  leader = opens.leader kinds setup few w quorum at best picked small ready covered chosen voters promise sw older

  abbrev words : List VrLetter
  words = opens.words kinds setup few w quorum at best picked small ready covered chosen voters promise sw older

  abbrev asking : Work
  asking = opens.asking kinds setup few w quorum at best picked small ready covered chosen voters promise sw older

  abbrev end : Work
  end = opens.end kinds setup few w quorum at best picked small ready covered chosen voters promise sw older

  -- what the turn posts behind the requests for roles
  pub opening_posts : Posts p asking end
  opening_posts =
      settling_posts p kinds setup few asking.state asking leader.commit
      (grows_none leader (opens.within kinds setup few w quorum at best picked small ready covered chosen voters promise sw older)) refl
      (sym (length-take-le leader.commit leader.log (opens.within kinds setup few w quorum at best picked small ready covered chosen voters promise sw older)))

  abbrev counted : (Message → Bool) → List (Letter ControllerSays) → ℕ
  counted is letters = posts_of is controller_message (actor.Controller p) letters

  -- all of it, by kinds
  pub all_counted : (is : Message → Bool) → counted is end.letters ≡ counted is (to_members words) + counted is (map (role_letter w) (switches setup)) + counted is opening_posts.letters
  all_counted is =
      let all = ap (λ (ls : List (Letter ControllerSays)). counted is ls) opening_posts.joined in
      let parts = posts_append is controller_message (actor.Controller p) (to_members words ++ map (role_letter w) (switches setup)) opening_posts.letters in
      let first = posts_append is controller_message (actor.Controller p) (to_members words) (map (role_letter w) (switches setup)) in
      omega (arith, all, parts, first)

  pub roles_start : (members : ℕ → VrState) → RoleRoom setup end.state members sw (map (sent_by controller_message (actor.Controller p)) end.letters)
  roles_start members =
      let all = all_counted is_role in
      let first = members_none is_role (λ x. refl) (actor.Controller p) words in
      let asked = posts_always is_role controller_message (actor.Controller p) (role_letter w) (λ x. refl) (switches setup) in
      let count = length-range_with_len 0 (length setup.ports) in
      let more = posts_none is_role controller_message (actor.Controller p) opening_posts.letters (λ l among. posted_role (committed end.state) l (opening_posts.each l among)) in
      omega (arith, all, first, asked, count, more)

  pub else_starts : (members : ℕ → VrState) → ElseRoom setup end.state members sw (map (sent_by controller_message (actor.Controller p)) end.letters)
  else_starts members =
      let all = all_counted is_else in
      let first = no_more is_else (actor.Controller p) (to_members words) in
      let told = length-map words to_member in
      let fewer = told_few leader (view_start leader) in
      let size = opens.size kinds setup few w quorum at best picked small ready covered chosen voters promise sw older in
      let asked = posts_never is_else controller_message (actor.Controller p) (role_letter w) (λ x. refl) (switches setup) in
      let more = posts_none is_else controller_message (actor.Controller p) opening_posts.letters (λ l among. posted_else (committed end.state) l (opening_posts.each l among)) in
      omega (arith, all, first, told, fewer, size, asked, more)

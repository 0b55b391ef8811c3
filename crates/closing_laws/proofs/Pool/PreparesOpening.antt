-- Few entries are on their way as a closing's view has started: those that Settle proposes in that turn.
use Rattle.std.proofs.Common.{◌≡◌, ◌<◌, inl, inr, ℕ, ◌/◌, ◌%◌, true, List, [], length, map, refl, sym, ◌∙◌, ap, subst, arith, append-nil}
use Rattle.std.specs.Prelude.{slice_index, Option}
use Rattle.std.proofs.lemmas.List.{map-append}
use Rattle.of_types.specs.declared.setup.Setup.{Setup}
use Rattle.of_types.specs.Lives.{count_in}
use Rattle.journal.specs.declared.journal.Actor.TheVariants as actor
use Rattle.journal.specs.declared.journal.Letter.{Letter}
use Rattle.list_facts.proofs.Elements.{in_map}
use Rattle.vr_log.specs.declared.message.VrLetter.{VrLetter}
use Rattle.vr_log.specs.declared.state.VrState.{VrState}
use Rattle.vr_log.specs.Log.{received}
use Rattle.vr_log.specs.Members.{others_below}
use Rattle.vr_log.specs.Steps.{letter, to_others}
use Rattle.view_change.specs.Entering.{tells_start, view_start}
use Rattle.controller_moves.proofs.MemberMoves.Checking.{zeros}
use Rattle.of_switch.specs.State.{SwitchState, life_of}
use Rattle.group_controller.specs.declared.messages.ControllerSays.{ControllerSays}
use Rattle.group_controller.specs.State.{Work, fresh, stepped, to_member, to_members}
use Rattle.group_controller.specs.Rules.{switches}
use Rattle.group_controller.specs.Settling.{role_letter}
use Rattle.run_spec.specs.declared.messages.Message.TheVariants as message
use Rattle.run_spec.specs.States.{controller_message}
use Rattle.closing_laws.specs.Quorum.{has}
use Rattle.closing_laws.specs.Following.{Start}
use Rattle.closing_laws.specs.Serving.{AreFew, IsOlder}
use Rattle.closing_laws.specs.Views.{IsCovered, IsReadyMember}
use Rattle.closing_laws.specs.Ways.{Sent, sent_by}
use Rattle.closing_laws.proofs.Draining.Leading as leading
use Rattle.closing_laws.proofs.Draining.Leading.{start_of}
use Rattle.closing_laws.proofs.Draining.OpeningTurn as opens
use Rattle.closing_laws.proofs.Lists.Picked.{IsPicked}
use Rattle.closing_laws.proofs.Pool.Broadcasts.{AreEven, AreSilent, Posts, even_append, even_silent, posted, roles_silent, settling_posts, silent_append}
use Rattle.closing_laws.proofs.Pool.PrepareRooms.{IsCounted, PrepareRoom}
use Rattle.closing_laws.proofs.Pool.Rooms.{is_prepare}
use Rattle.closing_laws.proofs.Primary.Opening as opening

-- the word that a view has started is no entry
words_silent : (s : VrState) → AreSilent (to_members (to_others s (view_start s)))
words_silent s l among =
    let y = in_map to_member (to_others s (view_start s)) l among in
    let z = in_map (letter (view_start s)) (others_below s.me s.controllers) y.0 y.1 in
    ap (λ (x : Letter ControllerSays). is_prepare (controller_message x.body)) y.2 ∙ ap (λ (x : VrLetter). is_prepare (message.Vr x.message)) z.2

module _ (kinds : List ℕ) (setup : Setup) (few : AreFew kinds setup) (w : ℕ) (quorum : List ℕ) (at : ℕ → VrState) (best : ℕ) (picked : IsPicked setup.controllers w quorum)
    (small : (b : ℕ) → has quorum b ≡ true → b < setup.controllers) (ready : (j : ℕ) → has quorum j ≡ true → IsReadyMember setup.controllers w j (at j)) (covered : IsCovered quorum at best) (chosen : has quorum best ≡ true)
    (voters : ℕ → List ℕ) (promise : Option ℕ) (sw : ℕ → SwitchState) (older : (t : ℕ) → t < length setup.ports → IsOlder (sw t).fence.generation w) where
  abbrev n : ℕ
  n = setup.controllers

  abbrev p : ℕ
  p = w % n

  abbrev start : Start
  start = start_of p quorum at best

  abbrev leader : VrState
  leader = leading.leader n w quorum at best picked small ready covered chosen voters

  abbrev first : Work
  first = stepped (fresh leader) (record (tells_start leader) { promise = promise })

  abbrev asking : Work
  asking = opening.asking kinds setup sw few first (to_others leader (view_start leader)) refl older

  abbrev end : Work
  end = opens.end kinds setup few w quorum at best picked small ready covered chosen voters promise sw older

  me : leader.me ≡ p
  me = leading.me n w quorum at best picked small ready covered chosen voters

  size : leader.controllers ≡ n
  size = leading.size n w quorum at best picked small ready covered chosen voters

  posts : Posts quorum (length start.log) asking end []
  posts = settling_posts quorum (length start.log) kinds setup leader.commit asking

  -- nothing was acknowledged yet
  none_acked : (b : ℕ) → slice_index end.state.vr.acked b ≡ 0
  none_acked b = ap (λ (l : List ℕ). slice_index l b) posts.acked ∙ zeros (at p).controllers b

  counted : IsCounted kinds setup w p quorum start end.state.vr
  counted = record {
    outside = λ b out. none_acked b;
    acked = λ b member other. inl (none_acked b);
    commit = elim (leading.commit_is n w quorum at best picked small ready covered chosen voters) [
      | inl alone ↦
          let whole = alone.1 in
          let grown = (opens.grown kinds setup few w quorum at best picked small ready covered chosen voters promise sw older).commit in
          inr (
            omega (arith, whole, grown),
            λ b member other. (let none = alone.0 in let less = small b member in let less_p = small p picked.primary in absurd (other (omega (arith, none, less, less_p)))),
          )
      | inr several ↦ inl (posts.commit (subst (λ (k : ℕ). 0 < k / 2) (sym size) several.0) ∙ several.1)
    ];
  }

  even : AreEven quorum (length start.log) p n (posted p end.letters)
  even =
      subst (λ (k : ℕ). AreEven quorum (length start.log) k n (posted k end.letters)) me
      (subst (λ (k : ℕ). AreEven quorum (length start.log) leader.me k (posted leader.me end.letters)) size
      (subst (λ (ls : List (Letter ControllerSays)). AreEven quorum (length start.log) leader.me leader.controllers (posted leader.me ls)) (sym posts.joined)
      (subst (λ (sent : List Sent). AreEven quorum (length start.log) leader.me leader.controllers sent) (sym (map-append (sent_by controller_message (actor.Controller leader.me)) asking.letters posts.letters))
      (even_append quorum (length start.log) leader.me leader.controllers (posted leader.me asking.letters) (posted leader.me posts.letters)
      (even_silent quorum (length start.log) leader.me leader.controllers asking.letters
      (silent_append (to_members (to_others leader (view_start leader))) (map (role_letter w) (switches setup)) (words_silent leader) (roles_silent w (switches setup))))
      posts.even))))

  pub opens_room : (members : ℕ → VrState) → PrepareRoom kinds setup w p quorum start end.state members sw (posted p end.letters)
  opens_room members = record {
    counted = counted;
    placed = even.placed;
    near = even.near;
    logged = λ s there. let same = ap (count_in s (life_of (sw s))) (posts.events ∙ append-nil (received leader.log)) in omega (arith, same);
  }

-- How many of the words that results may go are on their way as the view starts.
use Rattle.std.proofs.Common.{◌≡◌, ◌<◌, ℕ, true, List, [], length, map, take, refl, sym, ap, subst, arith}
use Rattle.std.specs.Prelude.{Option}
use Rattle.std.proofs.lemmas.Bool.{eqb-true, true≢false}
use Rattle.std.proofs.lemmas.List.{drop_all, length-take}
use Rattle.list_facts.specs.Lists.{IsIn}
use Rattle.list_facts.proofs.Prefixes.{prefix_refl}
use Rattle.of_types.specs.declared.setup.Setup.{Setup}
use Rattle.journal.specs.declared.journal.Actor.TheVariants as actor
use Rattle.vr_log.specs.declared.message.VrLetter.{VrLetter}
use Rattle.vr_log.specs.declared.state.VrState.{VrState}
use Rattle.vr_log.specs.Members.{most_failures}
use Rattle.dispatcher.specs.Folding.{places_processed}
use Rattle.dispatcher.specs.Marks.{no_marks}
use Rattle.of_switch.specs.State.{SwitchState, life_of}
use Rattle.group_controller.specs.State.{Work, committed, to_members}
use Rattle.group_controller.specs.Rules.{switches}
use Rattle.group_controller.specs.Settling.{role_letter}
use Rattle.run_spec.specs.declared.messages.Message.{Message}
use Rattle.run_spec.specs.States.{controller_message}
use Rattle.closing_laws.specs.Quorum.{has}
use Rattle.closing_laws.specs.Following.{Start}
use Rattle.closing_laws.specs.Serving.{AreFew, IsOlder, results_said}
use Rattle.closing_laws.specs.Views.{IsCovered, IsReadyMember}
use Rattle.closing_laws.specs.Ways.{sent_by}
use Rattle.closing_laws.proofs.Draining.Followers.{started_within}
use Rattle.closing_laws.proofs.Draining.Leading as leading
use Rattle.closing_laws.proofs.Draining.OpeningTurn as opens
use Rattle.closing_laws.proofs.Journal.Between.{between_sent_by}
use Rattle.closing_laws.proofs.Lists.Picked.{IsPicked}
use Rattle.closing_laws.proofs.Pool.Broadcasts.{posted}
use Rattle.closing_laws.proofs.Pool.Clearing as clearing
use Rattle.closing_laws.proofs.Pool.ClearingWorks as works
use Rattle.closing_laws.proofs.Pool.ClearingWorks.{None_processed}
use Rattle.closing_laws.proofs.Pool.ClearRooms.{ClearRoom}
use Rattle.closing_laws.proofs.Pool.Rooms.{is_clear, waits}
use Rattle.closing_laws.proofs.Pool.Waiting.{members_none, posts_append, posts_never}

module _ (kinds : List ℕ) (setup : Setup) (few : AreFew kinds setup) (w : ℕ) (quorum : List ℕ) (at : ℕ → VrState) (best : ℕ) (picked : IsPicked setup.controllers w quorum)
    (small : (b : ℕ) → has quorum b ≡ true → b < setup.controllers) (ready : (j : ℕ) → has quorum j ≡ true → IsReadyMember setup.controllers w j (at j)) (covered : IsCovered quorum at best) (chosen : has quorum best ≡ true)
    (voters : ℕ → List ℕ) (promise : Option ℕ) (sw : ℕ → SwitchState) (older : (t : ℕ) → t < length setup.ports → IsOlder (sw t).fence.generation w) where
  abbrev p : ℕ
  p = opens.p kinds setup few w quorum at best picked small ready covered chosen voters promise sw older

  abbrev start : Start
  start = opens.start kinds setup few w quorum at best picked small ready covered chosen voters promise sw older

  abbrev leader : VrState
  leader = opens.leader kinds setup few w quorum at best picked small ready covered chosen voters promise sw older

  abbrev words : List VrLetter
  words = opens.words kinds setup few w quorum at best picked small ready covered chosen voters promise sw older

  abbrev asking : Work
  asking = opens.asking kinds setup few w quorum at best picked small ready covered chosen voters promise sw older

  abbrev end : Work
  end = opens.end kinds setup few w quorum at best picked small ready covered chosen voters promise sw older

  abbrev life : ℕ → ℕ
  life s = life_of (sw s)

  abbrev early : Type 0
  early = end.state.vr.commit < length start.log

  -- the turn begins with no marks, and with none of the words
  asking_silent : waits is_clear (posted p asking.letters) ≡ 0
  asking_silent =
      let parts = posts_append is_clear controller_message (actor.Controller p) (to_members words) (map (role_letter w) (switches setup)) in
      let first = members_none is_clear (λ x. refl) (actor.Controller p) words in
      let asked = posts_never is_clear controller_message (actor.Controller p) (role_letter w) (λ x. refl) (switches setup) in
      omega (arith, parts, first, asked)

  asking_front : works.AreInFront kinds setup p life early [] (committed asking.state) no_marks (posted p asking.letters)
  asking_front = record {
    holds = clearing.held_none kinds setup p life early (committed asking.state) no_marks (posted p asking.letters) asking_silent (λ s l i is. absurd (true≢false (sym is)));
    reached = record {
      results = λ s i there among.
          absurd (subst (λ (l : List Message). IsIn i (results_said l)) (between_sent_by controller_message (actor.Controller p) (actor.Switch s) (actor.Controller p) asking.letters refl) among);
      marked = λ s i there is. absurd (true≢false (sym is));
    };
  }

  late : most_failures leader ≡ 0 → early → ⊥
  late alone e =
      let all = opens.whole kinds setup few w quorum at best picked small ready covered chosen voters promise sw older alone in
      let long = started_within start leader (leading.leads_with setup.controllers w quorum at best picked small ready covered chosen voters) in
      let more = (opens.grown kinds setup few w quorum at best picked small ready covered chosen voters promise sw older).commit in
      absurd (omega (arith, all, long, more, e))

  pub clears_start : (members : ℕ → VrState) → ClearRoom kinds setup p start end.state members sw (map (sent_by controller_message (actor.Controller p)) end.letters)
  clears_start members =
      (works.settling_clear kinds setup p life early [] leader.commit asking (record {
        front = works.answers_clear kinds setup p life early [] (committed asking.state) no_marks asking leader.commit (prefix_refl (committed asking.state))
            (None_processed (ap places_processed (drop_all leader.commit (take leader.commit leader.log) (let few = length-take leader.commit leader.log in omega (arith, few))))) asking_front;
        within = opens.within kinds setup few w quorum at best picked small ready covered chosen voters promise sw older;
        whole = λ is. opens.whole kinds setup few w quorum at best picked small ready covered chosen voters promise sw older (eqb-true (most_failures leader) 0 is);
        late = λ is. late (eqb-true (most_failures leader) 0 is);
      })).front.holds

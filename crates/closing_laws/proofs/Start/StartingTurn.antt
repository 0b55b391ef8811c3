-- The last message before a view starts is drawn: the primary starts the view in that turn, and posts what it says.
use Rattle.std.proofs.Common.{◌≡◌, ◌<◌, ◌⊎◌, inl, inr, ℕ, ◌%◌, Bool, true, false, List, [], ◌∷◌, ◌++◌, map, length, refl, sym, ◌∙◌, ap, subst, arith}
use Rattle.std.specs.Prelude.{nat_eq, None, if◌then◌else◌}
use Rattle.std.proofs.lemmas.Bool.{eq-eqb, eqb-false, ne_eqb}
use Rattle.of_types.specs.Setups.{IsSetup}
use Rattle.journal.specs.declared.journal.Actor.{Actor}
use Rattle.journal.specs.declared.journal.Actor.TheVariants as actor
use Rattle.journal.specs.declared.journal.JournalEntry.{JournalEntry}
use Rattle.journal.specs.declared.journal.JournalEntry.TheVariants.{Post, Draw, Lose, Local, Idle, Refused}
use Rattle.journal.specs.declared.journal.Letter.{Letter}
use Rattle.journal.specs.declared.journal.Packet.{Packet}
use Rattle.journal.specs.declared.journal.SaveResult.{SaveResult}
use Rattle.journal.specs.Pool.{pool, numbered_letters}
use Rattle.journal.specs.Turns.{IsWithinLimits}
use Rattle.vr_log.specs.declared.state.VrState.{VrState}
use Rattle.vr_log.specs.Choosing.{greatest_commit}
use Rattle.vr_log.specs.Log.{is_log}
use Rattle.vr_log.specs.Members.{leads, most_failures}
use Rattle.view_change.specs.Entering.{tells_start}
use Rattle.group_controller.specs.declared.messages.ControllerSays.{ControllerSays}
use Rattle.group_controller.specs.State.{ControllerState, Work, with_no_met_limit}
use Rattle.group_controller.specs.Rules.{after_step}
use Rattle.run_spec.specs.declared.messages.Unsealed.TheVariants as unsealed
use Rattle.run_spec.specs.Committed.{switch_state}
use Rattle.run_spec.specs.States.{Scene, IsFaithful, ControllerAt, content, controller_message, sealed_letters}
use Rattle.run_spec.specs.Legal.{IsPossible}
use Rattle.run_spec.specs.Script.{IsPosted}
use Rattle.run_spec.specs.Closing.{ClosingAnswer, IsEnd, Phase, Draining, ClosingMove, ClosesTo, IsMove, after_member, count_turns, drained, next_move}
use Rattle.run_spec.proofs.Pasts.{possible_before, self_controller}
use Rattle.run_laws.proofs.RunAgreement.Pasts.{fits}
use Rattle.closing_laws.specs.Quorum.{has}
use Rattle.closing_laws.specs.Draining.{Flight, GroupState}
use Rattle.closing_laws.specs.Views.{IsReadyMember, log_of, started_with, tellers}
use Rattle.closing_laws.specs.Starts.{HasStartedIn, SavesSucceed, starting_turn}
use Rattle.closing_laws.proofs.Journal.Posting.{Done, Next, Posting, later, never_posts, next_of, owes_nothing, pool_grows, possible_under, posted_all, posted_holds, poster, says_posted, sealed_length, switches_stay, within_under}
use Rattle.closing_laws.proofs.Journal.Taking.{AllCarry, HeadOf, TurnOf, at, changing_leads_not, head_of, others_stay, starting_work, Carries}
use Rattle.closing_laws.proofs.Lists.Paired.{paired_none}
use Rattle.closing_laws.proofs.Pool.Room.{finds_room}
use Rattle.closing_laws.proofs.Pool.StartingLetters.{IsSized, starting_few}
use Rattle.closing_laws.proofs.Start.Paths.{IsLast}
use Rattle.closing_laws.proofs.Start.Walking as walking
use Rattle.closing_laws.proofs.Start.Walking.{seven_at_most}

module _ {B : Type 0} (scene : Scene B) (results : List (List SaveResult)) (setup : IsSetup scene.setup) (faithful : IsFaithful scene.sealing) (w : ℕ) (quorum : List ℕ)
    (small : (c : ℕ) → has quorum c ≡ true → c < scene.setup.controllers) (before : List (JournalEntry B)) (succeed : SavesSucceed scene results before) where
  module _ (z : GroupState) (start : ℕ → VrState) (best : ℕ) (ends : IsLast scene.setup.controllers w quorum start best z) (leader : IsReadyMember scene.setup.controllers w (w % scene.setup.controllers) (start (w % scene.setup.controllers)))
      (leads_it : has quorum (w % scene.setup.controllers) ≡ true) (one_log : is_log (start best).log ≡ true) where
    abbrev m : ℕ
    m = scene.setup.controllers

    -- the turn that starts the view
    abbrev started_member : VrState
    started_member = started_with (start (w % m)) w (ends.voters (w % m)) (map (log_of start) (tellers (w % m) quorum)) (start best).log

    sized : IsSized started_member
    sized = record {
      small = (let is = leader.size in let seven = seven_at_most m setup.group in omega (arith, is, seven));
      one = one_log;
      whole = λ none. ap (λ (b : Bool). if b then length (start best).log else greatest_commit (start (w % m)).commit (map (log_of start) (tellers (w % m) quorum))) (eq-eqb (most_failures started_member) 0 none);
    }

    abbrev turn_work : Work
    turn_work = starting_turn scene.kinds scene.setup None started_member

    abbrev last_flight : Flight
    last_flight = record { from = ends.sender; to = w % m; message = ends.message }

    -- the first entries bring the view to its start
    pub record Begun (P : List (JournalEntry B)) (entries : List (JournalEntry B)) (last : Phase) : Type 0 where
      pub first : List (JournalEntry B)
      pub rest : List (JournalEntry B)
      pub joined : entries ≡ first ++ rest
      pub one : count_turns first ≡ 1
      pub started : HasStartedIn scene results w quorum start best (later P first)
      pub unchanged : (t : ℕ) → switch_state scene t (later P first) ≡ switch_state scene t before
      pub posted : IsPosted scene results (later P first)
      pub goes_on : ClosesTo scene results (after_member w (at scene results (w % m) (later P first)).now (Draining w quorum)) (later P first) rest last

    module _ (P : List (JournalEntry B)) (h : HeadOf scene results (pool P) last_flight []) (stands : walking.Stands scene results setup faithful w quorum small before succeed P z) where
      abbrev start_draw : JournalEntry B
      start_draw = Draw (actor.Controller (w % m)) h.packet.id false

      turn_is : TurnOf scene results (w % m) start_draw P turn_work
      turn_is =
          let c = (at scene results (w % m) P).now in
          let changing = ends.changes (w % m) leads_it in
          let before_not : leads c.vr ≡ false = ap leads (stands.holds.members (w % m) (small (w % m) leads_it)) ∙ changing_leads_not (z.at (w % m)) changing in
          let now : leads started_member ≡ true = eq-eqb (w % (start (w % m)).controllers) (start (w % m)).me (ap (λ (k : ℕ). w % k) leader.size ∙ sym leader.me) in
          subst (λ (x : Work). TurnOf scene results (w % m) start_draw P x)
          (walking.drawn_work scene results setup faithful w quorum small before succeed z last_flight [] P h z stands leads_it changing
          ∙ ap (after_step scene.kinds scene.setup (with_no_met_limit c)) ends.starts
          ∙ starting_work scene.kinds scene.setup (with_no_met_limit c) (tells_start started_member) before_not now)
          (walking.draw_turn scene results setup faithful w quorum small before succeed z last_flight [] P h z stands leads_it)

      stays_there : (c : ℕ) → nat_eq c (w % m) ≡ false → c < m → (at scene results c (start_draw ∷ P)).now.vr ≡ z.at c
      stays_there c other lt =
          ap (λ (x : ControllerAt). x.now.vr) (others_stay scene results (w % m) start_draw P refl c (ne_eqb (w % m) c (λ i. eqb-false c (w % m) other (sym i)))) ∙ stands.holds.members c lt

      not_leader : (c : ℕ) → has quorum c ≡ false → nat_eq c (w % m) ≡ false
      not_leader c out = ne_eqb c (w % m) (λ e. differ (sym leads_it ∙ ap (has quorum) (sym e) ∙ out))
        where
          differ : true ≡ false → ⊥
          differ i = cc

      -- where the controllers are as after the draw
      begun_in : (Q : List (JournalEntry B)) → ((c : ℕ) → (at scene results c Q).now ≡ (at scene results c (start_draw ∷ P)).now) → (number : ℕ) →
          pool Q ≡ numbered_letters number (actor.Controller (w % m)) (sealed_letters controller_message scene.sealing turn_work.letters) →
          map (content scene.sealing) (pool Q) ≡ map (λ (l : Letter ControllerSays). unsealed.Message (controller_message l.body)) turn_work.letters → HasStartedIn scene results w quorum start best Q
      begun_in Q same number waits says = record {
        voters = ends.voters;
        promise = None;
        turn = turn_work;
        turn_is = refl;
        primary = same (w % m) ∙ turn_is.now;
        others = λ c member other. ap (λ (x : ControllerState). x.vr) (same c) ∙ stays_there c other (small c member) ∙ ends.others c member other;
        outside = λ c lt out. ap (λ (x : ControllerState). x.vr) (same c) ∙ stays_there c (not_leader c out) lt ∙ ends.outside c out;
        number = number;
        waits = waits;
        says = says;
      }

      pool_empty : IsPossible scene results P → pool (start_draw ∷ P) ≡ []
      pool_empty possible = walking.left_head scene results setup faithful w quorum small before succeed z last_flight [] P h possible ∙ paired_none (Carries scene results) h.rest h.others

      -- all that it says in that turn finds room
      start_fits : (first : ℕ) (letters : List (Letter B)) (lost : ℕ) → IsPossible scene results (Post (actor.Controller (w % m)) first letters lost ∷ (start_draw ∷ P)) →
          IsWithinLimits scene.sealing.size (Post (actor.Controller (w % m)) first letters lost ∷ (start_draw ∷ P)) → lost ≡ 0
      start_fits first letters lost possible within =
          let was = possible_before scene results _ (start_draw ∷ P) possible in
          let empty = ap (λ (l : List (Packet B)). length l) (pool_empty (possible_before scene results start_draw P was)) in
          let same = (fits scene results (Post (actor.Controller (w % m)) first letters lost) (start_draw ∷ P) possible (w % m) (self_controller (w % m))).0 in
          let said = ap (λ (l : List (Letter B)). length l) same in
          let sealed = sealed_length controller_message scene.sealing (at scene results (w % m) (start_draw ∷ P)).owed in
          let owed = ap (λ (l : List (Letter ControllerSays)). length l) turn_is.owed in
          let few = starting_few scene.kinds scene.setup setup.few None started_member sized in
          finds_room scene.sealing.size (actor.Controller (w % m)) first letters lost (start_draw ∷ P) possible.orderly within (omega (arith, empty, said, sealed, owed, few))

      abbrev phase_then : Phase
      phase_then = after_member w (at scene results (w % m) (start_draw ∷ P)).now (Draining w quorum)

      starts_goes : (rest : List (JournalEntry B)) (last : Phase) → ClosesTo scene results phase_then (start_draw ∷ P) rest last → IsPossible scene results (later (start_draw ∷ P) rest) →
          IsPosted scene results (later (start_draw ∷ P) rest) → IsWithinLimits scene.sealing.size (later (start_draw ∷ P) rest) → Begun P (start_draw ∷ rest) last
      starts_goes rest last closes possible posted within = by_next (next_of scene results phase_then (start_draw ∷ P) rest last closes posted)
        where
          was : IsPossible scene results (start_draw ∷ P)
          was = possible_under scene results rest (start_draw ∷ P) possible

          by_next : Next scene results (start_draw ∷ P) rest → Begun P (start_draw ∷ rest) last
          by_next (Done done) =
              let none : turn_work.letters ≡ [] = sym turn_is.owed ∙ owes_nothing scene results (start_draw ∷ P) P start_draw (w % m) refl refl done in
              let empty = pool_empty (possible_before scene results start_draw P was) in
              record {
                first = start_draw ∷ [];
                rest = rest;
                joined = refl;
                one = refl;
                started =
                    (begun_in (start_draw ∷ P) (λ c. refl) 0
                    (empty ∙ ap (λ (ls : List (Letter ControllerSays)). numbered_letters 0 (actor.Controller (w % m)) (sealed_letters controller_message scene.sealing ls)) (sym none))
                    (ap (map (content scene.sealing)) empty ∙ ap (map (λ (l : Letter ControllerSays). unsealed.Message (controller_message l.body))) (sym none)));
                unchanged = λ t. switches_stay scene results (w % m) start_draw P refl t ∙ stands.holds.switches t;
                posted = done;
                goes_on = closes;
              }
          by_next (Posting a first letters lost more is input) =
              let whose : a ≡ actor.Controller (w % m) = poster scene results (start_draw ∷ P) P start_draw (w % m) a refl refl input in
              let split : rest ≡ Post (actor.Controller (w % m)) first letters lost ∷ more = is ∙ ap (λ (b : Actor). Post b first letters lost ∷ more) whose in
              let it : JournalEntry B = Post (actor.Controller (w % m)) first letters lost in
              let after : IsPossible scene results (it ∷ (start_draw ∷ P)) = possible_under scene results more (it ∷ (start_draw ∷ P)) (subst (λ (l : List (JournalEntry B)). IsPossible scene results (later (start_draw ∷ P) l)) split possible) in
              let fit : lost ≡ 0 =
              start_fits first letters lost after (within_under scene.sealing.size more (it ∷ (start_draw ∷ P)) (subst (λ (l : List (JournalEntry B)). IsWithinLimits scene.sealing.size (later (start_draw ∷ P) l)) split within)) in
              record {
                first = start_draw ∷ (it ∷ []);
                rest = more;
                joined = ap (λ (l : List (JournalEntry B)). start_draw ∷ l) split;
                one = refl;
                started =
                    (begun_in (it ∷ (start_draw ∷ P)) (λ c. (posted_holds scene results (w % m) first letters lost (start_draw ∷ P) c).0) first
                    (pool_grows scene results (w % m) first letters lost (start_draw ∷ P) after fit
                    ∙ ap (λ (ps : List (Packet B)). ps ++ numbered_letters first (actor.Controller (w % m)) (sealed_letters controller_message scene.sealing (at scene results (w % m) (start_draw ∷ P)).owed))
                    (pool_empty (possible_before scene results start_draw P was))
                    ∙ ap (λ (ls : List (Letter ControllerSays)). numbered_letters first (actor.Controller (w % m)) (sealed_letters controller_message scene.sealing ls)) turn_is.owed)
                    (says_posted scene results (w % m) first letters lost (start_draw ∷ P) after fit setup faithful (pool_empty (possible_before scene results start_draw P was))
                    ∙ ap (map (λ (l : Letter ControllerSays). unsealed.Message (controller_message l.body))) turn_is.owed));
                unchanged = λ t. switches_stay scene results (w % m) it (start_draw ∷ P) refl t ∙ switches_stay scene results (w % m) start_draw P refl t ∙ stands.holds.switches t;
                posted = posted_all scene results (w % m) first letters lost (start_draw ∷ P);
                goes_on =
                    subst (λ (c : ControllerState). ClosesTo scene results (after_member w c (Draining w quorum)) (it ∷ (start_draw ∷ P)) more last)
                    (sym (posted_holds scene results (w % m) first letters lost (start_draw ∷ P) (w % m)).0)
                    (subst (λ (l : List (JournalEntry B)). ClosesTo scene results phase_then (start_draw ∷ P) l last) split closes).1;
              }

    module _ (P : List (JournalEntry B)) (stands : walking.Stands scene results setup faithful w quorum small before succeed P z) where
      head_here : HeadOf scene results (pool P) last_flight []
      head_here = head_of scene results (pool P) last_flight [] (subst (λ (fs : List Flight). AllCarry scene results (pool P) fs) ends.waits stands.carries)

      pub last_turn : (e : JournalEntry B) (rest : List (JournalEntry B)) (last phase : Phase) → walking.PhaseOf scene results setup faithful w quorum small before succeed phase [] → (next : Phase) → IsMove (next_move scene results phase P) e next → walking.Here scene results setup faithful w quorum small before succeed rest P last e next → Begun P (e ∷ rest) last
      last_turn e rest last phase at_phase next move here =
          let h = head_here in
          let m' = subst (λ (v : ClosingMove B). IsMove v e next) (walking.next_is scene results setup faithful w quorum small before succeed z last_flight [] P h phase at_phase) move in
          let e_is = m'.0 ∙ walking.drawn_entry scene results setup faithful w quorum small before succeed z last_flight [] P h leads_it in
          let here' = walking.here_is scene results setup faithful w quorum small before succeed rest P last e (Draw (actor.Controller (w % m)) h.packet.id false) next (Draining w quorum) e_is m'.1 here in
          subst (λ (x : JournalEntry B). Begun P (x ∷ rest) last) (sym e_is) (starts_goes P h stands rest last here'.0 here'.1 here'.2 here'.3)

      pub no_end : (phase : Phase) → walking.PhaseOf scene results setup faithful w quorum small before succeed phase [] → (answer : ClosingAnswer) → IsEnd (next_move scene results phase P) answer → ⊥
      no_end phase at_phase answer end = let h = head_here in walking.never_ends scene results setup faithful w quorum small before succeed z P phase (drained quorum h.packet) (Draining w quorum) answer (walking.next_is scene results setup faithful w quorum small before succeed z last_flight [] P h phase at_phase) end

      pub begins : (entries : List (JournalEntry B)) (last phase : Phase) → walking.PhaseOf scene results setup faithful w quorum small before succeed phase [] → ClosesTo scene results phase P entries last → IsPossible scene results (later P entries) → IsPosted scene results (later P entries) →
          IsWithinLimits scene.sealing.size (later P entries) →
          (((answer : ClosingAnswer) → IsEnd (next_move scene results last (later P entries)) answer → ⊥) × (entries ≡ [])) ⊎ Begun P entries last
      begins [] last phase at_phase closes possible posted within = inl ((λ answer end. no_end phase at_phase answer (subst (λ (x : Phase). IsEnd (next_move scene results x P) answer) closes end)), refl)
      begins (Post a first letters lost ∷ rest) last phase at_phase closes possible posted within =
          absurd (never_posts scene results P stands.posted a first letters lost closes.0 (possible_under scene results rest (Post a first letters lost ∷ P) possible))
      begins (Draw a id keep ∷ rest) last phase at_phase closes possible posted within = inr (last_turn (Draw a id keep) rest last phase at_phase closes.1.0 closes.1.1 (closes.1.2, possible, posted, within))
      begins (Lose a id ∷ rest) last phase at_phase closes possible posted within = inr (last_turn (Lose a id) rest last phase at_phase closes.1.0 closes.1.1 (closes.1.2, possible, posted, within))
      begins (Local a input ∷ rest) last phase at_phase closes possible posted within = inr (last_turn (Local a input) rest last phase at_phase closes.1.0 closes.1.1 (closes.1.2, possible, posted, within))
      begins (Idle a ∷ rest) last phase at_phase closes possible posted within = inr (last_turn (Idle a) rest last phase at_phase closes.1.0 closes.1.1 (closes.1.2, possible, posted, within))
      begins (Refused a ∷ rest) last phase at_phase closes possible posted within = inr (last_turn (Refused a) rest last phase at_phase closes.1.0 closes.1.1 (closes.1.2, possible, posted, within))

-- A closing goes the way of its members, entry by entry, until the turn that starts its view.
use Rattle.std.proofs.Common.{◌≡◌, ◌≤◌, ◌<◌, ℕ, zero, ◌+◌, ◌*◌, ◌%◌, Bool, true, false, List, [], ◌∷◌, ◌++◌, map, suc, length, Contains, refl, sym, ◌∙◌, ap, subst, arith}
use Rattle.std.specs.Prelude.{nat_eq, not, cond, slice_index_or, Option, Some, None, if◌then◌else◌}
use Rattle.std.specs.List.{AllByRecursion}
use Rattle.std.proofs.lemmas.Bool.{eqb-true, eqb-false, ne_eqb}
use Rattle.std.proofs.lemmas.List.{length-append, length-map}
use Rattle.std.proofs.lemmas.List.Sums.{sum_by-cons}
use Rattle.of_types.specs.Setups.{IsSetup}
use Rattle.journal.specs.declared.journal.Actor.{Actor}
use Rattle.journal.specs.declared.journal.Actor.TheVariants as actor
use Rattle.journal.specs.declared.journal.JournalEntry.{JournalEntry}
use Rattle.journal.specs.declared.journal.JournalEntry.TheVariants.{Post, Draw, Lose, Local, Idle, Refused}
use Rattle.journal.specs.declared.journal.Letter.{Letter}
use Rattle.journal.specs.declared.journal.Local.TheVariants as local
use Rattle.journal.specs.declared.journal.Packet.{Packet}
use Rattle.journal.specs.declared.journal.SaveResult.{SaveResult}
use Rattle.journal.specs.declared.journal.SaveResult.TheVariants.{Saved}
use Rattle.journal.specs.Actors.{actor_of}
use Rattle.journal.specs.Part.{packet_of, part}
use Rattle.journal.specs.Pool.{pool, numbered_letters, letters_posted, without}
use Rattle.journal.specs.Turns.{IsWithinLimits}
use Rattle.journal.proofs.Pools.{Rising, Rising-pool}
use Rattle.vr_log.specs.declared.message.VrLetter.{VrLetter}
use Rattle.vr_log.specs.declared.message.VrMessage.{VrMessage}
use Rattle.vr_log.specs.declared.state.VrState.{VrState}
use Rattle.vr_log.specs.Members.{is_up, is_changing}
use Rattle.vr_log.specs.Steps.{VrStep}
use Rattle.vr_core.specs.declared.input.VrInput.{VrInput}
use Rattle.vr_core.specs.declared.input.VrInput.TheVariants as vr_input
use Rattle.vr_core.specs.Step.{vr_step}
use Rattle.controller_moves.specs.Spelling.{IsValidTo}
use Rattle.group_controller.specs.declared.messages.ControllerInput.{ControllerInput}
use Rattle.group_controller.specs.declared.messages.ControllerInput.TheVariants as controller_input
use Rattle.group_controller.specs.declared.messages.ControllerSays.{ControllerSays}
use Rattle.group_controller.specs.State.{ControllerState, Work, stepped, to_member, to_members, with_no_met_limit}
use Rattle.group_controller.specs.Rules.{after_step, controller_work}
use Rattle.run_spec.specs.declared.messages.Unsealed.{Unsealed}
use Rattle.run_spec.specs.Committed.{switch_state}
use Rattle.run_spec.specs.Messages.{FitsMessage}
use Rattle.run_spec.specs.States.{Scene, IsFaithful, ControllerAt, content, controller_hears, controller_message, sealed_letters}
use Rattle.run_spec.specs.Legal.{IsPossible, results_of}
use Rattle.run_spec.specs.Script.{IsInputOf, IsPosted}
use Rattle.run_spec.specs.Closing.{ClosingAnswer, IsEnd, Phase, Suspecting, Draining, Losing, ClosingMove, Takes, ClosesTo, IsMove, after_member, after_move, count_turns, drained, is_drawn, is_turn, met_by, next_drained, next_move}
use Rattle.run_spec.proofs.Pasts.{possible_before, self_controller}
use Rattle.run_laws.proofs.RunAgreement.Pasts.{fits}
use Rattle.run_laws.proofs.RunAgreement.Spelling.{all_spelled}
use Rattle.run_laws.proofs.Events.{events_valid}
use Rattle.run_laws.proofs.Laws.{always}
use Rattle.run_laws.proofs.Members.{owned_at}
use Rattle.closing_laws.specs.Quorum.{has}
use Rattle.closing_laws.specs.Draining.{Flight, GroupState, flown, suspected, took_flight}
use Rattle.closing_laws.specs.Starts.{SavesSucceed}
use Rattle.closing_laws.proofs.Journal.Posting.{later, map_none, never_posts, owes_nothing, pool_grows, possible_under, posted_all, posted_holds, poster, sealed_length, switches_stay, within_under}
use Rattle.closing_laws.proofs.Journal.Taking.{AllCarry, By_message, By_suspicion, HeadOf, TurnOf, at, carry_both, changing_up, finds_head, head_of, leaves_head, member_work, others_stay, own_steps, posts_carry, quiet_work, turn_draw, turn_local, Carries}
use Rattle.closing_laws.proofs.Lists.Paired.{paired_length}
use Rattle.closing_laws.proofs.Pool.FewLetters.{hears_few, suspects_few}
use Rattle.closing_laws.proofs.Pool.Room.{finds_room}
use Rattle.closing_laws.proofs.Start.Paths.{Path, Arrives, Suspects, Draws, Loses, hears, path_turns}

both_same : {X : Type 0} (b : Bool) (x : X) → (if b then x else x) ≡ x
both_same true x = refl
both_same false x = refl

-- a controller that is up, and met no limit, leaves the phase
stays : (w : ℕ) (c : ControllerState) (next : Phase) → is_up c.vr ≡ true → c.full ≡ None → after_member w c next ≡ next
stays w c next up full =
    ap (λ (b : Bool). if not b then Losing else if nat_eq (w % c.vr.controllers) c.vr.me then met_by c.full next else next) up
    ∙ ap (λ (o : Option _). if nat_eq (w % c.vr.controllers) c.vr.me then met_by o next else next) full
    ∙ both_same (nat_eq (w % c.vr.controllers) c.vr.me) next

-- a group has at most seven members
pub seven_at_most : (n : ℕ) → Contains (1 ∷ 3 ∷ 5 ∷ 7 ∷ []) n → n ≤ 7
seven_at_most n (zero, less, e) = rw (sym e) (omega arith)
seven_at_most n (suc zero, less, e) = rw (sym e) (omega arith)
seven_at_most n (suc (suc zero), less, e) = rw (sym e) (omega arith)
seven_at_most n (suc (suc (suc zero)), less, e) = rw (sym e) (omega arith)
seven_at_most n (suc (suc (suc (suc k))), less, e) = absurd (omega (arith, less))

-- a message from a member, or a suspicion
pub data IsHeard : VrInput → Type 0 where
  Hears_of : (from : ℕ) (said : VrMessage) → IsHeard (vr_input.From from said)
  Suspects_it : (view : ℕ) → IsHeard (vr_input.Suspect view)

-- no member says more in one turn
abbrev pub most_said : ℕ
most_said = 16

module _ {B : Type 0} (scene : Scene B) (results : List (List SaveResult)) (setup : IsSetup scene.setup) (faithful : IsFaithful scene.sealing) (w : ℕ) (quorum : List ℕ)
    (small : (c : ℕ) → has quorum c ≡ true → c < scene.setup.controllers) (before : List (JournalEntry B)) (succeed : SavesSucceed scene results before) where
  -- the controllers hold these members, and the switches are as before
  pub record Holds (P : List (JournalEntry B)) (g : GroupState) : Type 0 where
    pub members : (c : ℕ) → c < scene.setup.controllers → (at scene results c P).now.vr ≡ g.at c
    pub saves : (c : ℕ) → (at scene results c before).saves ≤ (at scene results c P).saves
    pub switches : (t : ℕ) → switch_state scene t P ≡ switch_state scene t before
    pub few : length g.pool ≤ most_said * g.turns

  -- and what waits is what waits between them. All was posted
  pub record Stands (P : List (JournalEntry B)) (g : GroupState) : Type 0 where
    pub holds : Holds P g
    pub carries : AllCarry scene results (pool P) g.pool
    pub posted : IsPosted scene results P

  -- one of them has taken a turn, and did not post yet
  pub record Owes (P : List (JournalEntry B)) (g : GroupState) : Type 0 where
    pub member : ℕ
    pub there : member < scene.setup.controllers
    pub newest : JournalEntry B
    pub older : List (JournalEntry B)
    pub is : P ≡ newest ∷ older
    pub whose : actor_of newest ≡ actor.Controller member
    pub letters : List VrLetter
    pub waiting : List Flight
    pub owed : (at scene results member P).owed ≡ to_members letters
    pub carries : AllCarry scene results (pool P) waiting
    pub pool_is : g.pool ≡ waiting ++ map (flown member) letters
    pub holds : Holds P g

  pub data Mode (P : List (JournalEntry B)) (g : GroupState) : Type 0 where
    Rests : Stands P g → Mode P g
    Owing : Owes P g → Mode P g

  no_letters : (letters : List VrLetter) → to_members letters ≡ [] → letters ≡ []
  no_letters letters h = map_none _ letters h

  pub rested : (P : List (JournalEntry B)) (g : GroupState) → Mode P g → IsPosted scene results P → Stands P g
  rested P g (Rests s) posted = s
  rested P g (Owing o) posted =
      let none : o.letters ≡ [] = no_letters o.letters (sym o.owed ∙ owes_nothing scene results P o.older o.newest o.member o.is o.whose posted) in
      let same : o.waiting ≡ g.pool = sym (nothing_more o.waiting) ∙ ap (λ (ls : List VrLetter). o.waiting ++ map (flown o.member) ls) (sym none) ∙ sym o.pool_is in
      record { holds = o.holds; carries = subst (λ (fs : List Flight). AllCarry scene results (pool P) fs) same o.carries; posted = posted }
    where
      nothing_more : (fs : List Flight) → fs ++ [] ≡ fs
      nothing_more [] = refl
      nothing_more (f ∷ fs) = ap (λ (l : List Flight). f ∷ l) (nothing_more fs)

  module _ (m first : ℕ) (letters : List (Letter B)) (lost : ℕ) (P : List (JournalEntry B)) (possible : IsPossible scene results (Post (actor.Controller m) first letters lost ∷ P)) (room : lost ≡ 0) where
    abbrev post : JournalEntry B
    post = Post (actor.Controller m) first letters lost

    pub stands_posted : (g : GroupState) (vs : List VrLetter) (waiting : List Flight) → m < scene.setup.controllers → (at scene results m P).owed ≡ to_members vs → AllCarry scene results (pool P) waiting →
        g.pool ≡ waiting ++ map (flown m) vs → Holds P g → Stands (post ∷ P) g
    stands_posted g vs waiting there owed carries is holds =
        let old = possible_before scene results post P possible in
        let valid = events_valid scene results P old (λ i. always scene results setup faithful P old (suc i)) in
        let may = ((all_spelled scene results faithful P old valid).controllers m there).owed in
        let typed = (fits scene results post P possible m (self_controller m)).2 in
        let new = posts_carry scene results faithful m first vs
        (subst (λ (ls : List (Letter ControllerSays)). AllByRecursion (λ l. IsValidTo l.to l.body) ls) owed may)
        (subst (λ (ls : List (Letter ControllerSays)). AllByRecursion (λ l. FitsMessage (controller_message l.body)) ls) owed typed) in
        let all = carry_both scene results (pool P) (numbered_letters first (actor.Controller m) (sealed_letters controller_message scene.sealing (to_members vs))) waiting (map (flown m) vs) carries new in
        let grown = pool_grows scene results m first letters lost P possible room ∙ ap (λ (ls : List (Letter ControllerSays)). pool P ++ numbered_letters first (actor.Controller m) (sealed_letters controller_message scene.sealing ls)) owed in
        record {
          holds = record {
            members = λ c lt. ap (λ (x : ControllerState). x.vr) (posted_holds scene results m first letters lost P c).0 ∙ holds.members c lt;
            saves = λ c. let same = (posted_holds scene results m first letters lost P c).1 in let low = holds.saves c in omega (arith, same, low);
            switches = λ t. switches_stay scene results m post P refl t ∙ holds.switches t;
            few = holds.few;
          };
          carries = subst (λ (ps : List (Packet B)). AllCarry scene results ps g.pool) (sym grown) (subst (λ (fs : List Flight). AllCarry scene results (pool P ++ numbered_letters first (actor.Controller m) (sealed_letters controller_message scene.sealing (to_members vs))) fs) (sym is) all);
          posted = posted_all scene results m first letters lost P;
        }

  -- what is owed is posted
  pub posts : (P : List (JournalEntry B)) (g : GroupState) → Mode P g → (a : Actor) (first : ℕ) (letters : List (Letter B)) (lost : ℕ) → IsInputOf a P → IsPossible scene results (Post a first letters lost ∷ P) → lost ≡ 0 →
      Stands (Post a first letters lost ∷ P) g
  posts P g (Owing o) a first letters lost input possible room =
      let whose = poster scene results P o.older o.newest o.member a o.is o.whose input in
      subst (λ (b : Actor). Stands (Post b first letters lost ∷ P) g) (sym whose)
      (stands_posted o.member first letters lost P (subst (λ (b : Actor). IsPossible scene results (Post b first letters lost ∷ P)) whose possible) room g o.letters o.waiting o.there o.owed o.carries o.pool_is o.holds)
  posts P g (Rests s) a first letters lost input possible room = absurd (never_posts scene results P s.posted a first letters lost input possible)

  -- a turn behind which the view still changes
  module _ (m : ℕ) (e : JournalEntry B) (P : List (JournalEntry B)) (g : GroupState) (step : VrStep) (there : m < scene.setup.controllers) (whose : actor_of e ≡ actor.Controller m) (holds : Holds P g)
      (turn : TurnOf scene results m e P (stepped (with_no_met_limit (at scene results m P).now) step)) where
    took_holds : (waiting : List Flight) → length waiting ≤ length g.pool → length step.letters ≤ most_said → Holds (e ∷ P) (took_flight g m step waiting)
    took_holds waiting shorter said = record {
      members = λ c lt. member c (nat_eq c m) refl (holds.members c lt);
      saves = λ c. saved c (nat_eq c m) refl (holds.saves c);
      switches = λ t. switches_stay scene results m e P whose t ∙ holds.switches t;
      few =
          let all = length-append waiting (map (flown m) step.letters) in
          let same = length-map step.letters (flown m) in
          let old = holds.few in
          omega (arith, all, same, old, shorter, said);
    }
      where
        member : (c : ℕ) (b : Bool) → nat_eq c m ≡ b → (at scene results c P).now.vr ≡ g.at c → (at scene results c (e ∷ P)).now.vr ≡ (if b then step.state else g.at c)
        member c true is old = subst (λ (k : ℕ). (at scene results k (e ∷ P)).now.vr ≡ step.state) (sym (eqb-true c m is)) (ap (λ (x : ControllerState). x.vr) turn.now)
        member c false is old = ap (λ (x : ControllerAt). x.now.vr) (others_stay scene results m e P whose c (ne_eqb m c (λ i. eqb-false c m is (sym i)))) ∙ old

        saved : (c : ℕ) (b : Bool) → nat_eq c m ≡ b → (at scene results c before).saves ≤ (at scene results c P).saves → (at scene results c before).saves ≤ (at scene results c (e ∷ P)).saves
        saved c true is old =
            let same = eqb-true c m is in
            let more = subst (λ (k : ℕ). (at scene results k P).saves ≤ (at scene results k (e ∷ P)).saves) (sym same) turn.saves in
            omega (arith, old, more)
        saved c false is old =
            let same = ap (λ (x : ControllerAt). x.saves) (others_stay scene results m e P whose c (ne_eqb m c (λ i. eqb-false c m is (sym i)))) in
            omega (arith, old, same)

    pub took_owes : (waiting : List Flight) → length waiting ≤ length g.pool → length step.letters ≤ most_said → AllCarry scene results (pool (e ∷ P)) waiting → Owes (e ∷ P) (took_flight g m step waiting)
    took_owes waiting shorter said carries = record {
      member = m;
      there = there;
      newest = e;
      older = P;
      is = refl;
      whose = whose;
      letters = step.letters;
      waiting = waiting;
      owed = turn.owed;
      carries = carries;
      pool_is = refl;
      holds = took_holds waiting shorter said;
    }

    pub took_stays : (next : Phase) → is_changing step.state ≡ true → after_member w (at scene results m (e ∷ P)).now next ≡ next
    took_stays next changes = stays w (at scene results m (e ∷ P)).now next
        (ap (λ (x : ControllerState). is_up x.vr) turn.now ∙ changing_up step.state changes) (ap (λ (x : ControllerState). x.full) turn.now)

  -- what a member says in one turn
  says_little : (P : List (JournalEntry B)) (g : GroupState) → Holds P g → (m : ℕ) → m < scene.setup.controllers → (input : VrInput) → IsHeard input → length (vr_step (g.at m) input).letters ≤ most_said
  says_little P g holds m there input heard = by_input input heard
    where
      size : (g.at m).controllers ≡ scene.setup.controllers
      size = ap (λ (s : VrState). s.controllers) (sym (holds.members m there)) ∙ (owned_at scene (results_of results m) m (part (actor.Controller m) P)).now.all

      by_input : (i : VrInput) → IsHeard i → length (vr_step (g.at m) i).letters ≤ most_said
      by_input _ (Hears_of from said) = let few = hears_few (g.at m) from said in let is = size in let seven = seven_at_most scene.setup.controllers setup.group in omega (arith, few, is, seven)
      by_input _ (Suspects_it view) = let few = suspects_few (g.at m) view in let is = size in let seven = seven_at_most scene.setup.controllers setup.group in omega (arith, few, is, seven)

  -- which saves succeed
  pub still_succeed : (P : List (JournalEntry B)) (g : GroupState) → Holds P g → (m : ℕ) → m < scene.setup.controllers → (i : ℕ) → (at scene results m P).saves ≤ i → slice_index_or (results_of results m) i Saved ≡ Saved
  still_succeed P g holds m there i le = let low = holds.saves m in succeed m i there (omega (arith, low, le))

  -- where a closing stands, and who is still to suspect
  pub data PhaseOf : Phase → List ℕ → Type 0 where
    Still : (ms : List ℕ) → PhaseOf (Suspecting w quorum ms) ms
    Now : PhaseOf (Draining w quorum) []

  -- what is known of an entry that comes next
  abbrev pub Here : (rest : List (JournalEntry B)) (P : List (JournalEntry B)) (last : Phase) → JournalEntry B → Phase → Type 0
  Here rest P last e next =
      ClosesTo scene results (after_move scene results e P next) (e ∷ P) rest last × IsPossible scene results (later (e ∷ P) rest) × IsPosted scene results (later (e ∷ P) rest) × IsWithinLimits scene.sealing.size (later (e ∷ P) rest)

  pub here_is : (rest P : List (JournalEntry B)) (last : Phase) (e e' : JournalEntry B) (next next' : Phase) → e ≡ e' → next ≡ next' → Here rest P last e next → Here rest P last e' next'
  here_is rest P last e e' next next' is goes h = subst (λ (x : JournalEntry B). Here rest P last x next') is (subst (λ (y : Phase). Here rest P last e y) goes h)

  module _ (z : GroupState) where
    abbrev n : ℕ
    n = scene.setup.controllers

    -- the closing goes on behind these entries, or the first of them bring the group there
    pub data Outcome (P : List (JournalEntry B)) (g : GroupState) (entries : List (JournalEntry B)) (last : Phase) : Type 0 where
      Goes : ((answer : ClosingAnswer) → IsEnd (next_move scene results last (later P entries)) answer → ⊥) → g.turns + count_turns entries ≤ z.turns → Outcome P g entries last
      Reaches : (first rest : List (JournalEntry B)) (phase : Phase) → entries ≡ first ++ rest → g.turns + count_turns first ≡ z.turns → PhaseOf phase [] → Stands (later P first) z →
          ClosesTo scene results phase (later P first) rest last → Outcome P g entries last

    counted : (e : JournalEntry B) (rest : List (JournalEntry B)) → count_turns (e ∷ rest) ≡ (if is_turn e then 1 else 0) + count_turns rest
    counted e rest = sum_by-cons (λ (x : JournalEntry B). cond (is_turn x) 1 0) e rest

    -- one entry more in front
    behind_one : (e : JournalEntry B) (P : List (JournalEntry B)) (g g' : GroupState) (rest : List (JournalEntry B)) (last : Phase) → g'.turns ≡ g.turns + (if is_turn e then 1 else 0) →
        Outcome (e ∷ P) g' rest last → Outcome P g (e ∷ rest) last
    behind_one e P g g' rest last more (Goes never few) = Goes never (let all = counted e rest in omega (arith, all, more, few))
    behind_one e P g g' rest last more (Reaches first later phase is turns at_phase stands closes) =
        Reaches (e ∷ first) later phase (ap (λ (l : List (JournalEntry B)). e ∷ l) is) (let all = counted e first in omega (arith, all, more, turns)) at_phase stands closes

    -- and then the rest
    abbrev Again : List (JournalEntry B) → Phase → List (JournalEntry B) → Type 0
    Again rest last P = (phase : Phase) (ms : List ℕ) (g : GroupState) → PhaseOf phase ms → Mode P g → Path w quorum z ms g → ClosesTo scene results phase P rest last →
        IsPossible scene results (later P rest) → IsPosted scene results (later P rest) → IsWithinLimits scene.sealing.size (later P rest) → Outcome P g rest last

    -- a suspicion
    module _ (m : ℕ) (ms : List ℕ) (g : GroupState) (P rest : List (JournalEntry B)) (last : Phase) (member : has quorum m ≡ true) (up : is_up (g.at m) ≡ true)
        (changes : is_changing (vr_step (g.at m) (vr_input.Suspect w)).state ≡ true) (stands : Stands P g) where
      abbrev suspicion : JournalEntry B
      suspicion = Local (actor.Controller m) (local.Suspect w)

      abbrev step_of_it : VrStep
      step_of_it = vr_step (g.at m) (vr_input.Suspect w)

      holds_it : (at scene results m P).now.vr ≡ g.at m
      holds_it = stands.holds.members m (small m member)

      suspicion_turn : TurnOf scene results m suspicion P (stepped (with_no_met_limit (at scene results m P).now) step_of_it)
      suspicion_turn =
          let c = (at scene results m P).now in
          subst (λ (x : Work). TurnOf scene results m suspicion P x)
          (member_work scene.kinds scene.setup c (controller_input.Local (local.Suspect w)) (vr_input.Suspect w) (By_suspicion w) (ap is_up holds_it ∙ up)
          ∙ ap (λ (s : VrState). after_step scene.kinds scene.setup (with_no_met_limit c) (vr_step s (vr_input.Suspect w))) holds_it
          ∙ quiet_work scene.kinds scene.setup (with_no_met_limit c) step_of_it changes)
          (turn_local scene results m w P (still_succeed P g stands.holds m (small m member)))

      suspects_goes : Path w quorum z ms (suspected g w m) → Here rest P last suspicion (Suspecting w quorum ms) → ((P' : List (JournalEntry B)) → Again rest last P') → Outcome P g (suspicion ∷ rest) last
      suspects_goes path here again =
          let same = took_stays m suspicion P g step_of_it (small m member) refl stands.holds suspicion_turn (Suspecting w quorum ms) changes in
          behind_one suspicion P g (suspected g w m) rest last refl
          (again (suspicion ∷ P) (Suspecting w quorum ms) ms (suspected g w m) (Still ms)
          (Owing (took_owes m suspicion P g step_of_it (small m member) refl stands.holds suspicion_turn g.pool (omega arith) (says_little P g stands.holds m (small m member) (vr_input.Suspect w) (Suspects_it w)) stands.carries)) path
          (subst (λ (x : Phase). ClosesTo scene results x (suspicion ∷ P) rest last) same here.0) here.1 here.2 here.3)

    -- the first packet of the pool
    module _ (f : Flight) (waiting : List Flight) (P : List (JournalEntry B)) (h : HeadOf scene results (pool P) f waiting) where
      found_head : packet_of h.packet.id (pool P) ≡ Some h.packet
      found_head = ap (packet_of h.packet.id) h.is ∙ finds_head h.packet h.rest

      pub left_head : IsPossible scene results P → without h.packet.id (pool P) ≡ h.rest
      left_head possible = ap (without h.packet.id) h.is
          ∙ leaves_head h.packet h.rest (subst (λ (ps : List (Packet B)). Rising (letters_posted P) 0 ps) h.is (Rising-pool scene.sealing.size P possible.orderly))

      heard_head : controller_hears h.packet.from (content scene.sealing h.packet) ≡ controller_input.Vr f.from f.message
      heard_head = ap (λ (a : Actor). controller_hears a (content scene.sealing h.packet)) h.carries.from ∙ ap (λ (u : Unsealed). controller_hears (actor.Controller f.from) u) h.carries.says

      is_drawn_head : is_drawn quorum h.packet.from h.packet.to ≡ has quorum f.to
      is_drawn_head = ap (λ (a : Actor). is_drawn quorum a h.packet.to) h.carries.from ∙ ap (λ (a : Actor). is_drawn quorum (actor.Controller f.from) a) h.carries.to

      pub drawn_entry : has quorum f.to ≡ true → drained quorum h.packet ≡ Draw (actor.Controller f.to) h.packet.id false
      drawn_entry member =
          ap (λ (b : Bool). if b then Draw h.packet.to h.packet.id false else Lose h.packet.to h.packet.id) (is_drawn_head ∙ member)
          ∙ ap (λ (a : Actor). Draw a h.packet.id false) h.carries.to

      lost_entry : has quorum f.to ≡ false → drained quorum h.packet ≡ Lose (actor.Controller f.to) h.packet.id
      lost_entry other =
          ap (λ (b : Bool). if b then Draw h.packet.to h.packet.id false else Lose h.packet.to h.packet.id) (is_drawn_head ∙ other)
          ∙ ap (λ (a : Actor). Lose a h.packet.id) h.carries.to

      -- what is drained next
      pub next_is : (phase : Phase) → PhaseOf phase [] → next_move scene results phase P ≡ Takes (drained quorum h.packet) (Draining w quorum)
      next_is _ (Still _) = ap (next_drained n w quorum) h.is
      next_is _ Now = ap (next_drained n w quorum) h.is

      -- by a member of the quorum
      abbrev draw : JournalEntry B
      draw = Draw (actor.Controller f.to) h.packet.id false

      pub draw_turn : (g : GroupState) → Stands P g → has quorum f.to ≡ true → TurnOf scene results f.to draw P (controller_work scene.kinds scene.setup (at scene results f.to P).now (controller_input.Vr f.from f.message))
      draw_turn g stands member =
          subst (λ (x : ControllerInput). TurnOf scene results f.to draw P (controller_work scene.kinds scene.setup (at scene results f.to P).now x)) heard_head
          (turn_draw scene results f.to h.packet P found_head (still_succeed P g stands.holds f.to (small f.to member)))

      pub drawn_work : (g : GroupState) → Stands P g → has quorum f.to ≡ true → is_changing (g.at f.to) ≡ true →
          controller_work scene.kinds scene.setup (at scene results f.to P).now (controller_input.Vr f.from f.message) ≡
          after_step scene.kinds scene.setup (with_no_met_limit (at scene results f.to P).now) (hears g f)
      drawn_work g stands member changing =
          let c = (at scene results f.to P).now in
          let is : c.vr ≡ g.at f.to = stands.holds.members f.to (small f.to member) in
          member_work scene.kinds scene.setup c (controller_input.Vr f.from f.message) (vr_input.From f.from f.message) (By_message f.from f.message) (ap is_up is ∙ changing_up (g.at f.to) changing)
          ∙ ap (λ (s : VrState). after_step scene.kinds scene.setup (with_no_met_limit c) (vr_step s (vr_input.From f.from f.message))) is

      draws_goes : (g : GroupState) (rest : List (JournalEntry B)) (last : Phase) → g.pool ≡ f ∷ waiting → Stands P g → has quorum f.to ≡ true → is_changing (g.at f.to) ≡ true → is_changing (hears g f).state ≡ true →
          Path w quorum z [] (took_flight g f.to (hears g f) waiting) → Here rest P last draw (Draining w quorum) → ((P' : List (JournalEntry B)) → Again rest last P') → Outcome P g (draw ∷ rest) last
      draws_goes g rest last waits stands member changing changes path here again =
          let behind = ap (λ (l : List Flight). length l) waits in
          let c = (at scene results f.to P).now in
          let turn : TurnOf scene results f.to draw P (stepped (with_no_met_limit c) (hears g f)) =
          subst (λ (x : Work). TurnOf scene results f.to draw P x)
          (drawn_work g stands member changing ∙ quiet_work scene.kinds scene.setup (with_no_met_limit c) (hears g f) changes) (draw_turn g stands member) in
          let same = took_stays f.to draw P g (hears g f) (small f.to member) refl stands.holds turn (Draining w quorum) changes in
          let possible = possible_before scene results draw P (possible_under scene results rest (draw ∷ P) here.1) in
          let carries : AllCarry scene results (pool (draw ∷ P)) waiting = subst (λ (ps : List (Packet B)). AllCarry scene results ps waiting) (sym (left_head possible)) h.others in
          behind_one draw P g (took_flight g f.to (hears g f) waiting) rest last refl
          (again (draw ∷ P) (Draining w quorum) [] (took_flight g f.to (hears g f) waiting) Now
          (Owing (took_owes f.to draw P g (hears g f) (small f.to member) refl stands.holds turn waiting (omega (arith, behind)) (says_little P g stands.holds f.to (small f.to member) (vr_input.From f.from f.message) (Hears_of f.from f.message)) carries)) path
          (subst (λ (x : Phase). ClosesTo scene results x (draw ∷ P) rest last) same here.0) here.1 here.2 here.3)

      -- or lost
      abbrev loss : JournalEntry B
      loss = Lose (actor.Controller f.to) h.packet.id

      loses_goes : (g : GroupState) (rest : List (JournalEntry B)) (last : Phase) → g.pool ≡ f ∷ waiting → Stands P g → Path w quorum z [] (record g { pool = waiting }) → Here rest P last loss (Draining w quorum) →
          ((P' : List (JournalEntry B)) → Again rest last P') → Outcome P g (loss ∷ rest) last
      loses_goes g rest last waits stands path here again =
          let after = possible_under scene results rest (loss ∷ P) here.1 in
          let possible = possible_before scene results loss P after in
          let own : at scene results f.to (loss ∷ P) ≡ record (at scene results f.to P) { fresh = false } = own_steps scene results f.to loss P refl in
          let owed : (at scene results f.to P).owed ≡ [] = fits scene results loss P after f.to (self_controller f.to) in
          let lost : Stands (loss ∷ P) (record g { pool = waiting }) = record {
            holds = record {
              members = λ c lt. member c (nat_eq f.to c) refl own (stands.holds.members c lt);
              saves = λ c. saved c (nat_eq f.to c) refl own (stands.holds.saves c);
              switches = λ t. switches_stay scene results f.to loss P refl t ∙ stands.holds.switches t;
              few = (let behind = ap (λ (l : List Flight). length l) waits in let old = stands.holds.few in omega (arith, behind, old));
            };
            carries = subst (λ (ps : List (Packet B)). AllCarry scene results ps waiting) (sym (left_head possible)) h.others;
            posted = ap (λ (x : ControllerAt). sealed_letters controller_message scene.sealing x.owed) own ∙ ap (sealed_letters controller_message scene.sealing) owed;
          } in
          behind_one loss P g (record g { pool = waiting }) rest last (omega arith)
          (again (loss ∷ P) (Draining w quorum) [] (record g { pool = waiting }) Now (Rests lost) path here.0 here.1 here.2 here.3)
        where
          member : (c : ℕ) (b : Bool) → nat_eq f.to c ≡ b → at scene results f.to (loss ∷ P) ≡ record (at scene results f.to P) { fresh = false } →
              (at scene results c P).now.vr ≡ g.at c → (at scene results c (loss ∷ P)).now.vr ≡ g.at c
          member c true is own old = ap (λ (k : ℕ). (at scene results k (loss ∷ P)).now.vr) (sym (eqb-true f.to c is)) ∙ ap (λ (x : ControllerAt). x.now.vr) own ∙ ap (λ (k : ℕ). (at scene results k P).now.vr) (eqb-true f.to c is) ∙ old
          member c false is own old = ap (λ (x : ControllerAt). x.now.vr) (others_stay scene results f.to loss P refl c is) ∙ old

          saved : (c : ℕ) (b : Bool) → nat_eq f.to c ≡ b → at scene results f.to (loss ∷ P) ≡ record (at scene results f.to P) { fresh = false } →
              (at scene results c before).saves ≤ (at scene results c P).saves → (at scene results c before).saves ≤ (at scene results c (loss ∷ P)).saves
          saved c true is own old =
              let same = ap (λ (k : ℕ). (at scene results k (loss ∷ P)).saves) (sym (eqb-true f.to c is)) ∙ ap (λ (x : ControllerAt). x.saves) own ∙ ap (λ (k : ℕ). (at scene results k P).saves) (eqb-true f.to c is) in
              omega (arith, old, same)
          saved c false is own old = let same = ap (λ (x : ControllerAt). x.saves) (others_stay scene results f.to loss P refl c is) in omega (arith, old, same)

    -- one move
    suspects_move : (P : List (JournalEntry B)) (phase : Phase) (m : ℕ) (ms : List ℕ) → PhaseOf phase (m ∷ ms) → next_move scene results phase P ≡ Takes (Local (actor.Controller m) (local.Suspect w)) (Suspecting w quorum ms)
    suspects_move P _ m ms (Still _) = refl

    moves : (e : JournalEntry B) (rest P : List (JournalEntry B)) (last phase : Phase) → ClosesTo scene results phase P (e ∷ rest) last → (ms : List ℕ) (g : GroupState) → PhaseOf phase ms → Stands P g → Path w quorum z ms g →
        (next : Phase) → IsMove (next_move scene results phase P) e next → Here rest P last e next → ((P' : List (JournalEntry B)) → Again rest last P') → Outcome P g (e ∷ rest) last
    moves e rest P last phase whole _ _ at_phase stands (Suspects m ms g member up changes path) next move here again =
        let m' = subst (λ (v : ClosingMove B). IsMove v e next) (suspects_move P phase m ms at_phase) move in
        subst (λ (x : JournalEntry B). Outcome P g (x ∷ rest) last) (sym m'.0)
        (suspects_goes m ms g P rest last member up changes stands path (here_is rest P last e (Local (actor.Controller m) (local.Suspect w)) next (Suspecting w quorum ms) m'.0 m'.1 here) again)
    moves e rest P last phase whole _ _ at_phase stands (Draws g f waiting waits member changing changes path) next move here again =
        let h = head_of scene results (pool P) f waiting (subst (λ (fs : List Flight). AllCarry scene results (pool P) fs) waits stands.carries) in
        let m' = subst (λ (v : ClosingMove B). IsMove v e next) (next_is f waiting P h phase at_phase) move in
        let e_is = m'.0 ∙ drawn_entry f waiting P h member in
        subst (λ (x : JournalEntry B). Outcome P g (x ∷ rest) last) (sym e_is)
        (draws_goes f waiting P h g rest last waits stands member changing changes path (here_is rest P last e (Draw (actor.Controller f.to) h.packet.id false) next (Draining w quorum) e_is m'.1 here) again)
    moves e rest P last phase whole _ _ at_phase stands (Loses g f waiting waits other path) next move here again =
        let h = head_of scene results (pool P) f waiting (subst (λ (fs : List Flight). AllCarry scene results (pool P) fs) waits stands.carries) in
        let m' = subst (λ (v : ClosingMove B). IsMove v e next) (next_is f waiting P h phase at_phase) move in
        let e_is = m'.0 ∙ lost_entry f waiting P h other in
        subst (λ (x : JournalEntry B). Outcome P g (x ∷ rest) last) (sym e_is)
        (loses_goes f waiting P h g rest last waits stands path (here_is rest P last e (Lose (actor.Controller f.to) h.packet.id) next (Draining w quorum) e_is m'.1 here) again)
    moves e rest P last phase whole _ _ at_phase stands (Arrives g is) next move here again =
        let same = ap (λ (x : GroupState). x.turns) is in
        Reaches [] (e ∷ rest) phase refl (omega (arith, same)) at_phase (subst (λ (x : GroupState). Stands P x) is stands) whole

    -- where no more entries come
    pub never_ends : (P : List (JournalEntry B)) (phase : Phase) (e : JournalEntry B) (next : Phase) (answer : ClosingAnswer) → next_move scene results phase P ≡ Takes e next → IsEnd (next_move scene results phase P) answer → ⊥
    never_ends P phase e next answer is end = subst (λ (v : ClosingMove B). IsEnd v answer) is end

    ends_here : (P : List (JournalEntry B)) (phase : Phase) (ms : List ℕ) (g : GroupState) → PhaseOf phase ms → Stands P g → Path w quorum z ms g → Outcome P g [] phase
    ends_here P phase _ _ at_phase stands (Suspects m ms g member up changes path) =
        Goes (λ answer end. never_ends P phase (Local (actor.Controller m) (local.Suspect w)) (Suspecting w quorum ms) answer (suspects_move P phase m ms at_phase) end)
        (let few = path_turns w quorum z (m ∷ ms) g (Suspects m ms g member up changes path) in omega (arith, few))
    ends_here P phase _ _ at_phase stands (Draws g f waiting waits member changing changes path) =
        let h = head_of scene results (pool P) f waiting (subst (λ (fs : List Flight). AllCarry scene results (pool P) fs) waits stands.carries) in
        Goes (λ answer end. never_ends P phase (drained quorum h.packet) (Draining w quorum) answer (next_is f waiting P h phase at_phase) end)
        (let few = path_turns w quorum z [] g (Draws g f waiting waits member changing changes path) in omega (arith, few))
    ends_here P phase _ _ at_phase stands (Loses g f waiting waits other path) =
        let h = head_of scene results (pool P) f waiting (subst (λ (fs : List Flight). AllCarry scene results (pool P) fs) waits stands.carries) in
        Goes (λ answer end. never_ends P phase (drained quorum h.packet) (Draining w quorum) answer (next_is f waiting P h phase at_phase) end)
        (let few = path_turns w quorum z [] g (Loses g f waiting waits other path) in omega (arith, few))
    ends_here P phase _ _ at_phase stands (Arrives g is) =
        let same = ap (λ (x : GroupState). x.turns) is in
        Reaches [] [] phase refl (omega (arith, same)) at_phase (subst (λ (x : GroupState). Stands P x) is stands) refl

    -- what is owed finds room
    found : (P : List (JournalEntry B)) (g : GroupState) → Mode P g → g.turns ≤ 64 → (a : Actor) (first : ℕ) (letters : List (Letter B)) (lost : ℕ) → IsInputOf a P → IsPossible scene results (Post a first letters lost ∷ P) →
        IsWithinLimits scene.sealing.size (Post a first letters lost ∷ P) → lost ≡ 0
    found P g (Rests s) short a first letters lost input possible within = absurd (never_posts scene results P s.posted a first letters lost input possible)
    found P g (Owing o) short a first letters lost input possible within =
        let whose = poster scene results P o.older o.newest o.member a o.is o.whose input in
        let same = (fits scene results (Post (actor.Controller o.member) first letters lost) P (subst (λ (b : Actor). IsPossible scene results (Post b first letters lost ∷ P)) whose possible) o.member (self_controller o.member)).0 in
        let said = ap (λ (l : List (Letter B)). length l) same in
        let sealed = sealed_length controller_message scene.sealing (at scene results o.member P).owed in
        let owed = ap (λ (l : List (Letter ControllerSays)). length l) o.owed in
        let members = length-map o.letters to_member in
        let waits = paired_length (Carries scene results) (pool P) o.waiting o.carries in
        let all = ap (λ (l : List Flight). length l) o.pool_is in
        let parts = length-append o.waiting (map (flown o.member) o.letters) in
        let flown_same = length-map o.letters (flown o.member) in
        let few = o.holds.few in
        finds_room scene.sealing.size a first letters lost P possible.orderly within (omega (arith, said, sealed, owed, members, waits, all, parts, flown_same, few, short))

    -- all of them
    pub goes : z.turns ≤ 64 → (entries P : List (JournalEntry B)) (last : Phase) → Again entries last P
    goes short [] P last phase ms g at_phase mode path closes possible posted within =
        subst (λ (x : Phase). Outcome P g [] x) (sym closes) (ends_here P phase ms g at_phase (rested P g mode posted) path)
    goes short (Post a first letters lost ∷ rest) P last phase ms g at_phase mode path closes possible posted within =
        let can = possible_under scene results rest (Post a first letters lost ∷ P) possible in
        let few = path_turns w quorum z ms g path in
        let fit = found P g mode (omega (arith, few, short)) a first letters lost closes.0 can (within_under scene.sealing.size rest (Post a first letters lost ∷ P) within) in
        let stands = posts P g mode a first letters lost closes.0 can fit in
        behind_one (Post a first letters lost) P g g rest last (omega arith)
        (goes short rest (Post a first letters lost ∷ P) last phase ms g at_phase (Rests stands) path closes.1 possible posted within)
    goes short (Draw a id keep ∷ rest) P last phase ms g at_phase mode path closes possible posted within =
        moves (Draw a id keep) rest P last phase closes ms g at_phase (rested P g mode closes.0) path closes.1.0 closes.1.1 (closes.1.2, possible, posted, within) (λ P'. goes short rest P' last)
    goes short (Lose a id ∷ rest) P last phase ms g at_phase mode path closes possible posted within =
        moves (Lose a id) rest P last phase closes ms g at_phase (rested P g mode closes.0) path closes.1.0 closes.1.1 (closes.1.2, possible, posted, within) (λ P'. goes short rest P' last)
    goes short (Local a input ∷ rest) P last phase ms g at_phase mode path closes possible posted within =
        moves (Local a input) rest P last phase closes ms g at_phase (rested P g mode closes.0) path closes.1.0 closes.1.1 (closes.1.2, possible, posted, within) (λ P'. goes short rest P' last)
    goes short (Idle a ∷ rest) P last phase ms g at_phase mode path closes possible posted within =
        moves (Idle a) rest P last phase closes ms g at_phase (rested P g mode closes.0) path closes.1.0 closes.1.1 (closes.1.2, possible, posted, within) (λ P'. goes short rest P' last)
    goes short (Refused a ∷ rest) P last phase ms g at_phase mode path closes possible posted within =
        moves (Refused a) rest P last phase closes ms g at_phase (rested P g mode closes.0) path closes.1.0 closes.1.1 (closes.1.2, possible, posted, within) (λ P'. goes short rest P' last)

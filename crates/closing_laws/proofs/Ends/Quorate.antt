-- A closing goes on with those that take part, as long as each save succeeds.
use Rattle.std.proofs.Common.{◌≡◌, ◌≤◌, ◌<◌, inl, inr, ℕ, zero, suc, ◌+◌, ◌%◌, Bool, true, false, List, [], ◌∷◌, length, map, refl, sym, ◌∙◌, ap, subst, arith}
use Rattle.std.specs.Prelude.{nat_eq, not, Option, Some, None, slice_index_or, if◌then◌else◌}
use Rattle.std.specs.List.{AllByRecursion, range_with_len}
use Rattle.std.proofs.lemmas.Bool.{cond_both, true≢false, le-ltb}
use Rattle.of_types.specs.declared.setup.Setup.{Setup}
use Rattle.journal.specs.declared.journal.Actor.{Actor}
use Rattle.journal.specs.declared.journal.Actor.TheVariants as actor
use Rattle.journal.specs.declared.journal.JournalEntry.{JournalEntry}
use Rattle.journal.specs.declared.journal.JournalEntry.TheVariants.{Post, Draw, Lose, Local, Idle, Refused}
use Rattle.journal.specs.declared.journal.Local.TheVariants as local
use Rattle.journal.specs.declared.journal.Packet.{Packet}
use Rattle.journal.specs.declared.journal.SaveResult.{SaveResult}
use Rattle.journal.specs.declared.journal.SaveResult.TheVariants.{Saved}
use Rattle.journal.proofs.Leaving.{same_actor-true}
use Rattle.journal.specs.Actors.{same_actor, actor_of}
use Rattle.journal.specs.Part.{drawn}
use Rattle.journal.specs.Pool.{pool}
use Rattle.vr_log.specs.declared.entry.LogFull.{LogFull}
use Rattle.vr_log.specs.declared.state.Status.{Status}
use Rattle.vr_log.specs.declared.state.Status.TheVariants.{Normal, ViewChange, Recovering, Down}
use Rattle.vr_log.specs.Members.{is_up}
use Rattle.group_controller.specs.declared.messages.ControllerInput.{ControllerInput}
use Rattle.group_controller.specs.declared.messages.ControllerInput.TheVariants as controller_input
use Rattle.group_controller.specs.State.{ControllerState, Work}
use Rattle.group_controller.specs.Rules.{controller_work, is_down}
use Rattle.controller_moves.proofs.ControllerLaws.Reached.{turn_chain}
use Rattle.controller_moves.specs.ControllerLaws.Moves.{Chain, Start, Then}
use Rattle.controller_moves.specs.ControllerLaws.Turns.{beginning}
use Rattle.run_spec.specs.declared.messages.Message.TheVariants as message
use Rattle.run_spec.specs.declared.messages.Unsealed.{Unsealed}
use Rattle.run_spec.specs.declared.messages.Unsealed.TheVariants as unsealed
use Rattle.run_spec.specs.States.{Scene, ControllerAt, content, controller_hears, controller_step}
use Rattle.run_spec.specs.Legal.{results_of}
use Rattle.run_spec.specs.Committed.{controller_state, count_up, members_up, states_of}
use Rattle.run_spec.specs.Closing.{ClosingAnswer, NoQuorum, IsEnd, Phase, Losing, Suspecting, Draining, Met, ClosingMove, Takes, Ends, ClosesTo, IsMove, after_member, after_move, after_turn, is_drawn, majority, met_by, next_drained, next_lost, next_move, next_suspicion, next_view}
use Rattle.run_laws.proofs.Members.{move_up}
use Rattle.closing_laws.specs.Quorum.{has}
use Rattle.closing_laws.specs.Starts.{SavesSucceed, view_after, quorum_after}
use Rattle.closing_laws.specs.Stops.{ClosingsFindAQuorum}
use Rattle.closing_laws.proofs.Journal.Carrying.{controller_rests}
use Rattle.closing_laws.proofs.Journal.Posting.{later, later_is}
use Rattle.closing_laws.proofs.Journal.Taking.{at, own_steps, took_saved}
use Rattle.closing_laws.proofs.Lists.Numbers.{has_here, has_later}
use Rattle.closing_laws.proofs.Start.Begun as begun

-- a turn leaves a controller up that was, but for a crash
chain_up : (kinds : List ℕ) (setup : Setup) (x : ControllerInput) (c : ControllerState) (w : Work) → is_up c.vr ≡ true → Chain kinds setup x (beginning c) w → is_up w.state.vr ≡ true
chain_up kinds setup x c w up Start = up
chain_up kinds setup x c w up (Then mid w2 chain move) = move_up kinds setup x mid w move (chain_up kinds setup x c mid up chain)

turn_up : (kinds : List ℕ) (setup : Setup) (x : ControllerInput) (c : ControllerState) → (x ≡ controller_input.Local local.Crash → ⊥) → is_up c.vr ≡ true → is_up (controller_work kinds setup c x).state.vr ≡ true
turn_up kinds setup x c other up = elim (turn_chain kinds setup x c not_down) [
  | inl chain ↦ chain_up kinds setup x c (controller_work kinds setup c x) up chain
  | inr crash ↦ absurd (other crash.0)
]
  where
    by_status : (x : Status) → (elim x [ Normal ↦ true | ViewChange ↦ true | Recovering ↦ false | Down ↦ false ]) ≡ true → (elim x [ Normal ↦ false | ViewChange ↦ false | Recovering ↦ false | Down ↦ true ]) ≡ false
    by_status Normal e = refl
    by_status ViewChange e = refl
    by_status Recovering e = refl
    by_status Down e = absurd (true≢false (sym e))

    not_down : is_down c ≡ false
    not_down = by_status c.vr.status up

-- what comes from others is no crash
heard_calm : (a : Actor) (u : Unsealed) → controller_hears a u ≡ controller_input.Local local.Crash → ⊥
heard_calm (actor.Switch s) (unsealed.Message (message.Of xid spoken)) e = cc
heard_calm (actor.Switch s) (unsealed.Message (message.Vr said)) e = cc
heard_calm (actor.Switch s) (unsealed.Message (message.Frame port bytes)) e = cc
heard_calm (actor.Controller c) (unsealed.Message (message.Of xid spoken)) e = cc
heard_calm (actor.Controller c) (unsealed.Message (message.Vr said)) e = cc
heard_calm (actor.Controller c) (unsealed.Message (message.Frame port bytes)) e = cc
heard_calm (actor.Switch s) (unsealed.Malformed kind code xid head) e = cc
heard_calm (actor.Controller c) (unsealed.Malformed kind code xid head) e = cc

-- no more take part where each that did does
ups_kept : {X : Type 0} (f g : X → ControllerState) (xs : List X) → AllByRecursion (λ x. is_up (f x).vr ≡ true → is_up (g x).vr ≡ true) xs → length (members_up (map f xs)) ≤ length (members_up (map g xs))
ups_kept f g [] all = omega arith
ups_kept f g (x ∷ xs) all = by_test (is_up (f x).vr) refl (ups_kept f g xs all.1)
  where
    by_test : (b : Bool) → is_up (f x).vr ≡ b → length (members_up (map f xs)) ≤ length (members_up (map g xs)) → length (members_up (f x ∷ map f xs)) ≤ length (members_up (g x ∷ map g xs))
    by_test true e low =
        let here = ap (λ (b : Bool). length (if b then (f x).vr.me ∷ members_up (map f xs) else members_up (map f xs))) e in
        let there = ap (λ (b : Bool). length (if b then (g x).vr.me ∷ members_up (map g xs) else members_up (map g xs))) (all.0 e) in
        omega (arith, here, there, low)
    by_test false e low =
        let here = ap (λ (b : Bool). length (if b then (f x).vr.me ∷ members_up (map f xs) else members_up (map f xs))) e in
        let there = cond_both (is_up (g x).vr) ((g x).vr.me ∷ members_up (map g xs)) (members_up (map g xs)) (λ (l : List ℕ). length (members_up (map g xs)) ≤ length l) (λ _. omega arith) (λ _. omega arith) in
        omega (arith, here, low, there)

range_all : (P : ℕ → Type 0) (a k : ℕ) → ((j : ℕ) → j < a + k → P j) → AllByRecursion P (range_with_len a k)
range_all P a zero h = tt
range_all P a (suc k) h = (h a (omega arith), range_all P (a + 1) k (λ j less. h j (omega (arith, less))))

module _ {B : Type 0} (scene : Scene B) (results : List (List SaveResult)) where
  abbrev n : ℕ
  n = scene.setup.controllers

  abbrev Past : Type 0
  Past = List (JournalEntry B)

  abbrev Up : Past → ℕ → Type 0
  Up P m = (m < n) × (is_up (at scene results m P).now.vr ≡ true)

  -- an entry of a closing: a post, a loss, a draw, or a suspicion
  abbrev pub IsCalm : JournalEntry B → Type 0
  IsCalm (Refused a) = ⊥
  IsCalm (Local a input) = input ≡ local.Crash → ⊥
  IsCalm _ = Unit {0}

  own : (c : ℕ) (e : JournalEntry B) (P : Past) → IsCalm e → (found : Option (Packet B)) → ((i : ℕ) → (at scene results c P).saves ≤ i → slice_index_or (results_of results c) i Saved ≡ Saved) →
      (is_up (at scene results c P).now.vr ≡ true → is_up (controller_step scene (results_of results c) (at scene results c P) e found).now.vr ≡ true)
      × ((at scene results c P).saves ≤ (controller_step scene (results_of results c) (at scene results c P) e found).saves)
  own c (Post a first letters lost) P calm found all = ((λ up. up), omega arith)
  own c (Lose a packet) P calm found all = ((λ up. up), omega arith)
  own c (Idle a) P calm found all = ((λ up. up), omega arith)
  own c (Refused a) P calm found all = absurd calm
  own c (Draw a packet keep) P calm None all = ((λ up. up), omega arith)
  own c (Draw a packet keep) P calm (Some p) all =
      let w = at scene results c P in
      let x = controller_hears p.from (content scene.sealing p) in
      let t = took_saved (results_of results c) w (controller_work scene.kinds scene.setup w.now x) all in
      ((λ up. ap (λ (s : ControllerState). is_up s.vr) t.0 ∙ turn_up scene.kinds scene.setup x w.now (heard_calm p.from (content scene.sealing p)) up), t.2)
  own c (Local a input) P calm found all =
      let w = at scene results c P in
      let x = controller_input.Local input in
      let t = took_saved (results_of results c) w (controller_work scene.kinds scene.setup w.now x) all in
      ((λ up. ap (λ (s : ControllerState). is_up s.vr) t.0 ∙ turn_up scene.kinds scene.setup x w.now (λ e. calm (let same : input ≡ local.Crash = cc in same)) up), t.2)

  one : (c : ℕ) → c < n → (e : JournalEntry B) (P : Past) → IsCalm e → SavesSucceed scene results P →
      (is_up (at scene results c P).now.vr ≡ true → is_up (at scene results c (e ∷ P)).now.vr ≡ true) × ((at scene results c P).saves ≤ (at scene results c (e ∷ P)).saves)
  one c there e P calm succeed = by_actor (same_actor (actor_of e) (actor.Controller c)) refl
    where
      by_actor : (b : Bool) → same_actor (actor_of e) (actor.Controller c) ≡ b →
          (is_up (at scene results c P).now.vr ≡ true → is_up (at scene results c (e ∷ P)).now.vr ≡ true) × ((at scene results c P).saves ≤ (at scene results c (e ∷ P)).saves)
      by_actor true mine =
          subst (λ (t : ControllerAt). (is_up (at scene results c P).now.vr ≡ true → is_up t.now.vr ≡ true) × ((at scene results c P).saves ≤ t.saves))
          (sym (own_steps scene results c e P (same_actor-true (actor_of e) (actor.Controller c) mine)))
          (own c e P calm (drawn e P) (λ i low. succeed c i there low))
      by_actor false other =
          subst (λ (t : ControllerAt). (is_up (at scene results c P).now.vr ≡ true → is_up t.now.vr ≡ true) × ((at scene results c P).saves ≤ t.saves))
          (sym (controller_rests scene results e P c other)) ((λ up. up), omega arith)

  -- what stays true in a closing
  record Goes (P : Past) : Type 0 where
    pub succeed : SavesSucceed scene results P
    pub most : majority n ≤ count_up scene results P

  pub succeed_behind : (e : JournalEntry B) (P : Past) → IsCalm e → SavesSucceed scene results P → SavesSucceed scene results (e ∷ P)
  succeed_behind e P calm succeed = λ c i there low. let more = (one c there e P calm succeed).1 in succeed c i there (omega (arith, more, low))

  goes_behind : (e : JournalEntry B) (P : Past) → IsCalm e → Goes P → Goes (e ∷ P)
  goes_behind e P calm g = record {
    succeed = succeed_behind e P calm g.succeed;
    most =
        (let more = ups_kept (λ c. controller_state scene results c P) (λ c. controller_state scene results c (e ∷ P)) (range_with_len 0 n)
        (range_all (λ c. is_up (controller_state scene results c P).vr ≡ true → is_up (controller_state scene results c (e ∷ P)).vr ≡ true) 0 n (λ c less. (one c (omega (arith, less)) e P calm g.succeed).0)) in
        let most = g.most in omega (arith, more, most));
  }

  up_behind : (e : JournalEntry B) (P : Past) (m : ℕ) → IsCalm e → Goes P → Up P m → Up (e ∷ P) m
  up_behind e P m calm g u = (u.0, (one m u.0 e P calm g.succeed).0 u.1)

  -- those whom a closing asks take part
  abbrev AllUp : List ℕ → Past → Type 0
  AllUp ms P = (m : ℕ) → has ms m ≡ true → Up P m

  abbrev PhaseUp : Phase → Past → Type 0
  PhaseUp Losing P = Unit {0}
  PhaseUp (Suspecting view quorum members) P = AllUp quorum P × AllUp members P
  PhaseUp (Draining view quorum) P = AllUp quorum P
  PhaseUp (Met limit) P = Unit {0}

  phase_behind : (phase : Phase) (e : JournalEntry B) (P : Past) → IsCalm e → Goes P → PhaseUp phase P → PhaseUp phase (e ∷ P)
  phase_behind Losing e P calm g u = tt
  phase_behind (Suspecting view quorum members) e P calm g u = ((λ m h. up_behind e P m calm g (u.0 m h)), (λ m h. up_behind e P m calm g (u.1 m h)))
  phase_behind (Draining view quorum) e P calm g u = λ m h. up_behind e P m calm g (u m h)
  phase_behind (Met limit) e P calm g u = tt

  met_up : (o : Option LogFull) (next : Phase) (Q : Past) → PhaseUp next Q → PhaseUp (met_by o next) Q
  met_up None next Q u = u
  met_up (Some limit) next Q u = tt

  member_up : (view : ℕ) (c : ControllerState) (next : Phase) (Q : Past) → is_up c.vr ≡ true → PhaseUp next Q → PhaseUp (after_member view c next) Q
  member_up view c next Q up u =
      subst (λ (b : Bool). PhaseUp (if not b then Losing else if nat_eq (view % c.vr.controllers) c.vr.me then met_by c.full next else next) Q) (sym up)
      (cond_both (nat_eq (view % c.vr.controllers) c.vr.me) _ _ (λ (f : Phase). PhaseUp f Q) (λ _. met_up c.full next Q u) (λ _. u))

  turn_phase : (c : ControllerState) (next : Phase) (Q : Past) → is_up c.vr ≡ true → PhaseUp next Q → PhaseUp (after_turn c next) Q
  turn_phase c Losing Q up u = tt
  turn_phase c (Suspecting view quorum members) Q up u = member_up view c (Suspecting view quorum members) Q up u
  turn_phase c (Draining view quorum) Q up u = member_up view c (Draining view quorum) Q up u
  turn_phase c (Met limit) Q up u = tt

  -- a move: its entry is calm, and who takes a turn takes part
  abbrev ByOne : JournalEntry B → Past → Type 0
  ByOne (Local (actor.Controller m) input) P = Up P m
  ByOne (Draw (actor.Controller m) packet keep) P = Up P m
  ByOne e P = Unit {0}

  record Moves (e : JournalEntry B) (next : Phase) (P : Past) : Type 0 where
    pub calm : IsCalm e
    pub by_one : ByOne e P
    pub phase : PhaseUp next P

  abbrev MoveUp : ClosingMove B → Past → Type 0
  MoveUp (Takes e next) P = Moves e next P
  MoveUp (Ends (NoQuorum up needed)) P = ⊥
  MoveUp (Ends answer) P = Unit {0}

  drained_move : (view : ℕ) (quorum : List ℕ) (P : Past) (ps : List (Packet B)) → AllUp quorum P → MoveUp (next_drained n view quorum ps) P
  drained_move view quorum P [] u = tt
  drained_move view quorum P (p ∷ ps) u = cond_both (is_drawn quorum p.from p.to) (Draw p.to p.id false) (Lose p.to p.id) (λ (e : JournalEntry B). Moves e (Draining view quorum) P)
      (λ drawn. by_way p.from p.to drawn) (λ _. record { calm = tt; by_one = tt; phase = u })
    where
      by_way : (from to : Actor) → is_drawn quorum from to ≡ true → Moves (Draw to p.id false) (Draining view quorum) P
      by_way (actor.Controller c) (actor.Controller d) drawn = record { calm = tt; by_one = u d drawn; phase = u }
      by_way (actor.Switch s) (actor.Controller d) drawn = record { calm = tt; by_one = u d drawn; phase = u }
      by_way from (actor.Switch t) drawn = record { calm = tt; by_one = tt; phase = u }

  suspicion_move : (view : ℕ) (quorum members : List ℕ) (P : Past) (ps : List (Packet B)) → AllUp quorum P → AllUp members P → MoveUp (next_suspicion n view quorum members ps) P
  suspicion_move view quorum [] P ps u v = drained_move view quorum P ps u
  suspicion_move view quorum (m ∷ members) P ps u v = record { calm = λ e. cc; by_one = v m (has_here m members); phase = (u, (λ k h. v k (has_later m k members h))) }

  view_move : (P : Past) → Goes P → MoveUp (next_view n (states_of scene results P)) P
  view_move P g =
      subst (λ (b : Bool). MoveUp (if b then Ends (NoQuorum (length (members_up (states_of scene results P))) (majority n)) else next_suspicion n (view_after scene results P) (quorum_after scene results P) (quorum_after scene results P) []) P)
      (sym (le-ltb (length (members_up (states_of scene results P))) (majority n) g.most)) (suspicion_move (view_after scene results P) (quorum_after scene results P) (quorum_after scene results P) P [] all all)
    where
      all : AllUp (quorum_after scene results P) P
      all m h = let r = begun.ready scene results P g.most m h in (r.small, r.up)

  lost_move : (P : Past) (ps : List (Packet B)) → Goes P → MoveUp (next_lost n (states_of scene results P) ps) P
  lost_move P [] g = view_move P g
  lost_move P (p ∷ ps) g = record { calm = tt; by_one = tt; phase = tt }

  move_up_at : (phase : Phase) (P : Past) → Goes P → PhaseUp phase P → MoveUp (next_move scene results phase P) P
  move_up_at Losing P g u = lost_move P (pool P) g
  move_up_at (Suspecting view quorum members) P g u = suspicion_move view quorum members P (pool P) u.0 u.1
  move_up_at (Draining view quorum) P g u = drained_move view quorum P (pool P) u
  move_up_at (Met limit) P g u = tt

  taken : (move : ClosingMove B) (e : JournalEntry B) (next : Phase) (P : Past) → MoveUp move P → IsMove move e next → Moves e next P
  taken (Takes f x) e next P m h = subst (λ (y : JournalEntry B). Moves y next P) (sym h.0) (subst (λ (y : Phase). Moves f y P) (sym h.1) m)
  taken (Ends answer) e next P m h = absurd h

  never_ends : (move : ClosingMove B) (P : Past) (up needed : ℕ) → MoveUp move P → IsEnd move (NoQuorum up needed) → ⊥
  never_ends (Takes e next) P up needed m h = h
  never_ends (Ends answer) P up needed m h = subst (λ (x : ClosingAnswer). MoveUp (Ends x) P) (sym h) m

  phase_after : (e : JournalEntry B) (next : Phase) (P : Past) → Goes P → Moves e next P → PhaseUp (after_move scene results e P next) (e ∷ P)
  phase_after (Local (actor.Controller m) input) next P g v =
      turn_phase (controller_state scene results m (Local (actor.Controller m) input ∷ P)) next (Local (actor.Controller m) input ∷ P) (up_behind (Local (actor.Controller m) input) P m v.calm g v.by_one).1
      (phase_behind next (Local (actor.Controller m) input) P v.calm g v.phase)
  phase_after (Draw (actor.Controller m) packet keep) next P g v =
      turn_phase (controller_state scene results m (Draw (actor.Controller m) packet keep ∷ P)) next (Draw (actor.Controller m) packet keep ∷ P) (up_behind (Draw (actor.Controller m) packet keep) P m v.calm g v.by_one).1
      (phase_behind next (Draw (actor.Controller m) packet keep) P v.calm g v.phase)
  phase_after (Local (actor.Switch s) input) next P g v = phase_behind next (Local (actor.Switch s) input) P v.calm g v.phase
  phase_after (Draw (actor.Switch s) packet keep) next P g v = phase_behind next (Draw (actor.Switch s) packet keep) P v.calm g v.phase
  phase_after (Post a first letters lost) next P g v = phase_behind next (Post a first letters lost) P v.calm g v.phase
  phase_after (Lose a packet) next P g v = phase_behind next (Lose a packet) P v.calm g v.phase
  phase_after (Idle a) next P g v = phase_behind next (Idle a) P v.calm g v.phase
  phase_after (Refused a) next P g v = absurd v.calm

  none : (entries P : Past) (phase last : Phase) (up needed : ℕ) → ClosesTo scene results phase P entries last → Goes P → PhaseUp phase P → IsEnd (next_move scene results last (later P entries)) (NoQuorum up needed) → ⊥
  none [] P phase last up needed closes g u end =
      never_ends (next_move scene results phase P) P up needed (move_up_at phase P g u) (subst (λ (f : Phase). IsEnd (next_move scene results f P) (NoQuorum up needed)) closes end)
  none (Post a first letters lost ∷ rest) P phase last up needed closes g u end =
      none rest (Post a first letters lost ∷ P) phase last up needed closes.1 (goes_behind (Post a first letters lost) P tt g) (phase_behind phase (Post a first letters lost) P tt g u) end
  none (Draw a packet keep ∷ rest) P phase last up needed closes g u end =
      let v = taken (next_move scene results phase P) (Draw a packet keep) closes.1.0 P (move_up_at phase P g u) closes.1.1 in
      none rest (Draw a packet keep ∷ P) (after_move scene results (Draw a packet keep) P closes.1.0) last up needed closes.1.2 (goes_behind (Draw a packet keep) P v.calm g) (phase_after (Draw a packet keep) closes.1.0 P g v) end
  none (Lose a packet ∷ rest) P phase last up needed closes g u end =
      let v = taken (next_move scene results phase P) (Lose a packet) closes.1.0 P (move_up_at phase P g u) closes.1.1 in
      none rest (Lose a packet ∷ P) (after_move scene results (Lose a packet) P closes.1.0) last up needed closes.1.2 (goes_behind (Lose a packet) P v.calm g) (phase_after (Lose a packet) closes.1.0 P g v) end
  none (Local a input ∷ rest) P phase last up needed closes g u end =
      let v = taken (next_move scene results phase P) (Local a input) closes.1.0 P (move_up_at phase P g u) closes.1.1 in
      none rest (Local a input ∷ P) (after_move scene results (Local a input) P closes.1.0) last up needed closes.1.2 (goes_behind (Local a input) P v.calm g) (phase_after (Local a input) closes.1.0 P g v) end
  none (Idle a ∷ rest) P phase last up needed closes g u end =
      let v = taken (next_move scene results phase P) (Idle a) closes.1.0 P (move_up_at phase P g u) closes.1.1 in
      none rest (Idle a ∷ P) (after_move scene results (Idle a) P closes.1.0) last up needed closes.1.2 (goes_behind (Idle a) P v.calm g) (phase_after (Idle a) closes.1.0 P g v) end
  none (Refused a ∷ rest) P phase last up needed closes g u end =
      let v = taken (next_move scene results phase P) (Refused a) closes.1.0 P (move_up_at phase P g u) closes.1.1 in absurd v.calm

pub quorum_law : {B : Type 0} → ClosingsFindAQuorum B
quorum_law scene results before entries up needed most succeed closes =
    none scene results entries before Losing closes.last up needed closes.steps (record { succeed = succeed; most = most }) tt
    (subst (λ (l : List (JournalEntry _)). IsEnd (next_move scene results closes.last l) (NoQuorum up needed)) (sym (later_is before entries)) closes.ends)

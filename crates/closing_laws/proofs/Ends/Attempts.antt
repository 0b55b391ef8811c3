-- A closing that ends has a last attempt, in which each save succeeds.
use Rattle.std.proofs.Common.{◌≡◌, ◌≤◌, ◌<◌, ◌⊎◌, inl, inr, ℕ, zero, suc, ◌+◌, ◌%◌, Bool, true, false, List, [], ◌∷◌, ◌++◌, length, refl, sym, ◌∙◌, ap, subst, arith}
use Rattle.std.specs.Prelude.{nat_eq, nat_lt, not, slice_index_or, Option, Some, None, if◌then◌else◌}
use Rattle.std.proofs.lemmas.Bool.{cond_both, cases_lt, true≢false}
use Rattle.journal.specs.declared.journal.Actor.TheVariants as actor
use Rattle.journal.specs.declared.journal.JournalEntry.{JournalEntry}
use Rattle.journal.specs.declared.journal.JournalEntry.TheVariants.{Post, Draw, Lose, Local, Idle, Refused}
use Rattle.journal.specs.declared.journal.Packet.{Packet}
use Rattle.journal.specs.declared.journal.SaveResult.{SaveResult}
use Rattle.journal.specs.declared.journal.SaveResult.TheVariants.{Saved, KeptOld, KeptNew}
use Rattle.journal.specs.Actors.{same_actor, actor_of}
use Rattle.journal.specs.Part.{drawn}
use Rattle.journal.specs.Pool.{pool}
use Rattle.journal.proofs.Leaving.{same_actor-true}
use Rattle.vr_log.specs.declared.entry.LogFull.{LogFull}
use Rattle.vr_log.specs.Members.{is_up}
use Rattle.group_controller.specs.declared.messages.ControllerInput.TheVariants as controller_input
use Rattle.group_controller.specs.State.{ControllerState, Work}
use Rattle.group_controller.specs.Rules.{controller_work}
use Rattle.run_spec.specs.States.{Scene, ControllerAt, content, controller_hears, controller_saved, controller_step}
use Rattle.run_spec.specs.Legal.{results_of}
use Rattle.run_spec.specs.Committed.{states_of, members_up}
use Rattle.run_spec.specs.Closing.{Phase, Losing, Suspecting, Draining, Met, ClosingMove, Takes, Ends, ClosesTo, IsMove, after_move, after_turn, is_drawn, is_turn, majority, met_by, next_drained, next_lost, next_move, next_suspicion, next_view}
use Rattle.closing_laws.proofs.Journal.Taking.{at, own_steps}
use Rattle.closing_laws.specs.Starts.{SavesSucceed}
use Rattle.closing_laws.proofs.Journal.Carrying.{controller_rests}
use Rattle.closing_laws.proofs.Journal.Posting.{later}
use Rattle.closing_laws.proofs.Journal.Taking.{at, own_steps}

module _ {B : Type 0} (scene : Scene B) (results : List (List SaveResult)) where
  abbrev Past : Type 0
  Past = List (JournalEntry B)

  -- an entry that is a turn leaves its controller up
  abbrev pub LeavesUp : JournalEntry B → Past → Type 0
  LeavesUp (Local (actor.Controller m) input) P = is_up (at scene results m (Local (actor.Controller m) input ∷ P)).now.vr ≡ true
  LeavesUp (Draw (actor.Controller m) packet keep) P = is_up (at scene results m (Draw (actor.Controller m) packet keep ∷ P)).now.vr ≡ true
  LeavesUp e P = Unit {0}

  -- each of these does
  abbrev pub StayUp : Past → List (JournalEntry B) → Type 0
  StayUp P [] = Unit {0}
  StayUp P (e ∷ rest) = LeavesUp e P × StayUp (e ∷ P) rest

  -- a closing begins again behind the first of these entries
  pub record Falls (P : Past) (entries : List (JournalEntry B)) (last : Phase) : Type 0 where
    pub first : JournalEntry B
    pub front : List (JournalEntry B)
    pub rest : List (JournalEntry B)
    pub joined : entries ≡ first ∷ (front ++ rest)
    pub again : ClosesTo scene results Losing (later (first ∷ P) front) rest last

  falls_later : (P : Past) (e : JournalEntry B) (entries : List (JournalEntry B)) (last : Phase) → Falls (e ∷ P) entries last → Falls P (e ∷ entries) last
  falls_later P e entries last f = record {
    first = e;
    front = f.first ∷ f.front;
    rest = f.rest;
    joined = ap (λ (l : List (JournalEntry B)). e ∷ l) f.joined;
    again = f.again;
  }

  -- one that goes down begins the closing again
  fallen : (c : ControllerState) (next : Phase) → is_up c.vr ≡ false → (after_turn c next ≡ Losing) ⊎ ((limit : LogFull) × (next ≡ Met limit))
  fallen c Losing down = inl refl
  fallen c (Suspecting view quorum members) down = inl (ap (λ (b : Bool). if not b then Losing else if nat_eq (view % c.vr.controllers) c.vr.me then met_by c.full (Suspecting view quorum members) else Suspecting view quorum members) down)
  fallen c (Draining view quorum) down = inl (ap (λ (b : Bool). if not b then Losing else if nat_eq (view % c.vr.controllers) c.vr.me then met_by c.full (Draining view quorum) else Draining view quorum) down)
  fallen c (Met limit) down = inr (limit, refl)

  -- no move leads to a proposal that met the limit
  abbrev NoLimit : ClosingMove B → Type 0
  NoLimit (Takes e Losing) = Unit {0}
  NoLimit (Takes e (Suspecting view quorum members)) = Unit {0}
  NoLimit (Takes e (Draining view quorum)) = Unit {0}
  NoLimit (Takes e (Met limit)) = ⊥
  NoLimit (Ends answer) = Unit {0}

  drained_on : (group view : ℕ) (quorum : List ℕ) (ps : List (Packet B)) → NoLimit (next_drained group view quorum ps)
  drained_on group view quorum [] = tt
  drained_on group view quorum (p ∷ ps) = tt

  suspicion_on : (group view : ℕ) (quorum members : List ℕ) (ps : List (Packet B)) → NoLimit (next_suspicion group view quorum members ps)
  suspicion_on group view quorum [] ps = drained_on group view quorum ps
  suspicion_on group view quorum (m ∷ members) ps = tt

  view_on : (group : ℕ) (states : List ControllerState) → NoLimit (next_view group states)
  view_on group states =
      cond_both (nat_lt (length (members_up states)) (majority group)) _ _ (λ (y : ClosingMove B). NoLimit y) (λ _. tt) (λ _. suspicion_on group _ _ _ [])

  lost_on : (group : ℕ) (states : List ControllerState) (ps : List (Packet B)) → NoLimit (next_lost group states ps)
  lost_on group states [] = view_on group states
  lost_on group states (p ∷ ps) = tt

  pub move_on : (phase : Phase) (P : Past) → NoLimit (next_move scene results phase P)
  move_on Losing P = lost_on scene.setup.controllers (states_of scene results P) (pool P)
  move_on (Suspecting view quorum members) P = suspicion_on scene.setup.controllers view quorum members (pool P)
  move_on (Draining view quorum) P = drained_on scene.setup.controllers view quorum (pool P)
  move_on (Met limit) P = tt

  pub not_met : (move : ClosingMove B) (e : JournalEntry B) (limit : LogFull) → NoLimit move → IsMove move e (Met limit) → ⊥
  not_met (Takes f Losing) e limit on h = let m = h.1 in cc
  not_met (Takes f (Suspecting view quorum members)) e limit on h = let m = h.1 in cc
  not_met (Takes f (Draining view quorum)) e limit on h = let m = h.1 in cc
  not_met (Takes f (Met other)) e limit on h = on
  not_met (Ends answer) e limit on h = h

  -- each turn leaves its controller up, or the closing begins again
  turn_course : (m : ℕ) (e : JournalEntry B) (phase next : Phase) (P rest : Past) (last : Phase) → IsMove (next_move scene results phase P) e next →
      ClosesTo scene results (after_turn (at scene results m (e ∷ P)).now next) (e ∷ P) rest last → (is_up (at scene results m (e ∷ P)).now.vr ≡ true) ⊎ Falls P (e ∷ rest) last
  turn_course m e phase next P rest last move closes = by_test (is_up (at scene results m (e ∷ P)).now.vr) refl
    where
      by_phase : (after_turn (at scene results m (e ∷ P)).now next ≡ Losing) ⊎ ((limit : LogFull) × (next ≡ Met limit)) → (is_up (at scene results m (e ∷ P)).now.vr ≡ true) ⊎ Falls P (e ∷ rest) last
      by_phase (inl is) = inr (record { first = e; front = []; rest = rest; joined = refl; again = subst (λ (f : Phase). ClosesTo scene results f (e ∷ P) rest last) is closes })
      by_phase (inr (limit, is)) = absurd (not_met (next_move scene results phase P) e limit (move_on phase P) (subst (λ (f : Phase). IsMove (next_move scene results phase P) e f) is move))

      by_test : (b : Bool) → is_up (at scene results m (e ∷ P)).now.vr ≡ b → (is_up (at scene results m (e ∷ P)).now.vr ≡ true) ⊎ Falls P (e ∷ rest) last
      by_test true up = inl up
      by_test false down = by_phase (fallen (at scene results m (e ∷ P)).now next down)

  then_course : (P : Past) (e : JournalEntry B) (rest : Past) (last : Phase) → LeavesUp e P → StayUp (e ∷ P) rest ⊎ Falls (e ∷ P) rest last → StayUp P (e ∷ rest) ⊎ Falls P (e ∷ rest) last
  then_course P e rest last up (inl ups) = inl (up, ups)
  then_course P e rest last up (inr f) = inr (falls_later P e rest last f)

  pub course : (entries P : Past) (phase last : Phase) → ClosesTo scene results phase P entries last → StayUp P entries ⊎ Falls P entries last
  course [] P phase last closes = inl tt
  course (Post a first letters lost ∷ rest) P phase last closes =
      then_course P (Post a first letters lost) rest last tt (course rest (Post a first letters lost ∷ P) phase last closes.1)
  course (Local (actor.Controller m) input ∷ rest) P phase last closes =
      let next = closes.1.0 in
      elim (turn_course m (Local (actor.Controller m) input) phase next P rest last closes.1.1 closes.1.2) [
        | inl up ↦ then_course P (Local (actor.Controller m) input) rest last up (course rest (Local (actor.Controller m) input ∷ P) (after_move scene results (Local (actor.Controller m) input) P next) last closes.1.2)
        | inr f ↦ inr f
      ]
  course (Draw (actor.Controller m) packet keep ∷ rest) P phase last closes =
      let next = closes.1.0 in
      elim (turn_course m (Draw (actor.Controller m) packet keep) phase next P rest last closes.1.1 closes.1.2) [
        | inl up ↦ then_course P (Draw (actor.Controller m) packet keep) rest last up (course rest (Draw (actor.Controller m) packet keep ∷ P) (after_move scene results (Draw (actor.Controller m) packet keep) P next) last closes.1.2)
        | inr f ↦ inr f
      ]
  course (Local (actor.Switch s) input ∷ rest) P phase last closes =
      then_course P (Local (actor.Switch s) input) rest last tt (course rest (Local (actor.Switch s) input ∷ P) closes.1.0 last closes.1.2)
  course (Draw (actor.Switch s) packet keep ∷ rest) P phase last closes =
      then_course P (Draw (actor.Switch s) packet keep) rest last tt (course rest (Draw (actor.Switch s) packet keep ∷ P) closes.1.0 last closes.1.2)
  course (Lose a packet ∷ rest) P phase last closes = then_course P (Lose a packet) rest last tt (course rest (Lose a packet ∷ P) closes.1.0 last closes.1.2)
  course (Idle a ∷ rest) P phase last closes = then_course P (Idle a) rest last tt (course rest (Idle a ∷ P) closes.1.0 last closes.1.2)
  course (Refused a ∷ rest) P phase last closes = then_course P (Refused a) rest last tt (course rest (Refused a ∷ P) closes.1.0 last closes.1.2)

  -- a turn makes at most one save, and where its controller stays up that succeeds
  record Counted (rs : List SaveResult) (w t : ControllerAt) : Type 0 where
    pub none : (t.saves ≡ w.saves) ⊎ ((t.saves ≡ w.saves + 1) × (slice_index_or rs w.saves Saved ≡ Saved))

  saved_counted : (rs : List SaveResult) (w : ControllerAt) (work : Work) (promise life : ℕ) (r : SaveResult) → slice_index_or rs w.saves Saved ≡ r →
      is_up (controller_saved w work promise life r).now.vr ≡ true → Counted rs w (controller_saved w work promise life r)
  saved_counted rs w work promise life Saved is up = record { none = inr (refl, is) }
  saved_counted rs w work promise life KeptOld is up = absurd (true≢false (sym up))
  saved_counted rs w work promise life KeptNew is up = absurd (true≢false (sym up))

  took_counted : (rs : List SaveResult) (w : ControllerAt) (work : Work) (o : Option (ℕ × ℕ)) →
      let t : ControllerAt = elim o [
        | None ↦ record { now = work.state; before = w.now; owed = work.letters; fresh = true; saves = w.saves; saves_before = w.saves }
        | Some pair ↦ controller_saved w work pair.0 pair.1 (slice_index_or rs w.saves Saved)
      ] in is_up t.now.vr ≡ true → Counted rs w t
  took_counted rs w work None up = record { none = inl refl }
  took_counted rs w work (Some pair) up = saved_counted rs w work pair.0 pair.1 (slice_index_or rs w.saves Saved) refl up

  rests_counted : (rs : List SaveResult) (w t : ControllerAt) → t.saves ≡ w.saves → Counted rs w t
  rests_counted rs w t e = record { none = inl e }

  -- no closing refuses a turn
  abbrev IsRefusal : JournalEntry B → Type 0
  IsRefusal (Refused a) = Unit {0}
  IsRefusal _ = ⊥

  abbrev NoRefusal : ClosingMove B → Type 0
  NoRefusal (Takes e next) = IsRefusal e → ⊥
  NoRefusal (Ends answer) = Unit {0}

  drained_takes : (group view : ℕ) (quorum : List ℕ) (ps : List (Packet B)) → NoRefusal (next_drained group view quorum ps)
  drained_takes group view quorum [] = tt
  drained_takes group view quorum (p ∷ ps) = cond_both (is_drawn quorum p.from p.to) (Draw p.to p.id false) (Lose p.to p.id) (λ (e : JournalEntry B). IsRefusal e → ⊥) (λ _ h. h) (λ _ h. h)

  suspicion_takes : (group view : ℕ) (quorum members : List ℕ) (ps : List (Packet B)) → NoRefusal (next_suspicion group view quorum members ps)
  suspicion_takes group view quorum [] ps = drained_takes group view quorum ps
  suspicion_takes group view quorum (m ∷ members) ps = λ h. h

  lost_takes : (group : ℕ) (states : List ControllerState) (ps : List (Packet B)) → NoRefusal (next_lost group states ps)
  lost_takes group states [] = cond_both (nat_lt (length (members_up states)) (majority group)) _ _ (λ (y : ClosingMove B). NoRefusal y) (λ _. tt) (λ _. suspicion_takes group _ _ _ [])
  lost_takes group states (p ∷ ps) = λ h. h

  move_takes : (phase : Phase) (P : Past) → NoRefusal (next_move scene results phase P)
  move_takes Losing P = lost_takes scene.setup.controllers (states_of scene results P) (pool P)
  move_takes (Suspecting view quorum members) P = suspicion_takes scene.setup.controllers view quorum members (pool P)
  move_takes (Draining view quorum) P = drained_takes scene.setup.controllers view quorum (pool P)
  move_takes (Met limit) P = tt

  never_refused : (move : ClosingMove B) (e : JournalEntry B) (next : Phase) → NoRefusal move → IsMove move e next → IsRefusal e → ⊥
  never_refused (Takes f n) e next on h r = on (subst IsRefusal h.0 r)
  never_refused (Ends answer) e next on h r = h

  -- one entry
  own_counted : (c : ℕ) (e : JournalEntry B) (P : Past) → actor_of e ≡ actor.Controller c → (IsRefusal e → ⊥) → (found : Option (Packet B)) →
      is_up (controller_step scene (results_of results c) (at scene results c P) e found).now.vr ≡ true ⊎ (is_turn e ≡ false) → Counted (results_of results c) (at scene results c P) (controller_step scene (results_of results c) (at scene results c P) e found)
  own_counted c (Post a first letters lost) P whose taken found up = rests_counted (results_of results c) _ _ refl
  own_counted c (Lose a packet) P whose taken found up = rests_counted (results_of results c) _ _ refl
  own_counted c (Idle a) P whose taken found up = rests_counted (results_of results c) _ _ refl
  own_counted c (Refused a) P whose taken found up = absurd (taken tt)
  own_counted c (Draw a packet keep) P whose taken None up = rests_counted (results_of results c) _ _ refl
  own_counted c (Draw a packet keep) P whose taken (Some p) (inl up) =
      let w = at scene results c P in
      let work = controller_work scene.kinds scene.setup w.now (controller_hears p.from (content scene.sealing p)) in
      took_counted (results_of results c) w work work.save up
  own_counted c (Draw a packet keep) P whose taken (Some p) (inr no_turn) = absurd (true≢false no_turn)
  own_counted c (Local a input) P whose taken found (inl up) =
      let w = at scene results c P in
      let work = controller_work scene.kinds scene.setup w.now (controller_input.Local input) in
      took_counted (results_of results c) w work work.save up
  own_counted c (Local a input) P whose taken found (inr no_turn) = absurd (true≢false no_turn)

  leaves_own : (c : ℕ) (e : JournalEntry B) (P : Past) → actor_of e ≡ actor.Controller c → LeavesUp e P → (is_up (at scene results c (e ∷ P)).now.vr ≡ true) ⊎ (is_turn e ≡ false)
  leaves_own c (Post a first letters lost) P whose up = inr refl
  leaves_own c (Lose a packet) P whose up = inr refl
  leaves_own c (Idle a) P whose up = inr refl
  leaves_own c (Refused a) P whose up = inr refl
  leaves_own c (Draw (actor.Controller m) packet keep) P whose up = let same : m ≡ c = cc in inl (subst (λ (k : ℕ). is_up (at scene results k (Draw (actor.Controller m) packet keep ∷ P)).now.vr ≡ true) same up)
  leaves_own c (Draw (actor.Switch s) packet keep) P whose up = absurd cc
  leaves_own c (Local (actor.Controller m) input) P whose up = let same : m ≡ c = cc in inl (subst (λ (k : ℕ). is_up (at scene results k (Local (actor.Controller m) input ∷ P)).now.vr ≡ true) same up)
  leaves_own c (Local (actor.Switch s) input) P whose up = absurd cc

  entry_counted : (c : ℕ) (e : JournalEntry B) (P : Past) → (IsRefusal e → ⊥) → LeavesUp e P → Counted (results_of results c) (at scene results c P) (at scene results c (e ∷ P))
  entry_counted c e P taken up = by_actor (same_actor (actor_of e) (actor.Controller c)) refl
    where
      by_actor : (b : Bool) → same_actor (actor_of e) (actor.Controller c) ≡ b → Counted (results_of results c) (at scene results c P) (at scene results c (e ∷ P))
      by_actor true mine =
          let whose = same_actor-true (actor_of e) (actor.Controller c) mine in
          let is = own_steps scene results c e P whose in
          let ups = subst (λ (t : ControllerAt). (is_up t.now.vr ≡ true) ⊎ (is_turn e ≡ false)) is (leaves_own c e P whose up) in
          subst (λ (t : ControllerAt). Counted (results_of results c) (at scene results c P) t) (sym is) (own_counted c e P whose taken (drawn e P) ups)
      by_actor false other = rests_counted (results_of results c) _ _ (ap (λ (t : ControllerAt). t.saves) (controller_rests scene results e P c other))

  -- each save that is made while all stay up succeeds
  abbrev AllSaved : Past → List (JournalEntry B) → Type 0
  AllSaved P entries = (c i : ℕ) → (at scene results c P).saves ≤ i → i < (at scene results c (later P entries)).saves → slice_index_or (results_of results c) i Saved ≡ Saved

  one_saved : (e : JournalEntry B) (P rest : Past) → (IsRefusal e → ⊥) → LeavesUp e P → AllSaved (e ∷ P) rest → AllSaved P (e ∷ rest)
  one_saved e P rest taken up behind c i low high = by_count (entry_counted c e P taken up).none
    where
      by_count : ((at scene results c (e ∷ P)).saves ≡ (at scene results c P).saves) ⊎ (((at scene results c (e ∷ P)).saves ≡ (at scene results c P).saves + 1) × (slice_index_or (results_of results c) (at scene results c P).saves Saved ≡ Saved)) →
          slice_index_or (results_of results c) i Saved ≡ Saved
      by_count (inl same) = behind c i (omega (arith, same, low)) high
      by_count (inr (more, is)) = elim (cases_lt i ((at scene results c P).saves + 1)) [
        | inl less ↦ let here : i ≡ (at scene results c P).saves = omega (arith, less, low) in ap (λ (k : ℕ). slice_index_or (results_of results c) k Saved) here ∙ is
        | inr past ↦ behind c i (omega (arith, more, past)) high
      ]

  all_saved : (entries P : Past) (phase last : Phase) → ClosesTo scene results phase P entries last → StayUp P entries → AllSaved P entries
  all_saved [] P phase last closes ups = λ c i low high. absurd (omega (arith, low, high))
  all_saved (Post a first letters lost ∷ rest) P phase last closes ups =
      one_saved (Post a first letters lost) P rest (λ h. h) ups.0 (all_saved rest (Post a first letters lost ∷ P) phase last closes.1 ups.1)
  all_saved (Draw a packet keep ∷ rest) P phase last closes ups = one_saved (Draw a packet keep) P rest (λ h. h) ups.0 (all_saved rest (Draw a packet keep ∷ P) _ last closes.1.2 ups.1)
  all_saved (Lose a packet ∷ rest) P phase last closes ups = one_saved (Lose a packet) P rest (λ h. h) ups.0 (all_saved rest (Lose a packet ∷ P) _ last closes.1.2 ups.1)
  all_saved (Local a input ∷ rest) P phase last closes ups = one_saved (Local a input) P rest (λ h. h) ups.0 (all_saved rest (Local a input ∷ P) _ last closes.1.2 ups.1)
  all_saved (Idle a ∷ rest) P phase last closes ups = one_saved (Idle a) P rest (λ h. h) ups.0 (all_saved rest (Idle a ∷ P) _ last closes.1.2 ups.1)
  all_saved (Refused a ∷ rest) P phase last closes ups = absurd (never_refused (next_move scene results phase P) (Refused a) closes.1.0 (move_takes phase P) closes.1.1 tt)

  -- where each save has its result
  pub succeed : (entries P : Past) (phase last : Phase) → ClosesTo scene results phase P entries last → StayUp P entries →
      ((c : ℕ) → c < scene.setup.controllers → length (results_of results c) ≤ (at scene results c (later P entries)).saves) → SavesSucceed scene results P
  succeed entries P phase last closes ups exact c i there low = elim (cases_lt i (length (results_of results c))) [
    | inl within ↦ let all = exact c there in all_saved entries P phase last closes ups c i low (omega (arith, within, all))
    | inr past ↦ none_there (results_of results c) i past
  ]
    where
      none_there : (rs : List SaveResult) (i : ℕ) → length rs ≤ i → slice_index_or rs i Saved ≡ Saved
      none_there [] i le = refl
      none_there (r ∷ rs) zero le = absurd (omega (arith, le))
      none_there (r ∷ rs) (suc i) le = none_there rs i (omega (arith, le))

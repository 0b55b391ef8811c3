-- The history of a journal is made of turns.
use Rattle.std.proofs.Common.{◌≡◌, ℕ, ◌<◌, ◌≤◌, ◌⊎◌, inl, inr, true, cond, ◌&&◌, eqb, List, [], ◌∷◌, ◌++◌, refl, sym, ap, ◌∙◌, subst, subst₂, arith, mod-lt, le_refl}
use mathlib.Core.Path.{subst₃}
use Rattle.std.proofs.lemmas.Bool.{cases_eq, cases_Bool, and_parts, false≢true, eqb-true, cond-true, cond-false}
use Rattle.list_facts.proofs.Elements.{in_append, in_left, in_right}
use Rattle.list_facts.specs.Lists.{IsIn}
use Rattle.list_facts.specs.Fold.{ActorStanding, standing_on}
use Rattle.agreement.specs.History.{Group, size, primary_in, Status, Normal, ViewChange, Recovering, Down, Letter, State, History}
use Rattle.agreement.specs.Invariant.{is_up_status, Invariant}
use Rattle.agreement.specs.Moves.{Moved, LogsStay, fallen, Falls, StandsAt}
use Rattle.agreement.specs.Laws.{Run, still, then, committed_log}
use Rattle.agreement.specs.Turns.{Turn, Shown, nothing_shown, shown_open}
use Rattle.agreement.specs.Journals.{Rules, Entry, Takes, Posts, Refused, controller_of, own_step, actor_rules, stands, firm, rest_left_by, posted_in_history, is_normal_status, tracked, logs, history, IsAllowed, Tracks, Follows, kept_log}
use Rattle.agreement.proofs.Consequences.{own_log}
use Rattle.agreement.proofs.OwedStates.{no_letters}
use Rattle.agreement.proofs.Runs.{run_keeps}
use Rattle.agreement.proofs.Turns.{turn_run}
use Rattle.agreement.proofs.Chains.{moved_after, quiet_after}
use Rattle.agreement.proofs.Standing.{stands_other, stands_own, AreValid, stands_valid, OpenTurn, turn_open, none_open, open_turn}
use Rattle.agreement.proofs.Walks.{at_self, walk_at, walk_on, tail_of, tail_end, resembles_self}

primary_below : {E : Type 0} (g : Group E) (v : ℕ) → primary_in g v < size g
unfolding primary_in size
primary_below g v = mod-lt v (omega arith)

pub is_normal_true : (x : Status) → is_normal_status x ≡ true → x ≡ Normal
is_normal_true Normal e = refl
is_normal_true ViewChange e = absurd (false≢true e)
is_normal_true Recovering e = absurd (false≢true e)
is_normal_true Down e = absurd (false≢true e)

run_after : {E : Type 0} {g : Group E} {h h1 h2 : History E} → Run g h h1 → Run g h1 h2 → Run g h h2
run_after a still = a
run_after a (then c b r m) = then c b (run_after a r) m

-- the log of a view is already that of its primary
tracked_own : {E : Type 0} {g : Group E} {h : History E} → Invariant g h → (v : ℕ) → tracked v (h.state (primary_in g v)) (h.logs v) ≡ h.logs v
tracked_own {E = E} {g = g} {h = h} i v =
    let s : State E = h.state (primary_in g v) in
    elim (cases_Bool (is_normal_status s.status && eqb s.view v)) [
      | inl e ↦
          let x = and_parts (is_normal_status s.status) (eqb s.view v) e in
          let z : s.view ≡ v = eqb-true s.view v x.1 in
          let own : h.logs s.view ≡ s.log = own_log (i.states (primary_in g v) (primary_below g v)) (is_normal_true s.status x.0) (ap (primary_in g) (sym z)) in
          cond-true (is_normal_status s.status && eqb s.view v) s.log (h.logs v) e ∙ sym own ∙ ap h.logs z
      | inr e ↦ cond-false (is_normal_status s.status && eqb s.view v) s.log (h.logs v) e
    ]

tracked_down : {E : Type 0} (v : ℕ) (s : State E) (old : List E) → s.status ≡ Down → tracked v s old ≡ old
tracked_down v s old e = ap (λ (x : Status). cond (is_normal_status x && eqb s.view v) s.log old) e

module _ {Own A E : Type 0} (r : Rules Own A E) (g : Group E) where
  -- the log of each view follows its primary
  tracks : (past : List (Entry Own E)) (e : Entry Own E) → Invariant g (history r g past)
      → Tracks g (history r g past) (history r g (e ∷ past)) (controller_of e)
  tracks past e i = record {
    own = λ v is. ap (λ (j : ℕ). tracked v (r.state (firm (stands r j (e ∷ past)))) (logs r g past v)) (sym is);
    others = λ v ne.
        ap (λ (w : ActorStanding A (Letter E)). tracked v (r.state (firm w)) (logs r g past v)) (stands_other r (primary_in g v) e past (λ z. ne (sym z)))
        ∙ tracked_own i v;
  }

  -- what the entry's controller leaves, and what it posts
  moved_by : (past : List (Entry Own E)) (e : Entry Own E) (new : List (Letter E)) → rest_left_by r e past ≡ new
      → (let w = standing_on (actor_rules r (controller_of e)) (stands r (controller_of e) past) (own_step e) in
      Moved (history r g past) (history r g (e ∷ past)) (controller_of e) (r.state (firm w)) (r.promise (firm w)) (r.life (firm w)) new)
  moved_by past e new left = record {
    state_own = ap (λ (w : ActorStanding A (Letter E)). r.state (firm w)) (stands_own r e past);
    promise_own = ap (λ (w : ActorStanding A (Letter E)). r.promise (firm w)) (stands_own r e past);
    life_own = ap (λ (w : ActorStanding A (Letter E)). r.life (firm w)) (stands_own r e past);
    state_other = λ j ne. ap (λ (w : ActorStanding A (Letter E)). r.state (firm w)) (stands_other r j e past ne);
    promise_other = λ j ne. ap (λ (w : ActorStanding A (Letter E)). r.promise (firm w)) (stands_other r j e past ne);
    life_other = λ j ne. ap (λ (w : ActorStanding A (Letter E)). r.life (firm w)) (stands_other r j e past ne);
    sent_more = λ l j. in_right l (rest_left_by r e past) (posted_in_history r past) j;
    sent_new = λ l j. in_left l (rest_left_by r e past) (posted_in_history r past) (subst (λ (x : List (Letter E)). IsIn l x) (sym left) j);
    sent_split = λ l j. subst (λ (x : List (Letter E)). IsIn l x ⊎ IsIn l (posted_in_history r past)) left (in_append l (rest_left_by r e past) (posted_in_history r past) j);
  }

module _ {Own A E : Type 0} {r : Rules Own A E} {g : Group E} (f : Follows r g) (o : 1 ≤ g.most_failures) where
  -- d stands at a, and has done nothing
  rests : {h h' : History E} (d : ℕ) (a : A) → Invariant g h → d < size g → StandsAt h d (r.state a) (r.promise a) (r.life a)
      → Moved h h' d (r.state a) (r.promise a) (r.life a) [] → Tracks g h h' d → Turn g d h h'
  rests {h} {h'} d a i b at t k =
      let q : LogsStay h h' = record {
        same = λ v. elim (cases_eq d (primary_in g v)) [
          | inl z ↦ k.own v z ∙ ap (λ (s : State E). tracked v s (h.logs v)) (t.state_own ∙ sym at.state_is ∙ ap h.state z) ∙ tracked_own i v
          | inr z ↦ k.others v z
        ];
      } in
      let w0 = tail_of f.group b (walk_at i (at_self _ d)) in
      let t' = subst₃ (λ s p l. Moved h h' d s p l []) (sym at.state_is) (sym at.promise_is) (sym at.life_is) t in
      tail_end f.group b w0 t' (resembles_self (h.state d)) (λ x j. j) (λ x j. j) q.same

  -- the open turn of d is over, where one is, and what it said is posted
  closes : {h h' : History E} (d : ℕ) (w : ActorStanding A (Letter E)) → Invariant g h → d < size g → AreValid r d w → OpenTurn r d h.sent w
      → StandsAt h d (r.state (firm w)) (r.promise (firm w)) (r.life (firm w)) → Moved h h' d (r.state w.now) (r.promise w.now) (r.life w.now) w.owed
      → Tracks g h h' d → Turn g d h h'
  closes {h} {h'} d w i b fine (none_open fresh owed) at t k =
      let is : firm w ≡ w.now = cond-false w.fresh w.before w.now fresh in
      rests d w.now i b (subst (λ (a : A). StandsAt h d (r.state a) (r.promise a) (r.life a)) is at)
      (subst (λ (ls : List (Letter E)). Moved h h' d (r.state w.now) (r.promise w.now) (r.life w.now) ls) owed t) k
  closes {h} {h'} d w i b fine (turn_open x comes fresh now owed) at t k =
      let is : firm w ≡ w.before = cond-true w.fresh w.before w.now fresh in
      f.turns o h h' d w.before x i b fine.before (subst (λ (a : A). StandsAt h d (r.state a) (r.promise a) (r.life a)) is at) comes
      (subst₂ (λ a ls. Moved h h' d (r.state a) (r.promise a) (r.life a) ls) now owed t) k

  -- the entry is a turn of its controller
  entry_turns : (past : List (Entry Own E)) (e : Entry Own E) → Invariant g (history r g past) → IsAllowed r g (e ∷ past)
      → Turn g (controller_of e) (history r g past) (history r g (e ∷ past))
  entry_turns past (Takes d x) i k =
      closes d (stands r d past) i k.0.0 (stands_valid f d k.0.0 past) (open_turn r g past k.1 d) (at_self (history r g past) d)
      (moved_by r g past (Takes d x) (stands r d past).owed (sym k.0.2)) (tracks r g past (Takes d x) i)
  entry_turns past (Posts d) i k =
      closes d (stands r d past) i k.0 (stands_valid f d k.0 past) (open_turn r g past k.1 d) (at_self (history r g past) d)
      (moved_by r g past (Posts d) (stands r d past).owed refl) (tracks r g past (Posts d) i)
  entry_turns past (Refused d) i k =
      let w : ActorStanding A (Letter E) = stands r d past in
      let h : History E = history r g past in
      let h' : History E = history r g (Refused d ∷ past) in
      let s' : State E = fallen (h.state d) in
      let is : firm w ≡ w.before = cond-true w.fresh w.before w.now k.0.1 in
      let like = f.refuses d (firm w) in
      let t = subst (λ (a : A). Moved h h' d (r.state (r.refused d a)) (r.promise (r.refused d a)) (r.life (r.refused d a)) []) (sym is)
      (moved_by r g past (Refused d) [] refl) in
      let tr = tracks r g past (Refused d) i in
      let w0 = walk_at i (at_self _ d) in
      let w1 = walk_on f.group k.0.0 w0 s' (h.promise d) (h.life d) [] no_letters
      (Falls (h.promise d) (h.life d) (le_refl (h.promise d)) (le_refl (h.life d)) (moved_after w0.at d s' _ _ []) (quiet_after w0.at d s' _ _ [])) in
      let t' = subst₂ (λ p l. Moved h h' d (r.state (r.refused d (firm w))) p l []) like.1 like.2 t in
      tail_end f.group k.0.0 (tail_of f.group k.0.0 w1) t' like.0 (λ x j. j) (λ x j. j)
      (λ v. elim (cases_eq d (primary_in g v)) [
        | inl z ↦ tr.own v z ∙ tracked_down v (h'.state d) (h.logs v) (ap (λ (s : State E). s.status) t.state_own ∙ like.0.status)
        | inr z ↦ tr.others v z
      ])

  controller_below : (past : List (Entry Own E)) (e : Entry Own E) → IsAllowed r g (e ∷ past) → controller_of e < size g
  controller_below past (Takes d x) k = k.0.0
  controller_below past (Posts d) k = k.0
  controller_below past (Refused d) k = k.0.0

  -- more entries are a run
  pub journal_runs : (more past : List (Entry Own E)) → Invariant g (history r g past) → IsAllowed r g (more ++ past) → Run g (history r g past) (history r g (more ++ past))
  journal_runs [] past i k = still
  journal_runs (e ∷ more) past i k =
      let run = journal_runs more past i k.1 in
      run_after run (turn_run (controller_below (more ++ past) e k) (entry_turns (more ++ past) e (run_keeps f.group i run) k))

  -- what a journal keeps of a controller is shown by it
  pub journal_shows : (past : List (Entry Own E)) (c : ℕ) → Invariant g (history r g past) → IsAllowed r g past → c < size g → Shown g (history r g past) c (kept_log r c past)
  journal_shows past c i k b =
      let h' : History E = history r g (Posts c ∷ past) in
      let s : State E = r.state (stands r c past).now in
      let turn : Turn g c (history r g past) h' = entry_turns past (Posts c) i (b, k) in
      let is : h'.state c ≡ s = ap (λ (w : ActorStanding A (Letter E)). r.state (firm w)) (stands_own r (Posts c) past) in
      elim (cases_Bool (is_up_status s.status)) [
        | inl u ↦
            let e : kept_log r c past ≡ committed_log (h'.state c) = cond-true (is_up_status s.status) (committed_log s) [] u ∙ ap (λ (x : State E). committed_log x) (sym is) in
            subst (λ (xs : List E). Shown g (history r g past) c xs) (sym e) (shown_open h' turn (ap (λ (x : State E). is_up_status x.status) is ∙ u))
        | inr u ↦
            let e : kept_log r c past ≡ [] = cond-false (is_up_status s.status) (committed_log s) [] u in
            subst (λ (xs : List E). Shown g (history r g past) c xs) (sym e) nothing_shown
      ]

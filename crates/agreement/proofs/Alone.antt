-- A group of one: its log only goes on, and so what it shows agrees.
use Rattle.std.proofs.Common.{◌≡◌, ℕ, ◌<◌, ◌⊎◌, inl, inr, true, List, [], ◌∷◌, ◌++◌, sym, ap, ◌∙◌, subst, arith}
use Rattle.std.proofs.lemmas.Bool.{cases_Bool, false≢true, cond-true, cond-false}
use Rattle.list_facts.proofs.Prefixes.{comparable, front_prefix, prefix_nil, prefix_refl, prefix_trans}
use Rattle.list_facts.specs.Lists.{IsPrefix}
use Rattle.list_facts.specs.Fold as step
use Rattle.list_facts.specs.Fold.{Step, ActorStanding, standing_on, actor_standing}
use Rattle.agreement.specs.History.{Group, size, Letter, State}
use Rattle.agreement.specs.Invariant.{is_up_status}
use Rattle.agreement.specs.Laws.{committed_log}
use Rattle.agreement.specs.Journals.{Input, Rules, Entry, own_steps, actor_rules, stands, Follows, GoesOn, kept_log}
use Rattle.agreement.proofs.Standing.{own_more, AreValid, valid_after}

module _ {Own A E : Type 0} {r : Rules Own A E} {g : Group E} (f : Follows r g) (o : g.most_failures ≡ 0) where
  abbrev after : ℕ → List (Step (Input Own E)) → State E
  after c steps = r.state (actor_standing (actor_rules r c) (r.start c) steps).now

  step_goes : (c : ℕ) (w : ActorStanding A (Letter E)) (s : Step (Input Own E)) → c < size g → AreValid r c w
      → (let w' = standing_on (actor_rules r c) w s in is_up_status (r.state w'.now).status ≡ true → GoesOn (r.state w.now) (r.state w'.now))
  step_goes c w (step.Takes x) b fine u = f.alone o c w.now x b fine.now u
  step_goes c w step.Posts b fine u = record { up = u; longer = prefix_refl (r.state w.now).log }
  step_goes c w step.Refuses b fine u = absurd (false≢true (ap is_up_status (sym (f.refuses c w.before).0.status) ∙ u))
  step_goes c w step.Rests b fine u = record { up = u; longer = prefix_refl (r.state w.now).log }

  steps_go : (c : ℕ) (more past : List (Step (Input Own E))) → c < size g → is_up_status (after c (more ++ past)).status ≡ true
      → GoesOn (after c past) (after c (more ++ past))
  steps_go c [] past b u = record { up = u; longer = prefix_refl (after c past).log }
  steps_go c (s ∷ more) past b u =
      let last = step_goes c (actor_standing (actor_rules r c) (r.start c) (more ++ past)) s b (valid_after f c b (more ++ past)) u in
      let first = steps_go c more past b last.up in
      record { up = first.up; longer = prefix_trans first.longer last.longer }

  pub journal_goes : (c : ℕ) (more past : List (Entry Own E)) → c < size g
      → is_up_status (r.state (stands r c (more ++ past)).now).status ≡ true → GoesOn (r.state (stands r c past).now) (r.state (stands r c (more ++ past)).now)
  journal_goes c more past b =
      subst (λ (steps : List (Step (Input Own E))). is_up_status (after c steps).status ≡ true → GoesOn (after c (own_steps c past)) (after c steps))
      (sym (own_more c more past)) (λ u. steps_go c (own_steps c more) (own_steps c past) b u)

  pub alone_below : (c : ℕ) → c < size g → c ≡ 0
  unfolding size
  alone_below c b = omega arith

  pub alone_agrees : (more past : List (Entry Own E)) (c d : ℕ) → c < size g → d < size g → IsPrefix (kept_log r c past) (kept_log r d (more ++ past)) ⊎ IsPrefix (kept_log r d (more ++ past)) (kept_log r c past)
  alone_agrees more past c d b b' =
      let same : d ≡ c = alone_below d b' ∙ sym (alone_below c b) in
      subst (λ (j : ℕ). IsPrefix (kept_log r c past) (kept_log r j (more ++ past)) ⊎ IsPrefix (kept_log r j (more ++ past)) (kept_log r c past)) (sym same)
      (let s : State E = r.state (stands r c past).now in
      let s' : State E = r.state (stands r c (more ++ past)).now in
      elim (cases_Bool (is_up_status s'.status)) [
        | inr u ↦ inr (subst (λ (l : List E). IsPrefix l (kept_log r c past)) (sym (cond-false (is_up_status s'.status) (committed_log s') [] u)) (prefix_nil (kept_log r c past)))
        | inl u ↦
            let on = journal_goes c more past b u in
            let front : IsPrefix (committed_log s) s'.log = prefix_trans (front_prefix s.commit s.log) on.longer in
            subst (λ (l : List E). IsPrefix l (kept_log r c (more ++ past)) ⊎ IsPrefix (kept_log r c (more ++ past)) l) (sym (cond-true (is_up_status s.status) (committed_log s) [] on.up))
            (subst (λ (l : List E). IsPrefix (committed_log s) l ⊎ IsPrefix l (committed_log s)) (sym (cond-true (is_up_status s'.status) (committed_log s') [] u))
            (comparable front (front_prefix s'.commit s'.log)))
      ])

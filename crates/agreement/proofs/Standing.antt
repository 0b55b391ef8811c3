-- Where a controller stands after its entries.
use Rattle.std.proofs.Common.{◌≡◌, ◌≢◌, ℕ, ◌<◌, inl, inr, Bool, true, false, nat_eq, eqb, List, [], ◌∷◌, ◌++◌, map, filter, refl, sym, ap, ◌∙◌, subst}
use Rattle.std.proofs.lemmas.Bool.{cases_eq, eq-eqb, ne_eqb, cond-true, cond-false}
use Rattle.std.proofs.lemmas.List.{map-append}
use Rattle.std.proofs.lemmas.List.Elements.{filter-append}
use Rattle.list_facts.proofs.Elements.{in_right}
use Rattle.list_facts.specs.Fold as step
use Rattle.list_facts.specs.Fold.{Step, ActorStanding, actor_standing, standing_on}
use Rattle.agreement.specs.History.{Group, size, Letter}
use Rattle.agreement.specs.Journals.{Input, Local, Heard, Rules, Entry, Takes, Posts, Refused, controller_of, own_step, own_steps, actor_rules, stands, rest_left_by, posted_in_history, Comes, MayStand, IsAllowed, Follows}

-- the steps of more entries stand behind those of fewer
pub own_more : {Own E : Type 0} (c : ℕ) (more past : List (Entry Own E)) → own_steps c (more ++ past) ≡ own_steps c more ++ own_steps c past
own_more {Own} {E} c more past =
    let is_own : Entry Own E → Bool = λ e. nat_eq (controller_of e) c in
    ap (λ (own : List (Entry Own E)). map own_step own) (filter-append is_own more past) ∙ map-append own_step (filter is_own more) (filter is_own past)

module _ {Own A E : Type 0} (r : Rules Own A E) where
  abbrev after : ℕ → List (Entry Own E) → ActorStanding A (Letter E)
  after c own = actor_standing (actor_rules r c) (r.start c) (map own_step own)

  -- an entry of another changes nothing
  pub stands_other : (c : ℕ) (e : Entry Own E) (past : List (Entry Own E)) → c ≢ controller_of e → stands r c (e ∷ past) ≡ stands r c past
  stands_other c e past ne =
      let d : ℕ = controller_of e in
      ap (λ (own : List (Entry Own E)). after c own) (cond-false (eqb d c) _ _ (ne_eqb d c (λ z. ne (sym z))))

  -- its own one is its next step
  pub stands_own : (e : Entry Own E) (past : List (Entry Own E))
      → (let c = controller_of e in stands r c (e ∷ past) ≡ standing_on (actor_rules r c) (stands r c past) (own_step e))
  stands_own e past =
      let c : ℕ = controller_of e in
      ap (λ (own : List (Entry Own E)). after c own) (cond-true (eqb c c) _ _ (eq-eqb c c refl))

-- its states are valid
pub record AreValid {Own A E : Type 0} (r : Rules Own A E) (c : ℕ) (w : ActorStanding A (Letter E)) : Type 0 where
  pub now : r.is_valid c w.now ≡ true
  pub before : r.is_valid c w.before ≡ true

module _ {Own A E : Type 0} {r : Rules Own A E} {g : Group E} (f : Follows r g) (c : ℕ) (b : c < size g) where
  pub valid_after : (steps : List (Step (Input Own E))) → AreValid r c (actor_standing (actor_rules r c) (r.start c) steps)
  valid_after [] = record { now = f.starts_valid c b; before = f.starts_valid c b }
  valid_after (step.Takes x ∷ steps) = let old = valid_after steps in record { now = f.turns_valid c _ x b old.now; before = old.now }
  valid_after (step.Posts ∷ steps) = let old = valid_after steps in record { now = old.now; before = old.before }
  valid_after (step.Refuses ∷ steps) = let old = valid_after steps in record { now = f.refuses_valid c _ b old.before; before = old.before }
  valid_after (step.Rests ∷ steps) = let old = valid_after steps in record { now = old.now; before = old.before }

  pub stands_valid : (past : List (Entry Own E)) → AreValid r c (stands r c past)
  stands_valid past = valid_after (own_steps c past)

-- The turn of c that is open: it may still be refused, and was done for an input that has come. Or none is, and c owes nothing.
pub data OpenTurn {Own A E : Type 0} (r : Rules Own A E) (c : ℕ) (sent : List (Letter E)) (w : ActorStanding A (Letter E)) : Type 0 where
  turn_open : (x : Input Own E) → Comes c x sent → w.fresh ≡ true
      → w.now ≡ (r.turn c w.before x).0 → w.owed ≡ (r.turn c w.before x).1 → OpenTurn r c sent w
  none_open : w.fresh ≡ false → w.owed ≡ [] → OpenTurn r c sent w

comes_more : {Own E : Type 0} (c : ℕ) (x : Input Own E) (new old : List (Letter E)) → Comes c x old → Comes c x (new ++ old)
comes_more c (Local i) new old k = k
comes_more c (Heard l) new old k = (k.0, in_right l new old k.1)

module _ {Own A E : Type 0} (r : Rules Own A E) (g : Group E) where
  open_more : (c : ℕ) (new old : List (Letter E)) (w : ActorStanding A (Letter E)) → OpenTurn r c old w → OpenTurn r c (new ++ old) w
  open_more c new old w (turn_open x comes fresh now owed) = turn_open x (comes_more c x new old comes) fresh now owed
  open_more c new old w (none_open fresh owed) = none_open fresh owed

  open_own : (e : Entry Own E) (past : List (Entry Own E)) → MayStand r g e past
      → (let c = controller_of e in OpenTurn r c (posted_in_history r (e ∷ past)) (standing_on (actor_rules r c) (stands r c past) (own_step e)))
  open_own (Takes d x) past k = turn_open x k.1 refl refl refl
  open_own (Posts d) past k = none_open refl refl
  open_own (Refused d) past k = none_open refl refl

  pub open_turn : (past : List (Entry Own E)) → IsAllowed r g past → (c : ℕ) → OpenTurn r c (posted_in_history r past) (stands r c past)
  open_turn [] k c = none_open refl refl
  open_turn (e ∷ past) k c = elim (cases_eq c (controller_of e)) [
    | inl z ↦
        let own : OpenTurn r (controller_of e) (posted_in_history r (e ∷ past)) (stands r (controller_of e) (e ∷ past)) =
        subst (λ (w : ActorStanding A (Letter E)). OpenTurn r (controller_of e) (posted_in_history r (e ∷ past)) w) (sym (stands_own r e past)) (open_own e past k.0) in
        subst (λ (j : ℕ). OpenTurn r j (posted_in_history r (e ∷ past)) (stands r j (e ∷ past))) (sym z) own
    | inr ne ↦ subst (λ (w : ActorStanding A (Letter E)). OpenTurn r c (posted_in_history r (e ∷ past)) w) (sym (stands_other r c e past ne))
        (open_more c (rest_left_by r e past) (posted_in_history r past) (stands r c past) (open_turn past k.1 c))
  ]

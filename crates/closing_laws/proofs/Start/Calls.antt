-- What a member of the quorum said as it suspected is drained: each other member of the quorum takes the vote, and with
-- its last one tells its log to the primary.
use Rattle.std.proofs.Common.{◌≡◌, ◌<◌, inl, inr, ℕ, zero, suc, ◌+◌, ◌-◌, ◌/◌, ◌%◌, Bool, true, false, List, [], ◌∷◌, ◌++◌, length, map, drop, refl, sym, ◌∙◌, ap, subst, arith, append-nil, append_assoc}
use Rattle.std.specs.Prelude.{not, nat_eq, ◌&&◌, ◌||◌, filter, if◌then◌else◌}
use Rattle.std.proofs.lemmas.Bool.{eq-eqb, ne_eqb, eqb-true, eqb-false, cases_lt, both_ways}
use Rattle.std.proofs.lemmas.List.{map-append}
use Rattle.std.proofs.Math.Bool.{or-false, or_assoc}
use Rattle.vr_log.specs.declared.message.VrMessage.TheVariants as message
use Rattle.vr_log.specs.declared.state.VrState.{VrState}
use Rattle.vr_log.specs.Members.{is_changing}
use Rattle.vr_log.specs.Steps.{VrStep, letter, sends}
use Rattle.vr_core.specs.declared.input.VrInput.TheVariants as vr_input
use Rattle.vr_core.specs.Step.{vr_step}
use Rattle.of_types.specs.SmallSets.{with_number}
use Rattle.closing_laws.specs.Quorum.{has}
use Rattle.closing_laws.specs.Draining.{Flight, GroupState, flown, put_state, drained_group, drains}
use Rattle.closing_laws.specs.Views.{IsReadyMember, vote_letters, voting}
use Rattle.closing_laws.proofs.Lists.Numbers.{Once, has_here, has_later, with_length}
use Rattle.closing_laws.proofs.Start.Members.{vote_taken}
use Rattle.closing_laws.proofs.Start.Words.{call, log_sent}

-- the members of a quorum change view
abbrev pub AreChanging : List ℕ → (ℕ → VrState) → Type 0
AreChanging quorum at = (j : ℕ) → has quorum j ≡ true → is_changing (at j) ≡ true

-- after so many drains the members are these, and this waits. Before each of them those of the quorum change view
pub record After (n : ℕ) (quorum : List ℕ) (g : GroupState) (at : ℕ → VrState) (pool : List Flight) (turns : ℕ) : Type 0 where
  pub found : ℕ → VrState
  pub drained_to : drains n quorum g ≡ record { at = found; pool = pool; turns = turns }
  pub each : (j : ℕ) → found j ≡ at j
  pub changing : (i : ℕ) → i < n → AreChanging quorum (drains i quorum g).at

pub drains_add : (n m : ℕ) (quorum : List ℕ) (g : GroupState) → drains (n + m) quorum g ≡ drains m quorum (drains n quorum g)
unfolding drains
drains_add zero m quorum g = let same : 0 + m ≡ m = omega arith in ap (λ (k : ℕ). drains k quorum g) same
drains_add (suc n) m quorum g =
    let same : suc n + m ≡ suc (n + m) = omega arith in
    ap (λ (k : ℕ). drains k quorum g) same ∙ drains_add n m quorum (drained_group quorum g g.pool)

pub none_after : (quorum : List ℕ) (at at' : ℕ → VrState) (pool pool' : List Flight) (turns turns' : ℕ) → ((j : ℕ) → at j ≡ at' j) → pool ≡ pool' → turns ≡ turns' →
    After 0 quorum (record { at = at; pool = pool; turns = turns }) at' pool' turns'
unfolding drains
none_after quorum at at' pool pool' turns turns' each p t =
    record {
      found = at;
      drained_to = ap (λ (q : List Flight). record { at = at; pool = q; turns = turns }) p ∙ ap (λ (k : ℕ). record { at = at; pool = pool'; turns = k }) t;
      each = each;
      changing = λ i less. absurd (omega (arith, less));
    }

changing_on : (n m : ℕ) (quorum : List ℕ) (g : GroupState) (found : ℕ → VrState) (pool : List Flight) (turns : ℕ) → drains n quorum g ≡ record { at = found; pool = pool; turns = turns } →
    ((i : ℕ) → i < n → AreChanging quorum (drains i quorum g).at) → ((i : ℕ) → i < m → AreChanging quorum (drains i quorum (record { at = found; pool = pool; turns = turns })).at) →
    (i : ℕ) → i < n + m → AreChanging quorum (drains i quorum g).at
changing_on n m quorum g found pool turns reached first rest i less = elim (cases_lt i n) [
  | inl before ↦ first i before
  | inr from ↦
      let later : n + (i - n) ≡ i = omega (arith, from) in
      subst (λ (k : ℕ). AreChanging quorum (drains k quorum g).at) later
      (subst (λ (x : GroupState). AreChanging quorum x.at) (sym (drains_add n (i - n) quorum g ∙ ap (drains (i - n) quorum) reached))
      (rest (i - n) (omega (arith, from, less))))
]

pub after_on : (n m : ℕ) (quorum : List ℕ) (g : GroupState) (at at' : ℕ → VrState) (pool pool' : List Flight) (turns turns' : ℕ) → After n quorum g at pool turns →
    ((found : ℕ → VrState) → ((j : ℕ) → found j ≡ at j) → After m quorum (record { at = found; pool = pool; turns = turns }) at' pool' turns') →
    After (n + m) quorum g at' pool' turns'
after_on n m quorum g at at' pool pool' turns turns' first further =
    let rest = further first.found first.each in
    record {
      found = rest.found;
      drained_to = drains_add n m quorum g ∙ ap (drains m quorum) first.drained_to ∙ rest.drained_to;
      each = rest.each;
      changing = λ i less. changing_on n m quorum g first.found pool turns first.drained_to first.changing rest.changing i less;
    }

-- where what follows is known of the members as they were found
pub after_first : (n m k : ℕ) (quorum : List ℕ) (g : GroupState) (at at' : ℕ → VrState) (pool pool' : List Flight) (turns turns' turns'' : ℕ) → (first : After n quorum g at pool turns) →
    After m quorum (record { at = first.found; pool = pool; turns = turns }) at' pool' turns' → n + m ≡ k → turns' ≡ turns'' → After k quorum g at' pool' turns''
after_first n m k quorum g at at' pool pool' turns turns' turns'' first rest count same =
    subst (λ (i : ℕ). After i quorum g at' pool' turns'') count (record {
      found = rest.found;
      drained_to = drains_add n m quorum g ∙ ap (drains m quorum) first.drained_to ∙ rest.drained_to ∙ ap (λ (i : ℕ). record { at = rest.found; pool = pool'; turns = i }) same;
      each = rest.each;
      changing = λ i less. changing_on n m quorum g first.found pool turns first.drained_to first.changing rest.changing i less;
    })

pub after_is : (n : ℕ) (quorum : List ℕ) (g : GroupState) (at at' : ℕ → VrState) (pool pool' : List Flight) (turns turns' : ℕ) → After n quorum g at pool turns →
    ((j : ℕ) → at j ≡ at' j) → pool ≡ pool' → turns ≡ turns' → After n quorum g at' pool' turns'
after_is n quorum g at at' pool pool' turns turns' h each p t =
    record {
      found = h.found;
      drained_to = h.drained_to ∙ ap (λ (q : List Flight). record { at = h.found; pool = q; turns = turns }) p ∙ ap (λ (k : ℕ). record { at = h.found; pool = pool'; turns = k }) t;
      each = λ j. h.each j ∙ each j;
      changing = h.changing;
    }

pub after_count : (n m : ℕ) (quorum : List ℕ) (g : GroupState) (at : ℕ → VrState) (pool : List Flight) (turns : ℕ) → n ≡ m → After n quorum g at pool turns → After m quorum g at pool turns
after_count n m quorum g at pool turns same h = subst (λ (k : ℕ). After k quorum g at pool turns) same h

pub one_more : (b : Bool) (j : ℕ) (xs : List ℕ) → (if b then j ∷ [] else []) ++ xs ≡ (if b then j ∷ xs else xs)
one_more true j xs = refl
one_more false j xs = refl

-- before the first drain
first_changing : (quorum : List ℕ) (g : GroupState) → AreChanging quorum g.at → (i : ℕ) → i < 1 → AreChanging quorum (drains i quorum g).at
unfolding drains
first_changing quorum g still zero less = still
first_changing quorum g still (suc i) less = absurd (omega (arith, less))

-- one packet that is drawn
pub one_drawn : (quorum : List ℕ) (at at' : ℕ → VrState) (f : Flight) (waiting pool' : List Flight) (turns : ℕ) (step : VrStep) → AreChanging quorum at → has quorum f.to ≡ true →
    vr_step (at f.to) (vr_input.From f.from f.message) ≡ step →
    ((j : ℕ) → put_state at f.to step.state j ≡ at' j) → waiting ++ map (flown f.to) step.letters ≡ pool' →
    After 1 quorum (record { at = at; pool = f ∷ waiting; turns = turns }) at' pool' (turns + 1)
unfolding drains
one_drawn quorum at at' f waiting pool' turns step still member is each posted =
    record {
      found = put_state at f.to step.state;
      drained_to = rw (member, is) (ap (λ (q : List Flight). record { at = put_state at f.to step.state; pool = q; turns = turns + 1 }) posted);
      each = each;
      changing = first_changing quorum (record { at = at; pool = f ∷ waiting; turns = turns }) still;
    }

-- and one that is lost
pub one_lost : (quorum : List ℕ) (at at' : ℕ → VrState) (f : Flight) (waiting : List Flight) (turns : ℕ) → AreChanging quorum at → has quorum f.to ≡ false → ((j : ℕ) → at j ≡ at' j) →
    After 1 quorum (record { at = at; pool = f ∷ waiting; turns = turns }) at' waiting turns
unfolding drains
one_lost quorum at at' f waiting turns still other each =
    record {
      found = at;
      drained_to = rw other refl;
      each = each;
      changing = first_changing quorum (record { at = at; pool = f ∷ waiting; turns = turns }) still;
    }

-- a vote, by the number of the member and the size of its group
abbrev VoteOf : ℕ → ℕ → ℕ → ℕ → VrState → List ℕ → Type 0
VoteOf n w c j s voters =
    vr_step (voting (n / 2) w (w % n) s voters) (vr_input.From c (message.StartViewChange w)) ≡
    sends (voting (n / 2) w (w % n) s (with_number c voters))
    (if not (nat_eq (w % n) j) && nat_eq (suc (length voters)) (n / 2)
    then letter (message.DoViewChange w s.normal s.commit (drop s.commit s.log)) (w % n) ∷ [] else [])

pub vote_of : (n w c j : ℕ) (s : VrState) (voters : List ℕ) → IsReadyMember n w j s → c < n → (c ≡ j → ⊥) → has voters c ≡ false → length voters < n / 2 → VoteOf n w c j s voters
vote_of n w c j s voters m small other none less =
    subst (λ (k : ℕ). VoteOf k w c j s voters) m.size
    (subst (λ (k : ℕ). VoteOf s.controllers w c k s voters) m.me
    (vote_taken s w c voters (let size = m.size in omega (arith, small, size)) (λ e. other (e ∙ m.me)) m.commit m.is_one
    (subst (λ (k : ℕ). length voters < k / 2) (sym m.size) less) (with_length c voters none)))

-- as the law says it, by the member's own number
pub vote_told : (n w c j : ℕ) (s : VrState) (voters : List ℕ) → IsReadyMember n w j s → c < n → (c ≡ j → ⊥) → has voters c ≡ false → length voters < n / 2 →
    vr_step (voting (n / 2) w (w % n) s voters) (vr_input.From c (message.StartViewChange w)) ≡
    sends (voting (n / 2) w (w % n) s (with_number c voters)) (vote_letters (n / 2) w (w % n) s voters)
vote_told n w c j s voters m small other none less =
    vote_of n w c j s voters m small other none less
    ∙ ap (λ (k : ℕ). sends (voting (n / 2) w (w % n) s (with_number c voters))
    (if not (nat_eq (w % n) k) && nat_eq (suc (length voters)) (n / 2) then letter (message.DoViewChange w s.normal s.commit (drop s.commit s.log)) (w % n) ∷ [] else [])) (sym m.me)

module _ (n w : ℕ) (quorum : List ℕ) (start : ℕ → VrState) (ready : (j : ℕ) → has quorum j ≡ true → IsReadyMember n w j (start j)) where
  -- the members, where those of the quorum have these votes
  abbrev pub held : (ℕ → List ℕ) → ℕ → VrState
  held voters j = if has quorum j then voting (n / 2) w (w % n) (start j) (voters j) else start j

  pub held_changing : (v : ℕ → List ℕ) (at : ℕ → VrState) → ((j : ℕ) → at j ≡ held v j) → AreChanging quorum at
  held_changing v at each j member = ap is_changing (each j) ∙ rw member refl

  pub held_same : (v v' : ℕ → List ℕ) → ((j : ℕ) → has quorum j ≡ true → v j ≡ v' j) → (j : ℕ) → held v j ≡ held v' j
  held_same v v' same j = by_test (has quorum j) refl
    where
      by_test : (b : Bool) → has quorum j ≡ b → (if b then voting (n / 2) w (w % n) (start j) (v j) else start j) ≡ (if b then voting (n / 2) w (w % n) (start j) (v' j) else start j)
      by_test true e = ap (λ (l : List ℕ). voting (n / 2) w (w % n) (start j) l) (same j e)
      by_test false e = refl

  module _ (c : ℕ) (voters : ℕ → List ℕ) where
    -- a vote came to those that heard it
    abbrev pub told : (ℕ → Bool) → ℕ → List ℕ
    told heard j = if heard j then with_number c (voters j) else voters j

    -- whose last vote it is tells its log, if it is not the primary
    abbrev pub tells_now : ℕ → Bool
    tells_now j = has quorum j && (not (nat_eq (w % n) j) && nat_eq (suc (length (voters j))) (n / 2))

    -- who can take the vote
    pub record IsOpen (heard : ℕ → Bool) (j : ℕ) : Type 0 where
      pub unheard : heard j ≡ false
      pub other : c ≡ j → ⊥
      pub fresh : has (voters j) c ≡ false
      pub less : length (voters j) < n / 2

    drawn_one : (small : c < n) (heard : ℕ → Bool) (at : ℕ → VrState) (each : (j : ℕ) → at j ≡ held (told heard) j) (j : ℕ) (waiting rest : List Flight) (turns : ℕ) → IsOpen heard j →
        has quorum j ≡ true →
        After 1 quorum (record { at = at; pool = call w c j ∷ (waiting ++ rest); turns = turns }) (held (told (λ x. heard x || nat_eq j x)))
        (waiting ++ (rest ++ map (log_sent start w (w % n)) (if not (nat_eq (w % n) j) && nat_eq (suc (length (voters j))) (n / 2) then j ∷ [] else []))) (turns + 1)
    drawn_one small heard at each j waiting rest turns free member =
        let m = ready j member in
        let step = sends (voting (n / 2) w (w % n) (start j) (with_number c (voters j)))
        (if not (nat_eq (w % n) j) && nat_eq (suc (length (voters j))) (n / 2)
        then letter (message.DoViewChange w (start j).normal (start j).commit (drop (start j).commit (start j).log)) (w % n) ∷ [] else []) in
        let at_is : at j ≡ voting (n / 2) w (w % n) (start j) (voters j) = each j ∙ rw (member, free.unheard) refl in
        let takes : vr_step (at j) (vr_input.From c (message.StartViewChange w)) ≡ step =
        ap (λ (s : VrState). vr_step s (vr_input.From c (message.StartViewChange w))) at_is ∙ vote_of n w c j (start j) (voters j) m small free.other free.fresh free.less in
        one_drawn quorum at (held (told (λ x. heard x || nat_eq j x))) (call w c j) (waiting ++ rest)
        (waiting ++ (rest ++ map (log_sent start w (w % n)) (if not (nat_eq (w % n) j) && nat_eq (suc (length (voters j))) (n / 2) then j ∷ [] else []))) turns step (held_changing (told heard) at each) member takes
        (λ x. placed x (nat_eq x j) refl) (append_assoc waiting rest (map (flown j) step.letters) ∙ ap (λ (l : List Flight). waiting ++ (rest ++ l)) (mapped (not (nat_eq (w % n) j) && nat_eq (suc (length (voters j))) (n / 2))))
      where
        mapped : (b : Bool) → map (flown j) (if b then letter (message.DoViewChange w (start j).normal (start j).commit (drop (start j).commit (start j).log)) (w % n) ∷ [] else []) ≡
            map (log_sent start w (w % n)) (if b then j ∷ [] else [])
        mapped true = refl
        mapped false = refl

        placed : (x : ℕ) (b : Bool) → nat_eq x j ≡ b →
            (if b then voting (n / 2) w (w % n) (start j) (with_number c (voters j)) else at x) ≡ held (told (λ y. heard y || nat_eq j y)) x
        placed x true e =
            let same : x ≡ j = eqb-true x j e in
            subst (λ (y : ℕ). voting (n / 2) w (w % n) (start j) (with_number c (voters j)) ≡ held (told (λ z. heard z || nat_eq j z)) y) (sym same)
            (rw (member, free.unheard, eq-eqb j j refl) refl)
        placed x false e =
            let apart : nat_eq j x ≡ false = ne_eqb j x (λ i. eqb-false x j e (sym i)) in
            let same : heard x ≡ (heard x || nat_eq j x) = rw apart (sym (or-false (heard x))) in
            each x ∙ ap (λ (b : Bool). if has quorum x then voting (n / 2) w (w % n) (start x) (if b then with_number c (voters x) else voters x) else start x) same

    told_by : (heard heard' : ℕ → Bool) (at : ℕ → VrState) → ((j : ℕ) → at j ≡ held (told heard) j) → ((j : ℕ) → heard j ≡ heard' j) → (j : ℕ) → at j ≡ held (told heard') j
    told_by heard heard' at each same j =
        each j ∙ ap (λ (b : Bool). if has quorum j then voting (n / 2) w (w % n) (start j) (if b then with_number c (voters j) else voters j) else start j) (same j)

    -- all that one member said is drained
    pub calls_drained : (small : c < n) (js : List ℕ) (heard : ℕ → Bool) (at : ℕ → VrState) (rest : List Flight) (turns : ℕ) → ((j : ℕ) → at j ≡ held (told heard) j) → Once js →
        ((j : ℕ) → has js j ≡ true → heard j ≡ false) → ((j : ℕ) → has js j ≡ true → has quorum j ≡ true → IsOpen heard j) →
        After (length js) quorum (record { at = at; pool = map (call w c) js ++ rest; turns = turns }) (held (told (λ x. heard x || has js x)))
        (rest ++ map (log_sent start w (w % n)) (filter tells_now js)) (turns + length (filter (has quorum) js))
    calls_drained small [] heard at rest turns each once unheard all =
        none_after quorum at (held (told (λ x. heard x || false))) rest (rest ++ []) turns (turns + 0)
        (told_by heard (λ x. heard x || false) at each (λ j. sym (or-false (heard j)))) (sym (append-nil rest)) (omega arith)
    calls_drained small (j ∷ js) heard at rest turns each once unheard all =
        let later : (heard' : ℕ → Bool) → ((x : ℕ) → heard' x ≡ (heard x || nat_eq j x)) → (x : ℕ) → has js x ≡ true → heard' x ≡ false =
        (λ heard' is x h. is x ∙ rw (unheard x (has_later j x js h), ne_eqb j x (λ e. both_ways (has js x) (ap (has js) (sym e) ∙ once.0) h)) refl) in
        let one : 1 + length js ≡ length (j ∷ js) = omega arith in
        subst (λ (k : ℕ). After k quorum (record { at = at; pool = map (call w c) (j ∷ js) ++ rest; turns = turns }) (held (told (λ x. heard x || has (j ∷ js) x)))
        (rest ++ map (log_sent start w (w % n)) (filter tells_now (j ∷ js))) (turns + length (filter (has quorum) (j ∷ js)))) one
        (by_member (has quorum j) refl
        (λ found each' rest' turns'. calls_drained small js (λ x. heard x || nat_eq j x) found rest' turns' each' once.1 (later (λ x. heard x || nat_eq j x) (λ x. refl))
        (λ x h member. let o = all x (has_later j x js h) member in
        record { unheard = later (λ y. heard y || nat_eq j y) (λ y. refl) x h; other = o.other; fresh = o.fresh; less = o.less })))
      where
        Rest : Type 0
        Rest = (found : ℕ → VrState) → ((x : ℕ) → found x ≡ held (told (λ y. heard y || nat_eq j y)) x) → (rest' : List Flight) (turns' : ℕ) →
            After (length js) quorum (record { at = found; pool = map (call w c) js ++ rest'; turns = turns' }) (held (told (λ x. (heard x || nat_eq j x) || has js x)))
            (rest' ++ map (log_sent start w (w % n)) (filter tells_now js)) (turns' + length (filter (has quorum) js))

        by_member : (b : Bool) → has quorum j ≡ b → Rest →
            After (1 + length js) quorum (record { at = at; pool = map (call w c) (j ∷ js) ++ rest; turns = turns }) (held (told (λ x. heard x || has (j ∷ js) x)))
            (rest ++ map (log_sent start w (w % n)) (filter tells_now (j ∷ js))) (turns + length (filter (has quorum) (j ∷ js)))
        by_member true member further =
            let b : Bool = not (nat_eq (w % n) j) && nat_eq (suc (length (voters j))) (n / 2) in
            let told_one : List ℕ = if b then j ∷ [] else [] in
            let rest' = rest ++ map (log_sent start w (w % n)) told_one in
            let final = rest ++ map (log_sent start w (w % n)) (filter tells_now (j ∷ js)) in
            let joined : rest' ++ map (log_sent start w (w % n)) (filter tells_now js) ≡ final =
            append_assoc rest (map (log_sent start w (w % n)) told_one) (map (log_sent start w (w % n)) (filter tells_now js))
            ∙ ap (λ (l : List Flight). rest ++ l) (sym (map-append (log_sent start w (w % n)) told_one (filter tells_now js)))
            ∙ ap (λ (l : List ℕ). rest ++ map (log_sent start w (w % n)) l) (one_more b j (filter tells_now js)
            ∙ ap (λ (a : Bool). if a && b then j ∷ filter tells_now js else filter tells_now js) (sym member)) in
            let count : turns + 1 + length (filter (has quorum) js) ≡ turns + length (filter (has quorum) (j ∷ js)) = rw member (omega arith) in
            after_on 1 (length js) quorum (record { at = at; pool = map (call w c) (j ∷ js) ++ rest; turns = turns }) (held (told (λ y. heard y || nat_eq j y)))
            (held (told (λ x. heard x || has (j ∷ js) x))) (map (call w c) js ++ rest') final (turns + 1) (turns + length (filter (has quorum) (j ∷ js)))
            (drawn_one small heard at each j (map (call w c) js) rest turns (all j (has_here j js) member) member)
            (λ found is. after_is (length js) quorum (record { at = found; pool = map (call w c) js ++ rest'; turns = turns + 1 }) (held (told (λ x. (heard x || nat_eq j x) || has js x)))
            (held (told (λ x. heard x || has (j ∷ js) x))) (rest' ++ map (log_sent start w (w % n)) (filter tells_now js)) final
            (turns + 1 + length (filter (has quorum) js)) (turns + length (filter (has quorum) (j ∷ js))) (further found is rest' (turns + 1))
            (told_by (λ x. (heard x || nat_eq j x) || has js x) (λ x. heard x || (nat_eq j x || has js x)) (held (told (λ x. (heard x || nat_eq j x) || has js x))) (λ x. refl)
            (λ x. or_assoc (heard x) (nat_eq j x) (has js x))) joined count)
        by_member false other further =
            let final = rest ++ map (log_sent start w (w % n)) (filter tells_now (j ∷ js)) in
            let joined : rest ++ map (log_sent start w (w % n)) (filter tells_now js) ≡ final =
            ap (λ (a : Bool). rest ++ map (log_sent start w (w % n)) (if a && (not (nat_eq (w % n) j) && nat_eq (suc (length (voters j))) (n / 2)) then j ∷ filter tells_now js else filter tells_now js)) (sym other) in
            let count : turns + length (filter (has quorum) js) ≡ turns + length (filter (has quorum) (j ∷ js)) = rw other refl in
            after_on 1 (length js) quorum (record { at = at; pool = map (call w c) (j ∷ js) ++ rest; turns = turns }) (held (told (λ y. heard y || nat_eq j y)))
            (held (told (λ x. heard x || has (j ∷ js) x))) (map (call w c) js ++ rest) final turns (turns + length (filter (has quorum) (j ∷ js)))
            (one_lost quorum at (held (told (λ y. heard y || nat_eq j y))) (call w c j) (map (call w c) js ++ rest) turns (held_changing (told heard) at each) other (λ x. stays x (nat_eq j x) refl))
            (λ found is. after_is (length js) quorum (record { at = found; pool = map (call w c) js ++ rest; turns = turns }) (held (told (λ x. (heard x || nat_eq j x) || has js x)))
            (held (told (λ x. heard x || has (j ∷ js) x))) (rest ++ map (log_sent start w (w % n)) (filter tells_now js)) final
            (turns + length (filter (has quorum) js)) (turns + length (filter (has quorum) (j ∷ js))) (further found is rest turns)
            (told_by (λ x. (heard x || nat_eq j x) || has js x) (λ x. heard x || (nat_eq j x || has js x)) (held (told (λ x. (heard x || nat_eq j x) || has js x))) (λ x. refl)
            (λ x. or_assoc (heard x) (nat_eq j x) (has js x))) joined count)
          where
            stays : (x : ℕ) (b : Bool) → nat_eq j x ≡ b → at x ≡ held (told (λ y. heard y || nat_eq j y)) x
            stays x true e =
                let same : j ≡ x = eqb-true j x e in
                let none : has quorum x ≡ false = ap (has quorum) (sym same) ∙ other in
                each x ∙ rw none refl
            stays x false e =
                each x ∙ ap (λ (b : Bool). if has quorum x then voting (n / 2) w (w % n) (start x) (if b then with_number c (voters x) else voters x) else start x)
                (rw e (sym (or-false (heard x))))

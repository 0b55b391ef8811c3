-- All that the members of a quorum said as they suspected is drained.
use Rattle.std.proofs.Common.{◌≡◌, ◌≤◌, ◌<◌, inl, inr, ℕ, zero, suc, ◌+◌, ◌/◌, ◌%◌, Bool, true, false, List, [], ◌∷◌, ◌++◌, length, map, refl, sym, ◌∙◌, ap, subst, arith, append-nil, append_assoc}
use Rattle.std.specs.Prelude.{not, nat_eq, ◌&&◌, ◌||◌, filter, if◌then◌else◌}
use Rattle.std.proofs.lemmas.Bool.{eq-eqb, ne_eqb, eqb-true, eqb-false, or_parts, or_cases, or_left, or_right, true≢false, cases_lt, both_ways}
use Rattle.std.proofs.lemmas.List.{map-append}
use Rattle.std.proofs.Math.Bool.{and-true}
use Rattle.vr_log.specs.declared.state.VrState.{VrState}
use Rattle.vr_log.specs.Members.{others_below}
use Rattle.of_types.specs.SmallSets.{with_number}
use Rattle.closing_laws.specs.Quorum.{has}
use Rattle.closing_laws.specs.Draining.{Flight, GroupState}
use Rattle.closing_laws.specs.Views.{IsReadyMember, views_behind, last_first}
use Rattle.closing_laws.proofs.Lists.Numbers.{Once, has_here, has_later, has_append, filter_once, filter_twice, filter_on, filter_no, others_all, others_but_one, with_none, with_length, below_has, below_once, below_others}
use Rattle.closing_laws.proofs.Lists.Picked.{IsPicked}
use Rattle.closing_laws.proofs.Start.Calls.{After, after_on, after_is, after_count, held, held_same, told, tells_now, calls_drained, one_more}
use Rattle.closing_laws.proofs.Start.Words.{call, log_sent, all_calls, all_packets, times}

-- turned lists
pub behind_has : (turned xs : List ℕ) (j : ℕ) → has (views_behind turned xs) j ≡ (has turned j || has xs j)
behind_has [] xs j = refl
behind_has (c ∷ turned) xs j = behind_has turned (c ∷ xs) j ∙ moved (has turned j) (nat_eq c j) (has xs j)
  where
    moved : (a b d : Bool) → (a || (b || d)) ≡ ((b || a) || d)
    moved true true d = refl
    moved true false d = refl
    moved false true d = refl
    moved false false d = refl

pub behind_back : (turned xs : List ℕ) → Once (views_behind turned xs) → Once xs
behind_back [] xs once = once
behind_back (c ∷ turned) xs once = (behind_back turned (c ∷ xs) once).1

pub behind_apart : (turned xs : List ℕ) (c : ℕ) → Once (views_behind turned xs) → has turned c ≡ true → has xs c ≡ true → ⊥
behind_apart [] xs c once h k = true≢false (sym h)
behind_apart (d ∷ turned) xs c once h k = elim (or_cases (nat_eq d c) (has turned c) h) [
  | inl e ↦ both_ways (has xs d) (behind_back turned (d ∷ xs) once).0 (ap (has xs) (eqb-true d c e) ∙ k)
  | inr i ↦ behind_apart turned (d ∷ xs) c once i (has_later d c xs k)
]

pub behind_once : (turned xs : List ℕ) → Once (views_behind turned xs) → Once turned
behind_once [] xs once = tt
behind_once (c ∷ turned) xs once = (apart (has turned c) refl, behind_once turned (c ∷ xs) once)
  where
    apart : (b : Bool) → has turned c ≡ b → b ≡ false
    apart true e = absurd (behind_apart turned (c ∷ xs) c once e (has_here c xs))
    apart false e = refl

pub behind_length : (turned xs : List ℕ) → length (views_behind turned xs) ≡ length turned + length xs
behind_length [] xs = omega arith
behind_length (c ∷ turned) xs = let h = behind_length turned (c ∷ xs) in omega (arith, h)

pub behind_filter : (t : ℕ → Bool) (turned xs : List ℕ) → filter t (views_behind turned xs) ≡ views_behind (filter t turned) (filter t xs)
behind_filter t [] xs = refl
behind_filter t (c ∷ turned) xs = behind_filter t turned (c ∷ xs) ∙ by_test (t c)
  where
    by_test : (b : Bool) → views_behind (filter t turned) (if b then c ∷ filter t xs else filter t xs) ≡ views_behind (if b then c ∷ filter t turned else filter t turned) (filter t xs)
    by_test true = refl
    by_test false = refl

pub behind_is_once : (turned xs : List ℕ) → Once turned → Once xs → ((j : ℕ) → has turned j ≡ true → has xs j ≡ false) → Once (views_behind turned xs)
behind_is_once [] xs a b apart = b
behind_is_once (c ∷ turned) xs a b apart =
    behind_is_once turned (c ∷ xs) a.1 (apart c (has_here c turned), b)
    (λ j h. let k = apart j (has_later c j turned h) in let other : nat_eq c j ≡ false = ne_eqb c j (λ e. both_ways (has turned j) (ap (has turned) (sym e) ∙ a.0) h) in rw (other, k) refl)

pub below_in : (me n j : ℕ) → j < n → nat_eq me j ≡ false → has (others_below me n) j ≡ true
below_in me zero j less other = absurd (omega (arith, less))
below_in me (suc k) j less other = by_test (nat_eq k me) refl (λ le. below_in me k j le other) (nat_eq k j) refl
  where
    by_test : (b : Bool) → nat_eq k me ≡ b → (j < k → has (others_below me k) j ≡ true) → (d : Bool) → nat_eq k j ≡ d → has (if b then others_below me k else others_below me k ++ k ∷ []) j ≡ true
    by_test true e rest true at = absurd (eqb-false me j other (sym (eqb-true k me e) ∙ eqb-true k j at))
    by_test true e rest false at = rest (let apart = eqb-false k j at in elim (cases_lt j k) [ inl lt ↦ lt | inr ge ↦ absurd (apart (omega (arith, ge, less))) ])
    by_test false e rest true at = has_append (others_below me k) (k ∷ []) j ∙ or_right (has (others_below me k) j) (nat_eq k j || false) (or_left (nat_eq k j) false at)
    by_test false e rest false at =
        has_append (others_below me k) (k ∷ []) j
        ∙ or_left (has (others_below me k) j) (nat_eq k j || false) (rest (let apart = eqb-false k j at in elim (cases_lt j k) [ inl lt ↦ lt | inr ge ↦ absurd (apart (omega (arith, ge, less))) ]))

-- the votes of a member, once these suspected, the newest first
abbrev pub heard_from : List ℕ → ℕ → List ℕ
heard_from [] j = []
heard_from (c ∷ callers) j = if nat_eq j c then heard_from callers j else with_number c (heard_from callers j)

pub heard_none : (callers : List ℕ) (j i : ℕ) → has callers i ≡ false → has (heard_from callers j) i ≡ false
heard_none [] j i none = refl
heard_none (c ∷ callers) j i none =
    let parts = or_parts (nat_eq c i) (has callers i) none in
    by_test (nat_eq j c) parts.0 (heard_none callers j i parts.1)
  where
    by_test : (b : Bool) → nat_eq c i ≡ false → has (heard_from callers j) i ≡ false → has (if b then heard_from callers j else with_number c (heard_from callers j)) i ≡ false
    by_test true other h = h
    by_test false other h = with_none c i (heard_from callers j) h other

pub heard_length : (callers : List ℕ) (j : ℕ) → Once callers → length (heard_from callers j) ≡ length (filter (λ c. not (nat_eq j c)) callers)
heard_length [] j once = refl
heard_length (c ∷ callers) j once = by_test (nat_eq j c) (heard_length callers j once.1)
  where
    by_test : (b : Bool) → length (heard_from callers j) ≡ length (filter (λ x. not (nat_eq j x)) callers) →
        length (if b then heard_from callers j else with_number c (heard_from callers j)) ≡ length (if not b then c ∷ filter (λ x. not (nat_eq j x)) callers else filter (λ x. not (nat_eq j x)) callers)
    by_test true h = h
    by_test false h = with_length c (heard_from callers j) (heard_none callers j c once.0) ∙ ap suc h

-- one that didn't suspect yet has heard them all, and one that did all but itself
pub heard_all : (callers : List ℕ) (j : ℕ) → Once callers → has callers j ≡ false → length (heard_from callers j) ≡ length callers
heard_all callers j once none = heard_length callers j once ∙ ap length (others_all j callers none)

pub heard_others : (callers : List ℕ) (j : ℕ) → Once callers → has callers j ≡ true → suc (length (heard_from callers j)) ≡ length callers
heard_others callers j once h = ap suc (heard_length callers j once) ∙ others_but_one j callers once h

module _ (n w : ℕ) (quorum : List ℕ) (start : ℕ → VrState) (ready : (j : ℕ) → has quorum j ≡ true → IsReadyMember n w j (start j)) (q : IsPicked n w quorum) where
  pub quorum_once : Once quorum
  quorum_once = subst Once (sym q.ascending) (filter_once (has quorum) (others_below n n) (below_once n n))

  -- those of the quorum among the others
  others_in : (c : ℕ) (test : ℕ → Bool) → c < n → filter (λ j. has quorum j && test j) (others_below c n) ≡ filter (λ j. not (nat_eq c j) && test j) quorum
  others_in c test small =
      ap (filter (λ j. has quorum j && test j)) (below_others c n n (omega arith))
      ∙ filter_twice (λ j. has quorum j && test j) (λ j. not (nat_eq c j)) (others_below n n)
      ∙ filter_on (λ j. not (nat_eq c j) && (has quorum j && test j)) (λ j. has quorum j && (not (nat_eq c j) && test j)) (others_below n n) (λ j h. swap (not (nat_eq c j)) (has quorum j) (test j))
      ∙ sym (filter_twice (λ j. not (nat_eq c j) && test j) (has quorum) (others_below n n))
      ∙ ap (filter (λ j. not (nat_eq c j) && test j)) (sym q.ascending)
    where
      swap : (a b d : Bool) → (a && (b && d)) ≡ (b && (a && d))
      swap true true d = refl
      swap true false d = refl
      swap false true d = refl
      swap false false d = refl

  others_count : (c : ℕ) → has quorum c ≡ true → length (filter (has quorum) (others_below c n)) ≡ n / 2
  others_count c member =
      let m = ready c member in
      let same : filter (has quorum) (others_below c n) ≡ filter (λ j. not (nat_eq c j)) quorum =
      filter_on (has quorum) (λ j. has quorum j && true) (others_below c n) (λ j h. sym (and-true (has quorum j))) ∙ others_in c (λ j. true) m.small
      ∙ filter_on (λ j. not (nat_eq c j) && true) (λ j. not (nat_eq c j)) quorum (λ j h. and-true (not (nat_eq c j))) in
      let count = others_but_one c quorum quorum_once member in
      let whole = q.count in
      ap length same ∙ omega (arith, count, whole)

  -- the members told while one caller is heard
  abbrev told_by_call : List ℕ → ℕ → ℕ → Bool
  told_by_call callers c j = not (nat_eq c j) && (not (nat_eq (w % n) j) && nat_eq (suc (length (heard_from callers j))) (n / 2))

  -- the packets of one caller
  one_round : (callers todo : List ℕ) (c : ℕ) (at : ℕ → VrState) (rest : List Flight) (turns : ℕ) → quorum ≡ views_behind callers (c ∷ todo) →
      ((j : ℕ) → at j ≡ held n w quorum start ready (heard_from callers) j) →
      After (length (others_below c n)) quorum (record { at = at; pool = map (call w c) (others_below c n) ++ rest; turns = turns })
      (held n w quorum start ready (heard_from (c ∷ callers)))
      (rest ++ map (log_sent start w (w % n)) (filter (told_by_call callers c) quorum)) (turns + n / 2)
  one_round callers todo c at rest turns split each =
      let js = others_below c n in
      let once : Once (views_behind callers (c ∷ todo)) = subst Once split quorum_once in
      let member : has quorum c ≡ true = ap (λ (l : List ℕ). has l c) split ∙ behind_has callers (c ∷ todo) c ∙ or_right (has callers c) (has (c ∷ todo) c) (has_here c todo) in
      let own = ready c member in
      let unheard : has callers c ≡ false = not_before (has callers c) refl once in
      let few : length callers ≤ n / 2 = (let long = ap length split ∙ behind_length callers (c ∷ todo) in let whole = q.count in omega (arith, long, whole)) in
      after_is (length js) quorum (record { at = at; pool = map (call w c) js ++ rest; turns = turns })
      (held n w quorum start ready (told n w quorum start ready c (heard_from callers) (λ x. false || has js x))) (held n w quorum start ready (heard_from (c ∷ callers)))
      (rest ++ map (log_sent start w (w % n)) (filter (tells_now n w quorum start ready c (heard_from callers)) js)) (rest ++ map (log_sent start w (w % n)) (filter (told_by_call callers c) quorum))
      (turns + length (filter (has quorum) js)) (turns + n / 2)
      (calls_drained n w quorum start ready c (heard_from callers) own.small js (λ x. false) at rest turns each (below_once c n) (λ j h. refl)
      (λ j h is. record {
        unheard = refl;
        other = λ e. eqb-false c j (below_has c n j h).1 e;
        fresh = heard_none callers j c unheard;
        less = less_votes j (below_has c n j h).1 is;
      }))
      (held_same n w quorum start ready (told n w quorum start ready c (heard_from callers) (λ x. has js x)) (heard_from (c ∷ callers))
      (λ j is. let m = ready j is in voted_one j (nat_eq c j) refl m.small))
      (ap (λ (l : List ℕ). rest ++ map (log_sent start w (w % n)) l) (others_in c (λ j. not (nat_eq (w % n) j) && nat_eq (suc (length (heard_from callers j))) (n / 2)) own.small))
      (ap (λ (k : ℕ). turns + k) (others_count c member))
    where
      not_before : (b : Bool) → has callers c ≡ b → Once (views_behind callers (c ∷ todo)) → has callers c ≡ false
      not_before true e once = absurd (behind_apart callers (c ∷ todo) c once e (has_here c todo))
      not_before false e once = e

      some_left : (xs : List ℕ) (j : ℕ) → has xs j ≡ true → 0 < length xs
      some_left [] j h = absurd (true≢false (sym h))
      some_left (x ∷ xs) j h = omega arith

      less_votes : (j : ℕ) → nat_eq c j ≡ false → has quorum j ≡ true → length (heard_from callers j) < n / 2
      less_votes j other is =
          let once : Once callers = behind_once callers (c ∷ todo) (subst Once split quorum_once) in
          let long = ap length split ∙ behind_length callers (c ∷ todo) in
          let whole = q.count in
          by_turn (has callers j) refl once long whole
        where
          by_turn : (b : Bool) → has callers j ≡ b → Once callers → length quorum ≡ length callers + length (c ∷ todo) → length quorum ≡ suc (n / 2) → length (heard_from callers j) < n / 2
          by_turn true e once long whole = let votes = heard_others callers j once e in omega (arith, votes, long, whole)
          by_turn false e once long whole =
              let votes = heard_all callers j once e in
              let there : (has callers j || (nat_eq c j || has todo j)) ≡ true = sym (behind_has callers (c ∷ todo) j) ∙ ap (λ (l : List ℕ). has l j) (sym split) ∙ is in
              let left : has todo j ≡ true = rest_of (has callers j) (nat_eq c j) (has todo j) e other there in
              let more = some_left todo j left in
              omega (arith, votes, long, whole, more)
            where
              rest_of : (a b d : Bool) → a ≡ false → b ≡ false → (a || (b || d)) ≡ true → d ≡ true
              rest_of true b d x y h = absurd (true≢false x)
              rest_of false true d x y h = absurd (true≢false y)
              rest_of false false d x y h = h

      voted_one : (j : ℕ) (b : Bool) → nat_eq c j ≡ b → j < n →
          (if has (others_below c n) j then with_number c (heard_from callers j) else heard_from callers j) ≡ heard_from (c ∷ callers) j
      voted_one j true e small =
          let none : has (others_below c n) j ≡ false = not_here (has (others_below c n) j) refl in
          let same : nat_eq j c ≡ true = eq-eqb j c (sym (eqb-true c j e)) in
          rw (none, same) refl
        where
          not_here : (b : Bool) → has (others_below c n) j ≡ b → b ≡ false
          not_here true h = absurd (both_ways (nat_eq c j) (below_has c n j h).1 e)
          not_here false h = refl
      voted_one j false e small =
          let there : has (others_below c n) j ≡ true = below_in c n j small e in
          let apart : nat_eq j c ≡ false = ne_eqb j c (λ x. eqb-false c j e (sym x)) in
          rw (there, apart) refl

  -- a caller that is not one of the last two: nobody has enough votes yet
  early_none : (callers todo : List ℕ) (c : ℕ) → quorum ≡ views_behind callers (c ∷ todo) → 1 < length todo → filter (told_by_call callers c) quorum ≡ []
  early_none callers todo c split more =
      let once : Once callers = behind_once callers (c ∷ todo) (subst Once split quorum_once) in
      let long = ap length split ∙ behind_length callers (c ∷ todo) in
      let whole = q.count in
      filter_on (told_by_call callers c) (λ j. false) quorum (λ j h. silent j (not (nat_eq c j)) (not (nat_eq (w % n) j)) (few j once long whole)) ∙ filter_no quorum
    where
      silent : (j : ℕ) (a b : Bool) → nat_eq (suc (length (heard_from callers j))) (n / 2) ≡ false → (a && (b && nat_eq (suc (length (heard_from callers j))) (n / 2))) ≡ false
      silent j true true h = h
      silent j true false h = refl
      silent j false b h = refl

      few : (j : ℕ) → Once callers → length quorum ≡ length callers + length (c ∷ todo) → length quorum ≡ suc (n / 2) → nat_eq (suc (length (heard_from callers j))) (n / 2) ≡ false
      few j once long whole = ne_eqb (suc (length (heard_from callers j))) (n / 2) (λ e. by_turn (has callers j) refl e)
        where
          by_turn : (b : Bool) → has callers j ≡ b → suc (length (heard_from callers j)) ≡ n / 2 → ⊥
          by_turn true h e = let votes = heard_others callers j once h in omega (arith, votes, long, whole, more, e)
          by_turn false h e = let votes = heard_all callers j once h in omega (arith, votes, long, whole, more, e)

  -- the last but one: the last member has all its votes
  second_last : (callers : List ℕ) (c l : ℕ) → quorum ≡ views_behind callers (c ∷ (l ∷ [])) → filter (told_by_call callers c) quorum ≡ filter (λ j. not (nat_eq (w % n) j)) (l ∷ [])
  second_last callers c l split =
      let whole_once : Once (views_behind callers (c ∷ (l ∷ []))) = subst Once split quorum_once in
      let once : Once callers = behind_once callers (c ∷ (l ∷ [])) whole_once in
      let back = behind_back callers (c ∷ (l ∷ [])) whole_once in
      let long = ap length split ∙ behind_length callers (c ∷ (l ∷ [])) in
      let whole = q.count in
      let first : filter (told_by_call callers c) callers ≡ [] =
      filter_on (told_by_call callers c) (λ j. false) callers (λ j h. let votes = heard_others callers j once h in
      silent (not (nat_eq c j)) (not (nat_eq (w % n) j)) (nat_eq (suc (length (heard_from callers j))) (n / 2)) (ne_eqb (suc (length (heard_from callers j))) (n / 2) (λ e. omega (arith, votes, long, whole, e))))
      ∙ filter_no callers in
      let caller : told_by_call callers c c ≡ false = ap (λ b. not b && (not (nat_eq (w % n) c) && nat_eq (suc (length (heard_from callers c))) (n / 2))) (eq-eqb c c refl) in
      let apart : nat_eq c l ≡ false = ne_eqb c l (λ e. both_ways (has (l ∷ []) c) back.0 (ap (has (l ∷ [])) e ∙ has_here l [])) in
      let unheard : has callers l ≡ false = absent (has callers l) refl whole_once in
      let votes = heard_all callers l once unheard in
      let all : nat_eq (suc (length (heard_from callers l))) (n / 2) ≡ true = eq-eqb (suc (length (heard_from callers l))) (n / 2) (omega (arith, votes, long, whole)) in
      let last : told_by_call callers c l ≡ not (nat_eq (w % n) l) = rw (apart, all) (and-true (not (nat_eq (w % n) l))) in
      ap (filter (told_by_call callers c)) split ∙ behind_filter (told_by_call callers c) callers (c ∷ (l ∷ []))
      ∙ ap (λ (xs : List ℕ). views_behind xs (filter (told_by_call callers c) (c ∷ (l ∷ [])))) first
      ∙ ap (λ (b : Bool). if b then c ∷ filter (told_by_call callers c) (l ∷ []) else filter (told_by_call callers c) (l ∷ [])) caller
      ∙ ap (λ (b : Bool). if b then l ∷ [] else []) last
    where
      silent : (a b d : Bool) → d ≡ false → (a && (b && d)) ≡ false
      silent true true d h = h
      silent true false d h = refl
      silent false b d h = refl

      absent : (b : Bool) → has callers l ≡ b → Once (views_behind callers (c ∷ (l ∷ []))) → b ≡ false
      absent true e once = absurd (behind_apart callers (c ∷ (l ∷ [])) l once e (has_later c l (l ∷ []) (has_here l [])))
      absent false e once = refl

  -- and the last one: all others have
  very_last : (callers : List ℕ) (c : ℕ) → quorum ≡ views_behind callers (c ∷ []) → filter (told_by_call callers c) quorum ≡ views_behind (filter (λ j. not (nat_eq (w % n) j)) callers) []
  very_last callers c split =
      let whole_once : Once (views_behind callers (c ∷ [])) = subst Once split quorum_once in
      let once : Once callers = behind_once callers (c ∷ []) whole_once in
      let long = ap length split ∙ behind_length callers (c ∷ []) in
      let whole = q.count in
      let first : filter (told_by_call callers c) callers ≡ filter (λ j. not (nat_eq (w % n) j)) callers =
      filter_on (told_by_call callers c) (λ j. not (nat_eq (w % n) j)) callers (λ j h.
      let votes = heard_others callers j once h in
      let apart : nat_eq c j ≡ false = ne_eqb c j (λ e. behind_apart callers (c ∷ []) j whole_once h (ap (λ x. has (x ∷ []) j) e ∙ has_here j [])) in
      let all : nat_eq (suc (length (heard_from callers j))) (n / 2) ≡ true = eq-eqb (suc (length (heard_from callers j))) (n / 2) (omega (arith, votes, long, whole)) in
      rw (apart, all) (and-true (not (nat_eq (w % n) j)))) in
      let caller : told_by_call callers c c ≡ false = ap (λ b. not b && (not (nat_eq (w % n) c) && nat_eq (suc (length (heard_from callers c))) (n / 2))) (eq-eqb c c refl) in
      ap (filter (told_by_call callers c)) split ∙ behind_filter (told_by_call callers c) callers (c ∷ [])
      ∙ ap (λ (xs : List ℕ). views_behind xs (filter (told_by_call callers c) (c ∷ []))) first
      ∙ ap (λ (b : Bool). views_behind (filter (λ j. not (nat_eq (w % n) j)) callers) (if b then c ∷ [] else [])) caller

  -- all of them, one caller after another
  pub all_rounds : (todo callers : List ℕ) (at : ℕ → VrState) (turns : ℕ) → quorum ≡ views_behind callers todo → 1 < length todo →
      ((j : ℕ) → at j ≡ held n w quorum start ready (heard_from callers) j) →
      After (all_packets n todo) quorum (record { at = at; pool = all_calls n w todo; turns = turns }) (held n w quorum start ready (heard_from (views_behind todo callers)))
      (map (log_sent start w (w % n)) (filter (λ j. not (nat_eq (w % n) j)) (last_first callers todo))) (turns + times (n / 2) todo)
  all_rounds [] callers at turns split more each = absurd (omega (arith, more))
  all_rounds (c ∷ []) callers at turns split more each = absurd (omega (arith, more))
  all_rounds (c ∷ (l ∷ [])) callers at turns split more each =
      let told_it : ℕ → Flight = log_sent start w (w % n) in
      let test : ℕ → Bool = λ j. not (nat_eq (w % n) j) in
      let calls_l : List Flight = map (call w l) (others_below l n) in
      let rest : List Flight = map told_it (filter test (l ∷ [])) in
      let final : List Flight = map told_it (filter test (last_first callers (c ∷ (l ∷ [])))) in
      let k : ℕ = turns + n / 2 in
      let first = after_is (length (others_below c n)) quorum (record { at = at; pool = all_calls n w (c ∷ (l ∷ [])); turns = turns })
      (held n w quorum start ready (heard_from (c ∷ callers))) (held n w quorum start ready (heard_from (c ∷ callers)))
      ((calls_l ++ []) ++ map told_it (filter (told_by_call callers c) quorum)) (calls_l ++ rest) k k
      (one_round callers (l ∷ []) c at (calls_l ++ []) turns split each) (λ j. refl)
      (append_assoc calls_l [] (map told_it (filter (told_by_call callers c) quorum)) ∙ ap (λ (xs : List ℕ). calls_l ++ map told_it xs) (second_last callers c l split)) refl in
      let joined : rest ++ map told_it (filter (told_by_call (c ∷ callers) l) quorum) ≡ final =
      ap (λ (xs : List ℕ). rest ++ map told_it xs) (very_last (c ∷ callers) l split ∙ sym (behind_filter test (c ∷ callers) []))
      ∙ sym (map-append told_it (filter test (l ∷ [])) (filter test (views_behind (c ∷ callers) [])))
      ∙ ap (map told_it) (one_more (test l) l (filter test (views_behind (c ∷ callers) []))) in
      after_count (length (others_below c n) + length (others_below l n)) (all_packets n (c ∷ (l ∷ []))) quorum (record { at = at; pool = all_calls n w (c ∷ (l ∷ [])); turns = turns })
      (held n w quorum start ready (heard_from (l ∷ (c ∷ callers)))) final (turns + times (n / 2) (c ∷ (l ∷ []))) (omega arith)
      (after_on (length (others_below c n)) (length (others_below l n)) quorum (record { at = at; pool = all_calls n w (c ∷ (l ∷ [])); turns = turns })
      (held n w quorum start ready (heard_from (c ∷ callers))) (held n w quorum start ready (heard_from (l ∷ (c ∷ callers)))) (calls_l ++ rest) final k (turns + times (n / 2) (c ∷ (l ∷ []))) first
      (λ found is. after_is (length (others_below l n)) quorum (record { at = found; pool = calls_l ++ rest; turns = k })
      (held n w quorum start ready (heard_from (l ∷ (c ∷ callers)))) (held n w quorum start ready (heard_from (l ∷ (c ∷ callers))))
      (rest ++ map told_it (filter (told_by_call (c ∷ callers) l) quorum)) final (k + n / 2) (turns + times (n / 2) (c ∷ (l ∷ [])))
      (one_round (c ∷ callers) [] l found rest k split is) (λ j. refl) joined (omega arith)))
  all_rounds (c ∷ (d ∷ (e ∷ later))) callers at turns split more each =
      let told_it : ℕ → Flight = log_sent start w (w % n) in
      let todo : List ℕ = d ∷ (e ∷ later) in
      let final : List Flight = map told_it (filter (λ j. not (nat_eq (w % n) j)) (last_first callers (c ∷ todo))) in
      let g : GroupState = record { at = at; pool = all_calls n w (c ∷ todo); turns = turns } in
      let k : ℕ = turns + n / 2 in
      let first = after_is (length (others_below c n)) quorum g (held n w quorum start ready (heard_from (c ∷ callers))) (held n w quorum start ready (heard_from (c ∷ callers)))
      (all_calls n w todo ++ map told_it (filter (told_by_call callers c) quorum)) (all_calls n w todo) k k
      (one_round callers todo c at (all_calls n w todo) turns split each) (λ j. refl)
      (ap (λ (xs : List ℕ). all_calls n w todo ++ map told_it xs) (early_none callers todo c split (omega arith)) ∙ append-nil (all_calls n w todo)) refl in
      after_on (length (others_below c n)) (all_packets n todo) quorum g (held n w quorum start ready (heard_from (c ∷ callers))) (held n w quorum start ready (heard_from (views_behind (c ∷ todo) callers)))
      (all_calls n w todo) final k (turns + times (n / 2) (c ∷ todo)) first
      (λ found is. after_is (all_packets n todo) quorum (record { at = found; pool = all_calls n w todo; turns = k })
      (held n w quorum start ready (heard_from (views_behind todo (c ∷ callers)))) (held n w quorum start ready (heard_from (views_behind (c ∷ todo) callers))) final final
      (k + times (n / 2) todo) (turns + times (n / 2) (c ∷ todo))
      (all_rounds (d ∷ (e ∷ later)) (c ∷ callers) found k split (omega arith) is) (λ j. refl) refl (omega arith))

  -- then each member of the quorum has all votes
  pub all_voted : (j : ℕ) → has quorum j ≡ true → length (heard_from (views_behind quorum []) j) ≡ n / 2
  all_voted j member =
      let there : has (views_behind quorum []) j ≡ true = behind_has quorum [] j ∙ or_left (has quorum j) false member in
      let votes = heard_others (views_behind quorum []) j (behind_is_once quorum [] quorum_once tt (λ i h. refl)) there in
      let long = behind_length quorum [] in
      let whole = q.count in
      omega (arith, votes, long, whole)

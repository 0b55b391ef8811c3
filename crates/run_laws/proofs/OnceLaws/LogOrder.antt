-- Exactly once, from what holds after a past: lists of a log, life by life.
use Rattle.std.proofs.Common.{◌≡◌, ◌<◌, ◌≤◌, ℕ, ◌+◌, Bool, true, false, ◌&&◌, List, [], ◌∷◌, ◌++◌, length, map, zero, suc, refl, sym, ◌∙◌, ap, subst, inl, inr, arith, length-append, append_assoc, append-nil, add-zero}
use Rattle.std.specs.Prelude.{slice_get, nat_eq, nat_lt, Some, Contains, AllPairs, All, if◌then◌else◌, cond}
use Rattle.std.specs.List.{range_with_len}
use Rattle.std.proofs.lemmas.Bool.{eqb-true, eq-eqb, ltb-true, and_parts, lt-ltb}
use Rattle.std.proofs.lemmas.List.Sums.{sum_by_push, sum_by-cons, length-filter}
use Rattle.std.proofs.lemmas.List.Kept.{AllPairs-cons}
use Rattle.std.proofs.lemmas.Option.{slice_get_within, get_or_from_slice_get}
use Rattle.of_types.specs.declared.message.Event.{Event}
use Rattle.of_types.specs.declared.message.Executed.{Executed}
use Rattle.of_types.specs.declared.setup.Setup.{Setup}
use Rattle.of_types.specs.Lives.{life_after, life_in, count_in, has_ended, is_switch_up}
use Rattle.list_facts.proofs.Elements.{filter_passes, in_append, in_filter}
use Rattle.list_facts.proofs.Places.{get_in, get_prefix, in_get}
use Rattle.list_facts.proofs.Prefixes.{prefix_by_places, prefix_filter, prefix_trans}
use Rattle.list_facts.specs.Lists.{IsIn, IsPrefix}
use Rattle.vr_log.specs.declared.entry.Entry.{Entry}
use Rattle.vr_log.specs.declared.entry.Entry.TheVariants.{Received, Processed}
use Rattle.vr_log.specs.Log.{received, may_be_received}
use Rattle.run_spec.specs.Laws.{events_from, events_from_life}
use Rattle.run_laws.specs.OnceLaws.Facts.{PastFacts, events_of}
use Rattle.run_laws.specs.OnceLaws.Truths.{IsGenuine}
use Rattle.run_laws.specs.OnceLaws.Premises.{IsProperLog}

-- events that came by lives and numbers
abbrev pub AreOrdered : List Event → Type 0
AreOrdered es = (front back : List Event) (e : Event) → es ≡ front ++ e ∷ back → may_be_received e front ≡ true

record IsSplit (log : List Entry) (front : List Event) (e : Event) : Type 0 where
  pub before : List Entry
  pub rest : List Entry
  pub is : log ≡ before ++ Received e ∷ rest
  pub events : received before ≡ front

split_received : (log : List Entry) (front back : List Event) (e : Event) → received log ≡ front ++ e ∷ back → IsSplit log front e
split_received [] [] back e is = absurd cc
split_received [] (y ∷ front) back e is = absurd cc
split_received (Received y ∷ log) [] back e is = let same : y ≡ e = cc in record { before = []; rest = log; is = ap (λ (z : Event). Received z ∷ log) same; events = refl }
split_received (Received y ∷ log) (z ∷ front) back e is =
    let same : y ≡ z = cc in
    let r = split_received log front back e (cc) in
    record { before = Received y ∷ r.before; rest = r.rest; is = ap (λ (l : List Entry). Received y ∷ l) r.is; events = ap (λ (l : List Event). y ∷ l) r.events ∙ ap (λ (w : Event). w ∷ front) same }
split_received (Processed j ∷ log) front back e is =
    let r = split_received log front back e is in
    record { before = Processed j ∷ r.before; rest = r.rest; is = ap (λ (l : List Entry). Processed j ∷ l) r.is; events = r.events }

pub ordered_events : (log : List Entry) → IsProperLog log → AreOrdered (received log)
ordered_events log valid front back e is =
    let r = split_received log front back e is in subst (λ (l : List Event). may_be_received e l ≡ true) r.events (valid r.before r.rest (Received e) r.is)

-- the life of a switch with one more event
life-push : (start s : ℕ) (xs : List Event) (e : Event) → life_after start s (xs ++ e ∷ []) ≡ (if nat_eq e.switch s then e.life else life_after start s xs)
life-push start s [] e = refl
life-push start s (x ∷ xs) e = life-push (if nat_eq x.switch s then x.life else start) s xs e

count-push : (s life : ℕ) (xs : List Event) (e : Event) → count_in s life (xs ++ e ∷ []) ≡ count_in s life xs + cond (nat_eq e.switch s && nat_eq e.life life) 1 0
count-push s life xs e = sum_by_push _ xs e

count_none : (s life : ℕ) (xs : List Event) → ((y : Event) → IsIn y xs → y.switch ≡ s → y.life ≡ life → ⊥) → count_in s life xs ≡ 0
count_none s life [] none = refl
count_none s life (x ∷ xs) none = sum_by-cons _ x xs ∙ choice (nat_eq x.switch s && nat_eq x.life life) refl (count_none s life xs (λ y k. none y (inr k)))
  where
    choice : (b : Bool) → (nat_eq x.switch s && nat_eq x.life life) ≡ b → count_in s life xs ≡ 0 → cond b 1 0 + count_in s life xs ≡ 0
    choice true own r = let both = and_parts (nat_eq x.switch s) (nat_eq x.life life) own in absurd (none x (inl refl) (eqb-true x.switch s both.0) (eqb-true x.life life both.1))
    choice false other r = omega (arith, r)

-- no event of a switch is of a later life than the last one
abbrev pub IsRisen : List Event → Type 0
IsRisen es = (y : Event) → IsIn y es → y.life ≤ life_in y.switch es

record IsNext (front : List Event) (e : Event) : Type 0 where
  pub number : e.number ≡ count_in e.switch e.life front
  pub life : life_in e.switch front ≤ e.life

next_is : (front : List Event) (e : Event) → IsRisen front → may_be_received e front ≡ true → IsNext front e
next_is front e risen may = by_life (nat_eq e.life (life_in e.switch front)) refl may
  where
    by_life : (b : Bool) → nat_eq e.life (life_in e.switch front) ≡ b →
        (if b then nat_eq e.number (count_in e.switch (life_in e.switch front) front) else nat_lt (life_in e.switch front) e.life && nat_eq e.number 0 && is_switch_up e.what) ≡ true → IsNext front e
    by_life true same may =
        let life = eqb-true e.life (life_in e.switch front) same in
        record { number = eqb-true e.number _ may ∙ ap (λ (n : ℕ). count_in e.switch n front) (sym life); life = omega (arith, life) }
    by_life false other may =
        let outer = and_parts (nat_lt (life_in e.switch front) e.life && nat_eq e.number 0) (is_switch_up e.what) may in
        let both = and_parts (nat_lt (life_in e.switch front) e.life) (nat_eq e.number 0) outer.0 in
        let less = ltb-true (life_in e.switch front) e.life both.0 in
        let zero_is = eqb-true e.number 0 both.1 in
        record {
          number = zero_is ∙ sym (count_none e.switch e.life front (λ y k switch_is life_is.
              let r = risen y k in
              let at : life_in y.switch front ≡ life_in e.switch front = ap (λ (n : ℕ). life_in n front) switch_is in
              omega (arith, r, at, less, life_is)));
          life = omega (arith, less);
        }

risen_push : (front : List Event) (e : Event) → IsRisen front → life_in e.switch front ≤ e.life → IsRisen (front ++ e ∷ [])
risen_push front e risen up y k =
    elim (in_append y front (e ∷ []) k) [
      | inl old ↦ by_switch (nat_eq e.switch y.switch) refl (risen y old)
      | inr new ↦ elim new [
        | inl is ↦
            let own : nat_eq e.switch y.switch ≡ true = eq-eqb e.switch y.switch (ap (λ (z : Event). z.switch) (sym is)) in
            let now = life-push 0 y.switch front e ∙ ap (λ (b : Bool). if b then e.life else life_in y.switch front) own in
            let same = ap (λ (z : Event). z.life) is in
            omega (arith, now, same)
        | inr none ↦ absurd none
      ]
    ]
  where
    by_switch : (b : Bool) → nat_eq e.switch y.switch ≡ b → y.life ≤ life_in y.switch front → y.life ≤ life_in y.switch (front ++ e ∷ [])
    by_switch true own few =
        let now = life-push 0 y.switch front e ∙ ap (λ (b : Bool). if b then e.life else life_in y.switch front) own in
        let same = ap (λ (n : ℕ). life_in n front) (eqb-true e.switch y.switch own) in
        omega (arith, now, few, same, up)
    by_switch false other few =
        let now = life-push 0 y.switch front e ∙ ap (λ (b : Bool). if b then e.life else life_in y.switch front) other in omega (arith, now, few)

none_risen : IsRisen []
none_risen y k = absurd k

module _ (es : List Event) (ordered : AreOrdered es) where
  risen_front : (front middle rest : List Event) → es ≡ front ++ (middle ++ rest) → IsRisen front → IsRisen (front ++ middle)
  risen_front front [] rest is risen = subst (λ (l : List Event). IsRisen l) (sym (append-nil front)) risen
  risen_front front (e ∷ middle) rest is risen =
      let n = next_is front e risen (ordered front (middle ++ rest) e is) in
      subst (λ (l : List Event). IsRisen l) (append_assoc front (e ∷ []) middle)
      (risen_front (front ++ e ∷ []) middle rest (is ∙ sym (append_assoc front (e ∷ []) (middle ++ rest))) (risen_push front e risen n.life))

  -- the beginnings are risen
  pub risen_is : (front rest : List Event) → es ≡ front ++ rest → IsRisen front
  risen_is front rest is = risen_front [] front rest is none_risen

  -- later events of a switch are of no earlier life
  lives_above : (s : ℕ) (front rest : List Event) → es ≡ front ++ rest → (y : Event) → IsIn y rest → y.switch ≡ s → life_in s front ≤ y.life
  lives_above s front [] is y k own = absurd k
  lives_above s front (e ∷ rest) is y (inl same) own =
      let n = next_is front e (risen_is front (e ∷ rest) is) (ordered front rest e is) in
      let life = n.life in
      let it = ap (λ (z : Event). z.life) same in
      let at = ap (λ (k : ℕ). life_in k front) (ap (λ (z : Event). z.switch) (sym same) ∙ own) in
      omega (arith, life, it, at)
  lives_above s front (e ∷ rest) is y (inr k) own =
      let n = next_is front e (risen_is front (e ∷ rest) is) (ordered front rest e is) in
      let deeper = lives_above s (front ++ e ∷ []) rest (is ∙ sym (append_assoc front (e ∷ []) rest)) y k own in
      by_switch (nat_eq e.switch s) refl n.life deeper
    where
      by_switch : (b : Bool) → nat_eq e.switch s ≡ b → life_in e.switch front ≤ e.life → life_in s (front ++ e ∷ []) ≤ y.life → life_in s front ≤ y.life
      by_switch true mine up few =
          let now = life-push 0 s front e ∙ ap (λ (b : Bool). if b then e.life else life_in s front) mine in
          let same = ap (λ (k : ℕ). life_in k front) (eqb-true e.switch s mine) in
          omega (arith, now, same, up, few)
      by_switch false other up few = let now = life-push 0 s front e ∙ ap (λ (b : Bool). if b then e.life else life_in s front) other in omega (arith, now, few)

  all_places : (P : Event → Type 0) (xs : List Event) → ((y : Event) → IsIn y xs → P y) → All P xs
  all_places P [] all k d lt = absurd (omega (arith, lt))
  all_places P (x ∷ xs) all zero d lt = all x (inl refl)
  all_places P (x ∷ xs) all (suc k) d lt = all_places P xs (λ y h. all y (inr h)) k d (omega (arith, lt))

  -- the lives of a switch rise
  rises : (s : ℕ) (front rest : List Event) → es ≡ front ++ rest → AllPairs (λ (e later : Event). e.life ≤ later.life) (events_from s rest)
  rises s front [] is = λ i j d less lt. absurd (omega (arith, lt))
  rises s front (e ∷ rest) is = by_switch (nat_eq e.switch s) refl (rises s (front ++ e ∷ []) rest (is ∙ sym (append_assoc front (e ∷ []) rest)))
    where
      by_switch : (b : Bool) → nat_eq e.switch s ≡ b → AllPairs (λ (x later : Event). x.life ≤ later.life) (events_from s rest) → AllPairs (λ (x later : Event). x.life ≤ later.life) (if b then e ∷ events_from s rest else events_from s rest)
      by_switch true mine deeper =
          AllPairs-cons (λ (x later : Event). x.life ≤ later.life) e (events_from s rest)
          (all_places (λ (later : Event). e.life ≤ later.life) (events_from s rest) (λ y k.
          let up = lives_above s (front ++ e ∷ []) rest (is ∙ sym (append_assoc front (e ∷ []) rest)) y (in_filter (λ (z : Event). nat_eq z.switch s) rest y k) (eqb-true y.switch s (filter_passes (λ (z : Event). nat_eq z.switch s) rest y k)) in
          let now = life-push 0 s front e ∙ ap (λ (b : Bool). if b then e.life else life_in s front) mine in
          omega (arith, up, now)))
          deeper
      by_switch false other deeper = deeper

  pub rising : (s : ℕ) → AllPairs (λ (e later : Event). e.life ≤ later.life) (events_from s es)
  rising s = rises s [] es refl

  -- where an event stands among those of its life
  pub record IsPlaced (s life i : ℕ) (front rest : List Event) (x : Event) : Type 0 where
    pub number_is : x.number ≡ count_in s life front + i
    pub switch_is : x.switch ≡ s
    pub life_is : x.life ≡ life
    pub among : IsIn x rest

  placed_at : (s life : ℕ) (front rest : List Event) → es ≡ front ++ rest → (i : ℕ) (x : Event) → slice_get (events_from_life s life rest) i ≡ Some x → IsPlaced s life i front rest x
  placed_at s life front [] is i x at = absurd cc
  placed_at s life front (e ∷ rest) is i x at =
      by_test (nat_eq e.switch s && nat_eq e.life life) refl i at (λ k h. placed_at s life (front ++ e ∷ []) rest (is ∙ sym (append_assoc front (e ∷ []) rest)) k x h)
    where
      by_test : (b : Bool) → (nat_eq e.switch s && nat_eq e.life life) ≡ b → (i : ℕ) → slice_get (if b then e ∷ events_from_life s life rest else events_from_life s life rest) i ≡ Some x →
          ((k : ℕ) → slice_get (events_from_life s life rest) k ≡ Some x → IsPlaced s life k (front ++ e ∷ []) rest x) → IsPlaced s life i front (e ∷ rest) x
      by_test true own zero at deeper =
          let it : e ≡ x = cc in
          let both = and_parts (nat_eq e.switch s) (nat_eq e.life life) own in
          let mine : e.switch ≡ s = eqb-true e.switch s both.0 in
          let alive : e.life ≡ life = eqb-true e.life life both.1 in
          let n = next_is front e (risen_is front (e ∷ rest) is) (ordered front rest e is) in
          record {
            number_is = ap (λ (y : Event). y.number) (sym it) ∙ n.number ∙ ap (λ (k : ℕ). count_in k e.life front) mine ∙ ap (λ (k : ℕ). count_in s k front) alive ∙ sym (add-zero (count_in s life front));
            switch_is = ap (λ (y : Event). y.switch) (sym it) ∙ mine;
            life_is = ap (λ (y : Event). y.life) (sym it) ∙ alive;
            among = inl (sym it);
          }
      by_test true own (suc i) at deeper =
          let r = deeper i at in
          let n = r.number_is in
          let count : count_in s life (front ++ e ∷ []) ≡ count_in s life front + 1 = count-push s life front e ∙ ap (λ (b : Bool). count_in s life front + cond b 1 0) own in
          record { number_is = omega (arith, n, count); switch_is = r.switch_is; life_is = r.life_is; among = inr r.among }
      by_test false own i at deeper =
          let r = deeper i at in
          let n = r.number_is in
          let count : count_in s life (front ++ e ∷ []) ≡ count_in s life front + 0 = count-push s life front e ∙ ap (λ (b : Bool). count_in s life front + cond b 1 0) own in
          record { number_is = omega (arith, n, count); switch_is = r.switch_is; life_is = r.life_is; among = inr r.among }

  -- events that their switches made, of one life, begin those that it made in it
  pub made_in : (setup : Setup) (f : PastFacts) → ((e : Event) → IsIn e es → IsGenuine setup f e) → (s life : ℕ) → IsPrefix (events_from_life s life es) (events_of life (f.events s))
  made_in setup f genuine s life =
      prefix_by_places (events_from_life s life es) (events_of life (f.events s)) (λ i x at.
      let r = placed_at s life [] es refl i x at in
      let g = genuine x r.among in
      let n = r.number_is in
      let place : x.number ≡ i = omega (arith, n) in
      subst (λ (k : ℕ). slice_get (events_of life (f.events s)) k ≡ Some x) place
      (subst (λ (k : ℕ). slice_get (events_of k (f.events s)) x.number ≡ Some x) r.life_is (subst (λ (k : ℕ). slice_get (events_of x.life (f.events k)) x.number ≡ Some x) r.switch_is g.stands)))

-- what is over below a place of a valid log has ended there
pub over_has_ended : (log before rest : List Entry) (s life place : ℕ) (e : Event) → IsProperLog log → log ≡ before ++ rest → slice_get before place ≡ Some (Received e) → e.switch ≡ s → life < e.life → has_ended s life (received before) ≡ true
over_has_ended log before rest s life place e valid is at own less =
    let ordered : AreOrdered (received before) = ordered_events before (λ front back x split. valid front (back ++ rest) x (is ∙ ap (λ (l : List Entry). l ++ rest) split ∙ append_assoc front (x ∷ back) rest)) in
    let up = risen_is (received before) ordered (received before) [] (sym (append-nil (received before))) e (received_among before place at) in
    let same = ap (λ (k : ℕ). life_in k (received before)) own in
    lt-ltb life (life_in s (received before)) (omega (arith, up, same, less))
  where
    received_among : (log : List Entry) (i : ℕ) → slice_get log i ≡ Some (Received e) → IsIn e (received log)
    received_among [] i at = absurd cc
    received_among (Received y ∷ log) zero at = inl (cc)
    received_among (Received y ∷ log) (suc i) at = inr (received_among log i at)
    received_among (Processed j ∷ log) zero at = absurd cc
    received_among (Processed j ∷ log) (suc i) at = received_among log i at

pub get_map : {A B : Type 0} (f : A → B) (xs : List A) (i : ℕ) (y : B) → slice_get (map f xs) i ≡ Some y → (x : A) × (slice_get xs i ≡ Some x) × (y ≡ f x)
get_map f [] i y h = absurd cc
get_map f (x ∷ xs) zero y h = (x, refl, let e : f x ≡ y = cc in sym e)
get_map f (x ∷ xs) (suc i) y h = get_map f xs i y h

length_map : {A B : Type 0} (f : A → B) (xs : List A) → length (map f xs) ≡ length xs
length_map f [] = refl
length_map f (x ∷ xs) = ap suc (length_map f xs)

-- a prefix of its length is the whole
prefix_whole : {A : Type 0} (xs ys : List A) → IsPrefix xs ys → length xs ≡ length ys → xs ≡ ys
prefix_whole xs ys p same = by_rest p.rest p.joined
  where
    by_rest : (rest : List _) → ys ≡ xs ++ rest → xs ≡ ys
    by_rest [] e = sym (append-nil xs) ∙ sym e
    by_rest (r ∷ rest) e = absurd (omega (arith, ap length e, same, length-append xs (r ∷ rest)))

get_range : (a n i : ℕ) → i < n → slice_get (range_with_len a n) i ≡ Some (a + i)
get_range a zero i lt = absurd (omega (arith, lt))
get_range a (suc n) zero lt = ap (λ (k : ℕ). Some k) (sym (add-zero a))
get_range a (suc n) (suc i) lt = get_range (a + 1) n i (omega (arith, lt)) ∙ ap (λ (k : ℕ). Some k) (omega arith)

length_range : (a n : ℕ) → length (range_with_len a n) ≡ n
length_range a zero = refl
length_range a (suc n) = ap suc (length_range (a + 1) n)

-- commands numbered by their places
pub numbers_are : (xs : List Executed) → ((i : ℕ) (x : Executed) → slice_get xs i ≡ Some x → x.number ≡ i) → map (λ x. x.number) xs ≡ range_with_len 0 (length xs)
numbers_are xs h =
    prefix_whole (map (λ (x : Executed). x.number) xs) (range_with_len 0 (length xs))
    (prefix_by_places (map (λ (x : Executed). x.number) xs) (range_with_len 0 (length xs)) (λ i y at.
    let r = get_map (λ (x : Executed). x.number) xs i y at in
    let place : y ≡ i = r.2 ∙ h i r.0 r.1 in
    let same : 0 + i ≡ y = omega (arith, place) in
    get_range 0 (length xs) i (slice_get_within xs i r.0 r.1) ∙ ap (λ (k : ℕ). Some k) same))
    (length_map (λ (x : Executed). x.number) xs ∙ sym (length_range 0 (length xs)))

get_within : {A : Type 0} (xs : List A) (i : ℕ) → i < length xs → (x : A) × (slice_get xs i ≡ Some x)
get_within [] i lt = absurd (omega arith)
get_within (x ∷ xs) zero lt = (x, refl)
get_within (x ∷ xs) (suc i) lt = get_within xs i (omega arith)

among_contains : {A : Type 0} (xs : List A) (x : A) → IsIn x xs → Contains xs x
among_contains xs x h = let r = in_get xs x h in (r.0, slice_get_within xs r.0 x r.1, get_or_from_slice_get xs r.0 x x r.1)

-- an event below the count of processed ones of its life stands among them
pub processed_among : (s life : ℕ) (es whole made : List Event) → IsPrefix es whole → IsPrefix (events_from_life s life whole) made → (i : ℕ) (e : Event) → i < count_in s life es → slice_get made i ≡ Some e → Contains es e
processed_among s life es whole made p q i e lt at =
    let mine : Event → Bool = λ (y : Event). nat_eq y.switch s && nat_eq y.life life in
    let count = length-filter mine es in
    let r = get_within (events_from_life s life es) i (omega (arith, lt, count)) in
    let there : slice_get made i ≡ Some r.0 = get_prefix i r.0 (prefix_trans (prefix_filter mine p) q) r.1 in
    let it : r.0 ≡ e = same r.0 e (sym there ∙ at) in
    among_contains es e (in_filter mine es e (subst (λ (y : Event). IsIn y (events_from_life s life es)) it (get_in (events_from_life s life es) r.0 i r.1)))
  where
    same : (x y : Event) → Some x ≡ Some y → x ≡ y
    same x y h = cc

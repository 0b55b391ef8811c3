-- The row that a frame meets: the first of two destinations' first rows.
use Rattle.std.proofs.Common.{◌≡◌, ℕ, zero, suc, ◌-◌, ◌^◌, ◌<◌, ◌≤◌, ◌⊎◌, inl, inr, Bool, true, false, List, [], ◌∷◌, ◌++◌, refl, sym, ◌∙◌, ap, arith, subst}
use Rattle.std.specs.Prelude.{Option, Some, None, is_none, nat_eq, nat_lt, ◌&&◌, ◌||◌, find, bit_and, if◌then◌else◌}
use Rattle.std.specs.List.Sorted.{IsStrictlySortedBy}
use Rattle.std.specs.Map.{keys_of}
use Rattle.std.specs.Option.{option_to_list}
use Rattle.std.specs.BTreeMap.Range.{range_contains}
use Rattle.std.specs.declared.ops.Bound.TheVariants.{Included}
use Rattle.std.proofs.lemmas.Bool.{and_parts, cases_eq, cases_lt, eqb-true, lt-ltb, le-ltb, ltb-true, ltb-false, eq-eqb}
use Rattle.std.proofs.lemmas.List.{append-nil}
use Rattle.of_types.specs.declared.message.Fields.{Fields}
use Rattle.of_types.specs.declared.message.Masked48.{Masked48}
use Rattle.of_types.specs.declared.message.Match.{Match}
use Rattle.of_types.specs.declared.message.Row.{Row}
use Rattle.of_types.specs.declared.numbers.TheConstants.{ONES48}
use Rattle.of_types.specs.Matching.{matches, has_value, has_address48, has_address32}
use Rattle.flow_table.specs.Table.{better, chosen_row}
use Rattle.flow_index.specs.declared.place.Place.{Place}
use Rattle.flow_index.specs.Places.{place_of, exact_destination, whole_address}
use Rattle.flow_index.specs.Entries.{by_place, place_at, entries_of, exact_match, is_before, open_entries, preferred}
use Rattle.flow_index.specs.Index.{numbered_rows, rows_below, AreIndexed}
use Rattle.flow_table.proofs.Keys.{same_some, unlike}
use Rattle.flow_index.proofs.Order.{in_range, range_destination, place_before}
use Rattle.flow_index.proofs.Open.{filter_alike}
use Rattle.flow_index.proofs.Indexed.{Entry, IsIn, placed, numbered_in, in_numbered, find_in, find_none, find_least}

-- ---- one more row

abbrev later_better : Option Row → Row → Row
later_better None s = s
later_better (Some r) s = if nat_lt r.priority s.priority then s else r

later_of_two : (x y s : Row) → better x (Some (later_better (Some y) s)) ≡ later_better (Some (better x (Some y))) s
later_of_two x y s = elim (cases_lt y.priority s.priority) [
  | inl low ↦ elim (cases_lt x.priority y.priority) [
    | inl less ↦ rw (lt-ltb y.priority s.priority low, lt-ltb x.priority y.priority less, lt-ltb x.priority s.priority (omega (arith, low, less)), lt-ltb y.priority s.priority low) refl
    | inr more ↦ rw (lt-ltb y.priority s.priority low, le-ltb x.priority y.priority more) refl
  ]
  | inr high ↦ elim (cases_lt x.priority y.priority) [
    | inl less ↦ rw (le-ltb y.priority s.priority high, lt-ltb x.priority y.priority less, le-ltb y.priority s.priority high) refl
    | inr more ↦ rw (le-ltb y.priority s.priority high, le-ltb x.priority y.priority more, le-ltb x.priority s.priority (omega (arith, high, more))) refl
  ]
]

chosen_last : (xs : List Row) (s : Row) (fields : Fields) → chosen_row (xs ++ s ∷ []) fields ≡ (if matches s.matching fields then Some (later_better (chosen_row xs fields) s) else chosen_row xs fields)
chosen_last [] s fields = refl
chosen_last (x ∷ xs) s fields = by_tests (matches x.matching fields) (matches s.matching fields) (chosen_row xs fields) (chosen_row (xs ++ s ∷ []) fields) (chosen_last xs s fields)
  where
    by_tests : (mx ms : Bool) (c d : Option Row) → d ≡ (if ms then Some (later_better c s) else c)
        → (if mx then Some (better x d) else d) ≡ (if ms then Some (later_better (if mx then Some (better x c) else c) s) else if mx then Some (better x c) else c)
    by_tests true true None d e = ap (λ (o : Option Row). Some (better x o)) e
    by_tests true true (Some y) d e = ap (λ (o : Option Row). Some (better x o)) e ∙ ap Some (later_of_two x y s)
    by_tests true false c d e = ap (λ (o : Option Row). Some (better x o)) e
    by_tests false true c d e = e
    by_tests false false c d e = e

-- the same, where there may be none
chosen_more : (xs : List Row) (o : Option Row) (fields : Fields) → ((s : Row) → o ≡ Some s → matches s.matching fields ≡ false) → chosen_row (xs ++ option_to_list o) fields ≡ chosen_row xs fields
chosen_more xs None fields h = ap (λ (ys : List Row). chosen_row ys fields) (append-nil xs)
chosen_more xs (Some s) fields h = chosen_last xs s fields ∙ rw (h s refl) refl

pub chosen_none : (f : ℕ → Option Row) (n : ℕ) (fields : Fields) → ((m : ℕ) (s : Row) → f m ≡ Some s → matches s.matching fields ≡ false) → chosen_row (rows_below f n) fields ≡ None
chosen_none f zero fields h = refl
chosen_none f (suc n) fields h = chosen_more (rows_below f n) (f n) fields (h n) ∙ chosen_none f n fields h

-- what was chosen is one of the rows, and matches
pub record IsOneOf (f : ℕ → Option Row) (n : ℕ) (fields : Fields) (r : Row) : Type 0 where
  pub number : ℕ
  pub below : number < n
  pub here : f number ≡ Some r
  pub passes : matches r.matching fields ≡ true

chosen_in : (f : ℕ → Option Row) (n : ℕ) (fields : Fields) (r : Row) → chosen_row (rows_below f n) fields ≡ Some r → IsOneOf f n fields r
chosen_in f zero fields r e = absurd cc
chosen_in f (suc n) fields r e = by_row (f n) refl (chosen_in f n fields r) e
  where
    higher : IsOneOf f n fields r → IsOneOf f (suc n) fields r
    higher i = record { number = i.number; below = omega (arith, i.below); here = i.here; passes = i.passes }

    by_row : (o : Option Row) → f n ≡ o → (chosen_row (rows_below f n) fields ≡ Some r → IsOneOf f n fields r) → chosen_row (rows_below f n ++ option_to_list o) fields ≡ Some r → IsOneOf f (suc n) fields r
    by_row None is rest c = higher (rest (sym (chosen_more (rows_below f n) None fields (λ s h. absurd cc)) ∙ c))
    by_row (Some s) is rest c = by_test (matches s.matching fields) refl (sym (chosen_last (rows_below f n) s fields) ∙ c)
      where
        by_choice : (d : Option Row) → matches s.matching fields ≡ true → chosen_row (rows_below f n) fields ≡ d → Some (later_better d s) ≡ Some r → IsOneOf f (suc n) fields r
        by_choice None passes before k = record { number = n; below = omega arith; here = is ∙ k; passes = subst (λ (x : Row). matches x.matching fields ≡ true) (same_some s r k) passes }
        by_choice (Some y) passes before k = by_order (nat_lt y.priority s.priority) k
          where
            by_order : (b : Bool) → Some (if b then s else y) ≡ Some r → IsOneOf f (suc n) fields r
            by_order true j = record { number = n; below = omega arith; here = is ∙ j; passes = subst (λ (x : Row). matches x.matching fields ≡ true) (same_some s r j) passes }
            by_order false j = higher (rest (before ∙ j))

        by_test : (b : Bool) → matches s.matching fields ≡ b → (if b then Some (later_better (chosen_row (rows_below f n) fields) s) else chosen_row (rows_below f n) fields) ≡ Some r → IsOneOf f (suc n) fields r
        by_test true passes k = by_choice (chosen_row (rows_below f n) fields) passes refl k
        by_test false fails k = higher (rest k)

-- the row of a number is the best of those that match: of highest priority, and of these the one of the
-- lowest number
pub record IsBest (f : ℕ → Option Row) (fields : Fields) (n : ℕ) (r : Row) : Type 0 where
  pub here : f n ≡ Some r
  pub passes : matches r.matching fields ≡ true
  pub best : (m : ℕ) (s : Row) → f m ≡ Some s → matches s.matching fields ≡ true → (s.priority < r.priority) ⊎ ((s.priority ≡ r.priority) × (n ≤ m))

pub chosen_best : (f : ℕ → Option Row) (fields : Fields) (n : ℕ) (r : Row) (k : ℕ) → n < k → IsBest f fields n r → chosen_row (rows_below f k) fields ≡ Some r
chosen_best f fields n r zero lt b = absurd (omega (arith, lt))
chosen_best f fields n r (suc k) lt b = elim (cases_eq n k) [
  | inl same ↦ last same
  | inr apart ↦ earlier (chosen_best f fields n r k (omega (arith, lt, apart)) b) (f k) refl
]
  where
    last : n ≡ k → chosen_row (rows_below f (suc k)) fields ≡ Some r
    last same = rw (sym (ap f same) ∙ b.here) (chosen_last (rows_below f k) r fields ∙ rw b.passes (by_front (chosen_row (rows_below f k) fields) refl))
      where
        by_front : (d : Option Row) → chosen_row (rows_below f k) fields ≡ d → Some (later_better d r) ≡ Some r
        by_front None front = refl
        by_front (Some y) front =
            let i = chosen_in f k fields y front in
            let less : y.priority < r.priority = elim (b.best i.number y i.here i.passes) [ inl h ↦ h | inr h ↦ absurd (omega (arith, h.1, i.below, same)) ] in
            rw (lt-ltb y.priority r.priority less) refl

    earlier : chosen_row (rows_below f k) fields ≡ Some r → (o : Option Row) → f k ≡ o → chosen_row (rows_below f k ++ option_to_list o) fields ≡ Some r
    earlier front None is = chosen_more (rows_below f k) None fields (λ s h. absurd cc) ∙ front
    earlier front (Some s) is = chosen_last (rows_below f k) s fields ∙ rw front (by_test (matches s.matching fields) refl)
      where
        by_test : (t : Bool) → matches s.matching fields ≡ t → (if t then Some (later_better (Some r) s) else Some r) ≡ Some r
        by_test true passes =
            let le : s.priority ≤ r.priority = elim (b.best k s is passes) [ inl h ↦ omega (arith, h) | inr h ↦ omega (arith, h.0) ] in
            rw (le-ltb r.priority s.priority le) refl
        by_test false fails = refl

-- ---- places

-- one place does not stand after another, in priority and then in the order of adding
abbrev pub IsNotAfter : Place → Place → Type 0
IsNotAfter p q = (p.rank < q.rank) ⊎ ((p.rank ≡ q.rank) × (p.number ≤ q.number))

not_after : (p q s : Place) → IsNotAfter p q → IsNotAfter q s → IsNotAfter p s
not_after p q s (inl a) (inl b) = inl (omega (arith, a, b))
not_after p q s (inl a) (inr b) = inl (omega (arith, a, b.0))
not_after p q s (inr a) (inl b) = inl (omega (arith, a.0, b))
not_after p q s (inr a) (inr b) = inr (omega (arith, a.0, b.0), omega (arith, a.1, b.1))

before_is : (p q : Place) → is_before p q ≡ true → IsNotAfter p q
before_is p q e = by_ranks (nat_lt p.rank q.rank) refl (nat_eq p.rank q.rank) refl e
  where
    by_ranks : (a : Bool) → nat_lt p.rank q.rank ≡ a → (b : Bool) → nat_eq p.rank q.rank ≡ b → (a || b && nat_lt p.number q.number) ≡ true → IsNotAfter p q
    by_ranks true lower b is h = inl (ltb-true p.rank q.rank lower)
    by_ranks false f true is h = let less = ltb-true p.number q.number h in inr (eqb-true p.rank q.rank is, omega (arith, less))
    by_ranks false f false is h = absurd cc

not_before_is : (p q : Place) → is_before p q ≡ false → IsNotAfter q p
not_before_is p q e = by_ranks (nat_lt p.rank q.rank) refl (nat_eq p.rank q.rank) refl e
  where
    by_ranks : (a : Bool) → nat_lt p.rank q.rank ≡ a → (b : Bool) → nat_eq p.rank q.rank ≡ b → (a || b && nat_lt p.number q.number) ≡ false → IsNotAfter q p
    by_ranks true lower b is h = absurd cc
    by_ranks false f true is h = inr (sym (eqb-true p.rank q.rank is), ltb-false p.number q.number h)
    by_ranks false f false is h = elim (cases_eq p.rank q.rank) [
      | inl same ↦ absurd (unlike (sym is ∙ eq-eqb p.rank q.rank same))
      | inr apart ↦ let le = ltb-false p.rank q.rank f in inl (omega (arith, le, apart))
    ]

-- the row that stands before all that match is the one that is met
pub best_is_chosen : (next : ℕ) (es : List Entry) (fields : Fields) (w : Entry) → AreIndexed next es → IsIn w es → matches w.1.matching fields ≡ true → ((e : Entry) → IsIn e es → matches e.1.matching fields ≡ true → IsNotAfter w.0 e.0) → chosen_row (rows_below (numbered_rows es) next) fields ≡ Some w.1
best_is_chosen next es fields w a i passes first =
    let at = placed next es w a i in
    chosen_best (numbered_rows es) fields w.0.number w.1 next at.below (record {
      here = in_numbered next es w.0 w.1 a i;
      passes = passes;
      best = λ m s here hit.
          let j = numbered_in next es m s a here in
          let there = placed next es (place_of s m, s) a j in
          let rank : w.0.rank ≡ 65535 - w.1.priority = ap (λ (p : Place). p.rank) at.place in
          elim (first (place_of s m, s) j hit) [
            | inl lower ↦ inl (omega (arith, lower, rank, at.fits, there.fits))
            | inr same ↦ inr (omega (arith, same.0, rank, at.fits, there.fits), same.1)
          ];
    })

-- ---- destinations

-- a row that matches asks for no destination whole, or for the frame's
by_destination : (asked : Option Masked48) (found : Option ℕ) → has_address48 asked found ≡ true → (whole_address asked ≡ None) ⊎ ((d : ℕ) × (found ≡ Some d) × (whole_address asked ≡ Some (bit_and d ONES48)))
by_destination None found h = inl refl
by_destination (Some a) None h = absurd cc
by_destination (Some a) (Some d) h = by_mask (nat_eq a.mask ONES48) refl
  where
    by_mask : (b : Bool) → nat_eq a.mask ONES48 ≡ b → ((if b then Some (bit_and a.value ONES48) else None) ≡ None) ⊎ ((x : ℕ) × (Some d ≡ Some x) × ((if b then Some (bit_and a.value ONES48) else None) ≡ Some (bit_and x ONES48)))
    by_mask false is = inl refl
    by_mask true is =
        let ones = eqb-true a.mask ONES48 is in
        let agree = eqb-true (bit_and d a.mask) (bit_and a.value a.mask) h in
        inr (d, refl, ap Some (sym (subst (λ (m : ℕ). bit_and d m ≡ bit_and a.value m) ones agree)))

destination_of : (m : Match) (f : Fields) → matches m f ≡ true → has_address48 m.eth_dst f.eth_dst ≡ true
destination_of m f e =
    let p10 = and_parts _ (has_value m.udp_dst f.udp_dst) e in
    let p9 = and_parts _ (has_value m.udp_src f.udp_src) p10.0 in
    let p8 = and_parts _ (has_value m.tcp_dst f.tcp_dst) p9.0 in
    let p7 = and_parts _ (has_value m.tcp_src f.tcp_src) p8.0 in
    let p6 = and_parts _ (has_address32 m.ipv4_dst f.ipv4_dst) p7.0 in
    let p5 = and_parts _ (has_address32 m.ipv4_src f.ipv4_src) p6.0 in
    let p4 = and_parts _ (has_value m.ip_proto f.ip_proto) p5.0 in
    let p3 = and_parts _ (has_value m.eth_type f.eth_type) p4.0 in
    let p2 = and_parts _ (has_address48 m.eth_src f.eth_src) p3.0 in
    (and_parts (has_value m.in_port f.in_port) (has_address48 m.eth_dst f.eth_dst) p2.0).1

abbrev in_destination : Option ℕ → Entry → Bool
in_destination d e = range_contains by_place (Included (place_at d 0 0)) (Included (place_at d 65535 (2 ^ 64 - 1))) e.0

abbrev passes_of : Fields → Entry → Bool
passes_of fields e = matches e.1.matching fields

entry_in_destination : (next : ℕ) (es : List Entry) (d : Option ℕ) (e : Entry) → next < 2 ^ 64 → AreIndexed next es → IsIn e es → exact_destination e.1.matching ≡ d → in_destination d e ≡ true
entry_in_destination next es d e small a i same =
    let at = placed next es e a i in
    let destination : e.0.destination ≡ d = ap (λ (p : Place). p.destination) at.place ∙ same in
    let rank : e.0.rank ≡ 65535 - e.1.priority = ap (λ (p : Place). p.rank) at.place in
    in_range d 0 0 65535 (2 ^ 64 - 1) e.0 destination (omega arith) (omega arith) (omega (arith, rank)) (omega (arith, at.below, small))

-- of one destination the first row that matches stands before all others that do
first_of : (next : ℕ) (es : List Entry) (fields : Fields) (d : Option ℕ) (w e : Entry) → next < 2 ^ 64 → AreIndexed next es → IsStrictlySortedBy by_place (keys_of es) → find (passes_of fields) (entries_of d es) ≡ Some w → IsIn e es → exact_destination e.1.matching ≡ d → matches e.1.matching fields ≡ true → IsNotAfter w.0 e.0
first_of next es fields d w e small a sorted found i same hit =
    let inside = entry_in_destination next es d e small a i same in
    let won = find_in (passes_of fields) (in_destination d) es w found in
    elim (find_least (passes_of fields) (in_destination d) es w e sorted found i inside hit) [
      | inl is ↦ inr (ap (λ (x : Entry). x.0.rank) (sym is), subst (λ (x : Entry). w.0.number ≤ x.0.number) (sym is) (omega arith))
      | inr less ↦
          let one = sym (range_destination d 0 0 65535 (2 ^ 64 - 1) w.0 won.2) ∙ range_destination d 0 0 65535 (2 ^ 64 - 1) e.0 inside in
          elim (place_before w.0 e.0 one less) [ inl lower ↦ inl lower | inr both ↦ inr (both.0, omega (arith, both.1)) ]
    ]

none_of : (next : ℕ) (es : List Entry) (fields : Fields) (d : Option ℕ) (e : Entry) → next < 2 ^ 64 → AreIndexed next es → find (passes_of fields) (entries_of d es) ≡ None → IsIn e es → exact_destination e.1.matching ≡ d → matches e.1.matching fields ≡ true → ⊥
none_of next es fields d e small a found i same hit =
    unlike (sym (find_none (passes_of fields) (in_destination d) es e found i (entry_in_destination next es d e small a i same)) ∙ hit)

-- what two rows' finders know of the rows that match
pub record AreFirst (es : List Entry) (fields : Fields) (exact any : Option Entry) : Type 0 where
  pub exact_one : (w : Entry) → exact ≡ Some w → IsIn w es × (matches w.1.matching fields ≡ true)
  pub any_one : (w : Entry) → any ≡ Some w → IsIn w es × (matches w.1.matching fields ≡ true)
  pub others : (e : Entry) → IsIn e es → matches e.1.matching fields ≡ true → ((w : Entry) × (exact ≡ Some w) × IsNotAfter w.0 e.0) ⊎ ((w : Entry) × (any ≡ Some w) × IsNotAfter w.0 e.0)

found_first : (next : ℕ) (es : List Entry) (fields : Fields) → next < 2 ^ 64 → AreIndexed next es → IsStrictlySortedBy by_place (keys_of es) → AreFirst es fields (exact_match fields.eth_dst fields es) (find (passes_of fields) (entries_of None es))
found_first next es fields small a sorted = record {
  exact_one = λ w e. of_exact fields.eth_dst w e;
  any_one = λ w e. let p = find_in (passes_of fields) (in_destination None) es w e in (p.0, p.1);
  others = λ e i hit. elim (by_destination e.1.matching.eth_dst fields.eth_dst (destination_of e.1.matching fields hit)) [
    | inl whole ↦ inr (some_first None e i whole hit (find (passes_of fields) (entries_of None es)) refl)
    | inr is ↦
        let found : exact_match fields.eth_dst fields es ≡ find (passes_of fields) (entries_of (Some (bit_and is.0 ONES48)) es) = ap (λ (d : Option ℕ). exact_match d fields es) is.1 in
        let w = some_first (Some (bit_and is.0 ONES48)) e i is.2 hit (find (passes_of fields) (entries_of (Some (bit_and is.0 ONES48)) es)) refl in
        inl (w.0, found ∙ w.1, w.2)
  ];
}
  where
    of_exact : (d : Option ℕ) (w : Entry) → exact_match d fields es ≡ Some w → IsIn w es × (matches w.1.matching fields ≡ true)
    of_exact None w e = absurd cc
    of_exact (Some d) w e = let p = find_in (passes_of fields) (in_destination (Some (bit_and d ONES48))) es w e in (p.0, p.1)

    some_first : (d : Option ℕ) (e : Entry) → IsIn e es → exact_destination e.1.matching ≡ d → matches e.1.matching fields ≡ true → (o : Option Entry) → find (passes_of fields) (entries_of d es) ≡ o → (w : Entry) × (o ≡ Some w) × IsNotAfter w.0 e.0
    some_first d e i same hit None found = absurd (none_of next es fields d e small a found i same hit)
    some_first d e i same hit (Some w) found = (w, refl, first_of next es fields d w e small a sorted found i same hit)

-- a row that was found stands before what the found row does
of_found : (o : Option Entry) (w : Entry) (e : Entry) → o ≡ Some w → (v : Entry) → o ≡ Some v → IsNotAfter v.0 e.0 → IsNotAfter w.0 e.0
of_found o w e is v seen before = subst (λ (x : Entry). IsNotAfter x.0 e.0) (same_some v w (sym seen ∙ is)) before

nothing : {A : Type 0} (o : Option Entry) (w : Entry) → o ≡ None → o ≡ Some w → A
nothing o w none some = absurd (no_row (sym none ∙ some))
  where
    no_row : None ≡ Some w → ⊥
    no_row h = cc

-- the better of the two is the row that the frame meets
best_of : (next : ℕ) (es : List Entry) (fields : Fields) (exact any : Option Entry) → AreIndexed next es → AreFirst es fields exact any → preferred exact any ≡ chosen_row (rows_below (numbered_rows es) next) fields
best_of next es fields exact any a firsts = by_found exact any refl refl
  where
    wins : (w : Entry) → IsIn w es × (matches w.1.matching fields ≡ true)
        → ((x : Entry) (e : Entry) → exact ≡ Some x → IsNotAfter x.0 e.0 → IsNotAfter w.0 e.0)
        → ((y : Entry) (e : Entry) → any ≡ Some y → IsNotAfter y.0 e.0 → IsNotAfter w.0 e.0)
        → Some w.1 ≡ chosen_row (rows_below (numbered_rows es) next) fields
    wins w one left right =
        sym (best_is_chosen next es fields w a one.0 one.1 (λ e i hit. elim (firsts.others e i hit) [ inl v ↦ left v.0 e v.1 v.2 | inr v ↦ right v.0 e v.1 v.2 ]))

    by_found : (x y : Option Entry) → exact ≡ x → any ≡ y → preferred x y ≡ chosen_row (rows_below (numbered_rows es) next) fields
    by_found None None none none' =
        sym (chosen_none (numbered_rows es) next fields (λ m s here. by_test m s (matches s.matching fields) refl (numbered_in next es m s a here)))
      where
        by_test : (m : ℕ) (s : Row) (b : Bool) → matches s.matching fields ≡ b → IsIn (place_of s m, s) es → b ≡ false
        by_test m s false is i = refl
        by_test m s true is i = elim (firsts.others (place_of s m, s) i is) [ inl w ↦ nothing exact w.0 none w.1 | inr w ↦ nothing any w.0 none' w.1 ]
    by_found (Some x) None is none =
        wins x (firsts.exact_one x is) (λ v e seen before. of_found exact x e is v seen before) (λ v e seen before. nothing any v none seen)
    by_found None (Some y) none is =
        wins y (firsts.any_one y is) (λ v e seen before. nothing exact v none seen) (λ v e seen before. of_found any y e is v seen before)
    by_found (Some x) (Some y) is is' = by_order (is_before y.0 x.0) refl
      where
        by_order : (b : Bool) → is_before y.0 x.0 ≡ b → (if b then Some y.1 else Some x.1) ≡ chosen_row (rows_below (numbered_rows es) next) fields
        by_order true first =
            wins y (firsts.any_one y is')
            (λ v e seen before. not_after y.0 x.0 e.0 (before_is y.0 x.0 first) (of_found exact x e is v seen before))
            (λ v e seen before. of_found any y e is' v seen before)
        by_order false first =
            wins x (firsts.exact_one x is)
            (λ v e seen before. of_found exact x e is v seen before)
            (λ v e seen before. not_after x.0 y.0 e.0 (not_before_is y.0 x.0 first) (of_found any y e is' v seen before))

-- the rows of no destination are those between its places
open_is : (next : ℕ) (es : List Entry) → next < 2 ^ 64 → AreIndexed next es → open_entries es ≡ entries_of None es
open_is next es small a = filter_alike (λ e. is_none e.0.destination) (in_destination None) es (λ e i. by_place_of e i e.0.destination refl)
  where
    by_range : (e : Entry) (d : ℕ) → e.0.destination ≡ Some d → (b : Bool) → in_destination None e ≡ b → false ≡ b
    by_range e d is true inside = absurd cc (range_destination None 0 0 65535 (2 ^ 64 - 1) e.0 inside, is)
    by_range e d is false outside = refl

    by_place_of : (e : Entry) → IsIn e es → (o : Option ℕ) → e.0.destination ≡ o → is_none o ≡ in_destination None e
    by_place_of e i None is = sym (entry_in_destination next es None e small a i (sym (ap (λ (p : Place). p.destination) (placed next es e a i).place) ∙ is))
    by_place_of e i (Some d) is = by_range e d is (in_destination None e) refl

pub found_is_chosen : (next : ℕ) (es : List Entry) (fields : Fields) → next < 2 ^ 64 → AreIndexed next es → IsStrictlySortedBy by_place (keys_of es) → preferred (exact_match fields.eth_dst fields es) (find (λ e. matches e.1.matching fields) (open_entries es)) ≡ chosen_row (rows_below (numbered_rows es) next) fields
found_is_chosen next es fields small a sorted = rw (open_is next es small a) (best_of next es fields _ _ a (found_first next es fields small a sorted))

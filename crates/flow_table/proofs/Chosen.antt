-- The chosen row is the first of highest priority among those that match.
use Rattle.std.proofs.Common.{◌≡◌, ◌<◌, ◌≤◌, inl, inr, Bool, true, false, List, [], ◌∷◌, ◌++◌, refl, sym, ◌∙◌, ap, arith, subst}
use Rattle.std.specs.Prelude.{Option, Some, None, nat_lt, if◌then◌else◌}
use Rattle.std.specs.List.{AllByRecursion}
use Rattle.std.proofs.lemmas.Bool.{cases_lt, lt-ltb, le-ltb}
use Rattle.of_types.specs.declared.message.Fields.{Fields}
use Rattle.of_types.specs.declared.message.Row.{Row}
use Rattle.of_types.specs.Matching.{matches}
use Rattle.flow_table.specs.Choosing.{ChosenIsFirstOfHighest, IsFirstOfHighest, NoneIsChosenOfNone}
use Rattle.flow_table.specs.Table.{better, chosen_row}

module _ (fields : Fields) where
  abbrev Misses : Row → Type 0
  Misses row = matches row.matching fields ≡ false

  abbrev IsBelow : Row → Row → Type 0
  IsBelow row other = matches other.matching fields ≡ true → other.priority < row.priority

  abbrev IsUpTo : Row → Row → Type 0
  IsUpTo row other = matches other.matching fields ≡ true → other.priority ≤ row.priority

  never : {A : Type 0} (b : Bool) → b ≡ false → b ≡ true → A
  never false miss meet = absurd cc
  never true miss meet = absurd cc

  none_chosen : (rows : List Row) → chosen_row rows fields ≡ None → AllByRecursion Misses rows
  none_chosen [] none = tt
  none_chosen (row ∷ rows) none = by_test (matches row.matching fields) refl (λ e. none_chosen rows e) none
    where
      by_test : (b : Bool) → matches row.matching fields ≡ b → (chosen_row rows fields ≡ None → AllByRecursion Misses rows) →
          (if b then Some (better row (chosen_row rows fields)) else chosen_row rows fields) ≡ None → AllByRecursion Misses (row ∷ rows)
      by_test true meet rest e = absurd cc
      by_test false miss rest e = (miss, rest e)

  -- rows that don't match are below and up to any
  missed_up_to : (best : Row) (rows : List Row) → AllByRecursion Misses rows → AllByRecursion (IsUpTo best) rows
  missed_up_to best [] all = tt
  missed_up_to best (row ∷ rows) (miss, all) = (λ meet. never (matches row.matching fields) miss meet, missed_up_to best rows all)

  -- what is up to a row of no higher priority
  all_up_to : (best later : Row) (front back : List Row) → later.priority ≤ best.priority → AllByRecursion (IsBelow later) front → AllByRecursion (IsUpTo later) back →
      AllByRecursion (IsUpTo best) (front ++ later ∷ back)
  all_up_to best later [] back most before behind = (λ meet. most, up_to back behind)
    where
      up_to : (rows : List Row) → AllByRecursion (IsUpTo later) rows → AllByRecursion (IsUpTo best) rows
      up_to [] all = tt
      up_to (row ∷ rows) (here, all) = (λ meet. let low = here meet in omega (arith, low, most), up_to rows all)
  all_up_to best later (row ∷ front) back most (here, before) behind =
      (λ meet. let low = here meet in omega (arith, low, most), all_up_to best later front back most before behind)

  -- a row of the rest, behind one that is below it
  chosen_later : (row later : Row) (rows : List Row) → IsBelow later row → IsFirstOfHighest rows fields later → IsFirstOfHighest (row ∷ rows) fields later
  chosen_later row later rows low h = record {
    front = row ∷ h.front;
    back = h.back;
    stands = ap (λ l. row ∷ l) h.stands;
    meets = h.meets;
    before = (low, h.before);
    behind = h.behind;
  }

  first_of_highest : (rows : List Row) (row : Row) → chosen_row rows fields ≡ Some row → IsFirstOfHighest rows fields row
  first_of_highest [] row is = absurd cc
  first_of_highest (r ∷ rows) row is = by_test (matches r.matching fields) refl (λ other found. first_of_highest rows other found) is
    where
      here : (best : Row) → r ≡ best → matches r.matching fields ≡ true → AllByRecursion (IsUpTo r) rows → IsFirstOfHighest (r ∷ rows) fields best
      here best same meet behind =
          subst (λ b. IsFirstOfHighest (r ∷ rows) fields b) same (record { front = []; back = rows; stands = refl; meets = meet; before = tt; behind = behind })

      by_rest : (rest : Option Row) → chosen_row rows fields ≡ rest → matches r.matching fields ≡ true → ((other : Row) → chosen_row rows fields ≡ Some other → IsFirstOfHighest rows fields other) →
          Some (better r rest) ≡ Some row → IsFirstOfHighest (r ∷ rows) fields row
      by_rest None none meet deeper e = let same : r ≡ row = cc in here row same meet (missed_up_to r rows (none_chosen rows none))
      by_rest (Some later) found meet deeper e = elim (cases_lt r.priority later.priority) [
        | inl less ↦
            let same : later ≡ row = let f : Some later ≡ Some row = ap (λ b. Some (if b then later else r)) (sym (lt-ltb r.priority later.priority less)) ∙ e in cc in
            subst (λ b. IsFirstOfHighest (r ∷ rows) fields b) same (chosen_later r later rows (λ _. less) (deeper later found))
        | inr most ↦
            let same : r ≡ row = let f : Some r ≡ Some row = ap (λ b. Some (if b then later else r)) (sym (le-ltb r.priority later.priority most)) ∙ e in cc in
            let h = deeper later found in
            here row same meet (subst (λ l. AllByRecursion (IsUpTo r) l) (sym h.stands) (all_up_to r later h.front h.back most h.before h.behind))
      ]

      by_test : (b : Bool) → matches r.matching fields ≡ b → ((other : Row) → chosen_row rows fields ≡ Some other → IsFirstOfHighest rows fields other) →
          (if b then Some (better r (chosen_row rows fields)) else chosen_row rows fields) ≡ Some row → IsFirstOfHighest (r ∷ rows) fields row
      by_test true meet deeper e = by_rest (chosen_row rows fields) refl meet deeper e
      by_test false miss deeper e = chosen_later r row rows (λ meet. never (matches r.matching fields) miss meet) (deeper row e)

pub chosen_law : ChosenIsFirstOfHighest
chosen_law rows fields row is = first_of_highest fields rows row is

pub none_law : NoneIsChosenOfNone
none_law rows fields none = none_chosen fields rows none

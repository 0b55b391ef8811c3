-- The row of an ADD among those that stand, told of what was done later.
use Rattle.std.proofs.Common.{◌≡◌, ℕ, suc, Bool, true, false, not, List, [], ◌∷◌, length, map, filter, refl, sym, ◌∙◌, arith, subst}
use Rattle.std.specs.Prelude.{Some, None, option_map, if◌then◌else◌, nat_eq}
use Rattle.std.specs.List.{AllByRecursion}
use Rattle.std.proofs.lemmas.Bool.{ne_eqb, eq-eqb, eqb-true}
use Rattle.std.proofs.lemmas.Map.Entries.{option_filter}
use Rattle.of_types.specs.declared.message.FlowCommand.{FlowCommand}
use Rattle.of_types.specs.declared.message.FlowCommand.TheVariants.{Add, Modify, ModifyStrict, Delete, DeleteStrict}
use Rattle.of_types.specs.declared.message.FlowMod.{FlowMod}
use Rattle.of_types.specs.declared.message.Row.{Row}
use Rattle.flow_table.specs.Table.{same_key, is_named}
use Rattle.flow_clock.specs.History.{TableDeed, Changed, Ticked, Met, Standing, with_standing, added_by, standing_modified, standing_by, standing_after}
use Rattle.flow_clock.specs.Stands.{at_number}
use Rattle.flow_clock.proofs.Held.{AreEarly, early}
use Rattle.flow_table.proofs.Keys.{key_both, key_back, unlike}

-- ---- rows that stand differ in number and in key

pub record DifferFrom (s t : Standing) : Type 0 where
  pub numbers : nat_eq s.added t.added ≡ false
  pub keys : same_key s.row t.row ≡ false

abbrev pub AreDistinct : List Standing → Type 0
AreDistinct [] = Unit {0}
AreDistinct (s ∷ xs) = AllByRecursion (DifferFrom s) xs × AreDistinct xs

some_filter : (P : Standing → Type 0) (q : Standing → Bool) (xs : List Standing) → AllByRecursion P xs → AllByRecursion P (filter q xs)
some_filter P q [] a = tt
some_filter P q (x ∷ xs) a = by_test (q x) (some_filter P q xs a.1)
  where
    by_test : (b : Bool) → AllByRecursion P (filter q xs) → AllByRecursion P (if b then x ∷ filter q xs else filter q xs)
    by_test true rest = (a.0, rest)
    by_test false rest = rest

distinct_filter : (q : Standing → Bool) (xs : List Standing) → AreDistinct xs → AreDistinct (filter q xs)
distinct_filter q [] d = tt
distinct_filter q (x ∷ xs) d = by_test (q x) (distinct_filter q xs d.1)
  where
    by_test : (b : Bool) → AreDistinct (filter q xs) → AreDistinct (if b then x ∷ filter q xs else filter q xs)
    by_test true rest = (some_filter (DifferFrom x) q xs d.0, rest)
    by_test false rest = rest

keys_stay : (change : FlowMod) (s t : Standing) → same_key (standing_modified change s).row (standing_modified change t).row ≡ same_key s.row t.row
keys_stay change s t = by_test (is_named change s.row) (is_named change t.row)
  where
    by_test : (a b : Bool) → same_key (if a then record s.row { actions = change.actions } else s.row) (if b then record t.row { actions = change.actions } else t.row) ≡ same_key s.row t.row
    by_test true true = refl
    by_test true false = refl
    by_test false true = refl
    by_test false false = refl

differ_modified : (change : FlowMod) (s : Standing) (xs : List Standing) → AllByRecursion (DifferFrom s) xs → AllByRecursion (DifferFrom (standing_modified change s)) (map (standing_modified change) xs)
differ_modified change s [] a = tt
differ_modified change s (x ∷ xs) a = (record { numbers = a.0.numbers; keys = keys_stay change s x ∙ a.0.keys }, differ_modified change s xs a.1)

distinct_modified : (change : FlowMod) (xs : List Standing) → AreDistinct xs → AreDistinct (map (standing_modified change) xs)
distinct_modified change [] d = tt
distinct_modified change (x ∷ xs) d = (differ_modified change x xs d.0, distinct_modified change xs d.1)

-- a key that is another's differs from what the other differs from
key_apart : (a b c : Row) → same_key a b ≡ true → same_key a c ≡ false → same_key b c ≡ false
key_apart a b c same differ = by_test (same_key b c) refl
  where
    by_test : (t : Bool) → same_key b c ≡ t → same_key b c ≡ false
    by_test false is = is
    by_test true is = absurd (unlike (sym differ ∙ key_both a c b same (key_back b c is)))

key_apart_back : (a b c : Row) → same_key a b ≡ true → same_key a c ≡ false → same_key c b ≡ false
key_apart_back a b c same differ = by_test (same_key c b) refl
  where
    by_test : (t : Bool) → same_key c b ≡ t → same_key c b ≡ false
    by_test false is = is
    by_test true is = absurd (unlike (sym differ ∙ key_both a c b same is))

differ_new : (x new : Standing) (xs : List Standing) → same_key x.row new.row ≡ true → AllByRecursion (DifferFrom x) xs → AllByRecursion (λ s. nat_eq new.added s.added ≡ false) xs → AllByRecursion (DifferFrom new) xs
differ_new x new [] same a n = tt
differ_new x new (s ∷ xs) same a n = (record { numbers = n.0; keys = key_apart x.row new.row s.row same a.0.keys }, differ_new x new xs same a.1 n.1)

differ_with : (x new : Standing) (xs : List Standing) → nat_eq x.added new.added ≡ false → same_key x.row new.row ≡ false → AllByRecursion (DifferFrom x) xs → AllByRecursion (DifferFrom x) (with_standing xs new)
differ_with x new [] numbers keys a = (record { numbers = numbers; keys = keys }, tt)
differ_with x new (s ∷ xs) numbers keys a = by_test (same_key s.row new.row) (differ_with x new xs numbers keys a.1)
  where
    by_test : (b : Bool) → AllByRecursion (DifferFrom x) (with_standing xs new) → AllByRecursion (DifferFrom x) (if b then new ∷ xs else s ∷ with_standing xs new)
    by_test true rest = (record { numbers = numbers; keys = keys }, a.1)
    by_test false rest = (a.0, rest)

fresh : (n : ℕ) (xs : List Standing) → AreEarly n xs → AllByRecursion (λ s. nat_eq (suc n) s.added ≡ false) xs
fresh n [] a = tt
fresh n (s ∷ xs) a = (ne_eqb (suc n) s.added (λ same. absurd (omega (arith, a.0, same))), fresh n xs a.1)

distinct_with : (n : ℕ) (new : Standing) (xs : List Standing) → new.added ≡ suc n → AreEarly n xs → AreDistinct xs → AreDistinct (with_standing xs new)
distinct_with n new [] is a d = (tt, tt)
distinct_with n new (x ∷ xs) is a d = by_test (same_key x.row new.row) refl (distinct_with n new xs is a.1 d.1)
  where
    others : AllByRecursion (λ s. nat_eq new.added s.added ≡ false) xs
    others = subst (λ (m : ℕ). AllByRecursion (λ s. nat_eq m s.added ≡ false) xs) (sym is) (fresh n xs a.1)

    apart : nat_eq x.added new.added ≡ false
    apart = ne_eqb x.added new.added (λ same. absurd (omega (arith, a.0, same, is)))

    by_test : (b : Bool) → same_key x.row new.row ≡ b → AreDistinct (with_standing xs new) → AreDistinct (if b then new ∷ xs else x ∷ with_standing xs new)
    by_test true same rest = (differ_new x new xs same d.0 others, d.1)
    by_test false differ rest = (differ_with x new xs apart differ d.0, rest)

distinct_by : (n : ℕ) (change : FlowMod) (xs : List Standing) → AreEarly n xs → AreDistinct xs → (command : FlowCommand) → AreDistinct (standing_by command (suc n) change xs)
distinct_by n change xs a d Add = distinct_with n (added_by (suc n) change) xs refl a d
distinct_by n change xs a d Modify = distinct_modified change xs d
distinct_by n change xs a d ModifyStrict = distinct_modified change xs d
distinct_by n change xs a d Delete = distinct_filter _ xs d
distinct_by n change xs a d DeleteStrict = distinct_filter _ xs d

pub distinct : (deeds : List TableDeed) → AreDistinct (standing_after deeds)
distinct [] = (tt, tt)
distinct (Changed change ∷ deeds) = distinct_by (length deeds) change (standing_after deeds) (early deeds) (distinct deeds) change.command
distinct (Ticked ∷ deeds) = distinct_filter _ (standing_after deeds) (distinct deeds)
distinct (Met chosen octets ∷ deeds) = distinct deeds

-- ---- what becomes of the row of a number

none_at : (n : ℕ) (x : Standing) (xs : List Standing) → nat_eq x.added n ≡ true → AllByRecursion (DifferFrom x) xs → at_number n xs ≡ None
none_at n x [] is a = refl
none_at n x (s ∷ xs) is a =
    let apart : nat_eq s.added n ≡ false = ne_eqb s.added n (λ same. absurd (unlike (sym a.0.numbers ∙ eq-eqb x.added s.added (eqb-true x.added n is ∙ sym same)))) in
    rw apart (none_at n x xs is a.1)

pub at_filter : (n : ℕ) (q : Standing → Bool) (xs : List Standing) → AreDistinct xs → at_number n (filter q xs) ≡ option_filter q (at_number n xs)
at_filter n q [] d = refl
at_filter n q (x ∷ xs) d = by_test (q x) refl (nat_eq x.added n) refl (at_filter n q xs d.1)
  where
    by_test : (k : Bool) → q x ≡ k → (b : Bool) → nat_eq x.added n ≡ b → at_number n (filter q xs) ≡ option_filter q (at_number n xs)
        → at_number n (if k then x ∷ filter q xs else filter q xs) ≡ option_filter q (if b then Some x else at_number n xs)
    by_test true stays true is rest = rw (is, stays) refl
    by_test true stays false is rest = rw is rest
    by_test false goes true is rest = rest ∙ rw (none_at n x xs is d.0, goes) refl
    by_test false goes false is rest = rest

pub at_modified : (n : ℕ) (change : FlowMod) (xs : List Standing) → at_number n (map (standing_modified change) xs) ≡ option_map (standing_modified change) (at_number n xs)
at_modified n change [] = refl
at_modified n change (x ∷ xs) = by_test (nat_eq x.added n) (at_modified n change xs)
  where
    by_test : (b : Bool) → at_number n (map (standing_modified change) xs) ≡ option_map (standing_modified change) (at_number n xs)
        → (if b then Some (standing_modified change x) else at_number n (map (standing_modified change) xs)) ≡ option_map (standing_modified change) (if b then Some x else at_number n xs)
    by_test true rest = refl
    by_test false rest = rest

abbrev is_other : Standing → Standing → Bool
is_other new s = not (same_key s.row new.row)

others_stay : (n : ℕ) (x new : Standing) (xs : List Standing) → same_key x.row new.row ≡ true → AllByRecursion (DifferFrom x) xs → option_filter (is_other new) (at_number n xs) ≡ at_number n xs
others_stay n x new [] same a = refl
others_stay n x new (s ∷ xs) same a = by_test (nat_eq s.added n) (others_stay n x new xs same a.1)
  where
    by_test : (b : Bool) → option_filter (is_other new) (at_number n xs) ≡ at_number n xs → option_filter (is_other new) (if b then Some s else at_number n xs) ≡ (if b then Some s else at_number n xs)
    by_test true rest = rw (key_apart_back x.row new.row s.row same a.0.keys) refl
    by_test false rest = rest

pub at_with : (n : ℕ) (new : Standing) (xs : List Standing) → nat_eq new.added n ≡ false → AreDistinct xs → at_number n (with_standing xs new) ≡ option_filter (is_other new) (at_number n xs)
at_with n new [] apart d = rw apart refl
at_with n new (x ∷ xs) apart d = by_key (same_key x.row new.row) refl (nat_eq x.added n) refl (at_with n new xs apart d.1)
  where
    by_key : (k : Bool) → same_key x.row new.row ≡ k → (b : Bool) → nat_eq x.added n ≡ b → at_number n (with_standing xs new) ≡ option_filter (is_other new) (at_number n xs)
        → at_number n (if k then new ∷ xs else x ∷ with_standing xs new) ≡ option_filter (is_other new) (if b then Some x else at_number n xs)
    by_key true same true is rest = rw apart (none_at n x xs is d.0 ∙ rw same refl)
    by_key true same false is rest = rw apart (sym (others_stay n x new xs same d.0))
    by_key false differ true is rest = rw (is, differ) refl
    by_key false differ false is rest = rw is rest

pub at_new : (n : ℕ) (new : Standing) (xs : List Standing) → new.added ≡ suc n → AreEarly n xs → at_number new.added (with_standing xs new) ≡ Some new
at_new n new [] is a = rw (eq-eqb new.added new.added refl) refl
at_new n new (x ∷ xs) is a = by_key (same_key x.row new.row) (at_new n new xs is a.1)
  where
    apart : nat_eq x.added new.added ≡ false
    apart = ne_eqb x.added new.added (λ same. absurd (omega (arith, a.0, same, is)))

    by_key : (k : Bool) → at_number new.added (with_standing xs new) ≡ Some new → at_number new.added (if k then new ∷ xs else x ∷ with_standing xs new) ≡ Some new
    by_key true rest = rw (eq-eqb new.added new.added refl) refl
    by_key false rest = rw apart rest

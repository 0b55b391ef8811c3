-- Rows stand in the order of adding, but that one that replaces another takes that one's place.
use Rattle.std.proofs.Common.{◌≡◌, ◌≤◌, ◌<◌, ℕ, suc, Bool, true, false, not, List, [], ◌∷◌, ◌++◌, length, map, filter, refl, sym, ◌∙◌, ap, arith}
use Rattle.std.specs.Prelude.{if◌then◌else◌, ◌&&◌, ◌||◌}
use Rattle.std.specs.List.{AllByRecursion}
use Rattle.of_types.specs.declared.message.FlowCommand.{FlowCommand}
use Rattle.of_types.specs.declared.message.FlowCommand.TheVariants.{Add, Modify, ModifyStrict, Delete, DeleteStrict}
use Rattle.of_types.specs.declared.message.FlowMod.{FlowMod}
use Rattle.of_types.specs.declared.message.Row.{Row}
use Rattle.flow_table.specs.Table.{row_of, same_key, is_add, is_named, is_deleted, modified}
use Rattle.flow_clock.specs.declared.times.Key.{Key}
use Rattle.flow_clock.specs.History.{TableDeed, Changed, Ticked, Met, Standing, is_time_over, with_standing, added_by, standing_modified, standing_by, standing_after}
use Rattle.flow_clock.specs.Clocked.{key_of}
use Rattle.flow_clock.specs.Stands.{is_key_taken, keys_of, JoinsInOrder, StayInOrder, is_adding, has_replaced, AreInOrder}
use Rattle.flow_table.proofs.Keys.{key_is, unlike}
use Rattle.flow_clock.proofs.Held.{AreEarly, all_map, all_filter, early}

-- ---- an ADD

key_same : (a b : Row) → same_key a b ≡ true → key_of b ≡ key_of a
key_same a b same = let k = key_is a b same in rw (k.priority, k.matching) refl

joins_in_place : (xs : List Standing) (new : Standing) → is_key_taken xs new.row ≡ true → keys_of (with_standing xs new) ≡ keys_of xs
joins_in_place [] new taken = absurd (unlike taken)
joins_in_place (x ∷ xs) new taken = by_test (same_key x.row new.row) refl (joins_in_place xs new) taken
  where
    by_test : (b : Bool) → same_key x.row new.row ≡ b → (is_key_taken xs new.row ≡ true → keys_of (with_standing xs new) ≡ keys_of xs) → (b || is_key_taken xs new.row) ≡ true → keys_of (if b then new ∷ xs else x ∷ with_standing xs new) ≡ keys_of (x ∷ xs)
    by_test true same rest t = ap (λ (k : Key). k ∷ keys_of xs) (key_same x.row new.row same)
    by_test false differ rest t = ap (λ (ks : List Key). key_of x.row ∷ ks) (rest t)

joins_last : (xs : List Standing) (new : Standing) → is_key_taken xs new.row ≡ false → with_standing xs new ≡ xs ++ (new ∷ [])
joins_last [] new free = refl
joins_last (x ∷ xs) new free = by_test (same_key x.row new.row) (joins_last xs new) free
  where
    by_test : (b : Bool) → (is_key_taken xs new.row ≡ false → with_standing xs new ≡ xs ++ (new ∷ [])) → (b || is_key_taken xs new.row) ≡ false → (if b then new ∷ xs else x ∷ with_standing xs new) ≡ x ∷ (xs ++ (new ∷ []))
    by_test true rest f = absurd (unlike (sym f))
    by_test false rest f = ap (λ (ys : List Standing). x ∷ ys) (rest f)

pub joins : (change : FlowMod) (deeds : List TableDeed) → change.command ≡ Add → JoinsInOrder (standing_after deeds) (added_by (suc (length deeds)) change) (standing_after (Changed change ∷ deeds))
joins change deeds add =
    let new = added_by (suc (length deeds)) change in
    let by_add : standing_after (Changed change ∷ deeds) ≡ with_standing (standing_after deeds) new = ap (λ (c : FlowCommand). standing_by c (suc (length deeds)) change (standing_after deeds)) add in
    record {
      in_place = λ taken. ap keys_of by_add ∙ joins_in_place (standing_after deeds) new taken;
      last = λ free. by_add ∙ joins_last (standing_after deeds) new free;
    }

-- ---- any other deed

all_stay : (xs : List Standing) → keys_of xs ≡ keys_of (filter (λ s. true) xs)
all_stay [] = refl
all_stay (x ∷ xs) = ap (λ (ks : List Key). key_of x.row ∷ ks) (all_stay xs)

modified_key : (change : FlowMod) (row : Row) → key_of (modified change row) ≡ key_of row
modified_key change row = by_test (is_named change row)
  where
    by_test : (b : Bool) → key_of (if b then record row { actions = change.actions } else row) ≡ key_of row
    by_test true = refl
    by_test false = refl

modified_keys : (change : FlowMod) (xs : List Standing) → keys_of (map (standing_modified change) xs) ≡ keys_of xs
modified_keys change [] = refl
modified_keys change (x ∷ xs) = rw (modified_key change x.row) (ap (λ (ks : List Key). key_of x.row ∷ ks) (modified_keys change xs))

stays_by : (n : ℕ) (change : FlowMod) (xs : List Standing) (command : FlowCommand) → is_add command ≡ false → StayInOrder xs (standing_by command n change xs)
stays_by n change xs Add other = absurd (unlike (sym other))
stays_by n change xs Modify other = record { stays = λ s. true; in_order = modified_keys change xs ∙ all_stay xs }
stays_by n change xs ModifyStrict other = record { stays = λ s. true; in_order = modified_keys change xs ∙ all_stay xs }
stays_by n change xs Delete other = record { stays = λ s. not (is_deleted change s.row); in_order = refl }
stays_by n change xs DeleteStrict other = record { stays = λ s. not (is_deleted change s.row); in_order = refl }

pub stays : (deed : TableDeed) (deeds : List TableDeed) → is_adding deed ≡ false → StayInOrder (standing_after deeds) (standing_after (deed ∷ deeds))
stays (Changed change) deeds other = stays_by (suc (length deeds)) change (standing_after deeds) change.command other
stays Ticked deeds other = record { stays = λ s. not (is_time_over (Ticked ∷ deeds) s); in_order = refl }
stays (Met chosen octets) deeds other = record { stays = λ s. true; in_order = all_stay (standing_after deeds) }

-- ---- where none was replaced

abbrev IsBefore : ℕ → Standing → Type 0
IsBefore n t = n < t.added

order_filter : (p : Standing → Bool) (xs : List Standing) → AreInOrder xs → AreInOrder (filter p xs)
order_filter p [] o = tt
order_filter p (x ∷ xs) o = by_test (p x) (order_filter p xs o.1)
  where
    by_test : (b : Bool) → AreInOrder (filter p xs) → AreInOrder (if b then x ∷ filter p xs else filter p xs)
    by_test true rest = (all_filter (IsBefore x.added) (IsBefore x.added) p (λ s less. less) xs o.0, rest)
    by_test false rest = rest

order_modified : (change : FlowMod) (xs : List Standing) → AreInOrder xs → AreInOrder (map (standing_modified change) xs)
order_modified change [] o = tt
order_modified change (x ∷ xs) o = (all_map (IsBefore x.added) (IsBefore x.added) (standing_modified change) (λ s less. less) xs o.0, order_modified change xs o.1)

before_new : (m n : ℕ) (new : Standing) (xs : List Standing) → m ≤ n → new.added ≡ suc n → AllByRecursion (IsBefore m) xs → AllByRecursion (IsBefore m) (xs ++ (new ∷ []))
before_new m n new [] early is a = (omega (arith, early, is), tt)
before_new m n new (x ∷ xs) early is a = (a.0, before_new m n new xs early is a.1)

order_new : (n : ℕ) (new : Standing) (xs : List Standing) → new.added ≡ suc n → AreEarly n xs → AreInOrder xs → AreInOrder (xs ++ (new ∷ []))
order_new n new [] is a o = (tt, tt)
order_new n new (x ∷ xs) is a o = (before_new x.added n new xs a.0 is o.0, order_new n new xs is a.1 o.1)

or_false : (a b : Bool) → (a || b) ≡ false → (a ≡ false) × (b ≡ false)
or_false true b e = absurd cc
or_false false b e = (refl, e)

order_by : (change : FlowMod) (deeds : List TableDeed) → AreInOrder (standing_after deeds) → (command : FlowCommand) → (is_add command && is_key_taken (standing_after deeds) (row_of change)) ≡ false
    → AreInOrder (standing_by command (suc (length deeds)) change (standing_after deeds))
order_by change deeds o Add free =
    let new = added_by (suc (length deeds)) change in
    rw (joins_last (standing_after deeds) new free) (order_new (length deeds) new (standing_after deeds) refl (early deeds) o)
order_by change deeds o Modify free = order_modified change (standing_after deeds) o
order_by change deeds o ModifyStrict free = order_modified change (standing_after deeds) o
order_by change deeds o Delete free = order_filter _ (standing_after deeds) o
order_by change deeds o DeleteStrict free = order_filter _ (standing_after deeds) o

pub in_order : (deeds : List TableDeed) → has_replaced deeds ≡ false → AreInOrder (standing_after deeds)
in_order [] none = (tt, tt)
in_order (Changed change ∷ deeds) none =
    let p = or_false (is_add change.command && is_key_taken (standing_after deeds) (row_of change)) (has_replaced deeds) none in
    order_by change deeds (in_order deeds p.1) change.command p.0
in_order (Ticked ∷ deeds) none = order_filter _ (standing_after deeds) (in_order deeds none)
in_order (Met chosen octets ∷ deeds) none = in_order deeds none

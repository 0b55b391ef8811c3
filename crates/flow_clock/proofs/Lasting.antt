-- A row that stood, as the opening one and that of an ADD, stands exactly where no later FLOW_MOD takes it out and its time was
-- never over; and no row stands but these.
use Rattle.std.proofs.Common.{◌≡◌, ◌≢◌, ℕ, suc, ◌-◌, ◌≤◌, ◌<◌, Bool, true, false, not, List, [], ◌∷◌, ◌++◌, length, length-append, append-nil, take, drop, take-append-drop, refl, sym, ◌∙◌, ap, ap₂, arith, subst}
use Rattle.std.specs.Prelude.{◌↔◌, Option, Some, None, option_map, if◌then◌else◌, nat_eq, nat_le, ◌&&◌, ◌||◌, take_while}
use Rattle.std.specs.List.{AllByRecursion, list_any, prefix_len}
use Rattle.std.proofs.lemmas.Bool.{ne_eqb, eqb-true, and_parts, leb-false, leb-true}
use Rattle.std.proofs.lemmas.List.Sums.{sum_by-cons}
use Rattle.std.proofs.lemmas.Map.Entries.{option_filter}
use Rattle.of_types.specs.declared.message.FlowCommand.{FlowCommand}
use Rattle.of_types.specs.declared.message.FlowCommand.TheVariants.{Add, Modify, ModifyStrict, Delete, DeleteStrict}
use Rattle.of_types.specs.declared.message.FlowMod.{FlowMod}
use Rattle.of_types.specs.declared.message.Row.{Row}
use Rattle.flow_table.specs.Table.{same_key, is_named}
use Rattle.flow_clock.specs.History.{TableDeed, Changed, Ticked, Met, Standing, since, ticks, is_hit, is_tick, is_time_over, with_standing, added_by, opening_standing, standing_modified, standing_by, standing_after}
use Rattle.flow_clock.specs.Stands.{at_number, left_of, takes_out, altered, row_with, is_spared, RowStands, IsRowNumber, Opening, Added}
use Rattle.flow_clock.proofs.Ageing.{ticks_more, is_miss, while_more, while_hit}
use Rattle.flow_clock.proofs.Held.{all_from, all_map, all_filter, early}
use Rattle.flow_table.proofs.Keys.{HaveOneKey, same_some, unlike}
use Rattle.flow_clock.proofs.Standing.{AreDistinct, distinct, at_filter, at_modified, at_with, at_new}

-- its time is over at the end of these deeds
abbrev pub over_in : List TableDeed → Standing → Bool
over_in later s =
    (not (nat_eq s.hard 0) && nat_le s.hard (ticks later))
    || (not (nat_eq s.idle 0) && nat_le s.idle (ticks (take_while (is_miss s.row) later)))

abbrev pub never_over : List TableDeed → Standing → Bool
never_over [] s = true
never_over (Changed d ∷ later) s = never_over later s
never_over (Ticked ∷ later) s = never_over later s && not (over_in (Ticked ∷ later) s)
never_over (Met chosen octets ∷ later) s = never_over later s

-- ---- its key stays

altered_key : (command : FlowCommand) (d : FlowMod) (row : Row) → HaveOneKey (altered command d row) row
altered_key Add d row = record { priority = refl; matching = refl }
altered_key Modify d row = by_test (is_named d row)
  where
    by_test : (b : Bool) → HaveOneKey (if b then record row { actions = d.actions } else row) row
    by_test true = record { priority = refl; matching = refl }
    by_test false = record { priority = refl; matching = refl }
altered_key ModifyStrict d row = by_test (is_named d row)
  where
    by_test : (b : Bool) → HaveOneKey (if b then record row { actions = d.actions } else row) row
    by_test true = record { priority = refl; matching = refl }
    by_test false = record { priority = refl; matching = refl }
altered_key Delete d row = record { priority = refl; matching = refl }
altered_key DeleteStrict d row = record { priority = refl; matching = refl }

pub key_stays : (later : List TableDeed) (row : Row) → HaveOneKey (row_with later row) row
key_stays [] row = record { priority = refl; matching = refl }
key_stays (Changed d ∷ later) row =
    let a = altered_key d.command d (row_with later row) in
    let b = key_stays later row in
    record { priority = a.priority ∙ b.priority; matching = a.matching ∙ b.matching }
key_stays (Ticked ∷ later) row = key_stays later row
key_stays (Met chosen octets ∷ later) row = key_stays later row

hit_same : (a b : Row) → HaveOneKey a b → (deed : TableDeed) → is_hit a deed ≡ is_hit b deed
hit_same a b k (Changed d) = refl
hit_same a b k Ticked = refl
hit_same a b k (Met None octets) = refl
hit_same a b k (Met (Some chosen) octets) = rw (k.priority, k.matching) refl

quiet_same : (a b : Row) → HaveOneKey a b → (deeds : List TableDeed) → take_while (is_miss a) deeds ≡ take_while (is_miss b) deeds
quiet_same a b k deeds = ap (λ (p : TableDeed → Bool). take_while p deeds) (λ i deed. ap not (hit_same a b k deed) i)

-- ---- where it stands

take_front : (xs ys : List TableDeed) → take (length xs) (xs ++ ys) ≡ xs
take_front [] [] = refl
take_front [] (y ∷ ys) = refl
take_front (x ∷ xs) ys = ap (λ zs. x ∷ zs) (take_front xs ys)

since_is : (s : Standing) (later rest : List TableDeed) → s.added ≡ length rest → since s (later ++ rest) ≡ later
since_is s later rest is =
    let count : length (later ++ rest) - s.added ≡ length later = omega (arith, length-append later rest, is) in
    ap (λ (n : ℕ). take n (later ++ rest)) count ∙ take_front later rest

abbrev alter : FlowCommand → FlowMod → Standing → Standing
alter command d s = record s { row = altered command d s.row }

step_by : (n m : ℕ) (d : FlowMod) (xs : List Standing) → nat_eq m n ≡ false → AreDistinct xs → (command : FlowCommand)
    → at_number n (standing_by command m d xs) ≡ option_map (alter command d) (option_filter (λ (s : Standing). not (takes_out command d s.row)) (at_number n xs))
step_by n m d xs apart once command = by_command command
  where
    all : (f : Standing → Standing) (o : Option Standing) → option_map f o ≡ option_map f (option_filter (λ s. true) o)
    all f None = refl
    all f (Some s) = refl

    same : (o : Option Standing) → o ≡ option_map (λ (s : Standing). record s { row = s.row }) o
    same None = refl
    same (Some s) = refl

    by_command : (command : FlowCommand) → at_number n (standing_by command m d xs) ≡ option_map (alter command d) (option_filter (λ (s : Standing). not (takes_out command d s.row)) (at_number n xs))
    by_command Add = at_with n (added_by m d) xs apart once ∙ same _
    by_command Modify = at_modified n d xs ∙ all (standing_modified d) (at_number n xs)
    by_command ModifyStrict = at_modified n d xs ∙ all (standing_modified d) (at_number n xs)
    by_command Delete = at_filter n _ xs once ∙ same _
    by_command DeleteStrict = at_filter n _ xs once ∙ same _

settled : (x y : Standing) (f : Standing → Standing) (p : Standing → Bool) (t s v : Bool) → p x ≡ not t → f x ≡ y → option_map f (option_filter p (if s && v then Some x else None)) ≡ (if (s && not t) && v then Some y else None)
settled x y f p true true true test is = rw test refl
settled x y f p false true true test is = rw test (ap Some is)
settled x y f p true true false test is = refl
settled x y f p false true false test is = refl
settled x y f p true false v test is = refl
settled x y f p false false v test is = refl

ticked : (x : Standing) (p : Standing → Bool) (t s v : Bool) → p x ≡ not t → option_filter p (if s && v then Some x else None) ≡ (if s && (v && not t) then Some x else None)
ticked x p true true true test = rw test refl
ticked x p false true true test = rw test refl
ticked x p true true false test = refl
ticked x p false true false test = refl
ticked x p true false v test = refl
ticked x p false false v test = refl

module _ (start : Standing) (first : List TableDeed) (new : start.added ≡ length first) (there : at_number start.added (standing_after first) ≡ Some start) where
  abbrev whole : List TableDeed → List TableDeed
  whole later = later ++ first

  over_is : (later : List TableDeed) → is_time_over (Ticked ∷ whole later) (left_of later start) ≡ over_in (Ticked ∷ later) start
  over_is later =
      let all : since (left_of later start) (Ticked ∷ whole later) ≡ Ticked ∷ later = since_is (left_of later start) (Ticked ∷ later) first new in
      rw (all, quiet_same (row_with later start.row) start.row (key_stays later start.row) (Ticked ∷ later)) refl

  pub where_is : (later : List TableDeed) → at_number start.added (standing_after (later ++ first)) ≡ (if is_spared later start.row && never_over later start then Some (left_of later start) else None)
  where_is [] = there
  where_is (Changed d ∷ later) =
      let apart : nat_eq (suc (length (whole later))) start.added ≡ false = ne_eqb _ _ (λ same. absurd (omega (arith, length-append later first, new, same))) in
      step_by start.added (suc (length (whole later))) d (standing_after (whole later)) apart (distinct (whole later)) d.command
      ∙ ap (λ (o : Option Standing). option_map (alter d.command d) (option_filter (λ (s : Standing). not (takes_out d.command d s.row)) o)) (where_is later)
      ∙ settled (left_of later start) (left_of (Changed d ∷ later) start) (alter d.command d) (λ (s : Standing). not (takes_out d.command d s.row)) (takes_out d.command d (row_with later start.row)) (is_spared later start.row) (never_over later start) refl refl
  where_is (Ticked ∷ later) =
      at_filter start.added _ (standing_after (whole later)) (distinct (whole later))
      ∙ ap (λ (o : Option Standing). option_filter (λ s. not (is_time_over (Ticked ∷ whole later) s)) o) (where_is later)
      ∙ ticked (left_of later start) (λ s. not (is_time_over (Ticked ∷ whole later) s)) (over_in (Ticked ∷ later) start) (is_spared later start.row) (never_over later start) (ap not (over_is later))
  where_is (Met chosen octets ∷ later) = where_is later

-- ---- its time was never over

or_false : (a b : Bool) → (a || b) ≡ false → (a ≡ false) × (b ≡ false)
or_false true b e = absurd cc
or_false false b e = (refl, e)

not_true : (b : Bool) → not b ≡ true → b ≡ false
not_true true e = absurd cc
not_true false e = refl

-- a timeout that isn't 0 is not over: fewer ticks than it
below_limit : (limit count : ℕ) → limit ≢ 0 → (not (nat_eq limit 0) && nat_le limit count) ≡ false → count < limit
below_limit limit count some out = leb-false limit count (sym (rw (ne_eqb limit 0 some) refl) ∙ out)

-- and one that is 0, or more than the ticks, isn't over
in_limit : (limit count : ℕ) → (limit ≢ 0 → count < limit) → (not (nat_eq limit 0) && nat_le limit count) ≡ false
in_limit limit count below = by_zero (nat_eq limit 0) refl
  where
    by_le : (b : Bool) → nat_le limit count ≡ b → limit ≢ 0 → nat_le limit count ≡ false
    by_le true is some = absurd (omega (arith, leb-true limit count is, below some))
    by_le false is some = is

    by_zero : (b : Bool) → nat_eq limit 0 ≡ b → (not b && nat_le limit count) ≡ false
    by_zero true is = refl
    by_zero false is = by_le (nat_le limit count) refl (λ same. unlike (sym is ∙ ap (λ (n : ℕ). nat_eq n 0) same))

-- a stretch without a hit is no longer than the one at the end
quiet_front : (row : Row) (stretch older : List TableDeed) → list_any (is_hit row) stretch ≡ false → ticks stretch ≤ ticks (take_while (is_miss row) (stretch ++ older))
quiet_front row [] older quiet = omega arith
quiet_front row (d ∷ stretch) older quiet =
    let p = or_false (is_hit row d) (list_any (is_hit row) stretch) quiet in
    let rest = quiet_front row stretch older p.1 in
    let more = ap (λ (ds : List TableDeed). ticks ds) (while_more row d (stretch ++ older) p.0) in
    omega (arith, rest, more, sum_by-cons tick_of d stretch, sum_by-cons tick_of d (take_while (is_miss row) (stretch ++ older)))
  where
    tick_of : TableDeed → ℕ
    tick_of d = if is_tick d then 1 else 0

none_hit : (row : Row) (deeds : List TableDeed) → list_any (is_hit row) (take_while (is_miss row) deeds) ≡ false
none_hit row [] = refl
none_hit row (d ∷ deeds) = by_hit (is_hit row d) refl (none_hit row deeds)
  where
    by_hit : (b : Bool) → is_hit row d ≡ b → list_any (is_hit row) (take_while (is_miss row) deeds) ≡ false → list_any (is_hit row) (take_while (is_miss row) (d ∷ deeds)) ≡ false
    by_hit true is rest = ap (λ (ds : List TableDeed). list_any (is_hit row) ds) (while_hit row d deeds is)
    by_hit false is rest = ap (λ (ds : List TableDeed). list_any (is_hit row) ds) (while_more row d deeds is) ∙ rw is rest

young_from : (later : List TableDeed) (c : Standing) → never_over later c ≡ true → c.hard ≢ 0 → ticks later < c.hard
young_from [] c never some = omega (arith, some)
young_from (Changed d ∷ later) c never some = young_from later c never some
young_from (Ticked ∷ later) c never some =
    let p = and_parts (never_over later c) (not (over_in (Ticked ∷ later) c)) never in
    below_limit c.hard (ticks (Ticked ∷ later)) some (or_false _ _ (not_true _ p.1)).0
young_from (Met chosen octets ∷ later) c never some = young_from later c never some

never_rest : (d : TableDeed) (later : List TableDeed) (c : Standing) → never_over (d ∷ later) c ≡ true → never_over later c ≡ true
never_rest (Changed e) later c never = never
never_rest Ticked later c never = (and_parts (never_over later c) (not (over_in (Ticked ∷ later) c)) never).0
never_rest (Met chosen octets) later c never = never

abbrev head_or : TableDeed → List TableDeed → TableDeed
head_or d [] = d
head_or d (x ∷ xs) = x

abbrev tail_of : List TableDeed → List TableDeed
tail_of [] = []
tail_of (x ∷ xs) = xs

or_true : (a b : Bool) → b ≡ true → (a || b) ≡ true
or_true true b e = refl
or_true false b e = e

-- a stretch that begins at the last of some deeds
met_first : (d : TableDeed) (later : List TableDeed) (c : Standing) → never_over (d ∷ later) c ≡ true → c.idle ≢ 0 → (stretch older : List TableDeed) → later ≡ stretch ++ older → c.idle ≤ ticks (d ∷ stretch)
    → (c.idle ≤ ticks stretch → list_any (is_hit c.row) stretch ≡ true) → list_any (is_hit c.row) (d ∷ stretch) ≡ true
met_first (Changed e) later c never some stretch older is long rest = rest long
met_first (Met chosen octets) later c never some stretch older is long rest = or_true _ _ (rest long)
met_first Ticked later c never some stretch older is long rest = by_quiet (list_any (is_hit c.row) stretch) refl
  where
    by_quiet : (b : Bool) → list_any (is_hit c.row) stretch ≡ b → list_any (is_hit c.row) stretch ≡ true
    by_quiet true hit = hit
    by_quiet false quiet =
        let p = and_parts (never_over later c) (not (over_in (Ticked ∷ later) c)) never in
        let below = below_limit c.idle (ticks (take_while (is_miss c.row) (Ticked ∷ later))) some (or_false _ _ (not_true _ p.1)).1 in
        let front = quiet_front c.row (Ticked ∷ stretch) older quiet in
        let same = ap (λ (ds : List TableDeed). ticks (take_while (is_miss c.row) (Ticked ∷ ds))) is in
        absurd (omega (arith, below, front, same, long))

met_from : (later : List TableDeed) (c : Standing) → never_over later c ≡ true → c.idle ≢ 0 → (newer stretch older : List TableDeed) → later ≡ newer ++ (stretch ++ older) → c.idle ≤ ticks stretch → list_any (is_hit c.row) stretch ≡ true
met_from [] c never some newer [] older is long = absurd (omega (arith, some, long))
met_from [] c never some [] (x ∷ stretch) older is long = absurd cc
met_from [] c never some (y ∷ newer) (x ∷ stretch) older is long = absurd cc
met_from (d ∷ later) c never some newer [] older is long = absurd (omega (arith, some, long))
met_from (d ∷ later) c never some (y ∷ newer) (x ∷ stretch) older is long = met_from later c (never_rest d later c never) some newer (x ∷ stretch) older (ap tail_of is) long
met_from (d ∷ later) c never some [] (x ∷ stretch) older is long =
    let same : d ≡ x = ap (λ (ds : List TableDeed). head_or d ds) is in
    subst (λ (y : TableDeed). list_any (is_hit c.row) (y ∷ stretch) ≡ true) same
    (met_first d later c never some stretch older (ap tail_of is) (subst (λ (y : TableDeed). c.idle ≤ ticks (y ∷ stretch)) (sym same) long)
    (λ longer. met_from later c (never_rest d later c never) some [] stretch older (ap tail_of is) longer))

abbrev IsMet : List TableDeed → Standing → Type 0
IsMet later c = c.idle ≢ 0 → (newer stretch older : List TableDeed) → later ≡ newer ++ (stretch ++ older) → c.idle ≤ ticks stretch → list_any (is_hit c.row) stretch ≡ true

met_rest : (d : TableDeed) (later : List TableDeed) (c : Standing) → IsMet (d ∷ later) c → IsMet later c
met_rest d later c met = λ some newer stretch older is long. met some (d ∷ newer) stretch older (ap (λ (ds : List TableDeed). d ∷ ds) is) long

idle_below : (later : List TableDeed) (c : Standing) → IsMet later c → c.idle ≢ 0 → ticks (take_while (is_miss c.row) later) < c.idle
idle_below later c met some = by_le (nat_le c.idle (ticks (take_while (is_miss c.row) later))) refl
  where
    by_le : (b : Bool) → nat_le c.idle (ticks (take_while (is_miss c.row) later)) ≡ b → ticks (take_while (is_miss c.row) later) < c.idle
    by_le true is =
        let split = sym (take-append-drop (prefix_len (is_miss c.row) later) later) in
        let hit = met some [] (take_while (is_miss c.row) later) (drop (prefix_len (is_miss c.row) later) later) split (leb-true c.idle _ is) in
        absurd (unlike (sym (none_hit c.row later) ∙ hit))
    by_le false is = leb-false c.idle _ is

never_from : (later : List TableDeed) (c : Standing) → (c.hard ≢ 0 → ticks later < c.hard) → IsMet later c → never_over later c ≡ true
never_from [] c young met = refl
never_from (Changed d ∷ later) c young met = never_from later c young (met_rest (Changed d) later c met)
never_from (Met chosen octets ∷ later) c young met = never_from later c young (met_rest (Met chosen octets) later c met)
never_from (Ticked ∷ later) c young met =
    let before = never_from later c (λ some. omega (arith, ticks_more later, young some)) (met_rest Ticked later c met) in
    let live : over_in (Ticked ∷ later) c ≡ false = ap₂ (λ (a b : Bool). a || b) (in_limit c.hard (ticks (Ticked ∷ later)) young) (in_limit c.idle (ticks (take_while (is_miss c.row) (Ticked ∷ later))) (idle_below (Ticked ∷ later) c met)) in
    ap₂ (λ (a b : Bool). a && not b) before live

-- ---- the laws

none_some : (s : Standing) → None ≡ Some s → ⊥
none_some s e = cc

stands_from : (start : Standing) (first later : List TableDeed) (s : Standing) → start.added ≡ length first → at_number start.added (standing_after first) ≡ Some start
    → (at_number start.added (standing_after (later ++ first)) ≡ Some s) ↔ (RowStands later start × (s ≡ left_of later start))
stands_from start first later s new there = (by_tests (is_spared later start.row) (never_over later start) refl refl (where_is start first new there later), from)
  where
    by_tests : (sp nv : Bool) → is_spared later start.row ≡ sp → never_over later start ≡ nv
        → at_number start.added (standing_after (later ++ first)) ≡ (if sp && nv then Some (left_of later start) else None)
        → at_number start.added (standing_after (later ++ first)) ≡ Some s → RowStands later start × (s ≡ left_of later start)
    by_tests true true spared never here found = (record { spared = spared; young = young_from later start never; met = met_from later start never }, sym (same_some _ s (sym here ∙ found)))
    by_tests true false spared never here found = absurd (none_some s (sym here ∙ found))
    by_tests false nv spared never here found = absurd (none_some s (sym here ∙ found))

    from : RowStands later start × (s ≡ left_of later start) → at_number start.added (standing_after (later ++ first)) ≡ Some s
    from p = where_is start first new there later ∙ rw (p.0.spared, never_from later start p.0.young p.0.met) (ap (λ (x : Standing). Some x) (sym p.1))

pub stands_exactly : (change : FlowMod) (past later : List TableDeed) (s : Standing) → change.command ≡ Add
    → (at_number (suc (length past)) (standing_after (later ++ Changed change ∷ past)) ≡ Some s) ↔ (RowStands later (added_by (suc (length past)) change) × (s ≡ left_of later (added_by (suc (length past)) change)))
stands_exactly change past later s add =
    stands_from (added_by (suc (length past)) change) (Changed change ∷ past) later s refl
    (ap (λ (c : FlowCommand). at_number (suc (length past)) (standing_by c (suc (length past)) change (standing_after past))) add
    ∙ at_new (length past) (added_by (suc (length past)) change) (standing_after past) refl (early past))

pub opening_stands : (deeds : List TableDeed) (s : Standing) → (at_number 0 (standing_after deeds) ≡ Some s) ↔ (RowStands deeds opening_standing × (s ≡ left_of deeds opening_standing))
opening_stands deeds s =
    subst (λ (all : List TableDeed). (at_number 0 (standing_after all) ≡ Some s) ↔ (RowStands deeds opening_standing × (s ≡ left_of deeds opening_standing))) (append-nil deeds)
    (stands_from opening_standing [] deeds s refl refl)

-- ---- no other row stands

number_more : (deed : TableDeed) (deeds : List TableDeed) (n : ℕ) → IsRowNumber deeds n → IsRowNumber (deed ∷ deeds) n
number_more deed deeds n Opening = Opening
number_more deed deeds n (Added change past later add) = Added change past (deed ∷ later) add

abbrev IsNumbered : List TableDeed → Standing → Type 0
IsNumbered deeds s = IsRowNumber deeds s.added

numbered_more : (deed : TableDeed) (deeds : List TableDeed) (s : Standing) → IsNumbered deeds s → IsNumbered (deed ∷ deeds) s
numbered_more deed deeds s is = number_more deed deeds s.added is

numbered_with : (deeds more : List TableDeed) (new : Standing) (xs : List Standing) → ((s : Standing) → IsNumbered deeds s → IsNumbered more s) → AllByRecursion (IsNumbered deeds) xs → IsNumbered more new
    → AllByRecursion (IsNumbered more) (with_standing xs new)
numbered_with deeds more new [] f a here = (here, tt)
numbered_with deeds more new (x ∷ xs) f a here = by_test (same_key x.row new.row) (numbered_with deeds more new xs f a.1 here)
  where
    by_test : (b : Bool) → AllByRecursion (IsNumbered more) (with_standing xs new) → AllByRecursion (IsNumbered more) (if b then new ∷ xs else x ∷ with_standing xs new)
    by_test true rest = (here, all_from f xs a.1)
    by_test false rest = (f x a.0, rest)

numbered_by : (change : FlowMod) (deeds : List TableDeed) → AllByRecursion (IsNumbered deeds) (standing_after deeds) → (command : FlowCommand) → change.command ≡ command
    → AllByRecursion (IsNumbered (Changed change ∷ deeds)) (standing_by command (suc (length deeds)) change (standing_after deeds))
numbered_by change deeds a Add is = numbered_with deeds (Changed change ∷ deeds) (added_by (suc (length deeds)) change) (standing_after deeds) (numbered_more (Changed change) deeds) a (Added change deeds [] is)
numbered_by change deeds a Modify is = all_map (IsNumbered deeds) (IsNumbered (Changed change ∷ deeds)) (standing_modified change) (numbered_more (Changed change) deeds) (standing_after deeds) a
numbered_by change deeds a ModifyStrict is = all_map (IsNumbered deeds) (IsNumbered (Changed change ∷ deeds)) (standing_modified change) (numbered_more (Changed change) deeds) (standing_after deeds) a
numbered_by change deeds a Delete is = all_filter (IsNumbered deeds) (IsNumbered (Changed change ∷ deeds)) _ (numbered_more (Changed change) deeds) (standing_after deeds) a
numbered_by change deeds a DeleteStrict is = all_filter (IsNumbered deeds) (IsNumbered (Changed change ∷ deeds)) _ (numbered_more (Changed change) deeds) (standing_after deeds) a

numbered : (deeds : List TableDeed) → AllByRecursion (IsNumbered deeds) (standing_after deeds)
numbered [] = (Opening, tt)
numbered (Changed change ∷ deeds) = numbered_by change deeds (numbered deeds) change.command refl
numbered (Ticked ∷ deeds) = all_filter (IsNumbered deeds) (IsNumbered (Ticked ∷ deeds)) _ (numbered_more Ticked deeds) (standing_after deeds) (numbered deeds)
numbered (Met chosen octets ∷ deeds) = all_from (numbered_more (Met chosen octets) deeds) (standing_after deeds) (numbered deeds)

found_numbered : (deeds : List TableDeed) (n : ℕ) (xs : List Standing) (s : Standing) → AllByRecursion (IsNumbered deeds) xs → at_number n xs ≡ Some s → IsRowNumber deeds n
found_numbered deeds n [] s a found = absurd (none_some s found)
found_numbered deeds n (x ∷ xs) s a found = by_test (nat_eq x.added n) refl (found_numbered deeds n xs s a.1) found
  where
    by_test : (b : Bool) → nat_eq x.added n ≡ b → (at_number n xs ≡ Some s → IsRowNumber deeds n) → (if b then Some x else at_number n xs) ≡ Some s → IsRowNumber deeds n
    by_test true is rest here = subst (λ (m : ℕ). IsRowNumber deeds m) (eqb-true x.added n is) a.0
    by_test false is rest here = rest here

pub no_other_stands : (deeds : List TableDeed) (n : ℕ) (s : Standing) → at_number n (standing_after deeds) ≡ Some s → IsRowNumber deeds n
no_other_stands deeds n s found = found_numbered deeds n (standing_after deeds) s (numbered deeds) found

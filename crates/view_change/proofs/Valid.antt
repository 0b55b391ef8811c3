-- Each step of a view change keeps a state valid.
use Rattle.std.proofs.Common.{◌≡◌, ◌≤◌, ◌<◌, ℕ, ◌+◌, Bool, true, false, not, ◌&&◌, ◌||◌, List, [], ◌∷◌, ◌++◌, length, take, max, min, refl, sym, subst, ◌∙◌, arith, length-append}
use Rattle.std.specs.Prelude.{nat_eq, nat_lt, nat_le, map, filter, if◌then◌else◌}
use Rattle.std.specs.List.{list_any, AllByRecursion, IsDistinct}
use Rattle.std.proofs.lemmas.Bool.{and_parts, leb-true, ltb-true}
use Rattle.std.proofs.lemmas.Bool.Decides.{nat_tests}
use Rattle.std.proofs.lemmas.List.{length-replicate, length-take-le}
use Rattle.of_types.specs.SmallSets.{with_number}
use Rattle.vr_log.specs.declared.entry.Entry.{Entry}
use Rattle.vr_log.specs.declared.state.Collected.{Collected}
use Rattle.vr_log.specs.declared.state.VrState.{VrState}
use Rattle.vr_log.specs.Members.{is_changing, is_primary, is_primary_of, is_other, is_later, leads, most_failures}
use Rattle.vr_log.specs.Choosing.{has_collected, may_choose, best_of, is_better, least_commit, greatest_commit, front, reaches}
use Rattle.vr_log.specs.Steps.{VrStep, quiet, guarded}
use Rattle.vr_log.specs.Valid.{AreMembers, IsValidState}
use Rattle.vr_log.proofs.Valid.{either, chosen_by, nobody, Sound, guarded_valid}
use Rattle.view_change.specs.Adopting.{adopted_log, adopts, adopt}
use Rattle.view_change.specs.Entering.{entered_view, voted, collects, own_log, sends_log, votes, starts, chooses_from, check}
use Rattle.view_change.specs.Cases.{enters, vote_later, vote_here, collect_later, collect, do_view_change, is_message_wanted, supplied}

-- names of members, one more of them
all_both : (P : ℕ → Type 0) (xs ys : List ℕ) → AllByRecursion P xs → AllByRecursion P ys → AllByRecursion P (xs ++ ys)
all_both P [] ys a b = b
all_both P (x ∷ xs) ys a b = (a.0, all_both P xs ys a.1 b)

all_among : (P : ℕ → Type 0) (p : ℕ → Bool) (xs : List ℕ) → AllByRecursion P xs → AllByRecursion P (filter p xs)
all_among P p [] a = tt
all_among P p (x ∷ xs) a = chosen (p x) (all_among P p xs a.1)
  where
    chosen : (b : Bool) → AllByRecursion P (filter p xs) → AllByRecursion P (if b then x ∷ filter p xs else filter p xs)
    chosen true rest = (a.0, rest)
    chosen false rest = rest

all_to : (P Q : ℕ → Type 0) (each : (x : ℕ) → P x → Q x) (xs : List ℕ) → AllByRecursion P xs → AllByRecursion Q xs
all_to P Q each [] a = tt
all_to P Q each (x ∷ xs) a = (each x a.0, all_to P Q each xs a.1)

all_above : (n : ℕ) (xs : List ℕ) → AllByRecursion (λ y. n < y) (filter (λ m. nat_lt n m) xs)
all_above n [] = tt
all_above n (x ∷ xs) = chosen (nat_lt n x) refl (all_above n xs)
  where
    chosen : (b : Bool) → nat_lt n x ≡ b → AllByRecursion (λ y. n < y) (filter (λ m. nat_lt n m) xs) → AllByRecursion (λ y. n < y) (if b then x ∷ filter (λ m. nat_lt n m) xs else filter (λ m. nat_lt n m) xs)
    chosen true e rest = (ltb-true n x e, rest)
    chosen false e rest = rest

differ : (a b : ℕ) → a < b → nat_eq a b ≡ false
differ a b lt = grind (arith, nat_tests)

distinct_among : (p : ℕ → Bool) (xs : List ℕ) → IsDistinct nat_eq xs → IsDistinct nat_eq (filter p xs)
unfolding IsDistinct
distinct_among p [] d = tt
distinct_among p (x ∷ xs) d = chosen (p x) (distinct_among p xs d.1)
  where
    chosen : (b : Bool) → IsDistinct nat_eq (filter p xs) → IsDistinct nat_eq (if b then x ∷ filter p xs else filter p xs)
    chosen true rest = (all_among (λ y. nat_eq x y ≡ false) p xs d.0, rest)
    chosen false rest = rest

below_first : (n : ℕ) (xs ys : List ℕ) → IsDistinct nat_eq xs → IsDistinct nat_eq ys → AllByRecursion (λ y. n ≤ y) ys → IsDistinct nat_eq (filter (λ m. nat_lt m n) xs ++ ys)
unfolding IsDistinct
below_first n [] ys d e above = e
below_first n (x ∷ xs) ys d e above = chosen (nat_lt x n) refl (below_first n xs ys d.1 e above)
  where
    chosen : (b : Bool) → nat_lt x n ≡ b → IsDistinct nat_eq (filter (λ m. nat_lt m n) xs ++ ys) → IsDistinct nat_eq ((if b then x ∷ filter (λ m. nat_lt m n) xs else filter (λ m. nat_lt m n) xs) ++ ys)
    chosen true lt rest =
        let less = ltb-true x n lt in
        (all_both (λ y. nat_eq x y ≡ false) (filter (λ m. nat_lt m n) xs) ys (all_among (λ y. nat_eq x y ≡ false) (λ m. nat_lt m n) xs d.0) (all_to (λ y. n ≤ y) (λ y. nat_eq x y ≡ false) (λ y le. differ x y (omega arith)) ys above), rest)
    chosen false lt rest = rest

with_distinct : (n : ℕ) (xs : List ℕ) → IsDistinct nat_eq xs → IsDistinct nat_eq (with_number n xs)
unfolding IsDistinct
with_distinct n xs d =
    below_first n xs (n ∷ filter (λ m. nat_lt n m) xs) d
    (all_to (λ y. n < y) (λ y. nat_eq n y ≡ false) (λ y lt. differ n y lt) (filter (λ m. nat_lt n m) xs) (all_above n xs), distinct_among (λ m. nat_lt n m) xs d)
    (omega arith, all_to (λ y. n < y) (λ y. n ≤ y) (λ y lt. omega arith) (filter (λ m. nat_lt n m) xs) (all_above n xs))

with_members : (size n : ℕ) (xs : List ℕ) → AreMembers size xs → n < size → AreMembers size (with_number n xs)
with_members size n xs a lt = record {
  below = all_both (λ j. j < size) (filter (λ m. nat_lt m n) xs) (n ∷ filter (λ m. nat_lt n m) xs) (all_among (λ j. j < size) (λ m. nat_lt m n) xs a.below) (lt, all_among (λ j. j < size) (λ m. nat_lt n m) xs a.below);
  once = with_distinct n xs a.once;
}

-- collected logs, one more of them
all_push : (P : ℕ → Type 0) (cs : List Collected) (c : Collected) → AllByRecursion P (map (λ d. d.from) cs) → P c.from → AllByRecursion P (map (λ d. d.from) (cs ++ c ∷ []))
all_push P [] c a p = (p, tt)
all_push P (d ∷ cs) c a p = (a.0, all_push P cs c a.1 p)

or_parts : (b c : Bool) → (b || c) ≡ false → (b ≡ false) × (c ≡ false)
or_parts false c e = (refl, e)
or_parts true c e = absurd cc

distinct_push : (cs : List Collected) (c : Collected) → IsDistinct nat_eq (map (λ d. d.from) cs) → list_any (λ d. nat_eq d.from c.from) cs ≡ false → IsDistinct nat_eq (map (λ d. d.from) (cs ++ c ∷ []))
unfolding IsDistinct
distinct_push [] c d none = (tt, tt)
distinct_push (x ∷ cs) c d none =
    let p = or_parts (nat_eq x.from c.from) (list_any (λ y. nat_eq y.from c.from) cs) none in
    (all_push (λ y. nat_eq x.from y ≡ false) cs c d.0 p.0, distinct_push cs c d.1 p.1)

pub entered_valid : (s : VrState) (view : ℕ) → IsValidState s → IsValidState (entered_view s view)
entered_valid s view v = record {
  log = v.log;
  group = v.group;
  member = v.member;
  commit = v.commit;
  acked = v.acked;
  votes = nobody s.controllers;
  collected = nobody s.controllers;
  responses = v.responses;
  base = v.base;
  supply = tt;
}

pub voted_valid : (s : VrState) (from : ℕ) → IsValidState s → from < s.controllers → IsValidState (voted s from)
voted_valid s from v lt = record {
  log = v.log;
  group = v.group;
  member = v.member;
  commit = v.commit;
  acked = v.acked;
  votes = with_members s.controllers from s.votes v.votes lt;
  collected = v.collected;
  responses = v.responses;
  base = v.base;
  supply = v.supply;
}

joined_valid : (s : VrState) (c : Collected) → IsValidState s → c.from < s.controllers → has_collected s c.from ≡ false → IsValidState (record s { collected = s.collected ++ c ∷ [] })
joined_valid s c v lt none = record {
  log = v.log;
  group = v.group;
  member = v.member;
  commit = v.commit;
  acked = v.acked;
  votes = v.votes;
  collected = record { below = all_push (λ j. j < s.controllers) s.collected c v.collected.below lt; once = distinct_push s.collected c v.collected.once none };
  responses = v.responses;
  base = v.base;
  supply = v.supply;
}

pub collects_valid : (s : VrState) (c : Collected) → IsValidState s → c.from < s.controllers → IsValidState (collects s c)
collects_valid s c v lt = chosen (has_collected s c.from) refl
  where
    chosen : (b : Bool) → has_collected s c.from ≡ b → IsValidState (if b then s else record s { collected = s.collected ++ c ∷ [] })
    chosen true e = v
    chosen false e = joined_valid s c v lt e

sent_valid : (s : VrState) → IsValidState s → IsValidState (record s { sent = true })
sent_valid s v = record {
  log = v.log;
  group = v.group;
  member = v.member;
  commit = v.commit;
  acked = v.acked;
  votes = v.votes;
  collected = v.collected;
  responses = v.responses;
  base = v.base;
  supply = v.supply;
}

votes_valid : (s : VrState) → IsValidState s → IsValidState (votes s).state
votes_valid s v =
    either IsValidState (nat_le (most_failures s) (length s.votes) && not s.sent) (sends_log s) (quiet s)
    (either IsValidState (is_primary s) _ _ (sent_valid (collects s (own_log s)) (collects_valid s (own_log s) v v.member)) (sent_valid s v)) v

-- the least commit number is at most the others
least_best : (least : ℕ) (best : Collected) (cs : List Collected) → least ≤ best.commit → least_commit least cs ≤ (best_of best cs).commit
least_best least best [] le = le
least_best least best (d ∷ cs) le = least_best (min least d.commit) (if is_better d best then d else best) cs (chosen (is_better d best))
  where
    chosen : (b : Bool) → min least d.commit ≤ (if b then d else best).commit
    chosen true = omega arith
    chosen false = omega arith

least_most : (least most : ℕ) (cs : List Collected) → least ≤ most → least_commit least cs ≤ greatest_commit most cs
least_most least most [] le = le
least_most least most (d ∷ cs) le = least_most (min least d.commit) (max most d.commit) cs (omega arith)

-- what a step leaves is valid, where its log is one and reaches the commit number
abbrev Passes : VrState → Type 0
Passes t = Sound t t → IsValidState t

started_passes : (s : VrState) (c : Collected) (cs : List Collected) → IsValidState s → reaches s (best_of c cs) ≡ true → Passes (starts s c cs).state
started_passes s c cs v far sound =
    let log : List Entry = take (best_of c cs).commit (front s) ++ (best_of c cs).log in
    let reach = leb-true (best_of c cs).commit (length (front s)) far in
    let long : length log ≡ (best_of c cs).commit + length (best_of c cs).log = length-append (take (best_of c cs).commit (front s)) (best_of c cs).log ∙ rw (length-take-le (best_of c cs).commit (front s) reach) refl in
    let low = least_best c.commit c cs (omega arith) in
    record {
      log = sound.log;
      group = v.group;
      member = v.member;
      commit = sound.commit;
      acked = length-replicate {A = ℕ} s.controllers 0;
      votes = v.votes;
      collected = v.collected;
      responses = v.responses;
      base = chosen (nat_eq (most_failures s) 0) (least_commit c.commit cs) (length log) (greatest_commit c.commit cs) (omega (arith, long, low)) (least_most c.commit c.commit cs (omega arith));
      supply = tt;
    }
  where
    chosen : (b : Bool) (n x y : ℕ) → n ≤ x → n ≤ y → n ≤ (if b then x else y)
    chosen true n x y p q = p
    chosen false n x y p q = q

chooses_from_passes : (s : VrState) (cs : List Collected) → IsValidState s → Passes (chooses_from s cs).state
chooses_from_passes s [] v = λ sound. v
chooses_from_passes s (c ∷ cs) v = chosen_by Passes (reaches s (best_of c cs)) (starts s c cs) _ (λ e. started_passes s c cs v e) (λ e sound. v)

check_passes : (s : VrState) → IsValidState s → Passes (check s).state
check_passes s v =
    let t = votes_valid s v in
    either Passes (may_choose (votes s).state) (chooses_from (votes s).state (votes s).state.collected) (quiet (votes s).state) (chooses_from_passes (votes s).state (votes s).state.collected t) (λ sound. t)

-- a guarded step that ends in Check
check_valid : (s t : VrState) (step : VrStep) → IsValidState s → IsValidState t → step.state ≡ (check t).state → IsValidState (guarded s step).state
check_valid s t step v w is = guarded_valid s step v (λ sound. subst (λ (x : VrState). IsValidState x) (sym is) (check_passes t w (rw (sym is) (record { log = sound.log; commit = sound.commit }))))

pub enters_valid : (s : VrState) (view : ℕ) → IsValidState s → IsValidState (guarded s (enters s view)).state
enters_valid s view v = check_valid s (entered_view s view) (enters s view) v (entered_valid s view v) refl

other_below : (s : VrState) (from : ℕ) → is_other s from ≡ true → from < s.controllers
other_below s from h = ltb-true from s.controllers (and_parts (nat_lt from s.controllers) (not (nat_eq from s.me)) h).0

pub vote_later_valid : (s : VrState) (from view : ℕ) → IsValidState s → is_other s from ≡ true → IsValidState (vote_later s from view).state
vote_later_valid s from view v other =
    check_valid s (voted (entered_view s view) from) _ v (voted_valid (entered_view s view) from (entered_valid s view v) (other_below s from other)) refl

pub vote_here_valid : (s : VrState) (from : ℕ) → IsValidState s → is_other s from ≡ true → IsValidState (vote_here s from).state
vote_here_valid s from v other =
    either IsValidState (is_changing s) _ _ (check_valid s (voted s from) (check (voted s from)) v (voted_valid s from v (other_below s from other)) refl) (either IsValidState (leads s) _ _ v v)

pub do_view_change_valid : (s : VrState) (from view normal commit : ℕ) (log : List Entry) → IsValidState s → IsValidState (do_view_change s from view normal commit log).state
do_view_change_valid s from view normal commit log v =
    chosen_by IsValidState (is_other s from) _ _
    (λ other.
    let lt = other_below s from other in
    let c : Collected = record { from = from; normal = normal; commit = commit; log = log } in
    either IsValidState (is_primary_of s s.me view) (collect s view c) (quiet s)
    (either IsValidState (is_later s view) (collect_later s view c) _
    (check_valid s (collects (entered_view s view) c) _ v (collects_valid (entered_view s view) c (entered_valid s view v) lt) refl)
    (either IsValidState (nat_eq view s.view && is_changing s) (guarded s (check (collects s c))) (quiet s) (check_valid s (collects s c) (check (collects s c)) v (collects_valid s c v lt) refl) v))
    v)
    (λ no. v)

adopted_passes : (s : VrState) (view first commit : ℕ) (log : List Entry) → IsValidState s → Passes (adopted_log s view first commit log)
adopted_passes s view first commit log v sound = record {
  log = sound.log;
  group = v.group;
  member = v.member;
  commit = sound.commit;
  acked = v.acked;
  votes = v.votes;
  collected = v.collected;
  responses = v.responses;
  base = let b = v.base in omega arith;
  supply = tt;
}

pub adopt_passes : (s : VrState) (view first commit : ℕ) (log : List Entry) → IsValidState s → Passes (adopt s view first commit log).state
adopt_passes s view first commit log v = either Passes (nat_lt s.commit first) _ (adopts s view first commit log) (λ sound. v) (adopted_passes s view first commit log v)

pub adopt_valid : (s : VrState) (view first commit : ℕ) (log : List Entry) → IsValidState s → IsValidState (guarded s (adopt s view first commit log)).state
adopt_valid s view first commit log v =
    guarded_valid s (adopt s view first commit log) v (λ sound. adopt_passes s view first commit log v (record { log = sound.log; commit = sound.commit }))

supplied_valid : (s : VrState) (first : ℕ) (log : List Entry) → IsValidState s → first ≤ s.commit → IsValidState (supplied s first log)
supplied_valid s first log v le = record {
  log = v.log;
  group = v.group;
  member = v.member;
  commit = v.commit;
  acked = v.acked;
  votes = v.votes;
  collected = v.collected;
  responses = v.responses;
  base = v.base;
  supply = le;
}

wanted_first : (s : VrState) (view first : ℕ) (log : List Entry) → is_message_wanted s view first log ≡ true → first ≤ s.commit
wanted_first s view first log h = grind (arith, nat_tests)

pub wanted_valid : (s : VrState) (view first : ℕ) (log : List Entry) → IsValidState s → is_message_wanted s view first log ≡ true → IsValidState (guarded s (check (supplied s first log))).state
wanted_valid s view first log v wanted =
    check_valid s (supplied s first log) (check (supplied s first log)) v (supplied_valid s first log v (wanted_first s view first log wanted)) refl

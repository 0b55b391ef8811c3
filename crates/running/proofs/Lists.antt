-- Lists, by number.
use Rattle.std.proofs.Common.{◌≡◌, ◌≤◌, ◌<◌, ℕ, ◌+◌, ◌-◌, zero, suc, List, [], ◌∷◌, ◌++◌, length, map, take, drop, refl, sym, ◌∙◌, ap, subst, arith, append_assoc, length-append}
use Rattle.std.specs.Prelude.{Some, All, Contains, slice_get, slice_index_or}
use Rattle.std.specs.List.{zip}
use Rattle.group_controller.specs.Turns.{Controlling}
use Rattle.shared_wire.specs.Places.{PlaceState}
use Rattle.running.specs.declared.seated.Served.{Served}
use Rattle.running.specs.declared.task.Task.{Task}
use Rattle.running.specs.Runs.{seated, served, task_of}
use Rattle.std.proofs.lemmas.List.{append-nil, map-append}
use Rattle.std.proofs.lemmas.Option.{get_or_from_slice_get, slice_get-get_or, slice_get_within}

pub got_map : {X Y : Type 0} (f : X → Y) (xs : List X) (i : ℕ) (x : X) → slice_get xs i ≡ Some x → slice_get (map f xs) i ≡ Some (f x)
got_map f [] i x found = cc
got_map f (y ∷ xs) zero x found = let same : y ≡ x = cc in ap (λ z. Some (f z)) same
got_map f (y ∷ xs) (suc i) x found = got_map f xs i x found

pub map_long : {X Y : Type 0} (f : X → Y) (xs : List X) → length (map f xs) ≡ length xs
map_long f [] = refl
map_long f (x ∷ xs) = ap suc (map_long f xs)

-- what stands behind a list
pub got_behind : {X : Type 0} (xs ys : List X) (i j : ℕ) → j ≡ length xs + i → slice_get (xs ++ ys) j ≡ slice_get ys i
got_behind [] ys i j is = ap (slice_get ys) (omega (arith, is))
got_behind (x ∷ xs) ys i zero is = absurd (omega (arith, is))
got_behind (x ∷ xs) ys i (suc j) is = got_behind xs ys i j (omega (arith, is))

-- lists that are the same behind a place
got_dropped : {X : Type 0} (n : ℕ) (xs : List X) (i : ℕ) → n ≤ i → slice_get xs i ≡ slice_get (drop n xs) (i - n)
got_dropped zero xs i past = ap (slice_get xs) (omega arith)
got_dropped (suc n) xs zero past = absurd (omega (arith, past))
got_dropped (suc n) [] (suc i) past = refl
got_dropped (suc n) (x ∷ xs) (suc i) past = got_dropped n xs i (omega (arith, past)) ∙ ap (slice_get (drop n xs)) (omega arith)

pub same_behind : {X : Type 0} (n : ℕ) (xs ys : List X) → drop n xs ≡ drop n ys → (i : ℕ) → n ≤ i → slice_get xs i ≡ slice_get ys i
same_behind n xs ys same i past = got_dropped n xs i past ∙ ap (λ l. slice_get l (i - n)) same ∙ sym (got_dropped n ys i past)

-- pairs
pub got_zip : {X Y : Type 0} (xs : List X) (ys : List Y) (i : ℕ) (x : X) (y : Y) → slice_get xs i ≡ Some x → slice_get ys i ≡ Some y → slice_get (zip xs ys) i ≡ Some (x, y)
got_zip [] ys i x y first second = cc
got_zip (a ∷ xs) [] i x y first second = cc
got_zip (a ∷ xs) (b ∷ ys) zero x y first second = let one : a ≡ x = cc in let two : b ≡ y = cc in rw (one, two) refl
got_zip (a ∷ xs) (b ∷ ys) (suc i) x y first second = got_zip xs ys i x y first second

pub zip_second : {X Y : Type 0} (xs : List X) (ys : List Y) → length ys ≤ length xs → length (zip xs ys) ≡ length ys
zip_second [] [] less = refl
zip_second [] (y ∷ ys) less = absurd (omega (arith, less))
zip_second (x ∷ xs) [] less = refl
zip_second (x ∷ xs) (y ∷ ys) less = ap suc (zip_second xs ys (omega (arith, less)))

pub zip_first : {X Y : Type 0} (xs : List X) (ys : List Y) → length xs ≤ length ys → length (zip xs ys) ≡ length xs
zip_first [] ys less = refl
zip_first (x ∷ xs) [] less = absurd (omega (arith, less))
zip_first (x ∷ xs) (y ∷ ys) less = ap suc (zip_first xs ys (omega (arith, less)))

-- one pair more
pub zip_next : {X Y : Type 0} (xs rest : List X) (ys : List Y) (x : X) (y : Y) → drop (length ys) xs ≡ x ∷ rest → zip xs (ys ++ y ∷ []) ≡ zip xs ys ++ (x, y) ∷ []
zip_next [] rest [] x y left = cc
zip_next [] rest (b ∷ ys) x y left = cc
zip_next (a ∷ xs) rest [] x y left = let one : a ≡ x = cc in rw one (ends xs)
  where
    ends : (zs : List _) → ((x, y) ∷ zip zs []) ≡ (x, y) ∷ []
    ends [] = refl
    ends (z ∷ zs) = refl
zip_next (a ∷ xs) rest (b ∷ ys) x y left = ap (λ l. (a, b) ∷ l) (zip_next xs rest ys x y left)

pub zip_next_first : {X Y : Type 0} (xs : List X) (ys rest : List Y) (x : X) (y : Y) → drop (length xs) ys ≡ y ∷ rest → zip (xs ++ x ∷ []) ys ≡ zip xs ys ++ (x, y) ∷ []
zip_next_first [] [] rest x y left = cc
zip_next_first [] (b ∷ ys) rest x y left = let one : b ≡ y = cc in rw one refl
zip_next_first (a ∷ xs) [] rest x y left = cc
zip_next_first (a ∷ xs) (b ∷ ys) rest x y left = ap (λ l. (a, b) ∷ l) (zip_next_first xs ys rest x y left)

-- one less is left
one_less : {X : Type 0} (n : ℕ) (xs rest : List X) (x : X) → drop n xs ≡ x ∷ rest → rest ≡ drop (n + 1) xs
one_less zero [] rest x left = cc
one_less zero (y ∷ xs) rest x left = cc
one_less (suc n) [] rest x left = cc
one_less (suc n) (y ∷ xs) rest x left =
    let more : suc n + 1 ≡ suc (n + 1) = omega arith in
    one_less n xs rest x left ∙ sym (ap (λ k. drop k (y ∷ xs)) more)

pub drop_next : {X Y : Type 0} (ys : List Y) (xs rest : List X) (y : Y) (x : X) → x ∷ rest ≡ drop (length ys) xs → rest ≡ drop (length (ys ++ y ∷ [])) xs
drop_next ys xs rest y x left = one_less (length ys) xs rest x (sym left) ∙ ap (λ n. drop n xs) (sym (length-append ys (y ∷ [])))

-- players at their places: none, and one more
no_pairs : {X Y : Type 0} (xs : List X) → zip {X = Y} xs [] ≡ []
no_pairs [] = refl
no_pairs (x ∷ xs) = refl

pub nothing_seated : {B G P : Type 0} (tasks : List (Task B P G)) (places : List (PlaceState B)) → tasks ≡ tasks ++ seated places []
nothing_seated tasks places = sym (ap (λ (l : List _). tasks ++ map (λ x. task_of x.0 x.1) l) (no_pairs places) ∙ append-nil tasks)

pub seated_next : {B G P : Type 0} (tasks : List (Task B P G)) (places rest : List (PlaceState B)) (players : List P) (place : PlaceState B) (player : P) → place ∷ rest ≡ drop (length players) places →
    (tasks ++ seated places players) ++ task_of place player ∷ [] ≡ tasks ++ seated places (players ++ player ∷ [])
seated_next tasks places rest players place player left =
    append_assoc tasks (seated places players) (task_of place player ∷ []) ∙
    ap (λ l. tasks ++ l) (sym (ap (map (λ x. task_of x.0 x.1)) (zip_next places rest players place player (sym left)) ∙ map-append (λ x. task_of x.0 x.1) (zip places players) ((place, player) ∷ [])))

pub served_next : {A W : Type 0} (before : List (Served A W)) (stables rest : List W) (controllers : List (Controlling A)) (stable : W) (controller : Controlling A) → stable ∷ rest ≡ drop (length controllers) stables →
    (before ++ served controllers stables) ++ record { controller = controller; stable = stable } ∷ [] ≡ before ++ served (controllers ++ controller ∷ []) stables
served_next before stables rest controllers stable controller left =
    append_assoc before (served controllers stables) (record { controller = controller; stable = stable } ∷ []) ∙
    ap (λ l. before ++ l) (sym (ap (map (λ x. record { controller = x.0; stable = x.1 })) (zip_next_first controllers stables rest controller stable (sym left)) ∙
    map-append (λ x. record { controller = x.0; stable = x.1 }) (zip controllers stables) ((controller, stable) ∷ [])))

-- what is made of the end of a list
pub drop_mapped : {X Y : Type 0} (f : X → Y) (xs ys : List X) → drop (length xs) (map f (xs ++ ys)) ≡ map f ys
drop_mapped f [] ys = refl
drop_mapped f (x ∷ xs) ys = drop_mapped f xs ys

-- an element by number, where all are some way
pub at_number : {X : Type 0} (P : X → Type 0) (xs : List X) (i : ℕ) (x : X) → All P xs → slice_get xs i ≡ Some x → P x
at_number P xs i x all found = subst P (get_or_from_slice_get xs i x x found) (all i x (slice_get_within xs i x found))

pub by_number : {X : Type 0} (P : X → Type 0) (xs : List X) → ((i : ℕ) (x : X) → i < length xs → slice_get xs i ≡ Some x → P x) → All P xs
by_number P xs each i d there = each i (slice_index_or xs i d) there (slice_get-get_or xs i d there)

pub no_items : {X : Type 0} (len : ℕ) (xs : List X) → len ≡ length xs → len ≡ 0 → xs ≡ []
no_items len [] is none = refl
no_items len (x ∷ xs) is none = absurd (omega (arith, is, none))

-- behind a list that is empty
pub behind_none : {X : Type 0} (xs before after : List X) → xs ≡ before ++ after → before ≡ [] → xs ≡ after
behind_none xs before after is none = is ∙ ap (λ l. l ++ after) none

pub some_at : {X : Type 0} (xs : List X) (k : ℕ) → k < length xs → (x : X) × (slice_get xs k ≡ Some x)
some_at [] k less = absurd (omega (arith, less))
some_at (x ∷ xs) zero less = (x, refl)
some_at (x ∷ xs) (suc k) less = some_at xs k (omega (arith, less))

-- what is made of two lists is the same, if it is at each number
pub same_maps : {X Y : Type 0} (f : X → Y) (xs ys : List X) → length xs ≡ length ys → ((k : ℕ) (x y : X) → slice_get xs k ≡ Some x → slice_get ys k ≡ Some y → f y ≡ f x) → map f ys ≡ map f xs
same_maps f [] [] long each = refl
same_maps f [] (y ∷ ys) long each = absurd (omega (arith, long))
same_maps f (x ∷ xs) [] long each = absurd (omega (arith, long))
same_maps f (x ∷ xs) (y ∷ ys) long each =
    ap (λ z. z ∷ map f ys) (each 0 x y refl refl) ∙ ap (λ l. f x ∷ l) (same_maps f xs ys (omega (arith, long)) (λ k. each (suc k)))

pub take_and_drop : {X : Type 0} (n : ℕ) (xs : List X) → take n xs ++ drop n xs ≡ xs
take_and_drop zero [] = refl
take_and_drop zero (x ∷ xs) = refl
take_and_drop (suc n) [] = refl
take_and_drop (suc n) (x ∷ xs) = ap (λ l. x ∷ l) (take_and_drop n xs)

pub take_whole : {X : Type 0} (n : ℕ) (xs : List X) → length xs ≤ n → take n xs ≡ xs
take_whole zero [] less = refl
take_whole (suc n) [] less = refl
take_whole zero (x ∷ xs) less = absurd (omega (arith, less))
take_whole (suc n) (x ∷ xs) less = ap (λ l. x ∷ l) (take_whole n xs (omega (arith, less)))

pub contains_each : {X : Type 0} (xs ys : List X) → xs ≡ ys → All (Contains xs) ys
contains_each xs ys same k d less =
    let s = some_at ys k less in
    let at = get_or_from_slice_get ys k s.0 d s.1 in
    let x = slice_index_or ys k d in
    (k, subst (λ (l : List _). k < length l) (sym same) less, get_or_from_slice_get xs k s.0 x (ap (λ l. slice_get l k) same ∙ s.1) ∙ sym at)

pub drop_long : {X : Type 0} (n : ℕ) (xs : List X) → n ≤ length xs → length (drop n xs) + n ≡ length xs
drop_long zero [] less = refl
drop_long zero (x ∷ xs) less = omega arith
drop_long (suc n) [] less = absurd (omega (arith, less))
drop_long (suc n) (x ∷ xs) less = let rest = drop_long n xs (omega (arith, less)) in omega (arith, rest)

pub served_long : {A W : Type 0} (controllers : List (Controlling A)) (stables : List W) → length controllers ≤ length stables → length (served controllers stables) ≡ length controllers
served_long {A = A} {W = W} controllers stables enough =
    map_long {Y = Served A W} (λ x. record { controller = x.0; stable = x.1 }) (zip controllers stables) ∙ zip_first controllers stables enough

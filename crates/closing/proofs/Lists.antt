-- Lists of controllers' states, and who of them takes part.
use Rattle.std.proofs.Common.{◌≡◌, ◌≤◌, ◌<◌, ℕ, ◌+◌, Bool, true, false, not, List, [], ◌∷◌, ◌++◌, length, map, drop, zero, suc, refl, sym, ◌∙◌, ap, subst, arith, append_assoc, append-nil}
use Rattle.std.proofs.Math.Seq.{drop-cons}
use Rattle.std.specs.Prelude.{get_or, max, nat_eq, ◌||◌, filter, take, slice_get, Some, if◌then◌else◌}
use Rattle.std.specs.List.{list_any, range_with_len}
use Rattle.std.proofs.lemmas.Bool.{eqb-true, eq-eqb}
use Rattle.vr_log.specs.Members.{is_up}
use Rattle.group_controller.specs.State.{ControllerState}
use Rattle.run_spec.specs.Committed.{members_up}
use Rattle.run_spec.specs.Closing.{bound_of, quorum_of}
use Rattle.closing_laws.specs.Quorum.{has}
use Rattle.closing.specs.Closing.{bound_with, member_in}

-- what is behind a place begins with what is there
pub drop_next : {X : Type 0} (xs : List X) (i : ℕ) (x : X) → slice_get xs i ≡ Some x → drop i xs ≡ x ∷ drop (suc i) xs
drop_next [] i x found = cc
drop_next (y ∷ xs) zero x found = cc
drop_next (y ∷ xs) (suc i) x found = drop_next xs i x found

pub drop_at : (xs : List ℕ) (i : ℕ) → i < length xs → drop i xs ≡ get_or xs i 0 ∷ drop (i + 1) xs
drop_at xs i within = drop-cons xs i 0 within ∙ ap (λ n. get_or xs i 0 ∷ drop n xs) (plus i)
  where
    plus : (n : ℕ) → suc n ≡ n + 1
    plus n = omega arith

-- a function of numbers and one of elements give one list
pub map_range : {X Y : Type 0} (f : ℕ → Y) (g : X → Y) (xs : List X) (k : ℕ) → ((i : ℕ) (x : X) → slice_get xs i ≡ Some x → f (k + i) ≡ g x) →
    map f (range_with_len k (length xs)) ≡ map g xs
map_range f g [] k same = refl
map_range f g (x ∷ xs) k same =
    let first : f k ≡ g x = ap f (sym (plus_zero k)) ∙ same zero x refl in
    let rest = map_range f g xs (k + 1) (λ i y found. ap f (plus_one k i) ∙ same (suc i) y found) in
    rw (first, rest) refl
  where
    plus_zero : (n : ℕ) → n + 0 ≡ n
    plus_zero n = omega arith

    plus_one : (n i : ℕ) → (n + 1) + i ≡ n + suc i
    plus_one n i = omega arith

-- two lists of states in which the same take part
pub members_same : (f g : ℕ → ControllerState) (k n : ℕ) → ((i : ℕ) → k ≤ i → i < k + n → (is_up (f i).vr ≡ is_up (g i).vr) × ((f i).vr.me ≡ (g i).vr.me)) →
    members_up (map f (range_with_len k n)) ≡ members_up (map g (range_with_len k n))
members_same f g k zero same = refl
members_same f g k (suc n) same =
    let here = same k (omega arith) (omega arith) in
    let rest = members_same f g (k + 1) n (λ i low high. same i (omega (arith, low)) (omega (arith, high))) in
    rw (here.0, here.1, rest) refl

-- and in which no more do
one_fewer : (a b : Bool) (m n : ℕ) (xs ys : List ℕ) → (b ≡ true → a ≡ true) → length ys ≤ length xs → length (if b then n ∷ ys else ys) ≤ length (if a then m ∷ xs else xs)
one_fewer true true m n xs ys each less = omega (arith, less)
one_fewer true false m n xs ys each less = omega (arith, less)
one_fewer false true m n xs ys each less = absurd (differ (each refl))
  where
    differ : false ≡ true → ⊥
    differ h = cc
one_fewer false false m n xs ys each less = less

pub members_fewer : (f g : ℕ → ControllerState) (k n : ℕ) → ((i : ℕ) → k ≤ i → i < k + n → is_up (g i).vr ≡ true → is_up (f i).vr ≡ true) →
    length (members_up (map g (range_with_len k n))) ≤ length (members_up (map f (range_with_len k n)))
members_fewer f g k zero each = omega arith
members_fewer f g k (suc n) each =
    one_fewer (is_up (f k).vr) (is_up (g k).vr) (f k).vr.me (g k).vr.me _ _ (each k (omega arith) (omega arith))
    (members_fewer f g (k + 1) n (λ i low high up. each i (omega (arith, low)) (omega (arith, high)) up))

one_less : (a b : Bool) (m n : ℕ) (xs ys : List ℕ) → (b ≡ true → a ≡ true) → length ys < length xs → length (if b then n ∷ ys else ys) < length (if a then m ∷ xs else xs)
one_less true true m n xs ys each less = omega (arith, less)
one_less true false m n xs ys each less = omega (arith, less)
one_less false true m n xs ys each less = absurd (differ (each refl))
  where
    differ : false ≡ true → ⊥
    differ h = cc
one_less false false m n xs ys each less = less

here_less : (a b : Bool) (m n : ℕ) (xs ys : List ℕ) → a ≡ true → b ≡ false → length ys ≤ length xs → length (if b then n ∷ ys else ys) < length (if a then m ∷ xs else xs)
here_less true true m n xs ys first next less = cc
here_less true false m n xs ys first next less = omega (arith, less)
here_less false b m n xs ys first next less = cc

-- and in which one does no more
pub members_less : (f g : ℕ → ControllerState) (k n c : ℕ) → ((i : ℕ) → k ≤ i → i < k + n → is_up (g i).vr ≡ true → is_up (f i).vr ≡ true) →
    k ≤ c → c < k + n → is_up (f c).vr ≡ true → is_up (g c).vr ≡ false →
    length (members_up (map g (range_with_len k n))) < length (members_up (map f (range_with_len k n)))
members_less f g k zero c each low high was is = absurd (omega (arith, low, high))
members_less f g k (suc n) c each low high was is =
    by_place (nat_eq k c) refl (members_fewer f g (k + 1) n (λ i above below up. each i (omega (arith, above)) (omega (arith, below)) up))
    (λ past. members_less f g (k + 1) n c (λ i above below up. each i (omega (arith, above)) (omega (arith, below)) up) past (omega (arith, high)) was is)
  where
    differ : false ≡ true → ⊥
    differ e = cc

    later : (k ≡ c → ⊥) → k + 1 ≤ c
    later other = omega (arith, low, other)

    by_place : (b : Bool) → nat_eq k c ≡ b → length (members_up (map g (range_with_len (k + 1) n))) ≤ length (members_up (map f (range_with_len (k + 1) n))) →
        (k + 1 ≤ c → length (members_up (map g (range_with_len (k + 1) n))) < length (members_up (map f (range_with_len (k + 1) n)))) →
        length (members_up (map g (range_with_len k (suc n)))) < length (members_up (map f (range_with_len k (suc n))))
    by_place true h others rest =
        let same = eqb-true k c h in
        here_less (is_up (f k).vr) (is_up (g k).vr) (f k).vr.me (g k).vr.me _ _ (rw same was) (rw same is) others
    by_place false h others rest =
        one_less (is_up (f k).vr) (is_up (g k).vr) (f k).vr.me (g k).vr.me _ _ (each k (omega arith) (omega arith)) (rest (later (λ e. differ (sym h ∙ eq-eqb k c e))))

-- one that takes part is one of the group, and takes part
pub member_there : (f : ℕ → ControllerState) (k n c : ℕ) → ((i : ℕ) → k ≤ i → i < k + n → (f i).vr.me ≡ i) → has (members_up (map f (range_with_len k n))) c ≡ true →
    (c < k + n) × (is_up (f c).vr ≡ true)
member_there f k zero c names found = cc
member_there f k (suc n) c names found = by_up (λ h. member_there f (k + 1) n c (λ i low high. names i (omega (arith, low)) (omega (arith, high))) h) (is_up (f k).vr) refl
  where
    Rest : Type 0
    Rest = has (members_up (map f (range_with_len (k + 1) n))) c ≡ true → (c < (k + 1) + n) × (is_up (f c).vr ≡ true)

    next : Rest → has (members_up (map f (range_with_len (k + 1) n))) c ≡ true → (c < k + suc n) × (is_up (f c).vr ≡ true)
    next rest h = let r = rest h in let less = r.0 in (omega (arith, less), r.1)

    first : is_up (f k).vr ≡ true → k ≡ c → (c < k + suc n) × (is_up (f c).vr ≡ true)
    first up same = (omega (arith, same), subst (λ (i : ℕ). is_up (f i).vr ≡ true) same up)

    by_name : Rest → is_up (f k).vr ≡ true → (b : Bool) → nat_eq (f k).vr.me c ≡ b → has ((f k).vr.me ∷ members_up (map f (range_with_len (k + 1) n))) c ≡ true → (c < k + suc n) × (is_up (f c).vr ≡ true)
    by_name rest up true is h = first up (sym (names k (omega arith) (omega arith)) ∙ eqb-true (f k).vr.me c is)
    by_name rest up false is h = next rest (rw is at h)

    by_up : Rest → (b : Bool) → is_up (f k).vr ≡ b → (c < k + suc n) × (is_up (f c).vr ≡ true)
    by_up rest true is = by_name rest is (nat_eq (f k).vr.me c) refl (rw is at found)
    by_up rest false is = next rest (rw is at found)

-- what is in a list that was filtered is in the list
pub has_filtered : (test : ℕ → Bool) (xs : List ℕ) (c : ℕ) → has (filter test xs) c ≡ true → has xs c ≡ true
has_filtered test [] c found = found
has_filtered test (x ∷ xs) c found = by_test (λ h. has_filtered test xs c h) (test x) refl
  where
    any : (a b : Bool) → b ≡ true → (a || b) ≡ true
    any true b h = refl
    any false b h = h

    both : (a b d : Bool) → (b ≡ true → d ≡ true) → (a || b) ≡ true → (a || d) ≡ true
    both true b d step h = refl
    both false b d step h = step h

    by_test : (has (filter test xs) c ≡ true → has xs c ≡ true) → (b : Bool) → test x ≡ b → has (x ∷ xs) c ≡ true
    by_test rest true is = both (nat_eq x c) (has (filter test xs) c) (has xs c) rest (rw is at found)
    by_test rest false is = any (nat_eq x c) (has xs c) (rest (rw is at found))

-- those of a quorum take part
pub quorum_up : (primary others : ℕ) (up : List ℕ) (c : ℕ) → has (quorum_of primary others up) c ≡ true → has up c ≡ true
quorum_up primary others up c found =
    has_filtered (λ d. nat_eq d primary || list_any (λ o. nat_eq o d) (take others (filter (λ o. not (nat_eq o primary)) up))) up c found

pub has_at : (xs : List ℕ) (i c : ℕ) → slice_get xs i ≡ Some c → has xs c ≡ true
has_at [] i c found = cc
has_at (x ∷ xs) zero c found = rw (eq-eqb x c (one found)) refl
  where
    one : Some x ≡ Some c → x ≡ c
    one h = cc
has_at (x ∷ xs) (suc i) c found = any (nat_eq x c) (has xs c) (has_at xs i c found)
  where
    any : (a b : Bool) → b ≡ true → (a || b) ≡ true
    any true b h = refl
    any false b h = h

-- the bound of states, one after another
pub bound_next : (bound i : ℕ) (cs : List ControllerState) (c : ControllerState) → slice_get cs i ≡ Some c →
    max (bound_with bound c) (bound_of (drop (i + 1) cs)) ≡ max bound (bound_of (drop i cs))
bound_next bound i cs c found =
    let plus : i + 1 ≡ suc i = omega arith in
    ap (λ n. max (bound_with bound c) (bound_of (drop n cs))) plus ∙ by_up (is_up c.vr) refl ∙ ap (λ l. max bound (bound_of l)) (sym (drop_next cs i c found))
  where
    max_assoc : (a b d : ℕ) → max (max a b) d ≡ max a (max b d)
    max_assoc a b d = omega arith

    by_up : (b : Bool) → is_up c.vr ≡ b → max (bound_with bound c) (bound_of (drop (suc i) cs)) ≡ max bound (bound_of (c ∷ drop (suc i) cs))
    by_up true is = rw is (max_assoc bound (suc (max c.vr.view c.vr.promise)) (bound_of (drop (suc i) cs)))
    by_up false is = rw is refl

-- and who takes part
pub members_next : (up : List ℕ) (i : ℕ) (cs : List ControllerState) (c : ControllerState) → slice_get cs i ≡ Some c →
    (up ++ member_in c) ++ members_up (drop (i + 1) cs) ≡ up ++ members_up (drop i cs)
members_next up i cs c found =
    let plus : i + 1 ≡ suc i = omega arith in
    ap (λ n. (up ++ member_in c) ++ members_up (drop n cs)) plus ∙ by_up (is_up c.vr) refl ∙ ap (λ l. up ++ members_up l) (sym (drop_next cs i c found))
  where
    by_up : (b : Bool) → is_up c.vr ≡ b → (up ++ member_in c) ++ members_up (drop (suc i) cs) ≡ up ++ members_up (c ∷ drop (suc i) cs)
    by_up true is = rw is (append_assoc up (c.vr.me ∷ []) (members_up (drop (suc i) cs)))
    by_up false is = rw is (ap (λ l. l ++ members_up (drop (suc i) cs)) (append-nil up))

-- the bound is not above a limit
pub bound_limit : (limit : ℕ) (cs : List ControllerState) → ((i : ℕ) (c : ControllerState) → slice_get cs i ≡ Some c → (c.vr.view ≤ limit) × (c.vr.promise ≤ limit)) → bound_of cs ≤ limit + 1
bound_limit limit [] each = omega arith
bound_limit limit (c ∷ cs) each = by_up (bound_limit limit cs (λ i d found. each (suc i) d found)) (is_up c.vr) refl
  where
    least : (v p b : ℕ) → v ≤ limit → p ≤ limit → b ≤ limit + 1 → max (suc (max v p)) b ≤ limit + 1
    least v p b h k l = omega (arith, h, k, l)

    by_up : bound_of cs ≤ limit + 1 → (b : Bool) → is_up c.vr ≡ b → bound_of (c ∷ cs) ≤ limit + 1
    by_up rest true is = rw is (least c.vr.view c.vr.promise (bound_of cs) (each zero c refl).0 (each zero c refl).1 rest)
    by_up rest false is = rw is rest

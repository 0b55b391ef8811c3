-- The places of a list at which it is true.
use Rattle.std.proofs.Common.{◌≡◌, ℕ, ◌+◌, ◌<◌, ◌≤◌, ◌≢◌, Bool, true, false, not, List, [], ◌∷◌, ◌++◌, length, drop, set, get_or, inl, inr, refl, ap, sym, ◌∙◌, arith, suc, zero}
use Rattle.std.specs.Prelude.{nat_eq, nat_lt, filter, if◌then◌else◌, ◌||◌}
use Rattle.std.specs.List.{list_any}
use Rattle.std.proofs.lemmas.Bool.{lt-ltb, le-ltb, eq-eqb, ne_eqb, cases_order}
use Rattle.std.proofs.lemmas.List.{append_assoc, append-nil, drop_more, drop_all}
use Rattle.of_types.specs.SmallSets.{places_from, with_number, without_number, AscendWithin}

-- places past a number are above it
above-kept : (n first : ℕ) (bs : List Bool) → n < first → filter (λ m. nat_lt n m) (places_from first bs) ≡ places_from first bs
unfolding places_from
above-kept n first [] h = refl
above-kept n first (true ∷ bs) h = rw (lt-ltb n first h, above-kept n (first + 1) bs (omega arith)) refl
above-kept n first (false ∷ bs) h = above-kept n (first + 1) bs (omega arith)

-- none of them is below it
above-gone : (n first : ℕ) (bs : List Bool) → n ≤ first → filter (λ m. nat_lt m n) (places_from first bs) ≡ []
unfolding places_from
above-gone n first [] h = refl
above-gone n first (true ∷ bs) h = rw (le-ltb first n h) (above-gone n (first + 1) bs (omega arith))
above-gone n first (false ∷ bs) h = above-gone n (first + 1) bs (omega arith)

-- and none is it
above-others : (n first : ℕ) (bs : List Bool) → n < first → filter (λ m. not (nat_eq m n)) (places_from first bs) ≡ places_from first bs
unfolding places_from
above-others n first [] h = refl
above-others n first (true ∷ bs) h =
    let apart : first ≢ n = omega arith in rw (ne_eqb first n apart, above-others n (first + 1) bs (omega arith)) refl
above-others n first (false ∷ bs) h = above-others n (first + 1) bs (omega arith)

above-none : (n first : ℕ) (bs : List Bool) → n < first → list_any (λ m. nat_eq m n) (places_from first bs) ≡ false
unfolding places_from
above-none n first [] h = refl
above-none n first (true ∷ bs) h =
    let apart : first ≢ n = omega arith in rw (ne_eqb first n apart) (above-none n (first + 1) bs (omega arith))
above-none n first (false ∷ bs) h = above-none n (first + 1) bs (omega arith)

-- the first place
front : (first n : ℕ) (bs : List Bool) → first ≡ n → first ∷ places_from (first + 1) bs ≡ n ∷ places_from (first + 1) bs
front first n bs e = ap (λ (m : ℕ). m ∷ places_from (first + 1) bs) e

-- a place that becomes true joins
pub places-insert : (n first i : ℕ) (bs : List Bool) → n ≡ first + i → i < length bs → places_from first (set bs i true) ≡ with_number n (places_from first bs)
unfolding places_from
places-insert n first i [] e h = absurd (omega (arith, h))
places-insert n first zero (true ∷ bs) e h =
    rw (le-ltb first n (omega arith), le-ltb n first (omega arith), above-gone n (first + 1) bs (omega arith), above-kept n (first + 1) bs (omega arith)) (front first n bs (omega arith))
places-insert n first zero (false ∷ bs) e h =
    rw (above-gone n (first + 1) bs (omega arith), above-kept n (first + 1) bs (omega arith)) (front first n bs (omega arith))
places-insert n first (suc i) (true ∷ bs) e h =
    rw (lt-ltb first n (omega arith), le-ltb n first (omega arith)) (ap (λ (ms : List ℕ). first ∷ ms) (places-insert n (first + 1) i bs (omega arith) (omega arith)))
places-insert n first (suc i) (false ∷ bs) e h = places-insert n (first + 1) i bs (omega arith) (omega arith)

-- one that becomes false leaves
pub places-remove : (n first i : ℕ) (bs : List Bool) → n ≡ first + i → i < length bs → places_from first (set bs i false) ≡ without_number n (places_from first bs)
unfolding places_from
places-remove n first i [] e h = absurd (omega (arith, h))
places-remove n first zero (true ∷ bs) e h =
    rw (eq-eqb first n (omega arith), above-others n (first + 1) bs (omega arith)) refl
places-remove n first zero (false ∷ bs) e h =
    sym (above-others n (first + 1) bs (omega arith))
places-remove n first (suc i) (true ∷ bs) e h =
    let apart : first ≢ n = omega arith in
    rw (ne_eqb first n apart) (ap (λ (ms : List ℕ). first ∷ ms) (places-remove n (first + 1) i bs (omega arith) (omega arith)))
places-remove n first (suc i) (false ∷ bs) e h = places-remove n (first + 1) i bs (omega arith) (omega arith)

-- a place is among them where it is true
pub places-any : (n first i : ℕ) (bs : List Bool) → n ≡ first + i → i < length bs → get_or bs i false ≡ list_any (λ m. nat_eq m n) (places_from first bs)
unfolding places_from
places-any n first i [] e h = absurd (omega (arith, h))
places-any n first zero (true ∷ bs) e h =
    rw (eq-eqb first n (omega arith)) refl
places-any n first zero (false ∷ bs) e h =
    sym (above-none n (first + 1) bs (omega arith))
places-any n first (suc i) (true ∷ bs) e h =
    let apart : first ≢ n = omega arith in rw (ne_eqb first n apart) (places-any n (first + 1) i bs (omega arith) (omega arith))
places-any n first (suc i) (false ∷ bs) e h = places-any n (first + 1) i bs (omega arith) (omega arith)

-- what is left begins with a place that is true
pub place-taken : (n : ℕ) (numbers : List ℕ) (bs : List Bool) → n < length bs → get_or bs n false ≡ true → numbers ++ n ∷ [] ++ places_from (n + 1) (drop (n + 1) bs) ≡ numbers ++ places_from n (drop n bs)
unfolding places_from
place-taken n numbers bs h e = rw (drop_more bs n false h, e) (append_assoc numbers (n ∷ []) (places_from (n + 1) (drop (n + 1) bs)))

-- or goes on behind one that is false
pub place-passed : (n : ℕ) (numbers : List ℕ) (bs : List Bool) → n < length bs → get_or bs n false ≡ false → numbers ++ places_from (n + 1) (drop (n + 1) bs) ≡ numbers ++ places_from n (drop n bs)
unfolding places_from
place-passed n numbers bs h e = rw (drop_more bs n false h, e) refl

-- none is behind the last
pub places-end : (n : ℕ) (numbers : List ℕ) (bs : List Bool) → length bs ≤ n → numbers ≡ numbers ++ places_from n (drop n bs)
unfolding places_from
places-end n numbers bs h = rw (drop_all n bs h, append-nil numbers) refl

-- they ascend, and stay within the list
pub places-ascend : (low first high : ℕ) (bs : List Bool) → low ≤ first → first + length bs ≤ high + 1 → AscendWithin low high (places_from first bs)
unfolding places_from
places-ascend low first high [] l h = tt
places-ascend low first high (true ∷ bs) l h = (l, omega (arith, h), places-ascend (first + 1) (first + 1) high bs (omega arith) (omega (arith, h)))
places-ascend low first high (false ∷ bs) l h = places-ascend low (first + 1) high bs (omega (arith, l)) (omega (arith, h))

-- ---- ascending numbers

-- a bound may be lowered
pub ascend-lower : (low low' high : ℕ) (ns : List ℕ) → low' ≤ low → AscendWithin low high ns → AscendWithin low' high ns
ascend-lower low low' high [] l a = tt
ascend-lower low low' high (n ∷ ns) l a = (omega (arith, l, a.0), a.1, a.2)

-- those that pass a test ascend too
ascend-filter : (p : ℕ → Bool) (low high : ℕ) (ns : List ℕ) → AscendWithin low high ns → AscendWithin low high (filter p ns)
ascend-filter p low high [] a = tt
ascend-filter p low high (n ∷ ns) a = by_test (p n) (ascend-filter p (n + 1) high ns a.2)
  where
    by_test : (b : Bool) → AscendWithin (n + 1) high (filter p ns) → AscendWithin low high (if b then n ∷ filter p ns else filter p ns)
    by_test true rest = (a.0, a.1, rest)
    by_test false rest = ascend-lower (n + 1) low high (filter p ns) (omega (arith, a.0)) rest

pub ascend-without : (n low high : ℕ) (ns : List ℕ) → AscendWithin low high ns → AscendWithin low high (without_number n ns)
ascend-without n low high ns a = ascend-filter (λ m. not (nat_eq m n)) low high ns a

-- none of those from a higher bound on is below a number, and each is above it
none_below : (n low high : ℕ) (ns : List ℕ) → n < low → AscendWithin low high ns → filter (λ m. nat_lt m n) ns ≡ []
none_below n low high [] l a = refl
none_below n low high (m ∷ ns) l a = rw (le-ltb m n (omega (arith, l, a.0))) (none_below n (m + 1) high ns (omega (arith, l, a.0)) a.2)

all_above : (n low high : ℕ) (ns : List ℕ) → n < low → AscendWithin low high ns → filter (λ m. nat_lt n m) ns ≡ ns
all_above n low high [] l a = refl
all_above n low high (m ∷ ns) l a =
    rw (lt-ltb n m (omega (arith, l, a.0))) (ap (λ (ms : List ℕ). m ∷ ms) (all_above n (m + 1) high ns (omega (arith, l, a.0)) a.2))

pub ascend-with : (n low high : ℕ) (ns : List ℕ) → low ≤ n → n ≤ high → AscendWithin low high ns → AscendWithin low high (with_number n ns)
ascend-with n low high [] l h a = (l, h, tt)
ascend-with n low high (m ∷ ns) l h a = elim (cases_order m n) [
  | inl same ↦
      rw (le-ltb m n (omega (arith, same)), le-ltb n m (omega (arith, same)), none_below n (m + 1) high ns (omega (arith, same)) a.2, all_above n (m + 1) high ns (omega (arith, same)) a.2)
      (l, h, ascend-lower (m + 1) (n + 1) high ns (omega (arith, same)) a.2)
  | inr (inl below) ↦
      rw (lt-ltb m n below, le-ltb n m (omega (arith, below))) (a.0, a.1, ascend-with n (m + 1) high ns (omega (arith, below)) h a.2)
  | inr (inr above) ↦
      rw (le-ltb m n (omega (arith, above)), lt-ltb n m above, none_below n (m + 1) high ns (omega (arith, above)) a.2, all_above n (m + 1) high ns (omega (arith, above)) a.2)
      (l, h, (omega (arith, above), a.1, a.2))
]

-- ---- whether there are any

-- a place, or one behind it
some-from : (n : ℕ) (bs : List Bool) → n < length bs → (get_or bs n false || nat_lt 0 (length (places_from (n + 1) (drop (n + 1) bs)))) ≡ nat_lt 0 (length (places_from n (drop n bs)))
unfolding places_from
some-from n bs h = by_member (get_or bs n false) refl
  where
    by_member : (member : Bool) → get_or bs n false ≡ member → (get_or bs n false || nat_lt 0 (length (places_from (n + 1) (drop (n + 1) bs)))) ≡ nat_lt 0 (length (places_from n (drop n bs)))
    by_member true e = rw (drop_more bs n false h, e, lt-ltb 0 (length (n ∷ places_from (n + 1) (drop (n + 1) bs))) (omega arith)) refl
    by_member false e = rw (drop_more bs n false h, e) refl

-- one was before a place, or is there or behind it
pub some-passed : (found : Bool) (n : ℕ) (bs : List Bool) (some : Bool) → n < length bs
    → (found || nat_lt 0 (length (places_from n (drop n bs)))) ≡ some
    → ((found || get_or bs n false) || nat_lt 0 (length (places_from (n + 1) (drop (n + 1) bs)))) ≡ some
some-passed true n bs some h e = e
some-passed false n bs some h e = some-from n bs h ∙ e

-- past the last, those are all that were found
pub some-found : (found : Bool) (n : ℕ) (bs : List Bool) (some : Bool) → length bs ≤ n
    → (found || nat_lt 0 (length (places_from n (drop n bs)))) ≡ some → not found ≡ not some
unfolding places_from
some-found true n bs some h e = ap not e
some-found false n bs some h e = ap not (sym ended ∙ e)
  where
    ended : nat_lt 0 (length (places_from n (drop n bs))) ≡ false
    ended = rw (drop_all n bs h) refl

-- How many members have promised no view above one: all of a quorum.
use Rattle.std.proofs.Common.{◌≡◌, ◌≤◌, ◌<◌, ℕ, zero, suc, ◌+◌, ◌*◌, ◌/◌, Bool, true, false, List, [], ◌∷◌, ◌++◌, length, refl, ◌∙◌, ap, arith, length-append}
use Rattle.std.specs.Prelude.{nat_le, filter, if◌then◌else◌}
use Rattle.std.proofs.lemmas.Bool.{ne_eqb, le-leb}
use Rattle.list_facts.proofs.Prefixes.{append_filter}
use Rattle.agreement.specs.Lists.{count_below}
use Rattle.vr_log.specs.Members.{others_below}
use Rattle.closing_laws.specs.Quorum.{has}
use Rattle.closing_laws.proofs.Lists.Picked.{IsPicked}

-- the next member of a range
others_next : (n k : ℕ) → k < n → others_below n (suc k) ≡ others_below n k ++ k ∷ []
others_next n k less = ap (λ (b : Bool). if b then others_below n k else others_below n k ++ k ∷ []) (ne_eqb k n (λ e. omega (arith, e, less)))

one_more : (count few : ℕ) (b c : Bool) (k : ℕ) → (b ≡ true → c ≡ true) → few ≤ count → few + length (if b then k ∷ [] else []) ≤ count + (if c then 1 else 0)
one_more count few true true k h le = omega (arith, le)
one_more count few true false k h le = absurd (let e : false ≡ true = h refl in cc)
one_more count few false true k h le = omega (arith, le)
one_more count few false false k h le = omega (arith, le)

-- those that are picked pass a test that they pass
pub picked_below : (t p : ℕ → Bool) (n k : ℕ) → ((j : ℕ) → t j ≡ true → p j ≡ true) → k ≤ n → length (filter t (others_below n k)) ≤ count_below p k
picked_below t p n zero h le = omega arith
picked_below t p n (suc k) h le =
    let deeper = picked_below t p n k h (omega (arith, le)) in
    let next = ap (λ (l : List ℕ). length (filter t l)) (others_next n k (omega (arith, le))) ∙ ap length (append_filter t (others_below n k) (k ∷ []))
    ∙ length-append (filter t (others_below n k)) (filter t (k ∷ [])) in
    let more = one_more (count_below p k) (length (filter t (others_below n k))) (t k) (p k) k (h k) deeper in
    omega (arith, next, more)

-- more than half of the members have promised no view above one that no member of a quorum has promised one above
pub most_promise : (promise : ℕ → ℕ) (n view most_failures : ℕ) (quorum : List ℕ) → n ≡ 2 * most_failures + 1 → IsPicked n view quorum →
    ((b : ℕ) → has quorum b ≡ true → promise b ≤ view) → most_failures < count_below (λ j. nat_le (promise j) view) n
most_promise promise n view most_failures quorum odd picked few =
    let counted = picked_below (has quorum) (λ j. nat_le (promise j) view) n n (λ j h. le-leb (promise j) view (few j h)) (omega arith) in
    let long = ap length picked.ascending in
    let count = picked.count in
    let half : n / 2 ≡ most_failures = omega (arith, odd) in
    omega (arith, counted, long, count, half)

-- The words of a head, with its checksum, sum to a multiple of 65,535.
use Rattle.std.proofs.Common.{◌≡◌, ◌<◌, ◌%◌, ℕ, ◌+◌, Bool, true, List, [], ◌∷◌, ◌++◌, length, ap, ◌∙◌, arith}
use Rattle.of_bytes.specs.Numbers.{two, four}
use Rattle.journal.specs.declared.journal.Actor.{Actor}
use Rattle.capture_laws.specs.Frames.{checksum, frame_ends_of, ip_front, ip_head, pseudo, tcp, tcp_front, tcp_sum, word_sum}

-- whole words
abbrev IsPaired : List ℕ → Type 0
IsPaired [] = Unit {0}
IsPaired (a ∷ []) = ⊥
IsPaired (a ∷ b ∷ bytes) = IsPaired bytes

sum-append : (xs ys : List ℕ) → IsPaired xs → word_sum true (xs ++ ys) ≡ word_sum true xs + word_sum true ys
sum-append [] ys p = omega arith
sum-append (a ∷ []) ys p = absurd p
sum-append (a ∷ b ∷ xs) ys p = let more = sum-append xs ys p in rw more (omega arith)

sum-two : (n : ℕ) (rest : List ℕ) → n < 65536 → word_sum true (two n ++ rest) ≡ n + word_sum true rest
unfolding two
sum-two n rest small = omega (arith, small)

small_checksum : (s : ℕ) → checksum s < 65536
small_checksum s = omega arith

pub filled : (s : ℕ) → 0 < s → (s + checksum s) % 65535 ≡ 0
filled s some = omega (arith, some)

paired_front : (count : ℕ) → IsPaired (ip_front count)
unfolding ip_front two
paired_front count = tt

some_front : (count : ℕ) → 0 < word_sum true (ip_front count)
unfolding ip_front two
some_front count = omega arith

pub ip_filled : (from to : Actor) (count : ℕ) → word_sum true (ip_head from to count) % 65535 ≡ 0
unfolding ip_head
ip_filled from to count =
    let front : List ℕ = ip_front count in
    let ends : List ℕ = frame_ends_of from to in
    let s : ℕ = word_sum true front + word_sum true ends in
    let spread : word_sum true (front ++ (two (checksum s) ++ ends)) ≡ s + checksum s =
    sum-append front (two (checksum s) ++ ends) (paired_front count) ∙ rw (sum-two (checksum s) ends (small_checksum s)) (regroup (word_sum true front) (word_sum true ends) (checksum s)) in
    let some : 0 < s = some_more (word_sum true front) (word_sum true ends) (some_front count) in
    ap (λ (n : ℕ). n % 65535) spread ∙ filled s some
  where
    regroup : (a b c : ℕ) → a + (c + b) ≡ a + b + c
    regroup a b c = omega arith

    some_more : (a b : ℕ) → 0 < a → 0 < a + b
    some_more a b h = omega (arith, h)

paired_tcp : (from to : Actor) (sequence acknowledged : ℕ) (ends : Bool) → IsPaired (tcp_front from to sequence acknowledged ends)
unfolding tcp_front two four
paired_tcp from to sequence acknowledged ends = tt

some_tcp : (from to : Actor) (sequence acknowledged : ℕ) (ends : Bool) → 0 < word_sum true (tcp_front from to sequence acknowledged ends)
unfolding tcp_front two four
some_tcp from to sequence acknowledged ends = omega arith

pub tcp_filled : (from to : Actor) (sequence acknowledged : ℕ) (ends : Bool) (payload : List ℕ) →
    (word_sum true (pseudo from to (length payload)) + word_sum true (tcp from to sequence acknowledged ends payload)) % 65535 ≡ 0
unfolding tcp
tcp_filled from to sequence acknowledged ends payload =
    let front : List ℕ = tcp_front from to sequence acknowledged ends in
    let beside : ℕ = word_sum true (pseudo from to (length payload)) in
    let s : ℕ = tcp_sum from to sequence acknowledged ends payload in
    let spread : word_sum true (front ++ (two (checksum s) ++ (two 0 ++ payload))) ≡ word_sum true front + (checksum s + (0 + word_sum true payload)) =
    sum-append front (two (checksum s) ++ (two 0 ++ payload)) (paired_tcp from to sequence acknowledged ends)
    ∙ ap (λ (n : ℕ). word_sum true front + n) (sum-two (checksum s) (two 0 ++ payload) (small_checksum s) ∙ ap (λ (n : ℕ). checksum s + n) (sum-two 0 payload (omega arith))) in
    let some : 0 < s = some_more beside (word_sum true front) (word_sum true payload) (some_tcp from to sequence acknowledged ends) in
    ap (λ (n : ℕ). (beside + n) % 65535) spread ∙ ap (λ (n : ℕ). n % 65535) (regroup beside (word_sum true front) (word_sum true payload) (checksum s)) ∙ filled s some
  where
    regroup : (a b c k : ℕ) → a + (b + (k + (0 + c))) ≡ a + b + c + k
    regroup a b c k = omega arith

    some_more : (a b c : ℕ) → 0 < b → 0 < a + b + c
    some_more a b c h = omega (arith, h)

-- Numbers as bytes, the highest first.
use Rattle.std.proofs.Common.{◌≡◌, ℕ, zero, suc, ◌+◌, ◌*◌, ◌^◌, ◌/◌, ◌<◌, ◌≤◌, List, [], ◌∷◌, ◌++◌, length, get_or, take, drop, refl, sym, ap, ◌∙◌, arith, inl, inr}
use Rattle.std.proofs.Math.Nat.{mod-lt}
use Rattle.std.specs.Int.{bytes_high_first, byte_at}
use Rattle.std.proofs.lemmas.Bool.{cases_lt}
use Rattle.std.proofs.lemmas.Nat.{div-mul-add}
use Rattle.std.proofs.lemmas.List.{append-nil, length-take, length-drop, drop-append-le, get_or-drop, get_or-take, get_or_past}
use Rattle.byteorder.specs.Endian.{big_from, big_number, big_bytes}
use Rattle.byteorder.specs.Numbers.{big_from-cons, big_from-take, big_from-append, big_number-reads_back}
pub use Rattle.byteorder.specs.Numbers.{big_from-lt, length-bytes_high_first}
use Rattle.of_bytes.specs.Numbers.{number}

abbrev pub IsBytes : List ℕ → Type 0
IsBytes bytes = (i : ℕ) → get_or bytes i 0 < 256

pub IsBytes-drop : (n : ℕ) (bytes : List ℕ) → IsBytes bytes → IsBytes (drop n bytes)
IsBytes-drop n bytes h i = rw get_or-drop (h (n + i))

pub IsBytes-take : (n : ℕ) (bytes : List ℕ) → IsBytes bytes → IsBytes (take n bytes)
IsBytes-take n bytes h i =
    elim (cases_lt i n) [
      | inl lt ↦ rw (get_or-take n bytes i 0 lt) (h i)
      | inr le ↦ rw (get_or_past (take n bytes) i 0 (omega (arith, length-take n bytes))) (omega arith)
    ]

IsBytes-rest : (b : ℕ) (bytes : List ℕ) → IsBytes (b ∷ bytes) → IsBytes bytes
IsBytes-rest b bytes h i = h (suc i)

byte_at-lt : (k x : ℕ) → byte_at k x < 256
byte_at-lt zero x = mod-lt x (omega arith)
byte_at-lt (suc k) x = mod-lt (x / 256 ^ suc k) (omega arith)

IsBytes-bytes : (n x : ℕ) → IsBytes (bytes_high_first n x)
IsBytes-bytes zero x i = omega arith
IsBytes-bytes (suc n) x zero = byte_at-lt n x
IsBytes-bytes (suc n) x (suc i) = IsBytes-bytes n x i

-- the highest part and the rest of a number in two parts
parts_same : (P x a y b : ℕ) → a < P → b < P → x * P + a ≡ y * P + b → (x ≡ y) × (a ≡ b)
parts_same P x a y b la lb e =
    let high : x ≡ y = sym (div-mul-add x P a la) ∙ ap (λ n. n / P) e ∙ div-mul-add y P b lb in
    let same : x * P ≡ y * P = ap (λ n. n * P) high in
    (high, omega arith)

-- lists of bytes that read as one number are one
pub same_bytes : (n : ℕ) (xs ys : List ℕ) → length xs ≡ n → length ys ≡ n → IsBytes xs → IsBytes ys → big_from 0 n xs ≡ big_from 0 n ys → xs ≡ ys
same_bytes zero [] [] lx ly fx fy e = refl
same_bytes zero [] (y ∷ ys) lx ly fx fy e = absurd (omega arith)
same_bytes zero (x ∷ xs) ys lx ly fx fy e = absurd (omega arith)
same_bytes (suc n) [] ys lx ly fx fy e = absurd (omega arith)
same_bytes (suc n) (x ∷ xs) [] lx ly fx fy e = absurd (omega arith)
same_bytes (suc n) (x ∷ xs) (y ∷ ys) lx ly fx fy e =
    let moved : x * 256 ^ n + big_from 0 n xs ≡ y * 256 ^ n + big_from 0 n ys =
    ap (λ r. x * 256 ^ n + r) (sym (big_from-cons 0 n x xs)) ∙ e ∙ ap (λ r. y * 256 ^ n + r) (big_from-cons 0 n y ys) in
    let p = parts_same (256 ^ n) x (big_from 0 n xs) y (big_from 0 n ys) (big_from-lt 0 n xs (IsBytes-rest x xs fx)) (big_from-lt 0 n ys (IsBytes-rest y ys fy)) moved in
    let rest = same_bytes n xs ys (omega arith) (omega arith) (IsBytes-rest x xs fx) (IsBytes-rest y ys fy) p.1 in
    ap (λ b. b ∷ xs) p.0 ∙ ap (λ (bs : List ℕ). y ∷ bs) rest

-- a number that was read is written as the bytes that it was read from
pub bytes_number : (n : ℕ) (xs : List ℕ) → IsBytes xs → n ≤ length xs → big_bytes n (big_number n xs) ≡ take n xs
bytes_number n xs fits long =
    let lt = big_from-lt 0 n xs fits in
    let back : big_from 0 n (bytes_high_first n (big_from 0 n xs)) ≡ big_from 0 n xs =
    ap (big_from 0 n) (sym (append-nil (bytes_high_first n (big_from 0 n xs)))) ∙ big_number-reads_back n (big_from 0 n xs) [] lt in
    same_bytes n (bytes_high_first n (big_from 0 n xs)) (take n xs) (length-bytes_high_first n (big_from 0 n xs)) (omega (arith, length-take n xs))
    (IsBytes-bytes n (big_from 0 n xs)) (IsBytes-take n xs fits) (back ∙ sym (big_from-take 0 n n xs (omega arith)))

-- a number below its place is read as it was written
pub number_bytes : (n x : ℕ) (rest : List ℕ) → x < 256 ^ n → big_number n (big_bytes n x ++ rest) ≡ x
number_bytes n x rest lt = big_number-reads_back n x rest lt

-- a number at a place is not changed by what follows it
pub number-append : (count place : ℕ) (bytes more : List ℕ) → place + count ≤ length bytes → number count place (bytes ++ more) ≡ number count place bytes
number-append count place bytes more long =
    ap (big_number count) (drop-append-le place bytes more (omega arith)) ∙ big_from-append count (drop place bytes) more (omega (arith, length-drop place bytes))

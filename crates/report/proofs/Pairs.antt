-- Bytes are spelled by two digits each.
use Rattle.std.proofs.Common.{◌≡◌, ◌<◌, ◌≤◌, ℕ, suc, ◌+◌, ◌*◌, ◌/◌, ◌%◌, List, [], ◌∷◌, ◌++◌, length, take, drop, get_or, set, refl, sym, ap, subst, ◌∙◌, arith}
use Rattle.std.proofs.Math.Seq.{drop-cons, take-suc}
use Rattle.std.proofs.lemmas.List.{append-nil, append_assoc, length-take-le, take-append-drop}
use Rattle.report.specs.Report.{hex_digit, hex_of}

pub hex_append : (xs ys : List ℕ) → hex_of (xs ++ ys) ≡ hex_of xs ++ hex_of ys
hex_append [] ys = refl
hex_append (x ∷ xs) ys = ap (λ l. hex_digit (x / 16) ∷ hex_digit (x % 16) ∷ l) (hex_append xs ys)

pub hex_long : (xs : List ℕ) → length (hex_of xs) ≡ 2 * length xs
hex_long [] = refl
hex_long (x ∷ xs) = let more = hex_long xs in omega (arith, more)

-- two digits take the places behind those that stand
pair_put : (front rest : List ℕ) (x y a b : ℕ) → set (set (front ++ x ∷ y ∷ rest) (length front) a) (suc (length front)) b ≡ front ++ a ∷ b ∷ rest
pair_put [] rest x y a b = refl
pair_put (f ∷ front) rest x y a b = ap (λ l. f ∷ l) (pair_put front rest x y a b)

-- one byte more is spelled in a room
pub pair_spelled : (bytes old room : List ℕ) (i a b : ℕ) → i < length bytes → 2 * length bytes ≤ length old → room ≡ hex_of (take i bytes) ++ drop (2 * i) old →
    a ≡ hex_digit (get_or bytes i 0 / 16) → b ≡ hex_digit (get_or bytes i 0 % 16) → set (set room (2 * i) a) (2 * i + 1) b ≡ hex_of (take (i + 1) bytes) ++ drop (2 * (i + 1)) old
pair_spelled bytes old room i a b less fits is high low =
    let front = hex_of (take i bytes) in
    let long : length front ≡ 2 * i = hex_long (take i bytes) ∙ ap (λ n. 2 * n) (length-take-le i bytes (omega (arith, less))) in
    let x = get_or old (2 * i) 0 in
    let y = get_or old (suc (2 * i)) 0 in
    let rest = drop (suc (suc (2 * i))) old in
    let parts : drop (2 * i) old ≡ x ∷ y ∷ rest = drop-cons old (2 * i) 0 (omega (arith, less, fits)) ∙ ap (λ l. x ∷ l) (drop-cons old (suc (2 * i)) 0 (omega (arith, less, fits))) in
    let behind : 2 * i + 1 ≡ suc (2 * i) = omega arith in
    let put : set (set (front ++ x ∷ y ∷ rest) (2 * i) a) (2 * i + 1) b ≡ front ++ a ∷ b ∷ rest =
    ap (λ n. set (set (front ++ x ∷ y ∷ rest) (2 * i) a) n b) behind ∙ subst (λ n. set (set (front ++ x ∷ y ∷ rest) n a) (suc n) b ≡ front ++ a ∷ b ∷ rest) long (pair_put front rest x y a b) in
    let one : i + 1 ≡ suc i = omega arith in
    let two : suc (suc (2 * i)) ≡ 2 * (i + 1) = omega arith in
    let next : take (i + 1) bytes ≡ take i bytes ++ get_or bytes i 0 ∷ [] = ap (λ n. take n bytes) one ∙ take-suc bytes i 0 less in
    ap (λ r. set (set r (2 * i) a) (2 * i + 1) b) (is ∙ ap (λ l. front ++ l) parts) ∙ put
    ∙ ap (λ d. front ++ d ∷ b ∷ rest) high ∙ ap (λ d. front ++ hex_digit (get_or bytes i 0 / 16) ∷ d ∷ rest) low
    ∙ sym (append_assoc front (hex_of (get_or bytes i 0 ∷ [])) rest)
    ∙ ap (λ l. l ++ rest) (sym (hex_append (take i bytes) (get_or bytes i 0 ∷ [])) ∙ ap hex_of (sym next))
    ∙ ap (λ n. hex_of (take (i + 1) bytes) ++ drop n old) two

-- a list is its front and what is behind it
pub rejoined : (n : ℕ) (whole front behind : List ℕ) → front ≡ take n whole → behind ≡ drop n whole → whole ≡ front ++ behind
rejoined n whole front behind is rest = sym (ap (λ l. l ++ behind) is ∙ ap (λ l. take n whole ++ l) rest ∙ take-append-drop n whole)

-- what is written of a piece, and the bytes behind it
pub piece_spelled : (out all rest piece behind now : List ℕ) → out ++ hex_of rest ≡ all → rest ≡ piece ++ behind →
    now ≡ out ++ hex_of piece → now ++ hex_of behind ≡ all
piece_spelled out all rest piece behind now stood parts wrote =
    ap (λ l. l ++ hex_of behind) wrote ∙ append_assoc out (hex_of piece) (hex_of behind)
    ∙ ap (λ l. out ++ l) (sym (hex_append piece behind) ∙ ap hex_of (sym parts)) ∙ stood

-- where nothing is left
pub all_spelled : (out all rest : List ℕ) → length rest ≡ 0 → out ++ hex_of rest ≡ all → out ≡ all
all_spelled out all [] none stood = sym (append-nil out) ∙ stood
all_spelled out all (x ∷ rest) none stood = absurd (omega (arith, none))

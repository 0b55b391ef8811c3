-- The switches that are told of settled commands, one switch after another.
use Rattle.std.proofs.Common.{◌≡◌, ◌<◌, ◌≤◌, ℕ, zero, suc, ◌+◌, Bool, true, false, List, [], ◌∷◌, ◌++◌, length, take, set, get_or, map, filter, refl, sym, ap, ◌∙◌, arith, append-nil, inl, inr}
use Rattle.std.specs.Prelude.{nat_eq, nat_lt, not, ◌&&◌, ◌||◌, if◌then◌else◌}
use Rattle.std.specs.List.{range_with_len}
use Rattle.std.proofs.Math.Bool.{or-true, or-false, and-false}
use Rattle.std.proofs.lemmas.Bool.{cases_eq, eq-eqb, ne_eqb}
use Rattle.std.proofs.lemmas.List.{get_or-set_other, get_or-set_same}
use Rattle.std.proofs.lemmas.List.Folds.{list_any_more}
use Rattle.std.proofs.lemmas.List.{map-append}
use Rattle.std.proofs.lemmas.List.FromFn.{map-range_with_len_more}
use Rattle.app_core.specs.declared.issued.Issued.{Issued}
use Rattle.dispatcher.specs.declared.ledger.Ledger.{Ledger}
use Rattle.dispatcher.specs.Ledger.{cleared_of_life, has_told, is_addressed}

-- one number more of those from 0 on
pub range_more : (n : ℕ) → range_with_len 0 (n + 1) ≡ range_with_len 0 n ++ n ∷ []
range_more n = sym (map_self (range_with_len 0 (n + 1))) ∙ map-range_with_len_more (λ (k : ℕ). k) 0 n n (omega arith) ∙ ap (λ (l : List ℕ). l ++ n ∷ []) (map_self (range_with_len 0 n))
  where
    map_self : (xs : List ℕ) → map (λ k. k) xs ≡ xs
    map_self [] = refl
    map_self (x ∷ xs) = ap (λ (l : List ℕ). x ∷ l) (map_self xs)

pub filter_more : (p : ℕ → Bool) (xs : List ℕ) (n : ℕ) → filter p (xs ++ n ∷ []) ≡ filter p xs ++ (if p n then n ∷ [] else [])
filter_more p [] n = refl
filter_more p (x ∷ xs) n = ap (λ (l : List ℕ). if p x then x ∷ l else l) (filter_more p xs n) ∙ moved (p x)
  where
    moved : (b : Bool) → (if b then x ∷ (filter p xs ++ (if p n then n ∷ [] else [])) else filter p xs ++ (if p n then n ∷ [] else [])) ≡ (if b then x ∷ filter p xs else filter p xs) ++ (if p n then n ∷ [] else [])
    moved true = refl
    moved false = refl

module _ (ledger : Ledger) (commands : List Issued) (n : ℕ) where
  grown : filter (has_told ledger commands) (range_with_len 0 (n + 1)) ≡ filter (has_told ledger commands) (range_with_len 0 n) ++ (if has_told ledger commands n then n ∷ [] else [])
  grown = ap (λ (l : List ℕ). filter (has_told ledger commands) l) (range_more n) ∙ filter_more (has_told ledger commands) (range_with_len 0 n) n

  pub told_yes : has_told ledger commands n ≡ true →
      map (cleared_of_life ledger) (filter (has_told ledger commands) (range_with_len 0 (n + 1))) ≡ map (cleared_of_life ledger) (filter (has_told ledger commands) (range_with_len 0 n)) ++ cleared_of_life ledger n ∷ []
  told_yes e =
      ap (λ (l : List ℕ). map (cleared_of_life ledger) l) (grown ∙ ap (λ (b : Bool). filter (has_told ledger commands) (range_with_len 0 n) ++ (if b then n ∷ [] else [])) e)
      ∙ map-append (cleared_of_life ledger) (filter (has_told ledger commands) (range_with_len 0 n)) (n ∷ [])

  pub told_no : has_told ledger commands n ≡ false →
      map (cleared_of_life ledger) (filter (has_told ledger commands) (range_with_len 0 (n + 1))) ≡ map (cleared_of_life ledger) (filter (has_told ledger commands) (range_with_len 0 n))
  told_no e =
      ap (λ (l : List ℕ). map (cleared_of_life ledger) l)
      (grown ∙ ap (λ (b : Bool). filter (has_told ledger commands) (range_with_len 0 n) ++ (if b then n ∷ [] else [])) e ∙ append-nil (filter (has_told ledger commands) (range_with_len 0 n)))

-- a switch that has no command is not told
pub unnamed : (ledger : Ledger) (commands : List Issued) (n : ℕ) → is_addressed commands n ≡ false → has_told ledger commands n ≡ false
unnamed ledger [] n e = refl
unnamed ledger (x ∷ xs) n e =
    let none = neither (nat_eq x.switch n) (is_addressed xs n) e in
    ap (λ (b : Bool). (b && not (nat_lt x.life (get_or ledger.lives x.switch 0))) || has_told ledger xs n) none.0 ∙ unnamed ledger xs n none.1
  where
    neither : (a b : Bool) → (a || b) ≡ false → (a ≡ false) × (b ≡ false)
    neither false b e = (refl, e)
    neither true false e = (e, refl)
    neither true true e = (e, e)

-- nor are so many switches more, of which none has a command
pub none_told : (ledger : Ledger) (commands : List Issued) (n more : ℕ) → ((k : ℕ) → n ≤ k → k < n + more → is_addressed commands k ≡ false) →
    map (cleared_of_life ledger) (filter (has_told ledger commands) (range_with_len 0 (n + more))) ≡ map (cleared_of_life ledger) (filter (has_told ledger commands) (range_with_len 0 n))
none_told ledger commands n zero none = ap (λ (k : ℕ). map (cleared_of_life ledger) (filter (has_told ledger commands) (range_with_len 0 k))) (omega arith)
none_told ledger commands n (suc more) none =
    let before : n + suc more ≡ n + more + 1 = omega arith in
    ap (λ (k : ℕ). map (cleared_of_life ledger) (filter (has_told ledger commands) (range_with_len 0 k))) before
    ∙ told_no ledger commands (n + more) (unnamed ledger commands (n + more) (none (n + more) (omega arith) (omega arith)))
    ∙ none_told ledger commands n more (λ k from below. none k from (omega arith))

-- which switches have a command of their present life, one command more
module _ (ledger : Ledger) (commands : List Issued) (i : ℕ) (x : Issued) (within : i < length commands) (is : x ≡ get_or commands i x) where
  abbrev lives_on : Bool
  lives_on = not (nat_lt x.life (get_or ledger.lives x.switch 0))

  one_more : (n : ℕ) → has_told ledger (take (i + 1) commands) n ≡ (has_told ledger (take i commands) n || (nat_eq x.switch n && lives_on))
  one_more n =
      let p : Issued → Bool = λ y. nat_eq y.switch n && not (nat_lt y.life (get_or ledger.lives y.switch 0)) in
      list_any_more p commands i x within ∙ ap (λ (y : Issued). has_told ledger (take i commands) n || p y) (sym is)

  pub told_more_yes : (told : List Bool) (n : ℕ) → x.switch < length told → lives_on ≡ true → get_or told n false ≡ has_told ledger (take i commands) n →
      get_or (set told x.switch true) n false ≡ has_told ledger (take (i + 1) commands) n
  told_more_yes told n there lives before = elim (cases_eq x.switch n) [
    | inl same ↦
        ap (λ (m : ℕ). get_or (set told x.switch true) m false) (sym same) ∙ get_or-set_same told x.switch true false there
        ∙ sym (one_more n ∙ rw (eq-eqb x.switch n same, lives) (or-true (has_told ledger (take i commands) n)))
    | inr other ↦
        get_or-set_other told x.switch n true false (λ e. other (sym e)) ∙ before
        ∙ sym (one_more n ∙ rw (ne_eqb x.switch n other) (or-false (has_told ledger (take i commands) n)))
  ]

  pub told_more_no : (told : List Bool) (n : ℕ) → lives_on ≡ false → get_or told n false ≡ has_told ledger (take i commands) n →
      get_or told n false ≡ has_told ledger (take (i + 1) commands) n
  told_more_no told n ended before =
      before ∙ sym (one_more n ∙ rw ended (ap (λ (b : Bool). has_told ledger (take i commands) n || b) (and-false (nat_eq x.switch n)) ∙ or-false (has_told ledger (take i commands) n)))

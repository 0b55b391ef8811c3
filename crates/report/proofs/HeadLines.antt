-- The lines of entries whose letters stand apart, and give their bodies away as they are written.
use Rattle.std.proofs.Common.{◌≡◌, ◌<◌, ◌≤◌, ℕ, zero, suc, ◌+◌, ◌-◌, List, [], ◌∷◌, ◌++◌, length, map, take, drop, get_or, refl, sym, subst, ap, ◌∙◌, arith}
use Rattle.std.specs.Prelude.{slice_get, Option, Some, IfSome}
use Rattle.std.proofs.lemmas.List.{append-nil, append_assoc, drop_more}
use Rattle.journal.specs.declared.journal.Letter.{Letter}
use Rattle.journal.specs.declared.entries.Head.{Head}
use Rattle.journal.specs.Entries.{entry_with, letter_count, StartsAt, Tile, whole_entry}
use Rattle.journal.specs.Mailbags.{emptied}
use Rattle.journal.proofs.Heads.{entry_here}
use Rattle.journal.proofs.Lists.{drop_more as drop_further, drop_next, dropped_at, get_within}
use Rattle.report.specs.Report.{entry_lines, letter_line, lines_of}

-- a letter that gave its body away leaves those behind it as they are
pub rest_kept : (index : ℕ) (letters : List (Letter (List ℕ))) → drop (index + 1) (emptied index letters) ≡ drop (index + 1) letters
rest_kept index letters = kept index (index + 1) letters (omega arith)
  where
    kept : (index next : ℕ) (letters : List (Letter (List ℕ))) → next ≡ suc index → drop next (emptied index letters) ≡ drop next letters
    kept index next [] is = refl
    kept zero zero (letter ∷ letters) is = absurd (omega (arith, is))
    kept zero (suc next) (letter ∷ letters) is = refl
    kept (suc index) zero (letter ∷ letters) is = absurd (omega (arith, is))
    kept (suc index) (suc next) (letter ∷ letters) is = kept index next letters (omega (arith, is))

pub long_kept : (index : ℕ) (letters : List (Letter (List ℕ))) → length (emptied index letters) ≡ length letters
long_kept index [] = refl
long_kept zero (letter ∷ letters) = refl
long_kept (suc index) (letter ∷ letters) = ap suc (long_kept index letters)

-- what stands at a place is the same where all from there on is
pub same_at : {A : Type 0} (index : ℕ) (xs ys : List A) → drop index xs ≡ drop index ys → slice_get xs index ≡ slice_get ys index
same_at index xs ys is =
    let here : index ≡ index + 0 = omega arith in
    sym (dropped_at index 0 index xs here) ∙ ap (λ l. slice_get l 0) is ∙ dropped_at index 0 index ys here

-- the next letter of some
next_of : {A : Type 0} (xs : List A) (index end : ℕ) (x : A) → slice_get xs index ≡ Some x → index < end → take (end - index) (drop index xs) ≡ x ∷ take (end - (index + 1)) (drop (index + 1) xs)
next_of xs index end x is less =
    let more : end - index ≡ suc (end - (index + 1)) = omega (arith, less) in
    let next : index + 1 ≡ suc index = omega arith in
    ap (λ l. take (end - index) l) (drop_next xs index (index + 1) x next is) ∙ ap (λ n. take n (x ∷ drop (index + 1) xs)) more

-- it is written
pub next_letter : (letters all_letters : List (Letter (List ℕ))) (index end : ℕ) (out more all : List ℕ) → index < end → index < length letters → drop index letters ≡ drop index all_letters →
    out ++ lines_of letter_line (take (end - index) (drop index all_letters)) ≡ all → IfSome (slice_get letters index) (λ letter. more ≡ out ++ letter_line letter) →
    more ++ lines_of letter_line (take (end - (index + 1)) (drop (index + 1) all_letters)) ≡ all
unfolding lines_of
next_letter letters all_letters index end out more all less within same stood wrote =
    let found = get_within letters index within in
    let x = found.0 in
    let line = subst (λ (o : Option (Letter (List ℕ))). IfSome o (λ letter. more ≡ out ++ letter_line letter)) found.1 wrote in
    let there = sym (same_at index letters all_letters same) ∙ found.1 in
    ap (λ l. l ++ lines_of letter_line (take (end - (index + 1)) (drop (index + 1) all_letters))) line
    ∙ append_assoc out (letter_line x) (lines_of letter_line (take (end - (index + 1)) (drop (index + 1) all_letters)))
    ∙ ap (λ l. out ++ lines_of letter_line l) (sym (next_of all_letters index end x there less)) ∙ stood

-- all of a post are written
pub no_letter : (letters : List (Letter (List ℕ))) (out all : List ℕ) (count : ℕ) → count ≡ 0 → out ++ lines_of letter_line (take count letters) ≡ all → out ≡ all
unfolding lines_of
no_letter letters out all count none stood = sym (append-nil out) ∙ ap (λ n. out ++ lines_of letter_line (take n letters)) (sym none) ∙ stood

-- the first of some heads that tile the letters from there on
next_head : (heads : List Head) (i : ℕ) (head : Head) → i < length heads → get_or heads i head ≡ head → drop i heads ≡ head ∷ drop (i + 1) heads
next_head heads i head less is = drop_more heads i head less ∙ ap (λ h. h ∷ drop (i + 1) heads) is

-- how far the letters are written, once some heads are
pub record Written (letters all_letters : List (Letter (List ℕ))) (heads : List Head) : Type 0 where
  pub from : ℕ
  pub tiled : Tile from heads (length all_letters)
  pub rest : drop from letters ≡ drop from all_letters
  pub long : length letters ≡ length all_letters

tile_within : (from : ℕ) (heads : List Head) (to : ℕ) → Tile from heads to → from ≤ to
tile_within from [] to is = omega (arith, is)
tile_within from (h ∷ heads) to is = let low = tile_within (from + letter_count h) heads to is.1 in omega (arith, low)

module _ (letters all_letters : List (Letter (List ℕ))) (heads : List Head) (i : ℕ) (head : Head) (less : i < length heads) (is : get_or heads i head ≡ head)
    (w : Written letters all_letters (drop i heads)) where
  here : Tile w.from (head ∷ drop (i + 1) heads) (length all_letters)
  here = subst (λ hs. Tile w.from hs (length all_letters)) (next_head heads i head less is) w.tiled

  -- its letters are there
  pub head_fits : (from : ℕ) × StartsAt from head × (from + letter_count head ≤ length letters)
  head_fits =
      let low = tile_within (w.from + letter_count head) (drop (i + 1) heads) (length all_letters) here.1 in
      (w.from, here.0, omega (arith, low, w.long))

  -- they are those of all
  pub head_whole : whole_entry letters head ≡ whole_entry all_letters head
  head_whole =
      sym (entry_here w.from head letters here.0)
      ∙ ap (λ l. entry_with (take (letter_count head) l) head) w.rest
      ∙ entry_here w.from head all_letters here.0

  -- the others are left
  pub head_behind : (after : List (Letter (List ℕ))) (rest : List Head) → rest ≡ drop (i + 1) heads →
      ((from : ℕ) → StartsAt from head → drop (from + letter_count head) after ≡ drop (from + letter_count head) letters) → length after ≡ length letters → Written after all_letters rest
  head_behind after rest left same long =
      record {
        from = w.from + letter_count head;
        tiled = subst (λ hs. Tile (w.from + letter_count head) hs (length all_letters)) (sym left) here.1;
        rest = same w.from here.0 ∙ sym (drop_further w.from (letter_count head) letters) ∙ ap (λ l. drop (letter_count head) l) w.rest ∙ drop_further w.from (letter_count head) all_letters;
        long = long ∙ w.long;
      }

-- lines of entries by their heads
pub lines_by_heads : (letters : List (Letter (List ℕ))) (heads : List Head) → lines_of (λ h. entry_lines (whole_entry letters h)) heads ≡ lines_of entry_lines (map (whole_entry letters) heads)
unfolding lines_of
lines_by_heads letters [] = refl
lines_by_heads letters (h ∷ heads) = ap (λ l. entry_lines (whole_entry letters h) ++ l) (lines_by_heads letters heads)

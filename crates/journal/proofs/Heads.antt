-- Entries kept apart from their letters.
use Rattle.std.proofs.Common.{◌≡◌, ◌≤◌, ℕ, zero, suc, ◌+◌, List, [], ◌∷◌, ◌++◌, length, map, take, drop, refl, sym, ap, ◌∙◌, arith, subst, append_assoc, take-append-drop}
use Rattle.std.specs.Prelude.{slice_get, sum_by, Option, Some, None, IsSome}
use Rattle.std.proofs.Math.Seq.{take-append_seam}
use Rattle.std.proofs.lemmas.List.{length-take, length-drop, map-append}
use Rattle.std.proofs.lemmas.List.Sums.{sum_by-cons}
use Rattle.journal.specs.declared.entries.Head.{Head}
use Rattle.journal.specs.declared.entries.Head.TheVariants as head
use Rattle.journal.specs.declared.journal.Actor.{Actor}
use Rattle.journal.specs.declared.journal.JournalEntry.{JournalEntry}
use Rattle.journal.specs.declared.journal.JournalEntry.TheVariants.{Post}
use Rattle.journal.specs.declared.journal.Letter.{Letter}
use Rattle.journal.specs.declared.journal.Packet.{Packet}
use Rattle.journal.specs.Entries.{EntriesState, IsBare, StartsAt, Tile, letter_count, whole_entry, entry_with, head_of}
use Rattle.journal.specs.Places.{packets_in, packets_posted}
use Rattle.journal.specs.Pool.{numbered_letters}
use Rattle.journal.proofs.Lists.{drop_more, map_at}
use Rattle.journal.proofs.Packing.{part_of}
use Rattle.journal.proofs.Placing.{slice_get-append}

pub same_entries : {B : Type 0} (i j : List (JournalEntry B)) (c d : List (Letter B)) (n r : ℕ) → i ≡ j → c ≡ d →
    ◌≡◌ {A = EntriesState B} (record { items = i; coming = c; next = n; room = r }) (record { items = j; coming = d; next = n; room = r })
same_entries i j c d n r items coming =
    ap (λ is. record { items = is; coming = c; next = n; room = r }) items ∙ ap (λ co. record { items = j; coming = co; next = n; room = r }) coming

-- a part of what stands in front
part_before : {A : Type 0} (start len : ℕ) (xs ys : List A) → start + len ≤ length xs → take len (drop start (xs ++ ys)) ≡ take len (drop start xs)
part_before start len xs ys within =
    sym (part_of start len (length xs) (xs ++ ys) within) ∙ ap (λ zs. take len (drop start zs)) (take-append_seam xs ys)

length_part : {A : Type 0} (start len : ℕ) (xs : List A) → start + len ≤ length xs → length (take len (drop start xs)) ≡ len
length_part start len xs within = omega (arith, within, length-take len (drop start xs), length-drop start xs)

pub drop_seam : {A : Type 0} (n : ℕ) (xs ys : List A) → n ≤ length xs → drop n xs ≡ [] → drop n (xs ++ ys) ≡ ys
drop_seam zero [] ys low none = refl
drop_seam zero (x ∷ xs) ys low none = cc
drop_seam (suc n) [] ys low none = absurd (omega (arith, low))
drop_seam (suc n) (x ∷ xs) ys low none = drop_seam n xs ys (omega (arith, low)) none

pub drop_taken : {A : Type 0} (n : ℕ) (xs : List A) → drop n (take n xs) ≡ []
drop_taken zero xs = refl
drop_taken (suc n) [] = refl
drop_taken (suc n) (x ∷ xs) = drop_taken n xs

-- letters of which none belongs to no entry
pub tiled_whole : {A : Type 0} (heads : List Head) (to : ℕ) (letters : List A) → Tile zero heads to → to ≤ length letters → drop to letters ≡ [] → Tile zero heads (length letters)
tiled_whole heads to letters is low none =
    let same : to ≡ length letters = omega (arith, low, length-drop to letters, ap length none) in
    subst (λ n. Tile zero heads n) same is

tile_low : (from : ℕ) (heads : List Head) (to : ℕ) → Tile from heads to → from ≤ to
tile_low from [] to is = omega (arith, is)
tile_low from (h ∷ heads) to (starts, is) = let low = tile_low (from + letter_count h) heads to is in omega (arith, low)

entry_kept : {B : Type 0} (from : ℕ) (h : Head) (letters more : List (Letter B)) → StartsAt from h → from + letter_count h ≤ length letters → whole_entry (letters ++ more) h ≡ whole_entry letters h
entry_kept from (head.Post a first count lost) letters more starts within =
    ap (λ ls. Post a first ls lost) (part_before first count letters more (omega (arith, starts, within)))
entry_kept from (head.Draw a id keep) letters more starts within = refl
entry_kept from (head.Lose a id) letters more starts within = refl
entry_kept from (head.Local a input) letters more starts within = refl
entry_kept from (head.Idle a) letters more starts within = refl
entry_kept from (head.Refused a) letters more starts within = refl

-- entries stay what they are as letters come
pub entries_kept : {B : Type 0} (from : ℕ) (heads : List Head) (to : ℕ) (letters more : List (Letter B)) → Tile from heads to → to ≤ length letters →
    map (whole_entry (letters ++ more)) heads ≡ map (whole_entry letters) heads
entries_kept from [] to letters more is low = refl
entries_kept from (h ∷ heads) to letters more (starts, is) low =
    let upto = tile_low (from + letter_count h) heads to is in
    ap (λ e. e ∷ map (whole_entry (letters ++ more)) heads) (entry_kept from h letters more starts (omega (arith, upto, low)))
    ∙ ap (λ es. whole_entry letters h ∷ es) (entries_kept (from + letter_count h) heads to letters more is low)

-- and as those go that belong to none
pub entries_left : {B : Type 0} (heads : List Head) (to : ℕ) (letters : List (Letter B)) → Tile zero heads to → to ≤ length letters →
    map (whole_entry (take to letters)) heads ≡ map (whole_entry letters) heads
entries_left heads to letters is low =
    let long : to ≤ length (take to letters) = omega (arith, low, length-take to letters) in
    sym (entries_kept zero heads to (take to letters) (drop to letters) is long) ∙ ap (λ ls. map (whole_entry ls) heads) (take-append-drop to letters)

one_head : {B : Type 0} (from : ℕ) (h : Head) (letters : List (Letter B)) → StartsAt from h → from + letter_count h ≤ length letters → head_of (whole_entry letters h) ≡ h
one_head from (head.Post a first count lost) letters starts within = ap (λ n. head.Post a first n lost) (length_part first count letters (omega (arith, starts, within)))
one_head from (head.Draw a id keep) letters starts within = refl
one_head from (head.Lose a id) letters starts within = refl
one_head from (head.Local a input) letters starts within = refl
one_head from (head.Idle a) letters starts within = refl
one_head from (head.Refused a) letters starts within = refl

-- an entry's head is the one that it was kept by
pub heads_of : {B : Type 0} (from : ℕ) (heads : List Head) (to : ℕ) (letters : List (Letter B)) → Tile from heads to → to ≤ length letters → heads ≡ map head_of (map (whole_entry letters) heads)
heads_of from [] to letters is low = refl
heads_of from (h ∷ heads) to letters (starts, is) low =
    let upto = tile_low (from + letter_count h) heads to is in
    ap (λ hs. h ∷ hs) (heads_of (from + letter_count h) heads to letters is low)
    ∙ ap (λ g. g ∷ map head_of (map (whole_entry letters) heads)) (sym (one_head from h letters starts (omega (arith, upto, low))))

-- one head more
pub tile_more : (from : ℕ) (heads : List Head) (to next : ℕ) (h : Head) → Tile from heads to → StartsAt to h → next ≡ to + letter_count h → Tile from (heads ++ h ∷ []) next
tile_more from [] to next h is starts next_is = (subst (λ n. StartsAt n h) (sym is) starts, omega (arith, is, next_is))
tile_more from (g ∷ heads) to next h (first, is) starts next_is = (first, tile_more (from + letter_count g) heads to next h is starts next_is)

pub bare_starts : (n : ℕ) (h : Head) → IsBare h → StartsAt n h
bare_starts n (head.Post a first count lost) bare = absurd bare
bare_starts n (head.Draw a id keep) bare = tt
bare_starts n (head.Lose a id) bare = tt
bare_starts n (head.Local a input) bare = tt
bare_starts n (head.Idle a) bare = tt
bare_starts n (head.Refused a) bare = tt

pub bare_counts : (h : Head) → IsBare h → letter_count h ≡ zero
bare_counts (head.Post a first count lost) bare = absurd bare
bare_counts (head.Draw a id keep) bare = refl
bare_counts (head.Lose a id) bare = refl
bare_counts (head.Local a input) bare = refl
bare_counts (head.Idle a) bare = refl
bare_counts (head.Refused a) bare = refl

-- a head within others
pub tile_at : (from : ℕ) (before : List Head) (h : Head) (after : List Head) (to : ℕ) → Tile from (before ++ h ∷ after) to →
    StartsAt (from + sum_by letter_count before) h × (from + sum_by letter_count before + letter_count h ≤ to)
tile_at from [] h after to (starts, is) =
    let low = tile_low (from + letter_count h) after to is in
    let here : from + zero ≡ from = omega arith in
    (subst (λ n. StartsAt n h) (sym here) starts, omega (arith, low))
tile_at from (g ∷ before) h after to (first, is) =
    let rest = tile_at (from + letter_count g) before h after to is in
    let sum = sum_by-cons letter_count g before in
    let here : from + letter_count g + sum_by letter_count before ≡ from + sum_by letter_count (g ∷ before) = omega (arith, sum) in
    (subst (λ n. StartsAt n h) here rest.0, omega (arith, rest.1, sum))

-- an entry with the letters that come next
pub entry_here : {B : Type 0} (n : ℕ) (h : Head) (letters : List (Letter B)) → StartsAt n h → entry_with (take (letter_count h) (drop n letters)) h ≡ whole_entry letters h
entry_here n (head.Post a first count lost) letters starts = ap (λ m. Post a first (take count (drop m letters)) lost) (sym starts)
entry_here n (head.Draw a id keep) letters starts = refl
entry_here n (head.Lose a id) letters starts = refl
entry_here n (head.Local a input) letters starts = refl
entry_here n (head.Idle a) letters starts = refl
entry_here n (head.Refused a) letters starts = refl

-- a packet's letter
abbrev pub unnumbered : {B : Type 0} → Packet B → Letter B
unnumbered p = record { to = p.to; body = p.body }

letters_again : {B : Type 0} (first : ℕ) (a : Actor) (letters : List (Letter B)) → map unnumbered (numbered_letters first a letters) ≡ letters
letters_again first a [] = refl
letters_again first a (l ∷ letters) = ap (λ (ls : List (Letter _)). l ∷ ls) (letters_again (first + 1) a letters)

letters_here : {B : Type 0} (from : ℕ) (h : Head) (letters : List (Letter B)) → StartsAt from h → map unnumbered (packets_in (whole_entry letters h)) ≡ take (letter_count h) (drop from letters)
letters_here from (head.Post a first count lost) letters starts =
    letters_again first a (take count (drop first letters)) ∙ ap (λ n. take count (drop n letters)) starts
letters_here from (head.Draw a id keep) letters starts = refl
letters_here from (head.Lose a id) letters starts = refl
letters_here from (head.Local a input) letters starts = refl
letters_here from (head.Idle a) letters starts = refl
letters_here from (head.Refused a) letters starts = refl

-- the letters of the packets that entries post are those that they tile
letters_posted_are : {B : Type 0} (from : ℕ) (heads : List Head) (to : ℕ) (letters : List (Letter B)) → Tile from heads to →
    map unnumbered (packets_posted (map (whole_entry letters) heads)) ++ drop to letters ≡ drop from letters
letters_posted_are from [] to letters is = ap (λ n. drop n letters) (sym is)
letters_posted_are from (h ∷ heads) to letters (starts, is) =
    let here = packets_in (whole_entry letters h) in
    let behind = packets_posted (map (whole_entry letters) heads) in
    let count = letter_count h in
    let rest = map unnumbered behind ++ drop to letters in
    ap (λ (ls : List (Letter _)). ls ++ drop to letters) (map-append unnumbered here behind)
    ∙ append_assoc (map unnumbered here) (map unnumbered behind) (drop to letters)
    ∙ ap (λ (ls : List (Letter _)). ls ++ rest) (letters_here from h letters starts)
    ∙ ap (λ (ls : List (Letter _)). take count (drop from letters) ++ ls) (letters_posted_are (from + count) heads to letters is ∙ sym (drop_more from count letters))
    ∙ take-append-drop count (drop from letters)

-- so the letter of a packet is that of its number
pub letter_there : {B : Type 0} (heads : List Head) (to : ℕ) (letters : List (Letter B)) (n : ℕ) (p : Packet B) → Tile zero heads to →
    slice_get (packets_posted (map (whole_entry letters) heads)) n ≡ Some p → slice_get letters n ≡ Some (unnumbered p)
letter_there heads to letters n p is found =
    let packets = packets_posted (map (whole_entry letters) heads) in
    ap (λ (ls : List (Letter _)). slice_get ls n) (sym (letters_posted_are zero heads to letters is))
    ∙ slice_get-append (map unnumbered packets) (drop to letters) n (unnumbered p) (map_at unnumbered packets n p found)

pub some_packet : {B : Type 0} (found : Option (Packet B)) → IsSome found → (p : Packet B) × (found ≡ Some p)
some_packet None some = cc
some_packet (Some p) some = (p, refl)

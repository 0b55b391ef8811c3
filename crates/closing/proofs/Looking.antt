-- Whether a view above a limit was suspected, entry by entry.
use Rattle.std.proofs.Common.{add-one, arith, ◌≡◌, ◌<◌, ◌≤◌, ℕ, ◌+◌, zero, suc, List, [], ◌∷◌, ◌++◌, length, map, take, take_all, drop, reverse, get_or, refl, sym, ap, ◌∙◌, subst}
use Rattle.std.specs.List.{AllByRecursion}
use Rattle.std.proofs.Math.Seq.{take-suc}
use Rattle.std.proofs.lemmas.List.{length-map, take-append-drop}
use Rattle.journal.specs.declared.entries.Head.{Head}
use Rattle.journal.specs.declared.journal.JournalEntry.{JournalEntry}
use Rattle.journal.specs.declared.journal.JournalEntry.TheVariants.{Post, Draw, Lose, Local, Idle, Refused}
use Rattle.journal.specs.Pool.{past}
use Rattle.journal.specs.Entries.{head_of}
use Rattle.journal.proofs.Lists.{past-push}
use Rattle.run_laws.specs.Laws.{EntrySuspectsUpTo, IsSuspectedUpTo}
use Rattle.closing.specs.Views.{HeadSuspectsUpTo}
use Rattle.closing.proofs.Turned.{past_joined}

all_behind : {X : Type 0} (P : X → Type 0) (xs ys : List X) → AllByRecursion P (xs ++ ys) → AllByRecursion P ys
all_behind P [] ys all = all
all_behind P (x ∷ xs) ys all = all_behind P xs ys all.1

-- an entry suspects what it does without its letters
head_suspects : {B : Type 0} (limit : ℕ) (e : JournalEntry B) → HeadSuspectsUpTo limit (head_of e) → EntrySuspectsUpTo limit e
head_suspects limit (Post actor first letters lost) suspects = tt
head_suspects limit (Draw actor id keep) suspects = tt
head_suspects limit (Lose actor id) suspects = tt
head_suspects limit (Local actor input) suspects = suspects
head_suspects limit (Idle actor) suspects = tt
head_suspects limit (Refused actor) suspects = tt

suspects_head : {B : Type 0} (limit : ℕ) (e : JournalEntry B) → EntrySuspectsUpTo limit e → HeadSuspectsUpTo limit (head_of e)
suspects_head limit (Post actor first letters lost) suspects = tt
suspects_head limit (Draw actor id keep) suspects = tt
suspects_head limit (Lose actor id) suspects = tt
suspects_head limit (Local actor input) suspects = suspects
suspects_head limit (Idle actor) suspects = tt
suspects_head limit (Refused actor) suspects = tt

module _ {B : Type 0} (limit : ℕ) (entries : List (JournalEntry B)) (i : ℕ) (e : JournalEntry B) (within : i < length entries) (is : e ≡ get_or entries i e) where
  past_more : past (take (i + 1) entries) ≡ e ∷ past (take i entries)
  past_more = rw (add-one i, take-suc entries i e within, sym is) (past-push (take i entries) e)

  -- one more
  pub suspects_more : IsSuspectedUpTo limit (past (take i entries)) → EntrySuspectsUpTo limit e → IsSuspectedUpTo limit (past (take (i + 1) entries))
  suspects_more before here = subst (λ l. IsSuspectedUpTo limit l) (sym past_more) (here, before)

  -- where none was in all of them, none was in this one
  pub suspects_one : IsSuspectedUpTo limit (past entries) → EntrySuspectsUpTo limit e
  suspects_one all =
      let first = take (i + 1) entries in
      let rest = drop (i + 1) entries in
      let joined = ap past (sym (take-append-drop (i + 1) entries)) ∙ past_joined first rest in
      (subst (λ l. IsSuspectedUpTo limit l) past_more
      (all_behind (λ x. EntrySuspectsUpTo limit x) (reverse rest) (past first) (subst (λ l. IsSuspectedUpTo limit l) joined all))).0

-- the entry of a head
entry_there : {B : Type 0} (entries : List (JournalEntry B)) (i : ℕ) (h : Head) → i < length (map head_of entries) → h ≡ get_or (map head_of entries) i h →
    (e : JournalEntry B) × (i < length entries) × (e ≡ get_or entries i e) × (h ≡ head_of e)
entry_there [] i h within is = absurd (omega (arith, within))
entry_there (e ∷ entries) zero h within is = (e, omega arith, refl, is)
entry_there (e ∷ entries) (suc i) h within is =
    let behind = entry_there entries i h (omega (arith, within)) is in
    let inside = behind.1 in
    (behind.0, omega (arith, inside), behind.2, behind.3)

module _ {B : Type 0} (limit : ℕ) (entries : List (JournalEntry B)) (heads : List Head) (are : heads ≡ map head_of entries) (i : ℕ) (h : Head)
    (within : i < length heads) (is : h ≡ get_or heads i h) where
  -- the same by the heads of the entries
  pub head_more : IsSuspectedUpTo limit (past (take i entries)) → HeadSuspectsUpTo limit h → IsSuspectedUpTo limit (past (take (i + 1) entries))
  head_more before here =
      let there = entry_there entries i h (subst (λ l. i < length l) are within) (subst (λ l. h ≡ get_or l i h) are is) in
      suspects_more limit entries i there.0 there.1 there.2 before (head_suspects limit there.0 (subst (λ x. HeadSuspectsUpTo limit x) there.3 here))

  pub head_one : IsSuspectedUpTo limit (past entries) → HeadSuspectsUpTo limit h
  head_one all =
      let there = entry_there entries i h (subst (λ l. i < length l) are within) (subst (λ l. h ≡ get_or l i h) are is) in
      subst (λ x. HeadSuspectsUpTo limit x) (sym there.3) (suspects_head limit there.0 (suspects_one limit entries i there.0 there.1 there.2 all))

-- all of them were looked at
pub all_looked : {B : Type 0} (entries : List (JournalEntry B)) (heads : List Head) → heads ≡ map head_of entries → (i : ℕ) → length heads ≤ i → take i entries ≡ entries
all_looked entries heads are i long =
    let as_long : length heads ≡ length entries = ap length are ∙ length-map entries head_of in
    take_all i entries (omega (arith, as_long, long))

-- The part of an actor, of a journal that grew by entries of one actor.
use Rattle.std.proofs.Common.{◌≡◌, ◌≢◌, Bool, true, false, cond, List, [], ◌∷◌, ◌++◌, refl, sym, ap, ◌∙◌, subst, arith}
use Rattle.std.specs.Prelude.{Contains}
use Rattle.std.specs.List.{AllByRecursion, IsDistinct}
use Rattle.std.proofs.lemmas.Bool.{eqb-true, eq-eqb}
use Rattle.std.proofs.lemmas.Map.Keys.{IsDistinct-head, IsDistinct-tail}
use Rattle.std.proofs.lemmas.Map.Made.{Contains-tail}
use Rattle.std.proofs.lemmas.List.Elements.{Contains-append_right}
use Rattle.journal.specs.declared.journal.Actor.{Actor}
use Rattle.journal.specs.declared.journal.Actor.TheVariants.{Controller, Switch}
use Rattle.journal.specs.declared.journal.JournalEntry.{JournalEntry}
use Rattle.journal.specs.Actors.{same_actor, actor_of}
use Rattle.journal.specs.Part.{part, drawn}
use Rattle.journal.specs.Pool.{past}
use Rattle.shared_wire.specs.Rule.{AreNamed}
use Rattle.shared_wire.specs.Calls.{beside_seat}
use Rattle.shared_wire.proofs.Lists.{all_contains, all_reverse, contains_none}

pub same_is : (a b : Actor) → same_actor a b ≡ true → a ≡ b
same_is (Controller i) (Controller j) e = ap Controller (eqb-true i j e)
same_is (Switch i) (Switch j) e = ap Switch (eqb-true i j e)
same_is (Controller i) (Switch j) e = cc
same_is (Switch i) (Controller j) e = cc

pub same_refl : (a : Actor) → same_actor a a ≡ true
same_refl (Controller i) = eq-eqb i i refl
same_refl (Switch i) = eq-eqb i i refl

pub same_of : (a b : Actor) → a ≡ b → same_actor a b ≡ true
same_of a b e = subst (λ (x : Actor). same_actor a x ≡ true) e (same_refl a)

pub not_same : (a b : Actor) → a ≢ b → same_actor a b ≡ false
not_same a b ne = differ (same_actor a b) refl
  where
    differ : (t : Bool) → same_actor a b ≡ t → t ≡ false
    differ true is = absurd (ne (same_is a b is))
    differ false is = refl

apart : (a b : Actor) → same_actor a b ≡ false → a ≢ b
apart a b differ e = absurd (let h : true ≡ false = sym (same_of a b e) ∙ differ in cc)

-- in a list in which no actor stands twice, one does not stand among those before it
pub not_before : (xs ys : List Actor) (a : Actor) → IsDistinct same_actor (xs ++ a ∷ ys) → ¬ (Contains xs a)
not_before [] ys a distinct h = contains_none a h
not_before (x ∷ xs) ys a distinct h =
    let head = IsDistinct-head same_actor x (xs ++ a ∷ ys) distinct in
    let other : x ≢ a = apart x a (all_contains (λ y. same_actor x y ≡ false) (xs ++ a ∷ ys) a head (Contains-append_right xs (a ∷ ys) a (0, omega arith, refl))) in
    not_before xs ys a (IsDistinct-tail same_actor x (xs ++ a ∷ ys) distinct) (Contains-tail x xs a other h)

-- entries that all name an actor
abbrev pub AllBy : {B : Type 0} → Actor → List (JournalEntry B) → Type 0
AllBy a entries = AllByRecursion (λ e. actor_of e ≡ a) entries

module _ {B : Type 0} where
  part_more : (a : Actor) (e : JournalEntry B) (before : List (JournalEntry B)) (t : Bool) → same_actor (actor_of e) a ≡ t → part a (e ∷ before) ≡ cond t ((e, drawn e before) ∷ part a before) (part a before)
  part_more a e before t is = ap (λ b. cond b ((e, drawn e before) ∷ part a before) (part a before)) is

  -- entries of the actor stand beside their packets before its older part
  pub part-own : (a : Actor) (entries before : List (JournalEntry B)) → AllBy a entries → part a (entries ++ before) ≡ beside_seat entries before ++ part a before
  part-own a [] before all = refl
  part-own a (e ∷ entries) before all = part_more a e (entries ++ before) true (same_of (actor_of e) a all.0) ∙ ap (λ l. (e, drawn e (entries ++ before)) ∷ l) (part-own a entries before all.1)

  -- entries of another actor leave it was
  pub part-other : (a b : Actor) (entries before : List (JournalEntry B)) → AllBy b entries → a ≢ b → part a (entries ++ before) ≡ part a before
  part-other a b [] before all ne = refl
  part-other a b (e ∷ entries) before all ne = part_more a e (entries ++ before) false (not_same (actor_of e) a (λ q. ne (sym q ∙ all.0))) ∙ part-other a b entries before all.1 ne

  none_of : (actors : List Actor) (a : Actor) → ¬ (Contains actors a) → (entries : List (JournalEntry B)) → AreNamed actors entries → part a entries ≡ []
  none_of actors a none [] named = refl
  none_of actors a none (e ∷ entries) named = part_more a e entries false (not_same (actor_of e) a (λ q. none (subst (Contains actors) q named.0))) ∙ none_of actors a none entries named.1

  -- an actor that a journal doesn't name has no part of it
  pub part-unnamed : (actors : List Actor) (a : Actor) (journal : List (JournalEntry B)) → AreNamed actors journal → ¬ (Contains actors a) → part a (past journal) ≡ []
  part-unnamed actors a journal named none = none_of actors a none (past journal) (all_reverse (λ e. Contains actors (actor_of e)) journal named)

-- Rows of one priority and match.
use Rattle.std.proofs.Common.{◌≡◌, ℕ, true, false, refl, sym, ◌∙◌, ap}
use Rattle.std.specs.Prelude.{Option, Some, None, nat_eq}
use Rattle.std.proofs.lemmas.Bool.{and_from, and_parts, eqb-true, eq-eqb}
use Rattle.of_types.specs.declared.message.Row.{Row}
use Rattle.of_types.specs.Matching.{same_match}
use Rattle.of_types.proofs.SameMatches.{match_is, match_itself}
use Rattle.flow_table.specs.Table.{same_key}

-- two answers differ
pub unlike : false ≡ true → ⊥
unlike h = cc

pub same_some : {A : Type 0} (a b : A) → Some a ≡ Some b → a ≡ b
same_some {A} a b h = ap get h
  where
    get : Option A → A
    get (Some x) = x
    get None = a

-- two rows have one priority and one match
pub record HaveOneKey (a b : Row) : Type 0 where
  pub priority : a.priority ≡ b.priority
  pub matching : a.matching ≡ b.matching

pub key_is : (a b : Row) → same_key a b ≡ true → HaveOneKey a b
key_is a b e =
    let p = and_parts (nat_eq a.priority b.priority) (same_match a.matching b.matching) e in
    record { priority = eqb-true a.priority b.priority p.0; matching = match_is a.matching b.matching p.1 }

pub key_from : (a b : Row) → HaveOneKey a b → same_key a b ≡ true
key_from a b k = rw (k.priority, k.matching) (and_from _ _ (eq-eqb b.priority b.priority refl) (match_itself b.matching))

-- two rows with the key of a third have one key
pub key_both : (a b c : Row) → same_key a c ≡ true → same_key b c ≡ true → same_key a b ≡ true
key_both a b c e f =
    let j = key_is a c e in
    let k = key_is b c f in
    key_from a b (record { priority = j.priority ∙ sym k.priority; matching = j.matching ∙ sym k.matching })

pub key_back : (a b : Row) → same_key a b ≡ true → same_key b a ≡ true
key_back a b e =
    let k = key_is a b e in key_from b a (record { priority = sym k.priority; matching = sym k.matching })

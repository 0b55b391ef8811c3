-- The two laws of a match: what is read is spelled so, and what is spelled so is read.
use Rattle.std.proofs.Common.{◌≡◌, ℕ, zero, suc, ◌+◌, ◌*◌, ◌≤◌, false, cond, List, [], ◌∷◌, ◌++◌, length, Ok, refl, sym, ap, ◌∙◌, append_assoc, arith}
use Rattle.std.specs.Prelude.{is_some}
use Rattle.std.specs.List.{AllByRecursion}
use Rattle.std.proofs.lemmas.List.{append-nil, length-append}
use Rattle.std.proofs.lemmas.List.Concat.{flat_map-cons}
use Rattle.of_types.specs.declared.message.Match.{Match}
use Rattle.of_match.specs.Field.{Field, IsField, number_of, payload, field_bytes}
use Rattle.of_bytes.specs.Reading.{◌>>=◌}
use Rattle.of_match.specs.Reading.{is_repeated, field_at, fields_at, said_at, match_of}
use Rattle.of_match.specs.Writing.{spelled}
use Rattle.of_match.specs.Spelling.{IsNewAfter}
use Rattle.of_match.specs.declared.fault.MatchFault.{MatchFault}
use Rattle.of_bytes.proofs.Bytes.{IsBytes}
use Rattle.of_bytes.proofs.Steps.{bind_ok, ok_is}
use Rattle.of_match.proofs.Loop.{turn}
use Rattle.of_match.proofs.Fields.{TakesField, field_takes, field_again}

-- one field more
pub spelled-cons : (field : Field) (fields : List Field) → spelled (field ∷ fields) ≡ field_bytes field ++ spelled fields
unfolding spelled
spelled-cons field fields = flat_map-cons field_bytes field fields

-- ---- what is spelled so is read

some_bytes : (field : Field) (rest : List ℕ) → (left : ℕ) × (length (field_bytes field ++ rest) ≡ suc left) × (length rest ≤ left)
some_bytes field rest = (length (0 ∷ (2 * number_of field.kind + cond (is_some field.mask) 1 0) ∷ length (payload field) ∷ payload field ++ rest), refl, omega (arith, length-append (payload field) rest))

-- one turn over a field that is there
step_again : (count : ℕ) (before : List Field) (field : Field) (rest : List ℕ) → length (field_bytes field ++ rest) ≤ count → IsField field → is_repeated (number_of field.kind) before ≡ false
    → (left : ℕ) × (length rest ≤ left) × (fields_at count before (field_bytes field ++ rest) ≡ fields_at left (before ++ field ∷ []) rest)
step_again count before field rest enough fits new =
    let size = some_bytes field rest in
    let t = turn count before (field_bytes field ++ rest) (omega (arith, size.1)) enough in
    let goes : (field_at before (field_bytes field ++ rest) >>= λ next. fields_at t.0 (before ++ next.0 ∷ []) next.1) ≡ fields_at t.0 (before ++ field ∷ []) rest = rw (field_again before field rest fits new) refl in
    (t.0, omega (arith, size.1, size.2, t.1), t.2 ∙ goes)

fields_again : (fields before : List Field) (count : ℕ) → length (spelled fields) ≤ count → AllByRecursion IsField fields → IsNewAfter before fields
    → fields_at count before (spelled fields) ≡ Ok (before ++ fields)
unfolding spelled fields_at
fields_again [] before zero enough each once = ap (λ (fs : List Field). Ok fs) (sym (append-nil before))
fields_again [] before (suc count) enough each once = ap (λ (fs : List Field). Ok fs) (sym (append-nil before))
fields_again (field ∷ fields) before count enough each once =
    let e = spelled-cons field fields in
    let s = step_again count before field (spelled fields) (omega (arith, ap length e)) each.0 once.0 in
    let more = fields_again fields (before ++ field ∷ []) s.0 s.1 each.1 once.1 in
    ap (fields_at count before) e ∙ s.2 ∙ more ∙ ap (λ (fs : List Field). Ok fs) (append_assoc before (field ∷ []) fields)

-- ---- what is read was spelled so

-- The fields that were read stand in the bytes, behind those before.
pub record AreRead (before : List Field) (text : List ℕ) (all fields : List Field) : Type 0 where
  pub joined : all ≡ before ++ fields
  pub spelling : text ≡ spelled fields
  pub each : AllByRecursion IsField fields
  pub once : IsNewAfter before fields

one_more_read : (before : List Field) (bytes : List ℕ) (field : Field) (rest : List ℕ) (all fields : List Field) → TakesField before bytes field rest → AreRead (before ++ field ∷ []) rest all fields → AreRead before bytes all (field ∷ fields)
one_more_read before bytes field rest all fields t r = record {
  joined = r.joined ∙ append_assoc before (field ∷ []) fields;
  spelling = t.0.parts ∙ ap (λ (xs : List ℕ). field_bytes field ++ xs) r.spelling ∙ sym (spelled-cons field fields);
  each = (t.1, r.each);
  once = (t.2, r.once);
}

none_read : (before all : List Field) → before ≡ all → AreRead before [] all []
unfolding spelled
none_read before all e = record { joined = sym e ∙ sym (append-nil before); spelling = refl; each = tt; once = tt }

fields_take : (count : ℕ) (before : List Field) (bytes : List ℕ) (all : List Field) → IsBytes bytes → fields_at count before bytes ≡ Ok all → (fields : List Field) × AreRead before bytes all fields
unfolding fields_at
fields_take zero before [] all fits e = ([], none_read before all (ok_is MatchFault before all e))
fields_take (suc count) before [] all fits e = ([], none_read before all (ok_is MatchFault before all e))
fields_take zero before (b ∷ bytes) all fits e = absurd cc
fields_take (suc count) before (b ∷ bytes) all fits e =
    let a = bind_ok (field_at before (b ∷ bytes)) (λ next. fields_at count (before ++ next.0 ∷ []) next.1) all e in
    let t = field_takes before (b ∷ bytes) a.0.0 a.0.1 fits a.1 in
    let more = fields_take count (before ++ a.0.0 ∷ []) a.0.1 all t.0.rest_fits a.2 in
    (a.0.0 ∷ more.0, one_more_read before (b ∷ bytes) a.0.0 a.0.1 all more.0 t more.1)

pub said_again : (fields : List Field) → AllByRecursion IsField fields → IsNewAfter [] fields → said_at (spelled fields) ≡ Ok (match_of fields)
unfolding said_at
said_again fields each once = rw (fields_again fields [] (length (spelled fields)) (omega arith) each once) refl

pub said_takes : (body : List ℕ) (m : Match) → IsBytes body → said_at body ≡ Ok m → (fields : List Field) × (body ≡ spelled fields) × AllByRecursion IsField fields × IsNewAfter [] fields × (match_of fields ≡ m)
unfolding said_at
said_takes body m fits e =
    let a = bind_ok (fields_at (length body) [] body) (λ fields. Ok (match_of fields)) m e in
    let r = fields_take (length body) [] body a.0 fits a.1 in
    (r.0, r.1.spelling, r.1.each, r.1.once, ap match_of (sym r.1.joined) ∙ ok_is MatchFault (match_of a.0) m a.2)

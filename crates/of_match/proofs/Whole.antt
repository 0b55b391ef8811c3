-- The two laws of a whole match.
use Rattle.std.proofs.Common.{◌≡◌, ℕ, ◌+◌, ◌-◌, ◌^◌, ◌<◌, ◌≤◌, Bool, true, false, cond, not, eqb, ltb, leb, List, ◌++◌, length, take, drop, lit<, Result, Ok, Err, refl, sym, ap, subst, ◌∙◌, append_assoc, arith}
use Rattle.std.specs.Prelude.{◌||◌, ◌&&◌}
use Rattle.std.proofs.Math.Seq.{take-add}
use Rattle.std.proofs.lemmas.Bool.{ltb-false, le-ltb, eqb-true, eq-eqb, le-leb}
use Rattle.std.proofs.lemmas.List.{length-append, length-take, length-drop, take_at, take-append-drop, take-take}
use Rattle.of_bytes.specs.Numbers.{big_number, big_bytes}
use Rattle.of_types.specs.declared.message.Match.{Match}
use Rattle.of_match.specs.declared.fault.MatchFault.{MatchFault}
use Rattle.of_match.specs.declared.fault.MatchFault.TheVariants.{BadType, BadLength, Prerequisite}
use Rattle.of_match.specs.Field.{Field}
use Rattle.of_bytes.specs.Reading.{◌>>=◌}
use Rattle.of_types.specs.Sizes.{padded}
use Rattle.of_match.specs.Reading.{said_at, match_body_at, has_prerequisites, match_at}
use Rattle.of_match.specs.Writing.{spelled}
use Rattle.of_match.specs.Spelling.{SpelledBy, IsSpelled}
use Rattle.of_bytes.proofs.Bytes.{big_from-lt, IsBytes, IsBytes-drop, IsBytes-take, bytes_number, number_bytes}
use Rattle.of_bytes.proofs.Steps.{bind_ok, passed, ended, ok_is, or_false, not_false}
use Rattle.of_match.proofs.Matches.{said_again, said_takes}

-- The first four bytes are the type 1 and the length, and there are as many bytes as that takes.
pub record HasHeader (bytes : List ℕ) (len : ℕ) : Type 0 where
  pub there : 4 ≤ length bytes
  pub type_is : big_number 2 bytes ≡ 1
  pub len_is : big_number 2 (drop 2 bytes) ≡ len
  pub least : 4 ≤ len
  pub room : padded len ≤ length bytes

and_false : (a b : Bool) → b ≡ false → (a && b) ≡ false
and_false true b e = e
and_false false b e = refl

pub body_again : (bytes : List ℕ) (len : ℕ) → HasHeader bytes len → match_body_at bytes ≡ Ok (take (len - 4) (drop 4 bytes), padded len)
unfolding match_body_at
body_again bytes len h =
    let typed : not (eqb (big_number 2 bytes) 1) ≡ false = ap not (eq-eqb (big_number 2 bytes) 1 h.type_is) in
    let a : ltb (length bytes) 4 ≡ false = le-ltb (length bytes) 4 h.there in
    let b : ltb len 4 ≡ false = le-ltb len 4 h.least in
    let c : ltb (length bytes) (padded len) ≡ false = le-ltb (length bytes) (padded len) h.room in
    rw (and_false (leb 2 (length bytes)) (not (eqb (big_number 2 bytes) 1)) typed, h.len_is, a, b, c) refl

is_one : (there wrong : Bool) → (there && wrong) ≡ false → there ≡ true → wrong ≡ false
is_one true wrong e h = e
is_one false wrong e h = absurd cc

pub body_takes : (bytes body : List ℕ) (taken : ℕ) → match_body_at bytes ≡ Ok (body, taken) → (len : ℕ) × HasHeader bytes len × (body ≡ take (len - 4) (drop 4 bytes)) × (taken ≡ padded len)
unfolding match_body_at
body_takes bytes body taken e =
    let len = big_number 2 (drop 2 bytes) in
    let wrong = not (eqb (big_number 2 bytes) 1) in
    let made : Result (List ℕ × ℕ) MatchFault = Ok (take (len - 4) (drop 4 bytes), padded len) in
    let p0 = passed (leb 2 (length bytes) && wrong) BadType (cond (ltb (length bytes) 4 || ltb len 4 || ltb (length bytes) (padded len)) (Err BadLength) made) (body, taken) e in
    let p1 = passed (ltb (length bytes) 4 || ltb len 4 || ltb (length bytes) (padded len)) BadLength made (body, taken) p0.1 in
    let f = or_false (ltb (length bytes) 4 || ltb len 4) (ltb (length bytes) (padded len)) p1.0 in
    let g = or_false (ltb (length bytes) 4) (ltb len 4) f.0 in
    let there : 4 ≤ length bytes = ltb-false (length bytes) 4 g.0 in
    let right = is_one (leb 2 (length bytes)) wrong p0.0 (le-leb 2 (length bytes) (omega arith)) in
    let same = ok_is MatchFault (take (len - 4) (drop 4 bytes), padded len) (body, taken) p1.1 in (
      len,
      record { there = there; type_is = eqb-true (big_number 2 bytes) 1 (not_false (eqb (big_number 2 bytes) 1) right); len_is = refl; least = ltb-false len 4 g.1; room = ltb-false (length bytes) (padded len) f.1 },
      ap (λ (x : List ℕ × ℕ). x.0) (sym same),
      ap (λ (x : List ℕ × ℕ). x.1) (sym same),
    )

-- ---- what is spelled so is read

chosen_ok : (b : Bool) (x : Match × ℕ) → b ≡ true → cond b (Ok x) (Err Prerequisite) ≡ Ok x
chosen_ok true x e = refl
chosen_ok false x e = absurd cc

match_from_body : (bytes body : List ℕ) (taken : ℕ) (m : Match) → match_body_at bytes ≡ Ok (body, taken) → said_at body ≡ Ok m → has_prerequisites m ≡ true → match_at bytes ≡ Ok (m, taken)
unfolding match_at
match_from_body bytes body taken m b s p = rw (b, s) (chosen_ok (has_prerequisites m) (m, taken) p)

header_spelled : (body tail : List ℕ) → 4 + length body < 2 ^ 16 → padded (4 + length body) ≤ 4 + length (body ++ tail)
    → HasHeader (big_bytes 2 1 ++ (big_bytes 2 (4 + length body) ++ (body ++ tail))) (4 + length body)
header_spelled body tail short room = record {
  there = omega arith;
  type_is = number_bytes 2 1 (big_bytes 2 (4 + length body) ++ (body ++ tail)) (lit< tt);
  len_is = number_bytes 2 (4 + length body) (body ++ tail) short;
  least = omega arith;
  room = omega arith;
}

body_spelled : (body tail : List ℕ) → 4 + length body < 2 ^ 16 → padded (4 + length body) ≤ 4 + length (body ++ tail)
    → match_body_at (big_bytes 2 1 ++ (big_bytes 2 (4 + length body) ++ (body ++ tail))) ≡ Ok (body, padded (4 + length body))
body_spelled body tail short room =
    let whole : List ℕ = big_bytes 2 1 ++ (big_bytes 2 (4 + length body) ++ (body ++ tail)) in
    let again = body_again whole (4 + length body) (header_spelled body tail short room) in
    let taken : take (4 + length body - 4) (drop 4 whole) ≡ body = take_at body tail (4 + length body - 4) (omega arith) in
    again ∙ ap (λ (b : List ℕ). Ok (b, padded (4 + length body))) taken

pub match_again : (bytes text rest : List ℕ) (m : Match) (fields : List Field) (padding : List ℕ) → bytes ≡ text ++ rest → SpelledBy text m fields padding → match_at bytes ≡ Ok (m, length text)
match_again bytes text rest m fields padding e s =
    let body = spelled fields in
    let front = big_bytes 2 1 ++ big_bytes 2 (4 + length body) in
    let size : length text ≡ padded (4 + length body) = ap length s.whole ∙ omega (arith, length-append (front ++ body) padding, length-append front body, s.filled) in
    let regrouped : bytes ≡ big_bytes 2 1 ++ (big_bytes 2 (4 + length body) ++ (body ++ (padding ++ rest))) =
    e ∙ ap (λ (t : List ℕ). t ++ rest) s.whole ∙ append_assoc (front ++ body) padding rest ∙ append_assoc front body (padding ++ rest) in
    let room : padded (4 + length body) ≤ 4 + length (body ++ (padding ++ rest)) = omega (arith, s.filled, length-append body (padding ++ rest), length-append padding rest) in
    let b : match_body_at bytes ≡ Ok (body, padded (4 + length body)) = ap match_body_at regrouped ∙ body_spelled body (padding ++ rest) s.short room in
    let said : said_at body ≡ Ok m = said_again fields s.each s.once ∙ ap (λ (x : Match). Ok x) s.said in
    match_from_body bytes body (padded (4 + length body)) m b said s.prerequisites ∙ ap (λ n. Ok (m, n)) (sym size)

-- ---- what is read was spelled so

four_parts : (bytes : List ℕ) (len all : ℕ) → 4 ≤ len → len ≤ all
    → take all bytes ≡ (take 2 bytes ++ take 2 (drop 2 bytes) ++ take (len - 4) (drop 4 bytes)) ++ drop len (take all bytes)
four_parts bytes len all least more =
    let front : take 4 bytes ≡ take 2 bytes ++ take 2 (drop 2 bytes) = take-add 2 2 bytes in
    let k : len ≡ 4 + (len - 4) = omega arith in
    let fields : take len bytes ≡ take 4 bytes ++ take (len - 4) (drop 4 bytes) = ap (λ n. take n bytes) k ∙ take-add 4 (len - 4) bytes in
    let same : take len (take all bytes) ≡ take len bytes = take-take len all bytes more in
    sym (take-append-drop len (take all bytes)) ∙ ap (λ (t : List ℕ). t ++ drop len (take all bytes)) (same ∙ fields ∙ ap (λ (t : List ℕ). t ++ take (len - 4) (drop 4 bytes)) front)

-- the bytes of a match: type, length, body and padding
parts : (bytes : List ℕ) (len : ℕ) → IsBytes bytes → HasHeader bytes len
    → take (padded len) bytes ≡ (big_bytes 2 1 ++ big_bytes 2 len ++ take (len - 4) (drop 4 bytes)) ++ drop len (take (padded len) bytes)
parts bytes len fits h =
    let there = h.there in
    let least = h.least in
    let one : big_bytes 2 1 ≡ take 2 bytes = ap (big_bytes 2) (sym h.type_is) ∙ bytes_number 2 bytes fits (omega arith) in
    let two : big_bytes 2 len ≡ take 2 (drop 2 bytes) = ap (big_bytes 2) (sym h.len_is) ∙ bytes_number 2 (drop 2 bytes) (IsBytes-drop 2 bytes fits) (omega (arith, length-drop 2 bytes)) in
    let fields = take (len - 4) (drop 4 bytes) in
    let padding = drop len (take (padded len) bytes) in
    four_parts bytes len (padded len) h.least (omega arith)
    ∙ ap (λ (a : List ℕ). (a ++ take 2 (drop 2 bytes) ++ fields) ++ padding) (sym one)
    ∙ ap (λ (b : List ℕ). (big_bytes 2 1 ++ b ++ fields) ++ padding) (sym two)

spelled_from : (bytes : List ℕ) (len : ℕ) (m : Match) → IsBytes bytes → HasHeader bytes len → said_at (take (len - 4) (drop 4 bytes)) ≡ Ok m → has_prerequisites m ≡ true → IsSpelled (take (padded len) bytes) m
spelled_from bytes len m fits h said needed =
    let there = h.there in
    let least = h.least in
    let room = h.room in
    let body = take (len - 4) (drop 4 bytes) in
    let f = said_takes body m (IsBytes-take (len - 4) (drop 4 bytes) (IsBytes-drop 4 bytes fits)) said in
    let size : 4 + length (spelled f.0) ≡ len = let e = ap length f.1 in omega (arith, length-take (len - 4) (drop 4 bytes), length-drop 4 bytes) in
    let padding = drop len (take (padded len) bytes) in
    let whole : take (padded len) bytes ≡ (big_bytes 2 1 ++ big_bytes 2 (4 + length (spelled f.0)) ++ spelled f.0) ++ padding =
    parts bytes len fits h ∙ ap (λ (b : List ℕ). (big_bytes 2 1 ++ big_bytes 2 len ++ b) ++ padding) f.1 ∙ ap (λ n. (big_bytes 2 1 ++ big_bytes 2 n ++ spelled f.0) ++ padding) (sym size) in
    let below : len < 2 ^ 16 = let lt = big_from-lt 0 2 (drop 2 bytes) (IsBytes-drop 2 bytes fits) in omega (arith, h.len_is, lt) in (
      f.0,
      padding,
      record {
        whole = whole;
        short = omega arith;
        filled = rw size (omega (arith, length-drop len (take (padded len) bytes), length-take (padded len) bytes));
        each = f.2;
        once = f.3;
        said = f.4;
        prerequisites = needed;
      },
    )

abbrev pair : Match → ℕ → Match × ℕ
pair m n = (m, n)

taken_from : (bytes body : List ℕ) (size : ℕ) (m : Match) (taken : ℕ) (said : Match) → IsBytes bytes → (len : ℕ) × HasHeader bytes len × (body ≡ take (len - 4) (drop 4 bytes)) × (size ≡ padded len)
    → said_at body ≡ Ok said → has_prerequisites said ≡ true → pair said size ≡ pair m taken → (taken ≤ length bytes) × IsSpelled (take taken bytes) m
taken_from bytes body size m taken said fits h read needed same =
    let spelling = spelled_from bytes h.0 said fits h.1 (ap said_at (sym h.2) ∙ read) needed in
    let T : Match × ℕ → Type 0 = λ x. (x.1 ≤ length bytes) × IsSpelled (take x.1 bytes) x.0 in
    let made : T (said, padded h.0) = (h.1.room, spelling) in
    subst T (ap (pair said) (sym h.3) ∙ same) made

pub match_takes : (bytes : List ℕ) (m : Match) (taken : ℕ) → IsBytes bytes → match_at bytes ≡ Ok (m, taken) → (taken ≤ length bytes) × IsSpelled (take taken bytes) m
unfolding match_at
match_takes bytes m taken fits e =
    let a = bind_ok (match_body_at bytes) (λ body. said_at body.0 >>= λ said. cond (has_prerequisites said) (Ok (said, body.1)) (Err Prerequisite)) (m, taken) e in
    let b = bind_ok (said_at a.0.0) (λ said. cond (has_prerequisites said) (Ok (said, a.0.1)) (Err Prerequisite)) (m, taken) a.2 in
    let c = ended (has_prerequisites b.0) Prerequisite (b.0, a.0.1) (m, taken) b.2 in
    let h = body_takes bytes a.0.0 a.0.1 a.1 in
    taken_from bytes a.0.0 a.0.1 m taken b.0 fits h b.1 c.0 c.1

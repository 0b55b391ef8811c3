-- The laws of reading and writing, as the clauses cite them.
use Rattle.std.proofs.Common.{◌≡◌, ℕ, ◌≤◌, ◌++◌, List, length, take, Result, Ok, Err, refl, sym, ap, ◌∙◌, arith}
use Rattle.std.specs.Prelude.{IfOk}
use Rattle.std.proofs.lemmas.List.{length-take}
use Rattle.of_types.specs.declared.message.Match.{Match}
use Rattle.of_match.specs.declared.fault.MatchFault.{MatchFault}
use Rattle.of_match.specs.Reading.{match_at}
use Rattle.of_match.specs.Writing.{canonical_match}
use Rattle.of_types.specs.Valid.{IsValidMatch}
use Rattle.of_types.specs.Sizes.{match_size}
use Rattle.of_match.specs.Spelling.{IsSpelled, Fits}
use Rattle.of_match.proofs.Valid.{valid}
use Rattle.of_match.proofs.Sizes.{has_size}
use Rattle.of_bytes.proofs.Bytes.{IsBytes}
use Rattle.of_match.proofs.Whole.{match_takes, match_again}
use Rattle.of_match.proofs.Canonical.{canonical_spelled}
use Rattle.of_match.proofs.Forms.{spelled_valid, spelled_long}

pub is_found : (bytes : List ℕ) (r : Result (Match × ℕ) MatchFault) → IsBytes bytes → r ≡ match_at bytes → IfOk r (λ x. (x.1 ≤ length bytes) × IsSpelled (take x.1 bytes) x.0)
is_found bytes (Ok x) fits e = match_takes bytes x.0 x.1 fits (sym e)
is_found bytes (Err d) fits e = tt

-- what is read is valid, and is written in no more bytes
pub is_valid : (bytes : List ℕ) (r : Result (Match × ℕ) MatchFault) → IsBytes bytes → r ≡ match_at bytes → IfOk r (λ x. IsValidMatch x.0)
is_valid bytes (Ok x) fits e = spelled_valid (take x.1 bytes) x.0 (match_takes bytes x.0 x.1 fits (sym e)).1
is_valid bytes (Err d) fits e = tt

pub is_short : (bytes : List ℕ) (r : Result (Match × ℕ) MatchFault) → IsBytes bytes → r ≡ match_at bytes → IfOk r (λ x. match_size x.0 ≤ x.1)
is_short bytes (Ok x) fits e = omega (arith, spelled_long (take x.1 bytes) x.0 (match_takes bytes x.0 x.1 fits (sym e)).1, length-take x.1 bytes)
is_short bytes (Err d) fits e = tt

pub is_form : (m : Match) → IsValidMatch m → Fits m → IsSpelled (canonical_match m) m
is_form m v f = canonical_spelled m (valid m v f)

pub reads_back : (m : Match) (rest : List ℕ) → IsValidMatch m → Fits m → match_at (canonical_match m ++ rest) ≡ Ok (m, match_size m)
reads_back m rest v f =
    let s = is_form m v f in
    match_again (canonical_match m ++ rest) (canonical_match m) rest m s.0 s.1 refl s.2 ∙ ap (λ n. Ok (m, n)) (has_size m)

pub spelled_read : (bytes text rest : List ℕ) (m : Match) → bytes ≡ text ++ rest → IsSpelled text m → match_at bytes ≡ Ok (m, length text)
spelled_read bytes text rest m e s = match_again bytes text rest m s.0 s.1 e s.2

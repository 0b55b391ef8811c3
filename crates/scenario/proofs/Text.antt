-- Which bytes are a text.
use Rattle.std.proofs.Common.{◌≡◌, List, ℕ, Bool, true, false, Some, None, Result, Ok, Err, refl, sym}
use Rattle.std.proofs.lemmas.Str.{is_utf8-from_IsUtf8, IsUtf8-from_is_utf8}
use Rattle.std.specs.Prelude.{MatchResult, option_map}
use Rattle.std.specs.Result.{result_ok}
use Rattle.std.specs.Str.{IsUtf8, is_utf8}
use Rattle.scenario.specs.Limits.{only_if}
use Rattle.scenario.specs.Scenario.{text_of}

text_of_text : (bytes : List ℕ) → IsUtf8 bytes → text_of bytes ≡ Some bytes
text_of_text bytes text = rw (is_utf8-from_IsUtf8 bytes text) refl

refused : {A : Type 0} (text : Bool) (found : A) → ¬ (text ≡ true) → only_if text found ≡ None
refused false found other = refl
refused true found other = absurd (other refl)

text_of_other : (bytes : List ℕ) → ¬ (IsUtf8 bytes) → text_of bytes ≡ None
text_of_other bytes other = refused (is_utf8 bytes) bytes (λ is. other (IsUtf8-from_is_utf8 bytes is))

-- what a test of bytes found, seen by view
pub text_of_tested : {S E : Type 0} (P : E → Type 0) (view : S → List ℕ) (tested : Result S E) (bytes : List ℕ) →
    MatchResult tested (λ s. (view s ≡ bytes) × IsUtf8 bytes) (λ e. ¬ (IsUtf8 bytes) × P e) →
    option_map view (result_ok tested) ≡ text_of bytes
text_of_tested P view (Ok s) bytes is = rw is.0 (sym (text_of_text bytes is.1))
text_of_tested P view (Err e) bytes is = sym (text_of_other bytes is.0)

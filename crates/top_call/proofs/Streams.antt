-- Claims on what was read and written, whatever the ends tell of it.
use Rattle.std.proofs.Common.{◌≡◌, ◌++◌, List, ℕ, [], Some, None, sym, ap, append-nil}
use Rattle.std.specs.Prelude.{Option}
use Rattle.std.specs.Io.KnownBytes.{Appends}
use Rattle.streams.specs.Fronts.{AppendsFront}
use Rattle.top_call.specs.Outcome.{IsReadOf, IsWritten}

-- what is told of what was read, where something else follows of the same bytes
pub read_as : {P Q : List ℕ → List ℕ → Type 0} (before after : Option (List ℕ)) → ((input rest : List ℕ) → P input rest → Q input rest) → IsReadOf before after P → IsReadOf before after Q
read_as None after follows (input, rest, holds) = (input, rest, follows input rest holds)
read_as (Some taken) None follows (input, rest, holds) = (input, rest, follows input rest holds)
read_as (Some input) (Some rest) follows holds = follows input rest holds

-- and where it is so of all bytes
pub read_any : {Q : List ℕ → List ℕ → Type 0} (before after : Option (List ℕ)) → ((input rest : List ℕ) → Q input rest) → IsReadOf before after Q
read_any None after holds = ([], [], holds [] [])
read_any (Some taken) None holds = ([], [], holds [] [])
read_any (Some input) (Some rest) holds = holds input rest

-- what was written, if a claim on it holds
pub what_written : {P : List ℕ → Type 0} (taken now : Option (List ℕ)) → IsWritten taken now P → (written : List ℕ) × P written
what_written None now (written, holds) = (written, holds)
what_written (Some taken) now (written, is, holds) = (written, holds)

-- where all of a text was written, a front of it, or nothing
module _ (P : List ℕ → Type 0) where
  pub all_written : (taken now : Option (List ℕ)) (text : List ℕ) → P text → Appends taken now text → IsWritten taken now P
  all_written None now text holds a = (text, holds)
  all_written (Some taken) None text holds a = absurd a
  all_written (Some taken) (Some now) text holds a = (text, ap (λ l. Some l) a, holds)

  pub front_written : (taken now : Option (List ℕ)) (text : List ℕ) → ((front behind : List ℕ) → text ≡ front ++ behind → P front) → AppendsFront taken now text → IsWritten taken now P
  front_written None now text holds (front, behind, whole, a) = (front, holds front behind whole)
  front_written (Some taken) None text holds (front, behind, whole, a) = absurd a
  front_written (Some taken) (Some now) text holds (front, behind, whole, a) = (front, ap (λ l. Some l) a, holds front behind whole)

  pub none_written : (taken : Option (List ℕ)) → P [] → IsWritten taken taken P
  none_written None holds = ([], holds)
  none_written (Some taken) holds = ([], ap (λ l. Some l) (sym (append-nil taken)), holds)

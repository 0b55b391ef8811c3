-- Bytes that are one message of a stream.
use Rattle.std.specs.Prelude.{◌≡◌, ℕ, List, [], Some, Ok}
use Rattle.of_frame.specs.Framing.{next_of, rest_of}

-- a framer lends them all at once, and nothing is left
pub record IsOneFrame (bytes : List ℕ) : Type 0 where
  pub next : next_of bytes ≡ Ok (Some bytes)
  pub rest : rest_of bytes ≡ []

-- Which words the program takes. None of them begins with a dash.
use Rattle.std.specs.Prelude.{ℕ, ◌==◌, nat_le, ◌&&◌, ◌||◌, List, [], ◌∷◌, Option, Some, None, option_and_then, codes, if◌then◌else◌}
use Rattle.std.specs.Str.{bytes_eq}
use Rattle.numerals.specs.Numerals.{numeral}
use Rattle.command_line.specs.declared.words.Job.{Job}
use Rattle.command_line.specs.declared.words.Job.TheVariants.{Sim, Run, Audit, Gen}

-- one part after another, where each may be missing
infixl 10 ◌>>=◌
abbrev pub ◌>>=◌ : {A B : Type 0} → Option A → (A → Option B) → Option B
found >>= next = option_and_then next found

-- a number within bounds, as a numeral
abbrev pub word_within : ℕ → ℕ → List ℕ → Option ℕ
word_within low high word = do
  n ← numeral word
  if nat_le low n && nat_le n high then Some n else None

-- how many controllers there are
abbrev pub group_in_words : List ℕ → Option ℕ
group_in_words word = do
  n ← word_within 1 7 word
  if n == 1 || n == 3 || n == 5 || n == 7 then Some n else None

-- what the generator is given: a number below 2 ^ 32, 1, 3, 5 or 7 controllers, 1 to 64 switches, and 0 to
-- 2,048 frames. So no numeral has more than ten digits
abbrev pub generator_of : List ℕ → List ℕ → List ℕ → List ℕ → Option Job
generator_of first second third fourth = do
  number ← word_within 0 4294967295 first
  controllers ← group_in_words second
  switches ← word_within 1 64 third
  frames ← word_within 0 2048 fourth
  Some (Gen number controllers switches frames)

-- the job of one word
abbrev pub plain_job : List ℕ → Option Job
plain_job word =
    if bytes_eq word (codes "sim") then Some Sim
    else if bytes_eq word (codes "run") then Some Run
    else if bytes_eq word (codes "audit") then Some Audit
    else None

abbrev pub job_of : List (List ℕ) → Option Job
job_of (word ∷ []) = plain_job word
job_of (word ∷ first ∷ second ∷ third ∷ fourth ∷ []) =
    if bytes_eq word (codes "gen") then generator_of first second third fourth else None
job_of _ = None

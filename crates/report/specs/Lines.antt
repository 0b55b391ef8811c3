-- Lines as they are read, one after another. What is read is a value beside the bytes that come behind it, or else how
-- many bytes are left from the first line on that does not fit.
use Rattle.std.specs.Prelude.{◌≡◌, ℕ, zero, suc, Bool, List, [], ◌∷◌, ◌++◌, length, Option, Some, None, Result, Ok, Err, if◌then◌else◌}
use Rattle.of_bytes.specs.Reading.{◌>>=◌}
use denote.Ref.{Bor}
use Rattle.report.specs.declared.fault.Misfit.{Misfit}
use Rattle.report.specs.declared.fault.Misfit.TheVariants as misfit
use Rattle.report.specs.declared.fault.Broken.{Broken}
use Rattle.report.specs.declared.fault.Broken.TheVariants as broken

-- what is read is this error; want of memory says nothing
abbrev pub LineStopsAt : {Y : Type 0} → Broken → Result Y ℕ → Type 0
LineStopsAt (broken.Line left) read = read ≡ Err left
LineStopsAt broken.OutOfMemory read = Unit {0}

-- what a reader answered, seen by view, is what is read
abbrev pub GivesLines : {X Y : Type 0} → (X → Y) → Result X Broken → Result Y ℕ → Type 0
GivesLines view (Ok x) read = read ≡ Ok (view x)
GivesLines view (Err e) read = LineStopsAt e read

-- the same of a reader that answers only what comes behind
abbrev pub PassesLines : {A : Type 0} → Result (Bor (List ℕ)) Broken → Result (A × List ℕ) ℕ → Type 0
PassesLines {A = A} (Ok rest) read = (x : A) × (read ≡ Ok (x, rest.now))
PassesLines (Err e) read = LineStopsAt e read

-- the same of a reader that keeps only this of the value
abbrev pub KeepsLines : {A B : Type 0} → (A → B) → Result (B × Bor (List ℕ)) Broken → Result (A × List ℕ) ℕ → Type 0
KeepsLines {A = A} of (Ok kept) read = (x : A) × (read ≡ Ok (x, kept.1.now)) × (kept.0 ≡ of x)
KeepsLines of (Err e) read = LineStopsAt e read

-- what a reader of one line answered, as a reader of lines from these bytes on answers it
abbrev pub IsOnLine : {X : Type 0} → List ℕ → Result X Misfit → Result X Broken → Type 0
IsOnLine bytes read (Ok x) = read ≡ Ok x
IsOnLine bytes read (Err (broken.Line left)) = (read ≡ Err misfit.Text) × (left ≡ length bytes)
IsOnLine bytes read (Err broken.OutOfMemory) = read ≡ Err misfit.OutOfMemory

-- what was read of the line at the front
abbrev pub line_at : {A : Type 0} → List ℕ → Option A → Result A ℕ
line_at bytes (Some x) = Ok x
line_at bytes None = Err (length bytes)

-- so many lines
unfoldable pub each_at : {A : Type 0} → (List ℕ → Option (A × List ℕ)) → ℕ → List ℕ → Result (List A × List ℕ) ℕ
each_at read zero bytes = Ok ([], bytes)
each_at read (suc n) bytes = do
  first ← line_at bytes (read bytes)
  others ← each_at read n first.1
  Ok (first.0 ∷ others.0, others.1)

-- values behind these, as long as a test holds of what is left. It may hold so many times
unfoldable pub while_at : {A : Type 0} → (List ℕ → Bool) → (List A → List ℕ → Result (A × List ℕ) ℕ) → ℕ → List A → List ℕ → Result (List A × List ℕ) ℕ
while_at test read zero before bytes = if test bytes then Err (length bytes) else Ok (before, bytes)
while_at test read (suc n) before bytes =
    if test bytes then (do
      next ← read before bytes
      while_at test read n (before ++ next.0 ∷ []) next.1)
    else Ok (before, bytes)

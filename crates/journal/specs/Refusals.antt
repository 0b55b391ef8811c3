-- Behind which entry a refusal may stand.
use Rattle.std.specs.Prelude.{List, [], ◌∷◌}
use Rattle.journal.specs.declared.journal.JournalEntry.{JournalEntry}
use Rattle.journal.specs.declared.journal.JournalEntry.TheVariants.{Post, Draw, Lose, Local, Idle, Refused}

-- the newest entry took an input that may want memory: a packet, or a local one
abbrev pub MayBeRefused : {B : Type 0} → List (JournalEntry B) → Type 0
MayBeRefused [] = ⊥
MayBeRefused (Draw a id keep ∷ before) = Unit {0}
MayBeRefused (Local a input ∷ before) = Unit {0}
MayBeRefused (Post a first letters lost ∷ before) = ⊥
MayBeRefused (Lose a id ∷ before) = ⊥
MayBeRefused (Idle a ∷ before) = ⊥
MayBeRefused (Refused a ∷ before) = ⊥

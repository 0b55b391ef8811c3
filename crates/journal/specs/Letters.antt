-- Letters in place or in memory, as the list that they are.
use Rattle.std.specs.Prelude.{List, [], ◌∷◌}
use Rattle.journal.specs.declared.journal.Letter.{Letter}
use Rattle.journal.specs.declared.letters.OneOrMany.{OneOrMany}
use Rattle.journal.specs.declared.letters.OneOrMany.TheVariants.{One, Many}

-- the letters, in order
abbrev pub letters_held : {B : Type 0} → OneOrMany B → List (Letter B)
letters_held (One letter) = letter ∷ []
letters_held (Many letters) = letters.items

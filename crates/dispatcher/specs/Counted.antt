-- What is counted of the lives of switches.
use Rattle.std.specs.Prelude.{ℕ, suc, zero, nat_eq, List, [], ◌∷◌, get_or, if◌then◌else◌}
use Rattle.dispatcher.specs.declared.counts.Counts.{Counts}
use Rattle.dispatcher.specs.declared.counts.LifeCount.{LifeCount}

-- for each switch the lives of which something is counted
abbrev pub Counted : Type 0
Counted = List (List LifeCount)

abbrev pub no_counts : Counts
no_counts = record { processed = 0; issued = 0; settled = 0 }

-- the counts of a life in the row of its switch
abbrev pub counts_in : List LifeCount → ℕ → Counts
counts_in [] life = no_counts
counts_in (c ∷ row) life = if nat_eq c.life life then c.counts else counts_in row life

-- the place of a life there, or how many there are
abbrev pub event_place_of : List LifeCount → ℕ → ℕ
event_place_of [] life = zero
event_place_of (c ∷ row) life = if nat_eq c.life life then zero else suc (event_place_of row life)

-- the counts of a life of a switch
abbrev pub counts_of : Counted → ℕ → ℕ → Counts
counts_of rows switch life = counts_in (get_or rows switch []) life

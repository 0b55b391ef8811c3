-- What a turn makes of a state, where several rules make the same: fronts, proposals, and the letters that go with them.
use Rattle.std.specs.Prelude.{◌≡◌, ℕ, ◌+◌, Bool, true, Option, Some, None, List, [], ◌∷◌, ◌++◌, length, take, drop, map, if◌then◌else◌, ⊤}
use Rattle.agreement.specs.History.{Group, Prepare, PrepareOk, StartView, Letter, abstract_letter, Supplied, State}
use Rattle.agreement.specs.Moves.{appended_to_history}

-- the committed entries that a new primary has: its own, or those that were supplied behind its own first ones
abbrev pub history_front_with : {E : Type 0} → State E → Option (Supplied E) → List E
history_front_with s None = take s.commit s.log
history_front_with s (Some x) = take x.first s.log ++ x.rest

abbrev pub front_of : {E : Type 0} → State E → List E
front_of s = history_front_with s s.supply

-- the letters by which c proposes an entry in the place after its log
abbrev pub prepares_entry : {E : Type 0} → ℕ → List ℕ → State E → E → List (Letter E)
prepares_entry c to s e = map (λ j. abstract_letter c j (Prepare s.view (length s.log + 1) s.commit e)) to

-- entries are proposed, one after another: the state, and the letters behind those before
abbrev pub proposing_entries : {E : Type 0} → State E → List E → State E
proposing_entries s [] = s
proposing_entries s (e ∷ es) = proposing_entries (appended_to_history s (s.log ++ e ∷ [])) es

abbrev pub proposing_letters : {E : Type 0} → ℕ → List ℕ → State E → List E → List (Letter E) → List (Letter E)
proposing_letters c to s [] new = new
proposing_letters c to s (e ∷ es) new = proposing_letters c to (appended_to_history s (s.log ++ e ∷ [])) es (prepares_entry c to s e ++ new)

-- behind this log each of these entries makes a log
abbrev pub AreLogs : {E : Type 0} → Group E → List E → List E → Type 0
AreLogs g log [] = ⊤
AreLogs g log (e ∷ es) = (g.is_log (log ++ e ∷ []) ≡ true) × AreLogs g (log ++ e ∷ []) es

-- the letters by which c tells that it has started its view, without the first entries of its log
abbrev pub tells_view : {E : Type 0} → ℕ → List ℕ → ℕ → State E → List (Letter E)
tells_view c to first s = map (λ j. abstract_letter c j (StartView s.view first s.commit (drop first s.log))) to

-- an acknowledgement, or none
abbrev pub ack_if : {E : Type 0} → Bool → ℕ → ℕ → ℕ → ℕ → List (Letter E)
ack_if acks c to view place = if acks then abstract_letter c to (PrepareOk view place) ∷ [] else []

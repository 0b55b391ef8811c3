-- What members of JSON objects say.
use Rattle.std.specs.Prelude.{ℕ, suc, Bool, false, ◌==◌, List, [], ◌∷◌, Option, Some, None, option_and_then, option_map, unwrap_or, if◌then◌else◌}
use Rattle.serde_json.specs.Data.{Data, Items, Members, no_items, item, no_members, member}
use Rattle.serde_json.specs.Find.{get, as_number, as_u64, as_bool, as_str, as_array, as_object}

-- one part after another, where each may be missing
infixl 10 ◌>>=◌
abbrev pub ◌>>=◌ : {A B : Type 0} → Option A → (A → Option B) → Option B
found >>= next = option_and_then next found

-- a whole number, from 0 to the greatest of 64 bits
abbrev pub number_of_json : Data → Option ℕ
number_of_json value = as_number value >>= as_u64

-- the values of a list
abbrev pub values_of : Items → List Data
values_of no_items = []
values_of (item value items) = value ∷ values_of items

abbrev pub list : Data → Option (List Data)
list value = option_map values_of (as_array value)

-- what a member of an object says
abbrev pub number_member : List ℕ → Data → Option ℕ
number_member name value = get name value >>= number_of_json

abbrev pub flag_at : List ℕ → Data → Option Bool
flag_at name value = get name value >>= as_bool

abbrev pub text_at : List ℕ → Data → Option (List ℕ)
text_at name value = get name value >>= as_str

abbrev pub list_at : List ℕ → Data → Option (List Data)
list_at name value = get name value >>= list

-- the same of a member that may be left out, and then says this
abbrev pub or_says : {A : Type 0} → A → (Data → Option A) → Option Data → Option A
or_says left_out says None = Some left_out
or_says left_out says (Some value) = says value

abbrev pub number_or : ℕ → List ℕ → Data → Option ℕ
number_or left_out name value = or_says left_out number_of_json (get name value)

abbrev pub flag_or : Bool → List ℕ → Data → Option Bool
flag_or left_out name value = or_says left_out as_bool (get name value)

abbrev pub list_or_none : List ℕ → Data → Option (List Data)
list_or_none name value = or_says [] list (get name value)

-- how many members of a name there are: none or one
abbrev pub counted_members : List ℕ → Data → ℕ
counted_members name value = elim (get name value) [ None ↦ 0 | Some said ↦ 1 ]

abbrev pub count_members : Members → ℕ
count_members no_members = 0
count_members (member name value members) = suc (count_members members)

-- what was read of an object that has so many members, and so no others than those that were read
abbrev pub only : {A : Type 0} → ℕ → Data → A → Option A
only count value said = if unwrap_or (option_map (λ members. count_members members == count) (as_object value)) false then Some said else None

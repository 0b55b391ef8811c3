-- The commands of committed events: which are settled, acknowledged and outstanding (Ravana, 4.2). Each of these
-- speaks of a committed log, and of the marks of a view.
use Rattle.std.specs.Prelude.{◌≡◌, ◌≤◌, ℕ, Bool, true, not, nat_eq, nat_le, nat_lt, ◌&&◌, List, [], ◌∷◌, ◌++◌, length, take, drop, filter, get_or, if◌then◌else◌}
use Rattle.std.specs.List.{list_any}
use Rattle.of_types.specs.declared.setup.Setup.{Setup}
use Rattle.of_types.specs.Lives.{has_ended}
use Rattle.of_types.specs.SmallSets.{with_number, without_number}
use Rattle.vr_log.specs.declared.entry.Entry.{Entry}
use Rattle.vr_log.specs.Log.{received, processed}
use Rattle.two_stage_log.specs.Counts.{has_unprocessed}
use Rattle.app_core.specs.Chain.{concat}
use Rattle.app_core.specs.Issued.{count_issued, issues, commands_of}
use Rattle.app_core.specs.declared.issued.Issued.{Issued}

-- what came from switches in a view
pub record Marks : Type 0 where
  pub confirmed : List ℕ  -- the switches that took this controller as master, ascending
  pub acked : List (ℕ × ℕ × ℕ)  -- switch, life and number of the commands whose results came, in the order in which they first did

abbrev pub no_marks : Marks
no_marks = record { confirmed = []; acked = [] }

-- marks as they are kept
pub record KeptMarks : Type 0 where
  pub marks : Marks
  pub room : ℕ  -- for so many results there is room, with those that came

abbrev pub is_confirmed : Marks → ℕ → Bool
is_confirmed marks switch = list_any (λ s. nat_eq s switch) marks.confirmed

-- the result of a command came
abbrev pub has_result : Marks → ℕ → ℕ → ℕ → Bool
has_result marks switch life number = list_any (λ a. nat_eq a.0 switch && nat_eq a.1 life && nat_eq a.2 number) marks.acked

-- no result came of a command whose number is above the highest one of its switch
abbrev pub AreWithin : Marks → List ℕ → Type 0
AreWithin marks highest = (switch life number : ℕ) → has_result marks switch life number ≡ true → number ≤ get_or highest switch 0

-- a switch takes this controller as master, or does no more
abbrev pub confirmed_by : Marks → ℕ → Marks
confirmed_by marks switch = record marks { confirmed = with_number switch marks.confirmed }

abbrev pub off_role : Marks → ℕ → Marks
off_role marks switch = record marks { confirmed = without_number switch marks.confirmed }

-- how many commands of processed events a life of a switch has
abbrev pub settled_commands : List ℕ → Setup → List Entry → ℕ → ℕ → ℕ
settled_commands kinds setup log switch life =
    count_issued switch life (concat (take (processed log) (issues kinds setup (received log))))

-- the commands of events that are not processed
abbrev pub unsettled : List ℕ → Setup → List Entry → List Issued
unsettled kinds setup log = concat (drop (processed log) (issues kinds setup (received log)))

-- a number is that of a command of an event that is not processed
abbrev pub is_pending : List ℕ → Setup → List Entry → ℕ → ℕ → ℕ → Bool
is_pending kinds setup log switch life number =
    nat_le (settled_commands kinds setup log switch life) number
    && nat_lt number (count_issued switch life (concat (issues kinds setup (received log))))

-- a result counts once
abbrev pub with_mark : Marks → ℕ → ℕ → ℕ → Marks
with_mark marks switch life number =
    if has_result marks switch life number then marks else record marks { acked = marks.acked ++ (switch, life, number) ∷ [] }

-- the result of such a command counts
abbrev pub with_marked_result : List ℕ → Setup → List Entry → Marks → ℕ → ℕ → ℕ → Marks
with_marked_result kinds setup log marks switch life number =
    if is_pending kinds setup log switch life number then with_mark marks switch life number else marks

-- the results of other commands are forgotten
abbrev pub pending_alone : List ℕ → Setup → List Entry → Marks → Marks
pending_alone kinds setup log marks = record marks { acked = filter (λ a. is_pending kinds setup log a.0 a.1 a.2) marks.acked }

-- a command still wants a result: none came, and its life goes on
abbrev pub is_wanted : List Entry → Marks → Issued → Bool
is_wanted log marks x = not (has_result marks x.switch x.life x.number) && not (has_ended x.switch x.life (received log))

-- the commands of the first unprocessed event that want one
abbrev pub wanted : List ℕ → Setup → List Entry → Marks → List Issued
wanted kinds setup log marks = filter (is_wanted log marks) (commands_of kinds setup (received log) (processed log))

-- those of them on confirmed switches
abbrev pub outstanding : List ℕ → Setup → List Entry → Marks → List Issued
outstanding kinds setup log marks = filter (λ x. is_confirmed marks x.switch) (wanted kinds setup log marks)

-- there is a first unprocessed event, and none of its commands wants a result
abbrev pub is_finished : List ℕ → Setup → List Entry → Marks → Bool
is_finished kinds setup log marks = has_unprocessed log && nat_eq (length (wanted kinds setup log marks)) 0

-- Switches that forget: what rules read of a switch, and what it says in turns between which it may forget its past.
use Rattle.std.specs.Prelude.{◌≡◌, List, [], ◌∷◌}
use Rattle.journal.specs.declared.journal.Letter.{Letter}
use Rattle.of_switch.specs.declared.says.SwitchInput.{SwitchInput}
use Rattle.of_switch.specs.declared.says.SwitchSays.{SwitchSays}
use Rattle.of_switch.specs.Rules.{switch_turn}
use Rattle.of_switch.specs.State.{SwitchState, SwitchTurn, forgets_past}

-- a switch in all that its letters depend on: neither the frames that it counted nor its past
abbrev pub present : SwitchState → SwitchState
present s = record s { sent = 0; events = []; executed = []; ended = []; gone = 0 }

-- two switches that agree in that
abbrev pub AreAlikeNow : SwitchState → SwitchState → Type 0
AreAlikeNow s t = present s ≡ present t

-- two turns that say the same, and leave switches that agree
pub record AreTurnsAlike (a b : SwitchTurn) : Type 0 where
  pub letters : a.letters ≡ b.letters
  pub state : AreAlikeNow a.state b.state

-- what a switch does in a process of its own: a turn, or it forgets its past
pub data SwitchStep : Type 0 where
  Turn : (input : SwitchInput) → SwitchStep
  Forget : SwitchStep

-- the turns alone
abbrev pub without_forgetting : List SwitchStep → List SwitchStep
without_forgetting [] = []
without_forgetting (Turn input ∷ steps) = Turn input ∷ without_forgetting steps
without_forgetting (Forget ∷ steps) = without_forgetting steps

-- what a switch says in its turns, turn by turn
abbrev pub said_by : SwitchState → List SwitchStep → List (List (Letter SwitchSays))
said_by s [] = []
said_by s (Turn input ∷ steps) = (switch_turn s input).letters ∷ said_by (switch_turn s input).state steps
said_by s (Forget ∷ steps) = said_by (forgets_past s) steps

-- how its steps leave a switch
abbrev pub switch_after : SwitchState → List SwitchStep → SwitchState
switch_after s [] = s
switch_after s (Turn input ∷ steps) = switch_after (switch_turn s input).state steps
switch_after s (Forget ∷ steps) = switch_after (forgets_past s) steps

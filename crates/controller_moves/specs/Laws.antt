-- Controllers follow the rules of agreement, so that its laws hold of controllers.
use Rattle.std.specs.Prelude.{ℕ, List}
use Rattle.of_types.specs.declared.setup.Setup.{Setup}
use Rattle.journal.specs.declared.journal.SaveResult.{SaveResult}
use Rattle.agreement.specs.Journals.{Follows}
use Rattle.controller_moves.specs.MemberMoves.Projection.{group_of}
use Rattle.group_controller.specs.declared.messages.ControllerInput.{ControllerInput}
use Rattle.group_controller.specs.Rules.{controller_work}
use Rattle.group_controller.specs.State.{ControllerState}
use Rattle.controller_moves.specs.Rules.{rules}
use Rattle.controller_moves.specs.Works.{IsWorkOf}

-- the work of each turn comes from at most one step of the member
abbrev pub WorksStandOnSteps : Type 0
WorksStandOnSteps = (kinds : List ℕ) (setup : Setup) (c : ControllerState) (x : ControllerInput) → IsWorkOf kinds setup c.vr x (controller_work kinds setup c x)

-- the rules of controllers are made of the moves, whatever their saves come to
abbrev pub ControllersFollow : Type 0
ControllersFollow = (kinds : List ℕ) (setup : Setup) (most_failures : ℕ) (results : ℕ → List SaveResult) → Follows (rules kinds setup most_failures results) (group_of most_failures)

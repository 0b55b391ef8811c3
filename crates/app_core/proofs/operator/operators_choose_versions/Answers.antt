-- A slot goes to each version that is asked for, wherever it stands.
use Rattle.app_core.proofs.Asking.{version_holds}
use Rattle.app_core.proofs.operator.operators_choose_versions.Goals as goal

pub returns : goal.returns
returns c = λ setup kinds place events is there. version_holds setup is kinds place events there

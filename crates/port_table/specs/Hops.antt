-- Going down by levels.
use Rattle.std.specs.Prelude.{◌≡◌, ◌≢◌, ◌<◌, ℕ, List, slice_index_or, Option, Some, None}
use Rattle.app_core.specs.declared.switch_port.SwitchPort.{SwitchPort}
use Rattle.app_core.specs.Routes.{unreached}

-- the level of a switch
abbrev pub level : List ℕ → ℕ → ℕ
level levels switch = slice_index_or levels switch unreached

-- no link at a port below this one leads to a switch of this level
abbrev pub HasNone : List (Option SwitchPort) → List ℕ → ℕ → ℕ → Type 0
HasNone row levels wanted below = (q : ℕ) (end : SwitchPort) → q < below → slice_index_or row q None ≡ Some end → level levels end.switch ≢ wanted

-- the first port of a row whose link leads to a switch of this level
pub record IsFirstPort (row : List (Option SwitchPort)) (levels : List ℕ) (wanted port : ℕ) (end : SwitchPort) : Type 0 where
  pub leads : slice_index_or row port None ≡ Some end
  pub low : level levels end.switch ≡ wanted
  pub none : HasNone row levels wanted port

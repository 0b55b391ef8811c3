-- The versions of an application as parts.
use Rattle.std.specs.Prelude.{◌≡◌, ℕ, List, map, drop}
use Rattle.app_core.specs.Chain.{learning, hub, pinned, aging, routing, versions}
use Rattle.version_line.specs.Line.{active_of}
use Rattle.app_upgrade.specs.declared.version.Version.{Version}
use Rattle.app_upgrade.specs.declared.version.Version.TheVariants as version

-- the kind of a version
abbrev pub kind_in : Version → ℕ
kind_in (version.Learning p) = learning
kind_in (version.PlainLearning p) = learning
kind_in (version.Hub p) = hub
kind_in (version.Pinned p) = pinned
kind_in (version.Aging p) = aging
kind_in (version.Route p) = routing

-- a version learns over a map
abbrev pub IsOverMap : Version → Type 0
IsOverMap (version.Learning p) = Unit {0}
IsOverMap _ = ⊥

-- parts of the last versions
pub record AreLast (parts : List Version) : Type 0 where
  pub kinds : map kind_in parts ≡ drop (active_of parts) versions

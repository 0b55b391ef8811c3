-- What a slot holds.
use Rattle.std.specs.Prelude.{◌≡◌, List}
use Rattle.std.specs.Global.{Vec}
use Rattle.app_upgrade.specs.declared.slot.Slot.{Slot}
use Rattle.app_upgrade.specs.declared.version.Version.{Version}
use Rattle.app_upgrade.specs.Versions.{AreLast}

-- the parts in a slot
abbrev pub parts_in : Slot → List Version
parts_in slot = slot.parts.items

-- a slot is its parts: it holds nothing else
abbrev pub IsItsParts : Slot → Type 0
IsItsParts slot = (parts : Vec Version) × (last : AreLast parts.items) × (slot ≡ record { parts = parts; last = last })

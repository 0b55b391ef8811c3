-- What ends the life of a controller, and what begins its next one (VR Revisited, 4.3).
use Rattle.std.specs.Prelude.{Bool, true, false}
use Rattle.journal.specs.declared.journal.Local.{Local}
use Rattle.journal.specs.declared.journal.Local.TheVariants.{Crash, Restart}

-- a crash ends it: all that is not stable is lost
abbrev pub is_crash : Local → Bool
is_crash Crash = true
is_crash _ = false

-- a restart begins the next one
abbrev pub is_restart : Local → Bool
is_restart Restart = true
is_restart _ = false

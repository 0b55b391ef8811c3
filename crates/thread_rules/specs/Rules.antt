-- Which of two causes to stop counts.
use Rattle.std.specs.Prelude.{Option, Some, None}
use Rattle.journal.specs.declared.wire.Stop.{Stop}
use Rattle.journal.specs.declared.wire.Stop.TheVariants.{OutOfMemory, JournalFull}

-- the first of them, but want of memory before a full journal
abbrev pub worst : Option Stop → Option Stop → Option Stop
worst (Some OutOfMemory) next = Some OutOfMemory
worst (Some (JournalFull bytes letters)) (Some OutOfMemory) = Some OutOfMemory
worst (Some (JournalFull bytes letters)) next = Some (JournalFull bytes letters)
worst None next = next

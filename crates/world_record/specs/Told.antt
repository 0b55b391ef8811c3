-- What is told of a run, with its journal apart.
use Rattle.std.specs.Prelude.{map}
use Rattle.journal.specs.Entries.{whole_entry}
use Rattle.report.specs.declared.record.Record.{Record}
use Rattle.world_record.specs.declared.told_run.ToldRun.{ToldRun}

-- the record with its journal
abbrev pub whole_record : {A : Type 0} → ToldRun A → Record
whole_record told = record told.record { journal = map (whole_entry told.letters) told.heads.items }

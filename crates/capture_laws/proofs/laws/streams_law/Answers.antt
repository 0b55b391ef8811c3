use Rattle.capture_laws.proofs.Joining.{all_numbered, all_short, joined_is_posted}
use Rattle.capture_laws.proofs.Known.{addresses_apart, directions_apart}
use Rattle.capture_laws.proofs.laws.streams_law.Goals as goal

pub returns-clause-joined : goal.returns-clause-joined
returns-clause-joined c = joined_is_posted

pub returns-clause-numbered : goal.returns-clause-numbered
returns-clause-numbered c = all_numbered

pub returns-clause-apart : goal.returns-clause-apart
returns-clause-apart c = directions_apart

pub returns-clause-addressed : goal.returns-clause-addressed
returns-clause-addressed c = addresses_apart

pub returns-clause-short : goal.returns-clause-short
returns-clause-short c = all_short

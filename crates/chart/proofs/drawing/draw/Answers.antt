use Rattle.journal.specs.Pool.{past}
use Rattle.chart.specs.Arrows.{shown}
use Rattle.chart.proofs.Shown.{exactly}
use Rattle.chart.proofs.drawing.draw.Goals as goal

pub returns-clause-arrows : goal.returns-clause-arrows
returns-clause-arrows c = λ a. rw (c.in_ok-arrows.ensures, c.shown_in-before.ensures.shown, c.as_slice-journal.ensures) (exactly (past (shown c.args.window c.args.told.now.journal)) a)

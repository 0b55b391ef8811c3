-- What a run starts from, and how a call ends by it.
use Rattle.std.specs.Prelude.{◌≡◌, ℕ, ◌*◌, ◌+◌, List, [], ◌∷◌, length}
use Rattle.std.specs.List.{AllByRecursion}
use Rattle.journal.specs.declared.wire.Stop.{Stop}
use Rattle.journal.specs.declared.wire.Stop.TheVariants.{OutOfMemory, JournalFull}
use Rattle.of_types.specs.Lives.{last_life}
use Rattle.journal.specs.Stables.{Saving}
use Rattle.app_core.specs.Chain.{firewall, slot}
use Rattle.app_core.specs.Law.{AppLaw}
use Rattle.group_controller.specs.Turns.{AreAlike}
use Rattle.report.specs.declared.record.Record.{Record}
use Rattle.report.specs.Report.{end_line, text}
use Rattle.closing.specs.declared.closed.ClosingOutcome.{ClosingOutcome}
use Rattle.closing.specs.declared.closed.ClosingOutcome.TheVariants as closed
use Rattle.top_call.specs.declared.ending.Ending.{Ending}
use Rattle.top_call.specs.declared.ending.Ending.TheVariants as ending
use Rattle.top_call.specs.declared.sim.Output.{Output}
use Rattle.top_call.specs.declared.sim.Output.TheVariants.{Report, LastLine}

-- the stable pairs of a group as it starts: one for each of the most controllers, with no view promised, in the first life
pub record AreFresh {W : Type 0} (saving : Saving W) (stables : List W) : Type 0 where
  pub count : length stables ≡ 7
  pub each : AllByRecursion (λ stable. saving.pair stable ≡ (0, 0)) stables

-- the applications of the lives of the most controllers, in order, all of these kinds
pub record AreChains {A : Type 0} (law : AppLaw A) (kinds : List ℕ) (chains : List A) : Type 0 where
  pub count : length chains ≡ 7 * (last_life + 1)
  pub alike : AreAlike law kinds chains

-- the kinds of the parts that the program gives each life of a controller, in order: a firewall before a slot
abbrev pub program_kinds : List ℕ
program_kinds = firewall ∷ slot ∷ []

-- what is told of a run at rest: its report, or the report's last line
abbrev pub told_text : Output → Record → List ℕ
told_text Report told = text told
told_text LastLine told = end_line told

-- a claim on what is told as a report
abbrev pub IfReport : Output → Type 0 → Type 0
IfReport Report claim = claim
IfReport LastLine claim = Unit {0}

-- a claim on the primary of a closing that came to rest
abbrev pub IfDone : ClosingOutcome → (ℕ → Type 0) → Type 0
IfDone (closed.Done primary) claim = claim primary
IfDone (closed.NoQuorum up needed) claim = Unit {0}
IfDone (closed.Overfull limit) claim = Unit {0}

-- how a call ends by the end of a closing, with what is told of a run at rest, by the primary that closed it
abbrev pub ending_by : ClosingOutcome → (ℕ → List ℕ) → Ending
ending_by (closed.Done primary) told = ending.Report (told primary)
ending_by (closed.NoQuorum up needed) told = ending.NoQuorum up needed
ending_by (closed.Overfull limit) told = ending.Overfull limit

-- and where playing stopped at a full journal
abbrev pub StopsAs : Stop → Ending → Type 0
StopsAs OutOfMemory e = ⊥
StopsAs (JournalFull bytes letters) e = e ≡ ending.Unposted bytes letters

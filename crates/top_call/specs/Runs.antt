-- What the runs of a scenario are.
use Rattle.std.specs.Prelude.{◌≡◌, ◌≤◌, ◌<◌, ◌⊎◌, ℕ, ◌+◌, ◌-◌, ◌^◌, List, [], ◌++◌, length, count_by, slice_get, Some}
use Rattle.std.specs.List.{AllByRecursion}
use Rattle.journal.specs.declared.journal.JournalEntry.{JournalEntry}
use Rattle.journal.specs.declared.journal.SaveResult.{SaveResult}
use Rattle.journal.specs.declared.journal.SaveResult.TheVariants.{Saved}
use Rattle.journal.specs.Pool.{past}
use Rattle.journal.specs.Turns.{IsWithinLimits}
use Rattle.journal.specs.Stables.{Saving}
use Rattle.vr_log.specs.declared.entry.Entry.{Entry}
use Rattle.vr_log.specs.declared.entry.LogFull.{LogFull}
use Rattle.group_controller.specs.Turns.{pair_in}
use Rattle.run_spec.specs.Bound.{IsQuick, IsSharplyBounded}
use Rattle.run_spec.specs.Committed.{controller_state, count_up}
use Rattle.run_laws.specs.Laws.{AreAgreed, AreValidLogs}
use Rattle.run_spec.specs.Laws.{IsExactlyOnce, IsFenced, IsLasting}
use Rattle.run_spec.specs.Legal.{IsLegal, results_of}
use Rattle.run_spec.specs.Play.{plays}
use Rattle.playing.specs.Manners.{Manner, In_order, Apart, Begins, FollowsManner}
use Rattle.run_spec.specs.Closing.{ClosingAnswer, Closes, majority}
use Rattle.run_spec.specs.Closing as schedule
use Rattle.run_spec.specs.States.{Scene}
use Rattle.closing_laws.specs.Ends.{HasRested}
use Rattle.closing_laws.specs.Held.{AreKept}
use Rattle.closing_laws.specs.Stops.{FitALog, IsAtLimit, events_made}
use Rattle.world.specs.World.{is_failed}
use Rattle.scenario.specs.declared.scenario.Scenario.{Scenario}
use Rattle.report.specs.declared.record.Record.{Record}
use Rattle.report.specs.Records.{IsRecord}
use Rattle.report.specs.Report.{text}
use Rattle.world_record.specs.Shows.{Shows}
use Rattle.byte_bodies.specs.Bare.{scene_bytes}
use Rattle.top_call.specs.declared.sim.Output.{Output}
use Rattle.top_call.specs.Play.{IfReport, told_text}

-- what the run of a scenario is about, where the applications are of these kinds
abbrev pub scene_for : List ℕ → Scenario → Scene (List ℕ)
scene_for kinds scenario = scene_bytes kinds scenario.setup

-- the headline: controllers agree, their committed logs hold the events of a life by number and so each at most once, each event and
-- each command exactly once, no command of a stale generation, what was decided lasts, and switches hold what has not left
pub record IsLawful {B : Type 0} (scene : Scene B) (results : List (List SaveResult)) (entries : List (JournalEntry B)) : Type 0 where
  pub agreed : AreAgreed scene results entries
  pub logged : AreValidLogs scene results entries
  pub exactly_once : IsExactlyOnce scene results entries
  pub fenced : IsFenced scene entries
  pub lasting : IsLasting scene results entries
  pub kept : AreKept scene entries

-- the stable pair of a controller is the one that the journal gives, and its count of faults rose with each of the
-- controller's saves that failed, up to its end. Where none failed it stands
pub record StableTells {W : Type 0} (saving : Saving W) (stables stables_after : List W) (scene : Scene (List ℕ)) (results : List (List SaveResult)) (journal : List (JournalEntry (List ℕ))) (c : ℕ) : Type 0 where
  pub old : W
  pub new : W
  pub stood : slice_get stables c ≡ Some old
  pub stands : slice_get stables_after c ≡ Some new
  pub rose : (saving.faults old + count_by is_failed (results_of results c) ≤ saving.faults new) ⊎ (2 ^ 64 - 1 ≤ saving.faults new)
  pub calm : count_by is_failed (results_of results c) ≡ 0 → saving.faults new ≡ saving.faults old
  pub pair_is : saving.pair new ≡ pair_in (controller_state scene results c (past journal))

-- so it is with those of all controllers, and further stable pairs are left alone
pub record StablesTell {W : Type 0} (saving : Saving W) (stables stables_after : List W) (scene : Scene (List ℕ)) (results : List (List SaveResult)) (journal : List (JournalEntry (List ℕ))) : Type 0 where
  pub each : (c : ℕ) → c < scene.setup.controllers → StableTells saving stables stables_after scene results journal c
  pub beyond : (c : ℕ) → scene.setup.controllers ≤ c → slice_get stables_after c ≡ slice_get stables c

-- a run of a scenario up to the answer of its closing: a legal journal within the limits, in which the script follows the
-- steps in this manner, and the entries behind it are those of the closing schedule
pub record IsRun (manner : Manner) (kinds : List ℕ) (scenario : Scenario) (results : List (List SaveResult)) (script closing journal : List (JournalEntry (List ℕ))) (answer : ClosingAnswer) : Type 0 where
  pub joined : journal ≡ script ++ closing
  pub legal : IsLegal (scene_for kinds scenario) results journal
  pub within : IsWithinLimits (scene_for kinds scenario).sealing.size (past journal)
  pub follows : FollowsManner manner (scene_for kinds scenario) results scenario.steps (past script)
  pub closes : Closes (scene_for kinds scenario) results (past script) closing answer
  pub lawful : IsLawful (scene_for kinds scenario) results (past journal)

-- a run that is cut short where an outbox passes the limits of the journal, in the script or in the closing
pub record IsCutShort (manner : Manner) (kinds : List ℕ) (scenario : Scenario) (results : List (List SaveResult)) (bytes letters : ℕ) (journal : List (JournalEntry (List ℕ))) : Type 0 where
  pub legal : IsLegal (scene_for kinds scenario) results journal
  pub within : IsWithinLimits (scene_for kinds scenario).sealing.size (past journal)
  pub begun : Begins manner (scene_for kinds scenario) results scenario.steps bytes letters (past journal)
  pub lawful : IsLawful (scene_for kinds scenario) results (past journal)

-- each save was made
abbrev pub AreSaved : ℕ → List (List SaveResult) → Type 0
AreSaved group results = (c : ℕ) → c < group → AllByRecursion (λ r. r ≡ Saved) (results_of results c)

-- the one journal that a scenario has where its steps are done in order and each save is made: it can be computed, and each run of the scenario in which every
-- save is made has this journal and this answer
pub record IsTheOne (kinds : List ℕ) (scenario : Scenario) (journal : List (JournalEntry (List ℕ))) (answer : ClosingAnswer) : Type 0 where
  pub most : ℕ
  pub plays_it : plays most (scene_for kinds scenario) [] scenario.steps ≡ record { entries = past journal; answer = Some answer }
  pub only : (results : List (List SaveResult)) (script closing other : List (JournalEntry (List ℕ))) (end : ClosingAnswer) →
      IsRun In_order kinds scenario results script closing other end → AreSaved scenario.setup.controllers results → (other ≡ journal) × (end ≡ answer)

-- a claim on runs whose steps are done in order: threads may come in any order, so these have many journals
abbrev pub IfInOrder : Manner → Type 0 → Type 0
IfInOrder In_order claim = claim
IfInOrder Apart claim = Unit {0}

-- what a call tells of the stable pairs, over a run's results and journal
abbrev pub Telling : Type 1
Telling = Scene (List ℕ) → List (List SaveResult) → List (JournalEntry (List ℕ)) → Type 0

-- A run up to this answer, and what its stable pairs tell. Its closing takes no more turns than the bounds say, where each save was made.
pub record HasRun (manner : Manner) (kinds : List ℕ) (saves : Telling) (scenario : Scenario) (answer : ClosingAnswer) : Type 0 where
  pub results : List (List SaveResult)
  pub script : List (JournalEntry (List ℕ))
  pub closing : List (JournalEntry (List ℕ))
  pub journal : List (JournalEntry (List ℕ))
  pub run : IsRun manner kinds scenario results script closing journal answer
  pub saved : saves (scene_for kinds scenario) results journal
  pub one : IfInOrder manner (AreSaved scenario.setup.controllers results → IsTheOne kinds scenario journal answer)
  pub quick : AreSaved scenario.setup.controllers results → IsQuick (scene_for kinds scenario) results (past script) closing
  pub sharp : AreSaved scenario.setup.controllers results → IsSharplyBounded (scene_for kinds scenario) results (past script) closing

-- what is told as a report is a record, and no other record has the text that was written
abbrev pub IsOneRecord : Output → Record → List ℕ → Type 0
IsOneRecord output told written = IfReport output (IsRecord told × ((other : Record) → IsRecord other → text other ≡ written → other ≡ told))

-- A run to its end and what is told of it. At least f + 1 of the 2 f + 1 controllers take part in the end. Nothing is left undone.
pub record IsDone (manner : Manner) (kinds : List ℕ) (saves : Telling) (scenario : Scenario) (output : Output) (written : List ℕ) : Type 0 where
  pub primary : ℕ
  pub ran : HasRun manner kinds saves scenario (schedule.Done primary)
  pub up : majority scenario.setup.controllers ≤ count_up (scene_for kinds scenario) ran.results (past ran.journal)
  pub rested : HasRested (scene_for kinds scenario) ran.results primary (past ran.journal)
  pub told : Record
  pub shows : Shows (scene_for kinds scenario) ran.results primary (length scenario.steps) ran.closing ran.journal told
  pub wrote : written ≡ told_text output told
  pub one_record : IsOneRecord output told written

-- a run that ended since too few controllers took part: where each save was made, they did so where its closing began
pub record IsLeft (manner : Manner) (kinds : List ℕ) (saves : Telling) (scenario : Scenario) (up needed : ℕ) : Type 0 where
  pub ran : HasRun manner kinds saves scenario (schedule.NoQuorum up needed)
  pub few : AreSaved scenario.setup.controllers ran.results → count_up (scene_for kinds scenario) ran.results (past ran.script) < majority scenario.setup.controllers

-- a run that ended since a proposal in the closing found no room in the log: the log of a controller that leads is as the limit tells, an
-- entry more would take it past the limits of a log, and the events that the switches have made don't fit a log
pub record IsOverfull (manner : Manner) (kinds : List ℕ) (saves : Telling) (scenario : Scenario) (limit : LogFull) : Type 0 where
  pub ran : HasRun manner kinds saves scenario (schedule.Overfull limit)
  pub controller : ℕ
  pub entry : Entry
  pub full : IsAtLimit (scene_for kinds scenario) ran.results (past ran.journal) limit controller entry

-- a run that was cut short since an outbox found no room in the journal
pub record IsRunUnposted (manner : Manner) (kinds : List ℕ) (saves : Telling) (scenario : Scenario) (bytes letters : ℕ) : Type 0 where
  pub results : List (List SaveResult)
  pub journal : List (JournalEntry (List ℕ))
  pub run : IsCutShort manner kinds scenario results bytes letters journal
  pub saved : saves (scene_for kinds scenario) results journal

-- A scenario keeps within the limits, done in this manner, where each save is made: f + 1 of its controllers take part behind its script, its letters are
-- within those of a journal, and the events that its switches make fit a log.
pub record IsInLimits (manner : Manner) (kinds : List ℕ) (scenario : Scenario) : Type 0 where
  pub up : (results : List (List SaveResult)) (script closing journal : List (JournalEntry (List ℕ))) (answer : ClosingAnswer) →
      IsRun manner kinds scenario results script closing journal answer → AreSaved scenario.setup.controllers results → majority scenario.setup.controllers ≤ count_up (scene_for kinds scenario) results (past script)
  pub posted : (results : List (List SaveResult)) (bytes letters : ℕ) (journal : List (JournalEntry (List ℕ))) →
      IsCutShort manner kinds scenario results bytes letters journal → AreSaved scenario.setup.controllers results → ⊥
  pub logged : (results : List (List SaveResult)) (script closing journal : List (JournalEntry (List ℕ))) (answer : ClosingAnswer) →
      IsRun manner kinds scenario results script closing journal answer → AreSaved scenario.setup.controllers results → FitALog (events_made (scene_for kinds scenario) (past journal))

-- no count of the faults of stable pairs rose, nor stands at the greatest number
abbrev pub AreCalm : {W : Type 0} → Saving W → List W → List W → Type 0
AreCalm {W = W} saving stables stables_after =
    (c : ℕ) (old new : W) → slice_get stables c ≡ Some old → slice_get stables_after c ≡ Some new → (saving.faults new ≡ saving.faults old) × (saving.faults new < 2 ^ 64 - 1)

-- whatever became of a call: as many stable pairs stand as before, and no count of their faults fell
pub record StablesStay {W : Type 0} (saving : Saving W) (stables stables_after : List W) : Type 0 where
  pub count : length stables_after ≡ length stables
  pub later : (c : ℕ) (old new : W) → slice_get stables c ≡ Some old → slice_get stables_after c ≡ Some new → saving.faults old ≤ saving.faults new

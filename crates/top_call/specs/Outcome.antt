-- Which status comes when, and what is written with it.
use Rattle.std.specs.Prelude.{◌≡◌, ◌≤◌, ◌⊎◌, ◌+◌, ℕ, nat_lt, false, if◌then◌else◌, List, [], ◌∷◌, ◌++◌, length, Option, Some, None, is_some, Ok, Err, Contains}
use Rattle.vr_log.specs.declared.entry.LogFull.{LogFull}
use Rattle.scenario.specs.declared.scenario.Fault.{Fault}
use Rattle.scenario.specs.declared.scenario.Scenario.{Scenario}
use Rattle.scenario.specs.Scenario.{scenario_of, scenario_limit}
use Rattle.scenario.specs.Generated.{generated}
use Rattle.top_call.specs.declared.sim.Output.{Output}
use Rattle.top_call.specs.declared.sim.Output.TheVariants.{Report, LastLine}
use Rattle.command_line.specs.declared.words.Job.{Job}
use Rattle.command_line.specs.declared.words.Job.TheVariants.{Sim, Run, Audit, Gen}
use Rattle.command_line.specs.Words.{job_of}
use Rattle.command_line.specs.Lines.{unread_line, differs_line}
use Rattle.top_call.specs.Lines.{usage_line, fault_line, no_quorum_line, overfull_line, unposted_line, same_line}
use Rattle.audit.specs.Audit.{differs}
use Rattle.top_call.specs.declared.service.Reader.{Reader}
use Rattle.top_call.specs.declared.service.Service.{Service}
use Rattle.top_call.specs.declared.service.Service.TheVariants.{Reads}
use Rattle.top_call.specs.Audited.{report_limit, too_large}
use Rattle.top_call.specs.Service.{service_of}
use Rattle.playing.specs.Manners.{Manner, In_order, Apart}
use Rattle.top_call.specs.Runs.{IsDone, IsInLimits, IsLeft, IsOverfull, IsRunUnposted, Telling}

-- a claim on what a source had left at first and has left at the end: as it tells both, or of some bytes where it doesn't
abbrev pub IsReadOf : Option (List ℕ) → Option (List ℕ) → (List ℕ → List ℕ → Type 0) → Type 0
IsReadOf (Some input) (Some rest) P = P input rest
IsReadOf _ _ P = (input : List ℕ) × (rest : List ℕ) × P input rest

-- a claim on what is written: as the sink tells it, or of some bytes where it doesn't
abbrev pub IsWritten : Option (List ℕ) → Option (List ℕ) → (List ℕ → Type 0) → Type 0
IsWritten None after P = (written : List ℕ) × P written
IsWritten (Some before) after P = (written : List ℕ) × (after ≡ Some (before ++ written)) × P written

-- a claim on both
abbrev pub IsReadAndWritten : Option (List ℕ) → Option (List ℕ) → Option (List ℕ) → Option (List ℕ) → (List ℕ → List ℕ → List ℕ → Type 0) → Type 0
IsReadAndWritten before after taken now P = IsReadOf before after (λ input rest. IsWritten taken now (λ written. P input rest written))

-- the source was read to its end, which is within a limit, or one byte past the limit
pub data HasRead (limit : ℕ) (input : List ℕ) : List ℕ → Type 0 where
  To_the_end : length input ≤ limit → HasRead limit input []
  Past_the_limit : {rest : List ℕ} → length rest + (limit + 1) ≡ length input → HasRead limit input rest

-- what serves the job that was found
abbrev pub service_for : Option Job → Option Service
service_for None = None
service_for (Some job) = Some (service_of job)

-- words that are not accepted
abbrev pub IsUnserved : List (List ℕ) → Type 0
IsUnserved words = is_some (service_for (job_of words)) ≡ false

-- words that ask for an audit
abbrev pub IsAudit : List (List ℕ) → Type 0
IsAudit words = job_of words ≡ Some Audit

-- words that ask for the scenario that four numbers make
abbrev pub IsOfFourNumbers : List (List ℕ) → Type 0
IsOfFourNumbers words = (number controllers switches frames : ℕ) × (job_of words ≡ Some (Gen number controllers switches frames))

-- words for which nothing is read, and words for which nothing is played
abbrev pub ReadsNothing : List (List ℕ) → Type 0
ReadsNothing words = IsUnserved words ⊎ IsOfFourNumbers words

abbrev pub PlaysNothing : List (List ℕ) → Type 0
PlaysNothing words = IsUnserved words ⊎ IsAudit words

-- in which manner a job plays the scenario that is read, if it does
abbrev pub manner_of : Option Job → Option Manner
manner_of (Some Sim) = Some In_order
manner_of (Some Run) = Some Apart
manner_of _ = None

-- words that ask to play a scenario that is read
abbrev pub AsksToPlay : List (List ℕ) → Type 0
AsksToPlay words = (manner : Manner) × (manner_of (job_of words) ≡ Some manner)

-- the scenario that words ask to play, in which manner, and what is told of its run at rest: of bytes that were all read, its
-- report; of four numbers, the report's last line
pub data IsAsked (words : List (List ℕ)) (input rest : List ℕ) : Manner → Scenario → Output → Type 0 where
  Of_bytes : {manner : Manner} {scenario : Scenario} → manner_of (job_of words) ≡ Some manner → rest ≡ [] → scenario_of input ≡ Ok scenario → IsAsked words input rest manner scenario Report
  Of_numbers : (number controllers switches frames : ℕ) → job_of words ≡ Some (Gen number controllers switches frames) → rest ≡ input →
      IsAsked words input rest In_order (generated number controllers switches frames) LastLine

-- what a call has to write, with its status, by the cause of it: one case for each
pub data Outcome (kinds : List ℕ) (saves : Telling) (words : List (List ℕ)) (input rest : List ℕ) (unread : Type 0) : ℕ → List ℕ → Type 0 where
  Usage : IsUnserved words → Outcome kinds saves words input rest unread 2 usage_line
  Refused : (fault : Fault) (manner : Manner) → manner_of (job_of words) ≡ Some manner → HasRead scenario_limit input rest → scenario_of input ≡ Err fault → Outcome kinds saves words input rest unread 3 (fault_line fault)
  Unread : (reader : Reader) → service_for (job_of words) ≡ Some (Reads reader) → unread → Outcome kinds saves words input rest unread 4 unread_line
  Closed : (manner : Manner) (scenario : Scenario) (output : Output) {written : List ℕ} → IsAsked words input rest manner scenario output → IsDone manner kinds saves scenario output written →
      Outcome kinds saves words input rest unread 0 written
  Left : (manner : Manner) (scenario : Scenario) (output : Output) (up needed : ℕ) → IsAsked words input rest manner scenario output → IsLeft manner kinds saves scenario up needed →
      Outcome kinds saves words input rest unread 7 (no_quorum_line up needed)
  Overfull : (manner : Manner) (scenario : Scenario) (output : Output) (limit : LogFull) → IsAsked words input rest manner scenario output → IsOverfull manner kinds saves scenario limit →
      Outcome kinds saves words input rest unread 9 (overfull_line limit)
  Unposted : (manner : Manner) (scenario : Scenario) (output : Output) (bytes letters : ℕ) → IsAsked words input rest manner scenario output → IsRunUnposted manner kinds saves scenario bytes letters →
      Outcome kinds saves words input rest unread 10 (unposted_line bytes letters)
  Oversized : IsAudit words → length rest + (report_limit + 1) ≡ length input → Outcome kinds saves words input rest unread 3 (fault_line too_large)
  Same : IsAudit words → rest ≡ [] → length input ≤ report_limit → differs kinds input ≡ None → Outcome kinds saves words input rest unread 0 same_line
  Differs : (n : ℕ) → IsAudit words → rest ≡ [] → length input ≤ report_limit → differs kinds input ≡ Some n → Outcome kinds saves words input rest unread 8 (differs_line n)

-- what was taken is the front of what an outcome writes
pub record IsCut (kinds : List ℕ) (saves : Telling) (words : List (List ℕ)) (input rest : List ℕ) (unread : Type 0) (written : List ℕ) : Type 0 where
  pub status : ℕ
  pub whole : List ℕ
  pub behind : List ℕ
  pub outcome : Outcome kinds saves words input rest unread status whole
  pub front : whole ≡ written ++ behind

-- a status and what was written with it: that of an outcome, or a write failed, or there was no memory
pub data Answers (kinds : List ℕ) (saves : Telling) (words : List (List ℕ)) (input rest : List ℕ) (unread unwritten : Type 0) (written : List ℕ) : ℕ → Type 0 where
  Served : {status : ℕ} → Outcome kinds saves words input rest unread status written → Answers kinds saves words input rest unread unwritten written status
  Write_failed : unwritten → IsCut kinds saves words input rest unread written → Answers kinds saves words input rest unread unwritten written 5
  No_memory : written ≡ [] → Answers kinds saves words input rest unread unwritten written 6

-- the answers that there are, those to words that are not served, and those to an audit
abbrev pub statuses : List ℕ
statuses = 0 ∷ 2 ∷ 3 ∷ 4 ∷ 5 ∷ 6 ∷ 7 ∷ 8 ∷ 9 ∷ 10 ∷ []

abbrev pub statuses_of_usage : List ℕ
statuses_of_usage = 2 ∷ 5 ∷ 6 ∷ []

abbrev pub statuses_of_audit : List ℕ
statuses_of_audit = 0 ∷ 3 ∷ 4 ∷ 5 ∷ 6 ∷ 8 ∷ []

-- and those to the words of a made scenario
abbrev pub statuses_of_made : List ℕ
statuses_of_made = 0 ∷ 5 ∷ 6 ∷ 7 ∷ 9 ∷ 10 ∷ []

-- those to the words of a scenario that is read
abbrev pub statuses_of_played : List ℕ
statuses_of_played = 0 ∷ 3 ∷ 4 ∷ 5 ∷ 6 ∷ 7 ∷ 9 ∷ 10 ∷ []

-- the answers at which no scenario was played
abbrev pub IsUnplayed : ℕ → Type 0
IsUnplayed status = (status ≡ 2) ⊎ ((status ≡ 3) ⊎ ((status ≡ 4) ⊎ (status ≡ 8)))

-- what is written at the answers that have one line, and for want of memory
pub record IsOneLine (status : ℕ) (written : List ℕ) : Type 0 where
  pub usage : status ≡ 2 → written ≡ usage_line
  pub unread : status ≡ 4 → written ≡ unread_line
  pub nothing : status ≡ 6 → written ≡ []

-- the status that the bytes of a report have, for controllers with applications of these kinds
abbrev pub audit_status : List ℕ → List ℕ → ℕ
audit_status kinds input = if nat_lt report_limit (length input) then 3 else elim (differs kinds input) [ None ↦ 0 | Some n ↦ 8 ]

-- words ask to play this scenario in this manner: of the bytes that are read, or of four numbers
pub data AsksFor (words : List (List ℕ)) (input : List ℕ) : Manner → Scenario → Type 0 where
  Its_bytes : {manner : Manner} {scenario : Scenario} → manner_of (job_of words) ≡ Some manner → scenario_of input ≡ Ok scenario → AsksFor words input manner scenario
  Its_numbers : (number controllers switches frames : ℕ) → job_of words ≡ Some (Gen number controllers switches frames) → AsksFor words input In_order (generated number controllers switches frames)

-- An audit in which nothing failed ends by that, or finds no memory. A scenario that keeps within the limits comes to rest, where
-- nothing failed and the stable pairs are calm, or finds no memory.
pub record IsComplete (kinds : List ℕ) (words : List (List ℕ)) (input : List ℕ) (unread unwritten calm : Type 0) (status : ℕ) : Type 0 where
  pub ends : IsAudit words → (unread → ⊥) → (unwritten → ⊥) → Contains (audit_status kinds input ∷ 6 ∷ []) status
  pub rests : (manner : Manner) (scenario : Scenario) → AsksFor words input manner scenario → IsInLimits manner kinds scenario → calm → (unread → ⊥) → (unwritten → ⊥) → Contains (0 ∷ 6 ∷ []) status

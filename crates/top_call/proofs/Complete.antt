-- An audit in which nothing fails ends, and so does a scenario that keeps within the limits.
use Rattle.std.proofs.Common.{◌≡◌, ◌≤◌, ◌<◌, inl, inr, ℕ, false, true, List, [], ◌∷◌, length, Some, None, Err, refl, sym, ◌∙◌, ap, subst, arith}
use Rattle.std.specs.Prelude.{Option, Contains, count_by, is_some, if◌then◌else◌}
use Rattle.std.specs.List.{AllByRecursion}
use Rattle.std.proofs.lemmas.Bool.{lt-ltb, le-ltb}
use Rattle.std.proofs.lemmas.List.Sums.{sum_by-cons}
use Rattle.journal.specs.declared.journal.JournalEntry.{JournalEntry}
use Rattle.journal.specs.declared.journal.SaveResult.{SaveResult}
use Rattle.journal.specs.declared.journal.SaveResult.TheVariants.{Saved, KeptOld, KeptNew}
use Rattle.journal.specs.Stables.{Saving}
use Rattle.vr_log.specs.declared.entry.LogFull.{LogFull}
use Rattle.run_spec.specs.Legal.{results_of}
use Rattle.run_spec.specs.Closing.{ClosingAnswer}
use Rattle.run_spec.specs.Closing as schedule
use Rattle.run_spec.specs.States.{Scene}
use Rattle.world.specs.World.{is_failed}
use Rattle.scenario.specs.declared.scenario.Fault.{Fault}
use Rattle.scenario.specs.Generated.{generated}
use Rattle.scenario.specs.Scenario.{scenario_of}
use Rattle.top_call.specs.declared.sim.Output.{Output}
use Rattle.scenario.specs.declared.scenario.Scenario.{Scenario}
use Rattle.command_line.specs.declared.words.Job.{Job}
use Rattle.command_line.specs.declared.words.Job.TheVariants.{Audit, Gen}
use Rattle.playing.specs.Manners.{Manner}
use Rattle.command_line.specs.Words.{job_of}
use Rattle.audit.specs.Audit.{differs}
use Rattle.top_call.specs.Audited.{report_limit}
use Rattle.top_call.specs.Outcome.{Answers, Served, Write_failed, No_memory, IsReadAndWritten, IsReadOf, Outcome, IsUnserved, IsAudit, IsOfFourNumbers, IsAsked, Of_bytes, Of_numbers, AsksFor, Its_bytes, Its_numbers, IsComplete, audit_status, manner_of, service_for}
use Rattle.top_call.specs.Outcome as outcome
use Rattle.top_call.proofs.Streams.{read_any, read_as, what_written}
use Rattle.top_call.specs.Runs.{AreCalm, AreSaved, HasRun, IsInLimits, IsLeft, IsOverfull, IsRunUnposted, StablesTell, Telling, scene_for}

-- the words of a run, and words that are not accepted, are none of an audit
pub no_audit : {A : Type 0} (words : List (List ℕ)) (manner : Manner) → manner_of (job_of words) ≡ Some manner → IsAudit words → A
no_audit words manner run audit = absurd (apart (sym run ∙ ap (λ j. manner_of j) audit))
  where
    apart : Some manner ≡ None → ⊥
    apart e = cc

pub no_audit_made : {A : Type 0} (words : List (List ℕ)) (number controllers switches frames : ℕ) → job_of words ≡ Some (Gen number controllers switches frames) → IsAudit words → A
no_audit_made words number controllers switches frames run audit = absurd (apart (sym run ∙ audit))
  where
    apart : Some (Gen number controllers switches frames) ≡ Some Audit → ⊥
    apart e = cc

pub never_served : {A : Type 0} (words : List (List ℕ)) → IsUnserved words → IsAudit words → A
never_served words unserved audit = absurd (apart (sym unserved ∙ ap (λ j. is_some (service_for j)) audit))
  where
    apart : false ≡ true → ⊥
    apart e = cc

pub never_made : {A : Type 0} (words : List (List ℕ)) → IsUnserved words → IsOfFourNumbers words → A
never_made words unserved (number, controllers, switches, frames, made) = absurd (apart (sym unserved ∙ ap (λ j. is_some (service_for j)) made))
  where
    apart : false ≡ true → ⊥
    apart e = cc

-- the words of a made scenario are none of a run and none of an audit
pub made_no_run : {A : Type 0} (words : List (List ℕ)) (manner : Manner) → manner_of (job_of words) ≡ Some manner → IsOfFourNumbers words → A
made_no_run words manner run (number, controllers, switches, frames, made) = absurd (apart (sym run ∙ ap (λ j. manner_of j) made))
  where
    apart : Some manner ≡ None → ⊥
    apart e = cc

pub made_no_audit : {A : Type 0} (words : List (List ℕ)) → IsAudit words → IsOfFourNumbers words → A
made_no_audit words audit (number, controllers, switches, frames, made) = no_audit_made words number controllers switches frames made audit

never_asked : {A : Type 0} (words : List (List ℕ)) (input rest : List ℕ) (manner : Manner) (scenario : Scenario) (output : Output) → IsAsked words input rest manner scenario output → IsAudit words → A
never_asked words input rest manner _ _ (Of_bytes run none is) audit = no_audit words manner run audit
never_asked words input rest _ _ _ (Of_numbers number controllers switches frames run none) audit = no_audit_made words number controllers switches frames run audit

-- the status of bytes, by what they are
status_of_many : (kinds input : List ℕ) → report_limit < length input → audit_status kinds input ≡ 3
status_of_many kinds input many = rw (lt-ltb report_limit (length input) many) refl

status_of_few : (kinds input : List ℕ) (line : Option ℕ) → length input ≤ report_limit → differs kinds input ≡ line → audit_status kinds input ≡ elim line [ None ↦ 0 | Some n ↦ 8 ]
status_of_few kinds input line few is = rw (le-ltb report_limit (length input) few, is) refl

module _ (kinds : List ℕ) (saves : Telling) (words : List (List ℕ)) (input rest : List ℕ) (unread unwritten : Type 0) where
  abbrev Ends : ℕ → Type 0
  Ends status = IsAudit words → (unread → ⊥) → (unwritten → ⊥) → Contains (audit_status kinds input ∷ 6 ∷ []) status

  served_complete : (status : ℕ) (written : List ℕ) → Outcome kinds saves words input rest unread status written → Ends status
  served_complete status written (outcome.Usage unserved) = λ audit read wrote. never_served words unserved audit
  served_complete status written (outcome.Refused fault manner run read is) = λ audit read wrote. no_audit words manner run audit
  served_complete status written (outcome.Unread reader served failed) = λ audit read wrote. absurd (read failed)
  served_complete status written (outcome.Closed manner scenario output asked done) = λ audit read wrote. never_asked words input rest manner scenario output asked audit
  served_complete status written (outcome.Left manner scenario output up needed asked left) = λ audit read wrote. never_asked words input rest manner scenario output asked audit
  served_complete status written (outcome.Overfull manner scenario output limit asked full) = λ audit read wrote. never_asked words input rest manner scenario output asked audit
  served_complete status written (outcome.Unposted manner scenario output bytes letters asked full) = λ audit read wrote. never_asked words input rest manner scenario output asked audit
  served_complete status written (outcome.Oversized is many) = λ audit read wrote. (0, omega arith, status_of_many kinds input (omega (arith, many)))
  served_complete status written (outcome.Same is none short found) = λ audit read wrote. (0, omega arith, status_of_few kinds input None short found)
  served_complete status written (outcome.Differs n is none short found) = λ audit read wrote. (0, omega arith, status_of_few kinds input (Some n) short found)

  answer_complete : (status : ℕ) (written : List ℕ) → Answers kinds saves words input rest unread unwritten written status → Ends status
  answer_complete status written (Served outcome) = served_complete status written outcome
  answer_complete status written (Write_failed failed cut) = λ audit read wrote. absurd (wrote failed)
  answer_complete status written (No_memory none) = λ audit read wrote. (1, omega arith, refl)

-- what was asked for is what was played
record AreSame (asked played : Scenario) (asked_in played_in : Manner) : Type 0 where
  pub scenario : played ≡ asked
  pub manner : played_in ≡ asked_in

same_scenario : (words : List (List ℕ)) (input rest : List ℕ) (asked_in played_in : Manner) (asked played : Scenario) (output : Output) → AsksFor words input asked_in asked →
    IsAsked words input rest played_in played output → AreSame asked played asked_in played_in
same_scenario words input rest asked_in played_in asked played _ (Its_bytes run is) (Of_bytes ran none was) =
    record { scenario = (let e = sym was ∙ is in cc); manner = (let e = sym ran ∙ run in cc) }
same_scenario words input rest asked_in _ asked _ _ (Its_bytes run is) (Of_numbers number controllers switches frames ran none) = absurd (let e = sym run ∙ ap (λ j. manner_of j) ran in cc)
same_scenario words input rest _ played_in _ played _ (Its_numbers number controllers switches frames run) (Of_bytes ran none was) = absurd (let e = sym ran ∙ ap (λ j. manner_of j) run in cc)
same_scenario words input rest _ _ _ _ _ (Its_numbers number controllers switches frames run) (Of_numbers number' controllers' switches' frames' ran none) =
    let e : Some (Gen number' controllers' switches' frames') ≡ Some (Gen number controllers switches frames) = sym ran ∙ run in
    let a : number' ≡ number = cc in
    let b : controllers' ≡ controllers = cc in
    let c : switches' ≡ switches = cc in
    let d : frames' ≡ frames = cc in
    record {
      scenario = ap (λ n. generated n controllers' switches' frames') a ∙ ap (λ n. generated number n switches' frames') b ∙ ap (λ n. generated number controllers n frames') c
          ∙ ap (λ n. generated number controllers switches n) d;
      manner = refl;
    }

-- words of a run are served, and none of an audit
job_is_some : (job : Option Job) (manner : Manner) → manner_of job ≡ Some manner → is_some (service_for job) ≡ true
job_is_some None manner is = absurd (let e = is in cc)
job_is_some (Some job) manner is = refl

asked_served : (words : List (List ℕ)) (input : List ℕ) (manner : Manner) (scenario : Scenario) → AsksFor words input manner scenario → IsUnserved words → ⊥
asked_served words input manner scenario (Its_bytes run is) unserved = let e : true ≡ false = sym (job_is_some (job_of words) manner run) ∙ unserved in cc
asked_served words input _ _ (Its_numbers number controllers switches frames run) unserved = let e : true ≡ false = sym (ap (λ j. is_some (service_for j)) run) ∙ unserved in cc

asked_no_audit : {A : Type 0} (words : List (List ℕ)) (input : List ℕ) (manner : Manner) (scenario : Scenario) → AsksFor words input manner scenario → IsAudit words → A
asked_no_audit words input manner scenario (Its_bytes run is) audit = no_audit words manner run audit
asked_no_audit words input _ _ (Its_numbers number controllers switches frames run) audit = no_audit_made words number controllers switches frames run audit

asked_read : (words : List (List ℕ)) (input : List ℕ) (manner refused_in : Manner) (scenario : Scenario) (fault : Fault) → AsksFor words input manner scenario → manner_of (job_of words) ≡ Some refused_in →
    scenario_of input ≡ Err fault → ⊥
asked_read words input manner refused_in scenario fault (Its_bytes run is) ran refused = let e = sym is ∙ refused in cc
asked_read words input _ refused_in _ fault (Its_numbers number controllers switches frames run) ran refused = let e = sym ran ∙ ap (λ j. manner_of j) run in cc

module _ (kinds : List ℕ) (saves : Telling) (words : List (List ℕ)) (input rest : List ℕ) (unread unwritten calm : Type 0)
    (settles : calm → (scene : Scene (List ℕ)) (results : List (List SaveResult)) (journal : List (JournalEntry (List ℕ))) → saves scene results journal → AreSaved scene.setup.controllers results)
    (manner : Manner) (scenario : Scenario) (asks : AsksFor words input manner scenario) (limits : IsInLimits manner kinds scenario) (quiet : calm) (read : unread → ⊥) (wrote : unwritten → ⊥) where
  abbrev Rests : ℕ → Type 0
  Rests status = Contains (0 ∷ 6 ∷ []) status

  saved_in : (answer : ClosingAnswer) (h : HasRun manner kinds saves scenario answer) → AreSaved scenario.setup.controllers h.results
  saved_in answer h = settles quiet (scene_for kinds scenario) h.results h.journal h.saved

  as_asked : (P : Manner → Scenario → Type 0) (played_in : Manner) (played : Scenario) (output : Output) → IsAsked words input rest played_in played output → P played_in played → P manner scenario
  as_asked P played_in played output asked h =
      let same = same_scenario words input rest manner played_in scenario played output asks asked in
      subst (λ m. P m scenario) same.manner (subst (λ s. P played_in s) same.scenario h)

  never_left : (up needed : ℕ) → IsLeft manner kinds saves scenario up needed → ⊥
  never_left up needed left =
      let saved = saved_in (schedule.NoQuorum up needed) left.ran in
      let most = limits.up left.ran.results left.ran.script left.ran.closing left.ran.journal (schedule.NoQuorum up needed) left.ran.run saved in
      let few = left.few saved in
      omega (arith, most, few)

  never_full : (limit : LogFull) → IsOverfull manner kinds saves scenario limit → ⊥
  never_full limit full =
      let saved = saved_in (schedule.Overfull limit) full.ran in
      full.full.crowded (limits.logged full.ran.results full.ran.script full.ran.closing full.ran.journal (schedule.Overfull limit) full.ran.run saved)

  never_cut : (bytes letters : ℕ) → IsRunUnposted manner kinds saves scenario bytes letters → ⊥
  never_cut bytes letters cut = limits.posted cut.results bytes letters cut.journal cut.run (settles quiet (scene_for kinds scenario) cut.results cut.journal cut.saved)

  served_rests : (status : ℕ) (written : List ℕ) → Outcome kinds saves words input rest unread status written → Rests status
  served_rests status written (outcome.Usage unserved) = absurd (asked_served words input manner scenario asks unserved)
  served_rests status written (outcome.Refused fault refused_in run past is) = absurd (asked_read words input manner refused_in scenario fault asks run is)
  served_rests status written (outcome.Unread reader served failed) = absurd (read failed)
  served_rests status written (outcome.Closed played_in played output asked done) = (0, omega arith, refl)
  served_rests status written (outcome.Left played_in played output up needed asked left) = absurd (never_left up needed (as_asked (λ m s. IsLeft m kinds saves s up needed) played_in played output asked left))
  served_rests status written (outcome.Overfull played_in played output limit asked full) = absurd (never_full limit (as_asked (λ m s. IsOverfull m kinds saves s limit) played_in played output asked full))
  served_rests status written (outcome.Unposted played_in played output bytes letters asked cut) = absurd (never_cut bytes letters (as_asked (λ m s. IsRunUnposted m kinds saves s bytes letters) played_in played output asked cut))
  served_rests status written (outcome.Oversized is many) = asked_no_audit words input manner scenario asks is
  served_rests status written (outcome.Same is none short found) = asked_no_audit words input manner scenario asks is
  served_rests status written (outcome.Differs n is none short found) = asked_no_audit words input manner scenario asks is

  answer_rests : (status : ℕ) (written : List ℕ) → Answers kinds saves words input rest unread unwritten written status → Rests status
  answer_rests status written (Served outcome) = served_rests status written outcome
  answer_rests status written (Write_failed failed cut) = absurd (wrote failed)
  answer_rests status written (No_memory none) = (1, omega arith, refl)

-- where no count rose, each save was made
none_failed : (rs : List SaveResult) → count_by is_failed rs ≡ 0 → AllByRecursion (λ r. r ≡ Saved) rs
none_failed [] none = tt
none_failed (Saved ∷ rs) none = (refl, none_failed rs (let all = sum_by-cons (λ r. if is_failed r then 1 else 0) Saved rs in omega (arith, all, none)))
none_failed (KeptOld ∷ rs) none = let all = sum_by-cons (λ r. if is_failed r then 1 else 0) KeptOld rs in absurd (omega (arith, all, none))
none_failed (KeptNew ∷ rs) none = let all = sum_by-cons (λ r. if is_failed r then 1 else 0) KeptNew rs in absurd (omega (arith, all, none))

pub calm_saves : {W : Type 0} (saving : Saving W) (stables stables_after : List W) → AreCalm saving stables stables_after →
    (scene : Scene (List ℕ)) (results : List (List SaveResult)) (journal : List (JournalEntry (List ℕ))) → StablesTell saving stables stables_after scene results journal → AreSaved scene.setup.controllers results
calm_saves saving stables stables_after calm scene results journal tell c there =
    let t = tell.each c there in
    let quiet = calm c t.old t.new t.stood t.stands in
    let same = quiet.0 in
    let less = quiet.1 in
    none_failed (results_of results c) (elim t.rose [
      | inl few ↦ omega (arith, few, same)
      | inr most ↦ absurd (omega (arith, most, less))
    ])

pub complete : (kinds : List ℕ) (saves : Telling) (words : List (List ℕ)) (unread unwritten calm : Type 0) →
    (calm → (scene : Scene (List ℕ)) (results : List (List SaveResult)) (journal : List (JournalEntry (List ℕ))) → saves scene results journal → AreSaved scene.setup.controllers results) →
    (before after taken now : Option (List ℕ)) (status : ℕ) →
    IsReadAndWritten before after taken now (λ input rest written. Answers kinds saves words input rest unread unwritten written status) →
    IsReadOf before after (λ input rest. IsComplete kinds words input unread unwritten calm status)
complete kinds saves words unread unwritten calm settles before after taken now status told =
    read_as before after (λ input rest wrote.
    let answered = what_written taken now wrote in
    record {
      ends = answer_complete kinds saves words input rest unread unwritten status answered.0 answered.1;
      rests = λ manner scenario asks limits quiet read written. answer_rests kinds saves words input rest unread unwritten calm settles manner scenario asks limits quiet read written status answered.0 answered.1;
    })
    told

-- for want of memory a call is complete, whatever was read
pub memoryless : (kinds : List ℕ) (words : List (List ℕ)) (unread unwritten calm : Type 0) (before after : Option (List ℕ)) → IsReadOf before after (λ input rest. IsComplete kinds words input unread unwritten calm 6)
memoryless kinds words unread unwritten calm before after =
    read_any before after (λ input rest. record {
      ends = λ audit read wrote. (1, omega arith, refl);
      rests = λ manner scenario asks limits quiet read wrote. (1, omega arith, refl);
    })

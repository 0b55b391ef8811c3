-- The cause of an ending, from what was read.
use Rattle.std.proofs.Common.{◌≡◌, ◌≢◌, ◌≤◌, ◌<◌, ◌⊎◌, inl, inr, ℕ, ◌+◌, true, false, List, [], ◌++◌, length, Some, None, Ok, Err, refl, sym, ◌∙◌, ap, subst, arith, append-nil, length-append}
use Rattle.std.specs.Prelude.{Option, is_some, option_map, Result, IfOk, IfErr, Bool, Contains, drop, take}
use Rattle.std.specs.Io.KnownBytes.{Consumes, IsAtEnd}
use Rattle.std.proofs.lemmas.Bool.{lt-leb, cases_lt}
use Rattle.std.proofs.Math.Seq.{take-append_seam}
use Rattle.top_call.specs.declared.sim.Output.{Output}
use Rattle.top_call.specs.declared.sim.Output.TheVariants as told_as
use Rattle.scenario.specs.declared.scenario.Fault.{Fault}
use Rattle.scenario.specs.declared.scenario.Scenario.{Scenario}
use Rattle.scenario.specs.Generated.{generated}
use Rattle.scenario.specs.Scenario.{scenario_of, scenario_limit}
use Rattle.command_line.specs.declared.words.Job.{Job}
use Rattle.command_line.specs.declared.words.Job.TheVariants.{Sim, Run, Audit, Gen}
use Rattle.command_line.specs.Words.{job_of}
use Rattle.top_call.specs.declared.ending.Ending.{Ending}
use Rattle.top_call.specs.declared.ending.Ending.TheVariants as ending
use Rattle.top_call.specs.Cause.{HasEndingCause, IsOfNumbers, TellsCause}
use Rattle.top_call.specs.declared.service.Reader.{Reader}
use Rattle.top_call.specs.declared.service.Reader.TheVariants as reader
use Rattle.top_call.specs.declared.service.Service.{Service}
use Rattle.top_call.specs.declared.service.Service.TheVariants as service
use Rattle.top_call.specs.Audited.{report_limit, too_large}
use Rattle.top_call.specs.Ending.{ending_status, outcome_text, EndsRead, EndsReport, EndsRun, EndsScenario}
use Rattle.top_call.specs.Service.{limit_of}
use Rattle.top_call.specs.Outcome.{Outcome, statuses, statuses_of_audit, IsOneLine, HasRead, To_the_end, Past_the_limit, IsUnserved, IsAudit, IsOfFourNumbers, AsksToPlay, IsUnplayed, PlaysNothing, ReadsNothing, statuses_of_made, statuses_of_played, IsAsked, Of_bytes, Of_numbers, manner_of, service_for}
use Rattle.top_call.specs.Outcome as outcome
use Rattle.playing.specs.Manners.{Manner, In_order, Apart}
use Rattle.journal.specs.Stables.{Saving}
use Rattle.top_call.specs.Runs.{StablesTell, Telling}
use Rattle.top_call.proofs.Complete.{no_audit, no_audit_made, never_served, never_made, made_no_run, made_no_audit}

-- more bytes than a scenario has are refused
pub too_long : (bytes : List ℕ) → scenario_limit < length bytes → scenario_of bytes ≡ Err too_large
unfolding scenario_of
too_long bytes long = rw (lt-leb (length bytes) scenario_limit long) refl

abbrev only_false : Bool → Type 0
only_false false = Unit {0}
only_false true = ⊥

no_truth : false ≡ true → ⊥
no_truth e = subst only_false e tt

abbrev IsServed : List (List ℕ) → Service → Type 0
IsServed words s = service_for (job_of words) ≡ Some s

abbrev reads_for : Reader → Job
reads_for reader.Sim = Sim
reads_for reader.Run = Run
reads_for reader.Audit = Audit

abbrev job_for : Service → Job
job_for (service.Reads r) = reads_for r
job_for (service.Gen number controllers switches frames) = Gen number controllers switches frames

-- the job that is served
served_is : (job : Option Job) (s : Service) → service_for job ≡ Some s → job ≡ Some (job_for s)
served_is None s e = absurd cc
served_is (Some Sim) s e = ap (λ x. option_map (λ y. job_for y) x) e
served_is (Some Run) s e = ap (λ x. option_map (λ y. job_for y) x) e
served_is (Some Audit) s e = ap (λ x. option_map (λ y. job_for y) x) e
served_is (Some (Gen number controllers switches frames)) s e = ap (λ x. option_map (λ y. job_for y) x) e

pub job_served : (words : List (List ℕ)) (s : Service) → IsServed words s → job_of words ≡ Some (job_for s)
job_served words s said = served_is (job_of words) s said

never_both : (words : List (List ℕ)) (s : Service) → IsServed words s → IsUnserved words → ⊥
never_both words s said other = no_truth (sym other ∙ ap (λ x. is_some x) said)

-- a scenario's bytes are refused, or its run ends so
refused_or_ran : (manner : Manner) (kinds : List ℕ) (saves : Telling) (bytes : List ℕ) (e : Ending) → EndsScenario manner kinds saves bytes e →
    ((fault : Fault) × (e ≡ ending.Refused fault) × (scenario_of bytes ≡ Err fault))
    ⊎ ((scenario : Scenario) × (scenario_of bytes ≡ Ok scenario) × EndsRun manner kinds saves told_as.Report scenario e)
refused_or_ran manner kinds saves bytes (ending.Refused fault) is = inl (fault, refl, is)
refused_or_ran manner kinds saves bytes (ending.Report written) ends = inr ends
refused_or_ran manner kinds saves bytes ending.Usage ends = inr ends
refused_or_ran manner kinds saves bytes ending.Unread ends = inr ends
refused_or_ran manner kinds saves bytes (ending.NoQuorum up needed) ends = inr ends
refused_or_ran manner kinds saves bytes (ending.Overfull limit) ends = inr ends
refused_or_ran manner kinds saves bytes (ending.Unposted count letters) ends = inr ends
refused_or_ran manner kinds saves bytes ending.Same ends = inr ends
refused_or_ran manner kinds saves bytes (ending.Differs n) ends = inr ends

-- the bytes of a scenario whose run ends so
ran_ends : (manner : Manner) (kinds : List ℕ) (saves : Telling) (bytes : List ℕ) (scenario : Scenario) (e : Ending) → scenario_of bytes ≡ Ok scenario → EndsRun manner kinds saves told_as.Report scenario e → EndsScenario manner kinds saves bytes e
ran_ends manner kinds saves bytes scenario (ending.Refused fault) is never = absurd never
ran_ends manner kinds saves bytes scenario (ending.Report written) is ran = (scenario, is, ran)
ran_ends manner kinds saves bytes scenario ending.Usage is ran = (scenario, is, ran)
ran_ends manner kinds saves bytes scenario ending.Unread is ran = (scenario, is, ran)
ran_ends manner kinds saves bytes scenario (ending.NoQuorum up needed) is ran = (scenario, is, ran)
ran_ends manner kinds saves bytes scenario (ending.Overfull limit) is ran = (scenario, is, ran)
ran_ends manner kinds saves bytes scenario (ending.Unposted count letters) is ran = (scenario, is, ran)
ran_ends manner kinds saves bytes scenario ending.Same is ran = (scenario, is, ran)
ran_ends manner kinds saves bytes scenario (ending.Differs n) is ran = (scenario, is, ran)

pub scenario_ends : {X : Type 0} (manner : Manner) (kinds : List ℕ) (saves : Telling) (bytes : List ℕ) (scenario : Scenario) (result : Result Ending X) → scenario_of bytes ≡ Ok scenario →
    IfOk result (λ e. EndsRun manner kinds saves told_as.Report scenario e) → IfOk result (λ e. EndsScenario manner kinds saves bytes e)
scenario_ends manner kinds saves bytes scenario (Ok e) is ran = ran_ends manner kinds saves bytes scenario e is ran
scenario_ends manner kinds saves bytes scenario (Err x) is ran = tt

-- words that are not accepted ask for no scenario that is read, nor do those of an audit
never_played : {A : Type 0} (words : List (List ℕ)) → service_for (job_of words) ≡ None → AsksToPlay words → A
never_played words none (manner, is) = by_job (job_of words) none is
  where
    by_job : {A : Type 0} (job : Option Job) → service_for job ≡ None → manner_of job ≡ Some manner → A
    by_job None none is = absurd cc
    by_job (Some job) none is = absurd (let h = none in cc)

module _ (words : List (List ℕ)) (unread unfailed : Type 0) where
  pub usage_tells : service_for (job_of words) ≡ None → unfailed → TellsCause words unread unfailed ending.Usage
  usage_tells none kept =
      let other : IsUnserved words = ap (λ x. is_some x) none in
      record { usage = λ _. other; others = λ _. refl; failed = λ is. absurd (omega (arith, is)); served = λ _. kept; audit = λ is. never_served words other is; made = λ is. never_made words other is; played = λ is. never_played words none is }

  -- an ending of a service that is none of words
  ends_tells : (s : Service) (e : Ending) → IsServed words s → ending_status e ≢ 2 → (ending_status e ≡ 4 → unread) → (ending_status e ≢ 4 → unfailed) →
      (IsAudit words → Contains statuses_of_audit (ending_status e)) → (IsOfFourNumbers words → Contains statuses_of_made (ending_status e)) →
      (AsksToPlay words → Contains statuses_of_played (ending_status e)) → TellsCause words unread unfailed e
  ends_tells s e said no_usage failed served audit made played =
      record { usage = λ is. absurd (no_usage is); others = λ other. absurd (never_both words s said other); failed = failed; served = served; audit = audit; made = made; played = played }

  -- words for which something is read make no scenario of numbers
  pub read_no_made : {A : Type 0} (r : Reader) → IsServed words (service.Reads r) → IsOfFourNumbers words → A
  read_no_made reader.Sim said made = made_no_run words In_order (ap (λ j. manner_of j) (job_served words (service.Reads reader.Sim) said)) made
  read_no_made reader.Run said made = made_no_run words Apart (ap (λ j. manner_of j) (job_served words (service.Reads reader.Run) said)) made
  read_no_made reader.Audit said made = made_no_audit words (job_served words (service.Reads reader.Audit) said) made

  pub unread_tells : (r : Reader) → IsServed words (service.Reads r) → unread → TellsCause words unread unfailed ending.Unread
  unread_tells r said rose =
      ends_tells (service.Reads r) ending.Unread said (λ is. omega (arith, is)) (λ _. rose) (λ other. absurd (other refl)) (λ _. (2, omega arith, refl)) (λ made. read_no_made r said made) (λ _. (2, omega arith, refl))

  -- an ending that is neither of these, of a run and of an audit
  run_tells : (s : Service) (e : Ending) → IsServed words s → (IsAudit words → ⊥) → unfailed → ending_status e ≢ 2 → ending_status e ≢ 4 → (IsOfFourNumbers words → Contains statuses_of_made (ending_status e)) →
      Contains statuses_of_played (ending_status e) → TellsCause words unread unfailed e
  run_tells s e said other kept no_usage no_failure range played = ends_tells s e said no_usage (λ is. absurd (no_failure is)) (λ _. kept) (λ audit. absurd (other audit)) range (λ _. played)

  audit_tells : (e : Ending) → IsServed words (service.Reads reader.Audit) → unfailed → ending_status e ≢ 2 → ending_status e ≢ 4 → Contains statuses_of_audit (ending_status e) → TellsCause words unread unfailed e
  audit_tells e said kept no_usage no_failure range = ends_tells (service.Reads reader.Audit) e said no_usage (λ is. absurd (no_failure is)) (λ _. kept) (λ _. range) (λ made. read_no_made reader.Audit said made)
      (λ played. no_audit words played.0 played.1 (job_served words (service.Reads reader.Audit) said))

  module _ (kinds : List ℕ) (saves : Telling) where
    tells_run : (manner : Manner) (s : Service) (e : Ending) (output : Output) (scenario : Scenario) → IsServed words s → (IsAudit words → ⊥) → unfailed → EndsRun manner kinds saves output scenario e → TellsCause words unread unfailed e
    tells_run manner s (ending.Report written) output scenario said other kept ends = run_tells s (ending.Report written) said other kept (λ is. omega (arith, is)) (λ is. omega (arith, is)) (λ _. (0, omega arith, refl)) (0, omega arith, refl)
    tells_run manner s ending.Usage output scenario said other kept never = absurd never
    tells_run manner s (ending.Refused fault) output scenario said other kept never = absurd never
    tells_run manner s ending.Unread output scenario said other kept never = absurd never
    tells_run manner s (ending.NoQuorum up needed) output scenario said other kept ends = run_tells s (ending.NoQuorum up needed) said other kept (λ is. omega (arith, is)) (λ is. omega (arith, is)) (λ _. (3, omega arith, refl)) (5, omega arith, refl)
    tells_run manner s (ending.Overfull limit) output scenario said other kept ends = run_tells s (ending.Overfull limit) said other kept (λ is. omega (arith, is)) (λ is. omega (arith, is)) (λ _. (4, omega arith, refl)) (6, omega arith, refl)
    tells_run manner s (ending.Unposted count letters) output scenario said other kept ends = run_tells s (ending.Unposted count letters) said other kept (λ is. omega (arith, is)) (λ is. omega (arith, is)) (λ _. (5, omega arith, refl)) (7, omega arith, refl)
    tells_run manner s ending.Same output scenario said other kept never = absurd never
    tells_run manner s (ending.Differs n) output scenario said other kept never = absurd never

    tells_scenario : (manner : Manner) (r : Reader) (e : Ending) (bytes : List ℕ) → manner_of (Some (reads_for r)) ≡ Some manner → IsServed words (service.Reads r) → unfailed → EndsScenario manner kinds saves bytes e →
        TellsCause words unread unfailed e
    tells_scenario manner r e bytes plays said kept ends =
        let other : IsAudit words → ⊥ = λ audit. no_audit words manner (ap (λ j. manner_of j) (job_served words (service.Reads r) said) ∙ plays) audit in
        elim (refused_or_ran manner kinds saves bytes e ends) [
          | inl refused ↦ subst (λ x. TellsCause words unread unfailed x) (sym refused.1)
              (run_tells (service.Reads r) (ending.Refused refused.0) said other kept (λ is. omega (arith, is)) (λ is. omega (arith, is)) (λ made. read_no_made r said made) (1, omega arith, refl))
          | inr ran ↦ tells_run manner (service.Reads r) e told_as.Report ran.0 said other kept ran.2
        ]

    tells_report : (e : Ending) (bytes : List ℕ) → IsServed words (service.Reads reader.Audit) → unfailed → EndsReport kinds bytes e → TellsCause words unread unfailed e
    tells_report (ending.Report written) bytes said kept never = absurd never
    tells_report ending.Usage bytes said kept never = absurd never
    tells_report (ending.Refused fault) bytes said kept ends =
        audit_tells (ending.Refused fault) said kept (λ is. omega (arith, is)) (λ is. omega (arith, is)) (1, omega arith, refl)
    tells_report ending.Unread bytes said kept never = absurd never
    tells_report (ending.NoQuorum up needed) bytes said kept never = absurd never
    tells_report (ending.Overfull limit) bytes said kept never = absurd never
    tells_report (ending.Unposted count letters) bytes said kept never = absurd never
    tells_report ending.Same bytes said kept ends = audit_tells ending.Same said kept (λ is. omega (arith, is)) (λ is. omega (arith, is)) (0, omega arith, refl)
    tells_report (ending.Differs n) bytes said kept ends =
        audit_tells (ending.Differs n) said kept (λ is. omega (arith, is)) (λ is. omega (arith, is)) (5, omega arith, refl)

    tells_read : (r : Reader) (e : Ending) (bytes : List ℕ) → IsServed words (service.Reads r) → unfailed → EndsRead kinds saves r bytes e → TellsCause words unread unfailed e
    tells_read reader.Sim e bytes said kept ends = tells_scenario In_order reader.Sim e bytes refl said kept ends
    tells_read reader.Run e bytes said kept ends = tells_scenario Apart reader.Run e bytes refl said kept ends
    tells_read reader.Audit e bytes said kept ends = tells_report e bytes said kept ends

    pub read_tells : {X : Type 0} (r : Reader) (bytes : List ℕ) (result : Result Ending X) → IsServed words (service.Reads r) → unfailed → IfOk result (λ e. EndsRead kinds saves r bytes e) →
        IfOk result (λ e. TellsCause words unread unfailed e)
    read_tells r bytes (Ok e) said kept ends = tells_read r e bytes said kept ends
    read_tells r bytes (Err x) said kept ends = tt

    pub made_tells : {X : Type 0} (number controllers switches frames : ℕ) (scenario : Scenario) (output : Output) (result : Result Ending X) → IsServed words (service.Gen number controllers switches frames) → unfailed →
        IfOk result (λ e. EndsRun In_order kinds saves output scenario e) → IfOk result (λ e. TellsCause words unread unfailed e)
    made_tells number controllers switches frames scenario output (Ok e) said kept ends =
        tells_run In_order (service.Gen number controllers switches frames) e output scenario said
        (λ audit. no_audit_made words number controllers switches frames (job_served words (service.Gen number controllers switches frames) said) audit) kept ends
    made_tells number controllers switches frames scenario output (Err x) said kept ends = tt

module _ (kinds : List ℕ) (saves : Telling) (words : List (List ℕ)) (unread : Type 0) where
  pub usage_caused : (before after : Option (List ℕ)) → service_for (job_of words) ≡ None → HasEndingCause kinds saves words unread before after ending.Usage
  usage_caused None after none = ([], [], outcome.Usage (ap (λ x. is_some x) none))
  usage_caused (Some input) None none = ([], [], outcome.Usage (ap (λ x. is_some x) none))
  usage_caused (Some input) (Some rest) none = outcome.Usage (ap (λ x. is_some x) none)

  pub unread_caused : (r : Reader) (before after : Option (List ℕ)) → IsServed words (service.Reads r) → unread → HasEndingCause kinds saves words unread before after ending.Unread
  unread_caused r None after said rose = ([], [], outcome.Unread r said rose)
  unread_caused r (Some input) None said rose = ([], [], outcome.Unread r said rose)
  unread_caused r (Some input) (Some rest) said rose = outcome.Unread r said rose

  abbrev IsCaused : List ℕ → List ℕ → Ending → Type 0
  IsCaused input rest e = Outcome kinds saves words input rest unread (ending_status e) (outcome_text e)

  -- the run of the scenario that was asked
  ran_caused : (input rest : List ℕ) (e : Ending) (manner : Manner) (scenario : Scenario) (output : Output) → IsAsked words input rest manner scenario output → EndsRun manner kinds saves output scenario e → IsCaused input rest e
  ran_caused input rest (ending.Report written) manner scenario output asked done = outcome.Closed manner scenario output asked done
  ran_caused input rest ending.Usage manner scenario output asked never = absurd never
  ran_caused input rest (ending.Refused fault) manner scenario output asked never = absurd never
  ran_caused input rest ending.Unread manner scenario output asked never = absurd never
  ran_caused input rest (ending.NoQuorum up needed) manner scenario output asked left = outcome.Left manner scenario output up needed asked left
  ran_caused input rest (ending.Overfull limit) manner scenario output asked full = outcome.Overfull manner scenario output limit asked full
  ran_caused input rest (ending.Unposted bytes letters) manner scenario output asked full = outcome.Unposted manner scenario output bytes letters asked full
  ran_caused input rest ending.Same manner scenario output asked never = absurd never
  ran_caused input rest (ending.Differs n) manner scenario output asked never = absurd never

  -- the scenario that four numbers make
  numbers_caused : (input : List ℕ) (e : Ending) (number controllers switches frames : ℕ) → IsServed words (service.Gen number controllers switches frames) →
      EndsRun In_order kinds saves told_as.LastLine (generated number controllers switches frames) e → IsCaused input input e
  numbers_caused input e number controllers switches frames said ends =
      ran_caused input input e In_order (generated number controllers switches frames) told_as.LastLine
      (Of_numbers number controllers switches frames (job_served words (service.Gen number controllers switches frames) said) refl) ends

  made_ended : (before after : Option (List ℕ)) (e : Ending) (number controllers switches frames : ℕ) → IsServed words (service.Gen number controllers switches frames) → after ≡ before →
      EndsRun In_order kinds saves told_as.LastLine (generated number controllers switches frames) e → HasEndingCause kinds saves words unread before after e
  made_ended None after e number controllers switches frames said same ends = ([], [], numbers_caused [] e number controllers switches frames said ends)
  made_ended (Some input) None e number controllers switches frames said same ends = ([], [], numbers_caused [] e number controllers switches frames said ends)
  made_ended (Some input) (Some rest) e number controllers switches frames said same ends =
      subst (λ (left : List ℕ). IsCaused input left e) (sym (one same)) (numbers_caused input e number controllers switches frames said ends)
    where
      one : Some rest ≡ Some input → rest ≡ input
      one h = cc

  pub made_caused : {X : Type 0} (before after : Option (List ℕ)) (number controllers switches frames : ℕ) (scenario : Scenario) (result : Result Ending X) → IsServed words (service.Gen number controllers switches frames) → after ≡ before →
      scenario ≡ generated number controllers switches frames → IfOk result (λ e. EndsRun In_order kinds saves told_as.LastLine scenario e) → IfOk result (λ e. HasEndingCause kinds saves words unread before after e)
  made_caused before after number controllers switches frames scenario (Ok e) said same is ends =
      made_ended before after e number controllers switches frames said same (subst (λ s. EndsRun In_order kinds saves told_as.LastLine s e) is ends)
  made_caused before after number controllers switches frames scenario (Err x) said same is ends = tt

  -- the same, whatever the source tells
  pub made_of_numbers : {X : Type 0} (number controllers switches frames : ℕ) (scenario : Scenario) (result : Result Ending X) → IsServed words (service.Gen number controllers switches frames) →
      scenario ≡ generated number controllers switches frames → IfOk result (λ e. EndsRun In_order kinds saves told_as.LastLine scenario e) → IfOk result (λ e. IsOfNumbers kinds saves words unread e)
  made_of_numbers number controllers switches frames scenario (Ok e) said is ends =
      λ made input. numbers_caused input e number controllers switches frames said (subst (λ s. EndsRun In_order kinds saves told_as.LastLine s e) is ends)
  made_of_numbers number controllers switches frames scenario (Err x) said is ends = tt

  pub usage_of_numbers : service_for (job_of words) ≡ None → IsOfNumbers kinds saves words unread ending.Usage
  usage_of_numbers none made = never_made words (ap (λ x. is_some x) none) made

  pub read_of_numbers : {X : Type 0} (r : Reader) (result : Result Ending X) → IsServed words (service.Reads r) → IfOk result (λ e. IsOfNumbers kinds saves words unread e)
  read_of_numbers r (Ok e) said = λ made. read_no_made words unread unread r said made
  read_of_numbers r (Err x) said = tt

  -- all that there was, was read
  read_whole : (limit : ℕ) (input rest : List ℕ) → rest ≡ [] → length input ≤ limit + 1 → HasRead limit input rest
  read_whole limit input rest none most =
      subst (λ r. HasRead limit input r) (sym none) (elim (cases_lt limit (length input)) [
        | inl more ↦ Past_the_limit (omega (arith, more, most))
        | inr within ↦ To_the_end within
      ])

  run_of_all : (manner : Manner) (input rest : List ℕ) (e : Ending) → manner_of (job_of words) ≡ Some manner → rest ≡ [] → length input ≤ scenario_limit + 1 → EndsScenario manner kinds saves input e → IsCaused input rest e
  run_of_all manner input rest e said none most ends =
      elim (refused_or_ran manner kinds saves input e ends) [
        | inl refused ↦ subst (λ x. IsCaused input rest x) (sym refused.1) (outcome.Refused refused.0 manner said (read_whole scenario_limit input rest none most) refused.2)
        | inr ran ↦ ran_caused input rest e manner ran.0 told_as.Report (Of_bytes said none ran.1) ran.2
      ]

  -- too much was read
  oversized : (input rest : List ℕ) (fault : Fault) → IsAudit words → length rest + (report_limit + 1) ≡ length input → fault ≡ too_large → IsCaused input rest (ending.Refused fault)
  oversized input rest fault said many is = subst (λ f. IsCaused input rest (ending.Refused f)) (sym is) (outcome.Oversized said many)

  audit_of_all : (input rest : List ℕ) (e : Ending) → IsAudit words → rest ≡ [] → length input ≤ report_limit + 1 → EndsReport kinds input e → IsCaused input rest e
  audit_of_all input rest (ending.Report written) said none most never = absurd never
  audit_of_all input rest ending.Usage said none most never = absurd never
  audit_of_all input rest (ending.Refused fault) said none most (is, many) = oversized input rest fault said (omega (arith, ap (λ r. length r) none, most, many)) is
  audit_of_all input rest ending.Unread said none most never = absurd never
  audit_of_all input rest (ending.NoQuorum up needed) said none most never = absurd never
  audit_of_all input rest (ending.Overfull limit) said none most never = absurd never
  audit_of_all input rest (ending.Unposted bytes letters) said none most never = absurd never
  audit_of_all input rest ending.Same said none most (few, same) = outcome.Same said none few same
  audit_of_all input rest (ending.Differs n) said none most (few, differs) = outcome.Differs n said none few differs

  -- a scenario was found in bytes that are none
  never_found : {A : Type 0} (bytes : List ℕ) {scenario : _} → scenario_of bytes ≡ Err too_large → scenario_of bytes ≡ Ok scenario → A
  never_found bytes none is = absurd (subst (λ r. IfErr r (λ _. ⊥)) (sym is ∙ none) tt)

  run_past : (manner : Manner) (input rest bytes : List ℕ) (e : Ending) → manner_of (job_of words) ≡ Some manner → input ≡ bytes ++ rest → length bytes ≡ scenario_limit + 1 → EndsScenario manner kinds saves bytes e → IsCaused input rest e
  run_past manner input rest bytes e said is long ends =
      let lengths = ap length is ∙ length-append bytes rest in
      elim (refused_or_ran manner kinds saves bytes e ends) [
        | inl refused ↦ subst (λ x. IsCaused input rest x) (sym refused.1) (outcome.Refused refused.0 manner said (Past_the_limit (omega (arith, lengths, long)))
            (too_long input (omega (arith, lengths, long)) ∙ sym (too_long bytes (omega (arith, long))) ∙ refused.2))
        | inr ran ↦ never_found bytes (too_long bytes (omega (arith, long))) ran.1
      ]

  audit_past : (input rest bytes : List ℕ) (e : Ending) → IsAudit words → input ≡ bytes ++ rest → length bytes ≡ report_limit + 1 → EndsReport kinds bytes e → IsCaused input rest e
  audit_past input rest bytes (ending.Report written) said is long never = absurd never
  audit_past input rest bytes ending.Usage said is long never = absurd never
  audit_past input rest bytes (ending.Refused fault) said is long (large, many) =
      let lengths = ap length is ∙ length-append bytes rest in
      oversized input rest fault said (omega (arith, lengths, long)) large
  audit_past input rest bytes ending.Unread said is long never = absurd never
  audit_past input rest bytes (ending.NoQuorum up needed) said is long never = absurd never
  audit_past input rest bytes (ending.Overfull limit) said is long never = absurd never
  audit_past input rest bytes (ending.Unposted count letters) said is long never = absurd never
  audit_past input rest bytes ending.Same said is long (few, same) = absurd (omega (arith, long, few))
  audit_past input rest bytes (ending.Differs n) said is long (few, differs) = absurd (omega (arith, long, few))

  read_all : (r : Reader) (input rest : List ℕ) (e : Ending) → IsServed words (service.Reads r) → rest ≡ [] → length input ≤ limit_of r + 1 → EndsRead kinds saves r input e → IsCaused input rest e
  read_all reader.Sim input rest e said none most ends = run_of_all In_order input rest e (ap (λ j. manner_of j) (job_served words (service.Reads reader.Sim) said)) none most ends
  read_all reader.Run input rest e said none most ends = run_of_all Apart input rest e (ap (λ j. manner_of j) (job_served words (service.Reads reader.Run) said)) none most ends
  read_all reader.Audit input rest e said none most ends = audit_of_all input rest e (job_served words (service.Reads reader.Audit) said) none most ends

  read_past : (r : Reader) (input rest bytes : List ℕ) (e : Ending) → IsServed words (service.Reads r) → input ≡ bytes ++ rest → length bytes ≡ limit_of r + 1 → EndsRead kinds saves r bytes e → IsCaused input rest e
  read_past reader.Sim input rest bytes e said is long ends = run_past In_order input rest bytes e (ap (λ j. manner_of j) (job_served words (service.Reads reader.Sim) said)) is long ends
  read_past reader.Run input rest bytes e said is long ends = run_past Apart input rest bytes e (ap (λ j. manner_of j) (job_served words (service.Reads reader.Run) said)) is long ends
  read_past reader.Audit input rest bytes e said is long ends = audit_past input rest bytes e (job_served words (service.Reads reader.Audit) said) is long ends

  ended : (r : Reader) (before after : Option (List ℕ)) (bytes : List ℕ) (e : Ending) → IsServed words (service.Reads r) → Consumes before after bytes →
      IsAtEnd after ⊎ (length bytes ≡ limit_of r + 1) → length bytes ≤ limit_of r + 1 → EndsRead kinds saves r bytes e → HasEndingCause kinds saves words unread before after e
  ended r None after bytes e said read whole most ends = (bytes, [], read_all r bytes [] e said refl most ends)
  ended r (Some input) None bytes e said read whole most ends = (bytes, [], read_all r bytes [] e said refl most ends)
  ended r (Some input) (Some rest) bytes e said read (inl end) most ends =
      let same : bytes ≡ input = sym (read ∙ ap (λ l. bytes ++ l) end ∙ append-nil bytes) in
      read_all r input rest e said end (subst (λ b. length b ≤ limit_of r + 1) same most) (subst (λ b. EndsRead kinds saves r b e) same ends)
  ended r (Some input) (Some rest) bytes e said read (inr long) most ends = read_past r input rest bytes e said read long ends

  pub read_caused : {X : Type 0} (r : Reader) (limit : ℕ) (before after : Option (List ℕ)) (bytes : List ℕ) (result : Result Ending X) → IsServed words (service.Reads r) → limit ≡ limit_of r →
      Consumes before after bytes → IsAtEnd after ⊎ (length bytes ≡ limit + 1) → length bytes ≤ limit + 1 → IfOk result (λ e. EndsRead kinds saves r bytes e) →
      IfOk result (λ e. HasEndingCause kinds saves words unread before after e)
  read_caused r limit before after bytes (Ok e) said is read whole most ends =
      ended r before after bytes e said read (subst (λ n. IsAtEnd after ⊎ (length bytes ≡ n + 1)) is whole) (subst (λ n. length bytes ≤ n + 1) is most) ends
  read_caused r limit before after bytes (Err x) said is read whole most ends = tt

pub in_range : (e : Ending) → Contains statuses (ending_status e)
in_range (ending.Report written) = (0, omega arith, refl)
in_range ending.Usage = (1, omega arith, refl)
in_range (ending.Refused fault) = (2, omega arith, refl)
in_range ending.Unread = (3, omega arith, refl)
in_range (ending.NoQuorum up needed) = (6, omega arith, refl)
in_range (ending.Overfull limit) = (8, omega arith, refl)
in_range (ending.Unposted count letters) = (9, omega arith, refl)
in_range ending.Same = (0, omega arith, refl)
in_range (ending.Differs n) = (7, omega arith, refl)

-- what plays ends by none of the answers of what plays nothing
played : (status : ℕ) → (status ≢ 2) → (status ≢ 3) → (status ≢ 4) → (status ≢ 8) → IsUnplayed status → ⊥
played status two three four eight unplayed =
    elim unplayed [
      | inl is ↦ two is
      | inr more ↦ elim more [
        | inl is ↦ three is
        | inr last ↦ elim last [
          | inl is ↦ four is
          | inr is ↦ eight is
        ]
      ]
    ]

run_played : (manner : Manner) (kinds : List ℕ) (saves : Telling) (output : Output) (scenario : Scenario) (e : Ending) → EndsRun manner kinds saves output scenario e → IsUnplayed (ending_status e) → ⊥
run_played manner kinds saves output scenario (ending.Report written) ends = played 0 (λ is. omega (arith, is)) (λ is. omega (arith, is)) (λ is. omega (arith, is)) (λ is. omega (arith, is))
run_played manner kinds saves output scenario ending.Usage never = absurd never
run_played manner kinds saves output scenario (ending.Refused fault) never = absurd never
run_played manner kinds saves output scenario ending.Unread never = absurd never
run_played manner kinds saves output scenario (ending.NoQuorum up needed) ends = played 7 (λ is. omega (arith, is)) (λ is. omega (arith, is)) (λ is. omega (arith, is)) (λ is. omega (arith, is))
run_played manner kinds saves output scenario (ending.Overfull limit) ends = played 9 (λ is. omega (arith, is)) (λ is. omega (arith, is)) (λ is. omega (arith, is)) (λ is. omega (arith, is))
run_played manner kinds saves output scenario (ending.Unposted count letters) ends = played 10 (λ is. omega (arith, is)) (λ is. omega (arith, is)) (λ is. omega (arith, is)) (λ is. omega (arith, is))
run_played manner kinds saves output scenario ending.Same never = absurd never
run_played manner kinds saves output scenario (ending.Differs n) never = absurd never

-- nor do a failed write and want of memory
pub unwritten_played : IsUnplayed 5 → ⊥
unwritten_played = played 5 (λ is. omega (arith, is)) (λ is. omega (arith, is)) (λ is. omega (arith, is)) (λ is. omega (arith, is))

pub memoryless_played : IsUnplayed 6 → ⊥
memoryless_played = played 6 (λ is. omega (arith, is)) (λ is. omega (arith, is)) (λ is. omega (arith, is)) (λ is. omega (arith, is))

-- what the stable pairs of a slice tell, those of its vector tell, over which they are written back
pub ends_over : {X W : Type 0} (saving : Saving W) (kinds : List ℕ) (output : Output) (scenario : Scenario) (result : Result Ending X) (n : ℕ) (before lent left : List W) → n ≡ length before → lent ≡ before → length left ≡ length lent →
    IfOk result (λ e. EndsRun In_order kinds (StablesTell saving lent left) output scenario e) →
    IfOk result (λ e. EndsRun In_order kinds (StablesTell saving before (take n (left ++ drop (length left) before))) output scenario e)
ends_over saving kinds output scenario result n before lent left all lends long ends =
    let lies = ap (λ m. take m (left ++ drop (length left) before)) (all ∙ sym (long ∙ ap (λ l. length l) lends)) ∙ take-append_seam left (drop (length left) before) in
    subst (λ (l : List _). IfOk result (λ e. EndsRun In_order kinds (StablesTell saving before l) output scenario e)) (sym lies)
    (subst (λ (l : List _). IfOk result (λ e. EndsRun In_order kinds (StablesTell saving l left) output scenario e)) lends ends)

-- so the stable pairs that a run leaves need not be the first ones only where it ends otherwise
pub run_untouched : {X W : Type 0} (manner : Manner) (kinds : List ℕ) (saves : Telling) (output : Output) (scenario : Scenario) (result : Result Ending X) (before after : List W) →
    IfOk result (λ e. EndsRun manner kinds saves output scenario e) → IfOk result (λ e. IsUnplayed (ending_status e) → after ≡ before)
run_untouched manner kinds saves output scenario (Ok e) before after ends = λ unplayed. absurd (run_played manner kinds saves output scenario e ends unplayed)
run_untouched manner kinds saves output scenario (Err x) before after ends = tt

-- a scenario that numbers make is played
pub made_plays : {A : Type 0} (words : List (List ℕ)) (number controllers switches frames : ℕ) → IsServed words (service.Gen number controllers switches frames) → PlaysNothing words → A
made_plays words number controllers switches frames said (inl other) = absurd (never_both words (service.Gen number controllers switches frames) said other)
made_plays words number controllers switches frames said (inr audit) =
    no_audit_made words number controllers switches frames (job_served words (service.Gen number controllers switches frames) said) audit

-- words for which something is read, and nothing is played, ask for an audit
pub reads_plays : (words : List (List ℕ)) (r : Reader) → IsServed words (service.Reads r) → PlaysNothing words → r ≡ reader.Audit
reads_plays words r said (inl other) = absurd (never_both words (service.Reads r) said other)
reads_plays words reader.Audit said (inr audit) = refl
reads_plays words reader.Sim said (inr audit) = no_audit words In_order (ap (λ j. manner_of j) (job_served words (service.Reads reader.Sim) said)) audit
reads_plays words reader.Run said (inr audit) = no_audit words Apart (ap (λ j. manner_of j) (job_served words (service.Reads reader.Run) said)) audit

pub reads_some : {A : Type 0} (words : List (List ℕ)) (r : Reader) → IsServed words (service.Reads r) → ReadsNothing words → A
reads_some words r said (inl other) = absurd (never_both words (service.Reads r) said other)
reads_some words r said (inr made) = read_no_made words (Unit {0}) (Unit {0}) r said made

-- the line of an ending
pub line_is : (e : Ending) → IsOneLine (ending_status e) (outcome_text e)
line_is (ending.Report written) = record { usage = λ is. absurd (omega (arith, is)); unread = λ is. absurd (omega (arith, is)); nothing = λ is. absurd (omega (arith, is)) }
line_is ending.Usage = record { usage = λ is. refl; unread = λ is. absurd (omega (arith, is)); nothing = λ is. absurd (omega (arith, is)) }
line_is (ending.Refused fault) = record { usage = λ is. absurd (omega (arith, is)); unread = λ is. absurd (omega (arith, is)); nothing = λ is. absurd (omega (arith, is)) }
line_is ending.Unread = record { usage = λ is. absurd (omega (arith, is)); unread = λ is. refl; nothing = λ is. absurd (omega (arith, is)) }
line_is (ending.NoQuorum up needed) = record { usage = λ is. absurd (omega (arith, is)); unread = λ is. absurd (omega (arith, is)); nothing = λ is. absurd (omega (arith, is)) }
line_is (ending.Overfull limit) = record { usage = λ is. absurd (omega (arith, is)); unread = λ is. absurd (omega (arith, is)); nothing = λ is. absurd (omega (arith, is)) }
line_is (ending.Unposted count letters) = record { usage = λ is. absurd (omega (arith, is)); unread = λ is. absurd (omega (arith, is)); nothing = λ is. absurd (omega (arith, is)) }
line_is ending.Same = record { usage = λ is. absurd (omega (arith, is)); unread = λ is. absurd (omega (arith, is)); nothing = λ is. absurd (omega (arith, is)) }
line_is (ending.Differs n) = record { usage = λ is. absurd (omega (arith, is)); unread = λ is. absurd (omega (arith, is)); nothing = λ is. absurd (omega (arith, is)) }

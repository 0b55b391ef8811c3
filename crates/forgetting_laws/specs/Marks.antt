-- The results of commands that are settled are forgotten, and no rule asks for them.
use Rattle.std.specs.Prelude.{◌≡◌, ◌<◌, ℕ, true, List, ◌++◌}
use Rattle.of_types.specs.declared.setup.Setup.{Setup}
use Rattle.vr_log.specs.declared.entry.Entry.{Entry}
use Rattle.vr_log.specs.Log.{received}
use Rattle.app_core.specs.Chain.{concat}
use Rattle.app_core.specs.Issued.{count_issued, issues}
use Rattle.dispatcher.specs.Marks.{Marks, confirmed_by, has_result, is_confirmed, is_finished, no_marks, off_role, outstanding, pending_alone, wanted, with_marked_result}

-- the questions that a controller's rules ask of the marks of its view have the same answers
pub record AnswerAlike (kinds : List ℕ) (setup : Setup) (log : List Entry) (marks other : Marks) : Type 0 where
  pub wanted : wanted kinds setup log marks ≡ wanted kinds setup log other  -- which commands want a result
  pub outstanding : outstanding kinds setup log marks ≡ outstanding kinds setup log other  -- which of them are sent again
  pub finished : is_finished kinds setup log marks ≡ is_finished kinds setup log other  -- whether the first event that is not processed is done
  pub confirmed : (switch : ℕ) → is_confirmed marks switch ≡ is_confirmed other switch  -- which switches took it as master

-- results came of issued commands alone
abbrev pub AreOfIssued : List ℕ → Setup → List Entry → Marks → Type 0
AreOfIssued kinds setup log marks =
    (switch life number : ℕ) → has_result marks switch life number ≡ true → number < count_issued switch life (concat (issues kinds setup (received log)))

-- The marks of a view begin with none, and neither a longer log, nor a result that is marked, nor forgetting leaves others.
pub record StayOfIssued (kinds : List ℕ) (setup : Setup) (log : List Entry) (marks : Marks) : Type 0 where
  pub grown : (entries : List Entry) → AreOfIssued kinds setup (log ++ entries) marks
  pub marked : (switch life number : ℕ) → AreOfIssued kinds setup log (with_marked_result kinds setup log marks switch life number)
  pub forgotten : AreOfIssued kinds setup log (pending_alone kinds setup log marks)

abbrev pub MarksAreOfIssued : Type 0
MarksAreOfIssued =
    (kinds : List ℕ) (setup : Setup) (log : List Entry) →
    AreOfIssued kinds setup log no_marks × ((marks : Marks) → AreOfIssued kinds setup log marks → StayOfIssued kinds setup log marks)

-- what is forgotten at a log is asked neither there nor at a longer one
abbrev pub ForgottenAreUnasked : Type 0
ForgottenAreUnasked =
    (kinds : List ℕ) (setup : Setup) (log entries : List Entry) (marks : Marks) → AreOfIssued kinds setup log marks →
    AnswerAlike kinds setup (log ++ entries) (pending_alone kinds setup log marks) marks

-- whether a result is marked, a switch confirms or greets before it is forgotten or after, the same is kept
pub record Commutes (kinds : List ℕ) (setup : Setup) (log : List Entry) (marks : Marks) : Type 0 where
  pub results : (switch life number : ℕ) →
      with_marked_result kinds setup log (pending_alone kinds setup log marks) switch life number ≡ pending_alone kinds setup log (with_marked_result kinds setup log marks switch life number)
  pub confirmed : (switch : ℕ) → confirmed_by (pending_alone kinds setup log marks) switch ≡ pending_alone kinds setup log (confirmed_by marks switch)
  pub greeted : (switch : ℕ) → off_role (pending_alone kinds setup log marks) switch ≡ pending_alone kinds setup log (off_role marks switch)

abbrev pub ForgettingCommutes : Type 0
ForgettingCommutes = (kinds : List ℕ) (setup : Setup) (log : List Entry) (marks : Marks) → Commutes kinds setup log marks

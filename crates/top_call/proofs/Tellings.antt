-- What was read and written, as the top call tells it.
use Rattle.std.proofs.Common.{◌≡◌, ℕ, List, refl, sym, ◌∙◌, subst, arith}
use Rattle.std.specs.Prelude.{Option}
use Rattle.std.specs.Io.KnownBytes.{Appends}
use Rattle.streams.specs.Fronts.{AppendsFront}
use Rattle.top_call.specs.declared.ending.Ending.{Ending}
use Rattle.top_call.specs.Cause.{HasEndingCause, IsOfNumbers}
use Rattle.top_call.specs.Ending.{ending_status, outcome_text}
use Rattle.top_call.specs.Outcome.{Answers, IsOneLine, IsOfFourNumbers, Served, Write_failed, No_memory, IsReadAndWritten, IsWritten}
use Rattle.top_call.specs.Runs.{Telling}
use Rattle.top_call.proofs.Endings.{line_is}
use Rattle.top_call.proofs.Streams.{read_as, read_any, all_written, front_written, none_written}

module _ (kinds : List ℕ) (saves : Telling) (words : List (List ℕ)) (unread unwritten : Type 0) where
  -- all of an outcome was written
  pub served : (before after taken now : Option (List ℕ)) (ending : Ending) (text : List ℕ) → HasEndingCause kinds saves words unread before after ending → text ≡ outcome_text ending →
      Appends taken now text → IsReadAndWritten before after taken now (λ input rest written. Answers kinds saves words input rest unread unwritten written (ending_status ending))
  served before after taken now ending text caused e a =
      read_as before after (λ input rest h. all_written (λ written. Answers kinds saves words input rest unread unwritten written (ending_status ending)) taken now text (Served (rw e h)) a) caused

  -- a front of it was written
  pub cut : (before after taken now : Option (List ℕ)) (ending : Ending) (text : List ℕ) → HasEndingCause kinds saves words unread before after ending → text ≡ outcome_text ending →
      unwritten → AppendsFront taken now text → IsReadAndWritten before after taken now (λ input rest written. Answers kinds saves words input rest unread unwritten written 5)
  cut before after taken now ending text caused e w a =
      read_as before after (λ input rest h. front_written (λ written. Answers kinds saves words input rest unread unwritten written 5) taken now text
      (λ front behind whole. Write_failed w (record { status = ending_status ending; whole = outcome_text ending; behind = behind; outcome = h; front = sym e ∙ whole })) a) caused

  -- nothing was written
  pub nothing : (before after taken : Option (List ℕ)) → IsReadAndWritten before after taken taken (λ input rest written. Answers kinds saves words input rest unread unwritten written 6)
  nothing before after taken = read_any before after (λ input rest. none_written (λ written. Answers kinds saves words input rest unread unwritten written 6) taken (No_memory refl))

pub line_served : (taken now : Option (List ℕ)) (ending : Ending) (text : List ℕ) → text ≡ outcome_text ending → Appends taken now text → IsWritten taken now (IsOneLine (ending_status ending))
line_served taken now ending text e a = all_written (IsOneLine (ending_status ending)) taken now text (subst (λ t. IsOneLine (ending_status ending) t) (sym e) (line_is ending)) a

pub line_cut : (taken now : Option (List ℕ)) (text : List ℕ) → AppendsFront taken now text → IsWritten taken now (IsOneLine 5)
line_cut taken now text a =
    front_written (IsOneLine 5) taken now text (λ front behind whole. record { usage = λ is. absurd (omega (arith, is)); unread = λ is. absurd (omega (arith, is)); nothing = λ is. absurd (omega (arith, is)) }) a

pub line_nothing : (taken : Option (List ℕ)) → IsWritten taken taken (IsOneLine 6)
line_nothing taken = none_written (IsOneLine 6) taken (record { usage = λ is. absurd (omega (arith, is)); unread = λ is. absurd (omega (arith, is)); nothing = λ _. refl })

module _ (kinds : List ℕ) (saves : Telling) (words : List (List ℕ)) (unread unwritten : Type 0) where
  pub numbers_served : (taken now : Option (List ℕ)) (ending : Ending) (text : List ℕ) → IsOfNumbers kinds saves words unread ending → text ≡ outcome_text ending → Appends taken now text →
      IsOfFourNumbers words → (input : List ℕ) → IsWritten taken now (λ written. Answers kinds saves words input input unread unwritten written (ending_status ending))
  numbers_served taken now ending text holds e a made input =
      all_written (λ written. Answers kinds saves words input input unread unwritten written (ending_status ending)) taken now text (Served (rw e (holds made input))) a

  pub numbers_cut : (taken now : Option (List ℕ)) (ending : Ending) (text : List ℕ) → IsOfNumbers kinds saves words unread ending → text ≡ outcome_text ending → unwritten → AppendsFront taken now text →
      IsOfFourNumbers words → (input : List ℕ) → IsWritten taken now (λ written. Answers kinds saves words input input unread unwritten written 5)
  numbers_cut taken now ending text holds e failed a made input =
      front_written (λ written. Answers kinds saves words input input unread unwritten written 5) taken now text
      (λ front behind whole. Write_failed failed (record { status = ending_status ending; whole = outcome_text ending; behind = behind; outcome = holds made input; front = sym e ∙ whole })) a

  pub numbers_nothing : (taken : Option (List ℕ)) → IsOfFourNumbers words → (input : List ℕ) → IsWritten taken taken (λ written. Answers kinds saves words input input unread unwritten written 6)
  numbers_nothing taken made input = none_written (λ written. Answers kinds saves words input input unread unwritten written 6) taken (No_memory refl)

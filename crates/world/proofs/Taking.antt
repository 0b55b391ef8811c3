-- A turn of a controller, with the results of its saves, is the step that a past gives.
use Rattle.std.proofs.Common.{◌≡◌, ℕ, ◌+◌, List, [], ◌∷◌, ◌++◌, length, refl, sym, ◌∙◌, ap, length-append, append-nil}
use Rattle.std.specs.Prelude.{Option, Some, None, slice_index_or}
use Rattle.journal.specs.declared.journal.Letter.{Letter}
use Rattle.journal.specs.declared.journal.SaveResult.{SaveResult}
use Rattle.journal.specs.declared.journal.SaveResult.TheVariants.{Saved, KeptOld, KeptNew}
use Rattle.group_controller.specs.declared.messages.ControllerSays.{ControllerSays}
use Rattle.group_controller.specs.State.{ControllerState, Work}
use Rattle.group_controller.specs.Turns.{Done, left_by, letters_posted_by}
use Rattle.run_spec.specs.States.{ControllerAt, controller_saved, controller_took}

-- the newest result
last_result : {A : Type 0} (xs : List A) (x d : A) → slice_index_or (xs ++ x ∷ []) (length xs) d ≡ x
last_result [] x d = refl
last_result (y ∷ xs) x d = last_result xs x d

-- a turn leaves what the past gives with the results that it leaves, which are those of before with at most one more
pub record IsTaken (results new : List SaveResult) (w v : ControllerAt) (state : ControllerState) (letters : List (Letter ControllerSays)) : Type 0 where
  pub now : v.now ≡ state
  pub owed : v.owed ≡ letters
  pub saves : v.saves ≡ length new
  pub more : List SaveResult
  pub joined : new ≡ results ++ more

module _ (results new : List SaveResult) (w : ControllerAt) (work : Work) (counted : w.saves ≡ length results) where
  saved_taken : (saved : ℕ × ℕ) (r : SaveResult) → new ≡ results ++ r ∷ [] →
      IsTaken results new w (controller_saved w work saved.0 saved.1 r) (left_by r w.now work saved) (letters_posted_by r work)
  saved_taken saved Saved kept = record { now = refl; owed = refl; saves = counts; more = Saved ∷ []; joined = kept }
    where
      counts : w.saves + 1 ≡ length new
      counts = ap (λ n. n + 1) counted ∙ sym (ap length kept ∙ length-append results (Saved ∷ []))
  saved_taken saved KeptOld kept = record { now = refl; owed = refl; saves = counts; more = KeptOld ∷ []; joined = kept }
    where
      counts : w.saves + 1 ≡ length new
      counts = ap (λ n. n + 1) counted ∙ sym (ap length kept ∙ length-append results (KeptOld ∷ []))
  saved_taken saved KeptNew kept = record { now = refl; owed = refl; saves = counts; more = KeptNew ∷ []; joined = kept }
    where
      counts : w.saves + 1 ≡ length new
      counts = ap (λ n. n + 1) counted ∙ sym (ap length kept ∙ length-append results (KeptNew ∷ []))

  took_by : (state : ControllerState) (letters : List (Letter ControllerSays)) (old_pair new_pair : ℕ × ℕ) (before after : ℕ) (o : Option (ℕ × ℕ)) → work.save ≡ o →
      Done w.now work o state letters results new old_pair new_pair before after → IsTaken results new w (controller_took new w work) state letters
  took_by state letters old_pair new_pair before after None is d =
      rw (is) (record {
        now = sym d.state_is;
        owed = sym d.letters_are;
        saves = counted ∙ sym (ap length d.kept);
        more = [];
        joined = d.kept ∙ sym (append-nil results);
      })
  took_by state letters old_pair new_pair before after (Some saved) is d =
      let found : slice_index_or new w.saves Saved ≡ d.result = rw (d.kept, counted) (last_result results d.result Saved) in
      rw (is, found, d.state_is, d.letters_are) (saved_taken saved d.result d.kept)

  pub took_is : (state : ControllerState) (letters : List (Letter ControllerSays)) (old_pair new_pair : ℕ × ℕ) (before after : ℕ) →
      Done w.now work work.save state letters results new old_pair new_pair before after → IsTaken results new w (controller_took new w work) state letters
  took_is state letters old_pair new_pair before after d = took_by state letters old_pair new_pair before after work.save refl d

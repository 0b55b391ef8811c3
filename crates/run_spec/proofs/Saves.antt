-- What became of saves that come later changes nothing of what a controller is and was.
use Rattle.std.proofs.Common.{◌≡◌, ◌≤◌, ◌<◌, ◌⊎◌, inl, inr, ℕ, ◌+◌, false, List, [], ◌∷◌, ◌++◌, length, zero, suc, refl, sym, ◌∙◌, ap, subst, arith}
use Rattle.std.specs.Prelude.{Option, Some, None, slice_index_or}
use Rattle.std.proofs.lemmas.Bool.{cases_lt}
use Rattle.journal.specs.declared.journal.JournalEntry.{JournalEntry}
use Rattle.journal.specs.declared.journal.JournalEntry.TheVariants.{Post, Draw, Lose, Local, Idle, Refused}
use Rattle.journal.specs.declared.journal.Packet.{Packet}
use Rattle.journal.specs.declared.journal.SaveResult.{SaveResult}
use Rattle.journal.specs.declared.journal.SaveResult.TheVariants.{Saved, KeptOld, KeptNew}
use Rattle.group_controller.specs.declared.messages.ControllerInput.TheVariants as controller_input
use Rattle.group_controller.specs.State.{ControllerState, Work, down}
use Rattle.group_controller.specs.Rules.{controller_work}
use Rattle.run_spec.specs.Legal.{EachFinds, FitsDebt, IsTurn, IsSoundController}
use Rattle.run_spec.specs.States.{Scene, ControllerAt, content, controller_hears, controller_message, controller_saved, controller_took, controller_step, controller_at}

-- the results so far are the first ones
first_results : {A : Type 0} (xs ys : List A) (i : ℕ) (d : A) → i < length xs → slice_index_or (xs ++ ys) i d ≡ slice_index_or xs i d
first_results [] ys i d less = absurd (omega (arith, less))
first_results (x ∷ xs) ys zero d less = refl
first_results (x ∷ xs) ys (suc i) d less = first_results xs ys i d (omega (arith, less))

-- With fewer and with more results a controller is the same, unless its newest turn has a save without a result yet, and
-- then it was the same before that turn; or it has gone on behind such a turn
data Alike (count : ℕ) (w v : ControllerAt) : Type 0 where
  Same : w ≡ v → Alike count w v
  Unsaved : w.before ≡ v.before → w.saves_before ≡ v.saves_before → count ≤ w.saves_before → w.saves_before < w.saves → Alike count w v
  Beyond : count < w.saves_before → count < w.saves → Alike count w v

module _ {B : Type 0} (scene : Scene B) (results more : List SaveResult) where
  saved_counts : (w : ControllerAt) (work : Work) (pair : ℕ × ℕ) (r : SaveResult) →
      ((controller_saved w work pair.0 pair.1 r).before ≡ w.now) × ((controller_saved w work pair.0 pair.1 r).saves_before ≡ w.saves) × ((controller_saved w work pair.0 pair.1 r).saves ≡ w.saves + 1)
  saved_counts w work pair Saved = (refl, refl, refl)
  saved_counts w work pair KeptOld = (refl, refl, refl)
  saved_counts w work pair KeptNew = (refl, refl, refl)

  took_alike : (w : ControllerAt) (work : Work) → Alike (length results) (controller_took results w work) (controller_took (results ++ more) w work)
  took_alike w work = by_save work.save refl
    where
      by_count : (pair : ℕ × ℕ) → (w.saves < length results) ⊎ (length results ≤ w.saves) →
          Alike (length results) (controller_saved w work pair.0 pair.1 (slice_index_or results w.saves Saved)) (controller_saved w work pair.0 pair.1 (slice_index_or (results ++ more) w.saves Saved))
      by_count pair (inl less) = Same (ap (λ (r : SaveResult). controller_saved w work pair.0 pair.1 r) (sym (first_results results more w.saves Saved less)))
      by_count pair (inr past) =
          let a = saved_counts w work pair (slice_index_or results w.saves Saved) in
          let b = saved_counts w work pair (slice_index_or (results ++ more) w.saves Saved) in
          let before_is = a.1 in
          let saves_is = a.2 in
          Unsaved (a.0 ∙ sym b.0) (a.1 ∙ sym b.1) (omega (arith, before_is, past)) (omega (arith, before_is, saves_is))

      by_save : (o : Option (ℕ × ℕ)) → work.save ≡ o → Alike (length results) (controller_took results w work) (controller_took (results ++ more) w work)
      by_save None h = rw h (Same refl)
      by_save (Some pair) h = rw h (by_count pair (cases_lt w.saves (length results)))

  -- a turn counts the saves before it, and no fewer after it
  took_counts : (rs : List SaveResult) (w : ControllerAt) (work : Work) → ((controller_took rs w work).saves_before ≡ w.saves) × (w.saves ≤ (controller_took rs w work).saves)
  took_counts rs w work = by_save work.save refl
    where
      by_save : (o : Option (ℕ × ℕ)) → work.save ≡ o → ((controller_took rs w work).saves_before ≡ w.saves) × (w.saves ≤ (controller_took rs w work).saves)
      by_save None h = rw h (refl, omega arith)
      by_save (Some pair) h = rw h (let a = saved_counts w work pair (slice_index_or rs w.saves Saved) in let n = a.2 in (a.1, omega (arith, n)))

  turn_alike : (w v : ControllerAt) (work : ControllerAt → Work) → Alike (length results) w v → Alike (length results) (controller_took results w (work w)) (controller_took (results ++ more) v (work v))
  turn_alike w v work (Same e) = subst (λ (z : ControllerAt). Alike (length results) (controller_took results w (work w)) (controller_took (results ++ more) z (work z))) e (took_alike w (work w))
  turn_alike w v work (Unsaved before saves_before past more_saves) = let c = took_counts results w (work w) in let a = c.0 in let b = c.1 in Beyond (omega (arith, a, past, more_saves)) (omega (arith, b, past, more_saves))
  turn_alike w v work (Beyond past more_saves) = let c = took_counts results w (work w) in let a = c.0 in let b = c.1 in Beyond (omega (arith, a, more_saves)) (omega (arith, b, more_saves))

  rests_alike : (w v : ControllerAt) → Alike (length results) w v → Alike (length results) (record w { fresh = false }) (record v { fresh = false })
  rests_alike w v (Same e) = Same (ap (λ (z : ControllerAt). record z { fresh = false }) e)
  rests_alike w v (Unsaved a b c d) = Unsaved a b c d
  rests_alike w v (Beyond a b) = Beyond a b

  posts_alike : (w v : ControllerAt) → Alike (length results) w v → Alike (length results) (record w { owed = []; fresh = false }) (record v { owed = []; fresh = false })
  posts_alike w v (Same e) = Same (ap (λ (z : ControllerAt). record z { owed = []; fresh = false }) e)
  posts_alike w v (Unsaved a b c d) = Unsaved a b c d
  posts_alike w v (Beyond a b) = Beyond a b

  abbrev refused_at : ControllerState → ℕ → ControllerAt
  refused_at before saves = record { now = down before before.vr.promise before.vr.life; before = before; owed = []; fresh = false; saves = saves; saves_before = saves }

  refuses_alike : (w v : ControllerAt) → Alike (length results) w v → Alike (length results) (refused_at w.before w.saves_before) (refused_at v.before v.saves_before)
  refuses_alike w v (Same e) = Same (ap (λ (z : ControllerAt). refused_at z.before z.saves_before) e)
  refuses_alike w v (Unsaved a b c d) = Same (ap (λ (z : ControllerState). refused_at z w.saves_before) a ∙ ap (λ (n : ℕ). refused_at v.before n) b)
  refuses_alike w v (Beyond a b) = Beyond a a

  step_alike : (w v : ControllerAt) (e : JournalEntry B) (found : Option (Packet B)) → Alike (length results) w v → Alike (length results) (controller_step scene results w e found) (controller_step scene (results ++ more) v e found)
  step_alike w v (Draw a id keep) (Some p) h = turn_alike w v (λ z. controller_work scene.kinds scene.setup z.now (controller_hears p.from (content scene.sealing p))) h
  step_alike w v (Draw a id keep) None h = rests_alike w v h
  step_alike w v (Local a input) found h = turn_alike w v (λ z. controller_work scene.kinds scene.setup z.now (controller_input.Local input)) h
  step_alike w v (Post a first letters lost) found h = posts_alike w v h
  step_alike w v (Refused a) found h = refuses_alike w v h
  step_alike w v (Lose a id) found h = rests_alike w v h
  step_alike w v (Idle a) found h = rests_alike w v h

  alike : (c : ℕ) (ps : List (JournalEntry B × Option (Packet B))) → Alike (length results) (controller_at scene results c ps) (controller_at scene (results ++ more) c ps)
  alike c [] = Same refl
  alike c (p ∷ ps) = step_alike (controller_at scene results c ps) (controller_at scene (results ++ more) c ps) p.0 p.1 (alike c ps)

  -- where each save has its result, more of them change nothing
  pub same_results : (c : ℕ) (ps : List (JournalEntry B × Option (Packet B))) → (controller_at scene results c ps).saves ≤ length results → controller_at scene results c ps ≡ controller_at scene (results ++ more) c ps
  same_results c ps few = elim (alike c ps) [
    | Same e ↦ e
    | Unsaved a b past later ↦ absurd (omega (arith, past, later, few))
    | Beyond a later ↦ absurd (omega (arith, later, few))
  ]

  -- no fewer saves were made than before the newest turn
  counts : (c : ℕ) (ps : List (JournalEntry B × Option (Packet B))) → (controller_at scene results c ps).saves_before ≤ (controller_at scene results c ps).saves
  counts c [] = omega arith
  counts c ((Draw a id keep, Some p) ∷ ps) =
      let w = controller_at scene results c ps in
      let n = took_counts results w (controller_work scene.kinds scene.setup w.now (controller_hears p.from (content scene.sealing p))) in
      let before = n.0 in
      let after = n.1 in
      omega (arith, before, after)
  counts c ((Draw a id keep, None) ∷ ps) = counts c ps
  counts c ((Local a input, found) ∷ ps) =
      let w = controller_at scene results c ps in
      let n = took_counts results w (controller_work scene.kinds scene.setup w.now (controller_input.Local input)) in
      let before = n.0 in
      let after = n.1 in
      omega (arith, before, after)
  counts c ((Post a first letters lost, found) ∷ ps) = counts c ps
  counts c ((Refused a, found) ∷ ps) = omega arith
  counts c ((Lose a id, found) ∷ ps) = counts c ps
  counts c ((Idle a, found) ∷ ps) = counts c ps

  -- each save has its result, but perhaps that of a newest turn that is to be refused
  record IsSettled (c : ℕ) (ps : List (JournalEntry B × Option (Packet B))) : Type 0 where
    pub before : (controller_at scene results c ps).saves_before ≤ length results
    pub now : ((controller_at scene results c ps).saves ≤ length results) ⊎ IsTurn ps

  -- the parts of a sound part stand where they may, with more results as well
  abbrev Sound : List SaveResult → ℕ → List (JournalEntry B × Option (Packet B)) → Type 0
  Sound rs c ps = IsSoundController scene rs c ps

  -- behind a part whose saves have their results
  behind : (c : ℕ) (e : JournalEntry B) (ps : List (JournalEntry B × Option (Packet B))) → (controller_at scene results c ps).saves ≤ length results →
      FitsDebt controller_message scene.sealing (controller_at scene results c ps).owed ps e → FitsDebt controller_message scene.sealing (controller_at scene (results ++ more) c ps).owed ps e
  behind c e ps few fits = subst (λ (w : ControllerAt). FitsDebt controller_message scene.sealing w.owed ps e) (same_results c ps few) fits

  settled : (c : ℕ) (ps : List (JournalEntry B × Option (Packet B))) → (controller_at scene results c ps).saves ≤ length results → IsSettled c ps
  settled c ps few = let n = counts c ps in record { before = omega (arith, n, few); now = inl few }

  few_now : (c : ℕ) (p : JournalEntry B × Option (Packet B)) (ps : List (JournalEntry B × Option (Packet B))) → (IsTurn (p ∷ ps) → ⊥) → IsSettled c (p ∷ ps) → (controller_at scene results c (p ∷ ps)).saves ≤ length results
  few_now c p ps rests s = elim s.now [ inl few ↦ few | inr turn ↦ absurd (rests turn) ]

  goes_on_sound : (c : ℕ) (ps : List (JournalEntry B × Option (Packet B))) → EachFinds ps → IsSettled c ps → Sound results c ps → Sound (results ++ more) c ps
  goes_on_sound c [] finds s sound = tt
  goes_on_sound c ((Draw a id keep, Some p) ∷ ps) finds s sound =
      let w = controller_at scene results c ps in
      let n = (took_counts results w (controller_work scene.kinds scene.setup w.now (controller_hears p.from (content scene.sealing p)))).0 in
      let within = s.before in
      let few : w.saves ≤ length results = omega (arith, n, within) in
      (behind c (Draw a id keep) ps few sound.0, goes_on_sound c ps finds (settled c ps few) sound.1)
  goes_on_sound c ((Draw a id keep, None) ∷ ps) finds s sound = absurd finds
  goes_on_sound c ((Local a input, found) ∷ ps) finds s sound =
      let w = controller_at scene results c ps in
      let n = (took_counts results w (controller_work scene.kinds scene.setup w.now (controller_input.Local input))).0 in
      let within = s.before in
      let few : w.saves ≤ length results = omega (arith, n, within) in
      (behind c (Local a input) ps few sound.0, goes_on_sound c ps finds (settled c ps few) sound.1)
  goes_on_sound c ((Post a first letters lost, found) ∷ ps) finds s sound =
      let few = few_now c (Post a first letters lost, found) ps (λ k. absurd k) s in
      (behind c (Post a first letters lost) ps few sound.0, goes_on_sound c ps finds (settled c ps few) sound.1)
  goes_on_sound c ((Refused a, found) ∷ ps) finds s sound =
      (sound.0, goes_on_sound c ps finds (record { before = s.before; now = inr sound.0 }) sound.1)
  goes_on_sound c ((Lose a id, found) ∷ ps) finds s sound =
      let few = few_now c (Lose a id, found) ps (λ k. absurd k) s in
      (behind c (Lose a id) ps few sound.0, goes_on_sound c ps finds (settled c ps few) sound.1)
  goes_on_sound c ((Idle a, found) ∷ ps) finds s sound =
      let few = few_now c (Idle a, found) ps (λ k. absurd k) s in
      (behind c (Idle a) ps few sound.0, goes_on_sound c ps finds (settled c ps few) sound.1)

  -- where each save has its result, more of them leave a part sound
  pub sound_with_more : (c : ℕ) (ps : List (JournalEntry B × Option (Packet B))) → EachFinds ps → (controller_at scene results c ps).saves ≤ length results →
      IsSoundController scene results c ps → IsSoundController scene (results ++ more) c ps
  sound_with_more c ps finds few sound = goes_on_sound c ps finds (settled c ps few) sound

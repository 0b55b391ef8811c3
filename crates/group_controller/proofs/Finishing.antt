-- Whether a view was started, and how events are finished.
use Rattle.std.proofs.Common.{◌≡◌, ◌≤◌, ℕ, ◌-◌, Bool, true, false, not, ◌&&◌, List, [], ◌∷◌, ◌++◌, length, map, take, drop, zero, suc, refl, sym, ap, ◌∙◌, arith, take-append-drop, length-append}
use Rattle.std.specs.Prelude.{nat_eq, nat_lt, nat_le, Some, filter, if◌then◌else◌}
use Rattle.std.proofs.lemmas.Bool.{and_parts, cond_both, eq-eqb, leb-true, lt-ltb, ltb-true}
use Rattle.of_types.specs.declared.setup.Setup.{Setup}
use Rattle.vr_log.specs.declared.entry.Entry.{Entry}
use Rattle.vr_log.specs.declared.state.VrState.{VrState}
use Rattle.vr_log.specs.Log.{is_past_limits, processed, received}
use Rattle.vr_log.specs.Members.{leads}
use Rattle.vr_log.proofs.Logs.{length_is, received-append}
use Rattle.two_stage_log.specs.Counts.{has_unprocessed}
use Rattle.dispatcher.specs.Folding.{places_processed}
use Rattle.dispatcher.specs.Ledger.{handled_at}
use Rattle.of_types.specs.declared.message.Event.{Event}
use Rattle.dispatcher.specs.Marks.{is_finished, no_marks, wanted, is_confirmed, outstanding}
use Rattle.group_controller.specs.Acting.{AreNewlyHandled}
use Rattle.group_controller.specs.Rules.{has_started}
use Rattle.group_controller.specs.Settling.{finishing, is_settled, processing, after_proposal, goes_on, is_alone, with_answers, command_letters, is_untold, with_commands, with_proposal}
use Rattle.group_controller.specs.State.{ControllerState, Work, committed, met_limit, posting_work, leaving}

-- a choice has what both sides have
either : {A : Type 0} (P : A → Type 0) (b : Bool) (x y : A) → (b ≡ true → P x) → (b ≡ false → P y) → P (if b then x else y)
either P b x y f g = cond_both b x y P f g

drop_taken : (n : ℕ) (xs : List Entry) → drop n (take n xs) ≡ []
drop_taken zero xs = refl
drop_taken (suc n) [] = refl
drop_taken (suc n) (x ∷ xs) = drop_taken n xs

-- counts of a front
front_received : (xs ys : List Entry) → length (received xs) ≤ length (received (xs ++ ys))
front_received xs ys = let e = ap (λ (l : List Event). length l) (received-append xs ys) in let l = length-append (received xs) (received ys) in omega (arith, e, l)

front_processed : (xs ys : List Entry) → processed xs ≤ processed (xs ++ ys)
front_processed xs ys =
    let a = length_is xs in let b = length_is (xs ++ ys) in let c = length_is ys in
    let e = ap (λ (l : List Event). length l) (received-append xs ys) in let l = length-append (received xs) (received ys) in let m = length-append xs ys in
    omega (arith, a, b, c, e, l, m)

taken_received : (n : ℕ) (log : List Entry) → length (received (take n log)) ≤ length (received log)
taken_received n log = let h = front_received (take n log) (drop n log) in let e = ap (λ (l : List Entry). length (received l)) (take-append-drop n log) in omega (arith, h, e)

taken_processed : (n : ℕ) (log : List Entry) → processed (take n log) ≤ processed log
taken_processed n log = let h = front_processed (take n log) (drop n log) in let e = ap (λ (l : List Entry). processed l) (take-append-drop n log) in omega (arith, h, e)

-- an event that is settled may be proposed as processed
pub settled_follows : (kinds : List ℕ) (setup : Setup) (c : ControllerState) (place : ℕ) → place ≡ processed (committed c) → is_settled kinds setup c ≡ true →
    (nat_eq place (processed c.vr.log) && nat_lt place (length (received c.vr.log))) ≡ true
settled_follows kinds setup c place at settled =
    let both = and_parts (is_finished kinds setup (committed c) c.marks) (nat_le (processed c.vr.log) (processed (committed c))) settled in
    let some = (and_parts (has_unprocessed (committed c)) (nat_eq (length (wanted kinds setup (committed c) c.marks)) 0) both.0).0 in
    let less = ltb-true (processed (committed c)) (length (received (committed c))) some in
    let low = leb-true (processed c.vr.log) (processed (committed c)) both.1 in
    let front = taken_processed c.vr.commit c.vr.log in
    let fronts = taken_received c.vr.commit c.vr.log in
    let same : place ≡ processed c.vr.log = omega (arith, at, low, front) in
    rw (eq-eqb place (processed c.vr.log) same, lt-ltb place (length (received c.vr.log)) (omega (arith, at, less, fronts))) refl

-- whether a view was started, by what a member tells
pub started_is : (s s' : VrState) (r leading led : Bool) (view now : ℕ) → r ≡ (leading && not (led && nat_eq view now)) → leading ≡ leads s' → led ≡ leads s → view ≡ s.view → now ≡ s'.view → has_started s s' ≡ r
started_is s s' r leading led view now is a b c d =
    sym (is ∙ ap (λ (x : Bool). x && not (led && nat_eq view now)) a ∙ ap (λ (x : Bool). leads s' && not (x && nat_eq view now)) b
    ∙ ap (λ (n : ℕ). leads s' && not (leads s && nat_eq n now)) c ∙ ap (λ (n : ℕ). leads s' && not (leads s && nat_eq s.view n)) d)

pub leads_started : (s s' : VrState) → has_started s s' ≡ true → leads s' ≡ true
leads_started s s' h = (and_parts (leads s') (not (leads s && nat_eq s.view s'.view)) h).0

pub not_settled : (s s' : VrState) → leads s' ≡ false → (leads s' && nat_lt s.commit s'.commit) ≡ false
not_settled s s' off = ap (λ (b : Bool). b && nat_lt s.commit s'.commit) off

pub not_started : (s s' : VrState) → leads s' ≡ false → has_started s s' ≡ false
not_started s s' off = ap (λ (b : Bool). b && not (leads s && nat_eq s.view s'.view)) off

pub is_settling : (s s' : VrState) (before now : ℕ) (b : Bool) → leads s' ≡ true → before ≡ s.commit → now ≡ s'.commit → nat_lt before now ≡ b → (leads s' && nat_lt s.commit s'.commit) ≡ b
is_settling s s' before now b on low high is =
    ap (λ (x : Bool). x && nat_lt s.commit s'.commit) on ∙ ap (λ (n : ℕ). nat_lt n s'.commit) (sym low) ∙ ap (λ (n : ℕ). nat_lt before n) (sym high) ∙ is

module _ (kinds : List ℕ) (setup : Setup) where
  vr_with_commands : (w : Work) → (with_commands kinds setup w).state.vr ≡ w.state.vr
  vr_with_commands w =
      either (λ (x : Work). x.state.vr ≡ w.state.vr) (is_untold w.state)
      (leaving (posting_work w (command_letters kinds setup w.state (outstanding kinds setup (committed w.state) w.state.marks))) (record w.state { last_told = Some (processed (committed w.state)) })) w (λ _. refl) (λ _. refl)

  pub leads_with_commands : (w : Work) → leads (with_commands kinds setup w).state.vr ≡ leads w.state.vr
  leads_with_commands w = ap (λ (s : VrState). leads s) (vr_with_commands w)

  pub leads_after_proposal : (w : Work) (entry : Entry) → leads (after_proposal kinds setup w entry).state.vr ≡ leads w.state.vr
  leads_after_proposal w entry =
      let on = with_commands kinds setup (with_answers kinds setup w.state.vr.commit (with_proposal w entry)) in
      either (λ (x : Work). leads x.state.vr ≡ leads w.state.vr) (is_past_limits w.state.vr.log entry) (leaving w (met_limit w.state entry)) (if is_alone w.state then on else with_proposal w entry)
      (λ _. refl)
      (λ _. either (λ (x : Work). leads x.state.vr ≡ leads w.state.vr) (is_alone w.state) on (with_proposal w entry) (λ _. leads_with_commands (with_answers kinds setup w.state.vr.commit (with_proposal w entry))) (λ _. refl))

  pub finishing_rests : (more : ℕ) (w : Work) → is_settled kinds setup w.state ≡ false → finishing more kinds setup w ≡ w
  unfolding finishing
  finishing_rests zero w off = refl
  finishing_rests (suc more) w off =
      let next = after_proposal kinds setup w (processing w.state) in
      ap (λ (b : Bool). if not b then w else if goes_on w.state (processing w.state) then finishing more kinds setup next else next) off

  pub finishing_none : (more : ℕ) (w : Work) → more ≡ 0 → finishing more kinds setup w ≡ w
  unfolding finishing
  finishing_none zero w e = refl
  finishing_none (suc more) w e = absurd (omega (arith, e))

  pub finishing_more : (more : ℕ) (w : Work) → (more ≡ 0 → ⊥) → is_settled kinds setup w.state ≡ true → goes_on w.state (processing w.state) ≡ true →
      finishing more kinds setup w ≡ finishing (more - 1) kinds setup (after_proposal kinds setup w (processing w.state))
  unfolding finishing
  finishing_more zero w some on again = absurd (some refl)
  finishing_more (suc more) w some on again =
      let next = after_proposal kinds setup w (processing w.state) in
      let e : more ≡ suc more - 1 = omega arith in
      ap (λ (b : Bool). if not b then w else if goes_on w.state (processing w.state) then finishing more kinds setup next else next) on
      ∙ ap (λ (b : Bool). if b then finishing more kinds setup next else next) again ∙ ap (λ (k : ℕ). finishing k kinds setup next) e

  pub finishing_last : (more : ℕ) (w : Work) → (more ≡ 0 → ⊥) → is_settled kinds setup w.state ≡ true → goes_on w.state (processing w.state) ≡ false →
      finishing more kinds setup w ≡ after_proposal kinds setup w (processing w.state)
  unfolding finishing
  finishing_last zero w some on again = absurd (some refl)
  finishing_last (suc more) w some on again =
      let next = after_proposal kinds setup w (processing w.state) in
      ap (λ (b : Bool). if not b then w else if goes_on w.state (processing w.state) then finishing more kinds setup next else next) on
      ∙ ap (λ (b : Bool). if b then finishing more kinds setup next else next) again

  pub none_new : (c : ControllerState) → AreNewlyHandled kinds setup c c.vr.commit []
  none_new c = ap (λ (l : List Entry). map (handled_at kinds setup (committed c)) (places_processed l)) (drop_taken c.vr.commit c.vr.log)

pub filter_all : (xs : List ℕ) → filter (λ s. not (is_confirmed no_marks s)) xs ≡ xs
filter_all [] = refl
filter_all (x ∷ xs) = ap (λ (l : List ℕ). x ∷ l) (filter_all xs)

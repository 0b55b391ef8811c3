-- What one turn of a member does while a view changes, by the size of its group.
use Rattle.std.proofs.Common.{◌≡◌, ◌≤◌, ◌<◌, ℕ, suc, ◌/◌, ◌%◌, Bool, true, false, List, [], ◌∷◌, ◌++◌, length, take, drop, refl, sym, ◌∙◌, ap, subst, arith, length-append}
use Rattle.std.specs.Prelude.{nat_eq, nat_lt, Option, Some, None, if◌then◌else◌}
use Rattle.std.proofs.lemmas.Bool.{eq-eqb}
use Rattle.std.proofs.lemmas.List.{length-take-le, take-take}
use Rattle.std.proofs.Math.Nat.{mod-lt}
use Rattle.vr_log.specs.declared.entry.Entry.{Entry}
use Rattle.vr_log.specs.declared.message.VrMessage.TheVariants as message
use Rattle.vr_log.specs.declared.state.Collected.{Collected}
use Rattle.vr_log.specs.declared.state.Supplied.{Supplied}
use Rattle.vr_log.specs.declared.state.VrState.{VrState}
use Rattle.vr_log.specs.Choosing.{best_of, has_collected}
use Rattle.vr_log.specs.Log.{is_log}
use Rattle.vr_log.specs.Steps.{VrStep, guarded, is_sound, letter, quiet, sends, to_others}
use Rattle.view_change.specs.Entering.{check, own_log, started_view, tells_start}
use Rattle.vr_core.specs.declared.input.VrInput.TheVariants as vr_input
use Rattle.vr_core.specs.Step.{vr_step}
use Rattle.closing_laws.specs.Views.{IsReadyMember, gathering, in_started, in_view, started_with}
use Rattle.closing_laws.proofs.Start.Adopted as adopted
use Rattle.closing_laws.proofs.Start.Members.{suspects, guard_open, sound_here, starts_alone}
use Rattle.closing_laws.proofs.Start.Starting.{waits, check_starts, check_fetches, log_comes}

pub enters : (n w j : ℕ) (s : VrState) → IsReadyMember n w j s → 0 < n / 2 →
    vr_step s (vr_input.Suspect w) ≡ record { state = in_view s w [] false [] None; promise = Some w; letters = to_others s (message.StartViewChange w) }
enters n w j s m group = suspects n w j s m (subst (λ (k : ℕ). 0 < k / 2) (sym m.size) group)

pub alone : (w : ℕ) (s : VrState) → IsReadyMember 1 w 0 s →
    vr_step s (vr_input.Suspect w) ≡ record { state = started_view (gathering s w [] [] None) s.log s.commit s.commit; promise = Some w; letters = [] }
alone w s m = starts_alone s w m.size m.me m.up m.below m.commit m.is_one

module _ (n w : ℕ) (s : VrState) (voters : List ℕ) (logs : List Collected) (c : Collected) (m : IsReadyMember n w (w % n) s) (small : c.from < n) (other : c.from ≡ w % n → ⊥)
    (new : has_collected (gathering s w voters logs None) c.from ≡ false) where
  here : nat_eq (w % s.controllers) s.me ≡ true
  here = eq-eqb (w % s.controllers) s.me (ap (λ (k : ℕ). w % k) m.size ∙ sym m.me)

  half : s.controllers / 2 ≡ n / 2
  half = ap (λ (k : ℕ). k / 2) m.size

  module _ (group : 0 < s.controllers / 2) where
    comes : vr_step (gathering s w voters logs None) (vr_input.From c.from (message.DoViewChange w c.normal c.commit c.log)) ≡
        guarded (gathering s w voters logs None) (check (gathering s w voters (logs ++ c ∷ []) None))
    comes = log_comes s w voters here group logs c (subst (λ (k : ℕ). c.from < k) (sym m.size) small) (λ e. other (e ∙ m.me)) new

    leads_to : (step : VrStep) → check (gathering s w voters (logs ++ c ∷ []) None) ≡ step → is_sound s step.state ≡ true →
        vr_step (gathering s w voters logs None) (vr_input.From c.from (message.DoViewChange w c.normal c.commit c.log)) ≡ step
    leads_to step is sound =
        comes ∙ ap (guarded (gathering s w voters logs None)) is ∙ guard_open (gathering s w voters logs None) step sound

  long : length (logs ++ c ∷ []) ≡ suc (length logs)
  long = let parts = length-append logs (c ∷ []) in omega (arith, parts)

  pub collected : suc (length logs) < n / 2 →
      vr_step (gathering s w voters logs None) (vr_input.From c.from (message.DoViewChange w c.normal c.commit c.log)) ≡ quiet (gathering s w voters (logs ++ c ∷ []) None)
  collected few =
      let size = half in
      let count = long in
      let group : 0 < s.controllers / 2 = omega (arith, few, size) in
      let t = gathering s w voters (logs ++ c ∷ []) None in
      leads_to group (quiet t) (waits s w voters here group (logs ++ c ∷ []) None (omega (arith, few, size, count))) (sound_here s m.is_one m.commit t refl refl)

  module _ (last : suc (length logs) ≡ n / 2) (best : Collected) (found : best_of (own_log s) (logs ++ c ∷ []) ≡ best) where
    group : 0 < s.controllers / 2
    group = let size = half in omega (arith, last, size)

    enough : s.controllers / 2 ≤ length (logs ++ c ∷ [])
    enough = let size = half in let count = long in omega (arith, last, size, count)

    front_long : length (take s.commit s.log) ≡ s.commit
    front_long = length-take-le s.commit s.log m.commit

    pub starts : best.commit ≤ s.commit → (log : List Entry) → take best.commit s.log ++ best.log ≡ log → is_sound s (started_with s w voters (logs ++ c ∷ []) log) ≡ true →
        vr_step (gathering s w voters logs None) (vr_input.From c.from (message.DoViewChange w c.normal c.commit c.log)) ≡ tells_start (started_with s w voters (logs ++ c ∷ []) log)
    starts near log is sound =
        let front = front_long in
        leads_to group (tells_start (started_with s w voters (logs ++ c ∷ []) log))
        (check_starts s w voters here group (logs ++ c ∷ []) None best log enough found (omega (arith, near, front))
        (ap (λ (xs : List Entry). xs ++ best.log) (take-take best.commit s.commit s.log near) ∙ is)) sound

    pub fetches : s.commit < best.commit →
        vr_step (gathering s w voters logs None) (vr_input.From c.from (message.DoViewChange w c.normal c.commit c.log)) ≡
        sends (gathering s w voters (logs ++ c ∷ []) None) (letter (message.Fetch w s.commit) best.from ∷ [])
    fetches far =
        let front = front_long in
        let t = gathering s w voters (logs ++ c ∷ []) None in
        leads_to group (sends t (letter (message.Fetch w s.commit) best.from ∷ []))
        (check_fetches s w voters here group (logs ++ c ∷ []) None best enough found (omega (arith, far, front))) (sound_here s m.is_one m.commit t refl refl)

-- by the size of the group
abbrev AdoptedOf : ℕ → ℕ → VrState → VrState → List Entry → ℕ → ℕ → Type 0
AdoptedOf n w s t log base commit =
    vr_step t (vr_input.From (w % n) (message.StartView w base commit (drop base log))) ≡
    sends (in_started t w log commit) (if nat_lt commit (length log) then letter (message.PrepareOk w (length log)) (w % n) ∷ [] else [])

pub adopts : (n w j : ℕ) (s : VrState) (voters : List ℕ) (sent : Bool) (logs : List Collected) (supply : Option Supplied) (log : List Entry) (base commit : ℕ) →
    IsReadyMember n w j s → (w % n ≡ j → ⊥) → base ≤ s.commit → s.commit ≤ commit → commit ≤ length log → is_log log ≡ true → take s.commit s.log ≡ take s.commit log →
    vr_step (in_view s w voters sent logs supply) (vr_input.From (w % n) (message.StartView w base commit (drop base log))) ≡
    sends (in_started (in_view s w voters sent logs supply) w log commit) (if nat_lt commit (length log) then letter (message.PrepareOk w (length log)) (w % n) ∷ [] else [])
adopts n w j s voters sent logs supply log base commit m other from up_to within one agree =
    subst (λ (k : ℕ). AdoptedOf k w s (in_view s w voters sent logs supply) log base commit) m.size
    (adopted.log_adopted s w voters sent logs supply log base commit (mod-lt w (let small = m.small in let size = m.size in omega (arith, small, size)))
    (λ e. other (ap (λ (k : ℕ). w % k) (sym m.size) ∙ e ∙ m.me)) from up_to within one agree)

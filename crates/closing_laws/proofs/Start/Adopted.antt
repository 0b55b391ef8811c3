-- A member that waits takes the log of the view as it hears that it has started.
use Rattle.std.proofs.Common.{◌≡◌, ◌≤◌, ◌<◌, ℕ, ◌%◌, Bool, true, false, List, [], ◌∷◌, ◌++◌, length, take, drop, max, refl, sym, ◌∙◌, ap, arith}
use Rattle.std.specs.Prelude.{not, nat_eq, nat_le, nat_lt, ◌&&◌, ◌||◌, Option, Some, None, if◌then◌else◌}
use Rattle.std.proofs.lemmas.Bool.{eq-eqb, ne_eqb, le-leb, le-ltb, lt-ltb}
use Rattle.std.proofs.lemmas.List.{take-append-drop, take-take}
use Rattle.vr_log.specs.declared.entry.Entry.{Entry}
use Rattle.vr_log.specs.declared.message.VrLetter.{VrLetter}
use Rattle.vr_log.specs.declared.message.VrMessage.TheVariants as message
use Rattle.vr_log.specs.declared.state.Collected.{Collected}
use Rattle.vr_log.specs.declared.state.Supplied.{Supplied}
use Rattle.vr_log.specs.declared.state.VrState.{VrState}
use Rattle.vr_log.specs.Log.{is_log}
use Rattle.vr_log.specs.Steps.{VrStep, quiet, guarded, is_sound, letter, tells}
use Rattle.vr_log.proofs.Equal.{entries_same}
use Rattle.view_change.specs.Adopting.{adopt, adopts, adopted_log, adopt_letters}
use Rattle.vr_core.specs.declared.input.VrInput.TheVariants as vr_input
use Rattle.vr_core.specs.Step.{vr_step, on_vr}
use Rattle.closing_laws.specs.Views.{in_view, in_started}
use Rattle.closing_laws.proofs.Start.Members.{guard_open}

module _ (s : VrState) (w : ℕ) (voters : List ℕ) (sent : Bool) (logs : List Collected) (supply : Option Supplied) (log : List Entry) (base commit : ℕ)
    (small : w % s.controllers < s.controllers) (other : w % s.controllers ≡ s.me → ⊥) (from : base ≤ s.commit) (up_to : s.commit ≤ commit) (within : commit ≤ length log) (one : is_log log ≡ true)
    (agree : take s.commit s.log ≡ take s.commit log) where
  abbrev t : VrState
  t = in_view s w voters sent logs supply

  abbrev u : VrState
  u = in_started t w log commit

  whole : take base s.log ++ drop base log ≡ log
  whole =
      ap (λ (xs : List Entry). xs ++ drop base log) (sym (take-take base s.commit s.log from) ∙ ap (take base) agree ∙ take-take base s.commit log from)
      ∙ take-append-drop base log

  adopted_is : adopted_log t w base commit (drop base log) ≡ u
  adopted_is =
      let promise : max w w ≡ w = omega arith in
      let most : max s.commit commit ≡ commit = omega (arith, up_to) in
      ap (λ (k : ℕ). record (in_started t w (take base s.log ++ drop base log) (max s.commit commit)) { promise = k }) promise
      ∙ ap (λ (xs : List Entry). in_started t w xs (max s.commit commit)) whole
      ∙ ap (in_started t w log) most

  abbrev answer : List VrLetter
  answer = if nat_lt commit (length log) then letter (message.PrepareOk w (length log)) (w % s.controllers) ∷ [] else []

  abbrev step : VrStep
  step = record { state = u; promise = None; letters = answer }

  adopts_is : adopt t w base commit (drop base log) ≡ step
  adopts_is =
      let no_gap : nat_lt s.commit base ≡ false = le-ltb s.commit base from in
      let same : nat_lt w w ≡ false = le-ltb w w (omega arith) in
      ap (λ (b : Bool). if b then tells t (w % s.controllers) (message.GetState w s.commit) else adopts t w base commit (drop base log)) no_gap
      ∙ ap (λ (x : VrState). record { state = x; promise = if nat_lt w w then Some w else None; letters = adopt_letters x commit }) adopted_is
      ∙ ap (λ (b : Bool). record { state = u; promise = if b then Some w else None; letters = answer }) same

  sound : is_sound t u ≡ true
  sound =
      let fits : nat_le commit (length log) ≡ true = le-leb commit (length log) within in
      rw (one, fits, agree) (entries_same (take s.commit log))

  pub log_adopted : vr_step t (vr_input.From (w % s.controllers) (message.StartView w base commit (drop base log))) ≡ step
  unfolding on_vr
  log_adopted =
      let below : nat_lt (w % s.controllers) s.controllers ≡ true = lt-ltb (w % s.controllers) s.controllers small in
      let apart : nat_eq (w % s.controllers) s.me ≡ false = ne_eqb (w % s.controllers) s.me other in
      let primary : nat_eq (w % s.controllers) (w % s.controllers) ≡ true = eq-eqb (w % s.controllers) (w % s.controllers) refl in
      let later : nat_lt w w ≡ false = le-ltb w w (omega arith) in
      let same : nat_eq w w ≡ true = eq-eqb w w refl in
      let another : (nat_lt (w % s.controllers) s.controllers && not (nat_eq (w % s.controllers) s.me)) ≡ true = rw (below, apart) refl in
      let hears : (nat_eq (w % s.controllers) (w % s.controllers) && (nat_lt w w || nat_eq w w)) ≡ true = rw (primary, later, same) refl in
      let adopts_it : VrStep = guarded t (adopt t w base commit (drop base log)) in
      ap (λ (b : Bool). if b then (if nat_eq (w % s.controllers) (w % s.controllers) && (nat_lt w w || nat_eq w w) then adopts_it else quiet t) else quiet t) another
      ∙ ap (λ (b : Bool). if b then adopts_it else quiet t) hears
      ∙ ap (guarded t) adopts_is
      ∙ guard_open t step sound

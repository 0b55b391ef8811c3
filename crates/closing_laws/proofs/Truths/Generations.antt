-- Where a closing may begin, the generation that a switch has accepted is below the closing's view.
use Rattle.std.proofs.Common.{◌≡◌, ℕ, ◌+◌, ◌*◌, ◌/◌, ◌<◌, ◌≤◌, inl, inr, true, nat_le, List, [], ◌∷◌, ◌++◌, length, refl, sym, ap, subst, arith}
use Rattle.std.specs.Prelude.{suc, Option, Some, None}
use Rattle.std.proofs.lemmas.Bool.{cases_lt, leb-true}
use Rattle.of_types.specs.Setups.{IsSetup}
use Rattle.journal.specs.declared.journal.Actor.TheVariants as actor
use Rattle.journal.specs.declared.journal.JournalEntry.{JournalEntry}
use Rattle.journal.specs.declared.journal.JournalEntry.TheVariants.{Post}
use Rattle.journal.specs.declared.journal.SaveResult.{SaveResult}
use Rattle.agreement.specs.Lists.{count_below}
use Rattle.agreement.proofs.Counts.{count_share, count_some}
use Rattle.vr_log.specs.Members.{is_up}
use Rattle.group_controller.specs.State.{ControllerState}
use Rattle.run_spec.specs.States.{Scene, IsFaithful}
use Rattle.run_spec.specs.Legal.{IsPossible}
use Rattle.run_spec.specs.Committed.{controller_state, switch_state, states_of, count_up}
use Rattle.run_spec.specs.Closing.{closing_view, majority}
use Rattle.run_laws.specs.RunAgreement.Reading.{WhereValid}
use Rattle.run_laws.proofs.RunAgreement.Groups.{odd_law}
use Rattle.run_laws.proofs.RunAgreement.Reading.{IsReadPast, read_past}
use Rattle.run_laws.proofs.Events.{events_valid}
use Rattle.run_laws.proofs.Laws.{always}
use Rattle.closing_laws.specs.Serving.{IsOlder}
use Rattle.closing_laws.proofs.Start.Begun.{all_range}
use Rattle.closing_laws.proofs.Start.Pasts as pasts
use Rattle.closing_laws.proofs.Truths.Asked.{WasLed, all_asked}
use Rattle.closing_laws.proofs.Truths.Backed.{backed_now, read_more}
use Rattle.closing_laws.proofs.Truths.OnlyOne.{alone_rises}
use Rattle.closing_laws.proofs.Truths.Promises.{picked_below}

module _ {B : Type 0} (scene : Scene B) (results : List (List SaveResult)) (setup : IsSetup scene.setup) (faithful : IsFaithful scene.sealing) (past : List (JournalEntry B)) (possible : IsPossible scene results past) where
  -- what members say to each other is read as it was sealed
  pub is_read : IsReadPast scene results past
  is_read = read_past scene results past possible (WhereValid faithful (events_valid scene results past possible (λ i. always scene results setup faithful past possible (suc i))))

  module _ (most : majority scene.setup.controllers ≤ count_up scene results past) where
    abbrev n : ℕ
    n = scene.setup.controllers

    abbrev view : ℕ
    view = closing_view (states_of scene results past) n

    abbrev state : ℕ → ControllerState
    state j = controller_state scene results j past

    -- the closing's view is above all views and promises of those that take part
    above : (j : ℕ) → j < n → is_up (state j).vr ≡ true → ((state j).vr.view < view) × ((state j).vr.promise < view)
    above j small up =
        all_range state (λ (c : ControllerState). is_up c.vr ≡ true → (c.vr.view < view) × (c.vr.promise < view)) 0 n
        (pasts.least scene results past most).may.above j (omega arith) (omega (arith, small)) up

    many_up : (most_failures : ℕ) → n ≡ 2 * most_failures + 1 → most_failures < count_below (λ j. is_up (state j).vr) n
    many_up most_failures odd =
        let count = picked_below (pasts.takes_part scene results past) (λ j. is_up (state j).vr) n n (λ j h. h) (omega arith) in
        let all = ap length (pasts.up_is scene results past) in
        let half : n / 2 ≡ most_failures = omega (arith, odd) in
        omega (arith, count, all, half, most)

    abbrev Backed : ℕ → ℕ → List (JournalEntry B) → Type 0
    Backed most_failures g es = most_failures < count_below (λ j. nat_le g (controller_state scene results j es).vr.promise) n

    -- in a group of several, f + 1 promise the view of one that led, and one of them takes part
    of_several : (most_failures g : ℕ) → n ≡ 2 * most_failures + 1 → 1 ≤ most_failures → 1 ≤ g → WasLed scene results past g → g < view
    of_several most_failures g odd several some w =
        let read : IsReadPast scene results (w.more ++ Post (actor.Controller w.from) w.first w.letters w.lost ∷ w.before) = subst (λ (es : List (JournalEntry B)). IsReadPast scene results es) w.past_is is_read in
        let then_view = w.view_is in
        let backed = backed_now scene results most_failures odd several w.more w.before w.from w.first w.lost w.letters read w.there w.led (omega (arith, then_view, some)) in
        let here : Backed most_failures g past =
        subst (λ (es : List (JournalEntry B)). Backed most_failures g es) (sym w.past_is)
        (subst (λ (v : ℕ). Backed most_failures v (w.more ++ Post (actor.Controller w.from) w.first w.letters w.lost ∷ w.before)) w.view_is backed) in
        let up = many_up most_failures odd in
        let j = count_share (λ j. is_up (state j).vr) (λ j. nat_le g (state j).vr.promise) n (omega (arith, odd, up, here)) in
        let promises = leb-true g (state j.0).vr.promise j.3 in
        let low = (above j.0 j.1 j.2).1 in
        omega (arith, promises, low)

    -- one that is alone has gone on from the view in which it led
    of_one : (g : ℕ) → n ≡ 1 → WasLed scene results past g → g < view
    of_one g only w =
        let e : JournalEntry B = Post (actor.Controller w.from) w.first w.letters w.lost in
        let read : IsReadPast scene results (w.more ++ e ∷ w.before) = subst (λ (es : List (JournalEntry B)). IsReadPast scene results es) w.past_is is_read in
        let who : w.from ≡ 0 = (let b = w.there in omega (arith, b, only)) in
        let j = count_some (λ j. is_up (state j).vr) n (let m = many_up 0 (omega (arith, only)) in omega (arith, m)) in
        let zeroth : j.0 ≡ 0 = (let b = j.1 in omega (arith, b, only)) in
        let up : is_up (state 0).vr ≡ true = subst (λ (i : ℕ). is_up (state i).vr ≡ true) zeroth j.2 in
        let up_then : is_up (controller_state scene results 0 (w.more ++ e ∷ w.before)).vr ≡ true = subst (λ (es : List (JournalEntry B)). is_up (controller_state scene results 0 es).vr ≡ true) w.past_is up in
        let last = alone_rises scene results only w.more (e ∷ w.before) read up_then in
        let first = alone_rises scene results only (e ∷ []) w.before (read_more scene results w.more (e ∷ w.before) read) last.0 in
        let led_at : (controller_state scene results 0 w.before).vr.view ≡ g = subst (λ (i : ℕ). (controller_state scene results i w.before).vr.view ≡ g) who w.view_is in
        let now : (state 0).vr.view ≡ (controller_state scene results 0 (w.more ++ e ∷ w.before)).vr.view = ap (λ (es : List (JournalEntry B)). (controller_state scene results 0 es).vr.view) w.past_is in
        let low = (above 0 (omega (arith, only)) up).0 in
        let a = first.1 in
        let b = last.1 in
        omega (arith, led_at, now, low, a, b)

    -- so a view in which one led, and had posted, is over
    pub led_below : (g : ℕ) → WasLed scene results past g → g < view
    led_below g w =
        let group = odd_law scene.setup setup in
        elim (cases_lt 0 g) [
          | inl some ↦ elim (cases_lt 0 group.0) [
            | inl several ↦ of_several group.0 g group.1 (omega (arith, several)) (omega (arith, some)) w
            | inr only ↦ of_one g (let odd = group.1 in omega (arith, only, odd)) w
          ]
          | inr none ↦
              let j = count_some (λ j. is_up (state j).vr) n (let m = many_up group.0 group.1 in omega (arith, m)) in
              let low = (above j.0 j.1 j.2).0 in
              omega (arith, none, low)
        ]

-- each generation that a switch has accepted is older than the view of a closing
pub generations_older : {B : Type 0} (scene : Scene B) (results : List (List SaveResult)) → IsSetup scene.setup → IsFaithful scene.sealing → (past : List (JournalEntry B)) → IsPossible scene results past →
    majority scene.setup.controllers ≤ count_up scene results past →
    (s : ℕ) → s < length scene.setup.ports → IsOlder (switch_state scene s past).fence.generation (closing_view (states_of scene results past) scene.setup.controllers)
generations_older scene results setup faithful past possible most s there = by_generation (switch_state scene s past).fence.generation refl
  where
    by_generation : (o : Option ℕ) → (switch_state scene s past).fence.generation ≡ o → IsOlder o (closing_view (states_of scene results past) scene.setup.controllers)
    by_generation None is = tt
    by_generation (Some g) is = led_below scene results setup faithful past possible most g ((all_asked scene results setup faithful past possible).now s g is)

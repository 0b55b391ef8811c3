-- The states of the controllers after a past, by number.
use Rattle.std.proofs.Common.{◌≡◌, ◌≤◌, ℕ, zero, suc, ◌+◌, ◌/◌, ◌%◌, Bool, true, List, [], ◌∷◌, length, map, refl, sym, ◌∙◌, ap, arith}
use Rattle.std.specs.Prelude.{filter, if◌then◌else◌}
use Rattle.std.specs.List.{range_with_len}
use Rattle.journal.specs.declared.journal.Actor.TheVariants as actor
use Rattle.journal.specs.declared.journal.JournalEntry.{JournalEntry}
use Rattle.journal.specs.declared.journal.SaveResult.{SaveResult}
use Rattle.journal.specs.Part.{part}
use Rattle.vr_log.specs.Members.{is_up, others_below}
use Rattle.group_controller.specs.State.{ControllerState}
use Rattle.run_spec.specs.States.{Scene}
use Rattle.run_spec.specs.Legal.{results_of}
use Rattle.run_spec.specs.Committed.{controller_state, states_of, members_up}
use Rattle.run_spec.specs.Closing.{closing_view, majority}
use Rattle.run_laws.proofs.Members.{owned_at}
use Rattle.closing_laws.specs.Quorum.{has, HasAQuorum, HasTheLeastView, WhereMostAreUp, members_that_close}
use Rattle.closing_laws.proofs.Lists.Numbers.{has_here, filter_has, below_has}
use Rattle.closing_laws.proofs.Lists.Picked.{below_range, quorum_of_picked}
use Rattle.closing_laws.proofs.Start.Chosen.{quorum_picked, quorum_up}
use Rattle.closing_laws.proofs.Start.Least.{view_least}

-- those that take part are the numbers that do
ups : (f : ℕ → ControllerState) (a n : ℕ) → ((c : ℕ) → (f c).vr.me ≡ c) → members_up (map f (range_with_len a n)) ≡ filter (λ c. is_up (f c).vr) (range_with_len a n)
ups f a zero own = refl
ups f a (suc n) own =
    ap (λ (l : List ℕ). if is_up (f a).vr then (f a).vr.me ∷ l else l) (ups f (a + 1) n own)
    ∙ ap (λ (m : ℕ). if is_up (f a).vr then m ∷ filter (λ c. is_up (f c).vr) (range_with_len (a + 1) n) else filter (λ c. is_up (f c).vr) (range_with_len (a + 1) n)) (own a)

some_one : (xs : List ℕ) → 1 ≤ length xs → (x : ℕ) × (has xs x ≡ true)
some_one [] some = absurd (omega (arith, some))
some_one (x ∷ xs) some = (x, has_here x xs)

module _ {B : Type 0} (scene : Scene B) (results : List (List SaveResult)) (entries : List (JournalEntry B)) where
  abbrev pub n : ℕ
  n = scene.setup.controllers

  abbrev pub states : List ControllerState
  states = states_of scene results entries

  abbrev pub takes_part : ℕ → Bool
  takes_part c = is_up (controller_state scene results c entries).vr

  pub up_is : members_up states ≡ filter takes_part (others_below n n)
  up_is =
      ups (λ c. controller_state scene results c entries) 0 n (λ c. (owned_at scene (results_of results c) c (part (actor.Controller c) entries)).now.me_is)
      ∙ ap (filter takes_part) (sym (below_range n n (omega arith)))

  pub least : majority n ≤ length (members_up states) → HasTheLeastView n states
  least most =
      let some = some_one (members_up states) (omega (arith, most)) in
      let small = (below_has n n some.0 (filter_has takes_part (others_below n n) some.0 (ap (λ (l : List ℕ). has l some.0) (sym up_is) ∙ some.1)).0).0 in
      view_least n states some.0 small some.1

  pub closes : majority n ≤ length (members_up states) → HasAQuorum n states (members_that_close n states)
  closes most =
      record {
        quorum_is = quorum_of_picked n (closing_view states n) (members_that_close n states)
            (quorum_picked n (closing_view states n) (members_up states) takes_part up_is (least most).may.primary (omega (arith, most)));
        are_up = quorum_up (closing_view states n % n) (n / 2) (members_up states);
      }

pub quorum_law : {B : Type 0} → WhereMostAreUp B (λ group states. HasAQuorum group states (members_that_close group states))
quorum_law scene results entries most = closes scene results entries most

pub view_law : {B : Type 0} → WhereMostAreUp B (λ group states. HasTheLeastView group states)
view_law scene results entries most = least scene results entries most

-- What the letters of a primary are worth: answers to what is processed, commands, and the entries that the others of a quorum are told.
use Rattle.std.proofs.Common.{◌≡◌, ◌≤◌, ◌<◌, ℕ, zero, suc, ◌+◌, ◌*◌, Bool, true, false, List, [], ◌∷◌, ◌++◌, length, map, filter, refl, arith}
use Rattle.std.specs.Prelude.{nat_eq, not, ◌&&◌, ◌||◌, slice_get, Option, Some, None, if◌then◌else◌}
use Rattle.std.specs.List.{list_any, range_with_len}
use Rattle.std.proofs.lemmas.Bool.{cond_both, eqb-true, ne_eqb}
use Rattle.std.proofs.lemmas.List.{length-map}
use Rattle.of_types.specs.declared.message.Event.{Event}
use Rattle.of_types.specs.declared.setup.Setup.{Setup}
use Rattle.of_types.specs.Lives.{has_ended, life_in}
use Rattle.journal.specs.declared.journal.Actor.TheVariants as actor
use Rattle.journal.specs.declared.journal.Letter.{Letter}
use Rattle.vr_log.specs.declared.entry.Entry.{Entry}
use Rattle.vr_log.specs.declared.message.VrMessage.{VrMessage}
use Rattle.vr_log.specs.Log.{received}
use Rattle.vr_log.specs.Steps.{letter}
use Rattle.app_core.specs.declared.issued.Issued.{Issued}
use Rattle.app_core.specs.Issued.{commands_of}
use Rattle.dispatcher.specs.declared.answers.AckThrough.{AckThrough}
use Rattle.dispatcher.specs.Folding.{acknowledgement, acknowledges_event, acknowledges_at, clears, clears_at, is_told, numbered}
use Rattle.dispatcher.specs.Marks.{settled_commands}
use Rattle.group_controller.specs.declared.messages.ControllerSays.{ControllerSays}
use Rattle.group_controller.specs.State.{ControllerState, committed, to_member, to_members}
use Rattle.group_controller.specs.Settling.{ack_letter, answers_at, clear_letter, command_letter, command_letters}
use Rattle.run_spec.specs.States.{controller_message}
use Rattle.closing_laws.specs.Measure.{vr_worth}
use Rattle.closing_laws.specs.Quorum.{has}
use Rattle.closing_laws.proofs.Measure.Worths.{worths-append, worths-cons, worths_of, worths_one, worths_two}

-- ---- there are no more switches with commands than commands

-- a number stands once in a range at most
none_before : (k from count : ℕ) (b : Bool) → k < from → length (filter (λ s. nat_eq k s && b) (range_with_len from count)) ≡ 0
none_before k from zero b less = refl
none_before k from (suc count) b less = rw (ne_eqb k from (λ e. omega (arith, e, less))) (none_before k (from + 1) count b (omega (arith, less)))

once_at_most : (k from count : ℕ) (b : Bool) → length (filter (λ s. nat_eq k s && b) (range_with_len from count)) ≤ 1
once_at_most k from zero b = omega arith
once_at_most k from (suc count) b = by_first (nat_eq k from) refl b (once_at_most k (from + 1) count b)
  where
    by_first : (x : Bool) → nat_eq k from ≡ x → (b : Bool) → length (filter (λ s. nat_eq k s && b) (range_with_len (from + 1) count)) ≤ 1 →
        length (if x && b then from ∷ filter (λ s. nat_eq k s && b) (range_with_len (from + 1) count) else filter (λ s. nat_eq k s && b) (range_with_len (from + 1) count)) ≤ 1
    by_first true is true rest = let same = eqb-true k from is in let none = none_before k (from + 1) count true (omega (arith, same)) in omega (arith, none)
    by_first true is false rest = rest
    by_first false is b rest = rest

either_filter : {A : Type 0} (p q : A → Bool) (xs : List A) → length (filter (λ x. p x || q x) xs) ≤ length (filter p xs) + length (filter q xs)
either_filter p q [] = omega arith
either_filter p q (x ∷ xs) = by_tests (p x) (q x) (either_filter p q xs)
  where
    by_tests : (a b : Bool) → length (filter (λ x. p x || q x) xs) ≤ length (filter p xs) + length (filter q xs) →
        length (if a || b then x ∷ filter (λ x. p x || q x) xs else filter (λ x. p x || q x) xs) ≤ length (if a then x ∷ filter p xs else filter p xs) + length (if b then x ∷ filter q xs else filter q xs)
    by_tests true true h = omega (arith, h)
    by_tests true false h = omega (arith, h)
    by_tests false true h = omega (arith, h)
    by_tests false false h = omega (arith, h)

never : (xs : List ℕ) → length (filter (λ s. false) xs) ≡ 0
never [] = refl
never (x ∷ xs) = never xs

switches_few : (lasts : Issued → Bool) (commands : List Issued) (from count : ℕ) →
    length (filter (λ s. list_any (λ x. nat_eq x.switch s && lasts x) commands) (range_with_len from count)) ≤ length commands
switches_few lasts [] from count = let none = never (range_with_len from count) in omega (arith, none)
switches_few lasts (x ∷ commands) from count =
    let rest = switches_few lasts commands from count in
    let one = once_at_most x.switch from count (lasts x) in
    let both = either_filter (λ s. nat_eq x.switch s && lasts x) (λ s. list_any (λ y. nat_eq y.switch s && lasts y) commands) (range_with_len from count) in
    omega (arith, rest, one, both)

clears_few : (kinds : List ℕ) (setup : Setup) (log : List Entry) (commands : List Issued) → length (clears kinds setup log commands) ≤ length commands
clears_few kinds setup log commands =
    let named : ℕ → AckThrough = λ s. record { switch = s; life = life_in s (received log); through = settled_commands kinds setup log s (life_in s (received log)) } in
    let same = length-map (filter (is_told log commands) (range_with_len 0 (length setup.ports))) named in
    let few = switches_few (λ x. not (has_ended x.switch x.life (received log))) commands 0 (length setup.ports) in
    omega (arith, same, few)

pub acknowledges_few : (log : List Entry) (o : Option Event) → length (acknowledges_event log o) ≤ 1
acknowledges_few log None = omega arith
acknowledges_few log (Some event) = cond_both (has_ended event.switch event.life (received log)) [] (acknowledgement log event.switch event.life ∷ []) (λ (l : List AckThrough). length l ≤ 1) (λ e. omega arith) (λ e. omega arith)

-- ---- letters

module _ (quorum : List ℕ) (me : ℕ) where
  abbrev pub primary_worths : List (Letter ControllerSays) → ℕ
  primary_worths letters = worths_of quorum controller_message (actor.Controller me) letters

  pub letters-append : (xs ys : List (Letter ControllerSays)) → primary_worths (xs ++ ys) ≡ primary_worths xs + primary_worths ys
  letters-append xs ys = worths-append quorum controller_message (actor.Controller me) xs ys

  pub acks_worth : (ts : List AckThrough) → primary_worths (map ack_letter ts) ≡ length ts
  acks_worth ts = worths_one quorum controller_message (actor.Controller me) ack_letter (λ t. refl) ts

  clears_worth : (ts : List AckThrough) → primary_worths (map clear_letter ts) ≡ length ts
  clears_worth ts = worths_one quorum controller_message (actor.Controller me) clear_letter (λ t. refl) ts

  pub commands_worth : (kinds : List ℕ) (setup : Setup) (c : ControllerState) (xs : List Issued) → primary_worths (command_letters kinds setup c xs) ≡ 2 * length xs
  commands_worth kinds setup c xs = worths_two quorum controller_message (actor.Controller me) (λ x. command_letter c.vr.view (numbered kinds setup (committed c) x)) (λ x. refl) xs

  -- what answers that an event is processed
  pub answers_worth : (kinds : List ℕ) (setup : Setup) (c : ControllerState) (j : ℕ) → primary_worths (answers_at kinds setup c j) ≤ 1 + length (commands_of kinds setup (received (committed c)) j)
  answers_worth kinds setup c j =
      let all = letters-append (map ack_letter (acknowledges_at (committed c) j)) (map clear_letter (clears_at kinds setup (committed c) j)) in
      let a = acks_worth (acknowledges_at (committed c) j) in
      let b = clears_worth (clears_at kinds setup (committed c) j) in
      let few = acknowledges_few (committed c) (slice_get (received (committed c)) j) in
      let fewer = clears_few kinds setup (committed c) (commands_of kinds setup (received (committed c)) j) in
      omega (arith, all, a, b, few, fewer)

  -- what is told to others: those of the quorum draw it
  pub told_worth : (said : VrMessage) → vr_worth said ≡ 2 → (xs : List ℕ) → primary_worths (to_members (map (letter said) xs)) ≡ 2 * length (filter (has quorum) xs)
  told_worth said two [] = refl
  told_worth said two (x ∷ xs) =
      by_drawn (has quorum x) (told_worth said two xs) (worths-cons quorum controller_message (actor.Controller me) (to_member (letter said x)) (to_members (map (letter said) xs)))
    where
      by_drawn : (b : Bool) → primary_worths (to_members (map (letter said) xs)) ≡ 2 * length (filter (has quorum) xs) →
          primary_worths (to_members (map (letter said) (x ∷ xs))) ≡ (if b then vr_worth said else 0) + primary_worths (to_members (map (letter said) xs)) →
          primary_worths (to_members (map (letter said) (x ∷ xs))) ≡ 2 * length (if b then x ∷ filter (has quorum) xs else filter (has quorum) xs)
      by_drawn true rest all = omega (arith, rest, all, two)
      by_drawn false rest all = omega (arith, rest, all)

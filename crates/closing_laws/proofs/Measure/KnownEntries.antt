-- What the members that close know as committed, and how long their logs are.
use Rattle.std.proofs.Common.{◌≡◌, ◌≤◌, ◌<◌, inl, inr, ℕ, zero, suc, true, List, [], ◌∷◌, ◌++◌, map, length, drop, refl, sym, ◌∙◌, ap, arith, length-append}
use Rattle.std.specs.List.{range_with_len}
use Rattle.list_facts.specs.Lists.{IsIn, IsPrefix}
use Rattle.list_facts.proofs.Elements.{filter_has, filter_passes, in_filter, in_map}
use Rattle.of_types.specs.declared.setup.Setup.{Setup}
use Rattle.journal.specs.declared.journal.Actor.TheVariants as actor
use Rattle.journal.specs.declared.journal.JournalEntry.{JournalEntry}
use Rattle.journal.specs.declared.journal.SaveResult.{SaveResult}
use Rattle.journal.specs.Part.{part}
use Rattle.vr_log.specs.declared.entry.Entry.{Entry}
use Rattle.vr_log.specs.Log.{received}
use Rattle.app_core.specs.Chain.{concat}
use Rattle.app_core.specs.declared.issued.Issued.{Issued}
use Rattle.app_core.specs.Issued.{issues}
use Rattle.controller_moves.proofs.ControllerLaws.Issued.{issues_prefix}
use Rattle.controller_moves.proofs.ControllerLaws.Logs.{received_prefix}
use Rattle.group_controller.specs.State.{ControllerState, committed}
use Rattle.run_spec.specs.Bound.{closing_members, greatest_of, place_known}
use Rattle.run_spec.specs.Committed.{controller_state, members_up, states_of}
use Rattle.run_spec.specs.Legal.{results_of}
use Rattle.run_spec.specs.Closing.{majority}
use Rattle.run_spec.specs.States.{Scene}
use Rattle.run_laws.proofs.Members.{owned_at}
use Rattle.closing_laws.specs.Measure.{commands_from}
use Rattle.closing_laws.specs.Quorum.{has}
use Rattle.closing_laws.specs.Starts.{members_at, quorum_after}
use Rattle.closing_laws.proofs.Measure.StartMeasure.{drop_fewer}
use Rattle.closing_laws.proofs.Primary.Numbering.{in_range}
use Rattle.closing_laws.proofs.Start.Begun as begun

greatest_in : (n : ℕ) (ns : List ℕ) → IsIn n ns → n ≤ greatest_of ns
greatest_in n [] h = absurd h
greatest_in n (m ∷ ns) (inl e) = omega (arith, e)
greatest_in n (m ∷ ns) (inr h) = let low = greatest_in n ns h in omega (arith, low)

greatest_below : (ns : List ℕ) (k : ℕ) → ((n : ℕ) → IsIn n ns → n ≤ k) → greatest_of ns ≤ k
greatest_below [] k each = omega arith
greatest_below (m ∷ ns) k each = let first = each m (inl refl) in let rest = greatest_below ns k (λ n h. each n (inr h)) in omega (arith, first, rest)

in_mapped : {A B : Type 0} (f : A → B) (xs : List A) (x : A) → IsIn x xs → IsIn (f x) (map f xs)
in_mapped f [] x h = h
in_mapped f (y ∷ xs) x (inl e) = inl (ap f e)
in_mapped f (y ∷ xs) x (inr h) = inr (in_mapped f xs x h)

-- what begins a longer list of lists has no more from a place on
drop_front : {A : Type 0} (xs rest : List (List A)) (j : ℕ) → length (concat (drop j xs)) ≤ length (concat (drop j (xs ++ rest)))
drop_front [] rest zero = omega arith
drop_front [] rest (suc j) = omega arith
drop_front (x ∷ xs) rest zero =
    let deeper = drop_front xs rest zero in
    let a = length-append x (concat xs) in
    let b = length-append x (concat (xs ++ rest)) in
    omega (arith, deeper, a, b)
drop_front (x ∷ xs) rest (suc j) = drop_front xs rest j

-- the commands of what is committed are among those of a log that it begins
pub commands_within : (kinds : List ℕ) (setup : Setup) (c : ControllerState) (log : List Entry) (place from : ℕ) → IsPrefix (committed c) log → from ≤ place →
    commands_from kinds setup c place ≤ length (concat (drop from (issues kinds setup (received log))))
commands_within kinds setup c log place from front early =
    let lists = issues_prefix kinds setup (received (committed c)) (received log) (received_prefix front) in
    let more = drop_front (issues kinds setup (received (committed c))) lists.rest place in
    let whole = ap (λ (l : List (List Issued)). length (concat (drop place l))) lists.joined in
    let later = drop_fewer (issues kinds setup (received log)) from place early in
    omega (arith, more, whole, later)

module _ {B : Type 0} (scene : Scene B) (results : List (List SaveResult)) (before : List (JournalEntry B)) (most : majority scene.setup.controllers ≤ length (members_up (states_of scene results before))) where
  abbrev quorum : List ℕ
  quorum = quorum_after scene results before

  abbrev members : List ControllerState
  members = closing_members scene results before

  me_is : (j : ℕ) → (controller_state scene results j before).vr.me ≡ j
  me_is j = (owned_at scene (results_of results j) j (part (actor.Controller j) before)).now.me_is

  small : (j : ℕ) → has quorum j ≡ true → j < scene.setup.controllers
  small j chosen = (begun.quorum_is scene results before most).members j chosen

  member_in : (j : ℕ) → has quorum j ≡ true → IsIn (controller_state scene results j before) members
  member_in j chosen =
      let less = small j chosen in
      filter_has (λ c. has quorum c.vr.me) (states_of scene results before) (controller_state scene results j before)
      (in_mapped (λ c. controller_state scene results c before) (range_with_len 0 scene.setup.controllers) j (in_range 0 scene.setup.controllers j (omega arith) (omega (arith, less))))
      (ap (has quorum) (me_is j) ∙ chosen)

  member_of : (c : ControllerState) → IsIn c members → (j : ℕ) × (has quorum j ≡ true) × (c ≡ controller_state scene results j before)
  member_of c among =
      let x = in_map (λ d. controller_state scene results d before) (range_with_len 0 scene.setup.controllers) c (in_filter (λ d. has quorum d.vr.me) (states_of scene results before) c among) in
      (x.0, ap (has quorum) (sym (ap (λ (d : ControllerState). d.vr.me) x.2 ∙ me_is x.0)) ∙ filter_passes (λ d. has quorum d.vr.me) (states_of scene results before) c among, x.2)

  -- no log of theirs is longer than the longest
  pub longest_within : (j : ℕ) → has quorum j ≡ true → length (members_at scene results before j).log ≤ greatest_of (map (λ c. length c.vr.log) members)
  longest_within j chosen = greatest_in _ (map (λ c. length c.vr.log) members) (in_mapped (λ c. length c.vr.log) members (controller_state scene results j before) (member_in j chosen))

  -- how far they know entries as committed
  pub place_below : (k : ℕ) → ((j : ℕ) → has quorum j ≡ true → (members_at scene results before j).commit ≤ k) → place_known members ≤ k
  place_below k each =
      greatest_below (map (λ c. c.vr.commit) members) k (λ n h.
      let x = in_map (λ (c : ControllerState). c.vr.commit) members n h in
      let y = member_of x.0 x.1 in
      let same = x.2 ∙ ap (λ (c : ControllerState). c.vr.commit) y.2 in
      let low = each y.0 y.1 in
      omega (arith, same, low))

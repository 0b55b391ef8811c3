-- Once the members of a quorum have entered a view, what each of them knows as committed begins the best of their logs.
use Rattle.std.proofs.Common.{◌≡◌, ◌≤◌, ◌<◌, inl, inr, ℕ, suc, ◌+◌, ◌/◌, Bool, true, false, None, List, [], ◌∷◌, ◌++◌, length, map, take, drop, refl, sym, ap, ◌∙◌, subst, arith, length-append}
use Rattle.std.specs.Prelude.{nat_eq, nat_lt, if◌then◌else◌}
use Rattle.std.proofs.lemmas.Bool.{eqb-true, ltb-true, both_ways}
use Rattle.std.proofs.lemmas.List.{length-map, length-take-le, take_at}
use Rattle.of_types.specs.Setups.{IsSetup}
use Rattle.journal.specs.declared.journal.JournalEntry.{JournalEntry}
use Rattle.journal.specs.declared.journal.SaveResult.{SaveResult}
use Rattle.list_facts.specs.Lists.{IsIn, IsPrefix}
use Rattle.list_facts.proofs.Elements.{in_map}
use Rattle.agreement.specs.Lists.{AreDistinct, IsAtMost}
use Rattle.agreement.specs.History.{Group, History, State, Vote, size}
use Rattle.agreement.specs.Invariant.{Invariant, IsBallot, IsGoodState, IsGoodVote}
use Rattle.agreement.specs.Moves.{IsBest}
use Rattle.agreement.specs.Quorums.{IsSafe, IsVote}
use Rattle.agreement.proofs.Consequences.{committed_begins}
use Rattle.agreement.proofs.Quorums.{best_is_safe}
use Rattle.vr_log.specs.declared.entry.Entry.{Entry}
use Rattle.vr_log.specs.declared.state.Collected.{Collected}
use Rattle.vr_log.specs.declared.state.VrState.{VrState}
use Rattle.vr_log.specs.Choosing.{is_better, length_of}
use Rattle.controller_moves.specs.MemberMoves.Projection.{member_state_of, vote_of}
use Rattle.run_spec.specs.States.{Scene, IsFaithful}
use Rattle.run_spec.specs.Legal.{IsPossible}
use Rattle.run_spec.specs.Committed.{controller_state}
use Rattle.closing_laws.specs.Quorum.{has}
use Rattle.closing_laws.specs.Views.{HasBest, IsCovered, in_view, log_of}
use Rattle.closing_laws.proofs.Lists.Numbers.{Once, in_has}
use Rattle.closing_laws.proofs.Start.Histories as histories

-- a better log is at least as far
pub better_far : (a b : Collected) → is_better a b ≡ true → IsAtMost b.normal (length_of b) a.normal (length_of a)
better_far a b h = by_normal (nat_eq a.normal b.normal) refl h
  where
    by_length : (d : Bool) → nat_eq (length_of a) (length_of b) ≡ d → (if d then nat_lt a.from b.from else nat_lt (length_of b) (length_of a)) ≡ true → length_of b ≤ length_of a
    by_length true e k = let same = eqb-true (length_of a) (length_of b) e in omega (arith, same)
    by_length false e k = let less = ltb-true (length_of b) (length_of a) k in omega (arith, less)

    by_normal : (d : Bool) → nat_eq a.normal b.normal ≡ d →
        (if d then (if nat_eq (length_of a) (length_of b) then nat_lt a.from b.from else nat_lt (length_of b) (length_of a)) else nat_lt b.normal a.normal) ≡ true →
        IsAtMost b.normal (length_of b) a.normal (length_of a)
    by_normal true e k = inr (sym (eqb-true a.normal b.normal e), by_length (nat_eq (length_of a) (length_of b)) refl k)
    by_normal false e k = inl (ltb-true b.normal a.normal k)

abbrev told : (ℕ → VrState) → ℕ → Vote Entry
told start j = vote_of (log_of start j)

distinct_of : (start : ℕ → VrState) (xs : List ℕ) → Once xs → AreDistinct (map (λ (v : Vote Entry). v.from) (map (told start) xs))
distinct_of start [] once = tt
distinct_of start (x ∷ xs) once = ((λ y among e. both_ways (has xs y) (ap (has xs) (sym e) ∙ once.0) (in_has xs y (as_numbers xs y among))), distinct_of start xs once.1)
  where
    as_numbers : (ys : List ℕ) (y : ℕ) → IsIn y (map (λ (v : Vote Entry). v.from) (map (told start) ys)) → IsIn y ys
    as_numbers [] y h = h
    as_numbers (z ∷ ys) y (inl e) = inl e
    as_numbers (z ∷ ys) y (inr h) = inr (as_numbers ys y h)

module _ {B : Type 0} (scene : Scene B) (results : List (List SaveResult)) (setup : IsSetup scene.setup) (faithful : IsFaithful scene.sealing) (P : List (JournalEntry B)) (possible : IsPossible scene results P)
    (w : ℕ) (quorum : List ℕ) (start : ℕ → VrState) (once : Once quorum) (count : length quorum ≡ suc (scene.setup.controllers / 2)) (small : (j : ℕ) → has quorum j ≡ true → j < scene.setup.controllers)
    (several : 0 < scene.setup.controllers / 2)
    (entered : (j : ℕ) → has quorum j ≡ true → (controller_state scene results j P).vr ≡ in_view (start j) w [] false [] None) where
  abbrev g : Group Entry
  g = histories.g scene results setup faithful P possible several

  abbrev h : History Entry
  h = histories.h scene results setup faithful P possible several

  good : Invariant g h
  good = histories.good scene results setup faithful P possible several

  within : (j : ℕ) → has quorum j ≡ true → j < size g
  within j member = histories.within scene results setup faithful P possible several j (small j member)

  state_is : (j : ℕ) → has quorum j ≡ true → h.state j ≡ member_state_of (in_view (start j) w [] false [] None)
  state_is j member = histories.state_is scene results setup faithful P possible several j (small j member) ∙ ap member_state_of (entered j member)

  good_state : (j : ℕ) → has quorum j ≡ true → IsGoodState g h j (member_state_of (in_view (start j) w [] false [] None))
  good_state j member = subst (λ (s : State Entry). IsGoodState g h j s) (state_is j member) (good.states j (within j member))

  vote_for : (j : ℕ) → has quorum j ≡ true → IsVote g h j w (start j).normal (start j).commit (start j).log
  vote_for j member =
      let s = good_state j member in
      let c = s.changing refl in
      record {
        promised = (let same = c.1 in omega (arith, same));
        earlier = c.0;
        of_view = s.of_view refl;
        covers = λ v m less one accepted. s.covers refl v m one accepted;
      }

  votes_for : (j : ℕ) → has quorum j ≡ true → IsGoodVote g h j w (start j).normal (start j).commit (drop (start j).commit (start j).log)
  votes_for j member = record { whole = (start j).log; vote = vote_for j member; rest_is = refl }

  abbrev votes : List (Vote Entry)
  votes = map (told start) quorum

  ballot : IsBallot g h w votes
  ballot = record {
    distinct = distinct_of start quorum once;
    named = λ v among. let x = in_map (told start) quorum v among in subst (λ (y : Vote Entry). y.from < size g) (sym x.2) (within x.0 (in_has quorum x.0 x.1));
    each = λ v among. let x = in_map (told start) quorum v among in subst (λ (y : Vote Entry). IsGoodVote g h y.from w y.normal y.commit y.rest) (sym x.2) (votes_for x.0 (in_has quorum x.0 x.1));
  }

  module _ (best : ℕ) (b : HasBest quorum start best) where
    is_best : IsBest votes (told start best)
    is_best v among =
        let x = in_map (told start) quorum v among in
        subst (λ (y : Vote Entry). IsAtMost y.normal (y.commit + length y.rest) (start best).normal ((start best).commit + length (drop (start best).commit (start best).log))) (sym x.2)
        (far x.0 (in_has quorum x.0 x.1) (nat_eq x.0 best) refl)
      where
        far : (j : ℕ) → has quorum j ≡ true → (d : Bool) → nat_eq j best ≡ d → IsAtMost (start j).normal (length_of (log_of start j)) (start best).normal (length_of (log_of start best))
        far j member true e = let same = eqb-true j best e in subst (λ (k : ℕ). IsAtMost (start k).normal (length_of (log_of start k)) (start best).normal (length_of (log_of start best))) (sym same) (inr (refl, omega arith))
        far j member false e = better_far (log_of start best) (log_of start j) (b.better j member e)

    safe : IsSafe g h w (start best).log
    unfolding votes_for
    safe = best_is_safe (told start best) (votes_for best b.member) ballot (let n = (histories.odd scene results setup faithful P possible several).1 in let long = length-map quorum (told start) in omega (arith, n, long, count)) is_best

    begins : (j : ℕ) → has quorum j ≡ true → IsPrefix (take (start j).commit (start j).log) (start best).log
    begins j member = let v = vote_for j member in committed_begins good v.of_view v.earlier safe

    known : (j : ℕ) → has quorum j ≡ true → length (take (start j).commit (start j).log) ≡ (start j).commit
    known j member = length-take-le (start j).commit (start j).log (vote_for j member).of_view.within

    pub covered : IsCovered quorum start best
    covered = record {
      agrees = λ j member. agree (start j).commit (take (start j).commit (start j).log) (start best).log (known j member) (begins j member);
      covers = λ j member. let p = begins j member in let long = known j member in let all = ap length p.joined in let parts = length-append (take (start j).commit (start j).log) p.rest in omega (arith, long, all, parts);
    }
      where
        agree : (k : ℕ) (front whole : List Entry) → length front ≡ k → IsPrefix front whole → front ≡ take k whole
        agree k front whole long p = sym (ap (take k) p.joined ∙ ap (λ (i : ℕ). take i (front ++ p.rest)) (sym long) ∙ take_at front p.rest (length front) refl)

-- A normal primary of a view above 0 has f + 1 controllers whose promise is at least its view.
use Rattle.std.proofs.Common.{◌≡◌, ℕ, ◌<◌, ◌≤◌, inl, inr, Bool, true, leb, List, map, refl, sym, ap, ◌∙◌, subst, arith}
use Rattle.std.proofs.lemmas.Bool.{cases_eq, leb-true, le-leb}
use Rattle.std.proofs.lemmas.List.{length-map}
use Rattle.agreement.specs.Lists.{count_below}
use Rattle.agreement.specs.History.{Group, size, primary_in, Normal, ViewChange, Recovering, Down, Vote, Letter, State, History}
use Rattle.agreement.specs.Invariant.{is_up_status, Invariant, IsGroup}
use Rattle.agreement.specs.Moves.{Moved, Move, Enters, Collects, Stocks, Starts, Adopts, Appends, Commits, Acknowledges, Counts, Proposes, Keeps, Recovers, Falls, Rises, Speaks, Notes}
use Rattle.agreement.specs.Laws.{IsStart, Run, still, then, IsBacked, PrimariesAreBacked}
use Rattle.agreement.proofs.Counts.{count_more, count_list}
use Rattle.agreement.proofs.Quorums.{voter_named}
use Rattle.agreement.proofs.Frame.{Step, promise_more}
use Rattle.agreement.proofs.Keeping.{move_keeps}
use Rattle.agreement.proofs.Runs.{start_good, run_keeps}

-- the controllers that have promised the view
abbrev backs : {E : Type 0} → History E → ℕ → ℕ → Bool
backs h v j = leb v (h.promise j)

module _ {E : Type 0} {g : Group E} {h h' : History E} {c : ℕ} {new : List (Letter E)} (t : Step g h h' c new) where
  backs_more : (v : ℕ) → g.most_failures < count_below (backs h v) (size g) → g.most_failures < count_below (backs h' v) (size g)
  backs_more v l =
      let more = count_more (backs h v) (backs h' v) (size g) (λ j b e. let k = leb-true v (h.promise j) e in let u = promise_more t j in le-leb v (h'.promise j) (omega arith)) in
      omega arith

module _ {E : Type 0} {g : Group E} {h h' : History E} {c : ℕ} where
  own_backed : IsGroup g → Invariant g h → IsBacked g h → c < size g → Move g h h' c → (h'.state c).status ≡ Normal → c ≡ primary_in g (h'.state c).view → 1 ≤ (h'.state c).view → g.most_failures < count_below (backs h' (h'.state c).view) (size g)
  own_backed gr i k b m n is o = by m
    where
      step : Step g h h' c (move_keeps gr i b m).new
      step = (move_keeps gr i b m).step

      old : (h'.state c).status ≡ (h.state c).status → (h'.state c).view ≡ (h.state c).view → g.most_failures < count_below (backs h' (h'.state c).view) (size g)
      old es ev = subst (λ (v : ℕ). g.most_failures < count_below (backs h' v) (size g)) (sym ev)
          (backs_more step (h.state c).view (k c b (sym es ∙ n) (is ∙ ap (primary_in g) ev) (omega (arith, ev))))

      same : {s : State E} {p l : ℕ} {new : List (Letter E)} → Moved h h' c s p l new → s.status ≡ (h.state c).status → s.view ≡ (h.state c).view → g.most_failures < count_below (backs h' (h'.state c).view) (size g)
      same t es ev = old (ap (λ (s : State E). s.status) t.state_own ∙ es) (ap (λ (s : State E). s.view) t.state_own ∙ ev)

      status_of : {s : State E} {p l : ℕ} {new : List (Letter E)} → Moved h h' c s p l new → s.status ≡ Normal
      status_of t = sym (ap (λ (s : State E). s.status) t.state_own) ∙ n

      view_of : {s : State E} {p l : ℕ} {new : List (Letter E)} → Moved h h' c s p l new → c ≡ primary_in g s.view
      view_of t = is ∙ ap (λ (s : State E). primary_in g s.view) t.state_own

      by : Move g h h' c → g.most_failures < count_below (backs h' (h'.state c).view) (size g)
      by (Enters w up later t q) = absurd (let z : ViewChange ≡ Normal = status_of t in cc)
      by (Collects vote n' is' new named v t q) = same t refl refl
      by (Stocks x n' small good t q) = same t refl refl
      by (Starts star most good n' is' many best in'' t q) =
          let v : ℕ = (h.state c).view in
          let ballot = (i.states c b).ballot n' is' in
          let votes : List (Vote E) = (h.state c).collected in
          let all = count_list (map (λ x. x.from) votes) (backs h v) (size g) ballot.distinct
          (λ x j. let r = voter_named votes x j in
          (subst (λ (y : ℕ). y < size g) (sym r.2) (ballot.named r.0 r.1), subst (λ (y : ℕ). backs h v y ≡ true) (sym r.2) (le-leb v (h.promise r.0.from) (ballot.each r.0 r.1).vote.promised))) in
          subst (λ (s : State E). g.most_failures < count_below (backs h' s.view) (size g)) (sym t.state_own)
          (backs_more step v (omega (arith, length-map votes (λ (x : Vote E). x.from))))
      by (Adopts w k' log up ne x later t q) = absurd (ne (view_of t))
      by (Appends log n' ne p x t q) = same t refl refl
      by (Commits k' n' more fits shown_by t q) = same t refl refl
      by (Acknowledges to n' ne t q) = same t refl refl
      by (Counts j place n' is' ne a t q) = same t refl refl
      by (Proposes e new n' is' valid letters t q) = same t refl refl
      by (Keeps x responses n' apart at these t q) = same t refl refl
      by (Recovers w k' log n' above ne x fresh t q) = absurd (ne (view_of t))
      by (Falls p l up older t q) = absurd (let z : Down ≡ Normal = status_of t in cc)
      by (Rises new n' letters t q) = absurd (let z : Recovering ≡ Normal = status_of t in cc)
      by (Speaks new from' unlike good t q) = same t refl refl
      by (Notes s' alike t q) = same t alike.status (alike.view (ap is_up_status (sym alike.status ∙ status_of t)))

  move_backed : IsGroup g → Invariant g h → IsBacked g h → c < size g → Move g h h' c → IsBacked g h'
  move_backed gr i k b m j bj n is o = elim (cases_eq j c) [
    | inl e ↦ subst (λ (y : ℕ). g.most_failures < count_below (backs h' (h'.state y).view) (size g)) (sym e)
        (own_backed gr i k b m (subst (λ (y : ℕ). (h'.state y).status ≡ Normal) e n) (subst (λ (y : ℕ). y ≡ primary_in g (h'.state y).view) e is) (subst (λ (y : ℕ). 1 ≤ (h'.state y).view) e o))
    | inr ne ↦
        let t = (move_keeps gr i b m).step in
        let s = t.state_other j ne in
        let ev : (h'.state j).view ≡ (h.state j).view = ap (λ (s : State E). s.view) s in
        subst (λ (v : ℕ). g.most_failures < count_below (backs h' v) (size g)) (sym ev)
        (backs_more t (h.state j).view (k j bj (ap (λ (s : State E). s.status) (sym s) ∙ n) (is ∙ ap (primary_in g) ev) (omega (arith, ev))))
  ]

module _ {E : Type 0} {g : Group E} {h0 : History E} where
  run_backed : IsGroup g → IsStart h0 → {h : History E} → Run g h0 h → IsBacked g h
  run_backed gr z still = λ c b n is o. absurd (omega (arith, z.view c))
  run_backed gr z (then c b r m) = move_backed gr (run_keeps gr (start_good gr z) r) (run_backed gr z r) b m

pub backed_law : {E : Type 0} → PrimariesAreBacked E
backed_law g h0 h gr z r = run_backed gr z r

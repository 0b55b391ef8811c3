-- Nothing is dropped: each move leaves what was committed in its places.
use Rattle.std.proofs.Common.{◌≡◌, ℕ, ◌<◌, true, List, [], ◌∷◌, sym, ap, ◌∙◌, subst}
use Rattle.std.proofs.lemmas.Bool.{false≢true}
use Rattle.list_facts.proofs.Prefixes.{front_prefix, prefix_append, prefix_trans}
use Rattle.list_facts.specs.Lists.{IsPrefix}
use Rattle.agreement.specs.History.{Group, size, Status, Recovering, Down, State, History}
use Rattle.agreement.specs.Invariant.{is_up_status, Invariant}
use Rattle.agreement.specs.Moves.{Moved, Move, Enters, Collects, Stocks, Starts, Adopts, Appends, Commits, Acknowledges, Counts, Proposes, Keeps, Recovers, Falls, Rises, Speaks, Notes}
use Rattle.agreement.specs.Laws.{committed_log, NothingIsDropped}
use Rattle.agreement.proofs.Quorums.{best_is_safe}
use Rattle.agreement.proofs.Consequences.{committed_begins, up_not_down, adopted_above}
use Rattle.agreement.proofs.Keeping.{move_keeps}
use Rattle.agreement.proofs.Conditions.{own_valid}

not_up : (s : Status) → s ≡ Recovering → is_up_status s ≡ true → ⊥
not_up s e u = false≢true (ap is_up_status (sym e) ∙ u)

not_down : (s : Status) → s ≡ Down → is_up_status s ≡ true → ⊥
not_down s e u = false≢true (ap is_up_status (sym e) ∙ u)

module _ {E : Type 0} {g : Group E} {h h' : History E} {c : ℕ} where
  front_kept : Invariant g h → c < size g → Move g h h' c → is_up_status (h.state c).status ≡ true → is_up_status (h'.state c).status ≡ true → IsPrefix (committed_log (h.state c)) (h'.state c).log
  front_kept i b m u u' = by m
    where
      same : h'.state c ≡ h.state c → IsPrefix (committed_log (h.state c)) (h'.state c).log
      same e = subst (λ (s : State E). IsPrefix (committed_log (h.state c)) s.log) (sym e) (front_prefix (h.state c).commit (h.state c).log)

      to : {s : State E} {p l : ℕ} {new : List _} → Moved h h' c s p l new → IsPrefix (committed_log (h.state c)) s.log → IsPrefix (committed_log (h.state c)) (h'.state c).log
      to t x = subst (λ (s : State E). IsPrefix (committed_log (h.state c)) s.log) (sym t.state_own) x

      own : IsPrefix (committed_log (h.state c)) (h.state c).log
      own = front_prefix (h.state c).commit (h.state c).log

      by : Move g h h' c → IsPrefix (committed_log (h.state c)) (h'.state c).log
      by (Enters w up later t q) = to t own
      by (Collects vote n is new named v t q) = to t own
      by (Stocks x n small good t q) = to t own
      by (Starts star most good n is many best in'' t q) =
          let r = i.states c b in
          to t (committed_begins i (r.of_view u) (r.changing n).0 (best_is_safe star good (r.ballot n is) many best))
      by (Adopts w k log up ne x later t q) =
          let r = i.states c b in
          to t (committed_begins i (r.of_view u) (adopted_above r up later) x.safe)
      by (Appends log n ne p x t q) = to t (prefix_trans own p)
      by (Commits k n more fits shown_by t q) = to t own
      by (Acknowledges to' n ne t q) = same t.state_own
      by (Counts j place n is ne a t q) = to t own
      by (Proposes e new n is valid letters t q) = to t (prefix_trans own (prefix_append (h.state c).log (e ∷ [])))
      by (Keeps x responses n apart at these t q) = absurd (not_up (h.state c).status n u)
      by (Recovers w k log n above ne x fresh t q) = absurd (not_up (h.state c).status n u)
      by (Falls p l up older t q) = absurd (not_down (h'.state c).status (ap (λ (s : State E). s.status) t.state_own) u')
      by (Rises new n letters t q) = absurd (not_down (h.state c).status n u)
      by (Speaks new from' unlike good t q) = same t.state_own
      by (Notes s' alike t q) = to t (subst (λ (x : List E). IsPrefix (committed_log (h.state c)) x) (sym (alike.log (up_not_down (h.state c).status u))) own)

pub dropped_law : {E : Type 0} → NothingIsDropped E
dropped_law g h h' c gr i b m u' =
    let k = move_keeps gr i b m in
    let v = own_valid (k.inv.states c b) gr k.inv u' in
    record { valid = v.0; within = v.1; kept = λ u. front_kept i b m u u' }

-- What a turn shows is certified before any letter of the turn has left.
use Rattle.std.proofs.Common.{◌≡◌, ℕ, ◌<◌, ◌≤◌, true, List, length, take, refl, sym, ap, ◌∙◌, subst, arith}
use Rattle.list_facts.proofs.Prefixes.{prefix_refl, prefix_take, prefix_trans}
use Rattle.list_facts.specs.Lists.{IsIn, IsPrefix}
use Rattle.agreement.specs.History.{Group, size, primary_in, ViewChange, Vote, Letter, State, History}
use Rattle.agreement.specs.Quorums.{has_accepted, IsCertified, empty, shown}
use Rattle.agreement.specs.Invariant.{is_up_status, IsGoodVote, IsGoodState, Invariant, IsGroup}
use Rattle.agreement.specs.Moves.{Moved, LogsStay, AcknowledgeNothing, Resembles, started, IsBest}
use Rattle.agreement.specs.Laws.{Run, still, then, committed_log}
use Rattle.agreement.specs.Turns.{AcceptsAlike, KeepsCommitted, StartsView, FirstMoves, first_none, first_then, LastMoves, last_none, last_then, Turn, plainly, starting, Shown, nothing_shown, shown_now, shown_open, ShownLogsAgree}
use Rattle.agreement.proofs.Counts.{count_more}
use Rattle.agreement.proofs.Quorums.{best_has_room}
use Rattle.agreement.proofs.Consequences.{certified_agree, up_not_down}
use Rattle.agreement.proofs.AcceptingNothing.{same_accepted}
use Rattle.agreement.proofs.Runs.{start_good, run_keeps, run_certified, up_certified}

-- a state that stays, or one that resembles it, keeps what is committed
pub same_state : {E : Type 0} {s s' : State E} → s' ≡ s → KeepsCommitted s s'
same_state {E = E} {s = s} e = record { status = ap (λ (x : State E). x.status) e; commit = λ u. ap (λ (x : State E). x.commit) e; longer = λ u. subst (λ (x : State E). IsPrefix s.log x.log) (sym e) (prefix_refl s.log) }

pub like_state : {E : Type 0} {s s' : State E} → Resembles s s' → KeepsCommitted s s'
like_state {E = E} {s = s} m = record { status = m.status; commit = λ u. m.commit (up_not_down s.status u); longer = λ u. subst (λ (x : List E). IsPrefix s.log x) (sym (m.log (up_not_down s.status u))) (prefix_refl s.log) }

module _ {E : Type 0} {g : Group E} where
  alike_trans : {h h1 h2 : History E} → AcceptsAlike g h h1 → AcceptsAlike g h1 h2 → AcceptsAlike g h h2
  alike_trans a b = record { accept = λ v m j. b.accept v m j ∙ a.accept v m j; logs = λ v. b.logs v ∙ a.logs v }

  certified_back : {h h' : History E} {xs : List E} → AcceptsAlike g h h' → IsCertified g h' xs → IsCertified g h xs
  certified_back a (empty e) = empty e
  certified_back {h} {h'} {xs} a (shown v m l w p q) =
      let many = q.many in
      let fewer = count_more (has_accepted g h' v m) (has_accepted g h v m) (size g) (λ i b e. sym (a.accept v m i) ∙ e) in
      shown v m l (omega (arith, ap length (a.logs v))) (subst (λ (x : List E). IsPrefix xs x) (a.logs v) p) record { many = omega arith }

module _ {E : Type 0} {g : Group E} {h h' : History E} {c : ℕ} where
  pub alike_of : {s : State E} {p l : ℕ} {new : List (Letter E)} → Moved h h' c s p l new → LogsStay h h' → AcknowledgeNothing new → AcceptsAlike g h h'
  alike_of t q n = record { accept = same_accepted g t q n; logs = q.same }

  pub start_begins : {s : State E} → IsGoodState g h c s → (star most : Vote E) (good : IsGoodVote g h star.from s.view star.normal star.commit star.rest) → s.status ≡ ViewChange → c ≡ primary_in g s.view → g.most_failures < length s.collected
      → IsBest s.collected star → IsIn most s.collected
      → h'.state c ≡ started s good.whole most.commit → StartsView g h h' c
  start_begins r star most good n is many best in'' e =
      let x = best_has_room star good (r.ballot n is) many best most in'' in
      record {
        certified = subst (λ (y : State E). IsCertified g h (committed_log y)) (sym e) x.1;
        within = subst (λ (y : State E). y.commit ≤ length y.log) (sym e) x.0;
      }

last_run : {E : Type 0} {g : Group E} {c : ℕ} {h0 h h' : History E} → c < size g → Run g h0 h → LastMoves g c h h' → Run g h0 h'
last_run b r last_none = r
last_run {c = c} b r (last_then l m e) = then c b (last_run b r l) m

module _ {E : Type 0} {g : Group E} {h : History E} {c : ℕ} where
  quiet_run : {h' : History E} → c < size g → FirstMoves g c h h' → Run g h h'
  quiet_run b first_none = still
  quiet_run b (first_then r m e) = then c b (quiet_run b r) m

  quiet_alike : {h' : History E} → FirstMoves g c h h' → AcceptsAlike g h h'
  quiet_alike first_none = record { accept = λ v m j. refl; logs = λ v. refl }
  quiet_alike (first_then r m e) = alike_trans (quiet_alike r) e

  last_all : {h' : History E} → LastMoves g c h h' → KeepsCommitted (h.state c) (h'.state c)
  last_all last_none = record { status = refl; commit = λ u. refl; longer = λ u. prefix_refl (h.state c).log }
  last_all (last_then l m b) = let a = last_all l in record {
    status = b.status ∙ a.status;
    commit = λ u. b.commit (ap is_up_status a.status ∙ u) ∙ a.commit u;
    longer = λ u. prefix_trans (a.longer u) (b.longer (ap is_up_status a.status ∙ u));
  }

  -- the last moves leave what is committed
  last_committed : {h' : History E} → LastMoves g c h h' → is_up_status (h'.state c).status ≡ true → (h.state c).commit ≤ length (h.state c).log → committed_log (h'.state c) ≡ committed_log (h.state c)
  last_committed {h'} l u fits =
      let a = last_all l in
      let u0 : is_up_status (h.state c).status ≡ true = ap is_up_status (sym a.status) ∙ u in
      ap (λ (k : ℕ). take k (h'.state c).log) (a.commit u0) ∙ sym (prefix_take (h.state c).commit (a.longer u0) fits)

  -- a turn is a run
  pub turn_run : {h' : History E} → c < size g → Turn g c h h' → Run g h h'
  turn_run b (plainly h1 q l) = last_run b (quiet_run b q) l
  turn_run b (starting h1 h2 q m e l) = last_run b (then c b (quiet_run b q) m) l

module _ {E : Type 0} {g : Group E} {h : History E} {c : ℕ} where
  -- what it shows is certified where it began
  pub turn_shown : {h' : History E} → IsGroup g → Invariant g h → c < size g → Turn g c h h' → is_up_status (h'.state c).status ≡ true → IsCertified g h (committed_log (h'.state c))
  turn_shown gr i b (plainly h1 q l) u =
      let i1 = run_keeps gr i (quiet_run b q) in
      let a = last_all l in
      let u1 : is_up_status (h1.state c).status ≡ true = ap is_up_status (sym a.status) ∙ u in
      let fits = ((i1.states c b).of_view u1).within in
      certified_back (quiet_alike q) (subst (λ (x : List E). IsCertified g h1 x) (sym (last_committed l u fits)) (up_certified i1 c b u1))
  turn_shown gr i b (starting h1 h2 q m e l) u =
      certified_back (quiet_alike q) (subst (λ (x : List E). IsCertified g h1 x) (sym (last_committed l u e.within)) e.certified)

  pub shown_certified : {xs : List E} → IsGroup g → Invariant g h → c < size g → Shown g h c xs → IsCertified g h xs
  shown_certified gr i b nothing_shown = empty refl
  shown_certified gr i b (shown_now u) = up_certified i c b u
  shown_certified gr i b (shown_open h' t u) = turn_shown gr i b t u

pub shown_law : {E : Type 0} → ShownLogsAgree E
shown_law g h0 h1 h2 c d xs ys gr z r1 r2 b b' s s' =
    let i1 = run_keeps gr (start_good gr z) r1 in
    let i2 = run_keeps gr i1 r2 in
    certified_agree i2 (run_certified gr i1 r2 (shown_certified gr i1 b s)) (shown_certified gr i2 b' s')

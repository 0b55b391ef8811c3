-- From the start, over any moves.
use Rattle.std.proofs.Common.{◌≡◌, ℕ, ◌<◌, ◌≤◌, inl, inr, true, List, [], ◌∷◌, length, sym, ap, ◌∙◌, subst, arith}
use Rattle.std.proofs.lemmas.Bool.{cases_eq, false≢true, leb-true}
use Rattle.list_facts.proofs.Prefixes.{prefix_nil}
use Rattle.list_facts.specs.Lists.{IsIn, IsPrefix}
use Rattle.agreement.specs.History.{Group, size, primary_in, Letter, History}
use Rattle.agreement.specs.Quorums.{has_acknowledged, has_accepted, nothing, IsCertified}
use Rattle.agreement.specs.Invariant.{is_up_status, Invariant, IsGroup}
use Rattle.agreement.specs.Laws.{VotesMakeASafeLog, CertifiedLogsAgree, MovesKeepTheInvariant, CommittedLogsAgree, IsStart, Run, still, then, committed_log}
use Rattle.agreement.proofs.Quorums.{best_is_safe}
use Rattle.agreement.proofs.Frame.{accepted_own, accepted_posted, certified_more}
use Rattle.agreement.proofs.Consequences.{committed_certified, certified_agree}
use Rattle.agreement.proofs.Keeping.{move_keeps}

posted_nowhere : {E : Type 0} (ls : List (Letter E)) (c v m : ℕ) → ls ≡ [] → has_acknowledged ls c v m ≡ true → ⊥
unfolding has_acknowledged
posted_nowhere [] c v m e a = false≢true a
posted_nowhere (l ∷ ls) c v m e a = absurd cc

module _ {E : Type 0} {h : History E} where
  nobody_accepts : (g : Group E) → IsStart h → (v m c : ℕ) → 1 ≤ m → has_accepted g h v m c ≡ true → ⊥
  nobody_accepts g z v m c o a = elim (cases_eq c (primary_in g v)) [
    | inl e ↦ let k = leb-true m (length (h.logs v)) (sym (accepted_own g h v m c e) ∙ a) in let n = ap length (z.logs v) in omega arith
    | inr e ↦ posted_nowhere h.sent c v m z.sent (sym (accepted_posted g h v m c e) ∙ a)
  ]

  -- where nobody has done anything the invariant holds
  pub start_good : {g : Group E} → IsGroup g → IsStart h → Invariant g h
  start_good {g} gr z = record {
    states = λ c b. let n = z.status c in record {
      normal = λ e. (z.normal c ∙ sym (z.view c), z.view c ∙ sym (z.promise c));
      changing = λ e. absurd cc;
      blank = λ e. absurd cc;
      promised = λ v m o a. absurd (nobody_accepts g z v m c o a);
      held = λ v m o a. absurd (nobody_accepts g z v m c o a);
      covers = λ u v m o a. absurd (nobody_accepts g z v m c o a);
      of_view = λ u. record {
        front = subst (λ (l : List E). IsPrefix l (h.logs (h.state c).normal)) (sym (z.log c)) (prefix_nil (h.logs (h.state c).normal));
        within = omega (arith, z.commit c);
        safe = record { at = λ v m l o. absurd (omega (arith, z.normal c)) };
        committed = nothing (z.commit c);
      };
      counted = λ e p i m ne o l. absurd (omega (arith, z.acked c i));
      ballot = λ e. absurd cc;
      supplied = λ e. absurd cc;
      heard = λ e. absurd cc;
    };
    letters = λ l i. absurd (subst (λ (ls : List (Letter E)). IsIn l ls) z.sent i);
    views = λ v. record { valid = ap g.is_log (z.logs v) ∙ gr.begins; safe = inl (z.logs v) };
  }

module _ {E : Type 0} {g : Group E} {h : History E} where
  pub run_keeps : IsGroup g → Invariant g h → {h' : History E} → Run g h h' → Invariant g h'
  run_keeps gr i still = i
  run_keeps gr i (then c b r m) = (move_keeps gr (run_keeps gr i r) b m).inv

  pub run_certified : IsGroup g → Invariant g h → {xs : List E} {h' : History E} → Run g h h' → IsCertified g h xs → IsCertified g h' xs
  run_certified gr i still k = k
  run_certified gr i (then c b r m) k = certified_more (move_keeps gr (run_keeps gr i r) b m).step (run_certified gr i r k)

  -- what a controller that is up has committed is certified
  pub up_certified : Invariant g h → (c : ℕ) → c < size g → is_up_status (h.state c).status ≡ true → IsCertified g h (committed_log (h.state c))
  up_certified i c b u = committed_certified i ((i.states c b).of_view u)

pub votes_law : {E : Type 0} → VotesMakeASafeLog E
votes_law g h w votes star b many m best = best_is_safe star (b.each star m) b many best

pub compare_law : {E : Type 0} → CertifiedLogsAgree E
compare_law g h xs ys i a b = certified_agree i a b

pub moves_law : {E : Type 0} → MovesKeepTheInvariant E
moves_law g h h' c gr i b m = let k = move_keeps gr i b m in (k.inv, λ xs a. certified_more k.step a)

pub agreement_law : {E : Type 0} → CommittedLogsAgree E
agreement_law g h0 h1 h2 c d gr z r1 r2 b b' u u' =
    let i1 = run_keeps gr (start_good gr z) r1 in
    let i2 = run_keeps gr i1 r2 in
    certified_agree i2 (run_certified gr i1 r2 (up_certified i1 c b u)) (up_certified i2 d b' u')

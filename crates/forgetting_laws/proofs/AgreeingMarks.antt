-- Marks that agree on the commands that are not settled answer alike, and go on to agree.
use Rattle.std.proofs.Common.{inl, inr, ◌≡◌, ◌≤◌, ◌<◌, ℕ, Bool, true, false, not, ◌&&◌, List, [], ◌∷◌, ◌++◌, length, filter, refl, sym, ap, ◌∙◌, arith}
use Rattle.std.specs.Prelude.{nat_eq, nat_le, nat_lt, if◌then◌else◌}
use Rattle.std.specs.List.{AllByRecursion}
use Rattle.std.proofs.lemmas.Bool.{and_from, and_parts, and_right, cases_Bool, eqb-true, leb-true, lt-ltb, ltb-true, le-leb, or_cases}
use Rattle.std.proofs.lemmas.List.Folds.{list_any-append}
use Rattle.std.proofs.lemmas.List.Sums.{sum_by-append}
use Rattle.of_types.specs.declared.setup.Setup.{Setup}
use Rattle.of_types.specs.Lives.{has_ended}
use Rattle.vr_log.specs.declared.entry.Entry.{Entry}
use Rattle.vr_log.specs.Log.{received, processed}
use Rattle.two_stage_log.specs.Counts.{has_unprocessed}
use Rattle.app_core.specs.declared.issued.Issued.{Issued}
use Rattle.app_core.specs.Chain.{concat}
use Rattle.app_core.specs.Issued.{commands_of, count_issued, issues}
use Rattle.dispatcher.specs.Marks.{Marks, has_result, no_marks, is_confirmed, is_pending, is_wanted, pending_alone, settled_commands, wanted, with_mark, with_marked_result}
use Rattle.dispatcher.proofs.Forgetting.{kept_is}
use Rattle.dispatcher.proofs.Numbering.{first_pend, Pends}
use Rattle.list_facts.specs.Lists.{IsPrefix}
use Rattle.list_facts.proofs.Prefixes.{filter_more, prefix_append, take_prefix}
use Rattle.controller_moves.proofs.ControllerLaws.Issued.{concat_prefix, issues_prefix}
use Rattle.controller_moves.proofs.ControllerLaws.Logs.{processed_prefix, received_prefix}
use Rattle.forgetting_laws.specs.Marks.{AnswerAlike, AreOfIssued, Commutes, StayOfIssued}

-- a list has no fewer commands of a life than one that begins it
count_prefix : (s l : ℕ) {xs ys : List Issued} → IsPrefix xs ys → count_issued s l xs ≤ count_issued s l ys
count_prefix s l {xs} p =
    let all = ap (λ (z : List Issued). count_issued s l z) p.joined in
    let parts = sum_by-append (λ (x : Issued). if nat_eq x.switch s && nat_eq x.life l then 1 else 0) xs p.rest in
    omega (arith, all, parts)

module _ (kinds : List ℕ) (setup : Setup) where
  -- no fewer commands are settled in a longer log
  settled_grows : (s l : ℕ) {log longer : List Entry} → IsPrefix log longer → settled_commands kinds setup log s l ≤ settled_commands kinds setup longer s l
  settled_grows s l {log} {longer} p =
      count_prefix s l (concat_prefix _ _ (take_prefix (processed log) (processed longer) (processed_prefix p) (issues_prefix kinds setup (received log) (received longer) (received_prefix p))))

  -- the marks agree on which switches took the controller as master, and on the results of commands that are not settled
  pub record Agree (log : List Entry) (marks other : Marks) : Type 0 where
    pub confirmed : marks.confirmed ≡ other.confirmed
    pub results : (s l n : ℕ) → settled_commands kinds setup log s l ≤ n → has_result marks s l n ≡ has_result other s l n

  -- they agree in a longer log
  pub agree_later : {log longer : List Entry} (marks other : Marks) → IsPrefix log longer → Agree log marks other → Agree longer marks other
  agree_later marks other p h =
      record { confirmed = h.confirmed; results = λ s l n settled. let grows = settled_grows s l p in h.results s l n (omega (arith, settled, grows)) }

  -- what is pending stays where the rest is forgotten
  pub forgotten_agree : (log : List Entry) (marks : Marks) → AreOfIssued kinds setup log marks → Agree log (pending_alone kinds setup log marks) marks
  forgotten_agree log marks issued =
      record { confirmed = refl; results = λ s l n settled. kept_is (is_pending kinds setup log) marks s l n ∙ same s l n settled }
    where
      same : (s l n : ℕ) → settled_commands kinds setup log s l ≤ n → (is_pending kinds setup log s l n && has_result marks s l n) ≡ has_result marks s l n
      same s l n settled =
          elim (cases_Bool (has_result marks s l n)) [
            | inl came ↦
                let all = count_issued s l (concat (issues kinds setup (received log))) in
                let pending = and_from (nat_le (settled_commands kinds setup log s l) n) (nat_lt n all) (le-leb (settled_commands kinds setup log s l) n settled) (lt-ltb n all (issued s l n came)) in
                ap (λ (b : Bool). b && has_result marks s l n) pending
            | inr none ↦ and_right (is_pending kinds setup log s l n) (has_result marks s l n) none ∙ sym none
          ]

  module _ (log : List Entry) (marks other : Marks) (h : Agree log marks other) where
    pub wanted_among : (xs : List Issued) → AllByRecursion (Pends kinds setup log) xs → filter (is_wanted log marks) xs ≡ filter (is_wanted log other) xs
    wanted_among [] pend = refl
    wanted_among (x ∷ xs) pend =
        let settled = settled_commands kinds setup log x.switch x.life in
        let low = leb-true settled x.number (and_parts (nat_le settled x.number) (nat_lt x.number (count_issued x.switch x.life (concat (issues kinds setup (received log))))) pend.0).0 in
        ap (λ (b : Bool). if not b && not (has_ended x.switch x.life (received log)) then x ∷ filter (is_wanted log marks) xs else filter (is_wanted log marks) xs) (h.results x.switch x.life x.number low)
        ∙ ap (λ (l : List Issued). if is_wanted log other x then x ∷ l else l) (wanted_among xs pend.1)

    pub wanted_alike : wanted kinds setup log marks ≡ wanted kinds setup log other
    wanted_alike = wanted_among (commands_of kinds setup (received log) (processed log)) (first_pend kinds setup log)

    pub answers : AnswerAlike kinds setup log marks other
    answers =
        record {
          wanted = wanted_alike;
          outstanding = ap (λ (l : List Issued). filter (λ x. is_confirmed marks x.switch) l) wanted_alike
              ∙ ap (λ (c : List ℕ). filter (λ x. is_confirmed (record other { confirmed = c }) x.switch) (wanted kinds setup log other)) h.confirmed;
          finished = ap (λ (l : List Issued). has_unprocessed log && nat_eq (length l) 0) wanted_alike;
          confirmed = λ switch. ap (λ (c : List ℕ). is_confirmed (record other { confirmed = c }) switch) h.confirmed;
        }

  pub forgotten_unasked : (log entries : List Entry) (marks : Marks) → AreOfIssued kinds setup log marks → AnswerAlike kinds setup (log ++ entries) (pending_alone kinds setup log marks) marks
  forgotten_unasked log entries marks issued =
      answers (log ++ entries) (pending_alone kinds setup log marks) marks (agree_later (pending_alone kinds setup log marks) marks (prefix_append log entries) (forgotten_agree log marks issued))

  -- a result is marked, and the same is kept
  pub marks_commute : (log : List Entry) (marks : Marks) (s l n : ℕ) →
      with_marked_result kinds setup log (pending_alone kinds setup log marks) s l n ≡ pending_alone kinds setup log (with_marked_result kinds setup log marks s l n)
  marks_commute log marks s l n = elim (cases_Bool (is_pending kinds setup log s l n)) [ inl pending ↦ marked pending | inr other ↦ unmarked other ]
    where
      kept : Marks → Marks
      kept m = pending_alone kinds setup log m

      more : Marks → Marks
      more m = record m { acked = m.acked ++ (s, l, n) ∷ [] }

      unmarked : is_pending kinds setup log s l n ≡ false → with_marked_result kinds setup log (kept marks) s l n ≡ kept (with_marked_result kinds setup log marks s l n)
      unmarked e =
          ap (λ (b : Bool). if b then with_mark (kept marks) s l n else kept marks) e ∙ sym (ap (λ (b : Bool). kept (if b then with_mark marks s l n else marks)) e)

      noted : is_pending kinds setup log s l n ≡ true → (came : Bool) → has_result marks s l n ≡ came → (if came then kept marks else more (kept marks)) ≡ kept (if came then marks else more marks)
      noted pending true came = refl
      noted pending false came =
          sym (ap (λ (l : List (ℕ × ℕ × ℕ)). record marks { acked = l }) (filter_more (λ (a : ℕ × ℕ × ℕ). is_pending kinds setup log a.0 a.1 a.2) marks.acked (s, l, n) pending))

      marked : is_pending kinds setup log s l n ≡ true → with_marked_result kinds setup log (kept marks) s l n ≡ kept (with_marked_result kinds setup log marks s l n)
      marked pending =
          ap (λ (b : Bool). if b then with_mark (kept marks) s l n else kept marks) pending
          ∙ ap (λ (b : Bool). if b then kept marks else more (kept marks)) (kept_is (is_pending kinds setup log) marks s l n ∙ ap (λ (b : Bool). b && has_result marks s l n) pending)
          ∙ noted pending (has_result marks s l n) refl
          ∙ sym (ap (λ (b : Bool). kept (if b then with_mark marks s l n else marks)) pending)

  pub commutes : (log : List Entry) (marks : Marks) → Commutes kinds setup log marks
  commutes log marks = record { results = marks_commute log marks; confirmed = λ switch. refl; greeted = λ switch. refl }

  -- marks are of issued commands
  abbrev issued_in : List Entry → ℕ → ℕ → ℕ
  issued_in log s l = count_issued s l (concat (issues kinds setup (received log)))

  issued_grows : (s l : ℕ) {log longer : List Entry} → IsPrefix log longer → issued_in log s l ≤ issued_in longer s l
  issued_grows s l {log} {longer} p = count_prefix s l (concat_prefix _ _ (issues_prefix kinds setup (received log) (received longer) (received_prefix p)))

  pub none_issued : (log : List Entry) → AreOfIssued kinds setup log no_marks
  none_issued log s l n came = absurd cc

  more_issued : (log : List Entry) (marks : Marks) → AreOfIssued kinds setup log marks → (switch life number : ℕ) → number < issued_in log switch life →
      AreOfIssued kinds setup log (record marks { acked = marks.acked ++ (switch, life, number) ∷ [] })
  more_issued log marks issued switch life number below s l n came =
      elim (or_cases (has_result marks s l n) _ (sym (list_any-append (λ (a : ℕ × ℕ × ℕ). nat_eq a.0 s && nat_eq a.1 l && nat_eq a.2 n) marks.acked ((switch, life, number) ∷ [])) ∙ came)) [
        | inl before ↦ issued s l n before
        | inr new ↦
            let is : (nat_eq switch s && nat_eq life l && nat_eq number n) ≡ true = elim (or_cases (nat_eq switch s && nat_eq life l && nat_eq number n) false new) [ inl is ↦ is | inr none ↦ absurd cc ] in
            let p = and_parts (nat_eq switch s && nat_eq life l) (nat_eq number n) is in
            let q = and_parts (nat_eq switch s) (nat_eq life l) p.0 in
            let here = ap (λ (k : ℕ). issued_in log k life) (eqb-true switch s q.0) ∙ ap (λ (k : ℕ). issued_in log s k) (eqb-true life l q.1) in
            let same = eqb-true number n p.1 in
            omega (arith, below, here, same)
      ]

  marked_issued : (log : List Entry) (marks : Marks) → AreOfIssued kinds setup log marks → (s l n : ℕ) → AreOfIssued kinds setup log (with_marked_result kinds setup log marks s l n)
  marked_issued log marks issued s l n = by_test (is_pending kinds setup log s l n) refl
    where
      noted : (came : Bool) → n < issued_in log s l → AreOfIssued kinds setup log (if came then marks else record marks { acked = marks.acked ++ (s, l, n) ∷ [] })
      noted true below = issued
      noted false below = more_issued log marks issued s l n below

      by_test : (pending : Bool) → is_pending kinds setup log s l n ≡ pending → AreOfIssued kinds setup log (if pending then with_mark marks s l n else marks)
      by_test true is =
          noted (has_result marks s l n)
          (ltb-true n (issued_in log s l) (and_parts (nat_le (settled_commands kinds setup log s l) n) (nat_lt n (issued_in log s l)) is).1)
      by_test false is = issued

  pub stay_issued : (log : List Entry) (marks : Marks) → AreOfIssued kinds setup log marks → StayOfIssued kinds setup log marks
  stay_issued log marks issued =
      record {
        grown = λ entries s l n came. let below = issued s l n came in let grows = issued_grows s l (prefix_append log entries) in omega (arith, below, grows);
        marked = marked_issued log marks issued;
        forgotten = λ s l n came. issued s l n (and_parts (is_pending kinds setup log s l n) (has_result marks s l n) (sym (kept_is (is_pending kinds setup log) marks s l n) ∙ came)).1;
      }

-- A ledger, as the log that it is kept of grows.
use Rattle.std.proofs.Common.{inl, inr, ◌≡◌, ◌<◌, ◌≤◌, ℕ, zero, suc, ◌+◌, ◌-◌, ◌^◌, min, Bool, true, false, ◌&&◌, List, [], ◌∷◌, ◌++◌, length, take, drop, get_or, replicate, refl, sym, ap, subst, ◌∙◌, arith, append-nil, append_assoc, length-append}
use Rattle.std.specs.Prelude.{nat_eq, nat_lt, slice_get, Some, if◌then◌else◌}
use Rattle.std.proofs.Math.Nat.{min-eq_left}
use Rattle.std.proofs.Math.Seq.{drop-nil}
use Rattle.std.proofs.lemmas.Option.{slice_get_within, get_or_from_slice_get}
use Rattle.std.proofs.lemmas.Bool.{and_parts, eqb-true, ltb-true, eq-eqb, cases_eq, ne_eqb, cases_lt}
use Rattle.std.proofs.lemmas.List.{take-append-le, drop-append-le, take_more, take-append-drop, get_or-replicate, get_or_past, length-drop, length-take}
use Rattle.std.proofs.lemmas.List.Sums.{sum_by-cons, sum_by-append, count_by-le-length}
use Rattle.of_types.specs.declared.message.Command.{Command}
use Rattle.of_types.specs.declared.message.Event.{Event}
use Rattle.of_types.specs.declared.setup.Setup.{Setup}
use Rattle.of_types.specs.Lives.{life_in, count_in}
use Rattle.of_types.proofs.Counts.{life_in-append, count_in-append}
use Rattle.vr_log.specs.declared.entry.Entry.{Entry}
use Rattle.vr_log.specs.declared.entry.Entry.TheVariants.{Received, Processed}
use Rattle.vr_log.specs.Log.{received, processed, fits}
use Rattle.vr_log.proofs.Logs.{received-append, processed_push, length_is, fits_is}
use Rattle.app_core.specs.declared.issued.Issued.{Issued}
use Rattle.app_core.specs.Chain.{concat, chain_next, chain_after, starting_chain, reactions}
use Rattle.app_core.specs.Issued.{count_issued, issue, issue_each, issues}
use Rattle.app_core.proofs.Issuing.{concat_push, length-issues, issues_push}
use Rattle.dispatcher.specs.declared.answers.HandledEvent.{HandledEvent}
use Rattle.dispatcher.specs.declared.counts.Counts.{Counts}
use Rattle.dispatcher.specs.declared.ledger.Ledger.{Ledger}
use Rattle.dispatcher.specs.Counted.{Counted, counts_of}
use Rattle.dispatcher.specs.Ledger.{IsCountedAs, AreCounts, AreLives, IsLedgerOfLog, IsLedgerOf, most_count, most_commands, one_processed, one_issued, one_settled, handled_of, handled_by}

eqb_comm : (a b : ℕ) → nat_eq a b ≡ nat_eq b a
eqb_comm a b = elim (cases_eq a b) [ inl same ↦ eq-eqb a b same ∙ sym (eq-eqb b a (sym same)) | inr other ↦ ne_eqb a b other ∙ sym (ne_eqb b a (λ e. other (sym e))) ]

-- one for a command of a life, else nothing
abbrev one_for : ℕ → ℕ → Issued → ℕ
one_for s l x = if nat_eq x.switch s && nat_eq x.life l then 1 else 0

pub count_issued_push : (s l : ℕ) (issued : List Issued) (x : Issued) → count_issued s l (issued ++ x ∷ []) ≡ count_issued s l issued + (if nat_eq s x.switch && nat_eq l x.life then 1 else 0)
count_issued_push s l issued x =
    let turned : (nat_eq x.switch s && nat_eq x.life l) ≡ (nat_eq s x.switch && nat_eq l x.life) = rw (eqb_comm x.switch s, eqb_comm x.life l) refl in
    sum_by-append (one_for s l) issued (x ∷ []) ∙ ap (λ (n : ℕ). count_issued s l issued + n) (sum_by-cons (one_for s l) x [] ∙ more (one_for s l x) ∙ ap (λ (b : Bool). if b then 1 else 0) turned)
  where
    more : (n : ℕ) → n + 0 ≡ n
    more n = omega arith

-- one count rises where the life is the one that is meant
module _ (b : Bool) (here there : Counts) (p n m : ℕ) (same : b ≡ true → here ≡ there) (is : there ≡ record { processed = p; issued = n; settled = m }) where
  at_issued : n < most_count → (if b then one_issued here else there) ≡ record { processed = p; issued = n + (if b then 1 else 0); settled = m }
  at_issued low = pick b same
    where
      pick : (b : Bool) → (b ≡ true → here ≡ there) → (if b then one_issued here else there) ≡ record { processed = p; issued = n + (if b then 1 else 0); settled = m }
      pick true e = let top : min (n + 1) most_count ≡ n + 1 = min-eq_left (omega (arith, low)) in ap one_issued (e refl ∙ is) ∙ ap (λ (k : ℕ). record { processed = p; issued = k; settled = m }) top
      pick false e = is ∙ ap (λ (k : ℕ). record { processed = p; issued = k; settled = m }) (omega arith)

  at_settled : m < most_count → (if b then one_settled here else there) ≡ record { processed = p; issued = n; settled = m + (if b then 1 else 0) }
  at_settled low = pick b same
    where
      pick : (b : Bool) → (b ≡ true → here ≡ there) → (if b then one_settled here else there) ≡ record { processed = p; issued = n; settled = m + (if b then 1 else 0) }
      pick true e = let top : min (m + 1) most_count ≡ m + 1 = min-eq_left (omega (arith, low)) in ap one_settled (e refl ∙ is) ∙ ap (λ (k : ℕ). record { processed = p; issued = n; settled = k }) top
      pick false e = is ∙ ap (λ (k : ℕ). record { processed = p; issued = n; settled = k }) (omega arith)

  at_processed : p < most_count → (if b then one_processed here else there) ≡ record { processed = p + (if b then 1 else 0); issued = n; settled = m }
  at_processed low = pick b same
    where
      pick : (b : Bool) → (b ≡ true → here ≡ there) → (if b then one_processed here else there) ≡ record { processed = p + (if b then 1 else 0); issued = n; settled = m }
      pick true e = let top : min (p + 1) most_count ≡ p + 1 = min-eq_left (omega (arith, low)) in ap one_processed (e refl ∙ is) ∙ ap (λ (k : ℕ). record { processed = k; issued = n; settled = m }) top
      pick false e = is ∙ ap (λ (k : ℕ). record { processed = k; issued = n; settled = m }) (omega arith)

-- counts of the same life
same_counts : (counts : Counted) (s l switch life : ℕ) → (nat_eq s switch && nat_eq l life) ≡ true → counts_of counts switch life ≡ counts_of counts s l
same_counts counts s l switch life h =
    let q = and_parts (nat_eq s switch) (nat_eq l life) h in
    let a : s ≡ switch = eqb-true s switch q.0 in
    let b : l ≡ life = eqb-true l life q.1 in
    cc (a, b)

module _ (done : List Event) (issued settled : List Issued) (old new : Counted) (are : AreCounts done issued settled old) where
  pub issued_more : (x : Issued) → length issued < most_count → IsCountedAs old x.switch x.life (one_issued (counts_of old x.switch x.life)) new → AreCounts done (issued ++ x ∷ []) settled new
  issued_more x low counted s l =
      let few = count_by-le-length (λ (y : Issued). nat_eq y.switch s && nat_eq y.life l) issued in
      counted s l
      ∙ at_issued (nat_eq s x.switch && nat_eq l x.life) (counts_of old x.switch x.life) (counts_of old s l) (count_in s l done) (count_issued s l issued) (count_issued s l settled)
      (same_counts old s l x.switch x.life) (are s l) (omega (arith, low, few))
      ∙ ap (λ (k : ℕ). record { processed = count_in s l done; issued = k; settled = count_issued s l settled }) (sym (count_issued_push s l issued x))

  pub settled_more : (x : Issued) → length settled < most_count → IsCountedAs old x.switch x.life (one_settled (counts_of old x.switch x.life)) new → AreCounts done issued (settled ++ x ∷ []) new
  settled_more x low counted s l =
      let few = count_by-le-length (λ (y : Issued). nat_eq y.switch s && nat_eq y.life l) settled in
      counted s l
      ∙ at_settled (nat_eq s x.switch && nat_eq l x.life) (counts_of old x.switch x.life) (counts_of old s l) (count_in s l done) (count_issued s l issued) (count_issued s l settled)
      (same_counts old s l x.switch x.life) (are s l) (omega (arith, low, few))
      ∙ ap (λ (k : ℕ). record { processed = count_in s l done; issued = count_issued s l issued; settled = k }) (sym (count_issued_push s l settled x))

  pub processed_more : (e : Event) → length done < most_count → IsCountedAs old e.switch e.life (one_processed (counts_of old e.switch e.life)) new → AreCounts (done ++ e ∷ []) issued settled new
  processed_more e low counted s l =
      let few = count_by-le-length (λ (y : Event). nat_eq y.switch s && nat_eq y.life l) done in
      let turned : (nat_eq e.switch s && nat_eq e.life l) ≡ (nat_eq s e.switch && nat_eq l e.life) = rw (eqb_comm e.switch s, eqb_comm e.life l) refl in
      let grown : count_in s l (done ++ e ∷ []) ≡ count_in s l done + (if nat_eq s e.switch && nat_eq l e.life then 1 else 0) =
      count_in-append s l done e ∙ ap (λ (b : Bool). count_in s l done + (if b then 1 else 0)) turned in
      counted s l
      ∙ at_processed (nat_eq s e.switch && nat_eq l e.life) (counts_of old e.switch e.life) (counts_of old s l) (count_in s l done) (count_issued s l issued) (count_issued s l settled)
      (same_counts old s l e.switch e.life) (are s l) (omega (arith, low, few))
      ∙ ap (λ (k : ℕ). record { processed = k; issued = count_issued s l issued; settled = count_issued s l settled }) (sym grown)

-- while commands are issued one after another: what was issued, and what is still to be
pub record Issuing (start now : Ledger) (commands rest : List Command) (given : List Issued) : Type 0 where
  pub same : now ≡ record start { counts = now.counts }
  pub long : length given + length rest ≡ length commands
  pub each : (events done : List Event) (before settled : List Issued) → AreLives events start.lives → AreCounts done before settled start.counts → length before + length commands < 2 ^ 64 →
      (issue_each events before commands ≡ given ++ issue_each events (before ++ given) rest) × AreCounts done (before ++ given) settled now.counts

-- the one that is issued next
pub record IsNext (old : Ledger) (c : Command) (x : Issued) (new : Ledger) : Type 0 where
  pub given : x ≡ record { switch = c.switch; life = get_or old.lives c.switch 0; number = (counts_of old.counts c.switch (get_or old.lives c.switch 0)).issued; order = c.order }
  pub counted : IsCountedAs old.counts x.switch x.life (one_issued (counts_of old.counts x.switch x.life)) new.counts
  pub same : new ≡ record old { counts = new.counts }

pub issuing_goes_on : (start now new : Ledger) (commands rest : List Command) (c : Command) (given : List Issued) (x : Issued) →
    Issuing start now commands (c ∷ rest) given → IsNext now c x new → Issuing start new commands rest (given ++ x ∷ [])
issuing_goes_on start now new commands rest c given x so next =
    record {
      same = next.same ∙ ap (λ (l : Ledger). record l { counts = new.counts }) so.same;
      long = let h = so.long in let g = length-append given (x ∷ []) in omega (arith, h, g);
      each = λ events done before settled lives counts short.
          let r = so.each events done before settled lives counts short in
          let life : get_or now.lives c.switch 0 ≡ life_in c.switch events = ap (λ (l : Ledger). get_or l.lives c.switch 0) so.same ∙ lives c.switch in
          let number : (counts_of now.counts c.switch (life_in c.switch events)).issued ≡ count_issued c.switch (life_in c.switch events) (before ++ given) = ap (λ (k : Counts). k.issued) (r.1 c.switch (life_in c.switch events)) in
          let is : issue events (before ++ given) c ≡ x =
          ap (λ (n : ℕ). record { switch = c.switch; life = life_in c.switch events; number = n; order = c.order }) (sym number)
          ∙ ap (λ (l : ℕ). record { switch = c.switch; life = l; number = (counts_of now.counts c.switch l).issued; order = c.order }) (sym life)
          ∙ sym next.given in
          let low : length (before ++ given) < most_count = let h = so.long in let g = length-append before given in omega (arith, h, g, short) in
          let more = issued_more done (before ++ given) settled now.counts new.counts r.1 x low next.counted in (
            r.0
                ∙ ap (λ (z : Issued). given ++ z ∷ issue_each events ((before ++ given) ++ z ∷ []) rest) is
                ∙ sym (append_assoc given (x ∷ []) (issue_each events ((before ++ given) ++ x ∷ []) rest))
                ∙ ap (λ (b : List Issued). (given ++ x ∷ []) ++ issue_each events b rest) (append_assoc before given (x ∷ [])),
            subst (λ (b : List Issued). AreCounts done b settled new.counts) (append_assoc before given (x ∷ [])) more,
          );
    }

-- while commands are settled one after another
pub record Settling (start now : Ledger) (commands : List Issued) (i : ℕ) : Type 0 where
  pub same : now ≡ record start { counts = now.counts }
  pub each : (done : List Event) (issued settled : List Issued) → AreCounts done issued settled start.counts → length settled + length commands < 2 ^ 64 → AreCounts done issued (settled ++ take i commands) now.counts

pub settling_starts : (start : Ledger) (commands : List Issued) → Settling start start commands 0
settling_starts start commands =
    record { same = refl; each = λ done issued settled counts short. subst (λ (b : List Issued). AreCounts done issued b start.counts) (sym (append-nil settled)) counts }

pub settling_goes_on : (start now new : Ledger) (commands : List Issued) (i : ℕ) (x : Issued) → i < length commands → x ≡ get_or commands i x →
    Settling start now commands i → IsCountedAs now.counts x.switch x.life (one_settled (counts_of now.counts x.switch x.life)) new.counts → new ≡ record now { counts = new.counts } → Settling start new commands (i + 1)
settling_goes_on start now new commands i x lt at so counted same =
    record {
      same = same ∙ ap (λ (l : Ledger). record l { counts = new.counts }) so.same;
      each = λ done issued settled counts short.
          let grown : take (i + 1) commands ≡ take i commands ++ x ∷ [] = take_more commands i x lt ∙ ap (λ (y : Issued). take i commands ++ y ∷ []) (sym at) in
          let low : length (settled ++ take i commands) < most_count = let g = length-append settled (take i commands) in let h = length-append (take i commands) (drop i commands) in let k = ap (λ (l : List Issued). length l) (take-append-drop i commands) in
          let d : length (take i commands) < length commands = taken commands i lt in omega (arith, g, short, d) in
          let more = settled_more done issued (settled ++ take i commands) now.counts new.counts (so.each done issued settled counts short) x low counted in
          subst (λ (b : List Issued). AreCounts done issued b new.counts) (append_assoc settled (take i commands) (x ∷ []) ∙ ap (λ (l : List Issued). settled ++ l) (sym grown)) more;
    }
  where
    taken : (xs : List Issued) (i : ℕ) → i < length xs → length (take i xs) < length xs
    taken [] i lt = absurd (omega (arith, lt))
    taken (y ∷ xs) zero lt = omega arith
    taken (y ∷ xs) (suc i) lt = let h = taken xs i (omega (arith, lt)) in omega (arith, h)

module _ (kinds : List ℕ) (setup : Setup) where
  -- the ledger of the empty log
  pub none_is : (ledger : Ledger) → ledger.lives ≡ replicate 256 0 → ledger.counts ≡ [] → ledger.pending.items ≡ [] → ledger.processed ≡ 0 → ledger.unsettled ≡ 0 → IsLedgerOfLog kinds setup [] ledger
  unfolding issues reactions
  none_is ledger lives counts pending done none =
      record {
        lives = λ s. ap (λ (l : List ℕ). get_or l s 0) lives ∙ first s;
        counts = λ s l. ap (λ (z : Counted). counts_of z s l) counts;
        pending = pending;
        processed_is = done;
        unsettled_are = none;
        ordered = omega arith;
        few = omega arith;
      }
    where
      zeros : List ℕ
      zeros = replicate 256 0

      first : (s : ℕ) → get_or zeros s 0 ≡ 0
      first s = elim (cases_lt s 256) [ inl lt ↦ get_or-replicate 256 s 0 0 lt | inr past ↦ get_or_past zeros s 0 past ]

  pub handled_push : (es : List Event) (is : List (List Issued)) (e : Event) (given : List Issued) → length is ≡ length es →
      handled_of (es ++ e ∷ []) (is ++ given ∷ []) ≡ handled_of es is ++ record { switch = e.switch; life = e.life; commands = given } ∷ []
  handled_push [] [] e given h = refl
  handled_push [] (i ∷ is) e given h = absurd (omega (arith, h))
  handled_push (d ∷ es) [] e given h = absurd (omega (arith, h))
  handled_push (d ∷ es) (i ∷ is) e given h = ap (λ (z : List HandledEvent). record { switch = d.switch; life = d.life; commands = i } ∷ z) (handled_push es is e given (omega (arith, h)))

  pub length-handled_of : (es : List Event) (is : List (List Issued)) → length is ≡ length es → length (handled_of es is) ≡ length es
  length-handled_of [] [] h = refl
  length-handled_of [] (i ∷ is) h = absurd (omega (arith, h))
  length-handled_of (d ∷ es) [] h = absurd (omega (arith, h))
  length-handled_of (d ∷ es) (i ∷ is) h = ap suc (length-handled_of es is (omega (arith, h)))

  length-issue_each : (events : List Event) (before : List Issued) (commands : List Command) → length (issue_each events before commands) ≡ length commands
  length-issue_each events before [] = refl
  length-issue_each events before (c ∷ commands) = ap suc (length-issue_each events (before ++ issue events before c ∷ []) commands)

  concat_behind : (n : ℕ) (xs : List (List Issued)) → length (concat (drop n xs)) ≤ length (concat xs)
  concat_behind zero xs = omega arith
  concat_behind (suc n) [] = omega arith
  concat_behind (suc n) (x ∷ xs) = let h = concat_behind n xs in let a = length-append x (concat xs) in omega (arith, h, a)

  -- one event more is received
  pub one_received : (es : List Event) (done : ℕ) (e : Event) (old new : Ledger) (commands : List Command) (given : List Issued) → IsLedgerOf kinds setup es done old →
      commands ≡ (chain_next kinds setup (chain_after kinds setup (starting_chain kinds) es) e).commands → length commands ≤ most_commands →
      ((s : ℕ) → get_or new.lives s 0 ≡ (if nat_eq s e.switch then e.life else get_or old.lives s 0)) →
      given ≡ issue_each (es ++ e ∷ []) (concat (issues kinds setup es)) commands →
      AreCounts (take done es) (concat (issues kinds setup es) ++ given) (concat (take done (issues kinds setup es))) new.counts →
      new.pending.items ≡ old.pending.items ++ record { switch = e.switch; life = e.life; commands = given } ∷ [] → new.processed ≡ old.processed →
      length es ≤ 4096 → new.unsettled ≡ min (old.unsettled + length given) most_count → IsLedgerOf kinds setup (es ++ e ∷ []) done new
  one_received es done e old new commands given kept reacts small lives is counts pending same short count =
      let all = issues kinds setup es in
      let long : length all ≡ length es = length-issues kinds setup es in
      let grown : issues kinds setup (es ++ e ∷ []) ≡ all ++ given ∷ [] =
      issues_push kinds setup es e ∙ ap (λ (c : List Command). all ++ issue_each (es ++ e ∷ []) (concat all) c ∷ []) (sym reacts) ∙ ap (λ (g : List Issued). all ++ g ∷ []) (sym is) in
      let ordered = kept.ordered in
      let front : take done (all ++ given ∷ []) ≡ take done all = take-append-le done all (given ∷ []) (omega (arith, ordered, long)) in
      let events : take done (es ++ e ∷ []) ≡ take done es = take-append-le done es (e ∷ []) ordered in
      let joined : concat (all ++ given ∷ []) ≡ concat all ++ given = concat_push all given in
      let size : length given ≡ length commands = ap (λ (l : List Issued). length l) is ∙ length-issue_each (es ++ e ∷ []) (concat all) commands in
      let hs : length (handled_of es all) ≡ length es = length-handled_of es all long in
      record {
        lives = λ s. lives s ∙ choice s (nat_eq s e.switch) (nat_eq e.switch s) (eqb_comm s e.switch) (kept.lives s) ∙ sym (life_in-append s es e);
        counts = subst (λ (z : List (List Issued)). AreCounts (take done (es ++ e ∷ [])) (concat z) (concat (take done z)) new.counts) (sym grown)
            (subst (λ (z : List Event). AreCounts z (concat (all ++ given ∷ [])) (concat (take done (all ++ given ∷ []))) new.counts) (sym events)
            (subst (λ (z : List Issued). AreCounts (take done es) z (concat (take done (all ++ given ∷ []))) new.counts) (sym joined)
            (subst (λ (z : List (List Issued)). AreCounts (take done es) (concat all ++ given) (concat z) new.counts) (sym front) counts)));
        pending = pending ∙ ap (λ (l : List HandledEvent). l ++ record { switch = e.switch; life = e.life; commands = given } ∷ []) kept.pending
            ∙ sym (drop-append-le done (handled_of es all) (record { switch = e.switch; life = e.life; commands = given } ∷ []) (omega (arith, ordered, hs)))
            ∙ ap (λ (l : List HandledEvent). drop done l) (sym (handled_push es all e given long))
            ∙ ap (λ (z : List (List Issued)). drop done (handled_of (es ++ e ∷ []) z)) (sym grown);
        processed_is = same ∙ kept.processed_is;
        unsettled_are = let a = kept.unsettled_are in let b = concat_behind done all in let few = kept.few in let c = length-append (concat (drop done all)) given in
            let behind : drop done (all ++ given ∷ []) ≡ drop done all ++ given ∷ [] = drop-append-le done all (given ∷ []) (omega (arith, ordered, long)) in
            let d : length (concat (drop done (issues kinds setup (es ++ e ∷ [])))) ≡ length (concat (drop done all) ++ given) =
            ap (λ (z : List (List Issued)). length (concat (drop done z))) grown ∙ ap (λ (z : List (List Issued)). length (concat z)) behind ∙ ap (λ (l : List Issued). length l) (concat_push (drop done all) given) in
            count ∙ min-eq_left (omega (arith, a, b, few, size, small, short)) ∙ omega (arith, a, c, d);
        ordered = let l = length-append es (e ∷ []) in omega (arith, ordered, l);
        few = let a = ap (λ (z : List (List Issued)). length (concat z)) grown in let b = ap (λ (l : List Issued). length l) joined in let c = length-append (concat all) given in let d = length-append es (e ∷ []) in
            let few = kept.few in omega (arith, a, b, c, d, few, size, small);
      }
    where
      choice : (s : ℕ) (a b : Bool) → a ≡ b → get_or old.lives s 0 ≡ life_in s es → (if a then e.life else get_or old.lives s 0) ≡ (if b then e.life else life_in s es)
      choice s true true e h = refl
      choice s true false e h = absurd cc e
      choice s false true e h = absurd cc e
      choice s false false e h = h

  drop_front : {A : Type 0} (n : ℕ) (xs : List A) (x : A) (rest : List A) → drop n xs ≡ x ∷ rest → (slice_get xs n ≡ Some x) × (drop (n + 1) xs ≡ rest)
  drop_front n [] x rest h = absurd cc (drop-nil n, h)
  drop_front zero (y ∷ xs) x rest h = (ap (λ l. slice_get l 0) h, ap (λ l. drop 1 l) h)
  drop_front (suc n) (y ∷ xs) x rest h =
      let r = drop_front n xs x rest h in
      let e : suc n + 1 ≡ suc (n + 1) = omega arith in
      (r.0, ap (λ (k : ℕ). drop k (y ∷ xs)) e ∙ r.1)

  take_at : {A : Type 0} (n : ℕ) (xs : List A) (x : A) → slice_get xs n ≡ Some x → take (n + 1) xs ≡ take n xs ++ x ∷ []
  take_at n xs x h = take_more xs n x (slice_get_within xs n x h) ∙ ap (λ y. take n xs ++ y ∷ []) (get_or_from_slice_get xs n x x h)

  pub drop_there : {A : Type 0} (n : ℕ) (xs : List A) (x : A) → slice_get xs n ≡ Some x → drop n xs ≡ x ∷ drop (n + 1) xs
  drop_there n [] x h = absurd cc h
  drop_there zero (y ∷ xs) x h = let e : y ≡ x = cc h in ap (λ z. z ∷ xs) e
  drop_there (suc n) (y ∷ xs) x h =
      let e : suc n + 1 ≡ suc (n + 1) = omega arith in
      drop_there n xs x h ∙ ap (λ (k : ℕ). x ∷ drop k (y ∷ xs)) (sym e)

  -- an event beside what is issued for it
  pub record IsHandled (es : List Event) (is : List (List Issued)) (n : ℕ) (h : HandledEvent) : Type 0 where
    pub event : Event
    pub stands : slice_get es n ≡ Some event
    pub commands : slice_get is n ≡ Some h.commands
    pub switch_is : event.switch ≡ h.switch
    pub life_is : event.life ≡ h.life

  pub is_handled : (es : List Event) (is : List (List Issued)) (n : ℕ) (h : HandledEvent) → slice_get (handled_of es is) n ≡ Some h → IsHandled es is n h
  is_handled [] is n h e = absurd cc e
  is_handled (d ∷ es) [] n h e = absurd cc e
  is_handled (d ∷ es) (i ∷ is) zero h e =
      let s : record { switch = d.switch; life = d.life; commands = i } ≡ h = cc e in
      record { event = d; stands = refl; commands = ap (λ (x : HandledEvent). Some x.commands) s; switch_is = ap (λ (x : HandledEvent). x.switch) s; life_is = ap (λ (x : HandledEvent). x.life) s }
  is_handled (d ∷ es) (i ∷ is) (suc n) h e = let r = is_handled es is n h e in record { event = r.event; stands = r.stands; commands = r.commands; switch_is = r.switch_is; life_is = r.life_is }

  concat_front : (n : ℕ) (xs : List (List Issued)) → length (concat (take n xs)) ≤ length (concat xs)
  concat_front zero xs = omega arith
  concat_front (suc n) [] = omega arith
  concat_front (suc n) (x ∷ xs) = let h = concat_front n xs in let a = length-append x (concat (take n xs)) in let b = length-append x (concat xs) in omega (arith, h, a, b)

  -- the first event that is not processed is processed: it was counted, and then its commands were settled
  pub one_done : (es : List Event) (done : ℕ) (h : HandledEvent) (rest : List HandledEvent) (old new : Ledger) (counted : Counted) → IsLedgerOf kinds setup es done old → length es ≤ 4096 →
      old.pending.items ≡ h ∷ rest → IsCountedAs old.counts h.switch h.life (one_processed (counts_of old.counts h.switch h.life)) counted →
      ((events : List Event) (issued settled : List Issued) → AreCounts events issued settled counted → length settled + length h.commands < 2 ^ 64 → AreCounts events issued (settled ++ h.commands) new.counts) →
      new.pending.items ≡ rest → new.processed ≡ min (old.processed + 1) most_count → new.lives ≡ old.lives → new.unsettled ≡ old.unsettled - length h.commands →
      (slice_get (handled_of es (issues kinds setup es)) done ≡ Some h) × IsLedgerOf kinds setup es (done + 1) new
  one_done es done h rest old new counted kept short front here settles left count lives fewer =
      let all = issues kinds setup es in
      let at = drop_front done (handled_of es all) h rest (sym kept.pending ∙ front) in
      let r = is_handled es all done h at.0 in
      let low : length (take done es) < most_count = let g = length-take done es in omega (arith, g, short) in
      let there : done < length es = slice_get_within es done r.event r.stands in
      let grown : take (done + 1) es ≡ take done es ++ r.event ∷ [] = take_at done es r.event r.stands in
      let more : take (done + 1) all ≡ take done all ++ h.commands ∷ [] = take_at done all h.commands r.commands in
      let joined : concat (take (done + 1) all) ≡ concat (take done all) ++ h.commands = ap (λ (z : List (List Issued)). concat z) more ∙ concat_push (take done all) h.commands in
      let here' : IsCountedAs old.counts r.event.switch r.event.life (one_processed (counts_of old.counts r.event.switch r.event.life)) counted =
      subst (λ (s : ℕ). IsCountedAs old.counts s r.event.life (one_processed (counts_of old.counts s r.event.life)) counted) (sym r.switch_is)
      (subst (λ (l : ℕ). IsCountedAs old.counts h.switch l (one_processed (counts_of old.counts h.switch l)) counted) (sym r.life_is) here) in
      let first = processed_more (take done es) (concat all) (concat (take done all)) old.counts counted kept.counts r.event low here' in
      let size : length (concat (take done all)) + length h.commands < 2 ^ 64 =
      let a = concat_front (done + 1) all in let b = ap (λ (l : List Issued). length l) joined in let c = length-append (concat (take done all)) h.commands in let few = kept.few in omega (arith, a, b, c, few, short) in
      let then' = settles (take done es ++ r.event ∷ []) (concat all) (concat (take done all)) first size in (
        at.0,
        record {
          lives = λ s. ap (λ (l : List ℕ). get_or l s 0) lives ∙ kept.lives s;
          counts = subst (λ (z : List Event). AreCounts z (concat all) (concat (take (done + 1) all)) new.counts) (sym grown)
              (subst (λ (z : List Issued). AreCounts (take done es ++ r.event ∷ []) (concat all) z new.counts) (sym joined) then');
          pending = left ∙ sym at.1;
          processed_is = count ∙ ap (λ (n : ℕ). min (n + 1) most_count) kept.processed_is ∙ min-eq_left (omega (arith, there, short));
          unsettled_are = let a = kept.unsettled_are in let b = ap (λ (z : List (List Issued)). length (concat z)) (drop_there done all h.commands r.commands) in
              let c = length-append h.commands (concat (drop (done + 1) all)) in omega (arith, fewer, a, b, c);
          ordered = omega (arith, there);
          few = kept.few;
        },
      )

  -- where none is pending, each event is processed
  pub none_pending : (es : List Event) (done : ℕ) (ledger : Ledger) → IsLedgerOf kinds setup es done ledger → ledger.pending.items ≡ [] → done < length es → ⊥
  none_pending es done ledger kept none there =
      let all = issues kinds setup es in
      let hs : length (handled_of es all) ≡ length es = length-handled_of es all (length-issues kinds setup es) in
      let d = length-drop done (handled_of es all) in
      let z : length (drop done (handled_of es all)) ≡ 0 = ap (λ (l : List HandledEvent). length l) (sym kept.pending ∙ none) in
      omega (arith, hs, d, z, there)

  -- a log grows by an event
  pub received_is : (log : List Entry) (e : Event) (old middle new : Ledger) (commands : List Command) (given : List Issued) → IsLedgerOfLog kinds setup log old → fits log (Received e) ≡ true →
      commands ≡ (chain_next kinds setup (chain_after kinds setup (starting_chain kinds) (received log)) e).commands → length commands ≤ most_commands →
      ((s : ℕ) → get_or middle.lives s 0 ≡ (if nat_eq s e.switch then e.life else get_or old.lives s 0)) → middle.counts ≡ old.counts →
      ((events done : List Event) (before settled : List Issued) → AreLives events middle.lives → AreCounts done before settled middle.counts → length before + length commands < 2 ^ 64 →
      (given ≡ issue_each events before commands) × AreCounts done (before ++ given) settled new.counts) →
      new.lives ≡ middle.lives → new.pending.items ≡ old.pending.items ++ record { switch = e.switch; life = e.life; commands = given } ∷ [] → new.processed ≡ old.processed →
      new.unsettled ≡ min (old.unsettled + length given) most_count → IsLedgerOfLog kinds setup (log ++ Received e ∷ []) new
  received_is log e old middle new commands given kept fit reacts small lives same each lived pending count more =
      let es = received log in
      let f = fits_is log (Received e) fit in
      let short = f.short in
      let l = length_is log in
      let few = kept.few in
      let living : AreLives (es ++ e ∷ []) middle.lives = λ s. lives s ∙ turned s (nat_eq s e.switch) (nat_eq e.switch s) (eqb_comm s e.switch) (kept.lives s) ∙ sym (life_in-append s es e) in
      let r = each (es ++ e ∷ []) (take (processed log) es) (concat (issues kinds setup es)) (concat (take (processed log) (issues kinds setup es))) living
      (subst (λ (z : Counted). AreCounts (take (processed log) es) (concat (issues kinds setup es)) (concat (take (processed log) (issues kinds setup es))) z) (sym same) kept.counts) (omega (arith, short, l, few, small)) in
      let events : received (log ++ Received e ∷ []) ≡ es ++ e ∷ [] = received-append log (Received e ∷ []) in
      let done : processed (log ++ Received e ∷ []) ≡ processed log = processed_push log (Received e) ∙ none (processed log) in
      let made = one_received es (processed log) e old new commands given kept reacts small (λ s. ap (λ (z : List ℕ). get_or z s 0) lived ∙ lives s) r.0 r.1 pending count (omega (arith, short, l)) more in
      subst (λ (z : List Event). IsLedgerOf kinds setup z (processed (log ++ Received e ∷ [])) new) (sym events) (subst (λ (n : ℕ). IsLedgerOf kinds setup (es ++ e ∷ []) n new) (sym done) made)
    where
      none : (n : ℕ) → n + 0 ≡ n
      none n = omega arith

      turned : (s : ℕ) (a b : Bool) → a ≡ b → get_or old.lives s 0 ≡ life_in s (received log) → (if a then e.life else get_or old.lives s 0) ≡ (if b then e.life else life_in s (received log))
      turned s true true h k = refl
      turned s true false h k = absurd cc h
      turned s false true h k = absurd cc h
      turned s false false h k = k

  -- a log grows by an entry that has an event as processed
  record IsNextDone (log : List Entry) (j : ℕ) : Type 0 where
    pub short : length (received log) ≤ 4096
    pub place : j ≡ processed log
    pub there : processed log < length (received log)

  next_done : (log : List Entry) (j : ℕ) → fits log (Processed j) ≡ true → IsNextDone log j
  next_done log j fit =
      let f = fits_is log (Processed j) fit in
      let p = and_parts (nat_eq j (processed log)) (nat_lt j (length (received log))) f.may in
      let e : j ≡ processed log = eqb-true j (processed log) p.0 in
      let lt = ltb-true j (length (received log)) p.1 in
      let short = f.short in
      let l = length_is log in
      record { short = omega (arith, short, l); place = e; there = omega (arith, lt, e) }

  pub stays_pending : (log : List Entry) (j : ℕ) (ledger : Ledger) → IsLedgerOfLog kinds setup log ledger → fits log (Processed j) ≡ true → ledger.pending.items ≡ [] → ⊥
  stays_pending log j ledger kept fit none = none_pending (received log) (processed log) ledger kept none (next_done log j fit).there

  pub processed_is : (log : List Entry) (j : ℕ) (h : HandledEvent) (rest : List HandledEvent) (old new : Ledger) (counted : Counted) → IsLedgerOfLog kinds setup log old → fits log (Processed j) ≡ true →
      old.pending.items ≡ h ∷ rest → IsCountedAs old.counts h.switch h.life (one_processed (counts_of old.counts h.switch h.life)) counted →
      ((events : List Event) (issued settled : List Issued) → AreCounts events issued settled counted → length settled + length h.commands < 2 ^ 64 → AreCounts events issued (settled ++ h.commands) new.counts) →
      new.pending.items ≡ rest → new.processed ≡ min (old.processed + 1) most_count → new.lives ≡ old.lives → new.unsettled ≡ old.unsettled - length h.commands →
      (Some h ≡ handled_by kinds setup log (Processed j)) × IsLedgerOfLog kinds setup (log ++ Processed j ∷ []) new
  processed_is log j h rest old new counted kept fit front here settles left count lives fewer =
      let n = next_done log j fit in
      let r = one_done (received log) (processed log) h rest old new counted kept n.short front here settles left count lives fewer in
      let events : received (log ++ Processed j ∷ []) ≡ received log = received-append log (Processed j ∷ []) ∙ append-nil (received log) in
      let done : processed (log ++ Processed j ∷ []) ≡ processed log + 1 = processed_push log (Processed j) in (
        sym (ap (λ (k : ℕ). slice_get (handled_of (received log) (issues kinds setup (received log))) k) n.place ∙ r.0),
        subst (λ (z : List Event). IsLedgerOf kinds setup z (processed (log ++ Processed j ∷ [])) new) (sym events) (subst (λ (k : ℕ). IsLedgerOf kinds setup (received log) k new) (sym done) r.1),
      )

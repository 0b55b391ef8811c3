-- Entries that are committed together: what they have as processed.
use Rattle.std.proofs.Common.{◌≡◌, ◌<◌, ℕ, zero, suc, ◌+◌, true, List, [], ◌∷◌, ◌++◌, length, map, take, refl, sym, ap, subst, ◌∙◌, arith, append-nil, append_assoc}
use Rattle.std.specs.Prelude.{nat_eq, nat_lt, Option, Some, None, slice_get}
use Rattle.std.proofs.lemmas.Bool.{ltb-true, and_parts}
use Rattle.std.proofs.lemmas.List.{map-append}
use Rattle.of_types.specs.declared.message.Event.{Event}
use Rattle.of_types.specs.declared.setup.Setup.{Setup}
use Rattle.vr_log.specs.declared.entry.Entry.{Entry}
use Rattle.vr_log.specs.declared.entry.Entry.TheVariants.{Received, Processed}
use Rattle.vr_log.specs.Log.{fits, follows, received, processed}
use Rattle.vr_log.proofs.Logs.{fits_is, follows-append, follows_one, follows_take, received-append}
use Rattle.app_core.specs.declared.issued.Issued.{Issued}
use Rattle.app_core.specs.Chain.{concat, chain_after, chain_next, starting_chain}
use Rattle.app_core.specs.Issued.{issues, issue_each}
use Rattle.app_core.proofs.Issuing.{issues_push, length-issues}
use Rattle.dispatcher.specs.declared.answers.HandledEvent.{HandledEvent}
use Rattle.dispatcher.specs.Folding.{places_processed}
use Rattle.dispatcher.specs.Ledger.{AreHandledAt, handled_at, handled_by, handled_of}
use Rattle.dispatcher.proofs.Ledgers.{handled_push, length-handled_of}

places-append : (xs ys : List Entry) → places_processed (xs ++ ys) ≡ places_processed xs ++ places_processed ys
places-append [] ys = refl
places-append (Received e ∷ xs) ys = places-append xs ys
places-append (Processed j ∷ xs) ys = ap (λ (l : List ℕ). j ∷ l) (places-append xs ys)

get_left : {A : Type 0} (xs ys : List A) (n : ℕ) (x : A) → slice_get xs n ≡ Some x → slice_get (xs ++ ys) n ≡ Some x
get_left [] ys n x h = absurd cc h
get_left (y ∷ xs) ys zero x h = h
get_left (y ∷ xs) ys (suc n) x h = get_left xs ys n x h

get_within : {A : Type 0} (xs : List A) (n : ℕ) → n < length xs → slice_get xs n ≡ None → ⊥
get_within [] n h none = absurd (omega (arith, h))
get_within (y ∷ xs) zero h none = cc
get_within (y ∷ xs) (suc n) h none = get_within xs n (omega (arith, h)) none

module _ (kinds : List ℕ) (setup : Setup) where
  abbrev beside : List Event → List HandledEvent
  beside es = handled_of es (issues kinds setup es)

  -- what was handled at a place stays so as the log grows
  pub stays_at : (log : List Entry) (entry : Entry) (j : ℕ) (h : HandledEvent) → handled_at kinds setup log j ≡ Some h → handled_at kinds setup (log ++ entry ∷ []) j ≡ Some h
  stays_at log (Received e) j h at =
      let es = received log in
      let given = issue_each (es ++ e ∷ []) (concat (issues kinds setup es)) (chain_next kinds setup (chain_after kinds setup (starting_chain kinds) es) e).commands in
      let grown : beside (es ++ e ∷ []) ≡ beside es ++ record { switch = e.switch; life = e.life; commands = given } ∷ [] =
      ap (λ (l : List (List Issued)). handled_of (es ++ e ∷ []) l) (issues_push kinds setup es e) ∙ handled_push kinds setup es (issues kinds setup es) e given (length-issues kinds setup es) in
      ap (λ (l : List Event). slice_get (beside l) j) (received-append log (Received e ∷ [])) ∙ ap (λ (l : List HandledEvent). slice_get l j) grown
      ∙ get_left (beside es) (record { switch = e.switch; life = e.life; commands = given } ∷ []) j h at
  stays_at log (Processed i) j h at = ap (λ (l : List Event). slice_get (beside l) j) (received-append log (Processed i ∷ []) ∙ append-nil (received log)) ∙ at

  all_stay : (log : List Entry) (entry : Entry) (places : List ℕ) (list : List HandledEvent) → AreHandledAt kinds setup log places list → AreHandledAt kinds setup (log ++ entry ∷ []) places list
  all_stay log entry [] [] h = refl
  all_stay log entry [] (x ∷ list) h = absurd cc h
  all_stay log entry (j ∷ places) [] h = absurd cc h
  all_stay log entry (j ∷ places) (x ∷ list) h =
      let first : handled_at kinds setup log j ≡ Some x = cc in
      let rest : map (handled_at kinds setup log) places ≡ map Some list = cc in
      let a = stays_at log entry j x first in
      let b = all_stay log entry places list rest in
      ap (λ (o : Option HandledEvent). o ∷ map (handled_at kinds setup (log ++ entry ∷ [])) places) a ∙ ap (λ (l : List (Option HandledEvent)). Some x ∷ l) b

  -- an event that fits as processed is there
  pub is_there : (log : List Entry) (j : ℕ) → fits log (Processed j) ≡ true → handled_at kinds setup log j ≡ None → ⊥
  is_there log j fit none =
      let may = (and_parts (nat_eq j (processed log)) (nat_lt j (length (received log))) (fits_is log (Processed j) fit).may).1 in
      let low = ltb-true j (length (received log)) may in
      let long = length-handled_of kinds setup (received log) (issues kinds setup (received log)) (length-issues kinds setup (received log)) in
      get_within (beside (received log)) j (omega (arith, low, long)) none

  with_none : (log : List Entry) (e : Entry) (places : List ℕ) (list : List HandledEvent) → fits log e ≡ true → None ≡ handled_by kinds setup log e → AreHandledAt kinds setup log places list →
      AreHandledAt kinds setup (log ++ e ∷ []) (places ++ places_processed (e ∷ [])) list
  with_none log (Received e) places list fit none h = subst (λ (l : List ℕ). AreHandledAt kinds setup (log ++ Received e ∷ []) l list) (sym (append-nil places)) (all_stay log (Received e) places list h)
  with_none log (Processed j) places list fit none h = absurd (is_there log j fit (sym none))

  with_some : (log : List Entry) (e : Entry) (x : HandledEvent) (places : List ℕ) (list : List HandledEvent) → Some x ≡ handled_by kinds setup log e → AreHandledAt kinds setup log places list →
      AreHandledAt kinds setup (log ++ e ∷ []) (places ++ places_processed (e ∷ [])) (list ++ x ∷ [])
  with_some log (Received e) x places list some h = absurd cc some
  with_some log (Processed j) x places list some h =
      let log' = log ++ Processed j ∷ [] in
      map-append (handled_at kinds setup log') places (j ∷ [])
      ∙ ap (λ (l : List (Option HandledEvent)). l ++ handled_at kinds setup log' j ∷ []) (all_stay log (Processed j) places list h)
      ∙ ap (λ (o : Option HandledEvent). map Some list ++ o ∷ []) (stays_at log (Processed j) j x (sym some))
      ∙ sym (map-append Some list (x ∷ []))

  -- the entries up to a place, and the one that stands there
  pub fits_at : (log entries : List Entry) (i : ℕ) (e : Entry) → follows log entries ≡ true → take (i + 1) entries ≡ take i entries ++ e ∷ [] → fits (log ++ take i entries) e ≡ true
  fits_at log entries i e h more =
      let front = follows_take (i + 1) log entries h in
      let both = and_parts (follows log (take i entries)) (follows (log ++ take i entries) (e ∷ [])) (sym (follows-append log (take i entries) (e ∷ [])) ∙ ap (λ (l : List Entry). follows log l) (sym more) ∙ front) in
      sym (follows_one (log ++ take i entries) e) ∙ both.1

  pub goes_on_none : (log entries : List Entry) (i : ℕ) (e : Entry) (list : List HandledEvent) → follows log entries ≡ true → take (i + 1) entries ≡ take i entries ++ e ∷ [] →
      None ≡ handled_by kinds setup (log ++ take i entries) e → AreHandledAt kinds setup (log ++ take i entries) (places_processed (take i entries)) list →
      AreHandledAt kinds setup (log ++ take (i + 1) entries) (places_processed (take (i + 1) entries)) list
  goes_on_none log entries i e list h more none at =
      subst (λ (l : List Entry). AreHandledAt kinds setup (log ++ l) (places_processed l) list) (sym more)
      (subst (λ (l : List Entry). AreHandledAt kinds setup l (places_processed (take i entries ++ e ∷ [])) list) (append_assoc log (take i entries) (e ∷ []))
      (subst (λ (p : List ℕ). AreHandledAt kinds setup ((log ++ take i entries) ++ e ∷ []) p list) (sym (places-append (take i entries) (e ∷ [])))
      (with_none (log ++ take i entries) e (places_processed (take i entries)) list (fits_at log entries i e h more) none at)))

  pub goes_on_some : (log entries : List Entry) (i : ℕ) (e : Entry) (x : HandledEvent) (list : List HandledEvent) → take (i + 1) entries ≡ take i entries ++ e ∷ [] →
      Some x ≡ handled_by kinds setup (log ++ take i entries) e → AreHandledAt kinds setup (log ++ take i entries) (places_processed (take i entries)) list →
      AreHandledAt kinds setup (log ++ take (i + 1) entries) (places_processed (take (i + 1) entries)) (list ++ x ∷ [])
  goes_on_some log entries i e x list more some at =
      subst (λ (l : List Entry). AreHandledAt kinds setup (log ++ l) (places_processed l) (list ++ x ∷ [])) (sym more)
      (subst (λ (l : List Entry). AreHandledAt kinds setup l (places_processed (take i entries ++ e ∷ [])) (list ++ x ∷ [])) (append_assoc log (take i entries) (e ∷ []))
      (subst (λ (p : List ℕ). AreHandledAt kinds setup ((log ++ take i entries) ++ e ∷ []) p (list ++ x ∷ [])) (sym (places-append (take i entries) (e ∷ [])))
      (with_some (log ++ take i entries) e x (places_processed (take i entries)) list some at)))

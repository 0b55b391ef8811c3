-- What is kept of a committed log answers as the log does.
use Rattle.std.proofs.Common.{inl, inr, ◌≡◌, ◌≤◌, ℕ, zero, suc, ◌+◌, Bool, true, false, not, ◌&&◌, ◌||◌, List, [], ◌∷◌, ◌++◌, length, drop, map, filter, get_or, refl, sym, ap, subst, ◌∙◌, arith, append-nil}
use Rattle.std.specs.Prelude.{nat_eq, nat_le, nat_lt, slice_index_or, if◌then◌else◌}
use Rattle.std.specs.List.{list_any, range_with_len}
use Rattle.std.proofs.Math.Dec.{eqb-suc-zero}
use Rattle.std.proofs.Math.Seq.{drop-nil}
use Rattle.std.proofs.lemmas.Bool.{cases_lt, lt-ltb, le-ltb}
use Rattle.std.proofs.lemmas.List.{length-drop}
use Rattle.of_types.specs.declared.message.Event.{Event}
use Rattle.of_types.specs.declared.setup.Setup.{Setup}
use Rattle.of_types.specs.Lives.{life_in, has_ended}
use Rattle.vr_log.specs.declared.entry.Entry.{Entry}
use Rattle.vr_log.specs.Log.{received, processed}
use Rattle.two_stage_log.specs.Counts.{has_unprocessed, processed_of}
use Rattle.app_core.specs.declared.issued.Issued.{Issued}
use Rattle.app_core.specs.Issued.{issues, commands_of}
use Rattle.app_core.specs.Chain.{chain_next, chain_after, starting_chain, given_by}
use Rattle.app_core.specs.Parts.{ChainSteps}
use Rattle.app_core.proofs.Issuing.{length-issues, chain_after_push}
use Rattle.of_types.specs.declared.message.Command.{Command}
use Rattle.vr_log.specs.declared.entry.Entry.TheVariants.{Received, Processed}
use Rattle.vr_log.proofs.Logs.{received-append}
use Rattle.app_core.specs.Law.{AppLaw}
use Rattle.dispatcher.specs.declared.answers.HandledEvent.{HandledEvent}
use Rattle.dispatcher.specs.declared.counts.Counts.{Counts}
use Rattle.dispatcher.specs.declared.ledger.Ledger.{Ledger}
use Rattle.dispatcher.specs.Folding.{numbered, is_told, clears}
use Rattle.dispatcher.specs.Counted.{counts_of}
use Rattle.dispatcher.specs.Ledger.{Dispatching, HasRoomForResults, IsLedgerOfLog, StandsFor, as_numbered, cleared_of_life, first_commands, handled_of, has_pending, has_told, is_outstanding, wants, most_commands}
use Rattle.dispatcher.specs.Marks.{Marks, is_confirmed, is_finished, is_pending, is_wanted, outstanding, pending_alone, settled_commands, unsettled, wanted}
use Rattle.dispatcher.proofs.Ledgers.{length-handled_of}
use Rattle.dispatcher.proofs.Rooms.{room_received, room_processed}

filter_choice : {A : Type 0} (a b : Bool) (x : A) (xs : List A) → a ≡ b → (if a then x ∷ xs else xs) ≡ (if b then x ∷ xs else xs)
filter_choice true true x xs e = refl
filter_choice true false x xs e = absurd cc e
filter_choice false true x xs e = absurd cc e
filter_choice false false x xs e = refl

pub at_most : (a b c : ℕ) → a ≤ b → b ≤ c → a ≤ c
at_most a b c x y = omega (arith, x, y)

-- tests that agree pass the same
filter_same : {A : Type 0} (p q : A → Bool) (xs : List A) → ((x : A) → p x ≡ q x) → filter p xs ≡ filter q xs
filter_same p q [] e = refl
filter_same p q (x ∷ xs) e = filter_choice (p x) (q x) x (filter p xs) (e x) ∙ ap (λ l. if q x then x ∷ l else l) (filter_same p q xs e)

pass_both : {A : Type 0} (a b : Bool) (x : A) (xs ys : List A) → xs ≡ ys → (if a && b then x ∷ xs else xs) ≡ (if a then (if b then x ∷ ys else ys) else ys)
pass_both true true x xs ys e = ap (λ l. x ∷ l) e
pass_both true false x xs ys e = e
pass_both false b x xs ys e = e

filter_either : {A : Type 0} (q : A → Bool) (a : Bool) (x : A) (xs : List A) → (if a then (if q x then x ∷ filter q xs else filter q xs) else filter q xs) ≡ filter q (if a then x ∷ xs else xs)
filter_either q true x xs = refl
filter_either q false x xs = refl

any_or : {A : Type 0} (a b : Bool) (x : A) (xs : List A) → not b ≡ nat_eq (length xs) 0 → not (a || b) ≡ nat_eq (length (if a then x ∷ xs else xs)) 0
any_or true b x xs e = sym (eqb-suc-zero (length xs))
any_or false b x xs e = e

-- none passes where none is left
none_of : {A : Type 0} (p : A → Bool) (xs : List A) → not (list_any p xs) ≡ nat_eq (length (filter p xs)) 0
none_of p [] = refl
none_of p (x ∷ xs) = any_or (p x) (list_any p xs) x (filter p xs) (none_of p xs)

filter_both : {A : Type 0} (p q : A → Bool) (xs : List A) → filter (λ x. p x && q x) xs ≡ filter q (filter p xs)
filter_both p q [] = refl
filter_both p q (x ∷ xs) = pass_both (p x) (q x) x (filter (λ y. p y && q y) xs) (filter q (filter p xs)) (filter_both p q xs) ∙ filter_either q (p x) x (filter p xs)

map_same : {A B : Type 0} (f g : A → B) (xs : List A) → ((x : A) → f x ≡ g x) → map f xs ≡ map g xs
map_same f g [] e = refl
map_same f g (x ∷ xs) e = ap (λ y. y ∷ map f xs) (e x) ∙ ap (λ l. g x ∷ l) (map_same f g xs e)

pub any_same : {A : Type 0} (p q : A → Bool) (xs : List A) → ((x : A) → p x ≡ q x) → list_any p xs ≡ list_any q xs
any_same p q [] e = refl
any_same p q (x ∷ xs) e = rw (e x, any_same p q xs e) refl

module _ (kinds : List ℕ) (setup : Setup) (log : List Entry) (ledger : Ledger) (kept : IsLedgerOfLog kinds setup log ledger) where
  pub ended_is : (s l : ℕ) → nat_lt l (get_or ledger.lives s 0) ≡ has_ended s l (received log)
  ended_is s l = ap (λ (n : ℕ). nat_lt l n) (kept.lives s)

  pub counts_are : (s l : ℕ) → (counts_of ledger.counts s l).processed ≡ processed_of log s l
  counts_are s l = ap (λ (c : Counts). c.processed) (kept.counts s l)

  pub pending_is : (s l n : ℕ) → has_pending ledger s l n ≡ is_pending kinds setup log s l n
  pending_is s l n = ap (λ (c : Counts). nat_le c.settled n && nat_lt n c.issued) (kept.counts s l)

  pub pends : (s l n : ℕ) (pending : Bool) → pending ≡ has_pending ledger s l n → pending ≡ true → is_pending kinds setup log s l n ≡ true
  pends s l n pending is holds = sym (pending_is s l n) ∙ sym is ∙ holds

  -- what stays where settled commands are forgotten
  pub kept_pending : (marks : Marks) → record marks { acked = filter (λ a. has_pending ledger a.0 a.1 a.2) marks.acked } ≡ pending_alone kinds setup log marks
  kept_pending marks =
      ap (λ (l : List (ℕ × ℕ × ℕ)). record marks { acked = l })
      (filter_same (λ a. has_pending ledger a.0 a.1 a.2) (λ a. is_pending kinds setup log a.0 a.1 a.2) marks.acked (λ a. pending_is a.0 a.1 a.2))

  pub settled_is : (s l : ℕ) → (counts_of ledger.counts s l).settled ≡ settled_commands kinds setup log s l
  settled_is s l = ap (λ (c : Counts). c.settled) (kept.counts s l)

  first_at : (es : List Event) (is : List (List Issued)) (n : ℕ) → length is ≡ length es → first_commands (drop n (handled_of es is)) ≡ slice_index_or is n []
  first_at [] [] n h = ap first_commands (drop-nil n)
  first_at [] (i ∷ is) n h = absurd (omega (arith, h))
  first_at (e ∷ es) [] n h = absurd (omega (arith, h))
  first_at (e ∷ es) (i ∷ is) zero h = refl
  first_at (e ∷ es) (i ∷ is) (suc n) h = first_at es is n (omega (arith, h))

  pub first_is : first_commands ledger.pending.items ≡ commands_of kinds setup (received log) (processed log)
  first_is = ap first_commands kept.pending ∙ first_at (received log) (issues kinds setup (received log)) (processed log) (length-issues kinds setup (received log))

  wants_is : (marks : Marks) (x : Issued) → wants ledger marks x ≡ is_wanted log marks x
  wants_is marks x = rw (kept.lives x.switch) refl

  numbered_is : (x : Issued) → as_numbered ledger x ≡ numbered kinds setup log x
  numbered_is x = ap (λ (n : ℕ). record { switch = x.switch; life = x.life; number = x.number; settled = n; order = x.order }) (settled_is x.switch x.life)

  filtered_is : (marks : Marks) → filter (is_outstanding ledger marks) (first_commands ledger.pending.items) ≡ outstanding kinds setup log marks
  filtered_is marks =
      filter_both (wants ledger marks) (λ x. is_confirmed marks x.switch) (first_commands ledger.pending.items)
      ∙ ap (λ (l : List Issued). filter (λ x. is_confirmed marks x.switch) l)
      (filter_same (wants ledger marks) (is_wanted log marks) (first_commands ledger.pending.items) (wants_is marks) ∙ ap (λ (l : List Issued). filter (is_wanted log marks) l) first_is)

  pub outstanding_is : (marks : Marks) → map (as_numbered ledger) (filter (is_outstanding ledger marks) (first_commands ledger.pending.items)) ≡ map (numbered kinds setup log) (outstanding kinds setup log marks)
  outstanding_is marks = ap (λ (l : List Issued). map (as_numbered ledger) l) (filtered_is marks) ∙ map_same (as_numbered ledger) (numbered kinds setup log) (outstanding kinds setup log marks) numbered_is

  pub outstanding_on_is : (marks : Marks) (switch : ℕ) →
      map (as_numbered ledger) (filter (λ x. is_outstanding ledger marks x && nat_eq x.switch switch) (first_commands ledger.pending.items))
      ≡ map (numbered kinds setup log) (filter (λ x. nat_eq x.switch switch) (outstanding kinds setup log marks))
  outstanding_on_is marks switch =
      ap (λ (l : List Issued). map (as_numbered ledger) l)
      (filter_both (is_outstanding ledger marks) (λ x. nat_eq x.switch switch) (first_commands ledger.pending.items) ∙ ap (λ (l : List Issued). filter (λ x. nat_eq x.switch switch) l) (filtered_is marks))
      ∙ map_same (as_numbered ledger) (numbered kinds setup log) (filter (λ x. nat_eq x.switch switch) (outstanding kinds setup log marks)) numbered_is

  long : length ledger.pending.items + processed log ≡ length (received log)
  long =
      let all = issues kinds setup (received log) in
      let hs = length-handled_of kinds setup (received log) all (length-issues kinds setup (received log)) in
      let d = length-drop (processed log) (handled_of (received log) all) in
      let p = ap (λ (l : List HandledEvent). length l) kept.pending in
      let o = kept.ordered in
      omega (arith, hs, d, p, o)

  pub unprocessed_is : nat_lt 0 (length ledger.pending.items) ≡ has_unprocessed log
  unprocessed_is = by_length (length ledger.pending.items) (processed log) (length (received log)) long
    where
      by_length : (a b c : ℕ) → a + b ≡ c → nat_lt 0 a ≡ nat_lt b c
      by_length a b c e =
          elim (cases_lt 0 a) [
            | inl lt ↦ rw (lt-ltb 0 a lt, lt-ltb b c (omega (arith, lt, e))) refl
            | inr le ↦ rw (le-ltb 0 a le, le-ltb b c (omega (arith, le, e))) refl
          ]

  pub finished_is : (marks : Marks) → (nat_lt 0 (length ledger.pending.items) && not (list_any (wants ledger marks) (first_commands ledger.pending.items))) ≡ is_finished kinds setup log marks
  finished_is marks =
      let same : filter (wants ledger marks) (first_commands ledger.pending.items) ≡ wanted kinds setup log marks =
      filter_same (wants ledger marks) (is_wanted log marks) (first_commands ledger.pending.items) (wants_is marks) ∙ ap (λ (l : List Issued). filter (is_wanted log marks) l) first_is in
      rw (unprocessed_is, none_of (wants ledger marks) (first_commands ledger.pending.items), same) refl

  pub finished_as : (marks : Marks) (has some : Bool) → has ≡ nat_lt 0 (length ledger.pending.items) → some ≡ list_any (wants ledger marks) (first_commands ledger.pending.items) →
      (has && not some) ≡ is_finished kinds setup log marks
  finished_as marks has some h s =
      ap (λ (b : Bool). b && not some) h ∙ ap (λ (b : Bool). nat_lt 0 (length ledger.pending.items) && not b) s ∙ finished_is marks

  told_is : (commands : List Issued) (switch : ℕ) → has_told ledger commands switch ≡ is_told log commands switch
  told_is commands switch = any_same _ _ commands (λ x. ap (λ (b : Bool). nat_eq x.switch switch && not b) (ended_is x.switch x.life))

  cleared_is : (switch : ℕ) →
      cleared_of_life ledger switch ≡ record { switch = switch; life = life_in switch (received log); through = settled_commands kinds setup log switch (life_in switch (received log)) }
  cleared_is switch =
      ap (λ (l : ℕ). record { switch = switch; life = l; through = (counts_of ledger.counts switch l).settled }) (kept.lives switch)
      ∙ ap (λ (n : ℕ). record { switch = switch; life = life_in switch (received log); through = n }) (settled_is switch (life_in switch (received log)))

  pub clears_are : (switches : ℕ) (commands : List Issued) → switches ≡ length setup.ports →
      map (cleared_of_life ledger) (filter (has_told ledger commands) (range_with_len 0 switches)) ≡ clears kinds setup log commands
  clears_are switches commands e =
      ap (λ (n : ℕ). map (cleared_of_life ledger) (filter (has_told ledger commands) (range_with_len 0 n))) e
      ∙ ap (λ (l : List ℕ). map (cleared_of_life ledger) l) (filter_same (has_told ledger commands) (is_told log commands) (range_with_len 0 (length setup.ports)) (told_is commands))
      ∙ map_same (cleared_of_life ledger) _ (filter (is_told log commands) (range_with_len 0 (length setup.ports))) cleared_is

-- a dispatcher after one entry more
module _ {A : Type 0} (law : AppLaw A) (kinds : List ℕ) (setup : Setup) (log : List Entry) where
  -- what the application gives is what is issued
  pub reacts_is : (d : Dispatching A) (e : Event) (states : List (List ℕ)) (commands : List Command) → StandsFor law d kinds setup log →
      ChainSteps (chain_next (law.kinds d.app) setup (law.states d.app) e) states [] commands → commands ≡ (chain_next kinds setup (chain_after kinds setup (starting_chain kinds) (received log)) e).commands
  reacts_is d e states commands stands steps =
      steps.commands_are ∙ ap (λ (ks : List ℕ). (chain_next ks setup (law.states d.app) e).commands) stands.kind ∙ ap (λ (s : List (List ℕ)). (chain_next kinds setup s e).commands) stands.states

  pub with_received : (d : Dispatching A) (app : A) (ledger : Ledger) (marks : Marks) (room : ℕ) (entry : Entry) (e : Event) (commands : List Command) → entry ≡ Received e → StandsFor law d kinds setup log →
      law.kinds app ≡ law.kinds d.app → law.suits app setup → ChainSteps (chain_next (law.kinds d.app) setup (law.states d.app) e) (law.states app) [] commands →
      IsLedgerOfLog kinds setup (log ++ Received e ∷ []) ledger → length marks.acked + ledger.unsettled ≤ room →
      StandsFor law (record d { app = app; ledger = ledger; marks = marks; room = room }) kinds setup (log ++ entry ∷ [])
  with_received d app ledger marks room entry e commands is stands same fit steps kept made =
      subst (λ (x : Entry). StandsFor law (record d { app = app; ledger = ledger; marks = marks; room = room }) kinds setup (log ++ x ∷ [])) (sym is)
      (record {
        kind = same ∙ stands.kind;
        few = subst (λ (ks : List ℕ). given_by ks ≤ most_commands) (sym same) stands.few;
        suited = fit;
        states = steps.states_are
            ∙ ap (λ (ks : List ℕ). (chain_next ks setup (law.states d.app) e).states) stands.kind
            ∙ ap (λ (s : List (List ℕ)). (chain_next kinds setup s e).states) stands.states
            ∙ sym (chain_after_push kinds setup (starting_chain kinds) (received log) e)
            ∙ ap (λ (es : List Event). chain_after kinds setup (starting_chain kinds) es) (sym (received-append log (Received e ∷ [])));
        size = stands.size;
        ledger = kept;
        room = room_received kinds setup (log ++ Received e ∷ []) ledger marks room kept made;
      })

  pub with_processed : (d : Dispatching A) (ledger : Ledger) (entry : Entry) (j : ℕ) → entry ≡ Processed j → StandsFor law d kinds setup log →
      IsLedgerOfLog kinds setup (log ++ Processed j ∷ []) ledger → StandsFor law (record d { ledger = ledger }) kinds setup (log ++ entry ∷ [])
  with_processed d ledger entry j is stands kept =
      subst (λ (x : Entry). StandsFor law (record d { ledger = ledger }) kinds setup (log ++ x ∷ [])) (sym is)
      (record {
        kind = stands.kind;
        few = stands.few;
        suited = stands.suited;
        states = stands.states ∙ ap (λ (es : List Event). chain_after kinds setup (starting_chain kinds) es) (sym (received-append log (Processed j ∷ []) ∙ append-nil (received log)));
        size = stands.size;
        ledger = kept;
        room = room_processed kinds setup log j d.marks d.room stands.room;
      })

  -- marks change nothing of what it stands for, where there is still room
  pub with_marks : (d : Dispatching A) (marks : Marks) (room : ℕ) → StandsFor law d kinds setup log → HasRoomForResults (unsettled kinds setup log) marks room → StandsFor law (record d { marks = marks; room = room }) kinds setup log
  with_marks d marks room stands has = record { kind = stands.kind; few = stands.few; suited = stands.suited; states = stands.states; size = stands.size; ledger = stands.ledger; room = has }

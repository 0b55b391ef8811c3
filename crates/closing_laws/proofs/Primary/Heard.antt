-- An event of a switch comes to the primary: the next one is logged, one that is processed is acknowledged, and another does nothing.
use Rattle.std.proofs.Common.{◌≡◌, ◌≤◌, ◌<◌, ◌⊎◌, inl, inr, ℕ, ◌+◌, ◌-◌, Bool, false, List, [], ◌∷◌, ◌++◌, take, drop, filter, refl, sym, ◌∙◌, ap, subst, arith, append-nil}
use Rattle.std.specs.Prelude.{nat_le, not, ◌&&◌, Option, None, if◌then◌else◌}
use Rattle.std.specs.List.{range_with_len}
use Rattle.std.proofs.lemmas.Bool.{lt-leb}
use Rattle.std.proofs.lemmas.List.Sums.{sum_by-append, sum_by-cons}
use Rattle.list_facts.specs.Lists.{IsIn}
use Rattle.list_facts.proofs.Elements.{in_left, in_right}
use Rattle.of_types.specs.declared.message.Event.{Event}
use Rattle.of_types.specs.declared.message.Extension.TheVariants as extension
use Rattle.of_types.specs.declared.message.Happening.{Happening}
use Rattle.of_types.specs.declared.message.Spoken.TheVariants as spoken
use Rattle.of_types.specs.declared.setup.Setup.{Setup}
use Rattle.of_types.specs.Lives.{count_in}
use Rattle.of_types.proofs.Counts.{count_here}
use Rattle.journal.proofs.All.{all_append}
use Rattle.vr_log.specs.declared.entry.Entry.{Entry}
use Rattle.vr_log.specs.declared.entry.Entry.TheVariants.{Received}
use Rattle.vr_log.specs.Log.{processed, received}
use Rattle.vr_log.proofs.Logs.{received-append}
use Rattle.two_stage_log.specs.Counts.{has_unprocessed, processed_of}
use Rattle.app_core.specs.Chain.{concat}
use Rattle.app_core.specs.Issued.{count_issued, issues}
use Rattle.dispatcher.specs.Marks.{settled_commands}
use Rattle.of_switch.specs.State.{SwitchState, events_in, life_of}
use Rattle.group_controller.specs.State.{ControllerState, committed}
use Rattle.group_controller.specs.Settling.{is_some_of}
use Rattle.run_spec.specs.declared.messages.Message.{Message}
use Rattle.run_spec.specs.declared.messages.Message.TheVariants as message
use Rattle.closing_laws.specs.Serving.{AreCommanded, AreEventsTold, IsMastered, IsSaidBy, IsAttended, IsTrueOf, acknowledges_events, commands_said, events_said, is_reply, is_request, logged_of, processed_by, sent_of, settled_by, letters_told_by}
use Rattle.closing_laws.proofs.Primary.Coming.{coming_next}
use Rattle.closing_laws.proofs.Primary.Telling.{AreQuiet, commands_said-append}

-- what is told and settled depends on what is committed
module _ (kinds : List ℕ) (setup : Setup) (c c' : ControllerState) (same : committed c' ≡ committed c) (last : c'.last_told ≡ c.last_told) (s : ℕ) (sw : SwitchState) where
  pub told_same : letters_told_by kinds setup c' s sw ≡ letters_told_by kinds setup c s sw
  told_same =
      ap (λ (K : List Entry). count_issued s (life_of sw) (concat (take (processed K + (if has_unprocessed K && not (is_some_of (processed K) c'.last_told) then 0 else 1)) (issues kinds setup (received K))))) same
      ∙ ap (λ (o : Option ℕ). count_issued s (life_of sw) (concat (take (processed (committed c) + (if has_unprocessed (committed c) && not (is_some_of (processed (committed c)) o) then 0 else 1)) (issues kinds setup (received (committed c)))))) last

  pub settled_same : settled_by kinds setup c' s sw ≡ settled_by kinds setup c s sw
  settled_same = ap (λ (K : List Entry). settled_commands kinds setup K s (life_of sw)) same

  pub processed_same : processed_by c' s sw ≡ processed_by c s sw
  processed_same = ap (λ (K : List Entry). processed_of K s (life_of sw)) same

abbrev pub event_of : ℕ → ℕ → ℕ → Happening → Event
event_of s life number what = record { switch = s; life = life; number = number; what = what }

abbrev pub tells_event : ℕ → ℕ → ℕ → Happening → Message
tells_event xid life number what = message.Of xid (spoken.Ravana (extension.Event life number what))

-- the state with this log, as far as it is committed now
abbrev pub with_log : ControllerState → List Entry → ControllerState
with_log c log = record c { vr = record c.vr { log = log }; full = None }

module _ (kinds : List ℕ) (setup : Setup) (c : ControllerState) (s : ℕ) (sw : SwitchState) (xid number : ℕ) (what : Happening) (out rest : List Message)
    (was : IsAttended kinds setup c s sw out (tells_event xid (life_of sw) number what ∷ rest)) where
  abbrev pub e : Event
  e = event_of s (life_of sw) number what

  pub asked : IsMastered c s sw out (tells_event xid (life_of sw) number what ∷ rest) × AreEventsTold c s sw out (tells_event xid (life_of sw) number what ∷ rest)
  asked = elim was.role [ inl u ↦ absurd (some u.silent) | inr a ↦ a ]
    where
      some : (tells_event xid (life_of sw) number what ∷ rest) ≡ [] → ⊥
      some x = absurd cc

  -- the message is taken, and the switch is told answers
  pub event_taken : (log : List Entry) (letters : List Message) → take c.vr.commit log ≡ committed c → AreQuiet c.vr.view letters → AreEventsTold (with_log c log) s sw (out ++ letters) rest →
      IsAttended kinds setup (with_log c log) s sw (out ++ letters) rest
  event_taken log letters same quiet tells = record {
    said = all_append (λ m. IsSaidBy c.vr.view m) out letters was.said quiet.said;
    heard = was.heard.1;
    role = inr (
      record {
        generation = asked.0.generation;
        master = asked.0.master;
        no_more = let parts = sum_by-append (λ (m : Message). if is_request m then 1 else 0) out letters in let a = asked.0.no_more in let b = quiet.no_requests in omega (arith, parts, a, b);
        replies = let parts = sum_by-cons (λ (m : Message). if is_reply m then 1 else 0) (tells_event xid (life_of sw) number what) rest in let all = asked.0.replies in omega (arith, parts, all);
      },
      tells,
    );
    confirmed = λ h. commanded (was.confirmed h);
    unconfirmed = λ h. let u = was.unconfirmed h in record { no_commands = said ∙ u.no_commands; no_results = u.no_results; no_marks = u.no_marks };
    marks = λ i h. let r = was.marks i h in let t = told_is in omega (arith, r, t);
    results = λ i h. let r = was.results i h in let t = told_is in omega (arith, r, t);
  }
    where
      told_is : letters_told_by kinds setup (with_log c log) s sw ≡ letters_told_by kinds setup c s sw
      told_is = told_same kinds setup c (with_log c log) same refl s sw

      settled_is : settled_by kinds setup (with_log c log) s sw ≡ settled_by kinds setup c s sw
      settled_is = settled_same kinds setup c (with_log c log) same refl s sw

      said : commands_said (life_of sw) (out ++ letters) ≡ commands_said (life_of sw) out
      said = commands_said-append (life_of sw) out letters ∙ ap (λ (z : List ℕ). commands_said (life_of sw) out ++ z) (quiet.no_commands (life_of sw)) ∙ append-nil (commands_said (life_of sw) out)

      commanded : AreCommanded kinds setup c s sw out (tells_event xid (life_of sw) number what ∷ rest) → AreCommanded kinds setup (with_log c log) s sw (out ++ letters) rest
      commanded q = record {
        next = q.next;
        waits = said ∙ q.waits ∙ ap (λ (n : ℕ). range_with_len q.next (n - q.next)) (sym told_is);
        in_order = λ less. q.in_order (let t = told_is in omega (arith, t, less));
        accounted = λ i low high. elim (q.accounted i (let t = settled_is in omega (arith, t, low)) (let t = told_is in omega (arith, t, high))) [
          | inl m ↦ inl m
          | inr (inl h) ↦ inr (inl (subst (λ (z : List ℕ). IsIn i z) (sym said) h))
          | inr (inr h) ↦ inr (inr h)
        ];
      }

  -- it is the next, and is logged
  module _ (true_of : IsTrueOf kinds setup c s sw) (late : logged_of c s sw ≤ number) where
    logged_now : logged_of (with_log c (c.vr.log ++ Received e ∷ [])) s sw ≡ logged_of c s sw + 1
    logged_now = ap (count_in s (life_of sw)) (received-append c.vr.log (Received e ∷ [])) ∙ count_here (received c.vr.log) e

    pub told_logged : take c.vr.commit (c.vr.log ++ Received e ∷ []) ≡ committed c → AreEventsTold (with_log c (c.vr.log ++ Received e ∷ [])) s sw (out ++ []) rest
    told_logged same = record {
      coming = subst (λ (n : ℕ). filter (λ x. nat_le n x.number) (events_said s rest) ≡ take (sent_of sw - n) (drop n (events_in sw (life_of sw)))) (sym logged_now)
          (coming_next kinds setup c s sw true_of e (events_said s rest) asked.1.coming late);
      stands = λ x h. asked.1.stands x (inr h);
      acknowledged = λ less. by_witness (asked.1.acknowledged (let p = kept in omega (arith, p, less)));
    }
      where
        now : ControllerState
        now = with_log c (c.vr.log ++ Received e ∷ [])

        kept : processed_by now s sw ≡ processed_by c s sw
        kept = processed_same kinds setup c now same refl s sw

        by_witness : IsIn (acknowledges_events (life_of sw) (processed_by c s sw)) out ⊎ ((x : Event) × IsIn x (e ∷ events_said s rest) × (x.number < processed_by c s sw)) →
            IsIn (acknowledges_events (life_of sw) (processed_by now s sw)) (out ++ []) ⊎ ((x : Event) × IsIn x (events_said s rest) × (x.number < processed_by now s sw))
        by_witness (inl h) = inl (subst (λ (n : ℕ). IsIn (acknowledges_events (life_of sw) n) (out ++ [])) (sym kept) (in_left (acknowledges_events (life_of sw) (processed_by c s sw)) out [] h))
        by_witness (inr w) = by_place w.0 w.2 w.1
          where
            by_place : (x : Event) → x.number < processed_by c s sw → (x ≡ e) ⊎ IsIn x (events_said s rest) →
                IsIn (acknowledges_events (life_of sw) (processed_by now s sw)) (out ++ []) ⊎ ((y : Event) × IsIn y (events_said s rest) × (y.number < processed_by now s sw))
            by_place x less (inl same_one) = absurd (let most = true_of.processed in let place = ap (λ (y : Event). y.number) same_one in omega (arith, most, place, less, late))
            by_place x less (inr h) = inr (x, h, let p = kept in omega (arith, p, less))

  -- it was logged before: it is acknowledged where it is processed
  module _ (before : number < logged_of c s sw) where
    still_coming : filter (λ x. nat_le (logged_of c s sw) x.number) (events_said s rest) ≡ take (sent_of sw - logged_of c s sw) (drop (logged_of c s sw) (events_in sw (life_of sw)))
    still_coming =
        let past : nat_le (logged_of c s sw) number ≡ false = lt-leb (logged_of c s sw) number before in
        sym (ap (λ (b : Bool). if b then e ∷ filter (λ x. nat_le (logged_of c s sw) x.number) (events_said s rest) else filter (λ x. nat_le (logged_of c s sw) x.number) (events_said s rest)) past) ∙ asked.1.coming

    pub told_again : AreEventsTold (with_log c c.vr.log) s sw (out ++ acknowledges_events (life_of sw) (processed_by c s sw) ∷ []) rest
    told_again = record {
      coming = still_coming;
      stands = λ x h. asked.1.stands x (inr h);
      acknowledged = λ less. inl (in_right (acknowledges_events (life_of sw) (processed_by c s sw)) out (acknowledges_events (life_of sw) (processed_by c s sw) ∷ []) (inl refl));
    }

    pub told_nothing : processed_by c s sw ≤ number → AreEventsTold (with_log c c.vr.log) s sw (out ++ []) rest
    told_nothing high = record {
      coming = still_coming;
      stands = λ x h. asked.1.stands x (inr h);
      acknowledged = λ less. by_witness (asked.1.acknowledged less);
    }
      where
        by_witness : IsIn (acknowledges_events (life_of sw) (processed_by c s sw)) out ⊎ ((x : Event) × IsIn x (e ∷ events_said s rest) × (x.number < processed_by c s sw)) →
            IsIn (acknowledges_events (life_of sw) (processed_by c s sw)) (out ++ []) ⊎ ((x : Event) × IsIn x (events_said s rest) × (x.number < processed_by c s sw))
        by_witness (inl h) = inl (in_left (acknowledges_events (life_of sw) (processed_by c s sw)) out [] h)
        by_witness (inr w) = by_place w.0 w.2 w.1
          where
            by_place : (x : Event) → x.number < processed_by c s sw → (x ≡ e) ⊎ IsIn x (events_said s rest) →
                IsIn (acknowledges_events (life_of sw) (processed_by c s sw)) (out ++ []) ⊎ ((y : Event) × IsIn y (events_said s rest) × (y.number < processed_by c s sw))
            by_place x less (inl same_one) = absurd (let place = ap (λ (y : Event). y.number) same_one in omega (arith, place, less, high))
            by_place x less (inr h) = inr (x, h, less)

-- Each command once and in order, life by life, from what holds after a past.
use Rattle.std.proofs.Common.{◌≡◌, ◌<◌, ℕ, Bool, List, [], ◌∷◌, ◌++◌, length, take, map, zero, suc, refl, sym, ◌∙◌, ap, subst, inl, inr, arith, le_trans}
use Rattle.std.specs.Prelude.{slice_get, Some, if◌then◌else◌}
use Rattle.std.proofs.lemmas.Bool.{cases_Bool}
use Rattle.of_types.specs.declared.message.Event.{Event}
use Rattle.of_types.specs.declared.message.Executed.{Executed}
use Rattle.journal.specs.declared.journal.Actor.TheVariants as actor
use Rattle.journal.specs.declared.journal.JournalEntry.{JournalEntry}
use Rattle.journal.specs.declared.journal.SaveResult.{SaveResult}
use Rattle.journal.specs.Part.{part}
use Rattle.list_facts.proofs.Places.{get_prefix, no_split, none_at}
use Rattle.list_facts.proofs.Prefixes.{front_prefix, prefix_by_places, prefix_filter, prefix_length, prefix_trans}
use Rattle.list_facts.specs.Lists.{IsIn, IsPrefix}
use Rattle.vr_log.specs.declared.entry.Entry.{Entry}
use Rattle.vr_log.specs.declared.entry.Entry.TheVariants.{Received, Processed}
use Rattle.vr_log.specs.Log.{received, processed}
use Rattle.vr_log.specs.Members.{is_up}
use Rattle.app_core.specs.Issued.{issued}
use Rattle.group_controller.specs.State.{committed}
use Rattle.of_switch.specs.State.{executed_in, events_in}
use Rattle.run_spec.specs.States.{Scene, switch_at}
use Rattle.run_spec.specs.Legal.{IsPossible}
use Rattle.run_spec.specs.Committed.{controller_state, switch_state, kept, decided}
use Rattle.run_spec.specs.Laws.{IsExactlyOnce}
use Rattle.run_laws.specs.OnceLaws.Facts.{Later, firm_switch, facts_of, events_of, executed_of}
use Rattle.run_laws.specs.OnceLaws.Truths.{IsGenuine, IsDoneThrough, IsTrueEntry}
use Rattle.run_spec.specs.States.{IsFaithful}
use Rattle.run_laws.specs.OnceLaws.Premises.{IsProperLog, AreControllers}
use Rattle.run_laws.specs.OnceLaws.Invariant.{IsSoundAt, Logged, HoldsOfRun}
use Rattle.run_laws.proofs.OnceLaws.Growing.{entry_more}
use Rattle.run_laws.proofs.OnceLaws.ControllerTurns.{received_at}
use Rattle.run_laws.proofs.OnceLaws.LogOrder.{ordered_events, rising, made_in, over_has_ended, get_map, numbers_are, processed_among}
use Rattle.run_laws.proofs.OnceLaws.Decided.{decided_none, chosen, grows, front, trusted}
use Rattle.run_spec.proofs.Pasts.{possible_before}
use Rattle.run_laws.proofs.OnceLaws.Journals.{firm_events, firm_executed, later, all_holds}

-- what stands where two lists meet, and before
pub seam_at : {A : Type 0} (xs ys : List A) (y : A) → slice_get (xs ++ y ∷ ys) (length xs) ≡ Some y
seam_at [] ys y = refl
seam_at (x ∷ xs) ys y = seam_at xs ys y

front_at : {A : Type 0} (xs ys : List A) (i : ℕ) (x : A) → i < length xs → slice_get (xs ++ ys) i ≡ Some x → slice_get xs i ≡ Some x
front_at [] ys i x lt h = absurd (omega (arith, lt))
front_at (y ∷ xs) ys zero x lt h = h
front_at (y ∷ xs) ys (suc i) x lt h = front_at xs ys i x (omega (arith, lt)) h

module _ {B : Type 0} (scene : Scene B) (results : List (List SaveResult)) (faithful : IsFaithful scene.sealing) (sides : AreControllers scene results) where
  pub holds_always : (entries : List (JournalEntry B)) → IsPossible scene results entries → HoldsOfRun scene results entries
  holds_always = all_holds scene results faithful (grows scene results sides) (front scene results sides) sides

  later_always : (e : JournalEntry B) (before : List (JournalEntry B)) → IsPossible scene results (e ∷ before) → Later (facts_of scene results before) (facts_of scene results (e ∷ before))
  later_always e before legal =
      later scene results faithful (grows scene results sides) (front scene results sides) sides e before legal (trusted scene results sides holds_always e before legal)

  -- what is decided tells the truth, and is valid
  pub record IsTrueDecided (entries : List (JournalEntry B)) : Type 0 where
    pub entries_true : (i : ℕ) (e : Entry) → slice_get (decided scene results entries) i ≡ Some e → IsTrueEntry scene.kinds scene.setup (facts_of scene results entries) i e
    pub valid : IsProperLog (decided scene results entries)

  kept_true : (entries : List (JournalEntry B)) → IsPossible scene results entries → (c : ℕ) → c < scene.setup.controllers → (i : ℕ) (e : Entry) → slice_get (kept scene results c entries) i ≡ Some e →
      IsTrueEntry scene.kinds scene.setup (facts_of scene results entries) i e
  kept_true entries legal c there i e at =
      let w = controller_state scene results c entries in
      elim (cases_Bool (is_up w.vr)) [
        | inl up ↦
            let here : slice_get (committed w) i ≡ Some e = ap (λ (b : Bool). slice_get (if b then committed w else []) i) (sym up) ∙ at in
            ((holds_always entries legal).controllers c there).now.entries i e (Logged (get_prefix i e (front_prefix w.vr.commit w.vr.log) here))
        | inr off ↦ absurd (none_at i e (ap (λ (b : Bool). slice_get (if b then committed w else []) i) (sym off) ∙ at))
      ]

  pub decided_true : (entries : List (JournalEntry B)) → IsPossible scene results entries → IsTrueDecided entries
  decided_true [] legal =
      record {
        entries_true = λ i e at. absurd (none_at i e (ap (λ (l : List Entry). slice_get l i) (sym (decided_none scene results sides)) ∙ at));
        valid = λ before back e is. absurd (no_split before back e (sym (decided_none scene results sides) ∙ is));
      }
  decided_true (e ∷ before) legal =
      elim (chosen scene results sides e before) [
        | inl same ↦
            let old = decided_true before (possible_before scene results e before legal) in
            record {
              entries_true = λ i x at. entry_more scene.kinds scene.setup (later_always e before legal) i x (old.entries_true i x (ap (λ (l : List Entry). slice_get l i) (sym same) ∙ at));
              valid = subst (λ (l : List Entry). IsProperLog l) (sym same) old.valid;
            }
        | inr new ↦
            record {
              entries_true = λ i x at. kept_true (e ∷ before) legal new.0 new.1 i x (ap (λ (l : List Entry). slice_get l i) (sym new.2) ∙ at);
              valid = subst (λ (l : List Entry). IsProperLog l) (sym new.2) (sides.valid e before legal (trusted scene results sides holds_always e before legal) new.0 new.1);
            }
      ]

  events_now : (s : ℕ) (entries : List (JournalEntry B)) → IsSoundAt scene.kinds scene.setup (facts_of scene results entries) s (switch_at scene s (part (actor.Switch s) entries)) → (life : ℕ) →
      IsPrefix (events_of life (firm_switch (switch_at scene s (part (actor.Switch s) entries))).events) (events_in (switch_state scene s entries) life)
  events_now s entries h life = prefix_filter _ (firm_events (switch_at scene s (part (actor.Switch s) entries)) (switch_at scene s (part (actor.Switch s) entries)).fresh h.events)

  executed_now : (s : ℕ) (entries : List (JournalEntry B)) → IsSoundAt scene.kinds scene.setup (facts_of scene results entries) s (switch_at scene s (part (actor.Switch s) entries)) → (life : ℕ) →
      IsPrefix (executed_of life (firm_switch (switch_at scene s (part (actor.Switch s) entries))).executed) (executed_in (switch_state scene s entries) life)
  executed_now s entries h life = prefix_filter _ (firm_executed (switch_at scene s (part (actor.Switch s) entries)) (switch_at scene s (part (actor.Switch s) entries)).fresh h.executed)

  pub once : (entries : List (JournalEntry B)) → IsPossible scene results entries → IsExactlyOnce scene results entries
  once entries legal =
      let holds = holds_always entries legal in
      let log : List Entry = decided scene results entries in
      let t = decided_true entries legal in
      let in_order = ordered_events log t.valid in
      let genuine : (e : Event) → IsIn e (received log) → IsGenuine scene.setup (facts_of scene results entries) e = λ e k. let at = received_at log e k in t.entries_true at.0 (Received e) at.1 in
      let made = λ (s life : ℕ) (there : s < length scene.setup.ports). prefix_trans (made_in (received log) in_order scene.setup (facts_of scene results entries) genuine s life) (events_now s entries (holds.switches s there) life) in
      record {
        ordered = record {
          rising = λ s there. rising (received log) in_order s;
          made = λ s life there. made s life there;
        };
        numbers = λ s life there. numbers_are (executed_in (switch_state scene s entries) life) (λ i x at. ((holds.switches s there).now.well.done life i x at).1);
        orders = λ s life there. prefix_by_places (map (λ (x : Executed). x.order) (executed_in (switch_state scene s entries) life)) (issued scene.kinds scene.setup s life (received log)) (λ i o at.
            let r = get_map (λ (x : Executed). x.order) (executed_in (switch_state scene s entries) life) i o at in
            subst (λ y. slice_get (issued scene.kinds scene.setup s life (received log)) i ≡ Some y) (sym r.2) ((holds.switches s there).now.issued life i r.0 r.1));
        done = λ s life j before rest there is.
            let at : slice_get log (length before) ≡ Some (Processed j) = ap (λ (l : List Entry). slice_get l (length before)) is ∙ seam_at before rest (Processed j) in
            let d : IsDoneThrough scene.kinds scene.setup (facts_of scene results entries) (length before) j = t.entries_true (length before) (Processed j) at in
            elim (d.all s life) [
              | inl few ↦ inl (le_trans few (prefix_length (executed_now s entries (holds.switches s there) life)))
              | inr over ↦
                  let below : slice_get before over.place ≡ Some (Received over.event) = front_at before (Processed j ∷ rest) over.place (Received over.event) over.below (ap (λ (l : List Entry). slice_get l over.place) (sym is) ∙ over.stands) in
                  inr (over_has_ended log before (Processed j ∷ rest) s life over.place over.event t.valid is below over.switch_is over.later)
            ];
        dropped = λ s life i e there lt at.
            let few = (holds.switches s there).now.dropped life in
            processed_among s life (take (processed log) (received log)) (received log) (events_in (switch_state scene s entries) life) (front_prefix (processed log) (received log)) (made s life there) i e (omega (arith, lt, few)) at;
      }

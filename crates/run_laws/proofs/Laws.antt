-- The controllers of every run keep to their side, and so the laws hold of every run.
use Rattle.std.proofs.Common.{◌≡◌, ℕ, suc, true, List, [], ◌∷◌, ◌++◌, length, map, take, drop, sym, ap, ◌∙◌, subst, take-append-drop, append_assoc}
use Rattle.std.specs.Prelude.{nat_lt, if◌then◌else◌}
use Rattle.std.specs.List.{range_with_len}
use Rattle.std.proofs.lemmas.Bool.{cond_both}
use Rattle.of_types.specs.Setups.{IsSetup}
use Rattle.journal.specs.declared.journal.Actor.TheVariants as actor
use Rattle.journal.specs.declared.journal.JournalEntry.{JournalEntry}
use Rattle.journal.specs.declared.journal.SaveResult.{SaveResult}
use Rattle.journal.specs.Part.{part}
use Rattle.list_facts.proofs.Places.{no_split}
use Rattle.vr_log.specs.declared.entry.Entry.{Entry}
use Rattle.vr_log.specs.Log.{is_log}
use Rattle.vr_log.specs.Members.{is_up}
use Rattle.group_controller.specs.State.{ControllerState, committed}
use Rattle.controller_moves.proofs.ControllerLaws.Logs.{may_follow_at}
use Rattle.run_spec.specs.States.{Scene, IsFaithful}
use Rattle.run_spec.specs.Legal.{IsPossible, results_of}
use Rattle.run_spec.specs.Committed.{controller_state, decided, kept, longest}
use Rattle.run_spec.specs.Laws.{IsLasting, IsFenced, IsExactlyOnce}
use Rattle.run_laws.specs.OnceLaws.Facts.{facts_of}
use Rattle.run_laws.specs.OnceLaws.Invariant.{HoldsOfRun}
use Rattle.run_laws.specs.OnceLaws.Premises.{IsProperLog, AreControllers}
use Rattle.run_laws.proofs.OnceLaws.Executed.{holds_always}
use Rattle.run_spec.proofs.Pasts.{possible_drop}
use Rattle.run_laws.proofs.OnceLaws.Laws.{is_lasting, is_once, is_fenced}
use Rattle.run_laws.proofs.OnceLaws.Views.{heard_view, known_view}
use Rattle.run_laws.specs.RunAgreement.Reading.{AreReadAsSealed, WhereValid}
use Rattle.run_laws.proofs.RunAgreement.Agreeing.{kept_law}
use Rattle.run_laws.proofs.RunAgreement.Groups.{odd_law}
use Rattle.run_laws.proofs.RunAgreement.Leading.{decided_law}
use Rattle.run_laws.specs.AddressLaws.Laws.{WaitsForActors}
use Rattle.run_laws.proofs.AddressLaws.Journals.{journals_addressed}
use Rattle.run_laws.specs.Laws.{InEveryRun, AreAgreed, AreValidLogs, IsLed, ControllersKeepTheirSide}
use Rattle.run_laws.proofs.Addresses.{logs_named}
use Rattle.run_laws.proofs.Events.{events_valid}
use Rattle.run_laws.proofs.Members.{owned_at}
use Rattle.run_laws.proofs.Turns.{good_turn}

-- the beginning of a log is valid
front_valid : (k : ℕ) (log : List Entry) → is_log log ≡ true → IsProperLog (take k log)
front_valid k log valid front back e is =
    let whole : log ≡ front ++ e ∷ (back ++ drop k log) = sym (take-append-drop k log) ∙ ap (λ (l : List Entry). l ++ drop k log) is ∙ append_assoc front (e ∷ back) (drop k log) in
    may_follow_at front e (back ++ drop k log) (subst (λ (l : List Entry). is_log l ≡ true) whole valid)

module _ {B : Type 0} (scene : Scene B) (results : List (List SaveResult)) where
  kept_valid : (entries : List (JournalEntry B)) (c : ℕ) → IsProperLog (kept scene results c entries)
  kept_valid entries c =
      let now : ControllerState = controller_state scene results c entries in
      let o = (owned_at scene (results_of results c) c (part (actor.Controller c) entries)).now in
      cond_both (is_up now.vr) (committed now) [] (λ (l : List Entry). IsProperLog l) (λ _. front_valid now.vr.commit now.vr.log o.consistent.follow) (λ _ front back e is. absurd (no_split front back e is))

  -- the longest of valid logs is one of them
  longest_valid : (best : List Entry) (cs : List ℕ) (entries : List (JournalEntry B)) → IsProperLog best → IsProperLog (longest best (map (λ c. kept scene results c entries) cs))
  longest_valid best [] entries valid = valid
  longest_valid best (c ∷ cs) entries valid =
      longest_valid (if nat_lt (length best) (length (kept scene results c entries)) then kept scene results c entries else best) cs entries
      (cond_both (nat_lt (length best) (length (kept scene results c entries))) (kept scene results c entries) best (λ (l : List Entry). IsProperLog l) (λ _. kept_valid entries c) (λ _. valid))

  decided_valid : (entries : List (JournalEntry B)) → IsProperLog (decided scene results entries)
  unfolding decided
  decided_valid [] = λ front back e is. absurd (no_split front back e is)
  decided_valid (e ∷ before) = longest_valid (decided scene results before) (range_with_len 0 scene.setup.controllers) (e ∷ before) (decided_valid before)

  logs_valid : (entries : List (JournalEntry B)) → AreValidLogs scene results entries
  logs_valid entries = record { decided = decided_valid entries; each = λ c i. kept_valid (drop i entries) c }

  module _ (setup : IsSetup scene.setup) (faithful : IsFaithful scene.sealing) where
    -- where the invariant held of every earlier past, bodies are read as they were sealed
    read_after : (entries : List (JournalEntry B)) → IsPossible scene results entries → ((i : ℕ) → HoldsOfRun scene results (drop (suc i) entries)) → AreReadAsSealed scene entries
    read_after entries possible trust = WhereValid faithful (events_valid scene results entries possible trust)

    agreed : (entries : List (JournalEntry B)) → IsPossible scene results entries → ((i : ℕ) → HoldsOfRun scene results (drop (suc i) entries)) → AreAgreed scene results entries
    agreed entries possible trust c d i j there there' =
        let group = odd_law scene.setup setup in
        kept_law scene results group.0 entries c d i j group.1 (read_after entries possible trust) possible there there'

    sides : AreControllers scene results
    sides = record {
      setup = setup;
      agree = λ e before possible trust c d i j there there'. agreed (e ∷ before) possible trust c d i j there there';
      valid = λ e before possible trust c there. kept_valid (e ∷ before) c;
      turns = λ e before possible trust c there same x heard honest hears.
          let state : ControllerState = controller_state scene results c before in
          good_turn scene.kinds scene.setup c x state (owned_at scene (results_of results c) c (part (actor.Controller c) before)).now
          (λ view known. known_view scene.kinds scene.setup x state honest.views (heard_view scene.kinds scene.setup (facts_of scene results before) x hears) view known);
    }

    pub always : (entries : List (JournalEntry B)) → IsPossible scene results entries → (i : ℕ) → HoldsOfRun scene results (drop i entries)
    always entries possible i = holds_always scene results faithful sides (drop i entries) (possible_drop scene results i entries possible)

    led : (entries : List (JournalEntry B)) → IsPossible scene results entries → IsLed scene results entries
    led entries possible most_failures c size there leads_now most =
        decided_law scene results most_failures entries c size (read_after entries possible (λ i. always entries possible (suc i))) possible there leads_now most

pub sides_law : {B : Type 0} → ControllersKeepTheirSide B
sides_law scene results setup faithful = sides scene results setup faithful

pub agreement_law : {B : Type 0} → InEveryRun B (λ scene results entries. AreAgreed scene results entries)
agreement_law scene results entries setup faithful possible = agreed scene results setup faithful entries possible (λ i. always scene results setup faithful entries possible (suc i))

pub valid_law : {B : Type 0} → InEveryRun B (λ scene results entries. AreValidLogs scene results entries)
valid_law scene results entries setup faithful possible = logs_valid scene results entries

pub lasting_law : {B : Type 0} → InEveryRun B (λ scene results entries. IsLasting scene results entries)
lasting_law scene results entries setup faithful possible = is_lasting scene results entries faithful (sides scene results setup faithful) possible

pub led_law : {B : Type 0} → InEveryRun B (λ scene results entries. IsLed scene results entries)
led_law scene results entries setup faithful possible = led scene results setup faithful entries possible

pub once_law : {B : Type 0} → InEveryRun B (λ scene results entries. IsExactlyOnce scene results entries)
once_law scene results entries setup faithful possible = is_once scene results entries faithful (sides scene results setup faithful) possible

pub fence_law : {B : Type 0} → InEveryRun B (λ scene results entries. IsFenced scene entries)
fence_law scene results entries setup faithful possible = is_fenced scene results entries faithful (sides scene results setup faithful) possible

pub waits_law : {B : Type 0} → InEveryRun B (λ scene results entries. WaitsForActors scene entries)
waits_law scene results entries setup faithful possible =
    journals_addressed scene results entries setup possible (λ i c there. logs_named scene results (drop i entries) (always scene results setup faithful entries possible i) c there)

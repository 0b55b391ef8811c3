-- A past in which nothing waits behind the start of a view has closed.
use Rattle.std.proofs.Common.{◌≡◌, ◌≤◌, ◌<◌, ℕ, ◌%◌, Bool, List, [], length, refl, sym, ◌∙◌, ap, subst, arith}
use Rattle.std.specs.Prelude.{nat_eq, ◌&&◌, count_by, if◌then◌else◌}
use Rattle.std.proofs.lemmas.Bool.{eq-eqb, ltb-false, and_from}
use Rattle.std.proofs.lemmas.List.Sums.{length-filter}
use Rattle.std.proofs.lemmas.List.{take_all, length-map}
use Rattle.of_types.specs.declared.message.Event.{Event}
use Rattle.of_types.specs.Setups.{IsSetup}
use Rattle.journal.specs.declared.journal.JournalEntry.{JournalEntry}
use Rattle.journal.specs.declared.journal.SaveResult.{SaveResult}
use Rattle.journal.specs.Pool.{pool}
use Rattle.list_facts.specs.Lists.{IsIn, IsPrefix}
use Rattle.list_facts.proofs.Elements.{filter_has, in_left}
use Rattle.list_facts.proofs.Places.{in_get}
use Rattle.list_facts.proofs.Prefixes.{prefix_equal, prefix_length}
use Rattle.vr_log.specs.declared.entry.Entry.{Entry}
use Rattle.vr_log.specs.declared.state.VrState.{VrState}
use Rattle.vr_log.specs.Log.{received, processed}
use Rattle.app_core.specs.Issued.{issued}
use Rattle.of_switch.specs.State.{SwitchState, events_in, executed_in, life_of}
use Rattle.group_controller.specs.State.{ControllerState, committed}
use Rattle.run_spec.specs.States.{Scene, IsFaithful}
use Rattle.run_spec.specs.Legal.{IsPossible}
use Rattle.run_spec.specs.Committed.{controller_state, decided, switch_state}
use Rattle.run_spec.specs.Laws.{IsAtRest, events_from_life}
use Rattle.run_laws.proofs.Laws.{always, once_law}
use Rattle.run_laws.proofs.Members.{up_leads}
use Rattle.closing_laws.specs.Following.{Start}
use Rattle.closing_laws.specs.Serving.{AreFew, IsTrueOf, IsTruePrimary}
use Rattle.closing_laws.specs.Ends.{HasRested}
use Rattle.closing_laws.proofs.Draining.Drained as drained_by
use Rattle.closing_laws.proofs.Draining.Resting as resting
use Rattle.closing_laws.proofs.Primary.Growth.{processed_within}

module _ {B : Type 0} (scene : Scene B) (results : List (List SaveResult)) (setup : IsSetup scene.setup) (faithful : IsFaithful scene.sealing) (few : AreFew scene.kinds scene.setup) (P : List (JournalEntry B)) (possible : IsPossible scene results P)
    (w p : ℕ) (quorum : List ℕ) (start : Start) (leader : p ≡ w % scene.setup.controllers) (small : p < scene.setup.controllers) (members : ℕ → VrState) (switches : ℕ → SwitchState)
    (d : drained_by.Drains scene.kinds scene.setup w p quorum start (controller_state scene results p P) members switches [])
    (same : (s : ℕ) → s < length scene.setup.ports → switch_state scene s P ≡ switches s) (is_true : IsTruePrimary (controller_state scene results p P))
    (true_of : (s : ℕ) → s < length scene.setup.ports → IsTrueOf scene.kinds scene.setup (controller_state scene results p P) s (switches s))
    (led : IsPrefix (decided scene results P) (controller_state scene results p P).vr.log) (bound : (controller_state scene results p P).vr.commit ≤ length (decided scene results P)) (empty : pool P ≡ []) where
  abbrev c : ControllerState
  c = controller_state scene results p P

  commit_is : c.vr.commit ≡ length c.vr.log
  commit_is =
      resting.all_committed start c.vr d.primary.lead
      (d.primary.me ∙ leader ∙ ap (λ (v : ℕ). v % scene.setup.controllers) (sym d.primary.view) ∙ ap (λ (k : ℕ). c.vr.view % k) (sym d.primary.size))
      (let me = d.primary.me in let size = d.primary.size in omega (arith, me, size, small)) quorum d.primary.agreed members (λ b chosen other. d.keeps_up b chosen (λ e. other (e ∙ sym d.primary.me)))

  all : committed c ≡ c.vr.log
  all = take_all c.vr.commit c.vr.log (omega (arith, commit_is))

  -- all of it is decided
  decided_is : decided scene results P ≡ c.vr.log
  decided_is = prefix_equal led (let commit = commit_is in omega (arith, commit, bound))

  lives : (e : Event) → IsIn e (received c.vr.log) → (s : ℕ) → s < length scene.setup.ports → e.switch ≡ s → e.life ≤ life_of (switches s)
  lives e among s there is =
      let once = once_law scene results P setup faithful possible in
      let here : IsIn e (received (decided scene results P)) = subst (λ (l : List Entry). IsIn e (received l)) (sym decided_is) among in
      let chosen : IsIn e (events_from_life s e.life (received (decided scene results P))) =
      filter_has (λ y. nat_eq y.switch s && nat_eq y.life e.life) (received (decided scene results P)) e here (and_from (nat_eq e.switch s) (nat_eq e.life e.life) (eq-eqb e.switch s is) (eq-eqb e.life e.life refl)) in
      let made = in_prefix e (once.ordered.made s e.life there) chosen in
      let at = in_get (events_in (switch_state scene s P) e.life) e made in
      let well = ((always scene results setup faithful P possible 0).switches s there).now.well in
      let low = (well.made e.life at.0 e at.1).0 in
      subst (λ (x : SwitchState). e.life ≤ life_of x) (same s there) low
    where
      in_prefix : {xs ys : List Event} (x : Event) → IsPrefix xs ys → IsIn x xs → IsIn x ys
      in_prefix {xs = xs} x pre k = subst (λ (l : List Event). IsIn x l) (sym pre.joined) (in_left x xs pre.rest k)

  -- each switch is at rest
  module _ (s : ℕ) (there : s < length scene.setup.ports) where
    abbrev sw : SwitchState
    sw = switches s

    abbrev log : List Entry
    log = decided scene results P

    received_is : received log ≡ received c.vr.log
    received_is = ap received decided_is

    logged : events_from_life s (life_of sw) (received log) ≡ events_in sw (life_of sw)
    logged =
        let once = once_law scene results P setup faithful possible in
        let made : IsPrefix (events_from_life s (life_of sw) (received log)) (events_in sw (life_of sw)) =
        subst (λ (x : SwitchState). IsPrefix (events_from_life s (life_of sw) (received log)) (events_in x (life_of sw))) (same s there) (once.ordered.made s (life_of sw) there) in
        let count = length-filter (λ (e : Event). nat_eq e.switch s && nat_eq e.life (life_of sw)) (received log) in
        let in_log = ap (λ (l : List Event). count_by (λ (e : Event). nat_eq e.switch s && nat_eq e.life (life_of sw)) l) received_is in
        let all_logged = resting.logged_is scene.kinds scene.setup c all d.primary.settled few switches d.served true_of lives s there in
        prefix_equal made (omega (arith, count, in_log, all_logged))

    executed : length (executed_in sw (life_of sw)) ≡ length (issued scene.kinds scene.setup s (life_of sw) (received log))
    executed =
        let once = once_law scene results P setup faithful possible in
        let most = prefix_length (once.orders s (life_of sw) there) in
        let mapped = length-map (executed_in (switch_state scene s P) (life_of sw)) (λ x. x.order) in
        let own = ap (λ (x : SwitchState). length (executed_in x (life_of sw))) (same s there) in
        let well = subst (λ (x : SwitchState). x.results.executed ≡ length (executed_in x (life_of x))) (same s there) ((always scene results setup faithful P possible 0).switches s there).now.well.count in
        let settled = resting.settled_is scene.kinds scene.setup c all d.primary.settled few switches d.served true_of lives s there in
        let done = (true_of s there).settled in
        let in_log = ap (λ (l : List Event). length (issued scene.kinds scene.setup s (life_of sw) l)) received_is in
        omega (arith, most, mapped, own, well, settled, done, in_log)

    at_rest : IsAtRest scene log s (switch_state scene s P)
    at_rest = subst (λ (x : SwitchState). IsAtRest scene log s x) (sym (same s there)) (record {
      cleared = resting.held_none scene.kinds scene.setup c all d.primary.settled few switches d.served true_of lives s there;
      remembered = resting.dirty_none scene.kinds scene.setup c all d.primary.settled few switches d.served true_of lives s there;
      logged = logged;
      executed = executed;
    })

  all_processed : processed (decided scene results P) ≡ length (received (decided scene results P))
  all_processed =
      let none = resting.all_processed scene.kinds scene.setup c all d.primary.settled few switches d.served true_of lives in
      let least = ltb-false (processed (committed c)) (length (received (committed c))) none in
      let most = processed_within c.vr.log is_true.one in
      let a = ap processed (decided_is ∙ sym all) in
      let b = ap (λ (l : List Entry). length (received l)) (decided_is ∙ sym all) in
      let a' = ap processed all in
      let b' = ap (λ (l : List Entry). length (received l)) all in
      omega (arith, least, most, a, b, a', b')

  pub has_closed : HasRested scene results p P
  has_closed = record {
    closed = record { empty = empty; switches = at_rest; processed_all = all_processed };
    leads = is_true.leads;
    kept = ap (λ (b : Bool). if b then committed c else []) (up_leads c.vr is_true.leads) ∙ all ∙ sym decided_is;
  }

-- A member acknowledges more of the primary's log: more may be committed, and Settle is done behind it.
use Rattle.std.proofs.Common.{◌≡◌, ◌≤◌, ◌<◌, inl, ℕ, Bool, true, false, List, [], length, take, filter, refl, sym, ◌∙◌, ap, subst, arith}
use Rattle.std.specs.Prelude.{nat_eq, nat_lt, nat_le, not, ◌&&◌, None, if◌then◌else◌}
use Rattle.std.proofs.lemmas.Bool.{and_from, and_parts, and_right, eq-eqb, le-leb, lt-ltb, ltb-false, ltb-true, ne_eqb, not_from_false, not_from_true}
use Rattle.std.proofs.lemmas.List.{length-take-le}
use Rattle.list_facts.specs.Lists.{IsPrefix}
use Rattle.list_facts.proofs.Prefixes.{front_prefix, prefix_length, takes_prefix}
use Rattle.of_types.specs.declared.setup.Setup.{Setup}
use Rattle.vr_log.specs.declared.message.VrMessage.TheVariants as vr
use Rattle.vr_log.specs.declared.state.VrState.{VrState}
use Rattle.vr_log.specs.Log.{processed, received}
use Rattle.vr_log.specs.Members.{is_here, is_normal, is_primary, leads, most_failures}
use Rattle.vr_log.specs.Steps.{quiet}
use Rattle.vr_normal.specs.Cases.{acked_by, counted, is_agreed, is_counted, ops}
use Rattle.vr_normal.proofs.Agreed.{greatest_least, greatest_most}
use Rattle.vr_core.specs.declared.input.VrInput.TheVariants as vr_input
use Rattle.vr_core.specs.Step.{on_vr, vr_step}
use Rattle.of_switch.specs.State.{SwitchState}
use Rattle.controller_moves.proofs.ControllerLaws.Logs.{processed_prefix, received_prefix}
use Rattle.group_controller.specs.declared.messages.ControllerInput.TheVariants as controller_input
use Rattle.group_controller.specs.State.{ControllerState, Work, committed, stepped, with_no_met_limit}
use Rattle.group_controller.specs.Rules.{after_step, controller_work, starting_view}
use Rattle.group_controller.specs.Settling.{is_untold, settling}
use Rattle.run_spec.specs.declared.messages.Message.{Message}
use Rattle.closing_laws.specs.Serving.{AreFew, IsSettled, IsToldLast, IsTrueOf, IsTruePrimary}
use Rattle.closing_laws.proofs.Primary.Committing.{CommitsMore}
use Rattle.closing_laws.proofs.Primary.EventTurns.{settled_as}
use Rattle.closing_laws.proofs.Primary.Extending.{extends_none}
use Rattle.closing_laws.proofs.Primary.Finishing.{AreBoundedTo}
use Rattle.closing_laws.proofs.Primary.Growth.{log_prefix}
use Rattle.closing_laws.proofs.Primary.Heard.{processed_same, settled_same, told_same}
use Rattle.closing_laws.proofs.Primary.Hearing.{leader_input}
use Rattle.closing_laws.proofs.Primary.Holding.{answered}
use Rattle.closing_laws.proofs.Primary.Proposing.{last_same, untold_same}
use Rattle.closing_laws.proofs.Primary.Settled.{AreServed}
use Rattle.closing_laws.proofs.Primary.Telling.{quiet_nil}
use Rattle.closing_laws.proofs.Primary.Turned.{HasTurned, IsSound, bounded_to, settling_finished, stands, turned}

-- the member with this marked, and what is agreed then
abbrev pub marked : VrState → ℕ → ℕ → VrState
marked v b op = counted (acked_by v b op)

pub agreed_no_less : (v : VrState) (b op : ℕ) → v.commit ≤ (marked v b op).commit
agreed_no_less v b op = greatest_least v.commit (filter (is_agreed (acked_by v b op)) (ops (length v.log)))

pub agreed_within : (v : VrState) (b op : ℕ) → v.commit ≤ length v.log → (marked v b op).commit ≤ length v.log
agreed_within v b op within = let top = greatest_most (is_agreed (acked_by v b op)) v.commit (length v.log) in omega (arith, top, within)

-- a member's acknowledgement counts
pub counts_it : (v : VrState) (b op : ℕ) → leads v ≡ true → b < v.controllers → (b ≡ v.me → ⊥) → op ≤ length v.log → vr_step v (vr_input.From b (vr.PrepareOk v.view op)) ≡ quiet (marked v b op)
unfolding on_vr
counts_it v b op leading less other within =
    let parts = and_parts (is_normal v) (is_primary v) leading in
    let one_of = and_from (nat_lt b v.controllers) (not (nat_eq b v.me)) (lt-ltb b v.controllers less) (not_from_false (nat_eq b v.me) (ne_eqb b v.me other)) in
    let here = and_from (is_normal v) (nat_eq v.view v.view) parts.0 (eq-eqb v.view v.view refl) in
    let taken = and_from (is_here v v.view && is_primary v) (nat_le op (length v.log)) (and_from (is_here v v.view) (is_primary v) here parts.1) (le-leb op (length v.log) within) in
    ap (λ (x : Bool). if x then (if is_counted v v.view op then quiet (marked v b op) else quiet v) else quiet v) one_of ∙ ap (λ (x : Bool). if x then quiet (marked v b op) else quiet v) taken

module _ (kinds : List ℕ) (setup : Setup) (few : AreFew kinds setup) (sw : ℕ → SwitchState) (in_ out : ℕ → List Message) (c : ControllerState) (p : IsTruePrimary c)
    (several : 0 < most_failures c.vr) (settled : IsSettled kinds setup c) (served : AreServed kinds setup sw in_ c out) (b op : ℕ) (less : b < c.vr.controllers) (other : b ≡ c.vr.me → ⊥) (most : op ≤ length c.vr.log) where
  abbrev v : VrState
  v = marked c.vr b op

  abbrev pub agreed_state : ControllerState
  agreed_state = record c { vr = v }

  abbrev mid : Work
  mid = stepped (with_no_met_limit c) (quiet v)

  front : IsPrefix (committed c) (committed agreed_state)
  front = takes_prefix c.vr.commit v.commit c.vr.log (agreed_no_less c.vr b op)

  commits : CommitsMore c mid.state
  commits = record {
    view = refl;
    me = refl;
    marks = refl;
    last_told = refl;
    events = refl;
    more = front.rest;
    committed_is = front.joined;
    one = log_prefix (front_prefix v.commit c.vr.log) p.one;
    most = let a = p.ahead in let low = processed_prefix (front_prefix v.commit c.vr.log) in omega (arith, a, low);
    unfinished = λ h. p.unfinished (let low = processed_prefix (front_prefix v.commit c.vr.log) in omega (arith, h, low));
  }

  sound : IsSound mid.state
  sound = record {
    one = p.one;
    commit = agreed_within c.vr b op p.commit;
    ahead = let a = p.ahead in let low = processed_prefix front in omega (arith, a, low);
    unfinished = λ h.
        let a = p.ahead in
        let low = processed_prefix front in
        let long = prefix_length (received_prefix front) in
        let some = ltb-true (processed (committed c)) (length (received (committed c))) (p.unfinished (omega (arith, h, low))) in
        lt-ltb (processed (committed agreed_state)) (length (received (committed agreed_state))) (omega (arith, a, low, h, long, some));
    whole = λ h. absurd (omega (arith, h, several));
    me = p.me;
  }

  abbrev end : Work
  end = controller_work kinds setup c (controller_input.Vr b (vr.PrepareOk c.vr.view op))

  goes_on : after_step kinds setup (with_no_met_limit c) (quiet v) ≡ (if nat_lt c.vr.commit v.commit then settling kinds setup c.vr.commit mid else mid)
  unfolding after_step
  goes_on =
      let old = and_right (leads v) (not (leads c.vr && nat_eq c.vr.view v.view)) (not_from_true (leads c.vr && nat_eq c.vr.view v.view) (and_from (leads c.vr) (nat_eq c.vr.view v.view) p.leads (eq-eqb c.vr.view c.vr.view refl))) in
      ap (λ (x : Bool). if x then starting_view kinds setup mid else if leads v && nat_lt c.vr.commit v.commit then settling kinds setup c.vr.commit mid else mid) old
      ∙ ap (λ (x : Bool). if x && nat_lt c.vr.commit v.commit then settling kinds setup c.vr.commit mid else mid) p.leads

  pub end_is : end ≡ (if nat_lt c.vr.commit v.commit then settling kinds setup c.vr.commit mid else mid)
  end_is =
      leader_input kinds setup c (controller_input.Vr b (vr.PrepareOk c.vr.view op)) p.leads
      ∙ ap (after_step kinds setup (with_no_met_limit c)) (counts_it c.vr b op p.leads less other most) ∙ goes_on

  -- nothing more is committed
  rests : v.commit ≡ c.vr.commit → HasTurned kinds setup sw in_ agreed_state out c.marks mid
  rests same = record {
    save = refl;
    more = [];
    extends = extends_none agreed_state mid.state [] refl (λ j. refl);
    to_others_only = λ j h. refl;
    marks_are = refl;
    settled = record { told = told_all; proposed = settled_as kinds setup c mid.state committed_is refl refl ∙ settled.proposed; last = last };
    standing = stands mid.state sound told_all last;
    served = λ t below.
        answered kinds setup c mid.state t (sw t) (record { view = refl; me = refl; confirmed = refl; marks = λ i. refl; logged = refl }) (out t) (in_ t) [] (served t below)
        (inl (processed_same kinds setup c mid.state committed_is refl t (sw t))) (let k = settled_same kinds setup c mid.state committed_is refl t (sw t) in omega (arith, k)) (quiet_nil c.vr.view)
        (told_same kinds setup c mid.state committed_is refl t (sw t));
  }
    where
      committed_is : committed mid.state ≡ committed c
      committed_is = ap (λ (n : ℕ). take n c.vr.log) same

      told_all : is_untold mid.state ≡ false
      told_all = untold_same c mid.state committed_is refl ∙ settled.told

      last : IsToldLast mid.state
      last = last_same c mid.state committed_is refl settled.last

  -- the turn
  pub agreed_more : end.state.full ≡ None → IsTruePrimary end.state → ((t : ℕ) → t < length setup.ports → IsTrueOf kinds setup end.state t (sw t)) → HasTurned kinds setup sw in_ agreed_state out c.marks end
  agreed_more full p_end true_end = by_rise (nat_lt c.vr.commit v.commit) refl
    where
      by_rise : (x : Bool) → nat_lt c.vr.commit v.commit ≡ x → HasTurned kinds setup sw in_ agreed_state out c.marks end
      by_rise true rise =
          let is = end_is ∙ ap (λ (x : Bool). if x then settling kinds setup c.vr.commit mid else mid) rise in
          subst (λ (x : Work). HasTurned kinds setup sw in_ agreed_state out c.marks x) (sym is)
          (turned kinds setup sw in_ agreed_state out mid (settling kinds setup c.vr.commit mid) refl refl refl
          (settling_finished kinds setup sw in_ few c mid commits c.vr.commit out (sym (length-take-le c.vr.commit c.vr.log p.commit)) settled.told settled.last sound served
          (subst (λ (x : Work). AreBoundedTo kinds setup sw in_ (committed x.state)) is (bounded_to kinds setup sw in_ end.state p_end true_end)) (ap (λ (x : Work). x.state.full) (sym is) ∙ full)))
      by_rise false still =
          let is = end_is ∙ ap (λ (x : Bool). if x then settling kinds setup c.vr.commit mid else mid) still in
          let same : v.commit ≡ c.vr.commit = (let low = agreed_no_less c.vr b op in let high = ltb-false c.vr.commit v.commit still in omega (arith, low, high)) in
          subst (λ (x : Work). HasTurned kinds setup sw in_ agreed_state out c.marks x) (sym is) (rests same)

-- Each turn of the primary lowers what is left to do, by what it hears while a closing is drained.
use Rattle.std.proofs.Common.{◌≡◌, ◌≤◌, ◌<◌, ℕ, ◌+◌, ◌*◌, ◌/◌, ◌%◌, true, List, ◌∷◌, ◌++◌, map, length, take, refl, sym, ◌∙◌, ap, subst, arith}
use Rattle.std.specs.Prelude.{filter}
use Rattle.std.proofs.lemmas.List.{take-take}
use Rattle.list_facts.proofs.Prefixes.{takes_prefix}
use Rattle.of_types.specs.declared.message.Event.{Event}
use Rattle.of_types.specs.declared.setup.Setup.{Setup}
use Rattle.journal.specs.declared.journal.Actor.{Actor}
use Rattle.journal.specs.declared.journal.Actor.TheVariants as actor
use Rattle.vr_log.specs.Steps.{quiet}
use Rattle.vr_log.specs.declared.state.VrState.{VrState}
use Rattle.vr_log.specs.Log.{processed}
use Rattle.vr_log.specs.Members.{others_below, most_failures}
use Rattle.controller_moves.proofs.ControllerLaws.Logs.{processed_prefix}
use Rattle.dispatcher.specs.Folding.{wish}
use Rattle.of_switch.specs.State.{SwitchState, life_of}
use Rattle.group_controller.specs.Settling.{settling}
use Rattle.group_controller.specs.State.{ControllerState, Work, committed, stepped, with_no_met_limit}
use Rattle.group_controller.specs.Rules.{controller_work, on_master, on_result, on_wish}
use Rattle.run_spec.specs.declared.messages.Message.{Message}
use Rattle.run_spec.specs.Closing.{is_drawn}
use Rattle.run_spec.specs.States.{controller_message}
use Rattle.closing_laws.specs.Following.{LeadsFrom, Start}
use Rattle.closing_laws.specs.Measure.{commands_from, left_to_do, message_worth}
use Rattle.closing_laws.specs.Quorum.{has}
use Rattle.closing_laws.specs.Serving.{AreFew, IsTrueOf, IsTruePrimary}
use Rattle.closing_laws.specs.Ways.{Sent, sent_by}
use Rattle.closing_laws.proofs.Draining.Agreeing as agreeing
use Rattle.closing_laws.proofs.Draining.Drained as drained_by
use Rattle.closing_laws.proofs.Draining.Drained.{heard_of}
use Rattle.closing_laws.proofs.Draining.TurnCases as turn_cases
use Rattle.closing_laws.proofs.Draining.TurnCases.{OfTurns}
use Rattle.closing_laws.proofs.Lists.Picked.{IsPicked}
use Rattle.closing_laws.proofs.Measure.DrainingMeasure.{primary_turn_lowers}
use Rattle.closing_laws.proofs.Measure.PrimaryMeasure.{Lowers, agreed_lowers, counted_lowers, master_lowers, result_lowers, wish_lowers}
use Rattle.closing_laws.proofs.Pool.Rooms.{IsHeard}
use Rattle.closing_laws.proofs.Primary.Agreed.{marked}

-- the events that were processed as the view started are so still
abbrev pub place_of : Start → ℕ
place_of start = processed (take start.known start.log)

pub known_of : (start : Start) (s : VrState) → LeadsFrom start s → take start.known start.log ≡ take start.known s.log
known_of start s lead = ap (take start.known) (sym lead.begins) ∙ take-take start.known (length start.log) s.log lead.within

pub place_known : (start : Start) (s : VrState) → LeadsFrom start s → place_of start ≤ processed (take s.commit s.log)
place_known start s lead =
    let same = known_of start s lead in
    let less = processed_prefix (takes_prefix start.known s.commit s.log lead.known) in
    let e = ap processed same in
    omega (arith, e, less)

module _ (kinds : List ℕ) (setup : Setup) (few : AreFew kinds setup) (w p : ℕ) (quorum : List ℕ) (start : Start) (picked : IsPicked setup.controllers w quorum) (inside : has quorum p ≡ true)
    (leader : p ≡ w % setup.controllers) (small : (b : ℕ) → has quorum b ≡ true → b < setup.controllers)
    (c : ControllerState) (members : ℕ → VrState) (switches : ℕ → SwitchState) (m : Sent) (rest : List Sent) (d : drained_by.Drains kinds setup w p quorum start c members switches (m ∷ rest))
    (to : m.to ≡ actor.Controller p) (true_of : (s : ℕ) → s < length setup.ports → IsTrueOf kinds setup c s (switches s)) (true_c : IsTruePrimary c) where
  abbrev f : ℕ
  f = setup.controllers / 2

  enough : length (filter (has quorum) (others_below c.vr.me c.vr.controllers)) ≡ f
  enough =
      agreeing.enough c.vr w quorum (subst (λ (k : ℕ). IsPicked k w quorum) (sym d.primary.size) picked) (ap (has quorum) d.primary.me ∙ inside)
      ∙ ap (λ (k : ℕ). k / 2) d.primary.size

  whole : most_failures c.vr ≡ 0 → c.vr.commit ≡ length c.vr.log
  whole = turn_cases.whole kinds setup few w p quorum start picked inside leader small c members switches m rest d to true_of true_c

  -- of this turn
  abbrev pub Goes : Work → Type 0
  Goes work =
      left_to_do kinds setup quorum work.state switches (rest ++ map (sent_by controller_message (actor.Controller p)) work.letters) + 1 + 3 * commands_from kinds setup c (place_of start) ≤
      left_to_do kinds setup quorum c switches (m ∷ rest) + 3 * commands_from kinds setup work.state (place_of start)

  abbrev begun : ControllerState
  begun = with_no_met_limit c

  goes_by : (said : Message) (work : Work) → m.said ≡ said → is_drawn quorum m.from m.to ≡ true → Lowers kinds setup quorum f switches c true_c enough whole work (message_worth said) → Goes work
  goes_by said work says drawn lowers =
      primary_turn_lowers kinds setup quorum c switches m rest p (place_of start) said work d.primary.me drawn says (lowers (place_of start) (place_known start c.vr d.primary.lead))

  drawn_from : (a : Actor) → m.from ≡ a → is_drawn quorum a (actor.Controller p) ≡ has quorum p → is_drawn quorum m.from m.to ≡ true
  drawn_from a from is = ap (λ (x : Actor). is_drawn quorum x m.to) from ∙ ap (is_drawn quorum a) to ∙ is ∙ inside

  abbrev Turns : Work → Type 0
  Turns work = ((s : ℕ) → s < length setup.ports → IsTrueOf kinds setup work.state s (switches s)) → Goes work

  of_turns : OfTurns kinds setup few w p quorum start picked inside leader small c members switches m rest d to true_of true_c Turns
  of_turns = record {
    reply = λ k xid there from is none _.
        goes_by _ (on_master kinds setup begun k) is (drawn_from (actor.Switch k) from refl) (master_lowers kinds setup quorum f switches c true_c enough whole k d.primary.settled.told none);
    event = λ k xid number what there from is now.
        let e : Event = record { switch = k; life = life_of (switches k); number = number; what = what } in
        goes_by _ (on_wish kinds setup begun e (wish c.vr.log (committed c) e)) is (drawn_from (actor.Switch k) from refl)
        (wish_lowers kinds setup quorum f switches c true_c enough whole e k there refl refl (wish c.vr.log (committed c) e) (now k there).logged);
    result = λ k xid number result there from is _.
        goes_by _ (on_result kinds setup begun k (life_of (switches k)) number) is (drawn_from (actor.Switch k) from refl)
        (result_lowers kinds setup quorum f switches c true_c enough whole k (life_of (switches k)) number);
    agreed = λ b op from chosen apart is several more _.
        goes_by _ (settling kinds setup c.vr.commit (stepped begun (quiet (marked c.vr b op)))) is (drawn_from (actor.Controller b) from refl)
        (agreed_lowers kinds setup quorum f switches c true_c enough whole b op);
    counted = λ b op from chosen apart is same _.
        goes_by _ (stepped begun (quiet (marked c.vr b op))) is (drawn_from (actor.Controller b) from refl)
        (counted_lowers kinds setup quorum f switches c true_c enough whole b op same);
  }

  pub heard_lowers : IsHeard setup p quorum m → Turns (controller_work kinds setup c (heard_of m))
  heard_lowers = turn_cases.each_turn kinds setup few w p quorum start picked inside leader small c members switches m rest d to true_of true_c Turns of_turns

-- The turn in which a primary starts its view: behind it the others of its quorum keep up, each switch is served, and nothing else
-- is on its way.
use Rattle.std.proofs.Common.{◌≡◌, ◌≤◌, ◌<◌, ◌⊎◌, inl, inr, ℕ, zero, suc, ◌/◌, ◌%◌, Bool, true, false, List, [], ◌++◌, length, map, take, refl, sym, ◌∙◌, ap, subst, arith, take_all}
use Rattle.std.specs.Prelude.{nat_eq, not, ◌&&◌, Option, None, if◌then◌else◌}
use Rattle.std.proofs.lemmas.Bool.{eq-eqb, ne_eqb}
use Rattle.of_types.specs.declared.setup.Setup.{Setup}
use Rattle.journal.specs.declared.journal.Actor.{Actor}
use Rattle.journal.specs.declared.journal.Actor.TheVariants as actor
use Rattle.journal.specs.declared.journal.Letter.{Letter}
use Rattle.journal.specs.Actors.{same_actor}
use Rattle.list_facts.specs.Lists.{IsIn}
use Rattle.list_facts.proofs.Elements.{in_append, in_map}
use Rattle.list_facts.proofs.Prefixes.{prefix_take}
use Rattle.vr_log.specs.declared.entry.Entry.{Entry}
use Rattle.vr_log.specs.declared.message.VrLetter.{VrLetter}
use Rattle.vr_log.specs.declared.state.VrState.{VrState}
use Rattle.vr_log.specs.Log.{is_past_limits, processed, received}
use Rattle.vr_log.specs.Members.{leads, most_failures}
use Rattle.vr_log.specs.Steps.{to_others}
use Rattle.view_change.specs.Entering.{tells_start, view_start}
use Rattle.two_stage_log.specs.Counts.{has_unprocessed}
use Rattle.controller_moves.proofs.ControllerLaws.Logs.{processed_prefix}
use Rattle.of_switch.specs.State.{SwitchState}
use Rattle.group_controller.specs.declared.messages.ControllerSays.{ControllerSays}
use Rattle.group_controller.specs.State.{ControllerState, Work, committed, fresh, leaving, met_limit, stepped, to_members}
use Rattle.group_controller.specs.Rules.{starting_view, switches}
use Rattle.group_controller.specs.Settling.{after_finishing, after_proposal, finishing, is_alone, is_settled, processing, role_letter, settling, with_answers, with_commands}
use Rattle.run_spec.specs.declared.messages.Message.{Message}
use Rattle.run_spec.specs.States.{controller_message}
use Rattle.run_spec.specs.Closing.{is_drawn}
use Rattle.closing_laws.specs.Quorum.{has}
use Rattle.closing_laws.specs.Following.{Start, KeepsUp}
use Rattle.closing_laws.specs.Serving.{AreFew, IsOlder, IsAttended, IsTrueOf, IsTruePrimary}
use Rattle.closing_laws.specs.Views.{IsCovered, IsReadyMember, in_view}
use Rattle.closing_laws.specs.Ways.{Sent, sent_by, between, told_to}
use Rattle.closing_laws.proofs.Draining.Drained as drained_by
use Rattle.closing_laws.proofs.Draining.Drained.{IsWay, To_member, To_switch}
use Rattle.closing_laws.proofs.Draining.Leading as leading
use Rattle.closing_laws.proofs.Draining.Leading.{start_of}
use Rattle.closing_laws.proofs.Draining.PrimaryTurns as primary_turns
use Rattle.closing_laws.proofs.Draining.PrimaryTurns.{leads_alike}
use Rattle.closing_laws.proofs.Journal.Between.{between_sent, between_sent_by}
use Rattle.closing_laws.proofs.Lists.Picked.{IsPicked}
use Rattle.closing_laws.proofs.Primary.Finishing.{Grows, finishing_grows}
use Rattle.closing_laws.proofs.Primary.Opening as opening
use Rattle.closing_laws.proofs.Primary.ProperTurns.{AreForOthers, IsSamePlace, Proceeds, others_get, settling_proceeds, to_switches}
use Rattle.closing_laws.proofs.Primary.Proposing.{commands_vr, proposed_as}
use Rattle.closing_laws.proofs.Primary.Telling.{told_to-append}
use Rattle.closing_laws.proofs.Primary.Turned.{IsSound}

-- in a group of several Settle commits nothing by itself
proposed_commit : (kinds : List ℕ) (setup : Setup) (work : Work) (e : Entry) → is_alone work.state ≡ false → (after_proposal kinds setup work e).state.vr.commit ≡ work.state.vr.commit
proposed_commit kinds setup work e several = by_limits (is_past_limits work.state.vr.log e) (is_alone work.state) several
  where
    by_limits : (p a : Bool) → a ≡ false →
        (if p then leaving work (met_limit work.state e)
        else if a then with_commands kinds setup (with_answers kinds setup work.state.vr.commit (proposed_as a work e)) else proposed_as a work e).state.vr.commit ≡ work.state.vr.commit
    by_limits true a h = refl
    by_limits false true h = absurd cc
    by_limits false false h = refl

pub several_commit : (kinds : List ℕ) (setup : Setup) (m : ℕ) (work : Work) → is_alone work.state ≡ false → (finishing m kinds setup work).state.vr.commit ≡ work.state.vr.commit
unfolding finishing
several_commit kinds setup zero work several = refl
several_commit kinds setup (suc m) work several =
    by_cases (is_settled kinds setup work.state) (is_past_limits work.state.vr.log (processing work.state)) (is_alone work.state) several (proposed_commit kinds setup work (processing work.state) several)
  where
    next : Work
    next = after_proposal kinds setup work (processing work.state)

    by_cases : (x p a : Bool) → a ≡ false → next.state.vr.commit ≡ work.state.vr.commit → (if not x then work else if not p && a then finishing m kinds setup next else next).state.vr.commit ≡ work.state.vr.commit
    by_cases false p a h same = refl
    by_cases true true a h same = same
    by_cases true false true h same = absurd cc
    by_cases true false false h same = same

-- letters of the primary to others go ways that are drained
way_of_letter : (p : ℕ) (quorum : List ℕ) (letters : List (Letter ControllerSays)) → AreForOthers p letters → (m : Sent) → IsIn m (map (sent_by controller_message (actor.Controller p)) letters) → is_drawn quorum m.from m.to ≡ true → IsWay p quorum m
way_of_letter p quorum letters others m among drawn =
    let r = in_map (sent_by controller_message (actor.Controller p)) letters m among in by_actor r.0 r.1 r.2 r.0.to refl
  where
    by_actor : (l : Letter ControllerSays) → IsIn l letters → m ≡ sent_by controller_message (actor.Controller p) l → (a : Actor) → l.to ≡ a → IsWay p quorum m
    by_actor l there is (actor.Controller b) to_b =
        To_member b (ap (λ (z : Sent). z.from) is) (ap (λ (z : Sent). z.to) is ∙ to_b)
        (sym (ap (λ (z : Sent). is_drawn quorum z.from z.to) is ∙ ap (λ (a : Actor). is_drawn quorum (actor.Controller p) a) to_b) ∙ drawn) (others l there b to_b)
    by_actor l there is (actor.Switch t) to_t = To_switch t (ap (λ (z : Sent). z.from) is) (ap (λ (z : Sent). z.to) is ∙ to_t)

module _ (kinds : List ℕ) (setup : Setup) (few : AreFew kinds setup) (w : ℕ) (quorum : List ℕ) (at : ℕ → VrState) (best : ℕ) (picked : IsPicked setup.controllers w quorum)
    (small : (b : ℕ) → has quorum b ≡ true → b < setup.controllers) (ready : (j : ℕ) → has quorum j ≡ true → IsReadyMember setup.controllers w j (at j)) (covered : IsCovered quorum at best) (chosen : has quorum best ≡ true)
    (voters : ℕ → List ℕ) (promise : Option ℕ) (sw : ℕ → SwitchState) (older : (t : ℕ) → t < length setup.ports → IsOlder (sw t).fence.generation w) where
  abbrev pub n : ℕ
  n = setup.controllers

  abbrev pub p : ℕ
  p = w % n

  abbrev pub start : Start
  start = start_of p quorum at best

  abbrev pub leader : VrState
  leader = leading.leader n w quorum at best picked small ready covered chosen voters

  abbrev pub words : List VrLetter
  words = to_others leader (view_start leader)

  abbrev pub first : Work
  first = stepped (fresh leader) (record (tells_start leader) { promise = promise })

  abbrev pub opened : ControllerState
  opened = opening.opened kinds setup sw few first words refl older

  abbrev pub asking : Work
  asking = opening.asking kinds setup sw few first words refl older

  abbrev pub end : Work
  end = starting_view kinds setup first

  pub me : leader.me ≡ p
  me = leading.me n w quorum at best picked small ready covered chosen voters

  pub size : leader.controllers ≡ n
  size = leading.size n w quorum at best picked small ready covered chosen voters

  goes_on : Proceeds asking end
  goes_on = settling_proceeds kinds setup leader.commit asking

  pub same : IsSamePlace leader end.state.vr
  same = goes_on.place

  pub leads_now : leads end.state.vr ≡ true
  leads_now =
      leads_alike leader end.state.vr same ∙ eq-eqb (w % leader.controllers) leader.me (ap (λ (k : ℕ). w % k) size ∙ sym me)

  abbrev settled_from : Work
  settled_from = with_commands kinds setup (with_answers kinds setup leader.commit asking)

  kept : settled_from.state.vr ≡ leader
  kept = commands_vr kinds setup (with_answers kinds setup leader.commit asking)

  pub within : leader.commit ≤ length leader.log
  within = (leading.leads_with n w quorum at best picked small ready covered chosen voters).commit

  pub grown : Grows leader end.state.vr
  unfolding settling
  grown =
      subst (λ (v : VrState). Grows v (after_finishing kinds setup settled_from).state.vr) kept
      (finishing_grows kinds setup (length (received settled_from.state.vr.log)) settled_from (subst (λ (v : VrState). v.commit ≤ length v.log) (sym kept) within))

  pub same_commit : 0 < n / 2 → end.state.vr.commit ≡ leader.commit
  unfolding settling
  same_commit some =
      several_commit kinds setup (length (received settled_from.state.vr.log)) settled_from
      (ap (λ (v : VrState). nat_eq (v.controllers / 2) 0) kept ∙ ap (λ (k : ℕ). nat_eq (k / 2) 0) size ∙ ne_eqb (n / 2) 0 (λ e. omega (arith, e, some)))
      ∙ ap (λ (v : VrState). v.commit) kept

  -- alone all is committed
  pub whole : most_failures leader ≡ 0 → leader.commit ≡ length leader.log
  whole none = elim (leading.commit_is n w quorum at best picked small ready covered chosen voters) [
    | inl a ↦ a.1
    | inr b ↦ (let some = b.0 in let half = ap (λ (k : ℕ). k / 2) size in absurd (omega (arith, some, half, none)))
  ]

  -- what the end of the turn tells of its begin
  module _ (now : IsTruePrimary end.state) (each : (t : ℕ) → t < length setup.ports → IsTrueOf kinds setup end.state t (sw t)) (room : end.state.full ≡ None) where
    committed_is : 0 < n / 2 → committed end.state ≡ take leader.commit leader.log
    committed_is some = ap (λ (k : ℕ). take k end.state.vr.log) (same_commit some) ∙ sym (prefix_take leader.commit grown.log within)

    sound : IsSound opened
    sound = by_size (leading.commit_is n w quorum at best picked small ready covered chosen voters)
      where
        below : leader.me < leader.controllers
        below = let less = small p picked.primary in let a = me in let b = size in omega (arith, less, a, b)

        by_size : ((n / 2 ≡ 0) × (leader.commit ≡ length start.log)) ⊎ ((0 < n / 2) × (leader.commit ≡ start.known)) → IsSound opened
        by_size (inl a) =
            let all : take leader.commit leader.log ≡ leader.log = take_all leader.commit leader.log (let c = a.1 in omega (arith, c)) in
            let same_count = ap processed all in
            record {
              one = (leading.leads_with n w quorum at best picked small ready covered chosen voters).one;
              commit = within;
              ahead = omega (arith, same_count);
              unfinished = λ less. absurd (omega (arith, same_count, less));
              whole = whole;
              me = below;
            }
        by_size (inr b) =
            let is = committed_is b.0 in
            let more = processed_prefix grown.log in
            let ahead = now.ahead in
            let same_count = ap processed is in
            record {
              one = (leading.leads_with n w quorum at best picked small ready covered chosen voters).one;
              commit = within;
              ahead = omega (arith, more, ahead, same_count);
              unfinished = λ less. ap has_unprocessed (sym is) ∙ now.unfinished (omega (arith, more, same_count, less));
              whole = whole;
              me = below;
            }

    abbrev has_opened : opening.HasOpened kinds setup sw few first words refl older
    has_opened = opening.view_opens kinds setup sw few first words refl older sound room now each

    abbrev work : Work
    work = record end { letters = has_opened.letters }

    abbrev pub waited : ℕ → VrState
    waited b = in_view (at b) w (voters b) true [] None

    abbrev word : ℕ → List Message
    word b = told_to controller_message (actor.Controller b) (to_members words ++ map (role_letter w) (switches setup))

    keeps : (b : ℕ) → has quorum b ≡ true → (b ≡ p → ⊥) → KeepsUp start leader b (waited b) (word b) []
    keeps b member other = inl (leading.waits n w quorum at best picked small ready covered chosen voters b (switches setup) member other)

    primary_is : drained_by.IsDraining kinds setup w p quorum start end.state
    primary_is =
        primary_turns.is_draining kinds setup few w p quorum start picked picked.primary refl small opened leader waited word (λ b. []) work me size refl
        (leading.leads_with n w quorum at best picked small ready covered chosen voters) (leading.agrees n w quorum at best picked small ready covered chosen voters) keeps refl has_opened.more has_opened.extends has_opened.settled now

    keep_up : (b : ℕ) → has quorum b ≡ true → (b ≡ p → ⊥) → KeepsUp start end.state.vr b (waited b) (told_to controller_message (actor.Controller b) end.letters) []
    keep_up b member other =
        subst (λ (ms : List Message). KeepsUp start end.state.vr b (waited b) ms [])
        (sym (ap (told_to controller_message (actor.Controller b)) has_opened.joined ∙ told_to-append controller_message (actor.Controller b) (to_members words ++ map (role_letter w) (switches setup)) has_opened.letters))
        (primary_turns.all_keep_up kinds setup few w p quorum start picked picked.primary refl small opened leader waited word (λ b. []) work me size refl
        (leading.leads_with n w quorum at best picked small ready covered chosen voters) (leading.agrees n w quorum at best picked small ready covered chosen voters) keeps refl has_opened.more has_opened.extends has_opened.settled now b member other)

    for_others : AreForOthers p end.letters
    for_others = subst (λ (k : ℕ). AreForOthers k end.letters) me (subst (λ (ls : List (Letter ControllerSays)). AreForOthers leader.me ls) (sym goes_on.joined) all)
      where
        all : AreForOthers leader.me ((to_members words ++ map (role_letter w) (switches setup)) ++ goes_on.letters)
        all l there b to is = elim (in_append l (to_members words ++ map (role_letter w) (switches setup)) goes_on.letters there) [
          | inl first ↦ elim (in_append l (to_members words) (map (role_letter w) (switches setup)) first) [
            | inl said ↦ others_get leader (view_start leader) l said b to is
            | inr asked ↦ to_switches leader.me (map (role_letter w) (switches setup)) (λ x h. let y = in_map (role_letter w) (switches setup) x h in (y.0, ap (λ (z : Letter ControllerSays). z.to) y.2)) l asked b to is
          ]
          | inr more ↦ goes_on.others l more b to is
        ]

    abbrev pub sent : List Sent
    sent = map (sent_by controller_message (actor.Controller p)) end.letters

    apart : (b : ℕ) → (b ≡ p → ⊥) → same_actor (actor.Controller p) (actor.Controller b) ≡ false
    apart b other = ne_eqb p b (λ e. other (sym e))

    -- so the closing is drained from here
    pub drains : (members : ℕ → VrState) → ((b : ℕ) → has quorum b ≡ true → (b ≡ p → ⊥) → members b ≡ waited b) → drained_by.Drains kinds setup w p quorum start end.state members sw sent
    drains members members_are = record {
      primary = primary_is;
      keeps_up = λ b member other.
          subst (λ (l : List Message). KeepsUp start end.state.vr b (members b) l (between (actor.Controller b) (actor.Controller p) sent))
          (sym (between_sent controller_message (actor.Controller p) (actor.Controller b) end.letters))
          (subst (λ (l : List Message). KeepsUp start end.state.vr b (members b) (told_to controller_message (actor.Controller b) end.letters) l)
          (sym (between_sent_by controller_message (actor.Controller p) (actor.Controller b) (actor.Controller p) end.letters (apart b other)))
          (subst (λ (x : VrState). KeepsUp start end.state.vr b x (told_to controller_message (actor.Controller b) end.letters) []) (sym (members_are b member other)) (keep_up b member other)));
      served = λ t there.
          subst (λ (l : List Message). IsAttended kinds setup end.state t (sw t) l (between (actor.Switch t) (actor.Controller p) sent)) (sym (between_sent controller_message (actor.Controller p) (actor.Switch t) end.letters))
          (subst (λ (l : List Message). IsAttended kinds setup end.state t (sw t) (told_to controller_message (actor.Switch t) end.letters) l)
          (sym (between_sent_by controller_message (actor.Controller p) (actor.Switch t) (actor.Controller p) end.letters refl)) (has_opened.served t there));
      ways = way_of_letter p quorum end.letters for_others;
    }

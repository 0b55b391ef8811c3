-- How many entries are on their way to members, or acknowledged by them, while a closing is drained.
use Rattle.std.proofs.Common.{◌≡◌, ◌≤◌, ◌<◌, ◌⊎◌, inl, inr, ℕ, suc, ◌+◌, ◌-◌, ◌*◌, ◌/◌, max, Bool, true, false, List, [], ◌∷◌, ◌++◌, length, take, drop, refl, sym, ◌∙◌, ap, subst, arith, length-drop, take-append-drop}
use Rattle.std.specs.Prelude.{nat_eq, ◌&&◌, count_by, sum_by, slice_index, if◌then◌else◌}
use Rattle.std.specs.List.{range_with_len}
use Rattle.std.proofs.lemmas.Bool.{and_parts, cases_Bool, cases_lt, eq-eqb, ne_eqb, true≢false}
use Rattle.std.proofs.lemmas.List.{drop-drop, length-take}
use Rattle.std.proofs.lemmas.List.FromFn.{length-range_with_len}
use Rattle.std.proofs.lemmas.List.Sums.{count_by-le-length, sum_by-le-sum_by}
use Rattle.list_facts.specs.Lists.{IsIn, IsPrefix}
use Rattle.list_facts.proofs.Elements.{in_right}
use Rattle.list_facts.proofs.Prefixes.{takes_prefix}
use Rattle.of_types.specs.declared.message.Event.{Event}
use Rattle.of_types.specs.declared.setup.Setup.{Setup}
use Rattle.of_types.specs.Lives.{count_in}
use Rattle.journal.specs.declared.journal.Actor.{Actor}
use Rattle.journal.specs.declared.journal.Actor.TheVariants as actor
use Rattle.journal.specs.Actors.{same_actor}
use Rattle.journal.proofs.Leaving.{same_actor-true}
use Rattle.vr_log.specs.declared.entry.Entry.{Entry}
use Rattle.vr_log.specs.declared.message.VrMessage.TheVariants as vr
use Rattle.vr_log.specs.declared.state.VrState.{VrState}
use Rattle.vr_log.specs.Log.{processed, received}
use Rattle.vr_log.specs.Members.{others_below}
use Rattle.vr_log.proofs.Logs.{length_is, received-append}
use Rattle.controller_moves.proofs.ControllerLaws.Logs.{count_prefix, processed-append, processed_prefix, received_prefix}
use Rattle.of_switch.specs.State.{SwitchState, life_of}
use Rattle.group_controller.specs.State.{ControllerState}
use Rattle.run_spec.specs.declared.messages.Message.{Message}
use Rattle.run_spec.specs.declared.messages.Message.TheVariants as message
use Rattle.closing_laws.specs.Quorum.{has}
use Rattle.closing_laws.specs.Ways.{Sent, goes, between}
use Rattle.closing_laws.specs.Following.{AreAcknowledged, ArePrepares, KeepsUp, Start}
use Rattle.closing_laws.proofs.Journal.Between.{between_own}
use Rattle.closing_laws.proofs.Lists.Numbers.{below_has, below_others, has_in, in_has, others_but_one}
use Rattle.closing_laws.proofs.Lists.Numbers as numbers
use Rattle.closing_laws.proofs.Lists.Picked.{IsPicked, another, below_range}
use Rattle.closing_laws.proofs.Lists.Sums.{sum_lower, sum_most}
use Rattle.closing_laws.proofs.Measure.LeftEvents.{one_more}
use Rattle.closing_laws.proofs.Pool.Broadcasts.{HasPlace, Tells_entry, Acknowledges_entry, Is_other, is_told, near_whole, prepares_to, tells, untold}
use Rattle.closing_laws.proofs.Pool.PrepareRooms as prepare_rooms
use Rattle.closing_laws.proofs.Pool.Rooms.{is_prepare, waits}
use Rattle.closing_laws.proofs.Pool.Rooms as rooms
use Rattle.closing_laws.proofs.Pool.Waiting.{waits_cons}
use Rattle.closing_laws.proofs.Primary.Numbering.{of_range}
use Rattle.closing_laws.proofs.Start.Rounds.{below_in}
use Rattle.closing_laws.proofs.Switches.Saying.{count_append, count_cons, count_none}
use Rattle.run_spec.proofs.Pasts.{self_controller}

-- ---- sums

-- events of few switches, each of the life that its switch has
events_few : (life : ℕ → ℕ) (n : ℕ) (events : List Event) → ((e : Event) → IsIn e events → (e.switch < n) × (e.life ≡ life e.switch)) →
    length events ≤ sum_by (λ s. count_in s (life s) events) (range_with_len 0 n)
events_few life n [] each = omega arith
events_few life n (e ∷ events) each =
    let here = each e (inl refl) in
    let rest = events_few life n events (λ x among. each x (inr among)) in
    let more = one_more n life e events here.0 1 (inr (refl, here.1)) in
    omega (arith, rest, more)

-- so many members are others
others_count : (p n : ℕ) → p < n → length (others_below p n) + 1 ≡ n
others_count p n less =
    let all = others_but_one p (others_below n n) (numbers.below_once n n) (below_in n n p less (ne_eqb n p (λ e. omega (arith, e, less)))) in
    let same = ap (λ (l : List ℕ). length l) (below_others p n n (omega arith)) in
    let long = ap (λ (l : List ℕ). length l) (below_range n n (omega arith)) ∙ length-range_with_len 0 n in
    omega (arith, all, same, long)

-- ---- what is on its way, by where it goes

-- a message acknowledges an entry
abbrev is_ok : Message → Bool
is_ok (message.Vr (vr.PrepareOk view op)) = true
is_ok _ = false

-- this member does
abbrev answers : ℕ → Sent → Bool
answers b m = is_ok m.said && same_actor m.from (actor.Controller b)

abbrev oks_from : ℕ → List Sent → ℕ
oks_from b waiting = count_by (answers b) waiting

not_ok : (m : Message) → is_prepare m ≡ false → is_ok m ≡ false
not_ok (message.Vr (vr.PrepareOk view op)) h = absurd (true≢false h)
not_ok _ h = refl

-- messages of which each that counts goes one way
count_between : (t : Message → Bool) (u : Sent → Bool) (from to : Actor) (waiting : List Sent) → ((m : Sent) → IsIn m waiting → u m ≡ true → (t m.said ≡ true) × (m.from ≡ from) × (m.to ≡ to)) →
    count_by u waiting ≤ count_by t (between from to waiting)
count_between t u from to [] each = omega arith
count_between t u from to (m ∷ waiting) each =
    by_test (u m) refl (count_between t u from to waiting (λ x among. each x (inr among))) (count_cons u m waiting)
  where
    no_fewer : (b : Bool) → count_by t (between from to waiting) ≤ count_by t (if b then m.said ∷ between from to waiting else between from to waiting)
    no_fewer true = let parts = count_cons t m.said (between from to waiting) in omega (arith, parts)
    no_fewer false = omega arith

    by_test : (b : Bool) → u m ≡ b → count_by u waiting ≤ count_by t (between from to waiting) → count_by u (m ∷ waiting) ≡ (if u m then 1 else 0) + count_by u waiting →
        count_by u (m ∷ waiting) ≤ count_by t (between from to (m ∷ waiting))
    by_test true is rest parts =
        let r = each m (inl refl) is in
        let one = ap {B = ℕ} (λ (c : Bool). if c then 1 else 0) is in
        let same = ap (count_by t) (between_own from to m waiting r.1 r.2) ∙ count_cons t m.said (between from to waiting) in
        let passes = ap {B = ℕ} (λ (c : Bool). if c then 1 else 0) r.0 in
        omega (arith, rest, parts, one, same, passes)
    by_test false is rest parts =
        let none = ap {B = ℕ} (λ (c : Bool). if c then 1 else 0) is in
        let more = no_fewer (goes from to m) in
        omega (arith, rest, parts, none, more)

-- what is between two actors is on its way
between_in : (from to : Actor) (waiting : List Sent) (x : Message) → IsIn x (between from to waiting) → (m : Sent) × IsIn m waiting × (x ≡ m.said)
between_in from to [] x among = absurd among
between_in from to (m ∷ waiting) x among = by_way (goes from to m) among (λ later. between_in from to waiting x later)
  where
    by_way : (b : Bool) → IsIn x (if b then m.said ∷ between from to waiting else between from to waiting) → (IsIn x (between from to waiting) → (y : Sent) × IsIn y waiting × (x ≡ y.said)) →
        (y : Sent) × IsIn y (m ∷ waiting) × (x ≡ y.said)
    by_way true (inl is) later = (m, inl refl, is)
    by_way true (inr h) later = let r = later h in (r.0, inr r.1, r.2)
    by_way false h later = let r = later h in (r.0, inr r.1, r.2)

-- ---- what members are told and acknowledge

told_length : (view most place : ℕ) (entries : List Entry) (ms : List Message) → ArePrepares view most place entries ms → length ms ≡ length entries
told_length view most place [] [] h = refl
told_length view most place [] (m ∷ ms) h = absurd h
told_length view most place (e ∷ entries) [] h = absurd h
told_length view most place (e ∷ entries) (m ∷ ms) h = ap suc (told_length view most (place + 1) entries ms h.1)

acks_length : (view known acked len : ℕ) (ms : List Message) → acked ≤ len → AreAcknowledged view known acked len ms → length ms + acked ≤ len
acks_length view known acked len [] le h = omega (arith, le)
acks_length view known acked len (m ∷ ms) le h =
    let more = h.2 in
    let rest = acks_length view known h.0 len ms h.3 h.4 in
    omega (arith, more, rest)

-- where the first of them is for no entry before the last of the first log
acks_late : (view known acked len least : ℕ) (ms : List Message) → least ≤ len → AreAcknowledged view known acked len ms → ((op : ℕ) → IsIn (message.Vr (vr.PrepareOk view op)) ms → least ≤ op) → length ms + least ≤ len + 1
acks_late view known acked len least [] le h each = omega (arith, le)
acks_late view known acked len least (m ∷ ms) le h each =
    let low = each h.0 (inl (sym h.1)) in
    let rest = acks_length view known h.0 len ms h.3 h.4 in
    omega (arith, low, rest)

module _ (kinds : List ℕ) (setup : Setup) (w p : ℕ) (quorum : List ℕ) (start : Start) where
  abbrev n : ℕ
  n = setup.controllers

  abbrev first : ℕ
  first = length start.log

  abbrev PrepareRoom : ControllerState → (ℕ → VrState) → (ℕ → SwitchState) → List Sent → Type 0
  PrepareRoom c members switches waiting = prepare_rooms.PrepareRoom kinds setup w p quorum start c members switches waiting

  module _ (c : ControllerState) (members : ℕ → VrState) (switches : ℕ → SwitchState) (waiting : List Sent) (d : rooms.Drains kinds setup w p quorum start c members switches waiting)
      (room : PrepareRoom c members switches waiting) where
    abbrev log : List Entry
    log = c.vr.log

    -- what is known to be committed, or of the first log
    abbrev safe : ℕ
    safe = max c.vr.commit (length start.log)

    first_within : first ≤ length log
    first_within = let same = ap (λ (l : List Entry). length l) d.primary.lead.begins in let long = length-take first log in omega (arith, same, long)

    safe_within : safe ≤ length log
    safe_within = let a = first_within in let b = d.primary.lead.commit in omega (arith, a, b)

    -- ---- a member

    told_way : (b : ℕ) (m : Sent) → IsIn m waiting → tells b m ≡ true → (is_told m.said ≡ true) × (m.from ≡ actor.Controller p) × (m.to ≡ actor.Controller b)
    told_way b m among is =
        let parts = and_parts (is_told m.said) (same_actor m.to (actor.Controller b)) is in
        (parts.0, by_place (room.placed m among) parts.0, same_actor-true m.to (actor.Controller b) parts.1)
      where
        by_place : HasPlace p n quorum first m → is_told m.said ≡ true → m.from ≡ actor.Controller p
        by_place (Tells_entry j view op commit entry from to less other says) told = from
        by_place (Acknowledges_entry j view op from to chosen other late says) told = absurd (true≢false (sym told ∙ ap is_told says))
        by_place (Is_other off) told = absurd (true≢false (sym told ∙ untold m.said off))

    ok_way : (b : ℕ) (m : Sent) → IsIn m waiting → answers b m ≡ true → (is_ok m.said ≡ true) × (m.from ≡ actor.Controller b) × (m.to ≡ actor.Controller p)
    ok_way b m among is =
        let parts = and_parts (is_ok m.said) (same_actor m.from (actor.Controller b)) is in
        (parts.0, same_actor-true m.from (actor.Controller b) parts.1, by_place (room.placed m among) parts.0)
      where
        by_place : HasPlace p n quorum first m → is_ok m.said ≡ true → m.to ≡ actor.Controller p
        by_place (Tells_entry j view op commit entry from to less other says) told = absurd (true≢false (sym told ∙ ap is_ok says))
        by_place (Acknowledges_entry j view op from to chosen other late says) told = to
        by_place (Is_other off) told = absurd (true≢false (sym told ∙ not_ok m.said off))

    ok_late : (b view op : ℕ) → IsIn (message.Vr (vr.PrepareOk view op)) (between (actor.Controller b) (actor.Controller p) waiting) → first ≤ op
    ok_late b view op among =
        let r = between_in (actor.Controller b) (actor.Controller p) waiting (message.Vr (vr.PrepareOk view op)) among in by_place r.0 r.2 (room.placed r.0 r.1)
      where
        by_place : (m : Sent) → message.Vr (vr.PrepareOk view op) ≡ m.said → HasPlace p n quorum first m → first ≤ op
        by_place m is (Tells_entry j v o commit entry _ _ _ _ says) = absurd (let e : message.Vr (vr.PrepareOk view op) ≡ message.Vr (vr.Prepare v o commit entry) = is ∙ says in cc)
        by_place m is (Acknowledges_entry j v o _ _ _ _ low says) =
            let e : message.Vr (vr.PrepareOk view op) ≡ message.Vr (vr.PrepareOk v o) = is ∙ says in
            let same : op ≡ o = cc in
            omega (arith, low, same)
        by_place m is (Is_other off) = absurd (true≢false (ap is_prepare is ∙ off))

    -- with one of the quorum
    member_few : (b : ℕ) → has quorum b ≡ true → (b ≡ p → ⊥) → prepares_to b waiting + oks_from b waiting + safe ≤ length log + 1
    member_few b chosen other = by_state (d.keeps_up b chosen other)
      where
        out : List Message
        out = between (actor.Controller p) (actor.Controller b) waiting

        in_ : List Message
        in_ = between (actor.Controller b) (actor.Controller p) waiting

        told : prepares_to b waiting ≤ count_by is_told out
        told = count_between is_told (tells b) (actor.Controller p) (actor.Controller b) waiting (told_way b)

        oks : oks_from b waiting ≤ length in_
        oks = let a = count_between is_ok (answers b) (actor.Controller b) (actor.Controller p) waiting (ok_way b) in let most = count_by-le-length is_ok in_ in omega (arith, a, most)

        -- where it has acknowledged nothing no more than the first log is safe
        safe_none : slice_index c.vr.acked b ≡ 0 → safe ≡ first
        safe_none none = elim room.counted.commit [
          | inl known ↦ let within = d.primary.lead.within in omega (arith, known, within)
          | inr more ↦ let low = more.1 b chosen other in omega (arith, low, none)
        ]

        safe_some : first ≤ slice_index c.vr.acked b → safe ≤ slice_index c.vr.acked b
        safe_some some = elim room.counted.commit [
          | inl known ↦ let within = d.primary.lead.within in omega (arith, known, within, some)
          | inr more ↦ let low = more.1 b chosen other in omega (arith, low, some)
        ]

        by_state : KeepsUp start c.vr b (members b) out in_ → prepares_to b waiting + oks_from b waiting + safe ≤ length log + 1
        by_state (inl h) =
            let a = told in
            let b = oks in
            let word = ap (count_by is_told) h.word ∙ count_cons is_told (message.Vr (vr.StartView c.vr.view start.base start.known (drop start.base start.log))) h.prepares in
            let most = count_by-le-length is_told h.prepares in
            let long = told_length c.vr.view c.vr.commit first (drop first log) h.prepares h.entries in
            let left = length-drop first log in
            let silent = ap (λ (l : List Message). length l) h.silent in
            let all = first_within in
            let none = safe_none h.acked in
            omega (arith, a, b, word, most, long, left, silent, all, none)
        by_state (inr h) =
            let a = told in
            let o = oks in
            let most = count_by-le-length is_told out in
            let long = told_length c.vr.view c.vr.commit (length (members b).log) (drop (length (members b).log) log) out h.entries in
            let left = length-drop (length (members b).log) log in
            let within = h.most in
            elim (room.counted.acked b chosen other) [
              | inl none ↦
                  let same = safe_none none in
                  let few = acks_late c.vr.view start.known (slice_index c.vr.acked b) (length (members b).log) first in_ h.least h.acks (ok_late b c.vr.view) in
                  omega (arith, a, o, most, long, left, within, same, few)
              | inr some ↦
                  let low = safe_some some in
                  let few = acks_length c.vr.view start.known (slice_index c.vr.acked b) (length (members b).log) in_ h.acked h.acks in
                  omega (arith, a, o, most, long, left, within, low, few)
            ]

    module _ (picked : IsPicked setup.controllers w quorum) (inside : has quorum p ≡ true) (small : (b : ℕ) → has quorum b ≡ true → b < setup.controllers) where
      -- and with any other member
      other_few : (b : ℕ) → b < n → (b ≡ p → ⊥) → prepares_to b waiting + oks_from b waiting + safe ≤ length log + 2
      other_few b less apart = elim (cases_Bool (has quorum b)) [
        | inl chosen ↦ let few = member_few b chosen apart in omega (arith, few)
        | inr out ↦
            let o = another n w p quorum picked inside several in
            let few = member_few o.0 o.1 o.2 in
            let near = near_whole b o.0 waiting (room.near b o.0 less (small o.0 o.1) apart o.2) in
            let none = silent out in
            omega (arith, few, near, none)
      ]
        where
          several : 0 < n / 2
          several = elim (cases_lt 0 (n / 2)) [ inl some ↦ some | inr none ↦ absurd (apart (let less_p = small p inside in omega (arith, none, less, less_p))) ]

          silent : has quorum b ≡ false → oks_from b waiting ≡ 0
          silent out = count_none (answers b) waiting (λ m among. by_place m (room.placed m among) (answers b m) refl)
            where
              by_place : (m : Sent) → HasPlace p n quorum first m → (x : Bool) → answers b m ≡ x → x ≡ false
              by_place m place false is = refl
              by_place m place true is = by_kind place
                where
                  parts : (is_ok m.said ≡ true) × (same_actor m.from (actor.Controller b) ≡ true)
                  parts = and_parts (is_ok m.said) (same_actor m.from (actor.Controller b)) is

                  by_kind : HasPlace p n quorum first m → true ≡ false
                  by_kind (Tells_entry j view op commit entry _ _ _ _ says) = sym parts.0 ∙ ap is_ok says
                  by_kind (Acknowledges_entry j view op from _ chosen _ _ _) =
                      let e : actor.Controller j ≡ actor.Controller b = sym from ∙ same_actor-true m.from (actor.Controller b) parts.1 in
                      let same : j ≡ b = cc in
                      sym chosen ∙ ap (has quorum) same ∙ out
                  by_kind (Is_other off) = sym parts.0 ∙ not_ok m.said off

      -- each that is on its way is with one of them
      all_with : (ms : List Sent) → ((m : Sent) → IsIn m ms → HasPlace p n quorum first m) → waits is_prepare ms ≤ sum_by (λ b. prepares_to b ms + oks_from b ms) (others_below p n)
      all_with [] each = omega arith
      all_with (m ∷ ms) each =
          let rest = all_with ms (λ x among. each x (inr among)) in
          let parts = waits_cons is_prepare m ms in
          elim (by_place (each m (inl refl))) [
            | inl (b, less, apart, more) ↦
                let one = sum_lower (λ b. prepares_to b ms + oks_from b ms) (λ b. prepares_to b (m ∷ ms) + oks_from b (m ∷ ms)) (others_below p n) b 1
                (has_in (others_below p n) b (below_in p n b less (ne_eqb p b (λ e. apart (sym e))))) no_fewer more in
                let most = at_most (is_prepare m.said) in
                omega (arith, rest, parts, one, most)
            | inr off ↦
                let none = ap {B = ℕ} (λ (x : Bool). if x then 1 else 0) off in
                let all = sum_by-le-sum_by (λ b. prepares_to b ms + oks_from b ms) (λ b. prepares_to b (m ∷ ms) + oks_from b (m ∷ ms)) (others_below p n) no_fewer in
                omega (arith, rest, parts, none, all)
          ]
        where
          at_most : (x : Bool) → (if x then 1 else 0) ≤ 1
          at_most true = omega arith
          at_most false = omega arith

          no_fewer : (b : ℕ) → prepares_to b ms + oks_from b ms ≤ prepares_to b (m ∷ ms) + oks_from b (m ∷ ms)
          no_fewer b = let x = count_cons (tells b) m ms in let y = count_cons (answers b) m ms in omega (arith, x, y)

          by_place : HasPlace p n quorum first m →
              ((b : ℕ) × (b < n) × (b ≡ p → ⊥) × (prepares_to b ms + oks_from b ms + 1 ≤ prepares_to b (m ∷ ms) + oks_from b (m ∷ ms))) ⊎ (is_prepare m.said ≡ false)
          by_place (Tells_entry b view op commit entry from to less other says) = inl (
            b,
            less,
            other,
            (let x = count_cons (tells b) m ms in
                let y = count_cons (answers b) m ms in
                let one = ap {B = ℕ} (λ (z : Message). if is_told z && same_actor m.to (actor.Controller b) then 1 else 0) says in
                let two = ap {B = ℕ} (λ (a : Actor). if same_actor a (actor.Controller b) then 1 else 0) to in
                let three = ap {B = ℕ} (λ (z : Bool). if z then 1 else 0) (self_controller b) in
                omega (arith, x, y, one, two, three)),
          )
          by_place (Acknowledges_entry b view op from to chosen other late says) = inl (
            b,
            small b chosen,
            other,
            (let x = count_cons (tells b) m ms in
                let y = count_cons (answers b) m ms in
                let one = ap {B = ℕ} (λ (z : Message). if is_ok z && same_actor m.from (actor.Controller b) then 1 else 0) says in
                let two = ap {B = ℕ} (λ (a : Actor). if same_actor a (actor.Controller b) then 1 else 0) from in
                let three = ap {B = ℕ} (λ (z : Bool). if z then 1 else 0) (self_controller b) in
                omega (arith, x, y, one, two, three)),
          )
          by_place (Is_other off) = inr off

      -- ---- the log

      module _ (truths : rooms.AreTrue kinds setup c switches) (finished : rooms.HasFinished kinds setup w p quorum start c switches) (cleared : rooms.HasCleared kinds setup w p quorum start c members switches waiting)
          (few_ports : length setup.ports ≤ 64) (known_switches : (e : Event) → IsIn e (received c.vr.log) → e.switch < length setup.ports) where
        abbrev late : List Event
        late = received (drop safe log)

        events_are : received log ≡ received (take safe log) ++ late
        events_are = ap received (sym (take-append-drop safe log)) ∙ received-append (take safe log) (drop safe log)

        -- few of them are of one switch
        of_switch : (s : ℕ) → s < length setup.ports → count_in s (life_of (switches s)) late ≤ 8
        of_switch s there =
            let life = life_of (switches s) in
            let parts = ap (count_in s life) events_are ∙ count_append (λ (e : Event). nat_eq e.switch s && nat_eq e.life life) (received (take safe log)) late in
            let most = room.logged s there in
            let gone = cleared.cleared s there in
            let before = count_prefix s life (received_prefix (subst (λ (l : List Entry). IsPrefix l (take safe log)) d.primary.lead.begins (takes_prefix first safe log (omega arith)))) in
            omega (arith, parts, most, gone, before)

        late_is : (e : Event) → IsIn e late → (e.switch < length setup.ports) × (e.life ≡ life_of (switches e.switch))
        late_is e among = (
          known_switches e (subst (λ (l : List Event). IsIn e l) (sym events_are) (in_right e (received (take safe log)) late among)),
          finished.present e (subst (λ (l : List Event). IsIn e l) (sym later) (in_right e (received (take (safe - first) (drop first log))) late among)),
        )
          where
            later : received (drop first log) ≡ received (take (safe - first) (drop first log)) ++ late
            later =
                let place : first + (safe - first) ≡ safe = omega arith in
                ap received (sym (take-append-drop (safe - first) (drop first log))) ∙ received-append (take (safe - first) (drop first log)) (drop (safe - first) (drop first log))
                ∙ ap (λ (l : List Entry). received (take (safe - first) (drop first log)) ++ received l) (drop-drop (safe - first) first log ∙ ap (λ (k : ℕ). drop k log) place)

        events_most : length late ≤ 8 * 64
        events_most =
            let all = events_few (λ s. life_of (switches s)) (length setup.ports) late late_is in
            let most = sum_most 0 8 (λ s. count_in s (life_of (switches s)) late) (λ s. 0) (range_with_len 0 (length setup.ports)) (λ s among.
            let less = (of_range 0 (length setup.ports) s among).1 in
            let few = of_switch s (omega (arith, less)) in
            omega (arith, few)) in
            let long = length-range_with_len 0 (length setup.ports) in
            omega (arith, all, most, long, few_ports)

        -- the log goes on for few entries
        pub log_few : length c.vr.log ≤ max c.vr.commit (length start.log) + (8 * 64 + 1)
        log_few =
            let left = length-drop safe log in
            let both = length_is (drop safe log) in
            let events = events_most in
            let parts = ap processed (sym (take-append-drop safe log)) ∙ processed-append (take safe log) (drop safe log) in
            let ahead = truths.primary.ahead in
            let low = processed_prefix (takes_prefix c.vr.commit safe log (omega arith)) in
            let within = safe_within in
            omega (arith, left, both, events, parts, ahead, low, within)

        -- so few are on their way
        pub prepares_few : setup.controllers ≤ 7 → waits is_prepare waiting ≤ 6 * (8 * 64 + 4)
        prepares_few group =
            let all = all_with waiting room.placed in
            let most = sum_most 0 (8 * 64 + 4) (λ b. prepares_to b waiting + oks_from b waiting) (λ b. 0) (others_below p n) (λ b among.
            let there = below_has p n b (in_has (others_below p n) b among) in
            let few = other_few b there.0 (λ e. true≢false (sym (eq-eqb p b (sym e)) ∙ there.1)) in
            let end = log_few in
            omega (arith, few, end)) in
            let count = others_count p n (small p inside) in
            omega (arith, all, most, count, group)

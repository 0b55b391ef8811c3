-- A closing whose view has started goes on, entry by entry, until nothing waits.
use Rattle.std.proofs.Common.{◌≡◌, ◌≤◌, ◌<◌, ◌⊎◌, inl, inr, ℕ, ◌%◌, Bool, true, false, List, [], ◌∷◌, ◌++◌, length, refl, sym, ◌∙◌, ap, subst, arith, ◌+◌}
use Rattle.std.specs.Prelude.{Option, Some, None, if◌then◌else◌}
use Rattle.std.proofs.lemmas.List.{length-append}
use Rattle.std.proofs.lemmas.List.Sums.{sum_by-cons}
use Rattle.of_types.specs.Setups.{IsSetup}
use Rattle.journal.specs.declared.journal.Actor.{Actor}
use Rattle.journal.specs.declared.journal.Actor.TheVariants as actor
use Rattle.journal.specs.declared.journal.JournalEntry.{JournalEntry}
use Rattle.journal.specs.declared.journal.JournalEntry.TheVariants.{Post, Draw, Lose, Local, Idle, Refused}
use Rattle.journal.specs.declared.journal.Letter.{Letter}
use Rattle.journal.specs.declared.journal.Packet.{Packet}
use Rattle.journal.specs.declared.journal.SaveResult.{SaveResult}
use Rattle.journal.specs.Actors.{actor_of}
use Rattle.journal.specs.Pool.{pool, numbered_letters}
use Rattle.journal.specs.Turns.{IsWithinLimits}
use Rattle.list_facts.specs.Lists.{IsIn}
use Rattle.vr_log.specs.declared.entry.LogFull.{LogFull}
use Rattle.run_spec.specs.States.{Scene, IsFaithful, ControllerAt, SwitchAt, controller_message, sealed_letters, switch_message}
use Rattle.run_spec.specs.Legal.{IsPossible}
use Rattle.run_spec.specs.Script.{IsInputOf, IsPosted, owed_of}
use Rattle.run_spec.specs.Closing.{Done, IsEnd, Phase, Draining, Met, ClosingMove, Ends, ClosesTo, IsMove, after_move, drained, is_drawn, met_by, next_drained, next_move, is_turn, count_turns}
use Rattle.run_spec.proofs.Pasts.{possible_before, self_controller}
use Rattle.run_spec.proofs.Pools.{one_actor}
use Rattle.run_laws.proofs.RunAgreement.Pasts.{fits}
use Rattle.closing_laws.specs.Quorum.{has}
use Rattle.closing_laws.specs.Ways.{Sent}
use Rattle.closing_laws.specs.Following.{Start}
use Rattle.closing_laws.specs.Starts.{IsDraining, Last_suspects, Drains}
use Rattle.closing_laws.proofs.Draining.Drained.{From_member, From_switch, IsWay, To_member, To_switch}
use Rattle.closing_laws.proofs.Draining.FirstWaiting as first
use Rattle.closing_laws.proofs.Draining.MemberDraws as member_by
use Rattle.closing_laws.proofs.Draining.PrimaryDraws as primary_by
use Rattle.closing_laws.proofs.Draining.Standing as standing
use Rattle.closing_laws.proofs.Draining.Standing.{HoldsThroughout, Owing, Resting, idle_known, idle_promised, post_carries, posts, posts_left, promised, true_of}
use Rattle.closing_laws.proofs.Draining.SwitchDraws as switch_by
use Rattle.closing_laws.proofs.Journal.Carrying.{AllCarry, Carries, HeadOf, Posts, Loses, head_of, none_carried, switch_steps}
use Rattle.closing_laws.proofs.Journal.Posting.{later, never_posts, possible_under, switch_fits, within_under}
use Rattle.closing_laws.proofs.Journal.Taking.{at, length-numbered, own_steps}
use Rattle.closing_laws.proofs.Lists.Paired.{paired_length}
use Rattle.closing_laws.proofs.Pool.Room.{finds_room}

module _ {B : Type 0} (scene : Scene B) (results : List (List SaveResult)) (setup : IsSetup scene.setup) (faithful : IsFaithful scene.sealing) (w : ℕ) (quorum : List ℕ) (start : Start)
    (holds : HoldsThroughout scene results w quorum start) where
  abbrev n : ℕ
  n = scene.setup.controllers

  abbrev p : ℕ
  p = w % scene.setup.controllers

  abbrev Past : Type 0
  Past = List (JournalEntry B)

  abbrev Stands : Past → List Sent → Type 0
  Stands = standing.Stands scene results w quorum start

  abbrev Rests : Past → Type 0
  Rests = standing.Rests scene results w quorum start

  abbrev Mode : Past → Type 0
  Mode = standing.Mode scene results w quorum start

  abbrev left_after : Past → List Sent → ℕ
  left_after = standing.left_after scene results w quorum start

  abbrev left_in : (P : Past) → Mode P → ℕ
  left_in = standing.left_in scene results w quorum start

  abbrev turns_known : Past → ℕ
  turns_known = standing.turns_known scene results w quorum start

  abbrev HavePromised : Past → Type 0
  HavePromised = standing.HavePromised scene results w quorum start

  abbrev owes : Actor → Past → List Sent
  owes = standing.owes scene results w quorum start

  abbrev rested : (P : Past) (mode : Mode P) → IsPosted scene results P → Rests P
  rested = standing.rested scene results w quorum start

  abbrev rested_left : (P : Past) (mode : Mode P) (posted : IsPosted scene results P) → left_after P (rested P mode posted).waiting ≡ left_in P mode
  rested_left = standing.rested_left scene results w quorum start

  abbrev mode_promised : (P : Past) → Mode P → HavePromised P
  mode_promised = standing.mode_promised scene results w quorum start

  -- what is owed finds room
  finds : (P : Past) (mode : Mode P) (a : Actor) (first : ℕ) (letters : List (Letter B)) (lost : ℕ) → IsInputOf a P → IsPossible scene results (Post a first letters lost ∷ P) →
      IsWithinLimits scene.sealing.size (Post a first letters lost ∷ P) → lost ≡ 0
  finds P (Resting r) a first letters lost input possible within =
      absurd (never_posts scene results P r.posted a first letters lost input possible)
  finds P (Owing o) a first letters lost input possible within =
      let it = subst (λ (Q : Past). IsInputOf a Q) o.is input in
      let whose : actor_of o.newest ≡ a = one_actor (actor_of o.newest) a it.1 in
      let stands = subst (λ (b : Actor). Stands P (o.waiting ++ owes b P)) whose o.stands in
      let old = possible_before scene results _ P possible in
      let had = promised scene results w quorum start P (o.waiting ++ owes a P) stands in
      let few = holds.has_room (at scene results p P).now stands.members stands.switches (o.waiting ++ owes a P) stands.drains (true_of scene results w quorum start P (o.waiting ++ owes a P) stands (holds.truths P old had)) (holds.logged P old had) stands.roomy in
      let both = length-append o.waiting (owes a P) in
      let waits = paired_length (Carries scene.sealing) (pool P) o.waiting o.carries in
      let said = paired_length (Carries scene.sealing) (numbered_letters first a letters) (owes a P) (post_carries scene results w quorum start setup faithful a first letters lost P possible) in
      let same = length-numbered first a letters in
      finds_room scene.sealing.size a first letters lost P possible.orderly within (omega (arith, few, both, waits, said, same))

  -- all that comes behind a past in which the closing stands
  pub record Ended (primary : ℕ) (P : Past) : Type 0 where
    pub who : primary ≡ p
    pub empty : pool P ≡ []
    pub stands : Stands P []

  -- where a proposal met the limit, nothing more is done, and the closing ends so
  pub never_done : (limit : LogFull) (P : Past) (rest : List (JournalEntry B)) (last : Phase) (primary : ℕ) → ClosesTo scene results (Met limit) P rest last → IsEnd (next_move scene results last (later P rest)) (Done primary) → ⊥
  never_done limit P [] last primary closes end = let e = subst (λ (x : Phase). IsEnd (next_move scene results x P) (Done primary)) closes end in cc
  never_done limit P (Post a first letters lost ∷ rest) last primary closes end = never_done limit (Post a first letters lost ∷ P) rest last primary closes.1 end
  never_done limit P (Draw a packet keep ∷ rest) last primary closes end = closes.1.1
  never_done limit P (Lose a packet ∷ rest) last primary closes end = closes.1.1
  never_done limit P (Local a input ∷ rest) last primary closes end = closes.1.1
  never_done limit P (Idle a ∷ rest) last primary closes end = closes.1.1
  never_done limit P (Refused a ∷ rest) last primary closes end = closes.1.1

  -- whether an entry is a turn
  abbrev pub turn_of : JournalEntry B → ℕ
  turn_of e = if is_turn e then 1 else 0

  -- where an entry leads: the closing goes on, or its primary has met a limit. What was left is lower by its turn, but for the commands
  -- of what is newly committed
  pub data Went (e : JournalEntry B) (rest : List (JournalEntry B)) (P : Past) (last : Phase) (left_before : ℕ) : Type 0 where
    On : (mode : Mode (e ∷ P)) → left_in (e ∷ P) mode + turn_of e + turns_known P ≤ left_before + turns_known (e ∷ P) → ClosesTo scene results (Draining w quorum) (e ∷ P) rest last → Went e rest P last left_before
    Meets : (limit : LogFull) → turn_of e + turns_known P ≤ left_before + turns_known (e ∷ P) → HavePromised (e ∷ P) → ClosesTo scene results (Met limit) (e ∷ P) rest last → Went e rest P last left_before

  -- one entry more
  module _ (rest : List (JournalEntry B)) (P : Past) (last : Phase) (earlier : IsPossible scene results P) where
    -- it is this entry
    module _ (m : Sent) (ms : List Sent) (h : HeadOf scene.sealing (pool P) m ms) (s : Stands P (m ∷ ms)) where
      -- what it leads to, where it is possible
      abbrev Leads_on : JournalEntry B → Type 0
      Leads_on e = IsPossible scene results (e ∷ P) → ClosesTo scene results (after_move scene results e P (Draining w quorum)) (e ∷ P) rest last → Went e rest P last (left_after P (m ∷ ms))

      is_lost : is_drawn quorum m.from m.to ≡ false → Leads_on (Lose m.to h.packet.id)
      is_lost lost can closes =
          let left_now = first.loss_left scene P m ms h results w quorum start holds lost in
          let known = idle_known scene results w quorum start (Lose m.to h.packet.id) P (Loses m.to h.packet.id) in
          On (Resting record {
            waiting = ms;
            carries = subst (λ (ps : List (Packet B)). AllCarry scene.sealing ps ms) (sym (first.left scene P m ms h results earlier)) h.others;
            stands = first.loss_stands scene P m ms h results w quorum start holds s lost;
            posted = lost_posted m.to h.packet.id P can;
          }) (omega (arith, left_now, known)) closes
        where
          lost_posted : (a : Actor) (packet : ℕ) (Q : Past) → IsPossible scene results (Lose a packet ∷ Q) → owed_of scene results a (Lose a packet ∷ Q) ≡ []
          lost_posted (actor.Controller c) packet Q can =
              ap (λ (x : ControllerAt). sealed_letters controller_message scene.sealing x.owed) (own_steps scene results c (Lose (actor.Controller c) packet) Q refl)
              ∙ ap (sealed_letters controller_message scene.sealing) (fits scene results (Lose (actor.Controller c) packet) Q can c (self_controller c))
          lost_posted (actor.Switch k) packet Q can =
              ap (λ (x : SwitchAt). sealed_letters switch_message scene.sealing x.owed) (switch_steps scene results k (Lose (actor.Switch k) packet) Q refl)
              ∙ ap (sealed_letters switch_message scene.sealing) (switch_fits scene results k (Lose (actor.Switch k) packet) Q refl can can.named.0)

      -- the primary draws it
      at_primary : (to : m.to ≡ actor.Controller p) → ((b : ℕ) × (m.from ≡ actor.Controller b) × (has quorum b ≡ true) × (b ≡ p → ⊥)) ⊎ ((k : ℕ) × (m.from ≡ actor.Switch k) × (k < length scene.setup.ports)) →
          Leads_on (Draw (actor.Controller p) h.packet.id false)
      at_primary to from can closes =
          by_full (primary_by.work scene results w quorum start holds P m ms h s earlier to from can).state.full refl
          (subst (λ (f : Phase). ClosesTo scene results f (Draw (actor.Controller p) h.packet.id false ∷ P) rest last) (primary_by.phase_is scene results w quorum start holds P m ms h s earlier to from can) closes)
        where
          by_full : (o : Option LogFull) → (primary_by.work scene results w quorum start holds P m ms h s earlier to from can).state.full ≡ o → ClosesTo scene results (met_by o (Draining w quorum)) (Draw (actor.Controller p) h.packet.id false ∷ P) rest last →
              Went (Draw (actor.Controller p) h.packet.id false) rest P last (left_after P (m ∷ ms))
          by_full None room goes_on = On (Owing (primary_by.primary_owes scene results w quorum start holds P m ms h s earlier to from can room)) (primary_by.primary_lowers scene results w quorum start holds P m ms h s earlier to from can room) goes_on
          by_full (Some limit) room goes_on = Meets limit (let less = primary_by.primary_left scene results w quorum start holds P m ms h s earlier to from can in omega (arith, less)) (primary_by.had_promised scene results w quorum start holds P m ms h s earlier to from can) goes_on

      -- it is drawn
      by_way : IsWay p quorum m → Leads_on (Draw m.to h.packet.id false)
      by_way (To_member b from to chosen other) =
          subst (λ (a : Actor). Leads_on (Draw a h.packet.id false)) (sym to) (λ can closes.
          let less = member_by.member_lowers scene results w quorum start holds P m ms h s earlier b from to chosen other in
          let known = member_by.member_known scene results w quorum start holds P m ms h s earlier b from to chosen other in
          On (Owing (member_by.member_owes scene results w quorum start holds P m ms h s earlier b from to chosen other)) (omega (arith, less, known))
          (subst (λ (f : Phase). ClosesTo scene results f (Draw (actor.Controller b) h.packet.id false ∷ P) rest last) (member_by.member_stays scene results w quorum start holds P m ms h s earlier b from to chosen other (Draining w quorum)) closes))
      by_way (To_switch k from to) =
          subst (λ (a : Actor). Leads_on (Draw a h.packet.id false)) (sym to) (λ can closes.
          let among : IsIn h.packet (pool P) = subst (λ (ps : List (Packet B)). IsIn h.packet ps) (sym h.is) (inl refl) in
          let there = holds.named P earlier h.packet among k (inl (h.carries.to ∙ to)) in
          let less = switch_by.switch_lowers scene results w quorum start holds P m ms h s earlier k there from to can in
          On (Owing (switch_by.switch_owes scene results w quorum start holds P m ms h s earlier k there from to can)) (omega (arith, less)) closes)
      by_way (From_member b from to chosen other) = subst (λ (a : Actor). Leads_on (Draw a h.packet.id false)) (sym to) (at_primary to (inl (b, from, chosen, other)))
      by_way (From_switch k from to) =
          let among : IsIn h.packet (pool P) = subst (λ (ps : List (Packet B)). IsIn h.packet ps) (sym h.is) (inl refl) in
          subst (λ (a : Actor). Leads_on (Draw a h.packet.id false)) (sym to) (at_primary to (inr (k, from, holds.named P earlier h.packet among k (inr (h.carries.from ∙ from)))))

      pub one_head : Leads_on (drained quorum h.packet)
      one_head = by_test (is_drawn quorum m.from m.to) refl
        where
          by_test : (b : Bool) → is_drawn quorum m.from m.to ≡ b → Leads_on (drained quorum h.packet)
          by_test true drawn =
              subst Leads_on (sym (first.drained_is scene P m ms h quorum ∙ ap (λ (b : Bool). if b then Draw m.to h.packet.id false else Lose m.to h.packet.id) drawn)) (by_way (s.drains.ways m (inl refl) drawn))
          by_test false lost =
              subst Leads_on (sym (first.drained_is scene P m ms h quorum ∙ ap (λ (b : Bool). if b then Draw m.to h.packet.id false else Lose m.to h.packet.id) lost)) (is_lost lost)

    -- by what waits
    pub one_move : (e : JournalEntry B) → IsPossible scene results (e ∷ P) → (phase : Phase) → IsDraining w quorum phase → (r : Rests P) → (next : Phase) → IsMove (next_move scene results phase P) e next →
        ClosesTo scene results (after_move scene results e P next) (e ∷ P) rest last → Went e rest P last (left_after P r.waiting)
    one_move e possible phase draining r next move closes = by_waiting r.waiting r.carries r.stands
      where
        ends_with : (f : Phase) → IsDraining w quorum f → pool P ≡ [] → next_move scene results f P ≡ Ends (Done (w % n))
        ends_with _ Last_suspects none = ap (next_drained scene.setup.controllers w quorum) none
        ends_with _ Drains none = ap (next_drained scene.setup.controllers w quorum) none

        by_waiting : (waiting : List Sent) → AllCarry scene.sealing (pool P) waiting → Stands P waiting → Went e rest P last (left_after P waiting)
        by_waiting [] carries stands = absurd (subst (λ (v : ClosingMove B). IsMove v e next) (ends_with phase draining (none_carried scene.sealing (pool P) carries)) move)
        by_waiting (m ∷ ms) carries stands =
            let h = head_of scene.sealing (pool P) m ms carries in
            let m' = subst (λ (v : ClosingMove B). IsMove v e next) (first.next_is scene P m ms h results w quorum phase draining) move in
            subst (λ (x : JournalEntry B). Leads_on m ms h stands x) (sym m'.0) (one_head m ms h stands) possible
            (subst (λ (f : Phase). ClosesTo scene results (after_move scene results e P f) (e ∷ P) rest last) m'.1 closes)

  under : (e : JournalEntry B) (rest : List (JournalEntry B)) (P : Past) → IsPossible scene results (later (e ∷ P) rest) → IsPossible scene results (e ∷ P)
  under e rest P possible = possible_under scene results rest (e ∷ P) possible

  move_of : (e : JournalEntry B) (rest : List (JournalEntry B)) (P : Past) (last : Phase) → IsPossible scene results (later (e ∷ P) rest) → (phase : Phase) → IsDraining w quorum phase → (r : Rests P) →
      (next : Phase) → IsMove (next_move scene results phase P) e next → ClosesTo scene results (after_move scene results e P next) (e ∷ P) rest last → Went e rest P last (left_after P r.waiting)
  move_of e rest P last possible phase draining r next move closes =
      one_move rest P last (possible_before scene results e P (under e rest P possible)) e (under e rest P possible) phase draining r next move closes

  -- where a limit was met, no turn comes
  pub no_turn : (limit : LogFull) (P : Past) (rest : List (JournalEntry B)) (last : Phase) → ClosesTo scene results (Met limit) P rest last →
      (count_turns rest ≡ 0) × (turns_known (later P rest) ≡ turns_known P) × (HavePromised P → HavePromised (later P rest))
  no_turn limit P [] last closes = (refl, refl, λ h. h)
  no_turn limit P (Post a first letters lost ∷ rest) last closes =
      let more = no_turn limit (Post a first letters lost ∷ P) rest last closes.1 in
      let parts = sum_by-cons turn_of (Post a first letters lost) rest in
      let none = more.0 in
      (omega (arith, parts, none), more.1 ∙ idle_known scene results w quorum start (Post a first letters lost) P (Posts a first letters lost), λ h. more.2 (idle_promised scene results w quorum start (Post a first letters lost) P (Posts a first letters lost) h))
  no_turn limit P (Draw a packet keep ∷ rest) last closes = absurd closes.1.1
  no_turn limit P (Lose a packet ∷ rest) last closes = absurd closes.1.1
  no_turn limit P (Local a input ∷ rest) last closes = absurd closes.1.1
  no_turn limit P (Idle a ∷ rest) last closes = absurd closes.1.1
  no_turn limit P (Refused a ∷ rest) last closes = absurd closes.1.1

  -- what comes of the rest of a closing: no more turns than what is left to do, and those for the commands of what is newly committed; and if
  -- it is done, nothing is on its way
  pub record Goes (entries P : List (JournalEntry B)) (last : Phase) (left_before : ℕ) : Type 0 where
    pub counted : count_turns entries + turns_known P ≤ left_before + turns_known (later P entries)
    pub promised : HavePromised (later P entries)
    pub ends : (primary : ℕ) → IsPosted scene results (later P entries) → IsEnd (next_move scene results last (later P entries)) (Done primary) → Ended primary (later P entries)

  ends_with : (phase : Phase) (P : Past) → IsDraining w quorum phase → pool P ≡ [] → next_move scene results phase P ≡ Ends (Done (w % n))
  ends_with _ P Last_suspects none = ap (next_drained n w quorum) none
  ends_with _ P Drains none = ap (next_drained n w quorum) none

  -- where no more entries come
  ended : (P : Past) (phase : Phase) → IsDraining w quorum phase → Rests P → (primary : ℕ) → IsEnd (next_move scene results phase P) (Done primary) → Ended primary P
  ended P phase draining r primary end = by_waiting r.waiting r.carries r.stands
    where
      by_waiting : (waiting : List Sent) → AllCarry scene.sealing (pool P) waiting → Stands P waiting → Ended primary P
      by_waiting [] carries stands =
          let none = none_carried scene.sealing (pool P) carries in
          let done : Done primary ≡ Done p = subst (λ (v : ClosingMove B). IsEnd v (Done primary)) (ends_with phase P draining none) end in
          record { who = cc; empty = none; stands = stands }
      by_waiting (m ∷ ms) carries stands =
          let h = head_of scene.sealing (pool P) m ms carries in
          absurd (subst (λ (v : ClosingMove B). IsEnd v (Done primary)) (first.next_is scene P m ms h results w quorum phase draining) end)

  -- one entry, and the rest
  gone_by : (e : JournalEntry B) (rest : List (JournalEntry B)) (P : Past) (last : Phase) (left_before left_rested : ℕ) → left_rested ≡ left_before → Went e rest P last left_rested →
      ((mode : Mode (e ∷ P)) → ClosesTo scene results (Draining w quorum) (e ∷ P) rest last → Goes rest (e ∷ P) last (left_in (e ∷ P) mode)) → Goes (e ∷ rest) P last left_before
  gone_by e rest P last left_before left_rested same (On mode less goes_on) again =
      let parts = sum_by-cons turn_of e rest in
      let more = again mode goes_on in
      let counted = more.counted in
      record { counted = omega (arith, parts, counted, less, same); promised = more.promised; ends = more.ends }
  gone_by e rest P last left_before left_rested same (Meets limit less kept goes_on) again =
      let parts = sum_by-cons turn_of e rest in
      let more = no_turn limit (e ∷ P) rest last goes_on in
      let none = more.0 in
      let known = more.1 in
      record { counted = omega (arith, parts, none, known, less, same); promised = more.2 kept; ends = λ primary posted end. absurd (never_done limit (e ∷ P) rest last primary goes_on end) }

  -- all of them
  pub goes : (entries P : List (JournalEntry B)) (last : Phase) → IsWithinLimits scene.sealing.size (later P entries) → (phase : Phase) → IsDraining w quorum phase → (mode : Mode P) → ClosesTo scene results phase P entries last →
      IsPossible scene results (later P entries) → Goes entries P last (left_in P mode)
  goes [] P last room phase draining mode closes possible = record {
    counted = omega arith;
    promised = mode_promised P mode;
    ends = λ primary posted end. ended P phase draining (rested P mode posted) primary (subst (λ (f : Phase). IsEnd (next_move scene results f P) (Done primary)) closes end);
  }
  goes (Post a first letters lost ∷ rest) P last room phase draining mode closes possible =
      let can = possible_under scene results rest (Post a first letters lost ∷ P) possible in
      let fit = finds P mode a first letters lost closes.0 can (within_under scene.sealing.size rest (Post a first letters lost ∷ P) room) in
      let r = posts scene results w quorum start setup faithful P mode a first letters lost closes.0 can fit in
      let more = goes rest (Post a first letters lost ∷ P) last room phase draining (Resting r) closes.1 possible in
      let parts = sum_by-cons turn_of (Post a first letters lost) rest in
      let same = posts_left scene results w quorum start setup faithful P mode a first letters lost closes.0 can fit in
      let known = idle_known scene results w quorum start (Post a first letters lost) P (Posts a first letters lost) in
      let counted = more.counted in
      record { counted = omega (arith, counted, parts, same, known); promised = more.promised; ends = more.ends }
  goes (Draw a packet keep ∷ rest) P last room phase draining mode closes possible =
      gone_by (Draw a packet keep) rest P last (left_in P mode) _ (rested_left P mode closes.0) (move_of (Draw a packet keep) rest P last possible phase draining (rested P mode closes.0) closes.1.0 closes.1.1 closes.1.2)
      (λ next goes_on. goes rest (Draw a packet keep ∷ P) last room (Draining w quorum) Drains next goes_on possible)
  goes (Lose a packet ∷ rest) P last room phase draining mode closes possible =
      gone_by (Lose a packet) rest P last (left_in P mode) _ (rested_left P mode closes.0) (move_of (Lose a packet) rest P last possible phase draining (rested P mode closes.0) closes.1.0 closes.1.1 closes.1.2)
      (λ next goes_on. goes rest (Lose a packet ∷ P) last room (Draining w quorum) Drains next goes_on possible)
  goes (Local a input ∷ rest) P last room phase draining mode closes possible =
      gone_by (Local a input) rest P last (left_in P mode) _ (rested_left P mode closes.0) (move_of (Local a input) rest P last possible phase draining (rested P mode closes.0) closes.1.0 closes.1.1 closes.1.2)
      (λ next goes_on. goes rest (Local a input ∷ P) last room (Draining w quorum) Drains next goes_on possible)
  goes (Idle a ∷ rest) P last room phase draining mode closes possible =
      gone_by (Idle a) rest P last (left_in P mode) _ (rested_left P mode closes.0) (move_of (Idle a) rest P last possible phase draining (rested P mode closes.0) closes.1.0 closes.1.1 closes.1.2)
      (λ next goes_on. goes rest (Idle a ∷ P) last room (Draining w quorum) Drains next goes_on possible)
  goes (Refused a ∷ rest) P last room phase draining mode closes possible =
      gone_by (Refused a) rest P last (left_in P mode) _ (rested_left P mode closes.0) (move_of (Refused a) rest P last possible phase draining (rested P mode closes.0) closes.1.0 closes.1.1 closes.1.2)
      (λ next goes_on. goes rest (Refused a ∷ P) last room (Draining w quorum) Drains next goes_on possible)

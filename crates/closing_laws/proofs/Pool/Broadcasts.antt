-- What turns of the primary tell the other members of its group: each entry that joins its log, to all of them alike.
use Rattle.std.proofs.Common.{◌≡◌, ◌≤◌, ◌<◌, ◌⊎◌, inl, inr, ℕ, zero, suc, ◌+◌, ◌/◌, Bool, true, false, List, [], ◌∷◌, ◌++◌, map, length, drop, refl, sym, ◌∙◌, ap, subst, arith, append-nil, append_assoc}
use Rattle.std.specs.Prelude.{nat_eq, not, ◌&&◌, count_by, flat_map, filter, if◌then◌else◌}
use Rattle.std.proofs.lemmas.Bool.{cond_both, eqb-false, ne_eqb, true≢false}
use Rattle.std.proofs.lemmas.List.{map-append}
use Rattle.std.proofs.Math.Bool.{and-false, and-true}
use Rattle.of_types.specs.declared.message.Event.{Event}
use Rattle.of_types.specs.declared.setup.Setup.{Setup}
use Rattle.journal.specs.declared.journal.Actor.{Actor}
use Rattle.journal.specs.declared.journal.Actor.TheVariants as actor
use Rattle.journal.specs.declared.journal.Letter.{Letter}
use Rattle.journal.specs.Actors.{same_actor}
use Rattle.list_facts.specs.Lists.{IsIn}
use Rattle.list_facts.proofs.Elements.{in_append, in_flat_map, in_map}
use Rattle.vr_log.specs.declared.entry.Entry.{Entry}
use Rattle.vr_log.specs.declared.entry.Entry.TheVariants.{Received, Processed}
use Rattle.vr_log.specs.declared.message.VrLetter.{VrLetter}
use Rattle.vr_log.specs.declared.message.VrMessage.{VrMessage}
use Rattle.vr_log.specs.declared.message.VrMessage.TheVariants as vr
use Rattle.vr_log.specs.declared.state.VrState.{VrState}
use Rattle.vr_log.specs.Log.{is_past_limits, received}
use Rattle.vr_log.specs.Members.{most_failures, others_below}
use Rattle.vr_log.specs.Steps.{letter, to_others}
use Rattle.vr_log.proofs.Logs.{received-append}
use Rattle.app_core.specs.declared.issued.Issued.{Issued}
use Rattle.dispatcher.specs.Folding.{acknowledges_at, clears_at, numbered, places_processed}
use Rattle.dispatcher.specs.Marks.{confirmed_by, is_pending, outstanding, with_marked_result}
use Rattle.group_controller.specs.declared.messages.ControllerSays.{ControllerSays}
use Rattle.group_controller.specs.State.{ControllerState, Work, committed, leaving, met_limit, resting, to_member, to_members}
use Rattle.group_controller.specs.Settling.{ack_letter, after_finishing, after_proposal, answers_at, clear_letter, command_letter, command_letters, finishing, goes_on, is_alone, is_settled, is_untold, processing, proposing, role_letter, settling, with_answers, with_commands, with_proposal}
use Rattle.group_controller.specs.Rules.{commands_for, on_master, on_result}
use Rattle.run_spec.specs.declared.messages.Message.{Message}
use Rattle.run_spec.specs.declared.messages.Message.TheVariants as message
use Rattle.run_spec.specs.States.{controller_message}
use Rattle.closing_laws.specs.Quorum.{has}
use Rattle.closing_laws.specs.Ways.{Sent, sent_by, told_to}
use Rattle.closing_laws.proofs.Lists.Numbers.{below_has, in_has}
use Rattle.closing_laws.proofs.Pool.Rooms.{is_prepare}
use Rattle.closing_laws.proofs.Primary.Extending.{others_told}
use Rattle.closing_laws.proofs.Primary.ProperTurns.{IsSamePlace, place_then, same_place}
use Rattle.closing_laws.proofs.Switches.Saying.{count_append, count_cons, count_none}

-- a message tells an entry
abbrev pub is_told : Message → Bool
is_told (message.Vr (vr.Prepare view op commit entry)) = true
is_told _ = false

-- it tells this member one
abbrev pub tells : ℕ → Sent → Bool
tells b m = is_told m.said && same_actor m.to (actor.Controller b)

-- how many entries are on their way to a member
abbrev pub prepares_to : ℕ → List Sent → ℕ
prepares_to b waiting = count_by (tells b) waiting

pub prepares_append : (b : ℕ) (xs ys : List Sent) → prepares_to b (xs ++ ys) ≡ prepares_to b xs + prepares_to b ys
prepares_append b xs ys = count_append (tells b) xs ys

pub untold : (m : Message) → is_prepare m ≡ false → is_told m ≡ false
untold (message.Vr (vr.Prepare view op commit entry)) h = absurd (true≢false h)
untold _ h = refl

pub prepares_none : (b : ℕ) (xs : List Sent) → ((m : Sent) → IsIn m xs → is_prepare m.said ≡ false) → prepares_to b xs ≡ 0
prepares_none b xs each = count_none (tells b) xs (λ m among. ap (λ (x : Bool). x && same_actor m.to (actor.Controller b)) (untold m.said (each m among)))

-- at each place of what waits no more are on their way to the one member than to the other, and one
abbrev pub AreNear : ℕ → ℕ → List Sent → Type 0
AreNear a b [] = Unit {0}
AreNear a b (m ∷ waiting) = (prepares_to a (m ∷ waiting) ≤ prepares_to b (m ∷ waiting) + 1) × AreNear a b waiting

pub near_whole : (a b : ℕ) (xs : List Sent) → AreNear a b xs → prepares_to a xs ≤ prepares_to b xs + 1
near_whole a b [] h = omega arith
near_whole a b (m ∷ xs) h = h.0

pub near_few : (a b : ℕ) (xs : List Sent) → prepares_to a xs ≤ 1 → AreNear a b xs
near_few a b [] few = tt
near_few a b (m ∷ xs) few = let parts = count_cons (tells a) m xs in (omega (arith, few), near_few a b xs (omega (arith, few, parts)))

pub near_append : (a b : ℕ) (xs ys : List Sent) → AreNear a b xs → AreNear a b ys → prepares_to a ys ≤ prepares_to b ys → AreNear a b (xs ++ ys)
near_append a b [] ys h k fewer = k
near_append a b (m ∷ xs) ys h k fewer =
    let one = h.0 in
    let p = prepares_append a (m ∷ xs) ys in
    let q = prepares_append b (m ∷ xs) ys in
    (omega (arith, one, p, q, fewer), near_append a b xs ys h.1 k fewer)

-- by what letters tell
choice : (x : Message) (t : List Message) (s : Bool) → count_by is_told (if s then x ∷ t else t) ≡ (if is_told x && s then 1 else 0) + count_by is_told t
choice x t true = count_cons is_told x t ∙ ap (λ (c : Bool). (if c then 1 else 0) + count_by is_told t) (sym (and-true (is_told x)))
choice x t false = let off = ap {B = ℕ} (λ (c : Bool). if c then 1 else 0) (and-false (is_told x)) in omega (arith, off)

pub told_count : (b : ℕ) (from : Actor) (letters : List (Letter ControllerSays)) →
    prepares_to b (map (sent_by controller_message from) letters) ≡ count_by is_told (told_to controller_message (actor.Controller b) letters)
told_count b from [] = refl
told_count b from (l ∷ letters) =
    let parts = count_cons (tells b) (sent_by controller_message from l) (map (sent_by controller_message from) letters) in
    let rest = told_count b from letters in
    let same = choice (controller_message l.body) (told_to controller_message (actor.Controller b) letters) (same_actor l.to (actor.Controller b)) in
    omega (arith, parts, rest, same)

-- A message on its way in a group of this size: it tells a member an entry, or acknowledges one to the primary, no earlier one
-- than this, or it is of another kind.
pub data HasPlace (me n : ℕ) (quorum : List ℕ) (least : ℕ) (m : Sent) : Type 0 where
  Tells_entry : (b view op commit : ℕ) (entry : Entry) → m.from ≡ actor.Controller me → m.to ≡ actor.Controller b → b < n → (b ≡ me → ⊥) → m.said ≡ message.Vr (vr.Prepare view op commit entry) →
      HasPlace me n quorum least m
  Acknowledges_entry : (b view op : ℕ) → m.from ≡ actor.Controller b → m.to ≡ actor.Controller me → has quorum b ≡ true → (b ≡ me → ⊥) → least ≤ op → m.said ≡ message.Vr (vr.PrepareOk view op) →
      HasPlace me n quorum least m
  Is_other : is_prepare m.said ≡ false → HasPlace me n quorum least m

-- letters of the primary on their way
abbrev pub posted : ℕ → List (Letter ControllerSays) → List Sent
posted me letters = map (sent_by controller_message (actor.Controller me)) letters

-- letters that tell no entry, and acknowledge none
abbrev pub AreSilent : List (Letter ControllerSays) → Type 0
AreSilent letters = (l : Letter ControllerSays) → IsIn l letters → is_prepare (controller_message l.body) ≡ false

pub silent_append : (xs ys : List (Letter ControllerSays)) → AreSilent xs → AreSilent ys → AreSilent (xs ++ ys)
silent_append xs ys a b l among = elim (in_append l xs ys among) [ inl h ↦ a l h | inr h ↦ b l h ]

-- letters for switches are silent
pub answers_silent : (kinds : List ℕ) (setup : Setup) (c : ControllerState) (places : List ℕ) → AreSilent (flat_map (answers_at kinds setup c) places)
answers_silent kinds setup c places l among =
    let r = in_flat_map (answers_at kinds setup c) places l among in
    elim (in_append l (map ack_letter (acknowledges_at (committed c) r.0)) (map clear_letter (clears_at kinds setup (committed c) r.0)) r.2) [
      | inl m ↦ let y = in_map ack_letter (acknowledges_at (committed c) r.0) l m in ap (λ (x : Letter ControllerSays). is_prepare (controller_message x.body)) y.2
      | inr m ↦ let y = in_map clear_letter (clears_at kinds setup (committed c) r.0) l m in ap (λ (x : Letter ControllerSays). is_prepare (controller_message x.body)) y.2
    ]

pub commands_silent : (kinds : List ℕ) (setup : Setup) (c : ControllerState) (xs : List Issued) → AreSilent (command_letters kinds setup c xs)
commands_silent kinds setup c xs l among =
    let y = in_map (λ x. command_letter c.vr.view (numbered kinds setup (committed c) x)) xs l among in ap (λ (x : Letter ControllerSays). is_prepare (controller_message x.body)) y.2

pub roles_silent : (view : ℕ) (ts : List ℕ) → AreSilent (map (role_letter view) ts)
roles_silent view ts l among = let y = in_map (role_letter view) ts l among in ap (λ (x : Letter ControllerSays). is_prepare (controller_message x.body)) y.2

module _ (quorum : List ℕ) (least : ℕ) where
  -- letters that tell all others alike
  pub record AreEven (me n : ℕ) (sent : List Sent) : Type 0 where
    pub placed : (m : Sent) → IsIn m sent → HasPlace me n quorum least m
    pub even : (a b : ℕ) → a < n → b < n → (a ≡ me → ⊥) → (b ≡ me → ⊥) → prepares_to a sent ≡ prepares_to b sent
    pub near : (a b : ℕ) → a < n → b < n → (a ≡ me → ⊥) → (b ≡ me → ⊥) → AreNear a b sent

  pub even_append : (me n : ℕ) (xs ys : List Sent) → AreEven me n xs → AreEven me n ys → AreEven me n (xs ++ ys)
  even_append me n xs ys p q = record {
    placed = λ m among. elim (in_append m xs ys among) [ inl h ↦ p.placed m h | inr h ↦ q.placed m h ];
    even = λ a b less_a less_b other_a other_b.
        let first = p.even a b less_a less_b other_a other_b in
        let more = q.even a b less_a less_b other_a other_b in
        let x = prepares_append a xs ys in
        let y = prepares_append b xs ys in
        omega (arith, first, more, x, y);
    near = λ a b less_a less_b other_a other_b.
        let more = q.even a b less_a less_b other_a other_b in
        near_append a b xs ys (p.near a b less_a less_b other_a other_b) (q.near a b less_a less_b other_a other_b) (omega (arith, more));
  }

  pub even_silent : (me n : ℕ) (letters : List (Letter ControllerSays)) → AreSilent letters → AreEven me n (posted me letters)
  even_silent me n letters silent = record {
    placed = λ m among. Is_other (each m among);
    even = λ a b less_a less_b other_a other_b. prepares_none a (posted me letters) each ∙ sym (prepares_none b (posted me letters) each);
    near = λ a b less_a less_b other_a other_b. near_few a b (posted me letters) (let none = prepares_none a (posted me letters) each in omega (arith, none));
  }
    where
      each : (m : Sent) → IsIn m (posted me letters) → is_prepare m.said ≡ false
      each m among = let r = in_map (sent_by controller_message (actor.Controller me)) letters m among in ap (λ (x : Sent). is_prepare x.said) r.2 ∙ silent r.0 r.1

  -- an entry goes to all others
  pub even_told : (s : VrState) (view op commit : ℕ) (entry : Entry) → AreEven s.me s.controllers (posted s.me (to_members (to_others s (vr.Prepare view op commit entry))))
  even_told s view op commit entry = record {
    placed = λ m among.
        let r = in_map (sent_by controller_message (actor.Controller s.me)) letters m among in
        let y = in_map to_member (to_others s said) r.0 r.1 in
        let z = in_map (letter said) (others_below s.me s.controllers) y.0 y.1 in
        let there = below_has s.me s.controllers z.0 (in_has (others_below s.me s.controllers) z.0 z.1) in
        Tells_entry z.0 view op commit entry (ap (λ (x : Sent). x.from) r.2)
        (ap (λ (x : Sent). x.to) r.2 ∙ ap (λ (x : Letter ControllerSays). x.to) y.2 ∙ ap (λ (x : VrLetter). actor.Controller x.to) z.2) there.0 (λ e. eqb-false s.me z.0 there.1 (sym e))
        (ap (λ (x : Sent). x.said) r.2 ∙ ap (λ (x : Letter ControllerSays). controller_message x.body) y.2 ∙ ap (λ (x : VrLetter). message.Vr x.message) z.2);
    even = λ a b less_a less_b other_a other_b. once a less_a other_a ∙ sym (once b less_b other_b);
    near = λ a b less_a less_b other_a other_b. near_few a b (posted s.me letters) (let one = once a less_a other_a in omega (arith, one));
  }
    where
      said : VrMessage
      said = vr.Prepare view op commit entry

      letters : List (Letter ControllerSays)
      letters = to_members (to_others s said)

      once : (b : ℕ) → b < s.controllers → (b ≡ s.me → ⊥) → prepares_to b (posted s.me letters) ≡ 1
      once b less other = told_count b (actor.Controller s.me) letters ∙ ap (count_by is_told) ((others_told said s.me b other s.controllers).1 less)

  -- A work that goes on from another: in a group of several it commits nothing, it logs these events, and it tells all others alike.
  pub record Posts (old new : Work) (more : List Event) : Type 0 where
    pub place : IsSamePlace old.state.vr new.state.vr
    pub acked : new.state.vr.acked ≡ old.state.vr.acked
    pub commit : 0 < most_failures old.state.vr → new.state.vr.commit ≡ old.state.vr.commit
    pub events : received new.state.vr.log ≡ received old.state.vr.log ++ more
    pub letters : List (Letter ControllerSays)
    pub joined : new.letters ≡ old.letters ++ letters
    pub even : AreEven old.state.vr.me old.state.vr.controllers (posted old.state.vr.me letters)

  pub posts_silent : (old new : Work) (letters : List (Letter ControllerSays)) → new.state.vr ≡ old.state.vr → new.letters ≡ old.letters ++ letters → AreSilent letters → Posts old new []
  posts_silent old new letters same joined silent = record {
    place = subst (λ (s : VrState). IsSamePlace old.state.vr s) (sym same) (same_place old.state.vr);
    acked = ap (λ (s : VrState). s.acked) same;
    commit = λ some. ap (λ (s : VrState). s.commit) same;
    events = ap (λ (s : VrState). received s.log) same ∙ sym (append-nil (received old.state.vr.log));
    letters = letters;
    joined = joined;
    even = even_silent old.state.vr.me old.state.vr.controllers letters silent;
  }

  pub posts_none : (work : Work) → Posts work work []
  posts_none work = posts_silent work work [] refl (sym (append-nil work.letters)) (λ l none. absurd none)

  pub posts_then : (a b c : Work) (xs ys : List Event) → Posts a b xs → Posts b c ys → Posts a c (xs ++ ys)
  posts_then a b c xs ys p q = record {
    place = place_then a.state.vr b.state.vr c.state.vr p.place q.place;
    acked = q.acked ∙ p.acked;
    commit = λ some. q.commit (subst (λ (n : ℕ). 0 < n) (sym failures) some) ∙ p.commit some;
    events = q.events ∙ ap (λ (z : List Event). z ++ ys) p.events ∙ append_assoc (received a.state.vr.log) xs ys;
    letters = p.letters ++ q.letters;
    joined = q.joined ∙ ap (λ (l : List (Letter ControllerSays)). l ++ q.letters) p.joined ∙ append_assoc a.letters p.letters q.letters;
    even = subst (λ (sent : List Sent). AreEven a.state.vr.me a.state.vr.controllers sent) (sym (map-append (sent_by controller_message (actor.Controller a.state.vr.me)) p.letters q.letters))
        (even_append a.state.vr.me a.state.vr.controllers (posted a.state.vr.me p.letters) (posted a.state.vr.me q.letters) p.even behind);
  }
    where
      failures : most_failures b.state.vr ≡ most_failures a.state.vr
      failures = ap (λ (k : ℕ). k / 2) p.place.controllers

      behind : AreEven a.state.vr.me a.state.vr.controllers (posted a.state.vr.me q.letters)
      behind =
          subst (λ (k : ℕ). AreEven k a.state.vr.controllers (posted k q.letters)) p.place.me
          (subst (λ (k : ℕ). AreEven b.state.vr.me k (posted b.state.vr.me q.letters)) p.place.controllers q.even)

  -- and nothing more is logged
  pub posts_on : (a b c : Work) (xs : List Event) → Posts a b xs → Posts b c [] → Posts a c xs
  posts_on a b c xs p q = subst (λ (zs : List Event). Posts a c zs) (append-nil xs) (posts_then a b c xs [] p q)

  module _ (kinds : List ℕ) (setup : Setup) where
    answers_post : (before : ℕ) (work : Work) → Posts work (with_answers kinds setup before work) []
    answers_post before work =
        posts_silent work (with_answers kinds setup before work) (flat_map (answers_at kinds setup work.state) (places_processed (drop before (committed work.state)))) refl refl
        (answers_silent kinds setup work.state (places_processed (drop before (committed work.state))))

    commands_post : (work : Work) → Posts work (with_commands kinds setup work) []
    commands_post work =
        cond_both (is_untold work.state) _ _ (λ (y : Work). Posts work y [])
        (λ _. posts_silent work _ (command_letters kinds setup work.state (outstanding kinds setup (committed work.state) work.state.marks)) refl refl
        (commands_silent kinds setup work.state (outstanding kinds setup (committed work.state) work.state.marks)))
        (λ _. posts_none work)

    -- an entry is proposed
    proposal_posts : (work : Work) (entry : Entry) → Posts work (with_proposal work entry) (received (entry ∷ []))
    proposal_posts work entry = record {
      place = record { me = refl; controllers = refl; status = refl; view = refl; promise = refl };
      acked = refl;
      commit = λ some. ap (λ (b : Bool). if b then length work.state.vr.log + 1 else work.state.vr.commit) (ne_eqb (most_failures work.state.vr) 0 (λ e. omega (arith, e, some)));
      events = received-append work.state.vr.log (entry ∷ []);
      letters = to_members (to_others work.state.vr (vr.Prepare work.state.vr.view (length work.state.vr.log + 1) work.state.vr.commit entry));
      joined = refl;
      even = even_told work.state.vr work.state.vr.view (length work.state.vr.log + 1) work.state.vr.commit entry;
    }

    -- it is, or it met the limit
    abbrev pub PostsOne : Work → Work → List Event → Type 0
    PostsOne old new events = (more : List Event) × ((more ≡ []) ⊎ (more ≡ events)) × Posts old new more

    pub after_posts : (work : Work) (entry : Entry) → PostsOne work (after_proposal kinds setup work entry) (received (entry ∷ []))
    after_posts work entry =
        let next = with_proposal work entry in
        let answered = with_answers kinds setup work.state.vr.commit next in
        cond_both (is_past_limits work.state.vr.log entry) _ _ (λ (y : Work). PostsOne work y (received (entry ∷ [])))
        (λ _. ([], inl refl, posts_silent work (leaving work (met_limit work.state entry)) [] refl (sym (append-nil work.letters)) (λ l none. absurd none)))
        (λ _. cond_both (is_alone work.state) _ _ (λ (y : Work). PostsOne work y (received (entry ∷ [])))
        (λ _. (
          received (entry ∷ []),
          inr refl,
          posts_on work answered (with_commands kinds setup answered) (received (entry ∷ [])) (posts_on work next answered (received (entry ∷ [])) (proposal_posts work entry) (answers_post work.state.vr.commit next))
              (commands_post answered),
        ))
        (λ _. (received (entry ∷ []), inr refl, proposal_posts work entry)))

    -- an event is proposed as processed
    after_processing : (work : Work) (j : ℕ) → Posts work (after_proposal kinds setup work (Processed j)) []
    after_processing work j =
        let r = after_posts work (Processed j) in
        subst (λ (zs : List Event). Posts work (after_proposal kinds setup work (Processed j)) zs) (elim r.1 [ inl e ↦ e | inr e ↦ e ]) r.2

    finishing_posts : (fuel : ℕ) (work : Work) → Posts work (finishing fuel kinds setup work) []
    unfolding finishing
    finishing_posts zero work = posts_none work
    finishing_posts (suc more) work =
        let next = after_proposal kinds setup work (processing work.state) in
        let here = after_processing work _ in
        let rest = finishing_posts more next in
        cond_both (not (is_settled kinds setup work.state)) _ _ (λ (y : Work). Posts work y []) (λ _. posts_none work)
        (λ _. cond_both (goes_on work.state (processing work.state)) _ _ (λ (y : Work). Posts work y []) (λ _. posts_on work next (finishing more kinds setup next) [] here rest) (λ _. here))

    pub finished_posts : (work : Work) → Posts work (after_finishing kinds setup work) []
    finished_posts work = finishing_posts _ work

    pub settling_posts : (before : ℕ) (work : Work) → Posts work (settling kinds setup before work) []
    unfolding settling
    settling_posts before work =
        let answered = with_answers kinds setup before work in
        let told = with_commands kinds setup answered in
        posts_on work told (after_finishing kinds setup told) [] (posts_on work answered told [] (answers_post before work) (commands_post answered)) (finished_posts told)

    -- an event is proposed
    pub proposing_posts : (c : ControllerState) (e : Event) → PostsOne (resting c) (proposing kinds setup c (Received e)) (e ∷ [])
    proposing_posts c e =
        let next = after_proposal kinds setup (resting c) (Received e) in
        let first = after_posts (resting c) (Received e) in
        cond_both (goes_on c (Received e)) _ _ (λ (y : Work). PostsOne (resting c) y (e ∷ []))
        (λ _. (first.0, first.1, posts_on (resting c) next (after_finishing kinds setup next) first.0 first.2 (finished_posts next))) (λ _. first)

    module _ (c : ControllerState) where
      pub master_posts : (s : ℕ) → (d : ControllerState) × (d.vr ≡ c.vr) × Posts (resting d) (on_master kinds setup c s) []
      master_posts s =
          let now : ControllerState = record c { marks = confirmed_by c.marks s } in (
            now,
            refl,
            posts_silent (resting now) (on_master kinds setup c s) (commands_for kinds setup now s) refl refl
                (commands_silent kinds setup now (filter (λ x. nat_eq x.switch s) (outstanding kinds setup (committed now) now.marks))),
          )

      pub result_posts : (s life number : ℕ) → (d : ControllerState) × (d.vr ≡ c.vr) × Posts (resting d) (on_result kinds setup c s life number) []
      result_posts s life number =
          let now : ControllerState = record c { marks = with_marked_result kinds setup (committed c) c.marks s life number } in
          cond_both (is_pending kinds setup (committed c) s life number) _ _ (λ (y : Work). (d : ControllerState) × (d.vr ≡ c.vr) × Posts (resting d) y [])
          (λ _. (now, refl, finished_posts (resting now)))
          (λ _. (c, refl, posts_none (resting c)))

-- What waits in a journal, as messages; and what one entry of a closing does to what actors hold.
use Rattle.std.proofs.Common.{◌≡◌, inl, inr, ℕ, ◌+◌, Bool, true, false, List, [], ◌∷◌, ◌++◌, map, length, refl, sym, ◌∙◌, ap, subst}
use Rattle.std.specs.Prelude.{slice_index_or, Option, Some, None, if◌then◌else◌}
use Rattle.std.specs.List.{AllByRecursion}
use Rattle.std.proofs.lemmas.Bool.{and_parts, leb-true}
use Rattle.of_types.specs.declared.message.Event.{Event}
use Rattle.of_types.specs.declared.message.Executed.{Executed}
use Rattle.of_types.specs.declared.setup.Setup.{Setup}
use Rattle.journal.specs.declared.journal.Actor.{Actor}
use Rattle.journal.specs.declared.journal.Actor.TheVariants as actor
use Rattle.journal.specs.declared.journal.JournalEntry.{JournalEntry}
use Rattle.journal.specs.declared.journal.JournalEntry.TheVariants.{Post, Draw, Lose}
use Rattle.journal.specs.declared.journal.Letter.{Letter}
use Rattle.journal.specs.declared.journal.Packet.{Packet}
use Rattle.journal.specs.declared.journal.SaveResult.{SaveResult}
use Rattle.journal.specs.declared.journal.SaveResult.TheVariants.{Saved}
use Rattle.journal.specs.Actors.{same_actor, actor_of}
use Rattle.journal.specs.Part.{part, drawn, packet_of}
use Rattle.journal.specs.Pool.{pool, numbered_letters}
use Rattle.list_facts.specs.Lists.{IsIn}
use Rattle.of_switch.specs.declared.says.SwitchSays.{SwitchSays}
use Rattle.of_switch.specs.Rules.{switch_turn}
use Rattle.group_controller.specs.declared.messages.ControllerInput.{ControllerInput}
use Rattle.group_controller.specs.declared.messages.ControllerSays.{ControllerSays}
use Rattle.group_controller.specs.State.{Work}
use Rattle.group_controller.specs.Rules.{controller_work}
use Rattle.run_spec.specs.declared.messages.Message.{Message}
use Rattle.run_spec.specs.declared.messages.Unsealed.{Unsealed}
use Rattle.run_spec.specs.declared.messages.Unsealed.TheVariants as unsealed
use Rattle.run_spec.specs.declared.messages.Way.{Way}
use Rattle.run_spec.specs.Messages.{FitsMessage, IsValidMessage, way_of, way_of_message}
use Rattle.run_spec.specs.States.{Scene, Sealing, IsFaithful, ControllerAt, SwitchAt, content, controller_at, controller_hears, controller_message, controller_saved, controller_took, controller_step, sealed_letters, switch_at, switch_hears, switch_message, switch_step, switch_took}
use Rattle.run_spec.specs.Legal.{results_of}
use Rattle.run_spec.proofs.Pasts.{self_switch}
use Rattle.run_laws.specs.OnceLaws.Facts.{PastFacts}
use Rattle.run_laws.specs.OnceLaws.Invariant.{IsOrder, IsReport, Reported, Forwarded, ToMember, ToSwitch}
use Rattle.run_laws.proofs.OnceLaws.Packets.{reported_valid, told_valid}
use Rattle.closing_laws.specs.Ways.{Sent, sent_by}
use Rattle.closing_laws.proofs.Journal.Taking.{at, own_steps}
use Rattle.closing_laws.proofs.Lists.Paired.{ArePaired, paired_append, paired_none}

-- what an actor may say can be sealed, on the way of its kind
abbrev pub MaySay : {A : Type 0} → (A → Message) → Actor → Letter A → Type 0
MaySay says a l = IsValidMessage (says l.body) × (way_of a l.to ≡ way_of_message (says l.body))

pub reported_may : (s : ℕ) (events : List Event) (executed : List Executed) (l : Letter SwitchSays) → IsReport s events executed l → MaySay switch_message (actor.Switch s) l
reported_may s events executed l (Reported c xid said is h) =
    subst (λ (y : Letter SwitchSays). MaySay switch_message (actor.Switch s) y) (sym is) (reported_valid s events executed xid said h, refl)
reported_may s events executed l (Forwarded peer port frame is good) =
    let both = and_parts _ _ good.0 in
    subst (λ (y : Letter SwitchSays). MaySay switch_message (actor.Switch s) y) (sym is) ((leb-true 14 (length frame) both.0, leb-true (length frame) 1514 both.1), refl)

pub ordered_may : (kinds : List ℕ) (setup : Setup) (f : PastFacts) (c : ℕ) (l : Letter ControllerSays) → IsOrder kinds setup f c l → MaySay controller_message (actor.Controller c) l
ordered_may kinds setup f c l (ToSwitch s xid said is h) =
    subst (λ (y : Letter ControllerSays). MaySay controller_message (actor.Controller c) y) (sym is) (told_valid kinds setup f c s xid said h, refl)
ordered_may kinds setup f c l (ToMember d m is h) =
    subst (λ (y : Letter ControllerSays). MaySay controller_message (actor.Controller c) y) (sym is) (h.spelled, refl)

module _ {B : Type 0} (sealing : Sealing B) where
  -- a packet carries a message
  pub record Carries (p : Packet B) (m : Sent) : Type 0 where
    pub from : p.from ≡ m.from
    pub to : p.to ≡ m.to
    pub says : content sealing p ≡ unsealed.Message m.said

  abbrev pub AllCarry : List (Packet B) → List Sent → Type 0
  AllCarry ps ms = ArePaired Carries ps ms

  pub carry_both : (ps qs : List (Packet B)) (ms ns : List Sent) → AllCarry ps ms → AllCarry qs ns → AllCarry (ps ++ qs) (ms ++ ns)
  carry_both = paired_append Carries

  -- letters that are posted carry what they say
  pub letters_carry : {A : Type 0} → IsFaithful sealing → (says : A → Message) (a : Actor) (first : ℕ) (letters : List (Letter A)) → ((l : Letter A) → IsIn l letters → MaySay says a l) →
      AllByRecursion (λ l. FitsMessage (says l.body)) letters → AllCarry (numbered_letters first a (sealed_letters says sealing letters)) (map (sent_by says a) letters)
  letters_carry faithful says a first [] may typed = tt
  letters_carry faithful says a first (l ∷ letters) may typed =
      let can = may l (inl refl) in (
        record {
          from = refl;
          to = refl;
          says = ap (λ (w : Way). sealing.spelled w (sealing.sealed (says l.body))) can.1 ∙ faithful (says l.body) can.0 typed.0;
        },
        letters_carry faithful says a (first + 1) letters (λ x among. may x (inr among)) typed.1,
      )

  -- and can be read as that
  pub letters_read : {A : Type 0} → IsFaithful sealing → (says : A → Message) (a : Actor) (first : ℕ) (letters : List (Letter A)) → ((l : Letter A) → IsIn l letters → MaySay says a l) →
      AllByRecursion (λ l. FitsMessage (says l.body)) letters →
      map (content sealing) (numbered_letters first a (sealed_letters says sealing letters)) ≡ map (λ (l : Letter A). unsealed.Message (says l.body)) letters
  letters_read faithful says a first [] may typed = refl
  letters_read {A} faithful says a first (l ∷ letters) may typed =
      let can = may l (inl refl) in
      ap (λ (u : Unsealed). u ∷ map (content sealing) (numbered_letters (first + 1) a (sealed_letters says sealing letters)))
      (ap (λ (w : Way). sealing.spelled w (sealing.sealed (says l.body))) can.1 ∙ faithful (says l.body) can.0 typed.0)
      ∙ ap (λ (us : List Unsealed). unsealed.Message (says l.body) ∷ us) (letters_read faithful says a (first + 1) letters (λ x among. may x (inr among)) typed.1)

  pub read_carry : {A : Type 0} (says : A → Message) (a : Actor) (first : ℕ) (letters : List (Letter A)) →
      map (content sealing) (numbered_letters first a (sealed_letters says sealing letters)) ≡ map (λ (l : Letter A). unsealed.Message (says l.body)) letters →
      AllCarry (numbered_letters first a (sealed_letters says sealing letters)) (map (sent_by says a) letters)
  read_carry says a first [] read = tt
  read_carry says a first (l ∷ letters) read =
      (record { from = refl; to = refl; says = cc }, read_carry says a (first + 1) letters cc)

  pub record HeadOf (ps : List (Packet B)) (m : Sent) (waiting : List Sent) : Type 0 where
    pub packet : Packet B
    pub rest : List (Packet B)
    pub is : ps ≡ packet ∷ rest
    pub carries : Carries packet m
    pub others : AllCarry rest waiting

  pub head_of : (ps : List (Packet B)) (m : Sent) (waiting : List Sent) → AllCarry ps (m ∷ waiting) → HeadOf ps m waiting
  head_of [] m waiting a = absurd a
  head_of (p ∷ ps) m waiting a = record { packet = p; rest = ps; is = refl; carries = a.0; others = a.1 }

  pub none_carried : (ps : List (Packet B)) → AllCarry ps [] → ps ≡ []
  none_carried = paired_none Carries

module _ {B : Type 0} (scene : Scene B) (results : List (List SaveResult)) where
  abbrev pub sw : ℕ → List (JournalEntry B) → SwitchAt
  sw s P = switch_at scene s (part (actor.Switch s) P)

  -- an entry that is no input changes nobody
  pub data IsIdle : JournalEntry B → Type 0 where
    Posts : (a : Actor) (first : ℕ) (letters : List (Letter B)) (lost : ℕ) → IsIdle (Post a first letters lost)
    Loses : (a : Actor) (id : ℕ) → IsIdle (Lose a id)

  idle_controller : (rs : List SaveResult) (w : ControllerAt) (e : JournalEntry B) (found : Option (Packet B)) → IsIdle e → (controller_step scene rs w e found).now ≡ w.now
  idle_controller rs w _ found (Posts a first letters lost) = refl
  idle_controller rs w _ found (Loses a id) = refl

  idle_switch : (w : SwitchAt) (e : JournalEntry B) (found : Option (Packet B)) → IsIdle e → (switch_step scene w e found).now ≡ w.now
  idle_switch w _ found (Posts a first letters lost) = refl
  idle_switch w _ found (Loses a id) = refl

  pub controllers_stay : (e : JournalEntry B) (P : List (JournalEntry B)) → IsIdle e → (c : ℕ) → (at scene results c (e ∷ P)).now ≡ (at scene results c P).now
  controllers_stay e P idle c = by_actor (same_actor (actor_of e) (actor.Controller c)) refl
    where
      by_actor : (b : Bool) → same_actor (actor_of e) (actor.Controller c) ≡ b → (at scene results c (e ∷ P)).now ≡ (at scene results c P).now
      by_actor true h =
          ap (λ (y : Bool). (controller_at scene (results_of results c) c (if y then (e, drawn e P) ∷ part (actor.Controller c) P else part (actor.Controller c) P)).now) h
          ∙ idle_controller (results_of results c) (at scene results c P) e (drawn e P) idle
      by_actor false h = ap (λ (y : Bool). (controller_at scene (results_of results c) c (if y then (e, drawn e P) ∷ part (actor.Controller c) P else part (actor.Controller c) P)).now) h

  pub switches_stay : (e : JournalEntry B) (P : List (JournalEntry B)) → IsIdle e → (s : ℕ) → (sw s (e ∷ P)).now ≡ (sw s P).now
  switches_stay e P idle s = by_actor (same_actor (actor_of e) (actor.Switch s)) refl
    where
      by_actor : (b : Bool) → same_actor (actor_of e) (actor.Switch s) ≡ b → (sw s (e ∷ P)).now ≡ (sw s P).now
      by_actor true h =
          ap (λ (y : Bool). (switch_at scene s (if y then (e, drawn e P) ∷ part (actor.Switch s) P else part (actor.Switch s) P)).now) h ∙ idle_switch (sw s P) e (drawn e P) idle
      by_actor false h = ap (λ (y : Bool). (switch_at scene s (if y then (e, drawn e P) ∷ part (actor.Switch s) P else part (actor.Switch s) P)).now) h

  -- an entry of another actor
  pub controller_rests : (e : JournalEntry B) (P : List (JournalEntry B)) (c : ℕ) → same_actor (actor_of e) (actor.Controller c) ≡ false → at scene results c (e ∷ P) ≡ at scene results c P
  controller_rests e P c h = ap (λ (y : Bool). controller_at scene (results_of results c) c (if y then (e, drawn e P) ∷ part (actor.Controller c) P else part (actor.Controller c) P)) h

  pub switch_rests : (e : JournalEntry B) (P : List (JournalEntry B)) (s : ℕ) → same_actor (actor_of e) (actor.Switch s) ≡ false → sw s (e ∷ P) ≡ sw s P
  switch_rests e P s h = ap (λ (y : Bool). switch_at scene s (if y then (e, drawn e P) ∷ part (actor.Switch s) P else part (actor.Switch s) P)) h

  pub switch_steps : (s : ℕ) (e : JournalEntry B) (P : List (JournalEntry B)) → actor_of e ≡ actor.Switch s → sw s (e ∷ P) ≡ switch_step scene (sw s P) e (drawn e P)
  switch_steps s e P whose =
      ap (λ (y : Bool). switch_at scene s (if y then (e, drawn e P) ∷ part (actor.Switch s) P else part (actor.Switch s) P))
      (ap (λ (a : Actor). same_actor a (actor.Switch s)) whose ∙ self_switch s)

  -- a turn of a switch that draws a message
  pub switch_draws : (s : ℕ) (p : Packet B) (P : List (JournalEntry B)) → packet_of p.id (pool P) ≡ Some p →
      sw s (Draw (actor.Switch s) p.id false ∷ P) ≡ switch_took (sw s P) (switch_turn (sw s P).now (switch_hears p.from (content scene.sealing p)))
  switch_draws s p P found =
      switch_steps s (Draw (actor.Switch s) p.id false) P refl ∙ ap (λ (q : Option (Packet B)). switch_step scene (sw s P) (Draw (actor.Switch s) p.id false) q) found

  -- a turn of a controller that draws a message, and saves nothing
  took_unsaved : (rs : List SaveResult) (w : ControllerAt) (work : Work) → work.save ≡ None → ((controller_took rs w work).now ≡ work.state) × ((controller_took rs w work).owed ≡ work.letters)
  took_unsaved rs w work none = by_save work.save none
    where
      by_save : (q : Option (ℕ × ℕ)) → q ≡ None → let t : ControllerAt = elim q [
        | None ↦ record { now = work.state; before = w.now; owed = work.letters; fresh = true; saves = w.saves; saves_before = w.saves }
        | Some pair ↦ controller_saved w work pair.0 pair.1 (slice_index_or rs w.saves Saved)
      ] in (t.now ≡ work.state) × (t.owed ≡ work.letters)
      by_save None e = (refl, refl)
      by_save (Some pair) e = absurd cc

  pub controller_draws : (c : ℕ) (p : Packet B) (P : List (JournalEntry B)) (x : ControllerInput) → packet_of p.id (pool P) ≡ Some p → controller_hears p.from (content scene.sealing p) ≡ x →
      (controller_work scene.kinds scene.setup (at scene results c P).now x).save ≡ None →
      ((at scene results c (Draw (actor.Controller c) p.id false ∷ P)).now ≡ (controller_work scene.kinds scene.setup (at scene results c P).now x).state)
      × ((at scene results c (Draw (actor.Controller c) p.id false ∷ P)).owed ≡ (controller_work scene.kinds scene.setup (at scene results c P).now x).letters)
  controller_draws c p P x found heard unsaved =
      let e : JournalEntry B = Draw (actor.Controller c) p.id false in
      let w = at scene results c P in
      let is : at scene results c (e ∷ P) ≡ controller_took (results_of results c) w (controller_work scene.kinds scene.setup w.now x) =
      own_steps scene results c e P refl ∙ ap (λ (q : Option (Packet B)). controller_step scene (results_of results c) w e q) found
      ∙ ap (λ (y : ControllerInput). controller_took (results_of results c) w (controller_work scene.kinds scene.setup w.now y)) heard in
      let t = took_unsaved (results_of results c) w (controller_work scene.kinds scene.setup w.now x) unsaved in
      (ap (λ (y : ControllerAt). y.now) is ∙ t.0, ap (λ (y : ControllerAt). y.owed) is ∙ t.1)

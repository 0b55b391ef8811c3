-- What holds of controllers where they start, what each turn keeps, and what letters between members pass on, holds after
-- every possible past of good entries, where valid messages are read as they were sealed and each event that is drawn is
-- valid.
use Rattle.std.proofs.Common.{◌≡◌, ℕ, ◌<◌, true, Option, Some, None, List, [], ◌∷◌, refl, sym, ap, ◌∙◌, subst}
use Rattle.std.specs.Prelude.{slice_index_or}
use Rattle.std.specs.List.{AllByRecursion}
use Rattle.journal.specs.declared.journal.Actor.{Actor}
use Rattle.journal.specs.declared.journal.Actor.TheVariants as actor
use Rattle.journal.specs.declared.journal.JournalEntry.{JournalEntry}
use Rattle.journal.specs.declared.journal.JournalEntry.TheVariants.{Post, Draw, Lose, Local, Idle, Refused}
use Rattle.journal.specs.declared.journal.Letter.{Letter}
use Rattle.journal.specs.declared.journal.Local.{Local as LocalInput}
use Rattle.journal.specs.declared.journal.Packet.{Packet}
use Rattle.journal.specs.declared.journal.SaveResult.{SaveResult}
use Rattle.journal.specs.declared.journal.SaveResult.TheVariants.{Saved, KeptOld, KeptNew}
use Rattle.journal.specs.Actors.{same_actor, actor_of}
use Rattle.journal.specs.Part.{part, drawn}
use Rattle.journal.specs.Pool.{pool}
use Rattle.list_facts.proofs.Elements.{all_of}
use Rattle.list_facts.specs.Lists.{IsIn}
use Rattle.vr_log.specs.declared.message.VrMessage.{VrMessage}
use Rattle.group_controller.specs.declared.messages.ControllerInput.{ControllerInput}
use Rattle.group_controller.specs.declared.messages.ControllerInput.TheVariants as controller_input
use Rattle.group_controller.specs.declared.messages.ControllerSays.{ControllerSays}
use Rattle.group_controller.specs.declared.messages.ControllerSays.TheVariants as controller_says
use Rattle.group_controller.specs.State.{ControllerState, Work, starting_controller, down}
use Rattle.group_controller.specs.Rules.{controller_work}
use Rattle.controller_moves.specs.Spelling.{IsValidTo, HasValidEvent}
use Rattle.run_spec.specs.declared.messages.Message.TheVariants as message
use Rattle.run_spec.specs.declared.messages.Unsealed.{Unsealed}
use Rattle.run_spec.specs.declared.messages.Unsealed.TheVariants as unsealed
use Rattle.run_spec.specs.declared.messages.Way.TheVariants as way
use Rattle.run_spec.specs.Messages.{FitsMessage, way_of}
use Rattle.run_spec.specs.States.{Scene, ControllerAt, IsFaithful, content, controller_hears, controller_message, controller_saved, controller_took, controller_step, controller_at}
use Rattle.run_spec.specs.Legal.{IsPossible, results_of}
use Rattle.run_spec.specs.Inputs.{IsHeard, By_draw, By_local}
use Rattle.run_spec.proofs.Entries.{Own, Other, controller_after}
use Rattle.run_spec.proofs.Pasts.{possible_before, self_controller}
use Rattle.run_spec.proofs.Pools.{IsPosted, Was, New, pool_after}
use Rattle.run_laws.specs.RunAgreement.Reading.{DrawsValidEvent, DrawsValidEvents}
use Rattle.run_laws.proofs.RunAgreement.Pasts.{IsInputOf, OfItself, OfPacket, named, input_of_entry, was_owed}

-- work leaves what is good, also where its save fails, and says what may be said
pub record IsGoodWork (IsGood : ControllerState → Type 0) (IsSaid : Actor → ControllerSays → Type 0) (c : ControllerState) (w : Work) : Type 0 where
  pub state : IsGood w.state
  pub letters : AllByRecursion (λ l. IsSaid l.to l.body) w.letters
  pub saves : (pair : ℕ × ℕ) → w.save ≡ Some pair → IsGood (down c pair.0 pair.1)

-- good controllers stay so: they start so, turns and crashes leave them so, where what is heard is good; what a good entry
-- tells is; and what is said is valid, and good to hear
pub record IsInvariant {B : Type 0} (IsGoodEntry : JournalEntry B → Type 0) (controllers : ℕ) (turn : ControllerState → ControllerInput → Work) (IsGood : ControllerState → Type 0) (IsSaid : Actor → ControllerSays → Type 0) (IsGoodInput : ControllerInput → Type 0) : Type 0 where
  pub starts : (c : ℕ) → IsGood (starting_controller c controllers)
  pub falls : (c : ControllerState) → IsGood c → IsGood (down c c.vr.promise c.vr.life)
  pub turns : (c : ControllerState) (x : ControllerInput) → IsGood c → IsGoodInput x → IsGoodWork IsGood IsSaid c (turn c x)
  pub valid : (to : Actor) (said : ControllerSays) → IsSaid to said → IsValidTo to said
  pub local : (a : Actor) (what : LocalInput) → IsGoodEntry (Local a what) → IsGoodInput (controller_input.Local what)
  pub heard : (c : ℕ) (from : Actor) (u : Unsealed) → HasValidEvent (controller_hears from u)
      → ((j : ℕ) (m : VrMessage) → controller_hears from u ≡ controller_input.Vr j m → IsSaid (actor.Controller c) (controller_says.Vr m)) → IsGoodInput (controller_hears from u)

-- what reads as a message of a member is from a member
from_member : (from : Actor) (u : Unsealed) (j : ℕ) (m : VrMessage) → controller_hears from u ≡ controller_input.Vr j m → (from ≡ actor.Controller j) × (u ≡ unsealed.Message (message.Vr m))
from_member (actor.Controller i) (unsealed.Message (message.Vr x)) j m e =
    let who : i ≡ j = cc in
    let what : x ≡ m = cc in
    (ap (λ (k : ℕ). actor.Controller k) who, ap (λ (k : VrMessage). unsealed.Message (message.Vr k)) what)
from_member (actor.Controller i) (unsealed.Message (message.Of xid x)) j m e = absurd cc
from_member (actor.Controller i) (unsealed.Message (message.Frame port bytes)) j m e = absurd cc
from_member (actor.Controller i) (unsealed.Malformed kind code xid head) j m e = absurd cc
from_member (actor.Switch s) (unsealed.Message (message.Vr x)) j m e = absurd cc
from_member (actor.Switch s) (unsealed.Message (message.Of xid x)) j m e = absurd cc
from_member (actor.Switch s) (unsealed.Message (message.Frame port bytes)) j m e = absurd cc
from_member (actor.Switch s) (unsealed.Malformed kind code xid head) j m e = absurd cc

-- what a packet from a member to a member says, where it reads as a message of members
pub read_between : {B : Type 0} (scene : Scene B) (p : Packet B) (j d : ℕ) (said : ControllerSays) (m : VrMessage) → p.from ≡ actor.Controller j → p.to ≡ actor.Controller d
    → p.body ≡ scene.sealing.sealed (controller_message said) → content scene.sealing p ≡ unsealed.Message (message.Vr m)
    → scene.sealing.spelled way.Vr (scene.sealing.sealed (controller_message said)) ≡ unsealed.Message (message.Vr m)
read_between {B} scene p j d said m from to body says =
    let on : way_of p.from p.to ≡ way.Vr = ap (λ (a : Actor). way_of a p.to) from ∙ ap (λ (a : Actor). way_of (actor.Controller j) a) to in
    ap (λ (b : B). scene.sealing.spelled way.Vr b) (sym body) ∙ ap (λ (w : way.the_data). scene.sealing.spelled w p.body) (sym on) ∙ says

-- a valid message whose numbers fit is read as it was sealed
pub valid_read : {B : Type 0} (scene : Scene B) → IsFaithful scene.sealing → (d : ℕ) (said : ControllerSays) (m : VrMessage) → IsValidTo (actor.Controller d) said → FitsMessage (controller_message said)
    → scene.sealing.spelled way.Vr (scene.sealing.sealed (controller_message said)) ≡ unsealed.Message (message.Vr m) → said ≡ controller_says.Vr m
valid_read scene faithful d (controller_says.Of xid x) m valid typed says = absurd valid
valid_read scene faithful d (controller_says.Vr x) m valid typed says =
    let both : unsealed.Message (message.Vr x) ≡ unsealed.Message (message.Vr m) = sym (faithful (message.Vr x) valid typed) ∙ says in
    ap (λ (k : VrMessage). controller_says.Vr k) (let same : x ≡ m = cc in same)

module _ {B : Type 0} (scene : Scene B) (results : List (List SaveResult)) (faithful : IsFaithful scene.sealing)
    (IsGoodEntry : JournalEntry B → Type 0) (IsGood : ControllerState → Type 0) (IsSaid : Actor → ControllerSays → Type 0) (IsGoodInput : ControllerInput → Type 0)
    (invariant : IsInvariant IsGoodEntry scene.setup.controllers (λ c x. controller_work scene.kinds scene.setup c x) IsGood IsSaid IsGoodInput) where
  abbrev at : ℕ → List (JournalEntry B) → ControllerAt
  at c past = controller_at scene (results_of results c) c (part (actor.Controller c) past)

  -- a controller after its part, before its newest input, and what it owes
  pub record HoldsAt (w : ControllerAt) : Type 0 where
    pub now : IsGood w.now
    pub before : IsGood w.before
    pub owed : AllByRecursion (λ l. IsSaid l.to l.body) w.owed

  -- a packet carries what may be said
  pub record Carries (p : Packet B) : Type 0 where
    pub said : ControllerSays
    pub body : p.body ≡ scene.sealing.sealed (controller_message said)
    pub may : IsSaid p.to said
    pub typed : FitsMessage (controller_message said)

  pub record HoldsAfter (past : List (JournalEntry B)) : Type 0 where
    pub controllers : (c : ℕ) → c < scene.setup.controllers → HoldsAt (at c past)
    pub packets : (p : Packet B) → IsIn p (pool past) → (j : ℕ) → p.from ≡ actor.Controller j → Carries p

  took_holds : (rs : List SaveResult) (w : ControllerAt) (work : Work) → HoldsAt w → IsGoodWork IsGood IsSaid w.now work → HoldsAt (controller_took rs w work)
  took_holds rs w work s p = by_save work.save refl
    where
      by_result : (pair : ℕ × ℕ) → work.save ≡ Some pair → (result : SaveResult) → HoldsAt (controller_saved w work pair.0 pair.1 result)
      by_result pair e Saved = record { now = p.state; before = s.now; owed = p.letters }
      by_result pair e KeptOld = record { now = invariant.falls w.now s.now; before = s.now; owed = tt }
      by_result pair e KeptNew = record { now = p.saves pair e; before = s.now; owed = tt }

      by_save : (save : Option (ℕ × ℕ)) → work.save ≡ save → HoldsAt (elim save [
        | None ↦ record { now = work.state; before = w.now; owed = work.letters; fresh = true; saves = w.saves; saves_before = w.saves }
        | Some pair ↦ controller_saved w work pair.0 pair.1 (slice_index_or rs w.saves Saved)
      ])
      by_save None e = record { now = p.state; before = s.now; owed = p.letters }
      by_save (Some pair) e = by_result pair e (slice_index_or rs w.saves Saved)

  step_holds : (rs : List SaveResult) (w : ControllerAt) (e : JournalEntry B) (found : Option (Packet B)) → HoldsAt w → ((x : ControllerInput) → IsHeard scene e found x → IsGoodInput x) → HoldsAt (controller_step scene rs w e found)
  step_holds rs w (Draw a id keep) (Some p) s h = took_holds rs w _ s (invariant.turns w.now _ s.now (h _ (By_draw a id keep p refl refl refl)))
  step_holds rs w (Draw a id keep) None s h = record { now = s.now; before = s.before; owed = s.owed }
  step_holds rs w (Local a what) found s h = took_holds rs w _ s (invariant.turns w.now _ s.now (h _ (By_local a what refl refl)))
  step_holds rs w (Post a first letters lost) found s h = record { now = s.now; before = s.before; owed = tt }
  step_holds rs w (Refused a) found s h = record { now = invariant.falls w.before s.before; before = s.before; owed = tt }
  step_holds rs w (Lose a id) found s h = record { now = s.now; before = s.before; owed = s.owed }
  step_holds rs w (Idle a) found s h = record { now = s.now; before = s.before; owed = s.owed }

  module _ (e : JournalEntry B) (before : List (JournalEntry B)) (legal : IsPossible scene results (e ∷ before)) (valid : DrawsValidEvent scene e (drawn e before)) (fine : IsGoodEntry e) (good : HoldsAfter before) where
    input_good : (c : ℕ) (x : ControllerInput) → IsInputOf scene c e before x → IsGoodInput x
    input_good c x (OfItself a what here is) = subst (λ (y : ControllerInput). IsGoodInput y) (sym is) (invariant.local a what (subst IsGoodEntry here fine))
    input_good c x (OfPacket p among to event is) =
        subst (λ (y : ControllerInput). IsGoodInput y) (sym is)
        (invariant.heard c p.from (content scene.sealing p) (subst (λ (y : ControllerInput). HasValidEvent y) is (event valid)) (λ j m hears.
        let r = from_member p.from (content scene.sealing p) j m hears in
        let k = good.packets p among j r.0 in
        let said : IsSaid (actor.Controller c) k.said = subst (λ (a : Actor). IsSaid a k.said) to k.may in
        let same = valid_read scene faithful c k.said m (invariant.valid (actor.Controller c) k.said said) k.typed (read_between scene p j c k.said m r.0 to k.body r.1) in
        subst (λ (y : ControllerSays). IsSaid (actor.Controller c) y) same said))

    controllers_after : (c : ℕ) → c < scene.setup.controllers → HoldsAt (at c (e ∷ before))
    controllers_after c there =
        elim (controller_after scene (results_of results c) c e before) [
          | Own same is goes ↦
              subst (λ (ps : List (JournalEntry B × Option (Packet B))). HoldsAt (controller_at scene (results_of results c) c ps)) (sym is)
              (step_holds (results_of results c) (at c before) e (drawn e before) (good.controllers c there) (λ x h. input_good c x (input_of_entry scene results e before legal c x same h)))
          | Other other is ↦ subst (λ (ps : List (JournalEntry B × Option (Packet B))). HoldsAt (controller_at scene (results_of results c) c ps)) (sym is) (good.controllers c there)
        ]

    packet_after : (a : Actor) (first : ℕ) (letters : List (Letter B)) (lost : ℕ) (p : Packet B) → e ≡ Post a first letters lost → IsPosted a letters p → (j : ℕ) → p.from ≡ actor.Controller j → Carries p
    packet_after (actor.Switch s) first letters lost p is posted j from = absurd (let no : actor.Switch s ≡ actor.Controller j = sym posted.from_is ∙ from in cc)
    packet_after (actor.Controller c) first letters lost p is posted j from =
        let w = was_owed scene results e before legal c first letters lost p is posted in
        let there = named scene results e before legal c (ap (λ (y : JournalEntry B). same_actor (actor_of y) (actor.Controller c)) is ∙ self_controller c) in
        record {
          said = w.letter.body;
          body = w.body_is;
          may = subst (λ (a : Actor). IsSaid a w.letter.body) (sym w.to_is) (all_of (λ (l : Letter ControllerSays). IsSaid l.to l.body) (at c before).owed w.letter (good.controllers c there).owed w.among);
          typed = w.typed;
        }

    good_after : HoldsAfter (e ∷ before)
    good_after = record {
      controllers = controllers_after;
      packets = λ p among j from. elim (pool_after e before p among) [
        | Was old ↦ good.packets p old j from
        | New a first letters lost is posted ↦ packet_after a first letters lost p is posted j from
      ];
    }

  pub invariant_holds : (past : List (JournalEntry B)) → IsPossible scene results past → DrawsValidEvents scene past → AllByRecursion (λ e. IsGoodEntry e) past → HoldsAfter past
  invariant_holds [] legal valid fine = record { controllers = λ c there. record { now = invariant.starts c; before = invariant.starts c; owed = tt }; packets = λ p among. absurd among }
  invariant_holds (e ∷ before) legal valid fine = good_after e before legal valid.0 fine.0 (invariant_holds before (possible_before scene results e before legal) valid.1 fine.1)

-- The newest entry of a possible past, where it is one of a controller: it stands where it may, and what the controller
-- takes with it is its own or was drawn.
use Rattle.std.proofs.Common.{◌≡◌, ℕ, ◌<◌, true, false, Option, Some, List, ◌∷◌, sym, ap, ◌∙◌, subst}
use Rattle.journal.specs.declared.journal.Actor.{Actor}
use Rattle.journal.specs.declared.journal.Actor.TheVariants as actor
use Rattle.journal.specs.declared.journal.JournalEntry.{JournalEntry}
use Rattle.journal.specs.declared.journal.JournalEntry.TheVariants.{Post, Draw, Local}
use Rattle.journal.specs.declared.journal.Letter.{Letter}
use Rattle.journal.specs.declared.journal.Local.{Local as LocalInput}
use Rattle.journal.specs.declared.journal.Packet.{Packet}
use Rattle.journal.specs.declared.journal.SaveResult.{SaveResult}
use Rattle.journal.specs.Actors.{same_actor, actor_of, IsActor}
use Rattle.journal.specs.Orderly.{IsOrderly}
use Rattle.journal.specs.Part.{part, drawn}
use Rattle.journal.specs.Pool.{pool}
use Rattle.list_facts.proofs.Elements.{all_of, in_map}
use Rattle.list_facts.specs.Lists.{IsIn}
use Rattle.group_controller.specs.declared.messages.ControllerInput.{ControllerInput}
use Rattle.group_controller.specs.declared.messages.ControllerInput.TheVariants as controller_input
use Rattle.group_controller.specs.declared.messages.ControllerSays.{ControllerSays}
use Rattle.run_spec.specs.Messages.{FitsMessage}
use Rattle.run_spec.specs.States.{Scene, content, controller_hears, controller_message, controller_at}
use Rattle.run_spec.specs.Legal.{FitsDebt, IsSoundController, IsPossible, results_of}
use Rattle.run_spec.specs.Inputs.{IsHeard, By_draw, By_local}
use Rattle.run_spec.proofs.Entries.{Own, Other, controller_after}
use Rattle.run_spec.proofs.Pasts.{from_some, self_controller}
use Rattle.run_spec.proofs.Pools.{one_actor, drawn_found, IsPosted}
use Rattle.controller_moves.specs.Spelling.{HasValidEvent}
use Rattle.run_laws.specs.RunAgreement.Reading.{DrawsValidEvent}

-- where an input of controller c comes from
pub data IsInputOf {B : Type 0} (scene : Scene B) (c : ℕ) (e : JournalEntry B) (before : List (JournalEntry B)) (x : ControllerInput) : Type 0 where
  OfItself : (a : Actor) (what : LocalInput) → e ≡ Local a what → x ≡ controller_input.Local what → IsInputOf scene c e before x
  OfPacket : (p : Packet B) → IsIn p (pool before) → p.to ≡ actor.Controller c → (DrawsValidEvent scene e (drawn e before) → HasValidEvent x)
      → x ≡ controller_hears p.from (content scene.sealing p) → IsInputOf scene c e before x

-- a packet as a letter that a controller owed
pub record WasOwed {B : Type 0} (scene : Scene B) (owed : List (Letter ControllerSays)) (p : Packet B) : Type 0 where
  pub letter : Letter ControllerSays
  pub among : IsIn letter owed
  pub to_is : p.to ≡ letter.to
  pub body_is : p.body ≡ scene.sealing.sealed (controller_message letter.body)
  pub typed : FitsMessage (controller_message letter.body)

module _ {B : Type 0} (scene : Scene B) (results : List (List SaveResult)) (e : JournalEntry B) (before : List (JournalEntry B)) (legal : IsPossible scene results (e ∷ before)) where
  pub named : (c : ℕ) → same_actor (actor_of e) (actor.Controller c) ≡ true → c < scene.setup.controllers
  named c same = subst (λ (a : Actor). IsActor scene.setup a) (one_actor (actor_of e) (actor.Controller c) same) legal.named.0

  pub fits : (c : ℕ) → same_actor (actor_of e) (actor.Controller c) ≡ true
      → FitsDebt controller_message scene.sealing (controller_at scene (results_of results c) c (part (actor.Controller c) before)).owed (part (actor.Controller c) before) e
  fits c same =
      elim (controller_after scene (results_of results c) c e before) [
        | Own own is goes ↦ (subst (λ (ps : List (JournalEntry B × Option (Packet B))). IsSoundController scene (results_of results c) c ps) is (legal.controllers c (named c same))).0
        | Other other is ↦ absurd (let no : true ≡ false = sym same ∙ other in cc)
      ]

  -- a packet that a controller posts was owed
  pub was_owed : (c first : ℕ) (letters : List (Letter B)) (lost : ℕ) (p : Packet B) → e ≡ Post (actor.Controller c) first letters lost → IsPosted (actor.Controller c) letters p
      → WasOwed scene (controller_at scene (results_of results c) c (part (actor.Controller c) before)).owed p
  was_owed c first letters lost p is posted =
      let owed = (controller_at scene (results_of results c) c (part (actor.Controller c) before)).owed in
      let same : same_actor (actor_of e) (actor.Controller c) ≡ true = ap (λ (y : JournalEntry B). same_actor (actor_of y) (actor.Controller c)) is ∙ self_controller c in
      let may = subst (λ (y : JournalEntry B). FitsDebt controller_message scene.sealing owed (part (actor.Controller c) before) y) is (fits c same) in
      let m = in_map (λ (l : Letter ControllerSays). record { to = l.to; body = scene.sealing.sealed (controller_message l.body) }) owed posted.letter (subst (λ (ls : List (Letter B)). IsIn posted.letter ls) may.0 posted.among) in
      record { letter = m.0; among = m.1; to_is = posted.to_is ∙ ap (λ (l : Letter B). l.to) m.2; body_is = posted.body_is ∙ ap (λ (l : Letter B). l.body) m.2; typed = all_of (λ (l : Letter ControllerSays). FitsMessage (controller_message l.body)) owed m.0 may.2 m.1 }

  -- what a controller takes
  pub input_of_entry : (c : ℕ) (x : ControllerInput) → same_actor (actor_of e) (actor.Controller c) ≡ true → IsHeard scene e (drawn e before) x → IsInputOf scene c e before x
  input_of_entry c x same (By_draw a id keep p is found hears) =
      let r = drawn_found scene.sealing.size a id keep before (subst (λ (y : JournalEntry B). IsOrderly scene.sealing.size (y ∷ before)) is legal.orderly) in
      let it : r.packet ≡ p = from_some r.packet p (sym r.found ∙ ap (λ (y : JournalEntry B). drawn y before) (sym is) ∙ found) in
      let mine : a ≡ actor.Controller c = one_actor a (actor.Controller c) (ap (λ (y : JournalEntry B). same_actor (actor_of y) (actor.Controller c)) (sym is) ∙ same) in
      OfPacket p (subst (λ (y : Packet B). IsIn y (pool before)) it r.among) (ap (λ (y : Packet B). y.to) (sym it) ∙ r.goes_to ∙ mine)
      (λ valid.
      let drawn_valid : DrawsValidEvent scene (Draw (actor.Controller c) id keep) (Some p) =
      subst (λ (y : Actor). DrawsValidEvent scene (Draw y id keep) (Some p)) mine
      (subst (λ (q : Option (Packet B)). DrawsValidEvent scene (Draw a id keep) q) found (subst (λ (y : JournalEntry B). DrawsValidEvent scene y (drawn e before)) is valid)) in
      subst (λ (y : ControllerInput). HasValidEvent y) (sym hears) drawn_valid)
      hears
  input_of_entry c x same (By_local a what is hears) = OfItself a what is hears

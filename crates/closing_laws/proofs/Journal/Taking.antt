-- What one entry of a closing does to the controllers and to what waits.
use Rattle.std.proofs.Common.{◌≡◌, ◌≤◌, ℕ, ◌+◌, ◌-◌, Bool, true, false, List, [], ◌∷◌, ◌++◌, length, map, suc, refl, sym, ◌∙◌, ap, subst, arith}
use Rattle.std.specs.Prelude.{nat_eq, ◌&&◌, slice_index_or, Option, Some, None, if◌then◌else◌}
use Rattle.std.specs.List.{AllByRecursion}
use Rattle.std.proofs.lemmas.Bool.{and_right, eq-eqb}
use Rattle.std.proofs.lemmas.List.{take_all}
use Rattle.of_types.specs.declared.setup.Setup.{Setup}
use Rattle.journal.specs.declared.journal.Actor.{Actor}
use Rattle.journal.specs.declared.journal.Actor.TheVariants as actor
use Rattle.journal.specs.declared.journal.JournalEntry.{JournalEntry}
use Rattle.journal.specs.declared.journal.JournalEntry.TheVariants.{Draw, Local}
use Rattle.journal.specs.declared.journal.Letter.{Letter}
use Rattle.journal.specs.declared.journal.Local.TheVariants as local
use Rattle.journal.specs.declared.journal.Packet.{Packet}
use Rattle.journal.specs.declared.journal.SaveResult.{SaveResult}
use Rattle.journal.specs.declared.journal.SaveResult.TheVariants.{Saved}
use Rattle.journal.specs.Actors.{same_actor, actor_of}
use Rattle.journal.specs.Part.{part, drawn, packet_of}
use Rattle.journal.specs.Pool.{pool, numbered_letters, fitting, without}
use Rattle.journal.proofs.Pools.{Rising, without-at}
use Rattle.vr_log.specs.declared.message.VrLetter.{VrLetter}
use Rattle.vr_log.specs.declared.message.VrMessage.{VrMessage}
use Rattle.vr_log.specs.declared.state.Status.{Status}
use Rattle.vr_log.specs.declared.state.Status.TheVariants as status
use Rattle.vr_log.specs.declared.state.VrState.{VrState}
use Rattle.vr_log.specs.Members.{is_up, is_changing, is_normal, is_primary, leads}
use Rattle.vr_log.specs.Steps.{VrStep}
use Rattle.vr_core.specs.declared.input.VrInput.{VrInput}
use Rattle.vr_core.specs.declared.input.VrInput.TheVariants as vr_input
use Rattle.vr_core.specs.Step.{vr_step}
use Rattle.controller_moves.specs.Spelling.{IsValidTo}
use Rattle.group_controller.specs.declared.messages.ControllerInput.{ControllerInput}
use Rattle.group_controller.specs.declared.messages.ControllerInput.TheVariants as controller_input
use Rattle.group_controller.specs.State.{ControllerState, Work, stepped, to_members, with_no_met_limit}
use Rattle.group_controller.specs.Rules.{after_step, controller_work, is_down, starting_view}
use Rattle.run_spec.specs.declared.messages.Message.TheVariants as message
use Rattle.run_spec.specs.declared.messages.Unsealed.TheVariants as unsealed
use Rattle.run_spec.specs.Messages.{FitsMessage}
use Rattle.run_spec.specs.States.{Scene, IsFaithful, ControllerAt, content, controller_at, controller_hears, controller_message, controller_saved, controller_step, controller_took, sealed_letters}
use Rattle.run_spec.specs.Legal.{results_of}
use Rattle.run_spec.proofs.Pasts.{self_controller}
use Rattle.closing_laws.specs.Draining.{Flight, flown}
use Rattle.closing_laws.proofs.Lists.Paired.{ArePaired, paired_append}

-- what a member is
pub changing_up : (s : VrState) → is_changing s ≡ true → is_up s ≡ true
changing_up s e = by_status s.status e
  where
    by_status : (x : Status) → (elim x [ status.Normal ↦ false | status.ViewChange ↦ true | status.Recovering ↦ false | status.Down ↦ false ]) ≡ true →
        (elim x [ status.Normal ↦ true | status.ViewChange ↦ true | status.Recovering ↦ false | status.Down ↦ false ]) ≡ true
    by_status status.Normal e = absurd cc
    by_status status.ViewChange e = refl
    by_status status.Recovering e = absurd cc
    by_status status.Down e = absurd cc

changing_not_normal : (s : VrState) → is_changing s ≡ true → is_normal s ≡ false
changing_not_normal s e = by_status s.status e
  where
    by_status : (x : Status) → (elim x [ status.Normal ↦ false | status.ViewChange ↦ true | status.Recovering ↦ false | status.Down ↦ false ]) ≡ true →
        (elim x [ status.Normal ↦ true | status.ViewChange ↦ false | status.Recovering ↦ false | status.Down ↦ false ]) ≡ false
    by_status status.Normal e = absurd cc
    by_status status.ViewChange e = refl
    by_status status.Recovering e = absurd cc
    by_status status.Down e = absurd cc

pub changing_leads_not : (s : VrState) → is_changing s ≡ true → leads s ≡ false
changing_leads_not s e = ap (λ (b : Bool). b && is_primary s) (changing_not_normal s e)

pub up_not_down : (c : ControllerState) → is_up c.vr ≡ true → is_down c ≡ false
up_not_down c e = by_status c.vr.status e
  where
    by_status : (x : Status) → (elim x [ status.Normal ↦ true | status.ViewChange ↦ true | status.Recovering ↦ false | status.Down ↦ false ]) ≡ true →
        (elim x [ status.Normal ↦ false | status.ViewChange ↦ false | status.Recovering ↦ false | status.Down ↦ true ]) ≡ false
    by_status status.Normal e = refl
    by_status status.ViewChange e = refl
    by_status status.Recovering e = absurd cc
    by_status status.Down e = absurd cc

-- what a controller does with a suspicion, and with a message of a member
pub data IsOfMember : ControllerInput → VrInput → Type 0 where
  By_suspicion : (w : ℕ) → IsOfMember (controller_input.Local (local.Suspect w)) (vr_input.Suspect w)
  By_message : (from : ℕ) (m : VrMessage) → IsOfMember (controller_input.Vr from m) (vr_input.From from m)

pub member_work : (kinds : List ℕ) (setup : Setup) (c : ControllerState) (x : ControllerInput) (y : VrInput) → IsOfMember x y → is_up c.vr ≡ true →
    controller_work kinds setup c x ≡ after_step kinds setup (with_no_met_limit c) (vr_step c.vr y)
unfolding controller_work
member_work kinds setup c _ _ (By_suspicion w) up = rw (up_not_down c up) refl
member_work kinds setup c _ _ (By_message from m) up = rw (up_not_down c up) refl

-- a step behind which the view still changes is all of the turn
pub quiet_work : (kinds : List ℕ) (setup : Setup) (c : ControllerState) (step : VrStep) → is_changing step.state ≡ true → after_step kinds setup c step ≡ stepped c step
unfolding after_step
quiet_work kinds setup c step changes = rw (changing_leads_not step.state changes) refl

-- and one that starts a view goes on
pub starting_work : (kinds : List ℕ) (setup : Setup) (c : ControllerState) (step : VrStep) → leads c.vr ≡ false → leads step.state ≡ true → after_step kinds setup c step ≡ starting_view kinds setup (stepped c step)
unfolding after_step
starting_work kinds setup c step before now = rw (now, before) refl

-- also where the member led before, in an earlier view
pub starting_later : (kinds : List ℕ) (setup : Setup) (c : ControllerState) (step : VrStep) → nat_eq c.vr.view step.state.view ≡ false → leads step.state ≡ true → after_step kinds setup c step ≡ starting_view kinds setup (stepped c step)
unfolding after_step
starting_later kinds setup c step other now = rw (now, other, and_right (leads c.vr) false refl) refl

-- a turn whose save succeeds, if it makes one
abbrev pub Succeeds : List SaveResult → ℕ → Type 0
Succeeds results from = (i : ℕ) → from ≤ i → slice_index_or results i Saved ≡ Saved

abbrev Took : ControllerAt → Work → ControllerAt → Type 0
Took w work t = (t.now ≡ work.state) × (t.owed ≡ work.letters) × (w.saves ≤ t.saves)

pub took_saved : (results : List SaveResult) (w : ControllerAt) (work : Work) → Succeeds results w.saves → Took w work (controller_took results w work)
took_saved results w work all = by_save work.save
  where
    by_save : (q : Option (ℕ × ℕ)) → Took w work (elim q [
      | None ↦ record { now = work.state; before = w.now; owed = work.letters; fresh = true; saves = w.saves; saves_before = w.saves }
      | Some pair ↦ controller_saved w work pair.0 pair.1 (slice_index_or results w.saves Saved)
    ])
    by_save None = (refl, refl, omega arith)
    by_save (Some pair) = subst (λ (r : SaveResult). Took w work (controller_saved w work pair.0 pair.1 r)) (sym (all w.saves (omega arith))) (refl, refl, omega arith)

module _ {B : Type 0} (scene : Scene B) (results : List (List SaveResult)) where
  abbrev pub at : ℕ → List (JournalEntry B) → ControllerAt
  at c P = controller_at scene (results_of results c) c (part (actor.Controller c) P)

  -- the parts of the others stay
  pub others_stay : (m : ℕ) (e : JournalEntry B) (P : List (JournalEntry B)) → actor_of e ≡ actor.Controller m → (c : ℕ) → nat_eq m c ≡ false → at c (e ∷ P) ≡ at c P
  others_stay m e P whose c other =
      ap (λ (b : Bool). controller_at scene (results_of results c) c (if b then (e, drawn e P) ∷ part (actor.Controller c) P else part (actor.Controller c) P))
      (ap (λ (a : Actor). same_actor a (actor.Controller c)) whose ∙ other)

  pub own_steps : (m : ℕ) (e : JournalEntry B) (P : List (JournalEntry B)) → actor_of e ≡ actor.Controller m → at m (e ∷ P) ≡ controller_step scene (results_of results m) (at m P) e (drawn e P)
  own_steps m e P whose =
      ap (λ (b : Bool). controller_at scene (results_of results m) m (if b then (e, drawn e P) ∷ part (actor.Controller m) P else part (actor.Controller m) P))
      (ap (λ (a : Actor). same_actor a (actor.Controller m)) whose ∙ self_controller m)

  -- a turn of a controller
  pub record TurnOf (m : ℕ) (e : JournalEntry B) (P : List (JournalEntry B)) (work : Work) : Type 0 where
    pub now : (at m (e ∷ P)).now ≡ work.state
    pub owed : (at m (e ∷ P)).owed ≡ work.letters
    pub saves : (at m P).saves ≤ (at m (e ∷ P)).saves

  turn_of : (m : ℕ) (e : JournalEntry B) (P : List (JournalEntry B)) (work : Work) → at m (e ∷ P) ≡ controller_took (results_of results m) (at m P) work → Succeeds (results_of results m) (at m P).saves → TurnOf m e P work
  turn_of m e P work is all =
      let t = subst (λ (x : ControllerAt). Took (at m P) work x) (sym is) (took_saved (results_of results m) (at m P) work all) in
      record { now = t.0; owed = t.1; saves = t.2 }

  pub turn_local : (m w : ℕ) (P : List (JournalEntry B)) → Succeeds (results_of results m) (at m P).saves →
      TurnOf m (Local (actor.Controller m) (local.Suspect w)) P (controller_work scene.kinds scene.setup (at m P).now (controller_input.Local (local.Suspect w)))
  turn_local m w P all = turn_of m (Local (actor.Controller m) (local.Suspect w)) P (controller_work scene.kinds scene.setup (at m P).now (controller_input.Local (local.Suspect w)))
      (own_steps m (Local (actor.Controller m) (local.Suspect w)) P refl) all

  pub turn_draw : (m : ℕ) (p : Packet B) (P : List (JournalEntry B)) → packet_of p.id (pool P) ≡ Some p → Succeeds (results_of results m) (at m P).saves →
      TurnOf m (Draw (actor.Controller m) p.id false) P (controller_work scene.kinds scene.setup (at m P).now (controller_hears p.from (content scene.sealing p)))
  turn_draw m p P found all =
      let e : JournalEntry B = Draw (actor.Controller m) p.id false in
      let work = controller_work scene.kinds scene.setup (at m P).now (controller_hears p.from (content scene.sealing p)) in
      turn_of m e P work (own_steps m e P refl ∙ ap (λ (q : Option (Packet B)). controller_step scene (results_of results m) (at m P) e q) found) all

  -- a packet carries what a member sent
  pub record Carries (p : Packet B) (f : Flight) : Type 0 where
    pub from : p.from ≡ actor.Controller f.from
    pub to : p.to ≡ actor.Controller f.to
    pub says : content scene.sealing p ≡ unsealed.Message (message.Vr f.message)

  abbrev pub AllCarry : List (Packet B) → List Flight → Type 0
  AllCarry ps fs = ArePaired Carries ps fs

  pub carry_both : (ps qs : List (Packet B)) (fs gs : List Flight) → AllCarry ps fs → AllCarry qs gs → AllCarry (ps ++ qs) (fs ++ gs)
  carry_both = paired_append Carries

  pub record HeadOf (ps : List (Packet B)) (f : Flight) (waiting : List Flight) : Type 0 where
    pub packet : Packet B
    pub rest : List (Packet B)
    pub is : ps ≡ packet ∷ rest
    pub carries : Carries packet f
    pub others : AllCarry rest waiting

  pub head_of : (ps : List (Packet B)) (f : Flight) (waiting : List Flight) → AllCarry ps (f ∷ waiting) → HeadOf ps f waiting
  head_of [] f waiting a = absurd a
  head_of (p ∷ ps) f waiting a = record { packet = p; rest = ps; is = refl; carries = a.0; others = a.1 }

  -- what a turn of a member owes is carried, once it is posted
  pub posts_carry : IsFaithful scene.sealing → (m first : ℕ) (letters : List VrLetter) → AllByRecursion (λ l. IsValidTo l.to l.body) (to_members letters) →
      AllByRecursion (λ l. FitsMessage (controller_message l.body)) (to_members letters) →
      AllCarry (numbered_letters first (actor.Controller m) (sealed_letters controller_message scene.sealing (to_members letters))) (map (flown m) letters)
  posts_carry faithful m first [] valid typed = tt
  posts_carry faithful m first (l ∷ letters) valid typed =
      (record { from = refl; to = refl; says = faithful (message.Vr l.message) valid.0 typed.0 }, posts_carry faithful m (first + 1) letters valid.1 typed.1)

pub finds_head : {B : Type 0} (p : Packet B) (rest : List (Packet B)) → packet_of p.id (p ∷ rest) ≡ Some p
finds_head p rest = rw (eq-eqb p.id p.id refl) refl

pub leaves_head : {B : Type 0} {high : ℕ} (p : Packet B) (rest : List (Packet B)) {low : ℕ} → Rising high low (p ∷ rest) → without p.id (p ∷ rest) ≡ rest
leaves_head p rest rises = without-at (p ∷ rest) 0 p rises refl

pub length-numbered : {B : Type 0} (n : ℕ) (a : Actor) (letters : List (Letter B)) → length (numbered_letters n a letters) ≡ length letters
length-numbered n a [] = refl
length-numbered n a (l ∷ letters) = ap suc (length-numbered (n + 1) a letters)

-- a post that finds room
pub all_fit : {B : Type 0} (first : ℕ) (a : Actor) (letters : List (Letter B)) (lost : ℕ) → lost ≡ 0 → fitting first a letters lost ≡ numbered_letters first a letters
all_fit first a letters lost none = take_all (length letters - lost) (numbered_letters first a letters) (let long = length-numbered first a letters in omega (arith, none, long))

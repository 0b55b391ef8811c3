-- What every controller of a journal is, whatever it hears.
use Rattle.std.proofs.Common.{◌≡◌, ◌⊎◌, inl, inr, ℕ, ◌+◌, Bool, true, false, List, [], ◌∷◌, refl, sym, ◌∙◌, subst, arith}
use Rattle.std.specs.Prelude.{Option, Some, None, slice_index_or}
use Rattle.std.proofs.lemmas.Bool.{and_parts}
use Rattle.of_types.specs.declared.setup.Setup.{Setup}
use Rattle.journal.specs.declared.journal.JournalEntry.{JournalEntry}
use Rattle.journal.specs.declared.journal.JournalEntry.TheVariants.{Post, Draw, Lose, Local, Idle, Refused}
use Rattle.journal.specs.declared.journal.Packet.{Packet}
use Rattle.journal.specs.declared.journal.SaveResult.{SaveResult}
use Rattle.journal.specs.declared.journal.SaveResult.TheVariants.{Saved, KeptOld, KeptNew}
use Rattle.vr_log.specs.declared.state.Status.{Status}
use Rattle.vr_log.specs.declared.state.Status.TheVariants as status
use Rattle.vr_log.specs.declared.state.VrState.{VrState}
use Rattle.vr_log.specs.Members.{is_up, is_normal, is_primary, leads}
use Rattle.vr_core.specs.declared.input.VrInput.{VrInput}
use Rattle.group_controller.specs.declared.messages.ControllerInput.{ControllerInput}
use Rattle.group_controller.specs.declared.messages.ControllerInput.TheVariants as controller_input
use Rattle.controller_moves.specs.ControllerLaws.Entries.{IsConsistent}
use Rattle.controller_moves.specs.ControllerLaws.Moves.{Chain, Start, Then, ControllerMove, Steps, Says, Saves, Begins, Proposes, Results, Notes, member_input}
use Rattle.group_controller.specs.Rules.{is_down, controller_work}
use Rattle.group_controller.specs.State.{ControllerState, Work}
use Rattle.controller_moves.specs.ControllerLaws.Turns.{beginning}
use Rattle.controller_moves.specs.ControllerLaws.MemberMoves.{MemberMove, Enters, Tallies, Collects, Stocks, Starts, Adopts, Recovers, Appends, Commits, Keeps}
use Rattle.vr_log.specs.Valid.{starting_state, down_state}
use Rattle.vr_recovery.specs.Recovering.{recovering_state}
use Rattle.controller_moves.proofs.ControllerLaws.Restarts.{down_rests}
use Rattle.controller_moves.proofs.ControllerLaws.Reached.{turn_chain, chain_reaches}
use Rattle.run_spec.specs.States.{Scene, ControllerAt, controller_at, controller_took, controller_saved, controller_hears, content}

-- one that takes no part has nothing committed
abbrev pub BlankUnlessUp : VrState → Type 0
BlankUnlessUp s = (is_up s ≡ true) ⊎ (s.commit ≡ 0)

up_of_normal : (x : Status) → (elim x [ status.Normal ↦ true | status.ViewChange ↦ false | status.Recovering ↦ false | status.Down ↦ false ]) ≡ true →
    (elim x [ status.Normal ↦ true | status.ViewChange ↦ true | status.Recovering ↦ false | status.Down ↦ false ]) ≡ true
up_of_normal status.Normal e = refl
up_of_normal status.ViewChange e = refl
up_of_normal status.Recovering e = absurd cc
up_of_normal status.Down e = absurd cc

up_normal : (s : VrState) → is_normal s ≡ true → is_up s ≡ true
up_normal s e = up_of_normal s.status e

pub up_leads : (s : VrState) → leads s ≡ true → is_up s ≡ true
up_leads s e = up_normal s (and_parts (is_normal s) (is_primary s) e).0

member_blank : (x : VrInput) (s s' : VrState) → MemberMove x s s' → BlankUnlessUp s → BlankUnlessUp s'
member_blank x s s' (Enters view l v is) b = subst (λ (z : VrState). BlankUnlessUp z) (sym is) (inl refl)
member_blank x s s' (Tallies votes sent acked is) b = subst (λ (z : VrState). BlankUnlessUp z) (sym is) b
member_blank x s s' (Collects c from is) b = subst (λ (z : VrState). BlankUnlessUp z) (sym is) b
member_blank x s s' (Stocks from view first log asks l is) b = subst (λ (z : VrState). BlankUnlessUp z) (sym is) b
member_blank x s s' (Starts c cs cl may long sound is) b = subst (λ (z : VrState). BlankUnlessUp z) (sym is) (inl refl)
member_blank x s s' (Adopts view first commit log shows newer l sound is) b = subst (λ (z : VrState). BlankUnlessUp z) (sym is) (inl refl)
member_blank x s s' (Recovers view r told k v f rec sound is) b = subst (λ (z : VrState). BlankUnlessUp z) (sym is) (inl refl)
member_blank x s s' (Appends commit more normal fol brings is) b = subst (λ (z : VrState). BlankUnlessUp z) (sym is) (inl (up_normal s normal))
member_blank x s s' (Commits k normal low high is) b = subst (λ (z : VrState). BlankUnlessUp z) (sym is) (inl (up_normal s normal))
member_blank x s s' (Keeps r nonce asks is) b = subst (λ (z : VrState). BlankUnlessUp z) (sym is) b

member_up : (x : VrInput) (s s' : VrState) → MemberMove x s s' → is_up s ≡ true → is_up s' ≡ true
member_up x s s' (Enters view l v is) b = subst (λ (z : VrState). is_up z ≡ true) (sym is) refl
member_up x s s' (Tallies votes sent acked is) b = subst (λ (z : VrState). is_up z ≡ true) (sym is) b
member_up x s s' (Collects c from is) b = subst (λ (z : VrState). is_up z ≡ true) (sym is) b
member_up x s s' (Stocks from view first log asks l is) b = subst (λ (z : VrState). is_up z ≡ true) (sym is) b
member_up x s s' (Starts c cs cl may long sound is) b = subst (λ (z : VrState). is_up z ≡ true) (sym is) refl
member_up x s s' (Adopts view first commit log shows newer l sound is) b = subst (λ (z : VrState). is_up z ≡ true) (sym is) refl
member_up x s s' (Recovers view r told k v f rec sound is) b = subst (λ (z : VrState). is_up z ≡ true) (sym is) refl
member_up x s s' (Appends commit more normal fol brings is) b = subst (λ (z : VrState). is_up z ≡ true) (sym is) b
member_up x s s' (Commits k normal low high is) b = subst (λ (z : VrState). is_up z ≡ true) (sym is) b
member_up x s s' (Keeps r nonce asks is) b = subst (λ (z : VrState). is_up z ≡ true) (sym is) b

module _ (kinds : List ℕ) (setup : Setup) (x : ControllerInput) where
  move_blank : (w w' : Work) → ControllerMove kinds setup x w w' → BlankUnlessUp w.state.vr → BlankUnlessUp w'.state.vr
  move_blank w w' (Steps s m is) b = subst (λ (z : Work). BlankUnlessUp z.state.vr) (sym is) (member_blank (member_input x) w.state.vr s m b)
  move_blank w w' (Says ls all is) b = subst (λ (z : Work). BlankUnlessUp z.state.vr) (sym is) b
  move_blank w w' (Saves save is) b = subst (λ (z : Work). BlankUnlessUp z.state.vr) (sym is) b
  move_blank w w' (Begins l is) b = subst (λ (z : Work). BlankUnlessUp z.state.vr) (sym is) b
  move_blank w w' (Proposes entry l p room is) b = subst (λ (z : Work). BlankUnlessUp z.state.vr) (sym is) (inl (up_leads w.state.vr l))
  move_blank w w' (Results s xid life number outcome asks l pending is) b = subst (λ (z : Work). BlankUnlessUp z.state.vr) (sym is) b
  move_blank w w' (Notes confirmed told full is) b = subst (λ (z : Work). BlankUnlessUp z.state.vr) (sym is) b

  pub move_up : (w w' : Work) → ControllerMove kinds setup x w w' → is_up w.state.vr ≡ true → is_up w'.state.vr ≡ true
  move_up w w' (Steps s m is) b = subst (λ (z : Work). is_up z.state.vr ≡ true) (sym is) (member_up (member_input x) w.state.vr s m b)
  move_up w w' (Says ls all is) b = subst (λ (z : Work). is_up z.state.vr ≡ true) (sym is) b
  move_up w w' (Saves save is) b = subst (λ (z : Work). is_up z.state.vr ≡ true) (sym is) b
  move_up w w' (Begins l is) b = subst (λ (z : Work). is_up z.state.vr ≡ true) (sym is) b
  move_up w w' (Proposes entry l p room is) b = subst (λ (z : Work). is_up z.state.vr ≡ true) (sym is) b
  move_up w w' (Results s xid life number outcome asks l pending is) b = subst (λ (z : Work). is_up z.state.vr ≡ true) (sym is) b
  move_up w w' (Notes confirmed told full is) b = subst (λ (z : Work). is_up z.state.vr ≡ true) (sym is) b

  pub chain_blank : (c : ControllerState) (w : Work) → BlankUnlessUp c.vr → Chain kinds setup x (beginning c) w → BlankUnlessUp w.state.vr
  chain_blank c w b Start = b
  chain_blank c w b (Then mid w2 chain move) = move_blank mid w move (chain_blank c mid b chain)

-- a controller's member is one, and its own
pub record IsOwned (me controllers : ℕ) (s : VrState) : Type 0 where
  pub consistent : IsConsistent s
  pub blank : BlankUnlessUp s
  pub me_is : s.me ≡ me
  pub all : s.controllers ≡ controllers

starting_consistent : (me controllers : ℕ) → IsConsistent (starting_state me controllers)
starting_consistent me controllers = record { follow = refl; commit = omega arith; supply = λ p e. absurd cc; own = λ e c k. absurd k }

down_consistent : (me controllers promise life : ℕ) → IsConsistent (down_state me controllers promise life)
down_consistent me controllers promise life = record { follow = refl; commit = omega arith; supply = λ p e. absurd cc; own = λ e c k. absurd k }

recovering_consistent : (me controllers promise life : ℕ) → IsConsistent (recovering_state me controllers promise life)
recovering_consistent me controllers promise life = record { follow = refl; commit = omega arith; supply = λ p e. absurd cc; own = λ e c k. absurd k }

module _ (me controllers : ℕ) where
  pub starting_owned : IsOwned me controllers (starting_state me controllers)
  starting_owned = record { consistent = starting_consistent me controllers; blank = inr refl; me_is = refl; all = refl }

  pub down_owned : (s : VrState) (promise life : ℕ) → IsOwned me controllers s → IsOwned me controllers (down_state s.me s.controllers promise life)
  down_owned s promise life o = record { consistent = down_consistent s.me s.controllers promise life; blank = inr refl; me_is = o.me_is; all = o.all }

  recovering_owned : (s : VrState) (promise life : ℕ) → IsOwned me controllers s → IsOwned me controllers (recovering_state s.me s.controllers promise life)
  recovering_owned s promise life o = record { consistent = recovering_consistent s.me s.controllers promise life; blank = inr refl; me_is = o.me_is; all = o.all }

  pub work_owned : (kinds : List ℕ) (setup : Setup) (x : ControllerInput) (c : ControllerState) → IsOwned me controllers c.vr → IsOwned me controllers (controller_work kinds setup c x).state.vr
  work_owned kinds setup x c o = by_down (is_down c) refl
    where
      by_down : (b : Bool) → is_down c ≡ b → IsOwned me controllers (controller_work kinds setup c x).state.vr
      by_down true off = elim (down_rests kinds setup x c off) [
        | inl e ↦ subst (λ (w : Work). IsOwned me controllers w.state.vr) (sym e) o
        | inr r ↦ subst (λ (s : ControllerState). IsOwned me controllers s.vr) (sym r.1.state_is) (recovering_owned c.vr c.vr.promise (c.vr.life + 1) o)
      ]
      by_down false up = elim (turn_chain kinds setup x c up) [
        | inl chain ↦
            let r = chain_reaches kinds setup x c o.consistent (controller_work kinds setup c x) chain in
            record { consistent = r.consistent; blank = chain_blank kinds setup x c (controller_work kinds setup c x) o.blank chain; me_is = r.me ∙ o.me_is; all = r.controllers ∙ o.all }
        | inr crash ↦ subst (λ (w : Work). IsOwned me controllers w.state.vr) (sym crash.1) (down_owned c.vr c.vr.promise c.vr.life o)
      ]

  pub record IsOwnedAt (w : ControllerAt) : Type 0 where
    pub now : IsOwned me controllers w.now.vr
    pub before : IsOwned me controllers w.before.vr

  took_owned : (results : List SaveResult) (w : ControllerAt) (work : Work) → IsOwnedAt w → IsOwned me controllers work.state.vr → (q : Option (ℕ × ℕ)) → IsOwnedAt (elim q [
    | None ↦ record { now = work.state; before = w.now; owed = work.letters; fresh = true; saves = w.saves; saves_before = w.saves }
    | Some pair ↦ controller_saved w work pair.0 pair.1 (slice_index_or results w.saves Saved)
  ])
  took_owned results w work s p None = record { now = p; before = s.now }
  took_owned results w work s p (Some pair) = by (slice_index_or results w.saves Saved)
    where
      by : (x : SaveResult) → IsOwnedAt (controller_saved w work pair.0 pair.1 x)
      by Saved = record { now = p; before = s.now }
      by KeptOld = record { now = down_owned w.now.vr w.now.vr.promise w.now.vr.life s.now; before = s.now }
      by KeptNew = record { now = down_owned w.now.vr pair.0 pair.1 s.now; before = s.now }

module _ {B : Type 0} (scene : Scene B) (results : List SaveResult) (c : ℕ) where
  abbrev OwnAt : ControllerAt → Type 0
  OwnAt w = IsOwnedAt c scene.setup.controllers w

  takes : (w : ControllerAt) (x : ControllerInput) → OwnAt w → OwnAt (controller_took results w (controller_work scene.kinds scene.setup w.now x))
  takes w x o =
      took_owned c scene.setup.controllers results w (controller_work scene.kinds scene.setup w.now x) o (work_owned c scene.setup.controllers scene.kinds scene.setup x w.now o.now) (controller_work scene.kinds scene.setup w.now x).save

  pub owned_at : (ps : List (JournalEntry B × Option (Packet B))) → OwnAt (controller_at scene results c ps)
  owned_at [] = record { now = starting_owned c scene.setup.controllers; before = starting_owned c scene.setup.controllers }
  owned_at ((Draw a id keep, Some p) ∷ ps) = takes (controller_at scene results c ps) (controller_hears p.from (content scene.sealing p)) (owned_at ps)
  owned_at ((Draw a id keep, None) ∷ ps) = let o = owned_at ps in record { now = o.now; before = o.before }
  owned_at ((Local a input, p) ∷ ps) = takes (controller_at scene results c ps) (controller_input.Local input) (owned_at ps)
  owned_at ((Post a first letters lost, p) ∷ ps) = let o = owned_at ps in record { now = o.now; before = o.before }
  owned_at ((Refused a, p) ∷ ps) =
      let o = owned_at ps in
      record { now = down_owned c scene.setup.controllers (controller_at scene results c ps).before.vr (controller_at scene results c ps).before.vr.promise (controller_at scene results c ps).before.vr.life o.before; before = o.before }
  owned_at ((Lose a id, p) ∷ ps) = let o = owned_at ps in record { now = o.now; before = o.before }
  owned_at ((Idle a, p) ∷ ps) = let o = owned_at ps in record { now = o.now; before = o.before }

-- What is posted behind a past, and by whom.
use Rattle.std.proofs.Common.{◌≡◌, ◌<◌, ℕ, Bool, true, false, List, [], ◌∷◌, ◌++◌, map, suc, length, refl, sym, ◌∙◌, ap, subst, append_assoc}
use Rattle.std.specs.Prelude.{nat_eq, reverse, Option, if◌then◌else◌}
use Rattle.std.proofs.lemmas.Bool.{eqb-true}
use Rattle.std.proofs.lemmas.List.{reverse-append}
use Rattle.of_types.specs.Setups.{IsSetup}
use Rattle.journal.specs.declared.journal.Actor.{Actor}
use Rattle.journal.specs.declared.journal.Actor.TheVariants as actor
use Rattle.journal.specs.declared.journal.JournalEntry.{JournalEntry}
use Rattle.journal.specs.declared.journal.JournalEntry.TheVariants.{Post, Draw, Lose, Local, Idle, Refused}
use Rattle.journal.specs.declared.journal.Letter.{Letter}
use Rattle.journal.specs.declared.journal.Packet.{Packet}
use Rattle.journal.specs.declared.journal.SaveResult.{SaveResult}
use Rattle.journal.specs.Actors.{actor_of, same_actor}
use Rattle.journal.specs.Part.{drawn, part}
use Rattle.journal.specs.Pool.{pool, numbered_letters}
use Rattle.journal.specs.Turns.{IsWithinLimits}
use Rattle.group_controller.specs.declared.messages.ControllerSays.{ControllerSays}
use Rattle.run_spec.specs.declared.messages.Message.{Message}
use Rattle.run_spec.specs.declared.messages.Unsealed.TheVariants as unsealed
use Rattle.run_spec.specs.Committed.{switch_state}
use Rattle.run_spec.specs.States.{Scene, Sealing, IsFaithful, ControllerAt, content, controller_message, sealed_letters, switch_at, switch_message}
use Rattle.run_spec.specs.Legal.{FitsDebt, IsPossible, IsSoundSwitch}
use Rattle.run_spec.specs.Script.{IsInputOf, IsPosted, owed_of}
use Rattle.run_spec.specs.Closing.{Phase, ClosesTo}
use Rattle.run_spec.proofs.Entries.{Mine, Another, switch_after}
use Rattle.run_spec.proofs.Pasts.{possible_before, self_controller, self_switch}
use Rattle.run_spec.proofs.Pools.{one_actor}
use Rattle.run_laws.proofs.RunAgreement.Pasts.{fits}
use Rattle.run_laws.proofs.Laws.{always}
use Rattle.closing_laws.proofs.Journal.Carrying.{letters_read, ordered_may}
use Rattle.closing_laws.proofs.Journal.Taking.{all_fit, at, others_stay, own_steps}
use Rattle.closing_laws.proofs.Pool.Room.{within_before}

-- a past with entries behind it, the oldest first
abbrev pub later : {B : Type 0} → List (JournalEntry B) → List (JournalEntry B) → List (JournalEntry B)
later P [] = P
later P (e ∷ rest) = later (e ∷ P) rest

pub later_is : {B : Type 0} (P entries : List (JournalEntry B)) → later P entries ≡ reverse entries ++ P
later_is P [] = refl
later_is P (e ∷ rest) = later_is (e ∷ P) rest ∙ sym (ap (λ (l : List (JournalEntry _)). l ++ P) (reverse-append (e ∷ []) rest) ∙ append_assoc (reverse rest) (e ∷ []) P)

pub map_none : {X Y : Type 0} (f : X → Y) (xs : List X) → map f xs ≡ [] → xs ≡ []
map_none f [] h = refl
map_none f (x ∷ xs) h = cc

-- what is within the limits later was within them
pub within_under : {B : Type 0} (size : B → ℕ) (entries P : List (JournalEntry B)) → IsWithinLimits size (later P entries) → IsWithinLimits size P
within_under size [] P h = h
within_under size (e ∷ rest) P h = within_before size e P (within_under size rest (e ∷ P) h)

-- sealing keeps the number of letters
pub sealed_length : {A B : Type 0} (says : A → Message) (sealing : Sealing B) (letters : List (Letter A)) → length (sealed_letters says sealing letters) ≡ length letters
sealed_length says sealing [] = refl
sealed_length says sealing (l ∷ letters) = ap suc (sealed_length says sealing letters)

module _ {B : Type 0} (scene : Scene B) (results : List (List SaveResult)) where
  pub possible_under : (entries P : List (JournalEntry B)) → IsPossible scene results (later P entries) → IsPossible scene results P
  possible_under [] P h = h
  possible_under (e ∷ rest) P h = possible_before scene results e P (possible_under rest (e ∷ P) h)

  -- an entry of a controller leaves the switches as they are
  pub switches_stay : (m : ℕ) (e : JournalEntry B) (P : List (JournalEntry B)) → actor_of e ≡ actor.Controller m → (t : ℕ) → switch_state scene t (e ∷ P) ≡ switch_state scene t P
  switches_stay m e P whose t =
      ap (λ (a : Actor). (switch_at scene t (if same_actor a (actor.Switch t) then (e, drawn e P) ∷ part (actor.Switch t) P else part (actor.Switch t) P)).now) whose

  -- what the actor of the newest entry owes
  pub owes_nothing : (P older : List (JournalEntry B)) (e : JournalEntry B) (m : ℕ) → P ≡ e ∷ older → actor_of e ≡ actor.Controller m → IsPosted scene results P → (at scene results m P).owed ≡ []
  owes_nothing P older e m is whose posted =
      map_none (λ (l : Letter ControllerSays). record { to = l.to; body = scene.sealing.sealed (controller_message l.body) }) (at scene results m P).owed
      (subst (λ (Q : List (JournalEntry B)). IsPosted scene results Q → sealed_letters controller_message scene.sealing (at scene results m Q).owed ≡ []) (sym is)
      (λ h. ap (λ (a : Actor). owed_of scene results a (e ∷ older)) (sym whose) ∙ h) posted)

  -- whose post it is
  pub poster : (P older : List (JournalEntry B)) (e : JournalEntry B) (m : ℕ) (a : Actor) → P ≡ e ∷ older → actor_of e ≡ actor.Controller m → IsInputOf a P → a ≡ actor.Controller m
  poster P older e m a is whose input =
      let it = subst (λ (Q : List (JournalEntry B)). IsInputOf a Q) is input in
      sym (one_actor (actor_of e) a it.1) ∙ whose

  module _ (m first : ℕ) (letters : List (Letter B)) (lost : ℕ) (P : List (JournalEntry B)) where
    abbrev post : JournalEntry B
    post = Post (actor.Controller m) first letters lost

    abbrev after_post : ControllerAt
    after_post = record (at scene results m P) { owed = []; fresh = false }

    pub posted_own : at scene results m (post ∷ P) ≡ after_post
    posted_own = own_steps scene results m post P refl

    -- a post changes nobody
    pub posted_holds : (c : ℕ) → ((at scene results c (post ∷ P)).now ≡ (at scene results c P).now) × ((at scene results c (post ∷ P)).saves ≡ (at scene results c P).saves)
    posted_holds c = by_place (nat_eq m c) refl
      where
        by_place : (b : Bool) → nat_eq m c ≡ b → ((at scene results c (post ∷ P)).now ≡ (at scene results c P).now) × ((at scene results c (post ∷ P)).saves ≡ (at scene results c P).saves)
        by_place true e =
            subst (λ (k : ℕ). ((at scene results k (post ∷ P)).now ≡ (at scene results k P).now) × ((at scene results k (post ∷ P)).saves ≡ (at scene results k P).saves)) (eqb-true m c e)
            (ap (λ (x : ControllerAt). x.now) posted_own, ap (λ (x : ControllerAt). x.saves) posted_own)
        by_place false e =
            let same = others_stay scene results m post P refl c e in
            (ap (λ (x : ControllerAt). x.now) same, ap (λ (x : ControllerAt). x.saves) same)

    pub posted_all : IsPosted scene results (post ∷ P)
    posted_all = ap (λ (x : ControllerAt). sealed_letters controller_message scene.sealing x.owed) posted_own

    module _ (possible : IsPossible scene results (post ∷ P)) (room : lost ≡ 0) where
      pub letters_are : letters ≡ sealed_letters controller_message scene.sealing (at scene results m P).owed
      letters_are = (fits scene results post P possible m (self_controller m)).0

      pub pool_grows : pool (post ∷ P) ≡ pool P ++ numbered_letters first (actor.Controller m) (sealed_letters controller_message scene.sealing (at scene results m P).owed)
      pool_grows = ap (λ (l : List (Packet B)). pool P ++ l) (all_fit first (actor.Controller m) letters lost room ∙ ap (numbered_letters first (actor.Controller m)) letters_are)

      -- what was owed can be read
      pub says_posted : IsSetup scene.setup → IsFaithful scene.sealing → pool P ≡ [] → map (content scene.sealing) (pool (post ∷ P)) ≡ map (λ (l : Letter ControllerSays). unsealed.Message (controller_message l.body)) (at scene results m P).owed
      says_posted setup faithful empty =
          let old = possible_before scene results post P possible in
          let holds = (always scene results setup faithful P old 0).controllers m (possible.named.0) in
          ap (map (content scene.sealing))
          (pool_grows ∙ ap (λ (ps : List (Packet B)). ps ++ numbered_letters first (actor.Controller m) (sealed_letters controller_message scene.sealing (at scene results m P).owed)) empty)
          ∙ letters_read scene.sealing faithful controller_message (actor.Controller m) first (at scene results m P).owed (λ l among. ordered_may scene.kinds scene.setup _ m l (holds.owed l among))
          (fits scene results post P possible m (self_controller m)).2

  -- an entry of a switch fits what it owes
  pub switch_fits : (m : ℕ) (e : JournalEntry B) (P : List (JournalEntry B)) → actor_of e ≡ actor.Switch m → IsPossible scene results (e ∷ P) → m < length scene.setup.ports →
      FitsDebt switch_message scene.sealing (switch_at scene m (part (actor.Switch m) P)).owed (part (actor.Switch m) P) e
  switch_fits m e P whose possible there =
      elim (switch_after scene m e P) [
        | Mine own is ↦ (subst (λ (ps : List (JournalEntry B × Option (Packet B))). IsSoundSwitch scene m ps) is (possible.switches m there)).0
        | Another other is ↦ absurd (let no : true ≡ false = sym (self_switch m) ∙ ap (λ (a : Actor). same_actor a (actor.Switch m)) (sym whose) ∙ other in cc)
      ]

  -- one that owes nothing posts nothing
  nothing_posted : (a : Actor) (first : ℕ) (letters : List (Letter B)) (lost : ℕ) (P : List (JournalEntry B)) → IsPossible scene results (Post a first letters lost ∷ P) → owed_of scene results a P ≡ [] → ⊥
  nothing_posted (actor.Controller m) first letters lost P possible none =
      let f = fits scene results (Post (actor.Controller m) first letters lost) P possible m (self_controller m) in f.1 (f.0 ∙ none)
  nothing_posted (actor.Switch m) first letters lost P possible none =
      let f = switch_fits m (Post (actor.Switch m) first letters lost) P refl possible possible.named.0 in f.1 (f.0 ∙ none)

  pub never_posts : (P : List (JournalEntry B)) → IsPosted scene results P → (a : Actor) (first : ℕ) (letters : List (Letter B)) (lost : ℕ) → IsInputOf a P → IsPossible scene results (Post a first letters lost ∷ P) → ⊥
  never_posts [] posted a first letters lost input possible = input
  never_posts (e ∷ P) posted a first letters lost input possible =
      let whose = one_actor (actor_of e) a input.1 in
      nothing_posted a first letters lost (e ∷ P) possible (ap (λ (b : Actor). owed_of scene results b (e ∷ P)) (sym whose) ∙ posted)

  -- what comes behind a turn: its post, or nothing is owed
  pub data Next (P rest : List (JournalEntry B)) : Type 0 where
    Done : IsPosted scene results P → Next P rest
    Posting : (a : Actor) (first : ℕ) (letters : List (Letter B)) (lost : ℕ) (more : List (JournalEntry B)) → rest ≡ Post a first letters lost ∷ more → IsInputOf a P → Next P rest

  pub next_of : (phase : Phase) (P rest : List (JournalEntry B)) (last : Phase) → ClosesTo scene results phase P rest last → IsPosted scene results (later P rest) → Next P rest
  next_of phase P [] last closes posted = Done posted
  next_of phase P (Post a first letters lost ∷ rest) last closes posted = Posting a first letters lost rest refl closes.0
  next_of phase P (Draw a id keep ∷ rest) last closes posted = Done closes.0
  next_of phase P (Lose a id ∷ rest) last closes posted = Done closes.0
  next_of phase P (Local a input ∷ rest) last closes posted = Done closes.0
  next_of phase P (Idle a ∷ rest) last closes posted = Done closes.0
  next_of phase P (Refused a ∷ rest) last closes posted = Done closes.0

-- Turns that make the primary's log longer, one behind another; and what a proposal tells each other member.
use Rattle.std.proofs.Common.{◌≡◌, ◌≤◌, ◌<◌, ◌⊎◌, inl, inr, ℕ, ◌+◌, ◌/◌, zero, suc, Bool, true, false, List, [], ◌∷◌, ◌++◌, length, map, refl, sym, ◌∙◌, ap, subst, arith, append-nil, append_assoc, length-append}
use Rattle.std.specs.Prelude.{nat_eq, if◌then◌else◌}
use Rattle.std.proofs.lemmas.Bool.{cases_eq, cases_lt, eqb-true, eq-eqb, ne_eqb}
use Rattle.journal.specs.declared.journal.Actor.TheVariants as actor
use Rattle.journal.specs.declared.journal.Letter.{Letter}
use Rattle.vr_log.specs.declared.entry.Entry.{Entry}
use Rattle.vr_log.specs.declared.message.VrMessage.{VrMessage}
use Rattle.vr_log.specs.declared.state.VrState.{VrState}
use Rattle.vr_log.specs.Members.{most_failures, others_below}
use Rattle.vr_log.specs.Steps.{letter, to_others}
use Rattle.group_controller.specs.declared.messages.ControllerSays.{ControllerSays}
use Rattle.group_controller.specs.State.{ControllerState, to_members}
use Rattle.run_spec.specs.declared.messages.Message.{Message}
use Rattle.run_spec.specs.declared.messages.Message.TheVariants as message
use Rattle.run_spec.specs.States.{controller_message}
use Rattle.closing_laws.specs.Following.{ArePrepares}
use Rattle.closing_laws.specs.Serving.{Extends}
use Rattle.closing_laws.specs.Ways.{told_to}
use Rattle.closing_laws.proofs.Draining.Followers.{prepares_rise, prepares_joined}
use Rattle.closing_laws.proofs.Primary.Settled.{AreToSwitches}
use Rattle.closing_laws.proofs.Primary.Telling.{cons_choice, told_to-append}

-- what a member is told
abbrev pub tells_member : ℕ → List (Letter ControllerSays) → List Message
tells_member b letters = told_to controller_message (actor.Controller b) letters

member_more : (said : VrMessage) (b j : ℕ) (xs : List ℕ) →
    tells_member b (to_members (map (letter said) (xs ++ j ∷ []))) ≡ tells_member b (to_members (map (letter said) xs)) ++ (if nat_eq j b then message.Vr said ∷ [] else [])
member_more said b j [] = refl
member_more said b j (x ∷ xs) =
    ap (λ (z : List Message). if nat_eq x b then message.Vr said ∷ z else z) (member_more said b j xs)
    ∙ cons_choice (nat_eq x b) (message.Vr said) (tells_member b (to_members (map (letter said) xs))) (if nat_eq j b then message.Vr said ∷ [] else [])

by_me : (said : VrMessage) (me b : ℕ) → (b ≡ me → ⊥) → (j : ℕ) → (j ≤ b → tells_member b (to_members (map (letter said) (others_below me j))) ≡ []) →
    (b < j → tells_member b (to_members (map (letter said) (others_below me j))) ≡ message.Vr said ∷ []) → (c : Bool) → nat_eq j me ≡ c →
    (suc j ≤ b → tells_member b (to_members (map (letter said) (if c then others_below me j else others_below me j ++ j ∷ []))) ≡ [])
    × (b < suc j → tells_member b (to_members (map (letter said) (if c then others_below me j else others_below me j ++ j ∷ []))) ≡ message.Vr said ∷ [])
by_me said me b other j none once true is =
    let same : j ≡ me = eqb-true j me is in
    (λ h. none (omega (arith, h)), λ h. elim (cases_lt b j) [ inl less ↦ once less | inr past ↦ absurd (other (omega (arith, h, past, same))) ])
by_me said me b other j none once false is = (
  λ h. member_more said b j (others_below me j) ∙ ap (λ (z : List Message). z ++ (if nat_eq j b then message.Vr said ∷ [] else [])) (none (omega (arith, h)))
      ∙ ap (λ (c : Bool). if c then message.Vr said ∷ [] else []) (ne_eqb j b (λ e. absurd (omega (arith, e, h)))),
  λ h. elim (cases_lt b j) [
    | inl less ↦ member_more said b j (others_below me j) ∙ ap (λ (z : List Message). z ++ (if nat_eq j b then message.Vr said ∷ [] else [])) (once less)
        ∙ ap (λ (c : Bool). message.Vr said ∷ (if c then message.Vr said ∷ [] else [])) (ne_eqb j b (λ e. absurd (omega (arith, e, less))))
    | inr past ↦ member_more said b j (others_below me j) ∙ ap (λ (z : List Message). z ++ (if nat_eq j b then message.Vr said ∷ [] else [])) (none past)
        ∙ ap (λ (c : Bool). if c then message.Vr said ∷ [] else []) (eq-eqb j b (omega (arith, h, past)))
  ],
)

-- a letter to each other member comes to each of them once
pub others_told : (said : VrMessage) (me b : ℕ) → (b ≡ me → ⊥) → (n : ℕ) →
    (n ≤ b → tells_member b (to_members (map (letter said) (others_below me n))) ≡ []) × (b < n → tells_member b (to_members (map (letter said) (others_below me n))) ≡ message.Vr said ∷ [])
others_told said me b other zero = (λ h. refl, λ h. absurd (omega (arith, h)))
others_told said me b other (suc j) =
    by_me said me b other j (λ h. (others_told said me b other j).0 h) (λ h. (others_told said me b other j).1 h) (nat_eq j me) refl

own_told : (said : VrMessage) (me : ℕ) (n : ℕ) → tells_member me (to_members (map (letter said) (others_below me n))) ≡ []
own_told said me zero = refl
own_told said me (suc j) = by_self (own_told said me j) (nat_eq j me) refl
  where
    by_self : tells_member me (to_members (map (letter said) (others_below me j))) ≡ [] → (c : Bool) → nat_eq j me ≡ c →
        tells_member me (to_members (map (letter said) (if c then others_below me j else others_below me j ++ j ∷ []))) ≡ []
    by_self rest true is = rest
    by_self rest false is = member_more said me j (others_below me j) ∙ ap (λ (z : List Message). z ++ (if nat_eq j me then message.Vr said ∷ [] else [])) rest ∙ ap (λ (c : Bool). if c then message.Vr said ∷ [] else []) is

-- letters tell nothing to the member itself, and to none that the group does not have
abbrev pub AreToOthers : VrState → List (Letter ControllerSays) → Type 0
AreToOthers v letters = (b : ℕ) → (b ≡ v.me) ⊎ (v.controllers ≤ b) → tells_member b letters ≡ []

pub to_others_only : (v : VrState) (said : VrMessage) → AreToOthers v (to_members (to_others v said))
to_others_only v said b (inl same) = subst (λ (k : ℕ). tells_member k (to_members (to_others v said)) ≡ []) (sym same) (own_told said v.me v.controllers)
to_others_only v said b (inr past) = elim (cases_eq b v.me) [
  | inl same ↦ subst (λ (k : ℕ). tells_member k (to_members (to_others v said)) ≡ []) (sym same) (own_told said v.me v.controllers)
  | inr other ↦ (others_told said v.me b other v.controllers).0 past
]

pub to_others_append : (v : VrState) (xs ys : List (Letter ControllerSays)) → AreToOthers v xs → AreToOthers v ys → AreToOthers v (xs ++ ys)
to_others_append v xs ys a d b h =
    told_to-append controller_message (actor.Controller b) xs ys ∙ ap (λ (z : List Message). z ++ tells_member b ys) (a b h) ∙ d b h

-- letters to switches alone leave the log as it is
pub extends_none : (old new : ControllerState) (letters : List (Letter ControllerSays)) → new.vr ≡ old.vr → AreToSwitches letters → Extends old [] new letters
extends_none old new letters same to_switches =
    record {
      state_is =
          same ∙ ap (λ (l : List Entry). record old.vr { log = l }) (sym (append-nil old.vr.log))
          ∙ ap (λ (k : ℕ). record old.vr { log = old.vr.log ++ []; commit = k }) (sym commit);
      alone = λ h. omega (arith, commit);
      several = λ h. commit;
      members = λ b less other. subst (λ (ms : List Message). ArePrepares old.vr.view new.vr.commit (length old.vr.log) [] ms) (sym (to_switches b)) tt;
    }
  where
    commit : new.vr.commit ≡ old.vr.commit
    commit = ap (λ (v : VrState). v.commit) same

module _ (a b c : ControllerState) (xs ys : List Entry) (ls ms : List (Letter ControllerSays)) (e : Extends a xs b ls) (f : Extends b ys c ms) where
  failures : most_failures b.vr ≡ most_failures a.vr
  failures = ap (λ (v : VrState). v.controllers / 2) e.state_is

  no_less : b.vr.commit ≤ c.vr.commit
  no_less = elim (cases_lt 0 (most_failures b.vr)) [
    | inl more ↦ (let same = f.several more in omega (arith, same))
    | inr none ↦ (let same = f.alone (omega (arith, none)) in omega (arith, same))
  ]

  log_is : b.vr.log ≡ a.vr.log ++ xs
  log_is = ap (λ (v : VrState). v.log) e.state_is

  pub extends_then : Extends a (xs ++ ys) c (ls ++ ms)
  extends_then = record {
    state_is =
        f.state_is ∙ ap (λ (v : VrState). record v { log = v.log ++ ys; commit = c.vr.commit }) e.state_is
        ∙ ap (λ (l : List Entry). record a.vr { log = l; commit = c.vr.commit }) (append_assoc a.vr.log xs ys);
    alone = λ h. let first = e.alone h in let second = f.alone (failures ∙ h) in let long = length-append xs ys in omega (arith, first, second, long);
    several = λ h. f.several (subst (λ (n : ℕ). 0 < n) (sym failures) h) ∙ e.several h;
    members = λ j less other.
        subst (λ (z : List Message). ArePrepares a.vr.view c.vr.commit (length a.vr.log) (xs ++ ys) z) (sym (told_to-append controller_message (actor.Controller j) ls ms))
        (prepares_joined a.vr.view c.vr.commit (length a.vr.log) xs ys (tells_member j ls) (tells_member j ms)
        (prepares_rise a.vr.view b.vr.commit c.vr.commit (length a.vr.log) xs (tells_member j ls) no_less (e.members j less other)) (behind j less other));
  }
    where
      behind : (j : ℕ) → j < a.vr.controllers → (j ≡ a.vr.me → ⊥) → ArePrepares a.vr.view c.vr.commit (length a.vr.log + length xs) ys (tells_member j ms)
      behind j less other =
          let place : length b.vr.log ≡ length a.vr.log + length xs = ap length log_is ∙ length-append a.vr.log xs in
          subst (λ (n : ℕ). ArePrepares a.vr.view c.vr.commit n ys (tells_member j ms)) place
          (subst (λ (v : ℕ). ArePrepares v c.vr.commit (length b.vr.log) ys (tells_member j ms)) (ap (λ (v : VrState). v.view) e.state_is)
          (f.members j (subst (λ (n : ℕ). j < n) (sym (ap (λ (v : VrState). v.controllers) e.state_is)) less) (λ x. other (x ∙ ap (λ (v : VrState). v.me) e.state_is))))

-- Letters to members, and letters to switches, which the moves do not see.
use Rattle.std.proofs.Common.{◌≡◌, ℕ, List, [], ◌∷◌, ◌++◌, refl, ap, ◌∙◌, append-nil}
use Rattle.std.specs.Prelude.{flat_map}
use Rattle.std.proofs.lemmas.Grind.{flat_map-append}
use Rattle.std.proofs.lemmas.List.Concat.{flat_map_single}
use Rattle.std.proofs.lemmas.List.Folds.{flat_map-map}
use Rattle.journal.specs.declared.journal.Actor.{Actor}
use Rattle.journal.specs.declared.journal.Actor.TheVariants.{Controller, Switch}
use Rattle.journal.specs.declared.journal.Letter.{Letter}
use Rattle.journal.proofs.All.{all_append}
use Rattle.agreement.specs.History as core
use Rattle.agreement.specs.History.{abstract_letter}
use Rattle.vr_log.specs.declared.entry.Entry.{Entry}
use Rattle.vr_log.specs.declared.message.VrLetter.{VrLetter}
use Rattle.controller_moves.specs.MemberMoves.Projection.{message_of, letters_of}
use Rattle.group_controller.specs.declared.messages.ControllerSays.{ControllerSays}
use Rattle.group_controller.specs.State.{Work, to_member, to_members}
use Rattle.controller_moves.specs.Projection.{projected_letters_to, letters_to_members}
use Rattle.controller_moves.specs.Works.{IsToSwitch, AreToSwitches, TellsSwitches}

pub letters_append : (c : ℕ) (xs ys : List (Letter ControllerSays)) → letters_to_members c (xs ++ ys) ≡ letters_to_members c xs ++ letters_to_members c ys
letters_append c xs ys = flat_map-append (λ (l : Letter ControllerSays). projected_letters_to c l.to l.body) xs ys

-- the letters of a member, as the moves see them
pub letters_members : (c : ℕ) (ls : List VrLetter) → letters_to_members c (to_members ls) ≡ letters_of c ls
letters_members c ls =
    flat_map-map (λ (l : Letter ControllerSays). projected_letters_to c l.to l.body) to_member ls ∙ flat_map_single (λ (x : VrLetter). abstract_letter c x.to (message_of x.message)) ls

none_to_switch : (c : ℕ) (to : Actor) (said : ControllerSays) → IsToSwitch to → projected_letters_to c to said ≡ []
none_to_switch c (Controller j) said p = absurd p
none_to_switch c (Switch s) said p = refl

none_to_switches : (c : ℕ) (ls : List (Letter ControllerSays)) → AreToSwitches ls → letters_to_members c ls ≡ []
none_to_switches c [] p = refl
none_to_switches c (x ∷ ls) p = ap (λ (q : List (core.Letter Entry)). q ++ letters_to_members c ls) (none_to_switch c x.to x.body p.0) ∙ none_to_switches c ls p.1

-- what switches are told, the moves do not see
pub same_letters : (c : ℕ) (w w' : Work) → TellsSwitches w w' → letters_to_members c w'.letters ≡ letters_to_members c w.letters
same_letters c w w' t =
    ap (λ (ls : List (Letter ControllerSays)). letters_to_members c ls) t.letters
    ∙ letters_append c w.letters t.more
    ∙ ap (λ (q : List (core.Letter Entry)). letters_to_members c w.letters ++ q) (none_to_switches c t.more t.to_switches)
    ∙ append-nil (letters_to_members c w.letters)

-- lists of letters to switches
pub to_switches_flat : {X : Type 0} (f : X → List (Letter ControllerSays)) → ((x : X) → AreToSwitches (f x)) → (xs : List X) → AreToSwitches (flat_map f xs)
to_switches_flat f all [] = tt
to_switches_flat f all (x ∷ xs) = all_append (λ (l : Letter ControllerSays). IsToSwitch l.to) (f x) (flat_map f xs) (all x) (to_switches_flat f all xs)

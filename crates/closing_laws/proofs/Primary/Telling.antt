-- What letters of the primary tell one switch: answers, which are quiet, and commands with their numbers.
use Rattle.std.proofs.Common.{◌≡◌, ◌<◌, ℕ, ◌+◌, Bool, true, false, ◌&&◌, List, [], ◌∷◌, ◌++◌, map, filter, refl, sym, ◌∙◌, ap, inl, inr, arith}
use Rattle.std.specs.Prelude.{nat_eq, count_by, if◌then◌else◌}
use Rattle.std.specs.List.{AllByRecursion}
use Rattle.std.proofs.lemmas.Bool.{true≢false, eqb-true}
use Rattle.std.proofs.lemmas.List.Sums.{sum_by-append, sum_by-cons}
use Rattle.list_facts.specs.Lists.{IsIn}
use Rattle.of_types.specs.declared.message.Extension.TheVariants as extension
use Rattle.of_types.specs.declared.message.Spoken.TheVariants as spoken
use Rattle.of_types.specs.declared.setup.Setup.{Setup}
use Rattle.journal.specs.declared.journal.Actor.{Actor}
use Rattle.journal.specs.declared.journal.Actor.TheVariants as actor
use Rattle.journal.specs.declared.journal.Letter.{Letter}
use Rattle.journal.specs.Actors.{same_actor}
use Rattle.journal.proofs.All.{all_append}
use Rattle.vr_log.specs.declared.entry.Entry.{Entry}
use Rattle.vr_log.specs.declared.message.VrLetter.{VrLetter}
use Rattle.app_core.specs.declared.issued.Issued.{Issued}
use Rattle.dispatcher.specs.declared.answers.AckThrough.{AckThrough}
use Rattle.dispatcher.specs.Folding.{numbered}
use Rattle.dispatcher.specs.Ledger.{most_commands}
use Rattle.dispatcher.specs.Marks.{settled_commands}
use Rattle.group_controller.specs.declared.messages.ControllerSays.{ControllerSays}
use Rattle.group_controller.specs.State.{to_members}
use Rattle.group_controller.specs.Settling.{ack_letter, clear_letter, command_letter}
use Rattle.run_spec.specs.declared.messages.Message.{Message}
use Rattle.run_spec.specs.declared.messages.Message.TheVariants as message
use Rattle.run_spec.specs.States.{controller_message}
use Rattle.closing_laws.specs.Ways.{told_to}
use Rattle.closing_laws.specs.Serving.{IsSaidBy, Acknowledges, Commands, Clears, acknowledges_events, commands_said, is_request}

-- an element before others or not
pub cons_choice : {A : Type 0} (b : Bool) (x : A) (xs ys : List A) → (if b then x ∷ (xs ++ ys) else xs ++ ys) ≡ (if b then x ∷ xs else xs) ++ ys
cons_choice true x xs ys = refl
cons_choice false x xs ys = refl

pub commands_said-append : (life : ℕ) (xs ys : List Message) → commands_said life (xs ++ ys) ≡ commands_said life xs ++ commands_said life ys
commands_said-append life [] ys = refl
commands_said-append life (message.Of xid (spoken.Ravana (extension.Command l generation number settled what)) ∷ xs) ys =
    ap (λ (z : List ℕ). if nat_eq l life then number ∷ z else z) (commands_said-append life xs ys) ∙ cons_choice (nat_eq l life) number (commands_said life xs) (commands_said life ys)
commands_said-append life (_ ∷ xs) ys = commands_said-append life xs ys

pub told_to-append : {A : Type 0} (says : A → Message) (to : Actor) (xs ys : List (Letter A)) → told_to says to (xs ++ ys) ≡ told_to says to xs ++ told_to says to ys
told_to-append says to [] ys = refl
told_to-append says to (l ∷ xs) ys =
    ap (λ (z : List Message). if same_actor l.to to then says l.body ∷ z else z) (told_to-append says to xs ys) ∙ cons_choice (same_actor l.to to) (says l.body) (told_to says to xs) (told_to says to ys)

-- Messages that neither command nor ask for a role.
pub record AreQuiet (view : ℕ) (messages : List Message) : Type 0 where
  pub said : AllByRecursion (λ m. IsSaidBy view m) messages
  pub no_commands : (life : ℕ) → commands_said life messages ≡ []
  pub no_requests : count_by is_request messages ≡ 0

pub quiet_nil : (view : ℕ) → AreQuiet view []
quiet_nil view = record { said = tt; no_commands = λ life. refl; no_requests = refl }

pub quiet_append : (view : ℕ) (xs ys : List Message) → AreQuiet view xs → AreQuiet view ys → AreQuiet view (xs ++ ys)
quiet_append view xs ys a b = record {
  said = all_append (λ m. IsSaidBy view m) xs ys a.said b.said;
  no_commands = λ life. commands_said-append life xs ys ∙ ap (λ (z : List ℕ). z ++ commands_said life ys) (a.no_commands life) ∙ b.no_commands life;
  no_requests = let whole = sum_by-append (λ (m : Message). if is_request m then 1 else 0) xs ys in let left = a.no_requests in let right = b.no_requests in omega (arith, whole, left, right);
}

quiet_ack : (view life through : ℕ) (xs : List Message) → AreQuiet view xs → AreQuiet view (acknowledges_events life through ∷ xs)
quiet_ack view life through xs a = quiet_append view (acknowledges_events life through ∷ []) xs
    (record { said = (Acknowledges life through, tt); no_commands = λ l. refl; no_requests = refl }) a

quiet_clear : (view life through : ℕ) (xs : List Message) → AreQuiet view xs → AreQuiet view (message.Of 0 (spoken.Ravana (extension.Clear life through)) ∷ xs)
quiet_clear view life through xs a = quiet_append view (message.Of 0 (spoken.Ravana (extension.Clear life through)) ∷ []) xs
    (record { said = (Clears life through, tt); no_commands = λ l. refl; no_requests = refl }) a

quiet_choice : (view : ℕ) (b : Bool) (m : Message) (xs : List Message) → AreQuiet view xs → AreQuiet view (m ∷ xs) → AreQuiet view (if b then m ∷ xs else xs)
quiet_choice view true m xs a c = c
quiet_choice view false m xs a c = a

-- what an actor is told of these
abbrev pub told : ℕ → List (Letter ControllerSays) → List Message
told t letters = told_to controller_message (actor.Switch t) letters

pub told-append : (t : ℕ) (xs ys : List (Letter ControllerSays)) → told t (xs ++ ys) ≡ told t xs ++ told t ys
told-append t xs ys = told_to-append controller_message (actor.Switch t) xs ys

pub quiet_acks : (view t : ℕ) (xs : List AckThrough) → AreQuiet view (told t (map ack_letter xs))
quiet_acks view t [] = quiet_nil view
quiet_acks view t (x ∷ xs) =
    quiet_choice view (nat_eq x.switch t) (acknowledges_events x.life x.through) (told t (map ack_letter xs)) (quiet_acks view t xs) (quiet_ack view x.life x.through (told t (map ack_letter xs)) (quiet_acks view t xs))

pub quiet_clears : (view t : ℕ) (xs : List AckThrough) → AreQuiet view (told t (map clear_letter xs))
quiet_clears view t [] = quiet_nil view
quiet_clears view t (x ∷ xs) =
    quiet_choice view (nat_eq x.switch t) (message.Of 0 (spoken.Ravana (extension.Clear x.life x.through))) (told t (map clear_letter xs)) (quiet_clears view t xs)
    (quiet_clear view x.life x.through (told t (map clear_letter xs)) (quiet_clears view t xs))

-- letters to members tell no switch, and letters to switches no member
pub members_told : (t : ℕ) (ls : List VrLetter) → told t (to_members ls) ≡ []
members_told t [] = refl
members_told t (l ∷ ls) = members_told t ls

-- the commands for a life of a switch among these, by their numbers
abbrev pub numbers_in : ℕ → ℕ → List Issued → List ℕ
numbers_in s life [] = []
numbers_in s life (x ∷ xs) = if nat_eq x.switch s && nat_eq x.life life then x.number ∷ numbers_in s life xs else numbers_in s life xs

-- a test keeps none or all of these for a life of a switch
pub numbers_none : (s life : ℕ) (p : Issued → Bool) (xs : List Issued) → ((x : Issued) → IsIn x xs → x.switch ≡ s → x.life ≡ life → p x ≡ false) → numbers_in s life (filter p xs) ≡ []
numbers_none s life p [] none = refl
numbers_none s life p (x ∷ xs) none = by_test (numbers_none s life p xs (λ y h. none y (inr h))) (p x) refl (nat_eq x.switch s) refl (nat_eq x.life life) refl
  where
    by_test : numbers_in s life (filter p xs) ≡ [] → (b : Bool) → p x ≡ b → (c : Bool) → nat_eq x.switch s ≡ c → (d : Bool) → nat_eq x.life life ≡ d →
        numbers_in s life (if b then x ∷ filter p xs else filter p xs) ≡ []
    by_test rest false is c switch_is d life_is = rest
    by_test rest true is false switch_is d life_is = rw switch_is rest
    by_test rest true is true switch_is false life_is = rw (switch_is, life_is) rest
    by_test rest true is true switch_is true life_is = absurd (true≢false (sym is ∙ none x (inl refl) (eqb-true x.switch s switch_is) (eqb-true x.life life life_is)))

pub numbers_all : (s life : ℕ) (p : Issued → Bool) (xs : List Issued) → ((x : Issued) → IsIn x xs → x.switch ≡ s → x.life ≡ life → p x ≡ true) →
    numbers_in s life (filter p xs) ≡ numbers_in s life xs
numbers_all s life p [] all = refl
numbers_all s life p (x ∷ xs) all = by_test (numbers_all s life p xs (λ y h. all y (inr h))) (p x) refl (nat_eq x.switch s) refl (nat_eq x.life life) refl
  where
    by_test : numbers_in s life (filter p xs) ≡ numbers_in s life xs → (b : Bool) → p x ≡ b → (c : Bool) → nat_eq x.switch s ≡ c → (d : Bool) → nat_eq x.life life ≡ d →
        numbers_in s life (if b then x ∷ filter p xs else filter p xs) ≡ (if c && d then x.number ∷ numbers_in s life xs else numbers_in s life xs)
    by_test rest true is c switch_is d life_is = rw (switch_is, life_is) (ap (λ (z : List ℕ). if c && d then x.number ∷ z else z) rest)
    by_test rest false is false switch_is d life_is = rest
    by_test rest false is true switch_is false life_is = rest
    by_test rest false is true switch_is true life_is = absurd (true≢false (sym (all x (inl refl) (eqb-true x.switch s switch_is) (eqb-true x.life life life_is)) ∙ is))

module _ (kinds : List ℕ) (setup : Setup) (log : List Entry) (view : ℕ) where
  abbrev pub letters_of : List Issued → List (Letter ControllerSays)
  letters_of xs = map (λ x. command_letter view (numbered kinds setup log x)) xs

  pub commands_told : (t life : ℕ) (xs : List Issued) → commands_said life (told t (letters_of xs)) ≡ numbers_in t life xs
  commands_told t life [] = refl
  commands_told t life (x ∷ xs) = by_switch (commands_told t life xs) (nat_eq x.switch t)
    where
      by_switch : commands_said life (told t (letters_of xs)) ≡ numbers_in t life xs → (b : Bool) → commands_said life (if b then controller_message (command_letter view (numbered kinds setup log x)).body ∷ told t (letters_of xs) else told t (letters_of xs)) ≡
          (if b && nat_eq x.life life then x.number ∷ numbers_in t life xs else numbers_in t life xs)
      by_switch rest true = ap (λ (z : List ℕ). if nat_eq x.life life then x.number ∷ z else z) rest
      by_switch rest false = rest

  pub commands_are_said : (t : ℕ) (xs : List Issued) → ((x : Issued) → IsIn x xs → x.number < settled_commands kinds setup log x.switch x.life + most_commands) →
      AllByRecursion (λ m. IsSaidBy view m) (told t (letters_of xs))
  commands_are_said t [] few = tt
  commands_are_said t (x ∷ xs) few = by_switch (commands_are_said t xs (λ y h. few y (inr h))) (nat_eq x.switch t)
    where
      by_switch : AllByRecursion (λ m. IsSaidBy view m) (told t (letters_of xs)) → (b : Bool) → AllByRecursion (λ m. IsSaidBy view m) (if b then controller_message (command_letter view (numbered kinds setup log x)).body ∷ told t (letters_of xs) else told t (letters_of xs))
      by_switch rest true = (Commands x.life x.number (settled_commands kinds setup log x.switch x.life) x.order (few x (inl refl)), rest)
      by_switch rest false = rest

  pub no_requests_told : (t : ℕ) (xs : List Issued) → count_by is_request (told t (letters_of xs)) ≡ 0
  no_requests_told t [] = refl
  no_requests_told t (x ∷ xs) = by_switch (no_requests_told t xs) (nat_eq x.switch t)
    where
      by_switch : count_by is_request (told t (letters_of xs)) ≡ 0 → (b : Bool) → count_by is_request (if b then controller_message (command_letter view (numbered kinds setup log x)).body ∷ told t (letters_of xs) else told t (letters_of xs)) ≡ 0
      by_switch rest true =
          let whole = sum_by-cons (λ (m : Message). if is_request m then 1 else 0) (controller_message (command_letter view (numbered kinds setup log x)).body) (told t (letters_of xs)) in omega (arith, whole, rest)
      by_switch rest false = rest

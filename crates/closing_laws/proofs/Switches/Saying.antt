-- Laws of what messages say: which events, results and replies are among them, and what letters of switches tell an actor.
use Rattle.std.proofs.Common.{◌≡◌, ℕ, ◌+◌, Bool, false, List, [], ◌∷◌, ◌++◌, map, refl, sym, ap, subst, arith, inl, inr}
use Rattle.std.specs.Prelude.{count_by, if◌then◌else◌}
use Rattle.std.specs.List.{AllByRecursion}
use Rattle.std.proofs.lemmas.Bool.{eq-eqb}
use Rattle.std.proofs.lemmas.List.Sums.{sum_by-append, sum_by-cons}
use Rattle.of_types.specs.declared.message.Event.{Event}
use Rattle.of_types.specs.declared.message.Extension.TheVariants as extension
use Rattle.of_types.specs.declared.message.Spoken.TheVariants as spoken
use Rattle.journal.specs.declared.journal.Actor.{Actor}
use Rattle.journal.specs.declared.journal.Actor.TheVariants as actor
use Rattle.journal.specs.declared.journal.Letter.{Letter}
use Rattle.journal.specs.Actors.{same_actor}
use Rattle.list_facts.specs.Lists.{IsIn}
use Rattle.list_facts.proofs.Elements.{in_map}
use Rattle.of_switch.specs.declared.says.SwitchSays.{SwitchSays}
use Rattle.of_switch.specs.Events.{event_letter}
use Rattle.run_spec.specs.declared.messages.Message.{Message}
use Rattle.run_spec.specs.declared.messages.Message.TheVariants as message
use Rattle.run_spec.specs.States.{switch_message}
use Rattle.closing_laws.specs.Serving.{IsSaidIn, Tells, events_said, is_reply, results_said}
use Rattle.closing_laws.specs.Ways.{told_to}

-- ---- lists one behind the other

pub count_append : {A : Type 0} (p : A → Bool) (xs ys : List A) → count_by p (xs ++ ys) ≡ count_by p xs + count_by p ys
count_append p xs ys = sum_by-append (λ x. if p x then 1 else 0) xs ys

pub count_cons : {A : Type 0} (p : A → Bool) (x : A) (xs : List A) → count_by p (x ∷ xs) ≡ (if p x then 1 else 0) + count_by p xs
count_cons p x xs = sum_by-cons (λ y. if p y then 1 else 0) x xs

pub count_none : {A : Type 0} (p : A → Bool) (xs : List A) → ((x : A) → IsIn x xs → p x ≡ false) → count_by p xs ≡ 0
count_none p [] each = refl
count_none p (x ∷ xs) each =
    let first = ap {B = ℕ} (λ (b : Bool). if b then 1 else 0) (each x (inl refl)) in
    let parts = count_cons p x xs in
    let rest = count_none p xs (λ y among. each y (inr among)) in
    omega (arith, first, parts, rest)

pub events_append : (s : ℕ) (xs ys : List Message) → events_said s (xs ++ ys) ≡ events_said s xs ++ events_said s ys
events_append s [] ys = refl
events_append s (message.Of xid (spoken.Ravana (extension.Event life number what)) ∷ xs) ys =
    ap (λ (l : List Event). record { switch = s; life = life; number = number; what = what } ∷ l) (events_append s xs ys)
events_append s (_ ∷ xs) ys = events_append s xs ys

pub results_append : (xs ys : List Message) → results_said (xs ++ ys) ≡ results_said xs ++ results_said ys
results_append [] ys = refl
results_append (message.Of xid (spoken.Ravana (extension.CmdAck life number result)) ∷ xs) ys = ap (λ (l : List ℕ). number ∷ l) (results_append xs ys)
results_append (_ ∷ xs) ys = results_append xs ys

-- ---- letters of switches

-- an event, as a message
abbrev pub event_message : Event → Message
event_message e = message.Of 0 (spoken.Ravana (extension.Event e.life e.number e.what))

-- letters of events tell the one that they go to these events
pub told_events : (c : ℕ) (events : List Event) → told_to switch_message (actor.Controller c) (map (event_letter c) events) ≡ map event_message events
told_events c [] = refl
told_events c (e ∷ events) = rw (eq-eqb c c refl) (ap (λ (ms : List Message). event_message e ∷ ms) (told_events c events))

-- letters to others tell it nothing
pub told_none : {A : Type 0} (says : A → Message) (to : Actor) (letters : List (Letter A)) → ((l : Letter A) → IsIn l letters → same_actor l.to to ≡ false) → told_to says to letters ≡ []
told_none says to [] others = refl
told_none says to (l ∷ letters) others = rw (others l (inl refl)) (told_none says to letters (λ m h. others m (inr h)))

-- what messages of events say
pub events_of_messages : (s : ℕ) (events : List Event) → AllByRecursion (λ e. e.switch ≡ s) events → events_said s (map event_message events) ≡ events
events_of_messages s [] all = refl
events_of_messages s (e ∷ events) all = rw (sym all.0) (ap (λ (l : List Event). e ∷ l) (events_of_messages s events all.1))

pub results_of_events : (events : List Event) → results_said (map event_message events) ≡ []
results_of_events [] = refl
results_of_events (e ∷ events) = results_of_events events

pub replies_of_events : (events : List Event) → count_by is_reply (map event_message events) ≡ 0
replies_of_events [] = refl
replies_of_events (e ∷ events) = omega (arith, count_cons is_reply (event_message e) (map event_message events), replies_of_events events)

pub heard_of_events : (view life : ℕ) (events : List Event) → AllByRecursion (λ e. e.life ≡ life) events → AllByRecursion (λ m. IsSaidIn view life m) (map event_message events)
heard_of_events view life [] all = tt
heard_of_events view life (e ∷ events) all = (subst (λ (n : ℕ). IsSaidIn view n (event_message e)) all.0 (Tells 0 e.number e.what), heard_of_events view life events all.1)

-- and they go to that one
pub events_to : (c : ℕ) (events : List Event) (l : Letter SwitchSays) → IsIn l (map (event_letter c) events) → l.to ≡ actor.Controller c
events_to c events l among = let from = in_map (event_letter c) events l among in ap (λ (x : Letter SwitchSays). x.to) from.2

-- What several members are told, as letters.
use Rattle.std.proofs.Common.{◌≡◌, ◌∙◌, ◌<◌, ℕ, zero, suc, ◌+◌, arith, true, false, nat_eq, List, [], ◌∷◌, ◌++◌, length, map, slice_get, IfSome, refl, ap, sym, append_assoc}
use Rattle.std.proofs.lemmas.Bool.{false≢true}
use Rattle.std.proofs.lemmas.List.{map-append}
use Rattle.std.specs.Prelude.{IsSome, OnOk, Option, Some, None, Result, Ok, Err}
use Rattle.journal.specs.declared.journal.Actor.{Actor}
use Rattle.journal.specs.declared.journal.Actor.TheVariants as actor
use Rattle.journal.specs.declared.journal.Letter.{Letter}
use Rattle.vr_log.specs.Letters.{mail_letters}
use Rattle.vr_log.specs.Members.{others_below}
use Rattle.vr_log.specs.declared.letters.Mail.{Mail}
use Rattle.vr_log.specs.declared.letters.Receivers.TheVariants as receivers
use Rattle.vr_log.specs.declared.message.VrMessage.{VrMessage}
use Rattle.group_controller.specs.State.{to_members}
use Rattle.run_spec.specs.Legal.{AreTyped}
use Rattle.run_spec.specs.Messages.{FitsMessage}
use Rattle.run_spec.specs.States.{Sealing, controller_message, sealed_letters}
use Rattle.run_spec.specs.declared.messages.Message.TheVariants as messages
use Rattle.players.specs.Mails.{copies}

-- each letter of a mail fits, as its message does
pub all_told : (m : VrMessage) (members : List ℕ) → FitsMessage (messages.Vr m) →
    AreTyped controller_message (to_members (map (λ to. record { to = to; message = m }) members))
all_told m [] fits = tt
all_told m (to ∷ members) fits = (fits, all_told m members fits)

-- the first letter behind others, if there is one, has the body that all have
pub first_is : {B : Type 0} (b : B) (before : List (Letter B)) (members : List ℕ) → IfSome (slice_get (before ++ copies b members) (length before)) (λ letter. letter.body ≡ b)
first_is b [] [] = tt
first_is b [] (to ∷ members) = refl
first_is b (l ∷ before) members = first_is b before members

-- the letters of a mail to members, sealed, are copies of one
sealed_copies : {B : Type 0} (sealing : Sealing B) (m : VrMessage) (members : List ℕ) →
    copies (sealing.sealed (messages.Vr m)) members ≡ sealed_letters controller_message sealing (to_members (map (λ to. record { to = to; message = m }) members))
sealed_copies sealing m [] = refl
sealed_copies sealing m (to ∷ members) = ap (λ l. record { to = actor.Controller to; body = sealing.sealed (messages.Vr m) } ∷ l) (sealed_copies sealing m members)

pub copies_sealed : {B : Type 0} (sealing : Sealing B) (mail : Mail) (me controllers : ℕ) → mail.to ≡ receivers.Others me controllers →
    copies (sealing.sealed (messages.Vr mail.message)) (others_below me controllers) ≡ sealed_letters controller_message sealing (to_members (mail_letters mail))
copies_sealed sealing mail me controllers is = rw is (sealed_copies sealing mail.message (others_below me controllers))

one_suc : {B : Type 0} (b : B) (before : List (Letter B)) (me to : ℕ) → nat_eq to me ≡ false →
    before ++ copies b (others_below me (suc to)) ≡ (before ++ copies b (others_below me to)) ++ record { to = actor.Controller to; body = b } ∷ []
one_suc b before me to e =
    rw e (ap (λ l. before ++ l) (map-append (λ n. record { to = actor.Controller n; body = b }) (others_below me to) (to ∷ []))
    ∙ sym (append_assoc before (copies b (others_below me to)) (record { to = actor.Controller to; body = b } ∷ [])))

none_suc : {B : Type 0} (b : B) (before : List (Letter B)) (me to : ℕ) → nat_eq to me ≡ true →
    before ++ copies b (others_below me (suc to)) ≡ before ++ copies b (others_below me to)
none_suc b before me to e = rw e refl

plus_one : (n : ℕ) → n + 1 ≡ suc n
plus_one n = omega arith

-- one receiver more
pub one_more : {B : Type 0} (b : B) (before : List (Letter B)) (me to : ℕ) → nat_eq to me ≡ false →
    before ++ copies b (others_below me (to + 1)) ≡ (before ++ copies b (others_below me to)) ++ record { to = actor.Controller to; body = b } ∷ []
one_more b before me to e = ap (λ (n : ℕ). before ++ copies b (others_below me n)) (plus_one to) ∙ one_suc b before me to e

-- or the one that is passed over
pub none_more : {B : Type 0} (b : B) (before : List (Letter B)) (me to : ℕ) → nat_eq to me ≡ true →
    before ++ copies b (others_below me (to + 1)) ≡ before ++ copies b (others_below me to)
none_more b before me to e = ap (λ (n : ℕ). before ++ copies b (others_below me n)) (plus_one to) ∙ none_suc b before me to e

-- a letter that is there, with its body to another receiver
some_within : {A : Type 0} (xs : List A) (i : ℕ) → i < length xs → IsSome (slice_get xs i)
some_within [] i within = absurd (omega (arith, within))
some_within (x ∷ xs) zero within = refl
some_within (x ∷ xs) (suc i) within = some_within xs i (omega (arith, within))

has_body : {B : Type 0} (found : Option (Letter B)) (old new : List (Letter B)) (to : Actor) (b : B) → IsSome found → IfSome found (λ letter. letter.body ≡ b) →
    IfSome found (λ letter. new ≡ old ++ record { to = to; body = letter.body } ∷ []) → new ≡ old ++ record { to = to; body = b } ∷ []
has_body None old new to b some is added = absurd (false≢true some)
has_body (Some letter) old new to b some is added = added ∙ ap (λ y. old ++ record { to = to; body = y } ∷ []) is

pub repeated : {B E : Type 0} (result : Result (Unit {0}) E) (old new : List (Letter B)) (first : ℕ) (to : Actor) (b : B) → first < length old →
    IfSome (slice_get old first) (λ letter. letter.body ≡ b) → OnOk result (IfSome (slice_get old first) (λ letter. new ≡ old ++ record { to = to; body = letter.body } ∷ [])) →
    OnOk result (new ≡ old ++ record { to = to; body = b } ∷ [])
repeated (Err e) old new first to b within is added = tt
repeated (Ok x) old new first to b within is added = has_body (slice_get old first) old new to b (some_within old first within) is added

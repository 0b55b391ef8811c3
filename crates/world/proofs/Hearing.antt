-- The letter at a place, among all letters.
use Rattle.std.proofs.Common.{◌≡◌, ◌<◌, ℕ, List, length, slice_get, IfSome, subst}
use Rattle.std.specs.Prelude.{IfOk, IsSome, Option, Some, None, Result}
use Rattle.std.proofs.lemmas.Bool.{false≢true}
use Rattle.std.proofs.lemmas.Option.{slice_get_within}
use Rattle.journal.specs.declared.journal.Letter.{Letter}
use Rattle.journal.specs.declared.journal.Packet.{Packet}
use Rattle.journal.specs.Mailbags.{HasBody}

-- it is one of them
pub is_among : {B : Type 0} (found : Option (Packet B)) (letters : List (Letter B)) (index : ℕ) → IsSome found →
    IfSome found (λ packet. HasBody letters index packet.body) → index < length letters
is_among None letters index some has = absurd (false≢true some)
is_among (Some packet) letters index some has = slice_get_within letters index has.0 has.1

-- what it is for its receiver, the packet is
pub packet_heard : {B I E : Type 0} (found : Option (Packet B)) (letters : List (Letter B)) (index : ℕ) (result : Result I E) (hears : B → I) →
    IfSome found (λ packet. HasBody letters index packet.body) → IfSome (slice_get letters index) (λ letter. IfOk result (λ input. input ≡ hears letter.body)) →
    IfSome found (λ packet. IfOk result (λ input. input ≡ hears packet.body))
packet_heard None letters index result hears has is = tt
packet_heard (Some packet) letters index result hears has is =
    subst (λ b. IfOk result (λ input. input ≡ hears b)) has.2 (subst (λ o. IfSome o (λ letter. IfOk result (λ input. input ≡ hears letter.body))) has.1 is)

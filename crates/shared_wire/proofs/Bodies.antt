-- What stands at a place that was seen.
use Rattle.std.proofs.Common.{◌≡◌, ◌<◌, ℕ, Option, Some, None, List, [], ◌∷◌, ◌++◌, length, refl, sym, ap, ◌∙◌, subst, Result, Ok, Err, OnOk}
use Rattle.std.specs.Prelude.{slice_get, IsSome, IfSome}
use Rattle.std.proofs.lemmas.Option.{slice_get_within}
use Rattle.journal.specs.declared.journal.JournalEntry.{JournalEntry}
use Rattle.journal.specs.declared.journal.Letter.{Letter}
use Rattle.journal.specs.declared.journal.Packet.{Packet}
use Rattle.journal.specs.declared.place.PacketPlace.{PacketPlace}
use Rattle.journal.specs.Mailbags.{HasBody}
use Rattle.journal.specs.Places.{packet_at}
use Rattle.journal.proofs.Placing.{stands_later}
use Rattle.shared_wire.specs.Rule.{StartsWith}

module _ {B : Type 0} where
  stays_in : (packet : PacketPlace) (front more : List (JournalEntry B)) (p : Option (Packet B)) → packet_at packet front ≡ p → IsSome p → packet_at packet (front ++ more) ≡ p
  stays_in packet front more None is some = cc
  stays_in packet front more (Some p) is some = stands_later front more packet p is

  -- it stands there when the journal grows
  pub stays : (packet : PacketPlace) (front journal : List (JournalEntry B)) → StartsWith journal front → IsSome (packet_at packet front) → packet_at packet journal ≡ packet_at packet front
  stays packet front journal begins some =
      ap (packet_at packet) begins.1 ∙ stays_in packet front begins.0 (packet_at packet front) refl some

  pub still_seen : (packet : PacketPlace) (front journal : List (JournalEntry B)) → StartsWith journal front → IsSome (packet_at packet front) → IsSome (packet_at packet journal)
  still_seen packet front journal begins some = subst IsSome (sym (stays packet front journal begins some)) some

  -- the letter at a place is among those that are lent
  pub lent_within : (found : Option (Packet B)) (letters : List (Letter B)) (index : ℕ) → IsSome found → IfSome found (λ p. HasBody letters index p.body) → index < length letters
  lent_within None letters index some lent = cc
  lent_within (Some p) letters index some lent = slice_get_within letters index lent.0 lent.1

  -- a copy of it has the body of the packet that stood there
  pub copied_is : {E : Type 0} (now then : Option (Packet B)) (letters before after : List (Letter B)) (index : ℕ) (r : Result (Unit {0}) E) → now ≡ then → IfSome now (λ p. HasBody letters index p.body) →
      OnOk r (IfSome (slice_get letters index) (λ letter. after ≡ before ++ letter ∷ [])) → OnOk r (IfSome then (λ p. (letter : Letter B) × (after ≡ before ++ letter ∷ []) × (letter.body ≡ p.body)))
  copied_is now then letters before after index (Err e) same lent copied = tt
  copied_is now then letters before after index (Ok x) same lent copied = subst (λ o. IfSome o (λ p. (letter : Letter B) × (after ≡ before ++ letter ∷ []) × (letter.body ≡ p.body))) same (came now lent)
    where
      came : (o : Option (Packet B)) → IfSome o (λ p. HasBody letters index p.body) → IfSome o (λ p. (letter : Letter B) × (after ≡ before ++ letter ∷ []) × (letter.body ≡ p.body))
      came None h = tt
      came (Some p) h = (h.0, subst (λ o. IfSome o (λ (letter : Letter B). after ≡ before ++ letter ∷ [])) h.1 copied, h.2)

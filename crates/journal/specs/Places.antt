-- Where the letters of packets stand in a journal, and queues of such places.
use Rattle.std.specs.Prelude.{◌≡◌, ℕ, ◌+◌, ◌%◌, List, [], ◌∷◌, length, get_or, filter, flat_map, slice_get, option_map, Option, Some, None}
use Rattle.std.specs.List.{remove}
use Rattle.journal.specs.declared.journal.Actor.{Actor}
use Rattle.journal.specs.declared.journal.Actor.TheVariants.{Controller, Switch}
use Rattle.journal.specs.declared.journal.JournalEntry.{JournalEntry}
use Rattle.journal.specs.declared.journal.JournalEntry.TheVariants.{Post, Draw, Lose, Local, Idle, Refused}
use Rattle.journal.specs.declared.journal.Letter.{Letter}
use Rattle.journal.specs.declared.journal.Packet.{Packet}
use Rattle.journal.specs.declared.place.PacketPlace.{PacketPlace}
use Rattle.journal.specs.declared.queues.Queues.{Queues}
use Rattle.journal.specs.Actors.{same_actor}
use Rattle.journal.specs.Pool.{numbered_letters}

-- a letter as the packet of this number
abbrev pub packet_as : {B : Type 0} → ℕ → Actor → Letter B → Packet B
packet_as id from letter = record { id = id; from = from; to = letter.to; body = letter.body }

-- the packets that an entry posts, the lost ones too: letter k of a post is numbered first + k, from the post's actor
abbrev pub packets_in : {B : Type 0} → JournalEntry B → List (Packet B)
packets_in (Post actor first letters lost) = numbered_letters first actor letters
packets_in (Draw actor id keep) = []
packets_in (Lose actor id) = []
packets_in (Local actor input) = []
packets_in (Idle actor) = []
packets_in (Refused actor) = []

-- all packets that a journal posts, its oldest entry first
abbrev pub packets_posted : {B : Type 0} → List (JournalEntry B) → List (Packet B)
packets_posted journal = flat_map packets_in journal

-- the packet of a place: the one of its number among all that the journal posts
abbrev pub packet_at : {B : Type 0} → PacketPlace → List (JournalEntry B) → Option (Packet B)
packet_at place journal = slice_get (packets_posted journal) place.id

-- the packet stands at the place, which tells its number, its sender and its receiver
pub record IsPlaceOf {B : Type 0} (journal : List (JournalEntry B)) (place : PacketPlace) (p : Packet B) : Type 0 where
  pub stands : packet_at place journal ≡ Some p
  pub id_is : place.id ≡ p.id
  pub from_is : place.from ≡ p.from
  pub to_is : place.to ≡ p.to

-- the place of a packet, or nothing exactly where there is none
abbrev pub IsFound : {B : Type 0} → List (JournalEntry B) → Option PacketPlace → Option (Packet B) → Type 0
IsFound journal None None = Unit {0}
IsFound journal None (Some p) = ⊥
IsFound journal (Some place) None = ⊥
IsFound journal (Some place) (Some p) = IsPlaceOf journal place p

-- the places of packets, one of each in their order
abbrev pub ArePlacesOf : {B : Type 0} → List (JournalEntry B) → List PacketPlace → List (Packet B) → Type 0
ArePlacesOf journal [] [] = Unit {0}
ArePlacesOf journal [] (p ∷ packets) = ⊥
ArePlacesOf journal (place ∷ places) [] = ⊥
ArePlacesOf journal (place ∷ places) (p ∷ packets) = IsPlaceOf journal place p × ArePlacesOf journal places packets

-- the places of letters, numbered from there on
abbrev pub placed : {B : Type 0} → ℕ → Actor → List (Letter B) → List PacketPlace
placed first from [] = []
placed first from (letter ∷ letters) = record { id = first; from = from; to = letter.to } ∷ placed (first + 1) from letters

-- those of them for an actor
abbrev pub sent_to : Actor → List PacketPlace → List PacketPlace
sent_to a places = filter (λ place. same_actor place.to a) places

abbrev pub letters_to : {B : Type 0} → Actor → List (Letter B) → List (Letter B)
letters_to a letters = filter (λ letter. same_actor letter.to a) letters

-- the queue of an actor
abbrev pub queue_of : Queues → Actor → List PacketPlace
queue_of queues (Controller n) = get_or queues.controllers n []
queue_of queues (Switch n) = get_or queues.switches n []

-- the place of a choice, counted round
abbrev pub picked : ℕ → List PacketPlace → Option PacketPlace
picked choice places = slice_get places (choice % length places)

-- a queue once its place of a choice has left
abbrev pub left_in : ℕ → List PacketPlace → List PacketPlace
left_in choice places = remove places (choice % length places)

-- the first place in the queue of a receiver
abbrev pub first_for : Queues → Option Actor → Option PacketPlace
first_for queues None = None
first_for queues (Some to) = slice_get (queue_of queues to) 0

-- the place of the lowest number in queues: the first in the queue of whom the order names first
abbrev pub first_of : Queues → Option PacketPlace
first_of queues = first_for queues (option_map (λ w. w.1) (slice_get queues.order 0))

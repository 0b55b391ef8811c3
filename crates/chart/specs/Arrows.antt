-- Which arrows the entries of a journal have. A past has its newest entry first, and its entries stand at the places from 0 on, the oldest first.
use Rattle.std.specs.Prelude.{◌≡◌, ℕ, Bool, true, false, ◌-◌, min, List, [], ◌∷◌, ◌++◌, length, slice_range, Option, Some, None, if◌then◌else◌}
use Rattle.std.specs.List.{AllByRecursion}
use Rattle.std.specs.Option.{option_map, option_or, option_to_list}
use Rattle.journal.specs.declared.journal.Actor.{Actor}
use Rattle.journal.specs.declared.journal.JournalEntry.{JournalEntry}
use Rattle.journal.specs.declared.journal.JournalEntry.TheVariants.{Post, Draw, Lose, Local, Idle, Refused}
use Rattle.journal.specs.declared.journal.Packet.{Packet}
use Rattle.journal.specs.Pool.{fitting}
use Rattle.journal.specs.Part.{packet_of}
use Rattle.chart.specs.declared.packets.Sent.{Sent}
use Rattle.chart.specs.declared.shapes.Arrow.{Arrow}
use Rattle.chart.specs.declared.shapes.End.{End}
use Rattle.chart.specs.declared.shapes.End.TheVariants.{Drawn, Kept, Lost}
use Rattle.chart.specs.declared.shapes.Window.{Window}
use Rattle.chart.specs.Carried.{carried_by}
use Rattle.report.specs.Records.{ByteEntry}

-- the packets that an entry posts and that find room
abbrev pub packets_posted : ByteEntry → List (Packet (List ℕ))
packets_posted (Post actor first letters lost) = fitting first actor letters lost
packets_posted (Draw actor id keep) = []
packets_posted (Lose actor id) = []
packets_posted (Local actor input) = []
packets_posted (Idle actor) = []
packets_posted (Refused actor) = []

-- a packet that is posted at a place
abbrev pub sent_at : ℕ → Packet (List ℕ) → Sent
sent_at place packet = record { place = place; sender = packet.from; body = packet.body }

-- the packet of a number, among those that are posted at a place
abbrev pub sent_among : ℕ → ℕ → List (Packet (List ℕ)) → Option Sent
sent_among id place packets = option_map (sent_at place) (packet_of id packets)

-- the newest packet of a number that is posted in a past
unfoldable pub sent : ℕ → List ByteEntry → Option Sent
sent id [] = None
sent id (e ∷ before) = option_or (sent_among id (length before) (packets_posted e)) (sent id before)

-- the arrow of a packet that an actor draws or loses at a place
abbrev pub arrow_of : ℕ → Actor → ℕ → End → Sent → Arrow
arrow_of ended receiver id end s =
    record {
      id = id;
      sender = s.sender;
      receiver = receiver;
      carried = carried_by s.sender receiver s.body;
      posted = s.place;
      ended = ended;
      end = end;
    }

-- how a draw leaves a packet
abbrev pub end_of_draw : Bool → End
end_of_draw keep = if keep then Kept else Drawn

-- the arrow that an entry ends: of the packet that it draws or loses, if that was posted in the past before it
abbrev pub arrow_to : ByteEntry → List ByteEntry → Option Arrow
arrow_to (Draw actor id keep) before = option_map (arrow_of (length before) actor id (end_of_draw keep)) (sent id before)
arrow_to (Lose actor id) before = option_map (arrow_of (length before) actor id Lost) (sent id before)
arrow_to (Post actor first letters lost) before = None
arrow_to (Local actor input) before = None
arrow_to (Idle actor) before = None
arrow_to (Refused actor) before = None

-- the arrows of a past, by the entries that end them
unfoldable pub arrows : List ByteEntry → List Arrow
arrows [] = []
arrows (e ∷ before) = arrows before ++ option_to_list (arrow_to e before)

-- A packet that is posted in a past, and no newer one of its number is: `between` stands behind its post, and `earlier` before that.
pub record IsNewest (id : ℕ) (past : List ByteEntry) (s : Sent) (between earlier : List ByteEntry) (post : ByteEntry) (packet : Packet (List ℕ)) : Type 0 where
  pub split : past ≡ between ++ (post ∷ earlier)
  pub of_post : packet_of id (packets_posted post) ≡ Some packet
  pub none_between : AllByRecursion (λ e. packet_of id (packets_posted e) ≡ None) between
  pub is : s ≡ sent_at (length earlier) packet

abbrev pub IsPostedAs : ℕ → List ByteEntry → Sent → Type 0
IsPostedAs id past s = (between earlier : List ByteEntry) × (post : ByteEntry) × (packet : Packet (List ℕ)) × IsNewest id past s between earlier post packet

-- the entry with which a packet ends so at an actor
abbrev pub ending_entry : Actor → ℕ → End → ByteEntry
ending_entry actor id Drawn = Draw actor id false
ending_entry actor id Kept = Draw actor id true
ending_entry actor id Lost = Lose actor id

-- An arrow of a past: one of its entries draws or loses a packet that was posted in the past `before` it. The arrow goes from who posted it, at
-- the place of the post, to who draws or loses it, at the place of that entry, and carries what its body says.
pub record IsArrowTo (past : List ByteEntry) (a : Arrow) (later before : List ByteEntry) (s : Sent) : Type 0 where
  pub split : past ≡ later ++ (ending_entry a.receiver a.id a.end ∷ before)
  pub is_posted : IsPostedAs a.id before s
  pub is : a ≡ arrow_of (length before) a.receiver a.id a.end s

abbrev pub IsArrow : List ByteEntry → Arrow → Type 0
IsArrow past a = (later before : List ByteEntry) × (s : Sent) × IsArrowTo past a later before s

-- how many entries of a journal a window leaves out before it, and those that it shows
abbrev pub end_of : Window → List ByteEntry → ℕ
end_of window journal = min (length journal) window.last

abbrev pub before_of : Window → List ByteEntry → ℕ
before_of window journal = min (end_of window journal) (window.first - 1)

abbrev pub shown : Window → List ByteEntry → List ByteEntry
shown window journal = slice_range journal (before_of window journal) (end_of window journal)

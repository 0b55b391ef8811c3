-- The messages of a stream of bytes, one after the other.
use Rattle.std.specs.Prelude.{◌≡◌, ℕ, zero, suc, List, [], ◌∷◌, ◌++◌, length, take, drop, slice_index, Option, Some, None, Result, Ok, Err, not, ◌==◌, nat_lt, if◌then◌else◌}
use denote.Ref.{Bor}
use Rattle.of_bytes.specs.Numbers.{number}
use Rattle.of_frame.specs.declared.fault.FrameFault.{FrameFault}
use Rattle.of_frame.specs.declared.fault.FrameFault.TheVariants.{BadVersion, BadLength}

-- the length of a message, in its header
abbrev pub frame_length : List ℕ → ℕ
frame_length bytes = number 2 2 bytes

-- How long the message at the front is: none where a header or a message is not all there.
unfoldable pub length_at : List ℕ → Result (Option ℕ) FrameFault
length_at bytes =
    if nat_lt (length bytes) 8 then Ok None
    else (if not (slice_index bytes 0 == 4) then Err BadVersion
    else (if nat_lt (frame_length bytes) 8 then Err BadLength
    else (if nat_lt (length bytes) (frame_length bytes) then Ok None else Ok (Some (frame_length bytes)))))

abbrev pub front_of_message : Result (Option ℕ) FrameFault → List ℕ → Result (Option (List ℕ)) FrameFault
front_of_message (Ok (Some len)) bytes = Ok (Some (take len bytes))
front_of_message (Ok None) bytes = Ok None
front_of_message (Err fault) bytes = Err fault

abbrev pub behind : Result (Option ℕ) FrameFault → List ℕ → List ℕ
behind (Ok (Some len)) bytes = drop len bytes
behind (Ok None) bytes = bytes
behind (Err fault) bytes = bytes

-- the message at the front of the bytes
abbrev pub next_of : List ℕ → Result (Option (List ℕ)) FrameFault
next_of bytes = front_of_message (length_at bytes) bytes

-- the bytes behind it, or all of them where there is none
abbrev pub rest_of : List ℕ → List ℕ
rest_of bytes = behind (length_at bytes) bytes

-- What a call answered is this.
abbrev pub IsAnswer : Result (Option (Bor (List ℕ))) FrameFault → Result (Option (List ℕ)) FrameFault → Type 0
IsAnswer (Ok None) next = next ≡ Ok None
IsAnswer (Ok (Some frame)) next = next ≡ Ok (Some frame.now)
IsAnswer (Err fault) next = next ≡ Err fault

-- ---- a whole stream

-- what is done with a framer: a piece is fed, or the next message is asked for
pub data Deed : Type 0 where
  Fed : List ℕ → Deed
  Asked : Deed

-- the bytes that were fed, whatever the pieces
abbrev pub joined_pieces : List Deed → List ℕ
joined_pieces [] = []
joined_pieces (Fed piece ∷ deeds) = piece ++ joined_pieces deeds
joined_pieces (Asked ∷ deeds) = joined_pieces deeds

-- what a framer that held these bytes holds after that
abbrev pub held_after : List Deed → List ℕ → List ℕ
held_after [] held = held
held_after (Fed piece ∷ deeds) held = held_after deeds (held ++ piece)
held_after (Asked ∷ deeds) held = held_after deeds (rest_of held)

-- a message before others, where there is one
abbrev pub with_next : Result (Option (List ℕ)) FrameFault → List (List ℕ) → List (List ℕ)
with_next (Ok (Some frame)) frames = frame ∷ frames
with_next (Ok None) frames = frames
with_next (Err fault) frames = frames

-- the messages that it lends
abbrev pub lent_by : List Deed → List ℕ → List (List ℕ)
lent_by [] held = []
lent_by (Fed piece ∷ deeds) held = lent_by deeds (held ++ piece)
lent_by (Asked ∷ deeds) held = with_next (next_of held) (lent_by deeds (rest_of held))

-- the first messages of a stream, so many of them
abbrev pub messages : ℕ → List ℕ → List (List ℕ)
messages zero bytes = []
messages (suc count) bytes = with_next (next_of bytes) (messages count (rest_of bytes))

-- what comes behind them
abbrev pub behind_messages : ℕ → List ℕ → List ℕ
behind_messages zero bytes = bytes
behind_messages (suc count) bytes = behind_messages count (rest_of bytes)

-- So many messages were lent. They are the first ones of the joined bytes, and what is held comes behind
-- them.
pub record IsOfJoined (deeds : List Deed) (held : List ℕ) (count : ℕ) : Type 0 where
  pub lent : length (lent_by deeds held) ≡ count
  pub frames : lent_by deeds held ≡ messages count (held ++ joined_pieces deeds)
  pub left : held_after deeds held ≡ behind_messages count (held ++ joined_pieces deeds)

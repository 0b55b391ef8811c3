-- What a master answers to switches, by its committed log: which events are processed, and which commands are settled.
use Rattle.std.specs.Prelude.{ℕ, Bool, not, nat_eq, nat_lt, ◌&&◌, List, [], ◌∷◌, length, map, filter, slice_get, Option, Some, None, if◌then◌else◌}
use Rattle.std.specs.List.{list_any, range_with_len}
use Rattle.of_types.specs.declared.message.Event.{Event}
use Rattle.of_types.specs.declared.setup.Setup.{Setup}
use Rattle.of_types.specs.Lives.{life_in, has_ended}
use Rattle.vr_log.specs.declared.entry.Entry.{Entry}
use Rattle.vr_log.specs.declared.entry.Entry.TheVariants.{Received, Processed}
use Rattle.vr_log.specs.Log.{received, may_be_received}
use Rattle.two_stage_log.specs.Counts.{processed_of}
use Rattle.app_core.specs.Issued.{commands_of}
use Rattle.app_core.specs.declared.issued.Issued.{Issued}
use Rattle.dispatcher.specs.declared.numbered.NumberedOrder.{NumberedOrder}
use Rattle.dispatcher.specs.declared.answers.AckThrough.{AckThrough}
use Rattle.dispatcher.specs.declared.answers.EventAction.{EventAction}
use Rattle.dispatcher.specs.declared.answers.EventAction.TheVariants.{Propose, Acknowledge, Nothing}
use Rattle.dispatcher.specs.Marks.{settled_commands}

-- a command as it is sent, with what is settled of its life
abbrev pub numbered : List ℕ → Setup → List Entry → Issued → NumberedOrder
numbered kinds setup log x =
    record { switch = x.switch; life = x.life; number = x.number; settled = settled_commands kinds setup log x.switch x.life; order = x.order }

-- how many events of a life of a switch are processed
abbrev pub acknowledgement : List Entry → ℕ → ℕ → AckThrough
acknowledgement log switch life = record { switch = switch; life = life; through = processed_of log switch life }

-- a processed event is acknowledged while its life goes on
abbrev pub acknowledges_event : List Entry → Option Event → List AckThrough
acknowledges_event log None = []
acknowledges_event log (Some event) =
    if has_ended event.switch event.life (received log) then [] else acknowledgement log event.switch event.life ∷ []

-- the present life of a switch has one of these commands
abbrev pub is_told : List Entry → List Issued → ℕ → Bool
is_told log commands switch =
    list_any (λ x. nat_eq x.switch switch && not (has_ended x.switch x.life (received log))) commands

-- each such switch is told what is settled of its life
abbrev pub clears : List ℕ → Setup → List Entry → List Issued → List AckThrough
clears kinds setup log commands =
    map (λ s. record { switch = s; life = life_in s (received log); through = settled_commands kinds setup log s (life_in s (received log)) })
    (filter (is_told log commands) (range_with_len 0 (length setup.ports)))

-- what is answered for the processed event at a place
abbrev pub acknowledges_at : List Entry → ℕ → List AckThrough
acknowledges_at log j = acknowledges_event log (slice_get (received log) j)

abbrev pub clears_at : List ℕ → Setup → List Entry → ℕ → List AckThrough
clears_at kinds setup log j = clears kinds setup log (commands_of kinds setup (received log) j)

-- the places of the events that these entries have as processed
abbrev pub places_processed : List Entry → List ℕ
places_processed [] = []
places_processed (Received event ∷ log) = places_processed log
places_processed (Processed j ∷ log) = j ∷ places_processed log

-- an event of the life that its switch has in a log is processed in what is committed of it
abbrev pub is_done : List Entry → List Entry → Event → Bool
is_done log committed event =
    nat_eq event.life (life_in event.switch (received log)) && nat_lt event.number (processed_of committed event.switch event.life)

-- what is done with an event, by the log and what is committed of it: one that may follow is proposed, and one
-- that was processed is acknowledged
abbrev pub wish : List Entry → List Entry → Event → EventAction
wish log committed event =
    if may_be_received event (received log) then Propose
    else if is_done log committed event then Acknowledge (processed_of committed event.switch event.life)
    else Nothing

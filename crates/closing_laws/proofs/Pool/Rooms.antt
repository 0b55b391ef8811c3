-- What is on its way while a closing is drained, counted by kinds, so that each letter finds room in the pool.
use Rattle.std.specs.Prelude.{◌≡◌, ◌≤◌, ◌<◌, ◌⊎◌, ℕ, Bool, true, false, List, [], ◌∷◌, ◌++◌, map, length, take, drop, max, count_by, None}
use Rattle.of_types.specs.declared.message.Event.{Event}
use Rattle.of_types.specs.declared.message.Extension.TheVariants as extension
use Rattle.of_types.specs.declared.message.OfMessage.TheVariants as plain
use Rattle.of_types.specs.declared.message.Spoken.TheVariants as spoken
use Rattle.of_types.specs.declared.setup.Setup.{Setup}
use Rattle.of_types.specs.Lives.{count_in}
use Rattle.journal.specs.declared.journal.Actor.TheVariants as actor
use Rattle.list_facts.specs.Lists.{IsIn}
use Rattle.vr_log.specs.declared.message.VrMessage.{VrMessage}
use Rattle.vr_log.specs.declared.message.VrMessage.TheVariants as vr
use Rattle.vr_log.specs.declared.state.VrState.{VrState}
use Rattle.vr_log.specs.Log.{received, processed}
use Rattle.vr_core.specs.declared.input.VrInput.TheVariants as vr_input
use Rattle.vr_core.specs.Step.{vr_step}
use Rattle.dispatcher.specs.Marks.{wanted}
use Rattle.of_switch.specs.State.{SwitchState, SwitchTurn, life_of}
use Rattle.of_switch.specs.Rules.{switch_turn}
use Rattle.group_controller.specs.State.{ControllerState, committed, to_members}
use Rattle.group_controller.specs.Rules.{controller_work}
use Rattle.run_spec.specs.declared.messages.Message.{Message}
use Rattle.run_spec.specs.declared.messages.Message.TheVariants as message
use Rattle.run_spec.specs.declared.messages.Unsealed.TheVariants as unsealed
use Rattle.run_spec.specs.States.{controller_message, switch_hears, switch_message}
use Rattle.run_spec.specs.Closing.{is_drawn}
use Rattle.closing_laws.specs.Quorum.{has}
use Rattle.closing_laws.specs.Ways.{Sent, sent_by, between}
use Rattle.closing_laws.specs.Following.{Start}
use Rattle.closing_laws.specs.Serving.{IsTrueOf, IsTruePrimary, acknowledges_events, processed_by}
use Rattle.closing_laws.proofs.Draining.Drained as drained_by
use Rattle.closing_laws.proofs.Draining.Drained.{heard_of, put}

-- a request for a role, or its reply
abbrev pub is_role : Message → Bool
is_role (message.Of xid (spoken.Plain (plain.RoleRequest role generation))) = true
is_role (message.Of xid (spoken.Plain (plain.RoleReply role generation))) = true
is_role _ = false

-- an event, or an acknowledgement of events
abbrev pub is_event : Message → Bool
is_event (message.Of xid (spoken.Ravana (extension.Event life number what))) = true
is_event (message.Of xid (spoken.Ravana (extension.EventAck life through))) = true
is_event _ = false

-- a command
abbrev pub is_command : Message → Bool
is_command (message.Of xid (spoken.Ravana (extension.Command life generation number settled what))) = true
is_command _ = false

-- the result of a command
abbrev pub is_result : Message → Bool
is_result (message.Of xid (spoken.Ravana (extension.CmdAck life number result))) = true
is_result _ = false

-- a word that results may go
abbrev pub is_clear : Message → Bool
is_clear (message.Of xid (spoken.Ravana (extension.Clear life through))) = true
is_clear _ = false

-- a frame on a link
abbrev pub is_frame : Message → Bool
is_frame (message.Frame port bytes) = true
is_frame _ = false

-- an entry of the log that a member is told, or that it acknowledges
abbrev pub is_prepare : Message → Bool
is_prepare (message.Vr (vr.Prepare view op commit entry)) = true
is_prepare (message.Vr (vr.PrepareOk view op)) = true
is_prepare _ = false

-- all else
abbrev pub is_else : Message → Bool
is_else (message.Of xid (spoken.Plain (plain.RoleRequest role generation))) = false
is_else (message.Of xid (spoken.Plain (plain.RoleReply role generation))) = false
is_else (message.Of xid (spoken.Ravana (extension.Event life number what))) = false
is_else (message.Of xid (spoken.Ravana (extension.EventAck life through))) = false
is_else (message.Of xid (spoken.Ravana (extension.Command life generation number settled what))) = false
is_else (message.Of xid (spoken.Ravana (extension.CmdAck life number result))) = false
is_else (message.Of xid (spoken.Ravana (extension.Clear life through))) = false
is_else (message.Frame port bytes) = false
is_else (message.Vr (vr.Prepare view op commit entry)) = false
is_else (message.Vr (vr.PrepareOk view op)) = false
is_else _ = true

-- how many messages of a kind are on their way
abbrev pub waits : (Message → Bool) → List Sent → ℕ
waits is waiting = count_by (λ m. is m.said) waiting

-- what is true of the primary and its switches, in each past in which it leads
pub record AreTrue (kinds : List ℕ) (setup : Setup) (c : ControllerState) (switches : ℕ → SwitchState) : Type 0 where
  pub primary : IsTruePrimary c
  pub each : (s : ℕ) → s < length setup.ports → IsTrueOf kinds setup c s (switches s)

-- a member of the quorum, or a switch
abbrev pub IsHeard : Setup → ℕ → List ℕ → Sent → Type 0
IsHeard setup p quorum m =
    ((b : ℕ) × (m.from ≡ actor.Controller b) × (has quorum b ≡ true) × (b ≡ p → ⊥)) ⊎ ((s : ℕ) × (m.from ≡ actor.Switch s) × (s < length setup.ports))

-- what a switch does with a message
abbrev pub turn_on : SwitchState → Sent → SwitchTurn
turn_on sw m = switch_turn sw (switch_hears m.from (unsealed.Message m.said))

-- a state of the primary, the members and the switches, with what is on its way
abbrev pub Standing : Type 1
Standing = ControllerState → (ℕ → VrState) → (ℕ → SwitchState) → List Sent → Type 0

-- nothing beside
abbrev pub NothingBeside : Standing
NothingBeside c members switches waiting = Unit {0}

module _ (kinds : List ℕ) (setup : Setup) (w p : ℕ) (quorum : List ℕ) (start : Start) where
  abbrev pub Drains : Standing
  Drains c members switches waiting = drained_by.Drains kinds setup w p quorum start c members switches waiting

  -- What is committed: what was known as the view started, or all of its first log.
  abbrev pub HasCommitted : ControllerState → Type 0
  HasCommitted c = (c.vr.commit ≡ start.known) ⊎ (length start.log ≤ c.vr.commit)

  -- An event stands as processed past what is committed only where it did so as the view started, or none of its commands wants a
  -- result any more; and the events that came since are of the present lives of their switches.
  pub record HasFinished (c : ControllerState) (switches : ℕ → SwitchState) : Type 0 where
    pub finished : processed (committed c) < processed c.vr.log → (processed (committed c) < processed start.log) ⊎ (wanted kinds setup (committed c) c.marks ≡ [])
    pub present : (e : Event) → IsIn e (received (drop (length start.log) c.vr.log)) → e.life ≡ life_of (switches e.switch)

  abbrev pub HasBegun : Standing
  HasBegun c members switches waiting = HasCommitted c × HasFinished c switches

  -- Acknowledgements on their way name processed events alone, so that what has left a buffer is committed, or of the first log.
  pub record HasCleared (c : ControllerState) (members : ℕ → VrState) (switches : ℕ → SwitchState) (waiting : List Sent) : Type 0 where
    pub acks : (s life through : ℕ) → s < length setup.ports → IsIn (acknowledges_events life through) (between (actor.Controller p) (actor.Switch s) waiting) → life ≡ life_of (switches s) →
        through ≤ processed_by c s (switches s)
    pub cleared : (s : ℕ) → s < length setup.ports → (switches s).buffer.cleared ≤ count_in s (life_of (switches s)) (received (take (max c.vr.commit (length start.log)) c.vr.log))

  -- each kind of turn keeps it, beside something that is so before and after
  pub record Keeps (Beside Room : Standing) : Type 0 where
    -- a message is lost
    pub lost : (c : ControllerState) (members : ℕ → VrState) (switches : ℕ → SwitchState) (m : Sent) (rest : List Sent) → Drains c members switches (m ∷ rest) → is_drawn quorum m.from m.to ≡ false →
        Beside c members switches (m ∷ rest) → Beside c members switches rest → Room c members switches (m ∷ rest) → Room c members switches rest
    -- a member of the quorum hears from the primary
    pub member : (c : ControllerState) (members : ℕ → VrState) (switches : ℕ → SwitchState) (m : Sent) (rest : List Sent) (b : ℕ) (x : VrMessage) → Drains c members switches (m ∷ rest) →
        m.from ≡ actor.Controller p → m.to ≡ actor.Controller b → has quorum b ≡ true → (b ≡ p → ⊥) → m.said ≡ message.Vr x →
        let step = vr_step (members b) (vr_input.From p x) in
        let after = rest ++ map (sent_by controller_message (actor.Controller b)) (to_members step.letters) in
        Drains c (put members b step.state) switches after →
        Beside c members switches (m ∷ rest) → Beside c (put members b step.state) switches after →
        Room c members switches (m ∷ rest) → Room c (put members b step.state) switches after
    -- the primary hears a member of the quorum, or a switch, and meets no limit of its log
    pub primary : (c : ControllerState) (members : ℕ → VrState) (switches : ℕ → SwitchState) (m : Sent) (rest : List Sent) → Drains c members switches (m ∷ rest) →
        m.to ≡ actor.Controller p → IsHeard setup p quorum m →
        let work = controller_work kinds setup c (heard_of m) in
        let after = rest ++ map (sent_by controller_message (actor.Controller p)) work.letters in
        AreTrue kinds setup c switches → AreTrue kinds setup work.state switches → work.state.full ≡ None → Drains work.state members switches after →
        Beside c members switches (m ∷ rest) → Beside work.state members switches after →
        Room c members switches (m ∷ rest) → Room work.state members switches after
    -- a switch hears from the primary
    pub switch : (c : ControllerState) (members : ℕ → VrState) (switches : ℕ → SwitchState) (m : Sent) (rest : List Sent) (s : ℕ) → s < length setup.ports → Drains c members switches (m ∷ rest) →
        m.from ≡ actor.Controller p → m.to ≡ actor.Switch s →
        let turn = turn_on (switches s) m in
        let after = rest ++ map (sent_by switch_message (actor.Switch s)) turn.letters in
        AreTrue kinds setup c switches → AreTrue kinds setup c (put switches s turn.state) → Drains c members (put switches s turn.state) after →
        Beside c members switches (m ∷ rest) → Beside c members (put switches s turn.state) after →
        Room c members switches (m ∷ rest) → Room c members (put switches s turn.state) after

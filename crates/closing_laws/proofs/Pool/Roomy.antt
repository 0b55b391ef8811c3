-- All that is on its way while a closing is drained finds room in the pool.
use Rattle.std.specs.Prelude.{◌≡◌, ◌≤◌, ◌<◌, ℕ, ◌%◌, true, List, ◌∷◌, length, map, Option}
use Rattle.std.proofs.Common.{arith}
use Rattle.of_types.specs.declared.message.Event.{Event}
use Rattle.of_types.specs.declared.setup.Setup.{Setup}
use Rattle.of_types.specs.Setups.{IsSetup}
use Rattle.journal.specs.declared.journal.Actor.TheVariants as actor
use Rattle.journal.specs.Limits.{pool_packets}
use Rattle.list_facts.specs.Lists.{IsIn}
use Rattle.vr_log.specs.declared.state.VrState.{VrState}
use Rattle.vr_log.specs.Log.{received}
use Rattle.of_switch.specs.State.{SwitchState, life_of}
use Rattle.group_controller.specs.State.{ControllerState, Work}
use Rattle.run_spec.specs.States.{controller_message}
use Rattle.closing_laws.specs.Quorum.{has}
use Rattle.closing_laws.specs.Ways.{Sent, sent_by}
use Rattle.closing_laws.specs.Following.{Start}
use Rattle.closing_laws.specs.Serving.{AreFew, IsOlder}
use Rattle.closing_laws.specs.Views.{IsCovered, IsReadyMember}
use Rattle.closing_laws.proofs.Draining.Leading.{start_of}
use Rattle.closing_laws.proofs.Draining.OpeningTurn as opens
use Rattle.closing_laws.proofs.Lists.Picked.{IsPicked}
use Rattle.closing_laws.proofs.Pool.ClearedEvents as cleared_by
use Rattle.closing_laws.proofs.Pool.ClearRooms.{ClearRoom, clears_bounded}
use Rattle.closing_laws.proofs.Pool.ClearRooms as clears_by
use Rattle.closing_laws.proofs.Pool.CommandRooms.{CommandRooms}
use Rattle.closing_laws.proofs.Pool.CommandRooms as commands_by
use Rattle.closing_laws.proofs.Pool.CommandsFew.{commands_few, results_few}
use Rattle.closing_laws.proofs.Pool.CommandsFew as opening_commands
use Rattle.closing_laws.proofs.Pool.EventRooms.{EventRoom, events_bounded}
use Rattle.closing_laws.proofs.Pool.EventRooms as events_by
use Rattle.closing_laws.proofs.Pool.FinishedEvents as finished_by
use Rattle.closing_laws.proofs.Pool.FrameRooms.{FrameRoom, frames_bounded}
use Rattle.closing_laws.proofs.Pool.FrameRooms as frames_by
use Rattle.closing_laws.proofs.Pool.PrepareRooms as prepares_by
use Rattle.closing_laws.proofs.Pool.PreparesFew as prepares_few
use Rattle.closing_laws.proofs.Pool.PreparesOpening as opening_by
use Rattle.closing_laws.proofs.Pool.RoleRooms.{ElseRoom, RoleRoom}
use Rattle.closing_laws.proofs.Pool.RoleRooms as roles_by
use Rattle.closing_laws.proofs.Pool.Rooms.{AreTrue, Drains, HasBegun, HasCleared, HasFinished, Keeps, NothingBeside, Standing}
use Rattle.closing_laws.proofs.Pool.StartingClears as clearing_by
use Rattle.closing_laws.proofs.Pool.Waiting.{all_kinds}
use Rattle.closing_laws.proofs.Start.Walking.{seven_at_most}
use Rattle.closing_laws.proofs.Truths.Wires.{IsWired}

-- each kind of message keeps within its room
pub record IsRoomy (kinds : List ℕ) (setup : Setup) (w p : ℕ) (quorum : List ℕ) (start : Start) (c : ControllerState) (members : ℕ → VrState) (switches : ℕ → SwitchState) (waiting : List Sent) : Type 0 where
  pub roles : RoleRoom setup c members switches waiting
  pub others : ElseRoom setup c members switches waiting
  pub events : EventRoom setup c members switches waiting
  pub cleared : HasCleared kinds setup w p quorum start c members switches waiting
  pub prepares : prepares_by.PrepareRoom kinds setup w p quorum start c members switches waiting
  pub finished : HasFinished kinds setup w p quorum start c switches
  pub commands : CommandRooms kinds setup start c members switches waiting
  pub clears : ClearRoom kinds setup p start c members switches waiting
  pub frames : FrameRoom setup c members switches waiting

module _ (kinds : List ℕ) (setup : Setup) (few : AreFew kinds setup) (w p : ℕ) (quorum : List ℕ) (start : Start) (picked : IsPicked setup.controllers w quorum) (inside : has quorum p ≡ true)
    (leader : p ≡ w % setup.controllers) (small : (b : ℕ) → has quorum b ≡ true → b < setup.controllers) (is_setup : IsSetup setup) where
  abbrev Roomy : Standing
  Roomy c members switches waiting = IsRoomy kinds setup w p quorum start c members switches waiting

  -- what the commands and the words that results may go lean on
  begun : (c : ControllerState) (members : ℕ → VrState) (switches : ℕ → SwitchState) (waiting : List Sent) → prepares_by.PrepareRoom kinds setup w p quorum start c members switches waiting → HasFinished kinds setup w p quorum start c switches →
      HasBegun kinds setup w p quorum start c members switches waiting
  begun c members switches waiting prepares finished = (prepares_by.room_committed kinds setup w p quorum start c members switches waiting prepares, finished)

  abbrev roles_keep : Keeps kinds setup w p quorum start NothingBeside (RoleRoom setup)
  roles_keep = roles_by.keeps_roles kinds setup few w p quorum start picked inside leader small

  abbrev others_keep : Keeps kinds setup w p quorum start NothingBeside (ElseRoom setup)
  others_keep = roles_by.keeps_else kinds setup few w p quorum start picked inside leader small

  abbrev events_keep : Keeps kinds setup w p quorum start NothingBeside (EventRoom setup)
  events_keep = events_by.keeps_events kinds setup few w p quorum start picked inside leader small

  abbrev cleared_keeps : Keeps kinds setup w p quorum start NothingBeside (λ c members switches waiting. HasCleared kinds setup w p quorum start c members switches waiting)
  cleared_keeps = cleared_by.keeps_cleared kinds setup few w p quorum start picked inside leader small

  abbrev prepares_keep : Keeps kinds setup w p quorum start NothingBeside (λ c members switches waiting. prepares_by.PrepareRoom kinds setup w p quorum start c members switches waiting)
  prepares_keep = prepares_by.room_kept kinds setup w p quorum start few picked inside leader small

  abbrev finished_keeps : Keeps kinds setup w p quorum start NothingBeside (λ c members switches waiting. HasFinished kinds setup w p quorum start c switches)
  finished_keeps = finished_by.finished_keeps kinds setup few w p quorum start picked inside leader small

  abbrev commands_keep : Keeps kinds setup w p quorum start (HasBegun kinds setup w p quorum start) (CommandRooms kinds setup start)
  commands_keep = commands_by.command_rooms_keep kinds setup few w p quorum start picked inside leader small

  abbrev clears_keep : Keeps kinds setup w p quorum start (HasBegun kinds setup w p quorum start) (ClearRoom kinds setup p start)
  clears_keep = clears_by.keeps_clears kinds setup few w p quorum start picked inside leader small

  abbrev frames_keep : Keeps kinds setup w p quorum start NothingBeside (FrameRoom setup)
  frames_keep = frames_by.keeps_frames kinds setup few w p quorum start picked inside leader small is_setup

  -- so all of them do, turn by turn
  pub roomy_kept : Keeps kinds setup w p quorum start NothingBeside Roomy
  roomy_kept = record {
    lost = λ c members switches m rest d lost _ _ r.
        let prepares = prepares_keep.lost c members switches m rest d lost tt tt r.prepares in
        let finished = finished_keeps.lost c members switches m rest d lost tt tt r.finished in
        let old = begun c members switches (m ∷ rest) r.prepares r.finished in
        let new = begun c members switches rest prepares finished in
        record {
          roles = roles_keep.lost c members switches m rest d lost tt tt r.roles;
          others = others_keep.lost c members switches m rest d lost tt tt r.others;
          events = events_keep.lost c members switches m rest d lost tt tt r.events;
          cleared = cleared_keeps.lost c members switches m rest d lost tt tt r.cleared;
          prepares = prepares;
          finished = finished;
          commands = commands_keep.lost c members switches m rest d lost old new r.commands;
          clears = clears_keep.lost c members switches m rest d lost old new r.clears;
          frames = frames_keep.lost c members switches m rest d lost tt tt r.frames;
        };
    member = λ c members switches m rest b x d from to chosen other says after _ _ r.
        let prepares = prepares_keep.member c members switches m rest b x d from to chosen other says after tt tt r.prepares in
        let finished = finished_keeps.member c members switches m rest b x d from to chosen other says after tt tt r.finished in
        let old = begun c members switches (m ∷ rest) r.prepares r.finished in
        let new = begun c _ switches _ prepares finished in
        record {
          roles = roles_keep.member c members switches m rest b x d from to chosen other says after tt tt r.roles;
          others = others_keep.member c members switches m rest b x d from to chosen other says after tt tt r.others;
          events = events_keep.member c members switches m rest b x d from to chosen other says after tt tt r.events;
          cleared = cleared_keeps.member c members switches m rest b x d from to chosen other says after tt tt r.cleared;
          prepares = prepares;
          finished = finished;
          commands = commands_keep.member c members switches m rest b x d from to chosen other says after old new r.commands;
          clears = clears_keep.member c members switches m rest b x d from to chosen other says after old new r.clears;
          frames = frames_keep.member c members switches m rest b x d from to chosen other says after tt tt r.frames;
        };
    primary = λ c members switches m rest d to heard true_before true_after room after _ _ r.
        let prepares = prepares_keep.primary c members switches m rest d to heard true_before true_after room after tt tt r.prepares in
        let finished = finished_keeps.primary c members switches m rest d to heard true_before true_after room after tt tt r.finished in
        let old = begun c members switches (m ∷ rest) r.prepares r.finished in
        let new = begun _ members switches _ prepares finished in
        record {
          roles = roles_keep.primary c members switches m rest d to heard true_before true_after room after tt tt r.roles;
          others = others_keep.primary c members switches m rest d to heard true_before true_after room after tt tt r.others;
          events = events_keep.primary c members switches m rest d to heard true_before true_after room after tt tt r.events;
          cleared = cleared_keeps.primary c members switches m rest d to heard true_before true_after room after tt tt r.cleared;
          prepares = prepares;
          finished = finished;
          commands = commands_keep.primary c members switches m rest d to heard true_before true_after room after old new r.commands;
          clears = clears_keep.primary c members switches m rest d to heard true_before true_after room after old new r.clears;
          frames = frames_keep.primary c members switches m rest d to heard true_before true_after room after tt tt r.frames;
        };
    switch = λ c members switches m rest s there d from to true_before true_after after _ _ r.
        let prepares = prepares_keep.switch c members switches m rest s there d from to true_before true_after after tt tt r.prepares in
        let finished = finished_keeps.switch c members switches m rest s there d from to true_before true_after after tt tt r.finished in
        let old = begun c members switches (m ∷ rest) r.prepares r.finished in
        let new = begun c members _ _ prepares finished in
        record {
          roles = roles_keep.switch c members switches m rest s there d from to true_before true_after after tt tt r.roles;
          others = others_keep.switch c members switches m rest s there d from to true_before true_after after tt tt r.others;
          events = events_keep.switch c members switches m rest s there d from to true_before true_after after tt tt r.events;
          cleared = cleared_keeps.switch c members switches m rest s there d from to true_before true_after after tt tt r.cleared;
          prepares = prepares;
          finished = finished;
          commands = commands_keep.switch c members switches m rest s there d from to true_before true_after after old new r.commands;
          clears = clears_keep.switch c members switches m rest s there d from to true_before true_after after old new r.clears;
          frames = frames_keep.switch c members switches m rest s there d from to true_before true_after after tt tt r.frames;
        };
  }

  -- and the pool has room for all that waits
  pub has_room : (c : ControllerState) (members : ℕ → VrState) (switches : ℕ → SwitchState) (waiting : List Sent) → Drains kinds setup w p quorum start c members switches waiting → AreTrue kinds setup c switches →
      ((e : Event) → IsIn e (received c.vr.log) → e.switch < length setup.ports) → Roomy c members switches waiting → length waiting ≤ pool_packets
  has_room c members switches waiting d truths named r =
      let life : ℕ → ℕ = λ s. life_of (switches s) in
      let all = all_kinds waiting in
      let ports = is_setup.few in
      let seven = seven_at_most setup.controllers is_setup.group in
      let roles = r.roles in
      let others = r.others in
      let events = events_bounded kinds setup c members switches waiting r.events truths in
      let results = results_few kinds setup few start life c waiting r.commands in
      let commands = commands_few kinds setup few start life c waiting r.commands in
      let clears = clears_bounded kinds setup p start c members switches waiting r.clears in
      let frames = frames_bounded setup c members switches waiting r.frames in
      let prepares = prepares_few.prepares_few kinds setup w p quorum start c members switches waiting d r.prepares picked inside small truths r.finished r.cleared ports named seven in
      omega (arith, all, ports, seven, roles, others, events, results, commands, clears, frames, prepares)

-- at the start of the view
module _ (kinds : List ℕ) (setup : Setup) (few : AreFew kinds setup) (w : ℕ) (quorum : List ℕ) (at : ℕ → VrState) (best : ℕ) (picked : IsPicked setup.controllers w quorum)
    (small : (b : ℕ) → has quorum b ≡ true → b < setup.controllers) (ready : (j : ℕ) → has quorum j ≡ true → IsReadyMember setup.controllers w j (at j)) (covered : IsCovered quorum at best) (chosen : has quorum best ≡ true)
    (voters : ℕ → List ℕ) (promise : Option ℕ) (sw : ℕ → SwitchState) (older : (t : ℕ) → t < length setup.ports → IsOlder (sw t).fence.generation w) where
  abbrev p : ℕ
  p = w % setup.controllers

  abbrev end : Work
  end = opens.end kinds setup few w quorum at best picked small ready covered chosen voters promise sw older

  pub roomy_starts : AreTrue kinds setup end.state sw → ((s : ℕ) → s < length setup.ports → IsWired setup (sw s)) → (members : ℕ → VrState) →
      IsRoomy kinds setup w p quorum (start_of p quorum at best) end.state members sw (map (sent_by controller_message (actor.Controller p)) end.letters)
  roomy_starts truths wired members = record {
    roles = roles_by.roles_start kinds setup few w quorum at best picked small ready covered chosen voters promise sw older members;
    others = roles_by.else_starts kinds setup few w quorum at best picked small ready covered chosen voters promise sw older members;
    events = events_by.events_start kinds setup few w quorum at best picked small ready covered chosen voters promise sw older members;
    cleared = cleared_by.cleared_starts kinds setup few w quorum at best picked small ready covered chosen voters promise sw older members truths.each;
    prepares = opening_by.opens_room kinds setup few w quorum at best picked small ready covered chosen voters promise sw older members;
    finished = finished_by.starts_finished kinds setup few w quorum at best picked small ready covered chosen voters promise sw older;
    commands = opening_commands.starts_with_room kinds setup few w quorum at best picked small ready covered chosen voters promise sw older;
    clears = clearing_by.clears_start kinds setup few w quorum at best picked small ready covered chosen voters promise sw older members;
    frames = frames_by.frames_start kinds setup few w quorum at best picked small ready covered chosen voters promise sw older members wired;
  }

-- Where the work of a turn comes from: at most one step of the member, behind which the primary proposes entries
-- (Viewstamped Replication Revisited, 4.1) and tells switches (Ravana, 4.2).
use Rattle.std.specs.Prelude.{◌≡◌, ℕ, ◌+◌, true, false, Some, List, ◌++◌, ⊤}
use Rattle.std.specs.List.{AllByRecursion}
use Rattle.of_types.specs.declared.setup.Setup.{Setup}
use Rattle.journal.specs.declared.journal.Actor.{Actor}
use Rattle.journal.specs.declared.journal.Actor.TheVariants.{Controller, Switch}
use Rattle.journal.specs.declared.journal.Letter.{Letter}
use Rattle.journal.specs.declared.journal.Local.TheVariants as local
use Rattle.vr_log.specs.declared.entry.Entry.{Entry}
use Rattle.vr_log.specs.declared.state.Status.TheVariants.{Down}
use Rattle.vr_log.specs.declared.state.VrState.{VrState}
use Rattle.vr_log.specs.Log.{is_past_limits}
use Rattle.vr_log.specs.Members.{leads}
use Rattle.vr_log.specs.Valid.{down_state}
use Rattle.vr_recovery.specs.Recovering.{restarted}
use Rattle.vr_core.specs.Step.{vr_step}
use Rattle.group_controller.specs.declared.messages.ControllerInput.{ControllerInput}
use Rattle.group_controller.specs.declared.messages.ControllerInput.TheVariants as controller_input
use Rattle.group_controller.specs.declared.messages.ControllerSays.{ControllerSays}
use Rattle.group_controller.specs.Settling.{with_proposal}
use Rattle.group_controller.specs.State.{ControllerState, Work, fresh, resting, stepped}
use Rattle.controller_moves.specs.ControllerLaws.Moves.{member_input, IsProposed}

-- a letter goes to a switch
abbrev pub IsToSwitch : Actor → Type 0
IsToSwitch (Controller j) = ⊥
IsToSwitch (Switch s) = ⊤

-- so does each of these
abbrev pub AreToSwitches : List (Letter ControllerSays) → Type 0
AreToSwitches letters = AllByRecursion (λ l. IsToSwitch l.to) letters

-- the member and what is to be saved stay, and only switches are told more
pub record TellsSwitches (w w' : Work) : Type 0 where
  pub vr : w'.state.vr ≡ w.state.vr
  pub save : w'.save ≡ w.save
  pub more : List (Letter ControllerSays)
  pub letters : w'.letters ≡ w.letters ++ more
  pub to_switches : AreToSwitches more

-- work goes on from first work: entries are proposed, and switches are told
pub data Continues (kinds : List ℕ) (setup : Setup) (x : ControllerInput) (first : Work) : Work → Type 0 where
  Begins : Continues kinds setup x first first
  Tells : {mid last : Work} → Continues kinds setup x first mid → TellsSwitches mid last → Continues kinds setup x first last
  Proposes : {mid : Work} (entry : Entry) → Continues kinds setup x first mid → leads mid.state.vr ≡ true → IsProposed kinds setup x mid.state entry
      → is_past_limits mid.state.vr.log entry ≡ false → Continues kinds setup x first (with_proposal mid entry)

-- The work of an input, at a controller with this member: the member rests or does its step, and the work goes on; or
-- it crashes, or one that is down begins its next life (Viewstamped Replication Revisited, 4.3).
pub data IsWorkOf (kinds : List ℕ) (setup : Setup) (s : VrState) (x : ControllerInput) : Work → Type 0 where
  Rests : {w : Work} (c : ControllerState) → c.vr ≡ s → Continues kinds setup x (resting c) w → IsWorkOf kinds setup s x w
  Steps : {w : Work} (c : ControllerState) → Continues kinds setup x (stepped c (vr_step s (member_input x))) w → IsWorkOf kinds setup s x w
  Crashes : x ≡ controller_input.Local local.Crash → IsWorkOf kinds setup s x (resting (fresh (down_state s.me s.controllers s.promise s.life)))
  Restarts : x ≡ controller_input.Local local.Restart → s.status ≡ Down
      → IsWorkOf kinds setup s x (record (stepped (fresh s) (restarted s.me s.controllers s.promise (s.life + 1))) { save = Some (s.promise, s.life + 1) })

-- Where an entry at a place may stand: in a state, in a message, or as a proposal of a turn.
use Rattle.std.specs.Prelude.{◌≡◌, ◌≤◌, ℕ, ◌+◌, List, length, slice_get, Some}
use Rattle.of_types.specs.declared.setup.Setup.{Setup}
use Rattle.vr_log.specs.declared.entry.Entry.{Entry}
use Rattle.vr_log.specs.declared.message.Filled.{Filled}
use Rattle.vr_log.specs.declared.message.VrMessage.{VrMessage}
use Rattle.vr_log.specs.declared.message.VrMessage.TheVariants as message
use Rattle.vr_log.specs.declared.state.Collected.{Collected}
use Rattle.vr_log.specs.declared.state.Response.{Response}
use Rattle.vr_log.specs.declared.state.Supplied.{Supplied}
use Rattle.vr_log.specs.declared.state.VrState.{VrState}
use Rattle.group_controller.specs.declared.messages.ControllerInput.{ControllerInput}
use Rattle.group_controller.specs.declared.messages.ControllerInput.TheVariants as controller_input
use Rattle.group_controller.specs.State.{ControllerState, Work, committed}
use Rattle.list_facts.specs.Lists.{IsIn, IsPrefix}
use Rattle.controller_moves.specs.ControllerLaws.Moves.{IsProposed}
use Rattle.controller_moves.specs.ControllerLaws.Turns.{IsReached}

-- an entry stands at a place of a state, beside a commit number: in the log, in a collected log, or in a response
pub data IsHeld (s : VrState) (commit n : ℕ) (e : Entry) : Type 0 where
  InLog : commit ≡ s.commit → slice_get s.log n ≡ Some e → IsHeld s commit n e
  InCollected : (c : Collected) (i : ℕ) → IsIn c s.collected → commit ≡ c.commit → n ≡ c.commit + i → slice_get c.log i ≡ Some e → IsHeld s commit n e
  InResponse : (r : Response) (told : Filled) → IsIn r s.responses → r.filled ≡ Some told → commit ≡ told.commit → slice_get told.log n ≡ Some e → IsHeld s commit n e

-- or in what was supplied, which is committed
pub data IsSupplied (s : VrState) (n : ℕ) (e : Entry) : Type 0 where
  InSupply : (p : Supplied) (i : ℕ) → s.supply ≡ Some p → n ≡ p.first + i → slice_get p.log i ≡ Some e → IsSupplied s n e

-- the same of a message, beside the commit number that it tells
pub data IsTold (m : VrMessage) (commit n : ℕ) (e : Entry) : Type 0 where
  InPrepare : (view op : ℕ) → m ≡ message.Prepare view op commit e → op ≡ n + 1 → IsTold m commit n e
  InLogOf : (view normal i : ℕ) (log : List Entry) → m ≡ message.DoViewChange view normal commit log → n ≡ commit + i → slice_get log i ≡ Some e → IsTold m commit n e
  InStart : (view first i : ℕ) (log : List Entry) → m ≡ message.StartView view first commit log → n ≡ first + i → slice_get log i ≡ Some e → IsTold m commit n e
  InAnswer : (view nonce : ℕ) (told : Filled) → m ≡ message.RecoveryResponse view nonce (Some told) → commit ≡ told.commit → slice_get told.log n ≡ Some e → IsTold m commit n e
  InState : (view first i : ℕ) (log : List Entry) → m ≡ message.NewState view first commit log → n ≡ first + i → slice_get log i ≡ Some e → IsTold m commit n e

-- or of a SUPPLY
pub data IsToldSupply (m : VrMessage) (n : ℕ) (e : Entry) : Type 0 where
  InSupplying : (view first i : ℕ) (log : List Entry) → m ≡ message.Supply view first log → n ≡ first + i → slice_get log i ≡ Some e → IsToldSupply m n e

-- where an entry at a place comes from, in a turn that ends so
pub data ComesFrom (kinds : List ℕ) (setup : Setup) (x : ControllerInput) (c last : ControllerState) (n : ℕ) (e : Entry) : Type 0 where
  FromState : (commit : ℕ) → IsHeld c.vr commit n e → ComesFrom kinds setup x c last n e
  FromSupply : IsSupplied c.vr n e → ComesFrom kinds setup x c last n e
  FromInput : (from commit : ℕ) (m : VrMessage) → x ≡ controller_input.Vr from m → IsTold m commit n e → ComesFrom kinds setup x c last n e
  FromSupplying : (from : ℕ) (m : VrMessage) → x ≡ controller_input.Vr from m → IsToldSupply m n e → ComesFrom kinds setup x c last n e
  FromProposal : (mid : Work) → IsReached kinds setup x c mid → IsPrefix (committed mid.state) (committed last) → IsProposed kinds setup x mid.state e → n ≡ length mid.state.vr.log → ComesFrom kinds setup x c last n e

-- where it stood, or was proposed, beside a commit number no greater than this one
pub data StoodBeside (kinds : List ℕ) (setup : Setup) (x : ControllerInput) (c last : ControllerState) (k n : ℕ) (e : Entry) : Type 0 where
  ByState : (commit : ℕ) → commit ≤ k → IsHeld c.vr commit n e → StoodBeside kinds setup x c last k n e
  ByInput : (from commit : ℕ) (m : VrMessage) → commit ≤ k → x ≡ controller_input.Vr from m → IsTold m commit n e → StoodBeside kinds setup x c last k n e
  ByProposal : (mid : Work) → mid.state.vr.commit ≤ k → IsReached kinds setup x c mid → IsPrefix (committed mid.state) (committed last) → IsProposed kinds setup x mid.state e → n ≡ length mid.state.vr.log → StoodBeside kinds setup x c last k n e

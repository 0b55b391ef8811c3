-- The application of a controller is a fold over what it has committed. So it is the same in every replica that has committed the same.
use Rattle.std.specs.Prelude.{◌≡◌, ℕ, List, length, slice_get, Some, IfSome}
use Rattle.of_types.specs.declared.setup.Setup.{Setup}
use Rattle.vr_log.specs.Log.{received}
use Rattle.app_core.specs.Chain.{chain_after, slot, starting_chain, versions}
use Rattle.app_core.specs.Law.{AppLaw}
use Rattle.app_core.specs.Operator.{version_after}
use Rattle.app_core.specs.Slot.{IsAtVersion}
use Rattle.group_controller.specs.State.{committed}
use Rattle.group_controller.specs.Turns.{Controlling}
use Rattle.run_spec.specs.States.{Sealing}
use Rattle.world.specs.World.{Holds, Worlding}

-- the parts of its application are in the states to which a chain of these kinds comes by the events of its committed log. One
-- that is down has no application that runs
abbrev pub HasFolded : {A : Type 0} → AppLaw A → List ℕ → Setup → Controlling A → Type 0
HasFolded law kinds setup x =
    IfSome x.acting (λ a. law.states a.dispatcher.app ≡ chain_after kinds setup (starting_chain kinds) (received (committed a.work.state)))

-- the slot at this place of its application is at the version to which operators have brought it in the events of its committed log
abbrev pub RunsVersion : {A : Type 0} → AppLaw A → ℕ → Controlling A → Type 0
RunsVersion law place x =
    IfSome x.acting (λ a. IsAtVersion (version_after (length versions) (received (committed a.work.state))) (slice_get (law.states a.dispatcher.app) place))

-- so it is with each controller of a world, whatever the kinds of its applications are
abbrev pub HaveFolded : {B A : Type 0} → AppLaw A → Sealing B → Worlding B A → Type 0
HaveFolded {A = A} law sealing w = (kinds : List ℕ) (c : ℕ) (x : Controlling A) → Holds law sealing w kinds → slice_get w.controllers c ≡ Some x → HasFolded law kinds w.setup x

abbrev pub RunVersions : {B A : Type 0} → AppLaw A → Sealing B → Worlding B A → Type 0
RunVersions {A = A} law sealing w =
    (kinds : List ℕ) (place c : ℕ) (x : Controlling A) → Holds law sealing w kinds → slice_get kinds place ≡ Some slot → slice_get w.controllers c ≡ Some x → RunsVersion law place x

-- The application of each controller that is not down is a fold over what it has committed.
use Rattle.std.proofs.Common.{◌≡◌, ℕ, List, length, sym, ◌∙◌, ap, subst, arith}
use Rattle.std.specs.Prelude.{Option, Some, None, slice_get, IfSome}
use Rattle.std.proofs.lemmas.Option.{slice_get_within}
use Rattle.of_types.specs.declared.setup.Setup.{Setup}
use Rattle.vr_log.specs.Log.{received}
use Rattle.app_core.specs.Chain.{chain_after, slot, starting_chain, versions}
use Rattle.app_core.specs.Law.{AppLaw}
use Rattle.app_core.specs.Operator.{version_after}
use Rattle.app_core.specs.Slot.{IsAtVersion}
use Rattle.app_core.proofs.Asking.{version_holds}
use Rattle.group_controller.specs.Acting.{Acting}
use Rattle.group_controller.specs.State.{committed}
use Rattle.group_controller.specs.Turns.{Controlling, Controls, Stands}
use Rattle.run_spec.specs.States.{Sealing}
use Rattle.run_spec.proofs.Pasts.{from_some}
use Rattle.world.specs.World.{Holds, Worlding}
use Rattle.world.specs.Folds.{HasFolded, HaveFolded, RunsVersion, RunVersions}

module _ {B A : Type 0} (law : AppLaw A) (sealing : Sealing B) (w : Worlding B A) (kinds : List ℕ) (holds : Holds law sealing w kinds) where
  -- what a controller keeps, and its setup
  keeps_at : (c : ℕ) (x : Controlling A) → slice_get w.controllers c ≡ Some x → Controls law x kinds × (x.setup ≡ w.setup)
  keeps_at c x found =
      let within = slice_get_within w.controllers c x found in
      let group = holds.run.group in
      let m = holds.run.controllers c (omega (arith, within, group)) in
      let one = from_some m.member x (sym m.stands ∙ found) in
      (subst (λ (y : Controlling A). Controls law y kinds) one m.keeps, ap (λ (y : Controlling A). y.setup) (sym one) ∙ m.setup)

  folded_at : (x : Controlling A) (o : Option (Acting A)) → x.setup ≡ w.setup → IfSome o (Stands law x kinds) →
      IfSome o (λ a. law.states a.dispatcher.app ≡ chain_after kinds w.setup (starting_chain kinds) (received (committed a.work.state)))
  folded_at x None same acts = tt
  folded_at x (Some a) same acts =
      subst (λ (s : Setup). law.states a.dispatcher.app ≡ chain_after kinds s (starting_chain kinds) (received (committed a.work.state))) same acts.begins.acts.stands.states

  pub has_folded : (c : ℕ) (x : Controlling A) → slice_get w.controllers c ≡ Some x → HasFolded law kinds w.setup x
  has_folded c x found = let k = keeps_at c x found in folded_at x x.acting k.1 k.0.acting

  version_at : (place : ℕ) (o : Option (Acting A)) → slice_get kinds place ≡ Some slot →
      IfSome o (λ a. law.states a.dispatcher.app ≡ chain_after kinds w.setup (starting_chain kinds) (received (committed a.work.state))) →
      IfSome o (λ a. IsAtVersion (version_after (length versions) (received (committed a.work.state))) (slice_get (law.states a.dispatcher.app) place))
  version_at place None there is = tt
  version_at place (Some a) there is =
      subst (λ (l : List (List ℕ)). IsAtVersion (version_after (length versions) (received (committed a.work.state))) (slice_get l place)) (sym is)
      (version_holds w.setup holds.run.setup kinds place (received (committed a.work.state)) there)

  pub runs_version : (place c : ℕ) (x : Controlling A) → slice_get kinds place ≡ Some slot → slice_get w.controllers c ≡ Some x → RunsVersion law place x
  runs_version place c x there found = version_at place x.acting there (has_folded c x found)

pub have_folded : {B A : Type 0} (law : AppLaw A) (sealing : Sealing B) (w : Worlding B A) → HaveFolded law sealing w
have_folded law sealing w kinds c x holds found = has_folded law sealing w kinds holds c x found

pub run_versions : {B A : Type 0} (law : AppLaw A) (sealing : Sealing B) (w : Worlding B A) → RunVersions law sealing w
run_versions law sealing w kinds place c x holds there found = runs_version law sealing w kinds holds place c x there found

-- A step of a hub.
use Rattle.std.proofs.Common.{◌≡◌, ◌++◌, ℕ, Bool, true, false, List, [], length, refl}
use Rattle.std.specs.Prelude.{nat_lt, if◌then◌else◌}
use Rattle.of_types.specs.declared.message.Command.{Command}
use Rattle.of_types.specs.declared.message.Event.{Event}
use Rattle.of_types.specs.declared.setup.Setup.{Setup}
use Rattle.app_core.specs.Chain.{hub, part_next, rule_of}
use Rattle.app_core.specs.Hub.{hub_commands}
use Rattle.app_core.specs.Parts.{PartSteps}

module _ (setup : Setup) (event : Event) where
  asked : (b : Bool) → nat_lt event.switch (length setup.ports) ≡ b →
      part_next hub setup [] event ≡ record { state = []; commands = if nat_lt event.switch (length setup.ports) then hub_commands event.switch event.what else []; stops = false }
  unfolding part_next rule_of
  asked true there = rw there refl
  asked false there = rw there refl

  pub hub_steps : (switches : ℕ) → switches ≡ length setup.ports → (before after : List Command) →
      after ≡ before ++ (if nat_lt event.switch switches then hub_commands event.switch event.what else []) → PartSteps (part_next hub setup [] event) [] before after false
  hub_steps switches fits before after asks =
      rw (asked (nat_lt event.switch (length setup.ports)) refl) (record { state_is = refl; commands_are = rw fits at asks; stops_is = refl })

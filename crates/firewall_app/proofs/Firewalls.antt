-- A step of a firewall.
use Rattle.std.proofs.Common.{◌≡◌, ◌<◌, ◌≤◌, ◌++◌, ℕ, true, false, List, [], Some, None, length, refl, sym, append-nil}
use Rattle.std.specs.Prelude.{slice_get, if◌then◌else◌}
use Rattle.std.proofs.lemmas.Bool.{le-ltb, lt-ltb}
use Rattle.of_types.specs.declared.message.Command.{Command}
use Rattle.of_types.specs.declared.message.Event.{Event}
use Rattle.of_types.specs.declared.setup.Setup.{Setup}
use Rattle.of_types.specs.Lives.{is_switch_up}
use Rattle.app_core.specs.Chain.{firewall, part_next, rule_of}
use Rattle.app_core.specs.Firewall.{first_hit, dropping_rows, is_installed, installed_after, rows_at}
use Rattle.app_core.specs.Parts.{PartSteps}

module _ (setup : Setup) (installed : List ℕ) (event : Event) where
  -- an event of a switch that the setup lacks passes on
  pub passes_unknown : (out : List Command) → length setup.ports ≤ event.switch → PartSteps (part_next firewall setup installed event) installed out out false
  unfolding part_next rule_of
  passes_unknown out there = rw (le-ltb event.switch (length setup.ports) there) (record { state_is = refl; commands_are = sym (append-nil out); stops_is = refl })

  -- a switch that is up again gets its rows
  pub back_up : (out now : List Command) → event.switch < length setup.ports → is_switch_up event.what ≡ true → now ≡ out ++ rows_at setup event.switch installed →
      PartSteps (part_next firewall setup installed event) installed out now false
  unfolding part_next rule_of
  back_up out now there up asks = rw (lt-ltb event.switch (length setup.ports) there, up) (record { state_is = refl; commands_are = asks; stops_is = refl })

  -- another event that no rule denies passes on
  pub passes_on : (out : List Command) → event.switch < length setup.ports → is_switch_up event.what ≡ false → first_hit setup.deny event.what ≡ None →
      PartSteps (part_next firewall setup installed event) installed out out false
  unfolding part_next rule_of
  passes_on out there other none = rw (lt-ltb event.switch (length setup.ports) there, other, none) (record { state_is = refl; commands_are = sym (append-nil out); stops_is = refl })

  -- a hit stops the chain
  pub stops : (new : List ℕ) (before after : List Command) (place : ℕ) → event.switch < length setup.ports → is_switch_up event.what ≡ false → first_hit setup.deny event.what ≡ Some place →
      new ≡ installed_after installed (Some place) →
      after ≡ before ++ (if is_installed installed place then [] else dropping_rows (length setup.ports) (slice_get setup.deny place)) →
      PartSteps (part_next firewall setup installed event) new before after true
  unfolding part_next rule_of
  stops new before after place there other hit knows asks = rw (lt-ltb event.switch (length setup.ports) there, other, hit) (record { state_is = knows; commands_are = asks; stops_is = refl })

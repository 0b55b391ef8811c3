use Rattle.std.proofs.Common.{◌≡◌, ◌++◌, drop}
use Rattle.of_types.specs.declared.setup.Setup.{Setup}
use Rattle.app_core.specs.Firewall.{rows_at}
use Rattle.firewall_app.proofs.denying.drop_installed.Given as goal

abbrev pub invariant-places : goal.invariant-places
invariant-places l =
    (s : Setup) → s.deny ≡ l.rules → l.initial.out ++ rows_at s l.switch l.installed ≡ l.out ++ rows_at s l.switch (drop l.place-index l.installed)

use Rattle.std.proofs.Common.{◌≡◌, take}
use Rattle.std.specs.List.{list_any}
use Rattle.scenario.specs.Grammar.{is_capital}
use Rattle.scenario.proofs.grammar.has_capital.Given as goal

abbrev pub invariant-loop-digit : goal.invariant-loop-digit
invariant-loop-digit l = l.found ≡ list_any is_capital (take l.digit-index l.text)

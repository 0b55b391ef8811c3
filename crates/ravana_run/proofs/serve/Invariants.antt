use Rattle.std.proofs.Common.{◌≡◌, length}
use Rattle.app_core.specs.contracts.part.BoxDynPartSendPart.TheImpl.{ghosts}
use Rattle.app_core.specs.Law.{chain_law}
use Rattle.top_call.specs.Play.{program_kinds}
use Rattle.group_controller.specs.Turns.{AreAlike}
use Rattle.ravana_run.proofs.serve.OwnLists.{own-1, lawful-own-1}
use Rattle.ravana_run.proofs.serve.Hidden.{sends-own-1}
use Rattle.ravana_run.proofs.serve.Given as goal

abbrev pub invariant-making : goal.invariant-making
invariant-making g l =
    let boxes = ghosts (own-1, lawful-own-1, sends-own-1) in
    record {
      count : length l.chains.items ≡ l.number;
      alike : AreAlike (chain_law boxes.kind_of boxes.numbers boxes.is_fit (λ life. life.parts.items)) program_kinds l.chains.items;
    }

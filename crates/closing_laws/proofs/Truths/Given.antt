-- What the applications ask of switches: few commands, of switches of the setup, with few outputs.
use Rattle.std.proofs.Common.{◌≤◌, ◌<◌, ℕ, zero, suc, List, [], ◌∷◌, length, sym, subst, arith}
use Rattle.std.specs.Prelude.{slice_index_or}
use Rattle.of_types.specs.declared.message.Command.{Command}
use Rattle.of_types.specs.declared.message.Event.{Event}
use Rattle.of_types.specs.declared.setup.Setup.{Setup}
use Rattle.of_types.specs.Setups.{IsSetup}
use Rattle.list_facts.specs.Lists.{IsIn}
use Rattle.list_facts.proofs.Elements.{all_of}
use Rattle.app_core.specs.declared.issued.Issued.{Issued}
use Rattle.app_core.specs.Chain.{chain_next, reactions, reactions_from, starting_chain}
use Rattle.app_core.specs.Issued.{commands_of, issues}
use Rattle.app_core.specs.Orders.{HasFewOutputs, IsGoodCommand}
use Rattle.app_core.specs.Chain.{given_by}
use Rattle.app_core.proofs.Chains.{chain_lawful, commands_few}
use Rattle.dispatcher.specs.Ledger.{most_commands}
use Rattle.closing_laws.specs.Serving.{AreFew}
use Rattle.closing_laws.proofs.Truths.CommandsNamed.{all_is}

module _ (setup : Setup) (is : IsSetup setup) where
  -- a command of the reactions is lawful
  reaction_lawful : (kinds : List ℕ) (states : List (List ℕ)) (events : List Event) (j : ℕ) (c : Command) → IsIn c (slice_index_or (reactions_from kinds setup states events) j []) →
      (e : Event) × IsGoodCommand setup e c
  reaction_lawful kinds states [] j c among = absurd among
  reaction_lawful kinds states (e ∷ events) zero c among =
      (e, all_of (λ (y : Command). IsGoodCommand setup e y) (chain_next kinds setup states e).commands c (chain_lawful setup is kinds states e) among)
  reaction_lawful kinds states (e ∷ events) (suc j) c among = reaction_lawful kinds (chain_next kinds setup states e).states events j c among

  -- and so is each that is issued
  record IsIssued (x : Issued) : Type 0 where
    pub there : x.switch < length setup.ports
    pub few : HasFewOutputs x.order

  issued_lawful : (kinds : List ℕ) (events : List Event) (j : ℕ) (x : Issued) → IsIn x (commands_of kinds setup events j) → IsIssued x
  unfolding issues reactions
  issued_lawful kinds events j x among =
      let r = all_is j [] [] events (reactions_from kinds setup (starting_chain kinds) events) x among in
      let lawful = (reaction_lawful kinds (starting_chain kinds) events j r.command r.among).1 in
      record { there = subst (λ (k : ℕ). k < length setup.ports) (sym r.switch_is) lawful.named; few = subst HasFewOutputs (sym r.order_is) lawful.few }

  pub are_few : (kinds : List ℕ) → given_by kinds ≤ most_commands → AreFew kinds setup
  are_few kinds most = record {
    few = λ events j. let low = commands_few setup is kinds events j in omega (arith, low, most);
    named = λ events j x among. (issued_lawful kinds events j x among).there;
    outputs = λ events j x among. (issued_lawful kinds events j x among).few;
  }

-- A step of what learns, over its hosts.
use Rattle.std.proofs.Common.{◌≡◌, ◌≤◌, ◌+◌, ◌++◌, ℕ, Bool, true, false, List, [], ◌∷◌, length, refl, sym, ap, subst, arith, length-append}
use Rattle.std.specs.Prelude.{nat_lt, if◌then◌else◌}
use Rattle.std.proofs.lemmas.Bool.{cond_both}
use Rattle.of_types.specs.declared.message.Command.{Command}
use Rattle.of_types.specs.declared.message.Event.{Event}
use Rattle.of_types.specs.declared.setup.Setup.{Setup}
use Rattle.app_core.specs.declared.host.Host.{Host}
use Rattle.app_core.specs.declared.manner.Manner.{Manner}
use Rattle.app_core.specs.Chain.{flat, hosts_of, learning_rule, most_given, part_next, rule_of, starting}
use Rattle.app_core.specs.Learning.{hosts_after, learning_commands, hosts_next, commands_next}
use Rattle.app_core.specs.PartRule.{PartRule, rule_step}
use Rattle.app_core.specs.Parts.{PartSteps}
use Rattle.app_core.proofs.LearningLaws.{learning_few}

pub hosts_of-flat : (hosts : List Host) → hosts_of (flat hosts) ≡ hosts
hosts_of-flat [] = refl
hosts_of-flat (h ∷ hosts) = ap (λ l. h ∷ l) (hosts_of-flat hosts)

module _ (kind : ℕ) (manner : Manner) (learns : rule_of kind ≡ learning_rule manner) where
  pub learner_starts : starting kind ≡ []
  learner_starts = ap (λ (rule : PartRule). rule.starts) learns

  pub learner_most : most_given kind ≡ 2
  learner_most = ap (λ (rule : PartRule). rule.most) learns

  module _ (hosts : List Host) (event : Event) where
    -- how many commands a part of this kind appends, where it knows how many switches there are
    pub learning_more : (switches : ℕ) (before after : List Command) →
        after ≡ before ++ (if nat_lt event.switch switches then learning_commands manner (hosts_after manner hosts event.switch event.what) event.switch event.what else []) →
        length after ≤ length before + most_given kind
    learning_more switches before after asks =
        let given = learning_commands manner (hosts_after manner hosts event.switch event.what) event.switch event.what in
        let few = cond_both (nat_lt event.switch switches) given [] (λ (l : List Command). length l ≤ 2) (λ _. learning_few manner (hosts_after manner hosts event.switch event.what) event) (λ _. omega arith) in
        let most = learner_most in
        rw asks (omega (arith, few, most, length-append before (if nat_lt event.switch switches then given else [])))

    module _ (setup : Setup) where
      choice : (b : Bool) → nat_lt event.switch (length setup.ports) ≡ b →
          rule_step (learning_rule manner) setup (flat hosts) event
          ≡ record { state = flat (hosts_next manner setup hosts event); commands = commands_next manner setup hosts event; stops = false }
      choice true there = rw (there, hosts_of-flat hosts) refl
      choice false there = rw there refl

      -- what it ensures, by its hosts and commands
      pub learning_steps : (switches : ℕ) → switches ≡ length setup.ports → (new : List Host) (before after : List Command) →
          new ≡ (if nat_lt event.switch switches then hosts_after manner hosts event.switch event.what else hosts) →
          after ≡ before ++ (if nat_lt event.switch switches then learning_commands manner (hosts_after manner hosts event.switch event.what) event.switch event.what else []) →
          PartSteps (part_next kind setup (flat hosts) event) (flat new) before after false
      unfolding part_next
      learning_steps switches fits new before after knows asks =
          subst (λ (rule : PartRule). PartSteps (rule_step rule setup (flat hosts) event) (flat new) before after false) (sym learns)
          (rw (choice (nat_lt event.switch (length setup.ports)) refl) (record { state_is = ap flat (rw fits at knows); commands_are = rw fits at asks; stops_is = refl }))

-- What an application that is run on events has done after some of them.
use Rattle.std.proofs.Common.{◌≡◌, ◌≤◌, ◌++◌, List, [], ◌∷◌, length, refl, ap, subst, ◌∙◌, append_assoc, arith}
use Rattle.std.specs.Prelude.{All}
use Rattle.std.proofs.lemmas.List.Elements.{All-push}
use Rattle.of_types.specs.declared.message.Command.{Command}
use Rattle.of_types.specs.declared.message.Event.{Event}
use Rattle.of_types.specs.declared.setup.Setup.{Setup}
use Rattle.app_core.specs.Chain.{chain_next, chain_after, given_by, reactions_from}
use Rattle.app_core.specs.Parts.{ChainSteps}
use Rattle.app_core.specs.Law.{AppLaw}

-- an application that was one, and is another after the events but those that are left
pub record HasRun {A : Type 0} (law : AppLaw A)
    (first now : A) (lists : List (List Command)) (rest events : List Event) : Type 0 where
  pub same_kinds : law.kinds now ≡ law.kinds first
  pub suited : (s : Setup) → law.suits first s → law.suits now s
  pub said : (s : Setup) → law.suits first s → lists ++ reactions_from (law.kinds first) s (law.states now) rest ≡ reactions_from (law.kinds first) s (law.states first) events
  pub reached : (s : Setup) → law.suits first s → chain_after (law.kinds first) s (law.states now) rest ≡ chain_after (law.kinds first) s (law.states first) events
  pub few : (s : Setup) → law.suits first s → All (λ list. length list ≤ given_by (law.kinds first)) lists

module _ {A : Type 0} (law : AppLaw A) where
  pub run_none : (first : A) (events : List Event) → HasRun law first first [] events events
  run_none first events =
      record {
        same_kinds = refl;
        suited = λ s fits. fits;
        said = λ s fits. refl;
        reached = λ s fits. refl;
        few = λ s fits k d less. absurd (omega arith);
      }

  -- one event more
  pub run_more : (first now next : A) (lists : List (List Command)) (e : Event) (rest events : List Event) (commands : List Command) →
      HasRun law first now lists (e ∷ rest) events → law.kinds next ≡ law.kinds now →
      ((s : Setup) → law.suits now s → law.suits next s) → ((s : Setup) → law.suits now s → ChainSteps (chain_next (law.kinds now) s (law.states now) e) (law.states next) [] commands) →
      ((s : Setup) → law.suits now s → length commands ≤ given_by (law.kinds now)) → HasRun law first next (lists ++ commands ∷ []) rest events
  run_more first now next lists e rest events commands ran kinds suited steps few =
      let kinds_first = law.kinds first in
      let step : (s : Setup) → law.suits first s → ChainSteps (chain_next kinds_first s (law.states now) e) (law.states next) [] commands =
      λ s fits. subst (λ ks. ChainSteps (chain_next ks s (law.states now) e) (law.states next) [] commands) ran.same_kinds (steps s (ran.suited s fits)) in
      record {
        same_kinds = kinds ∙ ran.same_kinds;
        suited = λ s fits. suited s (ran.suited s fits);
        said = λ s fits.
            append_assoc lists (commands ∷ []) (reactions_from kinds_first s (law.states next) rest)
            ∙ (ap (λ l. lists ++ l)
            (ap (λ (c : List Command). c ∷ reactions_from kinds_first s (law.states next) rest) (step s fits).commands_are
            ∙ ap (λ st. (chain_next kinds_first s (law.states now) e).commands ∷ reactions_from kinds_first s st rest) (step s fits).states_are)
            ∙ ran.said s fits);
        reached = λ s fits. ap (λ st. chain_after kinds_first s st rest) (step s fits).states_are ∙ ran.reached s fits;
        few = λ s fits. All-push (λ list. length list ≤ given_by (law.kinds first)) lists commands (ran.few s fits) (subst (λ ks. length commands ≤ given_by ks) ran.same_kinds (few s (ran.suited s fits)));
      }

-- The laws of every possible past.
use Rattle.std.proofs.Common.{List}
use Rattle.journal.specs.declared.journal.JournalEntry.{JournalEntry}
use Rattle.journal.specs.declared.journal.SaveResult.{SaveResult}
use Rattle.run_spec.specs.States.{Scene}
use Rattle.run_spec.specs.Legal.{IsPossible}
use Rattle.run_spec.specs.Laws.{IsLasting, IsFenced, IsExactlyOnce}
use Rattle.run_laws.specs.OnceLaws.Facts.{facts_of}
use Rattle.run_spec.specs.States.{IsFaithful}
use Rattle.run_laws.specs.OnceLaws.Premises.{AreControllers}
use Rattle.run_laws.proofs.OnceLaws.Decided.{grows, front, trusted, lasts}
use Rattle.run_laws.proofs.OnceLaws.Journals.{switch_hears_truth}
use Rattle.run_laws.proofs.OnceLaws.Executed.{holds_always, once}
use Rattle.run_laws.proofs.OnceLaws.Fencing.{all_fenced}

module _ {B : Type 0} (scene : Scene B) (results : List (List SaveResult)) (entries : List (JournalEntry B)) where
  pub is_lasting : IsFaithful scene.sealing → AreControllers scene results → IsPossible scene results entries → IsLasting scene results entries
  is_lasting faithful sides possible = lasts scene results sides (holds_always scene results faithful sides) entries possible

  pub is_once : IsFaithful scene.sealing → AreControllers scene results → IsPossible scene results entries → IsExactlyOnce scene results entries
  is_once faithful sides possible = once scene results faithful sides entries possible

  pub is_fenced : IsFaithful scene.sealing → AreControllers scene results → IsPossible scene results entries → IsFenced scene entries
  is_fenced faithful sides possible =
      all_fenced scene results (λ past. facts_of scene results past)
      (λ e before here s x same heard.
      switch_hears_truth scene results faithful (grows scene results sides) (front scene results sides) sides e before here (trusted scene results sides (holds_always scene results faithful sides) e before here) s x same heard)
      entries possible

-- Which cause counts, of those that tasks stopped for.
use Rattle.std.proofs.Common.{◌≡◌, ◌<◌, ◌⊎◌, inl, inr, ℕ, zero, suc, List, [], ◌∷◌, refl, sym, ◌∙◌, ap, arith}
use Rattle.std.specs.Prelude.{Option, Some, None, slice_get}
use Rattle.journal.specs.declared.wire.Stop.{Stop}
use Rattle.journal.specs.declared.wire.Stop.TheVariants.{OutOfMemory, JournalFull}
use Rattle.running.specs.declared.task.Task.{Task}
use Rattle.thread_rules.specs.Rules.{worst}
use Rattle.running.specs.Runs.{first_stop}

worst_starved : (first next : Option Stop) → first ≡ Some OutOfMemory → worst first next ≡ Some OutOfMemory
worst_starved first next is = rw is refl

worst_starves : (first next : Option Stop) → next ≡ Some OutOfMemory → worst first next ≡ Some OutOfMemory
worst_starves None next is = is
worst_starves (Some OutOfMemory) next is = refl
worst_starves (Some (JournalFull bytes letters)) next is = rw is refl

no_stop : (first next : Option Stop) → worst first next ≡ None → (first ≡ None) × (next ≡ None)
no_stop None next is = (refl, is)
no_stop (Some OutOfMemory) next is = absurd (let h = is in cc)
no_stop (Some (JournalFull bytes letters)) None is = absurd (let h = is in cc)
no_stop (Some (JournalFull bytes letters)) (Some OutOfMemory) is = absurd (let h = is in cc)
no_stop (Some (JournalFull bytes letters)) (Some (JournalFull b l)) is = absurd (let h = is in cc)

-- nothing stopped yet
abbrev pub going_on : Option Stop
going_on = None

-- of two, the first that met a full journal counts, where none was short of memory
which : (first next : Option Stop) (bytes letters : ℕ) → worst first next ≡ Some (JournalFull bytes letters) →
    (first ≡ Some (JournalFull bytes letters)) ⊎ ((first ≡ None) × (next ≡ Some (JournalFull bytes letters)))
which None next bytes letters is = inr (refl, is)
which (Some OutOfMemory) next bytes letters is = inl is
which (Some (JournalFull b l)) None bytes letters is = inl is
which (Some (JournalFull b l)) (Some OutOfMemory) bytes letters is = absurd (let h = is in cc)
which (Some (JournalFull b l)) (Some (JournalFull c m)) bytes letters is = inl is

module _ {B G P : Type 0} where
  -- none of these found no memory
  abbrev pub AreCalm : List (Task B P G) → Type 0
  AreCalm tasks = (i : ℕ) (t : Task B P G) → slice_get tasks i ≡ Some t → t.stop ≡ Some OutOfMemory → ⊥

  starved : (tasks : List (Task B P G)) → first_stop (Some OutOfMemory) tasks ≡ Some OutOfMemory
  starved [] = refl
  starved (t ∷ tasks) = starved tasks

  pub was_calm : (first : Option Stop) (tasks : List (Task B P G)) → (first_stop first tasks ≡ Some OutOfMemory → ⊥) → first ≡ Some OutOfMemory → ⊥
  was_calm first tasks calm is = calm (ap (λ (o : Option Stop). first_stop o tasks) is ∙ starved tasks)

  pub are_calm : (first : Option Stop) (tasks : List (Task B P G)) → (first_stop first tasks ≡ Some OutOfMemory → ⊥) → AreCalm tasks
  are_calm first [] calm i t found = cc
  are_calm first (u ∷ tasks) calm zero t found =
      let same : u ≡ t = cc in
      λ is. was_calm (worst first u.stop) tasks calm (worst_starves first u.stop (ap (λ (x : Task B P G). x.stop) same ∙ is))
  are_calm first (u ∷ tasks) calm (suc i) t found = are_calm (worst first u.stop) tasks calm i t found

  pub none_first : (first : Option Stop) (tasks : List (Task B P G)) → first_stop first tasks ≡ None → first ≡ None
  none_first first [] is = is
  none_first first (u ∷ tasks) is = (no_stop first u.stop (none_first (worst first u.stop) tasks is)).0

  pub none_stopped : (first : Option Stop) (tasks : List (Task B P G)) → first_stop first tasks ≡ None → (i : ℕ) (t : Task B P G) → slice_get tasks i ≡ Some t → t.stop ≡ None
  none_stopped first [] is i t found = cc
  none_stopped first (u ∷ tasks) is zero t found =
      let same : u ≡ t = cc in ap (λ (x : Task B P G). x.stop) (sym same) ∙ (no_stop first u.stop (none_first (worst first u.stop) tasks is)).1
  none_stopped first (u ∷ tasks) is (suc i) t found = none_stopped (worst first u.stop) tasks is i t found

  -- the first of a list that stopped met a full journal, with these sums
  pub record HasStopped (bytes letters : ℕ) (tasks : List (Task B P G)) : Type 0 where
    pub number : ℕ
    pub task : Task B P G
    pub stands : slice_get tasks number ≡ Some task
    pub stop_is : task.stop ≡ Some (JournalFull bytes letters)
    pub earlier : (i : ℕ) → i < number → (t : Task B P G) → slice_get tasks i ≡ Some t → t.stop ≡ None

  pub who_stopped : (first : Option Stop) (tasks : List (Task B P G)) (bytes letters : ℕ) → first_stop first tasks ≡ Some (JournalFull bytes letters) →
      (first ≡ Some (JournalFull bytes letters)) ⊎ ((first ≡ None) × HasStopped bytes letters tasks)
  who_stopped first [] bytes letters is = inl is
  who_stopped first (u ∷ tasks) bytes letters is = by_rest (who_stopped (worst first u.stop) tasks bytes letters is)
    where
      by_worst : (first ≡ Some (JournalFull bytes letters)) ⊎ ((first ≡ None) × (u.stop ≡ Some (JournalFull bytes letters))) →
          (first ≡ Some (JournalFull bytes letters)) ⊎ ((first ≡ None) × HasStopped bytes letters (u ∷ tasks))
      by_worst (inl its) = inl its
      by_worst (inr its) = inr (its.0, record { number = 0; task = u; stands = refl; stop_is = its.1; earlier = λ i less t found. absurd (omega (arith, less)) })

      its_earlier : u.stop ≡ None → (h : HasStopped bytes letters tasks) (i : ℕ) → i < suc h.number → (t : Task B P G) → slice_get (u ∷ tasks) i ≡ Some t → t.stop ≡ None
      its_earlier none h zero less t found = let same : u ≡ t = cc in ap (λ (x : Task B P G). x.stop) (sym same) ∙ none
      its_earlier none h (suc i) less t found = h.earlier i (omega (arith, less)) t found

      by_rest : (worst first u.stop ≡ Some (JournalFull bytes letters)) ⊎ ((worst first u.stop ≡ None) × HasStopped bytes letters tasks) →
          (first ≡ Some (JournalFull bytes letters)) ⊎ ((first ≡ None) × HasStopped bytes letters (u ∷ tasks))
      by_rest (inl its) = by_worst (which first u.stop bytes letters its)
      by_rest (inr (none, h)) =
          let both = no_stop first u.stop none in
          inr (both.0, record { number = suc h.number; task = h.task; stands = h.stands; stop_is = h.stop_is; earlier = its_earlier both.1 h })

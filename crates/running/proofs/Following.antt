-- Each actor takes its own steps in order, also in a journal that others have made longer.
use Rattle.std.proofs.Common.{◌≡◌, ◌≤◌, ℕ, Bool, true, false, suc, List, [], ◌∷◌, ◌++◌, length, refl, sym, ◌∙◌, ap, arith}
use Rattle.journal.specs.declared.journal.Actor.{Actor}
use Rattle.journal.specs.declared.journal.JournalEntry.{JournalEntry}
use Rattle.journal.specs.declared.journal.Turn.{Turn}
use Rattle.journal.specs.Actors.{same_actor, actor_of, is_input}
use Rattle.journal.specs.Part.{part}
use Rattle.running.specs.Apart.{inputs_of, TakesOwn}

module _ {B : Type 0} where
  -- the actor has taken so many of its steps
  pub record Taken (a : Actor) (steps : List Turn) (number : ℕ) (entries : List (JournalEntry B)) : Type 0 where
    pub takes : TakesOwn a steps entries
    pub count : inputs_of a entries ≡ number

  -- a part is no shorter than that of a front
  no_shorter : (a : Actor) (later met : List (JournalEntry B)) → length (part a met) ≤ length (part a (later ++ met))
  no_shorter a [] met = omega arith
  no_shorter a (e ∷ later) met = by_actor (same_actor (actor_of e) a) refl (no_shorter a later met)
    where
      by_actor : (b : Bool) → same_actor (actor_of e) a ≡ b → length (part a met) ≤ length (part a (later ++ met)) → length (part a met) ≤ length (part a (e ∷ later ++ met))
      by_actor true is h = rw is (omega (arith, h))
      by_actor false is h = rw is h

  -- an entry of others takes no step
  pub skips : (a : Actor) (steps : List Turn) (number : ℕ) (e : JournalEntry B) (entries : List (JournalEntry B)) → same_actor (actor_of e) a ≡ false → Taken a steps number entries → Taken a steps number (e ∷ entries)
  skips a steps number e entries other t = record { takes = (λ own. absurd (no_truth (sym other ∙ own)), t.takes); count = counted (is_input e) refl }
    where
      no_truth : false ≡ true → ⊥
      no_truth h = cc

      counted : (b : Bool) → is_input e ≡ b → inputs_of a (e ∷ entries) ≡ number
      counted true is = rw (is, other) t.count
      counted false is = rw is t.count

  -- a longer journal in which the actor has no more entries follows the same steps
  pub still : (a : Actor) (steps : List Turn) (number : ℕ) (later met : List (JournalEntry B)) → part a (later ++ met) ≡ part a met → Taken a steps number met → Taken a steps number (later ++ met)
  still a steps number [] met same t = t
  still a steps number (e ∷ later) met same t = by_actor (same_actor (actor_of e) a) refl (λ shorter. still a steps number later met shorter t)
    where
      by_actor : (b : Bool) → same_actor (actor_of e) a ≡ b → (part a (later ++ met) ≡ part a met → Taken a steps number (later ++ met)) → Taken a steps number (e ∷ later ++ met)
      by_actor true is rest =
          let long : length (part a (e ∷ later ++ met)) ≡ length (part a met) = ap length same in
          let more : length (part a (e ∷ later ++ met)) ≡ suc (length (part a (later ++ met))) = rw is refl in
          let least = no_shorter a later met in
          absurd (omega (arith, long, more, least))
      by_actor false is rest =
          let shorter : part a (e ∷ later ++ met) ≡ part a (later ++ met) = rw is refl in
          skips a steps number e (later ++ met) is (rest (sym shorter ∙ same))

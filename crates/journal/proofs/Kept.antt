-- What a journal keeps beside its entries still holds after each step of a turn.
use Rattle.std.proofs.Common.{◌≡◌, ℕ, ◌+◌, ◌%◌, Bool, true, Option, Some, None, List, [], ◌∷◌, length, refl, sym, ap, ◌∙◌, arith, mod-lt}
use Rattle.std.proofs.lemmas.Option.{none-some, slice_get-get_or}
use Rattle.journal.specs.declared.journal.Actor.{Actor}
use Rattle.journal.specs.declared.journal.JournalEntry.{JournalEntry}
use Rattle.journal.specs.declared.journal.JournalEntry.TheVariants.{Post, Draw, Lose, Local, Idle, Refused}
use Rattle.journal.specs.declared.journal.Letter.{Letter}
use Rattle.journal.specs.declared.journal.Packet.{Packet}
use Rattle.journal.specs.declared.journal.Turn.{Turn}
use Rattle.journal.specs.declared.journal.Turn.TheVariants as turn
use Rattle.journal.specs.declared.place.PacketPlace.{PacketPlace}
use Rattle.journal.specs.declared.pool.Sums.{Sums}
use Rattle.journal.specs.Ledger.{found_in, entry_by, IsSummed}
use Rattle.journal.specs.Orderly.{lost_of, IsWaiting, IsOrderly}
use Rattle.journal.specs.Places.{IsFound}
use Rattle.journal.specs.Pool.{pool, waiting, chosen, pick, letters_posted, letter_bytes, bytes_posted}
use Rattle.journal.specs.Turns.{entry_of, drawn_entry, lost_entry, IsKept}
use Rattle.journal.proofs.Pools.{waits-at, waiting-at}

module _ {B : Type 0} where
  -- an outbox was posted
  pub IsKept-post : (size : B → ℕ) (before : List (JournalEntry B)) (next total lost : ℕ) (a : Actor) (letters : List (Letter B)) (sums : Sums) →
      IsKept size before next total → lost ≡ lost_of size (pool before) letters → IsSummed size next total letters sums → IsKept size (Post a next letters lost ∷ before) sums.letters sums.bytes
  IsKept-post size before next total lost a letters sums kept lost_is summed = record {
    next_is = summed.letters_are ∙ ap (λ n. n + length letters) kept.next_is;
    total_is = summed.bytes_are ∙ ap (λ n. n + letter_bytes size letters) kept.total_is;
    within = record {
      letters = omega (arith, summed.letters_are, summed.few, kept.next_is);
      bytes = omega (arith, summed.bytes_are, summed.small, kept.total_is);
    };
    orderly = (kept.next_is, lost_is, kept.orderly);
  }

  -- the packet of a choice waits, or none does
  found_waits : (a : Actor) (choice : ℕ) (before : List (JournalEntry B)) (p : Packet B) → pick a choice before ≡ Some p → IsWaiting a p.id (pool before)
  found_waits a choice before p found =
      let at = waiting-at a (pool before) (choice % length (waiting a (pool before))) p found in
      waits-at a (pool before) at.0 p at.1 at.2

  pub nothing_chosen : (choice : ℕ) (xs : List (Packet B)) → chosen choice xs ≡ None → xs ≡ []
  nothing_chosen choice [] found = refl
  nothing_chosen choice (p ∷ packets) found =
      absurd (none-some _ (sym found ∙ slice_get-get_or (p ∷ packets) (choice % length (p ∷ packets)) p (mod-lt choice (omega arith))))

  -- an input adds no letters
  abbrev AddsNone : JournalEntry B → Type 0
  AddsNone e = (size : B → ℕ) (before : List (JournalEntry B)) → (letters_posted (e ∷ before) ≡ letters_posted before) × (bytes_posted size (e ∷ before) ≡ bytes_posted size before)

  with_input : (size : B → ℕ) (before : List (JournalEntry B)) (next total : ℕ) (e : JournalEntry B) → IsKept size before next total → AddsNone e → IsOrderly size (e ∷ before) → IsKept size (e ∷ before) next total
  with_input size before next total e kept none orderly =
      let same = none size before in
      record {
        next_is = kept.next_is ∙ sym same.0;
        total_is = kept.total_is ∙ sym same.1;
        within = record { letters = omega (arith, kept.within.letters, same.0); bytes = omega (arith, kept.within.bytes, same.1) };
        orderly = orderly;
      }

  drawn_kept : (size : B → ℕ) (before : List (JournalEntry B)) (next total : ℕ) (a : Actor) (choice : ℕ) (keep : Bool) (found : Option (Packet B)) → IsKept size before next total → pick a choice before ≡ found →
      IsKept size (drawn_entry a keep found ∷ before) next total
  drawn_kept size before next total a choice keep None kept is =
      with_input size before next total (Idle a) kept (λ _ _. (refl, refl)) (nothing_chosen choice (waiting a (pool before)) is, kept.orderly)
  drawn_kept size before next total a choice keep (Some p) kept is =
      with_input size before next total (Draw a p.id keep) kept (λ _ _. (refl, refl)) (found_waits a choice before p is, kept.orderly)

  lost_kept : (size : B → ℕ) (before : List (JournalEntry B)) (next total : ℕ) (a : Actor) (choice : ℕ) (found : Option (Packet B)) → IsKept size before next total → pick a choice before ≡ found →
      IsKept size (lost_entry a found ∷ before) next total
  lost_kept size before next total a choice None kept is =
      with_input size before next total (Idle a) kept (λ _ _. (refl, refl)) (nothing_chosen choice (waiting a (pool before)) is, kept.orderly)
  lost_kept size before next total a choice (Some p) kept is =
      with_input size before next total (Lose a p.id) kept (λ _ _. (refl, refl)) (found_waits a choice before p is, kept.orderly)

  -- an input was taken
  pub IsKept-input : (size : B → ℕ) (before : List (JournalEntry B)) (next total : ℕ) (step : Turn) → IsKept size before next total → IsKept size (entry_of step before ∷ before) next total
  IsKept-input size before next total (turn.Draw a choice keep) kept = drawn_kept size before next total a choice keep (pick a choice before) kept refl
  IsKept-input size before next total (turn.Lose a choice) kept = lost_kept size before next total a choice (pick a choice before) kept refl
  IsKept-input size before next total (turn.Local a input) kept = with_input size before next total (Local a input) kept (λ _ _. (refl, refl)) kept.orderly

  -- an input was refused
  pub IsKept-refused : (size : B → ℕ) (before : List (JournalEntry B)) (next total : ℕ) (a : Actor) → IsKept size before next total → IsKept size (Refused a ∷ before) next total
  IsKept-refused size before next total a kept = with_input size before next total (Refused a) kept (λ _ _. (refl, refl)) kept.orderly

  drawn_is : (journal : List (JournalEntry B)) (a : Actor) (keep : Bool) (choice : ℕ) (place : Option PacketPlace) (p : Option (Packet B)) → IsFound journal place p →
      (entry_by (turn.Draw a choice keep) place ≡ drawn_entry a keep p) × (entry_by (turn.Lose a choice) place ≡ lost_entry a p)
  drawn_is journal a keep choice None None is = (refl, refl)
  drawn_is journal a keep choice None (Some p) is = absurd is
  drawn_is journal a keep choice (Some place) None is = absurd is
  drawn_is journal a keep choice (Some place) (Some p) is = (ap (λ id. Draw a id keep) is.id_is, ap (λ id. Lose a id) is.id_is)

  -- the entry of a step is the one that a turn makes
  pub entry_by-entry_of : (journal before : List (JournalEntry B)) (step : Turn) (place : Option PacketPlace) → IsFound journal place (found_in step (pool before)) → entry_by step place ≡ entry_of step before
  entry_by-entry_of journal before (turn.Draw a choice keep) place is = (drawn_is journal a keep choice place (pick a choice before) is).0
  entry_by-entry_of journal before (turn.Lose a choice) place is = (drawn_is journal a true choice place (pick a choice before) is).1
  entry_by-entry_of journal before (turn.Local a input) place is = refl

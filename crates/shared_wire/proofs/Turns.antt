-- What a call adds is of its actor alone, and what its place then knows.
use Rattle.std.proofs.Common.{◌≡◌, ℕ, Option, Some, None, Bool, List, [], ◌∷◌, ◌++◌, map, drop, refl, sym, ap, ◌∙◌, subst, append-nil, Result, Ok, Err, OnOk, IfOk, IfErr}
use Rattle.std.proofs.lemmas.List.{reverse-append}
use Rattle.atomic_table.specs.Table.{Me}
use Rattle.atomic_table.specs.Seated.{TableId}
use Rattle.journal.specs.declared.journal.Actor.{Actor}
use Rattle.journal.specs.declared.journal.JournalEntry.{JournalEntry}
use Rattle.journal.specs.declared.journal.Letter.{Letter}
use Rattle.journal.specs.declared.journal.Packet.{Packet}
use Rattle.journal.specs.declared.journal.Turn.{Turn}
use Rattle.journal.specs.declared.journal.Turn.TheVariants as turn
use Rattle.journal.specs.declared.place.PacketPlace.{PacketPlace}
use Rattle.journal.specs.declared.wire.Stop.{Stop}
use Rattle.journal.specs.Actors.{actor_of}
use Rattle.journal.specs.Answers.{RefusedBy}
use Rattle.journal.specs.Part.{part}
use Rattle.journal.specs.Places.{IsFound}
use Rattle.journal.specs.Pool.{past, pick}
use Rattle.journal.specs.Turns.{posting, posted, drawn_entry, lost_entry, entry_of, turn_actor, turn_entries}
use Rattle.journal.proofs.All.{all_append}
use Rattle.shared_wire.specs.declared.rule.Known.{Known}
use Rattle.shared_wire.specs.declared.rule.View.{View}
use Rattle.shared_wire.specs.Rule.{IsTrueOf, knowing, holding, has_given}
use Rattle.shared_wire.specs.Places.{actor_place_of, own_of, seen_of, IsFree}
use Rattle.shared_wire.specs.Calls.{beside_seat, Adds, AddsNothing, Refuses}
use Rattle.shared_wire.proofs.Lists.{all_reverse}
use Rattle.shared_wire.proofs.Parts.{AllBy, part-own}

module _ {B : Type 0} where
  pub by_posting : (size : B → ℕ) (a : Actor) (letters : List (Letter B)) (before : List (JournalEntry B)) → AllBy a (posting size a letters before)
  by_posting size a [] before = tt
  by_posting size a (l ∷ letters) before = (refl, tt)

  by_drawn : (a : Actor) (keep : Bool) (found : Option (Packet B)) → actor_of (drawn_entry a keep found) ≡ a
  by_drawn a keep None = refl
  by_drawn a keep (Some p) = refl

  by_lost : (a : Actor) (found : Option (Packet B)) → actor_of (lost_entry a found) ≡ a
  by_lost a None = refl
  by_lost a (Some p) = refl

  pub by_entry : (step : Turn) (before : List (JournalEntry B)) → actor_of (entry_of step before) ≡ turn_actor step
  by_entry (turn.Draw a choice keep) before = by_drawn a keep (pick a choice before)
  by_entry (turn.Lose a choice) before = by_lost a (pick a choice before)
  by_entry (turn.Local a input) before = refl

  -- a turn adds entries of its actor alone
  pub by_turn : (size : B → ℕ) (letters : List (Letter B)) (step : Turn) (before : List (JournalEntry B)) → AllBy (turn_actor step) (turn_entries size letters step before)
  by_turn size letters step before =
      let entry : JournalEntry B = entry_of step (posted size (turn_actor step) letters before) in
      all_append (λ e. actor_of e ≡ turn_actor step) (posting size (turn_actor step) letters before) (entry ∷ []) (by_posting size (turn_actor step) letters before) (by_entry step (posted size (turn_actor step) letters before), tt)

  -- what stands before the input of a turn is what was posted
  pub before_input : (size : B → ℕ) (letters : List (Letter B)) (step : Turn) (j : List (JournalEntry B)) → drop 1 (past (j ++ turn_entries size letters step (past j))) ≡ posted size (turn_actor step) letters (past j)
  before_input size [] step j = ap (drop 1) (reverse-append j (turn_entries size [] step (past j)))
  before_input size (l ∷ letters) step j = ap (drop 1) (reverse-append j (turn_entries size (l ∷ letters) step (past j)))

  -- whatever the answer, the journal grew by entries of the actor alone
  pub grows : {T : Type 0} (size : B → ℕ) (a : Actor) (j j' : List (JournalEntry B)) (post : List (Letter B)) (entries : List (JournalEntry B)) (r : Result T Stop) → AllBy a entries → OnOk r (j' ≡ j ++ entries)
      → IfErr r (λ stop. (j' ≡ j) × RefusedBy size stop post (past j)) → (es : List (JournalEntry B)) × (j' ≡ j ++ es) × AllBy a es
  grows size a j j' post entries (Ok x) all ok err = (entries, ok, all)
  grows size a j j' post entries (Err x) all ok err = ([], err.0 ∙ sym (append-nil j), tt)

  -- a seat that knew one actor has given the wire back
  pub record HasGiven (a : Actor) (j j' : List (JournalEntry B)) (v w : View B) : Type 0 where
    pub k : Known B
    pub knew : v.known ≡ k ∷ []
    pub actor_is : k.actor ≡ a
    pub true_of : IsTrueOf j k
    pub gave : w ≡ has_given (holding v j) j'

  pub gave_back : (a : Actor) (j j' : List (JournalEntry B)) (k : Known B) (before holds after : Me (Option (List (JournalEntry B))) (View B)) (held : List (ℕ × Option (List (JournalEntry B)))) → IsFree k before → k.actor ≡ a → IsTrueOf j k
      → holds ≡ (holding before.0 j, held) → after ≡ (has_given holds.0 j', []) → HasGiven a j j' before.0 after.0
  gave_back a j j' k before holds after held free actor_is true_of took gave = record {
    k = k;
    knew = free.0;
    actor_is = actor_is;
    true_of = true_of;
    gave = ap (λ m. m.0) gave ∙ ap (λ m. has_given m.0 j') took;
  }

  module _ (a : Actor) (j j' : List (JournalEntry B)) (v w : View B) (g : HasGiven a j j' v w) where
    known_now : w.known ≡ knowing a (part a (past j')) j' ∷ []
    known_now = ap (λ (y : View B). y.known) g.gave ∙ ap (map (λ (y : Known B). knowing y.actor (part y.actor (past j')) j')) g.knew ∙ ap (λ b. knowing b (part b (past j')) j' ∷ []) g.actor_is

    pub own_now : own_of w.known ≡ part a (past j')
    own_now = ap own_of known_now

    pub seen_now : seen_of w.known ≡ j'
    seen_now = ap seen_of known_now

    own_then : own_of v.known ≡ part a (past j)
    own_then = ap own_of g.knew ∙ g.true_of.0 ∙ ap (λ b. part b (past j)) g.actor_is

    seen_then : seen_of v.known ≡ g.k.seen
    seen_then = ap seen_of g.knew

    -- what a call added
    pub adds : {T E : Type 0} (z z' : TableId) (turn : List (JournalEntry B) → List (JournalEntry B)) (r : Result T E) → AllBy a (turn (past j)) → OnOk r (j' ≡ j ++ turn (past j)) → OnOk r (Adds (actor_place_of a z v) (actor_place_of a z' w) turn)
    adds z z' turn (Err x) all ok = tt
    adds z z' turn (Ok x) all ok = record {
      met = j;
      later = (g.true_of.1.0, g.true_of.1.1 ∙ ap (λ l. l ++ g.true_of.1.0) (sym seen_then));
      mine = own_then;
      seen = seen_now ∙ ok;
      own =
          own_now
          ∙ ap (λ l. part a (past l)) ok
          ∙ ap (part a) (reverse-append j (turn (past j)))
          ∙ part-own a (past (turn (past j))) (past j) (all_reverse (λ e. actor_of e ≡ a) (turn (past j)) all)
          ∙ ap (λ l. beside_seat (past (turn (past j))) (past j) ++ l) (sym own_then);
    }

    -- the journal is as it was met
    pub adds_nothing : (z z' : TableId) → j' ≡ j → AddsNothing (actor_place_of a z v) (actor_place_of a z' w)
    adds_nothing z z' same = record {
      own = own_now ∙ ap (λ l. part a (past l)) same ∙ sym own_then;
      later = (g.true_of.1.0, seen_now ∙ same ∙ g.true_of.1.1 ∙ ap (λ l. l ++ g.true_of.1.0) (sym seen_then));
    }

    -- what a call did not add
    pub refuses : {T : Type 0} (size : B → ℕ) (z z' : TableId) (post : List (Letter B)) (r : Result T Stop)
        → IfErr r (λ stop. (j' ≡ j) × RefusedBy size stop post (past j)) → IfErr r (Refuses size (actor_place_of a z v) (actor_place_of a z' w) post)
    refuses size z z' post (Ok x) err = tt
    refuses size z z' post (Err stop) err = record {
      nothing = adds_nothing z z' err.0;
      cause = subst (λ l. RefusedBy size stop post (past l)) (sym (seen_now ∙ err.0)) err.1;
    }

    -- what a draw or a loss found stands before its input
    pub finds : {E : Type 0} (size : B → ℕ) (post : List (Letter B)) (step : Turn) (choice : ℕ) (r : Result (Option PacketPlace) E) → turn_actor step ≡ a → OnOk r (j' ≡ j ++ turn_entries size post step (past j))
        → IfOk r (λ found. IsFound j' found (pick a choice (posted size a post (past j)))) → IfOk r (λ found. IsFound (seen_of w.known) found (pick a choice (drop 1 (past (seen_of w.known)))))
    finds size post step choice (Err x) is ok found = tt
    finds size post step choice (Ok place) is ok found =
        let before = ap (λ b. posted size b post (past j)) (sym is) ∙ sym (before_input size post step j) ∙ ap (λ l. drop 1 (past l)) (sym ok ∙ sym seen_now) in
        subst (λ l. IsFound l place (pick a choice (drop 1 (past (seen_of w.known))))) (sym seen_now) (subst (λ l. IsFound j' place (pick a choice l)) before found)

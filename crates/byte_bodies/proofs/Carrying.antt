-- Journals whose bodies are replaced, each on its way.
use Rattle.std.proofs.Common.{◌≡◌, ℕ, ◌+◌, ◌-◌, ◌%◌, zero, suc, Bool, true, false, List, [], ◌∷◌, ◌++◌, length, map, take, filter, refl, sym, ◌∙◌, ap}
use Rattle.std.specs.Prelude.{find, not, nat_eq, slice_get, ◌&&◌, ◌||◌, Option, Some, None, if◌then◌else◌}
use Rattle.std.specs.List.{list_any}
use Rattle.std.proofs.lemmas.List.{length-map}
use Rattle.journal.specs.declared.journal.Actor.{Actor}
use Rattle.journal.specs.declared.journal.JournalEntry.{JournalEntry}
use Rattle.journal.specs.declared.journal.JournalEntry.TheVariants.{Post, Draw, Lose, Local, Idle, Refused}
use Rattle.journal.specs.declared.journal.Letter.{Letter}
use Rattle.journal.specs.declared.journal.Packet.{Packet}
use Rattle.journal.specs.declared.journal.Turn.{Turn}
use Rattle.journal.specs.declared.journal.Turn.TheVariants as turn
use Rattle.journal.specs.Actors.{same_actor, actor_of}
use Rattle.journal.specs.Part.{drawn, packet_of, part}
use Rattle.journal.specs.Pool.{chosen, fitting, letters_posted, numbered_letters, pick, pool, waiting, without}
use Rattle.journal.specs.Turns.{drawn_entry, entry_of, lost_entry}
use Rattle.run_spec.specs.declared.messages.Way.{Way}
use Rattle.run_spec.specs.Legal.{IsTurn}
use Rattle.run_spec.specs.Messages.{way_of}

-- ---- lists that are made one of another

pub map_joined : {X Y : Type 0} (f : X → Y) (xs ys : List X) → map f (xs ++ ys) ≡ map f xs ++ map f ys
map_joined f [] ys = refl
map_joined {Y = Y} f (x ∷ xs) ys = ap (λ (l : List Y). f x ∷ l) (map_joined f xs ys)

map_take : {X Y : Type 0} (f : X → Y) (n : ℕ) (xs : List X) → take n (map f xs) ≡ map f (take n xs)
map_take f zero xs = refl
map_take f (suc n) [] = refl
map_take {Y = Y} f (suc n) (x ∷ xs) = ap (λ (l : List Y). f x ∷ l) (map_take f n xs)

pub map_same : {X Y : Type 0} (f g : X → Y) → ((x : X) → f x ≡ g x) → (xs : List X) → map f xs ≡ map g xs
map_same f g same [] = refl
map_same {Y = Y} f g same (x ∷ xs) = ap (λ (y : Y). y ∷ map f xs) (same x) ∙ ap (λ (l : List Y). g x ∷ l) (map_same f g same xs)

chosen_both : {X Y : Type 0} (f : X → Y) (b : Bool) (x : X) (xs : List X) (ys : List Y) → ys ≡ map f xs → (if b then f x ∷ ys else ys) ≡ map f (if b then x ∷ xs else xs)
chosen_both {Y = Y} f true x xs ys same = ap (λ (l : List Y). f x ∷ l) same
chosen_both f false x xs ys same = same

-- those that pass a test that does not look at what is changed
map_filter : {X Y : Type 0} (f : X → Y) (test : Y → Bool) (xs : List X) → filter test (map f xs) ≡ map f (filter (λ x. test (f x)) xs)
map_filter f test [] = refl
map_filter f test (x ∷ xs) = chosen_both f (test (f x)) x (filter (λ y. test (f y)) xs) (filter test (map f xs)) (map_filter f test xs)

abbrev pub map_option : {X Y : Type 0} → (X → Y) → Option X → Option Y
map_option f None = None
map_option f (Some x) = Some (f x)

found_both : {X Y : Type 0} (f : X → Y) (b : Bool) (x : X) (o : Option X) (p : Option Y) → p ≡ map_option f o → (if b then Some (f x) else p) ≡ map_option f (if b then Some x else o)
found_both f true x o p same = refl
found_both f false x o p same = same

map_find : {X Y : Type 0} (f : X → Y) (test : Y → Bool) (xs : List X) → find test (map f xs) ≡ map_option f (find (λ x. test (f x)) xs)
map_find f test [] = refl
map_find f test (x ∷ xs) = found_both f (test (f x)) x (find (λ y. test (f y)) xs) (find test (map f xs)) (map_find f test xs)

map_get : {X Y : Type 0} (f : X → Y) (xs : List X) (i : ℕ) → slice_get (map f xs) i ≡ map_option f (slice_get xs i)
map_get f [] i = refl
map_get f (x ∷ xs) zero = refl
map_get f (x ∷ xs) (suc i) = map_get f xs i

map_any : {X Y : Type 0} (f : X → Y) (test : Y → Bool) (xs : List X) → list_any test (map f xs) ≡ list_any (λ x. test (f x)) xs
map_any f test [] = refl
map_any f test (x ∷ xs) = ap (λ (b : Bool). test (f x) || b) (map_any f test xs)

module _ {B C : Type 0} (carry : Way → B → C) where
  -- a body is replaced on its way from a sender to a receiver
  abbrev pub carried_letter : Actor → Letter B → Letter C
  carried_letter a l = record { to = l.to; body = carry (way_of a l.to) l.body }

  abbrev pub carried_letters : Actor → List (Letter B) → List (Letter C)
  carried_letters a letters = map (λ l. carried_letter a l) letters

  abbrev pub carried_packet : Packet B → Packet C
  carried_packet p = record { id = p.id; from = p.from; to = p.to; body = carry (way_of p.from p.to) p.body }

  abbrev pub carried_found : Option (Packet B) → Option (Packet C)
  carried_found o = map_option (λ p. carried_packet p) o

  abbrev pub carried_entry : JournalEntry B → JournalEntry C
  carried_entry (Post a first letters lost) = Post a first (carried_letters a letters) lost
  carried_entry (Draw a id keep) = Draw a id keep
  carried_entry (Lose a id) = Lose a id
  carried_entry (Local a input) = Local a input
  carried_entry (Idle a) = Idle a
  carried_entry (Refused a) = Refused a

  abbrev pub carried : List (JournalEntry B) → List (JournalEntry C)
  carried entries = map (λ e. carried_entry e) entries

  abbrev pub carried_step : JournalEntry B × Option (Packet B) → JournalEntry C × Option (Packet C)
  carried_step step = (carried_entry step.0, carried_found step.1)

  abbrev pub carried_part : List (JournalEntry B × Option (Packet B)) → List (JournalEntry C × Option (Packet C))
  carried_part steps = map (λ s. carried_step s) steps

  pub same_actors : (e : JournalEntry B) → actor_of (carried_entry e) ≡ actor_of e
  same_actors (Post a first letters lost) = refl
  same_actors (Draw a id keep) = refl
  same_actors (Lose a id) = refl
  same_actors (Local a input) = refl
  same_actors (Idle a) = refl
  same_actors (Refused a) = refl

  -- what waits
  numbered_carried : (first : ℕ) (a : Actor) (letters : List (Letter B)) → numbered_letters first a (carried_letters a letters) ≡ map (λ p. carried_packet p) (numbered_letters first a letters)
  numbered_carried first a [] = refl
  numbered_carried first a (l ∷ letters) =
      ap (λ (ps : List (Packet C)). record { id = first; from = a; to = l.to; body = carry (way_of a l.to) l.body } ∷ ps) (numbered_carried (first + 1) a letters)

  fitting_carried : (first : ℕ) (a : Actor) (letters : List (Letter B)) (lost : ℕ) → fitting first a (carried_letters a letters) lost ≡ map (λ p. carried_packet p) (fitting first a letters lost)
  fitting_carried first a letters lost =
      ap (λ (n : ℕ). take (n - lost) (numbered_letters first a (carried_letters a letters))) (length-map letters (λ l. carried_letter a l))
      ∙ ap (λ (ps : List (Packet C)). take (length letters - lost) ps) (numbered_carried first a letters)
      ∙ map_take (λ p. carried_packet p) (length letters - lost) (numbered_letters first a letters)

  without_carried : (id : ℕ) (ps : List (Packet B)) → without id (map (λ p. carried_packet p) ps) ≡ map (λ p. carried_packet p) (without id ps)
  without_carried id ps = map_filter (λ p. carried_packet p) (λ p. not (nat_eq p.id id)) ps

  kept_carried : (keep : Bool) (id : ℕ) (ps : List (Packet B)) (qs : List (Packet C)) → qs ≡ map (λ p. carried_packet p) ps →
      (if keep then qs else without id qs) ≡ map (λ p. carried_packet p) (if keep then ps else without id ps)
  kept_carried true id ps qs same = same
  kept_carried false id ps qs same = ap (λ (l : List (Packet C)). without id l) same ∙ without_carried id ps

  pub pool_carried : (entries : List (JournalEntry B)) → pool (carried entries) ≡ map (λ p. carried_packet p) (pool entries)
  pool_carried [] = refl
  pool_carried (Post a first letters lost ∷ before) =
      ap (λ (ps : List (Packet C)). ps ++ fitting first a (carried_letters a letters) lost) (pool_carried before)
      ∙ ap (λ (ps : List (Packet C)). map (λ p. carried_packet p) (pool before) ++ ps) (fitting_carried first a letters lost)
      ∙ sym (map_joined (λ p. carried_packet p) (pool before) (fitting first a letters lost))
  pool_carried (Draw a id keep ∷ before) = kept_carried keep id (pool before) (pool (carried before)) (pool_carried before)
  pool_carried (Lose a id ∷ before) = kept_carried false id (pool before) (pool (carried before)) (pool_carried before)
  pool_carried (Local a input ∷ before) = pool_carried before
  pool_carried (Idle a ∷ before) = pool_carried before
  pool_carried (Refused a ∷ before) = pool_carried before

  pub waiting_carried : (a : Actor) (entries : List (JournalEntry B)) → waiting a (pool (carried entries)) ≡ map (λ p. carried_packet p) (waiting a (pool entries))
  waiting_carried a entries = ap (λ (ps : List (Packet C)). waiting a ps) (pool_carried entries) ∙ map_filter (λ p. carried_packet p) (λ p. same_actor p.to a) (pool entries)

  pub any_carried : (a : Actor) (id : ℕ) (entries : List (JournalEntry B)) →
      list_any (λ (p : Packet C). nat_eq p.id id && same_actor p.to a) (pool (carried entries)) ≡ list_any (λ (p : Packet B). nat_eq p.id id && same_actor p.to a) (pool entries)
  any_carried a id entries =
      ap (λ (ps : List (Packet C)). list_any (λ (p : Packet C). nat_eq p.id id && same_actor p.to a) ps) (pool_carried entries)
      ∙ map_any (λ p. carried_packet p) (λ p. nat_eq p.id id && same_actor p.to a) (pool entries)

  pub posted_carried : (entries : List (JournalEntry B)) → letters_posted (carried entries) ≡ letters_posted entries
  posted_carried [] = refl
  posted_carried (Post a first letters lost ∷ before) = rw (posted_carried before, length-map letters (λ l. carried_letter a l)) refl
  posted_carried (Draw a id keep ∷ before) = posted_carried before
  posted_carried (Lose a id ∷ before) = posted_carried before
  posted_carried (Local a input ∷ before) = posted_carried before
  posted_carried (Idle a ∷ before) = posted_carried before
  posted_carried (Refused a ∷ before) = posted_carried before

  -- what an actor has done
  packet_carried : (id : ℕ) (before : List (JournalEntry B)) → packet_of id (pool (carried before)) ≡ carried_found (packet_of id (pool before))
  packet_carried id before = ap (λ (ps : List (Packet C)). packet_of id ps) (pool_carried before) ∙ map_find (λ p. carried_packet p) (λ p. nat_eq p.id id) (pool before)

  pub drawn_carried : (e : JournalEntry B) (before : List (JournalEntry B)) → drawn (carried_entry e) (carried before) ≡ carried_found (drawn e before)
  drawn_carried (Post a first letters lost) before = refl
  drawn_carried (Draw a id keep) before = packet_carried id before
  drawn_carried (Lose a id) before = refl
  drawn_carried (Local a input) before = refl
  drawn_carried (Idle a) before = refl
  drawn_carried (Refused a) before = refl

  step_carried : (b : Bool) (e : JournalEntry B) (o : Option (Packet B)) (o' : Option (Packet C)) (steps : List (JournalEntry B × Option (Packet B))) (steps' : List (JournalEntry C × Option (Packet C))) →
      o' ≡ carried_found o → steps' ≡ carried_part steps → (if b then (carried_entry e, o') ∷ steps' else steps') ≡ carried_part (if b then (e, o) ∷ steps else steps)
  step_carried true e o o' steps steps' found same =
      ap (λ (x : Option (Packet C)). (carried_entry e, x) ∷ steps') found ∙ ap (λ (l : List (JournalEntry C × Option (Packet C))). (carried_entry e, carried_found o) ∷ l) same
  step_carried false e o o' steps steps' found same = same

  pub part_carried : (a : Actor) (entries : List (JournalEntry B)) → part a (carried entries) ≡ carried_part (part a entries)
  part_carried a [] = refl
  part_carried a (e ∷ before) =
      ap (λ (x : Actor). if same_actor x a then (carried_entry e, drawn (carried_entry e) (carried before)) ∷ part a (carried before) else part a (carried before)) (same_actors e)
      ∙ step_carried (same_actor (actor_of e) a) e (drawn e before) (drawn (carried_entry e) (carried before)) (part a before) (part a (carried before)) (drawn_carried e before) (part_carried a before)

  -- the entry of a turn
  pick_carried : (a : Actor) (choice : ℕ) (entries : List (JournalEntry B)) → pick a choice (carried entries) ≡ carried_found (pick a choice entries)
  pick_carried a choice entries =
      ap (λ (ps : List (Packet C)). chosen choice ps) (waiting_carried a entries)
      ∙ ap (λ (n : ℕ). slice_get (map (λ p. carried_packet p) (waiting a (pool entries))) (choice % n)) (length-map (waiting a (pool entries)) (λ p. carried_packet p))
      ∙ map_get (λ p. carried_packet p) (waiting a (pool entries)) (choice % length (waiting a (pool entries)))

  draw_carried : (a : Actor) (keep : Bool) (o : Option (Packet B)) → drawn_entry a keep (carried_found o) ≡ carried_entry (drawn_entry a keep o)
  draw_carried a keep None = refl
  draw_carried a keep (Some p) = refl

  lose_carried : (a : Actor) (o : Option (Packet B)) → lost_entry a (carried_found o) ≡ carried_entry (lost_entry a o)
  lose_carried a None = refl
  lose_carried a (Some p) = refl

  pub turn_carried : (t : Turn) (entries : List (JournalEntry B)) → entry_of t (carried entries) ≡ carried_entry (entry_of t entries)
  turn_carried (turn.Draw a choice keep) entries = ap (λ (o : Option (Packet C)). drawn_entry a keep o) (pick_carried a choice entries) ∙ draw_carried a keep (pick a choice entries)
  turn_carried (turn.Lose a choice) entries = ap (λ (o : Option (Packet C)). lost_entry a o) (pick_carried a choice entries) ∙ lose_carried a (pick a choice entries)
  turn_carried (turn.Local a input) entries = refl

  -- whether the newest entry took an input
  pub input_carried : (steps : List (JournalEntry B × Option (Packet B))) → IsTurn steps → IsTurn (carried_part steps)
  input_carried [] h = h
  input_carried ((Post a first letters lost, o) ∷ before) h = h
  input_carried ((Draw a id keep, o) ∷ before) h = h
  input_carried ((Lose a id, o) ∷ before) h = h
  input_carried ((Local a input, o) ∷ before) h = h
  input_carried ((Idle a, o) ∷ before) h = h
  input_carried ((Refused a, o) ∷ before) h = h

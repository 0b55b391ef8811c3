-- What a turn of a world leads a closing to, however it ended, and parts of a closing one after another.
use Rattle.std.proofs.Common.{◌≡◌, ◌≤◌, ◌<◌, inl, inr, ℕ, ◌+◌, ◌-◌, Bool, true, false, not, List, [], ◌∷◌, ◌++◌, length, take, zero, suc, refl, sym, ◌∙◌, ap, subst, arith, length-append, append_assoc, append-nil}
use Rattle.std.specs.Prelude.{nat_eq, filter, reverse, Option, Some, None, OnOk, IfErr, Result, Ok, Err, if◌then◌else◌}
use Rattle.std.proofs.lemmas.Bool.{eq-eqb}
use Rattle.of_types.specs.declared.setup.Setup.{Setup}
use Rattle.journal.specs.declared.journal.Actor.{Actor}
use Rattle.journal.specs.declared.journal.JournalEntry.{JournalEntry}
use Rattle.journal.specs.declared.journal.JournalEntry.TheVariants.{Refused}
use Rattle.journal.specs.declared.journal.Letter.{Letter}
use Rattle.journal.specs.declared.journal.Packet.{Packet}
use Rattle.journal.specs.declared.journal.SaveResult.{SaveResult}
use Rattle.journal.specs.declared.journal.Turn.{Turn}
use Rattle.journal.specs.declared.journal.Turn.TheVariants as turn
use Rattle.journal.specs.declared.place.PacketPlace.{PacketPlace}
use Rattle.journal.specs.declared.wire.Stop.{Stop}
use Rattle.journal.specs.declared.wire.Stop.TheVariants.{OutOfMemory, JournalFull}
use Rattle.journal.specs.Actors.{actor_of, is_input, IsActor}
use Rattle.journal.specs.Limits.{letters_limit}
use Rattle.journal.specs.Pool.{past, pick, pool, without, numbered_letters, fitting, letters_posted}
use Rattle.journal.specs.Refusals.{MayBeRefused}
use Rattle.journal.specs.Turns.{drawn_entry, entry_of, lost_entry, turn_actor}
use Rattle.journal.proofs.Lists.{past-push}
use Rattle.journal.specs.Stables.{Saving}
use Rattle.app_core.specs.Law.{AppLaw}
use Rattle.run_spec.specs.States.{Scene, Sealing}
use Rattle.run_spec.specs.Closing.{Losing, Phase, ClosesTo, IsMove, after_move, next_move}
use Rattle.world.specs.Debts.{Debt}
use Rattle.world.specs.Refusals.{IsHalted, IsRefusalBehind, IsRefused, None_stands, One_stands, Posted, Turned_down, TurnStops, Unchanged, Unposted}
use Rattle.world.specs.World.{AreMore, Applies, Holds, IsStuck, Keeps, PairsStand, Worlding, results_in, scene_in, taken, with_posts}
use Rattle.world.proofs.Growing.{more_then}
use Rattle.run_laws.specs.Laws.{EntrySuspectsUpTo, IsSuspectedUpTo}
use Rattle.closing.specs.Closing.{ClosesIn, IsHaltedAt, LeadsTo, SuspectsNoMore, Stage, ClosingStandsAt, work_left}
use Rattle.closing.specs.Views.{StepSuspectsUpTo}
use Rattle.closing.proofs.Worlds.{Runs, posted_is}
use Rattle.closing.proofs.Turned.{PostsOf, No_post, One_post, Added, added, added_alone, cut_turn, joins, more_before, Turned, more_told, one_move, owed_nothing, past_added, past_joined, same_self}
use Rattle.closing.proofs.Moves.{First}

-- something is owed
abbrev IsOwing : {X : Type 0} → Option X → Type 0
IsOwing None = ⊥
IsOwing (Some x) = Unit {0}

-- the scene of a world whose setup is another's
pub runs_again : {B A : Type 0} (law : AppLaw A) (sealing : Sealing B) (old new : Worlding B A) (kinds : List ℕ) → new.setup ≡ old.setup → Holds law sealing new kinds →
    Runs law (scene_in sealing old kinds) new
runs_again law sealing old new kinds same holds = subst (λ (s : Setup). Runs law (record { setup = s; kinds = kinds; sealing = sealing }) new) same holds.run

-- the next move of a closing that stands at a phase, whatever becomes of later saves
pub record MovesTo {B A : Type 0} (scene : Scene B) (e : JournalEntry B) (start old : Worlding B A) : Type 0 where
  pub phase : Phase
  pub next : Phase
  pub closes : ClosesIn phase scene start old
  pub move : (later : List (List SaveResult)) → AreMore scene.setup.controllers (results_in old.controllers) later → IsMove (next_move scene later phase (past old.journal)) e next

-- a closing that stands at a phase may be halted there
pub halted_in : {B A : Type 0} (scene : Scene B) (start now : Worlding B A) (phase : Phase) → ClosesIn phase scene start now → IsHaltedAt scene start now
halted_in scene start now phase c = record {
  entries = c.entries;
  refusal = [];
  joined = c.joined ∙ sym (append-nil (start.journal ++ c.entries));
  refused = None_stands;
  begins = λ later more. (phase, c.steps later more);
}

-- where nothing is owed, a post changes nothing
posts_nothing : {B A : Type 0} (size : B → ℕ) (w : Worlding B A) → w.owed ≡ None → with_posts size w ≡ w
posts_nothing size w rests = ap (λ l. record w { journal = l; owed = None }) (owed_nothing size w rests) ∙ ap (λ o. record w { owed = o }) (sym rests)

module _ {B A W : Type 0} (law : AppLaw A) (saving : Saving W) (sealing : Sealing B)
    (old : Worlding B A) (stables : List W) (new : Worlding B A) (stables_after : List W) (step : Turn) (e : JournalEntry B)
    (rested : old.owed ≡ None) (pairs : PairsStand saving stables old.controllers)
    (is : entry_of step (past old.journal) ≡ e) (mine : turn_actor step ≡ actor_of e) (named : IsActor old.setup (actor_of e)) (input : is_input e ≡ true) where
  pub turned_by : (kinds : List ℕ) → Holds law sealing old kinds → Keeps law saving sealing old stables new stables_after → Added step old new → Turned law (scene_in sealing old kinds) e old new
  turned_by kinds holds k a = record {
    was = holds.run;
    is = runs_again law sealing old new kinds k.setup (k.holds kinds holds);
    more = more_told law (scene_in sealing old kinds) saving old new stables stables_after holds.run pairs k.told;
    rested = rested;
    named = named;
    input = input;
    posts = a.posts;
    grown = a.grown ∙ ap (λ x. old.journal ++ x ∷ a.posts) is;
    of = subst (λ x. PostsOf x a.posts) mine a.of;
  }

  -- a turn that was taken
  pub turned : (kinds : List ℕ) → Holds law sealing old kinds → Keeps law saving sealing old stables new stables_after → Applies sealing.size step old new →
      Turned law (scene_in sealing old kinds) e old new
  turned kinds holds k t = turned_by kinds holds k (added sealing.size step old new rested t)

  -- a closing at a stage makes this turn its next move
  abbrev pub Moves : Stage B A → Type 0
  Moves first = (kinds : List ℕ) → Holds law sealing old kinds → (start : Worlding B A) → first (scene_in sealing old kinds) start old → MovesTo (scene_in sealing old kinds) e start old

  -- a turn that was cut short
  cut : (kinds : List ℕ) → Turned law (scene_in sealing old kinds) e old new → (start : Worlding B A) (m : MovesTo (scene_in sealing old kinds) e start old) →
      ClosesIn (after_move (scene_in sealing old kinds) (results_in new.controllers) e (past old.journal) m.next) (scene_in sealing old kinds) start new
  cut kinds turn start m =
      let scene = scene_in sealing old kinds in
      cut_turn law scene e old new turn m.phase m.next start m.closes (λ later more. m.move later (more_before law scene e old new turn later more))

  never_stuck : (bytes letters : ℕ) → IsStuck sealing.size new bytes letters → new ≡ old → ⊥
  never_stuck bytes letters stuck same = subst (λ o. IsOwing o) (ap (λ w. w.owed) same ∙ rested) (by_owed new.owed refl)
    where
      by_owed : (o : Option (Debt B)) → new.owed ≡ o → IsOwing o
      by_owed None is = absurd (rw is at stuck)
      by_owed (Some d) is = tt

  -- the entry of the turn
  pub taken_is : taken step (with_posts sealing.size old).journal ≡ old.journal ++ e ∷ []
  taken_is = ap (λ l. taken step l) (owed_nothing sealing.size old rested) ∙ ap (λ x. old.journal ++ x ∷ []) is

  -- a turn whose input was refused
  module _ (kinds : List ℕ) (holds : Holds law sealing old kinds) (k : Keeps law saving sealing old stables new stables_after) (start : Worlding B A) (m : MovesTo (scene_in sealing old kinds) e start old)
      (r : IsRefused step (with_posts sealing.size old) new) where
    abbrev scene : Scene B
    scene = scene_in sealing old kinds

    abbrev moved : List (JournalEntry B)
    moved = m.closes.entries ++ e ∷ []

    behind : old.journal ++ e ∷ [] ≡ start.journal ++ moved
    behind = ap (λ l. l ++ e ∷ []) m.closes.joined ∙ append_assoc start.journal m.closes.entries (e ∷ [])

    refusal_is : IsRefusalBehind (e ∷ past old.journal) (Refused (actor_of e) ∷ [])
    refusal_is = One_stands (actor_of e) (subst (λ (l : List (JournalEntry B)). MayBeRefused l) (ap past taken_is ∙ past-push old.journal e) r.input) (input, same_self scene [] (actor_of e))

    before : (later : List (List SaveResult)) → AreMore scene.setup.controllers (results_in new.controllers) later → AreMore scene.setup.controllers (results_in old.controllers) later
    before later more =
        more_then scene.setup.controllers (results_in old.controllers) (results_in new.controllers) later
        (more_told law scene saving old new stables stables_after holds.run pairs k.told) more

    halted_down : IsHaltedAt scene start new
    halted_down = record {
      entries = moved;
      refusal = Refused (actor_of e) ∷ [];
      joined = r.journal ∙ ap (λ l. l ++ Refused (turn_actor step) ∷ []) (taken_is ∙ behind) ∙ ap (λ a. (start.journal ++ moved) ++ Refused a ∷ []) mine;
      refused = subst (λ (l : List (JournalEntry B)). IsRefusalBehind l (Refused (actor_of e) ∷ [])) (sym (past-push old.journal e) ∙ ap past behind) refusal_is;
      begins = λ later more.
          let was = before later more in (
            after_move scene later e (past old.journal) m.next,
            joins scene later Losing m.phase (after_move scene later e (past old.journal) m.next) (past start.journal) m.closes.entries (e ∷ []) (m.closes.steps later was)
                (subst (λ l. ClosesTo scene later m.phase l (e ∷ []) (after_move scene later e (past old.journal) m.next)) (ap past m.closes.joined ∙ past_joined start.journal m.closes.entries)
                (one_move scene later m.phase m.next (past old.journal) e [] input (posted_is law scene old holds.run later was rested) (m.move later was) No_post)),
          );
    }

  -- or that found no memory, however that ended
  halts : (kinds : List ℕ) → Holds law sealing old kinds → Keeps law saving sealing old stables new stables_after → (start : Worlding B A) → MovesTo (scene_in sealing old kinds) e start old →
      IsHalted sealing.size step old new → IsHaltedAt (scene_in sealing old kinds) start new
  halts kinds holds k start m (Unchanged same) = subst (λ w. IsHaltedAt (scene_in sealing old kinds) start w) (sym same) (halted_in (scene_in sealing old kinds) start old m.phase m.closes)
  halts kinds holds k start m (Posted same) =
      subst (λ w. IsHaltedAt (scene_in sealing old kinds) start w) (sym (same ∙ posts_nothing sealing.size old rested)) (halted_in (scene_in sealing old kinds) start old m.phase m.closes)
  halts kinds holds k start m (Turned_down r) = halted_down kinds holds k start m r
  halts kinds holds k start m (Unposted u) =
      let scene = scene_in sealing old kinds in
      halted_in scene start new (after_move scene (results_in new.controllers) e (past old.journal) m.next)
      (cut kinds (turned_by kinds holds k (added_alone sealing.size step old new rested u.journal)) start m)

  pub stop_leads : {T : Type 0} (first : Stage B A) (next : T → Stage B A) → Moves first → (stop : Stop) → Keeps law saving sealing old stables new stables_after →
      TurnStops sealing.size step old new stop → LeadsTo law sealing first (ClosingStandsAt next (Err stop)) old new
  stop_leads first next moves OutOfMemory k stops kinds holds start c = halts kinds holds k start (moves kinds holds start c) stops
  stop_leads first next moves (JournalFull bytes letters) k (stuck, inl same) kinds holds start c = absurd (never_stuck bytes letters stuck same)
  stop_leads first next moves (JournalFull bytes letters) k (stuck, inr grown) kinds holds start c =
      let m = moves kinds holds start c in
      record {
        phase = after_move (scene_in sealing old kinds) (results_in new.controllers) e (past old.journal) m.next;
        closes = cut kinds (turned_by kinds holds k (added_alone sealing.size step old new rested grown)) start m;
        stuck = stuck;
      }

  -- both
  pub turn_leads : {T : Type 0} (first : Stage B A) (next : T → Stage B A) → Moves first →
      ((x : T) (kinds : List ℕ) → Turned law (scene_in sealing old kinds) e old new → (start : Worlding B A) → first (scene_in sealing old kinds) start old → next x (scene_in sealing old kinds) start new) →
      (result : Result T Stop) → OnOk result (Applies sealing.size step old new) → Keeps law saving sealing old stables new stables_after →
      IfErr result (λ stop. TurnStops sealing.size step old new stop) → LeadsTo law sealing first (ClosingStandsAt next result) old new
  turn_leads first next moves goes (Ok x) t k stops kinds holds start c = goes x kinds (turned kinds holds k t) start c
  turn_leads first next moves goes (Err stop) t k stops kinds holds start c = stop_leads first next moves stop k stops kinds holds start c

-- an entry of a turn suspects what the turn does
pub step_suspects : {B : Type 0} (most : ℕ) (step : Turn) (before : List (JournalEntry B)) → StepSuspectsUpTo most step → EntrySuspectsUpTo most (entry_of step before)
step_suspects {B = B} most (turn.Draw a choice keep) before within = by_found (pick a choice before)
  where
    by_found : (o : Option (Packet B)) → EntrySuspectsUpTo most (drawn_entry a keep o)
    by_found None = tt
    by_found (Some p) = tt
step_suspects {B = B} most (turn.Lose a choice) before within = by_found (pick a choice before)
  where
    by_found : (o : Option (Packet B)) → EntrySuspectsUpTo most (lost_entry a o)
    by_found None = tt
    by_found (Some p) = tt
step_suspects most (turn.Local a input) before within = within

-- however a turn ends, no view above those of before, and above that of the turn, was suspected
module _ {B A : Type 0} (size : B → ℕ) (step : Turn) (old new : Worlding B A) (limit : ℕ) (rested : old.owed ≡ None) (suspects : (most : ℕ) → limit ≤ most → StepSuspectsUpTo most step) where
  posted_behind : (most : ℕ) (a : Actor) (posts before : List (JournalEntry B)) (e : JournalEntry B) → PostsOf a posts → EntrySuspectsUpTo most e → IsSuspectedUpTo most before → IsSuspectedUpTo most (reverse posts ++ e ∷ before)
  posted_behind most a _ before e No_post here rest = (here, rest)
  posted_behind most a _ before e (One_post first letters lost) here rest = (tt, (here, rest))

  own : (most : ℕ) → limit ≤ most → EntrySuspectsUpTo most (entry_of step (past old.journal))
  own most low = step_suspects most step (past old.journal) (suspects most low)

  alone : SuspectsNoMore limit old (record old { journal = taken step (with_posts size old).journal })
  alone most low h =
      subst (λ l. IsSuspectedUpTo most (past (taken step l))) (sym (owed_nothing size old rested))
      (subst (λ l. IsSuspectedUpTo most l) (sym (past-push old.journal (entry_of step (past old.journal)))) (own most low, h))

  by_halt : IsHalted size step old new → SuspectsNoMore limit old new
  by_halt (Unchanged same) most low h = subst (λ (w : Worlding B A). IsSuspectedUpTo most (past w.journal)) (sym same) h
  by_halt (Posted same) most low h = subst (λ (w : Worlding B A). IsSuspectedUpTo most (past w.journal)) (sym (same ∙ posts_nothing size old rested)) h
  by_halt (Turned_down r) most low h =
      subst (λ l. IsSuspectedUpTo most (past l)) (sym r.journal)
      (subst (λ l. IsSuspectedUpTo most l) (sym (past-push (taken step (with_posts size old).journal) (Refused (turn_actor step)))) (tt, alone most low h))
  by_halt (Unposted u) most low h = subst (λ l. IsSuspectedUpTo most (past l)) (sym u.journal) (alone most low h)

  by_stop : (stop : Stop) → TurnStops size step old new stop → SuspectsNoMore limit old new
  by_stop OutOfMemory ends most low h = by_halt ends most low h
  by_stop (JournalFull bytes letters) (stuck, inl same) most low h = subst (λ (w : Worlding B A). IsSuspectedUpTo most (past w.journal)) (sym same) h
  by_stop (JournalFull bytes letters) (stuck, inr grown) most low h = subst (λ l. IsSuspectedUpTo most (past l)) (sym grown) (alone most low h)

  pub turn_views : {T : Type 0} (result : Result T Stop) → OnOk result (Applies size step old new) → IfErr result (λ stop. TurnStops size step old new stop) → SuspectsNoMore limit old new
  turn_views (Ok x) t stops most low h =
      let a = added size step old new rested t in
      subst (λ l. IsSuspectedUpTo most l) (sym (past_added old.journal new.journal (entry_of step (past old.journal)) a.posts a.grown))
      (posted_behind most (turn_actor step) a.posts (past old.journal) (entry_of step (past old.journal)) a.of (own most low) h)
  turn_views (Err stop) t stops most low h = by_stop stop stops most low h

-- letters that are posted wait, or not
length-numbered : {B : Type 0} (n : ℕ) (a : Actor) (letters : List (Letter B)) → length (numbered_letters n a letters) ≡ length letters
length-numbered n a [] = refl
length-numbered n a (l ∷ letters) = ap (λ k. suc k) (length-numbered (n + 1) a letters)

take_short : {X : Type 0} (n : ℕ) (xs : List X) → length (take n xs) ≤ length xs
take_short zero xs = omega arith
take_short (suc n) [] = omega arith
take_short (suc n) (x ∷ xs) = omega (arith, take_short n xs)

kept_short : {X : Type 0} (b : Bool) (x : X) (xs ys : List X) → length xs ≤ length ys → length (if b then x ∷ xs else xs) ≤ suc (length ys)
kept_short true x xs ys h = omega arith
kept_short false x xs ys h = omega arith

filter_short : {X : Type 0} (p : X → Bool) (xs : List X) → length (filter p xs) ≤ length xs
filter_short p [] = omega arith
filter_short p (x ∷ xs) = kept_short (p x) x (filter p xs) xs (filter_short p xs)

fitting_few : {B : Type 0} (n : ℕ) (a : Actor) (letters : List (Letter B)) (lost : ℕ) → length (fitting n a letters lost) ≤ length letters
fitting_few n a letters lost = omega (arith, take_short (length letters - lost) (numbered_letters n a letters), length-numbered n a letters)

without_first : {B : Type 0} (p : Packet B) (others : List (Packet B)) → length (without p.id (p ∷ others)) ≤ length others
without_first p others = rw (eq-eqb p.id p.id refl) (filter_short (λ q. not (nat_eq q.id p.id)) others)

post_counts : (limit p k waits fit : ℕ) → fit ≤ k → p + k ≤ limit → (limit - (p + k)) + (waits + fit) ≤ (limit - p) + waits
post_counts limit p k waits fit few within = omega arith

-- a post leaves no more to do
posts_less : {B : Type 0} (a : Actor) (posts before : List (JournalEntry B)) → PostsOf a posts → letters_posted (reverse posts ++ before) ≤ letters_limit → work_left (reverse posts ++ before) ≤ work_left before
posts_less a _ before No_post within = omega arith
posts_less a _ before (One_post first letters lost) within =
    let counts = post_counts letters_limit (letters_posted before) (length letters) (length (pool before)) (length (fitting first a letters lost)) (fitting_few first a letters lost) within in
    let waits = length-append (pool before) (fitting first a letters lost) in
    omega (arith, counts, waits)

-- a turn that takes the first packet out of the pool leaves less
pub takes_less : {B : Type 0} (place : PacketPlace) (e : JournalEntry B) (old new posts : List (JournalEntry B)) (a : Actor) → First place (past old) → PostsOf a posts → new ≡ old ++ e ∷ posts →
    letters_posted (e ∷ past old) ≡ letters_posted (past old) → pool (e ∷ past old) ≡ without place.id (pool (past old)) → letters_posted (past new) ≤ letters_limit →
    work_left (past new) < work_left (past old)
takes_less place e old new posts a f of grown counts pools within =
    let is = past_added old new e posts grown in
    let fewer = without_first f.packet f.others in
    let waits : length (pool (e ∷ past old)) ≡ length (without f.packet.id (f.packet ∷ f.others)) = ap length pools ∙ ap (λ l. length (without place.id l)) f.pool_is ∙ ap (λ i. length (without i (f.packet ∷ f.others))) f.id_is in
    let first = ap length f.pool_is in
    let less = posts_less a posts (e ∷ past old) of (subst (λ l. letters_posted l ≤ letters_limit) is within) in
    let same = ap work_left is in
    omega (arith, fewer, waits, first, less, same, counts)

-- one part of a closing after another
pub leads_then : {B A : Type 0} (law : AppLaw A) (sealing : Sealing B) (first next last : Stage B A) (old mid new : Worlding B A) → mid.setup ≡ old.setup →
    ((kinds : List ℕ) → Holds law sealing old kinds → Holds law sealing mid kinds) → LeadsTo law sealing first next old mid → LeadsTo law sealing next last mid new → LeadsTo law sealing first last old new
leads_then law sealing first next last old mid new same keeps a b kinds holds start c =
    subst (λ (s : Setup). last (record { setup = s; kinds = kinds; sealing = sealing }) start new) same
    (b kinds (keeps kinds holds) start (subst (λ (s : Setup). next (record { setup = s; kinds = kinds; sealing = sealing }) start mid) (sym same) (a kinds holds start c)))

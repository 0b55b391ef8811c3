-- The last attempt of a closing that ends: nothing waits where it begins, and each save in it succeeds.
use Rattle.std.proofs.Common.{◌≡◌, ◌≤◌, ◌<◌, inl, inr, ℕ, zero, suc, ◌/◌, ◌%◌, Bool, true, false, List, [], ◌∷◌, ◌++◌, length, refl, ◌∙◌, ap, subst, arith}
use Rattle.std.specs.Prelude.{nat_lt, reverse, if◌then◌else◌}
use Rattle.std.proofs.lemmas.Bool.{ltb-false}
use Rattle.journal.specs.declared.journal.JournalEntry.{JournalEntry}
use Rattle.journal.specs.declared.journal.JournalEntry.TheVariants.{Post, Draw, Lose, Local, Idle, Refused}
use Rattle.journal.specs.declared.journal.Packet.{Packet}
use Rattle.journal.specs.declared.journal.SaveResult.{SaveResult}
use Rattle.journal.specs.Pool.{pool}
use Rattle.journal.specs.Turns.{IsWithinLimits}
use Rattle.run_spec.specs.States.{Scene}
use Rattle.run_spec.specs.Legal.{IsPossible, results_of}
use Rattle.run_spec.specs.Committed.{count_up, members_up, states_of}
use Rattle.run_spec.specs.Script.{IsPosted}
use Rattle.run_spec.specs.Closing.{Done, NoQuorum, IsEnd, Phase, Losing, Ends, ClosesTo, IsMove, after_move, closing_view, majority, next_lost, next_move, next_suspicion, next_view, quorum_of}
use Rattle.closing_laws.specs.Starts.{IsAttempt}
use Rattle.closing_laws.proofs.Ends.Attempts.{StayUp, Falls, course, succeed}
use Rattle.closing_laws.proofs.Journal.Posting.{later, later_is}
use Rattle.closing_laws.proofs.Journal.Taking.{at}
use Rattle.closing_laws.proofs.Start.Begun.{later_append}

long_append : {A : Type 0} (xs ys : List A) → length ys ≤ length (xs ++ ys)
long_append [] ys = omega arith
long_append (x ∷ xs) ys = let low = long_append xs ys in omega (arith, low)

module _ {B : Type 0} (scene : Scene B) (results : List (List SaveResult)) where
  abbrev Past : Type 0
  Past = List (JournalEntry B)

  pub record LastAttempt (P entries : Past) (last : Phase) : Type 0 where
    pub before : Past
    pub rest : Past
    pub same : later P entries ≡ reverse rest ++ before
    pub attempt : IsAttempt scene results before rest last

  -- where a closing that loses what waits goes on to members, a majority takes part
  pub most_up : (P : Past) (e : JournalEntry B) (next : Phase) → pool P ≡ [] → IsMove (next_move scene results Losing P) e next → majority scene.setup.controllers ≤ count_up scene results P
  most_up P e next none move = by_test (nat_lt (length (members_up (states_of scene results P))) (majority scene.setup.controllers)) refl
      (subst (λ (ps : List (Packet B)). IsMove (next_lost scene.setup.controllers (states_of scene results P) ps) e next) none move)
    where
      by_test : (b : Bool) → nat_lt (length (members_up (states_of scene results P))) (majority scene.setup.controllers) ≡ b → IsMove (next_view scene.setup.controllers (states_of scene results P)) e next →
          majority scene.setup.controllers ≤ count_up scene results P
      by_test false h m = ltb-false (length (members_up (states_of scene results P))) (majority scene.setup.controllers) h
      by_test true h m =
          absurd (subst (λ (b : Bool). IsMove (if b then Ends (NoQuorum (length (members_up (states_of scene results P))) (majority scene.setup.controllers))
          else next_suspicion scene.setup.controllers (closing_view (states_of scene results P) scene.setup.controllers)
          (quorum_of (closing_view (states_of scene results P) scene.setup.controllers % scene.setup.controllers) (scene.setup.controllers / 2) (members_up (states_of scene results P)))
          (quorum_of (closing_view (states_of scene results P) scene.setup.controllers % scene.setup.controllers) (scene.setup.controllers / 2) (members_up (states_of scene results P))) []) e next) h m)

  abbrev n : ℕ
  n = scene.setup.controllers

  abbrev up : Past → ℕ
  up P = length (members_up (states_of scene results P))

  -- so where it ends there
  end_up : (P : Past) (primary : ℕ) → IsEnd (next_move scene results Losing P) (Done primary) → (pool P ≡ []) × (majority n ≤ count_up scene results P)
  end_up P primary h = by_pool (pool P) refl h
    where
      by_test : (b : Bool) → nat_lt (up P) (majority n) ≡ b → IsEnd {B = B} (next_view n (states_of scene results P)) (Done primary) → majority n ≤ count_up scene results P
      by_test false e h = ltb-false (up P) (majority n) e
      by_test true e h =
          let view : ℕ = closing_view (states_of scene results P) n in
          let quorum : List ℕ = quorum_of (view % n) (n / 2) (members_up (states_of scene results P)) in
          let no_way : Done primary ≡ NoQuorum (up P) (majority n) =
          subst (λ (b : Bool). IsEnd {B = B} (if b then Ends (NoQuorum (up P) (majority n)) else next_suspicion n view quorum quorum []) (Done primary)) e h in
          absurd cc

      by_pool : (ps : List (Packet B)) → pool P ≡ ps → IsEnd {B = B} (next_lost n (states_of scene results P) ps) (Done primary) → (pool P ≡ []) × (majority n ≤ count_up scene results P)
      by_pool [] is e = (is, by_test (nat_lt (up P) (majority n)) refl e)
      by_pool (p ∷ ps) is e = absurd e

  module _ (last : Phase) (primary : ℕ) where
    -- what is known of a closing from a past on
    pub record Goes (P entries : Past) : Type 0 where
      pub closes : ClosesTo scene results Losing P entries last
      pub possible : IsPossible scene results (later P entries)
      pub posted : IsPosted scene results (later P entries)
      pub within : IsWithinLimits scene.sealing.size (later P entries)
      pub ends : IsEnd (next_move scene results last (later P entries)) (Done primary)
      pub exact : (c : ℕ) → c < scene.setup.controllers → length (results_of results c) ≤ (at scene results c (later P entries)).saves

    attempts : (P entries : Past) → Goes P entries → IsPosted scene results P → pool P ≡ [] → majority n ≤ count_up scene results P → StayUp scene results P entries → LastAttempt P entries last
    attempts P entries g rests empty most ups = record {
      before = P;
      rest = entries;
      same = later_is P entries;
      attempt = record {
        possible = subst (λ (l : Past). IsPossible scene results l) (later_is P entries) g.possible;
        rests = rests;
        empty = empty;
        most = most;
        closes = g.closes;
        posted = subst (λ (l : Past). IsPosted scene results l) (later_is P entries) g.posted;
        saves = succeed scene results entries P Losing last g.closes ups g.exact;
        within = subst (λ (l : Past). IsWithinLimits scene.sealing.size l) (later_is P entries) g.within;
      };
    }

    -- behind one entry
    behind_one : (P : Past) (e : JournalEntry B) (rest : Past) → Goes P (e ∷ rest) → ClosesTo scene results Losing (e ∷ P) rest last → Goes (e ∷ P) rest
    behind_one P e rest g closes = record { closes = closes; possible = g.possible; posted = g.posted; within = g.within; ends = g.ends; exact = g.exact }

    -- behind a fall
    behind_fall : (P entries : Past) → Goes P entries → (f : Falls scene results P entries last) → Goes (later (f.first ∷ P) f.front) f.rest × (later P entries ≡ later (later (f.first ∷ P) f.front) f.rest)
    behind_fall P entries g f =
        let same : later P entries ≡ later (later (f.first ∷ P) f.front) f.rest = ap (later P) f.joined ∙ later_append (f.first ∷ P) f.front f.rest in (
          record {
            closes = f.again;
            possible = subst (λ (l : Past). IsPossible scene results l) same g.possible;
            posted = subst (λ (l : Past). IsPosted scene results l) same g.posted;
            within = subst (λ (l : Past). IsWithinLimits scene.sealing.size l) same g.within;
            ends = subst (λ (l : Past). IsEnd (next_move scene results last l) (Done primary)) same g.ends;
            exact = λ c there. subst (λ (l : Past). length (results_of results c) ≤ (at scene results c l).saves) same (g.exact c there);
          },
          same,
        )

    shorter : (P entries : Past) (f : Falls scene results P entries last) → length f.rest < length entries
    shorter P entries f = let low = long_append f.front f.rest in let all = ap (λ (l : Past). length l) f.joined in omega (arith, low, all)

    of_later : (P Q entries rest : Past) → later P entries ≡ later Q rest → LastAttempt Q rest last → LastAttempt P entries last
    of_later P Q entries rest same a = record { before = a.before; rest = a.rest; same = same ∙ a.same; attempt = a.attempt }

    pub last_attempt : (fuel : ℕ) (P entries : Past) → length entries ≤ fuel → Goes P entries → LastAttempt P entries last
    last_attempt fuel P [] less g =
        let still = subst (λ (f : Phase). IsEnd (next_move scene results f P) (Done primary)) g.closes g.ends in
        let e = end_up P primary still in
        attempts P [] g g.posted e.0 e.1 tt
    last_attempt zero P (e ∷ rest) less g = absurd (omega (arith, less))
    last_attempt (suc fuel) P (e ∷ rest) less g = by_entry e rest (omega (arith, less)) g (last_attempt fuel)
      where
        by_pool : (e : JournalEntry B) (rest : Past) → length rest ≤ fuel → Goes P (e ∷ rest) → IsPosted scene results P → (next : Phase) → IsMove (next_move scene results Losing P) e next →
            ClosesTo scene results (after_move scene results e P next) (e ∷ P) rest last → ((Q more : Past) → length more ≤ fuel → Goes Q more → LastAttempt Q more last) →
            (ps : List (Packet B)) → pool P ≡ ps → LastAttempt P (e ∷ rest) last
        by_pool e rest few g posted next move closes again [] none =
            elim (course scene results (e ∷ rest) P Losing last g.closes) [
              | inl ups ↦ attempts P (e ∷ rest) g posted none (most_up P e next none move) ups
              | inr f ↦
                  let b = behind_fall P (e ∷ rest) g f in
                  let short = shorter P (e ∷ rest) f in
                  of_later P (later (f.first ∷ P) f.front) (e ∷ rest) f.rest b.1 (again (later (f.first ∷ P) f.front) f.rest (omega (arith, short, few)) b.0)
            ]
        by_pool e rest few g posted next move closes again (p ∷ ps) some =
            let m = subst (λ (qs : List (Packet B)). IsMove (next_lost n (states_of scene results P) qs) e next) some move in
            let losing : after_move scene results e P next ≡ Losing = ap (λ (x : JournalEntry B). after_move scene results x P next) m.0 ∙ m.1 in
            of_later P (e ∷ P) (e ∷ rest) rest refl (again (e ∷ P) rest few (behind_one P e rest g (subst (λ (f : Phase). ClosesTo scene results f (e ∷ P) rest last) losing closes)))

        by_entry : (e : JournalEntry B) (rest : Past) → length rest ≤ fuel → Goes P (e ∷ rest) → ((Q more : Past) → length more ≤ fuel → Goes Q more → LastAttempt Q more last) → LastAttempt P (e ∷ rest) last
        by_entry (Post a first letters lost) rest few g again =
            of_later P (Post a first letters lost ∷ P) (Post a first letters lost ∷ rest) rest refl (again (Post a first letters lost ∷ P) rest few (behind_one P (Post a first letters lost) rest g g.closes.1))
        by_entry (Draw a packet keep) rest few g again = by_pool (Draw a packet keep) rest few g g.closes.0 g.closes.1.0 g.closes.1.1 g.closes.1.2 again (pool P) refl
        by_entry (Lose a packet) rest few g again = by_pool (Lose a packet) rest few g g.closes.0 g.closes.1.0 g.closes.1.1 g.closes.1.2 again (pool P) refl
        by_entry (Local a input) rest few g again = by_pool (Local a input) rest few g g.closes.0 g.closes.1.0 g.closes.1.1 g.closes.1.2 again (pool P) refl
        by_entry (Idle a) rest few g again = by_pool (Idle a) rest few g g.closes.0 g.closes.1.0 g.closes.1.1 g.closes.1.2 again (pool P) refl
        by_entry (Refused a) rest few g again = by_pool (Refused a) rest few g g.closes.0 g.closes.1.0 g.closes.1.1 g.closes.1.2 again (pool P) refl

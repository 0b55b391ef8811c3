-- A turn of a world that owed nothing: what it adds to the journal, and where a closing stands behind it.
use Rattle.std.proofs.Common.{◌≡◌, ◌<◌, ℕ, Bool, true, false, List, [], ◌∷◌, ◌++◌, length, map, refl, sym, ◌∙◌, ap, subst, arith, append_assoc, append-nil}
use Rattle.std.specs.Prelude.{nat_eq, reverse, slice_get, Option, Some, None, IfSome}
use Rattle.std.specs.List.{range_with_len}
use Rattle.std.proofs.lemmas.List.{reverse-append}
use Rattle.std.proofs.lemmas.Bool.{eqb-true, eqb-false, eq-eqb}
use Rattle.journal.specs.declared.journal.Actor.{Actor}
use Rattle.journal.specs.declared.journal.Actor.TheVariants as actor
use Rattle.journal.specs.declared.journal.JournalEntry.{JournalEntry}
use Rattle.journal.specs.declared.journal.JournalEntry.TheVariants.{Post, Draw, Lose, Local, Idle, Refused}
use Rattle.journal.specs.declared.journal.Letter.{Letter}
use Rattle.journal.specs.declared.journal.SaveResult.{SaveResult}
use Rattle.journal.specs.declared.journal.Turn.{Turn}
use Rattle.journal.specs.Actors.{same_actor, actor_of, is_input, IsActor}
use Rattle.journal.specs.Part.{part, drawn}
use Rattle.journal.specs.Pool.{past}
use Rattle.journal.specs.Turns.{entry_of, posting, turn_actor}
use Rattle.journal.specs.Stables.{Saving}
use Rattle.vr_log.specs.Members.{is_up}
use Rattle.app_core.specs.Law.{AppLaw}
use Rattle.group_controller.specs.State.{ControllerState}
use Rattle.group_controller.specs.Turns.{Controlling, state_of, Controls}
use Rattle.run_spec.specs.States.{Scene, controller_at}
use Rattle.run_spec.specs.Legal.{results_of}
use Rattle.run_spec.specs.Committed.{controller_state, members_up}
use Rattle.run_spec.specs.Script.{IsPosted}
use Rattle.run_spec.specs.Closing.{Phase, Losing, IsMove, after_move, after_turn, next_move, ClosesTo}
use Rattle.world.specs.Debts.{Debt}
use Rattle.world.specs.World.{AreMore, AreTold, Applies, PairsStand, Worlding, posts_of, results_in, taken}
use Rattle.world.proofs.Growing.{more_then, no_more}
use Rattle.world.proofs.Places.{results_at}
use Rattle.closing_laws.specs.Quorum.{has}
use Rattle.closing.specs.Closing.{ClosesIn, up_in}
use Rattle.closing.proofs.Lists.{members_same, members_less, member_there}
use Rattle.closing.proofs.Worlds.{Runs, KnowsItself, posted_is, state_is, states_are}

-- the post of an outbox, if there is one
pub data PostsOf {B : Type 0} (a : Actor) : List (JournalEntry B) → Type 0 where
  No_post : PostsOf a []
  One_post : (first : ℕ) (letters : List (Letter B)) (lost : ℕ) → PostsOf a (Post a first letters lost ∷ [])

posting_posts : {B : Type 0} (size : B → ℕ) (a : Actor) (letters : List (Letter B)) (before : List (JournalEntry B)) → PostsOf a (posting size a letters before)
posting_posts size a [] before = No_post
posting_posts size a (l ∷ letters) before = One_post _ (l ∷ letters) _

-- what a turn added
pub record Added {B A : Type 0} (turn : Turn) (old new : Worlding B A) : Type 0 where
  pub posts : List (JournalEntry B)
  pub grown : new.journal ≡ old.journal ++ entry_of turn (past old.journal) ∷ posts
  pub of : PostsOf (turn_actor turn) posts

added_by : {B A : Type 0} (size : B → ℕ) (turn : Turn) (old new : Worlding B A) (owing : Option (Debt B)) → IfSome owing (λ d. d.actor ≡ turn_actor turn) →
    new.journal ≡ taken turn old.journal ++ posts_of size owing (taken turn old.journal) → Added turn old new
added_by size turn old new None owes grown = record { posts = []; grown = grown ∙ append-nil (taken turn old.journal); of = No_post }
added_by size turn old new (Some d) owes grown = record {
  posts = posting size d.actor d.letters (past (taken turn old.journal));
  grown = grown ∙ append_assoc old.journal (entry_of turn (past old.journal) ∷ []) (posting size d.actor d.letters (past (taken turn old.journal)));
  of = subst (λ a. PostsOf a (posting size d.actor d.letters (past (taken turn old.journal)))) owes (posting_posts size d.actor d.letters (past (taken turn old.journal)));
}

pub owed_nothing : {B A : Type 0} (size : B → ℕ) (w : Worlding B A) → w.owed ≡ None → w.journal ++ posts_of size w.owed w.journal ≡ w.journal
owed_nothing size w rests = ap (λ o. w.journal ++ posts_of size o w.journal) rests ∙ append-nil w.journal

pub added : {B A : Type 0} (size : B → ℕ) (turn : Turn) (old new : Worlding B A) → old.owed ≡ None → Applies size turn old new → Added turn old new
added size turn old new rests t =
    added_by size turn old new t.owing t.owed
    (t.journal ∙ ap (λ l. taken turn l ++ posts_of size t.owing (taken turn l)) (owed_nothing size old rests))

pub added_alone : {B A : Type 0} (size : B → ℕ) (turn : Turn) (old new : Worlding B A) → old.owed ≡ None → new.journal ≡ taken turn (old.journal ++ posts_of size old.owed old.journal) → Added turn old new
added_alone size turn old new rests grown = record { posts = []; grown = grown ∙ ap (λ l. taken turn l) (owed_nothing size old rests); of = No_post }

-- an entry and its post
pub record Turned {B A : Type 0} (law : AppLaw A) (scene : Scene B) (e : JournalEntry B) (old new : Worlding B A) : Type 0 where
  pub was : Runs law scene old
  pub is : Runs law scene new
  pub more : AreMore scene.setup.controllers (results_in old.controllers) (results_in new.controllers)
  pub rested : old.owed ≡ None
  pub named : IsActor scene.setup (actor_of e)
  pub input : is_input e ≡ true
  pub posts : List (JournalEntry B)
  pub grown : new.journal ≡ old.journal ++ e ∷ posts
  pub of : PostsOf (actor_of e) posts

-- saves were made in a turn
pub more_told : {B A W : Type 0} (law : AppLaw A) (scene : Scene B) (saving : Saving W) (old new : Worlding B A) (stables stables_after : List W) →
    Runs law scene old → PairsStand saving stables old.controllers → AreTold saving stables stables_after old.controllers new.controllers →
    AreMore scene.setup.controllers (results_in old.controllers) (results_in new.controllers)
more_told law scene saving old new stables stables_after runs pairs told c there =
    let m = runs.controllers c there in
    let p = pairs c m.member m.stands in
    let t = told c m.member p.0 m.stands p.1 in
    (t.4.more, results_at new.controllers c t.0 t.2 ∙ t.4.joined ∙ ap (λ l. l ++ t.4.more) (sym (results_at old.controllers c m.member m.stands)))

reverse_next : {X : Type 0} (x : X) (xs before : List X) → reverse (x ∷ xs) ++ before ≡ reverse xs ++ x ∷ before
reverse_next x xs before = ap (λ l. l ++ before) (reverse-append (x ∷ []) xs) ∙ append_assoc (reverse xs) (x ∷ []) before

-- the past of a journal that was added to
pub past_joined : {B : Type 0} (before entries : List (JournalEntry B)) → past (before ++ entries) ≡ reverse entries ++ past before
past_joined before entries = reverse-append before entries

pub past_added : {B : Type 0} (old new : List (JournalEntry B)) (e : JournalEntry B) (posts : List (JournalEntry B)) → new ≡ old ++ e ∷ posts → past new ≡ reverse posts ++ e ∷ past old
past_added old new e posts grown = ap past grown ∙ past_joined old (e ∷ posts) ∙ reverse_next e posts (past old)

module _ {B : Type 0} (scene : Scene B) (results : List (List SaveResult)) where
  -- one part of a closing after another
  pub joins : (phase mid last : Phase) (before xs ys : List (JournalEntry B)) → ClosesTo scene results phase before xs mid →
      ClosesTo scene results mid (reverse xs ++ before) ys last → ClosesTo scene results phase before (xs ++ ys) last
  joins phase mid last before [] ys first next = subst (λ p. ClosesTo scene results p before ys last) first next
  joins phase mid last before (Post a n letters lost ∷ xs) ys (input, first) next =
      (input, joins phase mid last (Post a n letters lost ∷ before) xs ys first (subst (λ l. ClosesTo scene results mid l ys last) (reverse_next _ xs before) next))
  joins phase mid last before (Draw a id keep ∷ xs) ys (posted, (to, move, first)) next =
      (posted, (to, move, joins (after_move scene results (Draw a id keep) before to) mid last (Draw a id keep ∷ before) xs ys first (subst (λ l. ClosesTo scene results mid l ys last) (reverse_next _ xs before) next)))
  joins phase mid last before (Lose a id ∷ xs) ys (posted, (to, move, first)) next =
      (posted, (to, move, joins (after_move scene results (Lose a id) before to) mid last (Lose a id ∷ before) xs ys first (subst (λ l. ClosesTo scene results mid l ys last) (reverse_next _ xs before) next)))
  joins phase mid last before (Local a input ∷ xs) ys (posted, (to, move, first)) next =
      (posted, (to, move, joins (after_move scene results (Local a input) before to) mid last (Local a input ∷ before) xs ys first (subst (λ l. ClosesTo scene results mid l ys last) (reverse_next _ xs before) next)))
  joins phase mid last before (Idle a ∷ xs) ys (posted, (to, move, first)) next =
      (posted, (to, move, joins (after_move scene results (Idle a) before to) mid last (Idle a ∷ before) xs ys first (subst (λ l. ClosesTo scene results mid l ys last) (reverse_next _ xs before) next)))
  joins phase mid last before (Refused a ∷ xs) ys (posted, (to, move, first)) next =
      (posted, (to, move, joins (after_move scene results (Refused a) before to) mid last (Refused a ∷ before) xs ys first (subst (λ l. ClosesTo scene results mid l ys last) (reverse_next _ xs before) next)))

  pub same_self : (a : Actor) → same_actor a a ≡ true
  same_self (actor.Controller c) = eq-eqb c c refl
  same_self (actor.Switch s) = eq-eqb s s refl

  posts_on : (phase : Phase) (before : List (JournalEntry B)) (e : JournalEntry B) (posts : List (JournalEntry B)) → is_input e ≡ true → PostsOf (actor_of e) posts →
      ClosesTo scene results phase (e ∷ before) posts phase
  posts_on phase before e _ input No_post = refl
  posts_on phase before e _ input (One_post first letters lost) = ((input, same_self (actor_of e)), refl)

  -- an entry of a closing and its post
  pub one_move : (phase next : Phase) (here : List (JournalEntry B)) (e : JournalEntry B) (posts : List (JournalEntry B)) → is_input e ≡ true → IsPosted scene results here →
      IsMove (next_move scene results phase here) e next → PostsOf (actor_of e) posts → ClosesTo scene results phase here (e ∷ posts) (after_move scene results e here next)
  one_move phase next here (Post a n letters lost) posts input posted move of = cc
  one_move phase next here (Refused a) posts input posted move of = cc
  one_move phase next here (Draw a id keep) posts input posted move of = (posted, (next, move, posts_on _ here (Draw a id keep) posts input of))
  one_move phase next here (Lose a id) posts input posted move of = (posted, (next, move, posts_on _ here (Lose a id) posts input of))
  one_move phase next here (Local a what) posts input posted move of = (posted, (next, move, posts_on _ here (Local a what) posts input of))
  one_move phase next here (Idle a) posts input posted move of = (posted, (next, move, posts_on _ here (Idle a) posts input of))

  part_mine : (a : Actor) (e : JournalEntry B) (before : List (JournalEntry B)) → same_actor (actor_of e) a ≡ true → part a (e ∷ before) ≡ (e, drawn e before) ∷ part a before
  part_mine a e before h = rw h refl

  part_other : (a : Actor) (e : JournalEntry B) (before : List (JournalEntry B)) → same_actor (actor_of e) a ≡ false → part a (e ∷ before) ≡ part a before
  part_other a e before h = rw h refl

  -- an entry leaves the states of all other controllers
  pub other_state : (c : ℕ) (e : JournalEntry B) (entries : List (JournalEntry B)) → same_actor (actor_of e) (actor.Controller c) ≡ false →
      controller_state scene results c (e ∷ entries) ≡ controller_state scene results c entries
  other_state c e entries other = ap (λ p. (controller_at scene (results_of results c) c p).now) (part_other (actor.Controller c) e entries other)

  -- a post and a loss leave those of all
  posted_state : (c : ℕ) (a : Actor) (first : ℕ) (letters : List (Letter B)) (lost : ℕ) (entries : List (JournalEntry B)) →
      controller_state scene results c (Post a first letters lost ∷ entries) ≡ controller_state scene results c entries
  posted_state c a first letters lost entries = by_actor (same_actor a (actor.Controller c)) refl
    where
      by_actor : (b : Bool) → same_actor a (actor.Controller c) ≡ b → controller_state scene results c (Post a first letters lost ∷ entries) ≡ controller_state scene results c entries
      by_actor true h = ap (λ p. (controller_at scene (results_of results c) c p).now) (part_mine (actor.Controller c) (Post a first letters lost) entries h)
      by_actor false h = other_state c (Post a first letters lost) entries h

  pub behind_posts : (c : ℕ) (a : Actor) (posts entries : List (JournalEntry B)) → PostsOf a posts → controller_state scene results c (reverse posts ++ entries) ≡ controller_state scene results c entries
  behind_posts c a _ entries No_post = refl
  behind_posts c a _ entries (One_post first letters lost) = posted_state c a first letters lost entries

  pub lost_state : (c : ℕ) (a : Actor) (id : ℕ) (entries : List (JournalEntry B)) → controller_state scene results c (Lose a id ∷ entries) ≡ controller_state scene results c entries
  lost_state c a id entries = by_actor (same_actor a (actor.Controller c)) refl
    where
      by_actor : (b : Bool) → same_actor a (actor.Controller c) ≡ b → controller_state scene results c (Lose a id ∷ entries) ≡ controller_state scene results c entries
      by_actor true h = ap (λ p. (controller_at scene (results_of results c) c p).now) (part_mine (actor.Controller c) (Lose a id) entries h)
      by_actor false h = other_state c (Lose a id) entries h

module _ {B A : Type 0} (law : AppLaw A) (scene : Scene B) (e : JournalEntry B) (old new : Worlding B A) (t : Turned law scene e old new) where
  pub past_new : past new.journal ≡ reverse t.posts ++ e ∷ past old.journal
  past_new = past_added old.journal new.journal e t.posts t.grown

  abbrev pub Later : List (List SaveResult) → Type 0
  Later later = AreMore scene.setup.controllers (results_in new.controllers) later

  pub more_before : (later : List (List SaveResult)) → Later later → AreMore scene.setup.controllers (results_in old.controllers) later
  more_before later more = more_then scene.setup.controllers (results_in old.controllers) (results_in new.controllers) later t.more more

  pub state_behind : (later : List (List SaveResult)) (c : ℕ) → controller_state scene later c (past new.journal) ≡ controller_state scene later c (e ∷ past old.journal)
  state_behind later c = ap (λ l. controller_state scene later c l) past_new ∙ behind_posts scene later c (actor_of e) t.posts (e ∷ past old.journal) t.of

  -- the state of the controller that took the turn
  pub turned_state : (later : List (List SaveResult)) → Later later → (c : ℕ) (x : Controlling A) → slice_get new.controllers c ≡ Some x → controller_state scene later c (e ∷ past old.journal) ≡ state_of x
  turned_state later more c x found = sym (state_behind later c) ∙ state_is law scene new t.is later more c x found

  -- a closing goes on
  pub closes_turn : (phase next settled : Phase) (start : Worlding B A) → ClosesIn phase scene start old →
      ((later : List (List SaveResult)) → Later later → IsMove (next_move scene later phase (past old.journal)) e next) →
      ((later : List (List SaveResult)) → Later later → after_move scene later e (past old.journal) next ≡ settled) → ClosesIn settled scene start new
  closes_turn phase next settled start c move after = record {
    entries = c.entries ++ e ∷ t.posts;
    joined = t.grown ∙ ap (λ l. l ++ e ∷ t.posts) c.joined ∙ append_assoc start.journal c.entries (e ∷ t.posts);
    steps = λ later more. joins scene later Losing phase settled (past start.journal) c.entries (e ∷ t.posts) (c.steps later (more_before later more))
        (subst (λ l. ClosesTo scene later phase l (e ∷ t.posts) settled) (ap past c.joined ∙ past_joined start.journal c.entries)
        (subst (λ p. ClosesTo scene later phase (past old.journal) (e ∷ t.posts) p) (after later more)
        (one_move scene later phase next (past old.journal) e t.posts t.input (posted_is law scene old t.was later (more_before later more) t.rested) (move later more) t.of)));
  }

  -- where it stands behind the turn of a controller, and of a switch
  pub after_same : (next : Phase) (later : List (List SaveResult)) → Later later → after_move scene later e (past old.journal) next ≡ after_move scene (results_in new.controllers) e (past old.journal) next
  after_same next later more = by_entry e refl t.named
    where
      same : (c : ℕ) → c < scene.setup.controllers → (f : JournalEntry B) → e ≡ f → controller_state scene later c (f ∷ past old.journal) ≡ controller_state scene (results_in new.controllers) c (f ∷ past old.journal)
      same c within f is =
          let m = t.is.controllers c within in
          subst (λ d. controller_state scene later c (d ∷ past old.journal) ≡ controller_state scene (results_in new.controllers) c (d ∷ past old.journal)) is
          (turned_state later more c m.member m.stands ∙ sym (turned_state (results_in new.controllers) (no_more scene.setup.controllers (results_in new.controllers)) c m.member m.stands))

      by_entry : (f : JournalEntry B) → e ≡ f → IsActor scene.setup (actor_of f) → after_move scene later f (past old.journal) next ≡ after_move scene (results_in new.controllers) f (past old.journal) next
      by_entry (Local (actor.Controller c) input) is within = ap (λ s. after_turn s next) (same c within (Local (actor.Controller c) input) is)
      by_entry (Draw (actor.Controller c) id keep) is within = ap (λ s. after_turn s next) (same c within (Draw (actor.Controller c) id keep) is)
      by_entry (Local (actor.Switch s) input) is within = refl
      by_entry (Draw (actor.Switch s) id keep) is within = refl
      by_entry (Lose a id) is within = refl
      by_entry (Post a first letters lost) is within = refl
      by_entry (Idle a) is within = refl
      by_entry (Refused a) is within = refl

  -- the turn was cut short
  pub cut_turn : (phase next : Phase) (start : Worlding B A) → ClosesIn phase scene start old →
      ((later : List (List SaveResult)) → Later later → IsMove (next_move scene later phase (past old.journal)) e next) →
      ClosesIn (after_move scene (results_in new.controllers) e (past old.journal) next) scene start new
  cut_turn phase next start c move = closes_turn phase next (after_move scene (results_in new.controllers) e (past old.journal) next) start c move (λ later more. after_same next later more)

  -- who takes part after a turn of no controller, or of one that takes part still
  abbrev pub Newest : List (List SaveResult)
  Newest = results_in new.controllers

  newest : Later Newest
  newest = no_more scene.setup.controllers (results_in new.controllers)

  abbrev before_at : ℕ → ControllerState
  before_at i = controller_state scene Newest i (past old.journal)

  abbrev after_at : ℕ → ControllerState
  after_at i = controller_state scene Newest i (past new.journal)

  ups_before : up_in old ≡ members_up (map before_at (range_with_len 0 scene.setup.controllers))
  ups_before = ap members_up (sym (states_are law scene old t.was Newest (more_before Newest newest)))

  ups_after : up_in new ≡ members_up (map after_at (range_with_len 0 scene.setup.controllers))
  ups_after = ap members_up (sym (states_are law scene new t.is Newest newest))

  pub same_ups : ((i : ℕ) → i < scene.setup.controllers → (is_up (before_at i).vr ≡ is_up (after_at i).vr) × ((before_at i).vr.me ≡ (after_at i).vr.me)) → up_in new ≡ up_in old
  same_ups same = ups_after ∙ sym (members_same before_at after_at 0 scene.setup.controllers (λ i low high. same i (omega (arith, high)))) ∙ sym ups_before

  module _ (knows : (x : Controlling A) → Controls law x scene.kinds → KnowsItself x) where
    pub me_before : (i : ℕ) → i < scene.setup.controllers → (before_at i).vr.me ≡ i
    me_before i within =
        let m = t.was.controllers i within in
        ap (λ s. s.vr.me) (state_is law scene old t.was Newest (more_before Newest newest) i m.member m.stands) ∙ (knows m.member m.keeps).me ∙ m.me

    pub me_after : (i : ℕ) → i < scene.setup.controllers → (after_at i).vr.me ≡ i
    me_after i within =
        let m = t.is.controllers i within in
        ap (λ s. s.vr.me) (state_is law scene new t.is Newest newest i m.member m.stands) ∙ (knows m.member m.keeps).me ∙ m.me

    -- one that takes part in the old world
    pub was_up : (c : ℕ) → has (up_in old) c ≡ true → (c < scene.setup.controllers) × (is_up (before_at c).vr ≡ true)
    was_up c found =
        let r = member_there before_at 0 scene.setup.controllers c (λ i low high. me_before i (omega (arith, high))) (ap (λ l. has l c) (sym ups_before) ∙ found) in
        let within = r.0 in (omega (arith, within), r.1)

    abbrev pub Others : ℕ → Type 0
    Others c = (i : ℕ) → i < scene.setup.controllers → (i ≡ c → ⊥) → after_at i ≡ before_at i

    pub still_up : (c : ℕ) → Others c → is_up (before_at c).vr ≡ true → is_up (after_at c).vr ≡ true → up_in new ≡ up_in old
    still_up c others was is = same_ups (λ i within. (by_number i within (nat_eq i c) refl, me_before i within ∙ sym (me_after i within)))
      where
        by_number : (i : ℕ) → i < scene.setup.controllers → (b : Bool) → nat_eq i c ≡ b → is_up (before_at i).vr ≡ is_up (after_at i).vr
        by_number i within true h = let same = eqb-true i c h in subst (λ k. is_up (before_at k).vr ≡ is_up (after_at k).vr) (sym same) (was ∙ sym is)
        by_number i within false h = ap (λ s. is_up s.vr) (sym (others i within (eqb-false i c h)))

    pub one_down : (c : ℕ) → c < scene.setup.controllers → Others c → is_up (before_at c).vr ≡ true → is_up (after_at c).vr ≡ false → length (up_in new) < length (up_in old)
    one_down c there others was is =
        let less = members_less before_at after_at 0 scene.setup.controllers c (λ i low high up. by_number i (omega (arith, high)) (nat_eq i c) refl up) (omega arith) (omega (arith, there)) was is in
        let first = ap length ups_after in
        let last = ap length ups_before in
        omega (arith, less, first, last)
      where
        differ : false ≡ true → ⊥
        differ h = cc

        by_number : (i : ℕ) → i < scene.setup.controllers → (b : Bool) → nat_eq i c ≡ b → is_up (after_at i).vr ≡ true → is_up (before_at i).vr ≡ true
        by_number i within true h up = absurd (differ (sym (subst (λ k. is_up (after_at k).vr ≡ false) (sym (eqb-true i c h)) is) ∙ up))
        by_number i within false h up = ap (λ s. is_up s.vr) (sym (others i within (eqb-false i c h))) ∙ up

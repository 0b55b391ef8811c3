-- Parts of a closing: what they keep of a world, how it begins, and how it ends.
use Rattle.std.proofs.Common.{◌≡◌, ◌≤◌, ◌<◌, ℕ, ◌+◌, ◌*◌, Bool, true, false, List, [], ◌∷◌, ◌++◌, length, refl, sym, ◌∙◌, ap, subst, arith, append_assoc, append-nil}
use Rattle.std.specs.Prelude.{◌%◌, ◌/◌, nat_lt, reverse, slice_get, Option, Some, None, Err, if◌then◌else◌}
use Rattle.std.proofs.lemmas.Bool.{ltb-true, ltb-false}
use Rattle.std.proofs.lemmas.List.{length-map}
use Rattle.of_types.specs.declared.setup.Setup.{Setup}
use Rattle.journal.specs.declared.journal.Actor.{Actor}
use Rattle.journal.specs.declared.journal.JournalEntry.{JournalEntry}
use Rattle.journal.specs.declared.journal.JournalEntry.TheVariants.{Post, Draw, Lose, Local, Idle, Refused}
use Rattle.journal.specs.declared.journal.Letter.{Letter}
use Rattle.journal.specs.declared.journal.Local.{Local as LocalInput}
use Rattle.journal.specs.declared.journal.Local.TheVariants as local
use Rattle.journal.specs.declared.journal.Packet.{Packet}
use Rattle.journal.specs.declared.journal.SaveResult.{SaveResult}
use Rattle.journal.specs.declared.place.PacketPlace.{PacketPlace}
use Rattle.journal.specs.declared.wire.Stop.{Stop}
use Rattle.journal.specs.declared.wire.Stop.TheVariants.{OutOfMemory, JournalFull}
use Rattle.journal.specs.Places.{IsFound}
use Rattle.journal.specs.Pool.{past, pool}
use Rattle.journal.specs.Turns.{posting}
use Rattle.journal.specs.Stables.{Saving}
use Rattle.vr_log.specs.declared.entry.LogFull.{LogFull}
use Rattle.vr_log.specs.Members.{is_up}
use Rattle.app_core.specs.Law.{AppLaw}
use Rattle.group_controller.specs.State.{ControllerState}
use Rattle.group_controller.specs.Turns.{state_of}
use Rattle.run_spec.specs.States.{Scene, Sealing}
use Rattle.run_spec.specs.Committed.{members_up, states_of}
use Rattle.run_spec.specs.Script.{IsPosted}
use Rattle.run_spec.specs.Closing.{Phase, Losing, Met, ClosingMove, ClosingAnswer, Ends, IsEnd, closing_view, majority, quorum_of, next_drained, next_lost, next_move, next_suspicion, next_view, ClosesTo}
use Rattle.run_spec.specs.Closing as schedule
use Rattle.world.specs.Debts.{Debt}
use Rattle.world.specs.World.{AreMore, AreTold, Holds, IsDebtor, Keeps, PairsStand, PostStops, Worlding, posts_of, results_in, scene_in}
use Rattle.world.proofs.Stables.{each_told_then, unsaved_told}
use Rattle.closing.specs.declared.closed.TurnOutcome.{TurnOutcome}
use Rattle.closing.specs.declared.closed.TurnOutcome.TheVariants as came
use Rattle.run_laws.specs.Laws.{IsSuspectedUpTo, SuspectsUpTo}
use Rattle.closing_laws.proofs.Start.Walking.{seven_at_most}
use Rattle.closing.specs.Views.{views_of_a_closing, views_of_an_attempt}
use Rattle.closing.specs.Closing.{CameTo, ClosesIn, ClosingStops, Drained, EndsBy, HasClosed, IsCutAt, IsHaltedAt, is_over, LeadsTo, RaisesViewsBy, SuspectsNoMore, Stage, ClosingStandsAt, states_in, Suspects, up_in}
use Rattle.closing.proofs.Worlds.{Runs, posted_is, states_are}
use Rattle.closing.proofs.Leading.{halted_in}
use Rattle.closing.proofs.Turned.{joins, past_joined}

-- nothing waits where no first packet was found
pub none_waits : {B : Type 0} (journal : List (JournalEntry B)) (o : Option PacketPlace) → IsFound journal o (slice_get (pool (past journal)) 0) → ((place : PacketPlace) → o ≡ Some place → ⊥) → pool (past journal) ≡ []
none_waits {B = B} journal o found none = by_pool (pool (past journal)) refl
  where
    never : (p : Packet B) (q : Option PacketPlace) → o ≡ q → IsFound journal q (Some p) → ⊥
    never p None is h = h
    never p (Some place) is h = none place is

    by_pool : (packets : List (Packet B)) → pool (past journal) ≡ packets → pool (past journal) ≡ []
    by_pool [] is = is
    by_pool (p ∷ others) is = absurd (never p o refl (subst (λ l. IsFound journal o (slice_get l 0)) is found))

-- who is over, and who is not
pub not_over : (cause : TurnOutcome) → is_over cause ≡ false → cause ≡ came.ToRest
not_over came.ToRest h = refl
not_over came.ToAFailedSave h = cc
not_over (came.ToTheLimit limit) h = cc

pub over_came : {B A : Type 0} (stage other : Stage B A) (cause : TurnOutcome) (scene : Scene B) (start now : Worlding B A) → is_over cause ≡ true → CameTo stage cause scene start now → CameTo other cause scene start now
over_came stage other came.ToRest scene start now h c = cc
over_came stage other came.ToAFailedSave scene start now h c = c
over_came stage other (came.ToTheLimit limit) scene start now h c = c

pub same_stop : (T U : Type 0) {B A : Type 0} (stage : T → Stage B A) (other : U → Stage B A) (stop : Stop) (scene : Scene B) (start now : Worlding B A) → ClosingStandsAt stage (Err stop) scene start now → ClosingStandsAt other (Err stop) scene start now
same_stop T U stage other OutOfMemory scene start now c = c
same_stop T U stage other (JournalFull bytes letters) scene start now c = c

-- no view above a greater limit
suspects_more : (limit most : ℕ) (input : LocalInput) → limit ≤ most → SuspectsUpTo limit input → SuspectsUpTo most input
suspects_more limit most (local.Suspect view) low h = omega (arith, low, h)
suspects_more limit most (local.Frame port bytes) low h = tt
suspects_more limit most (local.Port port up) low h = tt
suspects_more limit most local.Tick low h = tt
suspects_more limit most local.Crash low h = tt
suspects_more limit most local.Restart low h = tt

pub suspected_more : {B : Type 0} (limit most : ℕ) (entries : List (JournalEntry B)) → limit ≤ most → IsSuspectedUpTo limit entries → IsSuspectedUpTo most entries
suspected_more limit most [] low h = tt
suspected_more limit most (Local a input ∷ before) low (here, rest) = (suspects_more limit most input low here, suspected_more limit most before low rest)
suspected_more limit most (Post a first letters lost ∷ before) low (here, rest) = (tt, suspected_more limit most before low rest)
suspected_more limit most (Draw a id keep ∷ before) low (here, rest) = (tt, suspected_more limit most before low rest)
suspected_more limit most (Lose a id ∷ before) low (here, rest) = (tt, suspected_more limit most before low rest)
suspected_more limit most (Idle a ∷ before) low (here, rest) = (tt, suspected_more limit most before low rest)
suspected_more limit most (Refused a ∷ before) low (here, rest) = (tt, suspected_more limit most before low rest)

pub views_none : {B A : Type 0} (limit : ℕ) (w : Worlding B A) → SuspectsNoMore limit w w
views_none limit w most high h = h

pub views_then : {B A : Type 0} (limit more : ℕ) (old mid new : Worlding B A) → more ≤ limit → SuspectsNoMore limit old mid → SuspectsNoMore more mid new → SuspectsNoMore limit old new
views_then limit more old mid new low a b most high h = b most (omega (arith, low, high)) (a most high h)

-- what rises by nothing rises by no more
pub raises_none : {B A : Type 0} (more : ℕ) (old new : Worlding B A) → SuspectsNoMore 0 old new → RaisesViewsBy more old new
raises_none more old new same limit h = suspected_more limit (limit + more) (past new.journal) (omega arith) (same limit (omega arith) h)

-- behind seven attempts at most the last one rises by no more than a whole closing does
pub raises_last : {B A : Type 0} (attempts : ℕ) (old mid new : Worlding B A) → attempts ≤ 7 → RaisesViewsBy (views_of_an_attempt * attempts) old mid → RaisesViewsBy views_of_an_attempt mid new → RaisesViewsBy views_of_a_closing old new
raises_last attempts old mid new few first last limit h =
    suspected_more (limit + views_of_an_attempt * attempts + views_of_an_attempt) (limit + views_of_a_closing) (past new.journal) (omega (arith, few)) (last (limit + views_of_an_attempt * attempts) (first limit h))

pub raises_then : {B A : Type 0} (more : ℕ) (old mid new : Worlding B A) → SuspectsNoMore 0 old mid → RaisesViewsBy more mid new → RaisesViewsBy more old new
raises_then more old mid new same next limit h = next limit (same limit (omega arith) h)

module _ {B A W : Type 0} (law : AppLaw A) (saving : Saving W) (sealing : Sealing B) where
  -- a world that was kept, and kept again
  pub keeps_none : (w : Worlding B A) (stables : List W) → PairsStand saving stables w.controllers → Keeps law saving sealing w stables w stables
  keeps_none w stables pairs = record {
    setup = refl;
    holds = λ kinds h. h;
    pairs = pairs;
    told = λ c x stable found stands. (x, stable, found, stands, unsaved_told (saving.faults stable) x.results);
    beyond = λ i past. refl;
  }

  pub keeps_then : (a b c : Worlding B A) (s0 s1 s2 : List W) → Keeps law saving sealing a s0 b s1 → Keeps law saving sealing b s1 c s2 → Keeps law saving sealing a s0 c s2
  keeps_then a b c s0 s1 s2 first next = record {
    setup = next.setup ∙ first.setup;
    holds = λ kinds h. next.holds kinds (first.holds kinds h);
    pairs = next.pairs;
    told = each_told_then saving s0 s1 s2 a.controllers b.controllers c.controllers first.told next.told;
    beyond = λ i past. next.beyond i (subst (λ (s : Setup). s.controllers ≤ i) (sym first.setup) past) ∙ first.beyond i past;
  }

  -- what was owed is posted
  module _ (old new : Worlding B A) (stables : List W) (pairs : PairsStand saving stables old.controllers) (is : new ≡ record old { journal = old.journal ++ posts_of sealing.size old.owed old.journal; owed = None }) where
    pub post_keeps : ((kinds : List ℕ) → Holds law sealing old kinds → Holds law sealing new kinds) → Keeps law saving sealing old stables new stables
    post_keeps holds =
        let none = keeps_none old stables pairs in
        record {
          setup = ap (λ w. w.setup) is;
          holds = holds;
          pairs = subst (λ l. PairsStand saving stables l) (sym (ap (λ w. w.controllers) is)) pairs;
          told = subst (λ l. AreTold saving stables stables old.controllers l) (sym (ap (λ w. w.controllers) is)) none.told;
          beyond = λ i past. refl;
        }

    post_views : (most : ℕ) (owed : Option (Debt B)) → IsSuspectedUpTo most (past old.journal) → IsSuspectedUpTo most (past (old.journal ++ posts_of sealing.size owed old.journal))
    post_views most owed before = subst (λ l. IsSuspectedUpTo most l) (sym (past_joined old.journal (posts_of sealing.size owed old.journal))) (by_debt owed)
      where
        by_letters : (a : Actor) (letters : List (Letter B)) → IsSuspectedUpTo most (reverse (posting sealing.size a letters (past old.journal)) ++ past old.journal)
        by_letters a [] = before
        by_letters a (l ∷ letters) = (tt, before)

        by_debt : (o : Option (Debt B)) → IsSuspectedUpTo most (reverse (posts_of sealing.size o old.journal) ++ past old.journal)
        by_debt None = before
        by_debt (Some d) = by_letters d.actor d.letters

    pub post_suspects : SuspectsNoMore 0 old new
    post_suspects most low before = subst (λ l. IsSuspectedUpTo most (past l)) (sym (ap (λ w. w.journal) is)) (post_views most old.owed before)

    posts_close : (scene : Scene B) (results : List (List SaveResult)) (owed : Option (Debt B)) → IsDebtor owed (past old.journal) → ClosesTo scene results Losing (past old.journal) (posts_of sealing.size owed old.journal) Losing
    posts_close scene results None debtor = refl
    posts_close scene results (Some d) debtor = by_letters d.letters
      where
        by_letters : (letters : List (Letter B)) → ClosesTo scene results Losing (past old.journal) (posting sealing.size d.actor letters (past old.journal)) Losing
        by_letters [] = refl
        by_letters (l ∷ letters) = (debtor, refl)

    pub post_leads : LeadsTo law sealing (ClosesIn Losing) (ClosesIn Losing) old new
    post_leads kinds holds start c =
        let scene = scene_in sealing old kinds in
        let posts = posts_of sealing.size old.owed old.journal in
        record {
          entries = c.entries ++ posts;
          joined = ap (λ w. w.journal) is ∙ ap (λ l. l ++ posts) c.joined ∙ append_assoc start.journal c.entries posts;
          steps = λ later more.
              joins scene later Losing Losing Losing (past start.journal) c.entries posts
              (c.steps later (subst (λ l. AreMore scene.setup.controllers (results_in l) later) (ap (λ w. w.controllers) is) more))
              (subst (λ l. ClosesTo scene later Losing l posts Losing) (ap past c.joined ∙ past_joined start.journal c.entries) (posts_close scene later old.owed holds.run.debtor));
        }

  -- or nothing has changed
  module _ (old new : Worlding B A) (stables : List W) (pairs : PairsStand saving stables old.controllers) (same : new ≡ old) where
    pub same_keeps : Keeps law saving sealing old stables new stables
    same_keeps = subst (λ w. Keeps law saving sealing old stables w stables) (sym same) (keeps_none old stables pairs)

    pub post_stops : {T : Type 0} (next : T → Stage B A) (stop : Stop) → PostStops sealing.size old stop → LeadsTo law sealing (ClosesIn Losing) (ClosingStandsAt next (Err stop)) old new
    post_stops next OutOfMemory stops kinds holds start c = subst (λ w. IsHaltedAt (scene_in sealing old kinds) start w) (sym same) (halted_in (scene_in sealing old kinds) start old Losing c)
    post_stops next (JournalFull bytes letters) stops kinds holds start c =
        subst (λ w. IsCutAt bytes letters (scene_in sealing old kinds) start w) (sym same) (record { phase = Losing; closes = c; stuck = stops })

-- a closing begins where nothing waits
few : {X : Type 0} (a b : ℕ) (x y : X) → b ≤ a → (if nat_lt a b then x else y) ≡ y
few a b x y enough = by_less (nat_lt a b) refl
  where
    by_less : (c : Bool) → nat_lt a b ≡ c → (if nat_lt a b then x else y) ≡ y
    by_less true is = let less = ltb-true a b is in absurd (omega (arith, less, enough))
    by_less false is = rw is refl

many : {X : Type 0} (a b : ℕ) (x y : X) → a < b → (if nat_lt a b then x else y) ≡ x
many a b x y less = by_less (nat_lt a b) refl
  where
    by_less : (c : Bool) → nat_lt a b ≡ c → (if nat_lt a b then x else y) ≡ x
    by_less true is = rw is refl
    by_less false is = let more = ltb-false a b is in absurd (omega (arith, less, more))

module _ {B A : Type 0} (law : AppLaw A) (scene : Scene B) (start now : Worlding B A) (runs : Runs law scene now) where
  abbrev pub Later : List (List SaveResult) → Type 0
  Later later = AreMore scene.setup.controllers (results_in now.controllers) later

  cleared_move : pool (past now.journal) ≡ [] → (later : List (List SaveResult)) → Later later → next_move scene later Losing (past now.journal) ≡ next_view {B = B} scene.setup.controllers (states_in now.controllers)
  cleared_move empty later more =
      ap (λ l. next_lost scene.setup.controllers (states_of scene later (past now.journal)) l) empty ∙
      ap (λ s. next_view {B = B} scene.setup.controllers s) (states_are law scene now runs later more)

  pub begins : (view : ℕ) (up quorum : List ℕ) → pool (past now.journal) ≡ [] → up ≡ up_in now → majority scene.setup.controllers ≤ length up →
      view ≡ closing_view (states_in now.controllers) scene.setup.controllers → quorum ≡ quorum_of (view % scene.setup.controllers) (scene.setup.controllers / 2) up →
      ClosesIn Losing scene start now → Suspects view quorum quorum scene start now
  begins view up quorum empty up_is most view_is quorum_is c = record {
    phase = Losing;
    closes = c;
    next = λ later more. cleared_move empty later more ∙ enough ∙ same ∙ ap (λ l. next_suspicion n view quorum quorum l) (sym empty);
  }
    where
      n : ℕ
      n = scene.setup.controllers

      states : List ControllerState
      states = states_in now.controllers

      suspicion : ℕ → List ℕ → ClosingMove B
      suspicion v q = next_suspicion n v q q []

      enough : next_view {B = B} n states ≡ suspicion (closing_view states n) (quorum_of (closing_view states n % n) (n / 2) (members_up states))
      enough = few (length (members_up states)) (majority n) _ _ (subst (λ l. majority n ≤ length l) up_is most)

      same : suspicion (closing_view states n) (quorum_of (closing_view states n % n) (n / 2) (members_up states)) ≡ suspicion view quorum
      same =
          ap (λ v. suspicion v (quorum_of (v % n) (n / 2) (members_up states))) (sym view_is) ∙
          ap (λ q. suspicion view q) (ap (λ l. quorum_of (view % n) (n / 2) l) (sym up_is) ∙ sym quorum_is)

  -- and ends
  pub closed_at : now.owed ≡ None → (phase : Phase) (answer : ClosingAnswer) → ClosesIn phase scene start now → ((later : List (List SaveResult)) → Later later → IsEnd (next_move scene later phase (past now.journal)) answer) →
      HasClosed scene answer start now
  closed_at rests phase answer c ends = record {
    entries = c.entries;
    joined = c.joined;
    closes = λ later more. record {
      last = phase;
      steps = c.steps later more;
      posted = subst (λ l. IsPosted scene later l) (ap past c.joined ∙ past_joined start.journal c.entries) (posted_is law scene now runs later more rests);
      ends = subst (λ l. IsEnd (next_move scene later phase l) answer) (ap past c.joined ∙ past_joined start.journal c.entries) (ends later more);
    };
  }

  pub ends_done : now.owed ≡ None → (view primary : ℕ) (quorum : List ℕ) → primary ≡ view % scene.setup.controllers → Drained view quorum scene start now → HasClosed scene (schedule.Done primary) start now
  ends_done rests view primary quorum is d =
      closed_at rests d.0.phase (schedule.Done primary) d.0.closes
      (λ later more. subst (λ m. IsEnd m (schedule.Done primary)) (sym (d.0.next later more ∙ ap (λ l. next_drained scene.setup.controllers view quorum l) d.1)) (ap (λ n. schedule.Done n) is))

  pub ends_met : now.owed ≡ None → (limit : LogFull) → ClosesIn (Met limit) scene start now → HasClosed scene (schedule.Overfull limit) start now
  ends_met rests limit c = closed_at rests (Met limit) (schedule.Overfull limit) c (λ later more. refl)

  pub ends_few : now.owed ≡ None → pool (past now.journal) ≡ [] → (up needed : ℕ) → up ≡ length (up_in now) → needed ≡ majority scene.setup.controllers → up < needed →
      ClosesIn Losing scene start now → HasClosed scene (schedule.NoQuorum up needed) start now
  ends_few rests empty up needed up_is needed_is less c =
      closed_at rests Losing (schedule.NoQuorum up needed) c
      (λ later more. subst (λ m. IsEnd m (schedule.NoQuorum up needed)) (sym (cleared_move empty later more ∙ fewer)) (ap (λ n. schedule.NoQuorum n needed) up_is ∙ ap (λ n. schedule.NoQuorum (length (up_in now)) n) needed_is))
    where
      fewer : next_view {B = B} scene.setup.controllers (states_in now.controllers) ≡ Ends (schedule.NoQuorum (length (up_in now)) (majority scene.setup.controllers))
      fewer = many (length (up_in now)) (majority scene.setup.controllers) _ _ (subst (λ a. a < majority scene.setup.controllers) up_is (subst (λ b. up < b) needed_is less))

-- no more take part than a group has, which are up to seven
up_short : (states : List ControllerState) → length (members_up states) ≤ length states
up_short [] = omega arith
up_short (s ∷ states) = by_up (is_up s.vr) refl (up_short states)
  where
    by_up : (b : Bool) → is_up s.vr ≡ b → length (members_up states) ≤ length states → length (members_up (s ∷ states)) ≤ length (s ∷ states)
    by_up true is rest = rw is (omega (arith, rest))
    by_up false is rest = rw is (omega (arith, rest))

module _ {B A : Type 0} {law : AppLaw A} (scene : Scene B) (now : Worlding B A) (runs : Runs law scene now) where
  pub few_members : scene.setup.controllers ≤ 7
  few_members = seven_at_most scene.setup.controllers runs.setup.group

  pub few_up : length (up_in now) ≤ 7
  few_up =
      let short = up_short (states_in now.controllers) in
      let mapped = length-map now.controllers (λ c. state_of c) in
      let group = runs.group in
      let seven = few_members in
      omega (arith, short, mapped, group, seven)

-- a closing that begins has taken no step
pub closes_first : {B A : Type 0} (scene : Scene B) (start : Worlding B A) → ClosesIn Losing scene start start
closes_first scene start = record { entries = []; joined = sym (append-nil start.journal); steps = λ later more. refl }

pub stops_by : {B A : Type 0} (scene : Scene B) (stop : Stop) (start now : Worlding B A) → ClosingStandsAt EndsBy (Err stop) scene start now → ClosingStops scene start now stop
stops_by scene OutOfMemory start now c = c
stops_by scene (JournalFull bytes letters) start now c = c

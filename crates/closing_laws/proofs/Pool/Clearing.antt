-- The words that results may go, while a closing is drained: where they wait no mark is pending, and behind them alone wait results that
-- are. So those for an event are gone before the next event is processed that has a command.
use Rattle.std.proofs.Common.{◌≡◌, ◌≤◌, ◌<◌, inl, inr, ℕ, ◌+◌, Bool, true, false, List, [], ◌∷◌, ◌++◌, length, map, take, filter, refl, sym, ◌∙◌, ap, subst, arith, append-nil, append_assoc}
use Rattle.std.specs.Prelude.{not, if◌then◌else◌}
use Rattle.std.specs.List.{range_with_len}
use Rattle.std.proofs.lemmas.Bool.{and_from, cases_Bool, cases_lt, lt-ltb, ltb-true, not_from_false}
use Rattle.std.proofs.lemmas.List.{length-map}
use Rattle.std.proofs.lemmas.List.FromFn.{length-range_with_len}
use Rattle.list_facts.specs.Lists.{IsIn, IsPrefix}
use Rattle.list_facts.proofs.Elements.{filter_has, in_right}
use Rattle.list_facts.proofs.Prefixes.{take_prefix}
use Rattle.of_types.specs.declared.message.Outcome.{Outcome}
use Rattle.of_types.specs.declared.setup.Setup.{Setup}
use Rattle.of_types.specs.Lives.{has_ended, life_in}
use Rattle.journal.specs.declared.journal.Actor.TheVariants as actor
use Rattle.journal.specs.declared.journal.Letter.{Letter}
use Rattle.vr_log.specs.declared.entry.Entry.{Entry}
use Rattle.vr_log.specs.Log.{processed, received}
use Rattle.app_core.specs.Chain.{concat}
use Rattle.app_core.specs.declared.issued.Issued.{Issued}
use Rattle.app_core.specs.Issued.{commands_of, count_issued}
use Rattle.dispatcher.specs.declared.answers.AckThrough.{AckThrough}
use Rattle.dispatcher.specs.Folding.{acknowledges_at, clears_at, is_told}
use Rattle.dispatcher.specs.Marks.{Marks, has_result, is_wanted, settled_commands, wanted}
use Rattle.controller_moves.proofs.ControllerLaws.Issued.{issues-take}
use Rattle.controller_moves.proofs.ControllerLaws.Logs.{processed_prefix, received_prefix}
use Rattle.group_controller.specs.declared.messages.ControllerSays.{ControllerSays}
use Rattle.group_controller.specs.State.{ControllerState, committed}
use Rattle.group_controller.specs.Settling.{ack_letter, answers_at, clear_letter}
use Rattle.run_spec.specs.declared.messages.Message.{Message}
use Rattle.run_spec.specs.States.{controller_message}
use Rattle.closing_laws.specs.Serving.{results_said}
use Rattle.closing_laws.specs.Ways.{Sent, between, goes}
use Rattle.closing_laws.proofs.Journal.Between.{between_own, posted_other}
use Rattle.closing_laws.proofs.Measure.CommandCounts.{fewer_filter}
use Rattle.closing_laws.proofs.Pool.Broadcasts.{posted}
use Rattle.closing_laws.proofs.Pool.Rooms.{is_clear, waits}
use Rattle.closing_laws.proofs.Pool.StartingLetters.{ended_clears}
use Rattle.closing_laws.proofs.Pool.Waiting.{posts_always, posts_append, posts_never, posts_of, waits_append, waits_cons}
use Rattle.closing_laws.proofs.Primary.Growth.{counted_grows}
use Rattle.closing_laws.proofs.Primary.Numbering.{command_within, counted}
use Rattle.closing_laws.proofs.Primary.Resulted.{tells_result}
use Rattle.closing_laws.proofs.Primary.Settled.{settled_more}
use Rattle.closing_laws.proofs.Primary.WantedCommands.{commands_stay}
use Rattle.closing_laws.proofs.Switches.Saying.{results_append}

-- what is settled of a life, by the events that are processed
done_is : (kinds : List ℕ) (setup : Setup) (s life : ℕ) (log : List Entry) → settled_commands kinds setup log s life ≡ counted kinds setup s life (take (processed log) (received log))
done_is kinds setup s life log = ap (λ (z : List (List Issued)). count_issued s life (concat z)) (sym (issues-take kinds setup (processed log) (received log)))

-- how many words that results may go an actor posts
abbrev pub clears_posted : ℕ → List (Letter ControllerSays) → ℕ
clears_posted p letters = posts_of is_clear controller_message (actor.Controller p) letters

module _ (kinds : List ℕ) (setup : Setup) (p : ℕ) where
  -- the results of a switch that are on their way
  abbrev pub results_from : ℕ → List Sent → List ℕ
  results_from s waiting = results_said (between (actor.Switch s) (actor.Controller p) waiting)

  -- they are no more once the first message is drawn
  pub results_later : (s i : ℕ) (m : Sent) (rest : List Sent) → IsIn i (results_from s rest) → IsIn i (results_from s (m ∷ rest))
  results_later s i m rest among = by_way (goes (actor.Switch s) (actor.Controller p) m)
    where
      after : List Message
      after = between (actor.Switch s) (actor.Controller p) rest

      by_way : (b : Bool) → IsIn i (results_said (if b then m.said ∷ after else after))
      by_way true = subst (λ (l : List ℕ). IsIn i l) (sym (results_append (m.said ∷ []) after)) (in_right i (results_said (m.said ∷ [])) (results_said after) among)
      by_way false = among

  module _ (life : ℕ → ℕ) where
    -- how many commands for the present life of a switch are settled, and how many there are with those of the first unprocessed event
    abbrev pub done : List Entry → ℕ → ℕ
    done log s = settled_commands kinds setup log s (life s)

    abbrev pub reached : List Entry → ℕ → ℕ
    reached log s = counted kinds setup s (life s) (take (processed log + 1) (received log))

    reached_more : (s : ℕ) {log log' : List Entry} → IsPrefix log log' → reached log s ≤ reached log' s
    reached_more s {log} {log'} q =
        counted_grows kinds setup s (life s) (take_prefix (processed log + 1) (processed log' + 1) (let more = processed_prefix q in omega (arith, more)) (received_prefix q))

    reached_done : (s : ℕ) {log log' : List Entry} → IsPrefix log log' → processed log < processed log' → reached log s ≤ done log' s
    reached_done s {log} {log'} q more =
        let grows = counted_grows kinds setup s (life s) (take_prefix (processed log + 1) (processed log') (omega (arith, more)) (received_prefix q)) in
        let is = done_is kinds setup s (life s) log' in
        omega (arith, grows, is)

    -- The words wait in front, and there no result is pending. Where one waits no mark is. Each mark is of a present life.
    pub record Holds (early : Type 0) (log : List Entry) (marks : Marks) (waiting : List Sent) : Type 0 where
      pub front : List Sent
      pub back : List Sent
      pub joined : waiting ≡ front ++ back
      pub none : waits is_clear back ≡ 0
      pub few : waits is_clear front ≤ length setup.ports
      pub results : (s i : ℕ) → s < length setup.ports → IsIn i (results_from s front) → i < done log s
      pub marked : 0 < waits is_clear front → (s i : ℕ) → s < length setup.ports → has_result marks s (life s) i ≡ true → i < done log s
      pub lives : (s l i : ℕ) → has_result marks s l i ≡ true → (s < length setup.ports) × (l ≡ life s)
      pub too_early : early → waits is_clear front ≡ 0

    -- results on their way, and marks, are of commands up to those of the first unprocessed event
    pub record AreReached (log : List Entry) (marks : Marks) (waiting : List Sent) : Type 0 where
      pub results : (s i : ℕ) → s < length setup.ports → IsIn i (results_from s waiting) → i < reached log s
      pub marked : (s i : ℕ) → s < length setup.ports → has_result marks s (life s) i ≡ true → i < reached log s

    module _ (early : Type 0) (log : List Entry) (marks : Marks) where
      -- none of the words is behind
      pub in_front : (waiting : List Sent) (h : Holds early log marks waiting) → waits is_clear waiting ≡ waits is_clear h.front
      in_front waiting h = let is = ap (waits is_clear) h.joined in let parts = waits_append is_clear h.front h.back in let none = h.none in omega (arith, is, parts, none)

      -- so they are as many as switches at most
      pub held_few : (waiting : List Sent) → Holds early log marks waiting → waits is_clear waiting ≤ length setup.ports
      held_few waiting h = let is = in_front waiting h in let few = h.few in omega (arith, is, few)

      -- nothing of it waits, or none of the words
      pub held_none : (waiting : List Sent) → waits is_clear waiting ≡ 0 → ((s l i : ℕ) → has_result marks s l i ≡ true → (s < length setup.ports) × (l ≡ life s)) → Holds early log marks waiting
      held_none waiting none lives = record {
        front = [];
        back = waiting;
        joined = refl;
        none = none;
        few = omega arith;
        results = λ s i there among. absurd among;
        marked = λ some. absurd (omega (arith, some));
        lives = lives;
        too_early = λ e. refl;
      }

      -- the first message is drawn, or lost
      pub held_rest : (m : Sent) (rest : List Sent) → Holds early log marks (m ∷ rest) → Holds early log marks rest
      held_rest m rest h = by_front h.front h.back h.joined h.none h.few h.results h.marked h.too_early
        where
          by_front : (front back : List Sent) → m ∷ rest ≡ front ++ back → waits is_clear back ≡ 0 → waits is_clear front ≤ length setup.ports →
              ((s i : ℕ) → s < length setup.ports → IsIn i (results_from s front) → i < done log s) →
              (0 < waits is_clear front → (s i : ℕ) → s < length setup.ports → has_result marks s (life s) i ≡ true → i < done log s) → (early → waits is_clear front ≡ 0) → Holds early log marks rest
          by_front [] back joined none few results marked too_early =
              held_none rest (let is = ap (waits is_clear) joined in let parts = waits_cons is_clear m rest in omega (arith, is, parts, none)) h.lives
          by_front (x ∷ front) back joined none few results marked too_early =
              let parts = waits_cons is_clear x front in
              record {
                front = front;
                back = back;
                joined = cc;
                none = none;
                few = omega (arith, parts, few);
                results = λ s i there among. results s i there (results_later s i x front among);
                marked = λ some. marked (omega (arith, parts, some));
                lives = h.lives;
                too_early = λ e. let zero_it = too_early e in omega (arith, parts, zero_it);
              }

      -- none of the words is posted
      pub held_more : (waiting more : List Sent) → waits is_clear more ≡ 0 → Holds early log marks waiting → Holds early log marks (waiting ++ more)
      held_more waiting more silent h = record {
        front = h.front;
        back = h.back ++ more;
        joined = ap (λ (l : List Sent). l ++ more) h.joined ∙ append_assoc h.front h.back more;
        none = let parts = waits_append is_clear h.back more in let none = h.none in omega (arith, parts, none, silent);
        few = h.few;
        results = h.results;
        marked = h.marked;
        lives = h.lives;
        too_early = h.too_early;
      }

      -- it asks no more of what is early
      pub held_early : (early' : Type 0) → (early' → early) → (waiting : List Sent) → Holds early log marks waiting → Holds early' log marks waiting
      held_early early' before waiting h = record {
        front = h.front;
        back = h.back;
        joined = h.joined;
        none = h.none;
        few = h.few;
        results = h.results;
        marked = h.marked;
        lives = h.lives;
        too_early = λ e. h.too_early (before e);
      }

      -- the same results came
      module _ (marks' : Marks) (only : (s l i : ℕ) → has_result marks' s l i ≡ true → has_result marks s l i ≡ true) (waiting : List Sent) where
        pub held_marks : Holds early log marks waiting → Holds early log marks' waiting
        held_marks h = record {
          front = h.front;
          back = h.back;
          joined = h.joined;
          none = h.none;
          few = h.few;
          results = h.results;
          marked = λ some s i there is. h.marked some s i there (only s (life s) i is);
          lives = λ s l i is. h.lives s l i (only s l i is);
          too_early = h.too_early;
        }

        pub reached_marks : AreReached log marks waiting → AreReached log marks' waiting
        reached_marks n = record { results = n.results; marked = λ s i there is. n.marked s i there (only s (life s) i is) }

      -- where a pending result is drawn none of the words waits
      pub held_pending : (m : Sent) (rest : List Sent) (s xid number : ℕ) (result : Outcome) → s < length setup.ports → m.from ≡ actor.Switch s → m.to ≡ actor.Controller p →
          m.said ≡ tells_result xid (life s) number result → done log s ≤ number → Holds early log marks (m ∷ rest) → waits is_clear rest ≡ 0
      held_pending m rest s xid number result there from to says pending h = by_front h.front h.back h.joined h.none h.results
        where
          by_front : (front back : List Sent) → m ∷ rest ≡ front ++ back → waits is_clear back ≡ 0 → ((t i : ℕ) → t < length setup.ports → IsIn i (results_from t front) → i < done log t) → waits is_clear rest ≡ 0
          by_front [] back joined none results = let is = ap (waits is_clear) joined in let parts = waits_cons is_clear m rest in omega (arith, is, parts, none)
          by_front (x ∷ front) back joined none results =
              let same : x ≡ m = cc in
              let own = between_own (actor.Switch s) (actor.Controller p) x front (ap (λ (y : Sent). y.from) same ∙ from) (ap (λ (y : Sent). y.to) same ∙ to) in
              let said = ap (λ (y : Sent). y.said) same ∙ says in
              let first = results s number there (subst (λ (l : List Message). IsIn number (results_said l)) (sym own)
              (subst (λ (y : Message). IsIn number (results_said (y ∷ between (actor.Switch s) (actor.Controller p) front))) (sym said) (inl refl))) in
              absurd (omega (arith, first, pending))

      -- the primary posts no results
      pub reached_posted : (waiting : List Sent) (letters : List (Letter ControllerSays)) → AreReached log marks waiting → AreReached log marks (waiting ++ posted p letters)
      reached_posted waiting letters n = record {
        results = λ s i there among.
            n.results s i there (subst (λ (l : List Message). IsIn i (results_said l)) (posted_other controller_message (actor.Controller p) (actor.Switch s) (actor.Controller p) waiting letters refl) among);
        marked = n.marked;
      }

      -- more is committed
      module _ (log' : List Entry) (longer : IsPrefix log log') (waiting : List Sent) where
        pub held_longer : Holds early log marks waiting → Holds early log' marks waiting
        held_longer h = record {
          front = h.front;
          back = h.back;
          joined = h.joined;
          none = h.none;
          few = h.few;
          results = λ s i there among. let low = h.results s i there among in let more = settled_more kinds setup s (life s) longer in omega (arith, low, more);
          marked = λ some s i there is. let low = h.marked some s i there is in let more = settled_more kinds setup s (life s) longer in omega (arith, low, more);
          lives = h.lives;
          too_early = h.too_early;
        }

        pub reached_longer : AreReached log marks waiting → AreReached log' marks waiting
        reached_longer n = record {
          results = λ s i there among. let low = n.results s i there among in let more = reached_more s longer in omega (arith, low, more);
          marked = λ s i there is. let low = n.marked s i there is in let more = reached_more s longer in omega (arith, low, more);
        }

    -- an event is processed: the words for its commands are posted, where none waits
    module _ (early : Type 0) (log : List Entry) (c : ControllerState) (marks : Marks) (waiting : List Sent) (longer : IsPrefix log (committed c)) (more : processed log < processed (committed c))
        (late : early → ⊥) (there : processed log < length (received log)) (grown : (s : ℕ) → life_in s (received log) ≤ life_in s (received (committed c)))
        (h : Holds early log marks waiting) (n : AreReached log marks waiting) (finished : 0 < waits is_clear waiting → wanted kinds setup log marks ≡ []) where
      abbrev due : List Issued
      due = commands_of kinds setup (received log) (processed log)

      abbrev words : List AckThrough
      words = clears_at kinds setup (committed c) (processed log)

      words_few : length words ≤ length setup.ports
      words_few =
          let told = is_told (committed c) (commands_of kinds setup (received (committed c)) (processed log)) in
          let same = length-map {B = AckThrough} (filter told (range_with_len 0 (length setup.ports))) (λ s. record {
            switch = s;
            life = life_in s (received (committed c));
            through = settled_commands kinds setup (committed c) s (life_in s (received (committed c)));
          }) in
          let fewer = fewer_filter told (range_with_len 0 (length setup.ports)) in
          let count = length-range_with_len 0 (length setup.ports) in
          omega (arith, same, fewer, count)

      -- where one waits, each command of the event is of a life that has ended
      ended : 0 < waits is_clear waiting → (x : Issued) → IsIn x due → has_ended x.switch x.life (received (committed c)) ≡ true
      ended some x among = elim (cases_Bool (has_ended x.switch x.life (received log))) [
        | inl over ↦
            let less = ltb-true x.life (life_in x.switch (received log)) over in
            let up = grown x.switch in
            lt-ltb x.life (life_in x.switch (received (committed c))) (omega (arith, less, up))
        | inr lasts ↦ elim (cases_Bool (has_result marks x.switch x.life x.number)) [
          | inl is ↦
              let own = h.lives x.switch x.life x.number is in
              let here : has_result marks x.switch (life x.switch) x.number ≡ true = ap (λ (l : ℕ). has_result marks x.switch l x.number) (sym own.1) ∙ is in
              let low = h.marked (let all = in_front early log marks waiting h in omega (arith, all, some)) x.switch x.number own.0 here in
              let least = (command_within kinds setup (processed log) (received log) x among).0 in
              let same = ap (λ (l : ℕ). counted kinds setup x.switch l (take (processed log) (received log))) own.1 in
              let settled = done_is kinds setup x.switch (life x.switch) log in
              absurd (omega (arith, low, least, same, settled))
          | inr not_yet ↦
              let wants = and_from (not (has_result marks x.switch x.life x.number)) (not (has_ended x.switch x.life (received log)))
              (not_from_false (has_result marks x.switch x.life x.number) not_yet) (not_from_false (has_ended x.switch x.life (received log)) lasts) in
              absurd (subst (λ (l : List Issued). IsIn x l) (finished some) (filter_has (is_wanted log marks) due x among wants))
        ]
      ]

      words_none : 0 < waits is_clear waiting → words ≡ []
      words_none some =
          ended_clears kinds setup (committed c) (commands_of kinds setup (received (committed c)) (processed log)) (λ x among.
          ended some x (subst (λ (l : List Issued). IsIn x l) (commands_stay kinds setup (received log) (received (committed c)) (processed log) (received_prefix longer) there) among))

      abbrev answers : List (Letter ControllerSays)
      answers = answers_at kinds setup c (processed log)

      answers_few : waits is_clear waiting + clears_posted p answers ≤ length setup.ports
      answers_few =
          let parts = posts_append is_clear controller_message (actor.Controller p) (map ack_letter (acknowledges_at (committed c) (processed log))) (map clear_letter words) in
          let acks = posts_never is_clear controller_message (actor.Controller p) ack_letter (λ x. refl) (acknowledges_at (committed c) (processed log)) in
          let clears = posts_always is_clear controller_message (actor.Controller p) clear_letter (λ x. refl) words in
          let before = held_few early log marks waiting h in
          elim (cases_lt 0 (waits is_clear waiting)) [
            | inl some ↦ let none = ap (λ (l : List AckThrough). length l) (words_none some) in omega (arith, parts, acks, clears, before, none)
            | inr zero_it ↦ let few = words_few in omega (arith, parts, acks, clears, few, zero_it)
          ]

      pub held_answered : Holds early (committed c) marks (waiting ++ posted p answers)
      held_answered =
          let all = reached_posted early log marks waiting answers n in
          record {
            front = waiting ++ posted p answers;
            back = [];
            joined = sym (append-nil (waiting ++ posted p answers));
            none = refl;
            few = let parts = waits_append is_clear waiting (posted p answers) in let few = answers_few in omega (arith, parts, few);
            results = λ s i there among. let low = all.results s i there among in let up = reached_done s longer more in omega (arith, low, up);
            marked = λ some s i there is. let low = n.marked s i there is in let up = reached_done s longer more in omega (arith, low, up);
            lives = h.lives;
            too_early = λ e. absurd (late e);
          }

      pub reached_answered : AreReached (committed c) marks (waiting ++ posted p answers)
      reached_answered =
          reached_longer early log marks (committed c) longer (waiting ++ posted p answers) (reached_posted early log marks waiting answers n)

  -- the lives of the switches go on
  pub held_lives : (life life' : ℕ → ℕ) → ((s : ℕ) → life' s ≡ life s) → (early : Type 0) (log : List Entry) (marks : Marks) (waiting : List Sent) → Holds life early log marks waiting → Holds life' early log marks waiting
  held_lives life life' same early log marks waiting h = record {
    front = h.front;
    back = h.back;
    joined = h.joined;
    none = h.none;
    few = h.few;
    results = λ s i there among. subst (λ (l : ℕ). i < settled_commands kinds setup log s l) (sym (same s)) (h.results s i there among);
    marked = λ some s i there is.
        subst (λ (l : ℕ). i < settled_commands kinds setup log s l) (sym (same s)) (h.marked some s i there (ap (λ (l : ℕ). has_result marks s l i) (sym (same s)) ∙ is));
    lives = λ s l i is. let own = h.lives s l i is in (own.0, own.1 ∙ sym (same s));
    too_early = h.too_early;
  }

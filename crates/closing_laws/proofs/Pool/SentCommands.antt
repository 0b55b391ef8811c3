-- The commands of the first unprocessed event that the primary has sent and whose results are still to come: of those that pass a test,
-- how many there are, and what a turn makes of that.
use Rattle.std.proofs.Common.{◌≡◌, ◌≤◌, ◌<◌, ◌⊎◌, inl, inr, ℕ, ◌+◌, ◌*◌, Bool, true, false, List, [], length, take, refl, sym, ◌∙◌, ap, arith}
use Rattle.std.specs.Prelude.{count_by, nat_eq, nat_lt, not, ◌&&◌, Option, if◌then◌else◌}
use Rattle.std.specs.List.{range_with_len}
use Rattle.std.proofs.lemmas.Bool.{and_from, and_parts, cases_Bool, cases_lt, eq-eqb, eqb-true, le-ltb, lt-ltb, ltb-true, ne_eqb, true≢false}
use Rattle.std.proofs.lemmas.List.Sums.{count_by-le-length}
use Rattle.list_facts.specs.Lists.{IsIn, IsPrefix}
use Rattle.of_types.specs.declared.message.Event.{Event}
use Rattle.of_types.specs.declared.setup.Setup.{Setup}
use Rattle.of_types.specs.Lives.{has_ended, life_in}
use Rattle.vr_log.specs.declared.entry.Entry.{Entry}
use Rattle.vr_log.specs.Log.{processed, received}
use Rattle.two_stage_log.specs.Counts.{has_unprocessed}
use Rattle.app_core.specs.declared.issued.Issued.{Issued}
use Rattle.app_core.specs.Issued.{commands_of, count_issued}
use Rattle.controller_moves.proofs.ControllerLaws.Logs.{processed_prefix}
use Rattle.dispatcher.specs.Ledger.{most_commands}
use Rattle.dispatcher.specs.Marks.{Marks, has_result, is_confirmed, is_wanted, outstanding, wanted, with_mark}
use Rattle.group_controller.specs.State.{ControllerState, committed}
use Rattle.group_controller.specs.Settling.{is_some_of}
use Rattle.closing_laws.specs.Following.{Start}
use Rattle.closing_laws.specs.Serving.{AreFew}
use Rattle.closing_laws.proofs.Pool.TestCounts.{count_but, count_filter, count_less, count_more, is_numbered, numbered_once}
use Rattle.closing_laws.proofs.Primary.Numbering.{commands_numbered, counted, in_range, of_range}
use Rattle.closing_laws.proofs.Primary.Resulted.{mark_confirmed, mark_new}
use Rattle.closing_laws.proofs.Primary.WantedCommands.{due_past, due_stays}
use Rattle.closing_laws.proofs.Truths.CommandsNamed.{command_named}

-- a command of the present life of its switch, or of a past one
abbrev pub of_present : (ℕ → ℕ) → Issued → Bool
of_present life x = nat_eq x.life (life x.switch)

abbrev pub of_past : (ℕ → ℕ) → Issued → Bool
of_past life x = not (nat_eq x.life (life x.switch))

-- once all of the first log is committed: what was sent then
abbrev pub slack : Start → ℕ → ℕ
slack start commit = if nat_lt commit (length start.log) then 0 else most_commands

-- how many switches have their present life in these events
abbrev pub is_moved : (ℕ → ℕ) → List Event → ℕ → Bool
is_moved life events s = nat_eq (life_in s events) (life s)

abbrev pub moved : Setup → (ℕ → ℕ) → List Event → ℕ
moved setup life events = count_by (is_moved life events) (range_with_len 0 (length setup.ports))

-- what bounds the commands on their way, beside those that were sent and wait
abbrev pub pay_present : Start → ℕ → List Event → ℕ
pay_present start commit events = slack start commit

abbrev pub pay_past : Setup → Start → (ℕ → ℕ) → ℕ → List Event → ℕ
pay_past setup start life commit events = most_commands * moved setup life events + slack start commit

module _ (kinds : List ℕ) (setup : Setup) where
  -- the commands of the first unprocessed event
  abbrev pub due_in : List Entry → List Issued
  due_in log = commands_of kinds setup (received log) (processed log)

  module _ (sel : Issued → Bool) where
    -- one that passes the test was sent, and its result is still to come
    abbrev pub stands : List Entry → Marks → Issued → Bool
    stands log marks x = is_wanted log marks x && (is_confirmed marks x.switch && sel x)

    -- they are sent once the event is told
    abbrev pub sent_in : List Entry → Marks → Option ℕ → ℕ
    sent_in log marks last = if has_unprocessed log && not (is_some_of (processed log) last) then 0 else count_by (stands log marks) (due_in log)

    abbrev pub sent_by_now : ControllerState → ℕ
    sent_by_now c = sent_in (committed c) c.marks c.last_told

    pub outstanding_count : (log : List Entry) (marks : Marks) → count_by sel (outstanding kinds setup log marks) ≡ count_by (stands log marks) (due_in log)
    outstanding_count log marks =
        count_filter sel (λ x. is_confirmed marks x.switch) (wanted kinds setup log marks)
        ∙ count_filter (λ x. is_confirmed marks x.switch && sel x) (is_wanted log marks) (due_in log)

    pub sent_few : AreFew kinds setup → (log : List Entry) (marks : Marks) (last : Option ℕ) → sent_in log marks last ≤ most_commands
    sent_few few log marks last = by_told (has_unprocessed log && not (is_some_of (processed log) last))
      where
        by_told : (b : Bool) → (if b then 0 else count_by (stands log marks) (due_in log)) ≤ most_commands
        by_told true = omega arith
        by_told false = let a = count_by-le-length (stands log marks) (due_in log) in let b = few.few (received log) (processed log) in omega (arith, a, b)

    pub sent_none : (log : List Entry) (marks : Marks) (last : Option ℕ) → wanted kinds setup log marks ≡ [] → sent_in log marks last ≡ 0
    sent_none log marks last none = by_told (has_unprocessed log && not (is_some_of (processed log) last))
      where
        by_told : (b : Bool) → (if b then 0 else count_by (stands log marks) (due_in log)) ≡ 0
        by_told true = refl
        by_told false =
            sym (count_filter (λ x. is_confirmed marks x.switch && sel x) (is_wanted log marks) (due_in log)) ∙ ap (λ (xs : List Issued). count_by (λ x. is_confirmed marks x.switch && sel x) xs) none

    -- more is committed, and none of them is done with by that
    module _ (front log : List Entry) (marks : Marks) (last : Option ℕ) (p : IsPrefix front log) (same : processed log ≡ processed front)
        (each : (x : Issued) → IsIn x (due_in front) → is_wanted front marks x ≡ true → sel x ≡ true → is_wanted log marks x ≡ true) where
      count_stays : has_unprocessed front ≡ true → count_by (stands front marks) (due_in front) ≤ count_by (stands log marks) (due_in log)
      count_stays there =
          let less = ltb-true (processed front) (length (received front)) there in
          let more = count_less (stands front marks) (stands log marks) (due_in front) (λ x among h.
          let parts = and_parts (is_wanted front marks x) (is_confirmed marks x.switch && sel x) h in
          let others = and_parts (is_confirmed marks x.switch) (sel x) parts.1 in
          and_from (is_wanted log marks x) (is_confirmed marks x.switch && sel x) (each x among parts.0 others.1) parts.1) in
          let due = ap (λ (xs : List Issued). count_by (stands log marks) xs) (due_stays kinds setup p same less) in
          omega (arith, more, due)

      pub sent_stays : sent_in front marks last ≤ sent_in log marks last
      sent_stays = by_place (has_unprocessed front) refl (is_some_of (processed front) last) refl
        where
          by_place : (h : Bool) → has_unprocessed front ≡ h → (t : Bool) → is_some_of (processed front) last ≡ t →
              (if h && not t then 0 else count_by (stands front marks) (due_in front)) ≤ sent_in log marks last
          by_place false none t told = let n = ap (λ (xs : List Issued). count_by (stands front marks) xs) (due_past kinds setup front none) in omega (arith, n)
          by_place true there false told = omega arith
          by_place true there true told =
              let told_now : is_some_of (processed log) last ≡ true = ap (λ (n : ℕ). is_some_of n last) same ∙ told in
              let now : sent_in log marks last ≡ count_by (stands log marks) (due_in log) = ap (λ (b : Bool). if b then 0 else count_by (stands log marks) (due_in log))
              (and_right' (has_unprocessed log) told_now) in
              let more = count_stays there in
              omega (arith, now, more)
            where
              and_right' : (a : Bool) {b : Bool} → b ≡ true → (a && not b) ≡ false
              and_right' true is = ap not is
              and_right' false is = refl

    -- a result comes: at most the command that it is for waits no more
    module _ (log : List Entry) (marks : Marks) (last : Option ℕ) (k life number : ℕ) (hit : Bool) (own : (x : Issued) → x.switch ≡ k → x.life ≡ life → sel x ≡ true → hit ≡ true) where
      abbrev now_marked : Marks
      now_marked = with_mark marks k life number

      stands_or : (x : Issued) → stands log marks x ≡ true → (stands log now_marked x ≡ true) ⊎ ((is_numbered k life number x ≡ true) × (hit ≡ true))
      stands_or x h =
          let a = and_parts (is_wanted log marks x) (is_confirmed marks x.switch && sel x) h in
          let b = and_parts (is_confirmed marks x.switch) (sel x) a.1 in
          let c = and_parts (not (has_result marks x.switch x.life x.number)) (not (has_ended x.switch x.life (received log))) a.0 in
          elim (cases_Bool (has_result now_marked x.switch x.life x.number)) [
            | inl marked ↦ elim (mark_new marks k life number x.switch x.life x.number marked) [
              | inl old ↦ absurd (true≢false (sym c.0 ∙ ap not old))
              | inr new ↦ inr (
                and_from (nat_eq x.switch k && nat_eq x.life life) (nat_eq x.number number)
                    (and_from (nat_eq x.switch k) (nat_eq x.life life) (eq-eqb x.switch k (sym new.0)) (eq-eqb x.life life (sym new.1))) (eq-eqb x.number number (sym new.2)),
                own x (sym new.0) (sym new.1) b.1,
              )
            ]
            | inr other ↦ inl (
                and_from (is_wanted log now_marked x) (is_confirmed now_marked x.switch && sel x)
                (and_from (not (has_result now_marked x.switch x.life x.number)) (not (has_ended x.switch x.life (received log))) (ap not other) c.1)
                (and_from (is_confirmed now_marked x.switch) (sel x) (mark_confirmed marks k life number x.switch ∙ b.0) b.1))
          ]

      one_number : count_by (is_numbered k life number) (due_in log) ≤ 1
      one_number = elim (cases_Bool (has_unprocessed log)) [
        | inl there ↦
            numbered_once k life number (counted kinds setup k life (take (processed log) (received log))) (count_issued k life (due_in log)) (due_in log)
            (commands_numbered kinds setup k life (processed log) (received log) (ltb-true (processed log) (length (received log)) there))
        | inr none ↦ (let e = ap (λ (xs : List Issued). count_by (is_numbered k life number) xs) (due_past kinds setup log none) in omega (arith, e))
      ]

      counts_marked : (h : Bool) → hit ≡ h → count_by (stands log marks) (due_in log) ≤ (if h then 1 else 0) + count_by (stands log now_marked) (due_in log)
      counts_marked true is =
          let more = count_but (stands log marks) (stands log now_marked) (is_numbered k life number) (due_in log) (λ x among h. elim (stands_or x h) [ inl still ↦ inl still | inr gone ↦ inr gone.0 ]) in
          let one = one_number in
          omega (arith, more, one)
      counts_marked false is =
          let less = count_less (stands log marks) (stands log now_marked) (due_in log) (λ x among h. elim (stands_or x h) [
            | inl still ↦ still
            | inr gone ↦ absurd (true≢false (sym gone.1 ∙ is))
          ]) in
          omega (arith, less)

      pub marked_less : sent_in log marks last ≤ (if hit then 1 else 0) + sent_in log now_marked last
      marked_less = by_told (has_unprocessed log && not (is_some_of (processed log) last))
        where
          by_told : (b : Bool) → (if b then 0 else count_by (stands log marks) (due_in log)) ≤ (if hit then 1 else 0) + (if b then 0 else count_by (stands log now_marked) (due_in log))
          by_told true = omega arith
          by_told false = counts_marked hit refl

  -- ---- commands of present lives, and of past ones

  module _ (few : AreFew kinds setup) (start : Start) (life : ℕ → ℕ) where
    pub slack_grows : (n m : ℕ) → n ≤ m → slack start n ≤ slack start m
    slack_grows n m le = elim (cases_lt n (length start.log)) [
      | inl early ↦ (let e = ap (λ (b : Bool). if b then 0 else most_commands) (lt-ltb n (length start.log) early) in omega (arith, e))
      | inr late ↦
          let e = ap (λ (b : Bool). if b then 0 else most_commands) (le-ltb n (length start.log) late) in
          let f = ap (λ (b : Bool). if b then 0 else most_commands) (le-ltb m (length start.log) (omega (arith, late, le))) in
          omega (arith, e, f)
    ]

    -- More is committed: the first jump brings all of the first log, and behind that an event is known as processed only where none of its
    -- commands is wanted, and new events are of present lives.
    pub record Grown (front log : List Entry) (n m : ℕ) (marks : Marks) : Type 0 where
      pub prefix : IsPrefix front log
      pub grows : (s : ℕ) → life_in s (received front) ≤ life_in s (received log)
      pub up : n ≤ m
      pub most : processed log ≤ processed front + 1
      pub early : n < length start.log → length start.log ≤ m
      pub done : length start.log ≤ n → processed front < processed log → wanted kinds setup front marks ≡ []
      pub present : length start.log ≤ n → (s : ℕ) → life_in s (received front) < life_in s (received log) → life_in s (received log) ≡ life s
      pub young : (s : ℕ) → s < length setup.ports → life_in s (received log) ≤ life s

    module _ (front log : List Entry) (n m : ℕ) (marks : Marks) (last : Option ℕ) (g : Grown front log n m marks) where
      slack_early : n < length start.log → (slack start n ≡ 0) × (slack start m ≡ most_commands)
      slack_early less = (
        ap (λ (b : Bool). if b then 0 else most_commands) (lt-ltb n (length start.log) less),
        ap (λ (b : Bool). if b then 0 else most_commands) (le-ltb m (length start.log) (g.early less)),
      )

      -- still wanted, where its life goes on
      goes_on : (x : Issued) → life_in x.switch (received log) ≤ x.life → is_wanted front marks x ≡ true → is_wanted log marks x ≡ true
      goes_on x le h =
          let parts = and_parts (not (has_result marks x.switch x.life x.number)) (not (has_ended x.switch x.life (received front))) h in
          and_from (not (has_result marks x.switch x.life x.number)) (not (has_ended x.switch x.life (received log))) parts.0
          (ap not (le-ltb x.life (life_in x.switch (received log)) le))

      went_on : (x : Issued) → is_wanted front marks x ≡ true → life_in x.switch (received front) ≤ x.life
      went_on x h =
          let parts = and_parts (not (has_result marks x.switch x.life x.number)) (not (has_ended x.switch x.life (received front))) h in
          elim (cases_lt x.life (life_in x.switch (received front))) [
            | inl ends ↦ absurd (true≢false (sym parts.1 ∙ ap not (lt-ltb x.life (life_in x.switch (received front)) ends)))
            | inr le ↦ le
          ]

      named : (x : Issued) → IsIn x (due_in front) → x.switch < length setup.ports
      named x among = (command_named kinds setup few (received front) (processed front) x among).there

      by_processed : (Q : Type 0) → (processed log ≡ processed front → Q) → (processed front < processed log → Q) → Q
      by_processed Q same more = elim (cases_lt (processed front) (processed log)) [
        | inl less ↦ more less
        | inr still ↦ (let grows = processed_prefix g.prefix in same (omega (arith, still, grows)))
      ]

      pub present_grows : sent_in (of_present life) front marks last + pay_present start n (received front) ≤ sent_in (of_present life) log marks last + pay_present start m (received log)
      present_grows =
          let all = sent_few (of_present life) few front marks last in
          elim (cases_lt n (length start.log)) [
            | inl less ↦ let s = slack_early less in omega (arith, all, s)
            | inr late ↦
                let up = slack_grows n m g.up in
                by_processed (sent_in (of_present life) front marks last + pay_present start n (received front) ≤ sent_in (of_present life) log marks last + pay_present start m (received log))
                (λ same.
                let stays = sent_stays (of_present life) front log marks last g.prefix same (λ x among wants own.
                goes_on x (let young = g.young x.switch (named x among) in let is = eqb-true x.life (life x.switch) own in omega (arith, young, is)) wants) in
                omega (arith, stays, up))
                (λ more. let none = sent_none (of_present life) front marks last (g.done late more) in omega (arith, none, up))
          ]

      in_ports : (s : ℕ) → IsIn s (range_with_len 0 (length setup.ports)) → s < length setup.ports
      in_ports s among = let r = of_range 0 (length setup.ports) s among in omega (arith, r)

      stays_moved : (s : ℕ) → IsIn s (range_with_len 0 (length setup.ports)) → is_moved life (received front) s ≡ true → is_moved life (received log) s ≡ true
      stays_moved s among is =
          let here = eqb-true (life_in s (received front)) (life s) is in
          let grows = g.grows s in
          let young = g.young s (in_ports s among) in
          eq-eqb (life_in s (received log)) (life s) (omega (arith, here, grows, young))

      moved_grows : moved setup life (received front) ≤ moved setup life (received log)
      moved_grows = count_less (is_moved life (received front)) (is_moved life (received log)) (range_with_len 0 (length setup.ports)) stays_moved

      -- a command's life ends only where its switch moves
      ends_moved : length start.log ≤ n → (x : Issued) → IsIn x (due_in front) → is_wanted front marks x ≡ true →
          x.life < life_in x.switch (received log) → moved setup life (received front) < moved setup life (received log)
      ends_moved late x among wants ends =
          let before = went_on x wants in
          let now = g.present late x.switch (omega (arith, before, ends)) in
          let there = named x among in
          count_more (is_moved life (received front)) (is_moved life (received log)) (range_with_len 0 (length setup.ports)) stays_moved x.switch (in_range 0 (length setup.ports) x.switch (omega arith) (omega (arith, there)))
          (ne_eqb (life_in x.switch (received front)) (life x.switch) (λ e. omega (arith, e, now, before, ends))) (eq-eqb (life_in x.switch (received log)) (life x.switch) now)

      pub past_grows : sent_in (of_past life) front marks last + pay_past setup start life n (received front) ≤ sent_in (of_past life) log marks last + pay_past setup start life m (received log)
      past_grows =
          let all = sent_few (of_past life) few front marks last in
          let more_moved = moved_grows in
          elim (cases_lt n (length start.log)) [
            | inl less ↦ let s = slack_early less in omega (arith, all, s, more_moved)
            | inr late ↦
                let up = slack_grows n m g.up in
                by_processed (sent_in (of_past life) front marks last + pay_past setup start life n (received front) ≤ sent_in (of_past life) log marks last + pay_past setup start life m (received log))
                (λ same. elim (cases_lt (moved setup life (received front)) (moved setup life (received log))) [
                  | inl rises ↦ omega (arith, all, up, rises)
                  | inr still ↦
                      let stays = sent_stays (of_past life) front log marks last g.prefix same (λ x among wants own. elim (cases_lt x.life (life_in x.switch (received log))) [
                        | inl ends ↦ absurd (let m = ends_moved late x among wants ends in omega (arith, m, still))
                        | inr le ↦ goes_on x le wants
                      ]) in
                      omega (arith, stays, up, more_moved)
                ])
                (λ more. let none = sent_none (of_past life) front marks last (g.done late more) in omega (arith, none, up, more_moved))
          ]

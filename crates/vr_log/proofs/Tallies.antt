-- The tally of a log tells what fits behind it, and goes on with it.
use Rattle.std.proofs.Common.{inl, inr, ◌≡◌, ◌≤◌, ◌<◌, ℕ, ◌+◌, ◌-◌, ◌^◌, min, Bool, true, false, ◌&&◌, List, [], ◌∷◌, ◌++◌, length, get_or, take, drop, refl, ap, sym, subst, ◌∙◌, append-nil, append_assoc, length-append, arith}
use Rattle.std.specs.Prelude.{nat_eq, nat_lt, if◌then◌else◌}
use Rattle.std.proofs.lemmas.Bool.{eqb-true, eq-eqb, ne_eqb, ltb-true, and_parts, cases_eq}
use Rattle.std.proofs.lemmas.List.{take_more, drop_more, take_all, drop_all}
use Rattle.std.proofs.lemmas.List.Sums.{count_by-le-length}
use Rattle.of_types.specs.declared.message.Event.{Event}
use Rattle.of_types.specs.Lives.{life_in, count_in, is_switch_up}
use Rattle.of_types.proofs.Counts.{life_in-append, count_here, count_there}
use Rattle.vr_log.specs.declared.entry.Entry.{Entry}
use Rattle.vr_log.specs.declared.entry.Entry.TheVariants.{Received, Processed}
use Rattle.vr_log.specs.declared.tally.Place.{Place}
use Rattle.vr_log.specs.declared.tally.Tally.{Tally}
use Rattle.vr_log.specs.Log.{received, is_past_limits, may_be_received, may_follow, fits, follows, IsLog}
use Rattle.vr_log.specs.Tally.{next_place_of, IsNextPlace, PlacesNext, IsTally, IsCounted, Tells, is_log_full, may_join, joins}
use Rattle.vr_log.proofs.Logs.{received-append, length_is, processed_push, log_size_push, IsLog_push, IsLog_take, fits_is, none_after}

pub full_is : (log : List Entry) (tally : Tally) (entry : Entry) → IsTally log tally → is_log_full tally entry ≡ is_past_limits log entry
full_is log tally entry t =
    let e : tally.received + tally.processed ≡ length log = let r = t.events in let p = t.finished in let l = length_is log in omega arith in
    rw (e, t.size) refl

pub may_is : (log : List Entry) (tally : Tally) (entry : Entry) → IsTally log tally → may_join tally entry ≡ may_follow log entry
may_is log tally (Received event) t = let p = t.places event.switch in rw (p.life, p.number) refl
may_is log tally (Processed j) t = rw (t.finished, t.events) refl

pub joins_is : (log : List Entry) (tally : Tally) (entry : Entry) → IsTally log tally → joins tally entry ≡ fits log entry
joins_is log tally entry t = rw (full_is log tally entry t, may_is log tally entry t) refl

pub no_tally : IsTally [] (record { bytes = 0; received = 0; processed = 0; places = [] })
no_tally = record { size = refl; events = refl; finished = refl; places = λ s. record { life = refl; number = refl } }

-- what an event that fits has for a number: the count of its life
number_is : (event : Event) (log : List Entry) → IsLog log → may_be_received event (received log) ≡ true → event.number ≡ count_in event.switch event.life (received log)
number_is event log lawful h = chosen (nat_eq event.life (life_in event.switch (received log))) refl h
  where
    chosen : (b : Bool) → nat_eq event.life (life_in event.switch (received log)) ≡ b →
        (if b then nat_eq event.number (count_in event.switch (life_in event.switch (received log)) (received log)) else nat_lt (life_in event.switch (received log)) event.life && nat_eq event.number 0 && is_switch_up event.what) ≡ true → event.number ≡ count_in event.switch event.life (received log)
    chosen true e k = eqb-true _ _ k ∙ ap (λ (life : ℕ). count_in event.switch life (received log)) (sym (eqb-true event.life (life_in event.switch (received log)) e))
    chosen false e k =
        let p = and_parts (nat_lt (life_in event.switch (received log)) event.life && nat_eq event.number 0) (is_switch_up event.what) k in
        let q = and_parts (nat_lt (life_in event.switch (received log)) event.life) (nat_eq event.number 0) p.0 in
        eqb-true _ _ q.1 ∙ sym (none_after log lawful.follow event.switch event.life (ltb-true _ _ q.0))

-- no count is above the length
count_most : (s life : ℕ) (events : List Event) → count_in s life events ≤ length events
count_most s life events = count_by-le-length _ events

-- the place of the next event of the switch of an event that fits
event_place : (log : List Entry) (event : Event) → IsLog log → fits log (Received event) ≡ true → (next : Place) →
    next ≡ record { life = event.life; number = min (2 ^ 64 - 1) (event.number + 1) } → IsNextPlace event.switch (received log ++ event ∷ []) next
event_place log event lawful f next is =
    let fit = fits_is log (Received event) f in
    let life : life_in event.switch (received log ++ event ∷ []) ≡ event.life = life_in-append event.switch (received log) event ∙ rw (eq-eqb event.switch event.switch refl) refl in
    let number = number_is event log lawful fit.may in
    let more = count_here (received log) event in
    let most = count_most event.switch event.life (received log) in
    let all = length_is log in
    let short = fit.short in
    record {
      life = ap (λ (p : Place). p.life) is ∙ sym life;
      number = ap (λ (p : Place). p.number) is ∙ rw life (omega arith);
    }

other_place : (s : ℕ) (events : List Event) (event : Event) → (event.switch ≡ s → ⊥) → (old next : Place) → next ≡ old → IsNextPlace s events old → IsNextPlace s (events ++ event ∷ []) next
other_place s events event other old next is h =
    let life : life_in s (events ++ event ∷ []) ≡ life_in s events = life_in-append s events event ∙ rw (ne_eqb event.switch s other) refl in
    record {
      life = ap (λ (p : Place). p.life) is ∙ (h.life ∙ sym life);
      number = ap (λ (p : Place). p.number) is ∙ (h.number ∙ rw life (sym (count_there s (life_in s events) events event other)));
    }

next_placed : (log : List Entry) (old new : List Place) (event : Event) → IsLog log → fits log (Received event) ≡ true → PlacesNext old (Received event) new →
    (s : ℕ) → IsNextPlace s (received log) (next_place_of old s) → IsNextPlace s (received log ++ event ∷ []) (next_place_of new s)
next_placed log old new event lawful f put s h =
    elim (cases_eq event.switch s) [
      | inl same ↦
          subst (λ (k : ℕ). IsNextPlace k (received log ++ event ∷ []) (next_place_of new k)) same
          (event_place log event lawful f (next_place_of new event.switch) (put event.switch ∙ rw (eq-eqb event.switch event.switch refl) refl))
      | inr other ↦ other_place s (received log) event other (next_place_of old s) (next_place_of new s) (put s ∙ rw (ne_eqb s event.switch (λ e. other (sym e))) refl) h
    ]

pub counted_is : (log : List Entry) (old new : Tally) (entry : Entry) → IsLog log → IsTally log old → fits log entry ≡ true → IsCounted old entry new → IsTally (log ++ entry ∷ []) new
counted_is log old new (Received event) lawful t f c =
    let events : received (log ++ Received event ∷ []) ≡ received log ++ event ∷ [] = received-append log (Received event ∷ []) in
    record {
      size = let b = c.bytes in let o = t.size in let s = log_size_push log (Received event) in omega arith;
      events = c.received ∙ rw (events, t.events, length-append (received log) (event ∷ [])) refl;
      finished = c.processed ∙ rw (t.finished, processed_push log (Received event)) refl;
      places = λ s. rw events (next_placed log old.places new.places event lawful f c.places s (t.places s));
    }
counted_is log old new (Processed j) lawful t f c =
    let events : received (log ++ Processed j ∷ []) ≡ received log = received-append log (Processed j ∷ []) ∙ append-nil (received log) in
    record {
      size = let b = c.bytes in let o = t.size in let s = log_size_push log (Processed j) in omega arith;
      events = c.received ∙ rw (events, t.events) (omega arith);
      finished = c.processed ∙ rw (t.finished, processed_push log (Processed j)) refl;
      places = λ s. rw (events, c.places) (t.places s);
    }

-- so far entries were counted behind a log
pub record SoFar (log entries : List Entry) (i : ℕ) (tally : Tally) : Type 0 where
  pub lawful : IsLog (log ++ take i entries)
  pub counts : IsTally (log ++ take i entries) tally
  pub rest : follows (log ++ take i entries) (drop i entries) ≡ follows log entries

pub starts : (log entries : List Entry) (tally : Tally) → IsLog log → IsTally log tally → SoFar log entries 0 tally
starts log entries tally lawful t =
    let none : log ++ [] ≡ log = append-nil log in
    record { lawful = rw none lawful; counts = rw none t; rest = rw none refl }

module _ (log entries : List Entry) (i : ℕ) (tally : Tally) (item : Entry) (s : SoFar log entries i tally) (lt : i < length entries) (is : item ≡ get_or entries i item) where
  rest_is : follows (log ++ take i entries) (drop i entries) ≡ (fits (log ++ take i entries) item && follows (log ++ take i entries ++ item ∷ []) (drop (i + 1) entries))
  rest_is = rw (drop_more entries i item lt, sym is) refl

  front_is : log ++ take (i + 1) entries ≡ log ++ take i entries ++ item ∷ []
  front_is = rw (take_more entries i item lt, sym is) (sym (append_assoc log (take i entries) (item ∷ [])))

  pub goes_on : (new : Tally) → joins tally item ≡ true → IsCounted tally item new → SoFar log entries (i + 1) new
  goes_on new j c =
      let f : fits (log ++ take i entries) item ≡ true = sym (joins_is (log ++ take i entries) tally item s.counts) ∙ j in
      record {
        lawful = rw front_is (IsLog_push (log ++ take i entries) item s.lawful f);
        counts = rw front_is (counted_is (log ++ take i entries) tally new item s.lawful s.counts f c);
        rest = rw front_is (sym (rest_is ∙ rw f refl) ∙ s.rest);
      }

  pub stops : joins tally item ≡ false → follows log entries ≡ false
  stops j =
      let f : fits (log ++ take i entries) item ≡ false = sym (joins_is (log ++ take i entries) tally item s.counts) ∙ j in
      sym s.rest ∙ (rest_is ∙ rw f refl)

  -- the next entry of a log joins
  pub joins_now : follows log entries ≡ true → joins tally item ≡ true
  joins_now h =
      joins_is (log ++ take i entries) tally item s.counts
      ∙ (and_parts (fits (log ++ take i entries) item) (follows (log ++ take i entries ++ item ∷ []) (drop (i + 1) entries)) (sym rest_is ∙ (s.rest ∙ h))).0

pub ends : (log entries : List Entry) (i : ℕ) (tally : Tally) → SoFar log entries i tally → length entries ≤ i → (true ≡ follows log entries) × (true ≡ true → IsTally (log ++ entries) tally)
ends log entries i tally s le =
    let all : take i entries ≡ entries = take_all i entries le in
    let none : drop i entries ≡ [] = drop_all i entries le in
    (rw (sym s.rest, none) refl, λ _. subst (λ (l : List Entry). IsTally (log ++ l) tally) all s.counts)

-- the log that an entry joins
pub appended_is : (log : List Entry) (old new : Tally) (entry : Entry) → IsLog log → IsTally log old → fits log entry ≡ true → IsCounted old entry new →
    IsLog (log ++ entry ∷ []) × IsTally (log ++ entry ∷ []) new
appended_is log old new entry lawful t f c = (IsLog_push log entry lawful f, counted_is log old new entry lawful t f c)

-- the tally of a front, and of what was counted behind it
pub told : (log entries slice : List Entry) (first : ℕ) (tally new : Tally) (taken : Bool) → IsLog log → IsTally (take first log) tally → slice ≡ entries → Tells tally slice taken new →
    (taken ≡ follows (take first log) entries) × (taken ≡ true → IsTally (take first log ++ entries) new)
told log entries slice first tally new taken lawful t is tells =
    let r = tells (take first log) (IsLog_take first log lawful) t in
    (r.0 ∙ rw is refl, λ yes. subst (λ (l : List Entry). IsTally (take first log ++ l) new) is (r.1 yes))

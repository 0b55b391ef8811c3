-- What a log that was followed tells of its next line.
use Rattle.std.proofs.Common.{inl, inr, ◌≡◌, ◌<◌, ℕ, ◌+◌, Bool, true, false, ◌||◌, List, ◌∷◌, [], ◌++◌, length, get_or, refl, sym, ap, subst, ◌∙◌, arith, append-nil, length-append}
use Rattle.std.specs.Prelude.{nat_eq, if◌then◌else◌}
use Rattle.std.specs.List.{list_any}
use Rattle.std.proofs.lemmas.Bool.{eq-eqb, ne_eqb, cases_eq}
use Rattle.std.proofs.lemmas.List.Folds.{list_any-append}
use Rattle.of_types.specs.declared.message.Event.{Event}
use Rattle.of_types.specs.Lives.{life_in, count_in}
use Rattle.of_types.proofs.Counts.{NoneAfter, none_after-append, life_in-append, count_in-append, count_here, count_there}
use Rattle.vr_log.specs.declared.entry.Entry.{Entry}
use Rattle.vr_log.specs.declared.entry.Entry.TheVariants.{Received, Processed}
use Rattle.vr_log.specs.Log.{received, may_be_received, may_follow}
use Rattle.vr_log.proofs.Logs.{received-append, processed_push, no_earlier, number_is}
use Rattle.audit.specs.declared.following.Following.{Following}
use Rattle.audit.specs.Following.{IsFollowingStart, IsFollowed, may_go_behind, Joined, Joins}
use Rattle.audit.specs.Names.{Name, same_name, name_of}
use Rattle.audit.proofs.Issues.{zero_at}
use Rattle.audit.proofs.Naming.{name_equal, name_same}

-- each of these events has a number below the count of its life
abbrev pub AreCounted : List Event → List Event → Type 0
AreCounted all [] = Unit {0}
AreCounted all (e ∷ events) = (e.number < count_in e.switch e.life all) × AreCounted all events

-- no two of these events have one name
abbrev pub AreApart : List Event → Type 0
AreApart [] = Unit {0}
AreApart (e ∷ events) = (list_any (λ f. same_name (name_of f) (name_of e)) events ≡ false) × AreApart events

pub record IsSound (events : List Event) : Type 0 where
  pub none_after : NoneAfter events
  pub counted : AreCounted events events
  pub apart : AreApart events

pub nothing_sound : IsSound []
nothing_sound = record { none_after = λ s life less. refl; counted = tt; apart = tt }

-- the name of an event that may be received is a new one
fresh_step : (e f : Event) (all : List Event) (rest : Bool) → e.number ≡ count_in e.switch e.life all → f.number < count_in f.switch f.life all → rest ≡ false → (b : Bool) → same_name (name_of f) (name_of e) ≡ b → (b || rest) ≡ false
fresh_step e f all rest number low none false is = none
fresh_step e f all rest number low none true is =
    let n = name_equal (name_of f) (name_of e) is in
    let a : f.switch ≡ e.switch = ap (λ (q : Name). q.0) n in
    let b : f.life ≡ e.life = ap (λ (q : Name). q.1) n in
    let d : f.number ≡ e.number = ap (λ (q : Name). q.2) n in
    let same : count_in f.switch f.life all ≡ count_in e.switch e.life all = ap (λ (s : ℕ). count_in s f.life all) a ∙ ap (λ (l : ℕ). count_in e.switch l all) b in
    absurd (omega (arith, number, d, same, low))

fresh : (e : Event) (all events : List Event) → e.number ≡ count_in e.switch e.life all → AreCounted all events → list_any (λ f. same_name (name_of f) (name_of e)) events ≡ false
fresh e all [] number counted = refl
fresh e all (f ∷ events) number counted =
    fresh_step e f all (list_any (λ g. same_name (name_of g) (name_of e)) events) number counted.0 (fresh e all events number counted.1) (same_name (name_of f) (name_of e)) refl

pub is_fresh : (e : Event) (events : List Event) → IsSound events → may_be_received e events ≡ true → list_any (λ f. same_name (name_of f) (name_of e)) events ≡ false
is_fresh e events sound h = fresh e events events (number_is e events sound.none_after h) sound.counted

counted_more : (e : Event) (all events : List Event) → AreCounted all events → AreCounted (all ++ e ∷ []) events
counted_more e all [] h = tt
counted_more e all (f ∷ events) h = (let a = h.0 in let b = count_in-append f.switch f.life all e in omega (arith, a, b), counted_more e all events h.1)

counted_push : (e : Event) (all events : List Event) → AreCounted all events → e.number < count_in e.switch e.life all → AreCounted all (events ++ e ∷ [])
counted_push e all [] h lt = (lt, tt)
counted_push e all (f ∷ events) h lt = (h.0, counted_push e all events h.1 lt)

turned : (a b : Name) → same_name a b ≡ false → same_name b a ≡ false
turned a b h = by (same_name b a) refl
  where
    by : (t : Bool) → same_name b a ≡ t → t ≡ false
    by false is = refl
    by true is = absurd cc (h, ap (λ (n : Name). same_name a n) (name_equal b a is) ∙ name_same a)

or_parts : (a b : Bool) → (a || b) ≡ false → (a ≡ false) × (b ≡ false)
or_parts false b h = (refl, h)
or_parts true b h = absurd cc

apart_push : (e : Event) (events : List Event) → AreApart events → list_any (λ f. same_name (name_of f) (name_of e)) events ≡ false → AreApart (events ++ e ∷ [])
apart_push e [] h new = (refl, tt)
apart_push e (f ∷ events) h new =
    let p = or_parts (same_name (name_of f) (name_of e)) (list_any (λ g. same_name (name_of g) (name_of e)) events) new in
    let last : list_any (λ g. same_name (name_of g) (name_of f)) (e ∷ []) ≡ false = ap (λ (b : Bool). b || false) (turned (name_of f) (name_of e) p.0) in
    (list_any-append (λ g. same_name (name_of g) (name_of f)) events (e ∷ []) ∙ ap (λ (b : Bool). b || list_any (λ g. same_name (name_of g) (name_of f)) (e ∷ [])) h.0 ∙ last, apart_push e events h.1 p.1)

pub sound_more : (e : Event) (events : List Event) → IsSound events → may_be_received e events ≡ true → IsSound (events ++ e ∷ [])
sound_more e events sound h =
    let number = number_is e events sound.none_after h in
    let here = count_here events e in
    record {
      none_after = none_after-append events e sound.none_after (no_earlier e events h);
      counted = counted_push e (events ++ e ∷ []) events (counted_more e events events sound.counted) (omega (arith, number, here));
      apart = apart_push e events sound.apart (is_fresh e events sound h);
    }

-- ---- what is kept while a log is followed

pub may_is : (log : List Entry) (f : Following) (entry : Entry) → IsFollowed log f → may_go_behind f entry ≡ may_follow log entry
may_is log f (Received e) t = rw (t.lives e.switch, t.numbers e.switch) refl
may_is log f (Processed j) t = rw (t.finished, t.events) refl

pub record IsStanding (log : List Entry) (f : Following) : Type 0 where
  pub followed : IsFollowed log f
  pub sound : IsSound (received log)

pub starts : (f : Following) → IsFollowingStart f → IsStanding [] f
starts f start =
    record {
      followed = record {
        lives = λ s. ap (λ (l : List ℕ). get_or l s 0) start.lives ∙ zero_at s;
        numbers = λ s. ap (λ (l : List ℕ). get_or l s 0) start.numbers ∙ zero_at s;
        events = start.received;
        finished = start.processed;
      };
      sound = nothing_sound;
    }

module _ (log : List Entry) (old new : Following) (standing : IsStanding log old) where
  received_push : (e : Event) → received (log ++ Received e ∷ []) ≡ received log ++ e ∷ []
  received_push e = received-append log (Received e ∷ [])

  -- the number of the next event of a switch
  numbers_more : (e : Event) (s : ℕ) → Joined old e new → e.number ≡ count_in e.switch e.life (received log) →
      get_or new.numbers s 0 ≡ count_in s (life_in s (received log ++ e ∷ [])) (received log ++ e ∷ [])
  numbers_more e s joined number =
      elim (cases_eq e.switch s) [
        | inl same ↦
            let life : life_in s (received log ++ e ∷ []) ≡ e.life = life_in-append s (received log) e ∙ ap (λ (b : Bool). if b then e.life else life_in s (received log)) (eq-eqb e.switch s same) in
            let here : count_in s e.life (received log ++ e ∷ []) ≡ count_in e.switch e.life (received log) + 1 = ap (λ (a : ℕ). count_in a e.life (received log ++ e ∷ [])) (sym same) ∙ count_here (received log) e in
            joined.numbers s ∙ ap (λ (b : Bool). if b then e.number + 1 else get_or old.numbers s 0) (eq-eqb e.switch s same)
            ∙ (ap (λ (n : ℕ). n + 1) number ∙ sym here) ∙ ap (λ (l : ℕ). count_in s l (received log ++ e ∷ [])) (sym life)
        | inr other ↦
            let life : life_in s (received log ++ e ∷ []) ≡ life_in s (received log) = life_in-append s (received log) e ∙ ap (λ (b : Bool). if b then e.life else life_in s (received log)) (ne_eqb e.switch s other) in
            joined.numbers s ∙ ap (λ (b : Bool). if b then e.number + 1 else get_or old.numbers s 0) (ne_eqb e.switch s other)
            ∙ standing.followed.numbers s ∙ sym (count_there s (life_in s (received log)) (received log) e other) ∙ ap (λ (l : ℕ). count_in s l (received log ++ e ∷ [])) (sym life)
      ]

  pub stands_more : (entry : Entry) → may_follow log entry ≡ true → Joins old entry new → IsStanding (log ++ entry ∷ []) new
  stands_more (Received e) may joined =
      let events = received_push e in
      let number = number_is e (received log) standing.sound.none_after may in
      record {
        followed = record {
          lives = λ s. joined.lives s ∙ ap (λ (n : ℕ). if nat_eq e.switch s then e.life else n) (standing.followed.lives s) ∙ sym (life_in-append s (received log) e) ∙ ap (λ (l : List Event). life_in s l) (sym events);
          numbers = λ s. numbers_more e s joined number ∙ ap (λ (l : List Event). count_in s (life_in s l) l) (sym events);
          events = let a = joined.received in let b = standing.followed.events in let d = length-append (received log) (e ∷ []) in let x = ap (λ (l : List Event). length l) events in omega (arith, a, b, d, x);
          finished = let a = joined.processed in let b = standing.followed.finished in let d = processed_push log (Received e) in omega (arith, a, b, d);
        };
        sound = subst (λ (l : List Event). IsSound l) (sym events) (sound_more e (received log) standing.sound may);
      }
  stands_more (Processed j) may joined =
      let events : received (log ++ Processed j ∷ []) ≡ received log = received-append log (Processed j ∷ []) ∙ append-nil (received log) in
      record {
        followed = record {
          lives = λ s. ap (λ (f : Following). get_or f.lives s 0) joined ∙ standing.followed.lives s ∙ ap (λ (l : List Event). life_in s l) (sym events);
          numbers = λ s. ap (λ (f : Following). get_or f.numbers s 0) joined ∙ standing.followed.numbers s ∙ ap (λ (l : List Event). count_in s (life_in s l) l) (sym events);
          events = ap (λ (f : Following). f.received) joined ∙ standing.followed.events ∙ ap (λ (l : List Event). length l) (sym events);
          finished = ap (λ (f : Following). f.processed) joined ∙ (let b = standing.followed.finished in let d = processed_push log (Processed j) in omega (arith, b, d));
        };
        sound = subst (λ (l : List Event). IsSound l) (sym events) standing.sound;
      }

-- Logs, part by part and entry by entry.
use Rattle.std.proofs.Common.{◌≡◌, ◌≤◌, ℕ, ◌+◌, Bool, true, false, not, ◌&&◌, List, [], ◌∷◌, ◌++◌, length, take, refl, ap, sym, subst, ◌∙◌, append_assoc, append-nil, take-append-drop, drop, length-append, arith}
use Rattle.std.specs.Prelude.{nat_eq, nat_lt, if◌then◌else◌}
use Rattle.std.proofs.lemmas.Bool.{eqb-true, ltb-true, and_parts, leb-true}
use Rattle.std.proofs.lemmas.List.Sums.{sum_by_push, sum_by-cons}
use Rattle.of_types.specs.declared.message.Event.{Event}
use Rattle.of_types.specs.Lives.{life_in, count_in, is_switch_up}
use Rattle.of_types.proofs.Counts.{NoneAfter, none_after-append}
use Rattle.vr_log.specs.declared.entry.Entry.{Entry}
use Rattle.vr_log.specs.declared.entry.Entry.TheVariants.{Received, Processed}
use Rattle.vr_log.specs.Log.{received, processed, is_processed, is_past_limits, may_be_received, may_follow, fits, follows, is_log, IsLog, entry_size, log_size}

pub received-append : (xs ys : List Entry) → received (xs ++ ys) ≡ received xs ++ received ys
received-append [] ys = refl
received-append (Received e ∷ xs) ys = ap (λ (l : List Event). e ∷ l) (received-append xs ys)
received-append (Processed j ∷ xs) ys = received-append xs ys

-- each entry is of one of two kinds
pub length_is : (log : List Entry) → length log ≡ length (received log) + processed log
length_is [] = refl
length_is (Received e ∷ log) =
    let more : processed (Received e ∷ log) ≡ 0 + processed log = sum_by-cons _ (Received e) log in
    let rest = length_is log in omega arith
length_is (Processed j ∷ log) =
    let more : processed (Processed j ∷ log) ≡ 1 + processed log = sum_by-cons _ (Processed j) log in
    let rest = length_is log in omega arith

pub processed_push : (log : List Entry) (entry : Entry) → processed (log ++ entry ∷ []) ≡ processed log + (if is_processed entry then 1 else 0)
processed_push log entry = sum_by_push (λ (e : Entry). if is_processed e then 1 else 0) log entry

pub log_size_push : (log : List Entry) (entry : Entry) → log_size (log ++ entry ∷ []) ≡ log_size log + entry_size entry
log_size_push log entry = sum_by_push entry_size log entry

-- entries that follow, in two parts
and_twice : (b c d : Bool) → (b && (c && d)) ≡ (b && c && d)
and_twice true c d = refl
and_twice false c d = refl

pub follows-append : (before xs ys : List Entry) → follows before (xs ++ ys) ≡ (follows before xs && follows (before ++ xs) ys)
follows-append before [] ys = ap (λ (l : List Entry). follows l ys) (sym (append-nil before))
follows-append before (x ∷ xs) ys =
    ap (λ (b : Bool). fits before x && b) (follows-append (before ++ x ∷ []) xs ys ∙ ap (λ (l : List Entry). follows (before ++ x ∷ []) xs && follows l ys) (append_assoc before (x ∷ []) xs))
    ∙ and_twice (fits before x) (follows (before ++ x ∷ []) xs) (follows (before ++ x ∷ xs) ys)

and_yes : (b : Bool) → (b && true) ≡ b
and_yes true = refl
and_yes false = refl

pub follows_one : (before : List Entry) (entry : Entry) → follows before (entry ∷ []) ≡ fits before entry
follows_one before entry = and_yes (fits before entry)

-- the front of a log is one
pub follows_front : (before xs ys : List Entry) → follows before (xs ++ ys) ≡ true → follows before xs ≡ true
follows_front before xs ys h = (and_parts (follows before xs) (follows (before ++ xs) ys) (sym (follows-append before xs ys) ∙ h)).0

pub follows_take : (n : ℕ) (before entries : List Entry) → follows before entries ≡ true → follows before (take n entries) ≡ true
follows_take n before entries h = follows_front before (take n entries) (drop n entries) (ap (λ (l : List Entry). follows before l) (take-append-drop n entries) ∙ h)

-- What fits is within the limits.
pub record Fits (log : List Entry) (entry : Entry) : Type 0 where
  pub short : length log + 1 ≤ 4096
  pub small : log_size log + entry_size entry ≤ 4194304
  pub may : may_follow log entry ≡ true

pub fits_is : (log : List Entry) (entry : Entry) → fits log entry ≡ true → Fits log entry
fits_is log entry h =
    let p = and_parts (not (is_past_limits log entry)) (may_follow log entry) h in
    let q = and_parts _ _ (not_not _ p.0) in
    record { short = leb-true _ _ q.0; small = leb-true _ _ q.1; may = p.1 }
  where
    not_not : (b : Bool) → not (not b) ≡ true → b ≡ true
    not_not true e = refl
    not_not false e = e

-- a log goes on, entry by entry
pub IsLog_push : (log : List Entry) (entry : Entry) → IsLog log → fits log entry ≡ true → IsLog (log ++ entry ∷ [])
IsLog_push log entry h f =
    let fit = fits_is log entry f in
    record {
      follow = follows-append [] log (entry ∷ []) ∙ rw (h.follow, follows_one log entry, f) refl;
      short = let s = fit.short in let t = length-append log (entry ∷ []) in omega arith;
      small = let s = fit.small in let t = log_size_push log entry in omega arith;
    }

log_is : (log : List Entry) → IsLog [] → is_log log ≡ true → IsLog log
log_is log none h = build [] log none h
  where
    build : (before entries : List Entry) → IsLog before → follows before entries ≡ true → IsLog (before ++ entries)
    build before [] b h = subst (λ (l : List Entry). IsLog l) (sym (append-nil before)) b
    build before (entry ∷ entries) b h =
        let p = and_parts (fits before entry) (follows (before ++ entry ∷ []) entries) h in
        subst (λ (l : List Entry). IsLog l) (append_assoc before (entry ∷ []) entries) (build (before ++ entry ∷ []) entries (IsLog_push before entry b p.0) p.1)

pub no_log : IsLog []
no_log = record { follow = refl; short = omega arith; small = omega arith }

pub IsLog_is : (log : List Entry) → is_log log ≡ true → IsLog log
IsLog_is log h = log_is log no_log h

pub IsLog_take : (n : ℕ) (log : List Entry) → IsLog log → IsLog (take n log)
IsLog_take n log h = IsLog_is (take n log) (follows_take n [] log h.follow)

pub IsLog_append : (log entries : List Entry) → IsLog log → follows log entries ≡ true → IsLog (log ++ entries)
IsLog_append log entries h f = IsLog_is (log ++ entries) (follows-append [] log entries ∙ rw (h.follow, f) refl)

-- an event that may be received is of no earlier life of its switch
pub no_earlier : (event : Event) (events : List Event) → may_be_received event events ≡ true → life_in event.switch events ≤ event.life
no_earlier event events h = chosen (nat_eq event.life (life_in event.switch events)) refl h
  where
    chosen : (b : Bool) → nat_eq event.life (life_in event.switch events) ≡ b →
        (if b then nat_eq event.number (count_in event.switch (life_in event.switch events) events) else nat_lt (life_in event.switch events) event.life && nat_eq event.number 0 && is_switch_up event.what) ≡ true → life_in event.switch events ≤ event.life
    chosen true e k = let same = eqb-true event.life (life_in event.switch events) e in omega arith
    chosen false e k =
        let p = and_parts (nat_lt (life_in event.switch events) event.life && nat_eq event.number 0) (is_switch_up event.what) k in
        let q = and_parts (nat_lt (life_in event.switch events) event.life) (nat_eq event.number 0) p.0 in
        let less = ltb-true (life_in event.switch events) event.life q.0 in omega arith

-- and has the next number of its life, where no event is of a later life than its switch has
pub number_is : (e : Event) (events : List Event) → NoneAfter events → may_be_received e events ≡ true → e.number ≡ count_in e.switch e.life events
number_is e events none h = chosen (nat_eq e.life (life_in e.switch events)) refl h
  where
    chosen : (b : Bool) → nat_eq e.life (life_in e.switch events) ≡ b →
        (if b then nat_eq e.number (count_in e.switch (life_in e.switch events) events) else nat_lt (life_in e.switch events) e.life && nat_eq e.number 0 && is_switch_up e.what) ≡ true → e.number ≡ count_in e.switch e.life events
    chosen true is k = eqb-true _ _ k ∙ ap (λ (life : ℕ). count_in e.switch life events) (sym (eqb-true e.life (life_in e.switch events) is))
    chosen false is k =
        let p = and_parts (nat_lt (life_in e.switch events) e.life && nat_eq e.number 0) (is_switch_up e.what) k in
        let q = and_parts (nat_lt (life_in e.switch events) e.life) (nat_eq e.number 0) p.0 in
        eqb-true _ _ q.1 ∙ sym (none e.switch e.life (ltb-true _ _ q.0))

-- no event of a log is of a later life than its switch has
pub none_after : (log : List Entry) → is_log log ≡ true → NoneAfter (received log)
none_after log h = build [] log (λ s life less. refl) h
  where
    build : (before entries : List Entry) → NoneAfter (received before) → follows before entries ≡ true → NoneAfter (received (before ++ entries))
    build before [] none h = subst (λ (l : List Entry). NoneAfter (received l)) (sym (append-nil before)) none
    build before (Received event ∷ entries) none h =
        let p = and_parts (fits before (Received event)) (follows (before ++ Received event ∷ []) entries) h in
        let fit = fits_is before (Received event) p.0 in
        let more : NoneAfter (received (before ++ Received event ∷ [])) =
        subst (λ (l : List Event). NoneAfter l) (sym (received-append before (Received event ∷ []))) (none_after-append (received before) event none (no_earlier event (received before) fit.may)) in
        subst (λ (l : List Entry). NoneAfter (received l)) (append_assoc before (Received event ∷ []) entries) (build (before ++ Received event ∷ []) entries more p.1)
    build before (Processed j ∷ entries) none h =
        let p = and_parts (fits before (Processed j)) (follows (before ++ Processed j ∷ []) entries) h in
        let more : NoneAfter (received (before ++ Processed j ∷ [])) =
        subst (λ (l : List Event). NoneAfter l) (sym (received-append before (Processed j ∷ []) ∙ append-nil (received before))) none in
        subst (λ (l : List Entry). NoneAfter (received l)) (append_assoc before (Processed j ∷ []) entries) (build (before ++ Processed j ∷ []) entries more p.1)

-- A log whose events are those that switches have made, each once, has room for what comes next, where these events fit a log.
use Rattle.std.proofs.Common.{◌≡◌, ◌≤◌, ◌<◌, ◌⊎◌, inl, inr, ℕ, ◌+◌, ◌*◌, Bool, true, false, not, ◌&&◌, List, [], ◌∷◌, ◌++◌, length, refl, sym, ◌∙◌, ap, subst, arith, append-nil, append_assoc}
use Rattle.std.specs.Prelude.{nat_le, nat_lt, flat_map, sum_by, if◌then◌else◌}
use Rattle.std.specs.List.{range_with_len}
use Rattle.std.proofs.lemmas.Bool.{and_parts, cases_lt, cond_both, le-leb, le-ltb, lt-ltb}
use Rattle.std.proofs.lemmas.List.Sums.{sum_by-append, sum_by-cons, sum_by-le-sum_by}
use Rattle.of_types.specs.declared.message.Event.{Event}
use Rattle.of_types.specs.Lives.{count_in}
use Rattle.of_types.proofs.Counts.{NoneAfter, count_here, count_in-append, none_after-append}
use Rattle.list_facts.specs.Lists.{IsIn}
use Rattle.vr_log.specs.declared.entry.Entry.{Entry}
use Rattle.vr_log.specs.declared.entry.Entry.TheVariants.{Received, Processed}
use Rattle.vr_log.specs.Log.{entry_size, fits, follows, is_log, is_past_limits, is_processed, log_bytes, log_entries, log_size, may_be_received, processed, received}
use Rattle.vr_log.proofs.Logs.{length_is, no_earlier, none_after, number_is, received-append}
use Rattle.closing_laws.specs.Stops.{FitALog, bytes_logged}
use Rattle.closing_laws.proofs.Lists.Sums.{sum_lower}
use Rattle.closing_laws.proofs.Primary.Growth.{processed_within}
use Rattle.closing_laws.proofs.Primary.Numbering.{in_range}

module _ (f : Event → ℕ) (made : ℕ → List Event) (k : ℕ) where
  -- what stands for an event that is not logged, by its number
  abbrev unlogged_at : List Event → ℕ → Event → ℕ
  unlogged_at events s e = if nat_lt e.number (count_in s e.life events) then 0 else f e

  abbrev unlogged_of : List Event → ℕ → ℕ
  unlogged_of events s = sum_by (unlogged_at events s) (made s)

  -- and for all of them
  abbrev left : List Event → ℕ
  left events = sum_by (unlogged_of events) (range_with_len 0 k)

  abbrev in_all : ℕ
  in_all = sum_by (λ s. sum_by f (made s)) (range_with_len 0 k)

  -- an event of a switch
  abbrev IsOne : Event → Type 0
  IsOne e = (e.switch < k) × IsIn e (made e.switch)

  less_counted : (events : List Event) (e x : Event) (s : ℕ) → unlogged_at (events ++ e ∷ []) s x ≤ unlogged_at events s x
  less_counted events e x s = by_test (cases_lt x.number (count_in s x.life events))
    where
      by_test : (x.number < count_in s x.life events) ⊎ (count_in s x.life events ≤ x.number) → unlogged_at (events ++ e ∷ []) s x ≤ unlogged_at events s x
      by_test (inl less) =
          let more = count_in-append s x.life events e in
          let now = ap {B = ℕ} (λ (b : Bool). if b then 0 else f x) (lt-ltb x.number (count_in s x.life (events ++ e ∷ [])) (omega (arith, less, more))) in
          omega (arith, now)
      by_test (inr least) =
          let was = ap {B = ℕ} (λ (b : Bool). if b then 0 else f x) (le-ltb x.number (count_in s x.life events) least) in
          let most = cond_both (nat_lt x.number (count_in s x.life (events ++ e ∷ []))) 0 (f x) (λ (n : ℕ). n ≤ f x) (λ _. omega arith) (λ _. omega arith) in
          omega (arith, was, most)

  less_at : (events : List Event) (e : Event) (xs : List Event) (s : ℕ) → sum_by (unlogged_at (events ++ e ∷ []) s) xs ≤ sum_by (unlogged_at events s) xs
  less_at events e xs s = sum_by-le-sum_by (unlogged_at (events ++ e ∷ []) s) (unlogged_at events s) xs (λ x. less_counted events e x s)

  -- one more is logged
  step : (events : List Event) (e : Event) → e.number ≡ count_in e.switch e.life events → IsOne e → left (events ++ e ∷ []) + f e ≤ left events
  step events e number one =
      sum_lower (unlogged_of (events ++ e ∷ [])) (unlogged_of events) (range_with_len 0 k) e.switch (f e) (in_range 0 k e.switch (omega arith) (omega (arith, one.0))) (λ s. less_at events e (made s) s)
      (sum_lower (unlogged_at (events ++ e ∷ []) e.switch) (unlogged_at events e.switch) (made e.switch) e (f e) one.1 (λ x. less_counted events e x e.switch) here)
    where
      here : unlogged_at (events ++ e ∷ []) e.switch e + f e ≤ unlogged_at events e.switch e
      here =
          let more = count_here events e in
          let now = ap {B = ℕ} (λ (b : Bool). if b then 0 else f e) (lt-ltb e.number (count_in e.switch e.life (events ++ e ∷ [])) (omega (arith, number, more))) in
          let was = ap {B = ℕ} (λ (b : Bool). if b then 0 else f e) (le-ltb e.number (count_in e.switch e.life events) (omega (arith, number))) in
          omega (arith, now, was)

  -- a whole log
  walk : (before entries : List Entry) → NoneAfter (received before) → follows before entries ≡ true → ((e : Event) → IsIn e (received entries) → IsOne e) →
      sum_by f (received entries) + left (received (before ++ entries)) ≤ left (received before)
  walk before [] none h each = let same = ap (λ (l : List Entry). left (received l)) (append-nil before) in omega (arith, same)
  walk before (Received e ∷ entries) none h each =
      let p = and_parts (fits before (Received e)) (follows (before ++ Received e ∷ []) entries) h in
      let may = (and_parts (not (is_past_limits before (Received e))) (may_be_received e (received before)) p.0).1 in
      let now = received-append before (Received e ∷ []) in
      let none_now = subst NoneAfter (sym now) (none_after-append (received before) e none (no_earlier e (received before) may)) in
      let more = walk (before ++ Received e ∷ []) entries none_now p.1 (λ x among. each x (inr among)) in
      let all = ap (λ (l : List Entry). left (received l)) (append_assoc before (Received e ∷ []) entries) in
      let one = step (received before) e (number_is e (received before) none may) (each e (inl refl)) in
      let left_is = ap left now in
      let sum = sum_by-cons f e (received entries) in
      omega (arith, more, all, one, left_is, sum)
  walk before (Processed j ∷ entries) none h each =
      let p = and_parts (fits before (Processed j)) (follows (before ++ Processed j ∷ []) entries) h in
      let now = received-append before (Processed j ∷ []) ∙ append-nil (received before) in
      let more = walk (before ++ Processed j ∷ []) entries (subst NoneAfter (sym now) none) p.1 each in
      let all = ap (λ (l : List Entry). left (received l)) (append_assoc before (Processed j ∷ []) entries) in
      let left_is = ap left now in
      omega (arith, more, all, left_is)

  none_logged : left [] ≤ in_all
  none_logged = outer (range_with_len 0 k)
    where
      at_most : (s : ℕ) (xs : List Event) → sum_by (unlogged_at [] s) xs ≤ sum_by f xs
      at_most s [] = omega arith
      at_most s (x ∷ xs) =
          let a = sum_by-cons (unlogged_at [] s) x xs in
          let b = sum_by-cons f x xs in
          let one = cond_both (nat_lt x.number (count_in s x.life [])) 0 (f x) (λ (n : ℕ). n ≤ f x) (λ _. omega arith) (λ _. omega arith) in
          let rest = at_most s xs in
          omega (arith, a, b, one, rest)

      outer : (ss : List ℕ) → sum_by (unlogged_of []) ss ≤ sum_by (λ s. sum_by f (made s)) ss
      outer [] = omega arith
      outer (s ∷ ss) =
          let a = sum_by-cons (unlogged_of []) s ss in
          let b = sum_by-cons (λ s. sum_by f (made s)) s ss in
          let one = at_most s (made s) in
          let rest = outer ss in
          omega (arith, a, b, one, rest)

  logged_within : (log : List Entry) → is_log log ≡ true → ((e : Event) → IsIn e (received log) → IsOne e) → sum_by f (received log) + left (received log) ≤ in_all
  logged_within log one each = let all = walk [] log (λ s life less. refl) one each in let none = none_logged in omega (arith, all, none)

  -- with the next event
  next_within : (log : List Entry) (e : Event) → is_log log ≡ true → ((x : Event) → IsIn x (received log) → IsOne x) → may_be_received e (received log) ≡ true → IsOne e → sum_by f (received log) + f e ≤ in_all
  next_within log e one each may is =
      let logged = logged_within log one each in
      let more = step (received log) e (number_is e (received log) (none_after log one) may) is in
      omega (arith, logged, more)

-- so the log has room for what comes next: an event that may be received, or one that is processed next
pub data IsNext (is_made : Event → Type 0) (log : List Entry) : Entry → Type 0 where
  Comes : (e : Event) → is_made e → may_be_received e (received log) ≡ true → IsNext is_made log (Received e)
  Is_done : (j : ℕ) → processed log < length (received log) → IsNext is_made log (Processed j)

sum_flat : {X : Type 0} (f : X → ℕ) (g : ℕ → List X) (ss : List ℕ) → sum_by f (flat_map g ss) ≡ sum_by (λ s. sum_by f (g s)) ss
sum_flat f g [] = refl
sum_flat f g (s ∷ ss) =
    let a = sum_by-append f (g s) (flat_map g ss) in
    let b = sum_by-cons (λ s. sum_by f (g s)) s ss in
    let rest = sum_flat f g ss in
    omega (arith, a, b, rest)

sum_ones : {X : Type 0} (xs : List X) → sum_by (λ (x : X). 1) xs ≡ length xs
sum_ones {X = X} [] = refl
sum_ones {X = X} (x ∷ xs) = let a = sum_by-cons (λ (y : X). 1) x xs in let rest = sum_ones xs in omega (arith, a, rest)

size_is : (log : List Entry) → log_size log + 9 * length (received log) ≡ sum_by bytes_logged (received log) + 9 * processed log
size_is [] = refl
size_is (Received e ∷ log) =
    let rest = size_is log in
    let a = sum_by-cons (λ (x : Entry). if is_processed x then 1 else 0) (Received e) log in
    let b = sum_by-cons entry_size (Received e) log in
    let c = sum_by-cons bytes_logged e (received log) in
    omega (arith, rest, a, b, c)
size_is (Processed j ∷ log) =
    let rest = size_is log in
    let a = sum_by-cons (λ (x : Entry). if is_processed x then 1 else 0) (Processed j) log in
    let b = sum_by-cons entry_size (Processed j) log in
    omega (arith, rest, a, b)

pub has_room : (made : ℕ → List Event) (k : ℕ) (log : List Entry) (entry : Entry) → is_log log ≡ true → ((e : Event) → IsIn e (received log) → (e.switch < k) × IsIn e (made e.switch)) →
    IsNext (λ e. (e.switch < k) × IsIn e (made e.switch)) log entry → FitALog (flat_map made (range_with_len 0 k)) → is_past_limits log entry ≡ false
has_room made k log entry one each next fit = by_next entry next
  where
    count : sum_by (λ s. sum_by (λ (e : Event). 1) (made s)) (range_with_len 0 k) ≡ length (flat_map made (range_with_len 0 k))
    count = sym (sum_flat (λ (e : Event). 1) made (range_with_len 0 k)) ∙ sum_ones (flat_map made (range_with_len 0 k))

    bytes : sum_by (λ s. sum_by bytes_logged (made s)) (range_with_len 0 k) ≡ sum_by bytes_logged (flat_map made (range_with_len 0 k))
    bytes = sym (sum_flat bytes_logged made (range_with_len 0 k))

    fits_both : (x : Entry) → length log + 1 ≤ log_entries → log_size log + entry_size x ≤ log_bytes → is_past_limits log x ≡ false
    fits_both x places room =
        ap (λ (b : Bool). not (b && nat_le (log_size log + entry_size x) log_bytes)) (le-leb (length log + 1) log_entries places)
        ∙ ap (λ (b : Bool). not b) (le-leb (log_size log + entry_size x) log_bytes room)

    by_next : (x : Entry) → IsNext (λ e. (e.switch < k) × IsIn e (made e.switch)) log x → is_past_limits log x ≡ false
    by_next _ (Comes e is may) =
        let all = length_is log in
        let size = size_is log in
        let fewer = processed_within log one in
        let ones = next_within (λ (x : Event). 1) made k log e one each may is in
        let known = sum_ones (received log) in
        let sizes = next_within bytes_logged made k log e one each may is in
        let number = count in
        let room = bytes in
        let few = fit.few in
        let small = fit.small in
        fits_both (Received e) (omega (arith, all, fewer, ones, known, number, few)) (omega (arith, size, fewer, sizes, room, small))
    by_next _ (Is_done j less) =
        let all = length_is log in
        let size = size_is log in
        let ones = logged_within (λ (x : Event). 1) made k log one each in
        let known = sum_ones (received log) in
        let sizes = logged_within bytes_logged made k log one each in
        let number = count in
        let room = bytes in
        let few = fit.few in
        let small = fit.small in
        fits_both (Processed j) (omega (arith, all, less, ones, known, number, few)) (omega (arith, size, less, sizes, room, small))

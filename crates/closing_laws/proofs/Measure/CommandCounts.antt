-- How many commands a log has: those of its processed events, those that are open, and those that were sent in this view.
use Rattle.std.proofs.Common.{◌≡◌, ◌≤◌, ℕ, zero, suc, ◌+◌, Bool, true, false, List, [], ◌∷◌, ◌++◌, length, take, drop, filter, refl, sym, ◌∙◌, ap, arith, length-append}
use Rattle.std.specs.Prelude.{not, ◌&&◌, ◌||◌, slice_index_or, Option, if◌then◌else◌}
use Rattle.std.proofs.lemmas.Bool.{lt-ltb, ltb-true}
use Rattle.std.proofs.lemmas.List.Sums.{count_by-le-length, length-filter}
use Rattle.list_facts.specs.Lists.{IsPrefix}
use Rattle.list_facts.proofs.Prefixes.{prefix_length, prefix_take}
use Rattle.of_types.specs.declared.setup.Setup.{Setup}
use Rattle.vr_log.specs.declared.entry.Entry.{Entry}
use Rattle.vr_log.specs.Log.{is_log, processed, received}
use Rattle.two_stage_log.specs.Counts.{has_unprocessed}
use Rattle.app_core.specs.declared.issued.Issued.{Issued}
use Rattle.app_core.specs.Chain.{concat}
use Rattle.app_core.specs.Issued.{commands_of, issues}
use Rattle.controller_moves.proofs.ControllerLaws.Issued.{issues-take, issues_prefix}
use Rattle.controller_moves.proofs.ControllerLaws.Logs.{received_prefix}
use Rattle.dispatcher.specs.Marks.{Marks, is_confirmed}
use Rattle.group_controller.specs.State.{ControllerState, committed}
use Rattle.group_controller.specs.Settling.{is_some_of, is_untold}
use Rattle.closing_laws.specs.Measure.{commands_from, commands_open, commands_sent}
use Rattle.closing_laws.proofs.Primary.Growth.{processed_within}

-- ---- lists of lists

module _ {A : Type 0} where
  pub fewer_filter : (p : A → Bool) (xs : List A) → length (filter p xs) ≤ length xs
  fewer_filter p xs = omega (arith, length-filter p xs, count_by-le-length p xs)

  pub fewer_twice : (p q : A → Bool) (xs : List A) → length (filter p (filter q xs)) ≤ length (filter p xs)
  fewer_twice p q [] = omega arith
  fewer_twice p q (x ∷ xs) = by_tests (q x) (p x) refl (fewer_twice p q xs)
    where
      by_tests : (a b : Bool) → p x ≡ b → length (filter p (filter q xs)) ≤ length (filter p xs) → length (filter p (if a then x ∷ filter q xs else filter q xs)) ≤ length (if b then x ∷ filter p xs else filter p xs)
      by_tests true true is h = rw is (omega (arith, h))
      by_tests true false is h = rw is h
      by_tests false true is h = omega (arith, h)
      by_tests false false is h = h

  -- one list more
  pub next_count : (xs : List (List A)) (j : ℕ) → length (concat (take (j + 1) xs)) ≡ length (concat (take j xs)) + length (slice_index_or xs j [])
  next_count [] zero = refl
  next_count [] (suc j) = let e : suc j + 1 ≡ suc (j + 1) = omega arith in ap (λ (n : ℕ). length (concat (take {A = List A} n []))) e
  next_count (x ∷ xs) zero = let e = length-append x [] in omega (arith, e)
  next_count (x ∷ xs) (suc j) =
      let e : suc j + 1 ≡ suc (j + 1) = omega arith in
      let rest = next_count xs j in
      let a = length-append x (concat (take (j + 1) xs)) in
      let b = length-append x (concat (take j xs)) in
      let k = ap (λ (n : ℕ). length (concat (take n (x ∷ xs)))) e in
      omega (arith, rest, a, b, k)

  pub split_count : (xs : List (List A)) (j : ℕ) → length (concat (take j xs)) + length (concat (drop j xs)) ≡ length (concat xs)
  split_count [] zero = refl
  split_count [] (suc j) = refl
  split_count (x ∷ xs) zero = omega arith
  split_count (x ∷ xs) (suc j) =
      let rest = split_count xs j in
      let a = length-append x (concat (take j xs)) in
      let b = length-append x (concat xs) in
      omega (arith, rest, a, b)

  pub here_within : (xs : List (List A)) (j : ℕ) → length (slice_index_or xs j []) ≤ length (concat (drop j xs))
  here_within [] zero = omega arith
  here_within [] (suc j) = omega arith
  here_within (x ∷ xs) zero = let a = length-append x (concat xs) in omega (arith, a)
  here_within (x ∷ xs) (suc j) = here_within xs j

  -- in a longer list
  pub front_count : (xs rest : List (List A)) (j : ℕ) → length (concat (take j xs)) ≤ length (concat (take j (xs ++ rest)))
  front_count [] rest zero = omega arith
  front_count [] rest (suc j) = omega arith
  front_count (x ∷ xs) rest zero = omega arith
  front_count (x ∷ xs) rest (suc j) =
      let deeper = front_count xs rest j in
      let a = length-append x (concat (take j xs)) in
      let b = length-append x (concat (take j (xs ++ rest))) in
      omega (arith, deeper, a, b)

  pub front_here : (p : A → Bool) (xs rest : List (List A)) (j : ℕ) → length (filter p (slice_index_or xs j [])) ≤ length (filter p (slice_index_or (xs ++ rest) j []))
  front_here p [] rest zero = omega arith
  front_here p [] rest (suc j) = omega arith
  front_here p (x ∷ xs) rest zero = omega arith
  front_here p (x ∷ xs) rest (suc j) = front_here p xs rest j

-- ---- of a primary

module _ (kinds : List ℕ) (setup : Setup) where
  -- the commands of processed events
  abbrev pub commands_done : ControllerState → ℕ
  commands_done c = length (concat (take (processed (committed c)) (issues kinds setup (received (committed c)))))

  -- those of the first that is not
  abbrev pub due_of : ControllerState → List Issued
  due_of c = commands_of kinds setup (received (committed c)) (processed (committed c))

  -- where the same is committed
  pub done_same : (c c' : ControllerState) → committed c' ≡ committed c → commands_done c' ≡ commands_done c
  done_same c c' same = ap (λ (K : List Entry). length (concat (take (processed K) (issues kinds setup (received K))))) same

  pub sent_same : (c c' : ControllerState) → committed c' ≡ committed c → c'.marks ≡ c.marks → c'.last_told ≡ c.last_told → commands_sent kinds setup c' ≡ commands_sent kinds setup c
  sent_same c c' same marks last =
      ap (λ (K : List Entry). if (has_unprocessed K && not (is_some_of (processed K) c'.last_told)) || not (has_unprocessed K) then 0
      else length (filter (λ x. is_confirmed c'.marks x.switch) (commands_of kinds setup (received K) (processed K)))) same
      ∙ ap (λ (m : Marks). if (has_unprocessed (committed c) && not (is_some_of (processed (committed c)) c'.last_told)) || not (has_unprocessed (committed c)) then 0
      else length (filter (λ x. is_confirmed m x.switch) (due_of c))) marks
      ∙ ap (λ (o : Option ℕ). if (has_unprocessed (committed c) && not (is_some_of (processed (committed c)) o)) || not (has_unprocessed (committed c)) then 0
      else length (filter (λ x. is_confirmed c.marks x.switch) (due_of c))) last

  pub sent_due : (c : ControllerState) → commands_sent kinds setup c ≤ length (filter (λ x. is_confirmed c.marks x.switch) (due_of c))
  sent_due c = by_case (is_untold c || not (has_unprocessed (committed c))) (length (filter (λ x. is_confirmed c.marks x.switch) (due_of c)))
    where
      by_case : (b : Bool) (n : ℕ) → (if b then 0 else n) ≤ n
      by_case true n = omega arith
      by_case false n = omega arith

  pub sent_within : (c : ControllerState) → commands_sent kinds setup c ≤ length (due_of c)
  sent_within c = let a = sent_due c in let b = fewer_filter (λ x. is_confirmed c.marks x.switch) (due_of c) in omega (arith, a, b)

  pub sent_open : (c : ControllerState) → commands_sent kinds setup c ≤ commands_open kinds setup c
  sent_open c = let a = sent_within c in let b = here_within (issues kinds setup (received (committed c))) (processed (committed c)) in omega (arith, a, b)

  -- all that are there
  pub open_done : (c : ControllerState) → commands_done c + commands_open kinds setup c ≡ length (concat (issues kinds setup (received (committed c))))
  open_done c = split_count (issues kinds setup (received (committed c))) (processed (committed c))

  pub from_all : (c : ControllerState) (place : ℕ) → length (concat (take place (issues kinds setup (received (committed c))))) + commands_from kinds setup c place ≡ length (concat (issues kinds setup (received (committed c))))
  from_all c place = split_count (issues kinds setup (received (committed c))) place

  -- those before a place stay
  pub before_stays : (c c' : ControllerState) (place : ℕ) → is_log c.vr.log ≡ true → is_log (committed c) ≡ true → place ≤ processed (committed c) → IsPrefix (committed c) (committed c') →
      length (concat (take place (issues kinds setup (received (committed c'))))) ≡ length (concat (take place (issues kinds setup (received (committed c)))))
  before_stays c c' place one one_too early front =
      let within = processed_within (committed c) one_too in
      let same = prefix_take place (received_prefix front) (omega (arith, early, within)) in
      ap (λ (l : List (List Issued)). length (concat l))
      (sym (issues-take kinds setup place (received (committed c'))) ∙ ap (issues kinds setup) (sym same) ∙ issues-take kinds setup place (received (committed c)))

  -- where more is committed
  module _ (c c' : ControllerState) (front : IsPrefix (committed c) (committed c')) where
    lists : IsPrefix (issues kinds setup (received (committed c))) (issues kinds setup (received (committed c')))
    lists = issues_prefix kinds setup (received (committed c)) (received (committed c')) (received_prefix front)

    -- and no event is processed
    pub done_grows : processed (committed c') ≡ processed (committed c) → commands_done c ≤ commands_done c'
    done_grows same =
        let more = front_count (issues kinds setup (received (committed c))) lists.rest (processed (committed c)) in
        let a = ap (λ (l : List (List Issued)). length (concat (take (processed (committed c)) l))) lists.joined in
        let b = ap (λ (n : ℕ). length (concat (take n (issues kinds setup (received (committed c')))))) same in
        omega (arith, more, a, b)

    -- and one is
    abbrev pub due_now : List Issued
    due_now = commands_of kinds setup (received (committed c')) (processed (committed c))

    pub done_next : processed (committed c') ≡ processed (committed c) + 1 → commands_done c + length due_now ≤ commands_done c'
    done_next one =
        let more = front_count (issues kinds setup (received (committed c))) lists.rest (processed (committed c)) in
        let a = ap (λ (l : List (List Issued)). length (concat (take (processed (committed c)) l))) lists.joined in
        let b = ap (λ (n : ℕ). length (concat (take n (issues kinds setup (received (committed c')))))) one in
        let next = next_count (issues kinds setup (received (committed c'))) (processed (committed c)) in
        omega (arith, more, a, b, next)

    same_sent : length (filter (λ x. is_confirmed c.marks x.switch) (due_of c)) ≤ length (filter (λ x. is_confirmed c.marks x.switch) due_now)
    same_sent =
        let more = front_here (λ x. is_confirmed c.marks x.switch) (issues kinds setup (received (committed c))) lists.rest (processed (committed c)) in
        let a = ap (λ (l : List (List Issued)). length (filter (λ x. is_confirmed c.marks x.switch) (slice_index_or l (processed (committed c)) []))) lists.joined in
        omega (arith, more, a)

    pub sent_now : commands_sent kinds setup c ≤ length due_now
    sent_now = let a = sent_due c in let b = same_sent in let d = fewer_filter (λ x. is_confirmed c.marks x.switch) due_now in omega (arith, a, b, d)

    -- no less is sent
    pub sent_stays : c'.marks ≡ c.marks → c'.last_told ≡ c.last_told → processed (committed c') ≡ processed (committed c) → commands_sent kinds setup c ≤ commands_sent kinds setup c'
    sent_stays marks last same = by_case (has_unprocessed (committed c)) refl (is_some_of (processed (committed c)) c.last_told) refl
      where
        now_is : length (filter (λ x. is_confirmed c'.marks x.switch) (due_of c')) ≡ length (filter (λ x. is_confirmed c.marks x.switch) due_now)
        now_is =
            ap (λ (m : Marks). length (filter (λ x. is_confirmed m x.switch) (due_of c'))) marks
            ∙ ap (λ (n : ℕ). length (filter (λ x. is_confirmed c.marks x.switch) (commands_of kinds setup (received (committed c')) n))) same

        by_case : (h : Bool) → has_unprocessed (committed c) ≡ h → (t : Bool) → is_some_of (processed (committed c)) c.last_told ≡ t →
            (if (h && not t) || not h then 0 else length (filter (λ x. is_confirmed c.marks x.switch) (due_of c))) ≤ commands_sent kinds setup c'
        by_case false h t told = omega arith
        by_case true h false told = omega arith
        by_case true h true told =
            let less = ltb-true (processed (committed c)) (length (received (committed c))) h in
            let long = prefix_length (received_prefix front) in
            let has_now : has_unprocessed (committed c') ≡ true = lt-ltb (processed (committed c')) (length (received (committed c'))) (omega (arith, less, long, same)) in
            let told_now : is_some_of (processed (committed c')) c'.last_told ≡ true = ap (λ (n : ℕ). is_some_of n c'.last_told) same ∙ ap (is_some_of (processed (committed c))) last ∙ told in
            let is = ap (λ (a : Bool). if (a && not (is_some_of (processed (committed c')) c'.last_told)) || not a then 0 else length (filter (λ x. is_confirmed c'.marks x.switch) (due_of c'))) has_now
            ∙ ap (λ (a : Bool). if (true && not a) || false then 0 else length (filter (λ x. is_confirmed c'.marks x.switch) (due_of c'))) told_now in
            let some = same_sent in
            let that = now_is in
            omega (arith, is, some, that)

-- There is room for the results that may still come: as they come, and as a log grows.
use Rattle.std.proofs.Common.{inl, inr, ◌≡◌, ◌<◌, ◌≤◌, ℕ, ◌+◌, Bool, true, false, not, ◌&&◌, ◌||◌, List, [], ◌∷◌, ◌++◌, length, drop, get_or, refl, sym, ap, subst, ◌∙◌, arith, append-nil, length-append}
use Rattle.std.specs.Prelude.{IfOk, IsOk, OnErr, Result, Ok, Err, cond, count_by, nat_eq, if◌then◌else◌}
use Rattle.std.specs.List.{list_any}
use Rattle.std.proofs.lemmas.Bool.{and_parts, cases_Bool, cases_lt, eqb-true}
use Rattle.std.proofs.lemmas.List.Folds.{list_any-append}
use Rattle.std.proofs.lemmas.List.Sums.{count_by-le-length, sum_by-append, sum_by-cons}
use Rattle.of_types.specs.declared.message.Event.{Event}
use Rattle.of_types.specs.declared.setup.Setup.{Setup}
use Rattle.vr_log.specs.declared.entry.Entry.{Entry}
use Rattle.vr_log.specs.declared.entry.Entry.TheVariants.{Processed}
use Rattle.vr_log.specs.Log.{received, processed}
use Rattle.vr_log.proofs.Logs.{received-append, processed_push}
use Rattle.app_core.specs.Chain.{concat, reactions}
use Rattle.app_core.specs.Issued.{issues}
use Rattle.app_core.specs.declared.issued.Issued.{Issued}
use Rattle.dispatcher.specs.declared.ledger.Ledger.{Ledger}
use Rattle.dispatcher.specs.Ledger.{HasRoomForResults, IsLedgerOfLog, lacks_result}
use Rattle.dispatcher.specs.Marks.{Marks, no_marks, has_result, is_pending, unsettled, with_mark, with_marked_result}
use Rattle.dispatcher.proofs.Numbering.{front_of, is_of, is_unsettled, one_if}

-- a key that is not in a set is put into it: there is room for as many as before
pub insert_room : {A E : Type 0} (result : Result Bool E) (there : Bool) (keys keys' : List A) (spare spare' : ℕ) → IfOk result (λ added. added ≡ not there) → IfOk result (λ added. length keys' ≡ length keys + (if added then 1 else 0)) →
    OnErr result (keys' ≡ keys) → (0 < spare → IsOk result) → spare ≤ spare' + 1 → there ≡ false → length keys + spare ≤ length keys' + spare'
insert_room (Ok b) there keys keys' spare spare' added counted same succeeds less new = let one = ap one_if (added ∙ ap not new) in omega (arith, counted, one, less)
insert_room (Err e) there keys keys' spare spare' added counted same succeeds less new =
    let long = ap (λ (l : List _). length l) same in
    elim (cases_lt 0 spare) [ inl some ↦ absurd cc (succeeds some) | inr none ↦ omega (arith, long, none) ]

-- q passes what p does but what t does
module _ (p q t : Issued → Bool) (left : (x : Issued) → t x ≡ true → (p x ≡ true) × (q x ≡ false)) (same : (x : Issued) → t x ≡ false → q x ≡ p x) where
  counts_within : (xs : List Issued) → count_by q xs ≤ count_by p xs
  counts_within [] = omega arith
  counts_within (x ∷ xs) =
      let a = sum_by-cons (λ y. one_if (q y)) x xs in
      let b = sum_by-cons (λ y. one_if (p y)) x xs in
      let rest = counts_within xs in
      elim (cases_Bool (t x)) [
        | inl is ↦ let l = left x is in let m = ap one_if l.0 in let n = ap one_if l.1 in omega (arith, a, b, rest, m, n)
        | inr apart ↦ let e = ap one_if (same x apart) in omega (arith, a, b, rest, e)
      ]

  counts_lower : (xs : List Issued) → list_any t xs ≡ true → count_by q xs + 1 ≤ count_by p xs
  counts_lower [] h = absurd cc h
  counts_lower (x ∷ xs) h =
      let a = sum_by-cons (λ y. one_if (q y)) x xs in
      let b = sum_by-cons (λ y. one_if (p y)) x xs in
      elim (cases_Bool (t x)) [
        | inl is ↦ let l = left x is in let m = ap one_if l.0 in let n = ap one_if l.1 in let rest = counts_within xs in omega (arith, a, b, rest, m, n)
        | inr apart ↦ let e = ap one_if (same x apart) in let rest = counts_lower xs (ap (λ (c : Bool). c || list_any t xs) (sym apart) ∙ h) in omega (arith, a, b, rest, e)
      ]

-- one result more, behind those that came
abbrev marked : Marks → ℕ → ℕ → ℕ → Marks
marked marks s l n = record marks { acked = marks.acked ++ (s, l, n) ∷ [] }

-- a result comes: it is the first of its command
module _ (marks : Marks) (s l n : ℕ) (new : has_result marks s l n ≡ false) where
  marked_is : with_mark marks s l n ≡ marked marks s l n
  marked_is = ap (λ (b : Bool). if b then marks else marked marks s l n) new

  has_marked : (x : Issued) → lacks_result (marked marks s l n) x ≡ not (has_result marks x.switch x.life x.number || (is_of s l n x || false))
  has_marked x = ap not (list_any-append (λ a. nat_eq a.0 x.switch && nat_eq a.1 x.life && nat_eq a.2 x.number) marks.acked ((s, l, n) ∷ []))

  left : (x : Issued) → is_of s l n x ≡ true → (lacks_result marks x ≡ true) × (lacks_result (marked marks s l n) x ≡ false)
  left x is =
      let p = and_parts (nat_eq s x.switch && nat_eq l x.life) (nat_eq n x.number) is in
      let q = and_parts (nat_eq s x.switch) (nat_eq l x.life) p.0 in
      let a : s ≡ x.switch = eqb-true s x.switch q.0 in
      let b : l ≡ x.life = eqb-true l x.life q.1 in
      let c : n ≡ x.number = eqb-true n x.number p.1 in
      let none : has_result marks x.switch x.life x.number ≡ false =
      ap (λ (k : ℕ). has_result marks k x.life x.number) (sym a) ∙ ap (λ (k : ℕ). has_result marks s k x.number) (sym b) ∙ ap (λ (k : ℕ). has_result marks s l k) (sym c) ∙ new in
      (ap not none, has_marked x ∙ ap (λ (b : Bool). not (b || (is_of s l n x || false))) none ∙ ap (λ (b : Bool). not (b || false)) is)

  same : (x : Issued) → is_of s l n x ≡ false → lacks_result (marked marks s l n) x ≡ lacks_result marks x
  same x apart = has_marked x ∙ ap (λ (b : Bool). not (has_result marks x.switch x.life x.number || (b || false))) apart ∙ plain (has_result marks x.switch x.life x.number)
    where
      plain : (b : Bool) → not (b || false) ≡ not b
      plain true = refl
      plain false = refl

  lower : (xs : List Issued) → list_any (is_of s l n) xs ≡ true → count_by (lacks_result (marked marks s l n)) xs + 1 ≤ count_by (lacks_result marks) xs
  lower xs there = counts_lower (lacks_result marks) (lacks_result (marked marks s l n)) (is_of s l n) left same xs there

module _ (kinds : List ℕ) (setup : Setup) where
  pub room_at_first : (marks : Marks) (room : ℕ) → marks ≡ no_marks → HasRoomForResults (unsettled kinds setup []) marks room
  unfolding issues reactions
  room_at_first marks room none = let e = ap (λ (m : Marks). length m.acked) none in record { in_view = omega (arith, e); in_next = omega arith }

  -- an event is received, and room is made
  pub room_received : (log : List Entry) (ledger : Ledger) (marks : Marks) (room : ℕ) → IsLedgerOfLog kinds setup log ledger → length marks.acked + ledger.unsettled ≤ room → HasRoomForResults (unsettled kinds setup log) marks room
  room_received log ledger marks room kept made =
      let are = kept.unsettled_are in
      let few = count_by-le-length (lacks_result marks) (unsettled kinds setup log) in
      record { in_view = omega (arith, are, few, made); in_next = omega (arith, are, made) }

  pub room_processed : (log : List Entry) (j : ℕ) (marks : Marks) (room : ℕ) → HasRoomForResults (unsettled kinds setup log) marks room → HasRoomForResults (unsettled kinds setup (log ++ Processed j ∷ [])) marks room
  room_processed log j marks room has =
      let all = issues kinds setup (received log) in
      let events : received (log ++ Processed j ∷ []) ≡ received log = received-append log (Processed j ∷ []) ∙ append-nil (received log) in
      let is : unsettled kinds setup (log ++ Processed j ∷ []) ≡ concat (drop (processed log + 1) all) =
      ap (λ (k : ℕ). concat (drop k (issues kinds setup (received (log ++ Processed j ∷ []))))) (processed_push log (Processed j)) ∙ ap (λ (es : List Event). concat (drop (processed log + 1) (issues kinds setup es))) events in
      let rest = concat (drop (processed log + 1) all) in
      let first = get_or all (processed log) [] in
      let joined = front_of (processed log) all in
      let counts = ap (λ (l : List Issued). count_by (lacks_result marks) l) joined ∙ sum_by-append (λ x. cond (lacks_result marks x) 1 0) first rest in
      let lengths = ap (λ (l : List Issued). length l) joined ∙ length-append first rest in
      let now = has.in_view in
      let next = has.in_next in
      subst (λ (l : List Issued). HasRoomForResults l marks room) (sym is) (record { in_view = omega (arith, counts, now); in_next = omega (arith, lengths, next) })

  -- a result comes of a command that is pending: it is noted where it is the first
  module _ (log : List Entry) (marks after : Marks) (room later s l n : ℕ) (has : HasRoomForResults (unsettled kinds setup log) marks room) (pending : is_pending kinds setup log s l n ≡ true)
      (first : has_result marks s l n ≡ false → length marks.acked < room → after ≡ with_mark marks s l n) (again : has_result marks s l n ≡ true → after ≡ marks) where
    marked_once : (has_result marks s l n ≡ false) → (after ≡ with_mark marks s l n) × (count_by (lacks_result after) (unsettled kinds setup log) + 1 ≤ count_by (lacks_result marks) (unsettled kinds setup log)) × (length after.acked ≡ length marks.acked + 1)
    marked_once new =
        let less = lower marks s l n new (unsettled kinds setup log) (is_unsettled kinds setup log s l n pending) in
        let there = has.in_view in
        let noted = first new (omega (arith, less, there)) in
        let is = noted ∙ marked_is marks s l n new in
        let long = ap (λ (m : Marks). length m.acked) is in
        let pushed = length-append marks.acked ((s, l, n) ∷ []) in
        (noted, subst (λ (m : Marks). count_by (lacks_result m) (unsettled kinds setup log) + 1 ≤ count_by (lacks_result marks) (unsettled kinds setup log)) (sym is) less, omega (arith, long, pushed))

    pub noted_is : after ≡ with_marked_result kinds setup log marks s l n
    noted_is =
        elim (cases_Bool (has_result marks s l n)) [
          | inl came ↦ again came ∙ sym (ap (λ (b : Bool). if b then marks else marked marks s l n) came) ∙ sym (counts (with_mark marks s l n))
          | inr new ↦ (marked_once new).0 ∙ sym (counts (with_mark marks s l n))
        ]
      where
        counts : (m : Marks) → (if is_pending kinds setup log s l n then m else marks) ≡ m
        counts m = ap (λ (b : Bool). if b then m else marks) pending

    pub noted_room : room ≤ later → HasRoomForResults (unsettled kinds setup log) after later
    noted_room more =
        let there = has.in_view in
        let begun = has.in_next in
        elim (cases_Bool (has_result marks s l n)) [
          | inl came ↦ subst (λ (m : Marks). HasRoomForResults (unsettled kinds setup log) m later) (sym (again came)) (record { in_view = omega (arith, there, more); in_next = omega (arith, begun, more) })
          | inr new ↦ let o = marked_once new in let less = o.1 in let long = o.2 in record { in_view = omega (arith, there, more, less, long); in_next = omega (arith, begun, more) }
        ]

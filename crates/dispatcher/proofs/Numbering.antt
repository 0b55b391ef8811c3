-- The commands whose numbers are pending are those that are not settled: a life's commands are numbered in the order of issue.
use Rattle.std.proofs.Common.{inl, inr, ◌≡◌, ◌<◌, ◌≤◌, ℕ, zero, suc, ◌+◌, Bool, true, false, ◌&&◌, List, [], ◌∷◌, ◌++◌, take, drop, get_or, refl, sym, ap, subst, ◌∙◌, arith, append-nil, append_assoc}
use Rattle.std.specs.Prelude.{count_by, nat_eq, nat_le, nat_lt, if◌then◌else◌}
use Rattle.std.specs.List.{AllByRecursion, list_any}
use Rattle.std.proofs.lemmas.Bool.{and_from, and_parts, cases_Bool, cases_eq, eqb-true, eq-eqb, le-leb, lt-ltb, leb-true, ltb-true, or_left, or_right}
use Rattle.std.proofs.lemmas.List.{take-append-drop}
use Rattle.std.proofs.lemmas.List.Sums.{sum_by-append, sum_by-cons}
use Rattle.of_types.specs.declared.message.Command.{Command}
use Rattle.of_types.specs.declared.message.Event.{Event}
use Rattle.of_types.specs.declared.setup.Setup.{Setup}
use Rattle.vr_log.specs.declared.entry.Entry.{Entry}
use Rattle.vr_log.specs.Log.{received, processed}
use Rattle.app_core.specs.declared.issued.Issued.{Issued}
use Rattle.app_core.specs.Chain.{concat, reactions}
use Rattle.app_core.specs.Issued.{commands_of, count_issued, issue, issue_each, issue_all, issues}
use Rattle.app_core.proofs.Issuing.{concat-append}
use Rattle.dispatcher.specs.Marks.{is_pending, settled_commands, unsettled}
use Rattle.dispatcher.proofs.Ledgers.{count_issued_push}

-- one for what passes a test, else nothing
abbrev pub one_if : Bool → ℕ
one_if b = if b then 1 else 0

-- a command of this number of this life
abbrev pub is_of : ℕ → ℕ → ℕ → Issued → Bool
is_of s l n x = nat_eq s x.switch && nat_eq l x.life && nat_eq n x.number

-- each has the next number of its life, behind those that were issued before
abbrev AreNumbered : List Issued → List Issued → Type 0
AreNumbered before [] = Unit {0}
AreNumbered before (x ∷ xs) = (x.number ≡ count_issued x.switch x.life before) × AreNumbered (before ++ x ∷ []) xs

numbered_each : (events : List Event) (before : List Issued) (commands : List Command) → AreNumbered before (issue_each events before commands)
numbered_each events before [] = tt
numbered_each events before (c ∷ commands) = (refl, numbered_each events (before ++ issue events before c ∷ []) commands)

numbered_both : (before xs ys : List Issued) → AreNumbered before xs → AreNumbered (before ++ xs) ys → AreNumbered before (xs ++ ys)
numbered_both before [] ys a b = subst (λ (l : List Issued). AreNumbered l ys) (append-nil before) b
numbered_both before (x ∷ xs) ys a b = (a.0, numbered_both (before ++ x ∷ []) xs ys a.1 (subst (λ (l : List Issued). AreNumbered l ys) (sym (append_assoc before (x ∷ []) xs)) b))

numbered_back : (before xs ys : List Issued) → AreNumbered before (xs ++ ys) → AreNumbered (before ++ xs) ys
numbered_back before [] ys a = subst (λ (l : List Issued). AreNumbered l ys) (sym (append-nil before)) a
numbered_back before (x ∷ xs) ys a = subst (λ (l : List Issued). AreNumbered l ys) (append_assoc before (x ∷ []) xs) (numbered_back (before ++ x ∷ []) xs ys a.1)

numbered_all : (past : List Event) (before : List Issued) (es : List Event) (lists : List (List Command)) → AreNumbered before (concat (issue_all past before es lists))
numbered_all past before [] lists = tt
numbered_all past before (e ∷ es) [] = tt
numbered_all past before (e ∷ es) (commands ∷ lists) =
    let now = issue_each (past ++ e ∷ []) before commands in
    numbered_both before now (concat (issue_all (past ++ e ∷ []) (before ++ now) es lists)) (numbered_each (past ++ e ∷ []) before commands) (numbered_all (past ++ e ∷ []) (before ++ now) es lists)

module _ (s l n : ℕ) where
  -- it is the first of them, or one behind it
  here : (before : List Issued) (x : Issued) (xs : List Issued) → x.number ≡ count_issued x.switch x.life before → count_issued s l before ≤ n →
      (count_issued s l (before ++ x ∷ []) ≤ n → list_any (is_of s l n) xs ≡ true) → list_any (is_of s l n) (x ∷ xs) ≡ true
  here before x xs number low behind =
      let pushed = count_issued_push s l before x in
      elim (cases_Bool (nat_eq s x.switch && nat_eq l x.life)) [
        | inl same ↦
            let p = and_parts (nat_eq s x.switch) (nat_eq l x.life) same in
            let a : s ≡ x.switch = eqb-true s x.switch p.0 in
            let b : l ≡ x.life = eqb-true l x.life p.1 in
            let is : x.number ≡ count_issued s l before = number ∙ ap (λ (k : ℕ). count_issued k x.life before) (sym a) ∙ ap (λ (k : ℕ). count_issued s k before) (sym b) in
            let one : count_issued s l (before ++ x ∷ []) ≡ count_issued s l before + 1 = pushed ∙ ap (λ (c : Bool). count_issued s l before + (if c then 1 else 0)) same in
            elim (cases_eq n x.number) [
              | inl this ↦ or_left (is_of s l n x) (list_any (is_of s l n) xs) (and_from (nat_eq s x.switch && nat_eq l x.life) (nat_eq n x.number) same (eq-eqb n x.number this))
              | inr other ↦ or_right (is_of s l n x) (list_any (is_of s l n) xs) (behind (higher (count_issued s l before) (count_issued s l (before ++ x ∷ [])) low one (λ e. other (e ∙ sym is))))
            ]
        | inr apart ↦
            let none : count_issued s l (before ++ x ∷ []) ≡ count_issued s l before + 0 = pushed ∙ ap (λ (c : Bool). count_issued s l before + (if c then 1 else 0)) apart in
            or_right (is_of s l n x) (list_any (is_of s l n) xs) (behind (omega (arith, low, none)))
      ]
    where
      higher : (a b : ℕ) → a ≤ n → b ≡ a + 1 → (n ≡ a → ⊥) → b ≤ n
      higher a b le one other = elim (cases_eq n a) [ inl same ↦ absurd (other same) | inr apart ↦ omega (arith, le, one, apart) ]

  finds : (before xs : List Issued) → AreNumbered before xs → count_issued s l before ≤ n → n < count_issued s l (before ++ xs) → list_any (is_of s l n) xs ≡ true
  finds before [] a low high = let same = ap (λ (z : List Issued). count_issued s l z) (append-nil before) in absurd (omega (arith, low, high, same))
  finds before (x ∷ xs) a low high =
      let joined = ap (λ (z : List Issued). count_issued s l z) (append_assoc before (x ∷ []) xs) in
      here before x xs a.0 low (λ more. finds (before ++ x ∷ []) xs a.1 more (omega (arith, high, joined)))

-- a command of a life of a switch
abbrev is_in : ℕ → ℕ → Issued → Bool
is_in s l x = nat_eq x.switch s && nat_eq x.life l

module _ (s l n : ℕ) where
  -- a command that is issued with this number
  number_is : (before : List Issued) (x : Issued) → x.number ≡ count_issued x.switch x.life before → is_of s l n x ≡ true → (n ≡ count_issued s l before) × ((nat_eq s x.switch && nat_eq l x.life) ≡ true)
  number_is before x number is =
      let p = and_parts (nat_eq s x.switch && nat_eq l x.life) (nat_eq n x.number) is in
      let q = and_parts (nat_eq s x.switch) (nat_eq l x.life) p.0 in
      let a : s ≡ x.switch = eqb-true s x.switch q.0 in
      let b : l ≡ x.life = eqb-true l x.life q.1 in
      let c : n ≡ x.number = eqb-true n x.number p.1 in
      (c ∙ number ∙ ap (λ (k : ℕ). count_issued k x.life before) (sym a) ∙ ap (λ (k : ℕ). count_issued s k before) (sym b), p.0)

  -- no command has a number that was given before
  given_before : (before xs : List Issued) → AreNumbered before xs → n < count_issued s l before → count_by (is_of s l n) xs ≤ 0
  given_before before [] a low = omega arith
  given_before before (x ∷ xs) a low =
      let pushed = count_issued_push s l before x in
      let rest = given_before (before ++ x ∷ []) xs a.1 (omega (arith, low, pushed)) in
      let step = sum_by-cons (λ y. one_if (is_of s l n y)) x xs in
      elim (cases_Bool (is_of s l n x)) [
        | inl is ↦ let e = (number_is before x a.0 is).0 in absurd (omega (arith, e, low))
        | inr apart ↦ let none = ap one_if apart in omega (arith, step, none, rest)
      ]

  -- at most one has this number
  numbered_once : (before xs : List Issued) → AreNumbered before xs → count_by (is_of s l n) xs ≤ 1
  numbered_once before [] a = omega arith
  numbered_once before (x ∷ xs) a =
      let step = sum_by-cons (λ y. one_if (is_of s l n y)) x xs in
      elim (cases_Bool (is_of s l n x)) [
        | inl is ↦
            let e = number_is before x a.0 is in
            let number = e.0 in
            let more = ap one_if e.1 in
            let pushed = count_issued_push s l before x in
            let rest = given_before (before ++ x ∷ []) xs a.1 (omega (arith, number, more, pushed)) in
            let one = ap one_if is in
            omega (arith, step, one, rest)
        | inr apart ↦ let none = ap one_if apart in let rest = numbered_once (before ++ x ∷ []) xs a.1 in omega (arith, step, none, rest)
      ]

-- a command whose number is pending, where these are settled of all that are issued
abbrev PendsIn : List Issued → List Issued → Issued → Type 0
PendsIn settled all x = (nat_le (count_issued x.switch x.life settled) x.number && nat_lt x.number (count_issued x.switch x.life all)) ≡ true

-- each command behind those that are settled is pending
each_pends : (settled before xs all : List Issued) → AreNumbered before xs → ((s l : ℕ) → count_issued s l settled ≤ count_issued s l before) →
    ((s l : ℕ) → count_issued s l (before ++ xs) ≤ count_issued s l all) → AllByRecursion (PendsIn settled all) xs
each_pends settled before [] all a low high = tt
each_pends settled before (x ∷ xs) all a low high = (
  let s = x.switch in
      let l = x.life in
      let own = ap one_if (and_from (nat_eq s s) (nat_eq l l) (eq-eqb s s refl) (eq-eqb l l refl)) in
      let step = sum_by-cons (λ y. one_if (is_in s l y)) x xs in
      let joined = sum_by-append (λ y. one_if (is_in s l y)) before (x ∷ xs) in
      let first = low s l in
      let last = high s l in
      let number = a.0 in
      and_from (nat_le (count_issued s l settled) x.number) (nat_lt x.number (count_issued s l all))
      (le-leb (count_issued s l settled) x.number (omega (arith, first, number)))
      (lt-ltb x.number (count_issued s l all) (omega (arith, own, step, joined, last, number))),
  each_pends settled (before ++ x ∷ []) xs all a.1
      (λ s l. let pushed = count_issued_push s l before x in let first = low s l in omega (arith, pushed, first))
      (λ s l. let last = high s l in let same = ap (λ (z : List Issued). count_issued s l z) (append_assoc before (x ∷ []) xs) in omega (arith, last, same)),
)

-- what is pending has these numbers alone
none_apart : (settled all xs : List Issued) (s l n : ℕ) → AllByRecursion (PendsIn settled all) xs → (nat_le (count_issued s l settled) n && nat_lt n (count_issued s l all)) ≡ false → count_by (is_of s l n) xs ≤ 0
none_apart settled all [] s l n h apart = omega arith
none_apart settled all (x ∷ xs) s l n h apart =
    let step = sum_by-cons (λ y. one_if (is_of s l n y)) x xs in
    let rest = none_apart settled all xs s l n h.1 apart in
    elim (cases_Bool (is_of s l n x)) [
      | inl is ↦
          let p = and_parts (nat_eq s x.switch && nat_eq l x.life) (nat_eq n x.number) is in
          let q = and_parts (nat_eq s x.switch) (nat_eq l x.life) p.0 in
          let a : s ≡ x.switch = eqb-true s x.switch q.0 in
          let b : l ≡ x.life = eqb-true l x.life q.1 in
          let c : n ≡ x.number = eqb-true n x.number p.1 in
          let pends = h.0 in
          absurd cc (a, b, c, pends, apart)
      | inr other ↦ let none = ap one_if other in omega (arith, step, none, rest)
    ]

-- lists, one after another, from a place on: the list that stands there is in front of the others
pub front_of : (n : ℕ) (xs : List (List Issued)) → concat (drop n xs) ≡ get_or xs n [] ++ concat (drop (n + 1) xs)
front_of zero [] = refl
front_of zero (x ∷ xs) = refl
front_of (suc n) [] = let e : suc (n + 1) ≡ suc n + 1 = omega arith in ap (λ (k : ℕ). concat {A = Issued} (drop k [])) e
front_of (suc n) (x ∷ xs) = let e : suc (n + 1) ≡ suc n + 1 = omega arith in front_of n xs ∙ ap (λ (k : ℕ). get_or xs n [] ++ concat (drop k (x ∷ xs))) e

all_in_front : (P : Issued → Type 0) (xs ys : List Issued) → AllByRecursion P (xs ++ ys) → AllByRecursion P xs
all_in_front P [] ys h = tt
all_in_front P (x ∷ xs) ys h = (h.0, all_in_front P xs ys h.1)

module _ (kinds : List ℕ) (setup : Setup) where
  numbered_issues : (es : List Event) → AreNumbered [] (concat (issues kinds setup es))
  unfolding issues
  numbered_issues es = numbered_all [] [] es (reactions kinds setup es)

  -- the commands that are settled
  abbrev settled_in : List Entry → List Issued
  settled_in log = concat (take (processed log) (issues kinds setup (received log)))

  -- what is issued: what is settled, and what is not
  issued_is : (log : List Entry) → concat (issues kinds setup (received log)) ≡ settled_in log ++ unsettled kinds setup log
  issued_is log =
      let all = issues kinds setup (received log) in
      ap (λ (z : List (List Issued)). concat z) (sym (take-append-drop (processed log) all)) ∙ concat-append (take (processed log) all) (drop (processed log) all)

  numbered_behind : (log : List Entry) → AreNumbered (settled_in log) (unsettled kinds setup log)
  numbered_behind log = numbered_back [] (settled_in log) (unsettled kinds setup log) (subst (λ (z : List Issued). AreNumbered [] z) (issued_is log) (numbered_issues (received log)))

  pub is_unsettled : (log : List Entry) (s l n : ℕ) → is_pending kinds setup log s l n ≡ true → list_any (is_of s l n) (unsettled kinds setup log) ≡ true
  is_unsettled log s l n pending =
      let all = concat (issues kinds setup (received log)) in
      let p = and_parts (nat_le (settled_commands kinds setup log s l) n) (nat_lt n (count_issued s l all)) pending in
      finds s l n (settled_in log) (unsettled kinds setup log) (numbered_behind log)
      (leb-true (settled_commands kinds setup log s l) n p.0)
      (subst (λ (z : List Issued). n < count_issued s l z) (issued_is log) (ltb-true n (count_issued s l all) p.1))

  -- the number of a command is pending
  abbrev pub Pends : List Entry → Issued → Type 0
  Pends log x = is_pending kinds setup log x.switch x.life x.number ≡ true

  -- those of commands that are not settled are
  pub all_pend : (log : List Entry) → AllByRecursion (Pends log) (unsettled kinds setup log)
  all_pend log =
      each_pends (settled_in log) (settled_in log) (unsettled kinds setup log) (concat (issues kinds setup (received log))) (numbered_behind log)
      (λ s l. omega arith) (λ s l. let same = ap (λ (z : List Issued). count_issued s l z) (issued_is log) in omega (arith, same))

  -- so are those of the commands of the first event that is not processed
  pub first_pend : (log : List Entry) → AllByRecursion (Pends log) (commands_of kinds setup (received log) (processed log))
  first_pend log =
      let all = issues kinds setup (received log) in
      all_in_front (Pends log) (commands_of kinds setup (received log) (processed log)) (concat (drop (processed log + 1) all))
      (subst (λ (z : List Issued). AllByRecursion (Pends log) z) (front_of (processed log) all) (all_pend log))

  -- and each number once
  pub unsettled_once : (log : List Entry) (s l n : ℕ) → count_by (is_of s l n) (unsettled kinds setup log) ≤ one_if (is_pending kinds setup log s l n)
  unsettled_once log s l n =
      elim (cases_Bool (is_pending kinds setup log s l n)) [
        | inl pending ↦ let one = ap one_if pending in let few = numbered_once s l n (settled_in log) (unsettled kinds setup log) (numbered_behind log) in omega (arith, one, few)
        | inr apart ↦ let few = none_apart (settled_in log) (concat (issues kinds setup (received log))) (unsettled kinds setup log) s l n (all_pend log) apart in omega (arith, few)
      ]

-- The numbers of the commands of one event: for a life of a switch they go on from those before, one after another.
use Rattle.std.proofs.Common.{◌≡◌, ◌≤◌, ◌<◌, ℕ, ◌+◌, ◌-◌, zero, suc, Bool, true, false, List, [], ◌∷◌, ◌++◌, length, take, refl, sym, ◌∙◌, ap, inl, inr, arith, append-nil, append_assoc}
use Rattle.std.specs.Prelude.{nat_eq, slice_index_or, if◌then◌else◌}
use Rattle.std.specs.List.{range_with_len}
use Rattle.std.proofs.lemmas.Bool.{and_parts, cases_lt, eqb-true}
use Rattle.std.proofs.lemmas.List.Sums.{sum_by-append, sum_by-cons, count_by-le-length}
use Rattle.list_facts.specs.Lists.{IsIn}
use Rattle.of_types.specs.declared.message.Command.{Command}
use Rattle.of_types.specs.declared.message.Event.{Event}
use Rattle.of_types.specs.declared.setup.Setup.{Setup}
use Rattle.app_core.specs.Chain.{concat, reactions}
use Rattle.app_core.specs.declared.issued.Issued.{Issued}
use Rattle.app_core.specs.Issued.{count_issued, commands_of, issue, issue_all, issue_each, issues}
use Rattle.app_core.proofs.Issuing.{length-issues}
use Rattle.controller_moves.proofs.ControllerLaws.Issued.{command_between, count-orders, is_of, issues-take, next_list}
use Rattle.closing_laws.proofs.Primary.Telling.{numbers_in}

-- ranges
pub range-append : (a m n : ℕ) → range_with_len a m ++ range_with_len (a + m) n ≡ range_with_len a (m + n)
range-append a zero n = let e : a + 0 ≡ a = omega arith in let f : 0 + n ≡ n = omega arith in ap (λ (k : ℕ). range_with_len k n) e ∙ ap (range_with_len a) (sym f)
range-append a (suc m) n =
    let e : a + suc m ≡ (a + 1) + m = omega arith in
    let e2 : suc m + n ≡ suc (m + n) = omega arith in
    ap (λ (k : ℕ). a ∷ (range_with_len (a + 1) m ++ range_with_len k n)) e ∙ ap (λ (z : List ℕ). a ∷ z) (range-append (a + 1) m n) ∙ ap (λ (k : ℕ). range_with_len a k) (sym e2)

pub in_range : (a n i : ℕ) → a ≤ i → i < a + n → IsIn i (range_with_len a n)
in_range a zero i least most = absurd (omega (arith, least, most))
in_range a (suc n) i least most = elim (cases_lt a i) [
  | inl more ↦ inr (in_range (a + 1) n i (omega (arith, more)) (omega (arith, most)))
  | inr less ↦ inl (omega (arith, less, least))
]

pub of_range : (a n i : ℕ) → IsIn i (range_with_len a n) → (a ≤ i) × (i < a + n)
of_range a zero i h = absurd h
of_range a (suc n) i (inl e) = (omega (arith, e), omega (arith, e))
of_range a (suc n) i (inr h) = let r = of_range (a + 1) n i h in (omega (arith, r), omega (arith, r))

-- from one number to another
pub range_joined : (a m n : ℕ) → a ≤ m → m ≤ n → range_with_len a (m - a) ++ range_with_len m (n - m) ≡ range_with_len a (n - a)
range_joined a m n low high =
    let e : a + (m - a) ≡ m = omega (arith, low) in
    let f : (m - a) + (n - m) ≡ n - a = omega (arith, low, high) in
    ap (λ (k : ℕ). range_with_len a (m - a) ++ range_with_len k (n - m)) (sym e) ∙ range-append a (m - a) (n - m) ∙ ap (range_with_len a) f

-- one command before others
step_number : (b : Bool) (number first count before : ℕ) (numbers : List ℕ) → (b ≡ true → number ≡ before) → first ≡ (if b then 1 else 0) + count →
    numbers ≡ range_with_len (before + (if b then 1 else 0)) count → (if b then number ∷ numbers else numbers) ≡ range_with_len before first
step_number true number first count before numbers own total rest =
    let e : first ≡ suc count = omega (arith, total) in
    ap (λ (k : ℕ). k ∷ numbers) (own refl) ∙ ap (λ (z : List ℕ). before ∷ z) rest ∙ ap (range_with_len before) (sym e)
step_number false number first count before numbers own total rest =
    let e : first ≡ count = omega (arith, total) in
    let f : before + 0 ≡ before = omega arith in
    rest ∙ ap (λ (k : ℕ). range_with_len k count) f ∙ ap (range_with_len before) (sym e)

count_pushed : (s l : ℕ) (before : List Issued) (x : Issued) → count_issued s l (before ++ x ∷ []) ≡ count_issued s l before + (if is_of s l x then 1 else 0)
count_pushed s l before x = let whole = sum_by-append (λ (y : Issued). if is_of s l y then 1 else 0) before (x ∷ []) in omega (arith, whole)

-- what is issued for one event
pub each_numbered : (events : List Event) (before : List Issued) (cs : List Command) (s l : ℕ) →
    numbers_in s l (issue_each events before cs) ≡ range_with_len (count_issued s l before) (count_issued s l (issue_each events before cs))
each_numbered events before [] s l = refl
each_numbered events before (c ∷ cs) s l =
    step_number (is_of s l x) x.number (count_issued s l (x ∷ rest)) (count_issued s l rest) (count_issued s l before) (numbers_in s l rest) own
    (sum_by-cons (λ (y : Issued). if is_of s l y then 1 else 0) x rest)
    (each_numbered events (before ++ x ∷ []) cs s l ∙ ap (λ (k : ℕ). range_with_len k (count_issued s l rest)) (count_pushed s l before x))
  where
    x : Issued
    x = issue events before c

    rest : List Issued
    rest = issue_each events (before ++ x ∷ []) cs

    own : is_of s l x ≡ true → x.number ≡ count_issued s l before
    own is =
        let both = and_parts (nat_eq x.switch s) (nat_eq x.life l) is in
        ap (λ (k : ℕ). count_issued k x.life before) (eqb-true x.switch s both.0) ∙ ap (λ (k : ℕ). count_issued s k before) (eqb-true x.life l both.1)

-- so is what is issued for the event at a place
all_numbered : (j : ℕ) (past : List Event) (before : List Issued) (es : List Event) (ls : List (List Command)) (s l : ℕ) → j < length (issue_all past before es ls) →
    numbers_in s l (slice_index_or (issue_all past before es ls) j []) ≡
    range_with_len (count_issued s l (before ++ concat (take j (issue_all past before es ls)))) (count_issued s l (slice_index_or (issue_all past before es ls) j []))
all_numbered j past before [] ls s l h = absurd (omega (arith, h))
all_numbered j past before (e ∷ es) [] s l h = absurd (omega (arith, h))
all_numbered zero past before (e ∷ es) (c ∷ ls) s l h =
    each_numbered (past ++ e ∷ []) before c s l
    ∙ ap (λ (z : List Issued). range_with_len (count_issued s l z) (count_issued s l (issue_each (past ++ e ∷ []) before c))) (sym (append-nil before))
all_numbered (suc j) past before (e ∷ es) (c ∷ ls) s l h =
    let now = issue_each (past ++ e ∷ []) before c in
    let more = issue_all (past ++ e ∷ []) (before ++ now) es ls in
    all_numbered j (past ++ e ∷ []) (before ++ now) es ls s l (omega (arith, h))
    ∙ ap (λ (z : List Issued). range_with_len (count_issued s l z) (count_issued s l (slice_index_or more j []))) (append_assoc before now (concat (take j more)))

-- how many commands of a life come with the first events
abbrev pub counted : List ℕ → Setup → ℕ → ℕ → List Event → ℕ
counted kinds setup s l events = count_issued s l (concat (issues kinds setup events))

module _ (kinds : List ℕ) (setup : Setup) where
  -- the commands of one event more
  pub counted_next : (s l j : ℕ) (events : List Event) → j < length events →
      counted kinds setup s l (take (j + 1) events) ≡ counted kinds setup s l (take j events) + count_issued s l (commands_of kinds setup events j)
  counted_next s l j events there =
      let long = length-issues kinds setup events in
      ap (λ (z : List (List Issued)). count_issued s l (concat z)) (issues-take kinds setup (j + 1) events)
      ∙ ap (count_issued s l) (next_list (issues kinds setup events) j (omega (arith, long, there)))
      ∙ sum_by-append (λ (y : Issued). if is_of s l y then 1 else 0) (concat (take j (issues kinds setup events))) (commands_of kinds setup events j)
      ∙ ap (λ (z : List (List Issued)). count_issued s l (concat z) + count_issued s l (commands_of kinds setup events j)) (sym (issues-take kinds setup j events))

  at_place : (s l j : ℕ) (events : List Event) → j < length (issues kinds setup events) →
      numbers_in s l (commands_of kinds setup events j) ≡ range_with_len (count_issued s l (concat (take j (issues kinds setup events)))) (count_issued s l (commands_of kinds setup events j))
  unfolding issues
  at_place s l j events h = all_numbered j [] [] events (reactions kinds setup events) s l h

  -- their numbers
  pub commands_numbered : (s l j : ℕ) (events : List Event) → j < length events →
      numbers_in s l (commands_of kinds setup events j) ≡ range_with_len (counted kinds setup s l (take j events)) (count_issued s l (commands_of kinds setup events j))
  commands_numbered s l j events there =
      at_place s l j events (let long = length-issues kinds setup events in omega (arith, long, there))
      ∙ ap (λ (z : List (List Issued)). range_with_len (count_issued s l (concat z)) (count_issued s l (commands_of kinds setup events j))) (sym (issues-take kinds setup j events))

  -- a command's number is between
  pub command_within : (j : ℕ) (events : List Event) (x : Issued) → IsIn x (commands_of kinds setup events j) →
      (counted kinds setup x.switch x.life (take j events) ≤ x.number) × (x.number < counted kinds setup x.switch x.life (take j events) + length (commands_of kinds setup events j))
  command_within j events x h =
      let b = command_between kinds setup events j x h in
      let low = count-orders x.switch x.life (concat (issues kinds setup (take j events))) in
      let high = count-orders x.switch x.life (concat (issues kinds setup (take (j + 1) events))) in
      let next = counted_next x.switch x.life j events b.there in
      let few = count_by-le-length (is_of x.switch x.life) (commands_of kinds setup events j) in
      let least = b.least in
      let most = b.most in
      (omega (arith, low, least), omega (arith, high, most, next, few))

-- What the controller that never fails issues on a log that grows, to each life of a switch, and the numbers of its
-- commands.
use Rattle.std.proofs.Common.{inl, inr, ◌⊎◌, ◌≡◌, ◌≤◌, ◌<◌, ℕ, ◌+◌, Bool, true, false, ◌&&◌, List, [], ◌∷◌, ◌++◌, length, take, zero, suc, refl, sym, ap, subst, ◌∙◌, arith, append-nil, append_assoc, length-append}
use Rattle.std.specs.Prelude.{nat_eq, slice_get, slice_index_or, Some, if◌then◌else◌}
use Rattle.std.proofs.lemmas.Bool.{eqb-true, eq-eqb, and_parts, cases_lt}
use Rattle.std.proofs.lemmas.List.Sums.{sum_by-cons}
use Rattle.std.proofs.lemmas.Option.{slice_get_within}
use Rattle.of_types.specs.declared.message.Command.{Command}
use Rattle.of_types.specs.declared.message.Event.{Event}
use Rattle.of_types.specs.declared.message.Order.{Order}
use Rattle.of_types.specs.declared.setup.Setup.{Setup}
use Rattle.app_core.specs.Chain.{concat, chain_next, starting_chain, reactions_from, reactions}
use Rattle.app_core.specs.declared.issued.Issued.{Issued}
use Rattle.app_core.specs.Issued.{count_issued, issue, issue_each, issue_all, issues, commands_of, orders_in, issued}
use Rattle.app_core.proofs.Issuing.{concat-append, length-issues}
use Rattle.list_facts.proofs.Places.{get_prefix}
use Rattle.list_facts.proofs.Prefixes.{front_prefix, prefix_length}
use Rattle.list_facts.specs.Lists.{IsIn, IsPrefix}

-- a beginning of a list of lists
pub concat_prefix : {A : Type 0} (xs ys : List (List A)) → IsPrefix xs ys → IsPrefix (concat xs) (concat ys)
concat_prefix xs ys p = record { rest = concat p.rest; joined = ap (λ l. concat l) p.joined ∙ concat-append xs p.rest }

-- a command is for a life of a switch
abbrev pub is_of : ℕ → ℕ → Issued → Bool
is_of s l x = nat_eq x.switch s && nat_eq x.life l

-- one order more or not, before others
orders-choice : (b : Bool) (o : Order) (xs ys : List Order) → (if b then o ∷ (xs ++ ys) else xs ++ ys) ≡ (if b then o ∷ xs else xs) ++ ys
orders-choice true o xs ys = refl
orders-choice false o xs ys = refl

-- the orders of commands, in two parts
pub orders_in-append : (s l : ℕ) (xs ys : List Issued) → orders_in s l (xs ++ ys) ≡ orders_in s l xs ++ orders_in s l ys
orders_in-append s l [] ys = refl
orders_in-append s l (x ∷ xs) ys =
    ap (λ (os : List Order). if is_of s l x then x.order ∷ os else os) (orders_in-append s l xs ys) ∙ orders-choice (is_of s l x) x.order (orders_in s l xs) (orders_in s l ys)

-- and of a beginning
pub orders_prefix : (s l : ℕ) (xs ys : List Issued) → IsPrefix xs ys → IsPrefix (orders_in s l xs) (orders_in s l ys)
orders_prefix s l xs ys p = record { rest = orders_in s l p.rest; joined = ap (λ (z : List Issued). orders_in s l z) p.joined ∙ orders_in-append s l xs p.rest }

-- a count is the length of the orders
length-choice : (b : Bool) (o : Order) (xs : List Order) (n : ℕ) → n ≡ length xs → (if b then 1 else 0) + n ≡ length (if b then o ∷ xs else xs)
length-choice true o xs n e = omega (arith, e)
length-choice false o xs n e = omega (arith, e)

-- there is an order for each command of a life
pub count-orders : (s l : ℕ) (xs : List Issued) → count_issued s l xs ≡ length (orders_in s l xs)
count-orders s l [] = refl
count-orders s l (x ∷ xs) = sum_by-cons _ x xs ∙ length-choice (is_of s l x) x.order (orders_in s l xs) (count_issued s l xs) (count-orders s l xs)

-- the first events, and what is issued for them
reactions_from-take : (kinds : List ℕ) (setup : Setup) (states : List (List ℕ)) (n : ℕ) (es : List Event) →
    reactions_from kinds setup states (take n es) ≡ take n (reactions_from kinds setup states es)
reactions_from-take kinds setup states zero es = refl
reactions_from-take kinds setup states (suc n) [] = refl
reactions_from-take kinds setup states (suc n) (e ∷ es) =
    ap (λ l. (chain_next kinds setup states e).commands ∷ l) (reactions_from-take kinds setup (chain_next kinds setup states e).states n es)

-- what is issued for the first events
issue_all-take : (n : ℕ) (past : List Event) (before : List Issued) (es : List Event) (ls : List (List Command)) → issue_all past before (take n es) (take n ls) ≡ take n (issue_all past before es ls)
issue_all-take zero past before es ls = refl
issue_all-take (suc n) past before [] [] = refl
issue_all-take (suc n) past before [] (l ∷ ls) = refl
issue_all-take (suc n) past before (e ∷ es) [] = refl
issue_all-take (suc n) past before (e ∷ es) (l ∷ ls) =
    ap (λ (z : List (List Issued)). issue_each (past ++ e ∷ []) before l ∷ z) (issue_all-take n (past ++ e ∷ []) (before ++ issue_each (past ++ e ∷ []) before l) es ls)

-- the list at a place is issued behind all before it
record IsIssuedAt (all : List Issued) (now : List Issued) : Type 0 where
  pub events : List Event
  pub commands : List Command
  pub is : now ≡ issue_each events all commands

-- so is each of what is issued
issued_at : (j : ℕ) (past : List Event) (before : List Issued) (es : List Event) (ls : List (List Command)) → j < length (issue_all past before es ls) →
    IsIssuedAt (before ++ concat (take j (issue_all past before es ls))) (slice_index_or (issue_all past before es ls) j [])
issued_at j past before [] ls h = absurd (omega (arith, h))
issued_at j past before (e ∷ es) [] h = absurd (omega (arith, h))
issued_at zero past before (e ∷ es) (l ∷ ls) h =
    record { events = past ++ e ∷ []; commands = l; is = ap (λ (z : List Issued). issue_each (past ++ e ∷ []) z l) (sym (append-nil before)) }
issued_at (suc j) past before (e ∷ es) (l ∷ ls) h =
    let now = issue_each (past ++ e ∷ []) before l in
    let r = issued_at j (past ++ e ∷ []) (before ++ now) es ls (omega (arith, h)) in
    record {
      events = r.events;
      commands = r.commands;
      is = r.is ∙ ap (λ (z : List Issued). issue_each r.events z r.commands) (append_assoc before now (concat (take j (issue_all (past ++ e ∷ []) (before ++ now) es ls))));
    }

-- the order behind others
order_choice : (b : Bool) (o : Order) (xs ys : List Order) → b ≡ true → slice_get (xs ++ (if b then o ∷ ys else ys)) (length xs) ≡ Some o
order_choice true o [] ys h = refl
order_choice true o (x ∷ xs) ys h = order_choice true o xs ys h
order_choice false o xs ys h = cc

same_of : (s l : ℕ) → (nat_eq s s && nat_eq l l) ≡ true
same_of s l = let a : nat_eq s s ≡ true = eq-eqb s s refl in let b : nat_eq l l ≡ true = eq-eqb l l refl in rw (a, b) refl

-- a number tells the place among the orders
pub each_stands : (events : List Event) (before : List Issued) (cs : List Command) (n : Issued) → IsIn n (issue_each events before cs) →
    slice_get (orders_in n.switch n.life (before ++ issue_each events before cs)) n.number ≡ Some n.order
each_stands events before [] n h = absurd h
each_stands events before (c ∷ cs) n (inl e) =
    let i = issue events before c in
    let rest = issue_each events (before ++ i ∷ []) cs in
    let place : i.number ≡ length (orders_in i.switch i.life before) = count-orders i.switch i.life before in
    let at : slice_get (orders_in i.switch i.life (before ++ i ∷ rest)) (length (orders_in i.switch i.life before)) ≡ Some i.order =
    ap (λ (os : List Order). slice_get os (length (orders_in i.switch i.life before))) (orders_in-append i.switch i.life before (i ∷ rest))
    ∙ order_choice (nat_eq i.switch i.switch && nat_eq i.life i.life) i.order (orders_in i.switch i.life before) (orders_in i.switch i.life rest) (same_of i.switch i.life) in
    subst (λ (m : Issued). slice_get (orders_in m.switch m.life (before ++ i ∷ rest)) m.number ≡ Some m.order) (sym e)
    (subst (λ (k : ℕ). slice_get (orders_in i.switch i.life (before ++ i ∷ rest)) k ≡ Some i.order) (sym place) at)
each_stands events before (c ∷ cs) n (inr h) =
    let i = issue events before c in
    subst (λ (z : List Issued). slice_get (orders_in n.switch n.life z) n.number ≡ Some n.order) (append_assoc before (i ∷ []) (issue_each events (before ++ i ∷ []) cs))
    (each_stands events (before ++ i ∷ []) cs n h)

-- and is no less than the count of those before
pub each_from : (events : List Event) (before : List Issued) (cs : List Command) (n : Issued) → IsIn n (issue_each events before cs) → length (orders_in n.switch n.life before) ≤ n.number
each_from events before [] n h = absurd h
each_from events before (c ∷ cs) n (inl e) =
    let i = issue events before c in
    let place : i.number ≡ length (orders_in i.switch i.life before) = count-orders i.switch i.life before in
    subst (λ (m : Issued). length (orders_in m.switch m.life before) ≤ m.number) (sym e) (omega (arith, place))
each_from events before (c ∷ cs) n (inr h) =
    let i = issue events before c in
    let r = each_from events (before ++ i ∷ []) cs n h in
    let more = prefix_length (orders_prefix n.switch n.life before (before ++ i ∷ []) (record { rest = i ∷ []; joined = refl })) in
    omega (arith, r, more)

-- the lists up to a place
pub next_list : {A : Type 0} (xs : List (List A)) (j : ℕ) → j < length xs → concat (take (j + 1) xs) ≡ concat (take j xs) ++ slice_index_or xs j []
next_list [] j lt = absurd (omega arith)
next_list (x ∷ xs) zero lt = append-nil x
next_list (x ∷ xs) (suc j) lt =
    let e : suc j + 1 ≡ suc (j + 1) = omega arith in
    ap (λ (n : ℕ). concat (take n (x ∷ xs))) e ∙ ap (λ l. x ++ l) (next_list xs j (omega arith)) ∙ sym (append_assoc x (concat (take j xs)) (slice_index_or xs j []))

-- behind the last list there is none
pub none_past : {A : Type 0} (xs : List (List A)) (j : ℕ) → length xs ≤ j → slice_index_or xs j [] ≡ []
none_past [] j h = refl
none_past (x ∷ xs) zero h = absurd (omega arith)
none_past (x ∷ xs) (suc j) h = none_past xs j (omega arith)

-- where a command stands: behind what is issued for the events before its own, and before what is issued for those after it
pub record IsBetween (kinds : List ℕ) (setup : Setup) (es : List Event) (j : ℕ) (n : Issued) : Type 0 where
  pub there : j < length es
  pub least : length (issued kinds setup n.switch n.life (take j es)) ≤ n.number
  pub most : n.number < length (issued kinds setup n.switch n.life (take (j + 1) es))
  pub stands : slice_get (issued kinds setup n.switch n.life es) n.number ≡ Some n.order

module _ (kinds : List ℕ) (setup : Setup) where
  pub issues-take : (n : ℕ) (es : List Event) → issues kinds setup (take n es) ≡ take n (issues kinds setup es)
  unfolding issues reactions
  issues-take n es =
      ap (λ (ls : List (List Command)). issue_all [] [] (take n es) ls) (reactions_from-take kinds setup (starting_chain kinds) n es) ∙ issue_all-take n [] [] es (reactions_from kinds setup (starting_chain kinds) es)

  at_issues : (es : List Event) (j : ℕ) → j < length (issues kinds setup es) → IsIssuedAt (concat (take j (issues kinds setup es))) (commands_of kinds setup es j)
  unfolding issues
  at_issues es j h = issued_at j [] [] es (reactions kinds setup es) h

  take_whole : {A : Type 0} (xs ys : List A) → take (length xs) (xs ++ ys) ≡ xs
  take_whole [] ys = refl
  take_whole (x ∷ xs) ys = ap (λ l. x ∷ l) (take_whole xs ys)

  pub issues_prefix : (es fs : List Event) → IsPrefix es fs → IsPrefix (issues kinds setup es) (issues kinds setup fs)
  issues_prefix es fs p =
      let e : take (length es) fs ≡ es = ap (λ (l : List Event). take (length es) l) p.joined ∙ take_whole es p.rest in
      let same : issues kinds setup es ≡ take (length es) (issues kinds setup fs) = ap (λ (l : List Event). issues kinds setup l) (sym e) ∙ issues-take (length es) fs in
      subst (λ (z : List (List Issued)). IsPrefix z (issues kinds setup fs)) (sym same) (front_prefix (length es) (issues kinds setup fs))

  -- what is issued on a longer log begins with what is issued on its beginning
  pub issued_prefix : (s l : ℕ) (es fs : List Event) → IsPrefix es fs → IsPrefix (issued kinds setup s l es) (issued kinds setup s l fs)
  issued_prefix s l es fs p = orders_prefix s l _ _ (concat_prefix _ _ (issues_prefix es fs p))

  pub issued-take : (s l n : ℕ) (es : List Event) → issued kinds setup s l (take n es) ≡ orders_in s l (concat (take n (issues kinds setup es)))
  issued-take s l n es = ap (λ (z : List (List Issued)). orders_in s l (concat z)) (issues-take n es)

  pub command_between : (es : List Event) (j : ℕ) (n : Issued) → IsIn n (commands_of kinds setup es j) → IsBetween kinds setup es j n
  command_between es j n h =
      elim (cases_lt j (length (issues kinds setup es))) [
        | inl lt ↦
            let xs = issues kinds setup es in
            let r = at_issues es j lt in
            let k : IsIn n (issue_each r.events (concat (take j xs)) r.commands) = subst (λ (z : List Issued). IsIn n z) r.is h in
            let low = each_from r.events (concat (take j xs)) r.commands n k in
            let at = each_stands r.events (concat (take j xs)) r.commands n k in
            let whole : concat (take (j + 1) xs) ≡ concat (take j xs) ++ issue_each r.events (concat (take j xs)) r.commands = next_list xs j lt ∙ ap (λ (z : List Issued). concat (take j xs) ++ z) r.is in
            let here : slice_get (orders_in n.switch n.life (concat (take (j + 1) xs))) n.number ≡ Some n.order = ap (λ (z : List Issued). slice_get (orders_in n.switch n.life z) n.number) whole ∙ at in
            let high = slice_get_within (orders_in n.switch n.life (concat (take (j + 1) xs))) n.number n.order here in
            record {
              there = omega (arith, lt, length-issues kinds setup es);
              least = subst (λ (os : List Order). length os ≤ n.number) (sym (issued-take n.switch n.life j es)) low;
              most = subst (λ (os : List Order). n.number < length os) (sym (issued-take n.switch n.life (j + 1) es)) high;
              stands = get_prefix n.number n.order (orders_prefix n.switch n.life _ _ (concat_prefix _ _ (front_prefix (j + 1) xs))) here;
            }
        | inr past ↦ absurd (subst (λ (z : List Issued). IsIn n z) (none_past (issues kinds setup es) j past) h)
      ]

  -- the commands of an event whose numbers are all below a bound, unless something else holds
  each_below : (Q : Type 0) (s l bound : ℕ) (events : List Event) (before : List Issued) (cs : List Command) → length (orders_in s l before) ≤ bound →
      ((n : Issued) → IsIn n (issue_each events before cs) → n.switch ≡ s → n.life ≡ l → (n.number < bound) ⊎ Q) → (length (orders_in s l (before ++ issue_each events before cs)) ≤ bound) ⊎ Q
  each_below Q s l bound events before [] few all = inl (subst (λ (z : List Issued). length (orders_in s l z) ≤ bound) (sym (append-nil before)) few)
  each_below Q s l bound events before (c ∷ cs) few all =
      by_first (λ few'. each_below Q s l bound events (before ++ issue events before c ∷ []) cs few' (λ n h. all n (inr h))) (is_of s l i) refl
    where
      i : Issued
      i = issue events before c

      rest : List Issued
      rest = issue_each events (before ++ i ∷ []) cs

      joined : ((length (orders_in s l ((before ++ i ∷ []) ++ rest)) ≤ bound) ⊎ Q) → (length (orders_in s l (before ++ i ∷ rest)) ≤ bound) ⊎ Q
      joined (inl k) = inl (subst (λ (z : List Issued). length (orders_in s l z) ≤ bound) (append_assoc before (i ∷ []) rest) k)
      joined (inr q) = inr q

      longer : (b : Bool) → is_of s l i ≡ b → length (orders_in s l (before ++ i ∷ [])) ≡ length (orders_in s l before) + length (if b then i.order ∷ [] else [])
      longer b e = ap length (orders_in-append s l before (i ∷ [])) ∙ length-append (orders_in s l before) (orders_in s l (i ∷ [])) ∙ ap (λ (z : Bool). length (orders_in s l before) + length (if z then i.order ∷ [] else [])) e

      by_first : (length (orders_in s l (before ++ i ∷ [])) ≤ bound → (length (orders_in s l ((before ++ i ∷ []) ++ rest)) ≤ bound) ⊎ Q) → (b : Bool) → is_of s l i ≡ b → (length (orders_in s l (before ++ i ∷ rest)) ≤ bound) ⊎ Q
      by_first deeper true mine =
          let both = and_parts (nat_eq i.switch s) (nat_eq i.life l) mine in
          let of_switch : i.switch ≡ s = eqb-true i.switch s both.0 in
          let of_life : i.life ≡ l = eqb-true i.life l both.1 in
          let place : i.number ≡ length (orders_in i.switch i.life before) = count-orders i.switch i.life before in
          let same : length (orders_in i.switch i.life before) ≡ length (orders_in s l before) = ap (λ (a : ℕ). length (orders_in a i.life before)) of_switch ∙ ap (λ (a : ℕ). length (orders_in s a before)) of_life in
          elim (all i (inl refl) of_switch of_life) [
            | inl lt ↦ joined (deeper (omega (arith, lt, place, same, longer true mine)))
            | inr q ↦ inr q
          ]
      by_first deeper false other = joined (deeper (omega (arith, few, longer false other)))

  -- where the commands of all events before one, and its own, are below a bound, unless something else holds
  pub done_unless : (Q : Type 0) (s l bound j : ℕ) (es : List Event) → j < length es → length (issued kinds setup s l (take j es)) ≤ bound →
      ((n : Issued) → IsIn n (commands_of kinds setup es j) → n.switch ≡ s → n.life ≡ l → (n.number < bound) ⊎ Q) → (length (issued kinds setup s l (take (j + 1) es)) ≤ bound) ⊎ Q
  done_unless Q s l bound j es lt few all =
      let xs = issues kinds setup es in
      let there : j < length xs = omega (arith, length-issues kinds setup es) in
      let r = at_issues es j there in
      let old : length (orders_in s l (concat (take j xs))) ≤ bound = subst (λ (os : List Order). length os ≤ bound) (issued-take s l j es) few in
      let whole : concat (take (j + 1) xs) ≡ concat (take j xs) ++ issue_each r.events (concat (take j xs)) r.commands = next_list xs j there ∙ ap (λ (z : List Issued). concat (take j xs) ++ z) r.is in
      elim (each_below Q s l bound r.events (concat (take j xs)) r.commands old (λ n h. all n (subst (λ (z : List Issued). IsIn n z) (sym r.is) h))) [
        | inl k ↦ inl (subst (λ (os : List Order). length os ≤ bound) (sym (issued-take s l (j + 1) es)) (subst (λ (z : List Issued). length (orders_in s l z) ≤ bound) (sym whole) k))
        | inr q ↦ inr q
      ]

  -- nothing is issued on nothing
  pub issued_none : (s l : ℕ) → issued kinds setup s l [] ≡ []
  unfolding issues
  issued_none s l = refl

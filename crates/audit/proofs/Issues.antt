-- What is kept while commands are issued.
use Rattle.std.proofs.Common.{inl, inr, ◌≡◌, ◌<◌, ◌≤◌, ℕ, ◌+◌, Bool, true, false, ◌&&◌, List, ◌∷◌, [], ◌++◌, length, get_or, map, replicate, take, drop, Option, Some, cond, refl, sym, ap, subst, ◌∙◌, arith, append-nil, append_assoc}
use Rattle.std.specs.Prelude.{nat_eq, unwrap_or, if◌then◌else◌}
use Rattle.std.specs.Map.{lookup}
use Rattle.std.proofs.lemmas.Bool.{and_parts, eqb-true, cases_lt}
use Rattle.std.proofs.lemmas.List.{get_or-replicate, get_or_past, drop_more, drop_all, take_more, map-append}
use Rattle.std.proofs.lemmas.List.Sums.{sum_by-cons, sum_by-append}
use Rattle.of_types.specs.declared.message.Command.{Command}
use Rattle.of_types.specs.declared.message.Event.{Event}
use Rattle.of_types.specs.Lives.{life_in}
use Rattle.of_types.proofs.Counts.{life_in-append}
use Rattle.app_core.specs.declared.issued.Issued.{Issued}
use Rattle.app_core.specs.Chain.{concat}
use Rattle.app_core.specs.Issued.{count_issued, issue, issue_each, issue_all}
use Rattle.app_core.proofs.Issuing.{concat_push}
use Rattle.audit.specs.declared.issuing.Issuer.{Issuer}
use Rattle.audit.specs.Issuing.{count_of, order_in, HoldsOrders, IsIssuer, IsIssuedOne}
use Rattle.audit.specs.Names.{Name, same_name, issued_name, value_of, or_new}

abbrev pub zeros : List ℕ
zeros = replicate 256 0

pub zero_at : (s : ℕ) → get_or zeros s 0 ≡ 0
zero_at s = elim (cases_lt s 256) [ inl lt ↦ get_or-replicate 256 s 0 0 lt | inr past ↦ get_or_past zeros s 0 past ]

pub counted_as : (switch life count : ℕ) (inside old new : List ((ℕ × ℕ) × ℕ)) (s l : ℕ) →
    lookup (λ k. nat_eq s k.0 && nat_eq l k.1) new ≡ cond (nat_eq switch s && nat_eq life l) (Some count) (lookup (λ k. nat_eq s k.0 && nat_eq l k.1) inside) → inside ≡ old →
    count_of new s l ≡ (if nat_eq switch s && nat_eq life l then count else count_of old s l)
counted_as switch life count inside old new s l put same =
    ap (λ o. unwrap_or o 0) put ∙ pick (nat_eq switch s && nat_eq life l) (lookup (λ k. nat_eq s k.0 && nat_eq l k.1) inside)
    ∙ ap (λ (z : List ((ℕ × ℕ) × ℕ)). if nat_eq switch s && nat_eq life l then count else count_of z s l) same
  where
    pick : (b : Bool) (o : Option ℕ) → unwrap_or (cond b (Some count) o) 0 ≡ (if b then count else unwrap_or o 0)
    pick true o = refl
    pick false o = refl

order_push : (all : List Issued) (x : Issued) (q : Name) → order_in (all ++ x ∷ []) q ≡ or_new (order_in all q) (same_name (issued_name x) q) x.order
order_push [] x q = refl
order_push (y ∷ all) x q = ap (λ o. if same_name (issued_name y) q then Some y.order else o) (order_push all x q) ∙ pick (same_name (issued_name y) q)
  where
    pick : (b : Bool) → (if b then Some y.order else or_new (order_in all q) (same_name (issued_name x) q) x.order) ≡ or_new (if b then Some y.order else order_in all q) (same_name (issued_name x) q) x.order
    pick true = refl
    pick false = refl

count_push : (s l : ℕ) (all : List Issued) (x : Issued) → count_issued s l (all ++ x ∷ []) ≡ count_issued s l all + cond (nat_eq x.switch s && nat_eq x.life l) 1 0
count_push s l all x =
    sum_by-append (λ (y : Issued). cond (nat_eq y.switch s && nat_eq y.life l) 1 0) all (x ∷ [])
    ∙ ap (λ (n : ℕ). count_issued s l all + n) (sum_by-cons (λ (y : Issued). cond (nat_eq y.switch s && nat_eq y.life l) 1 0) x [] ∙ more (cond (nat_eq x.switch s && nat_eq x.life l) 1 0))
  where
    more : (n : ℕ) → n + 0 ≡ n
    more n = omega arith

-- one command more
module _ (events : List Event) (before : List Issued) (old new : Issuer) (c : Command) (name : Name) (kept : IsIssuer events before old) (one : IsIssuedOne old c name new) where
  pub name_is : name ≡ issued_name (issue events before c)
  name_is =
      one.given
      ∙ ap (λ (l : ℕ). (c.switch, l, count_of old.counts c.switch l)) (kept.lives c.switch)
      ∙ ap (λ (n : ℕ). (c.switch, life_in c.switch events, n)) (kept.counts c.switch (life_in c.switch events))

  pub issuer_more : IsIssuer events (before ++ issue events before c ∷ []) new
  issuer_more =
      let x = issue events before c in
      record {
        lives = λ s. ap (λ (l : List ℕ). get_or l s 0) one.lives ∙ kept.lives s;
        counts = λ s l.
            one.counted s l
            ∙ ap (λ (n : Name). if nat_eq n.0 s && nat_eq n.1 l then n.2 + 1 else count_of old.counts s l) name_is
            ∙ ap (λ (n : ℕ). if nat_eq x.switch s && nat_eq x.life l then x.number + 1 else n) (kept.counts s l)
            ∙ step (nat_eq x.switch s && nat_eq x.life l) (count_issued s l before) x.number (same s l)
            ∙ sym (count_push s l before x);
        orders = λ q.
            one.kept q ∙ ap (λ o. or_new o (same_name name q) c.order) (kept.orders q)
            ∙ ap (λ (n : Name). or_new (order_in before q) (same_name n q) c.order) name_is
            ∙ sym (order_push before x q);
      }
    where
      x : Issued
      x = issue events before c

      same : (s l : ℕ) → (nat_eq x.switch s && nat_eq x.life l) ≡ true → x.number ≡ count_issued s l before
      same s l h =
          let p = and_parts (nat_eq x.switch s) (nat_eq x.life l) h in
          ap (λ (a : ℕ). count_issued a x.life before) (eqb-true x.switch s p.0) ∙ ap (λ (a : ℕ). count_issued s a before) (eqb-true x.life l p.1)

      step : (b : Bool) (n number : ℕ) → (b ≡ true → number ≡ n) → (if b then number + 1 else n) ≡ n + cond b 1 0
      step true n number h = let e = h refl in omega (arith, e)
      step false n number h = omega arith

-- while commands are issued one after another
abbrev pub Issuing : Issuer → Issuer → List Command → List Command → List Name → Type 0
Issuing start now commands rest names =
    (events : List Event) (before : List Issued) → IsIssuer events before start →
    (given : List Issued) × (names ≡ map issued_name given) × (issue_each events before commands ≡ given ++ issue_each events (before ++ given) rest) × IsIssuer events (before ++ given) now

pub issuing_goes_on : (start now new : Issuer) (commands left rest : List Command) (c : Command) (names : List Name) (name : Name) → left ≡ c ∷ rest →
    Issuing start now commands left names → IsIssuedOne now c name new → Issuing start new commands rest (names ++ name ∷ [])
issuing_goes_on start now new commands left rest c names name is so one events before kept =
    let s = so events before kept in
    let given = s.0 in
    let x = issue events (before ++ given) c in
    let n = name_is events (before ++ given) now new c name s.3 one in
    let k = issuer_more events (before ++ given) now new c name s.3 one in (
      given ++ x ∷ [],
      ap (λ (l : List Name). l ++ name ∷ []) s.1 ∙ ap (λ (z : Name). map issued_name given ++ z ∷ []) n ∙ sym (map-append issued_name given (x ∷ [])),
      s.2 ∙ ap (λ (l : List Command). given ++ issue_each events (before ++ given) l) is
          ∙ sym (append_assoc given (x ∷ []) (issue_each events ((before ++ given) ++ x ∷ []) rest))
          ∙ ap (λ (b : List Issued). (given ++ x ∷ []) ++ issue_each events b rest) (append_assoc before given (x ∷ [])),
      subst (λ (b : List Issued). IsIssuer events b new) (append_assoc before given (x ∷ [])) k,
    )

pub issuing_ends : (start now : Issuer) (commands left : List Command) (names : List Name) → left ≡ [] → Issuing start now commands left names → (events : List Event) (before : List Issued) → IsIssuer events before start →
    (names ≡ map issued_name (issue_each events before commands)) × IsIssuer events (before ++ issue_each events before commands) now
issuing_ends start now commands left names end so events before kept =
    let s = so events before kept in
    let all : issue_each events before commands ≡ s.0 = s.2 ∙ ap (λ (l : List Command). s.0 ++ issue_each events (before ++ s.0) l) end ∙ append-nil s.0 in
    (s.1 ∙ ap (λ (g : List Issued). map issued_name g) (sym all), subst (λ (g : List Issued). IsIssuer events (before ++ g) now) (sym all) s.3)

-- an event more
pub issuer_reacts : (past : List Event) (e : Event) (before : List Issued) (old new : Issuer) → ((s : ℕ) → get_or new.lives s 0 ≡ (if nat_eq e.switch s then e.life else get_or old.lives s 0)) →
    new.counts ≡ old.counts → new.orders ≡ old.orders → IsIssuer past before old → IsIssuer (past ++ e ∷ []) before new
issuer_reacts past e before old new begun counts orders kept =
    record {
      lives = λ s. begun s ∙ ap (λ (n : ℕ). if nat_eq e.switch s then e.life else n) (kept.lives s) ∙ sym (life_in-append s past e);
      counts = λ s l. ap (λ z. count_of z s l) counts ∙ kept.counts s l;
      orders = λ q. ap (λ z. value_of z q) orders ∙ kept.orders q;
    }

abbrev names_of : List Issued → List Name
names_of list = map issued_name list

-- while the commands for each event are issued
abbrev pub IssuingAll : List Event → List (List Command) → ℕ → List (List Command) → List (List Name) → Issuer → Type 0
IssuingAll events lists i rest names issuer =
    (done : List (List Issued)) × (names ≡ map (λ list. map issued_name list) done)
    × (issue_all [] [] events lists ≡ done ++ issue_all (take i events) (concat done) (drop i events) rest) × IsIssuer (take i events) (concat done) issuer

module _ (events : List Event) (lists : List (List Command)) (i : ℕ) where
  pub all_goes_on : (left rest : List (List Command)) (commands : List Command) (names : List (List Name)) (given : List Name) (old new : Issuer) (e : Event) →
      i < length events → e ≡ get_or events i e → left ≡ commands ∷ rest → IssuingAll events lists i left names old →
      ((past : List Event) (before : List Issued) → IsIssuer past before old →
      (given ≡ map issued_name (issue_each (past ++ e ∷ []) before commands)) × IsIssuer (past ++ e ∷ []) (before ++ issue_each (past ++ e ∷ []) before commands) new) →
      IssuingAll events lists (i + 1) rest (names ++ given ∷ []) new
  all_goes_on left rest commands names given old new e lt at is so reacts =
      let past = take i events in
      let done = so.0 in
      let now = issue_each (past ++ e ∷ []) (concat done) commands in
      let r = reacts past (concat done) so.3 in
      let front : take (i + 1) events ≡ past ++ e ∷ [] = take_more events i e lt ∙ ap (λ (x : Event). past ++ x ∷ []) (sym at) in
      let back : drop i events ≡ e ∷ drop (i + 1) events = drop_more events i e lt ∙ ap (λ (x : Event). x ∷ drop (i + 1) events) (sym at) in
      let joined : concat (done ++ now ∷ []) ≡ concat done ++ now = concat_push done now in (
        done ++ now ∷ [],
        ap (λ (l : List (List Name)). l ++ given ∷ []) so.1 ∙ ap (λ (g : List Name). map (λ list. map issued_name list) done ++ g ∷ []) r.0 ∙ sym (map-append names_of done (now ∷ [])),
        so.2
            ∙ ap (λ (l : List Event). done ++ issue_all past (concat done) l left) back
            ∙ ap (λ (l : List (List Command)). done ++ issue_all past (concat done) (e ∷ drop (i + 1) events) l) is
            ∙ sym (append_assoc done (now ∷ []) (issue_all (past ++ e ∷ []) (concat done ++ now) (drop (i + 1) events) rest))
            ∙ ap (λ (p : List Event). (done ++ now ∷ []) ++ issue_all p (concat done ++ now) (drop (i + 1) events) rest) (sym front)
            ∙ ap (λ (b : List Issued). (done ++ now ∷ []) ++ issue_all (take (i + 1) events) b (drop (i + 1) events) rest) (sym joined),
        subst (λ (p : List Event). IsIssuer p (concat (done ++ now ∷ [])) new) (sym front) (subst (λ (b : List Issued). IsIssuer (past ++ e ∷ []) b new) (sym joined) r.1),
      )

  none_issued : (past : List Event) (before : List Issued) (es : List Event) → issue_all past before es [] ≡ []
  none_issued past before [] = refl
  none_issued past before (e ∷ es) = refl

  ends : (names : List (List Name)) (done : List (List Issued)) (issuer : Issuer) (past : List Event) → names ≡ map (λ list. map issued_name list) done → issue_all [] [] events lists ≡ done → IsIssuer past (concat done) issuer →
      (names ≡ map (λ list. map issued_name list) (issue_all [] [] events lists)) × HoldsOrders (concat (issue_all [] [] events lists)) issuer.orders
  ends names done issuer past n all kept =
      (n ∙ ap (λ (d : List (List Issued)). map (λ list. map issued_name list) d) (sym all), subst (λ (d : List (List Issued)). HoldsOrders (concat d) issuer.orders) (sym all) kept.orders)

  pub ends_with_lists : (left : List (List Command)) (names : List (List Name)) (issuer : Issuer) → left ≡ [] → IssuingAll events lists i left names issuer →
      (names ≡ map (λ list. map issued_name list) (issue_all [] [] events lists)) × HoldsOrders (concat (issue_all [] [] events lists)) issuer.orders
  ends_with_lists left names issuer is so =
      ends names so.0 issuer (take i events) so.1
      (so.2 ∙ ap (λ (l : List (List Command)). so.0 ++ issue_all (take i events) (concat so.0) (drop i events) l) is ∙ ap (λ (l : List (List Issued)). so.0 ++ l) (none_issued (take i events) (concat so.0) (drop i events)) ∙ append-nil so.0) so.3

  pub ends_with_events : (left : List (List Command)) (names : List (List Name)) (issuer : Issuer) → length events ≤ i → IssuingAll events lists i left names issuer →
      (names ≡ map (λ list. map issued_name list) (issue_all [] [] events lists)) × HoldsOrders (concat (issue_all [] [] events lists)) issuer.orders
  ends_with_events left names issuer le so =
      ends names so.0 issuer (take i events) so.1 (so.2 ∙ ap (λ (l : List Event). so.0 ++ issue_all (take i events) (concat so.0) l left) (drop_all i events le) ∙ append-nil so.0) so.3

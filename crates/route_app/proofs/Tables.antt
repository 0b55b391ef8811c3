-- Tables of where links lead, and their rows.
use Rattle.std.proofs.Common.{◌≡◌, ◌<◌, ◌≤◌, ◌+◌, ◌*◌, ℕ, zero, suc, Bool, true, false, List, [], ◌∷◌, ◌++◌, length, set, get_or, take, drop, Option, Some, None, refl, sym, ap, ◌∙◌, subst, inl, inr, ◌⊎◌, append_assoc, arith}
use Rattle.std.specs.Prelude.{nat_lt, is_some, ◌&&◌, ◌||◌, if◌then◌else◌}
use Rattle.std.specs.Option.{option_or}
use Rattle.std.specs.List.{AllByRecursion}
use Rattle.std.proofs.lemmas.List.Elements.{All-from_recursion}
use Rattle.std.proofs.Math.ListN.{replicate, length-set}
use Rattle.std.proofs.lemmas.Bool.{cases_lt, ltb-true, ltb-false}
use Rattle.std.proofs.lemmas.List.{append-nil, take_all, take_more, drop_all, at_drop_more, get_or-take, get_or-drop, get_or_past, length-take, get_or-set_same, get_or-set_other, length-replicate}
use Rattle.std.proofs.lemmas.List.Folds.{list_any-append}
use Rattle.of_types.specs.declared.setup.Link.{Link}
use Rattle.of_types.specs.declared.setup.Setup.{Setup}
use Rattle.of_types.specs.Setups.{IsPort, IsSetup}
use Rattle.app_core.specs.declared.switch_port.SwitchPort.{SwitchPort}
use Rattle.app_core.specs.Routes.{is_same_port, near_end, far_end, other_end, is_link_down, if_up, over_known_link}
use Rattle.route_app.specs.Search.{row, IsTable}
use Rattle.port_table.specs.Places.{place, marked}
use Rattle.route_app.specs.Tables.{joined_ends, kept_up, all_kept_up, IsEnds, IsDownTable, IsUpTable}
use Rattle.app_core.proofs.Linked.{one_port, same_tells, are_ports, port_bounds, over_ports, over_back}

module _ (table : List (Option SwitchPort)) where
  pub row-at : (s p : ℕ) → p < 49 → get_or (row table s) p None ≡ get_or table (49 * s + p) None
  unfolding row
  row-at s p h = get_or-take 49 (drop (49 * s) table) p None h ∙ get_or-drop (49 * s) table p None

  pub row-past : (s p : ℕ) → 49 ≤ p → get_or (row table s) p None ≡ None
  unfolding row
  row-past s p h = get_or_past (take 49 (drop (49 * s) table)) p None (let l = length-take 49 (drop (49 * s) table) in omega (arith, l))

  row-beyond : (s p : ℕ) → length table ≤ 49 * s → get_or (row table s) p None ≡ None
  row-beyond s p long = elim (cases_lt p 49) [ inl h ↦ row-at s p h ∙ get_or_past table (49 * s + p) None (omega arith) | inr h ↦ row-past s p h ]

pub row_short : (table : List (Option SwitchPort)) (s : ℕ) → length (row table s) ≤ 49
unfolding row
row_short table s = let l = length-take 49 (drop (49 * s) table) in omega (arith, l)

-- ports at one place are one
pub one_place : (a b : SwitchPort) → a.port < 49 → b.port < 49 → place a ≡ place b → a ≡ b
one_place a b l m e = one_port a b (omega arith) (omega arith)

or_none : {X : Type 0} (o : Option X) → option_or o None ≡ o
or_none None = refl
or_none (Some x) = refl

joined-leads : (ends : List (Option SwitchPort)) (at end x : SwitchPort) → at.port < 49 → x.port < 49 → place at < length ends →
    get_or (joined_ends ends at end) (place x) None ≡ option_or (get_or ends (place x) None) (if is_same_port at x then Some end else None)
joined-leads ends at end x l m there = by_known (get_or ends (place at) None) refl
  where
    by_known : (o : Option SwitchPort) → get_or ends (place at) None ≡ o →
        get_or (if is_some o then ends else set ends (place at) (Some end)) (place x) None ≡ option_or (get_or ends (place x) None) (if is_same_port at x then Some end else None)
    by_known (Some y) e = elim (same_tells at x) [
      | inl s ↦ (let f : get_or ends (place x) None ≡ Some y = subst (λ (z : SwitchPort). get_or ends (place z) None ≡ Some y) s.1 e in rw (s.0, f) refl)
      | inr o ↦ rw o.0 (sym (or_none (get_or ends (place x) None)))
    ]
    by_known None e = elim (same_tells at x) [
      | inl s ↦
          let f : get_or ends (place x) None ≡ None = subst (λ (z : SwitchPort). get_or ends (place z) None ≡ None) s.1 e in
          let g : get_or (set ends (place at) (Some end)) (place x) None ≡ Some end = subst (λ (z : SwitchPort). get_or (set ends (place at) (Some end)) (place z) None ≡ Some end) s.1 (get_or-set_same ends (place at) (Some end) None there) in
          rw (s.0, f) g
      | inr o ↦ rw o.0 (get_or-set_other ends (place at) (place x) (Some end) None (λ h. o.1 (one_place at x l m (sym h))) ∙ sym (or_none (get_or ends (place x) None)))
    ]

joined-len : (ends : List (Option SwitchPort)) (at end : SwitchPort) → length (joined_ends ends at end) ≡ length ends
joined-len ends at end = by_known (is_some (get_or ends (place at) None))
  where
    by_known : (b : Bool) → length (if b then ends else set ends (place at) (Some end)) ≡ length ends
    by_known true = refl
    by_known false = length-set ends (place at) (Some end)

other_push : (links : List Link) (l : Link) (at : SwitchPort) →
    other_end (links ++ l ∷ []) at ≡ option_or (other_end links at) (if is_same_port (near_end l) at then Some (far_end l) else if is_same_port (far_end l) at then Some (near_end l) else None)
other_push [] l at = refl
other_push (x ∷ links) l at = by_first (is_same_port (near_end x) at) (is_same_port (far_end x) at) (other_push links l at)
  where
    by_first : (a b : Bool) →
        other_end (links ++ l ∷ []) at ≡ option_or (other_end links at) (if is_same_port (near_end l) at then Some (far_end l) else if is_same_port (far_end l) at then Some (near_end l) else None) →
        (if a then Some (far_end x) else if b then Some (near_end x) else other_end (links ++ l ∷ []) at)
        ≡ option_or (if a then Some (far_end x) else if b then Some (near_end x) else other_end links at) (if is_same_port (near_end l) at then Some (far_end l) else if is_same_port (far_end l) at then Some (near_end l) else None)
    by_first true b h = refl
    by_first false true h = refl
    by_first false false h = h

twice : (o : Option SwitchPort) (a b : Bool) (far near : SwitchPort) →
    option_or (option_or o (if a then Some far else None)) (if b then Some near else None) ≡ option_or o (if a then Some far else if b then Some near else None)
twice (Some x) a b far near = refl
twice None true b far near = refl
twice None false b far near = refl

-- the table for the first links
pub record EndsSoFar (switches : ℕ) (links : List Link) (ends : List (Option SwitchPort)) : Type 0 where
  pub len : length ends ≡ 49 * switches
  pub leads : (x : SwitchPort) → x.switch < switches → x.port < 49 → get_or ends (place x) None ≡ other_end links x

module _ (switches : ℕ) where
  pub no_ends : (ends : List (Option SwitchPort)) → ends ≡ replicate (49 * switches) None → EndsSoFar switches [] ends
  no_ends ends e =
      record {
        len = ap (λ (l : List (Option SwitchPort)). length l) e ∙ length-replicate (49 * switches) None;
        leads = λ x s p. ap (λ (l : List (Option SwitchPort)). get_or l (place x) None) e ∙ all_none (49 * switches) (place x);
      }
    where
      all_none : (n k : ℕ) → get_or {A = Option SwitchPort} (replicate n None) k None ≡ None
      all_none zero k = refl
      all_none (suc n) zero = refl
      all_none (suc n) (suc k) = all_none n k

  pub more_ends : (links : List Link) (l : Link) (ends : List (Option SwitchPort)) → EndsSoFar switches links ends →
      l.switch < switches → l.port < 49 → l.peer < switches → l.peer_port < 49 →
      EndsSoFar switches (links ++ l ∷ []) (joined_ends (joined_ends ends (near_end l) (far_end l)) (far_end l) (near_end l))
  more_ends links l ends so s p t q =
      let near = near_end l in
      let far = far_end l in
      let long = so.len in
      let one = joined_ends ends near far in
      let first_long : length (joined_ends ends near far) ≡ 49 * switches = joined-len ends near far ∙ long in
      record {
        len = joined-len (joined_ends ends near far) far near ∙ first_long;
        leads = λ x xs xp.
            joined-leads (joined_ends ends near far) far near x q xp (omega (arith, first_long))
            ∙ ap (λ o. option_or o (if is_same_port far x then Some near else None)) (joined-leads ends near far x p xp (omega (arith, long)) ∙ ap (λ o. option_or o (if is_same_port near x then Some far else None)) (so.leads x xs xp))
            ∙ twice (other_end links x) (is_same_port near x) (is_same_port far x) far near
            ∙ sym (other_push links l x);
      }

pub all_ends : (setup : Setup) (ends : List (Option SwitchPort)) → IsSetup setup → EndsSoFar (length setup.ports) setup.links ends → IsEnds setup ends
all_ends setup ends is so = record { len = so.len; leads = leads }
  where
    no_link : (at : SwitchPort) (o : Option SwitchPort) → other_end setup.links at ≡ o → (length setup.ports ≤ at.switch) ⊎ (49 ≤ at.port) → None ≡ other_end setup.links at
    no_link at None e out = sym e
    no_link at (Some end) e out =
        let b = port_bounds setup is at (are_ports setup setup.links is.links at end e).0 in
        let s = b.0 in
        let p = b.3 in
        elim out [ inl h ↦ absurd (omega (arith, s, h)) | inr h ↦ absurd (omega (arith, p, h)) ]

    leads : (at : SwitchPort) → get_or (row ends at.switch) at.port None ≡ other_end setup.links at
    leads at = elim (cases_lt at.port 49) [
      | inl p ↦ elim (cases_lt at.switch (length setup.ports)) [
        | inl s ↦ row-at ends at.switch at.port p ∙ so.leads at s p
        | inr s ↦ row-beyond ends at.switch at.port (let l = so.len in omega (arith, l, s)) ∙ no_link at (other_end setup.links at) refl (inl s)
      ]
      | inr p ↦ row-past ends at.switch at.port p ∙ no_link at (other_end setup.links at) refl (inr p)
    ]

pub lt_tells : (a b : ℕ) → ((nat_lt a b ≡ true) × (a < b)) ⊎ ((nat_lt a b ≡ false) × (b ≤ a))
lt_tells a b = by_test (nat_lt a b) refl
  where
    by_test : (t : Bool) → nat_lt a b ≡ t → ((nat_lt a b ≡ true) × (a < b)) ⊎ ((nat_lt a b ≡ false) × (b ≤ a))
    by_test true e = inl (e, ltb-true a b e)
    by_test false e = inr (e, ltb-false a b e)

-- ports that are down
pub none_marked : (places : ℕ) (flags : List Bool) → flags ≡ replicate places false → IsDownTable places [] flags
none_marked places flags e =
    record {
      len = ap (λ (l : List Bool). length l) e ∙ length-replicate places false;
      tells = λ at p t. ap (λ (l : List Bool). get_or l (place at) false) e ∙ all_false places (place at);
    }
  where
    all_false : (n k : ℕ) → get_or (replicate n false) k false ≡ false
    all_false zero k = refl
    all_false (suc n) zero = refl
    all_false (suc n) (suc k) = all_false n k

pub more_marked : (places : ℕ) (down : List SwitchPort) (p : SwitchPort) (flags : List Bool) → IsDownTable places down flags → IsDownTable places (down ++ p ∷ []) (marked flags p)
more_marked places down p flags so = by_room (nat_lt p.port 49) (nat_lt (place p) (length flags)) refl refl
  where
    pushed : (at : SwitchPort) (b : Bool) → is_same_port p at ≡ b → is_link_down (down ++ p ∷ []) at ≡ (is_link_down down at || (b || false))
    pushed at b e = list_any-append (λ x. is_same_port x at) down (p ∷ []) ∙ ap (λ c. is_link_down down at || (c || false)) e

    or_false : (b : Bool) → (b || false) ≡ b
    or_false true = refl
    or_false false = refl

    or_true : (b : Bool) → (b || true) ≡ true
    or_true true = refl
    or_true false = refl

    other : (at : SwitchPort) → is_same_port p at ≡ false → is_link_down down at ≡ is_link_down (down ++ p ∷ []) at
    other at e = sym (pushed at false e ∙ or_false (is_link_down down at))

    -- no place is marked
    unmarked : ((at : SwitchPort) → at.port < 49 → place at < places → is_same_port p at ≡ true → ⊥) → IsDownTable places (down ++ p ∷ []) flags
    unmarked none = record { len = so.len; tells = λ at l t. so.tells at l t ∙ elim (same_tells p at) [ inl s ↦ absurd (none at l t s.0) | inr o ↦ other at o.0 ] }

    by_room : (a b : Bool) → nat_lt p.port 49 ≡ a → nat_lt (place p) (length flags) ≡ b → IsDownTable places (down ++ p ∷ []) (if a && b then set flags (place p) true else flags)
    by_room true true e f =
        let long = so.len in
        let l : p.port < 49 = ltb-true p.port 49 e in
        let t : place p < length flags = ltb-true (place p) (length flags) f in
        record {
          len = length-set flags (place p) true ∙ long;
          tells = λ at m u. elim (same_tells p at) [
            | inl s ↦
                subst (λ (z : SwitchPort). get_or (set flags (place p) true) (place z) false ≡ true) s.1 (get_or-set_same flags (place p) true false t)
                ∙ sym (pushed at true s.0 ∙ or_true (is_link_down down at))
            | inr o ↦ get_or-set_other flags (place p) (place at) true false (λ h. o.1 (one_place p at l m (sym h))) ∙ so.tells at m u ∙ other at o.0
          ];
        }
    by_room true false e f = unmarked (λ at l t s. elim (lt_tells (place p) (length flags)) [
      | inl h ↦ absurd (let x = h.0 in cc)
      | inr h ↦ elim (same_tells p at) [ inl x ↦ (let w : place p ≡ place at = ap place x.1 in let long = so.len in let y = h.1 in omega (arith, w, long, y)) | inr x ↦ absurd (let y = x.0 in cc) ]
    ])
    by_room false b e f = unmarked (λ at l t s. elim (lt_tells p.port 49) [
      | inl h ↦ absurd (let x = h.0 in cc)
      | inr h ↦ elim (same_tells p at) [ inl x ↦ (let w : p.port ≡ at.port = ap (λ (z : SwitchPort). z.port) x.1 in let y = h.1 in omega (arith, w, y)) | inr x ↦ absurd (let y = x.0 in cc) ]
    ])

-- links that are up
kept-at : (flags : List Bool) (ends : List (Option SwitchPort)) (first k : ℕ) → get_or (all_kept_up flags first ends) k None ≡ kept_up flags (first + k) (get_or ends k None)
unfolding all_kept_up
kept-at flags [] first k = refl
kept-at flags (end ∷ ends) first zero = ap (λ n. kept_up flags n end) (omega arith)
kept-at flags (end ∷ ends) first (suc k) = kept-at flags ends (first + 1) k ∙ ap (λ n. kept_up flags n (get_or ends k None)) (omega arith)

kept-len : (flags : List Bool) (ends : List (Option SwitchPort)) (first : ℕ) → length (all_kept_up flags first ends) ≡ length ends
unfolding all_kept_up
kept-len flags [] first = refl
kept-len flags (end ∷ ends) first = ap suc (kept-len flags ends (first + 1))

module _ (setup : Setup) (down : List SwitchPort) (is : IsSetup setup) (ends : List (Option SwitchPort)) (flags : List Bool) (known : IsEnds setup ends) (told : IsDownTable (length ends) down flags) where
  kept_is : (at : SwitchPort) (o : Option SwitchPort) → other_end setup.links at ≡ o → kept_up flags (place at) o ≡ if_up down at o
  kept_is at None e = refl
  kept_is at (Some end) e =
      let long = known.len in
      let both = are_ports setup setup.links is.links at end e in
      let a = port_bounds setup is at both.0 in
      let b = port_bounds setup is end both.1 in
      let a_in = a.0 in
      let a_low = a.3 in
      let b_in = b.0 in
      let b_low = b.3 in
      let here : get_or flags (place at) false ≡ is_link_down down at = told.tells at (omega (arith, a_low)) (omega (arith, long, a_in, a_low)) in
      let there : get_or flags (place end) false ≡ is_link_down down end = told.tells end (omega (arith, b_low)) (omega (arith, long, b_in, b_low)) in
      rw (here, there) refl

  pub kept_up_is : IsUpTable setup down (all_kept_up flags 0 ends)
  unfolding over_known_link
  kept_up_is = record { len = kept-len flags ends 0 ∙ known.len; leads = leads }
    where
      none_kept : (at : SwitchPort) → other_end setup.links at ≡ None → None ≡ over_known_link setup down at
      none_kept at e = rw e refl

      leads : (at : SwitchPort) → get_or (row (all_kept_up flags 0 ends) at.switch) at.port None ≡ over_known_link setup down at
      leads at = elim (cases_lt at.port 49) [
        | inl p ↦
            let zero_more : 0 + place at ≡ place at = omega arith in
            let same : get_or ends (place at) None ≡ other_end setup.links at = sym (row-at ends at.switch at.port p) ∙ known.leads at in
            row-at (all_kept_up flags 0 ends) at.switch at.port p ∙ kept-at flags ends 0 (place at) ∙ ap (λ n. kept_up flags n (get_or ends (place at) None)) zero_more ∙ (rw same (kept_is at (other_end setup.links at) refl))
        | inr p ↦ row-past (all_kept_up flags 0 ends) at.switch at.port p ∙ none_kept at (sym (known.leads at) ∙ row-past ends at.switch at.port p)
      ]

-- its links lead to switches of the setup, and back
pub up_is_table : (setup : Setup) (down : List SwitchPort) (is : IsSetup setup) (table : List (Option SwitchPort)) → IsUpTable setup down table → IsTable (length setup.ports) table
up_is_table setup down is table up =
    record {
      within = λ s p end e. (port_bounds setup is end (over_ports setup down is (record { switch = s; port = p }) end (sym (up.leads (record { switch = s; port = p })) ∙ e)).1).0;
      back = λ s p end e. up.leads end ∙ over_back setup down is (record { switch = s; port = p }) end (sym (up.leads (record { switch = s; port = p })) ∙ e);
    }

-- one more end is kept
pub kept_more : (flags : List Bool) (ends table whole : List (Option SwitchPort)) (i : ℕ) (x : Option SwitchPort) → i < length ends → table ++ all_kept_up flags i (drop i ends) ≡ whole →
    x ≡ kept_up flags i (get_or ends i None) → (table ++ x ∷ []) ++ all_kept_up flags (i + 1) (drop (i + 1) ends) ≡ whole
unfolding all_kept_up
kept_more flags ends table whole i x h so e =
    let step : all_kept_up flags i (drop i ends) ≡ kept_up flags i (get_or ends i None) ∷ all_kept_up flags (i + 1) (drop (i + 1) ends) = at_drop_more (λ (l : List (Option SwitchPort)). all_kept_up flags i l) ends i None h in
    append_assoc table (x ∷ []) (all_kept_up flags (i + 1) (drop (i + 1) ends))
    ∙ ap (λ (y : Option SwitchPort). table ++ y ∷ all_kept_up flags (i + 1) (drop (i + 1) ends)) e
    ∙ ap (λ (l : List (Option SwitchPort)). table ++ l) (sym step) ∙ so

pub kept_all : (flags : List Bool) (ends table whole : List (Option SwitchPort)) (i : ℕ) → length ends ≤ i → table ++ all_kept_up flags i (drop i ends) ≡ whole → table ≡ whole
unfolding all_kept_up
kept_all flags ends table whole i h so =
    let none : drop i ends ≡ [] = drop_all i ends h in
    sym (ap (λ (l : List (Option SwitchPort)). table ++ all_kept_up flags i l) none ∙ append-nil table) ∙ so

-- what a slice writes back, where its length stays
pub whole_back : {X : Type 0} (n : ℕ) (new old : List X) → length new ≡ length old → n ≡ length old → take n (new ++ drop (length new) old) ≡ new
whole_back n new old same e =
    let none : drop (length new) old ≡ [] = drop_all (length new) old (omega arith) in
    ap (λ l. take n (new ++ l)) none ∙ ap (λ l. take n l) (append-nil new) ∙ take_all n new (omega arith)

pub joined_len : (ends : List (Option SwitchPort)) (near far : SwitchPort) → length (joined_ends (joined_ends ends near far) far near) ≡ length ends
joined_len ends near far = joined-len (joined_ends ends near far) far near ∙ joined-len ends near far

-- the table for one more link of a setup
pub next_ends : (setup : Setup) → IsSetup setup → (links : List Link) → links ≡ setup.links → (i : ℕ) (d : Link) → i < length links → (old : List (Option SwitchPort)) → EndsSoFar (length setup.ports) (take i links) old →
    EndsSoFar (length setup.ports) (take (i + 1) links) (joined_ends (joined_ends old (near_end (get_or links i d)) (far_end (get_or links i d))) (far_end (get_or links i d)) (near_end (get_or links i d)))
next_ends setup is links same i d h old so =
    let l = get_or links i d in
    let all = All-from_recursion (λ (x : Link). IsPort setup x.switch x.port × IsPort setup x.peer x.peer_port) links (subst (λ (ls : List Link). AllByRecursion (λ (x : Link). IsPort setup x.switch x.port × IsPort setup x.peer x.peer_port) ls) (sym same) is.links) in
    let both = all i d h in
    let a = port_bounds setup is (near_end (get_or links i d)) both.0 in
    let b = port_bounds setup is (far_end (get_or links i d)) both.1 in
    let a_low = a.3 in
    let b_low = b.3 in
    subst (λ (ls : List Link). EndsSoFar (length setup.ports) ls (joined_ends (joined_ends old (near_end (get_or links i d)) (far_end (get_or links i d))) (far_end (get_or links i d)) (near_end (get_or links i d)))) (sym (take_more links i d h))
    (more_ends (length setup.ports) (take i links) (get_or links i d) old so a.0 (omega (arith, a_low)) b.0 (omega (arith, b_low)))

-- Where there is a walk there is a route: a walk that comes to a switch twice can be cut short, so some walk has fewer hops than there are switches.
use Rattle.std.proofs.Common.{◌≡◌, ◌<◌, ℕ, suc, Bool, true, false, List, [], ◌∷◌, length, Option, Some, None, refl, sym, ap, subst, inl, inr, arith}
use Rattle.std.specs.Prelude.{nat_eq, flat_map, slice_get, ◌||◌}
use Rattle.std.specs.List.{AllByRecursion, IsDistinct, list_any, range_with_len}
use Rattle.std.proofs.lemmas.Bool.{or_parts}
use Rattle.std.proofs.lemmas.Bool.Decides.{eqb_tells}
use Rattle.std.proofs.lemmas.Map.Keys.{IsDistinct-cons, IsDistinct-tail}
use Rattle.std.proofs.lemmas.Map.Steps.{length-le_from_distinct_below}
use Rattle.of_types.specs.declared.setup.Setup.{Setup}
use Rattle.of_types.specs.Setups.{IsSetup}
use Rattle.app_core.specs.declared.switch_port.SwitchPort.{SwitchPort}
use Rattle.app_core.specs.Routes.{over_known_link, walks, route, IsWalk, IsRoute}
use Rattle.app_core.proofs.Linked.{over_ports, port_bounds}
use Rattle.app_core.proofs.Routes.{In, flat_in, route_means, one_route, walks_all}

-- the switches that a walk comes to, and the one that it leads to
abbrev visited : ℕ → List SwitchPort → List ℕ
visited to [] = to ∷ []
visited to (hop ∷ hops) = hop.switch ∷ visited to hops

long_visited : (to : ℕ) (w : List SwitchPort) → length (visited to w) ≡ suc (length w)
long_visited to [] = refl
long_visited to (hop ∷ hops) = ap suc (long_visited to hops)

none_same : (switch : ℕ) (others : List ℕ) → list_any (nat_eq switch) others ≡ false → AllByRecursion (λ other. nat_eq switch other ≡ false) others
none_same switch [] e = tt
none_same switch (other ∷ others) e = let p = or_parts (nat_eq switch other) (list_any (nat_eq switch) others) e in (p.0, none_same switch others p.1)

-- the first of some is none
no_first : {X : Type 0} (xs : List X) → slice_get xs 0 ≡ None → xs ≡ []
no_first [] e = refl
no_first (x ∷ xs) e = absurd cc

module _ (setup : Setup) (down : List SwitchPort) (to : ℕ) where
  -- a walk that comes to each switch once
  record IsSimple (from : ℕ) (w : List SwitchPort) : Type 0 where
    pub walks : IsWalk setup down from to w
    pub once : IsDistinct nat_eq (visited to w)

  -- from each switch that it comes to one goes on
  simple_from : (switch from : ℕ) (w : List SwitchPort) → IsSimple from w → list_any (nat_eq switch) (visited to w) ≡ true → (v : List SwitchPort) × IsSimple switch v
  simple_from switch from [] h there = elim (eqb_tells switch to) [
    | inl s ↦ ([], record { walks = s.1; once = h.once })
    | inr o ↦ absurd (let n = o.0 in cc)
  ]
  simple_from switch from (hop ∷ hops) h there = elim (eqb_tells switch hop.switch) [
    | inl s ↦ (hop ∷ hops, record { walks = (sym s.1, h.walks.1); once = h.once })
    | inr o ↦
        let rest : list_any (nat_eq switch) (visited to hops) ≡ true = subst (λ (b : Bool). (b || list_any (nat_eq switch) (visited to hops)) ≡ true) o.0 there in
        simple_from switch h.walks.1.0.switch hops (record { walks = h.walks.1.2; once = IsDistinct-tail nat_eq hop.switch (visited to hops) h.once }) rest
  ]

  -- each walk can be cut short to one
  cut_short : (w : List SwitchPort) (from : ℕ) → IsWalk setup down from to w → (v : List SwitchPort) × IsSimple from v
  unfolding IsDistinct
  cut_short [] from e = ([], record { walks = e; once = (tt, tt) })
  cut_short (hop ∷ hops) from (at, (end, link, rest)) =
      let short = cut_short hops end.switch rest in
      by_visit short.0 short.1 (list_any (nat_eq from) (visited to short.0)) refl
    where
      by_visit : (v : List SwitchPort) → IsSimple end.switch v → (b : Bool) → list_any (nat_eq from) (visited to v) ≡ b → (v : List SwitchPort) × IsSimple from v
      by_visit v h true there = simple_from from end.switch v h there
      by_visit v h false apart =
          let once = IsDistinct-cons nat_eq from (visited to v) (none_same from (visited to v) apart) h.once in
          (hop ∷ v, record { walks = (at, (end, link, h.walks)); once = subst (λ (s : ℕ). IsDistinct nat_eq (s ∷ visited to v)) (sym at) once })

  module _ (is : IsSetup setup) where
    -- each hop leads from a switch of the setup to one
    over_below : (at end : SwitchPort) → over_known_link setup down at ≡ Some end → (at.switch < length setup.ports) × (end.switch < length setup.ports)
    over_below at end link = let p = over_ports setup down is at end link in ((port_bounds setup is at p.0).0, (port_bounds setup is end p.1).0)

    to_below : (w : List SwitchPort) (from : ℕ) → IsWalk setup down from to w → from < length setup.ports → to < length setup.ports
    to_below [] from e there = subst (λ (s : ℕ). s < length setup.ports) e there
    to_below (hop ∷ hops) from (at, (end, link, rest)) there = to_below hops end.switch rest (over_below hop end link).1

    visited_below : (w : List SwitchPort) (from : ℕ) → IsWalk setup down from to w → to < length setup.ports → (q : ℕ) → list_any (nat_eq q) (visited to w) ≡ true → q < length setup.ports
    visited_below [] from e there q in_it = elim (eqb_tells q to) [
      | inl s ↦ subst (λ (x : ℕ). x < length setup.ports) (sym s.1) there
      | inr o ↦ absurd (let n = o.0 in cc)
    ]
    visited_below (hop ∷ hops) from (at, (end, link, rest)) there q in_it = elim (eqb_tells q hop.switch) [
      | inl s ↦ subst (λ (x : ℕ). x < length setup.ports) (sym s.1) (over_below hop end link).0
      | inr o ↦ visited_below hops end.switch rest there q (subst (λ (b : Bool). (b || list_any (nat_eq q) (visited to hops)) ≡ true) o.0 in_it)
    ]

    -- a walk that comes to each switch once has fewer hops than there are switches
    few_hops : (w : List SwitchPort) (from : ℕ) → IsSimple from w → length w < length setup.ports
    few_hops [] from h = let one = is.some in omega (arith, one)
    few_hops (hop ∷ hops) from h =
        let leads = h.walks.1 in
        let there = to_below hops leads.0.switch leads.2 (over_below hop leads.0 leads.1).1 in
        let few = length-le_from_distinct_below (visited to (hop ∷ hops)) (length setup.ports) h.once (visited_below (hop ∷ hops) from h.walks there) in
        let long = long_visited to (hop ∷ hops) in
        omega (arith, few, long)

    -- where there is a walk there is a route
    pub reaches : (from : ℕ) → route setup down from to ≡ None → (w : List SwitchPort) → IsWalk setup down from to w → ⊥
    unfolding route
    reaches from none w h =
        let short = cut_short w from h in
        let v = short.0 in
        let few = few_hops v from short.1 in
        let within = flat_in (λ hops. walks setup down to hops from) v 0 (length setup.ports) (length v) (omega arith) (omega (arith, few)) (walks_all setup down to is v from short.1.walks) in
        subst (λ (l : List (List SwitchPort)). In l v) (no_first (flat_map (λ hops. walks setup down to hops from) (range_with_len 0 (length setup.ports))) none) within

    -- and it is the only one
    pub is_the_route : (from : ℕ) (w : List SwitchPort) → IsRoute setup down from to w → route setup down from to ≡ Some w
    is_the_route from w h = by_route (route setup down from to) refl
      where
        by_route : (o : Option (List SwitchPort)) → route setup down from to ≡ o → o ≡ Some w
        by_route None e = absurd (reaches from e w h.walks)
        by_route (Some v) e = ap (λ (l : List SwitchPort). Some l) (one_route setup down to from v w (route_means setup down to is from v e) h)

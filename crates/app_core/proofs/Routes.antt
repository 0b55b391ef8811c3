-- What the first of all walks is: a walk such that no walk has fewer hops, and no equally short one has lesser out ports.
use Rattle.std.proofs.Common.{◌≡◌, ◌<◌, ◌≤◌, ◌+◌, ℕ, zero, suc, Bool, true, false, List, [], ◌∷◌, ◌++◌, length, map, Option, Some, None, refl, sym, ap, ◌∙◌, subst, inl, inr, ◌⊎◌, arith}
use Rattle.std.specs.Prelude.{nat_eq, flat_map, slice_get, slice_index, if◌then◌else◌}
use Rattle.std.specs.List.{range_with_len}
use Rattle.std.proofs.lemmas.Bool.{cases_lt}
use Rattle.std.proofs.lemmas.Bool.Decides.{eqb_tells}
use Rattle.of_types.specs.declared.setup.Setup.{Setup}
use Rattle.of_types.specs.Setups.{IsSetup}
use Rattle.app_core.specs.declared.switch_port.SwitchPort.{SwitchPort}
use Rattle.app_core.specs.Routes.{over_known_link, behind_link, walks, route, IsWalk, IsLesser, IsRoute}
use Rattle.app_core.proofs.Linked.{one_port, over_ports, port_bounds}

-- an element of a list
abbrev pub In : {X : Type 0} → List X → X → Type 0
In [] x = ⊥
In (y ∷ ys) x = (y ≡ x) ⊎ In ys x

in_left : {X : Type 0} (xs ys : List X) (x : X) → In xs x → In (xs ++ ys) x
in_left [] ys x h = absurd h
in_left (z ∷ xs) ys x (inl e) = inl e
in_left (z ∷ xs) ys x (inr h) = inr (in_left xs ys x h)

in_right : {X : Type 0} (xs ys : List X) (x : X) → In ys x → In (xs ++ ys) x
in_right [] ys x h = h
in_right (z ∷ xs) ys x h = inr (in_right xs ys x h)

in_either : {X : Type 0} (xs ys : List X) (x : X) → In (xs ++ ys) x → In xs x ⊎ In ys x
in_either [] ys x h = inr h
in_either (z ∷ xs) ys x (inl e) = inl (inl e)
in_either (z ∷ xs) ys x (inr h) = elim (in_either xs ys x h) [ inl l ↦ inl (inr l) | inr r ↦ inr r ]

pub in_first : {X : Type 0} (xs : List X) (x : X) → slice_get xs 0 ≡ Some x → In xs x
in_first [] x e = absurd cc
in_first (y ∷ xs) x e = inl cc

module _ {X : Type 0} (f : ℕ → List X) (x : X) where
  in_flat : (first n : ℕ) → In (flat_map f (range_with_len first n)) x → (k : ℕ) × (first ≤ k) × (k < first + n) × In (f k) x
  in_flat first zero h = absurd h
  in_flat first (suc n) h = elim (in_either (f first) (flat_map f (range_with_len (first + 1) n)) x h) [
    | inl l ↦ (first, omega arith, omega arith, l)
    | inr r ↦ (let i = in_flat (first + 1) n r in let a = i.1 in let b = i.2 in (i.0, omega (arith, a), omega (arith, b), i.3))
  ]

  pub flat_in : (first n k : ℕ) → first ≤ k → k < first + n → In (f k) x → In (flat_map f (range_with_len first n)) x
  flat_in first zero k l h i = absurd (omega arith)
  flat_in first (suc n) k l h i = elim (eqb_tells first k) [
    | inl s ↦ in_left (f first) (flat_map f (range_with_len (first + 1) n)) x (subst (λ j. In (f j) x) (sym s.1) i)
    | inr o ↦ (let ne = o.1 in in_right (f first) (flat_map f (range_with_len (first + 1) n)) x (flat_in (first + 1) n k (omega arith) (omega arith) i))
  ]

  -- the first element stands in the first of the lists that has one
  pub flat_split : (first n : ℕ) → slice_get (flat_map f (range_with_len first n)) 0 ≡ Some x →
      (k : ℕ) × (first ≤ k) × (k < first + n) × (slice_get (f k) 0 ≡ Some x) × ((q : ℕ) → first ≤ q → q < k → f q ≡ [])
  flat_split first zero e = absurd cc
  flat_split first (suc n) e = by_front (f first) refl (λ rest. flat_split (first + 1) n rest)
    where
      by_front : (xs : List X) → f first ≡ xs →
          (slice_get (flat_map f (range_with_len (first + 1) n)) 0 ≡ Some x → (k : ℕ) × (first + 1 ≤ k) × (k < first + 1 + n) × (slice_get (f k) 0 ≡ Some x) × ((q : ℕ) → first + 1 ≤ q → q < k → f q ≡ [])) →
          (k : ℕ) × (first ≤ k) × (k < first + suc n) × (slice_get (f k) 0 ≡ Some x) × ((q : ℕ) → first ≤ q → q < k → f q ≡ [])
      by_front [] is more =
          let rest : slice_get (flat_map f (range_with_len (first + 1) n)) 0 ≡ Some x = subst (λ (l : List X). slice_get (l ++ flat_map f (range_with_len (first + 1) n)) 0 ≡ Some x) is e in
          let i = more rest in
          let a = i.1 in
          let b = i.2 in
          (i.0, omega (arith, a), omega (arith, b), i.3, λ q l h. elim (eqb_tells first q) [ inl s ↦ ap f (sym s.1) ∙ is | inr o ↦ (let ne = o.1 in i.4 q (omega arith) h) ])
      by_front (y ∷ xs) is more =
          let here : Some y ≡ Some x = subst (λ (l : List X). slice_get (l ++ flat_map f (range_with_len (first + 1) n)) 0 ≡ Some x) is e in
          (first, omega arith, omega arith, rw is here, λ q l h. absurd (omega arith))

in_map : (hop : SwitchPort) (lists : List (List SwitchPort)) (w : List SwitchPort) → In (map (λ hops. hop ∷ hops) lists) w → (v : List SwitchPort) × (w ≡ hop ∷ v) × In lists v
in_map hop [] w h = absurd h
in_map hop (x ∷ lists) w (inl e) = (x, sym e, inl refl)
in_map hop (x ∷ lists) w (inr h) = let i = in_map hop lists w h in (i.0, i.1, inr i.2)

map_in : (hop : SwitchPort) (lists : List (List SwitchPort)) (v : List SwitchPort) → In lists v → In (map (λ hops. hop ∷ hops) lists) (hop ∷ v)
map_in hop [] v h = absurd h
map_in hop (x ∷ lists) v (inl e) = inl (ap (λ l. hop ∷ l) e)
map_in hop (x ∷ lists) v (inr h) = inr (map_in hop lists v h)

map_head : (hop : SwitchPort) (lists : List (List SwitchPort)) (w : List SwitchPort) → slice_get (map (λ hops. hop ∷ hops) lists) 0 ≡ Some w → (v : List SwitchPort) × (w ≡ hop ∷ v) × (slice_get lists 0 ≡ Some v)
map_head hop [] w e = absurd cc
map_head hop (x ∷ lists) w e = (x, cc, refl)

module _ (setup : Setup) (down : List SwitchPort) (to : ℕ) where
  at_port : ℕ → ℕ → SwitchPort
  at_port from port = record { switch = from; port = port }

  behind_in : (hop : SwitchPort) (o : Option SwitchPort) (rest : ℕ → List (List SwitchPort)) (w : List SwitchPort) → In (behind_link hop o rest) w →
      (end : SwitchPort) × (o ≡ Some end) × ((v : List SwitchPort) × (w ≡ hop ∷ v) × In (rest end.switch) v)
  behind_in hop None rest w h = absurd h
  behind_in hop (Some end) rest w h = (end, refl, in_map hop (rest end.switch) w h)

  behind_head : (hop : SwitchPort) (o : Option SwitchPort) (rest : ℕ → List (List SwitchPort)) (w : List SwitchPort) → slice_get (behind_link hop o rest) 0 ≡ Some w →
      (end : SwitchPort) × (o ≡ Some end) × ((v : List SwitchPort) × (w ≡ hop ∷ v) × (slice_get (rest end.switch) 0 ≡ Some v))
  behind_head hop None rest w e = absurd cc
  behind_head hop (Some end) rest w e = (end, refl, map_head hop (rest end.switch) w e)

  from_port : ℕ → ℕ → ℕ → List (List SwitchPort)
  from_port hops from port = behind_link (record { switch = from; port = port }) (over_known_link setup down (record { switch = from; port = port })) (walks setup down to hops)

  -- what one more hop gives
  pub walks_in : (hops from : ℕ) (w : List SwitchPort) → In (walks setup down to (suc hops) from) w →
      (port : ℕ) × (end : SwitchPort) × (v : List SwitchPort) × (w ≡ record { switch = from; port = port } ∷ v) × (over_known_link setup down (record { switch = from; port = port }) ≡ Some end) × In (walks setup down to hops end.switch) v
  unfolding walks
  walks_in hops from w h =
      let i = in_flat (λ port. behind_link (record { switch = from; port = port }) (over_known_link setup down (record { switch = from; port = port })) (walks setup down to hops)) w 1 (slice_index setup.ports from) h in
      let b = behind_in (record { switch = from; port = i.0 }) (over_known_link setup down (record { switch = from; port = i.0 })) (walks setup down to hops) w i.3 in
      (i.0, b.0, b.2.0, b.2.1, b.1, b.2.2)

  walks_none : (from : ℕ) (w : List SwitchPort) → In (walks setup down to 0 from) w → (w ≡ []) × (from ≡ to)
  unfolding walks
  walks_none from w h = by_same (nat_eq from to) refl h
    where
      by_same : (b : Bool) → nat_eq from to ≡ b → In (if b then [] ∷ [] else []) w → (w ≡ []) × (from ≡ to)
      by_same true e (inl s) = (sym s, elim (eqb_tells from to) [ inl x ↦ x.1 | inr o ↦ absurd (let f = o.0 in cc) ])
      by_same true e (inr h) = absurd h
      by_same false e h = absurd h

  -- they are walks of so many hops
  pub walks_sound : (hops from : ℕ) (w : List SwitchPort) → In (walks setup down to hops from) w → IsWalk setup down from to w × (length w ≡ hops)
  walks_sound zero from w h = let n = walks_none from w h in subst (λ v. IsWalk setup down from to v × (length v ≡ 0)) (sym n.0) (n.1, refl)
  walks_sound (suc hops) from w h =
      let i = walks_in hops from w h in
      let s = walks_sound hops i.1.switch i.2 i.5 in
      subst (λ v. IsWalk setup down from to v × (length v ≡ suc hops)) (sym i.3) ((refl, (i.1, i.4, s.0)), ap suc s.1)

  -- each walk is among them
  pub walks_all : IsSetup setup → (w : List SwitchPort) (from : ℕ) → IsWalk setup down from to w → In (walks setup down to (length w) from) w
  unfolding walks
  walks_all is [] from e = elim (eqb_tells from to) [ inl s ↦ rw s.0 (inl refl) | inr o ↦ absurd (o.1 e) ]
  walks_all is (hop ∷ hops) from (at, (end, link, rest)) =
      let ports = over_ports setup down is hop end link in
      let bounds = port_bounds setup is hop ports.0 in
      let few : hop.port ≤ slice_index setup.ports from = subst (λ s. hop.port ≤ slice_index setup.ports s) at bounds.2 in
      let same : record { switch = from; port = hop.port } ≡ hop = one_port (record { switch = from; port = hop.port }) hop (sym at) refl in
      let one = bounds.1 in
      flat_in (λ port. behind_link (record { switch = from; port = port }) (over_known_link setup down (record { switch = from; port = port })) (walks setup down to (length hops)))
      (hop ∷ hops) 1 (slice_index setup.ports from) hop.port one (omega arith)
      (subst (λ h. In (behind_link h (over_known_link setup down h) (walks setup down to (length hops))) (hop ∷ hops)) (sym same)
      (rw link (map_in hop (walks setup down to (length hops) end.switch) hops (walks_all is hops end.switch rest))))

  -- none of them is less than the first
  pub first_least : (hops from : ℕ) (w v : List SwitchPort) → slice_get (walks setup down to hops from) 0 ≡ Some w → In (walks setup down to hops from) v → IsLesser v w → ⊥
  unfolding walks
  first_least zero from w v e h less = let n = walks_none from v h in subst (λ l. IsLesser l w) n.0 less
  first_least (suc hops) from w v e h less =
      let f = λ (port : ℕ). behind_link (record { switch = from; port = port }) (over_known_link setup down (record { switch = from; port = port })) (walks setup down to hops) in
      let a = flat_split f w 1 (slice_index setup.ports from) e in
      let b = in_flat f v 1 (slice_index setup.ports from) h in
      let x = behind_head (record { switch = from; port = a.0 }) (over_known_link setup down (record { switch = from; port = a.0 })) (walks setup down to hops) w a.3 in
      let y = behind_in (record { switch = from; port = b.0 }) (over_known_link setup down (record { switch = from; port = b.0 })) (walks setup down to hops) v b.3 in
      let lesser : IsLesser (record { switch = from; port = b.0 } ∷ y.2.0) (record { switch = from; port = a.0 } ∷ x.2.0) = subst (λ l. IsLesser l (record { switch = from; port = a.0 } ∷ x.2.0)) y.2.1 (subst (λ l. IsLesser v l) x.2.1 less) in
      let not_before : a.0 ≤ b.0 = elim (cases_lt b.0 a.0) [
        | inl l ↦ absurd (subst (λ l. In l v) (a.4 b.0 b.1 l) b.3)
        | inr g ↦ g
      ] in
      elim lesser [
        | inl l ↦ omega arith
        | inr s ↦
            let ends : x.0 ≡ y.0 = (let p = x.1 in let q = ap (λ port. over_known_link setup down (record { switch = from; port = port })) s.0 in let r = y.1 in cc) in
            first_least hops x.0.switch x.2.0 y.2.0 x.2.2 (subst (λ (z : SwitchPort). In (walks setup down to hops z.switch) y.2.0) (sym ends) y.2.2) s.1
      ]

  -- the route is one
  pub route_means : IsSetup setup → (from : ℕ) (w : List SwitchPort) → route setup down from to ≡ Some w → IsRoute setup down from to w
  unfolding route
  route_means is from w e =
      let a = flat_split (λ hops. walks setup down to hops from) w 0 (length setup.ports) e in
      let s = walks_sound a.0 from w (in_first (walks setup down to a.0 from) w a.3) in
      let long = s.1 in
      record {
        walks = s.0;
        fewest = λ v h. elim (cases_lt (length v) a.0) [
          | inl l ↦ absurd (subst (λ l. In l v) (a.4 (length v) (omega arith) l) (walks_all is v from h))
          | inr g ↦ omega (arith, long, g)
        ];
        least = λ v h same less. first_least a.0 from w v a.3 (subst (λ n. In (walks setup down to n from) v) (same ∙ long) (walks_all is v from h)) less;
      }

  -- two equally short walks of which neither is less are one
  same_walk : (w v : List SwitchPort) (from : ℕ) → IsWalk setup down from to w → IsWalk setup down from to v → length w ≡ length v → (IsLesser w v → ⊥) → (IsLesser v w → ⊥) → w ≡ v
  same_walk [] [] from p q long a b = refl
  same_walk [] (y ∷ v) from p q long a b = absurd (omega arith)
  same_walk (x ∷ w) [] from p q long a b = absurd (omega arith)
  same_walk (x ∷ w) (y ∷ v) from (px, (ex, lx, rx)) (py, (ey, ly, ry)) long a b = elim (cases_lt x.port y.port) [
    | inl l ↦ absurd (a (inl l))
    | inr g ↦ elim (cases_lt y.port x.port) [
      | inl l ↦ absurd (b (inl l))
      | inr h ↦
          let ports : x.port ≡ y.port = omega arith in
          let hop : x ≡ y = one_port x y (px ∙ sym py) ports in
          let end : ex ≡ ey = cc in
          let rest = same_walk w v ex.switch rx (subst (λ (e : SwitchPort). IsWalk setup down e.switch to v) (sym end) ry) (omega arith) (λ l. a (inr (ports, l))) (λ l. b (inr (sym ports, l))) in
          cc
    ]
  ]

  -- there is at most one route
  pub one_route : (from : ℕ) (w v : List SwitchPort) → IsRoute setup down from to w → IsRoute setup down from to v → w ≡ v
  one_route from w v a b =
      let p = a.fewest v b.walks in
      let q = b.fewest w a.walks in
      let long : length w ≡ length v = omega (arith, p, q) in
      same_walk w v from a.walks b.walks long (λ l. b.least w a.walks long l) (λ l. a.least v b.walks (sym long) l)

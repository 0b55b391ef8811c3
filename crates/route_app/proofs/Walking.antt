-- Going down by levels gives the first of the shortest walks.
use Rattle.std.proofs.Common.{◌≡◌, ◌≢◌, ◌<◌, ◌≤◌, ◌+◌, ℕ, zero, suc, List, [], ◌∷◌, ◌++◌, length, get_or, take, map, Option, Some, None, refl, sym, ap, ◌∙◌, subst, inl, inr, arith, append_assoc}
use Rattle.std.specs.Prelude.{slice_get, slice_index}
use Rattle.std.specs.List.{range_with_len}
use Rattle.std.proofs.lemmas.Bool.{cases_lt}
use Rattle.std.proofs.lemmas.Bool.Decides.{eqb_tells}
use Rattle.std.proofs.lemmas.List.{append-nil, get_or_past, get_or-take, get_or_default, length-take-le, same_lists}
use Rattle.std.proofs.lemmas.List.FromFn.{length-map-range_with_len, get_or-map-range_with_len}
use Rattle.of_types.specs.declared.setup.Setup.{Setup}
use Rattle.of_types.specs.Setups.{IsSetup}
use Rattle.app_core.specs.declared.switch_port.SwitchPort.{SwitchPort}
use Rattle.app_core.specs.Routes.{over_known_link, walks, route, unreached, hops_of, levels, IsWalk, FallsAlong, ShowRoutes}
use Rattle.port_table.specs.Hops.{level, HasNone, IsFirstPort}
use Rattle.route_app.specs.Search.{row, FindsLevels, FindsUpTo}
use Rattle.route_app.specs.Tables.{IsUpTable}
use Rattle.route_app.specs.Hops.{AnswersRoute}
use Rattle.app_core.proofs.Linked.{over_other, over_ports, port_bounds}
use Rattle.route_app.proofs.Walks.{first_hop, last_hop, route_found, no_route}
use Rattle.app_core.proofs.Routes.{In, in_first, walks_sound, walks_all, route_means}

-- what holds after so many hops: a first walk from here is the rest of a first walk
pub record Walking (setup : Setup) (down : List SwitchPort) (to from : ℕ) (found : List ℕ) (here : ℕ) (walk : List SwitchPort) : Type 0 where
  pub reached : level found here ≢ unreached
  pub rest : (w : List SwitchPort) → slice_get (walks setup down to (level found here) here) 0 ≡ Some w → slice_get (walks setup down to (level found from) from) 0 ≡ Some (walk ++ w)

module _ (setup : Setup) (down : List SwitchPort) (to : ℕ) (is : IsSetup setup) (table : List (Option SwitchPort)) (up : IsUpTable setup down table) (found : List ℕ) (f : FindsLevels table (length setup.ports) to found) where
  near : (at end : SwitchPort) → over_known_link setup down at ≡ Some end → level found at.switch ≤ level found end.switch + 1
  near at end e = f.near at.switch at.port end.switch (end, up.leads at ∙ e, refl)

  pub sets_out : (from : ℕ) → level found from ≢ unreached → Walking setup down to from found from []
  sets_out from h = record { reached = h; rest = λ w e. e }

  module _ (from here : ℕ) (walk : List SwitchPort) (so : Walking setup down to from found here walk) where
    pub hop_goes_on : (hops port : ℕ) (end : SwitchPort) → level found here ≡ suc hops → IsFirstPort (row table here) found hops port end →
        Walking setup down to from found end.switch (walk ++ record { switch = here; port = port } ∷ [])
    hop_goes_on hops port end is_level first =
        let at : SwitchPort = record { switch = here; port = port } in
        let link : over_known_link setup down (record { switch = here; port = port }) ≡ Some end = sym (up.leads (record { switch = here; port = port })) ∙ first.leads in
        let bounds = port_bounds setup is (record { switch = here; port = port }) (over_ports setup down is (record { switch = here; port = port }) end link).0 in
        let few = f.few here so.reached in
        let low = first.low in
        let small = is.few in
        record {
          reached = λ e. omega (arith, e, few, low, small, is_level);
          rest = λ w e. let next = first_hop setup down to found f.start near hops here port end w is_level bounds.1 bounds.2 link
              (subst (λ n. slice_get (walks setup down to n end.switch) 0 ≡ Some w) low e)
              (λ q x h l. first.none q x h (up.leads (record { switch = here; port = q }) ∙ l)) in
              so.rest (record { switch = here; port = port } ∷ w) (subst (λ n. slice_get (walks setup down to n here) 0 ≡ Some (record { switch = here; port = port } ∷ w)) (sym is_level) next)
              ∙ ap (λ l. Some l) (sym (append_assoc walk (record { switch = here; port = port } ∷ []) w));
        }

    -- a link leads nearer
    pub not_stuck : (hops : ℕ) → level found here ≡ suc hops → HasNone (row table here) found hops (length (row table here)) → ⊥
    not_stuck hops is_level none =
        let start = f.start in
        let away : here ≢ to = λ e. (let same : level found here ≡ level found to = ap (λ v. level found v) e in omega (arith, same, start, is_level)) in
        let fall = f.falls here so.reached away in
        let end = fall.2.0 in
        let leads = fall.2.1 in
        let one = fall.3 in
        let low : level found end.switch ≡ hops = ap (λ v. level found v) fall.2.2 ∙ omega (arith, one, is_level) in
        elim (cases_lt fall.0 (length (row table here))) [
          | inl l ↦ none fall.0 end l leads low
          | inr g ↦ (let past : get_or (row table here) fall.0 None ≡ None = get_or_past (row table here) fall.0 None g in absurd cc)
        ]

    -- at level 0 the walk is there
    pub arrives : level found here ≡ 0 → level found from ≢ unreached → Some walk ≡ route setup down from to
    arrives zero_level out =
        let home : here ≡ to = elim (eqb_tells here to) [ inl s ↦ s.1 | inr o ↦ absurd (let fall = (f.falls here so.reached o.1).3 in omega (arith, fall, zero_level)) ] in
        let last : slice_get (walks setup down to (level found here) here) 0 ≡ Some [] =
        subst (λ n. slice_get (walks setup down to n here) 0 ≡ Some []) (sym zero_level) (subst (λ v. slice_get (walks setup down to 0 v) 0 ≡ Some []) (sym home) (last_hop setup down to found f.start near)) in
        let whole : slice_get (walks setup down to (level found from) from) 0 ≡ Some walk = so.rest [] last ∙ ap (λ l. Some l) (append-nil walk) in
        sym (route_found setup down to found f.start near from walk (f.few from out) whole)

  pub no_way : (from : ℕ) → level found from ≡ unreached → None ≡ route setup down from to
  no_way from e = sym (no_route setup down to found f.start near from is.few e)

  -- from a switch without a level there is no walk
  pub no_walk : (w : List SwitchPort) (from : ℕ) → level found from ≡ unreached → IsWalk setup down from to w → ⊥
  no_walk [] from e p = let s : level found from ≡ level found to = ap (λ v. level found v) p in let start = f.start in omega (arith, e, s, start)
  no_walk (hop ∷ hops) from e (at, (end, link, rest)) =
      let n = near hop end link in
      let h : level found hop.switch ≡ level found from = ap (λ v. level found v) at in
      let small = is.few in
      let none : level found end.switch ≡ unreached = elim (eqb_tells (level found end.switch) unreached) [
        | inl s ↦ s.1
        | inr o ↦ absurd (let few = f.few end.switch o.1 in omega (arith, few, n, h, e, small))
      ] in
      no_walk hops end.switch none rest

  -- no walk has fewer hops than the level says
  walk_long : (w : List SwitchPort) (from : ℕ) → IsWalk setup down from to w → level found from ≤ length w
  walk_long [] from p = let s : level found from ≡ level found to = ap (λ v. level found v) p in let start = f.start in omega (arith, s, start)
  walk_long (hop ∷ hops) from (at, (end, link, rest)) =
      let n = near hop end link in
      let h : level found hop.switch ≡ level found from = ap (λ v. level found v) at in
      let l = walk_long hops end.switch rest in
      omega (arith, n, h, l)

  -- and one has as many
  walk_there : (n from : ℕ) → level found from ≡ n → n < unreached → (w : List SwitchPort) × IsWalk setup down from to w × (length w ≡ n)
  walk_there zero from e few = elim (eqb_tells from to) [
    | inl s ↦ ([], s.1, refl)
    | inr o ↦ absurd (let fall = (f.falls from (λ h. omega arith) o.1).3 in omega (arith, fall, e))
  ]
  walk_there (suc n) from e few =
      let start = f.start in
      let away : from ≢ to = λ h. (let same : level found from ≡ level found to = ap (λ v. level found v) h in omega (arith, same, start, e)) in
      let fall = f.falls from (λ h. omega arith) away in
      let end = fall.2.0 in
      let one = fall.3 in
      let low : level found end.switch ≡ n = ap (λ v. level found v) fall.2.2 ∙ omega (arith, one, e) in
      let more = walk_there n end.switch low (omega arith) in
      (record { switch = from; port = fall.0 } ∷ more.0, (refl, (end, sym (up.leads (record { switch = from; port = fall.0 })) ∙ fall.2.1, more.1)), ap suc more.2)

  some_first : {X : Type 0} (xs : List X) (x : X) → In xs x → (y : X) × (slice_get xs 0 ≡ Some y)
  some_first [] x h = absurd h
  some_first (y ∷ xs) x h = (y, refl)

  -- a level is the number of hops of a route
  pub route_level : (from : ℕ) → hops_of (route setup down from to) ≡ level found from
  route_level from = elim (eqb_tells (level found from) unreached) [
    | inl s ↦ ap hops_of (sym (no_way from s.1)) ∙ sym s.1
    | inr o ↦
        let few = f.few from o.1 in
        let small = is.few in
        let w = walk_there (level found from) from refl (omega (arith, few, small)) in
        let first = some_first (walks setup down to (level found from) from) w.0 (subst (λ n. In (walks setup down to n from) w.0) w.2 (walks_all setup down to is w.0 from w.1)) in
        ap hops_of (route_found setup down to found f.start near from first.0 few first.1) ∙ (walks_sound setup down to (level found from) from first.0 (in_first (walks setup down to (level found from) from) first.0 first.1)).1
  ]

  pub levels_are : levels setup down to ≡ take (length setup.ports) found
  unfolding levels
  levels_are =
      let g : ℕ → ℕ = λ from. hops_of (route setup down from to) in
      let n = length setup.ports in
      let few = is.few in
      let long = f.len in
      let a = length-map-range_with_len g 0 n in
      let b = length-take-le n found (omega (arith, few, long)) in
      same_lists (map g (range_with_len 0 n)) (take n found) (a ∙ sym b)
      (λ k d h. let m : k < n = omega (arith, a, h) in
      get_or-map-range_with_len g 0 n k k d m (omega arith) ∙ route_level k ∙ (get_or_default found k unreached d (omega (arith, few, long, m)) ∙ sym (get_or-take n found k d m)))

  -- at a switch of the setup the list says the level
  level_in : (v : ℕ) → v < length setup.ports → slice_index (levels setup down to) v ≡ level found v
  level_in v h =
      let few = is.few in
      let long = f.len in
      ap (λ l. slice_index l v) levels_are ∙ get_or-take (length setup.ports) found v 0 h ∙ get_or_default found v 0 unreached (omega (arith, few, long))

  falls_along : (w : List SwitchPort) (from : ℕ) → IsWalk setup down from to w → length w ≡ level found from → FallsAlong setup (levels setup down to) w
  falls_along [] from p e = tt
  falls_along (hop ∷ hops) from (at, (end, link, rest)) e =
      let n = near hop end link in
      let h : level found hop.switch ≡ level found from = ap (λ v. level found v) at in
      let l = walk_long hops end.switch rest in
      let same : length hops ≡ level found end.switch = omega (arith, n, h, l, e) in
      let ports = over_ports setup down is hop end link in
      let here = level_in hop.switch (port_bounds setup is hop ports.0).0 in
      let there = level_in end.switch (port_bounds setup is end ports.1).0 in (
        λ other is_other. (let one : end ≡ other = (let x = over_other setup down hop end link in cc) in
            let there' : slice_index (levels setup down to) other.switch ≡ level found end.switch = subst (λ (x : SwitchPort). slice_index (levels setup down to) x.switch ≡ level found end.switch) one there in
            omega (arith, here, there', h, same, e)),
        falls_along hops end.switch rest same,
      )

  pub levels_show : to < length setup.ports → ShowRoutes setup down to (levels setup down to)
  levels_show there =
      record {
        bounds = record {
          zero_there = level_in to there ∙ f.start;
          close = λ at end link.
              let ports = over_ports setup down is at end link in
              let a = level_in at.switch (port_bounds setup is at ports.0).0 in
              let b = level_in end.switch (port_bounds setup is end ports.1).0 in
              let n = near at end link in
              omega (arith, a, b, n);
        };
        falls = λ from w few e. falls_along w from (route_means setup down to is from w e).walks (ap hops_of (sym e) ∙ route_level from);
      }

  -- what the way down answers
  pub answers_none : (from : ℕ) → level found from ≡ unreached → AnswersRoute setup down from to None
  answers_none from e = record { is = no_way from e; none = λ w p. no_walk w from e p }

  pub answers_some : (from here : ℕ) (walk : List SwitchPort) → Walking setup down to from found here walk → level found here ≡ 0 → level found from ≢ unreached → AnswersRoute setup down from to (Some walk)
  answers_some from here walk so zero_level out = record { is = arrives from here walk so zero_level out; none = tt }

  -- a row by another name
  pub stuck : (from here : ℕ) (walk : List SwitchPort) → Walking setup down to from found here walk → (r : List (Option SwitchPort)) (wanted : ℕ) → r ≡ row table here → level found here ≡ suc wanted → HasNone r found wanted (length r) → ⊥
  stuck from here walk so r wanted e is_level none = not_stuck from here walk so wanted is_level (subst (λ (x : List (Option SwitchPort)). HasNone x found wanted (length x)) e none)

  pub goes_nearer : (from here : ℕ) (walk : List SwitchPort) → Walking setup down to from found here walk → (r : List (Option SwitchPort)) (wanted port : ℕ) (end : SwitchPort) → r ≡ row table here → level found here ≡ suc wanted →
      IsFirstPort r found wanted port end → Walking setup down to from found end.switch (walk ++ record { switch = here; port = port } ∷ [])
  goes_nearer from here walk so r wanted port end e is_level first = hop_goes_on from here walk so wanted port end is_level (subst (λ (x : List (Option SwitchPort)). IsFirstPort x found wanted port end) e first)

-- levels up to that of the first switch of the way
module _ (setup : Setup) (table : List (Option SwitchPort)) (to from : ℕ) (levels : List ℕ) (f : FindsUpTo table (length setup.ports) to (Some from) levels) where
  -- what is not beyond the first switch has its level
  pub level_up_to : (v : ℕ) → level f.all v ≤ level f.all from → level levels v ≡ level f.all v
  level_up_to v low = elim (f.same v) [ inl e ↦ e | inr o ↦ (let far = o.1 in absurd (omega (arith, low, far))) ]

  pub level_low : length setup.ports ≤ 64 → (v : ℕ) → level levels v < level f.all from → level f.all v ≡ level levels v
  level_low few v low = elim (f.same v) [
    | inl e ↦ sym e
    | inr o ↦ (let none = o.0 in
        elim (eqb_tells (level f.all from) unreached) [
          | inl e ↦ (let same = e.1 in absurd (omega (arith, none, low, same)))
          | inr s ↦ (let small = f.finds.few from s.1 in absurd (omega (arith, none, low, small, few)))
        ])
  ]

  -- a search by the one list is one by the other
  pub none_in_all : (row : List (Option SwitchPort)) (wanted below : ℕ) → wanted < level f.all from → HasNone row levels wanted below → HasNone row f.all wanted below
  none_in_all row wanted below low none = λ q end h e same. none q end h e (level_up_to end.switch (omega (arith, low, same)) ∙ same)

  pub first_in_all : length setup.ports ≤ 64 → (row : List (Option SwitchPort)) (wanted port : ℕ) (end : SwitchPort) → wanted < level f.all from → IsFirstPort row levels wanted port end → IsFirstPort row f.all wanted port end
  first_in_all few row wanted port end low first =
      let at = first.low in
      record { leads = first.leads; low = level_low few end.switch (omega (arith, at, low)) ∙ first.low; none = none_in_all row wanted port low first.none }

-- with no wanted switch all levels are there
pub finds_all : (table : List (Option SwitchPort)) (switches to : ℕ) (levels : List ℕ) → FindsUpTo table switches to None levels → FindsLevels table switches to levels
finds_all table switches to levels f =
    record {
      len = f.len;
      start = same to ∙ f.finds.start;
      few = λ v h. let s = same v in let few = f.finds.few v (λ e. h (s ∙ e)) in omega (arith, s, few);
      near = λ v port other l. let a = same v in let b = same other in let n = f.finds.near v port other l in omega (arith, a, b, n);
      falls = λ v h o.
          let s = same v in
          let fall = f.finds.falls v (λ e. h (s ∙ e)) o in
          let b = same fall.1 in
          let one = fall.3 in
          (fall.0, fall.1, fall.2, omega (arith, s, b, one));
    }
  where
    same : (v : ℕ) → level levels v ≡ level f.all v
    same v = elim (f.same v) [ inl e ↦ e | inr o ↦ absurd o.1 ]

-- a level that was read
pub level_read : (found : List ℕ) (i j : ℕ) → length found ≡ 256 → i ≡ j → j < 256 → level found j ≡ slice_index found i
level_read found i j long e h = get_or_default found j unreached 0 (omega arith) ∙ ap (λ k. slice_index found k) (sym e)

-- As ports go down and come up, the table stays that of the links that are up.
use Rattle.std.proofs.Common.{◌≡◌, ◌≢◌, ◌<◌, ◌+◌, ◌*◌, ℕ, zero, suc, Bool, true, false, List, [], ◌∷◌, length, set, get_or, filter, Option, Some, None, refl, sym, ap, ◌∙◌, subst, inl, inr, arith}
use Rattle.std.specs.Prelude.{nat_eq, nat_lt, not, ◌||◌, if◌then◌else◌}
use Rattle.std.proofs.Math.ListN.{length-set}
use Rattle.std.proofs.lemmas.Bool.{cases_lt}
use Rattle.std.proofs.lemmas.Bool.Decides.{eqb_tells}
use Rattle.std.proofs.lemmas.List.{get_or-set_same, get_or-set_other}
use Rattle.of_types.specs.declared.setup.Setup.{Setup}
use Rattle.app_core.specs.declared.switch_port.SwitchPort.{SwitchPort}
use Rattle.app_core.specs.Routes.{is_same_port, other_end, is_link_down, if_up, over_known_link}
use Rattle.app_core.specs.Routing.{is_port_before, with_known_port, without_port, without_switch}
use Rattle.app_core.proofs.Linked.{same_tells, other_back, are_ports, port_bounds}
use Rattle.route_app.specs.declared.wires.Wires.{Wires}
use Rattle.route_app.specs.Search.{row}
use Rattle.port_table.specs.Places.{place}
use Rattle.route_app.specs.Tables.{led, IsEnds, IsUpTable}
use Rattle.route_app.specs.UpLinks.{with_link, relinked, relinked_ports}
use Rattle.route_app.specs.Wired.{IsWires, end_over}
use Rattle.route_app.proofs.Tables.{row-at, row-past, one_place, lt_tells}
use Rattle.route_app.proofs.Wiring.{end_is}

apart : (a b : SwitchPort) → a ≢ b → is_same_port a b ≡ false
apart a b o = elim (same_tells a b) [ inl s ↦ absurd (o s.1) | inr n ↦ n.0 ]

-- what joins those that are down changes no other port
pub down_with : (down : List SwitchPort) (at x : SwitchPort) → at ≢ x → is_link_down (with_known_port down at) x ≡ is_link_down down x
down_with [] at x o = rw (apart at x o) refl
down_with (p ∷ down) at x o = by_order (is_port_before p at) (is_same_port p at) (down_with down at x o)
  where
    by_order : (c d : Bool) → is_link_down (with_known_port down at) x ≡ is_link_down down x → is_link_down (if c then p ∷ with_known_port down at else if d then p ∷ down else at ∷ p ∷ down) x ≡ is_link_down (p ∷ down) x
    by_order true d h = ap (λ b. is_same_port p x || b) h
    by_order false true h = refl
    by_order false false h = rw (apart at x o) refl

-- neither does what leaves them
down_filter : (test : SwitchPort → Bool) (down : List SwitchPort) (x : SwitchPort) → test x ≡ true → is_link_down (filter test down) x ≡ is_link_down down x
down_filter test [] x t = refl
down_filter test (p ∷ down) x t = by_test (test p) refl (down_filter test down x t)
  where
    by_test : (b : Bool) → test p ≡ b → is_link_down (filter test down) x ≡ is_link_down down x → is_link_down (if b then p ∷ filter test down else filter test down) x ≡ (is_same_port p x || is_link_down down x)
    by_test true e h = ap (λ b. is_same_port p x || b) h
    by_test false e h = elim (same_tells p x) [ inl s ↦ absurd (let f : test p ≡ test x = ap test s.1 in cc) | inr o ↦ rw o.0 h ]

pub down_without : (down : List SwitchPort) (at x : SwitchPort) → at ≢ x → is_link_down (without_port down at) x ≡ is_link_down down x
down_without down at x o = down_filter (λ p. not (is_same_port p at)) down x (rw (apart x at (λ e. o (sym e))) refl)

pub down_elsewhere : (down : List SwitchPort) (switch : ℕ) (x : SwitchPort) → x.switch ≢ switch → is_link_down (without_switch down switch) x ≡ is_link_down down x
down_elsewhere down switch x o = down_filter (λ p. not (nat_eq p.switch switch)) down x (elim (eqb_tells x.switch switch) [ inl s ↦ absurd (o s.1) | inr n ↦ rw n.0 refl ])

-- the links at the ports of a switch, and at one more
module _ (wires : Wires) (down : List SwitchPort) (table : List (Option SwitchPort)) (switch : ℕ) where
  pub no_ports : relinked_ports wires down table switch 0 ≡ table
  unfolding relinked_ports
  no_ports = refl

  pub ports_more : (port : ℕ) (old new : List (Option SwitchPort)) → old ≡ relinked_ports wires down table switch port → new ≡ relinked wires down old (record { switch = switch; port = port }) →
      new ≡ relinked_ports wires down table switch (port + 1)
  unfolding relinked_ports
  ports_more port old new so made =
      let one : port + 1 ≡ suc port = omega arith in
      let next : relinked_ports wires down table switch (port + 1) ≡ relinked_ports wires down table switch (suc port) = ap (λ n. relinked_ports wires down table switch n) one in
      made ∙ ap (λ (t : List (Option SwitchPort)). relinked wires down t (record { switch = switch; port = port })) so ∙ sym next

-- a port that leads elsewhere
module _ (table : List (Option SwitchPort)) (at : SwitchPort) (end : Option SwitchPort) where
  led-len : length (led table at end) ≡ length table
  led-len = by_room (nat_lt (place at) (length table))
    where
      by_room : (b : Bool) → length (if b then set table (place at) end else table) ≡ length table
      by_room true = length-set table (place at) end
      by_room false = refl

  led-here : at.port < 49 → place at < length table → get_or (row (led table at end) at.switch) at.port None ≡ end
  led-here low there = row-at (led table at end) at.switch at.port low ∙ elim (lt_tells (place at) (length table)) [
    | inl l ↦ rw l.0 (get_or-set_same table (place at) end None there)
    | inr g ↦ absurd (let h = g.1 in omega (arith, h, there))
  ]

  led-other : (x : SwitchPort) → at.port < 49 → at ≢ x → get_or (row (led table at end) x.switch) x.port None ≡ get_or (row table x.switch) x.port None
  led-other x low o = elim (cases_lt x.port 49) [
    | inl h ↦ row-at (led table at end) x.switch x.port h ∙ by_room (nat_lt (place at) (length table)) h ∙ sym (row-at table x.switch x.port h)
    | inr h ↦ row-past (led table at end) x.switch x.port h ∙ sym (row-past table x.switch x.port h)
  ]
    where
      by_room : (b : Bool) → x.port < 49 → get_or (if b then set table (place at) end else table) (place x) None ≡ get_or table (place x) None
      by_room true h = get_or-set_other table (place at) (place x) end None (λ e. o (one_place at x low h (sym e)))
      by_room false h = refl

-- with no port down all links are up
pub ends_up : (setup : Setup) (ends : List (Option SwitchPort)) → IsEnds setup ends → IsUpTable setup [] ends
unfolding over_known_link
ends_up setup ends known = record { len = known.len; leads = λ at. known.leads at ∙ by_end at (other_end setup.links at) }
  where
    by_end : (at : SwitchPort) (o : Option SwitchPort) → o ≡ if_up [] at o
    by_end at None = refl
    by_end at (Some end) = refl

module _ (setup : Setup) (wires : Wires) (w : IsWires setup wires) (down : List SwitchPort) where
  -- a table says of a port where its link leads, if it is up
  abbrev IsRight : List (Option SwitchPort) → SwitchPort → Type 0
  IsRight table x = get_or (row table x.switch) x.port None ≡ over_known_link setup down x

  over_is : (at : SwitchPort) (o : Option SwitchPort) → other_end setup.links at ≡ o → over_known_link setup down at ≡ if_up down at o
  unfolding over_known_link
  over_is at o e = ap (λ x. if_up down at x) e

  module _ (table : List (Option SwitchPort)) (long : length table ≡ 49 * length setup.ports) where
    module _ (at end : SwitchPort) (link : other_end setup.links at ≡ Some end) where
      here : (at.switch < length setup.ports) × (at.port < 49)
      here = let b = port_bounds setup w.is at (are_ports setup setup.links w.is.links at end link).0 in let low = b.3 in (b.0, omega (arith, low))

      there : (end.switch < length setup.ports) × (end.port < 49)
      there = let b = port_bounds setup w.is end (are_ports setup setup.links w.is.links at end link).1 in let low = b.3 in (b.0, omega (arith, low))

      back : other_end setup.links end ≡ Some at
      back = other_back setup.links w.is.apart at end link

      right_end : IsRight (with_link down table at (Some end)) end
      right_end =
          let s = there.0 in
          let p = there.1 in
          let l = led-len table at (if_up down at (Some end)) in
          led-here (led table at (if_up down at (Some end))) end (if_up down end (Some at)) there.1 (omega (arith, s, p, l, long)) ∙ sym (over_is end (Some at) back)

      right_at : IsRight (with_link down table at (Some end)) at
      right_at = elim (same_tells end at) [
        | inl s ↦ subst (λ (x : SwitchPort). IsRight (with_link down table at (Some end)) x) s.1 right_end
        | inr o ↦
            let s = here.0 in
            let p = here.1 in
            led-other (led table at (if_up down at (Some end))) end (if_up down end (Some at)) at there.1 o.1
            ∙ led-here table at (if_up down at (Some end)) here.1 (omega (arith, s, p, long)) ∙ sym (over_is at (Some end) link)
      ]

      stays_right : (x : SwitchPort) → IsRight table x → IsRight (with_link down table at (Some end)) x
      stays_right x h = elim (same_tells end x) [
        | inl s ↦ subst (λ (y : SwitchPort). IsRight (with_link down table at (Some end)) y) s.1 right_end
        | inr o ↦ elim (same_tells at x) [
          | inl s ↦ subst (λ (y : SwitchPort). IsRight (with_link down table at (Some end)) y) s.1 right_at
          | inr n ↦ led-other (led table at (if_up down at (Some end))) end (if_up down end (Some at)) x there.1 o.1 ∙ led-other table at (if_up down at (Some end)) x here.1 n.1 ∙ h
        ]
      ]

    module _ (at : SwitchPort) where
      relinked-len : length (relinked wires down table at) ≡ length table
      relinked-len = by_end (end_over wires at)
        where
          by_end : (o : Option SwitchPort) → length (with_link down table at o) ≡ length table
          by_end None = refl
          by_end (Some end) = led-len (led table at (if_up down at (Some end))) end (if_up down end (Some at)) ∙ led-len table at (if_up down at (Some end))

      keeps : (x : SwitchPort) → IsRight table x → IsRight (relinked wires down table at) x
      keeps x h = by_end (end_over wires at) (sym (end_is setup wires w at))
        where
          by_end : (o : Option SwitchPort) → other_end setup.links at ≡ o → IsRight (with_link down table at o) x
          by_end None e = h
          by_end (Some end) e = stays_right at end e x h

      makes : (end : SwitchPort) → other_end setup.links at ≡ Some end → IsRight (relinked wires down table at) at × IsRight (relinked wires down table at) end
      makes end link =
          subst (λ o. IsRight (with_link down table at o) at × IsRight (with_link down table at o) end) (sym (end_is setup wires w at ∙ link)) (right_at at end link, right_end at end link)

  -- the ports of a switch
  module _ (table : List (Option SwitchPort)) (long : length table ≡ 49 * length setup.ports) (switch : ℕ) where
    ports-len : (n : ℕ) → length (relinked_ports wires down table switch n) ≡ 49 * length setup.ports
    unfolding relinked_ports
    ports-len zero = long
    ports-len (suc n) = relinked-len (relinked_ports wires down table switch n) (ports-len n) (record { switch = switch; port = n }) ∙ ports-len n

    ports_keep : (n : ℕ) (x : SwitchPort) → IsRight table x → IsRight (relinked_ports wires down table switch n) x
    unfolding relinked_ports
    ports_keep zero x h = h
    ports_keep (suc n) x h = keeps (relinked_ports wires down table switch n) (ports-len n) (record { switch = switch; port = n }) x (ports_keep n x h)

    ports_make : (n port : ℕ) (end : SwitchPort) → port < n → other_end setup.links (record { switch = switch; port = port }) ≡ Some end →
        IsRight (relinked_ports wires down table switch n) (record { switch = switch; port = port }) × IsRight (relinked_ports wires down table switch n) end
    unfolding relinked_ports
    ports_make zero port end h link = absurd (omega arith)
    ports_make (suc n) port end h link = elim (eqb_tells n port) [
      | inl s ↦
          subst (λ k. IsRight (relinked wires down (relinked_ports wires down table switch n) (record { switch = switch; port = k })) (record { switch = switch; port = port })
          × IsRight (relinked wires down (relinked_ports wires down table switch n) (record { switch = switch; port = k })) end) (sym s.1)
          (makes (relinked_ports wires down table switch n) (ports-len n) (record { switch = switch; port = port }) end link)
      | inr o ↦
          let ne = o.1 in
          let old = ports_make n port end (omega (arith, ne)) link in
          let next = keeps (relinked_ports wires down table switch n) (ports-len n) (record { switch = switch; port = n }) in
          (next (record { switch = switch; port = port }) old.0, next end old.1)
    ]

  module _ (old : List SwitchPort) (table : List (Option SwitchPort)) (up : IsUpTable setup old table) where
    -- a port is right where neither it nor its end changed
    is_right : (x : SwitchPort) (o : Option SwitchPort) → other_end setup.links x ≡ o → ((end : SwitchPort) → o ≡ Some end → (is_link_down down x ≡ is_link_down old x) × (is_link_down down end ≡ is_link_down old end)) → IsRight table x
    unfolding over_known_link
    is_right x None e same = up.leads x ∙ (rw e refl)
    is_right x (Some end) e same = let s = same end refl in up.leads x ∙ (rw (e, s.0, s.1) refl)

    pub relinked_up : (at : SwitchPort) → ((x : SwitchPort) → at ≢ x → is_link_down down x ≡ is_link_down old x) → IsUpTable setup down (relinked wires down table at)
    relinked_up at others = record { len = relinked-len table up.len at ∙ up.len; leads = λ x. by_link x (other_end setup.links x) refl }
      where
        by_link : (x : SwitchPort) (o : Option SwitchPort) → other_end setup.links x ≡ o → IsRight (relinked wires down table at) x
        by_link x None e = keeps table up.len at x (is_right x None e (λ end h. absurd cc))
        by_link x (Some y) e = elim (same_tells at x) [
          | inl s ↦ subst (λ (z : SwitchPort). IsRight (relinked wires down table at) z) s.1 (makes table up.len at y (subst (λ (z : SwitchPort). other_end setup.links z ≡ Some y) (sym s.1) e)).0
          | inr o ↦ elim (same_tells at y) [
            | inl s ↦ (makes table up.len at x (subst (λ (z : SwitchPort). other_end setup.links z ≡ Some x) (sym s.1) (other_back setup.links w.is.apart x y e))).1
            | inr p ↦ keeps table up.len at x (is_right x (Some y) e (λ end h. let same : y ≡ end = cc in (others x o.1, subst (λ (z : SwitchPort). is_link_down down z ≡ is_link_down old z) same (others y p.1))))
          ]
        ]

    pub ports_up : (switch : ℕ) → ((x : SwitchPort) → x.switch ≢ switch → is_link_down down x ≡ is_link_down old x) → IsUpTable setup down (relinked_ports wires down table switch 49)
    ports_up switch others = record { len = ports-len table up.len switch 49; leads = λ x. by_link x (other_end setup.links x) refl }
      where
        -- both ends of a link at the switch
        made : (x y : SwitchPort) → other_end setup.links x ≡ Some y → x.switch ≡ switch → IsRight (relinked_ports wires down table switch 49) x × IsRight (relinked_ports wires down table switch 49) y
        made x y link s =
            subst (λ k. IsRight (relinked_ports wires down table k 49) x × IsRight (relinked_ports wires down table k 49) y) s
            (ports_make table up.len x.switch 49 x.port y (here table up.len x y link).1 link)

        by_link : (x : SwitchPort) (o : Option SwitchPort) → other_end setup.links x ≡ o → IsRight (relinked_ports wires down table switch 49) x
        by_link x None e = ports_keep table up.len switch 49 x (is_right x None e (λ end h. absurd cc))
        by_link x (Some y) e = elim (eqb_tells x.switch switch) [
          | inl s ↦ (made x y e s.1).0
          | inr o ↦ elim (eqb_tells y.switch switch) [
            | inl s ↦ (made y x (other_back setup.links w.is.apart x y e) s.1).1
            | inr p ↦ ports_keep table up.len switch 49 x (is_right x (Some y) e (λ end h. let same : y ≡ end = cc in (others x o.1, subst (λ (z : SwitchPort). is_link_down down z ≡ is_link_down old z) same (others y p.1))))
          ]
        ]

-- An address stands once, and ports that are down ascend, whatever happens.
use Rattle.std.proofs.Common.{◌≡◌, ◌≢◌, ◌<◌, ℕ, Bool, true, false, List, [], ◌∷◌, filter, Option, Some, None, refl, sym, subst, inl, inr, ◌⊎◌, arith}
use Rattle.std.specs.Prelude.{nat_eq, nat_lt, not, ◌&&◌, ◌||◌, if◌then◌else◌}
use Rattle.std.proofs.lemmas.Bool.{cases_lt, lt-ltb, ltb-true, eqb-true, eq-eqb, and_parts}
use Rattle.std.proofs.lemmas.Bool.Decides.{eqb_tells}
use Rattle.of_types.specs.declared.message.Happening.TheVariants as happening
use Rattle.of_types.specs.Header.{number_at}
use Rattle.of_types.specs.Lives.{is_switch_up}
use Rattle.app_core.specs.declared.host.Host.{Host}
use Rattle.app_core.specs.declared.switch_port.SwitchPort.{SwitchPort}
use Rattle.app_core.specs.Learning.{is_single}
use Rattle.app_core.specs.Routes.{is_same_port, is_edge}
use Rattle.app_core.specs.Routing.{host_place_of, placed_host, with_place, is_port_before, with_known_port}
use Rattle.route_app.specs.Orderly.{AreHostsApart, AreAfter, ArePortsAscending, IsRoutingOrderly, StaysOrderly}
use Rattle.app_core.proofs.Linked.{one_port, same_tells}

-- addresses
placed_other : (hosts : List Host) (a b : ℕ) (at : SwitchPort) → a ≢ b → host_place_of hosts b ≡ None → host_place_of (placed_host hosts a at) b ≡ None
placed_other [] a b at o e = elim (eqb_tells a b) [ inl s ↦ absurd (o s.1) | inr x ↦ rw x.0 refl ]
placed_other (h ∷ hosts) a b at o e = by_same (nat_eq h.address a) (nat_eq h.address b) refl refl e (λ f. placed_other hosts a b at o f)
  where
    by_same : (c d : Bool) → nat_eq h.address a ≡ c → nat_eq h.address b ≡ d → (if d then Some (record { switch = h.switch; port = h.port }) else host_place_of hosts b) ≡ None →
        (host_place_of hosts b ≡ None → host_place_of (placed_host hosts a at) b ≡ None) →
        host_place_of (if c then record { switch = at.switch; address = a; port = at.port } ∷ hosts else h ∷ placed_host hosts a at) b ≡ None
    by_same c true x y f more = absurd cc
    by_same true false x y f more = elim (eqb_tells a b) [ inl s ↦ absurd (o s.1) | inr z ↦ rw z.0 f ]
    by_same false false x y f more = rw y (more f)

placed_separate : (hosts : List Host) (a : ℕ) (at : SwitchPort) → AreHostsApart hosts → AreHostsApart (placed_host hosts a at)
placed_separate [] a at s = (refl, tt)
placed_separate (h ∷ hosts) a at s = by_same (nat_eq h.address a) refl (placed_separate hosts a at s.1)
  where
    by_same : (c : Bool) → nat_eq h.address a ≡ c → AreHostsApart (placed_host hosts a at) → AreHostsApart (if c then record { switch = at.switch; address = a; port = at.port } ∷ hosts else h ∷ placed_host hosts a at)
    by_same true x more = (subst (λ b. host_place_of hosts b ≡ None) (eqb-true h.address a x) s.0, s.1)
    by_same false x more = (placed_other hosts a h.address at (λ e. (let y = eq-eqb h.address a (sym e) in cc)) s.0, more)

filter_none : (test : Host → Bool) (hosts : List Host) (b : ℕ) → host_place_of hosts b ≡ None → host_place_of (filter test hosts) b ≡ None
filter_none test [] b e = refl
filter_none test (h ∷ hosts) b e = by_tests (test h) (nat_eq h.address b) refl e (λ f. filter_none test hosts b f)
  where
    by_tests : (c d : Bool) → nat_eq h.address b ≡ d → (if d then Some (record { switch = h.switch; port = h.port }) else host_place_of hosts b) ≡ None → (host_place_of hosts b ≡ None → host_place_of (filter test hosts) b ≡ None) →
        host_place_of (if c then h ∷ filter test hosts else filter test hosts) b ≡ None
    by_tests c true y f more = absurd cc
    by_tests true false y f more = rw y (more f)
    by_tests false false y f more = more f

filter_separate : (test : Host → Bool) (hosts : List Host) → AreHostsApart hosts → AreHostsApart (filter test hosts)
filter_separate test [] s = tt
filter_separate test (h ∷ hosts) s = by_test (test h) (filter_separate test hosts s.1)
  where
    by_test : (c : Bool) → AreHostsApart (filter test hosts) → AreHostsApart (if c then h ∷ filter test hosts else filter test hosts)
    by_test true more = (filter_none test hosts h.address s.0, more)
    by_test false more = more

-- ports
abbrev Before : SwitchPort → SwitchPort → Type 0
Before a b = (a.switch < b.switch) ⊎ ((a.switch ≡ b.switch) × (a.port < b.port))

is_before_says : (a b : SwitchPort) → is_port_before a b ≡ true → Before a b
is_before_says a b e = by_switch (nat_lt a.switch b.switch) refl e
  where
    by_switch : (c : Bool) → nat_lt a.switch b.switch ≡ c → (c || (nat_eq a.switch b.switch && nat_lt a.port b.port)) ≡ true → Before a b
    by_switch true x f = inl (ltb-true a.switch b.switch x)
    by_switch false x f = let p = and_parts (nat_eq a.switch b.switch) (nat_lt a.port b.port) f in inr (eqb-true a.switch b.switch p.0, ltb-true a.port b.port p.1)

before_is : (a b : SwitchPort) → Before a b → is_port_before a b ≡ true
before_is a b (inl s) = rw (lt-ltb a.switch b.switch s) refl
before_is a b (inr p) = by_switch (nat_lt a.switch b.switch)
  where
    by_switch : (c : Bool) → (c || (nat_eq a.switch b.switch && nat_lt a.port b.port)) ≡ true
    by_switch true = refl
    by_switch false = rw (eq-eqb a.switch b.switch p.0, lt-ltb a.port b.port p.1) refl

before_through : (a b c : SwitchPort) → Before a b → Before b c → Before a c
before_through a b c (inl s) (inl t) = inl (omega arith)
before_through a b c (inl s) (inr q) = let e = q.0 in inl (omega arith)
before_through a b c (inr p) (inl t) = let e = p.0 in inl (omega arith)
before_through a b c (inr p) (inr q) = let e = p.0 in let f = q.0 in let l = p.1 in let m = q.1 in inr (omega arith, omega arith)

cases_switch : (m n : ℕ) → (m < n) ⊎ ((n < m) ⊎ (m ≡ n))
cases_switch m n = elim (cases_lt m n) [ inl l ↦ inl l | inr g ↦ elim (cases_lt n m) [ inl h ↦ inr (inl h) | inr k ↦ inr (inr (omega arith)) ] ]

-- of two ports that are not the same one comes before the other
turns : (a b : SwitchPort) → is_port_before a b ≡ false → is_same_port a b ≡ false → Before b a
turns a b x y = elim (cases_switch a.switch b.switch) [
  | inl l ↦ absurd (let t = before_is a b (inl l) in cc)
  | inr r ↦ elim r [
    | inl g ↦ inl g
    | inr e ↦ elim (cases_switch a.port b.port) [
      | inl l ↦ absurd (let t = before_is a b (inr (e, l)) in cc)
      | inr rest ↦ elim rest [
        | inl g ↦ inr (sym e, g)
        | inr f ↦ absurd (elim (same_tells a b) [ inl s ↦ (let t = s.0 in cc) | inr o ↦ o.1 (one_port a b e f) ])
      ]
    ]
  ]
]

after_through : (a b : SwitchPort) (ports : List SwitchPort) → Before a b → AreAfter b ports → AreAfter a ports
after_through a b [] h s = tt
after_through a b (q ∷ ports) h s = (before_is a q (before_through a b q h (is_before_says b q s.0)), after_through a b ports h s.1)

after_with : (a : SwitchPort) (ports : List SwitchPort) (at : SwitchPort) → is_port_before a at ≡ true → AreAfter a ports → AreAfter a (with_known_port ports at)
after_with a [] at h s = (h, tt)
after_with a (p ∷ ports) at h s = by_order (is_port_before p at) (is_same_port p at) (after_with a ports at h s.1)
  where
    by_order : (c d : Bool) → AreAfter a (with_known_port ports at) → AreAfter a (if c then p ∷ with_known_port ports at else if d then p ∷ ports else at ∷ p ∷ ports)
    by_order true d more = (s.0, more)
    by_order false true more = s
    by_order false false more = (h, s)

ascend_with : (ports : List SwitchPort) (at : SwitchPort) → ArePortsAscending ports → ArePortsAscending (with_known_port ports at)
ascend_with [] at s = (tt, tt)
ascend_with (p ∷ ports) at s = by_order (is_port_before p at) (is_same_port p at) refl refl (ascend_with ports at s.1)
  where
    by_order : (c d : Bool) → is_port_before p at ≡ c → is_same_port p at ≡ d → ArePortsAscending (with_known_port ports at) → ArePortsAscending (if c then p ∷ with_known_port ports at else if d then p ∷ ports else at ∷ p ∷ ports)
    by_order true d x y more = (after_with p ports at x s.0, more)
    by_order false true x y more = s
    by_order false false x y more = let b = turns p at x y in ((before_is at p b, after_through at p ports b s.0), s)

after_filter : (test : SwitchPort → Bool) (a : SwitchPort) (ports : List SwitchPort) → AreAfter a ports → AreAfter a (filter test ports)
after_filter test a [] s = tt
after_filter test a (p ∷ ports) s = by_test (test p) (after_filter test a ports s.1)
  where
    by_test : (c : Bool) → AreAfter a (filter test ports) → AreAfter a (if c then p ∷ filter test ports else filter test ports)
    by_test true more = (s.0, more)
    by_test false more = more

ascend_filter : (test : SwitchPort → Bool) (ports : List SwitchPort) → ArePortsAscending ports → ArePortsAscending (filter test ports)
ascend_filter test [] s = tt
ascend_filter test (p ∷ ports) s = by_test (test p) (ascend_filter test ports s.1)
  where
    by_test : (c : Bool) → ArePortsAscending (filter test ports) → ArePortsAscending (if c then p ∷ filter test ports else filter test ports)
    by_test true more = (after_filter test p ports s.0, more)
    by_test false more = more

pub stays_orderly : StaysOrderly
stays_orderly setup r switch (happening.PacketIn p) o = record { hosts = by_source (number_at 6 6 p.payload); down = o.down }
  where
    by_source : (s : Option ℕ) → AreHostsApart (with_place setup r.hosts (record { switch = switch; port = p.in_port }) s)
    by_source None = o.hosts
    by_source (Some address) = by_edge (is_edge setup (record { switch = switch; port = p.in_port }) && is_single address)
      where
        by_edge : (b : Bool) → AreHostsApart (if b then placed_host r.hosts address (record { switch = switch; port = p.in_port }) else r.hosts)
        by_edge true = placed_separate r.hosts address (record { switch = switch; port = p.in_port }) o.hosts
        by_edge false = o.hosts
stays_orderly setup r switch (happening.PortStatus p) o = by_change (is_switch_up (happening.PortStatus p)) p.up
  where
    at : SwitchPort
    at = record { switch = switch; port = p.port }

    by_change : (a b : Bool) → IsRoutingOrderly (if a then record { hosts = filter (λ h. not (nat_eq h.switch switch)) r.hosts; down = filter (λ q. not (nat_eq q.switch switch)) r.down }
        else if b then record { hosts = r.hosts; down = filter (λ q. not (is_same_port q (record { switch = switch; port = p.port }))) r.down }
        else record { hosts = filter (λ h. not (nat_eq h.switch switch && nat_eq h.port p.port)) r.hosts; down = with_known_port r.down (record { switch = switch; port = p.port }) })
    by_change true b = record { hosts = filter_separate (λ h. not (nat_eq h.switch switch)) r.hosts o.hosts; down = ascend_filter (λ q. not (nat_eq q.switch switch)) r.down o.down }
    by_change false true = record { hosts = o.hosts; down = ascend_filter (λ q. not (is_same_port q (record { switch = switch; port = p.port }))) r.down o.down }
    by_change false false = record { hosts = filter_separate (λ h. not (nat_eq h.switch switch && nat_eq h.port p.port)) r.hosts o.hosts; down = ascend_with r.down (record { switch = switch; port = p.port }) o.down }
stays_orderly setup r switch (happening.FlowRemoved f) o = o

-- Interfaces and packets of a list, one more.
use Rattle.std.proofs.Common.{add-one, ◌≡◌, ◌≤◌, ◌<◌, ℕ, ◌+◌, Bool, cond, List, ◌∷◌, ◌++◌, length, drop, get_or, refl, sym, append_assoc}
use Rattle.std.proofs.Math.Seq.{drop-cons}
use Rattle.std.proofs.lemmas.List.{append-nil, drop_all}
use Rattle.capture.proofs.Noted.{drop_here}
use Rattle.capture_laws.specs.declared.shapes.Captured.{Captured}
use Rattle.capture_laws.specs.declared.shapes.Port.{Port}
use Rattle.capture_laws.specs.Blocks.{interface_block}
use Rattle.capture_laws.specs.Interfaces.{interfaces, packet, packets_of, interface_place_of, port_name, ports_from, same_port, with_packet_port}

-- the first of those that are left
drop_at_place : {A : Type 0} (xs : List A) (i : ℕ) (d : A) → i < length xs → drop i xs ≡ get_or xs i d ∷ drop (i + 1) xs
drop_at_place xs i d within = rw (add-one i) (drop-cons xs i d within)

pub place_here : (p q : Port) (ports : List Port) (i : ℕ) (b : Bool) → i < length ports → same_port p (get_or ports i q) ≡ b →
    interface_place_of p (drop i ports) ≡ cond b 0 (1 + interface_place_of p (drop (i + 1) ports))
unfolding interface_place_of
place_here p q ports i b within test = rw (drop_at_place ports i q within, test) refl

pub place_none : (p : Port) (ports : List Port) (i : ℕ) → length ports ≤ i → interface_place_of p (drop i ports) ≡ 0
unfolding interface_place_of
place_none p ports i over = rw (drop_all i ports over) refl

pub ports_step : (packets : List Captured) (i : ℕ) (p : Captured) (ports : List Port) → i < length packets → p ≡ get_or packets i p →
    ports_from (drop i packets) ports ≡ ports_from (drop (i + 1) packets) (with_packet_port p.way ports)
unfolding ports_from
ports_step packets i p ports within is = rw (drop_here packets i p within is) refl

pub ports_end : (packets : List Captured) (i : ℕ) (ports : List Port) → length packets ≤ i → ports_from (drop i packets) ports ≡ ports
unfolding ports_from
ports_end packets i ports over = rw (drop_all i packets over) refl

pub interfaces_step : (out : List ℕ) (ports : List Port) (i : ℕ) (d : Port) → i < length ports →
    out ++ interfaces (drop i ports) ≡ (out ++ interface_block (port_name (get_or ports i d))) ++ interfaces (drop (i + 1) ports)
unfolding interfaces
interfaces_step out ports i d within =
    rw (drop_at_place ports i d within) (sym (append_assoc out (interface_block (port_name (get_or ports i d))) (interfaces (drop (i + 1) ports))))

pub interfaces_end : (out : List ℕ) (ports : List Port) (i : ℕ) → length ports ≤ i → out ++ interfaces (drop i ports) ≡ out
unfolding interfaces
interfaces_end out ports i over = rw (drop_all i ports over) (append-nil out)

pub packets_step : (out : List ℕ) (ports : List Port) (packets : List Captured) (i : ℕ) (p : Captured) → i < length packets → p ≡ get_or packets i p →
    out ++ packets_of ports (drop i packets) ≡ (out ++ packet ports p) ++ packets_of ports (drop (i + 1) packets)
unfolding packets_of
packets_step out ports packets i p within is =
    rw (drop_here packets i p within is) (sym (append_assoc out (packet ports p) (packets_of ports (drop (i + 1) packets))))

pub packets_end : (out : List ℕ) (ports : List Port) (packets : List Captured) (i : ℕ) → length packets ≤ i → out ++ packets_of ports (drop i packets) ≡ out
unfolding packets_of
packets_end out ports packets i over = rw (drop_all i packets over) (append-nil out)

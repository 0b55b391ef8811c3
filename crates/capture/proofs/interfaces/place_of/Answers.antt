use Rattle.std.proofs.Common.{◌≡◌, ◌+◌, arith, drop, false, sym, true, ◌∙◌}
use Rattle.capture_laws.specs.Interfaces.{interface_place_of}
use Rattle.capture.proofs.Placed.{place_here, place_none}
use Rattle.capture.proofs.interfaces.place_of.Goals as goal

pub ports-preserved : goal.ports-preserved
ports-preserved c =
    let inv : c.ports.place + interface_place_of c.args.port (drop c.ports.place c.args.ports.now) ≡ interface_place_of c.args.port c.args.ports.now = c.ports.invariant in
    let step : interface_place_of c.args.port (drop c.ports.place c.args.ports.now) ≡ 1 + interface_place_of c.args.port (drop (c.ports.place + 1) c.args.ports.now) =
    place_here c.args.port (record { switch = 0; port = 0 }) c.args.ports.now c.ports.place false c.ports-test.true (sym c.is_same.ensures ∙ c.if-is_same.false) in
    omega (arith, inv, step)

pub returns-then-is_same-clause-exact : goal.returns-then-is_same-clause-exact
returns-then-is_same-clause-exact c =
    let inv : c.ports.place + interface_place_of c.args.port (drop c.ports.place c.args.ports.now) ≡ interface_place_of c.args.port c.args.ports.now = c.ports.invariant in
    let step : interface_place_of c.args.port (drop c.ports.place c.args.ports.now) ≡ 0 =
    place_here c.args.port (record { switch = 0; port = 0 }) c.args.ports.now c.ports.place true c.ports-test.true (sym c.is_same.ensures ∙ c.if-is_same.true) in
    omega (arith, inv, step)

pub returns-clause-exact : goal.returns-clause-exact
returns-clause-exact c =
    let inv : c.ports.place + interface_place_of c.args.port (drop c.ports.place c.args.ports.now) ≡ interface_place_of c.args.port c.args.ports.now = c.ports.invariant in
    let none : interface_place_of c.args.port (drop c.ports.place c.args.ports.now) ≡ 0 = place_none c.args.port c.args.ports.now c.ports.place c.ports-test.false in
    omega (arith, inv, none, c.ports-test.false, c.ports.auto.place-end)

-- A scenario within its limits has a setup, and steps of its actors.
use Rattle.std.proofs.Common.{rules, suc, zero, ◌≡◌, ◌<◌, ◌≤◌, ◌+◌, ◌-◌, ◌*◌, ◌/◌, ◌%◌, ◌^◌, ◌&&◌, ◌||◌, ◌==◌, nat_lt, nat_le, not, ℕ, Bool, true, false, List, [], ◌∷◌, ◌++◌, map, length, Option, Some, None, Result, Ok, Err, refl, sym, subst, ◌∙◌, replicate, if◌then◌else◌, length-append, arith}
use Rattle.std.proofs.lemmas.Option.{slice_get-get_or}
use Rattle.std.specs.Prelude.{option_and_then, slice_index, IfOk, IfSome, Contains}
use Rattle.std.specs.List.{All, AllByRecursion, list_any, list_all, fold, flat_map, range_with_len}
use Rattle.std.proofs.lemmas.Bool.{and_parts}
use Rattle.std.proofs.Math.ListN.{length-replicate}
use Rattle.std.proofs.Math.Nat.{mod-add-div, mul-mod_right, mod-lt}
use Rattle.std.proofs.lemmas.List.Elements.{All-append}
use Rattle.of_types.specs.declared.setup.Link.{Link}
use Rattle.of_types.specs.declared.setup.Rule.{Rule}
use Rattle.of_types.specs.declared.setup.Setup.{Setup}
use Rattle.of_types.specs.Setups.{is_group, IsPort, IsAddressPrefix, IsRule, IsSetup, AreApart, ends_of}
use Rattle.journal.specs.declared.journal.Actor.{Actor}
use Rattle.journal.specs.declared.journal.Actor.TheVariants as actor
use Rattle.journal.specs.declared.journal.Local.TheVariants as local
use Rattle.journal.specs.declared.journal.Turn.{Turn}
use Rattle.journal.specs.declared.journal.Turn.TheVariants as turn
use Rattle.journal.specs.Actors.{IsActor}
use Rattle.journal.specs.Turns.{turn_actor}
use Rattle.journal.proofs.All.{all_append}
use Rattle.scenario.specs.declared.scenario.Fault.{Fault}
use Rattle.scenario.specs.declared.scenario.FaultKind.{FaultKind}
use Rattle.scenario.specs.declared.scenario.FaultKind.TheVariants.{Limit}
use Rattle.scenario.specs.declared.scenario.FaultPlace.{FaultPlace}
use Rattle.scenario.specs.declared.scenario.FaultPlace.TheVariants as place
use Rattle.scenario.specs.declared.scenario.Scenario.{Scenario}
use Rattle.scenario.specs.declared.scenario.ScenarioFault.{ScenarioFault}
use Rattle.scenario.specs.declared.written.Written.{Written}
use Rattle.scenario.specs.Faults.{◌>>=◌, found_at, each, each_alone}
use Rattle.scenario.specs.declared.limits.TheConstants.{MOST_PORTS, MOST_VIEW}
use Rattle.scenario.specs.declared.written.WrittenSwitch.{WrittenSwitch}
use Rattle.scenario.specs.declared.written.WrittenLink.{WrittenLink}
use Rattle.scenario.specs.declared.written.WrittenPrefix.{WrittenPrefix}
use Rattle.scenario.specs.declared.written.WrittenRule.{WrittenRule}
use Rattle.scenario.specs.declared.written.WrittenStep.{WrittenStep}
use Rattle.scenario.specs.declared.written.WrittenStep.TheVariants.{Frame, Port, Tick, Draw, Lose, Suspect, Crash, RestartController, RestartSwitch}
use Rattle.scenario.specs.declared.limits.Timed.{Timed}
use Rattle.scenario.specs.Generated.{frame_turn, last_crash, generated}
use Rattle.scenario.specs.Limits.{given, is_within, once, only_if, is_port_within, is_port_of, is_within_limits, prefix_within, turn_within, restarts_of, repeated_member, ports_within, link_within, rule_within}
use Rattle.scenario.proofs.Turns.{only_if_keeps, turn_is}
use Rattle.wires.specs.Wires.{is_taken}
use Rattle.wires.proofs.Apart.{same_end, same_end_sym, apart_link, free_is, not_true}
use Rattle.scenario.specs.Scenario.{GivesScenario, HasView, steps_within, setup_within, scenario_within, IsScenario}

bind_ok : {A B : Type 0} (r : Result A Fault) (next : A → Result B Fault) (y : B) → (r >>= next) ≡ Ok y → (x : A) × (r ≡ Ok x) × (next x ≡ Ok y)
bind_ok (Ok x) next y e = (x, refl, e)
bind_ok (Err fault) next y e = absurd cc

found_ok : {A : Type 0} (kind : FaultKind) (place : FaultPlace) (found : Option A) (x : A) → found_at kind place found ≡ Ok x → found ≡ Some x
found_ok kind place None x e = absurd cc
found_ok kind place (Some y) x e = cc

-- what each step keeps holds at the end
each_keeps : {A B : Type 0} (P : List B → Type 0) (kind : FaultKind) (place : ℕ → FaultPlace) (find : List B → A → Option B) →
    ((before : List B) (x : A) → P before → IfSome (find before x) (λ y. P (before ++ y ∷ []))) →
    (before : List B) (values : List A) → P before → IfOk (each kind place find before values) P
each_keeps P kind place find step before [] h = h
each_keeps P kind place find step before (x ∷ values) h = elim (find before x) as (λ found. IfSome found (λ y. P (before ++ y ∷ [])) → IfOk (found_at kind (place (length before)) found >>= (λ y. each kind place find (before ++ y ∷ []) values)) P) [
  | None ↦ λ _. tt
  | Some y ↦ λ kept. each_keeps P kind place find step (before ++ y ∷ []) values kept
] (step before x h)

one_more : {B : Type 0} (r : Result (List B) Fault) (n m k : ℕ) → n ≡ m + 1 → IfOk r (λ all. length all ≡ n + k) → IfOk r (λ all. length all ≡ m + suc k)
one_more (Ok all) n m k e h = omega (arith, e, h)
one_more (Err fault) n m k e h = tt

-- as many were found as there were
each_counts : {A B : Type 0} (kind : FaultKind) (place : ℕ → FaultPlace) (find : List B → A → Option B) (before : List B) (values : List A) →
    IfOk (each kind place find before values) (λ found. length found ≡ length before + length values)
each_counts kind place find before [] = omega arith
each_counts kind place find before (x ∷ values) = elim (find before x) as (λ found. IfOk (found_at kind (place (length before)) found >>= (λ y. each kind place find (before ++ y ∷ []) values)) (λ all. length all ≡ length before + suc (length values))) [
  | None ↦ tt
  | Some y ↦ one_more (each kind place find (before ++ y ∷ []) values) (length (before ++ y ∷ [])) (length before) (length values) (length-append before (y ∷ [])) (each_counts kind place find (before ++ y ∷ []) values)
]

-- what holds of an Ok holds of its value
at_ok : {B : Type 0} (P : B → Type 0) (r : Result B Fault) (y : B) → r ≡ Ok y → IfOk r P → P y
at_ok P r y e h = subst (λ (r : Result _ Fault). IfOk r P) e h

-- what is found behind a test
only_if_then : {A B : Type 0} (P : B → Type 0) (test : Bool) (x : A) (next : A → Option B) → (test ≡ true → IfSome (next x) P) → IfSome (option_and_then next (only_if test x)) P
only_if_then P true x next keeps = keeps refl
only_if_then P false x next keeps = tt

within_is : (low n high : ℕ) → is_within low n high ≡ true → (low ≤ n) × (n ≤ high)
within_is low n high e = search (rules, e)

-- ports
abbrev IsCount : ℕ → Type 0
IsCount count = (1 ≤ count) × (count ≤ 48)

one_count : (count : ℕ) → IsCount count → All IsCount (count ∷ [])
one_count count is zero d lt = is
one_count count is (suc k) d lt = absurd (omega arith)

ports_are : (before : List ℕ) (s : WrittenSwitch) → All IsCount before → IfSome (ports_within s) (λ count. All IsCount (before ++ count ∷ []))
ports_are before s h =
    only_if_keeps (λ count. All IsCount (before ++ count ∷ [])) (is_within 1 s.ports MOST_PORTS) s.ports
    (λ e. All-append IsCount before (s.ports ∷ []) h (one_count s.ports (within_is 1 s.ports MOST_PORTS e)))

-- wires between ports, whose ends stand once
record AreLinks (setup : Setup) (links : List Link) : Type 0 where
  pub between : AllByRecursion (λ l. IsPort setup l.switch l.port × IsPort setup l.peer l.peer_port) links
  pub apart : AreApart (ends_of links)

port_is : (setup : Setup) (switch port : ℕ) → is_port_within setup.ports switch port ≡ true → IsPort setup switch port
port_is setup switch port e =
    let there : switch < length setup.ports = search (rules, e) in
    let within : (1 ≤ port) × (port ≤ slice_index setup.ports switch) = search (rules, e) in
    (within.0, (slice_index setup.ports switch, slice_get-get_or setup.ports switch 0 there, within.1))

more_links : (setup : Setup) (before : List Link) (l : Link) → AreLinks setup before → IsPort setup l.switch l.port → IsPort setup l.peer l.peer_port →
    list_any (same_end (l.switch, l.port)) (ends_of before) ≡ false → list_any (same_end (l.peer, l.peer_port)) (ends_of before) ≡ false →
    same_end (l.switch, l.port) (l.peer, l.peer_port) ≡ false → AreLinks setup (before ++ l ∷ [])
more_links setup before l h one other free_one free_other two =
    record {
      between = all_append (λ l. IsPort setup l.switch l.port × IsPort setup l.peer l.peer_port) before (l ∷ []) h.between ((one, other), tt);
      apart = apart_link before l h.apart free_one free_other two;
    }

links_are : (setup : Setup) (before : List Link) (l : WrittenLink) → AreLinks setup before → IfSome (link_within setup.ports before l) (λ link. AreLinks setup (before ++ link ∷ []))
links_are setup before l h =
    let made : Link = record { switch = l.switch; port = l.port; peer = l.peer; peer_port = l.peer_port } in
    only_if_then (λ link. AreLinks setup (before ++ link ∷ [])) (is_port_within setup.ports l.switch l.port && is_port_within setup.ports l.peer l.peer_port && not (l.switch == l.peer && l.port == l.peer_port)) made
    (λ link. only_if (not (is_taken link.switch link.port before) && not (is_taken link.peer link.peer_port before)) link)
    (λ e. only_if_keeps (λ link. AreLinks setup (before ++ link ∷ [])) (not (is_taken l.switch l.port before) && not (is_taken l.peer l.peer_port before)) made
    (λ free. more_links setup before made h
    (port_is setup l.switch l.port (and_parts (is_port_within setup.ports l.switch l.port) (is_port_within setup.ports l.peer l.peer_port) (tests e).0).0)
    (port_is setup l.peer l.peer_port (and_parts (is_port_within setup.ports l.switch l.port) (is_port_within setup.ports l.peer l.peer_port) (tests e).0).1)
    (free_is l.switch l.port before (and_parts (not (is_taken l.switch l.port before)) (not (is_taken l.peer l.peer_port before)) free).0)
    (free_is l.peer l.peer_port before (and_parts (not (is_taken l.switch l.port before)) (not (is_taken l.peer l.peer_port before)) free).1)
    (same_end_sym (l.switch, l.port) (l.peer, l.peer_port) ∙ not_true (l.switch == l.peer && l.port == l.peer_port) (tests e).1)))
  where
    tests : is_port_within setup.ports l.switch l.port && is_port_within setup.ports l.peer l.peer_port && not (l.switch == l.peer && l.port == l.peer_port) ≡ true →
        (is_port_within setup.ports l.switch l.port && is_port_within setup.ports l.peer l.peer_port ≡ true) × (not (l.switch == l.peer && l.port == l.peer_port) ≡ true)
    tests e = and_parts (is_port_within setup.ports l.switch l.port && is_port_within setup.ports l.peer l.peer_port) (not (l.switch == l.peer && l.port == l.peer_port)) e

-- numbers
or_is : (x y : Bool) (P : Type 0) → (x || y) ≡ true → (x ≡ true → P) → (y ≡ true → P) → P
or_is true y P e one other = one refl
or_is false y P e one other = other e

number_is : (m n : ℕ) → (m == n) ≡ true → m ≡ n
number_is m n e = search (rules, e)

group_is : (n : ℕ) → is_group n ≡ true → Contains (1 ∷ 3 ∷ 5 ∷ 7 ∷ []) n
group_is n e =
    let P = Contains (1 ∷ 3 ∷ 5 ∷ 7 ∷ []) n in
    or_is (n == 1 || n == 3 || n == 5) (n == 7) P e
    (λ e. or_is (n == 1 || n == 3) (n == 5) P e
    (λ e. or_is (n == 1) (n == 3) P e (λ e. (0, omega arith, sym (number_is n 1 e))) (λ e. (1, omega arith, sym (number_is n 3 e))))
    (λ e. (2, omega arith, sym (number_is n 5 e))))
    (λ e. (3, omega arith, sym (number_is n 7 e)))

-- rules
whole_units : (n m : ℕ) → (n - n % m) % m ≡ 0
whole_units n m =
    let parts = mod-add-div n m in
    let left : n - n % m ≡ m * (n / m) = omega (arith, parts) in
    rw left (mul-mod_right m (n / m))

prefix_is : (p : WrittenPrefix) → IfSome (prefix_within p) IsAddressPrefix
prefix_is p =
    let address = fold (λ n byte. 256 * n + byte) 0 p.bytes in
    let all = list_all (λ byte. nat_le byte 255) p.bytes in
    only_if_keeps IsAddressPrefix (all && nat_le p.length 32) (record { address = address - address % 2 ^ (32 - p.length); length = p.length })
    (λ e. record { short = short (and_parts all (nat_le p.length 32) e).1; clean = whole_units address (2 ^ (32 - p.length)) })
  where
    short : nat_le p.length 32 ≡ true → p.length ≤ 32
    short e = search (rules, e)

-- what is found behind what is found
found_then : {A B : Type 0} (Q : A → Type 0) (P : B → Type 0) (found : Option A) (next : A → Option B) → IfSome found Q → ((x : A) → Q x → IfSome (next x) P) → IfSome (option_and_then next found) P
found_then Q P None next h keeps = tt
found_then Q P (Some x) next h keeps = keeps x h

proto_is : (proto : ℕ) → proto == 0 || proto == 6 || proto == 17 ≡ true → Contains (0 ∷ 6 ∷ 17 ∷ []) proto
proto_is proto e =
    or_is (proto == 0 || proto == 6) (proto == 17) (Contains (0 ∷ 6 ∷ 17 ∷ []) proto) e
    (λ e. or_is (proto == 0) (proto == 6) (Contains (0 ∷ 6 ∷ 17 ∷ []) proto) e (λ e. (0, omega arith, sym (number_is proto 0 e))) (λ e. (1, omega arith, sym (number_is proto 6 e))))
    (λ e. (2, omega arith, sym (number_is proto 17 e)))

portless_is : (proto : ℕ) (port : Option ℕ) → is_port_of proto port ≡ true → proto ≡ 0 → port ≡ None
portless_is proto None e none = refl
portless_is proto (Some port) e none = absurd (no_port (subst (λ p. is_port_of p (Some port) ≡ true) none e))
  where
    no_port : false ≡ true → ⊥
    no_port e = cc

rules_are : (before : List Rule) (r : WrittenRule) → AllByRecursion (λ r. IsRule r) before → IfSome (rule_within r) (λ rule. AllByRecursion (λ r. IsRule r) (before ++ rule ∷ []))
rules_are before r h =
    let All_so = λ (rule : Rule). AllByRecursion (λ r. IsRule r) (before ++ rule ∷ []) in
    let test = r.proto == 0 || r.proto == 6 || r.proto == 17 in
    found_then IsAddressPrefix All_so (prefix_within r.src) (λ src. option_and_then (λ dst. only_if (test && is_port_of r.proto r.port) (record { proto = r.proto; src = src; dst = dst; port = r.port })) (prefix_within r.dst)) (prefix_is r.src)
    (λ src is_src. found_then IsAddressPrefix All_so (prefix_within r.dst) (λ dst. only_if (test && is_port_of r.proto r.port) (record { proto = r.proto; src = src; dst = dst; port = r.port })) (prefix_is r.dst)
    (λ dst is_dst. only_if_keeps All_so (test && is_port_of r.proto r.port) (record { proto = r.proto; src = src; dst = dst; port = r.port })
    (λ e. all_append (λ r. IsRule r) before (record { proto = r.proto; src = src; dst = dst; port = r.port } ∷ []) h
    (record { proto = proto_is r.proto (and_parts test (is_port_of r.proto r.port) e).0; portless = portless_is r.proto r.port (and_parts test (is_port_of r.proto r.port) e).1; source = is_src; destination = is_dst }, tt))))

abbrev done_ok : {A : Type 0} → A → Result A Fault
done_ok x = Ok x

ok_is : {A : Type 0} (x y : A) → done_ok x ≡ done_ok y → x ≡ y
ok_is x y e = cc

-- steps
abbrev IsOf : Setup → Turn → Type 0
IsOf setup t = IsActor setup (turn_actor t)

-- of each step that is within its limits something is so: it is so of each turn
module _ (setup : Setup) (P : Turn → Type 0) (turn_has : (before : List Actor) (step : WrittenStep) → IfSome (turn_within setup.controllers setup.ports before step) (λ timed. P timed.turn)) where
  all_repeated : (t : Turn) (times : ℕ) → P t → AllByRecursion P (replicate times t)
  all_repeated t zero is = tt
  all_repeated t (suc times) is = (is, all_repeated t times is)

  all_steps : (done : List Timed) → AllByRecursion (λ timed. P timed.turn) done → AllByRecursion P (flat_map repeated_member done)
  all_steps [] h = tt
  all_steps (timed ∷ done) h = all_append P (repeated_member timed) (flat_map repeated_member done) (all_repeated timed.turn timed.times h.0) (all_steps done h.1)

  turns_are : (before : List Timed) (step : WrittenStep) → AllByRecursion (λ timed. P timed.turn) before →
      IfSome (turn_within setup.controllers setup.ports (restarts_of before) step) (λ timed. AllByRecursion (λ timed. P timed.turn) (before ++ timed ∷ []))
  turns_are before step h =
      one_turn (turn_within setup.controllers setup.ports (restarts_of before) step) (turn_has (restarts_of before) step)
    where
      one_turn : (found : Option Timed) → IfSome found (λ timed. P timed.turn) → IfSome found (λ timed. AllByRecursion (λ timed. P timed.turn) (before ++ timed ∷ []))
      one_turn None is = tt
      one_turn (Some timed) is = all_append (λ timed. P timed.turn) before (timed ∷ []) h (is, tt)

  steps_are : (steps : List WrittenStep) (turns : List Turn) → steps_within setup.controllers setup.ports steps ≡ Ok turns → AllByRecursion P turns
  unfolding steps_within
  steps_are steps turns e =
      let all = each Limit place.Step (λ before. turn_within setup.controllers setup.ports (restarts_of before)) [] steps in
      let b = bind_ok all (λ timed. Ok (flat_map repeated_member timed)) turns e in
      let kept = each_keeps (λ done. AllByRecursion (λ timed. P timed.turn) done) Limit place.Step (λ before. turn_within setup.controllers setup.ports (restarts_of before)) turns_are [] steps tt in
      subst (λ l. AllByRecursion P l) (ok_is _ _ b.2) (all_steps b.0 (at_ok (λ done. AllByRecursion (λ timed. P timed.turn) done) all b.0 b.1 kept))

turn_of : (setup : Setup) (before : List Actor) (step : WrittenStep) → IfSome (turn_within setup.controllers setup.ports before step) (λ timed. IsOf setup timed.turn)
turn_of setup before step = first (turn_within setup.controllers setup.ports before step) (turn_is setup before step)
  where
    first : (found : Option Timed) → IfSome found (λ timed. IsOf setup timed.turn × (1 ≤ timed.times)) → IfSome found (λ timed. IsOf setup timed.turn)
    first None is = tt
    first (Some timed) is = is.0

-- a suspicion names a view within the limit, and nothing else names one
no_view : (t : Turn) (times : ℕ) (test : Bool) → HasView t → IfSome {T = Timed} (only_if test (record { turn = t; times = times })) (λ timed. HasView timed.turn)
no_view t times true has = has
no_view t times false has = tt

no_view_given : (t : Turn) (times : ℕ) (outer test : Bool) → HasView t → IfSome {T = Timed} (given outer (only_if test (record { turn = t; times = times }))) (λ timed. HasView timed.turn)
no_view_given t times true test has = no_view t times test has
no_view_given t times false test has = tt

turn_view : (setup : Setup) (before : List Actor) (step : WrittenStep) → IfSome (turn_within setup.controllers setup.ports before step) (λ timed. HasView timed.turn)
turn_view setup before (Frame switch port bytes) = no_view _ 1 _ tt
turn_view setup before (Port switch port up) = no_view _ 1 _ tt
turn_view setup before (Tick a times) = no_view_given _ times _ _ tt
turn_view setup before (Draw a choice keep times) = no_view_given _ times _ _ tt
turn_view setup before (Lose a choice times) = no_view_given _ times _ _ tt
turn_view setup before (Suspect c view) = by_view (nat_lt c setup.controllers) (is_within 1 view MOST_VIEW) refl
  where
    by_view : (here within : Bool) → is_within 1 view MOST_VIEW ≡ within → IfSome (only_if (here && within) (once (actor.Controller c) (local.Suspect view))) (λ timed. HasView timed.turn)
    by_view true true is = search (rules, is)
    by_view true false is = tt
    by_view false within is = tt
turn_view setup before (Crash c) = no_view _ 1 _ tt
turn_view setup before (RestartController c) = no_view_given _ 1 _ _ tt
turn_view setup before (RestartSwitch s) = no_view_given _ 1 _ _ tt

turns_of : (setup : Setup) (steps : List WrittenStep) (turns : List Turn) → steps_within setup.controllers setup.ports steps ≡ Ok turns → AllByRecursion (IsOf setup) turns
turns_of setup steps turns e = steps_are setup (IsOf setup) (turn_of setup) steps turns e

views_of : (setup : Setup) (steps : List WrittenStep) (turns : List Turn) → steps_within setup.controllers setup.ports steps ≡ Ok turns → AllByRecursion HasView turns
views_of setup steps turns e = steps_are setup HasView (turn_view setup) steps turns e

-- the limits of a scenario as a whole
record IsSmall (w : Written) : Type 0 where
  pub group : Contains (1 ∷ 3 ∷ 5 ∷ 7 ∷ []) w.controllers
  pub some : 1 ≤ length w.switches
  pub few : length w.switches ≤ 64
  pub few_links : length w.links ≤ 1024
  pub few_rules : length w.deny ≤ 16

small_is : (w : Written) → is_within_limits w ≡ true → IsSmall w
small_is w e = record { group = group_is w.controllers (search (rules, e)); some = search (rules, e); few = search (rules, e); few_links = search (rules, e); few_rules = search (rules, e) }

keeps_then : {A B : Type 0} (P : B → Type 0) (r : Result A Fault) (next : A → Result B Fault) → ((x : A) → r ≡ Ok x → IfOk (next x) P) → IfOk (r >>= next) P
keeps_then P (Ok x) next keeps = keeps x refl
keeps_then P (Err fault) next keeps = tt

only_if_found : {A : Type 0} (test : Bool) (x y : A) → only_if test x ≡ Some y → (test ≡ true) × (x ≡ y)
only_if_found true x y e = (refl, cc)
only_if_found false x y e = absurd cc

module _ (w : Written) where
  abbrev behind_links : ℕ → List ℕ → List Link → Result Setup Fault
  behind_links controllers ports links =
      each_alone Limit place.Deny rule_within w.deny >>= (λ deny. Ok (record { controllers = controllers; ports = ports; links = links; deny = deny }))

  abbrev behind_ports : ℕ → List ℕ → Result Setup Fault
  behind_ports controllers ports = each Limit place.Link (link_within ports) [] w.links >>= behind_links controllers ports

  abbrev behind_top : ℕ → Result Setup Fault
  behind_top controllers = each_alone Limit place.Switch ports_within w.switches >>= behind_ports controllers

  setup_is : (controllers : ℕ) (ports : List ℕ) (links : List Link) (deny : List Rule) → IsSmall w → w.controllers ≡ controllers →
      each_alone Limit place.Switch ports_within w.switches ≡ Ok ports → each Limit place.Link (link_within ports) [] w.links ≡ Ok links →
      each_alone Limit place.Deny rule_within w.deny ≡ Ok deny → IsSetup (record { controllers = controllers; ports = ports; links = links; deny = deny })
  setup_is controllers ports links deny small same ports_e links_e deny_e =
      let setup : Setup = record { controllers = controllers; ports = ports; links = links; deny = deny } in
      let many_ports = at_ok (λ (found : List ℕ). length found ≡ 0 + length w.switches) (each_alone Limit place.Switch ports_within w.switches) ports ports_e (each_counts Limit place.Switch (λ before. ports_within) [] w.switches) in
      let many_links = at_ok (λ (found : List Link). length found ≡ 0 + length w.links) (each Limit place.Link (link_within ports) [] w.links) links links_e (each_counts Limit place.Link (link_within ports) [] w.links) in
      let many_rules = at_ok (λ (found : List Rule). length found ≡ 0 + length w.deny) (each_alone Limit place.Deny rule_within w.deny) deny deny_e (each_counts Limit place.Deny (λ before. rule_within) [] w.deny) in
      let some = small.some in
      let few = small.few in
      let few_links = small.few_links in
      let few_rules = small.few_rules in
      let are_links = at_ok (AreLinks setup) (each Limit place.Link (link_within ports) [] w.links) links links_e (each_keeps (AreLinks setup) Limit place.Link (link_within ports) (links_are setup) [] w.links (record { between = tt; apart = tt })) in
      record {
        group = subst (λ n. Contains (1 ∷ 3 ∷ 5 ∷ 7 ∷ []) n) same small.group;
        some = omega (arith, many_ports, some);
        few = omega (arith, many_ports, few);
        ports = at_ok (λ found. All IsCount found) (each_alone Limit place.Switch ports_within w.switches) ports ports_e (each_keeps (λ found. All IsCount found) Limit place.Switch (λ before. ports_within) ports_are [] w.switches (λ k d lt. absurd (omega (arith, lt))));
        few_links = omega (arith, many_links, few_links);
        links = are_links.between;
        apart = are_links.apart;
        few_rules = omega (arith, many_rules, few_rules);
        rules = at_ok (λ found. AllByRecursion (λ r. IsRule r) found) (each_alone Limit place.Deny rule_within w.deny) deny deny_e (each_keeps (λ found. AllByRecursion (λ r. IsRule r) found) Limit place.Deny (λ before. rule_within) rules_are [] w.deny tt);
      }

  -- what is within the limits is a setup, and a scenario
  setup_found : IfOk (setup_within w) IsSetup
  unfolding setup_within
  setup_found =
      keeps_then IsSetup (found_at Limit place.Top (only_if (is_within_limits w) w.controllers)) behind_top (λ controllers top.
      let passed = only_if_found (is_within_limits w) w.controllers controllers (found_ok Limit place.Top (only_if (is_within_limits w) w.controllers) controllers top) in
      keeps_then IsSetup (each_alone Limit place.Switch ports_within w.switches) (behind_ports controllers) (λ ports ports_e.
      keeps_then IsSetup (each Limit place.Link (link_within ports) [] w.links) (behind_links controllers ports) (λ links links_e.
      keeps_then IsSetup (each_alone Limit place.Deny rule_within w.deny) (λ deny. Ok (record { controllers = controllers; ports = ports; links = links; deny = deny })) (λ deny deny_e.
      setup_is controllers ports links deny (small_is w passed.0) passed.1 ports_e links_e deny_e))))

  abbrev with_steps : Setup → Result Scenario Fault
  with_steps setup = steps_within setup.controllers setup.ports w.steps >>= (λ steps. Ok (record { setup = setup; steps = steps }))

  scenario_is : IfOk (scenario_within w) IsScenario
  unfolding scenario_within
  scenario_is =
      keeps_then IsScenario (setup_within w) with_steps (λ setup setup_e.
      keeps_then IsScenario (steps_within setup.controllers setup.ports w.steps) (λ steps. Ok (record { setup = setup; steps = steps })) (λ steps steps_e.
      record {
        setup = at_ok IsSetup (setup_within w) setup setup_e setup_found;
        actors = turns_of setup w.steps steps steps_e;
        views = views_of setup w.steps steps steps_e;
      }))

  pub given_is : (read : Result Scenario ScenarioFault) → GivesScenario read (scenario_within w) → IfOk read IsScenario
  given_is (Ok scenario) gives = at_ok IsScenario (scenario_within w) scenario gives scenario_is
  given_is (Err fault) gives = tt

-- what the generator makes is a scenario
frame_is : (setup : Setup) (number switches t : ℕ) → 0 < switches → switches ≡ length setup.ports → IsOf setup (frame_turn number switches t)
unfolding frame_turn
frame_is setup number switches t some same = let below = mod-lt t some in omega (arith, below, same)

frames_are : (setup : Setup) (number switches first count : ℕ) → 0 < switches → switches ≡ length setup.ports → AllByRecursion (IsOf setup) (map (frame_turn number switches) (range_with_len first count))
frames_are setup number switches first zero some same = tt
frames_are setup number switches first (suc count) some same = (frame_is setup number switches first some same, frames_are setup number switches (first + 1) count some same)

crash_is : (setup : Setup) (number controllers : ℕ) → 0 < controllers → controllers ≡ setup.controllers → AllByRecursion (IsOf setup) (last_crash number controllers)
crash_is setup number controllers some same =
    elim (nat_lt controllers 3) as (λ few. AllByRecursion (IsOf setup) (if few then [] else turn.Local (actor.Controller (number % controllers)) local.Crash ∷ [])) [
      | true ↦ tt
      | false ↦ (let below = mod-lt number some in omega (arith, below, same), tt)
    ]

frame_view : (number switches t : ℕ) → HasView (frame_turn number switches t)
unfolding frame_turn
frame_view number switches t = tt

frame_views : (number switches first count : ℕ) → AllByRecursion HasView (map (frame_turn number switches) (range_with_len first count))
frame_views number switches first zero = tt
frame_views number switches first (suc count) = (frame_view number switches first, frame_views number switches (first + 1) count)

crash_view : (number controllers : ℕ) → AllByRecursion HasView (last_crash number controllers)
crash_view number controllers =
    elim (nat_lt controllers 3) as (λ few. AllByRecursion HasView (if few then [] else turn.Local (actor.Controller (number % controllers)) local.Crash ∷ [])) [
      | true ↦ tt
      | false ↦ (tt, tt)
    ]

counts_are : (count : ℕ) → All IsCount (replicate count 4)
counts_are zero k d lt = absurd (omega (arith, lt))
counts_are (suc count) zero d lt = (omega arith, omega arith)
counts_are (suc count) (suc k) d lt = counts_are count k d (omega (arith, lt))

pub some_member : (n : ℕ) → Contains (1 ∷ 3 ∷ 5 ∷ 7 ∷ []) n → 0 < n
some_member n (zero, below, is) = omega (arith, is)
some_member n (suc zero, below, is) = omega (arith, is)
some_member n (suc (suc zero), below, is) = omega (arith, is)
some_member n (suc (suc (suc zero)), below, is) = omega (arith, is)
some_member n (suc (suc (suc (suc k))), below, is) = absurd (omega (arith, below))

pub generated_is : (number controllers switches frames : ℕ) → Contains (1 ∷ 3 ∷ 5 ∷ 7 ∷ []) controllers → 1 ≤ switches → switches ≤ 64 → IsScenario (generated number controllers switches frames)
generated_is number controllers switches frames group some few =
    let setup : Setup = record { controllers = controllers; ports = replicate switches 4; links = []; deny = [] } in
    let many : length (replicate switches 4) ≡ switches = length-replicate switches 4 in
    record {
      setup = record { group = group; some = omega (arith, many, some); few = omega (arith, many, few); ports = counts_are switches; few_links = omega arith; links = tt; apart = tt; few_rules = omega arith; rules = tt };
      actors = all_append (IsOf setup) (map (frame_turn number switches) (range_with_len 0 frames)) (last_crash number controllers)
          (frames_are setup number switches 0 frames (omega (arith, some)) (sym many)) (crash_is setup number controllers (some_member controllers group) refl);
      views = all_append HasView (map (frame_turn number switches) (range_with_len 0 frames)) (last_crash number controllers) (frame_views number switches 0 frames) (crash_view number controllers);
    }

-- The wires of switches: each has those of its setup, from its start on.
use Rattle.std.proofs.Common.{◌≡◌, ◌≤◌, ◌<◌, ℕ, Bool, true, false, ◌&&◌, List, [], ◌∷◌, length, refl, sym, ◌∙◌, ap, subst, arith}
use Rattle.std.specs.Prelude.{nat_eq, ◌||◌, filter, Option, Some, None, if◌then◌else◌}
use Rattle.std.specs.List.{list_any}
use Rattle.of_types.specs.declared.setup.Link.{Link}
use Rattle.of_types.specs.declared.setup.Setup.{Setup}
use Rattle.of_types.specs.Setups.{AreApart, IsSetup, ends_of}
use Rattle.journal.specs.declared.journal.Actor.TheVariants as actor
use Rattle.journal.specs.declared.journal.JournalEntry.{JournalEntry}
use Rattle.journal.specs.declared.journal.JournalEntry.TheVariants.{Post, Draw, Lose, Local, Idle, Refused}
use Rattle.journal.specs.declared.journal.Packet.{Packet}
use Rattle.journal.specs.Part.{part}
use Rattle.of_switch.specs.declared.says.SwitchInput.{SwitchInput}
use Rattle.of_switch.specs.declared.says.SwitchInput.TheVariants as switch_input
use Rattle.of_switch.specs.State.{SwitchState, SwitchTurn, is_at, starting_switch}
use Rattle.of_switch.specs.Rules.{switch_turn}
use Rattle.run_spec.specs.Committed.{switch_state}
use Rattle.run_spec.specs.States.{Scene, SwitchAt, content, switch_at, switch_hears, switch_step}
use Rattle.run_laws.proofs.OnceLaws.SwitchMoves.{Move, Raises, Says, Notes, Changes, Ages, Clears, Executes, Masters, Fences, Restarts, turn_keeps}

-- a switch has its wires of the setup, those at its number, and no more ports than a switch may have
pub record IsWired (setup : Setup) (sw : SwitchState) : Type 0 where
  pub number : ℕ
  pub links : sw.links ≡ filter (is_at number) setup.links
  pub ports : sw.ports ≤ 48

-- ---- their ends

-- an end is this port of this switch
abbrev pub is_end : ℕ → ℕ → ℕ × ℕ → Bool
is_end switch port end = nat_eq end.0 switch && nat_eq end.1 port

-- among fewer wires no end stands twice, either
fewer_ends : (test : ℕ × ℕ → Bool) (p : Link → Bool) (links : List Link) → list_any test (ends_of links) ≡ false → list_any test (ends_of (filter p links)) ≡ false
fewer_ends test p [] none = refl
fewer_ends test p (l ∷ links) none = by_tests (test (l.switch, l.port)) (test (l.peer, l.peer_port)) (p l) refl refl none (fewer_ends test p links)
  where
    by_tests : (a b q : Bool) → test (l.switch, l.port) ≡ a → test (l.peer, l.peer_port) ≡ b → (a || (b || list_any test (ends_of links))) ≡ false →
        (list_any test (ends_of links) ≡ false → list_any test (ends_of (filter p links)) ≡ false) → list_any test (ends_of (if q then l ∷ filter p links else filter p links)) ≡ false
    by_tests true b q is_a is_b none rest = absurd cc
    by_tests false true q is_a is_b none rest = absurd cc
    by_tests false false true is_a is_b none rest = rw (is_a, is_b) (rest none)
    by_tests false false false is_a is_b none rest = rest none

pub fewer_apart : (p : Link → Bool) (links : List Link) → AreApart (ends_of links) → AreApart (ends_of (filter p links))
fewer_apart p [] apart = tt
fewer_apart p (l ∷ links) apart = by_test (p l) (fewer_apart p links apart.1.1)
  where
    one : ℕ × ℕ → Bool
    one = is_end l.switch l.port

    other : ℕ × ℕ → Bool
    other = is_end l.peer l.peer_port

    by_first : (b : Bool) → one (l.peer, l.peer_port) ≡ b → (b || list_any one (ends_of links)) ≡ false → (one (l.peer, l.peer_port) || list_any one (ends_of (filter p links))) ≡ false
    by_first true is none = absurd cc
    by_first false is none = rw is (fewer_ends one p links none)

    by_test : (b : Bool) → AreApart (ends_of (filter p links)) → AreApart (ends_of (if b then l ∷ filter p links else filter p links))
    by_test true rest = (by_first (one (l.peer, l.peer_port)) refl apart.0, (fewer_ends other p links apart.1.0, rest))
    by_test false rest = rest

-- so no end stands twice among the wires of a switch
pub wired_apart : (setup : Setup) → IsSetup setup → (sw : SwitchState) → IsWired setup sw → AreApart (ends_of sw.links)
wired_apart setup is sw wired = subst (λ (links : List Link). AreApart (ends_of links)) (sym wired.links) (fewer_apart (is_at wired.number) setup.links is.apart)

-- ---- their turns

-- a turn as the wires see it
abbrev AreAsBefore : SwitchState → SwitchTurn → Type 0
AreAsBefore s t = (t.state.links ≡ s.links) × (t.state.ports ≡ s.ports)

as_moved : (s : SwitchState) (t t' : SwitchTurn) → (t'.state.links ≡ t.state.links) × (t'.state.ports ≡ t.state.ports) → AreAsBefore s t → AreAsBefore s t'
as_moved s t t' same h = (same.0 ∙ h.0, same.1 ∙ h.1)

moves_keep : (x : SwitchInput) (s : SwitchState) (t t' : SwitchTurn) → Move x t t' → AreAsBefore s t → AreAsBefore s t'
moves_keep x s t t' (Raises what raised is) h = as_moved s t t' (ap (λ (y : SwitchTurn). y.state.links) is, ap (λ (y : SwitchTurn). y.state.ports) is) h
moves_keep x s t t' (Says ls all is) h = as_moved s t t' (ap (λ (y : SwitchTurn). y.state.links) is, ap (λ (y : SwitchTurn). y.state.ports) is) h
moves_keep x s t t' (Notes down sent outcomes dirty is) h = as_moved s t t' (ap (λ (y : SwitchTurn). y.state.links) is, ap (λ (y : SwitchTurn). y.state.ports) is) h
moves_keep x s t t' (Changes c xid life generation number through change asks is) h = as_moved s t t' (ap (λ (y : SwitchTurn). y.state.links) is, ap (λ (y : SwitchTurn). y.state.ports) is) h
moves_keep x s t t' (Ages table stay is) h = as_moved s t t' (ap (λ (y : SwitchTurn). y.state.links) is, ap (λ (y : SwitchTurn). y.state.ports) is) h
moves_keep x s t t' (Clears c xid life through asks own is) h = as_moved s t t' (ap (λ (y : SwitchTurn). y.state.links) is, ap (λ (y : SwitchTurn). y.state.ports) is) h
moves_keep x s t t' (Executes c xid life generation number through what result asks own may next is) h =
    as_moved s t t' (ap (λ (y : SwitchTurn). y.state.links) is, ap (λ (y : SwitchTurn). y.state.ports) is) h
moves_keep x s t t' (Masters c xid role generation asks is_master fresh first is) h =
    as_moved s t t' (ap (λ (y : SwitchTurn). y.state.links) is, ap (λ (y : SwitchTurn). y.state.ports) is) h
moves_keep x s t t' (Fences c xid role generation fence asks otherwise first is) h = as_moved s t t' (ap (λ (y : SwitchTurn). y.state.links) is, ap (λ (y : SwitchTurn). y.state.ports) is) h
moves_keep x s t t' (Restarts asks further first is) h = as_moved s t t' (ap (λ (y : SwitchTurn). y.state.links) is, ap (λ (y : SwitchTurn). y.state.ports) is) h

-- no input changes wires or ports
pub wired_turn : (setup : Setup) (s : SwitchState) (x : SwitchInput) → IsWired setup s → IsWired setup (switch_turn s x).state
wired_turn setup s x wired =
    let same = turn_keeps x (AreAsBefore s) (moves_keep x s) s (refl, refl) in
    let few = wired.ports in
    let ports = same.1 in
    record { number = wired.number; links = same.0 ∙ wired.links; ports = omega (arith, few, ports) }

-- ---- every past

abbrev IsWiredAt : Setup → SwitchAt → Type 0
IsWiredAt setup w = IsWired setup w.now × IsWired setup w.before

module _ {B : Type 0} (scene : Scene B) where
  wired_after : (w : SwitchAt) (e : JournalEntry B) (found : Option (Packet B)) → IsWiredAt scene.setup w → IsWiredAt scene.setup (switch_step scene w e found)
  wired_after w (Draw a id keep) (Some p) h = (wired_turn scene.setup w.now (switch_hears p.from (content scene.sealing p)) h.0, h.0)
  wired_after w (Draw a id keep) None h = h
  wired_after w (Local a input) found h = (wired_turn scene.setup w.now (switch_input.Local input) h.0, h.0)
  wired_after w (Post a first letters lost) found h = h
  wired_after w (Refused a) found h = (h.1, h.1)
  wired_after w (Lose a id) found h = h
  wired_after w (Idle a) found h = h

  module _ (setup : IsSetup scene.setup) (s : ℕ) (there : s < length scene.setup.ports) where
    wired_starts : IsWired scene.setup (starting_switch s scene.setup)
    wired_starts = record { number = s; links = refl; ports = (setup.ports s 0 there).1 }

    wired_at : (ps : List (JournalEntry B × Option (Packet B))) → IsWiredAt scene.setup (switch_at scene s ps)
    wired_at [] = (wired_starts, wired_starts)
    wired_at (step ∷ ps) = wired_after (switch_at scene s ps) step.0 step.1 (wired_at ps)

-- a switch is wired after every past
pub wired_always : {B : Type 0} (scene : Scene B) → IsSetup scene.setup → (P : List (JournalEntry B)) (s : ℕ) → s < length scene.setup.ports → IsWired scene.setup (switch_state scene s P)
wired_always scene setup P s there = (wired_at scene setup s there (part (actor.Switch s) P)).0

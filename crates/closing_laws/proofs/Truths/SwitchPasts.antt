-- A switch has its lists in order after every part of a journal, and had so before what may be its open input.
use Rattle.std.proofs.Common.{◌<◌, ℕ, List, [], ◌∷◌, length, arith}
use Rattle.std.specs.Prelude.{Option, Some, None}
use Rattle.of_types.specs.Setups.{IsSetup}
use Rattle.journal.specs.declared.journal.JournalEntry.{JournalEntry}
use Rattle.journal.specs.declared.journal.JournalEntry.TheVariants.{Post, Draw, Lose, Local, Idle, Refused}
use Rattle.journal.specs.declared.journal.Packet.{Packet}
use Rattle.of_switch.specs.declared.says.SwitchInput.TheVariants as switch_input
use Rattle.of_switch.specs.State.{starting_switch}
use Rattle.run_spec.specs.States.{Scene, SwitchAt, switch_at, switch_step}
use Rattle.closing_laws.proofs.Truths.SwitchLists.{held_none}
use Rattle.closing_laws.proofs.Truths.SwitchOrder.{KeepsOrder, order_kept}

abbrev KeepsOrderAt : SwitchAt → Type 0
KeepsOrderAt w = KeepsOrder w.now × KeepsOrder w.before

order_after : {B : Type 0} (scene : Scene B) (w : SwitchAt) (e : JournalEntry B) (found : Option (Packet B)) → KeepsOrderAt w → KeepsOrderAt (switch_step scene w e found)
order_after scene w (Draw a id keep) (Some p) h = (order_kept w.now _ h.0, h.0)
order_after scene w (Draw a id keep) None h = h
order_after scene w (Local a input) found h = (order_kept w.now (switch_input.Local input) h.0, h.0)
order_after scene w (Post a first letters lost) found h = h
order_after scene w (Refused a) found h = (h.1, h.1)
order_after scene w (Lose a id) found h = h
order_after scene w (Idle a) found h = h

module _ {B : Type 0} (scene : Scene B) (setup : IsSetup scene.setup) (s : ℕ) (there : s < length scene.setup.ports) where
  order_starts : KeepsOrder (starting_switch s scene.setup)
  order_starts =
      (record { are_held = held_none; room = omega arith; results = omega arith; few = (setup.ports s 0 there).1; within = tt }, λ some. absurd (omega (arith, some)))

  order_at : (ps : List (JournalEntry B × Option (Packet B))) → KeepsOrderAt (switch_at scene s ps)
  order_at [] = (order_starts, order_starts)
  order_at (step ∷ ps) = order_after scene (switch_at scene s ps) step.0 step.1 (order_at ps)

  pub order_now : (ps : List (JournalEntry B × Option (Packet B))) → KeepsOrder (switch_at scene s ps).now
  order_now ps = (order_at ps).0

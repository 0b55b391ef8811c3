-- The first packet that waits, and its loss.
use Rattle.std.proofs.Common.{◌≡◌, ℕ, ◌%◌, false, List, ◌∷◌, ◌∙◌, ap, subst}
use Rattle.std.specs.Prelude.{Some, if◌then◌else◌}
use Rattle.journal.specs.declared.journal.Actor.{Actor}
use Rattle.journal.specs.declared.journal.JournalEntry.{JournalEntry}
use Rattle.journal.specs.declared.journal.JournalEntry.TheVariants.{Draw, Lose}
use Rattle.journal.specs.declared.journal.Packet.{Packet}
use Rattle.journal.specs.declared.journal.SaveResult.{SaveResult}
use Rattle.journal.specs.Part.{packet_of}
use Rattle.journal.specs.Pool.{pool, letters_posted, without}
use Rattle.journal.proofs.Pools.{Rising, Rising-pool}
use Rattle.run_spec.specs.declared.messages.Unsealed.{Unsealed}
use Rattle.run_spec.specs.States.{Scene, content, controller_hears, switch_hears}
use Rattle.run_spec.specs.Legal.{IsPossible}
use Rattle.run_spec.specs.Closing.{Phase, Draining, Takes, drained, is_drawn, next_drained, next_move}
use Rattle.closing_laws.specs.Ways.{Sent}
use Rattle.closing_laws.specs.Following.{Start}
use Rattle.closing_laws.specs.Starts.{IsDraining, Last_suspects, Drains}
use Rattle.closing_laws.proofs.Draining.Drained as drained_by
use Rattle.closing_laws.proofs.Draining.Drained.{heard_at, heard_of}
use Rattle.closing_laws.proofs.Draining.Standing as standing
use Rattle.closing_laws.proofs.Draining.Standing.{HoldsThroughout, idle_left, idle_stands}
use Rattle.closing_laws.proofs.Journal.Carrying.{HeadOf, Loses, sw}
use Rattle.closing_laws.proofs.Journal.Taking.{at, finds_head, leaves_head}
use Rattle.closing_laws.proofs.Measure.DrainingMeasure.{lost_lowers}

module _ {B : Type 0} (scene : Scene B) (P : List (JournalEntry B)) (m : Sent) (rest : List Sent) (h : HeadOf scene.sealing (pool P) m rest) where
  abbrev pub id : ℕ
  id = h.packet.id

  pub found : packet_of id (pool P) ≡ Some h.packet
  found = ap (packet_of id) h.is ∙ finds_head h.packet h.rest

  pub left : (results : List (List SaveResult)) → IsPossible scene results P → without id (pool P) ≡ h.rest
  left results possible = ap (without id) h.is ∙ leaves_head h.packet h.rest (subst (λ (ps : List (Packet B)). Rising (letters_posted P) 0 ps) h.is (Rising-pool scene.sealing.size P possible.orderly))

  pub heard_c : controller_hears h.packet.from (content scene.sealing h.packet) ≡ heard_of m
  heard_c = ap (λ (a : Actor). controller_hears a (content scene.sealing h.packet)) h.carries.from ∙ ap (λ (u : Unsealed). controller_hears m.from u) h.carries.says

  pub heard_s : switch_hears h.packet.from (content scene.sealing h.packet) ≡ heard_at m
  heard_s = ap (λ (a : Actor). switch_hears a (content scene.sealing h.packet)) h.carries.from ∙ ap (λ (u : Unsealed). switch_hears m.from u) h.carries.says

  pub drained_is : (quorum : List ℕ) → drained quorum h.packet ≡ (if is_drawn quorum m.from m.to then Draw m.to id false else Lose m.to id)
  drained_is quorum =
      ap (λ (a : Actor). if is_drawn quorum a h.packet.to then Draw h.packet.to id false else Lose h.packet.to id) h.carries.from
      ∙ ap (λ (a : Actor). if is_drawn quorum m.from a then Draw a id false else Lose a id) h.carries.to

  module _ (results : List (List SaveResult)) (w : ℕ) (quorum : List ℕ) where
    pub next_is : (phase : Phase) → IsDraining w quorum phase → next_move scene results phase P ≡ Takes (drained quorum h.packet) (Draining w quorum)
    next_is _ Last_suspects = ap (next_drained scene.setup.controllers w quorum) h.is
    next_is _ Drains = ap (next_drained scene.setup.controllers w quorum) h.is

    module _ (start : Start) (holds : HoldsThroughout scene results w quorum start) where
      abbrev n : ℕ
      n = scene.setup.controllers

      abbrev p : ℕ
      p = w % scene.setup.controllers

      abbrev Past : Type 0
      Past = List (JournalEntry B)

      abbrev Stands : Past → List Sent → Type 0
      Stands = standing.Stands scene results w quorum start

      abbrev left_after : Past → List Sent → ℕ
      left_after = standing.left_after scene results w quorum start

      -- it is lost
      pub loss_stands : (s : Stands P (m ∷ rest)) → is_drawn quorum m.from m.to ≡ false → Stands (Lose m.to id ∷ P) rest
      loss_stands s lost =
          idle_stands scene results w quorum start (Lose m.to id) P rest (Loses m.to id) (record {
            members = s.members;
            switches = s.switches;
            members_are = s.members_are;
            switches_are = s.switches_are;
            drains = drained_by.drains_lost scene.kinds scene.setup w p quorum start holds.inside (at scene results p P).now s.members s.switches m rest s.drains lost;
            roomy = holds.keeps_room.lost (at scene results p P).now s.members s.switches m rest s.drains lost tt tt s.roomy;
          })

      pub loss_left : is_drawn quorum m.from m.to ≡ false → left_after (Lose m.to id ∷ P) rest ≡ left_after P (m ∷ rest)
      loss_left lost =
          idle_left scene results w quorum start (Lose m.to id) P rest (Loses m.to id) ∙ lost_lowers scene.kinds scene.setup quorum (at scene results p P).now (λ s. (sw scene results s P).now) m rest lost

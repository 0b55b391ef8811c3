-- No stale generation's command is carried out: the fence over every legal past.
use Rattle.std.proofs.Common.{◌≡◌, ◌≤◌, ℕ, true, List, [], ◌∷◌, ◌++◌, length, refl, sym, ◌∙◌, subst, arith}
use Rattle.std.specs.Prelude.{drop, Option, Some, None}
use Rattle.std.specs.List.{AllByRecursion}
use Rattle.std.proofs.lemmas.List.{drop_all}
use Rattle.of_types.specs.declared.message.Executed.{Executed}
use Rattle.role_fence.specs.Fence.{may_execute}
use Rattle.of_types.specs.declared.setup.Setup.{Setup}
use Rattle.journal.specs.declared.journal.Actor.{Actor}
use Rattle.journal.specs.declared.journal.Actor.TheVariants as actor
use Rattle.journal.specs.declared.journal.JournalEntry.{JournalEntry}
use Rattle.journal.specs.declared.journal.JournalEntry.TheVariants.{Post, Draw, Lose, Local, Idle, Refused}
use Rattle.journal.specs.declared.journal.Packet.{Packet}
use Rattle.journal.specs.declared.journal.SaveResult.{SaveResult}
use Rattle.journal.specs.Actors.{same_actor, actor_of}
use Rattle.journal.specs.Part.{part, drawn}
use Rattle.of_switch.specs.declared.says.SwitchInput.{SwitchInput}
use Rattle.of_switch.specs.declared.says.SwitchInput.TheVariants as switch_input
use Rattle.of_switch.specs.State.{SwitchState}
use Rattle.of_switch.specs.Rules.{switch_turn}
use Rattle.run_spec.specs.declared.messages.Message.TheVariants as message
use Rattle.run_spec.specs.declared.messages.Unsealed.{Unsealed}
use Rattle.run_spec.specs.declared.messages.Unsealed.TheVariants as unsealed
use Rattle.run_spec.specs.States.{Scene, SwitchAt, switch_at, switch_step, switch_hears, content}
use Rattle.run_spec.specs.Legal.{IsPossible}
use Rattle.run_spec.specs.Laws.{Heard, Asked, asked_step, master_asked, masters_asked, IsFenced, IsFencedEntry, IsOfMaster}
use Rattle.run_laws.specs.OnceLaws.Facts.{PastFacts}
use Rattle.run_spec.specs.Inputs.{IsHeardAt, By_draw}
use Rattle.run_spec.proofs.Entries.{Mine, Another, switch_after}
use Rattle.run_laws.specs.OnceLaws.Invariant.{IsHeardBySwitch}
use Rattle.run_laws.proofs.OnceLaws.Generations.{Unasked, IsFenced as Fenced, life_stays, may_pass, no_fewer, passes_greatest, told_turn, frame_turn, local_turn}
use Rattle.run_spec.proofs.Pasts.{possible_before}

-- the fence of a switch and its life now, and before what may be its open input; no fewer commands are carried out now
pub record FencesAt (controllers : ℕ) (asked : Asked) (w : SwitchAt) : Type 0 where
  pub now : Fenced controllers asked.now w.now
  pub before : Fenced controllers asked.before w.before
  pub grown : length w.before.executed ≤ length w.now.executed

module _ (kinds : List ℕ) (setup : Setup) (f : PastFacts) (s : ℕ) where
  -- after what a switch hears from a packet
  heard_turn : (w : Heard) (start : SwitchState) (from : Actor) (u : Unsealed) → IsHeardBySwitch kinds setup f s (switch_hears from u) → Fenced setup.controllers w start →
      Fenced setup.controllers (record { life = w.life; masters = master_asked u ++ w.masters }) (switch_turn start (switch_hears from u)).state
  heard_turn w start (actor.Controller c) (unsealed.Message (message.Of xid m)) h k =
      record { fence = told_turn kinds setup f c s xid m w.masters start h k.fence; life = k.life ∙ sym (life_stays (switch_input.Of c xid m) start (λ restart. absurd cc)) }
  heard_turn w start (actor.Controller c) (unsealed.Message (message.Vr m)) h k = absurd h
  heard_turn w start (actor.Controller c) (unsealed.Message (message.Frame port frame)) h k = absurd h
  heard_turn w start (actor.Switch t) (unsealed.Message (message.Of xid m)) h k = absurd h
  heard_turn w start (actor.Switch t) (unsealed.Message (message.Vr m)) h k = absurd h
  heard_turn w start (actor.Switch t) (unsealed.Message (message.Frame port frame)) h k =
      record { fence = frame_turn setup.controllers t port frame w.masters start k.fence; life = k.life ∙ sym (life_stays (switch_input.Frame t port frame) start (λ restart. absurd cc)) }
  heard_turn w start (actor.Controller c) (unsealed.Malformed kind code xid head) h k = absurd h
  heard_turn w start (actor.Switch t) (unsealed.Malformed kind code xid head) h k = absurd h

  module _ {B : Type 0} (scene : Scene B) (is : scene.setup ≡ setup) where
    -- after an entry of the switch
    step_fences : (asked : Asked) (w : SwitchAt) (e : JournalEntry B) (found : Option (Packet B)) → ((x : SwitchInput) → IsHeardAt scene e found x → IsHeardBySwitch kinds setup f s x) →
        FencesAt setup.controllers asked w → FencesAt setup.controllers (asked_step scene.sealing asked e found) (switch_step scene w e found)
    step_fences asked w (Draw a id keep) (Some p) hears h =
        record {
          now = heard_turn asked.now w.now p.from (content scene.sealing p) (hears _ (By_draw a id keep p refl refl refl)) h.now;
          before = h.now;
          grown = no_fewer (switch_hears p.from (content scene.sealing p)) w.now;
        }
    step_fences asked w (Draw a id keep) None hears h = record { now = h.now; before = h.before; grown = h.grown }
    step_fences asked w (Local a input) found hears h =
        record { now = local_turn setup.controllers asked.now input w.now h.now; before = h.now; grown = no_fewer (switch_input.Local input) w.now }
    step_fences asked w (Post a first letters lost) found hears h = record { now = h.now; before = h.before; grown = h.grown }
    step_fences asked w (Refused a) found hears h = record { now = h.before; before = h.before; grown = omega arith }
    step_fences asked w (Lose a id) found hears h = record { now = h.now; before = h.before; grown = h.grown }
    step_fences asked w (Idle a) found hears h = record { now = h.now; before = h.before; grown = h.grown }

module _ {B : Type 0} (scene : Scene B) (results : List (List SaveResult)) (facts : List (JournalEntry B) → PastFacts)
    (truth : (e : JournalEntry B) (before : List (JournalEntry B)) → IsPossible scene results (e ∷ before) →
    (s : ℕ) (x : SwitchInput) → same_actor (actor_of e) (actor.Switch s) ≡ true → IsHeardAt scene e (drawn e before) x → IsHeardBySwitch scene.kinds scene.setup (facts before) s x) where
  pub fences : (entries : List (JournalEntry B)) → IsPossible scene results entries → (s : ℕ) →
      FencesAt scene.setup.controllers (masters_asked scene.sealing (part (actor.Switch s) entries)) (switch_at scene s (part (actor.Switch s) entries))
  fences [] legal s = record { now = record { fence = Unasked refl refl refl; life = refl }; before = record { fence = Unasked refl refl refl; life = refl }; grown = omega arith }
  fences (e ∷ before) legal s =
      let old = fences before (possible_before scene results e before legal) s in
      elim (switch_after scene s e before) [
        | Mine same is ↦
            subst (λ (p : List (JournalEntry B × Option (Packet B))). FencesAt scene.setup.controllers (masters_asked scene.sealing p) (switch_at scene s p)) (sym is)
            (step_fences scene.kinds scene.setup (facts before) s scene refl (masters_asked scene.sealing (part (actor.Switch s) before)) (switch_at scene s (part (actor.Switch s) before)) e (drawn e before)
            (λ x heard. truth e before legal s x same heard) old)
        | Another other is ↦
            subst (λ (p : List (JournalEntry B × Option (Packet B))). FencesAt scene.setup.controllers (masters_asked scene.sealing p) (switch_at scene s p)) (sym is) old
      ]

  -- what a switch carried out with an entry of its own is of its master
  module _ (s : ℕ) (before : List (JournalEntry B)) (possible : IsPossible scene results before) where
    abbrev Started : SwitchAt
    Started = switch_at scene s (part (actor.Switch s) before)

    abbrev AreOfMaster : List Executed → Type 0
    AreOfMaster new = AllByRecursion (λ x. IsOfMaster scene s before x) new

    all_of_master : (new : List Executed) → AllByRecursion (λ x. may_execute Started.now.fence x.from x.generation ≡ true) new → AreOfMaster new
    all_of_master [] all = tt
    all_of_master (x ∷ new) (may, all) =
        let passed = passes_greatest scene.setup.controllers (masters_asked scene.sealing (part (actor.Switch s) before)).now.masters Started.now.fence x.from x.generation (fences before possible s).now.fence may in
        (record { greatest = passed.0; master = passed.1 }, all_of_master new all)

    none_carried : (after : List Executed) → length after ≤ length Started.now.executed → AreOfMaster (drop (length Started.now.executed) after)
    none_carried after few = subst AreOfMaster (sym (drop_all (length Started.now.executed) after few)) tt

    step_carries : (e : JournalEntry B) (found : Option (Packet B)) → AreOfMaster (drop (length Started.now.executed) (switch_step scene Started e found).now.executed)
    step_carries (Draw a id keep) (Some p) = all_of_master _ (may_pass (switch_hears p.from (content scene.sealing p)) Started.now)
    step_carries (Draw a id keep) None = none_carried Started.now.executed (omega arith)
    step_carries (Local a input) found = all_of_master _ (may_pass (switch_input.Local input) Started.now)
    step_carries (Post a first letters lost) found = none_carried Started.now.executed (omega arith)
    step_carries (Refused a) found = none_carried Started.before.executed (fences before possible s).grown
    step_carries (Lose a id) found = none_carried Started.now.executed (omega arith)
    step_carries (Idle a) found = none_carried Started.now.executed (omega arith)

  entry_fenced : (e : JournalEntry B) (before : List (JournalEntry B)) → IsPossible scene results (e ∷ before) → IsFencedEntry scene e before
  entry_fenced e before legal s =
      let possible = possible_before scene results e before legal in
      elim (switch_after scene s e before) [
        | Mine same is ↦
            subst (λ (p : List (JournalEntry B × Option (Packet B))). AreOfMaster s before possible (drop (length (Started s before possible).now.executed) (switch_at scene s p).now.executed)) (sym is)
            (step_carries s before possible e (drawn e before))
        | Another other is ↦
            subst (λ (p : List (JournalEntry B × Option (Packet B))). AreOfMaster s before possible (drop (length (Started s before possible).now.executed) (switch_at scene s p).now.executed)) (sym is)
            (none_carried s before possible (Started s before possible).now.executed (omega arith))
      ]

  pub all_fenced : (entries : List (JournalEntry B)) → IsPossible scene results entries → IsFenced scene entries
  all_fenced [] legal = tt
  all_fenced (e ∷ before) legal = (entry_fenced e before legal, all_fenced before (possible_before scene results e before legal))

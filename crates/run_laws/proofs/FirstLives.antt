-- A switch that was never restarted is in its first life.
use Rattle.std.proofs.Common.{◌≡◌, ℕ, List, [], ◌∷◌, refl, sym, ◌∙◌, ap, subst, inl, inr}
use Rattle.std.specs.Prelude.{Option, Some, None}
use Rattle.list_facts.specs.Fold.{Step, Takes, Posts, Refuses, Rests, standing_on}
use Rattle.journal.specs.declared.journal.Actor.{Actor}
use Rattle.journal.specs.declared.journal.Actor.TheVariants as actor
use Rattle.journal.specs.declared.journal.JournalEntry.{JournalEntry}
use Rattle.journal.specs.declared.journal.JournalEntry.TheVariants.{Post, Draw, Lose, Local, Idle, Refused}
use Rattle.journal.specs.declared.journal.Local.{Local as LocalInput}
use Rattle.journal.specs.declared.journal.Local.TheVariants as local
use Rattle.journal.specs.declared.journal.Packet.{Packet}
use Rattle.journal.specs.Actors.{actor_of}
use Rattle.journal.specs.Part.{part, drawn}
use Rattle.of_switch.specs.declared.says.SwitchInput.{SwitchInput}
use Rattle.of_switch.specs.declared.says.SwitchInput.TheVariants as switch_input
use Rattle.of_switch.specs.State.{life_of}
use Rattle.run_spec.specs.declared.messages.Message.TheVariants as message
use Rattle.run_spec.specs.declared.messages.Unsealed.{Unsealed}
use Rattle.run_spec.specs.declared.messages.Unsealed.TheVariants as unsealed
use Rattle.run_spec.specs.States.{Scene, SwitchAt, switch_rules, switch_at, step_of, switch_hears, switch_speech, content}
use Rattle.run_spec.proofs.Entries.{Mine, Another, switch_after}
use Rattle.run_spec.proofs.Pools.{one_actor}
use Rattle.run_laws.specs.Laws.{InEveryRun, IsUnrestarted, AreFirstLives}
use Rattle.run_laws.proofs.OnceLaws.Generations.{life_stays}

-- a switch is in its first life, and was before its last input
record IsFirst (w : SwitchAt) : Type 0 where
  now : life_of w.now ≡ 0
  before : life_of w.before ≡ 0

on : (w : SwitchAt) (step : Step SwitchInput) → (step ≡ Takes (switch_input.Local local.Restart) → ⊥) → IsFirst w → IsFirst (standing_on switch_rules w step)
on w (Takes input) other h = record { now = life_stays input w.now (λ is. other (ap (λ (x : SwitchInput). Takes x) is)) ∙ h.now; before = h.now }
on w Posts other h = record { now = h.now; before = h.before }
on w Refuses other h = record { now = h.before; before = h.before }
on w Rests other h = record { now = h.now; before = h.before }

-- what comes by a packet is no local input
no_packet : (from : Actor) (u : Unsealed) (what : LocalInput) → switch_hears from u ≡ switch_input.Local what → ⊥
no_packet (actor.Controller c) (unsealed.Message (message.Of xid said)) what is = absurd cc
no_packet (actor.Controller c) (unsealed.Message (message.Vr said)) what is = absurd cc
no_packet (actor.Controller c) (unsealed.Message (message.Frame port bytes)) what is = absurd cc
no_packet (actor.Controller c) (unsealed.Malformed kind code xid head) what is = absurd cc
no_packet (actor.Switch s) (unsealed.Message (message.Of xid said)) what is = absurd cc
no_packet (actor.Switch s) (unsealed.Message (message.Vr said)) what is = absurd cc
no_packet (actor.Switch s) (unsealed.Message (message.Frame port bytes)) what is = absurd cc
no_packet (actor.Switch s) (unsealed.Malformed kind code xid head) what is = absurd cc

module _ {B : Type 0} (scene : Scene B) (s : ℕ) where
  -- an entry that is no restart is none to its actor
  no_restart : (e : JournalEntry B) (found : Option (Packet B)) → (Local (actor_of e) local.Restart ≡ e → ⊥) → step_of switch_speech scene.sealing e found ≡ Takes (switch_input.Local local.Restart) → ⊥
  no_restart (Draw a id keep) (Some p) other is =
      let heard : switch_hears p.from (content scene.sealing p) ≡ switch_input.Local local.Restart = cc in no_packet p.from (content scene.sealing p) local.Restart heard
  no_restart (Draw a id keep) None other is = absurd cc
  no_restart (Local a input) found other is = let same : local.Restart ≡ input = cc in other (ap (λ (x : LocalInput). Local a x) same)
  no_restart (Post a first letters lost) found other is = absurd cc
  no_restart (Refused a) found other is = absurd cc
  no_restart (Lose a id) found other is = absurd cc
  no_restart (Idle a) found other is = absurd cc

  first : (entries : List (JournalEntry B)) → IsUnrestarted s entries → IsFirst (switch_at scene s (part (actor.Switch s) entries))
  first [] never = record { now = refl; before = refl }
  first (e ∷ before) never =
      elim (switch_after scene s e before) [
        | Mine own after ↦
            subst (λ p. IsFirst (switch_at scene s p)) (sym after)
            (on _ (step_of switch_speech scene.sealing e (drawn e before)) (no_restart e (drawn e before) (λ is. never (inl (ap (λ (a : Actor). Local a local.Restart) (sym (one_actor (actor_of e) (actor.Switch s) own)) ∙ is))))
            (first before (λ there. never (inr there))))
        | Another own after ↦ subst (λ p. IsFirst (switch_at scene s p)) (sym after) (first before (λ there. never (inr there)))
      ]

pub first_law : {B : Type 0} → InEveryRun B (λ scene results entries. AreFirstLives scene entries)
first_law scene results entries setup faithful possible = λ s never. (first scene s entries never).now

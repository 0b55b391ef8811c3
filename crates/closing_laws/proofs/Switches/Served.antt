-- What stays of how a switch is served, whichever message it draws: what is common to the rows.
use Rattle.std.proofs.Common.{◌≡◌, ◌≤◌, ◌<◌, ◌⊎◌, ℕ, ◌+◌, ◌-◌, true, false, List, [], ◌∷◌, ◌++◌, filter, refl, sym, ◌∙◌, ap, subst, arith, inl, inr, append-nil}
use Rattle.std.specs.Prelude.{nat_le, count_by, if◌then◌else◌}
use Rattle.std.specs.List.{AllByRecursion, range_with_len}
use Rattle.of_types.specs.declared.message.Event.{Event}
use Rattle.of_types.specs.declared.message.Extension.{Extension}
use Rattle.of_types.specs.declared.message.Spoken.TheVariants as spoken
use Rattle.of_types.specs.declared.setup.Setup.{Setup}
use Rattle.list_facts.specs.Lists.{IsIn}
use Rattle.dispatcher.specs.Marks.{has_result, is_confirmed, settled_commands}
use Rattle.group_controller.specs.State.{ControllerState, committed}
use Rattle.event_buffer.specs.Buffer.{Buffer}
use Rattle.role_fence.specs.Fence.{Fence}
use Rattle.of_switch.specs.State.{SwitchState, life_of}
use Rattle.run_spec.specs.declared.messages.Message.{Message}
use Rattle.run_spec.specs.declared.messages.Message.TheVariants as message
use Rattle.journal.proofs.All.{all_append}
use Rattle.closing_laws.specs.Serving.{AreCommanded, AreEventsTold, AreUntold, IsMastered, IsSaidIn, IsAttended, IsUnasked, acknowledges_events, commands_said, events_said, is_reply, is_request, logged_of, processed_by, results_said, told_through}
use Rattle.closing_laws.proofs.Switches.Saying.{count_cons, events_append, results_append}

-- a switch draws a message that is no command of its life, and tells no result
pub record Draws (c : ControllerState) (sw sw' : SwitchState) (m : Message) (out told : List Message) : Type 0 where
  pub life : life_of sw' ≡ life_of sw
  pub executed : sw'.results.executed ≡ sw.results.executed
  pub heard : AllByRecursion (λ x. IsSaidIn c.vr.view (life_of sw) x) told
  pub commands : commands_said (life_of sw) (m ∷ out) ≡ commands_said (life_of sw) out
  pub results : results_said told ≡ []

abbrev Role : ControllerState → ℕ → SwitchState → List Message → List Message → Type 0
Role c s sw out in_ = IsUnasked c s sw out in_ ⊎ (IsMastered c s sw out in_ × AreEventsTold c s sw out in_)

pub draws_keep : (kinds : List ℕ) (setup : Setup) (c : ControllerState) (s : ℕ) (sw sw' : SwitchState) (m : Message) (out in_ told : List Message) →
    IsAttended kinds setup c s sw (m ∷ out) in_ → Draws c sw sw' m out told → Role c s sw' out (in_ ++ told) → IsAttended kinds setup c s sw' out (in_ ++ told)
draws_keep kinds setup c s sw sw' m out in_ told served draws role =
    record {
      said = served.said.1;
      heard = subst (λ (l : ℕ). AllByRecursion (λ x. IsSaidIn c.vr.view l x) (in_ ++ told)) (sym draws.life) (all_append (λ x. IsSaidIn c.vr.view (life_of sw) x) in_ told served.heard draws.heard);
      role = role;
      confirmed = λ yes. commanded (served.confirmed yes);
      unconfirmed = λ no. untold (served.unconfirmed no);
      marks = subst (λ (l : ℕ). (i : ℕ) → has_result c.marks s l i ≡ true → i < told_through kinds setup c s l) (sym draws.life) served.marks;
      results = λ i among. subst (λ (l : ℕ). i < told_through kinds setup c s l) (sym draws.life) (served.results i (subst (λ (l : List ℕ). IsIn i l) same among));
    }
  where
    same : results_said (in_ ++ told) ≡ results_said in_
    same = results_append in_ told ∙ ap (λ (l : List ℕ). results_said in_ ++ l) draws.results ∙ append-nil (results_said in_)

    commanded : AreCommanded kinds setup c s sw (m ∷ out) in_ → AreCommanded kinds setup c s sw' out (in_ ++ told)
    commanded a =
        record {
          next = a.next;
          waits = subst (λ (l : ℕ). commands_said l out ≡ range_with_len a.next (told_through kinds setup c s l - a.next)) (sym draws.life) (sym draws.commands ∙ a.waits);
          in_order = λ less. let few = a.in_order (subst (λ (l : ℕ). a.next < told_through kinds setup c s l) draws.life less) in let more = draws.executed in omega (arith, few, more);
          accounted = subst (λ (l : ℕ). (i : ℕ) → settled_commands kinds setup (committed c) s l ≤ i → i < told_through kinds setup c s l →
              (has_result c.marks s l i ≡ true) ⊎ (IsIn i (commands_said l out) ⊎ IsIn i (results_said (in_ ++ told)))) (sym draws.life)
              (λ i low high. elim (a.accounted i low high) [
                | inl marked ↦ inl marked
                | inr (inl waiting) ↦ inr (inl (subst (λ (l : List ℕ). IsIn i l) draws.commands waiting))
                | inr (inr came) ↦ inr (inr (subst (λ (l : List ℕ). IsIn i l) (sym same) came))
              ]);
        }

    untold : AreUntold c s sw (m ∷ out) in_ → AreUntold c s sw' out (in_ ++ told)
    untold a =
        record {
          no_commands = ap (λ (l : ℕ). commands_said l out) draws.life ∙ sym draws.commands ∙ a.no_commands;
          no_results = same ∙ a.no_results;
          no_marks = subst (λ (l : ℕ). (i : ℕ) → has_result c.marks s l i ≡ false) (sym draws.life) a.no_marks;
        }

-- the buffer and the events stay, no acknowledgement of this life is drawn, and no event is told
pub told_stays : (c : ControllerState) (s : ℕ) (sw sw' : SwitchState) (m : Message) (out in_ told : List Message) → sw'.buffer ≡ sw.buffer → sw'.events ≡ sw.events →
    ((through : ℕ) → acknowledges_events (life_of sw) through ≡ m → ⊥) → events_said s told ≡ [] → AreEventsTold c s sw (m ∷ out) in_ → AreEventsTold c s sw' out (in_ ++ told)
told_stays c s sw sw' m out in_ told buffer events other none a =
    subst (λ (x : SwitchState). AreEventsTold c s x out (in_ ++ told)) (sym is)
    (record {
      coming = ap (λ (l : List Event). filter (λ e. nat_le (logged_of c s sw) e.number) l) same ∙ a.coming;
      stands = λ e among. a.stands e (subst (λ (l : List Event). IsIn e l) same among);
      acknowledged = λ less. elim (a.acknowledged less) [
        | inl (inl drawn) ↦ absurd (other (processed_by c s sw) drawn)
        | inl (inr waits) ↦ inl waits
        | inr w ↦ inr (w.0, subst (λ (l : List Event). IsIn w.0 l) (sym same) w.1, w.2)
      ];
    })
  where
    same : events_said s (in_ ++ told) ≡ events_said s in_
    same = events_append s in_ told ∙ ap (λ (l : List Event). events_said s in_ ++ l) none ∙ append-nil (events_said s in_)

    is : sw' ≡ record sw' { buffer = sw.buffer; events = sw.events }
    is = ap (λ (b : Buffer). record sw' { buffer = b }) buffer ∙ ap (λ (es : List Event). record sw' { buffer = sw.buffer; events = es }) events

-- a switch draws a message of the extension that changes neither its buffer nor its fence, and says nothing
pub silent_keeps : (kinds : List ℕ) (setup : Setup) (c : ControllerState) (s : ℕ) (sw sw' : SwitchState) (said : Extension) (out in_ : List Message) →
    sw'.buffer ≡ sw.buffer → sw'.events ≡ sw.events → sw'.fence ≡ sw.fence → sw'.results.executed ≡ sw.results.executed →
    ((through : ℕ) → acknowledges_events (life_of sw) through ≡ message.Of 0 (spoken.Ravana said) → ⊥) →
    commands_said (life_of sw) (message.Of 0 (spoken.Ravana said) ∷ out) ≡ commands_said (life_of sw) out →
    IsAttended kinds setup c s sw (message.Of 0 (spoken.Ravana said) ∷ out) in_ → IsAttended kinds setup c s sw' out (in_ ++ [])
silent_keeps kinds setup c s sw sw' said out in_ buffer events fence executed other commands served =
    draws_keep kinds setup c s sw sw' (message.Of 0 (spoken.Ravana said)) out in_ [] served
    (record { life = ap (λ (b : Buffer). b.life) buffer; executed = executed; heard = tt; commands = commands; results = refl })
    (elim served.role [
      | inl unasked ↦ absurd (let first = unasked.first in cc)
      | inr asked ↦
          let more = asked.0.no_more in
          inr (
            record {
              generation = ap (λ (f : Fence). f.generation) fence ∙ asked.0.generation;
              master = ap (λ (f : Fence). f.master) fence ∙ asked.0.master;
              no_more = omega (arith, more, count_cons is_request (message.Of 0 (spoken.Ravana said)) out);
              replies = ap (λ (ms : List Message). count_by is_reply ms + (if is_confirmed c.marks s then 1 else 0)) (append-nil in_) ∙ asked.0.replies;
            },
            told_stays c s sw sw' (message.Of 0 (spoken.Ravana said)) out in_ [] buffer events other refl asked.1,
          )
    ])

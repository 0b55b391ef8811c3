-- A switch draws a command of its life, which its primary told it.
use Rattle.std.proofs.Common.{◌≡◌, ◌≤◌, ◌<◌, ◌⊎◌, ℕ, ◌+◌, ◌-◌, zero, suc, Bool, true, List, [], ◌∷◌, ◌++◌, refl, sym, ◌∙◌, ap, subst, arith, inl, inr}
use Rattle.std.specs.Prelude.{count_by, if◌then◌else◌}
use Rattle.std.specs.List.{AllByRecursion, range_with_len}
use Rattle.std.proofs.lemmas.Bool.{cases_Bool, eq-eqb}
use Rattle.of_types.specs.declared.message.Extension.TheVariants as extension
use Rattle.of_types.specs.declared.message.Order.{Order}
use Rattle.of_types.specs.declared.message.Spoken.TheVariants as spoken
use Rattle.of_types.specs.declared.setup.Setup.{Setup}
use Rattle.journal.specs.declared.journal.Actor.{Actor}
use Rattle.journal.specs.declared.journal.Actor.TheVariants as actor
use Rattle.journal.specs.declared.journal.Letter.{Letter}
use Rattle.journal.specs.Actors.{same_actor}
use Rattle.journal.proofs.All.{all_append}
use Rattle.list_facts.specs.Lists.{IsIn}
use Rattle.list_facts.proofs.Elements.{in_append, in_left, in_right}
use Rattle.role_fence.specs.Fence.{Fence}
use Rattle.event_buffer.specs.Buffer.{Buffer}
use Rattle.dispatcher.specs.Marks.{has_result, is_confirmed, settled_commands}
use Rattle.group_controller.specs.State.{ControllerState, committed}
use Rattle.of_switch.specs.declared.says.SwitchSays.{SwitchSays}
use Rattle.of_switch.specs.State.{SwitchState, SwitchTurn, life_of}
use Rattle.of_switch.specs.Commands.{letter_of_result}
use Rattle.run_spec.specs.declared.messages.Message.{Message}
use Rattle.run_spec.specs.declared.messages.Message.TheVariants as message
use Rattle.run_spec.specs.States.{switch_message}
use Rattle.closing_laws.specs.Serving.{AreCommanded, IsSaidIn, IsAttended, Results, commands_said, events_said, is_reply, is_request, results_said, letters_told_by, told_through}
use Rattle.closing_laws.specs.Ways.{told_to}
use Rattle.closing_laws.proofs.Primary.Telling.{told_to-append}
use Rattle.closing_laws.proofs.Switches.CommandTurns.{AfterCommand}
use Rattle.closing_laws.proofs.Switches.Saying.{count_append, count_cons, results_append, told_none}
use Rattle.closing_laws.proofs.Switches.Served.{told_stays}

-- the first of numbers in a row
first_waits : (n next len : ℕ) (rest : List ℕ) → n ∷ rest ≡ range_with_len next len → (n ≡ next) × (0 < len) × (rest ≡ range_with_len (next + 1) (len - 1))
first_waits n next zero rest is = absurd cc
first_waits n next (suc len) rest is =
    let one : suc len - 1 ≡ len = omega arith in
    let first : n ≡ next = cc in
    let others : rest ≡ range_with_len (next + 1) len = cc in
    (first, omega arith, others ∙ ap (λ (k : ℕ). range_with_len (next + 1) k) (sym one))

module _ (kinds : List ℕ) (setup : Setup) (c : ControllerState) (s : ℕ) (sw : SwitchState) (number through : ℕ) (what : Order) where
  abbrev pub command : Message
  command = message.Of 0 (spoken.Ravana (extension.Command (life_of sw) c.vr.view number through what))

  commands : (out : List Message) → commands_said (life_of sw) (command ∷ out) ≡ number ∷ commands_said (life_of sw) out
  commands out = ap (λ (b : Bool). if b then number ∷ commands_said (life_of sw) out else commands_said (life_of sw) out) (eq-eqb (life_of sw) (life_of sw) refl)

  -- a command waits only where the role is confirmed
  pub is_commanded : (out in_ : List Message) → IsAttended kinds setup c s sw (command ∷ out) in_ → AreCommanded kinds setup c s sw (command ∷ out) in_
  is_commanded out in_ served = elim (cases_Bool (is_confirmed c.marks s)) [
    | inl is ↦ served.confirmed is
    | inr is ↦ let none = sym (commands out) ∙ (served.unconfirmed is).no_commands in absurd cc
  ]

  -- it is the next one, which was told
  first_is : (out in_ : List Message) (a : AreCommanded kinds setup c s sw (command ∷ out) in_) →
      (number ≡ a.next) × (0 < letters_told_by kinds setup c s sw - a.next) × (commands_said (life_of sw) out ≡ range_with_len (a.next + 1) (letters_told_by kinds setup c s sw - a.next - 1))
  first_is out in_ a = first_waits number a.next (letters_told_by kinds setup c s sw - a.next) (commands_said (life_of sw) out) (sym (commands out) ∙ a.waits)

  pub below : (out in_ : List Message) → AreCommanded kinds setup c s sw (command ∷ out) in_ → number < letters_told_by kinds setup c s sw
  below out in_ a = let first = first_is out in_ a in let same = first.0 in let some = first.1 in omega (arith, same, some)

  pub late : (out in_ : List Message) → AreCommanded kinds setup c s sw (command ∷ out) in_ → number ≤ sw.results.executed
  late out in_ a = let first = first_is out in_ a in let same = first.0 in let some = first.1 in let few = a.in_order (omega (arith, some)) in omega (arith, same, few)

  module _ (turn : SwitchTurn) (after : AfterCommand sw c.vr.me number turn) where
    abbrev told : List Message
    told = told_to switch_message (actor.Controller c.vr.me) turn.letters

    -- its result
    abbrev answer : Message
    answer = message.Of 0 (spoken.Ravana (extension.CmdAck (life_of sw) number after.result))

    life : life_of turn.state ≡ life_of sw
    life = ap (λ (b : Buffer). b.life) after.buffer

    told_is : told ≡ answer ∷ []
    told_is =
        ap (λ (ls : List (Letter SwitchSays)). told_to switch_message (actor.Controller c.vr.me) ls) after.letters
        ∙ told_to-append switch_message (actor.Controller c.vr.me) after.before (letter_of_result c.vr.me (life_of sw) number after.result ∷ [])
        ∙ ap (λ (ms : List Message). ms ++ told_to switch_message (actor.Controller c.vr.me) (letter_of_result c.vr.me (life_of sw) number after.result ∷ []))
        (told_none switch_message (actor.Controller c.vr.me) after.before (λ l among. let to = after.frames l among in ap (λ (a : Actor). same_actor a (actor.Controller c.vr.me)) to.1))
        ∙ ap (λ (b : Bool). if b then answer ∷ [] else []) (eq-eqb c.vr.me c.vr.me refl)

    results : (in_ : List Message) → results_said (in_ ++ told) ≡ results_said in_ ++ number ∷ []
    results in_ = results_append in_ told ∙ ap (λ (ms : List Message). results_said in_ ++ results_said ms) told_is

    commanded_now : (out in_ : List Message) → AreCommanded kinds setup c s sw (command ∷ out) in_ → AreCommanded kinds setup c s turn.state out (in_ ++ told)
    commanded_now out in_ a =
        let first = first_is out in_ a in
        let same = first.0 in
        let done = after.executed in
        let fewer : letters_told_by kinds setup c s sw - a.next - 1 ≡ letters_told_by kinds setup c s sw - (a.next + 1) = omega arith in
        record {
          next = a.next + 1;
          waits = subst (λ (l : ℕ). commands_said l out ≡ range_with_len (a.next + 1) (told_through kinds setup c s l - (a.next + 1))) (sym life) (first.2 ∙ ap (λ (k : ℕ). range_with_len (a.next + 1) k) fewer);
          in_order = λ less. omega (arith, same, done);
          accounted = subst (λ (l : ℕ). (i : ℕ) → settled_commands kinds setup (committed c) s l ≤ i → i < told_through kinds setup c s l →
              (has_result c.marks s l i ≡ true) ⊎ (IsIn i (commands_said l out) ⊎ IsIn i (results_said (in_ ++ told)))) (sym life)
              (λ i low high. elim (a.accounted i low high) [
                | inl marked ↦ inl marked
                | inr (inl waiting) ↦ elim (subst (λ (l : List ℕ). IsIn i l) (commands out) waiting) [
                  | inl this ↦ inr (inr (subst (λ (l : List ℕ). IsIn i l) (sym (results in_)) (in_right i (results_said in_) (number ∷ []) (inl this))))
                  | inr later ↦ inr (inl later)
                ]
                | inr (inr came) ↦ inr (inr (subst (λ (l : List ℕ). IsIn i l) (sym (results in_)) (in_left i (results_said in_) (number ∷ []) came)))
              ]);
        }

    -- it is served as before
    pub commanded_keeps : (out in_ : List Message) → IsAttended kinds setup c s sw (command ∷ out) in_ → IsAttended kinds setup c s turn.state out (in_ ++ told)
    commanded_keeps out in_ served =
        let a = is_commanded out in_ served in
        record {
          said = served.said.1;
          heard = subst (λ (l : ℕ). AllByRecursion (λ x. IsSaidIn c.vr.view l x) (in_ ++ told)) (sym life)
              (all_append (λ x. IsSaidIn c.vr.view (life_of sw) x) in_ told served.heard
              (subst (λ (ms : List Message). AllByRecursion (λ x. IsSaidIn c.vr.view (life_of sw) x) ms) (sym told_is) (Results 0 number after.result, tt)));
          role = elim served.role [
            | inl unasked ↦ absurd (let first = unasked.first in cc)
            | inr asked ↦
                let more = asked.0.no_more in
                let replies = asked.0.replies in
                let no_reply : count_by is_reply told ≡ 0 = ap (λ (ms : List Message). count_by is_reply ms) told_is in
                inr (
                  record {
                    generation = ap (λ (f : Fence). f.generation) after.fence ∙ asked.0.generation;
                    master = ap (λ (f : Fence). f.master) after.fence ∙ asked.0.master;
                    no_more = omega (arith, more, count_cons is_request command out);
                    replies = omega (arith, replies, count_append is_reply in_ told, no_reply);
                  },
                  told_stays c s sw turn.state command out in_ told after.buffer after.events (λ t is. absurd cc) (ap (λ (ms : List Message). events_said s ms) told_is) asked.1,
                )
          ];
          confirmed = λ _. commanded_now out in_ a;
          unconfirmed = λ none. let first = sym (commands out) ∙ (served.unconfirmed none).no_commands in absurd cc;
          marks = subst (λ (l : ℕ). (i : ℕ) → has_result c.marks s l i ≡ true → i < told_through kinds setup c s l) (sym life) served.marks;
          results = λ i among. subst (λ (l : ℕ). i < told_through kinds setup c s l) (sym life)
              (elim (in_append i (results_said in_) (number ∷ []) (subst (λ (l : List ℕ). IsIn i l) (results in_) among)) [
                | inl old ↦ served.results i old
                | inr (inl this) ↦ let few = below out in_ a in omega (arith, this, few)
                | inr (inr none) ↦ absurd none
              ]);
        }

-- The first two steps of Settle, as steps of a primary's work: answers to what is newly committed, and the commands that are due.
use Rattle.std.proofs.Common.{◌≡◌, ◌≤◌, ◌<◌, ℕ, Bool, true, false, List, [], ◌∷◌, ◌++◌, length, map, drop, flat_map, refl, sym, ◌∙◌, ap, subst, arith, append-nil, append_assoc}
use Rattle.std.specs.Prelude.{Some, if◌then◌else◌}
use Rattle.std.proofs.Math.Seq.{drop-append_seam}
use Rattle.list_facts.specs.Lists.{IsPrefix}
use Rattle.list_facts.proofs.Prefixes.{front_prefix, prefix_trans, take_prefix}
use Rattle.of_types.specs.declared.setup.Setup.{Setup}
use Rattle.of_types.specs.Lives.{life_in}
use Rattle.journal.specs.declared.journal.Actor.TheVariants as actor
use Rattle.journal.specs.declared.journal.Letter.{Letter}
use Rattle.vr_log.specs.declared.entry.Entry.{Entry}
use Rattle.vr_log.specs.Log.{is_log, processed, received}
use Rattle.app_core.specs.Chain.{concat}
use Rattle.app_core.specs.Issued.{count_issued}
use Rattle.app_core.specs.declared.issued.Issued.{Issued}
use Rattle.dispatcher.specs.declared.answers.AckThrough.{AckThrough}
use Rattle.dispatcher.specs.Folding.{acknowledges_at, clears_at, places_processed}
use Rattle.dispatcher.specs.Marks.{outstanding, settled_commands}
use Rattle.of_switch.specs.State.{SwitchState, life_of}
use Rattle.controller_moves.proofs.ControllerLaws.Issued.{issues-take}
use Rattle.controller_moves.proofs.ControllerLaws.Logs.{processed_prefix, received_prefix}
use Rattle.group_controller.specs.declared.messages.ControllerSays.{ControllerSays}
use Rattle.group_controller.specs.State.{ControllerState, Work, committed}
use Rattle.group_controller.specs.Settling.{ack_letter, answers_at, clear_letter, command_letters, is_untold, with_answers, with_commands}
use Rattle.run_spec.specs.declared.messages.Message.{Message}
use Rattle.run_spec.specs.States.{controller_message}
use Rattle.closing_laws.specs.Serving.{AreFew, IsAttended, IsToldLast, IsTrueOf}
use Rattle.closing_laws.specs.Ways.{told_to}
use Rattle.closing_laws.proofs.Primary.Commanding.{is_told, now_served, told_now_last}
use Rattle.closing_laws.proofs.Primary.Committing.{CommitsMore, more_committed, told_last}
use Rattle.closing_laws.proofs.Primary.Growth.{counted_grows, life_grows}
use Rattle.closing_laws.proofs.Primary.Telling.{letters_of, told, told-append, told_to-append}

-- letters to switches tell no member
abbrev pub AreToSwitches : List (Letter ControllerSays) → Type 0
AreToSwitches letters = (b : ℕ) → told_to controller_message (actor.Controller b) letters ≡ []

pub to_switches_append : (xs ys : List (Letter ControllerSays)) → AreToSwitches xs → AreToSwitches ys → AreToSwitches (xs ++ ys)
to_switches_append xs ys a d b =
    told_to-append controller_message (actor.Controller b) xs ys ∙ ap (λ (z : List Message). z ++ told_to controller_message (actor.Controller b) ys) (a b) ∙ d b

acks_to_switches : (xs : List AckThrough) → AreToSwitches (map ack_letter xs)
acks_to_switches [] b = refl
acks_to_switches (x ∷ xs) b = acks_to_switches xs b

clears_to_switches : (xs : List AckThrough) → AreToSwitches (map clear_letter xs)
clears_to_switches [] b = refl
clears_to_switches (x ∷ xs) b = clears_to_switches xs b

pub answers_to_switches : (kinds : List ℕ) (setup : Setup) (c : ControllerState) (places : List ℕ) → AreToSwitches (flat_map (answers_at kinds setup c) places)
answers_to_switches kinds setup c [] b = refl
answers_to_switches kinds setup c (j ∷ places) b =
    to_switches_append (answers_at kinds setup c j) (flat_map (answers_at kinds setup c) places)
    (to_switches_append (map ack_letter (acknowledges_at (committed c) j)) (map clear_letter (clears_at kinds setup (committed c) j)) (acks_to_switches (acknowledges_at (committed c) j)) (clears_to_switches (clears_at kinds setup (committed c) j)))
    (answers_to_switches kinds setup c places) b

pub commands_to_switches : (kinds : List ℕ) (setup : Setup) (log : List Entry) (view : ℕ) (xs : List Issued) → AreToSwitches (letters_of kinds setup log view xs)
commands_to_switches kinds setup log view [] b = refl
commands_to_switches kinds setup log view (x ∷ xs) b = commands_to_switches kinds setup log view xs b

-- what is settled of a life, on a longer log
pub settled_more : (kinds : List ℕ) (setup : Setup) (s life : ℕ) {front log : List Entry} → IsPrefix front log → settled_commands kinds setup front s life ≤ settled_commands kinds setup log s life
settled_more kinds setup s life {front} {log} p =
    let more = counted_grows kinds setup s life (take_prefix (processed front) (processed log) (processed_prefix p) (received_prefix p)) in
    let a = ap (λ (z : List (List Issued)). count_issued s life (concat z)) (issues-take kinds setup (processed front) (received front)) in
    let b = ap (λ (z : List (List Issued)). count_issued s life (concat z)) (issues-take kinds setup (processed log) (received log)) in
    omega (arith, more, a, b)

-- what bounds a switch beside a committed log: its life has begun, and it has carried out what is settled
pub record IsBounded (kinds : List ℕ) (setup : Setup) (log : List Entry) (t : ℕ) (sw : SwitchState) : Type 0 where
  pub young : life_in t (received log) ≤ life_of sw
  pub done : settled_commands kinds setup log t (life_of sw) ≤ sw.results.executed

-- it does so for each beginning of a primary's committed log
pub bounded_by : (kinds : List ℕ) (setup : Setup) (c : ControllerState) (t : ℕ) (sw : SwitchState) (front : List Entry) → IsTrueOf kinds setup c t sw → is_log c.vr.log ≡ true →
    IsPrefix front (committed c) → IsBounded kinds setup front t sw
bounded_by kinds setup c t sw front true_of one p =
    let lives = life_grows t (prefix_trans p (front_prefix c.vr.commit c.vr.log)) one in
    let settled = settled_more kinds setup t (life_of sw) p in
    let young = true_of.life in
    let done = true_of.settled in
    record { young = omega (arith, lives, young); done = omega (arith, settled, done) }

-- a step posts letters to switches, and leaves the member of the group as it is
pub record Tells (old new : Work) : Type 0 where
  pub letters : List (Letter ControllerSays)
  pub joined : new.letters ≡ old.letters ++ letters
  pub save : new.save ≡ old.save
  pub vr : new.state.vr ≡ old.state.vr
  pub marks : new.state.marks ≡ old.state.marks
  pub full : new.state.full ≡ old.state.full
  pub to_switches : AreToSwitches letters

module _ (kinds : List ℕ) (setup : Setup) (sw : ℕ → SwitchState) (in_ : ℕ → List Message) where
  abbrev pub AreServed : ControllerState → (ℕ → List Message) → Type 0
  AreServed c out = (t : ℕ) → t < length setup.ports → IsAttended kinds setup c t (sw t) (out t) (in_ t)

  abbrev pub AreBounded : List Entry → Type 0
  AreBounded log = (t : ℕ) → t < length setup.ports → IsBounded kinds setup log t (sw t)

  -- the commands of the first unprocessed event are told, and each switch is served
  pub record Told (out : ℕ → List Message) (old new : Work) : Type 0 where
    pub tells : Tells old new
    pub told_all : is_untold new.state ≡ false
    pub last : IsToldLast new.state
    pub served : AreServed new.state (λ t. out t ++ told t tells.letters)

  module _ (few : AreFew kinds setup) where
    pub commands_told_step : (work : Work) (out : ℕ → List Message) → IsToldLast work.state → AreServed work.state out → AreBounded (committed work.state) → Told out work (with_commands kinds setup work)
    commands_told_step work out last served bounds = by_untold (is_untold work.state) refl
      where
        c : ControllerState
        c = work.state

        letters : List (Letter ControllerSays)
        letters = command_letters kinds setup c (outstanding kinds setup (committed c) c.marks)

        by_untold : (b : Bool) → is_untold work.state ≡ b →
            Told out work (if b then record { state = record c { last_told = Some (processed (committed c)) }; save = work.save; letters = work.letters ++ letters } else work)
        by_untold true is = record {
          tells = record {
            letters = letters;
            joined = refl;
            save = refl;
            vr = refl;
            marks = refl;
            full = refl;
            to_switches = commands_to_switches kinds setup (committed c) c.vr.view (outstanding kinds setup (committed c) c.marks);
          };
          told_all = is_told kinds setup c;
          last = told_now_last kinds setup c is;
          served = λ t less. now_served kinds setup c few is t (sw t) (bounds t less).young (bounds t less).done (out t) (in_ t) (served t less);
        }
        by_untold false is = record {
          tells = record { letters = []; joined = sym (append-nil work.letters); save = refl; vr = refl; marks = refl; full = refl; to_switches = λ b. refl };
          told_all = is;
          last = last;
          served = λ t less. subst (λ (z : List Message). IsAttended kinds setup c t (sw t) z (in_ t)) (sym (append-nil (out t))) (served t less);
        }

    -- what is newly committed is answered first
    pub settled_step : (c : ControllerState) (work : Work) (m : CommitsMore c work.state) (before : ℕ) (out : ℕ → List Message) → before ≡ length (committed c) → is_untold c ≡ false → IsToldLast c →
        AreServed c out → AreBounded (committed work.state) → Told out work (with_commands kinds setup (with_answers kinds setup before work))
    settled_step c work m before out is untold last served bounds =
        joined_step (commands_told_step (with_answers kinds setup before work) (λ t. out t ++ told t letters) (told_last kinds setup c work.state m last) answered bounds)
      where
        letters : List (Letter ControllerSays)
        letters = flat_map (answers_at kinds setup work.state) (places_processed (drop before (committed work.state)))

        behind : drop before (committed work.state) ≡ m.more
        behind = ap (λ (n : ℕ). drop n (committed work.state)) is ∙ ap (drop (length (committed c))) m.committed_is ∙ drop-append_seam (committed c) m.more

        answered : AreServed work.state (λ t. out t ++ told t letters)
        answered t less =
            subst (λ (l : List Entry). IsAttended kinds setup work.state t (sw t) (out t ++ told t (flat_map (answers_at kinds setup work.state) (places_processed l))) (in_ t)) (sym behind)
            (more_committed kinds setup c work.state m t (sw t) untold last (bounds t less).young (out t) (in_ t) (served t less))

        joined_step : Told (λ t. out t ++ told t letters) (with_answers kinds setup before work) (with_commands kinds setup (with_answers kinds setup before work)) →
            Told out work (with_commands kinds setup (with_answers kinds setup before work))
        joined_step r = record {
          tells = record {
            letters = letters ++ r.tells.letters;
            joined = r.tells.joined ∙ append_assoc work.letters letters r.tells.letters;
            save = r.tells.save;
            vr = r.tells.vr;
            marks = r.tells.marks;
            full = r.tells.full;
            to_switches = to_switches_append letters r.tells.letters (answers_to_switches kinds setup work.state (places_processed (drop before (committed work.state)))) r.tells.to_switches;
          };
          told_all = r.told_all;
          last = r.last;
          served = λ t less. subst (λ (z : List Message). IsAttended kinds setup (with_commands kinds setup (with_answers kinds setup before work)).state t (sw t) z (in_ t))
              (append_assoc (out t) (told t letters) (told t r.tells.letters) ∙ ap (λ (z : List Message). out t ++ z) (sym (told-append t letters r.tells.letters))) (r.served t less);
        }

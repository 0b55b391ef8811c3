-- What the laws ask of the controllers, and of nothing else but bodies: three facts on committed logs, and sentences
-- about one turn of a controller.
use Rattle.std.specs.Prelude.{◌≡◌, ◌<◌, ◌≤◌, ◌⊎◌, ℕ, ◌%◌, ◌^◌, true, List, ◌∷◌, ◌++◌, length, drop}
use Rattle.of_types.specs.declared.message.Extension.TheVariants as extension
use Rattle.of_types.specs.declared.message.Happening.{Happening}
use Rattle.of_types.specs.declared.message.OfMessage.TheVariants as plain
use Rattle.of_types.specs.declared.message.Outcome.{Outcome}
use Rattle.of_types.specs.declared.message.Spoken.{Spoken}
use Rattle.of_types.specs.declared.message.Spoken.TheVariants as spoken
use Rattle.of_types.specs.declared.numbers.TheConstants.{MASTER}
use Rattle.of_types.specs.declared.setup.Setup.{Setup}
use Rattle.of_types.specs.Lives.{has_ended}
use Rattle.of_types.specs.Setups.{IsSetup}
use Rattle.journal.specs.declared.journal.Actor.TheVariants as actor
use Rattle.journal.specs.declared.journal.JournalEntry.{JournalEntry}
use Rattle.journal.specs.declared.journal.Letter.{Letter}
use Rattle.journal.specs.declared.journal.SaveResult.{SaveResult}
use Rattle.journal.specs.Actors.{same_actor, actor_of}
use Rattle.journal.specs.Part.{drawn}
use Rattle.list_facts.specs.Lists.{AreOne, IsIn, IsPrefix}
use Rattle.vr_log.specs.declared.entry.Entry.{Entry}
use Rattle.vr_log.specs.declared.entry.Entry.TheVariants.{Received, Processed}
use Rattle.vr_log.specs.declared.message.VrMessage.{VrMessage}
use Rattle.vr_log.specs.Log.{received, processed, may_follow}
use Rattle.vr_log.specs.Members.{is_up}
use Rattle.vr_log.specs.Sizes.{IsValidEntry, IsValidVr}
use Rattle.two_stage_log.specs.Counts.{processed_of}
use Rattle.app_core.specs.declared.issued.Issued.{Issued}
use Rattle.app_core.specs.Issued.{commands_of}
use Rattle.dispatcher.specs.Marks.{settled_commands}
use Rattle.group_controller.specs.declared.messages.ControllerInput.{ControllerInput}
use Rattle.group_controller.specs.declared.messages.ControllerInput.TheVariants as controller_input
use Rattle.group_controller.specs.declared.messages.ControllerSays.{ControllerSays}
use Rattle.group_controller.specs.State.{ControllerState, Work, committed, to_switch, to_member}
use Rattle.group_controller.specs.Rules.{controller_work}
use Rattle.run_spec.specs.States.{Scene}
use Rattle.run_spec.specs.Inputs.{IsHeard}
use Rattle.run_spec.specs.Legal.{IsPossible}
use Rattle.run_spec.specs.Committed.{controller_state, kept}
use Rattle.run_laws.specs.OnceLaws.Facts.{facts_of}
use Rattle.run_laws.specs.OnceLaws.Invariant.{HasEntry, HoldsEntry, HasAhead, HoldsAhead, IsHonest, IsHeardByController, HoldsOfRun}

-- a result that a controller holds, or that its input brings
abbrev pub IsMarked : ControllerState → ControllerInput → ℕ → ℕ → ℕ → Type 0
IsMarked c x switch life number =
    IsIn (switch, life, number) c.marks.acked
    ⊎ ((xid : ℕ) × (result : Outcome) × (x ≡ controller_input.Of switch xid (spoken.Ravana (extension.CmdAck life number result))))

-- a committed log that a controller had at some moment of a turn: a beginning of what it has committed at its end
pub record IsMoment (work : Work) (log : List Entry) : Type 0 where
  pub up : is_up work.state.vr ≡ true
  pub front : IsPrefix log (committed work.state)

-- where an entry comes from that a controller holds, or tells of, after a turn
pub data HasSource (kinds : List ℕ) (setup : Setup) (c : ControllerState) (x : ControllerInput) (i : ℕ) (e : Entry) : Type 0 where
  Was : HoldsEntry c.vr i e → HasSource kinds setup c x i e
  Came : (from : ℕ) (m : VrMessage) → x ≡ controller_input.Vr from m → HasEntry m i e → HasSource kinds setup c x i e
  Logs : (switch xid life number : ℕ) (what : Happening) → x ≡ controller_input.Of switch xid (spoken.Ravana (extension.Event life number what)) →
      e ≡ Received (record { switch = switch; life = life; number = number; what = what }) → HasSource kinds setup c x i e
  Finishes : (log : List Entry) → IsMoment (controller_work kinds setup c x) log → length log ≤ i → processed log < length (received log) → e ≡ Processed (processed log) →
      ((y : Issued) → IsIn y (commands_of kinds setup (received log) (processed log)) →
      IsMarked c x y.switch y.life y.number ⊎ (has_ended y.switch y.life (received log) ≡ true)) → HasSource kinds setup c x i e

-- what bounds a commit number that a controller holds, or tells, after a turn
pub data BoundBy (kinds : List ℕ) (setup : Setup) (c : ControllerState) (x : ControllerInput) (k : ℕ) : Type 0 where
  By_held : (k0 : ℕ) (entries : List Entry) → HoldsAhead c.vr k0 entries → k ≤ k0 → BoundBy kinds setup c x k
  By_told : (from : ℕ) (m : VrMessage) (k0 : ℕ) (entries : List Entry) → x ≡ controller_input.Vr from m → HasAhead m k0 entries → k ≤ k0 → BoundBy kinds setup c x k
  By_moment : (log : List Entry) → IsMoment (controller_work kinds setup c x) log → k ≤ length log → BoundBy kinds setup c x k

-- where an event stood as processed that does so beside a commit number: beside a lower one, or it is proposed
pub data OneBy (kinds : List ℕ) (setup : Setup) (c : ControllerState) (x : ControllerInput) (k j : ℕ) : Type 0 where
  One_held : (k0 : ℕ) (entries : List Entry) → HoldsAhead c.vr k0 entries → k0 ≤ k → IsIn (Processed j) entries → OneBy kinds setup c x k j
  One_told : (from : ℕ) (m : VrMessage) (k0 : ℕ) (entries : List Entry) → x ≡ controller_input.Vr from m → HasAhead m k0 entries → k0 ≤ k → IsIn (Processed j) entries → OneBy kinds setup c x k j
  One_proposed : (log : List Entry) → IsMoment (controller_work kinds setup c x) log → length log ≤ k → processed log < length (received log) → j ≡ processed log → OneBy kinds setup c x k j

pub record IsAheadBy (kinds : List ℕ) (setup : Setup) (c : ControllerState) (x : ControllerInput) (k : ℕ) (entries : List Entry) : Type 0 where
  pub bound : BoundBy kinds setup c x k
  pub one : (j : ℕ) → IsIn (Processed j) entries → OneBy kinds setup c x k j

-- what a turn says to a switch
pub data IsSent (kinds : List ℕ) (setup : Setup) (me : ℕ) (c : ControllerState) (x : ControllerInput) (switch : ℕ) (said : Spoken) : Type 0 where
  Asks : (generation : ℕ) → generation < 2 ^ 32 → generation % setup.controllers ≡ me → said ≡ spoken.Plain (plain.RoleRequest MASTER generation) → IsSent kinds setup me c x switch said
  Commands : (log : List Entry) (y : Issued) (generation : ℕ) → IsMoment (controller_work kinds setup c x) log → IsIn y (commands_of kinds setup (received log) (processed log)) → y.switch ≡ switch →
      generation % setup.controllers ≡ me →
      said ≡ spoken.Ravana (extension.Command y.life generation y.number (settled_commands kinds setup log y.switch y.life) y.order) → IsSent kinds setup me c x switch said
  Acknowledges : (log : List Entry) (life : ℕ) → IsMoment (controller_work kinds setup c x) log → said ≡ spoken.Ravana (extension.EventAck life (processed_of log switch life)) → IsSent kinds setup me c x switch said
  Clears : (log : List Entry) (life : ℕ) → IsMoment (controller_work kinds setup c x) log → said ≡ spoken.Ravana (extension.Clear life (settled_commands kinds setup log switch life)) → IsSent kinds setup me c x switch said
  Echoes : (xid : ℕ) (body : List ℕ) → x ≡ controller_input.Of switch xid (spoken.Plain (plain.EchoRequest body)) → IsSent kinds setup me c x switch said

-- a letter of a turn: to a switch, or to a member, which can be spelled if its entries can, and whose entries come from somewhere
pub data IsPosting (kinds : List ℕ) (setup : Setup) (me : ℕ) (c : ControllerState) (x : ControllerInput) (l : Letter ControllerSays) : Type 0 where
  Switches : (switch xid : ℕ) (said : Spoken) → l ≡ to_switch switch xid said → IsSent kinds setup me c x switch said → IsPosting kinds setup me c x l
  Members : (d : ℕ) (m : VrMessage) → l ≡ to_member (record { to = d; message = m }) → (((i : ℕ) (e : Entry) → HasEntry m i e → IsValidEntry e) → IsValidVr m) → ((i : ℕ) (e : Entry) → HasEntry m i e → HasSource kinds setup c x i e) →
      ((k : ℕ) (entries : List Entry) → HasAhead m k entries → IsAheadBy kinds setup c x k entries) → IsPosting kinds setup me c x l

-- one turn of a controller: no entry and no letter comes from nowhere. (That no mark does is proved of every turn.)
pub record IsGoodTurn (kinds : List ℕ) (setup : Setup) (me : ℕ) (c : ControllerState) (x : ControllerInput) : Type 0 where
  pub entries : (i : ℕ) (e : Entry) → HoldsEntry (controller_work kinds setup c x).state.vr i e → HasSource kinds setup c x i e
  pub ahead : (k : ℕ) (entries : List Entry) → HoldsAhead (controller_work kinds setup c x).state.vr k entries → IsAheadBy kinds setup c x k entries
  pub letters : (l : Letter ControllerSays) → IsIn l (controller_work kinds setup c x).letters → IsPosting kinds setup me c x l

-- the entry may follow each of those before it
abbrev pub IsProperLog : List Entry → Type 0
IsProperLog log = (front back : List Entry) (e : Entry) → log ≡ front ++ e ∷ back → may_follow front e ≡ true

-- the controllers' side of a world, whose setup is within the limits. Each of its facts may use that the invariant holds after every earlier past
pub record AreControllers {B : Type 0} (scene : Scene B) (results : List (List SaveResult)) : Type 0 where
  pub setup : IsSetup scene.setup
  pub agree : (e : JournalEntry B) (before : List (JournalEntry B)) → IsPossible scene results (e ∷ before) → ((i : ℕ) → HoldsOfRun scene results (drop i before)) →
      (c d i j : ℕ) → c < scene.setup.controllers → d < scene.setup.controllers → AreOne (kept scene results c (drop i (e ∷ before))) (kept scene results d (drop j (e ∷ before)))
  pub valid : (e : JournalEntry B) (before : List (JournalEntry B)) → IsPossible scene results (e ∷ before) → ((i : ℕ) → HoldsOfRun scene results (drop i before)) →
      (c : ℕ) → c < scene.setup.controllers → IsProperLog (kept scene results c (e ∷ before))
  pub turns : (e : JournalEntry B) (before : List (JournalEntry B)) → IsPossible scene results (e ∷ before) → ((i : ℕ) → HoldsOfRun scene results (drop i before)) →
      (c : ℕ) → c < scene.setup.controllers → same_actor (actor_of e) (actor.Controller c) ≡ true → (x : ControllerInput) → IsHeard scene e (drawn e before) x →
      IsHonest scene.kinds scene.setup (facts_of scene results before) (controller_state scene results c before) → IsHeardByController scene.kinds scene.setup (facts_of scene results before) x →
      IsGoodTurn scene.kinds scene.setup c (controller_state scene results c before) x

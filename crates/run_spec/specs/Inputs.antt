-- The input that an actor takes with an entry of its part.
use Rattle.std.specs.Prelude.{◌≡◌, ℕ, Bool, Option, Some}
use Rattle.journal.specs.declared.journal.Actor.{Actor}
use Rattle.journal.specs.declared.journal.JournalEntry.{JournalEntry}
use Rattle.journal.specs.declared.journal.JournalEntry.TheVariants.{Draw, Local}
use Rattle.journal.specs.declared.journal.Local.{Local as LocalInput}
use Rattle.journal.specs.declared.journal.Packet.{Packet}
use Rattle.group_controller.specs.declared.messages.ControllerInput.{ControllerInput}
use Rattle.of_switch.specs.declared.says.SwitchInput.{SwitchInput}
use Rattle.run_spec.specs.States.{Scene, Sealing, Speech, content, controller_speech, switch_speech}

-- of any actor
pub data IsInput {B I A : Type 0} (speech : Speech I A) (sealing : Sealing B) (e : JournalEntry B) (found : Option (Packet B)) (x : I) : Type 0 where
  By_draw : (a : Actor) (id : ℕ) (keep : Bool) (p : Packet B) → e ≡ Draw a id keep → found ≡ Some p → x ≡ speech.hears p.from (content sealing p) → IsInput speech sealing e found x
  By_local : (a : Actor) (input : LocalInput) → e ≡ Local a input → x ≡ speech.locally input → IsInput speech sealing e found x

-- of a controller
abbrev pub IsHeard : {B : Type 0} → Scene B → JournalEntry B → Option (Packet B) → ControllerInput → Type 0
IsHeard scene e found x = IsInput controller_speech scene.sealing e found x

-- of a switch
abbrev pub IsHeardAt : {B : Type 0} → Scene B → JournalEntry B → Option (Packet B) → SwitchInput → Type 0
IsHeardAt scene e found x = IsInput switch_speech scene.sealing e found x

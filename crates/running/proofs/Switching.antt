-- A switch goes on behind its own entries.
use Rattle.std.proofs.Common.{◌≡◌, ℕ, List, [], ◌∷◌, ◌++◌, ◌∙◌, ap, subst}
use Rattle.std.specs.Prelude.{Option, Some, None}
use Rattle.journal.specs.declared.journal.Actor.{Actor}
use Rattle.journal.specs.declared.journal.JournalEntry.{JournalEntry}
use Rattle.journal.specs.declared.journal.Letter.{Letter}
use Rattle.journal.specs.declared.journal.Packet.{Packet}
use Rattle.journal.specs.Turns.{posting}
use Rattle.of_switch.specs.declared.says.SwitchInput.{SwitchInput}
use Rattle.of_switch.specs.declared.says.SwitchInput.TheVariants as switch_input
use Rattle.of_switch.specs.declared.says.SwitchSays.{SwitchSays}
use Rattle.of_switch.specs.State.{SwitchState, starting_switch}
use Rattle.of_switch.specs.Rules.{switch_turn}
use Rattle.run_spec.specs.States.{Scene, switch_hears, switch_message, switch_rules, switch_speech}
use Rattle.world.specs.Standing.{SwitchStands}
use Rattle.world.specs.World.{IsOwed}
use Rattle.world.proofs.Standing.{posts, rests, takes}
use Rattle.shared_wire.specs.Calls.{beside_seat}
use Rattle.running.specs.Hearing.{Hears}
use Rattle.running.proofs.Hearing.{heard, unheard}

module _ {B : Type 0} (scene : Scene B) (s : ℕ) where
  abbrev start : SwitchState
  start = starting_switch s scene.setup

  -- what it owes is posted
  pub switch_posts : (a : Actor) (own : List (JournalEntry B × Option (Packet B))) (state : SwitchState) (owed : List (Letter B)) (before : List (JournalEntry B)) →
      SwitchStands scene s own state owed → SwitchStands scene s (beside_seat (posting scene.sealing.size a owed before) before ++ own) state []
  switch_posts a own state [] before h = h
  switch_posts a own state (l ∷ owed) before h = posts switch_rules switch_speech scene.sealing start own state l owed a _ _ None h

  -- it hears nothing at an entry of its own
  pub switch_rests : (own : List (JournalEntry B × Option (Packet B))) (state : SwitchState) (e : JournalEntry B) (found : Option (Packet B)) →
      Hears scene.sealing switch_hears (λ l. switch_input.Local l) e found None → SwitchStands scene s own state [] → SwitchStands scene s ((e, found) ∷ own) state []
  switch_rests own state e found hears h = rests switch_rules switch_speech scene.sealing start own state e found (unheard switch_speech scene.sealing e found hears) h

  -- it takes what it hears there
  pub switch_takes : (own : List (JournalEntry B × Option (Packet B))) (state : SwitchState) (e : JournalEntry B) (found : Option (Packet B)) (x : SwitchInput)
      (new : SwitchState) (letters : List (Letter SwitchSays)) (sealed : List (Letter B)) →
      Hears scene.sealing switch_hears (λ l. switch_input.Local l) e found (Some x) → SwitchStands scene s own state [] →
      new ≡ (switch_turn state x).state → letters ≡ (switch_turn state x).letters → IsOwed switch_message scene.sealing letters sealed →
      SwitchStands scene s ((e, found) ∷ own) new sealed
  switch_takes own state e found x new letters sealed hears h new_is letters_are owes =
      let input = heard switch_speech scene.sealing e found x hears in
      takes switch_rules switch_speech scene.sealing start own state e found x new sealed input.0 input.1 h
      (new_is ∙ ap (λ (y : SwitchState). (switch_turn y x).state) h.state_is)
      (subst (λ (ls : List (Letter SwitchSays)). IsOwed switch_message scene.sealing ls sealed) (letters_are ∙ ap (λ (y : SwitchState). (switch_turn y x).letters) h.state_is) owes)

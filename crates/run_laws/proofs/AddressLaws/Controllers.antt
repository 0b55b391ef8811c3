-- A turn of a controller writes to actors of the setup.
use Rattle.std.proofs.Common.{◌<◌, ℕ, ◌+◌, Bool, not, ◌&&◌, List, [], map, length, arith}
use Rattle.std.specs.Prelude.{nat_eq, nat_lt, None, if◌then◌else◌}
use Rattle.std.proofs.lemmas.Bool.{cond_both}
use Rattle.of_types.specs.declared.message.Event.{Event}
use Rattle.of_types.specs.declared.message.Extension.{Extension}
use Rattle.of_types.specs.declared.message.Extension.TheVariants as extension
use Rattle.of_types.specs.declared.message.OfMessage.{OfMessage}
use Rattle.of_types.specs.declared.message.OfMessage.TheVariants as plain
use Rattle.of_types.specs.declared.message.Spoken.{Spoken}
use Rattle.of_types.specs.declared.message.Spoken.TheVariants as spoken
use Rattle.of_types.specs.declared.numbers.TheConstants.{MASTER}
use Rattle.of_types.specs.declared.setup.Setup.{Setup}
use Rattle.of_types.specs.Lives.{last_life}
use Rattle.journal.specs.declared.journal.Local.{Local}
use Rattle.journal.specs.declared.journal.Local.TheVariants as local
use Rattle.journal.specs.Actors.{AreAddressed}
use Rattle.journal.proofs.All.{all_append, all_filter}
use Rattle.vr_log.specs.declared.entry.Entry.TheVariants.{Received}
use Rattle.vr_log.specs.Members.{is_up, leads}
use Rattle.vr_log.specs.Steps.{VrStep}
use Rattle.vr_recovery.specs.Recovering.{restarted}
use Rattle.vr_core.specs.declared.input.VrInput.TheVariants as vr_input
use Rattle.vr_core.specs.Step.{vr_step}
use Rattle.app_core.specs.declared.issued.Issued.{Issued}
use Rattle.dispatcher.specs.declared.answers.EventAction.{EventAction}
use Rattle.dispatcher.specs.declared.answers.EventAction.TheVariants.{Propose, Acknowledge, Nothing}
use Rattle.dispatcher.specs.Marks.{Marks, no_marks, is_confirmed, confirmed_by, is_pending, has_result, with_mark, with_marked_result, outstanding}
use Rattle.dispatcher.specs.Folding.{wish}
use Rattle.group_controller.specs.declared.messages.ControllerInput.{ControllerInput}
use Rattle.group_controller.specs.declared.messages.ControllerInput.TheVariants as controller_input
use Rattle.group_controller.specs.State.{ControllerState, Work, committed, with_no_met_limit, down, resting, posting_work, leaving, stepped}
use Rattle.group_controller.specs.Settling.{role_letter, after_finishing, settling}
use Rattle.group_controller.specs.Rules.{switches, has_started, starting_view, after_step, unconfirmed, tick_letters, on_tick, on_wish, on_result, on_master, on_hello, on_plain, on_extension, on_spoken, on_switch, on_restart, on_local, on_input, when_down, is_down, controller_work}
use Rattle.run_laws.specs.AddressLaws.Addresses.{AreSwitches, AreOfSwitches, KnowsSwitches, IsToController}
use Rattle.run_laws.specs.AddressLaws.Laws.{IsAddressedWork, ControllersWriteToActors}
use Rattle.run_laws.proofs.AddressLaws.Lists.{all_with, all_without, range_below}
use Rattle.run_laws.proofs.AddressLaws.Members.{StaysIn, step_stays, restart_stays}
use Rattle.run_laws.proofs.AddressLaws.Settling.{addressed, with_names, members_go, roles_go, commands_go, outstanding_go, posted, all_finished, settled, proposes, finishing_kept, settling_kept, proposing_kept}

module _ (kinds : List ℕ) (setup : Setup) where
  -- where the log at the end has events of the setup's switches alone, the work is good
  abbrev Ends : Work → Type 0
  Ends work = AreOfSwitches setup work.state.vr.log → IsAddressedWork setup work

  choice : (b : Bool) (x y : Work) → Ends x → Ends y → Ends (if b then x else y)
  choice b x y f g = cond_both b x y Ends (λ _. f) (λ _. g)

  all_switches : AreSwitches setup (switches setup)
  all_switches = range_below 0 (length setup.ports) (length setup.ports) (omega arith)

  step_good : (c : ControllerState) (step : VrStep) → KnowsSwitches setup c → StaysIn setup.controllers step → IsAddressedWork setup (stepped c step)
  step_good c step k s = record { knows = record { member = s.member; confirmed = k.confirmed }; sends = members_go kinds setup step.letters s.letters }

  rests : (c : ControllerState) → KnowsSwitches setup c → Ends (resting c)
  rests c k names = record { knows = k; sends = tt }

  -- a step of the member
  view_starts : (work : Work) → IsAddressedWork setup work → Ends (starting_view kinds setup work)
  view_starts work a names =
      let c : ControllerState = record work.state { marks = no_marks; last_told = None } in
      let begun : Work = posting_work (leaving work c) (map (role_letter c.vr.view) (switches setup)) in
      let b = posted kinds setup (leaving work c) (map (role_letter c.vr.view) (switches setup)) (roles_go kinds setup c.vr.view (switches setup) all_switches)
      (record { knows = record { member = a.knows.member; confirmed = tt }; sends = a.sends }) in
      addressed kinds setup (settling kinds setup c.vr.commit begun) (settled kinds setup c.vr.commit begun (with_names kinds setup begun b (settling_kept kinds setup c.vr.commit begun names)))

  after_good : (c : ControllerState) (step : VrStep) → KnowsSwitches setup c → StaysIn setup.controllers step → Ends (after_step kinds setup c step)
  unfolding after_step
  after_good c step k s =
      let a = step_good c step k s in
      choice (has_started c.vr step.state) (starting_view kinds setup (stepped c step)) _ (view_starts (stepped c step) a)
      (choice (leads step.state && nat_lt c.vr.commit step.state.commit) (settling kinds setup c.vr.commit (stepped c step)) (stepped c step)
      (λ names. addressed kinds setup (settling kinds setup c.vr.commit (stepped c step)) (settled kinds setup c.vr.commit (stepped c step) (with_names kinds setup (stepped c step) a (settling_kept kinds setup c.vr.commit (stepped c step) names))))
      (λ names. a))

  ticks : (c : ControllerState) → KnowsSwitches setup c → Ends (on_tick kinds setup c)
  ticks c k names =
      posted kinds setup (stepped c (vr_step c.vr vr_input.Tick)) _
      (cond_both (leads c.vr) (tick_letters kinds setup c) [] (AreAddressed setup)
      (λ _. all_append _ (map (role_letter c.vr.view) (unconfirmed setup c)) _ (roles_go kinds setup c.vr.view (unconfirmed setup c) (all_filter (λ s. s < length setup.ports) (λ s. not (is_confirmed c.marks s)) (switches setup) all_switches))
      (commands_go kinds setup c _ (outstanding_go kinds setup (committed c) c.marks k.confirmed)))
      (λ _. tt))
      (step_good c (vr_step c.vr vr_input.Tick) k (step_stays setup.controllers c.vr vr_input.Tick k.member))

  -- what a switch says
  wished : (c : ControllerState) (event : Event) (w : EventAction) → event.switch < length setup.ports → KnowsSwitches setup c → Ends (on_wish kinds setup c event w)
  wished c event Propose there k names =
      addressed kinds setup _ (proposes kinds setup c (Received event) there (record { knows = k; sends = tt; log = proposing_kept kinds setup c (Received event) names }))
  wished c event (Acknowledge through) there k names = record { knows = k; sends = (there, tt) }
  wished c event Nothing there k names = record { knows = k; sends = tt }

  marked : (log : _) (marks : Marks) (switch life number : ℕ) → AreSwitches setup marks.confirmed → AreSwitches setup (with_marked_result kinds setup log marks switch life number).confirmed
  marked log marks switch life number h =
      cond_both (is_pending kinds setup log switch life number) (with_mark marks switch life number) marks (λ (m : Marks). AreSwitches setup m.confirmed)
      (λ _. cond_both (has_result marks switch life number) marks _ (λ (m : Marks). AreSwitches setup m.confirmed) (λ _. h) (λ _. h)) (λ _. h)

  results : (c : ControllerState) (switch life number : ℕ) → KnowsSwitches setup c → Ends (on_result kinds setup c switch life number)
  results c switch life number k =
      let now : ControllerState = record c { marks = with_marked_result kinds setup (committed c) c.marks switch life number } in
      choice (is_pending kinds setup (committed c) switch life number) (after_finishing kinds setup (resting now)) (resting c)
      (λ names. addressed kinds setup _ (all_finished kinds setup (resting now)
      (record { knows = record { member = k.member; confirmed = marked (committed c) c.marks switch life number k.confirmed }; sends = tt; log = finishing_kept kinds setup (resting now) names })))
      (rests c k)

  masters : (c : ControllerState) (switch : ℕ) → switch < length setup.ports → KnowsSwitches setup c → Ends (on_master kinds setup c switch)
  masters c switch there k names =
      let now : ControllerState = record c { marks = confirmed_by c.marks switch } in
      let more = all_with (λ s. s < length setup.ports) switch c.marks.confirmed there k.confirmed in
      record {
        knows = record { member = k.member; confirmed = more };
        sends = commands_go kinds setup now _ (all_filter (λ (x : Issued). x.switch < length setup.ports) (λ x. nat_eq x.switch switch) (outstanding kinds setup (committed now) now.marks) (outstanding_go kinds setup (committed now) now.marks more));
      }

  greeted : (c : ControllerState) (switch : ℕ) → switch < length setup.ports → KnowsSwitches setup c → Ends (on_hello c switch)
  greeted c switch there k names =
      record { knows = record { member = k.member; confirmed = all_without (λ s. s < length setup.ports) switch c.marks.confirmed k.confirmed }; sends = (there, tt) }

  module _ (c : ControllerState) (switch : ℕ) (there : switch < length setup.ports) (k : KnowsSwitches setup c) where
    plain_good : (what : OfMessage) → Ends (on_plain kinds setup c switch what)
    plain_good (plain.RoleReply role generation) = choice (nat_eq role MASTER && nat_eq generation c.vr.view) _ _ (masters c switch there k) (rests c k)
    plain_good plain.Hello = greeted c switch there k
    plain_good _ = rests c k

    extension_good : (what : Extension) → Ends (on_extension kinds setup c switch what)
    extension_good (extension.Event life number what) =
        let event : Event = record { switch = switch; life = life; number = number; what = what } in wished c event (wish c.vr.log (committed c) event) there k
    extension_good (extension.CmdAck life number outcome) = results c switch life number k
    extension_good _ = rests c k

    spoken_good : (said : Spoken) → Ends (on_spoken kinds setup c switch said)
    spoken_good (spoken.Plain what) = plain_good what
    spoken_good (spoken.Ravana what) = extension_good what

    led_good : (said : Spoken) → Ends (if leads c.vr then on_spoken kinds setup c switch said else resting c)
    led_good said = choice (leads c.vr) _ _ (spoken_good said) (rests c k)

    switch_good : (xid : ℕ) (said : Spoken) → Ends (on_switch kinds setup c switch xid said)
    switch_good xid (spoken.Plain (plain.EchoRequest body)) = choice (is_up c.vr) _ _ (λ names. record { knows = k; sends = (there, tt) }) (rests c k)
    switch_good xid (spoken.Plain what) = led_good (spoken.Plain what)
    switch_good xid (spoken.Ravana what) = led_good (spoken.Ravana what)

  -- one that is down has nothing
  pub down_knows : (c : ControllerState) (promise life : ℕ) → KnowsSwitches setup c → KnowsSwitches setup (down c promise life)
  down_knows c promise life k = record { member = record { all = k.member.all; me = k.member.me; collected = tt }; confirmed = tt }

  local_good : (c : ControllerState) (what : Local) → KnowsSwitches setup c → Ends (on_local kinds setup c what)
  local_good c (local.Frame port bytes) k = rests c k
  local_good c (local.Port port up) k = rests c k
  local_good c local.Tick k = ticks c k
  local_good c (local.Suspect view) k = after_good c (vr_step c.vr (vr_input.Suspect view)) k (step_stays setup.controllers c.vr (vr_input.Suspect view) k.member)
  local_good c local.Crash k = rests (down c c.vr.promise c.vr.life) (down_knows c c.vr.promise c.vr.life k)
  local_good c local.Restart k = rests c k

  input_good : (c : ControllerState) (x : ControllerInput) → IsToController setup x → KnowsSwitches setup c → Ends (on_input kinds setup c x)
  input_good c (controller_input.Local what) there k = local_good c what k
  input_good c (controller_input.Of switch xid said) there k = switch_good c switch there k xid said
  input_good c (controller_input.Malformed sender) there k = rests c k
  input_good c (controller_input.Vr from said) there k = after_good c (vr_step c.vr (vr_input.From from said)) k (step_stays setup.controllers c.vr (vr_input.From from said) k.member)

  restart_good : (c : ControllerState) → KnowsSwitches setup c → Ends (on_restart c)
  restart_good c k =
      choice (nat_lt c.vr.life last_life) _ (resting c)
      (λ names. let s = restart_stays setup.controllers c.vr.me c.vr.controllers c.vr.promise (c.vr.life + 1) k.member.all k.member.me in
      record { knows = record { member = s.member; confirmed = tt }; sends = members_go kinds setup (restarted c.vr.me c.vr.controllers c.vr.promise (c.vr.life + 1)).letters s.letters })
      (rests c k)

  down_good : (c : ControllerState) (x : ControllerInput) → KnowsSwitches setup c → Ends (when_down c x)
  down_good c (controller_input.Local local.Restart) k = restart_good c k
  down_good c (controller_input.Local _) k = rests c k
  down_good c (controller_input.Of switch xid said) k = rests c k
  down_good c (controller_input.Malformed sender) k = rests c k
  down_good c (controller_input.Vr from said) k = rests c k

  turn_good : (c : ControllerState) (x : ControllerInput) → KnowsSwitches setup c → IsToController setup x → Ends (controller_work kinds setup c x)
  unfolding controller_work
  turn_good c x k there =
      choice (is_down c) (when_down c x) (on_input kinds setup (with_no_met_limit c) x) (down_good c x k)
      (input_good (with_no_met_limit c) x there (record { member = k.member; confirmed = k.confirmed }))

pub controllers_write : ControllersWriteToActors
controllers_write kinds setup c x knows there names = turn_good kinds setup c x knows there names

-- What learns keeps the laws of rules, in whatever manner it learns.
use Rattle.std.proofs.Common.{◌≤◌, ◌<◌, ℕ, ◌^◌, List, [], ◌∷◌, length, arith}
use Rattle.std.specs.Prelude.{nat_eq, Option, Some, None, unwrap_or}
use Rattle.std.proofs.lemmas.Bool.{cond_both}
use Rattle.of_types.specs.declared.message.Command.{Command}
use Rattle.of_types.specs.declared.message.Event.{Event}
use Rattle.of_types.specs.declared.message.Happening.{Happening}
use Rattle.of_types.specs.declared.message.Happening.TheVariants as happening
use Rattle.of_types.specs.declared.message.PacketIn.{PacketIn}
use Rattle.of_types.specs.declared.numbers.TheConstants.{FLOOD}
use Rattle.of_types.specs.declared.setup.Setup.{Setup}
use Rattle.of_types.specs.Header.{number_at}
use Rattle.app_core.specs.declared.host.Host.{Host}
use Rattle.app_core.specs.declared.manner.Manner.{Manner}
use Rattle.app_core.specs.Chain.{hosts_of, learning_rule}
use Rattle.app_core.specs.Commands.{packet_out}
use Rattle.app_core.specs.Learning.{forgetting_rows, forwarded, forwarding_row, hosts_after, learning_commands, seen_destination}
use Rattle.app_core.specs.Orders.{AreGoodCommands, IsSendable}
use Rattle.app_core.specs.Rules.{HasLaws, state_after}
use Rattle.app_core.proofs.Spelled.{address_below, addressed_valid, any_valid, out_lawful}

delete_sendable : (switch port : ℕ) → IsSendable (forgetting_rows switch port).order
delete_sendable switch port = (any_valid, omega arith, tt)

module _ (manner : Manner) where
  row_sendable : (switch port address output : ℕ) → address < 2 ^ 48 → IsSendable (forwarding_row manner switch port address output).order
  row_sendable switch port address output below = (addressed_valid port address below, omega arith, tt)

  module _ (setup : Setup) (life number switch : ℕ) (there : switch < length setup.ports) where
    abbrev Of : Happening → List Command → Type 0
    Of what commands = AreGoodCommands setup (record { switch = switch; life = life; number = number; what = what }) commands

    forwarded_lawful : (p : PacketIn) (seen : Option ℕ) → Of (happening.PacketIn p) (forwarded manner switch p.in_port p.payload seen)
    forwarded_lawful p None = (out_lawful setup life number switch there p FLOOD, tt)
    forwarded_lawful p (Some output) =
        cond_both (nat_eq output p.in_port) [] (forwarding_row manner switch p.in_port (unwrap_or (number_at 6 0 p.payload) 0) output ∷ packet_out switch p.in_port p.payload output ∷ [])
        (Of (happening.PacketIn p)) (λ _. tt)
        (λ _. (
          record { named = there; few = tt; sendable = λ short. row_sendable switch p.in_port (unwrap_or (number_at 6 0 p.payload) 0) output (address_below p.payload short.1) },
          (out_lawful setup life number switch there p output, tt),
        ))

    commands_lawful : (hosts : List Host) (what : Happening) → Of what (learning_commands manner hosts switch what)
    commands_lawful hosts (happening.PacketIn p) = forwarded_lawful p (seen_destination hosts switch (number_at 6 0 p.payload))
    commands_lawful hosts (happening.PortStatus p) =
        cond_both p.up [] (forgetting_rows switch p.port ∷ []) (Of (happening.PortStatus p)) (λ _. tt) (λ _. (record { named = there; few = tt; sendable = λ _. delete_sendable switch p.port }, tt))
    commands_lawful hosts (happening.FlowRemoved r) = tt

  pub learning_few : (hosts : List Host) (event : Event) → length (learning_commands manner hosts event.switch event.what) ≤ 2
  learning_few hosts event = by_what event.what
    where
      by_seen : (port : ℕ) (frame : List ℕ) (seen : Option ℕ) → length (forwarded manner event.switch port frame seen) ≤ 2
      by_seen port frame None = omega arith
      by_seen port frame (Some output) = cond_both (nat_eq output port) _ _ (λ (x : List Command). length x ≤ 2) (λ _. omega arith) (λ _. omega arith)

      by_what : (what : Happening) → length (learning_commands manner hosts event.switch what) ≤ 2
      by_what (happening.PacketIn p) = by_seen p.in_port p.payload (seen_destination hosts event.switch (number_at 6 0 p.payload))
      by_what (happening.PortStatus p) = cond_both p.up _ _ (λ (x : List Command). length x ≤ 2) (λ _. omega arith) (λ _. omega arith)
      by_what (happening.FlowRemoved r) = omega arith

  pub learning_laws : HasLaws (learning_rule manner)
  learning_laws = record {
    lawful = λ setup is state event there. commands_lawful setup event.life event.number event.switch there (hosts_after manner (hosts_of state) event.switch event.what) event.what;
    few = λ setup is before event there. learning_few (hosts_after manner (hosts_of (state_after (learning_rule manner) setup before)) event.switch event.what) event;
  }

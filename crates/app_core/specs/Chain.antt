-- Applications, and the plain controller that never fails and runs them on a list of events.
use Rattle.std.specs.Prelude.{ℕ, ◌*◌, take, drop, false, nat_eq, is_some, List, [], ◌∷◌, ◌+◌, ◌++◌, length, map, if◌then◌else◌}
use Rattle.of_types.specs.declared.message.Command.{Command}
use Rattle.of_types.specs.declared.message.Event.{Event}
use Rattle.of_types.specs.declared.setup.Setup.{Setup}
use Rattle.app_core.specs.declared.host.Host.{Host}
use Rattle.app_core.specs.declared.manner.Manner.{Manner}
use Rattle.app_core.specs.declared.switch_port.SwitchPort.{SwitchPort}
use Rattle.of_types.specs.Lives.{is_switch_up}
use Rattle.app_core.specs.Firewall.{first_hit, installed_after, firewall_commands, rows_at}
use Rattle.app_core.specs.Hub.{hub_commands}
use Rattle.app_core.specs.Learning.{hosts_after, learning_commands, plainly, pinning, ageing}
use Rattle.app_core.specs.Operator.{asked_version}
use Rattle.app_core.specs.PartRule.{PartRule, PartStep, no_rule, passes_on, rule_step}
use Rattle.app_core.specs.Routing.{Routing, routing_after, routing_commands}
use Rattle.app_core.specs.Slot.{slot_rule}

-- lists, one after another
abbrev pub concat : {A : Type 0} → List (List A) → List A
concat [] = []
concat (xs ∷ lists) = xs ++ concat lists

-- hosts as numbers, three for each
abbrev pub flat : List Host → List ℕ
flat [] = []
flat (h ∷ hosts) = h.switch ∷ h.address ∷ h.port ∷ flat hosts

abbrev pub hosts_of : List ℕ → List Host
hosts_of (switch ∷ address ∷ port ∷ numbers) = record { switch = switch; address = address; port = port } ∷ hosts_of numbers
hosts_of _ = []

-- ports as numbers, two for each
abbrev pub flat_ports : List SwitchPort → List ℕ
flat_ports [] = []
flat_ports (p ∷ ports) = p.switch ∷ p.port ∷ flat_ports ports

abbrev pub ports_of : List ℕ → List SwitchPort
ports_of (switch ∷ port ∷ numbers) = record { switch = switch; port = port } ∷ ports_of numbers
ports_of _ = []

-- what routing knows as numbers: how many addresses there are, then these, then the ports that are down
abbrev pub flat_routing : Routing → List ℕ
flat_routing r = length r.hosts ∷ flat r.hosts ++ flat_ports r.down

abbrev pub routing_of : List ℕ → Routing
routing_of (count ∷ numbers) = record { hosts = hosts_of (take (3 * count) numbers); down = ports_of (drop (3 * count) numbers) }
routing_of [] = record { hosts = []; down = [] }

-- the firewall (Firewall.antt). A packet-in that a rule denies goes no further, and a switch that is up again gets its rows
abbrev pub firewall_step : Setup → List ℕ → Event → PartStep
firewall_step setup installed event =
    if is_switch_up event.what then record { state = installed; commands = rows_at setup event.switch installed; stops = false }
    else
    let hit = first_hit setup.deny event.what in
    record {
      state = installed_after installed hit;
      commands = firewall_commands setup installed hit;
      stops = is_some hit;
    }

-- what learns (Learning.antt), in some manner: it learns first, and answers by what it then knows
abbrev pub learning_step : Manner → List Host → Event → PartStep
learning_step manner hosts event =
    record {
      state = flat (hosts_after manner hosts event.switch event.what);
      commands = learning_commands manner (hosts_after manner hosts event.switch event.what) event.switch event.what;
      stops = false;
    }

-- a hub (Hub.antt)
abbrev pub hub_step : List ℕ → Event → PartStep
hub_step state event = record (passes_on state) { commands = hub_commands event.switch event.what }

-- routing (Routing.antt): it learns first, and answers by what it then knows
abbrev pub routing_step : Setup → Routing → Event → PartStep
routing_step setup r event =
    record {
      state = flat_routing (routing_after setup r event.switch event.what);
      commands = routing_commands setup (routing_after setup r event.switch event.what) event.switch event.what;
      stops = false;
    }

-- the kinds of parts
abbrev pub firewall : ℕ
firewall = 1

abbrev pub learning : ℕ
learning = 2

abbrev pub slot : ℕ
slot = 3

abbrev pub hub : ℕ
hub = 4

abbrev pub pinned : ℕ
pinned = 5

abbrev pub aging : ℕ
aging = 6

abbrev pub routing : ℕ
routing = 7

-- a firewall has at most 16 rules, and a setup at most 64 switches, each of which gets a row
abbrev pub firewall_rule : PartRule
firewall_rule = record { next = λ setup state event. firewall_step setup state event; starts = []; most = 64 }

-- a row and a frame
abbrev pub learning_rule : Manner → PartRule
learning_rule manner = record { next = λ setup state event. learning_step manner (hosts_of state) event; starts = []; most = 2 }

-- a frame
abbrev pub hub_rule : PartRule
hub_rule = record { next = λ setup state event. hub_step state event; starts = []; most = 1 }

-- the rows of 63 switches and a frame, or a frame for each of at most 64 switches. It starts with no address, and no port that is down
abbrev pub routing_rule : PartRule
routing_rule = record { next = λ setup state event. routing_step setup (routing_of state) event; starts = 0 ∷ []; most = 64 }

-- the rules of the kinds whose parts hold no other part
abbrev pub plain_rule_of : ℕ → PartRule
plain_rule_of kind =
    if nat_eq kind firewall then firewall_rule
    else if nat_eq kind learning then learning_rule plainly
    else if nat_eq kind hub then hub_rule
    else if nat_eq kind pinned then learning_rule pinning
    else if nat_eq kind aging then learning_rule ageing
    else if nat_eq kind routing then routing_rule
    else no_rule

-- the kinds of the versions that a slot has, by the numbers of these. An operator asks for one (Operator.antt)
abbrev pub versions : List ℕ
versions = learning ∷ hub ∷ pinned ∷ aging ∷ routing ∷ []

-- the table of kinds. That each rule in it keeps its laws is in proofs/Table.antt
unfoldable pub rule_of : ℕ → PartRule
rule_of kind = if nat_eq kind slot then slot_rule asked_version (map plain_rule_of versions) else plain_rule_of kind

-- at most so many commands does a part of a kind give for an event, and so many do the parts of a chain together
abbrev pub most_given : ℕ → ℕ
most_given kind = (rule_of kind).most

abbrev pub given_by : List ℕ → ℕ
given_by [] = 0
given_by (kind ∷ kinds) = most_given kind + given_by kinds

-- one step of a part of a kind
unfoldable pub part_next : ℕ → Setup → List ℕ → Event → PartStep
part_next kind setup state event = rule_step (rule_of kind) setup state event

pub record ChainStep : Type 0 where
  pub states : List (List ℕ)
  pub commands : List Command

-- a chain asks its parts in order until one stops. Those after it keep their state
abbrev pub chain_next : List ℕ → Setup → List (List ℕ) → Event → ChainStep
chain_next (kind ∷ kinds) setup (state ∷ states) event =
    let step = part_next kind setup state event in
    let others = chain_next kinds setup states event in
    if step.stops then record { states = step.state ∷ states; commands = step.commands }
    else record { states = step.state ∷ others.states; commands = step.commands ++ others.commands }
chain_next kinds setup states event = record { states = states; commands = [] }

-- the state in which a part of a kind starts
abbrev pub starting : ℕ → List ℕ
starting kind = (rule_of kind).starts

abbrev pub starting_chain : List ℕ → List (List ℕ)
starting_chain kinds = map starting kinds

-- the states of the parts after these events
abbrev pub chain_after : List ℕ → Setup → List (List ℕ) → List Event → List (List ℕ)
chain_after kinds setup states [] = states
chain_after kinds setup states (event ∷ events) = chain_after kinds setup (chain_next kinds setup states event).states events

-- the commands for each event, from these states on
abbrev pub reactions_from : List ℕ → Setup → List (List ℕ) → List Event → List (List Command)
reactions_from kinds setup states [] = []
reactions_from kinds setup states (event ∷ events) =
    (chain_next kinds setup states event).commands ∷ reactions_from kinds setup (chain_next kinds setup states event).states events

-- the one controller that never fails: its commands for each event
unfoldable pub reactions : List ℕ → Setup → List Event → List (List Command)
reactions kinds setup events = reactions_from kinds setup (starting_chain kinds) events

-- its commands, joined
abbrev pub single : List ℕ → Setup → List Event → List Command
single kinds setup events = concat (reactions kinds setup events)

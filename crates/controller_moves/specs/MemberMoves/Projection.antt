-- What of a member's state, messages and letters counts for agreement.
use Rattle.std.specs.Prelude.{ℕ, Bool, nat_eq, ◌&&◌, Option, Some, None, List, length, map, slice_index}
use Rattle.agreement.specs.History as core
use Rattle.agreement.specs.History.{Group, size, State, Message, Letter, abstract_letter, Vote, Answer}
use Rattle.vr_log.specs.declared.entry.Entry.{Entry}
use Rattle.vr_log.specs.declared.message.Filled.{Filled}
use Rattle.vr_log.specs.declared.message.VrLetter.{VrLetter}
use Rattle.vr_log.specs.declared.message.VrMessage.{VrMessage}
use Rattle.vr_log.specs.declared.message.VrMessage.TheVariants as message
use Rattle.vr_log.specs.declared.state.Collected.{Collected}
use Rattle.vr_log.specs.declared.state.Response.{Response}
use Rattle.vr_log.specs.declared.state.Status.{Status}
use Rattle.vr_log.specs.declared.state.Status.TheVariants as status
use Rattle.vr_log.specs.declared.state.Supplied.{Supplied}
use Rattle.vr_log.specs.declared.state.VrState.{VrState}
use Rattle.vr_log.specs.Log.{is_log}

-- 2 f + 1 members, whose logs are logs
abbrev pub group_of : ℕ → Group Entry
group_of most_failures = record { most_failures = most_failures; is_log = λ log. is_log log }

abbrev pub member_status_of : Status → core.Status
member_status_of status.Normal = core.Normal
member_status_of status.ViewChange = core.ViewChange
member_status_of status.Recovering = core.Recovering
member_status_of status.Down = core.Down

abbrev pub vote_of : Collected → Vote Entry
vote_of c = record { from = c.from; normal = c.normal; commit = c.commit; rest = c.log }

abbrev pub answer_of : Option Filled → Answer Entry
answer_of None = core.Bare
answer_of (Some f) = core.Filled f.commit f.log

abbrev pub response_of : Response → core.Response Entry
response_of r = record { from = r.from; view = r.view; answer = answer_of r.filled }

abbrev pub supply_of : Option Supplied → Option (core.Supplied Entry)
supply_of None = None
supply_of (Some x) = Some (record { first = x.first; rest = x.log })

abbrev pub message_of : VrMessage → Message Entry
message_of (message.Prepare view op commit entry) = core.Prepare view op commit entry
message_of (message.PrepareOk view op) = core.PrepareOk view op
message_of (message.Commit view commit) = core.Commit view commit
message_of (message.StartViewChange view) = core.StartViewChange view
message_of (message.DoViewChange view normal commit log) = core.DoViewChange view normal commit log
message_of (message.StartView view first commit log) = core.StartView view first commit log
message_of (message.Recovery nonce promise) = core.Recovery nonce promise
message_of (message.RecoveryResponse view nonce filled) = core.RecoveryResponse view nonce (answer_of filled)
message_of (message.GetState view op) = core.GetState view op
message_of (message.NewState view first commit log) = core.NewState view first commit log
message_of (message.Fetch view op) = core.Fetch view op
message_of (message.Supply view first log) = core.Supply view first log

-- the letters of member c
abbrev pub letters_of : ℕ → List VrLetter → List (Letter Entry)
letters_of c letters = map (λ x. abstract_letter c x.to (message_of x.message)) letters

abbrev pub member_state_of : VrState → State Entry
member_state_of s =
    record {
      status = member_status_of s.status;
      view = s.view;
      normal = s.normal;
      log = s.log;
      commit = s.commit;
      acked = λ i. slice_index s.acked i;
      collected = map vote_of s.collected;
      supply = supply_of s.supply;
      responses = map response_of s.responses;
    }

-- the state is that of member c of the group, and counts what each member has acknowledged
abbrev pub is_member : Group Entry → ℕ → VrState → Bool
is_member g c s = nat_eq s.me c && (nat_eq s.controllers (size g) && nat_eq (length s.acked) (size g))

-- Each step of a member is a turn of moves.
use Rattle.std.proofs.Common.{◌≡◌, ℕ, ◌<◌, ◌≤◌, nat_eq, length, sym, ap, ◌∙◌}
use Rattle.std.proofs.lemmas.Bool.{and_from, eq-eqb}
use Rattle.agreement.specs.History.{Group, size, History, abstract_letter}
use Rattle.agreement.specs.Invariant.{Invariant, IsGroup}
use Rattle.list_facts.specs.Lists.{IsIn}
use Rattle.agreement.specs.Moves.{StandsAt}
use Rattle.vr_log.specs.declared.entry.Entry.{Entry}
use Rattle.vr_log.specs.declared.message.VrMessage.{VrMessage}
use Rattle.vr_log.specs.declared.message.VrMessage.TheVariants as message
use Rattle.vr_log.specs.declared.state.VrState.{VrState}
use Rattle.vr_core.specs.Step.{on_vr, vr_step}
use Rattle.controller_moves.specs.MemberMoves.Projection.{message_of, member_state_of, member_status_of}
use Rattle.controller_moves.specs.MemberMoves.Laws.{MessagesTurn, SuspicionsTurn, ProposalsTurn, TicksTurn, FallsTurn, RestartsTurn, StepsKeepMembers, AloneGoesOn, IsMemberTurn}
use Rattle.controller_moves.proofs.MemberMoves.Members.{IsMemberOf, member_of, goes_fetch, goes_prepare}
use Rattle.controller_moves.proofs.MemberMoves.Messages.{goes_commit, goes_get_state, goes_start_view, goes_new_state, goes_prepare_ok, goes_proposal}
use Rattle.controller_moves.proofs.MemberMoves.Changing.{goes_suspect, goes_start_view_change, goes_do_view_change, goes_supply, goes_recovery, goes_response, goes_down, goes_restart}
use Rattle.controller_moves.proofs.MemberMoves.Ticks.{goes_tick}
use Rattle.controller_moves.proofs.MemberMoves.Keeping.{step_keeps}
use Rattle.controller_moves.proofs.MemberMoves.Alone.{step_on}

module _ {g : Group Entry} {h h' : History Entry} {c : ℕ} {s : VrState} (gr : IsGroup g) (o : 1 ≤ g.most_failures) (i : Invariant g h) (b : c < size g) (at : StandsAt h c (member_state_of s) s.promise s.life) (fine : IsMemberOf g c s) where
  pub goes_on_vr : (from : ℕ) (x : VrMessage) → IsIn (abstract_letter from c (message_of x)) h.sent → IsMemberTurn g h h' c (on_vr s from x)
  unfolding on_vr
  goes_on_vr from (message.Prepare view op commit entry) j = goes_prepare gr i b at fine from view op commit entry (i.letters _ j)
  goes_on_vr from (message.PrepareOk view op) j = goes_prepare_ok gr i b at fine o from view op j
  goes_on_vr from (message.Commit view commit) j = goes_commit gr i b at fine from view commit (i.letters _ j)
  goes_on_vr from (message.StartViewChange view) j = goes_start_view_change gr o i b at fine from view
  goes_on_vr from (message.DoViewChange view normal commit log) j = goes_do_view_change gr o i b at fine from view normal commit log j
  goes_on_vr from (message.StartView view first commit log) j = goes_start_view gr i b at fine from view first commit log (i.letters _ j)
  goes_on_vr from (message.Recovery nonce promise) j = goes_recovery gr o i b at fine from nonce promise j
  goes_on_vr from (message.RecoveryResponse view nonce filled) j = goes_response gr o i b at fine from view nonce filled j
  goes_on_vr from (message.GetState view op) j = goes_get_state gr i b at fine from view op
  goes_on_vr from (message.NewState view first commit log) j = goes_new_state gr i b at fine from view first commit log (i.letters _ j)
  goes_on_vr from (message.Fetch view op) j = goes_fetch gr i b at fine from view op
  goes_on_vr from (message.Supply view first log) j = goes_supply gr o i b at fine from view first log j

pub messages_law : MessagesTurn
messages_law g h h' c from s x gr o i b w j = goes_on_vr gr o i b w.stands (member_of g c s w.member) from x j

pub suspicions_law : SuspicionsTurn
suspicions_law g h h' c s view gr o i b w = goes_suspect gr o i b w.stands (member_of g c s w.member) view

pub proposals_law : ProposalsTurn
proposals_law g h h' c s entry gr o i b w may fits = goes_proposal gr i b w.stands (member_of g c s w.member) o entry may fits

pub ticks_law : TicksTurn
ticks_law g h h' c s gr i b w = goes_tick gr i b w.stands (member_of g c s w.member)

pub falls_law : FallsTurn
falls_law g h h' c s promise life gr i b w up older = goes_down s gr i b w.stands promise life up older

pub restarts_law : RestartsTurn
restarts_law g h h' c s gr i b w down = goes_restart s gr i b w.stands (ap member_status_of down)

pub keeps_law : StepsKeepMembers
keeps_law g c s x z =
    let of_member = member_of g c s z in
    let k = step_keeps s x in
    let same : length (vr_step s x).state.acked ≡ s.controllers = k.acked (of_member.acked ∙ sym of_member.controllers) in
    and_from (nat_eq (vr_step s x).state.me c) _ (eq-eqb (vr_step s x).state.me c (k.me ∙ of_member.me))
    (and_from (nat_eq (vr_step s x).state.controllers (size g)) (nat_eq (length (vr_step s x).state.acked) (size g)) (eq-eqb (vr_step s x).state.controllers (size g) (k.controllers ∙ of_member.controllers))
    (eq-eqb (length (vr_step s x).state.acked) (size g) (same ∙ of_member.controllers)))

pub alone_law : AloneGoesOn
alone_law g c s x o b z = step_on (member_of g c s z) o b x

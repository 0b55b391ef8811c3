-- The moves of which a step of a member is made, and what a member may say.
use Rattle.std.specs.Prelude.{◌≡◌, ◌≤◌, ◌<◌, ◌⊎◌, ℕ, ◌+◌, Bool, true, List, [], ◌∷◌, ◌++◌, length, take, drop, slice_get, max, min, Some}
use Rattle.vr_log.specs.declared.entry.Entry.{Entry}
use Rattle.vr_log.specs.declared.message.Filled.{Filled}
use Rattle.vr_log.specs.declared.message.VrLetter.{VrLetter}
use Rattle.vr_log.specs.declared.message.VrMessage.TheVariants as message
use Rattle.vr_log.specs.declared.state.Collected.{Collected}
use Rattle.vr_log.specs.declared.state.Response.{Response}
use Rattle.vr_log.specs.declared.state.VrState.{VrState}
use Rattle.vr_log.specs.Log.{follows}
use Rattle.vr_log.specs.Members.{is_normal, is_recovering, is_other, is_newer}
use Rattle.vr_log.specs.Steps.{letter, is_sound}
use Rattle.vr_log.specs.Choosing.{may_choose, best_of, least_commit, greatest_commit, front}
use Rattle.view_change.specs.Entering.{entered_view, own_log, view_start, started_view}
use Rattle.view_change.specs.Adopting.{adopted_log}
use Rattle.vr_recovery.specs.Cases.{lacking}
use Rattle.vr_recovery.specs.Recovering.{filled, with_response}
use Rattle.vr_core.specs.declared.input.VrInput.{VrInput}
use Rattle.vr_core.specs.declared.input.VrInput.TheVariants as vr_input
use Rattle.list_facts.specs.Lists.{IsIn}
use Rattle.controller_moves.specs.ControllerLaws.Views.{TellsView}

-- entries that an input brings behind a log, beside a commit number
pub data Brings (x : VrInput) (s : VrState) (commit : ℕ) (more : List Entry) : Type 0 where
  One : (from view : ℕ) (entry : Entry) → x ≡ vr_input.From from (message.Prepare view (length s.log + 1) commit entry) → more ≡ entry ∷ [] → Brings x s commit more
  Several : (from view first : ℕ) (log : List Entry) → x ≡ vr_input.From from (message.NewState view first commit log) → first ≤ length s.log →
      more ≡ lacking s first log → Brings x s commit more

-- an input shows the log of a view that has started
pub data ShowsMember (x : VrInput) (view first commit : ℕ) (log : List Entry) : Type 0 where
  Starting : (from : ℕ) → x ≡ vr_input.From from (message.StartView view first commit log) → ShowsMember x view first commit log
  Standing : (from : ℕ) → x ≡ vr_input.From from (message.NewState view first commit log) → ShowsMember x view first commit log

-- one move of a member within a step
pub data MemberMove (x : VrInput) (s s' : VrState) : Type 0 where
  Enters : (view : ℕ) → s.view < view → TellsView x view → s' ≡ entered_view s view → MemberMove x s s'
  Tallies : (votes : List ℕ) (sent : Bool) (acked : List ℕ) → s' ≡ record s { votes = votes; sent = sent; acked = acked } → MemberMove x s s'
  Collects : (c : Collected) → (c ≡ own_log s) ⊎ ((view : ℕ) × (is_other s c.from ≡ true) × (x ≡ vr_input.From c.from (message.DoViewChange view c.normal c.commit c.log))) →
      s' ≡ record s { collected = s.collected ++ c ∷ [] } → MemberMove x s s'
  Stocks : (from view first : ℕ) (log : List Entry) → x ≡ vr_input.From from (message.Supply view first log) → first ≤ s.commit →
      s' ≡ record s { supply = Some (record { first = first; log = log }) } → MemberMove x s s'
  Starts : (c : Collected) (cs : List Collected) → s.collected ≡ c ∷ cs → may_choose s ≡ true → (best_of c cs).commit ≤ length (front s) →
      is_sound s s' ≡ true → s' ≡ started_view s (take (best_of c cs).commit (front s) ++ (best_of c cs).log) (least_commit c.commit cs) (greatest_commit c.commit cs) → MemberMove x s s'
  Adopts : (view first commit : ℕ) (log : List Entry) → ShowsMember x view first commit log → is_newer s view ≡ true → first ≤ s.commit →
      is_sound s s' ≡ true → s' ≡ adopted_log s view first commit log → MemberMove x s s'
  Recovers : (view : ℕ) (r : Response) (told : Filled) → IsIn r s.responses → r.view ≡ view → r.filled ≡ Some told → is_recovering s ≡ true →
      is_sound s s' ≡ true → s' ≡ adopted_log (record s { responses = [] }) view 0 told.commit told.log → MemberMove x s s'
  Appends : (commit : ℕ) (more : List Entry) → is_normal s ≡ true → follows s.log more ≡ true → Brings x s commit more →
      s' ≡ record s { log = s.log ++ more; commit = max s.commit (min commit (length (s.log ++ more))) } → MemberMove x s s'
  Commits : (k : ℕ) → is_normal s ≡ true → s.commit ≤ k → k ≤ max s.commit (length s.log) → s' ≡ record s { commit = k } → MemberMove x s s'
  Keeps : (r : Response) (nonce : ℕ) → x ≡ vr_input.From r.from (message.RecoveryResponse r.view nonce r.filled) →
      s' ≡ record s { responses = with_response s.responses r } → MemberMove x s s'

-- what a member in this state may say to another
pub data IsSaidByMember (s : VrState) (l : VrLetter) : Type 0 where
  AsksVote : (to : ℕ) → l ≡ letter (message.StartViewChange s.view) to → IsSaidByMember s l
  SendsLog : (to : ℕ) → l ≡ letter (message.DoViewChange s.view s.normal s.commit (drop s.commit s.log)) to → IsSaidByMember s l
  TellsStart : (to : ℕ) → l ≡ letter (view_start s) to → IsSaidByMember s l
  Repeats : (to n : ℕ) (entry : Entry) → slice_get s.log n ≡ Some entry → s.commit ≤ n → l ≡ letter (message.Prepare s.view (n + 1) s.commit entry) to → IsSaidByMember s l
  TellsCommit : (to : ℕ) → l ≡ letter (message.Commit s.view s.commit) to → IsSaidByMember s l
  Acknowledges : (to : ℕ) → l ≡ letter (message.PrepareOk s.view (length s.log)) to → IsSaidByMember s l
  AsksLog : (to view op : ℕ) → l ≡ letter (message.GetState view op) to → IsSaidByMember s l
  AsksAll : (to : ℕ) → l ≡ letter (message.Recovery s.life s.promise) to → IsSaidByMember s l
  Answers : (to nonce : ℕ) → l ≡ letter (message.RecoveryResponse s.view nonce (filled s)) to → IsSaidByMember s l
  TellsLog : (to op : ℕ) → op ≤ length s.log → l ≡ letter (message.NewState s.view op s.commit (drop op s.log)) to → IsSaidByMember s l
  AsksFront : (to : ℕ) → l ≡ letter (message.Fetch s.view s.commit) to → IsSaidByMember s l
  TellsFront : (to op : ℕ) → op ≤ s.commit → l ≡ letter (message.Supply s.view op (drop op (take s.commit s.log))) to → IsSaidByMember s l

-- How the others of a quorum keep up with the primary, once its view has started.
use Rattle.std.specs.Prelude.{◌≡◌, ◌≤◌, ◌<◌, ◌⊎◌, ℕ, ◌+◌, true, List, [], ◌∷◌, length, take, drop, slice_index, None}
use Rattle.vr_log.specs.declared.entry.Entry.{Entry}
use Rattle.vr_log.specs.declared.message.VrMessage.TheVariants as vr
use Rattle.vr_log.specs.declared.state.Status.TheVariants.{Normal}
use Rattle.vr_log.specs.declared.state.VrState.{VrState}
use Rattle.vr_log.specs.Log.{is_log}
use Rattle.run_spec.specs.declared.messages.Message.{Message}
use Rattle.run_spec.specs.declared.messages.Message.TheVariants as message
use Rattle.closing_laws.specs.Quorum.{has}
use Rattle.closing_laws.specs.Views.{IsReadyMember, in_view}

-- messages that tell these entries, one after another, from a place of the log on: each with its op, and with a commit
-- number that is no greater than this
abbrev pub ArePrepares : ℕ → ℕ → ℕ → List Entry → List Message → Type 0
ArePrepares view most place [] [] = Unit {0}
ArePrepares view most place [] (m ∷ messages) = ⊥
ArePrepares view most place (e ∷ entries) [] = ⊥
ArePrepares view most place (e ∷ entries) (m ∷ messages) =
    ((commit : ℕ) × (commit ≤ most) × (m ≡ message.Vr (vr.Prepare view (place + 1) commit e))) × ArePrepares view most (place + 1) entries messages

-- messages that acknowledge more and more of a log of this length. Where none is on its way all of it is acknowledged, or
-- goes no further than what was committed as the view started
abbrev pub AreAcknowledged : ℕ → ℕ → ℕ → ℕ → List Message → Type 0
AreAcknowledged view known acked len [] = (acked ≡ len) ⊎ (len ≡ known)
AreAcknowledged view known acked len (m ∷ messages) =
    (op : ℕ) × (m ≡ message.Vr (vr.PrepareOk view op)) × (acked < op) × (op ≤ len) × AreAcknowledged view known op len messages

-- with what a view has started: its log, what all of the quorum knew as committed, and what was known of it
pub record Start : Type 0 where
  pub log : List Entry
  pub base : ℕ
  pub known : ℕ

-- A member of the quorum waits for the word that the view has started, with what it had before; behind that word come the
-- entries that followed.
pub record WaitsFor (start : Start) (primary : VrState) (b : ℕ) (s : VrState) (out in_ : List Message) : Type 0 where
  pub had : VrState
  pub voters : List ℕ
  pub is_member : IsReadyMember primary.controllers primary.view b had
  pub state_is : s ≡ in_view had primary.view voters true [] None
  pub base : start.base ≤ had.commit
  pub commit : had.commit ≤ start.known
  pub one : take had.commit had.log ≡ take had.commit start.log
  pub prepares : List Message
  pub word : out ≡ message.Vr (vr.StartView primary.view start.base start.known (drop start.base start.log)) ∷ prepares
  pub entries : ArePrepares primary.view primary.commit (length start.log) (drop (length start.log) primary.log) prepares
  pub silent : in_ ≡ []
  pub acked : slice_index primary.acked b ≡ 0

-- It follows: it has the beginning of the primary's log, and is told the rest.
pub record IsFollowing (start : Start) (primary : VrState) (b : ℕ) (s : VrState) (out in_ : List Message) : Type 0 where
  pub me : s.me ≡ b
  pub size : s.controllers ≡ primary.controllers
  pub normal : s.status ≡ Normal
  pub view : s.view ≡ primary.view
  pub promise : s.promise ≤ primary.view
  pub log : s.log ≡ take (length s.log) primary.log
  pub least : length start.log ≤ length s.log
  pub most : length s.log ≤ length primary.log
  pub commit : s.commit ≤ primary.commit
  pub entries : ArePrepares primary.view primary.commit (length s.log) (drop (length s.log) primary.log) out
  pub acked : slice_index primary.acked b ≤ length s.log
  pub acks : AreAcknowledged primary.view start.known (slice_index primary.acked b) (length s.log) in_

abbrev pub KeepsUp : Start → VrState → ℕ → VrState → List Message → List Message → Type 0
KeepsUp start primary b s out in_ = WaitsFor start primary b s out in_ ⊎ IsFollowing start primary b s out in_

-- what each other member of a quorum has acknowledged is committed
abbrev pub IsAgreed : VrState → List ℕ → Type 0
IsAgreed primary quorum =
    (op : ℕ) → op ≤ length primary.log → ((b : ℕ) → has quorum b ≡ true → (b ≡ primary.me → ⊥) → op ≤ slice_index primary.acked b) → op ≤ primary.commit

-- The primary's log goes on from the one with which the view has started, and at least what was known is committed. It
-- counts what each member acknowledged.
pub record LeadsFrom (start : Start) (primary : VrState) : Type 0 where
  pub begins : take (length start.log) primary.log ≡ start.log
  pub started : is_log start.log ≡ true
  pub within : start.known ≤ length start.log
  pub known : start.known ≤ primary.commit
  pub commit : primary.commit ≤ length primary.log
  pub one : is_log primary.log ≡ true
  pub normal : primary.status ≡ Normal
  pub promise : primary.promise ≤ primary.view
  pub counts : length primary.acked ≡ primary.controllers

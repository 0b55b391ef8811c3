-- How the members of a quorum reach a view, and how it starts.
use Rattle.std.specs.Prelude.{◌≡◌, ◌≤◌, ◌<◌, ℕ, suc, ◌+◌, ◌*◌, ◌/◌, ◌%◌, Bool, true, false, not, nat_eq, nat_le, nat_lt, ◌&&◌, List, [], ◌∷◌, length, take, drop, map, filter, Option, None, if◌then◌else◌}
use Rattle.vr_log.specs.declared.entry.Entry.{Entry}
use Rattle.vr_log.specs.declared.message.VrLetter.{VrLetter}
use Rattle.vr_log.specs.declared.message.VrMessage.TheVariants as message
use Rattle.vr_log.specs.declared.state.Collected.{Collected}
use Rattle.vr_log.specs.declared.state.Status.TheVariants.{Normal}
use Rattle.vr_log.specs.declared.state.Supplied.{Supplied}
use Rattle.vr_log.specs.declared.state.VrState.{VrState}
use Rattle.vr_log.specs.Choosing.{is_better, least_commit, greatest_commit}
use Rattle.vr_log.specs.Log.{is_log}
use Rattle.vr_log.specs.Members.{is_up}
use Rattle.vr_log.specs.Steps.{letter, to_others}
use Rattle.view_change.specs.Entering.{entered_view, own_log, started_view, view_start}
use Rattle.closing_laws.specs.Quorum.{has}
use Rattle.closing_laws.specs.Draining.{GroupState, flown}

-- a member of a group, ready to enter a view
pub record IsReadyMember (n view j : ℕ) (s : VrState) : Type 0 where
  pub me : s.me ≡ j
  pub size : s.controllers ≡ n
  pub up : is_up s ≡ true
  pub below : s.view < view
  pub small : j < n
  pub commit : s.commit ≤ length s.log
  pub is_one : is_log s.log ≡ true

-- a member in a view that changes: what it had, with votes, and what it collected or was supplied
abbrev pub in_view : VrState → ℕ → List ℕ → Bool → List Collected → Option Supplied → VrState
in_view s view votes sent collected supply =
    record (entered_view s view) { votes = votes; sent = sent; collected = collected; supply = supply }

-- the same, where it has heard these and no log yet: once f others voted it has told its log, and a primary keeps its own
abbrev pub voting : ℕ → ℕ → ℕ → VrState → List ℕ → VrState
voting enough view primary s voters =
    in_view s view voters (nat_le enough (length voters))
    (if nat_eq primary s.me && nat_le enough (length voters) then own_log s ∷ [] else []) None

-- with the last vote a member other than the primary tells its log
abbrev pub vote_letters : ℕ → ℕ → ℕ → VrState → List ℕ → List VrLetter
vote_letters enough view primary s voters =
    if not (nat_eq primary s.me) && nat_eq (suc (length voters)) enough
    then letter (message.DoViewChange view s.normal s.commit (drop s.commit s.log)) primary ∷ [] else []

-- the primary of a view that has its votes, its own log and these
abbrev pub gathering : VrState → ℕ → List ℕ → List Collected → Option Supplied → VrState
gathering s view voters logs supply = in_view s view voters true (own_log s ∷ logs) supply

-- a member that has taken the log of a view
abbrev pub in_started : VrState → ℕ → List Entry → ℕ → VrState
in_started s view log commit =
    record s { promise = view; view = view; normal = view; status = Normal; log = log; commit = commit; supply = None }

-- the log of a member, as it tells it
abbrev pub log_of : (ℕ → VrState) → ℕ → Collected
log_of start j = record { from = j; normal = (start j).normal; commit = (start j).commit; log = drop (start j).commit (start j).log }

-- one member has the best log of a quorum
pub record HasBest (quorum : List ℕ) (start : ℕ → VrState) (best : ℕ) : Type 0 where
  pub member : has quorum best ≡ true
  pub better : (j : ℕ) → has quorum j ≡ true → nat_eq j best ≡ false → is_better (log_of start best) (log_of start j) ≡ true

-- the logs of a quorum have one history: what each knows as committed begins the best log
pub record IsCovered (quorum : List ℕ) (start : ℕ → VrState) (best : ℕ) : Type 0 where
  pub agrees : (j : ℕ) → has quorum j ≡ true → take (start j).commit (start j).log ≡ take (start j).commit (start best).log
  pub covers : (j : ℕ) → has quorum j ≡ true → (start j).commit ≤ length (start best).log

-- the primary knows less as committed than the member of the best log, and has to fetch it
abbrev pub lacks : ℕ → (ℕ → VrState) → ℕ → Bool
lacks primary start best = nat_lt (start primary).commit (start best).commit

-- a list behind the turned one
abbrev pub views_behind : List ℕ → List ℕ → List ℕ
views_behind [] xs = xs
views_behind (c ∷ turned) xs = views_behind turned (c ∷ xs)

-- in which order members tell their logs: the last one first, since it has said nothing that it waits for
abbrev pub last_first : List ℕ → List ℕ → List ℕ
last_first turned [] = views_behind turned []
last_first turned (c ∷ []) = c ∷ views_behind turned []
last_first turned (c ∷ (d ∷ more)) = last_first (c ∷ turned) (d ∷ more)

-- in which order the primary collects the logs of the others
abbrev pub tellers : ℕ → List ℕ → List ℕ
tellers primary quorum = filter (λ j. not (nat_eq primary j)) (last_first [] quorum)

-- a view that a primary starts with these logs of others
abbrev pub started_with : VrState → ℕ → List ℕ → List Collected → List Entry → VrState
started_with s view voters logs log =
    started_view (gathering s view voters logs None) log (least_commit s.commit logs) (greatest_commit s.commit logs)

-- in how many turns a view starts: f + 1 suspicions, a vote of each of them to each other, the logs of f others, and two
-- where the primary has to fetch
abbrev pub turns_to_start : ℕ → Bool → ℕ
turns_to_start f fetches = f * f + 3 * f + 1 + (if fetches then 2 else 0)

-- A view has started: its primary has the best log, and knows as committed what the quorum knew; the others wait in the
-- view with what they had, and nothing waits but the primary's word that the view has started.
pub record HasStarted (n view : ℕ) (quorum : List ℕ) (start : ℕ → VrState) (best : ℕ) (g : GroupState) : Type 0 where
  pub voters : ℕ → List ℕ
  pub logs : List Collected
  pub logs_are : logs ≡ map (log_of start) (tellers (view % n) quorum)
  pub primary : g.at (view % n) ≡ started_with (start (view % n)) view (voters (view % n)) logs (start best).log
  pub others : (j : ℕ) → has quorum j ≡ true → nat_eq j (view % n) ≡ false → g.at j ≡ in_view (start j) view (voters j) true [] None
  pub outside : (j : ℕ) → has quorum j ≡ false → g.at j ≡ start j
  pub waits : g.pool ≡ map (flown (view % n)) (to_others (g.at (view % n)) (view_start (g.at (view % n))))
  pub took : g.turns ≡ turns_to_start (n / 2) (lacks (view % n) start best)

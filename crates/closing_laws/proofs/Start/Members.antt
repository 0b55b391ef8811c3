-- What one member does in a view that changes, while its log stays.
use Rattle.std.proofs.Common.{◌≡◌, ◌≤◌, ◌<◌, inl, inr, ℕ, suc, ◌/◌, ◌%◌, Bool, true, false, List, [], ◌∷◌, ◌++◌, length, map, take, drop, refl, sym, ◌∙◌, ap, arith, append-nil}
use Rattle.std.specs.Prelude.{not, nat_eq, nat_le, nat_lt, ◌&&◌, ◌||◌, Option, Some, None, if◌then◌else◌}
use Rattle.std.proofs.lemmas.Bool.{and_right, and_left, and_from, le-leb, lt-leb, le-ltb, lt-ltb, eq-eqb, ne_eqb, cases_lt}
use Rattle.std.proofs.lemmas.List.{take-append-drop, take-take, length-take-le}
use Rattle.vr_log.specs.declared.entry.Entry.{Entry}
use Rattle.vr_log.specs.declared.message.VrLetter.{VrLetter}
use Rattle.vr_log.specs.declared.message.VrMessage.TheVariants as message
use Rattle.vr_log.specs.declared.state.Collected.{Collected}
use Rattle.vr_log.specs.declared.state.Supplied.{Supplied}
use Rattle.vr_log.specs.declared.state.VrState.{VrState}
use Rattle.vr_log.specs.Log.{is_log}
use Rattle.vr_log.specs.Members.{is_up, is_primary, others_below}
use Rattle.vr_log.specs.Steps.{VrStep, quiet, guarded, is_sound, then_step, to_others, letter, tells, sends}
use Rattle.vr_log.specs.Choosing.{may_choose, reaches, fetch_letter}
use Rattle.vr_log.proofs.Equal.{entries_same}
use Rattle.view_change.specs.Entering.{chooses_from, started_view, tells_start, view_start, entered_view, enter, check, votes, chooses, own_log}
use Rattle.view_change.specs.Cases.{enters}
use Rattle.vr_core.specs.declared.input.VrInput.TheVariants as vr_input
use Rattle.vr_core.specs.Step.{vr_step, on_vr}
use Rattle.of_types.specs.SmallSets.{with_number}
use Rattle.closing_laws.specs.Views.{IsReadyMember, in_view, voting, vote_letters}

-- a case that leaves log and commit number is not dropped
pub sound_here : (s : VrState) → is_log s.log ≡ true → s.commit ≤ length s.log → (t : VrState) → t.log ≡ s.log → t.commit ≡ s.commit → is_sound s t ≡ true
sound_here s one le t log commit = rw (log, commit, one, le-leb s.commit (length s.log) le, entries_same (take s.commit s.log)) refl

pub guard_open : (s : VrState) (step : VrStep) → is_sound s step.state ≡ true → guarded s step ≡ step
guard_open s step h = rw h refl

-- where a member has not enough logs, Check is its first step
then_rests : (first : VrStep) → may_choose first.state ≡ false → then_step first chooses ≡ record { state = first.state; promise = first.promise; letters = first.letters ++ [] }
then_rests first none = rw none refl

pub check_rests : (s : VrState) (first : VrStep) → votes s ≡ first → may_choose first.state ≡ false →
    check s ≡ record { state = first.state; promise = first.promise; letters = first.letters ++ [] }
check_rests s first is none = ap (λ (x : VrStep). then_step x chooses) is ∙ then_rests first none

-- its own log was not collected
four_third : (a b c d : Bool) → c ≡ false → (((a && b) && c) && d) ≡ false
four_third a b c d h = and_left ((a && b) && c) d (and_right (a && b) c h)

-- a member that suspects enters the view, and tells the others
pub suspects : (n w j : ℕ) (s : VrState) → IsReadyMember n w j s → 0 < s.controllers / 2 →
    vr_step s (vr_input.Suspect w) ≡ record { state = in_view s w [] false [] None; promise = Some w; letters = to_others s (message.StartViewChange w) }
suspects n w j s m group =
    let later : (is_up s && nat_lt s.view w) ≡ true = and_from (is_up s) (nat_lt s.view w) m.up (lt-ltb s.view w m.below) in
    let few : nat_le (s.controllers / 2) 0 ≡ false = lt-leb (s.controllers / 2) 0 group in
    let first : votes (entered_view s w) ≡ quiet (entered_view s w) = rw few refl in
    let none : may_choose (entered_view s w) ≡ false = four_third true (is_primary (entered_view s w)) false (nat_lt (s.controllers / 2) 0) refl in
    let checked : check (entered_view s w) ≡ quiet (entered_view s w) = check_rests (entered_view s w) (quiet (entered_view s w)) first none in
    let step : VrStep = record { state = in_view s w [] false [] None; promise = Some w; letters = to_others s (message.StartViewChange w) } in
    let entering : enters s w ≡ step =
    ap (λ (x : VrStep). then_step (enter s w) (λ (t : VrState). x)) checked ∙ ap (λ (l : List VrLetter). record { state = in_view s w [] false [] None; promise = Some w; letters = l }) (append-nil (to_others s (message.StartViewChange w))) in
    ap (λ (b : Bool). if b then guarded s (enters s w) else quiet s) later ∙ ap (guarded s) entering
    ∙ guard_open s step (sound_here s m.is_one m.commit step.state refl refl)

-- Check, where too few voted
pub check_few : (s : VrState) (w : ℕ) (voters : List ℕ) → length voters < s.controllers / 2 →
    check (in_view s w voters false [] None) ≡ quiet (in_view s w voters false [] None)
check_few s w voters less =
    let t = in_view s w voters false [] None in
    let few : nat_le (s.controllers / 2) (length voters) ≡ false = lt-leb (s.controllers / 2) (length voters) less in
    let first : votes t ≡ quiet t = rw few refl in
    check_rests t (quiet t) first (four_third true (is_primary t) false (nat_lt (s.controllers / 2) 0) refl)

-- where enough did, a member tells the primary its log
pub check_sends : (s : VrState) (w : ℕ) (voters : List ℕ) → s.controllers / 2 ≤ length voters → nat_eq (w % s.controllers) s.me ≡ false →
    check (in_view s w voters false [] None) ≡
    tells (in_view s w voters true [] None) (w % s.controllers) (message.DoViewChange w s.normal s.commit (drop s.commit s.log))
check_sends s w voters enough other =
    let t = in_view s w voters false [] None in
    let first = tells (in_view s w voters true [] None) (w % s.controllers) (message.DoViewChange w s.normal s.commit (drop s.commit s.log)) in
    let most : nat_le (s.controllers / 2) (length voters) ≡ true = le-leb (s.controllers / 2) (length voters) enough in
    let does : votes t ≡ first = rw (most, other) refl in
    check_rests t first does (four_third true (nat_eq (w % s.controllers) s.me) false (nat_lt (s.controllers / 2) 0) refl)

-- and the primary keeps its own
pub check_keeps : (s : VrState) (w : ℕ) (voters : List ℕ) → s.controllers / 2 ≤ length voters → nat_eq (w % s.controllers) s.me ≡ true → 0 < s.controllers / 2 →
    check (in_view s w voters false [] None) ≡ quiet (in_view s w voters true (own_log s ∷ []) None)
check_keeps s w voters enough here group =
    let t = in_view s w voters false [] None in
    let first = quiet (in_view s w voters true (own_log s ∷ []) None) in
    let most : nat_le (s.controllers / 2) (length voters) ≡ true = le-leb (s.controllers / 2) (length voters) enough in
    let one : nat_lt (s.controllers / 2) 1 ≡ false = le-ltb (s.controllers / 2) 1 (omega (arith, group)) in
    let does : votes t ≡ first = rw (most, here) refl in
    check_rests t first does (and_right (true && nat_eq (w % s.controllers) s.me && (nat_eq s.me s.me || false)) (nat_lt (s.controllers / 2) 1) one)

-- a vote of this view
pub votes_here : (s : VrState) (w c : ℕ) (voters : List ℕ) (sent : Bool) (logs : List Collected) (supply : Option Supplied) → c < s.controllers → (c ≡ s.me → ⊥) →
    vr_step (in_view s w voters sent logs supply) (vr_input.From c (message.StartViewChange w)) ≡
    guarded (in_view s w voters sent logs supply) (check (in_view s w (with_number c voters) sent logs supply))
unfolding on_vr
votes_here s w c voters sent logs supply small other =
    let below : nat_lt c s.controllers ≡ true = lt-ltb c s.controllers small in
    let apart : nat_eq c s.me ≡ false = ne_eqb c s.me other in
    let here : nat_lt w w ≡ false = le-ltb w w (omega arith) in
    let same : nat_eq w w ≡ true = eq-eqb w w refl in
    rw (below, apart, here, same) refl

-- a vote that is not the last one leaves a member as it was, but for the vote
few_is : (s : VrState) (w : ℕ) (voters : List ℕ) → length voters < s.controllers / 2 →
    voting (s.controllers / 2) w (w % s.controllers) s voters ≡ in_view s w voters false [] None
few_is s w voters less =
    let few : nat_le (s.controllers / 2) (length voters) ≡ false = lt-leb (s.controllers / 2) (length voters) less in
    let none : (nat_eq (w % s.controllers) s.me && false) ≡ false = and_right (nat_eq (w % s.controllers) s.me) false refl in
    rw (few, none) refl

module _ (s : VrState) (w c : ℕ) (voters : List ℕ) (small : c < s.controllers) (other : c ≡ s.me → ⊥) (commit : s.commit ≤ length s.log) (one : is_log s.log ≡ true)
    (less : length voters < s.controllers / 2) (more : length (with_number c voters) ≡ suc (length voters)) where
  -- by what Check does
  by_check : (step : VrStep) → check (in_view s w (with_number c voters) false [] None) ≡ step → step.state.log ≡ s.log → step.state.commit ≡ s.commit →
      vr_step (voting (s.controllers / 2) w (w % s.controllers) s voters) (vr_input.From c (message.StartViewChange w)) ≡ step
  by_check step is log commits =
      let t = in_view s w voters false [] None in
      ap (λ (u : VrState). vr_step u (vr_input.From c (message.StartViewChange w))) (few_is s w voters less)
      ∙ votes_here s w c voters false [] None small other
      ∙ ap (λ (x : VrStep). guarded t x) is
      ∙ guard_open t step (sound_here t one commit step.state log commits)

  pub vote_taken : vr_step (voting (s.controllers / 2) w (w % s.controllers) s voters) (vr_input.From c (message.StartViewChange w)) ≡
      sends (voting (s.controllers / 2) w (w % s.controllers) s (with_number c voters)) (vote_letters (s.controllers / 2) w (w % s.controllers) s voters)
  vote_taken = elim (cases_lt (suc (length voters)) (s.controllers / 2)) [
    | inl still ↦
        let short : length (with_number c voters) < s.controllers / 2 = omega (arith, more, still) in
        let not_yet : nat_eq (suc (length voters)) (s.controllers / 2) ≡ false = ne_eqb (suc (length voters)) (s.controllers / 2) (λ e. omega (arith, e, still)) in
        let silent : (not (nat_eq (w % s.controllers) s.me) && nat_eq (suc (length voters)) (s.controllers / 2)) ≡ false = and_right (not (nat_eq (w % s.controllers) s.me)) (nat_eq (suc (length voters)) (s.controllers / 2)) not_yet in
        by_check (quiet (in_view s w (with_number c voters) false [] None)) (check_few s w (with_number c voters) short) refl refl
        ∙ ap quiet (sym (few_is s w (with_number c voters) short))
        ∙ said (voting (s.controllers / 2) w (w % s.controllers) s (with_number c voters)) [] (vote_letters (s.controllers / 2) w (w % s.controllers) s voters) (none_of (not (nat_eq (w % s.controllers) s.me) && nat_eq (suc (length voters)) (s.controllers / 2)) silent)
    | inr all ↦
        let last : nat_eq (suc (length voters)) (s.controllers / 2) ≡ true = eq-eqb (suc (length voters)) (s.controllers / 2) (omega (arith, all, less)) in
        let enough : s.controllers / 2 ≤ length (with_number c voters) = omega (arith, more, all) in
        by_role last enough (nat_eq (w % s.controllers) s.me) refl
  ]
    where
      said : (u : VrState) (ls ms : List VrLetter) → ls ≡ ms → sends u ls ≡ sends u ms
      said u ls ms e = ap (sends u) e

      none_of : (b : Bool) → b ≡ false → [] ≡ (if b then letter (message.DoViewChange w s.normal s.commit (drop s.commit s.log)) (w % s.controllers) ∷ [] else [])
      none_of b e = rw e refl

      by_role : nat_eq (suc (length voters)) (s.controllers / 2) ≡ true → s.controllers / 2 ≤ length (with_number c voters) → (b : Bool) → nat_eq (w % s.controllers) s.me ≡ b →
          vr_step (voting (s.controllers / 2) w (w % s.controllers) s voters) (vr_input.From c (message.StartViewChange w)) ≡
          sends (voting (s.controllers / 2) w (w % s.controllers) s (with_number c voters)) (vote_letters (s.controllers / 2) w (w % s.controllers) s voters)
      by_role last enough true here =
          let most : nat_le (s.controllers / 2) (length (with_number c voters)) ≡ true = le-leb (s.controllers / 2) (length (with_number c voters)) enough in
          by_check (quiet (in_view s w (with_number c voters) true (own_log s ∷ []) None)) (check_keeps s w (with_number c voters) enough here (omega (arith, less))) refl refl
          ∙ rw (here, most) refl
      by_role last enough false there =
          let most : nat_le (s.controllers / 2) (length (with_number c voters)) ≡ true = le-leb (s.controllers / 2) (length (with_number c voters)) enough in
          by_check (tells (in_view s w (with_number c voters) true [] None) (w % s.controllers) (message.DoViewChange w s.normal s.commit (drop s.commit s.log)))
          (check_sends s w (with_number c voters) enough there) refl refl
          ∙ rw (there, most, last) refl

-- a member alone in its group starts the view as it suspects: all of its log is committed
module _ (s : VrState) (w : ℕ) (alone : s.controllers ≡ 1) (first : s.me ≡ 0) (up : is_up s ≡ true) (below : s.view < w) (commit : s.commit ≤ length s.log) (one : is_log s.log ≡ true) where
  abbrev pub keeping : VrState
  keeping = in_view s w [] true (own_log s ∷ []) None

  nobody : to_others s (message.StartViewChange w) ≡ []
  nobody = ap (λ (k : ℕ). map (letter (message.StartViewChange w)) (others_below s.me k)) alone ∙ ap (λ (k : ℕ). map (letter (message.StartViewChange w)) (others_below k 1)) first

  half : s.controllers / 2 ≡ 0
  half = ap (λ (k : ℕ). k / 2) alone

  pub its_own : nat_eq (w % s.controllers) s.me ≡ true
  its_own = eq-eqb (w % s.controllers) s.me (ap (λ (k : ℕ). w % k) alone ∙ (let none : w % 1 ≡ 0 = omega arith in none) ∙ sym first)

  keeps : votes (entered_view s w) ≡ quiet keeping
  keeps =
      let all : nat_le (s.controllers / 2) 0 ≡ true = ap (λ (k : ℕ). nat_le k 0) half in
      rw (all, its_own) refl

  whole : take s.commit (take s.commit s.log) ++ drop s.commit s.log ≡ s.log
  whole = ap (λ (xs : List Entry). xs ++ drop s.commit s.log) (take-take s.commit s.commit s.log (omega arith)) ∙ take-append-drop s.commit s.log

  abbrev pub alone_started : VrState
  alone_started = started_view keeping s.log s.commit s.commit

  chooses_own : chooses keeping ≡ sends alone_started []
  chooses_own =
      let long : nat_lt (s.controllers / 2) 1 ≡ true = ap (λ (k : ℕ). nat_lt k 1) half in
      let own : nat_eq s.me s.me ≡ true = eq-eqb s.me s.me refl in
      let may : may_choose keeping ≡ true = rw (its_own, own, long) refl in
      let reached : reaches keeping (own_log s) ≡ true = le-leb s.commit (length (take s.commit s.log)) (let long = length-take-le s.commit s.log commit in omega (arith, long)) in
      let silent : to_others alone_started (view_start alone_started) ≡ [] = ap (λ (k : ℕ). map (letter (view_start alone_started)) (others_below s.me k)) alone ∙ ap (λ (k : ℕ). map (letter (view_start alone_started)) (others_below k 1)) first in
      ap (λ (b : Bool). if b then chooses_from keeping (own_log s ∷ []) else quiet keeping) may
      ∙ ap (λ (b : Bool). if b then tells_start (started_view keeping (take s.commit (take s.commit s.log) ++ drop s.commit s.log) s.commit s.commit) else sends keeping (fetch_letter keeping (own_log s) ∷ [])) reached
      ∙ ap (λ (xs : List Entry). tells_start (started_view keeping xs s.commit s.commit)) whole
      ∙ ap (sends alone_started) silent

  sound_alone : is_sound s alone_started ≡ true
  sound_alone =
      let none : nat_eq (s.controllers / 2) 0 ≡ true = eq-eqb (s.controllers / 2) 0 half in
      let all : nat_le (length s.log) (length s.log) ≡ true = le-leb (length s.log) (length s.log) (omega arith) in
      rw (one, none, all) (entries_same (take s.commit s.log))

  pub starts_alone : vr_step s (vr_input.Suspect w) ≡ record { state = alone_started; promise = Some w; letters = [] }
  starts_alone =
      let later : (is_up s && nat_lt s.view w) ≡ true = and_from (is_up s) (nat_lt s.view w) up (lt-ltb s.view w below) in
      let checked : check (entered_view s w) ≡ sends alone_started [] = ap (λ (x : VrStep). then_step x chooses) keeps ∙ ap (λ (x : VrStep). then_step (quiet keeping) (λ (t : VrState). x)) chooses_own in
      let entering : enters s w ≡ record { state = alone_started; promise = Some w; letters = to_others s (message.StartViewChange w) ++ [] } = ap (λ (x : VrStep). then_step (enter s w) (λ (t : VrState). x)) checked in
      let step : VrStep = record { state = alone_started; promise = Some w; letters = to_others s (message.StartViewChange w) ++ [] } in
      ap (λ (b : Bool). if b then guarded s (enters s w) else quiet s) later ∙ ap (guarded s) entering
      ∙ guard_open s step sound_alone
      ∙ ap (λ (l : List VrLetter). record { state = alone_started; promise = Some w; letters = l ++ [] }) nobody

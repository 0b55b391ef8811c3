-- A closing is quick as a whole: what is posted and lost before its first view takes no turn, and leaves all as it was.
use Rattle.std.proofs.Common.{◌≡◌, ◌≤◌, inl, inr, ℕ, ◌/◌, ◌%◌, Bool, true, false, List, [], ◌∷◌, map, length, refl, sym, ◌∙◌, ap, subst, arith, zero, suc, ◌<◌}
use Rattle.std.specs.Prelude.{nat_eq, nat_lt, filter, drop, if◌then◌else◌, slice_index_or, reverse, ◌++◌}
use Rattle.std.specs.List.{list_any, range_with_len}
use Rattle.std.proofs.Math.Path.{fun_ext}
use Rattle.std.proofs.lemmas.Bool.{ltb-true, ltb-false, le-ltb}
use Rattle.std.proofs.lemmas.List.Sums.{sum_by-cons}
use Rattle.of_types.specs.declared.message.Event.{Event}
use Rattle.of_types.specs.Setups.{IsSetup}
use Rattle.journal.specs.declared.journal.JournalEntry.{JournalEntry}
use Rattle.journal.specs.declared.journal.JournalEntry.TheVariants.{Post, Draw, Lose, Local, Idle, Refused}
use Rattle.journal.specs.declared.journal.Packet.{Packet}
use Rattle.journal.specs.declared.journal.SaveResult.{SaveResult}
use Rattle.journal.specs.Pool.{pool}
use Rattle.journal.specs.Turns.{IsWithinLimits}
use Rattle.list_facts.specs.Lists.{IsIn}
use Rattle.list_facts.proofs.Elements.{in_map}
use Rattle.vr_log.specs.declared.entry.Entry.{Entry}
use Rattle.vr_log.specs.Log.{processed, received}
use Rattle.dispatcher.specs.Ledger.{most_commands}
use Rattle.group_controller.specs.State.{ControllerState}
use Rattle.of_switch.specs.State.{SwitchState, life_of}
use Rattle.run_spec.specs.Bound.{closing_members, commands_left, ended_waiting, entries_left, events_left, most_by, place_known, sharp_bound, turns_bound}
use Rattle.run_spec.specs.Committed.{count_up, decided, kept, kept_of, longest, members_up, states_of}
use Rattle.run_spec.specs.Legal.{IsPossible}
use Rattle.run_spec.specs.Script.{IsPosted}
use Rattle.run_spec.specs.Closing.{ClosesTo, IsMove, Losing, Phase, after_move, closing_view, count_turns, is_turn, majority, next_lost, next_move, quorum_of}
use Rattle.run_spec.specs.States.{Scene, IsFaithful}
use Rattle.app_core.specs.Chain.{given_by}
use Rattle.closing_laws.specs.Quick.{ClosingsAreQuick, ClosingsAreSharplyBounded}
use Rattle.closing_laws.specs.Starts.{SavesSucceed}
use Rattle.closing_laws.proofs.Ends.LastAttempts as attempts
use Rattle.closing_laws.proofs.Ends.Quorate as quorate
use Rattle.closing_laws.proofs.Journal.Carrying.{IsIdle, Loses, Posts, controllers_stay, switches_stay}
use Rattle.closing_laws.proofs.Journal.Posting.{later, later_is}
use Rattle.closing_laws.proofs.Measure.Quickly.{attempt_turns, waiting_same}
use Rattle.closing_laws.proofs.Truths.Given.{are_few}

-- the longest of logs is as long as each
longest_covers : (best : List Entry) (logs : List (List Entry)) → (length best ≤ length (longest best logs)) × ((x : List Entry) → IsIn x logs → length x ≤ length (longest best logs))
longest_covers best [] = (omega arith, λ x none. absurd none)
longest_covers best (log ∷ logs) = by_test (nat_lt (length best) (length log)) refl (longest_covers (if nat_lt (length best) (length log) then log else best) logs)
  where
    by_test : (b : Bool) → nat_lt (length best) (length log) ≡ b →
        (length (if b then log else best) ≤ length (longest (if b then log else best) logs)) × ((x : List Entry) → IsIn x logs → length x ≤ length (longest (if b then log else best) logs)) →
        (length best ≤ length (longest (if b then log else best) logs)) × ((x : List Entry) → IsIn x (log ∷ logs) → length x ≤ length (longest (if b then log else best) logs))
    by_test true is h =
        let less = ltb-true (length best) (length log) is in
        let first = h.0 in (
          omega (arith, less, first),
          λ x among. elim among [
            | inl e ↦ (let same = ap (λ (l : List Entry). length l) e in omega (arith, same, first))
            | inr more ↦ h.1 x more
          ],
        )
    by_test false is h =
        let less = ltb-false (length best) (length log) is in
        let first = h.0 in (
          first,
          λ x among. elim among [
            | inl e ↦ (let same = ap (λ (l : List Entry). length l) e in omega (arith, same, first, less))
            | inr more ↦ h.1 x more
          ],
        )

-- it stays where none is longer
longest_stays : (best : List Entry) (logs : List (List Entry)) → ((x : List Entry) → IsIn x logs → length x ≤ length best) → longest best logs ≡ best
longest_stays best [] short = refl
longest_stays best (log ∷ logs) short =
    ap (λ (b : Bool). longest (if b then log else best) logs) (le-ltb (length best) (length log) (short log (inl refl))) ∙ longest_stays best logs (λ x among. short x (inr among))

module _ {B : Type 0} (scene : Scene B) (results : List (List SaveResult)) where
  abbrev Past : Type 0
  Past = List (JournalEntry B)

  abbrev numbers : List ℕ
  numbers = range_with_len 0 scene.setup.controllers

  abbrev kepts : Past → List (List Entry)
  kepts P = map (λ c. kept scene results c P) numbers

  -- no controller knows more as committed than what is decided
  kepts_short : (P : Past) (x : List Entry) → IsIn x (kepts P) → length x ≤ length (decided scene results P)
  unfolding decided
  kepts_short [] x among = let k = in_map (λ c. kept scene results c []) numbers x among in let none = ap (λ (l : List Entry). length l) k.2 in omega (arith, none)
  kepts_short (e ∷ P) x among = (longest_covers (decided scene results P) (kepts (e ∷ P))).1 x among

  module _ (e : JournalEntry B) (P : Past) (idle : IsIdle scene results e) where
    states_same : states_of scene results (e ∷ P) ≡ states_of scene results P
    states_same = ap (λ (at : ℕ → ControllerState). map at numbers) (fun_ext (controllers_stay scene results e P idle))

    kepts_same : kepts (e ∷ P) ≡ kepts P
    kepts_same = ap (λ (at : ℕ → ControllerState). map (λ c. kept_of (at c)) numbers) (fun_ext (controllers_stay scene results e P idle))

    decided_same : decided scene results (e ∷ P) ≡ decided scene results P
    unfolding decided
    decided_same = ap (longest (decided scene results P)) kepts_same ∙ longest_stays (decided scene results P) (kepts P) (kepts_short P)

    ended_same : (log : List Entry) → ended_waiting scene (e ∷ P) log ≡ ended_waiting scene P log
    ended_same log =
        ap (λ (sw : ℕ → SwitchState). length (filter (λ (x : Event). nat_lt x.life (life_of (sw x.switch))) (drop (processed log) (received log)))) (fun_ext (switches_stay scene results e P idle))

    left_same : events_left scene results (e ∷ P) ≡ events_left scene results P
    left_same =
        let held = waiting_same scene (e ∷ P) P (length scene.setup.ports) (switches_stay scene results e P idle) in
        let over = ap (ended_waiting scene (e ∷ P)) decided_same ∙ ended_same (decided scene results P) in
        omega (arith, held, over)

    -- so the bound is the same
    most_same : (after : Past) → most_by sharp_bound scene results (e ∷ P) after ≡ most_by sharp_bound scene results P after
    most_same after =
        ap (λ (l : ℕ). sharp_bound scene.setup.controllers (length scene.setup.ports) l (entries_left (members_of (states_of scene results (e ∷ P)))) (commands_left scene (decided scene results after) (place_known (members_of (states_of scene results (e ∷ P)))))) left_same
        ∙ ap (λ (ss : List ControllerState). sharp_bound scene.setup.controllers (length scene.setup.ports) (events_left scene results P) (entries_left (members_of ss)) (commands_left scene (decided scene results after) (place_known (members_of ss)))) states_same
      where
        n : ℕ
        n = scene.setup.controllers

        members_of : List ControllerState → List ControllerState
        members_of states = filter (λ c. list_any (λ m. nat_eq m c.vr.me) (quorum_of (closing_view states n % n) (n / 2) (members_up states))) states

  module _ (setup : IsSetup scene.setup) (faithful : IsFaithful scene.sealing) (given : given_by scene.kinds ≤ most_commands) (last : Phase) where
    abbrev Quick : Past → Past → Type 0
    Quick P entries = count_turns entries ≤ most_by sharp_bound scene results P (later P entries)

    -- an entry that is no turn
    behind_idle : (e : JournalEntry B) (P rest : Past) → IsIdle scene results e → is_turn e ≡ false → Quick (e ∷ P) rest → Quick P (e ∷ rest)
    behind_idle e P rest idle none quick =
        let parts = sum_by-cons (λ (x : JournalEntry B). if is_turn x then 1 else 0) e rest in
        let no_turn = ap {B = ℕ} (λ (b : Bool). if b then 1 else 0) none in
        let same = most_same e P idle (later (e ∷ P) rest) in
        omega (arith, parts, no_turn, same, quick)

    -- where nothing waits, all that comes is one attempt
    attempted : (P entries : Past) → IsPosted scene results P → pool P ≡ [] → majority scene.setup.controllers ≤ count_up scene results P → SavesSucceed scene results P → ClosesTo scene results Losing P entries last → IsPossible scene results (later P entries) →
        IsPosted scene results (later P entries) → IsWithinLimits scene.sealing.size (later P entries) → Quick P entries
    attempted P entries rests empty most succeed closes possible posted within =
        subst (λ (l : Past). count_turns entries ≤ most_by sharp_bound scene results P l) (sym (later_is P entries))
        (attempt_turns scene results setup faithful (are_few scene.setup setup scene.kinds given) P entries last (record {
          possible = subst (λ (l : Past). IsPossible scene results l) (later_is P entries) possible;
          rests = rests;
          empty = empty;
          most = most;
          closes = closes;
          posted = subst (λ (l : Past). IsPosted scene results l) (later_is P entries) posted;
          saves = succeed;
          within = subst (λ (l : Past). IsWithinLimits scene.sealing.size l) (later_is P entries) within;
        }))

    quick : (entries P : Past) → SavesSucceed scene results P → ClosesTo scene results Losing P entries last → IsPossible scene results (later P entries) →
        IsPosted scene results (later P entries) → IsWithinLimits scene.sealing.size (later P entries) → Quick P entries
    quick [] P succeed closes possible posted within = omega arith
    quick (e ∷ rest) P succeed closes possible posted within =
        by_entry e closes (λ x calm. quick rest (x ∷ P) (quorate.succeed_behind scene results x P calm succeed)) possible posted within
      where
        Again : JournalEntry B → Type 0
        Again x = quorate.IsCalm scene results x → ClosesTo scene results Losing (x ∷ P) rest last → IsPossible scene results (later (x ∷ P) rest) →
            IsPosted scene results (later (x ∷ P) rest) → IsWithinLimits scene.sealing.size (later (x ∷ P) rest) → Quick (x ∷ P) rest

        -- by what waits
        by_pool : (x : JournalEntry B) → IsPosted scene results P → (next : Phase) → IsMove (next_move scene results Losing P) x next → ClosesTo scene results (after_move scene results x P next) (x ∷ P) rest last →
            ClosesTo scene results Losing P (x ∷ rest) last → ((y : JournalEntry B) → Again y) → IsPossible scene results (later (x ∷ P) rest) →
            IsPosted scene results (later (x ∷ P) rest) → IsWithinLimits scene.sealing.size (later (x ∷ P) rest) → (ps : List (Packet B)) → pool P ≡ ps → Quick P (x ∷ rest)
        by_pool x rests next move steps whole again can done fits [] none = attempted P (x ∷ rest) rests none (attempts.most_up scene results P x next none move) succeed whole can done fits
        by_pool x rests next move steps whole again can done fits (q ∷ qs) some =
            let m = subst (λ (l : List (Packet B)). IsMove (next_lost scene.setup.controllers (states_of scene results P) l) x next) some move in
            let losing : after_move scene results x P next ≡ Losing = ap (λ (y : JournalEntry B). after_move scene results y P next) m.0 ∙ m.1 in
            let steps_on = subst (λ (f : Phase). ClosesTo scene results f (x ∷ P) rest last) losing steps in
            subst (λ (y : JournalEntry B). Quick P (y ∷ rest)) (sym m.0)
            (behind_idle (Lose q.to q.id) P rest (Loses q.to q.id) refl
            (again (Lose q.to q.id) tt (subst (λ (y : JournalEntry B). ClosesTo scene results Losing (y ∷ P) rest last) m.0 steps_on) (subst (λ (y : JournalEntry B). IsPossible scene results (later (y ∷ P) rest)) m.0 can)
            (subst (λ (y : JournalEntry B). IsPosted scene results (later (y ∷ P) rest)) m.0 done) (subst (λ (y : JournalEntry B). IsWithinLimits scene.sealing.size (later (y ∷ P) rest)) m.0 fits)))

        by_entry : (x : JournalEntry B) → ClosesTo scene results Losing P (x ∷ rest) last → ((y : JournalEntry B) → Again y) → IsPossible scene results (later (x ∷ P) rest) →
            IsPosted scene results (later (x ∷ P) rest) → IsWithinLimits scene.sealing.size (later (x ∷ P) rest) → Quick P (x ∷ rest)
        by_entry (Post a first letters lost) c again can done fits =
            behind_idle (Post a first letters lost) P rest (Posts a first letters lost) refl (again (Post a first letters lost) tt c.1 can done fits)
        by_entry (Draw a packet keep) c again can done fits = by_pool (Draw a packet keep) c.0 c.1.0 c.1.1 c.1.2 c again can done fits (pool P) refl
        by_entry (Lose a packet) c again can done fits = by_pool (Lose a packet) c.0 c.1.0 c.1.1 c.1.2 c again can done fits (pool P) refl
        by_entry (Local a input) c again can done fits = by_pool (Local a input) c.0 c.1.0 c.1.1 c.1.2 c again can done fits (pool P) refl
        by_entry (Idle a) c again can done fits = by_pool (Idle a) c.0 c.1.0 c.1.1 c.1.2 c again can done fits (pool P) refl
        by_entry (Refused a) c again can done fits = by_pool (Refused a) c.0 c.1.0 c.1.1 c.1.2 c again can done fits (pool P) refl

pub sharp_law : {B : Type 0} → ClosingsAreSharplyBounded B
sharp_law scene results before entries last setup faithful given possible succeed within closes posted =
    subst (λ (l : List (JournalEntry _)). count_turns entries ≤ most_by sharp_bound scene results before l) (later_is before entries)
    (quick scene results setup faithful given last entries before succeed closes
    (subst (λ (l : List (JournalEntry _)). IsPossible scene results l) (sym (later_is before entries)) possible)
    (subst (λ (l : List (JournalEntry _)). IsPosted scene results l) (sym (later_is before entries)) posted)
    (subst (λ (l : List (JournalEntry _)). IsWithinLimits scene.sealing.size l) (sym (later_is before entries)) within))

-- the sharper bound is no higher than the first, in a group of this size
abbrev IsSharper : ℕ → Type 0
IsSharper n = (switches events entries commands : ℕ) → sharp_bound n switches events entries commands ≤ turns_bound n switches events entries commands

sharper_of : (n k : ℕ) → k < 4 → slice_index_or (1 ∷ 3 ∷ 5 ∷ 7 ∷ []) k n ≡ n → IsSharper n
sharper_of n zero l e = subst IsSharper e (λ switches events entries commands. omega arith)
sharper_of n (suc zero) l e = subst IsSharper e (λ switches events entries commands. omega arith)
sharper_of n (suc (suc zero)) l e = subst IsSharper e (λ switches events entries commands. omega arith)
sharper_of n (suc (suc (suc zero))) l e = subst IsSharper e (λ switches events entries commands. omega arith)
sharper_of n (suc (suc (suc (suc k)))) l e = absurd (omega (arith, l))

pub quick_law : {B : Type 0} → ClosingsAreQuick B
quick_law scene results before entries last setup faithful given possible succeed within closes posted =
    let sharp = sharp_law scene results before entries last setup faithful given possible succeed within closes posted in
    let group = setup.group in
    let members = closing_members scene results before in
    let below = sharper_of scene.setup.controllers group.0 group.1 group.2 (length scene.setup.ports) (events_left scene results before) (entries_left members)
    (commands_left scene (decided scene results (reverse entries ++ before)) (place_known members)) in
    omega (arith, sharp, below)

-- What the primary of a view does with the logs that it collects, and how it fetches what it lacks.
use Rattle.std.proofs.Common.{◌≡◌, ◌≤◌, ◌<◌, ◌⊎◌, inl, inr, ℕ, suc, ◌+◌, ◌/◌, ◌%◌, Bool, true, false, List, [], ◌∷◌, ◌++◌, length, take, drop, refl, sym, ◌∙◌, ap, arith}
use Rattle.std.specs.Prelude.{not, nat_eq, nat_le, nat_lt, ◌&&◌, ◌||◌, Option, Some, None, if◌then◌else◌}
use Rattle.std.proofs.lemmas.Bool.{eq-eqb, ne_eqb, le-leb, lt-leb, le-ltb, lt-ltb, ltb-true, eqb-true, eqb-false, and_right, true≢false}
use Rattle.std.proofs.lemmas.List.{take-append-drop, take-take}
use Rattle.vr_log.specs.declared.entry.Entry.{Entry}
use Rattle.vr_log.specs.declared.message.VrLetter.{VrLetter}
use Rattle.vr_log.specs.declared.message.VrMessage.TheVariants as message
use Rattle.vr_log.specs.declared.state.Collected.{Collected}
use Rattle.vr_log.specs.declared.state.Supplied.{Supplied}
use Rattle.vr_log.specs.declared.state.VrState.{VrState}
use Rattle.vr_log.specs.Steps.{VrStep, quiet, guarded, then_step, letter, tells, sends}
use Rattle.vr_log.specs.Choosing.{has_collected, best_of, least_commit, greatest_commit, front, reaches, fetch_letter, is_better, length_of}
use Rattle.view_change.specs.Cases.{collect}
use Rattle.view_change.specs.Entering.{collects, enter, check, votes, chooses, chooses_from, started_view, tells_start, own_log}
use Rattle.vr_core.specs.declared.input.VrInput.TheVariants as vr_input
use Rattle.vr_core.specs.Step.{vr_step, on_vr}
use Rattle.closing_laws.specs.Views.{in_view}
use Rattle.closing_laws.proofs.Start.Members.{check_rests}

-- the best of several logs, where one is better than each other
better_back : (a b : Collected) → is_better a b ≡ true → is_better b a ≡ false
better_back a b h = by_normal (nat_eq a.normal b.normal) refl h
  where
    by_from : nat_lt a.from b.from ≡ true → nat_lt b.from a.from ≡ false
    by_from k = let less = ltb-true a.from b.from k in le-ltb b.from a.from (omega (arith, less))

    by_length : (d : Bool) → nat_eq (length_of a) (length_of b) ≡ d → (if d then nat_lt a.from b.from else nat_lt (length_of b) (length_of a)) ≡ true →
        (if nat_eq (length_of b) (length_of a) then nat_lt b.from a.from else nat_lt (length_of a) (length_of b)) ≡ false
    by_length true e k = rw (eq-eqb (length_of b) (length_of a) (sym (eqb-true (length_of a) (length_of b) e))) (by_from k)
    by_length false e k =
        let less = ltb-true (length_of b) (length_of a) k in
        rw (ne_eqb (length_of b) (length_of a) (λ x. eqb-false (length_of a) (length_of b) e (sym x))) (le-ltb (length_of a) (length_of b) (omega (arith, less)))

    by_normal : (d : Bool) → nat_eq a.normal b.normal ≡ d →
        (if d then (if nat_eq (length_of a) (length_of b) then nat_lt a.from b.from else nat_lt (length_of b) (length_of a)) else nat_lt b.normal a.normal) ≡ true →
        (if nat_eq b.normal a.normal then (if nat_eq (length_of b) (length_of a) then nat_lt b.from a.from else nat_lt (length_of a) (length_of b)) else nat_lt a.normal b.normal) ≡ false
    by_normal true e k = rw (eq-eqb b.normal a.normal (sym (eqb-true a.normal b.normal e))) (by_length (nat_eq (length_of a) (length_of b)) refl k)
    by_normal false e k =
        let less = ltb-true b.normal a.normal k in
        rw (ne_eqb b.normal a.normal (λ x. eqb-false a.normal b.normal e (sym x))) (le-ltb a.normal b.normal (omega (arith, less)))

-- a log is the best of several
abbrev pub IsBest : Collected → List Collected → Type 0
IsBest best [] = Unit {0}
IsBest best (c ∷ cs) = ((c ≡ best) ⊎ (is_better best c ≡ true)) × IsBest best cs

abbrev pub Holds : Collected → List Collected → Type 0
Holds best [] = ⊥
Holds best (c ∷ cs) = (c ≡ best) ⊎ Holds best cs

not_better : (a : Collected) → is_better a a ≡ false
not_better a = rw (eq-eqb a.normal a.normal refl, eq-eqb (length_of a) (length_of a) refl) (le-ltb a.from a.from (omega arith))

best_stays : (best : Collected) (cs : List Collected) → IsBest best cs → best_of best cs ≡ best
best_stays best [] all = refl
best_stays best (c ∷ cs) all =
    let worse : is_better c best ≡ false = elim (all.0) [ inl e ↦ ap (λ (x : Collected). is_better x best) e ∙ not_better best | inr k ↦ better_back best c k ] in
    rw worse (best_stays best cs all.1)

pub best_found : (best c : Collected) (cs : List Collected) → IsBest best (c ∷ cs) → Holds best (c ∷ cs) → best_of c cs ≡ best
best_found best c cs all (inl e) = ap (λ (x : Collected). best_of x cs) e ∙ best_stays best cs all.1
best_found best c [] all (inr h) = absurd h
best_found best c (d ∷ cs) all (inr h) =
    best_found best (if is_better d c then d else c) cs (fact (is_better d c), all.1.1) (held (is_better d c) refl h)
  where
    fact : (b : Bool) → ((if b then d else c) ≡ best) ⊎ (is_better best (if b then d else c) ≡ true)
    fact true = all.1.0
    fact false = all.0

    held : (b : Bool) → is_better d c ≡ b → (d ≡ best) ⊎ Holds best cs → ((if b then d else c) ≡ best) ⊎ Holds best cs
    held b e (inr k) = inr k
    held true e (inl k) = inl k
    held false e (inl k) = elim (all.0) [
      | inl same ↦ inl same
      | inr better ↦ absurd (true≢false (sym (ap (λ (x : Collected). is_better x c) k ∙ better) ∙ e))
    ]

-- the entries that a primary starts from: its own committed ones agree with the log that is chosen
pub joined_log : (best : Collected) (own log : List Entry) (commit : ℕ) → commit ≤ length own → best.commit ≤ commit → take commit own ≡ take commit log → best.log ≡ drop best.commit log →
    take best.commit (take commit own) ++ best.log ≡ log
joined_log best own log commit le less agree rest =
    ap (λ (xs : List Entry). take best.commit xs ++ best.log) agree
    ∙ ap (λ (xs : List Entry). xs ++ best.log) (take-take best.commit commit log less)
    ∙ ap (λ (xs : List Entry). take best.commit log ++ xs) rest
    ∙ take-append-drop best.commit log

pub supplied_front : (own log : List Entry) (commit far : ℕ) → commit ≤ far → take commit own ≡ take commit log → take commit own ++ drop commit (take far log) ≡ take far log
supplied_front own log commit far le agree =
    ap (λ (xs : List Entry). xs ++ drop commit (take far log)) (agree ∙ sym (take-take commit far log le))
    ∙ take-append-drop commit (take far log)

module _ (s : VrState) (w : ℕ) (voters : List ℕ) (here : nat_eq (w % s.controllers) s.me ≡ true) (group : 0 < s.controllers / 2) where
  -- a primary that has its votes, its own log and these
  abbrev pub gathering : List Collected → Option Supplied → VrState
  gathering cs supply = in_view s w voters true (own_log s ∷ cs) supply

  no_more_votes : (cs : List Collected) (supply : Option Supplied) → votes (gathering cs supply) ≡ quiet (gathering cs supply)
  no_more_votes cs supply = rw (and_right (nat_le (s.controllers / 2) (length voters)) false refl) refl

  pub waits : (cs : List Collected) (supply : Option Supplied) → length cs < s.controllers / 2 → check (gathering cs supply) ≡ quiet (gathering cs supply)
  waits cs supply few =
      let short : nat_lt (s.controllers / 2) (suc (length cs)) ≡ false = le-ltb (s.controllers / 2) (suc (length cs)) (omega (arith, few)) in
      check_rests (gathering cs supply) (quiet (gathering cs supply)) (no_more_votes cs supply)
      (and_right (true && nat_eq (w % s.controllers) s.me && (nat_eq s.me s.me || has_collected (in_view s w voters true cs supply) s.me)) (nat_lt (s.controllers / 2) (suc (length cs))) short)

  chooses_now : (cs : List Collected) (supply : Option Supplied) → s.controllers / 2 ≤ length cs → chooses (gathering cs supply) ≡ chooses_from (gathering cs supply) (own_log s ∷ cs)
  chooses_now cs supply enough =
      let long : nat_lt (s.controllers / 2) (suc (length cs)) ≡ true = lt-ltb (s.controllers / 2) (suc (length cs)) (omega (arith, enough)) in
      let own : nat_eq s.me s.me ≡ true = eq-eqb s.me s.me refl in
      rw (here, own, long) refl

  then_chosen : (t : VrState) (u : VrState) (ls : List VrLetter) → chooses t ≡ sends u ls → then_step (quiet t) chooses ≡ sends u ls
  then_chosen t u ls is = ap (λ (x : VrStep). then_step (quiet t) (λ (y : VrState). x)) is

  by_choice : (cs : List Collected) (supply : Option Supplied) (u : VrState) (ls : List VrLetter) → s.controllers / 2 ≤ length cs →
      chooses_from (gathering cs supply) (own_log s ∷ cs) ≡ sends u ls → check (gathering cs supply) ≡ sends u ls
  by_choice cs supply u ls enough is =
      ap (λ (x : VrStep). then_step x chooses) (no_more_votes cs supply) ∙ then_chosen (gathering cs supply) u ls (chooses_now cs supply enough ∙ is)

  -- the view starts
  pub check_starts : (cs : List Collected) (supply : Option Supplied) (best : Collected) (log : List Entry) → s.controllers / 2 ≤ length cs → best_of (own_log s) cs ≡ best →
      best.commit ≤ length (front (gathering cs supply)) → take best.commit (front (gathering cs supply)) ++ best.log ≡ log →
      check (gathering cs supply) ≡ tells_start (started_view (gathering cs supply) log (least_commit s.commit cs) (greatest_commit s.commit cs))
  check_starts cs supply best log enough found near is =
      let t = gathering cs supply in
      let reached : reaches t best ≡ true = le-leb best.commit (length (front t)) near in
      let step = tells_start (started_view t log (least_commit s.commit cs) (greatest_commit s.commit cs)) in
      by_choice cs supply step.state step.letters enough
      (ap (λ (b : Collected). if reaches t b then tells_start (started_view t (take b.commit (front t) ++ b.log) (least_commit s.commit cs) (greatest_commit s.commit cs)) else sends t (fetch_letter t b ∷ [])) found
      ∙ ap (λ (b : Bool). if b then tells_start (started_view t (take best.commit (front t) ++ best.log) (least_commit s.commit cs) (greatest_commit s.commit cs)) else sends t (fetch_letter t best ∷ [])) reached
      ∙ ap (λ (l : List Entry). tells_start (started_view t l (least_commit s.commit cs) (greatest_commit s.commit cs))) is)

  -- or what lacks is fetched
  pub check_fetches : (cs : List Collected) (supply : Option Supplied) (best : Collected) → s.controllers / 2 ≤ length cs → best_of (own_log s) cs ≡ best →
      length (front (gathering cs supply)) < best.commit →
      check (gathering cs supply) ≡ sends (gathering cs supply) (letter (message.Fetch w s.commit) best.from ∷ [])
  check_fetches cs supply best enough found far =
      let t = gathering cs supply in
      let lacks : reaches t best ≡ false = lt-leb best.commit (length (front t)) far in
      by_choice cs supply t (letter (message.Fetch w s.commit) best.from ∷ []) enough
      (ap (λ (b : Collected). if reaches t b then tells_start (started_view t (take b.commit (front t) ++ b.log) (least_commit s.commit cs) (greatest_commit s.commit cs)) else sends t (fetch_letter t b ∷ [])) found
      ∙ ap (λ (b : Bool). if b then tells_start (started_view t (take best.commit (front t) ++ best.log) (least_commit s.commit cs) (greatest_commit s.commit cs)) else sends t (fetch_letter t best ∷ [])) lacks)

  -- a log comes
  log_joins : (cs : List Collected) (c : Collected) → has_collected (gathering cs None) c.from ≡ false → collects (gathering cs None) c ≡ gathering (cs ++ c ∷ []) None
  log_joins cs c new = ap (λ (b : Bool). if b then gathering cs None else gathering (cs ++ c ∷ []) None) new

  log_taken : (cs : List Collected) (c : Collected) (u : VrState) → collects (gathering cs None) c ≡ u → collect (gathering cs None) w c ≡ guarded (gathering cs None) (check u)
  log_taken cs c u is =
      let t = gathering cs None in
      let later : nat_lt w w ≡ false = le-ltb w w (omega arith) in
      let same : (nat_eq w w && true) ≡ true = rw (eq-eqb w w refl) refl in
      ap (λ (b : Bool). if b then guarded t (then_step (enter t w) (λ next. check (collects next c))) else if nat_eq w w && true then guarded t (check (collects t c)) else quiet t) later
      ∙ ap (λ (b : Bool). if b then guarded t (check (collects t c)) else quiet t) same
      ∙ ap (λ (x : VrState). guarded t (check x)) is

  pub log_comes : (cs : List Collected) (c : Collected) → c.from < s.controllers → (c.from ≡ s.me → ⊥) → has_collected (gathering cs None) c.from ≡ false →
      vr_step (gathering cs None) (vr_input.From c.from (message.DoViewChange w c.normal c.commit c.log)) ≡ guarded (gathering cs None) (check (gathering (cs ++ c ∷ []) None))
  unfolding on_vr
  log_comes cs c small other new =
      let t = gathering cs None in
      let below : nat_lt c.from s.controllers ≡ true = lt-ltb c.from s.controllers small in
      let apart : nat_eq c.from s.me ≡ false = ne_eqb c.from s.me other in
      let another : (nat_lt c.from s.controllers && not (nat_eq c.from s.me)) ≡ true = rw (below, apart) refl in
      let mine : nat_eq s.me (w % s.controllers) ≡ true = eq-eqb s.me (w % s.controllers) (sym (eqb-true (w % s.controllers) s.me here)) in
      ap (λ (b : Bool). if b then (if nat_eq s.me (w % s.controllers) then collect t w c else quiet t) else quiet t) another
      ∙ ap (λ (b : Bool). if b then collect t w c else quiet t) mine ∙ log_taken cs c (gathering (cs ++ c ∷ []) None) (log_joins cs c new)

  -- what was fetched comes
  pub supply_comes : (cs : List Collected) (from : ℕ) (more : List Entry) → from < s.controllers → (from ≡ s.me → ⊥) → length (take s.commit s.log) < s.commit + length more →
      vr_step (gathering cs None) (vr_input.From from (message.Supply w s.commit more)) ≡
      guarded (gathering cs None) (check (gathering cs (Some (record { first = s.commit; log = more }))))
  unfolding on_vr
  supply_comes cs from more small other goes =
      let below : nat_lt from s.controllers ≡ true = lt-ltb from s.controllers small in
      let apart : nat_eq from s.me ≡ false = ne_eqb from s.me other in
      let same : nat_eq w w ≡ true = eq-eqb w w refl in
      let first : nat_le s.commit s.commit ≡ true = le-leb s.commit s.commit (omega arith) in
      let wanted : nat_lt (length (take s.commit s.log)) (s.commit + length more) ≡ true = lt-ltb (length (take s.commit s.log)) (s.commit + length more) goes in
      rw (below, apart, same, here, first, wanted) refl

-- a member whose view changes tells what it has committed
pub fetch_comes : (s : VrState) (w : ℕ) (voters : List ℕ) (sent : Bool) (logs : List Collected) (supply : Option Supplied) (from op : ℕ) → from < s.controllers → (from ≡ s.me → ⊥) → op ≤ s.commit →
    vr_step (in_view s w voters sent logs supply) (vr_input.From from (message.Fetch w op)) ≡
    tells (in_view s w voters sent logs supply) from (message.Supply w op (drop op (take s.commit s.log)))
unfolding on_vr
fetch_comes s w voters sent logs supply from op small other le =
    let below : nat_lt from s.controllers ≡ true = lt-ltb from s.controllers small in
    let apart : nat_eq from s.me ≡ false = ne_eqb from s.me other in
    let same : nat_eq w w ≡ true = eq-eqb w w refl in
    let within : nat_le op s.commit ≡ true = le-leb op s.commit le in
    rw (below, apart, same, within) refl

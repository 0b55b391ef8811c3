-- Which steps of a view change are not dropped.
use Rattle.std.proofs.Common.{inl, inr, min, ◌≡◌, ◌≤◌, ◌<◌, ℕ, ◌+◌, ◌-◌, ◌/◌, Bool, true, false, ◌&&◌, None, List, [], ◌∷◌, ◌++◌, length, take, drop, refl, ap, sym, subst, ◌∙◌, arith, append-nil}
use Rattle.std.specs.Prelude.{not, nat_eq, nat_le, nat_lt, if◌then◌else◌, Contains}
use Rattle.std.specs.List.{list_any}
use Rattle.std.proofs.lemmas.Bool.{and_parts, le-leb, cases_lt}
use Rattle.std.proofs.lemmas.Bool.Decides.{nat_tests}
use Rattle.std.proofs.lemmas.List.{length-take, length-take-le, take-take, take-append-le, take-append-drop, take_min}
use Rattle.std.proofs.Math.Seq.{take-append-add}
use Rattle.vr_log.specs.declared.entry.Entry.{Entry}
use Rattle.vr_log.specs.declared.state.Collected.{Collected}
use Rattle.vr_log.specs.declared.state.VrState.{VrState}
use Rattle.vr_log.specs.Log.{is_log, IsLog}
use Rattle.vr_log.specs.Members.{is_changing, is_primary, is_other, most_failures}
use Rattle.vr_log.specs.Same.{same_entries}
use Rattle.vr_log.specs.Choosing.{has_collected, may_choose, reaches, front}
use Rattle.vr_log.specs.Steps.{VrStep, quiet, with_log, is_sound}
use Rattle.vr_log.specs.Valid.{IsValidState}
use Rattle.vr_log.proofs.Equal.{entries_equal, entries_same}
use Rattle.view_change.specs.Entering.{entered_view, voted, collects, own_log, sends_log, starts, chooses_from, chooses, check}

no_end : (b : Bool) → (b && false) ≡ false
no_end true = refl
no_end false = refl

-- a log with each committed entry reaches the commit number, so the whole of it may be committed too
whole : (k : ℕ) (old log : List Entry) (b : Bool) → k ≤ length old → same_entries (take k old) (take k log) ≡ b →
    (is_log log && nat_le k (length log) && same_entries (take k old) (take k log)) ≡ (is_log log && nat_le (length log) (length log) && same_entries (take k old) (take k log))
whole k old log true le e =
    let same = ap length (entries_equal (take k old) (take k log) e) in
    let a = length-take k old in let b = length-take k log in
    rw (le-leb k (length log) (omega (arith, same, a, b, le)), le-leb (length log) (length log) (omega arith)) refl
whole k old log false le e = rw (e, no_end (is_log log && nat_le k (length log)), no_end (is_log log && nat_le (length log) (length log))) refl

pub sound_whole : (s : VrState) (first : ℕ) (entries : List Entry) → s.commit ≤ length s.log →
    is_sound s (with_log s first entries s.commit) ≡ is_sound s (with_log s first entries (length (take first s.log ++ entries)))
sound_whole s first entries le = whole s.commit s.log (take first s.log ++ entries) (same_entries (take s.commit s.log) (take s.commit (take first s.log ++ entries))) le refl

-- the first entries of a front
pub front_supplied : (through first place len : ℕ) (log told : List Entry) → first ≤ length log → place ≡ min through first → len ≡ min (through - place) (length told) →
    take place log ++ take len told ≡ take through (take first log ++ told)
front_supplied through first place len log told le p l = elim (cases_lt first through) [
  | inl more ↦
      let e : place ≡ first = omega arith in
      let n : length (take first log) ≡ first = length-take-le first log le in
      let t : through ≡ length (take first log) + (through - first) = omega arith in
      let q : len ≡ min (through - first) (length told) = omega arith in
      rw (e, q, take_min (through - first) told) (sym (ap (λ (k : ℕ). take k (take first log ++ told)) t ∙ take-append-add (take first log) told (through - first)))
  | inr less ↦
      let e : place ≡ through = omega arith in
      let n : length (take first log) ≡ first = length-take-le first log le in
      let q : len ≡ 0 = omega arith in
      rw (e, q, append-nil (take through log)) (sym (take-append-le through (take first log) told (omega arith) ∙ take-take through first log less))
]

-- a state with the same log, of which no more than all is committed
pub record Keeps (s t : VrState) : Type 0 where
  pub log : t.log ≡ s.log
  pub commit : t.commit ≤ length s.log

pub sound_keeps : (s t : VrState) → IsLog s.log → Keeps s t → is_sound s t ≡ true
sound_keeps s t one k = rw (k.log, one.follow, le-leb t.commit (length s.log) k.commit, entries_same (take s.commit s.log)) refl

-- a choice, where each side keeps them
keeps : (s : VrState) (b : Bool) (x y : VrStep) → (b ≡ true → Keeps s x.state) → (b ≡ false → Keeps s y.state) → Keeps s (if b then x else y).state
keeps s true x y p q = p refl
keeps s false x y p q = q refl

-- nothing is chosen without a log
chooses_none : (s p : VrState) → Keeps s p → p.collected ≡ [] → Keeps s (chooses p).state
chooses_none s p k none = keeps s (may_choose p) (chooses_from p p.collected) (quiet p) (λ on. subst (λ (all : List Collected). Keeps s (chooses_from p all).state) (sym none) k) (λ off. k)

few : (b : Bool) (x y most : ℕ) → x ≤ most → y ≤ most → (if b then x else y) ≤ most
few true x y most p q = p
few false x y most p q = q

-- the own log alone starts a view with itself
own_again : (k : ℕ) (log : List Entry) → take k (take k log) ++ drop k log ≡ log
own_again k log = rw (take-take k k log (omega arith)) (take-append-drop k log)

chooses_own : (s p : VrState) → s.commit ≤ length s.log → p.log ≡ s.log → p.commit ≡ s.commit → p.supply ≡ None → p.collected ≡ own_log p ∷ [] → Keeps s (chooses p).state
chooses_own s p le log commit none own =
    let here : Keeps s p = record { log = log; commit = omega (arith, commit, le) } in
    keeps s (may_choose p) (chooses_from p p.collected) (quiet p)
    (λ on. subst (λ (all : List Collected). Keeps s (chooses_from p all).state) (sym own)
    (keeps s (reaches p (own_log p)) (starts p (own_log p) []) _ (λ far. started_keeps) (λ near. here)))
    (λ off. here)
  where
    started_keeps : Keeps s (starts p (own_log p) []).state
    started_keeps =
        let f : front p ≡ take p.commit p.log = rw none refl in
        let l : take p.commit (front p) ++ drop p.commit p.log ≡ s.log = rw f (own_again p.commit p.log ∙ log) in
        let e = ap length l in
        record {
          log = l;
          commit = few (nat_eq (most_failures p) 0) (length (take p.commit (front p) ++ drop p.commit p.log)) p.commit (length s.log) (omega (arith, e)) (omega (arith, commit, le));
        }

-- a view that was only just entered changes no log
entered_keeps : (s t : VrState) → s.commit ≤ length s.log → t.log ≡ s.log → t.commit ≡ s.commit → t.supply ≡ None → t.collected ≡ [] → Keeps s (check t).state
entered_keeps s t le log commit none empty =
    let here : Keeps s t = record { log = log; commit = omega (arith, commit, le) } in
    voted_case (nat_le (most_failures t) (length t.votes) && not t.sent)
    (cond_step (is_primary t) _ _ (own_case (has_collected t t.me) (ap (λ (all : List Collected). list_any (λ c. nat_eq c.from t.me) all) empty)) (chooses_none s (record t { sent = true }) (record { log = here.log; commit = here.commit }) empty))
    (chooses_none s t here empty)
  where
    voted_case : (b : Bool) → Keeps s (chooses (sends_log t).state).state → Keeps s (chooses t).state → Keeps s (chooses (if b then sends_log t else quiet t).state).state
    voted_case true p q = p
    voted_case false p q = q

    cond_step : (b : Bool) (x y : VrStep) → Keeps s (chooses x.state).state → Keeps s (chooses y.state).state → Keeps s (chooses (if b then x else y).state).state
    cond_step true x y p q = p
    cond_step false x y p q = q

    own_case : (b : Bool) → b ≡ false → Keeps s (chooses (record (if b then t else record t { collected = t.collected ++ own_log t ∷ [] }) { sent = true })).state
    own_case true off = absurd cc
    own_case false off = chooses_own s (record t { collected = t.collected ++ own_log t ∷ []; sent = true }) le log commit none (ap (λ (all : List Collected). all ++ own_log t ∷ []) empty)

pub enters_sound : (s : VrState) (view : ℕ) → IsLog s.log → s.commit ≤ length s.log → is_sound s (check (entered_view s view)).state ≡ true
enters_sound s view one le = sound_keeps s (check (entered_view s view)).state one (entered_keeps s (entered_view s view) le refl refl refl refl)

pub vote_sound : (s : VrState) (view from : ℕ) → IsLog s.log → s.commit ≤ length s.log → is_sound s (check (voted (entered_view s view) from)).state ≡ true
vote_sound s view from one le = sound_keeps s (check (voted (entered_view s view) from)).state one (entered_keeps s (voted (entered_view s view) from) le refl refl refl refl)

-- nor does one with the log of another member alone
others_keeps : (s t : VrState) (c : Collected) → Keeps s t → t.votes ≡ [] → t.collected ≡ c ∷ [] → nat_eq c.from t.me ≡ false → 0 < most_failures t → Keeps s (check t).state
others_keeps s t c k votes one other some =
    let off : (nat_le (most_failures t) (length t.votes) && not t.sent) ≡ false = rw (votes, above (most_failures t) some) refl in
    rw off (keeps s (may_choose t) _ (quiet t) (λ on. absurd (unable on)) (λ no. k))
  where
    above : (f : ℕ) → 0 < f → nat_le f 0 ≡ false
    above f lt = grind (arith, nat_tests)

    unable : may_choose t ≡ true → ⊥
    unable on =
        let p = and_parts (is_changing t && is_primary t && has_collected t t.me) (nat_lt (most_failures t) (length t.collected)) on in
        let q = and_parts (is_changing t && is_primary t) (has_collected t t.me) p.0 in
        let none : has_collected t t.me ≡ false = rw (one, other) refl in
        (let z : true ≡ false = sym q.1 ∙ none in cc)

-- a group with another member has one that may fail
some_fail : (s : VrState) (from : ℕ) → Contains (1 ∷ 3 ∷ 5 ∷ 7 ∷ []) s.controllers → s.me < s.controllers → is_other s from ≡ true → (0 < most_failures s) × (nat_eq from s.me ≡ false)
some_fail s from group member other =
    let p = and_parts (nat_lt from s.controllers) (not (nat_eq from s.me)) other in
    (half s.me from s.controllers member p.0 p.1, off (nat_eq from s.me) p.1)
  where
    half : (me from n : ℕ) → me < n → nat_lt from n ≡ true → not (nat_eq from me) ≡ true → 0 < n / 2
    half me from n a b c = grind (arith, nat_tests)

    off : (b : Bool) → not b ≡ true → b ≡ false
    off false e = refl
    off true e = absurd cc

pub collect_sound : (s : VrState) (view : ℕ) (c : Collected) → IsValidState s → is_other s c.from ≡ true → is_sound s (check (collects (entered_view s view) c)).state ≡ true
collect_sound s view c v other =
    let f = some_fail s c.from v.group v.member other in
    sound_keeps s (check (collects (entered_view s view) c)).state v.log
    (others_keeps s (collects (entered_view s view) c) c (record { log = refl; commit = v.commit }) refl refl f.1 f.0)

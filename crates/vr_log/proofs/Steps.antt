-- Steps one after another, and steps that are not dropped.
use Rattle.std.proofs.Common.{◌≡◌, ◌≤◌, ℕ, ◌+◌, ◌-◌, Bool, true, ◌&&◌, Option, None, Some, List, [], ◌++◌, length, take, drop, refl, ap, sym, subst, ◌∙◌, append_assoc, length-append, arith}
use Rattle.std.specs.Prelude.{nat_le}
use Rattle.std.proofs.lemmas.Bool.{le-leb}
use Rattle.std.proofs.lemmas.List.{take-append-drop, length-take-le}
use Rattle.std.proofs.Math.Seq.{take-append-add}
use Rattle.vr_log.specs.declared.entry.Entry.{Entry}
use Rattle.vr_log.specs.declared.message.VrLetter.{VrLetter}
use Rattle.vr_log.specs.declared.state.VrOut.{VrOut}
use Rattle.vr_log.specs.declared.state.VrState.{VrState}
use Rattle.vr_log.specs.Log.{follows, is_log, IsLog}
use Rattle.vr_log.specs.Same.{same_entries}
use Rattle.vr_log.specs.Steps.{VrStep, Did, later_of, then_step, with_log, is_sound}
use Rattle.vr_log.proofs.Logs.{follows-append, follows_take}
use Rattle.vr_log.proofs.Equal.{entries_same, same_behind}

later_of-assoc : (a b c : Option ℕ) → later_of (later_of a b) c ≡ later_of a (later_of b c)
later_of-assoc a b None = refl
later_of-assoc a b (Some view) = refl

pub did_then : (first : VrStep) (next : VrState → VrStep) (middle state : VrState) (old between new : VrOut) →
    Did first middle old between → Did (next middle) state between new → Did (then_step first next) state old new
did_then first next middle state old between new a b =
    let c : Did (next first.state) state between new = subst (λ (s : VrState). Did (next s) state between new) a.state_is b in
    record {
      state_is = c.state_is;
      promise_is = c.promise_is ∙ (ap (λ (p : Option ℕ). later_of p (next first.state).promise) a.promise_is ∙ later_of-assoc old.promise first.promise (next first.state).promise);
      letters_are = c.letters_are ∙ (ap (λ (l : List VrLetter). l ++ (next first.state).letters) a.letters_are ∙ append_assoc old.letters first.letters (next first.state).letters);
    }

-- a case that leaves log and commit number is not dropped
pub sound_here : (s t : VrState) → IsLog s.log → s.commit ≤ length s.log → t.log ≡ s.log → t.commit ≡ s.commit → is_sound s t ≡ true
sound_here s t one le log commit = rw (log, commit, one.follow, le-leb s.commit (length s.log) le, entries_same (take s.commit s.log)) refl

-- What a log that takes the place of the own one is tested for: what stands behind the entries that stay.
take_behind : (first k : ℕ) (log entries : List Entry) → first ≤ k → k ≤ length log → take k (take first log ++ entries) ≡ take first log ++ take (k - first) entries
take_behind first k log entries a b =
    let l : length (take first log) ≡ first = length-take-le first log (omega arith) in
    let e : k ≡ length (take first log) + (k - first) = omega arith in
    ap (λ (n : ℕ). take n (take first log ++ entries)) e ∙ take-append-add (take first log) entries (k - first)

take_own : (first k : ℕ) (log : List Entry) → first ≤ k → k ≤ length log → take k log ≡ take first log ++ take (k - first) (drop first log)
take_own first k log a b = ap (λ (l : List Entry). take k l) (sym (take-append-drop first log)) ∙ take_behind first k log (drop first log) a b

pub kept_is : (r : Bool) (first k : ℕ) (log entries known told : List Entry) → first ≤ k → k ≤ length log → r ≡ same_entries known told → known ≡ take (k - first) (drop first log) → told ≡ take (k - first) entries →
    r ≡ same_entries (take k log) (take k (take first log ++ entries))
kept_is r first k log entries known told a b e x y =
    e ∙ rw (x, y, take_own first k log a b, take_behind first k log entries a b) (sym (same_behind (take first log) (take (k - first) (drop first log)) (take (k - first) entries)))

log_behind : (first : ℕ) (log entries : List Entry) → IsLog log → is_log (take first log ++ entries) ≡ follows (take first log) entries
log_behind first log entries h = follows-append [] (take first log) entries ∙ rw (follows_take first [] log h.follow) refl

pub sound_with : (s : VrState) (first commit : ℕ) (entries : List Entry) → IsLog s.log → first ≤ length s.log →
    is_sound s (with_log s first entries commit) ≡ (follows (take first s.log) entries && nat_le commit (first + length entries) && same_entries (take s.commit s.log) (take s.commit (take first s.log ++ entries)))
sound_with s first commit entries h le =
    let l : length (take first s.log ++ entries) ≡ first + length entries = length-append (take first s.log) entries ∙ rw (length-take-le first s.log le) refl in
    rw (log_behind first s.log entries h, l) refl

-- The first line that fails, of lines one after another.
use Rattle.std.proofs.Common.{◌≡◌, ◌<◌, ℕ, zero, suc, ◌+◌, Bool, true, false, List, ◌∷◌, [], ◌++◌, length, get_or, map, drop, replicate, Option, Some, None, refl, sym, ap, ◌∙◌, arith, length-append}
use Rattle.std.proofs.lemmas.List.{drop_more, length-map, length-replicate}
use Rattle.of_types.specs.declared.message.Event.{Event}
use Rattle.report.specs.declared.record.SwitchRecord.{SwitchRecord}
use Rattle.audit.specs.declared.switch_lines.Committed.{Committed}
use Rattle.audit.specs.Audit.{first_failing}
use Rattle.audit.specs.Judging.{events_fail_by, executed_fails_by, told_fails_by, switches_fail_by}

pub first_here : (line n : ℕ) (xs ys : List Bool) → first_failing line xs ≡ Some n → first_failing line (xs ++ ys) ≡ Some n
first_here line n [] ys h = absurd cc
first_here line n (true ∷ xs) ys h = h
first_here line n (false ∷ xs) ys h = first_here (line + 1) n xs ys h

pub first_behind : (line : ℕ) (xs ys : List Bool) → first_failing line xs ≡ None → first_failing line (xs ++ ys) ≡ first_failing (line + length xs) ys
first_behind line [] ys h = ap (λ n. first_failing n ys) (omega arith)
first_behind line (true ∷ xs) ys h = absurd cc
first_behind line (false ∷ xs) ys h = first_behind (line + 1) xs ys h ∙ ap (λ n. first_failing n ys) (omega arith)

pub none_fails : (line n : ℕ) → first_failing line (replicate n false) ≡ None
none_fails line zero = refl
none_fails line (suc n) = none_fails (line + 1) n

length-events_fail_by : (c : Committed) (life held : ℕ) (xs : List Event) → length (events_fail_by c life held xs) ≡ length xs
length-events_fail_by c life held [] = refl
length-events_fail_by c life held (x ∷ xs) = ap suc (length-events_fail_by c life held xs)

module _ (c : Committed) (switch : ℕ) (t : SwitchRecord) where
  pub length_told : length (told_fails_by c switch t) ≡ 1 + (length t.events + (length t.executed + length t.rows))
  length_told =
      let events = events_fail_by c t.life t.held t.events in
      let executed = map (executed_fails_by c switch) t.executed in
      let rows = replicate (length t.rows) false in
      let a = length-append events (executed ++ rows) in
      let b = length-append executed rows in
      let d = length-events_fail_by c t.life t.held t.events in
      let e = length-map t.executed (executed_fails_by c switch) in
      let f = length-replicate {A = Bool} (length t.rows) false in
      omega (arith, a, b, d, e, f)

  pub event_first : (line n : ℕ) (found : Option ℕ) → found ≡ first_failing (line + 1) (events_fail_by c t.life t.held t.events) → found ≡ Some n → Some n ≡ first_failing line (told_fails_by c switch t)
  event_first line n found is some = sym (first_here (line + 1) n (events_fail_by c t.life t.held t.events) (map (executed_fails_by c switch) t.executed ++ replicate (length t.rows) false) (sym is ∙ some))

  pub executed_first : (line : ℕ) (events executed : Option ℕ) → events ≡ first_failing (line + 1) (events_fail_by c t.life t.held t.events) → events ≡ None →
      executed ≡ first_failing (line + 1 + length t.events) (map (executed_fails_by c switch) t.executed) → executed ≡ first_failing line (told_fails_by c switch t)
  executed_first line events executed is none e =
      e ∙ rows executed e
      ∙ ap (λ (n : ℕ). first_failing (line + 1 + n) (map (executed_fails_by c switch) t.executed ++ replicate (length t.rows) false)) (sym (length-events_fail_by c t.life t.held t.events))
      ∙ sym (first_behind (line + 1) (events_fail_by c t.life t.held t.events) (map (executed_fails_by c switch) t.executed ++ replicate (length t.rows) false) (sym is ∙ none))
    where
      rows : (o : Option ℕ) → o ≡ first_failing (line + 1 + length t.events) (map (executed_fails_by c switch) t.executed) →
          first_failing (line + 1 + length t.events) (map (executed_fails_by c switch) t.executed)
          ≡ first_failing (line + 1 + length t.events) (map (executed_fails_by c switch) t.executed ++ replicate (length t.rows) false)
      rows (Some n) h = sym h ∙ sym (first_here (line + 1 + length t.events) n (map (executed_fails_by c switch) t.executed) (replicate (length t.rows) false) (sym h))
      rows None h =
          sym h ∙ sym (first_behind (line + 1 + length t.events) (map (executed_fails_by c switch) t.executed) (replicate (length t.rows) false) (sym h)
          ∙ none_fails (line + 1 + length t.events + length (map (executed_fails_by c switch) t.executed)) (length t.rows))

module _ (c : Committed) (switches : List SwitchRecord) (s i : ℕ) (t : SwitchRecord) (lt : i < length switches) (at : t ≡ get_or switches i t) where
  told_line : switches_fail_by c s (drop i switches) ≡ told_fails_by c s t ++ switches_fail_by c (s + 1) (drop (i + 1) switches)
  told_line = ap (λ (l : List SwitchRecord). switches_fail_by c s l) (drop_more switches i t lt) ∙ ap (λ (x : SwitchRecord). told_fails_by c s x ++ switches_fail_by c (s + 1) (drop (i + 1) switches)) (sym at)

  pub told_stops : (line n : ℕ) (total : Option ℕ) → first_failing line (switches_fail_by c s (drop i switches)) ≡ total → Some n ≡ first_failing line (told_fails_by c s t) → Some n ≡ total
  told_stops line n total h is =
      sym (first_here line n (told_fails_by c s t) (switches_fail_by c (s + 1) (drop (i + 1) switches)) (sym is)) ∙ ap (λ l. first_failing line l) (sym told_line) ∙ h

  pub told_goes : (line next : ℕ) (total : Option ℕ) → first_failing line (switches_fail_by c s (drop i switches)) ≡ total → None ≡ first_failing line (told_fails_by c s t) →
      next ≡ line + length (told_fails_by c s t) → first_failing next (switches_fail_by c (s + 1) (drop (i + 1) switches)) ≡ total
  told_goes line next total h none is =
      ap (λ n. first_failing n (switches_fail_by c (s + 1) (drop (i + 1) switches))) is
      ∙ sym (first_behind line (told_fails_by c s t) (switches_fail_by c (s + 1) (drop (i + 1) switches)) (sym none))
      ∙ ap (λ l. first_failing line l) (sym told_line) ∙ h

-- What a draft of a tick comes to is what the rules say.
use Rattle.std.proofs.Common.{◌≡◌, ℕ, ◌+◌, Bool, true, false, List, [], ◌∷◌, ◌++◌, length, length-append, take, refl, sym, ◌∙◌, ap, arith, append_assoc, append-nil, suc, zero, ◌-◌}
use Rattle.std.proofs.lemmas.List.{map-append}
use Rattle.std.specs.Prelude.{nat_eq, nat_le, nat_lt, Option, Some, None, is_none, map, ◌&&◌, if◌then◌else◌}
use Rattle.of_types.specs.declared.message.Event.{Event}
use Rattle.of_types.specs.declared.message.Happening.{Happening}
use Rattle.of_types.specs.declared.numbers.TheConstants.{SEND_REMOVED}
use Rattle.journal.specs.declared.journal.Letter.{Letter}
use Rattle.event_buffer.specs.Buffer.{most_held, is_full}
use Rattle.flow_clock.specs.declared.times.Expired.{Expired}
use Rattle.flow_clock.specs.Clocked.{clock_tick, clock_told}
use Rattle.of_switch.specs.declared.says.SwitchSays.{SwitchSays}
use Rattle.of_switch.specs.State.{SwitchState, SwitchTurn, posts, greetings, life_of}
use Rattle.of_switch.specs.Events.{window, event_letter, event_letters, noted_event, flow_removed, tells_left, switch_tick_letters, switch_on_tick}
use Rattle.of_switch.specs.Drafts.{Draft, IsDraft, draft_of, drafted, drafted_event, with_letters, with_noted, with_removed, with_greetings, with_first}
use Rattle.of_switch.proofs.Turns.{starts, start-is, held-then}

-- something is noted
pub noted-is : (s : SwitchState) (d : Draft) (what : Happening) → IsDraft s d → IsDraft s (with_noted what d)
noted-is s d what is = by_test (nat_le most_held d.held)
  where
    by_test : (b : Bool) → IsDraft s (if b then d else record d { held = d.held + 1; raised = d.raised ++ drafted_event d what ∷ [] })
    by_test true = is
    by_test false =
        record {
          switch_is = is.switch_is;
          life_is = is.life_is;
          master_is = is.master_is;
          cleared_is = is.cleared_is;
          held_is = let more = length-append d.raised (drafted_event d what ∷ []) in omega (arith, more, is.held_is);
        }

noted-drafted : (s : SwitchState) (d : Draft) (what : Happening) → IsDraft s d → noted_event what (drafted s d).state ≡ (drafted s (with_noted what d)).state
noted-drafted s d what is = by_test (nat_le most_held d.held) (ap (λ (n : ℕ). nat_le most_held n) (held-then s d is))
  where
    by_test : (b : Bool) → is_full (drafted s d).state.buffer ≡ b →
        noted_event what (drafted s d).state ≡ (drafted s (if b then d else record d { held = d.held + 1; raised = d.raised ++ drafted_event d what ∷ [] })).state
    by_test true full = rw full refl
    by_test false room =
        rw (
          room,
          held-then s d is,
          is.switch_is,
          is.life_is,
          is.cleared_is,
          append_assoc s.buffer.held d.raised (record { switch = s.buffer.switch; life = s.buffer.life; number = s.buffer.cleared + d.held; what = what } ∷ []),
          append_assoc s.events d.raised (record { switch = s.buffer.switch; life = s.buffer.life; number = s.buffer.cleared + d.held; what = what } ∷ []),
        ) refl

-- rows that have left are told where they ask for that
abbrev asked : Expired → Draft → Draft
asked e d = if nat_eq e.flags SEND_REMOVED then with_noted (flow_removed e) d else d

pub removed-is : (s : SwitchState) (left : List Expired) (d : Draft) → IsDraft s d → IsDraft s (with_removed left d)
removed-is s [] d is = is
removed-is s (e ∷ left) d is = removed-is s left (asked e d) (by_test (nat_eq e.flags SEND_REMOVED))
  where
    by_test : (b : Bool) → IsDraft s (if b then with_noted (flow_removed e) d else d)
    by_test true = noted-is s d (flow_removed e) is
    by_test false = is

removed-drafted : (s : SwitchState) (left : List Expired) (d : Draft) → IsDraft s d → tells_left left (drafted s d).state ≡ (drafted s (with_removed left d)).state
removed-drafted s [] d is = refl
removed-drafted s (e ∷ left) d is = by_test (nat_eq e.flags SEND_REMOVED) (λ x k. removed-drafted s left x k)
  where
    by_test : (b : Bool) → ((x : Draft) → IsDraft s x → tells_left left (drafted s x).state ≡ (drafted s (with_removed left x)).state) →
        tells_left left (if b then noted_event (flow_removed e) (drafted s d).state else (drafted s d).state) ≡ (drafted s (with_removed left (if b then with_noted (flow_removed e) d else d))).state
    by_test true rest = ap (λ (x : SwitchState). tells_left left x) (noted-drafted s d (flow_removed e) is) ∙ rest (with_noted (flow_removed e) d) (noted-is s d (flow_removed e) is)
    by_test false rest = rest d is

-- all else of the draft stays
noted-keeps : (d : Draft) (what : Happening) → with_noted what d ≡ record d { held = (with_noted what d).held; raised = (with_noted what d).raised }
noted-keeps d what = by_test (nat_le most_held d.held)
  where
    noted_by : Bool → Draft
    noted_by b = if b then d else record d { held = d.held + 1; raised = d.raised ++ drafted_event d what ∷ [] }

    by_test : (b : Bool) → noted_by b ≡ record d { held = (noted_by b).held; raised = (noted_by b).raised }
    by_test true = refl
    by_test false = refl

removed-keeps : (left : List Expired) (d : Draft) → with_removed left d ≡ record d { held = (with_removed left d).held; raised = (with_removed left d).raised }
removed-keeps [] d = refl
removed-keeps (e ∷ left) d = by_test (nat_eq e.flags SEND_REMOVED) (λ x. removed-keeps left x)
  where
    told_by : Bool → Draft
    told_by b = with_removed left (if b then with_noted (flow_removed e) d else d)

    by_test : (b : Bool) → ((x : Draft) → with_removed left x ≡ record x { held = (with_removed left x).held; raised = (with_removed left x).raised }) →
        told_by b ≡ record d { held = (told_by b).held; raised = (told_by b).raised }
    by_test true rest =
        rest (with_noted (flow_removed e) d)
        ∙ ap (λ (x : Draft). record x { held = (told_by true).held; raised = (told_by true).raised }) (noted-keeps d (flow_removed e))
    by_test false rest = rest d

-- ---- the letters

-- the first of two lists together
take_both : (n : ℕ) (xs ys : List Event) → take n (xs ++ ys) ≡ take n xs ++ take (n - length (take n xs)) ys
take_both zero xs ys = refl
take_both (suc n) [] ys = let all : suc n ≡ suc n - 0 = omega arith in ap (λ (m : ℕ). take m ys) all
take_both (suc n) (x ∷ xs) ys =
    let less : n - length (take n xs) ≡ suc n - length (take (suc n) (x ∷ xs)) = omega arith in
    ap (λ (l : List Event). x ∷ l) (take_both n xs ys ∙ ap (λ (m : ℕ). take n xs ++ take m ys) less)

-- and their letters
pub first-told : (o : Option ℕ) (held raised : List Event) →
    event_letters o (take window held) ++ event_letters o (take (window - length (take window held)) raised) ≡ event_letters o (take window (held ++ raised))
first-told None held raised = refl
first-told (Some c) held raised =
    sym (map-append (event_letter c) (take window held) (take (window - length (take window held)) raised)) ∙ ap (λ (l : List Event). map (event_letter c) l) (sym (take_both window held raised))

-- a draft to which letters are added leaves the same switch
greeted-state : (s : SwitchState) (d : Draft) → (drafted s (with_greetings s d)).state ≡ (drafted s d).state
greeted-state s d = by_test (is_none d.master && nat_lt 0 d.life)
  where
    by_test : (b : Bool) → (drafted s (if b then with_letters d (greetings s) else d)).state ≡ (drafted s d).state
    by_test true = refl
    by_test false = refl

greeted-is : (s : SwitchState) (d : Draft) → IsDraft s d → IsDraft s (with_greetings s d)
greeted-is s d is = by_test (is_none d.master && nat_lt 0 d.life)
  where
    by_test : (b : Bool) → IsDraft s (if b then with_letters d (greetings s) else d)
    by_test true = record { switch_is = is.switch_is; life_is = is.life_is; master_is = is.master_is; cleared_is = is.cleared_is; held_is = is.held_is }
    by_test false = is

-- and those of a tick are those of the rule
abbrev noted_so_far : SwitchState → Option ℕ → ℕ → List Event → Draft
noted_so_far s o held raised = record (draft_of s) { master = o; held = held; raised = raised }

told-are : (s : SwitchState) (held : ℕ) (raised : List Event) (o : Option ℕ) →
    (with_first s.buffer.held (with_greetings s (noted_so_far s o held raised))).letters ≡ switch_tick_letters (drafted s (noted_so_far s o held raised)).state o
told-are s held raised None = by_test (nat_lt 0 (life_of s))
  where
    by_test : (b : Bool) →
        (with_first s.buffer.held (if b then with_letters (noted_so_far s None held raised) (greetings s) else noted_so_far s None held raised)).letters ≡ (if b then greetings s else [])
    by_test true = append-nil (greetings s)
    by_test false = refl
told-are s held raised (Some c) = refl

pub ticked-is : (s : SwitchState) (left : List Expired) → IsDraft s (with_first s.buffer.held (with_greetings s (with_removed left (draft_of s))))
ticked-is s left =
    let is = greeted-is s (with_removed left (draft_of s)) (removed-is s left (draft_of s) (start-is s)) in
    record { switch_is = is.switch_is; life_is = is.life_is; master_is = is.master_is; cleared_is = is.cleared_is; held_is = is.held_is }

-- the switch takes it, and then its clock rises
pub ticked-drafted : (s : SwitchState) (left : List Expired) → left ≡ clock_told s.table →
    (let t : SwitchTurn = drafted s (with_first s.buffer.held (with_greetings s (with_removed left (draft_of s)))) in
    posts (record t.state { table = clock_tick s.table }) t.letters) ≡ switch_on_tick s
ticked-drafted s left e =
    let r : Draft = with_removed left (draft_of s) in
    let state : (drafted s r).state ≡ tells_left left s = sym (ap (λ (t : SwitchTurn). tells_left left t.state) (starts s) ∙ removed-drafted s left (draft_of s) (start-is s)) in
    let keeps = removed-keeps left (draft_of s) in
    let letters =
    ap (λ (d : Draft). (with_first s.buffer.held (with_greetings s d)).letters) keeps
    ∙ told-are s r.held r.raised s.fence.master
    ∙ ap (λ (d : Draft). switch_tick_letters (drafted s d).state s.fence.master) (sym keeps) in
    ap (λ (x : SwitchState). posts (record x { table = clock_tick s.table }) (with_first s.buffer.held (with_greetings s r)).letters) (greeted-state s r)
    ∙ ap (λ (ls : List (Letter SwitchSays)). posts (record (drafted s r).state { table = clock_tick s.table }) ls) letters
    ∙ ap (λ (x : SwitchState). posts (record x { table = clock_tick s.table }) (switch_tick_letters x s.fence.master)) state
    ∙ ap (λ (l : List Expired). posts (record (tells_left l s) { table = clock_tick s.table }) (switch_tick_letters (tells_left l s) s.fence.master)) e

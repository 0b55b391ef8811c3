-- What is read of actions and instructions was spelled.
use Rattle.std.proofs.Common.{◌≡◌, ℕ, zero, suc, ◌-◌, ◌≤◌, inl, inr, Bool, false, true, cond, not, eqb, ltb, List, [], ◌∷◌, ◌++◌, length, take, drop, Result, Ok, Err, refl, sym, ap, subst, ◌∙◌, append_assoc, arith}
use Rattle.std.specs.Prelude.{◌||◌}
use Rattle.std.proofs.lemmas.Bool.{ltb-false, eqb-true}
use Rattle.std.proofs.lemmas.List.{append-nil, length-drop, take_all}
use Rattle.of_bytes.specs.Numbers.{number}
use Rattle.of_bytes.specs.Reading.{◌>>=◌}
use Rattle.of_bytes.proofs.Steps.{bind_ok, passed, ok_is, or_false, not_false}
use Rattle.of_types.specs.declared.refusal.Refusal.{Refusal}
use Rattle.of_types.specs.declared.refusal.TheConstants.{BAD_ACTION, BAD_ACTION_LENGTH, BAD_INSTRUCTION, BAD_LENGTH}
use Rattle.of_messages.specs.Grammar.{IsOutput, SpellsActions, IsApply, SpellsInstructions}
use Rattle.of_messages.specs.Reading.{is_bad_action_length, output_at, outputs_at, actions_at, instruction_length_at, instruction_at, second_at, instructions_at}

-- ---- tests that did not refuse

-- a comparison that did not refuse
pub same : (a b : ℕ) → not (eqb a b) ≡ false → a ≡ b
same a b e = eqb-true a b (not_false (eqb a b) e)

-- two tests in a row
after_two : {A : Type 0} (b c : Bool) (d e : Refusal) (x y : A) → cond b (Err d) (cond c (Err e) (Ok x)) ≡ Ok y → (b ≡ false) × (c ≡ false) × (x ≡ y)
after_two b c d e x y h =
    let p = passed b d (cond c (Err e) (Ok x)) y h in
    let q = passed c e (Ok x) y p.1 in
    (p.0, q.0, ok_is Refusal x y q.1)

pub after_one : {A : Type 0} (b : Bool) (d : Refusal) (x y : A) → cond b (Err d) (Ok x) ≡ Ok y → (b ≡ false) × (x ≡ y)
after_one b d x y h =
    let p = passed b d (Ok x) y h in
    (p.0, ok_is Refusal x y p.1)

-- ---- actions and instructions

output_takes : (bytes : List ℕ) (port : ℕ) → output_at bytes ≡ Ok port → IsOutput bytes port
unfolding output_at
output_takes bytes port e =
    let p = passed (is_bad_action_length bytes) BAD_ACTION_LENGTH (cond (not (eqb (number 2 0 bytes) 0)) (Err BAD_ACTION) (cond (not (eqb (number 2 2 bytes) 16)) (Err BAD_ACTION_LENGTH) (Ok (number 4 4 bytes)))) port e in
    let q = after_two (not (eqb (number 2 0 bytes) 0)) (not (eqb (number 2 2 bytes) 16)) BAD_ACTION BAD_ACTION_LENGTH (number 4 4 bytes) port p.1 in
    let long = or_false _ (ltb (length bytes) (number 2 2 bytes)) p.0 in
    let len : number 2 2 bytes ≡ 16 = same (number 2 2 bytes) 16 q.1 in
    let room : number 2 2 bytes ≤ length bytes = ltb-false (length bytes) (number 2 2 bytes) long.1 in
    record { there = omega (arith, len, room); kind_is = same (number 2 0 bytes) 0 q.0; length_is = len; port_is = q.2 }

outputs_take : (count : ℕ) (before bytes all : List ℕ) → outputs_at count before bytes ≡ Ok all → (ports : List ℕ) × (all ≡ before ++ ports) × SpellsActions bytes ports
unfolding outputs_at
outputs_take zero before [] all e = ([], sym (ok_is Refusal before all e) ∙ sym (append-nil before), refl)
outputs_take (suc count) before [] all e = ([], sym (ok_is Refusal before all e) ∙ sym (append-nil before), refl)
outputs_take zero before (b ∷ bytes) all e = absurd cc
outputs_take (suc count) before (b ∷ bytes) all e =
    let a = bind_ok (output_at (b ∷ bytes)) (λ port. outputs_at count (before ++ port ∷ []) (drop 16 (b ∷ bytes))) all e in
    let more = outputs_take count (before ++ a.0 ∷ []) (drop 16 (b ∷ bytes)) all a.2 in
    (a.0 ∷ more.0, more.1 ∙ append_assoc before (a.0 ∷ []) more.0, (output_takes (b ∷ bytes) a.0 a.1, more.2))

pub actions_take : (bytes ports : List ℕ) → actions_at bytes ≡ Ok ports → SpellsActions bytes ports
unfolding actions_at
actions_take bytes ports e =
    let s = outputs_take (length bytes) [] bytes ports e in
    subst (λ (x : List ℕ). SpellsActions bytes x) (sym s.1) s.2

-- an instruction at the front: its actions, and what comes behind
record TakesApply (bytes actions rest : List ℕ) : Type 0 where
  pub len : ℕ
  pub least : 8 ≤ len
  pub room : len ≤ length bytes
  pub kind_is : number 2 0 bytes ≡ 4
  pub length_is : number 2 2 bytes ≡ len
  pub actions_are : take (len - 8) (drop 8 bytes) ≡ actions
  pub rest_is : drop len bytes ≡ rest

length_takes : (bytes : List ℕ) (len : ℕ) → instruction_length_at bytes ≡ Ok len → (8 ≤ len) × (len ≤ length bytes) × (number 2 2 bytes ≡ len)
unfolding instruction_length_at
length_takes bytes len e =
    let p = after_one (ltb (length bytes) 4 || ltb (number 2 2 bytes) 8 || ltb (length bytes) (number 2 2 bytes)) BAD_LENGTH (number 2 2 bytes) len e in
    let q = or_false (ltb (length bytes) 4 || ltb (number 2 2 bytes) 8) (ltb (length bytes) (number 2 2 bytes)) p.0 in
    let r = or_false (ltb (length bytes) 4) (ltb (number 2 2 bytes) 8) q.0 in
    let least = ltb-false (number 2 2 bytes) 8 r.1 in
    let room = ltb-false (length bytes) (number 2 2 bytes) q.1 in
    (omega (arith, p.1), omega (arith, p.1), p.1)

abbrev two_lists : List ℕ → List ℕ → List ℕ × List ℕ
two_lists xs ys = (xs, ys)

instruction_takes : (bytes actions rest : List ℕ) → instruction_at bytes ≡ Ok (actions, rest) → TakesApply bytes actions rest
unfolding instruction_at
instruction_takes bytes actions rest e =
    let a = bind_ok (instruction_length_at bytes) (λ len. cond (not (eqb (number 2 0 bytes) 4)) (Err BAD_INSTRUCTION) (Ok (take (len - 8) (drop 8 bytes), drop len bytes))) (actions, rest) e in
    let l = length_takes bytes a.0 a.1 in
    let p = after_one (not (eqb (number 2 0 bytes) 4)) BAD_INSTRUCTION (two_lists (take (a.0 - 8) (drop 8 bytes)) (drop a.0 bytes)) (two_lists actions rest) a.2 in
    record {
      len = a.0;
      least = l.0;
      room = l.1;
      kind_is = same (number 2 0 bytes) 4 p.0;
      length_is = l.2;
      actions_are = ap (λ (x : List ℕ × List ℕ). x.0) p.1;
      rest_is = ap (λ (x : List ℕ × List ℕ). x.1) p.1;
    }

-- nothing follows the one instruction
second_takes : (ports rest all : List ℕ) → second_at ports rest ≡ Ok all → (length rest ≡ 0) × (ports ≡ all)
unfolding second_at
second_takes ports rest all e = cases (eqb (length rest) 0) refl e
  where
    refuses : (r : Result ℕ Refusal) → (r >>= λ len. Err BAD_INSTRUCTION) ≡ Ok all → ⊥
    refuses (Ok len) h = cc
    refuses (Err d) h = cc

    cases : (b : Bool) → eqb (length rest) 0 ≡ b → cond b (Ok ports) (instruction_length_at rest >>= λ len. Err BAD_INSTRUCTION) ≡ Ok all → (length rest ≡ 0) × (ports ≡ all)
    cases true e h = (eqb-true (length rest) 0 e, ok_is Refusal ports all h)
    cases false e h = absurd (refuses (instruction_length_at rest) h)

apply_takes : (bytes actions rest ports : List ℕ) → TakesApply bytes actions rest → length rest ≡ 0 → actions_at actions ≡ Ok ports → IsApply bytes ports
apply_takes bytes actions rest ports t none read =
    let least = t.least in
    let room = t.room in
    let all : length bytes ≡ t.len = omega (arith, length-drop t.len bytes, ap length t.rest_is, none) in
    let whole : take (t.len - 8) (drop 8 bytes) ≡ drop 8 bytes = take_all (t.len - 8) (drop 8 bytes) (omega (arith, all, length-drop 8 bytes)) in
    record {
      there = omega arith;
      kind_is = t.kind_is;
      length_is = t.length_is ∙ sym all;
      actions = subst (λ (x : List ℕ). SpellsActions x ports) (sym t.actions_are ∙ whole) (actions_take actions ports read);
    }

pub instructions_take : (bytes ports : List ℕ) → instructions_at bytes ≡ Ok ports → SpellsInstructions bytes ports
unfolding instructions_at
instructions_take bytes ports e = cases bytes (eqb (length bytes) 0) refl e
  where
    nil : (xs : List ℕ) → length xs ≡ 0 → xs ≡ []
    nil [] h = refl
    nil (x ∷ xs) h = absurd (omega arith)

    cases : (bytes : List ℕ) (b : Bool) → eqb (length bytes) 0 ≡ b → cond b (Ok []) (instruction_at bytes >>= λ first. actions_at first.0 >>= λ ports. second_at ports first.1) ≡ Ok ports → SpellsInstructions bytes ports
    cases bytes true e h = inl (nil bytes (eqb-true (length bytes) 0 e), sym (ok_is Refusal [] ports h))
    cases bytes false e h =
        let a = bind_ok (instruction_at bytes) (λ first. actions_at first.0 >>= λ ports. second_at ports first.1) ports h in
        let b = bind_ok (actions_at a.0.0) (λ ports. second_at ports a.0.1) ports a.2 in
        let s = second_takes b.0 a.0.1 ports b.2 in
        inr (apply_takes bytes a.0.0 a.0.1 ports (instruction_takes bytes a.0.0 a.0.1 a.1) s.0 (b.1 ∙ ap (λ (x : List ℕ). Ok x) s.1))

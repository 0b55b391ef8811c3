-- The numbers that words give the generator are within its bounds.
use Rattle.std.proofs.Common.{◌≡◌, ◌≤◌, inl, inr, ℕ, Bool, true, false, List, [], ◌∷◌, Some, None, refl, sym, ◌∙◌, ap, subst, arith}
use Rattle.std.specs.Prelude.{Option, option_and_then, Contains, nat_le, ◌&&◌, ◌||◌, ◌==◌, codes, if◌then◌else◌}
use Rattle.std.specs.Str.{bytes_eq}
use Rattle.std.proofs.lemmas.Bool.{cases_Bool, leb-true, eqb-true}
use Rattle.numerals.specs.Numerals.{numeral}
use Rattle.command_line.specs.declared.words.Job.{Job}
use Rattle.command_line.specs.declared.words.Job.TheVariants.{Gen}
use Rattle.command_line.specs.Words.{generator_of, group_in_words, job_of, word_within, plain_job}

-- what the generator asks of them
pub record AreBounded (controllers switches frames : ℕ) : Type 0 where
  pub group : Contains (1 ∷ 3 ∷ 5 ∷ 7 ∷ []) controllers
  pub some : 1 ≤ switches
  pub few : switches ≤ 64
  pub short : frames ≤ 2048

both_true : (a b : Bool) → (a && b) ≡ true → (a ≡ true) × (b ≡ true)
both_true true true h = (refl, refl)
both_true true false h = cc
both_true false b h = cc

-- a number that was given within bounds
given : {X : Type 0} (b : Bool) (x y : X) → (if b then Some x else None) ≡ Some y → (b ≡ true) × (x ≡ y)
given true x y h = (refl, one h)
  where
    one : Some x ≡ Some y → x ≡ y
    one e = cc
given false x y h = cc

bound : {X Y : Type 0} (o : Option X) (f : X → Option Y) (y : Y) → option_and_then f o ≡ Some y → (x : X) × (o ≡ Some x) × (f x ≡ Some y)
bound None f y h = cc
bound (Some x) f y h = (x, refl, h)

within : (low high : ℕ) (word : List ℕ) (n : ℕ) → word_within low high word ≡ Some n → (low ≤ n) × (n ≤ high)
within low high word n h =
    let m = bound (numeral word) (λ k. if nat_le low k && nat_le k high then Some k else None) n h in
    let g = given (nat_le low m.0 && nat_le m.0 high) m.0 n m.2 in
    let b = both_true (nat_le low m.0) (nat_le m.0 high) g.0 in
    (subst (λ k. low ≤ k) g.1 (leb-true low m.0 b.0), subst (λ k. k ≤ high) g.1 (leb-true m.0 high b.1))

odd : (m : ℕ) → (m == 1 || m == 3 || m == 5 || m == 7) ≡ true → Contains (1 ∷ 3 ∷ 5 ∷ 7 ∷ []) m
odd m test =
    elim (cases_Bool (m == 1)) [
      | inl is ↦ subst (λ k. Contains (1 ∷ 3 ∷ 5 ∷ 7 ∷ []) k) (sym (eqb-true m 1 is)) (0, omega arith, refl)
      | inr one ↦ elim (cases_Bool (m == 3)) [
        | inl is ↦ subst (λ k. Contains (1 ∷ 3 ∷ 5 ∷ 7 ∷ []) k) (sym (eqb-true m 3 is)) (1, omega arith, refl)
        | inr three ↦ elim (cases_Bool (m == 5)) [
          | inl is ↦ subst (λ k. Contains (1 ∷ 3 ∷ 5 ∷ 7 ∷ []) k) (sym (eqb-true m 5 is)) (2, omega arith, refl)
          | inr five ↦ elim (cases_Bool (m == 7)) [
            | inl is ↦ subst (λ k. Contains (1 ∷ 3 ∷ 5 ∷ 7 ∷ []) k) (sym (eqb-true m 7 is)) (3, omega arith, refl)
            | inr seven ↦ absurd (apart (rw (one, three, five, seven) at test))
          ]
        ]
      ]
    ]
  where
    apart : false ≡ true → ⊥
    apart h = cc

group : (word : List ℕ) (n : ℕ) → group_in_words word ≡ Some n → Contains (1 ∷ 3 ∷ 5 ∷ 7 ∷ []) n
group word n h =
    let m = bound (word_within 1 7 word) (λ k. if k == 1 || k == 3 || k == 5 || k == 7 then Some k else None) n h in
    let g = given (m.0 == 1 || m.0 == 3 || m.0 == 5 || m.0 == 7) m.0 n m.2 in
    subst (λ k. Contains (1 ∷ 3 ∷ 5 ∷ 7 ∷ []) k) g.1 (odd m.0 g.0)

-- the parts of a job that makes a scenario
abbrev controllers_of : Option Job → ℕ
controllers_of (Some (Gen number controllers switches frames)) = controllers
controllers_of _ = 0

abbrev switches_of : Option Job → ℕ
switches_of (Some (Gen number controllers switches frames)) = switches
switches_of _ = 0

abbrev frames_of : Option Job → ℕ
frames_of (Some (Gen number controllers switches frames)) = frames
frames_of _ = 0

abbrev is_made : Option Job → Bool
is_made (Some (Gen number controllers switches frames)) = true
is_made _ = false

generated : (first second third fourth : List ℕ) (number controllers switches frames : ℕ) → generator_of first second third fourth ≡ Some (Gen number controllers switches frames) → AreBounded controllers switches frames
generated first second third fourth number controllers switches frames h =
    let n = bound (word_within 0 4294967295 first) _ (Gen number controllers switches frames) h in
    let c = bound (group_in_words second) _ (Gen number controllers switches frames) n.2 in
    let s = bound (word_within 1 64 third) _ (Gen number controllers switches frames) c.2 in
    let f = bound (word_within 0 2048 fourth) _ (Gen number controllers switches frames) s.2 in
    let made : Some (Gen n.0 c.0 s.0 f.0) ≡ Some (Gen number controllers switches frames) = f.2 in
    let some = within 1 64 third s.0 s.1 in
    let short = within 0 2048 fourth f.0 f.1 in
    record {
      group = subst (λ k. Contains (1 ∷ 3 ∷ 5 ∷ 7 ∷ []) k) (ap (λ j. controllers_of j) made) (group second c.0 c.1);
      some = subst (λ k. 1 ≤ k) (ap (λ j. switches_of j) made) some.0;
      few = subst (λ k. k ≤ 64) (ap (λ j. switches_of j) made) some.1;
      short = subst (λ k. k ≤ 2048) (ap (λ j. frames_of j) made) short.1;
    }

plain_none : (word : List ℕ) → is_made (plain_job word) ≡ false
plain_none word =
    elim (cases_Bool (bytes_eq word (codes "sim"))) [
      | inl is ↦ rw is refl
      | inr sim ↦ elim (cases_Bool (bytes_eq word (codes "run"))) [
        | inl is ↦ rw (sim, is) refl
        | inr run ↦ elim (cases_Bool (bytes_eq word (codes "audit"))) [
          | inl is ↦ rw (sim, run, is) refl
          | inr audit ↦ rw (sim, run, audit) refl
        ]
      ]
    ]

never : {X : Type 0} (o : Option Job) (number controllers switches frames : ℕ) → is_made o ≡ false → o ≡ Some (Gen number controllers switches frames) → X
never o number controllers switches frames none h = absurd (apart (sym none ∙ ap (λ j. is_made j) h))
  where
    apart : false ≡ true → ⊥
    apart e = cc

pub made : (words : List (List ℕ)) (number controllers switches frames : ℕ) → job_of words ≡ Some (Gen number controllers switches frames) → AreBounded controllers switches frames
made [] n c s f h = cc
made (word ∷ []) n c s f h = never (plain_job word) n c s f (plain_none word) h
made (word ∷ first ∷ []) n c s f h = cc
made (word ∷ first ∷ second ∷ []) n c s f h = cc
made (word ∷ first ∷ second ∷ third ∷ []) n c s f h = cc
made (word ∷ first ∷ second ∷ third ∷ fourth ∷ []) n c s f h =
    elim (cases_Bool (bytes_eq word (codes "gen"))) [
      | inl is ↦ generated first second third fourth n c s f (rw is at h)
      | inr other ↦ never None n c s f refl (rw other at h)
    ]
made (word ∷ first ∷ second ∷ third ∷ fourth ∷ fifth ∷ words) n c s f h = cc

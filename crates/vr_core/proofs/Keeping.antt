-- What is committed stays over one step, and over one behind another: what each case of an input needs.
use Rattle.std.proofs.Common.{inl, inr, ◌≡◌, ◌≤◌, ℕ, Bool, true, false, List, [], ◌∷◌, ◌++◌, length, take, zero, suc, refl, sym, ap, subst, ◌∙◌, arith, length-append}
use Rattle.std.specs.Prelude.{nat_eq, Option, Some, None, max, min, filter, if◌then◌else◌}
use Rattle.std.specs.List.{AllByRecursion, list_any}
use Rattle.std.proofs.lemmas.Bool.{cond_both, eqb-true, or_cases}
use Rattle.std.proofs.lemmas.List.{take-take, take-append-le}
use Rattle.vr_log.specs.declared.entry.Entry.{Entry}
use Rattle.vr_log.specs.declared.message.VrLetter.{VrLetter}
use Rattle.vr_log.specs.declared.state.Collected.{Collected}
use Rattle.vr_log.specs.declared.state.Status.{Status}
use Rattle.vr_log.specs.declared.state.Status.TheVariants.{Normal, ViewChange, Recovering, Down}
use Rattle.vr_log.specs.declared.state.VrState.{VrState}
use Rattle.vr_log.specs.Members.{is_normal, is_changing}
use Rattle.vr_log.specs.Steps.{VrStep, quiet, sends, then_step, is_sound, guarded, acknowledges, later_of}
use Rattle.vr_log.specs.Choosing.{greatest_commit}
use Rattle.vr_normal.specs.Cases.{ops, greatest}
use Rattle.vr_core.specs.Lasting.{CollectsItsOwn, Lasts, promised}

-- a choice has what both sides have
pub either : {A : Type 0} (P : A → Type 0) (b : Bool) (x y : A) → (b ≡ true → P x) → (b ≡ false → P y) → P (if b then x else y)
either P b x y f g = cond_both b x y P f g

-- a state whose log reaches its commit number
pub record Holds (s : VrState) : Type 0 where
  pub reach : s.commit ≤ length s.log
  pub own : CollectsItsOwn s

pub record Kept (old : VrState) (promise : Option ℕ) (new : VrState) : Type 0 where
  pub lasts : Lasts old promise new
  pub holds : Holds new

abbrev pub Does : VrState → VrStep → Type 0
Does s step = Holds s → Kept s step.promise step.state

take_less : (m n : ℕ) (xs ys : List Entry) → m ≤ n → take n xs ≡ take n ys → take m xs ≡ take m ys
take_less m n xs ys le same = sym (take-take m n xs le) ∙ ap (λ (l : List Entry). take m l) same ∙ take-take m n ys le

promised_on : (old : ℕ) (first next : Option ℕ) → promised (promised old first) next ≡ promised old (later_of first next)
promised_on old first None = refl
promised_on old first (Some view) = refl

pub later_than_none : (p : Option ℕ) → later_of None p ≡ p
later_than_none None = refl
later_than_none (Some view) = refl

pub lasts_on : (a b c : VrState) (p q : Option ℕ) → Lasts a p b → Lasts b q c → Lasts a (later_of p q) c
lasts_on a b c p q x y =
    record {
      rises = let m = x.rises in let n = y.rises in omega (arith, m, n);
      stays = take_less a.commit b.commit c.log b.log x.rises y.stays ∙ x.stays;
      me = y.me ∙ x.me;
      controllers = y.controllers ∙ x.controllers;
      life = y.life ∙ x.life;
      promise_is = y.promise_is ∙ ap (λ (n : ℕ). promised n q) x.promise_is ∙ promised_on a.promise p q;
      awake = λ h. y.awake (x.awake h);
    }

pub lasts_same : (s : VrState) → Lasts s None s
lasts_same s = record { rises = omega arith; stays = refl; me = refl; controllers = refl; life = refl; promise_is = refl; awake = λ h. h }

pub kept_on : (a b c : VrState) (p q : Option ℕ) → Lasts a p b → Kept b q c → Kept a (later_of p q) c
kept_on a b c p q x k = record { lasts = lasts_on a b c p q x k.lasts; holds = k.holds }

-- the log and the stable pair are as they were
pub unchanged : (s s' : VrState) → s'.log ≡ s.log → s'.commit ≡ s.commit → s'.me ≡ s.me → s'.controllers ≡ s.controllers → s'.life ≡ s.life → s'.promise ≡ s.promise → s'.status ≡ s.status → Lasts s None s'
unchanged s s' log commit me controllers life promise status =
    record { rises = omega (arith, commit); stays = ap (λ (l : List Entry). take s.commit l) log; me = me; controllers = controllers; life = life; promise_is = promise; awake = λ h e. h (sym status ∙ e) }

-- a normal member changes no view
pub normal_collects : (s : VrState) → s.status ≡ Normal → CollectsItsOwn s
normal_collects s normal changing = let z : is_changing s ≡ false = rw normal refl in cc

by_status : (st : Status) → (elim st as (λ _. Bool) [ Normal ↦ true | ViewChange ↦ false | Recovering ↦ false | Down ↦ false ]) ≡ true →
    (elim st as (λ _. Bool) [ Normal ↦ false | ViewChange ↦ true | Recovering ↦ false | Down ↦ false ]) ≡ true → ⊥
by_status Normal a b = cc
by_status ViewChange a b = cc
by_status Recovering a b = cc
by_status Down a b = cc

pub not_changing : (s : VrState) → is_normal s ≡ true → CollectsItsOwn s
not_changing s normal changing = absurd (by_status s.status normal changing)

-- the greatest commit number of collected logs
most_low : (most : ℕ) (cs : List Collected) → most ≤ greatest_commit most cs
most_low most [] = omega arith
most_low most (c ∷ cs) = let r = most_low (max most c.commit) cs in omega arith

own_most : (me commit most : ℕ) (all : List Collected) → AllByRecursion (λ c. c.from ≡ me → c.commit ≡ commit) all → list_any (λ c. nat_eq c.from me) all ≡ true → commit ≤ greatest_commit most all
own_most me commit most [] own has = absurd cc
own_most me commit most (c ∷ all) own has = elim (or_cases (nat_eq c.from me) (list_any (λ d. nat_eq d.from me) all) has) [
  | inl here ↦ let e = own.0 (eqb-true c.from me here) in let low = most_low (max most c.commit) all in omega (arith, e, low)
  | inr there ↦ own_most me commit (max most c.commit) all own.1 there
]

pub own_greatest : (me commit : ℕ) (c : Collected) (cs : List Collected) → AllByRecursion (λ c. c.from ≡ me → c.commit ≡ commit) (c ∷ cs) → list_any (λ c. nat_eq c.from me) (c ∷ cs) ≡ true → commit ≤ greatest_commit c.commit cs
own_greatest me commit c cs own has = elim (or_cases (nat_eq c.from me) (list_any (λ d. nat_eq d.from me) cs) has) [
  | inl here ↦ let e = own.0 (eqb-true c.from me here) in let low = most_low c.commit cs in omega (arith, e, low)
  | inr there ↦ own_most me commit c.commit cs own.1 there
]

pub all_push : (P : Collected → Type 0) (xs : List Collected) (x : Collected) → AllByRecursion P xs → P x → AllByRecursion P (xs ++ x ∷ [])
all_push P [] x h p = (p, tt)
all_push P (y ∷ xs) x h p = (h.0, all_push P xs x h.1 p)

-- the op on which a majority agrees
pub ops_within : (least n bound : ℕ) (p : ℕ → Bool) → n ≤ bound → least ≤ bound → (least ≤ greatest least (filter p (ops n))) × (greatest least (filter p (ops n)) ≤ bound)
ops_within least zero bound p h k = (omega arith, k)
ops_within least (suc n) bound p h k =
    let r = ops_within least n bound p (omega (arith, h)) k in
    either (λ (l : List ℕ). (least ≤ greatest least l) × (greatest least l ≤ bound)) (p (suc n)) (suc n ∷ filter p (ops n)) (filter p (ops n))
    (λ _. let a = r.0 in let b = r.1 in (omega (arith, a), omega (arith, b, h)))
    (λ _. r)

pub rests : (s : VrState) (letters : List VrLetter) → Does s (sends s letters)
rests s letters h = record { lasts = unchanged s s refl refl refl refl refl refl refl; holds = h }

pub after : (s s' : VrState) (step : VrStep) → Does s (quiet s') → Does s' step → Does s step
after s s' step first next h =
    let a = first h in subst (λ (p : Option ℕ). Kept s p step.state) (later_than_none step.promise) (kept_on s s' step.state None step.promise a.lasts (next a.holds))

pub chained : (s : VrState) (first : VrStep) (next : VrState → VrStep) → Does s first → Does first.state (next first.state) → Does s (then_step first next)
chained s first next f g h = let a = f h in kept_on s first.state (next first.state).state first.promise (next first.state).promise a.lasts (g a.holds)

pub checked : (s : VrState) (step : VrStep) → (is_sound s step.state ≡ true → Does s step) → Does s (guarded s step)
checked s step go = either (Does s) (is_sound s step.state) step (quiet s) go (λ _. rests s [])

-- entries behind the log, and a commit number within it
pub grown : (s : VrState) (more : List Entry) (k : ℕ) → is_normal s ≡ true → s.commit ≤ k → k ≤ length (s.log ++ more) → (letters : List VrLetter) → Does s (sends (record s { log = s.log ++ more; commit = k }) letters)
grown s more k normal low high letters h =
    record {
      lasts = record { rises = low; stays = take-append-le s.commit s.log more h.reach; me = refl; controllers = refl; life = refl; promise_is = refl; awake = λ h. h };
      holds = record { reach = high; own = not_changing (record s { log = s.log ++ more; commit = k }) normal };
    }

pub risen : (s : VrState) (k : ℕ) → is_normal s ≡ true → s.commit ≤ k → k ≤ length s.log → (letters : List VrLetter) → Does s (sends (record s { commit = k }) letters)
risen s k normal low high letters h =
    record {
      lasts = record { rises = low; stays = refl; me = refl; controllers = refl; life = refl; promise_is = refl; awake = λ h. h };
      holds = record { reach = high; own = not_changing (record s { commit = k }) normal };
    }

pub acknowledged : (s : VrState) (more : List Entry) (commit : ℕ) → is_normal s ≡ true → Does s (acknowledges (record s { log = s.log ++ more }) commit)
acknowledged s more commit normal h =
    let reach = h.reach in let long = length-append s.log more in
    grown s more (max s.commit (min commit (length (s.log ++ more)))) normal (omega arith) (omega (arith, reach, long)) [] h

pub acknowledged_same : (s : VrState) (commit : ℕ) → is_normal s ≡ true → Does s (acknowledges s commit)
acknowledged_same s commit normal h = let reach = h.reach in risen s (max s.commit (min commit (length s.log))) normal (omega arith) (omega (arith, reach)) [] h

-- The primary that has started a view: what it leads with, and how the others of its quorum wait for its word.
use Rattle.std.proofs.Common.{◌≡◌, ◌≤◌, ◌<◌, ◌⊎◌, inl, inr, ℕ, ◌/◌, ◌%◌, min, max, Bool, true, false, List, [], ◌∷◌, ◌++◌, length, map, drop, refl, sym, ◌∙◌, ap, subst, arith, take_all}
use Rattle.std.specs.Prelude.{nat_eq, not, None, if◌then◌else◌}
use Rattle.std.proofs.lemmas.Bool.{cases_lt, eq-eqb, ne_eqb, eqb-true, or_cases, true≢false, cases_eq}
use Rattle.std.proofs.lemmas.List.{length-replicate, drop_all}
use Rattle.journal.specs.declared.journal.Actor.TheVariants as actor
use Rattle.vr_log.specs.declared.entry.Entry.{Entry}
use Rattle.vr_log.specs.declared.message.VrMessage.TheVariants as vr
use Rattle.vr_log.specs.declared.state.Collected.{Collected}
use Rattle.vr_log.specs.declared.state.VrState.{VrState}
use Rattle.vr_log.specs.Choosing.{least_commit, greatest_commit}
use Rattle.vr_log.specs.Steps.{to_others}
use Rattle.view_change.specs.Entering.{view_start}
use Rattle.controller_moves.proofs.MemberMoves.Checking.{zeros}
use Rattle.group_controller.specs.State.{to_members}
use Rattle.group_controller.specs.Settling.{role_letter}
use Rattle.run_spec.specs.declared.messages.Message.{Message}
use Rattle.run_spec.specs.declared.messages.Message.TheVariants as message
use Rattle.run_spec.specs.States.{controller_message}
use Rattle.closing_laws.specs.Quorum.{has}
use Rattle.closing_laws.specs.Following.{ArePrepares, Start, WaitsFor, IsAgreed, LeadsFrom}
use Rattle.closing_laws.specs.Views.{IsCovered, IsReadyMember, in_view, last_first, log_of, started_with, tellers}
use Rattle.closing_laws.proofs.Lists.Numbers.{filter_has, filter_in}
use Rattle.closing_laws.proofs.Lists.Picked.{IsPicked, another}
use Rattle.closing_laws.proofs.Primary.Extending.{others_told, tells_member}
use Rattle.closing_laws.proofs.Primary.Telling.{told_to-append}
use Rattle.closing_laws.proofs.Start.Views.{greatest_within, last_has}

-- the least and the greatest commit number of logs bound each of them
least_low : (at : ℕ → VrState) (xs : List ℕ) (k : ℕ) → least_commit k (map (log_of at) xs) ≤ k
least_low at [] k = omega arith
least_low at (x ∷ xs) k = let low = least_low at xs (min k (at x).commit) in omega (arith, low)

least_each : (at : ℕ → VrState) (xs : List ℕ) (k j : ℕ) → has xs j ≡ true → least_commit k (map (log_of at) xs) ≤ (at j).commit
least_each at [] k j h = absurd (true≢false (sym h))
least_each at (x ∷ xs) k j h = elim (or_cases (nat_eq x j) (has xs j) h) [
  | inl e ↦ let same = ap (λ (i : ℕ). (at i).commit) (eqb-true x j e) in let low = least_low at xs (min k (at x).commit) in omega (arith, same, low)
  | inr i ↦ least_each at xs (min k (at x).commit) j i
]

greatest_high : (at : ℕ → VrState) (xs : List ℕ) (k : ℕ) → k ≤ greatest_commit k (map (log_of at) xs)
greatest_high at [] k = omega arith
greatest_high at (x ∷ xs) k = let high = greatest_high at xs (max k (at x).commit) in omega (arith, high)

greatest_each : (at : ℕ → VrState) (xs : List ℕ) (k j : ℕ) → has xs j ≡ true → (at j).commit ≤ greatest_commit k (map (log_of at) xs)
greatest_each at [] k j h = absurd (true≢false (sym h))
greatest_each at (x ∷ xs) k j h = elim (or_cases (nat_eq x j) (has xs j) h) [
  | inl e ↦ let same = ap (λ (i : ℕ). (at i).commit) (eqb-true x j e) in let high = greatest_high at xs (max k (at x).commit) in omega (arith, same, high)
  | inr i ↦ greatest_each at xs (max k (at x).commit) j i
]

-- letters to switches tell no member
pub roles_told : (b view : ℕ) (ts : List ℕ) → tells_member b (map (role_letter view) ts) ≡ []
roles_told b view [] = refl
roles_told b view (t ∷ ts) = roles_told b view ts

-- with what a primary starts a view from the logs of a quorum, the best of them one
abbrev pub start_of : ℕ → List ℕ → (ℕ → VrState) → ℕ → Start
start_of primary quorum at best =
    let logs = map (log_of at) (tellers primary quorum) in
    record { log = (at best).log; base = least_commit (at primary).commit logs; known = greatest_commit (at primary).commit logs }

module _ (n w : ℕ) (quorum : List ℕ) (at : ℕ → VrState) (best : ℕ) (picked : IsPicked n w quorum) (small : (b : ℕ) → has quorum b ≡ true → b < n)
    (ready : (j : ℕ) → has quorum j ≡ true → IsReadyMember n w j (at j)) (covered : IsCovered quorum at best) (chosen : has quorum best ≡ true) (voters : ℕ → List ℕ) where
  abbrev p : ℕ
  p = w % n

  abbrev logs : List Collected
  logs = map (log_of at) (tellers p quorum)

  abbrev start : Start
  start = start_of p quorum at best

  -- the member as it has started the view
  abbrev pub leader : VrState
  leader = started_with (at p) w (voters p) logs (at best).log

  inside : has quorum p ≡ true
  inside = picked.primary

  pub size : leader.controllers ≡ n
  size = (ready p inside).size

  pub me : leader.me ≡ p
  me = (ready p inside).me

  -- the others tell their logs
  teller : (j : ℕ) → has (tellers p quorum) j ≡ true → has quorum j ≡ true
  teller j h = sym (last_has [] quorum j) ∙ (filter_has (λ x. not (nat_eq p x)) (last_first [] quorum) j h).0

  tells : (j : ℕ) → has quorum j ≡ true → (j ≡ p → ⊥) → has (tellers p quorum) j ≡ true
  tells j h other = filter_in (λ x. not (nat_eq p x)) (last_first [] quorum) j (last_has [] quorum j ∙ h) (ap not (ne_eqb p j (λ e. other (sym e))))

  within : start.known ≤ length start.log
  within = greatest_within at (tellers p quorum) (at p).commit (length (at best).log) (covered.covers p inside) (λ j h. covered.covers j (teller j h))

  -- alone all is committed, and in a group of several what is known of it
  commit_by : (b : Bool) → nat_eq (n / 2) 0 ≡ b → ((n / 2 ≡ 0) × ((if b then length start.log else start.known) ≡ length start.log)) ⊎ ((0 < n / 2) × ((if b then length start.log else start.known) ≡ start.known))
  commit_by true e = inl (eqb-true (n / 2) 0 e, refl)
  commit_by false e = inr (elim (cases_lt 0 (n / 2)) [ inl some ↦ some | inr none ↦ absurd (true≢false (sym (eq-eqb (n / 2) 0 (omega (arith, none))) ∙ e)) ], refl)

  pub commit_is : ((n / 2 ≡ 0) × (leader.commit ≡ length start.log)) ⊎ ((0 < n / 2) × (leader.commit ≡ start.known))
  commit_is = subst (λ (k : ℕ). ((n / 2 ≡ 0) × ((if nat_eq (k / 2) 0 then length start.log else start.known) ≡ length start.log)) ⊎ ((0 < n / 2) × ((if nat_eq (k / 2) 0 then length start.log else start.known) ≡ start.known))) (sym size) (commit_by (nat_eq (n / 2) 0) refl)

  pub leads_with : LeadsFrom start leader
  leads_with = record {
    begins = take_all (length (at best).log) (at best).log (omega arith);
    started = (ready best chosen).is_one;
    within = within;
    known = elim commit_is [ inl a ↦ let all = a.1 in let far = within in omega (arith, all, far) | inr b ↦ let k = b.1 in omega (arith, k) ];
    commit = elim commit_is [ inl a ↦ let all = a.1 in omega (arith, all) | inr b ↦ let k = b.1 in let far = within in omega (arith, k, far) ];
    one = (ready best chosen).is_one;
    normal = refl;
    promise = omega arith;
    counts = length-replicate leader.controllers 0;
  }

  -- what each of the quorum knew as committed is known
  pub knows : (j : ℕ) → has quorum j ≡ true → (at j).commit ≤ start.known
  knows j member = elim (cases_eq j p) [
    | inl e ↦ let same = ap (λ (i : ℕ). (at i).commit) e in let high = greatest_high at (tellers p quorum) (at p).commit in omega (arith, same, high)
    | inr e ↦ greatest_each at (tellers p quorum) (at p).commit j (tells j member e)
  ]

  -- nothing was acknowledged yet
  pub agrees : IsAgreed leader quorum
  agrees op le each = by_size commit_is
    where
      by_size : ((n / 2 ≡ 0) × (leader.commit ≡ length start.log)) ⊎ ((0 < n / 2) × (leader.commit ≡ start.known)) → op ≤ leader.commit
      by_size (inl a) = let all = a.1 in omega (arith, all, le)
      by_size (inr b) =
          let o = another n w p quorum picked inside b.0 in
          let low = each o.0 o.1 (λ e. o.2 (e ∙ me)) in
          let none = zeros (at p).controllers o.0 in
          omega (arith, low, none)

  -- what each other member is told first
  abbrev pub word_to : ℕ → List ℕ → List Message
  word_to b ts = tells_member b (to_members (to_others leader (view_start leader)) ++ map (role_letter w) ts)

  pub told_word : (b : ℕ) (ts : List ℕ) → has quorum b ≡ true → (b ≡ p → ⊥) → word_to b ts ≡ message.Vr (view_start leader) ∷ []
  told_word b ts member other =
      let less = small b member in
      let all = size in
      told_to-append controller_message (actor.Controller b) (to_members (to_others leader (view_start leader))) (map (role_letter w) ts)
      ∙ ap (λ (z : List Message). tells_member b (to_members (to_others leader (view_start leader))) ++ z) (roles_told b w ts)
      ∙ ap (λ (z : List Message). z ++ []) ((others_told (view_start leader) leader.me b (λ e. other (e ∙ me)) leader.controllers).1 (omega (arith, less, all)))

  pub waits : (b : ℕ) (ts : List ℕ) → has quorum b ≡ true → (b ≡ p → ⊥) → WaitsFor start leader b (in_view (at b) w (voters b) true [] None) (word_to b ts) []
  waits b ts member other = record {
    had = at b;
    voters = voters b;
    is_member = subst (λ (k : ℕ). IsReadyMember k w b (at b)) (sym size) (ready b member);
    state_is = refl;
    base = least_each at (tellers p quorum) (at p).commit b (tells b member other);
    commit = greatest_each at (tellers p quorum) (at p).commit b (tells b member other);
    one = covered.agrees b member;
    prepares = [];
    word = told_word b ts member other ∙ ap (λ (k : ℕ). message.Vr (vr.StartView w start.base k (drop start.base start.log)) ∷ []) several;
    entries = subst (λ (l : List Entry). ArePrepares w leader.commit (length (at best).log) l []) (sym (drop_all (length (at best).log) (at best).log (omega arith))) tt;
    silent = refl;
    acked = zeros (at p).controllers b;
  }
    where
      several : leader.commit ≡ start.known
      several = elim commit_is [
        | inl a ↦
            let less = small b member in let less_p = small p inside in let none = a.0 in
            absurd (other (omega (arith, less, less_p, none)))
        | inr b ↦ b.1
      ]

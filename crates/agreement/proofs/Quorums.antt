-- What quorums say of logs, in any history, with no invariant.
use Rattle.std.proofs.Common.{◌≡◌, ℕ, zero, suc, ◌<◌, ◌+◌, ◌≤◌, max, ◌⊎◌, inl, inr, ⊎_elim, true, false, not, ltb, List, [], ◌∷◌, length, take, map, refl, sym, ap, ◌∙◌, subst, arith}
use Rattle.std.proofs.lemmas.Bool.{cases_lt, cases_Bool, both_ways, and_parts, and_from, lt-ltb, not_from_false, not-true}
use Rattle.std.proofs.lemmas.List.{length-map}
use Rattle.std.proofs.Common.{length-drop}
use Rattle.agreement.specs.Lists.{IsAtMost}
use Rattle.list_facts.proofs.Prefixes.{front_prefix, prefix_both, prefix_length, prefix_refl, prefix_trans, take_longer, take_within}
use Rattle.list_facts.specs.Lists.{IsIn, IsPrefix}
use Rattle.agreement.specs.History.{Group, size, Vote, History}
use Rattle.agreement.specs.Quorums.{has_accepted, blocks, HasQuorum, IsBlocked, HasFirst, IsSafe, IsCommitted, nothing, backed, IsCertified, empty, shown}
use Rattle.agreement.specs.Invariant.{IsBallot, IsGoodVote}
use Rattle.agreement.specs.Moves.{IsBest}
use Rattle.agreement.proofs.Numbers.{below_trans}
use Rattle.agreement.proofs.Counts.{count_share, count_list}

-- the vote of one who is named
pub voter_named : {E : Type 0} (votes : List (Vote E)) (x : ℕ) → IsIn x (map (λ q. q.from) votes) → (y : Vote E) × IsIn y votes × (x ≡ y.from)
voter_named [] x i = absurd i
voter_named (y ∷ ys) x i = elim i [
  | inl e ↦ (y, inl refl, e)
  | inr j ↦ let r = voter_named ys x j in (r.0, inr r.1, r.2)
]

module _ {E : Type 0} (g : Group E) (h : History E) where
  blocks_from : (v m c : ℕ) → v < h.promise c → has_accepted g h v m c ≡ false → blocks g h v m c ≡ true
  unfolding blocks
  blocks_from v m c l e = and_from (ltb v (h.promise c)) (not (has_accepted g h v m c)) (lt-ltb v (h.promise c) l) (not_from_false (has_accepted g h v m c) e)

  -- one of those who voted has accepted the place, or none has
  some_voter : (v m : ℕ) (votes : List (Vote E)) → ((x : Vote E) × IsIn x votes × (has_accepted g h v m x.from ≡ true)) ⊎ ((x : Vote E) → IsIn x votes → has_accepted g h v m x.from ≡ false)
  some_voter v m [] = inr (λ x i. absurd i)
  some_voter v m (y ∷ ys) = elim (cases_Bool (has_accepted g h v m y.from)) [
    | inl e ↦ inl (y, inl refl, e)
    | inr e ↦ elim (some_voter v m ys) [
      | inl f ↦ inl (f.0, inr f.1, f.2)
      | inr f ↦ inr (λ x i. ⊎_elim (λ (z : x ≡ y). ap (λ (q : Vote E). has_accepted g h v m q.from) z ∙ e) (λ j. f x j) i)
    ]
  ]

module _ {E : Type 0} {g : Group E} {h : History E} where
  -- no place that has a quorum is blocked
  pub no_quorum_blocked : {v m : ℕ} → HasQuorum g h v m → IsBlocked g h v m → ⊥
  unfolding size blocks
  no_quorum_blocked {v} {m} q b =
      let q' = q.many in let b' = b.many in
      let s = count_share (has_accepted g h v m) (blocks g h v m) (size g) (omega arith) in
      let free = and_parts (ltb v (h.promise s.0)) (not (has_accepted g h v m s.0)) s.3 in
      both_ways (has_accepted g h v m s.0) (not-true (has_accepted g h v m s.0) free.1) s.2

  -- what is safe, committed or certified stays so where the claim is less
  pub safe_longer : {w : ℕ} {xs ys : List E} → IsSafe g h w xs → IsPrefix xs ys → IsSafe g h w ys
  safe_longer {w} {xs} {ys} s p = record {
    at = λ v m b o. elim (s.at v m b o) [
      | inl f ↦ inl record { within = f.within; front = prefix_trans f.front p }
      | inr f ↦ inr f
    ];
  }

  pub committed_less : {u w k j : ℕ} → IsCommitted g h u k → u ≤ w → j ≤ k → IsCommitted g h w j
  committed_less (nothing e) a b = nothing (omega (arith, e))
  committed_less (backed v m l r q) a b = backed v m (omega arith) (omega arith) q

  pub committed_max : {w a b : ℕ} → IsCommitted g h w a → IsCommitted g h w b → IsCommitted g h w (max a b)
  committed_max {w} {a} {b} p q = elim (cases_lt a b) [
    | inl l ↦ committed_less q (omega arith) (omega arith)
    | inr l ↦ committed_less p (omega arith) (omega arith)
  ]

  -- what has a quorum in an earlier view begins each log that is safe
  pub quorum_begins : {v m w : ℕ} {xs : List E} → HasQuorum g h v m → 1 ≤ m → v < w → IsSafe g h w xs → HasFirst h v m xs
  quorum_begins {v} {m} q o l s = elim (s.at v m l o) [ inl f ↦ f | inr b ↦ absurd (no_quorum_blocked q b) ]

  -- what is committed below w is in each log that is safe for w
  pub certified_front : {v m w k : ℕ} {xs : List E} → HasQuorum g h v m → k ≤ m → v < w → IsSafe g h w xs → (k ≤ length xs) × IsCertified g h (take k xs)
  certified_front {v} {m} {w} {k = zero} {xs} q r l s = (omega arith, empty refl)
  certified_front {v} {m} {w} {k = suc j} {xs} q r l s =
      let f = quorum_begins q (omega arith) l s in
      let n = prefix_length f.front in let n' = take_within m (h.logs v) f.within in
      let long : suc j ≤ length xs = omega arith in
      let back : IsPrefix xs xs = prefix_refl xs in
      let part : IsPrefix (take (suc j) xs) (h.logs v) = prefix_trans (prefix_both (front_prefix (suc j) xs) f.front (omega (arith, take_within (suc j) xs long))) (front_prefix m (h.logs v)) in
      (long, shown v m (omega (arith, take_within (suc j) xs long)) f.within part q)

  -- each log that is safe for a view has room for what earlier views committed
  pub committed_has_room : {u w k : ℕ} {xs : List E} → IsCommitted g h u k → u < w → IsSafe g h w xs → (k ≤ length xs) × IsCertified g h (take k xs)
  committed_has_room {u} {w} {k} {xs} (nothing e) l s = (omega (arith, e), empty (ap (λ (j : ℕ). take j xs) e))
  committed_has_room (backed v m a r q) l s = certified_front q r (omega arith) s

  pub vote_length : {c w u k : ℕ} {rest : List E} (x : IsGoodVote g h c w u k rest) → k + length rest ≡ length x.whole
  vote_length {k = k} {rest = rest} x = let n = x.vote.of_view.within in let e = ap length x.rest_is ∙ length-drop k x.whole in omega arith

  -- The log of the best of f + 1 votes is safe. Either one of those who voted has accepted the place, and then the best log
  -- reaches to it; or none has, and each of them blocks it.
  pub best_is_safe : {w : ℕ} {votes : List (Vote E)} (star : Vote E) (good : IsGoodVote g h star.from w star.normal star.commit star.rest) → IsBallot g h w votes → g.most_failures < length votes
      → IsBest votes star → IsSafe g h w good.whole
  best_is_safe {w} {votes} star good b many best = record {
    at = λ v m l o. elim (some_voter g h v m votes) [
      | inl f ↦
          let star_vote = good.vote in
          let told = b.each f.0 f.1 in
          let short : IsAtMost f.0.normal (length told.whole) star.normal (length good.whole) =
          subst (λ (y : ℕ). IsAtMost f.0.normal y star.normal (length good.whole)) (vote_length told) (subst (λ (y : ℕ). IsAtMost f.0.normal (f.0.commit + length f.0.rest) star.normal y) (vote_length good) (best f.0 f.1)) in
          let above : IsAtMost v m star.normal (length good.whole) = below_trans (told.vote.covers v m l o f.2) short in
          elim above [
            | inl earlier ↦ star_vote.of_view.safe.at v m earlier o
            | inr same ↦
                let front : IsPrefix good.whole (h.logs v) = subst (λ (z : ℕ). IsPrefix good.whole (h.logs z)) (sym same.0) star_vote.of_view.front in
                let n = prefix_length front in
                inl record { within = omega (arith, same.1); front = take_longer m front same.1 }
          ]
      | inr none ↦
          let passes : (x : ℕ) → IsIn x (map (λ q. q.from) votes) → (x < size g) × (blocks g h v m x ≡ true) = λ x i.
          let r = voter_named votes x i in
          let p = (b.each r.0 r.1).vote.promised in
          let t : blocks g h v m r.0.from ≡ true = blocks_from g h v m r.0.from (omega arith) (none r.0 r.1) in
          (subst (λ (z : ℕ). z < size g) (sym r.2) (b.named r.0 r.1), ap (blocks g h v m) r.2 ∙ t) in
          let all = count_list (map (λ q. q.from) votes) (blocks g h v m) (size g) b.distinct passes in
          inr record { many = omega (arith, length-map votes (λ (q : Vote E). q.from)) }
    ];
  }

  -- and it has room for what each vote names as committed
  pub best_has_room : {w : ℕ} {votes : List (Vote E)} (star : Vote E) (good : IsGoodVote g h star.from w star.normal star.commit star.rest) → IsBallot g h w votes → g.most_failures < length votes
      → IsBest votes star
      → (x : Vote E) → IsIn x votes → (x.commit ≤ length good.whole) × IsCertified g h (take x.commit good.whole) × IsCommitted g h w x.commit
  best_has_room {w} {votes} star good b many best x i =
      let vote = (b.each x i).vote in
      let r = committed_has_room vote.of_view.committed vote.earlier (best_is_safe star good b many best) in
      (r.0, r.1, committed_less vote.of_view.committed (omega (arith, vote.earlier)) (omega arith))

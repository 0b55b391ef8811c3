-- Logs that are told without their first entries are put together to the whole ones.
use Rattle.std.proofs.Common.{◌≡◌, ℕ, ◌<◌, ◌≤◌, inl, inr, Option, Some, None, List, ◌++◌, length, take, drop, refl, sym, ap, ◌∙◌, subst, arith, take-take, take-append-drop}
use Rattle.list_facts.proofs.Prefixes.{prefix_take, take_within}
use Rattle.list_facts.specs.Lists.{IsPrefix}
use Rattle.agreement.specs.History.{Group, ViewChange, Supplied, State, History}
use Rattle.agreement.specs.Quorums.{IsLogOf, IsCertified}
use Rattle.agreement.specs.Invariant.{is_up_status, IsGoodVote, IsGoodState, Invariant}
use Rattle.agreement.specs.Laws.{FrontsComplete, SuffixesComplete}
use Rattle.agreement.specs.Effects.{history_front_with, front_of}
use Rattle.agreement.proofs.Consequences.{committed_certified, committed_begins, certified_agree}

same_front : {E : Type 0} (b : ℕ) (front best : List E) → take b front ≡ take b best → take b front ++ drop b best ≡ best
same_front {E = E} b front best e = ap (λ (l : List E). l ++ drop b best) e ∙ take-append-drop b best

module _ {E : Type 0} {g : Group E} {h : History E} where
  -- two certified logs have the same first entries
  pub join : Invariant g h → {a b : List E} (m : ℕ) → IsCertified g h a → IsCertified g h b → m ≤ length a → m ≤ length b → take m a ≡ take m b
  join i m ca cb la lb = elim (certified_agree i ca cb) [
    | inl p ↦ prefix_take m p la
    | inr p ↦ sym (prefix_take m p lb)
  ]

  -- a certified front and what a vote tells are the vote's whole log
  pub front_whole : Invariant g h → {c w u k : ℕ} {front rest : List E} → IsCertified g h front → k ≤ length front → (v : IsGoodVote g h c w u k rest) → take k front ++ rest ≡ v.whole
  front_whole i {k = k} {front = front} {rest = rest} cf l v =
      let of_view = v.vote.of_view in
      let n = of_view.within in
      let first : take k front ≡ take k v.whole = join i k cf (committed_certified i of_view) l (omega (arith, take_within k v.whole n)) ∙ take-take k k v.whole (omega arith) in
      ap (λ (x : List E). take k front ++ x) v.rest_is ∙ same_front k front v.whole first

  -- a log's first entries and certified ones behind them
  pub supplied_front : Invariant g h → {u k m : ℕ} {log z rest : List E} → IsLogOf g h u log k → IsCertified g h z → m ≤ k → m ≤ length z → rest ≡ drop m z → take m log ++ rest ≡ z
  supplied_front i {u} {k} {m} {log} {z} {rest} r cz lk lz e =
      let n = r.within in
      let same : take m log ≡ take m z = sym (take-take m k log lk) ∙ join i m (committed_certified i r) cz (omega (arith, take_within k log n)) lz in
      ap (λ (x : List E). take m log ++ x) e ∙ same_front m log z same

  front_good : Invariant g h → {c : ℕ} {s : State E} → IsGoodState g h c s → s.status ≡ ViewChange → (o : Option (Supplied E)) → s.supply ≡ o → IsCertified g h (history_front_with s o)
  front_good i r n None e = committed_certified i (r.of_view (ap is_up_status n))
  front_good i {s = s} r n (Some x) e =
      let k = r.supplied n x e in
      subst (λ (l : List E). IsCertified g h l) (sym (supplied_front i (r.of_view (ap is_up_status n)) k.1.certified k.0 k.1.within k.1.rest_is)) k.1.certified

  pub front_certified : Invariant g h → {c : ℕ} {s : State E} → IsGoodState g h c s → s.status ≡ ViewChange → IsCertified g h (front_of s)
  front_certified i {s = s} r n = front_good i r n s.supply refl

  -- own committed entries and news of a later view are that view's whole log
  pub suffix : Invariant g h → {u w k j : ℕ} {m : ℕ} {log x rest : List E} → IsLogOf g h u log k → u < w → IsLogOf g h w x j → m ≤ k → rest ≡ drop m x → take m log ++ rest ≡ x
  suffix i {u} {w} {k} {j} {m} {log} {x} {rest} r l s lk e =
      let n = r.within in
      let p : IsPrefix (take k log) x = committed_begins i r l s.safe in
      let same : take m log ≡ take m x = sym (take-take m k log lk) ∙ prefix_take m p (omega (arith, take_within k log n)) in
      ap (λ (y : List E). take m log ++ y) e ∙ same_front m log x same

pub fronts_law : {E : Type 0} → FrontsComplete E
fronts_law g h c w u k front rest i cf l v = front_whole i cf l v

pub suffixes_law : {E : Type 0} → SuffixesComplete E
suffixes_law g h c w m k rest i b up later small x = suffix i ((i.states c b).of_view up) later x.of_view small x.rest_is

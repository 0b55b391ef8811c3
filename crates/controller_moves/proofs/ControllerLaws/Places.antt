-- Entries at their places, in lists that are cut and joined.
use Rattle.std.proofs.Common.{inl, inr, ◌⊎◌, ◌≡◌, ◌≤◌, ◌<◌, ℕ, ◌+◌, List, [], ◌∷◌, ◌++◌, length, take, drop, zero, suc, subst, arith}
use Rattle.std.specs.Prelude.{slice_get, None, Some}
use Rattle.vr_log.specs.declared.entry.Entry.{Entry}
use Rattle.vr_log.specs.declared.message.VrMessage.{VrMessage}
use Rattle.vr_log.specs.declared.message.VrMessage.TheVariants as message
use Rattle.vr_log.specs.declared.state.VrState.{VrState}
use Rattle.group_controller.specs.declared.messages.ControllerInput.{ControllerInput}
use Rattle.group_controller.specs.declared.messages.ControllerInput.TheVariants as controller_input
use Rattle.controller_moves.specs.ControllerLaws.Entries.{EachFrom, IsGoodBeside, StateHolds, MessageHolds, BoundRises, InputHolds}

module _ (P : ℕ → Entry → Type 0) where
  at_place : (n m : ℕ) (xs : List Entry) → n ≡ m → EachFrom P n xs → EachFrom P m xs
  at_place n m xs e h = subst (λ (k : ℕ). EachFrom P k xs) e h

  pub stands_append : (n : ℕ) (xs ys : List Entry) → EachFrom P n xs → EachFrom P (n + length xs) ys → EachFrom P n (xs ++ ys)
  stands_append n [] ys h k = at_place (n + 0) n ys (omega arith) k
  stands_append n (x ∷ xs) ys h k = (h.0, stands_append (suc n) xs ys h.1 (at_place (n + suc (length xs)) (suc n + length xs) ys (omega arith) k))

  pub stands_take : (n i : ℕ) (xs : List Entry) → EachFrom P n xs → EachFrom P n (take i xs)
  stands_take n zero xs h = tt
  stands_take n (suc i) [] h = tt
  stands_take n (suc i) (x ∷ xs) h = (h.0, stands_take (suc n) i xs h.1)

  pub stands_drop : (n i : ℕ) (xs : List Entry) → EachFrom P n xs → EachFrom P (n + i) (drop i xs)
  stands_drop n zero xs h = at_place n (n + 0) xs (omega arith) h
  stands_drop n (suc i) [] h = tt
  stands_drop n (suc i) (x ∷ xs) h = at_place (suc n + i) (n + suc i) (drop i xs) (omega arith) (stands_drop (suc n) i xs h.1)

  pub stands_get : (n i : ℕ) (xs : List Entry) (e : Entry) → EachFrom P n xs → slice_get xs i ≡ Some e → P (n + i) e
  stands_get n i [] e h at = absurd cc
  stands_get n zero (x ∷ xs) e h at = let same : x ≡ e = cc in let z : n ≡ n + 0 = omega arith in subst (λ (y : Entry). P (n + 0) y) same (subst (λ (k : ℕ). P k x) z h.0)
  stands_get n (suc i) (x ∷ xs) e h at = let z : suc n + i ≡ n + suc i = omega arith in subst (λ (k : ℕ). P k e) z (stands_get (suc n) i xs e h.1 at)

-- what makes another property of each entry, up to a place
pub stands_each : (P Q : ℕ → Entry → Type 0) (n bound : ℕ) (xs : List Entry) → n + length xs ≤ bound → ((m : ℕ) (e : Entry) → n ≤ m → m < bound → P m e → Q m e) → EachFrom P n xs → EachFrom Q n xs
stands_each P Q n bound [] less made h = tt
stands_each P Q n bound (x ∷ xs) less made h =
    (made n x (omega arith) (omega arith) h.0, stands_each P Q (suc n) bound xs (omega arith) (λ m e low high k. made m e (omega arith) high k) h.1)

module _ (IsGood : ℕ → Entry → Type 0) (IsBound : ℕ → ℕ → Entry → Type 0) (grows : BoundRises IsBound) where
  pub at_raised : (k k' n : ℕ) (e : Entry) → (k ≤ k') ⊎ (n < k') → IsGoodBeside IsGood IsBound k n e → IsGoodBeside IsGood IsBound k' n e
  at_raised k k' n e (inl low) h = (h.0, λ far. grows k k' n e low far (h.1 (omega arith)))
  at_raised k k' n e (inr past) h = (h.0, λ far. absurd (omega arith))

  pub raised : (k k' n : ℕ) (xs : List Entry) → (k ≤ k') ⊎ (n + length xs ≤ k') → EachFrom (IsGoodBeside IsGood IsBound k) n xs → EachFrom (IsGoodBeside IsGood IsBound k') n xs
  raised k k' n xs (inl low) h = stands_each (IsGoodBeside IsGood IsBound k) (IsGoodBeside IsGood IsBound k') n (n + length xs) xs (omega arith) (λ m e _ _ t. at_raised k k' m e (inl low) t) h
  raised k k' n xs (inr past) h = stands_each (IsGoodBeside IsGood IsBound k) (IsGoodBeside IsGood IsBound k') n k' xs past (λ m e _ less t. at_raised k k' m e (inr less) t) h

  -- entries below a commit number are bound to nothing
  pub covered : (k n : ℕ) (xs : List Entry) → n + length xs ≤ k → EachFrom IsGood n xs → EachFrom (IsGoodBeside IsGood IsBound k) n xs
  covered k n xs past h = stands_each IsGood (IsGoodBeside IsGood IsBound k) n k xs past (λ m e _ less t. (t, λ far. absurd (omega arith))) h

  pub bare : (k n : ℕ) (xs : List Entry) → EachFrom (IsGoodBeside IsGood IsBound k) n xs → EachFrom IsGood n xs
  bare k n xs h = stands_each (IsGoodBeside IsGood IsBound k) IsGood n (n + length xs) xs (omega arith) (λ m e _ _ t. t.0) h

-- what holds of each entry, where it says less
module _ (IsGood IsGood' : ℕ → Entry → Type 0) (IsBound IsBound' : ℕ → ℕ → Entry → Type 0) (more : (n : ℕ) (e : Entry) → IsGood n e → IsGood' n e) (ahead : (k n : ℕ) (e : Entry) → IsBound k n e → IsBound' k n e) where
  stands_more : (n : ℕ) (xs : List Entry) → EachFrom IsGood n xs → EachFrom IsGood' n xs
  stands_more n xs h = stands_each IsGood IsGood' n (n + length xs) xs (omega arith) (λ m e _ _ t. more m e t) h

  at_more : (k n : ℕ) (e : Entry) → IsGoodBeside IsGood IsBound k n e → IsGoodBeside IsGood' IsBound' k n e
  at_more k n e h = (more n e h.0, λ far. ahead k n e (h.1 far))

  each_more : (k n : ℕ) (xs : List Entry) → EachFrom (IsGoodBeside IsGood IsBound k) n xs → EachFrom (IsGoodBeside IsGood' IsBound' k) n xs
  each_more k n xs h = stands_each (IsGoodBeside IsGood IsBound k) (IsGoodBeside IsGood' IsBound' k) n (n + length xs) xs (omega arith) (λ m e _ _ t. at_more k m e t) h

  pub holds_more : (s : VrState) → StateHolds IsGood IsBound s → StateHolds IsGood' IsBound' s
  holds_more s h =
      record {
        log = each_more s.commit 0 s.log h.log;
        collected = λ c k. each_more c.commit c.commit c.log (h.collected c k);
        responses = λ r k told is. each_more told.commit 0 told.log (h.responses r k told is);
        supply = λ p is. stands_more p.first p.log (h.supply p is);
      }

  message_more : (m : VrMessage) → MessageHolds IsGood IsBound m → MessageHolds IsGood' IsBound' m
  message_more (message.Prepare view op commit entry) h = λ n e. at_more commit n entry (h n e)
  message_more (message.DoViewChange view normal commit log) h = each_more commit commit log h
  message_more (message.StartView view first commit log) h = each_more commit first log h
  message_more (message.RecoveryResponse view nonce None) h = tt
  message_more (message.RecoveryResponse view nonce (Some told)) h = each_more told.commit 0 told.log h
  message_more (message.NewState view first commit log) h = each_more commit first log h
  message_more (message.Supply view first log) h = stands_more first log h
  message_more (message.PrepareOk view op) h = tt
  message_more (message.Commit view commit) h = tt
  message_more (message.StartViewChange view) h = tt
  message_more (message.Recovery nonce promise) h = tt
  message_more (message.GetState view op) h = tt
  message_more (message.Fetch view op) h = tt

  pub input_more : (x : ControllerInput) → InputHolds IsGood IsBound x → InputHolds IsGood' IsBound' x
  input_more (controller_input.Vr from m) h = message_more m h
  input_more (controller_input.Local what) h = tt
  input_more (controller_input.Of s xid m) h = tt
  input_more (controller_input.Malformed from) h = tt

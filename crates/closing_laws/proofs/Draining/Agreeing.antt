-- What the others of a quorum have acknowledged is committed.
use Rattle.std.proofs.Common.{◌≡◌, ◌≤◌, ◌⊎◌, inl, inr, ℕ, ◌/◌, Bool, true, false, List, [], ◌∷◌, ◌++◌, length, take, drop, max, refl, sym, ◌∙◌, ap, subst, arith, append-nil}
use Rattle.std.specs.Prelude.{not, nat_eq, nat_le, ◌&&◌, slice_index, filter}
use Rattle.std.proofs.lemmas.Bool.{eqb-false, eqb-true, le-leb}
use Rattle.std.proofs.lemmas.List.Sums.{length-filter}
use Rattle.std.proofs.Math.Bool.{and_comm}
use Rattle.vr_log.specs.declared.entry.Entry.{Entry}
use Rattle.vr_log.specs.declared.message.VrMessage.TheVariants as vr
use Rattle.vr_log.specs.declared.state.VrState.{VrState}
use Rattle.vr_log.specs.Members.{most_failures, others_below}
use Rattle.vr_normal.specs.Cases.{acks, agreed, counted, is_agreed}
use Rattle.vr_normal.proofs.Agreed.{greatest_of}
use Rattle.run_spec.specs.declared.messages.Message.{Message}
use Rattle.run_spec.specs.declared.messages.Message.TheVariants as message
use Rattle.closing_laws.specs.Quorum.{has}
use Rattle.closing_laws.specs.Following.{ArePrepares, AreAcknowledged, Start, KeepsUp, IsAgreed, LeadsFrom}
use Rattle.closing_laws.proofs.Draining.Followers.{keeps_up_longer, prepares_rise}
use Rattle.closing_laws.proofs.Lists.Numbers.{Once, below_has, below_once, below_others, filter_on, filter_once, filter_twice, in_has, others_but_one}
use Rattle.closing_laws.proofs.Lists.Picked.{IsPicked}
use Rattle.closing_laws.proofs.Pool.TestCounts.{count_less}

module _ (p : VrState) (view : ℕ) (quorum : List ℕ) (picked : IsPicked p.controllers view quorum) (mine : has quorum p.me ≡ true) where
  abbrev n : ℕ
  n = p.controllers

  others_are : filter (λ j. not (nat_eq p.me j)) quorum ≡ filter (has quorum) (others_below p.me n)
  others_are =
      ap (filter (λ j. not (nat_eq p.me j))) picked.ascending
      ∙ filter_twice (λ j. not (nat_eq p.me j)) (has quorum) (others_below n n)
      ∙ filter_on (λ j. has quorum j && not (nat_eq p.me j)) (λ j. not (nat_eq p.me j) && has quorum j) (others_below n n) (λ j m. and_comm (has quorum j) (not (nat_eq p.me j)))
      ∙ sym (filter_twice (has quorum) (λ j. not (nat_eq p.me j)) (others_below n n))
      ∙ ap (filter (has quorum)) (sym (below_others p.me n n (omega arith)))

  quorum_once : Once quorum
  quorum_once = subst Once (sym picked.ascending) (filter_once (has quorum) (others_below n n) (below_once n n))

  pub enough : length (filter (has quorum) (others_below p.me n)) ≡ n / 2
  enough =
      let all = others_but_one p.me quorum quorum_once mine in
      let same = ap (λ (l : List ℕ). length l) others_are in
      let count = picked.count in
      omega (arith, all, same, count)

  pub all_agree : (op : ℕ) → ((b : ℕ) → has quorum b ≡ true → (b ≡ p.me → ⊥) → op ≤ slice_index p.acked b) → is_agreed p op ≡ true
  all_agree op each =
      let less = count_less (has quorum) (λ j. nat_le op (slice_index p.acked j)) (others_below p.me n)
      (λ j among chosen. le-leb op (slice_index p.acked j) (each j chosen (λ e. eqb-false p.me j (below_has p.me n j (in_has (others_below p.me n) j among)).1 (sym e)))) in
      let same = length-filter (has quorum) (others_below p.me n) in
      let count = enough in
      le-leb (most_failures p) (acks p op) (omega (arith, less, same, count))

  -- so it is committed
  pub counted_agreed : IsAgreed (counted p) quorum
  counted_agreed op le each = by_op (nat_eq op 0) refl
    where
      by_op : (b : Bool) → nat_eq op 0 ≡ b → op ≤ agreed p
      by_op true e = let none = eqb-true op 0 e in omega (arith, none)
      by_op false e =
          let some = eqb-false op 0 e in
          greatest_of (is_agreed p) p.commit (length p.log) op (omega (arith, some)) le (all_agree op each)

-- where the log grows
pub agreed_longer : (p p' : VrState) (quorum : List ℕ) (more : List Entry) → p'.log ≡ p.log ++ more → p'.me ≡ p.me → p'.acked ≡ p.acked → p.commit ≤ p'.commit →
    ((b : ℕ) × (has quorum b ≡ true) × (b ≡ p.me → ⊥) × (slice_index p.acked b ≤ length p.log)) ⊎ (p'.commit ≡ length p'.log) → IsAgreed p quorum → IsAgreed p' quorum
agreed_longer p p' quorum more log me acked commit (inr all) agree op le each = omega (arith, all, le)
agreed_longer p p' quorum more log me acked commit (inl (b, chosen, other, low)) agree op le each =
    let told = λ (c : ℕ) (m : has quorum c ≡ true) (o : c ≡ p.me → ⊥). subst (λ (l : List ℕ). op ≤ slice_index l c) acked (each c m (λ e. o (e ∙ me))) in
    let here = told b chosen other in
    let done = agree op (omega (arith, here, low)) told in
    omega (arith, done, commit)

-- an acknowledgement comes
module _ (start : Start) (p p' : VrState) (lead : LeadsFrom start p) (size : p'.controllers ≡ p.controllers) (view : p'.view ≡ p.view) (log : p'.log ≡ p.log) (commit : p.commit ≤ p'.commit) where
  same_log : p'.log ≡ p.log ++ []
  same_log = log ∙ sym (append-nil p.log)

  -- the others keep up as before
  pub keeps_up_still : (b : ℕ) (s : VrState) (out in_ : List Message) → slice_index p'.acked b ≡ slice_index p.acked b → KeepsUp start p b s out in_ → KeepsUp start p' b s out in_
  keeps_up_still b s out in_ acked h =
      subst (λ (ms : List Message). KeepsUp start p' b s ms in_) (append-nil out) (keeps_up_longer start p lead p' [] b s out in_ [] size view same_log commit acked tt h)

  -- and so does the one from whom it comes
  pub keeps_up_acked : (b op : ℕ) (s : VrState) (out in_ : List Message) → slice_index p'.acked b ≡ max op (slice_index p.acked b) →
      KeepsUp start p b s out (message.Vr (vr.PrepareOk p.view op) ∷ in_) → (op ≤ length p.log) × KeepsUp start p' b s out in_
  keeps_up_acked b op s out in_ acked (inl h) = absurd (let e = h.silent in cc)
  keeps_up_acked b op s out in_ acked (inr h) =
      let is : h.acks.0 ≡ op = (let e = h.acks.1 in cc) in
      let more = h.acks.2 in
      let within = h.acks.3 in
      let most = h.most in
      let now : slice_index p'.acked b ≡ op = omega (arith, acked, is, more) in (
        omega (arith, is, within, most),
        inr record {
          me = h.me;
          size = h.size ∙ sym size;
          normal = h.normal;
          view = h.view ∙ sym view;
          promise = subst (λ (v : ℕ). s.promise ≤ v) (sym view) h.promise;
          log = h.log ∙ ap (take (length s.log)) (sym log);
          least = h.least;
          most = subst (λ (l : List Entry). length s.log ≤ length l) (sym log) h.most;
          commit = (let c = h.commit in omega (arith, c, commit));
          entries = subst (λ (v : ℕ). ArePrepares v p'.commit (length s.log) (drop (length s.log) p'.log) out) (sym view)
              (subst (λ (l : List Entry). ArePrepares p.view p'.commit (length s.log) (drop (length s.log) l) out) (sym log)
              (prepares_rise p.view p.commit p'.commit (length s.log) (drop (length s.log) p.log) out commit h.entries));
          acked = omega (arith, now, is, within);
          acks = subst (λ (v : ℕ). AreAcknowledged v start.known (slice_index p'.acked b) (length s.log) in_) (sym view)
              (subst (λ (a : ℕ). AreAcknowledged p.view start.known a (length s.log) in_) (is ∙ sym now) h.acks.4);
        },
      )

-- Each step keeps a state valid.
use Rattle.std.proofs.Common.{◌≡◌, ◌≤◌, Bool, true, false, ℕ, ◌+◌, ◌++◌, length-append, [], ◌∷◌, length, ◌∙◌, arith}
use Rattle.std.specs.Prelude.{nat_eq, nat_le, if◌then◌else◌}
use Rattle.std.proofs.Math.ListN.{length-set}
use Rattle.vr_log.specs.declared.entry.Entry.{Entry}
use Rattle.vr_log.specs.declared.state.VrState.{VrState}
use Rattle.vr_log.specs.Log.{fits}
use Rattle.vr_log.specs.Members.{most_failures}
use Rattle.vr_log.specs.Steps.{appended}
use Rattle.vr_log.specs.Valid.{IsValidState}
use Rattle.vr_log.proofs.Valid.{either, chosen_by, commit_valid, grown_valid, acknowledges_valid}
use Rattle.vr_log.proofs.Logs.{follows_one}
use Rattle.vr_normal.specs.Cases.{prepares, acked_by, counted, agreed, is_agreed}
use Rattle.vr_normal.specs.Proposing.{proposed}
use Rattle.vr_normal.proofs.Agreed.{greatest_least, greatest_most}

pub prepares_valid : (s : VrState) (op commit : ℕ) (entry : Entry) → IsValidState s → IsValidState (prepares s op commit entry).state
prepares_valid s op commit entry v =
    either IsValidState (nat_le op (length s.log)) _ _ (acknowledges_valid s commit v)
    (either IsValidState (nat_eq op (length s.log + 1)) _ _
    (chosen_by IsValidState (fits s.log entry) _ _ (λ f. acknowledges_valid (appended s entry) commit (grown_valid s (entry ∷ []) v (follows_one s.log entry ∙ f))) (λ f. v))
    v)

pub acked_valid : (s : VrState) (from op : ℕ) → IsValidState s → IsValidState (acked_by s from op)
acked_valid s from op v = record {
  log = v.log;
  group = v.group;
  member = v.member;
  commit = v.commit;
  acked = length-set s.acked from _ ∙ v.acked;
  votes = v.votes;
  collected = v.collected;
  responses = v.responses;
  base = v.base;
  supply = v.supply;
}

pub counted_valid : (s : VrState) → IsValidState s → IsValidState (counted s)
counted_valid s v =
    commit_valid s (agreed s) v (greatest_least s.commit _) (let most = greatest_most (is_agreed s) s.commit (length s.log) in omega (arith, v.commit))

pub proposed_valid : (s : VrState) (entry : Entry) → IsValidState s → fits s.log entry ≡ true → IsValidState (proposed s entry).state
proposed_valid s entry v f =
    let grown = grown_valid s (entry ∷ []) v (follows_one s.log entry ∙ f) in
    let more = length-append s.log (entry ∷ []) in
    let le = v.commit in
    commit_valid (appended s entry) (if nat_eq (most_failures s) 0 then length s.log + 1 else s.commit) grown (chosen (nat_eq (most_failures s) 0) (λ n. s.commit ≤ n) (omega arith) (omega arith))
    (chosen (nat_eq (most_failures s) 0) (λ n. n ≤ length (s.log ++ entry ∷ [])) (omega (arith, more)) (omega (arith, more, le)))
  where
    chosen : (b : Bool) (P : ℕ → Type 0) {x y : ℕ} → P x → P y → P (if b then x else y)
    chosen true P p q = p
    chosen false P p q = q

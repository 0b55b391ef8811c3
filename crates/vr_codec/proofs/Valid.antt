-- What is spelled is valid: it has no less bytes than its canonical form.
use Rattle.std.proofs.Common.{ℕ, ◌≤◌, List, [], ◌∷◌, ◌++◌, length, drop, Some, None, ap, subst, arith, length-append}
use Rattle.std.specs.List.{AllByRecursion}
use Rattle.std.proofs.lemmas.List.{length-drop}
use Rattle.std.proofs.lemmas.List.Sums.{sum_by-cons}
use Rattle.std.proofs.Math.Seq.{take-append_seam, drop-append_seam}
use Rattle.of_bytes.proofs.Bytes.{IsBytes, IsBytes-take, IsBytes-drop}
use Rattle.of_ravana.proofs.Forms.{happening_valid, happening_long, inner_fits}
use Rattle.of_ravana.specs.Canonical.{happening_message}
use Rattle.vr_log.specs.declared.entry.Entry.{Entry}
use Rattle.vr_log.specs.declared.entry.Entry.TheVariants.{Received, Processed}
use Rattle.vr_log.specs.declared.message.VrMessage.{VrMessage}
use Rattle.vr_log.specs.declared.message.VrMessage.TheVariants as message
use Rattle.vr_log.specs.Log.{entry_size, log_size}
use Rattle.vr_log.specs.Sizes.{IsValidEntry, IsValidLog, IsValidVr}
use Rattle.vr_codec.specs.Grammar.{SpellsEntry, SpellsEntries, SpellsLog, SpellsVr}

-- ---- entries

entry_long : (text : List ℕ) (entry : Entry) → SpellsEntry text entry → entry_size entry ≤ length text
entry_long text (Received event) s =
    let there = s.there in
    omega (arith, length-drop 18 text, happening_long (drop 18 text) event.what s.inner)
entry_long text (Processed j) s = let whole = s.whole in omega arith

entry_valid : (text : List ℕ) (entry : Entry) → IsBytes text → SpellsEntry text entry → IsValidEntry entry
entry_valid text (Received event) fits s = (
  omega (arith, happening_long (drop 18 text) event.what s.inner, inner_fits (drop 18 text) (happening_message event.what) (IsBytes-drop 18 text fits) s.inner),
  happening_valid (drop 18 text) event.what s.inner,
)
entry_valid text (Processed j) fits s = tt

entries_long : (bytes : List ℕ) (log : List Entry) → SpellsEntries bytes log → log_size log ≤ length bytes
entries_long bytes [] s = omega arith
entries_long bytes (entry ∷ log) s =
    omega (arith, entry_long s.0 entry s.3, entries_long s.1 log s.4, ap length s.2, length-append s.0 s.1, sum_by-cons entry_size entry log)

entries_valid : (bytes : List ℕ) (log : List Entry) → IsBytes bytes → SpellsEntries bytes log → AllByRecursion (λ entry. IsValidEntry entry) log
entries_valid bytes [] fits s = tt
entries_valid bytes (entry ∷ log) fits s =
    let all = subst (λ (xs : List ℕ). IsBytes xs) s.2 fits in
    let text = subst (λ (xs : List ℕ). IsBytes xs) (take-append_seam s.0 s.1) (IsBytes-take (length s.0) (s.0 ++ s.1) all) in
    let rest = subst (λ (xs : List ℕ). IsBytes xs) (drop-append_seam s.0 s.1) (IsBytes-drop (length s.0) (s.0 ++ s.1) all) in
    (entry_valid s.0 entry text s.3, entries_valid s.1 log rest s.4)

log_valid : (bytes : List ℕ) (log : List Entry) → IsBytes bytes → SpellsLog bytes log → IsValidLog log
log_valid bytes log fits s =
    let small = s.small in
    record {
      few = s.few;
      small = omega (arith, length-drop 4 bytes, entries_long (drop 4 bytes) log s.entries);
      entries = entries_valid (drop 4 bytes) log (IsBytes-drop 4 bytes fits) s.entries;
    }

-- ---- messages

pub vr_valid : (bytes : List ℕ) (m : VrMessage) → IsBytes bytes → SpellsVr bytes m → IsValidVr m
vr_valid bytes (message.Prepare view op commit entry) fits s = entry_valid (drop 21 bytes) entry (IsBytes-drop 21 bytes fits) s.entry_is
vr_valid bytes (message.PrepareOk view op) fits s = tt
vr_valid bytes (message.Commit view commit) fits s = tt
vr_valid bytes (message.StartViewChange view) fits s = tt
vr_valid bytes (message.DoViewChange view normal commit log) fits s = log_valid (drop 17 bytes) log (IsBytes-drop 17 bytes fits) s.log_is
vr_valid bytes (message.StartView view first commit log) fits s = log_valid (drop 21 bytes) log (IsBytes-drop 21 bytes fits) s.log_is
vr_valid bytes (message.Recovery nonce promise) fits s = tt
vr_valid bytes (message.RecoveryResponse view nonce None) fits s = tt
vr_valid bytes (message.RecoveryResponse view nonce (Some filled)) fits s = log_valid (drop 22 bytes) filled.log (IsBytes-drop 22 bytes fits) s.filled_is.log_is
vr_valid bytes (message.GetState view op) fits s = tt
vr_valid bytes (message.NewState view first commit log) fits s = log_valid (drop 21 bytes) log (IsBytes-drop 21 bytes fits) s.log_is
vr_valid bytes (message.Fetch view op) fits s = tt
vr_valid bytes (message.Supply view first log) fits s = log_valid (drop 13 bytes) log (IsBytes-drop 13 bytes fits) s.log_is

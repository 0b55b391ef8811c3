-- What is written is spelled, and has the stated size.
use Rattle.std.proofs.Common.{◌≡◌, ℕ, ◌+◌, ◌^◌, ◌<◌, List, [], ◌∷◌, ◌++◌, length, Option, Some, None, refl, ap, ◌∙◌, arith, lit<, length-append}
use Rattle.std.specs.Prelude.{flat_map}
use Rattle.std.specs.List.{AllByRecursion}
use Rattle.std.proofs.lemmas.List.Concat.{flat_map-cons}
use Rattle.std.proofs.lemmas.List.Elements.{recursion_from_All}
use Rattle.std.proofs.lemmas.List.Sums.{sum_by-cons}
use Rattle.of_bytes.specs.Numbers.{number, one, four, eight}
use Rattle.of_bytes.proofs.Bytes.{number_bytes}
use Rattle.of_ravana.specs.Canonical.{happening_message, canonical_happening}
use Rattle.of_ravana.specs.Grammar.{SpellsInner}
use Rattle.of_ravana.proofs.Written.{happening_length, happening_spelled}
use Rattle.of_types.specs.declared.message.Event.{Event}
use Rattle.vr_log.specs.declared.entry.Entry.{Entry}
use Rattle.vr_log.specs.declared.entry.Entry.TheVariants.{Received, Processed}
use Rattle.vr_log.specs.declared.message.Filled.{Filled}
use Rattle.vr_log.specs.declared.message.VrMessage.{VrMessage}
use Rattle.vr_log.specs.declared.message.VrMessage.TheVariants as message
use Rattle.vr_log.specs.Log.{entry_size, log_size}
use Rattle.vr_codec.specs.Canonical.{received_front, received_bytes, processed_bytes, canonical_entry, canonical_log, front_bytes, pair, recovery_bytes, filled_bytes, canonical_vr}
use Rattle.vr_log.specs.Sizes.{filled_size, vr_size, IsValidEntry, IsValidLog, IsValidVr}
use Rattle.vr_codec.specs.Fits.{FitsVrEntry, FitsLog, FitsVr}
use Rattle.vr_codec.specs.Grammar.{IsReceived, IsProcessed, SpellsEntry, SpellsEntries, SpellsLog, IsPrepare, IsViewAndNumber, IsStartViewChange, IsDoViewChange, IsLogBehind, IsSupply, IsRecovery, IsResponse, SpellsVr}

-- ---- entries

received_spelled : (event : Event) (told : List ℕ) → event.switch < 2 ^ 8 → event.life < 2 ^ 32 → event.number < 2 ^ 64 → length told < 2 ^ 32 → SpellsInner told (happening_message event.what)
    → IsReceived (received_bytes event.switch event.life event.number told) event
unfolding received_bytes received_front one four eight
received_spelled event told s l n len inner = record {
  there = omega arith;
  kind_is = refl;
  switch_is = number_bytes 1 event.switch [] s;
  life_is = number_bytes 4 event.life [] l;
  number_is = number_bytes 8 event.number [] n;
  length_is = (let n : number 4 14 (received_bytes event.switch event.life event.number told) ≡ length told = number_bytes 4 (length told) [] len in omega arith);
  inner = inner;
}

received_size : (switch life number : ℕ) (told : List ℕ) → length (received_bytes switch life number told) ≡ 18 + length told
unfolding received_bytes received_front one four eight
received_size switch life number told = omega arith

processed_spelled : (j : ℕ) → j < 2 ^ 64 → IsProcessed (processed_bytes j) j
unfolding processed_bytes one eight
processed_spelled j lt = record { whole = refl; kind_is = refl; place_is = number_bytes 8 j [] lt }

processed_size : (j : ℕ) → length (processed_bytes j) ≡ 9
unfolding processed_bytes one eight
processed_size j = refl

pub entry_length : (entry : Entry) → length (canonical_entry entry) ≡ entry_size entry
entry_length (Received event) = received_size event.switch event.life event.number (canonical_happening event.what) ∙ ap (λ (x : ℕ). 18 + x) (happening_length event.what)
entry_length (Processed j) = processed_size j

entry_spelled : (entry : Entry) → IsValidEntry entry → FitsVrEntry entry → SpellsEntry (canonical_entry entry) entry
entry_spelled (Received event) v f =
    received_spelled event (canonical_happening event.what) f.0 f.1 f.2 (omega (arith, happening_length event.what, v.0)) (happening_spelled event.what v.1 f.3 v.0)
entry_spelled (Processed j) v f = processed_spelled j f

entries_length : (log : List Entry) → length (flat_map canonical_entry log) ≡ log_size log
entries_length [] = refl
entries_length (entry ∷ log) =
    ap length (flat_map-cons canonical_entry entry log)
    ∙ omega (arith, length-append (canonical_entry entry) (flat_map canonical_entry log), entry_length entry, entries_length log, sum_by-cons entry_size entry log)

entries_spelled : (log : List Entry) → AllByRecursion (λ entry. IsValidEntry entry) log → AllByRecursion (λ entry. FitsVrEntry entry) log → SpellsEntries (flat_map canonical_entry log) log
entries_spelled [] v f = refl
entries_spelled (entry ∷ log) v f =
    (canonical_entry entry, flat_map canonical_entry log, flat_map-cons canonical_entry entry log, entry_spelled entry v.0 f.0, entries_spelled log v.1 f.1)

log_spelled : (log : List Entry) → IsValidLog log → FitsLog log → SpellsLog (canonical_log log) log
unfolding canonical_log four
log_spelled log v f =
    let few = v.few in let small = v.small in
    record {
      there = omega arith;
      count_is = number_bytes 4 (length log) [] (omega arith);
      few = v.few;
      small = omega (arith, entries_length log);
      entries = entries_spelled log v.entries (recursion_from_All (λ entry. FitsVrEntry entry) log f);
    }

-- ---- messages

prepare_spelled : (view op commit : ℕ) (entry : Entry) (text : List ℕ) → view < 2 ^ 32 → op < 2 ^ 64 → commit < 2 ^ 64 → SpellsEntry text entry
    → IsPrepare (front_bytes 1 view ++ (pair op commit ++ text)) view op commit entry
unfolding front_bytes pair one four eight
prepare_spelled view op commit entry text v o k s = record {
  front = record { there = omega arith; kind_is = refl };
  view_is = number_bytes 4 view [] v;
  op_is = number_bytes 8 op [] o;
  commit_is = number_bytes 8 commit [] k;
  entry_is = s;
}

numbered_spelled : (kind view n : ℕ) → kind < 2 ^ 8 → view < 2 ^ 32 → n < 2 ^ 64 → IsViewAndNumber (front_bytes kind view ++ eight n) kind view n
unfolding front_bytes one four eight
numbered_spelled kind view n k v x = record { whole = refl; kind_is = number_bytes 1 kind [] k; view_is = number_bytes 4 view [] v; number_is = number_bytes 8 n [] x }

start_view_change_spelled : (view : ℕ) → view < 2 ^ 32 → IsStartViewChange (front_bytes 4 view) view
unfolding front_bytes one four
start_view_change_spelled view v = record { whole = refl; kind_is = refl; view_is = number_bytes 4 view [] v }

do_view_change_spelled : (view normal commit : ℕ) (log : List Entry) (text : List ℕ) → view < 2 ^ 32 → normal < 2 ^ 32 → commit < 2 ^ 64 → SpellsLog text log
    → IsDoViewChange (front_bytes 5 view ++ (four normal ++ (eight commit ++ text))) view normal commit log
unfolding front_bytes one four eight
do_view_change_spelled view normal commit log text v u k s = record {
  front = record { there = omega arith; kind_is = refl };
  view_is = number_bytes 4 view [] v;
  normal_is = number_bytes 4 normal [] u;
  commit_is = number_bytes 8 commit [] k;
  log_is = s;
}

supply_spelled : (view first : ℕ) (log : List Entry) (text : List ℕ) → view < 2 ^ 32 → first < 2 ^ 64 → SpellsLog text log
    → IsSupply (front_bytes 12 view ++ (eight first ++ text)) view first log
unfolding front_bytes one four eight
supply_spelled view first log text v k s = record {
  front = record { there = omega arith; kind_is = refl };
  view_is = number_bytes 4 view [] v;
  first_is = number_bytes 8 first [] k;
  log_is = s;
}

recovery_spelled : (nonce promise : ℕ) → nonce < 2 ^ 64 → promise < 2 ^ 32 → IsRecovery (recovery_bytes nonce promise) nonce promise
unfolding recovery_bytes one four eight
recovery_spelled nonce promise n p = record { whole = refl; kind_is = refl; nonce_is = number_bytes 8 nonce [] n; promise_is = number_bytes 4 promise [] p }

empty_spelled : (view nonce : ℕ) → view < 2 ^ 32 → nonce < 2 ^ 64 → IsResponse (front_bytes 8 view ++ (eight nonce ++ one 0)) view nonce None
unfolding front_bytes one four eight
empty_spelled view nonce v n = record {
  front = record { there = omega arith; kind_is = refl };
  view_is = number_bytes 4 view [] v;
  nonce_is = number_bytes 8 nonce [] n;
  filled_is = (refl, refl);
}

filled_spelled : (view nonce : ℕ) (filled : Filled) (text : List ℕ) → view < 2 ^ 32 → nonce < 2 ^ 64 → filled.commit < 2 ^ 64 → SpellsLog text filled.log
    → IsResponse (front_bytes 8 view ++ (eight nonce ++ (one 1 ++ (eight filled.commit ++ text)))) view nonce (Some filled)
unfolding front_bytes one four eight
filled_spelled view nonce filled text v n k s = record {
  front = record { there = omega arith; kind_is = refl };
  view_is = number_bytes 4 view [] v;
  nonce_is = number_bytes 8 nonce [] n;
  filled_is = record { there = omega arith; filled_is = refl; commit_is = number_bytes 8 filled.commit [] k; log_is = s };
}

log_behind_spelled : (kind view first commit : ℕ) (log : List Entry) (text : List ℕ) → kind < 2 ^ 8 → view < 2 ^ 32 → first < 2 ^ 64 → commit < 2 ^ 64 → SpellsLog text log
    → IsLogBehind (front_bytes kind view ++ (pair first commit ++ text)) kind view first commit log
unfolding front_bytes pair one four eight
log_behind_spelled kind view first commit log text n v o k s = record {
  front = record { there = omega arith; kind_is = number_bytes 1 kind [] n };
  view_is = number_bytes 4 view [] v;
  first_is = number_bytes 8 first [] o;
  commit_is = number_bytes 8 commit [] k;
  log_is = s;
}

pub vr_spelled : (m : VrMessage) → IsValidVr m → FitsVr m → SpellsVr (canonical_vr m) m
vr_spelled (message.Prepare view op commit entry) v f = prepare_spelled view op commit entry (canonical_entry entry) f.0 f.1 f.2 (entry_spelled entry v f.3)
vr_spelled (message.PrepareOk view op) v f = numbered_spelled 2 view op (lit< tt) f.0 f.1
vr_spelled (message.Commit view commit) v f = numbered_spelled 3 view commit (lit< tt) f.0 f.1
vr_spelled (message.StartViewChange view) v f = start_view_change_spelled view f
vr_spelled (message.DoViewChange view normal commit log) v f = do_view_change_spelled view normal commit log (canonical_log log) f.0 f.1 f.2 (log_spelled log v f.3)
vr_spelled (message.StartView view first commit log) v f = log_behind_spelled 6 view first commit log (canonical_log log) (lit< tt) f.0 f.1 f.2 (log_spelled log v f.3)
vr_spelled (message.Recovery nonce promise) v f = recovery_spelled nonce promise f.0 f.1
vr_spelled (message.RecoveryResponse view nonce None) v f = empty_spelled view nonce f.0 f.1
vr_spelled (message.RecoveryResponse view nonce (Some filled)) v f = filled_spelled view nonce filled (canonical_log filled.log) f.0 f.1 f.2.0 (log_spelled filled.log v f.2.1)
vr_spelled (message.GetState view op) v f = numbered_spelled 9 view op (lit< tt) f.0 f.1
vr_spelled (message.NewState view first commit log) v f = log_behind_spelled 10 view first commit log (canonical_log log) (lit< tt) f.0 f.1 f.2 (log_spelled log v f.3)
vr_spelled (message.Fetch view op) v f = numbered_spelled 11 view op (lit< tt) f.0 f.1
vr_spelled (message.Supply view first log) v f = supply_spelled view first log (canonical_log log) f.0 f.1 (log_spelled log v f.2)

-- ---- sizes

log_length : (log : List Entry) → length (canonical_log log) ≡ 4 + log_size log
unfolding canonical_log four
log_length log = omega (arith, entries_length log)

front_length : (kind view : ℕ) (rest : List ℕ) → length (front_bytes kind view ++ rest) ≡ 5 + length rest
unfolding front_bytes one four
front_length kind view rest = omega arith

pair_length : (a b : ℕ) (rest : List ℕ) → length (pair a b ++ rest) ≡ 16 + length rest
unfolding pair eight
pair_length a b rest = omega arith

four_length : (n : ℕ) (rest : List ℕ) → length (four n ++ rest) ≡ 4 + length rest
unfolding four
four_length n rest = omega arith

eight_length : (n : ℕ) (rest : List ℕ) → length (eight n ++ rest) ≡ 8 + length rest
unfolding eight
eight_length n rest = omega arith

numbered_length : (kind view n : ℕ) → length (front_bytes kind view ++ eight n) ≡ 13
unfolding front_bytes one four eight
numbered_length kind view n = refl

start_view_change_length : (view : ℕ) → length (front_bytes 4 view) ≡ 5
unfolding front_bytes one four
start_view_change_length view = refl

recovery_length : (nonce promise : ℕ) → length (recovery_bytes nonce promise) ≡ 13
unfolding recovery_bytes one four eight
recovery_length nonce promise = refl

filled_length : (filled : Option Filled) → length (filled_bytes filled) ≡ 1 + filled_size filled
unfolding one eight
filled_length None = refl
filled_length (Some filled) = omega (arith, log_length filled.log)

log_behind_length : (kind view first commit : ℕ) (log : List Entry) → length (front_bytes kind view ++ (pair first commit ++ canonical_log log)) ≡ 25 + log_size log
log_behind_length kind view first commit log =
    omega (arith, front_length kind view (pair first commit ++ canonical_log log), pair_length first commit (canonical_log log), log_length log)

pub vr_length : (m : VrMessage) → length (canonical_vr m) ≡ vr_size m
vr_length (message.Prepare view op commit entry) =
    omega (arith, front_length 1 view (pair op commit ++ canonical_entry entry), pair_length op commit (canonical_entry entry), entry_length entry)
vr_length (message.PrepareOk view op) = numbered_length 2 view op
vr_length (message.Commit view commit) = numbered_length 3 view commit
vr_length (message.StartViewChange view) = start_view_change_length view
vr_length (message.DoViewChange view normal commit log) =
    omega (arith, front_length 5 view (four normal ++ (eight commit ++ canonical_log log)), four_length normal (eight commit ++ canonical_log log), eight_length commit (canonical_log log), log_length log)
vr_length (message.StartView view first commit log) = log_behind_length 6 view first commit log
vr_length (message.Recovery nonce promise) = recovery_length nonce promise
vr_length (message.RecoveryResponse view nonce filled) =
    omega (arith, front_length 8 view (eight nonce ++ filled_bytes filled), eight_length nonce (filled_bytes filled), filled_length filled)
vr_length (message.GetState view op) = numbered_length 9 view op
vr_length (message.NewState view first commit log) = log_behind_length 10 view first commit log
vr_length (message.Fetch view op) = numbered_length 11 view op
vr_length (message.Supply view first log) =
    omega (arith, front_length 12 view (eight first ++ canonical_log log), eight_length first (canonical_log log), log_length log)

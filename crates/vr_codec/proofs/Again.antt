-- What is spelled is read.
use Rattle.std.proofs.Common.{◌≡◌, ℕ, ◌-◌, ◌≤◌, List, [], ◌∷◌, ◌++◌, length, drop, Option, Some, None, Ok, refl, ap, subst, ◌∙◌, arith, length-append, append_assoc}
use Rattle.std.proofs.Math.Seq.{take-append_seam, drop-append_seam}
use Rattle.std.proofs.lemmas.Bool.{le-ltb, eq-eqb}
use Rattle.std.proofs.lemmas.List.{append-nil, drop-append-le, drop_all, length-drop}
use Rattle.of_bytes.specs.Numbers.{number}
use Rattle.of_bytes.proofs.Bytes.{number-append}
use Rattle.of_messages.proofs.Again.{message_again}
use Rattle.of_ravana.specs.Canonical.{happening_message}
use Rattle.of_ravana.specs.Grammar.{SpellsInner}
use Rattle.of_types.specs.declared.message.Event.{Event}
use Rattle.of_types.specs.declared.message.Happening.{Happening}
use Rattle.of_types.specs.declared.message.Happening.TheVariants as happening
use Rattle.of_types.specs.declared.message.OfMessage.TheVariants as plain
use Rattle.vr_log.specs.declared.entry.Entry.{Entry}
use Rattle.vr_log.specs.declared.entry.Entry.TheVariants.{Received, Processed}
use Rattle.vr_log.specs.declared.message.Filled.{Filled}
use Rattle.vr_log.specs.declared.message.VrMessage.{VrMessage}
use Rattle.vr_log.specs.declared.message.VrMessage.TheVariants as message
use Rattle.vr_log.specs.Log.{log_entries, log_bytes}
use Rattle.vr_codec.specs.Grammar.{IsReceived, IsProcessed, SpellsEntry, SpellsEntries, SpellsLog, IsPrepare, IsViewAndNumber, IsStartViewChange, IsDoViewChange, IsLogBehind, IsSupply, IsRecovery, IsFilled, SpellsFilled, IsResponse, SpellsVr}
use Rattle.vr_codec.specs.Reading.{event_at, told_at, received_at, processed_at, entry_at, entries_at, log_at, last_entry_at, last_log_at, numbered_at, start_view_change_at, recovery_at, prepare_at, do_view_change_at, filled_at, option_at, response_at, log_behind_at, supply_at, vr_body_at, vr_at}

-- ---- entries

event_again : (bytes : List ℕ) (what : Happening) → SpellsInner bytes (happening_message what) → event_at bytes ≡ Ok what
unfolding event_at
event_again bytes (happening.PacketIn p) s =
    let there = s.1.there in
    rw (le-ltb (length bytes) 4 (omega arith), s.1.length_is, eq-eqb (length bytes) (length bytes) refl, message_again bytes s.0 (plain.PacketIn p) s.1) refl
event_again bytes (happening.FlowRemoved r) s =
    let there = s.1.there in
    rw (le-ltb (length bytes) 4 (omega arith), s.1.length_is, eq-eqb (length bytes) (length bytes) refl, message_again bytes s.0 (plain.FlowRemoved r) s.1) refl
event_again bytes (happening.PortStatus p) s =
    let there = s.1.there in
    rw (le-ltb (length bytes) 4 (omega arith), s.1.length_is, eq-eqb (length bytes) (length bytes) refl, message_again bytes s.0 (plain.PortStatus p) s.1) refl

told_again : (bytes told tail : List ℕ) (event : Event) → number 1 1 bytes ≡ event.switch → number 4 2 bytes ≡ event.life → number 8 6 bytes ≡ event.number
    → SpellsInner told (happening_message event.what) → told_at (length told) bytes (told ++ tail) ≡ Ok (Received event, tail)
unfolding told_at
told_again bytes told tail event a b c s =
    rw (le-ltb (length (told ++ tail)) (length told) (omega (arith, length-append told tail)), take-append_seam told tail, drop-append_seam told tail, event_again told event.what s, a, b, c) refl

received_again : (text rest : List ℕ) (event : Event) → IsReceived text event → received_at (text ++ rest) ≡ Ok (Received event, rest)
unfolding received_at
received_again text rest event s =
    let there = s.there in
    let long = length-append text rest in
    let len : number 4 14 text ≡ length (drop 18 text) = omega (arith, s.length_is, length-drop 18 text) in
    rw (le-ltb (length (text ++ rest)) 18 (omega arith), number-append 4 14 text rest (omega arith), len, drop-append-le 18 text rest there)
    (told_again (text ++ rest) (drop 18 text) rest event (number-append 1 1 text rest (omega arith) ∙ s.switch_is) (number-append 4 2 text rest (omega arith) ∙ s.life_is)
    (number-append 8 6 text rest (omega arith) ∙ s.number_is) s.inner)

processed_again : (text rest : List ℕ) (j : ℕ) → IsProcessed text j → processed_at (text ++ rest) ≡ Ok (Processed j, rest)
unfolding processed_at
processed_again text rest j s =
    let whole = s.whole in
    let long = length-append text rest in
    rw (le-ltb (length (text ++ rest)) 9 (omega arith), number-append 8 1 text rest (omega arith), s.place_is, drop-append-le 9 text rest (omega arith), drop_all 9 text (omega arith)) refl

entry_again : (text rest : List ℕ) (entry : Entry) → SpellsEntry text entry → entry_at (text ++ rest) ≡ Ok (entry, rest)
unfolding entry_at
entry_again text rest (Received event) s =
    let there = s.there in
    let long = length-append text rest in
    rw (le-ltb (length (text ++ rest)) 1 (omega arith), number-append 1 0 text rest (omega arith), s.kind_is) (received_again text rest event s)
entry_again text rest (Processed j) s =
    let whole = s.whole in
    let long = length-append text rest in
    rw (le-ltb (length (text ++ rest)) 1 (omega arith), number-append 1 0 text rest (omega arith), s.kind_is) (processed_again text rest j s)

one_again : (whole : ℕ) (before : List Entry) (entry : Entry) (entries : List Entry) (bytes text rest tail : List ℕ) → bytes ≡ text ++ rest → SpellsEntry text entry
    → whole - length (rest ++ tail) ≤ log_bytes
    → entries_at whole (length (entry ∷ entries)) before (bytes ++ tail) ≡ entries_at whole (length entries) (before ++ entry ∷ []) (rest ++ tail)
unfolding entries_at
one_again whole before entry entries bytes text rest tail is s small =
    rw (is, append_assoc text rest tail, entry_again text (rest ++ tail) entry s, le-ltb log_bytes (whole - length (rest ++ tail)) small) refl

entries_again : (whole : ℕ) (before entries : List Entry) (text rest : List ℕ) → SpellsEntries text entries → whole - length rest ≤ log_bytes
    → entries_at whole (length entries) before (text ++ rest) ≡ Ok (before ++ entries, rest)
unfolding entries_at
entries_again whole before [] text rest s small = rw (s, append-nil before) refl
entries_again whole before (entry ∷ entries) text rest s small =
    let long = length-append s.1 rest in
    one_again whole before entry entries text s.0 s.1 rest s.2 s.3 (omega arith)
    ∙ entries_again whole (before ++ entry ∷ []) entries s.1 rest s.4 small
    ∙ ap (λ (log : List Entry). Ok (log, rest)) (append_assoc before (entry ∷ []) entries)

log_again : (bytes : List ℕ) (log : List Entry) → SpellsLog bytes log → log_at bytes ≡ Ok (log, [])
unfolding log_at
log_again bytes log s =
    let few = s.few in let small = s.small in
    let tail = drop 4 bytes in
    let d = length-drop 4 bytes in
    let all : entries_at (length tail) (length log) [] (tail ++ []) ≡ Ok (log, []) = entries_again (length tail) [] log tail [] s.entries (omega arith) in
    rw (le-ltb (length bytes) 4 s.there, s.count_is, le-ltb log_entries (length log) few) (subst (λ (x : List ℕ). entries_at (length tail) (length log) [] x ≡ Ok (log, [])) (append-nil tail) all)

last_entry_again : (bytes : List ℕ) (entry : Entry) → SpellsEntry bytes entry → last_entry_at bytes ≡ Ok entry
unfolding last_entry_at
last_entry_again bytes entry s =
    let whole : entry_at bytes ≡ Ok (entry, []) = subst (λ (x : List ℕ). entry_at x ≡ Ok (entry, [])) (append-nil bytes) (entry_again bytes [] entry s) in
    rw whole refl

last_log_again : (bytes : List ℕ) (log : List Entry) → SpellsLog bytes log → last_log_at bytes ≡ Ok log
unfolding last_log_at
last_log_again bytes log s = rw (log_again bytes log s) refl

-- ---- messages

numbered_again : (bytes : List ℕ) (kind view n : ℕ) → IsViewAndNumber bytes kind view n → numbered_at bytes ≡ Ok (view, n)
unfolding numbered_at
numbered_again bytes kind view n s = rw (s.whole, s.view_is, s.number_is) refl

start_view_change_again : (bytes : List ℕ) (view : ℕ) → IsStartViewChange bytes view → start_view_change_at bytes ≡ Ok (message.StartViewChange view)
unfolding start_view_change_at
start_view_change_again bytes view s = rw (s.whole, s.view_is) refl

recovery_again : (bytes : List ℕ) (nonce promise : ℕ) → IsRecovery bytes nonce promise → recovery_at bytes ≡ Ok (message.Recovery nonce promise)
unfolding recovery_at
recovery_again bytes nonce promise s = rw (s.whole, s.nonce_is, s.promise_is) refl

prepare_again : (bytes : List ℕ) (view op commit : ℕ) (entry : Entry) → IsPrepare bytes view op commit entry → prepare_at bytes ≡ Ok (message.Prepare view op commit entry)
unfolding prepare_at
prepare_again bytes view op commit entry s =
    rw (le-ltb (length bytes) 21 s.front.there, last_entry_again (drop 21 bytes) entry s.entry_is, s.view_is, s.op_is, s.commit_is) refl

do_view_change_again : (bytes : List ℕ) (view normal commit : ℕ) (log : List Entry) → IsDoViewChange bytes view normal commit log
    → do_view_change_at bytes ≡ Ok (message.DoViewChange view normal commit log)
unfolding do_view_change_at
do_view_change_again bytes view normal commit log s =
    rw (le-ltb (length bytes) 17 s.front.there, last_log_again (drop 17 bytes) log s.log_is, s.view_is, s.normal_is, s.commit_is) refl

supply_again : (bytes : List ℕ) (view first : ℕ) (log : List Entry) → IsSupply bytes view first log → supply_at bytes ≡ Ok (message.Supply view first log)
unfolding supply_at
supply_again bytes view first log s =
    rw (le-ltb (length bytes) 13 s.front.there, last_log_again (drop 13 bytes) log s.log_is, s.view_is, s.first_is) refl

filled_again : (bytes : List ℕ) (filled : Filled) → IsFilled bytes filled → filled_at bytes ≡ Ok (Some filled)
unfolding filled_at
filled_again bytes filled s = rw (le-ltb (length bytes) 22 s.there, last_log_again (drop 22 bytes) filled.log s.log_is, s.commit_is) refl

option_again : (bytes : List ℕ) (filled : Option Filled) → SpellsFilled bytes filled → option_at bytes ≡ Ok filled
unfolding option_at
option_again bytes None s = rw (s.0, s.1) refl
option_again bytes (Some filled) s = rw s.filled_is (filled_again bytes filled s)

response_again : (bytes : List ℕ) (view nonce : ℕ) (filled : Option Filled) → IsResponse bytes view nonce filled
    → response_at bytes ≡ Ok (message.RecoveryResponse view nonce filled)
unfolding response_at
response_again bytes view nonce filled s =
    rw (le-ltb (length bytes) 14 s.front.there, option_again bytes filled s.filled_is, s.view_is, s.nonce_is) refl

log_behind_again : (bytes : List ℕ) (kind view first commit : ℕ) (log : List Entry) → IsLogBehind bytes kind view first commit log
    → log_behind_at bytes ≡ Ok (view, first, commit, log)
unfolding log_behind_at
log_behind_again bytes kind view first commit log s =
    rw (le-ltb (length bytes) 21 s.front.there, last_log_again (drop 21 bytes) log s.log_is, s.view_is, s.first_is, s.commit_is) refl

front_again : (bytes : List ℕ) (kind size : ℕ) (m : VrMessage) → size ≤ length bytes → 1 ≤ size → number 1 0 bytes ≡ kind → vr_body_at kind bytes ≡ Ok m → vr_at bytes ≡ Ok m
unfolding vr_at
front_again bytes kind size m there one k e = rw (le-ltb (length bytes) 1 (omega arith), k) e

same_size : (a b : ℕ) → a ≡ b → b ≤ a
same_size a b e = omega arith

pub vr_again : (bytes : List ℕ) (m : VrMessage) → SpellsVr bytes m → vr_at bytes ≡ Ok m
unfolding vr_body_at
vr_again bytes (message.Prepare view op commit entry) s =
    front_again bytes 1 21 _ s.front.there (omega arith) s.front.kind_is (prepare_again bytes view op commit entry s)
vr_again bytes (message.PrepareOk view op) s =
    front_again bytes 2 13 _ (same_size _ _ s.whole) (omega arith) s.kind_is (rw (numbered_again bytes 2 view op s) refl)
vr_again bytes (message.Commit view commit) s =
    front_again bytes 3 13 _ (same_size _ _ s.whole) (omega arith) s.kind_is (rw (numbered_again bytes 3 view commit s) refl)
vr_again bytes (message.StartViewChange view) s =
    front_again bytes 4 5 _ (same_size _ _ s.whole) (omega arith) s.kind_is (start_view_change_again bytes view s)
vr_again bytes (message.DoViewChange view normal commit log) s =
    front_again bytes 5 17 _ s.front.there (omega arith) s.front.kind_is (do_view_change_again bytes view normal commit log s)
vr_again bytes (message.StartView view first commit log) s =
    front_again bytes 6 21 _ s.front.there (omega arith) s.front.kind_is (rw (log_behind_again bytes 6 view first commit log s) refl)
vr_again bytes (message.Recovery nonce promise) s =
    front_again bytes 7 13 _ (same_size _ _ s.whole) (omega arith) s.kind_is (recovery_again bytes nonce promise s)
vr_again bytes (message.RecoveryResponse view nonce filled) s =
    front_again bytes 8 14 _ s.front.there (omega arith) s.front.kind_is (response_again bytes view nonce filled s)
vr_again bytes (message.GetState view op) s =
    front_again bytes 9 13 _ (same_size _ _ s.whole) (omega arith) s.kind_is (rw (numbered_again bytes 9 view op s) refl)
vr_again bytes (message.NewState view first commit log) s =
    front_again bytes 10 21 _ s.front.there (omega arith) s.front.kind_is (rw (log_behind_again bytes 10 view first commit log s) refl)
vr_again bytes (message.Fetch view op) s =
    front_again bytes 11 13 _ (same_size _ _ s.whole) (omega arith) s.kind_is (rw (numbered_again bytes 11 view op s) refl)
vr_again bytes (message.Supply view first log) s =
    front_again bytes 12 13 _ s.front.there (omega arith) s.front.kind_is (supply_again bytes view first log s)

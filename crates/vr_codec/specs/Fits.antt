-- Each number fits its field, as the types of the code have it. (Which messages are valid stands with their sizes.)
use Rattle.std.specs.Prelude.{All, ◌<◌, ◌^◌, List, Option, None, Some}
use Rattle.of_messages.specs.Fits.{FitsPlain}
use Rattle.of_ravana.specs.Canonical.{happening_message}
use Rattle.vr_log.specs.declared.entry.Entry.{Entry}
use Rattle.vr_log.specs.declared.entry.Entry.TheVariants.{Received, Processed}
use Rattle.vr_log.specs.declared.message.Filled.{Filled}
use Rattle.vr_log.specs.declared.message.VrMessage.{VrMessage}
use Rattle.vr_log.specs.declared.message.VrMessage.TheVariants as message

abbrev pub FitsVrEntry : Entry → Type 0
FitsVrEntry (Received event) =
    (event.switch < 2 ^ 8) × (event.life < 2 ^ 32) × (event.number < 2 ^ 64) × FitsPlain (happening_message event.what)
FitsVrEntry (Processed j) = j < 2 ^ 64

abbrev pub FitsLog : List Entry → Type 0
FitsLog log = All (λ entry. FitsVrEntry entry) log

abbrev pub FitsFilled : Option Filled → Type 0
FitsFilled None = Unit {0}
FitsFilled (Some filled) = (filled.commit < 2 ^ 64) × FitsLog filled.log

abbrev pub FitsVr : VrMessage → Type 0
FitsVr (message.Prepare view op commit entry) = (view < 2 ^ 32) × (op < 2 ^ 64) × (commit < 2 ^ 64) × FitsVrEntry entry
FitsVr (message.PrepareOk view op) = (view < 2 ^ 32) × (op < 2 ^ 64)
FitsVr (message.Commit view commit) = (view < 2 ^ 32) × (commit < 2 ^ 64)
FitsVr (message.StartViewChange view) = view < 2 ^ 32
FitsVr (message.DoViewChange view normal commit log) = (view < 2 ^ 32) × (normal < 2 ^ 32) × (commit < 2 ^ 64) × FitsLog log
FitsVr (message.StartView view first commit log) = (view < 2 ^ 32) × (first < 2 ^ 64) × (commit < 2 ^ 64) × FitsLog log
FitsVr (message.Recovery nonce promise) = (nonce < 2 ^ 64) × (promise < 2 ^ 32)
FitsVr (message.RecoveryResponse view nonce filled) = (view < 2 ^ 32) × (nonce < 2 ^ 64) × FitsFilled filled
FitsVr (message.GetState view op) = (view < 2 ^ 32) × (op < 2 ^ 64)
FitsVr (message.NewState view first commit log) = (view < 2 ^ 32) × (first < 2 ^ 64) × (commit < 2 ^ 64) × FitsLog log
FitsVr (message.Fetch view op) = (view < 2 ^ 32) × (op < 2 ^ 64)
FitsVr (message.Supply view first log) = (view < 2 ^ 32) × (first < 2 ^ 64) × FitsLog log

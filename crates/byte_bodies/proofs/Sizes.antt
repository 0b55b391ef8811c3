-- A message has as many bytes as its size tells.
use Rattle.std.proofs.Common.{◌≡◌, ◌≤◌, ℕ, ◌+◌, ◌-◌, ◌^◌, List, ◌++◌, length, refl, ◌∙◌, subst, arith, lit≤, length-append}
use Rattle.std.specs.Prelude.{min, None, Some}
use Rattle.of_types.specs.declared.message.OfMessage.TheVariants as plain
use Rattle.of_types.specs.declared.message.Spoken.TheVariants as spoken
use Rattle.of_types.specs.Sizes.{plain_size, extension_size}
use Rattle.of_bytes.specs.Numbers.{four}
use Rattle.of_messages.proofs.Written.{message_size as plain_has_size}
use Rattle.of_ravana.specs.Canonical.{canonical_spoken, canonical_extension}
use Rattle.of_ravana.proofs.Written.{extension_has_size}
use Rattle.vr_log.specs.declared.entry.Entry.{Entry}
use Rattle.vr_log.specs.declared.entry.Entry.TheVariants.{Received, Processed}
use Rattle.vr_log.specs.declared.message.VrMessage.{VrMessage}
use Rattle.vr_log.specs.declared.message.VrMessage.TheVariants as vr
use Rattle.vr_log.specs.Log.{log_bytes, log_size}
use Rattle.vr_log.specs.Sizes.{IsValidLog, IsValidVr, vr_size}
use Rattle.vr_codec.proofs.Written.{vr_length}
use Rattle.run_spec.specs.declared.messages.Message.{Message}
use Rattle.run_spec.specs.declared.messages.Message.TheVariants as message
use Rattle.run_spec.specs.Bodies.{message_bytes}
use Rattle.run_spec.specs.Messages.{FitsMessage, IsValidMessage, message_size}

-- a size that is below the greatest number is no other one
below : (n most top : ℕ) → n ≤ most → most ≤ top → n ≡ min top n
below n most top le more = omega (arith, le, more)

log_below : (most : ℕ) → log_bytes ≡ most → (log : List Entry) → IsValidLog log → log_size log ≤ most
log_below most is log valid = subst (λ (n : ℕ). log_size log ≤ n) is valid.small

vr_below : (most : ℕ) → log_bytes ≡ most → (m : VrMessage) → IsValidVr m → vr_size m ≤ 70000 + most
vr_below most is (vr.Prepare view op commit (Received event)) valid = omega (arith, valid.0)
vr_below most is (vr.Prepare view op commit (Processed j)) valid = omega arith
vr_below most is (vr.PrepareOk view op) valid = omega arith
vr_below most is (vr.Commit view commit) valid = omega arith
vr_below most is (vr.StartViewChange view) valid = omega arith
vr_below most is (vr.DoViewChange view normal commit log) valid = omega (arith, log_below most is log valid)
vr_below most is (vr.StartView view first commit log) valid = omega (arith, log_below most is log valid)
vr_below most is (vr.Recovery nonce promise) valid = omega arith
vr_below most is (vr.RecoveryResponse view nonce None) valid = omega arith
vr_below most is (vr.RecoveryResponse view nonce (Some filled)) valid = omega (arith, log_below most is filled.log valid)
vr_below most is (vr.GetState view op) valid = omega arith
vr_below most is (vr.NewState view first commit log) valid = omega (arith, log_below most is log valid)
vr_below most is (vr.Fetch view op) valid = omega arith
vr_below most is (vr.Supply view first log) valid = omega (arith, log_below most is log valid)

frame_size : (port bytes : List ℕ) → length port ≡ 4 → length (port ++ bytes) ≡ 4 + length bytes
frame_size port bytes four_bytes = omega (arith, length-append port bytes, four_bytes)

frame_below : (n : ℕ) → n ≤ 1514 → 4 + n ≤ 65535
frame_below n le = omega (arith, le)

pub bytes_sized : (m : Message) → IsValidMessage m → FitsMessage m → length (message_bytes m) ≡ message_size m
unfolding canonical_spoken four
bytes_sized (message.Of xid (spoken.Ravana said)) valid fits =
    plain_has_size xid (plain.Experimenter (canonical_extension said)) ∙ extension_has_size said ∙ below (extension_size said) 65535 (2 ^ 64 - 1) valid.1 (lit≤ tt)
bytes_sized (message.Of xid (spoken.Plain (plain.Experimenter body))) valid fits = absurd valid
bytes_sized (message.Of xid (spoken.Plain said)) valid fits = plain_has_size xid said ∙ below (plain_size said) 65535 (2 ^ 64 - 1) valid.1 (lit≤ tt)
bytes_sized (message.Vr said) valid fits = vr_length said ∙ below (vr_size said) (70000 + log_bytes) (2 ^ 64 - 1) (vr_below log_bytes refl said valid) (lit≤ tt)
bytes_sized (message.Frame port bytes) valid fits =
    frame_size (four port) bytes refl ∙ below (4 + length bytes) 65535 (2 ^ 64 - 1) (frame_below (length bytes) valid.1) (lit≤ tt)

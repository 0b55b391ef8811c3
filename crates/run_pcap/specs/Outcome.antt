-- How a call ends.
use Rattle.std.specs.Prelude.{◌≡◌, ◌<◌, ℕ, List, ◌++◌, Option, codes}
use Rattle.report.specs.Report.{newline}
use Rattle.report.specs.declared.record.Record.{Record}
use Rattle.command_line.specs.Conversion as call
use Rattle.command_line.specs.declared.conversion.Ending.{Ending}
use Rattle.capture_laws.specs.Packets.{captured}
use Rattle.capture_laws.specs.Interfaces.{pcapng_of}

unfoldable pub pcap_usage_line : List ℕ
pcap_usage_line = codes "fault 2 usage: run_pcap" ++ newline

-- the capture of a record
unfoldable pub pcap_of : Record → List ℕ
pcap_of told = pcapng_of (captured told.journal)

-- The end of a call with so many words, and what was left to be read before and after it. `unread` says that a read failed
abbrev pub EndsCapture : ℕ → Option (List ℕ) → Option (List ℕ) → Type 0 → Ending → Type 0
EndsCapture words left rest unread ending = call.EndsCall (0 < words) (λ told bytes. bytes ≡ pcap_of told) left rest unread ending

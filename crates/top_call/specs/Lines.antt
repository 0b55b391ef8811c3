-- The lines of the answers that are no report.
use Rattle.std.specs.Prelude.{ℕ, List, [], ◌∷◌, ◌++◌, codes}
use Rattle.vr_log.specs.declared.entry.LogFull.{LogFull}
use Rattle.scenario.specs.declared.scenario.Fault.{Fault}
use Rattle.scenario.specs.declared.scenario.FaultKind.{FaultKind}
use Rattle.scenario.specs.declared.scenario.FaultKind.TheVariants.{Size, Json, Shape, Limit}
use Rattle.scenario.specs.declared.scenario.FaultPlace.{FaultPlace}
use Rattle.scenario.specs.declared.scenario.FaultPlace.TheVariants.{Top, Switch, Link, Deny, Step}
use Rattle.report.specs.Report.{line, number_text, newline}

unfoldable pub usage_line : List ℕ
usage_line = codes "fault 2 usage: sim, run, audit or gen NUMBER CONTROLLERS SWITCHES FRAMES" ++ newline

abbrev pub kind_word : FaultKind → List ℕ
kind_word Size = codes "size"
kind_word Json = codes "json"
kind_word Shape = codes "shape"
kind_word Limit = codes "limit"

abbrev pub place_words : FaultPlace → List (List ℕ)
place_words Top = codes "top" ∷ []
place_words (Switch i) = codes "switch" ∷ number_text i ∷ []
place_words (Link i) = codes "link" ∷ number_text i ∷ []
place_words (Deny i) = codes "deny" ∷ number_text i ∷ []
place_words (Step i) = codes "step" ∷ number_text i ∷ []

unfoldable pub fault_line : Fault → List ℕ
fault_line fault = line (codes "fault") (codes "3" ∷ kind_word fault.kind ∷ place_words fault.place)

unfoldable pub no_quorum_line : ℕ → ℕ → List ℕ
no_quorum_line up needed =
    line (codes "fault") (codes "7" ∷ codes "up" ∷ number_text up ∷ codes "needed" ∷ number_text needed ∷ [])

unfoldable pub overfull_line : LogFull → List ℕ
overfull_line limit =
    line (codes "fault") (codes "9" ∷ codes "length" ∷ number_text limit.length ∷ codes "bytes" ∷ number_text limit.bytes ∷ codes "next" ∷ number_text limit.next ∷ [])

unfoldable pub unposted_line : ℕ → ℕ → List ℕ
unposted_line bytes letters =
    line (codes "fault") (codes "10" ∷ codes "bytes" ∷ number_text bytes ∷ codes "letters" ∷ number_text letters ∷ [])

-- of a report in which no line fails
unfoldable pub same_line : List ℕ
same_line = codes "same" ++ newline

-- Ports that are read one after another.
use Rattle.std.proofs.Common.{◌≡◌, ℕ, suc, ◌+◌, ◌-◌, ◌*◌, ◌≤◌, ◌<◌, List, [], ◌∷◌, ◌++◌, length, drop, ◌∙◌, append_assoc, arith}
use Rattle.std.proofs.lemmas.List.{length-drop}
use Rattle.of_bytes.specs.Numbers.{number}
use Rattle.report.specs.Canonical.{output_ports_of}

pub port_more : (count done : ℕ) (ports bytes whole : List ℕ) → done < count → 16 * (count - done) ≤ length bytes → ports ++ output_ports_of (count - done) bytes ≡ whole →
    (16 * (count - (done + 1)) ≤ length (drop 16 bytes)) × ((ports ++ number 4 4 bytes ∷ []) ++ output_ports_of (count - (done + 1)) (drop 16 bytes) ≡ whole)
port_more count done ports bytes whole less long so_far =
    let left : count - done ≡ suc (count - (done + 1)) = omega arith in
    let split = rw left at so_far in
    (omega (arith, length-drop 16 bytes), append_assoc ports (number 4 4 bytes ∷ []) (output_ports_of (count - (done + 1)) (drop 16 bytes)) ∙ split)

use Rattle.std.proofs.Common.{ℕ, List, length, ap, ◌∙◌}
use Rattle.std.proofs.lemmas.List.{length-replicate}
use Rattle.unit_tests.proofs.Line.{line_setup}
use Rattle.unit_tests.proofs.routes.line.Goals as goal

pub returns : goal.returns
returns c =
    let four = c.from_vec.ensures ∙ c.in_ok-ports.ensures in
    record {
      setup = rw c.new.ensures (line_setup c.from_vec.result c.in_ok-links.links four c.in_ok-links.ensures);
      switches = ap (λ (l : List ℕ). length l) four ∙ length-replicate {A = ℕ} 64 4;
    }

use Rattle.scenario.proofs.Text.{text_of_tested}
use Rattle.scenario.proofs.reading.text_of.Goals as goal

pub returns : goal.returns
returns c = rw c.ok.ensures.value (text_of_tested _ (λ text. text.now) c.from_utf8.result c.args.bytes.now c.from_utf8.ensures.cases)

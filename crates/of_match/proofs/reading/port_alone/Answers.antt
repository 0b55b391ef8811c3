use Rattle.std.proofs.Common.{◌∙◌, ap, drop, Some, arith}
use Rattle.std.proofs.lemmas.Bool.Decides.{Decides-eqb}
use Rattle.std.proofs.lemmas.Slice.Eq.{starts_is}
use Rattle.of_match.proofs.Alone.{front, is_alone, is_met}
use Rattle.of_match.proofs.reading.port_alone.Goals as goal
use Rattle.of_match.proofs.reading.port_alone.Goals.{else-bytes-ge-PORT_ALONE-via-then-bytes-ge-PORT_ALONE+else-starts_with, else-bytes-ge-PORT_ALONE-via-else-bytes-ge-PORT_ALONE}

pub returns-then-starts_with-clause-alone : goal.returns-then-starts_with-clause-alone
returns-then-starts_with-clause-alone c =
    let begins = (starts_is Decides-eqb c.args.bytes.now front c.starts_with.result c.starts_with.ensures.value).0 c.if-starts_with.true in
    let read = is_alone c.args.bytes.now (λ i. omega (arith, c.type_inv.bytes i)) c.if-bytes-ge-PORT_ALONE.true begins in
    rw c.u32_at.ensures read

pub returns-then-starts_with-clause-met : goal.returns-then-starts_with-clause-met
returns-then-starts_with-clause-met c = λ port rest fits written.
    ap (λ n. Some n) (c.u32_at.ensures ∙ (is_met c.args.bytes.now rest port fits written).2)

pub returns-else-bytes-ge-PORT_ALONE-clause-met : goal.returns-else-bytes-ge-PORT_ALONE-clause-met
returns-else-bytes-ge-PORT_ALONE-clause-met c = λ port rest fits written.
    let met = is_met c.args.bytes.now rest port fits written in
    elim c.else-bytes-ge-PORT_ALONE.branch [
      | else-bytes-ge-PORT_ALONE-via-then-bytes-ge-PORT_ALONE+else-starts_with w ↦
          let begins = (starts_is Decides-eqb c.args.bytes.now front w.starts_with.result w.starts_with.ensures.value).1 (drop 8 c.args.bytes.now) met.1 in
          let other = w.if-starts_with.false in
          absurd cc
      | else-bytes-ge-PORT_ALONE-via-else-bytes-ge-PORT_ALONE w ↦
          let there = met.0 in
          let short = w.if-bytes-ge-PORT_ALONE.false in
          absurd (omega arith)
    ]

use Rattle.std.proofs.Common.{◌∙◌, ◌-◌, drop, length, length-drop, arith}
use Rattle.std.proofs.lemmas.List.{take_all}
use Rattle.std.proofs.lemmas.Bool.Decides.{Decides-eqb}
use Rattle.std.proofs.lemmas.Slice.Eq.{starts_is}
use Rattle.of_match.proofs.Pair.{front, second_front, is_pair}
use Rattle.of_match.proofs.reading.port_and_destination.Goals as goal

pub returns-then-starts_with-2 : goal.returns-then-starts_with-2
returns-then-starts_with-2 c =
    let bytes = c.args.bytes.now in
    let begins = (starts_is Decides-eqb bytes front c.starts_with.result c.starts_with.ensures.value).0 c.if-starts_with.true in
    let behind = take_all (length bytes - 12) (drop 12 bytes) (omega (arith, length-drop 12 bytes)) in
    let second = c.starts_with-then-starts_with in
    let goes_on = (starts_is Decides-eqb (drop 12 bytes) second_front second.result (rw behind at second.ensures.value)).0 c.if-starts_with-2.true in
    let read = is_pair bytes (λ i. omega (arith, c.type_inv.bytes i)) c.if-bytes-ge-PORT_AND_DESTINATION.true begins goes_on in
    rw (c.any_match-matching.ensures, c.u32_at.ensures, c.u48_at.ensures) read

use Rattle.std.proofs.Common.{◌++◌, length, map, take, sym, subst, ap, ◌∙◌, arith}
use Rattle.std.proofs.Math.Seq.{take-append_seam}
use Rattle.std.proofs.lemmas.List.{length-append}
use Rattle.journal.specs.Mailbags.{letter_of, moved, ShareWithin, IsWithin}
use Rattle.journal.proofs.All.{all_append}
use Rattle.journal.proofs.Packing.{all_more, letters_kept, moved_within, within_more}
use Rattle.journal.proofs.packed.Packed.append.Goals as goal

pub invariant_of-self-in-Ok : goal.invariant_of-self-in-Ok
invariant_of-self-in-Ok c =
    let mine = c.self.inside in
    let its = c.letters.inside in
    let bytes = c.in_ok-append.ensures.ok ∙ ap (λ xs. mine.bytes ++ xs) c.as_slice.ensures in
    let long = ap length bytes ∙ length-append mine.bytes its.bytes in
    let more = its.slips.items in
    let items = c.in-Ok.ensures.ok ∙ ap (λ xs. mine.slips.items ++ map (moved c.len-base.result) xs) c.as_slice-2.ensures.value in
    subst (ShareWithin (length c.append.new.self)) (sym items)
    (all_append (λ s. IsWithin (length c.append.new.self) s.body) mine.slips.items (map (moved c.len-base.result) more)
    (within_more (length mine.bytes) (length c.append.new.self) mine.slips.items (omega (arith, long)) c.self.invariant)
    (moved_within c.len-base.result (length its.bytes) (length c.append.new.self) more (omega (arith, long, c.len-base.ensures)) c.letters.invariant))

pub invariant_of-self-in-Err : goal.invariant_of-self-in-Err
invariant_of-self-in-Err c =
    let mine = c.self.inside in
    let bytes = c.in_ok-append.ensures.ok ∙ ap (λ xs. mine.bytes ++ xs) c.as_slice.ensures in
    let long = ap length bytes ∙ length-append mine.bytes c.letters.inside.bytes in
    let items = c.truncate.ensures.items ∙ ap (λ n. take n c.add_slips.new.slips.items) c.len-count.ensures ∙ c.add_slips.ensures.front in
    subst (ShareWithin (length c.append.new.self)) (sym items)
    (within_more (length mine.bytes) (length c.append.new.self) mine.slips.items (omega (arith, long)) c.self.invariant)

pub returns-in-Ok-clause-ok : goal.returns-in-Ok-clause-ok
returns-in-Ok-clause-ok c =
    let mine = c.self.inside in
    let its = c.letters.inside in
    let bytes = c.in_ok-append.ensures.ok ∙ ap (λ xs. mine.bytes ++ xs) c.as_slice.ensures in
    let more = its.slips.items in
    let items =
    c.in-Ok.ensures.ok
    ∙ ap (λ xs. mine.slips.items ++ map (moved c.len-base.result) xs) c.as_slice-2.ensures.value
    ∙ ap (λ base. mine.slips.items ++ map (moved base) more) c.len-base.ensures in
    ap (λ xs. map (letter_of xs) c.add_slips.new.slips.items) bytes
    ∙ ap (map (letter_of (mine.bytes ++ its.bytes))) items
    ∙ all_more mine.bytes its.bytes mine.slips.items more c.self.invariant
    ∙ ap (λ ls. ls ++ map (letter_of its.bytes) more) c.self.view_is
    ∙ ap (λ ls. c.args.self.now ++ ls) c.letters.view_is

pub returns-in-Err-clause-err : goal.returns-in-Err-clause-err
returns-in-Err-clause-err c =
    let mine = c.self.inside in
    let its = c.letters.inside in
    let bytes = c.in_ok-append.ensures.ok ∙ ap (λ xs. mine.bytes ++ xs) c.as_slice.ensures in
    let items = c.truncate.ensures.items ∙ ap (λ n. take n c.add_slips.new.slips.items) c.len-count.ensures ∙ c.add_slips.ensures.front in
    ap (λ xs. map (letter_of xs) c.truncate.new.self.items) bytes
    ∙ ap (map (letter_of (mine.bytes ++ its.bytes))) items
    ∙ letters_kept mine.bytes (mine.bytes ++ its.bytes) mine.slips.items (take-append_seam mine.bytes its.bytes) c.self.invariant
    ∙ c.self.view_is

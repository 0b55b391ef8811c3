use Rattle.std.proofs.Common.{rules, ◌≡◌, [], ◌∷◌, ◌++◌, ap, ◌∙◌}
use Rattle.std.proofs.lemmas.List.{append-nil}
use Rattle.report.specs.Parts.{parts_text}
use Rattle.report.proofs.Pieces.{part_kept}
use Rattle.report.proofs.sheet.Sheet.keep.Goals as goal

pub returns : goal.returns
returns c =
    let parts = c.self.inside.parts in
    let told : c.args.self.now ≡ parts_text parts ++ c.replace-words.result = search rules in
    let none : c.replace-words.new.dest ++ c.move_on.new.waiting ≡ [] = search rules in
    let more = c.in_ok-push.ensures in
    ap (λ l. parts_text c.push.new.self ++ l) none ∙ append-nil (parts_text c.push.new.self) ∙ part_kept parts c.push.new.self _ c.args.self.now more told

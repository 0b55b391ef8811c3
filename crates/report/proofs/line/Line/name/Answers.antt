use Rattle.std.proofs.Common.{rules, ◌≡◌, ◌++◌, ◌∷◌, [], ◌+◌, sym, ap, ◌∙◌}
use Rattle.std.proofs.lemmas.Fmt.{decimal_digit}
use Rattle.report.proofs.line.Line.name.Goals as goal

pub returns-then-n-lt10-clause-bytes : goal.returns-then-n-lt10-clause-bytes
returns-then-n-lt10-clause-bytes c =
    let before : c.self.inside.bytes ≡ c.args.self.now = search rules in
    let digit = sym (decimal_digit c.args.n c.if-n-lt10.true) in
    c.put.ensures.bytes ∙ ap (λ l. l ++ 32 ∷ c.args.letter ∷ (48 + c.args.n) ∷ []) before ∙ ap (λ text. c.args.self.now ++ 32 ∷ c.args.letter ∷ text) digit

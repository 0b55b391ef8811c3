use Rattle.std.proofs.Common.{◌<◌, ◌++◌, [], ◌∷◌, nat_eq, length, get_or, ap, ◌∙◌, arith}
use Rattle.std.specs.Prelude.{if◌then◌else◌}
use Rattle.std.proofs.lemmas.List.{length-map}
use Rattle.journal.proofs.Results.{on_err, on_ok}
use Rattle.journal.proofs.Rows.{row_changed, row_same}
use Rattle.journal.proofs.queues.Row.push.Goals as goal

pub returns-clause-err : goal.returns-clause-err
returns-clause-err c =
    let within : c.args.number < length c.self.inside.queues.items = omega (arith, c.self.inside.queues.ok.0, c.in_ok-reach.ensures.ok, ap length c.self.view_is, length-map c.self.inside.queues.items (λ q. q.items)) in
    on_err c.push.result _ _ (λ same n.
    row_same (λ q. q.items) c.self.inside.queues.items c.args.number c.index_mut.result.now c.push.new.queue within c.index_mut.ensures.value same n
    ∙ ap (λ row. get_or row n []) c.self.view_is
    ∙ c.reach.ensures.same n) c.push.ensures.err

pub returns-clause-ok : goal.returns-clause-ok
returns-clause-ok c =
    let within : c.args.number < length c.self.inside.queues.items = omega (arith, c.self.inside.queues.ok.0, c.in_ok-reach.ensures.ok, ap length c.self.view_is, length-map c.self.inside.queues.items (λ q. q.items)) in
    on_ok c.push.result _ _ (λ more n.
    row_changed (λ q. q.items) (λ q. q ++ c.args.place ∷ []) c.self.inside.queues.items c.args.number c.index_mut.result.now c.push.new.queue within c.index_mut.ensures.value more n
    ∙ ap (λ row. if nat_eq n c.args.number then get_or row n [] ++ c.args.place ∷ [] else get_or row n []) c.self.view_is
    ∙ ap (λ q. if nat_eq n c.args.number then q ++ c.args.place ∷ [] else q) (c.reach.ensures.same n)) c.push.ensures.ok

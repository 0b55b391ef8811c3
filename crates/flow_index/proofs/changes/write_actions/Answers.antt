use Rattle.std.proofs.Common.{◌≡◌, refl, rules}
use Rattle.flow_index.proofs.Written.{written_pairs}
use Rattle.flow_index.proofs.changes.write_actions.Goals as goal

pub returns : goal.returns
returns c = written_pairs _ (λ f. f.0.now ≡ c.args.change.now) (λ f. f.1.now.items) c.args.change.now (λ f k v b w f' i t. search rules) _ _ _ refl c.retain.ensures.filtered c.requires

use Rattle.std.proofs.Common.{sym, append-nil}
use Rattle.std.proofs.lemmas.Option.{slice_get_past}
use Rattle.firewall_app.proofs.denying.drop_at.Goals as goal

pub returns-in-None : goal.returns-in-None
returns-in-None c = rw (slice_get_past c.args.rules.now c.args.place c.in-None.ensures.lookup.3) (sym (append-nil c.args.out.now))

use Rattle.std.proofs.Common.{sym, ap, ◌∙◌, position}
use Rattle.of_types.specs.Header.{fields_of}
use Rattle.app_core.specs.Firewall.{denies, first_hit}
use Rattle.firewall_app.proofs.denying.first_hit.Goals as goal

pub returns-in-PacketIn : goal.returns-in-PacketIn
returns-in-PacketIn c =
    c.first_denying.ensures
    ∙ (ap (λ frame. position (denies (fields_of frame)) c.args.rules.now) c.as_slice.ensures ∙ sym (ap (λ what. first_hit c.args.rules.now what) c.in-PacketIn.is))

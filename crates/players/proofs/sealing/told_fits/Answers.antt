use Rattle.vr_log.specs.Letters.{receivers_of}
use Rattle.players.proofs.Mails.{all_told}
use Rattle.players.proofs.sealing.told_fits.Goals as goal

pub returns : goal.returns
returns c = all_told c.args.mail.now.message (receivers_of c.args.mail.now.to) c.vr_fits.ensures

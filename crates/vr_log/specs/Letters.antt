-- Mails as the letters that they are.
use Rattle.std.specs.Prelude.{ℕ, List, [], ◌∷◌, map, flat_map}
use Rattle.vr_log.specs.Members.{others_below}
use Rattle.vr_log.specs.declared.letters.Kept.{Kept}
use Rattle.vr_log.specs.declared.letters.Kept.TheVariants as kept
use Rattle.vr_log.specs.declared.letters.Mail.{Mail}
use Rattle.vr_log.specs.declared.letters.Receivers.{Receivers}
use Rattle.vr_log.specs.declared.letters.Receivers.TheVariants as receivers
use Rattle.vr_log.specs.declared.message.VrLetter.{VrLetter}

-- the members to whom something goes, ascending
abbrev pub receivers_of : Receivers → List ℕ
receivers_of (receivers.One to) = to ∷ []
receivers_of (receivers.Others me controllers) = others_below me controllers

-- a letter to each receiver of a mail
abbrev pub mail_letters : Mail → List VrLetter
mail_letters mail = map (λ to. record { to = to; message = mail.message }) (receivers_of mail.to)

-- those of each, in order
abbrev pub letters_in : List Mail → List VrLetter
letters_in mails = flat_map mail_letters mails

-- the mails that are kept in place or in memory, in order
abbrev pub mails_kept : Kept → List Mail
mails_kept kept.Nothing = []
mails_kept (kept.One mail) = mail ∷ []
mails_kept (kept.Many mails) = mails.items

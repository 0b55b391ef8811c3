-- What a controller posts, as the letters that it is.
use Rattle.std.specs.Prelude.{List, [], ◌∷◌, flat_map}
use Rattle.journal.specs.declared.journal.Letter.{Letter}
use Rattle.group_controller.specs.State.{to_members, to_switch}
use Rattle.group_controller.specs.declared.mails.Mail.{Mail}
use Rattle.group_controller.specs.declared.mails.Mail.TheVariants as mail
use Rattle.group_controller.specs.declared.messages.ControllerSays.{ControllerSays}

-- a letter to a switch, or those to other members
abbrev pub letters_mailed : Mail → List (Letter ControllerSays)
letters_mailed (mail.Switch switch xid message) = to_switch switch xid message ∷ []
letters_mailed (mail.Members letters) = to_members letters

-- those of each, in order
abbrev pub mailed : List Mail → List (Letter ControllerSays)
mailed mails = flat_map letters_mailed mails

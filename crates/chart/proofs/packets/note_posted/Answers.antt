use Rattle.std.proofs.Common.{◌∙◌, ◌-◌, length, refl}
use Rattle.journal.proofs.Lists.{numbered-take}
use Rattle.chart.proofs.packets.note_posted.Goals as goal

pub returns-in_ok-note_letters-in-Post : goal.returns-in_ok-note_letters-in-Post
returns-in_ok-note_letters-in-Post c =
    λ id. c.in_ok-note_letters-in-Post.ensures id
    ∙ rw (c.in-Post.is, c.as_slice.ensures, c.saturating_sub-fitting.ensures, c.len.ensures, numbered-take (length c.in-Post.letters - c.in-Post.lost) c.in-Post.first c.in-Post.actor c.in-Post.letters) refl

-- What an actor hears at an entry of its own is its input there; else it rests.
use Rattle.std.proofs.Common.{◌≡◌, refl}
use Rattle.std.specs.Prelude.{Option, Some, None}
use Rattle.journal.specs.declared.journal.JournalEntry.{JournalEntry}
use Rattle.journal.specs.declared.journal.JournalEntry.TheVariants.{Post, Draw, Lose, Local, Idle, Refused}
use Rattle.journal.specs.declared.journal.Packet.{Packet}
use Rattle.run_spec.specs.Inputs.{IsInput, By_draw, By_local}
use Rattle.run_spec.specs.Legal.{EntryFits}
use Rattle.run_spec.specs.States.{Sealing, Speech}
use Rattle.world.proofs.Standing.{IsIdle}
use Rattle.running.specs.Hearing.{Hears}

module _ {B I A : Type 0} (speech : Speech I A) (sealing : Sealing B) where
  one_input : (x y : I) → Some x ≡ Some y → x ≡ y
  one_input x y h = cc

  pub heard : (e : JournalEntry B) (found : Option (Packet B)) (x : I) → Hears sealing speech.hears speech.locally e found (Some x) → IsInput speech sealing e found x × EntryFits e
  heard (Draw a id keep) found x hears = (By_draw a id keep hears.0 refl hears.1 (one_input _ _ hears.2), tt)
  heard (Local a input) found x hears = (By_local a input refl (one_input _ _ hears.1), hears.0)
  heard (Lose a id) found x hears = absurd (let e = hears in cc)
  heard (Idle a) found x hears = absurd (let e = hears in cc)
  heard (Post a first letters lost) found x hears = absurd hears
  heard (Refused a) found x hears = absurd hears

  pub unheard : (e : JournalEntry B) (found : Option (Packet B)) → Hears sealing speech.hears speech.locally e found None → IsIdle e
  unheard (Draw a id keep) found hears = absurd (let e = hears.2 in cc)
  unheard (Local a input) found hears = absurd (let e = hears.1 in cc)
  unheard (Lose a id) found hears = tt
  unheard (Idle a) found hears = tt
  unheard (Post a first letters lost) found hears = absurd hears
  unheard (Refused a) found hears = absurd hears

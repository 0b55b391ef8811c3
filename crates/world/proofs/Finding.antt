-- Each draw of a part of an orderly journal finds its packet.
use Rattle.std.proofs.Common.{◌≡◌, Bool, true, false, List, [], ◌∷◌, refl, sym, subst}
use Rattle.std.specs.Prelude.{Option}
use Rattle.journal.specs.declared.journal.Actor.{Actor}
use Rattle.journal.specs.declared.journal.JournalEntry.{JournalEntry}
use Rattle.journal.specs.declared.journal.JournalEntry.TheVariants.{Post, Draw, Lose, Local, Idle, Refused}
use Rattle.journal.specs.declared.journal.Packet.{Packet}
use Rattle.journal.specs.declared.journal.SaveResult.{SaveResult}
use Rattle.journal.specs.Actors.{same_actor, actor_of}
use Rattle.journal.specs.Orderly.{IsOrderly}
use Rattle.journal.specs.Part.{part, drawn}
use Rattle.run_spec.specs.States.{Scene}
use Rattle.run_spec.proofs.Pools.{orderly_before, drawn_found}
use Rattle.run_spec.specs.Legal.{EachFinds}

module _ {B : Type 0} (scene : Scene B) (results more : List SaveResult) where
  one_finds : (e : JournalEntry B) (before : List (JournalEntry B)) (ps : List (JournalEntry B × Option (Packet B))) →
      IsOrderly scene.sealing.size (e ∷ before) → EachFinds ps → EachFinds ((e, drawn e before) ∷ ps)
  one_finds (Draw a id keep) before ps orderly rest =
      let r = drawn_found scene.sealing.size a id keep before orderly in
      subst (λ (o : Option (Packet B)). EachFinds ((Draw a id keep, o) ∷ ps)) (sym r.found) rest
  one_finds (Post a first letters lost) before ps orderly rest = rest
  one_finds (Lose a id) before ps orderly rest = rest
  one_finds (Local a input) before ps orderly rest = rest
  one_finds (Idle a) before ps orderly rest = rest
  one_finds (Refused a) before ps orderly rest = rest

  pub each_finds : (a : Actor) (entries : List (JournalEntry B)) → IsOrderly scene.sealing.size entries → EachFinds (part a entries)
  each_finds a [] orderly = tt
  each_finds a (e ∷ before) orderly =
      by_actor (same_actor (actor_of e) a) refl (each_finds a before (orderly_before scene.sealing.size e before orderly))
    where
      by_actor : (b : Bool) → same_actor (actor_of e) a ≡ b → EachFinds (part a before) → EachFinds (part a (e ∷ before))
      by_actor true h rest = rw h (one_finds e before (part a before) orderly rest)
      by_actor false h rest = rw h rest

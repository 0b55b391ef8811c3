use Rattle.std.proofs.Common.{[], ◌∷◌, inl, inr, refl}
use Rattle.std.specs.Prelude.{None}
use Rattle.journal.specs.declared.journal.JournalEntry.TheVariants.{Refused}
use Rattle.run_spec.specs.States.{controller_message, sealed_letters}
use Rattle.running.proofs.Playing.{on_ok_then, on_err_then, served_takes, served_wants}
use Rattle.running.proofs.seated.ServedSeated.take.Goals as goal

pub returns-clause-takes : goal.returns-clause-takes
returns-clause-takes g c = λ setup kinds a start own e found hears h.
    on_ok_then c.sealed_turn.result _ _ (λ said.
    served_takes g.A.App.law g.W.Stable.saving g.B.Body.sealing setup kinds a start own e found c.args.input c.args.self.now
    (record { controller = c.sealed_turn.new.player; stable = c.sealed_turn.new.beside }) said.0 c.sealed_turn.new.bag hears h said.1 (record { sealed = said.2; typed = said.3 })) c.sealed_turn.ensures.turned

pub returns-clause-wants : goal.returns-clause-wants
returns-clause-wants g c = λ setup kinds a start own e found hears h.
    on_err_then c.sealed_turn.result _ _ (λ which. elim which [
      | inl wanted ↦ (
        (Refused a, None) ∷ (e, found) ∷ own,
        [],
        served_wants g.A.App.law g.W.Stable.saving g.B.Body.sealing setup kinds a start own e found c.args.input c.args.self.now
            (record { controller = c.sealed_turn.new.player; stable = c.sealed_turn.new.beside }) hears h wanted,
      )
      | inr said ↦ (
        (e, found) ∷ own,
        sealed_letters controller_message g.B.Body.sealing said.0,
        served_takes g.A.App.law g.W.Stable.saving g.B.Body.sealing setup kinds a start own e found c.args.input c.args.self.now
            (record { controller = c.sealed_turn.new.player; stable = c.sealed_turn.new.beside }) said.0 _ hears h said.1 (record { sealed = refl; typed = said.2 }),
      )
    ]) c.sealed_turn.ensures.wanted

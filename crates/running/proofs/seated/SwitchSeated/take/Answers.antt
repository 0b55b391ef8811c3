use Rattle.std.proofs.Common.{[], ◌∷◌, inl, inr, refl, sym, subst}
use Rattle.run_spec.specs.States.{sealed_letters, switch_message}
use Rattle.running.specs.Playing.{SwitchPlays, scene_of}
use Rattle.running.proofs.Playing.{on_ok_then, on_err_then}
use Rattle.running.proofs.Switching.{switch_takes}
use Rattle.running.proofs.seated.SwitchSeated.take.Goals as goal

pub returns-clause-takes : goal.returns-clause-takes
returns-clause-takes g c = λ setup kinds a start own e found hears h.
    on_ok_then c.sealed_turn.result _ _ (λ said. record {
      number = h.number;
      is = h.is;
      stands = switch_takes (scene_of g.B.Body.sealing setup kinds) h.number own c.args.self.now e found c.args.input c.sealed_turn.new.player said.0 c.sealed_turn.new.bag
          hears h.stands said.1.state said.1.says (record { sealed = said.2; typed = said.3 });
    }) c.sealed_turn.ensures.turned

pub returns-clause-wants : goal.returns-clause-wants
returns-clause-wants g c = λ setup kinds a start own e found hears h.
    on_err_then c.sealed_turn.result _ _ (λ which. elim which [
      | inl same ↦ (own, [], subst (λ state. SwitchPlays g.B.Body.sealing setup kinds a start own state []) (sym same) h)
      | inr said ↦ (
        (e, found) ∷ own,
        sealed_letters switch_message g.B.Body.sealing said.0,
        record {
          number = h.number;
          is = h.is;
          stands = switch_takes (scene_of g.B.Body.sealing setup kinds) h.number own c.args.self.now e found c.args.input c.sealed_turn.new.player said.0 (sealed_letters switch_message g.B.Body.sealing said.0)
              hears h.stands said.1.state said.1.says (record { sealed = refl; typed = said.2 });
        },
      )
    ]) c.sealed_turn.ensures.wanted

-- What a turn of the primary leaves: the switches are served, and Settle has nothing left to do.
use Rattle.std.proofs.Common.{◌≡◌, ◌≤◌, ◌<◌, ◌⊎◌, ℕ, ◌+◌, true, false, List, [], ◌++◌, length, take, sym, ◌∙◌, ap, subst, arith}
use Rattle.std.specs.Prelude.{None}
use Rattle.of_types.specs.declared.setup.Setup.{Setup}
use Rattle.journal.specs.declared.journal.Letter.{Letter}
use Rattle.vr_log.specs.declared.entry.Entry.{Entry}
use Rattle.vr_log.specs.declared.state.VrState.{VrState}
use Rattle.vr_log.specs.Log.{is_log, processed, received}
use Rattle.vr_log.specs.Members.{most_failures}
use Rattle.two_stage_log.specs.Counts.{has_unprocessed}
use Rattle.dispatcher.specs.Marks.{Marks}
use Rattle.of_switch.specs.State.{SwitchState}
use Rattle.group_controller.specs.declared.messages.ControllerSays.{ControllerSays}
use Rattle.group_controller.specs.State.{ControllerState, Work, committed}
use Rattle.group_controller.specs.Settling.{after_finishing, is_untold, settling, with_answers, with_commands}
use Rattle.run_spec.specs.declared.messages.Message.{Message}
use Rattle.closing_laws.specs.Following.{ArePrepares}
use Rattle.closing_laws.specs.Serving.{AreFew, Extends, IsAttended, IsSettled, IsToldLast, IsTrueOf, IsTruePrimary}
use Rattle.closing_laws.proofs.Primary.Committing.{CommitsMore}
use Rattle.closing_laws.proofs.Primary.Extending.{AreToOthers, extends_none, tells_member}
use Rattle.closing_laws.proofs.Primary.Finishing.{AreBoundedTo, Finished, finished, finishing_grows, grows_committed}
use Rattle.closing_laws.proofs.Primary.Proposing.{Progress, Standing, commands_vr, progress_then}
use Rattle.closing_laws.proofs.Primary.Settled.{AreBounded, AreServed, Told, bounded_by, settled_step}
use Rattle.closing_laws.proofs.Primary.Telling.{told}

-- what stands at a primary in a turn
pub record IsSound (c : ControllerState) : Type 0 where
  pub one : is_log c.vr.log ≡ true
  pub commit : c.vr.commit ≤ length c.vr.log
  pub ahead : processed c.vr.log ≤ processed (committed c) + 1
  pub unfinished : processed (committed c) < processed c.vr.log → has_unprocessed (committed c) ≡ true
  pub whole : most_failures c.vr ≡ 0 → c.vr.commit ≡ length c.vr.log
  pub me : c.vr.me < c.vr.controllers

pub sound_of : (c : ControllerState) → IsTruePrimary c → (most_failures c.vr ≡ 0 → c.vr.commit ≡ length c.vr.log) → IsSound c
sound_of c p whole = record { one = p.one; commit = p.commit; ahead = p.ahead; unfinished = p.unfinished; whole = whole; me = p.me }

pub stands : (c : ControllerState) → IsSound c → is_untold c ≡ false → IsToldLast c → Standing c
stands c s told_all last =
    record { one = s.one; commit = s.commit; ahead = s.ahead; unfinished = s.unfinished; whole = s.whole; me = s.me; told_all = told_all; last = last }

module _ (kinds : List ℕ) (setup : Setup) (sw : ℕ → SwitchState) (in_ : ℕ → List Message) where
  -- the end of a turn bounds what comes before it
  pub bounded_to : (c : ControllerState) → IsTruePrimary c → ((t : ℕ) → t < length setup.ports → IsTrueOf kinds setup c t (sw t)) → AreBoundedTo kinds setup sw in_ (committed c)
  bounded_to c p true_of front h t less = bounded_by kinds setup c t (sw t) front (true_of t less) p.one h

  -- what was told is progress
  pub told_progress : (out : ℕ → List Message) (old new : Work) → IsSound old.state → Told kinds setup sw in_ out old new → Progress kinds setup sw in_ out old new
  told_progress out old new s r = record {
    letters = r.tells.letters;
    joined = r.tells.joined;
    save = r.tells.save;
    more = [];
    extends = extends_none old.state new.state r.tells.letters r.tells.vr r.tells.to_switches;
    to_others_only = λ b h. r.tells.to_switches b;
    marks = r.tells.marks;
    full = r.tells.full;
    standing = stands new.state (record {
      one = ap (λ (v : VrState). is_log v.log) r.tells.vr ∙ s.one;
      commit = subst (λ (v : VrState). v.commit ≤ length v.log) (sym r.tells.vr) s.commit;
      ahead = subst (λ (v : VrState). processed v.log ≤ processed (take v.commit v.log) + 1) (sym r.tells.vr) s.ahead;
      unfinished = subst (λ (v : VrState). processed (take v.commit v.log) < processed v.log → has_unprocessed (take v.commit v.log) ≡ true) (sym r.tells.vr) s.unfinished;
      whole = subst (λ (v : VrState). most_failures v ≡ 0 → v.commit ≡ length v.log) (sym r.tells.vr) s.whole;
      me = subst (λ (v : VrState). v.me < v.controllers) (sym r.tells.vr) s.me;
    }) r.told_all r.last;
    served = r.served;
  }

  module _ (few : AreFew kinds setup) where
    pub after_finished : (work : Work) (out : ℕ → List Message) → Standing work.state → AreServed kinds setup sw in_ work.state out →
        AreBoundedTo kinds setup sw in_ (committed (after_finishing kinds setup work).state) → (after_finishing kinds setup work).state.full ≡ None → Finished kinds setup sw in_ out work (after_finishing kinds setup work)
    after_finished work out s served bounds full = finished kinds setup sw in_ few (length (received work.state.vr.log)) work out s served bounds full (omega arith)

    -- what bounds the end bounds what was committed before it
    pub ends_above : (work : Work) → work.state.vr.commit ≤ length work.state.vr.log → AreBoundedTo kinds setup sw in_ (committed (after_finishing kinds setup work).state) → AreBounded kinds setup sw in_ (committed work.state)
    ends_above work within bounds =
        bounds (committed work.state) (grows_committed work.state (after_finishing kinds setup work).state (finishing_grows kinds setup (length (received work.state.vr.log)) work within))

    pub behind : (old mid : Work) (out : ℕ → List Message) → Progress kinds setup sw in_ out old mid → AreBoundedTo kinds setup sw in_ (committed (after_finishing kinds setup mid).state) →
        (after_finishing kinds setup mid).state.full ≡ None → Finished kinds setup sw in_ out old (after_finishing kinds setup mid)
    behind old mid out p bounds full =
        let rest = after_finished mid (λ t. out t ++ told t p.letters) p.standing p.served bounds full in
        record { progress = progress_then kinds setup sw in_ out old mid (after_finishing kinds setup mid) p rest.progress; settled = rest.settled }

    -- more is committed, and Settle is done behind it
    pub settling_finished : (c : ControllerState) (work : Work) (m : CommitsMore c work.state) (before : ℕ) (out : ℕ → List Message) → before ≡ length (committed c) → is_untold c ≡ false → IsToldLast c →
        IsSound work.state → AreServed kinds setup sw in_ c out → AreBoundedTo kinds setup sw in_ (committed (settling kinds setup before work).state) → (settling kinds setup before work).state.full ≡ None →
        Finished kinds setup sw in_ out work (settling kinds setup before work)
    unfolding settling
    settling_finished c work m before out is untold last sound served bounds full =
        let mid = with_commands kinds setup (with_answers kinds setup before work) in
        let kept = commands_vr kinds setup (with_answers kinds setup before work) in
        let all = ends_above mid (subst (λ (v : VrState). v.commit ≤ length v.log) (sym kept) sound.commit) bounds in
        behind work mid out (told_progress out work mid sound (settled_step kinds setup sw in_ few c work m before out is untold last served (subst (λ (v : VrState). AreBounded kinds setup sw in_ (take v.commit v.log)) kept all))) bounds full

  -- what a turn leaves, and the marks at its end
  pub record HasTurned (c : ControllerState) (out : ℕ → List Message) (marks : Marks) (work : Work) : Type 0 where
    pub save : work.save ≡ None
    pub more : List Entry
    pub extends : Extends c more work.state work.letters
    pub to_others_only : AreToOthers c.vr work.letters
    pub marks_are : work.state.marks ≡ marks
    pub settled : IsSettled kinds setup work.state
    pub standing : Standing work.state
    pub served : AreServed kinds setup sw in_ work.state (λ t. out t ++ told t work.letters)

  pub turned : (c : ControllerState) (out : ℕ → List Message) (start work : Work) → start.letters ≡ [] → start.save ≡ None → start.state.vr ≡ c.vr → Finished kinds setup sw in_ out start work → HasTurned c out start.state.marks work
  turned c out start work none saved same f = record {
    save = f.progress.save ∙ saved;
    more = f.progress.more;
    extends = record {
      state_is = e.state_is ∙ ap (λ (v : VrState). record v { log = v.log ++ f.progress.more; commit = work.state.vr.commit }) same;
      alone = λ h. e.alone (ap most_failures same ∙ h) ∙ ap (λ (v : VrState). v.commit + length f.progress.more) same;
      several = λ h. e.several (subst (λ (v : VrState). 0 < most_failures v) (sym same) h) ∙ ap (λ (v : VrState). v.commit) same;
      members = λ b less other.
          subst (λ (z : List (Letter ControllerSays)). ArePrepares c.vr.view work.state.vr.commit (length c.vr.log) f.progress.more (tells_member b z)) letters
          (subst (λ (v : VrState). ArePrepares v.view work.state.vr.commit (length v.log) f.progress.more (tells_member b f.progress.letters)) same
          (e.members b (subst (λ (v : VrState). b < v.controllers) (sym same) less) (λ x. other (x ∙ ap (λ (v : VrState). v.me) same))));
    };
    to_others_only = λ b h. ap (tells_member b) (sym letters) ∙ f.progress.to_others_only b (subst (λ (v : VrState). (b ≡ v.me) ⊎ (v.controllers ≤ b)) (sym same) h);
    marks_are = f.progress.marks;
    settled = record { told = f.progress.standing.told_all; proposed = f.settled; last = f.progress.standing.last };
    standing = f.progress.standing;
    served = λ t less. subst (λ (z : List (Letter ControllerSays)). IsAttended kinds setup work.state t (sw t) (out t ++ told t z) (in_ t)) letters (f.progress.served t less);
  }
    where
      e : Extends start.state f.progress.more work.state f.progress.letters
      e = f.progress.extends

      letters : f.progress.letters ≡ work.letters
      letters = sym (f.progress.joined ∙ ap (λ (z : List (Letter ControllerSays)). z ++ f.progress.letters) none)

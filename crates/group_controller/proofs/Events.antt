-- Events, and steps of the member.
use Rattle.std.proofs.Common.{◌≡◌, ℕ, Bool, true, false, ◌&&◌, List, [], ◌∷◌, refl, sym, ap, ◌∙◌}
use Rattle.std.specs.Prelude.{nat_lt, if◌then◌else◌}
use Rattle.of_types.specs.declared.setup.Setup.{Setup}
use Rattle.vr_log.specs.Members.{leads}
use Rattle.vr_log.specs.Steps.{VrStep}
use Rattle.vr_log.specs.declared.entry.Entry.TheVariants.{Received}
use Rattle.dispatcher.specs.Folding.{wish}
use Rattle.of_types.specs.declared.message.Event.{Event}
use Rattle.app_core.specs.Law.{AppLaw}
use Rattle.dispatcher.specs.declared.answers.EventAction.{EventAction}
use Rattle.dispatcher.specs.declared.answers.EventAction.TheVariants.{Propose, Acknowledge, Nothing}
use Rattle.group_controller.specs.Acting.{Acting, Acts, BeginsTurn, posts_letters, Works}
use Rattle.group_controller.specs.Rules.{after_step, has_started, on_event, on_wish, starting_view}
use Rattle.group_controller.specs.Settling.{after_finishing, settling, ack_letter, after_proposal, goes_on}
use Rattle.group_controller.specs.State.{Work, committed, posting_work, resting, stepped}
use Rattle.group_controller.proofs.Acting.{does_as, posts_does, stays, then_does}

module _ {A : Type 0} (law : AppLaw A) (kinds : List ℕ) (setup : Setup) where
  abbrev IsActing : Acting A → Type 0
  IsActing a = Acts law a kinds setup

  abbrev Does : Acting A → Work → Acting A → Type 0
  Does a work b = Works law kinds setup a work b

  -- an event
  event_rule : (a : Acting A) (event : Event) (w : EventAction) → wish a.work.state.vr.log (committed a.work.state) event ≡ w → on_event kinds setup a.work.state event ≡ on_wish kinds setup a.work.state event w
  event_rule a event w is = ap (λ (x : EventAction). on_wish kinds setup a.work.state event x) is

  pub event_more : (a b n : Acting A) (event : Event) → BeginsTurn law a kinds setup → wish a.work.state.vr.log (committed a.work.state) event ≡ Propose → goes_on a.work.state (Received event) ≡ true →
      Does a (after_proposal kinds setup a.work (Received event)) b → Does b (after_finishing kinds setup b.work) n → Does a (on_event kinds setup a.work.state event) n
  event_more a b n event h is again first rest =
      let c = a.work.state in
      let next = after_proposal kinds setup (resting c) (Received event) in
      let left = first.work_is ∙ ap (λ (w : Work). after_proposal kinds setup w (Received event)) h.rests in
      does_as law kinds setup a n (after_finishing kinds setup b.work) (on_event kinds setup c event)
      (ap (λ (w : Work). after_finishing kinds setup w) left ∙ sym (event_rule a event Propose is ∙ ap (λ (b : Bool). if b then after_finishing kinds setup next else next) again))
      (then_does law kinds setup a b n (after_proposal kinds setup a.work (Received event)) (after_finishing kinds setup b.work) first rest)

  pub event_last : (a b : Acting A) (event : Event) → BeginsTurn law a kinds setup → wish a.work.state.vr.log (committed a.work.state) event ≡ Propose → goes_on a.work.state (Received event) ≡ false →
      Does a (after_proposal kinds setup a.work (Received event)) b → Does a (on_event kinds setup a.work.state event) b
  event_last a b event h is again first =
      let c = a.work.state in
      let next = after_proposal kinds setup (resting c) (Received event) in
      does_as law kinds setup a b (after_proposal kinds setup a.work (Received event)) (on_event kinds setup c event)
      (ap (λ (w : Work). after_proposal kinds setup w (Received event)) h.rests ∙ sym (event_rule a event Propose is ∙ ap (λ (b : Bool). if b then after_finishing kinds setup next else next) again)) first

  pub event_acknowledged : (a b : Acting A) (event : Event) (through : ℕ) → BeginsTurn law a kinds setup → wish a.work.state.vr.log (committed a.work.state) event ≡ Acknowledge through →
      b ≡ posts_letters a (ack_letter (record { switch = event.switch; life = event.life; through = through }) ∷ []) → Does a (on_event kinds setup a.work.state event) b
  event_acknowledged a b event through h is sent =
      let letters = ack_letter (record { switch = event.switch; life = event.life; through = through }) ∷ [] in
      does_as law kinds setup a b (posting_work a.work letters) (on_event kinds setup a.work.state event) (ap (λ (w : Work). posting_work w letters) h.rests ∙ sym (event_rule a event (Acknowledge through) is)) (posts_does law kinds setup a b letters h.acts sent)

  pub event_nothing : (a : Acting A) (event : Event) → BeginsTurn law a kinds setup → wish a.work.state.vr.log (committed a.work.state) event ≡ Nothing → Does a (on_event kinds setup a.work.state event) a
  event_nothing a event h is = does_as law kinds setup a a a.work (on_event kinds setup a.work.state event) (h.rests ∙ sym (event_rule a event Nothing is)) (stays law kinds setup a h.acts)

  -- a step of the member, whether it leads or not
  step_rule : (a : Acting A) (step : VrStep) (started settled : Bool) → has_started a.work.state.vr step.state ≡ started → (leads step.state && nat_lt a.work.state.vr.commit step.state.commit) ≡ settled →
      after_step kinds setup a.work.state step
      ≡ (if started then starting_view kinds setup (stepped a.work.state step) else if settled then settling kinds setup a.work.state.vr.commit (stepped a.work.state step) else stepped a.work.state step)
  unfolding after_step
  step_rule a step started settled s1 s2 = rw (s1, s2) refl

  pub step_rests : (a d : Acting A) (step : VrStep) → Does a (stepped a.work.state step) d → has_started a.work.state.vr step.state ≡ false → (leads step.state && nat_lt a.work.state.vr.commit step.state.commit) ≡ false →
      Does a (after_step kinds setup a.work.state step) d
  step_rests a d step first s1 s2 = does_as law kinds setup a d (stepped a.work.state step) (after_step kinds setup a.work.state step) (sym (step_rule a step false false s1 s2)) first

  pub step_settles : (a d n : Acting A) (step : VrStep) → Does a (stepped a.work.state step) d → has_started a.work.state.vr step.state ≡ false → (leads step.state && nat_lt a.work.state.vr.commit step.state.commit) ≡ true →
      Does d (settling kinds setup a.work.state.vr.commit d.work) n → Does a (after_step kinds setup a.work.state step) n
  step_settles a d n step first s1 s2 rest =
      does_as law kinds setup a n (settling kinds setup a.work.state.vr.commit d.work) (after_step kinds setup a.work.state step)
      (ap (λ (w : Work). settling kinds setup a.work.state.vr.commit w) first.work_is ∙ sym (step_rule a step false true s1 s2))
      (then_does law kinds setup a d n (stepped a.work.state step) (settling kinds setup a.work.state.vr.commit d.work) first rest)

  pub step_starts : (a d n : Acting A) (step : VrStep) → Does a (stepped a.work.state step) d → has_started a.work.state.vr step.state ≡ true → Does d (starting_view kinds setup d.work) n →
      Does a (after_step kinds setup a.work.state step) n
  step_starts a d n step first s1 rest =
      does_as law kinds setup a n (starting_view kinds setup d.work) (after_step kinds setup a.work.state step)
      (ap (λ (w : Work). starting_view kinds setup w) first.work_is ∙ sym (step_rule a step true (leads step.state && nat_lt a.work.state.vr.commit step.state.commit) s1 refl))
      (then_does law kinds setup a d n (stepped a.work.state step) (starting_view kinds setup d.work) first rest)

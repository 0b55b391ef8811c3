-- A primary proposes an entry: in a group of several the others are told, and alone it commits the entry and settles again.
use Rattle.std.proofs.Common.{◌≡◌, ◌≤◌, ◌<◌, ◌⊎◌, inl, inr, ℕ, ◌+◌, Bool, true, false, List, [], ◌∷◌, ◌++◌, length, take, refl, sym, ◌∙◌, ap, subst, arith, append-nil, append_assoc, length-append, take_all, drop}
use Rattle.std.specs.Prelude.{not, ◌&&◌, Option, Some, IfSome, if◌then◌else◌}
use Rattle.std.proofs.Math.Seq.{drop-append_seam}
use Rattle.std.proofs.lemmas.Bool.{eqb-true, eqb-false, true≢false}
use Rattle.std.proofs.lemmas.List.{take-append-le, length-take-le}
use Rattle.of_types.specs.declared.setup.Setup.{Setup}
use Rattle.journal.specs.declared.journal.Letter.{Letter}
use Rattle.vr_log.specs.declared.entry.Entry.{Entry}
use Rattle.vr_log.specs.declared.message.VrMessage.TheVariants as vr
use Rattle.vr_log.specs.declared.state.VrState.{VrState}
use Rattle.vr_log.specs.Log.{is_log, is_past_limits, processed}
use Rattle.vr_log.specs.Members.{most_failures}
use Rattle.vr_log.specs.Steps.{to_others}
use Rattle.two_stage_log.specs.Counts.{has_unprocessed}
use Rattle.dispatcher.specs.Marks.{outstanding}
use Rattle.of_switch.specs.State.{SwitchState}
use Rattle.group_controller.specs.declared.messages.ControllerSays.{ControllerSays}
use Rattle.group_controller.specs.State.{ControllerState, Work, committed, leaving, met_limit, to_members}
use Rattle.group_controller.specs.Settling.{after_proposal, command_letters, is_alone, is_some_of, is_untold, with_answers, with_commands}
use Rattle.run_spec.specs.declared.messages.Message.{Message}
use Rattle.closing_laws.specs.Following.{ArePrepares}
use Rattle.closing_laws.specs.Serving.{AreFew, Extends, IsAttended, IsToldLast}
use Rattle.closing_laws.proofs.Primary.Committing.{CommitsMore}
use Rattle.closing_laws.proofs.Primary.Extending as extending
use Rattle.closing_laws.proofs.Primary.Extending.{AreToOthers, extends_none, extends_then, others_told}
use Rattle.closing_laws.proofs.Primary.Settled.{AreBounded, AreServed, Told, settled_step}
use Rattle.closing_laws.proofs.Primary.Telling.{members_told, told, told-append}

-- commands are told with no change of the member of the group
pub commands_vr : (kinds : List ℕ) (setup : Setup) (work : Work) → (with_commands kinds setup work).state.vr ≡ work.state.vr
commands_vr kinds setup work = by_untold (is_untold work.state)
  where
    by_untold : (b : Bool) →
        (if b then record {
          state = record work.state { last_told = Some (processed (committed work.state)) };
          save = work.save;
          letters = work.letters ++ command_letters kinds setup work.state (outstanding kinds setup (committed work.state) work.state.marks);
        } else work).state.vr ≡ work.state.vr
    by_untold true = refl
    by_untold false = refl

-- what stands at a primary whenever it has told the commands that are due
pub record Standing (c : ControllerState) : Type 0 where
  pub one : is_log c.vr.log ≡ true
  pub commit : c.vr.commit ≤ length c.vr.log
  pub ahead : processed c.vr.log ≤ processed (committed c) + 1
  pub unfinished : processed (committed c) < processed c.vr.log → has_unprocessed (committed c) ≡ true
  pub whole : most_failures c.vr ≡ 0 → c.vr.commit ≡ length c.vr.log
  pub me : c.vr.me < c.vr.controllers
  pub told_all : is_untold c ≡ false
  pub last : IsToldLast c

-- with an entry more in its log, and so much committed
abbrev pub pushed : ControllerState → Entry → ℕ → ControllerState
pushed c entry commit = record c { vr = record c.vr { log = c.vr.log ++ entry ∷ []; commit = commit } }

abbrev pub proposal : ControllerState → Entry → List (Letter ControllerSays)
proposal c entry = to_members (to_others c.vr (vr.Prepare c.vr.view (length c.vr.log + 1) c.vr.commit entry))

abbrev pub proposed_as : Bool → Work → Entry → Work
proposed_as alone work entry =
    let c = work.state in
    record work { state = pushed c entry (if alone then length c.vr.log + 1 else c.vr.commit); letters = work.letters ++ proposal c entry }

pub committed_same : (c : ControllerState) (entry : Entry) → c.vr.commit ≤ length c.vr.log → committed (pushed c entry c.vr.commit) ≡ committed c
committed_same c entry within = take-append-le c.vr.commit c.vr.log (entry ∷ []) within

-- an entry that is committed at once
pub pushed_all : (c : ControllerState) (entry : Entry) → committed (pushed c entry (length c.vr.log + 1)) ≡ c.vr.log ++ entry ∷ []
pushed_all c entry = let long = length-append c.vr.log (entry ∷ []) in take_all (length c.vr.log + 1) (c.vr.log ++ entry ∷ []) (omega (arith, long))

pub pushed_behind : (c : ControllerState) (entry : Entry) → c.vr.commit ≡ length c.vr.log → drop c.vr.commit (committed (pushed c entry (length c.vr.log + 1))) ≡ entry ∷ []
pushed_behind c entry whole =
    ap (λ (k : ℕ). drop k (committed (pushed c entry (length c.vr.log + 1)))) whole ∙ ap (drop (length c.vr.log)) (pushed_all c entry) ∙ drop-append_seam c.vr.log (entry ∷ [])

-- what is untold depends on what is committed alone
pub untold_same : (c c' : ControllerState) → committed c' ≡ committed c → c'.last_told ≡ c.last_told → is_untold c' ≡ is_untold c
untold_same c c' same last =
    ap (λ (K : List Entry). has_unprocessed K && not (is_some_of (processed K) c'.last_told)) same ∙ ap (λ (o : Option ℕ). has_unprocessed (committed c) && not (is_some_of (processed (committed c)) o)) last

pub last_same : (c c' : ControllerState) → committed c' ≡ committed c → c'.last_told ≡ c.last_told → IsToldLast c → IsToldLast c'
last_same c c' same last h =
    subst (λ (o : Option ℕ). IfSome o (λ t. (t ≤ processed (committed c')) × (t ≡ processed (committed c') → has_unprocessed (committed c') ≡ true))) (sym last)
    (subst (λ (K : List Entry). IfSome c.last_told (λ t. (t ≤ processed K) × (t ≡ processed K → has_unprocessed K ≡ true))) (sym same) h)

-- the entry is told to the others
extends_one : (c : ControllerState) (entry : Entry) → (most_failures c.vr ≡ 0 → ⊥) → Extends c (entry ∷ []) (pushed c entry c.vr.commit) (proposal c entry)
extends_one c entry several = record {
  state_is = refl;
  alone = λ h. absurd (several h);
  several = λ h. refl;
  members = λ b less other.
      subst (λ (z : List Message). ArePrepares c.vr.view c.vr.commit (length c.vr.log) (entry ∷ []) z)
      (sym ((others_told (vr.Prepare c.vr.view (length c.vr.log + 1) c.vr.commit entry) c.vr.me b other c.vr.controllers).1 less))
      ((c.vr.commit, omega arith, refl), tt);
}

module _ (kinds : List ℕ) (setup : Setup) (sw : ℕ → SwitchState) (in_ : ℕ → List Message) where
  -- what a work has come to from another
  pub record Progress (out : ℕ → List Message) (old new : Work) : Type 0 where
    pub letters : List (Letter ControllerSays)
    pub joined : new.letters ≡ old.letters ++ letters
    pub save : new.save ≡ old.save
    pub more : List Entry
    pub extends : Extends old.state more new.state letters
    pub to_others_only : AreToOthers old.state.vr letters
    pub marks : new.state.marks ≡ old.state.marks
    pub full : new.state.full ≡ old.state.full
    pub standing : Standing new.state
    pub served : AreServed kinds setup sw in_ new.state (λ t. out t ++ told t letters)

  pub progress_none : (out : ℕ → List Message) (work : Work) → Standing work.state → AreServed kinds setup sw in_ work.state out → Progress out work work
  progress_none out work standing served = record {
    letters = [];
    joined = sym (append-nil work.letters);
    save = refl;
    more = [];
    extends = extends_none work.state work.state [] refl (λ b. refl);
    to_others_only = λ b h. refl;
    marks = refl;
    full = refl;
    standing = standing;
    served = λ t less. subst (λ (z : List Message). IsAttended kinds setup work.state t (sw t) z (in_ t)) (sym (append-nil (out t))) (served t less);
  }

  pub progress_then : (out : ℕ → List Message) (a b c : Work) (p : Progress out a b) → Progress (λ t. out t ++ told t p.letters) b c → Progress out a c
  progress_then out a b c p q = record {
    letters = p.letters ++ q.letters;
    joined = q.joined ∙ ap (λ (z : List (Letter ControllerSays)). z ++ q.letters) p.joined ∙ append_assoc a.letters p.letters q.letters;
    save = q.save ∙ p.save;
    more = p.more ++ q.more;
    extends = extends_then a.state b.state c.state p.more q.more p.letters q.letters p.extends q.extends;
    to_others_only = extending.to_others_append a.state.vr p.letters q.letters p.to_others_only
        (λ j h. q.to_others_only j (by_state j h));
    marks = q.marks ∙ p.marks;
    full = q.full ∙ p.full;
    standing = q.standing;
    served = λ t less. subst (λ (z : List Message). IsAttended kinds setup c.state t (sw t) z (in_ t))
        (append_assoc (out t) (told t p.letters) (told t q.letters) ∙ ap (λ (z : List Message). out t ++ z) (sym (told-append t p.letters q.letters))) (q.served t less);
  }
    where
      by_state : (j : ℕ) → (j ≡ a.state.vr.me) ⊎ (a.state.vr.controllers ≤ j) → (j ≡ b.state.vr.me) ⊎ (b.state.vr.controllers ≤ j)
      by_state j (inl same) = inl (same ∙ sym (ap (λ (v : VrState). v.me) p.extends.state_is))
      by_state j (inr past) = inr (let same = ap (λ (v : VrState). v.controllers) p.extends.state_is in omega (arith, same, past))

  -- an entry that fits is proposed
  module _ (few : AreFew kinds setup) (work : Work) (entry : Entry) (out : ℕ → List Message) (s : Standing work.state) (one : is_log (work.state.vr.log ++ entry ∷ []) ≡ true)
      (served : AreServed kinds setup sw in_ (pushed work.state entry work.state.vr.commit) out)
      (ahead : processed (work.state.vr.log ++ entry ∷ []) ≤ processed (committed work.state) + 1)
      (unfinished : processed (committed work.state) < processed (work.state.vr.log ++ entry ∷ []) → has_unprocessed (committed work.state) ≡ true) where
    -- in a group of several
    told_others : is_alone work.state ≡ false → Progress out work (proposed_as false work entry)
    told_others several = record {
      letters = proposal work.state entry;
      joined = refl;
      save = refl;
      more = entry ∷ [];
      extends = extends_one work.state entry (λ e. eqb-false (most_failures work.state.vr) 0 several e);
      to_others_only = extending.to_others_only work.state.vr (vr.Prepare work.state.vr.view (length work.state.vr.log + 1) work.state.vr.commit entry);
      marks = refl;
      full = refl;
      standing = record {
        one = one;
        commit = let long = length-append work.state.vr.log (entry ∷ []) in let within = s.commit in omega (arith, long, within);
        ahead = let p = ap processed same in omega (arith, p, ahead);
        unfinished = λ h. ap has_unprocessed same ∙ unfinished (let p = ap processed same in omega (arith, p, h));
        whole = λ h. absurd (eqb-false (most_failures work.state.vr) 0 several h);
        me = s.me;
        told_all = untold_same work.state (pushed work.state entry work.state.vr.commit) same refl ∙ s.told_all;
        last = last_same work.state (pushed work.state entry work.state.vr.commit) same refl s.last;
      };
      served = λ t less. subst (λ (z : List Message). IsAttended kinds setup (pushed work.state entry work.state.vr.commit) t (sw t) z (in_ t))
          (sym (ap (λ (z : List Message). out t ++ z) (members_told t (to_others work.state.vr (vr.Prepare work.state.vr.view (length work.state.vr.log + 1) work.state.vr.commit entry))) ∙ append-nil (out t)))
          (served t less);
    }
      where
        same : committed (pushed work.state entry work.state.vr.commit) ≡ committed work.state
        same = committed_same work.state entry s.commit

    -- alone
    abbrev alone_work : Work
    alone_work = with_commands kinds setup (with_answers kinds setup work.state.vr.commit (proposed_as true work entry))

    committed_now : is_alone work.state ≡ true → CommitsMore (pushed work.state entry work.state.vr.commit) (pushed work.state entry (length work.state.vr.log + 1))
    committed_now alone = record {
      view = refl;
      me = refl;
      marks = refl;
      last_told = refl;
      events = refl;
      more = entry ∷ [];
      committed_is = pushed_all work.state entry ∙ ap (λ (l : List Entry). l ++ entry ∷ []) (sym (same ∙ take_all work.state.vr.commit work.state.vr.log (let full = s.whole (eqb-true (most_failures work.state.vr) 0 alone) in omega (arith, full))));
      one = ap is_log (pushed_all work.state entry) ∙ one;
      most = let p = ap processed (pushed_all work.state entry) in let q = ap processed same in omega (arith, p, q, ahead);
      unfinished = λ h. ap has_unprocessed same ∙ unfinished (let p = ap processed (pushed_all work.state entry) in let q = ap processed same in omega (arith, p, q, h));
    }
      where
        same : committed (pushed work.state entry work.state.vr.commit) ≡ committed work.state
        same = committed_same work.state entry s.commit

    committed_alone : is_alone work.state ≡ true → AreBounded kinds setup sw in_ (committed (pushed work.state entry (length work.state.vr.log + 1))) → Progress out work alone_work
    committed_alone alone bounds =
        by_told
        (settled_step kinds setup sw in_ few (pushed work.state entry work.state.vr.commit) (proposed_as true work entry) (committed_now alone) work.state.vr.commit out
        (sym (ap length same ∙ length-take-le work.state.vr.commit work.state.vr.log s.commit)) (untold_same work.state (pushed work.state entry work.state.vr.commit) same refl ∙ s.told_all)
        (last_same work.state (pushed work.state entry work.state.vr.commit) same refl s.last) served bounds)
      where
        same : committed (pushed work.state entry work.state.vr.commit) ≡ committed work.state
        same = committed_same work.state entry s.commit

        none : most_failures work.state.vr ≡ 0
        none = eqb-true (most_failures work.state.vr) 0 alone

        full : work.state.vr.commit ≡ length work.state.vr.log
        full = s.whole none

        by_told : Told kinds setup sw in_ out (proposed_as true work entry) alone_work → Progress out work alone_work
        by_told r = record {
          letters = proposal work.state entry ++ r.tells.letters;
          joined = r.tells.joined ∙ append_assoc work.letters (proposal work.state entry) r.tells.letters;
          save = r.tells.save;
          more = entry ∷ [];
          extends = record {
            state_is = r.tells.vr ∙ ap (λ (k : ℕ). record work.state.vr { log = work.state.vr.log ++ entry ∷ []; commit = k }) (sym commit_is);
            alone = λ h. omega (arith, commit_is, full);
            several = λ h. absurd (omega (arith, h, none));
            members = λ b less other. absurd (let own = s.me in other (omega (arith, less, own, none)));
          };
          to_others_only = extending.to_others_append work.state.vr (proposal work.state entry) r.tells.letters
              (extending.to_others_only work.state.vr (vr.Prepare work.state.vr.view (length work.state.vr.log + 1) work.state.vr.commit entry)) (λ b h. r.tells.to_switches b);
          marks = r.tells.marks;
          full = r.tells.full;
          standing = record {
            one = ap (λ (v : VrState). is_log v.log) r.tells.vr ∙ one;
            commit = let long = log_long in omega (arith, commit_is, long);
            ahead = let a = ap processed committed_is in let b = ap (λ (v : VrState). processed v.log) r.tells.vr in omega (arith, a, b);
            unfinished = λ h. absurd (let a = ap processed committed_is in let b = ap (λ (v : VrState). processed v.log) r.tells.vr in omega (arith, a, b, h));
            whole = λ h. (let long = log_long in omega (arith, commit_is, long));
            me = let a = ap (λ (v : VrState). v.me) r.tells.vr in let b = ap (λ (v : VrState). v.controllers) r.tells.vr in let own = s.me in omega (arith, a, b, own);
            told_all = r.told_all;
            last = r.last;
          };
          served = λ t less. subst (λ (z : List Message). IsAttended kinds setup alone_work.state t (sw t) z (in_ t))
              (ap (λ (z : List Message). out t ++ z)
              (sym (told-append t (proposal work.state entry) r.tells.letters
              ∙ ap (λ (z : List Message). z ++ told t r.tells.letters) (members_told t (to_others work.state.vr (vr.Prepare work.state.vr.view (length work.state.vr.log + 1) work.state.vr.commit entry))))))
              (r.served t less);
        }
          where
            commit_is : alone_work.state.vr.commit ≡ length work.state.vr.log + 1
            commit_is = ap (λ (v : VrState). v.commit) r.tells.vr

            committed_is : committed alone_work.state ≡ work.state.vr.log ++ entry ∷ []
            committed_is = ap (λ (v : VrState). take v.commit v.log) r.tells.vr ∙ pushed_all work.state entry

            log_long : length alone_work.state.vr.log ≡ length work.state.vr.log + 1
            log_long = ap (λ (v : VrState). length v.log) r.tells.vr ∙ length-append work.state.vr.log (entry ∷ [])

    pub proposal_step : is_past_limits work.state.vr.log entry ≡ false → AreBounded kinds setup sw in_ (committed (after_proposal kinds setup work entry).state) → Progress out work (after_proposal kinds setup work entry)
    proposal_step fits bounds = by_limits (is_past_limits work.state.vr.log entry) fits (is_alone work.state) refl bounds
      where
        by_limits : (p : Bool) → p ≡ false → (a : Bool) → is_alone work.state ≡ a →
            AreBounded kinds setup sw in_
            (committed (if p then leaving work (met_limit work.state entry)
            else if a then with_commands kinds setup (with_answers kinds setup work.state.vr.commit (proposed_as a work entry)) else proposed_as a work entry).state) →
            Progress out work (if p then leaving work (met_limit work.state entry)
            else if a then with_commands kinds setup (with_answers kinds setup work.state.vr.commit (proposed_as a work entry)) else proposed_as a work entry)
        by_limits true fine a is bound = absurd (true≢false fine)
        by_limits false fine true is bound =
            committed_alone is (subst (λ (v : VrState). AreBounded kinds setup sw in_ (take v.commit v.log)) (commands_vr kinds setup (with_answers kinds setup work.state.vr.commit (proposed_as true work entry))) bound)
        by_limits false fine false is bound = told_others is

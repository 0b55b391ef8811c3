-- The primary starts its view: each switch is asked for its role, nothing is answered or told, and an event that is finished already
-- is proposed as processed.
use Rattle.std.proofs.Common.{◌≡◌, ◌≤◌, ◌<◌, ◌⊎◌, inl, inr, ℕ, ◌+◌, zero, suc, Bool, false, List, [], ◌∷◌, ◌++◌, length, map, take, drop, flat_map, refl, sym, ◌∙◌, ap, subst, arith, append-nil}
use Rattle.std.specs.Prelude.{nat_eq, None, if◌then◌else◌}
use Rattle.std.specs.List.{range_with_len}
use Rattle.std.proofs.lemmas.Bool.{cases_eq, cases_order, eq-eqb, ne_eqb, true≢false}
use Rattle.std.proofs.lemmas.List.{drop_all, length-take}
use Rattle.of_types.specs.declared.setup.Setup.{Setup}
use Rattle.journal.specs.declared.journal.Letter.{Letter}
use Rattle.vr_log.specs.declared.entry.Entry.{Entry}
use Rattle.vr_log.specs.declared.message.VrLetter.{VrLetter}
use Rattle.vr_log.specs.declared.state.VrState.{VrState}
use Rattle.dispatcher.specs.Folding.{places_processed}
use Rattle.dispatcher.specs.Marks.{Marks, has_result, is_confirmed, no_marks}
use Rattle.of_switch.specs.State.{SwitchState, life_of}
use Rattle.group_controller.specs.declared.messages.ControllerSays.{ControllerSays}
use Rattle.group_controller.specs.State.{ControllerState, Work, committed, leaving, posting_work, to_members}
use Rattle.group_controller.specs.Rules.{starting_view, switches}
use Rattle.group_controller.specs.Settling.{answers_at, role_letter, settling, with_answers, with_commands}
use Rattle.run_spec.specs.declared.messages.Message.{Message}
use Rattle.closing_laws.specs.Serving.{Asks, AreFew, Extends, IsOlder, IsAttended, IsSettled, IsToldLast, IsTrueOf, IsTruePrimary, asks_role}
use Rattle.closing_laws.proofs.Primary.Extending.{AreToOthers}
use Rattle.closing_laws.proofs.Primary.Finishing.{AreBoundedTo, Finished}
use Rattle.closing_laws.proofs.Primary.Proposing.{Standing, commands_vr}
use Rattle.closing_laws.proofs.Primary.Settled.{AreBounded, AreServed, Told, commands_told_step}
use Rattle.closing_laws.proofs.Primary.Telling.{members_told, told, told-append}
use Rattle.closing_laws.proofs.Primary.Turned.{IsSound, behind, bounded_to, ends_above, told_progress}

-- each switch is asked once
pub asked_never : (view t first n : ℕ) → t < first → told t (map (role_letter view) (range_with_len first n)) ≡ []
asked_never view t first zero less = refl
asked_never view t first (suc n) less =
    let off : nat_eq first t ≡ false = ne_eqb first t (λ e. omega (arith, e, less)) in
    ap (λ (b : Bool). if b then asks_role view ∷ told t (map (role_letter view) (range_with_len (first + 1) n)) else told t (map (role_letter view) (range_with_len (first + 1) n))) off
    ∙ asked_never view t (first + 1) n (omega (arith, less))

pub asked_once : (view t first n : ℕ) → first ≤ t → t < first + n → told t (map (role_letter view) (range_with_len first n)) ≡ asks_role view ∷ []
asked_once view t first zero low high = absurd (omega (arith, low, high))
asked_once view t first (suc n) low high = by_here (λ below. asked_once view t (first + 1) n below (omega (arith, high))) (cases_eq first t)
  where
    by_here : (first + 1 ≤ t → told t (map (role_letter view) (range_with_len (first + 1) n)) ≡ asks_role view ∷ []) → (first ≡ t) ⊎ (first ≡ t → ⊥) →
        told t (map (role_letter view) (range_with_len first (suc n))) ≡ asks_role view ∷ []
    by_here later (inl same) =
        ap (λ (b : Bool). if b then asks_role view ∷ told t (map (role_letter view) (range_with_len (first + 1) n)) else told t (map (role_letter view) (range_with_len (first + 1) n))) (eq-eqb first t same)
        ∙ ap (λ (z : List Message). asks_role view ∷ z) (asked_never view t (first + 1) n (omega (arith, same)))
    by_here later (inr other) =
        ap (λ (b : Bool). if b then asks_role view ∷ told t (map (role_letter view) (range_with_len (first + 1) n)) else told t (map (role_letter view) (range_with_len (first + 1) n))) (ne_eqb first t other)
        ∙ later (elim (cases_order first t) [ inl e ↦ absurd (other e) | inr (inl less) ↦ omega (arith, less) | inr (inr more) ↦ absurd (omega (arith, more, low)) ])

-- a switch that waits for this is served
pub asked_served : (kinds : List ℕ) (setup : Setup) (c : ControllerState) (t : ℕ) (sw : SwitchState) → c.marks ≡ no_marks → IsOlder sw.fence.generation c.vr.view → IsAttended kinds setup c t sw (asks_role c.vr.view ∷ []) []
asked_served kinds setup c t sw none older = record {
  said = (Asks, tt);
  heard = tt;
  role = inl (record { older = older; rest = []; first = refl; once = refl; silent = refl; unconfirmed = unconfirmed });
  confirmed = λ h. absurd (true≢false (sym h ∙ unconfirmed));
  unconfirmed = λ h. record { no_commands = refl; no_results = refl; no_marks = unmarked };
  marks = λ i h. absurd (true≢false (sym h ∙ unmarked i));
  results = λ i h. absurd h;
}
  where
    unconfirmed : is_confirmed c.marks t ≡ false
    unconfirmed = ap (λ (m : Marks). is_confirmed m t) none

    unmarked : (i : ℕ) → has_result c.marks t (life_of sw) i ≡ false
    unmarked i = ap (λ (m : Marks). has_result m t (life_of sw) i) none

module _ (kinds : List ℕ) (setup : Setup) (sw : ℕ → SwitchState) (in_ : ℕ → List Message) (few : AreFew kinds setup) where
  -- Settle, where nothing is newly committed
  pub settling_starts : (work : Work) (k : ℕ) (out : ℕ → List Message) → k ≡ work.state.vr.commit → IsSound work.state → IsToldLast work.state → AreServed kinds setup sw in_ work.state out →
      AreBoundedTo kinds setup sw in_ (committed (settling kinds setup k work).state) → (settling kinds setup k work).state.full ≡ None → Finished kinds setup sw in_ out work (settling kinds setup k work)
  unfolding settling
  settling_starts work k out is sound last served bounds full =
      let mid = with_commands kinds setup (with_answers kinds setup k work) in
      let kept = commands_vr kinds setup (with_answers kinds setup k work) in
      let all = ends_above kinds setup sw in_ few mid (subst (λ (v : VrState). v.commit ≤ length v.log) (sym kept) sound.commit) bounds in
      behind kinds setup sw in_ few work mid out (told_progress kinds setup sw in_ out work mid sound (first kept all)) bounds full
    where
      first : (with_commands kinds setup (with_answers kinds setup k work)).state.vr ≡ work.state.vr → AreBounded kinds setup sw in_ (committed (with_commands kinds setup (with_answers kinds setup k work)).state) →
          Told kinds setup sw in_ out work (with_commands kinds setup (with_answers kinds setup k work))
      first kept all =
          let r = commands_told_step kinds setup sw in_ few (with_answers kinds setup k work) out last served (subst (λ (v : VrState). AreBounded kinds setup sw in_ (take v.commit v.log)) kept all) in
          record {
            tells = record {
              letters = r.tells.letters;
              joined = r.tells.joined ∙ ap (λ (z : List (Letter ControllerSays)). z ++ r.tells.letters) (ap (λ (z : List Entry). work.letters ++ flat_map (answers_at kinds setup work.state) (places_processed z))
                  (ap (λ (n : ℕ). drop k (take n work.state.vr.log)) (sym is) ∙ drop_all k (take k work.state.vr.log) (let long = length-take k work.state.vr.log in omega (arith, long))) ∙ append-nil work.letters);
              save = r.tells.save;
              vr = r.tells.vr;
              marks = r.tells.marks;
              full = r.tells.full;
              to_switches = r.tells.to_switches;
            };
            told_all = r.told_all;
            last = r.last;
            served = r.served;
          }

-- the member starts its view, with what it tells the others
module _ (kinds : List ℕ) (setup : Setup) (sw : ℕ → SwitchState) (few : AreFew kinds setup) (start : Work) (ls : List VrLetter) (only : start.letters ≡ to_members ls)
    (older : (t : ℕ) → t < length setup.ports → IsOlder (sw t).fence.generation start.state.vr.view) where
  -- the state in which nothing came from switches yet
  abbrev pub opened : ControllerState
  opened = record start.state { marks = no_marks; last_told = None }

  abbrev pub roles : List (Letter ControllerSays)
  roles = map (role_letter start.state.vr.view) (switches setup)

  abbrev pub asking : Work
  asking = posting_work (leaving start opened) roles

  abbrev end : Work
  end = starting_view kinds setup start

  -- what the start of a view leaves
  pub record HasOpened : Type 0 where
    pub save : end.save ≡ start.save
    pub letters : List (Letter ControllerSays)
    pub joined : end.letters ≡ (start.letters ++ roles) ++ letters
    pub more : List Entry
    pub extends : Extends opened more end.state letters
    pub to_others_only : AreToOthers opened.vr letters
    pub marks : end.state.marks ≡ no_marks
    pub settled : IsSettled kinds setup end.state
    pub standing : Standing end.state
    pub served : AreServed kinds setup sw (λ t. []) end.state (λ t. told t end.letters)

  asked_all : AreServed kinds setup sw (λ t. []) opened (λ t. told t (start.letters ++ roles))
  asked_all t less =
      subst (λ (z : List Message). IsAttended kinds setup opened t (sw t) z [])
      (sym (told-append t start.letters roles
      ∙ ap (λ (z : List Message). z ++ told t roles) (ap (told t) only ∙ members_told t ls)
      ∙ asked_once start.state.vr.view t 0 (length setup.ports) (omega arith) (omega (arith, less))))
      (asked_served kinds setup opened t (sw t) refl (older t less))

  pub view_opens : IsSound opened → end.state.full ≡ None → IsTruePrimary end.state → ((t : ℕ) → t < length setup.ports → IsTrueOf kinds setup end.state t (sw t)) → HasOpened
  view_opens sound full p_end true_end = by_finished
      (settling_starts kinds setup sw (λ t. []) few asking start.state.vr.commit (λ t. told t (start.letters ++ roles)) refl sound tt asked_all (bounded_to kinds setup sw (λ t. []) end.state p_end true_end) full)
    where
      by_finished : Finished kinds setup sw (λ t. []) (λ t. told t (start.letters ++ roles)) asking end → HasOpened
      by_finished f = record {
        save = f.progress.save;
        letters = f.progress.letters;
        joined = f.progress.joined;
        more = f.progress.more;
        extends = (let e = f.progress.extends in record { state_is = e.state_is; alone = e.alone; several = e.several; members = e.members });
        to_others_only = f.progress.to_others_only;
        marks = f.progress.marks;
        settled = record { told = f.progress.standing.told_all; proposed = f.settled; last = f.progress.standing.last };
        standing = f.progress.standing;
        served = λ t less. subst (λ (z : List Message). IsAttended kinds setup end.state t (sw t) z [])
            (sym (ap (told t) f.progress.joined ∙ told-append t (start.letters ++ roles) f.progress.letters)) (f.progress.served t less);
      }

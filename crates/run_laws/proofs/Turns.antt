-- Each turn of a controller is good.
use Rattle.std.proofs.Common.{◌≡◌, ◌<◌, ◌+◌, ◌^◌, inl, inr, ℕ, Bool, true, false, List, [], refl, sym, ◌∙◌, subst, arith}
use Rattle.std.specs.Prelude.{slice_get, Some, None}
use Rattle.of_types.specs.declared.setup.Setup.{Setup}
use Rattle.journal.specs.declared.journal.Letter.{Letter}
use Rattle.list_facts.specs.Lists.{IsIn}
use Rattle.vr_log.specs.declared.entry.Entry.{Entry}
use Rattle.vr_log.specs.declared.entry.Entry.TheVariants.{Processed}
use Rattle.vr_log.specs.declared.message.VrMessage.TheVariants as message
use Rattle.vr_log.specs.declared.state.Collected.{Collected}
use Rattle.vr_log.specs.declared.state.Response.{Response}
use Rattle.vr_log.specs.declared.state.VrState.{VrState}
use Rattle.vr_log.specs.Valid.{down_state}
use Rattle.vr_recovery.specs.Recovering.{recovering_state}
use Rattle.group_controller.specs.declared.messages.ControllerInput.{ControllerInput}
use Rattle.group_controller.specs.declared.messages.ControllerSays.{ControllerSays}
use Rattle.controller_moves.specs.ControllerLaws.Laws.{IsRestarted}
use Rattle.controller_moves.specs.ControllerLaws.Moves.{Chain}
use Rattle.group_controller.specs.Rules.{controller_work, is_down}
use Rattle.controller_moves.specs.ControllerLaws.Views.{IsKnownView}
use Rattle.group_controller.specs.State.{ControllerState, Work, committed, down, resting}
use Rattle.controller_moves.specs.ControllerLaws.Turns.{beginning}
use Rattle.controller_moves.proofs.ControllerLaws.Restarts.{down_rests}
use Rattle.list_facts.proofs.Prefixes.{prefix_refl}
use Rattle.controller_moves.proofs.ControllerLaws.Reached.{turn_chain}
use Rattle.run_laws.specs.OnceLaws.Invariant.{HoldsEntry, Logged, Gathered, Answered, Fetched, HoldsAhead, Own, Collects, Answers, Supplies}
use Rattle.run_laws.specs.OnceLaws.Premises.{HasSource, Was, By_held, IsAheadBy, IsPosting, Members, IsGoodTurn}
use Rattle.list_facts.proofs.Places.{none_at}
use Rattle.run_laws.proofs.Members.{IsOwned}
use Rattle.run_laws.proofs.Sources.{on_way, holds_come}
use Rattle.run_laws.proofs.Ahead.{whole_held, reached, ahead}
use Rattle.run_laws.proofs.Posting.{posts}

-- a member that has nothing
record IsEmpty (s : VrState) : Type 0 where
  pub log : s.log ≡ []
  pub commit : s.commit ≡ 0
  pub collected : s.collected ≡ []
  pub responses : s.responses ≡ []
  pub supply : s.supply ≡ None

module _ (kinds : List ℕ) (setup : Setup) (me : ℕ) (x : ControllerInput) (c : ControllerState) where
  empty_entries : (s : VrState) → IsEmpty s → (i : ℕ) (e : Entry) → HoldsEntry s i e → HasSource kinds setup c x i e
  empty_entries s n i e (Logged g) = absurd (none_at i e (subst (λ (l : List Entry). slice_get l i ≡ Some e) n.log g))
  empty_entries s n i e (Gathered d k at) = absurd (subst (λ (l : List Collected). IsIn d l) n.collected k)
  empty_entries s n i e (Answered r f k is at) = absurd (subst (λ (l : List Response). IsIn r l) n.responses k)
  empty_entries s n i e (Fetched p is at) = absurd (let no = sym n.supply ∙ is in cc)

  empty_ahead : (s : VrState) → IsEmpty s → (k : ℕ) (entries : List Entry) → HoldsAhead s k entries → IsAheadBy kinds setup c x k entries
  empty_ahead s n k entries (Own a b) =
      let none = n.commit in
      record {
        bound = By_held c.vr.commit c.vr.log (Own refl refl) (omega (arith, a, none));
        one = λ j i. absurd (subst (λ (l : List Entry). IsIn (Processed j) l) (b ∙ n.log) i);
      }
  empty_ahead s n k entries (Collects d among a b) = absurd (subst (λ (l : List Collected). IsIn d l) n.collected among)
  empty_ahead s n k entries (Answers r f among is a b) = absurd (subst (λ (l : List Response). IsIn r l) n.responses among)
  empty_ahead s n k entries (Supplies p is a b) = absurd (let no = sym n.supply ∙ is in cc)

  -- of work that leaves a state and posts letters
  abbrev MakesNothingUp : Work → Type 0
  MakesNothingUp w =
      ((i : ℕ) (e : Entry) → HoldsEntry w.state.vr i e → HasSource kinds setup c x i e)
      × (((k : ℕ) (entries : List Entry) → HoldsAhead w.state.vr k entries → IsAheadBy kinds setup c x k entries)
      × ((l : Letter ControllerSays) → IsIn l w.letters → IsPosting kinds setup me c x l))

  rests_good : MakesNothingUp (resting c)
  rests_good = (λ i e h. Was h, (λ k entries h. whole_held kinds setup x c k entries h, λ l k. absurd k))

  falls_good : (promise life : ℕ) → MakesNothingUp (resting (down c promise life))
  falls_good promise life =
      let n : IsEmpty (down_state c.vr.me c.vr.controllers promise life) = record { log = refl; commit = refl; collected = refl; responses = refl; supply = refl } in
      (empty_entries (down_state c.vr.me c.vr.controllers promise life) n, (empty_ahead (down_state c.vr.me c.vr.controllers promise life) n, λ l k. absurd k))

  restart_good : (w : Work) → IsRestarted c w → MakesNothingUp w
  restart_good w r =
      let s : VrState = recovering_state c.vr.me c.vr.controllers c.vr.promise (c.vr.life + 1) in
      let n : IsEmpty w.state.vr = subst (λ (z : ControllerState). IsEmpty z.vr) (sym r.state_is) (record { log = refl; commit = refl; collected = refl; responses = refl; supply = refl }) in (
        empty_entries w.state.vr n,
        (
          empty_ahead w.state.vr n,
          λ l k. let t = r.letters l k in Members t.0 (message.Recovery (c.vr.life + 1) c.vr.promise) t.1 (λ h. tt) (λ i e h. absurd h) (λ k es h. absurd h),
        ),
      )

  module _ (o : IsOwned me setup.controllers c.vr) (views : (v : ℕ) → IsKnownView x c v → v < 2 ^ 32) where
    chain_good : Chain kinds setup x (beginning c) (controller_work kinds setup c x) → MakesNothingUp (controller_work kinds setup c x)
    chain_good chain =
        let work : Work = controller_work kinds setup c x in (
          holds_come kinds setup me setup.controllers x c o chain work (on_way kinds setup me setup.controllers x c o chain work (reached kinds setup me setup.controllers x c o chain) (prefix_refl (committed work.state))),
          (ahead kinds setup me setup.controllers x c o chain, posts kinds setup me x c o chain views),
        )

    all_good : MakesNothingUp (controller_work kinds setup c x)
    all_good = by_down (is_down c) refl
      where
        by_down : (b : Bool) → is_down c ≡ b → MakesNothingUp (controller_work kinds setup c x)
        by_down true off = elim (down_rests kinds setup x c off) [
          | inl e ↦ subst (λ (w : Work). MakesNothingUp w) (sym e) rests_good
          | inr r ↦ restart_good (controller_work kinds setup c x) r.1
        ]
        by_down false up = elim (turn_chain kinds setup x c up) [
          | inl chain ↦ chain_good chain
          | inr crash ↦ subst (λ (w : Work). MakesNothingUp w) (sym crash.1) (falls_good c.vr.promise c.vr.life)
        ]

    pub good_turn : IsGoodTurn kinds setup me c x
    good_turn = let g = all_good in record { entries = g.0; ahead = g.1.0; letters = g.1.1 }

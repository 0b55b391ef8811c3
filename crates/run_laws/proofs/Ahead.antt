-- What stands beside a commit number that a controller holds.
use Rattle.std.proofs.Common.{◌≡◌, ◌+◌, ◌⊎◌, inl, inr, ℕ, List, [], ◌∷◌, length, refl, sym, ap, ◌∙◌, subst, arith}
use Rattle.std.specs.Prelude.{Option, Some, None}
use Rattle.of_types.specs.declared.setup.Setup.{Setup}
use Rattle.journal.specs.declared.journal.Local.TheVariants as local
use Rattle.vr_log.specs.declared.entry.Entry.{Entry}
use Rattle.vr_log.specs.declared.entry.Entry.TheVariants.{Processed}
use Rattle.vr_log.specs.declared.message.Filled.{Filled}
use Rattle.vr_log.specs.declared.message.VrMessage.{VrMessage}
use Rattle.vr_log.specs.declared.message.VrMessage.TheVariants as message
use Rattle.vr_log.specs.declared.state.Response.{Response}
use Rattle.vr_log.specs.declared.state.Supplied.{Supplied}
use Rattle.vr_log.specs.declared.state.VrState.{VrState}
use Rattle.vr_core.specs.declared.input.VrInput.TheVariants as vr_input
use Rattle.group_controller.specs.declared.messages.ControllerInput.{ControllerInput}
use Rattle.group_controller.specs.declared.messages.ControllerInput.TheVariants as controller_input
use Rattle.list_facts.specs.Lists.{IsIn}
use Rattle.controller_moves.specs.ControllerLaws.CommitNumbers.{commit_of, IsKnownCommit, Below, OfCollected, OfResponse, OfInput}
use Rattle.controller_moves.specs.ControllerLaws.Entries.{IsGoodBeside}
use Rattle.controller_moves.specs.ControllerLaws.Moves.{Chain, Start, Then, ControllerMove, Steps, Says, Saves, Begins, Proposes, Results, Notes, member_input}
use Rattle.group_controller.specs.Rules.{controller_work}
use Rattle.group_controller.specs.State.{ControllerState, Work, committed}
use Rattle.controller_moves.specs.ControllerLaws.Turns.{beginning, IsReached}
use Rattle.controller_moves.specs.ControllerLaws.MemberMoves.{MemberMove, Enters, Tallies, Collects as Collecting, Stocks, Starts, Adopts, Recovers, Appends, Commits, Keeps}
use Rattle.controller_moves.proofs.ControllerLaws.CommitNumbers.{commits_from}
use Rattle.controller_moves.proofs.ControllerLaws.MemberEntries.{response_among}
use Rattle.list_facts.proofs.Prefixes.{prefix_refl}
use Rattle.controller_moves.proofs.ControllerLaws.Places.{stands_get}
use Rattle.controller_moves.proofs.ControllerLaws.Reached.{chain_reaches}
use Rattle.run_laws.specs.OnceLaws.Invariant.{HasAhead, HoldsAhead, Own, Collects, Answers, Supplies}
use Rattle.run_laws.specs.OnceLaws.Premises.{BoundBy, By_held, By_told, One_held, One_told, IsAheadBy}
use Rattle.list_facts.proofs.Places.{in_get}
use Rattle.run_laws.proofs.Members.{IsOwned}
use Rattle.run_laws.proofs.Sources.{on_way, low_bound, one_of_stood, own_one, From, By}

-- the commit number that a message tells stands beside entries
told_beside : (m : VrMessage) (k : ℕ) → commit_of m ≡ Some k → (entries : List Entry) × HasAhead m k entries
told_beside (message.Prepare view op commit entry) k is = let e : commit ≡ k = cc in (entry ∷ [], (sym e, refl))
told_beside (message.PrepareOk view op) k is = absurd cc
told_beside (message.Commit view commit) k is = let e : commit ≡ k = cc in ([], (sym e, refl))
told_beside (message.StartViewChange view) k is = absurd cc
told_beside (message.DoViewChange view normal commit log) k is = let e : commit ≡ k = cc in (log, (sym e, refl))
told_beside (message.StartView view first commit log) k is = let e : commit ≡ k = cc in (log, (sym e, refl))
told_beside (message.Recovery nonce promise) k is = absurd cc
told_beside (message.RecoveryResponse view nonce None) k is = absurd cc
told_beside (message.RecoveryResponse view nonce (Some filled)) k is = let e : filled.commit ≡ k = cc in (filled.log, (sym e, refl))
told_beside (message.GetState view op) k is = absurd cc
told_beside (message.NewState view first commit log) k is = let e : commit ≡ k = cc in (log, (sym e, refl))
told_beside (message.Fetch view op) k is = absurd cc
told_beside (message.Supply view first log) k is = absurd cc

member_from : (x : ControllerInput) (from : ℕ) (m : VrMessage) → member_input x ≡ vr_input.From from m → x ≡ controller_input.Vr from m
member_from (controller_input.Vr sender y) from m is =
    let a : sender ≡ from = cc in let b : y ≡ m = cc in ap (λ (s : ℕ). controller_input.Vr s y) a ∙ ap (λ (z : VrMessage). controller_input.Vr from z) b
member_from (controller_input.Local (local.Suspect view)) from m is = absurd cc
member_from (controller_input.Local local.Tick) from m is = absurd cc
member_from (controller_input.Local local.Crash) from m is = absurd cc
member_from (controller_input.Local (local.Frame port bytes)) from m is = absurd cc
member_from (controller_input.Local (local.Port port up)) from m is = absurd cc
member_from (controller_input.Local local.Restart) from m is = absurd cc
member_from (controller_input.Of s xid y) from m is = absurd cc
member_from (controller_input.Malformed sender) from m is = absurd cc

-- responses and what was supplied stood, or came, as a whole
module _ (x : ControllerInput) (c : VrState) where
  abbrev pub StoodOrCame : VrState → Type 0
  StoodOrCame s =
      ((r : Response) → IsIn r s.responses → IsIn r c.responses ⊎ ((nonce : ℕ) × (x ≡ controller_input.Vr r.from (message.RecoveryResponse r.view nonce r.filled))))
      × ((p : Supplied) → s.supply ≡ Some p → (c.supply ≡ Some p) ⊎ ((from : ℕ) × (view : ℕ) × (x ≡ controller_input.Vr from (message.Supply view p.first p.log))))

  kept_supply : (first : ℕ) (log : List Entry) (p : Supplied) → Some (record { first = first; log = log }) ≡ Some p → (first ≡ p.first) × (log ≡ p.log)
  kept_supply first log p e = let same : record { first = first; log = log } ≡ p = cc in (ap (λ (z : Supplied). z.first) same, ap (λ (z : Supplied). z.log) same)

  member_stood : (s s' : VrState) → MemberMove (member_input x) s s' → StoodOrCame s → StoodOrCame s'
  member_stood s s' (Enters view l v is) h = subst (λ (z : VrState). StoodOrCame z) (sym is) (h.0, λ p e. absurd cc)
  member_stood s s' (Tallies votes sent acked is) h = subst (λ (z : VrState). StoodOrCame z) (sym is) h
  member_stood s s' (Collecting d from is) h = subst (λ (z : VrState). StoodOrCame z) (sym is) h
  member_stood s s' (Stocks from view first log asks l is) h =
      subst (λ (z : VrState). StoodOrCame z) (sym is) (
        h.0,
        λ p e. let q = kept_supply first log p e in
            inr (from, view, member_from x from (message.Supply view first log) asks ∙ ap (λ (i : ℕ). controller_input.Vr from (message.Supply view i log)) q.0 ∙ ap (λ (z : List Entry). controller_input.Vr from (message.Supply view p.first z)) q.1),
      )
  member_stood s s' (Starts d ds dl may long sound is) h = subst (λ (z : VrState). StoodOrCame z) (sym is) (h.0, λ p e. absurd cc)
  member_stood s s' (Adopts view first commit log shows newer l sound is) h = subst (λ (z : VrState). StoodOrCame z) (sym is) (h.0, λ p e. absurd cc)
  member_stood s s' (Recovers view r told k v f rec sound is) h = subst (λ (z : VrState). StoodOrCame z) (sym is) (λ r k. absurd k, λ p e. absurd cc)
  member_stood s s' (Appends commit more normal fol brings is) h = subst (λ (z : VrState). StoodOrCame z) (sym is) h
  member_stood s s' (Commits k normal low high is) h = subst (λ (z : VrState). StoodOrCame z) (sym is) h
  member_stood s s' (Keeps r nonce asks is) h =
      subst (λ (z : VrState). StoodOrCame z) (sym is) (
        λ y k. elim (response_among s.responses r y k) [
          | inl new ↦ subst (λ (z : Response). IsIn z c.responses ⊎ ((nonce : ℕ) × (x ≡ controller_input.Vr z.from (message.RecoveryResponse z.view nonce z.filled)))) (sym new) (inr (nonce, member_from x r.from (message.RecoveryResponse r.view nonce r.filled) asks))
          | inr old ↦ h.0 y old
        ],
        h.1,
      )

module _ (kinds : List ℕ) (setup : Setup) (x : ControllerInput) (c : ControllerState) where
  move_stood : (w w' : Work) → ControllerMove kinds setup x w w' → StoodOrCame x c.vr w.state.vr → StoodOrCame x c.vr w'.state.vr
  move_stood w w' (Steps s m is) b = subst (λ (z : Work). StoodOrCame x c.vr z.state.vr) (sym is) (member_stood x c.vr w.state.vr s m b)
  move_stood w w' (Says ls all is) b = subst (λ (z : Work). StoodOrCame x c.vr z.state.vr) (sym is) b
  move_stood w w' (Saves save is) b = subst (λ (z : Work). StoodOrCame x c.vr z.state.vr) (sym is) b
  move_stood w w' (Begins l is) b = subst (λ (z : Work). StoodOrCame x c.vr z.state.vr) (sym is) b
  move_stood w w' (Proposes entry l p room is) b = subst (λ (z : Work). StoodOrCame x c.vr z.state.vr) (sym is) b
  move_stood w w' (Results s xid life number outcome asks l pending is) b = subst (λ (z : Work). StoodOrCame x c.vr z.state.vr) (sym is) b
  move_stood w w' (Notes confirmed told full is) b = subst (λ (z : Work). StoodOrCame x c.vr z.state.vr) (sym is) b

  pub chain_stood : (w : Work) → Chain kinds setup x (beginning c) w → StoodOrCame x c.vr w.state.vr
  chain_stood w Start = (λ r k. inl k, λ p e. inl e)
  chain_stood w (Then mid w2 chain move) = move_stood mid w move (chain_stood mid chain)

-- what stood beside a commit number as a whole
pub whole_held : (kinds : List ℕ) (setup : Setup) (x : ControllerInput) (c : ControllerState) (k : ℕ) (entries : List Entry) → HoldsAhead c.vr k entries → IsAheadBy kinds setup c x k entries
whole_held kinds setup x c k entries h = record { bound = By_held k entries h (omega arith); one = λ j among. One_held k entries h (omega arith) among }

pub whole_told : (kinds : List ℕ) (setup : Setup) (x : ControllerInput) (c : ControllerState) (from : ℕ) (m : VrMessage) (k : ℕ) (entries : List Entry) → x ≡ controller_input.Vr from m → HasAhead m k entries → IsAheadBy kinds setup c x k entries
whole_told kinds setup x c from m k entries is h = record { bound = By_told from m k entries is h (omega arith); one = λ j among. One_told from m k entries is h (omega arith) among }

module _ (kinds : List ℕ) (setup : Setup) (me n : ℕ) (x : ControllerInput) (c : ControllerState) (o : IsOwned me n c.vr) (chain : Chain kinds setup x (beginning c) (controller_work kinds setup c x)) where
  abbrev pub work : Work
  work = controller_work kinds setup c x

  pub reached : IsReached kinds setup x c work
  reached = chain_reaches kinds setup x c o.consistent work chain

  known_bound : (k : ℕ) → IsKnownCommit x c work.state k → BoundBy kinds setup c x k
  known_bound k (Below low) = low_bound kinds setup me n x c o chain work reached (prefix_refl (committed work.state)) k low
  known_bound k (OfCollected d among is) = By_held d.commit d.log (Collects d among refl refl) (omega (arith, is))
  known_bound k (OfResponse r filled among is same) = By_held filled.commit filled.log (Answers r filled among is refl refl) (omega (arith, same))
  known_bound k (OfInput from m is tells) = let t = told_beside m k tells in By_told from m k t.0 is t.1 (omega arith)

  response_ahead : (r : Response) (filled : Filled) → r.filled ≡ Some filled → IsIn r c.vr.responses ⊎ ((nonce : ℕ) × (x ≡ controller_input.Vr r.from (message.RecoveryResponse r.view nonce r.filled))) →
      IsAheadBy kinds setup c x filled.commit filled.log
  response_ahead r filled is (inl old) = whole_held kinds setup x c filled.commit filled.log (Answers r filled old is refl refl)
  response_ahead r filled is (inr new) =
      whole_told kinds setup x c r.from (message.RecoveryResponse r.view new.0 (Some filled)) filled.commit filled.log (new.1 ∙ ap (λ (q : Option Filled). controller_input.Vr r.from (message.RecoveryResponse r.view new.0 q)) is) (refl, refl)

  supply_ahead : (p : Supplied) → (c.vr.supply ≡ Some p) ⊎ ((from : ℕ) × (view : ℕ) × (x ≡ controller_input.Vr from (message.Supply view p.first p.log))) → IsAheadBy kinds setup c x (p.first + length p.log) p.log
  supply_ahead p (inl old) = whole_held kinds setup x c (p.first + length p.log) p.log (Supplies p old refl refl)
  supply_ahead p (inr new) = whole_told kinds setup x c new.0 (message.Supply new.1 p.first p.log) (p.first + length p.log) p.log new.2 (refl, refl)

  pub both : (k k' : ℕ) (es es' : List Entry) → k ≡ k' → es ≡ es' → IsAheadBy kinds setup c x k' es' → IsAheadBy kinds setup c x k es
  both k k' es es' a b h = subst (λ (z : List Entry). IsAheadBy kinds setup c x k z) (sym b) (subst (λ (z : ℕ). IsAheadBy kinds setup c x z es') (sym a) h)

  pub ahead : (k : ℕ) (entries : List Entry) → HoldsAhead work.state.vr k entries → IsAheadBy kinds setup c x k entries
  ahead k entries (Own a b) =
      both k work.state.vr.commit entries work.state.vr.log a b
      (record {
        bound = low_bound kinds setup me n x c o chain work reached (prefix_refl (committed work.state)) work.state.vr.commit (omega arith);
        one = own_one kinds setup me n x c o chain work reached (prefix_refl (committed work.state));
      })
  ahead k entries (Collects d among a b) =
      let h = on_way kinds setup me n x c o chain work reached (prefix_refl (committed work.state)) in
      both k d.commit entries d.log a b
      (record {
        bound = known_bound d.commit ((commits_from kinds setup x c work o.consistent chain).state.collected d among);
        one = λ j k.
            let at = in_get d.log (Processed j) k in
            one_of_stood kinds setup me n x c o chain d.commit (d.commit + at.0) j
            ((stands_get (IsGoodBeside (From kinds setup me n x c o chain) (By kinds setup me n x c o chain) d.commit) d.commit at.0 d.log (Processed j) (h.state.collected d among) at.1).1 (omega arith));
      })
  ahead k entries (Answers r filled among is a b) = both k filled.commit entries filled.log a b (response_ahead r filled is ((chain_stood kinds setup x c work chain).0 r among))
  ahead k entries (Supplies p is a b) = both k (p.first + length p.log) entries p.log a b (supply_ahead p ((chain_stood kinds setup x c work chain).1 p is))

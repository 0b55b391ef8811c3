-- Where the entries and commit numbers of a controller come from, in the words of what is asked of it.
use Rattle.std.proofs.Common.{◌≡◌, ◌<◌, ◌≤◌, ◌+◌, ◌⊎◌, inl, inr, ℕ, Bool, true, false, List, [], ◌∷◌, ◌++◌, length, take, drop, zero, suc, refl, sym, ap, subst, arith, length-take}
use Rattle.std.specs.Prelude.{slice_get, Some, None}
use Rattle.std.proofs.lemmas.Bool.{cases_lt}
use Rattle.of_types.specs.declared.setup.Setup.{Setup}
use Rattle.of_types.specs.Lives.{has_ended}
use Rattle.list_facts.specs.Lists.{IsIn, IsPrefix}
use Rattle.vr_log.specs.declared.entry.Entry.{Entry}
use Rattle.vr_log.specs.declared.entry.Entry.TheVariants.{Processed}
use Rattle.vr_log.specs.declared.message.VrMessage.{VrMessage}
use Rattle.vr_log.specs.declared.message.VrMessage.TheVariants as message
use Rattle.vr_log.specs.Log.{received, processed, is_log}
use Rattle.app_core.specs.declared.issued.Issued.{Issued}
use Rattle.app_core.specs.Issued.{commands_of}
use Rattle.group_controller.specs.declared.messages.ControllerInput.{ControllerInput}
use Rattle.controller_moves.specs.ControllerLaws.Entries.{IsGoodBeside, MessageHolds, IsConsistent, WorkHolds}
use Rattle.controller_moves.specs.ControllerLaws.Moves.{Chain, IsProposed, Receives, Processes}
use Rattle.group_controller.specs.Rules.{controller_work}
use Rattle.controller_moves.specs.ControllerLaws.Sources as from
use Rattle.controller_moves.specs.ControllerLaws.Sources.{IsHeld, InLog, InCollected, InResponse, IsSupplied, InSupply, IsTold, InPrepare, InLogOf, InStart, InAnswer, InState, IsToldSupply, InSupplying, FromState, FromSupply, FromInput, FromSupplying, FromProposal, StoodBeside, ByState, ByInput, ByProposal}
use Rattle.group_controller.specs.State.{ControllerState, Work, committed}
use Rattle.group_controller.specs.Settling.{is_settled}
use Rattle.controller_moves.specs.ControllerLaws.Turns as told
use Rattle.controller_moves.specs.ControllerLaws.Turns.{beginning, IsReached, Stood, Came as CameMark}
use Rattle.list_facts.proofs.Prefixes.{prefix_length, prefix_refl, prefix_trans, take_prefix}
use Rattle.controller_moves.proofs.ControllerLaws.Logs.{processed_at}
use Rattle.controller_moves.proofs.ControllerLaws.Places.{stands_get}
use Rattle.controller_moves.proofs.ControllerLaws.Sources.{come_from}
use Rattle.controller_moves.proofs.ControllerLaws.Finished.{settled_finished, finished_marks}
use Rattle.run_laws.specs.OnceLaws.Invariant.{HasEntry, HoldsEntry, Logged, Gathered, Answered, Fetched, HasAhead, Own, Collects, Answers}
use Rattle.run_laws.specs.OnceLaws.Premises.{IsMarked, IsMoment, HasSource, Was, Came, Logs, Finishes, BoundBy, By_held, By_moment, OneBy, One_held, One_told, One_proposed}
use Rattle.list_facts.proofs.Places.{in_get, get_in}
use Rattle.run_laws.proofs.Members.{IsOwned, chain_blank}

pub some_of : (log : List Entry) → processed log < length (received log) → 0 < length log
some_of [] h = absurd (omega (arith, h))
some_of (e ∷ log) h = omega arith

split_at : {A : Type 0} (xs : List A) (n : ℕ) (x : A) → slice_get xs n ≡ Some x → xs ≡ take n xs ++ x ∷ drop (suc n) xs
split_at [] n x h = absurd cc
split_at (y ∷ xs) zero x h = let e : y ≡ x = cc in ap (λ z. z ∷ xs) e
split_at (y ∷ xs) (suc n) x h = ap (λ l. y ∷ l) (split_at xs n x h)

-- what is taken stands in the message
has_taken : (m : VrMessage) (commit n : ℕ) (e : Entry) → IsTold m commit n e → HasEntry m n e
has_taken m commit n e (InPrepare view op is place) = subst (λ (z : VrMessage). HasEntry z n e) (sym is) (sym place, refl)
has_taken m commit n e (InLogOf view normal i log is place g) = subst (λ (z : VrMessage). HasEntry z n e) (sym is) (i, place, g)
has_taken m commit n e (InStart view first i log is place g) = subst (λ (z : VrMessage). HasEntry z n e) (sym is) (i, place, g)
has_taken m commit n e (InAnswer view nonce filled is k g) = subst (λ (z : VrMessage). HasEntry z n e) (sym is) (n, omega arith, g)
has_taken m commit n e (InState view first i log is place g) = subst (λ (z : VrMessage). HasEntry z n e) (sym is) (i, place, g)

has_supplying : (m : VrMessage) (n : ℕ) (e : Entry) → IsToldSupply m n e → HasEntry m n e
has_supplying m n e (InSupplying view first i log is place g) = subst (λ (z : VrMessage). HasEntry z n e) (sym is) (i, place, g)

-- and beside its commit number
pub record BesideIn (m : VrMessage) (commit : ℕ) (e : Entry) : Type 0 where
  pub entries : List Entry
  pub has : HasAhead m commit entries
  pub among : IsIn e entries

beside_taken : (m : VrMessage) (commit n : ℕ) (e : Entry) → IsTold m commit n e → BesideIn m commit e
beside_taken m commit n e (InPrepare view op is place) = record { entries = e ∷ []; has = subst (λ (z : VrMessage). HasAhead z commit (e ∷ [])) (sym is) (refl, refl); among = inl refl }
beside_taken m commit n e (InLogOf view normal i log is place g) = record { entries = log; has = subst (λ (z : VrMessage). HasAhead z commit log) (sym is) (refl, refl); among = get_in log e i g }
beside_taken m commit n e (InStart view first i log is place g) = record { entries = log; has = subst (λ (z : VrMessage). HasAhead z commit log) (sym is) (refl, refl); among = get_in log e i g }
beside_taken m commit n e (InAnswer view nonce filled is k g) = record { entries = filled.log; has = subst (λ (z : VrMessage). HasAhead z commit filled.log) (sym is) (k, refl); among = get_in filled.log e n g }
beside_taken m commit n e (InState view first i log is place g) = record { entries = log; has = subst (λ (z : VrMessage). HasAhead z commit log) (sym is) (refl, refl); among = get_in log e i g }

module _ (kinds : List ℕ) (setup : Setup) (me n : ℕ) (x : ControllerInput) (c : ControllerState) (o : IsOwned me n c.vr) (chain : Chain kinds setup x (beginning c) (controller_work kinds setup c x)) where
  abbrev pub last : ControllerState
  last = (controller_work kinds setup c x).state

  abbrev pub Front : ControllerState → Type 0
  Front s = IsPrefix (committed s) (committed last)

  pub moment_of : (log : List Entry) → 0 < length log → IsPrefix log (committed last) → IsMoment (controller_work kinds setup c x) log
  moment_of log some p =
      record {
        up = elim (chain_blank kinds setup x c (controller_work kinds setup c x) o.blank chain) [
          | inl u ↦ u
          | inr none ↦ absurd (let l = prefix_length p in let t = length-take last.vr.commit last.vr.log in omega (arith, some, l, t, none))
        ];
        front = p;
      }

  mark_of : (s life i : ℕ) → told.HoldsMark x c s life i → IsMarked c x s life i
  mark_of s life i (Stood k) = inl k
  mark_of s life i (CameMark xid outcome is) = inr (xid, outcome, is)

  pub short_front : (w : Work) → IsConsistent w.state.vr → length (committed w.state) ≡ w.state.vr.commit
  short_front w kept = let l = kept.commit in let t = length-take w.state.vr.commit w.state.vr.log in omega (arith, l, t)

  each_done : (mid : Work) → IsReached kinds setup x c mid → is_settled kinds setup mid.state ≡ true → (y : Issued) → IsIn y (commands_of kinds setup (received (committed mid.state)) (processed (committed mid.state))) →
      (b : Bool) → has_ended y.switch y.life (received (committed mid.state)) ≡ b → IsMarked c x y.switch y.life y.number ⊎ (has_ended y.switch y.life (received (committed mid.state)) ≡ true)
  each_done mid r ready y k true ended = inr ended
  each_done mid r ready y k false on =
      inl (mark_of y.switch y.life y.number (r.marks y.switch y.life y.number (finished_marks kinds setup mid.state ready y k on)))

  proposal_comes : (mid : Work) (i : ℕ) (e : Entry) → IsReached kinds setup x c mid → Front mid.state → IsProposed kinds setup x mid.state e → i ≡ length mid.state.vr.log → HasSource kinds setup c x i e
  proposal_comes mid i e r front (Receives s xid life number what asks may is) place = Logs s xid life number what asks is
  proposal_comes mid i e r front (Processes ready is) place =
      let f = settled_finished kinds setup mid.state r.consistent ready in
      let there = f.there in
      let l = r.consistent.commit in
      let short = short_front mid r.consistent in
      Finishes (committed mid.state) (moment_of (committed mid.state) (some_of (committed mid.state) there) front) (omega (arith, short, l, place)) there is
      (λ y k. each_done mid r ready y k (has_ended y.switch y.life (received (committed mid.state))) refl)

  held_was : (commit i : ℕ) (e : Entry) → IsHeld c.vr commit i e → HoldsEntry c.vr i e
  held_was commit i e (InLog k g) = Logged g
  held_was commit i e (InCollected d j k same place g) = Gathered d k (j, place, g)
  held_was commit i e (InResponse r filled k is same g) = Answered r filled k is (i, omega arith, g)

  pub comes : (i : ℕ) (e : Entry) → from.ComesFrom kinds setup x c last i e → HasSource kinds setup c x i e
  comes i e (FromState commit held) = Was (held_was commit i e held)
  comes i e (FromSupply (InSupply p j is place g)) = Was (Fetched p is (j, place, g))
  comes i e (FromInput sender commit m is taken) = Came sender m is (has_taken m commit i e taken)
  comes i e (FromSupplying sender m is supplies) = Came sender m is (has_supplying m i e supplies)
  comes i e (FromProposal mid r front proposed place) = proposal_comes mid i e r front proposed place

  abbrev pub From : ℕ → Entry → Type 0
  From i e = from.ComesFrom kinds setup x c last i e

  abbrev pub By : ℕ → ℕ → Entry → Type 0
  By k i e = StoodBeside kinds setup x c last k i e

  -- what a state on the way holds
  pub on_way : (w : Work) → IsReached kinds setup x c w → Front w.state → WorkHolds From By w
  on_way w r front = come_from kinds setup x c last w o.consistent r.chain front

  pub holds_come : (w : Work) → WorkHolds From By w → (i : ℕ) (e : Entry) → HoldsEntry w.state.vr i e → HasSource kinds setup c x i e
  holds_come w h i e (Logged g) = comes i e (subst (λ (m : ℕ). From m e) (omega arith) (stands_get (IsGoodBeside From By w.state.vr.commit) 0 i w.state.vr.log e h.state.log g).0)
  holds_come w h i e (Gathered d k at) =
      comes i e (subst (λ (m : ℕ). From m e) (sym at.1) (stands_get (IsGoodBeside From By d.commit) d.commit at.0 d.log e (h.state.collected d k) at.2).0)
  holds_come w h i e (Answered r filled k is at) =
      comes i e (subst (λ (m : ℕ). From m e) (sym at.1) (stands_get (IsGoodBeside From By filled.commit) 0 at.0 filled.log e (h.state.responses r k filled is) at.2).0)
  holds_come w h i e (Fetched p is at) = comes i e (subst (λ (m : ℕ). From m e) (sym at.1) (stands_get From p.first at.0 p.log e (h.state.supply p is) at.2))

  -- and what is said
  pub says_come : (m : VrMessage) → MessageHolds From By m → (i : ℕ) (e : Entry) → HasEntry m i e → HasSource kinds setup c x i e
  says_come (message.Prepare view op commit entry) h i e has = comes i e (subst (λ (y : Entry). From i y) (sym has.1) (h i (sym has.0)).0)
  says_come (message.PrepareOk view op) h i e has = absurd has
  says_come (message.Commit view commit) h i e has = absurd has
  says_come (message.StartViewChange view) h i e has = absurd has
  says_come (message.DoViewChange view normal commit log) h i e has = comes i e (subst (λ (m : ℕ). From m e) (sym has.1) (stands_get (IsGoodBeside From By commit) commit has.0 log e h has.2).0)
  says_come (message.StartView view first commit log) h i e has = comes i e (subst (λ (m : ℕ). From m e) (sym has.1) (stands_get (IsGoodBeside From By commit) first has.0 log e h has.2).0)
  says_come (message.Recovery nonce promise) h i e has = absurd has
  says_come (message.RecoveryResponse view nonce None) h i e has = absurd has
  says_come (message.RecoveryResponse view nonce (Some filled)) h i e has = comes i e (subst (λ (m : ℕ). From m e) (sym has.1) (stands_get (IsGoodBeside From By filled.commit) 0 has.0 filled.log e h has.2).0)
  says_come (message.GetState view op) h i e has = absurd has
  says_come (message.NewState view first commit log) h i e has = comes i e (subst (λ (m : ℕ). From m e) (sym has.1) (stands_get (IsGoodBeside From By commit) first has.0 log e h has.2).0)
  says_come (message.Fetch view op) h i e has = absurd has
  says_come (message.Supply view first log) h i e has = comes i e (subst (λ (m : ℕ). From m e) (sym has.1) (stands_get From first has.0 log e h has.2))

  -- bounds
  pub low_bound : (w : Work) → IsReached kinds setup x c w → Front w.state → (k : ℕ) → k ≤ w.state.vr.commit → BoundBy kinds setup c x k
  low_bound w r front zero low = By_held c.vr.commit c.vr.log (Own refl refl) (omega arith)
  low_bound w r front (suc k) low =
      let short = short_front w r.consistent in
      By_moment (committed w.state) (moment_of (committed w.state) (omega (arith, short, low)) front) (omega (arith, short, low))

  pub one_of_stood : (k i j : ℕ) → By k i (Processed j) → OneBy kinds setup c x k j
  one_of_stood k i j (ByState commit low (InLog same g)) = One_held commit c.vr.log (Own same refl) low (get_in c.vr.log (Processed j) i g)
  one_of_stood k i j (ByState commit low (InCollected d p a same place g)) = One_held commit d.log (Collects d a same refl) low (get_in d.log (Processed j) p g)
  one_of_stood k i j (ByState commit low (InResponse r filled a is same g)) = One_held commit filled.log (Answers r filled a is same refl) low (get_in filled.log (Processed j) i g)
  one_of_stood k i j (ByInput sender commit m low is taken) = let b = beside_taken m commit i (Processed j) taken in One_told sender m commit b.entries is b.has low b.among
  one_of_stood k i j (ByProposal mid low r front (Receives s xid life number what asks may is) place) = absurd cc
  one_of_stood k i j (ByProposal mid low r front (Processes ready is) place) =
      let f = settled_finished kinds setup mid.state r.consistent ready in
      let there = f.there in
      let short = short_front mid r.consistent in
      let same : j ≡ processed (committed mid.state) = cc in
      One_proposed (committed mid.state) (moment_of (committed mid.state) (some_of (committed mid.state) there) front) (omega (arith, short, low)) there same

  -- beside the commit number of a state on the way
  pub own_one : (w : Work) → IsReached kinds setup x c w → Front w.state → (j : ℕ) → IsIn (Processed j) w.state.vr.log → OneBy kinds setup c x w.state.vr.commit j
  own_one w r front j among =
      let s = w.state.vr in
      let at = in_get s.log (Processed j) among in
      elim (cases_lt at.0 s.commit) [
        | inl below ↦
            let p = processed_at (take at.0 s.log) j (drop (suc at.0) s.log) (subst (λ (l : List Entry). is_log l ≡ true) (split_at s.log at.0 (Processed j) at.1) r.consistent.follow) in
            let same = p.0 in
            let more = p.1 in
            let there : processed (take at.0 s.log) < length (received (take at.0 s.log)) = omega (arith, same, more) in
            let short = length-take at.0 s.log in
            One_proposed (take at.0 s.log) (moment_of (take at.0 s.log) (some_of (take at.0 s.log) there) (prefix_trans (take_prefix at.0 s.commit (omega (arith, below)) (prefix_refl s.log)) front)) (omega (arith, short, below)) there same
        | inr beyond ↦
            let h = on_way w r front in
            one_of_stood s.commit (0 + at.0) j ((stands_get (IsGoodBeside From By s.commit) 0 at.0 s.log (Processed j) h.state.log at.1).1 (omega (arith, beyond)))
      ]

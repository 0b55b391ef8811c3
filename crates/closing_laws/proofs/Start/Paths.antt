-- What a group goes through until its view starts: each member that takes a turn changes view, before it and behind it.
use Rattle.std.proofs.Common.{◌≡◌, ◌≤◌, ℕ, zero, suc, ◌+◌, ◌/◌, ◌%◌, Bool, true, false, List, [], ◌∷◌, map, refl, sym, ◌∙◌, ap, subst, arith}
use Rattle.std.specs.Prelude.{nat_eq, None, if◌then◌else◌}
use Rattle.std.proofs.lemmas.Bool.{eq-eqb}
use Rattle.vr_log.specs.declared.message.VrMessage.{VrMessage}
use Rattle.vr_log.specs.declared.state.VrState.{VrState}
use Rattle.vr_log.specs.Members.{is_up, is_changing}
use Rattle.vr_log.specs.Steps.{VrStep}
use Rattle.view_change.specs.Entering.{tells_start}
use Rattle.vr_core.specs.declared.input.VrInput.TheVariants as vr_input
use Rattle.vr_core.specs.Step.{vr_step}
use Rattle.closing_laws.specs.Quorum.{has}
use Rattle.closing_laws.specs.Draining.{Flight, GroupState, drained_group, drains, suspected, took_flight}
use Rattle.closing_laws.specs.Views.{in_view, lacks, log_of, started_with, tellers, turns_to_start}
use Rattle.closing_laws.proofs.Start.Calls.{AreChanging}

-- the turn of a member that draws a packet
abbrev pub hears : GroupState → Flight → VrStep
hears g f = vr_step (g.at f.to) (vr_input.From f.from f.message)

-- from a group, of which these are still to suspect, to the group before the turn that starts the view
pub data Path (w : ℕ) (quorum : List ℕ) (z : GroupState) : List ℕ → GroupState → Type 0 where
  Arrives : (g : GroupState) → g ≡ z → Path w quorum z [] g
  Suspects : (m : ℕ) (ms : List ℕ) (g : GroupState) → has quorum m ≡ true → is_up (g.at m) ≡ true → is_changing (vr_step (g.at m) (vr_input.Suspect w)).state ≡ true →
      Path w quorum z ms (suspected g w m) → Path w quorum z (m ∷ ms) g
  Draws : (g : GroupState) (f : Flight) (waiting : List Flight) → g.pool ≡ f ∷ waiting → has quorum f.to ≡ true → is_changing (g.at f.to) ≡ true → is_changing (hears g f).state ≡ true →
      Path w quorum z [] (took_flight g f.to (hears g f) waiting) → Path w quorum z [] g
  Loses : (g : GroupState) (f : Flight) (waiting : List Flight) → g.pool ≡ f ∷ waiting → has quorum f.to ≡ false → Path w quorum z [] (record g { pool = waiting }) → Path w quorum z [] g

-- each turn counts
pub path_turns : (w : ℕ) (quorum : List ℕ) (z : GroupState) (ms : List ℕ) (g : GroupState) → Path w quorum z ms g → g.turns ≤ z.turns
path_turns w quorum z _ _ (Arrives g is) = let same = ap (λ (x : GroupState). x.turns) is in omega (arith, same)
path_turns w quorum z _ _ (Suspects m ms g member up changes rest) = let more = path_turns w quorum z ms (suspected g w m) rest in omega (arith, more)
path_turns w quorum z _ _ (Draws g f waiting waits member changing changes rest) = let more = path_turns w quorum z [] (took_flight g f.to (hears g f) waiting) rest in omega (arith, more)
path_turns w quorum z _ _ (Loses g f waiting waits other rest) = path_turns w quorum z [] (record g { pool = waiting }) rest

-- what is drained is one
pub of_drains : (w : ℕ) (quorum : List ℕ) (z : GroupState) (k : ℕ) (g : GroupState) → ((i : ℕ) → i ≤ k → AreChanging quorum (drains i quorum g).at) → drains k quorum g ≡ z → Path w quorum z [] g
unfolding drains
of_drains w quorum z zero g still ends = Arrives g ends
of_drains w quorum z (suc k) g still ends =
    by_pool g.pool refl
    (λ next is. of_drains w quorum z k next (λ i le. subst (λ (x : GroupState). AreChanging quorum (drains i quorum x).at) is (still (suc i) (omega (arith, le))))
    (sym (ap (drains k quorum) is) ∙ ends))
  where
    by_pool : (pool : List Flight) → g.pool ≡ pool → ((next : GroupState) → drained_group quorum g g.pool ≡ next → Path w quorum z [] next) → Path w quorum z [] g
    by_pool [] e later = later g (ap (drained_group quorum g) e)
    by_pool (f ∷ waiting) e later = by_member (has quorum f.to) refl
      where
        by_member : (b : Bool) → has quorum f.to ≡ b → Path w quorum z [] g
        by_member true member =
            let next : GroupState = took_flight g f.to (hears g f) waiting in
            let is : drained_group quorum g g.pool ≡ next = ap (drained_group quorum g) e ∙ ap (λ (b : Bool). if b then next else record g { pool = waiting }) member in
            let changes : is_changing (next.at f.to) ≡ true = subst (λ (x : GroupState). is_changing (x.at f.to) ≡ true) is (still 1 (omega arith) f.to member) in
            Draws g f waiting e member (still 0 (omega arith) f.to member)
            (ap (λ (b : Bool). is_changing (if b then (hears g f).state else g.at f.to)) (sym (eq-eqb f.to f.to refl)) ∙ changes) (later next is)
        by_member false other =
            let next : GroupState = record g { pool = waiting } in
            Loses g f waiting e other (later next (ap (drained_group quorum g) e ∙ ap (λ (b : Bool). if b then took_flight g f.to (hears g f) waiting else next) other))

-- the group before the turn that starts the view: one packet waits, for the primary
pub record IsLast (n w : ℕ) (quorum : List ℕ) (start : ℕ → VrState) (best : ℕ) (z : GroupState) : Type 0 where
  pub voters : ℕ → List ℕ
  pub sender : ℕ
  pub message : VrMessage
  pub waits : z.pool ≡ record { from = sender; to = w % n; message = message } ∷ []
  pub changes : AreChanging quorum z.at
  pub starts : vr_step (z.at (w % n)) (vr_input.From sender message) ≡ tells_start (started_with (start (w % n)) w (voters (w % n)) (map (log_of start) (tellers (w % n) quorum)) (start best).log)
  pub others : (j : ℕ) → has quorum j ≡ true → nat_eq j (w % n) ≡ false → z.at j ≡ in_view (start j) w (voters j) true [] None
  pub outside : (j : ℕ) → has quorum j ≡ false → z.at j ≡ start j
  pub turns : z.turns + 1 ≡ turns_to_start (n / 2) (lacks (w % n) start best)

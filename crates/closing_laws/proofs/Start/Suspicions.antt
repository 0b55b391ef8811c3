-- The members of a quorum suspect a view, one after another.
use Rattle.std.proofs.Common.{◌≡◌, ◌<◌, inl, inr, ℕ, ◌+◌, ◌/◌, Bool, true, false, List, [], ◌∷◌, length, refl, sym, ◌∙◌, ap, subst, arith}
use Rattle.std.specs.Prelude.{nat_eq, Some, None, if◌then◌else◌}
use Rattle.std.proofs.lemmas.Bool.{eq-eqb, ne_eqb, eqb-true, eqb-false, or_cases, or_parts, true≢false, both_ways}
use Rattle.vr_log.specs.declared.message.VrMessage.TheVariants as message
use Rattle.vr_log.specs.declared.state.VrState.{VrState}
use Rattle.vr_log.specs.Members.{is_up, is_changing}
use Rattle.vr_log.specs.Steps.{VrStep, to_others}
use Rattle.vr_core.specs.declared.input.VrInput.TheVariants as vr_input
use Rattle.vr_core.specs.Step.{vr_step}
use Rattle.closing_laws.specs.Quorum.{has}
use Rattle.closing_laws.specs.Draining.{GroupState, suspected, all_suspected}
use Rattle.closing_laws.specs.Views.{IsReadyMember, in_view}
use Rattle.closing_laws.proofs.Lists.Numbers.{Once, has_here, has_later}
use Rattle.closing_laws.proofs.Start.Members.{suspects}
use Rattle.closing_laws.proofs.Start.Paths.{Path, Suspects}

-- the suspicions alone
module _ (n w : ℕ) (quorum : List ℕ) (start : ℕ → VrState) (ready : (j : ℕ) → has quorum j ≡ true → IsReadyMember n w j (start j)) (group : 0 < n / 2) where
  abbrev Fresh : List ℕ → GroupState → Type 0
  Fresh cs g = (j : ℕ) → has cs j ≡ true → (g.at j ≡ start j) × (has quorum j ≡ true)

  does_enter : (c : ℕ) → has quorum c ≡ true → vr_step (start c) (vr_input.Suspect w) ≡ record { state = in_view (start c) w [] false [] None; promise = Some w; letters = to_others (start c) (message.StartViewChange w) }
  does_enter c member = let m = ready c member in suspects n w c (start c) m (subst (λ (k : ℕ). 0 < k / 2) (sym m.size) group)

  still_fresh : (c : ℕ) (cs : List ℕ) (g : GroupState) → Once (c ∷ cs) → Fresh (c ∷ cs) g → Fresh cs (suspected g w c)
  still_fresh c cs g once fresh j h =
      let r = fresh j (has_later c j cs h) in
      (ap (λ (b : Bool). if b then (vr_step (g.at c) (vr_input.Suspect w)).state else g.at j) (ne_eqb j c (λ e. both_ways (has cs j) (ap (has cs) e ∙ once.0) h)) ∙ r.0, r.1)

  pub suspects_path : (z : GroupState) (cs : List ℕ) (g : GroupState) → Once cs → Fresh cs g → Path w quorum z [] (all_suspected g w cs) → Path w quorum z cs g
  suspects_path z [] g once fresh rest = rest
  suspects_path z (c ∷ cs) g once fresh rest =
      let f = fresh c (has_here c cs) in
      let m = ready c f.1 in
      Suspects c cs g f.1 (ap is_up f.0 ∙ m.up)
      (ap (λ (s : VrState). is_changing (vr_step s (vr_input.Suspect w)).state) f.0 ∙ ap (λ (x : VrStep). is_changing x.state) (does_enter c f.1))
      (suspects_path z cs (suspected g w c) once.1 (still_fresh c cs g once fresh) rest)

  untouched : (cs : List ℕ) (g : GroupState) (j : ℕ) → has cs j ≡ false → (all_suspected g w cs).at j ≡ g.at j
  untouched [] g j none = refl
  untouched (c ∷ cs) g j none =
      let parts = or_parts (nat_eq c j) (has cs j) none in
      untouched cs (suspected g w c) j parts.1
      ∙ ap (λ (b : Bool). if b then (vr_step (g.at c) (vr_input.Suspect w)).state else g.at j) (ne_eqb j c (λ e. eqb-false c j parts.0 (sym e)))

  pub entered_all : (cs : List ℕ) (g : GroupState) → Once cs → Fresh cs g → (j : ℕ) → has cs j ≡ true → (all_suspected g w cs).at j ≡ in_view (start j) w [] false [] None
  entered_all [] g once fresh j h = absurd (true≢false (sym h))
  entered_all (c ∷ cs) g once fresh j h = by_first (nat_eq c j) refl (λ k. entered_all cs (suspected g w c) once.1 (still_fresh c cs g once fresh) j k)
    where
      by_first : (b : Bool) → nat_eq c j ≡ b → (has cs j ≡ true → (all_suspected (suspected g w c) w cs).at j ≡ in_view (start j) w [] false [] None) → (all_suspected (suspected g w c) w cs).at j ≡ in_view (start j) w [] false [] None
      by_first true e rest =
          let same = eqb-true c j e in
          let f = fresh c (has_here c cs) in
          subst (λ (k : ℕ). (all_suspected (suspected g w c) w cs).at k ≡ in_view (start k) w [] false [] None) same
          (untouched cs (suspected g w c) c once.0
          ∙ ap (λ (b : Bool). if b then (vr_step (g.at c) (vr_input.Suspect w)).state else g.at c) (eq-eqb c c refl)
          ∙ ap (λ (s : VrState). (vr_step s (vr_input.Suspect w)).state) f.0 ∙ ap (λ (x : VrStep). x.state) (does_enter c f.1))
      by_first false e rest = rest (elim (or_cases (nat_eq c j) (has cs j) h) [ inl i ↦ absurd (both_ways (nat_eq c j) e i) | inr k ↦ k ])

pub suspicion_turns : (w : ℕ) (cs : List ℕ) (g : GroupState) → (all_suspected g w cs).turns ≡ g.turns + length cs
suspicion_turns w [] g = omega arith
suspicion_turns w (c ∷ cs) g = let rest = suspicion_turns w cs (suspected g w c) in omega (arith, rest)

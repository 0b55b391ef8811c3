-- The fence of a switch has accepted the greatest generation that asked it in its life, and lets only its master's
-- commands of that generation pass.
use Rattle.std.proofs.Common.{◌≡◌, ◌≤◌, ◌<◌, ℕ, ◌+◌, ◌-◌, ◌*◌, ◌%◌, ◌^◌, Bool, true, false, List, [], ◌∷◌, ◌++◌, length, zero, suc, refl, sym, ◌∙◌, ap, subst, inl, inr, ◌⊎◌, arith, le_trans, length-append, mod-eq_of_lt}
use Rattle.std.specs.Prelude.{drop, slice_index_or, nat_eq, nat_lt, Option, Some, None, if◌then◌else◌}
use Rattle.std.proofs.lemmas.Bool.{cases_lt, eqb-true, and_parts, le-leb, lt-leb}
use Rattle.std.specs.List.{AllByRecursion}
use Rattle.std.proofs.Math.Seq.{drop-append_seam, drop-length}
use Rattle.std.proofs.lemmas.Nat.{mod_low}
use Rattle.of_types.specs.declared.message.Executed.{Executed}
use Rattle.of_types.specs.declared.message.Extension.{Extension}
use Rattle.of_types.specs.declared.message.Extension.TheVariants as extension
use Rattle.of_types.specs.declared.message.OfMessage.TheVariants as plain
use Rattle.of_types.specs.declared.message.Order.{Order}
use Rattle.of_types.specs.declared.message.Spoken.{Spoken}
use Rattle.of_types.specs.declared.message.Spoken.TheVariants as spoken
use Rattle.of_types.specs.declared.numbers.TheConstants.{MASTER}
use Rattle.of_types.specs.declared.setup.Setup.{Setup}
use Rattle.of_types.specs.Lives.{last_life, switch_up}
use Rattle.journal.specs.declared.journal.Local.{Local}
use Rattle.journal.specs.declared.journal.Local.TheVariants as local
use Rattle.role_fence.specs.Fence.{Fence, is_some_of, is_stale, may_execute, as_master}
use Rattle.of_switch.specs.declared.says.SwitchInput.{SwitchInput}
use Rattle.of_switch.specs.declared.says.SwitchInput.TheVariants as switch_input
use Rattle.of_switch.specs.State.{SwitchState, SwitchTurn, quiet_switch, posts, then_turn, greetings, life_of}
use Rattle.of_switch.specs.Events.{raised, next_life, tells_ports, switch_on_restart}
use Rattle.of_switch.specs.Rules.{switch_turn}
use Rattle.run_laws.proofs.OnceLaws.SwitchMoves.{Move, Raises, Says, Notes, Changes, Ages, Clears, Executes, Masters, Fences, Restarts, fenced, turn_keeps}
use Rattle.run_spec.specs.declared.messages.Message.TheVariants as message
use Rattle.run_spec.specs.declared.messages.Unsealed.TheVariants as unsealed
use Rattle.run_spec.specs.Laws.{master_asked, IsGreatest, Heard, heard_local}
use Rattle.run_laws.specs.OnceLaws.Facts.{PastFacts}
use Rattle.run_laws.specs.OnceLaws.Truths.{MayTell}

-- an input that neither asks for a role nor begins a life
pub record IsCalm (x : SwitchInput) : Type 0 where
  pub asks : (c xid role generation : ℕ) → x ≡ switch_input.Of c xid (spoken.Plain (plain.RoleRequest role generation)) → ⊥
  pub lives : x ≡ switch_input.Local local.Restart → ⊥

-- without a restart the life stays
pub life_stays : (x : SwitchInput) (start : SwitchState) → (x ≡ switch_input.Local local.Restart → ⊥) → life_of (switch_turn start x).state ≡ life_of start
life_stays x start other = turn_keeps x (λ (t : SwitchTurn). life_of t.state ≡ life_of start) stays start refl
  where
    stays : (t t' : SwitchTurn) → Move x t t' → life_of t.state ≡ life_of start → life_of t'.state ≡ life_of start
    stays t t' (Raises what raised is) h = ap (λ (y : SwitchTurn). life_of y.state) is ∙ h
    stays t t' (Says ls all is) h = ap (λ (y : SwitchTurn). life_of y.state) is ∙ h
    stays t t' (Notes down sent outcomes dirty is) h = ap (λ (y : SwitchTurn). life_of y.state) is ∙ h
    stays t t' (Changes c xid life generation number through change asks is) h = ap (λ (y : SwitchTurn). life_of y.state) is ∙ h
    stays t t' (Ages table stay is) h = ap (λ (y : SwitchTurn). life_of y.state) is ∙ h
    stays t t' (Clears c xid life through asks own is) h = ap (λ (y : SwitchTurn). life_of y.state) is ∙ h
    stays t t' (Executes c xid life generation number through what result asks own may next is) h = ap (λ (y : SwitchTurn). life_of y.state) is ∙ h
    stays t t' (Masters c xid role generation asks master fresh first is) h = ap (λ (y : SwitchTurn). life_of y.state) is ∙ h
    stays t t' (Fences c xid role generation fence asks otherwise first is) h = ap (λ (y : SwitchTurn). life_of y.state) is ∙ h
    stays t t' (Restarts asks further first is) h = absurd (other asks)

-- and without a request for a role, too, the fence stays
pub fence_stays : (x : SwitchInput) (start : SwitchState) → IsCalm x → (switch_turn start x).state.fence ≡ start.fence
fence_stays x start calm = turn_keeps x (λ (t : SwitchTurn). t.state.fence ≡ start.fence) stays start refl
  where
    stays : (t t' : SwitchTurn) → Move x t t' → t.state.fence ≡ start.fence → t'.state.fence ≡ start.fence
    stays t t' (Raises what raised is) h = ap (λ (y : SwitchTurn). y.state.fence) is ∙ h
    stays t t' (Says ls all is) h = ap (λ (y : SwitchTurn). y.state.fence) is ∙ h
    stays t t' (Notes down sent outcomes dirty is) h = ap (λ (y : SwitchTurn). y.state.fence) is ∙ h
    stays t t' (Changes c xid life generation number through change asks is) h = ap (λ (y : SwitchTurn). y.state.fence) is ∙ h
    stays t t' (Ages table stay is) h = ap (λ (y : SwitchTurn). y.state.fence) is ∙ h
    stays t t' (Clears c xid life through asks own is) h = ap (λ (y : SwitchTurn). y.state.fence) is ∙ h
    stays t t' (Executes c xid life generation number through what result asks own may next is) h = ap (λ (y : SwitchTurn). y.state.fence) is ∙ h
    stays t t' (Masters c xid role generation asks master fresh first is) h = absurd (calm.asks c xid role generation asks)
    stays t t' (Fences c xid role generation fence asks otherwise first is) h = absurd (calm.asks c xid role generation asks)
    stays t t' (Restarts asks further first is) h = absurd (calm.lives asks)

-- the one command that a turn may carry out
pub record IsGrown (x : SwitchInput) (start : SwitchState) (t : SwitchTurn) : Type 0 where
  pub c : ℕ
  pub xid : ℕ
  pub life : ℕ
  pub generation : ℕ
  pub number : ℕ
  pub through : ℕ
  pub what : Order
  pub asks : x ≡ switch_input.Of c xid (spoken.Ravana (extension.Command life generation number through what))
  pub new : Executed
  pub is : t.state.executed ≡ start.executed ++ new ∷ []
  pub may : may_execute start.fence new.from new.generation ≡ true
  pub own : life ≡ life_of start
  pub new_is : new ≡ record { life = life_of start; number = number; generation = generation; from = c; order = what }
  pub place : number ≡ start.results.executed
  pub count : t.state.results.executed ≡ start.results.executed + 1

pub record IsSame (x : SwitchInput) (start : SwitchState) (t : SwitchTurn) : Type 0 where
  pub is : t.state.executed ≡ start.executed
  pub count : IsCalm x → t.state.results.executed ≡ start.results.executed

pub record Carries (x : SwitchInput) (start : SwitchState) (t : SwitchTurn) : Type 0 where
  pub life : IsCalm x → life_of t.state ≡ life_of start
  pub fence : IsCalm x → t.state.fence ≡ start.fence
  pub grown : IsSame x start t ⊎ IsGrown x start t

calm_ravana : (x : SwitchInput) (c xid : ℕ) (m : Extension) → x ≡ switch_input.Of c xid (spoken.Ravana m) → IsCalm x
calm_ravana x c xid m is =
    record {
      asks = λ d yid role g asks. let differ : switch_input.Of c xid (spoken.Ravana m) ≡ switch_input.Of d yid (spoken.Plain (plain.RoleRequest role g)) = sym is ∙ asks in absurd cc;
      lives = λ restart. let differ : switch_input.Of c xid (spoken.Ravana m) ≡ switch_input.Local local.Restart = sym is ∙ restart in absurd cc;
    }

module _ (x : SwitchInput) (start : SwitchState) where
  same_grown : (t t' : SwitchTurn) → t'.state.executed ≡ t.state.executed → t'.state.results.executed ≡ t.state.results.executed → IsSame x start t ⊎ IsGrown x start t → IsSame x start t' ⊎ IsGrown x start t'
  same_grown t t' same count (inl e) = inl (record { is = same ∙ e.is; count = λ calm. count ∙ e.count calm })
  same_grown t t' same count (inr g) =
      inr (record { c = g.c; xid = g.xid; life = g.life; generation = g.generation; number = g.number; through = g.through; what = g.what; asks = g.asks; new = g.new; is = same ∙ g.is; may = g.may; own = g.own; new_is = g.new_is; place = g.place; count = count ∙ g.count })

  same_carries : (t t' : SwitchTurn) (s : SwitchState) → t'.state ≡ s → life_of s ≡ life_of t.state → s.fence ≡ t.state.fence → s.executed ≡ t.state.executed → s.results.executed ≡ t.state.results.executed → Carries x start t → Carries x start t'
  same_carries t t' s is lives fences same count h =
      record {
        life = λ calm. ap (λ (y : SwitchState). life_of y) is ∙ lives ∙ h.life calm;
        fence = λ other. ap (λ (y : SwitchState). y.fence) is ∙ fences ∙ h.fence other;
        grown = same_grown t t' (ap (λ (y : SwitchState). y.executed) is ∙ same) (ap (λ (y : SwitchState). y.results.executed) is ∙ count) h.grown;
      }

  role_carries : (t t' : SwitchTurn) (f : Fence) (c xid role generation : ℕ) → t' ≡ record t { state = fenced t.state f } → x ≡ switch_input.Of c xid (spoken.Plain (plain.RoleRequest role generation)) → Carries x start t → Carries x start t'
  role_carries t t' f c xid role generation is asks h =
      record {
        life = λ calm. absurd (calm.asks c xid role generation asks);
        fence = λ calm. absurd (calm.asks c xid role generation asks);
        grown = same_grown t t' (ap (λ (y : SwitchTurn). y.state.executed) is) (ap (λ (y : SwitchTurn). y.state.results.executed) is) h.grown;
      }

  restarts_carries : (t t' : SwitchTurn) → x ≡ switch_input.Local local.Restart → t'.state.executed ≡ t.state.executed → Carries x start t → Carries x start t'
  restarts_carries t t' asks same h =
      record {
        life = λ calm. absurd (calm.lives asks);
        fence = λ calm. absurd (calm.lives asks);
        grown = elim h.grown [
          | inl e ↦ inl (record { is = same ∙ e.is; count = λ calm. absurd (calm.lives asks) })
          | inr g ↦
              let differ : switch_input.Local local.Restart ≡ switch_input.Of g.c g.xid (spoken.Ravana (extension.Command g.life g.generation g.number g.through g.what)) = sym asks ∙ g.asks in
              absurd cc
        ];
      }

  carries_move : (t t' : SwitchTurn) → Move x t t' → Carries x start t → Carries x start t'
  carries_move t t' (Raises what raised is) h = same_carries t t' _ (ap (λ (y : SwitchTurn). y.state) is) refl refl refl refl h
  carries_move t t' (Says ls all is) h = same_carries t t' _ (ap (λ (y : SwitchTurn). y.state) is) refl refl refl refl h
  carries_move t t' (Notes down sent outcomes dirty is) h = same_carries t t' _ (ap (λ (y : SwitchTurn). y.state) is) refl refl refl refl h
  carries_move t t' (Changes c xid life generation number through change asks is) h = same_carries t t' _ (ap (λ (y : SwitchTurn). y.state) is) refl refl refl refl h
  carries_move t t' (Ages table stay is) h = same_carries t t' _ (ap (λ (y : SwitchTurn). y.state) is) refl refl refl refl h
  carries_move t t' (Clears c xid life through asks own is) h = same_carries t t' _ (ap (λ (y : SwitchTurn). y.state) is) refl refl refl refl h
  carries_move t t' (Masters c xid role generation asks master fresh first is) h = role_carries t t' _ c xid role generation is asks h
  carries_move t t' (Fences c xid role generation fence asks otherwise first is) h = role_carries t t' fence c xid role generation is asks h
  carries_move t t' (Restarts asks further first is) h = restarts_carries t t' asks (ap (λ (y : SwitchTurn). y.state.executed) is) h
  carries_move t t' (Executes c xid life generation number through what result asks own may next is) h =
      record {
        life = λ calm. ap (λ (y : SwitchTurn). life_of y.state) is ∙ h.life calm;
        fence = λ other. ap (λ (y : SwitchTurn). y.state.fence) is ∙ h.fence other;
        grown = grows h.grown;
      }
    where
      place : number ≡ t.state.results.executed
      place = eqb-true number t.state.results.executed next

      calm : IsCalm x
      calm = calm_ravana x c xid (extension.Command life generation number through what) asks

      grows : IsSame x start t ⊎ IsGrown x start t → IsSame x start t' ⊎ IsGrown x start t'
      grows (inl e) =
          let new : Executed = record { life = life_of t.state; number = number; generation = generation; from = c; order = what } in
          let old = e.count calm in
          let more = ap (λ (y : SwitchTurn). y.state.results.executed) is in
          inr (record {
            c = c;
            xid = xid;
            life = life;
            generation = generation;
            number = number;
            through = through;
            what = what;
            asks = asks;
            new = new;
            is = ap (λ (y : SwitchTurn). y.state.executed) is ∙ ap (λ (l : List Executed). l ++ new ∷ []) e.is;
            may = ap (λ (f : Fence). may_execute f c generation) (sym (h.fence calm)) ∙ may;
            own = eqb-true life (life_of t.state) own ∙ h.life calm;
            new_is = ap (λ (n : ℕ). record { life = n; number = number; generation = generation; from = c; order = what }) (h.life calm);
            place = place ∙ old;
            count = omega (arith, more, old);
          })
      grows (inr g) =
          let both : switch_input.Of g.c g.xid (spoken.Ravana (extension.Command g.life g.generation g.number g.through g.what)) ≡ switch_input.Of c xid (spoken.Ravana (extension.Command life generation number through what)) = sym g.asks ∙ asks in
          let same : g.number ≡ number = cc in
          let longer = g.count in
          let old = g.place in
          let here = place in
          absurd (omega (arith, same, longer, old, here))

  -- what a turn carries out
  pub turn_carries : Carries x start (switch_turn start x)
  turn_carries = turn_keeps x (Carries x start) carries_move start (record { life = λ other. refl; fence = λ other. refl; grown = inl (record { is = refl; count = λ calm. refl }) })

  -- what a turn carries out, each the fence lets pass
  abbrev MayPass : List Executed → Type 0
  MayPass new = AllByRecursion (λ y. may_execute start.fence y.from y.generation ≡ true) new

  pub may_pass : MayPass (drop (length start.executed) (switch_turn start x).state.executed)
  may_pass =
      elim turn_carries.grown [
        | inl same ↦ subst (λ (l : List Executed). MayPass (drop (length start.executed) l)) (sym same.is) (subst MayPass (sym (drop-length start.executed)) tt)
        | inr g ↦ subst (λ (l : List Executed). MayPass (drop (length start.executed) l)) (sym g.is) (subst MayPass (sym (drop-append_seam start.executed (g.new ∷ []))) (g.may, tt))
      ]

  -- and no fewer than before are carried out
  pub no_fewer : length start.executed ≤ length (switch_turn start x).state.executed
  no_fewer =
      elim turn_carries.grown [
        | inl same ↦ let l = ap (λ (l : List Executed). length l) same.is in omega (arith, l)
        | inr g ↦ let l = ap (λ (l : List Executed). length l) g.is ∙ length-append start.executed (g.new ∷ []) in omega (arith, l)
      ]

-- a fence by the generations that asked to be master, of so many controllers
pub data IsFenceOf (controllers : ℕ) (asked : List ℕ) (fence : Fence) : Type 0 where
  Unasked : asked ≡ [] → fence.generation ≡ None → fence.master ≡ None → IsFenceOf controllers asked fence
  Asked : (g : ℕ) → IsGreatest g asked → g < 2 ^ 32 → fence.generation ≡ Some g → fence.master ≡ Some (g % controllers) → IsFenceOf controllers asked fence

-- a command that passes has the greatest generation, and its master
pub passes_greatest : (controllers : ℕ) (asked : List ℕ) (fence : Fence) (from generation : ℕ) → IsFenceOf controllers asked fence → may_execute fence from generation ≡ true →
    IsGreatest generation asked × (from ≡ generation % controllers)
passes_greatest controllers asked fence from generation (Unasked none unset unmastered) may =
    let first = (and_parts (is_some_of from fence.master) (is_some_of generation fence.generation) may).0 in
    let no : false ≡ true = ap (λ (o : Option ℕ). is_some_of from o) (sym unmastered) ∙ first in
    absurd cc
passes_greatest controllers asked fence from generation (Asked g greatest below set mastered) may =
    let both = and_parts (is_some_of from fence.master) (is_some_of generation fence.generation) may in
    let m : nat_eq (g % controllers) from ≡ true = ap (λ (o : Option ℕ). is_some_of from o) (sym mastered) ∙ both.0 in
    let n : nat_eq g generation ≡ true = ap (λ (o : Option ℕ). is_some_of generation o) (sym set) ∙ both.1 in
    let same : g ≡ generation = eqb-true g generation n in
    (subst (λ (k : ℕ). IsGreatest k asked) same greatest, sym (eqb-true (g % controllers) from m) ∙ ap (λ (k : ℕ). k % controllers) same)

-- a generation below the accepted one is stale, and no other is
stale_below : (m g : ℕ) → m < 2 ^ 32 → g < m → is_stale (Some m) g ≡ true
stale_below m g below less =
    let small : g + 2 ^ 64 - m < 2 ^ 64 = omega arith in
    let it : (g + 2 ^ 64 - m) % 2 ^ 64 ≡ g + 2 ^ 64 - m = mod-eq_of_lt small in
    le-leb (2 ^ 63) ((g + 2 ^ 64 - m) % 2 ^ 64) (omega (arith, it))

pub fresh_above : (m g : ℕ) → g < 2 ^ 32 → m ≤ g → is_stale (Some m) g ≡ false
fresh_above m g below above =
    let small : g - m < 2 ^ 64 = omega arith in
    let sum : g + 2 ^ 64 - m ≡ 1 * 2 ^ 64 + (g - m) = omega arith in
    let it : (g + 2 ^ 64 - m) % 2 ^ 64 ≡ g - m = ap (λ (k : ℕ). k % 2 ^ 64) sum ∙ mod_low 1 64 (g - m) small in
    lt-leb (2 ^ 63) ((g + 2 ^ 64 - m) % 2 ^ 64) (omega (arith, it))

-- the greatest of a list with one more
greatest_new : (g : ℕ) (asked : List ℕ) → ((k d : ℕ) → k < length asked → slice_index_or asked k d ≤ g) → IsGreatest g (g ∷ asked)
greatest_new g asked all = record { among = (0, omega arith, refl); bound = λ k d lt. at k d lt }
  where
    at : (k d : ℕ) → k < length (g ∷ asked) → slice_index_or (g ∷ asked) k d ≤ g
    at zero d lt = omega arith
    at (suc k) d lt = all k d (omega arith)

greatest_old : (m g : ℕ) (asked : List ℕ) → g ≤ m → IsGreatest m asked → IsGreatest m (g ∷ asked)
greatest_old m g asked less h = record { among = (suc h.among.0, omega (arith, h.among.1), h.among.2); bound = λ k d lt. at k d lt }
  where
    at : (k d : ℕ) → k < length (g ∷ asked) → slice_index_or (g ∷ asked) k d ≤ m
    at zero d lt = less
    at (suc k) d lt = h.bound k d (omega arith)

accepts : (controllers g c : ℕ) (asked : List ℕ) (fence : Fence) → g < 2 ^ 32 → g % controllers ≡ c → ((k d : ℕ) → k < length asked → slice_index_or asked k d ≤ g) →
    IsFenceOf controllers (g ∷ asked) (as_master fence c g)
accepts controllers g c asked fence below owner all = Asked g (greatest_new g asked all) below refl (ap (λ (k : ℕ). Some k) (sym owner))

nothing_asked : (asked : List ℕ) (g : ℕ) → asked ≡ [] → (k d : ℕ) → k < length asked → slice_index_or asked k d ≤ g
nothing_asked asked g none k d lt = absurd (omega (arith, lt, ap (λ (l : List ℕ). length l) none))

-- a request to be master
master_turn : (controllers g c xid : ℕ) (asked : List ℕ) (start : SwitchState) → g < 2 ^ 32 → g % controllers ≡ c → IsFenceOf controllers asked start.fence →
    IsFenceOf controllers (g ∷ asked) (switch_turn start (switch_input.Of c xid (spoken.Plain (plain.RoleRequest MASTER g)))).state.fence
unfolding switch_turn
master_turn controllers g c xid asked start below owner (Unasked none unset unmastered) =
    let fresh : is_stale start.fence.generation g ≡ false = ap (λ (o : Option ℕ). is_stale o g) unset in
    rw fresh (accepts controllers g c asked start.fence below owner (nothing_asked asked g none))
master_turn controllers g c xid asked start below owner (Asked m greatest few set mastered) =
    elim (cases_lt g m) [
      | inl less ↦
          let stale : is_stale start.fence.generation g ≡ true = ap (λ (o : Option ℕ). is_stale o g) set ∙ stale_below m g few less in
          rw stale (Asked m (greatest_old m g asked (omega arith) greatest) few set mastered)
      | inr above ↦
          let fresh : is_stale start.fence.generation g ≡ false = ap (λ (o : Option ℕ). is_stale o g) set ∙ fresh_above m g below above in
          rw fresh (accepts controllers g c asked start.fence below owner (λ k d lt. le_trans (greatest.bound k d lt) above))
    ]

unchanged : (controllers : ℕ) (asked : List ℕ) (x : SwitchInput) (start : SwitchState) → IsCalm x → IsFenceOf controllers asked start.fence → IsFenceOf controllers asked (switch_turn start x).state.fence
unchanged controllers asked x start other h = subst (λ (f : Fence). IsFenceOf controllers asked f) (sym (fence_stays x start other)) h

-- the fence after a message from a controller
pub told_turn : (kinds : List ℕ) (setup : Setup) (f : PastFacts) (c s xid : ℕ) (m : Spoken) (asked : List ℕ) (start : SwitchState) → MayTell kinds setup f c s m → IsFenceOf setup.controllers asked start.fence →
    IsFenceOf setup.controllers (master_asked (unsealed.Message (message.Of xid m)) ++ asked) (switch_turn start (switch_input.Of c xid m)).state.fence
told_turn kinds setup f c s xid (spoken.Plain (plain.RoleRequest role g)) asked start h k =
    subst (λ (r : ℕ). IsFenceOf setup.controllers (master_asked (unsealed.Message (message.Of xid (spoken.Plain (plain.RoleRequest r g)))) ++ asked) (switch_turn start (switch_input.Of c xid (spoken.Plain (plain.RoleRequest r g)))).state.fence) (sym h.0)
    (master_turn setup.controllers g c xid asked start h.1 h.2 k)
told_turn kinds setup f c s xid (spoken.Ravana (extension.Command life generation number settled what)) asked start h k =
    unchanged setup.controllers asked _ start (calm_ravana _ c xid (extension.Command life generation number settled what) refl) k
told_turn kinds setup f c s xid (spoken.Ravana (extension.EventAck life through)) asked start h k = unchanged setup.controllers asked _ start (calm_ravana _ c xid (extension.EventAck life through) refl) k
told_turn kinds setup f c s xid (spoken.Ravana (extension.Clear life through)) asked start h k = unchanged setup.controllers asked _ start (calm_ravana _ c xid (extension.Clear life through) refl) k
told_turn kinds setup f c s xid _ asked start h k = absurd h

-- the fence after a frame
pub frame_turn : (controllers from port : ℕ) (frame : List ℕ) (asked : List ℕ) (start : SwitchState) → IsFenceOf controllers asked start.fence →
    IsFenceOf controllers asked (switch_turn start (switch_input.Frame from port frame)).state.fence
frame_turn controllers from port frame asked start k =
    unchanged controllers asked (switch_input.Frame from port frame) start (record { asks = λ d yid role g asks. absurd cc; lives = λ restart. absurd cc }) k

-- a life begins with the fence that lets nobody pass, where there is a further one
told_ports : (ports : List ℕ) (t : SwitchTurn) → ((tells_ports ports t).state.fence ≡ t.state.fence) × (life_of (tells_ports ports t).state ≡ life_of t.state)
told_ports [] t = (refl, refl)
told_ports (port ∷ ports) t = let r = told_ports ports _ in (r.0, r.1)

-- a switch and what it heard in its life
pub record IsFenced (controllers : ℕ) (w : Heard) (s : SwitchState) : Type 0 where
  pub fence : IsFenceOf controllers w.masters s.fence
  pub life : w.life ≡ life_of s

restart_turn : (controllers : ℕ) (w : Heard) (start : SwitchState) → IsFenced controllers w start → IsFenced controllers (heard_local w local.Restart) (switch_on_restart start).state
restart_turn controllers w start h =
    subst (λ (n : ℕ). IsFenced controllers (if nat_lt n last_life then record { life = w.life + 1; masters = [] } else w) (switch_on_restart start).state) (sym h.life) (by_life (nat_lt (life_of start) last_life))
  where
    up : SwitchTurn
    up = tells_ports start.down (raised switch_up (next_life start))

    by_life : (b : Bool) → IsFenced controllers (if b then record { life = w.life + 1; masters = [] } else w) (if b then then_turn up (λ now. posts now (greetings now)) else quiet_switch start).state
    by_life true =
        let r = told_ports start.down (raised switch_up (next_life start)) in
        record { fence = subst (λ (f : Fence). IsFenceOf controllers [] f) (sym r.0) (Unasked refl refl refl); life = ap (λ (n : ℕ). n + 1) h.life ∙ sym r.1 }
    by_life false = h

calm_turn : (controllers : ℕ) (w : Heard) (x : SwitchInput) (start : SwitchState) → IsCalm x → IsFenced controllers w start → IsFenced controllers w (switch_turn start x).state
calm_turn controllers w x start calm h = record { fence = unchanged controllers w.masters x start calm h.fence; life = h.life ∙ sym (life_stays x start calm.lives) }

-- after a local input
pub local_turn : (controllers : ℕ) (w : Heard) (input : Local) (start : SwitchState) → IsFenced controllers w start → IsFenced controllers (heard_local w input) (switch_turn start (switch_input.Local input)).state
unfolding switch_turn
local_turn controllers w local.Restart start h = restart_turn controllers w start h
local_turn controllers w (local.Frame port bytes) start h = calm_turn controllers w (switch_input.Local (local.Frame port bytes)) start (record { asks = λ d yid role g asks. absurd cc; lives = λ restart. absurd cc }) h
local_turn controllers w (local.Port port is_up) start h = calm_turn controllers w (switch_input.Local (local.Port port is_up)) start (record { asks = λ d yid role g asks. absurd cc; lives = λ restart. absurd cc }) h
local_turn controllers w local.Tick start h = calm_turn controllers w (switch_input.Local local.Tick) start (record { asks = λ d yid role g asks. absurd cc; lives = λ restart. absurd cc }) h
local_turn controllers w (local.Suspect view) start h = calm_turn controllers w (switch_input.Local (local.Suspect view)) start (record { asks = λ d yid role g asks. absurd cc; lives = λ restart. absurd cc }) h
local_turn controllers w local.Crash start h = calm_turn controllers w (switch_input.Local local.Crash) start (record { asks = λ d yid role g asks. absurd cc; lives = λ restart. absurd cc }) h

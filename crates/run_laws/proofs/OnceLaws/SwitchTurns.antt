-- Each turn of a switch is one.
use Rattle.std.proofs.Common.{◌≡◌, ◌<◌, ◌⊎◌, ℕ, List, [], ◌∷◌, ◌++◌, length, refl, sym, ◌∙◌, ap, subst, inl, inr, arith, le_trans}
use Rattle.std.specs.Prelude.{nat_eq, nat_lt, slice_get, Some}
use Rattle.std.proofs.lemmas.Bool.{cond_both, eqb-true}
use Rattle.of_types.specs.declared.message.Executed.{Executed}
use Rattle.of_types.specs.declared.message.Extension.TheVariants as extension
use Rattle.of_types.specs.declared.message.OfMessage.TheVariants as plain
use Rattle.of_types.specs.declared.message.Order.{Order}
use Rattle.of_types.specs.declared.message.Spoken.TheVariants as spoken
use Rattle.of_types.specs.declared.numbers.TheConstants.{NO_CHANGE, EQUAL, MASTER, SLAVE}
use Rattle.of_types.specs.Lives.{last_life, switch_up}
use Rattle.journal.specs.declared.journal.Letter.{Letter}
use Rattle.journal.specs.declared.journal.Local.TheVariants as local
use Rattle.list_facts.proofs.Elements.{in_append}
use Rattle.list_facts.proofs.Places.{get_prefix}
use Rattle.list_facts.proofs.Prefixes.{prefix_filter, prefix_length, prefix_push, prefix_refl, prefix_trans}
use Rattle.list_facts.specs.Lists.{IsIn, IsPrefix}
use Rattle.role_fence.specs.Fence.{Fence, RoleStep, is_stale, may_execute, role_step}
use Rattle.event_buffer.specs.Buffer.{is_full, next_event}
use Rattle.of_switch.specs.declared.says.SwitchInput.{SwitchInput}
use Rattle.of_switch.specs.declared.says.SwitchInput.TheVariants as switch_input
use Rattle.of_switch.specs.declared.says.SwitchSays.{SwitchSays}
use Rattle.of_switch.specs.State.{SwitchState, SwitchTurn, quiet_switch, posts, then_turn, greetings, to_controller, life_of}
use Rattle.of_switch.specs.Events.{raised, port_status, remembers, cleared, on_event_ack, tells_ports, next_life, switch_on_restart}
use Rattle.of_switch.specs.Rules.{on_role, on_role_request, switch_on_extension, switch_turn}
use Rattle.run_laws.proofs.OnceLaws.SwitchMoves.{IsSaid, Tells, Reports, Roles, Refuses, Answers, Explains, Greets, Forwards, Move, Raises, Says, Notes, Changes, Ages, Clears as Clearing, Executes, Masters, Fences as Fencing, Restarts, turn_keeps}
use Rattle.run_laws.specs.OnceLaws.Facts.{events_of, executed_of}
use Rattle.run_laws.specs.OnceLaws.Invariant.{IsWell}
use Rattle.run_laws.specs.OnceLaws.SwitchTurns.{CarriesOut, Clears, Nothing, Through, Life, Fences, Stays, Asked, Anew, Posts, Event_to_master, Result_to_sender, Answer_to_sender, Fault_to_sender, Greeting, Frame_to_peer, AreSwitchTurns}
use Rattle.run_laws.proofs.OnceLaws.Switches.{event_at, well_move}
use Rattle.run_laws.proofs.OnceLaws.Generations.{IsCalm, Carries, turn_carries, life_stays, fence_stays}

-- an input that takes no event from the buffer and begins no life
record IsHolding (x : SwitchInput) : Type 0 where
  pub acks : (c xid life through : ℕ) → x ≡ switch_input.Of c xid (spoken.Ravana (extension.EventAck life through)) → ⊥
  pub lives : x ≡ switch_input.Local local.Restart → ⊥

-- what of a switch an acknowledgement and a restart change
record SameAccount (s : SwitchState) (t : SwitchTurn) : Type 0 where
  pub cleared : t.state.buffer.cleared ≡ s.buffer.cleared
  pub ended : t.state.ended ≡ s.ended
  pub life : life_of t.state ≡ life_of s
  pub fence : t.state.fence ≡ s.fence

record SameCount (s : SwitchState) (t : SwitchTurn) : Type 0 where
  pub cleared : t.state.buffer.cleared ≡ s.buffer.cleared
  pub ended : t.state.ended ≡ s.ended

holds_account : (x : SwitchInput) (s : SwitchState) → IsHolding x → Clears s x (switch_turn s x)
holds_account x s holding = let r = turn_keeps x (SameCount s) stays s (record { cleared = refl; ended = refl }) in Nothing r.cleared r.ended (life_stays x s holding.lives)
  where
    same : (t t' : SwitchTurn) (state : SwitchState) → t' ≡ record t { state = state } → state.buffer.cleared ≡ t.state.buffer.cleared → state.ended ≡ t.state.ended → SameCount s t → SameCount s t'
    same t t' state is cleared ended h =
        record { cleared = ap (λ (y : SwitchTurn). y.state.buffer.cleared) is ∙ cleared ∙ h.cleared; ended = ap (λ (y : SwitchTurn). y.state.ended) is ∙ ended ∙ h.ended }

    stays : (t t' : SwitchTurn) → Move x t t' → SameCount s t → SameCount s t'
    stays t t' (Raises what raised is) h = same t t' _ is refl refl h
    stays t t' (Says ls all is) h = record { cleared = ap (λ (y : SwitchTurn). y.state.buffer.cleared) is ∙ h.cleared; ended = ap (λ (y : SwitchTurn). y.state.ended) is ∙ h.ended }
    stays t t' (Notes down sent outcomes dirty is) h = same t t' _ is refl refl h
    stays t t' (Changes c xid life generation number through change asks is) h = same t t' _ is refl refl h
    stays t t' (Ages table stay is) h = same t t' _ is refl refl h
    stays t t' (Clearing c xid life through asks own is) h = absurd (holding.acks c xid life through asks)
    stays t t' (Executes c xid life generation number through what result asks own may next is) h = same t t' _ is refl refl h
    stays t t' (Masters c xid role generation asks master fresh first is) h = same t t' _ is refl refl h
    stays t t' (Fencing c xid role generation fence asks otherwise first is) h = same t t' _ is refl refl h
    stays t t' (Restarts asks further first is) h = absurd (holding.lives asks)

-- ports that are told change none of it
ports_account : (ports : List ℕ) (t : SwitchTurn) → SameAccount t.state (tells_ports ports t)
ports_account [] t = record { cleared = refl; ended = refl; life = refl; fence = refl }
ports_account (port ∷ ports) t = let r = ports_account ports (then_turn t (λ s. raised (port_status s port) s)) in record { cleared = r.cleared; ended = r.ended; life = r.life; fence = r.fence }

dirty_account : (ports : List ℕ) (t : SwitchTurn) → SameAccount t.state (remembers ports t)
dirty_account [] t = record { cleared = refl; ended = refl; life = refl; fence = refl }
dirty_account (port ∷ ports) t =
    cond_both (is_full t.state.buffer) t _ (λ (y : SwitchTurn). SameAccount t.state y) (λ _. record { cleared = refl; ended = refl; life = refl; fence = refl })
    (λ _. let r = dirty_account ports _ in record { cleared = r.cleared; ended = r.ended; life = r.life; fence = r.fence })

acked_account : (s : SwitchState) (c xid life through : ℕ) (x : SwitchInput) → x ≡ switch_input.Of c xid (spoken.Ravana (extension.EventAck life through)) → Clears s x (switch_on_extension s c xid (extension.EventAck life through))
acked_account s c xid life through x is =
    cond_both (nat_eq life (life_of s)) (on_event_ack s through) (quiet_switch s) (λ (y : SwitchTurn). Clears s x y)
    (λ own.
    let r = dirty_account s.buffer.dirty (posts (cleared s through) _) in
    Through c xid through (is ∙ ap (λ (n : ℕ). switch_input.Of c xid (spoken.Ravana (extension.EventAck n through))) (eqb-true life (life_of s) own)) r.cleared r.ended r.life)
    (λ _. Nothing refl refl refl)

restart_account : (s : SwitchState) (x : SwitchInput) → x ≡ switch_input.Local local.Restart → Clears s x (switch_on_restart s)
restart_account s x is =
    cond_both (nat_lt (life_of s) last_life) (then_turn (tells_ports s.down (raised switch_up (next_life s))) (λ now. posts now (greetings now))) (quiet_switch s) (λ (y : SwitchTurn). Clears s x y)
    (λ more. let r = ports_account s.down (raised switch_up (next_life s)) in Life is more r.cleared r.ended r.life)
    (λ _. Nothing refl refl refl)

restart_fence : (s : SwitchState) (x : SwitchInput) → x ≡ switch_input.Local local.Restart → Fences s x (switch_on_restart s)
restart_fence s x is =
    cond_both (nat_lt (life_of s) last_life) (then_turn (tells_ports s.down (raised switch_up (next_life s))) (λ now. posts now (greetings now))) (quiet_switch s) (λ (y : SwitchTurn). Fences s x y)
    (λ _. let r = ports_account s.down (raised switch_up (next_life s)) in Anew is r.fence)
    (λ _. Stays refl)

abbrev ByRule : SwitchState → ℕ → ℕ → ℕ → RoleStep → Type 0
ByRule s c xid role r = (on_role s c xid role r r.answer).state.fence ≡ r.fence

-- a request for a role, by the rule
role_fence_is : (s : SwitchState) (c xid role generation : ℕ) → (on_role_request s c xid role generation).state.fence ≡ (role_step s.fence c role generation).fence
role_fence_is s c xid role generation =
    cond_both (nat_lt SLAVE role) _ _ (ByRule s c xid role) (λ _. refl)
    (λ _. cond_both (nat_eq role NO_CHANGE) _ _ (ByRule s c xid role) (λ _. refl)
    (λ _. cond_both (nat_eq role EQUAL) _ _ (ByRule s c xid role) (λ _. refl)
    (λ _. cond_both (is_stale s.fence.generation generation) _ _ (ByRule s c xid role) (λ _. refl)
    (λ _. cond_both (nat_eq role MASTER) _ _ (ByRule s c xid role) (λ _. refl) (λ _. refl)))))

module _ (number : ℕ) (s : SwitchState) (x : SwitchInput) where
  record Goes (t : SwitchTurn) : Type 0 where
    pub well : IsWell number t.state
    pub events : IsPrefix s.events t.state.events
    pub life : IsCalm x → life_of t.state ≡ life_of s
    pub said : (l : Letter SwitchSays) → IsIn l t.letters → Posts s x t l

  calm_command : (c xid life generation n through : ℕ) (what : Order) → x ≡ switch_input.Of c xid (spoken.Ravana (extension.Command life generation n through what)) → IsCalm x
  calm_command c xid life generation n through what is =
      record {
        asks = λ d yid role g asks. let differ : switch_input.Of c xid (spoken.Ravana (extension.Command life generation n through what)) ≡ switch_input.Of d yid (spoken.Plain (plain.RoleRequest role g)) = sym is ∙ asks in absurd cc;
        lives = λ restart. let differ : switch_input.Of c xid (spoken.Ravana (extension.Command life generation n through what)) ≡ switch_input.Local local.Restart = sym is ∙ restart in absurd cc;
      }

  -- what was posted stays so
  posts_more : (t t' : SwitchTurn) → IsPrefix t.state.events t'.state.events → IsPrefix t.state.executed t'.state.executed → t'.state.fence ≡ t.state.fence → (l : Letter SwitchSays) → Posts s x t l → Posts s x t' l
  posts_more t t' p q same l (Event_to_master c e at master is) = Event_to_master c e (get_prefix e.number e (prefix_filter _ p) at) (ap (λ (f : Fence). f.master) same ∙ master) is
  posts_more t t' p q same l (Result_to_sender c xid life generation n through what result asks lt is) = Result_to_sender c xid life generation n through what result asks (le_trans lt (prefix_length (prefix_filter _ q))) is
  posts_more t t' p q same l (Answer_to_sender c xid asked answer asks is) = Answer_to_sender c xid asked answer asks is
  posts_more t t' p q same l (Fault_to_sender c kind code xid head asks is) = Fault_to_sender c kind code xid head asks is
  posts_more t t' p q same l (Greeting c is) = Greeting c is
  posts_more t t' p q same l (Frame_to_peer peer port frame brings fits is) = Frame_to_peer peer port frame brings fits is

  -- what is said is posted
  said_posts : (t t' : SwitchTurn) (l : Letter SwitchSays) → t'.state ≡ t.state → Goes t → IsSaid x t.state l → Posts s x t' l
  said_posts t t' l same h (Tells c e among master is) =
      let at = event_at t.state.events e (h.well.held e among) in
      let made = (h.well.made e.life at.0 e at.1).1 in
      let here : slice_get (events_of e.life t.state.events) e.number ≡ Some e = ap (λ (n : ℕ). slice_get (events_of e.life t.state.events) n) made.number_is ∙ at.1 in
      Event_to_master c e (ap (λ (y : SwitchState). slice_get (events_of e.life y.events) e.number) same ∙ here) (ap (λ (y : SwitchState). y.fence.master) same ∙ master) is
  said_posts t t' l same h (Reports c xid life generation n through what result asks lt is) =
      let lives = h.life (calm_command c xid life generation n through what asks) in
      let count = h.well.count in
      let within : n < length (executed_of (life_of t.state) t.state.executed) = omega (arith, lt, count) in
      let here : n < length (executed_of (life_of s) t.state.executed) = subst (λ (k : ℕ). n < length (executed_of k t.state.executed)) lives within in
      Result_to_sender c xid life generation n through what result asks (subst (λ (y : SwitchState). n < length (executed_of (life_of s) y.executed)) (sym same) here)
      (is ∙ ap (λ (k : ℕ). to_controller c 0 (spoken.Ravana (extension.CmdAck k n result))) lives)
  said_posts t t' l same h (Roles c xid asked offered role generation asks is) = Answer_to_sender c xid _ _ asks is
  said_posts t t' l same h (Refuses c xid kind code asked asks is) = Answer_to_sender c xid asked _ asks is
  said_posts t t' l same h (Answers c xid asked answer asks question is) = Answer_to_sender c xid _ answer asks is
  said_posts t t' l same h (Explains c kind code xid head asks is) = Fault_to_sender c kind code xid head asks is
  said_posts t t' l same h (Greets c is) = Greeting c is
  said_posts t t' l same h (Forwards peer port frame brings fits is) = Frame_to_peer peer port frame brings fits is

  to_state : (t t' : SwitchTurn) (state : SwitchState) → t' ≡ record t { state = state } → IsWell number t'.state → IsPrefix t.state.events state.events → IsPrefix t.state.executed state.executed →
      life_of state ≡ life_of t.state → state.fence ≡ t.state.fence → Goes t → Goes t'
  to_state t t' state is well p q lives same h =
      let of_state : t'.state ≡ state = ap (λ (y : SwitchTurn). y.state) is in
      record {
        well = well;
        events = subst (λ (y : SwitchState). IsPrefix s.events y.events) (sym of_state) (prefix_trans h.events p);
        life = λ calm. ap (λ (y : SwitchState). life_of y) of_state ∙ lives ∙ h.life calm;
        said = λ l k. posts_more t t' (subst (λ (y : SwitchState). IsPrefix t.state.events y.events) (sym of_state) p) (subst (λ (y : SwitchState). IsPrefix t.state.executed y.executed) (sym of_state) q)
            (ap (λ (y : SwitchState). y.fence) of_state ∙ same) l (h.said l (subst (λ (ls : List (Letter SwitchSays)). IsIn l ls) (ap (λ (y : SwitchTurn). y.letters) is) k));
      }

  -- a first move: nothing was said
  from_silence : (t t' : SwitchTurn) (state : SwitchState) → t' ≡ record t { state = state } → t.letters ≡ [] → IsWell number t'.state → IsPrefix t.state.events state.events → (IsCalm x → life_of state ≡ life_of t.state) → Goes t → Goes t'
  from_silence t t' state is first well p lives h =
      let of_state : t'.state ≡ state = ap (λ (y : SwitchTurn). y.state) is in
      record {
        well = well;
        events = subst (λ (y : SwitchState). IsPrefix s.events y.events) (sym of_state) (prefix_trans h.events p);
        life = λ calm. ap (λ (y : SwitchState). life_of y) of_state ∙ lives calm ∙ h.life calm;
        said = λ l k. absurd (subst (λ (ls : List (Letter SwitchSays)). IsIn l ls) (ap (λ (y : SwitchTurn). y.letters) is ∙ first) k);
      }

  goes_move : (t t' : SwitchTurn) → Move x t t' → Goes t → Goes t'
  goes_move t t' (Raises what raised is) h =
      to_state t t' _ is (well_move number x t t' (Raises what raised is) h.well) (prefix_push t.state.events (next_event t.state.buffer what)) (prefix_refl t.state.executed) refl refl h
  goes_move t t' (Says ls all is) h =
      let of_state : t'.state ≡ t.state = ap (λ (y : SwitchTurn). y.state) is in
      record {
        well = well_move number x t t' (Says ls all is) h.well;
        events = subst (λ (y : SwitchState). IsPrefix s.events y.events) (sym of_state) h.events;
        life = λ calm. ap (λ (y : SwitchState). life_of y) of_state ∙ h.life calm;
        said = λ l k. elim (in_append l t.letters ls (subst (λ (m : List (Letter SwitchSays)). IsIn l m) (ap (λ (y : SwitchTurn). y.letters) is) k)) [
          | inl m ↦ posts_more t t' (subst (λ (y : SwitchState). IsPrefix t.state.events y.events) (sym of_state) (prefix_refl t.state.events)) (subst (λ (y : SwitchState). IsPrefix t.state.executed y.executed) (sym of_state) (prefix_refl t.state.executed))
              (ap (λ (y : SwitchState). y.fence) of_state) l (h.said l m)
          | inr m ↦ said_posts t t' l of_state h (all l m)
        ];
      }
  goes_move t t' (Notes down sent outcomes dirty is) h =
      to_state t t' _ is (well_move number x t t' (Notes down sent outcomes dirty is) h.well) (prefix_refl t.state.events) (prefix_refl t.state.executed) refl refl h
  goes_move t t' (Changes c xid life generation i through change asks is) h =
      to_state t t' _ is (well_move number x t t' (Changes c xid life generation i through change asks is) h.well) (prefix_refl t.state.events) (prefix_refl t.state.executed) refl refl h
  goes_move t t' (Ages table stay is) h =
      to_state t t' _ is (well_move number x t t' (Ages table stay is) h.well) (prefix_refl t.state.events) (prefix_refl t.state.executed) refl refl h
  goes_move t t' (Clearing c xid life through asks own is) h =
      to_state t t' _ is (well_move number x t t' (Clearing c xid life through asks own is) h.well) (prefix_refl t.state.events) (prefix_refl t.state.executed) refl refl h
  goes_move t t' (Executes c xid life generation n through what result asks own may next is) h =
      let new : Executed = record { life = life_of t.state; number = n; generation = generation; from = c; order = what } in
      to_state t t' _ is (well_move number x t t' (Executes c xid life generation n through what result asks own may next is) h.well) (prefix_refl t.state.events) (prefix_push t.state.executed new) refl refl h
  goes_move t t' (Masters c xid role generation asks master fresh first is) h =
      from_silence t t' _ is first (well_move number x t t' (Masters c xid role generation asks master fresh first is) h.well) (prefix_refl t.state.events) (λ _. refl) h
  goes_move t t' (Fencing c xid role generation fence asks otherwise first is) h =
      from_silence t t' _ is first (well_move number x t t' (Fencing c xid role generation fence asks otherwise first is) h.well) (prefix_refl t.state.events) (λ _. refl) h
  goes_move t t' (Restarts asks further first is) h =
      from_silence t t' _ is first (well_move number x t t' (Restarts asks further first is) h.well) (prefix_refl t.state.events) (λ calm. absurd (calm.lives asks)) h

  executed_by : IsWell number s → (t : SwitchTurn) → Carries x s t → (t.state.executed ≡ s.executed) ⊎ CarriesOut s x t
  executed_by well t h =
      elim h.grown [
        | inl same ↦ inl same.is
        | inr g ↦
            inr (record {
              c = g.c;
              xid = g.xid;
              generation = g.generation;
              number = g.number;
              through = g.through;
              what = g.what;
              asks = g.asks ∙ ap (λ (n : ℕ). switch_input.Of g.c g.xid (spoken.Ravana (extension.Command n g.generation g.number g.through g.what))) g.own;
              may = ap (λ (y : Executed). may_execute s.fence y.from y.generation) (sym g.new_is) ∙ g.may;
              next = g.place ∙ well.count;
              more = g.is ∙ ap (λ (y : Executed). s.executed ++ y ∷ []) g.new_is;
            })
      ]

  -- what kind of input it is
  data Kind : Type 0 where
    Restarting : x ≡ switch_input.Local local.Restart → Kind
    Asking : (c xid role generation : ℕ) → x ≡ switch_input.Of c xid (spoken.Plain (plain.RoleRequest role generation)) → Kind
    Acking : (c xid life through : ℕ) → x ≡ switch_input.Of c xid (spoken.Ravana (extension.EventAck life through)) → Kind
    Other : IsCalm x → IsHolding x → Kind

  clears_by : Kind → Clears s x (switch_turn s x)
  unfolding switch_turn
  clears_by (Restarting is) = subst (λ (y : SwitchInput). Clears s x (switch_turn s y)) (sym is) (restart_account s x is)
  clears_by (Asking c xid role generation is) =
      holds_account x s (record {
        acks = λ d yid life through asks. let differ : switch_input.Of c xid (spoken.Plain (plain.RoleRequest role generation)) ≡ switch_input.Of d yid (spoken.Ravana (extension.EventAck life through)) = sym is ∙ asks in absurd cc;
        lives = λ restart. let differ : switch_input.Of c xid (spoken.Plain (plain.RoleRequest role generation)) ≡ switch_input.Local local.Restart = sym is ∙ restart in absurd cc;
      })
  clears_by (Acking c xid life through is) = subst (λ (y : SwitchInput). Clears s x (switch_turn s y)) (sym is) (acked_account s c xid life through x is)
  clears_by (Other calm holding) = holds_account x s holding

  fences_by : Kind → Fences s x (switch_turn s x)
  unfolding switch_turn
  fences_by (Restarting is) = subst (λ (y : SwitchInput). Fences s x (switch_turn s y)) (sym is) (restart_fence s x is)
  fences_by (Asking c xid role generation is) = subst (λ (y : SwitchInput). Fences s x (switch_turn s y)) (sym is) (Asked c xid role generation is (role_fence_is s c xid role generation))
  fences_by (Acking c xid life through is) =
      Stays (fence_stays x s (record {
        asks = λ d yid role g asks. let differ : switch_input.Of c xid (spoken.Ravana (extension.EventAck life through)) ≡ switch_input.Of d yid (spoken.Plain (plain.RoleRequest role g)) = sym is ∙ asks in absurd cc;
        lives = λ restart. let differ : switch_input.Of c xid (spoken.Ravana (extension.EventAck life through)) ≡ switch_input.Local local.Restart = sym is ∙ restart in absurd cc;
      }))
  fences_by (Other calm holding) = Stays (fence_stays x s calm)

-- every input is of one of these kinds
kind_of : (number : ℕ) (s : SwitchState) (x : SwitchInput) → Kind number s x
kind_of number s (switch_input.Local local.Restart) = Restarting refl
kind_of number s (switch_input.Local _) = Other (record { asks = λ d yid role g asks. absurd cc; lives = λ restart. absurd cc }) (record { acks = λ d yid life through asks. absurd cc; lives = λ restart. absurd cc })
kind_of number s (switch_input.Of c xid (spoken.Plain (plain.RoleRequest role generation))) = Asking c xid role generation refl
kind_of number s (switch_input.Of c xid (spoken.Plain _)) = Other (record { asks = λ d yid role g asks. absurd cc; lives = λ restart. absurd cc }) (record { acks = λ d yid life through asks. absurd cc; lives = λ restart. absurd cc })
kind_of number s (switch_input.Of c xid (spoken.Ravana (extension.EventAck life through))) = Acking c xid life through refl
kind_of number s (switch_input.Of c xid (spoken.Ravana _)) = Other (record { asks = λ d yid role g asks. absurd cc; lives = λ restart. absurd cc }) (record { acks = λ d yid life through asks. absurd cc; lives = λ restart. absurd cc })
kind_of number s (switch_input.Malformed from kind code xid head) = Other (record { asks = λ d yid role g asks. absurd cc; lives = λ restart. absurd cc }) (record { acks = λ d yid life through asks. absurd cc; lives = λ restart. absurd cc })
kind_of number s (switch_input.Frame from port frame) = Other (record { asks = λ d yid role g asks. absurd cc; lives = λ restart. absurd cc }) (record { acks = λ d yid life through asks. absurd cc; lives = λ restart. absurd cc })

pub turns_are : AreSwitchTurns
turns_are number s x well =
    let r = turn_keeps x (Goes number s x) (goes_move number s x) s (record { well = well; events = prefix_refl s.events; life = λ _. refl; said = λ l k. absurd k }) in
    record {
      well = r.well;
      events = r.events;
      executed = executed_by number s x well (switch_turn s x) (turn_carries x s);
      clears = clears_by number s x (kind_of number s x);
      fence = fences_by number s x (kind_of number s x);
      letters = r.said;
    }

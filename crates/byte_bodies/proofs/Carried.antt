-- A run whose bodies are replaced by others that say the same is a run again, and takes the same steps.
use Rattle.std.proofs.Common.{◌≡◌, ◌≢◌, ◌<◌, ℕ, ◌+◌, ◌-◌, Bool, true, List, [], ◌∷◌, length, map, zero, refl, sym, ◌∙◌, ap, subst}
use Rattle.std.specs.Prelude.{nat_le, ◌&&◌, Option, Some, None, if◌then◌else◌}
use Rattle.std.specs.List.{AllByRecursion, range_with_len}
use Rattle.std.proofs.lemmas.Bool.{and_parts, leb-true}
use Rattle.std.proofs.lemmas.List.{length-map}
use Rattle.std.proofs.lemmas.List.Sums.{sum_by-cons}
use Rattle.of_types.specs.declared.message.Event.{Event}
use Rattle.of_types.specs.declared.message.Executed.{Executed}
use Rattle.of_types.specs.declared.setup.Setup.{Setup}
use Rattle.of_types.specs.Setups.{IsSetup}
use Rattle.journal.specs.declared.journal.Actor.{Actor}
use Rattle.journal.specs.declared.journal.Actor.TheVariants as actor
use Rattle.journal.specs.declared.journal.JournalEntry.{JournalEntry}
use Rattle.journal.specs.declared.journal.JournalEntry.TheVariants.{Post, Draw, Lose, Local, Idle, Refused}
use Rattle.journal.specs.declared.journal.Letter.{Letter}
use Rattle.journal.specs.declared.journal.Packet.{Packet}
use Rattle.journal.specs.declared.journal.SaveResult.{SaveResult}
use Rattle.journal.specs.Actors.{actor_of, IsActor, same_actor}
use Rattle.journal.specs.Limits.{pool_packets, pool_bodies}
use Rattle.journal.specs.Orderly.{IsOrderly, fitting_count, lost_of, pool_bytes}
use Rattle.journal.specs.Part.{drawn, part}
use Rattle.journal.specs.Pool.{pool}
use Rattle.list_facts.proofs.Elements.{all_in, all_of, in_map}
use Rattle.list_facts.specs.Lists.{IsIn}
use Rattle.of_switch.specs.declared.says.SwitchSays.{SwitchSays}
use Rattle.of_switch.specs.Rules.{switch_turn}
use Rattle.group_controller.specs.declared.messages.ControllerSays.{ControllerSays}
use Rattle.group_controller.specs.Rules.{controller_work}
use Rattle.vr_log.specs.declared.entry.Entry.{Entry}
use Rattle.run_spec.specs.declared.messages.Message.{Message}
use Rattle.run_spec.specs.declared.messages.Unsealed.{Unsealed}
use Rattle.run_spec.specs.declared.messages.Unsealed.TheVariants as unsealed
use Rattle.run_spec.specs.declared.messages.Way.{Way}
use Rattle.run_spec.specs.Committed.{decided, kept, kept_of, longest}
use Rattle.run_spec.specs.Legal.{AreTyped, EntryFits, FitsDebt, IsPossible, IsSoundController, IsSoundSwitch, results_of}
use Rattle.run_spec.specs.Messages.{FitsMessage, IsValidMessage, way_of, way_of_message}
use Rattle.run_spec.specs.States.{ControllerAt, IsFaithful, Scene, Sealing, SwitchAt, content, controller_at, controller_hears, controller_message, controller_step, controller_took, sealed_letters, switch_at, switch_hears, switch_message, switch_step, switch_took}
use Rattle.run_spec.proofs.Entries.{Another, Mine, Other, Own, controller_after, switch_after}
use Rattle.run_spec.proofs.Pasts.{from_some, possible_after, possible_before, self_controller, self_switch}
use Rattle.run_spec.proofs.Pools.{New, Was, drawn_found, one_actor, pool_after}
use Rattle.run_laws.specs.OnceLaws.Facts.{PastFacts, facts_of}
use Rattle.run_laws.specs.OnceLaws.Invariant.{Forwarded, HoldsOfRun, IsOrder, IsReport, Reported, ToMember, ToSwitch}
use Rattle.run_laws.proofs.OnceLaws.Packets.{reported_valid, told_valid}
use Rattle.run_laws.proofs.Laws.{always}
use Rattle.byte_bodies.proofs.Carrying.{carried, carried_entry, carried_found, carried_letters, carried_packet, carried_part, any_carried, input_carried, map_same, part_carried, pool_carried, posted_carried, same_actors, waiting_carried}

-- what an actor says can be sealed, on the way of its kind
abbrev pub CanSay : {A : Type 0} → (A → Message) → Actor → Letter A → Type 0
CanSay said a l = IsValidMessage (said l.body) × FitsMessage (said l.body) × (way_of a l.to ≡ way_of_message (said l.body))

reported_can : (s : ℕ) (events : List Event) (executed : List Executed) (l : Letter SwitchSays) → IsReport s events executed l → FitsMessage (switch_message l.body) → CanSay switch_message (actor.Switch s) l
reported_can s events executed l (Reported c xid said is h) =
    subst (λ (y : Letter SwitchSays). FitsMessage (switch_message y.body) → CanSay switch_message (actor.Switch s) y) (sym is) (λ fits. (reported_valid s events executed xid said h, fits, refl))
reported_can s events executed l (Forwarded peer port frame is good) =
    let both = and_parts (nat_le 14 (length frame)) (nat_le (length frame) 1514) good.0 in
    subst (λ (y : Letter SwitchSays). FitsMessage (switch_message y.body) → CanSay switch_message (actor.Switch s) y) (sym is)
    (λ fits. ((leb-true 14 (length frame) both.0, leb-true (length frame) 1514 both.1), fits, refl))

ordered_can : (kinds : List ℕ) (setup : Setup) (f : PastFacts) (c : ℕ) (l : Letter ControllerSays) → IsOrder kinds setup f c l → FitsMessage (controller_message l.body) → CanSay controller_message (actor.Controller c) l
ordered_can kinds setup f c l (ToSwitch s xid said is h) =
    subst (λ (y : Letter ControllerSays). FitsMessage (controller_message y.body) → CanSay controller_message (actor.Controller c) y) (sym is) (λ fits. (told_valid kinds setup f c s xid said h, fits, refl))
ordered_can kinds setup f c l (ToMember d m is h) =
    subst (λ (y : Letter ControllerSays). FitsMessage (controller_message y.body) → CanSay controller_message (actor.Controller c) y) (sym is) (λ fits. (h.spelled, fits, refl))

-- a body on its way says a message that was sealed in it
pub record Says {B : Type 0} (sealing : Sealing B) (from to : Actor) (body : B) : Type 0 where
  pub message : Message
  pub valid : IsValidMessage message
  pub fits : FitsMessage message
  pub way : way_of from to ≡ way_of_message message
  pub body_is : body ≡ sealing.sealed message

module _ {B : Type 0} (sealing : Sealing B) (faithful : IsFaithful sealing) (kinds : List ℕ) (setup : Setup) (is_setup : IsSetup setup) (results : List (List SaveResult)) where
  abbrev pub scene_of : Scene B
  scene_of = record { setup = setup; kinds = kinds; sealing = sealing }

  holds : (entries : List (JournalEntry B)) → IsPossible scene_of results entries → HoldsOfRun scene_of results entries
  holds entries possible = always scene_of results is_setup faithful entries possible zero

  pub switch_can : (s : ℕ) → s < length setup.ports → (entries : List (JournalEntry B)) → IsPossible scene_of results entries → AreTyped switch_message (switch_at scene_of s (part (actor.Switch s) entries)).owed →
      AllByRecursion (λ l. CanSay switch_message (actor.Switch s) l) (switch_at scene_of s (part (actor.Switch s) entries)).owed
  switch_can s there entries possible typed =
      let w : SwitchAt = switch_at scene_of s (part (actor.Switch s) entries) in
      let h = ((holds entries possible).switches s there).owed in
      all_in (λ l. CanSay switch_message (actor.Switch s) l) w.owed
      (λ l among. reported_can s w.now.events w.now.executed l (h l among) (all_of (λ y. FitsMessage (switch_message y.body)) w.owed l typed among))

  pub controller_can : (c : ℕ) → c < setup.controllers → (entries : List (JournalEntry B)) → IsPossible scene_of results entries →
      AreTyped controller_message (controller_at scene_of (results_of results c) c (part (actor.Controller c) entries)).owed →
      AllByRecursion (λ l. CanSay controller_message (actor.Controller c) l) (controller_at scene_of (results_of results c) c (part (actor.Controller c) entries)).owed
  controller_can c there entries possible typed =
      let w : ControllerAt = controller_at scene_of (results_of results c) c (part (actor.Controller c) entries) in
      let h = ((holds entries possible).controllers c there).owed in
      all_in (λ l. CanSay controller_message (actor.Controller c) l) w.owed
      (λ l among. ordered_can kinds setup (facts_of scene_of results entries) c l (h l among) (all_of (λ y. FitsMessage (controller_message y.body)) w.owed l typed among))

  sealed_says : {A : Type 0} (said : A → Message) (a : Actor) (owed : List (Letter A)) → AllByRecursion (λ l. CanSay said a l) owed → (l : Letter B) → IsIn l (sealed_letters said sealing owed) → Says sealing a l.to l.body
  sealed_says {A = A} said a owed can l among =
      let r = in_map (λ (y : Letter A). record { to = y.to; body = sealing.sealed (said y.body) }) owed l among in
      let h = all_of (λ y. CanSay said a y) owed r.0 can r.1 in
      record {
        message = said r.0.body;
        valid = h.0;
        fits = h.1;
        way = ap (λ (y : Letter B). way_of a y.to) r.2 ∙ h.2;
        body_is = ap (λ (y : Letter B). y.body) r.2;
      }

  -- the letters of a Post
  pub post_says : (a : Actor) (first : ℕ) (letters : List (Letter B)) (lost : ℕ) (before : List (JournalEntry B)) → IsPossible scene_of results (Post a first letters lost ∷ before) →
      (l : Letter B) → IsIn l letters → Says sealing a l.to l.body
  post_says (actor.Switch s) first letters lost before possible l among =
      let own : part (actor.Switch s) (Post (actor.Switch s) first letters lost ∷ before) ≡ (Post (actor.Switch s) first letters lost, None) ∷ part (actor.Switch s) before = rw (self_switch s) refl in
      let fits = (subst (λ (p : List (JournalEntry B × Option (Packet B))). IsSoundSwitch scene_of s p) own (possible.switches s possible.named.0)).0 in
      let old = possible_before scene_of results (Post (actor.Switch s) first letters lost) before possible in
      sealed_says switch_message (actor.Switch s) (switch_at scene_of s (part (actor.Switch s) before)).owed (switch_can s possible.named.0 before old fits.2) l (subst (λ (ls : List (Letter B)). IsIn l ls) fits.0 among)
  post_says (actor.Controller c) first letters lost before possible l among =
      let own : part (actor.Controller c) (Post (actor.Controller c) first letters lost ∷ before) ≡ (Post (actor.Controller c) first letters lost, None) ∷ part (actor.Controller c) before = rw (self_controller c) refl in
      let fits = (subst (λ (p : List (JournalEntry B × Option (Packet B))). IsSoundController scene_of (results_of results c) c p) own (possible.controllers c possible.named.0)).0 in
      let old = possible_before scene_of results (Post (actor.Controller c) first letters lost) before possible in
      sealed_says controller_message (actor.Controller c) (controller_at scene_of (results_of results c) c (part (actor.Controller c) before)).owed (controller_can c possible.named.0 before old fits.2) l (subst (λ (ls : List (Letter B)). IsIn l ls) fits.0 among)

  -- what waits
  pub packet_says : (entries : List (JournalEntry B)) → IsPossible scene_of results entries → (p : Packet B) → IsIn p (pool entries) → Says sealing p.from p.to p.body
  packet_says [] possible p h = absurd h
  packet_says (e ∷ before) possible p h =
      elim (pool_after e before p h) [
        | Was old ↦ packet_says before (possible_before scene_of results e before possible) p old
        | New a first letters lost is posted ↦
            let s = post_says a first letters lost before (subst (λ (x : JournalEntry B). IsPossible scene_of results (x ∷ before)) is possible) posted.letter posted.among in
            record {
              message = s.message;
              valid = s.valid;
              fits = s.fits;
              way = ap (λ (x : Actor). way_of x p.to) posted.from_is ∙ ap (λ (x : Actor). way_of a x) posted.to_is ∙ s.way;
              body_is = posted.body_is ∙ s.body_is;
            }
      ]

  -- what is drawn
  pub drawn_says : (e : JournalEntry B) (before : List (JournalEntry B)) → IsPossible scene_of results (e ∷ before) → (p : Packet B) → drawn e before ≡ Some p → Says sealing p.from p.to p.body
  drawn_says (Draw a id keep) before possible p found =
      let r = drawn_found sealing.size a id keep before possible.orderly in
      subst (λ (q : Packet B). Says sealing q.from q.to q.body) (from_some r.packet p (sym r.found ∙ found)) (packet_says before (possible_before scene_of results (Draw a id keep) before possible) r.packet r.among)
  drawn_says (Post a first letters lost) before possible p found = absurd cc
  drawn_says (Lose a id) before possible p found = absurd cc
  drawn_says (Local a input) before possible p found = absurd cc
  drawn_says (Idle a) before possible p found = absurd cc
  drawn_says (Refused a) before possible p found = absurd cc

module _ {B C : Type 0} (sealing : Sealing B) (other : Sealing C) (carry : Way → B → C) (faithful : IsFaithful sealing) (again : IsFaithful other)
    (made : (m : Message) → IsValidMessage m → FitsMessage m → carry (way_of_message m) (sealing.sealed m) ≡ other.sealed m)
    (sized : (m : Message) → IsValidMessage m → FitsMessage m → other.size (other.sealed m) ≡ sealing.size (sealing.sealed m))
    (kinds : List ℕ) (setup : Setup) (is_setup : IsSetup setup) (results : List (List SaveResult)) where
  abbrev From : Scene B
  From = scene_of sealing faithful kinds setup is_setup results

  abbrev Over : Scene C
  Over = scene_of other again kinds setup is_setup results

  carried_sealed : {A : Type 0} (said : A → Message) (a : Actor) (owed : List (Letter A)) → AllByRecursion (λ l. CanSay said a l) owed → carried_letters carry a (sealed_letters said sealing owed) ≡ sealed_letters said other owed
  carried_sealed said a [] h = refl
  carried_sealed said a (l ∷ owed) (here, h) =
      let body : carry (way_of a l.to) (sealing.sealed (said l.body)) ≡ other.sealed (said l.body) = ap (λ (w : Way). carry w (sealing.sealed (said l.body))) here.2 ∙ made (said l.body) here.0 here.1 in
      ap (λ (b : C). record { to = l.to; body = b } ∷ carried_letters carry a (sealed_letters said sealing owed)) body
      ∙ ap (λ (ls : List (Letter C)). record { to = l.to; body = other.sealed (said l.body) } ∷ ls) (carried_sealed said a owed h)

  -- a body that is replaced says the same, and has the same size
  carried_body : (from to : Actor) (body : B) (s : Says sealing from to body) → carry (way_of from to) body ≡ other.sealed s.message
  carried_body from to body s = ap (λ (w : Way). carry w body) s.way ∙ ap (λ (b : B). carry (way_of_message s.message) b) s.body_is ∙ made s.message s.valid s.fits

  pub content_same : (p : Packet B) → Says sealing p.from p.to p.body → content other (carried_packet carry p) ≡ content sealing p
  content_same p s =
      let says : content sealing p ≡ unsealed.Message s.message =
      ap (λ (w : Way). sealing.spelled w p.body) s.way ∙ ap (λ (b : B). sealing.spelled (way_of_message s.message) b) s.body_is ∙ faithful s.message s.valid s.fits in
      ap (λ (b : C). other.spelled (way_of p.from p.to) b) (carried_body p.from p.to p.body s) ∙ ap (λ (w : Way). other.spelled w (other.sealed s.message)) s.way ∙ again s.message s.valid s.fits ∙ sym says

  size_same : (from to : Actor) (body : B) → Says sealing from to body → other.size (carry (way_of from to) body) ≡ sealing.size body
  size_same from to body s = ap other.size (carried_body from to body s) ∙ sized s.message s.valid s.fits ∙ ap sealing.size (sym s.body_is)

  -- each actor is at the same state
  switch_steps : (w : SwitchAt) (e : JournalEntry B) (o : Option (Packet B)) → ((p : Packet B) → o ≡ Some p → Says sealing p.from p.to p.body) →
      switch_step Over w (carried_entry carry e) (carried_found carry o) ≡ switch_step From w e o
  switch_steps w (Draw a id keep) (Some p) says = ap (λ (u : Unsealed). switch_took w (switch_turn w.now (switch_hears p.from u))) (content_same p (says p refl))
  switch_steps w (Draw a id keep) None says = refl
  switch_steps w (Local a input) o says = refl
  switch_steps w (Post a first letters lost) o says = refl
  switch_steps w (Refused a) o says = refl
  switch_steps w (Lose a id) o says = refl
  switch_steps w (Idle a) o says = refl

  controller_steps : (saves : List SaveResult) (w : ControllerAt) (e : JournalEntry B) (o : Option (Packet B)) → ((p : Packet B) → o ≡ Some p → Says sealing p.from p.to p.body) →
      controller_step Over saves w (carried_entry carry e) (carried_found carry o) ≡ controller_step From saves w e o
  controller_steps saves w (Draw a id keep) (Some p) says = ap (λ (u : Unsealed). controller_took saves w (controller_work kinds setup w.now (controller_hears p.from u))) (content_same p (says p refl))
  controller_steps saves w (Draw a id keep) None says = refl
  controller_steps saves w (Local a input) o says = refl
  controller_steps saves w (Post a first letters lost) o says = refl
  controller_steps saves w (Refused a) o says = refl
  controller_steps saves w (Lose a id) o says = refl
  controller_steps saves w (Idle a) o says = refl

  switch_part : (s : ℕ) (entries : List (JournalEntry B)) → IsPossible From results entries → switch_at Over s (carried_part carry (part (actor.Switch s) entries)) ≡ switch_at From s (part (actor.Switch s) entries)
  switch_part s [] possible = refl
  switch_part s (e ∷ before) possible =
      let old = switch_part s before (possible_before From results e before possible) in
      elim (switch_after From s e before) [
        | Mine same is ↦ subst (λ (steps : List (JournalEntry B × Option (Packet B))). switch_at Over s (carried_part carry steps) ≡ switch_at From s steps) (sym is)
            (ap (λ (w : SwitchAt). switch_step Over w (carried_entry carry e) (carried_found carry (drawn e before))) old
            ∙ switch_steps (switch_at From s (part (actor.Switch s) before)) e (drawn e before) (drawn_says sealing faithful kinds setup is_setup results e before possible))
        | Another other_one is ↦ subst (λ (steps : List (JournalEntry B × Option (Packet B))). switch_at Over s (carried_part carry steps) ≡ switch_at From s steps) (sym is) old
      ]

  controller_part : (c : ℕ) (entries : List (JournalEntry B)) → IsPossible From results entries →
      controller_at Over (results_of results c) c (carried_part carry (part (actor.Controller c) entries)) ≡ controller_at From (results_of results c) c (part (actor.Controller c) entries)
  controller_part c [] possible = refl
  controller_part c (e ∷ before) possible =
      let old = controller_part c before (possible_before From results e before possible) in
      elim (controller_after From (results_of results c) c e before) [
        | Own same is goes ↦ subst (λ (steps : List (JournalEntry B × Option (Packet B))). controller_at Over (results_of results c) c (carried_part carry steps) ≡ controller_at From (results_of results c) c steps) (sym is)
            (ap (λ (w : ControllerAt). controller_step Over (results_of results c) w (carried_entry carry e) (carried_found carry (drawn e before))) old
            ∙ controller_steps (results_of results c) (controller_at From (results_of results c) c (part (actor.Controller c) before)) e (drawn e before) (drawn_says sealing faithful kinds setup is_setup results e before possible))
        | Other other_one is ↦ subst (λ (steps : List (JournalEntry B × Option (Packet B))). controller_at Over (results_of results c) c (carried_part carry steps) ≡ controller_at From (results_of results c) c steps) (sym is) old
      ]

  pub switch_same : (s : ℕ) (entries : List (JournalEntry B)) → IsPossible From results entries → switch_at Over s (part (actor.Switch s) (carried carry entries)) ≡ switch_at From s (part (actor.Switch s) entries)
  switch_same s entries possible = ap (λ (steps : List (JournalEntry C × Option (Packet C))). switch_at Over s steps) (part_carried carry (actor.Switch s) entries) ∙ switch_part s entries possible

  pub controller_same : (c : ℕ) (entries : List (JournalEntry B)) → IsPossible From results entries →
      controller_at Over (results_of results c) c (part (actor.Controller c) (carried carry entries)) ≡ controller_at From (results_of results c) c (part (actor.Controller c) entries)
  controller_same c entries possible =
      ap (λ (steps : List (JournalEntry C × Option (Packet C))). controller_at Over (results_of results c) c steps) (part_carried carry (actor.Controller c) entries) ∙ controller_part c entries possible

  -- the same letters find no room
  fitting_same : (a : Actor) (packets bytes : ℕ) (letters : List (Letter B)) → AllByRecursion (λ l. Says sealing a l.to l.body) letters →
      fitting_count other.size packets bytes (carried_letters carry a letters) ≡ fitting_count sealing.size packets bytes letters
  fitting_same a packets bytes [] h = refl
  fitting_same a packets bytes (l ∷ letters) (here, h) =
      ap (λ (n : ℕ). if nat_le (packets + 1) pool_packets && nat_le (bytes + n) pool_bodies then 1 + fitting_count other.size (packets + 1) (bytes + n) (carried_letters carry a letters) else 0) (size_same a l.to l.body here)
      ∙ ap (λ (n : ℕ). if nat_le (packets + 1) pool_packets && nat_le (bytes + sealing.size l.body) pool_bodies then 1 + n else 0) (fitting_same a (packets + 1) (bytes + sealing.size l.body) letters h)

  bytes_same : (ps : List (Packet B)) → AllByRecursion (λ p. Says sealing p.from p.to p.body) ps → pool_bytes other.size (map (λ p. carried_packet carry p) ps) ≡ pool_bytes sealing.size ps
  bytes_same [] h = refl
  bytes_same (p ∷ ps) (here, h) =
      sum_by-cons (λ (q : Packet C). other.size q.body) (carried_packet carry p) (map (λ q. carried_packet carry q) ps)
      ∙ ap (λ (n : ℕ). n + pool_bytes other.size (map (λ q. carried_packet carry q) ps)) (size_same p.from p.to p.body here)
      ∙ ap (λ (n : ℕ). sealing.size p.body + n) (bytes_same ps h)
      ∙ sym (sum_by-cons (λ (q : Packet B). sealing.size q.body) p ps)

  lost_same : (a : Actor) (letters : List (Letter B)) (before : List (JournalEntry B)) → AllByRecursion (λ l. Says sealing a l.to l.body) letters → IsPossible From results before →
      lost_of other.size (pool (carried carry before)) (carried_letters carry a letters) ≡ lost_of sealing.size (pool before) letters
  lost_same a letters before says possible =
      let ps : List (Packet C) = map (λ p. carried_packet carry p) (pool before) in
      let all = all_in (λ p. Says sealing p.from p.to p.body) (pool before) (packet_says sealing faithful kinds setup is_setup results before possible) in
      ap (λ (qs : List (Packet C)). lost_of other.size qs (carried_letters carry a letters)) (pool_carried carry before)
      ∙ ap (λ (n : ℕ). n - fitting_count other.size (length ps) (pool_bytes other.size ps) (carried_letters carry a letters)) (length-map letters (λ l. record { to = l.to; body = carry (way_of a l.to) l.body }))
      ∙ ap (λ (n : ℕ). length letters - fitting_count other.size n (pool_bytes other.size ps) (carried_letters carry a letters)) (length-map (pool before) (λ p. carried_packet carry p))
      ∙ ap (λ (n : ℕ). length letters - fitting_count other.size (length (pool before)) n (carried_letters carry a letters)) (bytes_same (pool before) all)
      ∙ ap (λ (n : ℕ). length letters - n) (fitting_same a (length (pool before)) (pool_bytes sealing.size (pool before)) letters says)

  orderly_same : (e : JournalEntry B) (before : List (JournalEntry B)) → IsPossible From results (e ∷ before) → IsOrderly other.size (carried carry before) → IsOrderly other.size (carried_entry carry e ∷ carried carry before)
  orderly_same (Post a first letters lost) before possible old =
      let orderly = possible.orderly in
      let says = all_in (λ l. Says sealing a l.to l.body) letters (post_says sealing faithful kinds setup is_setup results a first letters lost before possible) in
      (orderly.0 ∙ sym (posted_carried carry before), orderly.1 ∙ sym (lost_same a letters before says (possible_before From results (Post a first letters lost) before possible)), old)
  orderly_same (Draw a id keep) before possible old = (subst (λ (b : Bool). b ≡ true) (sym (any_carried carry a id before)) possible.orderly.0, old)
  orderly_same (Lose a id) before possible old = (subst (λ (b : Bool). b ≡ true) (sym (any_carried carry a id before)) possible.orderly.0, old)
  orderly_same (Local a input) before possible old = old
  orderly_same (Idle a) before possible old = (waiting_carried carry a before ∙ ap (λ (ps : List (Packet B)). map (λ p. carried_packet carry p) ps) possible.orderly.0, old)
  orderly_same (Refused a) before possible old = old

  typed_same : (e : JournalEntry B) → EntryFits e → EntryFits (carried_entry carry e)
  typed_same (Post a first letters lost) h = h
  typed_same (Draw a id keep) h = h
  typed_same (Lose a id) h = h
  typed_same (Local a input) h = h
  typed_same (Idle a) h = h
  typed_same (Refused a) h = h

  some_carried : (a : Actor) (letters : List (Letter B)) → letters ≢ [] → carried_letters carry a letters ≢ []
  some_carried a [] some = absurd (some refl)
  some_carried a (l ∷ letters) some = λ none. absurd cc

  fits_same : {A : Type 0} (said : A → Message) (a : Actor) (owed : List (Letter A)) (steps : List (JournalEntry B × Option (Packet B))) (e : JournalEntry B) → actor_of e ≡ a →
      (AreTyped said owed → AllByRecursion (λ l. CanSay said a l) owed) → FitsDebt said sealing owed steps e → FitsDebt said other owed (carried_part carry steps) (carried_entry carry e)
  fits_same said a owed steps (Post b first letters lost) is can h =
      (ap (λ (x : Actor). carried_letters carry x letters) is ∙ ap (λ (ls : List (Letter B)). carried_letters carry a ls) h.0 ∙ carried_sealed said a owed (can h.2), some_carried b letters h.1, h.2)
  fits_same said a owed steps (Draw b id keep) is can h = h
  fits_same said a owed steps (Lose b id) is can h = h
  fits_same said a owed steps (Local b input) is can h = h
  fits_same said a owed steps (Idle b) is can h = h
  fits_same said a owed steps (Refused b) is can h = input_carried carry steps h

  pub possible_same : (entries : List (JournalEntry B)) → IsPossible From results entries → IsPossible Over results (carried carry entries)
  possible_same [] possible = record { named = tt; fits = tt; orderly = tt; switches = λ s there. tt; controllers = λ c there. tt }
  possible_same (e ∷ before) possible =
      let earlier = possible_before From results e before possible in
      let old = possible_same before earlier in
      possible_after Over results (carried_entry carry e) (carried carry before) old
      (subst (λ (x : Actor). IsActor setup x) (sym (same_actors carry e)) possible.named.0)
      (typed_same e possible.fits.0)
      (orderly_same e before possible old.orderly)
      (λ s there same. switch_fits s there earlier (subst (λ (x : Actor). same_actor x (actor.Switch s) ≡ true) (same_actors carry e) same))
      (λ c there same. controller_fits c there earlier (subst (λ (x : Actor). same_actor x (actor.Controller c) ≡ true) (same_actors carry e) same))
    where
      switch_fits : (s : ℕ) → s < length setup.ports → IsPossible From results before → same_actor (actor_of e) (actor.Switch s) ≡ true →
          FitsDebt switch_message other (switch_at Over s (part (actor.Switch s) (carried carry before))).owed (part (actor.Switch s) (carried carry before)) (carried_entry carry e)
      switch_fits s there earlier same =
          let w : SwitchAt = switch_at From s (part (actor.Switch s) before) in
          let own : part (actor.Switch s) (e ∷ before) ≡ (e, drawn e before) ∷ part (actor.Switch s) before = rw same refl in
          let h = (subst (λ (p : List (JournalEntry B × Option (Packet B))). IsSoundSwitch From s p) own (possible.switches s there)).0 in
          let f = fits_same switch_message (actor.Switch s) w.owed (part (actor.Switch s) before) e (one_actor (actor_of e) (actor.Switch s) same) (switch_can sealing faithful kinds setup is_setup results s there before earlier) h in
          subst (λ (x : SwitchAt). FitsDebt switch_message other x.owed (part (actor.Switch s) (carried carry before)) (carried_entry carry e)) (sym (switch_same s before earlier))
          (subst (λ (p : List (JournalEntry C × Option (Packet C))). FitsDebt switch_message other w.owed p (carried_entry carry e)) (sym (part_carried carry (actor.Switch s) before)) f)

      controller_fits : (c : ℕ) → c < setup.controllers → IsPossible From results before → same_actor (actor_of e) (actor.Controller c) ≡ true →
          FitsDebt controller_message other (controller_at Over (results_of results c) c (part (actor.Controller c) (carried carry before))).owed (part (actor.Controller c) (carried carry before)) (carried_entry carry e)
      controller_fits c there earlier same =
          let w : ControllerAt = controller_at From (results_of results c) c (part (actor.Controller c) before) in
          let own : part (actor.Controller c) (e ∷ before) ≡ (e, drawn e before) ∷ part (actor.Controller c) before = rw same refl in
          let h = (subst (λ (p : List (JournalEntry B × Option (Packet B))). IsSoundController From (results_of results c) c p) own (possible.controllers c there)).0 in
          let f = fits_same controller_message (actor.Controller c) w.owed (part (actor.Controller c) before) e (one_actor (actor_of e) (actor.Controller c) same) (controller_can sealing faithful kinds setup is_setup results c there before earlier) h in
          subst (λ (x : ControllerAt). FitsDebt controller_message other x.owed (part (actor.Controller c) (carried carry before)) (carried_entry carry e)) (sym (controller_same c before earlier))
          (subst (λ (p : List (JournalEntry C × Option (Packet C))). FitsDebt controller_message other w.owed p (carried_entry carry e)) (sym (part_carried carry (actor.Controller c) before)) f)

  -- the same is decided
  pub decided_same : (entries : List (JournalEntry B)) → IsPossible From results entries → decided Over results (carried carry entries) ≡ decided From results entries
  unfolding decided
  decided_same [] possible = refl
  decided_same (e ∷ before) possible =
      let old = decided_same before (possible_before From results e before possible) in
      ap (λ (best : List Entry). longest best (map (λ c. kept Over results c (carried carry (e ∷ before))) (range_with_len 0 setup.controllers))) old
      ∙ ap (λ (logs : List (List Entry)). longest (decided From results before) logs)
      (map_same (λ c. kept Over results c (carried carry (e ∷ before))) (λ c. kept From results c (e ∷ before)) (λ c. ap (λ (w : ControllerAt). kept_of w.now) (controller_same c (e ∷ before) possible)) (range_with_len 0 setup.controllers))

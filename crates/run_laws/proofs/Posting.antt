-- What a turn of a controller posts.
use Rattle.std.proofs.Common.{◌≡◌, ◌<◌, ◌+◌, ◌%◌, ◌^◌, ◌⊎◌, inl, inr, ℕ, Bool, true, false, List, [], ◌∷◌, ◌++◌, length, take, drop, zero, suc, refl, sym, ap, ◌∙◌, subst, arith, length-take, length-drop}
use Rattle.std.specs.Prelude.{slice_get, Option, Some, None}
use Rattle.std.specs.List.{AllByRecursion}
use Rattle.std.proofs.lemmas.Bool.{cond_both}
use Rattle.std.proofs.lemmas.List.Sums.{sum_by-take-drop}
use Rattle.of_types.specs.declared.message.OfMessage.TheVariants as plain
use Rattle.of_types.specs.declared.message.Spoken.TheVariants as spoken
use Rattle.of_types.specs.declared.setup.Setup.{Setup}
use Rattle.journal.specs.declared.journal.Actor.TheVariants as actor
use Rattle.journal.specs.declared.journal.Letter.{Letter}
use Rattle.list_facts.specs.Lists.{IsIn, IsPrefix}
use Rattle.list_facts.proofs.Elements.{in_append, in_drop, in_filter, in_take}
use Rattle.vr_log.specs.declared.entry.Entry.{Entry}
use Rattle.vr_log.specs.declared.entry.Entry.TheVariants.{Processed}
use Rattle.vr_log.specs.declared.message.Filled.{Filled}
use Rattle.vr_log.specs.declared.message.VrLetter.{VrLetter}
use Rattle.vr_log.specs.declared.message.VrMessage.{VrMessage}
use Rattle.vr_log.specs.declared.message.VrMessage.TheVariants as message
use Rattle.vr_log.specs.declared.state.VrState.{VrState}
use Rattle.vr_log.specs.Log.{entry_size, received, processed}
use Rattle.vr_log.specs.Members.{is_up, is_primary, leads}
use Rattle.vr_log.specs.Sizes.{IsValidEntry, IsValidLog, IsValidVr}
use Rattle.vr_log.specs.Steps.{letter}
use Rattle.vr_recovery.specs.Recovering.{filled}
use Rattle.controller_moves.proofs.MemberMoves.Spelling.{IsShort, log_short}
use Rattle.app_core.specs.Issued.{commands_of}
use Rattle.dispatcher.specs.Marks.{is_wanted}
use Rattle.group_controller.specs.declared.messages.ControllerInput.{ControllerInput}
use Rattle.group_controller.specs.declared.messages.ControllerInput.TheVariants as controller_input
use Rattle.group_controller.specs.declared.messages.ControllerSays.{ControllerSays}
use Rattle.controller_moves.specs.ControllerLaws.Entries.{MessageHolds, SaysHold}
use Rattle.controller_moves.specs.ControllerLaws.Moves as move
use Rattle.controller_moves.specs.ControllerLaws.Moves.{Chain, Start, Then, ControllerMove, Steps, Says, Saves, Begins, Proposes, Results, Notes, member_input, IsSaid, IsProposed, Receives, Processes}
use Rattle.group_controller.specs.Rules.{controller_work}
use Rattle.controller_moves.specs.ControllerLaws.Views.{IsKnownView}
use Rattle.group_controller.specs.State.{ControllerState, Work, committed, to_switch, to_member}
use Rattle.controller_moves.specs.ControllerLaws.Turns.{beginning, IsReached}
use Rattle.controller_moves.specs.ControllerLaws.MemberMoves as said
use Rattle.controller_moves.specs.ControllerLaws.MemberMoves.{IsSaidByMember}
use Rattle.controller_moves.proofs.ControllerLaws.Views.{views_from}
use Rattle.list_facts.proofs.Prefixes.{prefix_refl}
use Rattle.controller_moves.proofs.ControllerLaws.Reached.{chain_reaches}
use Rattle.controller_moves.proofs.ControllerLaws.Letters.{leads_is}
use Rattle.controller_moves.proofs.ControllerLaws.Finished.{settled_finished}
use Rattle.run_laws.specs.OnceLaws.Invariant.{StandsFrom, HasEntry, HasAhead}
use Rattle.run_laws.specs.OnceLaws.Premises as premise
use Rattle.run_laws.specs.OnceLaws.Premises.{IsMoment, OneBy, One_proposed, IsAheadBy, IsPosting, Switches, Members}
use Rattle.run_laws.proofs.Members.{IsOwned, up_leads, move_up}
use Rattle.run_laws.proofs.Sources.{on_way, says_come, low_bound, own_one, moment_of, some_of, short_front, From, By}
use Rattle.run_laws.proofs.Ahead.{both, reached}

all_by : {A : Type 0} (P : A → Type 0) (xs : List A) → ((j : ℕ) (e : A) → slice_get xs j ≡ Some e → P e) → AllByRecursion P xs
all_by P [] h = tt
all_by P (x ∷ xs) h = (h 0 x refl, all_by P xs (λ j e g. h (suc j) e g))

part_valid : (first : ℕ) (part : List Entry) → IsShort part → ((i : ℕ) (e : Entry) → StandsFrom first part i e → IsValidEntry e) → IsValidLog part
part_valid first part l h = record { few = l.0; small = l.1; entries = all_by (λ e. IsValidEntry e) part (λ j e g. h (first + j) e (j, refl, g)) }

drop_short : (n : ℕ) (log : List Entry) → IsShort log → IsShort (drop n log)
drop_short n log l = let a = length-drop n log in let b = sum_by-take-drop entry_size log n in let c = l.0 in let d = l.1 in (omega arith, omega arith)

take_short : (n : ℕ) (log : List Entry) → IsShort log → IsShort (take n log)
take_short n log l = let a = length-take n log in let b = sum_by-take-drop entry_size log n in let c = l.0 in let d = l.1 in (omega arith, omega arith)

apart : (l : Letter ControllerSays) (d s : ℕ) → l.to ≡ actor.Controller d → l.to ≡ actor.Switch s → ⊥
apart l d s a b = let e : actor.Controller d ≡ actor.Switch s = sym a ∙ b in absurd cc

-- what one that takes no part may say: to members, and echoes
pub data IsSaidAside (x : ControllerInput) (l : Letter ControllerSays) : Type 0 where
  ToAMember : (m : VrLetter) → l ≡ to_member m → IsSaidAside x l
  Echoes : (s xid : ℕ) (body : List ℕ) → x ≡ controller_input.Of s xid (spoken.Plain (plain.EchoRequest body)) → l ≡ to_switch s xid (spoken.Plain (plain.EchoReply body)) → IsSaidAside x l

module _ (kinds : List ℕ) (setup : Setup) (x : ControllerInput) where
  abbrev UpOrAside : Work → Type 0
  UpOrAside w = (is_up w.state.vr ≡ true) ⊎ ((l : Letter ControllerSays) → IsIn l w.letters → IsSaidAside x l)

  not_leading : {l : Letter ControllerSays} (s : VrState) → is_up s ≡ false → leads s ≡ true → IsSaidAside x l
  not_leading s off lead = absurd (let up = up_leads s lead in let e : true ≡ false = sym up ∙ off in cc)

  says_aside : (c : ControllerState) (l : Letter ControllerSays) → is_up c.vr ≡ false → IsSaid kinds setup x c l → IsSaidAside x l
  says_aside c l off (move.Tells m s is) = ToAMember m is
  says_aside c l off (move.Prepares to entry lead p is) = not_leading c.vr off lead
  says_aside c l off (move.Asks s lead is) = not_leading c.vr off lead
  says_aside c l off (move.Commands n lead among is) = not_leading c.vr off lead
  says_aside c l off (move.Acks s life lead is) = not_leading c.vr off lead
  says_aside c l off (move.Clears s life lead is) = not_leading c.vr off lead
  says_aside c l off (move.Echoes s xid body asks is) = Echoes s xid body asks is

  says_more : (w : Work) (ls : List (Letter ControllerSays)) → ((l : Letter ControllerSays) → IsIn l ls → IsSaid kinds setup x w.state l) → ((l : Letter ControllerSays) → IsIn l w.letters → IsSaidAside x l) →
      (b : Bool) → is_up w.state.vr ≡ b → (is_up w.state.vr ≡ true) ⊎ ((l : Letter ControllerSays) → IsIn l (w.letters ++ ls) → IsSaidAside x l)
  says_more w ls all old true up = inl up
  says_more w ls all old false off = inr (λ l k. elim (in_append l w.letters ls k) [ inl a ↦ old l a | inr b ↦ says_aside w.state l off (all l b) ])

  move_or : (w w' : Work) → ControllerMove kinds setup x w w' → UpOrAside w → UpOrAside w'
  move_or w w' m (inl up) = inl (move_up kinds setup x w w' m up)
  move_or w w' (Steps s m is) (inr q) = subst (λ (z : Work). UpOrAside z) (sym is) (inr q)
  move_or w w' (Says ls all is) (inr q) = subst (λ (z : Work). UpOrAside z) (sym is) (says_more w ls all q (is_up w.state.vr) refl)
  move_or w w' (Saves save is) (inr q) = subst (λ (z : Work). UpOrAside z) (sym is) (inr q)
  move_or w w' (Begins l is) (inr q) = subst (λ (z : Work). UpOrAside z) (sym is) (inr q)
  move_or w w' (Proposes entry l p room is) (inr q) = subst (λ (z : Work). UpOrAside z) (sym is) (inl (up_leads w.state.vr l))
  move_or w w' (Results s xid life number outcome asks l pending is) (inr q) = subst (λ (z : Work). UpOrAside z) (sym is) (inr q)
  move_or w w' (Notes confirmed told full is) (inr q) = subst (λ (z : Work). UpOrAside z) (sym is) (inr q)

  pub chain_or : (c : ControllerState) (w : Work) → Chain kinds setup x (beginning c) w → UpOrAside w
  chain_or c w Start = inr (λ l k. absurd k)
  chain_or c w (Then mid w2 chain m) = move_or mid w m (chain_or c mid chain)

module _ (kinds : List ℕ) (setup : Setup) (me : ℕ) (x : ControllerInput) (c : ControllerState) (o : IsOwned me setup.controllers c.vr) (chain : Chain kinds setup x (beginning c) (controller_work kinds setup c x))
    (views : (v : ℕ) → IsKnownView x c v → v < 2 ^ 32) where
  abbrev last : Work
  last = controller_work kinds setup c x

  abbrev Posts : Letter ControllerSays → Type 0
  Posts l = IsPosting kinds setup me c x l

  post : (l : Letter ControllerSays) → IsIn l last.letters → (to : ℕ) (m : VrMessage) → l ≡ to_member (letter m to) → (((i : ℕ) (e : Entry) → HasEntry m i e → IsValidEntry e) → IsValidVr m) →
      ((k : ℕ) (entries : List Entry) → HasAhead m k entries → IsAheadBy kinds setup c x k entries) → Posts l
  post l k to m is valid ahead =
      let h = on_way kinds setup me setup.controllers x c o chain last (reached kinds setup me setup.controllers x c o chain) (prefix_refl (committed last.state)) in
      let holds : MessageHolds (From kinds setup me setup.controllers x c o chain) (By kinds setup me setup.controllers x c o chain) m =
      subst (λ (z : Letter ControllerSays). SaysHold (From kinds setup me setup.controllers x c o chain) (By kinds setup me setup.controllers x c o chain) z.body) is (h.letters l k) in
      Members to m is valid (says_come kinds setup me setup.controllers x c o chain m holds) ahead

  module _ (mid : Work) (r : IsReached kinds setup x c mid) (front : IsPrefix (committed mid.state) (committed last.state)) where
    abbrev s : VrState
    s = mid.state.vr

    part_ahead : (part : List Entry) → ((e : Entry) → IsIn e part → IsIn e s.log) → (k : ℕ) (entries : List Entry) → k ≡ s.commit → entries ≡ part → IsAheadBy kinds setup c x k entries
    part_ahead part sub k entries a b =
        both kinds setup me setup.controllers x c o chain k s.commit entries part a b
        (record {
          bound = low_bound kinds setup me setup.controllers x c o chain mid r front s.commit (omega arith);
          one = λ j i. own_one kinds setup me setup.controllers x c o chain mid r front j (sub (Processed j) i);
        })

    short : IsShort s.log
    short = log_short s.log r.consistent.follow

    among_one : (log : List Entry) (n : ℕ) (entry e : Entry) → slice_get log n ≡ Some entry → IsIn e (entry ∷ []) → IsIn e log
    among_one [] n entry e g k = absurd cc
    among_one (y ∷ log) zero entry e g (inl k) = let same : y ≡ entry = cc in inl (k ∙ sym same)
    among_one (y ∷ log) (suc n) entry e g k = inr (among_one log n entry e g k)
    among_one (y ∷ log) zero entry e g (inr k) = absurd k

    filled_is : (filled s ≡ None) ⊎ (filled s ≡ Some (record { commit = s.commit; log = s.log }))
    filled_is = cond_both (is_primary s) (Some (record { commit = s.commit; log = s.log })) None (λ (q : Option Filled). (q ≡ None) ⊎ (q ≡ Some (record { commit = s.commit; log = s.log }))) (λ _. inr refl) (λ _. inl refl)

    told_posts : (l : Letter ControllerSays) → IsIn l last.letters → (m : VrLetter) → IsSaidByMember s m → l ≡ to_member m → Posts l
    told_posts l k m (said.AsksVote to is) at = post l k to _ (at ∙ ap to_member is) (λ h. tt) (λ j es h. absurd h)
    told_posts l k m (said.SendsLog to is) at =
        post l k to _ (at ∙ ap to_member is) (λ h. part_valid s.commit (drop s.commit s.log) (drop_short s.commit s.log short) h) (λ j es h. part_ahead (drop s.commit s.log) (λ e i. in_drop s.commit s.log e i) j es h.0 h.1)
    told_posts l k m (said.TellsStart to is) at =
        post l k to _ (at ∙ ap to_member is) (λ h. part_valid s.base (drop s.base s.log) (drop_short s.base s.log short) h) (λ j es h. part_ahead (drop s.base s.log) (λ e i. in_drop s.base s.log e i) j es h.0 h.1)
    told_posts l k m (said.Repeats to n entry g low is) at =
        post l k to _ (at ∙ ap to_member is) (λ h. h n entry (refl, refl)) (λ j es h. part_ahead (entry ∷ []) (λ e i. among_one s.log n entry e g i) j es h.0 h.1)
    told_posts l k m (said.TellsCommit to is) at = post l k to _ (at ∙ ap to_member is) (λ h. tt) (λ j es h. part_ahead [] (λ e i. absurd i) j es h.0 h.1)
    told_posts l k m (said.Acknowledges to is) at = post l k to _ (at ∙ ap to_member is) (λ h. tt) (λ j es h. absurd h)
    told_posts l k m (said.AsksLog to view op is) at = post l k to _ (at ∙ ap to_member is) (λ h. tt) (λ j es h. absurd h)
    told_posts l k m (said.AsksAll to is) at = post l k to _ (at ∙ ap to_member is) (λ h. tt) (λ j es h. absurd h)
    told_posts l k m (said.Answers to nonce is) at = elim filled_is [
      | inl none ↦ post l k to (message.RecoveryResponse s.view nonce None) (at ∙ ap to_member is ∙ ap (λ (q : Option Filled). to_member (letter (message.RecoveryResponse s.view nonce q) to)) none) (λ h. tt) (λ j es h. absurd h)
      | inr some ↦
          post l k to (message.RecoveryResponse s.view nonce (Some (record { commit = s.commit; log = s.log })))
          (at ∙ ap to_member is ∙ ap (λ (q : Option Filled). to_member (letter (message.RecoveryResponse s.view nonce q) to)) some) (λ h. part_valid 0 s.log short h) (λ j es h. part_ahead s.log (λ e i. i) j es h.0 h.1)
    ]
    told_posts l k m (said.TellsLog to op low is) at =
        post l k to _ (at ∙ ap to_member is) (λ h. part_valid op (drop op s.log) (drop_short op s.log short) h) (λ j es h. part_ahead (drop op s.log) (λ e i. in_drop op s.log e i) j es h.0 h.1)
    told_posts l k m (said.AsksFront to is) at = post l k to _ (at ∙ ap to_member is) (λ h. tt) (λ j es h. absurd h)
    told_posts l k m (said.TellsFront to op low is) at =
        let a = length-take s.commit s.log in
        let b = length-drop op (take s.commit s.log) in
        let within = r.consistent.commit in
        let whole : op + length (drop op (take s.commit s.log)) ≡ s.commit = omega (arith, a, b, within, low) in
        post l k to _ (at ∙ ap to_member is) (λ h. part_valid op (drop op (take s.commit s.log)) (drop_short op (take s.commit s.log) (take_short s.commit s.log short)) h)
        (λ j es h. part_ahead (drop op (take s.commit s.log)) (λ e i. in_take s.commit s.log e (in_drop op (take s.commit s.log) e i)) j es (h.0 ∙ whole) h.1)

    proposal_ahead : (entry : Entry) → IsProposed kinds setup x mid.state entry → (k : ℕ) (entries : List Entry) → k ≡ s.commit → entries ≡ entry ∷ [] → IsAheadBy kinds setup c x k entries
    proposal_ahead entry p k entries a b =
        both kinds setup me setup.controllers x c o chain k s.commit entries (entry ∷ []) a b
        (record {
          bound = low_bound kinds setup me setup.controllers x c o chain mid r front s.commit (omega arith);
          one = λ j i. elim i [ inl e ↦ by j p e | inr none ↦ absurd none ];
        })
      where
        by : (j : ℕ) → IsProposed kinds setup x mid.state entry → Processed j ≡ entry → OneBy kinds setup c x s.commit j
        by j (Receives s' xid life number what asks may is) e = absurd cc
        by j (Processes ready is) e =
            let f = settled_finished kinds setup mid.state r.consistent ready in
            let there = f.there in
            let short = short_front kinds setup me setup.controllers x c o chain mid r.consistent in
            let same : j ≡ processed (committed mid.state) = cc in
            One_proposed (committed mid.state) (moment_of kinds setup me setup.controllers x c o chain (committed mid.state) (some_of (committed mid.state) there) front) (omega (arith, short)) there same

    moment : is_up last.state.vr ≡ true → IsMoment last (committed mid.state)
    moment up = record { up = up; front = front }

    primary : leads s ≡ true → s.view % setup.controllers ≡ me
    primary lead = let p = (leads_is s lead).primary in sym (ap (λ (m : ℕ). s.view % m) (r.controllers ∙ o.all)) ∙ p ∙ r.me ∙ o.me_is

    below : s.view < 2 ^ 32
    below = views s.view (views_from kinds setup x c mid r.chain).view

    up_posts : (l : Letter ControllerSays) → IsIn l last.letters → is_up last.state.vr ≡ true → IsSaid kinds setup x mid.state l → Posts l
    up_posts l k up (move.Tells m t is) = told_posts l k m t is
    up_posts l k up (move.Prepares to entry lead p is) = post l k to _ is (λ h. h (length s.log) entry (refl, refl)) (λ j es h. proposal_ahead entry p j es h.0 h.1)
    up_posts l k up (move.Asks switch lead is) = Switches switch 0 _ is (premise.Asks s.view below (primary lead) refl)
    up_posts l k up (move.Commands n lead among is) =
        Switches n.switch 0 _ is
        (premise.Commands (committed mid.state) n s.view (moment up) (in_filter (is_wanted (committed mid.state) mid.state.marks) (commands_of kinds setup (received (committed mid.state)) (processed (committed mid.state))) n among) refl (primary lead) refl)
    up_posts l k up (move.Acks switch life lead is) = Switches switch 0 _ is (premise.Acknowledges (committed mid.state) life (moment up) refl)
    up_posts l k up (move.Clears switch life lead is) = Switches switch 0 _ is (premise.Clears (committed mid.state) life (moment up) refl)
    up_posts l k up (move.Echoes switch xid body asks is) = Switches switch xid _ is (premise.Echoes xid body asks)

    aside_posts : (l : Letter ControllerSays) → IsIn l last.letters → IsSaidAside x l → IsSaid kinds setup x mid.state l → Posts l
    aside_posts l k (Echoes switch xid body asks is) t = Switches switch xid _ is (premise.Echoes xid body asks)
    aside_posts l k (ToAMember m is) (move.Tells m' t at) = told_posts l k m' t at
    aside_posts l k (ToAMember m is) (move.Prepares to entry lead p at) = post l k to _ at (λ h. h (length s.log) entry (refl, refl)) (λ j es h. proposal_ahead entry p j es h.0 h.1)
    aside_posts l k (ToAMember m is) (move.Asks switch lead at) = absurd (apart l m.to switch (ap (λ (z : Letter ControllerSays). z.to) is) (ap (λ (z : Letter ControllerSays). z.to) at))
    aside_posts l k (ToAMember m is) (move.Commands n lead among at) = absurd (apart l m.to n.switch (ap (λ (z : Letter ControllerSays). z.to) is) (ap (λ (z : Letter ControllerSays). z.to) at))
    aside_posts l k (ToAMember m is) (move.Acks switch life lead at) = absurd (apart l m.to switch (ap (λ (z : Letter ControllerSays). z.to) is) (ap (λ (z : Letter ControllerSays). z.to) at))
    aside_posts l k (ToAMember m is) (move.Clears switch life lead at) = absurd (apart l m.to switch (ap (λ (z : Letter ControllerSays). z.to) is) (ap (λ (z : Letter ControllerSays). z.to) at))
    aside_posts l k (ToAMember m is) (move.Echoes switch xid body asks at) = absurd (apart l m.to switch (ap (λ (z : Letter ControllerSays). z.to) is) (ap (λ (z : Letter ControllerSays). z.to) at))

  pub posts : (l : Letter ControllerSays) → IsIn l last.letters → Posts l
  posts l k =
      let among = k in
      let w = (reached kinds setup me setup.controllers x c o chain).said l among in
      let r = chain_reaches kinds setup x c o.consistent w.mid w.chain in
      elim (chain_or kinds setup x c last chain) [
        | inl up ↦ up_posts w.mid r w.grows l among up w.said
        | inr aside ↦ aside_posts w.mid r w.grows l among (aside l among) w.said
      ]

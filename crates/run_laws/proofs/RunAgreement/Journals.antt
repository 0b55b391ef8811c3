-- A possible past is legal for agreement, and what waits between members was posted.
use Rattle.std.proofs.Common.{◌≡◌, ℕ, ◌+◌, ◌*◌, ◌<◌, inl, inr, Bool, Option, Some, None, List, [], ◌∷◌, ◌++◌, refl, sym, ap, ◌∙◌, subst}
use Rattle.journal.specs.declared.journal.Actor.{Actor}
use Rattle.journal.specs.declared.journal.Actor.TheVariants as actor
use Rattle.journal.specs.declared.journal.JournalEntry.{JournalEntry}
use Rattle.journal.specs.declared.journal.JournalEntry.TheVariants.{Post, Draw, Lose, Local, Idle, Refused}
use Rattle.journal.specs.declared.journal.Letter.{Letter}
use Rattle.journal.specs.declared.journal.Packet.{Packet}
use Rattle.journal.specs.declared.journal.SaveResult.{SaveResult}
use Rattle.journal.specs.Part.{part, packet_of, drawn}
use Rattle.journal.specs.Pool.{pool}
use Rattle.list_facts.proofs.Elements.{all_of, in_left, in_right}
use Rattle.list_facts.specs.Lists.{IsIn}
use Rattle.agreement.specs.History as core
use Rattle.agreement.specs.History.{size, abstract_letter}
use Rattle.agreement.specs.Journals as journal
use Rattle.agreement.specs.Journals.{Rules, Comes, posted_in_history, rest_left_by, stands}
use Rattle.vr_log.specs.declared.entry.Entry.{Entry}
use Rattle.vr_log.specs.declared.message.VrMessage.{VrMessage}
use Rattle.controller_moves.specs.MemberMoves.Projection.{group_of, message_of}
use Rattle.group_controller.specs.declared.messages.ControllerSays.{ControllerSays}
use Rattle.group_controller.specs.declared.messages.ControllerSays.TheVariants as controller_says
use Rattle.controller_moves.specs.Projection.{OwnInput, projected_letters_to, letters_to_members}
use Rattle.controller_moves.specs.Rules.{SavingController}
use Rattle.run_spec.specs.declared.messages.Message.TheVariants as message
use Rattle.run_spec.specs.declared.messages.Unsealed.{Unsealed}
use Rattle.run_spec.specs.declared.messages.Unsealed.TheVariants as unsealed
use Rattle.run_spec.specs.Messages.{FitsMessage}
use Rattle.run_spec.specs.States.{Scene, content, controller_hears, controller_message, controller_at}
use Rattle.run_spec.specs.Legal.{results_of}
use Rattle.run_spec.proofs.Pasts.{self_controller}
use Rattle.run_spec.proofs.Pools.{drawn_found, IsPosted, Was, New, pool_after}
use Rattle.run_laws.specs.RunAgreement.Projection.{taken_by, journal_entries_of, past_of, rules_of}
use Rattle.run_laws.proofs.RunAgreement.Invariants.{read_between}
use Rattle.run_laws.proofs.RunAgreement.Pasts.{named, fits, was_owed}
use Rattle.run_laws.proofs.RunAgreement.Reading.{IsRead, IsReadPast, read_before}
use Rattle.run_laws.proofs.RunAgreement.Standing.{stands_alike}

-- what is said in a letter is among what is said in all
said_among : (c : ℕ) (ls : List (Letter ControllerSays)) (l : Letter ControllerSays) → IsIn l ls → (x : core.Letter Entry) → IsIn x (projected_letters_to c l.to l.body) → IsIn x (letters_to_members c ls)
said_among c [] l i x k = absurd i
said_among c (m ∷ ls) l i x k = elim i [
  | inl e ↦ in_left x (projected_letters_to c m.to m.body) (letters_to_members c ls) (subst (λ (z : Letter ControllerSays). IsIn x (projected_letters_to c z.to z.body)) e k)
  | inr j ↦ in_right x (projected_letters_to c m.to m.body) (letters_to_members c ls) (said_among c ls l j x k)
]

-- what is no message of a member is of the controller's own
comes : (c : ℕ) (sent : List (core.Letter Entry)) (from : Actor) (u : Unsealed) → ((j : ℕ) (m : VrMessage) → from ≡ actor.Controller j → u ≡ unsealed.Message (message.Vr m) → IsIn (abstract_letter j c (message_of m)) sent)
    → Comes c (taken_by c (controller_hears from u)) sent
comes c sent (actor.Controller j) (unsealed.Message (message.Vr m)) k = (refl, k j m refl refl)
comes c sent (actor.Controller j) (unsealed.Message (message.Of xid m)) k = tt
comes c sent (actor.Controller j) (unsealed.Message (message.Frame port bytes)) k = tt
comes c sent (actor.Controller j) (unsealed.Malformed kind code xid head) k = tt
comes c sent (actor.Switch s) (unsealed.Message (message.Vr m)) k = tt
comes c sent (actor.Switch s) (unsealed.Message (message.Of xid m)) k = tt
comes c sent (actor.Switch s) (unsealed.Message (message.Frame port bytes)) k = tt
comes c sent (actor.Switch s) (unsealed.Malformed kind code xid head) k = tt

module _ {B : Type 0} (scene : Scene B) (results : List (List SaveResult)) (most_failures : ℕ) (n : scene.setup.controllers ≡ 2 * most_failures + 1) where
  abbrev r : Rules OwnInput SavingController Entry
  r = rules_of scene most_failures results

  abbrev IsLegalForMoves : List (journal.Entry OwnInput Entry) → Type 0
  IsLegalForMoves past = journal.IsAllowed r (group_of most_failures) past

  abbrev posts : List (journal.Entry OwnInput Entry) → List (core.Letter Entry)
  posts past = posted_in_history r past

  abbrev owes : ℕ → List (JournalEntry B) → List (Letter ControllerSays)
  owes c past = (controller_at scene (results_of results c) c (part (actor.Controller c) past)).owed

  pub in_group : (c : ℕ) → c < scene.setup.controllers → c < size (group_of most_failures)
  unfolding size
  in_group c b = subst (λ (m : ℕ). c < m) n b

  -- a packet from controller j carries what j posted
  pub record IsPostedBy (past : List (JournalEntry B)) (p : Packet B) (j : ℕ) : Type 0 where
    pub said : ControllerSays
    pub body : p.body ≡ scene.sealing.sealed (controller_message said)
    pub read : IsRead scene p.to said
    pub sent : (x : core.Letter Entry) → IsIn x (projected_letters_to j p.to said) → IsIn x (posts (past_of scene past))

  -- a past is legal for agreement, and so was posted what waits of members
  pub record IsAgreementPast (past : List (JournalEntry B)) : Type 0 where
    pub legal : IsLegalForMoves (past_of scene past)
    pub packets : (p : Packet B) → IsIn p (pool past) → (j : ℕ) → p.from ≡ actor.Controller j → IsPostedBy past p j

  posts_more : (ys past : List (journal.Entry OwnInput Entry)) (x : core.Letter Entry) → IsIn x (posts past) → IsIn x (posts (ys ++ past))
  posts_more [] past x i = i
  posts_more (y ∷ ys) past x i = in_right x (rest_left_by r y (ys ++ past)) (posts (ys ++ past)) (posts_more ys past x i)

  posted_more : (e : JournalEntry B) (before : List (JournalEntry B)) (p : Packet B) (j : ℕ) → IsPostedBy before p j → IsPostedBy (e ∷ before) p j
  posted_more e before p j k = record { said = k.said; body = k.body; read = k.read; sent = λ x i. posts_more (journal_entries_of scene e (drawn e before)) (past_of scene before) x (k.sent x i) }

  -- a packet that is drawn was posted
  drawn_comes : (d : ℕ) (before : List (JournalEntry B)) → IsAgreementPast before → (p : Packet B) → IsIn p (pool before) → p.to ≡ actor.Controller d
      → Comes d (taken_by d (controller_hears p.from (content scene.sealing p))) (posts (past_of scene before))
  drawn_comes d before k p i to =
      comes d (posts (past_of scene before)) p.from (content scene.sealing p) (λ j m from says.
      let s = k.packets p i j from in
      let is : s.said ≡ controller_says.Vr m = s.read d m to (read_between scene p j d s.said m from to s.body says) in
      s.sent (abstract_letter j d (message_of m))
      (subst (λ (a : Actor). IsIn (abstract_letter j d (message_of m)) (projected_letters_to j a s.said)) (sym to)
      (subst (λ (b : ControllerSays). IsIn (abstract_letter j d (message_of m)) (projected_letters_to j (actor.Controller d) b)) (sym is) (inl refl))))

  nothing_owed : (d : ℕ) (before : List (JournalEntry B)) → IsReadPast scene results before → owes d before ≡ []
      → (stands r d (past_of scene before)).owed ≡ []
  nothing_owed d before k e =
      (stands_alike scene results most_failures d n before k.possible.orderly).owed
      ∙ ap (λ (ls : List (Letter ControllerSays)). letters_to_members d ls) e

  drawing : (d id : ℕ) (keep : Bool) (before : List (JournalEntry B)) → IsAgreementPast before → d < size (group_of most_failures)
      → (stands r d (past_of scene before)).owed ≡ [] → (p : Packet B) → IsIn p (pool before) → p.to ≡ actor.Controller d → (q : Option (Packet B)) → q ≡ Some p
      → IsLegalForMoves (journal_entries_of scene (Draw (actor.Controller d) id keep) q ++ past_of scene before)
  drawing d id keep before k b none p i to None e = absurd cc
  drawing d id keep before k b none p i to (Some q) e =
      let same : q ≡ p = cc in (
        (b, subst (λ (z : Packet B). Comes d (taken_by d (controller_hears z.from (content scene.sealing z))) (posts (past_of scene before))) (sym same) (drawn_comes d before k p i to), none),
        k.legal,
      )

  -- the newest entry may stand
  entry_stands : (e : JournalEntry B) (before : List (JournalEntry B)) → IsReadPast scene results (e ∷ before) → IsAgreementPast before
      → IsLegalForMoves (past_of scene (e ∷ before))
  entry_stands (Post (actor.Controller d) first letters lost) before k old = (in_group d k.possible.named.0, old.legal)
  entry_stands (Draw (actor.Controller d) id keep) before k old =
      let found = drawn_found scene.sealing.size (actor.Controller d) id keep before k.possible.orderly in
      let none = nothing_owed d before (read_before scene results _ before k) (fits scene results _ before k.possible d (self_controller d)) in
      drawing d id keep before old (in_group d k.possible.named.0) none found.packet found.among found.goes_to (packet_of id (pool before)) found.found
  entry_stands (Local (actor.Controller d) what) before k old =
      ((in_group d k.possible.named.0, tt, nothing_owed d before (read_before scene results _ before k) (fits scene results _ before k.possible d (self_controller d))), old.legal)
  entry_stands (Refused (actor.Controller d)) before k old =
      let same = stands_alike scene results most_failures d n before k.possible.orderly in
      ((in_group d k.possible.named.0, same.fresh (fits scene results _ before k.possible d (self_controller d))), old.legal)
  entry_stands (Lose a id) before k old = old.legal
  entry_stands (Idle a) before k old = old.legal
  entry_stands (Post (actor.Switch s) first letters lost) before k old = old.legal
  entry_stands (Draw (actor.Switch s) id keep) before k old = old.legal
  entry_stands (Local (actor.Switch s) what) before k old = old.legal
  entry_stands (Refused (actor.Switch s)) before k old = old.legal

  -- a packet that is new was posted by its controller
  new_packet : (d first : ℕ) (letters : List (Letter B)) (lost : ℕ) (before : List (JournalEntry B)) → IsReadPast scene results (Post (actor.Controller d) first letters lost ∷ before) → IsAgreementPast before
      → (p : Packet B) → IsPosted (actor.Controller d) letters p → IsPostedBy (Post (actor.Controller d) first letters lost ∷ before) p d
  new_packet d first letters lost before k old p posted_so =
      let e : JournalEntry B = Post (actor.Controller d) first letters lost in
      let w = was_owed scene results e before k.possible d first letters lost p refl posted_so in
      let there = named scene results e before k.possible d (self_controller d) in
      let same = stands_alike scene results most_failures d n before k.possible.orderly.2 in
      record {
        said = w.letter.body;
        body = w.body_is;
        read = subst (λ (a : Actor). IsRead scene a w.letter.body) (sym w.to_is) (all_of (λ (l : Letter ControllerSays). FitsMessage (controller_message l.body) → IsRead scene l.to l.body) (owes d before) w.letter (k.letters.0 d there) w.among w.typed);
        sent = λ x y.
            let z : IsIn x (projected_letters_to d w.letter.to w.letter.body) = subst (λ (a : Actor). IsIn x (projected_letters_to d a w.letter.body)) w.to_is y in
            in_left x (stands r d (past_of scene before)).owed (posts (past_of scene before))
            (subst (λ (ls : List (core.Letter Entry)). IsIn x ls) (sym same.owed) (said_among d (owes d before) w.letter w.among x z));
      }

  packet_posted : (e : JournalEntry B) (before : List (JournalEntry B)) → IsReadPast scene results (e ∷ before) → IsAgreementPast before
      → (a : Actor) (first : ℕ) (letters : List (Letter B)) (lost : ℕ) (p : Packet B) → e ≡ Post a first letters lost → IsPosted a letters p → (j : ℕ) → p.from ≡ actor.Controller j → IsPostedBy (e ∷ before) p j
  packet_posted e before k old (actor.Switch s) first letters lost p is posted_so j from = absurd (let no : actor.Switch s ≡ actor.Controller j = sym posted_so.from_is ∙ from in cc)
  packet_posted e before k old (actor.Controller d) first letters lost p is posted_so j from =
      let who : actor.Controller d ≡ actor.Controller j = sym posted_so.from_is ∙ from in
      let number : d ≡ j = cc in
      subst (λ (i : ℕ). IsPostedBy (e ∷ before) p i) number
      (subst (λ (y : JournalEntry B). IsPostedBy (y ∷ before) p d) (sym is)
      (new_packet d first letters lost before (subst (λ (y : JournalEntry B). IsReadPast scene results (y ∷ before)) is k) old p posted_so))

  pub past_legal : (past : List (JournalEntry B)) → IsReadPast scene results past → IsAgreementPast past
  past_legal [] k = record { legal = tt; packets = λ p i. absurd i }
  past_legal (e ∷ before) k =
      let old = past_legal before (read_before scene results e before k) in
      record {
        legal = entry_stands e before k old;
        packets = λ p i j from. elim (pool_after e before p i) [
          | Was was ↦ posted_more e before p j (old.packets p was j from)
          | New a first letters lost is posted_so ↦ packet_posted e before k old a first letters lost p is posted_so j from
        ];
      }

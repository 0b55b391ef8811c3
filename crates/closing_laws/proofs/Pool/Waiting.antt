-- How many messages pass a test, by whom they go to and what they say, or are of a kind, and how many letters of an actor do.
use Rattle.std.proofs.Common.{◌≡◌, ℕ, ◌+◌, Bool, true, false, List, [], ◌∷◌, ◌++◌, map, length, refl, sym, ◌∙◌, ap, subst, arith}
use Rattle.std.specs.Prelude.{count_by, if◌then◌else◌}
use Rattle.std.proofs.lemmas.List.{map-append}
use Rattle.of_types.specs.declared.message.Extension.TheVariants as extension
use Rattle.of_types.specs.declared.message.OfMessage.TheVariants as plain
use Rattle.of_types.specs.declared.message.Spoken.TheVariants as spoken
use Rattle.journal.specs.declared.journal.Actor.{Actor}
use Rattle.journal.specs.declared.journal.Letter.{Letter}
use Rattle.list_facts.specs.Lists.{IsIn}
use Rattle.list_facts.proofs.Elements.{in_map}
use Rattle.vr_log.specs.declared.message.VrLetter.{VrLetter}
use Rattle.vr_log.specs.declared.message.VrMessage.{VrMessage}
use Rattle.vr_log.specs.declared.message.VrMessage.TheVariants as vr
use Rattle.group_controller.specs.State.{to_member, to_members}
use Rattle.run_spec.specs.declared.messages.Message.{Message}
use Rattle.run_spec.specs.declared.messages.Message.TheVariants as message
use Rattle.run_spec.specs.States.{controller_message}
use Rattle.closing_laws.specs.Ways.{Sent, sent_by}
use Rattle.closing_laws.proofs.Pool.Rooms.{is_role, is_event, is_command, is_result, is_clear, is_frame, is_prepare, is_else, waits}
use Rattle.closing_laws.proofs.Switches.Saying.{count_append, count_cons, count_none}

-- a message to an actor passes a test
abbrev pub passing : (Actor → Message → Bool) → List Sent → ℕ
passing is waiting = count_by (λ (m : Sent). is m.to m.said) waiting

-- those among letters of an actor
module _ (is : Actor → Message → Bool) {A : Type 0} (says : A → Message) (from : Actor) where
  abbrev pub posted : List (Letter A) → ℕ
  posted letters = passing is (map (sent_by says from) letters)

  pub posted_append : (xs ys : List (Letter A)) → posted (xs ++ ys) ≡ posted xs + posted ys
  posted_append xs ys =
      ap (passing is) (map-append (sent_by says from) xs ys) ∙ count_append (λ (m : Sent). is m.to m.said) (map (sent_by says from) xs) (map (sent_by says from) ys)

  pub posted_cons : (l : Letter A) (letters : List (Letter A)) → posted (l ∷ letters) ≡ (if is l.to (says l.body) then 1 else 0) + posted letters
  posted_cons l letters = count_cons (λ (m : Sent). is m.to m.said) (sent_by says from l) (map (sent_by says from) letters)

  pub posted_none : (letters : List (Letter A)) → ((l : Letter A) → IsIn l letters → is l.to (says l.body) ≡ false) → posted letters ≡ 0
  posted_none letters each = count_none (λ (m : Sent). is m.to m.said) (map (sent_by says from) letters) (λ m among.
      let l = in_map (sent_by says from) letters m among in subst (λ (x : Sent). is x.to x.said ≡ false) (sym l.2) (each l.0 l.1))

  -- letters that are made alike pass never, or always
  module _ {B : Type 0} (letter : B → Letter A) where
    pub posted_never : ((x : B) → is (letter x).to (says (letter x).body) ≡ false) → (xs : List B) → posted (map letter xs) ≡ 0
    posted_never never xs = posted_none (map letter xs) (λ l among.
        let y = in_map letter xs l among in subst (λ (k : Letter A). is k.to (says k.body) ≡ false) (sym y.2) (never y.0))

    pub posted_always : ((x : B) → is (letter x).to (says (letter x).body) ≡ true) → (xs : List B) → posted (map letter xs) ≡ length xs
    posted_always always [] = refl
    posted_always always (x ∷ xs) =
        let first = ap {B = ℕ} (λ (b : Bool). if b then 1 else 0) (always x) in
        let parts = posted_cons (letter x) (map letter xs) in
        let rest = posted_always always xs in
        omega (arith, first, parts, rest)

-- the same of a kind, whomever the messages go to
module _ (is : Message → Bool) where
  pub waits_cons : (m : Sent) (rest : List Sent) → waits is (m ∷ rest) ≡ (if is m.said then 1 else 0) + waits is rest
  waits_cons m rest = count_cons (λ (x : Sent). is x.said) m rest

  pub waits_append : (xs ys : List Sent) → waits is (xs ++ ys) ≡ waits is xs + waits is ys
  waits_append xs ys = count_append (λ (x : Sent). is x.said) xs ys

  module _ {A : Type 0} (says : A → Message) (from : Actor) where
    abbrev pub posts_of : List (Letter A) → ℕ
    posts_of letters = waits is (map (sent_by says from) letters)

    pub posts_cons : (l : Letter A) (letters : List (Letter A)) → posts_of (l ∷ letters) ≡ (if is (says l.body) then 1 else 0) + posts_of letters
    posts_cons l letters = posted_cons (λ (a : Actor). is) says from l letters

    pub posts_append : (xs ys : List (Letter A)) → posts_of (xs ++ ys) ≡ posts_of xs + posts_of ys
    posts_append xs ys = posted_append (λ (a : Actor). is) says from xs ys

    pub posts_none : (letters : List (Letter A)) → ((l : Letter A) → IsIn l letters → is (says l.body) ≡ false) → posts_of letters ≡ 0
    posts_none letters each = posted_none (λ (a : Actor). is) says from letters each

    module _ {B : Type 0} (letter : B → Letter A) where
      pub posts_never : ((x : B) → is (says (letter x).body) ≡ false) → (xs : List B) → posts_of (map letter xs) ≡ 0
      posts_never never xs = posted_never (λ (a : Actor). is) says from letter never xs

      pub posts_always : ((x : B) → is (says (letter x).body) ≡ true) → (xs : List B) → posts_of (map letter xs) ≡ length xs
      posts_always always xs = posted_always (λ (a : Actor). is) says from letter always xs

  -- letters of a member among members
  pub members_none : ((x : VrMessage) → is (message.Vr x) ≡ false) → (from : Actor) (letters : List VrLetter) → posts_of controller_message from (to_members letters) ≡ 0
  members_none other from letters = posts_never controller_message from to_member (λ l. other l.message) letters

-- each message is of one kind
kind_of : (m : Message) →
    (if is_role m then 1 else 0) + (if is_event m then 1 else 0) + (if is_command m then 1 else 0) + (if is_result m then 1 else 0) + (if is_clear m then 1 else 0)
    + (if is_frame m then 1 else 0) + (if is_prepare m then 1 else 0) + (if is_else m then 1 else 0) ≡ 1
kind_of (message.Of xid (spoken.Plain plain.Hello)) = refl
kind_of (message.Of xid (spoken.Plain (plain.Error kind code head))) = refl
kind_of (message.Of xid (spoken.Plain (plain.EchoRequest body))) = refl
kind_of (message.Of xid (spoken.Plain (plain.EchoReply body))) = refl
kind_of (message.Of xid (spoken.Plain (plain.Experimenter body))) = refl
kind_of (message.Of xid (spoken.Plain plain.FeaturesRequest)) = refl
kind_of (message.Of xid (spoken.Plain (plain.FeaturesReply datapath))) = refl
kind_of (message.Of xid (spoken.Plain (plain.PacketIn p))) = refl
kind_of (message.Of xid (spoken.Plain (plain.FlowRemoved r))) = refl
kind_of (message.Of xid (spoken.Plain (plain.PortStatus p))) = refl
kind_of (message.Of xid (spoken.Plain (plain.PacketOut out))) = refl
kind_of (message.Of xid (spoken.Plain (plain.FlowMod change))) = refl
kind_of (message.Of xid (spoken.Plain plain.BarrierRequest)) = refl
kind_of (message.Of xid (spoken.Plain plain.BarrierReply)) = refl
kind_of (message.Of xid (spoken.Plain (plain.RoleRequest role generation))) = refl
kind_of (message.Of xid (spoken.Plain (plain.RoleReply role generation))) = refl
kind_of (message.Of xid (spoken.Ravana (extension.Event life number what))) = refl
kind_of (message.Of xid (spoken.Ravana (extension.EventAck life through))) = refl
kind_of (message.Of xid (spoken.Ravana (extension.Command life generation number settled what))) = refl
kind_of (message.Of xid (spoken.Ravana (extension.CmdAck life number result))) = refl
kind_of (message.Of xid (spoken.Ravana (extension.Clear life through))) = refl
kind_of (message.Frame port bytes) = refl
kind_of (message.Vr (vr.Prepare view op commit entry)) = refl
kind_of (message.Vr (vr.PrepareOk view op)) = refl
kind_of (message.Vr (vr.Commit view commit)) = refl
kind_of (message.Vr (vr.StartViewChange view)) = refl
kind_of (message.Vr (vr.DoViewChange view normal commit log)) = refl
kind_of (message.Vr (vr.StartView view first commit log)) = refl
kind_of (message.Vr (vr.Recovery nonce promise)) = refl
kind_of (message.Vr (vr.RecoveryResponse view nonce filled)) = refl
kind_of (message.Vr (vr.GetState view op)) = refl
kind_of (message.Vr (vr.NewState view first commit log)) = refl
kind_of (message.Vr (vr.Fetch view op)) = refl
kind_of (message.Vr (vr.Supply view first log)) = refl

-- so the kinds are all that waits
pub all_kinds : (waiting : List Sent) →
    waits is_role waiting + waits is_event waiting + waits is_command waiting + waits is_result waiting + waits is_clear waiting + waits is_frame waiting + waits is_prepare waiting + waits is_else waiting ≡ length waiting
all_kinds [] = refl
all_kinds (m ∷ rest) =
    let one = kind_of m.said in
    let more = all_kinds rest in
    let a = waits_cons is_role m rest in
    let b = waits_cons is_event m rest in
    let c = waits_cons is_command m rest in
    let d = waits_cons is_result m rest in
    let e = waits_cons is_clear m rest in
    let f = waits_cons is_frame m rest in
    let g = waits_cons is_prepare m rest in
    let h = waits_cons is_else m rest in
    omega (arith, one, more, a, b, c, d, e, f, g, h)

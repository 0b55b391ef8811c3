-- What is true stays true.
use Rattle.std.proofs.Common.{◌≡◌, ◌<◌, ◌≤◌, ℕ, ◌+◌, List, [], ◌∷◌, ◌++◌, length, take, zero, suc, refl, sym, ◌∙◌, ap, subst, inl, inr, arith, le_trans}
use Rattle.std.proofs.lemmas.List.Sums.{sum_by-append}
use Rattle.std.proofs.lemmas.List.{take-append-le}
use Rattle.of_types.specs.declared.message.Event.{Event}
use Rattle.of_types.specs.declared.message.Executed.{Executed}
use Rattle.of_types.specs.declared.message.Extension.TheVariants as extension
use Rattle.of_types.specs.declared.message.OfMessage.TheVariants as plain
use Rattle.of_types.specs.declared.message.Order.{Order}
use Rattle.of_types.specs.declared.message.Spoken.{Spoken}
use Rattle.of_types.specs.declared.message.Spoken.TheVariants as spoken
use Rattle.of_types.specs.declared.setup.Setup.{Setup}
use Rattle.of_types.specs.Lives.{count_in}
use Rattle.journal.specs.declared.journal.Actor.{Actor}
use Rattle.journal.specs.declared.journal.Actor.TheVariants as actor
use Rattle.journal.specs.declared.journal.Letter.{Letter}
use Rattle.list_facts.proofs.Places.{get_prefix}
use Rattle.list_facts.proofs.Prefixes.{prefix_filter, prefix_length, prefix_refl}
use Rattle.list_facts.specs.Lists.{IsIn, IsPrefix}
use Rattle.vr_log.specs.declared.entry.Entry.{Entry}
use Rattle.vr_log.specs.declared.entry.Entry.TheVariants.{Received, Processed}
use Rattle.vr_log.specs.declared.message.VrMessage.{VrMessage}
use Rattle.vr_log.specs.Log.{received, processed}
use Rattle.two_stage_log.specs.Counts.{processed_of}
use Rattle.app_core.specs.Issued.{issued}
use Rattle.of_switch.specs.declared.says.SwitchSays.{SwitchSays}
use Rattle.of_switch.specs.State.{SwitchState}
use Rattle.group_controller.specs.declared.messages.ControllerSays.{ControllerSays}
use Rattle.group_controller.specs.State.{ControllerState}
use Rattle.run_spec.specs.declared.messages.Message.TheVariants as message
use Rattle.run_spec.specs.declared.messages.Unsealed.{Unsealed}
use Rattle.run_spec.specs.declared.messages.Unsealed.TheVariants as unsealed
use Rattle.run_spec.specs.States.{SwitchAt, ControllerAt}
use Rattle.run_laws.specs.OnceLaws.Facts.{PastFacts, Later, executed_of}
use Rattle.run_laws.specs.OnceLaws.Truths.{IsGenuine, IsOver, IsDoneThrough, IsTrueEntry, IsAhead, IsTrueCommand, IsNumbered, MayTell, IsReported}
use Rattle.run_laws.specs.OnceLaws.Invariant.{SwitchIsSound, IsReport, Reported, Forwarded, IsSoundAt, IsHonest, IsTrueVr, IsOrder, ToSwitch, ToMember, IsHonestAt, IsTrueBetween}
use Rattle.controller_moves.proofs.ControllerLaws.Issued.{issued_prefix}

pub received-append : (xs ys : List Entry) → received (xs ++ ys) ≡ received xs ++ received ys
received-append [] ys = refl
received-append (Received e ∷ xs) ys = ap (λ l. e ∷ l) (received-append xs ys)
received-append (Processed j ∷ xs) ys = received-append xs ys

pub processed-append : (xs ys : List Entry) → processed (xs ++ ys) ≡ processed xs + processed ys
processed-append xs ys = sum_by-append _ xs ys

pub received_prefix : {xs ys : List Entry} → IsPrefix xs ys → IsPrefix (received xs) (received ys)
received_prefix {xs = xs} p = record { rest = received p.rest; joined = ap (λ l. received l) p.joined ∙ received-append xs p.rest }

pub processed_prefix : {xs ys : List Entry} → IsPrefix xs ys → processed xs ≤ processed ys
processed_prefix {xs = xs} {ys = ys} p = let e : processed ys ≡ processed xs + processed p.rest = ap (λ l. processed l) p.joined ∙ processed-append xs p.rest in omega arith

take_prefixes : {A : Type 0} (p q : ℕ) (xs rest : List A) → p ≤ q → IsPrefix (take p xs) (take q (xs ++ rest))
take_prefixes zero q xs rest h = record { rest = take q (xs ++ rest); joined = refl }
take_prefixes (suc p) zero xs rest h = absurd (omega arith)
take_prefixes (suc p) (suc q) [] rest h = record { rest = take (suc q) rest; joined = refl }
take_prefixes (suc p) (suc q) (x ∷ xs) rest h = let r = take_prefixes p q xs rest (omega arith) in record { rest = r.rest; joined = ap (λ l. x ∷ l) r.joined }

pub take_prefix : {A : Type 0} (p q : ℕ) {xs ys : List A} → p ≤ q → IsPrefix xs ys → IsPrefix (take p xs) (take q ys)
take_prefix p q {xs = xs} h f = subst (λ l. IsPrefix (take p xs) (take q l)) (sym f.joined) (take_prefixes p q xs f.rest h)

-- the front of a beginning
pub take_same : {A : Type 0} (n : ℕ) {xs ys : List A} → n ≤ length xs → IsPrefix xs ys → take n ys ≡ take n xs
take_same n {xs = xs} h f = ap (λ l. take n l) f.joined ∙ take-append-le n xs f.rest h

pub count_prefix : (s life : ℕ) {xs ys : List Event} → IsPrefix xs ys → count_in s life xs ≤ count_in s life ys
count_prefix s life {xs = xs} {ys = ys} p =
    let e : count_in s life ys ≡ count_in s life xs + count_in s life p.rest = ap (λ l. count_in s life l) p.joined ∙ sum_by-append _ xs p.rest in omega arith

-- the count of processed events, over a longer log
pub processed_count : (s life : ℕ) {xs ys : List Entry} → IsPrefix xs ys → processed_of xs s life ≤ processed_of ys s life
processed_count s life p = count_prefix s life (take_prefix _ _ (processed_prefix p) (received_prefix p))

-- the count of settled commands, over a longer log
pub settled_count : (kinds : List ℕ) (setup : Setup) (s life : ℕ) {xs ys : List Entry} → IsPrefix xs ys →
    length (issued kinds setup s life (take (processed xs) (received xs))) ≤ length (issued kinds setup s life (take (processed ys) (received ys)))
settled_count kinds setup s life {xs = xs} {ys = ys} p =
    prefix_length (issued_prefix kinds setup s life (take (processed xs) (received xs)) (take (processed ys) (received ys)) (take_prefix _ _ (processed_prefix p) (received_prefix p)))

-- beside a greater commit number
pub ahead_higher : (f : PastFacts) (k k2 : ℕ) (entries : List Entry) (j : ℕ) → k ≤ k2 → IsAhead f k entries → IsIn (Processed j) entries → (j ≤ processed (take k2 f.decided)) × (j < length (received (take k2 f.decided)))
ahead_higher f k k2 entries j less h among =
    let p = take_prefix k k2 {xs = f.decided} {ys = f.decided} less (prefix_refl f.decided) in
    let old = h.one j among in
    (le_trans old.0 (processed_prefix p), le_trans old.1 (prefix_length (received_prefix p)))

-- a report stays true over longer lists
pub reported_more : (s : ℕ) {events more : List Event} {executed others : List Executed} → IsPrefix events more → IsPrefix executed others → (m : Spoken) →
    IsReported s events executed m → IsReported s more others m
reported_more s p q (spoken.Plain plain.Hello) h = h
reported_more s p q (spoken.Plain (plain.RoleReply role generation)) h = h
reported_more s p q (spoken.Plain (plain.Error kind code head)) h = h
reported_more s p q (spoken.Ravana (extension.Event life number what)) h =
    (get_prefix number (record { switch = s; life = life; number = number; what = what }) (prefix_filter _ p) h.0, h.1)
reported_more s p q (spoken.Ravana (extension.CmdAck life number result)) h = le_trans h (prefix_length (prefix_filter _ q))
reported_more s p q _ h = absurd h

pub report_more : (s : ℕ) {events more : List Event} {executed others : List Executed} → IsPrefix events more → IsPrefix executed others → (l : Letter SwitchSays) →
    IsReport s events executed l → IsReport s more others l
report_more s p q l (Reported c xid said is h) = Reported c xid said is (reported_more s p q said h)
report_more s p q l (Forwarded peer port frame is h) = Forwarded peer port frame is h

module _ (kinds : List ℕ) (setup : Setup) {f g : PastFacts} (later : Later f g) where
  pub genuine_more : (e : Event) → IsGenuine setup f e → IsGenuine setup g e
  genuine_more e h = record { there = h.there; stands = get_prefix e.number e (prefix_filter _ (later.events e.switch)) h.stands; good = h.good }

  pub over_more : (s life i : ℕ) → IsOver f s life i → IsOver g s life i
  over_more s life i h =
      record { place = h.place; below = h.below; event = h.event; stands = get_prefix h.place (Received h.event) later.decided h.stands; switch_is = h.switch_is; later = h.later }

  pub done_more : (i j : ℕ) → IsDoneThrough kinds setup f i j → IsDoneThrough kinds setup g i j
  done_more i j h =
      let p = received_prefix later.decided in
      record {
        there = le_trans h.there (prefix_length p);
        all = λ s life. elim (h.all s life) [
          | inl few ↦
              let same = take_same (j + 1) (let t = h.there in omega (arith, t)) p in
              inl (subst (λ l. length (issued kinds setup s life l) ≤ length (executed_of life (g.executed s))) (sym same) (le_trans few (prefix_length (prefix_filter _ (later.executed s)))))
          | inr over ↦ inr (over_more s life i over)
        ];
      }

  pub entry_more : (i : ℕ) (e : Entry) → IsTrueEntry kinds setup f i e → IsTrueEntry kinds setup g i e
  entry_more i (Received e) h = genuine_more e h
  entry_more i (Processed j) h = done_more i j h

  pub numbered_more : (s life i : ℕ) (what : Order) → IsNumbered kinds setup f s life i what → IsNumbered kinds setup g s life i what
  numbered_more s life i what h = get_prefix i what (issued_prefix kinds setup s life _ _ (received_prefix later.decided)) h

  command_more : (s life settled i : ℕ) (what : Order) → IsTrueCommand kinds setup f s life settled i what → IsTrueCommand kinds setup g s life settled i what
  command_more s life settled i what h =
      let p = received_prefix later.decided in
      let there = h.there in
      let before = take_same h.place (omega (arith, there)) p in
      let with_it = take_same (h.place + 1) (omega (arith, there)) p in
      record {
        place = h.place;
        there = le_trans h.there (prefix_length p);
        reached = le_trans h.reached (processed_prefix later.decided);
        settled_is = h.settled_is ∙ ap (λ l. length (issued kinds setup s life l)) (sym before);
        least = h.least;
        most = subst (λ l. i < length (issued kinds setup s life l)) (sym with_it) h.most;
        stands = numbered_more s life i what h.stands;
      }

  pub told_more : (c s : ℕ) (m : Spoken) → MayTell kinds setup f c s m → MayTell kinds setup g c s m
  told_more c s (spoken.Plain (plain.RoleRequest role generation)) h = h
  told_more c s (spoken.Ravana (extension.Command life generation number settled what)) h = (command_more s life settled number what h.0, h.1, h.2, h.3)
  told_more c s (spoken.Ravana (extension.EventAck life through)) h = le_trans h (processed_count s life later.decided)
  told_more c s (spoken.Ravana (extension.Clear life through)) h = le_trans h (settled_count kinds setup s life later.decided)
  told_more c s _ h = absurd h

  pub ahead_more : (k : ℕ) (entries : List Entry) → IsAhead f k entries → IsAhead g k entries
  ahead_more k entries h =
      let same = take_same k h.bound later.decided in
      record {
        bound = le_trans h.bound (prefix_length later.decided);
        one = λ j among. subst (λ (l : List Entry). (j ≤ processed l) × (j < length (received l))) (sym same) (h.one j among);
      }

  pub true_vr_more : (m : VrMessage) → IsTrueVr kinds setup f m → IsTrueVr kinds setup g m
  true_vr_more m h = record { entries = λ i e k. entry_more i e (h.entries i e k); ahead = λ k entries has. ahead_more k entries (h.ahead k entries has); spelled = h.spelled }

  pub order_more : (c : ℕ) (l : Letter ControllerSays) → IsOrder kinds setup f c l → IsOrder kinds setup g c l
  order_more c l (ToSwitch s xid said is told) = ToSwitch s xid said is (told_more c s said told)
  order_more c l (ToMember d m is h) = ToMember d m is (true_vr_more m h)

  pub honest_more : (c : ControllerState) → IsHonest kinds setup f c → IsHonest kinds setup g c
  honest_more c h =
      record { entries = λ i e k. entry_more i e (h.entries i e k); marks = λ s life i k. le_trans (h.marks s life i k) (prefix_length (prefix_filter _ (later.executed s))); ahead = λ k entries has. ahead_more k entries (h.ahead k entries has); views = h.views }

  pub sound_more : (s : ℕ) (state : SwitchState) → SwitchIsSound kinds setup f s state → SwitchIsSound kinds setup g s state
  sound_more s state h =
      record {
        well = h.well;
        good = h.good;
        issued = λ life i x at. numbered_more s life i x.order (h.issued life i x at);
        dropped = λ life. le_trans (h.dropped life) (processed_count s life later.decided);
        rows = h.rows;
      }

  pub sound_at_more : (s : ℕ) (w : SwitchAt) → IsSoundAt kinds setup f s w → IsSoundAt kinds setup g s w
  sound_at_more s w h = record { now = sound_more s w.now h.now; before = sound_more s w.before h.before; events = h.events; executed = h.executed; owed = h.owed }

  pub honest_at_more : (c : ℕ) (w : ControllerAt) → IsHonestAt kinds setup f c w → IsHonestAt kinds setup g c w
  honest_at_more c w h = record { now = honest_more w.now h.now; owed = λ l k. order_more c l (h.owed l k) }

  pub between_more : (from to : Actor) (u : Unsealed) → IsTrueBetween kinds setup f from to u → IsTrueBetween kinds setup g from to u
  between_more (actor.Controller c) (actor.Switch s) (unsealed.Message (message.Of xid m)) h = told_more c s m h
  between_more (actor.Controller c) (actor.Controller d) (unsealed.Message (message.Vr m)) h = (true_vr_more m h.0, h.1)
  between_more (actor.Switch s) (actor.Controller c) (unsealed.Message (message.Of xid m)) h = (h.0, reported_more s (later.events s) (later.executed s) m h.1)
  between_more (actor.Switch s) (actor.Switch t) (unsealed.Message (message.Frame port frame)) h = h
  between_more from to u h = absurd h

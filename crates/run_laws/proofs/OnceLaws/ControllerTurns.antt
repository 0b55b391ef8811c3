-- A good turn of a controller that hears the truth keeps it honest, and it says the truth: no entry stands as
-- processed before it is carried out.
use Rattle.std.proofs.Common.{◌≡◌, ◌<◌, ◌≤◌, ◌⊎◌, ℕ, ◌+◌, Bool, true, false, List, [], ◌∷◌, ◌++◌, length, take, zero, suc, refl, sym, ◌∙◌, ap, subst, inl, inr, append-nil, append_assoc, arith, le_trans}
use Rattle.std.specs.Prelude.{slice_get, nat_eq, nat_lt, Some, if◌then◌else◌}
use Rattle.std.proofs.lemmas.Bool.{cases_lt, and_parts, eqb-true, ltb-true}
use Rattle.std.proofs.lemmas.Option.{slice_get_within}
use Rattle.of_types.specs.declared.message.Event.{Event}
use Rattle.of_types.specs.declared.message.Extension.TheVariants as extension
use Rattle.of_types.specs.declared.message.OfMessage.TheVariants as plain
use Rattle.of_types.specs.declared.message.Spoken.{Spoken}
use Rattle.of_types.specs.declared.message.Spoken.TheVariants as spoken
use Rattle.of_types.specs.declared.setup.Setup.{Setup}
use Rattle.of_types.specs.Setups.{IsSetup}
use Rattle.of_types.specs.Lives.{life_after, life_in, has_ended}
use Rattle.journal.specs.declared.journal.Letter.{Letter}
use Rattle.list_facts.proofs.Places.{get_prefix}
use Rattle.list_facts.proofs.Prefixes.{front_prefix, prefix_filter, prefix_length, prefix_trans}
use Rattle.list_facts.specs.Lists.{IsIn, IsPrefix}
use Rattle.vr_log.specs.declared.entry.Entry.{Entry}
use Rattle.vr_log.specs.declared.entry.Entry.TheVariants.{Received, Processed}
use Rattle.vr_log.specs.Log.{received, processed}
use Rattle.vr_log.specs.Members.{is_up}
use Rattle.vr_log.specs.Sizes.{IsValidEntry}
use Rattle.app_core.specs.declared.issued.Issued.{Issued}
use Rattle.app_core.specs.Issued.{commands_of, issued}
use Rattle.dispatcher.specs.Marks.{settled_commands}
use Rattle.group_controller.specs.declared.messages.ControllerInput.{ControllerInput}
use Rattle.group_controller.specs.declared.messages.ControllerInput.TheVariants as controller_input
use Rattle.group_controller.specs.declared.messages.ControllerSays.{ControllerSays}
use Rattle.group_controller.specs.State.{ControllerState, committed}
use Rattle.group_controller.specs.Rules.{controller_work}
use Rattle.run_laws.specs.OnceLaws.Facts.{PastFacts, Later, executed_of}
use Rattle.run_laws.specs.OnceLaws.Truths.{IsGoodHappening, IsGenuine, IsOver, IsDoneThrough, IsTrueEntry, IsAhead, IsTrueCommand, MayTell}
use Rattle.run_laws.specs.OnceLaws.Invariant.{HoldsEntry, Logged, IsHonest, IsOrder, ToSwitch, ToMember, IsHeardByController}
use Rattle.run_laws.specs.OnceLaws.Premises.{IsMarked, IsMoment, HasSource, Was, Came, Logs, Finishes, IsSent, Asks, Commands, Acknowledges, Clears, Echoes, IsPosting, Switches, Members, BoundBy, By_held, By_told, By_moment, OneBy, One_held, One_told, One_proposed, IsAheadBy, IsGoodTurn, IsProperLog}
use Rattle.controller_moves.proofs.ControllerLaws.Issued.{issued_none, issued_prefix, IsBetween, command_between, done_unless}
use Rattle.controller_moves.proofs.ControllerLaws.Letters.{settled_is}
use Rattle.run_laws.proofs.OnceLaws.Marks.{marks_come}
use Rattle.run_laws.proofs.OnceLaws.Spelling.{commands_of_sendable, command_valid}
use Rattle.run_laws.proofs.OnceLaws.Packets.{happening_short, happening_valid}
use Rattle.run_laws.proofs.OnceLaws.Views.{views_kept, heard_view}
use Rattle.run_laws.proofs.OnceLaws.Growing.{processed-append, received_prefix, processed_prefix, take_prefix, take_same, ahead_more, ahead_higher, processed_count, settled_count, genuine_more, entry_more}

-- where a life is over, an event of a later one stands
pub life_comes : (s life start : ℕ) (events : List Event) → life < life_after start s events → (life < start) ⊎ ((e : Event) × IsIn e events × (e.switch ≡ s) × (life < e.life))
life_comes s life start [] h = inl h
life_comes s life start (e ∷ events) h = by_switch (nat_eq e.switch s) refl (λ k. life_comes s life k events) h
  where
    by_switch : (b : Bool) → nat_eq e.switch s ≡ b → ((k : ℕ) → life < life_after k s events → (life < k) ⊎ ((y : Event) × IsIn y events × (y.switch ≡ s) × (life < y.life))) →
        life < life_after (if b then e.life else start) s events → (life < start) ⊎ ((y : Event) × IsIn y (e ∷ events) × (y.switch ≡ s) × (life < y.life))
    by_switch true own deeper k = elim (deeper e.life k) [ inl less ↦ inr (e, inl refl, eqb-true e.switch s own, less) | inr r ↦ inr (r.0, inr r.1, r.2, r.3) ]
    by_switch false other deeper k = elim (deeper start k) [ inl less ↦ inl less | inr r ↦ inr (r.0, inr r.1, r.2, r.3) ]

pub received_at : (log : List Entry) (e : Event) → IsIn e (received log) → (i : ℕ) × (slice_get log i ≡ Some (Received e))
received_at [] e h = absurd h
received_at (Received y ∷ log) e (inl same) = (0, ap (λ (z : Event). Some (Received z)) (sym same))
received_at (Received y ∷ log) e (inr h) = let r = received_at log e h in (suc r.0, r.1)
received_at (Processed j ∷ log) e h = let r = received_at log e h in (suc r.0, r.1)

pub ended_at : (log : List Entry) (s life : ℕ) → has_ended s life (received log) ≡ true → (e : Event) × (i : ℕ) × (slice_get log i ≡ Some (Received e)) × (e.switch ≡ s) × (life < e.life)
ended_at log s life h =
    elim (life_comes s life 0 (received log) (ltb-true life (life_in s (received log)) h)) [
      | inl none ↦ absurd (omega (arith, none))
      | inr r ↦ let at = received_at log r.0 r.1 in (r.0, at.0, at.1, r.2, r.3)
    ]

-- each number below the count of processed events stands in a valid log
module _ (log : List Entry) (valid : IsProperLog log) (k : ℕ) where
  stands_behind : (front rest : List Entry) → log ≡ front ++ rest → processed front ≤ k → k < processed (front ++ rest) → (i : ℕ) × (slice_get rest i ≡ Some (Processed k))
  stands_behind front [] is few more = let none = ap (λ l. processed l) (append-nil front) in absurd (omega (arith, few, more, none))
  stands_behind front (Received e ∷ rest) is few more =
      let same : processed (front ++ Received e ∷ []) ≡ processed front + 0 = processed-append front (Received e ∷ []) in
      let joined = append_assoc front (Received e ∷ []) rest in
      let count = ap (λ l. processed l) joined in
      let r = stands_behind (front ++ Received e ∷ []) rest (is ∙ sym joined) (omega (arith, few, same)) (omega (arith, more, count)) in
      (suc r.0, r.1)
  stands_behind front (Processed j ∷ rest) is few more =
      let may = and_parts (nat_eq j (processed front)) (nat_lt j (length (received front))) (valid front rest (Processed j) is) in
      let here : j ≡ processed front = eqb-true j (processed front) may.0 in
      let same : processed (front ++ Processed j ∷ []) ≡ processed front + 1 = processed-append front (Processed j ∷ []) in
      let joined = append_assoc front (Processed j ∷ []) rest in
      let count = ap (λ l. processed l) joined in
      elim (cases_lt j k) [
        | inl less ↦
            let r = stands_behind (front ++ Processed j ∷ []) rest (is ∙ sym joined) (omega (arith, less, same, here)) (omega (arith, more, count)) in
            (suc r.0, r.1)
        | inr above ↦ let it : j ≡ k = omega (arith, above, here, few) in (0, ap (λ (n : ℕ). Some (Processed n)) it)
      ]

  pub processed_stands : k < processed log → (i : ℕ) × (slice_get log i ≡ Some (Processed k))
  processed_stands more = stands_behind [] log refl (omega arith) more

-- a front of a valid log is valid
pub valid_prefix : (log whole : List Entry) → IsPrefix log whole → IsProperLog whole → IsProperLog log
valid_prefix log whole p valid front back e is =
    valid front (back ++ p.rest) e (p.joined ∙ ap (λ (l : List Entry). l ++ p.rest) is ∙ append_assoc front (e ∷ back) p.rest)

module _ (kinds : List ℕ) (setup : Setup) (within : IsSetup setup) (f g : PastFacts) (later : Later f g) (me : ℕ) (c : ControllerState) (x : ControllerInput)
    (heard : IsHeardByController kinds setup f x) (honest : IsHonest kinds setup f c) (turn : IsGoodTurn kinds setup me c x)
    (front : is_up (controller_work kinds setup c x).state.vr ≡ true → IsPrefix (committed (controller_work kinds setup c x).state) g.decided)
    (valid : is_up (controller_work kinds setup c x).state.vr ≡ true → IsProperLog (committed (controller_work kinds setup c x).state)) where
  hears : (y : ControllerInput) → x ≡ y → IsHeardByController kinds setup f y
  hears y is = subst (λ (z : ControllerInput). IsHeardByController kinds setup f z) is heard

  -- what is marked is carried out
  marked_done : (s life i : ℕ) → IsMarked c x s life i → i < length (executed_of life (f.executed s))
  marked_done s life i (inl old) = honest.marks s life i old
  marked_done s life i (inr new) = (hears (controller_input.Of s new.0 (spoken.Ravana (extension.CmdAck life i new.1))) new.2).1

  -- a moment's log is decided
  moment_front : (log : List Entry) → IsMoment (controller_work kinds setup c x) log → IsPrefix log g.decided
  moment_front log m = prefix_trans m.front (front m.up)

  -- an entry of a moment's log is held at the end
  moment_holds : (log : List Entry) (i : ℕ) (e : Entry) → IsMoment (controller_work kinds setup c x) log → slice_get log i ≡ Some e → HoldsEntry (controller_work kinds setup c x).state.vr i e
  moment_holds log i e m at =
      let w : ControllerState = (controller_work kinds setup c x).state in
      Logged (get_prefix i e (front_prefix w.vr.commit w.vr.log) (get_prefix i e m.front at))

  over_ended : (log : List Entry) (i s life : ℕ) → IsMoment (controller_work kinds setup c x) log → length log ≤ i → has_ended s life (received log) ≡ true → IsOver g s life i
  over_ended log i s life m long ended =
      let r = ended_at log s life ended in
      let within = slice_get_within log r.1 (Received r.0) r.2 in
      record { place = r.1; below = omega (arith, within, long); event = r.0; stands = get_prefix r.1 (Received r.0) (moment_front log m) r.2; switch_is = r.3; later = r.4 }

  -- the commands of the events before are carried out, or over
  abbrev Before : List Entry → ℕ → ℕ → ℕ → Type 0
  Before log i s life = (length (issued kinds setup s life (take (processed log) (received log))) ≤ length (executed_of life (g.executed s))) ⊎ IsOver g s life i

  finish_all : (log : List Entry) (i s life : ℕ) → IsMoment (controller_work kinds setup c x) log → length log ≤ i → processed log < length (received log) →
      ((y : Issued) → IsIn y (commands_of kinds setup (received log) (processed log)) → IsMarked c x y.switch y.life y.number ⊎ (has_ended y.switch y.life (received log) ≡ true)) →
      Before log i s life → (length (issued kinds setup s life (take (processed log + 1) (received g.decided))) ≤ length (executed_of life (g.executed s))) ⊎ IsOver g s life i
  finish_all log i s life m long more all (inr over) = inr over
  finish_all log i s life m long more all (inl few) =
      let bound = length (executed_of life (g.executed s)) in
      let same = take_same (processed log + 1) (omega (arith, more)) (received_prefix (moment_front log m)) in
      elim (done_unless kinds setup (IsOver g s life i) s life bound (processed log) (received log) more few (λ y k switch_is life_is. each y switch_is life_is (all y k))) [
        | inl done ↦ inl (subst (λ l. length (issued kinds setup s life l) ≤ bound) (sym same) done)
        | inr over ↦ inr over
      ]
    where
      each : (y : Issued) → y.switch ≡ s → y.life ≡ life → IsMarked c x y.switch y.life y.number ⊎ (has_ended y.switch y.life (received log) ≡ true) → (y.number < length (executed_of life (g.executed s))) ⊎ IsOver g s life i
      each y switch_is life_is (inl marked) =
          let old = marked_done y.switch y.life y.number marked in
          let new : y.number < length (executed_of y.life (g.executed y.switch)) = le_trans old (prefix_length (prefix_filter _ (later.executed y.switch))) in
          inl (subst (λ (n : ℕ). y.number < length (executed_of n (g.executed s))) life_is (subst (λ (n : ℕ). y.number < length (executed_of y.life (g.executed n))) switch_is new))
      each y switch_is life_is (inr ended) =
          inr (over_ended log i s life m long (subst (λ (n : ℕ). has_ended s n (received log) ≡ true) life_is (subst (λ (n : ℕ). has_ended n y.life (received log) ≡ true) switch_is ended)))

  -- one place after another, the lowest first
  true_below : (n i : ℕ) → i < n → (e : Entry) → HasSource kinds setup c x i e → IsTrueEntry kinds setup g i e
  true_below zero i lt e h = absurd (omega (arith, lt))
  true_below (suc n) i lt e (Was h) = entry_more kinds setup later i e (honest.entries i e h)
  true_below (suc n) i lt e (Came from m is h) = entry_more kinds setup later i e ((hears (controller_input.Vr from m) is).0.entries i e h)
  true_below (suc n) i lt e (Logs s xid life number what is it) =
      let told = hears (controller_input.Of s xid (spoken.Ravana (extension.Event life number what))) is in
      subst (λ (y : Entry). IsTrueEntry kinds setup g i y) (sym it)
      (genuine_more kinds setup later (record { switch = s; life = life; number = number; what = what }) (record { there = told.0; stands = told.1.0; good = told.1.1 }))
  true_below (suc n) i lt e (Finishes log m long more it all) =
      let p = received_prefix (moment_front log m) in
      let done : IsDoneThrough kinds setup g i (processed log) =
      record {
        there = le_trans more (prefix_length p);
        all = λ s life. finish_all log i s life m long more all (before s life (processed log) refl (λ k less.
            let at = processed_stands log (valid_prefix log (committed (controller_work kinds setup c x).state) m.front (valid m.up)) k less in
            let within = slice_get_within log at.0 (Processed k) at.1 in
            (at.0, omega (arith, within, long), true_below n at.0 (omega (arith, within, long, lt)) (Processed k) (turn.entries at.0 (Processed k) (moment_holds log at.0 (Processed k) m at.1)))));
      } in
      subst (λ (y : Entry). IsTrueEntry kinds setup g i y) (sym it) done
    where
      before : (s life j : ℕ) → j ≡ processed log → ((k : ℕ) → k < processed log → (place : ℕ) × (place < i) × IsDoneThrough kinds setup g place k) → Before log i s life
      before s life zero is old =
          let none = ap (λ (m : ℕ). length (issued kinds setup s life (take m (received log)))) (sym is) ∙ ap (λ l. length l) (issued_none kinds setup s life) in
          inl (omega (arith, none))
      before s life (suc k) is old =
          let r = old k (omega (arith, is)) in
          let same = take_same (suc k) (omega (arith, is, more)) (received_prefix (moment_front log m)) in
          let number : k + 1 ≡ suc k = omega arith in
          elim (r.2.all s life) [
            | inl few ↦
                inl (subst (λ (j : ℕ). length (issued kinds setup s life (take j (received log))) ≤ length (executed_of life (g.executed s))) is
                (subst (λ l. length (issued kinds setup s life l) ≤ length (executed_of life (g.executed s))) same
                (subst (λ (j : ℕ). length (issued kinds setup s life (take j (received g.decided))) ≤ length (executed_of life (g.executed s))) number few)))
            | inr over ↦
                let low = over.below in
                let high = r.1 in
                inr (record { place = over.place; below = omega (arith, low, high); event = over.event; stands = over.stands; switch_is = over.switch_is; later = over.later })
          ]

  pub entry_true : (i : ℕ) (e : Entry) → HasSource kinds setup c x i e → IsTrueEntry kinds setup g i e
  entry_true i e h = true_below (suc i) i (omega arith) e h

  entry_valid : (i : ℕ) (e : Entry) → IsTrueEntry kinds setup g i e → IsValidEntry e
  entry_valid i (Received e) h = let short = happening_short e.what h.good in (omega (arith, short), happening_valid e.what h.good)
  entry_valid i (Processed j) h = tt

  -- the events of a moment's log are good
  moment_good : (log : List Entry) → IsMoment (controller_work kinds setup c x) log → (e : Event) → IsIn e (received log) → IsGoodHappening e.what
  moment_good log m e k =
      let at = received_at log e k in
      let genuine : IsGenuine setup g e = entry_true at.0 (Received e) (turn.entries at.0 (Received e) (moment_holds log at.0 (Received e) m at.1)) in
      genuine.good

  -- what it says to a switch is true
  sent_true : (s : ℕ) (said : Spoken) → IsSent kinds setup me c x s said → MayTell kinds setup g me s said
  sent_true s said (Asks generation below own is) = subst (λ (m : Spoken). MayTell kinds setup g me s m) (sym is) (refl, below, own)
  sent_true s said (Commands log y generation m among switch_is own is) =
      let j = processed log in
      let b : IsBetween kinds setup (received log) j y = command_between kinds setup (received log) j y among in
      let there = b.there in
      let front_is = moment_front log m in
      let sendable = commands_of_sendable kinds setup within (received log) (moment_good log m) j y among in
      let p = received_prefix front_is in
      let before = take_same j (omega (arith, there)) p in
      let with_it = take_same (j + 1) (omega (arith, there)) p in
      let settled = settled_is kinds setup log y.switch y.life in
      let command : IsTrueCommand kinds setup g y.switch y.life (settled_commands kinds setup log y.switch y.life) y.number y.order =
      record {
        place = j;
        there = le_trans there (prefix_length p);
        reached = processed_prefix front_is;
        settled_is = settled ∙ ap (λ l. length (issued kinds setup y.switch y.life l)) (sym before);
        least = let low = b.least in omega (arith, low, settled);
        most = subst (λ l. y.number < length (issued kinds setup y.switch y.life l)) (sym with_it) b.most;
        stands = get_prefix y.number y.order (issued_prefix kinds setup y.switch y.life _ _ p) b.stands;
      } in
      let here = subst (λ (k : ℕ). IsTrueCommand kinds setup g k y.life (settled_commands kinds setup log y.switch y.life) y.number y.order) switch_is command in
      subst (λ (k : Spoken). MayTell kinds setup g me s k) (sym is) (here, sendable.2, command_valid y.order sendable y.life generation y.number (settled_commands kinds setup log y.switch y.life), own)
  sent_true s said (Acknowledges log life m is) = subst (λ (k : Spoken). MayTell kinds setup g me s k) (sym is) (processed_count s life (moment_front log m))
  sent_true s said (Clears log life m is) =
      let settled = settled_is kinds setup log s life in
      let more = settled_count kinds setup s life (moment_front log m) in
      subst (λ (k : Spoken). MayTell kinds setup g me s k) (sym is) (omega (arith, settled, more))
  sent_true s said (Echoes xid body is) = absurd ((hears (controller_input.Of s xid (spoken.Plain (plain.EchoRequest body))) is).1)

  -- past a commit number at most one event stands as processed
  bound_true : (k : ℕ) → BoundBy kinds setup c x k → k ≤ length g.decided
  bound_true k (By_held k0 entries h less) = le_trans less (ahead_more kinds setup later k0 entries (honest.ahead k0 entries h)).bound
  bound_true k (By_told from m k0 entries is h less) = le_trans less (ahead_more kinds setup later k0 entries ((hears (controller_input.Vr from m) is).0.ahead k0 entries h)).bound
  bound_true k (By_moment log m less) = le_trans less (prefix_length (moment_front log m))

  one_true : (k j : ℕ) → k ≤ length g.decided → OneBy kinds setup c x k j → (j ≤ processed (take k g.decided)) × (j < length (received (take k g.decided)))
  one_true k j few (One_held k0 entries h less among) = ahead_higher g k0 k entries j less (ahead_more kinds setup later k0 entries (honest.ahead k0 entries h)) among
  one_true k j few (One_told from m k0 entries is h less among) = ahead_higher g k0 k entries j less (ahead_more kinds setup later k0 entries ((hears (controller_input.Vr from m) is).0.ahead k0 entries h)) among
  one_true k j few (One_proposed log m long more is) =
      let whole : take (length log) log ≡ log = take_whole log in
      let p : IsPrefix log (take k g.decided) = subst (λ (l : List Entry). IsPrefix l (take k g.decided)) whole (take_prefix (length log) k long (moment_front log m)) in
      let count = processed_prefix p in
      let longer = prefix_length (received_prefix p) in
      (omega (arith, is, count), omega (arith, is, more, longer))
    where
      take_whole : (l : List Entry) → take (length l) l ≡ l
      take_whole [] = refl
      take_whole (e ∷ l) = ap (λ (r : List Entry). e ∷ r) (take_whole l)

  ahead_true : (k : ℕ) (entries : List Entry) → IsAheadBy kinds setup c x k entries → IsAhead g k entries
  ahead_true k entries h = let few = bound_true k h.bound in record { bound = few; one = λ j among. one_true k j few (h.one j among) }

  posting_true : (l : Letter ControllerSays) → IsPosting kinds setup me c x l → IsOrder kinds setup g me l
  posting_true l (Switches s xid said is sent) = ToSwitch s xid said is (sent_true s said sent)
  posting_true l (Members d m is spells all ahead) = ToMember d m is (record { entries = λ i e k. entry_true i e (all i e k); ahead = λ k entries has. ahead_true k entries (ahead k entries has); spelled = spells (λ i e k. entry_valid i e (entry_true i e (all i e k))) })

  pub record ControllerKeeps : Type 0 where
    pub now : IsHonest kinds setup g (controller_work kinds setup c x).state
    pub said : (l : Letter ControllerSays) → IsIn l (controller_work kinds setup c x).letters → IsOrder kinds setup g me l

  pub controller_keeps : ControllerKeeps
  controller_keeps =
      record {
        now = record {
          entries = λ i e k. entry_true i e (turn.entries i e k);
          marks = λ s life i k. le_trans (marked_done s life i (marks_come kinds setup c x s life i k)) (prefix_length (prefix_filter _ (later.executed s)));
          ahead = λ k entries has. ahead_true k entries (turn.ahead k entries has);
          views = views_kept kinds setup x c honest.views (heard_view kinds setup f x heard);
        };
        said = λ l k. posting_true l (turn.letters l k);
      }

-- The primary collects the logs of the quorum.
use Rattle.std.proofs.Common.{◌≡◌, ◌<◌, ℕ, ◌+◌, ◌/◌, ◌%◌, Bool, true, false, List, [], ◌∷◌, ◌++◌, length, map, drop, refl, sym, ◌∙◌, ap, subst, arith, append-nil, append_assoc, length-append}
use Rattle.std.specs.Prelude.{nat_eq, nat_le, ◌||◌, None, if◌then◌else◌}
use Rattle.std.specs.List.{list_any}
use Rattle.std.proofs.lemmas.Bool.{eq-eqb, ne_eqb, eqb-true, eqb-false, le-leb, both_ways}
use Rattle.std.proofs.lemmas.List.{length-map}
use Rattle.vr_log.specs.declared.message.VrLetter.{VrLetter}
use Rattle.vr_log.specs.declared.message.VrMessage.TheVariants as message
use Rattle.vr_log.specs.declared.state.Collected.{Collected}
use Rattle.vr_log.specs.declared.state.VrState.{VrState}
use Rattle.vr_log.specs.Members.{is_changing}
use Rattle.vr_log.specs.Steps.{VrStep, guarded, is_sound, sends}
use Rattle.vr_log.specs.Choosing.{has_collected}
use Rattle.view_change.specs.Entering.{check}
use Rattle.vr_core.specs.declared.input.VrInput.TheVariants as vr_input
use Rattle.vr_core.specs.Step.{vr_step}
use Rattle.closing_laws.specs.Quorum.{has}
use Rattle.closing_laws.specs.Draining.{GroupState, Flight, flown}
use Rattle.closing_laws.specs.Views.{IsReadyMember, log_of, views_behind}
use Rattle.closing_laws.proofs.Lists.Numbers.{Once, has_here, has_later, has_append}
use Rattle.closing_laws.proofs.Lists.Picked.{IsPicked}
use Rattle.closing_laws.proofs.Start.Calls.{After, AreChanging, none_after, after_on, after_first, after_is, one_drawn, held}
use Rattle.closing_laws.proofs.Start.Members.{guard_open, sound_here}
use Rattle.closing_laws.proofs.Start.Rounds.{heard_from, all_voted}
use Rattle.closing_laws.proofs.Start.Starting.{gathering, waits, log_comes}
use Rattle.closing_laws.proofs.Start.Words.{log_sent}

-- whose logs these are
pub collected_has : (start : ℕ → VrState) (done : List ℕ) (j : ℕ) → list_any (λ (c : Collected). nat_eq c.from j) (map (log_of start) done) ≡ has done j
collected_has start [] j = refl
collected_has start (d ∷ done) j = ap (λ (b : Bool). nat_eq d j || b) (collected_has start done j)

module _ (n w : ℕ) (quorum : List ℕ) (start : ℕ → VrState) (ready : (j : ℕ) → has quorum j ≡ true → IsReadyMember n w j (start j)) (q : IsPicked n w quorum) (group : 0 < n / 2) where
  -- the votes of each
  abbrev pub votes_of : ℕ → List ℕ
  votes_of j = heard_from (views_behind quorum []) j

  pub leader : IsReadyMember n w (w % n) (start (w % n))
  leader = ready (w % n) q.primary

  pub its_turn : nat_eq (w % (start (w % n)).controllers) (start (w % n)).me ≡ true
  its_turn = eq-eqb (w % (start (w % n)).controllers) (start (w % n)).me (ap (λ (k : ℕ). w % k) leader.size ∙ sym leader.me)

  pub its_group : 0 < (start (w % n)).controllers / 2
  its_group = subst (λ (k : ℕ). 0 < k / 2) (sym leader.size) group

  abbrev pub gathered : List ℕ → VrState
  gathered done = gathering (start (w % n)) w (votes_of (w % n)) its_turn its_group (map (log_of start) done) None

  -- the members while the primary is this
  abbrev pub led : VrState → ℕ → VrState
  led u j = if nat_eq j (w % n) then u else held n w quorum start ready votes_of j

  -- at first it has its own log
  pub led_first : (j : ℕ) → held n w quorum start ready votes_of j ≡ led (gathered []) j
  led_first j = by_place (nat_eq j (w % n)) refl
    where
      by_place : (b : Bool) → nat_eq j (w % n) ≡ b → held n w quorum start ready votes_of j ≡ (if b then gathered [] else held n w quorum start ready votes_of j)
      by_place true e =
          let same : w % n ≡ j = sym (eqb-true j (w % n) e) in
          let all : nat_le (n / 2) (length (votes_of (w % n))) ≡ true = le-leb (n / 2) (length (votes_of (w % n))) (let v = all_voted n w quorum start ready q (w % n) q.primary in omega (arith, v)) in
          let own : nat_eq (w % n) (start (w % n)).me ≡ true = eq-eqb (w % n) (start (w % n)).me (sym leader.me) in
          subst (λ (k : ℕ). held n w quorum start ready votes_of k ≡ gathered []) same (rw (q.primary, own, all) refl)
      by_place false e = refl

  pub led_changing : (done : List ℕ) (at : ℕ → VrState) → ((j : ℕ) → at j ≡ led (gathered done) j) → AreChanging quorum at
  led_changing done at each j member = by_place (nat_eq j (w % n)) refl
    where
      by_place : (b : Bool) → nat_eq j (w % n) ≡ b → is_changing (at j) ≡ true
      by_place true e = ap is_changing (each j ∙ ap (λ (x : Bool). if x then gathered done else held n w quorum start ready votes_of j) e)
      by_place false e = ap is_changing (each j ∙ ap (λ (x : Bool). if x then gathered done else held n w quorum start ready votes_of j) e) ∙ rw member refl

  -- one log more comes
  pub log_heard : (done : List ℕ) (b : ℕ) (at : ℕ → VrState) (u : VrState) (ls : List VrLetter) → ((j : ℕ) → at j ≡ led (gathered done) j) →
      has quorum b ≡ true → nat_eq (w % n) b ≡ false → has done b ≡ false → check (gathered (done ++ b ∷ [])) ≡ sends u ls → is_sound (start (w % n)) u ≡ true →
      vr_step (at (w % n)) (vr_input.From b (message.DoViewChange w (start b).normal (start b).commit (drop (start b).commit (start b).log))) ≡ sends u ls
  log_heard done b at u ls each member other new decided sound =
      let sp = start (w % n) in
      let m = ready b member in
      let apart : b ≡ sp.me → ⊥ = λ e. eqb-false (w % n) b other (sym (e ∙ leader.me)) in
      let small : b < sp.controllers = (let size = leader.size in let less = m.small in omega (arith, size, less)) in
      let unknown : has_collected (gathered done) b ≡ false = ap (λ (x : Bool). nat_eq sp.me b || x) (collected_has start done b ∙ new)
      ∙ ap (λ (x : Bool). x || false) (ne_eqb sp.me b (λ e. apart (sym e))) in
      let at_is : at (w % n) ≡ gathered done = each (w % n) ∙ ap (λ (x : Bool). if x then gathered done else held n w quorum start ready votes_of (w % n)) (eq-eqb (w % n) (w % n) refl) in
      ap (λ (s : VrState). vr_step s (vr_input.From b (message.DoViewChange w (start b).normal (start b).commit (drop (start b).commit (start b).log)))) at_is
      ∙ log_comes sp w (votes_of (w % n)) its_turn its_group (map (log_of start) done) (log_of start b) small apart unknown
      ∙ ap (λ (cs : List Collected). guarded (gathered done) (check (gathering sp w (votes_of (w % n)) its_turn its_group cs None))) (sym (mapped done))
      ∙ ap (λ (x : VrStep). guarded (gathered done) x) decided
      ∙ guard_open (gathered done) (sends u ls) sound
    where
      mapped : (xs : List ℕ) → map (log_of start) (xs ++ b ∷ []) ≡ map (log_of start) xs ++ log_of start b ∷ []
      mapped [] = refl
      mapped (x ∷ xs) = ap (λ (l : List Collected). log_of start x ∷ l) (mapped xs)

  -- and is taken
  pub collect_one : (done : List ℕ) (b : ℕ) (at : ℕ → VrState) (waiting : List Flight) (turns : ℕ) (u : VrState) (ls : List VrLetter) → ((j : ℕ) → at j ≡ led (gathered done) j) →
      has quorum b ≡ true → nat_eq (w % n) b ≡ false → has done b ≡ false → check (gathered (done ++ b ∷ [])) ≡ sends u ls → is_sound (start (w % n)) u ≡ true →
      After 1 quorum (record { at = at; pool = log_sent start w (w % n) b ∷ waiting; turns = turns }) (led u) (waiting ++ map (flown (w % n)) ls) (turns + 1)
  collect_one done b at waiting turns u ls each member other new decided sound =
      one_drawn quorum at (led u) (log_sent start w (w % n) b) waiting (waiting ++ map (flown (w % n)) ls) turns (sends u ls) (led_changing done at each) q.primary
      (log_heard done b at u ls each member other new decided sound)
      (λ j. placed j (nat_eq j (w % n)) (each j)) refl
    where
      placed : (j : ℕ) (x : Bool) → at j ≡ (if x then gathered done else held n w quorum start ready votes_of j) → (if x then u else at j) ≡ (if x then u else held n w quorum start ready votes_of j)
      placed j true is = refl
      placed j false is = is

  -- all but the last of them: this log of one more waits
  pub record BeforeLast (count : ℕ) (all : List ℕ) (g : GroupState) (turns : ℕ) : Type 0 where
    pub front : List ℕ
    pub last : ℕ
    pub joined : front ++ last ∷ [] ≡ all
    pub member : has quorum last ≡ true
    pub other : nat_eq (w % n) last ≡ false
    pub new : has front last ≡ false
    pub reached : After count quorum g (led (gathered front)) (log_sent start w (w % n) last ∷ []) (turns + count)

  pub all_but_last : (b : ℕ) (bs done all : List ℕ) (at : ℕ → VrState) (turns : ℕ) → done ++ b ∷ bs ≡ all → length all ≡ n / 2 →
      ((j : ℕ) → has (b ∷ bs) j ≡ true → (has quorum j ≡ true) × (nat_eq (w % n) j ≡ false)) → Once (b ∷ bs) → ((j : ℕ) → has (b ∷ bs) j ≡ true → has done j ≡ false) →
      ((j : ℕ) → at j ≡ led (gathered done) j) →
      BeforeLast (length bs) all (record { at = at; pool = map (log_sent start w (w % n)) (b ∷ bs); turns = turns }) turns
  all_but_last b [] done all at turns joined count members once new each =
      let m = members b (has_here b []) in
      record {
        front = done;
        last = b;
        joined = joined;
        member = m.0;
        other = m.1;
        new = new b (has_here b []);
        reached = none_after quorum at (led (gathered done)) (log_sent start w (w % n) b ∷ []) (log_sent start w (w % n) b ∷ []) turns (turns + 0) each refl (omega arith);
      }
  all_but_last b (c ∷ later) done all at turns joined count members once new each =
      let sp = start (w % n) in
      let m = members b (has_here b (c ∷ later)) in
      let grown = done ++ b ∷ [] in
      let short : length (map (log_of start) grown) < sp.controllers / 2 =
      (let long = ap length joined ∙ count in let parts = length-append done (b ∷ (c ∷ later)) in let now = length-append done (b ∷ []) in let mapped = length-map grown (log_of start) in
      subst (λ (k : ℕ). length (map (log_of start) grown) < k / 2) (sym leader.size) (omega (arith, long, parts, now, mapped))) in
      let still : check (gathered grown) ≡ sends (gathered grown) [] = waits sp w (votes_of (w % n)) its_turn its_group (map (log_of start) grown) None short in
      let waiting : List Flight = map (log_sent start w (w % n)) (c ∷ later) in
      let g : GroupState = record { at = at; pool = map (log_sent start w (w % n)) (b ∷ (c ∷ later)); turns = turns } in
      let first : After 1 quorum g (led (gathered grown)) waiting (turns + 1) =
      after_is 1 quorum g (led (gathered grown)) (led (gathered grown)) (waiting ++ []) waiting (turns + 1) (turns + 1)
      (collect_one done b at waiting turns (gathered grown) [] each m.0 m.1 (new b (has_here b (c ∷ later))) still
      (sound_here sp leader.is_one leader.commit (gathered grown) refl refl)) (λ j. refl) (append-nil waiting) refl in
      let rest = all_but_last c later grown all first.found (turns + 1) (append_assoc done (b ∷ []) (c ∷ later) ∙ joined) count
      (λ j h. members j (has_later b j (c ∷ later) h)) once.1 (λ j h. grown_new j (new j (has_later b j (c ∷ later) h)) h once.0) first.each in
      record {
        front = rest.front;
        last = rest.last;
        joined = rest.joined;
        member = rest.member;
        other = rest.other;
        new = rest.new;
        reached = after_first 1 (length later) (length (c ∷ later)) quorum g (led (gathered grown)) (led (gathered rest.front)) waiting (log_sent start w (w % n) rest.last ∷ [])
            (turns + 1) (turns + 1 + length later) (turns + length (c ∷ later)) first rest.reached (omega arith) (omega arith);
      }
    where
      grown_new : (j : ℕ) → has done j ≡ false → has (c ∷ later) j ≡ true → has (c ∷ later) b ≡ false → has (done ++ b ∷ []) j ≡ false
      grown_new j none there gone =
          has_append done (b ∷ []) j ∙ ap (λ (x : Bool). x || (nat_eq b j || false)) none
          ∙ ap (λ (x : Bool). x || false) (ne_eqb b j (λ e. both_ways (has (c ∷ later) j) (ap (has (c ∷ later)) (sym e) ∙ gone) there))

  -- and the last one
  pub collect_last : (count : ℕ) (all : List ℕ) (g : GroupState) (turns : ℕ) (u : VrState) (ls : List VrLetter) → (b : BeforeLast count all g turns) → check (gathered all) ≡ sends u ls → is_sound (start (w % n)) u ≡ true →
      After (count + 1) quorum g (led u) (map (flown (w % n)) ls) (turns + count + 1)
  collect_last count all g turns u ls b decided sound =
      after_on count 1 quorum g (led (gathered b.front)) (led u) (log_sent start w (w % n) b.last ∷ []) (map (flown (w % n)) ls) (turns + count) (turns + count + 1) b.reached
      (λ found is. collect_one b.front b.last found [] (turns + count) u ls is b.member b.other b.new (ap (λ (xs : List ℕ). check (gathered xs)) b.joined ∙ decided) sound)

  -- all but the last of those that the primary lacks
  pub before_last : (bs : List ℕ) (at : ℕ → VrState) (turns : ℕ) → length bs ≡ n / 2 → 0 < length bs →
      ((j : ℕ) → has bs j ≡ true → (has quorum j ≡ true) × (nat_eq (w % n) j ≡ false)) → Once bs → ((j : ℕ) → at j ≡ led (gathered []) j) →
      (count : ℕ) × (count + 1 ≡ length bs) × BeforeLast count bs (record { at = at; pool = map (log_sent start w (w % n)) bs; turns = turns }) turns
  before_last [] at turns count some members once each = absurd (omega (arith, some))
  before_last (b ∷ bs) at turns count some members once each =
      (length bs, omega arith, all_but_last b bs [] (b ∷ bs) at turns refl count members once (λ j h. refl) each)

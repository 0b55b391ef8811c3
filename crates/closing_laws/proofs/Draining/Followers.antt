-- The others of a quorum keep up with their primary: what each of their turns does, and each of the primary's.
use Rattle.std.proofs.Common.{◌≡◌, ◌≤◌, ◌<◌, ◌⊎◌, inl, inr, ℕ, zero, suc, ◌+◌, ◌%◌, Bool, true, false, List, [], ◌∷◌, ◌++◌, length, take, drop, refl, sym, ◌∙◌, ap, subst, arith}
use Rattle.std.specs.Prelude.{nat_eq, nat_le, nat_lt, slice_index, None, if◌then◌else◌}
use Rattle.std.proofs.lemmas.Bool.{eq-eqb, ne_eqb, lt-leb, lt-ltb, ltb-true, ltb-false}
use Rattle.std.proofs.lemmas.List.{take-append-drop, length-append, drop-append-le, take-append-le, take_all, length-drop, length-take}
use Rattle.journal.specs.declared.journal.Actor.TheVariants as actor
use Rattle.vr_log.specs.declared.entry.Entry.{Entry}
use Rattle.vr_log.specs.declared.message.VrLetter.{VrLetter}
use Rattle.vr_log.specs.declared.message.VrMessage.{VrMessage}
use Rattle.vr_log.specs.declared.message.VrMessage.TheVariants as vr
use Rattle.vr_log.specs.declared.state.Status.{Status}
use Rattle.vr_log.specs.declared.state.Status.TheVariants.{Normal, ViewChange, Recovering, Down}
use Rattle.vr_log.specs.declared.state.VrState.{VrState}
use Rattle.vr_log.specs.Log.{fits, is_log}
use Rattle.vr_log.specs.Members.{is_normal}
use Rattle.vr_log.specs.Steps.{VrStep, letter, appended, acknowledges}
use Rattle.vr_core.specs.declared.input.VrInput.TheVariants as vr_input
use Rattle.vr_core.specs.Step.{vr_step, on_vr}
use Rattle.controller_moves.proofs.ControllerLaws.Logs.{fits_at}
use Rattle.group_controller.specs.State.{to_members}
use Rattle.run_spec.specs.declared.messages.Message.{Message}
use Rattle.run_spec.specs.declared.messages.Message.TheVariants as message
use Rattle.run_spec.specs.States.{controller_message}
use Rattle.closing_laws.specs.Views.{IsReadyMember, in_started, in_view}
use Rattle.closing_laws.specs.Ways.{told_to}
use Rattle.closing_laws.specs.Following.{ArePrepares, AreAcknowledged, Start, WaitsFor, IsFollowing, KeepsUp, LeadsFrom}
use Rattle.closing_laws.proofs.Start.Adopted.{log_adopted}

-- what members are told of entries
pub prepares_rise : (view most more place : ℕ) (entries : List Entry) (ms : List Message) → most ≤ more → ArePrepares view most place entries ms → ArePrepares view more place entries ms
prepares_rise view most more place [] [] le h = tt
prepares_rise view most more place [] (m ∷ ms) le h = absurd h
prepares_rise view most more place (e ∷ entries) [] le h = absurd h
prepares_rise view most more place (e ∷ entries) (m ∷ ms) le h =
    let low = h.0.1 in ((h.0.0, omega (arith, le, low), h.0.2), prepares_rise view most more (place + 1) entries ms le h.1)

pub prepares_joined : (view most place : ℕ) (entries more : List Entry) (ms ns : List Message) → ArePrepares view most place entries ms → ArePrepares view most (place + length entries) more ns →
    ArePrepares view most place (entries ++ more) (ms ++ ns)
prepares_joined view most place [] more [] ns h g = let same : place + 0 ≡ place = omega arith in subst (λ (k : ℕ). ArePrepares view most k more ns) same g
prepares_joined view most place [] more (m ∷ ms) ns h g = absurd h
prepares_joined view most place (e ∷ entries) more [] ns h g = absurd h
prepares_joined view most place (e ∷ entries) more (m ∷ ms) ns h g =
    let same : place + suc (length entries) ≡ place + 1 + length entries = omega arith in
    (h.0, prepares_joined view most (place + 1) entries more ms ns h.1 (subst (λ (k : ℕ). ArePrepares view most k more ns) same g))

-- nothing is left behind so many
pub drop_none : {A : Type 0} (n : ℕ) (xs : List A) → drop n xs ≡ [] → length xs ≤ n
drop_none n xs none = let left = length-drop n xs in let nothing = ap length none in omega (arith, left, nothing)

-- the acknowledgement of one entry more
pub acked_more : (view known acked len : ℕ) (ms : List Message) → acked ≤ len → AreAcknowledged view known acked len ms →
    AreAcknowledged view known acked (len + 1) (ms ++ message.Vr (vr.PrepareOk view (len + 1)) ∷ [])
acked_more view known acked len [] le h = (len + 1, refl, omega (arith, le), omega arith, inl refl)
acked_more view known acked len (m ∷ ms) le h =
    let low = h.3 in (h.0, h.1, h.2, omega (arith, low), acked_more view known h.0 len ms low h.4)

-- a list is cut before one more of its entries
abbrev IsCut : ℕ → List Entry → Entry → List Entry → ℕ → Type 0
IsCut n xs e es next = (take next xs ≡ take n xs ++ e ∷ []) × (drop next xs ≡ es) × (n < length xs)

cut_next : (n : ℕ) (xs : List Entry) (e : Entry) (es : List Entry) → drop n xs ≡ e ∷ es → IsCut n xs e es (suc n)
cut_next zero [] e es h = cc
cut_next zero (x ∷ xs) e es h =
    let first : x ≡ e = cc in
    let rest : xs ≡ es = cc in
    (ap (λ (y : Entry). y ∷ []) first, rest, omega arith)
cut_next (suc n) [] e es h = cc
cut_next (suc n) (x ∷ xs) e es h = let r = cut_next n xs e es h in let less = r.2 in (ap (λ (l : List Entry). x ∷ l) r.0, r.1, omega (arith, less))

drop_one : (n : ℕ) (xs : List Entry) (e : Entry) (es : List Entry) → drop n xs ≡ e ∷ es → IsCut n xs e es (n + 1)
drop_one n xs e es h = let same : suc n ≡ n + 1 = omega arith in subst (λ (k : ℕ). IsCut n xs e es k) same (cut_next n xs e es h)

-- a member of a view hears its next entry
prepare_next : (s : VrState) (from view commit : ℕ) (e : Entry) → nat_lt from s.controllers ≡ true → nat_eq from s.me ≡ false → nat_eq from (view % s.controllers) ≡ true → is_normal s ≡ true →
    nat_eq view s.view ≡ true → fits s.log e ≡ true → on_vr s from (vr.Prepare view (length s.log + 1) commit e) ≡ acknowledges (appended s e) commit
unfolding on_vr
prepare_next s from view commit e below other primary normal same joins =
    let gap : nat_le (length s.log + 1) (length s.log) ≡ false = lt-leb (length s.log + 1) (length s.log) (omega arith) in
    let next : nat_eq (length s.log + 1) (length s.log + 1) ≡ true = eq-eqb (length s.log + 1) (length s.log + 1) refl in
    rw (below, other, primary, normal, same, gap, next, joins) refl

taken_long : (n : ℕ) (xs : List Entry) → length (take n xs) ≡ n → n ≤ length xs
taken_long n xs h = let long = length-take n xs in omega (arith, long, h)

module _ (start : Start) (p : VrState) (lead : LeadsFrom start p) where
  pub started_within : length start.log ≤ length p.log
  started_within = taken_long (length start.log) p.log (ap length lead.begins)

  -- a longer log, of which no less is committed
  module _ (p' : VrState) (more : List Entry) (b : ℕ) (s : VrState) (out in_ told : List Message) (size : p'.controllers ≡ p.controllers) (view : p'.view ≡ p.view) (log : p'.log ≡ p.log ++ more) (commit : p.commit ≤ p'.commit)
      (acked : slice_index p'.acked b ≡ slice_index p.acked b) (tells : ArePrepares p.view p'.commit (length p.log) more told) where
    goes_on : (n : ℕ) (ms : List Message) → n ≤ length p.log → ArePrepares p.view p.commit n (drop n p.log) ms → ArePrepares p'.view p'.commit n (drop n p'.log) (ms ++ told)
    goes_on n ms le h =
        let long : length p.log ≡ n + length (drop n p.log) = (let left = length-drop n p.log in omega (arith, left, le)) in
        let all = prepares_joined p.view p'.commit n (drop n p.log) more ms told (prepares_rise p.view p.commit p'.commit n (drop n p.log) ms commit h)
        (subst (λ (k : ℕ). ArePrepares p.view p'.commit k more told) long tells) in
        subst (λ (v : ℕ). ArePrepares v p'.commit n (drop n p'.log) (ms ++ told)) (sym view)
        (subst (λ (l : List Entry). ArePrepares p.view p'.commit n l (ms ++ told)) (sym (ap (drop n) log ∙ drop-append-le n p.log more le)) all)

    pub keeps_up_longer : KeepsUp start p b s out in_ → KeepsUp start p' b s (out ++ told) in_
    keeps_up_longer (inl h) = inl record {
      had = h.had;
      voters = h.voters;
      is_member = subst (λ (n : ℕ). IsReadyMember n p'.view b h.had) (sym size) (subst (λ (v : ℕ). IsReadyMember p.controllers v b h.had) (sym view) h.is_member);
      state_is = h.state_is ∙ ap (λ (v : ℕ). in_view h.had v h.voters true [] None) (sym view);
      base = h.base;
      commit = h.commit;
      one = h.one;
      prepares = h.prepares ++ told;
      word = ap (λ (l : List Message). l ++ told) h.word ∙ ap (λ (v : ℕ). message.Vr (vr.StartView v start.base start.known (drop start.base start.log)) ∷ (h.prepares ++ told)) (sym view);
      entries = goes_on (length start.log) h.prepares started_within h.entries;
      silent = h.silent;
      acked = acked ∙ h.acked;
    }
    keeps_up_longer (inr h) = inr record {
      me = h.me;
      size = h.size ∙ sym size;
      normal = h.normal;
      view = h.view ∙ sym view;
      promise = subst (λ (v : ℕ). s.promise ≤ v) (sym view) h.promise;
      log = h.log ∙ sym (ap (take (length s.log)) log ∙ take-append-le (length s.log) p.log more h.most);
      least = h.least;
      most = (let long = ap length log ∙ length-append p.log more in let m = h.most in omega (arith, long, m));
      commit = (let c = h.commit in omega (arith, c, commit));
      entries = goes_on (length s.log) out h.most h.entries;
      acked = (let a = h.acked in omega (arith, a, acked));
      acks = subst (λ (v : ℕ). AreAcknowledged v start.known (slice_index p'.acked b) (length s.log) in_) (sym view)
          (subst (λ (a : ℕ). AreAcknowledged p.view start.known a (length s.log) in_) (sym acked) h.acks);
    }

-- the letters of a member, as messages to one of them
told_one : (to : ℕ) (m : VrMessage) → told_to controller_message (actor.Controller to) (to_members (letter m to ∷ [])) ≡ message.Vr m ∷ []
told_one to m = ap (λ (b : Bool). if b then message.Vr m ∷ [] else []) (eq-eqb to to refl)

-- the turn of a member that hears from the primary: it saves nothing, and answers the primary alone
pub record Hears (start : Start) (p : VrState) (b : ℕ) (s : VrState) (m : VrMessage) (out in_ : List Message) : Type 0 where
  pub unsaved : (vr_step s (vr_input.From p.me m)).promise ≡ None
  pub answers : List VrLetter
  pub letters : (vr_step s (vr_input.From p.me m)).letters ≡ answers
  pub only : answers ≡ [] ⊎ ((said : VrMessage) × (answers ≡ letter said p.me ∷ []))
  pub follows : IsFollowing start p b (vr_step s (vr_input.From p.me m)).state out (in_ ++ told_to controller_message (actor.Controller p.me) (to_members answers))

-- what a member says as it takes the log of a view
module _ (start : Start) (p : VrState) (lead : LeadsFrom start p) (leader : p.me ≡ p.view % p.controllers) (small : p.me < p.controllers) (b : ℕ) (apart : b ≡ p.me → ⊥) where
  module _ (s : VrState) (m : VrMessage) (out in_ : List Message) (h : WaitsFor start p b s (message.Vr m ∷ out) in_) where
    abbrev had : VrState
    had = h.had

    told_word : m ≡ vr.StartView p.view start.base start.known (drop start.base start.log)
    told_word = let e = h.word in cc

    told_rest : out ≡ h.prepares
    told_rest = let e = h.word in cc

    abbrev now : VrState
    now = in_started (in_view had p.view h.voters true [] None) p.view start.log start.known

    abbrev answer : List VrLetter
    answer = if nat_lt start.known (length start.log) then letter (vr.PrepareOk p.view (length start.log)) p.me ∷ [] else []

    from_leader : p.view % had.controllers ≡ p.me
    from_leader = let size = h.is_member.size in ap (λ (n : ℕ). p.view % n) size ∙ sym leader

    turn : vr_step s (vr_input.From p.me m) ≡ record { state = now; promise = None; letters = answer }
    turn =
        let size = h.is_member.size in
        let me = h.is_member.me in
        ap (λ (x : VrState). vr_step x (vr_input.From p.me m)) h.state_is
        ∙ ap (λ (x : VrMessage). vr_step (in_view had p.view h.voters true [] None) (vr_input.From p.me x)) told_word
        ∙ ap (λ (k : ℕ). vr_step (in_view had p.view h.voters true [] None) (vr_input.From k (vr.StartView p.view start.base start.known (drop start.base start.log)))) (sym from_leader)
        ∙ log_adopted had p.view h.voters true [] None start.log start.base start.known (omega (arith, from_leader, small, size)) (λ e. apart (sym me ∙ sym e ∙ from_leader)) h.base h.commit lead.within lead.started h.one
        ∙ ap (λ (k : ℕ). record { state = now; promise = None; letters = if nat_lt start.known (length start.log) then letter (vr.PrepareOk p.view (length start.log)) k ∷ [] else [] }) from_leader

    acks_as : (c : Bool) → nat_lt start.known (length start.log) ≡ c →
        AreAcknowledged p.view start.known (slice_index p.acked b) (length start.log) (told_to controller_message (actor.Controller p.me) (to_members (if c then letter (vr.PrepareOk p.view (length start.log)) p.me ∷ [] else [])))
    acks_as true e =
        let none = h.acked in
        let some = ltb-true start.known (length start.log) e in
        subst (λ (ms : List Message). AreAcknowledged p.view start.known (slice_index p.acked b) (length start.log) ms) (sym (told_one p.me (vr.PrepareOk p.view (length start.log))))
        (length start.log, refl, omega (arith, none, some), omega arith, inl refl)
    acks_as false e =
        let some = ltb-false start.known (length start.log) e in
        let within = lead.within in
        inr (omega (arith, some, within))

    only_as : (c : Bool) → let answers : List VrLetter = if c then letter (vr.PrepareOk p.view (length start.log)) p.me ∷ [] else [] in (answers ≡ []) ⊎ ((said : VrMessage) × (answers ≡ letter said p.me ∷ []))
    only_as true = inr (vr.PrepareOk p.view (length start.log), refl)
    only_as false = inl refl

    pub hears_start : Hears start p b s m out in_
    hears_start = record {
      unsaved = ap (λ (x : VrStep). x.promise) turn;
      answers = answer;
      letters = ap (λ (x : VrStep). x.letters) turn;
      only = only_as (nat_lt start.known (length start.log));
      follows = subst (λ (x : VrState). IsFollowing start p b x out (in_ ++ told_to controller_message (actor.Controller p.me) (to_members answer))) (sym (ap (λ (x : VrStep). x.state) turn)) record {
        me = h.is_member.me;
        size = h.is_member.size;
        normal = refl;
        view = refl;
        promise = omega arith;
        log = sym lead.begins;
        least = omega arith;
        most = started_within start p lead;
        commit = lead.known;
        entries = subst (λ (ms : List Message). ArePrepares p.view p.commit (length start.log) (drop (length start.log) p.log) ms) (sym told_rest) h.entries;
        acked = (let none = h.acked in omega (arith, none));
        acks = subst (λ (ms : List Message). AreAcknowledged p.view start.known (slice_index p.acked b) (length start.log) (ms ++ told_to controller_message (actor.Controller p.me) (to_members answer))) (sym h.silent)
            (acks_as (nat_lt start.known (length start.log)) refl);
      };
    }

  -- the next entry
  module _ (s : VrState) (m : VrMessage) (out in_ : List Message) (h : IsFollowing start p b s (message.Vr m ∷ out) in_) where
    pub record NextEntry : Type 0 where
      pub entry : Entry
      pub rest : List Entry
      pub commit : ℕ
      pub behind : drop (length s.log) p.log ≡ entry ∷ rest
      pub low : commit ≤ p.commit
      pub is : m ≡ vr.Prepare p.view (length s.log + 1) commit entry
      pub others : ArePrepares p.view p.commit (length s.log + 1) rest out

    next_entry : NextEntry
    next_entry = by_rest (drop (length s.log) p.log) refl h.entries
      where
        by_rest : (es : List Entry) → drop (length s.log) p.log ≡ es → ArePrepares p.view p.commit (length s.log) es (message.Vr m ∷ out) → NextEntry
        by_rest [] is all = absurd all
        by_rest (e ∷ es) is all = record { entry = e; rest = es; commit = all.0.0; behind = is; low = all.0.1; is = (let same = all.0.2 in cc); others = all.1 }

    abbrev n : NextEntry
    n = next_entry

    cut : (take (length s.log + 1) p.log ≡ take (length s.log) p.log ++ n.entry ∷ []) × (drop (length s.log + 1) p.log ≡ n.rest) × (length s.log < length p.log)
    cut = drop_one (length s.log) p.log n.entry n.rest n.behind

    whole : s.log ++ n.entry ∷ n.rest ≡ p.log
    whole = ap (λ (l : List Entry). l ++ n.entry ∷ n.rest) h.log ∙ ap (λ (l : List Entry). take (length s.log) p.log ++ l) (sym n.behind) ∙ take-append-drop (length s.log) p.log

    joins : fits s.log n.entry ≡ true
    joins = fits_at [] s.log n.entry n.rest (ap is_log whole ∙ lead.one)

    longer : s.log ++ n.entry ∷ [] ≡ take (length s.log + 1) p.log
    longer = ap (λ (l : List Entry). l ++ n.entry ∷ []) h.log ∙ sym cut.0

    one_more : length (s.log ++ n.entry ∷ []) ≡ length s.log + 1
    one_more = length-append s.log (n.entry ∷ [])

    abbrev grown : VrState
    grown = appended s n.entry

    prepared : on_vr s p.me (vr.Prepare p.view (length s.log + 1) n.commit n.entry) ≡ acknowledges grown n.commit
    prepared =
        prepare_next s p.me p.view n.commit n.entry
        (lt-ltb p.me s.controllers (let size = h.size in omega (arith, size, small)))
        (ne_eqb p.me s.me (λ e. apart (sym h.me ∙ sym e)))
        (eq-eqb p.me (p.view % s.controllers) (leader ∙ ap (λ (k : ℕ). p.view % k) (sym h.size)))
        (ap (λ (x : Status). elim x [ Normal ↦ true | ViewChange ↦ false | Recovering ↦ false | Down ↦ false ]) h.normal)
        (eq-eqb p.view s.view (sym h.view)) joins

    prepares_turn : vr_step s (vr_input.From p.me m) ≡ acknowledges grown n.commit
    prepares_turn = ap (λ (x : VrMessage). vr_step s (vr_input.From p.me x)) n.is ∙ prepared

    at_leader : s.view % s.controllers ≡ p.me
    at_leader = ap (λ (k : ℕ). k % s.controllers) h.view ∙ ap (λ (k : ℕ). p.view % k) h.size ∙ sym leader

    abbrev ok : VrLetter
    ok = letter (vr.PrepareOk p.view (length s.log + 1)) p.me

    letters_are : (acknowledges grown n.commit).letters ≡ ok ∷ []
    letters_are =
        ap (λ (k : ℕ). letter (vr.PrepareOk s.view (length (s.log ++ n.entry ∷ []))) k ∷ []) at_leader
        ∙ ap (λ (k : ℕ). letter (vr.PrepareOk k (length (s.log ++ n.entry ∷ []))) p.me ∷ []) h.view
        ∙ ap (λ (k : ℕ). letter (vr.PrepareOk p.view k) p.me ∷ []) one_more

    pub hears_entry : Hears start p b s m out in_
    hears_entry = record {
      unsaved = ap (λ (x : VrStep). x.promise) prepares_turn;
      answers = ok ∷ [];
      letters = ap (λ (x : VrStep). x.letters) prepares_turn ∙ letters_are;
      only = inr (vr.PrepareOk p.view (length s.log + 1), refl);
      follows = subst (λ (x : VrState). IsFollowing start p b x out (in_ ++ told_to controller_message (actor.Controller p.me) (to_members (ok ∷ [])))) (sym (ap (λ (x : VrStep). x.state) prepares_turn)) record {
        me = h.me;
        size = h.size;
        normal = h.normal;
        view = h.view;
        promise = h.promise;
        log = longer ∙ sym (ap (λ (k : ℕ). take k p.log) one_more);
        least = (let least = h.least in omega (arith, least, one_more));
        most = (let less = cut.2 in omega (arith, less, one_more));
        commit = (let c = h.commit in let low = n.low in omega (arith, c, low));
        entries = subst (λ (k : ℕ). ArePrepares p.view p.commit k (drop k p.log) out) (sym one_more) (subst (λ (l : List Entry). ArePrepares p.view p.commit (length s.log + 1) l out) (sym cut.1) n.others);
        acked = (let a = h.acked in omega (arith, a, one_more));
        acks = subst (λ (k : ℕ). AreAcknowledged p.view start.known (slice_index p.acked b) k (in_ ++ told_to controller_message (actor.Controller p.me) (to_members (ok ∷ [])))) (sym one_more)
            (subst (λ (ms : List Message). AreAcknowledged p.view start.known (slice_index p.acked b) (length s.log + 1) (in_ ++ ms)) (sym (told_one p.me (vr.PrepareOk p.view (length s.log + 1))))
            (acked_more p.view start.known (slice_index p.acked b) (length s.log) in_ h.acked h.acks));
      };
    }

  -- whatever it hears
  pub hears : (s : VrState) (m : VrMessage) (out in_ : List Message) → KeepsUp start p b s (message.Vr m ∷ out) in_ → Hears start p b s m out in_
  hears s m out in_ (inl h) = hears_start s m out in_ h
  hears s m out in_ (inr h) = hears_entry s m out in_ h

  -- what it answers acknowledges no less than the log with which the view has started
  pub answers_late : (s : VrState) (m : VrMessage) (out in_ : List Message) → KeepsUp start p b s (message.Vr m ∷ out) in_ →
      ((vr_step s (vr_input.From p.me m)).letters ≡ []) ⊎ ((op : ℕ) × ((vr_step s (vr_input.From p.me m)).letters ≡ letter (vr.PrepareOk p.view op) p.me ∷ []) × (length start.log ≤ op))
  answers_late s m out in_ (inl h) = by_news (nat_lt start.known (length start.log)) (ap (λ (x : VrStep). x.letters) (turn s m out in_ h))
    where
      by_news : (c : Bool) → (vr_step s (vr_input.From p.me m)).letters ≡ (if c then letter (vr.PrepareOk p.view (length start.log)) p.me ∷ [] else []) →
          ((vr_step s (vr_input.From p.me m)).letters ≡ []) ⊎ ((op : ℕ) × ((vr_step s (vr_input.From p.me m)).letters ≡ letter (vr.PrepareOk p.view op) p.me ∷ []) × (length start.log ≤ op))
      by_news true is = inr (length start.log, is, omega arith)
      by_news false is = inl is
  answers_late s m out in_ (inr h) =
      inr (length s.log + 1, ap (λ (x : VrStep). x.letters) (prepares_turn s m out in_ h) ∙ letters_are s m out in_ h, (let least = h.least in omega (arith, least)))

  -- where nothing is on its way, it has all of the log, and has acknowledged it, or all was known as the view started
  pub rests : (s : VrState) → KeepsUp start p b s [] [] → (s.log ≡ p.log) × ((slice_index p.acked b ≡ length p.log) ⊎ (length p.log ≡ start.known))
  rests s (inl h) = absurd (let e = h.word in cc)
  rests s (inr h) =
      let all : length p.log ≤ length s.log = drop_none (length s.log) p.log (none (drop (length s.log) p.log) h.entries) in
      let most = h.most in
      let same : length s.log ≡ length p.log = omega (arith, all, most) in
      (h.log ∙ ap (λ (k : ℕ). take k p.log) same ∙ take_all (length p.log) p.log (omega arith), by_acks h.acks same)
    where
      none : (es : List Entry) → ArePrepares p.view p.commit (length s.log) es [] → es ≡ []
      none [] all = refl
      none (e ∷ es) all = absurd all

      by_acks : (slice_index p.acked b ≡ length s.log) ⊎ (length s.log ≡ start.known) → length s.log ≡ length p.log → (slice_index p.acked b ≡ length p.log) ⊎ (length p.log ≡ start.known)
      by_acks (inl e) same = inl (e ∙ same)
      by_acks (inr e) same = inr (sym same ∙ e)

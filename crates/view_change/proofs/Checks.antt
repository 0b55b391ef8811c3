-- Check: what is kept of it, and what is taken back.
use Rattle.std.proofs.Common.{Result, OnOk, inl, inr, ◌≡◌, ◌≤◌, ◌<◌, ℕ, Bool, true, false, ◌&&◌, Option, None, List, [], ◌∷◌, ◌++◌, length, take, refl, ap, sym, subst, ◌∙◌, arith, append-nil}
use Rattle.std.specs.Prelude.{IfSome, not, nat_le, if◌then◌else◌}
use Rattle.std.proofs.lemmas.Bool.{cases_Bool}
use Rattle.std.proofs.lemmas.Bool.Decides.{nat_tests}
use Rattle.std.proofs.Math.Seq.{take-append_seam, take-length}
use Rattle.vr_log.specs.declared.entry.Entry.{Entry}
use Rattle.vr_log.specs.declared.message.VrLetter.{VrLetter}
use Rattle.vr_log.specs.declared.state.Collected.{Collected}
use Rattle.vr_log.specs.declared.state.VrOut.{VrOut}
use Rattle.vr_log.specs.declared.state.VrState.{VrState}
use Rattle.vr_log.specs.Log.{IsLog}
use Rattle.vr_log.specs.Members.{is_changing, is_other, is_primary, is_primary_of, most_failures}
use Rattle.vr_log.specs.Choosing.{has_collected, may_choose, best_of, front, reaches, fetch_letter}
use Rattle.vr_log.specs.Steps.{VrStep, Did, quiet, sends, later_of, then_step, is_sound, guarded}
use Rattle.vr_log.specs.declared.message.VrMessage.{VrMessage}
use Rattle.vr_log.specs.declared.message.VrMessage.TheVariants as message
use Rattle.vr_log.specs.Valid.{IsValidState}
use Rattle.vr_log.proofs.Steps.{did_then, sound_here}
use Rattle.view_change.specs.Cases.{do_view_change, collect}
use Rattle.view_change.specs.Entering.{enter, entered_view, collects, own_log, sends_log, votes, chooses, check}

-- a choice, state by state and step by step
choice : {A : Type 0} (P : A → Type 0) (b : Bool) (x y : A) → P x → P y → P (if b then x else y)
choice P true x y p q = p
choice P false x y p q = q

-- what the vote leaves alone
pub record Stays (s t : VrState) : Type 0 where
  pub log : t.log ≡ s.log
  pub commit : t.commit ≡ s.commit
  pub primary : is_primary t ≡ is_primary s

same : (s : VrState) → Stays s s
same s = record { log = refl; commit = refl; primary = refl }

pub votes_stays : (s : VrState) → Stays s (votes s).state
votes_stays s =
    choice (λ (step : VrStep). Stays s step.state) (nat_le (most_failures s) (length s.votes) && not s.sent) (sends_log s) (quiet s)
    (choice (λ (step : VrStep). Stays s step.state) (is_primary s) _ _ (collected (has_collected s s.me)) (record { log = refl; commit = refl; primary = refl }))
    (same s)
  where
    collected : (b : Bool) → Stays s (record (if b then s else record s { collected = s.collected ++ own_log s ∷ [] }) { sent = true })
    collected true = record { log = refl; commit = refl; primary = refl }
    collected false = record { log = refl; commit = refl; primary = refl }

-- a primary sends its log to nobody
votes_quiet : (s : VrState) → is_primary s ≡ true → ((votes s).promise ≡ None) × ((votes s).letters ≡ [])
votes_quiet s own =
    choice (λ (step : VrStep). (step.promise ≡ None) × (step.letters ≡ [])) (nat_le (most_failures s) (length s.votes) && not s.sent) (sends_log s) (quiet s) (rw own (refl, refl)) (refl, refl)

-- where the vote is taken back the state is as it was
undone : (s u : VrState) (collected : List Collected) (n : ℕ) → u ≡ (votes s).state → collected ≡ take n u.collected → n ≡ length s.collected → is_primary s ≡ true → record u { sent = s.sent; collected = collected } ≡ s
undone s u collected n is c len own =
    rw (c, len, is) (choice (λ (step : VrStep). record step.state { sent = s.sent; collected = take (length s.collected) step.state.collected } ≡ s)
    (nat_le (most_failures s) (length s.votes) && not s.sent) (sends_log s) (quiet s)
    (rw own (kept (has_collected s s.me)))
    (rw (take-length s.collected) refl))
  where
    kept : (b : Bool) → record (if b then s else record s { collected = s.collected ++ own_log s ∷ [] }) { sent = s.sent; collected = take (length s.collected) (if b then s else record s { collected = s.collected ++ own_log s ∷ [] }).collected } ≡ s
    kept true = rw (take-length s.collected) refl
    kept false = rw (take-append_seam s.collected (own_log s ∷ [])) refl

-- soundness looks at the log and the commit number alone
sound_of : (s t new : VrState) → Stays s t → is_sound t new ≡ is_sound s new
sound_of s t new k = rw (k.log, k.commit) refl

module _ (s : VrState) (one : IsLog s.log) (le : s.commit ≤ length s.log) where
  pub none_kept : may_choose s ≡ false → true ≡ is_sound s (chooses s).state
  none_kept off = rw off (sym (sound_here s s one le refl refl))

  fetch_is : (c best : Collected) (rest : List Collected) → may_choose s ≡ true → s.collected ≡ c ∷ rest → best ≡ best_of c rest → length (front s) < best.commit → chooses s ≡ sends s (fetch_letter s best ∷ [])
  fetch_is c best rest on all is less =
      let short : reaches s (best_of c rest) ≡ false = subst (λ (b : Collected). reaches s b ≡ false) is (above best.commit (length (front s)) less) in
      rw (on, all, short, is) refl
    where
      above : (a b : ℕ) → b < a → nat_le a b ≡ false
      above a b lt = grind (arith, nat_tests)

  pub fetch_kept : (c best : Collected) (rest : List Collected) → may_choose s ≡ true → s.collected ≡ c ∷ rest → best ≡ best_of c rest → length (front s) < best.commit → true ≡ is_sound s (chooses s).state
  fetch_kept c best rest on all is less = rw (fetch_is c best rest on all is less) (sym (sound_here s s one le refl refl))

  pub fetch_did : (c best : Collected) (rest : List Collected) (old new : VrOut) → may_choose s ≡ true → s.collected ≡ c ∷ rest → best ≡ best_of c rest → length (front s) < best.commit →
      new.promise ≡ old.promise → new.letters ≡ old.letters ++ fetch_letter s best ∷ [] → Did (guarded s (chooses s)) s old new
  fetch_did c best rest old new on all is less promise letters =
      rw (fetch_is c best rest on all is less, sound_here s s one le refl refl) (record { state_is = refl; promise_is = promise; letters_are = letters })

module _ (s t u : VrState) (old mid new : VrOut) (kept : Bool) (one : IsLog s.log) (le : s.commit ≤ length s.log)
    (voted : Did (votes s) t old mid) (is : kept ≡ is_sound t (chooses t).state) (chosen : Did (guarded t (chooses t)) u mid new) where
  stays : Stays s t
  stays = subst (λ (x : VrState). Stays s x) (sym voted.state_is) (votes_stays s)

  pub kept_is : kept ≡ is_sound s (check s).state
  kept_is = is ∙ sound_of s t (chooses t).state stays ∙ ap (λ (x : VrState). is_sound s (chooses x).state) voted.state_is

  pub kept_did : kept ≡ true → Did (guarded s (check s)) u old new
  kept_did k =
      let open_ : is_sound t (chooses t).state ≡ true = sym is ∙ k in
      let did : Did (chooses t) u mid new = subst (λ (b : Bool). Did (if b then chooses t else quiet t) u mid new) open_ chosen in
      let sound : is_sound s (check s).state ≡ true = sym kept_is ∙ k in
      subst (λ (b : Bool). Did (if b then check s else quiet s) u old new) (sym sound) (did_then (votes s) chooses t u old mid new voted did)

  -- only a primary is dropped
  own : kept ≡ false → is_primary s ≡ true
  own k = elim (cases_Bool (is_primary s)) [
    | inl mine ↦ mine
    | inr theirs ↦
        let other : is_primary t ≡ false = stays.primary ∙ theirs in
        let one_t : IsLog t.log = rw stays.log one in
        let le_t : t.commit ≤ length t.log = rw (stays.log, stays.commit) le in
        let sound = none_kept t one_t le_t (rw (other, no_end (is_changing t)) refl) in
        absurd (let z : true ≡ false = sound ∙ (sym is ∙ k) in cc)
  ]
    where
      no_end : (b : Bool) → (b && false) ≡ false
      no_end true = refl
      no_end false = refl

  pub dropped_did : (collected : List Collected) (n : ℕ) → kept ≡ false → collected ≡ take n u.collected → n ≡ length s.collected → Did (guarded s (check s)) (record u { sent = s.sent; collected = collected }) old new
  dropped_did collected n k c len =
      let shut : is_sound t (chooses t).state ≡ false = sym is ∙ k in
      let did : Did (quiet t) u mid new = subst (λ (b : Bool). Did (if b then chooses t else quiet t) u mid new) shut chosen in
      let sound : is_sound s (check s).state ≡ false = sym kept_is ∙ k in
      let none = votes_quiet s (own k) in
      let back = undone s u collected n (did.state_is ∙ voted.state_is) c len (own k) in
      let promise : new.promise ≡ old.promise = did.promise_is ∙ (voted.promise_is ∙ ap (λ (p : Option ℕ). later_of old.promise p) none.0) in
      let letters : new.letters ≡ old.letters ++ [] = did.letters_are ∙ (append-nil mid.letters ∙ (voted.letters_are ∙ ap (λ (l : List VrLetter). old.letters ++ l) none.1)) in
      subst (λ (b : Bool). Did (if b then check s else quiet s) (record u { sent = s.sent; collected = collected }) old new) (sym sound)
      (record { state_is = back; promise_is = promise; letters_are = letters })

sound_as : (a b new : VrState) → a.log ≡ b.log → a.commit ≡ b.commit → is_sound a new ≡ is_sound b new
sound_as a b new log commit = rw (log, commit) refl

-- a view is entered, and Check is done: nothing of that is dropped
pub entered_did : (s t t1 u : VrState) (view : ℕ) (next : VrState → VrState) (old mid new : VrOut) → Did (enter s view) t old mid → t1 ≡ next t → Did (guarded t1 (check t1)) u mid new →
    (next (entered_view s view)).log ≡ s.log → (next (entered_view s view)).commit ≡ s.commit → is_sound s (check (next (entered_view s view))).state ≡ true →
    Did (guarded s (then_step (enter s view) (λ x. check (next x)))) u old new
entered_did s t t1 u view next old mid new a is b log commit sound =
    let same : t1 ≡ next (entered_view s view) = is ∙ ap next a.state_is in
    let c : Did (guarded (next (entered_view s view)) (check (next (entered_view s view)))) u mid new = subst (λ (x : VrState). Did (guarded x (check x)) u mid new) same b in
    let here : is_sound (next (entered_view s view)) (check (next (entered_view s view))).state ≡ true = sound_as (next (entered_view s view)) s (check (next (entered_view s view))).state log commit ∙ sound in
    let d : Did (check (next (entered_view s view))) u mid new = subst (λ (o : Bool). Did (if o then check (next (entered_view s view)) else quiet (next (entered_view s view))) u mid new) here c in
    let e : Did (check (next t)) u mid new = subst (λ (x : VrState). Did (check (next x)) u mid new) (sym a.state_is) d in
    subst (λ (o : Bool). Did (if o then then_step (enter s view) (λ x. check (next x)) else quiet s) u old new) (sym sound) (did_then (enter s view) (λ x. check (next x)) t u old mid new a e)

-- a state with one part more, which is taken back where Check is dropped
module _ (s t t' u : VrState) (old new : VrOut) (kept : Bool) (same : t ≡ t') (log : t'.log ≡ s.log) (commit : t'.commit ≡ s.commit) (is : kept ≡ is_sound t (check t).state) (did : Did (guarded t (check t)) u old new) where
  is_there : kept ≡ is_sound t' (check t').state
  is_there = is ∙ ap (λ (x : VrState). is_sound x (check x).state) same

  did_there : Did (guarded t' (check t')) u old new
  did_there = subst (λ (x : VrState). Did (guarded x (check x)) u old new) same did

  sound_s : kept ≡ is_sound s (check t').state
  sound_s = is_there ∙ sound_as t' s (check t').state log commit

  pub more_kept : kept ≡ true → Did (guarded s (check t')) u old new
  more_kept k =
      let d : Did (check t') u old new = subst (λ (o : Bool). Did (if o then check t' else quiet t') u old new) (sym is_there ∙ k) did_there in
      subst (λ (o : Bool). Did (if o then check t' else quiet s) u old new) (sym (sym sound_s ∙ k)) d

  pub more_dropped : (w : VrState) → kept ≡ false → (u ≡ t' → w ≡ s) → Did (guarded s (check t')) w old new
  more_dropped w k back =
      let d : Did (quiet t') u old new = subst (λ (o : Bool). Did (if o then check t' else quiet t') u old new) (sym is_there ∙ k) did_there in
      subst (λ (o : Bool). Did (if o then check t' else quiet s) w old new) (sym (sym sound_s ∙ k)) (record { state_is = back d.state_is; promise_is = d.promise_is; letters_are = d.letters_are })

-- what is taken back of collected logs
pub collects_log : (s : VrState) (c : Collected) → (collects s c).log ≡ s.log
collects_log s c = choice (λ (t : VrState). t.log ≡ s.log) (has_collected s c.from) _ _ refl refl

pub collects_commit : (s : VrState) (c : Collected) → (collects s c).commit ≡ s.commit
collects_commit s c = choice (λ (t : VrState). t.commit ≡ s.commit) (has_collected s c.from) _ _ refl refl

pub collects_back : (s u : VrState) (c : Collected) (collected : List Collected) (n : ℕ) → collected ≡ take n u.collected → n ≡ length s.collected → u ≡ collects s c → record u { collected = collected } ≡ s
collects_back s u c collected n is len e =
    rw (is, len, e) (choice (λ (t : VrState). record t { collected = take (length s.collected) t.collected } ≡ s) (has_collected s c.from) _ _
    (rw (take-length s.collected) refl) (rw (take-append_seam s.collected (c ∷ [])) refl))

-- what Check asks of a state
pub record Ready (s : VrState) : Type 0 where
  pub log : IsLog s.log
  pub group : 0 < s.controllers
  pub commit : s.commit ≤ length s.log
  pub supply : IfSome s.supply (λ supplied. supplied.first ≤ s.commit)

pub collects_ready : (s t : VrState) (view : ℕ) (c : Collected) → IsValidState s → t ≡ collects (entered_view s view) c → Ready t
collects_ready s t view c v is =
    let some : 0 < s.controllers = let m = v.member in omega arith in
    rw is (choice Ready (has_collected (entered_view s view) c.from) (entered_view s view) (record (entered_view s view) { collected = [] ++ c ∷ [] })
    (record { log = v.log; group = some; commit = v.commit; supply = tt }) (record { log = v.log; group = some; commit = v.commit; supply = tt }))

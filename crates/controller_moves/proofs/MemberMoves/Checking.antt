-- What a member does while a view changes: it votes, and starts the view where it can, behind any walk.
use Rattle.std.proofs.Common.{◌≡◌, ℕ, zero, suc, ◌+◌, ◌<◌, ◌≤◌, max, ◌⊎◌, inl, inr, Bool, true, false, cond, not, nat_eq, nat_lt, nat_le, ◌&&◌, eqb, Option, Some, None, List, [], ◌∷◌, ◌++◌, length, take, drop, map, replicate, slice_index, refl, sym, ap, ◌∙◌, subst, arith, append-nil, append_assoc}
use Rattle.std.specs.List.{list_any}
use Rattle.std.proofs.lemmas.Bool.{cases_lt, and_parts, or_parts, cond_both, cond-false, eqb-true, eqb-false, leb-true, ltb-true, ltb-false, ne_eqb}
use Rattle.std.proofs.lemmas.List.{map-append, length-map}
use Rattle.agreement.specs.History.{Group, size, primary_in, State, Message, Letter, History, Vote, abstract_letter}
use Rattle.agreement.specs.Invariant.{IsGoodMessage, IsGoodLetter, Invariant, IsGroup}
use Rattle.agreement.specs.Lists.{IsAtMost}
use Rattle.list_facts.proofs.Elements.{in_append, in_left, in_right}
use Rattle.list_facts.specs.Lists.{IsIn}
use Rattle.agreement.specs.Moves.{Moved, Resembles, collecting}
use Rattle.agreement.specs.Quorums.{is_prepare_ok}
use Rattle.agreement.proofs.Cases.{end_start, end_changing}
use Rattle.agreement.proofs.Conditions.{own_good_vote}
use Rattle.agreement.proofs.Numbers.{below_trans}
use Rattle.agreement.proofs.Starting.{walk_says, walk_own_vote}
use Rattle.agreement.proofs.Walks.{Walk, walk_good, walk_same, resembles_self}
use Rattle.agreement.specs.History as core
use Rattle.agreement.specs.Moves as move
use Rattle.agreement.specs.Effects as effect
use Rattle.vr_log.specs.declared.entry.Entry.{Entry}
use Rattle.vr_log.specs.declared.message.VrLetter.{VrLetter}
use Rattle.vr_log.specs.declared.message.VrMessage.{VrMessage}
use Rattle.vr_log.specs.declared.message.VrMessage.TheVariants as message
use Rattle.vr_log.specs.declared.state.Collected.{Collected}
use Rattle.vr_log.specs.declared.state.Supplied.{Supplied}
use Rattle.vr_log.specs.declared.state.VrState.{VrState}
use Rattle.vr_log.specs.Members as member
use Rattle.vr_log.specs.Choosing as choosing
use Rattle.vr_log.specs.Steps as steps
use Rattle.vr_log.specs.Steps.{VrStep}
use Rattle.view_change.specs.Entering as entering
use Rattle.controller_moves.specs.MemberMoves.Projection.{vote_of, supply_of, message_of, letters_of, member_state_of}
use Rattle.controller_moves.specs.MemberMoves.Laws.{IsMemberTurn}
use Rattle.controller_moves.proofs.MemberMoves.Members.{same_primary, same_half, normal_like}

pub letters_append : (c : ℕ) (xs ys : List VrLetter) → letters_of c (xs ++ ys) ≡ letters_of c xs ++ letters_of c ys
letters_append c xs ys = map-append (λ (x : VrLetter). (abstract_letter c x.to (message_of x.message))) xs ys

-- letters to each
pub each_same : (c : ℕ) (x : VrMessage) (to : List ℕ) → letters_of c (map (steps.letter x) to) ≡ map (λ j. (abstract_letter c j (message_of x))) to
each_same c x [] = refl
each_same c x (j ∷ js) = ap (λ (ls : List (Letter Entry)). (abstract_letter c j (message_of x)) ∷ ls) (each_same c x js)

pub zeros : (n j : ℕ) → slice_index (replicate n 0) j ≡ 0
zeros zero j = refl
zeros (suc n) zero = refl
zeros (suc n) (suc j) = zeros n j

front_is : (s : VrState) (q : Option Supplied) → effect.history_front_with (member_state_of s) (supply_of q) ≡ choosing.front_with s q
front_is s None = refl
front_is s (Some x) = refl

member_map : (c : Collected) (cs : List Collected) → IsIn c cs → IsIn (vote_of c) (map vote_of cs)
member_map c [] i = i
member_map c (d ∷ cs) i = elim i [ inl z ↦ inl (ap (λ (x : Collected). vote_of x) z) | inr j ↦ inr (member_map c cs j) ]

map_member : (y : Vote Entry) (cs : List Collected) → IsIn y (map vote_of cs) → (c : Collected) × IsIn c cs × (y ≡ vote_of c)
map_member y [] i = absurd i
map_member y (d ∷ cs) i = elim i [ inl z ↦ (d, inl refl, z) | inr j ↦ let x = map_member y cs j in (x.0, inr x.1, x.2) ]

pub has_not : (j : ℕ) (cs : List Collected) → list_any (λ c. nat_eq c.from j) cs ≡ false → ¬ IsIn j (map (λ x. x.from) (map vote_of cs))
has_not j [] z i = i
has_not j (c ∷ cs) z i = let x = or_parts (nat_eq c.from j) (list_any (λ c. nat_eq c.from j) cs) z in elim i [
  | inl q ↦ eqb-false c.from j x.0 (sym q)
  | inr q ↦ has_not j cs x.1 q
]

abbrev Worse : Collected → Collected → Type 0
Worse y x = IsAtMost y.normal (choosing.length_of y) x.normal (choosing.length_of x)

better_of : (a b : Collected) → choosing.is_better a b ≡ true → Worse b a
better_of a b = cond_both (nat_eq a.normal b.normal) (cond (nat_eq (choosing.length_of a) (choosing.length_of b)) (nat_lt a.from b.from) (nat_lt (choosing.length_of b) (choosing.length_of a))) (nat_lt b.normal a.normal) (λ (t : Bool). t ≡ true → Worse b a)
    (λ same. let q = eqb-true a.normal b.normal same in
    cond_both (nat_eq (choosing.length_of a) (choosing.length_of b)) (nat_lt a.from b.from) (nat_lt (choosing.length_of b) (choosing.length_of a)) (λ (t : Bool). t ≡ true → Worse b a)
    (λ equal z. let l = eqb-true (choosing.length_of a) (choosing.length_of b) equal in inr (sym q, omega arith))
    (λ apart z. let l = ltb-true (choosing.length_of b) (choosing.length_of a) z in inr (sym q, omega arith)))
    (λ other z. inl (ltb-true b.normal a.normal z))

not_better : (a b : Collected) → choosing.is_better a b ≡ false → Worse a b
not_better a b = cond_both (nat_eq a.normal b.normal) (cond (nat_eq (choosing.length_of a) (choosing.length_of b)) (nat_lt a.from b.from) (nat_lt (choosing.length_of b) (choosing.length_of a))) (nat_lt b.normal a.normal) (λ (t : Bool). t ≡ false → Worse a b)
    (λ same. let q = eqb-true a.normal b.normal same in
    cond_both (nat_eq (choosing.length_of a) (choosing.length_of b)) (nat_lt a.from b.from) (nat_lt (choosing.length_of b) (choosing.length_of a)) (λ (t : Bool). t ≡ false → Worse a b)
    (λ equal z. let l = eqb-true (choosing.length_of a) (choosing.length_of b) equal in inr (q, omega arith))
    (λ apart z. let l = ltb-false (choosing.length_of b) (choosing.length_of a) z in inr (q, omega arith)))
    (λ other z. let ne = eqb-false a.normal b.normal other in let l = ltb-false b.normal a.normal z in inl (below a.normal b.normal ne l))
  where
    below : (x y : ℕ) → (x ≡ y → ⊥) → x ≤ y → x < y
    below x y ne l = elim (cases_lt x y) [ inl z ↦ z | inr z ↦ absurd (ne (omega arith)) ]

worse_self : (x : Collected) → Worse x x
worse_self x = inr (refl, omega arith)

best_good : (x : Collected) (xs : List Collected) → IsIn (choosing.best_of x xs) (x ∷ xs) × ((y : Collected) → IsIn y (x ∷ xs) → Worse y (choosing.best_of x xs))
best_good x [] = (inl refl, (λ y i. elim i [ inl z ↦ subst (λ (q : Collected). Worse q x) (sym z) (worse_self x) | inr q ↦ absurd q ]))
best_good x (z ∷ zs) = cond_both (choosing.is_better z x) z x (λ (b : Collected). IsIn (choosing.best_of b zs) (x ∷ z ∷ zs) × ((y : Collected) → IsIn y (x ∷ z ∷ zs) → Worse y (choosing.best_of b zs)))
    (λ t. let rest = best_good z zs in (
      inr rest.0,
      (λ y i. elim i [
        | inl q ↦ subst (λ (a : Collected). Worse a (choosing.best_of z zs)) (sym q) (below_trans (better_of z x t) (rest.1 z (inl refl)))
        | inr j ↦ rest.1 y j
      ]),
    ))
    (λ t. let rest = best_good x zs in (
      elim rest.0 [ inl q ↦ inl q | inr q ↦ inr (inr q) ],
      (λ y i. elim i [
        | inl q ↦ rest.1 y (inl q)
        | inr j ↦ elim j [
          | inl q ↦ subst (λ (a : Collected). Worse a (choosing.best_of x zs)) (sym q) (below_trans (not_better z x t) (rest.1 x (inl refl)))
          | inr n ↦ rest.1 y (inr n)
        ]
      ]),
    ))

-- the greatest commit number is that of one of them
most_in : (k : ℕ) (xs : List Collected) → (choosing.greatest_commit k xs ≡ k) ⊎ ((y : Collected) × IsIn y xs × (choosing.greatest_commit k xs ≡ y.commit))
most_in k [] = inl refl
most_in k (z ∷ zs) = elim (most_in (max k z.commit) zs) [
  | inr q ↦ inr (q.0, inr q.1, q.2)
  | inl q ↦ elim (cases_lt k z.commit) [
    | inl l ↦ let top : max k z.commit ≡ z.commit = omega arith in inr (z, inl refl, q ∙ top)
    | inr l ↦ let top : max k z.commit ≡ k = omega arith in inl (q ∙ top)
  ]
]

most_of : (x : Collected) (xs : List Collected) → (y : Collected) × IsIn y (x ∷ xs) × (choosing.greatest_commit x.commit xs ≡ y.commit)
most_of x xs = elim (most_in x.commit xs) [ inl q ↦ (x, inl refl, q) | inr q ↦ (q.0, inr q.1, q.2) ]

-- letters at the end, and at the front
pub swapped : {A : Type 0} (xs ys : List A) (x : A) → IsIn x (ys ++ xs) → IsIn x (xs ++ ys)
swapped xs ys x i = elim (in_append x ys xs i) [ inl z ↦ in_right x xs ys z | inr z ↦ in_left x xs ys z ]

-- a walk makes the step, and a view changes after it
pub record IsWalk (g : Group Entry) (c : ℕ) (h : History Entry) (st : VrStep) : Type 0 where
  pub walk : Walk g c h (member_state_of st.state) st.state.promise st.state.life (letters_of c st.letters)
  pub status : (member_state_of st.state).status ≡ core.ViewChange
  pub me : st.state.me ≡ c
  pub controllers : st.state.controllers ≡ size g

module _ {g : Group Entry} {h : History Entry} {c : ℕ} (gr : IsGroup g) (b : c < size g) where
  pub own_primary : {st : VrStep} → IsWalk g c h st → member.is_primary st.state ≡ true → c ≡ primary_in g st.state.view
  own_primary {st} w z = sym (sym (same_primary g st.state w.controllers st.state.view) ∙ eqb-true (member.primary_of st.state st.state.view) st.state.me z ∙ w.me)

  -- no more letters
  walked_quiet : (st : VrStep) (t : VrState) → IsWalk g c h (record st { state = t }) → IsWalk g c h (steps.then_step st (λ q. steps.quiet t))
  walked_quiet st t w = record {
    walk = subst (λ (ls : List VrLetter). Walk g c h (member_state_of t) t.promise t.life (letters_of c ls)) (sym (append-nil st.letters)) w.walk;
    status = w.status;
    me = w.me;
    controllers = w.controllers;
  }

  -- one more letter
  walked_tells : {st : VrStep} (w : IsWalk g c h st) (to : ℕ) (x : VrMessage) → ((a q : ℕ) → is_prepare_ok (message_of x) a q ≡ false) → IsGoodMessage g w.walk.at c to (message_of x) → IsWalk g c h (record st { letters = st.letters ++ steps.letter x to ∷ [] })
  walked_tells {st} w to x unlike good =
      let one : List (Letter Entry) = abstract_letter c to (message_of x) ∷ [] in
      let old : List (Letter Entry) = letters_of c st.letters in
      let w1 = walk_says gr b w.walk one (λ z j. elim j [ inl q ↦ ap (λ (p : Letter Entry). p.sender) q | inr q ↦ absurd q ]) (λ z j a n. elim j [ inl q ↦ ap (λ (p : Letter Entry). is_prepare_ok p.message a n) q ∙ unlike a n | inr q ↦ absurd q ])
      (λ z j. elim j [ inl q ↦ subst (λ (p : Letter Entry). IsGoodLetter g w.walk.at p) (sym q) good | inr q ↦ absurd q ]) in
      let same = letters_append c st.letters (steps.letter x to ∷ []) in
      record {
        walk = subst (λ (ls : List (Letter Entry)). Walk g c h (member_state_of st.state) st.state.promise st.state.life ls) (sym same) (walk_same gr b w1 (λ q j. swapped old one q j) (λ q j. swapped one old q j));
        status = w.status;
        me = w.me;
        controllers = w.controllers;
      }

  -- it votes
  walked_votes : {st : VrStep} → IsWalk g c h st → IsWalk g c h (steps.then_step st entering.votes)
  walked_votes {st} w =
      let s : VrState = st.state in
      cond_both (nat_le (member.most_failures s) (length s.votes) && not s.sent) (entering.sends_log s) (steps.quiet s) (λ (z : VrStep). IsWalk g c h (steps.then_step st (λ q. z)))
      (λ now. cond_both (member.is_primary s) _ _ (λ (z : VrStep). IsWalk g c h (steps.then_step st (λ q. z)))
      (λ own. cond_both (choosing.has_collected s s.me) s (record s { collected = s.collected ++ entering.own_log s ∷ [] }) (λ z. IsWalk g c h (steps.then_step st (λ q. steps.quiet (record z { sent = true }))))
      (λ old. walked_quiet st (record s { sent = true }) (record { walk = w.walk; status = w.status; me = w.me; controllers = w.controllers }))
      (λ fresh.
      let w1 = walk_own_vote gr b w.walk w.status (own_primary w own) (subst (λ (j : ℕ). ¬ IsIn j (map (λ x. x.from) (map vote_of s.collected))) w.me (has_not s.me s.collected fresh)) in
      let vote : ℕ → Vote Entry = λ j. record { from = j; normal = s.normal; commit = s.commit; rest = drop s.commit s.log } in
      let more : map vote_of s.collected ++ vote c ∷ [] ≡ map vote_of (s.collected ++ entering.own_log s ∷ []) =
      ap (λ (j : ℕ). map vote_of s.collected ++ vote j ∷ []) (sym w.me) ∙ sym (map-append (λ (x : Collected). vote_of x) s.collected (entering.own_log s ∷ [])) in
      walked_quiet st (record s { collected = s.collected ++ entering.own_log s ∷ []; sent = true }) (record { walk = subst (λ (cs : List (Vote Entry)). Walk g c h (record (member_state_of s) { collected = cs }) s.promise s.life (letters_of c st.letters)) more w1; status = w.status; me = w.me; controllers = w.controllers })))
      (λ own.
      let told = own_good_vote (walk_good gr b w.walk) w.status in
      let w1 = walked_tells w (member.primary_of s s.view) (message.DoViewChange s.view s.normal s.commit (drop s.commit s.log)) (λ a q. refl) told in
      record { walk = w1.walk; status = w1.status; me = w1.me; controllers = w1.controllers }))
      (λ no. walked_quiet st s (record { walk = w.walk; status = w.status; me = w.me; controllers = w.controllers }))

module _ {g : Group Entry} {h h' : History Entry} {c : ℕ} (gr : IsGroup g) (o : 1 ≤ g.most_failures) (i : Invariant g h) (b : c < size g) where
  goes_changing : (st : VrStep) → IsWalk g c h st → IsMemberTurn g h h' c st
  goes_changing st w t tr = end_changing gr i b w.walk w.status (resembles_self (member_state_of st.state)) t (λ y j. j) (λ y j. j) tr

  -- the view starts
  goes_starts : {st : VrStep} → IsWalk g c h st → member.is_primary st.state ≡ true → (x : Collected) (xs : List Collected) → st.state.collected ≡ x ∷ xs → g.most_failures < length st.state.collected → (choosing.best_of x xs).commit ≤ length (choosing.front st.state)
      → IsMemberTurn g h h' c (steps.then_step st (λ s. entering.starts s x xs))
  goes_starts {st} w own x xs z many long t tr =
      let s : VrState = st.state in
      let star : Collected = choosing.best_of x xs in
      let some = most_of x xs in
      let top : Collected = some.0 in
      let base : ℕ = choosing.least_commit x.commit xs in
      let most : ℕ = choosing.greatest_commit x.commit xs in
      let log : List Entry = take star.commit (choosing.front s) ++ star.log in
      let new : VrState = entering.started_view s log base most in
      let good = best_good x xs in
      let is = own_primary gr b w own in
      let half : member.most_failures s ≡ g.most_failures = same_half g s w.controllers in
      let front : effect.front_of (member_state_of s) ≡ choosing.front s = front_is s s.supply in
      let made : log ≡ take star.commit (effect.front_of (member_state_of s)) ++ star.log = ap (λ (l : List Entry). take star.commit l ++ star.log) (sym front) in
      let long' : star.commit ≤ length (effect.front_of (member_state_of s)) = omega (arith, ap length front) in
      let all_in : (y : Collected) → IsIn y (x ∷ xs) → IsIn (vote_of y) (map vote_of s.collected) = λ y j. member_map y s.collected (subst (λ (cs : List Collected). IsIn y cs) (sym z) j) in
      let in_star = all_in star good.0 in
      let below : (y : Vote Entry) → IsIn y (map vote_of s.collected) → IsAtMost y.normal (y.commit + length y.rest) star.normal (star.commit + length star.log) = λ y j.
      let q = map_member y s.collected j in
      subst (λ (p : Vote Entry). IsAtMost p.normal (p.commit + length p.rest) star.normal (star.commit + length star.log)) (sym q.2) (good.1 q.0 (subst (λ (cs : List Collected). IsIn q.0 cs) z q.1)) in
      let a : State Entry = move.started (member_state_of s) log top.commit in
      let commit_is : new.commit ≡ top.commit = cond-false (eqb (member.most_failures s) 0) (length log) most (ne_eqb (member.most_failures s) 0 (λ q. absurd (omega arith))) ∙ some.2 in
      let like : Resembles a (member_state_of new) = normal_like a (member_state_of new) refl refl refl refl refl commit_is (λ j. zeros s.controllers j) in
      let said : List (Letter Entry) = letters_of c st.letters in
      let told : List VrLetter = steps.to_others new (entering.view_start new) in
      let told_is : letters_of c told ≡ effect.tells_view c (member.others s) base a =
      each_same c (entering.view_start new) (member.others s) ∙ ap (λ (k : ℕ). map (λ (j : ℕ). (abstract_letter c j (core.StartView s.view base k (drop base log)))) (member.others s)) commit_is in
      let whole : letters_of c (st.letters ++ told) ≡ said ++ effect.tells_view c (member.others s) base a = letters_append c st.letters told ∙ ap (λ (ls : List (Letter Entry)). said ++ ls) told_is in
      end_start gr i b w.walk (member.others s) base [] (vote_of star) (vote_of top) log w.status is (omega (arith, length-map s.collected (λ (y : Collected). vote_of y))) in_star below (all_in top some.1) long' made tt (
        like,
        t,
        (λ q j. subst (λ (ls : List (Letter Entry)). IsIn q ls) (sym whole) (swapped said (effect.tells_view c (member.others s) base a) q j)),
        (λ q j. swapped (effect.tells_view c (member.others s) base a) said q (subst (λ (ls : List (Letter Entry)). IsIn q ls) whole j)),
      ) tr

  goes_chooses_from : {st : VrStep} → IsWalk g c h st → member.is_primary st.state ≡ true → (all : List Collected) → st.state.collected ≡ all → g.most_failures < length st.state.collected → IsMemberTurn g h h' c (steps.then_step st (λ s. entering.chooses_from s all))
  goes_chooses_from w own [] z many = let q = ap length z in absurd (omega arith)
  goes_chooses_from {st} w own (x ∷ xs) z many = cond_both (choosing.reaches st.state (choosing.best_of x xs)) _ _ (λ q. IsMemberTurn g h h' c (steps.then_step st (λ s. q)))
      (λ long. goes_starts w own x xs z many (leb-true (choosing.best_of x xs).commit (length (choosing.front st.state)) long))
      (λ short. goes_changing (steps.then_step st (λ s. steps.sends st.state (choosing.fetch_letter st.state (choosing.best_of x xs) ∷ []))) (let w1 = walked_tells gr b w (choosing.best_of x xs).from (message.Fetch st.state.view st.state.commit) (λ a q. refl) tt in record { walk = w1.walk; status = w1.status; me = w1.me; controllers = w1.controllers }))

  goes_chooses : {st : VrStep} → IsWalk g c h st → IsMemberTurn g h h' c (steps.then_step st entering.chooses)
  goes_chooses {st} w =
      let s : VrState = st.state in
      cond_both (choosing.may_choose s) _ _ (λ q. IsMemberTurn g h h' c (steps.then_step st (λ s. q)))
      (λ ok.
      let x = and_parts (member.is_changing s && member.is_primary s && choosing.has_collected s s.me) (nat_lt (member.most_failures s) (length s.collected)) ok in
      let y = and_parts (member.is_changing s && member.is_primary s) (choosing.has_collected s s.me) x.0 in
      let half : member.most_failures s ≡ g.most_failures = same_half g s w.controllers in
      let l = ltb-true (member.most_failures s) (length s.collected) x.1 in
      goes_chooses_from w (and_parts (member.is_changing s) (member.is_primary s) y.0).1 s.collected refl (omega arith))
      (λ ok. goes_changing (steps.then_step st (λ q. steps.quiet s)) (walked_quiet gr b st s (record { walk = w.walk; status = w.status; me = w.me; controllers = w.controllers })))

  pub goes_check : {st : VrStep} → IsWalk g c h st → IsMemberTurn g h h' c (steps.then_step st entering.check)
  goes_check {st} w0 t tr =
      let w = walked_votes gr b w0 in
      let voted : VrStep = entering.votes st.state in
      let last : VrStep = entering.chooses voted.state in
      goes_chooses w (subst (λ (ls : List VrLetter). Moved h h' c (member_state_of last.state) last.state.promise last.state.life (letters_of c ls)) (sym (append_assoc st.letters voted.letters last.letters)) t) tr

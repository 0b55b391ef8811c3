-- Each kind of step keeps the rule.
use Rattle.std.proofs.Common.{◌+◌, ◌≡◌, ◌≢◌, ℕ, ◌⊎◌, inl, inr, ⊎_elim, Option, Some, None, cond, List, [], ◌∷◌, ◌++◌, length, map, set, take, drop, eqb, refl, sym, ap, ◌∙◌, subst, eq-eqb, ne_eqb, append_assoc, append-nil, length-set, arith}
use Rattle.std.specs.Prelude.{slice_index, All, Contains}
use Rattle.std.specs.List.{IsDistinct}
use mathlib.Core.Option.{some, none}
use mathlib.Core.Option as maybe
use mathlib.Core.Logic.{dite}
use native.Mathlib.Decide.{ℕ_discrete}
use lib.ListN.{get_elem?}
use prog.Atomic.{either}
use Rattle.std.proofs.lemmas.List.{reverse-append}
use Rattle.std.proofs.lemmas.List.Elements.{All-contains, Contains-append_left, Contains-push, Contains-push_cases}
use Rattle.std.proofs.lemmas.Option.{same_Some}
use Rattle.atomic_table.specs.Table.{State, Me, Step, Act, keeps, takes, gives, Allows, Splits, Joins, Seen, Final, opening, stepped, put_back, carried_after, Valid}
use Rattle.atomic_table.proofs.Lists.{at_set, set_here, set_else, set_again, at_longer, exchanged}
use Rattle.journal.specs.declared.journal.Actor.{Actor}
use Rattle.journal.specs.declared.journal.JournalEntry.{JournalEntry}
use Rattle.journal.specs.Actors.{same_actor, actor_of}
use Rattle.journal.specs.Part.{part}
use Rattle.journal.specs.Pool.{past}
use Rattle.journal.proofs.All.{all_append, all_weaker}
use Rattle.shared_wire.specs.declared.rule.Known.{Known}
use Rattle.shared_wire.specs.declared.rule.View.{View}
use Rattle.shared_wire.specs.Rule.{StartsWith, AreNamed, knowing, seat_view_of, IsTrueOf, IsKnownAt, AtHome, Away, IsRuled, first_view, after_seating, newly_seated, joined, spent, holding, has_given, took, gave, given_of}
use Rattle.shared_wire.specs.Places.{PlaceState, known_of, KnowsEach, IsPartOf}
use Rattle.shared_wire.proofs.Lists.{at_unmap, not_there, only, one_at, below, at_snoc_or, at_append_or, at_plus, at_length, starts_trans, not_both, contains_at, contains_none, all_reverse}
use Rattle.shared_wire.proofs.Parts.{same_refl, not_same, not_before, AllBy, part-other, part-unnamed}

abbrev Table : Type 0 → Type 0
Table B = State (Option (List (JournalEntry B))) (View B)

abbrev Mine : Type 0 → Type 0
Mine B = Me (Option (List (JournalEntry B))) (View B)

abbrev Homes : Type 0 → Type 0
Homes B = List (maybe.Option (Option (List (JournalEntry B))))

module _ {B : Type 0} where
  pub opens : (actors : List Actor) → IsDistinct same_actor actors → IsRuled {B = B} actors (opening (0 ∷ []) (Some [] ∷ []) (first_view actors))
  opens actors d = record {
    journal = [];
    place = λ _. (0, 0);
    distinct = d;
    wire = inl record { word = refl; slot = refl; free = λ i v at. ap (λ (z : View B). z.held) (sym (only (first_view actors) i v at).1) };
    fits = λ i v at p k there. absurd (not_there p k (subst (λ (z : View B). get_elem? z.known p ≡ some k) (sym (only (first_view actors) i v at).1) there));
    first = (
      first_view actors,
      refl,
      record {
        order = refl;
        nothing = refl;
        placed = λ a h. absurd (contains_none a h);
        within = λ i v at p k there. absurd (not_there p k (subst (λ (z : View B). get_elem? z.known p ≡ some k) (sym (only (first_view actors) i v at).1) there));
        named = tt;
      },
    );
  }

  -- the same of a key and slots that are these
  pub opens_as : (actors key : List Actor) (slots : List (Option (List (JournalEntry B)))) → key ≡ actors → slots ≡ Some [] ∷ [] → IsDistinct same_actor actors → IsRuled key (opening (0 ∷ []) slots (first_view key))
  opens_as actors key slots k sl d = rw (k, sl) (opens actors d)

  -- a seat that knows an actor is not the first one
  not_first : (s : Table B) (id : ℕ) (v v0 : View B) (k : Known B) → get_elem? s.views id ≡ some v → get_elem? s.views 0 ≡ some v0 → v0.known ≡ [] → get_elem? v.known 0 ≡ some k → 0 ≢ id
  not_first s id v v0 k at at0 blank here z =
      let same_view : v0 ≡ v = one_at s.views id v0 v (subst (λ (n : ℕ). get_elem? s.views n ≡ some v0) z at0) at in
      not_there 0 k (subst (λ l. get_elem? l 0 ≡ some k) (ap (λ (y : View B). y.known) (sym same_view) ∙ blank) here)

  -- a seat that knows one actor alone changes its view, and the journal grows by entries of this actor
  changed : (actors : List Actor) (s : Table B) (r : IsRuled actors s) (id : ℕ) (v w : View B) (k k' : Known B) (journal' entries : List (JournalEntry B)) (words' : List ℕ) (homes' : Homes B)
      → get_elem? s.views id ≡ some v → v.known ≡ k ∷ [] → w.known ≡ k' ∷ [] → k'.actor ≡ k.actor → IsTrueOf journal' k' → journal' ≡ r.journal ++ entries → AllBy k.actor entries
      → AtHome journal' record { words = words'; homes = homes'; views = set s.views id w } ⊎ Away journal' record { words = words'; homes = homes'; views = set s.views id w }
      → IsRuled actors record { words = words'; homes = homes'; views = set s.views id w }
  changed actors s r id v w k k' journal' entries words' homes' at kn kn' same true_of grown all wire' =
      let v0 = r.first.0 in let names = r.first.2 in
      let there : get_elem? v.known 0 ≡ some k = ap (λ l. get_elem? l 0) kn in
      let seat_is : r.place k.actor ≡ (id, 0) = (r.fits id v at 0 k there).1 in
      let mine : Contains v0.seated k.actor = names.within id v at 0 k there in
      let apart : 0 ≢ id = not_first s id v v0 k at r.first.1 names.nothing there in
      let longer : StartsWith journal' r.journal = (entries, grown) in
      let past_is : past journal' ≡ past entries ++ past r.journal = ap past grown ∙ reverse-append r.journal entries in
      let others : (a : Actor) → a ≢ k.actor → part a (past journal') ≡ part a (past r.journal) = λ a ne.
      ap (part a) past_is ∙ part-other a k.actor (past entries) (past r.journal) (all_reverse (λ e. actor_of e ≡ k.actor) entries all) ne in
      let only' : (p : ℕ) (x : Known B) → get_elem? w.known p ≡ some x → (p ≡ 0) × (k' ≡ x) = λ p x e. only k' p x (subst (λ l. get_elem? l p ≡ some x) kn' e) in
      record {
        journal = journal';
        place = r.place;
        distinct = r.distinct;
        wire = wire';
        fits = λ j x e p y f. ⊎_elim
            (λ t. let is = only' p y (subst (λ (z : View B). get_elem? z.known p ≡ some y) (sym t.1) f) in
            subst (λ (z : Known B). IsTrueOf journal' z × (r.place z.actor ≡ (j, p))) is.1 (true_of, ap r.place same ∙ seat_is ∙ (λ i. (sym t.0 i, sym is.0 i))))
            (λ t. let old = r.fits j x t.1 p y f in
            let ne : y.actor ≢ k.actor = λ q. t.0 (ap (λ (z : ℕ × ℕ). z.0) (sym old.1 ∙ ap r.place q ∙ seat_is)) in
            ((old.0.0 ∙ sym (others y.actor ne), starts_trans y.seen r.journal journal' old.0.1 longer), old.1))
            (at_set s.views id j w x e);
        first = (
          v0,
          set_else s.views id 0 w apart ∙ r.first.1,
          record {
            order = names.order;
            nothing = names.nothing;
            placed = λ a h. let o = names.placed a h in dite (ℕ_discrete (r.place a).0 id)
                (λ is. let v_is : o.0 ≡ v = one_at s.views id o.0 v (subst (λ (z : ℕ). get_elem? s.views z ≡ some o.0) is o.2) at in
                let one = only k (r.place a).1 o.1 (subst (λ l. get_elem? l (r.place a).1 ≡ some o.1) (ap (λ (z : View B). z.known) v_is ∙ kn) o.3) in (
                  w,
                  k',
                  subst (λ (z : ℕ). get_elem? (set s.views id w) z ≡ some w) (sym is) (set_here s.views id w (below s.views id v at)),
                  subst (λ (z : ℕ). get_elem? w.known z ≡ some k') (sym one.0) (ap (λ l. get_elem? l 0) kn'),
                  same ∙ ap (λ (z : Known B). z.actor) one.1 ∙ o.4,
                ))
                (λ ne. (o.0, o.1, set_else s.views id (r.place a).0 w ne ∙ o.2, o.3, o.4));
            within = λ j x e p y f. ⊎_elim
                (λ t. let is = (only' p y (subst (λ (z : View B). get_elem? z.known p ≡ some y) (sym t.1) f)).1 in
                subst (λ (z : Actor). Contains v0.seated z) (sym same ∙ ap (λ (z : Known B). z.actor) is) mine)
                (λ t. names.within j x t.1 p y f)
                (at_set s.views id j w x e);
            named = subst (AreNamed v0.seated) (sym grown) (all_append (λ e. Contains v0.seated (actor_of e)) r.journal entries names.named
                (all_weaker (λ e. actor_of e ≡ k.actor) (λ e. Contains v0.seated (actor_of e)) (λ e q. subst (λ (z : Actor). Contains v0.seated z) (sym q) mine) entries all));
          },
        );
      }

  words_are : (actors : List Actor) (s : Table B) (r : IsRuled actors s) → set s.words 0 (slice_index s.words 0) ≡ s.words
  words_are actors s r = ⊎_elim
      (λ h. subst (λ (ws : List ℕ). set ws 0 (slice_index ws 0) ≡ ws) (sym h.word) refl)
      (λ h. subst (λ (ws : List ℕ). set ws 0 (slice_index ws 0) ≡ ws) (sym h.word) refl)
      r.wire

  -- a step of the word 0, by what it becomes
  abbrev Goes : List Actor → Table B → ℕ → Mine B → (ℕ → Mine B → Type 0) → ℕ → Type 0
  Goes actors s id me then n = (w : View B) × (a : Act (Option (List (JournalEntry B)))) × Valid s.homes me.1 a × IsRuled actors (stepped s 0 n id me.1 w a) × then (slice_index s.words 0) (w, carried_after me.1 a)

  -- an exchange that takes the wire, or finds none
  pub takes_wire : (actors : List Actor) (slots id : ℕ) (me : Mine B) (k : Known B) (st : Step (Option (List (JournalEntry B)))) → me.0.known ≡ k ∷ []
      → Allows (IsRuled actors) slots id me 0 (λ n. either (eqb n 0) 1 n) (took st me)
  takes_wire actors slots id me k st kn s r wide at _ = let y : ℕ = slice_index s.words 0 in exchanged y 0 1 (Goes actors s id me (took st me))
      (λ hit. ⊎_elim
      (λ home. let w : View B = holding me.0 r.journal in (
        w,
        takes 0 (Some r.journal),
        subst (λ (hs : Homes B). get_elem? hs 0 ≡ some (some (Some r.journal))) (sym home.slot) refl,
        changed actors s r id me.0 w k k r.journal [] (set s.words 0 1) (set s.homes 0 none) at kn kn refl
            (r.fits id me.0 at 0 k (ap (λ l. get_elem? l 0) kn)).0 (sym (append-nil r.journal)) tt
            (inr record {
              holder = id;
              sees = w;
              about = k;
              word = ap (λ ws. set ws 0 1) home.word;
              slot = ap (λ hs. set hs 0 none) home.slot;
              there = set_here s.views id w (below s.views id me.0 at);
              holds = refl;
              knows = ap (λ l. get_elem? l 0) kn;
              free = λ i v e ne. ⊎_elim (λ t. absurd (ne t.0)) (λ t. home.free i v t.1) (at_set s.views id i w v e);
            }),
        ((λ zero_found. (r.journal, refl, λ p x e. (r.fits id me.0 at p x e).0)), λ miss. absurd (miss hit)),
      ))
      (λ away. absurd (let one : y ≡ 1 = ap (λ ws. slice_index ws 0) away.word in omega arith))
      r.wire)
      (λ miss. (
        me.0,
        keeps,
        tt,
        subst (IsRuled actors) (sym (let st : stepped s 0 y id me.1 me.0 keeps ≡ s = λ i. record { words = words_are actors s r i; homes = s.homes; views = set_again s.views id me.0 at i } in st)) r,
        ((λ hit. absurd (miss hit)), λ _. refl),
      ))

  -- the seat that holds is the holder
  holder_is : (actors : List Actor) (s : Table B) (r : IsRuled actors s) (id : ℕ) (v : View B) (journal : List (JournalEntry B)) → get_elem? s.views id ≡ some v → v.held ≡ Some journal → (w : Away r.journal s) × (id ≡ w.holder) × (r.journal ≡ journal)
  holder_is actors s r id v journal at held = ⊎_elim
      (λ home. absurd (not_both journal v.held held (home.free id v at)))
      (λ away. dite (ℕ_discrete id away.holder)
      (λ is. (
        away,
        is,
        let same_view : v ≡ away.sees = one_at s.views id v away.sees at (subst (λ (z : ℕ). get_elem? s.views z ≡ some away.sees) (sym is) away.there) in
            same_Some r.journal journal (sym away.holds ∙ ap (λ (z : View B). z.held) (sym same_view) ∙ held),
      ))
      (λ ne. absurd (not_both journal v.held held (away.free id v at ne))))
      r.wire

  -- an exchange that gives the wire back
  pub gives_wire : (actors : List Actor) (slots id : ℕ) (me : Mine B) (k : Known B) (st : Step (Option (List (JournalEntry B)))) (journal journal' entries : List (JournalEntry B)) → me.0.known ≡ k ∷ [] → me.0.held ≡ Some journal → me.1 ≡ (0, Some journal') ∷ []
      → journal' ≡ journal ++ entries → AllBy k.actor entries → Allows (IsRuled actors) slots id me 0 (λ _. 0) (λ _. gave st me 0)
  gives_wire actors slots id me k st journal journal' entries kn held has is all s r wide at _ =
      let h = holder_is actors s r id me.0 journal at held in let away = h.0 in
      let longer : journal' ≡ r.journal ++ entries = is ∙ ap (λ l. l ++ entries) (sym h.2) in
      let given : List (JournalEntry B) = given_of me.1 in
      let given_is : given ≡ journal' = ap given_of has in
      let w : View B = has_given me.0 given in
      let k' : Known B = knowing k.actor (part k.actor (past journal')) journal' in (
        w,
        gives,
        tt,
        changed actors s r id me.0 w k k' journal' entries (set s.words 0 0) (put_back s.homes me.1) at kn
            (ap (map (λ (z : Known B). knowing z.actor (part z.actor (past given)) given)) kn ∙ ap (λ l. knowing k.actor (part k.actor (past l)) l ∷ []) given_is) refl
            (refl, ([], sym (append-nil journal'))) longer all
            (inl record {
              word = ap (λ ws. set ws 0 0) away.word;
              slot = ap (put_back s.homes) has ∙ ap (λ hs. set hs 0 (some (Some journal'))) away.slot;
              free = λ i v e. ⊎_elim (λ t. ap (λ (z : View B). z.held) (sym t.1)) (λ t. away.free i v t.1 (λ q. t.0 (q ∙ sym h.1))) (at_set s.views id i w v e);
            }),
        refl,
      )

  -- the first seat, which holds nothing, seats the next actor
  module _ (actors : List Actor) (v : View B) (a : Actor) (more : List Actor) where
    abbrev Seating : Table B → View B → View B → Table B
    Seating s l n = record { words = s.words; homes = s.homes; views = set s.views 0 l ++ n ∷ [] }

    abbrev next_place : (Actor → ℕ × ℕ) → ℕ → Actor → ℕ × ℕ
    next_place place len x = cond (same_actor x a) (len, 0) (place x)

    pub seats_next : v.held ≡ None → v.unseated ≡ a ∷ more → Splits (IsRuled actors) 0 v (after_seating v) (newly_seated v)
    seats_next free wait s r at =
        let v0 = r.first.0 in let names = r.first.2 in
        let v_is : v0 ≡ v = one_at s.views 0 v0 v r.first.1 at in
        let l : View B = seat_view_of v.known (v.seated ++ a ∷ []) more v.held in
        let n : View B = seat_view_of (knowing a [] [] ∷ []) [] [] None in
        let l_is : after_seating v ≡ l = ap (λ (ws : List Actor). seat_view_of v.known (v.seated ++ take 1 ws) (drop 1 ws) v.held) wait in
        let n_is : newly_seated v ≡ n = ap (λ (ws : List Actor). seat_view_of (map (λ x. knowing x [] []) (take 1 ws)) [] [] None) wait in
        let order : v.seated ++ a ∷ more ≡ actors = ap (λ ws. v.seated ++ ws) (sym wait) ∙ subst (λ (z : View B). z.seated ++ z.unseated ≡ actors) v_is names.order in
        let len : ℕ = length s.views in
        let new : ¬ (Contains v.seated a) = not_before v.seated more a (subst (IsDistinct same_actor) (sym order) r.distinct) in
        let within : (i : ℕ) (w : View B) → get_elem? s.views i ≡ some w → (p : ℕ) (k : Known B) → get_elem? w.known p ≡ some k → Contains v.seated k.actor = λ i w e p k f. subst (λ (z : View B). Contains z.seated k.actor) v_is (names.within i w e p k f) in
        let named : AreNamed v.seated r.journal = subst (λ (z : View B). AreNamed z.seated r.journal) v_is names.named in
        let none_of : part a (past r.journal) ≡ [] = part-unnamed v.seated a r.journal named new in
        let longer : (x : Actor) → Contains v.seated x → Contains (v.seated ++ a ∷ []) x = λ x h. Contains-append_left v.seated (a ∷ []) x h in
        let old_at : (i : ℕ) (w : View B) → get_elem? (set s.views 0 l) i ≡ some w → (x : View B) × (get_elem? s.views i ≡ some x) × (w.known ≡ x.known) × (w.held ≡ x.held) = λ i w e. ⊎_elim
        (λ t. (v, subst (λ (z : ℕ). get_elem? s.views z ≡ some v) (sym t.0) at, ap (λ (z : View B). z.known) (sym t.1), ap (λ (z : View B). z.held) (sym t.1)))
        (λ t. (w, t.1, refl, refl))
        (at_set s.views 0 i l w e) in
        let views' : List (View B) = set s.views 0 l ++ n ∷ [] in
        let last : get_elem? views' len ≡ some n = subst (λ (z : ℕ). get_elem? views' z ≡ some n) (length-set s.views 0 l) (at_length (set s.views 0 l) [] n) in
        let old_place : (x : Actor) → Contains v.seated x → IsKnownAt views' x (next_place r.place len x) = λ x h.
        let o = names.placed x (subst (λ (z : View B). Contains z.seated x) (sym v_is) h) in
        let ne : x ≢ a = λ q. new (subst (λ z. Contains v.seated z) q h) in
        let late : (r.place x).0 ≢ 0 = λ q. not_there (r.place x).1 o.1 (subst (λ ks. get_elem? ks (r.place x).1 ≡ some o.1) (ap (λ (z : View B). z.known) (one_at s.views 0 o.0 v0 (subst (λ (z : ℕ). get_elem? s.views z ≡ some o.0) q o.2) r.first.1) ∙ names.nothing) o.3) in
        subst (IsKnownAt views' x) (sym (ap (λ b. cond b (len, 0) (r.place x)) (not_same x a ne)))
        (o.0, o.1, at_longer (set s.views 0 l) (n ∷ []) (r.place x).0 o.0 (set_else s.views 0 (r.place x).0 l late ∙ o.2), o.3, o.4) in
        let new_place : IsKnownAt views' a (next_place r.place len a) = subst (IsKnownAt views' a) (sym (ap (λ b. cond b (len, 0) (r.place a)) (same_refl a))) (n, knowing a [] [], last, refl, refl) in
        let seated_at : (x : Actor) → Contains (v.seated ++ a ∷ []) x → IsKnownAt views' x (next_place r.place len x) = λ x h. ⊎_elim
        (λ t. old_place x t)
        (λ t. subst (λ (y : Actor). IsKnownAt views' y (next_place r.place len y)) t new_place)
        (Contains-push_cases v.seated a x h) in
        subst (IsRuled actors) (λ i. Seating s (sym l_is i) (sym n_is i)) record {
          journal = r.journal;
          place = next_place r.place len;
          distinct = r.distinct;
          wire = ⊎_elim
              (λ home. inl record {
                word = home.word;
                slot = home.slot;
                free = λ i w e. ⊎_elim (λ f. let o = old_at i w f in o.3 ∙ home.free i o.0 o.1) (λ f. ap (λ (z : View B). z.held) (sym f.1)) (at_snoc_or (set s.views 0 l) n w i e);
              })
              (λ away.
              let apart : away.holder ≢ 0 = λ z. not_both r.journal v.held (ap (λ (y : View B). y.held) (one_at s.views 0 v away.sees at (subst (λ (y : ℕ). get_elem? s.views y ≡ some away.sees) z away.there)) ∙ away.holds) free in
              inr record {
                holder = away.holder;
                sees = away.sees;
                about = away.about;
                word = away.word;
                slot = away.slot;
                there = at_longer (set s.views 0 l) (n ∷ []) away.holder away.sees (set_else s.views 0 away.holder l apart ∙ away.there);
                holds = away.holds;
                knows = away.knows;
                free = λ i w e ne. ⊎_elim (λ f. let o = old_at i w f in o.3 ∙ away.free i o.0 o.1 ne) (λ f. ap (λ (z : View B). z.held) (sym f.1)) (at_snoc_or (set s.views 0 l) n w i e);
              })
              r.wire;
          fits = λ i w e p k f. ⊎_elim
              (λ t. let o = old_at i w t in let f' = subst (λ ks. get_elem? ks p ≡ some k) o.2 f in let fit = r.fits i o.0 o.1 p k f' in
              let ne : k.actor ≢ a = λ q. new (subst (λ z. Contains v.seated z) q (within i o.0 o.1 p k f')) in
              (fit.0, ap (λ b. cond b (len, 0) (r.place k.actor)) (not_same k.actor a ne) ∙ fit.1))
              (λ t. let is = only (knowing a [] []) p k (subst (λ (z : View B). get_elem? z.known p ≡ some k) (sym t.1) f) in
              let i_is : len ≡ i = sym (length-set s.views 0 l) ∙ sym t.0 in
              subst (λ (z : Known B). IsTrueOf r.journal z × (next_place r.place len z.actor ≡ (i, p))) is.1
              ((sym none_of, (r.journal, refl)), ap (λ b. cond b (len, 0) (r.place a)) (same_refl a) ∙ (λ x. (i_is x, sym is.0 x))))
              (at_snoc_or (set s.views 0 l) n w i e);
          first = (
            l,
            at_longer (set s.views 0 l) (n ∷ []) 0 l (set_here s.views 0 l (below s.views 0 v at)),
            record {
              order = append_assoc v.seated (a ∷ []) more ∙ order;
              nothing = subst (λ (z : View B). z.known ≡ []) v_is names.nothing;
              placed = λ x h. seated_at x h;
              within = λ i w e p k f. ⊎_elim
                  (λ t. let o = old_at i w t in longer k.actor (within i o.0 o.1 p k (subst (λ ks. get_elem? ks p ≡ some k) o.2 f)))
                  (λ t. let is : knowing a [] [] ≡ k = (only (knowing a [] []) p k (subst (λ (z : View B). get_elem? z.known p ≡ some k) (sym t.1) f)).1 in
                  subst (λ (z : Known B). Contains (v.seated ++ a ∷ []) z.actor) is (Contains-push v.seated a))
                  (at_snoc_or (set s.views 0 l) n w i e);
              named = all_weaker (λ e. Contains v.seated (actor_of e)) (λ e. Contains (v.seated ++ a ∷ []) (actor_of e)) (λ e h. longer (actor_of e) h) r.journal named;
            },
          );
        }

  -- an ended seat's knowledge goes to the seat that stays
  pub joins_two : (actors : List Actor) (id : ℕ) (v : View B) (other : ℕ) (w : View B) (k k' : Known B) → get_elem? v.known 0 ≡ some k → get_elem? w.known 0 ≡ some k' → v.held ≡ None → w.held ≡ None → Joins (IsRuled actors) id v other w (joined v w) spent
  joins_two actors id v other w k k' here here' free free' s r at apart at' =
      let v0 = r.first.0 in let names = r.first.2 in
      let both : View B = joined v w in
      let gone : View B = spent in
      let there : get_elem? s.views other ≡ some w = sym (set_else s.views id other both apart) ∙ at' in
      let id_late : 0 ≢ id = not_first s id v v0 k at r.first.1 names.nothing here in
      let other_late : 0 ≢ other = not_first s other w v0 k' there r.first.1 names.nothing here' in
      let m : ℕ = length v.known in
      let place' : Actor → ℕ × ℕ = λ x. cond (eqb (r.place x).0 other) (id, m + (r.place x).1) (r.place x) in
      let moved : (x : Actor) (p : ℕ) → r.place x ≡ (other, p) → place' x ≡ (id, m + p) = λ x p e. ap (λ b. cond b (id, m + (r.place x).1) (r.place x)) (eq-eqb (r.place x).0 other (ap (λ (z : ℕ × ℕ). z.0) e)) ∙ ap (λ (z : ℕ × ℕ). (id, m + z.1)) e in
      let stays : (x : Actor) (i p : ℕ) → r.place x ≡ (i, p) → i ≢ other → place' x ≡ (i, p) = λ x i p e ne. ap (λ b. cond b (id, m + (r.place x).1) (r.place x)) (ne_eqb (r.place x).0 other (λ q. ne (sym (ap (λ (z : ℕ × ℕ). z.0) e) ∙ q))) ∙ e in
      let id_apart : id ≢ other = λ q. apart (sym q) in
      let views1 : List (View B) = set s.views id both in
      let views2 : List (View B) = set views1 other gone in
      let cases : (P : Type 0) (i : ℕ) (x : View B) → get_elem? views2 i ≡ some x → ((i ≡ other) → gone ≡ x → P) → ((i ≡ id) → both ≡ x → P) → (i ≢ id → i ≢ other → get_elem? s.views i ≡ some x → P) → P = λ P i x e f g h.
      ⊎_elim (λ t. f t.0 t.1) (λ t. ⊎_elim (λ u. g u.0 u.1) (λ u. h u.0 t.0 u.1) (at_set s.views id i both x t.1)) (at_set views1 other i gone x e) in
      let not_holder : (away : Away r.journal s) (i : ℕ) (x : View B) → get_elem? s.views i ≡ some x → x.held ≡ None → away.holder ≢ i = λ away i x e none q.
      not_both r.journal x.held (ap (λ (y : View B). y.held) (one_at s.views i x away.sees e (subst (λ (y : ℕ). get_elem? s.views y ≡ some away.sees) q away.there)) ∙ away.holds) none in
      record {
        journal = r.journal;
        place = place';
        distinct = r.distinct;
        wire = ⊎_elim
            (λ home. inl record {
              word = home.word;
              slot = home.slot;
              free = λ i x e. cases (x.held ≡ None) i x e (λ _ q. ap (λ (z : View B). z.held) (sym q)) (λ _ q. ap (λ (z : View B). z.held) (sym q) ∙ free) (λ _ _ h. home.free i x h);
            })
            (λ away. inr record {
              holder = away.holder;
              sees = away.sees;
              about = away.about;
              word = away.word;
              slot = away.slot;
              there = set_else views1 other away.holder gone (not_holder away other w there free') ∙ set_else s.views id away.holder both (not_holder away id v at free) ∙ away.there;
              holds = away.holds;
              knows = away.knows;
              free = λ i x e ne. cases (x.held ≡ None) i x e (λ _ q. ap (λ (z : View B). z.held) (sym q)) (λ _ q. ap (λ (z : View B). z.held) (sym q) ∙ free) (λ _ _ h. away.free i x h ne);
            })
            r.wire;
        fits = λ i x e p y f. cases (IsTrueOf r.journal y × (place' y.actor ≡ (i, p))) i x e
            (λ _ q. absurd (not_there p y (subst (λ (z : View B). get_elem? z.known p ≡ some y) (sym q) f)))
            (λ z q. ⊎_elim
            (λ t. let fit = r.fits id v at p y t in (fit.0, stays y.actor id p fit.1 id_apart ∙ (λ k. (sym z k, p))))
            (λ t. let fit = r.fits other w there t.0 y t.2 in (fit.0, moved y.actor t.0 fit.1 ∙ (λ k. (sym z k, sym t.1 k))))
            (at_append_or v.known w.known p y (subst (λ (z : View B). get_elem? z.known p ≡ some y) (sym q) f)))
            (λ _ ne h. let fit = r.fits i x h p y f in (fit.0, stays y.actor i p fit.1 ne));
        first = (
          v0,
          set_else views1 other 0 gone other_late ∙ set_else s.views id 0 both id_late ∙ r.first.1,
          record {
            order = names.order;
            nothing = names.nothing;
            placed = λ a h. let o = names.placed a h in let q : ℕ = (r.place a).1 in dite (ℕ_discrete (r.place a).0 other)
                (λ is. let w_is : o.0 ≡ w = one_at s.views other o.0 w (subst (λ (z : ℕ). get_elem? s.views z ≡ some o.0) is o.2) there in
                subst (IsKnownAt views2 a) (sym (ap (λ b. cond b (id, m + q) (r.place a)) (eq-eqb (r.place a).0 other is)))
                (both, o.1, set_else views1 other id gone id_apart ∙ set_here s.views id both (below s.views id v at), at_plus v.known w.known q o.1 (subst (λ ks. get_elem? ks q ≡ some o.1) (ap (λ (z : View B). z.known) w_is) o.3), o.4))
                (λ ne. subst (IsKnownAt views2 a) (sym (ap (λ b. cond b (id, m + q) (r.place a)) (ne_eqb (r.place a).0 other ne)))
                (dite (ℕ_discrete (r.place a).0 id)
                (λ is. let v_is : o.0 ≡ v = one_at s.views id o.0 v (subst (λ (z : ℕ). get_elem? s.views z ≡ some o.0) is o.2) at in (
                  both,
                  o.1,
                  subst (λ (z : ℕ). get_elem? views2 z ≡ some both) (sym is) (set_else views1 other id gone id_apart ∙ set_here s.views id both (below s.views id v at)),
                  at_longer v.known w.known q o.1 (subst (λ ks. get_elem? ks q ≡ some o.1) (ap (λ (z : View B). z.known) v_is) o.3),
                  o.4,
                ))
                (λ ne2. (o.0, o.1, set_else views1 other (r.place a).0 gone ne ∙ set_else s.views id (r.place a).0 both ne2 ∙ o.2, o.3, o.4))));
            within = λ i x e p y f. cases (Contains v0.seated y.actor) i x e
                (λ _ q. absurd (not_there p y (subst (λ (z : View B). get_elem? z.known p ≡ some y) (sym q) f)))
                (λ z q. ⊎_elim (λ t. names.within id v at p y t) (λ t. names.within other w there t.0 y t.2) (at_append_or v.known w.known p y (subst (λ (z : View B). get_elem? z.known p ≡ some y) (sym q) f)))
                (λ _ ne h. names.within i x h p y f);
            named = names.named;
          },
        );
      }

  -- a view knows each of these actors
  abbrev KnowsAll : View B → List Actor → Type 0
  KnowsAll v actors = (a : Actor) → Contains actors a → (p : ℕ) × (k : Known B) × (get_elem? v.known p ≡ some k) × (k.actor ≡ a)

  -- where a seat knows each actor, and holds nothing, the wire is at home
  is_home : (actors : List Actor) (s : Table B) (id : ℕ) (v : View B) → Seen (IsRuled actors) id v s → v.held ≡ None → KnowsAll v actors
      → (journal : List (JournalEntry B)) × (s.homes ≡ some (Some journal) ∷ []) × ((p : ℕ) (k : Known B) → get_elem? v.known p ≡ some k → IsTrueOf journal k) × AreNamed actors journal
  is_home actors s id v seen free all =
      let r = seen.0 in let at = seen.1 in let v0 = r.first.0 in let names = r.first.2 in
      let listed : (a : Actor) → Contains v0.seated a → Contains actors a = λ a h. subst (λ xs. Contains xs a) names.order (Contains-append_left v0.seated v0.unseated a h) in (
        r.journal,
        ⊎_elim (λ home. home.slot)
            (λ away. absurd (
            let found = all away.about.actor (listed away.about.actor (names.within away.holder away.sees away.there 0 away.about away.knows)) in
            let here = ap r.place (sym found.3) ∙ (r.fits id v at found.0 found.1 found.2).1 in
            let is_id : away.holder ≡ id = ap (λ (z : ℕ × ℕ). z.0) (sym (r.fits away.holder away.sees away.there 0 away.about away.knows).1 ∙ here) in
            not_both r.journal v.held (ap (λ (z : View B). z.held) (one_at s.views id v away.sees at (subst (λ (y : ℕ). get_elem? s.views y ≡ some away.sees) is_id away.there)) ∙ away.holds) free))
            r.wire,
        (λ p k e. (r.fits id v at p k e).0),
        all_weaker (λ e. Contains v0.seated (actor_of e)) (λ e. Contains actors (actor_of e)) (λ e h. listed (actor_of e) h) r.journal names.named,
      )

  -- what the closed table and the places that ended say of the journal
  abbrev pub Closes : List Actor → List (PlaceState B) → List (JournalEntry B) → Type 0
  Closes actors places journal = ((i : ℕ) (p : PlaceState B) → get_elem? places i ≡ some p → IsPartOf journal p) × AreNamed actors journal

  pub closes : (key actors : List Actor) (v : View B) (id : ℕ) (words : List ℕ) (slots : List (Option (List (JournalEntry B)))) (places : List (PlaceState B)) → key ≡ actors → Final (Seen (IsRuled key) id v) words slots → v.held ≡ None
      → KnowsEach v places → All (Contains (map (λ (p : PlaceState B). p.actor) places)) actors
      → (journal : List (JournalEntry B)) × (get_elem? slots 0 ≡ some (Some journal)) × Closes actors places journal
  closes key actors v id words slots places same final free each all =
      let s = final.0 in
      let knows : KnowsAll v key = λ a h.
      let m = contains_at (map (λ (p : PlaceState B). p.actor) places) a (All-contains (Contains (map (λ (p : PlaceState B). p.actor) places)) actors a all (subst (λ xs. Contains xs a) same h)) in
      let p = at_unmap (λ (p : PlaceState B). p.actor) places m.0 a m.1 in
      let q = each m.0 p.0 p.1 in (q.0, known_of p.0, q.1, p.2) in
      let home = is_home key s id v final.1 free knows in (
        home.0,
        final.4 0 (Some home.0) (ap (λ hs. get_elem? hs 0) home.1),
        ((λ i p e. let q = each i p e in let is = home.2 q.0 (known_of p) q.1 in record { part_is = is.0; seen = is.1 }), subst (λ xs. AreNamed xs home.0) same home.3),
      )

  -- the same of the journal that was taken from the slot
  pub closed : (actors : List Actor) (slots : List (Option (List (JournalEntry B)))) (places : List (PlaceState B)) (j : List (JournalEntry B)) → ((journal : List (JournalEntry B)) × (get_elem? slots 0 ≡ some (Some journal)) × Closes actors places journal) → get_elem? slots 0 ≡ some (Some j) → Closes actors places j
  closed actors slots places j c at = subst (Closes actors places) (same_Some c.0 j (one_at slots 0 (Some c.0) (Some j) c.1 at)) c.2

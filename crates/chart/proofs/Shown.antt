-- The arrows of a past are exactly those of the draws and losses whose post is in the past before them.
use Rattle.std.proofs.Common.{◌≡◌, ◌<◌, ℕ, true, false, List, [], ◌∷◌, ◌++◌, length, Option, Some, None, refl, sym, ap, subst, ◌∙◌, inl, inr, arith, ◌↔◌, get_or, zero, suc}
use Rattle.std.proofs.lemmas.List.Elements.{Contains-append_cases, Contains-append_left, Contains-append_right}
use Rattle.std.proofs.lemmas.Option.{same_Some}
use Rattle.std.specs.List.{AllByRecursion, Contains}
use Rattle.std.specs.Option.{option_map, option_or, option_to_list}
use Rattle.journal.specs.declared.journal.Actor.{Actor}
use Rattle.journal.specs.declared.journal.JournalEntry.TheVariants.{Post, Draw, Lose, Local, Idle, Refused}
use Rattle.journal.specs.declared.journal.Packet.{Packet}
use Rattle.journal.specs.Part.{packet_of}
use Rattle.chart.specs.declared.packets.Sent.{Sent}
use Rattle.chart.specs.declared.shapes.Arrow.{Arrow}
use Rattle.chart.specs.declared.shapes.End.{End}
use Rattle.chart.specs.declared.shapes.End.TheVariants.{Drawn, Kept, Lost}
use Rattle.report.specs.Records.{ByteEntry}
use Rattle.chart.specs.Arrows.{IsArrow, IsPostedAs, arrow_of, arrow_to, arrows, ending_entry, packets_posted, sent, sent_at}

-- what is found is posted, and nothing newer
sent_is : (id : ℕ) (past : List ByteEntry) (s : Sent) → sent id past ≡ Some s → IsPostedAs id past s
unfolding sent
sent_is id [] s h = absurd cc
sent_is id (e ∷ before) s h = by_packet (packet_of id (packets_posted e)) refl h (sent_is id before s)
  where
    by_packet : (p : Option (Packet (List ℕ))) → packet_of id (packets_posted e) ≡ p → option_or (option_map (sent_at (length before)) p) (sent id before) ≡ Some s → (sent id before ≡ Some s → IsPostedAs id before s) → IsPostedAs id (e ∷ before) s
    by_packet (Some p) found here earlier = let same : sent_at (length before) p ≡ s = same_Some (sent_at (length before) p) s here in
        ([], before, e, p, record { split = refl; of_post = found; none_between = tt; is = sym same })
    by_packet None found here earlier = let r = earlier here in
        (e ∷ r.0, r.1, r.2, r.3, record { split = ap (λ (es : List ByteEntry). e ∷ es) r.4.split; of_post = r.4.of_post; none_between = (found, r.4.none_between); is = r.4.is })

-- what is posted, and nothing newer, is found
sent_found : (id : ℕ) (between earlier : List ByteEntry) (post : ByteEntry) (packet : Packet (List ℕ)) → packet_of id (packets_posted post) ≡ Some packet →
    AllByRecursion (λ e. packet_of id (packets_posted e) ≡ None) between → sent id (between ++ (post ∷ earlier)) ≡ Some (sent_at (length earlier) packet)
unfolding sent
sent_found id [] earlier post packet found none = rw found refl
sent_found id (e ∷ between) earlier post packet found none = rw (none.0) (sent_found id between earlier post packet found none.1)

-- an arrow of one more entry
grown : (e : ByteEntry) (past : List ByteEntry) (a : Arrow) → IsArrow past a → IsArrow (e ∷ past) a
grown e past a r =
    (e ∷ r.0, r.1, r.2, record { split = ap (λ (es : List ByteEntry). e ∷ es) r.3.split; is_posted = r.3.is_posted; is = r.3.is })

-- the arrow that an entry ends
ended_here : (before : List ByteEntry) (actor : Actor) (id : ℕ) (end : End) (a : Arrow) (found : Option Sent) → sent id before ≡ found →
    option_map (arrow_of (length before) actor id end) found ≡ Some a → IsArrow (ending_entry actor id end ∷ before) a
ended_here before actor id end a None is h = absurd cc
ended_here before actor id end a (Some s) is h =
    let same : arrow_of (length before) actor id end s ≡ a = same_Some (arrow_of (length before) actor id end s) a h in
    subst (λ (b : Arrow). IsArrow (ending_entry actor id end ∷ before) b) same ([], before, s, record { split = refl; is_posted = sent_is id before s is; is = refl })

ends : (e : ByteEntry) (before : List ByteEntry) (a : Arrow) → arrow_to e before ≡ Some a → IsArrow (e ∷ before) a
ends (Draw actor id true) before a h = ended_here before actor id Kept a (sent id before) refl h
ends (Draw actor id false) before a h = ended_here before actor id Drawn a (sent id before) refl h
ends (Lose actor id) before a h = ended_here before actor id Lost a (sent id before) refl h
ends (Post actor first letters lost) before a h = absurd cc
ends (Local actor input) before a h = absurd cc
ends (Idle actor) before a h = absurd cc
ends (Refused actor) before a h = absurd cc

-- what one arrow or none contains
of_one : (found : Option Arrow) (a : Arrow) → Contains (option_to_list found) a → found ≡ Some a
of_one None a h = absurd (omega (arith, h.1))
of_one (Some b) a h = ap (λ (x : Arrow). Some x) (at_front b a h.0 h.1 h.2)
  where
    at_front : (b a : Arrow) (k : ℕ) → k < length (b ∷ []) → get_or (b ∷ []) k a ≡ a → b ≡ a
    at_front b a zero within is = is
    at_front b a (suc k) within is = absurd (omega (arith, within))

-- each arrow is one
arrow_is : (past : List ByteEntry) (a : Arrow) → Contains (arrows past) a → IsArrow past a
unfolding arrows
arrow_is [] a h = absurd (omega (arith, h.1))
arrow_is (e ∷ before) a h =
    let older : Contains (arrows before) a → IsArrow (e ∷ before) a = λ k. grown e before a (arrow_is before a k) in
    elim (Contains-append_cases (arrows before) (option_to_list (arrow_to e before)) a h) [
      | inl old ↦ older old
      | inr new ↦ ends e before a (of_one (arrow_to e before) a new)
    ]

-- an entry that ends a packet gives its arrow
gives : (before : List ByteEntry) (actor : Actor) (id : ℕ) (end : End) (s : Sent) → sent id before ≡ Some s →
    arrow_to (ending_entry actor id end) before ≡ Some (arrow_of (length before) actor id end s)
gives before actor id Drawn s is = rw is refl
gives before actor id Kept s is = rw is refl
gives before actor id Lost s is = rw is refl

contains_at : (later before : List ByteEntry) (a : Arrow) (s : Sent) → sent a.id before ≡ Some s → a ≡ arrow_of (length before) a.receiver a.id a.end s →
    Contains (arrows (later ++ (ending_entry a.receiver a.id a.end ∷ before))) a
unfolding arrows
contains_at [] before a s found is =
    let given : arrow_to (ending_entry a.receiver a.id a.end) before ≡ Some a = gives before a.receiver a.id a.end s found ∙ ap (λ (x : Arrow). Some x) (sym is) in
    Contains-append_right (arrows before) (option_to_list (arrow_to (ending_entry a.receiver a.id a.end) before)) a (rw given (zero, omega arith, refl))
contains_at (e ∷ later) before a s found is =
    Contains-append_left (arrows (later ++ (ending_entry a.receiver a.id a.end ∷ before))) _ a (contains_at later before a s found is)

arrow_there : (past : List ByteEntry) (a : Arrow) → IsArrow past a → Contains (arrows past) a
arrow_there past a r =
    let newest = r.3.is_posted in
    let posted_so = newest.4 in
    let found : sent a.id r.1 ≡ Some r.2 = rw (posted_so.split, posted_so.is) (sent_found a.id newest.0 newest.1 newest.2 newest.3 posted_so.of_post posted_so.none_between) in
    subst (λ (es : List ByteEntry). Contains (arrows es) a) (sym r.3.split) (contains_at r.0 r.1 a r.2 found r.3.is)

-- exactly these
pub exactly : (past : List ByteEntry) (a : Arrow) → Contains (arrows past) a ↔ IsArrow past a
exactly past a = (arrow_is past a, arrow_there past a)

-- What the steps of a turn make of a ledger.
use Rattle.std.proofs.Common.{◌≡◌, ◌≤◌, ◌<◌, subst, ℕ, ◌+◌, ◌-◌, false, Option, List, [], ◌∷◌, ◌++◌, length, take, map, refl, sym, ap, ◌∙◌, arith}
use Rattle.std.specs.Prelude.{nat_eq}
use Rattle.std.proofs.lemmas.List.{length-append, length-take-le, map-append}
use Rattle.std.proofs.lemmas.List.Elements.{filter-append}
use Rattle.std.proofs.lemmas.List.Sums.{sum_by-append}
use Rattle.journal.specs.declared.journal.Actor.{Actor}
use Rattle.journal.specs.declared.journal.JournalEntry.{JournalEntry}
use Rattle.journal.specs.declared.journal.JournalEntry.TheVariants.{Post, Refused}
use Rattle.journal.specs.declared.journal.Letter.{Letter}
use Rattle.journal.specs.declared.journal.Packet.{Packet}
use Rattle.journal.specs.declared.journal.Turn.{Turn}
use Rattle.journal.specs.declared.ledger.Ledger.{Ledger}
use Rattle.journal.specs.declared.ledger.Ready.{Ready}
use Rattle.journal.specs.declared.place.PacketPlace.{PacketPlace}
use Rattle.journal.specs.declared.pool.Sums.{Sums}
use Rattle.journal.specs.declared.queues.Queues.{Queues}
use Rattle.journal.specs.Actors.{same_actor}
use Rattle.journal.specs.Ledger.{found_in, entry_by, IsReady, Waits, IsLedger}
use Rattle.journal.specs.Orderly.{lost_of, pool_bytes, fitting_count}
use Rattle.journal.specs.Order.{waiter_of, addressed}
use Rattle.journal.specs.Places.{IsFound, packet_as, packets_posted, placed, queue_of, sent_to}
use Rattle.journal.specs.Pool.{past, pool, numbered_letters, fitting, waiting, letters_posted, letter_bytes}
use Rattle.journal.specs.Refusals.{MayBeRefused}
use Rattle.journal.specs.Turns.{posting, entry_of}
use Rattle.journal.proofs.Kept.{IsKept-post, IsKept-input, IsKept-refused, entry_by-entry_of}
use Rattle.journal.proofs.Lists.{length-numbered, past-push, numbered-take}
use Rattle.journal.proofs.Placing.{found_later, places_later, places_append, places_for, post_stands, posted_count}
use Rattle.journal.proofs.Waiters.{waiters-numbered}

module _ {B : Type 0} where
  bytes-numbered : (size : B → ℕ) (first : ℕ) (a : Actor) (letters : List (Letter B)) → pool_bytes size (numbered_letters first a letters) ≡ letter_bytes size letters
  bytes-numbered size first a [] = refl
  bytes-numbered size first a (l ∷ letters) =
      let rest = bytes-numbered size (first + 1) a letters in
      let packets = sum_by-append (λ p. size p.body) (packet_as first a l ∷ []) (numbered_letters (first + 1) a letters) in
      let posted = sum_by-append (λ x. size x.body) (l ∷ []) letters in
      omega (arith, rest, packets, posted)

  -- letters came to the end of a pool
  Waits-more : (size : B → ℕ) (journal : List (JournalEntry B)) (packets : List (Packet B)) (queues after : Queues) (waits now : Sums) (first count lost : ℕ) (a : Actor) (letters : List (Letter B)) →
      Waits size journal packets queues waits → first ≡ length (packets_posted journal) → count ≤ length letters →
      ((receiver : Actor) → queue_of after receiver ≡ queue_of queues receiver ++ sent_to receiver (placed first a (take count letters))) →
      after.order ≡ queues.order ++ addressed first (take count letters) →
      now.letters ≡ waits.letters + count → now.bytes ≡ waits.bytes + letter_bytes size (take count letters) →
      Waits size (journal ++ Post a first letters lost ∷ []) (packets ++ numbered_letters first a (take count letters)) after now
  Waits-more size journal packets queues after waits now first count lost a letters is next within queues_are order_is letters_are bytes_are =
      let more = numbered_letters first a (take count letters) in
      let long = length-numbered first a (take count letters) in
      let taken = length-take-le count letters within in
      let bytes = bytes-numbered size first a (take count letters) in
      record {
        letters_are = omega (arith, letters_are, is.letters_are, long, taken) ∙ sym (length-append packets more);
        bytes_are = omega (arith, bytes_are, is.bytes_are, bytes) ∙ sym (sum_by-append (λ p. size p.body) packets more);
        order_is =
            order_is
            ∙ ap (λ ws. ws ++ addressed first (take count letters)) is.order_is
            ∙ ap (λ ws. map waiter_of packets ++ ws) (sym (waiters-numbered first a (take count letters)))
            ∙ sym (map-append waiter_of packets more);
        queues_are = λ r. rw (queues_are r, filter-append (λ p. same_actor p.to r) packets more)
            (places_append (journal ++ Post a first letters lost ∷ []) (queue_of queues r) (sent_to r (placed first a (take count letters))) (waiting r packets) (waiting r more)
            (places_later journal (Post a first letters lost ∷ []) (queue_of queues r) (waiting r packets) (is.queues_are r))
            (places_for (journal ++ Post a first letters lost ∷ []) r (placed first a (take count letters)) more (post_stands journal first count lost a letters next)));
      }

  -- a journal grew by an entry
  Waits-later : (size : B → ℕ) (journal more : List (JournalEntry B)) (packets : List (Packet B)) (queues : Queues) (waits : Sums) → Waits size journal packets queues waits → Waits size (journal ++ more) packets queues waits
  Waits-later size journal more packets queues waits is = record {
    letters_are = is.letters_are;
    bytes_are = is.bytes_are;
    order_is = is.order_is;
    queues_are = λ a. places_later journal more (queue_of queues a) (waiting a packets) (is.queues_are a);
  }

  pub record IsPosted {G : Type 0} (size : B → ℕ) (a : Actor) (letters : List (Letter B)) (start after : Ledger B G) : Type 0 where
    pub kept : IsLedger size after
    pub entries_are : after.entries.items ≡ start.entries.items ++ posting size a letters (past start.entries.items)

  posting_some : (size : B → ℕ) (a : Actor) (letters : List (Letter B)) (before : List (JournalEntry B)) (next lost : ℕ) → false ≡ nat_eq (length letters) 0 → next ≡ letters_posted before → lost ≡ lost_of size (pool before) letters →
      Post a next letters lost ∷ [] ≡ posting size a letters before
  posting_some size a [] before next lost some next_is lost_is = cc
  posting_some size a (l ∷ letters) before next lost some next_is lost_is =
      ap (λ n. Post a n (l ∷ letters) lost ∷ []) next_is ∙ ap (λ n. Post a (letters_posted before) (l ∷ letters) n ∷ []) lost_is

  -- a ledger after a post
  pub posts : {G : Type 0} (size : B → ℕ) (a : Actor) (letters : List (Letter B)) (start prepared after : Ledger B G) (ready : Ready) → false ≡ nat_eq (length letters) 0 → IsLedger size start → IsReady size a letters start prepared ready →
      after.entries.items ≡ prepared.entries.items ++ Post a prepared.entries.next prepared.entries.coming ready.lost ∷ [] → after.entries.coming ≡ [] →
      after.entries.next ≡ prepared.entries.next + length prepared.entries.coming → after.queues ≡ prepared.queues → after.posted ≡ ready.posted → after.waiting ≡ ready.waiting →
      IsPosted size a letters start after
  posts size a letters start prepared after ready some kept is entries_are coming_are next_is queues_are posted_are waiting_are =
      let before = past start.entries.items in
      let placed = is.are_placed in
      let entry : JournalEntry B = Post a start.posted.letters letters ready.lost in
      let now : after.entries.items ≡ start.entries.items ++ entry ∷ [] =
      entries_are
      ∙ ap (λ ls. prepared.entries.items ++ Post a prepared.entries.next ls ready.lost ∷ []) is.coming_is
      ∙ ap (λ es. es ++ Post a prepared.entries.next letters ready.lost ∷ []) is.entries_same
      ∙ ap (λ n. start.entries.items ++ Post a n letters ready.lost ∷ []) (is.next_same ∙ kept.next) in
      let past_now : past after.entries.items ≡ entry ∷ before = ap past now ∙ past-push start.entries.items entry in
      let lost_is : ready.lost ≡ lost_of size (pool before) letters =
      placed.lost_is
      ∙ ap (λ n. length letters - n) placed.count_is
      ∙ ap (λ n. length letters - fitting_count size n start.waiting.bytes letters) kept.waits.letters_are
      ∙ ap (λ n. length letters - fitting_count size (length (pool before)) n letters) kept.waits.bytes_are in
      let fits : length letters - ready.lost ≡ placed.count = omega (arith, placed.lost_is, placed.count_within) in
      let come : fitting start.posted.letters a letters ready.lost ≡ numbered_letters start.posted.letters a (take placed.count letters) =
      ap (λ n. take n (numbered_letters start.posted.letters a letters)) fits ∙ sym (numbered-take placed.count start.posted.letters a letters) in
      let waits =
      Waits-more size start.entries.items (pool before) start.queues prepared.queues start.waiting ready.waiting start.posted.letters placed.count ready.lost
      a letters kept.waits (kept.kept.next_is ∙ posted_count start.entries.items) placed.count_within placed.queues_are placed.order_is placed.waiting_letters placed.waiting_bytes in
      record {
        kept = record {
          kept = rw (past_now, posted_are) (IsKept-post size before start.posted.letters start.posted.bytes ready.lost a letters ready.posted kept.kept lost_is placed.summed);
          waits = rw (past_now, now, queues_are, waiting_are, come) waits;
          coming = coming_are;
          next = omega (arith, next_is, is.next_same, kept.next, ap length is.coming_is, placed.summed.letters_are, ap (λ (s : Sums). s.letters) posted_are);
          room = λ may. absurd (subst (λ (es : List (JournalEntry B)). MayBeRefused es) past_now may);
        };
        entries_are = now ∙ ap (λ es. start.entries.items ++ es) (posting_some size a letters before start.posted.letters ready.lost some kept.kept.next_is lost_is);
      }

  -- a ledger after an input
  pub record IsTaken {G : Type 0} (start after : Ledger B G) (size : B → ℕ) (found : Option PacketPlace) (step : Turn) : Type 0 where
    pub kept : IsLedger size after
    pub found_is : IsFound after.entries.items found (found_in step (pool (past start.entries.items)))

  pub takes : {G : Type 0} (size : B → ℕ) (start after : Ledger B G) (step : Turn) (found : Option PacketPlace) (middle : List (JournalEntry B)) (entry : JournalEntry B) → IsLedger size start →
      IsFound start.entries.items found (found_in step (pool (past start.entries.items))) →
      Waits size start.entries.items (pool (entry_of step (past start.entries.items) ∷ past start.entries.items)) after.queues after.waiting → after.posted ≡ start.posted →
      entry ≡ entry_by step found → middle ≡ start.entries.items → after.entries.items ≡ middle ++ entry ∷ [] → after.entries.coming ≡ [] → after.entries.next ≡ start.entries.next → 0 < after.entries.room → IsTaken start after size found step
  takes size start after step found middle entry kept found_is waits posted_are entry_is middle_is entries_are coming_are next_is room =
      let before = past start.entries.items in
      let same : entry ≡ entry_of step before = entry_is ∙ entry_by-entry_of start.entries.items before step found found_is in
      let now : after.entries.items ≡ start.entries.items ++ entry_of step before ∷ [] = entries_are ∙ ap (λ es. es ++ entry ∷ []) middle_is ∙ ap (λ e. start.entries.items ++ e ∷ []) same in
      let past_now : past after.entries.items ≡ entry_of step before ∷ before = ap past now ∙ past-push start.entries.items (entry_of step before) in
      record {
        kept = record {
          kept = rw (past_now, posted_are) (IsKept-input size before start.posted.letters start.posted.bytes step kept.kept);
          waits = rw (past_now, now) (Waits-later size start.entries.items (entry_of step before ∷ []) (pool (entry_of step before ∷ before)) after.queues after.waiting waits);
          coming = coming_are;
          next = next_is ∙ kept.next ∙ ap (λ (s : Sums). s.letters) (sym posted_are);
          room = λ may. room;
        };
        found_is = rw now (found_later start.entries.items (entry_of step before ∷ []) found (found_in step (pool before)) found_is);
      }

  -- a ledger after the refusal of an input
  pub refuses : {G : Type 0} (size : B → ℕ) (start after : Ledger B G) (a : Actor) → IsLedger size start → after.entries.items ≡ start.entries.items ++ Refused a ∷ [] → after.entries.coming ≡ [] → after.entries.next ≡ start.entries.next → after.queues ≡ start.queues → after.posted ≡ start.posted →
      after.waiting ≡ start.waiting → IsLedger size after
  refuses size start after a kept entries_are coming_are next_is queues_are posted_are waiting_are =
      let before = past start.entries.items in
      let past_now : past after.entries.items ≡ Refused a ∷ before = ap past entries_are ∙ past-push start.entries.items (Refused a) in
      record {
        kept = rw (past_now, posted_are) (IsKept-refused size before start.posted.letters start.posted.bytes a kept.kept);
        waits = rw (past_now, entries_are, queues_are, waiting_are) (Waits-later size start.entries.items (Refused a ∷ []) (pool before) start.queues start.waiting kept.waits);
        coming = coming_are;
        next = next_is ∙ kept.next ∙ ap (λ (s : Sums). s.letters) (sym posted_are);
        room = λ may. absurd (subst (λ (es : List (JournalEntry B)). MayBeRefused es) past_now may);
      }

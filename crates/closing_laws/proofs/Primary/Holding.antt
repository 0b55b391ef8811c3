-- How a switch stays served as the primary tells it more: answers alone, or the commands that are due.
use Rattle.std.proofs.Common.{◌≡◌, ◌≤◌, ◌<◌, ◌⊎◌, inl, inr, ℕ, ◌+◌, ◌-◌, Bool, true, false, List, [], ◌∷◌, ◌++◌, sym, ◌∙◌, ap, subst, arith, append-nil}
use Rattle.std.specs.Prelude.{Some, count_by, filter, nat_le, take, drop, if◌then◌else◌}
use Rattle.std.specs.List.{AllByRecursion, range_with_len}
use Rattle.std.proofs.lemmas.Bool.{cases_lt}
use Rattle.std.proofs.lemmas.List.Sums.{sum_by-append}
use Rattle.of_types.specs.declared.message.Event.{Event}
use Rattle.of_types.specs.declared.setup.Setup.{Setup}
use Rattle.list_facts.specs.Lists.{IsIn}
use Rattle.list_facts.proofs.Elements.{in_left, in_right}
use Rattle.journal.proofs.All.{all_append}
use Rattle.dispatcher.specs.Marks.{has_result, is_confirmed}
use Rattle.of_switch.specs.State.{SwitchState, events_in, life_of}
use Rattle.group_controller.specs.State.{ControllerState}
use Rattle.run_spec.specs.declared.messages.Message.{Message}
use Rattle.closing_laws.specs.Serving.{AreCommanded, AreEventsTold, AreUntold, IsMastered, IsOlder, IsSaidBy, IsSaidIn, IsAttended, IsUnasked, acknowledges_events, asks_role, commands_said, events_said, is_reply, is_request, logged_of, processed_by, sent_of, settled_by, letters_told_by}
use Rattle.closing_laws.proofs.Primary.Numbering.{in_range, range_joined}
use Rattle.closing_laws.proofs.Primary.Telling.{AreQuiet, commands_said-append}

module _ (kinds : List ℕ) (setup : Setup) (c c' : ControllerState) (s : ℕ) (sw : SwitchState) where
  -- what the next state of the primary keeps for a switch
  pub record Keeps : Type 0 where
    pub view : c'.vr.view ≡ c.vr.view
    pub me : c'.vr.me ≡ c.vr.me
    pub confirmed : is_confirmed c'.marks s ≡ is_confirmed c.marks s
    pub marks : (i : ℕ) → has_result c'.marks s (life_of sw) i ≡ has_result c.marks s (life_of sw) i
    pub logged : logged_of c' s sw ≡ logged_of c s sw

  -- its processed events are as before, or it is told of them
  abbrev pub IsAcknowledged : List Message → Type 0
  IsAcknowledged letters = (processed_by c' s sw ≡ processed_by c s sw) ⊎ IsIn (acknowledges_events (life_of sw) (processed_by c' s sw)) letters

  module _ (k : Keeps) (out in_ letters : List Message) where
    no_more : count_by is_request letters ≡ 0 → (xs : List Message) → count_by is_request xs ≡ 0 → count_by is_request (xs ++ letters) ≡ 0
    no_more none xs h = let whole = sum_by-append (λ (m : Message). if is_request m then 1 else 0) xs letters in omega (arith, whole, none, h)

    abbrev IsRole : ControllerState → List Message → Type 0
    IsRole now waiting = IsUnasked now s sw waiting in_ ⊎ (IsMastered now s sw waiting in_ × AreEventsTold now s sw waiting in_)

    unasked_more : count_by is_request letters ≡ 0 → IsUnasked c s sw out in_ → IsUnasked c' s sw (out ++ letters) in_
    unasked_more none u = record {
      older = subst (λ (v : ℕ). IsOlder sw.fence.generation v) (sym k.view) u.older;
      rest = u.rest ++ letters;
      first = ap (λ (z : List Message). z ++ letters) u.first ∙ ap (λ (v : ℕ). asks_role v ∷ (u.rest ++ letters)) (sym k.view);
      once = no_more none u.rest u.once;
      silent = u.silent;
      unconfirmed = k.confirmed ∙ u.unconfirmed;
    }

    asked_more : count_by is_request letters ≡ 0 → IsMastered c s sw out in_ → IsMastered c' s sw (out ++ letters) in_
    asked_more none a = record {
      generation = a.generation ∙ ap (λ (v : ℕ). Some v) (sym k.view);
      master = a.master ∙ ap (λ (v : ℕ). Some v) (sym k.me);
      no_more = no_more none out a.no_more;
      replies = subst (λ (b : Bool). count_by is_reply in_ + (if b then 1 else 0) ≡ 1) (sym k.confirmed) a.replies;
    }

    events_more : IsAcknowledged letters → AreEventsTold c s sw out in_ → AreEventsTold c' s sw (out ++ letters) in_
    events_more acks t = record {
      coming = subst (λ (n : ℕ). filter (λ e. nat_le n e.number) (events_said s in_) ≡ take (sent_of sw - n) (drop n (events_in sw (life_of sw)))) (sym k.logged) t.coming;
      stands = t.stands;
      acknowledged = λ less. by_acks acks less;
    }
      where
        by_acks : IsAcknowledged letters → sw.buffer.cleared < processed_by c' s sw →
            IsIn (acknowledges_events (life_of sw) (processed_by c' s sw)) (out ++ letters) ⊎ ((e : Event) × IsIn e (events_said s in_) × (e.number < processed_by c' s sw))
        by_acks (inr h) less = inl (in_right (acknowledges_events (life_of sw) (processed_by c' s sw)) out letters h)
        by_acks (inl same) less = elim (t.acknowledged (omega (arith, same, less))) [
          | inl h ↦ inl (in_left (acknowledges_events (life_of sw) (processed_by c' s sw)) out letters (subst (λ (n : ℕ). IsIn (acknowledges_events (life_of sw) n) out) (sym same) h))
          | inr w ↦ inr (w.0, w.1, omega (arith, same, w.2))
        ]

    pub role_more : count_by is_request letters ≡ 0 → IsAcknowledged letters → IsRole c out → IsRole c' (out ++ letters)
    role_more none acks (inl u) = inl (unasked_more none u)
    role_more none acks (inr a) = inr (asked_more none a.0, events_more acks a.1)

    said_more : AllByRecursion (λ m. IsSaidBy c.vr.view m) letters → AllByRecursion (λ m. IsSaidBy c.vr.view m) out → AllByRecursion (λ m. IsSaidBy c'.vr.view m) (out ++ letters)
    said_more new old = subst (λ (v : ℕ). AllByRecursion (λ m. IsSaidBy v m) (out ++ letters)) (sym k.view) (all_append (λ m. IsSaidBy c.vr.view m) out letters old new)

    heard_still : AllByRecursion (λ m. IsSaidIn c.vr.view (life_of sw) m) in_ → AllByRecursion (λ m. IsSaidIn c'.vr.view (life_of sw) m) in_
    heard_still h = subst (λ (v : ℕ). AllByRecursion (λ m. IsSaidIn v (life_of sw) m) in_) (sym k.view) h

    module _ (was : IsAttended kinds setup c s sw out in_) (acks : IsAcknowledged letters) (settled : settled_by kinds setup c s sw ≤ settled_by kinds setup c' s sw) where
      -- it is told answers
      pub answered : AreQuiet c.vr.view letters → letters_told_by kinds setup c' s sw ≡ letters_told_by kinds setup c s sw → IsAttended kinds setup c' s sw (out ++ letters) in_
      answered quiet told = record {
        said = said_more quiet.said was.said;
        heard = heard_still was.heard;
        role = role_more quiet.no_requests acks was.role;
        confirmed = λ h. commanded (was.confirmed (sym k.confirmed ∙ h));
        unconfirmed = λ h. untold (was.unconfirmed (sym k.confirmed ∙ h));
        marks = λ i h. let r = was.marks i (sym (k.marks i) ∙ h) in omega (arith, r, told);
        results = λ i h. let r = was.results i h in omega (arith, r, told);
      }
        where
          same : commands_said (life_of sw) (out ++ letters) ≡ commands_said (life_of sw) out
          same = commands_said-append (life_of sw) out letters ∙ ap (λ (z : List ℕ). commands_said (life_of sw) out ++ z) (quiet.no_commands (life_of sw)) ∙ append-nil (commands_said (life_of sw) out)

          commanded : AreCommanded kinds setup c s sw out in_ → AreCommanded kinds setup c' s sw (out ++ letters) in_
          commanded q = record {
            next = q.next;
            waits = same ∙ q.waits ∙ ap (λ (n : ℕ). range_with_len q.next (n - q.next)) (sym told);
            in_order = λ less. q.in_order (omega (arith, told, less));
            accounted = λ i low high. elim (q.accounted i (omega (arith, low, settled)) (omega (arith, high, told))) [
              | inl m ↦ inl (k.marks i ∙ m)
              | inr (inl h) ↦ inr (inl (subst (λ (z : List ℕ). IsIn i z) (sym same) h))
              | inr (inr h) ↦ inr (inr h)
            ];
          }

          untold : AreUntold c s sw out in_ → AreUntold c' s sw (out ++ letters) in_
          untold u = record { no_commands = same ∙ u.no_commands; no_results = u.no_results; no_marks = λ i. k.marks i ∙ u.no_marks i }

      -- it is told the commands that are due, where it has confirmed its role
      pub commanded : AllByRecursion (λ m. IsSaidBy c.vr.view m) letters → count_by is_request letters ≡ 0 →
          letters_told_by kinds setup c s sw ≡ settled_by kinds setup c' s sw → settled_by kinds setup c' s sw ≤ letters_told_by kinds setup c' s sw → settled_by kinds setup c' s sw ≤ sw.results.executed →
          (is_confirmed c.marks s ≡ true → commands_said (life_of sw) letters ≡ range_with_len (settled_by kinds setup c' s sw) (letters_told_by kinds setup c' s sw - settled_by kinds setup c' s sw)) →
          (is_confirmed c.marks s ≡ false → commands_said (life_of sw) letters ≡ []) → IsAttended kinds setup c' s sw (out ++ letters) in_
      commanded said none due least done mine none_of = record {
        said = said_more said was.said;
        heard = heard_still was.heard;
        role = role_more none acks was.role;
        confirmed = λ h. goes_on (sym k.confirmed ∙ h) (was.confirmed (sym k.confirmed ∙ h));
        unconfirmed = λ h. untold (sym k.confirmed ∙ h) (was.unconfirmed (sym k.confirmed ∙ h));
        marks = λ i h. let r = was.marks i (sym (k.marks i) ∙ h) in omega (arith, r, due, least);
        results = λ i h. let r = was.results i h in omega (arith, r, due, least);
      }
        where
          life : ℕ
          life = life_of sw

          a : ℕ
          a = settled_by kinds setup c' s sw

          b : ℕ
          b = letters_told_by kinds setup c' s sw

          there : is_confirmed c.marks s ≡ true → (i : ℕ) → a ≤ i → i < b → IsIn i (commands_said life (out ++ letters))
          there h i low high =
              subst (λ (z : List ℕ). IsIn i z) (sym (commands_said-append life out letters))
              (in_right i (commands_said life out) (commands_said life letters) (subst (λ (z : List ℕ). IsIn i z) (sym (mine h)) (in_range a (b - a) i low (omega (arith, low, high)))))

          both : is_confirmed c.marks s ≡ true → (old : List ℕ) → commands_said life out ≡ old → commands_said life (out ++ letters) ≡ old ++ range_with_len a (b - a)
          both h old is = commands_said-append life out letters ∙ ap (λ (z : List ℕ). z ++ commands_said life letters) is ∙ ap (λ (z : List ℕ). old ++ z) (mine h)

          by_next : is_confirmed c.marks s ≡ true → (q : AreCommanded kinds setup c s sw out in_) → (q.next < a) ⊎ (a ≤ q.next) → AreCommanded kinds setup c' s sw (out ++ letters) in_
          by_next h q (inl less) = record {
            next = q.next;
            waits = both h (range_with_len q.next (a - q.next)) (q.waits ∙ ap (λ (n : ℕ). range_with_len q.next (n - q.next)) due) ∙ range_joined q.next a b (omega (arith, less)) least;
            in_order = λ more. q.in_order (omega (arith, due, less));
            accounted = λ i low high. inr (inl (there h i low high));
          }
          by_next h q (inr past) = record {
            next = a;
            waits =
                let none : letters_told_by kinds setup c s sw - q.next ≡ 0 = omega (arith, due, past) in
                both h [] (q.waits ∙ ap (λ (n : ℕ). range_with_len q.next n) none);
            in_order = λ more. done;
            accounted = λ i low high. inr (inl (there h i low high));
          }

          goes_on : is_confirmed c.marks s ≡ true → AreCommanded kinds setup c s sw out in_ → AreCommanded kinds setup c' s sw (out ++ letters) in_
          goes_on h q = by_next h q (cases_lt q.next a)

          untold : is_confirmed c.marks s ≡ false → AreUntold c s sw out in_ → AreUntold c' s sw (out ++ letters) in_
          untold h u = record {
            no_commands = commands_said-append life out letters ∙ ap (λ (z : List ℕ). z ++ commands_said life letters) u.no_commands ∙ none_of h;
            no_results = u.no_results;
            no_marks = λ i. k.marks i ∙ u.no_marks i;
          }

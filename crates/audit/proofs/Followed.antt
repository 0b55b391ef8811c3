-- While the lines of a log are judged, one after another.
use Rattle.std.proofs.Common.{◌≡◌, ◌<◌, ◌≤◌, ℕ, ◌+◌, Bool, true, false, not, ◌&&◌, List, ◌∷◌, [], ◌++◌, length, get_or, take, drop, Some, None, refl, sym, ap, subst, ◌∙◌, append-nil, append_assoc}
use Rattle.std.specs.List.{list_all}
use Rattle.std.proofs.lemmas.List.{drop_more, drop_all, take_more, take-append-drop}
use Rattle.vr_log.specs.declared.entry.Entry.{Entry}
use Rattle.vr_log.specs.declared.entry.Entry.TheVariants.{Received, Processed}
use Rattle.vr_log.specs.Log.{received, may_follow}
use Rattle.vr_log.proofs.Logs.{received-append}
use Rattle.app_core.specs.Issued.{commands_of}
use Rattle.report.specs.declared.record.Record.{Record}
use Rattle.audit.specs.declared.evidence.Evidence.{Evidence}
use Rattle.audit.specs.declared.following.Following.{Following}
use Rattle.audit.specs.Audit.{has_event_line, is_settled_line, entry_fails, log_fails, first_failing}
use Rattle.audit.specs.Following.{IsFollowingStart, Joins}
use Rattle.audit.specs.Judging.{IsEvidence, entry_fails_by}
use Rattle.audit.proofs.Judged.{entry_is}
use Rattle.audit.proofs.Standing.{IsSound, IsStanding, starts, stands_more, sound_more}

-- the first ones do not fail: the first of all that does is sought behind them
abbrev pub Follows : Evidence → List Entry → ℕ → ℕ → ℕ → Following → Type 0
Follows ev log line number i f =
    (kinds : List ℕ) (r : Record) → IsEvidence kinds r ev → r.log ≡ log →
    IsStanding (take i log) f × (first_failing number (log_fails kinds r (take i log) (drop i log)) ≡ first_failing line (log_fails kinds r [] log))

pub follows_starts : (ev : Evidence) (log : List Entry) (line : ℕ) (f : Following) → IsFollowingStart f → Follows ev log line line 0 f
follows_starts ev log line f start kinds r evident is = (starts f start, refl)

may_true : (m x : Bool) → not (m && x) ≡ false → m ≡ true
may_true true x h = refl
may_true false x h = absurd cc

-- a line that does not fail may follow
pub may_from : (kinds : List ℕ) (r : Record) (before : List Entry) (entry : Entry) → entry_fails kinds r before entry ≡ false → may_follow before entry ≡ true
may_from kinds r before (Received e) h = may_true (may_follow before (Received e)) (has_event_line r.switches e) h
may_from kinds r before (Processed j) h = may_true (may_follow before (Processed j)) (list_all (is_settled_line r.switches before) (commands_of kinds r.setup (received r.log) j)) h

module _ (ev : Evidence) (log : List Entry) (line number i : ℕ) (f : Following) (entry : Entry) (lt : i < length log) (at : entry ≡ get_or log i entry) (follows : Follows ev log line number i f) where
  back : drop i log ≡ entry ∷ drop (i + 1) log
  back = drop_more log i entry lt ∙ ap (λ (e : Entry). e ∷ drop (i + 1) log) (sym at)

  whole : log ≡ take i log ++ entry ∷ drop (i + 1) log
  whole = sym (take-append-drop i log) ∙ ap (λ (l : List Entry). take i log ++ l) back

  front : take (i + 1) log ≡ take i log ++ entry ∷ []
  front = take_more log i entry lt ∙ ap (λ (e : Entry). take i log ++ e ∷ []) (sym at)

  fails_is : (kinds : List ℕ) (r : Record) → IsEvidence kinds r ev → r.log ≡ log → entry_fails_by ev f entry ≡ entry_fails kinds r (take i log) entry
  fails_is kinds r evident is = entry_is kinds r ev evident (take i log) (drop (i + 1) log) f (follows kinds r evident is).0 entry (is ∙ whole)

  lines_are : (kinds : List ℕ) (r : Record) (b : Bool) → entry_fails kinds r (take i log) entry ≡ b → log_fails kinds r (take i log) (drop i log) ≡ b ∷ log_fails kinds r (take (i + 1) log) (drop (i + 1) log)
  lines_are kinds r b is =
      ap (λ (l : List Entry). log_fails kinds r (take i log) l) back
      ∙ ap (λ (t : Bool). t ∷ log_fails kinds r (take i log ++ entry ∷ []) (drop (i + 1) log)) is
      ∙ ap (λ (l : List Entry). b ∷ log_fails kinds r l (drop (i + 1) log)) (sym front)

  pub follows_stops : (b : Bool) → b ≡ entry_fails_by ev f entry → b ≡ true → (kinds : List ℕ) (r : Record) → IsEvidence kinds r ev → r.log ≡ log → Some number ≡ first_failing line (log_fails kinds r [] log)
  follows_stops b is t kinds r evident same =
      sym (ap (λ l. first_failing number l) (lines_are kinds r true (sym (fails_is kinds r evident same) ∙ sym is ∙ t))) ∙ (follows kinds r evident same).1

  pub follows_on : (b : Bool) (new : Following) → b ≡ entry_fails_by ev f entry → b ≡ false → Joins f entry new → Follows ev log line (number + 1) (i + 1) new
  follows_on b new is fine joined kinds r evident same =
      let h = follows kinds r evident same in
      let ok : entry_fails kinds r (take i log) entry ≡ false = sym (fails_is kinds r evident same) ∙ sym is ∙ fine in (
        subst (λ (l : List Entry). IsStanding l new) (sym front) (stands_more (take i log) f new h.0 entry (may_from kinds r (take i log) entry ok) joined),
        sym (ap (λ l. first_failing number l) (lines_are kinds r false ok)) ∙ h.1,
      )

pub follows_ends : (ev : Evidence) (log : List Entry) (line number i : ℕ) (f : Following) → length log ≤ i → Follows ev log line number i f →
    (kinds : List ℕ) (r : Record) → IsEvidence kinds r ev → r.log ≡ log → None ≡ first_failing line (log_fails kinds r [] log)
follows_ends ev log line number i f le follows kinds r evident is =
    sym (ap (λ (l : List Entry). first_failing number (log_fails kinds r (take i log) l)) (drop_all i log le)) ∙ (follows kinds r evident is).1

-- a log of which no line fails
pub sound_all : (kinds : List ℕ) (r : Record) (line : ℕ) (before log : List Entry) → first_failing line (log_fails kinds r before log) ≡ None → IsSound (received before) → IsSound (received (before ++ log))
sound_all kinds r line before [] none sound = subst (λ (l : List Entry). IsSound (received l)) (sym (append-nil before)) sound
sound_all kinds r line before (entry ∷ log) none sound =
    subst (λ (l : List Entry). IsSound (received l)) (append_assoc before (entry ∷ []) log)
    (by (entry_fails kinds r before entry) refl none (λ n s. sound_all kinds r (line + 1) (before ++ entry ∷ []) log n s))
  where
    one : (e : Entry) → may_follow before e ≡ true → IsSound (received (before ++ e ∷ []))
    one (Received e) may = subst (λ l. IsSound l) (sym (received-append before (Received e ∷ []))) (sound_more e (received before) sound may)
    one (Processed j) may = subst (λ l. IsSound l) (sym (received-append before (Processed j ∷ []) ∙ append-nil (received before))) sound

    by : (b : Bool) → entry_fails kinds r before entry ≡ b → first_failing line (b ∷ log_fails kinds r (before ++ entry ∷ []) log) ≡ None →
        (first_failing (line + 1) (log_fails kinds r (before ++ entry ∷ []) log) ≡ None → IsSound (received (before ++ entry ∷ [])) → IsSound (received ((before ++ entry ∷ []) ++ log))) → IsSound (received ((before ++ entry ∷ []) ++ log))
    by true is h rest = absurd cc
    by false is h rest = rest h (one entry (may_from kinds r before entry is))

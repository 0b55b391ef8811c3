-- A turn of a member that hears from its primary lowers what is left to do: it answers with one acknowledgement at most.
use Rattle.std.proofs.Common.{◌≡◌, ◌≤◌, ◌<◌, inl, inr, ℕ, ◌+◌, ◌%◌, Bool, true, false, List, [], ◌∷◌, ◌++◌, length, drop, refl, ap, subst, arith}
use Rattle.std.specs.Prelude.{slice_index, if◌then◌else◌}
use Rattle.std.proofs.lemmas.Bool.{eq-eqb}
use Rattle.journal.specs.declared.journal.Actor.TheVariants as actor
use Rattle.vr_log.specs.declared.entry.Entry.{Entry}
use Rattle.vr_log.specs.declared.message.VrLetter.{VrLetter}
use Rattle.vr_log.specs.declared.message.VrMessage.{VrMessage}
use Rattle.vr_log.specs.declared.message.VrMessage.TheVariants as vr
use Rattle.vr_log.specs.declared.state.VrState.{VrState}
use Rattle.vr_log.specs.Steps.{letter}
use Rattle.vr_core.specs.declared.input.VrInput.TheVariants as vr_input
use Rattle.vr_core.specs.Step.{vr_step}
use Rattle.group_controller.specs.State.{to_member, to_members}
use Rattle.run_spec.specs.declared.messages.Message.{Message}
use Rattle.run_spec.specs.declared.messages.Message.TheVariants as message
use Rattle.run_spec.specs.States.{controller_message}
use Rattle.closing_laws.specs.Following.{AreAcknowledged, ArePrepares, KeepsUp, LeadsFrom, Start}
use Rattle.closing_laws.specs.Measure.{message_worth, vr_worth}
use Rattle.closing_laws.specs.Quorum.{has}
use Rattle.closing_laws.specs.Ways.{told_to}
use Rattle.closing_laws.proofs.Draining.Followers.{Hears, hears}
use Rattle.closing_laws.proofs.Measure.Worths.{worths-cons, worths_of}

-- what acknowledges ends with an acknowledgement
pub last_acknowledges : (view known acked len : ℕ) (ms : List Message) (m : Message) → AreAcknowledged view known acked len (ms ++ m ∷ []) → (op : ℕ) × (m ≡ message.Vr (vr.PrepareOk view op))
last_acknowledges view known acked len [] m h = (h.0, h.1)
last_acknowledges view known acked len (x ∷ ms) m h = last_acknowledges view known h.0 len ms m h.4

-- what a member of the quorum hears is worth two
heard_worth : (start : Start) (p : VrState) (b : ℕ) (s : VrState) (m : VrMessage) (out in_ : List Message) → KeepsUp start p b s (message.Vr m ∷ out) in_ → vr_worth m ≡ 2
heard_worth start p b s m out in_ (inl h) =
    let is : m ≡ vr.StartView p.view start.base start.known (drop start.base start.log) = (let e = h.word in cc) in ap vr_worth is
heard_worth start p b s m out in_ (inr h) = by_rest (drop (length s.log) p.log) h.entries
  where
    by_rest : (es : List Entry) → ArePrepares p.view p.commit (length s.log) es (message.Vr m ∷ out) → vr_worth m ≡ 2
    by_rest [] all = absurd all
    by_rest (e ∷ es) all = let is : m ≡ vr.Prepare p.view (length s.log + 1) all.0.0 e = (let same = all.0.2 in cc) in ap vr_worth is

module _ (start : Start) (p : VrState) (b : ℕ) (s : VrState) (m : VrMessage) (out in_ : List Message) (quorum : List ℕ) where
  answered_worth : (h : Hears start p b s m out in_) → worths_of quorum controller_message (actor.Controller b) (to_members h.answers) ≤ 1
  answered_worth h = elim h.only [
    | inl none ↦ let e = ap (λ (ls : List VrLetter). worths_of quorum controller_message (actor.Controller b) (to_members ls)) none in omega (arith, e)
    | inr (said, one) ↦
        let e = ap (λ (ls : List VrLetter). worths_of quorum controller_message (actor.Controller b) (to_members ls)) one in
        let acks = subst (λ (ls : List VrLetter). AreAcknowledged p.view start.known (slice_index p.acked b) (length (vr_step s (vr_input.From p.me m)).state.log)
        (in_ ++ told_to controller_message (actor.Controller p.me) (to_members ls))) one h.follows.acks in
        let last = last_acknowledges p.view start.known (slice_index p.acked b) (length (vr_step s (vr_input.From p.me m)).state.log) in_ (message.Vr said)
        (subst (λ (ms : List Message). AreAcknowledged p.view start.known (slice_index p.acked b) (length (vr_step s (vr_input.From p.me m)).state.log) (in_ ++ ms)) (ap (λ (d : Bool). if d then message.Vr said ∷ [] else []) (eq-eqb p.me p.me refl)) acks) in
        let is : said ≡ vr.PrepareOk p.view last.0 = (let k = last.1 in cc) in
        let small : vr_worth said ≡ 1 = ap vr_worth is in
        let first = worths-cons quorum controller_message (actor.Controller b) (to_member (letter said p.me)) [] in
        by_drawn said (has quorum p.me) small first e
  ]
    where
      by_drawn : (said : VrMessage) (d : Bool) → vr_worth said ≡ 1 → worths_of quorum controller_message (actor.Controller b) (to_member (letter said p.me) ∷ []) ≡ (if d then vr_worth said else 0) + 0 →
          worths_of quorum controller_message (actor.Controller b) (to_members h.answers) ≡ worths_of quorum controller_message (actor.Controller b) (to_member (letter said p.me) ∷ []) →
          worths_of quorum controller_message (actor.Controller b) (to_members h.answers) ≤ 1
      by_drawn said true small first e = omega (arith, small, first, e)
      by_drawn said false small first e = omega (arith, small, first, e)

  heard_lowers : Hears start p b s m out in_ → vr_worth m ≡ 2 →
      worths_of quorum controller_message (actor.Controller b) (to_members (vr_step s (vr_input.From p.me m)).letters) + 1 ≤ message_worth (message.Vr m)
  heard_lowers h two =
      let same = ap (λ (ls : List VrLetter). worths_of quorum controller_message (actor.Controller b) (to_members ls)) h.letters in
      let few = answered_worth h in
      omega (arith, same, few, two)

-- each message of the primary that a member draws is worth more than what it answers
pub member_lowers : (start : Start) (p : VrState) → LeadsFrom start p → p.me ≡ p.view % p.controllers → p.me < p.controllers → (b : ℕ) → (b ≡ p.me → ⊥) →
    (s : VrState) (m : VrMessage) (out in_ : List Message) → KeepsUp start p b s (message.Vr m ∷ out) in_ → (quorum : List ℕ) →
    worths_of quorum controller_message (actor.Controller b) (to_members (vr_step s (vr_input.From p.me m)).letters) + 1 ≤ message_worth (message.Vr m)
member_lowers start p lead leader small b apart s m out in_ keeps quorum =
    heard_lowers start p b s m out in_ quorum (hears start p lead leader small b apart s m out in_ keeps) (heard_worth start p b s m out in_ keeps)

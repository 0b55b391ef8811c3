-- What is read was spelled.
use Rattle.std.proofs.Common.{◌≡◌, ℕ, zero, suc, ◌+◌, ◌-◌, ◌≤◌, Bool, true, false, cond, not, eqb, ltb, List, [], ◌∷◌, ◌++◌, length, take, drop, Option, Some, None, Result, Ok, Err, refl, sym, ap, subst, ◌∙◌, arith, length-append, append_assoc}
use Rattle.std.specs.Prelude.{◌||◌}
use Rattle.std.proofs.Math.Seq.{drop-append_seam}
use Rattle.std.proofs.lemmas.Bool.{ltb-false, eqb-true}
use Rattle.std.proofs.lemmas.List.{append-nil, take-append-drop, length-take, length-drop, nil_from_length}
use Rattle.of_bytes.specs.Numbers.{number}
use Rattle.of_bytes.specs.Reading.{◌>>=◌}
use Rattle.of_bytes.proofs.Bytes.{IsBytes, IsBytes-take, IsBytes-drop, number-append}
use Rattle.of_bytes.proofs.Steps.{bind_ok, passed, ended, ok_is}
use Rattle.of_types.specs.declared.refusal.Refusal.{Refusal}
use Rattle.of_messages.specs.Reading.{message_at, xid_of}
use Rattle.of_messages.proofs.Takes.{message_takes}
use Rattle.of_ravana.specs.Canonical.{happening_message}
use Rattle.of_ravana.specs.Grammar.{SpellsInner}
use Rattle.of_ravana.specs.Reading.{as_happening}
use Rattle.of_ravana.proofs.Takes.{is_happening}
use Rattle.of_types.specs.declared.message.Event.{Event}
use Rattle.of_types.specs.declared.message.Happening.{Happening}
use Rattle.of_types.specs.declared.message.OfMessage.{OfMessage}
use Rattle.vr_log.specs.declared.entry.Entry.{Entry}
use Rattle.vr_log.specs.declared.entry.Entry.TheVariants.{Received, Processed}
use Rattle.vr_log.specs.declared.message.Filled.{Filled}
use Rattle.vr_log.specs.declared.message.VrMessage.{VrMessage}
use Rattle.vr_log.specs.declared.message.VrMessage.TheVariants as message
use Rattle.vr_log.specs.Log.{log_entries, log_bytes}
use Rattle.vr_codec.specs.declared.fault.VrRefusal.{VrRefusal}
use Rattle.vr_codec.specs.declared.fault.VrRefusal.TheVariants.{Short, BadKind, BadLength}
use Rattle.vr_codec.specs.Grammar.{SpellsEntry, SpellsEntries, SpellsLog, IsVrFront, IsPrepare, IsViewAndNumber, IsStartViewChange, IsDoViewChange, IsLogBehind, IsSupply, IsRecovery, IsFilled, SpellsFilled, IsResponse, SpellsVr}
use Rattle.vr_codec.specs.Reading.{as_event, event_at, told_at, received_at, processed_at, entry_at, entries_at, log_at, last_of, last_entry_at, last_log_at, size_at, numbered_at, start_view_change_at, recovery_at, prepare_at, do_view_change_at, filled_at, option_at, response_at, LogBehind, log_behind_at, supply_at, as_start_view, as_new_state, as_fetch, messages_at, beside_vr, vr_body_at, vr_at}

-- ---- entries

event_is : (r : Result Happening Refusal) (what : Happening) → as_event r ≡ Ok what → r ≡ Ok what
event_is (Ok x) what e = ap (λ (w : Happening). Ok w) (ok_is VrRefusal x what e)
event_is (Err d) what e = absurd cc

event_takes : (bytes : List ℕ) (what : Happening) → IsBytes bytes → event_at bytes ≡ Ok what → SpellsInner bytes (happening_message what)
unfolding event_at
event_takes bytes what fits e =
    let p = passed (ltb (length bytes) 4 || not (eqb (number 2 2 bytes) (length bytes))) BadLength (as_event (message_at bytes >>= as_happening)) what e in
    let q = event_is (message_at bytes >>= as_happening) what p.1 in
    let a = bind_ok (message_at bytes) as_happening what q in
    subst (λ (m : OfMessage). SpellsInner bytes m) (is_happening a.0 what a.2) (xid_of bytes, message_takes bytes a.0 fits a.1)

-- an entry at the front, what comes behind it, and that this is bytes too
record Taken (bytes : List ℕ) (entry : Entry) (rest : List ℕ) : Type 0 where
  pub text : List ℕ
  pub parts : bytes ≡ text ++ rest
  pub spelled : SpellsEntry text entry
  pub left : IsBytes rest

number_in : (count place : ℕ) (bytes text rest : List ℕ) → bytes ≡ text ++ rest → place + count ≤ length text → number count place text ≡ number count place bytes
number_in count place bytes text rest is le = sym (ap (number count place) is ∙ number-append count place text rest le)

-- bytes cut at two places
cut : (a b : ℕ) (bytes : List ℕ) → bytes ≡ (take a bytes ++ take b (drop a bytes)) ++ drop b (drop a bytes)
cut a b bytes = sym (append_assoc (take a bytes) (take b (drop a bytes)) (drop b (drop a bytes)) ∙ ap (λ (rest : List ℕ). take a bytes ++ rest) (take-append-drop b (drop a bytes)) ∙ take-append-drop a bytes)

front_size : (a : ℕ) (bytes : List ℕ) → a ≤ length bytes → length (take a bytes) ≡ a
front_size a bytes le = omega (arith, length-take a bytes)

behind : (a : ℕ) (bytes more : List ℕ) → a ≤ length bytes → drop a (take a bytes ++ more) ≡ more
behind a bytes more le = subst (λ (n : ℕ). drop n (take a bytes ++ more) ≡ more) (front_size a bytes le) (drop-append_seam (take a bytes) more)

event_of : List ℕ → Happening → Event
event_of bytes what = record { switch = number 1 1 bytes; life = number 4 2 bytes; number = number 8 6 bytes; what = what }

received_parts : (bytes : List ℕ) (what : Happening) → IsBytes bytes → number 1 0 bytes ≡ 1 → 18 ≤ length bytes → number 4 14 bytes ≤ length (drop 18 bytes)
    → SpellsInner (take (number 4 14 bytes) (drop 18 bytes)) (happening_message what) → Taken bytes (Received (event_of bytes what)) (drop (number 4 14 bytes) (drop 18 bytes))
unfolding event_of
received_parts bytes what fits kind there long inner =
    let len = number 4 14 bytes in
    let told = take len (drop 18 bytes) in
    let text = take 18 bytes ++ told in
    let parts = cut 18 len bytes in
    let size : length text ≡ 18 + len = omega (arith, length-append (take 18 bytes) told, front_size 18 bytes there, front_size len (drop 18 bytes) long) in
    record {
      text = text;
      parts = parts;
      spelled = record {
        there = omega arith;
        kind_is = number_in 1 0 bytes text _ parts (omega arith) ∙ kind;
        switch_is = number_in 1 1 bytes text _ parts (omega arith);
        life_is = number_in 4 2 bytes text _ parts (omega arith);
        number_is = number_in 8 6 bytes text _ parts (omega arith);
        length_is = ap (λ (n : ℕ). 18 + n) (number_in 4 14 bytes text _ parts (omega arith)) ∙ sym size;
        inner = subst (λ (x : List ℕ). SpellsInner x (happening_message what)) (sym (behind 18 bytes told there)) inner;
      };
      left = IsBytes-drop len (drop 18 bytes) (IsBytes-drop 18 bytes fits);
    }

abbrev beside_rest : Entry → List ℕ → Entry × List ℕ
beside_rest entry rest = (entry, rest)

told_takes : (len : ℕ) (bytes : List ℕ) (x : Entry × List ℕ) → IsBytes bytes → number 1 0 bytes ≡ 1 → 18 ≤ length bytes → len ≡ number 4 14 bytes
    → told_at len bytes (drop 18 bytes) ≡ Ok x → Taken bytes x.0 x.1
unfolding told_at event_of
told_takes len bytes x fits kind there is e =
    let rest = drop 18 bytes in
    let make : Happening → Entry × List ℕ = λ what. (Received (event_of bytes what), drop len rest) in
    let p = passed (ltb (length rest) len) Short (event_at (take len rest) >>= λ what. Ok (make what)) x e in
    let b = bind_ok (event_at (take len rest)) (λ what. Ok (make what)) x p.1 in
    let inner = event_takes (take len rest) b.0 (IsBytes-take len rest (IsBytes-drop 18 bytes fits)) b.1 in
    let long : len ≤ length rest = ltb-false (length rest) len p.0 in
    let made : Taken bytes (make b.0).0 (make b.0).1 =
    subst (λ (n : ℕ). n ≤ length rest → SpellsInner (take n rest) (happening_message b.0) → Taken bytes (Received (event_of bytes b.0)) (drop n rest)) (sym is)
    (received_parts bytes b.0 fits kind there) long inner in
    subst (λ (y : Entry × List ℕ). Taken bytes y.0 y.1) (ok_is VrRefusal (make b.0) x b.2) made

received_takes : (bytes : List ℕ) (x : Entry × List ℕ) → IsBytes bytes → number 1 0 bytes ≡ 1 → received_at bytes ≡ Ok x → Taken bytes x.0 x.1
unfolding received_at
received_takes bytes x fits kind e =
    let p = passed (ltb (length bytes) 18) Short (told_at (number 4 14 bytes) bytes (drop 18 bytes)) x e in
    told_takes (number 4 14 bytes) bytes x fits kind (ltb-false (length bytes) 18 p.0) refl p.1

processed_parts : (bytes : List ℕ) → IsBytes bytes → number 1 0 bytes ≡ 2 → 9 ≤ length bytes → Taken bytes (Processed (number 8 1 bytes)) (drop 9 bytes)
processed_parts bytes fits kind there =
    let text = take 9 bytes in
    let parts : bytes ≡ text ++ drop 9 bytes = sym (take-append-drop 9 bytes) in
    let size = front_size 9 bytes there in
    record {
      text = text;
      parts = parts;
      spelled = record {
        whole = size;
        kind_is = number_in 1 0 bytes text (drop 9 bytes) parts (omega arith) ∙ kind;
        place_is = number_in 8 1 bytes text (drop 9 bytes) parts (omega arith);
      };
      left = IsBytes-drop 9 bytes fits;
    }

processed_takes : (bytes : List ℕ) (x : Entry × List ℕ) → IsBytes bytes → number 1 0 bytes ≡ 2 → processed_at bytes ≡ Ok x → Taken bytes x.0 x.1
unfolding processed_at
processed_takes bytes x fits kind e =
    let p = passed (ltb (length bytes) 9) Short (Ok (beside_rest (Processed (number 8 1 bytes)) (drop 9 bytes))) x e in
    subst (λ (y : Entry × List ℕ). Taken bytes y.0 y.1) (ok_is VrRefusal (beside_rest (Processed (number 8 1 bytes)) (drop 9 bytes)) x p.1)
    (processed_parts bytes fits kind (ltb-false (length bytes) 9 p.0))

entry_takes : (bytes : List ℕ) (x : Entry × List ℕ) → IsBytes bytes → entry_at bytes ≡ Ok x → Taken bytes x.0 x.1
unfolding entry_at
entry_takes bytes x fits e =
    let kind = number 1 0 bytes in
    let p = passed (ltb (length bytes) 1) Short (cond (eqb kind 1) (received_at bytes) (cond (eqb kind 2) (processed_at bytes) (Err BadKind))) x e in
    received (eqb kind 1) refl p.1
  where
    processed : (b : Bool) → eqb (number 1 0 bytes) 2 ≡ b → cond b (processed_at bytes) (Err BadKind) ≡ Ok x → Taken bytes x.0 x.1
    processed true h e = processed_takes bytes x fits (eqb-true (number 1 0 bytes) 2 h) e
    processed false h e = absurd cc

    received : (b : Bool) → eqb (number 1 0 bytes) 1 ≡ b → cond b (received_at bytes) (cond (eqb (number 1 0 bytes) 2) (processed_at bytes) (Err BadKind)) ≡ Ok x → Taken bytes x.0 x.1
    received true h e = received_takes bytes x fits (eqb-true (number 1 0 bytes) 1 h) e
    received false h e = processed (eqb (number 1 0 bytes) 2) refl e

-- so many entries behind those before them
record AllTaken (whole count : ℕ) (before : List Entry) (bytes : List ℕ) (log : List Entry) (rest : List ℕ) : Type 0 where
  pub entries : List Entry
  pub text : List ℕ
  pub all : log ≡ before ++ entries
  pub parts : bytes ≡ text ++ rest
  pub spelled : SpellsEntries text entries
  pub count_is : count ≡ length entries
  pub small : whole - length rest ≤ log_bytes

none_taken : (whole : ℕ) (before : List Entry) (bytes : List ℕ) → whole - length bytes ≤ log_bytes → AllTaken whole zero before bytes before bytes
none_taken whole before bytes small = record {
  entries = [];
  text = [];
  all = sym (append-nil before);
  parts = refl;
  spelled = refl;
  count_is = refl;
  small = small;
}

one_taken : (whole count : ℕ) (before : List Entry) (bytes : List ℕ) (entry : Entry) (rest : List ℕ) (log : List Entry) (tail : List ℕ)
    → Taken bytes entry rest → AllTaken whole count (before ++ entry ∷ []) rest log tail → AllTaken whole (suc count) before bytes log tail
one_taken whole count before bytes entry rest log tail t a = record {
  entries = entry ∷ a.entries;
  text = t.text ++ a.text;
  all = a.all ∙ append_assoc before (entry ∷ []) a.entries;
  parts = t.parts ∙ ap (λ (x : List ℕ). t.text ++ x) a.parts ∙ sym (append_assoc t.text a.text tail);
  spelled = (t.text, a.text, refl, t.spelled, a.spelled);
  count_is = ap suc a.count_is;
  small = a.small;
}

abbrev log_beside : List Entry → List ℕ → List Entry × List ℕ
log_beside log rest = (log, rest)

entries_take : (whole count : ℕ) (before : List Entry) (bytes : List ℕ) (x : List Entry × List ℕ) → IsBytes bytes → whole - length bytes ≤ log_bytes
    → entries_at whole count before bytes ≡ Ok x → AllTaken whole count before bytes x.0 x.1
unfolding entries_at
entries_take whole zero before bytes x fits small e =
    subst (λ (y : List Entry × List ℕ). AllTaken whole zero before bytes y.0 y.1) (ok_is VrRefusal (log_beside before bytes) x e) (none_taken whole before bytes small)
entries_take whole (suc count) before bytes x fits small e =
    let next : Entry × List ℕ → Result (List Entry × List ℕ) VrRefusal =
    λ y. cond (ltb log_bytes (whole - length y.1)) (Err BadLength) (entries_at whole count (before ++ y.0 ∷ []) y.1) in
    let a = bind_ok (entry_at bytes) next x e in
    let p = passed (ltb log_bytes (whole - length a.0.1)) BadLength (entries_at whole count (before ++ a.0.0 ∷ []) a.0.1) x a.2 in
    let t = entry_takes bytes a.0 fits a.1 in
    one_taken whole count before bytes a.0.0 a.0.1 x.0 x.1 t
    (entries_take whole count (before ++ a.0.0 ∷ []) a.0.1 x t.left (ltb-false log_bytes (whole - length a.0.1) p.0) p.1)

log_parts : (bytes : List ℕ) (log : List Entry) → 4 ≤ length bytes → number 4 0 bytes ≤ log_entries
    → AllTaken (length (drop 4 bytes)) (number 4 0 bytes) [] (drop 4 bytes) log [] → SpellsLog bytes log
log_parts bytes log there few a =
    let count : number 4 0 bytes ≡ length log = a.count_is ∙ ap length (sym a.all) in
    let small = a.small in
    let text : drop 4 bytes ≡ a.text = a.parts ∙ append-nil a.text in
    record {
      there = there;
      count_is = count;
      few = omega arith;
      small = omega (arith, length-drop 4 bytes);
      entries = subst (λ (x : List ℕ). SpellsEntries x log) (sym text) (subst (λ (l : List Entry). SpellsEntries a.text l) (sym a.all) a.spelled);
    }

-- nothing is left over
nothing_left : {A : Type 0} (x : A) (rest : List ℕ) (y : A) → last_of (x, rest) ≡ Ok y → (rest ≡ []) × (x ≡ y)
nothing_left x rest y e =
    let p = ended (eqb (length rest) 0) BadLength x y e in
    (nil_from_length rest (eqb-true (length rest) 0 p.0), p.1)

last_log_takes : (bytes : List ℕ) (log : List Entry) → IsBytes bytes → last_log_at bytes ≡ Ok log → SpellsLog bytes log
unfolding last_log_at log_at
last_log_takes bytes log fits e =
    let a = bind_ok (log_at bytes) last_of log e in
    let q = nothing_left a.0.0 a.0.1 log a.2 in
    let tail = drop 4 bytes in
    let p = passed (ltb (length bytes) 4) Short (cond (ltb log_entries (number 4 0 bytes)) (Err BadLength) (entries_at (length tail) (number 4 0 bytes) [] tail)) a.0 a.1 in
    let r = passed (ltb log_entries (number 4 0 bytes)) BadLength (entries_at (length tail) (number 4 0 bytes) [] tail) a.0 p.1 in
    let t = entries_take (length tail) (number 4 0 bytes) [] tail a.0 (IsBytes-drop 4 bytes fits) (omega arith) r.1 in
    log_parts bytes log (ltb-false (length bytes) 4 p.0) (ltb-false log_entries (number 4 0 bytes) r.0)
    (subst (λ (l : List Entry). AllTaken (length tail) (number 4 0 bytes) [] tail l []) q.1
    (subst (λ (rest : List ℕ). AllTaken (length tail) (number 4 0 bytes) [] tail a.0.0 rest) q.0 t))

last_entry_takes : (bytes : List ℕ) (entry : Entry) → IsBytes bytes → last_entry_at bytes ≡ Ok entry → SpellsEntry bytes entry
unfolding last_entry_at
last_entry_takes bytes entry fits e =
    let a = bind_ok (entry_at bytes) last_of entry e in
    let q = nothing_left a.0.0 a.0.1 entry a.2 in
    let t = entry_takes bytes a.0 fits a.1 in
    let text : bytes ≡ t.text = t.parts ∙ ap (λ (rest : List ℕ). t.text ++ rest) q.0 ∙ append-nil t.text in
    subst (λ (x : Entry). SpellsEntry bytes x) q.1 (subst (λ (x : List ℕ). SpellsEntry x a.0.0) (sym text) t.spelled)

-- ---- messages

-- bytes that begin with this kind spell the message
abbrev IsOf : ℕ → List ℕ → VrMessage → Type 0
IsOf kind bytes m = number 1 0 bytes ≡ kind → SpellsVr bytes m

sized : (size : ℕ) (bytes : List ℕ) (u : Unit {0}) → size_at size bytes ≡ Ok u → length bytes ≡ size
sized size bytes u e =
    let p = passed (ltb (length bytes) size) Short (cond (ltb size (length bytes)) (Err BadLength) (Ok tt)) u e in
    let q = passed (ltb size (length bytes)) BadLength (Ok tt) u p.1 in
    omega (arith, ltb-false (length bytes) size p.0, ltb-false size (length bytes) q.0)

abbrev two_numbers : ℕ → ℕ → ℕ × ℕ
two_numbers a b = (a, b)

numbered_takes : (bytes : List ℕ) (kind : ℕ) (x : ℕ × ℕ) → number 1 0 bytes ≡ kind → numbered_at bytes ≡ Ok x → IsViewAndNumber bytes kind x.0 x.1
unfolding numbered_at
numbered_takes bytes kind x k e =
    let found = two_numbers (number 4 1 bytes) (number 8 5 bytes) in
    let a = bind_ok (size_at 13 bytes) (λ u. Ok found) x e in
    let made : IsViewAndNumber bytes kind (number 4 1 bytes) (number 8 5 bytes) = record { whole = sized 13 bytes a.0 a.1; kind_is = k; view_is = refl; number_is = refl } in
    subst (λ (y : ℕ × ℕ). IsViewAndNumber bytes kind y.0 y.1) (ok_is VrRefusal found x a.2) made

prepare_ok_takes : (bytes : List ℕ) (m : VrMessage) → (numbered_at bytes >>= λ x. Ok (message.PrepareOk x.0 x.1)) ≡ Ok m → IsOf 2 bytes m
prepare_ok_takes bytes m e k =
    let a = bind_ok (numbered_at bytes) (λ x. Ok (message.PrepareOk x.0 x.1)) m e in
    subst (λ (y : VrMessage). SpellsVr bytes y) (ok_is VrRefusal (message.PrepareOk a.0.0 a.0.1) m a.2) (numbered_takes bytes 2 a.0 k a.1)

commit_takes : (bytes : List ℕ) (m : VrMessage) → (numbered_at bytes >>= λ x. Ok (message.Commit x.0 x.1)) ≡ Ok m → IsOf 3 bytes m
commit_takes bytes m e k =
    let a = bind_ok (numbered_at bytes) (λ x. Ok (message.Commit x.0 x.1)) m e in
    subst (λ (y : VrMessage). SpellsVr bytes y) (ok_is VrRefusal (message.Commit a.0.0 a.0.1) m a.2) (numbered_takes bytes 3 a.0 k a.1)

get_state_takes : (bytes : List ℕ) (m : VrMessage) → (numbered_at bytes >>= λ x. Ok (message.GetState x.0 x.1)) ≡ Ok m → IsOf 9 bytes m
get_state_takes bytes m e k =
    let a = bind_ok (numbered_at bytes) (λ x. Ok (message.GetState x.0 x.1)) m e in
    subst (λ (y : VrMessage). SpellsVr bytes y) (ok_is VrRefusal (message.GetState a.0.0 a.0.1) m a.2) (numbered_takes bytes 9 a.0 k a.1)

start_view_change_takes : (bytes : List ℕ) (m : VrMessage) → start_view_change_at bytes ≡ Ok m → IsOf 4 bytes m
unfolding start_view_change_at
start_view_change_takes bytes m e k =
    let found = message.StartViewChange (number 4 1 bytes) in
    let a = bind_ok (size_at 5 bytes) (λ u. Ok found) m e in
    let made : IsStartViewChange bytes (number 4 1 bytes) = record { whole = sized 5 bytes a.0 a.1; kind_is = k; view_is = refl } in
    subst (λ (y : VrMessage). SpellsVr bytes y) (ok_is VrRefusal found m a.2) made

recovery_takes : (bytes : List ℕ) (m : VrMessage) → recovery_at bytes ≡ Ok m → IsOf 7 bytes m
unfolding recovery_at
recovery_takes bytes m e k =
    let found = message.Recovery (number 8 1 bytes) (number 4 9 bytes) in
    let a = bind_ok (size_at 13 bytes) (λ u. Ok found) m e in
    let made : IsRecovery bytes (number 8 1 bytes) (number 4 9 bytes) = record { whole = sized 13 bytes a.0 a.1; kind_is = k; nonce_is = refl; promise_is = refl } in
    subst (λ (y : VrMessage). SpellsVr bytes y) (ok_is VrRefusal found m a.2) made

fronted : (bytes : List ℕ) (kind size : ℕ) → number 1 0 bytes ≡ kind → size ≤ length bytes → IsVrFront bytes kind size
fronted bytes kind size k there = record { there = there; kind_is = k }

prepare_takes : (bytes : List ℕ) (m : VrMessage) → IsBytes bytes → prepare_at bytes ≡ Ok m → IsOf 1 bytes m
unfolding prepare_at
prepare_takes bytes m fits e k =
    let make : Entry → VrMessage = λ entry. message.Prepare (number 4 1 bytes) (number 8 5 bytes) (number 8 13 bytes) entry in
    let a = passed (ltb (length bytes) 21) Short (last_entry_at (drop 21 bytes) >>= λ entry. Ok (make entry)) m e in
    let b = bind_ok (last_entry_at (drop 21 bytes)) (λ entry. Ok (make entry)) m a.1 in
    let made : IsPrepare bytes (number 4 1 bytes) (number 8 5 bytes) (number 8 13 bytes) b.0 = record {
      front = fronted bytes 1 21 k (ltb-false (length bytes) 21 a.0);
      view_is = refl;
      op_is = refl;
      commit_is = refl;
      entry_is = last_entry_takes (drop 21 bytes) b.0 (IsBytes-drop 21 bytes fits) b.1;
    } in
    subst (λ (y : VrMessage). SpellsVr bytes y) (ok_is VrRefusal (make b.0) m b.2) made

do_view_change_takes : (bytes : List ℕ) (m : VrMessage) → IsBytes bytes → do_view_change_at bytes ≡ Ok m → IsOf 5 bytes m
unfolding do_view_change_at
do_view_change_takes bytes m fits e k =
    let make : List Entry → VrMessage = λ log. message.DoViewChange (number 4 1 bytes) (number 4 5 bytes) (number 8 9 bytes) log in
    let a = passed (ltb (length bytes) 17) Short (last_log_at (drop 17 bytes) >>= λ log. Ok (make log)) m e in
    let b = bind_ok (last_log_at (drop 17 bytes)) (λ log. Ok (make log)) m a.1 in
    let made : IsDoViewChange bytes (number 4 1 bytes) (number 4 5 bytes) (number 8 9 bytes) b.0 = record {
      front = fronted bytes 5 17 k (ltb-false (length bytes) 17 a.0);
      view_is = refl;
      normal_is = refl;
      commit_is = refl;
      log_is = last_log_takes (drop 17 bytes) b.0 (IsBytes-drop 17 bytes fits) b.1;
    } in
    subst (λ (y : VrMessage). SpellsVr bytes y) (ok_is VrRefusal (make b.0) m b.2) made

supply_takes : (bytes : List ℕ) (m : VrMessage) → IsBytes bytes → supply_at bytes ≡ Ok m → IsOf 12 bytes m
unfolding supply_at
supply_takes bytes m fits e k =
    let make : List Entry → VrMessage = λ log. message.Supply (number 4 1 bytes) (number 8 5 bytes) log in
    let a = passed (ltb (length bytes) 13) Short (last_log_at (drop 13 bytes) >>= λ log. Ok (make log)) m e in
    let b = bind_ok (last_log_at (drop 13 bytes)) (λ log. Ok (make log)) m a.1 in
    let made : IsSupply bytes (number 4 1 bytes) (number 8 5 bytes) b.0 = record {
      front = fronted bytes 12 13 k (ltb-false (length bytes) 13 a.0);
      view_is = refl;
      first_is = refl;
      log_is = last_log_takes (drop 13 bytes) b.0 (IsBytes-drop 13 bytes fits) b.1;
    } in
    subst (λ (y : VrMessage). SpellsVr bytes y) (ok_is VrRefusal (make b.0) m b.2) made

log_behind_takes : (bytes : List ℕ) (kind : ℕ) (x : LogBehind) → IsBytes bytes → number 1 0 bytes ≡ kind → log_behind_at bytes ≡ Ok x → IsLogBehind bytes kind x.0 x.1 x.2 x.3
unfolding log_behind_at
log_behind_takes bytes kind x fits k e =
    let make : List Entry → LogBehind = λ log. (number 4 1 bytes, number 8 5 bytes, number 8 13 bytes, log) in
    let a = passed (ltb (length bytes) 21) Short (last_log_at (drop 21 bytes) >>= λ log. Ok (make log)) x e in
    let b = bind_ok (last_log_at (drop 21 bytes)) (λ log. Ok (make log)) x a.1 in
    let made : IsLogBehind bytes kind (number 4 1 bytes) (number 8 5 bytes) (number 8 13 bytes) b.0 = record {
      front = fronted bytes kind 21 k (ltb-false (length bytes) 21 a.0);
      view_is = refl;
      first_is = refl;
      commit_is = refl;
      log_is = last_log_takes (drop 21 bytes) b.0 (IsBytes-drop 21 bytes fits) b.1;
    } in
    subst (λ (y : LogBehind). IsLogBehind bytes kind y.0 y.1 y.2 y.3) (ok_is VrRefusal (make b.0) x b.2) made

start_view_takes : (bytes : List ℕ) (m : VrMessage) → IsBytes bytes → as_start_view (log_behind_at bytes) ≡ Ok m → IsOf 6 bytes m
start_view_takes bytes m fits e k =
    let a = bind_ok (log_behind_at bytes) (λ x. Ok (message.StartView x.0 x.1 x.2 x.3)) m e in
    subst (λ (y : VrMessage). SpellsVr bytes y) (ok_is VrRefusal (message.StartView a.0.0 a.0.1 a.0.2 a.0.3) m a.2) (log_behind_takes bytes 6 a.0 fits k a.1)

new_state_takes : (bytes : List ℕ) (m : VrMessage) → IsBytes bytes → as_new_state (log_behind_at bytes) ≡ Ok m → IsOf 10 bytes m
new_state_takes bytes m fits e k =
    let a = bind_ok (log_behind_at bytes) (λ x. Ok (message.NewState x.0 x.1 x.2 x.3)) m e in
    subst (λ (y : VrMessage). SpellsVr bytes y) (ok_is VrRefusal (message.NewState a.0.0 a.0.1 a.0.2 a.0.3) m a.2) (log_behind_takes bytes 10 a.0 fits k a.1)

fetch_takes : (bytes : List ℕ) (m : VrMessage) → as_fetch (numbered_at bytes) ≡ Ok m → IsOf 11 bytes m
fetch_takes bytes m e k =
    let a = bind_ok (numbered_at bytes) (λ x. Ok (message.Fetch x.0 x.1)) m e in
    subst (λ (y : VrMessage). SpellsVr bytes y) (ok_is VrRefusal (message.Fetch a.0.0 a.0.1) m a.2) (numbered_takes bytes 11 a.0 k a.1)

filled_takes : (bytes : List ℕ) (filled : Option Filled) → IsBytes bytes → number 1 13 bytes ≡ 1 → filled_at bytes ≡ Ok filled → SpellsFilled bytes filled
unfolding filled_at
filled_takes bytes filled fits one e =
    let make : List Entry → Option Filled = λ log. Some (record { commit = number 8 14 bytes; log = log }) in
    let a = passed (ltb (length bytes) 22) Short (last_log_at (drop 22 bytes) >>= λ log. Ok (make log)) filled e in
    let b = bind_ok (last_log_at (drop 22 bytes)) (λ log. Ok (make log)) filled a.1 in
    let made : IsFilled bytes (record { commit = number 8 14 bytes; log = b.0 }) = record {
      there = ltb-false (length bytes) 22 a.0;
      filled_is = one;
      commit_is = refl;
      log_is = last_log_takes (drop 22 bytes) b.0 (IsBytes-drop 22 bytes fits) b.1;
    } in
    subst (λ (y : Option Filled). SpellsFilled bytes y) (ok_is VrRefusal (make b.0) filled b.2) made

-- no log, where nothing follows the flag
abbrev no_log : Option Filled
no_log = None

none_takes : (bytes : List ℕ) (filled : Option Filled) → 14 ≤ length bytes → number 1 13 bytes ≡ 0 → cond (ltb 14 (length bytes)) (Err BadLength) (Ok no_log) ≡ Ok filled → SpellsFilled bytes filled
none_takes bytes filled there flag e =
    let p = passed (ltb 14 (length bytes)) BadLength (Ok no_log) filled e in
    let le = ltb-false 14 (length bytes) p.0 in
    subst (λ (y : Option Filled). SpellsFilled bytes y) (ok_is VrRefusal no_log filled p.1) (omega arith, flag)

option_takes : (bytes : List ℕ) (filled : Option Filled) → IsBytes bytes → 14 ≤ length bytes → option_at bytes ≡ Ok filled → SpellsFilled bytes filled
unfolding option_at
option_takes bytes filled fits there e = none (eqb (number 1 13 bytes) 0) refl e
  where
    some : (b : Bool) → eqb (number 1 13 bytes) 1 ≡ b → cond b (filled_at bytes) (Err BadKind) ≡ Ok filled → SpellsFilled bytes filled
    some true h e = filled_takes bytes filled fits (eqb-true (number 1 13 bytes) 1 h) e
    some false h e = absurd cc

    none : (b : Bool) → eqb (number 1 13 bytes) 0 ≡ b → cond b (cond (ltb 14 (length bytes)) (Err BadLength) (Ok no_log)) (cond (eqb (number 1 13 bytes) 1) (filled_at bytes) (Err BadKind)) ≡ Ok filled → SpellsFilled bytes filled
    none true h e = none_takes bytes filled there (eqb-true (number 1 13 bytes) 0 h) e
    none false h e = some (eqb (number 1 13 bytes) 1) refl e

response_takes : (bytes : List ℕ) (m : VrMessage) → IsBytes bytes → response_at bytes ≡ Ok m → IsOf 8 bytes m
unfolding response_at
response_takes bytes m fits e k =
    let make : Option Filled → VrMessage = λ filled. message.RecoveryResponse (number 4 1 bytes) (number 8 5 bytes) filled in
    let a = passed (ltb (length bytes) 14) Short (option_at bytes >>= λ filled. Ok (make filled)) m e in
    let b = bind_ok (option_at bytes) (λ filled. Ok (make filled)) m a.1 in
    let there = ltb-false (length bytes) 14 a.0 in
    let made : IsResponse bytes (number 4 1 bytes) (number 8 5 bytes) b.0 = record {
      front = fronted bytes 8 14 k there;
      view_is = refl;
      nonce_is = refl;
      filled_is = option_takes bytes b.0 fits there b.1;
    } in
    subst (λ (y : VrMessage). SpellsVr bytes y) (ok_is VrRefusal (make b.0) m b.2) made

-- ---- the table of kinds

-- each row that gave the message gave one of its kind
abbrev AreOf : List (ℕ × Result VrMessage VrRefusal) → List ℕ → VrMessage → Type 0
AreOf [] bytes m = Unit {0}
AreOf (row ∷ rows) bytes m = (row.1 ≡ Ok m → IsOf row.0 bytes m) × AreOf rows bytes m

beside_step : (kind : ℕ) (row : ℕ × Result VrMessage VrRefusal) (rest : Result VrMessage VrRefusal) (bytes : List ℕ) (m : VrMessage) (b : Bool) → eqb kind row.0 ≡ b
    → (row.1 ≡ Ok m → IsOf row.0 bytes m) → (rest ≡ Ok m → IsOf kind bytes m) → cond b row.1 rest ≡ Ok m → IsOf kind bytes m
beside_step kind row rest bytes m true e this more h = subst (λ (n : ℕ). IsOf n bytes m) (sym (eqb-true kind row.0 e)) (this h)
beside_step kind row rest bytes m false e this more h = more h

beside_takes : (kind : ℕ) (rows : List (ℕ × Result VrMessage VrRefusal)) (bytes : List ℕ) (m : VrMessage) → AreOf rows bytes m → beside_vr kind rows ≡ Ok m → IsOf kind bytes m
beside_takes kind [] bytes m all e = absurd cc
beside_takes kind (row ∷ rows) bytes m all e = beside_step kind row (beside_vr kind rows) bytes m (eqb kind row.0) refl all.0 (beside_takes kind rows bytes m all.1) e

rows_take : (bytes : List ℕ) (m : VrMessage) → IsBytes bytes → AreOf (messages_at bytes) bytes m
rows_take bytes m fits = (
  prepare_takes bytes m fits,
  (
    prepare_ok_takes bytes m,
    (
      commit_takes bytes m,
      (
        start_view_change_takes bytes m,
        (
          do_view_change_takes bytes m fits,
          (start_view_takes bytes m fits, (recovery_takes bytes m, (response_takes bytes m fits, (get_state_takes bytes m, (new_state_takes bytes m fits, (fetch_takes bytes m, (supply_takes bytes m fits, tt))))))),
        ),
      ),
    ),
  ),
)

body_takes : (kind : ℕ) (bytes : List ℕ) (m : VrMessage) → IsBytes bytes → vr_body_at kind bytes ≡ Ok m → IsOf kind bytes m
unfolding vr_body_at
body_takes kind bytes m fits e = beside_takes kind (messages_at bytes) bytes m (rows_take bytes m fits) e

pub vr_takes : (bytes : List ℕ) (m : VrMessage) → IsBytes bytes → vr_at bytes ≡ Ok m → SpellsVr bytes m
unfolding vr_at
vr_takes bytes m fits e =
    let p = passed (ltb (length bytes) 1) Short (vr_body_at (number 1 0 bytes) bytes) m e in
    body_takes (number 1 0 bytes) bytes m fits p.1 refl

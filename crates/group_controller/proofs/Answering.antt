-- What is committed behind a place, and what answers it.
use Rattle.std.proofs.Common.{◌≡◌, ◌≤◌, ℕ, ◌+◌, ◌-◌, Bool, true, List, [], ◌∷◌, ◌++◌, map, take, drop, zero, suc, refl, sym, ap, ◌∙◌, arith, take-append-drop}
use Rattle.std.specs.Prelude.{Option, Some, filter, flat_map, if◌then◌else◌}
use Rattle.std.proofs.lemmas.Bool.{and_parts}
use Rattle.std.proofs.lemmas.List.{map-append, take-take}
use Rattle.std.specs.List.{range_with_len}
use Rattle.of_types.specs.declared.setup.Setup.{Setup}
use Rattle.journal.specs.declared.journal.Letter.{Letter}
use Rattle.vr_log.specs.declared.entry.Entry.{Entry}
use Rattle.vr_log.specs.Log.{follows}
use Rattle.vr_log.specs.Log.{received}
use Rattle.vr_log.proofs.Logs.{follows-append, follows_take}
use Rattle.dispatcher.specs.declared.answers.HandledEvent.{HandledEvent}
use Rattle.dispatcher.specs.declared.answers.AckThrough.{AckThrough}
use Rattle.dispatcher.specs.Folding.{acknowledgement, acknowledges_event, acknowledges_at, clears, clears_at, numbered, places_processed}
use Rattle.dispatcher.specs.Ledger.{AreHandledAt, handled_at}
use Rattle.dispatcher.proofs.Ledgers.{is_handled}
use Rattle.of_types.specs.declared.message.Event.{Event}
use Rattle.of_types.specs.Lives.{has_ended}
use Rattle.app_core.specs.Issued.{issues}
use Rattle.std.proofs.lemmas.Option.{get_or_from_slice_get}
use Rattle.dispatcher.proofs.Telling.{filter_more, range_more}
use Rattle.app_core.specs.declared.issued.Issued.{Issued}
use Rattle.group_controller.specs.declared.messages.ControllerSays.{ControllerSays}
use Rattle.group_controller.specs.Acting.{acknowledges_of, answers_to, AreNewlyHandled}
use Rattle.group_controller.specs.Settling.{ack_letter, answers_at, clear_letter, role_letter, command_letter, command_letters}
use Rattle.group_controller.specs.State.{ControllerState, committed}

take_none : (n : ℕ) (xs : List Entry) → xs ≡ [] → take n xs ≡ xs
take_none zero [] e = refl
take_none (suc n) [] e = refl
take_none n (x ∷ xs) e = absurd cc e

-- what is committed behind a place, as a part of the log
pub part_is : (a b : ℕ) (xs : List Entry) → a ≤ b → take (b - a) (drop a xs) ≡ drop a (take b xs)
part_is zero b xs h = let e : b - 0 ≡ b = omega arith in ap (λ (n : ℕ). take n xs) e
part_is (suc a) zero xs h = absurd (omega (arith, h))
part_is (suc a) (suc b) [] h = take_none (suc b - suc a) [] refl
part_is (suc a) (suc b) (x ∷ xs) h = let e : suc b - suc a ≡ b - a = omega arith in ap (λ (n : ℕ). take n (drop a xs)) e ∙ part_is a b xs (omega (arith, h))

pub parts_join : (a b : ℕ) (xs : List Entry) → a ≤ b → take a xs ++ drop a (take b xs) ≡ take b xs
parts_join a b xs h = ap (λ (l : List Entry). l ++ drop a (take b xs)) (sym (take-take a b xs h)) ∙ take-append-drop a (take b xs)

-- it follows what is before it
pub part_follows : (a b : ℕ) (xs : List Entry) → a ≤ b → follows [] xs ≡ true → follows (take a xs) (drop a (take b xs)) ≡ true
part_follows a b xs le h =
    (and_parts (follows [] (take a xs)) (follows (take a xs) (drop a (take b xs)))
    (sym (follows-append [] (take a xs) (drop a (take b xs))) ∙ ap (λ (l : List Entry). follows [] l) (parts_join a b xs le) ∙ follows_take b [] xs h)).1

map_twice : {A B C : Type 0} (f : B → C) (g : A → B) (xs : List A) → map f (map g xs) ≡ map (λ x. f (g x)) xs
map_twice f g [] = refl
map_twice f g (x ∷ xs) = ap (λ l. f (g x) ∷ l) (map_twice f g xs)

-- commands as they are sent
pub letters_are : (kinds : List ℕ) (setup : Setup) (c : ControllerState) (xs : List Issued) →
    map (command_letter c.vr.view) (map (numbered kinds setup (committed c)) xs) ≡ command_letters kinds setup c xs
letters_are kinds setup c xs = map_twice (command_letter c.vr.view) (numbered kinds setup (committed c)) xs

-- one switch more was asked for its role, or has confirmed it
pub asked_more : (p : ℕ → Bool) (view n : ℕ) → map (role_letter view) (filter p (range_with_len 0 (n + 1))) ≡ map (role_letter view) (filter p (range_with_len 0 n)) ++ map (role_letter view) (if p n then n ∷ [] else [])
asked_more p view n =
    ap (λ (l : List ℕ). map (role_letter view) l) (ap (λ (l : List ℕ). filter p l) (range_more n) ∙ filter_more p (range_with_len 0 n) n)
    ∙ map-append (role_letter view) (filter p (range_with_len 0 n)) (if p n then n ∷ [] else [])

-- what answers an event is what answers that the event at its place is processed
module _ (kinds : List ℕ) (setup : Setup) (c : ControllerState) where
  answers_one : (j : ℕ) (h : HandledEvent) → handled_at kinds setup (committed c) j ≡ Some h → answers_to kinds setup c h ≡ answers_at kinds setup c j
  answers_one j h at =
      let log = committed c in
      let all = issues kinds setup (received log) in
      let r = is_handled kinds setup (received log) all j h at in
      let acks : acknowledges_of c h ≡ acknowledges_at log j =
      ap (λ (s : ℕ). if has_ended s h.life (received log) then [] else acknowledgement log s h.life ∷ []) (sym r.switch_is)
      ∙ ap (λ (l : ℕ). if has_ended r.event.switch l (received log) then [] else acknowledgement log r.event.switch l ∷ []) (sym r.life_is) ∙ ap (λ (o : Option Event). acknowledges_event log o) (sym r.stands) in
      let told : clears kinds setup log h.commands ≡ clears_at kinds setup log j = ap (λ (l : List Issued). clears kinds setup log l) (sym (get_or_from_slice_get all j h.commands [] r.commands)) in
      ap (λ (l : List AckThrough). map ack_letter l ++ map clear_letter (clears kinds setup log h.commands)) acks ∙ ap (λ (l : List AckThrough). map ack_letter (acknowledges_at log j) ++ map clear_letter l) told

  answers_each : (places : List ℕ) (list : List HandledEvent) → AreHandledAt kinds setup (committed c) places list → flat_map (answers_to kinds setup c) list ≡ flat_map (answers_at kinds setup c) places
  answers_each [] [] h = refl
  answers_each [] (x ∷ list) h = absurd cc h
  answers_each (j ∷ places) [] h = absurd cc h
  answers_each (j ∷ places) (x ∷ list) h =
      let first : handled_at kinds setup (committed c) j ≡ Some x = cc in
      let rest : map (handled_at kinds setup (committed c)) places ≡ map Some list = cc in
      ap (λ (l : List (Letter ControllerSays)). l ++ flat_map (answers_to kinds setup c) list) (answers_one j x first) ∙ ap (λ (l : List (Letter ControllerSays)). answers_at kinds setup c j ++ l) (answers_each places list rest)

  pub answers_new : (before : ℕ) (list : List HandledEvent) → AreNewlyHandled kinds setup c before list → flat_map (answers_to kinds setup c) list ≡ flat_map (answers_at kinds setup c) (places_processed (drop before (committed c)))
  answers_new before list h = answers_each (places_processed (drop before (committed c))) list h

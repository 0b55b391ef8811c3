-- What is read was spelled.
use Rattle.std.proofs.Common.{◌≡◌, ℕ, ◌%◌, ◌≤◌, ◌⊎◌, inl, inr, Bool, false, true, cond, not, eqb, ltb, leb, List, [], ◌∷◌, ◌++◌, length, take, drop, Option, Some, None, Result, Ok, Err, refl, sym, ap, subst, ◌∙◌, arith}
use Rattle.std.specs.Prelude.{◌||◌, ◌&&◌}
use Rattle.std.proofs.lemmas.Bool.{ltb-false, le-leb, eqb-true}
use Rattle.std.proofs.lemmas.List.{append-nil, length-take, take-append-drop}
use Rattle.of_bytes.specs.Numbers.{number}
use Rattle.of_bytes.specs.Reading.{◌>>=◌}
use Rattle.of_bytes.proofs.Bytes.{IsBytes, IsBytes-drop}
use Rattle.of_bytes.proofs.Steps.{bind_ok, passed, ok_is, or_false}
use Rattle.of_match.specs.declared.fault.MatchFault.{MatchFault}
use Rattle.of_match.specs.Reading as matches
use Rattle.of_match.specs.Spelling.{IsSpelled}
use Rattle.of_match.proofs.Whole.{match_takes}
use Rattle.of_types.specs.declared.message.FlowCommand.{FlowCommand}
use Rattle.of_types.specs.declared.message.FlowCommand.TheVariants.{Add, Modify, ModifyStrict, Delete, DeleteStrict}
use Rattle.of_types.specs.declared.message.FlowMod.{FlowMod}
use Rattle.of_types.specs.declared.message.FlowRemoved.{FlowRemoved}
use Rattle.of_types.specs.declared.message.Match.{Match}
use Rattle.of_types.specs.declared.message.OfMessage.{OfMessage}
use Rattle.of_types.specs.declared.message.OfMessage.TheVariants as plain
use Rattle.of_types.specs.declared.message.PacketIn.{PacketIn}
use Rattle.of_types.specs.declared.message.PacketOut.{PacketOut}
use Rattle.of_types.specs.declared.message.PortStatus.{PortStatus}
use Rattle.of_types.specs.declared.refusal.Refusal.{Refusal}
use Rattle.of_types.specs.declared.refusal.TheConstants.{BAD_COMMAND, BAD_LENGTH, BAD_VERSION}
use Rattle.of_messages.specs.Canonical.{plain_type, command_number}
use Rattle.of_messages.specs.Grammar.{SpellsInstructions, IsPacketIn, IsFlowRemovedFront, IsFlowRemoved, IsPortStatus, IsPacketOut, IsFlowModFront, IsFlowMod, IsRole, SpellsBody, Spells}
use Rattle.of_messages.specs.Reading.{actions_at, instructions_at, error_at, experimenter_at, empty_at, features_at, as_refusal, port_in, port_and_frame_at, packet_in_at, only_match_at, flow_removed_of, flow_removed_at, port_status_at, packet_out_at, flow_command_of, command_at, match_and_actions_at, flow_mod_of, flow_mod_behind, flow_mod_at, role_at, beside, bodies_at, body_at, message_at, xid_of}
use Rattle.of_messages.proofs.ActionsTaken.{same, after_one, actions_take, instructions_take}

-- ---- bodies

-- A body of this type spells the message.
abbrev pub IsBody : ℕ → List ℕ → OfMessage → Type 0
IsBody kind body m = (plain_type m ≡ kind) × SpellsBody body m

error_takes : (body : List ℕ) (m : OfMessage) → error_at body ≡ Ok m → IsBody 1 body m
unfolding error_at
error_takes body m e =
    let p = after_one (ltb (length body) 4) BAD_LENGTH (plain.Error (number 2 0 body) (number 2 2 body) (drop 4 body)) m e in
    subst (λ (x : OfMessage). IsBody 1 body x) p.1 (refl, record { there = ltb-false (length body) 4 p.0; kind_is = refl; code_is = refl; head_is = refl })

experimenter_takes : (body : List ℕ) (m : OfMessage) → experimenter_at body ≡ Ok m → IsBody 4 body m
unfolding experimenter_at
experimenter_takes body m e =
    let p = after_one (ltb (length body) 8) BAD_LENGTH (plain.Experimenter body) m e in
    subst (λ (x : OfMessage). IsBody 4 body x) p.1 (refl, record { there = ltb-false (length body) 8 p.0; said_is = refl })

nothing : (xs : List ℕ) → length xs ≡ 0 → xs ≡ []
nothing [] h = refl
nothing (x ∷ xs) h = absurd (omega arith)

empty_takes : (body : List ℕ) (message m : OfMessage) → empty_at message body ≡ Ok m → (body ≡ []) × (message ≡ m)
unfolding empty_at
empty_takes body message m e =
    let p = after_one (not (eqb (length body) 0)) BAD_LENGTH message m e in
    (nothing body (same (length body) 0 p.0), p.1)

features_takes : (body : List ℕ) (m : OfMessage) → features_at body ≡ Ok m → IsBody 6 body m
unfolding features_at
features_takes body m e =
    let p = after_one (not (eqb (length body) 24)) BAD_LENGTH (plain.FeaturesReply (number 8 0 body)) m e in
    subst (λ (x : OfMessage). IsBody 6 body x) p.1 (refl, record { whole = same (length body) 24 p.0; datapath_is = refl })

-- a match at the front, and what comes behind it
record TakesMatch (bytes : List ℕ) (m : Match) (rest : List ℕ) : Type 0 where
  pub text : List ℕ
  pub spelled : IsSpelled text m
  pub parts : bytes ≡ text ++ rest

refusal_ok : {X : Type 0} (r : Result X MatchFault) (x : X) → as_refusal r ≡ Ok x → r ≡ Ok x
refusal_ok (Ok y) x e = ap (λ z. Ok z) (ok_is Refusal y x e)
refusal_ok (Err d) x e = absurd cc

match_at_front : (bytes : List ℕ) (m : Match) (taken : ℕ) → IsBytes bytes → as_refusal (matches.match_at bytes) ≡ Ok (m, taken) → TakesMatch bytes m (drop taken bytes)
match_at_front bytes m taken fits e =
    let t = match_takes bytes m taken fits (refusal_ok (matches.match_at bytes) (m, taken) e) in
    record { text = take taken bytes; spelled = t.1; parts = sym (take-append-drop taken bytes) }

port_is_there : (m : Match) (port : ℕ) → port_in m ≡ Ok port → m.in_port ≡ Some port
port_is_there m port e = cases m.in_port e
  where
    cases : (found : Option ℕ) → port_in (record m { in_port = found }) ≡ Ok port → found ≡ Some port
    cases (Some x) h = ap (λ (n : ℕ). Some n) (ok_is Refusal x port h)
    cases None h = absurd cc

-- a match that has a port, padding, and a frame
record TakesPort (bytes : List ℕ) (port : ℕ) (payload : List ℕ) : Type 0 where
  pub text : List ℕ
  pub matching : Match
  pub padding : List ℕ
  pub spelled : IsSpelled text matching
  pub port_is : matching.in_port ≡ Some port
  pub padding_is : length padding ≡ 2
  pub parts : bytes ≡ text ++ (padding ++ payload)

abbrev port_pair : ℕ → List ℕ → ℕ × List ℕ
port_pair port payload = (port, payload)

port_takes : (bytes : List ℕ) (port : ℕ) (payload : List ℕ) → IsBytes bytes → port_and_frame_at bytes ≡ Ok (port, payload) → TakesPort bytes port payload
unfolding port_and_frame_at
port_takes bytes port payload fits e =
    let a = bind_ok (as_refusal (matches.match_at bytes)) (λ found. cond (ltb (length (drop found.1 bytes)) 2) (Err BAD_LENGTH) (port_in found.0) >>= λ port. Ok (port, drop 2 (drop found.1 bytes))) (port, payload) e in
    let after = drop a.0.1 bytes in
    let b = bind_ok (cond (ltb (length after) 2) (Err BAD_LENGTH) (port_in a.0.0)) (λ port. Ok (port_pair port (drop 2 after))) (port, payload) a.2 in
    let c = passed (ltb (length after) 2) BAD_LENGTH (port_in a.0.0) b.0 b.1 in
    let t = match_at_front bytes a.0.0 a.0.1 fits a.1 in
    let pair = ok_is Refusal (port_pair b.0 (drop 2 after)) (port_pair port payload) b.2 in
    let long : 2 ≤ length after = ltb-false (length after) 2 c.0 in
    record {
      text = t.text;
      matching = a.0.0;
      padding = take 2 after;
      spelled = t.spelled;
      port_is = port_is_there a.0.0 b.0 c.1 ∙ ap (λ (x : ℕ × List ℕ). Some x.0) pair;
      padding_is = omega (arith, length-take 2 after);
      parts = t.parts ∙ ap (λ (x : List ℕ). t.text ++ x) (sym (take-append-drop 2 after)) ∙ ap (λ (x : ℕ × List ℕ). t.text ++ (take 2 after ++ x.1)) pair;
    }

packet_in_takes : (body : List ℕ) (p : PacketIn) → IsBytes body → packet_in_at body ≡ Ok p → IsPacketIn body p
unfolding packet_in_at
packet_in_takes body p fits e =
    let make : ℕ × List ℕ → PacketIn = λ behind. record { reason = number 1 6 body; cookie = number 8 8 body; in_port = behind.0; payload = behind.1 } in
    let a = passed (ltb (length body) 16) BAD_LENGTH (port_and_frame_at (drop 16 body) >>= λ behind. Ok (make behind)) p e in
    let b = bind_ok (port_and_frame_at (drop 16 body)) (λ behind. Ok (make behind)) p a.1 in
    let t = port_takes (drop 16 body) b.0.0 b.0.1 (IsBytes-drop 16 body fits) b.1 in
    let made : IsPacketIn body (make b.0) = record {
      there = ltb-false (length body) 16 a.0;
      reason_is = refl;
      cookie_is = refl;
      text = t.text;
      matching = t.matching;
      padding = t.padding;
      spelled = t.spelled;
      port_is = t.port_is;
      padding_is = t.padding_is;
      rest_is = t.parts;
    } in
    subst (λ (x : PacketIn). IsPacketIn body x) (ok_is Refusal (make b.0) p b.2) made

only_match_takes : (bytes : List ℕ) (m : Match) → IsBytes bytes → only_match_at bytes ≡ Ok m → IsSpelled bytes m
unfolding only_match_at
only_match_takes bytes m fits e =
    let a = bind_ok (as_refusal (matches.match_at bytes)) (λ found. cond (not (eqb (length (drop found.1 bytes)) 0)) (Err BAD_LENGTH) (Ok found.0)) m e in
    let b = after_one (not (eqb (length (drop a.0.1 bytes)) 0)) BAD_LENGTH a.0.0 m a.2 in
    let t = match_at_front bytes a.0.0 a.0.1 fits a.1 in
    let none = nothing (drop a.0.1 bytes) (same (length (drop a.0.1 bytes)) 0 b.0) in
    let whole : bytes ≡ t.text = t.parts ∙ ap (λ (x : List ℕ). t.text ++ x) none ∙ append-nil t.text in
    subst (λ (x : Match). IsSpelled bytes x) b.1 (subst (λ (xs : List ℕ). IsSpelled xs a.0.0) (sym whole) t.spelled)

flow_removed_takes : (body : List ℕ) (r : FlowRemoved) → IsBytes body → flow_removed_at body ≡ Ok r → IsFlowRemoved body r
unfolding flow_removed_at flow_removed_of
flow_removed_takes body r fits e =
    let a = passed (ltb (length body) 40 || ltb 3 (number 1 10 body)) BAD_LENGTH (only_match_at (drop 40 body) >>= λ matching. Ok (flow_removed_of body matching)) r e in
    let b = bind_ok (only_match_at (drop 40 body)) (λ matching. Ok (flow_removed_of body matching)) r a.1 in
    let long = or_false (ltb (length body) 40) (ltb 3 (number 1 10 body)) a.0 in
    let front : IsFlowRemovedFront body (flow_removed_of body b.0) = record {
      there = ltb-false (length body) 40 long.0;
      cookie_is = refl;
      priority_is = refl;
      reason_is = refl;
      reason_known = ltb-false 3 (number 1 10 body) long.1;
      duration_is = refl;
      idle_is = refl;
      hard_is = refl;
      packets_is = refl;
      octets_is = refl;
    } in
    let made : IsFlowRemoved body (flow_removed_of body b.0) = record {
      front = front;
      spelled = only_match_takes (drop 40 body) b.0 (IsBytes-drop 40 body fits) b.1;
    } in
    subst (λ (x : FlowRemoved). IsFlowRemoved body x) (ok_is Refusal (flow_removed_of body b.0) r b.2) made

port_status_takes : (body : List ℕ) (p : PortStatus) → port_status_at body ≡ Ok p → IsPortStatus body p
unfolding port_status_at
port_status_takes body p e =
    let q = after_one (not (eqb (length body) 72)) BAD_LENGTH (record { reason = number 1 0 body; port = number 4 8 body; up = eqb (number 4 44 body % 2) 0 }) p e in
    subst (λ (x : PortStatus). IsPortStatus body x) q.1 (record { whole = same (length body) 72 q.0; reason_is = refl; port_is = refl; up_is = refl })

packet_out_takes : (body : List ℕ) (p : PacketOut) → packet_out_at body ≡ Ok p → IsPacketOut body p
unfolding packet_out_at
packet_out_takes body p e =
    let rest = drop 16 body in
    let len = number 2 8 body in
    let make : List ℕ → PacketOut = λ actions. record { buffer = number 4 0 body; in_port = number 4 4 body; actions = actions; payload = drop len rest } in
    let a = passed (ltb (length body) 16 || ltb (length rest) len) BAD_LENGTH (actions_at (take len rest) >>= λ actions. Ok (make actions)) p e in
    let b = bind_ok (actions_at (take len rest)) (λ actions. Ok (make actions)) p a.1 in
    let long = or_false (ltb (length body) 16) (ltb (length rest) len) a.0 in
    let room : len ≤ length rest = ltb-false (length rest) len long.1 in
    let made : IsPacketOut body (make b.0) = record {
      there = ltb-false (length body) 16 long.0;
      buffer_is = refl;
      in_port_is = refl;
      text = take len rest;
      length_is = omega (arith, length-take len rest);
      actions = actions_take (take len rest) b.0 b.1;
      rest_is = sym (take-append-drop len rest);
    } in
    subst (λ (x : PacketOut). IsPacketOut body x) (ok_is Refusal (make b.0) p b.2) made

-- a choice that gave something
one_of : (b : Bool) (x y : FlowCommand) (rest : Result FlowCommand Refusal) → cond b (Ok x) rest ≡ Ok y → ((b ≡ true) × (x ≡ y)) ⊎ (rest ≡ Ok y)
one_of true x y rest e = inl (refl, ok_is Refusal x y e)
one_of false x y rest e = inr e

is_command : (n k : ℕ) (x y : FlowCommand) → command_number x ≡ k → (eqb n k ≡ true) × (x ≡ y) → n ≡ command_number y
is_command n k x y number h = eqb-true n k h.0 ∙ sym number ∙ ap command_number h.1

abbrev refused_command : Result FlowCommand Refusal
refused_command = Err BAD_COMMAND

command_takes : (n : ℕ) (command : FlowCommand) → flow_command_of n ≡ Ok command → n ≡ command_number command
unfolding command_number flow_command_of
command_takes n command e =
    let r4 = cond (eqb n 4) (Ok DeleteStrict) refused_command in
    let r3 = cond (eqb n 3) (Ok Delete) r4 in
    let r2 = cond (eqb n 2) (Ok ModifyStrict) r3 in
    let r1 = cond (eqb n 1) (Ok Modify) r2 in
    elim (one_of (eqb n 0) Add command r1 e) [
      | inl h ↦ is_command n 0 Add command refl h
      | inr e1 ↦ elim (one_of (eqb n 1) Modify command r2 e1) [
        | inl h ↦ is_command n 1 Modify command refl h
        | inr e2 ↦ elim (one_of (eqb n 2) ModifyStrict command r3 e2) [
          | inl h ↦ is_command n 2 ModifyStrict command refl h
          | inr e3 ↦ elim (one_of (eqb n 3) Delete command r4 e3) [
            | inl h ↦ is_command n 3 Delete command refl h
            | inr e4 ↦ elim (one_of (eqb n 4) DeleteStrict command refused_command e4) [
              | inl h ↦ is_command n 4 DeleteStrict command refl h
              | inr e5 ↦ absurd cc
            ]
          ]
        ]
      ]
    ]

-- a match, and instructions behind it
record TakesBoth (bytes : List ℕ) (m : Match) (ports : List ℕ) : Type 0 where
  pub text : List ℕ
  pub instructions : List ℕ
  pub spelled : IsSpelled text m
  pub applies : SpellsInstructions instructions ports
  pub parts : bytes ≡ text ++ instructions

abbrev match_pair : Match → List ℕ → Match × List ℕ
match_pair m ports = (m, ports)

both_take : (bytes : List ℕ) (m : Match) (ports : List ℕ) → IsBytes bytes → match_and_actions_at bytes ≡ Ok (m, ports) → TakesBoth bytes m ports
unfolding match_and_actions_at
both_take bytes m ports fits e =
    let a = bind_ok (as_refusal (matches.match_at bytes)) (λ found. instructions_at (drop found.1 bytes) >>= λ ports. Ok (found.0, ports)) (m, ports) e in
    let b = bind_ok (instructions_at (drop a.0.1 bytes)) (λ ports. Ok (match_pair a.0.0 ports)) (m, ports) a.2 in
    let t = match_at_front bytes a.0.0 a.0.1 fits a.1 in
    let pair = ok_is Refusal (match_pair a.0.0 b.0) (match_pair m ports) b.2 in
    let made : TakesBoth bytes a.0.0 b.0 = record {
      text = t.text;
      instructions = drop a.0.1 bytes;
      spelled = t.spelled;
      applies = instructions_take (drop a.0.1 bytes) b.0 b.1;
      parts = t.parts;
    } in
    subst (λ (x : Match × List ℕ). TakesBoth bytes x.0 x.1) pair made

flow_mod_takes : (body : List ℕ) (c : FlowMod) → IsBytes body → flow_mod_at body ≡ Ok c → IsFlowMod body c
unfolding flow_mod_at flow_mod_behind command_at flow_mod_of
flow_mod_takes body c fits e =
    let a = passed (ltb (length body) 40) BAD_LENGTH (command_at body >>= λ command. match_and_actions_at (drop 40 body) >>= λ behind. Ok (flow_mod_of body command behind.0 behind.1)) c e in
    let b = bind_ok (command_at body) (λ command. match_and_actions_at (drop 40 body) >>= λ behind. Ok (flow_mod_of body command behind.0 behind.1)) c a.1 in
    let d = bind_ok (match_and_actions_at (drop 40 body)) (λ behind. Ok (flow_mod_of body b.0 behind.0 behind.1)) c b.2 in
    let t = both_take (drop 40 body) d.0.0 d.0.1 (IsBytes-drop 40 body fits) d.1 in
    let front : IsFlowModFront body (flow_mod_of body b.0 d.0.0 d.0.1) = record {
      there = ltb-false (length body) 40 a.0;
      cookie_is = refl;
      cookie_mask_is = refl;
      table_is = refl;
      command_is = command_takes (number 1 17 body) b.0 b.1;
      idle_is = refl;
      hard_is = refl;
      priority_is = refl;
      buffer_is = refl;
      out_port_is = refl;
      out_group_is = refl;
      flags_is = refl;
    } in
    let made : IsFlowMod body (flow_mod_of body b.0 d.0.0 d.0.1) = record {
      front = front;
      text = t.text;
      instructions = t.instructions;
      spelled = t.spelled;
      applies = t.applies;
      rest_is = t.parts;
    } in
    subst (λ (x : FlowMod). IsFlowMod body x) (ok_is Refusal (flow_mod_of body b.0 d.0.0 d.0.1) c d.2) made

abbrev two_numbers : ℕ → ℕ → ℕ × ℕ
two_numbers a b = (a, b)

role_takes : (body : List ℕ) (r : ℕ × ℕ) → role_at body ≡ Ok r → IsRole body r.0 r.1
unfolding role_at
role_takes body r e =
    let p = after_one (not (eqb (length body) 16)) BAD_LENGTH (two_numbers (number 4 0 body) (number 8 8 body)) r e in
    subst (λ (x : ℕ × ℕ). IsRole body x.0 x.1) p.1 (record { whole = same (length body) 16 p.0; role_is = refl; generation_is = refl })

-- ---- the table of types

-- Each row that gave the message gave a body of its type.
abbrev AreBodies : List (ℕ × Result OfMessage Refusal) → List ℕ → OfMessage → Type 0
AreBodies [] body m = Unit {0}
AreBodies (row ∷ rows) body m = (row.1 ≡ Ok m → IsBody row.0 body m) × AreBodies rows body m

beside_step : (kind : ℕ) (row : ℕ × Result OfMessage Refusal) (rest : Result OfMessage Refusal) (body : List ℕ) (m : OfMessage) (b : Bool) → eqb kind row.0 ≡ b
    → (row.1 ≡ Ok m → IsBody row.0 body m) → (rest ≡ Ok m → IsBody kind body m) → cond b row.1 rest ≡ Ok m → IsBody kind body m
beside_step kind row rest body m true e this more h = subst (λ (n : ℕ). IsBody n body m) (sym (eqb-true kind row.0 e)) (this h)
beside_step kind row rest body m false e this more h = more h

beside_takes : (kind : ℕ) (rows : List (ℕ × Result OfMessage Refusal)) (body : List ℕ) (m : OfMessage) → AreBodies rows body m → beside kind rows ≡ Ok m → IsBody kind body m
beside_takes kind [] body m all e = absurd cc
beside_takes kind (row ∷ rows) body m all e = beside_step kind row (beside kind rows) body m (eqb kind row.0) refl all.0 (beside_takes kind rows body m all.1) e

rows_take : (body : List ℕ) (m : OfMessage) → IsBytes body → AreBodies (bodies_at body) body m
rows_take body m fits = (
  λ e. subst (λ (x : OfMessage). IsBody 0 body x) (ok_is Refusal plain.Hello m e) (refl, tt),
  (
    error_takes body m,
    (
      λ e. subst (λ (x : OfMessage). IsBody 2 body x) (ok_is Refusal (plain.EchoRequest body) m e) (refl, refl),
      (
        λ e. subst (λ (x : OfMessage). IsBody 3 body x) (ok_is Refusal (plain.EchoReply body) m e) (refl, refl),
        (
          experimenter_takes body m,
          (
            λ e. let p = empty_takes body plain.FeaturesRequest m e in subst (λ (x : OfMessage). IsBody 5 body x) p.1 (refl, p.0),
            (
              features_takes body m,
              (
                λ e. let a = bind_ok (packet_in_at body) (λ p. Ok (plain.PacketIn p)) m e in
                    subst (λ (x : OfMessage). IsBody 10 body x) (ok_is Refusal (plain.PacketIn a.0) m a.2) (refl, packet_in_takes body a.0 fits a.1),
                (
                  λ e. let a = bind_ok (flow_removed_at body) (λ r. Ok (plain.FlowRemoved r)) m e in
                      subst (λ (x : OfMessage). IsBody 11 body x) (ok_is Refusal (plain.FlowRemoved a.0) m a.2) (refl, flow_removed_takes body a.0 fits a.1),
                  (
                    λ e. let a = bind_ok (port_status_at body) (λ p. Ok (plain.PortStatus p)) m e in
                        subst (λ (x : OfMessage). IsBody 12 body x) (ok_is Refusal (plain.PortStatus a.0) m a.2) (refl, port_status_takes body a.0 a.1),
                    (
                      λ e. let a = bind_ok (packet_out_at body) (λ p. Ok (plain.PacketOut p)) m e in
                          subst (λ (x : OfMessage). IsBody 13 body x) (ok_is Refusal (plain.PacketOut a.0) m a.2) (refl, packet_out_takes body a.0 a.1),
                      (
                        λ e. let a = bind_ok (flow_mod_at body) (λ c. Ok (plain.FlowMod c)) m e in
                            subst (λ (x : OfMessage). IsBody 14 body x) (ok_is Refusal (plain.FlowMod a.0) m a.2) (refl, flow_mod_takes body a.0 fits a.1),
                        (
                          λ e. let p = empty_takes body plain.BarrierRequest m e in subst (λ (x : OfMessage). IsBody 20 body x) p.1 (refl, p.0),
                          (
                            λ e. let p = empty_takes body plain.BarrierReply m e in subst (λ (x : OfMessage). IsBody 21 body x) p.1 (refl, p.0),
                            (
                              λ e. let a = bind_ok (role_at body) (λ r. Ok (plain.RoleRequest r.0 r.1)) m e in
                                  subst (λ (x : OfMessage). IsBody 24 body x) (ok_is Refusal (plain.RoleRequest a.0.0 a.0.1) m a.2) (refl, role_takes body a.0 a.1),
                              (
                                λ e. let a = bind_ok (role_at body) (λ r. Ok (plain.RoleReply r.0 r.1)) m e in
                                    subst (λ (x : OfMessage). IsBody 25 body x) (ok_is Refusal (plain.RoleReply a.0.0 a.0.1) m a.2) (refl, role_takes body a.0 a.1),
                                tt,
                              ),
                            ),
                          ),
                        ),
                      ),
                    ),
                  ),
                ),
              ),
            ),
          ),
        ),
      ),
    ),
  ),
)

body_takes : (kind : ℕ) (body : List ℕ) (m : OfMessage) → IsBytes body → body_at kind body ≡ Ok m → IsBody kind body m
unfolding body_at
body_takes kind body m fits e = beside_takes kind (bodies_at body) body m (rows_take body m fits) e

-- ---- the message

is_four : (some wrong : Bool) → (some && wrong) ≡ false → some ≡ true → wrong ≡ false
is_four true wrong e h = e
is_four false wrong e h = absurd cc

pub message_takes : (bytes : List ℕ) (m : OfMessage) → IsBytes bytes → message_at bytes ≡ Ok m → Spells bytes (xid_of bytes) m
unfolding message_at xid_of
message_takes bytes m fits e =
    let wrong = not (eqb (number 1 0 bytes) 4) in
    let uneven = not (eqb (number 2 2 bytes) (length bytes)) in
    let read = body_at (number 1 1 bytes) (drop 8 bytes) in
    let p = passed (leb 1 (length bytes) && wrong) BAD_VERSION (cond (ltb (length bytes) 8 || uneven) (Err BAD_LENGTH) read) m e in
    let q = passed (ltb (length bytes) 8 || uneven) BAD_LENGTH read m p.1 in
    let long = or_false (ltb (length bytes) 8) uneven q.0 in
    let there : 8 ≤ length bytes = ltb-false (length bytes) 8 long.0 in
    let b = body_takes (number 1 1 bytes) (drop 8 bytes) m (IsBytes-drop 8 bytes fits) q.1 in
    record {
      there = there;
      version_is = same (number 1 0 bytes) 4 (is_four (leb 1 (length bytes)) wrong p.0 (le-leb 1 (length bytes) (omega arith)));
      kind_is = sym b.0;
      length_is = same (number 2 2 bytes) (length bytes) long.1;
      xid_is = rw long.0 refl;
      body = b.1;
    }

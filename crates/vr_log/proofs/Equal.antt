-- Two lists of entries are the same exactly where they are equal.
use Rattle.std.proofs.Common.{◌≡◌, ℕ, Bool, true, false, ◌&&◌, List, [], ◌∷◌, ◌++◌, refl, ap, sym, ◌∙◌}
use Rattle.std.specs.Prelude.{nat_eq, ◌↔◌, IsTrue}
use Rattle.std.proofs.lemmas.Bool.{eqb-true, eq-eqb, and_parts}
use Rattle.of_types.specs.declared.message.Event.{Event}
use Rattle.of_types.specs.Matching.{same_match}
use Rattle.of_types.specs.declared.message.FlowRemoved.{FlowRemoved}
use Rattle.of_types.specs.declared.message.Match.{Match}
use Rattle.of_types.proofs.SameMatches.{match_is, match_itself}
use Rattle.of_types.specs.declared.message.Happening.{Happening}
use Rattle.of_types.specs.declared.message.Happening.TheVariants as happening
use Rattle.of_types.specs.declared.message.PacketIn.{PacketIn}
use Rattle.of_types.specs.declared.message.PortStatus.{PortStatus}
use Rattle.vr_log.specs.declared.entry.Entry.{Entry}
use Rattle.vr_log.specs.declared.entry.Entry.TheVariants.{Received, Processed}
use Rattle.vr_log.specs.Same.{same_numbers, same_flag, same_packet, same_status, same_removed, same_happening, same_event, same_entry, same_entries}

pub numbers_equal : (xs ys : List ℕ) → same_numbers xs ys ≡ true → xs ≡ ys
numbers_equal [] [] h = refl
numbers_equal (a ∷ xs) (b ∷ ys) h =
    let p = and_parts (nat_eq a b) (same_numbers xs ys) h in
    let e : a ≡ b = eqb-true a b p.0 in let r = numbers_equal xs ys p.1 in cc
numbers_equal [] (b ∷ ys) h = absurd cc
numbers_equal (a ∷ xs) [] h = absurd cc

pub numbers_same : (xs : List ℕ) → same_numbers xs xs ≡ true
numbers_same [] = refl
numbers_same (x ∷ xs) = rw (eq-eqb x x refl, numbers_same xs) refl

flag_equal : (a b : Bool) → same_flag a b ≡ true → a ≡ b
flag_equal true true h = refl
flag_equal false false h = refl
flag_equal true false h = absurd cc
flag_equal false true h = absurd cc

flag_same : (b : Bool) → same_flag b b ≡ true
flag_same true = refl
flag_same false = refl

packet_equal : (p q : PacketIn) → same_packet p q ≡ true → p ≡ q
packet_equal p q h =
    let k = and_parts (nat_eq p.reason q.reason && nat_eq p.cookie q.cookie && nat_eq p.in_port q.in_port) (same_numbers p.payload q.payload) h in
    let l = and_parts (nat_eq p.reason q.reason && nat_eq p.cookie q.cookie) (nat_eq p.in_port q.in_port) k.0 in
    let m = and_parts (nat_eq p.reason q.reason) (nat_eq p.cookie q.cookie) l.0 in
    ap (λ (r : ℕ). record p { reason = r }) (eqb-true p.reason q.reason m.0)
    ∙ (ap (λ (r : ℕ). record p { reason = q.reason; cookie = r }) (eqb-true p.cookie q.cookie m.1)
    ∙ (ap (λ (r : ℕ). record p { reason = q.reason; cookie = q.cookie; in_port = r }) (eqb-true p.in_port q.in_port l.1)
    ∙ ap (λ (r : List ℕ). record p { reason = q.reason; cookie = q.cookie; in_port = q.in_port; payload = r }) (numbers_equal p.payload q.payload k.1)))

status_equal : (p q : PortStatus) → same_status p q ≡ true → p ≡ q
status_equal p q h =
    let k = and_parts (nat_eq p.reason q.reason && nat_eq p.port q.port) (same_flag p.up q.up) h in
    let m = and_parts (nat_eq p.reason q.reason) (nat_eq p.port q.port) k.0 in
    ap (λ (r : ℕ). record p { reason = r }) (eqb-true p.reason q.reason m.0)
    ∙ (ap (λ (r : ℕ). record p { reason = q.reason; port = r }) (eqb-true p.port q.port m.1)
    ∙ ap (λ (r : Bool). record p { reason = q.reason; port = q.port; up = r }) (flag_equal p.up q.up k.1))

abbrev removed : ℕ → ℕ → ℕ → ℕ → ℕ → ℕ → ℕ → ℕ → Match → FlowRemoved
removed cookie priority reason duration idle hard packets octets matching =
    record { cookie = cookie; priority = priority; reason = reason; duration = duration; idle = idle; hard = hard; packets = packets; octets = octets; matching = matching }

removed_equal : (p q : FlowRemoved) → same_removed p q ≡ true → p ≡ q
removed_equal p q h =
    let k8 = and_parts _ (same_match p.matching q.matching) h in
    let k7 = and_parts _ (nat_eq p.octets q.octets) k8.0 in
    let k6 = and_parts _ (nat_eq p.packets q.packets) k7.0 in
    let k5 = and_parts _ (nat_eq p.hard q.hard) k6.0 in
    let k4 = and_parts _ (nat_eq p.idle q.idle) k5.0 in
    let k3 = and_parts _ (nat_eq p.duration q.duration) k4.0 in
    let k2 = and_parts _ (nat_eq p.reason q.reason) k3.0 in
    let k1 = and_parts (nat_eq p.cookie q.cookie) (nat_eq p.priority q.priority) k2.0 in
    ap (λ (x : ℕ). removed x p.priority p.reason p.duration p.idle p.hard p.packets p.octets p.matching) (eqb-true p.cookie q.cookie k1.0)
    ∙ ap (λ (x : ℕ). removed q.cookie x p.reason p.duration p.idle p.hard p.packets p.octets p.matching) (eqb-true p.priority q.priority k1.1)
    ∙ ap (λ (x : ℕ). removed q.cookie q.priority x p.duration p.idle p.hard p.packets p.octets p.matching) (eqb-true p.reason q.reason k2.1)
    ∙ ap (λ (x : ℕ). removed q.cookie q.priority q.reason x p.idle p.hard p.packets p.octets p.matching) (eqb-true p.duration q.duration k3.1)
    ∙ ap (λ (x : ℕ). removed q.cookie q.priority q.reason q.duration x p.hard p.packets p.octets p.matching) (eqb-true p.idle q.idle k4.1)
    ∙ ap (λ (x : ℕ). removed q.cookie q.priority q.reason q.duration q.idle x p.packets p.octets p.matching) (eqb-true p.hard q.hard k5.1)
    ∙ ap (λ (x : ℕ). removed q.cookie q.priority q.reason q.duration q.idle q.hard x p.octets p.matching) (eqb-true p.packets q.packets k6.1)
    ∙ ap (λ (x : ℕ). removed q.cookie q.priority q.reason q.duration q.idle q.hard q.packets x p.matching) (eqb-true p.octets q.octets k7.1)
    ∙ ap (λ (x : Match). removed q.cookie q.priority q.reason q.duration q.idle q.hard q.packets q.octets x) (match_is p.matching q.matching k8.1)

happening_equal : (a b : Happening) → same_happening a b ≡ true → a ≡ b
happening_equal (happening.PacketIn p) (happening.PacketIn q) h = ap (λ (r : PacketIn). happening.PacketIn r) (packet_equal p q h)
happening_equal (happening.PortStatus p) (happening.PortStatus q) h = ap (λ (r : PortStatus). happening.PortStatus r) (status_equal p q h)
happening_equal (happening.PacketIn p) (happening.PortStatus q) h = absurd cc
happening_equal (happening.PortStatus p) (happening.PacketIn q) h = absurd cc
happening_equal (happening.FlowRemoved p) (happening.FlowRemoved q) h = ap (λ (r : FlowRemoved). happening.FlowRemoved r) (removed_equal p q h)
happening_equal (happening.FlowRemoved p) (happening.PacketIn q) h = absurd cc
happening_equal (happening.FlowRemoved p) (happening.PortStatus q) h = absurd cc
happening_equal (happening.PacketIn p) (happening.FlowRemoved q) h = absurd cc
happening_equal (happening.PortStatus p) (happening.FlowRemoved q) h = absurd cc

happening_same : (h : Happening) → same_happening h h ≡ true
happening_same (happening.PacketIn p) = rw (eq-eqb p.reason p.reason refl, eq-eqb p.cookie p.cookie refl, eq-eqb p.in_port p.in_port refl, numbers_same p.payload) refl
happening_same (happening.FlowRemoved p) =
    rw (eq-eqb p.cookie p.cookie refl, eq-eqb p.priority p.priority refl, eq-eqb p.reason p.reason refl, eq-eqb p.duration p.duration refl, eq-eqb p.idle p.idle refl, eq-eqb p.hard p.hard refl, eq-eqb p.packets p.packets refl, eq-eqb p.octets p.octets refl) (match_itself p.matching)
happening_same (happening.PortStatus p) = rw (eq-eqb p.reason p.reason refl, eq-eqb p.port p.port refl, flag_same p.up) refl

event_equal : (a b : Event) → same_event a b ≡ true → a ≡ b
event_equal a b h =
    let k = and_parts (nat_eq a.switch b.switch && nat_eq a.life b.life && nat_eq a.number b.number) (same_happening a.what b.what) h in
    let l = and_parts (nat_eq a.switch b.switch && nat_eq a.life b.life) (nat_eq a.number b.number) k.0 in
    let m = and_parts (nat_eq a.switch b.switch) (nat_eq a.life b.life) l.0 in
    ap (λ (r : ℕ). record a { switch = r }) (eqb-true a.switch b.switch m.0)
    ∙ (ap (λ (r : ℕ). record a { switch = b.switch; life = r }) (eqb-true a.life b.life m.1)
    ∙ (ap (λ (r : ℕ). record a { switch = b.switch; life = b.life; number = r }) (eqb-true a.number b.number l.1)
    ∙ ap (λ (r : Happening). record a { switch = b.switch; life = b.life; number = b.number; what = r }) (happening_equal a.what b.what k.1)))

pub entry_equal : (a b : Entry) → same_entry a b ≡ true → a ≡ b
entry_equal (Received a) (Received b) h = ap (λ (e : Event). Received e) (event_equal a b h)
entry_equal (Processed i) (Processed j) h = ap (λ (n : ℕ). Processed n) (eqb-true i j h)
entry_equal (Received a) (Processed j) h = absurd cc
entry_equal (Processed i) (Received b) h = absurd cc

pub entry_same : (e : Entry) → same_entry e e ≡ true
entry_same (Received e) = rw (eq-eqb e.switch e.switch refl, eq-eqb e.life e.life refl, eq-eqb e.number e.number refl, happening_same e.what) refl
entry_same (Processed j) = eq-eqb j j refl

pub entries_equal : (xs ys : List Entry) → same_entries xs ys ≡ true → xs ≡ ys
entries_equal [] [] h = refl
entries_equal (a ∷ xs) (b ∷ ys) h =
    let p = and_parts (same_entry a b) (same_entries xs ys) h in
    let e = entry_equal a b p.0 in let r = entries_equal xs ys p.1 in cc
entries_equal [] (b ∷ ys) h = absurd cc
entries_equal (a ∷ xs) [] h = absurd cc

pub entries_same : (xs : List Entry) → same_entries xs xs ≡ true
entries_same [] = refl
entries_same (x ∷ xs) = rw (entry_same x, entries_same xs) refl

pub entry_decides : (r : Bool) (a b : Entry) → r ≡ same_entry a b → IsTrue r ↔ (a ≡ b)
entry_decides r a b e = (λ t. entry_equal a b (sym e ∙ t), λ same. e ∙ (ap (λ (x : Entry). same_entry a x) (sym same) ∙ entry_same a))

pub entries_decide : (r : Bool) (xs ys : List Entry) → r ≡ same_entries xs ys → IsTrue r ↔ (xs ≡ ys)
entries_decide r xs ys e = (λ t. entries_equal xs ys (sym e ∙ t), λ same. e ∙ (ap (λ (x : List Entry). same_entries xs x) (sym same) ∙ entries_same xs))

-- behind the same front
pub same_behind : (front xs ys : List Entry) → same_entries (front ++ xs) (front ++ ys) ≡ same_entries xs ys
same_behind [] xs ys = refl
same_behind (e ∷ front) xs ys = rw (entry_same e) (same_behind front xs ys)

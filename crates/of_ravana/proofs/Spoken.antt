-- Bytes spell at most one of what a controller and a switch say.
use Rattle.std.proofs.Common.{◌≡◌, ℕ, List, ap, subst}
use Rattle.of_messages.specs.Grammar.{Spells}
use Rattle.of_messages.proofs.Laws as messages
use Rattle.of_types.specs.declared.message.Extension.{Extension}
use Rattle.of_types.specs.declared.message.OfMessage.{OfMessage}
use Rattle.of_types.specs.declared.message.OfMessage.TheVariants as plain
use Rattle.of_types.specs.declared.message.Spoken.{Spoken}
use Rattle.of_types.specs.declared.message.Spoken.TheVariants as spoken
use Rattle.of_ravana.specs.Grammar.{SpellsExtension, SpellsSpoken}
use Rattle.of_ravana.proofs.Laws.{one_message}

-- a plain message that is said is spelled, and is no EXPERIMENTER
plain_spells : (bytes : List ℕ) (xid : ℕ) (m : OfMessage) → SpellsSpoken bytes xid (spoken.Plain m) → Spells bytes xid m
plain_spells bytes xid plain.Hello s = s
plain_spells bytes xid (plain.Error kind code head) s = s
plain_spells bytes xid (plain.EchoRequest body) s = s
plain_spells bytes xid (plain.EchoReply body) s = s
plain_spells bytes xid (plain.Experimenter body) s = absurd s
plain_spells bytes xid plain.FeaturesRequest s = s
plain_spells bytes xid (plain.FeaturesReply datapath) s = s
plain_spells bytes xid (plain.PacketIn p) s = s
plain_spells bytes xid (plain.FlowRemoved r) s = s
plain_spells bytes xid (plain.PortStatus p) s = s
plain_spells bytes xid (plain.PacketOut p) s = s
plain_spells bytes xid (plain.FlowMod c) s = s
plain_spells bytes xid plain.BarrierRequest s = s
plain_spells bytes xid plain.BarrierReply s = s
plain_spells bytes xid (plain.RoleRequest role generation) s = s
plain_spells bytes xid (plain.RoleReply role generation) s = s

same_body : (body other : List ℕ) → plain.Experimenter body ≡ plain.Experimenter other → body ≡ other
same_body body other e = cc

-- the bytes of a message of the extension spell no plain message
pub no_plain : (bytes : List ℕ) (xid other : ℕ) (said : Extension) (m : OfMessage) → SpellsSpoken bytes xid (spoken.Ravana said) → SpellsSpoken bytes other (spoken.Plain m) → ⊥
no_plain bytes xid other said m s t =
    let same = messages.one_message bytes other xid m (plain.Experimenter s.0) (plain_spells bytes other m t) s.1 in
    subst (λ (n : OfMessage). SpellsSpoken bytes other (spoken.Plain n)) same.1 t

pub one_spoken : (bytes : List ℕ) (xid other : ℕ) (said told : Spoken) → SpellsSpoken bytes xid said → SpellsSpoken bytes other told → (xid ≡ other) × (said ≡ told)
one_spoken bytes xid other (spoken.Plain m) (spoken.Plain n) s t =
    let same = messages.one_message bytes xid other m n (plain_spells bytes xid m s) (plain_spells bytes other n t) in
    (same.0, ap (λ (x : OfMessage). spoken.Plain x) same.1)
one_spoken bytes xid other (spoken.Plain m) (spoken.Ravana told) s t = absurd (no_plain bytes other xid told m t s)
one_spoken bytes xid other (spoken.Ravana said) (spoken.Plain n) s t = absurd (no_plain bytes xid other said n s t)
one_spoken bytes xid other (spoken.Ravana said) (spoken.Ravana told) s t =
    let same = messages.one_message bytes xid other (plain.Experimenter s.0) (plain.Experimenter t.0) s.1 t.1 in
    let body = same_body s.0 t.0 same.1 in
    (same.0, ap (λ (x : Extension). spoken.Ravana x) (one_message t.0 said told (subst (λ (xs : List ℕ). SpellsExtension xs said) body s.2) t.2))

-- A match whose first bytes are those of one that asks for a port alone asks for it alone.
use Rattle.std.proofs.Common.{◌≡◌, ℕ, ◌-◌, ◌^◌, ◌<◌, ◌≤◌, List, [], ◌∷◌, ◌++◌, length, take, drop, lit<, Some, None, Ok, refl, sym, ap, ◌∙◌, arith}
use Rattle.std.proofs.lemmas.List.{length-drop, length-take, take-append-drop}
use Rattle.of_bytes.specs.Numbers.{big_number, big_bytes}
use Rattle.of_bytes.proofs.Bytes.{big_from-lt, IsBytes, IsBytes-drop, bytes_number, number_bytes}
use Rattle.of_match.specs.declared.kind.FieldKind.TheVariants.{InPort}
use Rattle.of_match.specs.Field.{Field}
use Rattle.of_match.specs.Reading.{match_at, match_of, match_of_port}
use Rattle.of_match.specs.Spelling.{IsSpelled}
use Rattle.of_match.specs.Writing.{exact, address48, address32, link_fields, network_fields, transport_fields, written_of, spelled, canonical_bare_match, canonical_match}
use Rattle.of_match.proofs.Laws.{spelled_read}

-- the type and the length of a match of one port, and the class, the number and the length of its field
abbrev pub front : List ℕ
front = 0 ∷ 1 ∷ 0 ∷ 12 ∷ 128 ∷ 0 ∷ 0 ∷ 4 ∷ []

alone_spelled : (port : ℕ) (padding : List ℕ) → port < 256 ^ 4 → length padding ≡ 4 → IsSpelled (front ++ (big_bytes 4 port ++ padding)) (match_of_port port)
unfolding spelled match_of
alone_spelled port padding fits four =
    let field : Field = record { kind = InPort; value = port; mask = None } in (
      field ∷ [],
      padding,
      record {
        whole = refl;
        short = lit< tt;
        filled = omega (arith, four);
        each = (record { value = fits; mask = tt }, tt);
        once = (refl, tt);
        said = refl;
        prerequisites = refl;
      },
    )

pub is_alone : (bytes : List ℕ) → IsBytes bytes → 16 ≤ length bytes → bytes ≡ front ++ drop 8 bytes → match_at bytes ≡ Ok (match_of_port (big_number 4 (drop 8 bytes)), 16)
is_alone bytes fits there begins =
    let behind = drop 8 bytes in
    let port = big_number 4 behind in
    let padding = take 4 (drop 4 behind) in
    let rest = drop 4 (drop 4 behind) in
    let size : length behind ≡ length bytes - 8 = length-drop 8 bytes in
    let four : length padding ≡ 4 = omega (arith, size, length-drop 4 behind, length-take 4 (drop 4 behind)) in
    let lt = big_from-lt 0 4 behind (IsBytes-drop 8 bytes fits) in
    let parts : behind ≡ take 4 behind ++ (padding ++ rest) = sym (take-append-drop 4 behind) ∙ ap (λ (t : List ℕ). take 4 behind ++ t) (sym (take-append-drop 4 (drop 4 behind))) in
    let number : take 4 behind ≡ big_bytes 4 port = sym (bytes_number 4 behind (IsBytes-drop 8 bytes fits) (omega (arith, size))) in
    let whole : bytes ≡ (front ++ (big_bytes 4 port ++ padding)) ++ rest = begins ∙ ap (λ (t : List ℕ). front ++ t) (parts ∙ ap (λ (t : List ℕ). t ++ (padding ++ rest)) number) in
    spelled_read bytes (front ++ (big_bytes 4 port ++ padding)) rest (match_of_port port) whole (alone_spelled port padding (omega (arith, lt)) four) ∙ ap (λ n. Ok (match_of_port port, n)) (omega (arith, four))

-- ---- its one written form

alone_written : (port : ℕ) → canonical_match (match_of_port port) ≡ front ++ (big_bytes 4 port ++ (0 ∷ 0 ∷ 0 ∷ 0 ∷ []))
unfolding canonical_match canonical_bare_match written_of link_fields network_fields transport_fields exact address48 address32 spelled
alone_written port = refl

pub is_met : (bytes rest : List ℕ) (port : ℕ) → port < 2 ^ 32 → bytes ≡ canonical_match (match_of_port port) ++ rest → (16 ≤ length bytes) × (bytes ≡ front ++ drop 8 bytes) × (big_number 4 (drop 8 bytes) ≡ port)
is_met bytes rest port fits written =
    let behind : List ℕ = big_bytes 4 port ++ (0 ∷ 0 ∷ 0 ∷ 0 ∷ rest) in
    let whole : bytes ≡ front ++ behind = written ∙ ap (λ (t : List ℕ). t ++ rest) (alone_written port) in
    let last : drop 8 bytes ≡ behind = ap (drop 8) whole in
    (omega (arith, ap length whole), whole ∙ ap (λ (t : List ℕ). front ++ t) (sym last), ap (big_number 4) last ∙ number_bytes 4 port (0 ∷ 0 ∷ 0 ∷ 0 ∷ rest) fits)

-- A match whose first bytes are those of one that asks for a port and a whole destination asks for these alone.
use Rattle.std.proofs.Common.{◌≡◌, ℕ, ◌^◌, ◌<◌, ◌≤◌, List, [], ◌∷◌, ◌++◌, length, take, drop, lit<, None, Ok, refl, sym, ap, ◌∙◌, arith}
use Rattle.std.proofs.lemmas.List.{drop-drop, length-drop, length-take, take-append-drop}
use Rattle.of_bytes.specs.Numbers.{big_number, big_bytes, four, six, zeros}
use Rattle.of_bytes.proofs.Bytes.{big_from-lt, IsBytes, IsBytes-drop, bytes_number}
use Rattle.of_match.specs.declared.kind.FieldKind.TheVariants.{InPort, EthDst}
use Rattle.of_match.specs.Field.{Field}
use Rattle.of_match.specs.Reading.{match_at, match_of}
use Rattle.of_match.specs.Spelling.{IsSpelled}
use Rattle.of_match.specs.Writing.{exact, address48, address32, link_fields, network_fields, transport_fields, written_of, spelled, canonical_bare_match, canonical_match, match_of_pair}
use Rattle.of_match.proofs.Laws.{spelled_read}

-- its type and its length, and the class, the number and the length of its first field
abbrev pub front : List ℕ
front = 0 ∷ 1 ∷ 0 ∷ 22 ∷ 128 ∷ 0 ∷ 0 ∷ 4 ∷ []

-- the class, the number and the length of its second field
abbrev pub second_front : List ℕ
second_front = 128 ∷ 0 ∷ 6 ∷ 6 ∷ []

-- its bytes
abbrev bytes_of : ℕ → ℕ → List ℕ → List ℕ
bytes_of port destination padding = front ++ (big_bytes 4 port ++ (second_front ++ (big_bytes 6 destination ++ padding)))

pair_spelled : (port destination : ℕ) (padding : List ℕ) → port < 256 ^ 4 → destination < 256 ^ 6 → length padding ≡ 2 → IsSpelled (bytes_of port destination padding) (match_of_pair port destination)
unfolding spelled match_of
pair_spelled port destination padding fits fits_too two =
    let first : Field = record { kind = InPort; value = port; mask = None } in
    let second : Field = record { kind = EthDst; value = destination; mask = None } in (
      first ∷ second ∷ [],
      padding,
      record {
        whole = refl;
        short = lit< tt;
        filled = omega (arith, two);
        each = (record { value = fits; mask = tt }, (record { value = fits_too; mask = tt }, tt));
        once = (refl, (refl, tt));
        said = refl;
        prerequisites = refl;
      },
    )

-- a list that begins with the bytes of a number
parted : (count : ℕ) (bytes : List ℕ) → IsBytes bytes → count ≤ length bytes → bytes ≡ big_bytes count (big_number count bytes) ++ drop count bytes
parted count bytes fits there =
    sym (take-append-drop count bytes) ∙ ap (λ (t : List ℕ). t ++ drop count bytes) (sym (bytes_number count bytes fits there))

pub is_pair : (bytes : List ℕ) → IsBytes bytes → 24 ≤ length bytes → bytes ≡ front ++ drop 8 bytes → drop 12 bytes ≡ second_front ++ drop 4 (drop 12 bytes)
    → match_at bytes ≡ Ok (match_of_pair (big_number 4 (drop 8 bytes)) (big_number 6 (drop 16 bytes)), 24)
is_pair bytes fits there begins goes_on =
    let port = big_number 4 (drop 8 bytes) in
    let destination = big_number 6 (drop 16 bytes) in
    let behind = drop 6 (drop 16 bytes) in
    let padding = take 2 behind in
    let rest = drop 2 behind in
    let size = length-drop 16 bytes in
    let two : length padding ≡ 2 = omega (arith, there, size, length-drop 6 (drop 16 bytes), length-take 2 behind) in
    let last : drop 16 bytes ≡ big_bytes 6 destination ++ (padding ++ rest) =
    parted 6 (drop 16 bytes) (IsBytes-drop 16 bytes fits) (omega (arith, there, size))
    ∙ ap (λ (t : List ℕ). big_bytes 6 destination ++ t) (sym (take-append-drop 2 behind)) in
    let second : drop 12 bytes ≡ second_front ++ (big_bytes 6 destination ++ (padding ++ rest)) =
    goes_on ∙ ap (λ (t : List ℕ). second_front ++ t) (drop-drop 4 12 bytes ∙ last) in
    let first : drop 8 bytes ≡ big_bytes 4 port ++ (second_front ++ (big_bytes 6 destination ++ (padding ++ rest))) =
    parted 4 (drop 8 bytes) (IsBytes-drop 8 bytes fits) (omega (arith, there, length-drop 8 bytes))
    ∙ ap (λ (t : List ℕ). big_bytes 4 port ++ t) (drop-drop 4 8 bytes ∙ second) in
    let whole : bytes ≡ bytes_of port destination padding ++ rest = begins ∙ ap (λ (t : List ℕ). front ++ t) first in
    let lt = big_from-lt 0 4 (drop 8 bytes) (IsBytes-drop 8 bytes fits) in
    let lt_too = big_from-lt 0 6 (drop 16 bytes) (IsBytes-drop 16 bytes fits) in
    spelled_read bytes (bytes_of port destination padding) rest (match_of_pair port destination) whole (pair_spelled port destination padding (omega (arith, lt)) (omega (arith, lt_too)) two)
    ∙ ap (λ n. Ok (match_of_pair port destination, n)) (omega (arith, two))

-- ---- its one written form

pub pair_written : (port destination : ℕ) → canonical_match (match_of_pair port destination) ≡ (((front ++ four port) ++ second_front) ++ six destination) ++ zeros 2
unfolding canonical_match canonical_bare_match written_of link_fields network_fields transport_fields exact address48 address32 spelled four six zeros
pair_written port destination = refl

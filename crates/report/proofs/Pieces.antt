-- A text in parts, as it is made and as it is written.
use Rattle.std.proofs.Common.{◌≡◌, ◌<◌, ℕ, ◌+◌, List, [], ◌∷◌, ◌++◌, length, drop, get_or, refl, sym, ap, ◌∙◌, Result, Ok, Err, OnErr}
use Rattle.std.proofs.KnownBytes.{Appends-trans}
use Rattle.std.proofs.lemmas.List.{append-nil, append_assoc, drop_more}
use Rattle.std.specs.Io.KnownBytes.{Appends}
use Rattle.std.specs.Prelude.{Option}
use Rattle.report.specs.declared.parts.Part.{Part}
use Rattle.report.specs.Parts.{part_text, parts_text}
use Rattle.report.specs.Report.{hex_of}
use Rattle.streams.specs.Fronts.{AppendsFront}

-- the text of one part more
part_behind : (parts : List Part) (part : Part) → parts_text (parts ++ part ∷ []) ≡ parts_text parts ++ part_text part
part_behind [] part = append-nil (part_text part)
part_behind (first ∷ parts) part =
    ap (λ l. part_text first ++ l) (part_behind parts part) ∙ sym (append_assoc (part_text first) (parts_text parts) (part_text part))

-- a part of the words that wait and a body tells the digits of the body behind them
pub part_kept : (parts more : List Part) (part : Part) (text : List ℕ) → more ≡ parts ++ part ∷ [] → text ≡ parts_text parts ++ part.words →
    parts_text more ≡ text ++ hex_of part.body
part_kept parts more part text one told =
    ap parts_text one ∙ part_behind parts part ∙ sym (append_assoc (parts_text parts) part.words (hex_of part.body))
    ∙ ap (λ l. l ++ hex_of part.body) (sym told)

-- a front of what is written behind some bytes is, with them, a front of the whole
pub front_behind : (old mid new : Option (List ℕ)) (done bytes rest whole : List ℕ) → Appends old mid done → AppendsFront mid new bytes →
    done ++ (bytes ++ rest) ≡ whole → AppendsFront old new whole
front_behind old mid new done bytes rest whole wrote (front, left, parts, more) all = (
  done ++ front,
  left ++ rest,
  sym all ∙ ap (λ l. done ++ (l ++ rest)) parts ∙ ap (λ l. done ++ l) (append_assoc front left rest) ∙ sym (append_assoc done front (left ++ rest)),
  Appends-trans old mid new done front wrote more,
)

-- a front of the first bytes is one of the whole
pub front_before : (old new : Option (List ℕ)) (bytes rest : List ℕ) → AppendsFront old new bytes → AppendsFront old new (bytes ++ rest)
front_before old new bytes rest (front, left, parts, more) = (front, left ++ rest, ap (λ l. l ++ rest) parts ∙ append_assoc front left rest, more)

-- what holds holds of an error
pub if_err : {T E : Type 0} {P : Type 0} (result : Result T E) → P → OnErr result P
if_err (Ok x) holds = tt
if_err (Err e) holds = holds

-- a front of the last bytes is, with those before, one of the whole
pub front_of_last : {T E : Type 0} (result : Result T E) (old mid new : Option (List ℕ)) (bytes last : List ℕ) → Appends old mid bytes →
    OnErr result (AppendsFront mid new last) → OnErr result (AppendsFront old new (bytes ++ last))
front_of_last (Ok x) old mid new bytes last wrote front = tt
front_of_last (Err e) old mid new bytes last wrote front = front_behind old mid new bytes last [] (bytes ++ last) wrote front (ap (λ l. bytes ++ l) (append-nil last))

-- the parts from a place on are the one there and those behind
pub next_part : (parts : List Part) (i : ℕ) (part : Part) → i < length parts → part ≡ get_or parts i part →
    parts_text (drop i parts) ≡ part_text part ++ parts_text (drop (i + 1) parts)
next_part parts i part less is =
    ap parts_text (drop_more parts i part less) ∙ ap (λ p. part_text p ++ parts_text (drop (i + 1) parts)) (sym is)

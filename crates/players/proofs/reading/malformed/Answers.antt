use Rattle.std.proofs.Common.{◌≡◌, ℕ, List, length, take, ap, ◌∙◌, arith}
use Rattle.std.specs.Prelude.{min}
use Rattle.std.proofs.lemmas.List.{take_min}
use Rattle.run_spec.specs.declared.messages.Unsealed.TheVariants as unsealed
use Rattle.players.proofs.reading.malformed.Goals as goal

-- the beginning of bytes that may be few
front : (bytes : List ℕ) → take (min (length bytes) 64) bytes ≡ take 64 bytes
front bytes =
    let same : min (length bytes) 64 ≡ min 64 (length bytes) = omega arith in
    ap (λ (n : ℕ). take n bytes) same ∙ take_min 64 bytes

pub returns : goal.returns
returns c =
    ap (λ (head : List ℕ). unsealed.Malformed c.args.kind c.args.code c.args.xid head)
    (c.in_ok-head.ensures ∙ ap (λ (n : ℕ). take n c.args.bytes.now) c.min.ensures ∙ front c.args.bytes.now)

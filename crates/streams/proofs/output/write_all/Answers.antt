use Rattle.std.proofs.Common.{◌≡◌, ◌∙◌, ◌+◌, ◌-◌, ℕ, List, ◌++◌, length, take, drop, arith, sym, subst, Result, Ok, Err}
use Rattle.std.proofs.KnownBytes.{Appends-trans, Appends-kept}
use Rattle.std.proofs.Math.Seq.{take-add}
use Rattle.std.proofs.lemmas.List.{take_rest, length-drop, take-append-drop}
use Rattle.std.specs.Io.KnownBytes.{Appends}
use Rattle.std.specs.Prelude.{OnErr}
use Rattle.streams.proofs.output.write_all.Goals as goal

on_err : {T E : Type 0} (P : Type 0) (result : Result T E) → P → OnErr result P
on_err P (Ok x) holds = tt
on_err P (Err e) holds = holds

-- the front so far and a front of the rest are a front
longer_front : (bytes : List ℕ) (written count : ℕ) →
    take (written + count) bytes ≡ take written bytes ++ take count (take (length bytes - written) (drop written bytes))
longer_front bytes written count = rw take_rest (take-add written count bytes)

pub loop-written-preserved : goal.loop-written-preserved
loop-written-preserved g c = record {
  within = omega (arith, c.in_ok-written.ensures.some.most, length-drop {A = ℕ});
  taken = subst (Appends _ _) (sym (longer_front c.args.bytes.now c.loop-written.written c.in_ok-written.field-0))
      (Appends-trans _ _ _ _ _ c.loop-written.invariant.taken c.in_ok-written.ensures.bytes);
  served = c.in_ok-written.ensures.cause.served ∙ c.loop-written.invariant.served;
}

pub returns-in_err-written-clause-err : goal.returns-in_err-written-clause-err
returns-in_err-written-clause-err g c = on_err _ c.from_residual.result (
  take c.loop-written.written c.args.bytes.now,
  drop c.loop-written.written c.args.bytes.now,
  sym (take-append-drop c.loop-written.written c.args.bytes.now),
  Appends-kept _ _ _ _ c.loop-written.invariant.taken c.in_err-written.ensures.bytes,
)

use Rattle.std.proofs.Common.{◌≡◌, ◌⊎◌, ℕ, [], None, All, vec_len}
use mathlib.Core.Option.{some}
use lib.ListN.{get_elem?}
use Rattle.shared_wire.specs.declared.rule.Known.{Known}
use Rattle.shared_wire.specs.Places.{PlaceState, known_of}
use Rattle.shared_wire.proofs.board.end_all.Given as goal

abbrev pub invariant-loop-place : goal.invariant-loop-place
invariant-loop-place g l = record {
  table : l.last.table_id ≡ l.table.table_id;
  held : l.last.me.0.held ≡ None;
  free : l.last.me.1 ≡ [];
  some_known : (k : Known g.row.B.Denot) × (get_elem? l.last.me.0.known 0 ≡ some k);
  same : All (λ p. p.board ≡ l.table.table_id) l.places.items;
  each : (i : ℕ) (p : PlaceState g.row.B.Denot) → get_elem? l.fn.places.items i ≡ some p → (get_elem? l.places.items i ≡ some p) ⊎ ((q : ℕ) × (get_elem? l.last.me.0.known q ≡ some (known_of p)));
}

abbrev pub decreases-loop-place : goal.decreases-loop-place
decreases-loop-place g l = vec_len l.places

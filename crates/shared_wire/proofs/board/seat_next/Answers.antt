use Rattle.std.proofs.Common.{rules, ap, sym, subst, ℕ}
use Rattle.atomic_table.specs.Table.{Splits}
use Rattle.shared_wire.specs.Rule.{IsRuled, after_seating, newly_seated}
use Rattle.shared_wire.proofs.Steps.{seats_next}
use Rattle.shared_wire.proofs.board.seat_next.Goals as goal

pub split_seat-seat-requires : goal.split_seat-seat-requires
split_seat-seat-requires g c =
    let n = c.requires.next in
    let v = c.args.first.now.me.0 in (
      search rules,
      search rules,
      subst (λ (i : ℕ). Splits (IsRuled c.args.table.now.key.items) i v (after_seating v) (newly_seated v)) (sym c.requires.table.2)
          (seats_next c.args.table.now.key.items v c.args.actor n.1 (ap (λ m. m.0.held) n.2) (ap (λ m. m.0.unseated) n.2)),
    )

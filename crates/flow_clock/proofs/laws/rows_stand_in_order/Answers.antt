use Rattle.flow_clock.proofs.Ordered.{joins, stays, in_order}
use Rattle.flow_clock.proofs.laws.rows_stand_in_order.Goals as goal

pub returns-clause-joins : goal.returns-clause-joins
returns-clause-joins c = joins

pub returns-clause-in_order : goal.returns-clause-in_order
returns-clause-in_order c = in_order

pub returns-clause-stays : goal.returns-clause-stays
returns-clause-stays c = stays

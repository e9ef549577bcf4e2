use Rattle.agg_laws.specs.laws.Order.{state_order_total}
use Rattle.agg_laws.proofs.laws.order_law.Goals as goal

pub returns : goal.returns
returns c = state_order_total

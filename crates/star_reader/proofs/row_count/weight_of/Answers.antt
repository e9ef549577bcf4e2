use Rattle.star_reader.proofs.WeightSteps.{stored_in}
use Rattle.agg_laws.specs.declared.states.AggState.TheVariants.{Count}
use Rattle.star_reader.proofs.row_count.weight_of.Goals as goal

pub weight_of_state-requires : goal.weight_of_state-requires
weight_of_state-requires c =
    stored_in c.args.states.now c.loop-state.state-index (Count 0) c.requires c.loop-state-test.true

use Rattle.broker_merge.proofs.TestLemmas.{agg_of, column_of}
use Rattle.broker_merge.proofs.having.+holds.Goals as goal

pub value_at-requires-clause-column : goal.value_at-requires-clause-column
value_at-requires-clause-column t c = column_of c.args.table.now c.args.having.now c.in-Group.place c.in-Group.op c.in-Group.value c.in-Group.is c.requires.asked.tests

pub state_at-state-requires-clause-agg : goal.state_at-state-requires-clause-agg
state_at-state-requires-clause-agg t c = agg_of c.args.table.now c.args.having.now c.in-Agg.place c.in-Agg.op c.in-Agg.number c.in-Agg.is c.requires.asked.tests

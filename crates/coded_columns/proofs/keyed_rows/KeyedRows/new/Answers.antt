use Rattle.coded_columns.proofs.KeyedSteps.{packed-none}
use Rattle.coded_columns.proofs.keyed_rows.KeyedRows.new.Goals as goal

pub returns : goal.returns
returns c = λ segment groups keys. packed-none segment groups c.args.aggs.now c.args.size _ keys c.in_ok-firsts.ensures.count c.in_ok-firsts.ensures.each c.in_ok-aggs.ensures

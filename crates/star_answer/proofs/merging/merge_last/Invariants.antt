use Rattle.agg_laws.specs.Merged.{weights}
use Rattle.agg_laws.specs.Rows.{row_weight}
use Rattle.star_reader.specs.Entries.{MergesEntries}
use Rattle.star_reader.specs.Selected.{keyed}
use Rattle.star_answer.proofs.MergeSteps.{upto}
use Rattle.group_table.specs.Pooled.{StaysIn, in_pool}
use Rattle.star_answer.proofs.merging.merge_last.Given as goal

abbrev pub invariant-loop-at : goal.invariant-loop-at
invariant-loop-at l = record {
  adds : MergesEntries (weights row_weight (upto l.selected.docs l.from l.at))
      (keyed l.columns (upto l.selected.docs l.from l.at)) (in_pool l.fn.groups l.fn.pool) (in_pool l.groups l.pool);
  stays : StaysIn l.fn.groups l.fn.pool l.groups l.pool;
}

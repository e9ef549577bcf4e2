use Rattle.table_schema.specs.declared.query.Agg.{Agg}
use Rattle.text_scan.specs.Named.{IsAggMarked, StayMarked}
use Rattle.text_scan.proofs.NamedLemmas.{Below}
use Rattle.text_scan.proofs.named.mark_aggs.Given as goal

abbrev pub invariant-aggs : goal.invariant-aggs
invariant-aggs l = record {
  stay : StayMarked l.fn.marks l.marks;
  marked : Below Agg (IsAggMarked l.marks) l.aggs l.i;
}

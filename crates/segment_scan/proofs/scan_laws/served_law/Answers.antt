use Rattle.std.proofs.Common.{◌∙◌, length, ap}
use Rattle.table_schema.specs.Conditions.{all_hold}
use Rattle.segment_file.specs.Ordered.{ordered}
use Rattle.segment_scan.specs.Images.{choices_for}
use Rattle.segment_scan.proofs.ServedRows.{count_ordered, served_rows}
use Rattle.segment_scan.proofs.scan_laws.served_law.Goals as goal

pub returns : goal.returns
returns c = record {
  rows = served_rows;
  count = λ query table files rows head count none of docs.
      docs.told rows of
      ∙ ap length (served_rows query (choices_for query table head) (ordered table.settings.sorted rows) none)
      ∙ count_ordered (λ row. all_hold row query.conjuncts) table.settings.sorted rows;
}

use Rattle.std.proofs.Common.{◌≡◌, [], take, map}
use Rattle.csv.specs.Records.{fields_of, partial_of}
use Rattle.broker_merge.specs.Answer.{cell_text}
use Rattle.broker_merge.proofs.text.fill_cells.Given as goal

abbrev pub invariant-loop-cell : goal.invariant-loop-cell
invariant-loop-cell l = record {
  fields : fields_of l.line ≡ map cell_text (take l.cell-index l.row);
  partial : partial_of l.line ≡ [];
}

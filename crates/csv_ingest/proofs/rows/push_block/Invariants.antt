use Rattle.std.proofs.Common.{◌≡◌, ◌+◌, ◌++◌, ℕ, List, map}
use Rattle.std.specs.List.{All}
use Rattle.values.specs.Columns.{Counts, rows_in_columns}
use Rattle.values.specs.declared.value.Value.{Value}
use Rattle.csv_ingest.specs.Blocks.{IsBlock}
use Rattle.csv_row.specs.Columns.{OfSorts}
use Rattle.csv_ingest.specs.Reading.{Reads}
use Rattle.csv_ingest.proofs.rows.push_block.Given as goal

abbrev pub invariant-rows : goal.invariant-rows
invariant-rows l = record {
  counts : (c : ℕ) → All (Counts c) l.fn.columns.items → All (Counts (c + l.i)) l.columns.items;
  sorts : OfSorts l.layout.fields.now l.columns.items;
  rows : List (List Value);
  pushed : (c : ℕ) → All (Counts c) l.fn.columns.items → rows_in_columns (c + l.i) l.columns.items ≡ rows_in_columns c l.fn.columns.items ++ rows;
  block : (rest : List ℕ) → Reads l.fn.reader rest → IsBlock l.layout.fields.now (map (λ f. f.now) l.layout.names.now) l.before l.i l.fn.reader l.reader rest rows;
}

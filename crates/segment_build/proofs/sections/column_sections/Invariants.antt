use Rattle.std.proofs.Common.{◌≡◌, drop, length}
use Rattle.std.specs.Vec.Iter.{into_iter_items, into_iter_len}
use Rattle.values.specs.Columns.{rows_of}
use Rattle.segment_file.specs.Ordered.{ordered}
use Rattle.segment_build.specs.Coded.{columns_in}
use Rattle.segment_build.specs.Sections.{made_of}
use Rattle.segment_build.proofs.sections.column_sections.Given as goal

-- the columns that are left, and the sections of those before them
abbrev pub invariant-columns : goal.invariant-columns
invariant-columns l = record {
  rest : into_iter_items l.left ≡ drop l.at l.fn.coded.columns.items;
  size : into_iter_len l.left ≡ length (into_iter_items l.left);
  made : l.sections ≡ made_of l.table (ordered l.table.settings.sorted (rows_of (columns_in l.fn.coded))) l.at;
}

use Rattle.std.proofs.Common.{◌≡◌, ◌<◌, ℕ, take}
use Rattle.values.specs.Columns.{row_of}
use Rattle.group_table.specs.Groups.{key_of}
use Rattle.coded_columns.specs.Coded.{table_of}
use Rattle.coded_columns.specs.Keys.{AreIdsAt}
use Rattle.coded_scan.proofs.merging.is_key.Given as goal

abbrev pub invariant-loop-at : goal.invariant-loop-at
invariant-loop-at l = (row : ℕ) → row < l.segment.count → AreIdsAt l.segment l.columns row l.ids
    → take l.at l.key ≡ key_of (take l.at l.columns) (row_of (table_of l.segment).columns row)

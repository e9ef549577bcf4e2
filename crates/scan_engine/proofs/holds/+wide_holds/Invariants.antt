use Rattle.std.proofs.Common.{◌≡◌, drop, map}
use Rattle.values.specs.Columns.{row_of}
use Rattle.values.specs.Tests.{all_true, any_true}
use Rattle.table_schema.specs.Conditions.{wide_holds}
use Rattle.scan_engine.proofs.holds.+wide_holds.Given as goal

abbrev pub invariant-loop-member : goal.invariant-loop-member
invariant-loop-member l = wide_holds (row_of l.table.columns.now.columns l.at) l.fn.wide ≡ all_true (map (wide_holds (row_of l.table.columns.now.columns l.at)) (drop l.member-index l.member-items))

abbrev pub invariant-loop-member-2 : goal.invariant-loop-member-2
invariant-loop-member-2 l = wide_holds (row_of l.table.columns.now.columns l.at) l.fn.wide ≡ any_true (map (wide_holds (row_of l.table.columns.now.columns l.at)) (drop l.member-index l.member-items))

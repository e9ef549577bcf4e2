use Rattle.segment_build.proofs.Codings.{AreCodingsOf}
use Rattle.segment_build.proofs.coding.code_columns.Given as goal

-- the columns so far are coded
abbrev pub invariant-columns : goal.invariant-columns
invariant-columns l = AreCodingsOf l.table l.columns l.at l.all.items

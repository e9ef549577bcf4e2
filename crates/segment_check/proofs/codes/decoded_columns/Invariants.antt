use Rattle.segment_check.proofs.IdLemmas.{AreValuesOf}
use Rattle.segment_check.proofs.codes.decoded_columns.Given as goal

-- the columns so far
abbrev pub invariant-columns : goal.invariant-columns
invariant-columns l = AreValuesOf l.coded l.at l.columns.items

use Rattle.std.proofs.Common.{◌≡◌, false, take}
use Rattle.table_schema.specs.Columns.{is_member}
use Rattle.star_answer.proofs.asking.place_of.Given as goal

abbrev pub invariant-loop-place : goal.invariant-loop-place
invariant-loop-place l = is_member (take l.place l.split) l.column ≡ false

use Rattle.std.proofs.Common.{◌≡◌, take}
use Rattle.state_columns.specs.Docs.{doc_at}
use Rattle.star_reader.specs.Selected.{key_values}
use Rattle.star_reader.proofs.key.is_key.Given as goal

abbrev pub invariant-loop-i : goal.invariant-loop-i
invariant-loop-i l = take l.i l.key ≡ key_values (take l.i l.columns) (doc_at l.selected.docs l.at).0

use Rattle.std.proofs.Common.{◌≡◌, [], take}
use Rattle.values.specs.declared.value.Value.TheVariants.{Text}
use Rattle.values.specs.Kinds.{is_of}
use Rattle.value_ids.specs.Coding.{values_at}
use Rattle.segment_check.proofs.columns.column_of.Given as goal

-- the values of the ids so far
abbrev pub invariant-ids : goal.invariant-ids
invariant-ids l = record {
  sort : l.column.are_texts ≡ is_of l.fn.kind (Text []);
  values : l.column.values ≡ values_at l.dictionary.values (take l.row l.ids);
}

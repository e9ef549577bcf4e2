use Rattle.std.proofs.Common.{◌≡◌, [], take}
use Rattle.values.specs.declared.value.Value.TheVariants.{Text}
use Rattle.values.specs.Kinds.{is_of}
use Rattle.dictionary.proofs.listing.column_of.Given as goal

abbrev pub invariant-values : goal.invariant-values
invariant-values l = record {
  sort : l.column.are_texts ≡ is_of l.fn.kind (Text []);
  values : l.column.values ≡ take l.value-index l.values;
}

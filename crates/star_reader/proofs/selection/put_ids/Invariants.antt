use Rattle.std.proofs.Common.{◌≡◌, ◌<◌, ℕ, get_or, length, take}
use Rattle.state_columns.specs.Docs.{doc_at}
use Rattle.agg_laws.specs.Tree.{dim}
use Rattle.star_reader.specs.declared.asked.GroupColumn.{GroupColumn}
use Rattle.star_reader.specs.Selected.{key_ids}
use Rattle.star_reader.proofs.selection.put_ids.Given as goal

abbrev pub invariant-loop-column : goal.invariant-loop-column
invariant-loop-column l = record {
  ids : l.ids.items ≡ key_ids (take l.column-index l.columns) (doc_at l.table.docs l.at).0;
  keyed : (k : ℕ) (d : GroupColumn) → k < l.column-index
      → dim (get_or l.columns k d).dim (doc_at l.table.docs l.at).0
      < length (get_or l.columns k d).values.now.values;
}

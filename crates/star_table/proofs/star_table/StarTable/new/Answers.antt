use Rattle.std.proofs.Common.{map, ap, ◌∙◌}
use Rattle.state_columns.specs.Columns.{column_of}
use Rattle.state_columns.proofs.RegionLemmas as region
use Rattle.star_table.proofs.star_table.StarTable.new.Goals as goal

pub invariant_of-result : goal.invariant_of-result
invariant_of-result c =
    region.new_region c.args.shape.now.dims _ c.args.shape.now.kinds c.in_ok-copy.field-0 _ _
    c.requires c.in_ok-copy.ensures c.new.ensures.items
    (c.in_ok-new_columns.ensures ∙ ap (λ l. map column_of l) c.as_slice.ensures)

use Rattle.std.proofs.Common.{◌≡◌, List, length, map, drop}
use Rattle.csv.specs.Records.{fields_of}
use Rattle.values.specs.declared.value.Value.{Value}
use Rattle.values.specs.Columns.{row_pushed}
use Rattle.csv_row.specs.InOrder.{all_or_first, after}
use Rattle.csv_row.specs.Row.{place_of, value_at, values_of}
use Rattle.csv_row.proofs.layout.Layout.push_values.Given as goal

abbrev pub invariant-values : goal.invariant-values
invariant-values l = (done : List Value) × (length done ≡ l.i)
    × (values_of l.self.fields.now (map (λ f. f.now) l.self.names.now) l.row (fields_of l.cells)
    ≡ after done (all_or_first (map (λ field. value_at l.row (fields_of l.cells) field (place_of (map (λ f. f.now) l.self.names.now) field)) (drop l.i l.self.fields.now))))
    × (l.columns.items ≡ row_pushed l.fn.columns.items done)

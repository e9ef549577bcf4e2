-- The numbers of a column, and those of rows in it.
use Rattle.std.proofs.Common.{◌≡◌, ◌∙◌, ◌≤◌, [], ◌∷◌, ℕ, ℤ, pos, suc, zero, List, length, map, get_or, slice_get, Some, false, refl, sym, ap, arith}
use Rattle.std.proofs.Math.ListN.{get_or-map}
use Rattle.std.proofs.lemmas.List.{length-map}
use Rattle.values.specs.Columns.{Listed, ListedColumns, row_of}
use Rattle.values.specs.declared.value.Value.TheVariants.{Whole}
use Rattle.table_schema.specs.Conditions.{cell}
use Rattle.scan_engine.specs.Selection.{AreNumbersOf}

by-column : (columns : List Listed) (at field : ℕ) (column : Listed) → slice_get columns field ≡ Some column → cell (row_of columns at) field ≡ get_or column.values at (Whole (pos 0))
by-column [] at field column is = absurd cc
by-column (c ∷ cs) at zero column is = let same : c ≡ column = cc in ap (λ x. get_or x.values at (Whole (pos 0))) same
by-column (c ∷ cs) at (suc field) column is = by-column cs at field column is

-- the numbers of a column are those of its field
pub numbers-of : (table : ListedColumns) (field : ℕ) (column : Listed) (numbers : List ℤ) → slice_get table.columns field ≡ Some column → length column.values ≡ table.count → column ≡ record { are_texts = false; values = map Whole numbers }
    → AreNumbersOf table field numbers
numbers-of table field column numbers got count is = record {
  count = sym (length-map numbers Whole) ∙ ap (λ c. length c.values) (sym is) ∙ count;
  each = λ at. by-column table.columns at field column got ∙ ap (λ c. get_or c.values at (Whole (pos 0))) is ∙ get_or-map Whole numbers at (pos 0);
}

-- a row that ends before the field has 0 in it
pub cell-beyond : (columns : List Listed) (at field : ℕ) → length columns ≤ field → cell (row_of columns at) field ≡ Whole (pos 0)
cell-beyond [] at zero le = refl
cell-beyond [] at (suc field) le = refl
cell-beyond (c ∷ cs) at zero le = absurd (omega (arith, le))
cell-beyond (c ∷ cs) at (suc field) le = cell-beyond cs at field (omega (arith, le))

-- The numbers of rows in a column.
use Rattle.std.proofs.Common.{◌≡◌, ◌∙◌, ◌<◌, ℕ, ℤ, pos, Option, Some, List, length, map, get_or, ap, sym, arith}
use Rattle.std.specs.List.{All}
use Rattle.std.proofs.lemmas.List.{ext_get_or, get_or-map, length-map}
use Rattle.values.specs.declared.value.Value.{Value}
use Rattle.values.specs.Columns.{row_of}
use Rattle.agg_laws.specs.Numbers.{IsWhole}
use Rattle.group_table.specs.Groups.{number_of}
use Rattle.coded_columns.specs.declared.coded.Coded.{Coded}
use Rattle.coded_columns.specs.declared.placed_rows.PlacedRows.{PlacedRows}
use Rattle.coded_columns.specs.Coded.{IsOfField, table_of, value_in}
use Rattle.coded_columns.specs.Keyed.{AreNumbersIn, number_in, rows_in}
use Rattle.coded_columns.proofs.FoldSteps.{whole-from}
use Rattle.coded_columns.proofs.SortSteps.{zero-whole}

module _ (placed : PlacedRows) (out : List ℤ) (same : length out ≡ length placed.places.now) where
  -- the numbers of the rows, place by place
  numbers-by : (column : Option ℕ) → ((k : ℕ) → k < length out → get_or out k (pos 0) ≡ number_in column (row_of (table_of placed.segment.now).columns (get_or placed.places.now k 0))) → All IsWhole out
      → AreNumbersIn column (rows_in placed) out
  numbers-by column each whole =
      let places : List ℕ = placed.places.now in
      let row : ℕ → List Value = row_of (table_of placed.segment.now).columns in
      let many : length (rows_in placed) ≡ length places = length-map places row in
      record {
        each = ext_get_or (pos 0) out (map (number_in column) (rows_in placed)) (same ∙ sym (length-map (rows_in placed) (number_in column) ∙ many)) (λ k lt.
            let in_places : k < length places = omega (arith, lt, same) in
            let in_rows : k < length (rows_in placed) = omega (arith, in_places, many) in
            each k lt ∙ ap (number_in column) (sym (get_or-map row places k 0 (row 0) in_places)) ∙ sym (get_or-map (number_in column) (rows_in placed) k (row 0) (pos 0) in_rows));
        whole = whole-from out whole;
      }

  -- by the ids of a column
  pub numbers-coded : (field : ℕ) (column : Coded) → IsOfField placed.segment.now field column → ((k : ℕ) → k < length out → get_or out k (pos 0) ≡ number_of (value_in column (get_or placed.places.now k 0))) → All IsWhole out
      → AreNumbersIn (Some field) (rows_in placed) out
  numbers-coded field column of each whole =
      numbers-by (Some field) (λ k lt. each k lt ∙ ap number_of (sym (of.each (get_or placed.places.now k 0) (placed.within k 0 (omega (arith, lt, same)))))) whole

  -- where each is 0
  pub numbers-zero : (column : Option ℕ) → ((at : ℕ) → number_in column (row_of (table_of placed.segment.now).columns at) ≡ pos 0) → All (λ number. number ≡ pos 0) out → AreNumbersIn column (rows_in placed) out
  numbers-zero column none zeros =
      numbers-by column (λ k lt. zeros k (pos 0) lt ∙ sym (none (get_or placed.places.now k 0))) (λ k d lt. zero-whole (get_or out k d) (zeros k d lt))

-- Rows that pass, block by block.
use Rattle.std.proofs.Common.{◌≡◌, ◌∙◌, ◌<◌, ◌≤◌, ◌+◌, ◌-◌, ◌*◌, ◌/◌, ◌++◌, ◌∷◌, [], ℕ, zero, suc, Bool, List, cond, length, take, refl, ap, arith}
use Rattle.std.proofs.lemmas.List.Elements.{All-nil}
use Rattle.values.specs.declared.value.Value.{Value}
use Rattle.values.specs.Columns.{ListedColumns, row_of, rows_of}
use Rattle.values.proofs.RowLemmas.{row-at}
use Rattle.value_ids.specs.Coding.{AreBelow}
use Rattle.table_schema.specs.Conditions.{all_hold}
use Rattle.table_schema.specs.declared.query.BoundQuery.{BoundQuery}
use Rattle.scan_engine.specs.Places.{rows_at}
use Rattle.scan_engine.specs.Scanned.{marked, selected}
use Rattle.scan_engine.proofs.AddLemmas.{selected_more}
use Rattle.scan_engine.proofs.FoldLemmas.{count_marked, rows_marked}
use Rattle.coded_columns.specs.declared.coded.SegmentColumns.{SegmentColumns}
use Rattle.coded_columns.specs.Coded.{table_of}
use Rattle.coded_columns.specs.Packing.{Ascend}
use Rattle.coded_columns.proofs.AscendSteps.{ascend-marked, ascend-none}
use Rattle.coded_columns.proofs.CodedLemmas.{below_marked, counts}
use Rattle.coded_scan.specs.RowFilters.{passing}

pub passing-few : (holds : ℕ → Bool) (from n : ℕ) → length (passing holds from n) ≤ n
passing-few holds from zero = omega arith
passing-few holds from (suc n) = omega (arith, count_marked (passing holds from n) (from + n) (holds (from + n)) n (passing-few holds from n))

pub passing-below : (holds : ℕ → Bool) (from n count : ℕ) → from + n ≤ count → AreBelow count (passing holds from n)
passing-below holds from zero count le = All-nil (λ p. p < count)
passing-below holds from (suc n) count le = below_marked count (passing holds from n) (from + n) (holds (from + n)) (omega (arith, le)) (passing-below holds from n count (omega (arith, le)))

-- the places that pass ascend
pub passing-ascend : (holds : ℕ → Bool) (from n : ℕ) → Ascend (passing holds from n)
passing-ascend holds from zero = ascend-none
passing-ascend holds from (suc n) =
    ascend-marked (passing holds from n) (from + n) (holds (from + n)) (passing-ascend holds from n) (passing-below holds from n (from + n) (omega arith))

-- the places that pass are those of the rows that are selected
pub passing-rows : (segment : SegmentColumns) (query : BoundQuery) (holds : ℕ → Bool) → ((at : ℕ) → at < segment.count → holds at ≡ all_hold (row_of (table_of segment).columns at) query.conjuncts)
    → (n : ℕ) → n ≤ segment.count → rows_at (table_of segment).columns (passing holds 0 n) ≡ selected query (take n (rows_of (table_of segment)))
passing-rows segment query holds same zero le = refl
passing-rows segment query holds same (suc n) le =
    let b : ListedColumns = table_of segment in
    let none : 0 + n ≡ n = omega arith in
    let more : n + 1 ≡ suc n = omega arith in
    let lt : n < segment.count = omega (arith, le) in
    let row : List Value = row_of b.columns n in
    ap (λ at. rows_at b.columns (passing holds 0 n ++ cond (holds at) (at ∷ []) [])) none
    ∙ rows_marked b.columns (passing holds 0 n) n (holds n)
    ∙ ap (λ (l : List (List Value)). l ++ marked (holds n) row) (passing-rows segment query holds same n (omega (arith, le)))
    ∙ selected_more query (rows_of b) n row (holds n) (row-at b.count n b.columns lt (counts segment)) (same n lt)
    ∙ ap (λ k. selected query (take k (rows_of b))) more

-- there are enough blocks for all rows
pub blocks-enough : (count : ℕ) → count - 0 ≤ (count / 4096 + 1 - 0) * 4096
blocks-enough count = omega arith

-- The rows that are left where every conjunct is served.
use Rattle.std.proofs.Common.{◌≡◌, ◌∙◌, ◌+◌, ◌&&◌, ◌∷◌, [], ℕ, Bool, true, false, cond, List, Option, Some, None, length, refl, sym, ap, arith}
use Rattle.std.specs.List.{filter}
use Rattle.std.specs.Ordering.{match_ordering}
use Rattle.std.specs.declared.cmp.Ordering.TheVariants.{Less, Equal, Greater}
use Rattle.values.specs.declared.value.Value.{Value}
use Rattle.values.specs.Order.{value_order}
use Rattle.table_schema.specs.declared.query.BoundQuery.{BoundQuery}
use Rattle.table_schema.specs.declared.query.Conjunct.{Conjunct}
use Rattle.table_schema.specs.declared.query.Conjunct.TheVariants.{One, Many}
use Rattle.table_schema.specs.Conditions.{all_hold, conjunct_holds}
use Rattle.scan_engine.specs.Scanned.{selected}
use Rattle.segment_file.specs.Ordered.{ordered, placed, sorted_by, value_in}
use Rattle.segment_plan.specs.declared.plans.IndexChoice.{IndexChoice}
use Rattle.segment_plan.specs.declared.plans.IndexChoice.TheVariants.{Unindexed, Sorted, Inverted, Range}
use Rattle.segment_plan.specs.Served.{unserved}
use Rattle.segment_plan.specs.RowsLeft.{all_left, indexed, rows_left}

-- an index that serves its conjunct leaves just the rows that satisfy it
all_served : (rows : List (List Value)) (row : List Value) (choices : List IndexChoice) (conjuncts : List Conjunct) → unserved choices conjuncts ≡ [] → all_left rows row (indexed choices conjuncts) ≡ all_hold row conjuncts
all_served rows row [] conjuncts none = ap (all_hold row) (sym none)
all_served rows row (c ∷ cs) [] none = refl
all_served rows row (Sorted ∷ cs) (One column test ∷ ys) none = ap (λ b. conjunct_holds row (One column test) && b) (all_served rows row cs ys none)
all_served rows row (Inverted ∷ cs) (One column test ∷ ys) none = ap (λ b. conjunct_holds row (One column test) && b) (all_served rows row cs ys none)
all_served rows row (Unindexed ∷ cs) (y ∷ ys) none = cc
all_served rows row (Range ∷ cs) (y ∷ ys) none = cc
all_served rows row (Sorted ∷ cs) (Many wide ∷ ys) none = cc
all_served rows row (Inverted ∷ cs) (Many wide ∷ ys) none = cc

filter_same : (p q : List Value → Bool) → ((row : List Value) → p row ≡ q row) → (rows : List (List Value)) → filter p rows ≡ filter q rows
filter_same p q same [] = refl
filter_same p q same (row ∷ rows) = λ i. cond (same row i) (row ∷ filter_same p q same rows i) (filter_same p q same rows i)

pub served_rows : (query : BoundQuery) (choices : List IndexChoice) (rows : List (List Value)) → unserved choices query.conjuncts ≡ [] → rows_left query choices rows ≡ selected query rows
served_rows query choices rows none =
    filter_same (λ row. all_left rows row (indexed choices query.conjuncts)) (λ row. all_hold row query.conjuncts) (λ row. all_served rows row choices query.conjuncts none) rows

-- ---- the order of rows does not change how many satisfy a test

module _ (p : List Value → Bool) where
  one : (b : Bool) (row : List Value) (rows : List (List Value)) → length (cond b (row ∷ rows) rows) ≡ cond b 1 0 + length rows
  one true row rows = omega arith
  one false row rows = omega arith

  count_placed : (column : ℕ) (row : List Value) (rows : List (List Value)) → length (filter p (placed column row rows)) ≡ cond (p row) 1 0 + length (filter p rows)
  count_placed column row [] = one (p row) row []
  count_placed column row (x ∷ xs) =
      elim (value_order (value_in column row) (value_in column x)) as
      (λ r. length (filter p (match_ordering r (row ∷ x ∷ xs) (row ∷ x ∷ xs) (x ∷ placed column row xs))) ≡ cond (p row) 1 0 + length (filter p (x ∷ xs))) [
        | Less ↦ one (p row) row (filter p (x ∷ xs))
        | Equal ↦ one (p row) row (filter p (x ∷ xs))
        | Greater ↦
            let first = one (p x) x (filter p (placed column row xs)) in
            let more = count_placed column row xs in
            let own = one (p x) x (filter p xs) in
            omega (arith, first, more, own)
      ]

  count_sorted : (column : ℕ) (rows : List (List Value)) → length (filter p (sorted_by column rows)) ≡ length (filter p rows)
  count_sorted column [] = refl
  count_sorted column (row ∷ rows) = count_placed column row (sorted_by column rows) ∙ ap (λ n. cond (p row) 1 0 + n) (count_sorted column rows) ∙ sym (one (p row) row (filter p rows))

  pub count_ordered : (sorted : Option ℕ) (rows : List (List Value)) → length (filter p (ordered sorted rows)) ≡ length (filter p rows)
  count_ordered None rows = refl
  count_ordered (Some column) rows = count_sorted column rows

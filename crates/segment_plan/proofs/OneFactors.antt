-- The rows of a segment give a tree one list of factors, whatever else of it is loaded.
use Rattle.std.proofs.Common.{◌≡◌, ◌∙◌, ◌+◌, ℕ, suc, Bool, true, false, List, [], ◌∷◌, length, Some, if◌then◌else◌, refl, sym, ap, subst, arith}
use Rattle.std.specs.List.{slice_get}
use Rattle.values.specs.declared.value.Value.{Value}
use Rattle.agg_laws.specs.declared.tree_shape.TreeShape.{TreeShape}
use Rattle.agg_laws.specs.Tree.{skips}
use Rattle.table_schema.specs.declared.query.BoundQuery.{BoundQuery}
use Rattle.table_schema.specs.declared.table.Table.{Table}
use Rattle.value_ids.specs.Dictionary.{distinct}
use Rattle.segment_head.specs.Heads.{IsLoaded, Seen}
use Rattle.segment_file.specs.Image as image
use Rattle.segment_plan.specs.Factors.{IsWholeLoaded, factor, factors_from, is_whole}
use Rattle.segment_plan.specs.Laws.{OneFactors, TellsOf}
use Rattle.segment_plan.specs.Matched.{AreLoaded, is_filtered, matched, values_in, values_of}

-- a loaded dictionary has the distinct values of the rows
loaded_are : (table : Table) (rows : List (List Value)) (head : Seen) → TellsOf table rows head → (column : ℕ) → IsLoaded head column → values_in head column ≡ distinct (image.values_in column rows)
loaded_are table rows head tells column loaded = ap values_of loaded.1 ∙ ap (λ x. x.values) (tells.dictionaries_are column loaded.0 loaded.1)

module _ (query : BoundQuery) (table : Table) (rows : List (List Value)) (a b : Seen) (tells_a : TellsOf table rows a) (tells_b : TellsOf table rows b) (loaded_a : AreLoaded query.conjuncts a) (loaded_b : AreLoaded query.conjuncts b) where
  same : (column : ℕ) → IsLoaded a column → IsLoaded b column → values_in a column ≡ values_in b column
  same column in_a in_b = loaded_are table rows a tells_a column in_a ∙ sym (loaded_are table rows b tells_b column in_b)

  one_factor : (skipped : Bool) (column : ℕ) → IsWholeLoaded query a skipped column → IsWholeLoaded query b skipped column → factor query a skipped column ≡ factor query b skipped column
  one_factor skipped column whole_a whole_b = go (is_filtered query.conjuncts column) refl (is_whole query skipped column) refl
    where
      go : (f : Bool) → is_filtered query.conjuncts column ≡ f → (w : Bool) → is_whole query skipped column ≡ w
          → (if f then matched query.conjuncts column (values_in a column) else (if w then length (values_in a column) else 1)) ≡ (if f then matched query.conjuncts column (values_in b column) else (if w then length (values_in b column) else 1))
      go true on w is = ap (matched query.conjuncts column) (same column (loaded_a column on) (loaded_b column on))
      go false off true is = ap length (same column (whole_a is) (whole_b is))
      go false off false is = refl

  -- the factors from a level on
  some_factors : (shape : TreeShape) (level : ℕ) (split : List ℕ) → ((k column : ℕ) → slice_get split k ≡ Some column → IsWholeLoaded query a (skips shape (level + k)) column)
      → ((k column : ℕ) → slice_get split k ≡ Some column → IsWholeLoaded query b (skips shape (level + k)) column) → factors_from query a shape level split ≡ factors_from query b shape level split
  some_factors shape level [] whole_a whole_b = refl
  some_factors shape level (column ∷ split) whole_a whole_b =
      let here : level + 0 ≡ level = omega arith in
      let first = one_factor (skips shape level) column (subst (λ n. IsWholeLoaded query a (skips shape n) column) here (whole_a 0 column refl)) (subst (λ n. IsWholeLoaded query b (skips shape n) column) here (whole_b 0 column refl)) in
      let next : (k : ℕ) → level + suc k ≡ level + 1 + k = (λ k. omega arith) in
      let others = some_factors shape (level + 1) split (λ k c at. subst (λ n. IsWholeLoaded query a (skips shape n) c) (next k) (whole_a (suc k) c at)) (λ k c at. subst (λ n. IsWholeLoaded query b (skips shape n) c) (next k) (whole_b (suc k) c at)) in
      (λ i. first i ∷ others i)

pub one_factors : OneFactors
one_factors query table rows tree a b tells_a tells_b loaded_a loaded_b whole_a whole_b =
    let plain : (k : ℕ) → k ≡ 0 + k = (λ k. omega arith) in
    some_factors query table rows a b tells_a tells_b loaded_a loaded_b tree.shape 0 tree.split
    (λ k c at. subst (λ n. IsWholeLoaded query a (skips tree.shape n) c) (plain k) (whole_a k c at)) (λ k c at. subst (λ n. IsWholeLoaded query b (skips tree.shape n) c) (plain k) (whole_b k c at))

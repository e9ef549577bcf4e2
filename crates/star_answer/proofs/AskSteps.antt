-- The group columns of a query among split dimensions, and its aggregates among pairs.
use Rattle.std.proofs.Common.{◌≡◌, ◌∙◌, ◌<◌, ◌≤◌, ◌+◌, ℕ, Bool, true, false, List, [], ◌∷◌, ◌++◌, All, length, map, take, get_or, Some, refl, sym, ap, subst}
use Rattle.std.specs.Prelude.{slice_get}
use Rattle.std.specs.List.{list_any}
use Rattle.std.proofs.lemmas.Bool.{false≢true}
use Rattle.std.proofs.lemmas.List.{map-append, take_all, take_more}
use Rattle.std.proofs.lemmas.List.Elements.{All-nil, All-push}
use Rattle.values.specs.declared.value.Value.{Value}
use Rattle.table_schema.specs.declared.query.Agg.{Agg}
use Rattle.value_ids.specs.Dictionary.{Distinct}
use Rattle.segment_head.specs.Heads.{Seen}
use Rattle.segment_plan.specs.Matched.{values_in, values_of}
use Rattle.star_reader.specs.declared.asked.GroupColumn.{GroupColumn}
use Rattle.star_answer.specs.Served.{pair_of}
use Rattle.segment_reads.specs.Docs.{field_of}
use Rattle.star_answer.specs.Tasks.{AreColumnsOf, ArePairsOf, split_values}

-- what no item of a list is, is not in the list
pub not_among : {X : Type 0} (p : X → Bool) (xs : List X) (i : ℕ) → length xs ≤ i
    → list_any p (take i xs) ≡ false → list_any p xs ≡ true → ⊥
not_among p xs i past none some =
    false≢true (sym none ∙ ap (list_any p) (take_all i xs past) ∙ some)

-- ---- one group column more

pub columns_none : (split : List ℕ) (values : ℕ → List Value) → AreColumnsOf [] split values []
columns_none split values = record {
  groups_are = refl;
  dims = All-nil (λ (c : GroupColumn). c.dim < length split);
  values_are = All-nil (λ (c : GroupColumn). c.values.now.values ≡ values c.dim);
}

-- the values of a dictionary of the head
pub column_values : (head : Seen) (split : List ℕ) (d column : ℕ) (found : Distinct)
    → slice_get head.dictionaries column ≡ Some (Some found) → field_of split d ≡ column
    → found.values ≡ split_values head split d
column_values head split d column found at is =
    sym (ap (values_in head) is ∙ ap values_of at)

pub columns_more : (groups split : List ℕ) (values : ℕ → List Value) (i column : ℕ)
    (old new : List GroupColumn) (c : GroupColumn) → i < length groups
    → column ≡ get_or groups i 0 → new ≡ old ++ c ∷ [] → c.dim < length split
    → field_of split c.dim ≡ column → c.values.now.values ≡ values c.dim
    → AreColumnsOf (take i groups) split values old
    → AreColumnsOf (take (i + 1) groups) split values new
columns_more groups split values i column old new c lt at is within there same so_far = record {
  groups_are = ap (map (λ (x : GroupColumn). field_of split x.dim)) is
      ∙ map-append (λ (x : GroupColumn). field_of split x.dim) old (c ∷ [])
      ∙ (λ j. so_far.groups_are j ++ (there ∙ at) j ∷ [])
      ∙ sym (take_more groups i 0 lt);
  dims = subst (All (λ (x : GroupColumn). x.dim < length split)) (sym is)
      (All-push (λ (x : GroupColumn). x.dim < length split) old c so_far.dims within);
  values_are = subst (All (λ (x : GroupColumn). x.values.now.values ≡ values x.dim)) (sym is)
      (All-push (λ (x : GroupColumn). x.values.now.values ≡ values x.dim) old c
      so_far.values_are same);
}

-- ---- one pair more

pub pairs_none : (pairs : List Agg) → ArePairsOf [] pairs []
pairs_none pairs = record { aggs_are = refl; among = All-nil (λ n. n < length pairs) }

pub pairs_more : (aggs pairs : List Agg) (i : ℕ) (agg : Agg) (old new : List ℕ) (n : ℕ)
    → i < length aggs → agg ≡ get_or aggs i agg → new ≡ old ++ n ∷ [] → n < length pairs
    → pair_of pairs n ≡ agg → ArePairsOf (take i aggs) pairs old
    → ArePairsOf (take (i + 1) aggs) pairs new
pairs_more aggs pairs i agg old new n lt at is within there so_far = record {
  aggs_are = ap (map (pair_of pairs)) is
      ∙ map-append (pair_of pairs) old (n ∷ [])
      ∙ (λ j. so_far.aggs_are j ++ (there ∙ at) j ∷ [])
      ∙ sym (take_more aggs i agg lt);
  among = subst (All (λ m. m < length pairs)) (sym is)
      (All-push (λ m. m < length pairs) old n so_far.among within);
}

-- The plan of a segment, and segments of which no row satisfies a query.
use Rattle.std.proofs.Common.{◌≡◌, ◌∙◌, ◌<◌, ◌+◌, ℕ, suc, Bool, true, false, cond, List, [], ◌∷◌, length, map, Option, Some, None, IfSome, refl, sym, ap, subst, arith}
use Rattle.values.specs.declared.value.Value.{Value}
use Rattle.table_schema.specs.declared.query.BoundQuery.{BoundQuery}
use Rattle.table_schema.specs.declared.settings.TreeSetting.{TreeSetting}
use Rattle.table_schema.specs.declared.table.Table.{Table}
use Rattle.scan_engine.specs.Scanned.{selected}
use Rattle.eligibility.specs.Rule.{is_eligible, picked, picked_from}
use Rattle.segment_head.specs.Heads.{Seen}
use Rattle.segment_plan.specs.declared.plans.IndexChoice.{IndexChoice}
use Rattle.segment_plan.specs.declared.plans.SegmentPlan.{SegmentPlan}
use Rattle.segment_plan.specs.declared.plans.SegmentPlan.TheVariants.{Pruned, Empty, StarTree, Scan}
use Rattle.segment_plan.specs.declared.plans.ScanPlan.{ScanPlan}
use Rattle.segment_plan.specs.Choices.{choice_of}
use Rattle.segment_plan.specs.Explained.{IsDetailed}
use Rattle.segment_plan.specs.Laws.{NoneHolds}
use Rattle.segment_plan.specs.Matched.{AreLoaded}
use Rattle.segment_plan.specs.Plan.{is_emptied, plan_of, tree_or}
use Rattle.segment_plan.specs.Pruning.{is_pruned}
use Rattle.segment_opening.specs.Wanted.{AreFactorsLoaded}

-- ---- the tree that is picked

below_all : (query : BoundQuery) (from : ℕ) (trees : List TreeSetting) (n : ℕ) → picked_from query from trees ≡ Some n → n < from + length trees
below_all query from [] n is = absurd cc
below_all query from (tree ∷ trees) n is = by (λ later. below_all query (from + 1) trees n later) (is_eligible query tree) refl
  where
    by : (picked_from query (from + 1) trees ≡ Some n → n < from + 1 + length trees) → (b : Bool) → is_eligible query tree ≡ b → n < from + suc (length trees)
    by rest true e =
        let picks : picked_from query from (tree ∷ trees) ≡ Some from = ap (λ b. cond b (Some from) (picked_from query (from + 1) trees)) e in
        let same : from ≡ n = let both : Some from ≡ Some n = sym picks ∙ is in cc in
        omega (arith, same)
    by rest false e =
        let later : picked_from query from (tree ∷ trees) ≡ picked_from query (from + 1) trees = ap (λ b. cond b (Some from) (picked_from query (from + 1) trees)) e in
        omega (arith, rest (sym later ∙ is))

pub picked_within : (query : BoundQuery) (trees : List TreeSetting) (n : ℕ) → picked query trees ≡ Some n → n < length trees
picked_within query trees n is = omega (arith, below_all query 0 trees n is)

pub picked_is_within : (query : BoundQuery) (trees : List TreeSetting) (o : Option ℕ) → o ≡ picked query trees → IfSome o (λ n. n < length trees)
picked_is_within query trees None is = tt
picked_is_within query trees (Some n) is = picked_within query trees n (sym is)

-- ---- the plan

abbrev choices_in : List IndexChoice → SegmentPlan → List IndexChoice
choices_in none (Scan p) = p.choices
choices_in none other = none

-- what a plan is made by: whether the bounds exclude all rows, whether a column is left without a value, and the tree that is picked
abbrev planned : Bool → Bool → SegmentPlan → Option ℕ → SegmentPlan
planned pruned emptied scan tree = cond pruned Pruned (cond emptied Empty (tree_or scan tree))

scan_so : (a b : Bool) (choices : List IndexChoice) (tree : Option ℕ) (p : ScanPlan) → Scan p ≡ planned a b (Scan (record { choices = choices })) tree → (tree ≡ None) × (p.choices ≡ choices)
scan_so true b choices tree p is = absurd cc
scan_so false true choices tree p is = absurd cc
scan_so false false choices None p is = (refl, ap (choices_in []) is)
scan_so false false choices (Some t) p is = absurd cc

tree_so : (a b : Bool) (p : ScanPlan) (tree : Option ℕ) (n : ℕ) → StarTree n ≡ planned a b (Scan p) tree → tree ≡ Some n
tree_so true b p tree n is = absurd cc
tree_so false true p tree n is = absurd cc
tree_so false false p None n is = absurd cc
tree_so false false p (Some t) n is = let same : t ≡ n = cc in ap Some same

pruned_so : (a b : Bool) (p : ScanPlan) (tree : Option ℕ) → Pruned ≡ planned a b (Scan p) tree → a ≡ true
pruned_so true b p tree is = refl
pruned_so false true p tree is = absurd cc
pruned_so false false p None is = absurd cc
pruned_so false false p (Some t) is = absurd cc

empty_so : (a b : Bool) (p : ScanPlan) (tree : Option ℕ) → Empty ≡ planned a b (Scan p) tree → b ≡ true
empty_so true b p tree is = absurd cc
empty_so false true p tree is = refl
empty_so false false p None is = absurd cc
empty_so false false p (Some t) is = absurd cc

module _ (query : BoundQuery) (table : Table) (head : Seen) where
  abbrev all_choices : ScanPlan
  all_choices = record { choices = map (choice_of table.settings head) query.conjuncts }

  -- a scan has a choice for each conjunct, and no tree is picked
  pub scan_planned : (p : ScanPlan) → Scan p ≡ plan_of query table head → p.choices ≡ map (choice_of table.settings head) query.conjuncts
  scan_planned p is = (scan_so (is_pruned query head) (is_emptied query.conjuncts table head) all_choices.choices (picked query table.settings.trees) p is).1

  pub scan_unpicked : (p : ScanPlan) → Scan p ≡ plan_of query table head → picked query table.settings.trees ≡ None
  scan_unpicked p is = (scan_so (is_pruned query head) (is_emptied query.conjuncts table head) all_choices.choices (picked query table.settings.trees) p is).0

  -- the tree that answers is the one that is picked
  pub tree_planned : (n : ℕ) → StarTree n ≡ plan_of query table head → picked query table.settings.trees ≡ Some n
  tree_planned n is = tree_so (is_pruned query head) (is_emptied query.conjuncts table head) all_choices (picked query table.settings.trees) n is

  pub is_pruned_so : Pruned ≡ plan_of query table head → is_pruned query head ≡ true
  is_pruned_so is = pruned_so (is_pruned query head) (is_emptied query.conjuncts table head) all_choices (picked query table.settings.trees) is

  pub is_empty_so : Empty ≡ plan_of query table head → is_emptied query.conjuncts table head ≡ true
  is_empty_so is = empty_so (is_pruned query head) (is_emptied query.conjuncts table head) all_choices (picked query table.settings.trees) is

  -- what was found is this plan
  pub planned_as : (found plan : SegmentPlan) → found ≡ plan → found ≡ plan_of query table head → plan ≡ plan_of query table head
  planned_as found plan is made = sym is ∙ made

  -- the bounds exclude all rows
  pub pruned_planned : is_pruned query head ≡ true → Pruned ≡ plan_of query table head
  pruned_planned is =
      ap (λ b. planned b (is_emptied query.conjuncts table head) (Scan all_choices) (picked query table.settings.trees)) (sym is)

  -- what the detail of a plan is made of was loaded
  pub detailed : (plan : SegmentPlan) (tree : Option ℕ) → tree ≡ picked query table.settings.trees → AreLoaded query.conjuncts head → AreFactorsLoaded query table tree head → plan ≡ plan_of query table head → IsDetailed query table head plan
  detailed Pruned tree picks loaded factors is = tt
  detailed Empty tree picks loaded factors is = tt
  detailed (StarTree n) tree picks loaded factors is =
      let own = tree_planned n is in
      (picked_within query table.settings.trees n own, loaded, subst (λ t. AreFactorsLoaded query table t head) (picks ∙ own) factors)
  detailed (Scan plan) tree picks loaded factors is = tt

  pub pruned_detailed : (plan : SegmentPlan) → plan ≡ Pruned → IsDetailed query table head plan
  pruned_detailed plan is = subst (IsDetailed query table head) (sym is) tt

-- ---- where no row satisfies the query, none is selected

pub none_selected : (query : BoundQuery) (rows : List (List Value)) → NoneHolds query.conjuncts rows → selected query rows ≡ []
none_selected query [] none = refl
none_selected query (row ∷ rows) none = ap (λ b. cond b (row ∷ selected query rows) (selected query rows)) none.0 ∙ none_selected query rows none.1

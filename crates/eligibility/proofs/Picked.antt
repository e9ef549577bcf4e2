-- The first eligible tree, step by step.
use Rattle.std.proofs.Common.{◌≡◌, ℕ, ◌+◌, ◌<◌, Bool, true, false, List, [], ◌∷◌, drop, length, Option, Some, if◌then◌else◌, sym, ap, ◌∙◌}
use Rattle.std.proofs.Math.ListN.{get_or}
use Rattle.std.proofs.lemmas.List.{drop_more}
use Rattle.table_schema.specs.declared.query.BoundQuery.{BoundQuery}
use Rattle.table_schema.specs.declared.settings.TreeSetting.{TreeSetting}
use Rattle.eligibility.specs.Rule.{is_eligible, picked_from}

module _ (query : BoundQuery) (n : ℕ) (trees : List TreeSetting) (tree : TreeSetting) (within : n < length trees) (at : tree ≡ get_or trees n tree) where
  step : (b : Bool) → is_eligible query tree ≡ b → picked_from query n (drop n trees) ≡ (if b then Some n else picked_from query (n + 1) (drop (n + 1) trees))
  step b is = ap (picked_from query n) (drop_more trees n tree within ∙ ap (λ t. t ∷ drop (n + 1) trees) (sym at)) ∙ ap (λ c. if c then Some n else picked_from query (n + 1) (drop (n + 1) trees)) is

  -- the tree at this number is the first
  pub found_here : is_eligible query tree ≡ true → picked_from query n (drop n trees) ≡ Some n
  found_here is = step true is

  -- it is a later one
  pub found_later : is_eligible query tree ≡ false → picked_from query n (drop n trees) ≡ picked_from query (n + 1) (drop (n + 1) trees)
  found_later is = step false is

-- Valid settings of a table: what each call that takes them may rely on, beside the fields of the
-- schema.
use Rattle.std.specs.Prelude.{◌≡◌, ℕ, ◌<◌, ◌≤◌, ◌^◌, Bool, true, false, not, ◌&&◌, nat_lt, List, [], ◌∷◌, ◌++◌, map, length, Option, Some, None}
use Rattle.std.specs.List.{list_all, slice_get, AllByRecursion}
use Rattle.agg_laws.specs.declared.aggregate_kind.AggKind.{AggKind}
use Rattle.agg_laws.specs.declared.aggregate_kind.AggKind.TheVariants.{Count}
use Rattle.table_schema.specs.declared.field.Field.{Field}
use Rattle.table_schema.specs.declared.settings.TreeSetting.{TreeSetting}
use Rattle.table_schema.specs.declared.settings.Settings.{Settings}
use Rattle.table_schema.specs.Names.{is_column_name}
use Rattle.table_schema.specs.Columns.{is_member}
use Rattle.table_schema.specs.Roles.{is_numeric}
use Rattle.table_schema.specs.Roles.{is_metric_at}
use Rattle.table_schema.specs.NeedIds.{is_set, needs_ids}

-- one of the fields has this number, from 0
abbrev pub is_number_of : List Field → ℕ → Bool
is_number_of fields n = nat_lt n (length fields)

-- no number stands before
abbrev pub no_number_twice : List ℕ → List ℕ → Bool
no_number_twice before [] = true
no_number_twice before (n ∷ ns) = not (is_member before n) && no_number_twice (before ++ n ∷ []) ns

-- COUNT has no column, and each other function has one of numbers
abbrev pub pair_fits : List Field → AggKind → Option ℕ → Bool
pair_fits fields Count None = true
pair_fits fields Count (Some n) = false
pair_fits fields function None = false
pair_fits fields function (Some n) = is_numeric (slice_get fields n)

-- a star-tree has the shape of its split order and its pairs
pub record IsValidTree (columns : List Field) (t : TreeSetting) : Type 0 where
  pub some_split : 0 < length t.split
  pub few_split : length t.split ≤ 16
  pub split_known : list_all (is_number_of columns) t.split ≡ true
  pub split_apart : no_number_twice [] t.split ≡ true
  pub some_pairs : 0 < length t.pairs
  pub few_pairs : length t.pairs ≤ 16
  pub pairs_fit : list_all (λ p. pair_fits columns p.kind p.column) t.pairs ≡ true
  pub has_dims : t.shape.dims ≡ length t.split
  pub has_skipped : t.shape.skipped < 2 ^ length t.split
  pub has_kinds : t.shape.kinds ≡ map (λ p. p.kind) t.pairs
  pub has_leaf : 0 < t.shape.leaf

-- there is no number, or one of the fields has it
abbrev pub is_known_number : List Field → Option ℕ → Bool
is_known_number fields None = true
is_known_number fields (Some n) = is_number_of fields n

-- a metric that is to be kept without a dictionary
abbrev pub is_raw_metric : List Field → Settings → ℕ → Bool
is_raw_metric fields s n = is_metric_at (slice_get fields n) && is_set (slice_get s.raw n)

-- settings over fields: what they name is there, once, within the limits and of the right type
pub record IsValidSettings (columns : List Field) (s : Settings) : Type 0 where
  pub is_named : is_column_name s.table ≡ true
  pub sorted_known : is_known_number columns s.sorted ≡ true
  pub each_inverted : length s.inverted ≡ length columns
  pub each_ranged : length s.ranged ≡ length columns
  pub each_raw : length s.raw ≡ length columns
  pub few_trees : length s.trees ≤ 8
  pub trees_valid : AllByRecursion (IsValidTree columns) s.trees
  pub raw_apart : (n : ℕ) → is_raw_metric columns s n ≡ true → needs_ids s n ≡ false

-- The pairs that a star-tree keeps: each is of a column that its function takes.
use Rattle.std.proofs.Common.{◌≡◌, ℕ, ◌+◌, ◌<◌, ◌≤◌, cond, Bool, true, false, ◌&&◌, ◌||◌, drop, take, List, [], ◌∷◌, ◌++◌, length, codes, Option, Some, None, is_some, option_and_then, refl, sym, ◌∙◌, subst, arith, length-append}
use Rattle.std.specs.List.{list_all, list_any, slice_get}
use Rattle.std.specs.Str.{bytes_eq}
use Rattle.std.proofs.lemmas.Bool.{false≢true}
use Rattle.std.proofs.lemmas.Option.{none-some, cond_some}
use Rattle.std.proofs.lemmas.List.Folds.{list_all-append}
use Rattle.serde_json.specs.Data.{Data}
use Rattle.agg_laws.specs.declared.aggregate_kind.AggKind.{AggKind}
use Rattle.agg_laws.specs.declared.aggregate_kind.AggKind.TheVariants.{Count, Sum, Least, Greatest, Average}
use Rattle.table_schema.specs.declared.field.Field.{Field}
use Rattle.table_schema.specs.declared.query.Agg.{Agg}
use Rattle.json_keys.specs.declared.fault.KeyKind.TheVariants.{BadPair}
use Rattle.table_schema.specs.Names.{Text}
use Rattle.json_keys.specs.Faults.{at_place, fault_unless}
use Rattle.table_schema.specs.Firsts.{by_place}
use Rattle.json_keys.specs.Keys.{text_finding}
use Rattle.table_schema.specs.Columns.{number_of, is_known}
use Rattle.json_keys.specs.NamedColumns.{text_of}
use Rattle.table_schema.specs.Aggs.{same_agg}
use Rattle.settings_parts.specs.Pairs.{function_named, mark_from, numeric_pair, pair_by, split_pair, pair_of, with_found, pairs_from, pair_finding}
use Rattle.table_schema.specs.Roles.{is_numeric}
use Rattle.table_schema.specs.ValidSettings.{pair_fits}
use Rattle.json_keys.proofs.Checks.{unless_none, both_true}
use Rattle.table_schema.proofs.FirstLaws.{first_none, nones}

module _ (fields : List Field) where
  abbrev fits : Agg → Bool
  fits p = pair_fits fields p.kind p.column

  -- ---- one pair

  numeric_fits : (k : AggKind) (n : ℕ) (p : Agg) → ((m : ℕ) → is_numeric (slice_get fields m) ≡ pair_fits fields k (Some m)) → numeric_pair fields k n ≡ Some p → fits p ≡ true
  numeric_fits k n p same e =
      let own : Agg = record { kind = k; column = Some n } in
      let q = cond_some (is_numeric (slice_get fields n)) own p e in
      subst (λ a. fits a ≡ true) q.1 (sym (same n) ∙ q.0)

  column_fits : (k : AggKind) (o : Option ℕ) (p : Agg) → ((m : ℕ) → is_numeric (slice_get fields m) ≡ pair_fits fields k (Some m)) → option_and_then (numeric_pair fields k) o ≡ Some p → fits p ≡ true
  column_fits k None p same e = absurd (none-some p e)
  column_fits k (Some n) p same e = numeric_fits k n p same e

  by_fits : (k : AggKind) (column : Text) (p : Agg) → pair_by fields k column ≡ Some p → fits p ≡ true
  by_fits Count column p e =
      let own : Agg = record { kind = Count; column = None } in
      let q = cond_some (bytes_eq column (codes "*") || is_known fields column) own p e in
      subst (λ a. fits a ≡ true) q.1 refl
  by_fits Sum column p e = column_fits Sum (number_of fields column) p (λ m. refl) e
  by_fits Least column p e = column_fits Least (number_of fields column) p (λ m. refl) e
  by_fits Greatest column p e = column_fits Greatest (number_of fields column) p (λ m. refl) e
  by_fits Average column p e = column_fits Average (number_of fields column) p (λ m. refl) e

  function_fits : (o : Option AggKind) (column : Text) (p : Agg) → option_and_then (λ k. pair_by fields k column) o ≡ Some p → fits p ≡ true
  function_fits None column p e = absurd (none-some p e)
  function_fits (Some k) column p e = by_fits k column p e

  mark_fits : (text : Text) (o : Option ℕ) (p : Agg) → option_and_then (split_pair fields text) o ≡ Some p → fits p ≡ true
  mark_fits text None p e = absurd (none-some p e)
  mark_fits text (Some at) p e = function_fits (function_named (take at text)) (drop (at + 2) text) p e

  -- ---- the list of them

  kept_by : (kept : List Agg) (p : Agg) (b : Bool) → list_all fits kept ≡ true → fits p ≡ true → list_all fits (cond b kept (kept ++ p ∷ [])) ≡ true
  kept_by kept p true all own = all
  kept_by kept p false all own = list_all-append fits kept (p ∷ []) ∙ both_true (list_all fits kept) (fits p && true) all (both_true (fits p) true own refl)

  found_fits : (kept : List Agg) (text : Text) (o : Option Agg) → pair_of fields text ≡ o → list_all fits kept ≡ true → list_all fits (with_found kept o) ≡ true
  found_fits kept text None e all = all
  found_fits kept text (Some p) e all = kept_by kept p (list_any (λ q. same_agg q p) kept) all (mark_fits text (mark_from 0 text) p e)

  pub pairs_fit : (kept : List Agg) (ds : List Data) → list_all fits kept ≡ true → list_all fits (pairs_from fields kept ds) ≡ true
  pairs_fit kept [] all = all
  pairs_fit kept (d ∷ ds) all = pairs_fit (with_found kept (pair_of fields (text_of d))) ds (found_fits kept (text_of d) (pair_of fields (text_of d)) refl all)

  -- ---- it is not empty

  grown_by : (kept : List Agg) (p : Agg) (b : Bool) → length kept ≤ length (cond b kept (kept ++ p ∷ []))
  grown_by kept p true = omega arith
  grown_by kept p false = omega (arith, length-append kept (p ∷ []))

  found_grows : (kept : List Agg) (o : Option Agg) → length kept ≤ length (with_found kept o)
  found_grows kept None = omega arith
  found_grows kept (Some p) = grown_by kept p (list_any (λ q. same_agg q p) kept)

  pairs_grow : (kept : List Agg) (ds : List Data) → length kept ≤ length (pairs_from fields kept ds)
  pairs_grow kept [] = omega arith
  pairs_grow kept (d ∷ ds) = omega (arith, found_grows kept (pair_of fields (text_of d)), pairs_grow (with_found kept (pair_of fields (text_of d))) ds)

  first_found : (o : Option Agg) → is_some o ≡ true → 0 < length (with_found [] o)
  first_found None e = absurd (false≢true e)
  first_found (Some p) e = omega arith

  pub some_pair : (path : Text) (ds : List Data) → 0 < length ds → by_place (λ before d. pair_finding fields (at_place path (length before)) d) [] ds ≡ None → 0 < length (pairs_from fields [] ds)
  some_pair path [] some none = absurd (omega arith)
  some_pair path (d ∷ ds) some none =
      let here = at_place path 0 in
      let rest = by_place (λ before e. pair_finding fields (at_place path (length before)) e) (d ∷ []) ds in
      let first = first_none (pair_finding fields here d) rest none in
      let own = nones (text_finding here d ∷ fault_unless (is_some (pair_of fields (text_of d))) BadPair here ∷ []) first in
      let found = first_found (pair_of fields (text_of d)) (unless_none (is_some (pair_of fields (text_of d))) BadPair here own.1.0) in
      omega (arith, found, pairs_grow (with_found [] (pair_of fields (text_of d))) ds)

-- What the checks of indexes accept is valid.
use Rattle.std.proofs.Common.{◌≡◌, ℕ, zero, suc, Bool, true, false, ◌||◌, codes, List, [], ◌∷◌, length, map, Option, Some, None, option_and_then, unwrap_or, ◌==◌, if◌then◌else◌, refl, arith}
use Rattle.std.specs.List.{slice_get}
use Rattle.serde_json.specs.Data.{Data, null}
use Rattle.table_schema.specs.declared.field.Field.{Field}
use Rattle.table_schema.specs.Names.{Text}
use Rattle.json_keys.specs.Json.{key_of}
use Rattle.json_keys.specs.Keys.{optional, object_finding, refused_bool, items_at}
use Rattle.json_keys.specs.Faults.{below}
use Rattle.table_schema.specs.Names.{is_column_name}
use Rattle.table_schema.specs.Columns.{number_of}
use Rattle.json_keys.specs.NamedColumns.{columns_finding, named}
use Rattle.settings_parts.specs.Trees.{TREES_KEY, trees_finding, tree_of}
use Rattle.table_schema.specs.Valid.{no_repeat}
use Rattle.settings_parts.specs.Indexes.{INDEX_KEY, INVERTED_KEY, RANGE_KEY, RAW_KEY, SORTED_KEY, sorted_finding, sorted_number, sorted_name, index_form, raw_finding, index_finding, indexed}
use Rattle.table_schema.specs.NeedIds.{is_set, needs_ids}
use Rattle.table_schema.specs.ValidSettings.{is_known_number, IsValidSettings}
use Rattle.json_keys.proofs.Places.{length-map}
use Rattle.table_schema.proofs.NumberLaw.{number_known}
use Rattle.settings_parts.proofs.TreeLaw.{trees_valid}
use Rattle.settings_parts.proofs.RawLaw.{raw_fits}
use Rattle.table_schema.proofs.FirstLaws.{nones}

-- ---- without indexes

unmarked : (fields : List Field) (n : ℕ) → is_set (slice_get (named fields []) n) ≡ false
unmarked [] n = refl
unmarked (f ∷ fields) zero = refl
unmarked (f ∷ fields) (suc n) = unmarked fields n

no_ids : (fields : List Field) (table : Text) (n : ℕ) → needs_ids (indexed fields table null) n ≡ false
no_ids fields table n = (λ i. unmarked fields n i || unmarked fields n i || false)

plain_valid : (fields : List Field) (table : Text) → is_column_name table ≡ true → IsValidSettings fields (indexed fields table null)
plain_valid fields table name = record {
  is_named = name;
  sorted_known = refl;
  each_inverted = length-map _ fields;
  each_ranged = length-map _ fields;
  each_raw = length-map _ fields;
  few_trees = omega arith;
  trees_valid = tt;
  raw_apart = λ n _. no_ids fields table n;
}

-- ---- with sorted columns, indexes and trees

sorted_by : (fields : List Field) (name : Text) (b : Bool) → is_known_number fields (if b then None else number_of fields name) ≡ true
sorted_by fields name true = refl
sorted_by fields name false = number_known fields name

sorted_in : (fields : List Field) (o : Option Data) → is_known_number fields (option_and_then (λ v. sorted_number fields (sorted_name v)) o) ≡ true
sorted_in fields None = refl
sorted_in fields (Some v) = sorted_by fields (sorted_name v) (length (sorted_name v) == 0)

pub index_valid : (fields : List Field) (table : Text) (o : Option Data) → no_repeat [] (map (λ f. f.name) fields) ≡ true → is_column_name table ≡ true
    → optional (index_finding fields table) o ≡ None → IsValidSettings fields (indexed fields table (unwrap_or o null))
index_valid fields table None apart name none = plain_valid fields table name
index_valid fields table (Some d) apart name none =
    let s = indexed fields table d in
    let all = nones (index_form fields d ∷ raw_finding fields s d ∷ []) none in
    let form = nones (
    object_finding INDEX_KEY d
    ∷ refused_bool true INDEX_KEY (codes "nullHandlingEnabled") d
    ∷ sorted_finding fields INDEX_KEY d
    ∷ columns_finding fields INDEX_KEY INVERTED_KEY d
    ∷ columns_finding fields INDEX_KEY RANGE_KEY d
    ∷ columns_finding fields INDEX_KEY RAW_KEY d
    ∷ trees_finding fields INDEX_KEY d
    ∷ []) all.0 in
    let trees = trees_valid fields INDEX_KEY d form.1.1.1.1.1.1.0 in
    record {
      is_named = name;
      sorted_known = sorted_in fields (key_of SORTED_KEY d);
      each_inverted = length-map _ fields;
      each_ranged = length-map _ fields;
      each_raw = length-map _ fields;
      few_trees = omega (arith, trees.0, length-map (tree_of fields) (items_at TREES_KEY d));
      trees_valid = trees.1;
      raw_apart = raw_fits fields s (below INDEX_KEY RAW_KEY) (items_at RAW_KEY d) apart all.1.0;
    }

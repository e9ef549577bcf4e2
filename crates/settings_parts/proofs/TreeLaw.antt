-- What the checks of star-trees accept is valid.
use Rattle.std.proofs.Common.{◌≡◌, ℕ, suc, ◌+◌, ◌*◌, ◌^◌, ◌<◌, ◌≤◌, ◌==◌, nat_le, Bool, true, false, not, List, [], ◌∷◌, ◌++◌, map, length, codes, Option, Some, None, is_some, option_and_then, unwrap_or, if◌then◌else◌, refl, ap, subst, arith, rules, tests}
use Rattle.std.specs.List.{list_all, cons_option, AllByRecursion}
use Rattle.std.proofs.lemmas.Bool.{false≢true}
use Rattle.serde_json.specs.Data.{Data}
use Rattle.table_schema.specs.declared.field.Field.{Field}
use Rattle.json_keys.specs.declared.fault.KeyKind.TheVariants.{DuplicateColumn, TooMany, UnknownColumn}
use Rattle.table_schema.specs.Names.{Text}
use Rattle.json_keys.specs.Json.{key_of, array_of}
use Rattle.json_keys.specs.Faults.{at_place, below, fault_if, fault_unless}
use Rattle.table_schema.specs.Firsts.{by_place}
use Rattle.json_keys.specs.Keys.{required, object_finding, text_finding, unused_key, optional_array, items_at}
use Rattle.table_schema.specs.Columns.{number_of, is_known, is_member}
use Rattle.json_keys.specs.NamedColumns.{text_of, numbers_of, column_finding}
use Rattle.json_keys.specs.Leaf.{count_of, LEAF_KEY, leaf_finding, leaf_size}
use Rattle.settings_parts.specs.Pairs.{pairs_of, pair_places, pairs_finding}
use Rattle.settings_parts.specs.Trees.{some_items, needed_array, has_number, is_taken, split_place, split_places, SPLIT_KEY, split_finding, split_of, skip_finding, skips_of, bits_of, PAIRS_KEY, tree_pairs_finding, tree_finding, tree_of, TREES_KEY, tree_places, trees_finding}
use Rattle.table_schema.specs.ValidSettings.{is_number_of, no_number_twice, IsValidTree}
use Rattle.json_keys.proofs.Checks.{unless_none, if_none, both_true}
use Rattle.settings_parts.proofs.Numbers.{numbers_of-append}
use Rattle.table_schema.proofs.NumberLaw.{number_in}
use Rattle.settings_parts.proofs.PairLaw.{pairs_fit, some_pair}
use Rattle.table_schema.proofs.FirstLaws.{first_none, rest_none, nones}

-- ---- arrays that are not empty

some_by : (path : Text) (o : Option (List Data)) → some_items path o ≡ None → 0 < length (unwrap_or o [])
some_by path None e = absurd (cc)
some_by path (Some []) e = absurd (cc)
some_by path (Some (d ∷ ds)) e = omega arith

needed_by : (path : Text) (o : Option Data) → required path (λ v. some_items path (array_of v)) o ≡ None → 0 < length (unwrap_or (option_and_then array_of o) [])
needed_by path None e = absurd (cc)
needed_by path (Some d) e = some_by path (array_of d) e

needed_some : (base key : Text) (d : Data) → needed_array base key d ≡ None → 0 < length (items_at key d)
needed_some base key d e = needed_by (below base key) (key_of key d) e

few_by : (n m : ℕ) → nat_le n m ≡ true → n ≤ m
few_by n m e = search (rules, tests)

-- ---- the split order

module _ (fields : List Field) where
  in_by : (name : Text) (o : Option ℕ) (rest : List ℕ) → number_of fields name ≡ o → list_all (is_number_of fields) rest ≡ true → list_all (is_number_of fields) (cons_option o rest) ≡ true
  in_by name None rest e all = all
  in_by name (Some n) rest e all = both_true (is_number_of fields n) _ (number_in fields name n e) all

  all_in : (ds : List Data) → list_all (is_number_of fields) (numbers_of fields ds) ≡ true
  all_in [] = refl
  all_in (d ∷ ds) = in_by (text_of d) (number_of fields (text_of d)) (numbers_of fields ds) refl (all_in ds)

  shorter_by : (o : Option ℕ) (rest : List ℕ) (n : ℕ) → length rest ≤ n → length (cons_option o rest) ≤ suc n
  shorter_by None rest n le = omega (arith, le)
  shorter_by (Some m) rest n le = omega (arith, le)

  shorter : (ds : List Data) → length (numbers_of fields ds) ≤ length ds
  shorter [] = omega arith
  shorter (d ∷ ds) = shorter_by (number_of fields (text_of d)) (numbers_of fields ds) (length ds) (shorter ds)

  named : (path : Text) (d : Data) → column_finding fields path d ≡ None → is_known fields (text_of d) ≡ true
  named path d none =
      let all = nones (text_finding path d ∷ fault_unless (is_known fields (text_of d)) UnknownColumn path ∷ []) none in
      unless_none (is_known fields (text_of d)) UnknownColumn path all.1.0

  apart_by : (o : Option ℕ) (before rest : List ℕ) → is_some o ≡ true → has_number before o ≡ false → no_number_twice (before ++ cons_option o []) rest ≡ true → no_number_twice before (cons_option o rest) ≡ true
  apart_by None before rest known own later = absurd (false≢true known)
  apart_by (Some n) before rest known own later = both_true (not (is_member before n)) _ (ap not own) later

  module _ (path : Text) where
    apart : (before ds : List Data) → by_place (λ before d. split_place fields (at_place path (length before)) (numbers_of fields before) d) before ds ≡ None
        → no_number_twice (numbers_of fields before) (numbers_of fields ds) ≡ true
    apart before [] none = refl
    apart before (d ∷ ds) none =
        let here = at_place path (length before) in
        let split = numbers_of fields before in
        let later = by_place (λ before d. split_place fields (at_place path (length before)) (numbers_of fields before) d) (before ++ d ∷ []) ds in
        let own = nones (column_finding fields here d ∷ fault_if (is_taken fields split (text_of d)) DuplicateColumn here ∷ []) (first_none (split_place fields here split d) later none) in
        let rest = apart (before ++ d ∷ []) ds (rest_none (split_place fields here split d) later none) in
        apart_by (number_of fields (text_of d)) split (numbers_of fields ds) (named here d own.0) (if_none (is_taken fields split (text_of d)) DuplicateColumn here own.1.0)
        (subst (λ ns. no_number_twice ns (numbers_of fields ds) ≡ true) (numbers_of-append fields before d) rest)

    some_by_name : (o : Option ℕ) (rest : List ℕ) → is_some o ≡ true → 0 < length (cons_option o rest)
    some_by_name None rest e = absurd (false≢true e)
    some_by_name (Some n) rest e = omega arith

    some_split : (ds : List Data) → 0 < length ds → split_places fields path ds ≡ None → 0 < length (numbers_of fields ds)
    some_split [] some none = absurd (omega arith)
    some_split (d ∷ ds) some none =
        let here = at_place path 0 in
        let later = by_place (λ before d. split_place fields (at_place path (length before)) (numbers_of fields before) d) (d ∷ []) ds in
        let own = nones (column_finding fields here d ∷ fault_if (is_taken fields [] (text_of d)) DuplicateColumn here ∷ []) (first_none (split_place fields here [] d) later none) in
        some_by_name (number_of fields (text_of d)) (numbers_of fields ds) (named here d own.0)

-- ---- the shape

bit_by : (b : Bool) (bits k : ℕ) → bits < 2 ^ k → (if b then 1 else 0) + 2 * bits < 2 ^ suc k
bit_by true bits k lt = omega (arith, lt)
bit_by false bits k lt = omega (arith, lt)

bits_below : (skipped split : List ℕ) → bits_of skipped split < 2 ^ length split
bits_below skipped [] = omega arith
bits_below skipped (n ∷ split) = bit_by (is_member skipped n) (bits_of skipped split) (length split) (bits_below skipped split)

leaf_by : (n : ℕ) (b : Bool) → (n == 0) ≡ b → 0 < (if b then 10000 else n)
leaf_by n true e = omega arith
leaf_by n false e = search (rules, tests)

some_leaf : (n : ℕ) → 0 < leaf_size n
some_leaf n = leaf_by n (n == 0) refl

-- ---- the trees

module _ (fields : List Field) where
  tree_valid : (base : Text) (d : Data) → tree_finding fields base d ≡ None → IsValidTree fields (tree_of fields d)
  tree_valid base d none =
      let all = nones (
      object_finding base d
      ∷ unused_key base (codes "aggregationConfigs") d
      ∷ split_finding fields base d
      ∷ skip_finding fields base (split_of fields d) d
      ∷ tree_pairs_finding fields base d
      ∷ leaf_finding base d
      ∷ []) none in
      let items = items_at SPLIT_KEY d in
      let split = nones (
      needed_array base SPLIT_KEY d
      ∷ fault_unless (nat_le (length items) 16) TooMany (below base SPLIT_KEY)
      ∷ split_places fields (below base SPLIT_KEY) items
      ∷ []) all.1.1.0 in
      let pairs = items_at PAIRS_KEY d in
      let kept = nones (needed_array base PAIRS_KEY d ∷ pairs_finding fields (below base PAIRS_KEY) pairs ∷ []) all.1.1.1.1.0 in
      let found = nones (
      pair_places fields (below base PAIRS_KEY) pairs
      ∷ fault_unless (nat_le (length (pairs_of fields pairs)) 16) TooMany (below base PAIRS_KEY)
      ∷ []) kept.1.0 in
      let at_most = few_by (length items) 16 (unless_none (nat_le (length items) 16) TooMany (below base SPLIT_KEY) split.1.0) in
      record {
        some_split = some_split fields (below base SPLIT_KEY) items (needed_some base SPLIT_KEY d split.0) split.1.1.0;
        few_split = omega (arith, at_most, shorter fields items);
        split_known = all_in fields items;
        split_apart = apart fields (below base SPLIT_KEY) [] items split.1.1.0;
        some_pairs = some_pair fields (below base PAIRS_KEY) pairs (needed_some base PAIRS_KEY d kept.0) found.0;
        few_pairs = few_by (length (pairs_of fields pairs)) 16 (unless_none (nat_le (length (pairs_of fields pairs)) 16) TooMany (below base PAIRS_KEY) found.1.0);
        pairs_fit = pairs_fit fields [] pairs refl;
        has_dims = refl;
        has_skipped = bits_below (skips_of fields d) (split_of fields d);
        has_kinds = refl;
        has_leaf = some_leaf (unwrap_or (option_and_then count_of (key_of LEAF_KEY d)) 0);
      }

  trees_from : (path : Text) (before ds : List Data) → by_place (λ before d. tree_finding fields (at_place path (length before)) d) before ds ≡ None → AllByRecursion (IsValidTree fields) (map (tree_of fields) ds)
  trees_from path before [] none = tt
  trees_from path before (d ∷ ds) none =
      let here = at_place path (length before) in
      let later = by_place (λ before d. tree_finding fields (at_place path (length before)) d) (before ++ d ∷ []) ds in
      (tree_valid here d (first_none (tree_finding fields here d) later none), trees_from path (before ++ d ∷ []) ds (rest_none (tree_finding fields here d) later none))

  pub trees_valid : (base : Text) (d : Data) → trees_finding fields base d ≡ None → (length (items_at TREES_KEY d) ≤ 8) × AllByRecursion (IsValidTree fields) (map (tree_of fields) (items_at TREES_KEY d))
  trees_valid base d none =
      let items = items_at TREES_KEY d in
      let all = nones (
      optional_array base TREES_KEY d
      ∷ fault_unless (nat_le (length items) 8) TooMany (below base TREES_KEY)
      ∷ tree_places fields (below base TREES_KEY) items
      ∷ []) none in
      (few_by (length items) 8 (unless_none (nat_le (length items) 8) TooMany (below base TREES_KEY) all.1.0), trees_from (below base TREES_KEY) [] items all.1.1.0)

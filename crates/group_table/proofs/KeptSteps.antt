-- A table after a new group, and after a change to one.
use Rattle.std.proofs.Common.{◌≡◌, ◌∙◌, ℕ, ◌+◌, ◌<◌, ◌≤◌, Bool, true, false, cond, nat_le, List, [], ◌∷◌, ◌++◌, length, map, Option, Some, None, refl, sym, ap, subst, arith, if◌then◌else◌, ℤ, is_some, nat_eq}
use borrow.Author.Tests.{eqb-true, eqb-false}
use Rattle.std.specs.FinMap as finite
use Rattle.std.specs.List.{AllByRecursion, IsDistinct}
use Rattle.std.specs.Map.{keys_of, lookup, set_value}
use Rattle.std.specs.Option.{option_map_or}
use Rattle.values.specs.declared.value.Value.{Value}
use Rattle.agg_laws.specs.declared.aggregate_kind.AggKind.{AggKind}
use Rattle.agg_laws.specs.declared.aggregate_kind.AggKind.TheVariants as kinds
use Rattle.agg_laws.specs.declared.states.AggState.{AggState}
use Rattle.agg_laws.specs.declared.states.AggState.TheVariants.{Count, Sum, Least, Greatest}
use Rattle.agg_laws.specs.declared.states.AggState.TheVariants.{Average}
use Rattle.agg_laws.specs.Numbers.{most_values}
use Rattle.agg_laws.specs.States.{kind_of, rank_of, state_of, unit_of, merged, Fits}
use Rattle.agg_laws.specs.Rows.{head_of, tail_of, row_of, units_of, kinds_of, merged_rows, RowFits}
use Rattle.agg_laws.specs.Order.{HasValues}
use Rattle.agg_laws.specs.laws.Rows as rows
use Rattle.agg_laws.specs.laws.States as laws
use Rattle.std.proofs.lemmas.List.Elements.{All-from_recursion}
use Rattle.table_schema.specs.declared.query.Agg.{Agg}
use Rattle.table_schema.specs.declared.query.BoundQuery.{BoundQuery}
use Rattle.group_table.specs.Groups as of_rows
use Rattle.std.proofs.lemmas.Bool.{false≢true}
use Rattle.group_table.specs.Shape.{Shape, shape_of}
use Rattle.state_columns.proofs.ValueSteps.{kinds_row}
use Rattle.state_columns.proofs.RegionSteps.{kinds_merged}
use Rattle.state_columns.proofs.RowPlaces.{length-kinds_of}
use Rattle.group_table.specs.Groups.{Group, Groups, groups_of, has_key, states_of, key_order, with_states, merged_in}
use Rattle.std.specs.List.{filter}
use Rattle.group_table.specs.Kept.{KeptGroups, groups_in, key_eq, HaveValues, IsGroup, IsTable, Merges, IsNew, IsNewKey, group_at}
use Rattle.group_table.proofs.KeptLemmas.{key_total, get_lookup, inserted, len_once, each_set, each_push, each_found}

-- ---- values that states stand for

one_value : (k : AggKind) (x : ℤ) → HasValues (state_of k (x ∷ []))
one_value kinds.Count x = omega arith
one_value kinds.Sum x = tt
one_value kinds.Least x = tt
one_value kinds.Greatest x = tt
one_value kinds.Average x = omega arith

pub one_row : (ks : List AggKind) (xs : List ℤ) → HaveValues (row_of ks (xs ∷ []))
one_row [] xs = tt
one_row (k ∷ ks) xs = (one_value k (head_of xs), one_row ks (tail_of xs))

either_has : (b : Bool) (v w : AggState) → HasValues v → HasValues w → HasValues (if b then v else w)
either_has true v w p q = p
either_has false v w p q = q

both_have : (v w : AggState) → HasValues v → HasValues w → HasValues (merged v w)
both_have (Count v) (Count w) p q = omega (arith, p)
both_have (Sum v) (Sum w) p q = tt
both_have (Least None) (Least w) p q = absurd p
both_have (Least (Some v)) (Least None) p q = tt
both_have (Least (Some v)) (Least (Some w)) p q = tt
both_have (Greatest None) (Greatest w) p q = absurd p
both_have (Greatest (Some v)) (Greatest None) p q = tt
both_have (Greatest (Some v)) (Greatest (Some w)) p q = tt
both_have (Average v) (Average w) p q = omega (arith, p)
both_have v w p q = either_has (nat_le (rank_of (kind_of v)) (rank_of (kind_of w))) v w p q

rows_have : (vs ws : List AggState) → HaveValues vs → HaveValues ws → HaveValues (merged_rows vs ws)
rows_have [] ws p q = tt
rows_have (v ∷ vs) [] p q = tt
rows_have (v ∷ vs) (w ∷ ws) p q = (both_have v w p.0 q.0, rows_have vs ws p.1 q.1)

-- ---- units, with a row of values added

pub kinds_units : (ks : List AggKind) → kinds_of (units_of ks) ≡ ks
kinds_units ks = ap kinds_of (sym (rows.of_none ks)) ∙ kinds_row ks []

pub length-units : (ks : List AggKind) → length (units_of ks) ≡ length ks
length-units ks = sym (length-kinds_of (units_of ks)) ∙ ap length (kinds_units ks)

pub one_added : (ks : List AggKind) (us : List AggState) (xs : List ℤ) → us ≡ units_of ks → merged_rows us (row_of (kinds_of us) (xs ∷ [])) ≡ row_of ks (xs ∷ [])
one_added ks us xs e =
    (λ i. merged_rows (e i) (row_of ((ap kinds_of e ∙ kinds_units ks) i) (xs ∷ [])))
    ∙ ap (λ vs. merged_rows vs (row_of ks (xs ∷ []))) (sym (rows.of_none ks)) ∙ sym (rows.of_both ks [] (xs ∷ []))

-- ---- the groups of a table changed

-- the same table with other groups
abbrev pub with_groups : KeptGroups → List Group → KeptGroups
with_groups t groups = record { columns = t.columns; kinds = t.kinds; most = t.most; groups = groups }

module _ (t : KeptGroups) (key : List Value) (states : List AggState) where
  -- where the key is found, and where it is not
  pub own_with : (own : List AggState) → lookup (key_eq key) t.groups ≡ Some own → with_states (groups_in t) key states ≡ merged_rows own states
  own_with own e = ap (λ o. option_map_or (λ s. merged_rows s states) o states) (get_lookup t.groups key ∙ e)

  pub new_with : IsNewKey t key → with_states (groups_in t) key states ≡ states
  new_with e = ap (λ o. option_map_or (λ s. merged_rows s states) o states) e

  pub new_key : lookup (key_eq key) t.groups ≡ None → IsNewKey t key
  new_key e = get_lookup t.groups key ∙ e

  pub not_new : (own : List AggState) → lookup (key_eq key) t.groups ≡ Some own → IsNewKey t key → ⊥
  not_new own e none = let x = sym (get_lookup t.groups key ∙ e) ∙ none in cc

  pub own_group : (own : List AggState) → lookup (key_eq key) t.groups ≡ Some own → IsTable t → IsGroup t.columns t.kinds (key, own)
  own_group own e table = each_found (IsGroup t.columns t.kinds) key t.groups own e table.each

  -- what a look-up says of groups into which the states of a key were merged
  pub record Written (w : List AggState) (groups : List Group) : Type 0 where
    pub set : groups ≡ set_value (key_eq key) t.groups w
    pub keys : keys_of groups ≡ keys_of t.groups
    pub len : length groups ≡ length t.groups
    pub others : (q : List Value) → lookup (key_eq q) groups ≡ cond (key_eq key q) (Some w) (lookup (key_eq q) t.groups)

  pub merges : (groups : List Group) (w : List AggState) → w ≡ with_states (groups_in t) key states
      → ((q : List Value) → lookup (key_eq q) groups ≡ cond (key_eq key q) (Some w) (lookup (key_eq q) t.groups))
      → Merges key states t (with_groups t groups)
  merges groups w e others = record {
    columns = refl;
    kinds = refl;
    most = refl;
    groups = inserted t.groups groups key w others ∙ ap (finite.insert (groups_in t) key) e;
  }

  pub merged_group : (own : List AggState) → IsGroup t.columns t.kinds (key, own) → kinds_of states ≡ t.kinds
      → (0 < t.columns → HaveValues states) → RowFits (merged_rows own states) most_values
      → IsGroup t.columns t.kinds (key, merged_rows own states)
  merged_group own group ks values fits = record {
    key = group.key;
    states = kinds_merged own states (group.states ∙ sym ks) ∙ group.states;
    fits = fits;
    values = λ lt. rows_have own states (group.values lt) (values lt);
  }

  pub written_table : (w : List AggState) (groups : List Group) → IsTable t → IsGroup t.columns t.kinds (key, w) → Written w groups → IsTable (with_groups t groups)
  written_table w groups table group written = record {
    at_most = subst (λ n. n ≤ t.most) (sym written.len) table.at_most;
    most_fits = table.most_fits;
    each = subst (AllByRecursion (IsGroup t.columns t.kinds)) (sym written.set) (each_set (IsGroup t.columns t.kinds) key w t.groups group table.each);
    once = subst (IsDistinct key_eq) (sym written.keys) table.once;
  }

  pub pushed_table : (groups : List Group) → IsTable t → IsGroup t.columns t.kinds (key, states) → finite.len (groups_in t) < t.most
      → groups ≡ t.groups ++ (key, states) ∷ [] → IsDistinct key_eq (keys_of groups) → length groups ≡ length t.groups + 1 → IsTable (with_groups t groups)
  pushed_table groups table group room is once len = record {
    at_most = omega (arith, room, len, len_once t.groups table.once);
    most_fits = table.most_fits;
    each = subst (AllByRecursion (IsGroup t.columns t.kinds)) (sym is) (each_push (IsGroup t.columns t.kinds) (key, states) t.groups group table.each);
    once = once;
  }

pub none_from : {X : Type 0} (o : Option X) → is_some o ≡ false → o ≡ None
none_from None e = refl
none_from (Some x) e = cc

-- a key that is not there is new
pub new_from : (t : KeptGroups) (key : List Value) (there : Bool) → there ≡ is_some (finite.get (groups_in t) key) → there ≡ false → IsNewKey t key
new_from t key there e is = none_from (finite.get (groups_in t) key) (sym e ∙ is)

-- whether a table is full
pub full_at : (t : KeptGroups) → IsTable t → (n : ℕ) → n ≡ length t.groups → nat_eq n t.most ≡ true → finite.len (groups_in t) ≡ t.most
full_at t table n len e = len_once t.groups table.once ∙ sym len ∙ eqb-true n t.most e

pub room_at : (t : KeptGroups) → IsTable t → (n : ℕ) → n ≡ length t.groups → nat_eq n t.most ≡ false → finite.len (groups_in t) < t.most
room_at t table n len e = omega (arith, len_once t.groups table.once, table.at_most, len, eqb-false n t.most e)

module _ (t : KeptGroups) (key : List Value) (states : List AggState) (table : IsTable t) where
  -- states merged into those of the group of a key
  pub grown : (own : List AggState) → lookup (key_eq key) t.groups ≡ Some own → kinds_of states ≡ t.kinds
      → (0 < t.columns → HaveValues states) → RowFits (with_states (groups_in t) key states) most_values
      → (w : List AggState) → w ≡ merged_rows own states → (groups : List Group) → Written t key states w groups
      → IsTable (with_groups t groups) × Merges key states t (with_groups t groups)
  grown own here ks values fits w is groups written =
      let same = own_with t key states own here in
      let group = own_group t key states own here table in
      let more = merged_group t key states own group ks values (subst (λ s. RowFits s most_values) same fits) in
      let at : IsGroup t.columns t.kinds (key, w) = subst (λ (s : List AggState). IsGroup t.columns t.kinds (key, s)) (sym is) more in
      (written_table t key states w groups table at written, merges t key states groups w (is ∙ sym same) written.others)

-- the group that a new key gets
pub fresh_group : (t s : KeptGroups) (key key' : List Value) (states states' : List AggState) → s ≡ t → key' ≡ key → length key ≡ t.columns
    → states' ≡ states → kinds_of states ≡ t.kinds → (0 < t.columns → HaveValues states)
    → RowFits (with_states (groups_in t) key states) most_values → IsNewKey t key → IsGroup s.columns s.kinds (key', states')
fresh_group t s key key' states states' same k len v ks values fits new =
    let group : IsGroup t.columns t.kinds (key, states) = record {
      key = len;
      states = ks;
      fits = subst (λ s. RowFits s most_values) (new_with t key states new) fits;
      values = values;
    } in
    subst (λ (s : KeptGroups). IsGroup s.columns s.kinds (key', states')) (sym same)
    (subst (λ (k : List Value). IsGroup t.columns t.kinds (k, states')) (sym k)
    (subst (λ (s : List AggState). IsGroup t.columns t.kinds (key, s)) (sym v) group))

-- memory is asked for where the key is new and there is room
pub asked : (t s : KeptGroups) (key : List Value) (there : Bool) → there ≡ is_some (finite.get (groups_in t) key) → there ≡ false → s ≡ t
    → finite.len (groups_in s) < s.most → IsNewKey t key × (finite.len (groups_in t) < t.most)
asked t s key there e is same room = (new_from t key there e is, subst (λ (s : KeptGroups). finite.len (groups_in s) < s.most) same room)

-- ---- a table over no rows

unit_fits : (k : AggKind) → Fits (unit_of k) most_values
unit_fits k = laws.fits_more (unit_of k) 0 most_values (subst (λ v. Fits v 0) (laws.of_none k) (laws.fits_of k [] tt)) (omega arith)

pub units_fit : (ks : List AggKind) → RowFits (units_of ks) most_values
units_fit [] = tt
units_fit (k ∷ ks) = (unit_fits k, units_fit ks)

pub no_columns : (n : ℕ) (groups : List ℕ) → n ≡ length groups → nat_eq (length groups) 0 ≡ true → n ≡ 0
no_columns n groups len e = len ∙ eqb-true (length groups) 0 e

pub empty_group : (columns : ℕ) (ks : List AggKind) (key : List Value) (states : List AggState) → columns ≡ 0 → key ≡ [] → states ≡ units_of ks → IsGroup columns ks (key, states)
empty_group columns ks key states none k s = record {
  key = ap length k ∙ sym none;
  states = ap kinds_of s ∙ kinds_units ks;
  fits = subst (λ s. RowFits s most_values) (sym s) (units_fit ks);
  values = λ lt. absurd (omega (arith, lt, none));
}

states_none : (aggs : List Agg) → states_of aggs [] ≡ units_of (map (λ agg. agg.kind) aggs)
states_none [] = refl
states_none (agg ∷ aggs) = λ i. laws.of_none agg.kind i ∷ states_none aggs i

keys_grouped : (groups : List ℕ) → nat_eq (length groups) 0 ≡ false → of_rows.keys_of groups [] ≡ []
keys_grouped [] e = absurd (false≢true (sym e))
keys_grouped (column ∷ columns) e = refl

keys_whole : (groups : List ℕ) → nat_eq (length groups) 0 ≡ true → groups ≡ []
keys_whole [] e = refl
keys_whole (column ∷ columns) e = absurd (omega (arith, eqb-true (length (column ∷ columns)) 0 e))

-- the groups over no rows: none with group columns, and else one of the empty key
none_grouped : (shape : Shape) → nat_eq (length shape.groups) 0 ≡ false → groups_of shape [] ≡ finite.empty
none_grouped shape e = ap (λ ks. finite.from_entries {R = key_order} (map (λ k. (k, states_of shape.aggs [])) ks)) (keys_grouped shape.groups e)

one_whole : (shape : Shape) → nat_eq (length shape.groups) 0 ≡ true → groups_of shape [] ≡ finite.insert finite.empty [] (units_of (map (λ agg. agg.kind) shape.aggs))
one_whole shape e = ap (λ groups. finite.from_entries {R = key_order} (map (λ k. (k, states_of shape.aggs [])) (of_rows.keys_of groups []))) (keys_whole shape.groups e)
    ∙ ap (finite.insert {R = key_order} finite.empty []) (states_none shape.aggs)

module _ (q : BoundQuery) (most : ℕ) (t : KeptGroups) (columns : t.columns ≡ length q.groups) (ks : t.kinds ≡ map (λ agg. agg.kind) q.aggs)
    (most_is : t.most ≡ most) (none : t.groups ≡ []) where
  pub no_groups : groups_in t ≡ finite.empty
  no_groups = ap (λ es. finite.from_entries {R = key_order} es) none

  pub room_first : 1 ≤ most → finite.len (groups_in t) < most
  room_first some = omega (arith, some, ap finite.len no_groups, finite.len-empty key_order (List AggState))

  pub new_first : (key : List Value) → IsNewKey t key
  new_first key = ap (λ (m : Groups). finite.get m key) no_groups ∙ finite.get-empty key_order key

  pub new_grouped : nat_eq (length q.groups) 0 ≡ false → IsNew q most t
  new_grouped e = record {
    of_query = record { columns = columns; kinds = ks };
    most_is = most_is;
    groups_are = no_groups ∙ sym (none_grouped (shape_of q) e);
  }

  pub new_whole : nat_eq (length q.groups) 0 ≡ true → (u : KeptGroups) (key : List Value) (states : List AggState) → key ≡ [] → states ≡ units_of t.kinds → Merges key states t u → IsNew q most u
  new_whole e u key states k s m = record {
    of_query = record { columns = m.columns ∙ columns; kinds = m.kinds ∙ ks };
    most_is = m.most ∙ most_is;
    groups_are = m.groups ∙ ap (finite.insert (groups_in t) key) (new_with t key states (new_first key))
        ∙ (λ i. finite.insert (no_groups i) (k i) ((s ∙ ap units_of ks) i)) ∙ sym (one_whole (shape_of q) e);
  }

-- the group at a place is of the table's shape
pub group_in : (t : KeptGroups) (at : ℕ) → IsTable t → at < length t.groups → IsGroup t.columns t.kinds (group_at t at)
group_in t at table lt = All-from_recursion (IsGroup t.columns t.kinds) t.groups table.each at ([], []) lt

pub state_in : (columns : ℕ) (kinds : List AggKind) (group : Group) (agg : ℕ) (states : List AggState) → IsGroup columns kinds group → group.1 ≡ states → agg < length kinds → agg < length states
state_in columns kinds group agg states g is in' = let len : length kinds ≡ length states = sym (ap length g.states) ∙ length-kinds_of group.1 ∙ ap length is in
    omega (arith, len, in')

-- without group columns there is one group
pub one_group : (shape : Shape) (rows : List (List Value)) → nat_eq (length shape.groups) 0 ≡ true → finite.len (groups_of shape rows) ≡ 1
one_group shape rows e = ap (λ groups. finite.len (finite.from_entries {R = key_order} (map (λ k. (k, states_of shape.aggs (filter (has_key shape.groups k) rows))) (of_rows.keys_of groups rows)))) (keys_whole shape.groups e)
    ∙ finite.len-insert key_total finite.empty [] (states_of shape.aggs (filter (has_key shape.groups []) rows))
    ∙ ap (λ (o : Option (List AggState)). cond (is_some o) (finite.len {X = List AggState} {R = key_order} finite.empty) (finite.len {X = List AggState} {R = key_order} finite.empty + 1)) (finite.get-empty key_order [])
    ∙ ap (λ n. n + 1) (finite.len-empty key_order (List AggState))

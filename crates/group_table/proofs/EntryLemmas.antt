-- What groups have at a key once keys with states are merged in.
use Rattle.std.proofs.Common.{◌≡◌, ◌∙◌, ℕ, Bool, true, false, cond, List, [], ◌∷◌, Option, Some, None, refl, sym, ap}
use Rattle.std.proofs.lemmas.Map.Keys.{IsDistinct-head, IsDistinct-tail}
use Rattle.std.proofs.lemmas.Map.Views.{tells_apart}
use Rattle.std.specs.FinMap as finite
use Rattle.std.specs.FinMap.{find}
use Rattle.std.specs.List.{IsDistinct, filter}
use Rattle.std.specs.Map.{keys_of}
use Rattle.std.specs.Option.{option_map_or}
use Rattle.std.specs.Ordering.{eq_by_cmp}
use Rattle.values.specs.declared.value.Value.{Value}
use Rattle.agg_laws.specs.declared.states.AggState.{AggState}
use Rattle.agg_laws.specs.Rows.{merged_rows}
use Rattle.agg_laws.specs.Merged.{join_some, total}
use Rattle.table_schema.specs.declared.query.Agg.{Agg}
use Rattle.state_columns.proofs.MergedLemmas.{join_assoc, join_none}
use Rattle.group_table.specs.Groups.{Adds, Group, Groups, groups_of, has_key, is_key, key_order, merged_in, states_for, states_of, with_entries, with_states}
use Rattle.group_table.specs.Kept.{key_eq}
use Rattle.group_table.specs.Shape.{Shape}
use Rattle.group_table.proofs.GroupsLemmas.{append_nil, found, groups_more, is_join, states_append}
use Rattle.group_table.proofs.KeptLemmas.{absent, key_same, key_total, lookup_find}

-- the states of a key among some entries
abbrev pub states_at : List Value → List Group → Option (List AggState)
states_at key es = total merged_rows (eq_by_cmp key_order key) es

with_own : (o : Option (List AggState)) (s : List AggState)
    → Some (option_map_or (λ own. merged_rows own s) o s) ≡ join_some merged_rows o (Some s)
with_own None s = refl
with_own (Some own) s = refl

-- one entry more
one_at : (groups : Groups) (key q : List Value) (s : List AggState)
    → finite.get (merged_in groups key s) q
    ≡ join_some merged_rows (finite.get groups q) (cond (eq_by_cmp key_order q key) (Some s) None)
one_at groups key q s =
    finite.get-insert key_total groups key (with_states groups key s) q
    ∙ by (eq_by_cmp key_order q key) refl
  where
    by : (b : Bool) → eq_by_cmp key_order q key ≡ b
        → cond b (Some (with_states groups key s)) (finite.get groups q)
        ≡ join_some merged_rows (finite.get groups q) (cond b (Some s) None)
    by true t = with_own (finite.get groups key) s
        ∙ ap (λ (k : List Value). join_some merged_rows (finite.get groups k) (Some s))
        (sym (tells_apart key_same q key t))
    by false t = sym (join_none merged_rows is_join (finite.get groups q))

-- at each key the states of both, where there are any
pub entries_at : (groups : Groups) (es : List Group) (q : List Value)
    → finite.get (with_entries groups es) q
    ≡ join_some merged_rows (finite.get groups q) (states_at q es)
entries_at groups [] q = sym (join_none merged_rows is_join (finite.get groups q))
entries_at groups (e ∷ es) q =
    entries_at (merged_in groups e.0 e.1) es q
    ∙ ap (λ o. join_some merged_rows o (states_at q es)) (one_at groups e.0 q e.1)
    ∙ join_assoc merged_rows is_join (finite.get groups q)
    (cond (eq_by_cmp key_order q e.0) (Some e.1) None) (states_at q es)

-- ---- entries of which each key has one

-- what a key has is what its entry has
once_at : (q : List Value) (es : List Group) → IsDistinct key_eq (keys_of es)
    → states_at q es ≡ find key_order q es
once_at q [] d = refl
once_at q (e ∷ es) d = by (eq_by_cmp key_order q e.0) refl
    (once_at q es (IsDistinct-tail key_eq e.0 (keys_of es) d))
  where
    by : (b : Bool) → eq_by_cmp key_order q e.0 ≡ b → states_at q es ≡ find key_order q es
        → join_some merged_rows (cond b (Some e.1) None) (states_at q es)
        ≡ cond b (Some e.1) (find key_order q es)
    by true t rest =
        let none : find key_order q es ≡ None =
        ap (λ (k : List Value). find key_order k es) (tells_apart key_same q e.0 t)
        ∙ sym (lookup_find e.0 es)
        ∙ absent e.0 es (IsDistinct-head key_eq e.0 (keys_of es) d) in
        ap (join_some merged_rows (Some e.1)) (rest ∙ none)
    by false t rest = rest

-- groups over no rows add nothing to those of any
nothing_more : (groups : List ℕ) (aggs : List Agg) (q : List Value) (rows : List (List Value))
    → join_some merged_rows
    (cond (is_key groups rows q) (Some (states_of aggs (filter (has_key groups q) rows))) None)
    (cond (is_key groups [] q) (Some (states_of aggs [])) None)
    ≡ cond (is_key groups rows q) (Some (states_of aggs (filter (has_key groups q) rows))) None
nothing_more [] aggs q rows = by (eq_by_cmp key_order q [])
  where
    own : List (List Value)
    own = filter (has_key [] q) rows

    by : (b : Bool) → join_some merged_rows (cond b (Some (states_of aggs own)) None)
        (cond b (Some (states_of aggs [])) None) ≡ cond b (Some (states_of aggs own)) None
    by true = ap Some (sym (states_append aggs own []) ∙ ap (states_of aggs) (append_nil own))
    by false = refl
nothing_more (g ∷ gs) aggs q rows = join_none merged_rows is_join
    (cond (is_key (g ∷ gs) rows q) (Some (states_of aggs (filter (has_key (g ∷ gs) q) rows))) None)

none_more : (shape : Shape) (rows : List (List Value)) (q : List Value)
    → join_some merged_rows (finite.get (groups_of shape rows) q)
    (finite.get (groups_of shape []) q) ≡ finite.get (groups_of shape rows) q
none_more shape rows q =
    (λ i. join_some merged_rows (found shape rows q i) (found shape [] q i))
    ∙ nothing_more shape.groups shape.aggs q rows ∙ sym (found shape rows q)

-- the groups of some rows, with those of others merged in, are those with the other rows added
pub absorbed : (shape : Shape) (done rows : List (List Value)) (es : List Group)
    → IsDistinct key_eq (keys_of es) → finite.from_entries es ≡ groups_of shape rows
    → Adds shape rows (groups_of shape done) (with_entries (groups_of shape done) es)
absorbed shape done rows es once same = record {
  each = λ q.
      let own = finite.get (groups_of shape done) q in
      let of_rows : states_at q es ≡ finite.get (groups_of shape rows) q =
      once_at q es once ∙ sym (finite.get-from_entries key_total es q)
      ∙ ap (λ (g : Groups). finite.get g q) same in
      entries_at (groups_of shape done) es q
      ∙ ap (join_some merged_rows own) (of_rows ∙ groups_more shape [] rows q)
      ∙ sym (join_assoc merged_rows is_join own (finite.get (groups_of shape []) q)
      (states_for shape rows q))
      ∙ ap (λ o. join_some merged_rows o (states_for shape rows q)) (none_more shape done q);
}

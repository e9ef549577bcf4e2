-- Documents that were selected are merged into groups, one after the other.
use Rattle.std.proofs.Common.{◌≡◌, ◌∙◌, ℕ, ◌+◌, ◌-◌, ◌<◌, ◌≤◌, List, [], ◌∷◌, ◌++◌, length, All, Some, None, get_or, take, drop, refl, sym, ap, subst, arith, ◌*◌, length-append, length-drop}
use Rattle.std.proofs.lemmas.List.{drop-drop, drop_more, get_or-drop, map-append, take-append-drop, take_all, take_more}
use Rattle.std.proofs.Math.Seq.{drop-append_seam}
use Rattle.state_columns.specs.Region.{range}
use Rattle.std.proofs.lemmas.List.Elements.{All-cons, All-head, All-nil, All-tail}
use Rattle.std.specs.FinMap as finite
use Rattle.std.specs.FinMap.Entries.{by_order}
use Rattle.std.specs.Ordering.{eq_by_cmp}
use Rattle.std.specs.declared.cmp.Ordering.{Ordering}
use Rattle.std.specs.declared.cmp.Ordering.TheVariants.{Less, Equal, Greater}
use Rattle.values.specs.declared.value.Value.{Value}
use Rattle.agg_laws.specs.declared.states.AggState.{AggState}
use Rattle.agg_laws.specs.declared.states.AggState.TheVariants.{Count, Sum, Least, Greatest, Average}
use Rattle.agg_laws.specs.Numbers.{most_stored, most_values}
use Rattle.agg_laws.specs.Rows.{RowFits, RowStored, merged_rows, row_weight}
use Rattle.agg_laws.specs.States.{IsStored}
use Rattle.agg_laws.specs.laws.Rows as rows
use Rattle.agg_laws.specs.laws.States as states
use Rattle.state_columns.specs.Docs.{Doc, Docs, doc_at}
use Rattle.agg_laws.specs.Merged.{add, weights}
use Rattle.agg_laws.specs.Order.{HasValues}
use Rattle.agg_laws.specs.Tree.{dims_order, merged_docs}
use Rattle.state_columns.proofs.DocLemmas.{rows_join}
use Rattle.state_columns.proofs.ListLemmas.{same_dims}
use Rattle.std.proofs.lemmas.Cmp.{nat_list_cmp_total}
use Rattle.state_columns.proofs.MergedLemmas.{total-Merged, total-rekey}
use Rattle.state_columns.proofs.WeightLemmas.{weights-append, weights-Merged}
use Rattle.group_table.specs.Groups.{Group, Groups, key_order, with_entries}
use Rattle.group_table.specs.Kept.{HaveValues, IsNewKey, KeptGroups, Merges, groups_in}
use Rattle.scan_engine.specs.Scanned.{HaveAtMost}
use Rattle.scan_engine.proofs.AddLemmas.{at_most_more}
use Rattle.star_reader.specs.declared.asked.GroupColumn.{GroupColumn}
use Rattle.star_reader.specs.Entries.{MergesEntries}
use Rattle.star_reader.specs.Selected.{AreKeyIds, key_values, keyed}
use Rattle.group_table.proofs.EntryLemmas.{states_at}
use Rattle.star_answer.proofs.EntryLemmas.{merges_next, merges_none, merges_so, no_room, same_entries}

-- ---- a document

value_stored : (v : AggState) → IsStored v → HasValues v
value_stored (Count c) h = h.0
value_stored (Sum s) h = tt
value_stored (Least None) h = absurd h
value_stored (Least (Some m)) h = tt
value_stored (Greatest None) h = absurd h
value_stored (Greatest (Some m)) h = tt
value_stored (Average a) h = h.0.0

-- states that can be stored stand for one value at least
pub values_stored : (vs : List AggState) → RowStored vs → HaveValues vs
values_stored [] h = tt
values_stored (v ∷ vs) h = (value_stored v h.0, values_stored vs h.1)

pub length_key : (columns : List GroupColumn) (ids : List ℕ) → AreKeyIds columns ids
    → length (key_values columns ids) ≡ length columns
length_key [] ids h = refl
length_key (c ∷ cs) [] h = absurd h
length_key (c ∷ cs) (id ∷ ids) h =
    let more = length_key cs ids h.1 in omega (arith, more)

stored_row : (vs : List AggState) → RowStored vs → RowFits vs most_stored
stored_row [] h = tt
stored_row (v ∷ vs) h = (states.stored_fits v h.0, stored_row vs h.1)

-- and come from as many values as they weigh
pub fits_stored : (vs : List AggState) → RowStored vs → RowFits vs (row_weight vs)
fits_stored vs h = rows.row_fits_weight vs most_stored (stored_row vs h)

-- ---- the documents of a table from one on

-- those up to another
abbrev pub upto : List Doc → ℕ → ℕ → List Doc
upto docs from at = take (at - from) (drop from docs)

module _ (docs : List Doc) (from at : ℕ) (le : from ≤ at) (lt : at < length docs) where
  there : at - from < length (drop from docs)
  there = let lengths = length-drop from docs in omega (arith, lengths, le, lt)

  next_is : get_or (drop from docs) (at - from) ([], []) ≡ doc_at docs at
  next_is =
      let same : from + (at - from) ≡ at = omega (arith, le) in
      get_or-drop from docs (at - from) ([], []) ∙ ap (λ n. get_or docs n ([], [])) same

  upto_more : upto docs from (at + 1) ≡ upto docs from at ++ doc_at docs at ∷ []
  upto_more =
      let same : at + 1 - from ≡ at - from + 1 = omega (arith, le) in
      ap (λ n. take n (drop from docs)) same
      ∙ take_more (drop from docs) (at - from) ([], []) there
      ∙ ap (λ (e : Doc). upto docs from at ++ e ∷ []) next_is

  rest_is : drop from docs ≡ upto docs from at ++ doc_at docs at ∷ drop (at + 1) docs
  rest_is =
      let same : from + (at - from) ≡ at = omega (arith, le) in
      sym (take-append-drop (at - from) (drop from docs))
      ∙ ap (λ l. upto docs from at ++ l) (drop-drop (at - from) from docs
      ∙ ap (λ n. drop n docs) same ∙ drop_more docs at ([], []) lt)

  pub key_there : (columns : List GroupColumn) → All (λ e. AreKeyIds columns e.0) (drop from docs)
      → AreKeyIds columns (doc_at docs at).0
  key_there columns h = subst (λ (e : Doc). AreKeyIds columns e.0) next_is
      (h (at - from) ([], []) there)

  weighs : weights row_weight (upto docs from at) + row_weight (doc_at docs at).1
      ≤ weights row_weight (drop from docs)
  weighs =
      let all = ap (weights row_weight) rest_is in
      let sum = weights-append row_weight (upto docs from at) (doc_at docs at ∷ drop (at + 1) docs) in
      omega (arith, all, sum)

  weighs_more : weights row_weight (upto docs from at) + row_weight (doc_at docs at).1
      ≡ weights row_weight (upto docs from (at + 1))
  weighs_more =
      let all = ap (weights row_weight) upto_more in
      let sum = weights-append row_weight (upto docs from at) (doc_at docs at ∷ []) in
      omega (arith, all, sum)

  -- there is room for the values of the next one
  pub room_there : (es : List Group) (old mid : KeptGroups)
      → weights row_weight (drop from docs) ≤ most_stored
      → HaveAtMost (most_values - weights row_weight (drop from docs)) (groups_in old)
      → MergesEntries (weights row_weight (upto docs from at)) es old mid
      → HaveAtMost (most_values - row_weight (doc_at docs at).1) (groups_in mid)
  room_there es old mid at_most room a =
      at_most_more (groups_in mid) ((most_values - weights row_weight (drop from docs))
      + weights row_weight (upto docs from at)) (most_values - row_weight (doc_at docs at).1)
      (omega (arith, at_most, weighs))
      (a.fits (most_values - weights row_weight (drop from docs)) room)

  pub few_there : weights row_weight (drop from docs) ≤ most_stored
      → row_weight (doc_at docs at).1 ≤ most_values
  few_there at_most = omega (arith, at_most, weighs)

  -- it is merged
  pub merged_more : (columns : List GroupColumn) (key : List Value) (s : List AggState)
      (old mid new : KeptGroups) → key ≡ key_values columns (doc_at docs at).0
      → s ≡ (doc_at docs at).1 → RowStored (doc_at docs at).1
      → MergesEntries (weights row_weight (upto docs from at)) (keyed columns (upto docs from at)) old
      mid → Merges key s mid new
      → MergesEntries (weights row_weight (upto docs from (at + 1)))
      (keyed columns (upto docs from (at + 1))) old new
  merged_more columns key s old mid new key_is s_is stored a m =
      let e = doc_at docs at in
      let entries : keyed columns (upto docs from at) ++ (key, s) ∷ []
      ≡ keyed columns (upto docs from (at + 1)) =
      (λ j. keyed columns (upto docs from at) ++ (key_is j, s_is j) ∷ [])
      ∙ sym (map-append (λ (e : Doc). (key_values columns e.0, e.1)) (upto docs from at) (e ∷ []))
      ∙ ap (keyed columns) (sym upto_more) in
      subst (λ n. MergesEntries n (keyed columns (upto docs from (at + 1))) old new) weighs_more
      (subst (λ l. MergesEntries (weights row_weight (upto docs from at) + row_weight e.1) l old new)
      entries
      (merges_next (weights row_weight (upto docs from at)) (row_weight e.1)
      (keyed columns (upto docs from at)) key s old mid new a m
      (subst (λ (l : List AggState). RowFits l (row_weight e.1)) (sym s_is) (fits_stored e.1 stored))))

  -- there is no room for its key
  pub no_room_there : (columns : List GroupColumn) (key : List Value) (old mid : KeptGroups)
      → key ≡ key_values columns (doc_at docs at).0
      → MergesEntries (weights row_weight (upto docs from at)) (keyed columns (upto docs from at)) old
      mid → IsNewKey mid key → finite.len (groups_in mid) ≡ mid.most
      → old.most < finite.len (with_entries (groups_in old) (keyed columns (drop from docs)))
  no_room_there columns key old mid key_is a new full =
      let e = doc_at docs at in
      let entries : keyed columns (drop from docs) ≡ keyed columns (upto docs from at)
      ++ (key_values columns e.0, e.1) ∷ keyed columns (drop (at + 1) docs) =
      ap (keyed columns) rest_is
      ∙ map-append (λ (e : Doc). (key_values columns e.0, e.1)) (upto docs from at)
      (e ∷ drop (at + 1) docs) in
      subst (λ l. old.most < finite.len (with_entries (groups_in old) l)) (sym entries)
      (no_room old mid (keyed columns (upto docs from at)) (keyed columns (drop (at + 1) docs))
      (key_values columns e.0, e.1) a.groups a.most (subst (IsNewKey mid) key_is new) full)

-- all are merged
pub merged_all : (columns : List GroupColumn) (docs : List Doc) (from at : ℕ)
    (old new : KeptGroups) → length docs ≤ at
    → MergesEntries (weights row_weight (upto docs from at)) (keyed columns (upto docs from at)) old
    new → MergesEntries (weights row_weight (drop from docs)) (keyed columns (drop from docs)) old new
merged_all columns docs from at old new le a =
    let lengths = length-drop from docs in
    subst (λ l. MergesEntries (weights row_weight l) (keyed columns l) old new)
    (take_all (at - from) (drop from docs) (omega (arith, lengths, le))) a

pub merged_start : (columns : List GroupColumn) (docs : List Doc) (from : ℕ) (table : KeptGroups)
    → MergesEntries (weights row_weight (upto docs from from)) (keyed columns (upto docs from from))
    table table
merged_start columns docs from table =
    let none : from - from ≡ 0 = omega arith in
    subst (λ n. MergesEntries (weights row_weight (take n (drop from docs)))
    (keyed columns (take n (drop from docs))) table table) (sym none) (merges_none table)

-- ---- documents that were merged by their ids

module _ (columns : List GroupColumn) where
  abbrev HasIds : Doc → Type 0
  HasIds e = AreKeyIds columns e.0

  all_added : (ids : List ℕ) (s : List AggState) (docs : List Doc) → AreKeyIds columns ids
      → All (λ e. AreKeyIds columns e.0) docs
      → All (λ e. AreKeyIds columns e.0) (add dims_order merged_rows ids s docs)
  all_added ids s [] h all = All-cons HasIds (ids, s) [] h (All-nil HasIds)
  all_added ids s (e ∷ es) h all =
      by (dims_order ids e.0) (all_added ids s es h (All-tail HasIds e es all))
    where
      by : (o : Ordering) → All (λ e. AreKeyIds columns e.0) (add dims_order merged_rows ids s es)
          → All (λ e. AreKeyIds columns e.0) (by_order o ((ids, s) ∷ e ∷ es)
          ((e.0, merged_rows s e.1) ∷ es) (e ∷ add dims_order merged_rows ids s es))
      by Less more = All-cons HasIds (ids, s) (e ∷ es) h all
      by Equal more = All-cons HasIds (e.0, merged_rows s e.1) es (All-head HasIds e es all)
          (All-tail HasIds e es all)
      by Greater more = All-cons HasIds e (add dims_order merged_rows ids s es)
          (All-head HasIds e es all) more

  -- they have ids of the group columns still
  pub all_merged : (docs : List Doc) → All (λ e. AreKeyIds columns e.0) docs
      → All (λ e. AreKeyIds columns e.0) (merged_docs merged_rows docs)
  all_merged [] all = All-nil HasIds
  all_merged (e ∷ es) all = all_added e.0 e.1 (merged_docs merged_rows es)
      (All-head HasIds e es all) (all_merged es (All-tail HasIds e es all))

  -- and give the same states to each key
  pub same_states : (docs : List Doc) (q : List Value)
      → states_at q (keyed columns (merged_docs merged_rows docs)) ≡ states_at q (keyed columns docs)
  same_states docs q =
      total-rekey merged_rows rows_join (key_values columns) (eq_by_cmp key_order q)
      (merged_docs merged_rows docs)
      ∙ total-Merged dims_order nat_list_cmp_total same_dims merged_rows rows_join
      (λ ids. eq_by_cmp key_order q (key_values columns ids)) docs
      ∙ sym (total-rekey merged_rows rows_join (key_values columns) (eq_by_cmp key_order q) docs)

-- the documents after those that were there are these, merged
merged_rest : (docs before all : List Doc) (n : ℕ) → n ≡ length docs → before ≡ docs
    → all ≡ before ++ merged_docs merged_rows (range 0 n before)
    → drop n all ≡ merged_docs merged_rows docs
merged_rest docs before all n count same is =
    let whole : range 0 n before ≡ docs = ap (range 0 n) same
    ∙ take_all (n - 0) (drop 0 docs) (omega (arith, count)) in
    let lengths : n ≡ length before = count ∙ ap length (sym same) in
    ap (drop n) is ∙ ap (λ k. drop k (before ++ merged_docs merged_rows (range 0 n before))) lengths
    ∙ drop-append_seam before (merged_docs merged_rows (range 0 n before))
    ∙ ap (merged_docs merged_rows) whole

merged_light : (docs : List Doc)
    → weights row_weight (merged_docs merged_rows docs) ≤ weights row_weight docs
merged_light docs = weights-Merged row_weight dims_order merged_rows rows.row_weight_both docs

ones : (docs : List Doc) → weights (λ (s : List AggState). 1) docs ≡ length docs
ones [] = refl
ones (e ∷ es) = let more = ones es in omega (arith, more)

merged_few : (docs : List Doc) → length (merged_docs merged_rows docs) ≤ length docs
merged_few docs =
    let less = weights-Merged (λ (s : List AggState). 1) dims_order merged_rows (λ a b. omega arith)
    docs in
    let own = ones docs in
    let other = ones (merged_docs merged_rows docs) in
    omega (arith, less, own, other)

merged_long : (docs before all : List Doc) (n : ℕ) → n ≡ length docs → before ≡ docs
    → all ≡ before ++ merged_docs merged_rows (range 0 n before) → length all ≤ 2 * length docs
merged_long docs before all n count same is =
    let whole : range 0 n before ≡ docs = ap (range 0 n) same
    ∙ take_all (n - 0) (drop 0 docs) (omega (arith, count)) in
    let all_is : all ≡ docs ++ merged_docs merged_rows docs =
    is ∙ (λ j. same j ++ merged_docs merged_rows (whole j)) in
    let lengths = ap length all_is in
    let sum = length-append docs (merged_docs merged_rows docs) in
    let at_most = merged_few docs in
    omega (arith, lengths, sum, at_most)

-- the documents of a table were merged at its end
pub record IsMerged (docs all : List Doc) (n : ℕ) : Type 0 where
  pub rest : drop n all ≡ merged_docs merged_rows docs
  pub lengths : length all ≤ 2 * length docs

pub merged_table : (old mid new : Docs) (n spare less : ℕ) → n ≡ length old.docs
    → mid ≡ record old { spare = spare }
    → new ≡ record mid {
      docs = mid.docs ++ merged_docs merged_rows (range 0 n mid.docs);
      spare = less;
    } → IsMerged old.docs new.docs n
merged_table old mid new n spare less count reserved appended =
    let before = ap (λ (t : Docs). t.docs) reserved in
    let all = ap (λ (t : Docs). t.docs) appended in
    record {
      rest = merged_rest old.docs mid.docs new.docs n count before all;
      lengths = merged_long old.docs mid.docs new.docs n count before all;
    }

-- the groups of all documents are those of the merged ones
module _ (columns : List GroupColumn) (docs rest : List Doc)
    (is : rest ≡ merged_docs merged_rows docs) where
  pub rest_keyed : All (λ e. AreKeyIds columns e.0) docs → All (λ e. AreKeyIds columns e.0) rest
  rest_keyed all = subst (λ l. All (λ e. AreKeyIds columns e.0) l) (sym is)
      (all_merged columns docs all)

  pub rest_light : weights row_weight rest ≤ weights row_weight docs
  rest_light = subst (λ l. weights row_weight l ≤ weights row_weight docs) (sym is)
      (merged_light docs)

  pub rest_states : (q : List Value)
      → states_at q (keyed columns rest) ≡ states_at q (keyed columns docs)
  rest_states q = ap (λ l. states_at q (keyed columns l)) is ∙ same_states columns docs q

  pub rest_merges : (old new : KeptGroups)
      → MergesEntries (weights row_weight rest) (keyed columns rest) old new
      → MergesEntries (weights row_weight docs) (keyed columns docs) old new
  rest_merges old new a =
      merges_so (weights row_weight rest) (weights row_weight docs) (keyed columns rest)
      (keyed columns docs) old new rest_light rest_states a

  pub rest_over : (old : KeptGroups) → old.most < finite.len
      (with_entries (groups_in old) (keyed columns rest)) → old.most < finite.len
      (with_entries (groups_in old) (keyed columns docs))
  rest_over old over = subst (λ (g : Groups). old.most < finite.len g)
      (same_entries (groups_in old) (keyed columns rest) (keyed columns docs) rest_states) over

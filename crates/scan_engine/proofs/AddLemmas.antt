-- The groups of rows, one more row at a time.
use Rattle.std.proofs.Common.{◌≡◌, ◌∙◌, ℕ, zero, suc, ◌+◌, ◌-◌, ◌<◌, ◌≤◌, Bool, true, false, cond, List, [], ◌∷◌, ◌++◌, map, length, take, drop, get_or, slice_get, Option, Some, None, IfSome, refl, sym, ap, subst, arith, is_some}
use Rattle.std.proofs.lemmas.Int.{ints}
use Rattle.std.specs.Prelude.{ℤ}
use Rattle.std.specs.Option.{option_map_or}
use Rattle.std.specs.Ordering.{eq_by_cmp}
use Rattle.std.specs.FinMap as finite
use Rattle.std.proofs.lemmas.List.Elements.{filter-append}
use Rattle.std.proofs.lemmas.List.{take-append-drop}
use Rattle.values.specs.declared.value.Value.{Value}
use Rattle.values.specs.Columns.{ListedColumns, row_of as row_at}
use Rattle.values.proofs.RowLemmas.{rows-more}
use Rattle.scan_engine.specs.Selection.{Marks}
use Rattle.agg_laws.specs.declared.aggregate_kind.AggKind.{AggKind}
use Rattle.agg_laws.specs.declared.states.AggState.{AggState}
use Rattle.agg_laws.specs.Numbers.{IsWhole, AreWhole, most_values}
use Rattle.agg_laws.specs.Rows.{row_of, merged_rows, RowFits, head_of, tail_of}
use Rattle.agg_laws.specs.laws.Rows as rows
use Rattle.agg_laws.specs.laws.States as states
use Rattle.table_schema.specs.Conditions.{all_hold}
use Rattle.table_schema.specs.declared.query.Agg.{Agg}
use Rattle.table_schema.specs.declared.query.Conjunct.{Conjunct}
use Rattle.table_schema.specs.declared.query.BoundQuery.{BoundQuery}
use Rattle.group_table.specs.Groups.{Groups, groups_of, key_of, key_order, number_for, states_of, with_states, merged_in, Adds}
use Rattle.group_table.specs.Kept.{KeptGroups, IsTableOf, IsNewKey, Merges, groups_in}
use Rattle.group_table.specs.Shape.{Shape, shape_of}
use Rattle.group_table.proofs.KeptLemmas.{key_total}
use Rattle.group_table.proofs.GroupsLemmas.{joined, no_fewer, none, of_both, of_row, one, rest, some}
use Rattle.scan_engine.specs.Scanned.{selected, marked, HaveAtMost, AddsRows, IsOverfull}

-- ---- how many values the aggregates are of

pub with_fits : (groups : Groups) (key : List Value) (s : List AggState) (n m : ℕ) → HaveAtMost n groups → RowFits s m → RowFits (with_states groups key s) (n + m)
with_fits groups key s n m h f = by (finite.get groups key) (h key)
  where
    by : (o : Option (List AggState)) → IfSome o (λ states. RowFits states n) → RowFits (option_map_or (λ own. merged_rows own s) o s) (n + m)
    by None k = rows.fits_more s m (n + m) f (omega arith)
    by (Some own) k = rows.fits_both own s n m k f

pub merged_fits : (groups : Groups) (key : List Value) (s : List AggState) (n m : ℕ) → HaveAtMost n groups → RowFits s m → HaveAtMost (n + m) (merged_in groups key s)
merged_fits groups key s n m h f q = subst (λ (o : Option (List AggState)). IfSome o (λ states. RowFits states (n + m)))
    (sym (finite.get-insert key_total groups key (with_states groups key s) q)) (by (eq_by_cmp key_order q key) (finite.get groups q) (h q))
  where
    by : (b : Bool) (o : Option (List AggState)) → IfSome o (λ states. RowFits states n)
        → IfSome (cond b (Some (with_states groups key s)) o) (λ states. RowFits states (n + m))
    by true o k = with_fits groups key s n m h f
    by false None k = tt
    by false (Some own) k = rows.fits_more own n (n + m) k (omega arith)

-- states of so many values may be merged where there is room for them
pub merged_within : (groups : Groups) (key : List Value) (s : List AggState) (n : ℕ) → n ≤ most_values → HaveAtMost (most_values - n) groups → RowFits s n → RowFits (with_states groups key s) most_values
merged_within groups key s n le h f = let all : (most_values - n) + n ≡ most_values = omega (arith, le) in
    subst (RowFits (with_states groups key s)) all (with_fits groups key s (most_values - n) n h f)

pub at_most_more : (groups : Groups) (n m : ℕ) → n ≤ m → HaveAtMost n groups → HaveAtMost m groups
at_most_more groups n m le h q = by (finite.get groups q) (h q)
  where
    by : (o : Option (List AggState)) → IfSome o (λ states. RowFits states n) → IfSome o (λ states. RowFits states m)
    by None k = tt
    by (Some own) k = rows.fits_more own n m k le

head_whole : (values : List ℤ) → AreWhole values → IsWhole (head_of values)
head_whole [] h = (omega (arith, ints), omega (arith, ints))
head_whole (v ∷ vs) h = h.0

tail_whole : (values : List ℤ) → AreWhole values → AreWhole (tail_of values)
tail_whole [] h = tt
tail_whole (v ∷ vs) h = h.1

pub whole_more : (xs : List ℤ) (x : ℤ) → AreWhole xs → IsWhole x → AreWhole (xs ++ x ∷ [])
whole_more [] x h k = (k, tt)
whole_more (y ∷ ys) x h k = (h.0, whole_more ys x h.1 k)

-- one row of numbers is of one value
pub row_fits : (ks : List AggKind) (values : List ℤ) → AreWhole values → RowFits (row_of ks (values ∷ [])) 1
row_fits [] values h = tt
row_fits (k ∷ ks) values h = (states.fits_of k (head_of values ∷ []) (head_whole values h, tt), row_fits ks (tail_of values) (tail_whole values h))

-- ---- one row

pub row_states : (aggs : List Agg) (row : List Value) → row_of (map (λ agg. agg.kind) aggs) (map (λ agg. number_for agg row) aggs ∷ []) ≡ states_of aggs (row ∷ [])
row_states [] row = refl
row_states (agg ∷ aggs) row = ap (λ l. states_of (agg ∷ []) (row ∷ []) ++ l) (row_states aggs row)

-- ---- more rows, more groups

pub len_more : (shape : Shape) (xs ys : List (List Value)) → finite.len (groups_of shape xs) ≤ finite.len (groups_of shape (xs ++ ys))
len_more shape xs ys = no_fewer shape ys (groups_of shape xs) (groups_of shape (xs ++ ys)) (of_both shape xs ys)

-- ---- where the groups of before are those of some rows

-- those of these too are then those of both
pub groups_after : (query : BoundQuery) (count : ℕ) (done rows : List (List Value)) (old new : KeptGroups) → AddsRows query count rows old new
    → groups_in old ≡ groups_of (shape_of query) done → groups_in new ≡ groups_of (shape_of query) (done ++ rows)
groups_after query count done rows old new a so =
    one (shape_of query) rows (groups_in old) (groups_in new) (groups_of (shape_of query) (done ++ rows)) a.groups
    (subst (λ (g : Groups). Adds (shape_of query) rows g (groups_of (shape_of query) (done ++ rows))) (sym so) (of_both (shape_of query) done rows))

pub overfull_after : (query : BoundQuery) (done rows : List (List Value)) (t : KeptGroups) → IsOverfull query rows t
    → groups_in t ≡ groups_of (shape_of query) done → t.most < finite.len (groups_of (shape_of query) (done ++ rows))
overfull_after query done rows t over so =
    over (groups_of (shape_of query) (done ++ rows))
    (subst (λ (g : Groups). Adds (shape_of query) rows g (groups_of (shape_of query) (done ++ rows))) (sym so) (of_both (shape_of query) done rows))

-- ---- a row that is added, one that is left out, and one that there is no room for

pub adds_one : (query : BoundQuery) (row key : List Value) (values : List ℤ) (old new : KeptGroups) → IsTableOf query old
    → key ≡ key_of query.groups row → values ≡ map (λ agg. number_for agg row) query.aggs → AreWhole values
    → Merges key (row_of old.kinds (values ∷ [])) old new → AddsRows query 1 (row ∷ []) old new
adds_one query row key values old new table is_key are whole m = record {
  of_query = record { columns = m.columns ∙ table.columns; kinds = m.kinds ∙ table.kinds };
  most = m.most;
  groups = subst (λ (g : Groups). Adds (shape_of query) (row ∷ []) (groups_in old) g) (sym (m.groups ∙ (λ i. merged_in (groups_in old) (is_key i) (same i))))
      (of_row (shape_of query) row (groups_in old));
  fits = λ n h. subst (HaveAtMost (n + 1)) (sym m.groups) (merged_fits (groups_in old) key (row_of old.kinds (values ∷ [])) n 1 h (row_fits old.kinds values whole));
}
  where
    same : row_of old.kinds (values ∷ []) ≡ states_of query.aggs (row ∷ [])
    same = (λ i. row_of (table.kinds i) (are i ∷ [])) ∙ row_states query.aggs row

pub adds_nothing : (query : BoundQuery) (count : ℕ) (t : KeptGroups) → IsTableOf query t → AddsRows query count [] t t
adds_nothing query count t table = record {
  of_query = table;
  most = refl;
  groups = none (shape_of query) (groups_in t);
  fits = λ n h. at_most_more (groups_in t) n (n + count) (omega arith) h;
}

pub new_one : (b : Bool) (n most : ℕ) → b ≡ false → n ≡ most → most < cond b n (n + 1)
new_one true n most e h = cc
new_one false n most e h = omega arith

pub no_room : (query : BoundQuery) (row key : List Value) (t : KeptGroups) → key ≡ key_of query.groups row
    → IsNewKey t key → finite.len (groups_in t) ≡ t.most → IsOverfull query (row ∷ []) t
no_room query row key t is_key new full g a =
    let k = key_of query.groups row in
    let old = groups_in t in
    let absent : finite.get old k ≡ None = ap (finite.get old) (sym is_key) ∙ new in
    let same : merged_in old k (states_of query.aggs (row ∷ [])) ≡ g = one (shape_of query) (row ∷ []) old _ g (of_row (shape_of query) row old) a in
    subst (λ (g : Groups). t.most < finite.len g) same
    (subst (λ n. t.most < n) (sym (finite.len-insert key_total old k (with_states old k (states_of query.aggs (row ∷ [])))))
    (new_one (finite.contains_key old k) (finite.len old) t.most (ap is_some absent) full))

-- ---- one after the other

pub adds_both : (query : BoundQuery) (n m : ℕ) (xs ys : List (List Value)) (old mid new : KeptGroups)
    → AddsRows query n xs old mid → AddsRows query m ys mid new → AddsRows query (n + m) (xs ++ ys) old new
adds_both query n m xs ys old mid new a b = record {
  of_query = b.of_query;
  most = b.most ∙ a.most;
  groups = joined (shape_of query) xs ys (groups_in old) (groups_in mid) (groups_in new) a.groups b.groups;
  fits = λ k h. subst (λ j. HaveAtMost j (groups_in new)) (regroup k n m) (b.fits (k + n) (a.fits k h));
}
  where
    regroup : (k n m : ℕ) → (k + n) + m ≡ k + (n + m)
    regroup k n m = omega arith

-- too many groups already are too many with more rows
pub overfull_more : (query : BoundQuery) (xs ys : List (List Value)) (t : KeptGroups) → IsOverfull query xs t → IsOverfull query (xs ++ ys) t
overfull_more query xs ys t over g all =
    let shape = shape_of query in
    let with_xs = some shape xs (groups_in t) in
    let here : t.most < finite.len with_xs.0 = over with_xs.0 with_xs.1 in
    let more : finite.len with_xs.0 ≤ finite.len g = no_fewer shape ys with_xs.0 g (rest shape xs ys (groups_in t) with_xs.0 g with_xs.1 all) in
    omega (arith, here, more)

-- too many after some rows are too many with these
pub overfull_past : (query : BoundQuery) (xs ys : List (List Value)) (old mid : KeptGroups) → Adds (shape_of query) xs (groups_in old) (groups_in mid)
    → mid.most ≡ old.most → IsOverfull query ys mid → IsOverfull query (xs ++ ys) old
overfull_past query xs ys old mid adds most over g all =
    subst (λ m. m < finite.len g) most (over g (rest (shape_of query) xs ys (groups_in old) (groups_in mid) g adds all))

pub overfull_later : (query : BoundQuery) (n : ℕ) (xs ys zs : List (List Value)) (old mid : KeptGroups) → AddsRows query n xs old mid
    → IsOverfull query ys mid → IsOverfull query (xs ++ (ys ++ zs)) old
overfull_later query n xs ys zs old mid a over =
    overfull_past query xs (ys ++ zs) old mid a.groups a.most (overfull_more query ys zs mid over)

-- ---- the rows of a list, one after the other

-- one row more of a list is selected
pub selected_more : (query : BoundQuery) (all : List (List Value)) (at : ℕ) (row : List Value) (mark : Bool) → slice_get all at ≡ Some row
    → mark ≡ all_hold row query.conjuncts → selected query (take at all) ++ marked mark row ≡ selected query (take (at + 1) all)
selected_more query all at row mark got is =
    ap (λ b. selected query (take at all) ++ cond b (row ∷ []) []) is
    ∙ sym (filter-append (λ row. all_hold row query.conjuncts) (take at all) (row ∷ []))
    ∙ ap (selected query) (rows-more all (take at all) at row refl got)

pub selected_rest : (query : BoundQuery) (all : List (List Value)) (n : ℕ) → selected query (take n all) ++ selected query (drop n all) ≡ selected query all
selected_rest query all n = sym (filter-append (λ row. all_hold row query.conjuncts) (take n all) (drop n all)) ∙ ap (selected query) (take-append-drop n all)

any_default : (marks : List Bool) (i : ℕ) (d e : Bool) → i < length marks → get_or marks i d ≡ get_or marks i e
any_default [] i d e lt = absurd (omega arith)
any_default (m ∷ ms) zero d e lt = refl
any_default (m ∷ ms) (suc i) d e lt = any_default ms i d e (omega arith)

-- a mark that was read says whether the row at its place holds
pub mark_is : (query : BoundQuery) (conjuncts : List Conjunct) (block : ListedColumns) (marks : List Bool) (at : ℕ) (mark : Bool)
    → conjuncts ≡ query.conjuncts → Marks (λ row. all_hold row conjuncts) block marks → at < block.count → mark ≡ get_or marks at mark
    → mark ≡ all_hold (row_at block.columns at) query.conjuncts
mark_is query conjuncts block marks at mark same m lt is =
    let within : at < length marks = subst (λ n. at < n) (sym m.count) lt in
    is ∙ any_default marks at mark false within ∙ m.each at lt ∙ ap (all_hold (row_at block.columns at)) same

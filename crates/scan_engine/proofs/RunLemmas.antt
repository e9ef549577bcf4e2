-- Rows of one key, which are added to the group of that key at once.
use Rattle.std.proofs.Common.{◌≡◌, ◌∙◌, ℕ, ◌+◌, ◌<◌, ◌≤◌, Bool, true, false, cond, List, [], ◌∷◌, ◌++◌, map, length, Option, Some, None, Result, Ok, Err, append_assoc, get_or, take, drop, refl, sym, ap, subst, arith, is_some}
use Rattle.std.specs.Prelude.{ℤ}
use Rattle.std.proofs.lemmas.List.Elements.{All-cons, All-head, All-nil, All-tail}
use Rattle.std.proofs.lemmas.Map.Views.{tells_apart}
use Rattle.std.specs.List.{All, filter}
use Rattle.std.specs.Option.{option_map_or}
use Rattle.std.specs.Ordering.{eq_by_cmp}
use Rattle.std.specs.FinMap as finite
use Rattle.values.specs.declared.value.Value.{Value}
use Rattle.values.specs.Columns.{Listed, row_of}
use Rattle.std.proofs.lemmas.List.{map-append, take-append-drop, take_more}
use Rattle.group_table.specs.declared.fault.TableFault.{TableFault}
use Rattle.group_table.specs.declared.fault.TableFault.TheVariants.{NoMemory}
use Rattle.agg_laws.specs.declared.aggregate_kind.AggKind.{AggKind}
use Rattle.agg_laws.specs.declared.aggregate_kind.AggKind.TheVariants as kinds
use Rattle.agg_laws.specs.declared.states.AggState.{AggState}
use Rattle.agg_laws.specs.Merged.{IsJoin, join_some}
use Rattle.agg_laws.specs.Numbers.{greater, greatest_of, least_of, lesser}
use Rattle.agg_laws.specs.Order.{HasValues}
use Rattle.agg_laws.specs.Rows.{kinds_of, merged_rows, RowFits}
use Rattle.agg_laws.specs.States.{kind_of, state_of}
use Rattle.agg_laws.specs.declared.states.AggState.TheVariants.{Least, Greatest}
use Rattle.agg_laws.specs.laws.Rows as rows
use Rattle.state_columns.proofs.MergedLemmas.{join_none}
use Rattle.table_schema.specs.declared.query.Agg.{Agg}
use Rattle.table_schema.specs.declared.query.BoundQuery.{BoundQuery}
use Rattle.group_table.specs.Groups.{Adds, Groups, has_key, key_of, key_order, merged_in, number_for, some_states, states_for, states_of, with_states}
use Rattle.group_table.specs.Kept.{HaveValues, IsNewKey, IsTableOf, KeptGroups, Merges, groups_in}
use Rattle.group_table.specs.Shape.{Shape, shape_of}
use Rattle.group_table.proofs.KeptLemmas.{key_same, key_total}
use Rattle.group_table.proofs.GroupsLemmas.{one}
use Rattle.scan_engine.specs.Places.{IsRun, rows_at}
use Rattle.scan_engine.specs.Scanned.{AddsRows, HaveAtMost, IsOverfull}
use Rattle.scan_engine.proofs.AddLemmas.{at_most_more, merged_fits, new_one, overfull_later}

-- ---- what the states of rows are

kind_state : (k : AggKind) (xs : List ℤ) → kind_of (state_of k xs) ≡ k
kind_state kinds.Count xs = refl
kind_state kinds.Sum xs = refl
kind_state kinds.Least xs = refl
kind_state kinds.Greatest xs = refl
kind_state kinds.Average xs = refl

pub kinds_states : (aggs : List Agg) (rows : List (List Value)) → kinds_of (states_of aggs rows) ≡ map (λ agg. agg.kind) aggs
kinds_states [] rows = refl
kinds_states (agg ∷ aggs) rows = λ i. kind_state agg.kind (map (number_for agg) rows) i ∷ kinds_states aggs rows i

least_has : (x : ℤ) (o : Option ℤ) → HasValues (Least (lesser (Some x) o))
least_has x None = tt
least_has x (Some y) = tt

greatest_has : (x : ℤ) (o : Option ℤ) → HasValues (Greatest (greater (Some x) o))
greatest_has x None = tt
greatest_has x (Some y) = tt

state_has : (k : AggKind) (x : ℤ) (xs : List ℤ) → HasValues (state_of k (x ∷ xs))
state_has kinds.Count x xs = omega arith
state_has kinds.Sum x xs = tt
state_has kinds.Least x xs = least_has x (least_of xs)
state_has kinds.Greatest x xs = greatest_has x (greatest_of xs)
state_has kinds.Average x xs = omega arith

some_have : (aggs : List Agg) (row : List Value) (rest : List (List Value)) → HaveValues (states_of aggs (row ∷ rest))
some_have [] row rest = tt
some_have (agg ∷ aggs) row rest = (state_has agg.kind (number_for agg row) (map (number_for agg) rest), some_have aggs row rest)

pub states_have : (aggs : List Agg) (rows : List (List Value)) → 0 < length rows → HaveValues (states_of aggs rows)
states_have aggs [] lt = absurd (omega (arith, lt))
states_have aggs (row ∷ rest) lt = some_have aggs row rest

-- ---- the group of a run

either_same : {X : Type 0} (b : Bool) (x : X) → x ≡ cond b x x
either_same true x = refl
either_same false x = refl

more_or_none : {X : Type 0} (b : Bool) (x : X) (xs : List X) → cond b (x ∷ cond b xs []) (cond b xs []) ≡ cond b (x ∷ xs) []
more_or_none true x xs = refl
more_or_none false x xs = refl

-- the row has this key
abbrev OfKey : List ℕ → List Value → List Value → Type 0
OfKey groups key row = key_of groups row ≡ key

-- all rows of the run have a key, or none has
run_filter : (groups : List ℕ) (key q : List Value) (run : List (List Value)) → All (OfKey groups key) run
    → filter (has_key groups q) run ≡ cond (eq_by_cmp key_order q key) run []
run_filter groups key q [] all = either_same (eq_by_cmp key_order q key) []
run_filter groups key q (row ∷ rest) all =
    let here : key_of groups row ≡ key = All-head (OfKey groups key) row rest all in
    let more = run_filter groups key q rest (All-tail (OfKey groups key) row rest all) in
    (λ i. cond (eq_by_cmp key_order q (here i)) (row ∷ more i) (more i))
    ∙ more_or_none (eq_by_cmp key_order q key) row rest

run_states : (shape : Shape) (key q : List Value) (run : List (List Value)) → IsRun shape.groups key run
    → states_for shape run q ≡ cond (eq_by_cmp key_order q key) (Some (states_of shape.aggs run)) None
run_states shape key q [] r = absurd (omega (arith, r.some))
run_states shape key q (row ∷ more) r = ap (some_states shape.aggs) (run_filter shape.groups key q (row ∷ more) r.each) ∙ by (eq_by_cmp key_order q key)
  where
    by : (b : Bool) → some_states shape.aggs (cond b (row ∷ more) []) ≡ cond b (Some (states_of shape.aggs (row ∷ more))) None
    by true = refl
    by false = refl

run_each : (shape : Shape) (key : List Value) (run : List (List Value)) (old : Groups) (q : List Value) → IsRun shape.groups key run
    → finite.get (merged_in old key (states_of shape.aggs run)) q ≡ join_some merged_rows (finite.get old q) (states_for shape run q)
run_each shape key run old q r =
    finite.get-insert key_total old key (with_states old key (states_of shape.aggs run)) q
    ∙ by (eq_by_cmp key_order q key) refl
    ∙ ap (join_some merged_rows (finite.get old q)) (sym (run_states shape key q run r))
  where
    is_join : IsJoin merged_rows
    is_join = record { assoc = rows.any_grouping; comm = rows.any_order }

    with_own : (o : Option (List AggState)) (s : List AggState) → Some (option_map_or (λ own. merged_rows own s) o s) ≡ join_some merged_rows o (Some s)
    with_own None s = refl
    with_own (Some own) s = refl

    by : (b : Bool) → eq_by_cmp key_order q key ≡ b
        → cond b (Some (with_states old key (states_of shape.aggs run))) (finite.get old q)
        ≡ join_some merged_rows (finite.get old q) (cond b (Some (states_of shape.aggs run)) None)
    by true t = with_own (finite.get old key) (states_of shape.aggs run)
        ∙ ap (λ k. join_some merged_rows (finite.get old k) (Some (states_of shape.aggs run))) (sym (tells_apart key_same q key t))
    by false t = sym (join_none merged_rows is_join (finite.get old q))

pub run_added : (shape : Shape) (key : List Value) (run : List (List Value)) (old : Groups) → IsRun shape.groups key run
    → Adds shape run old (merged_in old key (states_of shape.aggs run))
run_added shape key run old r = record { each = λ q. run_each shape key run old q r }

-- ---- a run that is added, and one that there is no room for

pub adds_run : (query : BoundQuery) (count : ℕ) (run : List (List Value)) (key : List Value) (states : List AggState) (old new : KeptGroups) → IsTableOf query old
    → IsRun query.groups key run → states ≡ states_of query.aggs run → RowFits states count
    → Merges key states old new → AddsRows query count run old new
adds_run query count run key states old new table r are fits m = record {
  of_query = record { columns = m.columns ∙ table.columns; kinds = m.kinds ∙ table.kinds };
  most = m.most;
  groups = subst (λ (g : Groups). Adds (shape_of query) run (groups_in old) g) (sym (m.groups ∙ ap (merged_in (groups_in old) key) are))
      (run_added (shape_of query) key run (groups_in old) r);
  fits = λ n h. subst (HaveAtMost (n + count)) (sym m.groups) (merged_fits (groups_in old) key states n count h fits);
}

pub no_room_for_run : (query : BoundQuery) (run : List (List Value)) (key : List Value) (t : KeptGroups) → IsRun query.groups key run
    → IsNewKey t key → finite.len (groups_in t) ≡ t.most → IsOverfull query run t
no_room_for_run query run key t r new full g a =
    let old = groups_in t in
    let states = states_of query.aggs run in
    let same : merged_in old key states ≡ g = one (shape_of query) run old _ g (run_added (shape_of query) key run old r) a in
    subst (λ (g : Groups). t.most < finite.len g) same
    (subst (λ n. t.most < n) (sym (finite.len-insert key_total old key (with_states old key states)))
    (new_one (finite.contains_key old key) (finite.len old) t.most (ap is_some new) full))

-- ---- the run of all rows where there are no group columns

all_whole : (rows : List (List Value)) → All (OfKey [] []) rows
all_whole [] = All-nil (OfKey [] [])
all_whole (row ∷ rows) = All-cons (OfKey [] []) row rows refl (all_whole rows)

pub whole_run : (groups : List ℕ) (key : List Value) (rows : List (List Value)) → groups ≡ [] → key ≡ [] → 0 < length rows → IsRun groups key rows
whole_run groups key rows none empty some = subst (λ (groups : List ℕ). IsRun groups key rows) (sym none) (subst (λ (key : List Value). IsRun [] key rows) (sym empty)
    (record { width = refl; each = all_whole rows; some = some }))

-- the rows may be counted as more
pub adds_as_more : (query : BoundQuery) (n m : ℕ) (rows : List (List Value)) (old new : KeptGroups) → n ≤ m → AddsRows query n rows old new → AddsRows query m rows old new
adds_as_more query n m rows old new le a = record {
  of_query = a.of_query;
  most = a.most;
  groups = a.groups;
  fits = λ k h. at_most_more (groups_in new) (k + n) (k + m) (omega (arith, le)) (a.fits k h);
}

-- ---- row by row

pub rows_apart : (columns : List Listed) (n : ℕ) (places : List ℕ) → rows_at columns (take n places) ++ rows_at columns (drop n places) ≡ rows_at columns places
rows_apart columns n places = sym (map-append (row_of columns) (take n places) (drop n places)) ∙ ap (rows_at columns) (take-append-drop n places)

fault_of : {X : Type 0} → Result X TableFault → TableFault
fault_of (Ok x) = NoMemory
fault_of (Err fault) = fault

-- the fault of a refusal goes by itself, whatever was asked for
pub same_fault : {X Y : Type 0} (fault other : TableFault) → ◌≡◌ {A = Result X TableFault} (Err fault) (Err other) → ◌≡◌ {A = Result Y TableFault} (Err fault) (Err other)
unfolding fault_of
same_fault fault other is = ap Err (ap fault_of is)

pub rows_next : (columns : List Listed) (n : ℕ) (places : List ℕ) → n < length places
    → rows_at columns (take n places) ++ row_of columns (get_or places n 0) ∷ [] ≡ rows_at columns (take (n + 1) places)
rows_next columns n places lt = sym (map-append (row_of columns) (take n places) (get_or places n 0 ∷ [])) ∙ ap (rows_at columns) (sym (take_more places n 0 lt))

-- too many groups with the next row
pub overfull_next : (query : BoundQuery) (columns : List Listed) (n : ℕ) (places : List ℕ) (old mid : KeptGroups) → n < length places
    → AddsRows query n (rows_at columns (take n places)) old mid → IsOverfull query (row_of columns (get_or places n 0) ∷ []) mid → IsOverfull query (rows_at columns places) old
overfull_next query columns n places old mid lt a over =
    let front = rows_at columns (take n places) in
    let row : List (List Value) = row_of columns (get_or places n 0) ∷ [] in
    let rest = rows_at columns (drop (n + 1) places) in
    let same : front ++ (row ++ rest) ≡ rows_at columns places = sym (append_assoc front row rest)
    ∙ ap (λ (l : List (List Value)). l ++ rest) (rows_next columns n places lt) ∙ rows_apart columns (n + 1) places in
    subst (λ (l : List (List Value)). IsOverfull query l old) same (overfull_later query n front row rest old mid a over)

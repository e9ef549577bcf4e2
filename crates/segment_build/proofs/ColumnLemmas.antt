-- The columns of rows, and the sections that come of them.
use Rattle.std.proofs.Common.{◌≡◌, ◌<◌, ◌+◌, ◌==◌, ◌∙◌, ◌∷◌, ◌++◌, [], Bool, true, false, nat_lt, ℕ, zero, suc, List, Option, None, length, map, get_or, option_to_list, if◌then◌else◌, sym, ap, subst, arith, refl, Some, Ok, Err, Result, IfOk, Vec, Global, pos, take, append-nil, append_assoc, rules, tests}
use Rattle.std.proofs.lemmas.Bool.{eqb-false, eqb-true, ltb-false, ltb-true}
use Rattle.std.proofs.lemmas.List.{length-take, map-append, take_more}
use Rattle.std.proofs.lemmas.List.Folds.{concat-append}
use Rattle.std.proofs.lemmas.List.Elements.{All-head, All-tail}
use Rattle.std.proofs.lemmas.List.FromFn.{map-range_with_len_more}
use Rattle.std.proofs.lemmas.Grind.{flat_map-append}
use Rattle.std.proofs.lemmas.Map.Keys.{sorted_head, sorted_tail}
use Rattle.std.specs.List.{All, AllByRecursion, concat, range_with_len}
use Rattle.std.specs.Ordering.{is_eq}
use Rattle.std.specs.declared.cmp.Ordering.TheVariants.{Less}
use Rattle.values.specs.declared.value.Value.{Value}
use Rattle.values.specs.declared.value.Value.TheVariants.{Whole}
use Rattle.values.specs.Columns.{Counts, Listed, fronted, rows_in_columns}
use Rattle.values.specs.Order.{value_eq, value_order}
use Rattle.values.specs.Order.Laws.{value_eq-equiv, value_eq-ties}
use Rattle.values.proofs.RowLemmas.{length-rows}
use Rattle.table_schema.specs.declared.field.Field.{Field}
use Rattle.table_schema.specs.declared.table.Table.{Table}
use Rattle.value_ids.specs.Coding.{AreBelow, Codes, values_at}
use Rattle.value_ids.specs.Dictionary.{Ascends, Distinct, distinct}
use Rattle.dictionary.specs.Spelling.{spelling}
use Rattle.value_ids.proofs.DistinctLemmas.{distinct_ascends}
use Rattle.bit_column.specs.Column.{spelled, width_of}
use Rattle.segment_file.specs.declared.bounds.Ends.{Ends}
use Rattle.segment_file.specs.declared.part.Part.TheVariants as parts
use Rattle.segment_file.specs.Bounds.{bounds_bytes, bounds_of, ends_of, pair_bytes}
use Rattle.segment_file.specs.Image.{dictionary_of, ids_of, place_of, section_of, values_in}
use Rattle.segment_file.specs.Ordered.{value_in}
use Rattle.segment_file.specs.Parts.{marked, marked_from}
use Rattle.table_schema.specs.NeedIds.{is_the_number}
use Rattle.table_schema.specs.ValidSettings.{is_known_number}
use Rattle.bit_column.specs.Postings.{inverted, ranged}
use Rattle.bit_column.specs.SortedRuns.{sorted_runs}
use Rattle.segment_build.specs.declared.indexes.Indexes.{Indexes}
use Rattle.segment_build.specs.Sections.{Made, ids_in, made_of, only, sorted_among, with_column}

-- ---- the values of rows in a column

first_column : (values : List Value) (rows : List (List Value)) → length rows ≡ length values → map (value_in 0) (fronted values rows) ≡ values
first_column [] rows e = refl
first_column (v ∷ vs) [] e = absurd (omega (arith, e))
first_column (v ∷ vs) (r ∷ rs) e = ap (λ xs. v ∷ xs) (first_column vs rs (omega (arith, e)))

other_column : (at : ℕ) (values : List Value) (rows : List (List Value)) → length rows ≡ length values → map (value_in (suc at)) (fronted values rows) ≡ map (value_in at) rows
other_column at [] [] e = refl
other_column at [] (r ∷ rs) e = absurd (omega (arith, e))
other_column at (v ∷ vs) [] e = absurd (omega (arith, e))
other_column at (v ∷ vs) (r ∷ rs) e = ap (λ xs. value_in at r ∷ xs) (other_column at vs rs (omega (arith, e)))

pub column_values : (count : ℕ) (columns : List Listed) (at : ℕ) (d : Listed) → All (Counts count) columns → at < length columns → values_in at (rows_in_columns count columns) ≡ (get_or columns at d).values
column_values count [] at d counts lt = absurd (omega (arith, lt))
column_values count (c ∷ cs) zero d counts lt =
    first_column c.values (rows_in_columns count cs) (length-rows count cs (All-tail (Counts count) c cs counts) ∙ sym (All-head (Counts count) c cs counts))
column_values count (c ∷ cs) (suc at) d counts lt =
    let rest = All-tail (Counts count) c cs counts in
    other_column at c.values (rows_in_columns count cs) (length-rows count cs rest ∙ sym (All-head (Counts count) c cs counts))
    ∙ column_values count cs at d rest (omega (arith, lt))

-- ---- ids

less_other : (a b : Value) → value_order a b ≡ Less → value_eq a b ≡ false
less_other a b e = value_eq-ties a b ∙ ap is_eq e

pub below_at : (v : Value) (vs : List Value) (id : ℕ) (d : Value) → AllByRecursion (λ w. value_order v w ≡ Less) vs → id < length vs → value_order v (get_or vs id d) ≡ Less
below_at v [] id d all lt = absurd (omega (arith, lt))
below_at v (w ∷ ws) zero d all lt = all.0
below_at v (w ∷ ws) (suc id) d all lt = below_at v ws id d all.1 (omega (arith, lt))

-- a value of ascending ones is at its own place
place_at : (values : List Value) (id : ℕ) (d : Value) → Ascends values → id < length values → place_of values (get_or values id d) ≡ id
place_at [] id d up lt = absurd (omega (arith, lt))
place_at (v ∷ vs) zero d up lt = ap (λ b. if b then 0 else suc (place_of vs v)) (value_eq-equiv.refl v)
place_at (v ∷ vs) (suc id) d up lt =
    let w : Value = get_or vs id d in
    ap (λ b. if b then 0 else suc (place_of vs w)) (less_other v w (below_at v vs id d (sorted_head value_order v vs up) (omega (arith, lt))))
    ∙ ap suc (place_at vs id d (sorted_tail value_order v vs up) (omega (arith, lt)))

places_back : (values : List Value) (ids : List ℕ) → Ascends values → AreBelow (length values) ids → map (place_of values) (values_at values ids) ≡ ids
places_back values [] up below = refl
places_back values (id ∷ ids) up below =
    let P : ℕ → Type 0 = λ n. n < length values in
    (λ i. place_at values id (Whole (pos 0)) up (All-head P id ids below) i ∷ places_back values ids up (All-tail P id ids below) i)

-- the ids of a column are the places of its values
pub ids_are : (values column : List Value) (ids : List ℕ) → values ≡ distinct column → Codes values ids column → ids ≡ ids_in column
ids_are values column ids is codes =
    let up : Ascends values = subst Ascends (sym is) (distinct_ascends column) in
    sym (places_back values ids up codes.below) ∙ ap (map (place_of values)) codes.each ∙ ap (λ vs. map (place_of vs) column) is

-- ---- sections

bounds_more : (ds : List Distinct) (d : Distinct) → bounds_bytes (bounds_of (ds ++ d ∷ [])) ≡ bounds_bytes (bounds_of ds) ++ bounds_bytes (ends_of d.values)
bounds_more ds d =
    let ends : Distinct → List Ends = λ x. ends_of x.values in
    ap bounds_bytes (flat_map-append ends ds (d ∷ []) ∙ ap (λ one. bounds_of ds ++ one) (append-nil (ends_of d.values)))
    ∙ flat_map-append pair_bytes (bounds_of ds) (ends_of d.values)

-- ---- the columns that have other indexes

sorted_by_case : {A : Type 0} (f : ℕ → A) (m at : ℕ) (a b c : Bool) → nat_lt m at ≡ a → (m == at) ≡ b → nat_lt m (at + 1) ≡ c → map f (only a m) ++ only b (f at) ≡ map f (only c m)
sorted_by_case f m at true true c l e u = absurd (omega (arith, ltb-true m at l, eqb-true m at e))
sorted_by_case f m at true false true l e u = refl
sorted_by_case f m at true false false l e u = absurd (omega (arith, ltb-true m at l, ltb-false m (at + 1) u))
sorted_by_case f m at false true true l e u = ap (λ n. f n ∷ []) (sym (eqb-true m at e))
sorted_by_case f m at false true false l e u = absurd (omega (arith, eqb-true m at e, ltb-false m (at + 1) u))
sorted_by_case f m at false false true l e u = absurd (eqb-false m at e (omega (arith, ltb-false m at l, ltb-true m (at + 1) u)))
sorted_by_case f m at false false false l e u = refl

-- the sorted column is the next one, or another
sorted_more : {A : Type 0} (f : ℕ → A) (at : ℕ) (sorted : Option ℕ) → map f (sorted_among at sorted) ++ only (is_the_number at sorted) (f at) ≡ map f (sorted_among (at + 1) sorted)
sorted_more f at None = refl
sorted_more f at (Some m) = sorted_by_case f m at (nat_lt m at) (m == at) (nat_lt m (at + 1)) refl refl refl

pub sorted_all : (count : ℕ) (fields : List Field) (sorted : Option ℕ) → count ≡ length fields → is_known_number fields sorted ≡ true → sorted_among count sorted ≡ option_to_list sorted
sorted_all count fields None e known = refl
sorted_all count fields (Some m) e known = ap (λ b. only b m) (ap (nat_lt m) e ∙ known)

marked_push : (at : ℕ) (marks : List Bool) (b : Bool) → marked_from at (marks ++ b ∷ []) ≡ marked_from at marks ++ only b (at + length marks)
marked_push at [] true = let same : at ≡ at + 0 = omega arith in ap (λ n. n ∷ []) same
marked_push at [] false = refl
marked_push at (true ∷ marks) b =
    let same : at + 1 + length marks ≡ at + length (true ∷ marks) = omega arith in
    ap (λ ns. at ∷ ns) (marked_push (at + 1) marks b ∙ ap (λ n. marked_from (at + 1) marks ++ only b n) same)
marked_push at (false ∷ marks) b =
    let same : at + 1 + length marks ≡ at + length (false ∷ marks) = omega arith in
    marked_push (at + 1) marks b ∙ ap (λ n. marked_from (at + 1) marks ++ only b n) same

map_only : {A : Type 0} (f : ℕ → A) (b : Bool) (n : ℕ) → map f (only b n) ≡ only b (f n)
map_only f true n = refl
map_only f false n = refl

-- the next column is marked, or it is not
marked_more : {A : Type 0} (f : ℕ → A) (at : ℕ) (marks : List Bool) → at < length marks → map f (marked (take at marks)) ++ only (get_or marks at false) (f at) ≡ map f (marked (take (at + 1) marks))
marked_more f at marks lt =
    let b : Bool = get_or marks at false in
    let size : 0 + length (take at marks) ≡ at = omega (arith, length-take at marks, lt) in
    sym (
    ap (λ ms. map f (marked ms)) (take_more marks at false lt)
    ∙ ap (map f) (marked_push 0 (take at marks) b ∙ ap (λ n. marked (take at marks) ++ only b n) size)
    ∙ map-append f (marked (take at marks)) (only b at)
    ∙ ap (λ one. map f (marked (take at marks)) ++ one) (map_only f b at)
    )

-- ---- the sections of more columns

none_among : (sorted : Option ℕ) → sorted_among 0 sorted ≡ []
none_among None = refl
none_among (Some m) = let no : nat_lt m 0 ≡ false = search (rules, tests) in ap (λ b. only b m) no

pub made_none : (table : Table) (rows : List (List Value)) (made : Made) → made ≡ record { bounds = []; dictionaries = []; forwards = []; runs = []; lists = []; ranges = [] } → made ≡ made_of table rows 0
made_none table rows made e =
    e ∙ (λ i. record {
      bounds = [];
      dictionaries = [];
      forwards = [];
      runs = map (λ c. section_of table rows (parts.Sorted c)) (sym (none_among table.settings.sorted) i);
      lists = [];
      ranges = [];
    })

-- the sections of one more column of rows
pub made_more : (table : Table) (rows : List (List Value)) (at : ℕ) (indexes : Indexes) → at < length table.settings.inverted → at < length table.settings.ranged → indexes.sorted ≡ is_the_number at table.settings.sorted
    → indexes.inverted ≡ get_or table.settings.inverted at false → indexes.ranged ≡ get_or table.settings.ranged at false → with_column (dictionary_of table rows at) (ids_of rows at) indexes (made_of table rows at) ≡ made_of table rows (at + 1)
made_more table rows at indexes lt less is_sorted is_inverted is_ranged =
    let dictionaries : ℕ → List ℕ = λ c. section_of table rows (parts.Dictionary c) in
    let forwards : ℕ → List ℕ = λ c. section_of table rows (parts.Forward c) in
    let runs : ℕ → List ℕ = λ c. section_of table rows (parts.Sorted c) in
    let lists : ℕ → List ℕ = λ c. section_of table rows (parts.Inverted c) in
    let ranges : ℕ → List ℕ = λ c. section_of table rows (parts.Range c) in
    let old : Made = made_of table rows at in
    let b : old.bounds ++ bounds_bytes (ends_of (dictionary_of table rows at).values) ≡ (made_of table rows (at + 1)).bounds =
    sym (ap (λ ds. bounds_bytes (bounds_of ds)) (map-range_with_len_more (dictionary_of table rows) 0 at at (omega arith)) ∙ bounds_more (map (dictionary_of table rows) (range_with_len 0 at)) (dictionary_of table rows at)) in
    let d = sym (map-range_with_len_more dictionaries 0 at at (omega arith)) in
    let f = sym (map-range_with_len_more forwards 0 at at (omega arith)) in
    let r : old.runs ++ only indexes.sorted (runs at) ≡ (made_of table rows (at + 1)).runs =
    ap (λ x. old.runs ++ only x (runs at)) is_sorted ∙ sorted_more runs at table.settings.sorted in
    let l : old.lists ++ only indexes.inverted (lists at) ≡ (made_of table rows (at + 1)).lists =
    ap (λ x. old.lists ++ only x (lists at)) is_inverted ∙ marked_more lists at table.settings.inverted lt in
    let n : old.ranges ++ only indexes.ranged (ranges at) ≡ (made_of table rows (at + 1)).ranges =
    ap (λ x. old.ranges ++ only x (ranges at)) is_ranged ∙ marked_more ranges at table.settings.ranged less in
    (λ i. record { bounds = b i; dictionaries = d i; forwards = f i; runs = r i; lists = l i; ranges = n i })

-- the sections of a column, as they are pushed
pub column_pushed : (d : Distinct) (ids : List ℕ) (indexes : Indexes) (old new : Made)
    → new.bounds ≡ old.bounds ++ bounds_bytes (ends_of d.values) → new.dictionaries ≡ old.dictionaries ++ spelling d ∷ []
    → new.forwards ≡ old.forwards ++ spelled (width_of (length d.values)) ids ∷ []
    → new.runs ≡ old.runs ++ only indexes.sorted (sorted_runs (length d.values) ids) → new.lists ≡ old.lists ++ only indexes.inverted (inverted (length d.values) ids)
    → new.ranges ≡ old.ranges ++ only indexes.ranged (ranged (length d.values) ids) → new ≡ with_column d ids indexes old
column_pushed d ids indexes old new b ds fs rs ls ns = (λ i. record { bounds = b i; dictionaries = ds i; forwards = fs i; runs = rs i; lists = ls i; ranges = ns i })

-- an answer with these items has equal ones
pub if_ok_items : {X E : Type 0} (r : Result (Vec X Global) E) (a b : List X) → a ≡ b → IfOk r (λ v. v.items ≡ a) → IfOk r (λ v. v.items ≡ b)
if_ok_items (Ok v) a b same is = is ∙ same
if_ok_items (Err e) a b same is = tt

-- one more section appended
pub section_appended : (sections : List (List ℕ)) (at : ℕ) (section start old new : List ℕ) → at < length sections → section ≡ get_or sections at section
    → old ≡ start ++ concat (take at sections) → new ≡ old ++ section → new ≡ start ++ concat (take (at + 1) sections)
section_appended sections at section start old new lt is so_far more =
    let all : take (at + 1) sections ≡ take at sections ++ section ∷ [] = take_more sections at section lt ∙ ap (λ s. take at sections ++ s ∷ []) (sym is) in
    more ∙ ap (λ x. x ++ section) so_far ∙ append_assoc start (concat (take at sections)) section
    ∙ ap (λ x. start ++ x) (ap (λ x. concat (take at sections) ++ x) (sym (append-nil section)) ∙ sym (concat-append (take at sections) (section ∷ [])) ∙ ap concat (sym all))

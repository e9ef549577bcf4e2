-- Each document that is selected of the tree of rows has a key, and together they stand for no more
-- rows than there are.
use Rattle.std.proofs.Common.{◌≡◌, ◌∙◌, ℕ, ◌<◌, ◌≤◌, Bool, true, false, cond, ◌&&◌, not, nat_lt, All, ℤ, List, [], ◌∷◌, Option, Some, None, length, get_or, map, refl, sym, ap, arith}
use Rattle.std.specs.List.{list_all}
use Rattle.std.proofs.lemmas.Bool.{and_from, and_parts, and_right, lt-ltb, ltb-true, not-false, not_from_true}
use Rattle.std.proofs.lemmas.List.Elements.{All-cons, All-head, All-nil, All-tail}
use Rattle.std.proofs.lemmas.Option.{slice_get_within}
use Rattle.values.specs.declared.value.Value.{Value}
use Rattle.agg_laws.specs.declared.aggregate_kind.AggKind.{AggKind}
use Rattle.agg_laws.specs.declared.states.AggState.{AggState}
use Rattle.agg_laws.specs.declared.tree_shape.TreeShape.{TreeShape}
use Rattle.state_columns.specs.Docs.{Doc, projected}
use Rattle.state_columns.specs.Region.{range}
use Rattle.star_tree.specs.Groups.{groups_of, key_from, rows_that_hold}
use Rattle.agg_laws.specs.Merged.{join_some, total, weights}
use Rattle.star_tree.specs.Picks as asks
use Rattle.star_tree.specs.Picks.{holds_from}
use Rattle.agg_laws.specs.Rows.{merged_rows, row_of, row_weight}
use Rattle.agg_laws.specs.Tree.{dim}
use Rattle.agg_laws.specs.laws.Rows as rows_law
use Rattle.state_columns.proofs.DocLemmas.{rows_join}
use Rattle.state_columns.proofs.MergedLemmas.{total-filter}
use Rattle.scan_engine.proofs.AddLemmas.{row_fits}
use Rattle.star_file.specs.Reading.{HasDocuments}
use Rattle.star_walk.specs.declared.pick.Pick.{Pick}
use Rattle.star_walk.specs.Images.{AreWithin}
use Rattle.table_schema.specs.declared.query.Agg.{Agg}
use Rattle.star_reader.specs.declared.asked.Asked.{Asked}
use Rattle.star_reader.specs.declared.asked.GroupColumn.{GroupColumn}
use Rattle.star_reader.specs.Answers.{AreRead}
use Rattle.star_reader.specs.Asked.{HasKey, entries_of}
use Rattle.star_answer.specs.Served.{AreProjected, IsProjected}
use Rattle.star_answer.proofs.CoverLemmas.{AreLight, picked_weight}
use Rattle.star_answer.proofs.KeyLemmas.{AreGrouped, ids_total, spread, spread_dim}

-- ---- keys

-- whether each group column has a value for the id
abbrev pub has_values : List GroupColumn → List ℕ → Bool
has_values columns x =
    list_all (λ (c : GroupColumn). nat_lt (dim c.dim x) (length c.values.now.values)) columns

abbrev HasValue : List ℕ → GroupColumn → Type 0
HasValue x c = dim c.dim x < length c.values.now.values

values_so : (columns : List GroupColumn) (x : List ℕ) → HasKey columns x → has_values columns x ≡ true
values_so [] x h = refl
values_so (c ∷ cs) x h =
    and_from (nat_lt (dim c.dim x) (length c.values.now.values)) (has_values cs x)
    (lt-ltb (dim c.dim x) (length c.values.now.values) (All-head (HasValue x) c cs h))
    (values_so cs x (All-tail (HasValue x) c cs h))

values_back : (columns : List GroupColumn) (x : List ℕ) → has_values columns x ≡ true → HasKey columns x
values_back [] x h = All-nil (HasValue x)
values_back (c ∷ cs) x h =
    let both = and_parts (nat_lt (dim c.dim x) (length c.values.now.values)) (has_values cs x) h in
    All-cons (HasValue x) c cs (ltb-true (dim c.dim x) (length c.values.now.values) both.0)
    (values_back cs x both.1)

-- it goes by the ids in the dimensions that are grouped
values_by_ids : (t : asks.Task) (k : ℕ) (columns : List GroupColumn) (x : List ℕ)
    → AreGrouped t k columns → has_values columns x ≡ has_values columns (spread t k 0 (key_from t k 0 x))
values_by_ids t k [] x h = refl
values_by_ids t k (c ∷ cs) x h =
    let same = spread_dim t k c x (All-head (λ (column : GroupColumn). (column.dim < k)
    × (t.grouped column.dim ≡ true)) c cs h) in
    λ i. nat_lt (sym same i) (length c.values.now.values)
    && values_by_ids t k cs x (All-tail (λ (column : GroupColumn). (column.dim < k)
    × (t.grouped column.dim ≡ true)) c cs h) i

none_there : (p : List ℕ → Bool) (es : List Doc) → All (λ e. p e.0 ≡ false) es
    → total merged_rows p es ≡ None
none_there p [] h = refl
none_there p (e ∷ es) h =
    (λ i. join_some merged_rows (cond (All-head (λ (e : Doc). p e.0 ≡ false) e es h i) (Some e.1) None)
    (total merged_rows p es))
    ∙ none_there p es (All-tail (λ (e : Doc). p e.0 ≡ false) e es h)

there_none : (p : List ℕ → Bool) (es : List Doc) → total merged_rows p es ≡ None
    → All (λ e. p e.0 ≡ false) es
there_none p [] h = All-nil (λ (e : Doc). p e.0 ≡ false)
there_none p (e ∷ es) h =
    let both = by (p e.0) (total merged_rows p es) h in
    All-cons (λ (e : Doc). p e.0 ≡ false) e es both.0 (there_none p es both.1)
  where
    by : (b : Bool) (o : Option (List AggState))
        → join_some merged_rows (cond b (Some e.1) None) o ≡ None → (b ≡ false) × (o ≡ None)
    by true None h = cc
    by true (Some s) h = cc
    by false o h = (refl, h)

all_keyed : (columns : List GroupColumn) (es : List Doc)
    → All (λ e. not (has_values columns e.0) ≡ false) es → All (λ e. HasKey columns e.0) es
all_keyed columns [] h = All-nil (λ (e : Doc). HasKey columns e.0)
all_keyed columns (e ∷ es) h =
    All-cons (λ (e : Doc). HasKey columns e.0) e es
    (values_back columns e.0 (not-false (has_values columns e.0)
    (All-head (λ (e : Doc). not (has_values columns e.0) ≡ false) e es h)))
    (all_keyed columns es (All-tail (λ (e : Doc). not (has_values columns e.0) ≡ false) e es h))

module _ (split : List ℕ) (pairs : List Agg) (values : ℕ → List Value) (ks : List AggKind) where
  row_key : (row : List Value) (entry : List ℕ × List ℤ) → IsProjected split pairs values row entry
      → (columns : List GroupColumn) → All (λ column. column.dim < length split) columns
      → All (λ column. column.values.now.values ≡ values column.dim) columns → HasKey columns entry.0
  row_key row entry is columns dims same i d lt =
      let c : GroupColumn = get_or columns i d in
      let there = slice_get_within (values c.dim) (dim c.dim entry.0) _ (is.ids c.dim (dims i d lt)) in
      let lengths = ap length (same i d lt) in
      omega (arith, there, lengths)

  rows_keyed : (columns : List GroupColumn) → All (λ column. column.dim < length split) columns
      → All (λ column. column.values.now.values ≡ values column.dim) columns
      → (held : List ℕ → Bool) (rows : List (List Value)) (entries : List (List ℕ × List ℤ))
      → AreProjected split pairs values rows entries
      → All (λ e. (held e.0 && not (has_values columns e.0)) ≡ false) (projected ks entries)
  rows_keyed columns dims same held [] [] h =
      All-nil (λ (e : Doc). (held e.0 && not (has_values columns e.0)) ≡ false)
  rows_keyed columns dims same held [] (e ∷ es) h = absurd h
  rows_keyed columns dims same held (row ∷ rows) [] h = absurd h
  rows_keyed columns dims same held (row ∷ rows) (e ∷ es) h =
      All-cons (λ (e : Doc). (held e.0 && not (has_values columns e.0)) ≡ false)
      (e.0, row_of ks (e.1 ∷ [])) (projected ks es)
      (and_right (held e.0) (not (has_values columns e.0)) (not_from_true (has_values columns e.0)
      (values_so columns e.0 (row_key row e h.0 columns dims same))))
      (rows_keyed columns dims same held rows es h.1)

  -- rows of numbers of 64 bits weigh one at most
  pub rows_light : (rows : List (List Value)) (entries : List (List ℕ × List ℤ))
      → AreProjected split pairs values rows entries
      → AreLight row_weight rows_law.row_weight_both (projected ks entries)
  rows_light [] [] h = tt
  rows_light [] (e ∷ es) h = absurd h
  rows_light (row ∷ rows) [] h = absurd h
  rows_light (row ∷ rows) (e ∷ es) h = (
    rows_law.row_weight_least (row_of ks (e.1 ∷ [])) 1 (row_fits ks e.1 h.0.whole),
    rows_light rows es h.1,
  )

  pub rows_ones : (rows : List (List Value)) (entries : List (List ℕ × List ℤ))
      → AreProjected split pairs values rows entries
      → AreLight (λ s. 1) (λ a b. omega arith) (projected ks entries)
  rows_ones [] [] h = tt
  rows_ones [] (e ∷ es) h = absurd h
  rows_ones (row ∷ rows) [] h = absurd h
  rows_ones (row ∷ rows) (e ∷ es) h = (omega arith, rows_ones rows es h.1)

  pub rows_many : (rows : List (List Value)) (entries : List (List ℕ × List ℤ))
      → AreProjected split pairs values rows entries
      → length (projected ks entries) ≡ length rows
  rows_many [] [] h = refl
  rows_many [] (e ∷ es) h = absurd h
  rows_many (row ∷ rows) [] h = absurd h
  rows_many (row ∷ rows) (e ∷ es) h = let more = rows_many rows es h.1 in omega (arith, more)

  -- documents with the groups of the rows that hold have keys
  pub selected_keyed : (t : asks.Task) (k : ℕ) (columns : List GroupColumn) (rows : List (List Value))
      (entries : List (List ℕ × List ℤ)) (selected : List Doc)
      → AreProjected split pairs values rows entries → AreGrouped t k columns
      → All (λ column. column.dim < length split) columns
      → All (λ column. column.values.now.values ≡ values column.dim) columns
      → groups_of merged_rows t k selected
      ≡ groups_of merged_rows t k (rows_that_hold t k (projected ks entries))
      → All (λ e. HasKey columns e.0) selected
  selected_keyed t k columns rows entries selected h grouped dims same groups =
      let p : List ℕ → Bool = λ x. not (has_values columns x) in
      let held : List ℕ → Bool = λ x. holds_from t k 0 x in
      let none : total merged_rows p (rows_that_hold t k (projected ks entries)) ≡ None =
      total-filter merged_rows rows_join p held (projected ks entries)
      ∙ none_there (λ x. held x && p x) (projected ks entries)
      (rows_keyed columns dims same held rows entries h) in
      all_keyed columns selected (there_none p selected
      (ids_total t k selected (rows_that_hold t k (projected ks entries)) groups p
      (λ x. ap not (values_by_ids t k columns x grouped)) ∙ none))

-- ---- weights

pub entries_weight : (asked : Asked) (docs : List Doc)
    → weights row_weight (entries_of asked docs) ≤ weights row_weight docs
entries_weight asked [] = omega arith
entries_weight asked (e ∷ es) =
    let own = picked_weight asked.pairs.now e.1 in
    let more = entries_weight asked es in
    omega (arith, own, more)

-- ---- what the section of the tree has at picks

pub picks_read : (shape : TreeShape) (counts bytes : List ℕ) (all : List Doc)
    → ((from to : ℕ) → from ≤ to → to ≤ length all
    → HasDocuments shape counts from to bytes (range from to all))
    → (j : ℕ) (ps : List Pick) → AreWithin (length all) j ps
    → AreRead shape counts bytes ps (map (λ p. range p.start p.end all) ps)
picks_read shape counts bytes all has j [] within = tt
picks_read shape counts bytes all has j (p ∷ ps) within = (
  has p.start p.end (omega (arith, within.0)) within.1,
  picks_read shape counts bytes all has j ps within.3,
)

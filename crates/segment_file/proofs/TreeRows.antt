-- The rows of a segment as a tree has them, and the sections of the tree.
use Rattle.std.proofs.Common.{◌≡◌, ◌∙◌, ◌<◌, ◌≤◌, ◌+◌, ◌*◌, ◌^◌, ℕ, zero, suc, true, All, List, [], ◌∷◌, ◌++◌, length, map, get_or, Option, Some, None, refl, sym, ap, subst, arith, ltb-true, mul-le-mul_left}
use Rattle.std.specs.Prelude.{pos, negsuc, slice_get}
use Rattle.std.specs.List.{AllByRecursion}
use Rattle.std.specs.Option.{option_map_or}
use Rattle.std.proofs.lemmas.Bool.{false≢true}
use Rattle.std.proofs.lemmas.Int.{ints}
use Rattle.std.proofs.lemmas.List.{get_or-map, length-map}
use Rattle.std.proofs.lemmas.List.Elements.{All-head, All-tail}
use Rattle.data_types.specs.declared.kind.FieldKind.{FieldKind}
use Rattle.data_types.specs.declared.kind.FieldKind.TheVariants as kind
use Rattle.values.specs.declared.value.Value.{Value}
use Rattle.values.specs.declared.value.Value.TheVariants.{Whole, Text}
use Rattle.values.specs.Kinds.{fits}
use Rattle.state_columns.specs.Docs.{Doc, AreStored, HaveIds, HaveShape, projected}
use Rattle.star_tree.specs.Flat.{flat}
use Rattle.star_tree.specs.NodeRules.{AreCounted, count_at}
use Rattle.agg_laws.specs.Numbers.{AreWhole, IsWhole}
use Rattle.agg_laws.specs.Merged.{weights}
use Rattle.agg_laws.specs.Rows.{merged_rows, row_of, row_weight}
use Rattle.agg_laws.specs.Tree.{HaveNoStar, dim, star}
use Rattle.agg_laws.specs.laws.Rows as rows
use Rattle.state_columns.proofs.ValueSteps.{fits_row, kinds_row, stored_row}
use Rattle.table_schema.specs.declared.field.Field.{Field}
use Rattle.table_schema.specs.declared.query.Agg.{Agg}
use Rattle.table_schema.specs.declared.settings.TreeSetting.{TreeSetting}
use Rattle.table_schema.specs.ValidSettings.{IsValidTree}
use Rattle.table_schema.specs.ValidTable.{IsRow, is_row}
use Rattle.star_file.specs.Bytes.{node_bytes, nodes_section, words}
use Rattle.star_file.specs.Reading.{doc_width}
use Rattle.star_file.specs.Rules.{AreWords, KeepAll, most_bytes, number_at}
use Rattle.star_file.proofs.SectionLemmas.{section_back, section_count, section_nodes, word_back}
use Rattle.star_file.proofs.TreeDocs.{Good, docs_long, tree_fine}
use Rattle.star_file.proofs.TreeLaws.{no_documents, tree_keeps, tree_words}
use Rattle.value_ids.specs.Dictionary.{distinct}
use Rattle.segment_file.specs.Reading.{nodes_said}
use Rattle.segment_file.specs.Columns.{count_of, place_of, values_in}
use Rattle.segment_file.specs.Ordered.{value_in}
use Rattle.segment_file.specs.Rules.{AreNodes}
use Rattle.segment_file.specs.Trees.{TreeFits, documents, id_in, nested, nodes_of, number_for, number_of, star_of, tree_row, written}
use Rattle.segment_file.proofs.Tails.{unmapped}
use Rattle.segment_file.proofs.ImageRows.{and_first, and_second, few_values, ids_below}

-- ---- the numbers of a row

whole_below : (n : ℕ) → n < 2 ^ 63 → IsWhole (pos n)
whole_below n lt = (omega (arith, ints), omega (arith, ints, lt))

whole_above : (n : ℕ) → n < 2 ^ 63 → IsWhole (negsuc n)
whole_above n lt = (omega (arith, ints, lt), omega (arith, ints))

whole_fits : (k : FieldKind) (v : Value) → fits k v ≡ true → IsWhole (number_of v)
whole_fits kind.Int (Whole (pos n)) fit = whole_below n (omega (arith, ltb-true n (2 ^ 31) fit))
whole_fits kind.Int (Whole (negsuc n)) fit = whole_above n (omega (arith, ltb-true n (2 ^ 31) fit))
whole_fits kind.Int (Text t) fit = absurd (false≢true fit)
whole_fits kind.Long (Whole (pos n)) fit = whole_below n (ltb-true n (2 ^ 63) fit)
whole_fits kind.Long (Whole (negsuc n)) fit = whole_above n (ltb-true n (2 ^ 63) fit)
whole_fits kind.Long (Text t) fit = absurd (false≢true fit)
whole_fits kind.Text (Whole z) fit = absurd (false≢true fit)
whole_fits kind.Text (Text t) fit = whole_below 0 (omega arith)

row_whole : (fields : List Field) (row : List Value) (c : ℕ) → is_row fields row ≡ true → IsWhole (number_of (value_in c row))
row_whole [] [] c is = whole_below 0 (omega arith)
row_whole [] (v ∷ vs) c is = absurd (false≢true is)
row_whole (f ∷ fs) [] c is = absurd (false≢true is)
row_whole (f ∷ fs) (v ∷ vs) zero is = whole_fits f.kind v (and_first (fits f.kind v) (is_row fs vs) is)
row_whole (f ∷ fs) (v ∷ vs) (suc c) is = row_whole fs vs c (and_second (fits f.kind v) (is_row fs vs) is)

pair_whole : (fields : List Field) (row : List Value) (column : Option ℕ) → is_row fields row ≡ true → IsWhole (option_map_or (λ c. number_of (value_in c row)) column (pos 0))
pair_whole fields row None is = whole_below 0 (omega arith)
pair_whole fields row (Some c) is = row_whole fields row c is

numbers_whole : (fields : List Field) (row : List Value) (pairs : List Agg) → is_row fields row ≡ true → AreWhole (map (number_for row) pairs)
numbers_whole fields row [] is = tt
numbers_whole fields row (p ∷ pairs) is = (pair_whole fields row p.column is, numbers_whole fields row pairs is)

-- ---- the documents of rows

abbrev pub made : List (List Value) → TreeSetting → List (List Value) → List Doc
made os tree rs = projected tree.shape.kinds (map (tree_row os tree) rs)

shape_rows : (os : List (List Value)) (tree : TreeSetting) (rs : List (List Value)) → HaveShape (length tree.split) tree.shape.kinds (made os tree rs)
shape_rows os tree [] = tt
shape_rows os tree (r ∷ rs) = (length-map tree.split (id_in os r), kinds_row tree.shape.kinds (map (number_for r) tree.pairs ∷ []), shape_rows os tree rs)

ids_rows : (os : List (List Value)) (tree : TreeSetting) (rs : List (List Value)) → HaveIds (length tree.split) (made os tree rs)
ids_rows os tree [] = tt
ids_rows os tree (r ∷ rs) = (length-map tree.split (id_in os r), ids_rows os tree rs)

pub count_rows : (os : List (List Value)) (tree : TreeSetting) (rs : List (List Value)) → length (made os tree rs) ≡ length rs
count_rows os tree [] = refl
count_rows os tree (r ∷ rs) = ap suc (count_rows os tree rs)

module _ (columns : List Field) (os : List (List Value)) (tree : TreeSetting) (valid : IsValidTree columns tree) where
  pairs-kinds : (row : List Value) → length (map (number_for row) tree.pairs) ≡ length tree.shape.kinds
  pairs-kinds row = length-map tree.pairs (number_for row) ∙ sym (length-map tree.pairs (λ p. p.kind)) ∙ ap length (sym valid.has_kinds)

  stored_rows : (rs : List (List Value)) → All (IsRow columns) rs → AreStored (made os tree rs)
  stored_rows [] each = tt
  stored_rows (r ∷ rs) each =
      (stored_row tree.shape.kinds (map (number_for r) tree.pairs) (pairs-kinds r) (numbers_whole columns r tree.pairs (All-head (IsRow columns) r rs each)), stored_rows rs (All-tail (IsRow columns) r rs each))

  light_rows : (rs : List (List Value)) → All (IsRow columns) rs → weights row_weight (made os tree rs) ≤ length rs
  light_rows [] each = omega arith
  light_rows (r ∷ rs) each =
      let xs = map (number_for r) tree.pairs in
      let one = rows.row_weight_least (row_of tree.shape.kinds (xs ∷ [])) 1 (fits_row tree.shape.kinds xs (pairs-kinds r) (numbers_whole columns r tree.pairs (All-head (IsRow columns) r rs each))) in
      omega (arith, one, light_rows rs (All-tail (IsRow columns) r rs each))

-- ---- their ids

-- each id of a row is below the number of values of its column
abbrev Below : List (List Value) → List Value → Type 0
Below os row = (c : ℕ) → id_in os row c < count_of os c

all_below : (os : List (List Value)) → All (Below os) os
all_below os = λ k d lt c.
    (let place = place_of (distinct (values_in c os)) in
    unmapped (λ v. place v < count_of os c) (value_in c) os (unmapped (λ id. id < count_of os c) place (values_in c os) (ids_below os c)) k d lt)

row_below : (os : List (List Value)) (row : List Value) (split : List ℕ) (d : ℕ) → d < length split → Below os row → dim d (map (id_in os row) split) < count_at (map (count_of os) split) d
row_below os row split d lt below =
    omega (arith, get_or-map (id_in os row) split d 0 star lt, get_or-map (count_of os) split d 0 0 lt, below (get_or split d 0))

counted_rows : (os : List (List Value)) (tree : TreeSetting) (rs : List (List Value)) → All (Below os) rs → AreCounted (length tree.split) (map (count_of os) tree.split) (made os tree rs)
counted_rows os tree [] each = tt
counted_rows os tree (r ∷ rs) each = ((λ d lt. row_below os r tree.split d lt (All-head (Below os) r rs each)), counted_rows os tree rs (All-tail (Below os) r rs each))

no_star_rows : (k : ℕ) (counts : List ℕ) (docs : List Doc) → AreCounted k counts docs → ((d : ℕ) → count_at counts d ≤ star) → HaveNoStar k docs
no_star_rows k counts [] counted at_most = tt
no_star_rows k counts (e ∷ es) counted at_most = ((λ d lt same. omega (arith, counted.0 d lt, at_most d, same)), no_star_rows k counts es counted.1 at_most)

few_counts : (os : List (List Value)) (split : List ℕ) (d : ℕ) → length os ≤ 1048576 → count_at (map (count_of os) split) d ≤ star
few_counts os [] d at_most = omega arith
few_counts os (c ∷ split) zero at_most = omega (arith, at_most, few_values os c)
few_counts os (c ∷ split) (suc d) at_most = few_counts os split d at_most

-- each id of a row's document is below the number of values of its column
tree_counted : (columns : List Field) (os : List (List Value)) (tree : TreeSetting) → IsValidTree columns tree → AreCounted tree.shape.dims (map (count_of os) tree.split) (documents os tree)
tree_counted columns os tree valid = subst (λ n. AreCounted n (map (count_of os) tree.split) (documents os tree)) (sym valid.has_dims) (counted_rows os tree os (all_below os))

-- and so none is the star
pub tree_no_star : (columns : List Field) (os : List (List Value)) (tree : TreeSetting) → IsValidTree columns tree → length os ≤ 1048576 → HaveNoStar tree.shape.dims (documents os tree)
tree_no_star columns os tree valid at_most = no_star_rows tree.shape.dims (map (count_of os) tree.split) (documents os tree) (tree_counted columns os tree valid) (λ d. few_counts os tree.split d at_most)

-- ---- the sections of a tree

-- what there is to say of the sections of a tree
pub record TreeSections (os : List (List Value)) (tree : TreeSetting) : Type 0 where
  pub are_nodes : AreNodes tree.shape (map (count_of os) tree.split) (length os) (nodes_of os (Some tree))
  pub number : length (written os tree).1 < 2 ^ 32
  pub documents_said : number_at 0 (nodes_of os (Some tree)) ≡ length (written os tree).1
  pub nodes_told : nodes_said (nodes_of os (Some tree)) ≡ record { documents = length (written os tree).1; nodes = (written os tree).0 }
  pub nodes_long : length (nodes_of os (Some tree)) ≡ 4 + 28 * length (written os tree).0
  pub docs_size : length (star_of os (Some tree)) ≡ length (written os tree).1 * doc_width tree.shape
  pub bytes : length (written os tree).1 * doc_width tree.shape + 28 * length (written os tree).0 ≤ most_bytes
  pub shaped : HaveShape tree.shape.dims tree.shape.kinds (written os tree).1
  pub stored : AreStored (written os tree).1
  pub ids : HaveIds tree.shape.dims (documents os tree)
  pub counted : AreCounted tree.shape.dims (map (count_of os) tree.split) (documents os tree)
  pub no_star : HaveNoStar tree.shape.dims (documents os tree)
  pub few_ids : (d : ℕ) → count_at (map (count_of os) tree.split) d ≤ star

first_word : (n : ℕ) (rest : List ℕ) → n < 2 ^ 32 → number_at 0 (words (n ∷ []) ++ rest) ≡ n
first_word n rest small = word_back n small

pub tree_sections : (columns : List Field) (os : List (List Value)) (tree : TreeSetting) → IsValidTree columns tree → length os ≤ 1048576 → All (IsRow columns) os → TreeFits os tree → TreeSections os tree
unfolding written
tree_sections columns os tree valid at_most each fits =
    let docs : List Doc = documents os tree in
    let counts : List ℕ = map (count_of os) tree.split in
    let k : ℕ = tree.shape.dims in
    let f = flat merged_rows (nested os tree) in
    let dims : length tree.split ≡ k = sym valid.has_dims in
    let limit : (d : ℕ) → count_at counts d ≤ star = λ d. few_counts os tree.split d at_most in
    let ids : HaveIds k docs = subst (λ n. HaveIds n docs) dims (ids_rows os tree os) in
    let counted = tree_counted columns os tree valid in
    let no_star = tree_no_star columns os tree valid at_most in
    let good : Good k tree.shape.kinds docs = record {
      shape = subst (λ n. HaveShape n tree.shape.kinds docs) dims (shape_rows os tree os);
      stored = stored_rows columns os tree valid os each;
      weight_fits = omega (arith, light_rows columns os tree valid os each, at_most);
    } in
    let keep : KeepAll tree.shape counts (length f.1) f.0 = tree_keeps tree.shape docs counts ids no_star limit counted fits.at_most in
    let word : AreWords f.0 = tree_words tree.shape docs counts (omega (arith, valid.some_split, dims)) (omega (arith, valid.few_split, dims)) ids no_star limit counted keep in
    let wide : 1 ≤ doc_width tree.shape = omega (arith, valid.some_split, dims) in
    let number : length f.1 < 2 ^ 32 = (let m = mul-le-mul_left (length f.1) wide in omega (arith, m, keep.bytes)) in
    let said : number_at 0 (nodes_section (length f.1) f.0) ≡ length f.1 = first_word (length f.1) (node_bytes f.0) number in
    let none = no_documents tree.shape k docs in
    let rows_are : length docs ≡ length os = count_rows os tree os in
    let fine = tree_fine tree.shape k tree.shape.kinds docs good in
    record {
      are_nodes = record {
        keep = section_back tree.shape counts (length f.1) f.0 number word keep;
        none = ((λ z. sym rows_are ∙ none.0 (sym said ∙ z)), (λ z. said ∙ none.1 (rows_are ∙ z)));
      };
      number = number;
      documents_said = said;
      nodes_told = (λ i. record { documents = said i; nodes = section_nodes (length f.1) f.0 word i });
      nodes_long = section_count (length f.1) f.0;
      docs_size = docs_long tree.shape f.1 fine;
      bytes = keep.bytes;
      shaped = fine.0;
      stored = fine.1;
      ids = ids;
      counted = counted;
      no_star = no_star;
      few_ids = limit;
    }

-- a tree of a table, with its sections
pub record TreeThere (columns : List Field) (os : List (List Value)) (trees : List TreeSetting) (t : ℕ) : Type 0 where
  pub tree : TreeSetting
  pub at : slice_get trees t ≡ Some tree
  pub valid : IsValidTree columns tree
  pub sections : TreeSections os tree

pub tree_there : (columns : List Field) (os : List (List Value)) (trees : List TreeSetting) (t : ℕ) → AllByRecursion (IsValidTree columns) trees → All (TreeFits os) trees → length os ≤ 1048576 → All (IsRow columns) os → t < length trees → TreeThere columns os trees t
tree_there columns os [] t all fits at_most each lt = absurd (omega (arith, lt))
tree_there columns os (x ∷ xs) zero all fits at_most each lt = record { tree = x; at = refl; valid = all.0; sections = tree_sections columns os x all.0 at_most each (All-head (TreeFits os) x xs fits) }
tree_there columns os (x ∷ xs) (suc t) all fits at_most each lt =
    let there = tree_there columns os xs t all.1 (All-tail (TreeFits os) x xs fits) at_most each (omega (arith, lt)) in
    record { tree = there.tree; at = there.at; valid = there.valid; sections = there.sections }

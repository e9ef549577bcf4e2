-- Columns that are read as ids: which values of a dictionary they have, and what they are together.
use Rattle.std.proofs.Common.{◌≡◌, ◌≢◌, ◌∙◌, ◌<◌, ◌≤◌, ◌+◌, ◌==◌, ℕ, zero, suc, Bool, true, false, List, [], ◌∷◌, ◌++◌, length, map, get_or, replicate, slice_get, Option, Some, None, IfSome, refl, sym, ap, subst, arith}
use Rattle.std.specs.Prelude.{pos, nat_lt}
use Rattle.std.proofs.Math.ListN.{get_or-append, set}
use Rattle.std.proofs.lemmas.Bool.{eqb-false, eqb-true, false≢true, ltb-false, ltb-true}
use Rattle.std.proofs.lemmas.List.{get_or-map, get_or_at, get_or-set_other, get_or-set_same, length-map, length-set, length_push, map-append}
use Rattle.std.proofs.lemmas.List.Elements.{All-from_get_or}
use Rattle.std.specs.List.{All, Contains}
use Rattle.dictionary.proofs.CodedLemmas.{sees_members}
use Rattle.values.specs.declared.value.Value.{Value}
use Rattle.values.specs.declared.value.Value.TheVariants.{Whole}
use Rattle.values.specs.Columns.{Counts, Listed, ListedColumns, rows_in_columns, rows_of}
use Rattle.value_ids.specs.Coding.{AreAmong, AreBelow, Sees, values_at}
use Rattle.value_ids.specs.Dictionary.{Ascends, Distinct, distinct}
use Rattle.value_ids.proofs.DistinctLemmas.{distinct_ascends, distinct_members, same_ascending}
use Rattle.table_schema.specs.declared.table.Table.{Table}
use Rattle.table_schema.specs.ValidTable.{IsValidTable}
use Rattle.segment_file.specs.Columns.{kind_at}
use Rattle.segment_build.specs.declared.coded.CodedColumn.{CodedColumn}
use Rattle.segment_build.specs.declared.coded.CodedColumns.{CodedColumns}
use Rattle.segment_build.specs.Coded.{AreCoded, IsCoding, columns_in, decoded, dictionary_of_ids, row_values}
use Rattle.segment_build.proofs.Codings.{decoded_at, each_more, rows_alike}
use Rattle.segment_check.specs.Codes.{AreMarked, HaveAll}
use Rattle.segment_check.specs.Reading.{AreOfFields, no_column}

abbrev no_value : Value
no_value = Whole (pos 0)

-- ---- the values that rows have

among : (values : List Value) (ids : List ℕ) → HaveAll (length values) ids → AreAmong (values_at values ids) values
among values ids all =
    let f : ℕ → Value = λ id. get_or values id no_value in
    All-from_get_or (Contains (values_at values ids)) values no_value
    (λ k lt.
    let own = all k lt in
    let here : own.0 < length (map f ids) = omega (arith, own.1, length-map ids f) in
    (own.0, here, get_or-map f ids own.0 k (f k) own.1 ∙ ap f own.2))

-- where each has one, they are the distinct values of the rows
pub own_values : (values : List Value) (ids : List ℕ) → Ascends values → AreBelow (length values) ids → HaveAll (length values) ids → values ≡ distinct (values_at values ids)
own_values values ids up below all =
    let column : List Value = values_at values ids in
    let s : Sees column values ids = record { codes = record { each = refl; below = below }; among = among values ids all } in
    same_ascending values (distinct column) up (distinct_ascends column) (λ q. sees_members column values ids s q ∙ sym (distinct_members q column))

-- ---- marks

-- places are marked of ids alone, and all below one
pub record AreSeen (count next : ℕ) (ids : List ℕ) (marks : List Bool) : Type 0 where
  pub size : length marks ≡ count
  pub at_most : next ≤ count
  pub marked : AreMarked marks 0 next
  pub those : (k : ℕ) → get_or marks k false ≡ true → Contains ids k

none_marked : (n k : ℕ) → get_or (replicate n false) k false ≡ false
none_marked zero k = refl
none_marked (suc n) zero = refl
none_marked (suc n) (suc k) = none_marked n k

pub seen_none : (count : ℕ) (ids : List ℕ) (marks : List Bool) → length marks ≡ count → marks ≡ replicate count false → AreSeen count 0 ids marks
seen_none count ids marks size are = record {
  size = size;
  at_most = omega arith;
  marked = λ k from lt. absurd (omega (arith, lt));
  those = λ k e. absurd (false≢true (sym (ap (λ ms. get_or ms k false) are ∙ none_marked count k) ∙ e));
}

pub seen_more : (count next at : ℕ) (ids : List ℕ) (marks new : List Bool) → AreSeen count next ids marks → at < count → Contains ids at → new ≡ set marks at true → AreSeen count next ids new
seen_more count next at ids marks new so lt one is =
    let made : List Bool = set marks at true in
    let own : get_or made at false ≡ true = get_or-set_same marks at true false (omega (arith, lt, so.size)) in
    subst (AreSeen count next ids) (sym is)
    (record {
      size = length-set marks at true ∙ so.size;
      at_most = so.at_most;
      marked = λ k from below.
          elim (k == at) as (λ b. (k == at) ≡ b → get_or made k false ≡ true) [
            | true ↦ λ e. subst (λ j. get_or made j false ≡ true) (sym (eqb-true k at e)) own
            | false ↦ λ e. get_or-set_other marks at k true false (eqb-false k at e) ∙ so.marked k from below
          ] refl;
      those = λ k is_marked.
          elim (k == at) as (λ b. (k == at) ≡ b → Contains ids k) [
            | true ↦ λ e. subst (Contains ids) (sym (eqb-true k at e)) one
            | false ↦ λ e. so.those k (sym (get_or-set_other marks at k true false (eqb-false k at e)) ∙ is_marked)
          ] refl;
    })

pub seen_up : (count next later : ℕ) (ids : List ℕ) (marks : List Bool) → AreSeen count next ids marks → later ≤ length marks → AreMarked marks next later → AreSeen count later ids marks
seen_up count next later ids marks so at_most more = record {
  size = so.size;
  at_most = omega (arith, at_most, so.size);
  marked = λ k from below.
      elim (nat_lt k next) as (λ b. nat_lt k next ≡ b → get_or marks k false ≡ true) [
        | true ↦ λ e. so.marked k from (ltb-true k next e)
        | false ↦ λ e. more k (ltb-false k next e) below
      ] refl;
  those = so.those;
}

pub seen_all : (count next : ℕ) (ids : List ℕ) (marks : List Bool) → AreSeen count next ids marks → next ≡ count → HaveAll count ids
seen_all count next ids marks so end = λ id lt. so.those id (so.marked id (omega arith) (omega (arith, lt, end)))

-- ---- columns one after the other

-- the first so many columns, each of the kind of its field
pub record AreRead (table : Table) (count : ℕ) (all : List CodedColumn) : Type 0 where
  pub many : length all ≡ count
  pub each : (at : ℕ) (c : CodedColumn) → at < count → c ≡ get_or all at c → IsCoding c
  pub kinds : (at : ℕ) (c : CodedColumn) → at < count → c ≡ get_or all at c → (dictionary_of_ids c).kind ≡ kind_at table at

pub read_none : (table : Table) (all : List CodedColumn) → all ≡ [] → AreRead table 0 all
read_none table all none = record { many = ap length none; each = λ at c lt is. absurd (omega (arith, lt)); kinds = λ at c lt is. absurd (omega (arith, lt)) }

pub read_more : (table : Table) (at : ℕ) (old new : List CodedColumn) (c : CodedColumn) → AreRead table at old → IsCoding c → (dictionary_of_ids c).kind ≡ kind_at table at → new ≡ old ++ c ∷ [] → AreRead table (at + 1) new
read_more table at old new c so coding kind more = record {
  many = ap length more ∙ length_push old c ∙ ap (λ n. n + 1) so.many;
  each = each_more (λ k x. IsCoding x) at old new c so.many so.each coding more;
  kinds = each_more (λ k x. (dictionary_of_ids x).kind ≡ kind_at table k) at old new c so.many so.kinds kind more;
}

-- they are the columns of rows of the table
pub read_all : (table : Table) (coded : CodedColumns) → IsValidTable table → AreRead table (length table.schema.fields) coded.columns.items → AreOfFields table (columns_in coded) → AreCoded table coded
read_all table coded valid so fields = record {
  of_table = record { valid = valid; columns = record { width = fields.width; counts = fields.counts; rows = fields.rows } };
  each = λ at c lt is. so.each at c (omega (arith, lt, so.many)) is;
  kinds = λ at c lt is. so.kinds at c (omega (arith, lt, so.many)) is;
}

-- ---- their values

-- columns of the same values
pub record AreValuesOf (coded : CodedColumns) (count : ℕ) (columns : List Listed) : Type 0 where
  pub many : length columns ≡ count
  pub each : (at : ℕ) → at < count → (get_or columns at no_column).values ≡ (get_or (columns_in coded).columns at no_column).values

pub values_none : (coded : CodedColumns) (columns : List Listed) → columns ≡ [] → AreValuesOf coded 0 columns
values_none coded columns none = record { many = ap length none; each = λ at lt. absurd (omega (arith, lt)) }

pub values_more : (coded : CodedColumns) (at : ℕ) (c : CodedColumn) (old new : List Listed) (column : Listed) → at < length coded.columns.items → c ≡ get_or coded.columns.items at c → AreValuesOf coded at old → column.values ≡ row_values c
    → new ≡ old ++ column ∷ [] → AreValuesOf coded (at + 1) new
values_more coded at c old new column lt is so own more = record {
  many = ap length more ∙ length_push old column ∙ ap (λ n. n + 1) so.many;
  each = λ k below.
      let found : get_or new k no_column ≡ get_or (old ++ column ∷ []) k no_column = ap (λ l. get_or l k no_column) more in
      elim (nat_lt k at) as (λ b. nat_lt k at ≡ b → (get_or new k no_column).values ≡ (get_or (columns_in coded).columns k no_column).values) [
        | true ↦ λ e.
            let before : k < at = ltb-true k at e in
            ap (λ (l : Listed). l.values) (found ∙ get_or-append old (column ∷ []) no_column k (omega (arith, before, so.many))) ∙ so.each k before
        | false ↦ λ e.
            let last : at ≤ k = ltb-false k at e in
            let here : at ≡ k = omega (arith, last, below) in
            ap (λ (l : Listed). l.values) (found ∙ get_or_at old column [] no_column k (omega (arith, so.many, here))) ∙ own
            ∙ ap (λ (l : Listed). l.values) (decoded_at coded at c no_column lt is) ∙ ap (λ j. (get_or (columns_in coded).columns j no_column).values) here
      ] refl;
}

pub values_counts : (table : Table) (coded : CodedColumns) (columns : List Listed) → AreCoded table coded → AreValuesOf coded (length coded.columns.items) columns → All (Counts coded.rows) columns
values_counts table coded columns are so =
    let made : List Listed = (columns_in coded).columns in
    let long : length made ≡ length coded.columns.items = length-map coded.columns.items decoded in
    All-from_get_or (Counts coded.rows) columns no_column
    (λ k lt. ap length (so.each k (omega (arith, lt, so.many))) ∙ are.of_table.columns.counts k no_column (omega (arith, lt, so.many, long)))

pub values_rows : (coded : CodedColumns) (t : ListedColumns) → t.count ≡ coded.rows → AreValuesOf coded (length coded.columns.items) t.columns → rows_of t ≡ rows_of (columns_in coded)
values_rows coded t count so =
    let made : List Listed = (columns_in coded).columns in
    let long : length made ≡ length coded.columns.items = length-map coded.columns.items decoded in
    ap (λ n. rows_in_columns n t.columns) count
    ∙ rows_alike coded.rows t.columns made (so.many ∙ sym long) (λ k lt. so.each k (omega (arith, lt, so.many)))

-- Group columns and aggregates stand at the places that items and keys have.
use Rattle.std.proofs.Common.{◌≡◌, ℕ, suc, ◌==◌, Bool, true, false, ◌||◌, cond, List, [], ◌∷◌, ◌++◌, length, map, Some, None, Ok, Err, option_map, unwrap_or, refl, sym, ap, ◌∙◌, subst}
use Rattle.std.specs.List.{list_any, position_or_len, slice_get, find}
use Rattle.std.specs.Str.{bytes_eq}
use Rattle.std.proofs.lemmas.List.Folds.{list_any-append, find_at}
use Rattle.std.proofs.lemmas.Slice.Eq.{bytes_eq-Decides}
use Rattle.std.proofs.lemmas.Bool.{eqb-true, eq-eqb}
use Rattle.table_schema.specs.declared.field.Field.{Field}
use Rattle.table_schema.specs.declared.table.Table.{Table}
use Rattle.table_schema.specs.Columns.{number_of}
use Rattle.query_tokens.specs.declared.tree.NameAt.{NameAt}
use Rattle.query_tokens.specs.declared.tree.Term.{Term}
use Rattle.query_tokens.specs.declared.tree.Term.TheVariants as term
use Rattle.query_tokens.specs.declared.tree.QueryItem.{QueryItem}
use Rattle.query_tokens.specs.declared.tree.QueryKey.{QueryKey}
use Rattle.query_tokens.specs.declared.tree.Query.{Query}
use Rattle.query_bind.specs.declared.fault.BindFault.TheVariants.{At}
use Rattle.query_bind.specs.declared.fault.BindReason.TheVariants.{NotGrouped}
use Rattle.query_bind.specs.declared.terms.Meaning.{Meaning}
use Rattle.query_bind.specs.declared.terms.Meaning.TheVariants as meaning
use Rattle.query_bind.specs.declared.terms.TermAt.{TermAt}
use Rattle.query_bind.specs.declared.terms.ColumnAt.{ColumnAt}
use Rattle.query_bind.specs.Faults.{Finding, fault_unless}
use Rattle.query_bind.specs.Written.{field_number}
use Rattle.query_bind.specs.GroupTests.{having_finding}
use Rattle.query_bind.specs.Names.{term_of, table_finding, names_finding}
use Rattle.query_bind.specs.Grouped.{is_grouped, term_grouped, test_grouped, aggregate_finding, grouped_finding}
use Rattle.query_bind.specs.Terms.{meaning_of, term_at, key_at, column_at, terms_of, with_new, with_column, columns_from, with_agg, aggs_from, aggs_before_keys}
use Rattle.query_bind.specs.Bound.{Bound, bound_of, bound, query_finding, answer, item_of, items_of, keys_of, label_of}
use Rattle.query_bind.specs.Places.{at_place, ItemsAreTerms, KeysAreTerms}
use Rattle.table_schema.specs.declared.query.Agg.{Agg}
use Rattle.table_schema.specs.Aggs.{same_agg}
use Rattle.table_schema.proofs.AggLaws.{own_agg, agg_is}
use Rattle.table_schema.specs.Firsts.{first_in}
use Rattle.table_schema.proofs.FirstLaws.{first_none, rest_none}

-- ---- what is put into a list without repeats

pub not_true : false ≡ true → ⊥
not_true e = cc

pub or_true : (a : Bool) → (a || true) ≡ true
or_true true = refl
or_true false = refl

stays_by : {A : Type 0} (p : A → Bool) (kept : List A) (x : A) (b : Bool) → list_any p kept ≡ true → list_any p (cond b kept (kept ++ x ∷ [])) ≡ true
stays_by p kept x true has = has
stays_by p kept x false has = list_any-append p kept (x ∷ []) ∙ ap (λ b. b || list_any p (x ∷ [])) has

stays : {A : Type 0} (same : A → A → Bool) (p : A → Bool) (kept : List A) (x : A) → list_any p kept ≡ true → list_any p (with_new same kept x) ≡ true
stays same p kept x has = stays_by p kept x (list_any (same x) kept) has

put_by : {A : Type 0} (p : A → Bool) (kept : List A) (x : A) (b : Bool) → p x ≡ true → list_any p kept ≡ b → list_any p (cond b kept (kept ++ x ∷ [])) ≡ true
put_by p kept x true own has = has
put_by p kept x false own has = list_any-append p kept (x ∷ []) ∙ ap (λ b. list_any p kept || (b || false)) own ∙ or_true (list_any p kept)

is_put : {A : Type 0} (same : A → A → Bool) (kept : List A) (x : A) → same x x ≡ true → list_any (same x) (with_new same kept x) ≡ true
is_put same kept x own = put_by (same x) kept x (list_any (same x) kept) own refl

-- ---- columns

columns_stay : (p : ℕ → Bool) (kept : List ℕ) (ns : List ColumnAt) → list_any p kept ≡ true → list_any p (columns_from kept ns) ≡ true
columns_stay p kept [] has = has
columns_stay p kept (n ∷ ns) has = columns_stay p (with_column kept n.column) ns (stays (λ a b. b == a) p kept n.column has)

same_names : (a b : List ℕ) → bytes_eq a b ≡ true → a ≡ b
same_names a b e = (bytes_eq-Decides a b).0 e

module _ (fields : List Field) (n : NameAt) where
  abbrev wanted : ℕ → Bool
  wanted = λ g. g == field_number fields n

  grouped_by : (kept : List ℕ) (g : NameAt) (gs : List NameAt) (b : Bool)
      → ((now : List ℕ) → is_grouped gs n ≡ true → list_any wanted (columns_from now (map (column_at fields) gs)) ≡ true)
      → bytes_eq g.name n.name ≡ b → (b || is_grouped gs n) ≡ true
      → list_any wanted (columns_from (with_column kept (field_number fields g)) (map (column_at fields) gs)) ≡ true
  grouped_by kept g gs true later e found =
      let same : field_number fields g ≡ field_number fields n = ap (λ name. unwrap_or (number_of fields name) 0) (same_names g.name n.name e) in
      columns_stay wanted (with_column kept (field_number fields g)) (map (column_at fields) gs)
      (subst (λ c. list_any wanted (with_column kept c) ≡ true) (sym same) (is_put (λ a b. b == a) kept (field_number fields n) (eq-eqb (field_number fields n) (field_number fields n) refl)))
  grouped_by kept g gs false later e found = later (with_column kept (field_number fields g)) found

  is_column : (gs : List NameAt) (kept : List ℕ) → is_grouped gs n ≡ true → list_any wanted (columns_from kept (map (column_at fields) gs)) ≡ true
  is_column [] kept found = absurd (not_true found)
  is_column (g ∷ gs) kept found = grouped_by kept g gs (bytes_eq g.name n.name) (is_column gs) refl found

-- ---- aggregates

-- the aggregate that a term may be is among these
abbrev pub Has : List Agg → Meaning → Type 0
Has aggs (meaning.Column c) = Unit {0}
Has aggs (meaning.Agg a) = list_any (same_agg a) aggs ≡ true

abbrev pub HasAll : List Agg → List TermAt → Type 0
HasAll aggs [] = Unit {0}
HasAll aggs (t ∷ ts) = Has aggs t.meaning × HasAll aggs ts

agg_stays : (p : Agg → Bool) (kept : List Agg) (m : Meaning) → list_any p kept ≡ true → list_any p (with_agg kept m) ≡ true
agg_stays p kept (meaning.Column c) has = has
agg_stays p kept (meaning.Agg a) has = stays same_agg p kept a has

aggs_stay : (p : Agg → Bool) (kept : List Agg) (ts : List TermAt) → list_any p kept ≡ true → list_any p (aggs_from kept ts) ≡ true
aggs_stay p kept [] has = has
aggs_stay p kept (t ∷ ts) has = aggs_stay p (with_agg kept t.meaning) ts (agg_stays p kept t.meaning has)

has_stays : (kept : List Agg) (ts : List TermAt) (m : Meaning) → Has kept m → Has (aggs_from kept ts) m
has_stays kept ts (meaning.Column c) has = tt
has_stays kept ts (meaning.Agg a) has = aggs_stay (same_agg a) kept ts has

has_new : (kept : List Agg) (m : Meaning) → Has (with_agg kept m) m
has_new kept (meaning.Column c) = tt
has_new kept (meaning.Agg a) = is_put same_agg kept a (own_agg a)

pub has_all : (kept : List Agg) (ts later : List TermAt) → HasAll (aggs_from (aggs_from kept ts) later) ts
has_all kept [] later = tt
has_all kept (t ∷ ts) later = (
  has_stays (aggs_from (with_agg kept t.meaning) ts) later t.meaning (has_stays (with_agg kept t.meaning) ts t.meaning (has_new kept t.meaning)),
  has_all (with_agg kept t.meaning) ts later,
)

-- and they stay
all_stay : (kept : List Agg) (ts later : List TermAt) → HasAll kept ts → HasAll (aggs_from kept later) ts
all_stay kept [] later has = tt
all_stay kept (t ∷ ts) later has = (has_stays kept later t.meaning has.0, all_stay kept ts later has.1)

-- ---- places

find_by : {A : Type 0} (p : A → Bool) (x : A) (xs : List A) (a : A) (b : Bool) → ((y : A) → p y ≡ true → y ≡ a) → p x ≡ b
    → (list_any p xs ≡ true → find p xs ≡ Some a) → (b || list_any p xs) ≡ true → cond b (Some x) (find p xs) ≡ Some a
find_by p x xs a true is e later found = ap Some (is x e)
find_by p x xs a false is e later found = later found

finds : {A : Type 0} (p : A → Bool) (xs : List A) (a : A) → ((y : A) → p y ≡ true → y ≡ a) → list_any p xs ≡ true → find p xs ≡ Some a
finds p [] a is found = absurd (not_true found)
finds p (x ∷ xs) a is found = find_by p x xs a (p x) is refl (finds p xs a is) found

pub stands : {A : Type 0} (p : A → Bool) (xs : List A) (a : A) → ((y : A) → p y ≡ true → y ≡ a) → list_any p xs ≡ true → slice_get xs (position_or_len p xs) ≡ Some a
stands p xs a is found = sym (find_at p xs) ∙ finds p xs a is found

abbrev pub HasColumn : List ℕ → Meaning → Type 0
HasColumn groups (meaning.Column c) = list_any (λ g. g == c) groups ≡ true
HasColumn groups (meaning.Agg a) = Unit {0}

item_stands : (b : Bound) (m : Meaning) → HasColumn b.groups m → Has b.aggs m → at_place b (item_of b.groups b.aggs m) ≡ Some m
item_stands b (meaning.Column c) column has = ap (option_map meaning.Column) (stands (λ g. g == c) b.groups c (λ y e. eqb-true y c e) column)
item_stands b (meaning.Agg a) column has = ap (option_map meaning.Agg) (stands (same_agg a) b.aggs a (λ y e. sym (agg_is a y e)) has)

-- ---- columns that GROUP BY names

is_grouped_by : (names : List NameAt) (n : NameAt) (b : Bool) → is_grouped names n ≡ b → fault_unless b NotGrouped n.offset ≡ None → is_grouped names n ≡ true
is_grouped_by names n true e passes = e
is_grouped_by names n false e passes = let no : Some (At NotGrouped n.offset) ≡ None = passes in cc

module _ (fields : List Field) (names : List NameAt) (b : Bound) (columns : b.groups ≡ columns_from [] (map (column_at fields) names)) where
  pub term_column : (t : Term) → term_grouped names t ≡ None → HasColumn b.groups (meaning_of fields t)
  term_column (term.Column n) passes = subst (λ groups. list_any (λ g. g == field_number fields n) groups ≡ true) (sym columns)
      (is_column fields n names [] (is_grouped_by names n (is_grouped names n) refl passes))
  term_column (term.Call c) passes = tt

  items_stand : (items : List QueryItem) → first_in (λ i. term_grouped names i.term) items ≡ None → HasAll b.aggs (map (λ i. term_at fields i.term) items)
      → map (at_place b) (items_of b.groups b.aggs (map (λ i. term_at fields i.term) items)) ≡ map (λ i. Some (meaning_of fields i.term)) items
  items_stand [] passes has = refl
  items_stand (i ∷ is) passes has =
      ap (λ m. m ∷ map (at_place b) (items_of b.groups b.aggs (map (λ i. term_at fields i.term) is)))
      (item_stands b (meaning_of fields i.term) (term_column i.term (first_none (term_grouped names i.term) _ passes)) has.0)
      ∙ ap (λ ms. Some (meaning_of fields i.term) ∷ ms) (items_stand is (rest_none (term_grouped names i.term) _ passes) has.1)

  keys_stand : (items : List QueryItem) (keys : List QueryKey) → first_in (λ k. term_grouped names (term_of items k.term)) keys ≡ None
      → HasAll b.aggs (map (λ k. k.term) (map (key_at fields items) keys))
      → map (λ k. at_place b k.item) (keys_of b.groups b.aggs (map (key_at fields items) keys)) ≡ map (λ k. Some (meaning_of fields (term_of items k.term))) keys
  keys_stand items [] passes has = refl
  keys_stand items (k ∷ ks) passes has =
      ap (λ m. m ∷ map (λ k. at_place b k.item) (keys_of b.groups b.aggs (map (key_at fields items) ks)))
      (item_stands b (meaning_of fields (term_of items k.term)) (term_column (term_of items k.term) (first_none (term_grouped names (term_of items k.term)) _ passes)) has.0)
      ∙ ap (λ ms. Some (meaning_of fields (term_of items k.term)) ∷ ms) (keys_stand items ks (rest_none (term_grouped names (term_of items k.term)) _ passes) has.1)

-- ---- the laws

as_many : (fields : List Field) (b : Bound) (items : List QueryItem) → length (map label_of items) ≡ length (items_of b.groups b.aggs (map (λ i. term_at fields i.term) items))
as_many fields b [] = refl
as_many fields b (i ∷ is) = ap suc (as_many fields b is)

pub answered : {A : Type 0} (f : Finding) (value b : A) → answer f value ≡ Ok b → (f ≡ None) × (value ≡ b)
answered None value b e = (refl, cc)
answered {A} (Some fault) value b e = let no : Err fault ≡ Ok b = e in absurd (cc)

module _ (table : Table) (any_table : Bool) (q : Query) (b : Bound) (is : bound table any_table q ≡ Ok b) where
  own : (query_finding table any_table q ≡ None) × (bound_of table.schema.fields q ≡ b)
  own = answered (query_finding table any_table q) (bound_of table.schema.fields q) b is

  pub passes : grouped_finding q ≡ None
  passes =
      let none = own.0 in
      first_none (grouped_finding q) _ (rest_none (aggregate_finding q) _ (rest_none (names_finding table.schema.fields q) _ (rest_none (table_finding table any_table q) _ none)))

  pub items_are : map (at_place b) b.items ≡ map (λ i. Some (meaning_of table.schema.fields i.term)) q.items
  items_are = subst (λ x. map (at_place x) x.items ≡ map (λ i. Some (meaning_of table.schema.fields i.term)) q.items) own.1
      (items_stand table.schema.fields q.groups (bound_of table.schema.fields q) refl q.items
      (first_none (first_in (λ i. term_grouped q.groups i.term) q.items) _ passes)
      (all_stay (aggs_before_keys (terms_of table.schema.fields q)) (terms_of table.schema.fields q).items (map (λ k. k.term) (terms_of table.schema.fields q).keys)
      (has_all [] (terms_of table.schema.fields q).items (terms_of table.schema.fields q).having)))

  pub keys_are : map (λ k. at_place b k.item) b.order ≡ map (λ k. Some (meaning_of table.schema.fields (term_of q.items k.term))) q.order
  keys_are = subst (λ x. map (λ k. at_place x k.item) x.order ≡ map (λ k. Some (meaning_of table.schema.fields (term_of q.items k.term))) q.order) own.1
      (keys_stand table.schema.fields q.groups (bound_of table.schema.fields q) refl q.items q.order
      (first_none (first_in (λ k. term_grouped q.groups (term_of q.items k.term)) q.order) _ (rest_none (having_finding (test_grouped q.groups) q.having) _ (rest_none (first_in (λ i. term_grouped q.groups i.term) q.items) _ passes)))
      (has_all (aggs_before_keys (terms_of table.schema.fields q)) (map (λ k. k.term) (terms_of table.schema.fields q).keys) []))

  pub labels_are : length b.labels ≡ length b.items
  labels_are = subst (λ x. length x.labels ≡ length x.items) own.1 (as_many table.schema.fields (bound_of table.schema.fields q) q.items)

pub items_hold : ItemsAreTerms
items_hold = λ table any_table q b is. items_are table any_table q b is

pub keys_hold : KeysAreTerms
keys_hold = λ table any_table q b is. keys_are table any_table q b is

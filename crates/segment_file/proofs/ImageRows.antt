-- The rows of an image in their order, their columns, and the ids of a column.
use Rattle.std.proofs.Common.{◌≡◌, ◌∙◌, ◌<◌, ◌≤◌, ℕ, zero, suc, Bool, true, false, ◌||◌, ◌&&◌, All, List, [], ◌∷◌, length, get_or, Option, Some, None, refl, sym, ap, subst, arith, IfSome}
use Rattle.std.specs.Prelude.{if◌then◌else◌, slice_get, pos}
use Rattle.std.proofs.lemmas.Bool.{false≢true}
use Rattle.std.proofs.lemmas.List.{length-map}
use Rattle.std.proofs.lemmas.List.Elements.{All-cons, All-get_or, All-head, All-map, All-nil, All-tail, All-weaker}
use Rattle.std.specs.Ordering.{match_ordering}
use Rattle.std.specs.declared.cmp.Ordering.TheVariants as order
use Rattle.values.specs.declared.value.Value.{Value}
use Rattle.values.specs.declared.value.Value.TheVariants.{Whole}
use Rattle.values.specs.Kinds.{fits}
use Rattle.values.specs.Order.{value_eq, value_order}
use Rattle.values.specs.Order.Laws.{value_eq-equiv}
use Rattle.values.specs.Tests.{is_member}
use Rattle.value_ids.specs.Dictionary.{Fits, IsDictionary, IsUnicode, distinct, put_in}
use Rattle.value_ids.proofs.DistinctLemmas.{distinct_members, stands_so}
use Rattle.table_schema.specs.declared.field.Field.{Field}
use Rattle.table_schema.specs.declared.table.Table.{Table}
use Rattle.table_schema.specs.ValidTable.{IsRow, is_row}
use Rattle.segment_file.specs.Image.{count_of, dictionary_of, ids_of, kind_at, kind_or, place_of, values_in}
use Rattle.segment_file.specs.Ordered.{ordered, placed, sorted_by, value_in}

-- ---- small steps

pub if_some : {X : Type 0} (o : Option X) (x : X) (P : X → Type 0) → o ≡ Some x → P x → IfSome o P
if_some o x P e p = subst (λ q. IfSome q P) (sym e) p

-- ---- the order

placed_all : (P : List Value → Type 0) (column : ℕ) (row : List Value) (rows : List (List Value)) → P row → All P rows → All P (placed column row rows)
placed_all P column row [] one all = All-cons P row [] one all
placed_all P column row (first ∷ rows) one all =
    let before : All P (row ∷ first ∷ rows) = All-cons P row (first ∷ rows) one all in
    let after : All P (first ∷ placed column row rows) = All-cons P first (placed column row rows) (All-head P first rows all) (placed_all P column row rows one (All-tail P first rows all)) in
    elim (value_order (value_in column row) (value_in column first)) as (λ o. All P (match_ordering o (row ∷ first ∷ rows) (row ∷ first ∷ rows) (first ∷ placed column row rows))) [
      | order.Less ↦ before
      | order.Equal ↦ before
      | order.Greater ↦ after
    ]

sorted_all : (P : List Value → Type 0) (column : ℕ) (rows : List (List Value)) → All P rows → All P (sorted_by column rows)
sorted_all P column [] all = all
sorted_all P column (row ∷ rows) all = placed_all P column row (sorted_by column rows) (All-head P row rows all) (sorted_all P column rows (All-tail P row rows all))

pub ordered_all : (P : List Value → Type 0) (sorted : Option ℕ) (rows : List (List Value)) → All P rows → All P (ordered sorted rows)
ordered_all P None rows all = all
ordered_all P (Some column) rows all = sorted_all P column rows all

placed_count : (column : ℕ) (row : List Value) (rows : List (List Value)) → length (placed column row rows) ≡ suc (length rows)
placed_count column row [] = refl
placed_count column row (first ∷ rows) =
    elim (value_order (value_in column row) (value_in column first)) as (λ o. length (match_ordering o (row ∷ first ∷ rows) (row ∷ first ∷ rows) (first ∷ placed column row rows)) ≡ suc (length (first ∷ rows))) [
      | order.Less ↦ refl
      | order.Equal ↦ refl
      | order.Greater ↦ ap suc (placed_count column row rows)
    ]

sorted_count : (column : ℕ) (rows : List (List Value)) → length (sorted_by column rows) ≡ length rows
sorted_count column [] = refl
sorted_count column (row ∷ rows) = placed_count column row (sorted_by column rows) ∙ ap suc (sorted_count column rows)

pub ordered_count : (sorted : Option ℕ) (rows : List (List Value)) → length (ordered sorted rows) ≡ length rows
ordered_count None rows = refl
ordered_count (Some column) rows = sorted_count column rows

-- ---- the values of a column

pub and_first : (a b : Bool) → (a && b) ≡ true → a ≡ true
and_first true b e = refl
and_first false b e = absurd (false≢true e)

pub and_second : (a b : Bool) → (a && b) ≡ true → b ≡ true
and_second true b e = e
and_second false b e = absurd (false≢true e)

-- a row has a value of the kind of each field
value_fits : (fields : List Field) (row : List Value) (column : ℕ) → is_row fields row ≡ true → column < length fields → (column < length row) × (fits (kind_or (slice_get fields column)) (get_or row column (Whole (pos 0))) ≡ true)
value_fits [] row column is lt = absurd (omega arith)
value_fits (f ∷ fs) [] column is lt = absurd (false≢true is)
value_fits (f ∷ fs) (v ∷ vs) zero is lt = (omega arith, and_first (fits f.kind v) (is_row fs vs) is)
value_fits (f ∷ fs) (v ∷ vs) (suc column) is lt =
    let rest = value_fits fs vs column (and_second (fits f.kind v) (is_row fs vs) is) (omega arith) in
    (omega (arith, rest.0), rest.1)

pub values_fit : (table : Table) (rows : List (List Value)) (column : ℕ) → column < length table.schema.fields → All (IsRow table.schema.fields) rows → All (Fits (kind_at table column)) (values_in column rows)
values_fit table rows column lt each =
    All-map (Fits (kind_at table column)) (value_in column) rows (All-weaker (IsRow table.schema.fields) (λ row. Fits (kind_at table column) (value_in column row)) (λ row is. (value_fits table.schema.fields row column is lt).1) rows each)

both_hold : {X : Type 0} (P Q R : X → Type 0) → ((x : X) → P x → Q x → R x) → (xs : List X) → All P xs → All Q xs → All R xs
both_hold P Q R f [] ps qs = All-nil R
both_hold P Q R f (x ∷ xs) ps qs =
    All-cons R x xs (f x (All-head P x xs ps) (All-head Q x xs qs)) (both_hold P Q R f xs (All-tail P x xs ps) (All-tail Q x xs qs))

values_unicode : (table : Table) (rows : List (List Value)) (column : ℕ) → column < length table.schema.fields → All (IsRow table.schema.fields) rows → All (λ row. All IsUnicode row) rows → All IsUnicode (values_in column rows)
values_unicode table rows column lt each unicode =
    All-map IsUnicode (value_in column) rows
    (both_hold (IsRow table.schema.fields) (λ row. All IsUnicode row) (λ row. IsUnicode (value_in column row))
    (λ row is all. All-get_or IsUnicode row column (Whole (pos 0)) (value_fits table.schema.fields row column is lt).0 all) rows each unicode)

-- ---- the distinct values

put_all : (P : Value → Type 0) (v : Value) (vs : List Value) → P v → All P vs → All P (put_in v vs)
put_all P v [] one all = All-cons P v [] one all
put_all P v (w ∷ ws) one all =
    elim (value_order v w) as (λ o. All P (match_ordering o (v ∷ w ∷ ws) (w ∷ ws) (w ∷ put_in v ws))) [
      | order.Less ↦ All-cons P v (w ∷ ws) one all
      | order.Equal ↦ all
      | order.Greater ↦ All-cons P w (put_in v ws) (All-head P w ws all) (put_all P v ws one (All-tail P w ws all))
    ]

distinct_all : (P : Value → Type 0) (vs : List Value) → All P vs → All P (distinct vs)
distinct_all P [] all = all
distinct_all P (v ∷ vs) all = put_all P v (distinct vs) (All-head P v vs all) (distinct_all P vs (All-tail P v vs all))

-- a value put in makes the list none longer than by one, and it has some
put_count : (v : Value) (vs : List Value) → (0 < length (put_in v vs)) × (length (put_in v vs) ≤ suc (length vs))
put_count v [] = (omega arith, omega arith)
put_count v (w ∷ ws) =
    let rest = put_count v ws in
    elim (value_order v w) as (λ o. (0 < length (match_ordering o (v ∷ w ∷ ws) (w ∷ ws) (w ∷ put_in v ws))) × (length (match_ordering o (v ∷ w ∷ ws) (w ∷ ws) (w ∷ put_in v ws)) ≤ suc (length (w ∷ ws)))) [
      | order.Less ↦ (omega arith, omega arith)
      | order.Equal ↦ (omega arith, omega arith)
      | order.Greater ↦ (omega arith, omega (arith, rest.1))
    ]

distinct_few : (vs : List Value) → length (distinct vs) ≤ length vs
distinct_few [] = omega arith
distinct_few (v ∷ vs) = omega (arith, (put_count v (distinct vs)).1, distinct_few vs)

distinct_some : (vs : List Value) → 0 < length vs → 0 < length (distinct vs)
distinct_some [] some = some
distinct_some (v ∷ vs) some = (put_count v (distinct vs)).0

pub few_values : (rows : List (List Value)) (column : ℕ) → count_of rows column ≤ length rows
few_values rows column = omega (arith, distinct_few (values_in column rows), length-map rows (value_in column))

pub some_values : (rows : List (List Value)) (column : ℕ) → 0 < length rows → 0 < count_of rows column
some_values rows column some = distinct_some (values_in column rows) (omega (arith, some, length-map rows (value_in column)))

pub column_dictionary : (table : Table) (rows : List (List Value)) (column : ℕ) → column < length table.schema.fields → length rows ≤ 1048576 → All (IsRow table.schema.fields) rows → All (λ row. All IsUnicode row) rows → IsDictionary (dictionary_of table rows column)
column_dictionary table rows column lt at_most each unicode =
    stands_so (kind_at table column) (values_in column rows) (distinct (values_in column rows)) (omega (arith, at_most, length-map rows (value_in column))) (values_fit table rows column lt each) refl
    (distinct_all IsUnicode (values_in column rows) (values_unicode table rows column lt each unicode))

-- ---- ids

pub not_true : (b : Bool) → (b ≡ true → ⊥) → b ≡ false
not_true true other = absurd (other refl)
not_true false other = refl

pub first_member : (v : Value) (vs : List Value) → is_member (v ∷ vs) v ≡ true
first_member v vs = ap (λ b. b || is_member vs v) (value_eq-equiv.refl v)

or_true : (b : Bool) → (b || true) ≡ true
or_true true = refl
or_true false = refl

pub later_member : (v w : Value) (vs : List Value) → is_member vs w ≡ true → is_member (v ∷ vs) w ≡ true
later_member v w vs is = ap (λ b. value_eq w v || b) is ∙ or_true (value_eq w v)

-- the number of a member is one of a member
place_found : (w : Value) (ws : List Value) (v : Value) (same : Bool) → (value_eq v w ≡ true → same ≡ true) → is_member (w ∷ ws) v ≡ true → (is_member ws v ≡ true → place_of ws v < length ws) → (if same then 0 else suc (place_of ws v)) < suc (length ws)
place_found w ws v true turn is rest = omega arith
place_found w ws v false turn is rest =
    let other : value_eq v w ≡ false = not_true (value_eq v w) (λ e. false≢true (turn e)) in
    let more : is_member ws v ≡ true = subst (λ b. (b || is_member ws v) ≡ true) other is in
    omega (arith, rest more)

place_below : (vs : List Value) (v : Value) → is_member vs v ≡ true → place_of vs v < length vs
place_below [] v is = absurd (false≢true is)
place_below (w ∷ ws) v is = place_found w ws v (value_eq w v) (λ e. sym (value_eq-equiv.symm v w) ∙ e) is (place_below ws v)

pub members_all : (P : Value → Type 0) (vs all : List Value) → ((v : Value) → is_member vs v ≡ true → is_member all v ≡ true) → ((v : Value) → is_member all v ≡ true → P v) → All P vs
members_all P [] all those holds = All-nil P
members_all P (v ∷ vs) all those holds =
    All-cons P v vs (holds v (those v (first_member v vs))) (members_all P vs all (λ w is. those w (later_member v w vs is)) holds)

pub ids_below : (rows : List (List Value)) (column : ℕ) → All (λ id. id < count_of rows column) (ids_of rows column)
ids_below rows column =
    let vs : List Value = values_in column rows in
    All-map (λ id. id < count_of rows column) (place_of (distinct vs)) vs
    (members_all (λ v. place_of (distinct vs) v < length (distinct vs)) vs vs (λ v is. is) (λ v is. place_below (distinct vs) v (distinct_members v vs ∙ is)))

pub ids_count : (rows : List (List Value)) (column : ℕ) → length (ids_of rows column) ≡ length rows
ids_count rows column = length-map (values_in column rows) (place_of (distinct (values_in column rows))) ∙ length-map rows (value_in column)

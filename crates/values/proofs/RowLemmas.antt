-- One more row at the ends of columns.
use Rattle.std.proofs.Common.{◌≡◌, ◌∙◌, ◌<◌, ◌+◌, ◌++◌, ◌∷◌, [], ℕ, suc, zero, List, length, map, get_or, set, replicate, take, refl, ap, ap₂, sym, arith, length-append, Some, slice_get, pos}
use Rattle.std.proofs.lemmas.List.{replicate-append-replicate, length-replicate, map-append, take_more}
use Rattle.std.proofs.lemmas.Option.{get_or_from_slice_get}
use Rattle.std.proofs.lemmas.List.Elements.{All-head, All-tail, All-cons, All-nil}
use Rattle.std.specs.List.{All}
use Rattle.values.specs.declared.value.Value.{Value}
use Rattle.values.specs.Columns.{Listed, Counts, pushed, fronted, row_of, rows_in_columns, row_pushed}
use Rattle.values.specs.declared.value.Value.TheVariants.{Whole}

length-fronted : (values : List Value) (rows : List (List Value)) → length rows ≡ length values → length (fronted values rows) ≡ length values
length-fronted [] rows e = refl
length-fronted (v ∷ vs) [] e = e
length-fronted (v ∷ vs) (r ∷ rs) e = ap suc (length-fronted vs rs (omega (arith, e)))

pub length-rows : (count : ℕ) (columns : List Listed) → All (Counts count) columns → length (rows_in_columns count columns) ≡ count
length-rows count [] all = length-replicate count []
length-rows count (c ∷ cs) all =
    let head : length c.values ≡ count = All-head (Counts count) c cs all in
    length-fronted c.values (rows_in_columns count cs) (length-rows count cs (All-tail (Counts count) c cs all) ∙ sym head) ∙ head

fronted-push : (values : List Value) (rows : List (List Value)) (value : Value) (row : List Value) → length rows ≡ length values
    → fronted (values ++ value ∷ []) (rows ++ row ∷ []) ≡ fronted values rows ++ (value ∷ row) ∷ []
fronted-push [] [] value row e = refl
fronted-push [] (r ∷ rs) value row e = absurd (omega (arith, e))
fronted-push (v ∷ vs) [] value row e = absurd (omega (arith, e))
fronted-push (v ∷ vs) (r ∷ rs) value row e = ap (λ rows. (v ∷ r) ∷ rows) (fronted-push vs rs value row (omega (arith, e)))

-- columns with a row at their ends are their rows with that row at the end
pub rows-push : (count : ℕ) (columns : List Listed) (row : List Value) → length row ≡ length columns → All (Counts count) columns
    → rows_in_columns (count + 1) (row_pushed columns row) ≡ rows_in_columns count columns ++ row ∷ []
rows-push count [] [] e all = sym (replicate-append-replicate count 1 [])
rows-push count [] (v ∷ vs) e all = absurd (omega (arith, e))
rows-push count (c ∷ cs) [] e all = absurd (omega (arith, e))
rows-push count (c ∷ cs) (v ∷ vs) e all =
    let rest = All-tail (Counts count) c cs all in
    ap (fronted (c.values ++ v ∷ [])) (rows-push count cs vs (omega (arith, e)) rest)
    ∙ fronted-push c.values (rows_in_columns count cs) v vs (length-rows count cs rest ∙ sym (All-head (Counts count) c cs all))

-- and each is longer by one
pub counts-push : (count : ℕ) (columns : List Listed) (row : List Value) → length row ≡ length columns → All (Counts count) columns → All (Counts (count + 1)) (row_pushed columns row)
counts-push count [] row e all = All-nil (Counts (count + 1))
counts-push count (c ∷ cs) [] e all = absurd (omega (arith, e))
counts-push count (c ∷ cs) (v ∷ vs) e all =
    let head : length c.values ≡ count = All-head (Counts count) c cs all in
    All-cons (Counts (count + 1)) (pushed c v) (row_pushed cs vs) (length-append c.values (v ∷ []) ∙ ap (λ n. n + 1) head) (counts-push count cs vs (omega (arith, e)) (All-tail (Counts count) c cs all))

pub length-push : (columns : List Listed) (row : List Value) → length (row_pushed columns row) ≡ length columns
length-push [] row = refl
length-push (c ∷ cs) [] = refl
length-push (c ∷ cs) (v ∷ vs) = ap suc (length-push cs vs)

-- the sorts of the columns stay
pub sorts-push : (columns : List Listed) (row : List Value) → map (λ c. c.are_texts) (row_pushed columns row) ≡ map (λ c. c.are_texts) columns
sorts-push [] row = refl
sorts-push (c ∷ cs) [] = refl
sorts-push (c ∷ cs) (v ∷ vs) = ap (λ rest. c.are_texts ∷ rest) (sorts-push cs vs)

pub push-nil : (columns : List Listed) → row_pushed columns [] ≡ columns
push-nil [] = refl
push-nil (c ∷ cs) = refl

-- one more value goes to the next column
pub push-one : (columns : List Listed) (row : List Value) (value : Value) (d : Listed) → length row < length columns
    → set (row_pushed columns row) (length row) (pushed (get_or (row_pushed columns row) (length row) d) value) ≡ row_pushed columns (row ++ value ∷ [])
push-one [] row value d lt = absurd (omega (arith, lt))
push-one (c ∷ cs) [] value d lt = ap (λ rest. pushed c value ∷ rest) (sym (push-nil cs))
push-one (c ∷ cs) (v ∷ vs) value d lt = ap (λ rest. pushed c v ∷ rest) (push-one cs vs value d (omega (arith, lt)))

fronted-at : (values : List Value) (rows : List (List Value)) (at : ℕ) (value : Value) (row : List Value) → slice_get values at ≡ Some value → slice_get rows at ≡ Some row
    → slice_get (fronted values rows) at ≡ Some (value ∷ row)
fronted-at [] rows at value row v r = absurd cc
fronted-at (x ∷ xs) [] at value row v r = absurd cc
fronted-at (x ∷ xs) (y ∷ ys) zero value row v r = cc
fronted-at (x ∷ xs) (y ∷ ys) (suc at) value row v r = fronted-at xs ys at value row v r

replicate-at : (count at : ℕ) → at < count → slice_get (replicate {A = List Value} count []) at ≡ Some []
replicate-at zero at lt = absurd (omega (arith, lt))
replicate-at (suc n) zero lt = refl
replicate-at (suc n) (suc at) lt = replicate-at n at (omega (arith, lt))

value-at : (values : List Value) (at : ℕ) (d : Value) → at < length values → slice_get values at ≡ Some (get_or values at d)
value-at [] at d lt = absurd (omega (arith, lt))
value-at (v ∷ vs) zero d lt = refl
value-at (v ∷ vs) (suc at) d lt = value-at vs at d (omega (arith, lt))

pub row-at : (count at : ℕ) (columns : List Listed) → at < count → All (Counts count) columns → slice_get (rows_in_columns count columns) at ≡ Some (row_of columns at)
row-at count at [] lt all = replicate-at count at lt
row-at count at (c ∷ cs) lt all =
    let head : length c.values ≡ count = All-head (Counts count) c cs all in
    fronted-at c.values (rows_in_columns count cs) at (get_or c.values at (Whole (pos 0))) (row_of cs at) (value-at c.values at (Whole (pos 0)) (omega (arith, head, lt))) (row-at count at cs lt (All-tail (Counts count) c cs all))

pub row-more : (columns : List Listed) (i at : ℕ) (row : List Value) (column : Listed) (value : Value) → i < length columns → row ≡ row_of (take i columns) at → column ≡ get_or columns i column → slice_get column.values at ≡ Some value
    → row ++ value ∷ [] ≡ row_of (take (i + 1) columns) at
row-more columns i at row column value lt so_far is got =
    let one : get_or column.values at (Whole (pos 0)) ≡ value = get_or_from_slice_get column.values at value (Whole (pos 0)) got in
    let more : take (i + 1) columns ≡ take i columns ++ column ∷ [] = take_more columns i column lt ∙ ap (λ c. take i columns ++ c ∷ []) (sym is) in
    ap₂ ◌++◌ so_far (ap (λ v. v ∷ []) (sym one)) ∙ sym (map-append (λ c. get_or c.values at (Whole (pos 0))) (take i columns) (column ∷ [])) ∙ ap (λ cs. row_of cs at) (sym more)

at-some : (rows : List (List Value)) (at : ℕ) (row : List Value) → slice_get rows at ≡ Some row → at < length rows
at-some [] at row is = absurd cc
at-some (r ∷ rs) zero row is = omega arith
at-some (r ∷ rs) (suc at) row is = omega (arith, at-some rs at row is)

-- one more row of a list
pub rows-more : (rows done : List (List Value)) (at : ℕ) (row : List Value) → done ≡ take at rows → slice_get rows at ≡ Some row → done ++ row ∷ [] ≡ take (at + 1) rows
rows-more rows done at row so_far got =
    ap (λ xs. xs ++ row ∷ []) so_far ∙ sym (take_more rows at [] (at-some rows at row got) ∙ ap (λ r. take at rows ++ r ∷ []) (get_or_from_slice_get rows at row [] got))

-- Columns of rows that are put in their order.
use Rattle.std.proofs.Common.{◌≡◌, ◌∙◌, ◌<◌, ◌≤◌, ◌+◌, ◌==◌, cond, Bool, true, ℕ, zero, suc, List, [], ◌∷◌, ◌++◌, length, map, get_or, take, Option, Some, None, refl, sym, ap, subst, arith, pos, Vec, Global, MatchBool}
use Rattle.std.proofs.lemmas.Bool.{eqb-true}
use Rattle.std.proofs.lemmas.List.{get_or-map, length-map, map-append, take_more}
use Rattle.std.proofs.lemmas.List.Elements.{All-append, All-cons, All-head, All-nil, All-tail}
use Rattle.std.proofs.lemmas.Simd.{map-map}
use Rattle.std.specs.List.{All}
use Rattle.std.specs.List.Sorted.{IsNonDecreasing}
use Rattle.values.specs.declared.value.Value.{Value}
use Rattle.values.specs.declared.value.Value.TheVariants.{Whole}
use Rattle.value_ids.specs.Coding.{AreBelow, Codes}
use Rattle.value_ids.specs.Dictionary.{Ascends, distinct}
use Rattle.value_ids.proofs.DistinctLemmas.{distinct_ascends}
use Rattle.bit_column.specs.Postings.{entries, places_from, places_of}
use Rattle.inverted_lists.proofs.CountLemmas.{places_cons}
use Rattle.table_schema.specs.NeedIds.{is_the_number}
use Rattle.segment_file.specs.Image.{ids_of, place_of, values_in}
use Rattle.segment_file.specs.Ordered.{ordered, sorted_by, value_in}
use Rattle.segment_build.specs.declared.coding.RowOrder.{RowOrder}
use Rattle.segment_build.specs.declared.coding.RowOrder.TheVariants.{AsGiven, ByPlaces}
use Rattle.segment_build.specs.Arranging.{Orders, OrdersBy, arranged, places_in}
use Rattle.segment_build.specs.Sections.{ids_in}
use Rattle.segment_build.proofs.ColumnLemmas.{ids_are}
use Rattle.segment_build.proofs.Stable.{gathered_up, picked_one, same_distinct, stable, stable_given}

-- ---- places

places_below : (place key limit : ℕ) (ids : List ℕ) → place + length ids ≤ limit → AreBelow limit (places_from place key ids)
places_below place key limit [] le = All-nil (λ p. p < limit)
places_below place key limit (id ∷ ids) le =
    let P : ℕ → Type 0 = λ p. p < limit in
    let own : List ℕ = cond (id == key) (place ∷ []) [] in
    let rest : List ℕ = places_from (place + 1) key ids in
    let lt : place < limit = omega (arith, le) in
    subst (All P) (sym (places_cons place key id ids))
    (All-append P own rest (picked_one P (id == key) place (λ e. lt)) (places_below (place + 1) key limit ids (omega (arith, le))))

entries_below : (count : ℕ) (ids : List ℕ) → AreBelow (length ids) (entries count ids)
entries_below zero ids = All-nil (λ p. p < length ids)
entries_below (suc key) ids = All-append (λ p. p < length ids) (entries key ids) (places_of key ids) (entries_below key ids) (places_below 0 key (length ids) ids (omega arith))

-- ---- a list at places

other_default : {A : Type 0} (xs : List A) (p : ℕ) (d e : A) → p < length xs → get_or xs p d ≡ get_or xs p e
other_default [] p d e lt = absurd (omega (arith, lt))
other_default (x ∷ xs) zero d e lt = refl
other_default (x ∷ xs) (suc p) d e lt = other_default xs p d e (omega (arith, lt))

-- what the list has at one more place
pub gathered_more : {A : Type 0} (places : List ℕ) (xs : List A) (i : ℕ) (x d : A) (old new : List A) → AreBelow (length xs) places → i < length places → x ≡ get_or xs (get_or places i 0) x → old ≡ map (λ p. get_or xs p d) (take i places) → new ≡ old ++ x ∷ []
    → new ≡ map (λ p. get_or xs p d) (take (i + 1) places)
gathered_more {A} places xs i x d old new below lt at so_far more =
    let f : ℕ → A = λ p. get_or xs p d in
    let one : x ≡ f (get_or places i 0) = at ∙ other_default xs (get_or places i 0) x d (below i 0 lt) in
    more
    ∙ (λ j. so_far j ++ one j ∷ [])
    ∙ sym (map-append f (take i places) (get_or places i 0 ∷ []))
    ∙ ap (map f) (sym (take_more places i 0 lt))

-- ---- what is made of each item is arranged as the items are

gathered_map : {A B : Type 0} (f : A → B) (d : A) (e : B) (places : List ℕ) (xs : List A) → AreBelow (length xs) places → map f (map (λ p. get_or xs p d) places) ≡ map (λ p. get_or (map f xs) p e) places
gathered_map f d e [] xs below = refl
gathered_map f d e (place ∷ places) xs below =
    let P : ℕ → Type 0 = λ p. p < length xs in
    (λ i. sym (get_or-map f xs place d e (All-head P place places below)) i ∷ gathered_map f d e places xs (All-tail P place places below) i)

pub arranged_map : {A B : Type 0} (f : A → B) (d : A) (e : B) (o : RowOrder) (xs : List A) → AreBelow (length xs) (places_in o) → map f (arranged d o xs) ≡ arranged e o (map f xs)
arranged_map f d e AsGiven xs below = refl
arranged_map f d e (ByPlaces places) xs below = gathered_map f d e places.items xs below

-- the ids of rows in their order are those of the rows as they came, in that order
ids_moved : (sorted : Option ℕ) (rows : List (List Value)) (o : RowOrder) (column : ℕ) → AreBelow (length rows) (places_in o) → ordered sorted rows ≡ arranged [] o rows
    → ids_of (ordered sorted rows) column ≡ arranged 0 o (ids_in (values_in column rows))
ids_moved sorted rows o column within are =
    let d : List Value = distinct (values_in column rows) in
    let value : List Value → Value = value_in column in
    let id : List Value → ℕ = λ row. place_of d (value_in column row) in
    ap (λ vs. map (place_of vs) (values_in column (ordered sorted rows))) (same_distinct column sorted rows)
    ∙ map-map (place_of d) value (ordered sorted rows)
    ∙ ap (map id) are
    ∙ arranged_map id [] 0 o rows within
    ∙ ap (arranged 0 o) (sym (map-map (place_of d) value rows))

pub ids_arranged : (sorted : Option ℕ) (rows : List (List Value)) (o : RowOrder) (column : ℕ) → Orders sorted rows o → ids_of (ordered sorted rows) column ≡ arranged 0 o (ids_in (values_in column rows))
ids_arranged sorted rows o column orders = ids_moved sorted rows o column orders.within orders.are

-- ---- the order

pub unordered : (rows : List (List Value)) → Orders None rows AsGiven
unordered rows = record {
  within = All-nil (λ p. p < length rows);
  are = refl;
  ascend = All-nil (λ column. IsNonDecreasing (ids_of (ordered None rows) column));
}

-- ids that ascend leave the rows as they came
pub order_given : (values d : List Value) (ids : List ℕ) → d ≡ distinct values → Codes d ids values → IsNonDecreasing ids → OrdersBy values AsGiven
order_given values d ids is codes rise column rows same =
    let up : Ascends d = subst Ascends (sym is) (distinct_ascends values) in
    let coded : Codes d ids (values_in column rows) = subst (Codes d ids) (sym same) codes in
    let are : sorted_by column rows ≡ rows = stable_given d column ids rows up coded rise in
    let own : ids ≡ ids_in (values_in column rows) = ids_are d (values_in column rows) ids (is ∙ ap distinct (sym same)) coded in
    let P : ℕ → Type 0 = λ c. IsNonDecreasing (ids_of (sorted_by column rows) c) in
    record {
      within = All-nil (λ p. p < length rows);
      are = are;
      ascend = All-cons P column [] (subst IsNonDecreasing (own ∙ ap (λ rs. ids_of rs column) (sym are)) rise) (All-nil P);
    }

-- ids that the test found in order ascend
pub tested_up : (X : Type 0) (ids these : List ℕ) (r : Bool) → these ≡ ids → r ≡ true → MatchBool r (IsNonDecreasing these) X → IsNonDecreasing ids
tested_up X ids these r same is h = subst IsNonDecreasing same (subst (λ b. MatchBool b (IsNonDecreasing these) X) is h)

coded_count : (d values : List Value) (ids : List ℕ) → Codes d ids values → length ids ≡ length values
coded_count d values ids codes = sym (length-map ids (λ id. get_or d id (Whole (pos 0)))) ∙ ap length codes.each

-- the places of the ids, id by id, put the rows in order
pub order_places : (values d : List Value) (ids : List ℕ) (places : Vec ℕ Global) → d ≡ distinct values → Codes d ids values → places.items ≡ entries (length d) ids → OrdersBy values (ByPlaces places)
order_places values d ids places is codes found column rows same =
    let o : RowOrder = ByPlaces places in
    let up : Ascends d = subst Ascends (sym is) (distinct_ascends values) in
    let coded : Codes d ids (values_in column rows) = subst (Codes d ids) (sym same) codes in
    let are : sorted_by column rows ≡ arranged [] o rows = stable d column ids rows up coded ∙ ap (map (λ p. get_or rows p [])) (sym found) in
    let own : ids ≡ ids_in (values_in column rows) = ids_are d (values_in column rows) ids (is ∙ ap distinct (sym same)) coded in
    let count : length ids ≡ length rows = coded_count d (values_in column rows) ids coded ∙ length-map rows (value_in column) in
    let within : AreBelow (length rows) places.items = subst (AreBelow (length rows)) (sym found) (subst (λ n. AreBelow n (entries (length d) ids)) count (entries_below (length d) ids)) in
    let P : ℕ → Type 0 = λ c. IsNonDecreasing (ids_of (sorted_by column rows) c) in
    let moved : ids_of (sorted_by column rows) column ≡ map (λ p. get_or ids p 0) (entries (length d) ids) =
    ids_moved (Some column) rows o column within are ∙ ap (arranged 0 o) (sym own) ∙ ap (map (λ p. get_or ids p 0)) found in
    record {
      within = within;
      are = are;
      ascend = All-cons P column [] (subst IsNonDecreasing (sym moved) (gathered_up (length d) ids)) (All-nil P);
    }

-- the ids of a column in that order
pub coded_given : (o : RowOrder) (values d : List Value) (ids : List ℕ) → d ≡ distinct values → Codes d ids values → o ≡ AsGiven → ids ≡ arranged 0 o (ids_in values)
coded_given o values d ids is codes given = ids_are d values ids is codes ∙ ap (λ x. arranged 0 x (ids_in values)) (sym given)

pub coded_places : (o : RowOrder) (places : Vec ℕ Global) (values d : List Value) (ids these those made : List ℕ) → d ≡ distinct values → Codes d ids values → o ≡ ByPlaces places → these ≡ places.items → those ≡ ids
    → made ≡ map (λ p. get_or those p 0) these → made ≡ arranged 0 o (ids_in values)
coded_places o places values d ids these those made is codes by p i gathers =
    gathers ∙ (λ j. map (λ q. get_or (i j) q 0) (p j)) ∙ ap (λ xs. map (λ q. get_or xs q 0) places.items) (ids_are d values ids is codes) ∙ ap (λ x. arranged 0 x (ids_in values)) (sym by)

-- the ids of the sorted column ascend
pub sorted_up : (sorted : Option ℕ) (rows : List (List Value)) (o : RowOrder) (column : ℕ) → Orders sorted rows o → is_the_number column sorted ≡ true → IsNonDecreasing (ids_of (ordered sorted rows) column)
sorted_up None rows o column orders is = absurd cc
sorted_up (Some m) rows o column orders is =
    let P : ℕ → Type 0 = λ c. IsNonDecreasing (ids_of (sorted_by m rows) c) in
    subst P (eqb-true m column is) (All-head P m [] orders.ascend)

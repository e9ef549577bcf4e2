-- The values of a column by its ids, and columns that are read one after the other.
use Rattle.std.proofs.Common.{◌≡◌, ◌∙◌, ◌<◌, ◌≤◌, ◌+◌, ◌-◌, ℕ, zero, suc, All, List, [], ◌∷◌, ◌++◌, length, map, take, get_or, slice_get, Option, Some, None, IfSome, refl, sym, ap, subst, arith, inl, inr, ◌⊎◌, ltb, true, false}
use Rattle.std.specs.Prelude.{pos, nat_lt}
use Rattle.std.proofs.Math.ListN.{get_or-append}
use Rattle.std.proofs.lemmas.Bool.{ltb-false, ltb-true}
use Rattle.std.proofs.lemmas.List.{get_or_at, length-map, length_push, map-append, take_more}
use Rattle.std.proofs.lemmas.List.Elements.{All-cons, All-get_or, All-nil}
use Rattle.std.proofs.lemmas.Option.{get_or_from_slice_get, same_Some, slice_get_within}
use Rattle.outside.specs.Files.{Files}
use Rattle.outside.specs.declared.place.Place.{Place}
use Rattle.data_types.specs.declared.kind.FieldKind.{FieldKind}
use Rattle.values.specs.declared.value.Value.{Value}
use Rattle.values.specs.declared.value.Value.TheVariants.{Text, Whole}
use Rattle.values.specs.Columns.{Counts, Listed, is_text}
use Rattle.values.specs.Kinds.{is_of}
use Rattle.value_ids.specs.Coding.{AreBelow, values_at}
use Rattle.value_ids.specs.Dictionary.{Distinct, Fits}
use Rattle.bit_column.specs.Column.{ids_between, width_of}
use Rattle.bit_column.specs.Sections.{Readable, section}
use Rattle.segment_file.specs.declared.part.Part.TheVariants as parts
use Rattle.segment_head.specs.Heads.{Seen, bytes_in, place_in}
use Rattle.segment_build.proofs.RowLemmas.{kind_suits}
use Rattle.segment_check.specs.Reading.{AreColumns, HasIdsOf, IsColumn, no_column}

-- what holds of each value holds of that of an id
pub at_id : (P : Value → Type 0) (values : List Value) (id : ℕ) (v : Value) → All P values → slice_get values id ≡ Some v → P v
at_id P values id v all at = subst P (get_or_from_slice_get values id v (Whole (pos 0)) at) (All-get_or P values id (Whole (pos 0)) (slice_get_within values id v at) all)

-- a value of a dictionary is of the sort of its column
pub value_suits : (kind : FieldKind) (d : Distinct) (texts : _) (id : ℕ) (v : Value) → d.kind ≡ kind → All (Fits d.kind) d.values → slice_get d.values id ≡ Some v → texts ≡ is_of kind (Text []) → texts ≡ is_text v
value_suits kind d texts id v same fit at sort = sort ∙ kind_suits kind v (at_id (Fits kind) d.values id v (subst (λ k. All (Fits k) d.values) same fit) at)

-- one more value
pub values_more : (values old : List Value) (ids : List ℕ) (at id d : ℕ) (v : Value) → at < length ids → id ≡ get_or ids at id → slice_get values id ≡ Some v → old ≡ values_at values (take at ids) → old ++ v ∷ [] ≡ values_at values (take (at + 1) ids)
values_more values old ids at id d v lt is got so_far =
    let one : get_or values id (Whole (pos 0)) ≡ v = get_or_from_slice_get values id v (Whole (pos 0)) got in
    let more : take (at + 1) ids ≡ take at ids ++ id ∷ [] = take_more ids at id lt ∙ ap (λ i. take at ids ++ i ∷ []) (sym is) in
    ap (λ l. l ++ v ∷ []) so_far ∙ ap (λ w. values_at values (take at ids) ++ w ∷ []) (sym one)
    ∙ sym (map-append (λ i. get_or values i (Whole (pos 0))) (take at ids) (id ∷ [])) ∙ ap (values_at values) (sym more)

-- a column of a file
pub column_made : (held : Option Files) (head : Seen) (column : ℕ) (place : Place) (own d : Distinct) (width count : ℕ) (ids : List ℕ) (values : List Value) → Some place ≡ place_in head.sections (parts.Forward column) → slice_get head.dictionaries column ≡ Some (Some own)
    → slice_get head.dictionaries column ≡ Some (Some d) → count ≡ length own.values → width ≡ width_of count → length ids ≡ head.rows - 0 → AreBelow count ids
    → IfSome held (λ files. Readable width count 0 head.rows (section files place) × (ids ≡ ids_between width 0 head.rows (section files place))) → values ≡ values_at own.values ids → IsColumn held head column d values
column_made held head column place own d width count ids values at loaded asked counted wide many below told are =
    let same : own ≡ d = same_Some own d (same_Some (Some own) (Some d) (sym loaded ∙ asked)) in
    subst (λ e. IsColumn held head column e values) same
    (record {
      ids = ids;
      count = omega (arith, many);
      below = subst (λ n. AreBelow n ids) counted below;
      values_are = are;
      told =
          subst (λ n. IfSome held (λ files. Readable (width_of n) n 0 head.rows (bytes_in files (place_in head.sections (parts.Forward column))) × (ids ≡ ids_between (width_of n) 0 head.rows (bytes_in files (place_in head.sections (parts.Forward column)))))) counted
          (subst (λ o. IfSome held (λ files. Readable (width_of count) count 0 head.rows (bytes_in files o) × (ids ≡ ids_between (width_of count) 0 head.rows (bytes_in files o)))) at
          (subst (λ w. IfSome held (λ files. Readable w count 0 head.rows (section files place) × (ids ≡ ids_between w 0 head.rows (section files place)))) wide told));
    })

-- a forward index without them
pub column_bad : (held : Option Files) (head : Seen) (column : ℕ) (place : Place) (own d : Distinct) (width count : ℕ) → Some place ≡ place_in head.sections (parts.Forward column) → slice_get head.dictionaries column ≡ Some (Some own)
    → slice_get head.dictionaries column ≡ Some (Some d) → count ≡ length own.values → width ≡ width_of count → IfSome held (λ files. ¬ Readable width count 0 head.rows (section files place))
    → IfSome held (λ files. ¬ HasIdsOf files head column (length d.values))
column_bad held head column place own d width count at loaded asked counted wide bad =
    let same : own ≡ d = same_Some own d (same_Some (Some own) (Some d) (sym loaded ∙ asked)) in
    subst (λ (e : Distinct). IfSome held (λ files. ¬ HasIdsOf files head column (length e.values))) same
    (subst (λ n. IfSome held (λ files. ¬ Readable (width_of n) n 0 head.rows (bytes_in files (place_in head.sections (parts.Forward column))))) counted
    (subst (λ o. IfSome held (λ files. ¬ Readable (width_of count) count 0 head.rows (bytes_in files o))) at
    (subst (λ w. IfSome held (λ files. ¬ Readable w count 0 head.rows (section files place))) wide bad)))

-- one more column
pub columns_more : (held : Option Files) (head : Seen) (at : ℕ) (columns : List Listed) (column : Listed) → AreColumns held head at columns → ((d : Distinct) → slice_get head.dictionaries at ≡ Some (Some d) → IsColumn held head at d column.values)
    → AreColumns held head (at + 1) (columns ++ column ∷ [])
columns_more held head at columns column are one = record {
  many = length_push columns column ∙ ap (λ n. n + 1) are.many;
  each = λ k d lt loaded.
      elim (nat_lt k at) as (λ b. nat_lt k at ≡ b → IsColumn held head k d (get_or (columns ++ column ∷ []) k no_column).values) [
        | true ↦ λ t.
            let before : k < at = ltb-true k at t in
            let within : k < length columns = omega (arith, before, are.many) in
            subst (λ (l : Listed). IsColumn held head k d l.values) (sym (get_or-append columns (column ∷ []) no_column k within)) (are.each k d before loaded)
        | false ↦ λ t.
            let last : at ≤ k = ltb-false k at t in
            let here : k ≡ at = omega (arith, last, lt) in
            let end : length columns ≡ k = omega (arith, are.many, here) in
            subst (λ (l : Listed). IsColumn held head k d l.values) (sym (get_or_at columns column [] no_column k end))
            (subst (λ j. IsColumn held head j d column.values) (sym here) (one d (subst (λ j. slice_get head.dictionaries j ≡ Some (Some d)) here loaded)))
      ] refl;
}

-- the columns so far have their ids where files are told
pub columns_have : (held : Option Files) (head : Seen) (at : ℕ) (columns : List Listed) → AreColumns held head at columns
    → IfSome held (λ files. (other : ℕ) (d : Distinct) → other < at → slice_get head.dictionaries other ≡ Some (Some d) → HasIdsOf files head other (length d.values))
columns_have None head at columns are = tt
columns_have (Some files) head at columns are = λ other d lt loaded. (are.each other d lt loaded).told.0

-- before the first
pub columns_none : (held : Option Files) (head : Seen) → AreColumns held head 0 []
columns_none held head = record { many = refl; each = λ k d lt loaded. absurd (omega (arith, lt)) }

-- each column has so many values as there are rows
pub counts_each : (held : Option Files) (head : Seen) (n rows : ℕ) (columns : List Listed) → rows ≡ head.rows → ((k : ℕ) → k < n → (d : Distinct) × (slice_get head.dictionaries k ≡ Some (Some d))) → AreColumns held head n columns → All (Counts rows) columns
counts_each held head n rows columns same loaded are = All-from columns
    (λ k lt.
    let within : k < n = omega (arith, lt, are.many) in
    let own = loaded k within in
    let is = are.each k own.0 within own.1 in
    ap length is.values_are ∙ length-map is.ids (λ id. get_or own.0.values id (Whole (pos 0))) ∙ is.count ∙ sym same)
  where
    All-from : (ls : List Listed) → ((k : ℕ) → k < length ls → length (get_or ls k no_column).values ≡ rows) → All (Counts rows) ls
    All-from [] each = All-nil (Counts rows)
    All-from (l ∷ ls) each = All-cons (Counts rows) l ls (each 0 (omega arith)) (All-from ls (λ k lt. each (suc k) (omega (arith, lt))))

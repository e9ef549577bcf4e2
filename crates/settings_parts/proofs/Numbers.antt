-- The numbers of the columns that an array names, place by place.
use Rattle.std.proofs.Common.{◌≡◌, ℕ, ◌+◌, ◌<◌, List, [], ◌∷◌, ◌++◌, length, get_or, take, drop, map, Option, Some, None, refl, sym, ap, ◌∙◌}
use Rattle.std.specs.List.{cons_option}
use Rattle.serde_json.specs.Data.{Data}
use Rattle.serde_json.specs.View.{view}
use Rattle.serde_json.specs.declared.value.Value.{Value}
use Rattle.table_schema.specs.declared.field.Field.{Field}
use Rattle.table_schema.specs.Names.{Text}
use Rattle.json_keys.specs.Faults.{at_place}
use Rattle.table_schema.specs.Columns.{number_of}
use Rattle.json_keys.specs.NamedColumns.{numbers_of, text_of}
use Rattle.settings_parts.specs.Trees.{split_place, split_places, skip_place, skip_places}
use Rattle.json_keys.proofs.Places.{done_more, places_done, passed_here}
use Rattle.table_schema.specs.Firsts.{by_place}

cons_option-append : (o : Option ℕ) (ns ms : List ℕ) → cons_option o (ns ++ ms) ≡ cons_option o ns ++ ms
cons_option-append None ns ms = refl
cons_option-append (Some n) ns ms = refl

pub numbers_of-append : (fields : List Field) (ds : List Data) (d : Data) → numbers_of fields (ds ++ d ∷ []) ≡ numbers_of fields ds ++ numbers_of fields (d ∷ [])
numbers_of-append fields [] d = refl
numbers_of-append fields (e ∷ ds) d =
    ap (cons_option (number_of fields (text_of e))) (numbers_of-append fields ds d)
    ∙ cons_option-append (number_of fields (text_of e)) (numbers_of fields ds) (numbers_of fields (d ∷ []))

module _ (fields : List Field) (path : Text) (xs : List Value) (i : ℕ) (x : Value) (within : i < length xs) (is : x ≡ get_or xs i x) where
  pub numbers_more : (n : ℕ) → number_of fields (text_of (view x)) ≡ Some n → numbers_of fields (map view (take i xs)) ++ n ∷ [] ≡ numbers_of fields (map view (take (i + 1) xs))
  numbers_more n number =
      ap (λ o. numbers_of fields (map view (take i xs)) ++ cons_option o []) (sym number)
      ∙ sym (numbers_of-append fields (map view (take i xs)) (view x))
      ∙ sym (ap (numbers_of fields) (done_more view xs i x within is))

  pub split_more : (split : List ℕ) → split ≡ numbers_of fields (map view (take i xs))
      → by_place (λ before d. split_place fields (at_place path (length before)) (numbers_of fields before) d) (map view (take i xs)) (map view (drop i xs)) ≡ split_places fields path (map view xs)
      → split_place fields (at_place path i) split (view x) ≡ None
      → by_place (λ before d. split_place fields (at_place path (length before)) (numbers_of fields before) d) (map view (take (i + 1) xs)) (map view (drop (i + 1) xs)) ≡ split_places fields path (map view xs)
  split_more split read walk passes = passed_here view _ xs i x within is walk _
      (ap (λ n. split_place fields (at_place path n) split (view x)) (sym (places_done view xs i within))
      ∙ ap (λ s. split_place fields (at_place path (length (map view (take i xs)))) s (view x)) read) passes

  pub skip_more : (split : List ℕ)
      → by_place (λ before d. skip_place fields (at_place path (length before)) split d) (map view (take i xs)) (map view (drop i xs)) ≡ skip_places fields path split (map view xs)
      → skip_place fields (at_place path i) split (view x) ≡ None
      → by_place (λ before d. skip_place fields (at_place path (length before)) split d) (map view (take (i + 1) xs)) (map view (drop (i + 1) xs)) ≡ skip_places fields path split (map view xs)
  skip_more split walk passes = passed_here view _ xs i x within is walk _
      (ap (λ n. skip_place fields (at_place path n) split (view x)) (sym (places_done view xs i within))) passes

-- No raw metric that the checks of settings accept needs its ids.
use Rattle.std.proofs.Common.{◌≡◌, ℕ, zero, suc, Bool, true, false, ◌&&◌, ◌||◌, List, [], ◌∷◌, ◌++◌, map, length, Option, Some, None, unwrap_or, refl, sym, ap, ◌∙◌, subst}
use Rattle.std.specs.List.{slice_get}
use Rattle.std.proofs.lemmas.Bool.{false≢true}
use Rattle.std.proofs.lemmas.Slice.Eq.{bytes_eq-Decides}
use Rattle.serde_json.specs.Data.{Data}
use Rattle.serde_json.specs.Find.{as_str}
use Rattle.table_schema.specs.declared.field.Field.{Field}
use Rattle.table_schema.specs.declared.settings.Settings.{Settings}
use Rattle.json_keys.specs.declared.fault.KeyKind.TheVariants.{Unsupported}
use Rattle.table_schema.specs.Names.{Text}
use Rattle.json_keys.specs.Faults.{at_place}
use Rattle.table_schema.specs.Firsts.{by_place}
use Rattle.table_schema.specs.Columns.{number_of}
use Rattle.json_keys.specs.NamedColumns.{text_of, is_the_text, has_text, named}
use Rattle.table_schema.specs.Roles.{is_metric_at}
use Rattle.table_schema.specs.NeedIds.{is_set, needs_ids}
use Rattle.settings_parts.specs.Indexes.{misfits, raw_place}
use Rattle.table_schema.specs.Valid.{no_repeat}
use Rattle.json_keys.proofs.Checks.{if_none}
use Rattle.table_schema.proofs.NumberLaw.{both, number_own}
use Rattle.table_schema.proofs.FirstLaws.{first_none, rest_none}

-- a field whose flag is set is named
pub flagged : (fs : List Field) (items : List Data) (n : ℕ) → (is_metric_at (slice_get fs n) && is_set (slice_get (named fs items) n)) ≡ true
    → (f : Field) × (slice_get fs n ≡ Some f) × (has_text items f.name ≡ true)
flagged [] items n e = absurd (false≢true e)
flagged (f ∷ fs) items zero e = (f, refl, (both (is_metric_at (Some f)) (has_text items f.name) e).1)
flagged (f ∷ fs) items (suc n) e = flagged fs items n e

text_is : (name : Text) (o : Option Text) → is_the_text name o ≡ true → unwrap_or o [] ≡ name
text_is name None e = absurd (false≢true e)
text_is name (Some text) e = (bytes_eq-Decides text name).0 e

module _ (fields : List Field) (s : Settings) (path name : Text) where
  free_by : (d : Data) (rest : List Data) (b : Bool) → is_the_text name (as_str d) ≡ b
      → misfits fields s (number_of fields (text_of d)) ≡ false
      → (has_text rest name ≡ true → misfits fields s (number_of fields name) ≡ false)
      → (b || has_text rest name) ≡ true → misfits fields s (number_of fields name) ≡ false
  free_by d rest true is own later e = subst (λ text. misfits fields s (number_of fields text) ≡ false) (text_is name (as_str d) is) own
  free_by d rest false is own later e = later e

  -- a name that stands in the array fits
  pub named_fits : (before ds : List Data) → by_place (λ before d. raw_place fields s (at_place path (length before)) d) before ds ≡ None
      → has_text ds name ≡ true → misfits fields s (number_of fields name) ≡ false
  named_fits before [] none e = absurd (false≢true e)
  named_fits before (d ∷ ds) none e =
      let here = at_place path (length before) in
      let later = by_place (λ before d. raw_place fields s (at_place path (length before)) d) (before ++ d ∷ []) ds in
      free_by d ds (is_the_text name (as_str d)) refl
      (if_none (misfits fields s (number_of fields (text_of d))) Unsupported here (first_none (raw_place fields s here d) later none))
      (named_fits (before ++ d ∷ []) ds (rest_none (raw_place fields s here d) later none)) e

fits_by : (metric ids : Bool) → metric ≡ true → (metric && ids) ≡ false → ids ≡ false
fits_by metric ids own e = sym (ap (λ b. b && ids) own) ∙ e

pub raw_fits : (fields : List Field) (s : Settings) (path : Text) (ds : List Data) → no_repeat [] (map (λ f. f.name) fields) ≡ true
    → by_place (λ before d. raw_place fields s (at_place path (length before)) d) [] ds ≡ None
    → (n : ℕ) → (is_metric_at (slice_get fields n) && is_set (slice_get (named fields ds) n)) ≡ true → needs_ids s n ≡ false
raw_fits fields s path ds apart none n e =
    let f = flagged fields ds n e in
    let fit = named_fits fields s path f.0.name [] ds none f.2 in
    let own = subst (λ o. misfits fields s o ≡ false) (number_own fields n f.0 apart f.1) fit in
    fits_by (is_metric_at (slice_get fields n)) (needs_ids s n) (both (is_metric_at (slice_get fields n)) (is_set (slice_get (named fields ds) n)) e).0 own

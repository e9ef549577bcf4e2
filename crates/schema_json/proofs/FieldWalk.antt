-- The walk over the places of a schema, beside the fields that were read so far.
use Rattle.std.proofs.Common.{◌≡◌, ℕ, ◌+◌, ◌<◌, List, [], ◌∷◌, ◌++◌, length, get_or, take, drop, map, None, refl, sym, ap, ◌∙◌}
use Rattle.schema_json.specs.declared.entry.Entry as code
use Rattle.table_schema.specs.declared.field.Field.{Field}
use Rattle.json_keys.specs.declared.fault.TextFault.{TextFault}
use Rattle.json_keys.specs.Faults.{Finding, Refuses}
use Rattle.schema_json.specs.Fields.{Entry, field_of, name_of, field_finding}
use Rattle.schema_json.specs.Schemas.{fields_finding}
use Rattle.schema_json.specs.Entries.{seen}
use Rattle.json_keys.proofs.Places.{done_more, map-append, refused_here, passed_here}
use Rattle.table_schema.specs.Firsts.{by_place}

abbrev pub check : List Entry → Entry → Finding
check before e = field_finding (map name_of before) e

pub names_of : (es : List Entry) → map (λ f. f.name) (map field_of es) ≡ map name_of es
names_of [] = refl
names_of (e ∷ es) = ap (λ ns. name_of e ∷ ns) (names_of es)

module _ (xs : List code.Entry) (i : ℕ) (x : code.Entry) (fields : List Field)
    (within : i < length xs) (is : x ≡ get_or xs i x)
    (read : fields ≡ map field_of (map seen (take i xs)))
    (walk : by_place check (map seen (take i xs)) (map seen (drop i xs)) ≡ fields_finding (map seen xs)) where
  here : field_finding (map (λ f. f.name) fields) (seen x) ≡ check (map seen (take i xs)) (seen x)
  here = ap (λ ns. field_finding ns (seen x)) (ap (map (λ f. f.name)) read ∙ names_of (map seen (take i xs)))

  pub field_refused : (e : TextFault) → Refuses (field_finding (map (λ f. f.name) fields) (seen x)) e → Refuses (fields_finding (map seen xs)) e
  field_refused e refuses = refused_here seen check xs i x within is walk _ here e refuses

  pub walk_more : field_finding (map (λ f. f.name) fields) (seen x) ≡ None → by_place check (map seen (take (i + 1) xs)) (map seen (drop (i + 1) xs)) ≡ fields_finding (map seen xs)
  walk_more passes = passed_here seen check xs i x within is walk _ here passes

  pub read_more : (field : Field) → field ≡ field_of (seen x) → fields ++ field ∷ [] ≡ map field_of (map seen (take (i + 1) xs))
  read_more field value = ap (λ fs. fs ++ field ∷ []) read ∙ ap (λ f. map field_of (map seen (take i xs)) ++ f ∷ []) value ∙ sym (ap (map field_of) (done_more seen xs i x within is) ∙ map-append field_of (map seen (take i xs)) (seen x ∷ []))

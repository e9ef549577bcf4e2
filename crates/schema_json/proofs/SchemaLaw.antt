-- What the checks of a schema accept is valid.
use Rattle.std.proofs.Common.{◌≡◌, ◌+◌, ◌<◌, ◌≤◌, true, false, not, true≢false, List, [], ◌∷◌, ◌++◌, length, map, None, Result, Ok, Err, IfOk, refl, ap, ◌∙◌, sym, subst, arith, rules, tests}
use Rattle.std.specs.List.{list_all}
use Rattle.std.proofs.lemmas.Grind.{common_steps}
use Rattle.serde_json.specs.Data.{Data}
use Rattle.table_schema.specs.declared.field.Role.TheVariants.{Dimension, Metric, DateTime}
use Rattle.json_keys.specs.declared.fault.TextFault.{TextFault}
use Rattle.table_schema.specs.declared.field.Schema.{Schema}
use Rattle.json_keys.specs.declared.fault.KeyKind.TheVariants.{MissingKey}
use Rattle.json_keys.specs.Faults.{Gives, fault_if}
use Rattle.json_keys.specs.Keys.{optional_array}
use Rattle.schema_json.specs.Fields.{Entry, name_of, list_key, field_of, all_entries, is_none_listed, lists_finding}
use Rattle.schema_json.specs.Schemas.{head_finding, fields_finding, schema_finding, schema_of}
use Rattle.schema_json.proofs.FieldLaw.{field_checked}
use Rattle.table_schema.specs.Valid.{is_valid_field, no_repeat, IsValidSchema}
use Rattle.schema_json.proofs.FieldWalk.{check, names_of}
use Rattle.json_keys.proofs.Checks.{if_none, both_true}
use Rattle.json_keys.proofs.Places.{length-map, map-append}
use Rattle.table_schema.specs.Firsts.{by_place}
use Rattle.table_schema.proofs.FirstLaws.{first_none, rest_none, nones}

fields_good : (before es : List Entry) → by_place check before es ≡ None → length before ≤ 64
    → (list_all is_valid_field (map field_of es) ≡ true) × (no_repeat (map name_of before) (map name_of es) ≡ true) × (length before + length es ≤ 64)
fields_good before [] none at_most = (refl, refl, omega arith)
fields_good before (e ∷ es) none at_most =
    let here = first_none (check before e) (by_place check (before ++ e ∷ []) es) none in
    let left = rest_none (check before e) (by_place check (before ++ e ∷ []) es) none in
    let names = map name_of before in
    let checked = field_checked names e here in
    let count = checked.0 in
    let below_64 : length names < 64 = search (rules, tests) in
    let grown : length (before ++ e ∷ []) ≡ length before + 1 = grind (arith, common_steps) in
    let more = fields_good (before ++ e ∷ []) es left (omega (arith, length-map name_of before)) in (
      both_true _ _ checked.2 more.0,
      both_true _ _ (ap not checked.1) (subst (λ ns. no_repeat ns (map name_of es) ≡ true) (map-append name_of before (e ∷ [])) more.1),
      omega (arith, more.2),
    )

some_listed : (es : List Entry) → is_none_listed es ≡ false → 0 < length es
some_listed [] e = absurd (true≢false e)
some_listed (x ∷ es) e = omega arith

pub schema_valid : (d : Data) → schema_finding d ≡ None → IsValidSchema (schema_of d)
schema_valid d none =
    let es = all_entries d in
    let all = nones (head_finding d ∷ lists_finding d ∷ fields_finding es ∷ []) none in
    let lists = nones (
    optional_array [] (list_key Dimension) d
    ∷ optional_array [] (list_key Metric) d
    ∷ optional_array [] (list_key DateTime) d
    ∷ fault_if (is_none_listed es) MissingKey (list_key Dimension)
    ∷ []) all.1.0 in
    let listed = if_none (is_none_listed es) MissingKey (list_key Dimension) lists.1.1.1.0 in
    let good = fields_good [] es all.1.1.0 (omega arith) in
    record {
      some = omega (arith, some_listed es listed, length-map field_of es);
      at_most = omega (arith, good.2, length-map field_of es);
      fields = good.0;
      apart = ap (no_repeat []) (names_of es) ∙ good.1;
    }

-- a call that answers a schema answers a valid one
pub gives_valid : (d : Data) (r : Result Schema TextFault) → Gives (schema_finding d) (schema_of d) r → IfOk r IsValidSchema
gives_valid d (Ok schema) g = subst IsValidSchema (sym g.1) (schema_valid d g.0)
gives_valid d (Err fault) g = tt

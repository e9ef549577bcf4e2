use Rattle.std.proofs.Common.{◌∷◌, [], map, length, codes, nat_lt, refl, ap, ◌∙◌, arith}
use Rattle.json_keys.specs.declared.fault.KeyKind.TheVariants.{TooMany, DuplicateColumn}
use Rattle.json_keys.specs.Faults.{below, fault_if, fault_unless}
use Rattle.json_keys.specs.Keys.{object_finding}
use Rattle.schema_json.specs.Defaults.{default_finding}
use Rattle.schema_json.specs.Entries.{seen}
use Rattle.schema_json.specs.Fields.{kind_of, name_of, name_finding, type_finding, support_finding}
use Rattle.table_schema.specs.Firsts.{first_of}
use Rattle.table_schema.specs.Names.{is_among}
use Rattle.json_keys.proofs.Answered.{Gives-same}
use Rattle.schema_json.proofs.FieldSteps.{few_fields, after_three}
use Rattle.schema_json.proofs.field_text.read_field.Goals as goal

pub returns : goal.returns
returns c =
    let e = seen c.args.entry.now in
    let fields = c.args.fields.now in
    let names = map (λ f. f.name) fields in
    let base = c.as_str-base.result.now in
    let path = c.as_str-base.ensures ∙ c.in_ok-path.ensures in
    let name = c.in_ok-name.ensures.name in
    Gives-same _ _ _ _ c.named_field.result
    (ap (λ n. first_of (type_finding base e.role e.json ∷ support_finding base e.json ∷ default_finding base (kind_of e.json) e.json
    ∷ fault_if (is_among names n) DuplicateColumn (below base (codes "name")) ∷ [])) name
    ∙ after_three (fault_unless (nat_lt (length names) 64) TooMany base) (object_finding base e.json) (name_finding base e.json) _
    (few_fields fields base (omega arith)) c.in_ok-check_object.ensures c.in_ok-name.ensures.ok
    ∙ ap (λ p. first_of (fault_unless (nat_lt (length names) 64) TooMany p ∷ object_finding p e.json ∷ name_finding p e.json
    ∷ type_finding p e.role e.json ∷ support_finding p e.json ∷ default_finding p (kind_of e.json) e.json
    ∷ fault_if (is_among names (name_of e)) DuplicateColumn (below p (codes "name")) ∷ [])) path)
    refl
    c.named_field.ensures

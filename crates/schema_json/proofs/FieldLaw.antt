-- What the checks of a field accept is valid.
use Rattle.std.proofs.Common.{◌≡◌, ℤ, ◌≤◌, nat_le, nat_lt, cond, Bool, true, false, not, ◌&&◌, codes, List, [], ◌∷◌, length, Option, Some, None, is_some, Ok, Err, option_and_then, unwrap_or, refl, ap, subst, rules, tests}
use Rattle.std.specs.Result.{result_ok}
use Rattle.std.proofs.lemmas.Option.{cond_some, same_Some}
use Rattle.serde_json.specs.Data.{Num, Data, null, boolean, number, string, array, object}
use Rattle.serde_json.specs.Find.{as_i64}
use Rattle.data_types.specs.declared.kind.FieldKind.{FieldKind}
use Rattle.data_types.specs.declared.kind.FieldKind.TheVariants as kind
use Rattle.values.specs.declared.value.Value.{Value}
use Rattle.values.specs.declared.value.Value.TheVariants as value
use Rattle.data_types.specs.Numbers.{is_in_range, ranged, spelled_number}
use Rattle.values.specs.Reading.{number_value}
use Rattle.data_types.specs.declared.whole.WholeFault.TheVariants.{OutOfRange}
use Rattle.table_schema.specs.declared.field.Role.{Role}
use Rattle.table_schema.specs.declared.field.Role.TheVariants.{Dimension, Metric, DateTime}
use Rattle.json_keys.specs.declared.fault.KeyKind.TheVariants.{WrongKind, TooMany, BadName, UnknownType, Unsupported, DuplicateColumn}
use Rattle.table_schema.specs.Names.{Text}
use Rattle.json_keys.specs.Json.{key_of}
use Rattle.json_keys.specs.Faults.{fault_unless, fault_if, below}
use Rattle.json_keys.specs.Keys.{optional, object_finding, required_text, text_at}
use Rattle.table_schema.specs.Names.{is_column_name}
use Rattle.schema_json.specs.Defaults.{DEFAULT_KEY, text_default, whole_default, number_default, given_default, default_finding, usual_default, default_of}
use Rattle.schema_json.specs.Fields.{Entry, kind_named, kind_of, name_of, path_of, name_finding, type_finding, support_finding, field_finding, field_of}
use Rattle.table_schema.specs.Names.{is_among}
use Rattle.table_schema.specs.Roles.{is_text_metric}
use Rattle.table_schema.specs.Valid.{default_fits, is_valid_field}
use Rattle.json_keys.proofs.Checks.{unless_none, if_none, both_true}
use Rattle.table_schema.proofs.FirstLaws.{nones}

-- ---- defaults

-- a short text is a value of a field of texts
short_fits : (text : Text) → nat_le (length text) 64 ≡ true → default_fits kind.Text (value.Text text) ≡ true
short_fits text short =
    let at_most : length text ≤ 64 = search (rules, tests) in
    let fit : nat_le (length text) 512 ≡ true = search (rules, tests) in
    both_true (nat_le (length text) 512) (nat_le (length text) 64) fit short

-- a whole number in range
abbrev IsIn : FieldKind → Value → Type 0
IsIn kind w = (z : ℤ) × (value.Whole z ≡ w) × (is_in_range kind z ≡ true)

ranged_by : (kind : FieldKind) (z : ℤ) (b : Bool) (w : Value) → is_in_range kind z ≡ b → result_ok (number_value (cond b (Ok z) (Err OutOfRange))) ≡ Some w → IsIn kind w
ranged_by kind z true w is e = (z, same_Some _ _ e, is)
ranged_by kind z false w is e = absurd (cc)

spelled_in : (kind : FieldKind) (o : Option ℤ) (w : Value) → result_ok (number_value (ranged kind o)) ≡ Some w → IsIn kind w
spelled_in kind None w e = absurd (cc)
spelled_in kind (Some z) w e = ranged_by kind z (is_in_range kind z) w refl e

whole_in : (kind : FieldKind) (o : Option ℤ) (w : Value) → option_and_then (whole_default kind) o ≡ Some w → IsIn kind w
whole_in kind None w e = absurd (cc)
whole_in kind (Some z) w e = let p = cond_some (is_in_range kind z) (value.Whole z) w e in (z, p.1, p.0)

int_fits : (w : Value) → IsIn kind.Int w → default_fits kind.Int w ≡ true
int_fits w h = subst (λ v. default_fits kind.Int v ≡ true) h.1 (both_true (is_in_range kind.Int h.0) true h.2 refl)

long_fits : (w : Value) → IsIn kind.Long w → default_fits kind.Long w ≡ true
long_fits w h = subst (λ v. default_fits kind.Long v ≡ true) h.1 (both_true (is_in_range kind.Long h.0) true h.2 refl)

text_fits : (k : FieldKind) (text : Text) (w : Value) → text_default k text ≡ Some w → default_fits k w ≡ true
text_fits kind.Text text w e = let p = cond_some (nat_le (length text) 64) (value.Text text) w e in subst (λ v. default_fits kind.Text v ≡ true) p.1 (short_fits text p.0)
text_fits kind.Int text w e = int_fits w (spelled_in kind.Int (spelled_number text) w e)
text_fits kind.Long text w e = long_fits w (spelled_in kind.Long (spelled_number text) w e)

number_fits : (k : FieldKind) (n : Num) (w : Value) → number_default k n ≡ Some w → default_fits k w ≡ true
number_fits kind.Text n w e = absurd (cc)
number_fits kind.Int n w e = int_fits w (whole_in kind.Int (as_i64 n) w e)
number_fits kind.Long n w e = long_fits w (whole_in kind.Long (as_i64 n) w e)

given_fits : (k : FieldKind) (d : Data) (w : Value) → given_default k d ≡ Some w → default_fits k w ≡ true
given_fits k null w e = absurd (cc)
given_fits k (boolean b) w e = absurd (cc)
given_fits k (number n) w e = number_fits k n w e
given_fits k (string text) w e = text_fits k text w e
given_fits k (array ds) w e = absurd (cc)
given_fits k (object ms) w e = absurd (cc)

usual_fits : (role : Role) (k : FieldKind) → default_fits k (usual_default role k) ≡ true
usual_fits Dimension kind.Text = refl
usual_fits Dimension kind.Int = refl
usual_fits Dimension kind.Long = refl
usual_fits Metric kind.Text = refl
usual_fits Metric kind.Int = refl
usual_fits Metric kind.Long = refl
usual_fits DateTime kind.Text = refl
usual_fits DateTime kind.Int = refl
usual_fits DateTime kind.Long = refl

given_by : (role : Role) (k : FieldKind) (d : Data) (path : Text) (g : Option Value) → given_default k d ≡ g → fault_unless (is_some g) WrongKind path ≡ None → default_fits k (unwrap_or g (usual_default role k)) ≡ true
given_by role k d path None is none = absurd (cc)
given_by role k d path (Some w) is none = given_fits k d w is

default_by : (role : Role) (k : FieldKind) (path : Text) (o : Option Data) → optional (λ v. fault_unless (is_some (given_default k v)) WrongKind path) o ≡ None
    → default_fits k (unwrap_or (option_and_then (given_default k) o) (usual_default role k)) ≡ true
default_by role k path None none = usual_fits role k
default_by role k path (Some d) none = given_by role k d path (given_default k d) refl none

-- ---- fields

-- what a place says where its checks found nothing
pub field_checked : (names : List Text) (e : Entry) → field_finding names e ≡ None
    → (nat_lt (length names) 64 ≡ true) × (is_among names (name_of e) ≡ false) × (is_valid_field (field_of e) ≡ true)
field_checked names e none =
    let path = path_of e in
    let d = e.json in
    let here = below path (codes "name") in
    let all = nones (
    fault_unless (nat_lt (length names) 64) TooMany path
    ∷ object_finding path d
    ∷ name_finding path d
    ∷ type_finding path e.role d
    ∷ support_finding path d
    ∷ default_finding path (kind_of d) d
    ∷ fault_if (is_among names (name_of e)) DuplicateColumn here
    ∷ []) none in
    let named = nones (required_text path (codes "name") d ∷ fault_unless (is_column_name (name_of e)) BadName here ∷ []) all.1.1.0 in
    let typed = nones (
    required_text path (codes "dataType") d
    ∷ fault_unless (is_some (kind_named (text_at (codes "dataType") d))) UnknownType (below path (codes "dataType"))
    ∷ fault_if (is_text_metric e.role (kind_of d)) Unsupported (below path (codes "dataType"))
    ∷ []) all.1.1.1.0 in (
      unless_none (nat_lt (length names) 64) TooMany path all.0,
      if_none (is_among names (name_of e)) DuplicateColumn here all.1.1.1.1.1.1.0,
      both_true (is_column_name (name_of e) && not (is_text_metric e.role (kind_of d))) (default_fits (kind_of d) (default_of e.role (kind_of d) d))
          (both_true (is_column_name (name_of e)) (not (is_text_metric e.role (kind_of d)))
          (unless_none (is_column_name (name_of e)) BadName here named.1.0)
          (ap not (if_none (is_text_metric e.role (kind_of d)) Unsupported (below path (codes "dataType")) typed.1.1.0)))
          (default_by e.role (kind_of d) (below path DEFAULT_KEY) (key_of DEFAULT_KEY d) all.1.1.1.1.1.0),
    )

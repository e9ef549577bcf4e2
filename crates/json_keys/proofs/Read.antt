-- The value of a text in JSON, by whether it is UTF-8.
use Rattle.std.proofs.Common.{◌≡◌, ℕ, Bool, true, false, List, Some, None, IsUtf8, cond, refl, ap, ◌∙◌}
use Rattle.std.specs.Str.{is_utf8}
use Rattle.std.proofs.lemmas.Str.{IsUtf8-from_is_utf8, is_utf8-from_IsUtf8}
use Rattle.serde_json.specs.Data.{Data}
use Rattle.serde_json.specs.Read.{read}
use Rattle.json_keys.specs.Json.{json_of}

pub json_of-read : (bytes : List ℕ) (d : Data) → IsUtf8 bytes → read bytes ≡ Some d → json_of bytes ≡ Some d
json_of-read bytes d utf8 is = ap (λ b. cond b (read bytes) None) (is_utf8-from_IsUtf8 bytes utf8) ∙ is

none_by : (bytes : List ℕ) (b : Bool) → is_utf8 bytes ≡ b → (IsUtf8 bytes → read bytes ≡ None) → cond b (read bytes) None ≡ None
none_by bytes true is none = none (IsUtf8-from_is_utf8 bytes is)
none_by bytes false is none = refl

pub json_of-none : (bytes : List ℕ) → (IsUtf8 bytes → read bytes ≡ None) → json_of bytes ≡ None
json_of-none bytes none = none_by bytes (is_utf8 bytes) refl none

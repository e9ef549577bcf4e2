use Rattle.std.proofs.Common.{◌≡◌, ◌∙◌, List, ℕ, ap, false, refl, string_bytes, subst, true}
use Rattle.std.proofs.lemmas.Str.{is_utf8-from_IsUtf8}
use Rattle.std.specs.Str.{IsUtf8, is_utf8}
use Rattle.commands.proofs.ScriptLemmas.{not_text}
use Rattle.commands.proofs.script.text_of.Goals as goal

pub returns-in-Ok : goal.returns-in-Ok
returns-in-Ok c =
    let bytes : string_bytes c.in-Ok.text ≡ c.args.bytes = ap (λ v. v.items) c.in-Ok.ensures.ok ∙ c.into_vec.ensures in
    (c.in_ok-from_string-in-Ok.ensures ∙ bytes, is_utf8-from_IsUtf8 c.args.bytes (subst IsUtf8 (c.as_str-text.ensures.value ∙ bytes) c.as_str-text.utf8))

pub returns : goal.returns
returns c = (
  refl,
  subst (λ bs. is_utf8 bs ≡ false) c.into_vec.ensures (not_text _ c.into_vec.result.items refl (λ valid. let no : false ≡ true = c.in-Err.ensures.succeeds valid in absurd cc)),
)

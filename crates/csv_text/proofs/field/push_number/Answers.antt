use Rattle.std.proofs.Common.{◌≡◌, ◌∙◌, ◌++◌, OnOk, ap, subst, sym, w64}
use Rattle.std.specs.Fmt.{signed_decimal}
use Rattle.std.proofs.lemmas.Int.{to_z-of_z}
use Rattle.csv_text.proofs.Records.{number_text}
use Rattle.csv_text.proofs.field.push_number.Goals as goal

pub returns : goal.returns
returns c =
    subst (λ t. OnOk c.push_digits.result (c.push_digits.new.text.items ≡ c.args.text.now.items ++ t))
    (ap signed_decimal (to_z-of_z w64 c.args.number c.ranges.number) ∙ sym (number_text c.args.number c.ranges.number)) c.push_digits.ensures

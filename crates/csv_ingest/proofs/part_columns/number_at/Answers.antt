use Rattle.csv_ingest.proofs.DigitLemmas.{number-value}
use Rattle.csv_ingest.proofs.NumberTextLemmas.{some-at}
use Rattle.csv_ingest.proofs.part_columns.number_at.Goals as goal
use Rattle.csv_ingest.specs.Parts.{cell_at}
use Rattle.csv_row.specs.Columns.{is_text_kind}
use Rattle.csv_row.specs.Row.{cell_value}
use Rattle.data_types.specs.Numbers.{whole_of}
use Rattle.std.proofs.Common.{◌≡◌, ℕ, ℤ, List, false, Ok}
use Rattle.values.specs.declared.value.Value.TheVariants.{Whole}

pub returns-in_default : goal.returns-in_default
returns-in_default c =
    let field = c.args.field.now in
    let cell : List ℕ = cell_at c.args.part.text.now c.args.part.places.now c.args.place in
    some-at c.whole.result
    (λ (number : ℤ). whole_of field.kind cell ≡ Ok number)
    (λ (number : ℤ). (is_text_kind field.kind ≡ false) × (cell_value field cell ≡ Ok (Whole number)))
    (number-value field cell c.in_default.not-Text)
    c.whole.ensures

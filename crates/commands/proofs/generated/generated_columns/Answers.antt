use Rattle.std.proofs.Common.{◌≡◌, ◌∙◌, All, ap, arith, subst, sym, true}
use Rattle.csv_ingest.proofs.ValidLemmas.{valid-defaults}
use Rattle.table_schema.specs.ValidTable.{AreRows}
use Rattle.table_store.specs.Images.{IsUnicode}
use Rattle.command_model.specs.Generated.{are_generated}
use Rattle.commands.proofs.GeneratedLemmas.{four_fields, rows_fit, rows_unicode}
use Rattle.commands.proofs.generated.generated_columns.Goals as goal

pub returns-clause-made : goal.returns-clause-made
returns-clause-made c =
    let fields = c.args.table.now.schema.fields in
    let so : are_generated fields ≡ true = ap are_generated (sym c.as_slice.ensures) ∙ sym c.are_generated.ensures ∙ c.if-not-are_generated.false in
    record {
      width = c.in_ok-columns_of.ensures.width ∙ sym (four_fields fields so);
      fit = subst (AreRows fields) (sym c.in_ok-columns_of.ensures.rows) (rows_fit fields c.args.rows so (valid-defaults c.args.table.now.schema c.requires.valid.schema) (omega arith));
      unicode = subst (All (λ row. All IsUnicode row)) (sym c.in_ok-columns_of.ensures.rows) (rows_unicode c.args.rows);
    }

use Rattle.std.proofs.Common.{◌≡◌, ◌∙◌, Bor, ℕ, List, IfOk, map, ap, subst, sym}
use Rattle.csv.specs.Records.{fields_of}
use Rattle.table_schema.specs.declared.field.Field.{Field}
use Rattle.csv_row.specs.Columns.{DefaultsFit, OfSorts}
use Rattle.csv_row.specs.Layouts.{header_of}
use Rattle.csv_ingest.proofs.NumberLemmas.{number-defaults}
use Rattle.csv_ingest.proofs.BlockLemmas.{block-under, fault-under}
use Rattle.csv_ingest.proofs.blocks.NumberHeader.next_block.Goals as goal

pub new-requires-clause-defaults : goal.new-requires-clause-defaults
new-requires-clause-defaults c = subst DefaultsFit (sym c.as_slice.ensures) (number-defaults (fields_of c.args.self.now.names) c.args.self.now.fields c.requires.header.fields)

pub returns-clause-ok : goal.returns-clause-ok
returns-clause-ok c =
    let now : Bor (List ℕ) → List ℕ = λ f. f.now in
    let names : header_of c.in_ok-layout.layout ≡ fields_of c.args.self.now.names = c.in_ok-layout.ensures.names ∙ ap (map now) c.deref.ensures.value ∙ c.in_ok-names.ensures in
    block-under c.in_ok-layout.layout.fields.now c.args.self.now.fields (header_of c.in_ok-layout.layout) (fields_of c.args.self.now.names) c.args.before c.args.room c.args.reader.now c.read_block.new.reader c.read_block.result
    (c.in_ok-layout.ensures.fields ∙ c.as_slice.ensures) names c.read_block.ensures.ok

pub returns-clause-err : goal.returns-clause-err
returns-clause-err c =
    let now : Bor (List ℕ) → List ℕ = λ f. f.now in
    let names : header_of c.in_ok-layout.layout ≡ fields_of c.args.self.now.names = c.in_ok-layout.ensures.names ∙ ap (map now) c.deref.ensures.value ∙ c.in_ok-names.ensures in
    fault-under c.in_ok-layout.layout.fields.now c.args.self.now.fields (header_of c.in_ok-layout.layout) (fields_of c.args.self.now.names) c.args.before c.args.room c.args.reader.now c.read_block.result
    (c.in_ok-layout.ensures.fields ∙ c.as_slice.ensures) names c.read_block.ensures.err

pub returns-clause-sorts : goal.returns-clause-sorts
returns-clause-sorts c =
    subst (λ (fields : List Field). IfOk c.read_block.result (λ b. OfSorts fields b.columns.columns)) (c.in_ok-layout.ensures.fields ∙ c.as_slice.ensures) c.read_block.ensures.sorts

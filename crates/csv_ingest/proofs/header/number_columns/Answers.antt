use Rattle.std.proofs.Common.{◌≡◌, ◌∙◌, ◌+◌, Bor, List, ℕ, Ok, Err, map, sym, ap, subst, arith}
use Rattle.csv_ingest.specs.Names.{number_name}
use Rattle.csv_ingest.specs.Rows.{header_of}
use Rattle.csv_row.specs.declared.fault.CsvFault.TheVariants.{At}
use Rattle.csv_ingest.proofs.HeaderLemmas.{NamesTo, names-more, names-fault}
use Rattle.csv_ingest.proofs.header.number_columns.Goals as goal

pub returns-in-Err-clause-err : goal.returns-in-Err-clause-err
returns-in-Err-clause-err c = λ _.
    let now : Bor (List ℕ) → List ℕ = λ f. f.now in
    let place : 1 + c.names.i ≡ c.names.i + 1 = omega arith in
    subst (λ k. header_of number_name (map now c.args.names.now) ≡ Err (At c.in-Err.kind 0 k)) place
    (names-fault number_name now c.args.names.now c.names.i _ c.names-test.true c.names.fields c.in-Err.kind c.in-Err.ensures.err c.names.invariant)

pub names-preserved : goal.names-preserved
names-preserved c =
    let now : Bor (List ℕ) → List ℕ = λ f. f.now in
    subst (NamesTo number_name now c.args.names.now (c.names.i + 1)) (sym c.in_ok-push-in-Ok.ensures.ok)
    (names-more number_name now c.args.names.now c.names.i _ c.names-test.true c.names.fields c.in_ok-column-in-Ok.field-0 (c.in-Ok.ensures.ok ∙ ap Ok (sym c.in_ok-column-in-Ok.ensures)) c.names.invariant)

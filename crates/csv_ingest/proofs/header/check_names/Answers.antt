use Rattle.std.proofs.Common.{◌≡◌, ◌+◌, [], Bor, List, ℕ, Err, refl, IsOk, map, sym, subst, arith}
use Rattle.csv_ingest.specs.Names.{schema_name}
use Rattle.csv_ingest.specs.Rows.{header_of}
use Rattle.csv_row.specs.declared.fault.CsvFault.TheVariants.{At}
use Rattle.csv_ingest.proofs.HeaderLemmas.{names-begin, names-end, names-fault, names-on}
use Rattle.csv_ingest.proofs.header.check_names.Goals as goal

pub names-init : goal.names-init
names-init c =
    let now : Bor (List ℕ) → List ℕ = λ f. f.now in
    ([], names-begin (schema_name c.args.fields.now) now c.args.names.now)

pub names-preserved : goal.names-preserved
names-preserved c =
    let now : Bor (List ℕ) → List ℕ = λ f. f.now in
    let (done, s) = c.names.invariant in
    names-on (schema_name c.args.fields.now) now c.args.names.now c.names.i _ c.names-test.true done _ c.in_default.ensures.ok s

pub returns-in-Err-clause-err : goal.returns-in-Err-clause-err
returns-in-Err-clause-err c =
    let now : Bor (List ℕ) → List ℕ = λ f. f.now in
    let place : 1 + c.names.i ≡ c.names.i + 1 = omega arith in
    let (done, s) = c.names.invariant in
    subst (λ k. header_of (schema_name c.args.fields.now) (map now c.args.names.now) ≡ Err (At c.in-Err.kind 0 k)) place
    (names-fault (schema_name c.args.fields.now) now c.args.names.now c.names.i _ c.names-test.true done c.in-Err.kind c.in-Err.ensures.err s)

pub returns-clause-ok : goal.returns-clause-ok
returns-clause-ok c =
    let now : Bor (List ℕ) → List ℕ = λ f. f.now in
    let (done, s) = c.names.invariant in
    subst IsOk (sym (names-end (schema_name c.args.fields.now) now c.args.names.now c.names.i done (omega arith) s)) refl

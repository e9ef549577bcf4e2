use Rattle.std.proofs.Common.{Bor, ℕ, List, map, subst, arith, ◌≡◌, ◌+◌}
use Rattle.std.specs.List.{All}
use Rattle.values.specs.Columns.{Counts}
use Rattle.csv_ingest.proofs.BlockLemmas.{block-added}
use Rattle.csv_ingest.proofs.rows.read_block.Goals as goal

pub new-columns-requires : goal.new-columns-requires
new-columns-requires c =
    let added = c.in-Ok.field-0 in
    let none : 0 + added.count ≡ added.count = omega arith in
    subst (λ n. All (Counts n) c.push_block.new.columns.items) none (c.in-Ok.ensures.counts 0 c.in_ok-columns.ensures.empty)

pub returns-in-Ok-clause-ok : goal.returns-in-Ok-clause-ok
returns-in-Ok-clause-ok c = λ rest r.
    let now : Bor (List ℕ) → List ℕ = λ f. f.now in
    block-added c.args.layout.now.fields.now (map now c.args.layout.now.names.now) c.args.before c.args.room c.args.reader.now c.push_block.new.reader rest c.in_ok-columns.columns.items c.push_block.new.columns.items c.in-Ok.field-0
    c.new-columns.result c.in_ok-columns.ensures.empty c.new-columns.ensures (c.in-Ok.ensures.ok rest r)

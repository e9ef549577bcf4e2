use Rattle.std.proofs.Common.{Ok, ap, arith}
use Rattle.agg_laws.specs.laws.NumberBytes as bytes
use Rattle.agg_laws.proofs.extremes.LeastAggregator.take.Goals as goal

pub returns-clause-found : goal.returns-clause-found
returns-clause-found c =
    let read = bytes.found c.args.bytes.now c.read_i64.result
    (record { sfits = c.read_i64.type_inv }) c.read_i64.ensures c.requires
    (λ i. omega (arith, c.type_inv.bytes i)) in
    read

pub returns-clause-again : goal.returns-clause-again
returns-clause-again c v stored is =
    ap Ok (bytes.again c.args.bytes.now c.read_i64.result
    (record { sfits = c.read_i64.type_inv }) c.read_i64.ensures v stored is)

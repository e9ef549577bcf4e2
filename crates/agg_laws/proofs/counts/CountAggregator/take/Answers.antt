use Rattle.std.proofs.Common.{◌≡◌, Ok, ap, ◌∙◌, sym, arith}
use Rattle.std.specs.Int.{w64, from_be_bytes}
use Rattle.agg_laws.specs.Numbers.{count_bytes}
use Rattle.agg_laws.specs.laws.Counts as laws
use Rattle.agg_laws.proofs.counts.CountAggregator.take.Goals as goal
use Rattle.agg_laws.proofs.counts.CountAggregator.take.Goals.{then-count-eq0-via-then-count-eq0}
use Rattle.agg_laws.proofs.counts.CountAggregator.take.Goals.{then-count-eq0-via-else-count-eq0+then-count-gt-MOST_STORED}

pub returns-then-count-eq0-clause-again : goal.returns-then-count-eq0-clause-again
returns-then-count-eq0-clause-again c v stored is =
    let same : v ≡ c.read_u64-count.result = sym (laws.read v (omega (arith, stored)))
    ∙ ap (from_be_bytes w64) is ∙ sym c.read_u64-count.ensures in
    absurd (elim c.then-count-eq0.branch [
      | then-count-eq0-via-then-count-eq0 w ↦ omega (arith, stored.0, same, w.if-count-eq0.true)
      | then-count-eq0-via-else-count-eq0+then-count-gt-MOST_STORED w ↦ omega
          (arith, stored.1, same, w.if-count-gt-MOST_STORED.true)
    ])

pub returns-clause-found : goal.returns-clause-found
returns-clause-found c = (
  (omega arith, omega arith),
  ap count_bytes c.read_u64-count.ensures
      ∙ laws.written c.args.bytes.now c.requires (λ i. omega (arith, c.type_inv.bytes i)),
)

pub returns-clause-again : goal.returns-clause-again
returns-clause-again c v stored is =
    ap Ok (c.read_u64-count.ensures ∙ ap (from_be_bytes w64) (sym is)
    ∙ laws.read v (omega (arith, stored)))

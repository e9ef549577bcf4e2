use Rattle.std.proofs.Common.{◌∙◌, ◌+◌, ◌-◌, ◌/◌, ℕ, List, arith}
use Rattle.values.specs.declared.value.Value.{Value}
use Rattle.value_ids.proofs.Halving.{halved_greater, halved_less}
use Rattle.value_ids.proofs.MatchLemmas.{cut_found}
use Rattle.value_ids.proofs.cuts.cut_at.Goals as goal

pub halves-preserved-in-Less : goal.halves-preserved-in-Less
halves-preserved-in-Less c =
    let low : ℕ = c.halves.low in
    let high : ℕ = c.halves.high in
    let middle : ℕ = low + (high - low) / 2 in
    let values : List Value = c.args.ascending.values.now in
    let some = c.halves-test.true in
    let within = c.halves.invariant.within in
    record {
      order = omega (arith, some);
      within = within;
      halved = halved_less values c.args.bound.now low high middle c.args.ascending.ascends (omega (arith, some, within)) (λ d. c.order_at.ensures d ∙ c.in-Less.is) c.halves.invariant.halved;
    }

pub halves-preserved : goal.halves-preserved
halves-preserved c =
    let low : ℕ = c.halves.low in
    let high : ℕ = c.halves.high in
    let middle : ℕ = low + (high - low) / 2 in
    let some = c.halves-test.true in
    let within = c.halves.invariant.within in
    record {
      order = omega arith;
      within = omega (arith, some, within);
      halved = halved_greater c.args.ascending.values.now c.args.bound.now low high middle c.args.ascending.ascends (λ d. c.order_at.ensures d ∙ c.in-Greater.is) c.halves.invariant.halved;
    }

pub returns-in-Equal : goal.returns-in-Equal
returns-in-Equal c =
    let low : ℕ = c.halves.low in
    let high : ℕ = c.halves.high in
    let middle : ℕ = low + (high - low) / 2 in
    let some = c.halves-test.true in
    let within = c.halves.invariant.within in
    cut_found c.args.ascending.values.now c.args.bound.now middle c.args.ascending.ascends (omega (arith, some, within)) (λ d. c.order_at.ensures d ∙ c.in-Equal.is)

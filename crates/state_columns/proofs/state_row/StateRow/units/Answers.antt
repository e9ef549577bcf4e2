use Rattle.std.proofs.Common.{ap, map, ◌∙◌}
use Rattle.agg_laws.specs.declared.aggregate_kind.AggKind.TheVariants as kinds
use Rattle.agg_laws.specs.States.{unit_of}
use Rattle.state_columns.proofs.CopySteps as steps
use Rattle.state_columns.proofs.state_row.StateRow.units.Goals as goal

pub loop-kind-preserved : goal.loop-kind-preserved
loop-kind-preserved c =
    steps.mapped_more unit_of c.as_slice-kind-items.result.now c.loop-kind.states.items
    c.push.new.self.items c.loop-kind.kind-index kinds.Count c.unit.result c.loop-kind-test.true
    c.loop-kind.invariant c.unit.ensures c.in_ok-push.ensures.items

pub returns : goal.returns
returns c =
    steps.mapped_all unit_of c.as_slice-kind-items.result.now c.loop-kind.states.items
    c.loop-kind.kind-index c.loop-kind-test.false c.loop-kind.invariant
    ∙ ap (map unit_of) c.as_slice-kind-items.ensures

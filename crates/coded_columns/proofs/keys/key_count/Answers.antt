use Rattle.std.proofs.Common.{ℕ, List, take, sym, subst, arith}
use Rattle.std.proofs.lemmas.List.{take_all, take_more}
use Rattle.coded_columns.specs.Keys.{AreKeys}
use Rattle.coded_columns.proofs.KeySteps.{keys-none}
use Rattle.coded_columns.proofs.keys.key_count.Goals as goal

pub loop-group-init : goal.loop-group-init
loop-group-init c = keys-none c.args.segment.now

pub loop-group-preserved : goal.loop-group-preserved
loop-group-preserved c =
    subst (λ (l : List ℕ). AreKeys c.args.segment.now l c.count_with-size.result) (sym (take_more c.args.groups.now c.loop-group.group-index 0 c.loop-group-test.true))
    (c.count_with-size.ensures (take c.loop-group.group-index c.args.groups.now) c.loop-group.invariant (omega (arith, c.if-size-most.false, c.min-most.ensures)))

pub returns : goal.returns
returns c = subst (λ (l : List ℕ). AreKeys c.args.segment.now l c.loop-group.size) (take_all c.loop-group.group-index c.args.groups.now (omega (arith, c.loop-group-test.false))) c.loop-group.invariant

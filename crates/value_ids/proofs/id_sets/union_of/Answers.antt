use Rattle.std.proofs.Common.{arith, sym, ◌∙◌}
use Rattle.value_ids.specs.Ids.{is_in_either}
use Rattle.value_ids.proofs.SetLemmas.{either_at, either_past, pass_above, pass_end, pass_no, pass_none, pass_yes}
use Rattle.value_ids.proofs.id_sets.union_of.Goals as goal

pub push-requires : goal.push-requires
push-requires c = pass_above (is_in_either c.args.count c.args.a.now c.args.b.now) c.loop-id.id c.loop-id.ids c.loop-id.invariant

pub loop-id-init : goal.loop-id-init
loop-id-init c = pass_none (is_in_either c.args.count c.args.a.now c.args.b.now) 0 c.new-ids.result c.new-ids.ensures (λ q lt. absurd (omega (arith, lt)))

pub loop-id-preserved-then-not-is_in_either : goal.loop-id-preserved-then-not-is_in_either
loop-id-preserved-then-not-is_in_either c =
    pass_no (is_in_either c.args.count c.args.a.now c.args.b.now) c.loop-id.id c.loop-id.ids
    (either_at c.args.count c.loop-id.id c.args.a.now c.args.b.now _ c.loop-id-test.true (sym c.if-not-is_in_either.true ∙ c.is_in_either.ensures)) c.loop-id.invariant

pub loop-id-preserved : goal.loop-id-preserved
loop-id-preserved c =
    pass_yes (is_in_either c.args.count c.args.a.now c.args.b.now) c.loop-id.id c.loop-id.ids c.push.new.self
    (either_at c.args.count c.loop-id.id c.args.a.now c.args.b.now _ c.loop-id-test.true (sym c.if-not-is_in_either.false ∙ c.is_in_either.ensures)) c.loop-id.invariant c.in_ok-push.ensures.ok

pub returns : goal.returns
returns c = pass_end (is_in_either c.args.count c.args.a.now c.args.b.now) c.loop-id.id c.loop-id.ids (λ q le. either_past c.args.count q c.args.a.now c.args.b.now (omega (arith, c.loop-id-test.false, le))) c.loop-id.invariant

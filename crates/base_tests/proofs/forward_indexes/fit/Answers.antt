use Rattle.std.proofs.Common.{◌<◌, ◌^◌, All, subst, arith}
use Rattle.std.proofs.lemmas.List.{take_all}
use Rattle.std.proofs.lemmas.List.Elements.{All-more}
use Rattle.std.proofs.lemmas.Nat.{one_shl}
use Rattle.base_tests.proofs.forward_indexes.fit.Goals as goal

pub loop-id-preserved : goal.loop-id-preserved
loop-id-preserved c =
    All-more (λ id. id < 2 ^ c.args.width) c.args.ids.now c.loop-id.id-index 0 (omega arith) c.loop-id.invariant (omega (arith, one_shl c.args.width 64 (omega (arith, c.requires)), c.if-id-width.false))

pub returns : goal.returns
returns c = λ _. subst (All (λ id. id < 2 ^ c.args.width)) (take_all c.loop-id.id-index c.args.ids.now (omega arith)) c.loop-id.invariant

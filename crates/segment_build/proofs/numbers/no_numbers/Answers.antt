use Rattle.std.proofs.Common.{ap, arith, map}
use Rattle.segment_build.proofs.NumberLemmas.{empty_lists, lists_more}
use Rattle.segment_build.proofs.numbers.no_numbers.Goals as goal

pub columns-init : goal.columns-init
columns-init c = ap (map (λ v. v.items)) c.in_ok-made.ensures.items

pub columns-preserved : goal.columns-preserved
columns-preserved c = lists_more c.columns.counter c.columns.made.items c.push.new.self.items c.new.result c.columns.invariant c.in_ok-push.ensures.items c.new.ensures.items

pub returns : goal.returns
returns c = empty_lists c.args.coded.now c.columns.counter (map (λ v. v.items) c.columns.made.items) c.columns.invariant (omega arith)

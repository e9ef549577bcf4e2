use Rattle.std.proofs.Common.{◌≡◌, true, rules, arith}
use Rattle.std.proofs.lemmas.Grind.{common_steps}
use Rattle.query_parser.specs.Reading.{separated_from, sees}
use Rattle.query_parser.proofs.Turns.{turns_more, turns_on, turns_less}
use Rattle.query_parser.proofs.lists.list.Goals as goal

pub returns-in_err-value : goal.returns-in_err-value
unfolding separated_from
returns-in_err-value g c =
    let e = turns_more c.args.separator g.T.Member.reading c.args.tokens.now c.turns.found c.turns.tokens c.turns.invariant in
    first_of (search rules, grind (arith, common_steps))

pub returns-then-not-eat : goal.returns-then-not-eat
unfolding separated_from
returns-then-not-eat g c =
    let e = turns_more c.args.separator g.T.Member.reading c.args.tokens.now c.turns.found c.turns.tokens c.turns.invariant in
    first_of (search rules, grind (arith, common_steps))

pub turns-smaller : goal.turns-smaller
turns-smaller g c =
    let less = turns_less c.args.separator c.turns.tokens c.read.new.tokens (c.in_ok-value.ensures.shorter) in
    first_of (search rules, grind (arith, common_steps))

pub turns-preserved : goal.turns-preserved
turns-preserved g c =
    let more : sees c.args.separator c.read.new.tokens ≡ true = first_of (search rules, grind (arith, common_steps)) in
    let t = turns_on c.args.separator g.T.Member.reading c.args.tokens.now c.turns.found c.turns.tokens c.read.new.tokens c.in_ok-value.value (c.in_ok-value.ensures.shorter) c.turns.invariant c.in_ok-value.ensures.value more in
    rw (c.in_ok-push.ensures.ok, c.eat.ensures.after) t

use Rattle.std.proofs.Common.{◌≡◌, true, rules, arith}
use Rattle.std.proofs.lemmas.Grind.{common_steps}
use Rattle.query_tokens.specs.declared.token.Kind.TheVariants.{Set}
use Rattle.query_parser.specs.Reading.{sees}
use Rattle.query_parser.specs.Query.{options_from}
use Rattle.query_parser.proofs.Takes.{option_shrinks, options_more, options_on}
use Rattle.query_parser.proofs.query.options.Goals as goal

pub returns-in_err-use_tree : goal.returns-in_err-use_tree
unfolding options_from
returns-in_err-use_tree c =
    let e = options_more c.args.tokens.now c.turns.use_tree c.turns.tokens c.turns.invariant in
    first_of (search rules, grind (arith, common_steps))

pub turns-smaller : goal.turns-smaller
turns-smaller c =
    let less = option_shrinks c.turns.use_tree c.turns.tokens c.option.new.tokens c.in_ok-use_tree.use_tree c.in_ok-use_tree.ensures in
    first_of (search rules, grind (arith, common_steps))

pub turns-preserved : goal.turns-preserved
turns-preserved c =
    let more : sees Set c.turns.tokens ≡ true = first_of (search rules, grind (arith, common_steps)) in
    options_on c.args.tokens.now c.turns.use_tree c.turns.tokens c.option.new.tokens c.in_ok-use_tree.use_tree c.turns.invariant more c.in_ok-use_tree.ensures

pub returns : goal.returns
unfolding options_from
returns c =
    let e = options_more c.args.tokens.now c.turns.use_tree c.turns.tokens c.turns.invariant in
    first_of (search rules, grind (arith, common_steps))

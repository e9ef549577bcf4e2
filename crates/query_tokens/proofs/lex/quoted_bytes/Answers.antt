use Rattle.std.proofs.Common.{◌≡◌, ◌≢◌, ◌+◌, get_or, sym, ap, ◌∙◌, arith}
use Rattle.std.proofs.lemmas.Grind.{common_steps}
use Rattle.query_tokens.proofs.Quotes.{value_after, value_after-end, end_at}
use Rattle.query_tokens.proofs.lex.quoted_bytes.Goals as goal

pub returns-else-byte-quote : goal.returns-else-byte-quote
returns-else-byte-quote c =
    let z = c.args.z.now in
    let at = c.loop-at.at in
    let first : get_or z at 0 ≡ c.args.quote = grind (arith, common_steps) in
    let second : get_or z (at + 1) 0 ≢ c.args.quote = grind (arith, common_steps) in
    sym (c.loop-at.invariant ∙ ap (value_after c.loop-at.value.items) (end_at c.args.quote z at (omega arith) first second) ∙ value_after-end c.loop-at.value.items 1)

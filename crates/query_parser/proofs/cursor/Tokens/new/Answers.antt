use Rattle.std.proofs.Common.{rules}
use Rattle.query_parser.proofs.cursor.Tokens.new.Goals as goal

pub invariant_of-result : goal.invariant_of-result
invariant_of-result c = record {
  token_is = c.token.ensures.value;
  within = c.token.ensures.front.within;
  moves = c.token.ensures.front.moves;
  ends = c.token.ensures.front.ends;
  no_blank = c.skip-blanks.ensures.over;
  small = search rules;
  text = ∣ c.skip-blanks.ensures.text c.as_bytes.ensures.utf8 ∣₁;
}

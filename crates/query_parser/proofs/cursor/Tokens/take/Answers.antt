use Rattle.std.proofs.Common.{◌≡◌, ◌∙◌, ◌-◌, length, subst, sym, ap, arith, length-drop}
use Rattle.std.specs.Str.{IsUtf8}
use Rattle.std.proofs.lemmas.Str.{IsUtf8-had}
use Rattle.query_tokens.proofs.Ends.{utf8_following, has_bytes}
use Rattle.query_parser.proofs.cursor.Tokens.take.Goals as goal

pub invariant_of-self : goal.invariant_of-self
invariant_of-self c =
    let old = c.self.inside in
    let some = has_bytes old.token.len _ (sym c.if-is_last.false ∙ c.is_last.ensures) c.self.invariant.moves in
    let text = utf8_following old.ahead.now old.token.len (IsUtf8-had old.ahead.now c.self.invariant.text) some c.self.invariant.within (c.self.invariant.ends some) in
    let left : length c.rest-rest.result.now ≡ length old.ahead.now - old.token.len = ap length c.rest-rest.ensures ∙ length-drop old.token.len old.ahead.now in
    record {
      token_is = c.token-self-inside.ensures.value;
      within = c.token-self-inside.ensures.front.within;
      moves = c.token-self-inside.ensures.front.moves;
      ends = c.token-self-inside.ensures.front.ends;
      no_blank = c.skip-blanks.ensures.over;
      small = omega (arith, left, c.self.invariant.small, c.self.invariant.within, c.skip-blanks.ensures.within);
      text = ∣ c.skip-blanks.ensures.text (subst IsUtf8 (sym c.rest-rest.ensures) text) ∣₁;
    }

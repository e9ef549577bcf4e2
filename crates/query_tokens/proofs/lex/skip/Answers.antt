use Rattle.std.proofs.Common.{ap, sym, ◌∙◌, subst, drop}
use Rattle.std.specs.Str.{IsUtf8}
use Rattle.query_tokens.proofs.Ends.{utf8_past_blanks}
use Rattle.query_tokens.proofs.lex.skip.Goals as goal

pub returns-clause-text : goal.returns-clause-text
returns-clause-text c = λ text.
    let z = c.args.z.now in
    subst IsUtf8 (sym (c.rest.ensures ∙ ap (λ n. drop n z) c.run-blanks.ensures.value)) (utf8_past_blanks z text)

use Rattle.std.proofs.Common.{◌*◌, ◌+◌, ◌∙◌, length, ap, arith, refl}
use Rattle.std.proofs.lemmas.List.{length-append, length-take}
use Rattle.dictionary.specs.Spelling.{counted}
use Rattle.dictionary.proofs.Bytes.{length-counted}
use Rattle.dictionary.proofs.Texts.{at_none, no_room, not_from_0, not_unicode, from_0}
use Rattle.dictionary.proofs.check.texts_ahead.Goals as goal

pub returns-in_err-offsets : goal.returns-in_err-offsets
returns-in_err-offsets c = at_none c.from_residual.result _ _ c.from_residual.ensures (no_room c.args.count c.args.body.now c.in_err-offsets.ensures.cases)

pub returns-then-first-ne0 : goal.returns-then-first-ne0
returns-then-first-ne0 c =
    not_from_0 c.args.count c.args.body.now c.in_ok-offsets.offsets.now c.in_ok-first.offsets.now c.in_ok-first.first c.in_ok-offsets.ensures.cases.1 c.in_ok-first.ensures.0 c.in_ok-first.ensures.1 c.if-first-ne0.true

pub returns-in_default : goal.returns-in_default
returns-in_default c = not_unicode c.args.count c.args.body.now c.in_ok-offsets.texts.now c.in_ok-offsets.ensures.cases.2 c.in_default.ensures.cases.0

pub returns : goal.returns
returns c = (
  refl,
  omega (
    arith,
    ap length c.in_ok-first.ensures.1,
    length-append (counted c.in_ok-first.first) c.in_ok-first.offsets.now,
    length-counted c.in_ok-first.first,
    ap length c.in_ok-offsets.ensures.cases.1,
    length-take (4 * c.args.count + 4) c.args.body.now,
    c.in_ok-offsets.ensures.cases.0,
    c.in_ok-offsets.ensures.cases.3,
  ),
  from_0 c.args.count c.args.body.now c.in_ok-offsets.offsets.now c.in_ok-first.offsets.now c.in-Ok.texts.now c.in_ok-first.first c.in_ok-offsets.ensures.cases.1 (c.in-Ok.ensures.cases.0 ∙ c.in_ok-offsets.ensures.cases.2)
      c.in_ok-first.ensures.1 c.if-first-ne0.false,
)

use Rattle.std.proofs.Common.{arith}
use Rattle.dictionary.proofs.Texts.{at_none}
use Rattle.segment_file.proofs.BoundReads.{cut_off, no_length, not_unicode, too_long}
use Rattle.segment_head.proofs.bounds.split_text.Goals as goal

pub returns-in_err-length : goal.returns-in_err-length
returns-in_err-length c = at_none c.from_residual.result _ _ c.from_residual.ensures (no_length c.args.bytes.now c.in_err-length.ensures)

pub returns-then-length-gt-MOST_TEXT_BYTES : goal.returns-then-length-gt-MOST_TEXT_BYTES
returns-then-length-gt-MOST_TEXT_BYTES c =
    too_long c.args.bytes.now c.in_ok-length.rest.now c.in_ok-length.length c.in_ok-length.ensures.0 c.in_ok-length.ensures.1 (omega (arith, c.if-length-gt-MOST_TEXT_BYTES.true))

pub returns-in_err-text : goal.returns-in_err-text
returns-in_err-text c =
    at_none c.from_residual-in_err-text.result _ _ c.from_residual-in_err-text.ensures
    (cut_off c.args.bytes.now c.in_ok-length.rest.now c.in_ok-length.length c.in_ok-length.ensures.0 c.in_ok-length.ensures.1 (omega (arith, c.in_err-text.ensures.cases)))

pub returns-in_default : goal.returns-in_default
returns-in_default c =
    not_unicode c.args.bytes.now c.in_ok-length.rest.now c.in_ok-text.text.now c.in_ok-length.length c.in_ok-length.ensures.0 c.in_ok-length.ensures.1 c.in_ok-text.ensures.cases.1 c.in_default.ensures.cases.0

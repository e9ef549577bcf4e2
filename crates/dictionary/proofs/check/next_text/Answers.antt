use Rattle.std.proofs.Common.{◌≡◌, ◌∙◌, ◌-◌, take, drop, ap, arith, refl, sym, subst}
use Rattle.std.proofs.lemmas.Bool.{false≢true}
use Rattle.std.proofs.lemmas.Str.{IsUtf8-take}
use Rattle.std.specs.Str.{IsCharBoundary, IsUtf8}
use Rattle.dictionary.specs.Reading.{Left}
use Rattle.dictionary.proofs.Texts.{at_none, no_boundary, no_offset, ends_before, too_long, next_is}
use Rattle.dictionary.proofs.check.next_text.Goals as goal

pub returns-in_err-end : goal.returns-in_err-end
returns-in_err-end c =
    let left : Left = record { start = c.args.start; offsets = c.args.offsets.now; texts = c.args.texts.now } in
    at_none c.from_residual.result _ _ c.from_residual.ensures (no_offset left c.in_err-end.ensures)

pub returns-in_err-length : goal.returns-in_err-length
returns-in_err-length c =
    let left : Left = record { start = c.args.start; offsets = c.args.offsets.now; texts = c.args.texts.now } in
    at_none c.from_residual-in_err-length.result _ _ c.from_residual-in_err-length.ensures
    (ends_before left c.in_ok-end.end c.in_ok-end.offsets.now c.requires c.in_ok-end.ensures.0 c.in_ok-end.ensures.1 (omega (arith, c.in_err-length.ensures)))

pub returns-then-length-gt-MOST_TEXT_BYTES : goal.returns-then-length-gt-MOST_TEXT_BYTES
returns-then-length-gt-MOST_TEXT_BYTES c =
    let left : Left = record { start = c.args.start; offsets = c.args.offsets.now; texts = c.args.texts.now } in
    too_long left c.in_ok-end.end c.in_ok-end.offsets.now c.requires c.in_ok-end.ensures.0 c.in_ok-end.ensures.1 (omega (arith, c.in_ok-length.ensures))

pub returns-then-not-is_char_boundary : goal.returns-then-not-is_char_boundary
returns-then-not-is_char_boundary c =
    let left : Left = record { start = c.args.start; offsets = c.args.offsets.now; texts = c.args.texts.now } in
    no_boundary left c.in_ok-end.end c.in_ok-end.offsets.now c.requires c.in_ok-end.ensures.0 c.in_ok-end.ensures.1 c.utf8.texts
    (λ b. false≢true (c.if-not-is_char_boundary.ensures.test.1 (subst (IsCharBoundary left.texts) (sym c.in_ok-length.ensures.1) b)))

pub returns : goal.returns
returns c =
    let left : Left = record { start = c.args.start; offsets = c.args.offsets.now; texts = c.args.texts.now } in
    let len : c.in_ok-length.length ≡ c.in_ok-end.end - left.start = c.in_ok-length.ensures.1 in
    let at : IsCharBoundary left.texts c.in_ok-length.length = c.if-not-is_char_boundary.ensures.test.0 refl in
    let unicode : IsUtf8 c.split_at.result.0.now = subst IsUtf8 (sym c.split_at.ensures.front) (IsUtf8-take left.texts c.in_ok-length.length c.utf8.texts at) in
    next_is left c.in_ok-end.end c.in_ok-end.offsets.now c.split_at.result.0.now c.split_at.result.1.now c.requires c.in_ok-end.ensures.0 c.in_ok-end.ensures.1 c.in_ok-length.ensures.0
    (omega (arith, c.if-length-gt-MOST_TEXT_BYTES.false)) (c.split_at.ensures.front_len ∙ len) (c.split_at.ensures.front ∙ ap (λ n. take n left.texts) len)
    (c.split_at.ensures.back ∙ ap (λ n. drop n left.texts) len) unicode

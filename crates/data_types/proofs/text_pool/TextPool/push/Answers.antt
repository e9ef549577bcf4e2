use Rattle.std.proofs.Common.{◌∙◌, ◌++◌, length, refl, ap, rules}
use Rattle.std.proofs.lemmas.Str.{is_utf8-from_IsUtf8}
use Rattle.data_types.specs.declared.text_pool.Span.{Span}
use Rattle.data_types.proofs.PoolLemmas.{added, added-are, kept}
use Rattle.data_types.proofs.TextLemmas.{on-err}
use Rattle.data_types.proofs.text_pool.TextPool.push.Goals as goal

pub returns-in_err-push-clause-err : goal.returns-in_err-push-clause-err
returns-in_err-push-clause-err c =
    on-err c.from_residual-in_err-push.result _
    (kept c.self.inside.bytes.items c.extend_from_slice.new.self.items c.as_bytes.result.now c.self.inside.spans.items c.push.new.self.items c.args.self.now
    c.in_ok-extend_from_slice.ensures.items c.in_err-push.ensures.items c.self.invariant c.self.view_is)

pub invariant_of-self-2 : goal.invariant_of-self-2
invariant_of-self-2 c =
    let span : Span = record { start = c.len-start.result; len = length c.args.text.now } in
    added-are c.self.inside.bytes.items c.extend_from_slice.new.self.items c.args.text.now c.self.inside.spans.items c.push.new.self.items span
    (c.in_ok-extend_from_slice.ensures.items ∙ ap (λ t. c.self.inside.bytes.items ++ t) c.as_bytes.ensures.value) c.in_ok-push.ensures.items
    (search rules) refl c.self.invariant (is_utf8-from_IsUtf8 c.args.text.now c.utf8.text)

pub returns-clause-ok : goal.returns-clause-ok
returns-clause-ok c =
    let span : Span = record { start = c.len-start.result; len = length c.args.text.now } in
    added c.self.inside.bytes.items c.extend_from_slice.new.self.items c.args.text.now c.self.inside.spans.items c.push.new.self.items span
    (c.in_ok-extend_from_slice.ensures.items ∙ ap (λ t. c.self.inside.bytes.items ++ t) c.as_bytes.ensures.value) c.in_ok-push.ensures.items
    (search rules) refl c.self.invariant c.args.self.now c.self.view_is

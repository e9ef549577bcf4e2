use Rattle.std.proofs.Common.{◌≡◌, ◌<◌, ◌≤◌, ◌+◌, ◌-◌, ◌*◌, length, arith, le_refl, refl, subst, ap}
use Rattle.std.proofs.Common.{◌∙◌}
use Rattle.std.proofs.lemmas.Result.{IfOk-weaker}
use Rattle.outside.specs.Reads.{LogsOn, LogsUpTo}
use Rattle.outside.proofs.ReadLemmas.{logs-none, logs-up, on-err}
use Rattle.star_file.specs.Reading.{doc_width}
use Rattle.star_file.proofs.RangeSteps as steps
use Rattle.star_file.proofs.reading.read_docs.Goals as goal

pub returns-then-end-place-clause-log_of_fault : goal.returns-then-end-place-clause-log_of_fault
returns-then-end-place-clause-log_of_fault g c =
    let w = doc_width c.args.shape.now in
    let from = c.args.from in
    let to = c.args.to in
    let offset = c.args.place.now.offset in
    let log = g.S.Shelf.log c.args.shelf.now in
    let s = steps.span w from to c.requires.order in
    logs-none c.args.place.now.file (offset + from * w) (offset + to * w) log log
    (omega (arith, s)) refl

pub docs_from-requires-clause-width : goal.docs_from-requires-clause-width
docs_from-requires-clause-width g c =
    let from = c.args.from in
    let to = c.args.to in
    let w = c.width_of-width.result in
    let s = steps.span w from to c.requires.order in
    let e = c.in-Ok.ensures.size in
    let n : length c.in-Ok.bytes ≡ (to - from) * w = omega (arith, s, e) in
    n ∙ ap (λ k. (to - from) * k) c.width_of-width.ensures.value

pub returns-clause-docs : goal.returns-clause-docs
returns-clause-docs g c =
    let held = g.S.Shelf.held c.args.shelf.now in
    let place = c.args.place.now in
    let s = c.args.shape.now in
    let w = doc_width s in
    let some : c.args.from < c.args.to = omega (arith, c.requires.order, c.if-from-to.false) in
    let within : c.args.to * w ≤ place.length =
    subst (λ k. c.args.to * k ≤ place.length) c.width_of-width.ensures.value
    (omega (arith, c.if-end-place.false)) in
    let part = steps.part_at held c.as_str.result.now place.file place.offset c.args.from
    c.args.to w c.width_of-width.result c.in-Ok.bytes c.in-Ok.bytes c.as_str.ensures
    refl c.width_of-width.ensures.value c.in-Ok.ensures.part in
    IfOk-weaker c.docs_from.result _ _ (λ table h.
    steps.docs_read place s c.args.counts.now c.args.from c.args.to c.in-Ok.bytes some
    within
    held part table.docs h) c.docs_from.ensures.docs

pub returns-clause-number : goal.returns-clause-number
returns-clause-number g c =
    IfOk-weaker c.docs_from.result _ _ (λ table h.
    steps.as_many c.args.shape.now c.args.counts.now (c.args.to - c.args.from)
    c.in-Ok.bytes table.docs h) c.docs_from.ensures.docs

pub returns-clause-log_of_fault : goal.returns-clause-log_of_fault
returns-clause-log_of_fault g c =
    let place = c.args.place.now in
    let w = doc_width c.args.shape.now in
    let first = place.offset + c.args.from * w in
    let end = place.offset + c.args.to * w in
    let old = g.S.Shelf.log c.args.shelf.now in
    let new = g.S.Shelf.log c.read_part.new.shelf in
    on-err c.docs_from.result (LogsUpTo place.file first end old new)
    (logs-up place.file first end end old new new (le_refl _)
    (subst (λ k. LogsOn place.file (place.offset + c.args.from * k) (place.offset + c.args.to * k)
    old new) c.width_of-width.ensures.value
    (subst (λ name. LogsOn name (place.offset + c.args.from * c.width_of-width.result)
    (place.offset + c.args.to * c.width_of-width.result) old new) c.as_str.ensures
    c.in-Ok.ensures.log)) refl)

pub returns-clause-bad : goal.returns-clause-bad
returns-clause-bad g c bad =
    let held = g.S.Shelf.held c.args.shelf.now in
    let place = c.args.place.now in
    let s = c.args.shape.now in
    let w = doc_width s in
    let some : c.args.from < c.args.to = omega (arith, c.requires.order, c.if-from-to.false) in
    let within : c.args.to * w ≤ place.length =
    subst (λ k. c.args.to * k ≤ place.length) c.width_of-width.ensures.value
    (omega (arith, c.if-end-place.false)) in
    let part = steps.part_at held c.as_str.result.now place.file place.offset c.args.from
    c.args.to w c.width_of-width.result c.in-Ok.bytes c.in-Ok.bytes c.as_str.ensures
    refl c.width_of-width.ensures.value c.in-Ok.ensures.part in
    steps.docs_bad place s c.args.counts.now c.args.from c.args.to c.in-Ok.bytes some within
    held part (c.docs_from.ensures.refused.bad bad)

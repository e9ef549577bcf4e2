use Rattle.star_file.proofs.DocSteps as steps
use Rattle.star_file.proofs.SpelledSteps.{doc_told}
use Rattle.star_file.proofs.doc_reading.is_doc.Goals as goal

pub returns-then-not-are_ids : goal.returns-then-not-are_ids
returns-then-not-are_ids c = λ e s.
    let parts = c.between.ensures.part in
    (rw c.if-not-are_ids.true at c.are_ids.ensures) (record {
      ids = e.0;
      are = s.ids_are;
      bytes_are = steps.ids_part c.args.shape.now c.args.counts.now c.args.bytes.now e s
          c.between.result.now parts;
    })

pub returns : goal.returns
returns c = doc_told c.args.shape.now c.args.counts.now c.args.bytes.now c.between.result.now
    c.between-2.result.now c.as_slice.result.now c.as_slice.ensures c.between.ensures.part
    c.between-2.ensures.part (rw c.if-not-are_ids.false at c.are_ids.ensures) c.are_states.result
    c.are_states.ensures

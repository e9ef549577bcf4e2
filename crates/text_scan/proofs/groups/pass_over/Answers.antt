use Rattle.std.proofs.Common.{◌∙◌, ◌++◌, [], ap}
use Rattle.csv_ingest.specs.Blocks.{RowsOrFault}
use Rattle.csv_row.specs.InOrder.{after}
use Rattle.csv_ingest.specs.NumberBlocks.{Gives}
use Rattle.values.specs.Columns.{rows_of}
use Rattle.text_scan.specs.Parts.{IsTextFault}
use Rattle.text_scan.proofs.TextLemmas.{after-all, after-more, after-none, err-halted, stops-after}
use Rattle.text_scan.proofs.groups.pass_over.Goals as goal

pub rest-init : goal.rest-init
rest-init c = record {
  blocks = c.requires;
  so_far = λ whole h. ([], whole, h, after-none whole);
}

pub rest-preserved : goal.rest-preserved
rest-preserved c = record {
  blocks = c.in_ok-_block.ensures.blocks;
  so_far = λ whole h.
      let (done, more, left, is) = c.rest.invariant.so_far whole h in
      let g = rw c.in-Some.is at (c.in_ok-_block.ensures.ok more left) in
      (done ++ rows_of g.read, g.more, g.gives, is ∙ ap (after done) g.is ∙ after-more done (rows_of g.read) g.more);
}

pub returns-in_err-_block-clause-err : goal.returns-in_err-_block-clause-err
returns-in_err-_block-clause-err c =
    err-halted c.from_residual-in_err-_block.result (λ why. (whole : RowsOrFault) → Gives c.args.blocks.now whole → IsTextFault whole why) c.in_err-_block.field-0.0 c.from_residual-in_err-_block.ensures.1
    (λ whole h.
    let (done, more, left, is) = c.rest.invariant.so_far whole h in
    stops-after done whole more c.in_err-_block.field-0.0 is (c.in_err-_block.ensures.err more left))

pub returns-clause-ok : goal.returns-clause-ok
returns-clause-ok c = λ whole h.
    let (done, more, left, is) = c.rest.invariant.so_far whole h in
    (done, after-all done whole more is (rw c.in_default.is at (c.in_ok-_block.ensures.ok more left)))

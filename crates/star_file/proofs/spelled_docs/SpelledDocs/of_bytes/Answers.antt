use Rattle.std.proofs.Common.{List, sym, subst}
use Rattle.state_columns.specs.Docs.{Doc}
use Rattle.star_file.specs.Reading.{SpellDocs}
use Rattle.star_file.proofs.SpelledSteps.{own_docs}
use Rattle.star_file.proofs.spelled_docs.SpelledDocs.of_bytes.Goals as goal

pub invariant_of-result : goal.invariant_of-result
invariant_of-result c =
    let shape = c.args.shape.now in
    let counts = c.args.counts.now in
    record {
      readable = c.requires.readable;
      width_is = c.width_of.ensures.value;
      size = c.requires.size;
      spelled = subst (λ (docs : List Doc). SpellDocs shape counts c.args.count c.args.bytes docs)
          (sym (own_docs shape counts c.requires.readable.counts_are c.args.count c.args.bytes
          c.requires.spelled.0 c.requires.spelled.1)) c.requires.spelled.1;
    }

pub returns : goal.returns
returns c docs h =
    let shape = c.args.shape.now in
    λ j. record {
      dims = shape.dims;
      kinds = shape.kinds;
      docs = own_docs shape c.args.counts.now c.requires.readable.counts_are c.args.count
          c.args.bytes docs h j;
      spare = 0;
    }

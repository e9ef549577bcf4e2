use Rattle.std.proofs.Common.{◌∙◌, ◌++◌, ap}
use Rattle.segment_file.specs.Bounds.{bounds_bytes, ends_of}
use Rattle.segment_file.proofs.BoundLemmas.{column_written}
use Rattle.segment_head.proofs.Loops.{written_stop}
use Rattle.segment_head.proofs.bounds.push_bounds.Goals as goal

pub loop-dictionary-preserved : goal.loop-dictionary-preserved
loop-dictionary-preserved c =
    let out = c.loop-dictionary.out.items in
    column_written c.args.dictionaries.now c.loop-dictionary.dictionary-index c.dictionary-item.result c.args.out.now.items out c.push_ends.new.out.items c.loop-dictionary-test.true
    (c.in_ok-push_ends.ensures ∙ ap (λ d. out ++ bounds_bytes (ends_of d.values)) c.dictionary-item.is) c.loop-dictionary.invariant

pub returns : goal.returns
returns c = written_stop c.args.dictionaries.now c.loop-dictionary.dictionary-index c.loop-dictionary.out.items _ c.loop-dictionary-test.false c.loop-dictionary.invariant

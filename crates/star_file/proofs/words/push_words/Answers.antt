use Rattle.std.proofs.Common.{◌∷◌, [], get_or}
use Rattle.state_columns.proofs.RegionLemmas.{any_default}
use Rattle.star_file.specs.Bytes.{words}
use Rattle.star_file.proofs.Written as steps
use Rattle.star_file.proofs.words.push_words.Goals as goal

pub loop-i-preserved : goal.loop-i-preserved
loop-i-preserved c =
    let xs = c.args.numbers.now in
    let i = c.loop-i.i in
    steps.more words (λ x. words (x ∷ [])) steps.word_none steps.word_first xs i (get_or xs i 0)
    c.args.out.now.items c.loop-i.out.items c.push_word.new.out.items c.loop-i-test.true
    (any_default xs i 0 (get_or xs i 0) c.loop-i-test.true) c.loop-i.invariant
    c.in_ok-push_word.ensures.ok

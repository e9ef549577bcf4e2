use Rattle.std.proofs.Common.{◌∙◌, ◌++◌, ap, arith}
use Rattle.std.proofs.lemmas.List.{take_all}
use Rattle.inverted_lists.proofs.WordLemmas.{spelled-words, words-more, words_bytes}
use Rattle.inverted_lists.proofs.words.push_words.Goals as goal

pub loop-word-preserved : goal.loop-word-preserved
loop-word-preserved c =
    words-more c.args.words.now c.loop-word.out.items c.extend_from_slice.new.self.items c.args.out.now.items c.loop-word.word-index c.loop-word-test.true c.loop-word.invariant
    (c.in_ok-extend_from_slice.ensures.items ∙ ap (λ bytes. c.loop-word.out.items ++ bytes) c.to_be_bytes.ensures)

pub returns-clause-ok : goal.returns-clause-ok
returns-clause-ok c =
    c.loop-word.invariant
    ∙ ap (λ words. c.args.out.now.items ++ words_bytes words) (take_all c.loop-word.word-index c.args.words.now (omega arith))
    ∙ ap (λ bytes. c.args.out.now.items ++ bytes) (spelled-words c.args.words.now)

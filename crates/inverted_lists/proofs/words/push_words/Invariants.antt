use Rattle.std.proofs.Common.{◌≡◌, ◌++◌, take}
use Rattle.inverted_lists.proofs.WordLemmas.{words_bytes}
use Rattle.inverted_lists.proofs.words.push_words.Given as goal

abbrev pub invariant-loop-word : goal.invariant-loop-word
invariant-loop-word l = l.out.items ≡ l.fn.out.items ++ words_bytes (take l.word-index l.words)

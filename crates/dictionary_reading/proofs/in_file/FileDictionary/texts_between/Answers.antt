use Rattle.std.proofs.Common.{arith}
use Rattle.value_ids.proofs.MatchLemmas.{if_ok}
use Rattle.dictionary_reading.proofs.Lookups.{texts_over, texts_read}
use Rattle.dictionary_reading.proofs.in_file.FileDictionary.texts_between.Goals as goal

pub returns-then-self-base-clause-bad : goal.returns-then-self-base-clause-bad
returns-then-self-base-clause-bad g c = λ _. texts_over c.args.self.now (g.S.Shelf.held c.args.shelf.now) c.args.end c.requires.texts (omega (arith, c.if-self-base.true, c.from.ensures, c.from-2.ensures))

pub returns-clause-of : goal.returns-clause-of
returns-clause-of g c =
    if_ok c.read_part.result _ _
    (λ body read. texts_read c.args.self.now (g.S.Shelf.held c.args.shelf.now) c.args.start c.args.end _ _ body c.requires.texts (omega (arith, c.from.ensures, c.from-3.ensures)) (omega (arith, c.from-4.ensures)) read)
    c.read_part.ensures.bytes

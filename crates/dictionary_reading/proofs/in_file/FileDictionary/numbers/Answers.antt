use Rattle.std.proofs.Common.{arith}
use Rattle.dictionary_reading.proofs.Lookups.{numbers_block}
use Rattle.dictionary_reading.proofs.in_file.FileDictionary.numbers.Goals as goal

pub returns-clause-of : goal.returns-clause-of
returns-clause-of g c =
    numbers_block c.args.self.now (g.S.Shelf.held c.args.shelf.now) c.args.from c.args.to _ _ c.in-Ok.body _ c.new-2.result c.requires.numbers c.requires.within (omega (arith, c.from.ensures, c.from-2.ensures)) (omega (arith, c.from.ensures, c.from-2.ensures)) c.new-2.ensures c.in-Ok.ensures.bytes

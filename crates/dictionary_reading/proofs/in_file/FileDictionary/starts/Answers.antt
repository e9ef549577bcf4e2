use Rattle.std.proofs.Common.{arith}
use Rattle.value_ids.proofs.MatchLemmas.{if_ok}
use Rattle.dictionary_reading.proofs.Lookups.{starts_read}
use Rattle.dictionary_reading.proofs.in_file.FileDictionary.starts.Goals as goal

pub returns-clause-of : goal.returns-clause-of
returns-clause-of g c =
    if_ok c.read_part.result _ _
    (λ starts read. starts_read c.args.self.now (g.S.Shelf.held c.args.shelf.now) c.args.from c.args.to _ _ starts c.requires.texts c.requires.order c.requires.within (omega (arith, c.from.ensures, c.from-2.ensures)) (omega (arith, c.from.ensures, c.from-2.ensures)) read)
    c.read_part.ensures.bytes

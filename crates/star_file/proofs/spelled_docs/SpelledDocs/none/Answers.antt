use Rattle.std.proofs.Common.{[]}
use Rattle.star_file.proofs.spelled_docs.SpelledDocs.none.Goals as goal

pub of_bytes-requires-clause-spelled : goal.of_bytes-requires-clause-spelled
of_bytes-requires-clause-spelled c = ([], tt)

pub returns : goal.returns
returns c = c.of_bytes.ensures [] tt

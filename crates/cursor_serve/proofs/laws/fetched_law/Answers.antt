use Rattle.cursor_serve.proofs.FetchLemmas.{fetched_own}
use Rattle.cursor_serve.proofs.laws.fetched_law.Goals as goal

pub returns : goal.returns
returns c = fetched_own

use Rattle.std.specs.FinMap.{get-empty}
use Rattle.outside.specs.Files.{name_order}
use Rattle.table_store.proofs.laws.empty_stands_law.Goals as goal

pub returns : goal.returns
returns c = λ name. get-empty name_order name

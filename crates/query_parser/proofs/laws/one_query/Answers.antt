use Rattle.std.proofs.Common.{◌≡◌, Result, Ok, sym, ◌∙◌}
use Rattle.query_tokens.specs.declared.tree.Query.{Query}
use Rattle.query_tokens.specs.declared.fault.QueryFault.{QueryFault}
use Rattle.query_parser.proofs.Whole.{parsed_is}
use Rattle.query_parser.proofs.laws.one_query.Goals as goal

same_ok : (r : Result Query QueryFault) (a b : Query) → r ≡ Ok a → r ≡ Ok b → a ≡ b
same_ok r a b e f = let g : Ok a ≡ r = sym e in let conjunction = g ∙ f in cc

pub returns : goal.returns
returns c = λ text a b s t. same_ok _ a b (parsed_is text a s) (parsed_is text b t)

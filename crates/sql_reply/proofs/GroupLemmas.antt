-- The groups of a query over no rows.
use Rattle.std.proofs.Common.{Bool, true, false, cond, List, [], ◌∷◌, Option, Some, None, IfSome, sym, subst}
use Rattle.std.specs.FinMap as finite
use Rattle.values.specs.declared.value.Value.{Value}
use Rattle.agg_laws.specs.declared.states.AggState.{AggState}
use Rattle.agg_laws.specs.Rows.{RowFits}
use Rattle.agg_laws.specs.laws.States as states
use Rattle.table_schema.specs.declared.query.Agg.{Agg}
use Rattle.group_table.specs.Groups.{groups_of, is_key, states_of}
use Rattle.group_table.specs.Shape.{Shape}
use Rattle.group_table.proofs.GroupsLemmas.{found}

no_row : (aggs : List Agg) → RowFits (states_of aggs []) 0
no_row [] = tt
no_row (agg ∷ aggs) = (states.fits_of agg.kind [] tt, no_row aggs)

-- over no rows no aggregate is of a value
pub none_fit : (shape : Shape) (key : List Value) → IfSome (finite.get (groups_of shape []) key) (λ states. RowFits states 0)
none_fit shape key = subst (λ (o : Option (List AggState)). IfSome o (λ states. RowFits states 0)) (sym (found shape [] key)) (by (is_key shape.groups [] key))
  where
    by : (b : Bool) → IfSome (cond b (Some (states_of shape.aggs [])) None) (λ states. RowFits states 0)
    by true = no_row shape.aggs
    by false = tt

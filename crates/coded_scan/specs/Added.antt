-- Rows that were added to the groups of a query, or that make too many groups.
use Rattle.std.specs.Prelude.{◌≡◌, ℕ, List, Result, Err, OnOk}
use Rattle.std.specs.FinMap as finite
use Rattle.values.specs.declared.value.Value.{Value}
use Rattle.table_schema.specs.declared.query.BoundQuery.{BoundQuery}
use Rattle.group_table.specs.Kept.{KeptGroups, groups_in}
use Rattle.group_table.specs.declared.fault.TableFault.{TableFault}
use Rattle.group_table.specs.declared.fault.TableFault.TheVariants.{TooManyGroups}
use Rattle.scan_engine.specs.Scanned.{AddsRows, IsOverfull}

-- these rows, of `count`, were added; or there are too many groups with them, and the table is full
pub record AddsOrFills {A : Type 0} (query : BoundQuery) (count : ℕ) (rows : List (List Value))
    (old new : KeptGroups) (result : Result A TableFault) : Type 0 where
  pub ok : OnOk result (AddsRows query count rows old new)
  pub full : result ≡ Err TooManyGroups → IsOverfull query rows old
  pub filled : result ≡ Err TooManyGroups → finite.len (groups_in new) ≡ old.most

-- The rows of segments that are added to groups.
use Rattle.std.proofs.Common.{◌≡◌, ◌∙◌, ◌<◌, ◌≤◌, ◌++◌, ℕ, List, length, take, Option, Some, None, Result, Ok, Err, sym, ap, subst, arith}
use Rattle.std.specs.Prelude.{OnOk}
use Rattle.std.specs.FinMap as finite
use Rattle.std.proofs.lemmas.List.{take_all}
use Rattle.std.proofs.lemmas.List.Elements.{filter-append}
use Rattle.std.proofs.lemmas.Slice.Zip.{AllZip-long}
use Rattle.outside.specs.Files.{Files}
use Rattle.values.specs.declared.value.Value.{Value}
use Rattle.table_schema.specs.Conditions.{all_hold}
use Rattle.table_schema.specs.declared.query.BoundQuery.{BoundQuery}
use Rattle.table_schema.specs.declared.table.Table.{Table}
use Rattle.state_pool.specs.Pool.{Pool}
use Rattle.group_table.specs.Groups.{Adds, Groups, groups_of}
use Rattle.group_table.specs.Kept.{IsNew, IsTable, KeptGroups, groups_in}
use Rattle.group_table.specs.Pooled.{PooledTable, in_pool}
use Rattle.group_table.specs.Shape.{Shape, shape_of}
use Rattle.group_table.proofs.GroupsLemmas.{of_both, one}
use Rattle.group_table.proofs.KeptLemmas.{len_once}
use Rattle.scan_engine.specs.Scanned.{HaveAtMost, selected}
use Rattle.scan_engine.proofs.AddLemmas.{at_most_more, overfull_after}
use Rattle.segment_head.specs.Stored.{HasImage, stored_rows}
use Rattle.segment_head.specs.declared.stored.Stored.{Stored}
use Rattle.sql_reply.proofs.GroupLemmas.{none_fit}
use Rattle.query_executor.specs.Passes.{IsPassOver, kept_by}
use Rattle.query_executor.specs.Steps.{AddsFirst, AreOverfull}
use Rattle.query_executor.specs.declared.pass.Pass.{Pass}
use Rattle.cursors.specs.Added.{AddsAll, OverRows}

pub ok_so : {T E : Type 0} (r : Result T E) (P Q : Type 0) → (P → Q) → OnOk r P → OnOk r Q
ok_so (Ok x) P Q f p = f p
ok_so (Err e) P Q f p = tt

-- no aggregate of a new table is of a value
pub new_fits : (query : BoundQuery) (most n : ℕ) (groups : KeptGroups) → IsNew query most groups → HaveAtMost n (groups_in groups)
new_fits query most n groups new =
    at_most_more (groups_in groups) 0 n (omega arith) (subst (λ (g : Groups). HaveAtMost 0 g) (sym new.groups_are) (none_fit (shape_of query)))

-- a table has no more groups than it may have
pub within_most : (t : KeptGroups) → IsTable t → finite.len (groups_in t) ≤ t.most
within_most t table = let same = len_once t.groups table.once in let le = table.at_most in omega (arith, same, le)

module _ (query : BoundQuery) (table : Table) (held : Option Files) (stored : List Stored) where
  -- what a pass adds to the groups that were lent to it, in the pool that was lent to it
  pub added_so : (old new : Pass) (groups : PooledTable) (pool : Pool) → old.groups ≡ groups → old.pool ≡ pool → IsPassOver query table held stored old new
      → AddsAll query table held stored (in_pool groups pool) (kept_by new)
  added_so old new groups pool same is made = subst (λ p. AddsAll query table held stored (in_pool groups p) (kept_by new)) is
      (subst (λ t. AddsAll query table held stored (in_pool t old.pool) (kept_by new)) same (record {
        of_query = made.of_query;
        most = made.most;
        fits = made.fits;
        groups = made.groups;
      }))

  pub overfull_so : (lent groups : PooledTable) (own pool : Pool) → lent ≡ groups → own ≡ pool → AreOverfull query table held stored (in_pool lent own) → AreOverfull query table held stored (in_pool groups pool)
  overfull_so lent groups own pool same is over = subst (λ p. AreOverfull query table held stored (in_pool groups p)) is
      (subst (λ t. AreOverfull query table held stored (in_pool t own)) same over)

-- what holds of the rows of segments
pub over_so : (table : Table) (held : Option Files) (stored : List Stored) (P Q : List (List Value) → Type 0) → ((rows : List (List Value)) → P rows → Q rows) → OverRows table held stored P → OverRows table held stored Q
over_so table None stored P Q f h = tt
over_so table (Some files) stored P Q f h = λ segments all. f (stored_rows table segments) (h segments all)

-- ---- groups of rows, with those of segments

module _ (query : BoundQuery) (done rows : List (List Value)) (old : KeptGroups) (had : groups_in old ≡ groups_of (shape_of query) (selected query done)) where
  abbrev shape : Shape
  shape = shape_of query

  abbrev xs : List (List Value)
  xs = selected query done

  abbrev ys : List (List Value)
  ys = selected query rows

  pub both_selected : xs ++ ys ≡ selected query (done ++ rows)
  both_selected = sym (filter-append (λ row. all_hold row query.conjuncts) done rows)

  pub both_added : (new : KeptGroups) → Adds shape ys (groups_in old) (groups_in new) → groups_in new ≡ groups_of shape (selected query (done ++ rows))
  both_added new adds =
      one shape ys (groups_of shape xs) (groups_in new) (groups_of shape (xs ++ ys)) (subst (λ (g : Groups). Adds shape ys g (groups_in new)) had adds) (of_both shape xs ys)
      ∙ ap (groups_of shape) both_selected

pub added_rows : (query : BoundQuery) (table : Table) (held : Option Files) (stored : List Stored) (done : List (List Value)) (old new : KeptGroups)
    → groups_in old ≡ groups_of (shape_of query) (selected query done) → AddsFirst query table held stored (length stored) old new
    → OverRows table held stored (λ rows. groups_in new ≡ groups_of (shape_of query) (selected query (done ++ rows)))
added_rows query table None stored done old new had so = tt
added_rows query table (Some files) stored done old new had so = λ segments all.
    let whole : take (length stored) segments ≡ segments = take_all (length stored) segments (omega (arith, AllZip-long (HasImage table files) stored segments all)) in
    both_added query done (stored_rows table segments) old had new
    (subst (λ l. Adds (shape_of query) (selected query (stored_rows table l)) (groups_in old) (groups_in new)) whole (so segments all))

pub overfull_rows : (query : BoundQuery) (table : Table) (held : Option Files) (stored : List Stored) (done : List (List Value)) (old : KeptGroups) (most : ℕ)
    → groups_in old ≡ groups_of (shape_of query) (selected query done) → old.most ≡ most → AreOverfull query table held stored old
    → OverRows table held stored (λ rows. most < finite.len (groups_of (shape_of query) (selected query (done ++ rows))))
overfull_rows query table None stored done old most had is over = tt
overfull_rows query table (Some files) stored done old most had is over = λ segments all.
    let rows : List (List Value) = stored_rows table segments in
    subst (λ n. n < finite.len (groups_of (shape_of query) (selected query (done ++ rows)))) is
    (subst (λ l. old.most < finite.len (groups_of (shape_of query) l)) (both_selected query done rows old had)
    (overfull_after query (selected query done) (selected query rows) old (over segments all) had))

-- What a segment adds to the groups of a query.
use Rattle.std.proofs.Common.{◌≡◌, ◌+◌, ◌-◌, ℕ, List, [], Option, Some, None, IfSome, length, refl, sym, subst, arith}
use Rattle.outside.specs.Files.{Files}
use Rattle.values.specs.declared.value.Value.{Value}
use Rattle.agg_laws.specs.Numbers.{most_values}
use Rattle.table_schema.specs.declared.query.BoundQuery.{BoundQuery}
use Rattle.table_schema.specs.declared.table.Table.{Table}
use Rattle.table_schema.specs.ValidTable.{IsValidTable}
use Rattle.group_table.specs.Kept.{IsTableOf, KeptGroups, groups_in}
use Rattle.group_table.proofs.GroupsLemmas.{none as no_rows}
use Rattle.group_table.specs.Shape.{shape_of}
use Rattle.scan_engine.specs.Scanned.{AddsRows, HaveAtMost, IsOverfull, selected}
use Rattle.scan_engine.proofs.AddLemmas.{at_most_more}
use Rattle.segment_head.specs.Heads.{IsHeadOf, Seen}
use Rattle.segment_file.specs.Ordered.{ordered}
use Rattle.segment_file.specs.declared.part.Part.{Part}
use Rattle.segment_plan.specs.Laws.{HeadTells, NoneHolds, TellsOf}
use Rattle.segment_head.specs.Stored.{IsNoImage, IsOfImage, HasImage, HasNoImage}
use Rattle.segment_scan.specs.Images.{AddsImage, IsBadIn, IsImageOverfull}
use Rattle.star_answer.specs.Segments.{AddsAnswer}
use Rattle.query_executor.specs.Steps.{AddsGroups, AddsStored, IsStoredOverfull, selected_in}
use Rattle.segment_opening.specs.Opened.{IsHeadIn}
use Rattle.query_executor.proofs.PlanLemmas.{none_selected}
use Rattle.segment_head.proofs.SectionLemmas.{rows_few}
use Rattle.segment_head.specs.declared.stored.Stored.{Stored}

pub room : (table : Table) (head : Seen) (groups : KeptGroups) → IsHeadOf table head → HaveAtMost (most_values - 1048576) (groups_in groups) → HaveAtMost (most_values - head.rows) (groups_in groups)
room table head groups of fits = let at_most = rows_few table head of in at_most_more (groups_in groups) (most_values - 1048576) (most_values - head.rows) (omega (arith, at_most)) fits

module _ (query : BoundQuery) (table : Table) (segment : Stored) (head : Seen) where
  -- no row of the segment satisfies the query, and nothing is added
  pub adds_none : HeadTells → IsValidTable table → (held : Option Files) (groups : KeptGroups) → IsTableOf query groups → ((rows : List (List Value)) → TellsOf table rows head → NoneHolds query.conjuncts rows)
      → IsHeadIn table held segment head → AddsStored query table held segment groups groups
  adds_none law valid held groups of none is = record {
    of_query = of;
    most = refl;
    fits = λ n fits. at_most_more (groups_in groups) n (n + 1048576) (omega arith) fits;
    told = by held is;
  }
    where
      by : (h : Option Files) → IsHeadIn table h segment head → IfSome h (λ files. (rows : List (List Value)) → HasImage table files segment rows → AddsGroups query (selected_in query table rows) groups groups)
      by None is = tt
      by (Some files) is = λ rows has.
          let i = is rows has in
          let tells = law table i.name i.file rows i.whole head valid i.named i.can i.is_head i.part in
          let no_row : selected_in query table rows ≡ [] = none_selected query (ordered table.settings.sorted rows) (none (ordered table.settings.sorted rows) tells) in
          subst (λ l. AddsGroups query l groups groups) (sym no_row) (no_rows (shape_of query) (groups_in groups))

  -- the rows that satisfy the filter were added, whether by a scan or from a star-tree
  adds_by : (held : Option Files) (old new : KeptGroups) → IsHeadOf table head → IsTableOf query new → new.most ≡ old.most → ((n : ℕ) → HaveAtMost n (groups_in old) → HaveAtMost (n + head.rows) (groups_in new))
      → IfSome held (λ files. (rows : List (List Value)) → IsOfImage table files rows head → (head.rows ≡ length rows) × AddsRows query (length rows) (selected query (ordered table.settings.sorted rows)) old new)
      → IsHeadIn table held segment head → AddsStored query table held segment old new
  adds_by held old new of of_query most fits told is = record {
    of_query = of_query;
    most = most;
    fits = λ n at_most. let small = rows_few table head of in at_most_more (groups_in new) (n + head.rows) (n + 1048576) (omega (arith, small)) (fits n at_most);
    told = by held told is;
  }
    where
      by : (h : Option Files) → IfSome h (λ files. (rows : List (List Value)) → IsOfImage table files rows head → (head.rows ≡ length rows) × AddsRows query (length rows) (selected query (ordered table.settings.sorted rows)) old new)
          → IsHeadIn table h segment head → IfSome h (λ files. (rows : List (List Value)) → HasImage table files segment rows → AddsGroups query (selected_in query table rows) old new)
      by None told is = tt
      by (Some files) told is = λ rows has. (told rows (is rows has)).1.groups

  pub adds_scanned : (held : Option Files) (old new : KeptGroups) → IsHeadOf table head → AddsImage query table held head old new → IsHeadIn table held segment head → AddsStored query table held segment old new
  adds_scanned held old new of a is = adds_by held old new of a.adds.of_query a.adds.most a.adds.fits a.told is

  pub adds_answered : (held : Option Files) (old new : KeptGroups) → IsHeadOf table head → AddsAnswer query table held head old new → IsHeadIn table held segment head → AddsStored query table held segment old new
  adds_answered held old new of a is = adds_by held old new of a.grows.of_query a.grows.most a.grows.fits a.told is

  -- there are too many groups
  pub overfull_scanned : (held : Option Files) (old : KeptGroups) → IsImageOverfull query table held head old → IsHeadIn table held segment head → IsStoredOverfull query table held segment old
  overfull_scanned None old over is = tt
  overfull_scanned (Some files) old over is = λ rows has. over.1 rows (is rows has)

  pub overfull_answered : (held : Option Files) (old : KeptGroups) → IfSome held (λ files. (rows : List (List Value)) → IsOfImage table files rows head → IsOverfull query (selected query (ordered table.settings.sorted rows)) old) → IsHeadIn table held segment head
      → IsStoredOverfull query table held segment old
  overfull_answered None old over is = tt
  overfull_answered (Some files) old over is = λ rows has. over rows (is rows has)

  -- what is read is that of no image
  pub bad_answered : (h : Option Files) → IsNoImage table h head → IsHeadIn table h segment head → IfSome h (λ files. HasNoImage table files segment)
  bad_answered None bad is = tt
  bad_answered (Some files) bad is = λ rows has. bad rows (is rows has)

  pub bad_scanned : (held : Option Files) (part : Part) → IsBadIn query table held head part → IsHeadIn table held segment head → IfSome held (λ files. HasNoImage table files segment)
  bad_scanned held part bad is = bad_answered held bad.1 is

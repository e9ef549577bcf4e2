use Rattle.std.proofs.Common.{rules, ◌≡◌, ◌≤◌, ◌∙◌, ◌+◌, ℕ, [], ◌∷◌, List, Option, Some, IfSome, ap, drop, get_or, inl, inr, length, sym, subst, map, refl, arith}
use Rattle.std.proofs.lemmas.List.{drop_all, drop_more}
use Rattle.outside.specs.Reads.{Entry}
use Rattle.outside.specs.Seen.{seen}
use Rattle.outside.specs.declared.place.Place.{Place}
use Rattle.doc_lists.specs.declared.run.Run.{Run}
use Rattle.outside.specs.Stretches.{LogsOver, LogsPartly}
use Rattle.segment_head.specs.Heads.{Seen, place_in}
use Rattle.segment_file.specs.declared.part.Part.TheVariants.{Forward}
use Rattle.segment_plan.specs.Matched.{values_of, count_in}
use Rattle.column_reader.specs.Forward.{width_in}
use Rattle.column_reader.specs.Picked.{LogsRuns, LogsRunsPartly, ids_of_run}
use Rattle.bit_column.specs.Column.{width_of}
use Rattle.bit_column.specs.declared.fault.ColumnFault.{ColumnFault}
use Rattle.bit_column.specs.declared.fault.ColumnFault.TheVariants as columns
use Rattle.column_reader.proofs.ByteLemmas.{grows_runs}
use Rattle.column_reader.proofs.FaultLemmas.{column_bad, column_failed, not_ids}
use Rattle.outside.proofs.SeenLemmas.{reads_well, err_is}
use Rattle.column_reader.proofs.PickSteps.{pick_bad, pick_end, pick_known, pick_next, pick_partly}
use Rattle.column_reader.proofs.column.pick_column.Goals as goal

-- what was read of runs is a part of what is read of a column
partly_so : (head : Seen) (runs : List Run) (column : ℕ) (place : Place) (width values : ℕ) (old new : Option (List Entry)) → Some place ≡ place_in head.sections (Forward column) → values ≡ count_in head column → width ≡ width_of values
    → LogsPartly place.file (map (ids_of_run width place.offset) runs) old new → LogsRunsPartly head runs column old new
partly_so head runs column place width values old new at count is logs =
    inr (subst (λ o. IfSome o (λ p. LogsPartly p.file (map (ids_of_run (width_in head column) p.offset) runs) old new)) at
    (subst (λ v. LogsPartly place.file (map (ids_of_run (width_of v) place.offset) runs) old new) count (subst (λ w. LogsPartly place.file (map (ids_of_run w place.offset) runs) old new) is logs)))

-- what was read of all runs is what is read of a column
whole_so : (head : Seen) (runs : List Run) (column : ℕ) (place : Place) (width values : ℕ) (old new : Option (List Entry)) → Some place ≡ place_in head.sections (Forward column) → values ≡ count_in head column → width ≡ width_of values
    → LogsOver place.file (map (ids_of_run width place.offset) runs) old new → LogsRuns head runs column old new
whole_so head runs column place width values old new at count is logs =
    subst (λ o. IfSome o (λ p. LogsOver p.file (map (ids_of_run (width_in head column) p.offset) runs) old new)) at
    (subst (λ v. LogsOver place.file (map (ids_of_run (width_of v) place.offset) runs) old new) count (subst (λ w. LogsOver place.file (map (ids_of_run w place.offset) runs) old new) is logs))

pub returns-in_err-ids-clause-reads : goal.returns-in_err-ids-clause-reads
returns-in_err-ids-clause-reads g c = record {
  only_reads = search rules;
  log = search rules;
  log_of_fault =
      let log = g.S.Shelf.log c.args.shelf.now in
      err_is c.from_residual.result (LogsRunsPartly c.args.head.now c.args.runs.now c.args.column log log) (inl refl);
}

pub overflow_add-range : goal.overflow_add-range
overflow_add-range g c =
    let runs = c.args.runs.now in
    let i = c.loop-run.run-index in
    let run : Run = get_or runs i (record { first = 0; last = 0 }) in
    let is : drop i runs ≡ run ∷ drop (i + 1) runs = drop_more runs i (record { first = 0; last = 0 }) c.loop-run-test.true in
    let known = pick_known c.in-Some.place.now c.width_for-width.result c.count-values.result c.args.head.now.rows runs (drop i runs) (drop (i + 1) runs) run (seen g.S.Shelf c.args.shelf.now) (seen g.S.Shelf c.loop-run.shelf) c.loop-run.ids.items c.loop-run.invariant is in
    omega (arith, known, c.requires.runs.few_rows)

pub returns-in-Err-clause-bad : goal.returns-in-Err-clause-bad
returns-in-Err-clause-bad g c = λ bad.
    let runs = c.args.runs.now in
    let i = c.loop-run.run-index in
    let run : Run = get_or runs i (record { first = 0; last = 0 }) in
    let is : drop i runs ≡ run ∷ drop (i + 1) runs = drop_more runs i (record { first = 0; last = 0 }) c.loop-run-test.true in
    not_ids (g.S.Shelf.held c.args.shelf.now) c.args.head.now c.args.column c.in-Some.place.now c.width_for-width.result c.count-values.result c.in-Some.ensures
    (c.count-values.ensures.count ∙ sym (ap (λ o. length (values_of o)) c.dictionary.ensures)) c.width_for-width.ensures.width
    (pick_bad c.in-Some.place.now c.width_for-width.result c.count-values.result c.args.head.now.rows runs (drop i runs) (drop (i + 1) runs) run (seen g.S.Shelf c.args.shelf.now) (seen g.S.Shelf c.loop-run.shelf) c.loop-run.ids.items c.loop-run.invariant is
    (c.in-Err.ensures.reads.bad (column_bad (Unit {0}) (List ℕ) c.in-Err.fault c.args.column c.of_column.result c.of_column.ensures bad)))

pub returns-in-Err-clause-reads : goal.returns-in-Err-clause-reads
returns-in-Err-clause-reads g c = record {
  only_reads =
      column_failed (Unit {0}) (List ℕ) c.in-Err.fault c.args.column c.of_column.result (seen g.S.Shelf c.args.shelf.now) (seen g.S.Shelf c.loop-run.shelf) (seen g.S.Shelf c.append_range.new.shelf) c.of_column.ensures c.loop-run.invariant.reads c.in-Err.ensures.reads.only_reads;
  log = tt;
  log_of_fault =
      let runs = c.args.runs.now in
      let i = c.loop-run.run-index in
      let run : Run = get_or runs i (record { first = 0; last = 0 }) in
      let is : drop i runs ≡ run ∷ drop (i + 1) runs = drop_more runs i (record { first = 0; last = 0 }) c.loop-run-test.true in
      let place : Place = c.in-Some.place.now in
      let width : ℕ = c.width_for-width.result in
      let first = seen g.S.Shelf c.args.shelf.now in
      let now = seen g.S.Shelf c.loop-run.shelf in
      let next = seen g.S.Shelf c.append_range.new.shelf in
      partly_so c.args.head.now runs c.args.column place width c.count-values.result first.log next.log c.in-Some.ensures (c.count-values.ensures.count ∙ sym (ap (λ o. length (values_of o)) c.dictionary.ensures)) c.width_for-width.ensures.width
      (pick_partly place width c.count-values.result c.args.head.now.rows runs (drop i runs) (drop (i + 1) runs) run first now next c.loop-run.ids.items c.loop-run.invariant is c.in-Err.ensures.reads.log_of_fault);
}

pub loop-run-preserved : goal.loop-run-preserved
loop-run-preserved g c =
    let runs = c.args.runs.now in
    let i = c.loop-run.run-index in
    let run : Run = get_or runs i (record { first = 0; last = 0 }) in
    let is : drop i runs ≡ run ∷ drop (i + 1) runs = drop_more runs i (record { first = 0; last = 0 }) c.loop-run-test.true in
    let first = seen g.S.Shelf c.args.shelf.now in
    let now = seen g.S.Shelf c.loop-run.shelf in
    let next = seen g.S.Shelf c.append_range.new.shelf in
    let more = c.in-Ok.ensures.ids in
    pick_next c.in-Some.place.now c.width_for-width.result c.count-values.result c.args.head.now.rows runs (drop i runs) (drop (i + 1) runs) run first now next c.loop-run.ids.items more.ids c.append_range.new.ids.items c.loop-run.invariant is
    (reads_well (Unit {0}) ColumnFault c.in-Ok.field-0 columns.ReadFault now next c.in-Ok.ensures.reads.only_reads) c.in-Ok.ensures.reads.log more.told more.number more.below more.appended

pub returns-clause-bytes : goal.returns-clause-bytes
returns-clause-bytes g c =
    let runs = c.args.runs.now in
    let i = c.loop-run.run-index in
    let place : Place = c.in-Some.place.now in
    let width : ℕ = c.width_for-width.result in
    let first = seen g.S.Shelf c.args.shelf.now in
    let now = seen g.S.Shelf c.loop-run.shelf in
    let none : drop i runs ≡ [] = drop_all i runs (omega (arith, c.loop-run-test.false)) in
    let done = pick_end place width c.count-values.result c.args.head.now.rows runs (drop i runs) first now c.loop-run.ids.items c.loop-run.invariant none in
    let at_most = c.count-values.ensures.valid.at_most in
    let small : width ≤ 20 = c.width_for-width.ensures.least.2 20 (omega arith) (omega (arith, at_most, c.count-values.ensures.count)) in
    grows_runs place.file width place.offset 0 runs first.log now.log (omega (arith, small)) c.requires.runs.apart done.log

pub returns-clause-reads : goal.returns-clause-reads
returns-clause-reads g c = record {
  only_reads = search rules;
  log =
      let runs = c.args.runs.now in
      let i = c.loop-run.run-index in
      let place : Place = c.in-Some.place.now in
      let width : ℕ = c.width_for-width.result in
      let first = seen g.S.Shelf c.args.shelf.now in
      let now = seen g.S.Shelf c.loop-run.shelf in
      let none : drop i runs ≡ [] = drop_all i runs (omega (arith, c.loop-run-test.false)) in
      let done = pick_end place width c.count-values.result c.args.head.now.rows runs (drop i runs) first now c.loop-run.ids.items c.loop-run.invariant none in
      whole_so c.args.head.now runs c.args.column place width c.count-values.result first.log now.log c.in-Some.ensures (c.count-values.ensures.count ∙ sym (ap (λ o. length (values_of o)) c.dictionary.ensures)) c.width_for-width.ensures.width done.log;
  log_of_fault = tt;
}

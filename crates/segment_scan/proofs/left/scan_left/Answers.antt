use Rattle.std.proofs.Common.{rules, ◌≡◌, ◌∙◌, ◌+◌, ◌-◌, ℕ, Bool, List, Option, Err, IsErrOf, IfSome, inl, inr, length, ap, sym, subst, arith}
use Rattle.outside.specs.Files.{Files}
use Rattle.agg_laws.specs.Numbers.{most_values}
use Rattle.group_table.specs.Kept.{groups_in}
use Rattle.scan_engine.specs.Scanned.{IsOverfull}
use Rattle.scan_engine.proofs.AddLemmas.{at_most_more}
use Rattle.segment_head.specs.Heads.{Seen}
use Rattle.segment_scan.specs.Documents.{AddsDocs, LogsDocs, LogsDocsPartly, selected_docs}
use Rattle.segment_scan.specs.Images.{AreDocs, AreParts, IsBadForward, LogsPartsPartly, choices_for, rest_for, sure_for}
use Rattle.segment_head.specs.Stored.{IsNoImage}
use Rattle.segment_plan.specs.Named.{names_in}
use Rattle.segment_plan.specs.Served.{rest_of}
use Rattle.segment_plan.specs.RowsLeft.{sure_choices}
use Rattle.segment_head.specs.declared.fault.EngineFault.{EngineFault}
use Rattle.segment_head.specs.declared.fault.EngineFault.TheVariants.{NotASegment, TooManyGroups}
use Rattle.segment_scan.proofs.LeftImage.{PartsFit, check_full, left_docs, left_image, no_parts, parts_fit, sure_full, sure_names}
use Rattle.outside.proofs.SeenLemmas.{err_is}
use Rattle.group_table.specs.Pooled.{in_pool}
use Rattle.group_table.proofs.SlotFrames.{stays_both}
use Rattle.segment_scan.proofs.left.scan_left.Goals as goal

-- a fault is the same beside answers of another type
same_err : (T U : Type 0) (fault cause : EngineFault) → IsErrOf {T = T} {E = EngineFault} (Err fault) cause → IsErrOf {T = U} {E = EngineFault} (Err fault) cause
same_err T U fault cause is = let e : fault ≡ cause = cc in ap (λ (f : EngineFault). Err f) e

pub returns-in_err-check-clause-reads : goal.returns-in_err-check-clause-reads
returns-in_err-check-clause-reads g c = record {
  only_reads = search rules;
  log = search rules;
  log_of_fault =
      let query = c.args.answered.now.query.now in
      let table = c.args.answered.now.table.now in
      let head : Seen = c.args.answered.now.head.now in
      let log = g.S.Shelf.log c.args.shelf.now in
      let named : List Bool = names_in (rest_for query table head) table in
      let others : List Bool = names_in (sure_for query table head) table in
      err_is c.from_residual.result (LogsPartsPartly head named others c.args.docs.now log log) (no_parts head named others c.args.docs.now log c.requires.leaves.left.within);
}

pub returns-in_err-served-clause-reads : goal.returns-in_err-served-clause-reads
returns-in_err-served-clause-reads g c = record {
  only_reads = search rules;
  log = search rules;
  log_of_fault =
      let query = c.args.answered.now.query.now in
      let table = c.args.answered.now.table.now in
      let head : Seen = c.args.answered.now.head.now in
      let log = g.S.Shelf.log c.args.shelf.now in
      let named : List Bool = names_in (rest_for query table head) table in
      let others : List Bool = names_in (sure_for query table head) table in
      err_is c.from_residual-in_err-served.result (LogsPartsPartly head named others c.args.docs.now log log) (no_parts head named others c.args.docs.now log c.requires.leaves.left.within);
}

pub scan_part-requires-clause-within : goal.scan_part-requires-clause-within
scan_part-requires-clause-within g c =
    let query = c.args.answered.now.query.now in
    let table = c.args.answered.now.table.now in
    let head : Seen = c.args.answered.now.head.now in
    let held : Option Files = g.S.Shelf.held c.args.shelf.now in
    let docs : List ℕ = c.args.docs.now in
    let unsure : List ℕ = c.args.unsure.now in
    let check : List ℕ = c.in_ok-check.check in
    let sure : List ℕ = c.in_ok-check.sure in
    let parts : AreParts docs unsure check sure = record { checks = c.in_ok-check.ensures.both; sures = c.in_ok-check.ensures.alone } in
    let f : PartsFit head.rows docs check sure = parts_fit docs unsure check sure head.rows c.requires.leaves.ascend c.requires.leaves.left.within parts in
    f.check_within

pub scan_part-requires-clause-scans : goal.scan_part-requires-clause-scans
scan_part-requires-clause-scans g c = record {
  valid = c.requires.scans.valid;
  of_table = c.requires.scans.of_table;
  loaded = c.requires.scans.loaded;
  of_query = c.requires.scans.of_query;
  fits =
      let query = c.args.answered.now.query.now in
      let table = c.args.answered.now.table.now in
      let head : Seen = c.args.answered.now.head.now in
      let held : Option Files = g.S.Shelf.held c.args.shelf.now in
      let docs : List ℕ = c.args.docs.now in
      let unsure : List ℕ = c.args.unsure.now in
      let check : List ℕ = c.in_ok-check.check in
      let sure : List ℕ = c.in_ok-check.sure in
      let parts : AreParts docs unsure check sure = record { checks = c.in_ok-check.ensures.both; sures = c.in_ok-check.ensures.alone } in
      let f : PartsFit head.rows docs check sure = parts_fit docs unsure check sure head.rows c.requires.leaves.ascend c.requires.leaves.left.within parts in
      at_most_more (groups_in (in_pool c.args.groups.now c.args.pool.now)) (most_values - head.rows) (most_values - length check) (omega (arith, f.count, f.at_most)) c.requires.scans.fits;
}

pub scan_part-requires-2-clause-within : goal.scan_part-requires-2-clause-within
scan_part-requires-2-clause-within g c =
    let query = c.args.answered.now.query.now in
    let table = c.args.answered.now.table.now in
    let head : Seen = c.args.answered.now.head.now in
    let held : Option Files = g.S.Shelf.held c.args.shelf.now in
    let docs : List ℕ = c.args.docs.now in
    let unsure : List ℕ = c.args.unsure.now in
    let check : List ℕ = c.in_ok-check.check in
    let sure : List ℕ = c.in_ok-check.sure in
    let parts : AreParts docs unsure check sure = record { checks = c.in_ok-check.ensures.both; sures = c.in_ok-check.ensures.alone } in
    let f : PartsFit head.rows docs check sure = parts_fit docs unsure check sure head.rows c.requires.leaves.ascend c.requires.leaves.left.within parts in
    f.sure_within

pub scan_part-requires-2-clause-scans : goal.scan_part-requires-2-clause-scans
scan_part-requires-2-clause-scans g c = record {
  valid = c.requires.scans.valid;
  of_table = c.requires.scans.of_table;
  loaded = c.requires.scans.loaded;
  of_query = c.in-Ok.ensures.ok.adds.of_query;
  fits =
      let query = c.args.answered.now.query.now in
      let table = c.args.answered.now.table.now in
      let head : Seen = c.args.answered.now.head.now in
      let held : Option Files = g.S.Shelf.held c.args.shelf.now in
      let docs : List ℕ = c.args.docs.now in
      let unsure : List ℕ = c.args.unsure.now in
      let check : List ℕ = c.in_ok-check.check in
      let sure : List ℕ = c.in_ok-check.sure in
      let parts : AreParts docs unsure check sure = record { checks = c.in_ok-check.ensures.both; sures = c.in_ok-check.ensures.alone } in
      let f : PartsFit head.rows docs check sure = parts_fit docs unsure check sure head.rows c.requires.leaves.ascend c.requires.leaves.left.within parts in
      at_most_more (groups_in (in_pool c.scan_part.new.groups c.scan_part.new.pool)) (most_values - head.rows + length check) (most_values - length sure) (omega (arith, f.count, f.at_most, c.requires.scans.of_table.at_most, c.requires.scans.of_table.has.rows_are))
      (c.in-Ok.ensures.ok.adds.fits (most_values - head.rows) c.requires.scans.fits);
}

pub returns-in-Err-clause-full : goal.returns-in-Err-clause-full
returns-in-Err-clause-full g c = λ full.
    let query = c.args.answered.now.query.now in
    let table = c.args.answered.now.table.now in
    let head : Seen = c.args.answered.now.head.now in
    let held : Option Files = g.S.Shelf.held c.args.shelf.now in
    let docs : List ℕ = c.args.docs.now in
    let unsure : List ℕ = c.args.unsure.now in
    let check : List ℕ = c.in_ok-check.check in
    let sure : List ℕ = c.in_ok-check.sure in
    let parts : AreParts docs unsure check sure = record { checks = c.in_ok-check.ensures.both; sures = c.in_ok-check.ensures.alone } in
    let f : PartsFit head.rows docs check sure = parts_fit docs unsure check sure head.rows c.requires.leaves.ascend c.requires.leaves.left.within parts in
    let own = same_err ℕ (Unit {0}) c.in-Err.fault TooManyGroups full in
    record {
      over = check_full c.image_law.ensures c.index_law.ensures query table head c.requires.scans.valid c.requires.scans.of_table c.requires.scans.loaded docs held unsure check sure c.requires.leaves.left c.requires.leaves.unsure parts (in_pool c.args.groups.now c.args.pool.now)
          (subst (λ cs. IfSome held (λ files. IsOverfull query (selected_docs query cs files head (names_in (rest_of query cs) table) check) (in_pool c.args.groups.now c.args.pool.now))) c.requires.leaves.planned
          (c.in-Err.ensures.full own));
      filled = c.in-Err.ensures.filled own;
    }

pub returns-in-Err-clause-reads : goal.returns-in-Err-clause-reads
returns-in-Err-clause-reads g c = record {
  only_reads = search rules;
  log = tt;
  log_of_fault =
      let query = c.args.answered.now.query.now in
      let table = c.args.answered.now.table.now in
      let head : Seen = c.args.answered.now.head.now in
      let held : Option Files = g.S.Shelf.held c.args.shelf.now in
      let docs : List ℕ = c.args.docs.now in
      let unsure : List ℕ = c.args.unsure.now in
      let check : List ℕ = c.in_ok-check.check in
      let sure : List ℕ = c.in_ok-check.sure in
      let parts : AreParts docs unsure check sure = record { checks = c.in_ok-check.ensures.both; sures = c.in_ok-check.ensures.alone } in
      let f : PartsFit head.rows docs check sure = parts_fit docs unsure check sure head.rows c.requires.leaves.ascend c.requires.leaves.left.within parts in
      record {
        check = check;
        sure = sure;
        count = f.count;
        check_within = f.check_within;
        sure_within = f.sure_within;
        some = inl (subst (λ cs. LogsDocsPartly head (names_in (rest_of query cs) table) check (g.S.Shelf.log c.args.shelf.now) (g.S.Shelf.log c.scan_part.new.shelf)) c.requires.leaves.planned c.in-Err.ensures.reads.log_of_fault);
      };
}

pub overflow_add-result : goal.overflow_add-result
overflow_add-result g c =
    let query = c.args.answered.now.query.now in
    let table = c.args.answered.now.table.now in
    let head : Seen = c.args.answered.now.head.now in
    let held : Option Files = g.S.Shelf.held c.args.shelf.now in
    let docs : List ℕ = c.args.docs.now in
    let unsure : List ℕ = c.args.unsure.now in
    let check : List ℕ = c.in_ok-check.check in
    let sure : List ℕ = c.in_ok-check.sure in
    let parts : AreParts docs unsure check sure = record { checks = c.in_ok-check.ensures.both; sures = c.in_ok-check.ensures.alone } in
    let f : PartsFit head.rows docs check sure = parts_fit docs unsure check sure head.rows c.requires.leaves.ascend c.requires.leaves.left.within parts in
    omega (arith, c.len.ensures, c.len-in-Ok-scan_part.ensures, f.count, f.at_most, c.requires.scans.of_table.at_most, c.requires.scans.of_table.has.rows_are)

pub overflow_cast-result : goal.overflow_cast-result
overflow_cast-result g c =
    let query = c.args.answered.now.query.now in
    let table = c.args.answered.now.table.now in
    let head : Seen = c.args.answered.now.head.now in
    let held : Option Files = g.S.Shelf.held c.args.shelf.now in
    let docs : List ℕ = c.args.docs.now in
    let unsure : List ℕ = c.args.unsure.now in
    let check : List ℕ = c.in_ok-check.check in
    let sure : List ℕ = c.in_ok-check.sure in
    let parts : AreParts docs unsure check sure = record { checks = c.in_ok-check.ensures.both; sures = c.in_ok-check.ensures.alone } in
    let f : PartsFit head.rows docs check sure = parts_fit docs unsure check sure head.rows c.requires.leaves.ascend c.requires.leaves.left.within parts in
    omega (arith, c.len.ensures, c.len-in-Ok-scan_part.ensures, f.count, f.at_most, c.requires.scans.of_table.at_most, c.requires.scans.of_table.has.rows_are)

pub returns-in-Ok-scan_part-clause-count : goal.returns-in-Ok-scan_part-clause-count
returns-in-Ok-scan_part-clause-count g c =
    let query = c.args.answered.now.query.now in
    let table = c.args.answered.now.table.now in
    let head : Seen = c.args.answered.now.head.now in
    let held : Option Files = g.S.Shelf.held c.args.shelf.now in
    let docs : List ℕ = c.args.docs.now in
    let unsure : List ℕ = c.args.unsure.now in
    let check : List ℕ = c.in_ok-check.check in
    let sure : List ℕ = c.in_ok-check.sure in
    let parts : AreParts docs unsure check sure = record { checks = c.in_ok-check.ensures.both; sures = c.in_ok-check.ensures.alone } in
    let f : PartsFit head.rows docs check sure = parts_fit docs unsure check sure head.rows c.requires.leaves.ascend c.requires.leaves.left.within parts in
    let total : c.len.result + c.len-in-Ok-scan_part.result ≡ length docs = omega (arith, c.len.ensures, c.len-in-Ok-scan_part.ensures, f.count) in
    subst (AreDocs query table held head) (sym total) (left_docs c.image_law.ensures c.index_law.ensures query table head c.requires.scans.valid c.requires.scans.of_table c.requires.scans.loaded docs held c.requires.leaves.left f.at_most)

pub returns-in-Ok-scan_part-clause-ok : goal.returns-in-Ok-scan_part-clause-ok
returns-in-Ok-scan_part-clause-ok g c =
    let query = c.args.answered.now.query.now in
    let table = c.args.answered.now.table.now in
    let head : Seen = c.args.answered.now.head.now in
    let held : Option Files = g.S.Shelf.held c.args.shelf.now in
    let docs : List ℕ = c.args.docs.now in
    let unsure : List ℕ = c.args.unsure.now in
    let check : List ℕ = c.in_ok-check.check in
    let sure : List ℕ = c.in_ok-check.sure in
    let parts : AreParts docs unsure check sure = record { checks = c.in_ok-check.ensures.both; sures = c.in_ok-check.ensures.alone } in
    let f : PartsFit head.rows docs check sure = parts_fit docs unsure check sure head.rows c.requires.leaves.ascend c.requires.leaves.left.within parts in
    let served : c.as_slice-served.result.now ≡ sure_choices (choices_for query table head) = c.as_slice-served.ensures.value ∙ c.in_ok-served.ensures ∙ ap sure_choices c.requires.leaves.planned in
    let same : g.S.Shelf.held c.scan_part.new.shelf ≡ held = c.in-Ok.ensures.reads.only_reads.held in
    let first : AddsDocs query (choices_for query table head) held head (names_in (rest_for query table head) table) check (in_pool c.args.groups.now c.args.pool.now) (in_pool c.scan_part.new.groups c.scan_part.new.pool) =
    subst (λ cs. AddsDocs query cs held head (names_in (rest_of query cs) table) check (in_pool c.args.groups.now c.args.pool.now) (in_pool c.scan_part.new.groups c.scan_part.new.pool)) c.requires.leaves.planned c.in-Ok.ensures.ok in
    left_image c.image_law.ensures c.index_law.ensures query table head c.requires.scans.valid c.requires.scans.of_table c.requires.scans.loaded docs held unsure check sure c.requires.leaves.left c.requires.leaves.unsure parts f.at_most f.count (in_pool c.args.groups.now c.args.pool.now) (in_pool c.scan_part.new.groups c.scan_part.new.pool) (in_pool c.scan_part-2.new.groups c.scan_part-2.new.pool) first
    (subst (λ cs. AddsDocs query cs held head (names_in (rest_of query cs) table) sure (in_pool c.scan_part.new.groups c.scan_part.new.pool) (in_pool c.scan_part-2.new.groups c.scan_part-2.new.pool)) served
    (subst (λ h. AddsDocs query c.as_slice-served.result.now h head (names_in (rest_of query c.as_slice-served.result.now) table) sure (in_pool c.scan_part.new.groups c.scan_part.new.pool) (in_pool c.scan_part-2.new.groups c.scan_part-2.new.pool)) same c.in-Ok-scan_part.ensures.ok))

pub returns-in-Ok-scan_part-clause-reads : goal.returns-in-Ok-scan_part-clause-reads
returns-in-Ok-scan_part-clause-reads g c = record {
  only_reads = search rules;
  log =
      let query = c.args.answered.now.query.now in
      let table = c.args.answered.now.table.now in
      let head : Seen = c.args.answered.now.head.now in
      let held : Option Files = g.S.Shelf.held c.args.shelf.now in
      let docs : List ℕ = c.args.docs.now in
      let unsure : List ℕ = c.args.unsure.now in
      let check : List ℕ = c.in_ok-check.check in
      let sure : List ℕ = c.in_ok-check.sure in
      let parts : AreParts docs unsure check sure = record { checks = c.in_ok-check.ensures.both; sures = c.in_ok-check.ensures.alone } in
      let f : PartsFit head.rows docs check sure = parts_fit docs unsure check sure head.rows c.requires.leaves.ascend c.requires.leaves.left.within parts in
      let served : c.as_slice-served.result.now ≡ sure_choices (choices_for query table head) = c.as_slice-served.ensures.value ∙ c.in_ok-served.ensures ∙ ap sure_choices c.requires.leaves.planned in
      record {
        check = check;
        sure = sure;
        count = f.count;
        check_within = f.check_within;
        sure_within = f.sure_within;
        between = g.S.Shelf.log c.scan_part.new.shelf;
        checked = subst (λ cs. LogsDocs head (names_in (rest_of query cs) table) check (g.S.Shelf.log c.args.shelf.now) (g.S.Shelf.log c.scan_part.new.shelf)) c.requires.leaves.planned c.in-Ok.ensures.reads.log;
        surely = subst (λ cs. LogsDocs head (names_in (rest_of query cs) table) sure (g.S.Shelf.log c.scan_part.new.shelf) (g.S.Shelf.log c.scan_part-2.new.shelf)) served c.in-Ok-scan_part.ensures.reads.log;
      };
  log_of_fault = tt;
}

pub returns-clause-full : goal.returns-clause-full
returns-clause-full g c = λ full.
    let query = c.args.answered.now.query.now in
    let table = c.args.answered.now.table.now in
    let head : Seen = c.args.answered.now.head.now in
    let held : Option Files = g.S.Shelf.held c.args.shelf.now in
    let docs : List ℕ = c.args.docs.now in
    let unsure : List ℕ = c.args.unsure.now in
    let check : List ℕ = c.in_ok-check.check in
    let sure : List ℕ = c.in_ok-check.sure in
    let parts : AreParts docs unsure check sure = record { checks = c.in_ok-check.ensures.both; sures = c.in_ok-check.ensures.alone } in
    let f : PartsFit head.rows docs check sure = parts_fit docs unsure check sure head.rows c.requires.leaves.ascend c.requires.leaves.left.within parts in
    let served : c.as_slice-served.result.now ≡ sure_choices (choices_for query table head) = c.as_slice-served.ensures.value ∙ c.in_ok-served.ensures ∙ ap sure_choices c.requires.leaves.planned in
    let same : g.S.Shelf.held c.scan_part.new.shelf ≡ held = c.in-Ok.ensures.reads.only_reads.held in
    let first : AddsDocs query (choices_for query table head) held head (names_in (rest_for query table head) table) check (in_pool c.args.groups.now c.args.pool.now) (in_pool c.scan_part.new.groups c.scan_part.new.pool) =
    subst (λ cs. AddsDocs query cs held head (names_in (rest_of query cs) table) check (in_pool c.args.groups.now c.args.pool.now) (in_pool c.scan_part.new.groups c.scan_part.new.pool)) c.requires.leaves.planned c.in-Ok.ensures.ok in
    let own = same_err ℕ (Unit {0}) c.in-Err-scan_part.fault TooManyGroups full in
    record {
      over = sure_full c.image_law.ensures c.index_law.ensures query table head c.requires.scans.valid c.requires.scans.of_table c.requires.scans.loaded docs held unsure check sure c.requires.leaves.left c.requires.leaves.unsure parts (in_pool c.args.groups.now c.args.pool.now) (in_pool c.scan_part.new.groups c.scan_part.new.pool) first
          (subst (λ cs. IfSome held (λ files. IsOverfull query (selected_docs query cs files head (names_in (rest_of query cs) table) sure) (in_pool c.scan_part.new.groups c.scan_part.new.pool))) served
          (subst (λ h. IfSome h (λ files. IsOverfull query (selected_docs query c.as_slice-served.result.now files head (names_in (rest_of query c.as_slice-served.result.now) table) sure) (in_pool c.scan_part.new.groups c.scan_part.new.pool))) same
          (c.in-Err-scan_part.ensures.full own)));
      filled = c.in-Err-scan_part.ensures.filled own ∙ first.adds.most;
    }

pub returns-clause-bad : goal.returns-clause-bad
returns-clause-bad g c = λ part bad.
    let query = c.args.answered.now.query.now in
    let table = c.args.answered.now.table.now in
    let head : Seen = c.args.answered.now.head.now in
    let held : Option Files = g.S.Shelf.held c.args.shelf.now in
    let docs : List ℕ = c.args.docs.now in
    let unsure : List ℕ = c.args.unsure.now in
    let check : List ℕ = c.in_ok-check.check in
    let sure : List ℕ = c.in_ok-check.sure in
    let parts : AreParts docs unsure check sure = record { checks = c.in_ok-check.ensures.both; sures = c.in_ok-check.ensures.alone } in
    let f : PartsFit head.rows docs check sure = parts_fit docs unsure check sure head.rows c.requires.leaves.ascend c.requires.leaves.left.within parts in
    let served : c.as_slice-served.result.now ≡ sure_choices (choices_for query table head) = c.as_slice-served.ensures.value ∙ c.in_ok-served.ensures ∙ ap sure_choices c.requires.leaves.planned in
    let same : g.S.Shelf.held c.scan_part.new.shelf ≡ held = c.in-Ok.ensures.reads.only_reads.held in
    let bad_now : IsBadForward (sure_for query table head) held head part × IsNoImage table held head =
    subst (λ cs. IsBadForward (rest_of query cs) held head part × IsNoImage table held head) served
    (subst (λ h. IsBadForward (rest_of query c.as_slice-served.result.now) h head part × IsNoImage table h head) same
    (c.in-Err-scan_part.ensures.bad part (same_err ℕ (Unit {0}) c.in-Err-scan_part.fault (NotASegment part) bad))) in (
      (bad_now.0.0, sure_names query (choices_for query table head) bad_now.0.0 bad_now.0.1, bad_now.0.2, bad_now.0.3),
      bad_now.1,
    )

pub returns-clause-reads : goal.returns-clause-reads
returns-clause-reads g c = record {
  only_reads = search rules;
  log = tt;
  log_of_fault =
      let query = c.args.answered.now.query.now in
      let table = c.args.answered.now.table.now in
      let head : Seen = c.args.answered.now.head.now in
      let held : Option Files = g.S.Shelf.held c.args.shelf.now in
      let docs : List ℕ = c.args.docs.now in
      let unsure : List ℕ = c.args.unsure.now in
      let check : List ℕ = c.in_ok-check.check in
      let sure : List ℕ = c.in_ok-check.sure in
      let parts : AreParts docs unsure check sure = record { checks = c.in_ok-check.ensures.both; sures = c.in_ok-check.ensures.alone } in
      let f : PartsFit head.rows docs check sure = parts_fit docs unsure check sure head.rows c.requires.leaves.ascend c.requires.leaves.left.within parts in
      let served : c.as_slice-served.result.now ≡ sure_choices (choices_for query table head) = c.as_slice-served.ensures.value ∙ c.in_ok-served.ensures ∙ ap sure_choices c.requires.leaves.planned in
      record {
        check = check;
        sure = sure;
        count = f.count;
        check_within = f.check_within;
        sure_within = f.sure_within;
        some = inr (
          g.S.Shelf.log c.scan_part.new.shelf,
          subst (λ cs. LogsDocs head (names_in (rest_of query cs) table) check (g.S.Shelf.log c.args.shelf.now) (g.S.Shelf.log c.scan_part.new.shelf)) c.requires.leaves.planned c.in-Ok.ensures.reads.log,
          subst (λ cs. LogsDocsPartly head (names_in (rest_of query cs) table) sure (g.S.Shelf.log c.scan_part.new.shelf) (g.S.Shelf.log c.scan_part-2.new.shelf)) served c.in-Err-scan_part.ensures.reads.log_of_fault,
        );
      };
}

pub returns-in-Ok-scan_part-clause-stays : goal.returns-in-Ok-scan_part-clause-stays
returns-in-Ok-scan_part-clause-stays g c = stays_both c.args.groups.now c.scan_part.new.groups c.scan_part-2.new.groups c.args.pool.now c.scan_part.new.pool c.scan_part-2.new.pool
    c.scan_part.ensures.stays c.scan_part-2.ensures.stays

pub returns-clause-stays : goal.returns-clause-stays
returns-clause-stays g c = stays_both c.args.groups.now c.scan_part.new.groups c.scan_part-2.new.groups c.args.pool.now c.scan_part.new.pool c.scan_part-2.new.pool
    c.scan_part.ensures.stays c.scan_part-2.ensures.stays

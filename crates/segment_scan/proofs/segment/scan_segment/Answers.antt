use Rattle.std.proofs.Common.{rules, ◌≡◌, ◌∙◌, ℕ, List, [], Option, Some, Result, Ok, Err, None, IfOk, IsErrOf, inl, inr, length, ap, sym, subst, arith}
use Rattle.std.proofs.lemmas.Result.{IfOk-weaker}
use Rattle.std.specs.List.Sorted.{IsStrictlyIncreasing}
use Rattle.doc_lists.proofs.SetSteps.{kept_increase}
use Rattle.outside.specs.Files.{Files}
use Rattle.outside.specs.Reads.{Entry}
use Rattle.table_schema.specs.declared.query.Conjunct.{Conjunct}
use Rattle.segment_head.specs.Heads.{Seen}
use Rattle.segment_plan.specs.declared.plans.IndexChoice.{IndexChoice}
use Rattle.column_reader.specs.Forward.{LogsColumns, LogsSome}
use Rattle.segment_scan.specs.Images.{AddsImage, AddsWhole, AreLeftFor, HasUnsureFor, IsBadWhole, IsImageOverfull, IsWholeOverfull, LogsIndexes, LogsLeft, LogsPartsPartly, LogsScanPartly, choices_for, indexed_for}
use Rattle.segment_plan.specs.Named.{names_in}
use Rattle.index_filter.specs.Indexes.{AreLeft, HasUnsure, IsBadAny, IsReady, Leaves, LogsAt, LogsAtPartly, OfEach}
use Rattle.outside.specs.Series.{LogsPartOf, LogsTo}
use Rattle.segment_plan.specs.RowsLeft.{indexed}
use Rattle.segment_head.specs.declared.fault.EngineFault.{EngineFault}
use Rattle.segment_head.specs.declared.fault.EngineFault.TheVariants.{NotASegment}
use Rattle.segment_scan.proofs.IndexImage.{ready_for}
use Rattle.segment_scan.proofs.LeftImage.{bad_index, nothing_logged, whole_bad, whole_docs, whole_full, whole_image}
use Rattle.column_reader.proofs.LogLemmas.{err_so}
use Rattle.segment_scan.proofs.SegmentLemmas.{ok_so}
use Rattle.group_table.specs.Pooled.{in_pool}
use Rattle.segment_scan.proofs.segment.scan_segment.Goals as goal

same_err : (T U : Type 0) (fault cause : EngineFault) → IsErrOf {T = T} {E = EngineFault} (Err fault) cause → IsErrOf {T = U} {E = EngineFault} (Err fault) cause
same_err T U fault cause is = let e : fault ≡ cause = cc in ap (λ (f : EngineFault). Err f) e

-- there is no list where no conjunct is indexed
none_left : (held : Option Files) (head : Seen) (cs choices : List IndexChoice) (xs conjuncts : List Conjunct) (docs : Option (List ℕ)) → cs ≡ choices → xs ≡ conjuncts → docs ≡ None → Leaves held head cs xs (indexed cs xs) docs → indexed choices conjuncts ≡ []
none_left held head cs choices xs conjuncts docs c_is x_is none left =
    subst (λ l. indexed l conjuncts ≡ []) c_is (subst (λ l. indexed cs l ≡ []) x_is (subst (Leaves held head cs xs (indexed cs xs)) none left))

nothing_read : (held : Option Files) (head : Seen) (cs choices : List IndexChoice) (xs conjuncts : List Conjunct) (old mid : Option (List Entry)) → cs ≡ choices → xs ≡ conjuncts → indexed choices conjuncts ≡ [] → LogsTo (LogsAt held head cs xs) (length xs) old mid → mid ≡ old
nothing_read held head cs choices xs conjuncts old mid c_is x_is none logs =
    nothing_logged held head choices conjuncts (length conjuncts) old mid none (omega arith)
    (subst (λ l. LogsTo (LogsAt held head l conjuncts) (length conjuncts) old mid) c_is (subst (λ l. LogsTo (LogsAt held head cs l) (length l) old mid) x_is logs))

-- the documents that are left, by the choices and conjuncts of the query
left_some : (held : Option Files) (head : Seen) (cs choices : List IndexChoice) (xs conjuncts : List Conjunct) (found : Option (List ℕ)) (docs : List ℕ) → cs ≡ choices → xs ≡ conjuncts → found ≡ Some docs → Leaves held head cs xs (indexed cs xs) found → AreLeft held head choices conjuncts (indexed choices conjuncts) docs
left_some held head cs choices xs conjuncts found docs c_is x_is some left =
    subst (λ l. AreLeft held head l conjuncts (indexed l conjuncts) docs) c_is (subst (λ l. AreLeft held head cs l (indexed cs l) docs) x_is (subst (Leaves held head cs xs (indexed cs xs)) some left))

-- the reads of the indexes, by the same
indexes_read : (held : Option Files) (head : Seen) (cs choices : List IndexChoice) (xs conjuncts : List Conjunct) (old mid : Option (List Entry)) → cs ≡ choices → xs ≡ conjuncts → LogsTo (LogsAt held head cs xs) (length xs) old mid → LogsTo (LogsAt held head choices conjuncts) (length conjuncts) old mid
indexes_read held head cs choices xs conjuncts old mid c_is x_is logs =
    subst (λ l. LogsTo (LogsAt held head l conjuncts) (length conjuncts) old mid) c_is (subst (λ l. LogsTo (LogsAt held head cs l) (length l) old mid) x_is logs)

some_read : (held : Option Files) (head : Seen) (cs choices : List IndexChoice) (xs conjuncts : List Conjunct) (old mid : Option (List Entry)) → cs ≡ choices → xs ≡ conjuncts → LogsPartOf (LogsAt held head cs xs) (LogsAtPartly held head cs xs) (length xs) old mid → LogsPartOf (LogsAt held head choices conjuncts) (LogsAtPartly held head choices conjuncts) (length conjuncts) old mid
some_read held head cs choices xs conjuncts old mid c_is x_is logs =
    subst (λ l. LogsPartOf (LogsAt held head l conjuncts) (LogsAtPartly held head l conjuncts) (length conjuncts) old mid) c_is (subst (λ l. LogsPartOf (LogsAt held head cs l) (LogsAtPartly held head cs l) (length l) old mid) x_is logs)

-- what follows of an answer from two facts of it
ok_both : {T E : Type 0} (r : Result T E) (P Q R : T → Type 0) → ((t : T) → P t → Q t → R t) → IfOk r P → IfOk r Q → IfOk r R
ok_both (Ok t) P Q R f p q = f t p q
ok_both (Err e) P Q R f p q = tt

pub documents-requires : goal.documents-requires
documents-requires g c =
    let query = c.args.query.now in
    let table = c.args.table.now in
    let head : Seen = c.args.head.now in
    let held : Option Files = g.S.Shelf.held c.args.shelf.now in
    let choices : c.as_slice-choices.result.now ≡ choices_for query table head = c.as_slice-choices.ensures ∙ c.requires.planned in
    let conjuncts : c.as_slice-conjuncts.result.now ≡ query.conjuncts = c.as_slice-conjuncts.ensures in
    let at_most = c.requires.scans.of_table.at_most in
    let rows = c.requires.scans.of_table.has.rows_are in
    record {
      rows = omega (arith, at_most, rows);
      ready = subst (λ cs. OfEach (IsReady head) cs c.as_slice-conjuncts.result.now) (sym choices) (subst (λ xs. OfEach (IsReady head) (choices_for query table head) xs) (sym conjuncts) (ready_for query table head c.requires.scans.of_table c.requires.scans.loaded));
    }

pub returns-in-Err-clause-bad : goal.returns-in-Err-clause-bad
returns-in-Err-clause-bad g c = λ part bad.
    let query = c.args.query.now in
    let table = c.args.table.now in
    let head : Seen = c.args.head.now in
    let held : Option Files = g.S.Shelf.held c.args.shelf.now in
    let choices : c.as_slice-choices.result.now ≡ choices_for query table head = c.as_slice-choices.ensures ∙ c.requires.planned in
    let conjuncts : c.as_slice-conjuncts.result.now ≡ query.conjuncts = c.as_slice-conjuncts.ensures in
    bad_index c.index_law.ensures query table head c.requires.scans.valid c.requires.scans.of_table c.requires.scans.loaded held part
    (subst (λ cs. IsBadAny held head part cs query.conjuncts) choices (subst (λ xs. IsBadAny held head part c.as_slice-choices.result.now xs) conjuncts
    (c.in-Err.ensures.reads.bad part (same_err ℕ (Option (List ℕ)) c.in-Err.fault (NotASegment part) bad))))

pub returns-in-None-clause-count : goal.returns-in-None-clause-count
returns-in-None-clause-count g c =
    let query = c.args.query.now in
    let table = c.args.table.now in
    let head : Seen = c.args.head.now in
    let held : Option Files = g.S.Shelf.held c.args.shelf.now in
    let choices : c.as_slice-choices.result.now ≡ choices_for query table head = c.as_slice-choices.ensures ∙ c.requires.planned in
    let conjuncts : c.as_slice-conjuncts.result.now ≡ query.conjuncts = c.as_slice-conjuncts.ensures in
    let none : indexed_for query table head ≡ [] =
    none_left held head c.as_slice-choices.result.now (choices_for query table head) c.as_slice-conjuncts.result.now query.conjuncts c.in-Ok.docs choices conjuncts c.in-None.is c.in-Ok.ensures.docs in
    let same : g.S.Shelf.held c.documents.new.shelf ≡ held = c.in-Ok.ensures.reads.only_reads.held in
    IfOk-weaker c.scan_whole.result _ _ (λ n is. whole_docs c.image_law.ensures c.index_law.ensures query table held head c.requires.scans.valid c.requires.scans.of_table c.requires.scans.loaded none n is) c.scan_whole.ensures.count

pub returns-in-None-clause-ok : goal.returns-in-None-clause-ok
returns-in-None-clause-ok g c =
    let query = c.args.query.now in
    let table = c.args.table.now in
    let head : Seen = c.args.head.now in
    let held : Option Files = g.S.Shelf.held c.args.shelf.now in
    let choices : c.as_slice-choices.result.now ≡ choices_for query table head = c.as_slice-choices.ensures ∙ c.requires.planned in
    let conjuncts : c.as_slice-conjuncts.result.now ≡ query.conjuncts = c.as_slice-conjuncts.ensures in
    let none : indexed_for query table head ≡ [] =
    none_left held head c.as_slice-choices.result.now (choices_for query table head) c.as_slice-conjuncts.result.now query.conjuncts c.in-Ok.docs choices conjuncts c.in-None.is c.in-Ok.ensures.docs in
    let same : g.S.Shelf.held c.documents.new.shelf ≡ held = c.in-Ok.ensures.reads.only_reads.held in
    let old = (in_pool c.args.groups.now c.args.pool.now) in
    let new = (in_pool c.scan_whole.new.groups c.scan_whole.new.pool) in
    ok_so c.scan_whole.result (AddsWhole query table (g.S.Shelf.held c.documents.new.shelf) head old new) (AddsImage query table held head old new)
    (λ by. whole_image query table held head old new none (subst (λ h. AddsWhole query table h head old new) same by)) c.scan_whole.ensures.ok

pub returns-in-None-clause-full : goal.returns-in-None-clause-full
returns-in-None-clause-full g c = λ full.
    let query = c.args.query.now in
    let table = c.args.table.now in
    let head : Seen = c.args.head.now in
    let held : Option Files = g.S.Shelf.held c.args.shelf.now in
    let choices : c.as_slice-choices.result.now ≡ choices_for query table head = c.as_slice-choices.ensures ∙ c.requires.planned in
    let conjuncts : c.as_slice-conjuncts.result.now ≡ query.conjuncts = c.as_slice-conjuncts.ensures in
    let none : indexed_for query table head ≡ [] =
    none_left held head c.as_slice-choices.result.now (choices_for query table head) c.as_slice-conjuncts.result.now query.conjuncts c.in-Ok.docs choices conjuncts c.in-None.is c.in-Ok.ensures.docs in
    let same : g.S.Shelf.held c.documents.new.shelf ≡ held = c.in-Ok.ensures.reads.only_reads.held in
    whole_full query table held head (in_pool c.args.groups.now c.args.pool.now) none (subst (λ h. IsWholeOverfull query table h head (in_pool c.args.groups.now c.args.pool.now)) same (c.scan_whole.ensures.full full))

pub returns-in-None-clause-bad : goal.returns-in-None-clause-bad
returns-in-None-clause-bad g c = λ part bad.
    let query = c.args.query.now in
    let table = c.args.table.now in
    let head : Seen = c.args.head.now in
    let held : Option Files = g.S.Shelf.held c.args.shelf.now in
    let choices : c.as_slice-choices.result.now ≡ choices_for query table head = c.as_slice-choices.ensures ∙ c.requires.planned in
    let conjuncts : c.as_slice-conjuncts.result.now ≡ query.conjuncts = c.as_slice-conjuncts.ensures in
    let none : indexed_for query table head ≡ [] =
    none_left held head c.as_slice-choices.result.now (choices_for query table head) c.as_slice-conjuncts.result.now query.conjuncts c.in-Ok.docs choices conjuncts c.in-None.is c.in-Ok.ensures.docs in
    let same : g.S.Shelf.held c.documents.new.shelf ≡ held = c.in-Ok.ensures.reads.only_reads.held in
    whole_bad query table held head part none (subst (λ h. IsBadWhole query table h head part) same (c.scan_whole.ensures.bad part bad))

pub returns-in-None-clause-reads : goal.returns-in-None-clause-reads
returns-in-None-clause-reads g c = record {
  only_reads = search rules;
  log =
      let query = c.args.query.now in
      let table = c.args.table.now in
      let head : Seen = c.args.head.now in
      let held : Option Files = g.S.Shelf.held c.args.shelf.now in
      let choices : c.as_slice-choices.result.now ≡ choices_for query table head = c.as_slice-choices.ensures ∙ c.requires.planned in
      let conjuncts : c.as_slice-conjuncts.result.now ≡ query.conjuncts = c.as_slice-conjuncts.ensures in
      let none : indexed_for query table head ≡ [] =
      none_left held head c.as_slice-choices.result.now (choices_for query table head) c.as_slice-conjuncts.result.now query.conjuncts c.in-Ok.docs choices conjuncts c.in-None.is c.in-Ok.ensures.docs in
      let same : g.S.Shelf.held c.documents.new.shelf ≡ held = c.in-Ok.ensures.reads.only_reads.held in
      let old = g.S.Shelf.log c.args.shelf.now in
      let mid = g.S.Shelf.log c.documents.new.shelf in
      let last = g.S.Shelf.log c.scan_whole.new.shelf in
      let unread : mid ≡ old =
      nothing_read held head c.as_slice-choices.result.now (choices_for query table head) c.as_slice-conjuncts.result.now query.conjuncts old mid choices conjuncts none c.in-Ok.ensures.reads.log in
      IfOk-weaker c.scan_whole.result _ _ (λ n logs. inl (none, subst (λ o. LogsColumns head (names_in query table) (length table.schema.fields) o last) unread logs)) c.scan_whole.ensures.reads.log;
  log_of_fault =
      let query = c.args.query.now in
      let table = c.args.table.now in
      let head : Seen = c.args.head.now in
      let held : Option Files = g.S.Shelf.held c.args.shelf.now in
      let choices : c.as_slice-choices.result.now ≡ choices_for query table head = c.as_slice-choices.ensures ∙ c.requires.planned in
      let conjuncts : c.as_slice-conjuncts.result.now ≡ query.conjuncts = c.as_slice-conjuncts.ensures in
      let none : indexed_for query table head ≡ [] =
      none_left held head c.as_slice-choices.result.now (choices_for query table head) c.as_slice-conjuncts.result.now query.conjuncts c.in-Ok.docs choices conjuncts c.in-None.is c.in-Ok.ensures.docs in
      let same : g.S.Shelf.held c.documents.new.shelf ≡ held = c.in-Ok.ensures.reads.only_reads.held in
      let old = g.S.Shelf.log c.args.shelf.now in
      let mid = g.S.Shelf.log c.documents.new.shelf in
      let last = g.S.Shelf.log c.scan_whole.new.shelf in
      let unread : mid ≡ old =
      nothing_read held head c.as_slice-choices.result.now (choices_for query table head) c.as_slice-conjuncts.result.now query.conjuncts old mid choices conjuncts none c.in-Ok.ensures.reads.log in
      err_so c.scan_whole.result (LogsSome head (names_in query table) mid last) (LogsScanPartly query table held head old last)
      (λ logs. inl (none, subst (λ o. LogsSome head (names_in query table) o last) unread logs)) c.scan_whole.ensures.reads.log_of_fault;
}

pub scan_left-requires-clause-leaves : goal.scan_left-requires-clause-leaves
scan_left-requires-clause-leaves g c =
    let query = c.args.query.now in
    let table = c.args.table.now in
    let head : Seen = c.args.head.now in
    let held : Option Files = g.S.Shelf.held c.args.shelf.now in
    let docs : List ℕ = c.in-Some.docs in
    let unsure : List ℕ = c.documents.new.unsure in
    let same : g.S.Shelf.held c.documents.new.shelf ≡ held = c.in-Ok.ensures.reads.only_reads.held in
    let cs = c.as_slice-choices.result.now in
    let choices : cs ≡ choices_for query table head = c.as_slice-choices.ensures ∙ c.requires.planned in
    let conjuncts : c.as_slice-conjuncts.result.now ≡ query.conjuncts = c.as_slice-conjuncts.ensures in
    record {
      planned = choices;
      left = subst (λ h. AreLeftFor query table h head docs) (sym same) (left_some held head cs (choices_for query table head) c.as_slice-conjuncts.result.now query.conjuncts c.in-Ok.docs docs choices conjuncts c.in-Some.is c.in-Ok.ensures.docs);
      ascend = subst IsStrictlyIncreasing c.docs.view_is (kept_increase c.docs.inside.kept c.docs.invariant);
      unsure = subst (λ h. HasUnsureFor query table h head unsure) (sym same) (subst (λ l. HasUnsure held head l query.conjuncts (length query.conjuncts) unsure) choices (subst (λ l. HasUnsure held head cs l (length l) unsure) conjuncts c.in-Ok.ensures.unsure));
    }

pub returns-clause-full : goal.returns-clause-full
returns-clause-full g c = λ full.
    let same : g.S.Shelf.held c.documents.new.shelf ≡ g.S.Shelf.held c.args.shelf.now = c.in-Ok.ensures.reads.only_reads.held in
    subst (λ h. IsImageOverfull c.args.query.now c.args.table.now h c.args.head.now (in_pool c.args.groups.now c.args.pool.now)) same
    (c.scan_left.ensures.full full).over

pub returns-clause-filled : goal.returns-clause-filled
returns-clause-filled g c = λ full. (c.scan_left.ensures.full full).filled

pub returns-in-Err-clause-reads : goal.returns-in-Err-clause-reads
returns-in-Err-clause-reads g c = record {
  only_reads = search rules;
  log = tt;
  log_of_fault =
      let query = c.args.query.now in
      let table = c.args.table.now in
      let head : Seen = c.args.head.now in
      let held : Option Files = g.S.Shelf.held c.args.shelf.now in
      let old = g.S.Shelf.log c.args.shelf.now in
      let last = g.S.Shelf.log c.documents.new.shelf in
      let choices : c.as_slice-choices.result.now ≡ choices_for query table head = c.as_slice-choices.ensures ∙ c.requires.planned in
      inr (inl (some_read held head c.as_slice-choices.result.now (choices_for query table head) c.as_slice-conjuncts.result.now query.conjuncts old last choices c.as_slice-conjuncts.ensures c.in-Err.ensures.reads.log_of_fault));
}

pub returns-clause-reads : goal.returns-clause-reads
returns-clause-reads g c = record {
  only_reads = search rules;
  log =
      let query = c.args.query.now in
      let table = c.args.table.now in
      let head : Seen = c.args.head.now in
      let held : Option Files = g.S.Shelf.held c.args.shelf.now in
      let docs : List ℕ = c.in-Some.docs in
      let old = g.S.Shelf.log c.args.shelf.now in
      let mid = g.S.Shelf.log c.documents.new.shelf in
      let choices : c.as_slice-choices.result.now ≡ choices_for query table head = c.as_slice-choices.ensures ∙ c.requires.planned in
      let conjuncts : c.as_slice-conjuncts.result.now ≡ query.conjuncts = c.as_slice-conjuncts.ensures in
      let left : AreLeftFor query table held head docs = left_some held head c.as_slice-choices.result.now (choices_for query table head) c.as_slice-conjuncts.result.now query.conjuncts c.in-Ok.docs docs choices conjuncts c.in-Some.is c.in-Ok.ensures.docs in
      let indexes : LogsIndexes query table held head old mid = indexes_read held head c.as_slice-choices.result.now (choices_for query table head) c.as_slice-conjuncts.result.now query.conjuncts old mid choices conjuncts c.in-Ok.ensures.reads.log in
      ok_both c.scan_left.result _ _ _ (λ n is logs. inr (docs, left, is, mid, indexes, logs)) c.scan_left.ensures.number c.scan_left.ensures.reads.log;
  log_of_fault =
      let query = c.args.query.now in
      let table = c.args.table.now in
      let head : Seen = c.args.head.now in
      let held : Option Files = g.S.Shelf.held c.args.shelf.now in
      let docs : List ℕ = c.in-Some.docs in
      let old = g.S.Shelf.log c.args.shelf.now in
      let mid = g.S.Shelf.log c.documents.new.shelf in
      let last = g.S.Shelf.log c.scan_left.new.shelf in
      let choices : c.as_slice-choices.result.now ≡ choices_for query table head = c.as_slice-choices.ensures ∙ c.requires.planned in
      let conjuncts : c.as_slice-conjuncts.result.now ≡ query.conjuncts = c.as_slice-conjuncts.ensures in
      let left : AreLeftFor query table held head docs = left_some held head c.as_slice-choices.result.now (choices_for query table head) c.as_slice-conjuncts.result.now query.conjuncts c.in-Ok.docs docs choices conjuncts c.in-Some.is c.in-Ok.ensures.docs in
      let indexes : LogsIndexes query table held head old mid = indexes_read held head c.as_slice-choices.result.now (choices_for query table head) c.as_slice-conjuncts.result.now query.conjuncts old mid choices conjuncts c.in-Ok.ensures.reads.log in
      err_so c.scan_left.result (LogsLeft LogsPartsPartly query table head docs mid last) (LogsScanPartly query table held head old last) (λ logs. inr (inr (docs, left, mid, indexes, logs))) c.scan_left.ensures.reads.log_of_fault;
}

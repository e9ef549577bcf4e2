use Rattle.std.proofs.Common.{◌≡◌, ◌∙◌, ◌-◌, ℕ, Option, Err, ap, sym, subst, arith}
use Rattle.outside.specs.Files.{Files}
use Rattle.agg_laws.specs.Numbers.{most_values}
use Rattle.group_table.specs.Kept.{groups_in}
use Rattle.scan_engine.specs.Scanned.{HaveAtMost}
use Rattle.segment_head.specs.Heads.{Seen}
use Rattle.segment_head.proofs.FaultLemmas.{bad_head}
use Rattle.star_reader.specs.declared.asked.Asked.{Asked}
use Rattle.segment_file.specs.declared.part.Part.TheVariants as parts
use Rattle.segment_head.specs.declared.fault.EngineFault.TheVariants as segments
use Rattle.star_answer.specs.Segments.{IsBadTree}
use Rattle.star_answer.proofs.SegmentSteps as steps
use Rattle.group_table.specs.Pooled.{in_pool}
use Rattle.star_answer.proofs.segment.answer_segment.Goals as goal

pub read_tree-requires : goal.read_tree-requires
read_tree-requires g c = record {
  valid = c.requires.room.valid;
  opened = c.requires.room.of_table;
  tree = steps.eligible_there c.args.query.now c.args.table.now.settings.trees c.args.tree c.requires.room.eligible;
}

pub returns-in-Err-clause-bad : goal.returns-in-Err-clause-bad
returns-in-Err-clause-bad g c part is =
    let own : c.engine_fault.result ≡ segments.NotASegment part = cc in
    let fault = bad_head c.in-Err.fault part (sym c.engine_fault.ensures ∙ own) in
    steps.bad_nodes_tree c.args.query.now c.args.table.now c.args.head.now
    (g.S.Shelf.held c.args.shelf.now) c.args.tree part
    (c.in-Err.ensures.part part fault) (c.in-Err.ensures.reads.refused part fault)

pub at-setting-requires : goal.at-setting-requires
at-setting-requires g c =
    steps.eligible_there c.args.query.now c.args.table.now.settings.trees c.args.tree c.requires.room.eligible

pub documents_of-requires-clause-tree : goal.documents_of-requires-clause-tree
documents_of-requires-clause-tree g c =
    steps.eligible_there c.args.query.now c.args.table.now.settings.trees c.args.tree c.requires.room.eligible

pub tree_task-requires-clause-eligible : goal.tree_task-requires-clause-eligible
tree_task-requires-clause-eligible g c =
    steps.setting_eligible c.args.query.now c.args.table.now.settings.trees c.args.tree
    c.at-setting.result.now c.requires.room.eligible c.at-setting.ensures

pub group_columns-requires-clause-eligible : goal.group_columns-requires-clause-eligible
group_columns-requires-clause-eligible g c =
    steps.setting_eligible c.args.query.now c.args.table.now.settings.trees c.args.tree
    c.at-setting.result.now c.requires.room.eligible c.at-setting.ensures

pub pair_numbers-requires-clause-eligible : goal.pair_numbers-requires-clause-eligible
pair_numbers-requires-clause-eligible g c =
    steps.setting_eligible c.args.query.now c.args.table.now.settings.trees c.args.tree
    c.at-setting.result.now c.requires.room.eligible c.at-setting.ensures

pub group_columns-requires-clause-at_most : goal.group_columns-requires-clause-at_most
group_columns-requires-clause-at_most g c =
    (steps.setting_valid c.args.table.now c.args.tree c.at-setting.result.now c.requires.room.valid
    c.at-setting.ensures).few_split

pub pair_numbers-requires-clause-at_most : goal.pair_numbers-requires-clause-at_most
pair_numbers-requires-clause-at_most g c =
    (steps.setting_valid c.args.table.now c.args.tree c.at-setting.result.now c.requires.room.valid
    c.at-setting.ensures).few_pairs

pub answer_tree-requires-clause-room : goal.answer_tree-requires-clause-room
answer_tree-requires-clause-room g c =
    let query = c.args.query.now in
    let table = c.args.table.now in
    let head : Seen = c.args.head.now in
    let t : ℕ = c.args.tree in
    let setting = c.at-setting.result.now in
    let part = c.of_file-part.result in
    let task = c.in_ok-task.task in
    let asked : Asked = record { columns = c.as_slice.result; pairs = c.as_slice-2.result } in
    let said = c.in-Ok.opened.nodes in
    let held : Option Files = g.S.Shelf.held c.args.shelf.now in
    let now : Option Files = g.S.Shelf.held c.read_tree.new.shelf in
    let ready = steps.ready_so query table head t setting part task asked said
    c.in-Ok.opened.counts.items c.documents_of.result.now c.in_ok-columns.columns.items
    c.in_ok-pairs.pairs.items held c.requires.room.valid c.requires.room.of_table c.requires.room.query_valid
    c.requires.room.eligible c.requires.room.loaded c.requires.room.groups_loaded c.at-setting.ensures
    c.in-Ok.ensures.reads.told c.in-Ok.ensures.counts c.in-Ok.ensures.keeps c.of_file-part.ensures.shape
    c.of_file-part.ensures.counts c.of_file-part.ensures.nodes c.of_file-part.ensures.documents
    c.documents_of.ensures c.in_ok-task.ensures.each c.in_ok-task.ensures.entries
    c.in_ok-task.ensures.asks c.in_ok-columns.ensures c.as_slice.ensures.value c.in_ok-pairs.ensures
    c.as_slice-2.ensures.value in
    record {
      tree =
          steps.ready_tree query table head t setting part task asked said held now ready
          c.in-Ok.ensures.reads.only_reads.held c.head_tells_law.ensures c.rows.result c.rows.ensures;
      asked =
          steps.ready_asked query table head t setting part task asked said held now ready
          c.in-Ok.ensures.reads.only_reads.held c.head_tells_law.ensures c.rows.result c.rows.ensures;
      table =
          steps.ready_table query table head t setting part task asked said held now ready
          c.in-Ok.ensures.reads.only_reads.held c.head_tells_law.ensures c.rows.result c.rows.ensures (in_pool c.args.groups.now c.args.pool.now) c.requires.room.of_query;
      few_rows =
          let at_most = c.requires.room.of_table.at_most in
          let rows = c.requires.room.of_table.has.rows_are in
          omega (arith, at_most, rows, c.rows.ensures);
      fits = subst (λ n. HaveAtMost (most_values - n) (groups_in (in_pool c.args.groups.now c.args.pool.now))) (sym c.rows.ensures) c.requires.room.fits;
    }

pub returns-in-Ok-answer_tree-clause-count : goal.returns-in-Ok-answer_tree-clause-count
returns-in-Ok-answer_tree-clause-count g c =
    let query = c.args.query.now in
    let table = c.args.table.now in
    let head : Seen = c.args.head.now in
    let t : ℕ = c.args.tree in
    let setting = c.at-setting.result.now in
    let part = c.of_file-part.result in
    let task = c.in_ok-task.task in
    let asked : Asked = record { columns = c.as_slice.result; pairs = c.as_slice-2.result } in
    let said = c.in-Ok.opened.nodes in
    let held : Option Files = g.S.Shelf.held c.args.shelf.now in
    let now : Option Files = g.S.Shelf.held c.read_tree.new.shelf in
    let ready = steps.ready_so query table head t setting part task asked said
    c.in-Ok.opened.counts.items c.documents_of.result.now c.in_ok-columns.columns.items
    c.in_ok-pairs.pairs.items held c.requires.room.valid c.requires.room.of_table c.requires.room.query_valid
    c.requires.room.eligible c.requires.room.loaded c.requires.room.groups_loaded c.at-setting.ensures
    c.in-Ok.ensures.reads.told c.in-Ok.ensures.counts c.in-Ok.ensures.keeps c.of_file-part.ensures.shape
    c.of_file-part.ensures.counts c.of_file-part.ensures.nodes c.of_file-part.ensures.documents
    c.documents_of.ensures c.in_ok-task.ensures.each c.in_ok-task.ensures.entries
    c.in_ok-task.ensures.asks c.in_ok-columns.ensures c.as_slice.ensures.value c.in_ok-pairs.ensures
    c.as_slice-2.ensures.value in
    steps.ready_docs query table head t setting part task asked said held now ready
    c.in-Ok.ensures.reads.only_reads.held c.head_tells_law.ensures c.rows.result c.rows.ensures
    c.docs_read_law.ensures.read (in_pool c.args.groups.now c.args.pool.now) (in_pool c.answer_tree.new.groups c.answer_tree.new.pool) c.in-Ok-answer_tree.count
    c.in-Ok-answer_tree.ensures.count c.in-Ok-answer_tree.ensures.ok

pub returns-in-Ok-answer_tree-clause-ok : goal.returns-in-Ok-answer_tree-clause-ok
returns-in-Ok-answer_tree-clause-ok g c =
    let query = c.args.query.now in
    let table = c.args.table.now in
    let head : Seen = c.args.head.now in
    let t : ℕ = c.args.tree in
    let setting = c.at-setting.result.now in
    let part = c.of_file-part.result in
    let task = c.in_ok-task.task in
    let asked : Asked = record { columns = c.as_slice.result; pairs = c.as_slice-2.result } in
    let said = c.in-Ok.opened.nodes in
    let held : Option Files = g.S.Shelf.held c.args.shelf.now in
    let now : Option Files = g.S.Shelf.held c.read_tree.new.shelf in
    let ready = steps.ready_so query table head t setting part task asked said
    c.in-Ok.opened.counts.items c.documents_of.result.now c.in_ok-columns.columns.items
    c.in_ok-pairs.pairs.items held c.requires.room.valid c.requires.room.of_table c.requires.room.query_valid
    c.requires.room.eligible c.requires.room.loaded c.requires.room.groups_loaded c.at-setting.ensures
    c.in-Ok.ensures.reads.told c.in-Ok.ensures.counts c.in-Ok.ensures.keeps c.of_file-part.ensures.shape
    c.of_file-part.ensures.counts c.of_file-part.ensures.nodes c.of_file-part.ensures.documents
    c.documents_of.ensures c.in_ok-task.ensures.each c.in_ok-task.ensures.entries
    c.in_ok-task.ensures.asks c.in_ok-columns.ensures c.as_slice.ensures.value c.in_ok-pairs.ensures
    c.as_slice-2.ensures.value in
    steps.ready_adds query table head t setting part task asked said held now ready
    c.in-Ok.ensures.reads.only_reads.held c.head_tells_law.ensures c.rows.result c.rows.ensures
    c.served_law.ensures.adds (in_pool c.args.groups.now c.args.pool.now) (in_pool c.answer_tree.new.groups c.answer_tree.new.pool) c.requires.room.of_query
    c.in-Ok-answer_tree.ensures.ok

pub returns-in-Ok-answer_tree-clause-log : goal.returns-in-Ok-answer_tree-clause-log
returns-in-Ok-answer_tree-clause-log g c =
    let query = c.args.query.now in
    let table = c.args.table.now in
    let head : Seen = c.args.head.now in
    let t : ℕ = c.args.tree in
    let setting = c.at-setting.result.now in
    let part = c.of_file-part.result in
    let task = c.in_ok-task.task in
    let asked : Asked = record { columns = c.as_slice.result; pairs = c.as_slice-2.result } in
    let said = c.in-Ok.opened.nodes in
    let held : Option Files = g.S.Shelf.held c.args.shelf.now in
    let now : Option Files = g.S.Shelf.held c.read_tree.new.shelf in
    let ready = steps.ready_so query table head t setting part task asked said
    c.in-Ok.opened.counts.items c.documents_of.result.now c.in_ok-columns.columns.items
    c.in_ok-pairs.pairs.items held c.requires.room.valid c.requires.room.of_table c.requires.room.query_valid
    c.requires.room.eligible c.requires.room.loaded c.requires.room.groups_loaded c.at-setting.ensures
    c.in-Ok.ensures.reads.told c.in-Ok.ensures.counts c.in-Ok.ensures.keeps c.of_file-part.ensures.shape
    c.of_file-part.ensures.counts c.of_file-part.ensures.nodes c.of_file-part.ensures.documents
    c.documents_of.ensures c.in_ok-task.ensures.each c.in_ok-task.ensures.entries
    c.in_ok-task.ensures.asks c.in_ok-columns.ensures c.as_slice.ensures.value c.in_ok-pairs.ensures
    c.as_slice-2.ensures.value in
    steps.ready_log query table head t setting part task asked said held now ready
    c.in-Ok.ensures.reads.only_reads.held c.head_tells_law.ensures c.rows.result c.rows.ensures
    c.docs_read_law.ensures.read c.walkable_law.ensures.within c.in-Ok-answer_tree.count
    (g.S.Shelf.log c.args.shelf.now) (g.S.Shelf.log c.read_tree.new.shelf)
    (g.S.Shelf.log c.answer_tree.new.shelf) c.in-Ok-answer_tree.ensures.count c.in-Ok.ensures.log
    c.in-Ok-answer_tree.ensures.log

pub returns-clause-full : goal.returns-clause-full
returns-clause-full g c is =
    let query = c.args.query.now in
    let table = c.args.table.now in
    let head : Seen = c.args.head.now in
    let t : ℕ = c.args.tree in
    let setting = c.at-setting.result.now in
    let part = c.of_file-part.result in
    let task = c.in_ok-task.task in
    let asked : Asked = record { columns = c.as_slice.result; pairs = c.as_slice-2.result } in
    let said = c.in-Ok.opened.nodes in
    let held : Option Files = g.S.Shelf.held c.args.shelf.now in
    let now : Option Files = g.S.Shelf.held c.read_tree.new.shelf in
    let ready = steps.ready_so query table head t setting part task asked said
    c.in-Ok.opened.counts.items c.documents_of.result.now c.in_ok-columns.columns.items
    c.in_ok-pairs.pairs.items held c.requires.room.valid c.requires.room.of_table c.requires.room.query_valid
    c.requires.room.eligible c.requires.room.loaded c.requires.room.groups_loaded c.at-setting.ensures
    c.in-Ok.ensures.reads.told c.in-Ok.ensures.counts c.in-Ok.ensures.keeps c.of_file-part.ensures.shape
    c.of_file-part.ensures.counts c.of_file-part.ensures.nodes c.of_file-part.ensures.documents
    c.documents_of.ensures c.in_ok-task.ensures.each c.in_ok-task.ensures.entries
    c.in_ok-task.ensures.asks c.in_ok-columns.ensures c.as_slice.ensures.value c.in_ok-pairs.ensures
    c.as_slice-2.ensures.value in
    let own : c.of_tree.result ≡ segments.TooManyGroups = cc in
    steps.ready_full query table head t setting part task asked said held now ready
    c.in-Ok.ensures.reads.only_reads.held c.head_tells_law.ensures c.rows.result c.rows.ensures
    c.served_law.ensures.overfull (in_pool c.args.groups.now c.args.pool.now) c.requires.room.of_query
    (c.in-Err-answer_tree.ensures.full (ap Err (c.of_tree.ensures.full own))).over

pub returns-clause-bad : goal.returns-clause-bad
returns-clause-bad g c bad is =
    let query = c.args.query.now in
    let table = c.args.table.now in
    let head : Seen = c.args.head.now in
    let t : ℕ = c.args.tree in
    let setting = c.at-setting.result.now in
    let part = c.of_file-part.result in
    let task = c.in_ok-task.task in
    let asked : Asked = record { columns = c.as_slice.result; pairs = c.as_slice-2.result } in
    let said = c.in-Ok.opened.nodes in
    let held : Option Files = g.S.Shelf.held c.args.shelf.now in
    let now : Option Files = g.S.Shelf.held c.read_tree.new.shelf in
    let ready = steps.ready_so query table head t setting part task asked said
    c.in-Ok.opened.counts.items c.documents_of.result.now c.in_ok-columns.columns.items
    c.in_ok-pairs.pairs.items held c.requires.room.valid c.requires.room.of_table c.requires.room.query_valid
    c.requires.room.eligible c.requires.room.loaded c.requires.room.groups_loaded c.at-setting.ensures
    c.in-Ok.ensures.reads.told c.in-Ok.ensures.counts c.in-Ok.ensures.keeps c.of_file-part.ensures.shape
    c.of_file-part.ensures.counts c.of_file-part.ensures.nodes c.of_file-part.ensures.documents
    c.documents_of.ensures c.in_ok-task.ensures.each c.in_ok-task.ensures.entries
    c.in_ok-task.ensures.asks c.in_ok-columns.ensures c.as_slice.ensures.value c.in_ok-pairs.ensures
    c.as_slice-2.ensures.value in
    let own : c.of_tree.result ≡ segments.NotASegment bad = cc in
    let docs = c.of_tree.ensures.bad bad own in
    let star : segments.NotASegment (parts.Star t) ≡ segments.NotASegment bad =
    sym (c.of_tree.ensures.part docs) ∙ own in
    let same : parts.Star t ≡ bad = cc in
    subst (IsBadTree query table held head t) same
    (steps.ready_bad query table head t setting part task asked said held now ready
    c.in-Ok.ensures.reads.only_reads.held c.head_tells_law.ensures c.rows.result c.rows.ensures
    c.served_law.ensures.never_bad (c.in-Err-answer_tree.ensures.bad (ap Err docs)))

pub returns-clause-filled : goal.returns-clause-filled
returns-clause-filled g c is =
    let own : c.of_tree.result ≡ segments.TooManyGroups = cc in
    (c.in-Err-answer_tree.ensures.full (ap Err (c.of_tree.ensures.full own))).filled

pub returns-clause-log_of_fault : goal.returns-clause-log_of_fault
returns-clause-log_of_fault g c =
    let query = c.args.query.now in
    let table = c.args.table.now in
    let head : Seen = c.args.head.now in
    let t : ℕ = c.args.tree in
    let setting = c.at-setting.result.now in
    let part = c.of_file-part.result in
    let task = c.in_ok-task.task in
    let asked : Asked = record { columns = c.as_slice.result; pairs = c.as_slice-2.result } in
    let said = c.in-Ok.opened.nodes in
    let held : Option Files = g.S.Shelf.held c.args.shelf.now in
    let now : Option Files = g.S.Shelf.held c.read_tree.new.shelf in
    let ready = steps.ready_so query table head t setting part task asked said
    c.in-Ok.opened.counts.items c.documents_of.result.now c.in_ok-columns.columns.items
    c.in_ok-pairs.pairs.items held c.requires.room.valid c.requires.room.of_table c.requires.room.query_valid
    c.requires.room.eligible c.requires.room.loaded c.requires.room.groups_loaded c.at-setting.ensures
    c.in-Ok.ensures.reads.told c.in-Ok.ensures.counts c.in-Ok.ensures.keeps c.of_file-part.ensures.shape
    c.of_file-part.ensures.counts c.of_file-part.ensures.nodes c.of_file-part.ensures.documents
    c.documents_of.ensures c.in_ok-task.ensures.each c.in_ok-task.ensures.entries
    c.in_ok-task.ensures.asks c.in_ok-columns.ensures c.as_slice.ensures.value c.in_ok-pairs.ensures
    c.as_slice-2.ensures.value in
    steps.ready_partly query table head t setting part task asked said held now ready
    c.in-Ok.ensures.reads.only_reads.held c.head_tells_law.ensures c.rows.result c.rows.ensures
    c.docs_read_law.ensures.read c.walkable_law.ensures.within
    (g.S.Shelf.log c.args.shelf.now) (g.S.Shelf.log c.read_tree.new.shelf)
    (g.S.Shelf.log c.answer_tree.new.shelf) c.in-Ok.ensures.log
    c.in-Err-answer_tree.ensures.log_of_fault

use Rattle.std.proofs.Common.{◌≡◌, ◌∙◌, ◌<◌, length, length-drop, sym, ap, arith}
use Rattle.std.proofs.lemmas.Bool.{false≢true}
use Rattle.std.specs.Vec.Iter.{into_iter_items, into_iter_len}
use Rattle.values.specs.Columns.{rows_of}
use Rattle.segment_file.specs.Ordered.{ordered}
use Rattle.segment_build.specs.Arranging.{arranged}
use Rattle.segment_build.specs.Coded.{columns_in, dictionary_of_ids}
use Rattle.segment_build.specs.Sections.{made_of}
use Rattle.segment_build.proofs.Codings.{coded_at, many_columns, may_push}
use Rattle.segment_build.proofs.ColumnCodes.{coded_more}
use Rattle.segment_build.proofs.ColumnLemmas.{made_none}
use Rattle.segment_build.proofs.MergeLemmas.{drop_next}
use Rattle.segment_build.proofs.PackedLemmas.{left_first}
use Rattle.segment_build.proofs.sections.column_sections.Goals as goal

pub columns-init : goal.columns-init
columns-init c = record {
  rest = c.into_iter-left.ensures.rest;
  size = omega (arith, c.into_iter-left.ensures.len, ap length c.into_iter-left.ensures.rest);
  made = made_none c.args.table.now (ordered c.args.table.now.settings.sorted (rows_of (columns_in c.args.coded))) _ c.in_ok-sections.ensures;
}

pub unreachable-requires : goal.unreachable-requires
unreachable-requires c =
    let coded = c.args.coded in
    let at = c.columns.at in
    let lt : at < length coded.columns.items = omega (arith, c.columns-test.true, c.len-count.ensures, many_columns c.args.table.now coded c.requires.rows) in
    let left = ap length c.columns.invariant.rest in
    let size = c.columns.invariant.size in
    let some : 0 < into_iter_len c.columns.left = omega (arith, lt, left, size, length-drop at coded.columns.items) in
    false≢true (c.in_default.ensures.variant.1 some)

pub push_column-requires : goal.push_column-requires
push_column-requires c =
    let coded = c.args.coded in
    let at = c.columns.at in
    let column = c.in-Some.column in
    let lt : at < length coded.columns.items = omega (arith, c.columns-test.true, c.len-count.ensures, many_columns c.args.table.now coded c.requires.rows) in
    let is = left_first coded.columns.items (into_iter_items c.next.new.self) column at (sym c.columns.invariant.rest ∙ c.in-Some.ensures.items) in
    may_push c.args.table.now coded at column c.args.order.now c.indexes_at-indexes.result c.requires.rows lt is c.requires.order c.indexes_at-indexes.ensures.sorted

pub columns-preserved : goal.columns-preserved
columns-preserved c =
    let table = c.args.table.now in
    let coded = c.args.coded in
    let at = c.columns.at in
    let column = c.in-Some.column in
    let order = c.args.order.now in
    let indexes = c.indexes_at-indexes in
    let i = c.columns.invariant in
    let many = many_columns table coded c.requires.rows in
    let lt : at < length coded.columns.items = omega (arith, c.columns-test.true, c.len-count.ensures, many) in
    let below : at < length table.schema.fields = omega (arith, lt, many) in
    let next = sym i.rest ∙ c.in-Some.ensures.items in
    let is = left_first coded.columns.items (into_iter_items c.next.new.self) column at next in
    record {
      rest = sym (drop_next coded.columns.items (into_iter_items c.next.new.self) column at next);
      size =
          let was = i.size in
          let gone = c.in-Some.ensures.len in
          let short = ap length c.in-Some.ensures.items in
          omega arith;
      made = coded_more table (columns_in coded) at (dictionary_of_ids column) (arranged 0 order column.ids) indexes.result c.columns.sections _ c.requires.rows.of_table.valid below
          (coded_at table coded at column order c.requires.rows lt is c.requires.order) indexes.ensures.sorted indexes.ensures.inverted indexes.ensures.ranged
          i.made c.in_ok-push_column.ensures;
    }

pub returns : goal.returns
returns c =
    let table = c.args.table.now in
    let os = ordered table.settings.sorted (rows_of (columns_in c.args.coded)) in
    let end : c.columns.at ≡ length table.schema.fields = omega (arith, c.columns-test.false, c.columns.auto.at-end, c.len-count.ensures) in
    c.columns.invariant.made ∙ ap (made_of table os) end

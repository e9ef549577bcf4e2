use Rattle.std.proofs.Common.{ap}
use Rattle.bit_column.specs.Column.{width_of}
use Rattle.bit_column.specs.Postings.{inverted, ranged}
use Rattle.bit_column.specs.SortedRuns.{sorted_runs}
use Rattle.segment_build.specs.Made.{each_bytes}
use Rattle.segment_build.proofs.ColumnLemmas.{column_pushed}
use Rattle.segment_build.proofs.MadeLemmas.{each_more}
use Rattle.segment_build.proofs.sections.Sections.push.Goals as goal

pub returns : goal.returns
returns c =
    let d = c.args.dictionary.now in
    let ids = c.args.ids.now in
    let view = c.self.view_is in
    let count = c.count-count.ensures.count in
    let ds = each_more _ _ _ _ c.in_ok-push.ensures.items c.in_ok-dictionary_section.ensures in
    let fs = each_more _ _ _ _ c.in_ok-push-2.ensures.items c.in_ok-forward_section.ensures in
    column_pushed d ids c.args.indexes c.args.self.now
    (record { bounds = c.push_ends.new.out.items; dictionaries = each_bytes c.push.new.self.items; forwards = each_bytes c.push-2.new.self.items; runs = each_bytes c.push_runs.new.out.items; lists = each_bytes c.push_lists.new.out.items; ranges = each_bytes c.push_ranges.new.out.items })
    (cc (c.in_ok-push_ends.ensures, ap (λ m. m.bounds) view))
    (cc (ds, ap (λ m. m.dictionaries) view))
    (cc (fs, ap (λ n. width_of n) count, ap (λ m. m.forwards) view))
    (cc (c.in_ok-push_runs.ensures, ap (λ n. sorted_runs n ids) count, ap (λ m. m.runs) view))
    (cc (c.in_ok-push_lists.ensures, ap (λ n. inverted n ids) count, ap (λ m. m.lists) view))
    (cc (c.in_ok-push_ranges.ensures, ap (λ n. ranged n ids) count, ap (λ m. m.ranges) view))

use Rattle.std.proofs.Common.{rules, ◌≡◌, ◌∙◌, ◌<◌, ◌-◌, ℕ, List, ap, length, sym, arith}
use Rattle.values.specs.declared.value.Value.{Value}
use Rattle.value_ids.specs.Ids.{matching}
use Rattle.segment_head.specs.Heads.{Seen}
use Rattle.segment_plan.specs.Matched.{values_in, values_of, count_in}
use Rattle.segment_plan.specs.RowsLeft.{first_of, last_of}
use Rattle.index_filter.proofs.MatchLemmas.{matching_below}
use Rattle.index_filter.proofs.RangeLemmas.{buckets_partly, near_docs, range_logs, range_partly}
use Rattle.index_filter.proofs.index.docs_by_range.Goals as goal

pub docs_between-requires-clause-below : goal.docs_between-requires-clause-below
docs_between-requires-clause-below g c =
    let values : List Value = c.dictionary-dictionary.result.now.values in
    let ids : List ℕ = c.in-Ok.ids in
    let some : 0 < length ids = c.in-Some.ensures.3 in
    let own : last_of ids < length values = matching_below values c.args.test.now ids c.in-Ok.ensures.each (length ids - 1) 0 (omega (arith, some)) in
    omega (arith, own, c.in-Some.ensures.1, c.count-count.ensures.count)

pub returns-in-Err-docs_between-clause-reads : goal.returns-in-Err-docs_between-clause-reads
returns-in-Err-docs_between-clause-reads g c = record {
  bad = search rules;
  full = search rules;
  only_reads = search rules;
  log = tt;
  log_of_fault =
      let head : Seen = c.args.head.now in
      let column : ℕ = c.args.column in
      let held = g.S.Shelf.held c.args.shelf.now in
      let values : c.dictionary-dictionary.result.now.values ≡ values_in head column = sym (ap values_of c.dictionary-dictionary.ensures) in
      let ids : c.in-Ok.ids ≡ matching c.args.test.now (values_in head column) = c.in-Ok.ensures.ids ∙ ap (matching c.args.test.now) values in
      let count : c.count-count.result ≡ count_in head column = c.count-count.ensures.count ∙ ap length values in
      let low : c.in-Some.low ≡ first_of (matching c.args.test.now (values_in head column)) = c.in-Some.ensures.0 ∙ ap first_of ids in
      let high : c.in-Some.high ≡ last_of (matching c.args.test.now (values_in head column)) = c.in-Some.ensures.1 ∙ ap last_of ids in
      range_partly head column c.args.test.now c.in-Some-place.place.now c.count-count.result c.rows.result c.in-Some.low c.in-Some.high c.in-Some-place.ensures count c.rows.ensures low high held (g.S.Shelf.log c.args.shelf.now) (g.S.Shelf.log c.docs_between.new.shelf) c.in-Err-docs_between.ensures.reads.log_of_fault;
}

pub returns-in-Ok-add_near-clause-docs : goal.returns-in-Ok-add_near-clause-docs
returns-in-Ok-add_near-clause-docs g c =
    let head : Seen = c.args.head.now in
    let column : ℕ = c.args.column in
    let held = g.S.Shelf.held c.args.shelf.now in
    let values : c.dictionary-dictionary.result.now.values ≡ values_in head column = sym (ap values_of c.dictionary-dictionary.ensures) in
    let ids : c.in-Ok.ids ≡ matching c.args.test.now (values_in head column) = c.in-Ok.ensures.ids ∙ ap (matching c.args.test.now) values in
    let count : c.count-count.result ≡ count_in head column = c.count-count.ensures.count ∙ ap length values in
    let low : c.in-Some.low ≡ first_of (matching c.args.test.now (values_in head column)) = c.in-Some.ensures.0 ∙ ap first_of ids in
    let high : c.in-Some.high ≡ last_of (matching c.args.test.now (values_in head column)) = c.in-Some.ensures.1 ∙ ap last_of ids in
    near_docs head column c.args.test.now c.in-Some-place.place.now c.count-count.result c.rows.result c.in-Some.low c.in-Some.high c.in-Some-place.ensures count c.rows.ensures low high held c.in-Ok-docs_between.docs.0 c.in-Ok-docs_between.docs.1 c.in-Ok-add_near.docs c.in-Ok-docs_between.ensures.sure c.in-Ok-docs_between.ensures.check c.in-Ok-docs_between.ensures.within c.in-Ok-add_near.ensures.docs

pub returns-in-Ok-add_near-clause-reads : goal.returns-in-Ok-add_near-clause-reads
returns-in-Ok-add_near-clause-reads g c = record {
  bad = search rules;
  full = search rules;
  only_reads = search rules;
  log =
      let head : Seen = c.args.head.now in
      let column : ℕ = c.args.column in
      let held = g.S.Shelf.held c.args.shelf.now in
      let values : c.dictionary-dictionary.result.now.values ≡ values_in head column = sym (ap values_of c.dictionary-dictionary.ensures) in
      let ids : c.in-Ok.ids ≡ matching c.args.test.now (values_in head column) = c.in-Ok.ensures.ids ∙ ap (matching c.args.test.now) values in
      let count : c.count-count.result ≡ count_in head column = c.count-count.ensures.count ∙ ap length values in
      let low : c.in-Some.low ≡ first_of (matching c.args.test.now (values_in head column)) = c.in-Some.ensures.0 ∙ ap first_of ids in
      let high : c.in-Some.high ≡ last_of (matching c.args.test.now (values_in head column)) = c.in-Some.ensures.1 ∙ ap last_of ids in
      range_logs head column c.args.test.now c.in-Some-place.place.now c.count-count.result c.rows.result c.in-Some.low c.in-Some.high c.in-Some-place.ensures count c.rows.ensures low high held (g.S.Shelf.log c.args.shelf.now) (g.S.Shelf.log c.docs_between.new.shelf) c.in-Ok-docs_between.ensures.reads.log;
  log_of_fault = tt;
}

pub returns-clause-reads : goal.returns-clause-reads
returns-clause-reads g c = record {
  bad = search rules;
  full = search rules;
  only_reads = search rules;
  log = tt;
  log_of_fault =
      let head : Seen = c.args.head.now in
      let column : ℕ = c.args.column in
      let held = g.S.Shelf.held c.args.shelf.now in
      let values : c.dictionary-dictionary.result.now.values ≡ values_in head column = sym (ap values_of c.dictionary-dictionary.ensures) in
      let ids : c.in-Ok.ids ≡ matching c.args.test.now (values_in head column) = c.in-Ok.ensures.ids ∙ ap (matching c.args.test.now) values in
      let count : c.count-count.result ≡ count_in head column = c.count-count.ensures.count ∙ ap length values in
      let low : c.in-Some.low ≡ first_of (matching c.args.test.now (values_in head column)) = c.in-Some.ensures.0 ∙ ap first_of ids in
      let high : c.in-Some.high ≡ last_of (matching c.args.test.now (values_in head column)) = c.in-Some.ensures.1 ∙ ap last_of ids in
      let old = g.S.Shelf.log c.args.shelf.now in
      let new = g.S.Shelf.log c.docs_between.new.shelf in
      range_partly head column c.args.test.now c.in-Some-place.place.now c.count-count.result c.rows.result c.in-Some.low c.in-Some.high c.in-Some-place.ensures count c.rows.ensures low high held old new (buckets_partly held c.in-Some-place.place.now c.count-count.result c.rows.result c.in-Some.low c.in-Some.high old new c.in-Ok-docs_between.ensures.reads.log);
}

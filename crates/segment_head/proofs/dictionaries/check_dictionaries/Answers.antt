use Rattle.std.proofs.Common.{◌≡◌, ◌∙◌, ◌+◌, length, sym, ap, subst, arith, get_or, Err}
use Rattle.std.specs.List.{range_with_len}
use Rattle.segment_file.specs.declared.part.Part.TheVariants as parts
use Rattle.segment_head.specs.Reading.{heads_read}
use Rattle.segment_file.specs.Rules.{AreSpelled, IsSpelled}
use Rattle.segment_head.proofs.HeadLemmas.{bad_dictionary, spelled_more, stops_here}
use Rattle.segment_head.proofs.dictionaries.check_dictionaries.Goals as goal

pub loop-column-preserved : goal.loop-column-preserved
loop-column-preserved c =
    let table = c.args.table.now in
    let fields = table.schema.fields in
    let column = c.loop-column.column in
    let field = c.index-fields-column.is ∙ ap (λ fs. get_or fs column c.index-fields-column.result) c.as_slice-fields.ensures in
    subst (AreSpelled table c.args.rows (heads_read table c.args.sections.now c.args.bytes.now) (range_with_len 0 (column + 1))) (sym c.in_ok-keep-in-Ok.ensures)
    (spelled_more table c.args.rows c.args.bytes.now c.section_bytes-bytes.result.now c.args.sections.now column c.index-fields-column.result c.index-sections-column.result c.loop-column.dictionaries.items c.in-Ok.dictionary
    (omega (arith, c.loop-column-test.true, ap length c.as_slice-fields.ensures)) c.requires.each field c.index-sections-column.is c.section_bytes-bytes.ensures c.loop-column.invariant
    (subst (λ f. IsSpelled f.kind c.args.rows c.section_bytes-bytes.result.now c.in-Ok.dictionary) (sym c.index-fields-column.is) c.in-Ok.ensures.ok))

pub returns-in-Err : goal.returns-in-Err
returns-in-Err c = record {
  ok = tt;
  read = λ is. c.of_dictionary.ensures.read cc;
  bad = λ p is.
      let table = c.args.table.now in
      let column = c.loop-column.column in
      let field = c.index-fields-column.is ∙ ap (λ fs. get_or fs column c.index-fields-column.result) c.as_slice-fields.ensures in
      let bad = bad_dictionary c.in-Err.fault c.of_dictionary.result p c.of_dictionary.ensures.memory is in
      let both = sym is ∙ c.of_dictionary.ensures.bad bad in
      let part : p ≡ parts.Dictionary column = cc in
      let none = c.in-Err.ensures.bad (ap Err bad) in (
        column,
        part,
        stops_here table c.args.rows c.args.bytes.now c.section_bytes-bytes.result.now c.args.sections.now column c.index-fields-column.result c.index-sections-column.result c.loop-column.dictionaries.items
            (omega (arith, c.loop-column-test.true, ap length c.as_slice-fields.ensures)) c.requires.each field c.index-sections-column.is c.section_bytes-bytes.ensures c.loop-column.invariant
            (λ d is'. none d (subst (λ f. IsSpelled f.kind c.args.rows c.section_bytes-bytes.result.now d) c.index-fields-column.is is')),
      );
}

pub returns : goal.returns
returns c = record {
  ok =
      let table = c.args.table.now in
      let all : c.loop-column.column ≡ length table.schema.fields = omega (arith, c.loop-column.auto.column-end, c.loop-column-test.false, ap length c.as_slice-fields.ensures) in
      subst (λ n. AreSpelled table c.args.rows (heads_read table c.args.sections.now c.args.bytes.now) (range_with_len 0 n) c.loop-column.dictionaries.items) all c.loop-column.invariant;
  read = λ is. cc;
  bad = tt;
}

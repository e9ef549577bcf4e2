use Rattle.std.proofs.Common.{◌≡◌, ◌<◌, ◌∙◌, length, ap, arith, refl, subst}
use Rattle.values.specs.Columns.{rows_of}
use Rattle.value_ids.specs.Coding.{values_at}
use Rattle.value_ids.specs.Dictionary.{Distinct}
use Rattle.segment_check.proofs.IdLemmas.{AreValuesOf, values_counts, values_more, values_rows}
use Rattle.segment_check.proofs.codes.decoded_columns.Goals as goal

pub columns-preserved : goal.columns-preserved
columns-preserved c =
    let coded = c.args.coded.now in
    let at = c.columns.at in
    let column = c.index-column.result.now in
    let lt : at < length coded.columns.items = omega (arith, c.columns-test.true, c.len-at-end.ensures) in
    values_more coded at column c.columns.columns.items c.push.new.self.items c.in_ok-column_of.field-0 lt c.index-column.ensures c.columns.invariant
    (c.in_ok-column_of.ensures ∙ ap (values_at c.dictionary-dictionary.result.now.values) (c.as_slice.ensures.value ∙ c.in_ok-put_all.ensures) ∙ ap (λ (d : Distinct). values_at d.values column.ids) c.dictionary-dictionary.ensures) c.in_ok-push.ensures.items

pub new-requires : goal.new-requires
new-requires c =
    let coded = c.args.coded.now in
    let end : c.columns.at ≡ length coded.columns.items = omega (arith, c.columns-test.false, c.columns.auto.at-end, c.len-at-end.ensures) in
    values_counts c.requires.0 coded c.columns.columns.items c.requires.1 (subst (λ n. AreValuesOf coded n c.columns.columns.items) end c.columns.invariant)

pub returns-clause-rows : goal.returns-clause-rows
returns-clause-rows c =
    let coded = c.args.coded.now in
    let end : c.columns.at ≡ length coded.columns.items = omega (arith, c.columns-test.false, c.columns.auto.at-end, c.len-at-end.ensures) in
    ap rows_of c.new.ensures
    ∙ values_rows coded (record { columns = c.columns.columns.items; count = coded.rows }) refl (subst (λ n. AreValuesOf coded n c.columns.columns.items) end c.columns.invariant)

use Rattle.std.proofs.Common.{◌∙◌, ap, length}
use Rattle.value_ids.specs.Dictionary.{Distinct}
use Rattle.std.proofs.lemmas.List.Sorted.{non_decreasing_from_is_sorted}
use Rattle.bit_column.specs.Postings.{entries}
use Rattle.segment_build.specs.Coded.{dictionary_of_ids, row_values}
use Rattle.segment_build.proofs.Arranged.{order_given, order_places, tested_up}
use Rattle.segment_build.proofs.Codings.{codes_of}
use Rattle.segment_build.proofs.order.order_by.Goals as goal

pub returns-then-is_sorted : goal.returns-then-is_sorted
returns-then-is_sorted c =
    let column = c.args.column.now in
    let these = c.as_slice-ids.result.now in
    order_given (row_values column) (dictionary_of_ids column).values column.ids c.requires.coded.are (codes_of column c.requires.coded)
    (tested_up _ column.ids these c.is_sorted.result (c.as_slice-ids.ensures.value ∙ c.in_ok-put_all.ensures) c.if-is_sorted.true (non_decreasing_from_is_sorted these c.is_sorted.result c.is_sorted.ensures.cases))

pub returns : goal.returns
returns c =
    let column = c.args.column.now in
    order_places (row_values column) (dictionary_of_ids column).values column.ids c.in_ok-places.places c.requires.coded.are (codes_of column c.requires.coded)
    (c.in_ok-places.ensures ∙ (λ i. entries ((c.count.ensures.count ∙ ap (λ (d : Distinct). length d.values) c.dictionary.ensures) i) ((c.as_slice-ids.ensures.value ∙ c.in_ok-put_all.ensures) i)))

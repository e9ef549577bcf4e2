use Rattle.std.proofs.Common.{◌∙◌, ap}
use Rattle.dictionary.proofs.SortLemmas.{next_put, next_suits}
use Rattle.dictionary.proofs.listing.column_of.Goals as goal

pub values-init : goal.values-init
values-init c = record {
  sort = ap (λ l. l.are_texts) c.empty_column-column.ensures;
  values = ap (λ l. l.values) c.empty_column-column.ensures;
}

pub push-requires : goal.push-requires
push-requires c =
    next_suits c.args.kind c.args.values.now c.values.value-index c.value-item.result c.values.column.are_texts c.requires c.values-test.true c.value-item.is c.values.invariant.sort

pub values-preserved : goal.values-preserved
values-preserved c = record {
  sort = ap (λ l. l.are_texts) c.in_ok-push.ensures ∙ c.values.invariant.sort;
  values = ap (λ l. l.values) c.in_ok-push.ensures
      ∙ next_put c.args.values.now c.values.column.values c.values.value-index c.value-item.result c.values-test.true c.value-item.is c.values.invariant.values;
}

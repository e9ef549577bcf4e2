use Rattle.std.proofs.Common.{◌≡◌, true, List, sym, subst, All}
use Rattle.outside.specs.Seen.{seen}
use Rattle.values.specs.declared.value.Value.{Value}
use Rattle.value_ids.specs.Dictionary.{IsUnicode}
use Rattle.embedded.specs.Rows.{are_rows, own_rows}
use Rattle.embedded.proofs.CallLemmas.{are_rows_told, own_given, published, unpublished}
use Rattle.embedded.proofs.building.build_of_rows.Goals as goal

pub returns-in-Ok : goal.returns-in-Ok
returns-in-Ok g c =
    let table = c.args.table.now in
    let fields = table.schema.fields in
    let rows = c.args.rows.now in
    let e = c.in-Ok.ensures in
    let test : are_rows fields rows ≡ true = sym (subst (λ f. true ≡ are_rows f rows) c.as_slice.ensures c.if-not-are_rows.ensures) in
    let unicode = subst (All (λ (row : List Value). All IsUnicode row)) c.as_slice-2.ensures c.look_at_rows.ensures in
    published table c.args.name.now (own_rows fields rows) c.if-not-is_segment_name.ensures.named rows (own_given fields rows test) (seen g.D.Shelf c.args.depot.now) (seen g.D.Shelf c.publish_segment.new.depot)
    (record { fit = are_rows_told fields rows test; unicode = unicode; trees = e.published.fits }) e.place.free e.place.room e.published.published (λ r. cc) (λ w. cc) e.only_publishes

pub returns-in-Err : goal.returns-in-Err
returns-in-Err g c =
    let table = c.args.table.now in
    let fields = table.schema.fields in
    let rows = c.args.rows.now in
    let e = c.in-Err.ensures in
    let test : are_rows fields rows ≡ true = sym (subst (λ f. true ≡ are_rows f rows) c.as_slice.ensures c.if-not-are_rows.ensures) in
    unpublished table c.args.name.now (own_rows fields rows) c.if-not-is_segment_name.ensures.named rows (own_given fields rows test) c.in-Err.fault (seen g.D.Shelf c.args.depot.now) (seen g.D.Shelf c.publish_segment.new.depot) e.place
    (λ large. (e.too_large large).2) e.only e.kept e.only_publishes

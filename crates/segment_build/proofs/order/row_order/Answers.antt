use Rattle.std.proofs.Common.{◌<◌, length, arith}
use Rattle.segment_build.proofs.Built.{known_below}
use Rattle.segment_build.proofs.Codings.{ids_few, many_columns, order_of}
use Rattle.segment_build.proofs.order.row_order.Goals as goal

pub index-requires : goal.index-requires
index-requires c =
    let below = known_below c.args.table.now c.in-Some.number c.requires.rows.of_table.valid c.in-Some.is in
    omega (arith, below, many_columns c.args.table.now c.args.coded.now c.requires.rows)

pub order_by-requires-clause-coded : goal.order_by-requires-clause-coded
order_by-requires-clause-coded c =
    let coded = c.args.coded.now in
    let below = known_below c.args.table.now c.in-Some.number c.requires.rows.of_table.valid c.in-Some.is in
    let lt : c.in-Some.number < length coded.columns.items = omega (arith, below, many_columns c.args.table.now coded c.requires.rows) in
    c.requires.rows.each c.in-Some.number c.index.result.now lt c.index.ensures

pub order_by-requires-clause-at_most : goal.order_by-requires-clause-at_most
order_by-requires-clause-at_most c =
    let coded = c.args.coded.now in
    let below = known_below c.args.table.now c.in-Some.number c.requires.rows.of_table.valid c.in-Some.is in
    let lt : c.in-Some.number < length coded.columns.items = omega (arith, below, many_columns c.args.table.now coded c.requires.rows) in
    ids_few c.args.table.now coded c.in-Some.number c.index.result.now c.requires.rows lt c.index.ensures

pub returns-in-Some : goal.returns-in-Some
returns-in-Some c =
    let coded = c.args.coded.now in
    let below = known_below c.args.table.now c.in-Some.number c.requires.rows.of_table.valid c.in-Some.is in
    let lt : c.in-Some.number < length coded.columns.items = omega (arith, below, many_columns c.args.table.now coded c.requires.rows) in
    order_of c.args.table.now coded c.in-Some.number c.index.result.now c.order_by.result c.requires.rows c.in-Some.is lt c.index.ensures c.order_by.ensures

use Rattle.std.proofs.Common.{◌<◌, ◌-◌, length, arith}
use Rattle.coded_columns.proofs.keys.put_ids.Goals as goal

pub between-requires : goal.between-requires
between-requires c =
    let places = c.args.places.now in
    let last = length places - 1 in
    let lt : last < length places = omega (arith, c.in-Some.ensures.some) in
    omega (arith, lt, c.in-Some.ensures.each last lt, c.requires.rows last 0 lt)

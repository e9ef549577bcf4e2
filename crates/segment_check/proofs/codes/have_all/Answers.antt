use Rattle.std.proofs.Common.{◌<◌, ℕ, List, get_or, length, arith}
use Rattle.std.proofs.lemmas.List.{get_or_default}
use Rattle.std.specs.List.{Contains}
use Rattle.segment_check.proofs.IdLemmas.{seen_all, seen_more, seen_up}
use Rattle.segment_check.proofs.codes.have_all.Goals as goal

pub returns-then-next-count : goal.returns-then-next-count
returns-then-next-count c = λ e.
    let ids : List ℕ = c.args.ids.now in
    let i = c.ids.row in
    let id = get_or ids i 0 in
    let lt : i < length ids = omega (arith, c.ids-test.true) in
    let marks = c.deref.result.now in
    let next = c.first_unmarked-next in
    let one : Contains ids id = (i, lt, get_or_default ids i id 0 lt) in
    let below : id < c.args.count = c.requires i 0 lt in
    let more = seen_more c.args.count c.ids.next id ids c.ids.marks.items marks c.ids.invariant below one c.deref.ensures.value in
    seen_all c.args.count next.result ids marks (seen_up c.args.count c.ids.next next.result ids marks more next.ensures.at_most next.ensures.marked) c.if-next-count.true

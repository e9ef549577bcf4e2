use Rattle.std.proofs.Common.{◌≡◌, ◌∙◌, false, Some, length, get_or, slice_get, sym, ap, arith}
use Rattle.segment_opening.proofs.AskedLemmas.{column_within, found_for}
use Rattle.segment_opening.proofs.found.find_for.Goals as goal

pub is_marked-requires : goal.is_marked-requires
is_marked-requires g c =
    let query = c.args.query.now in
    let lt = column_within query c.args.table.now c.requires.asked.query c.args.at c.in-One.column c.in-One.test (c.at.ensures ∙ ap Some c.in-One.is) in
    let count = c.requires.others.count in
    omega (arith, lt, count)

pub find-requires : goal.find-requires
find-requires g c = record {
  opened = c.requires.asked.of_table;
  column = column_within c.args.query.now c.args.table.now c.requires.asked.query c.args.at c.in-One.column c.in-One.test (c.at.ensures ∙ ap Some c.in-One.is);
}

pub returns-clause-found : goal.returns-clause-found
returns-clause-found g c =
    let query = c.args.query.now in
    let table = c.args.table.now in
    let column = c.in-One.column in
    let there = c.at.ensures ∙ ap Some c.in-One.is in
    let lt = column_within query table c.requires.asked.query c.args.at column c.in-One.test there in
    found_for query table c.requires.asked.query c.args.at column c.in-One.test there (g.S.Shelf.held c.args.shelf.now) c.args.head.now c.find.result
    (c.requires.others.apart column lt (sym c.is_marked.ensures ∙ c.if-is_marked.false)) (c.in_ok-met.ensures c.if-not-met.false) c.find.ensures.found c.find.ensures.few

use Rattle.std.proofs.Common.{◌∙◌, false, get_or, ap, arith}
use Rattle.segment_plan.specs.Matched.{AreLoaded}
use Rattle.segment_opening.specs.Wanted.{AreFactorsLoaded}
use Rattle.segment_opening.proofs.NamedLemmas.{AreMarkedLoaded, factors_detailed, filtered_detailed}
use Rattle.segment_opening.proofs.HeadLemmas.{ok_so}
use Rattle.segment_opening.proofs.loading.load_detailed.Goals as goal

pub returns-clause-filtered : goal.returns-clause-filtered
returns-clause-filtered g c =
    let table = c.args.table.now in
    let query = c.args.query.now in
    let head = c.load_marked.new.head in
    let marks = c.as_slice.result.now in
    ok_so c.load_marked.result (AreMarkedLoaded table marks head) (AreLoaded query.conjuncts head)
    (filtered_detailed table query c.requires.asked.query head marks c.args.tree
    (λ column lt. ap (λ l. get_or l column false) c.as_slice.ensures.value ∙ c.in_ok-detailed.ensures.each column (omega (arith, lt, c.len.ensures))))
    c.load_marked.ensures.loaded

pub returns-clause-factors : goal.returns-clause-factors
returns-clause-factors g c =
    let table = c.args.table.now in
    let query = c.args.query.now in
    let head = c.load_marked.new.head in
    let marks = c.as_slice.result.now in
    ok_so c.load_marked.result (AreMarkedLoaded table marks head) (AreFactorsLoaded query table c.args.tree head)
    (λ loaded. factors_detailed table query c.requires.asked.query head marks c.args.tree
    (λ column lt. ap (λ l. get_or l column false) c.as_slice.ensures.value ∙ c.in_ok-detailed.ensures.each column (omega (arith, lt, c.len.ensures)))
    loaded c.requires.asked.valid)
    c.load_marked.ensures.loaded

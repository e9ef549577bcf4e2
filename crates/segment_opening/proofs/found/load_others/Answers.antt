use Rattle.std.proofs.Common.{◌≡◌, ◌∙◌, false, true, get_or, ap, arith}
use Rattle.segment_plan.specs.Named.{AreNamedLoaded}
use Rattle.segment_opening.specs.Found.{unfiltered}
use Rattle.segment_opening.proofs.NamedLemmas.{AreMarkedLoaded, named_within}
use Rattle.segment_opening.proofs.FoundLemmas.{marked_so, unfiltered_names}
use Rattle.segment_opening.proofs.HeadLemmas.{ok_so}
use Rattle.segment_opening.proofs.found.load_others.Goals as goal

pub returns-clause-others : goal.returns-clause-others
returns-clause-others g c =
    let table = c.args.table.now in
    let query = c.args.query.now in
    let head = c.load_marked.new.head in
    let marks = c.as_slice.result.now in
    ok_so c.load_marked.result (AreMarkedLoaded table marks head) (AreNamedLoaded (unfiltered query) head)
    (λ loaded column names.
    let lt = named_within table query column c.requires.asked.query (unfiltered_names query column names) in
    loaded column lt (ap (λ l. get_or l column false) c.as_slice.ensures.value ∙ marked_so query c.len.result c.in_ok-others.others.items c.in_ok-others.ensures column (omega (arith, lt, c.len.ensures)) names))
    c.load_marked.ensures.loaded

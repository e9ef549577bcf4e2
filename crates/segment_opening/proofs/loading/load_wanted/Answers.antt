use Rattle.std.proofs.Common.{◌∙◌, false, get_or, ap, arith}
use Rattle.segment_opening.specs.Calls.{HasWanted}
use Rattle.segment_opening.proofs.NamedLemmas.{AreMarkedLoaded, filtered_wanted, grouped_wanted, named_wanted}
use Rattle.segment_opening.proofs.HeadLemmas.{ok_so}
use Rattle.segment_opening.proofs.loading.load_wanted.Goals as goal

pub returns-clause-wanted : goal.returns-clause-wanted
returns-clause-wanted g c =
    let table = c.args.table.now in
    let query = c.args.query.now in
    let head = c.load_marked.new.head in
    let marks = c.as_slice.result.now in
    ok_so c.load_marked.result (AreMarkedLoaded table marks head) (HasWanted query c.args.by_tree head)
    (λ loaded. record {
      filtered = filtered_wanted table query c.requires.query head marks c.args.by_tree
          (λ column lt. ap (λ l. get_or l column false) c.as_slice.ensures.value ∙ c.in_ok-wanted.ensures.each column (omega (arith, lt, c.len.ensures))) loaded;
      grouped = grouped_wanted table query c.requires.query head marks c.args.by_tree
          (λ column lt. ap (λ l. get_or l column false) c.as_slice.ensures.value ∙ c.in_ok-wanted.ensures.each column (omega (arith, lt, c.len.ensures))) loaded;
      named = named_wanted table query c.requires.query head marks c.args.by_tree
          (λ column lt. ap (λ l. get_or l column false) c.as_slice.ensures.value ∙ c.in_ok-wanted.ensures.each column (omega (arith, lt, c.len.ensures))) loaded;
    })
    c.load_marked.ensures.loaded

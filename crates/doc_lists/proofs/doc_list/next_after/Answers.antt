use Rattle.std.proofs.Common.{◌∙◌, ◌+◌, sym, ap}
use Rattle.doc_lists.proofs.Runs.{next_is}
use Rattle.doc_lists.proofs.doc_list.next_after.Goals as goal

pub returns-in-Some : goal.returns-in-Some
returns-in-Some c =
    let some = c.in-Some.ensures.item.3 in
    let run = c.in-Some.run'.now in
    ap (λ r. r.last + 1) (some.1 run) ∙ sym (next_is 0 c.args.runs.now run some.0)

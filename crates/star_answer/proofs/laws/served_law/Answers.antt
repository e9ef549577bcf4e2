use Rattle.star_tree.specs.Picks.{picks}
use Rattle.agg_laws.specs.Rows.{merged_rows}
use Rattle.agg_laws.specs.Tree.{tree_of}
use Rattle.state_columns.specs.Docs.{projected}
use Rattle.star_walk.proofs.TreePicks.{same}
use Rattle.star_reader.specs.Answers.{asked_of}
use Rattle.star_answer.proofs.ServedSteps.{own_ids, own_no_star, served_adds, served_fine, served_over}
use Rattle.star_answer.proofs.laws.served_law.Goals as goal

pub returns-clause-adds : goal.returns-clause-adds
returns-clause-adds c query tree task asked files rows old new ok ask of_query s a =
    served_adds query tree task asked files rows ok ask s
    (c.walk_law.ensures.groups (asked_of task) tree.shape.now tree.shape.now.dims
    (projected tree.shape.now.kinds s.entries)
    (own_ids query tree task asked files rows s) (own_no_star query tree task asked files rows s)) old new of_query a

pub returns-clause-overfull : goal.returns-clause-overfull
returns-clause-overfull c query tree task asked files rows old ok ask of_query s o =
    served_over query tree task asked files rows ok ask s
    (c.walk_law.ensures.groups (asked_of task) tree.shape.now tree.shape.now.dims
    (projected tree.shape.now.kinds s.entries)
    (own_ids query tree task asked files rows s) (own_no_star query tree task asked files rows s)) old o

pub returns-clause-never_bad : goal.returns-clause-never_bad
returns-clause-never_bad c query tree task asked files rows ok ask s =
    let t = asked_of task in
    let shape = tree.shape.now in
    let k = shape.dims in
    let own = projected shape.kinds s.entries in
    let ids = own_ids query tree task asked files rows s in
    let ordinary = own_no_star query tree task asked files rows s in
    let nodes = tree_of merged_rows shape k own in
    let ns = picks merged_rows t k nodes in
    served_fine query tree task asked files rows ok ask s
    (c.walk_law.ensures.groups t shape k own ids ordinary) ns
    (same t shape k own ids ordinary)
    (c.walk_law.ensures.count t shape k own ids ordinary)
    (c.picks_law.ensures.parted t shape k own ordinary)
    (c.picks_law.ensures.documents t shape k own ids ordinary)

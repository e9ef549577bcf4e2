use Rattle.std.proofs.Common.{◌<◌, ◌∙◌, length, sym, ap, subst, arith}
use Rattle.segment_file.specs.Parts.{owner_of}
use Rattle.segment_file.specs.Reading.{IsTailPart}
use Rattle.segment_file.specs.Rules.{size_in}
use Rattle.segment_file.proofs.TreeChecks.{few_kinds, field_owner, field_sized, star_sized, valid_at}
use Rattle.segment_file.proofs.sizes.size_in.Goals as goal

pub bounds-trees-tree : goal.bounds-trees-tree
bounds-trees-tree c =
    let table = c.args.table.now in
    let is : c.in-Star.tree < length table.settings.trees = subst (IsTailPart table) c.in-Star.is c.requires.part in
    omega (arith, is, c.requires.trees)

pub bounds-trees-tree-in-Star : goal.bounds-trees-tree-in-Star
bounds-trees-tree-in-Star c =
    let table = c.args.table.now in
    let is : c.in-Star.tree < length table.settings.trees = subst (IsTailPart table) c.in-Star.is c.requires.part in
    omega (arith, is, c.requires.trees)

pub width_of-requires : goal.width_of-requires
width_of-requires c =
    let table = c.args.table.now in
    let tree = c.at.result.now in
    few_kinds table.schema.fields tree (valid_at table.schema.fields table.settings.trees c.in-Star.tree tree c.requires.valid.settings.trees_valid c.at.ensures)

pub returns-in-Star : goal.returns-in-Star
returns-in-Star c = λ heads read.
    let table = c.args.table.now in
    let is : c.in-Star.tree < length table.settings.trees = subst (IsTailPart table) c.in-Star.is c.requires.part in
    star_sized table heads c.in-Star.tree c.args.trees.now c.index-trees-tree.result c.at.result.now c.from.result c.width_of.result is read.said c.index-trees-tree.is c.at.ensures (c.from.ensures ∙ ap (λ y. y.documents) (sym c.index-trees-tree.is)) c.width_of.ensures.value
    ∙ ap (size_in table c.args.rows heads) (sym c.in-Star.is)

pub bounds-dictionaries-owner : goal.bounds-dictionaries-owner
bounds-dictionaries-owner c =
    let table = c.args.table.now in
    let lt : owner_of c.args.part < length table.schema.fields = field_owner table c.args.part c.requires.part c.in_default.not-Star in
    omega (arith, lt, c.owner.ensures, c.requires.dictionaries)

pub returns : goal.returns
returns c = λ heads read.
    field_sized c.args.table.now c.args.rows c.owner.result c.count.result c.size_for.result heads c.args.dictionaries.now c.index-dictionaries-owner.result c.args.part read.spelled c.requires.part c.in_default.not-Star c.owner.ensures c.index-dictionaries-owner.is c.count.ensures.count c.size_for.ensures

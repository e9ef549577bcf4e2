use Rattle.std.proofs.Common.{◌≡◌, ◌≤◌, ◌∙◌, ℕ, List, length, get_or, pos, refl, sym, ap, subst, arith}
use Rattle.std.proofs.lemmas.List.{length-map}
use Rattle.std.specs.List.{All}
use Rattle.values.specs.declared.value.Value.{Value}
use Rattle.values.specs.declared.value.Value.TheVariants.{Whole}
use Rattle.value_ids.specs.Coding.{AreBelow}
use Rattle.value_ids.specs.Dictionary.{Fits}
use Rattle.segment_build.specs.declared.coded.ColumnValues.TheVariants as held
use Rattle.segment_check.specs.Codes.{CodesRows, HaveAll}
use Rattle.segment_check.proofs.IdLemmas.{own_values}
use Rattle.segment_check.proofs.RowLemmas.{values_all}
use Rattle.segment_check.proofs.codes.codes_of.Goals as goal

pub returns-then-branch : goal.returns-then-branch
returns-then-branch c =
    let d = c.args.dictionary.now in
    let ids = c.args.ids in
    let all : HaveAll (length d.values) ids = subst (λ xs. HaveAll (length d.values) xs) c.requires.list (subst (λ n. HaveAll n c.args.list.now) c.count.ensures.count (c.in_ok-have_all.ensures c.if-branch.true)) in
    subst (λ own. CodesRows c.args.kind d ids (record { values = held.Lent c.args.dictionary; ids = own })) (sym c.packed-ids.ensures) (record {
      coding = record { below = c.requires.below; are = own_values d.values ids c.count.ensures.valid.ascends c.requires.below all };
      kind_is = c.requires.kind;
      values = refl;
    })

pub of_column-requires-clause-at_most : goal.of_column-requires-clause-at_most
of_column-requires-clause-at_most c =
    let values : List Value = c.args.dictionary.now.values in
    let ids = c.args.list.now in
    let are = c.in_ok-column.ensures in
    omega (arith, ap length are, length-map ids (λ id. get_or values id (Whole (pos 0))), ap length c.requires.list, c.requires.at_most)

pub of_column-requires-clause-fit : goal.of_column-requires-clause-fit
of_column-requires-clause-fit c =
    let d = c.args.dictionary.now in
    let are = c.in_ok-column.ensures in
    subst (All (Fits c.args.kind)) (sym are)
    (values_all (Fits c.args.kind) d.values c.args.list.now (subst (λ k. All (Fits k) d.values) c.requires.kind c.count.ensures.valid.fit) (subst (AreBelow (length d.values)) (sym c.requires.list) c.requires.below))

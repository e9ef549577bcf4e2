use Rattle.std.proofs.Common.{◌∙◌, ◌<◌, ◌+◌, ℕ, List, length, map, get_or, ap, sym, subst, arith}
use Rattle.std.proofs.lemmas.Grind.{same_number_lists}
use Rattle.std.proofs.lemmas.List.{get_or-map, length-map, take_all}
use Rattle.coded_columns.specs.Coded.{column_of, most_rows}
use Rattle.coded_columns.specs.Keys.{key_at, packed_with}
use Rattle.coded_columns.proofs.KeySteps.{key-next}
use Rattle.coded_columns.proofs.keys.add_columns.Goals as goal

pub loop-at-init : goal.loop-at-init
loop-at-init c = c.requires.first

pub add_column-requires-clause-fits : goal.add_column-requires-clause-fits
add_column-requires-clause-fits c = λ k lt.
    let segment = c.args.placed.segment.now in
    let at : ℕ = get_or c.args.placed.places.now k 0 in
    let group : ℕ = get_or c.args.groups.now c.loop-at.at 0 in
    subst (λ n. n < most_rows) (key-next segment c.args.groups.now c.loop-at.at at c.loop-at-test.true ∙ ap (λ q. packed_with (column_of segment group) q at) (sym (c.loop-at.invariant k lt)))
    (c.requires.few (c.loop-at.at + 1) k lt)

pub loop-at-preserved : goal.loop-at-preserved
loop-at-preserved c = λ k lt.
    let segment = c.args.placed.segment.now in
    let at : ℕ = get_or c.args.placed.places.now k 0 in
    let group : ℕ = get_or c.args.groups.now c.loop-at.at 0 in
    c.add_column.ensures k lt ∙ ap (λ q. packed_with (column_of segment group) q at) (c.loop-at.invariant k lt)
    ∙ sym (key-next segment c.args.groups.now c.loop-at.at at c.loop-at-test.true)

pub returns : goal.returns
returns c =
    let key = key_at c.args.placed.segment.now c.args.groups.now in
    let places : List ℕ = c.args.placed.places.now in
    let keys : List ℕ = c.loop-at.keys in
    same_number_lists keys (map key places) (omega (arith, length-map places key, c.requires.same, c.loop-at.auto.keys))
    (λ k lt.
    let in_places : k < length places = omega (arith, lt, c.requires.same, c.loop-at.auto.keys) in
    c.loop-at.invariant k in_places ∙ ap (λ (l : List ℕ). key_at c.args.placed.segment.now l (get_or places k 0)) (take_all c.loop-at.at c.args.groups.now (omega (arith, c.loop-at-test.false)))
    ∙ sym (get_or-map key places k 0 0 in_places))

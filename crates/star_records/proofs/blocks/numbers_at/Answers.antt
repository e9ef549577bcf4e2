use Rattle.std.proofs.Common.{◌∙◌, ◌++◌, ◌∷◌, ◌<◌, ◌≤◌, [], List, ℤ, length, sym, subst, ap, arith}
use Rattle.std.proofs.lemmas.List.{take_all}
use Rattle.state_columns.proofs.RegionLemmas.{any_default}
use Rattle.star_records.specs.Folding.{picked, AllZero}
use Rattle.star_rows.specs.Numbers.{numbers_of}
use Rattle.star_records.proofs.BlockSteps as steps
use Rattle.star_records.proofs.blocks.numbers_at.Goals as goal

pub number_column-requires-clause-zero : goal.number_column-requires-clause-zero
number_column-requires-clause-zero c marked =
    let columns = c.args.columns.now in
    let i = c.loop-i.i in
    let lt : i < length columns = omega (arith, c.loop-i-test.true, c.len-i-end.ensures) in
    let at = c.at.ensures ∙ any_default columns i (numbers_of c.at.result) [] lt in
    subst AllZero (sym at) (c.requires.zeros.zero i lt marked)

pub loop-i-preserved : goal.loop-i-preserved
loop-i-preserved c = λ d.
    let columns = c.args.columns.now in
    let words = c.args.words.now in
    let i = c.loop-i.i in
    let lt : i < length columns = omega (arith, c.loop-i-test.true, c.len-i-end.ensures) in
    let column = numbers_of c.at.result in
    let at = c.at.ensures ∙ any_default columns i (numbers_of c.at.result) [] lt in
    let more = c.in_ok-push.ensures.items
    ∙ ap (λ (l : List ℤ). c.loop-i.block.items ++ (l ∷ [])) c.from_vec.ensures in
    steps.columns_more d words columns i column c.in_ok-items.items.items c.loop-i.block.items
    c.push.new.self.items lt at (c.in_ok-items.ensures d) (c.loop-i.invariant d) more

pub returns : goal.returns
returns c = λ d.
    let columns = c.args.columns.now in
    let end : length columns ≤ c.loop-i.i =
    omega (arith, c.loop-i-test.false, c.len-i-end.ensures) in
    c.from_vec-2.ensures ∙ c.loop-i.invariant d
    ∙ ap (picked d c.args.words.now) (take_all c.loop-i.i columns end)

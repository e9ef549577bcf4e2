use Rattle.std.proofs.Common.{◌<◌, ◌∙◌, length, map, sym, ap, subst, arith}
use Rattle.std.proofs.lemmas.List.{length-map}
use Rattle.segment_build.specs.Coded.{GainsNumbers, columns_in, decoded, no_values}
use Rattle.segment_build.specs.Numbers.{numbers_in}
use Rattle.segment_build.proofs.Codings.{decoded_at}
use Rattle.segment_build.proofs.NumberLemmas.{gains_set, map_set}
use Rattle.segment_build.proofs.numbers.make_column.Goals as goal

pub returns-in_ok-made : goal.returns-in_ok-made
returns-in_ok-made c =
    let coded = c.args.coded.now in
    let t = columns_in coded in
    let at = c.args.at in
    let made = c.args.made.now.items in
    let lists = map (λ v. v.items) made in
    let column = c.index-then-is_empty.result.now in
    let lt : at < length lists = omega (arith, c.requires.at, c.requires.have.many, length-map coded.columns.items decoded) in
    subst (GainsNumbers t at lists) (sym (map_set (λ v. v.items) made at c.in_ok-made.field-0))
    (gains_set t lists c.requires.have at c.in_ok-made.field-0.items lt (c.in_ok-made.ensures ∙ ap numbers_in (decoded_at coded at column no_values c.requires.at c.index-then-is_empty.ensures)))

use Rattle.std.proofs.Common.{◌≡◌, ◌+◌, ℤ, List, Global, Vec, map, take, length, sym, ap, subst, arith}
use Rattle.std.proofs.lemmas.List.{take_all}
use Rattle.std.specs.List.{All}
use Rattle.table_schema.specs.declared.query.Agg.{Agg}
use Rattle.segment_build.specs.Coded.{AreThere, HaveNumbers, columns_in}
use Rattle.segment_build.specs.Numbers.{IsKnown}
use Rattle.segment_build.proofs.NumberLemmas.{still_there, there_more}
use Rattle.segment_build.proofs.numbers.make_numbers.Goals as goal
use Rattle.segment_build.proofs.numbers.make_numbers.Goals.{in-Some+in_ok-make_column-in-Some, in-None}

pub make_column-requires-clause-at : goal.make_column-requires-clause-at
make_column-requires-clause-at c =
    subst (IsKnown (length c.args.coded.now.columns.items)) c.in-Some.is (c.requires.columns c.pairs.pair-index _ c.pairs-test.true)

pub pairs-preserved : goal.pairs-preserved
pairs-preserved c =
    let t = columns_in c.args.coded.now in
    let pairs = c.args.pairs.now in
    let i = c.pairs.pair-index in
    let items : List (Vec ℤ Global) → List (List ℤ) = λ ls. map (λ v. v.items) ls in
    let Those : List (Vec ℤ Global) → Type 0 = λ ls. All (λ (p : Agg). AreThere t (items ls) p.column) (take (i + 1) pairs) in
    elim c.match-pair.branch [
      | in-Some+in_ok-make_column-in-Some w ↦
          let old = c.pairs.made.items in
          let new = w.make_column.new.made.items in
          let gains = w.in_ok-make_column-in-Some.ensures in
          let same : new ≡ c.match-pair.made.items = sym (ap (λ (m : Vec (Vec ℤ Global) Global). m.items) w.made-is) in
          record {
            have = subst (λ ls. HaveNumbers t (items ls)) same gains.have;
            there = subst Those same (there_more t (items new) pairs i _ c.pairs-test.true
                (still_there t (items old) (items new) (take i pairs) gains.kept c.pairs.invariant.there)
                (subst (AreThere t (items new)) (sym w.in-Some.is) gains.there));
          }
      | in-None w ↦
          let old = c.pairs.made.items in
          let same : old ≡ c.match-pair.made.items = sym (ap (λ (m : Vec (Vec ℤ Global) Global). m.items) w.made-is) in
          record {
            have = subst (λ ls. HaveNumbers t (items ls)) same c.pairs.invariant.have;
            there = subst Those same (there_more t (items old) pairs i _ c.pairs-test.true c.pairs.invariant.there
                (subst (AreThere t (items old)) (sym w.in-None.is) tt));
          }
    ]

pub returns-clause-there : goal.returns-clause-there
returns-clause-there c =
    let t = columns_in c.args.coded.now in
    let lists = map (λ v. v.items) c.pairs.made.items in
    subst (All (λ (p : Agg). AreThere t lists p.column)) (take_all c.pairs.pair-index c.args.pairs.now (omega (arith, c.pairs-test.false))) c.pairs.invariant.there

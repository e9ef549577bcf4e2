use Rattle.std.proofs.Common.{◌≡◌, ◌∙◌, ◌<◌, ℕ, List, length, get_or, ap, arith, subst}
use Rattle.std.proofs.lemmas.List.{get_or_default}
use Rattle.dictionary.specs.Ranking.{Ranks, item_at, values_of}
use Rattle.dictionary.proofs.RankLemmas.{given_all, given_more, given_none, numbered_items, some_value, sorted_items}
use Rattle.dictionary.proofs.ranking.rank_items.Goals as goal

pub items-init : goal.items-init
items-init g c = λ d.
    let values = values_of c.args.items.items in
    let sorted = c.sort_unstable.new.self.items in
    let all = sorted_items d values c.args.items.items sorted c.sort_unstable.ensures.permutation (numbered_items d c.args.items.items c.requires.numbered) in
    let size : length c.in_ok-ranks.ranks.items ≡ length values = omega (arith, all.count, c.in_ok-ranks.ensures, c.len-2.ensures) in
    given_none g.T.Ord.cmp g.met.T.Ord.total c.requires.exact d values sorted c.in_ok-order.order.items c.in_ok-ranks.ranks.items c.in_ok-order.ensures.items size

pub rank_at-requires-clause-short : goal.rank_at-requires-clause-short
rank_at-requires-clause-short g c =
    let here : c.items.i < length c.sort_unstable.new.self.items = omega arith in
    (c.items.invariant (some_value c.sort_unstable.new.self.items c.items.i here)).firsts.few

pub rank_at-requires-clause-some : goal.rank_at-requires-clause-some
rank_at-requires-clause-some g c = λ later.
    let here : c.items.i < length c.sort_unstable.new.self.items = omega arith in
    ((c.items.invariant (some_value c.sort_unstable.new.self.items c.items.i here)).firsts.last later).0

pub index_mut-requires : goal.index_mut-requires
index_mut-requires g c =
    let sorted = c.sort_unstable.new.self.items in
    let here : c.items.i < length sorted = omega arith in
    let d = some_value sorted c.items.i here in
    let all = sorted_items d (values_of c.args.items.items) c.args.items.items sorted c.sort_unstable.ensures.permutation (numbered_items d c.args.items.items c.requires.numbered) in
    let placed = all.placed c.items.i (d, 0) here in
    let same : get_or sorted c.items.i c.index.result.now ≡ get_or sorted c.items.i (d, 0) = get_or_default sorted c.items.i c.index.result.now (d, 0) here in
    let is : c.index.result.now.1 ≡ (item_at d sorted c.items.i).1 = ap (λ x. x.1) (c.index.ensures ∙ same) in
    omega (arith, is, placed.below, (c.items.invariant d).size)

pub items-preserved : goal.items-preserved
items-preserved g c = λ d.
    let values = values_of c.args.items.items in
    let sorted = c.sort_unstable.new.self.items in
    let here : c.items.i < length sorted = omega arith in
    let all = sorted_items d values c.args.items.items sorted c.sort_unstable.ensures.permutation (numbered_items d c.args.items.items c.requires.numbered) in
    let same : get_or sorted c.items.i c.index.result.now ≡ get_or sorted c.items.i (d, 0) = get_or_default sorted c.items.i c.index.result.now (d, 0) here in
    let is : c.index.result.now.1 ≡ (item_at d sorted c.items.i).1 = ap (λ x. x.1) (c.index.ensures ∙ same) in
    let ranks : Ranks g.T.Ord.cmp d sorted c.items.order.items c.rank_at.new.order.items c.items.i c.in_ok-rank.rank =
    subst (λ (xs : List (g.row.T.Denot × ℕ)). Ranks g.T.Ord.cmp d xs c.items.order.items c.rank_at.new.order.items c.items.i c.in_ok-rank.rank) c.deref.ensures.value (c.in_ok-rank.ensures d) in
    given_more g.T.Ord.cmp g.met.T.Ord.total c.requires.exact d values sorted c.items.order.items c.rank_at.new.order.items c.items.ranks.items c.items.i c.in_ok-rank.rank c.index.result.now.1
    all c.sort_unstable.ensures.sorted here is (c.items.invariant d) ranks

pub returns : goal.returns
returns g c = λ d.
    let values = values_of c.args.items.items in
    let sorted = c.sort_unstable.new.self.items in
    let all = sorted_items d values c.args.items.items sorted c.sort_unstable.ensures.permutation (numbered_items d c.args.items.items c.requires.numbered) in
    let end : c.items.i ≡ length sorted = omega arith in
    given_all g.T.Ord.cmp g.met.T.Ord.total c.requires.exact d values sorted c.items.order.items c.items.ranks.items c.items.i all end (c.items.invariant d)

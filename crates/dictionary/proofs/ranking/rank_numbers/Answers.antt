use Rattle.std.proofs.Common.{ℤ, List, pos, subst}
use Rattle.std.proofs.lemmas.Result.{IfOk-weaker}
use Rattle.std.specs.Ordering.{int_cmp}
use Rattle.dictionary.specs.declared.ranking.Ranking.{Ranking}
use Rattle.dictionary.specs.Ranking.{AreRanks, values_of}
use Rattle.dictionary.proofs.KeyLemmas.{same_number}
use Rattle.dictionary.proofs.ranking.rank_numbers.Goals as goal

pub rank_items-requires-clause-exact : goal.rank_items-requires-clause-exact
rank_items-requires-clause-exact c = same_number

pub returns : goal.returns
returns c =
    let items = c.in_ok-placed_numbers.field-0.items in
    let P : Ranking → Type 0 = λ r. (d : ℤ) → AreRanks int_cmp d (values_of items) r.order.items r.ranks.items in
    let Q : Ranking → Type 0 = λ r. AreRanks int_cmp (pos 0) c.args.numbers.now r.order.items r.ranks.items in
    IfOk-weaker c.rank_items.result P Q
    (λ r h. subst (λ (ns : List ℤ). AreRanks int_cmp (pos 0) ns r.order.items r.ranks.items) c.in_ok-placed_numbers.ensures.values (h (pos 0)))
    c.rank_items.ensures

use Rattle.std.proofs.Common.{[], ℕ, List, subst}
use Rattle.std.proofs.lemmas.Result.{IfOk-weaker}
use Rattle.std.specs.Cmp.Lexicographic.{slice_cmp}
use Rattle.std.specs.Ordering.{nat_cmp}
use Rattle.dictionary.specs.declared.ranking.Ranking.{Ranking}
use Rattle.dictionary.specs.Ranking.{AreRanks, values_of}
use Rattle.dictionary.proofs.KeyLemmas.{same_text}
use Rattle.dictionary.proofs.ranking.rank_texts.Goals as goal

pub rank_items-requires-clause-exact : goal.rank_items-requires-clause-exact
rank_items-requires-clause-exact c = same_text

pub returns : goal.returns
returns c =
    let items = c.in_ok-keyed_texts.field-0.items in
    let P : Ranking → Type 0 = λ r. (d : List ℕ) → AreRanks (slice_cmp nat_cmp) d (values_of items) r.order.items r.ranks.items in
    let Q : Ranking → Type 0 = λ r. AreRanks (slice_cmp nat_cmp) [] c.args.texts.now r.order.items r.ranks.items in
    IfOk-weaker c.rank_items.result P Q
    (λ r h. subst (λ (ts : List (List ℕ)). AreRanks (slice_cmp nat_cmp) [] ts r.order.items r.ranks.items) c.in_ok-keyed_texts.ensures.values (h []))
    c.rank_items.ensures

use Rattle.std.proofs.Common.{◌≡◌, ℕ, List, map, All, subst, sym, ap, ◌∙◌}
use Rattle.std.specs.Option.{IfSome}
use Rattle.std.specs.Ordering.{is_lt}
use Rattle.std.specs.List.Sorted.{IsPermutation, IsSortedBy}
use Rattle.std.proofs.lemmas.List.Sorted.{IsPermutation-map, All-permutation}
use Rattle.std.proofs.lemmas.Result.{IfOk-weaker}
use Rattle.agg_laws.specs.Tree.{dims_order, set_star}
use Rattle.state_columns.specs.Docs.{doc_at}
use Rattle.state_columns.specs.Region.{numbers}
use Rattle.state_columns.specs.Packing.{place, IsWord}
use Rattle.state_columns.proofs.PackSteps as steps
use Rattle.star_table.proofs.star_table.StarTable.starred_order.Goals as goal

pub returns-in_ok-sort-in-Some : goal.returns-in_ok-sort-in-Some
returns-in_ok-sort-in-Some c =
    let start = c.args.start in
    let docs = c.args.self.now.docs in
    let spans = c.args.spans.now in
    let words = c.in-Some.words.items in
    let sorted = c.sort.new.self.items in
    let found : (map (place start) words ≡ numbers start c.args.end)
    × All (IsWord spans c.args.level start docs) words =
    subst (λ o. IfSome o (λ w. (map (place start) w.items ≡ numbers start c.args.end)
    × All (IsWord spans c.args.level start docs) w.items)) c.in-Some.is c.in_ok-words.ensures in
    let perm = c.in_ok-sort-in-Some.ensures.permutation in
    IfOk-weaker c.places.result _ _ (λ order is.
    let same : order.items ≡ map (place start) sorted =
    is ∙ ap (map (place start)) c.as_slice.ensures.value in (
      subst (IsPermutation (numbers start c.args.end)) (sym same)
          (subst (λ (l : List ℕ). IsPermutation l (map (place start) sorted)) found.0
          (IsPermutation-map (place start) words sorted perm)),
      subst (IsSortedBy (λ a b. is_lt (dims_order (set_star c.args.level (doc_at docs a).0)
          (set_star c.args.level (doc_at docs b).0)))) (sym same)
          (steps.words_order spans c.args.level start docs sorted
          (All-permutation (IsWord spans c.args.level start docs) words sorted perm found.1)
          c.in_ok-sort-in-Some.ensures.sorted),
    )) c.places.ensures

use Rattle.std.proofs.Common.{◌≡◌, ℕ, zero, suc, ◌+◌, ◌-◌, List, [], ◌∷◌, ◌++◌, sym, ap, subst, ◌∙◌}
use Rattle.std.proofs.Common.{arith, rules}
use Rattle.std.specs.Ordering.{is_lt}
use Rattle.std.specs.List.Sorted.{IsPermutation}
use Rattle.std.proofs.lemmas.Cmp.{nat_list_cmp_total}
use Rattle.std.proofs.lemmas.List.Sorted.{ranks_by}
use Rattle.std.proofs.lemmas.Fn.{always_returns_same}
use Rattle.agg_laws.specs.Tree.{dims_order, set_star}
use Rattle.state_columns.specs.Docs.{doc_at}
use Rattle.state_columns.specs.Region.{numbers_from, numbers}
use Rattle.star_table.proofs.star_table.StarTable.compared_order.Goals as goal

more_numbers : (from n : ℕ) → numbers_from from (suc n) ≡ numbers_from from n ++ ((from + n) ∷ [])
more_numbers from zero = let e : from ≡ from + 0 = omega arith in ap (λ m. m ∷ []) e
more_numbers from (suc n) = let e : suc from + n ≡ from + suc n = omega arith
    in ap (λ l. from ∷ l)
    (more_numbers (suc from) n ∙ ap (λ m. numbers_from (suc from) n ++ (m ∷ [])) e)

pub loop-at-preserved : goal.loop-at-preserved
loop-at-preserved c =
    let start = c.args.start in
    let n = c.loop-at.at - start in
    let m : suc n ≡ c.loop-at.at + 1 - start = omega (arith, c.loop-at.auto.at) in
    let at : start + n ≡ c.loop-at.at = omega (arith, c.loop-at.auto.at) in
    c.in_ok-push.ensures.items ∙ ap (λ l. l ++ (c.loop-at.at ∷ [])) c.loop-at.invariant
    ∙ ap (λ m. numbers start c.loop-at.at ++ (m ∷ [])) (sym at)
    ∙ sym (more_numbers start n) ∙ ap (numbers_from start) m

pub returns : goal.returns
returns c =
    let start = c.args.start in
    let end : c.loop-at.at
    ≡ c.args.end = omega
    (arith, c.loop-at.auto.at, c.loop-at.auto.at-end, c.loop-at-test.false, c.requires) in (
      subst (λ (l : List ℕ). IsPermutation l c.sort_by.new.self.items)
          (c.loop-at.invariant ∙ ap (numbers start) end) c.sort_by.ensures.permutation,
      c.in_ok-sort_by.ensures.sorted
          (λ a b. is_lt (dims_order (set_star c.args.level (doc_at c.args.self.now.docs a).0)
          (set_star c.args.level (doc_at c.args.self.now.docs b).0)))
          (ranks_by nat_list_cmp_total
          (λ (x : ℕ). set_star c.args.level (doc_at c.args.self.now.docs x).0))
          (always_returns_same _ _ _ (λ a r f h. (search rules, search rules))),
    )

use Rattle.std.proofs.Common.{◌≡◌, suc, ◌+◌, ◌-◌, ◌<◌, ◌++◌, ◌∷◌, [], length, sym, ap, subst, ◌∙◌}
use Rattle.std.proofs.Common.{arith}
use Rattle.agg_laws.specs.Numbers.{most_stored}
use Rattle.agg_laws.specs.Rows.{merged_rows, row_weight}
use Rattle.state_columns.specs.Docs.{Docs, Doc, doc_at, HaveShape}
use Rattle.state_columns.specs.Documents.{aggregated, AreAlike}
use Rattle.state_columns.specs.Region.{range}
use Rattle.state_columns.proofs.RegionSteps.{last_same, shape_front}
use Rattle.star_table.proofs.TotalSteps.{star_levels, states_from, total_docs, light_more}
use Rattle.star_table.proofs.TotalSteps.{doc_before}
use Rattle.star_table.proofs.star_table.StarTable.append_total.Goals as goal

pub loop-from-init : goal.loop-from-init
loop-from-init c =
    let t = c.args.self.now in
    let d = c.args.level in
    let own = doc_at t.docs c.args.start in
    let n : c.loop-at.at - d ≡ t.dims - d = let same = ap (λ v. v.dims) c.repeat.ensures
    in let here = ap (λ v. v.dims) c.self.view_is
    in let end = c.loop-at.auto.at-end (omega (arith, c.requires.level, same, here))
    in omega (arith, end, c.loop-at-test.false, same, here) in
    let z : 0 ≡ c.args.start + 1 - (c.args.start + 1) = omega arith in
    c.loop-at.invariant
    ∙ (λ i. record t {
      docs = t.docs
          ++ ((star_levels d (n i) own.0, states_from c.args.start (z i) t.docs) ∷ []);
      spare =
          t.spare - 1;
    })

pub merge_last-requires-clause-weight_fits : goal.merge_last-requires-clause-weight_fits
merge_last-requires-clause-weight_fits c front e is =
    let t = c.args.self.now in
    let start = c.args.start in
    let n = c.loop-from.from - (start + 1) in
    let x : Doc = (
      star_levels c.args.level (t.dims - c.args.level)
          (doc_at t.docs start).0,
      states_from start n t.docs,
    ) in
    let docs : c.loop-from.self.docs ≡ t.docs
    ++ (x ∷ []) = ap (λ v. v.docs) c.loop-from.invariant in
    let at : start + suc n ≡ c.loop-from.from = omega (arith, c.loop-from.auto.from) in
    let in' : c.loop-from.from < length t.docs =
    omega (arith, c.loop-from-test.true, c.requires.range.within) in
    let own : x ≡ e = last_same t.docs front x e (sym docs ∙ is) in
    let doc : doc_at t.docs (start + suc n) ≡ doc_at c.loop-from.self.docs c.loop-from.from =
    ap (doc_at t.docs) at
    ∙ sym (ap (λ l. doc_at l c.loop-from.from) docs
    ∙ doc_before t.docs (x ∷ []) c.loop-from.from in') in
    let weight_fits = light_more start n c.args.end most_stored t.docs
    (omega (arith, at, c.loop-from-test.true)) c.requires.range.within c.requires.range.weight_fits in
    let a : row_weight (states_from start n t.docs)
    ≡ row_weight e.1 = ap (λ (v : Doc). row_weight v.1) own in
    let b : row_weight (doc_at t.docs (start + suc n)).1
    ≡ row_weight (doc_at c.loop-from.self.docs c.loop-from.from).1 =
    ap (λ (v : Doc). row_weight v.1) doc in
    omega (arith, weight_fits, a, b)

pub loop-from-preserved : goal.loop-from-preserved
loop-from-preserved c =
    let t = c.args.self.now in
    let start = c.args.start in
    let n = c.loop-from.from - (start + 1) in
    let x : Doc = (
      star_levels c.args.level (t.dims - c.args.level)
          (doc_at t.docs start).0,
      states_from start n t.docs,
    ) in
    let docs : c.loop-from.self.docs ≡ t.docs
    ++ (x ∷ []) = ap (λ v. v.docs) c.loop-from.invariant in
    let at : start + suc n ≡ c.loop-from.from = omega (arith, c.loop-from.auto.from) in
    let in' : c.loop-from.from < length t.docs =
    omega (arith, c.loop-from-test.true, c.requires.range.within) in
    let doc : doc_at c.loop-from.self.docs c.loop-from.from ≡ doc_at t.docs (start + suc n) =
    ap (λ l. doc_at l c.loop-from.from) docs ∙ doc_before t.docs (x ∷ []) c.loop-from.from in'
    ∙ ap (doc_at t.docs) (sym at) in
    let m : suc n ≡ c.loop-from.from + 1 - (start + 1) = omega (arith, at) in
    c.merge_last.ensures t.docs x docs
    ∙ (λ i. record {
      dims = (c.loop-from.invariant i).dims;
      kinds = (c.loop-from.invariant i).kinds;
      docs = t.docs ++ ((x.0, merged_rows x.1 (doc i).1) ∷ []);
      spare = (c.loop-from.invariant i).spare;
    })
    ∙ (λ i. record t {
      docs = t.docs
          ++ ((x.0, states_from start (m i) t.docs) ∷ []);
      spare = t.spare - 1;
    })

pub returns : goal.returns
returns c =
    let t = c.args.self.now in
    let s = c.self.inside in
    let start = c.args.start in
    let n = c.loop-from.from - (start + 1) in
    let end : start + suc n
    ≡ c.args.end = omega (
      arith,
      c.loop-from.auto.from,
      c.loop-from.auto.from-end,
      c.loop-from-test.false,
      c.requires.range.order,
    ) in
    let shape : HaveShape t.dims t.kinds t.docs =
    shape_front t.dims t.kinds t.docs (doc_at t.docs start ∷ [])
    (subst (λ (v : Docs). HaveShape v.dims v.kinds v.docs)
    (c.self.view_is ∙ c.repeat.ensures) c.self.invariant.shape) in
    let alike : AreAlike c.args.level (range start (start + suc n) t.docs) =
    subst (λ m. AreAlike c.args.level (range start m t.docs)) (sym end) c.requires.alike in
    let total = total_docs t.dims c.args.level start n t.kinds t.docs shape
    (omega (arith, end, c.requires.range.within)) alike in
    c.loop-from.invariant
    ∙ (λ i. record t {
      docs = t.docs
          ++ (sym total ∙ ap (λ m. aggregated merged_rows c.args.level
          (range start m t.docs)) end) i;
      spare = t.spare - 1;
    })

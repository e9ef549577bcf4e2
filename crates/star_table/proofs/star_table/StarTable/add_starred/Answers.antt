use Rattle.std.proofs.Common.{◌≡◌, ◌≢◌, ◌-◌, ◌<◌, ◌++◌, ◌∷◌, [], true, false, length, take, sym, ap}
use Rattle.std.proofs.Common.{◌∙◌, arith, length-append, Equal}
use Rattle.std.specs.declared.cmp.Ordering.{Ordering}
use Rattle.std.specs.declared.cmp.Ordering.TheVariants as orders
use Rattle.std.specs.Ordering.{is_eq}
use Rattle.agg_laws.specs.Rows.{merged_rows, row_weight}
use Rattle.agg_laws.specs.Tree.{dims_order, set_star}
use Rattle.state_columns.specs.Docs.{Doc, doc_at}
use Rattle.state_columns.proofs.RegionLemmas.{length-docs_in}
use Rattle.state_columns.proofs.RegionSteps.{last_same}
use Rattle.star_table.proofs.AddSteps.{parts, last_whole, last_light, merged_in, put_on}
use Rattle.star_table.proofs.star_table.StarTable.add_starred.Goals as goal
use Rattle.star_table.proofs.star_table.StarTable.add_starred.Goals.{then-self-before+else-is_eq}
use Rattle.star_table.proofs.star_table.StarTable.add_starred.Goals.{else-self-before}

equal : (o : Ordering) → is_eq o ≡ true → o ≡ Equal
equal orders.Less p = cc
equal orders.Equal p = refl'
  where
    refl' : orders.Equal ≡ Equal
    refl' = λ i. orders.Equal
equal orders.Greater p = cc

not_equal : (o : Ordering) → is_eq o ≡ false → o ≢ Equal
not_equal orders.Less p q = cc
not_equal orders.Equal p q = cc
not_equal orders.Greater p q = cc

pub merge_last-requires-clause-from : goal.merge_last-requires-clause-from
merge_last-requires-clause-from c =
    let t = c.self.inside in
    omega (
      arith,
      c.if-self-before.true,
      c.requires.from,
      ap
          (λ v. length v.docs) c.self.view_is,
      length-docs_in t.count t.dims
          t.ids.items t.columns.items,
    )

pub merge_last-requires-clause-weight_fits : goal.merge_last-requires-clause-weight_fits
merge_last-requires-clause-weight_fits c front e is =
    let docs = c.args.self.now.docs in
    let t = c.self.inside in
    let lt : c.args.before < length docs =
    omega (
      arith,
      c.if-self-before.true,
      ap
          (λ v. length v.docs) c.self.view_is,
      length-docs_in t.count t.dims
          t.ids.items t.columns.items,
    ) in
    let l = doc_at docs (length docs - 1) in
    let own : l ≡ e = last_same
    (take c.args.before docs ++ (parts c.args.before docs c.requires.before lt).0) front l e
    (sym (last_whole c.args.before docs c.requires.before lt) ∙ is) in
    let w = last_light c.args.before docs c.requires.before lt in
    let same : row_weight l.1 ≡ row_weight e.1 = ap (λ (x : Doc). row_weight x.1) own in
    omega (arith, w, same, c.requires.weight_fits)

pub returns-then-is_eq-clause-docs : goal.returns-then-is_eq-clause-docs
returns-then-is_eq-clause-docs c =
    let docs = c.args.self.now.docs in
    let t = c.self.inside in
    let n : t.count ≡ length docs =
    sym (length-docs_in t.count t.dims t.ids.items t.columns.items)
    ∙ ap (λ v. length v.docs) c.self.view_is in
    let lt : c.args.before < length docs = omega (arith, c.if-self-before.true, n) in
    let tie : dims_order (doc_at docs (length docs - 1)).0
    (set_star c.args.level (doc_at docs c.args.from).0) ≡ Equal =
    (λ i. dims_order (doc_at docs (sym n i - 1)).0
    (set_star c.args.level (doc_at docs c.args.from).0))
    ∙ (λ i. dims_order (sym c.ids_of-last.ensures i)
    (set_star c.args.level (sym c.ids_of.ensures i)))
    ∙ sym c.compare_to.ensures
    ∙ equal c.compare_to.result (sym c.is_eq.ensures ∙ c.if-is_eq.true) in
    ap (λ v. v.docs) (c.merge_last.ensures
    (take c.args.before docs ++ (parts c.args.before docs c.requires.before lt).0)
    (doc_at docs (length docs - 1)) (last_whole c.args.before docs c.requires.before lt))
    ∙ merged_in c.args.before docs c.requires.before
    (set_star c.args.level (doc_at docs c.args.from).0)
    (doc_at docs c.args.from).1 c.requires.ascending lt tie

pub returns-then-is_eq-clause-room : goal.returns-then-is_eq-clause-room
returns-then-is_eq-clause-room c =
    let docs = c.args.self.now.docs in
    let t = c.self.inside in
    let n : t.count ≡ length docs =
    sym (length-docs_in t.count t.dims t.ids.items t.columns.items)
    ∙ ap (λ v. length v.docs) c.self.view_is in
    let lt : c.args.before < length docs = omega (arith, c.if-self-before.true, n) in
    let f = take c.args.before docs ++ (parts c.args.before docs c.requires.before lt).0 in
    let l = doc_at docs (length docs - 1) in
    let e = c.merge_last.ensures f l (last_whole c.args.before docs c.requires.before lt) in
    let x : Doc = (l.0, merged_rows l.1 (doc_at docs c.args.from).1) in
    let a = ap (λ v. length v.docs) e ∙ length-append f (x ∷ []) in
    let b = ap length (last_whole c.args.before docs c.requires.before lt)
    ∙ length-append f (l ∷ []) in
    let s = ap (λ v. v.spare) e in
    omega (arith, a, b, s)

pub returns-then-is_eq-clause-dims : goal.returns-then-is_eq-clause-dims
returns-then-is_eq-clause-dims c =
    let docs = c.args.self.now.docs in
    let t = c.self.inside in
    let n : t.count ≡ length docs =
    sym (length-docs_in t.count t.dims t.ids.items t.columns.items)
    ∙ ap (λ v. length v.docs) c.self.view_is in
    let lt : c.args.before < length docs = omega (arith, c.if-self-before.true, n) in
    ap (λ v. v.dims) (c.merge_last.ensures
    (take c.args.before docs ++ (parts c.args.before docs c.requires.before lt).0)
    (doc_at docs (length docs - 1)) (last_whole c.args.before docs c.requires.before lt))

pub returns-then-is_eq-clause-kinds : goal.returns-then-is_eq-clause-kinds
returns-then-is_eq-clause-kinds c =
    let docs = c.args.self.now.docs in
    let t = c.self.inside in
    let n : t.count ≡ length docs =
    sym (length-docs_in t.count t.dims t.ids.items t.columns.items)
    ∙ ap (λ v. length v.docs) c.self.view_is in
    let lt : c.args.before < length docs = omega (arith, c.if-self-before.true, n) in
    ap (λ v. v.kinds) (c.merge_last.ensures
    (take c.args.before docs ++ (parts c.args.before docs c.requires.before lt).0)
    (doc_at docs (length docs - 1)) (last_whole c.args.before docs c.requires.before lt))

pub returns-clause-docs : goal.returns-clause-docs
returns-clause-docs c =
    let docs = c.args.self.now.docs in
    let t = c.self.inside in
    let n : t.count ≡ length docs =
    sym (length-docs_in t.count t.dims t.ids.items t.columns.items)
    ∙ ap (λ v. length v.docs) c.self.view_is in
    let own = doc_at docs c.args.from in
    ap (λ v. v.docs) (c.star_last.ensures docs own (ap (λ v. v.docs) c.repeat.ensures))
    ∙ put_on c.args.before docs c.requires.before
    (set_star c.args.level own.0) own.1 c.requires.ascending c.requires.none_above (λ lt.
    elim c.if-self-before.branch [
      | then-self-before+else-is_eq w ↦ λ tie. not_equal w.compare_to.result
          (sym w.is_eq.ensures ∙ w.if-is_eq.false)
          (w.compare_to.ensures
          ∙ (λ i. dims_order (w.ids_of-last.ensures i)
          (set_star c.args.level (w.ids_of.ensures i)))
          ∙ (λ i. dims_order (doc_at docs (n i - 1)).0 (set_star c.args.level own.0)) ∙ tie)
      | else-self-before w ↦ λ tie. absurd (omega (arith, lt, n, w.if-self-before.false))
    ])

use Rattle.std.proofs.Common.{◌≡◌, ℕ, zero, suc, ◌+◌, ◌*◌, ◌-◌, ◌≤◌, List, [], ◌∷◌, length, take}
use Rattle.std.proofs.Common.{drop, refl, sym, ap, ◌∙◌, arith}
use Rattle.state_columns.specs.Docs.{Doc, doc_at}
use Rattle.state_columns.proofs.RegionLemmas.{length-docs_in, doc_is}
use Rattle.star_table.proofs.star_table.StarTable.ids_of.Goals as goal

no_doc : (docs : List Doc) (i : ℕ) → length docs ≤ i → doc_at docs i ≡ ([], [])
no_doc [] i h = refl
no_doc (e ∷ es) zero h = absurd (omega arith)
no_doc (e ∷ es) (suc i) h = no_doc es i (omega arith)

pub returns-then-at-self : goal.returns-then-at-self
returns-then-at-self c =
    let t = c.self.inside in
    ap (λ e. e.0) (sym (no_doc c.args.self.now.docs c.args.at
    (omega (
      arith,
      c.if-at-self.true,
      ap
          (λ v. length v.docs) c.self.view_is,
      length-docs_in t.count t.dims
          t.ids.items t.columns.items,
    ))))

pub returns : goal.returns
returns c =
    let t = c.self.inside in
    let n : c.args.at * t.dims + t.dims - c.args.at * t.dims ≡ t.dims = omega arith in
    (λ i. take (n i) (drop (c.args.at * t.dims) (c.deref.ensures.value i)))
    ∙ ap (λ e. e.0) (sym
    (doc_is t.count t.dims t.ids.items t.columns.items c.args.at
    (omega (arith, c.if-at-self.false))))
    ∙ ap (λ v. (doc_at v.docs c.args.at).0) c.self.view_is

use Rattle.std.proofs.Common.{◌≡◌, ◌+◌, ◌-◌, ◌<◌, ◌∷◌, length, arith, drop, refl, sym, ap, ◌∙◌, subst}
use Rattle.std.proofs.lemmas.List.{drop_more}
use Rattle.query_bind.specs.LookUps.{KnowsLabels}
use Rattle.query_bind.proofs.LookUpLemmas.{one_label}
use Rattle.query_bind.proofs.lookups.labels_of.Goals as goal

pub loop-left-preserved-in_ok-insert : goal.loop-left-preserved-in_ok-insert
loop-left-preserved-in_ok-insert c =
    let items = c.args.items.now in
    let left = c.loop-left.left in
    let item = c.index-items-left.result in
    let within : left - 1 < length items = omega arith in
    let next : left - 1 + 1 ≡ left = omega arith in
    let more : drop (left - 1) items ≡ item ∷ drop left items =
    drop_more items (left - 1) item within ∙ ap (λ y. y ∷ drop (left - 1 + 1) items) (sym c.index-items-left.is) ∙ ap (λ n. item ∷ drop n items) next in (
      omega arith,
      subst (λ is. KnowsLabels is c.insert.new.self) (sym more)
          (one_label (drop left items) item c.in-Some.label c.loop-left.terms c.insert.new.self c.as_str.result _ c.in-Some.is c.as_str.ensures refl c.in_ok-insert.ensures.updates c.loop-left.invariant.1),
    )

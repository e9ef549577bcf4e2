use Rattle.std.proofs.Common.{◌≡◌, ◌∙◌, ◌+◌, suc, nat_eq, None, take, sym, ap, subst, arith}
use Rattle.std.specs.Cmp.Lexicographic.{pointwise, texts_ties}
use Rattle.cursors.specs.Kept.{place_under, same_name}
use Rattle.cursors.specs.declared.cursor.Cursor.{Cursor}
use Rattle.cursors.proofs.FoundLemmas.{found_at, none_next}
use Rattle.cursors.proofs.places.place_of.Goals as goal

pub returns-then-eq : goal.returns-then-eq
returns-then-eq c =
    let name = c.args.name.now in
    let own = c.index-cursors-at.result in
    let same : c.eq.result ≡ same_name name own.name = c.eq.ensures ∙ ap (pointwise nat_eq name) (c.as_str.ensures ∙ ap (λ (d : Cursor). d.name) (sym c.index-cursors-at.is)) ∙ texts_ties name own.name in
    sym (found_at name c.args.cursors.now c.cursors.at own own c.cursors-test.true (sym c.index-cursors-at.is) c.cursors.invariant (sym same ∙ c.if-eq.true))

pub cursors-preserved : goal.cursors-preserved
cursors-preserved c =
    let name = c.args.name.now in
    let own = c.index-cursors-at.result in
    let same : c.eq.result ≡ same_name name own.name = c.eq.ensures ∙ ap (pointwise nat_eq name) (c.as_str.ensures ∙ ap (λ (d : Cursor). d.name) (sym c.index-cursors-at.is)) ∙ texts_ties name own.name in
    let one : suc c.cursors.at ≡ c.cursors.at + 1 = omega arith in
    subst (λ n. place_under name (take n c.args.cursors.now) ≡ None) one
    (none_next name c.args.cursors.now c.cursors.at own own c.cursors-test.true (sym c.index-cursors-at.is) c.cursors.invariant (sym same ∙ c.if-eq.false))

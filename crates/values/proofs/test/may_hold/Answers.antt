use Rattle.std.proofs.Common.{◌≡◌, Bool, true, false, refl, sym, ◌∙◌}
use Rattle.std.specs.Bool.{OnFalse}
use Rattle.values.proofs.Bounds.{may_hold-sound}
use Rattle.values.proofs.test.may_hold.Goals as goal

on_false : (b : Bool) (P : Type 0) → (b ≡ false → P) → OnFalse b P
on_false true P h = tt
on_false false P h = h refl

pub returns-clause-excludes : goal.returns-clause-excludes
returns-clause-excludes c =
    on_false _ _ (λ none. may_hold-sound c.args.least.now c.args.greatest.now c.args.test.now (sym c.may_hold_inside.ensures ∙ none))

use Rattle.std.proofs.Common.{◌≡◌, ◌∙◌, ℕ, Bool, true, false, refl, sym}
use Rattle.std.proofs.lemmas.Bool.{eq-eqb, eqb-true, false≢true}
use Rattle.std.specs.Bool.{MatchBool}
use Rattle.std.specs.Prelude.{◌↔◌}
use mathlib.Core.Bool.{beq}
use lib.Dec.{eqb}
use Rattle.segment_file.proofs.trees.fits_rows.Goals as goal

-- what two tests against nothing have in common
same_none : (m n : ℕ) (a b : Bool) → eqb m 0 ≡ a → eqb n 0 ≡ b → MatchBool (beq a b) ((m ≡ 0) ↔ (n ≡ 0)) (¬ ((m ≡ 0) ↔ (n ≡ 0)))
same_none m n true true e f = (λ p. eqb-true n 0 f, λ p. eqb-true m 0 e)
same_none m n true false e f = λ both. false≢true (sym f ∙ eq-eqb n 0 (both.0 (eqb-true m 0 e)))
same_none m n false true e f = λ both. false≢true (sym e ∙ eq-eqb m 0 (both.1 (eqb-true n 0 f)))
same_none m n false false e f = (λ p. absurd (false≢true (sym e ∙ eq-eqb m 0 p)), λ p. absurd (false≢true (sym f ∙ eq-eqb n 0 p)))

pub returns : goal.returns
returns c = same_none c.args.documents c.args.rows (eqb c.args.documents 0) (eqb c.args.rows 0) refl refl

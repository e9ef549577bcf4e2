-- The numbers of values that are all numbers, or all texts.
use Rattle.std.proofs.Common.{◌≡◌, ◌∙◌, [], ◌∷◌, ℕ, zero, suc, ℤ, pos, List, map, get_or, refl, ap, arith}
use Rattle.std.proofs.lemmas.Int.{ints}
use Rattle.agg_laws.specs.Numbers.{IsWhole}
use Rattle.values.specs.declared.value.Value.{Value}
use Rattle.values.specs.declared.value.Value.TheVariants.{Whole, Text}
use Rattle.value_ids.specs.Lists.{AreTexts}
use Rattle.group_table.specs.Groups.{number_of}

mapped-whole : (numbers : List ℤ) (id : ℕ) → get_or (map Whole numbers) id (Whole (pos 0)) ≡ Whole (get_or numbers id (pos 0))
mapped-whole [] id = refl
mapped-whole (n ∷ ns) zero = refl
mapped-whole (n ∷ ns) (suc id) = mapped-whole ns id

pub whole-of : (values : List Value) (numbers : List ℤ) (id : ℕ) → values ≡ map Whole numbers → get_or values id (Whole (pos 0)) ≡ Whole (get_or numbers id (pos 0))
whole-of values numbers id is = ap (λ (vs : List Value). get_or vs id (Whole (pos 0))) is ∙ mapped-whole numbers id

mapped-zero : (texts : List (List ℕ)) (id : ℕ) → number_of (get_or (map Text texts) id (Whole (pos 0))) ≡ pos 0
mapped-zero [] id = refl
mapped-zero (t ∷ ts) zero = refl
mapped-zero (t ∷ ts) (suc id) = mapped-zero ts id

-- a text counts as 0
pub text-zero : (values : List Value) (id : ℕ) → AreTexts values → number_of (get_or values id (Whole (pos 0))) ≡ pos 0
text-zero values id texts = ap (λ (vs : List Value). number_of (get_or vs id (Whole (pos 0)))) texts.1 ∙ mapped-zero texts.0 id

pub zero-whole : (x : ℤ) → x ≡ pos 0 → IsWhole x
zero-whole x is = (omega (arith, ints, is), omega (arith, ints, is))

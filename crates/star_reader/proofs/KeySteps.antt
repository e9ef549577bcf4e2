-- A row that is compared with the key of a document, value by value.
use Rattle.std.proofs.Common.{◌≡◌, ◌∙◌, ℕ, ℤ, zero, suc, pos, ◌<◌, Bool, true, false, List, [], ◌∷◌, length, map, get_or, refl, sym, ap, subst, arith}
use Rattle.std.proofs.lemmas.Bool.{false≢true}
use Rattle.values.specs.declared.value.Value.{Value}
use Rattle.values.specs.declared.value.Value.TheVariants.{Whole, Text}
use Rattle.star_reader.specs.declared.asked.GroupColumn.{GroupColumn}
use Rattle.star_reader.specs.Asked.{value_of}
use Rattle.star_reader.specs.Selected.{AreKeyIds, key_values}

-- the value of a key in a group column
pub value_there : (columns : List GroupColumn) (ids : List ℕ) (i : ℕ) (c : GroupColumn) (d : ℕ) (v : Value)
    → AreKeyIds columns ids → i < length columns
    → get_or (key_values columns ids) i v ≡ value_of (get_or columns i c) (get_or ids i d)
value_there [] ids i c d v h lt = absurd (omega (arith, lt))
value_there (x ∷ cs) [] i c d v h lt = absurd h
value_there (x ∷ cs) (id ∷ ids) zero c d v h lt = refl
value_there (x ∷ cs) (id ∷ ids) (suc i) c d v h lt = value_there cs ids i c d v h.1 (omega (arith, lt))

-- where values are all texts, that of an id is one, and no number
pub is_text : (values : List Value) (i : ℕ) → (texts : List (List ℕ)) × (values ≡ map Text texts) → i < length values
    → (t : List ℕ) × (get_or values i (Whole (pos 0)) ≡ Text t)
is_text values i (texts, is) lt =
    let found = by texts i (subst (λ (l : List Value). i < length l) is lt) in
    (found.0, ap (λ l. get_or l i (Whole (pos 0))) is ∙ found.1)
  where
    by : (ts : List (List ℕ)) (i : ℕ) → i < length (map Text ts)
        → (t : List ℕ) × (get_or (map Text ts) i (Whole (pos 0)) ≡ Text t)
    by [] i lt = absurd (omega (arith, lt))
    by (t ∷ ts) zero lt = (t, refl)
    by (t ∷ ts) (suc i) lt = by ts i (omega (arith, lt))

-- and where they are all numbers, that of an id is one, and no text
pub is_number : (values : List Value) (i : ℕ) → (numbers : List ℤ) × (values ≡ map Whole numbers) → i < length values
    → (n : ℤ) × (get_or values i (Whole (pos 0)) ≡ Whole n)
is_number values i (numbers, is) lt =
    let found = by numbers i (subst (λ (l : List Value). i < length l) is lt) in
    (found.0, ap (λ l. get_or l i (Whole (pos 0))) is ∙ found.1)
  where
    by : (ns : List ℤ) (i : ℕ) → i < length (map Whole ns)
        → (n : ℤ) × (get_or (map Whole ns) i (Whole (pos 0)) ≡ Whole n)
    by [] i lt = absurd (omega (arith, lt))
    by (n ∷ ns) zero lt = (n, refl)
    by (n ∷ ns) (suc i) lt = by ns i (omega (arith, lt))

-- a number is no text
pub apart : (value other : Value) (n : ℤ) (t : List ℕ) → value ≡ Whole n → other ≡ Text t
    → (false ≡ true → value ≡ other) × (value ≡ other → false ≡ true)
apart value other n t a b = (
  λ e. absurd (false≢true e),
  λ is. let bad : Whole n ≡ Text t = sym a ∙ is ∙ b in absurd cc,
)

pub apart_from : (value other : Value) (n : ℤ) (t : List ℕ) → value ≡ Text t → other ≡ Whole n
    → (false ≡ true → value ≡ other) × (value ≡ other → false ≡ true)
apart_from value other n t a b = (
  λ e. absurd (false≢true e),
  λ is. let bad : Text t ≡ Whole n = sym a ∙ is ∙ b in absurd cc,
)

-- texts are the same where their bytes are
pub same_texts : (value other : Value) (s t : List ℕ) (r : Bool) → value ≡ Text s → other ≡ Text t
    → (r ≡ true → t ≡ s) × (t ≡ s → r ≡ true) → (r ≡ true → value ≡ other) × (value ≡ other → r ≡ true)
same_texts value other s t r a b d = (
  λ e. a ∙ ap Text (sym (d.0 e)) ∙ sym b,
  λ is. let texts : Text t ≡ Text s = sym b ∙ sym is ∙ a in (let same : t ≡ s = cc in d.1 same),
)

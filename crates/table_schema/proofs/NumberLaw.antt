-- The numbers of fields that names stand for.
use Rattle.std.proofs.Common.{◌≡◌, ℕ, zero, suc, ◌+◌, ◌<◌, Bool, true, false, not, ◌&&◌, ◌||◌, List, [], ◌∷◌, ◌++◌, length, map, Option, Some, None, if◌then◌else◌, refl, sym, ap, ◌∙◌, subst, arith, rules, tests}
use Rattle.std.specs.List.{list_any, slice_get}
use Rattle.std.specs.Str.{bytes_eq}
use Rattle.std.proofs.lemmas.Bool.{false≢true}
use Rattle.std.proofs.lemmas.Option.{none-some, same_Some}
use Rattle.std.proofs.lemmas.Slice.Eq.{bytes_eq-Decides}
use Rattle.std.proofs.lemmas.List.Folds.{list_any-append}
use Rattle.table_schema.specs.declared.field.Field.{Field}
use Rattle.table_schema.specs.Names.{Text}
use Rattle.table_schema.specs.Columns.{number_from, number_of}
use Rattle.table_schema.specs.Names.{is_among}
use Rattle.table_schema.specs.Valid.{no_repeat}
use Rattle.table_schema.specs.ValidSettings.{is_number_of, is_known_number}

-- ---- they are in range

below_by : (i : ℕ) (f : Field) (fs : List Field) (name : Text) (n : ℕ) (b : Bool)
    → (number_from (i + 1) fs name ≡ Some n → n < i + 1 + length fs)
    → (if b then Some i else number_from (i + 1) fs name) ≡ Some n → n < i + suc (length fs)
below_by i f fs name n true later e = let same : i ≡ n = same_Some i n e in omega (arith, same)
below_by i f fs name n false later e = omega (arith, later e)

below : (i : ℕ) (fs : List Field) (name : Text) (n : ℕ) → number_from i fs name ≡ Some n → n < i + length fs
below i [] name n e = absurd (none-some n e)
below i (f ∷ fs) name n e = below_by i f fs name n (bytes_eq f.name name) (below (i + 1) fs name n) e

pub number_in : (fields : List Field) (name : Text) (n : ℕ) → number_of fields name ≡ Some n → is_number_of fields n ≡ true
number_in fields name n e =
    let lt : n < length fields = omega (arith, below 0 fields name n e) in
    search (rules, tests)

known_by : (fields : List Field) (name : Text) (o : Option ℕ) → number_of fields name ≡ o → is_known_number fields o ≡ true
known_by fields name None e = refl
known_by fields name (Some n) e = number_in fields name n e

pub number_known : (fields : List Field) (name : Text) → is_known_number fields (number_of fields name) ≡ true
number_known fields name = known_by fields name (number_of fields name) refl

-- ---- of distinct names each has its own number

pub both : (a b : Bool) → (a && b) ≡ true → (a ≡ true) × (b ≡ true)
both true b e = (refl, e)
both false b e = absurd (false≢true e)

not_true : (b : Bool) → not b ≡ true → b ≡ false
not_true true e = absurd (false≢true e)
not_true false e = refl

left_false : (a b : Bool) → (a || b) ≡ false → a ≡ false
left_false true b e = absurd (false≢true (sym e))
left_false false b e = refl

-- a field's name is none of those before
free : (before : List Text) (fs : List Field) (n : ℕ) (f : Field) → no_repeat before (map (λ g. g.name) fs) ≡ true → slice_get fs n ≡ Some f → is_among before f.name ≡ false
free before [] n f apart e = absurd (none-some f e)
free before (g ∷ gs) zero f apart e =
    subst (λ h. is_among before h.name ≡ false) (same_Some g f e) (not_true (is_among before g.name) (both (not (is_among before g.name)) _ apart).0)
free before (g ∷ gs) (suc n) f apart e =
    let rest = free (before ++ g.name ∷ []) gs n f (both (not (is_among before g.name)) _ apart).1 e in
    left_false (is_among before f.name) (list_any (λ n. bytes_eq n f.name) (g.name ∷ []))
    (sym (list_any-append (λ n. bytes_eq n f.name) before (g.name ∷ [])) ∙ rest)

right_false : (a b : Bool) → (a || b) ≡ false → b ≡ false
right_false true b e = absurd (false≢true (sym e))
right_false false b e = e

last_free : (name : Text) (before : List Text) (own : Text) → is_among (before ++ own ∷ []) name ≡ false → bytes_eq own name ≡ false
last_free name [] own e = left_false (bytes_eq own name) false e
last_free name (b ∷ before) own e = last_free name before own (right_false (bytes_eq b name) (is_among (before ++ own ∷ []) name) e)

number_at : (i : ℕ) (before : List Text) (fs : List Field) (n : ℕ) (f : Field) → no_repeat before (map (λ g. g.name) fs) ≡ true → slice_get fs n ≡ Some f → number_from i fs f.name ≡ Some (i + n)
number_at i before [] n f apart e = absurd (none-some f e)
number_at i before (g ∷ gs) zero f apart e =
    let same : bytes_eq g.name f.name ≡ true = (bytes_eq-Decides g.name f.name).1 (ap (λ h. h.name) (same_Some g f e)) in
    let end : i ≡ i + 0 = omega arith in
    ap (λ b. if b then Some i else number_from (i + 1) gs f.name) same ∙ ap Some end
number_at i before (g ∷ gs) (suc n) f apart e =
    let later = (both (not (is_among before g.name)) _ apart).1 in
    let other = last_free f.name before g.name (free (before ++ g.name ∷ []) gs n f later e) in
    let end : i + 1 + n ≡ i + suc n = omega arith in
    ap (λ b. if b then Some i else number_from (i + 1) gs f.name) other
    ∙ number_at (i + 1) (before ++ g.name ∷ []) gs n f later e ∙ ap Some end

pub number_own : (fields : List Field) (n : ℕ) (f : Field) → no_repeat [] (map (λ g. g.name) fields) ≡ true → slice_get fields n ≡ Some f → number_of fields f.name ≡ Some n
number_own fields n f apart e = let zero_plus : 0 + n ≡ n = omega arith in number_at 0 [] fields n f apart e ∙ ap Some zero_plus

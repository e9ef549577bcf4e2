-- Texts by their places, where more are kept.
use Rattle.std.proofs.Common.{◌≡◌, ◌∙◌, ◌<◌, ◌++◌, ◌∷◌, [], ℕ, List, length, get_or, slice_get, zero, suc, Bool, true, false, Result, Ok, Err, OnErr, Some, refl, ap, ap₂, sym, subst, arith, length-append}
use Rattle.std.specs.List.{All, Contains}
use Rattle.std.proofs.lemmas.List.{get_or_append_left, get_or_at, map-append}
use Rattle.std.proofs.lemmas.List.Elements.{All-append, All-head, All-push, All-tail, All-weaker}
use Rattle.std.specs.Str.{is_utf8}
use Rattle.std.specs.Prelude.{IsUtf8}
use Rattle.std.proofs.lemmas.Str.{IsUtf8-from_is_utf8}
use Rattle.data_types.specs.Texts.{texts_of, AreBelow, Placed, IsCoding}

pub below-more : (names more : List (List ℕ)) (ids : List ℕ) → AreBelow (length names) ids → AreBelow (length (names ++ more)) ids
below-more names more ids below = All-weaker (λ id. id < length names) (λ id. id < length (names ++ more)) (λ id lt. omega (arith, length-append names more, lt)) ids below

pub texts-more : (names more : List (List ℕ)) (ids : List ℕ) → AreBelow (length names) ids → texts_of (names ++ more) ids ≡ texts_of names ids
texts-more names more [] below = refl
texts-more names more (id ∷ ids) below =
    ap (λ t. t ∷ texts_of (names ++ more) ids) (get_or_append_left names more [] id (All-head (λ i. i < length names) id ids below))
    ∙ ap (λ ts. get_or names id [] ∷ ts) (texts-more names more ids (All-tail (λ i. i < length names) id ids below))

pub on-err : {T E : Type 0} (r : Result T E) (P : Type 0) → P → OnErr r P
on-err (Ok t) P p = tt
on-err (Err e) P p = p

place-at : (names : List (List ℕ)) (id : ℕ) (text : List ℕ) → slice_get names id ≡ Some text → (id < length names) × (get_or names id [] ≡ text)
place-at [] id text is = absurd cc
place-at (n ∷ ns) zero text is = (omega arith, cc)
place-at (n ∷ ns) (suc id) text is =
    let rest = place-at ns id text is in
    (omega (arith, rest.0), rest.1)

-- nothing was kept
pub same : (names names' : List (List ℕ)) (ids : List ℕ) (was : List (List ℕ)) → names' ≡ names → texts_of names ids ≡ was → texts_of names' ids ≡ was
same names names' ids was is view = ap (λ ns. texts_of ns ids) is ∙ view

pub same-coding : (names names' : List (List ℕ)) (ids : List ℕ) → names' ≡ names → IsCoding names ids → IsCoding names' ids
same-coding names names' ids is s = subst (λ ns. IsCoding ns ids) (sym is) s

within : (xs : List (List ℕ)) (x y : List ℕ) → Contains xs x → Contains (xs ++ y ∷ []) x
within xs x y (k, lt, is) = (k, omega (arith, length-append xs (y ∷ []), lt), get_or_append_left xs (y ∷ []) x k lt ∙ is)

last : (xs : List (List ℕ)) (y : List ℕ) → Contains (xs ++ y ∷ []) y
last xs y = (length xs, omega (arith, length-append xs (y ∷ [])), get_or_at xs y [] y (length xs) refl)

-- one more is at the end
module _ (names names' : List (List ℕ)) (ids ids' : List ℕ) (id : ℕ) (text : List ℕ) (s : IsCoding names ids) (p : Placed text id names names') (is : ids' ≡ ids ++ id ∷ []) where
  pub added : (was : List (List ℕ)) → texts_of names ids ≡ was → texts_of names' ids' ≡ was ++ text ∷ []
  added was view =
      ap (texts_of names') is ∙ map-append (λ i. get_or names' i []) ids (id ∷ [])
      ∙ ap₂ ◌++◌ (ap (λ ns. texts_of ns ids) p.new_is ∙ texts-more names p.more ids s.below ∙ view) (ap (λ t. t ∷ []) (place-at names' id text p.at).1)

  pub added-coding : IsCoding names' ids'
  added-coding =
      let view : texts_of names' ids' ≡ texts_of names ids ++ text ∷ [] = added (texts_of names ids) refl in
      let Used : List ℕ → Type 0 = λ name. Contains (texts_of names ids ++ text ∷ []) name in record {
        below = subst (AreBelow (length names')) (sym is) (All-push (λ i. i < length names') ids id (subst (λ ns. AreBelow (length ns) ids) (sym p.new_is) (below-more names p.more ids s.below)) (place-at names' id text p.at).0);
        used =
            subst (λ v. All (λ name. Contains v name) names') (sym view)
            (subst (All Used) (sym p.new_is)
            (All-append Used names p.more
            (All-weaker (λ name. Contains (texts_of names ids) name) Used (λ name c. within (texts_of names ids) name text c) names s.used)
            (All-weaker (λ other. other ≡ text) Used (λ other e. subst Used (sym e) (last (texts_of names ids) text)) p.more p.each)));
      }

not_utf8_by : (bytes : List ℕ) (b : Bool) → is_utf8 bytes ≡ b → (IsUtf8 bytes → ⊥) → is_utf8 bytes ≡ false
not_utf8_by bytes true e never = absurd (never (IsUtf8-from_is_utf8 bytes e))
not_utf8_by bytes false e never = e

pub not-utf8 : (bytes : List ℕ) → (IsUtf8 bytes → ⊥) → is_utf8 bytes ≡ false
not-utf8 bytes never = not_utf8_by bytes (is_utf8 bytes) refl never

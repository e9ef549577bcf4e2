-- No file is kept at the line that comes.
use Rattle.std.proofs.Common.{◌≡◌, ◌≢◌, ◌∙◌, ◌+◌, ◌<◌, ◌^◌, ◌++◌, ◌||◌, ℕ, Bool, true, false, List, [], ◌∷◌, Option, Some, None, refl, sym, ap, subst, arith, append_assoc, is_some}
use Rattle.std.specs.Prelude.{codes}
use Rattle.std.specs.FinMap as finite
use Rattle.std.specs.Fmt.{decimal}
use Rattle.std.specs.List.{AllByRecursion, list_any}
use Rattle.std.specs.Ordering.{eq_by_cmp}
use Rattle.std.specs.Str.Parse.{AllDigits}
use Rattle.std.proofs.lemmas.Bool.{false≢true}
use Rattle.std.proofs.lemmas.Fmt.{decimal_injective, decimal_is_IsNumeral}
use Rattle.std.proofs.lemmas.List.{append_cancel_right}
use Rattle.std.proofs.lemmas.Str.Parse.{digit_from_value}
use Rattle.outside.specs.Files.{Files, name_order}
use Rattle.table_schema.specs.declared.table.Table.{Table}
use Rattle.table_store.specs.Kept.{kept_name}
use Rattle.table_store.specs.State.{Texts}
use Rattle.cursor_serve.specs.Machine.{KeptList, Machine}
use Rattle.cursor_serve.specs.ServingStands.{OpenCursor, ServingStands}
use Rattle.cursor_serve.proofs.FetchLemmas.{tied}
use Rattle.serving.proofs.LeavingLemmas.{named_kept}
use Rattle.serve_lines.specs.Kept.{AreBefore}

-- digits have no dot
no_dot : (xs ds : List ℕ) → AllDigits 10 (xs ++ 46 ∷ ds) → ⊥
no_dot [] ds digits = absurd (omega (arith, digit_from_value 46 digits.0))
no_dot (x ∷ xs) ds digits = no_dot xs ds digits.1

tail_same : (x y : ℕ) (xs ys : List ℕ) → x ∷ xs ≡ y ∷ ys → xs ≡ ys
tail_same x y xs ys e = cc

-- what follows the last dot of one text follows it in an equal one
after_dot : (xs ys ds es : List ℕ) → AllDigits 10 ds → AllDigits 10 es → xs ++ 46 ∷ ds ≡ ys ++ 46 ∷ es → ds ≡ es
after_dot [] [] ds es p q e = tail_same 46 46 ds es e
after_dot [] (y ∷ ys) ds es p q e = absurd (no_dot ys es (subst (AllDigits 10) (tail_same 46 y ds (ys ++ 46 ∷ es) e) p))
after_dot (x ∷ xs) [] ds es p q e = absurd (no_dot xs ds (subst (AllDigits 10) (sym (tail_same x 46 (xs ++ 46 ∷ ds) es e)) q))
after_dot (x ∷ xs) (y ∷ ys) ds es p q e = after_dot xs ys ds es p q (tail_same x y (xs ++ 46 ∷ ds) (ys ++ 46 ∷ es) e)

grouped : (name : List ℕ) (line : ℕ) → kept_name name line ≡ (name ++ 46 ∷ decimal line) ++ codes ".kept"
grouped name line = ap (λ l. l ++ codes ".kept") (append_assoc name (codes ".") (decimal line))

-- kept files of one name are of one line
pub one_line : (name other : List ℕ) (line l : ℕ) → line < 2 ^ 64 → l < 2 ^ 64 → kept_name name line ≡ kept_name other l → line ≡ l
one_line name other line l p q e =
    decimal_injective line l p q
    (after_dot name other (decimal line) (decimal l) (decimal_is_IsNumeral line p).0.1 (decimal_is_IsNumeral l q).0.1
    (append_cancel_right (name ++ 46 ∷ decimal line) (other ++ 46 ∷ decimal l) (codes ".kept") (sym (grouped name line) ∙ e ∙ grouped other l)))

none_of : (name : List ℕ) (number : ℕ) (kept : List KeptList) → number < 2 ^ 64 → AllByRecursion (λ k. k.line < number) kept → list_any (λ k. eq_by_cmp name_order (kept_name name number) (kept_name k.listed.name k.line)) kept ≡ false
none_of name number [] small all = refl
none_of name number (k ∷ kept) small all = by (eq_by_cmp name_order (kept_name name number) (kept_name k.listed.name k.line)) refl (none_of name number kept small all.1)
  where
    apart : kept_name name number ≡ kept_name k.listed.name k.line → ⊥
    apart e =
        let below = all.0 in
        let same = one_line name k.listed.name number k.line small (omega (arith, below, small)) e in
        omega (arith, same, below)

    by : (b : Bool) → eq_by_cmp name_order (kept_name name number) (kept_name k.listed.name k.line) ≡ b → list_any (λ k. eq_by_cmp name_order (kept_name name number) (kept_name k.listed.name k.line)) kept ≡ false → (b || list_any (λ k. eq_by_cmp name_order (kept_name name number) (kept_name k.listed.name k.line)) kept) ≡ false
    by true is rest = absurd (apart (tied (kept_name name number) (kept_name k.listed.name k.line) is))
    by false is rest = rest

none_some : (o : Option (List ℕ)) → is_some o ≡ false → o ≡ None
none_some None is = refl
none_some (Some x) is = absurd cc

-- no file has the name of one that is kept at this line
pub kept_lacks : (number : ℕ) (name : List ℕ) (serving : List OpenCursor) (files : Files) (texts : Texts) (table : Table) (m : Machine) → number < 2 ^ 64 → ServingStands serving files texts table m → AreBefore number m → finite.get files (kept_name name number) ≡ None
kept_lacks number name serving files texts table m small stands all =
    none_some (finite.get files (kept_name name number))
    (stands.kept (kept_name name number) (named_kept name number) ∙ none_of name number m.kept small all)
